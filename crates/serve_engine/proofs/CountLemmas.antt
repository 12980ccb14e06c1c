-- What a core shows of a record.
use Rattle.std.proofs.Common.{◌≡◌, ℕ, ◌<◌, length, sym, ap, subst, ◌∙◌, arith}
use Rattle.merge_core.specs.Book.{seats_at, notices_at}
use Rattle.merge_core.specs.Seats.{inside_of, seat_rights}
use Rattle.merge_core.specs.Notices.{open_count}
use Rattle.admission_model.specs.Account.{Account, inside, writers_here}
use Rattle.admission_model.specs.View.{View, view_of, rights_of}
use Rattle.admission_model.proofs.BookLemmas.{inside_there, open_here}
use Rattle.admission_core.specs.Core.{Core, IsCore, Stands}
use Rattle.admission_core.proofs.CoreLemmas.{has_book, rights_shown, shows_account}

pub rights_told : (c : Core) → IsCore c → (r : ℕ) → r < length c.layout.records → (a : Account) → Stands a c
    → seat_rights (seats_at c.book r) c.site ≡ rights_of (view_of a) r
rights_told c is r there a stands = sym (rights_shown c is r there) ∙ ap (λ (v : View). rights_of v r) (shows_account a c stands)

pub inside_told : (c : Core) → IsCore c → (r : ℕ) → r < length c.layout.records → (a : Account) → Stands a c
    → inside_of (seats_at c.book r) c.site ≡ inside a r
inside_told c is r there a stands =
    subst (λ (i : ℕ). inside_of (seats_at c.book r) i ≡ inside a r) (sym stands.shows.site)
    (inside_there a c.book (has_book a c stands) r (omega (arith, is.records, there)))

pub unfinished_told : (c : Core) → IsCore c → (r : ℕ) → r < length c.layout.records → (a : Account) → Stands a c
    → open_count (notices_at c.book r) c.site ≡ writers_here a r
unfinished_told c is r there a stands =
    subst (λ (i : ℕ). open_count (notices_at c.book r) i ≡ writers_here a r) (sym stands.shows.site)
    (open_here a c.book (has_book a c stands) r (omega (arith, is.records, there)))
