use Rattle.std.proofs.Common.{◌≡◌, ℕ, sym, subst}
use Rattle.merge_core.specs.Seats.{inside_of}
use Rattle.merge_core.specs.Book.{seats_at}
use Rattle.admission_model.specs.Account.{inside}
use Rattle.admission_model.proofs.BookLemmas.{inside_there}
use Rattle.admission_core.proofs.CoreLemmas.{has_book}
use Rattle.live_site.proofs.live_site.LiveSite.core.Goals as goal

pub returns-clause-inside : goal.returns-clause-inside
returns-clause-inside g c = λ a stands r below.
    let core = c.args.self.now.core in
    subst (λ (i : ℕ). inside_of (seats_at core.book r) i ≡ inside a r) (sym stands.shows.site) (inside_there a core.book (has_book a core stands) r below)
