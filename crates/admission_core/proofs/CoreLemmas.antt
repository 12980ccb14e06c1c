-- What a core has because it stands for an account.
use Rattle.std.proofs.Common.{◌≡◌, ℕ, ◌<◌, List, length, Some, None, refl, sym, ap, subst, ◌∙◌, arith}
use Rattle.std.specs.Prelude.{◌↔◌, IfOk, Result, Ok, Err}
use Rattle.merge_core.specs.Layout.{LayoutState, IsLayout, shape_of}
use Rattle.merge_core.specs.Rows.{start_counter}
use Rattle.merge_core.specs.Naming.{ReachesUnit}
use Rattle.admission_model.specs.declared.durable.DurableCell.{DurableCell}
use Rattle.admission_model.specs.Durable.{at_slot, places, kept_cells, durable_cells}
use Rattle.admission_core.specs.Kept.{DurableState, durable_of}
use Rattle.merge_core.specs.Book.{IsBook, book_shape, seats_at, notices_at}
use Rattle.merge_core.specs.Seats.{seat_rights, HasSeatRights}
use Rattle.writer_notices.specs.Notices.{IsOpen, IsLeastOpen}
use Rattle.admission_model.specs.Account.{Account, layout_of}
use Rattle.admission_model.specs.declared.reply.Plan.{Plan}
use Rattle.admission_model.specs.View.{View, view_of, rights_of, first_unfinished, plan_of}
use Rattle.admission_model.specs.Books.{ShowsBook, HasBook}
use Rattle.admission_model.specs.Knowledge.{SourceNames}
use Rattle.admission_model.specs.Reached.{IsReached}
use Rattle.admission_model.specs.Laws.{StandsFor}
use Rattle.admission_model.proofs.LawLemmas.{sound_reached, units}
use Rattle.admission_model.proofs.LeastLemmas.{plan_of-fits}
use Rattle.admission_model.proofs.StandsLemmas.{same_view}
use Rattle.admission_model.proofs.BookLemmas.{layout_sites, layout_records, rights_there, rights_in, writers_in, no_writers_in}
use Rattle.admission_core.specs.Core.{Core, core_view, Stands, IsCore}

-- A core with the account's layout, number, sessions and counters stands for the account: its book names what the
-- account knows, since known counters count units.
pub stands_from : (a : Account) (c : Core) → IsReached a → IsBook c.book → shape_of c.layout ≡ book_shape c.book → StandsFor (core_view c) c.sessions a → Stands a c
stands_from a c reached book shape shows = record {
  reached = reached;
  book = book;
  shape = shape;
  shows = shows;
  names = λ r s cell k. subst (λ (n : ℕ). ReachesUnit n k ↔ SourceNames a r s cell k) (sym (shows.counters r s cell)) (units a reached r s cell k);
}

-- the core shows the account's view
pub shows_account : (a : Account) (c : Core) → Stands a c → core_view c ≡ view_of a
shows_account a c is = same_view (core_view c) c.sessions a is.shows

-- the core's view shows its book
pub shows_book : (a : Account) (c : Core) → Stands a c → ShowsBook c.book (core_view c)
shows_book a c is = record { shape = is.shape; counters = λ r s cell. refl }

-- the book shows what the account knows
pub has_book : (a : Account) (c : Core) → Stands a c → HasBook a c.book
has_book a c is = record {
  reached = is.reached;
  is_book = is.book;
  shows = record {
    shape = ap shape_of (sym is.shows.layout) ∙ is.shape;
    counters = λ r s cell. sym (is.shows.counters r s cell);
  };
}

-- a layout and an account make a core
pub is_core : (c : Core) → IsLayout c.layout → (a : Account) → Stands a c → IsCore c
is_core c layout a is = record {
  layout = layout;
  site_there = here;
  sites = sym (layout_sites c.book (core_view c) shows);
  records = records;
  enough = λ r below. subst (λ (i : ℕ). HasSeatRights (seats_at c.book r) i) (sym is.shows.site)
      (rights_there a c.book (has_book a c is) r (omega (arith, records)));
  account = a;
  stands = is;
}
  where
    shows : ShowsBook c.book (core_view c)
    shows = shows_book a c is

    records : length c.book.records ≡ length c.layout.records
    records = sym (layout_records c.book (core_view c) shows)

    here : c.site < c.layout.sites
    here =
        let sites : c.layout.sites ≡ (layout_of a).sites = ap (λ (l : LayoutState). l.sites) is.shows.layout in
        omega (arith, (sound_reached a is.reached).site_there, is.shows.site, sites)

-- the model's rights are the book's
pub rights_shown : (c : Core) → IsCore c → (r : ℕ) → r < length c.layout.records → rights_of (core_view c) r ≡ seat_rights (seats_at c.book r) c.site
rights_shown c is r below =
    rights_in c.book (core_view c) r is.stands.book (shows_book is.account c is.stands) (omega (arith, is.records)) (omega (arith, is.site_there, is.sites))

-- the model's least unfinished writer is the book's
pub writer_shown : (c : Core) → IsCore c → (r s : ℕ) → r < length c.layout.records → (first_unfinished (core_view c) r ≡ Some s) ↔ IsLeastOpen (notices_at c.book r) s
writer_shown c is r s below =
    writers_in c.book (core_view c) r s is.stands.book (shows_book is.account c is.stands) (omega (arith, is.records))

pub no_writer_shown : (c : Core) → IsCore c → (r : ℕ) → r < length c.layout.records → (first_unfinished (core_view c) r ≡ None) ↔ ((s : ℕ) → ¬ IsOpen (notices_at c.book r) s)
no_writer_shown c is r below =
    no_writers_in c.book (core_view c) r is.stands.book (shows_book is.account c is.stands) (omega (arith, is.records))

-- what two facts of a result's value give
pub both_ok : {X E : Type 0} {P Q R : X → Type 0} → ((x : X) → P x → Q x → R x) → (r : Result X E) → IfOk r P → IfOk r Q → IfOk r R
both_ok both (Ok x) p q = both x p q
both_ok both (Err e) p q = tt

-- a plan sends seats to a site of the layout
pub plan_there : (c : Core) (r : ℕ) (p : Plan) → c.site < c.layout.sites → plan_of (core_view c) r ≡ Some p → p.to < c.layout.sites
plan_there c r p here is = (plan_of-fits (core_view c) r p here is).there

-- the cells that have left their start, by a view
abbrev view_cells : View → List DurableCell
view_cells v = kept_cells (at_slot v.layout.sites v.site (start_counter (shape_of v.layout))) (at_slot v.layout.sites v.site v.counter) (places v.layout)

-- the core's are the account's
pub cells_told : (a : Account) (c : Core) → Stands a c → view_cells (core_view c) ≡ durable_cells a
cells_told a c is = ap view_cells (shows_account a c is)

-- what the core keeps is what the account keeps
pub durable_told : (a : Account) (c : Core) → Stands a c → (d : DurableState) → d.cells ≡ view_cells (core_view c) → d.sessions ≡ c.sessions → d ≡ durable_of a
durable_told a c is d cells sessions = λ i. record { cells = (cells ∙ cells_told a c is) i; sessions = (sessions ∙ is.shows.order_kept) i }
