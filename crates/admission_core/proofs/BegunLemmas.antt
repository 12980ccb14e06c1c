-- What a core stands for at its start, after a restart, and after a delta.
use Rattle.std.proofs.Common.{◌≡◌, ℕ, ◌<◌, ◌⊎◌, inl, inr, ◌↔◌, IsTrue, Bool, cond, List, [], ◌∷◌, refl, sym, ap, ◌∙◌, arith}
use Rattle.std.proofs.lemmas.Bool.{cases_eq}
use Rattle.merge_core.specs.declared.cell.Cell.{Cell}
use Rattle.merge_core.specs.Delta.{DeltaState}
use Rattle.merge_core.specs.Layout.{LayoutState, Shape, shape_of}
use Rattle.merge_core.specs.Rows.{start_counter}
use Rattle.merge_core.specs.Moved.{all_moved}
use Rattle.merge_core.specs.Book.{IsBook, book_shape, counter_of}
use Rattle.merge_core.specs.Changes.{KeepsOwn, keeps_counter}
use Rattle.session_list.specs.declared.session.Session.{Session}
use Rattle.session_list.specs.Sessions.{phase_in}
use Rattle.admission_model.specs.Account.{Account, begin, start_origin}
use Rattle.admission_model.specs.Knowledge.{known, restarted}
use Rattle.admission_model.specs.View.{view_of}
use Rattle.admission_model.specs.Merging.{snapshot_of}
use Rattle.admission_model.specs.Serving.{Restarts}
use Rattle.admission_model.proofs.CounterLemmas.{known_own}
use Rattle.admission_model.proofs.StandsLemmas.{known_again}
use Rattle.admission_model.proofs.StartLemmas.{sound_start}
use Rattle.admission_core.specs.Core.{Core, core_view, Stands}
use Rattle.admission_core.proofs.CoreLemmas.{shows_account, stands_from}

-- what is known at the start
known_begun : (layout : LayoutState) (i r s : ℕ) (cell : Cell) → known (begin (start_origin layout i)) r s cell ≡ start_counter (shape_of layout) r s cell
known_begun layout i r s cell = at (cases_eq s i)
  where
    at : (s ≡ i) ⊎ (s ≡ i → ⊥) → known (begin (start_origin layout i)) r s cell ≡ start_counter (shape_of layout) r s cell
    at (inl e) = ap (λ (x : ℕ). known (begin (start_origin layout i)) r x cell) e ∙ (known_own (begin (start_origin layout i)) r cell ∙ sym (ap (λ (x : ℕ). start_counter (shape_of layout) r x cell) e))
    at (inr ne) = grind arith

-- the core of the start
pub stands_begun : (layout : LayoutState) (c : Core) → c.site < layout.sites → c.layout ≡ layout → IsBook c.book → book_shape c.book ≡ shape_of layout → c.sessions ≡ [] → ((r s : ℕ) (cell : Cell) → counter_of c.book r s cell ≡ start_counter (shape_of layout) r s cell) → Stands (begin (start_origin layout c.site)) c
stands_begun layout c below same book shape none counters =
    stands_from (begin (start_origin layout c.site)) c
    record { from = start_origin layout c.site; may_begin = sound_start layout c.site below; steps = []; reached = refl }
    book
    (ap shape_of same ∙ sym shape)
    record {
      layout = same;
      site = refl;
      phases = λ r h. ap (λ (ss : List Session). phase_in ss r h) none;
      order_kept = none;
      counters = λ r s cell. counters r s cell ∙ sym (known_begun layout c.site r s cell);
    }

-- the core after a restart
pub stands_restarted : (a : Account) (c d : Core) → Stands a c → d.layout ≡ c.layout → d.site ≡ c.site → d.sessions ≡ c.sessions → IsBook d.book → KeepsOwn c.site c.book d.book → Stands (restarted a) d
stands_restarted a c d is layout site sessions book keeps =
    stands_from (restarted a) d
    record {
      from = is.reached.from;
      may_begin = is.reached.may_begin;
      steps = Restarts ∷ is.reached.steps;
      reached = ap restarted is.reached.reached;
    }
    book
    (ap shape_of layout ∙ (is.shape ∙ sym keeps.shape))
    record {
      layout = layout ∙ is.shows.layout;
      site = site ∙ is.shows.site;
      phases = λ r h. ap (λ (ss : List Session). phase_in ss r h) sessions ∙ is.shows.phases r h;
      order_kept = sessions ∙ is.shows.order_kept;
      counters = counters;
    }
  where
    start : (r s : ℕ) (cell : Cell) → start_counter (book_shape c.book) r s cell ≡ start_counter (shape_of a.origin.layout) r s cell
    start r s cell =
        ap (λ (shape : Shape). start_counter shape r s cell) (sym is.shape)
        ∙ ap (λ (l : LayoutState). start_counter (shape_of l) r s cell) is.shows.layout

    counters : (r s : ℕ) (cell : Cell) → counter_of d.book r s cell ≡ known (restarted a) r s cell
    counters r s cell =
        keeps.counters r s cell
        ∙ (ap (λ (i : ℕ). cond (keeps_counter i s cell) (counter_of c.book r s cell) (start_counter (book_shape c.book) r s cell)) is.shows.site
        ∙ (ap (λ (n : ℕ). cond (keeps_counter a.origin.site s cell) n (start_counter (book_shape c.book) r s cell)) (is.shows.counters r s cell)
        ∙ (ap (λ (n : ℕ). cond (keeps_counter a.origin.site s cell) (known a r s cell) n) (start r s cell)
        ∙ sym (known_again a a.sites r s cell))))

-- what the core tells is what the account tells
pub tells : (a : Account) (c : Core) → Stands a c → (d : DeltaState) → d.from ≡ c.site → d.rows ≡ all_moved (book_shape c.book) (counter_of c.book) → d ≡ snapshot_of (view_of a)
tells a c is d from rows = own_rows ∙ ap snapshot_of (shows_account a c is)
  where
    own_rows : d ≡ snapshot_of (core_view c)
    own_rows = λ i. record { from = from i; rows = (rows ∙ ap (λ (shape : Shape). all_moved shape (counter_of c.book)) (sym is.shape)) i }

-- a delta is what the account tells where it is what the core tells
pub tells_this : (a : Account) (c : Core) → Stands a c → (d : DeltaState) (told : Bool) → IsTrue told ↔ (d ≡ record { from = c.site; rows = all_moved (book_shape c.book) (counter_of c.book) }) → IsTrue told ↔ (d ≡ snapshot_of (view_of a))
tells_this a c is d told test =
    let own : DeltaState = record { from = c.site; rows = all_moved (book_shape c.book) (counter_of c.book) } in
    let same : own ≡ snapshot_of (view_of a) = tells a c is own refl refl in
    (λ yes. test.0 yes ∙ same, λ this. test.1 (this ∙ sym same))
