-- Where a view shows a book, the model's rights and its least unfinished writer are the book's own.
use Rattle.std.proofs.Common.{◌≡◌, ◌↔◌, ℕ, ◌<◌, ◌≤◌, ◌⊎◌, inl, inr, true, false, eqb, List, [], length, get_or, set, sum, sum_by, Option, Some, None, refl, sym, ap, ◌∙◌, arith}
use Rattle.std.specs.Prelude.{◌==◌, if◌then◌else◌}
use Rattle.std.proofs.lemmas.List.{get_or_past, get_or-map, length-map}
use Rattle.std.proofs.lemmas.Bool.{cases_lt, cases_Bool, cond-true, eq-eqb, ltb-true, lt-ltb, false≢true}
use Rattle.merge_core.specs.Matrix.{spent as matrix_spent, grant as matrix_grant}
use Rattle.merge_core.specs.Seats.{taken_at, inside_of, seat_rights, HasSeatRights}
use Rattle.merge_core.specs.Notices.{open_count, IsOpen, IsLeastOpen}
use Rattle.merge_core.specs.declared.cell.Cell.TheVariants.{Out, Taken, Ann, Fin}
use Rattle.merge_core.specs.Layout.{Shape, RecordShape, shape_of, record_shape}
use Rattle.merge_core.specs.Rows.{grant as shape_grant, no_record}
use Rattle.merge_core.specs.Book.{BookState, nothing_known, record_at, seats_at, notices_at, counter_of, shape_in, book_shape, IsRecord, IsBook}
use Rattle.merge_core.specs.Sums.{total, total_others}
use Rattle.session_list.specs.declared.session.Phase.{Phase}
use Rattle.admission_model.specs.Account.{Account, phase_of, arrivals, inside, writers, writers_here, on_phase}
use Rattle.admission_model.proofs.SessionLemmas.{adds, sessions-keys, keys_member}
use Rattle.admission_model.proofs.CounterLemmas.{known_own}
use Rattle.admission_model.proofs.LawLemmas.{sound_reached}
use Rattle.admission_model.specs.View.{View, view_of, spent, gained, rights_of, shows_writer, first_unfinished}
use Rattle.admission_model.specs.Books.{ShowsBook, HasBook}
use Rattle.merge_core.proofs.SumLemmas.{total_same, total_others_same}
use Rattle.admission_model.proofs.LeastLemmas.{IsLeast, least_below-none, least_below-some, least_below-found}
use Rattle.merge_core.proofs.ListSumLemmas.{total-list, total_others-list}

-- the layout of a view that shows a book has as many sites as the book ..
pub layout_sites : (b : BookState) (v : View) → ShowsBook b v → v.layout.sites ≡ b.sites
layout_sites b v shows = ap (λ (shape : Shape). shape.sites) shows.shape

-- .. and as many records
pub layout_records : (b : BookState) (v : View) → ShowsBook b v → length v.layout.records ≡ length b.records
layout_records b v shows =
    let same : length (shape_of v.layout).records ≡ length (book_shape b).records = ap (λ (shape : Shape). length shape.records) shows.shape in
    omega (arith, same, length-map v.layout.records record_shape, length-map b.records shape_in)

-- what the view's site gained
gained_in : (b : BookState) (v : View) (r : ℕ) → IsBook b → ShowsBook b v → r < length b.records → gained v r ≡ sum_by (λ (row : List ℕ). get_or row v.site 0) (seats_at b r).matrix.rows
gained_in b v r book shows inside =
    total_same v.layout.sites (λ j. v.counter r j (Out v.site)) (λ j. counter_of b r j (Out v.site)) (λ j below. shows.counters r j (Out v.site))
    ∙ (ap (λ n. total n (λ j. counter_of b r j (Out v.site))) (layout_sites b v shows ∙ sym is.seat_sites)
    ∙ total-list (λ (row : List ℕ). get_or row v.site 0) [] (seats_at b r).matrix.rows)
  where
    is : IsRecord b.sites (record_at b r)
    is = book.records r inside

-- what the view's site gave away
given_in : (b : BookState) (v : View) (r : ℕ) → IsBook b → ShowsBook b v → r < length b.records → v.site < b.sites → total_others v.layout.sites v.site (λ j. v.counter r v.site (Out j)) ≡ sum (set (get_or (seats_at b r).matrix.rows v.site []) v.site 0)
given_in b v r book shows inside here =
    total_others_same v.layout.sites v.site (λ j. v.counter r v.site (Out j)) (λ j. get_or row j 0) (λ j below apart. shows.counters r v.site (Out j))
    ∙ (ap (λ n. total_others n v.site (λ j. get_or row j 0)) (layout_sites b v shows ∙ sym size)
    ∙ total_others-list row v.site (omega (arith, size)))
  where
    is : IsRecord b.sites (record_at b r)
    is = book.records r inside

    row : List ℕ
    row = get_or (seats_at b r).matrix.rows v.site []

    size : length row ≡ b.sites
    size = is.seats.matrix.square v.site (omega (arith, is.seat_sites)) ∙ is.seat_sites

-- the rights of the view's site are the book's
pub rights_in : (b : BookState) (v : View) (r : ℕ) → IsBook b → ShowsBook b v → r < length b.records → v.site < b.sites → rights_of v r ≡ seat_rights (seats_at b r) v.site
rights_in b v r book shows inside here =
    omega (arith, gained_in b v r book shows inside, given_in b v r book shows inside here, shows.counters r v.site Taken)

-- the model's test of a writer, by the notices
open_from : (b : BookState) (v : View) (r s : ℕ) → ShowsBook b v → shows_writer v r s ≡ true → IsOpen (notices_at b r) s
open_from b v r s shows e =
    omega (arith, ltb-true (v.counter r s Fin) (v.counter r s Ann) e, shows.counters r s Fin, shows.counters r s Ann)

shown_from : (b : BookState) (v : View) (r s : ℕ) → ShowsBook b v → IsOpen (notices_at b r) s → shows_writer v r s ≡ true
shown_from b v r s shows open_here =
    lt-ltb (v.counter r s Fin) (v.counter r s Ann) (omega (arith, open_here, shows.counters r s Fin, shows.counters r s Ann))

-- a site with an unfinished writer is one of the book's
open_there : (b : BookState) (r s : ℕ) → IsBook b → r < length b.records → IsOpen (notices_at b r) s → s < b.sites
open_there b r s book inside open_here = at (cases_lt s b.sites)
  where
    at : (s < b.sites) ⊎ (b.sites ≤ s) → s < b.sites
    at (inl below) = below
    at (inr past) =
        absurd (omega (arith, open_here, (book.records r inside).notice_sites, get_or_past (notices_at b r).announced s 0 (omega (arith, (book.records r inside).notice_sites))))

-- the least unfinished writer of the view is the book's
pub writers_in : (b : BookState) (v : View) (r s : ℕ) → IsBook b → ShowsBook b v → r < length b.records → (first_unfinished v r ≡ Some s) ↔ IsLeastOpen (notices_at b r) s
writers_in b v r s book shows inside = (
  (λ e. found (least_below-some v.layout.sites (shows_writer v r) s e)),
  (λ is. least_below-found v.layout.sites (shows_writer v r) s (record {
    below = omega (arith, layout_sites b v shows, open_there b r s book inside is.has_writer);
    passes = shown_from b v r s shows is.has_writer;
    least = λ j lower. closed is j lower (cases_Bool (shows_writer v r j));
  })),
)
  where
    found : IsLeast v.layout.sites (shows_writer v r) s → IsLeastOpen (notices_at b r) s
    found is = record { has_writer = open_from b v r s shows is.passes; least = λ t open_here. at t open_here (cases_lt t s) }
      where
        at : (t : ℕ) → IsOpen (notices_at b r) t → (t < s) ⊎ (s ≤ t) → s ≤ t
        at t open_here (inl lower) = absurd (false≢true (sym (is.least t lower) ∙ shown_from b v r t shows open_here))
        at t open_here (inr upper) = upper

    closed : IsLeastOpen (notices_at b r) s → (j : ℕ) → j < s → (shows_writer v r j ≡ true) ⊎ (shows_writer v r j ≡ false) → shows_writer v r j ≡ false
    closed is j lower (inl e) = absurd (omega (arith, is.least j (open_from b v r j shows e)))
    closed is j lower (inr e) = e

-- the view has none where no site of the book has one
pub no_writers_in : (b : BookState) (v : View) (r : ℕ) → IsBook b → ShowsBook b v → r < length b.records → (first_unfinished v r ≡ None) ↔ ((s : ℕ) → ¬ IsOpen (notices_at b r) s)
no_writers_in b v r book shows inside = (
  (λ none s open_here.
      let gone = least_below-none v.layout.sites (shows_writer v r) none s (omega (arith, layout_sites b v shows, open_there b r s book inside open_here)) in
      false≢true (sym gone ∙ shown_from b v r s shows open_here)),
  (λ none. at none (first_unfinished v r) refl),
)
  where
    at : ((s : ℕ) → ¬ IsOpen (notices_at b r) s) → (o : Option ℕ) → first_unfinished v r ≡ o → first_unfinished v r ≡ None
    at none None e = e
    at none (Some s) e = absurd (none s (open_from b v r s shows (least_below-some v.layout.sites (shows_writer v r) s e).passes))

-- the spent and the gained seats of the view's site are the book's
spent_in : (b : BookState) (v : View) (r : ℕ) → IsBook b → ShowsBook b v → r < length b.records → v.site < b.sites → spent v r ≡ matrix_spent (seats_at b r).matrix v.site (taken_at (seats_at b r) v.site)
spent_in b v r book shows inside here =
    omega (arith, given_in b v r book shows inside here, shows.counters r v.site Taken)

-- the grant of a record's home
grant_in : (b : BookState) (v : View) (r s : ℕ) → ShowsBook b v → r < length b.records → shape_grant (shape_of v.layout) r s ≡ matrix_grant (seats_at b r).matrix s
grant_in b v r s shows inside =
    ap (λ (shape : Shape). shape_grant shape r s) shows.shape
    ∙ ap (λ (it : RecordShape). if s == it.home then it.seats else 0) (get_or-map shape_in b.records r nothing_known no_record inside)

-- the rights of a reached account are no negative number in its book
pub rights_there : (a : Account) (b : BookState) → HasBook a b → (r : ℕ) → r < length b.records → HasSeatRights (seats_at b r) a.origin.site
rights_there a b it r inside =
    let sound = sound_reached a it.reached in
    let here : a.origin.site < b.sites = omega (arith, sound.site_there, layout_sites b (view_of a) it.shows) in
    omega (
      arith,
      (sound.balanced r).affordable,
      gained_in b (view_of a) r it.is_book it.shows inside,
      spent_in b (view_of a) r it.is_book it.shows inside here,
    )

-- the seats inside are the book's
pub inside_there : (a : Account) (b : BookState) → HasBook a b → (r : ℕ) → r < length b.records → inside_of (seats_at b r) a.origin.site ≡ inside a r
inside_there a b it r within =
    let sound = sound_reached a it.reached in
    omega (
      arith,
      (sound.balanced r).seats,
      (sound.balanced r).fits.grant_kept,
      known_own a r Taken,
      known_own a r (Out a.origin.site),
      it.shows.counters r a.origin.site Taken,
      it.shows.counters r a.origin.site (Out a.origin.site),
      grant_in b (view_of a) r a.origin.site it.shows within,
    )

-- the open writers are the book's
pub open_here : (a : Account) (b : BookState) → HasBook a b → (r : ℕ) → r < length b.records → open_count (notices_at b r) a.origin.site ≡ writers_here a r
open_here a b it r within =
    let sound = sound_reached a it.reached in
    omega (
      arith,
      (sound.balanced r).writers,
      known_own a r Ann,
      known_own a r Fin,
      it.shows.counters r a.origin.site Ann,
      it.shows.counters r a.origin.site Fin,
    )

-- a writer who waits or writes is open in the book
pub open_session : (a : Account) (b : BookState) → HasBook a b → (r h : ℕ) (p : Phase) → r < length b.records → phase_of a r h ≡ Some p → 1 ≤ writers p → IsOpen (notices_at b r) a.origin.site
open_session a b it r h p within there writes =
    let sound = sound_reached a it.reached in
    let f = adds writers r (phase_of a) in
    let here : f r h ≡ writers p = cond-true (eqb r r) (on_phase writers (phase_of a r h)) 0 (eq-eqb r r refl) ∙ ap (on_phase writers) there in
    omega (
      arith,
      sessions-keys writers r (phase_of a) (arrivals a.origin a.done),
      keys_member r h f (arrivals a.origin a.done) (sound.listed_once r h p there),
      open_here a b it r within,
    )
