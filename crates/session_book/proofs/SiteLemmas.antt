-- A site that was opened, and one that is closed.
use Rattle.std.proofs.Common.{◌≡◌, ◌≢◌, ℕ, Bool, true, false, List, [], ◌∷◌, length, refl, sym, ap, subst, ◌∙◌, arith}
use Rattle.std.specs.Prelude.{All, IsTrue, ◌↔◌}
use Rattle.merge_core.specs.Layout.{LayoutState, IsLayout}
use Rattle.admission_model.specs.Account.{Account}
use Rattle.admission_model.specs.Restoring.{AreCells, AreSessions}
use Rattle.admission_core.specs.Kept.{DurableState}
use Rattle.durable_keeper.specs.declared.keeper.Keeper.{Ghosts}
use Rattle.desk_log.specs.declared.entry.Entry.{Entry}
use Rattle.desk_log.specs.declared.transcript.Run.{Run}
use Rattle.desk_log.specs.Log.{begun, account_after, account_tried, ends_in_fault, IsLegal}
use Rattle.desk_log.specs.Desk.{DeskState, IsFresh, IsMadeFor, Leaves, first_account}
use Rattle.session_book.specs.declared.error.CloseError.{CloseError}
use Rattle.session_book.specs.declared.error.CloseError.TheVariants.{PassMissing, Mismatch, Memory}
use Rattle.session_book.specs.Passes.{PassState, receipts_in}
use Rattle.session_book.specs.Sites.{SiteState, IsSite, IsNewSite, IsSameOpening, IsDeskAstray, IsRunOf, KeepsOf, AreAll, BearsOut, IsClosed, IsCloseFault}

-- the site of a desk that was opened
pub new_site : {K : Type 0} (g : Ghosts K) (keeper : K) (layout : LayoutState) (i passes limit : ℕ) (d : DeskState K) (l : LayoutState) (first : DurableState) → IsFresh g keeper layout i limit d → l ≡ d.core.layout → first ≡ d.log.first → IsNewSite g keeper layout i passes limit (record { layout = l; site = i; first = first; limit = limit; passes = passes })
new_site g keeper layout i passes limit d l first fresh same_layout same_first =
    subst (λ (x : DurableState). IsNewSite g keeper layout i passes limit (record { layout = l; site = i; first = x; limit = limit; passes = passes })) (sym same_first)
    record {
      of_layout = same_layout ∙ fresh.of_layout;
      of_site = refl;
      places = refl;
      as_many = refl;
      cells = fresh.cells;
      sessions = fresh.sessions;
      loaded = d.keeper;
      keeps_on = fresh.keeps_on;
      found = fresh.found;
    }

-- what a crash leaves of an equal account and equal entries
leaves_of : {K : Type 0} (g : Ghosts K) (k : K) (a b : Account) (es fs : List Entry) → a ≡ b → es ≡ fs → Leaves g (ends_in_fault false es) k (account_after a es) (account_tried a es) → Leaves g (ends_in_fault false fs) k (account_after b fs) (account_tried b fs)
leaves_of g k a b es fs same_account same_entries leaves =
    subst (λ (xs : List Entry). Leaves g (ends_in_fault false xs) k (account_after b xs) (account_tried b xs)) same_entries
    (subst (λ (x : Account). Leaves g (ends_in_fault false es) k (account_after x es) (account_tried x es)) same_account leaves)

-- the run of a site whose desk is that of its opening, and the keeper that the desk gives back
pub closed : {K : Type 0} (g : Ghosts K) (was_kept : DurableState → Type 0) (parts : ℕ) (s : SiteState) → IsSite parts s → (ps : List PassState) (d : DeskState K) (run : Run) (k : K) → IsSameOpening d s.layout s.site s.first s.limit → All (BearsOut s.limit d.log.entries) ps → AreAll s.passes ps → IsRunOf d ps run → IsMadeFor g k d.core.layout d.core.site → KeepsOf g was_kept d k → IsClosed g was_kept s ps (record { site = s.site; runs = run ∷ [] }) k
closed g was_kept parts s site ps d run k opening each all is made keeps = record {
  of_site = refl;
  run = run;
  one_run = refl;
  sites = is.sites ∙ ap (λ (l : LayoutState). l.sites) opening.of_layout;
  began = is.began ∙ opening.began;
  cells = subst (λ (e : DurableState). AreCells s.layout s.site e.cells) (sym (is.began ∙ opening.began)) site.cells;
  sessions = subst (λ (e : DurableState). AreSessions s.layout s.site e.cells e.sessions) (sym (is.began ∙ opening.began)) site.sessions;
  legal = subst (λ (es : List Entry). IsLegal (begun s.layout s.site s.first) es) (sym is.has_entries)
      (subst (λ (a : Account). IsLegal a d.log.entries) (λ k. begun (opening.of_layout k) (opening.of_site k) (opening.began k)) is.legal);
  within = omega (arith, ap length is.has_entries, is.within, opening.places);
  all = all;
  count = ap length is.has_entries ∙ is.count;
  each = subst (λ (es : List Entry). All (BearsOut s.limit es) ps) (sym is.has_entries) each;
  made_for = record { for_layout = made.for_layout ∙ opening.of_layout; for_site = made.for_site ∙ opening.of_site };
  kept = λ was. leaves_of g k (first_account d) (begun s.layout s.site s.first) d.log.entries run.entries
      (λ i. begun (opening.of_layout i) (opening.of_site i) (opening.began i)) (sym is.has_entries)
      (keeps.kept (subst was_kept (sym opening.began) was));
  found = λ e was honest. sym opening.began ∙ keeps.found e was honest;
}

-- a site that a desk was opened for
pub is_site : {K : Type 0} (g : Ghosts K) (keeper : K) (layout : LayoutState) (i passes limit parts : ℕ) (s : SiteState) → passes ≡ parts → IsLayout layout → IsNewSite g keeper layout i passes limit s → IsSite parts s
is_site g keeper layout i passes limit parts s same is new = record {
  as_many = new.as_many ∙ same;
  layout = subst IsLayout (sym new.of_layout) is;
  cells = subst (λ (l : LayoutState). AreCells l s.site s.first.cells) (sym new.of_layout) (subst (λ (k : ℕ). AreCells layout k s.first.cells) (sym new.of_site) new.cells);
  sessions = subst (λ (l : LayoutState). AreSessions l s.site s.first.cells s.first.sessions) (sym new.of_layout)
      (subst (λ (k : ℕ). AreSessions layout k s.first.cells s.first.sessions) (sym new.of_site) new.sessions);
}

-- what a test tells of all passes
pub all_there : (b : Bool) (n m : ℕ) (xs ys : List PassState) → (IsTrue b ↔ AreAll n xs) → n ≡ m → xs ≡ ys → b ≡ true → AreAll m ys
all_there b n m xs ys told same_count same is = subst (λ (k : ℕ). AreAll k ys) same_count (subst (AreAll n) same (told.0 is))

pub some_missing : (b : Bool) (n m : ℕ) (xs ys : List PassState) → (IsTrue b ↔ AreAll n xs) → n ≡ m → xs ≡ ys → b ≡ false → ¬ AreAll m ys
some_missing b n m xs ys told same_count same is = λ all.
    let both : false ≡ true = sym is ∙ told.1 (subst (λ (k : ℕ). AreAll k xs) (sym same_count) (subst (AreAll m) (sym same) all)) in cc

mismatched : {K : Type 0} (s : SiteState) (ps : List PassState) (d : DeskState K) (pass at : ℕ) → AreAll s.passes ps → length d.log.entries ≡ receipts_in ps → IsDeskAstray d s.layout s.site s.first s.limit ps pass at
    → IsCloseFault s ps (Mismatch pass at)
mismatched s ps d pass at all count found = (
  all,
  record {
    entries = d.log.entries;
    legal = subst (λ (a : Account). IsLegal a d.log.entries) (λ k. begun (found.opening.of_layout k) (found.opening.of_site k) (found.opening.began k)) found.legal;
    within = found.within;
    count = count;
    astray = found.astray;
  },
)

-- a refusal that came after the passes were counted
pub refused : {K : Type 0} (s : SiteState) (ps : List PassState) (d : DeskState K) (e : CloseError) → e ≢ PassMissing → ((pass at : ℕ) → e ≡ Mismatch pass at → IsDeskAstray d s.layout s.site s.first s.limit ps pass at)
    → length d.log.entries ≡ receipts_in ps → AreAll s.passes ps → IsCloseFault s ps e
refused s ps d PassMissing other told count all = absurd (other refl)
refused s ps d (Mismatch pass at) other told count all = mismatched s ps d pass at all count (told pass at refl)
refused s ps d Memory other told count all = all
