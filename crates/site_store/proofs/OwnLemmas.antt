-- What an opening makes of a content that is the site's own, and of a line that is the layout's.
use Rattle.std.proofs.Common.{◌≡◌, ◌≢◌, ◌⊎◌, ◌<◌, ◌≤◌, ℕ, inl, inr, refl, sym, ap, subst, List, ◌∙◌, decimal, Option, Some, None, Result, Ok, Err, IfErr, arith}
use Rattle.std.specs.List.{All}
use Rattle.std.proofs.lemmas.Option.{none-some, same_Some}
use Rattle.std.proofs.lemmas.List.{append_cancel_right}
use Rattle.std.proofs.lemmas.Fmt.{decimal_injective}
use Rattle.std.proofs.Math.Logic.{∥∥₁_elim, ∥∥₁_map, ∥∥₁_prop}
use Rattle.sqlite_trees.specs.Tree.{Trees}
use Rattle.sqlite_trees.specs.declared.store.Store.{Ghosts}
use Rattle.sqlite.specs.Held.{Held}
use Rattle.merge_core.specs.declared.layout.RecordSpec.{RecordSpec}
use Rattle.merge_core.specs.Layout.{IsEarlier, LayoutState, at_sites}
use Rattle.layout_line.specs.declared.Line.{Line}
use Rattle.layout_line.specs.declared.Line.TheVariants as lines
use Rattle.layout_line.specs.Line.{IsLine, line_of, records_text}
use Rattle.store_rows.specs.Rows.{Stored}
use Rattle.store_rows.specs.Changes.{renewed}
use Rattle.store_rows.specs.Holding.{Keeps, KeepsEither, KeepsNothing, KeepsNothingOr, Leaves, Holds, HoldsNothing}
use Rattle.store_tables.specs.Transacts.{made}
use Rattle.store_tables.specs.Reads.{KeepsAny}
use Rattle.store_tables.specs.declared.error.TableError.{TableError}
use Rattle.store_tables.specs.declared.error.TableError.TheVariants as tables
use Rattle.store_tables.proofs.LookLemmas.{found_once}
use Rattle.site_store.specs.declared.error.StoreOpenError.{StoreOpenError}
use Rattle.site_store.specs.declared.error.StoreOpenError.TheVariants as opening
use Rattle.site_store.specs.Errors.{open_error}
use Rattle.site_store.specs.SiteText.{site_text}
use Rattle.site_store.specs.Sql.{IsOf}
use Rattle.site_store.specs.Opened.{Fits, IsCause, IsDeviceCause, IsOwn}
use Rattle.site_store.proofs.OpenLemmas.{made_content, renewed_content}

-- a line that is a layout's own is found to be
pub same_line : (layout : LayoutState) (i : ℕ) (line : List ℕ) (found : Line) → layout.sites ≤ 16 → line ≡ line_of layout → IsLine layout i line found → found ≡ lines.Same
same_line layout i line lines.Same few own is = refl
same_line layout i line lines.Earlier few own (n, it) =
    let numbers : decimal n ≡ decimal layout.sites = append_cancel_right (decimal n) (decimal layout.sites) (records_text layout.records) (sym it.is_its ∙ own) in
    let fewer : n < layout.sites = it.earlier.fewer_sites in
    let same : n ≡ layout.sites = decimal_injective n layout.sites (omega (arith, fewer, few)) (omega (arith, few)) numbers in
    absurd (omega (arith, fewer, same))
same_line layout i line lines.Other few own is = absurd (is.0 own)

other_line : (layout : LayoutState) (i : ℕ) (it : Stored) → Fits layout i it → IsLine layout i it.layout lines.Other → ⊥
other_line layout i it (inl same) is = is.0 same
other_line layout i it (inr earlier) is = is.1 earlier.0 earlier.1

-- the site's own content is refused for no cause of its own
pub own_cause : (layout : LayoutState) (i : ℕ) (group : Option (List ℕ)) (it : Stored) (e : StoreOpenError) → IsOwn layout i group it → IsCause layout i group it e → IsDeviceCause e
own_cause layout i group it opening.BadStore own cause = absurd (cause own.content)
own_cause layout i group it opening.WrongSite own cause = absurd (cause.1 group own.its_site)
own_cause layout i group it opening.WrongGroup own cause = absurd (cause.1.0 own.its_site)
own_cause layout i group it opening.WrongLayout own cause = absurd (other_line layout i it own.its_layout cause.1.1)
own_cause layout i group it opening.StoreFault own cause = _
own_cause layout i group it opening.Memory own cause = _

-- nor do tables refuse it
pub table_cause : (e : TableError) → (e ≡ tables.BadStore → ⊥) → IsDeviceCause (open_error e)
table_cause tables.BadStore good = absurd (good refl)
table_cause tables.Memory good = _
table_cause tables.StoreFault good = _

pub device_two : (e : StoreOpenError) → IsDeviceCause e → e ≢ opening.StoreFault → e ≢ opening.Memory → ⊥
device_two opening.BadStore cause fault memory = cause
device_two opening.WrongSite cause fault memory = cause
device_two opening.WrongGroup cause fault memory = cause
device_two opening.WrongLayout cause fault memory = cause
device_two opening.StoreFault cause fault memory = fault refl
device_two opening.Memory cause fault memory = memory refl

pub memory_cause : (e : StoreOpenError) → e ≡ opening.Memory → IsDeviceCause e
memory_cause e is = subst IsDeviceCause (sym is) _

device_prop : (e : StoreOpenError) → IsProp (IsDeviceCause e)
device_prop opening.BadStore = λ a b. absurd a
device_prop opening.WrongSite = λ a b. absurd a
device_prop opening.WrongGroup = λ a b. absurd a
device_prop opening.WrongLayout = λ a b. absurd a
device_prop opening.StoreFault = λ a b. refl
device_prop opening.Memory = λ a b. refl

-- a new store is one of its site
pub made_own : (layout : LayoutState) (i : ℕ) (group : Option (List ℕ)) → IsOwn layout i group (made (site_text i group) (line_of layout))
made_own layout i group = record {
  content = made_content (site_text i group) (line_of layout);
  its_site = refl;
  its_layout = inl refl;
}

-- so is what a commit leaves
pub of_own : (layout : LayoutState) (i : ℕ) (group : Option (List ℕ)) (it : Stored) → IsOf layout (site_text i group) it → IsOwn layout i group it
of_own layout i group it is = record { content = is.content; its_site = is.its_site; its_layout = inl is.its_layout }

-- and what the renewal of such a content makes of it
pub renewed_own : (layout : LayoutState) (i : ℕ) (group : Option (List ℕ)) (it : Stored) → IsOwn layout i group it → IsOwn layout i group (renewed (line_of layout) it)
renewed_own layout i group it own = record { content = renewed_content (line_of layout) it own.content; its_site = own.its_site; its_layout = inl refl }

-- ---- layouts that grow

-- a layout at n sites with these records
with_records : ℕ → LayoutState → List RecordSpec → LayoutState
with_records n layout records = record layout { sites = n; records = records }

-- a line that fits an earlier layout fits the one that it grew into
fits_later : (old layout : LayoutState) (i : ℕ) (it : Stored) → IsEarlier old layout → i < old.sites → Fits old i it → Fits layout i it
unfolding with_records
fits_later old layout i it grows there (inl same) =
    let back : at_sites old.sites layout ≡ old = ap (with_records old.sites layout) (sym grows.same_records) in
    inr (old.sites, record { earlier = subst (λ (l : LayoutState). IsEarlier l layout) (sym back) grows; there = there; is_its = same ∙ ap line_of (sym back) })
fits_later old layout i it grows there (inr (n, is)) =
    let fewer : n < old.sites = is.earlier.fewer_sites in
    let more : old.sites < layout.sites = grows.fewer_sites in
    inr (
      n,
      record {
        earlier = record { same_records = refl; fewer_sites = omega arith; homes = subst (All (λ r. r.home < n)) grows.same_records is.earlier.homes };
        there = is.there;
        is_its = is.is_its ∙ ap (λ (rs : List RecordSpec). line_of (with_records n layout rs)) grows.same_records;
      },
    )

-- a content of the site's own stays so when the layout grows
pub grown_own : (old layout : LayoutState) (i : ℕ) (group : Option (List ℕ)) (it : Stored) → IsEarlier old layout → i < old.sites → IsOwn old i group it → IsOwn layout i group it
grown_own old layout i group it grows there own = record { content = own.content; its_site = own.its_site; its_layout = fits_later old layout i it grows there own.its_layout }

module _ {S : Type 0} (g : Ghosts S) (c : Held S) (Such : Stored → Type 0) where
  pub any_of : (it : Stored) → Such it → Keeps g c it → KeepsAny g c Such
  any_of it fits keeps = record { left = λ clean db left. ∥∥₁_map (keeps.left clean db left) (λ h. inr (it, (fits, h))) }

  pub any_of_either : (a b : Stored) → Such a → Such b → KeepsEither g c a b → KeepsAny g c Such
  any_of_either a b first second keeps = record {
    left = λ clean db left. ∥∥₁_map (keeps.left clean db left) (λ h. elim h [ inl x ↦ inr (a, (first, x)) | inr y ↦ inr (b, (second, y)) ]);
  }

  pub any_of_nothing_or : (it : Stored) → Such it → KeepsNothingOr g c it → KeepsAny g c Such
  any_of_nothing_or it fits keeps = record {
    left = λ clean db left. ∥∥₁_map (keeps.left clean db left) (λ h. elim h [ inl x ↦ inl x | inr y ↦ inr (it, (fits, y)) ]);
  }

-- what a connection keeps, known by truncation
leaves_from : {S : Type 0} (g : Ghosts S) (c : Held S) (P : Trees → Type 0) (A : Type 0) → ∥ A ∥₁ → (A → Leaves g c P) → Leaves g c P
leaves_from g c P A some f = record { left = λ clean db left. ∥∥₁_elim some ∥∥₁_prop (λ x. (f x).left clean db left) }

-- nothing or one content was kept, and a look found none, or it
module _ {S : Type 0} (g : Ghosts S) (c : Held S) (it : Stored) (H : Type 0) (clean : H) (t : Option Stored)
    (found : ∥ (KeepsNothing g c × (H → t ≡ None)) ⊎ (Keeps g c it × (H → t ≡ Some it)) ∥₁) where
  pub none_kept : t ≡ None → KeepsNothing g c
  none_kept none = leaves_from g c HoldsNothing _ found (λ f. elim f [ inl x ↦ x.0 | inr y ↦ absurd (none-some it (sym none ∙ y.1 clean)) ])

  pub some_kept : (content : Stored) → t ≡ Some content → Keeps g c it
  some_kept content is = leaves_from g c (Holds it) _ found (λ f. elim f [ inl x ↦ absurd (none-some content (sym (x.1 clean) ∙ is)) | inr y ↦ y.0 ])

  pub some_found : (content : Stored) → t ≡ Some content → content ≡ it
  some_found content is =
      same_Some content it (sym is ∙ ∥∥₁_elim found (found_once {E = TableError} (Ok t) (Some it)) (λ f. elim f [ inl x ↦ absurd (none-some content (sym (x.1 clean) ∙ is)) | inr y ↦ y.1 clean ]))

-- one of two contents was kept, each of them the site's own, and a look found it
pub either_own : (layout : LayoutState) (i : ℕ) (group : Option (List ℕ)) (a b content : Stored) (P Q H : Type 0) → H → (t : Option Stored) → t ≡ Some content
    → IsOwn layout i group a → IsOwn layout i group b
    → ∥ (P × (H → t ≡ Some a)) ⊎ (Q × (H → t ≡ Some b)) ∥₁ → (e : StoreOpenError) → (IsOwn layout i group content → IsDeviceCause e) → IsDeviceCause e
either_own layout i group a b content P Q H clean t is first second found e refused =
    ∥∥₁_elim found (device_prop e) (λ f. elim f [
      | inl x ↦ refused (subst (IsOwn layout i group) (sym (same_Some content a (sym is ∙ x.1 clean))) first)
      | inr y ↦ refused (subst (IsOwn layout i group) (sym (same_Some content b (sym is ∙ y.1 clean))) second)
    ])

-- what holds of an error
pub if_err_from : {A E : Type 0} {G : E → Type 0} (r : Result A E) → ((e : E) → r ≡ Err e → G e) → IfErr r G
if_err_from (Ok x) k = tt
if_err_from (Err e) k = k e refl

-- a fault of an opening is the tables'
pub fault_of : (e : TableError) → open_error e ≡ opening.StoreFault → e ≡ tables.StoreFault
fault_of tables.BadStore is = absurd (cc)
fault_of tables.Memory is = absurd (cc)
fault_of tables.StoreFault is = refl

pub memory_is_none : opening.Memory ≡ opening.StoreFault → ⊥
memory_is_none is = absurd (cc)
