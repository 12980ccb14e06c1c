-- A store that is made with counters in it.
use Rattle.std.proofs.Common.{◌≡◌, ◌≢◌, inl, inr, ℕ, true, false, List, [], ◌∷◌, Option, Result, Ok, Err, IsTrue, refl, ap, subst, ◌∙◌}
use Rattle.std.specs.Prelude.{IfErr, OnOk}
use Rattle.std.specs.List.{AllByRecursion}
use Rattle.sqlite_trees.specs.declared.store.Store.{Ghosts}
use Rattle.sqlite.specs.Held.{Held}
use Rattle.sqlite_schema.specs.declared.schema.Schema.{Schema}
use Rattle.merge_core.specs.Layout.{IsLayout, LayoutState}
use Rattle.layout_line.specs.Line.{line_of}
use Rattle.admission_model.specs.declared.durable.DurableCell.{DurableCell}
use Rattle.admission_model.specs.Durable.{AreRising, is_before, put_cell, put_cells}
use Rattle.admission_core.specs.Kept.{ChangeState}
use Rattle.durable_keeper.specs.Keeping.{IsChange}
use Rattle.store_rows.specs.Rows.{Stored}
use Rattle.store_rows.specs.Holding.{Holds, HoldsNothing, KeepsNothing, KeepsNothingOr}
use Rattle.store_tables.specs.declared.error.TableError.{TableError}
use Rattle.store_tables.specs.declared.error.TableError.TheVariants as tables
use Rattle.store_tables.specs.Transacts.{filled, made}
use Rattle.store_tables.proofs.KeepLemmas.{leaves_first}
use Rattle.store_content.specs.Plan.{IsPlan, IsTellable, Makes, RowsState, rows_for}
use Rattle.store_content.proofs.LawLemmas.{makes}
use Rattle.store_content.proofs.TellableLemmas.{tellable}
use Rattle.site_store.specs.declared.error.ServedError.{ServedError}
use Rattle.site_store.specs.declared.error.ServedError.TheVariants.{Memory, StoreFault}
use Rattle.site_store.specs.Errors.{open_error, served_error}
use Rattle.site_store.specs.Making.{IsLeftNew, IsNew, counters_alone, new_content}
use Rattle.site_store.specs.declared.served.Permission.{Permission}
use Rattle.site_store.specs.Served.{IsDenied, IsDevice}
use Rattle.site_store.specs.SiteText.{site_text}
use Rattle.site_store.proofs.OpenLemmas.{made_content}
use Rattle.site_store.proofs.ServedLemmas.{device_denied}

-- cells that rise are put into no others as they are
put_first : (c : DurableCell) (ds : List DurableCell) → AllByRecursion (λ d. IsTrue (is_before c d)) ds → put_cell c ds ≡ c ∷ ds
put_first c [] all = refl
put_first c (d ∷ ds) all = rw all.0 refl

put_none : (cs : List DurableCell) → AreRising cs → put_cells cs [] ≡ cs
put_none [] up = refl
put_none (c ∷ cs) up = ap (put_cell c) (put_none cs up.1) ∙ put_first c cs up.0

pub tells_counters : (layout : LayoutState) → IsLayout layout → (i : ℕ) (cells : List DurableCell) → IsChange layout i (counters_alone cells) → IsTellable (counters_alone cells)
tells_counters layout is i cells change = tellable layout i (counters_alone cells) is.few_sites is.few_records change

module _ (layout : LayoutState) (i : ℕ) (group : Option (List ℕ)) (cells : List DurableCell) where
  abbrev begun : Stored
  begun = made (site_text i group) (line_of layout)

  abbrev rows : RowsState
  rows = rows_for (counters_alone cells) begun

  is_plan : IsPlan (counters_alone cells) begun rows
  is_plan = record { cells = refl; notices = refl; edit = refl; room = λ lacks. lacks }

  -- the new content is the site's own, and stands for these counters
  pub is_new : IsTellable (counters_alone cells) → IsNew layout i group cells
  is_new tell =
      let law : Makes (counters_alone cells) begun rows = makes (counters_alone cells) begun rows (made_content (site_text i group) (line_of layout)) tell is_plan in
      record {
        own = record { second = refl; its_site = refl; its_layout = refl; content = law.content };
        part = law.durable ∙ ap (λ (cs : List DurableCell). record { cells = cs; sessions = [] }) (put_none cells tell.rising);
      }

  -- rows that were planned make it
  pub filled_is : (change : ChangeState) (planned : RowsState) (site line : List ℕ) → change ≡ counters_alone cells → IsPlan change begun planned → site ≡ site_text i group → line ≡ line_of layout
      → filled site line planned.cells planned.notices ≡ new_content layout i group cells
  filled_is change planned site line same plan its_site its_line =
      let here : IsPlan (counters_alone cells) begun planned = subst (λ (ch : ChangeState). IsPlan ch begun planned) same plan in
      (λ k. filled (its_site k) (its_line k) (here.cells k) (here.notices k))

  -- .. and the database has numbers for them
  pub small_rows : (change : ChangeState) (planned : RowsState) → change ≡ counters_alone cells → IsTellable (counters_alone cells) → IsPlan change begun planned → Makes (counters_alone cells) begun planned
  small_rows change planned same tell plan =
      makes (counters_alone cells) begun planned (made_content (site_text i group) (line_of layout)) tell (subst (λ (ch : ChangeState). IsPlan ch begun planned) same plan)

  module _ {S : Type 0} (g : Ghosts S) (c : Held S) where
    -- what is left where nothing was written
    pub left_new : (e : ServedError) → KeepsNothing g c → IsLeftNew g layout i group cells c e
    left_new e keeps = record { either = leaves_first g c HoldsNothing (Holds (new_content layout i group cells)) keeps; still = λ _. keeps }

    -- .. and where the making was refused
    pub refused_new : (e : TableError) → e ≢ tables.BadStore → (e ≡ tables.Memory → KeepsNothing g c) → (e ≡ tables.StoreFault → KeepsNothingOr g c (new_content layout i group cells))
        → IsLeftNew g layout i group cells c (served_error (open_error e))
    refused_new tables.BadStore good memory fault = absurd (good refl)
    refused_new tables.Memory good memory fault = left_new (served_error (open_error tables.Memory)) (memory refl)
    refused_new tables.StoreFault good memory fault = record { either = fault refl; still = λ ne. absurd (ne refl) }

-- a refusal by the device is one of any database
pub denied_new : {A : Type 0} (r : Result A ServedError) (p : Permission) (schema : Schema) → IfErr r IsDevice → IfErr r (IsDenied p schema)
denied_new (Ok x) p schema is = tt
denied_new (Err e) p schema is = device_denied p schema e is

-- a store that is to be made is none that is there
pub true_is_none : true ≡ false → ⊥
true_is_none is = cc

-- what is known anyway is known of an answer that went well
pub on_well : {A E : Type 0} {P : Type 0} (r : Result A E) → P → OnOk r P
on_well (Ok x) p = p
on_well (Err e) p = tt

-- an answer that only the device refuses is of no other kind
pub none_judged : {A : Type 0} (P : Type 0) (r : Result A ServedError) → IfErr r IsDevice → IfErr r (λ e. e ≢ StoreFault → e ≢ Memory → P)
none_judged P (Ok x) is = tt
none_judged P (Err e) (inl fault) = λ no_fault no_memory. absurd (no_fault fault)
none_judged P (Err e) (inr memory) = λ no_fault no_memory. absurd (no_memory memory)
