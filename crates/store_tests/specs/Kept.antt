-- What a site that was opened, called and closed leaves in its keeper.
use Rattle.std.specs.Prelude.{◌≡◌, ℕ, [], ◌∷◌, false}
use Rattle.merge_core.specs.Layout.{LayoutState}
use Rattle.admission_core.specs.Kept.{DurableState}
use Rattle.durable_keeper.specs.declared.keeper.Keeper.{Ghosts}
use Rattle.desk_log.specs.declared.transcript.Run.{Run}
use Rattle.desk_log.specs.declared.transcript.Transcript.{Transcript}
use Rattle.desk_log.specs.Log.{begun, account_after, account_tried, ends_in_fault, IsLegal}
use Rattle.desk_log.specs.Desk.{Leaves}

-- The transcript is one run that begins with a durable part and is legal from it; the keeper keeps the durable part of the
-- account after the run, and where that ends in the store's fault perhaps the one with the call in doubt.
pub record IsRunFrom {K : Type 0} (g : Ghosts K) (layout : LayoutState) (i : ℕ) (d : DurableState) (t : Transcript) (k : K) : Type 0 where
  pub run : Run
  pub one_run : t.runs ≡ run ∷ []
  pub began : run.first ≡ d
  pub legal : IsLegal (begun layout i d) run.entries
  pub kept : Leaves g (ends_in_fault false run.entries) k (account_after (begun layout i d) run.entries) (account_tried (begun layout i d) run.entries)
