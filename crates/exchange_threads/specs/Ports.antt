-- What the runner of a port leaves (this project's own).
use Rattle.std.specs.Prelude.{◌≡◌, ℕ, Bool, List, Option, Some, None}
use Rattle.session_book.specs.Passes.{PassState}
use Rattle.exchange_threads.specs.declared.port.End.{End}
use Rattle.exchange_threads.specs.declared.port.End.TheVariants.{Outlet, Inlet}
use Rattle.exchange_threads.specs.declared.port.Report.{Report}
use Rattle.exchange_threads.specs.declared.port.Report.TheVariants.{Sent, Got}
use Rattle.exchange_threads.specs.declared.port.Port.{Port}
use Rattle.exchange_threads.specs.Outbox.{HasRunOut}
use Rattle.exchange_threads.specs.Inbox.{HasRunIn}

-- the report is that of a run at this end, with this gate
abbrev pub IsReportOf : {G : Type 0} → (G → ℕ → Bool → G → Type 0) → ℕ → Option (End G) → PassState → PassState → ℕ → Option Report → Type 0
IsReportOf {G} answers records (Some (Outlet sender gate)) old new asked (Some (Sent r)) = (gate_after : G) × HasRunOut answers records old new gate gate_after asked r
IsReportOf answers records (Some (Inlet receiver)) old new asked (Some (Got r)) = (texts : List (List ℕ)) × HasRunIn texts old new asked r
IsReportOf answers records _ old new asked _ = ⊥

-- a port's runner has run for a site with so many records: its end is gone, and its report is there
pub record HasRunPort {L G : Type 0} (answers : G → ℕ → Bool → G → Type 0) (records asked : ℕ) (old new : Port L G) : Type 0 where
  pub no_end : new.link ≡ None
  pub report : IsReportOf answers records old.link old.pass new.pass asked new.report
