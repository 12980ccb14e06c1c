-- Which links there may be between the sites of a layout, and how a channel refuses a text (this project's own).
use Rattle.std.specs.Prelude.{◌≢◌, ℕ, ◌<◌, ⊤, Option, Some, None, Result, Ok, Err}
use Rattle.crossbeam_channel.specs.declared.err.SendError.{SendError}
use Rattle.crossbeam_channel.specs.declared.err.SendError.TheVariants as Send
use Rattle.merge_core.specs.Layout.{LayoutState}
use Rattle.exchange_threads.specs.declared.error.LinkError.{LinkError}
use Rattle.exchange_threads.specs.declared.error.LinkError.TheVariants.{NoLink, Memory}
use Rattle.exchange_threads.specs.declared.outlet.PutError.{PutError}
use Rattle.exchange_threads.specs.declared.outlet.PutError.TheVariants as Put

-- both are sites of the layout, and not the same
pub record IsLink (layout : LayoutState) (from to : ℕ) : Type 0 where
  pub apart : from ≢ to
  pub from_site : from < layout.sites
  pub to_site : to < layout.sites

-- A link that may be is made, or memory ran out; any other is refused, whatever memory there is.
abbrev pub IsLinkAnswer : {Ends : Type 0} → LayoutState → ℕ → ℕ → Result Ends LinkError → Type 0
IsLinkAnswer layout from to (Ok ends) = IsLink layout from to
IsLinkAnswer layout from to (Err NoLink) = ¬ IsLink layout from to
IsLinkAnswer layout from to (Err Memory) = IsLink layout from to

-- the error of a channel's send, without its text
abbrev pub without_text : {T : Type 0} → SendError T → SendError (Unit {0})
without_text (Send.Disconnected text) = Send.Disconnected tt
without_text (Send.OutOfMemory text) = Send.OutOfMemory tt

-- why an outbox's text was not put, by that error
abbrev pub put_error : {T : Type 0} → SendError T → PutError
put_error (Send.Disconnected text) = Put.Closed
put_error (Send.OutOfMemory text) = Put.Memory

-- the last error of a channel's send was that its receivers are gone
abbrev pub IsDisconnected : {T : Type 0} → Option (SendError T) → Type 0
IsDisconnected None = ⊥
IsDisconnected (Some (Send.Disconnected text)) = ⊤
IsDisconnected (Some (Send.OutOfMemory text)) = ⊥

-- .. was that it lacked memory
abbrev pub IsLacking : {T : Type 0} → Option (SendError T) → Type 0
IsLacking None = ⊥
IsLacking (Some (Send.Disconnected text)) = ⊥
IsLacking (Some (Send.OutOfMemory text)) = ⊤
