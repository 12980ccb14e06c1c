-- What the program says where a site is not built again (the project's own).
use Rattle.std.specs.Prelude.{◌≡◌, ℕ, ◌+◌, List, ◌++◌, codes, decimal, Option, Some, None}
use Rattle.delta_codec.specs.Decodes.{fault_name}
use Rattle.text_input.specs.Sink.{SinkState, Writes}
use Rattle.text_input.specs.Source.{HasFault}
use Rattle.layout_file.specs.declared.fault.LayoutFault.TheVariants.{NoSite}
use Rattle.exit_status.specs.declared.status.Status.{Status}
use Rattle.exit_status.specs.declared.status.Status.TheVariants.{Done, Usage, NoLayout, NoStore, Fault, Refused, Memory, Io}
use Rattle.serve_engine.specs.declared.marks.MarkFault.{MarkFault}
use Rattle.serve_engine.specs.declared.marks.MarkFault.TheVariants.{NoMark, WrongGroup, OtherRecords, Damaged}
use Rattle.serve_engine.specs.declared.moved_texts.TextFault.{TextFault}
use Rattle.serve_engine.specs.declared.moved_texts.TextFault.TheVariants.{Unmarked, Unread}
use Rattle.site_rebuild.specs.declared.rebuilding.RebuildError.{RebuildError}
use Rattle.site_rebuild.specs.declared.rebuilding.RebuildError.TheVariants as site
use Rattle.rebuild_engine.specs.declared.lines.LineFault.{LineFault}
use Rattle.rebuild_engine.specs.declared.lines.LineFault.TheVariants.{Text, Twice}
use Rattle.rebuild_engine.specs.declared.rebuilding.RebuildStop.{RebuildStop}
use Rattle.rebuild_engine.specs.declared.rebuilding.RebuildStop.TheVariants.{NoRoom, NotMoved, Line, Site}

abbrev pub mark_fault_name : MarkFault → List ℕ
mark_fault_name NoMark = codes "NoMark"
mark_fault_name WrongGroup = codes "WrongGroup"
mark_fault_name OtherRecords = codes "OtherRecords"
mark_fault_name Damaged = codes "Damaged"

abbrev pub text_fault_name : TextFault → List ℕ
text_fault_name (Unmarked fault) = mark_fault_name fault
text_fault_name (Unread error) = fault_name error

abbrev pub line_fault_name : LineFault → List ℕ
line_fault_name (Text fault) = text_fault_name fault
line_fault_name Twice = codes "Twice"

-- a line is refused, counted from 1
abbrev pub refused_line : ℕ → List ℕ → List ℕ
refused_line number name = codes "line " ++ (decimal number ++ (codes " refused " ++ (name ++ codes "\n")))

-- the lines together are
abbrev pub input_line : List ℕ → List ℕ
input_line name = codes "input refused " ++ (name ++ codes "\n")

-- what is said of deltas that are refused: delta k is that of line k + 1
abbrev pub site_text : RebuildError → Option (List ℕ)
site_text site.BadSite = None
site_text (site.NoDelta j) = Some (input_line (codes "NoDelta " ++ decimal j))
site_text (site.BadDelta k) = Some (refused_line (k + 1) (codes "BadDelta"))
site_text site.CounterFull = Some (input_line (codes "CounterFull"))
site_text site.Acted = Some (input_line (codes "Acted"))
site_text site.Apart = Some (input_line (codes "Apart"))
site_text site.Memory = None

abbrev pub stop_text : RebuildStop → Option (List ℕ)
stop_text NoRoom = None
stop_text NotMoved = None
stop_text (Line it) = Some (refused_line it.number (line_fault_name it.fault))
stop_text (Site error) = site_text error

-- the end where nothing is said of it
abbrev pub unsaid_end : RebuildStop → Status
unsaid_end (Site site.BadSite) = NoLayout NoSite
unsaid_end NotMoved = Usage
unsaid_end stop = Memory

-- What was written for a stop, by the status that the program ends with. Where memory ran out, nothing was.
abbrev pub EndsStop : RebuildStop → SinkState → SinkState → Status → Type 0
EndsStop stop sink sink_after Refused = (text : List ℕ) × (stop_text stop ≡ Some text) × Writes sink sink_after text
EndsStop stop sink sink_after Io = HasFault sink_after.fault
EndsStop stop sink sink_after Memory = sink_after ≡ sink
EndsStop stop sink sink_after (NoLayout fault) = (stop ≡ Site site.BadSite) × (fault ≡ NoSite) × (sink_after ≡ sink)
EndsStop stop sink sink_after Done = ⊥
EndsStop stop sink sink_after Usage = (stop ≡ NotMoved) × (sink_after ≡ sink)
EndsStop stop sink sink_after (NoStore refusal) = ⊥
EndsStop stop sink sink_after Fault = ⊥
