-- How the runs of a site are written (this project's own format): lines of compact JSON (RFC 8259), one for the beginning
-- of a run and one for each entry.
use Rattle.std.specs.Prelude.{◌≡◌, ℕ, ◌<◌, ◌≤◌, nat_lt, List, [], ◌∷◌, ◌++◌, length, slice_index_or, codes, decimal, if◌then◌else◌, Option, Some, None}
use Rattle.std.specs.List.{flat_map}
use Rattle.merge_core.specs.declared.layout.RecordSpec.{RecordSpec}
use Rattle.merge_core.specs.Layout.{LayoutState, layout_fault, at_sites}
use Rattle.merge_core.specs.Delta.{DeltaState}
use Rattle.session_list.specs.declared.session.Session.{Session}
use Rattle.admission_model.specs.declared.ask.Ask.{Ask}
use Rattle.admission_model.specs.declared.ask.Ask.TheVariants.{Read, Announce, Quill, Leave, Give, Help}
use Rattle.admission_model.specs.declared.ask.Call.{Call}
use Rattle.admission_model.specs.declared.ask.Call.TheVariants.{Ask as AskCall, Merge, Snapshot}
use Rattle.admission_model.specs.View.{view_of}
use Rattle.admission_model.specs.Merging.{snapshot_of}
use Rattle.admission_model.specs.Restoring.{AreCells, AreSessions}
use Rattle.admission_core.specs.Kept.{DurableState}
use Rattle.delta_codec.specs.DeltaText.{delta_text}
use Rattle.text_parts.specs.Lists.{joined}
use Rattle.script_text.specs.Replies.{phase_word, numbers_text, reply_text}
use Rattle.desk_log.specs.declared.entry.Entry.{Entry}
use Rattle.desk_log.specs.declared.transcript.Run.{Run}
use Rattle.desk_log.specs.declared.transcript.Transcript.{Transcript}
use Rattle.desk_log.specs.Log.{begun}
use Rattle.transcript_text.specs.Quoted.{escaped}

-- stands where a list of records has none
abbrev pub nameless : RecordSpec
nameless = record { name = []; seats = 0; home = 0; problem = 0 }

-- a record: its name, or `?` and its number where there is none of that number
abbrev pub record_text : List RecordSpec → ℕ → List ℕ
record_text records r =
    if nat_lt r (length records) then (slice_index_or records r nameless).name else codes "?" ++ decimal r

-- what a caller asks, as a line of a site's script: a verb, a record, and numbers
abbrev pub ask_text : List RecordSpec → Ask → List ℕ
ask_text records (Read r h) = codes "read " ++ (record_text records r ++ numbers_text (h ∷ []))
ask_text records (Announce r h) = codes "announce " ++ (record_text records r ++ numbers_text (h ∷ []))
ask_text records (Quill r h) = codes "write " ++ (record_text records r ++ numbers_text (h ∷ []))
ask_text records (Leave r h) = codes "leave " ++ (record_text records r ++ numbers_text (h ∷ []))
ask_text records (Give r to seats) = codes "give " ++ (record_text records r ++ numbers_text (to ∷ seats ∷ []))
ask_text records (Help r) = codes "help " ++ record_text records r

-- any call as such a line
abbrev pub call_text : List RecordSpec → Call → List ℕ
call_text records (AskCall ask) = ask_text records ask
call_text records (Merge delta) = codes "take " ++ delta_text delta
call_text records Snapshot = codes "send"

-- an entry: the call, the pass that made it, and the reply
unfoldable pub entry_text : List RecordSpec → Entry → List ℕ
entry_text records e =
    codes "{\"call\":\"" ++ (escaped (call_text records e.call)
    ++ (codes "\",\"pass\":" ++ (decimal e.pass
    ++ (codes ",\"reply\":\"" ++ (escaped (reply_text e.reply) ++ codes "\"}")))))

-- a session: its record, its holder, and what it is doing
abbrev pub session_text : List RecordSpec → Session → List ℕ
session_text records s =
    codes "\"" ++ (record_text records s.r ++ (codes " " ++ (decimal s.h ++ (codes " " ++ (phase_word s.phase ++ codes "\"")))))

-- what site i tells others when it begins with a durable part and knows so many sites
abbrev pub book_told : LayoutState → ℕ → ℕ → DurableState → DeltaState
book_told layout i sites first = snapshot_of (view_of (begun (at_sites sites layout) i first))

-- the beginning of a run up to the site's number: what the site tells, and its sessions in order of arrival
unfoldable pub front_text : List RecordSpec → ℕ → DeltaState → List Session → List ℕ
front_text records i told sessions =
    codes "{\"book\":\"" ++ (escaped (delta_text told)
    ++ (codes "\",\"sessions\":[" ++ (joined (session_text records) sessions
    ++ (codes "],\"site\":" ++ decimal i))))

-- what follows it: the number of sites, or nothing in the older spelling
abbrev pub sites_text : Option ℕ → List ℕ
sites_text None = codes "}"
sites_text (Some sites) = codes ",\"sites\":" ++ (decimal sites ++ codes "}")

-- the line that begins a run, with the number of sites
abbrev pub opening_text : LayoutState → ℕ → ℕ → DurableState → List ℕ
opening_text layout i sites first =
    front_text layout.records i (book_told layout i sites first) first.sessions ++ sites_text (Some sites)

-- the older spelling, for the layout's own number of sites
abbrev pub short_opening_text : LayoutState → ℕ → DurableState → List ℕ
short_opening_text layout i first =
    front_text layout.records i (book_told layout i layout.sites first) first.sessions ++ sites_text None

-- a line for each entry
abbrev pub entries_text : List RecordSpec → List Entry → List ℕ
entries_text records es = flat_map (λ e. entry_text records e ++ codes "\n") es

-- a run: its opening, and its entries
abbrev pub run_text : LayoutState → ℕ → Run → List ℕ
run_text layout i run =
    (opening_text layout i run.sites run.first ++ codes "\n") ++ entries_text layout.records run.entries

-- a transcript: its runs, in order
abbrev pub transcript_text : LayoutState → Transcript → List ℕ
transcript_text layout t = flat_map (run_text layout t.site) t.runs

-- A run may begin so: the site is one of its sites, which are no more than the layout's, the same records are a layout
-- at so many sites, and the first durable part is one that a stop leaves of the site.
pub record MayBegin (layout : LayoutState) (i sites : ℕ) (first : DurableState) : Type 0 where
  pub site_there : i < sites
  pub no_more : sites ≤ layout.sites
  pub records_fit : layout_fault sites layout.records ≡ None
  pub cells : AreCells (at_sites sites layout) i first.cells
  pub sessions : AreSessions (at_sites sites layout) i first.cells first.sessions
