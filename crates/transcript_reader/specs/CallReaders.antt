-- The reading of a call without a delta, from left to right up to the closing quote: its first letter tells what it is. For
-- private clauses: that exactly the texts of such calls are read is proved in proofs/.
use Rattle.std.specs.Prelude.{ℕ, ◌==◌, List, [], ◌∷◌, codes, if◌then◌else◌, Option, Some, None}
use Rattle.merge_core.specs.declared.layout.RecordSpec.{RecordSpec}
use Rattle.admission_model.specs.declared.ask.Ask.{Ask}
use Rattle.admission_model.specs.declared.ask.Ask.TheVariants.{Read as ReadAsk, Announce as AnnounceAsk, Quill as QuillAsk, Leave as LeaveAsk, Give as GiveAsk, Help as HelpAsk}
use Rattle.admission_model.specs.declared.ask.Call.{Call}
use Rattle.admission_model.specs.declared.ask.Call.TheVariants.{Ask as AskCall, Snapshot}
use Rattle.text_parts.specs.Readers.{◌>>=◌, after}
use Rattle.transcript_reader.specs.declared.asks.Held.{Held}
use Rattle.transcript_reader.specs.declared.asks.Held.TheVariants.{Read, Announce, Write, Leave}
use Rattle.transcript_reader.specs.declared.asks.Verb.{Verb}
use Rattle.transcript_reader.specs.declared.asks.Verb.TheVariants.{Held as HeldVerb, Give, Help}
use Rattle.transcript_reader.specs.Words.{record_at, last_number, gift_at}

-- a verb behind its first letter
abbrev pub verb_behind : List ℕ → Verb → List ℕ → Option (Verb × List ℕ)
verb_behind literal verb bytes = after literal bytes >>= λ rest. Some (verb, rest)

unfoldable pub verb_at : List ℕ → Option (Verb × List ℕ)
verb_at [] = None
verb_at (b ∷ bs) =
    if b == 114 then verb_behind (codes "ead ") (HeldVerb Read) bs else (
    if b == 108 then verb_behind (codes "eave ") (HeldVerb Leave) bs else (
    if b == 97 then verb_behind (codes "nnounce ") (HeldVerb Announce) bs else (
    if b == 119 then verb_behind (codes "rite ") (HeldVerb Write) bs else (
    if b == 104 then verb_behind (codes "elp ") Help bs else (
    if b == 103 then verb_behind (codes "ive ") Give bs else None)))))

abbrev pub held_ask : Held → ℕ → ℕ → Ask
held_ask Read r h = ReadAsk r h
held_ask Announce r h = AnnounceAsk r h
held_ask Write r h = QuillAsk r h
held_ask Leave r h = LeaveAsk r h

-- what is asked, behind its record
abbrev pub ask_behind : Verb → ℕ → List ℕ → Option (Ask × List ℕ)
ask_behind (HeldVerb held) r bytes = do
  rest ← after (codes " ") bytes
  h ← last_number rest
  Some (held_ask held r h.0, h.1)
ask_behind Give r bytes = do
  rest ← after (codes " ") bytes
  gift ← gift_at rest
  Some (GiveAsk r gift.0 gift.1, gift.2)
ask_behind Help r bytes = do
  rest ← after (codes "\"") bytes
  Some (HelpAsk r, rest)

-- what is asked of a site
unfoldable pub ask_at : List RecordSpec → List ℕ → Option (Ask × List ℕ)
ask_at records bytes = do
  verb ← verb_at bytes
  r ← record_at records verb.1
  ask_behind verb.0 r.0 r.1

abbrev pub snapshot_call : List ℕ → Option (Call × List ℕ)
snapshot_call bytes = after (codes "end\"") bytes >>= λ rest. Some (Snapshot, rest)

abbrev pub ask_call : List RecordSpec → List ℕ → Option (Call × List ℕ)
ask_call records bytes = ask_at records bytes >>= λ ask. Some (AskCall ask.0, ask.1)

-- a call without a delta
unfoldable pub worded_call : List RecordSpec → List ℕ → Option (Call × List ℕ)
worded_call records [] = ask_call records []
worded_call records (b ∷ bs) = if b == 115 then snapshot_call bs else ask_call records (b ∷ bs)
