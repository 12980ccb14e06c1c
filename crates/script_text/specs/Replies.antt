-- How a site's replies are written (this project's own format): a word or two, and the reply's numbers behind them,
-- each after a blank.
use Rattle.std.specs.Prelude.{ℕ, List, [], ◌∷◌, ◌++◌, codes, decimal}
use Rattle.session_list.specs.declared.session.Phase.{Phase}
use Rattle.session_list.specs.declared.session.Phase.TheVariants.{Reader, Waiting, Writer}
use Rattle.admission_model.specs.declared.reply.Refusal.{Refusal}
use Rattle.admission_model.specs.declared.reply.Refusal.TheVariants.{NoRecord, BadHolder, AlreadyHere, CounterFull, WriterAnnounced, NoSeat, TooManyWriters, NotAnnounced, AlreadyInside, MissingSeats, NotHere, NoSite, ToSelf, ZeroSeats, TooFewRights, NoPlan, OtherLayout, BadRow, OwnRowAhead, Memory, Frozen, LogFull, StoreFault}
use Rattle.admission_model.specs.declared.reply.Reply.{Reply}
use Rattle.admission_model.specs.declared.reply.Reply.TheVariants.{Admitted, Announced, Left, Given, Gave, Merged, Snapshot, Refused}
use Rattle.delta_codec.specs.DeltaText.{delta_text}

-- what a session is doing
abbrev pub phase_word : Phase → List ℕ
phase_word Reader = codes "reader"
phase_word Waiting = codes "waiting"
phase_word Writer = codes "writer"

abbrev pub refusal_name : Refusal → List ℕ
refusal_name NoRecord = codes "NoRecord"
refusal_name BadHolder = codes "BadHolder"
refusal_name AlreadyHere = codes "AlreadyHere"
refusal_name CounterFull = codes "CounterFull"
refusal_name (WriterAnnounced site) = codes "WriterAnnounced"
refusal_name (NoSeat rights) = codes "NoSeat"
refusal_name TooManyWriters = codes "TooManyWriters"
refusal_name NotAnnounced = codes "NotAnnounced"
refusal_name AlreadyInside = codes "AlreadyInside"
refusal_name (MissingSeats rights seats) = codes "MissingSeats"
refusal_name NotHere = codes "NotHere"
refusal_name NoSite = codes "NoSite"
refusal_name ToSelf = codes "ToSelf"
refusal_name ZeroSeats = codes "ZeroSeats"
refusal_name (TooFewRights rights) = codes "TooFewRights"
refusal_name NoPlan = codes "NoPlan"
refusal_name (OtherLayout row) = codes "OtherLayout"
refusal_name (BadRow row) = codes "BadRow"
refusal_name (OwnRowAhead rec) = codes "OwnRowAhead"
refusal_name Memory = codes "Memory"
refusal_name Frozen = codes "Frozen"
refusal_name LogFull = codes "LogFull"
refusal_name StoreFault = codes "StoreFault"

-- what a refusal tells beside its name
abbrev pub refusal_numbers : Refusal → List ℕ
refusal_numbers (WriterAnnounced site) = site ∷ []
refusal_numbers (NoSeat rights) = rights ∷ []
refusal_numbers (MissingSeats rights seats) = rights ∷ seats ∷ []
refusal_numbers (TooFewRights rights) = rights ∷ []
refusal_numbers (OtherLayout row) = row ∷ []
refusal_numbers (BadRow row) = row ∷ []
refusal_numbers (OwnRowAhead rec) = rec ∷ []
refusal_numbers other = []

-- numbers, each after a blank
abbrev pub numbers_text : List ℕ → List ℕ
numbers_text [] = []
numbers_text (n ∷ ns) = codes " " ++ (decimal n ++ numbers_text ns)

abbrev pub refusal_text : Refusal → List ℕ
refusal_text x = codes "refused " ++ (refusal_name x ++ numbers_text (refusal_numbers x))

-- a writer that waits withdraws; who is inside leaves
abbrev pub left_text : Phase → List ℕ
left_text Reader = codes "left reader"
left_text Waiting = codes "withdrawn"
left_text Writer = codes "left writer"

-- A snapshot is written as the delta that it is.
abbrev pub reply_text : Reply → List ℕ
reply_text Admitted = codes "admitted"
reply_text (Announced number) = codes "announced" ++ numbers_text (number ∷ [])
reply_text (Left phase) = left_text phase
reply_text Given = codes "given"
reply_text (Gave to seats) = codes "gave" ++ numbers_text (to ∷ seats ∷ [])
reply_text (Merged risen) = codes "merged" ++ numbers_text (risen ∷ [])
reply_text (Snapshot delta) = delta_text delta
reply_text (Refused refusal) = refusal_text refusal

-- the line that tells of the first line of a script that says nothing, counted from 1
abbrev pub unread_line : ℕ → List ℕ
unread_line number = (codes "line " ++ decimal number) ++ codes " refused BadWord\n"
