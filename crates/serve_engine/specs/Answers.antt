-- The texts that the service answers with (this project's own format), each with its LF.
use Rattle.std.specs.Prelude.{ℕ, ◌+◌, ◌==◌, nat_lt, Bool, true, false, List, [], ◌∷◌, ◌++◌, length, codes, decimal, if◌then◌else◌, Option}
use Rattle.session_list.specs.declared.session.Session.{Session}
use Rattle.admission_model.specs.declared.reply.Refusal.TheVariants.{Frozen, Memory, NoRecord, StoreFault}
use Rattle.admission_model.specs.declared.reply.Reply.{Reply}
use Rattle.admission_model.specs.declared.reply.Reply.TheVariants.{Refused, Snapshot}
use Rattle.admission_model.specs.Account.{Account, layout_of, inside, sessions_of, writers_here}
use Rattle.admission_model.specs.View.{view_of, rights_of}
use Rattle.script_text.specs.Replies.{phase_word}
use Rattle.live_site.specs.Live.{line_of}
use Rattle.delta_codec.specs.DeltaText.{delta_text}
use Rattle.serve_engine.specs.declared.marks.Marking.{Marking}
use Rattle.serve_engine.specs.declared.marks.Marking.TheVariants.{Marked, Plain}
use Rattle.serve_engine.specs.declared.marks.MarkFault.{MarkFault}
use Rattle.serve_engine.specs.declared.marks.MarkFault.TheVariants.{NoMark, WrongGroup, OtherRecords, Damaged}
use Rattle.serve_engine.specs.Marks.{mark_of, records_digest, with_mark}
use Rattle.serve_engine.specs.Requests.{Terms}

-- refusals of the service itself: a last line that is not complete, a text that is not behind this site's mark, a line that is
-- too long, one without memory, a site that serves no more, and a store that failed
abbrev pub bad_word_line : List ℕ
bad_word_line = codes "refused BadWord\n"

abbrev pub unmarked_line : MarkFault → List ℕ
unmarked_line NoMark = codes "refused NoMark\n"
unmarked_line WrongGroup = codes "refused WrongGroup\n"
unmarked_line OtherRecords = codes "refused OtherRecords\n"
unmarked_line Damaged = codes "refused Damaged\n"

abbrev pub too_long_line : List ℕ
too_long_line = codes "refused TooLong\n"

abbrev pub memory_line : List ℕ
memory_line = line_of (Refused Memory)

abbrev pub frozen_line : List ℕ
frozen_line = line_of (Refused Frozen)

abbrev pub fault_line : List ℕ
fault_line = line_of (Refused StoreFault)

-- the text of a delta as a site sends it
abbrev pub sent_text : Marking → Option (List ℕ) → List ℕ → List ℕ → List ℕ
sent_text Plain group digest text = text
sent_text Marked group digest text = with_mark (mark_of group digest text) text

-- a reply as a line: only a delta that is sent is marked
abbrev pub reply_line : Terms → Reply → List ℕ
reply_line terms (Snapshot delta) = sent_text terms.marking terms.group (records_digest terms.records) (delta_text delta) ++ codes "\n"
reply_line terms reply = line_of reply

-- a number behind a word
abbrev pub field : List ℕ → ℕ → List ℕ
field word n = word ++ decimal n

-- a line that asks for nothing, by the place of the first word that is not right
abbrev pub wrong_word_line : ℕ → List ℕ
wrong_word_line k = field (codes "refused BadWord ") k ++ codes "\n"

-- a delta that would give the site more rights to record r than it has seats
abbrev pub too_many_line : ℕ → List ℕ
too_many_line r = field (codes "refused TooManySeats ") r ++ codes "\n"

-- the counts of a record: the site's rights, the seats inside, and the writers that have not finished
abbrev pub counts_line : Account → ℕ → List ℕ
counts_line a r =
    ((field (codes "rights ") (rights_of (view_of a) r) ++ field (codes " inside ") (inside a r))
    ++ field (codes " unfinished ") (writers_here a r)) ++ codes "\n"

abbrev pub show_line : Account → ℕ → List ℕ
show_line a r = if nat_lt r (length (layout_of a).records) then counts_line a r else line_of (Refused NoRecord)

-- how many sessions there are at a record
abbrev pub number_at : ℕ → List Session → ℕ
number_at r [] = 0
number_at r (s ∷ ss) = (if s.r == r then 1 else 0) + number_at r ss

-- what stands before a session: a blank before the first one, else a comma and a blank
abbrev pub separator : Bool → List ℕ
separator true = codes " "
separator false = codes ", "

-- the sessions of a record: holder and phase of each
abbrev pub sessions_text : ℕ → Bool → List Session → List ℕ
sessions_text r first [] = []
sessions_text r first (s ∷ ss) =
    if s.r == r then separator first ++ (decimal s.h ++ (codes " " ++ (phase_word s.phase ++ sessions_text r false ss)))
    else sessions_text r first ss

-- how many sessions a record has, and which, in order of arrival
abbrev pub list_line : Account → ℕ → List ℕ
list_line a r = decimal (number_at r (sessions_of a)) ++ (sessions_text r true (sessions_of a) ++ codes "\n")

abbrev pub sessions_line : Account → ℕ → List ℕ
sessions_line a r = if nat_lt r (length (layout_of a).records) then list_line a r else line_of (Refused NoRecord)
