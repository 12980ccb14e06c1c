-- What a site tells of whoever is inside a record: a fencing number (the sequencers of Burrows, "The Chubby lock service for
-- loosely-coupled distributed systems", 2006), or why there is none.
use Rattle.std.specs.Prelude.{ℕ, ◌+◌, ◌*◌, nat_lt, Bool, true, false, List, [], ◌∷◌, ◌++◌, length, codes, if◌then◌else◌, Option, Some, None}
use Rattle.session_list.specs.declared.session.Phase.{Phase}
use Rattle.session_list.specs.declared.session.Phase.TheVariants.{Reader, Waiting, Writer}
use Rattle.admission_model.specs.declared.reply.Refusal.{Refusal}
use Rattle.admission_model.specs.declared.reply.Refusal.TheVariants.{AlreadyInside, BadHolder, NoRecord, NotAnnounced, NotHere}
use Rattle.admission_model.specs.declared.reply.Reply.TheVariants.{Refused}
use Rattle.admission_model.specs.Account.{Account, layout_of}
use Rattle.admission_model.specs.View.{View, view_of}
use Rattle.admission_model.specs.Replies.{first_reason, holder_limit, line}
use Rattle.fencing_laws.specs.Fences.{number_of}
use Rattle.live_site.specs.Live.{line_of}
use Rattle.serve_engine.specs.Answers.{field}

-- how far the numbers of a group's generations are apart: 2^44, which is more than any count of finished writers (the
-- project's own)
abbrev pub generation_width : ℕ
generation_width = 17592186044416

-- the number of whoever is inside a record, by the generation of the site's group; no generation has a number of another
-- (`generation_law`)
abbrev pub fence_number : ℕ → Account → ℕ → ℕ
fence_number generation a r = generation * generation_width + number_of a r

-- there is no session, or that of a writer that waits
abbrev pub is_not_inside : Option Phase → Bool
is_not_inside None = true
is_not_inside (Some Reader) = false
is_not_inside (Some Waiting) = true
is_not_inside (Some Writer) = false

-- why a holder has no number, as in the reply table (the project's own)
abbrev pub fence_reason : View → ℕ → ℕ → Option Refusal
fence_reason v r h = first_reason (line (nat_lt holder_limit h) BadHolder ∷ line (is_not_inside (v.phase r h)) NotHere ∷ [])

-- the same, by why the holder could not leave, and why it could not enter as a writer that waits
abbrev pub if_not_inside : Option Refusal → Option Refusal
if_not_inside (Some NotAnnounced) = None
if_not_inside (Some AlreadyInside) = None
if_not_inside _ = Some NotHere

abbrev pub inside_or_not : Option Refusal → Option Refusal → Option Refusal
inside_or_not (Some refusal) entered = Some refusal
inside_or_not None entered = if_not_inside entered

-- a refusal, or the number
abbrev pub told_fence : Option Refusal → ℕ → List ℕ
told_fence (Some refusal) number = line_of (Refused refusal)
told_fence None number = field (codes "fence ") number ++ codes "\n"

-- what is told of a holder at a record that is there
abbrev pub holder_line : ℕ → Account → ℕ → ℕ → List ℕ
holder_line generation a r h = told_fence (fence_reason (view_of a) r h) (fence_number generation a r)

abbrev pub fence_line : ℕ → Account → ℕ → ℕ → List ℕ
fence_line generation a r h =
    if nat_lt r (length (layout_of a).records) then holder_line generation a r h else line_of (Refused NoRecord)
