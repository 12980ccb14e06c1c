-- What a line asks of the service (this project's own format): what a line of a site's script says, or a look at what
-- the site shows of a record: `show NAME`, `sessions NAME` or `fence NAME H`. Where deltas are marked, a mark stands before the text of
-- each, so that the deltas of other sites are told apart.
use Rattle.std.specs.Prelude.{◌≡◌, ℕ, ◌+◌, ◌==◌, List, [], ◌∷◌, ◌++◌, length, codes, if◌then◌else◌, Option, Some, None}
use Rattle.std.specs.Str.{bytes_eq}
use Rattle.merge_core.specs.Layout.{LayoutState}
use Rattle.merge_core.specs.declared.layout.RecordSpec.{RecordSpec}
use Rattle.script_text.specs.Words.{words_of}
use Rattle.script_text.specs.Asks.{holder_in, record_in}
use Rattle.site_script.specs.Lines.{SaysCall, SaysUnread, SaysNothing}
use Rattle.serve_engine.specs.declared.marks.Marking.{Marking}
use Rattle.serve_engine.specs.declared.marks.Marking.TheVariants.{Marked, Plain}
use Rattle.serve_engine.specs.declared.request.Request.{Request}
use Rattle.serve_engine.specs.declared.request.Request.TheVariants.{Asked, Unread, Show, Sessions, Fence, Unmarked}
use Rattle.serve_engine.specs.Marks.{IsFault, IsMarked, group_word, mark_of, records_digest}

-- what a site reads its lines by: the records of its layout, the name of its group, if it has one, and whether deltas are
-- marked
pub record Terms : Type 0 where
  pub records : List RecordSpec
  pub group : Option (List ℕ)
  pub marking : Marking

abbrev pub terms_of : LayoutState → Option (List ℕ) → Marking → Terms
terms_of layout group marking = record { records = layout.records; group = group; marking = marking }

-- what stands behind a prefix, where the bytes begin with it
abbrev pub rest_behind : List ℕ → List ℕ → Option (List ℕ)
rest_behind [] bytes = Some bytes
rest_behind (p ∷ prefix) [] = None
rest_behind (p ∷ prefix) (b ∷ bytes) = if p == b then rest_behind prefix bytes else None

-- the most bytes of a line: those of a delta's text, of the word before it, and of its mark
abbrev pub line_limit : Option (List ℕ) → Marking → ℕ
line_limit group Plain = 2097157
line_limit group Marked = 2097157 + (length (group_word group) + 27)

-- the record that a verb and a name ask for
abbrev pub record_behind : List RecordSpec → List ℕ → List (List ℕ) → Option ℕ
record_behind records verb [] = None
record_behind records verb (word ∷ words) = if bytes_eq word verb then record_in records words else None

-- the record and the holder that a verb and two words ask for
abbrev pub holder_behind : List RecordSpec → List ℕ → List (List ℕ) → Option (ℕ × ℕ)
holder_behind records verb [] = None
holder_behind records verb (word ∷ words) = if bytes_eq word verb then holder_in records words else None

-- the words that ask for a record's counts, for its sessions, and for the number of a holder inside it
abbrev pub show_word : List ℕ
show_word = codes "show"

abbrev pub sessions_word : List ℕ
sessions_word = codes "sessions"

abbrev pub fence_word : List ℕ
fence_word = codes "fence"

-- a line that asks for nothing
pub record AsksNothing (records : List RecordSpec) (line : List ℕ) : Type 0 where
  pub says_nothing : SaysNothing records line
  pub no_show : record_behind records show_word (words_of line) ≡ None
  pub no_sessions : record_behind records sessions_word (words_of line) ≡ None
  pub no_fence : holder_behind records fence_word (words_of line) ≡ None

-- what a line asks in which a delta's text is not marked, where it asks something
abbrev pub AsksUnmarked : List RecordSpec → List ℕ → Option Request → Type 0
AsksUnmarked records line (Some (Asked call)) = SaysCall records line call
AsksUnmarked records line (Some (Unread e)) = SaysUnread line e
AsksUnmarked records line (Some (Show r)) = record_behind records show_word (words_of line) ≡ Some r
AsksUnmarked records line (Some (Sessions r)) = record_behind records sessions_word (words_of line) ≡ Some r
AsksUnmarked records line (Some (Fence r h)) = holder_behind records fence_word (words_of line) ≡ Some (r, h)
AsksUnmarked records line (Some (Unmarked fault)) = ⊥
AsksUnmarked records line None = AsksNothing records line

-- bytes that are a text behind this site's mark, where `take TEXT` asks this
pub record AsksMarked (terms : Terms) (bytes : List ℕ) (request : Option Request) : Type 0 where
  pub text : List ℕ
  pub marked : IsMarked bytes (mark_of terms.group (records_digest terms.records) text) text
  pub asks : AsksUnmarked terms.records (codes "take " ++ text) request

-- what the bytes behind `take ` ask of a site that takes marked texts: a fault of the mark asks for nothing else
abbrev pub AsksToTake : Terms → List ℕ → Option Request → Type 0
AsksToTake terms bytes (Some (Unmarked fault)) = IsFault terms.group (records_digest terms.records) bytes fault
AsksToTake terms bytes request = AsksMarked terms bytes request

-- what a line asks of a site that takes marked texts, by what stands behind `take `, if it begins so
abbrev pub AsksBehind : Terms → List ℕ → Option (List ℕ) → Option Request → Type 0
AsksBehind terms line None request = AsksUnmarked terms.records line request
AsksBehind terms line (Some bytes) request = AsksToTake terms bytes request

abbrev pub AsksAs : Marking → Terms → List ℕ → Option Request → Type 0
AsksAs Plain terms line request = AsksUnmarked terms.records line request
AsksAs Marked terms line request = AsksBehind terms line (rest_behind (codes "take ") line) request

-- what a line asks
abbrev pub Asks : Terms → List ℕ → Option Request → Type 0
Asks terms line request = AsksAs terms.marking terms line request
