-- What the commands that serve a site at once do (the project's own).
use Rattle.std.specs.Prelude.{◌≡◌, ◌==◌, ◌&&◌, ◌⊎◌, ℕ, nat_lt, Bool, true, false, List, [], ◌∷◌, ◌++◌, Option, Some, None, option_copied, option_map, unwrap_or, if◌then◌else◌}
use Rattle.clap.specs.Words.{Text}
use Rattle.merge_core.specs.Layout.{LayoutState}
use Rattle.text_input.specs.Source.{SourceState}
use Rattle.text_input.specs.Sink.{SinkState}
use Rattle.exit_status.specs.declared.status.Status.TheVariants.{Memory}
use Rattle.exit_status.specs.Endings.{EndsWith, Says}
use Rattle.line_conversation.specs.Stream.{StreamState}
use Rattle.line_conversation.specs.declared.conversation.Conversation.{Ghosts}
use Rattle.serve_engine.specs.declared.marks.Marking.{Marking}
use Rattle.serve_engine.specs.declared.marks.Marking.TheVariants.{Marked, Plain}
use Rattle.serve_engine.specs.Requests.{line_limit}
use Rattle.program_shell.specs.Notes.{NotedState}
use Rattle.program_shell.specs.OneLine.{OneLineState}
use Rattle.live_databases.specs.declared.databases.Opening.{Opening}
use Rattle.live_databases.specs.declared.service_end.ServiceEnd.{ServiceEnd}
use Rattle.live_databases.specs.Endings.{EndsServiceWith, service_code, service_line, with_note}
use Rattle.live_databases.specs.LiveDatabases.{EndsLive}
use Rattle.live_databases.specs.LiveRounds.{EndsLiveRounds}

-- whether deltas travel with a mark
abbrev pub marking_of : Bool → Marking
marking_of true = Plain
marking_of false = Marked

-- a conversation with a source and a sink before any turn, of which nothing is noted
abbrev pub stream_between : Option Text → Marking → SourceState → SinkState → NotedState StreamState
stream_between group marking source sink = record {
  talk = record { source = source; sink = sink; ahead = []; kept = []; limit = line_limit group marking; ended = false; broken = false; reads = 0 };
  refused = false;
  outdated = false;
}

-- what a conversation came to, by how many calls are committed together: line by line, or in rounds
abbrev pub EndsLines : {C : Type 0} → Ghosts C → Bool → ℕ → LayoutState → ℕ → Option Text → Marking → Option Text → C → C → ServiceEnd → Type 0
EndsLines t false most layout i group marking log talk talk_after ended = EndsLive t layout i group marking log talk talk_after ended
EndsLines t true most layout i group marking log talk talk_after ended = EndsLiveRounds t most layout i group marking talk talk_after ended

-- `serve` answered the lines of a source into a sink
pub record ServesLines (t : Ghosts (NotedState StreamState)) (together : ℕ) (layout : LayoutState) (i : ℕ) (group : Option Text) (marking : Marking)
    (log : Option Text) (source source_after : SourceState) (sink sink_after errors errors_after : SinkState) (code : ℕ) : Type 0 where
  pub after : NotedState StreamState
  pub ended : ServiceEnd
  pub served : EndsLines t (nat_lt 1 together) together layout i group marking log (stream_between group marking source sink) after ended
  pub source_left : source_after ≡ after.talk.source
  pub sink_left : sink_after ≡ after.talk.sink
  pub told : EndsServiceWith (with_note ended after.outdated) errors errors_after code

-- memory ran out first, and nothing was read or written
pub record ServesNone (source source_after : SourceState) (sink sink_after errors errors_after : SinkState) (code : ℕ) : Type 0 where
  pub unread : source_after ≡ source
  pub unwritten : sink_after ≡ sink
  pub told : EndsWith Memory errors errors_after code

-- the command `serve`
abbrev pub EndsServe : Ghosts (NotedState StreamState) → ℕ → LayoutState → ℕ → Option Text → Marking → Option Text → SourceState → SourceState
    → SinkState → SinkState → SinkState → SinkState → ℕ → Type 0
EndsServe t together layout i group marking log source source_after sink sink_after errors errors_after code =
    ServesLines t together layout i group marking log source source_after sink sink_after errors errors_after code
    ⊎ ServesNone source source_after sink sink_after errors errors_after code

-- the same of what is to be opened, and what a conversation over that came to
abbrev pub ServesOpening : Ghosts (NotedState StreamState) → Opening → LayoutState → SourceState → SourceState → SinkState → SinkState → SinkState → SinkState → ℕ → Type 0
ServesOpening t o layout source source_after sink sink_after errors errors_after code =
    EndsServe t o.together layout o.service.site (option_copied o.service.group) o.service.marking (option_map (λ path. path.now) o.log)
    source source_after sink sink_after errors errors_after code

abbrev pub LinesOfOpening : {C : Type 0} → Ghosts C → Opening → LayoutState → C → C → ServiceEnd → Type 0
LinesOfOpening t o layout talk talk_after ended =
    EndsLines t (nat_lt 1 o.together) o.together layout o.service.site (option_copied o.service.group) o.service.marking (option_map (λ path. path.now) o.log)
    talk talk_after ended

-- the words behind the first one, each behind a blank
abbrev pub behind : List (Option Text) → List ℕ
behind [] = []
behind (None ∷ words) = behind words
behind (Some word ∷ words) = 32 ∷ (word ++ behind words)

-- the words of a call as a line
abbrev pub spoken : List (Option Text) → List ℕ
spoken [] = []
spoken (word ∷ words) = unwrap_or word [] ++ behind words

-- a conversation of this line before any turn, of which nothing is noted
abbrev pub one_line : List ℕ → SinkState → NotedState OneLineState
one_line line sink = record { talk = record { line = line; taken = false; sink = sink }; refused = false; outdated = false }

-- the exit status of a call: 1 where it was refused and nothing else went wrong
abbrev pub call_code : ℕ → Bool → ℕ
call_code code refused = if (code == 0) && refused then 1 else code

-- `ask` made its call
pub record MakesCall (t : Ghosts (NotedState OneLineState)) (layout : LayoutState) (i : ℕ) (group : Option Text) (marking : Marking) (log : Option Text) (words : List (Option Text))
    (sink sink_after errors errors_after : SinkState) (code : ℕ) : Type 0 where
  pub after : NotedState OneLineState
  pub ended : ServiceEnd
  pub served : EndsLive t layout i group marking log (one_line (spoken words) sink) after ended
  pub sink_left : sink_after ≡ after.talk.sink
  pub status : code ≡ call_code (service_code (with_note ended after.outdated)) after.refused
  pub said : Says errors errors_after (service_line (with_note ended after.outdated))

-- memory ran out first, and nothing was written
pub record MakesNone (sink sink_after errors errors_after : SinkState) (code : ℕ) : Type 0 where
  pub unwritten : sink_after ≡ sink
  pub told : EndsWith Memory errors errors_after code

-- the command `ask`
abbrev pub EndsAsk : Ghosts (NotedState OneLineState) → LayoutState → ℕ → Option Text → Marking → Option Text → List (Option Text) → SinkState → SinkState → SinkState → SinkState → ℕ → Type 0
EndsAsk t layout i group marking log words sink sink_after errors errors_after code =
    MakesCall t layout i group marking log words sink sink_after errors errors_after code
    ⊎ MakesNone sink sink_after errors errors_after code

-- the same of what is to be opened
abbrev pub AsksOpening : Ghosts (NotedState OneLineState) → Opening → LayoutState → List (Option Text) → SinkState → SinkState → SinkState → SinkState → ℕ → Type 0
AsksOpening t o layout words sink sink_after errors errors_after code =
    EndsAsk t layout o.service.site (option_copied o.service.group) o.service.marking (option_map (λ path. path.now) o.log)
    words sink sink_after errors errors_after code
