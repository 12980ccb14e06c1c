-- What the program does: the command that its arguments ask for, or what is said of them (the project's own).
use Rattle.std.specs.Prelude.{◌≡◌, ◌⊎◌, ℕ, Bool, true, false, List, [], ◌∷◌, ◌++◌, codes, Result, Ok, Err, Option, Some, None, unwrap_or}
use Rattle.merge_core.specs.Layout.{LayoutState, shape_of}
use Rattle.text_input.specs.Source.{HasFault, SourceState}
use Rattle.text_input.specs.Sink.{Prints, SinkState, Writes}
use Rattle.std.specs.declared.io.ErrorKind.{ErrorKind as IoKind}
use Rattle.std.specs.declared.io.ErrorKind.TheVariants as kinds
use Rattle.clap.specs.Words.{Text, IsAmong}
use Rattle.clap.specs.declared.error.ErrorKind.{ErrorKind}
use Rattle.clap.specs.declared.error.ErrorKind.TheVariants.{OutOfMemory, DisplayHelp, DisplayVersion}
use Rattle.command_arguments.specs.declared.arguments.Command.{Command}
use Rattle.command_arguments.specs.declared.arguments.Command.TheVariants.{Join, Play, Site, Serve, Ask, Regroup, Rebuild, Judge, Run}
use Rattle.layout_file.specs.declared.fault.LayoutFault.{LayoutFault}
use Rattle.layout_file.specs.declared.fault.LayoutFault.TheVariants as layout
use Rattle.layout_file.specs.declared.refusal.LayoutRefusal.{LayoutRefusal}
use Rattle.exit_status.specs.declared.status.Status.{Status}
use Rattle.exit_status.specs.declared.status.Status.TheVariants.{Done, Memory, Io}
use Rattle.command_arguments.specs.Arguments.{asked_command, asked_cut, asked_group, asked_layout, asked_log, asked_logs, asked_lost, asked_out, asked_words, usage_errors}
use Rattle.exit_status.specs.Endings.{EndsWith}
use Rattle.join_engine.specs.Engine.{EndsJoin}
use Rattle.judge_engine.specs.declared.cut.CutError.{CutError}
use Rattle.judge_engine.specs.declared.cut.CutError.TheVariants as cut
use Rattle.judge_engine.specs.Cuts.{IsCutFault, cut_in}
use Rattle.layout_file.specs.LayoutFile.{ReadsLayoutFile, built_in_layout, whole_refusal}
use Rattle.play_engine.specs.Plays.{EndsPlay}
use Rattle.stored_site.specs.Databases.{EndsStored}
use Rattle.line_conversation.specs.Stream.{StreamState}
use Rattle.line_conversation.specs.declared.conversation.Conversation.{Ghosts}
use Rattle.program_shell.specs.Notes.{NotedState}
use Rattle.program_shell.specs.OneLine.{OneLineState}
use Rattle.program_shell.specs.declared.group.GroupFault.{GroupFault}
use Rattle.program_shell.specs.ClosedLogs.{EndsJudgeOf}
use Rattle.program_shell.specs.Groups.{group_fault, group_text}
use Rattle.program_shell.specs.Moves.{EndsRebuild, EndsRegroup}
use Rattle.program_shell.specs.Refusals.{EndsWithoutLayout}
use Rattle.program_shell.specs.Runs.{EndsRunTo}
use Rattle.program_shell.specs.Together.{is_logged_together, logged_text}
use Rattle.program_shell.specs.Services.{EndsAsk, EndsServe, marking_of}

-- help or the version: it was printed, or the sink met a fault
abbrev pub EndsPrinted : SinkState → SinkState → SinkState → SinkState → ℕ → Type 0
EndsPrinted sink sink_after errors errors_after code =
    (Prints sink sink_after None × EndsWith Done errors errors_after code)
    ⊎ (HasFault sink_after.fault × EndsWith Io errors errors_after code)

-- wrong arguments: what is wrong was told on standard error, and nowhere else
pub record EndsUsage (sink sink_after errors errors_after : SinkState) (code : ℕ) : Type 0 where
  pub silent : sink_after ≡ sink
  pub told : Prints errors errors_after None ⊎ HasFault errors_after.fault
  pub status : code ≡ 2

-- The end where clap gives no command, by the kind of its error: want of memory; the text of help or of the version;
-- and else arguments that are wrong.
abbrev pub EndsUnasked : ErrorKind → SinkState → SinkState → SinkState → SinkState → ℕ → Type 0
EndsUnasked OutOfMemory sink sink_after errors errors_after code = (sink_after ≡ sink) × EndsWith Memory errors errors_after code
EndsUnasked DisplayHelp sink sink_after errors errors_after code = EndsPrinted sink sink_after errors errors_after code
EndsUnasked DisplayVersion sink sink_after errors errors_after code = EndsPrinted sink sink_after errors errors_after code
EndsUnasked _ sink sink_after errors errors_after code = EndsUsage sink sink_after errors errors_after code

-- what is said of an argument that is not UTF-8
abbrev pub unread_text : List ℕ
unread_text = codes "error: an argument is not UTF-8" ++ 10 ∷ []

-- the arguments could not be read: memory ran out, or one of them is not UTF-8, which is a wrong argument
abbrev pub EndsUnread : IoKind → SinkState → SinkState → ℕ → Type 0
EndsUnread kinds.OutOfMemory errors errors_after code = EndsWith Memory errors errors_after code
EndsUnread _ errors errors_after code = (Writes errors errors_after unread_text ⊎ HasFault errors_after.fault) × (code ≡ 2)

-- why there is no layout where its file did not open
abbrev pub unopened : IoKind → LayoutFault
unopened kinds.OutOfMemory = layout.Memory
unopened _ = layout.NotRead

-- a layout file did not open, so that there is no layout
abbrev pub IsUnopened : Result LayoutState LayoutRefusal → Type 0
IsUnopened answer = (kind : IoKind) × (answer ≡ Err (whole_refusal (unopened kind)))

-- what the program finds without a layout file: the built-in layout
abbrev pub FindsBuiltIn : Result LayoutState LayoutRefusal → Type 0
FindsBuiltIn (Ok layout) = layout ≡ built_in_layout
FindsBuiltIn (Err refusal) = refusal ≡ whole_refusal layout.Memory

-- What it finds in a layout file that was opened, and of which nothing was read before: what all its bytes describe, or
-- that it could not be read, or is too long. No contract can say at which path it stands, or what is in it.
pub record FindsFile {F : Type 0} (remaining : F → Option (List ℕ)) (answer : Result LayoutState LayoutRefusal) : Type 0 where
  pub opened : F
  pub source_after : SourceState
  pub read : ReadsLayoutFile (record { remaining = remaining opened; fault = None }) source_after answer

-- what the program finds for a layout: the built-in one, or what is in the file that is named, if that was opened
abbrev pub FindsLayout : {F : Type 0} → (F → Option (List ℕ)) → Option Text → Result LayoutState LayoutRefusal → Type 0
FindsLayout remaining None answer = FindsBuiltIn answer
FindsLayout remaining (Some path) answer = FindsFile remaining answer ⊎ IsUnopened answer

-- The cut that the arguments name: all calls, where they name none. A word that names no cut is refused; memory may run
-- out over any word.
abbrev pub FindsCut : Option Text → Result (Option (List ℕ)) CutError → Type 0
FindsCut None answer = answer ≡ Ok None
FindsCut (Some word) (Ok lengths) = cut_in word ≡ Some lengths
FindsCut (Some word) (Err error) = IsCutFault word error

-- what is said of a word that names no cut
abbrev pub no_cut_text : List ℕ
no_cut_text = codes "cut refused BadWord\n"

-- the end where there is no cut: wrong arguments, or want of memory
abbrev pub EndsWithoutCut : CutError → SinkState → SinkState → ℕ → Type 0
EndsWithoutCut cut.BadWord errors errors_after code = (Writes errors errors_after no_cut_text ⊎ HasFault errors_after.fault) × (code ≡ 2)
EndsWithoutCut cut.Memory errors errors_after code = EndsWith Memory errors errors_after code

-- an engine ended so, and the program with it
abbrev pub EndsBy : (Status → Type 0) → SinkState → SinkState → ℕ → Type 0
EndsBy Ends errors errors_after code = (ended : Status) × Ends ended × EndsWith ended errors errors_after code

module _ (t : Ghosts (NotedState StreamState)) (u : Ghosts (NotedState OneLineState)) where
  -- a command under a layout: what its engine did, and how the program ended
  abbrev pub EndsCommand : {F : Type 0} → (F → Option (List ℕ)) → Command → Option (List ℕ) → Option Text → Option Text → Option Text → List ℕ → List Text
      → List (Option Text) → LayoutState → SourceState → SourceState → SinkState → SinkState → SinkState → SinkState → ℕ → Type 0
  EndsCommand remaining Join lengths out log group others logs words layout source source_after sink sink_after errors errors_after code =
      EndsBy (EndsJoin (shape_of layout) source source_after sink sink_after) errors errors_after code
  EndsCommand remaining (Play tables first) lengths out log group others logs words layout source source_after sink sink_after errors errors_after code =
      EndsBy (EndsPlay layout first tables source source_after sink sink_after) errors errors_after code
  EndsCommand remaining (Site site) lengths out log group others logs words layout source source_after sink sink_after errors errors_after code =
      EndsBy (EndsStored layout site source source_after sink sink_after) errors errors_after code
  EndsCommand remaining (Serve serving) lengths out log group others logs words layout source source_after sink sink_after errors errors_after code =
      EndsServe t serving.together layout serving.site group (marking_of serving.plain) log source source_after sink sink_after errors errors_after code
  EndsCommand remaining (Ask serving) lengths out log group others logs words layout source source_after sink sink_after errors errors_after code =
      (source_after ≡ source) × EndsAsk u layout serving.site group (marking_of serving.plain) log words sink sink_after errors errors_after code
  EndsCommand remaining (Regroup site) lengths out log group others logs words layout source source_after sink sink_after errors errors_after code =
      (source_after ≡ source) × EndsRegroup layout site (unwrap_or group []) sink sink_after errors errors_after code
  EndsCommand remaining (Rebuild site) lengths out log group others logs words layout source source_after sink sink_after errors errors_after code =
      EndsRebuild layout site others (unwrap_or group []) source source_after sink sink_after errors errors_after code
  EndsCommand remaining Judge lengths out log group others logs words layout source source_after sink sink_after errors errors_after code =
      EndsJudgeOf remaining logs lengths layout source source_after sink sink_after errors errors_after code
  EndsCommand remaining (Run turns) lengths out log group others logs words layout source source_after sink sink_after errors errors_after code =
      EndsBy (EndsRunTo out layout source source_after sink sink_after) errors errors_after code

  -- a command under what was found for a layout: without a layout nothing is read or written
  abbrev pub EndsUnder : {F : Type 0} → (F → Option (List ℕ)) → Command → Option (List ℕ) → Option Text → Option Text → Option Text → List ℕ → List Text
      → List (Option Text) → Result LayoutState LayoutRefusal → SourceState → SourceState → SinkState → SinkState → SinkState → SinkState → ℕ → Type 0
  EndsUnder remaining command lengths out log group others logs words (Ok layout) source source_after sink sink_after errors errors_after code =
      EndsCommand remaining command lengths out log group others logs words layout source source_after sink sink_after errors errors_after code
  EndsUnder remaining command lengths out log group others logs words (Err refusal) source source_after sink sink_after errors errors_after code =
      (source_after ≡ source) × (sink_after ≡ sink) × EndsWithoutLayout command refusal errors errors_after code

  -- a command is asked for, and that one was carried out under the cut and the layout that the arguments name
  pub record RunsCommand {F : Type 0} (remaining : F → Option (List ℕ)) (arguments : List Text)
      (source source_after : SourceState) (sink sink_after errors errors_after : SinkState) (code : ℕ) : Type 0 where
    pub asked : usage_errors arguments ≡ []
    pub lengths : Option (List ℕ)
    pub cut_found : FindsCut (asked_cut arguments) (Ok lengths)
    pub group_fits : group_fault (asked_command arguments) (asked_group arguments) ≡ None
    pub one_of_both : is_logged_together (asked_command arguments) (asked_log arguments) ≡ false
    pub layout : Result LayoutState LayoutRefusal
    pub found : FindsLayout remaining (asked_layout arguments) layout
    pub carried_out : EndsUnder remaining (asked_command arguments) lengths (asked_out arguments) (asked_log arguments) (asked_group arguments)
        (asked_lost arguments) (asked_logs arguments) (asked_words arguments) layout source source_after sink sink_after errors errors_after code

-- a command is asked for, and a word that names no cut, or memory ran out: nothing is read or written
pub record RefusesCut (arguments : List Text) (source source_after : SourceState) (sink sink_after errors errors_after : SinkState) (code : ℕ) : Type 0 where
  pub asked : usage_errors arguments ≡ []
  pub error : CutError
  pub refused : FindsCut (asked_cut arguments) (Err error)
  pub unread : source_after ≡ source
  pub unwritten : sink_after ≡ sink
  pub told : EndsWithoutCut error errors errors_after code

-- the group that the arguments name is refused: nothing is read or written
pub record RefusesGroup (arguments : List Text) (source source_after : SourceState) (sink sink_after errors errors_after : SinkState) (code : ℕ) : Type 0 where
  pub asked : usage_errors arguments ≡ []
  pub fault : GroupFault
  pub refused : group_fault (asked_command arguments) (asked_group arguments) ≡ Some fault
  pub unread : source_after ≡ source
  pub unwritten : sink_after ≡ sink
  pub told : Writes errors errors_after (group_text fault) ⊎ HasFault errors_after.fault
  pub status : code ≡ 2

-- the arguments ask for calls that are committed together, and for a log: nothing is read or written
pub record RefusesTogether (arguments : List Text) (source source_after : SourceState) (sink sink_after errors errors_after : SinkState) (code : ℕ) : Type 0 where
  pub asked : usage_errors arguments ≡ []
  pub refused : is_logged_together (asked_command arguments) (asked_log arguments) ≡ true
  pub unread : source_after ≡ source
  pub unwritten : sink_after ≡ sink
  pub told : Writes errors errors_after logged_text ⊎ HasFault errors_after.fault
  pub status : code ≡ 2

-- no command is asked for, or memory ran out: nothing is read, and what clap says is told
pub record RunsNone (arguments : List Text) (source source_after : SourceState) (sink sink_after errors errors_after : SinkState) (code : ℕ) : Type 0 where
  pub kind : ErrorKind
  pub found : (kind ≡ OutOfMemory) ⊎ IsAmong kind (usage_errors arguments)
  pub unread : source_after ≡ source
  pub told : EndsUnasked kind sink sink_after errors errors_after code

-- what the program does with its arguments
abbrev pub RunsProgram : {F : Type 0} → (F → Option (List ℕ)) → Ghosts (NotedState StreamState) → Ghosts (NotedState OneLineState) → List Text → SourceState → SourceState
    → SinkState → SinkState → SinkState → SinkState → ℕ → Type 0
RunsProgram remaining t u arguments source source_after sink sink_after errors errors_after code =
    RunsCommand t u remaining arguments source source_after sink sink_after errors errors_after code
    ⊎ RefusesCut arguments source source_after sink sink_after errors errors_after code
    ⊎ RefusesGroup arguments source source_after sink sink_after errors errors_after code
    ⊎ RefusesTogether arguments source source_after sink sink_after errors errors_after code
    ⊎ RunsNone arguments source source_after sink sink_after errors errors_after code
