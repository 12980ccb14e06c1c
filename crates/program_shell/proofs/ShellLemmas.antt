-- A command that was carried out is the one that the arguments ask for.
use Rattle.std.proofs.Common.{◌≡◌, ℕ, List, Option, subst}
use Rattle.clap.specs.Words.{Text}
use Rattle.merge_core.specs.Layout.{LayoutState}
use Rattle.text_input.specs.Source.{SourceState}
use Rattle.text_input.specs.Sink.{SinkState}
use Rattle.line_conversation.specs.Stream.{StreamState}
use Rattle.line_conversation.specs.declared.conversation.Conversation.{Ghosts}
use Rattle.program_shell.specs.Notes.{NotedState}
use Rattle.program_shell.specs.OneLine.{OneLineState}
use Rattle.command_arguments.specs.declared.arguments.Command.{Command}
use Rattle.serve_engine.specs.declared.marks.Marking.{Marking}
use Rattle.program_shell.specs.Services.{EndsAsk, EndsServe}
use Rattle.program_shell.specs.Shell.{EndsCommand}

module _ (t : Ghosts (NotedState StreamState)) (u : Ghosts (NotedState OneLineState)) {F : Type 0} (remaining : F → Option (List ℕ)) (lengths : Option (List ℕ)) (layout : LayoutState) (source source_after : SourceState)
    (sink sink_after errors errors_after : SinkState) (code : ℕ) where
  abbrev Ends : Command → Option Text → Option Text → Option Text → List ℕ → List Text → List (Option Text) → Type 0
  Ends command out log group others logs words =
      EndsCommand t u remaining command lengths out log group others logs words layout source source_after sink sink_after errors errors_after code

  pub carried_by : (c d : Command) (o p l m g h : Option Text) (xs ys : List ℕ) (ks js : List Text) (ws vs : List (Option Text)) → c ≡ d → o ≡ p → l ≡ m → g ≡ h → xs ≡ ys → ks ≡ js → ws ≡ vs
      → EndsCommand t u remaining c lengths o l g xs ks ws layout source source_after sink sink_after errors errors_after code
      → EndsCommand t u remaining d lengths p m h ys js vs layout source source_after sink sink_after errors errors_after code
  carried_by c d o p l m g h xs ys ks js ws vs same_command same_out same_log same_group same_others same_logs same_words ends =
      subst (λ (x : List (Option Text)). Ends d p m h ys js x) same_words
      (subst (λ (x : List Text). Ends d p m h ys x ws) same_logs
      (subst (λ (x : List ℕ). Ends d p m h x ks ws) same_others
      (subst (λ (x : Option Text). Ends d p m x xs ks ws) same_group
      (subst (λ (x : Option Text). Ends d p x g xs ks ws) same_log
      (subst (λ (x : Option Text). Ends d x l g xs ks ws) same_out
      (subst (λ (x : Command). Ends x o l g xs ks ws) same_command ends))))))

-- A service is opened by what the arguments say of it.
module _ (u : Ghosts (NotedState OneLineState)) (layout : LayoutState) (words : List (Option Text)) (sink sink_after errors errors_after : SinkState) (code : ℕ) where
  abbrev Asks : ℕ → Option Text → Marking → Option Text → Type 0
  Asks i group marking log = EndsAsk u layout i group marking log words sink sink_after errors errors_after code

  pub asked_by : (i j : ℕ) (g h : Option Text) (m n : Marking) (l k : Option Text) → i ≡ j → g ≡ h → m ≡ n → l ≡ k → Asks i g m l → Asks j h n k
  asked_by i j g h m n l k same_site same_group same_marking same_log ends =
      subst (λ (x : Option Text). Asks j h n x) same_log
      (subst (λ (x : Marking). Asks j h x l) same_marking
      (subst (λ (x : Option Text). Asks j x m l) same_group
      (subst (λ (x : ℕ). Asks x g m l) same_site ends)))

module _ (t : Ghosts (NotedState StreamState)) (layout : LayoutState) (source source_after : SourceState) (sink sink_after errors errors_after : SinkState) (code : ℕ) where
  abbrev Serves : ℕ → ℕ → Option Text → Marking → Option Text → Type 0
  Serves together i group marking log = EndsServe t together layout i group marking log source source_after sink sink_after errors errors_after code

  pub served_by : (s r i j : ℕ) (g h : Option Text) (m n : Marking) (l k : Option Text) → s ≡ r → i ≡ j → g ≡ h → m ≡ n → l ≡ k → Serves s i g m l → Serves r j h n k
  served_by s r i j g h m n l k same_together same_site same_group same_marking same_log ends =
      subst (λ (x : Option Text). Serves r j h n x) same_log
      (subst (λ (x : Marking). Serves r j h x l) same_marking
      (subst (λ (x : Option Text). Serves r j x m l) same_group
      (subst (λ (x : ℕ). Serves r x g m l) same_site
      (subst (λ (x : ℕ). Serves x i g m l) same_together ends))))
