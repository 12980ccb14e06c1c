-- What the program says of a layout that is refused (the project's own): the line that names the fault, and, where a site is
-- to be served at once, moved or built again, behind it the line that names the record at fault.
use Rattle.std.specs.Prelude.{◌≡◌, ℕ, List, [], ◌++◌, codes, decimal, Option, Some, None}
use Rattle.command_arguments.specs.declared.arguments.Command.{Command}
use Rattle.command_arguments.specs.declared.arguments.Command.TheVariants.{Serve, Ask, Regroup, Rebuild}
use Rattle.text_input.specs.Sink.{SinkState}
use Rattle.layout_file.specs.declared.refusal.LayoutRefusal.{LayoutRefusal}
use Rattle.exit_status.specs.Endings.{Says, status_code, status_line, without_layout}

-- the place of the record that a command names: `serve`, `ask`, `regroup` and `rebuild` name one
abbrev pub named_place : Command → Option ℕ → Option ℕ
named_place (Serve serving) place = place
named_place (Ask serving) place = place
named_place (Regroup site) place = place
named_place (Rebuild site) place = place
named_place command place = None

-- the line that names a record by its place
abbrev pub record_line : Option ℕ → List ℕ
record_line None = []
record_line (Some place) = codes "record " ++ (decimal place ++ codes "\n")

-- what a command says of a layout that is refused
abbrev pub refusal_text : Command → LayoutRefusal → List ℕ
refusal_text command refusal = status_line (without_layout refusal.fault) ++ record_line (named_place command refusal.place)

-- the program ended without a layout: the exit status, and what the command says
pub record EndsWithoutLayout (command : Command) (refusal : LayoutRefusal) (errors errors_after : SinkState) (code : ℕ) : Type 0 where
  pub status : code ≡ status_code (without_layout refusal.fault)
  pub said : Says errors errors_after (refusal_text command refusal)
