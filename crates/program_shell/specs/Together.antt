-- Calls that are committed together (group commit; this project's own rules of its arguments).
use Rattle.std.specs.Prelude.{ℕ, ◌&&◌, nat_lt, Bool, false, List, codes, Option, is_some}
use Rattle.command_arguments.specs.declared.arguments.Command.{Command}
use Rattle.command_arguments.specs.declared.arguments.Command.TheVariants.{Serve}

-- whether a command asks for calls that are committed together, and for a log
abbrev pub is_logged_together : Command → Option (List ℕ) → Bool
is_logged_together (Serve serving) log = nat_lt 1 serving.together && is_some log
is_logged_together command log = false

-- what is said of it
abbrev pub logged_text : List ℕ
logged_text = codes "together refused Log\n"
