-- The group that arguments name (the project's own).
use Rattle.std.specs.Prelude.{ℕ, ◌&&◌, nat_lt, not, Bool, true, false, List, codes, Option, Some, None, is_some, if◌then◌else◌}
use Rattle.command_arguments.specs.declared.arguments.Command.{Command}
use Rattle.command_arguments.specs.declared.arguments.Command.TheVariants.{Serve, Ask, Rebuild}
use Rattle.group_names.specs.Names.{generation_of, is_group_name}
use Rattle.program_shell.specs.declared.group.GroupFault.{GroupFault}
use Rattle.program_shell.specs.declared.group.GroupFault.TheVariants.{BadWord, Plain, NotMoved}

-- they name no group, or one by a name that a group can have
abbrev pub is_good_group : Option (List ℕ) → Bool
is_good_group None = true
is_good_group (Some name) = is_group_name name

-- whether a command asks for deltas without a mark
abbrev pub is_plain : Command → Bool
is_plain (Serve serving) = serving.plain
is_plain (Ask serving) = serving.plain
is_plain command = false

-- whether a site is to be built again in a group that was never moved
abbrev pub is_unmoved : Command → Option (List ℕ) → Bool
is_unmoved (Rebuild site) group = nat_lt (generation_of group) 2
is_unmoved command group = false

-- the first fault of the group
abbrev pub group_fault : Command → Option (List ℕ) → Option GroupFault
group_fault command group =
    if not (is_good_group group) then Some BadWord
    else if is_plain command && is_some group then Some Plain
    else if is_unmoved command group then Some NotMoved else None

-- what is said of it
abbrev pub group_text : GroupFault → List ℕ
group_text BadWord = codes "group refused BadWord\n"
group_text Plain = codes "group refused Plain\n"
group_text NotMoved = codes "group refused NotMoved\n"
