-- What arguments the program takes and how they are read: the project's own command line, by clap's rules.
use Rattle.std.specs.Prelude.{◌≡◌, ℕ, ◌&&◌, nat_le, nat_lt, Bool, true, false, pos, List, [], ◌∷◌, length, Option, Some, None, codes, bytes_eq, option_and_then, unwrap_or, if◌then◌else◌, option_map}
use Rattle.std.specs.Str.Parse.{digits_value, without_leading_plus}
use Rattle.std.specs.List.{flat_map}
use Rattle.std.specs.Option.{option_map_or}
use Rattle.clap.specs.Words.{App, Kinds, Row, Rule, Shape, Text, all_of, app_of, fault_of, first_of, new_app, new_rule, one_of, rule_of, subcommand_of, with_rule, with_subcommand}
use Rattle.clap.specs.Lexer.{usize_max}
use Rattle.clap.specs.Simple.{on_top}
use Rattle.clap.specs.ValueTests.{is_numeral}
use Rattle.clap.specs.declared.builder.ArgAction.TheVariants.{Append, Set, SetTrue}
use Rattle.clap.specs.declared.builder.arg.Arg.{Arg}
use Rattle.clap.specs.declared.builder.command.Command.{Command as Parser}
use Rattle.clap.specs.declared.builder.command.Command.TheViews.{out-Command as fields_of}
use Rattle.clap.specs.declared.builder.value_parser.ValueParser.TheVariants.{Signed}
use Rattle.command_arguments.specs.declared.arguments.Command.{Command}
use Rattle.command_arguments.specs.declared.arguments.Serving.{Serving}
use Rattle.command_arguments.specs.declared.arguments.Words.{Words}
use Rattle.command_arguments.specs.declared.arguments.Command.TheVariants.{Join, Play, Site, Serve, Ask, Regroup, Rebuild, Judge, Run}

-- an option whose value is any text (the project's own), with one name for its value
abbrev pub text_option : Text → Rule
text_option name = record (new_rule name) {
  long = Some name;
  action = Some Set;
  value_names = 1;
}

-- the option `--layout FILE` (the project's own)
abbrev pub layout_option : Rule
layout_option = text_option (codes "layout")

-- the option `--cut C` (the project's own)
abbrev pub cut_option : Rule
cut_option = text_option (codes "cut")

-- a flag (the project's own)
abbrev pub flag : Text → Rule
flag name = record (new_rule name) {
  long = Some name;
  action = Some SetTrue;
}

-- an option whose value is a number from 0 to 65,535 (the project's own)
abbrev pub number_option : Text → Rule
number_option name = record (text_option name) { parser = Some (Signed (pos 0) (pos 65535)) }

-- the option `--from M` (the project's own)
abbrev pub first_option : Rule
first_option = number_option (codes "from")

-- the option `--site I` (the project's own), which is needed
abbrev pub site_option : Rule
site_option = record (number_option (codes "site")) { required = true }

-- the option `--store FILE` (the project's own), which is needed
abbrev pub store_option : Rule
store_option = record (text_option (codes "store")) { required = true }

-- the option `--turns T` (the project's own), whose value is a number from 1 to 1,000
abbrev pub turns_option : Rule
turns_option = record (text_option (codes "turns")) { parser = Some (Signed (pos 1) (pos 1000)) }

-- the option `--out FILE` (the project's own)
abbrev pub out_option : Rule
out_option = text_option (codes "out")

-- the option `--wait SECONDS` (the project's own)
abbrev pub wait_option : Rule
wait_option = number_option (codes "wait")

-- the option `--together N` (the project's own), whose value is a number from 1 to 256
abbrev pub together_option : Rule
together_option = record (text_option (codes "together")) { parser = Some (Signed (pos 1) (pos 256)) }

-- the option `--log FILE` (the project's own)
abbrev pub log_option : Rule
log_option = text_option (codes "log")

-- the option `--group NAME` (the project's own)
abbrev pub group_option : Rule
group_option = text_option (codes "group")

-- .. where it is needed
abbrev pub needed_group : Rule
needed_group = record group_option { required = true }

-- the option `--lost J` (the project's own), which may be there several times
abbrev pub lost_option : Rule
lost_option = record (number_option (codes "lost")) { action = Some Append }

-- the option `--logs FILE ..` (the project's own), which has one value or more and may be there several times
abbrev pub logs_option : Rule
logs_option = record (text_option (codes "logs")) { range = Some (record { start_inclusive = 1; end_inclusive = usize_max }); action = Some Append }

-- a word of a call (the project's own), at its place behind the options
abbrev pub word : Text → Rule
word name = record (new_rule name) {
  action = Some Set;
  value_names = 1;
}

-- the first one, which is needed
abbrev pub first_word : Rule
first_word = record (word (codes "word")) { required = true }

-- the command `join` (the project's own), with one option
abbrev pub join_command : App
join_command = with_rule (new_app (codes "join")) layout_option

-- the command `play` (the project's own), with a flag and two options
abbrev pub play_command : App
play_command = with_rule (with_rule (with_rule (new_app (codes "play")) (flag (codes "tables"))) first_option) layout_option

-- the command `site` (the project's own), with two options that are needed and one that is not
abbrev pub site_command : App
site_command = with_rule (with_rule (with_rule (new_app (codes "site")) site_option) store_option) layout_option

-- a command that serves a site (the project's own), with two options that are needed, four that are not, and three flags
abbrev pub serving_command : Text → App
serving_command name =
    with_rule (with_rule (with_rule (with_rule (with_rule (with_rule (with_rule (with_rule (with_rule (new_app name)
    site_option) store_option) layout_option) group_option) (flag (codes "plain"))) (flag (codes "create"))) (flag (codes "grow"))) wait_option) log_option

-- the command `serve` (the project's own), with one option more
abbrev pub serve_command : App
serve_command = with_rule (serving_command (codes "serve")) together_option

-- the command `ask` (the project's own), without it, and with one to four words
abbrev pub ask_command : App
ask_command =
    with_rule (with_rule (with_rule (with_rule (serving_command (codes "ask")) first_word) (word (codes "word2"))) (word (codes "word3"))) (word (codes "word4"))

-- the command `regroup` (the project's own), with three options that are needed and one that is not
abbrev pub regroup_command : App
regroup_command = with_rule (with_rule (with_rule (with_rule (new_app (codes "regroup")) site_option) store_option) layout_option) needed_group

-- the command `rebuild` (the project's own), with the same and one more
abbrev pub rebuild_command : App
rebuild_command =
    with_rule (with_rule (with_rule (with_rule (with_rule (new_app (codes "rebuild")) site_option) store_option) layout_option) needed_group) lost_option

-- the command `judge` (the project's own), with three options
abbrev pub judge_command : App
judge_command = with_rule (with_rule (with_rule (new_app (codes "judge")) cut_option) layout_option) logs_option

-- the command `run` (the project's own), with three options
abbrev pub run_command : App
run_command = with_rule (with_rule (with_rule (new_app (codes "run")) turns_option) out_option) layout_option

-- the settings of the program: it has a version, it needs a command, and it has no command `help`
abbrev pub with_settings : Shape → Shape
with_settings top = record top {
  has_version = true;
  subcommand_required = true;
  disable_help_subcommand = true;
}

-- the program with no command yet
abbrev pub bare_program : App
bare_program = on_top with_settings (new_app (codes "seat_cli"))

-- what clap is told is this command, none of whose options is for all commands below it
abbrev pub Offers : App → Parser → Type 0
Offers app built = (app_of built ≡ app) × ((fields_of built).has_globals ≡ false)

-- what clap is told is this option, and is not for all commands below
abbrev pub IsOption : Rule → Arg → Type 0
IsOption rule option = (rule_of option ≡ rule) × (option.global ≡ false)

-- the program, whose commands are `join`, `play`, `site`, `serve`, `ask`, `regroup`, `rebuild`, `judge` and `run`
abbrev pub program : App
program =
    with_subcommand (with_subcommand (with_subcommand (with_subcommand (with_subcommand (with_subcommand
    (with_subcommand (with_subcommand (with_subcommand bare_program
    join_command.top) play_command.top) site_command.top) serve_command.top) ask_command.top) regroup_command.top) rebuild_command.top) judge_command.top)
    run_command.top

-- whether a flag's text is `true`
abbrev pub is_true : Text → Bool
is_true text = bytes_eq text (codes "true")

-- whether the values have a flag
abbrev pub flag_in : Text → List Row → Bool
flag_in name rows = option_map_or is_true (one_of name rows) false

-- the number that the decimal digits of a text write, behind a plus or none, if it fits 16 bits
abbrev pub short_number : Text → Option ℕ
short_number text =
    let digits = without_leading_plus text in
    if is_numeral digits && nat_lt (digits_value 10 digits) 65536 then Some (digits_value 10 digits) else None

-- the number of sites that the first sites begin with, if the values name one
abbrev pub first_in : List Row → Option ℕ
first_in rows = option_and_then short_number (one_of (codes "from") rows)

-- the number of the site that the values name; 0 where they name none, which clap refuses
abbrev pub site_in : List Row → ℕ
site_in rows = unwrap_or (option_and_then short_number (one_of (codes "site") rows)) 0

-- the number of turns that the values name; 100 where they name none
abbrev pub turns_in : List Row → ℕ
turns_in rows = unwrap_or (option_and_then short_number (one_of (codes "turns") rows)) 100

-- how many seconds the values allow to wait; 0 where they name no number
abbrev pub wait_in : List Row → ℕ
wait_in rows = unwrap_or (option_and_then short_number (one_of (codes "wait") rows)) 0

-- how many calls the values allow to be committed together; 1 where they name no number
abbrev pub together_in : List Row → ℕ
together_in rows = unwrap_or (option_and_then short_number (one_of (codes "together") rows)) 1

-- how a site is served at once: its number; whether its store is made, whether it grows, and whether deltas travel without
-- a mark; how many seconds to wait; and how many calls are committed together at most
abbrev pub serving : ℕ → Bool → Bool → Bool → ℕ → ℕ → Serving
serving site create grow plain wait together =
    record { site = site; create = create; grow = grow; plain = plain; wait = wait; together = together }

-- the same by the values
abbrev pub serving_in : List Row → Serving
serving_in rows =
    serving (site_in rows) (flag_in (codes "create") rows) (flag_in (codes "grow") rows) (flag_in (codes "plain") rows) (wait_in rows) (together_in rows)

-- the command of a name, with its values
abbrev pub command_of : Text → List Row → Command
command_of name rows =
    if bytes_eq name (codes "play") then Play (flag_in (codes "tables") rows) (first_in rows)
    else if bytes_eq name (codes "site") then Site (site_in rows)
    else if bytes_eq name (codes "serve") then Serve (serving_in rows)
    else if bytes_eq name (codes "ask") then Ask (serving_in rows)
    else if bytes_eq name (codes "regroup") then Regroup (site_in rows)
    else if bytes_eq name (codes "rebuild") then Rebuild (site_in rows)
    else if bytes_eq name (codes "judge") then Judge
    else if bytes_eq name (codes "run") then Run (turns_in rows) else Join

-- the command that was met, if one was
abbrev pub command_in : Option (Text × List Row) → Command
command_in None = Join
command_in (Some (name, rows)) = command_of name rows

-- the value that the command that was met has for an option, if it has one
abbrev pub value_in : Text → Option (Text × List Row) → Option Text
value_in option None = None
value_in option (Some (name, rows)) = first_of option rows

-- the number of 16 bits that a text names, if it names one, as a list
abbrev pub site_of : Text → List ℕ
site_of text = option_map_or (λ n. n ∷ []) (short_number text) []

-- those that texts name
abbrev pub sites_of : List Text → List ℕ
sites_of texts = flat_map site_of texts

-- the sites that the values name as lost, in their order
abbrev pub lost_in : List Row → List ℕ
lost_in rows = option_map_or sites_of (all_of (codes "lost") rows) []

-- those of the command that was met
abbrev pub lost_at : Option (Text × List Row) → List ℕ
lost_at None = []
lost_at (Some (name, rows)) = lost_in rows

-- the files of closed logs that the values name, in their order
abbrev pub logs_in : List Row → List Text
logs_in rows = unwrap_or (all_of (codes "logs") rows) []

-- those of the command that was met
abbrev pub logs_at : Option (Text × List Row) → List Text
logs_at None = []
logs_at (Some (name, rows)) = logs_in rows

-- the words of a call, in their order, as far as they are there
abbrev pub said : Option Text → Option Text → Option Text → Option Text → List (Option Text)
said a b c d = a ∷ b ∷ c ∷ d ∷ []

-- no words
abbrev pub none_said : List (Option Text)
none_said = said None None None None

-- the same of what the program is asked for
abbrev pub words_of : Words → List (Option Text)
words_of w = said (option_map (λ t. t.now) w.first) (option_map (λ t. t.now) w.second) (option_map (λ t. t.now) w.third) (option_map (λ t. t.now) w.fourth)

-- the words that values have
abbrev pub words_in : List Row → List (Option Text)
words_in rows = said (first_of (codes "word") rows) (first_of (codes "word2") rows) (first_of (codes "word3") rows) (first_of (codes "word4") rows)

-- those of the command that was met
abbrev pub words_at : Option (Text × List Row) → List (Option Text)
words_at None = none_said
words_at (Some (name, rows)) = words_in rows

-- the command that arguments name, as clap gives it and its values
abbrev pub named_command : List Text → Command
named_command arguments = command_in (subcommand_of program arguments)

-- the value that arguments have for an option, as clap gives their command's values
abbrev pub named_value : Text → List Text → Option Text
named_value option arguments = value_in option (subcommand_of program arguments)

-- the arguments of a call of the program: its own name, and those behind it
abbrev pub called_with : List Text → List Text
called_with arguments = codes "seat_cli" ∷ arguments

-- what is wrong with the arguments: nothing where none stands behind the program's name
abbrev pub usage_errors : List Text → Kinds
usage_errors arguments = if nat_le (length arguments) 1 then [] else fault_of program arguments

-- the command that they ask for: `join` where none stands behind the program's name
abbrev pub asked_command : List Text → Command
asked_command arguments = if nat_le (length arguments) 1 then Join else named_command arguments

-- the value that they have for an option
abbrev pub asked_value : Text → List Text → Option Text
asked_value option arguments = if nat_le (length arguments) 1 then None else named_value option arguments

-- the layout file that they name
abbrev pub asked_layout : List Text → Option Text
asked_layout arguments = asked_value (codes "layout") arguments

-- the store's file that they name
abbrev pub asked_store : List Text → Option Text
asked_store arguments = asked_value (codes "store") arguments

-- the word for a cut that they name
abbrev pub asked_cut : List Text → Option Text
asked_cut arguments = asked_value (codes "cut") arguments

-- the file for closed logs that they name
abbrev pub asked_out : List Text → Option Text
asked_out arguments = asked_value (codes "out") arguments

-- the words of a call that they have
abbrev pub asked_words : List Text → List (Option Text)
asked_words arguments = if nat_le (length arguments) 1 then none_said else words_at (subcommand_of program arguments)

-- the name of the site's group that they name
abbrev pub asked_group : List Text → Option Text
asked_group arguments = asked_value (codes "group") arguments

-- the file for the site's log that they name
abbrev pub asked_log : List Text → Option Text
asked_log arguments = asked_value (codes "log") arguments

-- the other sites that they name as lost
abbrev pub asked_lost : List Text → List ℕ
asked_lost arguments = if nat_le (length arguments) 1 then [] else lost_at (subcommand_of program arguments)

-- the files of closed logs that they name
abbrev pub asked_logs : List Text → List Text
asked_logs arguments = if nat_le (length arguments) 1 then [] else logs_at (subcommand_of program arguments)
