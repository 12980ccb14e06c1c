use Rattle.std.proofs.Common.{◌∙◌, codes, sym}
use Rattle.clap.specs.Words.{found_of, subcommand_rows_of}
use Rattle.clap.proofs.WalkLemmas.{first_value-rows}
use Rattle.command_arguments.proofs.ArgumentLemmas.{logs_of_rows, lost_of_rows, value_of_rows, words_of_rows}
use Rattle.command_arguments.proofs.arguments.request_in.Goals as goal

pub returns-clause-layout : goal.returns-clause-layout
returns-clause-layout c =
    c.get_str.ensures ∙ first_value-rows (found_of c.in-Some.found.now) (codes "layout")
    ∙ value_of_rows (codes "layout") (subcommand_rows_of c.args.matches.now) _ (sym c.in-Some.ensures.rows)

pub returns-clause-store : goal.returns-clause-store
returns-clause-store c =
    c.get_str-2.ensures ∙ first_value-rows (found_of c.in-Some.found.now) (codes "store")
    ∙ value_of_rows (codes "store") (subcommand_rows_of c.args.matches.now) _ (sym c.in-Some.ensures.rows)

pub returns-clause-cut : goal.returns-clause-cut
returns-clause-cut c =
    c.get_str-3.ensures ∙ first_value-rows (found_of c.in-Some.found.now) (codes "cut")
    ∙ value_of_rows (codes "cut") (subcommand_rows_of c.args.matches.now) _ (sym c.in-Some.ensures.rows)

pub returns-clause-out : goal.returns-clause-out
returns-clause-out c =
    c.get_str-4.ensures ∙ first_value-rows (found_of c.in-Some.found.now) (codes "out")
    ∙ value_of_rows (codes "out") (subcommand_rows_of c.args.matches.now) _ (sym c.in-Some.ensures.rows)

pub returns-clause-log : goal.returns-clause-log
returns-clause-log c =
    c.get_str-5.ensures ∙ first_value-rows (found_of c.in-Some.found.now) (codes "log")
    ∙ value_of_rows (codes "log") (subcommand_rows_of c.args.matches.now) _ (sym c.in-Some.ensures.rows)

pub returns-clause-group : goal.returns-clause-group
returns-clause-group c =
    c.get_str-6.ensures ∙ first_value-rows (found_of c.in-Some.found.now) (codes "group")
    ∙ value_of_rows (codes "group") (subcommand_rows_of c.args.matches.now) _ (sym c.in-Some.ensures.rows)

pub returns-clause-words : goal.returns-clause-words
returns-clause-words c =
    c.words_in.ensures ∙ words_of_rows (subcommand_rows_of c.args.matches.now) _ (sym c.in-Some.ensures.rows)

pub returns-clause-lost : goal.returns-clause-lost
returns-clause-lost c =
    c.in_ok-lost.ensures ∙ lost_of_rows (subcommand_rows_of c.args.matches.now) _ (sym c.in-Some.ensures.rows)

pub returns-clause-logs : goal.returns-clause-logs
returns-clause-logs c =
    c.in_ok-logs.ensures ∙ logs_of_rows (subcommand_rows_of c.args.matches.now) _ (sym c.in-Some.ensures.rows)
