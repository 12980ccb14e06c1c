use Rattle.std.proofs.Common.{rules, ◌≡◌, ◌∙◌, ap, map, sym, subst, string_bytes, codes, arith}
use Rattle.clap.specs.Words.{FailsBy, app_of, fault_of, is_simple, is_simple_and_free}
use Rattle.command_arguments.specs.Arguments.{program}
use Rattle.command_arguments.proofs.ArgumentLemmas.{command_met, errors_by_clap, logs_met, lost_met, more_texts, value_met, words_met}
use Rattle.command_arguments.proofs.arguments.parse_arguments.Goals as goal

pub returns-clause-refused : goal.returns-clause-refused
returns-clause-refused c =
    let texts = map string_bytes c.args.arguments.now in
    let parser_is : app_of c.in_ok-parser.field-0 ≡ program = c.in_ok-parser.ensures in
    errors_by_clap texts (more_texts string_bytes c.args.arguments.now (omega arith))
    ∙ ap (λ a. fault_of a texts) (sym parser_is) ∙ c.in_ok-matches.ensures.kinds (ap is_simple_and_free parser_is)

pub returns-in_err-matches-clause-refused : goal.returns-in_err-matches-clause-refused
returns-in_err-matches-clause-refused c =
    let texts = map string_bytes c.args.arguments.now in
    let parser_is : app_of c.in_ok-parser.field-0 ≡ program = c.in_ok-parser.ensures in
    let kinds = c.in_err-matches.ensures.kinds (ap is_simple_and_free parser_is) in
    let failed : FailsBy (fault_of (app_of c.in_ok-parser.field-0) texts) c.from_residual-in_err-matches.result = search rules in
    subst (λ kinds. FailsBy kinds c.from_residual-in_err-matches.result)
    (ap (λ a. fault_of a texts) parser_is ∙ sym (errors_by_clap texts (more_texts string_bytes c.args.arguments.now (omega arith)))) failed

pub returns-clause-command : goal.returns-clause-command
returns-clause-command c =
    let texts = map string_bytes c.args.arguments.now in
    let a = app_of c.in_ok-parser.field-0 in
    let parser_is : a ≡ program = c.in_ok-parser.ensures in
    let meets = (c.in_ok-matches.ensures.matches (ap is_simple parser_is)).1 in
    c.in_ok-asked.ensures.command ∙ command_met a _ texts (more_texts string_bytes c.args.arguments.now (omega arith)) parser_is meets

pub returns-clause-layout : goal.returns-clause-layout
returns-clause-layout c =
    let texts = map string_bytes c.args.arguments.now in
    let a = app_of c.in_ok-parser.field-0 in
    let parser_is : a ≡ program = c.in_ok-parser.ensures in
    let meets = (c.in_ok-matches.ensures.matches (ap is_simple parser_is)).1 in
    c.in_ok-asked.ensures.layout ∙ value_met a _ texts (more_texts string_bytes c.args.arguments.now (omega arith)) parser_is meets (codes "layout")

pub returns-clause-store : goal.returns-clause-store
returns-clause-store c =
    let texts = map string_bytes c.args.arguments.now in
    let a = app_of c.in_ok-parser.field-0 in
    let parser_is : a ≡ program = c.in_ok-parser.ensures in
    let meets = (c.in_ok-matches.ensures.matches (ap is_simple parser_is)).1 in
    c.in_ok-asked.ensures.store ∙ value_met a _ texts (more_texts string_bytes c.args.arguments.now (omega arith)) parser_is meets (codes "store")

pub returns-clause-cut : goal.returns-clause-cut
returns-clause-cut c =
    let texts = map string_bytes c.args.arguments.now in
    let a = app_of c.in_ok-parser.field-0 in
    let parser_is : a ≡ program = c.in_ok-parser.ensures in
    let meets = (c.in_ok-matches.ensures.matches (ap is_simple parser_is)).1 in
    c.in_ok-asked.ensures.cut ∙ value_met a _ texts (more_texts string_bytes c.args.arguments.now (omega arith)) parser_is meets (codes "cut")

pub returns-clause-out : goal.returns-clause-out
returns-clause-out c =
    let texts = map string_bytes c.args.arguments.now in
    let a = app_of c.in_ok-parser.field-0 in
    let parser_is : a ≡ program = c.in_ok-parser.ensures in
    let meets = (c.in_ok-matches.ensures.matches (ap is_simple parser_is)).1 in
    c.in_ok-asked.ensures.out ∙ value_met a _ texts (more_texts string_bytes c.args.arguments.now (omega arith)) parser_is meets (codes "out")

pub returns-clause-log : goal.returns-clause-log
returns-clause-log c =
    let texts = map string_bytes c.args.arguments.now in
    let a = app_of c.in_ok-parser.field-0 in
    let parser_is : a ≡ program = c.in_ok-parser.ensures in
    let meets = (c.in_ok-matches.ensures.matches (ap is_simple parser_is)).1 in
    c.in_ok-asked.ensures.log ∙ value_met a _ texts (more_texts string_bytes c.args.arguments.now (omega arith)) parser_is meets (codes "log")

pub returns-clause-group : goal.returns-clause-group
returns-clause-group c =
    let texts = map string_bytes c.args.arguments.now in
    let a = app_of c.in_ok-parser.field-0 in
    let parser_is : a ≡ program = c.in_ok-parser.ensures in
    let meets = (c.in_ok-matches.ensures.matches (ap is_simple parser_is)).1 in
    c.in_ok-asked.ensures.group ∙ value_met a _ texts (more_texts string_bytes c.args.arguments.now (omega arith)) parser_is meets (codes "group")

pub returns-clause-words : goal.returns-clause-words
returns-clause-words c =
    let texts = map string_bytes c.args.arguments.now in
    let a = app_of c.in_ok-parser.field-0 in
    let parser_is : a ≡ program = c.in_ok-parser.ensures in
    let meets = (c.in_ok-matches.ensures.matches (ap is_simple parser_is)).1 in
    c.in_ok-asked.ensures.words ∙ words_met a _ texts (more_texts string_bytes c.args.arguments.now (omega arith)) parser_is meets

pub returns-clause-lost : goal.returns-clause-lost
returns-clause-lost c =
    let texts = map string_bytes c.args.arguments.now in
    let a = app_of c.in_ok-parser.field-0 in
    let parser_is : a ≡ program = c.in_ok-parser.ensures in
    let meets = (c.in_ok-matches.ensures.matches (ap is_simple parser_is)).1 in
    c.in_ok-asked.ensures.lost ∙ lost_met a _ texts (more_texts string_bytes c.args.arguments.now (omega arith)) parser_is meets

pub returns-clause-logs : goal.returns-clause-logs
returns-clause-logs c =
    let texts = map string_bytes c.args.arguments.now in
    let a = app_of c.in_ok-parser.field-0 in
    let parser_is : a ≡ program = c.in_ok-parser.ensures in
    let meets = (c.in_ok-matches.ensures.matches (ap is_simple parser_is)).1 in
    c.in_ok-asked.ensures.logs ∙ logs_met a _ texts (more_texts string_bytes c.args.arguments.now (omega arith)) parser_is meets
