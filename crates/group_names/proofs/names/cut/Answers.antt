use Rattle.std.proofs.Common.{Some, None, arith, ap, sym, ◌∙◌}
use Rattle.std.proofs.lemmas.Str.Pattern.{split_parts}
use Rattle.group_names.specs.Names.{base_of, behind_dot}
use Rattle.group_names.proofs.NameLemmas.{base_at, behind_at, base_whole, behind_none}
use Rattle.group_names.proofs.names.cut.Goals as goal

pub returns-in-Some-clause-base : goal.returns-in-Some-clause-base
returns-in-Some-clause-base c =
    let parts = split_parts 46 c.args.name.now (Some (c.in-Some.base, c.in-Some.behind)) c.in-Some.ensures.cases (omega arith) in
    sym (ap base_of parts.0 ∙ base_at c.in-Some.base.now c.in-Some.behind.now parts.1)

pub returns-in-Some-clause-behind : goal.returns-in-Some-clause-behind
returns-in-Some-clause-behind c =
    let parts = split_parts 46 c.args.name.now (Some (c.in-Some.base, c.in-Some.behind)) c.in-Some.ensures.cases (omega arith) in
    sym (ap behind_dot parts.0 ∙ behind_at c.in-Some.base.now c.in-Some.behind.now parts.1)

pub returns-in-None-clause-base : goal.returns-in-None-clause-base
returns-in-None-clause-base c = sym (base_whole c.args.name.now (split_parts 46 c.args.name.now None c.in-None.ensures.cases (omega arith)))

pub returns-in-None-clause-behind : goal.returns-in-None-clause-behind
returns-in-None-clause-behind c = sym (behind_none c.args.name.now (split_parts 46 c.args.name.now None c.in-None.ensures.cases (omega arith)))
