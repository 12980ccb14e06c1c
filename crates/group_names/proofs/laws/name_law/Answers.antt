use Rattle.std.proofs.Common.{◌∙◌, ap}
use Rattle.std.specs.Prelude.{is_some, not}
use Rattle.std.proofs.lemmas.Bool.{and_from, and_parts}
use Rattle.group_names.specs.Names.{base_of, has_base_form, is_base_name, is_reply_word, number_behind, or_first, told_generation}
use Rattle.group_names.proofs.NameLemmas.{base_whole, behind_none, form_has_none, next_is}
use Rattle.group_names.proofs.laws.name_law.Goals as goal

pub returns-clause-next : goal.returns-clause-next
returns-clause-next c name next is e =
    let it = next_is name next e in
    and_from (is_base_name (base_of next)) (is_some (told_generation next))
    (ap is_base_name it.own ∙ (and_parts (is_base_name (base_of name)) (is_some (told_generation name)) is).0)
    (ap is_some it.told)

pub returns-clause-own : goal.returns-clause-own
returns-clause-own c name next is e = (next_is name next e).own

pub returns-clause-later : goal.returns-clause-later
returns-clause-later c name next is e = ap or_first (next_is name next e).told

pub returns-clause-given : goal.returns-clause-given
returns-clause-given c name is =
    let none = form_has_none name (and_parts (has_base_form name) (not (is_reply_word name)) is).0 in
    let told = ap number_behind (behind_none name none) in
    (and_from (is_base_name (base_of name)) (is_some (told_generation name)) (ap is_base_name (base_whole name none) ∙ is) (ap is_some told), ap or_first told)
