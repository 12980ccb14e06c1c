use Rattle.std.proofs.Common.{refl}
use Rattle.serve_engine.specs.Marks.{with_mark}
use Rattle.serve_engine.proofs.LawLemmas.{own_taken, merged_from, no_mark_refused, other_group_refused, other_records_refused, other_text_refused}
use Rattle.serve_engine.proofs.laws.group_law.Goals as goal

pub returns-clause-own : goal.returns-clause-own
returns-clause-own c = λ layout sender group d word same is. own_taken layout.records sender.records group d word same is

pub returns-clause-merges : goal.returns-clause-merges
returns-clause-merges c = λ layout group line d asks. merged_from layout.records group line d asks

pub returns-clause-no_mark : goal.returns-clause-no_mark
returns-clause-no_mark c = λ layout group bytes request none. no_mark_refused layout.records group bytes none request

pub returns-clause-other_group : goal.returns-clause-other_group
returns-clause-other_group c = λ layout group mark text request is differs.
    other_group_refused layout.records group (with_mark mark text) mark text (record { has_mark = is; is_its = refl }) differs request

pub returns-clause-other_records : goal.returns-clause-other_records
returns-clause-other_records c = λ layout group mark text request is here differs.
    other_records_refused layout.records group (with_mark mark text) mark text (record { has_mark = is; is_its = refl }) here differs request

pub returns-clause-other_text : goal.returns-clause-other_text
returns-clause-other_text c = λ layout group mark text request is here equal differs.
    other_text_refused layout.records group (with_mark mark text) mark text (record { has_mark = is; is_its = refl }) here equal differs request
