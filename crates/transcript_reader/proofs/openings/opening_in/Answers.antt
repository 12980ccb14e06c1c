use Rattle.std.proofs.Common.{◌∙◌, Ok, Err, inl, inr, sym, ap}
use Rattle.std.proofs.lemmas.Bool.{false≢true}
use Rattle.std.proofs.lemmas.Result.{err_from_is_err_and}
use Rattle.text_parts.specs.declared.unread.Unread.{Unread}
use Rattle.transcript_text.specs.Texts.{book_told}
use Rattle.transcript_reader.specs.declared.openings.Opening.{Opening}
use Rattle.transcript_reader.specs.Readers.{opening_parts}
use Rattle.transcript_reader.proofs.EntryLemmas.{only_memory}
use Rattle.transcript_reader.proofs.PartLemmas.{told_delta}
use Rattle.transcript_reader.proofs.BeginLemmas.{spelled_so, behind_spelled, front_spelled, parts_so, layout_there, may_with, told_with, opening_same, begins_with}
use Rattle.transcript_reader.proofs.openings.opening_in.Goals as goal

pub returns-in_err-told-clause-only : goal.returns-in_err-told-clause-only
returns-in_err-told-clause-only c = λ it begins.
    let p = err_from_is_err_and c.from_residual.result c.from_residual.ensures.1 in
    let layout = c.args.layout.now in
    let line = c.args.line.now in
    let is = c.sites.ensures.layout in
    let told = book_told layout it.site it.sites it.first in
    let delta = told_delta layout it.site it.sites it.first (layout_there layout line it is begins) begins.may_begin in
    let memory = c.in_err-told.ensures {u = tt} told (behind_spelled layout line it is begins) delta (front_spelled layout line it is begins) in
    inr (p.1 ∙ ap (λ (x : Unread). Err x) (p.2 ∙ memory))

pub returns-in_err-sessions-clause-only : goal.returns-in_err-sessions-clause-only
returns-in_err-sessions-clause-only c = λ it begins.
    let p = err_from_is_err_and c.from_residual-in_err-sessions.result c.from_residual-in_err-sessions.ensures.1 in
    let layout = c.args.layout.now in
    let line = c.args.line.now in
    let is = c.sites.ensures.layout in
    let told = book_told layout it.site it.sites it.first in
    let delta = told_delta layout it.site it.sites it.first (layout_there layout line it is begins) begins.may_begin in
    let front = c.in_ok-told.ensures {u = tt} told (behind_spelled layout line it is begins) delta (front_spelled layout line it is begins) in
    let s = spelled_so layout line it is begins in
    let memory = only_memory c.in_err-sessions.field-0.0 (opening_parts layout.records c.in_ok-told.rest.now) _ c.in_err-sessions.ensures (ap (opening_parts layout.records) front.1 ∙ s.read) in
    inr (p.1 ∙ ap (λ (x : Unread). Err x) (p.2 ∙ memory))

pub returns-in_err-first-clause-only : goal.returns-in_err-first-clause-only
returns-in_err-first-clause-only c = λ it begins.
    let p = err_from_is_err_and c.from_residual-in_err-first.result c.from_residual-in_err-first.ensures.1 in
    let layout = c.args.layout.now in
    let line = c.args.line.now in
    let is = c.sites.ensures.layout in
    let told = book_told layout it.site it.sites it.first in
    let delta = told_delta layout it.site it.sites it.first (layout_there layout line it is begins) begins.may_begin in
    let front = c.in_ok-told.ensures {u = tt} told (behind_spelled layout line it is begins) delta (front_spelled layout line it is begins) in
    let parts = parts_so layout line c.in_ok-told.rest.now it _ is begins front.1 c.in_ok-sessions.ensures in
    let stands = c.sites_of-sites.ensures ∙ parts.stands in
    let memory = c.in_err-first.ensures {u = tt} it.first (may_with layout it.site it.sites _ _ it.first parts.site stands begins.may_begin)
    (front.0 ∙ told_with layout it.site it.sites _ _ it.first parts.site stands) parts.sessions in
    inr (p.1 ∙ ap (λ (x : Unread). Err x) (p.2 ∙ memory))

pub returns-then-branch-clause-only : goal.returns-then-branch-clause-only
returns-then-branch-clause-only c = λ it begins.
    let layout = c.args.layout.now in
    let line = c.args.line.now in
    let is = c.sites.ensures.layout in
    let told = book_told layout it.site it.sites it.first in
    let delta = told_delta layout it.site it.sites it.first (layout_there layout line it is begins) begins.may_begin in
    let front = c.in_ok-told.ensures {u = tt} told (behind_spelled layout line it is begins) delta (front_spelled layout line it is begins) in
    let parts = parts_so layout line c.in_ok-told.rest.now it _ is begins front.1 c.in_ok-sessions.ensures in
    let stands = c.sites_of-sites.ensures ∙ parts.stands in
    let first = c.in_ok-first.ensures {u = tt} it.first (may_with layout it.site it.sites _ _ it.first parts.site stands begins.may_begin)
    (front.0 ∙ told_with layout it.site it.sites _ _ it.first parts.site stands) parts.sessions in
    inl (ap (λ (x : Opening). Ok x) (opening_same it _ _ c.in_ok-first.first parts.site stands first))

pub returns-clause-only : goal.returns-clause-only
returns-clause-only c = λ it begins.
    let layout = c.args.layout.now in
    let line = c.args.line.now in
    let is = c.sites.ensures.layout in
    let told = book_told layout it.site it.sites it.first in
    let delta = told_delta layout it.site it.sites it.first (layout_there layout line it is begins) begins.may_begin in
    let front = c.in_ok-told.ensures {u = tt} told (behind_spelled layout line it is begins) delta (front_spelled layout line it is begins) in
    let parts = parts_so layout line c.in_ok-told.rest.now it _ is begins front.1 c.in_ok-sessions.ensures in
    let stands = c.sites_of-sites.ensures ∙ parts.stands in
    let first = c.in_ok-first.ensures {u = tt} it.first (may_with layout it.site it.sites _ _ it.first parts.site stands begins.may_begin)
    (front.0 ∙ told_with layout it.site it.sites _ _ it.first parts.site stands) parts.sessions in
    let same = opening_same it c.in_ok-sessions.field-0.site c.sites_of-sites.result c.in_ok-first.first parts.site stands first in
    let begun = begins_with layout line it _ c.in_ok-sessions.field-0.sites same (begins.may_begin, parts.text) in
    absurd (false≢true (sym c.if-branch.false ∙ (c.in_ok-begins_run.ensures {u = tt}).1 begun))
