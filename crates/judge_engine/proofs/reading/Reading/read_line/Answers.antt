use Rattle.std.proofs.Common.{rules, ◌≡◌, ℕ, ◌+◌, ◌++◌, ◌∷◌, [], ◌∙◌, Option, Err, Some, ap, sym, subst, refl}
use Rattle.merge_core.specs.Layout.{LayoutState}
use Rattle.text_parts.specs.declared.unread.Unread.TheVariants.{Refused}
use Rattle.transcript_text.specs.Texts.{entry_text}
use Rattle.transcript_reader.specs.Fits.{FitsEntry}
use Rattle.transcript_reader.specs.Reading.{BeginsNoRun, IsLine, IsNoEntry}
use Rattle.judge_engine.specs.declared.reading.Reading.{Reading}
use Rattle.judge_engine.specs.Reading.{Knows}
use Rattle.judge_engine.proofs.ReadingLemmas.{knows_now, line_read, line_refused, refused_line}
use Rattle.judge_engine.proofs.reading.Reading.read_line.Goals as goal

pub returns-in_ok-add_entry-in-Ok-Adds-clause-read : goal.returns-in_ok-add_entry-in-Ok-Adds-clause-read
returns-in_ok-add_entry-in-Ok-Adds-clause-read c = λ layout cut keeping earlier front reads.
    let old = c.args.self.now in
    let line = c.args.line.now in
    let new : Reading = record old { logs = c.add_entry.new.logs; lines = c.in_ok-number.number } in
    let so = knows_now layout cut keeping earlier front old c.requires.none reads in
    let it = subst (IsLine old.layout c.is_some.result line) c.in-Ok-Adds.field-0-is c.in-Ok-Adds.ensures.sound in
    let knows = subst (λ (o : Option ℕ). Knows layout cut keeping earlier front o old.logs) c.in-Some.is so.1 in
    let text = it.1.1 ∙ ap (λ (l : LayoutState). entry_text l.records c.in-Ok-Adds.entry) reads.0 in
    let after = c.in_ok-add_entry-in-Ok-Adds.ensures layout cut keeping earlier front line (subst FitsEntry (sym c.in-Ok-Adds.entry-is) it.1.0) (text ∙ ap (entry_text layout.records) (sym c.in-Ok-Adds.entry-is)) knows in
    line_read layout cut keeping earlier front line new reads.0 c.requires.none (c.in_ok-number.ensures ∙ ap (λ (n : ℕ). n + 1) so.0)
    (subst (λ (o : Option ℕ). Knows layout cut keeping earlier (front ++ line ∷ []) o new.logs) (sym c.in-Some.is) after)

pub returns-in_ok-site-in-Ok-Begins-clause-read : goal.returns-in_ok-site-in-Ok-Begins-clause-read
returns-in_ok-site-in-Ok-Begins-clause-read c = λ layout cut keeping earlier front reads.
    let old = c.args.self.now in
    let line = c.args.line.now in
    let new : Reading = record old { logs = c.begin_run.new.logs; site = Some c.in_ok-site-in-Ok-Begins.site; lines = c.in_ok-number.number } in
    let so = knows_now layout cut keeping earlier front old c.requires.none reads in
    let knows = subst (λ (l : LayoutState). Knows l cut keeping earlier front old.site old.logs) (sym reads.0) so.1 in
    let begins = subst (IsLine old.layout c.is_some.result line) c.in-Ok-Begins.field-0-is c.in-Ok-Begins.ensures.sound in
    let after = c.in_ok-site-in-Ok-Begins.ensures cut keeping earlier front old.site line begins knows in
    line_read layout cut keeping earlier front line new reads.0 c.requires.none (c.in_ok-number.ensures ∙ ap (λ (n : ℕ). n + 1) so.0)
    (subst (λ (l : LayoutState). Knows l cut keeping earlier (front ++ line ∷ []) new.site new.logs) reads.0 after)

pub returns-in-Err-Refused-clause-read : goal.returns-in-Err-Refused-clause-read
returns-in-Err-Refused-clause-read c = λ layout cut keeping earlier front reads.
    let old = c.args.self.now in
    let line = c.args.line.now in
    let refused : c.line_in.result ≡ Err Refused = search rules in
    let so = knows_now layout cut keeping earlier front old c.requires.none reads in
    line_refused layout cut keeping earlier front line c.in_ok-number.number (record old { refused = Some c.in_ok-number.number }) reads.0 refl
    (refused_line layout cut keeping earlier front old.site old.logs line c.in_ok-number.number so.1 (c.in_ok-number.ensures ∙ ap (λ (n : ℕ). n + 1) so.0)
    (subst (λ (l : LayoutState). BeginsNoRun l line) reads.0 (c.line_in.ensures.no_run refused))
    (λ s is. subst (λ (l : LayoutState). IsNoEntry l.records line) reads.0 (c.line_in.ensures.no_entry refused (search (rules, is)))))
