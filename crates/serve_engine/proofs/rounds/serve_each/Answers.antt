use Rattle.std.proofs.Common.{◌∙◌, ◌+◌, ◌<◌, ◌≤◌, ◌++◌, ◌∷◌, [], ℕ, List, drop, length, refl, ap, arith, subst, sym}
use Rattle.std.proofs.lemmas.List.{at_drop_all, at_drop_more}
use Rattle.line_conversation.specs.Turns.{Line, Whole}
use Rattle.serve_engine.specs.Together.{InBlock, whole_lines}
use Rattle.serve_engine.proofs.HoldLemmas.{at_same}
use Rattle.serve_engine.proofs.rounds.serve_each.Goals as goal

pub loop-i-init : goal.loop-i-init
loop-i-init g c = record {
  within = omega arith;
  served = λ s behind n at b. b;
  line = refl;
  layout = refl;
  site = refl;
  honest = λ honest. honest;
}

pub loop-i-preserved : goal.loop-i-preserved
loop-i-preserved g c =
    let l = c.loop-i in
    let s = c.serve_again.new in
    let lines = c.args.round.now.lines in
    let marker = c.args.marker.now in
    let within : l.i < length lines = omega (arith, c.loop-i-test.true, c.len.ensures) in
    record {
      within = omega (arith, within);
      served = λ start behind n at b.
          c.in-Next.ensures.served start (whole_lines (drop (l.i + 1) lines) ++ behind) n (at_same start c.args.live.now l.live marker l.invariant.layout l.invariant.site at)
          (subst (λ (ls : List Line). InBlock g.K.Keeper g.K.LiveKeeper.is_outdated g.C.Conversation start l.live l.conversation (ls ++ behind) [] n)
          (at_drop_more whole_lines lines l.i [] within ∙ ap (λ (x : List ℕ). Whole x ∷ whole_lines (drop (l.i + 1) lines)) (sym c.line.ensures)) (l.invariant.served start behind n at b));
      line = c.in-Next.ensures.line ∙ l.invariant.line;
      layout = c.in-Next.ensures.layout ∙ l.invariant.layout;
      site = c.in-Next.ensures.site ∙ l.invariant.site;
      honest = λ honest. l.invariant.honest (c.in-Next.ensures.honest honest);
    }

pub returns-in-Failed-clause-served : goal.returns-in-Failed-clause-served
returns-in-Failed-clause-served g c = λ start behind n at b.
    let l = c.loop-i in
    let lines = c.args.round.now.lines in
    let within : l.i < length lines = omega (arith, c.loop-i-test.true, c.len.ensures) in
    c.in-Failed.ensures.served start (whole_lines (drop (l.i + 1) lines) ++ behind) n (at_same start c.args.live.now l.live c.args.marker.now l.invariant.layout l.invariant.site at)
    (subst (λ (ls : List Line). InBlock g.K.Keeper g.K.LiveKeeper.is_outdated g.C.Conversation start l.live l.conversation (ls ++ behind) [] n)
    (at_drop_more whole_lines lines l.i [] within ∙ ap (λ (x : List ℕ). Whole x ∷ whole_lines (drop (l.i + 1) lines)) (sym c.line.ensures)) (l.invariant.served start behind n at b))

pub returns-in-End-clause-served : goal.returns-in-End-clause-served
returns-in-End-clause-served g c = λ start behind n at b.
    let l = c.loop-i in
    let lines = c.args.round.now.lines in
    let within : l.i < length lines = omega (arith, c.loop-i-test.true, c.len.ensures) in
    c.in-End.ensures.served start (whole_lines (drop (l.i + 1) lines) ++ behind) n (at_same start c.args.live.now l.live c.args.marker.now l.invariant.layout l.invariant.site at)
    (subst (λ (ls : List Line). InBlock g.K.Keeper g.K.LiveKeeper.is_outdated g.C.Conversation start l.live l.conversation (ls ++ behind) [] n)
    (at_drop_more whole_lines lines l.i [] within ∙ ap (λ (x : List ℕ). Whole x ∷ whole_lines (drop (l.i + 1) lines)) (sym c.line.ensures)) (l.invariant.served start behind n at b))

pub returns-clause-served : goal.returns-clause-served
returns-clause-served g c = λ start behind n at b.
    let l = c.loop-i in
    let lines = c.args.round.now.lines in
    let most : length lines ≤ l.i = omega (arith, c.loop-i-test.false, c.len.ensures) in
    subst (λ (ls : List Line). InBlock g.K.Keeper g.K.LiveKeeper.is_outdated g.C.Conversation start l.live l.conversation (ls ++ behind) [] n) (at_drop_all whole_lines lines l.i most) (l.invariant.served start behind n at b)
