use Rattle.std.proofs.Common.{rules, ◌≡◌, ℕ, ◌+◌, List, [], ◌++◌, false, true≢false, refl, sym, ap, subst, arith}
use Rattle.exchange_threads.specs.declared.turn.Turn.{Turn}
use Rattle.exchange_threads.specs.declared.turn.Turn.TheVariants.{GoesOn, EndsRun}
use Rattle.exchange_threads.specs.Counts.{count_total}
use Rattle.exchange_threads.specs.Inbox.{HasHeard, HasTurned, nothing_heard}
use Rattle.exchange_threads.proofs.Fates.{not_ended}
use Rattle.exchange_threads.proofs.Heard.{heard_same, heard_both, heard_on, counted_on, in_at_more}
use Rattle.exchange_threads.proofs.inbox.run_inbox_at.Goals as goal

pub turns-init : goal.turns-init
turns-init g c = record {
  texts = [];
  heard = heard_same c.args.pass.now nothing_heard c.new-report.result c.new-report.ensures.taken c.new-report.ensures.raised c.new-report.ensures.refused c.new-report.ensures.memory;
  at = record {
    taken = omega (arith, c.new-report.ensures.taken);
    raised = omega (arith, c.new-report.ensures.raised);
    noted = omega (arith, c.new-report.ensures.memory, ap count_total c.new-report.ensures.refused);
  };
  accounts = subst (λ (m : ℕ). g.I.Inlet.accounts c.args.inlet.now c.args.pass.now.receipts [] m false) (sym c.new-report.ensures.memory) c.requires.accounts;
  same = g.met.I.Inlet.same_as_itself c.args.inlet.now;
}

pub turns-preserved : goal.turns-preserved
turns-preserved g c =
    let texts : List (List ℕ) = c.turns.invariant.texts in
    let turned : HasTurned (g.I.Inlet.accounts c.in_turn-turn.new.inlet c.in_turn-turn.new.pass.receipts) texts c.turns.pass c.in_turn-turn.new.pass c.turns.report c.in_turn-turn.new.report c.in_turn-turn.result =
    c.in_turn-turn.ensures.turned texts c.turns.invariant.accounts in
    let heard : HasHeard (texts ++ turned.texts) c.args.pass.now c.in_turn-turn.new.pass nothing_heard c.in_turn-turn.new.report (c.turns.t + 1) c.in_turn-turn.result =
    heard_both c.args.pass.now c.turns.pass c.in_turn-turn.new.pass nothing_heard c.turns.report c.in_turn-turn.new.report c.turns.t 1 GoesOn c.in_turn-turn.result refl c.turns.invariant.heard turned.heard in
    record {
      texts = texts ++ turned.texts;
      heard = heard_on c.args.pass.now c.in_turn-turn.new.pass nothing_heard c.in_turn-turn.new.report (c.turns.t + 1) c.in_turn-turn.result c.in_default.not-EndsRun heard;
      at = counted_on c.turns.t c.turns.report c.in_turn-turn.new.report c.turns.invariant.at c.in_turn-turn.ensures.counts;
      accounts = not_ended (g.I.Inlet.accounts c.in_turn-turn.new.inlet c.in_turn-turn.new.pass.receipts (texts ++ turned.texts) c.in_turn-turn.new.report.memory)
          turned.ended turned.account turned.marked c.in_default.not-EndsRun;
      same = g.met.I.Inlet.same_later _ _ _ c.turns.invariant.same c.in_turn-turn.ensures.same;
    }

pub returns-in-EndsRun-clause-ran : goal.returns-in-EndsRun-clause-ran
returns-in-EndsRun-clause-ran g c =
    let texts : List (List ℕ) = c.turns.invariant.texts in
    let turned : HasTurned (g.I.Inlet.accounts c.in_turn-turn.new.inlet c.in_turn-turn.new.pass.receipts) texts c.turns.pass c.in_turn-turn.new.pass c.turns.report c.in_turn-turn.new.report c.in_turn-turn.result =
    c.in_turn-turn.ensures.turned texts c.turns.invariant.accounts in
    let heard : HasHeard (texts ++ turned.texts) c.args.pass.now c.in_turn-turn.new.pass nothing_heard c.in_turn-turn.new.report (c.turns.t + 1) c.in_turn-turn.result =
    heard_both c.args.pass.now c.turns.pass c.in_turn-turn.new.pass nothing_heard c.turns.report c.in_turn-turn.new.report c.turns.t 1 GoesOn c.in_turn-turn.result refl c.turns.invariant.heard turned.heard in
    record {
      texts = texts ++ turned.texts;
      ran = record {
        turns = c.turns.t + 1;
        last = EndsRun;
        heard = subst (λ (x : Turn). HasHeard (texts ++ turned.texts) c.args.pass.now c.in_turn-turn.new.pass nothing_heard c.in_turn-turn.new.report (c.turns.t + 1) x) c.in-EndsRun.is heard;
        within = in_at_more (c.turns.t + 1) c.args.turns c.in_turn-turn.new.report (omega (arith, c.turns-test.true)) (counted_on c.turns.t c.turns.report c.in_turn-turn.new.report c.turns.invariant.at c.in_turn-turn.ensures.counts);
        ending = omega (arith, c.turns-test.true);
      };
      early = λ _. c.in_turn-turn.ensures.early c.in-EndsRun.is;
      ended = turned.ended;
      account = turned.account;
      marked = λ is. (turned.marked is).1;
    }

pub returns-clause-ran : goal.returns-clause-ran
returns-clause-ran g c =
    record {
      texts = c.turns.invariant.texts;
      ran = record {
        turns = c.turns.t;
        last = GoesOn;
        heard = c.turns.invariant.heard;
        within = search rules;
        ending = search rules;
      };
      early = λ (is : GoesOn ≡ EndsRun). cc;
      ended = false;
      account = c.turns.invariant.accounts;
      marked = λ is. absurd (true≢false (sym is));
    }
