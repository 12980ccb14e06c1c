use Rattle.std.proofs.Common.{◌≡◌, ℕ, ◌+◌, Option, None, length, refl, sym, subst, arith}
use Rattle.merge_core.specs.Delta.{DeltaState}
use Rattle.exchange_threads.specs.declared.report.OutReport.{OutReport}
use Rattle.exchange_threads.specs.declared.turn.Turn.{Turn}
use Rattle.exchange_threads.specs.declared.turn.Turn.TheVariants.{GoesOn, EndsRun}
use Rattle.exchange_threads.specs.Outbox.{HasTold, IsOutAt, nothing_told}
use Rattle.exchange_threads.proofs.Told.{told_same, told_both, told_on, kinds_told, shown_told, unsent_told}
use Rattle.exchange_threads.proofs.outbox.run_outbox_at.Goals as goal

pub turns-init : goal.turns-init
turns-init g c =
    let n : ℕ = length c.args.site.now.layout.records in
    let told : HasTold g.G.Gate.answers n c.args.pass.now c.args.pass.now c.args.gate.now c.args.gate.now nothing_told c.new-told.result.report GoesOn =
    subst (λ (x : OutReport). HasTold g.G.Gate.answers n c.args.pass.now c.args.pass.now c.args.gate.now c.args.gate.now nothing_told x GoesOn) (sym c.new-told.ensures.report)
    (told_same g.G.Gate.answers n c.args.pass.now c.args.gate.now nothing_told) in
    record {
      told = told;
      at = subst (λ (x : OutReport). IsOutAt 0 x) (sym c.new-told.ensures.report) (record { turns = refl; helped = omega arith; spent = omega arith });
      accounts = subst (λ (o : Option DeltaState). g.O.Outlet.accounts c.args.outlet.now c.args.pass.now.receipts c.new-told.result.report.sent o) (sym c.new-told.ensures.last)
          (subst (λ (x : OutReport). g.O.Outlet.accounts c.args.outlet.now c.args.pass.now.receipts x.sent None) (sym c.new-told.ensures.report) c.requires.accounts);
      same = g.met.O.Outlet.same_as_itself c.args.outlet.now;
    }

pub turns-preserved : goal.turns-preserved
turns-preserved g c =
    let n : ℕ = length c.args.site.now.layout.records in
    let told : HasTold g.G.Gate.answers n c.args.pass.now c.out_turn-turn.new.pass c.args.gate.now c.out_turn-turn.new.gate nothing_told c.out_turn-turn.new.told.report c.out_turn-turn.result =
    told_both g.G.Gate.answers n c.args.pass.now c.turns.pass c.out_turn-turn.new.pass c.args.gate.now c.turns.gate c.out_turn-turn.new.gate nothing_told c.turns.told.report c.out_turn-turn.new.told.report GoesOn
    c.out_turn-turn.result refl c.turns.invariant.told c.out_turn-turn.ensures.told in
    record {
      told = told_on g.G.Gate.answers n c.args.pass.now c.out_turn-turn.new.pass c.args.gate.now c.out_turn-turn.new.gate nothing_told c.out_turn-turn.new.told.report c.out_turn-turn.result c.in_default.not-EndsRun told;
      at = subst (λ (k : ℕ). IsOutAt (k + 1) c.out_turn-turn.new.told.report) c.turns.invariant.at.turns c.out_turn-turn.ensures.at;
      accounts = c.out_turn-turn.ensures.accounts;
      same = g.met.O.Outlet.same_later _ _ _ c.turns.invariant.same c.out_turn-turn.ensures.same;
    }

pub returns-in-EndsRun-clause-ran : goal.returns-in-EndsRun-clause-ran
returns-in-EndsRun-clause-ran g c =
    let n : ℕ = length c.args.site.now.layout.records in
    let told : HasTold g.G.Gate.answers n c.args.pass.now c.out_turn-turn.new.pass c.args.gate.now c.out_turn-turn.new.gate nothing_told c.out_turn-turn.new.told.report c.out_turn-turn.result =
    told_both g.G.Gate.answers n c.args.pass.now c.turns.pass c.out_turn-turn.new.pass c.args.gate.now c.turns.gate c.out_turn-turn.new.gate nothing_told c.turns.told.report c.out_turn-turn.new.told.report GoesOn
    c.out_turn-turn.result refl c.turns.invariant.told c.out_turn-turn.ensures.told in
    let ended : HasTold g.G.Gate.answers n c.args.pass.now c.out_turn-turn.new.pass c.args.gate.now c.out_turn-turn.new.gate nothing_told c.out_turn-turn.new.told.report EndsRun =
    subst (λ (x : Turn). HasTold g.G.Gate.answers n c.args.pass.now c.out_turn-turn.new.pass c.args.gate.now c.out_turn-turn.new.gate nothing_told c.out_turn-turn.new.told.report x) c.in-EndsRun.is told in
    let at : IsOutAt (c.turns.told.report.turns + 1) c.out_turn-turn.new.told.report = c.out_turn-turn.ensures.at in
    record {
      ran = record {
        last = EndsRun;
        told = ended;
        kinds = kinds_told n 0 ended.went ended.stop;
        shown = omega (arith, ended.sent, shown_told n 0 ended.went ended.stop);
        unsent = omega (arith, ended.sent, ended.memory, unsent_told n 0 ended.went ended.stop);
        within = subst (λ (k : ℕ). IsOutAt k c.out_turn-turn.new.told.report) (sym at.turns) at;
        ending = omega (arith, at.turns, c.turns.invariant.at.turns, c.turns-test.true);
      };
      early = λ _. c.out_turn-turn.ensures.early c.in-EndsRun.is;
    }

pub returns-clause-ran : goal.returns-clause-ran
returns-clause-ran g c =
    let n : ℕ = length c.args.site.now.layout.records in
    let told : HasTold g.G.Gate.answers n c.args.pass.now c.turns.pass c.args.gate.now c.turns.gate nothing_told c.turns.told.report GoesOn = c.turns.invariant.told in
    record {
      ran = record {
        last = GoesOn;
        told = told;
        kinds = kinds_told n 0 told.went told.stop;
        shown = omega (arith, told.sent, shown_told n 0 told.went told.stop);
        unsent = omega (arith, told.sent, told.memory, unsent_told n 0 told.went told.stop);
        within = subst (λ (k : ℕ). IsOutAt k c.turns.told.report) (sym c.turns.invariant.at.turns) c.turns.invariant.at;
        ending = omega (arith, c.turns.invariant.at.turns, c.turns-test.false);
      };
      early = λ (is : GoesOn ≡ EndsRun). cc;
    }
