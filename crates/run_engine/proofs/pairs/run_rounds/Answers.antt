use Rattle.std.proofs.Common.{rules, ◌≡◌, ℕ, true, length, subst, arith}
use Rattle.run_engine.specs.Rounds.{HaveRounds, Round}
use Rattle.run_engine.proofs.RoundLemmas.{rounds_more}
use Rattle.run_engine.proofs.pairs.run_rounds.Goals as goal

pub rounds-preserved : goal.rounds-preserved
rounds-preserved g c =
    let records : ℕ = length c.args.site.now.layout.records in
    let peer_records : ℕ = length c.args.peer.now.layout.records in
    let asked : c.ask_help.result ≡ true = search rules in
    let peer_asked : c.ask_help-in-rounds.result ≡ true = search rules in
    let round : Round = record { turns = c.round_of-round.result; asked = c.ask_help.new.pass; peer_asked = c.ask_help-in-rounds.new.pass; there = c.in-Ok._there; back = c.in-Ok._back } in
    record {
      within = omega arith;
      rounds = rounds_more records peer_records c.rounds.begun c.args.end.now c.rounds.end c.run_ruled_pair.new.first_end c.args.peer_end.now c.rounds.peer_end c.run_ruled_pair.new.second_end round
          c.rounds.invariant.rounds
          (record {
            fits = c.round_of-round.ensures.room;
            helped = c.ask_help.ensures asked;
            peer_helped = c.ask_help-in-rounds.ensures peer_asked;
            there = c.in-Ok.ensures.ran.0;
            back = c.in-Ok.ensures.ran.1;
          });
    }

pub returns : goal.returns
returns g c = λ _.
    let all : c.rounds.begun ≡ c.args.turns = omega arith in
    subst (λ (n : ℕ). HaveRounds (length c.args.site.now.layout.records) (length c.args.peer.now.layout.records) n c.args.end.now c.rounds.end c.args.peer_end.now c.rounds.peer_end) all c.rounds.invariant.rounds
