use Rattle.std.proofs.Common.{refl, arith}
use Rattle.std.proofs.lemmas.Bool.{both_ways}
use Rattle.sqlite.specs.Held.{state}
use Rattle.store_rows.proofs.StepLemmas.{survives_same}
use Rattle.store_tables.proofs.LookingLemmas.{keeps_all, looks_found, looks_stopped, looks_told, refused_never, refused_told}
use Rattle.store_tables.proofs.tables.Tables.look.Goals as goal

pub returns-then-self : goal.returns-then-self
returns-then-self g c =
    let conn = c.args.self.now.conn in
    record {
      looks = looks_stopped (λ is. cc);
      keeps = keeps_all conn conn (survives_same (state g.S.Store conn));
      refused = λ sound. absurd (both_ways c.args.self.now.failed sound c.if-self.true);
      stops = record { honest = λ clean. clean; fault = λ is. c.if-self.true; sound = λ other. absurd (other refl); stopped = λ was. (refl, refl) };
    }

pub returns-in-Ok : goal.returns-in-Ok
returns-in-Ok g c =
    let unwritten = c.look_kept.ensures.looks.unwritten in
    record {
      looks = looks_found c.in-Ok.ensures.looks;
      keeps = keeps_all c.args.self.now.conn c.look_kept.new.conn unwritten;
      refused = λ sound. refused_never _ (λ is. cc);
      stops = record { honest = λ clean. omega (arith, unwritten.clean, clean); fault = λ is. absurd (cc); sound = λ other. c.if-self.false; stopped = λ was. absurd (both_ways c.args.self.now.failed c.if-self.false was) };
    }

pub returns-in-Err-Bad : goal.returns-in-Err-Bad
returns-in-Err-Bad g c =
    let unwritten = c.look_kept.ensures.looks.unwritten in
    record {
      looks = looks_told (λ is. c.in-Err-Bad.field-0-is) c.in-Err-Bad.ensures.looks;
      keeps = keeps_all c.args.self.now.conn c.look_kept.new.conn unwritten;
      refused = λ sound. refused_never _ (λ is. cc);
      stops = record { honest = λ clean. omega (arith, unwritten.clean, clean); fault = λ is. absurd (cc); sound = λ other. c.if-self.false; stopped = λ was. absurd (both_ways c.args.self.now.failed c.if-self.false was) };
    }

pub returns-in-Err-Memory : goal.returns-in-Err-Memory
returns-in-Err-Memory g c =
    let unwritten = c.look_kept.ensures.looks.unwritten in
    record {
      looks = looks_told (λ is. absurd (cc)) c.in-Err-Memory.ensures.looks;
      keeps = keeps_all c.args.self.now.conn c.look_kept.new.conn unwritten;
      refused = λ sound. refused_never _ (λ is. cc);
      stops = record { honest = λ clean. omega (arith, unwritten.clean, clean); fault = λ is. absurd (cc); sound = λ other. c.if-self.false; stopped = λ was. absurd (both_ways c.args.self.now.failed c.if-self.false was) };
    }

pub returns : goal.returns
returns g c =
    let unwritten = c.look_kept.ensures.looks.unwritten in
    record {
      looks = looks_told (λ is. absurd (cc)) c.in-Err-Failed.ensures.looks;
      keeps = keeps_all c.args.self.now.conn c.look_kept.new.conn unwritten;
      refused = λ sound. refused_told (λ is. c.in-Err-Failed.field-0-is) c.in-Err-Failed.ensures.refused;
      stops = record { honest = λ clean. omega (arith, unwritten.clean, clean); fault = λ is. refl; sound = λ other. absurd (other refl); stopped = λ was. absurd (both_ways c.args.self.now.failed c.if-self.false was) };
    }
