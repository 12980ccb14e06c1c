use Rattle.std.proofs.Common.{◌≡◌, ◌-◌, ℕ, length, arith, subst}
use Rattle.serve_engine.specs.Together.{TellsText, faults}
use Rattle.serve_engine.proofs.BlockLemmas.{failed_then, told_then}
use Rattle.serve_engine.proofs.rounds.tell_fault.Goals as goal

pub returns-in-Failed-clause-told : goal.returns-in-Failed-clause-told
returns-in-Failed-clause-told g c =
    failed_then g.C.Conversation c.args.conversation.now c.tell_some.new.conversation c.args.round.now.sure (faults (length c.args.round.now.lines - c.args.round.now.sure_lines))
    (rw c.sure.ensures at c.in-Failed.ensures.told)

pub returns-in-Next-clause-told : goal.returns-in-Next-clause-told
returns-in-Next-clause-told g c =
    let left : c.saturating_sub-count.result ≡ length c.args.round.now.lines - c.args.round.now.sure_lines = omega (arith, c.saturating_sub-count.ensures, c.len.ensures, c.sure_lines.ensures) in
    told_then g.C.Conversation c.args.conversation.now c.tell_some.new.conversation c.tell_faults.new.conversation c.args.round.now.sure
    (faults (length c.args.round.now.lines - c.args.round.now.sure_lines)) c.tell_faults.result (rw c.sure.ensures at c.in-Next.ensures.told)
    (subst (λ (k : ℕ). TellsText g.C.Conversation c.tell_some.new.conversation c.tell_faults.new.conversation (faults k) c.tell_faults.result) left c.tell_faults.ensures.told)
