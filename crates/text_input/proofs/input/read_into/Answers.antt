use Rattle.std.proofs.Common.{rules, ◌+◌, ◌∙◌, ◌++◌, inl, subst, take, arith, length-append, length-take}
use Rattle.std.specs.Io.KnownBytes.{Consumes}
use Rattle.text_input.proofs.InputLemmas.{lost_at_end, lost_more, lost_no_more, read_failed}
use Rattle.text_input.proofs.input.read_into.Goals as goal

pub returns-then-is_err : goal.returns-then-is_err
returns-then-is_err g c =
    let so_far = c.loop-count.invariant in
    let more = lost_more c.args.source.now c.loop-count.source c.read.new.self (c.args.limit + 1) c.in-Ok.n so_far.0 c.read.new.part
    so_far.1 c.in-Ok.ensures.read.1 (search rules) in
    ((_, more), inl (c.in-Ok.ensures.read.3 ∙ so_far.3))

pub returns-in-Err : goal.returns-in-Err
returns-in-Err g c =
    let so_far = c.loop-count.invariant in
    let same = lost_no_more c.args.source.now c.loop-count.source c.read.new.self (c.args.limit + 1) so_far.0
    so_far.1 c.in-Err.ensures.failed.0 in
    read_failed c.args.limit c.args.source.now c.read.new.self so_far.0 c.in-Err.error same c.in-Err.ensures.failed.1

pub returns-in-Ok-eq0 : goal.returns-in-Ok-eq0
returns-in-Ok-eq0 g c =
    let so_far = c.loop-count.invariant in
    let none = subst (λ n. Consumes c.loop-count.source.remaining c.read.new.self.remaining (take n c.read.new.part)) c.in-Ok-eq0.field-0-test
    c.in-Ok-eq0.ensures.read.1 in (
      so_far.0,
      (
        lost_at_end c.args.source.now c.loop-count.source c.read.new.self (c.args.limit + 1) c.args.limit so_far.0 c.read.new.part so_far.1 none (search rules),
        c.in-Ok-eq0.ensures.read.2 c.in-Ok-eq0.field-0-test (search rules),
        c.in-Ok-eq0.ensures.read.3 ∙ so_far.3,
      ),
      so_far.4,
    )

pub loop-count-preserved : goal.loop-count-preserved
loop-count-preserved g c =
    let so_far = c.loop-count.invariant in
    let more = lost_more c.args.source.now c.loop-count.source c.read.new.self (c.args.limit + 1) c.in-Ok.n so_far.0 c.read.new.part
    so_far.1 c.in-Ok.ensures.read.1 (search rules) in (
      so_far.0 ++ take c.in-Ok.n c.read.new.part,
      more,
      omega (arith, so_far.2, length-append so_far.0 (take c.in-Ok.n c.read.new.part), length-take c.in-Ok.n c.read.new.part, c.in-Ok.ensures.read.0),
      c.in-Ok.ensures.read.3 ∙ so_far.3,
      search rules,
    )
