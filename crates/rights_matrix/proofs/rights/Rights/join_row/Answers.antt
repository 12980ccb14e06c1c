use Rattle.std.proofs.Common.{◌≡◌, ◌+◌, ◌≤◌, Bool, true, false, take, cond, ltb, refl, sym, ◌∙◌, arith}
use mir.Val.{bool_byte}
use Rattle.rights_matrix.specs.Joined.{joined_at}
use Rattle.rights_matrix.specs.Matrix.{raised}
use Rattle.rights_matrix.proofs.JoinLemmas.{joined_at-start, joined_at-more, rise_counts-same, rise_counts-more}
use Rattle.rights_matrix.proofs.rights.Rights.join_row.Goals as goal

-- a test counts as 1 or 0
bool_byte_is : (b : Bool) → (bool_byte b ≡ cond b 1 0) × (bool_byte b ≤ 1)
bool_byte_is true = (refl, omega arith)
bool_byte_is false = (refl, omega arith)

pub loop-j-init : goal.loop-j-init
loop-j-init c = record {
  state = joined_at-start c.args.self.now c.args.s;
  counted = sym (rise_counts-same _);
  few = omega arith;
  matrix = c.sites.ensures.matrix;
}

pub loop-j-preserved : goal.loop-j-preserved
loop-j-preserved c =
    let m = c.args.self.now in
    let i = c.loop-j.invariant in
    let next = joined_at-more m c.loop-j.self c.args.s c.loop-j.j c.raise_to.result c.args.given.now c.sites.ensures.matrix c.requires.site c.loop-j-test.true c.requires.size i.state c.raise_to.ensures.by in
    let count = rise_counts-more m c.loop-j.self c.args.s c.loop-j.j c.raise_to.result c.args.given.now c.sites.ensures.matrix c.requires.site c.loop-j-test.true c.requires.size i.state c.raise_to.ensures.by in
    let one = bool_byte_is (ltb 0 c.raise_to.result) in
    let step : c.raise_to.new.self ≡ joined_at m c.args.s (take (c.loop-j.j + 1) c.args.given.now) = c.raise_to.ensures.state ∙ next in
    record {
      state = step;
      counted = rw step (omega (arith, count, one, i.counted, c.from-risen.ensures));
      few = omega (arith, one.1, i.few, c.from-risen.ensures);
      matrix = c.raise_to.ensures.matrix;
    }
