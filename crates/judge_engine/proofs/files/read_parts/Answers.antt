use Rattle.std.proofs.Common.{◌++◌, ◌∙◌, take}
use Rattle.std.proofs.KnownBytes.{Consumes-trans}
use Rattle.judge_engine.proofs.files.read_parts.Goals as goal

pub parts-preserved : goal.parts-preserved
parts-preserved g c =
    let so = c.parts.invariant in
    let part = take c.in-Ok.n c.read.new.part in
    let read = c.in-Ok.ensures.read in (
      so.0 ++ part,
      Consumes-trans c.args.source.now.remaining c.parts.source.remaining c.read.new.self.remaining so.0 part so.1 read.1,
      read.3 ∙ so.2,
      λ layout cut keeping earlier reads. c.in-Ok-add.ensures layout cut keeping earlier so.0 (so.3 layout cut keeping earlier reads),
    )
