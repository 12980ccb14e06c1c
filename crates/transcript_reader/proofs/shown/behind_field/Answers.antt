use Rattle.std.proofs.Common.{ap, ◌∙◌, ℕ, List, ◌++◌, decimal}
use Rattle.transcript_text.specs.Quoted.{escaped}
use Rattle.transcript_reader.proofs.DeltaLemmas.{number_behind_takes}
use Rattle.transcript_reader.proofs.shown.behind_field.Goals as goal

pub returns : goal.returns
returns c =
    number_behind_takes c.args.literal.now c.args.bytes.now c.in-Ok.m c.in-Ok.rest.now c.in-Ok.ensures
    ∙ ap (λ (n : ℕ). c.args.literal.now ++ (escaped (decimal n) ++ c.in-Ok.rest.now)) c.if-m-n.false
