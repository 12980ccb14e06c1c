-- The lines of verdicts (this project's own texts).
use Rattle.std.specs.Prelude.{ℕ, List, ◌++◌, codes, decimal}
use Rattle.merge_core.specs.declared.layout.RecordSpec.{RecordSpec}
use Rattle.log_judge.specs.declared.verdict.Verdict.{Verdict}
use Rattle.log_judge.specs.declared.verdict.Verdict.TheVariants.{BadCut, BadJoint, BadReply, Exceeds, Consistent}
use Rattle.transcript_text.specs.Texts.{record_text}

-- the line of a verdict
abbrev pub verdict_line : List RecordSpec → Verdict → List ℕ
verdict_line records BadCut = codes "bad cut\n"
verdict_line records (BadJoint i) = codes "bad joint site " ++ (decimal i ++ codes "\n")
verdict_line records (BadReply i at) = codes "bad reply site " ++ (decimal i ++ (codes " at " ++ (decimal at ++ codes "\n")))
verdict_line records (Exceeds i at r s) =
    codes "exceeds site " ++ (decimal i ++ (codes " at " ++ (decimal at
    ++ (codes " record " ++ (record_text records r ++ (codes " origin " ++ (decimal s ++ codes "\n")))))))
verdict_line records Consistent = codes "consistent\n"
