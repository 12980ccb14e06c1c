-- What `join` writes.
use Rattle.std.specs.Prelude.{ℕ, List, [], ◌∷◌, ◌++◌, codes, decimal}
use Rattle.merge_core.specs.declared.check.CheckError.TheVariants.{OtherLayout, BadRow}
use Rattle.delta_codec.specs.Decodes.{fault_name}
use Rattle.join_engine.specs.declared.fault.LineFault.{LineFault}
use Rattle.join_engine.specs.declared.fault.LineFault.TheVariants.{Unread, Unfit}

-- a fault's name, and the row where it has one
abbrev pub fault_text : LineFault → List ℕ
fault_text (Unread e) = fault_name e
fault_text (Unfit (OtherLayout row)) = codes "OtherLayout " ++ decimal row
fault_text (Unfit (BadRow row)) = codes "BadRow " ++ decimal row

-- the one line that is written where a line is refused
abbrev pub refusal_text : ℕ → LineFault → List ℕ
refusal_text number fault =
    codes "line " ++ (decimal number ++ (codes " refused " ++ (fault_text fault ++ 10 ∷ [])))
