-- What reading a text answers, as one relation: the delta whose text it is, or the first fault that applies.
use Rattle.std.specs.Prelude.{ℕ, ◌≡◌, ◌≤◌, ◌<◌, List, length, codes, None, IsSome, IsUtf8, Result, Ok, Err}
use Rattle.serde_json.specs.Read.{read}
use Rattle.merge_core.specs.Delta.{DeltaState, IsDelta}
use Rattle.delta_codec.specs.DeltaText.{delta_text}
use Rattle.delta_codec.specs.declared.fault.DecodeError.{DecodeError}
use Rattle.delta_codec.specs.declared.fault.DecodeError.TheVariants.{TooLong, NotUtf8, NotJson, NotCanonical, Memory}

-- the most bytes of a text that is read (this project's own limit)
abbrev pub text_limit : ℕ
text_limit = 2097152

-- the bytes are no delta's text
abbrev pub HasNoDelta : List ℕ → Type 0
HasNoDelta bytes = (d : DeltaState) → IsDelta d → bytes ≡ delta_text d → ⊥

-- text within the limit
abbrev pub IsText : List ℕ → Type 0
IsText bytes = (length bytes ≤ text_limit) × IsUtf8 bytes

-- What is read is the delta whose text the bytes are, and each fault says that there is none, and that no
-- earlier fault applies. A text is JSON where `serde_json` reads it. Memory may run out over any text within
-- the limit, but hides neither of the two faults that are found without taking any.
abbrev pub Decodes : List ℕ → Result DeltaState DecodeError → Type 0
Decodes bytes (Ok d) = IsDelta d × (bytes ≡ delta_text d)
Decodes bytes (Err TooLong) = HasNoDelta bytes × (text_limit < length bytes)
Decodes bytes (Err NotUtf8) = HasNoDelta bytes × (length bytes ≤ text_limit) × ¬ IsUtf8 bytes
Decodes bytes (Err NotJson) = HasNoDelta bytes × IsText bytes × (read bytes ≡ None)
Decodes bytes (Err NotCanonical) = HasNoDelta bytes × IsText bytes × IsSome (read bytes)
Decodes bytes (Err Memory) = IsText bytes

-- the name of a fault, as reports write it
abbrev pub fault_name : DecodeError → List ℕ
fault_name TooLong = codes "TooLong"
fault_name NotUtf8 = codes "NotUtf8"
fault_name NotJson = codes "NotJson"
fault_name NotCanonical = codes "NotCanonical"
fault_name Memory = codes "Memory"
