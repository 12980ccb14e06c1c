-- An input that was not read for its length.
use Rattle.std.proofs.Common.{◌≡◌, Err, subst}
use Rattle.text_input.specs.declared.input.InputError.{InputError}
use Rattle.text_input.specs.declared.input.InputError.TheVariants.{TooLong}
use Rattle.text_input.specs.Input.{ReadsInput}
use Rattle.text_input.specs.Source.{SourceState}

pub too_long : (old new : SourceState) (e : InputError) → e ≡ TooLong → ReadsInput old new (Err e) → ReadsInput old new (Err TooLong)
too_long old new e is read = subst (λ (x : InputError). ReadsInput old new (Err x)) is read
