-- The texts of the small examples: each number is one digit.
use Rattle.std.proofs.Common.{◌≡◌, [], ◌∷◌, ◌++◌, codes, decimal, refl, arith}
use Rattle.std.proofs.lemmas.Fmt.{decimal_digit}
use Rattle.merge_core.specs.declared.check.CheckError.TheVariants.{OtherLayout}
use Rattle.delta_codec.specs.DeltaText.{row_text, delta_text}
use Rattle.join_engine.specs.declared.fault.LineFault.TheVariants.{Unfit}
use Rattle.join_engine.specs.Engine.{book_line}
use Rattle.join_engine.specs.Texts.{refusal_text}
use Rattle.join_engine.specs.Examples.{seat_given, seat_given_text, three_sent_text, three_sent_book}

zero : decimal 0 ≡ 48 ∷ []
zero = decimal_digit 0 (omega arith)

one : decimal 1 ≡ 49 ∷ []
one = decimal_digit 1 (omega arith)

two : decimal 2 ≡ 50 ∷ []
two = decimal_digit 2 (omega arith)

three : decimal 3 ≡ 51 ∷ []
three = decimal_digit 3 (omega arith)

four : decimal 4 ≡ 52 ∷ []
four = decimal_digit 4 (omega arith)

pub given_text : delta_text seat_given ≡ seat_given_text
unfolding delta_text row_text
given_text = rw zero (rw one (rw two refl))

pub written_text : book_line three_sent_book ≡ three_sent_text ++ codes "\n"
unfolding delta_text row_text
written_text = rw zero (rw one (rw three (rw four refl)))

pub refused_text : refusal_text 2 (Unfit (OtherLayout 1)) ≡ codes "line 2 refused OtherLayout 1\n"
refused_text = rw one (rw two refl)
