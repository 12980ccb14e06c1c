use Rattle.std.proofs.Common.{◌≡◌, true, false, [], ◌∷◌, sym, ap, ◌∙◌, codes, refl, arith}
use Rattle.std.specs.Str.{is_utf8, chars}
use Rattle.std.proofs.lemmas.Str.{IsUtf8-from_is_utf8, is_utf8-from_IsUtf8}
use lib.Utf8.{encode}
use Rattle.serde_json.proofs.OnLiterals.{serde_json_on_literals}
use Rattle.delta_codec.specs.DeltaText.{delta_text}
use Rattle.site_script.proofs.LawLemmas.{delta_taken, behind_take}
use Rattle.site_script.proofs.laws.take_examples.Goals as goal

pub returns-clause-delta : goal.returns-clause-delta
returns-clause-delta c = λ d is. (is, delta_taken d is)

pub returns-clause-nothing : goal.returns-clause-nothing
unfolding delta_text is_utf8 chars encode serde_json_on_literals
returns-clause-nothing c = record {
  text = [];
  takes = record { is_text = refl; utf8 = IsUtf8-from_is_utf8 [] refl };
  fault = ((λ d is e. cc), (omega arith, IsUtf8-from_is_utf8 [] refl), refl);
  judged = λ e. cc;
}

pub returns-clause-word : goal.returns-clause-word
unfolding delta_text is_utf8 chars encode serde_json_on_literals
returns-clause-word c = record {
  text = codes "x";
  takes = record { is_text = refl; utf8 = IsUtf8-from_is_utf8 (codes "x") refl };
  fault = ((λ d is e. cc), (omega arith, IsUtf8-from_is_utf8 (codes "x") refl), refl);
  judged = λ e. cc;
}

pub returns-clause-blank_in_front : goal.returns-clause-blank_in_front
unfolding delta_text is_utf8 chars encode serde_json_on_literals
returns-clause-blank_in_front c = record {
  text = codes " []";
  takes = record { is_text = refl; utf8 = IsUtf8-from_is_utf8 (codes " []") refl };
  fault = ((λ d is e. cc), (omega arith, IsUtf8-from_is_utf8 (codes " []") refl), refl);
  judged = λ e. cc;
}

pub returns-clause-blank_behind : goal.returns-clause-blank_behind
unfolding delta_text is_utf8 chars encode serde_json_on_literals
returns-clause-blank_behind c = record {
  text = codes "[] ";
  takes = record { is_text = refl; utf8 = IsUtf8-from_is_utf8 (codes "[] ") refl };
  fault = ((λ d is e. cc), (omega arith, IsUtf8-from_is_utf8 (codes "[] ") refl), refl);
  judged = λ e. cc;
}

pub returns-clause-no_text : goal.returns-clause-no_text
unfolding is_utf8 chars
returns-clause-no_text c = record {
  no_ask = refl;
  no_send = λ e. cc;
  no_take = λ text takes.
      let same : 255 ∷ [] ≡ text = ap behind_take takes.is_text in
      let both : true ≡ false = sym (is_utf8-from_IsUtf8 text takes.utf8) ∙ (ap is_utf8 (sym same) ∙ refl) in
      cc;
}
