use Rattle.std.proofs.Common.{◌≡◌, ◌∙◌, ℕ, List, ap, ◌-◌, ◌<◌, ◌++◌, ◌||◌, eqb, true, false, length, get_or, take, drop, string_bytes, refl, arith}
use Rattle.std.proofs.lemmas.Str.{IsCharBoundary-before_ascii}
use Rattle.transcript_text.proofs.QuotedLemmas.{plain_step, special_step, special_low}
use Rattle.transcript_text.proofs.quoted.push_escaped.Goals as goal
use Rattle.transcript_text.proofs.quoted.push_escaped.Goals.{then-is_special+in_ok-push_str+in_ok-push_str-2, else-is_special}

pub loop-i-preserved : goal.loop-i-preserved
loop-i-preserved c =
    let part = c.args.part.now in
    let i = c.loop-i.i in
    let b = get_or part i 0 in
    let below : i < length part = omega (arith, c.loop-i-test.true, c.as_bytes-bytes.ensures.len) in
    let so_far = c.loop-i.invariant in
    elim c.if-is_special.branch [
      | then-is_special+in_ok-push_str+in_ok-push_str-2 w ↦
          let special : ((eqb b 34) || (eqb b 92)) ≡ true = cc in
          let run : string_bytes w.push_str.new.self ≡ string_bytes c.loop-i.text ++ take (i - c.loop-i.from) (drop c.loop-i.from part) =
          w.in_ok-push_str.ensures.bytes ∙ ap (λ (x : List ℕ). string_bytes c.loop-i.text ++ x) w.range.ensures.value in
          rw (w.from-is, w.text-is) (record {
            low = omega arith;
            boundary = λ some. IsCharBoundary-before_ascii part i below (special_low b special);
            written = special_step _ _ _ _ part c.loop-i.from i b below refl special run w.in_ok-push_str-2.ensures.bytes so_far.written;
          })
      | else-is_special w ↦
          let plain : ((eqb b 34) || (eqb b 92)) ≡ false = cc in
          rw (w.from-is, w.text-is) (record {
            low = omega (arith, so_far.low);
            boundary = so_far.boundary;
            written = plain_step _ _ part c.loop-i.from i b so_far.low below refl plain so_far.written;
          })
    ]
