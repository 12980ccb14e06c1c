use Rattle.std.proofs.Common.{◌-◌, ◌∙◌, suc, List, ℕ, take, drop, ap, sym, arith}
use Rattle.line_conversation.proofs.AheadLemmas.{split_at_lf, none_in_front}
use Rattle.line_conversation.proofs.ahead.Ahead.part.Goals as goal

pub returns-in-Some : goal.returns-in-Some
returns-in-Some c =
    let i = c.self.inside in
    let bs : List ℕ = take (i.to - i.from) (drop i.from c.deref.result.now) in
    let found = c.in-Some.ensures in (
      drop (suc c.in-Some.end) bs,
      sym c.self.view_is
          ∙ (ap (λ (xs : List ℕ). take (i.to - i.from) (drop i.from xs)) (sym c.deref.ensures.value)
          ∙ split_at_lf bs c.in-Some.end found.0.high found.1),
      none_in_front bs c.in-Some.end (λ j low. found.0.before j (omega arith) low),
    )
