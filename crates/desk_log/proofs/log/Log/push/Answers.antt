use Rattle.std.proofs.Common.{false, length, sym, ap, ◌∙◌, arith, length-append}
use Rattle.desk_log.specs.Log.{LogState, ends_in_fault}
use Rattle.desk_log.proofs.LogLemmas.{ends-push}
use Rattle.desk_log.proofs.log.Log.push.Goals as goal

pub invariant_of-self : goal.invariant_of-self
invariant_of-self c =
    let items = c.push_reserved.ensures.items in
    let old = c.self.view_is in (
      omega (arith, simp length-append at (ap length items), c.requires, ap (λ (l : LogState). length l.entries) old, ap (λ (l : LogState). l.limit) old),
      omega (arith, c.push_reserved.ensures.capacity, c.self.invariant.1),
      c.is_fault-self-inside.ensures ∙ sym (ap (ends_in_fault false) items ∙ ends-push false c.self.inside.entries.items c.args.entry),
    )
