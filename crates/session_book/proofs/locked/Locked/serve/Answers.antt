use Rattle.std.proofs.Common.{◌≡◌, ◌+◌, Bool, sym, subst, arith}
use Rattle.std.specs.Prelude.{if◌then◌else◌}
use Rattle.session_book.specs.Sites.{IsLocked}
use Rattle.session_book.specs.declared.locked.Locked.TheInside.{Inside}
use Rattle.session_book.proofs.LockedLemmas.{locked_served}
use Rattle.session_book.proofs.locked.Locked.serve.Goals as goal
use Rattle.session_book.proofs.locked.Locked.serve.Goals.{then-is_some, else-is_some}

pub invariant_of-self : goal.invariant_of-self
invariant_of-self g c =
    let served = c.serve_with_receipt-reply in
    let k = c.self.inside in
    elim c.if-is_some.branch [
      | then-is_some w ↦
          subst (λ (x : Inside g.row.K.Denot g.row.L.Denot). IsLocked g.K.Keeper g.L.Opening.kept x.desk x.counted.total x.rest.parts x.rest.amount) (sym w.self-inside-is)
          (locked_served g.K.Keeper g.L.Opening.kept k.desk served.new.self c.args.pass c.args.call.now served.result.0 served.result.1 c.is_some.result k.counted.total w.add.new.self.total k.rest.parts k.rest.amount
          c.self.invariant served.ensures.served served.ensures.receipt c.is_some.ensures
          (subst (λ (b : Bool). w.add.new.self.total ≡ k.counted.total + (if b then 1 else 0)) (sym w.if-is_some.true) w.add.ensures.total))
      | else-is_some w ↦
          subst (λ (x : Inside g.row.K.Denot g.row.L.Denot). IsLocked g.K.Keeper g.L.Opening.kept x.desk x.counted.total x.rest.parts x.rest.amount) (sym w.self-inside-is)
          (locked_served g.K.Keeper g.L.Opening.kept k.desk served.new.self c.args.pass c.args.call.now served.result.0 served.result.1 c.is_some.result k.counted.total k.counted.total k.rest.parts k.rest.amount
          c.self.invariant served.ensures.served served.ensures.receipt c.is_some.ensures
          (subst (λ (b : Bool). k.counted.total ≡ k.counted.total + (if b then 1 else 0)) (sym w.if-is_some.false) (omega arith)))
    ]
