use Rattle.std.proofs.Common.{rules, arith, ◌≡◌, ℕ, List, length, take, ap, sym, ◌∙◌, subst}
use Rattle.std.proofs.Math.Seq.{take-length}
use Rattle.std.proofs.lemmas.Grind.{common_steps}
use Rattle.session_book.specs.declared.pass.Receipt.{Receipt}
use Rattle.session_book.specs.Passes.{receipts_of, IsFirstOther}
use Rattle.session_book.proofs.PassLemmas.{receipts_more, other_receipts, log_first, front_first}
use Rattle.session_book.proofs.closing.first_other.Goals as goal

pub entries-preserved : goal.entries-preserved
entries-preserved c = record {
  within = c.in-Some.ensures.followed.0;
  same = receipts_more c.args.number c.entries.i c.entries.next c.in-Some.after c.args.entries.now c.index-entries-i.result c.args.receipts.now c.entries-test.true c.index-entries-i.is c.entries.invariant.same c.in-Some.ensures.followed.1;
}

pub returns-in_default-clause-none : goal.returns-in_default-clause-none
returns-in_default-clause-none c = (
  λ none. cc,
  λ same. absurd
      (other_receipts c.args.number c.entries.i c.entries.next c.args.entries.now c.index-entries-i.result c.args.receipts.now c.entries-test.true c.index-entries-i.is c.entries.invariant.same
      (c.followed.ensures.other c.in_default.is) same),
)

pub returns-in_default-clause-first : goal.returns-in_default-clause-first
returns-in_default-clause-first c =
    log_first c.args.number c.entries.i c.entries.next c.args.entries.now c.index-entries-i.result c.args.receipts.now c.entries-test.true c.index-entries-i.is c.entries.invariant.same
    (c.followed.ensures.first c.in_default.is)

pub returns-then-next-receipts-clause-first : goal.returns-then-next-receipts-clause-first
returns-then-next-receipts-clause-first c =
    let ended : c.entries.i ≡ length c.args.entries.now = search rules in
    let all : receipts_of c.args.number c.args.entries.now ≡ take c.entries.next c.args.receipts.now =
    sym (ap (receipts_of c.args.number) (take-length c.args.entries.now))
    ∙ ap (λ (k : ℕ). receipts_of c.args.number (take k c.args.entries.now)) (sym ended)
    ∙ c.entries.invariant.same in
    subst (λ (qs : List Receipt). IsFirstOther qs c.args.receipts.now c.entries.next) (sym all) (front_first c.entries.next c.args.receipts.now c.entries.invariant.within)

pub returns-clause-none : goal.returns-clause-none
returns-clause-none c = grind (arith, common_steps)
