-- Readers and announced writers.
use Rattle.std.proofs.Common.{◌≡◌, ℕ, ◌+◌, ◌⊎◌, inl, inr, true, false, eqb, ltb, leb, List, [], ◌∷◌, ◌++◌, length, Option, Some, is_some, refl, sym, ap, ◌∙◌, arith}
use Rattle.std.specs.Prelude.{unwrap_or}
use Rattle.std.proofs.lemmas.Bool.{cases_Bool, lt-ltb, le-ltb, lt-leb, eq-eqb, and_from, and_left, cond-true, cond-false}
use Rattle.merge_core.specs.declared.cell.Cell.TheVariants.{Out, Taken, Ann, Fin}
use Rattle.merge_core.specs.Layout.{LayoutState}
use Rattle.merge_core.specs.Counts.{counter_limit}
use Rattle.admission_model.specs.declared.ask.Ask.TheVariants.{Read}
use Rattle.admission_model.specs.declared.ask.Call.TheVariants.{Ask as AskCall}
use Rattle.admission_model.specs.declared.reply.Refusal.{Refusal}
use Rattle.admission_model.specs.declared.reply.Refusal.TheVariants.{NoRecord, BadHolder, AlreadyHere, CounterFull, WriterAnnounced, NoSeat}
use Rattle.admission_model.specs.declared.reply.Reply.TheVariants.{Admitted, Refused}
use Rattle.merge_core.specs.Sums.{total, total_others}
use Rattle.admission_model.specs.View.{View, problem_in, gained, spent, rights_of, shows_writer, first_unfinished}
use Rattle.admission_model.specs.Replies.{Line, line, first_reason, holder_limit, no_record_there, must_wait, read_lines}
use Rattle.admission_model.specs.Serving.{reply_of, replied}
use Rattle.admission_model.specs.Laws.{IsFirstUnfinished, MayAsk, DifferInNotices}
use Rattle.merge_core.proofs.SumLemmas.{total_same, total_others_same}
use Rattle.admission_model.proofs.LeastLemmas.{least_below-found}
use Rattle.admission_model.proofs.ServingLemmas.{Clear}

-- the first line that applies, behind lines that do not
pub reason_behind : (before : List Line) (l : Line) (behind : List Line) → Clear before → l.test ≡ true → first_reason (before ++ l ∷ behind) ≡ Some l.refusal
reason_behind [] l behind clear test = cond-true l.test (Some l.refusal) (first_reason behind) test
reason_behind (b ∷ before) l behind clear test =
    cond-false b.test (Some b.refusal) (first_reason (before ++ l ∷ behind)) clear.0 ∙ reason_behind before l behind clear.1 test

pub found : (v : View) (r s : ℕ) → IsFirstUnfinished v r s → first_unfinished v r ≡ Some s
found v r s first =
    least_below-found v.layout.sites (shows_writer v r) s
    (record {
      below = first.there;
      passes = lt-ltb (v.counter r s Fin) (v.counter r s Ann) first.unfinished;
      least = λ t lower. le-ltb (v.counter r t Fin) (v.counter r t Ann) (first.least t lower);
    })

pub reader_held : (v : View) (r h s : ℕ) → problem_in v.layout r ≡ 2 → MayAsk v r h → IsFirstUnfinished v r s → reply_of v (AskCall (Read r h)) ≡ Refused (WriterAnnounced s)
reader_held v r h s second may first =
    let is = found v r s first in
    let before : List Line =
    line (no_record_there v r) NoRecord ∷ line (ltb holder_limit h) BadHolder ∷ line (is_some (v.phase r h)) AlreadyHere
    ∷ line (ltb counter_limit (v.counter r v.site Taken + 1)) CounterFull ∷ [] in
    let behind : List Line = line (eqb (rights_of v r) 0) (NoSeat (rights_of v r)) ∷ [] in
    let waits = and_from (eqb (problem_in v.layout r) 2) (is_some (first_unfinished v r)) (eq-eqb (problem_in v.layout r) 2 second) (ap is_some is) in
    ap (λ o. replied o Admitted)
    (reason_behind before (line (must_wait v r) (WriterAnnounced (unwrap_or (first_unfinished v r) 0))) behind (
      lt-leb (length v.layout.records) r may.record_there,
      (
        le-ltb holder_limit h may.holder,
        (
          ap is_some may.not_here,
          (le-ltb counter_limit (v.counter r v.site Taken + 1) may.room, tt),
        ),
      ),
    )
    waits)
    ∙ ap (λ o. Refused (WriterAnnounced (unwrap_or o 0))) is

-- two lists of lines that answer the same
abbrev SameLines : List Line → List Line → Type 0
SameLines [] [] = Unit {0}
SameLines (l ∷ ls) (m ∷ ms) = (m.test ≡ l.test) × ((l.test ≡ true → m.refusal ≡ l.refusal) × SameLines ls ms)
SameLines _ _ = ⊥

same_reason : (ls ms : List Line) → SameLines ls ms → first_reason ms ≡ first_reason ls
same_reason [] [] same = refl
same_reason [] (m ∷ ms) same = elim same [ ]
same_reason (l ∷ ls) [] same = elim same [ ]
same_reason (l ∷ ls) (m ∷ ms) same = at (cases_Bool l.test) (same_reason ls ms same.1.1)
  where
    at : (l.test ≡ true) ⊎ (l.test ≡ false) → first_reason ms ≡ first_reason ls → first_reason (m ∷ ms) ≡ first_reason (l ∷ ls)
    at (inl e) later =
        cond-true m.test (Some m.refusal) (first_reason ms) (same.0 ∙ e)
        ∙ (ap {B = Option Refusal} Some (same.1.0 e) ∙ sym (cond-true l.test (Some l.refusal) (first_reason ls) e))
    at (inr e) later =
        cond-false m.test (Some m.refusal) (first_reason ms) (same.0 ∙ e)
        ∙ (later ∙ sym (cond-false l.test (Some l.refusal) (first_reason ls) e))

same_rights : (v w : View) (r : ℕ) → DifferInNotices v w → rights_of w r ≡ rights_of v r
same_rights v w r same =
    let gains : gained w r ≡ gained v r =
    ap (λ (l : LayoutState). total l.sites (λ j. w.counter r j (Out w.site))) same.layout
    ∙ (ap (λ i. total v.layout.sites (λ j. w.counter r j (Out i))) same.site
    ∙ total_same v.layout.sites (λ j. w.counter r j (Out v.site)) (λ j. v.counter r j (Out v.site)) (λ j below. same.outs r j v.site)) in
    let gives : total_others w.layout.sites w.site (λ j. w.counter r w.site (Out j)) ≡ total_others v.layout.sites v.site (λ j. v.counter r v.site (Out j)) =
    ap (λ (l : LayoutState). total_others l.sites w.site (λ j. w.counter r w.site (Out j))) same.layout
    ∙ (ap (λ i. total_others v.layout.sites i (λ j. w.counter r i (Out j))) same.site
    ∙ total_others_same v.layout.sites v.site (λ j. w.counter r v.site (Out j)) (λ j. v.counter r v.site (Out j)) (λ j below apart. same.outs r v.site j)) in
    let takes : w.counter r w.site Taken ≡ v.counter r v.site Taken = ap (λ i. w.counter r i Taken) same.site ∙ same.takens r v.site in
    let spends : spent w r ≡ spent v r = omega (arith, gives, takes) in
    omega (arith, gains, spends)

no_wait : (v : View) (r : ℕ) → problem_in v.layout r ≡ 1 → must_wait v r ≡ false
no_wait v r first =
    and_left (eqb (problem_in v.layout r) 2) (is_some (first_unfinished v r)) (ap (λ p. eqb p 2) first)

pub reader_not_held : (v w : View) (r h : ℕ) → problem_in v.layout r ≡ 1 → DifferInNotices v w → reply_of w (AskCall (Read r h)) ≡ reply_of v (AskCall (Read r h))
reader_not_held v w r h first same =
    let same_taken : w.counter r w.site Taken ≡ v.counter r v.site Taken = ap (λ i. w.counter r i Taken) same.site ∙ same.takens r v.site in
    let seats = same_rights v w r same in
    let first_w : problem_in w.layout r ≡ 1 = ap (λ (l : LayoutState). problem_in l r) same.layout ∙ first in
    ap (λ o. replied o Admitted)
    (same_reason (read_lines v r h) (read_lines w r h) (
      ap (λ (l : LayoutState). leb (length l.records) r) same.layout,
      (
        (λ e. refl),
        (
          refl,
          (
            (λ e. refl),
            (
              ap is_some (same.phase r h),
              (
                (λ e. refl),
                (
                  ap (λ n. ltb counter_limit (n + 1)) same_taken,
                  (
                    (λ e. refl),
                    (
                      no_wait w r first_w ∙ sym (no_wait v r first),
                      (
                        (λ e. let clash : false ≡ true = sym (no_wait v r first) ∙ e in cc),
                        (ap (λ n. eqb n 0) seats, ((λ e. ap {B = Refusal} NoSeat seats), tt)),
                      ),
                    ),
                  ),
                ),
              ),
            ),
          ),
        ),
      ),
    ))
