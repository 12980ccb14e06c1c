-- One line more in a round.
use Rattle.std.proofs.Common.{◌≡◌, ℕ, suc, ◌+◌, ◌≤◌, ◌⊎◌, inl, inr, Ok, Err, Bool, true, false, List, [], ◌∷◌, ◌++◌, ◌||◌, length, refl, sym, ap, subst, ◌∙◌, append_assoc, append-nil, length-append, arith}
use Rattle.std.specs.Prelude.{nat_lt, OnOk, Result}
use Rattle.std.specs.Result.{is_err}
use Rattle.std.proofs.lemmas.Bool.{ltb-false}
use Rattle.admission_model.specs.Account.{Account}
use Rattle.admission_core.specs.Core.{Stands}
use Rattle.admission_core.specs.Kept.{DurableState, ChangeState, durable_of}
use Rattle.durable_keeper.specs.declared.keeper.Keeper.{Ghosts}
use Rattle.desk_log.specs.Desk.{Leaves}
use Rattle.line_conversation.specs.Turns.{Whole}
use Rattle.live_site.specs.declared.call_log.CallLog.{Ghosts as LogGhosts}
use Rattle.live_site.specs.Live.{LiveState}
use Rattle.round_keeper.specs.Rounds.{changed_all}
use Rattle.round_keeper.specs.Staged.{StagedState, KeepsStaged}
use Rattle.serve_engine.specs.declared.answering.Told.{Told}
use Rattle.serve_engine.specs.declared.answering.Told.TheVariants.{Text, Unmarked, Memory, StoreFault, Frozen, LogFailed}
use Rattle.serve_engine.specs.Requests.{Terms}
use Rattle.serve_engine.specs.Exchanges.{Exchange, Answers, Serves}
use Rattle.serve_engine.specs.Rounds.{answers_of}
use Rattle.serve_engine.specs.Steps.{Exchanges, ExchangesAs, ServesOn, StopsServing, ServesLine, exchange_of, told_text}
use Rattle.serve_engine.specs.Filling.{RoundState, with_answer, AreWhole, HasExchanges, IsFilled, Fills, IsUndone}
use Rattle.serve_engine.proofs.TurnLemmas.{serves_more}

answers_more : (xs : List Exchange) (x : Exchange) → answers_of (xs ++ x ∷ []) ≡ answers_of xs ++ x.told
answers_more [] x = append-nil x.told
answers_more (y ∷ ys) x = ap (λ (t : List ℕ). y.told ++ t) (answers_more ys x) ∙ sym (append_assoc y.told (answers_of ys) x.told)

pub whole_more : (ls : List (List ℕ)) (xs : List Exchange) (l : List ℕ) (x : Exchange) → AreWhole ls xs → x.line ≡ Whole l → AreWhole (ls ++ l ∷ []) (xs ++ x ∷ [])
whole_more [] [] l x are is = (is, tt)
whole_more [] (y ∷ ys) l x are is = absurd are
whole_more (k ∷ ls) [] l x are is = absurd are
whole_more (k ∷ ls) (y ∷ ys) l x are is = (are.0, whole_more ls ys l x are.1 is)

whole_length : (ls : List (List ℕ)) (xs : List Exchange) → AreWhole ls xs → length ls ≡ length xs
whole_length [] [] are = refl
whole_length [] (y ∷ ys) are = absurd are
whole_length (k ∷ ls) [] are = absurd are
whole_length (k ∷ ls) (y ∷ ys) are = ap suc (whole_length ls ys are.1)

none_there : (xs : List Exchange) → length xs ≤ 0 → xs ≡ []
none_there [] few = refl
none_there (x ∷ xs) few = absurd (omega (arith, few))

some_there : (xs : List Exchange) (x : Exchange) → xs ++ x ∷ [] ≡ [] → ⊥
some_there [] x none = absurd (cc)
some_there (y ∷ ys) x none = absurd (cc)

pub no_changes : (cs : List ChangeState) → length cs ≤ 0 → cs ≡ []
no_changes [] few = refl
no_changes (c ∷ cs) few = absurd (omega (arith, few))

neither : (p q : Bool) → (p || q) ≡ false → (p ≡ false) × (q ≡ false)
neither false q is = (refl, is)
neither true q is = absurd (cc)

not_both : (b : Bool) → b ≡ true → b ≡ false → ⊥
not_both b one other = let clash : true ≡ false = sym one ∙ other in absurd (cc)

-- the lists of a round with a line more
module _ (round : RoundState) (sure waiting : List Exchange) (x : Exchange) (line text : List ℕ) (is : x.line ≡ Whole line) (told : x.told ≡ text) (has : HasExchanges round sure waiting) where
  lines_more : AreWhole (round.lines ++ line ∷ []) (sure ++ (waiting ++ x ∷ []))
  lines_more = subst (λ (xs : List Exchange). AreWhole (round.lines ++ line ∷ []) xs) (append_assoc sure waiting (x ∷ [])) (whole_more round.lines (sure ++ waiting) line x has.lines is)

  has_waiting : HasExchanges (with_answer (record round { lines = round.lines ++ line ∷ [] }) text true) sure (waiting ++ x ∷ [])
  has_waiting = record {
    lines = lines_more;
    sure_texts = has.sure_texts;
    waiting_texts = ap (λ (t : List ℕ). t ++ text) has.waiting_texts ∙ (ap (λ (t : List ℕ). answers_of waiting ++ t) (sym told) ∙ sym (answers_more waiting x));
    counted = has.counted;
  }

  has_sure : waiting ≡ [] → HasExchanges (with_answer (record round { lines = round.lines ++ line ∷ [] }) text false) (sure ++ x ∷ []) []
  has_sure none = record {
    lines = subst (λ (xs : List Exchange). AreWhole (round.lines ++ line ∷ []) xs) (ap (λ (w : List Exchange). sure ++ (w ++ x ∷ [])) none ∙ sym (append-nil (sure ++ x ∷ []))) lines_more;
    sure_texts = ap (λ (t : List ℕ). t ++ text) has.sure_texts ∙ (ap (λ (t : List ℕ). answers_of sure ++ t) (sym told) ∙ sym (answers_more sure x));
    waiting_texts = has.waiting_texts ∙ ap answers_of none;
    counted = whole_length (round.lines ++ line ∷ []) (sure ++ (waiting ++ x ∷ [])) lines_more ∙ ap (λ (w : List Exchange). length (sure ++ (w ++ x ∷ []))) none;
  }

  none_waits : nat_lt (round.sure_lines + 1) (length (round.lines ++ line ∷ [])) ≡ false → waiting ≡ []
  none_waits short =
      let most = ltb-false (round.sure_lines + 1) (length (round.lines ++ line ∷ [])) short in
      let all = length-append round.lines (line ∷ []) in
      let same = whole_length round.lines (sure ++ waiting) has.lines in
      let both = length-append sure waiting in
      none_there waiting (omega (arith, most, all, same, both, has.counted))

module _ {K L : Type 0} (g : Ghosts K) (base : DurableState) (s : Ghosts (StagedState K))
    (from : (x : StagedState K) (d : DurableState) → s.keeps x d → KeepsStaged g base x d)
    (into : (x : StagedState K) (d : DurableState) → KeepsStaged g base x d → s.keeps x d)
    (never : (x : StagedState K) (d e : DurableState) → s.keeps_either x d e → ⊥)
    (m : StagedState K → Type 0) (h : LogGhosts L) (terms : Terms) (a : Account) (k : K)
    (old new : LiveState (StagedState K)) (log log_after : L) where
  -- it serves on
  serves_on : (it_account : Account) (x : Exchange) → old.frozen ≡ false → new.frozen ≡ false → Exchanges s m h terms it_account old new log log_after x → ServesOn s h terms it_account old new log log_after x
  serves_on b x was running ex = pick (subst (λ (f : Bool). ExchangesAs f s m h terms b old new log log_after x) was ex)
    where
      pick : ServesOn s h terms b old new log log_after x ⊎ StopsServing s m h terms b old new log log_after x → ServesOn s h terms b old new log log_after x
      pick (inl on) = on
      pick (inr stops) = absurd (not_both new.frozen stops.frozen running)

  module _ (sure waiting : List Exchange) (x : Exchange) (it : IsFilled g base terms a k old sure waiting) (on : ServesOn s h terms it.account old new log log_after x) where
    kept_on : g.faults_of k ≡ 0 → g.keeps k base → base ≡ durable_of a → KeepsStaged g base new.keeper (durable_of on.account)
    kept_on sound keeps same = from new.keeper (durable_of on.account) (on.kept (into old.keeper (durable_of it.account) (it.kept sound keeps same)))

    waits_more : IsFilled g base terms a k new sure (waiting ++ x ∷ [])
    waits_more = record {
      middle = it.middle;
      account = on.account;
      entries = it.entries;
      more = it.more ++ on.entries;
      served = it.served;
      served_waiting = serves_more terms it.middle waiting it.more it.account x on.account on.entries it.served_waiting on.answers;
      stands = on.stands;
      running = on.running;
      idle = λ none. absurd (some_there waiting x none);
      middle_kept = it.middle_kept;
      kept = kept_on;
    }

    sure_more : waiting ≡ [] → new.keeper.changes ≡ [] → IsFilled g base terms a k new (sure ++ x ∷ []) []
    sure_more none idle = record {
      middle = on.account;
      account = on.account;
      entries = it.entries ++ on.entries;
      more = [];
      served = serves_more terms a sure it.entries it.middle x on.account on.entries it.served (subst (λ (b : Account). Answers terms b x.line x.told on.account on.entries) same_account on.answers);
      served_waiting = (refl, refl);
      stands = on.stands;
      running = on.running;
      idle = λ none. idle;
      middle_kept = λ sound keeps same. sym ((kept_on sound keeps same).made ∙ ap (λ (cs : List ChangeState). changed_all cs base) idle);
      kept = kept_on;
    }
      where
        same_account : it.account ≡ it.middle
        same_account = (subst (λ (w : List Exchange). Serves terms it.middle w it.more it.account) none it.served_waiting).0

  -- the keeper below keeps what it kept before the round
  base_stays : (b : Account) (line : List ℕ) (told : Told) (text : List ℕ) → old.frozen ≡ false → KeepsStaged g base old.keeper (durable_of b) → ServesLine s m h terms b old new log log_after line told text → g.keeps new.keeper.keeper base
  base_stays b line told text was kept serves = by_told told serves
    where
      by_leaves : (fault : Bool) (tried : Account) → Leaves s fault new.keeper b tried → g.keeps new.keeper.keeper base
      by_leaves false tried leaves = (from new.keeper (durable_of b) leaves).kept
      by_leaves true tried leaves = absurd (never new.keeper (durable_of b) (durable_of tried) leaves)

      by_exchange : (x : Exchange) → ServesOn s h terms b old new log log_after x ⊎ StopsServing s m h terms b old new log log_after x → g.keeps new.keeper.keeper base
      by_exchange x (inl on) = (from new.keeper (durable_of on.account) (on.kept (into old.keeper (durable_of b) kept))).kept
      by_exchange x (inr stops) = by_leaves stops.fault stops.tried (stops.kept (into old.keeper (durable_of b) kept))

      exchanged : (x : Exchange) → Exchanges s m h terms b old new log log_after x → g.keeps new.keeper.keeper base
      exchanged x ex = by_exchange x (subst (λ (f : Bool). ExchangesAs f s m h terms b old new log log_after x) was ex)

      by_told : (t : Told) → ServesLine s m h terms b old new log log_after line t text → g.keeps new.keeper.keeper base
      by_told Text it = exchanged (exchange_of line text) it
      by_told (Unmarked fault) it = exchanged (exchange_of line (told_text (Unmarked fault) text)) it
      by_told Memory it = exchanged (exchange_of line (told_text Memory text)) it
      by_told StoreFault it = exchanged (exchange_of line (told_text StoreFault text)) it
      by_told Frozen it = exchanged (exchange_of line (told_text Frozen text)) it
      by_told LogFailed it = (from new.keeper (durable_of b) (it.kept (into old.keeper (durable_of b) kept))).kept

  -- the core stands for some account
  stands_so : (b : Account) (line : List ℕ) (told : Told) (text : List ℕ) → old.frozen ≡ false → ServesLine s m h terms b old new log log_after line told text → (d : Account) × Stands d new.core
  stands_so b line told text was serves = by_told told serves
    where
      by_exchange : (x : Exchange) → ServesOn s h terms b old new log log_after x ⊎ StopsServing s m h terms b old new log log_after x → (d : Account) × Stands d new.core
      by_exchange x (inl on) = (on.account, on.stands)
      by_exchange x (inr stops) = (b, stops.stands)

      exchanged : (x : Exchange) → Exchanges s m h terms b old new log log_after x → (d : Account) × Stands d new.core
      exchanged x ex = by_exchange x (subst (λ (f : Bool). ExchangesAs f s m h terms b old new log log_after x) was ex)

      by_told : (t : Told) → ServesLine s m h terms b old new log log_after line t text → (d : Account) × Stands d new.core
      by_told Text it = exchanged (exchange_of line text) it
      by_told (Unmarked fault) it = exchanged (exchange_of line (told_text (Unmarked fault) text)) it
      by_told Memory it = exchanged (exchange_of line (told_text Memory text)) it
      by_told StoreFault it = exchanged (exchange_of line (told_text StoreFault text)) it
      by_told Frozen it = exchanged (exchange_of line (told_text Frozen text)) it
      by_told LogFailed it = (b, it.stands)

  -- a line in the round
  pub placed_in : (round : RoundState) (xs : List Exchange) (line text : List ℕ) (waits : Bool) → (fills : Fills g base terms a k old round xs) → new.frozen ≡ false
      → Exchanges s m h terms fills.filled.account old new log log_after (exchange_of line text) → (waits ≡ false → new.keeper.changes ≡ [])
      → (x : Exchange) × (x.line ≡ Whole line) × Fills g base terms a k new
      (with_answer (record round { lines = round.lines ++ line ∷ [] }) text (waits || nat_lt (round.sure_lines + 1) (length (round.lines ++ line ∷ [])))) (xs ++ x ∷ [])
  placed_in round xs line text waits fills running ex idle = (x, refl, at flag refl)
    where
      x : Exchange
      x = exchange_of line text

      flag : Bool
      flag = waits || nat_lt (round.sure_lines + 1) (length (round.lines ++ line ∷ []))

      on : ServesOn s h terms fills.filled.account old new log log_after x
      on = serves_on fills.filled.account x fills.filled.running running ex

      at : (f : Bool) → flag ≡ f → Fills g base terms a k new (with_answer (record round { lines = round.lines ++ line ∷ [] }) text f) (xs ++ x ∷ [])
      at true is = record {
        sure = fills.sure;
        waiting = fills.waiting ++ x ∷ [];
        split = ap (λ (l : List Exchange). l ++ x ∷ []) fills.split ∙ append_assoc fills.sure fills.waiting (x ∷ []);
        filled = waits_more fills.sure fills.waiting x fills.filled on;
        has = has_waiting round fills.sure fills.waiting x line text refl refl fills.has;
      }
      at false is =
          let no = neither waits (nat_lt (round.sure_lines + 1) (length (round.lines ++ line ∷ []))) is in
          let none = none_waits round fills.sure fills.waiting x line text refl refl fills.has no.1 in
          record {
            sure = fills.sure ++ x ∷ [];
            waiting = [];
            split = ap (λ (l : List Exchange). l ++ x ∷ []) (fills.split ∙ (ap (λ (w : List Exchange). fills.sure ++ w) none ∙ append-nil fills.sure)) ∙ sym (append-nil (fills.sure ++ x ∷ []));
            filled = sure_more fills.sure fills.waiting x fills.filled on none (idle no.0);
            has = has_sure round fills.sure fills.waiting x line text refl refl fills.has none;
          }

  -- a line without an answer
  pub unanswered : (round after : RoundState) (xs : List Exchange) (line : List ℕ) (told : Told) (text : List ℕ) → (fills : Fills g base terms a k old round xs)
      → ServesLine s m h terms fills.filled.account old new log log_after line told text → after ≡ record round { lines = round.lines ++ line ∷ [] }
      → IsUndone g base terms a k new after xs line
  unanswered round after xs line told text fills serves is = subst (λ (r : RoundState). IsUndone g base terms a k new r xs line) (sym is) (record {
    sure = fills.sure;
    waiting = fills.waiting;
    split = fills.split;
    middle = fills.filled.middle;
    entries = fills.filled.entries;
    served = fills.filled.served;
    middle_kept = fills.filled.middle_kept;
    base_kept = λ sound keeps same. base_stays fills.filled.account line told text fills.filled.running (fills.filled.kept sound keeps same) serves;
    standing = (stands_so fills.filled.account line told text fills.filled.running serves).0;
    stands = (stands_so fills.filled.account line told text fills.filled.running serves).1;
    front = round.lines;
    lines = refl;
    whole = subst (λ (l : List Exchange). AreWhole round.lines l) (sym fills.split) fills.has.lines;
    sure_texts = fills.has.sure_texts;
    counted = fills.has.counted;
  })

-- what holds where a result is Ok
pub on_ok : {A E : Type 0} (r : Result A E) (P : Type 0) → OnOk r P → is_err r ≡ false → P
on_ok (Ok x) P holds ok = holds
on_ok (Err e) P holds ok = absurd (cc)

-- an answer that was added to a round with a line more
pub answer_added : (before with_line after : RoundState) (line text told : List ℕ) (waits : Bool) → with_line ≡ record before { lines = before.lines ++ line ∷ [] } → text ≡ told
    → after ≡ with_answer with_line text (waits || nat_lt (with_line.sure_lines + 1) (length with_line.lines))
    → after ≡ with_answer (record before { lines = before.lines ++ line ∷ [] }) told (waits || nat_lt (before.sure_lines + 1) (length (before.lines ++ line ∷ [])))
answer_added before with_line after line text told waits with_is text_is is =
    is ∙ (ap (λ (t : List ℕ). with_answer with_line t (waits || nat_lt (with_line.sure_lines + 1) (length with_line.lines))) text_is
    ∙ ap (λ (r : RoundState). with_answer r told (waits || nat_lt (r.sure_lines + 1) (length r.lines))) with_is)

-- what follows holds there too
pub ok_more : {A E : Type 0} (r : Result A E) (P Q : Type 0) → OnOk r P → (P → Q) → OnOk r Q
ok_more (Ok x) P Q holds more = more holds
ok_more (Err e) P Q holds more = tt
