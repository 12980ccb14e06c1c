-- A round, from its first line to its commit.
use Rattle.std.proofs.Common.{◌≡◌, ℕ, suc, ◌-◌, ◌<◌, ◌≤◌, ◌⊎◌, inl, inr, Bool, true, false, List, [], ◌∷◌, ◌++◌, length, Ok, Err, refl, sym, ap, subst, ◌∙◌, append_assoc, append-nil, length-append, arith}
use Rattle.std.specs.Prelude.{Result, OnOk}
use Rattle.merge_core.specs.Layout.{LayoutState, shape_of}
use Rattle.merge_core.specs.Rows.{start_counter}
use Rattle.admission_model.specs.Account.{Account}
use Rattle.admission_model.specs.Durable.{at_slot, kept_cells, places}
use Rattle.admission_core.specs.Core.{Core, Stands, core_view}
use Rattle.admission_core.specs.Kept.{DurableState, durable_of}
use Rattle.admission_core.proofs.CoreLemmas.{durable_told}
use Rattle.durable_keeper.specs.declared.keeper.Keeper.{Ghosts}
use Rattle.durable_keeper.specs.declared.error.KeeperError.{KeeperError}
use Rattle.durable_keeper.specs.declared.error.KeeperError.TheVariants as keeping
use Rattle.line_conversation.specs.Turns.{Line, Whole}
use Rattle.line_conversation.specs.declared.conversation.Conversation.{Ghosts as TalkGhosts}
use Rattle.live_site.specs.Live.{LiveState, IsFreshSite}
use Rattle.live_site.specs.Rounds.{BeginsAgain, StaysStopped}
use Rattle.round_keeper.specs.Staged.{StagedState, KeepsStaged}
use Rattle.serve_engine.specs.declared.marks.Marker.{Marker}
use Rattle.serve_engine.specs.Answers.{fault_line}
use Rattle.serve_engine.specs.Exchanges.{Exchange}
use Rattle.serve_engine.specs.Rounds.{AreFaults, AreFew, SameLines, answers_of, unanswered}
use Rattle.serve_engine.specs.Steps.{AreTerms, exchange_of}
use Rattle.serve_engine.specs.Filling.{RoundState, AreWhole, IsFilled, empty_round}
use Rattle.serve_engine.specs.Together.{HasHeard, HoldsRound, InBlock, IsAt, IsBroken, IsFilling, IsUnkept, Start, failed_texts, faults, whole_lines}
use Rattle.serve_engine.proofs.FillingLemmas.{whole_more}
use Rattle.serve_engine.proofs.RoundLemmas.{begun_again, serves_both, served_more, failed_more}
use Rattle.serve_engine.proofs.BlockLemmas.{answers_both, length_same, length_whole, serves_round, to_block}

few_of : (most n k : ℕ) → k ≤ n → AreFew most n → AreFew most k
few_of most n k less (inl few) = inl (omega (arith, less, few))
few_of most n k less (inr few) = inr (omega (arith, less, few))

-- exchanges over the same lines, each of which was told a fault
abbrev failed_of : List Exchange → List Exchange
failed_of [] = []
failed_of (x ∷ xs) = record { line = x.line; told = fault_line } ∷ failed_of xs

failed_same : (xs : List Exchange) → SameLines xs (failed_of xs)
failed_same [] = tt
failed_same (x ∷ xs) = (refl, failed_same xs)

failed_length : (xs : List Exchange) → length (failed_of xs) ≡ length xs
failed_length [] = refl
failed_length (x ∷ xs) = ap suc (failed_length xs)

failed_answers : (xs : List Exchange) → answers_of (failed_of xs) ≡ faults (length xs)
failed_answers [] = refl
failed_answers (x ∷ xs) = ap (λ (l : List ℕ). fault_line ++ l) (failed_answers xs)

-- the same lines, whole
whole_failed : (ls : List (List ℕ)) (xs ys : List Exchange) → AreWhole ls (xs ++ ys) → AreWhole ls (xs ++ failed_of ys)
whole_failed [] [] [] are = tt
whole_failed [] [] (y ∷ ys) are = absurd are
whole_failed [] (x ∷ xs) ys are = absurd are
whole_failed (l ∷ ls) [] [] are = absurd are
whole_failed (l ∷ ls) [] (y ∷ ys) are = (are.0, whole_failed ls [] ys are.1)
whole_failed (l ∷ ls) (x ∷ xs) ys are = (are.0, whole_failed ls xs ys are.1)

are_faults : (ls : List (List ℕ)) (xs ys : List Exchange) → AreWhole ls (xs ++ ys) → AreFaults (failed_of ys)
are_faults ls xs [] are = tt
are_faults [] [] (y ∷ ys) are = absurd are
are_faults (l ∷ ls) [] (y ∷ ys) are = ((l, are.0), refl, are_faults ls [] ys are.1)
are_faults [] (x ∷ xs) (y ∷ ys) are = absurd are
are_faults (l ∷ ls) (x ∷ xs) (y ∷ ys) are = are_faults ls xs (y ∷ ys) are.1

-- some, unless there is none
some_of : (P : Type 0) (xs : List Exchange) → (xs ≡ [] → P) → P ⊎ (0 < length xs)
some_of P [] none = inl (none refl)
some_of P (x ∷ xs) none = inr (omega arith)

-- what is told for lines of which the last ones failed
failed_told : (round : RoundState) (sure rest : List Exchange) → AreWhole round.lines (sure ++ rest) → round.sure ≡ answers_of sure → round.sure_lines ≡ length sure
    → failed_texts round ≡ answers_of (sure ++ failed_of rest)
failed_told round sure rest are texts counted =
    ap (λ (t : List ℕ). t ++ faults (length round.lines - round.sure_lines)) texts
    ∙ (ap (λ (k : ℕ). answers_of sure ++ faults k) left
    ∙ (ap (λ (t : List ℕ). answers_of sure ++ t) (sym (failed_answers rest)) ∙ sym (answers_both sure (failed_of rest))))
  where
    left : length round.lines - round.sure_lines ≡ length rest
    left = let all = length_same round.lines (sure ++ rest) are in let both = length-append sure rest in omega (arith, all, both, counted)

module _ {K C : Type 0} (g : Ghosts K) (m : K → Type 0) (c : TalkGhosts C) (s : Start K C) (base : DurableState) (old : LiveState K) (n : ℕ) (before : C) (line : List ℕ)
    (running : old.frozen ≡ false) (sound : g.faults_of old.keeper ≡ 0) (h : HasHeard g m c s old before (Whole line ∷ []) n) (is_base : base ≡ durable_of h.site.account) where
  -- a round begins
  pub begins_round : (held : LiveState (StagedState K)) → held ≡ record { core = old.core; keeper = record { keeper = old.keeper; changes = []; mark_due = false }; frozen = old.frozen }
      → IsFilling g base c s.terms h.site.account old.keeper held empty_round s.talk h.turns before (Whole line ∷ []) 1
  begins_round held is = subst (λ (l : LiveState (StagedState K)). IsFilling g base c s.terms h.site.account old.keeper l empty_round s.talk h.turns before (Whole line ∷ []) 1) (sym is) (record {
    exchanges = [];
    fills = record {
      sure = [];
      waiting = [];
      split = refl;
      filled = record {
        middle = h.site.account;
        account = h.site.account;
        entries = [];
        more = [];
        served = (refl, refl);
        served_waiting = (refl, refl);
        stands = subst (λ (b : Account). Stands b old.core) (h.site.same running) h.site.stands;
        running = running;
        idle = λ none. refl;
        middle_kept = λ no_fault keeps same. same;
        kept = λ no_fault keeps same. record { sound = no_fault; kept = keeps; made = sym same };
      };
      has = record { lines = tt; sure_texts = refl; waiting_texts = refl; counted = refl };
    };
    heard = h.heard;
    few = omega arith;
    some = omega arith;
    whole = h.whole;
  })

  -- what the keeper below kept of the account is the base
  base_kept : g.keeps old.keeper (durable_of h.site.account) → g.keeps old.keeper base
  base_kept kept = subst (λ (d : DurableState). g.keeps old.keeper d) (sym is_base) kept

  -- the lines of a round that were heard
  abbrev heard_so : (now : C) (lines : List Line) → c.took_place s.talk (h.turns ++ unanswered lines) now → AreFew s.most (length lines) → (c.loses now → c.loses s.talk) → HasHeard g m c s old now lines n
  heard_so now lines took few whole = record {
    exchanges = h.exchanges;
    turns = h.turns;
    blocks = h.blocks;
    heard = took;
    few = few;
    site = h.site;
    counted = h.counted;
    whole = whole;
  }

  module _ (held : LiveState (StagedState K)) (now : C) (round : RoundState) (most_heard : ℕ) (few : AreFew s.most most_heard) where
    -- a line has no answer
    pub undone_round : (new : LiveState K) → IsBroken g base c s.terms h.site.account old.keeper held round s.talk h.turns now most_heard
        → new ≡ record { core = held.core; keeper = held.keeper.keeper; frozen = true } → (g.is_honest held.keeper.keeper → g.is_honest old.keeper) → IsUnkept g m c s new now round [] n
    undone_round new b is honest = subst (λ (l : LiveState K). IsUnkept g m c s l now round [] n) (sym is) (record {
      old = old;
      heard = heard_so now (whole_lines round.lines ++ []) (subst (λ (ls : List Line). c.took_place s.talk (h.turns ++ unanswered ls) now) (sym (append-nil (whole_lines round.lines))) b.heard)
          (few_of s.most most_heard (length (whole_lines round.lines ++ [])) (let all = length-append (whole_lines round.lines) [] in let same = length_whole round.lines in omega (arith, all, same, b.few)) few) b.whole;
      running = running;
      some = let all = length-append (whole_lines round.lines) [] in let same = length_whole round.lines in let one = ap length b.undone.lines in let more = length-append b.undone.front (b.line ∷ []) in omega (arith, all, same, one, more);
      honest = honest;
      standing = b.undone.standing;
      stands = b.undone.stands;
      kept = λ kept. subst (λ (d : DurableState). g.keeps held.keeper.keeper d) is_base (b.undone.base_kept sound (base_kept kept) is_base);
      sure = b.undone.sure;
      rest = b.undone.waiting ++ exchange_of b.line [] ∷ [];
      lines = subst (λ (ls : List (List ℕ)). AreWhole ls (b.undone.sure ++ (b.undone.waiting ++ exchange_of b.line [] ∷ []))) (sym b.undone.lines)
          (subst (λ (xs : List Exchange). AreWhole (b.undone.front ++ b.line ∷ []) xs) (ap (λ (xs : List Exchange). xs ++ exchange_of b.line [] ∷ []) b.undone.split ∙ append_assoc b.undone.sure b.undone.waiting (exchange_of b.line [] ∷ []))
          (whole_more b.undone.front b.exchanges b.line (exchange_of b.line []) b.undone.whole refl));
      left = let all = length-append b.undone.waiting (exchange_of b.line [] ∷ []) in omega (arith, all);
      entries = b.undone.entries;
      middle = b.undone.middle;
      served = b.undone.served;
      same = λ kept. sym (b.undone.middle_kept sound (base_kept kept) is_base) ∙ is_base;
      sure_texts = b.undone.sure_texts;
      sure_counted = b.undone.counted;
    })

    -- all have one
    module _ (new : LiveState K) (behind : List Line) (f : IsFilling g base c s.terms h.site.account old.keeper held round s.talk h.turns now behind most_heard)
        (core : new.core ≡ held.core) (honest : g.is_honest new.keeper → g.is_honest old.keeper) where
      abbrev sure : List Exchange
      sure = f.fills.sure

      abbrev waiting : List Exchange
      waiting = f.fills.waiting

      abbrev it : IsFilled g base s.terms h.site.account old.keeper held sure waiting
      it = f.fills.filled

      some : 0 < length (whole_lines round.lines ++ behind)
      some = let all = length-append (whole_lines round.lines) behind in let same = length_whole round.lines in omega (arith, all, same, f.some)

      abbrev heard_now : HasHeard g m c s old now (whole_lines round.lines ++ behind) n
      heard_now = heard_so now (whole_lines round.lines ++ behind) f.heard
          (few_of s.most most_heard (length (whole_lines round.lines ++ behind)) (let all = length-append (whole_lines round.lines) behind in let same = length_whole round.lines in omega (arith, all, same, f.few)) few) f.whole

      stands_now : Stands it.account new.core
      stands_now = subst (λ (k : Core). Stands it.account k) (sym core) it.stands

      kept_staged : g.keeps old.keeper (durable_of h.site.account) → KeepsStaged g base held.keeper (durable_of it.account)
      kept_staged kept = it.kept sound (base_kept kept) is_base

      -- they are kept
      kept_round : new.frozen ≡ false → (KeepsStaged g base held.keeper (durable_of it.account) → g.keeps new.keeper (durable_of it.account))
          → InBlock g m c s new now behind (round.sure ++ round.waiting) n
      kept_round on kept = subst (λ (t : List ℕ). InBlock g m c s new now behind t n)
          (answers_both sure waiting ∙ (ap (λ (t : List ℕ). t ++ answers_of waiting) (sym f.fills.has.sure_texts) ∙ ap (λ (t : List ℕ). round.sure ++ t) (sym f.fills.has.waiting_texts)))
          (serves_round g m c s old new now n round.lines behind (sure ++ waiting) f.fills.has.lines some heard_now
          (served_more g m s old new h.exchanges h.site honest running (sure ++ waiting) (it.entries ++ it.more) it.account
          (serves_both s.terms h.site.account sure it.entries it.middle waiting it.more it.account it.served it.served_waiting) stands_now on (λ first. kept (kept_staged first))))

      -- they are kept or not
      doubted_round : new.frozen ≡ true → 0 < length waiting → (KeepsStaged g base held.keeper (durable_of it.account) → g.keeps_either new.keeper base (durable_of it.account))
          → InBlock g m c s new now behind (failed_texts round) n
      doubted_round stopped left kept = subst (λ (t : List ℕ). InBlock g m c s new now behind t n) (sym (failed_told round sure waiting f.fills.has.lines f.fills.has.sure_texts f.fills.has.counted))
          (serves_round g m c s old new now n round.lines behind (sure ++ failed_of waiting) (whole_failed round.lines sure waiting f.fills.has.lines) some heard_now
          (failed_more g m s old new h.exchanges h.site honest running sure (failed_of waiting) waiting it.entries it.more it.middle it.account it.account true it.served
          (are_faults round.lines sure waiting f.fills.has.lines) (omega (arith, left, failed_length waiting)) few_failed (λ is. let clash : true ≡ false = is in absurd (cc)) (λ is. (failed_same waiting, it.served_waiting)) stopped stands_now
          (λ first. subst (λ (d : DurableState). g.keeps_either new.keeper d (durable_of it.account)) (it.middle_kept sound (base_kept first) is_base) (kept (kept_staged first)))))
        where
          few_failed : AreFew s.most (length (failed_of waiting))
          few_failed = few_of s.most most_heard (length (failed_of waiting))
              (let same = failed_length waiting in let all = length_same round.lines (sure ++ waiting) f.fills.has.lines in let both = length-append sure waiting in omega (arith, same, all, both, f.few)) few

      -- they are not kept
      unkept_round : 0 < length waiting → (KeepsStaged g base held.keeper (durable_of it.account) → g.keeps new.keeper base) → IsUnkept g m c s new now round behind n
      unkept_round left kept = record {
        old = old;
        heard = heard_now;
        running = running;
        some = some;
        honest = honest;
        standing = it.account;
        stands = stands_now;
        kept = λ first. subst (λ (d : DurableState). g.keeps new.keeper d) is_base (kept (kept_staged first));
        sure = sure;
        rest = waiting;
        lines = f.fills.has.lines;
        left = left;
        entries = it.entries;
        middle = it.middle;
        served = it.served;
        same = λ first. sym (it.middle_kept sound (base_kept first) is_base) ∙ is_base;
        sure_texts = f.fills.has.sure_texts;
        sure_counted = f.fills.has.counted;
      }

      pub ends_round : (answer : Result (Unit {0}) KeeperError) → ((d : DurableState) → KeepsStaged g base held.keeper d → OnOk answer (g.keeps new.keeper d))
          → ((d : DurableState) → KeepsStaged g base held.keeper d → answer ≡ Err keeping.Memory → g.keeps new.keeper base)
          → ((d : DurableState) → KeepsStaged g base held.keeper d → answer ≡ Err keeping.StoreFault → g.keeps_either new.keeper base d)
          → OnOk answer (new.frozen ≡ held.frozen) → ((e : KeeperError) → answer ≡ Err e → new.frozen ≡ true) → (held.keeper.changes ≡ [] → held.frozen ≡ false → answer ≡ Ok tt)
          → HoldsRound g m c s new now round behind n answer
      ends_round (Ok u) ok memory fault serves stops nothing = kept_round (serves ∙ it.running) (ok (durable_of it.account))
      ends_round (Err keeping.Memory) ok memory fault serves stops nothing = at (some_of ⊥ waiting none)
        where
          none : waiting ≡ [] → ⊥
          none is = let clash = nothing (it.idle is) it.running in absurd (cc)

          at : ⊥ ⊎ (0 < length waiting) → IsUnkept g m c s new now round behind n
          at (inl none_left) = absurd none_left
          at (inr left) = unkept_round left (λ staged. memory (durable_of it.account) staged refl)
      ends_round (Err keeping.StoreFault) ok memory fault serves stops nothing = at (some_of ⊥ waiting none)
        where
          none : waiting ≡ [] → ⊥
          none is = let clash = nothing (it.idle is) it.running in absurd (cc)

          at : ⊥ ⊎ (0 < length waiting) → InBlock g m c s new now behind (failed_texts round) n
          at (inl none_left) = absurd none_left
          at (inr left) = doubted_round (stops keeping.StoreFault refl) left (λ staged. fault (durable_of it.account) staged refl)

-- a round of which nothing is kept
module _ {K C : Type 0} (g : Ghosts K) (m : K → Type 0) (c : TalkGhosts C) (s : Start K C) (live new : LiveState K) (now : C) (round : RoundState) (behind : List Line) (n : ℕ)
    (u : IsUnkept g m c s live now round behind n) where
  -- the site did not begin again
  pub stays_stopped : StaysStopped g live new → InBlock g m c s new now behind (failed_texts round) n
  stays_stopped it = subst (λ (t : List ℕ). InBlock g m c s new now behind t n) (sym (failed_told round u.sure u.rest u.lines u.sure_texts u.sure_counted))
      (serves_round g m c s u.old new now n round.lines behind (u.sure ++ failed_of u.rest) (whole_failed round.lines u.sure u.rest u.lines) u.some u.heard
      (failed_more g m s u.old new u.heard.exchanges u.heard.site (λ is. u.honest (it.keeps_on.honest is)) u.running u.sure (failed_of u.rest) u.rest u.entries [] u.middle u.middle u.standing false u.served
      (are_faults round.lines u.sure u.rest u.lines) (omega (arith, u.left, failed_length u.rest)) few_failed (λ is. refl) (λ is. let clash : false ≡ true = is in absurd (cc)) it.stopped
      (subst (λ (k : Core). Stands u.standing k) (sym it.core) u.stands)
      (λ first. it.keeps_on.keeps (durable_of u.middle) (subst (λ (d : DurableState). g.keeps live.keeper d) (sym (u.same first)) (u.kept first)))))
    where
      few_failed : AreFew s.most (length (failed_of u.rest))
      few_failed = few_of s.most (length (whole_lines round.lines ++ behind)) (length (failed_of u.rest))
          (let same = failed_length u.rest in let all = length_same round.lines (u.sure ++ u.rest) u.lines in let both = length-append u.sure u.rest in let heard = length-append (whole_lines round.lines) behind in
          let lines = length_whole round.lines in omega (arith, same, all, both, heard, lines)) u.heard.few

  -- it began again
  pub begins_anew : live.core.layout ≡ s.layout → live.core.site ≡ s.site → live.core.site < live.core.layout.sites → IsFreshSite g live.keeper live.core.layout live.core.site new
      → InBlock g m c s new now (whole_lines round.lines ++ behind) [] n
  begins_anew of_layout of_site there fresh = to_block g m c s new now n (whole_lines round.lines ++ behind) u.some (record {
    exchanges = u.heard.exchanges;
    turns = u.heard.turns;
    blocks = u.heard.blocks;
    heard = u.heard.heard;
    few = u.heard.few;
    site = begun_again g m s u.old new u.heard.exchanges u.heard.site (λ is. u.honest (fresh_so.keeps_on.honest is)) live u.running u.honest u.kept there_so fresh_so;
    counted = u.heard.counted;
    whole = u.heard.whole;
  })
    where
      there_so : s.site < s.layout.sites
      there_so = subst (λ (i : ℕ). i < s.layout.sites) of_site (subst (λ (l : LayoutState). live.core.site < l.sites) of_layout there)

      fresh_so : IsFreshSite g live.keeper s.layout s.site new
      fresh_so = subst (λ (i : ℕ). IsFreshSite g live.keeper s.layout i new) of_site (subst (λ (l : LayoutState). IsFreshSite g live.keeper l live.core.site new) of_layout fresh)

-- a site that begins again, or does not, is the same site
pub begun_same : {K : Type 0} (g : Ghosts K) (old new : LiveState K) (done : Bool) → BeginsAgain g old new done
    → (new.core.layout ≡ old.core.layout) × (new.core.site ≡ old.core.site) × (g.is_honest new.keeper → g.is_honest old.keeper)
begun_same g old new true it = (it.1.of_layout, it.1.of_site, it.1.keeps_on.honest)
begun_same g old new false it = (ap (λ (k : Core). k.layout) it.core, ap (λ (k : Core). k.site) it.core, it.keeps_on.honest)

-- it is at the same start
pub at_same : {K C : Type 0} (s : Start K C) (old new : LiveState K) (marker : Marker) → new.core.layout ≡ old.core.layout → new.core.site ≡ old.core.site → IsAt s old marker → IsAt s new marker
at_same s old new marker layout site at = record {
  terms = subst (λ (l : LayoutState). AreTerms s.terms l marker) (sym layout) at.terms;
  layout = layout ∙ at.layout;
  site = site ∙ at.site;
}

-- the durable part that a core shows
abbrev pub durable_at : Core → DurableState
durable_at k = record { cells = kept_cells (at_slot k.layout.sites k.site (start_counter (shape_of k.layout))) (at_slot k.layout.sites k.site (core_view k).counter) (places k.layout); sessions = k.sessions }

pub durable_there : (a : Account) (k : Core) → Stands a k → durable_at k ≡ durable_of a
durable_there a k stands = durable_told a k stands (durable_at k) refl refl
