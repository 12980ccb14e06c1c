-- Lines that are taken into a round.
use Rattle.std.proofs.Common.{◌≡◌, ℕ, ◌+◌, ◌≤◌, List, [], ◌∷◌, ◌++◌, length, sym, ap, subst, ◌∙◌, append_assoc, append-nil, length-append, arith}
use Rattle.admission_model.specs.Account.{Account}
use Rattle.admission_core.specs.Kept.{DurableState}
use Rattle.durable_keeper.specs.declared.keeper.Keeper.{Ghosts}
use Rattle.line_conversation.specs.Turns.{IsLine, Line, Whole, Turn, Heard, heard_by}
use Rattle.line_conversation.specs.declared.conversation.Conversation.{Ghosts as TalkGhosts}
use Rattle.line_conversation.specs.declared.conversation.Next.{Next}
use Rattle.line_conversation.specs.declared.conversation.Next.TheVariants as next
use Rattle.live_site.specs.Live.{LiveState}
use Rattle.round_keeper.specs.Staged.{StagedState}
use Rattle.serve_engine.specs.Requests.{Terms}
use Rattle.serve_engine.specs.Exchanges.{Exchange}
use Rattle.serve_engine.specs.Rounds.{heard_of, unanswered}
use Rattle.serve_engine.specs.Filling.{RoundState, Fills, IsUndone}
use Rattle.serve_engine.specs.Together.{IsBroken, IsFilling, TakesLine, lines_by, taken_by, whole_lines}
use Rattle.serve_engine.proofs.BlockLemmas.{at_most_one, heard_both, heard_lines, heard_whole, length_same, unanswered_both, whole_both}

module _ {K C : Type 0} (g : Ghosts K) (base : DurableState) (c : TalkGhosts C) (terms : Terms) (a : Account) (k : K) (talk : C) (turns : List Turn) where
  -- the lines of a round are those of its exchanges
  fills_heard : (held : LiveState (StagedState K)) (round : RoundState) (xs : List Exchange) → Fills g base terms a k held round xs → unanswered (whole_lines round.lines) ≡ heard_of xs
  fills_heard held round xs fills = heard_whole round.lines (fills.sure ++ fills.waiting) fills.has.lines ∙ ap heard_of (sym fills.split)

  fills_length : (held : LiveState (StagedState K)) (round : RoundState) (xs : List Exchange) → Fills g base terms a k held round xs → length round.lines ≡ length xs
  fills_length held round xs fills = length_same round.lines (fills.sure ++ fills.waiting) fills.has.lines ∙ ap (λ (l : List Exchange). length l) (sym fills.split)

  module _ (old : LiveState (StagedState K)) (before : RoundState) (now : C) (line : List ℕ) (n : ℕ) (f : IsFilling g base c terms a k old before talk turns now (Whole line ∷ []) n) where
    heard_now : unanswered (whole_lines before.lines ++ Whole line ∷ []) ≡ heard_of f.exchanges ++ Heard (Whole line) ∷ []
    heard_now = unanswered_both (whole_lines before.lines) (Whole line ∷ []) ∙ ap (λ (ts : List Turn). ts ++ Heard (Whole line) ∷ []) (fills_heard old before f.exchanges f.fills)

    long : length f.exchanges + 1 ≤ n
    long = let same = fills_length old before f.exchanges f.fills in omega (arith, same, f.few)

    -- the line is in the round
    pub taken_in : (new : LiveState (StagedState K)) (round : RoundState) (x : Exchange) → x.line ≡ Whole line → Fills g base terms a k new round (f.exchanges ++ x ∷ [])
        → IsFilling g base c terms a k new round talk turns now [] n
    taken_in new round x is fills = record {
      exchanges = f.exchanges ++ x ∷ [];
      fills = fills;
      heard = subst (λ (ts : List Turn). c.took_place talk (turns ++ ts) now) same_turns f.heard;
      few = let all = length-append f.exchanges (x ∷ []) in let same = fills_length new round (f.exchanges ++ x ∷ []) fills in omega (arith, all, same, long);
      some = let all = length-append f.exchanges (x ∷ []) in let same = fills_length new round (f.exchanges ++ x ∷ []) fills in omega (arith, all, same);
      whole = f.whole;
    }
      where
        same_turns : unanswered (whole_lines before.lines ++ Whole line ∷ []) ≡ unanswered (whole_lines round.lines ++ [])
        same_turns =
            heard_now ∙ (ap (λ (l : Line). heard_of f.exchanges ++ Heard l ∷ []) (sym is) ∙ (sym (heard_both f.exchanges (x ∷ []))
            ∙ (sym (fills_heard new round (f.exchanges ++ x ∷ []) fills) ∙ ap unanswered (sym (append-nil (whole_lines round.lines))))))

    -- the line is not in the round
    pub taken_alone : (new : LiveState (StagedState K)) (round : RoundState) → Fills g base terms a k new round f.exchanges → IsFilling g base c terms a k new round talk turns now (Whole line ∷ []) n
    taken_alone new round fills = record {
      exchanges = f.exchanges;
      fills = fills;
      heard = subst (λ (ts : List Turn). c.took_place talk (turns ++ ts) now) same_turns f.heard;
      few = let same = fills_length new round f.exchanges fills in omega (arith, same, long);
      some = omega arith;
      whole = f.whole;
    }
      where
        same_turns : unanswered (whole_lines before.lines ++ Whole line ∷ []) ≡ unanswered (whole_lines round.lines ++ Whole line ∷ [])
        same_turns = heard_now ∙ (ap (λ (ts : List Turn). ts ++ Heard (Whole line) ∷ []) (sym (fills_heard new round f.exchanges fills)) ∙ sym (unanswered_both (whole_lines round.lines) (Whole line ∷ [])))

    -- the line has no answer
    pub taken_broken : (new : LiveState (StagedState K)) (round : RoundState) → IsUndone g base terms a k new round f.exchanges line → IsBroken g base c terms a k new round talk turns now n
    taken_broken new round u = record {
      exchanges = f.exchanges;
      line = line;
      undone = u;
      heard = subst (λ (ts : List Turn). c.took_place talk (turns ++ ts) now) same_turns f.heard;
      few = let one = ap (λ (l : List (List ℕ)). length l) u.lines in let all = length-append u.front (line ∷ []) in let same = length_same u.front f.exchanges u.whole in omega (arith, one, all, same, long);
      whole = f.whole;
    }
      where
        same_turns : unanswered (whole_lines before.lines ++ Whole line ∷ []) ≡ unanswered (whole_lines round.lines)
        same_turns =
            heard_now ∙ (ap (λ (ts : List Turn). ts ++ Heard (Whole line) ∷ []) (sym (heard_whole u.front f.exchanges u.whole))
            ∙ (sym (unanswered_both (whole_lines u.front) (Whole line ∷ [])) ∙ ap unanswered (sym (whole_both u.front (line ∷ [])) ∙ ap whole_lines (sym u.lines))))

  -- behind a round a line is read, or none
  pub taken_next : (held : LiveState (StagedState K)) (round : RoundState) (now after : C) (ks : List Line) (n : ℕ) → IsFilling g base c terms a k held round talk turns now [] n
      → c.took_place talk ((turns ++ unanswered (whole_lines round.lines ++ [])) ++ unanswered ks) after → (c.loses after → c.loses now) → length ks ≤ 1
      → IsFilling g base c terms a k held round talk turns after ks (n + 1)
  taken_next held round now after ks n f took whole one = record {
    exchanges = f.exchanges;
    fills = f.fills;
    heard = subst (λ (ts : List Turn). c.took_place talk ts after) same_turns took;
    few = omega (arith, one, f.few);
    some = omega (arith, f.some);
    whole = λ lost. f.whole (whole lost);
  }
    where
      same_turns : (turns ++ unanswered (whole_lines round.lines ++ [])) ++ unanswered ks ≡ turns ++ unanswered (whole_lines round.lines ++ ks)
      same_turns =
          append_assoc turns (unanswered (whole_lines round.lines ++ [])) (unanswered ks)
          ∙ ap (λ (ts : List Turn). turns ++ ts) (ap (λ (ls : List Line). unanswered ls ++ unanswered ks) (append-nil (whole_lines round.lines)) ∙ sym (unanswered_both (whole_lines round.lines) ks))

  -- so many lines, and more
  pub more_room : (held : LiveState (StagedState K)) (round : RoundState) (now : C) (ks : List Line) (n j : ℕ) → n ≤ j → IsFilling g base c terms a k held round talk turns now ks n
      → IsFilling g base c terms a k held round talk turns now ks j
  more_room held round now ks n j less f = record {
    exchanges = f.exchanges;
    fills = f.fills;
    heard = f.heard;
    few = omega (arith, less, f.few);
    some = f.some;
    whole = f.whole;
  }

  pub broken_room : (held : LiveState (StagedState K)) (round : RoundState) (now : C) (n j : ℕ) → n ≤ j → IsBroken g base c terms a k held round talk turns now n
      → IsBroken g base c terms a k held round talk turns now j
  broken_room held round now n j less b = record {
    exchanges = b.exchanges;
    line = b.line;
    undone = b.undone;
    heard = b.heard;
    few = omega (arith, less, b.few);
    whole = b.whole;
  }

  -- a line was held, and it is read behind a round
  heard_behind : (held : LiveState (StagedState K)) (round : RoundState) (now after : C) (told : Next) (n : ℕ) → IsFilling g base c terms a k held round talk turns now [] n
      → c.took_place talk ((turns ++ unanswered (whole_lines round.lines ++ [])) ++ heard_by told (c.kept after)) after → (c.loses after → c.loses now)
      → IsFilling g base c terms a k held round talk turns after (lines_by told (c.kept after)) (n + 1)
  heard_behind held round now after told n f took whole =
      taken_next held round now after (lines_by told (c.kept after)) n f
      (subst (λ (ts : List Turn). c.took_place talk ((turns ++ unanswered (whole_lines round.lines ++ [])) ++ ts) after) (heard_lines told (c.kept after)) took)
      whole (at_most_one told (c.kept after))

  taken_as : (held : LiveState (StagedState K)) (round : RoundState) (after : C) (told : Next) (n : ℕ) → IsLine told → IsFilling g base c terms a k held round talk turns after (lines_by told (c.kept after)) n
      → TakesLine g base c terms a k held round talk turns after n (taken_by told)
  taken_as held round after next.Line n is f = f
  taken_as held round after next.TooLong n is f = f
  taken_as held round after next.Memory n is f = f
  taken_as held round after next.Torn n is f = absurd is
  taken_as held round after next.End n is f = absurd is
  taken_as held round after next.Failed n is f = absurd is

  pub taken_held : (held : LiveState (StagedState K)) (round : RoundState) (now after : C) (told : Next) (n : ℕ) → IsLine told → (f : IsFilling g base c terms a k held round talk turns now [] n)
      → ((first : C) (before : List Turn) → c.took_place first before now → c.took_place first (before ++ heard_by told (c.kept after)) after) → (c.loses after → c.loses now)
      → TakesLine g base c terms a k held round talk turns after (n + 1) (taken_by told)
  taken_held held round now after told n is f took whole =
      taken_as held round after told (n + 1) is (heard_behind held round now after told n f (took talk (turns ++ unanswered (whole_lines round.lines ++ [])) f.heard) whole)

  -- none was held
  pub taken_none : (held : LiveState (StagedState K)) (round : RoundState) (now after : C) (n : ℕ) → IsFilling g base c terms a k held round talk turns now [] n → after ≡ now
      → IsFilling g base c terms a k held round talk turns after [] (n + 1)
  taken_none held round now after n f same =
      subst (λ (x : C). IsFilling g base c terms a k held round talk turns x [] (n + 1)) (sym same) (more_room held round now [] n (n + 1) (omega arith) f)
