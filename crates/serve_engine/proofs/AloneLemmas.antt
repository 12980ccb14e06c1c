-- Lines that are answered where no change waits.
use Rattle.std.proofs.Common.{◌≡◌, ◌≢◌, inl, inr, ℕ, List, [], ◌∷◌, ◌++◌, refl, sym, subst, append-nil, arith}
use Rattle.admission_model.specs.Account.{Account}
use Rattle.durable_keeper.specs.declared.keeper.Keeper.{Ghosts}
use Rattle.line_conversation.specs.Turns.{Line, Whole, TooLong, NoRoom, Torn, Turn}
use Rattle.line_conversation.specs.declared.conversation.Conversation.{Ghosts as TalkGhosts}
use Rattle.line_conversation.specs.declared.conversation.Next.{Next}
use Rattle.line_conversation.specs.declared.conversation.Next.TheVariants as next
use Rattle.live_site.specs.declared.call_log.CallLog.{Ghosts as LogGhosts}
use Rattle.live_site.specs.Live.{LiveState}
use Rattle.serve_engine.specs.declared.turns.Turned.{Turned}
use Rattle.serve_engine.specs.declared.turns.Turned.TheVariants as turned
use Rattle.serve_engine.specs.Answers.{bad_word_line, memory_line, too_long_line}
use Rattle.serve_engine.specs.Requests.{Terms}
use Rattle.serve_engine.specs.Exchanges.{Exchange, Answers, IsIdle, told_no_room, told_torn, told_too_long, still_no_room, still_torn, still_too_long}
use Rattle.serve_engine.specs.Steps.{AnswersHeard, Exchanges, exchange_of}
use Rattle.serve_engine.specs.Together.{BlockTo, FailsInBlock, HasHeard, InBlock, Start, TellsOther, TellsText, TurnsTogether, lines_by}
use Rattle.serve_engine.proofs.ExchangeLemmas.{plain}
use Rattle.serve_engine.proofs.RoundLemmas.{line_more}
use Rattle.serve_engine.proofs.BlockLemmas.{serves_block, tells_last, to_block, to_next, told_whole}

-- a log of which nothing is known
no_log : LogGhosts (Unit {0})
no_log = record { took = λ first entries last. Unit {0}; has_failed = λ l. ⊥ }

module _ {K C : Type 0} (g : Ghosts K) (m : K → Type 0) (c : TalkGhosts C) (s : Start K C) where
  -- a whole line was served by itself, and its answer told or not
  pub answers_line : {L : Type 0} (h : LogGhosts L) (old new : LiveState K) (log log_after : L) (now after : C) (n : ℕ) (line : List ℕ) (rest : List Line) (text : List ℕ) (turn : Turned)
      → (g.is_honest new.keeper → g.is_honest old.keeper) → (b : InBlock g m c s old now (Whole line ∷ rest) [] n) → Exchanges g m h s.terms b.site.standing old new log log_after (exchange_of line text)
      → TellsText c now after text turn → BlockTo g m c s new after rest [] n turn
  answers_line h old new log log_after now after n line rest text turn honest b ex tells =
      tells_last g m c s new now n rest text after turn
      (serves_block g m c s old new now n (Whole line) rest [] (exchange_of line text) refl b (λ st. line_more g m s old new (b.before ++ b.block) b.site honest h log log_after (exchange_of line text) ex)) tells

  -- the same of the line that is kept, by a log that never fails
  pub heard_alone : {L : Type 0} (h : LogGhosts L) → ((l : L) → h.has_failed l → ⊥) → (old new : LiveState K) (log log_after : L) (now after : C) (n : ℕ) (line : List ℕ) (turn : Turned)
      → (g.is_honest new.keeper → g.is_honest old.keeper) → (b : InBlock g m c s old now (Whole line ∷ []) [] n)
      → AnswersHeard g m c h s.terms b.site.standing old new now after log log_after line turn → BlockTo g m c s new after [] [] n turn
  heard_alone h never old new log log_after now after n line turn honest b (inl (text, ex, tells)) =
      answers_line h old new log log_after now after n line [] text turn honest b ex (told_whole c now after text turn tells)
  heard_alone h never old new log log_after now after n line turn honest b (inr (lost, same, is)) = absurd (never log_after lost.failed)

  module _ (live : LiveState K) (now after : C) (n : ℕ) (turn : Turned) where
    -- a line that is not whole
    other_line : (line : Line) (text : List ℕ) → ((terms : Terms) (a : Account) → Answers terms a line text a []) → ((terms : Terms) → IsIdle terms line text)
        → InBlock g m c s live now (line ∷ []) [] n → TellsText c now after text turn → BlockTo g m c s live after [] [] n turn
    other_line line text answers idle b tells =
        tells_last g m c s live now n [] text after turn
        (serves_block g m c s live live now n line [] [] x refl b (λ st. line_more g m s live live (b.before ++ b.block) b.site (λ is. is) no_log tt tt x
        (plain g m no_log s.terms b.site.standing live tt x b.site.stands (answers s.terms b.site.standing) (idle s.terms)))) tells
      where
        x : Exchange
        x = record { line = line; told = text }

    -- a line behind a round that is not whole
    pub too_long_behind : InBlock g m c s live now (TooLong ∷ []) [] n → TellsText c now after too_long_line turn → BlockTo g m c s live after [] [] n turn
    too_long_behind b tells = other_line TooLong too_long_line told_too_long still_too_long b tells

    pub no_room_behind : InBlock g m c s live now (NoRoom ∷ []) [] n → TellsText c now after memory_line turn → BlockTo g m c s live after [] [] n turn
    no_room_behind b tells = other_line NoRoom memory_line told_no_room still_no_room b tells

    -- a block that came to its end, or failed
    pub block_turn : BlockTo g m c s live after [] [] n turn → TurnsTogether g m c s live after n turn
    block_turn b = at turn b
      where
        at : (t : Turned) → BlockTo g m c s live after [] [] n t → TurnsTogether g m c s live after n t
        at turned.Next it = to_next g m c s live after n it
        at turned.Failed it = it
        at turned.End it = absurd it

    -- what was read first is no whole line, or nothing
    pub others_first : (told : Next) (line : List ℕ) → told ≢ next.Line → (told ≡ next.End → c.has_ended now) → (told ≡ next.Failed → c.has_failed now) → HasHeard g m c s live now (lines_by told line) n
        → TellsOther c now after told turn → TurnsTogether g m c s live after n turn
    others_first next.TooLong line whole end failed h tells = block_turn (other_line TooLong too_long_line told_too_long still_too_long (to_block g m c s live now n (TooLong ∷ []) (omega arith) h) tells)
    others_first next.Memory line whole end failed h tells = block_turn (other_line NoRoom memory_line told_no_room still_no_room (to_block g m c s live now n (NoRoom ∷ []) (omega arith) h) tells)
    others_first next.Torn line whole end failed h tells = block_turn (other_line Torn bad_word_line told_torn still_torn (to_block g m c s live now n (Torn ∷ []) (omega arith) h) tells)
    others_first next.Line line whole end failed h tells = absurd (whole refl)
    others_first next.End line whole end failed h tells =
        subst (λ (t : Turned). TurnsTogether g m c s live after n t) (sym tells.1) (subst (λ (x : C). HasHeard g m c s live x [] n × c.has_ended x) (sym tells.0) (h, end refl))
    others_first next.Failed line whole end failed h tells =
        subst (λ (t : Turned). TurnsTogether g m c s live after n t) (sym tells.1) (subst (λ (x : C). FailsInBlock g m c s live x) (sym tells.0) (record {
          exchanges = h.exchanges;
          turns = h.turns;
          last = record {
            before = h.exchanges;
            block = [];
            done = h.turns;
            unserved = [];
            texts = [];
            untold = [];
            split = sym (append-nil h.exchanges);
            blocks = h.blocks;
            order = sym (append-nil h.turns);
            answers = refl;
            few = h.few;
          };
          heard = subst (λ (ts : List Turn). c.took_place s.talk ts now) (append-nil h.turns) h.heard;
          site = h.site;
          why = failed refl;
        }))
