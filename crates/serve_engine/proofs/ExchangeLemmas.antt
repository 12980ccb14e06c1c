-- One exchange at a site.
use Rattle.std.proofs.Common.{◌≡◌, ◌≢◌, ℕ, ◌⊎◌, inl, inr, Bool, true, false, List, [], ◌∷◌, ◌++◌, Option, Some, None, Ok, Err, refl, sym, ap, subst, ◌∙◌, append-nil}
use Rattle.std.specs.Prelude.{IfOk, Result}
use Rattle.std.specs.declared.alloc.AllocError.{AllocError}
use Rattle.std.proofs.lemmas.Bool.{cases_Bool}
use Rattle.admission_model.specs.declared.ask.Call.{Call}
use Rattle.admission_model.specs.declared.reply.Refusal.{Refusal}
use Rattle.admission_model.specs.declared.reply.Refusal.TheVariants.{OwnRowAhead}
use Rattle.admission_model.specs.declared.reply.Reply.{Reply}
use Rattle.admission_model.specs.declared.reply.Reply.TheVariants.{Refused}
use Rattle.admission_model.specs.Account.{Account}
use Rattle.admission_model.specs.View.{view_of}
use Rattle.admission_model.specs.Serving.{advanced, after, reply_of, unless_refused}
use Rattle.admission_model.proofs.ReasonLemmas.{reason_told}
use Rattle.admission_core.specs.Core.{Stands}
use Rattle.admission_core.specs.Kept.{durable_of}
use Rattle.admission_core.proofs.ReadyLemmas.{stands_along}
use Rattle.durable_keeper.specs.declared.keeper.Keeper.{Ghosts}
use Rattle.desk_log.specs.declared.entry.Entry.{Entry}
use Rattle.line_conversation.specs.Turns.{Whole}
use Rattle.live_site.specs.declared.call_log.CallLog.{Ghosts as LogGhosts}
use Rattle.live_site.specs.declared.live_site.Outcome.{Outcome}
use Rattle.live_site.specs.declared.live_site.Outcome.TheVariants as outcome
use Rattle.live_site.specs.Entries.{entry_of}
use Rattle.live_site.specs.Overfull.{overfull_in}
use Rattle.live_site.specs.Live.{LiveState, IsServingSite, StaysFrozen, WasAnswered, WasDoubted, WasUnmarked, is_outdated, line_of}
use Rattle.serve_engine.specs.declared.answering.Told.{Told}
use Rattle.serve_engine.specs.declared.answering.Told.TheVariants.{Text, Memory, StoreFault, Frozen, LogFailed}
use Rattle.serve_engine.specs.declared.answering.Told.TheVariants.{Unmarked as UnmarkedTold}
use Rattle.serve_engine.specs.declared.marks.MarkFault.{MarkFault}
use Rattle.serve_engine.specs.declared.request.Request.{Request}
use Rattle.serve_engine.specs.declared.request.Request.TheVariants.{Asked, Unmarked}
use Rattle.serve_engine.specs.Requests.{Terms, Asks}
use Rattle.serve_engine.specs.Answers.{unmarked_line, fault_line, frozen_line, memory_line, reply_line, too_many_line, wrong_word_line}
use Rattle.serve_engine.specs.BadWords.{wrong_word}
use Rattle.serve_engine.specs.Exchanges.{Exchange, Answers, told_no_memory, told_bad_word, told_unmarked, told_too_many, told_reply, Stops, stops_outdated, stops_unmarked, stops_failed, stops_gone}
use Rattle.serve_engine.specs.Exchanges.{IsIdle, still_no_memory, still_bad_word, still_unmarked, still_frozen, reaches_site}
use Rattle.serve_engine.specs.Steps.{Hands, ServesOn, StopsServing, StaysIdle, Exchanges, ExchangesAs, LosesLog, ServesLine, Shows, ShowsAs, exchange_of, told_text, written}

-- what is told where an answer was written or not
pub by_written : (P : Told → List ℕ → Type 0) (answer : Result (Unit {0}) AllocError) (told : Told) (text line : List ℕ) → told ≡ written answer
    → IfOk answer (λ _. text ≡ line) → P Text line → ((u : List ℕ) → P Memory u) → P told text
by_written P (Ok x) told text line is right yes_text no_text =
    subst (λ (t : Told). P t text) (sym is) (subst (P Text) (sym right) yes_text)
by_written P (Err e) told text line is right yes_text no_text = subst (λ (t : Told). P t text) (sym is) (no_text text)

-- a reply that shows that the store is older
outdated_is : (reply : Reply) → is_outdated reply ≡ true → (x : Refusal) × (reply ≡ Refused x)
outdated_is (Refused (OwnRowAhead r)) e = (OwnRowAhead r, refl)
outdated_is other e = absurd (cc)

-- behind a refusal the account is as it was
refused_after : (a : Account) (call : Call) (x : Refusal) → reply_of (view_of a) call ≡ Refused x → after a call ≡ a
refused_after a call x e = ap (λ (o : Option Refusal). unless_refused o a (advanced a call)) (reason_told (view_of a) call x e)

module _ {K L : Type 0} (g : Ghosts K) (m : K → Type 0) (h : LogGhosts L) (terms : Terms) (a : Account) where
  handed_none : (log : L) → Hands h log log []
  handed_none log = λ first before took. subst (λ (es : List Entry). h.took first es log) (sym (append-nil before)) took

  -- an answer that changes nothing
  pub plain : (live : LiveState K) (log : L) (x : Exchange) → Stands a live.core → Answers terms a x.line x.told a [] → IsIdle terms x.line x.told
      → Exchanges g m h terms a live live log log x
  plain live log x stands answers idle = at (cases_Bool live.frozen)
    where
      at : (live.frozen ≡ true) ⊎ (live.frozen ≡ false) → Exchanges g m h terms a live live log log x
      at (inl e) = subst (λ (b : Bool). ExchangesAs b g m h terms a live live log log x) (sym e) (record { idle = idle; site = refl; unlogged = refl })
      at (inr e) = subst (λ (b : Bool). ExchangesAs b g m h terms a live live log log x) (sym e) (inl (record {
        entries = [];
        account = a;
        answers = answers;
        stands = stands;
        running = e;
        kept = λ kept. kept;
        handed = handed_none log;
      }))

  -- a line before which the store was found to be gone
  pub store_gone : (old new : LiveState K) (log : L) (line : List ℕ) → Stands a old.core → old.frozen ≡ false → new ≡ record old { frozen = true }
      → Exchanges g m h terms a old new log log (exchange_of line fault_line)
  store_gone old new log line stands running is =
      subst (λ (s : LiveState K). Exchanges g m h terms a old s log log (exchange_of line fault_line)) (sym is)
      (subst (λ (b : Bool). ExchangesAs b g m h terms a old (record old { frozen = true }) log log (exchange_of line fault_line)) (sym running)
      (inr (record {
        line = line;
        whole = refl;
        entries = [];
        fault = false;
        tried = a;
        stops = stops_gone terms a line;
        stands = stands;
        frozen = refl;
        kept = λ kept. kept;
        keeps_stop = λ kept. inr refl;
        handed = handed_none log;
      })))

  -- what was told of a whole line, where the log did not fail
  pub told_exchange : (old new : LiveState K) (log log_after : L) (line : List ℕ) (told : Told) (text : List ℕ) → told ≢ LogFailed → ServesLine g m h terms a old new log log_after line told text
      → Exchanges g m h terms a old new log log_after (exchange_of line (told_text told text))
  told_exchange old new log log_after line Text text kept it = it
  told_exchange old new log log_after line (UnmarkedTold fault) text kept it = it
  told_exchange old new log log_after line Memory text kept it = it
  told_exchange old new log log_after line StoreFault text kept it = it
  told_exchange old new log log_after line Frozen text kept it = it
  told_exchange old new log log_after line LogFailed text kept it = absurd (kept refl)

  -- want of memory
  pub no_memory : (live : LiveState K) (log : L) (line : List ℕ) → Stands a live.core → Exchanges g m h terms a live live log log (exchange_of line memory_line)
  no_memory live log line stands = plain live log (exchange_of line memory_line) stands (told_no_memory terms a line) (still_no_memory terms line)

  -- a line that asks for nothing
  pub no_word : (live : LiveState K) (log : L) (line : List ℕ) → Stands a live.core → Asks terms line None
      → Exchanges g m h terms a live live log log (exchange_of line (wrong_word_line (wrong_word terms.records line)))
  no_word live log line stands asks = plain live log (exchange_of line (wrong_word_line (wrong_word terms.records line))) stands (told_bad_word terms a line asks) (still_bad_word terms line asks)

  -- a text that is not behind the site's own mark
  pub no_own_mark : (live : LiveState K) (log : L) (line : List ℕ) (fault : MarkFault) → Stands a live.core → Asks terms line (Some (Unmarked fault))
      → Exchanges g m h terms a live live log log (exchange_of line (unmarked_line fault))
  no_own_mark live log line fault stands asks =
      plain live log (exchange_of line (unmarked_line fault)) stands (told_unmarked terms a line fault asks) (still_unmarked terms line fault asks)

  -- a look at a record
  pub look : (live : LiveState K) (log : L) (line : List ℕ) (request : Request) (shown : Account → List ℕ) (told : Told) (text : List ℕ) → Stands a live.core → Asks terms line (Some request)
      → reaches_site request ≡ true → Answers terms a (Whole line) (shown a) a [] → Shows live shown told text
      → ServesLine g m h terms a live live log log line told text
  look live log line request shown told text stands asks reaches answers shows = at (cases_Bool live.frozen)
    where
      by_told : (b : Bool) → live.frozen ≡ b → ShowsAs b live shown told text → ServesLine g m h terms a live live log log line told text
      by_told true e is =
          subst (λ (t : Told). ServesLine g m h terms a live live log log line t text) (sym is)
          (subst (λ (b : Bool). ExchangesAs b g m h terms a live live log log (exchange_of line frozen_line)) (sym e)
          (record { idle = still_frozen terms line request asks reaches; site = refl; unlogged = refl }))
      by_told false e (inl (is, right)) =
          subst (λ (t : Told). ServesLine g m h terms a live live log log line t text) (sym is)
          (subst (λ (b : Bool). ExchangesAs b g m h terms a live live log log (exchange_of line text)) (sym e)
          (inl (record {
            entries = [];
            account = a;
            answers = subst (λ (t : List ℕ). Answers terms a (Whole line) t a []) (sym (right a stands)) answers;
            stands = stands;
            running = e;
            kept = λ kept. kept;
            handed = handed_none log;
          })))
      by_told false e (inr is) = subst (λ (t : Told). ServesLine g m h terms a live live log log line t text) (sym is) (no_memory live log line stands)

      at : (live.frozen ≡ true) ⊎ (live.frozen ≡ false) → ServesLine g m h terms a live live log log line told text
      at (inl e) = by_told true e (subst (λ (b : Bool). ShowsAs b live shown told text) e shows)
      at (inr e) = by_told false e (subst (λ (b : Bool). ShowsAs b live shown told text) e shows)

  -- a call
  module _ (old new : LiveState K) (log log_after : L) (line : List ℕ) (call : Call) (before text : List ℕ) (stands : Stands a old.core) (asks : Asks terms line (Some (Asked call))) where
    abbrev Serving : Outcome → Type 0
    Serving o = old.frozen ≡ false → IsServingSite g m h a old new log log_after call before text o

    abbrev Idle : Outcome → Type 0
    Idle o = old.frozen ≡ true → StaysFrozen old new log log_after o

    -- by whether the site served before
    by_frozen : (x : Exchange) → (old.frozen ≡ false → ServesOn g h terms a old new log log_after x ⊎ StopsServing g m h terms a old new log log_after x)
        → (old.frozen ≡ true → StaysIdle terms old new log log_after x) → Exchanges g m h terms a old new log log_after x
    by_frozen x runs idles = at (cases_Bool old.frozen)
      where
        at : (old.frozen ≡ true) ⊎ (old.frozen ≡ false) → Exchanges g m h terms a old new log log_after x
        at (inl e) = subst (λ (b : Bool). ExchangesAs b g m h terms a old new log log_after x) (sym e) (idles e)
        at (inr e) = subst (λ (b : Bool). ExchangesAs b g m h terms a old new log log_after x) (sym e) (runs e)

    abbrev reply : Reply
    reply = reply_of (view_of a) call

    -- what is told where it was answered: what the answer became behind what stood before it
    abbrev Sends : List ℕ → Type 0
    Sends told = text ≡ before ++ line_of reply → told ≡ reply_line terms reply

    -- it was answered, and the site serves on
    serves_on : (told : List ℕ) → Sends told → WasAnswered g m h a old.core new.core old.keeper new.keeper log log_after call before text → new.frozen ≡ is_outdated reply → is_outdated reply ≡ false
        → ServesOn g h terms a old new log log_after (exchange_of line told)
    serves_on told sends it frozen current = record {
      entries = entry_of call reply ∷ [];
      account = after a call;
      answers = subst (λ (t : List ℕ). Answers terms a (Whole line) t (after a call) (entry_of call reply ∷ [])) (sym (sends it.written)) (told_reply terms a line call asks it.fits current);
      stands = it.answered.stands;
      running = frozen ∙ current;
      kept = it.answered.kept;
      handed = it.logged;
    }

    -- or no more
    stops_on : (told : List ℕ) → Sends told → WasAnswered g m h a old.core new.core old.keeper new.keeper log log_after call before text → new.frozen ≡ is_outdated reply → is_outdated reply ≡ true
        → StopsServing g m h terms a old new log log_after (exchange_of line told)
    stops_on told sends it frozen old_store = record {
      line = line;
      whole = refl;
      entries = entry_of call reply ∷ [];
      fault = false;
      tried = a;
      stops = subst (λ (t : List ℕ). Stops terms a line t false a (entry_of call reply ∷ [])) (sym (sends it.written)) (stops_outdated terms a line call asks it.fits old_store);
      stands = subst (λ (b : Account). Stands b new.core) same it.answered.stands;
      frozen = frozen ∙ old_store;
      kept = λ kept. subst (λ (b : Account). g.keeps new.keeper (durable_of b)) same (it.answered.kept kept);
      keeps_stop = λ kept. inl (it.marked old_store kept);
      handed = it.logged;
    }
      where
        same : after a call ≡ a
        same = let is = outdated_is reply old_store in refused_after a call is.0 is.1

    pub was_answered : (told : List ℕ) → Sends told → Serving outcome.Answered → Idle outcome.Answered → Exchanges g m h terms a old new log log_after (exchange_of line told)
    was_answered told sends serving idle = by_frozen (exchange_of line told) (λ e. at (serving e) (cases_Bool (is_outdated reply))) (λ e. let is = (idle e).answer in absurd (cc))
      where
        at : IsServingSite g m h a old new log log_after call before text outcome.Answered → (is_outdated reply ≡ true) ⊎ (is_outdated reply ≡ false)
            → ServesOn g h terms a old new log log_after (exchange_of line told) ⊎ StopsServing g m h terms a old new log log_after (exchange_of line told)
        at it (inl old_store) = inr (stops_on told sends it.step it.freezing old_store)
        at it (inr current) = inl (serves_on told sends it.step it.freezing current)

    pub too_many : (r : ℕ) (line_told : List ℕ) → (overfull_in (view_of a) call ≡ Some r → before ≡ []) → Serving (outcome.TooManySeats r) → Idle (outcome.TooManySeats r) → line_told ≡ text ++ too_many_line r
        → Exchanges g m h terms a old new log log_after (exchange_of line line_told)
    too_many r line_told empty serving idle is = by_frozen (exchange_of line line_told) (λ e. inl (at (serving e))) (λ e. let clash = (idle e).answer in absurd (cc))
      where
        at : IsServingSite g m h a old new log log_after call before text (outcome.TooManySeats r) → ServesOn g h terms a old new log log_after (exchange_of line line_told)
        at it = record {
          entries = [];
          account = a;
          answers = subst (λ (t : List ℕ). Answers terms a (Whole line) t a []) (sym (is ∙ ap (λ (t : List ℕ). t ++ too_many_line r) (it.step.unwritten ∙ empty it.step.overfull)))
              (told_too_many terms a line call r asks it.step.free it.step.overfull);
          stands = stands_along a old.core new.core it.step.core stands;
          running = it.freezing;
          kept = λ kept. subst (λ (k : K). g.keeps k (durable_of a)) (sym it.step.keeper) kept;
          handed = subst (λ (l : L). Hands h log l []) (sym it.step.unlogged) (handed_none log);
        }

    -- a delta of too many seats, where its answer found no memory
    pub too_many_untold : (r : ℕ) → Serving (outcome.TooManySeats r) → Idle (outcome.TooManySeats r) → Exchanges g m h terms a old new log log_after (exchange_of line memory_line)
    too_many_untold r serving idle = by_frozen (exchange_of line memory_line) (λ e. inl (at (serving e))) (λ e. let clash = (idle e).answer in absurd (cc))
      where
        at : IsServingSite g m h a old new log log_after call before text (outcome.TooManySeats r) → ServesOn g h terms a old new log log_after (exchange_of line memory_line)
        at it = record {
          entries = [];
          account = a;
          answers = told_no_memory terms a line;
          stands = stands_along a old.core new.core it.step.core stands;
          running = it.freezing;
          kept = λ kept. subst (λ (k : K). g.keeps k (durable_of a)) (sym it.step.keeper) kept;
          handed = subst (λ (l : L). Hands h log l []) (sym it.step.unlogged) (handed_none log);
        }

    pub found_no_memory : Serving outcome.Memory → Idle outcome.Memory → Exchanges g m h terms a old new log log_after (exchange_of line memory_line)
    found_no_memory serving idle = by_frozen (exchange_of line memory_line) (λ e. inl (at (serving e))) (λ e. let clash = (idle e).answer in absurd (cc))
      where
        at : IsServingSite g m h a old new log log_after call before text outcome.Memory → ServesOn g h terms a old new log log_after (exchange_of line memory_line)
        at it = record {
          entries = [];
          account = a;
          answers = told_no_memory terms a line;
          stands = stands_along a old.core new.core it.step.core stands;
          running = it.freezing;
          kept = it.step.kept;
          handed = λ first before took. subst (λ (es : List Entry). h.took first es log_after) (sym (append-nil before)) (it.step.unlogged first before took);
        }

    pub met_fault : Serving outcome.StoreFault → Idle outcome.StoreFault → Exchanges g m h terms a old new log log_after (exchange_of line fault_line)
    met_fault serving idle = by_frozen (exchange_of line fault_line) (λ e. inr (at (serving e))) (λ e. let clash = (idle e).answer in absurd (cc))
      where
        lost : new.frozen ≡ true → WasDoubted g h a old.core new.core old.keeper new.keeper log log_after call ⊎ WasUnmarked g h a old.core new.core old.keeper new.keeper log log_after call
            → StopsServing g m h terms a old new log log_after (exchange_of line fault_line)
        lost frozen (inl it) = record {
          line = line;
          whole = refl;
          entries = entry_of call reply ∷ [];
          fault = true;
          tried = after a call;
          stops = stops_failed terms a line call asks it.fits it.doubted.changes;
          stands = stands_along a old.core new.core it.doubted.core stands;
          frozen = frozen;
          kept = it.doubted.kept;
          keeps_stop = λ kept. inr refl;
          handed = it.logged;
        }
        lost frozen (inr it) = record {
          line = line;
          whole = refl;
          entries = entry_of call reply ∷ [];
          fault = false;
          tried = a;
          stops = stops_unmarked terms a line call asks it.fits it.outdated;
          stands = stands_along a old.core new.core it.core stands;
          frozen = frozen;
          kept = it.kept;
          keeps_stop = λ kept. inr refl;
          handed = it.logged;
        }

        at : IsServingSite g m h a old new log log_after call before text outcome.StoreFault → StopsServing g m h terms a old new log log_after (exchange_of line fault_line)
        at it = lost it.freezing it.step

    pub serves_no_more : Serving outcome.Frozen → Idle outcome.Frozen → Exchanges g m h terms a old new log log_after (exchange_of line frozen_line)
    serves_no_more serving idle = by_frozen (exchange_of line frozen_line) (λ e. absurd ((serving e).step)) (λ e. record {
      idle = still_frozen terms line (Asked call) asks refl;
      site = (idle e).site;
      unlogged = (idle e).unlogged;
    })

    pub lost_log : Serving outcome.LogFailed → Idle outcome.LogFailed → LosesLog g h a old new log_after
    lost_log serving idle = at (cases_Bool old.frozen)
      where
        at : (old.frozen ≡ true) ⊎ (old.frozen ≡ false) → LosesLog g h a old new log_after
        at (inl e) = let clash = (idle e).answer in absurd (cc)
        at (inr e) =
            let it = serving e in
            record {
              was_running = e;
              running = it.freezing;
              stands = stands_along a old.core new.core it.step.core stands;
              kept = it.step.kept;
              failed = it.step.failed;
            }
