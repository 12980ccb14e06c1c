-- Exchanges, one behind the other.
use Rattle.std.proofs.Common.{◌≡◌, ℕ, ◌+◌, ◌⊎◌, inl, inr, Bool, true, false, List, [], ◌∷◌, ◌++◌, length, refl, sym, ap, subst, ◌∙◌, append_assoc, append-nil, length-append}
use Rattle.std.proofs.lemmas.Bool.{cases_Bool}
use Rattle.admission_model.specs.Account.{Account}
use Rattle.admission_core.specs.Kept.{DurableState}
use Rattle.durable_keeper.specs.declared.keeper.Keeper.{Ghosts}
use Rattle.desk_log.specs.declared.entry.Entry.{Entry}
use Rattle.desk_log.specs.Desk.{Leaves}
use Rattle.line_conversation.specs.Turns.{Line, Whole, Turn, Heard, Told}
use Rattle.line_conversation.specs.declared.conversation.Conversation.{Ghosts as TalkGhosts}
use Rattle.live_site.specs.declared.call_log.CallLog.{Ghosts as LogGhosts}
use Rattle.live_site.specs.Live.{LiveState}
use Rattle.serve_engine.specs.declared.turns.Turned.{Turned}
use Rattle.serve_engine.specs.declared.turns.Turned.TheVariants as turned
use Rattle.serve_engine.specs.Answers.{fault_line}
use Rattle.serve_engine.specs.Requests.{Terms}
use Rattle.serve_engine.specs.Exchanges.{Exchange, turns_of, Answers, IsIdle, Serves, ServesUpTo, AreIdle, HasServed, HasTold}
use Rattle.serve_engine.specs.Steps.{AnswersHeard, Hands, ServesOn, StopsServing, StaysIdle, Exchanges, ExchangesAs, LosesLog, Tells, StandsBehind, Fails, TurnsTo, exchange_of}

-- one exchange more
turns_more : (xs : List Exchange) (x : Exchange) → turns_of (xs ++ x ∷ []) ≡ (turns_of xs ++ Heard x.line ∷ []) ++ Told x.told ∷ []
turns_more [] x = refl
turns_more (y ∷ ys) x = ap (λ (ts : List Turn). Heard y.line ∷ (Told y.told ∷ ts)) (turns_more ys x)

pub serves_more : (terms : Terms) (a : Account) (xs : List Exchange) (es : List Entry) (b : Account) (x : Exchange) (c : Account) (more : List Entry)
    → Serves terms a xs es b → Answers terms b x.line x.told c more → Serves terms a (xs ++ x ∷ []) (es ++ more) c
serves_more terms a [] es b x c more (same, none) answers = (
  c,
  more,
  [],
  ap (λ (l : List Entry). l ++ more) none ∙ sym (append-nil more),
  subst (λ (y : Account). Answers terms y x.line x.told c more) same answers,
  (refl, refl),
)
serves_more terms a (y ∷ ys) es b x c more (d, first, rest, split, here, later) answers = (
  d,
  first,
  rest ++ more,
  ap (λ (l : List Entry). l ++ more) split ∙ append_assoc first rest more,
  here,
  serves_more terms d ys rest b x c more later answers,
)

-- what was told, with one exchange more
pub told_more : (text : List ℕ) (xs : List Exchange) (x : Exchange) → HasTold text xs → HasTold text (xs ++ x ∷ [])
told_more text [] x h = absurd h
told_more text (y ∷ ys) x (inl is) = inl is
told_more text (y ∷ ys) x (inr h) = inr (told_more text ys x h)

pub told_last : (text : List ℕ) (xs : List Exchange) (x : Exchange) → x.told ≡ text → HasTold text (xs ++ x ∷ [])
told_last text [] x is = inl is
told_last text (y ∷ ys) x is = inr (told_last text ys x is)

pub idle_more : (terms : Terms) (xs : List Exchange) (x : Exchange) → AreIdle terms xs → IsIdle terms x.line x.told → AreIdle terms (xs ++ x ∷ [])
idle_more terms [] x all here = (here, tt)
idle_more terms (y ∷ ys) x all here = (all.0, idle_more terms ys x all.1 here)

module _ {K L : Type 0} (g : Ghosts K) (m : K → Type 0) (h : LogGhosts L) (terms : Terms) (a : Account) (first : DurableState) (keeper : K) where
  -- what an exchange leaves behind others
  pub record Left (live : LiveState K) (log log_after : L) (xs : List Exchange) (es : List Entry) : Type 0 where
    pub more : List Entry
    pub site : StandsBehind g m terms a first keeper live xs (es ++ more)
    pub handed : Hands h log log_after more

  module _ (old new : LiveState K) (log log_after : L) (xs : List Exchange) (es : List Entry) (x : Exchange) where
    -- the site serves on
    on : (b : Account) → old.frozen ≡ false → (fault : Bool) (tried : Account) → Serves terms a xs es b → fault ≡ false → (g.keeps keeper first → Leaves g fault old.keeper b tried)
        → ServesOn g h terms b old new log log_after x → Left new log log_after (xs ++ x ∷ []) es
    on b running fault tried served none kept it = record {
      more = it.entries;
      site = record {
        fault = false;
        account = it.account;
        tried = it.account;
        served = subst (λ (f : Bool). HasServed terms f a (xs ++ x ∷ []) (es ++ it.entries) false it.account it.account) (sym it.running)
            (serves_more terms a xs es b x it.account it.entries served it.answers, refl, refl);
        stands = it.stands;
        kept = λ first_kept. it.kept (subst (λ (f : Bool). Leaves g f old.keeper b tried) none (kept first_kept));
        keeps_stop = λ stopped first_kept. let clash : true ≡ false = sym stopped ∙ it.running in absurd (cc);
      };
      handed = it.handed;
    }

    -- or no more
    stop : (b : Account) → old.frozen ≡ false → (fault : Bool) (tried : Account) → Serves terms a xs es b → fault ≡ false → (g.keeps keeper first → Leaves g fault old.keeper b tried)
        → StopsServing g m h terms b old new log log_after x → Left new log log_after (xs ++ x ∷ []) es
    stop b running fault tried served none kept it = record {
      more = it.entries;
      site = record {
        fault = it.fault;
        account = b;
        tried = it.tried;
        served = subst (λ (f : Bool). HasServed terms f a (xs ++ x ∷ []) (es ++ it.entries) it.fault b it.tried) (sym it.frozen) (record {
          before = xs;
          line = it.line;
          told = x.told;
          behind = [];
          split = ap (λ (l : Line). xs ++ record { line = l; told = x.told } ∷ []) it.whole;
          first = es;
          last = it.entries;
          handed = refl;
          served = served;
          stopped = it.stops;
          idle = tt;
        });
        stands = it.stands;
        kept = λ first_kept. it.kept (subst (λ (f : Bool). Leaves g f old.keeper b tried) none (kept first_kept));
        keeps_stop = λ stopped first_kept. elim (it.keeps_stop (subst (λ (f : Bool). Leaves g f old.keeper b tried) none (kept first_kept))) [
          | inl done ↦ inl done
          | inr told ↦ inr (told_last fault_line xs x told)
        ];
      };
      handed = it.handed;
    }

    -- it had stopped before
    idle : StandsBehind g m terms a first keeper old xs es → old.frozen ≡ true → StaysIdle terms old new log log_after x → Left new log log_after (xs ++ x ∷ []) es
    idle st frozen it = record {
      more = [];
      site = subst (λ (s : LiveState K). StandsBehind g m terms a first keeper s (xs ++ x ∷ []) (es ++ [])) (sym it.site) (record {
        fault = st.fault;
        account = st.account;
        tried = st.tried;
        served = subst (λ (f : Bool). HasServed terms f a (xs ++ x ∷ []) (es ++ []) st.fault st.account st.tried) (sym frozen) (longer
            (subst (λ (f : Bool). HasServed terms f a xs es st.fault st.account st.tried) frozen st.served));
        stands = st.stands;
        kept = st.kept;
        keeps_stop = λ stopped first_kept. elim (st.keeps_stop stopped first_kept) [ inl done ↦ inl done | inr told ↦ inr (told_more fault_line xs x told) ];
      });
      handed = subst (λ (l : L). Hands h log l []) (sym it.unlogged) (λ from before took. subst (λ (l : List Entry). h.took from l log) (sym (append-nil before)) took);
    }
      where
        longer : ServesUpTo terms a xs es st.fault st.account st.tried → ServesUpTo terms a (xs ++ x ∷ []) (es ++ []) st.fault st.account st.tried
        longer up = record {
          before = up.before;
          line = up.line;
          told = up.told;
          behind = up.behind ++ x ∷ [];
          split = ap (λ (l : List Exchange). l ++ x ∷ []) up.split ∙ append_assoc up.before (record { line = Whole up.line; told = up.told } ∷ up.behind) (x ∷ []);
          first = up.first;
          last = up.last;
          handed = append-nil es ∙ up.handed;
          served = up.served;
          stopped = up.stopped;
          idle = idle_more terms up.behind x up.idle it.idle;
        }

    pub exchanged : (st : StandsBehind g m terms a first keeper old xs es) → Exchanges g m h terms st.account old new log log_after x → Left new log log_after (xs ++ x ∷ []) es
    exchanged st ex = at (cases_Bool old.frozen)
      where
        at : (old.frozen ≡ true) ⊎ (old.frozen ≡ false) → Left new log log_after (xs ++ x ∷ []) es
        at (inl e) = idle st e (subst (λ (b : Bool). ExchangesAs b g m h terms st.account old new log log_after x) e ex)
        at (inr e) = by_end (subst (λ (b : Bool). ExchangesAs b g m h terms st.account old new log log_after x) e ex)
          where
            was : Serves terms a xs es st.account × (st.fault ≡ false) × (st.tried ≡ st.account)
            was = subst (λ (b : Bool). HasServed terms b a xs es st.fault st.account st.tried) e st.served

            by_end : ServesOn g h terms st.account old new log log_after x ⊎ StopsServing g m h terms st.account old new log log_after x → Left new log log_after (xs ++ x ∷ []) es
            by_end (inl it) = on st.account e st.fault st.tried was.0 was.1 st.kept it
            by_end (inr it) = stop st.account e st.fault st.tried was.0 was.1 st.kept it

  -- a line that the site did not serve
  pub lost : (old new : LiveState K) (log_after : L) (xs : List Exchange) (es : List Entry) (st : StandsBehind g m terms a first keeper old xs es) → LosesLog g h st.account old new log_after
      → StandsBehind g m terms a first keeper new xs es
  lost old new log_after xs es st it = record {
    fault = false;
    account = st.account;
    tried = st.account;
    served = subst (λ (f : Bool). HasServed terms f a xs es false st.account st.account) (sym it.running) (was.0, refl, refl);
    stands = it.stands;
    kept = λ first_kept. it.kept (subst (λ (f : Bool). Leaves g f old.keeper st.account st.tried) was.1 (st.kept first_kept));
    keeps_stop = λ stopped first_kept. let clash : true ≡ false = sym stopped ∙ it.running in absurd (cc);
  }
    where
      was : Serves terms a xs es st.account × (st.fault ≡ false) × (st.tried ≡ st.account)
      was = subst (λ (b : Bool). HasServed terms b a xs es st.fault st.account st.tried) it.was_running st.served

-- turns of the conversation
module _ {K C L : Type 0} (g : Ghosts K) (m : K → Type 0) (c : TalkGhosts C) (h : LogGhosts L) (terms : Terms) (a : Account) (first : DurableState) (keeper : K) (talk : C) (began : L) where
  -- a line was answered, and the answer told or not
  pub told_turn : (old new : LiveState K) (heard now : C) (log log_now : L) (xs : List Exchange) (es : List Entry) (x : Exchange) (n : ℕ) (turn : Turned)
      → c.took_place talk (turns_of xs ++ Heard x.line ∷ []) heard → h.took began es log → length xs ≡ n
      → (st : StandsBehind g m terms a first keeper old xs es) → (c.loses heard → c.loses talk) → Exchanges g m h terms st.account old new log log_now x → Tells c heard now x.told turn
      → TurnsTo g m c h terms a first keeper new talk now began log_now n turn
  told_turn old new heard now log log_now xs es x n turned.Next took logged counted st whole ex tells =
      let it = exchanged g m h terms a first keeper old new log log_now xs es x st ex in
      record {
        exchanges = xs ++ x ∷ [];
        entries = es ++ it.more;
        heard = subst (λ (ts : List Turn). c.took_place talk ts now) (sym (turns_more xs x)) (tells.0 talk (turns_of xs ++ Heard x.line ∷ []) took);
        logged = it.handed began es logged;
        site = it.site;
        counted = length-append xs (x ∷ []) ∙ ap (λ (k : ℕ). k + 1) counted;
        whole = λ lost. whole (tells.1 lost);
      }
  told_turn old new heard now log log_now xs es x n turned.Failed took logged counted st whole ex tells =
      let it = exchanged g m h terms a first keeper old new log log_now xs es x st ex in
      record {
        exchanges = xs ++ x ∷ [];
        entries = es ++ it.more;
        turns = turns_of xs ++ Heard x.line ∷ [];
        last = inr (inl (xs, x, refl, refl));
        heard = tells.0 talk (turns_of xs ++ Heard x.line ∷ []) took;
        logged = inl (it.handed began es logged);
        site = it.site;
        why = inl tells.1;
      }
  told_turn old new heard now log log_now xs es x n turned.End took logged counted st whole ex tells = absurd tells

  -- the log failed
  pub lost_turn : (old new : LiveState K) (heard : C) (log log_now : L) (xs : List Exchange) (es : List Entry) (line : Line)
      → c.took_place talk (turns_of xs ++ Heard line ∷ []) heard
      → (st : StandsBehind g m terms a first keeper old xs es) → LosesLog g h st.account old new log_now
      → Fails g m c h terms a first keeper new talk heard began log_now
  lost_turn old new heard log log_now xs es line took st it = record {
    exchanges = xs;
    entries = es;
    turns = turns_of xs ++ Heard line ∷ [];
    last = inr (inr (line, refl));
    heard = took;
    logged = inr it.failed;
    site = lost g m h terms a first keeper old new log_now xs es st it;
    why = inr it.failed;
  }

  -- the line that is kept was answered
  pub line_turn : (old new : LiveState K) (heard now : C) (log log_now : L) (line : List ℕ) (xs : List Exchange) (es : List Entry) (n : ℕ) (turn : Turned)
      → c.took_place talk (turns_of xs ++ Heard (Whole line) ∷ []) heard → h.took began es log → length xs ≡ n
      → (st : StandsBehind g m terms a first keeper old xs es) → (c.loses heard → c.loses talk) → AnswersHeard g m c h terms st.account old new heard now log log_now line turn
      → TurnsTo g m c h terms a first keeper new talk now began log_now n turn
  line_turn old new heard now log log_now line xs es n turn took logged counted st whole (inl (text, ex, tells)) =
      told_turn old new heard now log log_now xs es (exchange_of line text) n turn took logged counted st whole ex tells
  line_turn old new heard now log log_now line xs es n turn took logged counted st whole (inr (it, same, is)) =
      subst (λ (t : Turned). TurnsTo g m c h terms a first keeper new talk now began log_now n t) (sym is)
      (subst (λ (x : C). Fails g m c h terms a first keeper new talk x began log_now) (sym same)
      (lost_turn old new heard log log_now xs es (Whole line) took st it))
