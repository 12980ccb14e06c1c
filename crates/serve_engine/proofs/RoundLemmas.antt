-- What a site served in rounds, with some more exchanges.
use Rattle.std.proofs.Common.{◌≡◌, ℕ, ◌<◌, ◌≤◌, ◌⊎◌, inl, inr, Bool, true, false, List, [], ◌∷◌, ◌++◌, length, refl, sym, ap, subst, ◌∙◌, append_assoc, append-nil, arith}
use Rattle.std.proofs.lemmas.Bool.{cases_Bool}
use Rattle.merge_core.specs.Layout.{LayoutState, Shape}
use Rattle.admission_model.specs.Account.{Account}
use Rattle.admission_core.specs.Core.{Stands}
use Rattle.admission_core.specs.Kept.{DurableState, durable_of}
use Rattle.durable_keeper.specs.declared.keeper.Keeper.{Ghosts}
use Rattle.desk_log.specs.declared.entry.Entry.{Entry}
use Rattle.desk_log.specs.Desk.{Leaves}
use Rattle.desk_log.specs.Log.{begun}
use Rattle.desk_log.proofs.KeptLemmas.{durable_begun}
use Rattle.line_conversation.specs.Turns.{Line, Whole}
use Rattle.live_site.specs.declared.call_log.CallLog.{Ghosts as LogGhosts}
use Rattle.live_site.specs.Live.{LiveState, IsFreshSite}
use Rattle.serve_engine.specs.Answers.{fault_line}
use Rattle.serve_engine.specs.Requests.{Terms}
use Rattle.serve_engine.specs.Exchanges.{Exchange, Serves, ServesUpTo, HasTold}
use Rattle.serve_engine.specs.Rounds.{AreFaults, AreFew, BeginsFrom, HasServedTogether, Reaches, SameLines, StopsTogether, all_of}
use Rattle.serve_engine.specs.Steps.{ServesOn, StopsServing, StaysIdle, Exchanges, ExchangesAs}
use Rattle.serve_engine.specs.Together.{Start, StandsTogether}
use Rattle.serve_engine.proofs.TurnLemmas.{told_more, told_last, idle_more}

-- exchanges behind others
pub serves_both : (terms : Terms) (a : Account) (xs : List Exchange) (es : List Entry) (b : Account) (ys : List Exchange) (fs : List Entry) (c : Account)
    → Serves terms a xs es b → Serves terms b ys fs c → Serves terms a (xs ++ ys) (es ++ fs) c
serves_both terms a [] es b ys fs c (same, none) later =
    subst (λ (l : List Entry). Serves terms a ys l c) (sym (ap (λ (l : List Entry). l ++ fs) none)) (subst (λ (d : Account). Serves terms d ys fs c) same later)
serves_both terms a (x ∷ xs) es b ys fs c (d, first, rest, split, here, more) later = (
  d,
  first,
  rest ++ fs,
  ap (λ (l : List Entry). l ++ fs) split ∙ append_assoc first rest fs,
  here,
  serves_both terms d xs rest b ys fs c more later,
)

told_behind : (text : List ℕ) (xs ys : List Exchange) → HasTold text xs → HasTold text (xs ++ ys)
told_behind text [] ys h = absurd h
told_behind text (x ∷ xs) ys (inl is) = inl is
told_behind text (x ∷ xs) ys (inr h) = inr (told_behind text xs ys h)

told_before : (text : List ℕ) (xs ys : List Exchange) → HasTold text ys → HasTold text (xs ++ ys)
told_before text [] ys h = h
told_before text (x ∷ xs) ys h = inr (told_before text xs ys h)

fault_told : (xs : List Exchange) → AreFaults xs → 0 < length xs → HasTold fault_line xs
fault_told [] are some = absurd (omega (arith, some))
fault_told (x ∷ xs) are some = inl are.1

all_more : (xss : List (List Exchange)) (xs : List Exchange) → all_of (xss ++ xs ∷ []) ≡ all_of xss ++ xs
all_more [] xs = append-nil xs
all_more (ys ∷ yss) xs = ap (λ (l : List Exchange). ys ++ l) (all_more yss xs) ∙ sym (append_assoc ys (all_of yss) xs)

-- beginnings again, by a device that is honest more rarely
pub reaches_weaker : (p q : Type 0) → (q → p) → (terms : Terms) (layout : LayoutState) (i : ℕ) (a : Account) (xss : List (List Exchange)) (c : Account)
    → Reaches p terms layout i a xss c → Reaches q terms layout i a xss c
reaches_weaker p q on terms layout i a [] c same = same
reaches_weaker p q on terms layout i a (xs ∷ xss) c (b, entries, first, served, begins, rest) = (
  b,
  entries,
  first,
  served,
  record { cells = begins.cells; sessions = begins.sessions; found = λ is. begins.found (on is) },
  reaches_weaker p q on terms layout i (begun layout i first) xss c rest,
)

-- one beginning more
reaches_more : (p : Type 0) (terms : Terms) (layout : LayoutState) (i : ℕ) (a : Account) (xss : List (List Exchange)) (b : Account) (xs : List Exchange) (es : List Entry) (c : Account) (first : DurableState)
    → Reaches p terms layout i a xss b → Serves terms b xs es c → BeginsFrom p layout i c first → Reaches p terms layout i a (xss ++ xs ∷ []) (begun layout i first)
reaches_more p terms layout i a [] b xs es c first same served begins = (c, es, first, subst (λ (d : Account). Serves terms d xs es c) same served, begins, refl)
reaches_more p terms layout i a (ys ∷ yss) b xs es c first (d, entries, from, here, begins_here, rest) served begins =
    (d, entries, from, here, begins_here, reaches_more p terms layout i (begun layout i from) yss b xs es c first rest served begins)

module _ {K C : Type 0} (g : Ghosts K) (m : K → Type 0) (s : Start K C) where
  -- a device that gives back what was written, from what the start kept
  abbrev Honest : K → Type 0
  Honest k = g.keeps s.keeper s.first × g.is_honest k

  reached_on : (old new : K) (xss : List (List Exchange)) (c : Account) → (g.is_honest new → g.is_honest old)
      → Reaches (Honest old) s.terms s.layout s.site s.account xss c → Reaches (Honest new) s.terms s.layout s.site s.account xss c
  reached_on old new xss c honest reached = reaches_weaker (Honest old) (Honest new) (λ both. (both.0, honest both.1)) s.terms s.layout s.site s.account xss c reached

  module _ (old new : LiveState K) (xs : List Exchange) (st : StandsTogether g m s old xs) (honest : g.is_honest new.keeper → g.is_honest old.keeper) where
    abbrev Was : Type 0
    Was = (entries : List Entry) × Serves s.terms st.began st.last entries st.account × (st.fault ≡ false) × (st.tried ≡ st.account)

    was_so : old.frozen ≡ false → Was
    was_so running = subst (λ (f : Bool). HasServedTogether s.most s.terms f st.began st.last st.fault st.account st.tried) running st.served

    -- what was kept of a site that serves
    kept_so : old.frozen ≡ false → g.keeps s.keeper s.first → g.is_honest new.keeper → g.keeps old.keeper (durable_of st.account)
    kept_so running first_kept is = subst (λ (f : Bool). Leaves g f old.keeper st.account st.tried) (was_so running).2 (st.kept first_kept (honest is))

    split_more : (ys : List Exchange) → xs ++ ys ≡ all_of st.earlier ++ (st.last ++ ys)
    split_more ys = ap (λ (l : List Exchange). l ++ ys) st.split ∙ append_assoc (all_of st.earlier) st.last ys

    reached_now : Reaches (Honest new.keeper) s.terms s.layout s.site s.account st.earlier st.began
    reached_now = reached_on old.keeper new.keeper st.earlier st.began honest st.reached

    -- more was served, and the site serves on
    pub served_more : old.frozen ≡ false → (ys : List Exchange) (es : List Entry) (b : Account) → Serves s.terms st.account ys es b → Stands b new.core → new.frozen ≡ false
        → (g.keeps old.keeper (durable_of st.account) → g.keeps new.keeper (durable_of b)) → StandsTogether g m s new (xs ++ ys)
    served_more running ys es b serves stands on kept = record {
      earlier = st.earlier;
      last = st.last ++ ys;
      split = split_more ys;
      began = st.began;
      reached = reached_now;
      fault = false;
      account = b;
      tried = b;
      served = subst (λ (f : Bool). HasServedTogether s.most s.terms f st.began (st.last ++ ys) false b b) (sym on)
          ((was_so running).0 ++ es, serves_both s.terms st.began st.last (was_so running).0 st.account ys es b (was_so running).1 serves, refl, refl);
      standing = b;
      stands = stands;
      same = λ now. refl;
      kept = λ first_kept is. kept (kept_so running first_kept is);
      keeps_stop = λ stopped first_kept is. let clash : true ≡ false = sym stopped ∙ on in absurd (cc);
    }

    -- a line more, at which it stopped
    stopped_more : {L : Type 0} (h : LogGhosts L) (log log_after : L) → old.frozen ≡ false → (x : Exchange) → StopsServing g m h s.terms st.account old new log log_after x → StandsTogether g m s new (xs ++ x ∷ [])
    stopped_more h log log_after running x it = record {
      earlier = st.earlier;
      last = st.last ++ x ∷ [];
      split = split_more (x ∷ []);
      began = st.began;
      reached = reached_now;
      fault = it.fault;
      account = st.account;
      tried = it.tried;
      served = subst (λ (f : Bool). HasServedTogether s.most s.terms f st.began (st.last ++ x ∷ []) it.fault st.account it.tried) (sym it.frozen) (inl ((was_so running).0 ++ it.entries, up));
      standing = st.account;
      stands = it.stands;
      same = λ now. refl;
      kept = λ first_kept is. it.kept (kept_so running first_kept is);
      keeps_stop = λ stopped first_kept is. elim (it.keeps_stop (kept_so running first_kept is)) [
        | inl done ↦ inl done
        | inr told ↦ inr (told_last fault_line xs x told)
      ];
    }
      where
        up : ServesUpTo s.terms st.began (st.last ++ x ∷ []) ((was_so running).0 ++ it.entries) it.fault st.account it.tried
        up = record {
          before = st.last;
          line = it.line;
          told = x.told;
          behind = [];
          split = ap (λ (l : Line). st.last ++ record { line = l; told = x.told } ∷ []) it.whole;
          first = (was_so running).0;
          last = it.entries;
          handed = refl;
          served = (was_so running).1;
          stopped = it.stops;
          idle = tt;
        }

    -- a line more at a site that had stopped
    idle_line : {L : Type 0} (log log_after : L) → old.frozen ≡ true → (x : Exchange) → StaysIdle s.terms old new log log_after x → StandsTogether g m s new (xs ++ x ∷ [])
    idle_line log log_after frozen x it = subst (λ (l : LiveState K). StandsTogether g m s l (xs ++ x ∷ [])) (sym it.site) (record {
      earlier = st.earlier;
      last = st.last ++ x ∷ [];
      split = split_more (x ∷ []);
      began = st.began;
      reached = st.reached;
      fault = st.fault;
      account = st.account;
      tried = st.tried;
      served = subst (λ (f : Bool). HasServedTogether s.most s.terms f st.began (st.last ++ x ∷ []) st.fault st.account st.tried) (sym frozen)
          (longer (subst (λ (f : Bool). HasServedTogether s.most s.terms f st.began st.last st.fault st.account st.tried) frozen st.served));
      standing = st.standing;
      stands = st.stands;
      same = st.same;
      kept = st.kept;
      keeps_stop = λ stopped first_kept is. elim (st.keeps_stop stopped first_kept is) [ inl done ↦ inl done | inr told ↦ inr (told_more fault_line xs x told) ];
    })
      where
        longer_up : (es : List Entry) → ServesUpTo s.terms st.began st.last es st.fault st.account st.tried → ServesUpTo s.terms st.began (st.last ++ x ∷ []) es st.fault st.account st.tried
        longer_up es up = record {
          before = up.before;
          line = up.line;
          told = up.told;
          behind = up.behind ++ x ∷ [];
          split = ap (λ (l : List Exchange). l ++ x ∷ []) up.split ∙ append_assoc up.before (record { line = Whole up.line; told = up.told } ∷ up.behind) (x ∷ []);
          first = up.first;
          last = up.last;
          handed = up.handed;
          served = up.served;
          stopped = up.stopped;
          idle = idle_more s.terms up.behind x up.idle it.idle;
        }

        longer_round : StopsTogether s.most s.terms st.began st.last st.fault st.account st.tried → StopsTogether s.most s.terms st.began (st.last ++ x ∷ []) st.fault st.account st.tried
        longer_round stops = record {
          front = stops.front;
          behind = stops.behind ++ x ∷ [];
          split = ap (λ (l : List Exchange). l ++ x ∷ []) stops.split ∙ append_assoc stops.front stops.behind (x ∷ []);
          stopped = stops.stopped;
          idle = idle_more s.terms stops.behind x stops.idle it.idle;
        }

        longer : ((es : List Entry) × ServesUpTo s.terms st.began st.last es st.fault st.account st.tried) ⊎ StopsTogether s.most s.terms st.began st.last st.fault st.account st.tried
            → ((es : List Entry) × ServesUpTo s.terms st.began (st.last ++ x ∷ []) es st.fault st.account st.tried) ⊎ StopsTogether s.most s.terms st.began (st.last ++ x ∷ []) st.fault st.account st.tried
        longer (inl (es, up)) = inl (es, longer_up es up)
        longer (inr stops) = inr (longer_round stops)

    -- one line more
    pub line_more : {L : Type 0} (h : LogGhosts L) (log log_after : L) (x : Exchange) → Exchanges g m h s.terms st.standing old new log log_after x → StandsTogether g m s new (xs ++ x ∷ [])
    line_more h log log_after x ex = at (cases_Bool old.frozen)
      where
        at : (old.frozen ≡ true) ⊎ (old.frozen ≡ false) → StandsTogether g m s new (xs ++ x ∷ [])
        at (inl e) = idle_line log log_after e x (subst (λ (b : Bool). ExchangesAs b g m h s.terms st.standing old new log log_after x) e ex)
        at (inr e) = by_end (subst (λ (b : Account). ServesOn g h s.terms b old new log log_after x ⊎ StopsServing g m h s.terms b old new log log_after x) (st.same e)
            (subst (λ (b : Bool). ExchangesAs b g m h s.terms st.standing old new log log_after x) e ex))
          where
            by_end : ServesOn g h s.terms st.account old new log log_after x ⊎ StopsServing g m h s.terms st.account old new log log_after x → StandsTogether g m s new (xs ++ x ∷ [])
            by_end (inl it) = served_more e (x ∷ []) it.entries it.account
                (it.account, it.entries, [], sym (append-nil it.entries), it.answers, (refl, refl)) it.stands it.running it.kept
            by_end (inr it) = stopped_more h log log_after e x it

    -- a round that was not kept, and was told so
    pub failed_more : old.frozen ≡ false → (sure failed untold : List Exchange) (es more : List Entry) (middle tried standing : Account) (fault : Bool)
        → Serves s.terms st.account sure es middle → AreFaults failed → 0 < length failed → AreFew s.most (length failed) → (fault ≡ false → tried ≡ middle)
        → (fault ≡ true → SameLines untold failed × Serves s.terms middle untold more tried) → new.frozen ≡ true → Stands standing new.core
        → (g.keeps old.keeper (durable_of st.account) → Leaves g fault new.keeper middle tried) → StandsTogether g m s new (xs ++ (sure ++ failed))
    failed_more running sure failed untold es more middle tried standing fault serves told some few certain in_doubt frozen stands kept = record {
      earlier = st.earlier;
      last = st.last ++ (sure ++ failed);
      split = split_more (sure ++ failed);
      began = st.began;
      reached = reached_now;
      fault = fault;
      account = middle;
      tried = tried;
      served = subst (λ (f : Bool). HasServedTogether s.most s.terms f st.began (st.last ++ (sure ++ failed)) fault middle tried) (sym frozen) (inr (record {
        front = st.last ++ (sure ++ failed);
        behind = [];
        split = sym (append-nil (st.last ++ (sure ++ failed)));
        stopped = record {
          before = st.last ++ sure;
          failed = failed;
          untold = untold;
          entries = (was_so running).0 ++ es;
          more = more;
          split = sym (append_assoc st.last sure failed);
          served = serves_both s.terms st.began st.last (was_so running).0 st.account sure es middle (was_so running).1 serves;
          told = told;
          some = some;
          few = few;
          certain = certain;
          in_doubt = in_doubt;
        };
        idle = tt;
      }));
      standing = standing;
      stands = stands;
      same = λ now. let clash : true ≡ false = sym frozen ∙ now in absurd (cc);
      kept = λ first_kept is. kept (kept_so running first_kept is);
      keeps_stop = λ stopped first_kept is. inr (told_before fault_line xs (sure ++ failed) (told_before fault_line sure failed (fault_told failed told some)));
    }

    -- it began again from what its keeper gives back
    module _ (live : LiveState K) (running : old.frozen ≡ false) (below : g.is_honest live.keeper → g.is_honest old.keeper)
        (kept : g.keeps old.keeper (durable_of st.account) → g.keeps live.keeper (durable_of st.account))
        (there : s.site < s.layout.sites) (fresh : IsFreshSite g live.keeper s.layout s.site new) where
      few_sites : s.layout.sites ≤ 16
      few_sites =
          let sites = ap (λ (shape : Shape). shape.sites) fresh.begins.stands.shape in
          let same = ap (λ (l : LayoutState). l.sites) fresh.of_layout in
          omega (arith, fresh.begins.stands.book.few_sites, sites, same)

      durable_same : durable_of (begun s.layout s.site fresh.begins.first) ≡ fresh.begins.first
      durable_same = durable_begun s.layout s.site fresh.begins.first there few_sites fresh.begins.cells fresh.begins.sessions

      live_kept : g.keeps s.keeper s.first → g.is_honest new.keeper → g.keeps live.keeper (durable_of st.account)
      live_kept first_kept is = kept (subst (λ (f : Bool). Leaves g f old.keeper st.account st.tried) (was_so running).2 (st.kept first_kept (below (fresh.keeps_on.honest is))))

      found_so : g.keeps s.keeper s.first → g.is_honest new.keeper → fresh.begins.first ≡ durable_of st.account
      found_so first_kept is = fresh.begins.found (durable_of st.account) (live_kept first_kept is) is

      pub begun_again : StandsTogether g m s new xs
      begun_again = record {
        earlier = st.earlier ++ st.last ∷ [];
        last = [];
        split = st.split ∙ (sym (all_more st.earlier st.last) ∙ sym (append-nil (all_of (st.earlier ++ st.last ∷ []))));
        began = begun s.layout s.site fresh.begins.first;
        reached = reaches_more (Honest new.keeper) s.terms s.layout s.site s.account st.earlier st.began st.last (was_so running).0 st.account fresh.begins.first
            reached_now (was_so running).1 (record { cells = fresh.begins.cells; sessions = fresh.begins.sessions; found = λ both. found_so both.0 both.1 });
        fault = false;
        account = begun s.layout s.site fresh.begins.first;
        tried = begun s.layout s.site fresh.begins.first;
        served = subst (λ (f : Bool). HasServedTogether s.most s.terms f (begun s.layout s.site fresh.begins.first) [] false (begun s.layout s.site fresh.begins.first) (begun s.layout s.site fresh.begins.first))
            (sym fresh.running) ([], (refl, refl), refl, refl);
        standing = begun s.layout s.site fresh.begins.first;
        stands = fresh.begins.stands;
        same = λ now. refl;
        kept = λ first_kept is. subst (λ (d : DurableState). g.keeps new.keeper d) (sym (found_so first_kept is) ∙ sym durable_same) (fresh.keeps_on.keeps (durable_of st.account) (live_kept first_kept is));
        keeps_stop = λ stopped first_kept is. let clash : true ≡ false = sym stopped ∙ fresh.running in absurd (cc);
      }
