-- From the opening of a site to the end of its service in rounds.
use Rattle.std.proofs.Common.{◌≡◌, ℕ, ◌<◌, ◌≤◌, inl, inr, Bool, true, false, List, [], Option, refl, sym, ap, subst, ◌∙◌, append-nil, arith}
use Rattle.merge_core.specs.Layout.{LayoutState, Shape}
use Rattle.admission_model.specs.Account.{Account}
use Rattle.admission_core.specs.Core.{Stands}
use Rattle.admission_core.specs.Kept.{DurableState, durable_of}
use Rattle.durable_keeper.specs.declared.keeper.Keeper.{Ghosts}
use Rattle.desk_log.specs.Desk.{KeepsOn}
use Rattle.desk_log.specs.Log.{begun}
use Rattle.desk_log.proofs.KeptLemmas.{durable_begun}
use Rattle.exit_status.specs.declared.status.Status.{Status}
use Rattle.exit_status.specs.declared.status.Status.TheVariants.{Done, Usage, NoLayout, NoStore, Fault, Refused, Memory, Io}
use Rattle.line_conversation.specs.Turns.{Turn}
use Rattle.line_conversation.specs.declared.conversation.Conversation.{Ghosts as TalkGhosts}
use Rattle.live_site.specs.Live.{LiveState, IsFreshSite}
use Rattle.serve_engine.specs.declared.marks.Marker.{Marker}
use Rattle.serve_engine.specs.declared.marks.Marking.{Marking}
use Rattle.serve_engine.specs.declared.turns.Turned.{Turned}
use Rattle.serve_engine.specs.Requests.{Terms, terms_of}
use Rattle.serve_engine.specs.Exchanges.{Exchange}
use Rattle.serve_engine.specs.Rounds.{EndsEarlyTogether, EndsServingTogether, EndsSiteTogether, EndsWellTogether, HasServedTogether, ServedTogether, ServingTogether, no_block}
use Rattle.serve_engine.specs.Steps.{AreTerms, ended}
use Rattle.serve_engine.specs.Together.{FailsInBlock, HasHeard, Start, StandsTogether, TurnsTogether}
use Rattle.serve_engine.proofs.RoundLemmas.{reaches_weaker}

-- a turn, told of the same site, conversation and answer
pub turned_same : {K C : Type 0} (g : Ghosts K) (m : K → Type 0) (c : TalkGhosts C) (s : Start K C) (live same_live : LiveState K) (talk same_talk : C) (n : ℕ) (turned same_turned : Turned)
    → same_live ≡ live → same_talk ≡ talk → same_turned ≡ turned → TurnsTogether g m c s live talk n turned → TurnsTogether g m c s same_live same_talk n same_turned
turned_same {K} {C} g m c s live same_live talk same_talk n turned same_turned live_is talk_is turned_is was =
    subst (λ (l : LiveState K). TurnsTogether g m c s l same_talk n same_turned) (sym live_is)
    (subst (λ (t : C). TurnsTogether g m c s live t n same_turned) (sym talk_is)
    (subst (λ (t : Turned). TurnsTogether g m c s live talk n t) (sym turned_is) was))

module _ {K C : Type 0} (g : Ghosts K) (m : K → Type 0) (c : TalkGhosts C) (most : ℕ) (terms : Terms) (layout : LayoutState) (i : ℕ) (a : Account) where
  -- the start of a site that was opened
  abbrev pub start_at : LiveState K → C → Start K C
  start_at live talk = record { most = most; terms = terms; layout = layout; site = i; account = a; first = durable_of a; keeper = live.keeper; talk = talk }

  -- no line was heard yet
  pub heard_none : (live : LiveState K) (talk : C) → live.frozen ≡ false → Stands a live.core → c.took_place talk [] talk → HasHeard g m c (start_at live talk) live talk [] 0
  heard_none live talk running stands begins = record {
    exchanges = [];
    turns = [];
    blocks = no_block most;
    heard = begins;
    few = inr (omega arith);
    site = record {
      earlier = [];
      last = [];
      split = refl;
      began = a;
      reached = refl;
      fault = false;
      account = a;
      tried = a;
      served = subst (λ (f : Bool). HasServedTogether most terms f a [] false a a) (sym running) ([], (refl, refl), refl, refl);
      standing = a;
      stands = stands;
      same = λ now. refl;
      kept = λ kept is. kept;
      keeps_stop = λ stopped kept is. let clash : true ≡ false = sym stopped ∙ running in absurd (cc);
    };
    counted = omega arith;
    whole = λ lost. lost;
  }

module _ {K C : Type 0} (g : Ghosts K) (m : K → Type 0) (c : TalkGhosts C) (s : Start K C) (live : LiveState K) (now : C) where
  -- what is known of a site at work is what it served
  site_together : (xs : List Exchange) → StandsTogether g m s live xs → ServedTogether g m s.most s.terms s.layout s.site s.account s.first live.frozen s.keeper live.keeper xs
  site_together xs st = record {
    earlier = st.earlier;
    last = st.last;
    split = st.split;
    began = st.began;
    reached = st.reached;
    fault = st.fault;
    account = st.account;
    tried = st.tried;
    served = st.served;
    kept = st.kept;
    keeps_stop = st.keeps_stop;
  }

  -- the conversation ended
  pub ended_well : (n : ℕ) → HasHeard g m c s live now [] n → c.has_ended now
      → EndsSiteTogether g m c s.most s.terms s.layout s.site s.account s.first s.keeper live.keeper s.talk now (ended live.frozen)
  ended_well n h at_end = at live.frozen refl
    where
      well : (f : Bool) → live.frozen ≡ f → EndsWellTogether g m c s.most s.terms s.layout s.site s.account s.first f s.keeper live.keeper s.talk now
      well f is = record {
        exchanges = h.exchanges;
        turns = h.turns;
        blocks = h.blocks;
        heard = subst (λ (ts : List Turn). c.took_place s.talk ts now) (append-nil h.turns) h.heard;
        site = subst (λ (b : Bool). ServedTogether g m s.most s.terms s.layout s.site s.account s.first b s.keeper live.keeper h.exchanges) is (site_together h.exchanges h.site);
        ended = at_end;
        whole = h.whole;
      }

      at : (f : Bool) → live.frozen ≡ f → EndsSiteTogether g m c s.most s.terms s.layout s.site s.account s.first s.keeper live.keeper s.talk now (ended f)
      at true is = well true is
      at false is = well false is

  -- it failed
  pub ended_early : FailsInBlock g m c s live now → EndsEarlyTogether g m c s.most s.terms s.layout s.site s.account s.first s.keeper live.keeper s.talk now
  ended_early f = record {
    frozen = live.frozen;
    exchanges = f.exchanges;
    turns = f.turns;
    last = f.last;
    heard = f.heard;
    site = site_together f.exchanges f.site;
    why = inl f.why;
  }

  -- no more exchanges are counted
  pub ended_counted : (n : ℕ) → HasHeard g m c s live now [] n → 18446744073709551615 ≤ n
      → EndsEarlyTogether g m c s.most s.terms s.layout s.site s.account s.first s.keeper live.keeper s.talk now
  ended_counted n h many = record {
    frozen = live.frozen;
    exchanges = h.exchanges;
    turns = h.turns;
    last = record {
      before = h.exchanges;
      block = [];
      done = h.turns;
      unserved = [];
      texts = [];
      untold = [];
      split = sym (append-nil h.exchanges);
      blocks = h.blocks;
      order = sym (append-nil h.turns);
      answers = refl;
      few = inr (omega arith);
    };
    heard = subst (λ (ts : List Turn). c.took_place s.talk ts now) (append-nil h.turns) h.heard;
    site = site_together h.exchanges h.site;
    why = inr (omega (arith, h.counted, many));
  }

module _ {K C : Type 0} (g : Ghosts K) (m : K → Type 0) (c : TalkGhosts C) (most : ℕ) (terms : Terms) (layout : LayoutState) (i : ℕ) (a : Account)
    (first d : DurableState) (keeper k keeper_after : K) (on : g.keeps keeper first → g.keeps k d) where
  -- the same from what was kept before
  served_from : (frozen : Bool) (xs : List Exchange) → ServedTogether g m most terms layout i a d frozen k keeper_after xs → ServedTogether g m most terms layout i a first frozen keeper keeper_after xs
  served_from frozen xs it = record {
    earlier = it.earlier;
    last = it.last;
    split = it.split;
    began = it.began;
    reached = reaches_weaker (g.keeps k d × g.is_honest keeper_after) (g.keeps keeper first × g.is_honest keeper_after) (λ both. (on both.0, both.1)) terms layout i a it.earlier it.began it.reached;
    fault = it.fault;
    account = it.account;
    tried = it.tried;
    served = it.served;
    kept = λ kept is. it.kept (on kept) is;
    keeps_stop = λ stopped kept is. it.keeps_stop stopped (on kept) is;
  }

  well_from : (frozen : Bool) (talk talk_after : C) → EndsWellTogether g m c most terms layout i a d frozen k keeper_after talk talk_after → EndsWellTogether g m c most terms layout i a first frozen keeper keeper_after talk talk_after
  well_from frozen talk talk_after it = record {
    exchanges = it.exchanges;
    turns = it.turns;
    blocks = it.blocks;
    heard = it.heard;
    site = served_from frozen it.exchanges it.site;
    ended = it.ended;
    whole = it.whole;
  }

  pub ends_from : (talk talk_after : C) (status : Status) → EndsSiteTogether g m c most terms layout i a d k keeper_after talk talk_after status
      → EndsSiteTogether g m c most terms layout i a first keeper keeper_after talk talk_after status
  ends_from talk talk_after Done it = well_from false talk talk_after it
  ends_from talk talk_after Fault it = well_from true talk talk_after it
  ends_from talk talk_after Io it = record {
    frozen = it.frozen;
    exchanges = it.exchanges;
    turns = it.turns;
    last = it.last;
    heard = it.heard;
    site = served_from it.frozen it.exchanges it.site;
    why = it.why;
  }
  ends_from talk talk_after Usage it = absurd it
  ends_from talk talk_after (NoLayout fault) it = absurd it
  ends_from talk talk_after (NoStore refusal) it = absurd it
  ends_from talk talk_after Refused it = absurd it
  ends_from talk talk_after Memory it = absurd it

-- a site was opened and served its lines
module _ {K C : Type 0} (g : Ghosts K) (m : K → Type 0) (c : TalkGhosts C) (most : ℕ) (layout : LayoutState) (i : ℕ) (group : Option (List ℕ)) (marking : Marking)
    (keeper : K) (opened : LiveState K) (there : i < layout.sites) (fresh : IsFreshSite g keeper layout i opened) where
  abbrev first : DurableState
  first = fresh.begins.first

  abbrev a : Account
  a = begun layout i first

  few : layout.sites ≤ 16
  few =
      let sites = ap (λ (shape : Shape). shape.sites) fresh.begins.stands.shape in
      let same = ap (λ (l : LayoutState). l.sites) fresh.of_layout in
      omega (arith, fresh.begins.stands.book.few_sites, sites, same)

  kept_on : g.keeps keeper first → g.keeps opened.keeper (durable_of a)
  kept_on kept =
      subst (λ (d : DurableState). g.keeps opened.keeper d) (sym (durable_begun layout i first there few fresh.begins.cells fresh.begins.sessions)) (fresh.keeps_on.keeps first kept)

  pub serving_together : (marker : Marker) (keeper_after : K) (talk talk_after : C) (status : Status) → (g.is_honest keeper_after → g.is_honest opened.keeper)
      → AreTerms (terms_of opened.core.layout group marking) opened.core.layout marker
      → ((terms : Terms) (b : Account) → AreTerms terms opened.core.layout marker → Stands b opened.core
      → EndsSiteTogether g m c most terms opened.core.layout opened.core.site b (durable_of b) opened.keeper keeper_after talk talk_after status)
      → ServingTogether g m c most layout i group marking keeper keeper_after talk talk_after status
  serving_together marker keeper_after talk talk_after status honest are ends = record {
    first = first;
    began = record {
      found = λ d kept h_after. fresh.begins.found d kept (honest h_after);
      cells = fresh.begins.cells;
      sessions = fresh.begins.sessions;
    };
    ended = ends_from g m c most (terms_of layout group marking) layout i a first (durable_of a) keeper opened.keeper keeper_after kept_on talk talk_after status
        (subst (λ (j : ℕ). EndsSiteTogether g m c most (terms_of layout group marking) layout j a (durable_of a) opened.keeper keeper_after talk talk_after status) fresh.of_site
        (subst (λ (l : LayoutState). EndsSiteTogether g m c most (terms_of l group marking) l opened.core.site a (durable_of a) opened.keeper keeper_after talk talk_after status)
        fresh.of_layout (ends (terms_of opened.core.layout group marking) a are fresh.begins.stands)));
  }

  pub ends_together : (keeper_after : K) (talk talk_after : C) (status : Status) → ServingTogether g m c most layout i group marking keeper keeper_after talk talk_after status
      → EndsServingTogether g m c most layout i group marking keeper keeper_after talk talk_after status
  ends_together keeper_after talk talk_after Done it = it
  ends_together keeper_after talk talk_after Fault it = it
  ends_together keeper_after talk talk_after Io it = it
  ends_together keeper_after talk talk_after Usage it = absurd it.ended
  ends_together keeper_after talk talk_after (NoLayout fault) it = absurd it.ended
  ends_together keeper_after talk talk_after (NoStore refusal) it = absurd it.ended
  ends_together keeper_after talk talk_after Refused it = absurd it.ended
  ends_together keeper_after talk talk_after Memory it = absurd it.ended

  -- a site was opened, and then no memory was found
  pub unserved_together : (keeper_after : K) (talk : C) → keeper_after ≡ opened.keeper → EndsServingTogether g m c most layout i group marking keeper keeper_after talk talk Memory
  unserved_together keeper_after talk same = (
    there,
    record { keeps_on = subst (λ (k : K). KeepsOn g keeper k) (sym same) fresh.keeps_on; silent = refl },
  )
