-- From the opening of a site to the end of the service.
use Rattle.std.proofs.Common.{◌≡◌, ℕ, ◌<◌, ◌≤◌, ◌⊎◌, inl, inr, Bool, true, false, List, [], Option, length, refl, sym, ap, subst, ◌∙◌, arith}
use Rattle.merge_core.specs.Layout.{LayoutState, Shape}
use Rattle.admission_model.specs.Account.{Account}
use Rattle.admission_core.specs.Core.{Stands}
use Rattle.admission_core.specs.Kept.{DurableState, durable_of}
use Rattle.durable_keeper.specs.declared.keeper.Keeper.{Ghosts}
use Rattle.desk_log.specs.Desk.{KeepsOn}
use Rattle.desk_log.specs.Log.{begun}
use Rattle.desk_log.proofs.KeptLemmas.{durable_begun}
use Rattle.exit_status.specs.declared.status.Status.{Status}
use Rattle.exit_status.specs.declared.status.Status.TheVariants.{Done, Usage, NoLayout, NoStore, Fault, Refused, Memory, Io}
use Rattle.line_conversation.specs.declared.conversation.Conversation.{Ghosts as TalkGhosts}
use Rattle.live_site.specs.declared.call_log.CallLog.{Ghosts as LogGhosts}
use Rattle.live_site.specs.Live.{LiveState, IsFreshSite}
use Rattle.desk_log.specs.declared.entry.Entry.{Entry}
use Rattle.serve_engine.specs.declared.marks.Marker.{Marker}
use Rattle.serve_engine.specs.declared.marks.Marking.{Marking}
use Rattle.serve_engine.specs.Requests.{Terms, terms_of}
use Rattle.serve_engine.specs.Exchanges.{Exchange, HasServed, turns_of}
use Rattle.serve_engine.specs.Ending.{ServedSite, EndsWell, EndsEarly, EndsSite, EndsServing, Serving}
use Rattle.serve_engine.specs.Steps.{AreTerms, StandsBehind, Works, Fails, ended}

module _ {K : Type 0} (g : Ghosts K) (m : K → Type 0) (terms : Terms) (a : Account) where
  -- what is known of a site at work is what it served
  site_served : (first : DurableState) (keeper : K) (live : LiveState K) (xs : List Exchange) (es : List Entry) → StandsBehind g m terms a first keeper live xs es
      → ServedSite g m terms a first live.frozen keeper live.keeper xs es
  site_served first keeper live xs es st = record { fault = st.fault; account = st.account; tried = st.tried; served = st.served; kept = st.kept; keeps_stop = st.keeps_stop }

  -- the same from what was kept before
  rebased : (first d : DurableState) (frozen : Bool) (keeper k keeper_after : K) (xs : List Exchange) (es : List Entry) → (g.keeps keeper first → g.keeps k d)
      → ServedSite g m terms a d frozen k keeper_after xs es → ServedSite g m terms a first frozen keeper keeper_after xs es
  rebased first d frozen keeper k keeper_after xs es on it =
      record { fault = it.fault; account = it.account; tried = it.tried; served = it.served; kept = λ kept. it.kept (on kept); keeps_stop = λ stopped kept. it.keeps_stop stopped (on kept) }

module _ {K C L : Type 0} (g : Ghosts K) (m : K → Type 0) (c : TalkGhosts C) (h : LogGhosts L) (terms : Terms) (a : Account) where
  -- no turn took place yet
  pub works_first : (live : LiveState K) (talk : C) (log : L) → live.frozen ≡ false → Stands a live.core → c.took_place talk [] talk → h.took log [] log
      → Works g m c h terms a (durable_of a) live.keeper live talk talk log log 0
  works_first live talk log running stands begins none = record {
    exchanges = [];
    entries = [];
    heard = begins;
    logged = none;
    site = record {
      fault = false;
      account = a;
      tried = a;
      served = subst (λ (f : Bool). HasServed terms f a [] [] false a a) (sym running) ((refl, refl), refl, refl);
      stands = stands;
      kept = λ kept. kept;
      keeps_stop = λ stopped kept. let clash : true ≡ false = sym stopped ∙ running in absurd (cc);
    };
    counted = refl;
    whole = λ lost. lost;
  }

  module _ (first : DurableState) (keeper : K) (live : LiveState K) (talk talk_now : C) (log log_now : L) where
    -- the conversation ended
    pub ends_well : (n : ℕ) → Works g m c h terms a first keeper live talk talk_now log log_now n → c.has_ended talk_now
        → EndsSite g m c h terms a first keeper live.keeper talk talk_now log log_now (ended live.frozen)
    ends_well n w at_end = at live.frozen refl
      where
        well : (f : Bool) → live.frozen ≡ f → EndsWell g m c h terms a first f keeper live.keeper talk talk_now log log_now
        well f is = record {
          exchanges = w.exchanges;
          entries = w.entries;
          heard = w.heard;
          logged = w.logged;
          site = subst (λ (b : Bool). ServedSite g m terms a first b keeper live.keeper w.exchanges w.entries) is (site_served g m terms a first keeper live w.exchanges w.entries w.site);
          ended = at_end;
          whole = w.whole;
        }

        at : (f : Bool) → live.frozen ≡ f → EndsSite g m c h terms a first keeper live.keeper talk talk_now log log_now (ended f)
        at true is = well true is
        at false is = well false is

    -- it failed, or the log did
    pub ends_early : Fails g m c h terms a first keeper live talk talk_now log log_now → EndsEarly g m c h terms a first keeper live.keeper talk talk_now log log_now
    ends_early f = record {
      frozen = live.frozen;
      exchanges = f.exchanges;
      entries = f.entries;
      turns = f.turns;
      last = f.last;
      heard = f.heard;
      logged = f.logged;
      site = site_served g m terms a first keeper live f.exchanges f.entries f.site;
      why = cause f.why;
    }
      where
        cause : c.has_failed talk_now ⊎ h.has_failed log_now → c.has_failed talk_now ⊎ (h.has_failed log_now ⊎ (18446744073709551615 ≤ length f.exchanges))
        cause (inl failed) = inl failed
        cause (inr failed) = inr (inl failed)

    -- no more exchanges are counted
    pub ends_counted : (n : ℕ) → Works g m c h terms a first keeper live talk talk_now log log_now n → 18446744073709551615 ≤ n
        → EndsEarly g m c h terms a first keeper live.keeper talk talk_now log log_now
    ends_counted n w many = record {
      frozen = live.frozen;
      exchanges = w.exchanges;
      entries = w.entries;
      turns = turns_of w.exchanges;
      last = inl refl;
      heard = w.heard;
      logged = inl w.logged;
      site = site_served g m terms a first keeper live w.exchanges w.entries w.site;
      why = inr (inr (omega (arith, w.counted, many)));
    }

  -- the same from what was kept before
  pub from_kept : (first d : DurableState) (keeper k keeper_after : K) (talk talk_after : C) (log log_after : L) (status : Status) → (g.keeps keeper first → g.keeps k d)
      → EndsSite g m c h terms a d k keeper_after talk talk_after log log_after status → EndsSite g m c h terms a first keeper keeper_after talk talk_after log log_after status
  from_kept first d keeper k keeper_after talk talk_after log log_after Done on it =
      record {
        exchanges = it.exchanges;
        entries = it.entries;
        heard = it.heard;
        logged = it.logged;
        ended = it.ended;
        whole = it.whole;
        site = rebased g m terms a first d false keeper k keeper_after it.exchanges it.entries on it.site;
      }
  from_kept first d keeper k keeper_after talk talk_after log log_after Fault on it =
      record {
        exchanges = it.exchanges;
        entries = it.entries;
        heard = it.heard;
        logged = it.logged;
        ended = it.ended;
        whole = it.whole;
        site = rebased g m terms a first d true keeper k keeper_after it.exchanges it.entries on it.site;
      }
  from_kept first d keeper k keeper_after talk talk_after log log_after Io on it =
      record {
        frozen = it.frozen;
        exchanges = it.exchanges;
        entries = it.entries;
        turns = it.turns;
        last = it.last;
        heard = it.heard;
        logged = it.logged;
        why = it.why;
        site = rebased g m terms a first d it.frozen keeper k keeper_after it.exchanges it.entries on it.site;
      }
  from_kept first d keeper k keeper_after talk talk_after log log_after Usage on it = absurd it
  from_kept first d keeper k keeper_after talk talk_after log log_after (NoLayout fault) on it = absurd it
  from_kept first d keeper k keeper_after talk talk_after log log_after (NoStore refusal) on it = absurd it
  from_kept first d keeper k keeper_after talk talk_after log log_after Refused on it = absurd it
  from_kept first d keeper k keeper_after talk talk_after log log_after Memory on it = absurd it

-- the terms of a site whose layout is the one that it began with
pub terms_there : {here there : LayoutState} (terms : Terms) (marker : Marker) → there ≡ here → AreTerms terms here marker → AreTerms terms there marker
terms_there terms marker same are = subst (λ (x : LayoutState). AreTerms terms x marker) (sym same) are

-- the terms of a layout, at an equal one
pub terms_of_here : {there here : LayoutState} (group : Option (List ℕ)) (marking : Marking) (marker : Marker) → there ≡ here → AreTerms (terms_of there group marking) there marker
    → AreTerms (terms_of here group marking) here marker
terms_of_here group marking marker same are = subst (λ (x : LayoutState). AreTerms (terms_of x group marking) x marker) same are

-- a site was opened and served its lines
module _ {K C L : Type 0} (g : Ghosts K) (m : K → Type 0) (c : TalkGhosts C) (h : LogGhosts L) (layout : LayoutState) (i : ℕ) (group : Option (List ℕ)) (marking : Marking)
    (keeper : K) (opened : LiveState K) (there : i < layout.sites) (fresh : IsFreshSite g keeper layout i opened) where
  abbrev first : DurableState
  first = fresh.begins.first

  abbrev a : Account
  a = begun layout i first

  few : layout.sites ≤ 16
  few =
      let sites = ap (λ (shape : Shape). shape.sites) fresh.begins.stands.shape in
      let same = ap (λ (l : LayoutState). l.sites) fresh.of_layout in
      omega (arith, fresh.begins.stands.book.few_sites, sites, same)

  kept_on : g.keeps keeper first → g.keeps opened.keeper (durable_of a)
  kept_on kept =
      subst (λ (d : DurableState). g.keeps opened.keeper d) (sym (durable_begun layout i first there few fresh.begins.cells fresh.begins.sessions)) (fresh.keeps_on.keeps first kept)

  pub serving : (marker : Marker) (keeper_after : K) (talk talk_after : C) (log log_after : L) (status : Status) → (g.is_honest keeper_after → g.is_honest opened.keeper)
      → AreTerms (terms_of opened.core.layout group marking) opened.core.layout marker
      → ((terms : Terms) (b : Account) → AreTerms terms opened.core.layout marker → Stands b opened.core → EndsSite g m c h terms b (durable_of b) opened.keeper keeper_after talk talk_after log log_after status)
      → Serving g m c h layout i group marking keeper keeper_after talk talk_after log log_after status
  serving marker keeper_after talk talk_after log log_after status honest are ends = record {
    first = first;
    began = record {
      found = λ d kept h_after. fresh.begins.found d kept (honest h_after);
      cells = fresh.begins.cells;
      sessions = fresh.begins.sessions;
    };
    ended = from_kept g m c h (terms_of layout group marking) a first (durable_of a) keeper opened.keeper keeper_after talk talk_after log log_after status kept_on
        (subst (λ (l : LayoutState). EndsSite g m c h (terms_of l group marking) a (durable_of a) opened.keeper keeper_after talk talk_after log log_after status)
        fresh.of_layout (ends (terms_of opened.core.layout group marking) a are fresh.begins.stands));
  }

  pub ends_serving : (keeper_after : K) (talk talk_after : C) (log log_after : L) (status : Status) → Serving g m c h layout i group marking keeper keeper_after talk talk_after log log_after status
      → EndsServing g m c h layout i group marking keeper keeper_after talk talk_after log log_after status
  ends_serving keeper_after talk talk_after log log_after Done it = it
  ends_serving keeper_after talk talk_after log log_after Fault it = it
  ends_serving keeper_after talk talk_after log log_after Io it = it
  ends_serving keeper_after talk talk_after log log_after Usage it = absurd it.ended
  ends_serving keeper_after talk talk_after log log_after (NoLayout fault) it = absurd it.ended
  ends_serving keeper_after talk talk_after log log_after (NoStore refusal) it = absurd it.ended
  ends_serving keeper_after talk talk_after log log_after Refused it = absurd it.ended
  ends_serving keeper_after talk talk_after log log_after Memory it = absurd it.ended

  -- a site was opened, and then no memory was found
  pub ends_unserved : (keeper_after : K) (talk : C) (log : L) → keeper_after ≡ opened.keeper → EndsServing g m c h layout i group marking keeper keeper_after talk talk log log Memory
  ends_unserved keeper_after talk log same = (
    there,
    record { keeps_on = subst (λ (k : K). KeepsOn g keeper k) (sym same) fresh.keeps_on; silent = refl; unlogged = refl },
  )
