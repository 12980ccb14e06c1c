-- A desk after a call, exit by exit.
use Rattle.std.proofs.Common.{◌≡◌, ℕ, ◌<◌, ◌≤◌, ◌⊎◌, inl, inr, Bool, true, false, List, [], ◌∷◌, ◌++◌, length, Option, Some, None, refl, sym, ap, subst, ◌∙◌, arith}
use Rattle.std.specs.Prelude.{IsTrue, ◌↔◌}
use Rattle.std.proofs.lemmas.Bool.{cond-true, cases_lt}
use Rattle.merge_core.specs.Layout.{LayoutState, IsLayout}
use Rattle.admission_model.specs.declared.ask.Ask.{Ask}
use Rattle.admission_model.specs.declared.ask.Call.{Call}
use Rattle.admission_model.specs.declared.ask.Call.TheVariants.{Ask as AskCall}
use Rattle.admission_model.specs.declared.reply.Refusal.{Refusal}
use Rattle.admission_model.specs.declared.reply.Refusal.TheVariants.{Memory as NoMemory, Frozen, LogFull, StoreFault as NoStore}
use Rattle.admission_model.specs.declared.reply.Reply.{Reply}
use Rattle.admission_model.specs.declared.reply.Reply.TheVariants.{Refused}
use Rattle.admission_model.specs.Account.{Account, Origin, inside}
use Rattle.admission_model.proofs.ServingLemmas.{origin_after, sites_after}
use Rattle.admission_model.proofs.AskedLemmas.{changed_refused}
use Rattle.admission_core.proofs.ReadyLemmas.{stands_along}
use Rattle.admission_model.specs.View.{view_of}
use Rattle.admission_model.specs.Serving.{after, reason, replied, answer}
use Rattle.admission_model.specs.Durable.{change_between, IsEmpty}
use Rattle.admission_core.specs.Core.{Core, IsCore, Stands}
use Rattle.admission_core.specs.Kept.{durable_of}
use Rattle.merge_core.specs.Book.{seats_at}
use Rattle.merge_core.specs.Seats.{inside_of}
use Rattle.admission_model.proofs.BookLemmas.{inside_there}
use Rattle.admission_core.proofs.CoreLemmas.{is_core, has_book}
use Rattle.durable_keeper.specs.declared.keeper.Keeper.{Ghosts}
use Rattle.desk_log.specs.declared.entry.Entry.{Entry}
use Rattle.desk_log.specs.Log.{LogState, is_fault, is_logged, ends_in_fault, begun, after_entry, account_after, account_tried, IsInDoubt, IsLegal}
use Rattle.desk_log.specs.Desk.{DeskState, first_account, account_of, account_if_kept, is_frozen, IsOpen, Leaves, IsMadeFor, IsDesk, IsUnserved, IsDoubted, IsAnswered, IsServing, KeepsOn, IsBegin, receipt_of}
use Rattle.desk_log.proofs.KeptLemmas.{durable_begun}
use Rattle.desk_log.proofs.ReplyLemmas.{never_frozen, never_full, model_fault, model_logged}
use Rattle.desk_log.proofs.LogLemmas.{ends-push, after-push, tried-push, after_answered, after_doubted, legal-push, same_accounts}

-- a desk's core stands for some account
pub core_there : {K : Type 0} (g : Ghosts K) (d : DeskState K) → IsDesk g d → IsCore d.core
core_there g d is = is_core d.core is.layout (account_of d) is.stands

-- a frozen desk
pub frozen_served : {K : Type 0} (g : Ghosts K) (d : DeskState K) (pass : ℕ) (call : Call) → is_frozen d ≡ true → IsServing g d d pass call (Refused Frozen)
frozen_served g d pass call frozen = record {
  frozen = λ e. (refl, refl);
  only_frozen = λ e. frozen;
  full = λ running e. let both : true ≡ false = sym frozen ∙ running in absurd (cc);
  only_full = λ e. absurd (cc);
  answered = λ serves. absurd (clash serves);
  certain = λ serves. absurd (clash serves);
  asked = λ serves. absurd (clash serves);
  logged = refl;
  layout = refl;
  site = refl;
  opened = refl;
  honest = λ h. h;
  told = λ e. absurd (cc);
  in_doubt = λ serves e. absurd (clash serves);
  refused = λ refusal e. refl;
  idle = λ empty. refl;
  crash = λ serves. absurd (clash serves);
}
  where
    clash : IsOpen d → ⊥
    clash serves = let both : true ≡ false = sym frozen ∙ serves.running in cc

-- a full log
pub full_served : {K : Type 0} (g : Ghosts K) (d : DeskState K) (pass : ℕ) (call : Call) → is_frozen d ≡ false → d.log.limit ≤ length d.log.entries → IsServing g d d pass call (Refused LogFull)
full_served g d pass call running full = record {
  frozen = λ frozen. let both : true ≡ false = sym frozen ∙ running in absurd (cc);
  only_frozen = λ e. absurd (cc);
  full = λ runs e. (refl, refl);
  only_full = λ e. (running, full);
  answered = λ serves. absurd (clash serves);
  certain = λ serves. absurd (clash serves);
  asked = λ serves. absurd (clash serves);
  logged = refl;
  layout = refl;
  site = refl;
  opened = refl;
  honest = λ h. h;
  told = λ e. absurd (cc);
  in_doubt = λ serves e. absurd (clash serves);
  refused = λ refusal e. refl;
  idle = λ empty. refl;
  crash = λ serves. absurd (clash serves);
}
  where
    clash : IsOpen d → ⊥
    clash serves = omega (arith, full, serves.place)

-- a call that found no memory, at an open desk
module _ {K : Type 0} (g : Ghosts K) (d : DeskState K) (pass : ℕ) (call : Call) (serves : IsOpen d) where
  not_frozen : is_frozen d ≡ true → ⊥
  not_frozen frozen = let both : true ≡ false = sym frozen ∙ serves.running in cc

  not_full : d.log.limit ≤ length d.log.entries → ⊥
  not_full full = omega (arith, full, serves.place)

  -- the copy of the call
  pub uncopied : ((ask : Ask) → call ≡ AskCall ask → ⊥) → IsServing g d d pass call (Refused NoMemory)
  uncopied no_ask = record {
    frozen = λ e. absurd (not_frozen e);
    only_frozen = λ e. absurd (cc);
    full = λ running e. absurd (not_full e);
    only_full = λ e. absurd (cc);
    answered = λ there. inr (inl refl);
    certain = λ there refusal e. inr refl;
    asked = λ there ask e. absurd (no_ask ask e);
    logged = refl;
    layout = refl;
    site = refl;
    opened = refl;
    honest = λ h. h;
    told = λ e. absurd (cc);
    in_doubt = λ there e. absurd (cc);
    refused = λ refusal e. refl;
    idle = λ empty. refl;
    crash = λ there kept. kept;
  }

  -- anything else
  pub no_memory : (c : Core) (k : K) → (g.is_honest k → g.is_honest d.keeper) → (IsEmpty (change_between (account_of d) (after (account_of d) call)) → k ≡ d.keeper) → IsUnserved g (account_of d) d.core c d.keeper k call → IsServing g d (record d { core = c; keeper = k }) pass call (Refused NoMemory)
  no_memory c k honest idle un = record {
    frozen = λ e. absurd (not_frozen e);
    only_frozen = λ e. absurd (cc);
    full = λ running e. absurd (not_full e);
    only_full = λ e. absurd (cc);
    answered = λ there. inr (inl refl);
    certain = λ there refusal e. absurd (clash refusal e);
    asked = λ there ask is refusal e. absurd (clash refusal e);
    logged = refl;
    layout = same_layout;
    site = same_site;
    opened = refl;
    honest = honest;
    told = λ e. absurd (cc);
    in_doubt = λ there e. absurd (cc);
    refused = λ refusal e. un.core;
    idle = idle;
    crash = λ there kept. subst (λ (a : Account). g.keeps k (durable_of a)) (sym account) (un.kept kept);
  }
    where
      clash : (refusal : Refusal) → reason (view_of (account_of d)) call ≡ Some refusal → ⊥
      clash refusal e = let both : None ≡ Some refusal = sym un.free ∙ e in cc

      same_layout : c.layout ≡ d.core.layout
      same_layout = ap (λ (x : Core). x.layout) un.core

      same_site : c.site ≡ d.core.site
      same_site = ap (λ (x : Core). x.site) un.core

      account : account_of (record d { core = c; keeper = k }) ≡ account_of d
      account = λ i. account_after (begun (same_layout i) (same_site i) d.log.first) d.log.entries

  -- the desk stays one
  pub desk_unserved : (c : Core) (k : K) → (g.is_honest k → g.is_honest d.keeper) → IsDesk g d → IsMadeFor g k d.core.layout d.core.site → IsUnserved g (account_of d) d.core c d.keeper k call → IsDesk g (record d { core = c; keeper = k })
  desk_unserved c k honest is made un = record {
    layout = subst IsLayout (sym same_layout) is.layout;
    made_for = record { for_layout = made.for_layout ∙ sym same_layout; for_site = made.for_site ∙ sym same_site };
    legal = subst (λ (a : Account). IsLegal a d.log.entries) (sym first) is.legal;
    stands = subst (λ (a : Account). Stands a c) (sym account) (stands_along (account_of d) d.core c un.core is.stands);
    no_fault = λ running. un.no_fault;
    honest = λ h. is.honest (honest h);
    kept = λ began.
        subst (λ (b : Bool). Leaves g b k (account_of new) (account_if_kept new)) (sym serves.running)
        (subst (λ (a : Account). g.keeps k (durable_of a)) (sym account)
        (un.kept (subst (λ (b : Bool). Leaves g b d.keeper (account_of d) (account_if_kept d)) serves.running (is.kept began))));
  }
    where
      new : DeskState K
      new = record d { core = c; keeper = k }

      same_layout : c.layout ≡ d.core.layout
      same_layout = ap (λ (x : Core). x.layout) un.core

      same_site : c.site ≡ d.core.site
      same_site = ap (λ (x : Core). x.site) un.core

      first : first_account new ≡ first_account d
      first = λ i. begun (same_layout i) (same_site i) d.log.first

      account : account_of new ≡ account_of d
      account = ap (λ (a : Account). account_after a d.log.entries) first

-- a call that was logged
module _ {K : Type 0} (g : Ghosts K) (d : DeskState K) (pass : ℕ) (call : Call) (serves : IsOpen d) (is : IsDesk g d) (c : Core) (k : K) (reply : Reply) (made : IsMadeFor g k d.core.layout d.core.site) (honest : g.is_honest k → g.is_honest d.keeper) where
  abbrev entry : Entry
  entry = record { pass = pass; call = call; reply = reply }

  abbrev new : DeskState K
  new = record { core = c; keeper = k; opened = d.opened; log = record d.log { entries = d.log.entries ++ entry ∷ [] } }

  was_kept : g.keeps d.opened d.log.first → g.keeps d.keeper (durable_of (account_of d))
  was_kept began = subst (λ (b : Bool). Leaves g b d.keeper (account_of d) (account_if_kept d)) serves.running (is.kept began)

  frozen_now : is_frozen new ≡ is_fault reply
  frozen_now = ends-push false d.log.entries entry

  module _ (same_layout : c.layout ≡ d.core.layout) (same_site : c.site ≡ d.core.site) where
    first : first_account new ≡ first_account d
    first = λ i. begun (same_layout i) (same_site i) d.log.first

    account : account_of new ≡ after_entry (account_of d) entry
    account = ap (λ (a : Account). account_after a (d.log.entries ++ entry ∷ [])) first ∙ after-push (first_account d) d.log.entries entry

    tried : account_if_kept new ≡ after (account_of d) call
    tried =
        ap (λ (a : Account). account_tried a (d.log.entries ++ entry ∷ [])) first
        ∙ (tried-push (first_account d) d.log.entries entry
        ∙ ap (λ (a : Account). after a call) (same_accounts (first_account d) false d.log.entries is.legal serves.running))

    legal : IsLegal (account_of d) (entry ∷ []) → IsLegal (first_account new) (d.log.entries ++ entry ∷ [])
    legal last = subst (λ (a : Account). IsLegal a (d.log.entries ++ entry ∷ [])) (sym first) (legal-push (first_account d) false d.log.entries entry is.legal serves.running last)

    made_now : IsMadeFor g k c.layout c.site
    made_now = record { for_layout = made.for_layout ∙ sym same_layout; for_site = made.for_site ∙ sym same_site }

  -- the model's reply
  module _ (it : IsAnswered g (account_of d) d.core c d.keeper k call reply) where
    answered_layout : c.layout ≡ d.core.layout
    answered_layout = it.stands.shows.layout ∙ ((λ i. record { sites = sites_after (account_of d) call i; records = (origin_after (account_of d) call i).layout.records }) ∙ sym is.stands.shows.layout)

    answered_site : c.site ≡ d.core.site
    answered_site = it.stands.shows.site ∙ (ap (λ (o : Origin). o.site) (origin_after (account_of d) call) ∙ sym is.stands.shows.site)

    answered_account : account_of new ≡ after (account_of d) call
    answered_account = account answered_layout answered_site ∙ after_answered (account_of d) entry it.model

    no_fault_now : is_fault reply ≡ false
    no_fault_now = ap is_fault it.model ∙ model_fault (view_of (account_of d)) call

    pub desk_answered : IsDesk g new
    desk_answered = record {
      layout = subst IsLayout (sym answered_layout) is.layout;
      made_for = made_now answered_layout answered_site;
      legal = legal answered_layout answered_site (inl (it.model, tt));
      stands = subst (λ (a : Account). Stands a c) (sym answered_account) it.stands;
      no_fault = λ running. it.no_fault;
      honest = λ h. is.honest (honest h);
      kept = λ began.
          subst (λ (b : Bool). Leaves g b k (account_of new) (account_if_kept new)) (sym (frozen_now ∙ no_fault_now))
          (subst (λ (a : Account). g.keeps k (durable_of a)) (sym answered_account) (it.kept (was_kept began)));
    }

    pub answered_served : (IsEmpty (change_between (account_of d) (after (account_of d) call)) → k ≡ d.keeper) → IsServing g d new pass call reply
    answered_served idle = record {
      frozen = λ e. absurd (not_frozen g d pass call serves e);
      only_frozen = λ e. absurd (never_frozen (view_of (account_of d)) call (sym it.model ∙ e));
      full = λ running e. absurd (not_full g d pass call serves e);
      only_full = λ e. absurd (never_full (view_of (account_of d)) call (sym it.model ∙ e));
      answered = λ there. inl it.model;
      certain = λ there refusal e. inl (refused_so refusal e);
      asked = λ there ask same refusal e. refused_so refusal e;
      logged = sym (cond-true (is_logged reply) _ d.log (ap is_logged it.model ∙ model_logged (view_of (account_of d)) call));
      layout = answered_layout;
      site = answered_site;
      opened = refl;
      honest = honest;
      told = λ e. let both : false ≡ true = sym no_fault_now ∙ e in absurd (cc);
      in_doubt = λ there e. let both : false ≡ true = sym no_fault_now ∙ e in absurd (cc);
      refused = it.refused;
      idle = idle;
      crash = λ there kept.
          subst (λ (b : Bool). Leaves g b k (account_of new) (after (account_of d) call)) (sym no_fault_now)
          (subst (λ (a : Account). g.keeps k (durable_of a)) (sym answered_account) (it.kept kept));
    }
      where
        refused_so : (refusal : Refusal) → reason (view_of (account_of d)) call ≡ Some refusal → reply ≡ Refused refusal
        refused_so refusal e = it.model ∙ ap (λ (o : Option Refusal). replied o (answer (view_of (account_of d)) call)) e

  -- the store's fault
  module _ (it : IsDoubted g (account_of d) d.core c d.keeper k call reply) where
    doubted_layout : c.layout ≡ d.core.layout
    doubted_layout = ap (λ (x : Core). x.layout) it.core

    doubted_site : c.site ≡ d.core.site
    doubted_site = ap (λ (x : Core). x.site) it.core

    fault_now : is_fault reply ≡ true
    fault_now = ap is_fault it.fault

    doubted_account : account_of new ≡ account_of d
    doubted_account = account doubted_layout doubted_site ∙ after_doubted (account_of d) entry fault_now

    in_doubt : IsInDoubt (account_of d) call reply
    in_doubt = record { fault = fault_now; changes = it.changes }

    either : g.keeps d.keeper (durable_of (account_of d)) → g.keeps_either k (durable_of (account_of new)) (durable_of (after (account_of d) call))
    either kept = subst (λ (a : Account). g.keeps_either k (durable_of a) (durable_of (after (account_of d) call))) (sym doubted_account) (it.kept kept)

    pub desk_doubted : IsDesk g new
    desk_doubted = record {
      layout = subst IsLayout (sym doubted_layout) is.layout;
      made_for = made_now doubted_layout doubted_site;
      legal = legal doubted_layout doubted_site (inr (in_doubt, refl));
      stands = subst (λ (a : Account). Stands a c) (sym doubted_account) (stands_along (account_of d) d.core c it.core is.stands);
      no_fault = λ running. let both : true ≡ false = sym (frozen_now ∙ fault_now) ∙ running in absurd (cc);
      honest = λ h. is.honest (honest h);
      kept = λ began.
          subst (λ (b : Bool). Leaves g b k (account_of new) (account_if_kept new)) (sym (frozen_now ∙ fault_now))
          (subst (λ (a : Account). g.keeps_either k (durable_of (account_of new)) (durable_of a)) (sym (tried doubted_layout doubted_site)) (either (was_kept began)));
    }

    pub doubted_served : IsServing g d new pass call reply
    doubted_served = record {
      frozen = λ e. absurd (not_frozen g d pass call serves e);
      only_frozen = λ e. let both : ◌≡◌ {A = Reply} (Refused NoStore) (Refused Frozen) = sym it.fault ∙ e in absurd (cc);
      full = λ running e. absurd (not_full g d pass call serves e);
      only_full = λ e. let both : ◌≡◌ {A = Reply} (Refused NoStore) (Refused LogFull) = sym it.fault ∙ e in absurd (cc);
      answered = λ there. inr (inr in_doubt);
      certain = λ there refusal e. absurd (clash refusal e);
      asked = λ there ask same refusal e. absurd (clash refusal e);
      logged = sym (cond-true (is_logged reply) _ d.log (ap is_logged it.fault));
      layout = doubted_layout;
      site = doubted_site;
      opened = refl;
      honest = honest;
      told = λ e. it.told;
      in_doubt = λ there e. tried doubted_layout doubted_site;
      refused = λ refusal e. it.core;
      idle = λ empty. absurd (it.changes empty);
      crash = λ there kept. subst (λ (b : Bool). Leaves g b k (account_of new) (after (account_of d) call)) (sym fault_now) (either kept);
    }
      where
        clash : (refusal : Refusal) → reason (view_of (account_of d)) call ≡ Some refusal → ⊥
        clash refusal e = it.changes (changed_refused (account_of d) is.stands.reached call refusal e)

  -- either of them
  pub desk_served : (IsEmpty (change_between (account_of d) (after (account_of d) call)) → k ≡ d.keeper) → IsAnswered g (account_of d) d.core c d.keeper k call reply ⊎ IsDoubted g (account_of d) d.core c d.keeper k call reply → IsDesk g new × IsServing g d new pass call reply
  desk_served idle (inl it) = (desk_answered it, answered_served it idle)
  desk_served idle (inr it) = (desk_doubted it, doubted_served it)

  -- and the reply is logged
  pub reply_logged : IsAnswered g (account_of d) d.core c d.keeper k call reply ⊎ IsDoubted g (account_of d) d.core c d.keeper k call reply → is_logged reply ≡ true
  reply_logged (inl it) = ap is_logged it.model ∙ model_logged (view_of (account_of d)) call
  reply_logged (inr it) = ap is_logged it.fault

-- a log that has a place
pub has_place : {K : Type 0} (d : DeskState K) (full : Bool) → is_frozen d ≡ false → (IsTrue full ↔ (d.log.limit ≤ length d.log.entries)) → full ≡ false → IsOpen d
has_place d full running told is = record { running = running; place = at (cases_lt (length d.log.entries) d.log.limit) }
  where
    at : (length d.log.entries < d.log.limit) ⊎ (d.log.limit ≤ length d.log.entries) → length d.log.entries < d.log.limit
    at (inl place) = place
    at (inr none) = let both : false ≡ true = sym is ∙ told.1 none in absurd (cc)

-- a desk that was opened
pub desk_begun : {K : Type 0} (g : Ghosts K) (keeper k : K) (layout : LayoutState) (i limit : ℕ) (c : Core) (log : LogState) → IsLayout layout → i < layout.sites → IsMadeFor g keeper layout i → KeepsOn g keeper k → IsBegin g keeper k layout i limit c log → IsDesk g (record { core = c; keeper = k; opened = k; log = log })
desk_begun {K} g keeper k layout i limit c log is there made on begins = record {
  layout = subst IsLayout (sym same_layout) is;
  made_for = record { for_layout = on.layout ∙ (made.for_layout ∙ sym same_layout); for_site = on.site ∙ (made.for_site ∙ sym same_site) };
  legal = subst (IsLegal (first_account d)) (sym begins.none) tt;
  stands = subst (λ (a : Account). Stands a c) (sym account) begins.stands;
  no_fault = λ running. begins.no_fault;
  honest = λ h. h;
  kept = λ began.
      subst (λ (b : Bool). Leaves g b k (account_of d) (account_if_kept d)) (sym (ap (ends_in_fault false) begins.none))
      (subst (g.keeps k) (sym (ap durable_of account ∙ durable_begun layout i log.first there is.few_sites begins.cells begins.sessions)) began);
}
  where
    d : DeskState K
    d = record { core = c; keeper = k; opened = k; log = log }

    same_layout : c.layout ≡ layout
    same_layout = begins.stands.shows.layout

    same_site : c.site ≡ i
    same_site = begins.stands.shows.site

    account : account_of d ≡ begun layout i log.first
    account =
        ap (λ (es : List Entry). account_after (begun c.layout c.site log.first) es) begins.none
        ∙ (λ j. begun (same_layout j) (same_site j) log.first)

-- the desk with the log as it was pushed, of copies
pub desk_logged : {K : Type 0} (g : Ghosts K) (d : DeskState K) (pass : ℕ) (call copy : Call) → IsOpen d → IsDesk g d → (c : Core) (k : K) (reply logged : Reply) (log : LogState) → IsMadeFor g k d.core.layout d.core.site → (g.is_honest k → g.is_honest d.keeper)
    → (IsEmpty (change_between (account_of d) (after (account_of d) call)) → k ≡ d.keeper) → copy ≡ call → logged ≡ reply
    → log ≡ record d.log { entries = d.log.entries ++ record { pass = pass; call = copy; reply = logged } ∷ [] }
    → IsAnswered g (account_of d) d.core c d.keeper k call reply ⊎ IsDoubted g (account_of d) d.core c d.keeper k call reply
    → IsDesk g (record { core = c; keeper = k; opened = d.opened; log = log }) × IsServing g d (record { core = c; keeper = k; opened = d.opened; log = log }) pass call reply
desk_logged {K} g d pass call copy serves is c k reply logged log made honest idle same_call same_reply pushed it =
    let P : LogState → Type 0 = λ l. IsDesk g (record { core = c; keeper = k; opened = d.opened; log = l }) × IsServing g d (record { core = c; keeper = k; opened = d.opened; log = l }) pass call reply in
    let all : record d.log { entries = d.log.entries ++ record { pass = pass; call = call; reply = reply } ∷ [] } ≡ log =
    (λ i. record d.log { entries = d.log.entries ++ record { pass = pass; call = sym same_call i; reply = sym same_reply i } ∷ [] }) ∙ sym pushed in
    subst P all (desk_served g d pass call serves is c k reply made honest idle it)

-- the copy for a receipt of a logged reply
pub receipt_given : {K : Type 0} (g : Ghosts K) (a : Account) (c d : Core) (k l : K) (call : Call) (reply : Reply) (receipt : Option Reply) → IsAnswered g a c d k l call reply ⊎ IsDoubted g a c d k l call reply → receipt ≡ Some reply → receipt ≡ receipt_of reply
receipt_given g a c d k l call reply receipt it same = same ∙ sym (cond-true (is_logged reply) (Some reply) None (logged it))
  where
    logged : IsAnswered g a c d k l call reply ⊎ IsDoubted g a c d k l call reply → is_logged reply ≡ true
    logged (inl e) = ap is_logged e.model ∙ model_logged (view_of a) call
    logged (inr e) = ap is_logged e.fault

-- the weights of the sessions are the seats that the book shows inside at the site
pub seats_inside : {K : Type 0} (g : Ghosts K) (d : DeskState K) → IsDesk g d → (r : ℕ) → r < length d.core.book.records → inside_of (seats_at d.core.book r) d.core.site ≡ inside (account_of d) r
seats_inside g d is r below =
    subst (λ (i : ℕ). inside_of (seats_at d.core.book r) i ≡ inside (account_of d) r) (sym is.stands.shows.site)
    (inside_there (account_of d) d.core.book (has_book (account_of d) d.core is.stands) r below)
