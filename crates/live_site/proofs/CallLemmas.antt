-- What one call leaves at a site at work, exit by exit.
use Rattle.std.proofs.Common.{◌≡◌, ℕ, inl, inr, Bool, true, false, List, ◌++◌, Some, None, Err, refl, sym, ap, subst, ◌∙◌}
use Rattle.merge_core.specs.Layout.{IsLayout}
use Rattle.admission_model.specs.declared.ask.Call.{Call}
use Rattle.admission_model.specs.declared.reply.Refusal.TheVariants.{StoreFault as NoStore}
use Rattle.admission_model.specs.declared.reply.Reply.{Reply}
use Rattle.admission_model.specs.declared.reply.Reply.TheVariants.{Refused}
use Rattle.admission_model.specs.Account.{Account, Origin}
use Rattle.admission_model.specs.View.{View, view_of}
use Rattle.admission_model.specs.Serving.{after, reason, reply_of}
use Rattle.admission_model.proofs.ServingLemmas.{origin_after, sites_after}
use Rattle.admission_core.specs.Core.{Core, IsCore, Stands, SameContent, core_view}
use Rattle.admission_core.specs.Kept.{durable_of}
use Rattle.admission_core.proofs.CoreLemmas.{is_core, shows_account}
use Rattle.admission_core.proofs.ReadyLemmas.{stands_along, view_along}
use Rattle.durable_keeper.specs.declared.keeper.Keeper.{Ghosts}
use Rattle.durable_keeper.specs.declared.error.KeeperError.{KeeperError}
use Rattle.durable_keeper.specs.declared.error.KeeperError.TheVariants as keeping
use Rattle.desk_log.specs.declared.entry.Entry.{Entry}
use Rattle.desk_log.specs.Desk.{IsAnswered, IsDoubted, IsMadeFor, IsUnserved}
use Rattle.live_site.specs.declared.call_log.CallLog.{Ghosts as LogGhosts}
use Rattle.live_site.specs.declared.call_log.LogFault.{LogFault}
use Rattle.live_site.specs.declared.call_log.LogFault.TheVariants as fault
use Rattle.live_site.specs.declared.live_site.Outcome.{Outcome}
use Rattle.live_site.specs.declared.live_site.Outcome.TheVariants.{Answered, TooManySeats, Memory, StoreFault, Frozen, LogFailed}
use Rattle.live_site.specs.Entries.{entry_of}
use Rattle.live_site.specs.Overfull.{overfull_in}
use Rattle.live_site.specs.Live.{LiveState, Enters, IsLive, WasAnswered, WasTooMany, IsLiveStep, freezes, is_outdated, line_of}
use Rattle.live_site.specs.Steps.{IsNotKept, KeepsMark, unlogged}

-- a core of which only the room changed
pub core_along : (c d : Core) → SameContent c d → IsCore c → IsCore d
core_along c d same is =
    is_core d (subst IsLayout (sym (ap (λ (x : Core). x.layout) same)) is.layout) is.account (stands_along is.account c d same is.stands)

pub view_told : (a : Account) (c d : Core) → SameContent c d → Stands a c → core_view d ≡ view_of a
view_told a c d same stands = view_along c d same ∙ shows_account a c stands

module _ {K L : Type 0} (g : Ghosts K) (m : K → Type 0) (h : LogGhosts L) (a : Account) (c : Core) (stands : Stands a c) (call : Call) where
  -- too many rights would be given
  pub too_many : (d : Core) (k : K) (log : L) (text : List ℕ) (r : ℕ) → SameContent c d → (reason (core_view d) call ≡ None) × (overfull_in (core_view d) call ≡ Some r)
      → WasTooMany a c d k k log log call text text r
  too_many d k log text r same is = record {
    free = sym (ap (λ (v : View). reason v call) (view_told a c d same stands)) ∙ is.0;
    overfull = sym (ap (λ (v : View). overfull_in v call) (view_told a c d same stands)) ∙ is.1;
    core = same;
    keeper = refl;
    unlogged = refl;
    unwritten = refl;
  }

  -- the log took nothing
  pub log_refused : (d : Core) (k : K) (log log_after : L) (text text_after : List ℕ) (error : LogFault) → SameContent c d → g.faults_of k ≡ 0
      → ((first : L) (before : List Entry) → h.took first before log → error ≡ fault.Memory → h.took first before log_after)
      → (error ≡ fault.Failed → h.has_failed log_after)
      → IsLiveStep g m h a c d k k log log_after call text text_after (unlogged error)
  log_refused d k log log_after text text_after fault.Memory same no_fault memory failed = record {
    core = same;
    kept = λ kept. kept;
    no_fault = no_fault;
    unlogged = λ first before took. memory first before took refl;
  }
  log_refused d k log log_after text text_after fault.Failed same no_fault memory failed = record {
    core = same;
    kept = λ kept. kept;
    no_fault = no_fault;
    failed = failed refl;
  }

  -- nothing refuses too many rights
  fits_told : (d : Core) → SameContent c d → (reason (core_view d) call ≡ None → overfull_in (core_view d) call ≡ None)
      → reason (view_of a) call ≡ None → overfull_in (view_of a) call ≡ None
  fits_told d same fits = subst (λ (v : View). reason v call ≡ None → overfull_in v call ≡ None) (view_told a c d same stands) fits

  -- the change was not kept
  pub change_lost : (d : Core) (k l : K) (log entered log_after : L) (text text_after : List ℕ) (error : KeeperError) (told : Outcome) → SameContent c d
      → (reason (core_view d) call ≡ None → overfull_in (core_view d) call ≡ None)
      → Enters h log entered call (reply_of (view_of a) call)
      → (error ≡ keeping.Memory → IsUnserved g a c d k l call) → (error ≡ keeping.StoreFault → IsDoubted g a c d k l call (Refused NoStore))
      → IsNotKept h entered log_after error told
      → IsLiveStep g m h a c d k l log log_after call text text_after told
  change_lost d k l log entered log_after text text_after keeping.StoreFault told same fits logged unserved doubted is =
      subst (λ (o : Outcome). IsLiveStep g m h a c d k l log log_after call text text_after o) (sym is.0) (inl (record {
        doubted = doubted refl;
        fits = fits_told d same fits;
        logged = subst (λ (x : L). Enters h log x call (reply_of (view_of a) call)) (sym is.1) logged;
      }))
  change_lost d k l log entered log_after text text_after keeping.Memory told same fits logged unserved doubted (inl (is, back)) =
      let un = unserved refl in
      subst (λ (o : Outcome). IsLiveStep g m h a c d k l log log_after call text text_after o) (sym is) (record {
        core = un.core;
        kept = un.kept;
        no_fault = un.no_fault;
        unlogged = λ first before took. back first before (entry_of call (reply_of (view_of a) call)) (logged first before took);
      })
  change_lost d k l log entered log_after text text_after keeping.Memory told same fits logged unserved doubted (inr (is, failed)) =
      let un = unserved refl in
      subst (λ (o : Outcome). IsLiveStep g m h a c d k l log log_after call text text_after o) (sym is) (record {
        core = un.core;
        kept = un.kept;
        no_fault = un.no_fault;
        failed = failed;
      })

  -- the mark was not kept
  pub mark_lost : (d : Core) (k l : K) (log entered log_after : L) (text text_after : List ℕ) (error : KeeperError) (told : Outcome) → SameContent c d
      → (reason (core_view d) call ≡ None → overfull_in (core_view d) call ≡ None) → is_outdated (reply_of (view_of a) call) ≡ true
      → Enters h log entered call (reply_of (view_of a) call) → KeepsMark g m k l (Err error) → IsNotKept h entered log_after error told
      → IsLiveStep g m h a c d k l log log_after call text text_after told
  mark_lost d k l log entered log_after text text_after keeping.StoreFault told same fits outdated logged kept is =
      subst (λ (o : Outcome). IsLiveStep g m h a c d k l log log_after call text text_after o) (sym is.0) (inr (record {
        outdated = outdated;
        fits = fits_told d same fits;
        core = same;
        kept = kept.keeps (durable_of a);
        told = kept.told;
        logged = subst (λ (x : L). Enters h log x call (reply_of (view_of a) call)) (sym is.1) logged;
      }))
  mark_lost d k l log entered log_after text text_after keeping.Memory told same fits outdated logged kept (inl (is, back)) =
      subst (λ (o : Outcome). IsLiveStep g m h a c d k l log log_after call text text_after o) (sym is) (record {
        core = same;
        kept = kept.keeps (durable_of a);
        no_fault = kept.no_fault;
        unlogged = λ first before took. back first before (entry_of call (reply_of (view_of a) call)) (logged first before took);
      })
  mark_lost d k l log entered log_after text text_after keeping.Memory told same fits outdated logged kept (inr (is, failed)) =
      subst (λ (o : Outcome). IsLiveStep g m h a c d k l log log_after call text text_after o) (sym is) (record {
        core = same;
        kept = kept.keeps (durable_of a);
        no_fault = kept.no_fault;
        failed = failed;
      })

  -- the call was carried out
  pub call_done : (d new : Core) (k l : K) (log log_after : L) (text text_after : List ℕ) (reply : Reply) → SameContent c d
      → (reason (core_view d) call ≡ None → overfull_in (core_view d) call ≡ None)
      → IsAnswered g a c new k l call reply → text_after ≡ text ++ line_of reply → Enters h log log_after call reply → (is_outdated reply ≡ true → g.keeps k (durable_of a) → m l)
      → WasAnswered g m h a c new k l log log_after call text text_after
  call_done d new k l log log_after text text_after reply same fits answered written logged marked = record {
    answered = subst (λ (r : Reply). IsAnswered g a c new k l call r) answered.model answered;
    fits = fits_told d same fits;
    written = written ∙ ap (λ (r : Reply). text ++ line_of r) answered.model;
    logged = subst (λ (r : Reply). Enters h log log_after call r) answered.model logged;
    marked = λ is. marked (ap is_outdated answered.model ∙ is);
  }

  -- a site that serves is not frozen before the call
  pub not_frozen : (d : Core) (k l : K) (log log_after : L) (text text_after : List ℕ) (outcome : Outcome)
      → IsLiveStep g m h a c d k l log log_after call text text_after outcome → outcome ≡ Frozen → ⊥
  not_frozen d k l log log_after text text_after Frozen it is = it
  not_frozen d k l log log_after text text_after other it is = absurd (cc)

  -- the store's fault is told where the keeper told one
  pub fault_told : (d : Core) (k l : K) (log log_after : L) (text text_after : List ℕ) (outcome : Outcome)
      → IsLiveStep g m h a c d k l log log_after call text text_after outcome → outcome ≡ StoreFault → g.faults_of l ≡ 1
  fault_told d k l log log_after text text_after StoreFault (inl it) is = it.doubted.told
  fault_told d k l log log_after text text_after StoreFault (inr it) is = it.told
  fault_told d k l log log_after text text_after other it is = absurd (cc)

-- a site at work stays one, of its layout and its number
module _ {K L : Type 0} (g : Ghosts K) (m : K → Type 0) (h : LogGhosts L) (call : Call) where
  -- after a call that left the core as it was, its room aside
  site_along : (old : LiveState K) (c : Core) (k : K) (frozen : Bool) → IsLive g old → SameContent old.core c → IsMadeFor g k old.core.layout old.core.site
      → (frozen ≡ false → g.faults_of k ≡ 0) → IsLive g (record { core = c; keeper = k; frozen = frozen })
  site_along old c k frozen is same made no_fault = record {
    layout = subst IsLayout (sym layout) is.layout;
    core = core_along old.core c same is.core;
    made_for = record { for_layout = made.for_layout ∙ sym layout; for_site = made.for_site ∙ sym (ap (λ (x : Core). x.site) same) };
    no_fault = no_fault;
  }
    where
      layout : c.layout ≡ old.core.layout
      layout = ap (λ (x : Core). x.layout) same

  module _ (a : Account) (old : LiveState K) (stands : Stands a old.core) (c : Core) (k : K) (reply : Reply) (it : IsAnswered g a old.core c old.keeper k call reply) where
    answered_layout : c.layout ≡ old.core.layout
    answered_layout = it.stands.shows.layout ∙ ((λ i. record { sites = sites_after a call i; records = (origin_after a call i).layout.records }) ∙ sym stands.shows.layout)

    answered_site : c.site ≡ old.core.site
    answered_site = it.stands.shows.site ∙ (ap (λ (o : Origin). o.site) (origin_after a call) ∙ sym stands.shows.site)

    site_after : (frozen : Bool) → IsLive g old → IsMadeFor g k old.core.layout old.core.site → IsLive g (record { core = c; keeper = k; frozen = frozen })
    site_after frozen is made = record {
      layout = subst IsLayout (sym answered_layout) is.layout;
      core = is_core c (subst IsLayout (sym answered_layout) is.layout) (after a call) it.stands;
      made_for = record { for_layout = made.for_layout ∙ sym answered_layout; for_site = made.for_site ∙ sym answered_site };
      no_fault = λ running. it.no_fault;
    }

  module _ (old : LiveState K) (is : IsLive g old) (c : Core) (k : K) (log log_after : L) (text text_after : List ℕ) (made : IsMadeFor g k old.core.layout old.core.site) (was_running : old.frozen ≡ false) where
    pub live_after : (outcome : Outcome) (frozen : Bool) → IsLiveStep g m h is.core.account old.core c old.keeper k log log_after call text text_after outcome
        → frozen ≡ freezes is.core.account call outcome → IsLive g (record { core = c; keeper = k; frozen = frozen })
    live_after Answered frozen it is_frozen = site_after is.core.account old is.core.stands c k (reply_of (view_of is.core.account) call) it.answered frozen is made
    live_after (TooManySeats r) frozen it is_frozen = site_along old c k frozen is it.core made (λ running. subst (λ (x : K). g.faults_of x ≡ 0) (sym it.keeper) (is.no_fault was_running))
    live_after Memory frozen it is_frozen = site_along old c k frozen is it.core made (λ running. it.no_fault)
    live_after StoreFault frozen (inl it) is_frozen = site_along old c k frozen is it.doubted.core made (λ running. let clash : true ≡ false = sym is_frozen ∙ running in cc)
    live_after StoreFault frozen (inr it) is_frozen = site_along old c k frozen is it.core made (λ running. let clash : true ≡ false = sym is_frozen ∙ running in cc)
    live_after LogFailed frozen it is_frozen = site_along old c k frozen is it.core made (λ running. it.no_fault)
    live_after Frozen frozen it is_frozen = absurd it

    pub layout_after : (outcome : Outcome) → IsLiveStep g m h is.core.account old.core c old.keeper k log log_after call text text_after outcome → c.layout ≡ old.core.layout
    layout_after Answered it = answered_layout is.core.account old is.core.stands c k (reply_of (view_of is.core.account) call) it.answered
    layout_after (TooManySeats r) it = ap (λ (x : Core). x.layout) it.core
    layout_after Memory it = ap (λ (x : Core). x.layout) it.core
    layout_after StoreFault (inl it) = ap (λ (x : Core). x.layout) it.doubted.core
    layout_after StoreFault (inr it) = ap (λ (x : Core). x.layout) it.core
    layout_after LogFailed it = ap (λ (x : Core). x.layout) it.core
    layout_after Frozen it = absurd it

    pub site_number_after : (outcome : Outcome) → IsLiveStep g m h is.core.account old.core c old.keeper k log log_after call text text_after outcome → c.site ≡ old.core.site
    site_number_after Answered it = answered_site is.core.account old is.core.stands c k (reply_of (view_of is.core.account) call) it.answered
    site_number_after (TooManySeats r) it = ap (λ (x : Core). x.site) it.core
    site_number_after Memory it = ap (λ (x : Core). x.site) it.core
    site_number_after StoreFault (inl it) = ap (λ (x : Core). x.site) it.doubted.core
    site_number_after StoreFault (inr it) = ap (λ (x : Core). x.site) it.core
    site_number_after LogFailed it = ap (λ (x : Core). x.site) it.core
    site_number_after Frozen it = absurd it
