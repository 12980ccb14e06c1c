-- From a service in rounds over a database to the end of the program.
use Rattle.std.proofs.Common.{◌≡◌, ℕ, ◌<◌, Bool, true, false, List, [], ◌∷◌, Option, inl, inr, refl, sym, subst}
use Rattle.sqlite_trees.specs.declared.store.Store.{Ghosts as Device}
use Rattle.sqlite.specs.Held.{Held}
use Rattle.merge_core.specs.Layout.{LayoutState}
use Rattle.admission_model.specs.Account.{Account}
use Rattle.admission_core.specs.Kept.{DurableState}
use Rattle.durable_keeper.specs.declared.keeper.Keeper.{Ghosts}
use Rattle.desk_log.specs.Log.{begun}
use Rattle.serve_engine.specs.Sites.{Began}
use Rattle.site_store.specs.declared.error.ServedError.{ServedError}
use Rattle.site_store.specs.declared.error.ServedError.TheVariants as opening
use Rattle.site_store.specs.Sql.{KeepsOutdated}
use Rattle.site_store.specs.declared.sql.SqlKeeper.{SqlKeeper}
use Rattle.exit_status.specs.declared.status.Status.{Status}
use Rattle.exit_status.specs.declared.status.Status.TheVariants.{Done, Usage, NoLayout, NoStore, Fault, Refused, Memory, Io}
use Rattle.line_conversation.specs.declared.conversation.Conversation.{Ghosts as TalkGhosts}
use Rattle.serve_engine.specs.declared.marks.Marking.{Marking}
use Rattle.serve_engine.specs.Requests.{Terms, terms_of}
use Rattle.serve_engine.specs.Exchanges.{Exchange}
use Rattle.serve_engine.specs.Rounds.{BeginsFrom, EndsEarlyTogether, EndsServingTogether, EndsWellTogether, Reaches, ServedTogether}
use Rattle.live_databases.specs.declared.service_end.ServiceEnd.{ServiceEnd}
use Rattle.live_databases.specs.declared.service_end.ServiceEnd.TheVariants.{Ended, Absent, NoLog, LogIsStore, Unlogged, Outdated}
use Rattle.live_databases.specs.Endings.{refused_store}
use Rattle.live_databases.specs.LiveStores.{IsUnopened}
use Rattle.live_databases.specs.Services.{Served}
use Rattle.live_databases.specs.LiveRounds.{EndsLiveRounds, RoundsOver, ServedRounds, TalksRoundsInPart, TalksRoundsToEnd}

-- beginnings again, whatever the keeper gave back
reached_anyhow : (honest : Type 0) (terms : Terms) (layout : LayoutState) (i : ℕ) (a : Account) (xss : List (List Exchange)) (c : Account)
    → Reaches honest terms layout i a xss c → Reaches ⊥ terms layout i a xss c
reached_anyhow honest terms layout i a [] c same = same
reached_anyhow honest terms layout i a (xs ∷ xss) c (b, entries, first, served, begins, rest) = (
  b,
  entries,
  first,
  served,
  record { cells = begins.cells; sessions = begins.sessions; found = λ none. absurd none },
  reached_anyhow honest terms layout i (begun layout i first) xss c rest,
)

module _ {K C : Type 0} (g : Ghosts K) (m : K → Type 0) (t : TalkGhosts C) (most : ℕ) (layout : LayoutState) (i : ℕ) (group : Option (List ℕ)) (marking : Marking)
    (keeper back : K) (talk talk_after : C) where
  -- what was served, whatever the keeper
  served_anyhow : (frozen : Bool) (first : DurableState) (xs : List Exchange) → Began g layout i keeper back first
      → ServedTogether g m most (terms_of layout group marking) layout i (begun layout i first) first frozen keeper back xs
      → ServedRounds most layout i group marking frozen xs
  served_anyhow frozen first xs began site = record {
    first = first;
    cells = began.cells;
    sessions = began.sessions;
    earlier = site.earlier;
    last = site.last;
    split = site.split;
    began = site.began;
    reached = reached_anyhow (g.keeps keeper first × g.is_honest back) (terms_of layout group marking) layout i (begun layout i first) site.earlier site.began site.reached;
    fault = site.fault;
    account = site.account;
    tried = site.tried;
    served = site.served;
  }

  talked : (frozen : Bool) (first : DurableState) → Began g layout i keeper back first
      → EndsWellTogether g m t most (terms_of layout group marking) layout i (begun layout i first) first frozen keeper back talk talk_after
      → TalksRoundsToEnd t most layout i group marking frozen talk talk_after
  talked frozen first began well = record {
    exchanges = well.exchanges;
    turns = well.turns;
    blocks = well.blocks;
    served = served_anyhow frozen first well.exchanges began well.site;
    heard = well.heard;
    ended = well.ended;
    whole = well.whole;
  }

  talked_in_part : (first : DurableState) → Began g layout i keeper back first
      → EndsEarlyTogether g m t most (terms_of layout group marking) layout i (begun layout i first) first keeper back talk talk_after
      → TalksRoundsInPart t most layout i group marking talk talk_after
  talked_in_part first began early = record {
    frozen = early.frozen;
    exchanges = early.exchanges;
    turns = early.turns;
    last = early.last;
    served = served_anyhow early.frozen first early.exchanges began early.site;
    heard = early.heard;
    why = early.why;
  }

  -- the engine of a site that is there
  ran : (ended : Status) → i < layout.sites → EndsServingTogether g m t most layout i group marking keeper back talk talk_after ended
      → EndsLiveRounds t most layout i group marking talk talk_after (Ended ended)
  ran Done there s = (there, talked false s.first s.began s.ended)
  ran Fault there s = (there, talked true s.first s.began s.ended)
  ran Io there s = (there, talked_in_part s.first s.began s.ended)
  ran (NoStore refusal) there (unfit, untouched) = (there, untouched.silent)
  ran (NoLayout fault) there (is, none, same, untouched) = absurd (none there)
  ran Memory there (is_there, untouched) = (there, untouched.silent)
  ran Refused there ended = absurd ended
  ran Usage there ended = absurd ended

module _ {C : Type 0} (t : TalkGhosts C) (most : ℕ) (layout : LayoutState) (i : ℕ) (group : Option (List ℕ)) (marking : Marking) (talk : C) where
  -- a refused store
  refused_end : (error : ServedError) → i < layout.sites → EndsLiveRounds t most layout i group marking talk talk (refused_store error)
  refused_end opening.NotAStore there = (there, refl)
  refused_end opening.NoStore there = (there, refl)
  refused_end opening.Exists there = (there, refl)
  refused_end opening.BadStore there = (there, refl)
  refused_end opening.WrongSite there = (there, refl)
  refused_end opening.WrongGroup there = (there, refl)
  refused_end opening.Outdated there = (there, refl)
  refused_end opening.WrongLayout there = (there, refl)
  refused_end opening.StoreFault there = (there, refl)
  refused_end opening.Memory there = (there, refl)

  -- a service that ended so before anything was heard or told
  ends_silent : (talk_after : C) (ended so : ServiceEnd) → talk_after ≡ talk → ended ≡ so → EndsLiveRounds t most layout i group marking talk talk so
      → EndsLiveRounds t most layout i group marking talk talk_after ended
  ends_silent talk_after ended so silent is ends =
      subst (λ (e : ServiceEnd). EndsLiveRounds t most layout i group marking talk talk_after e) (sym is)
      (subst (λ (x : C). EndsLiveRounds t most layout i group marking talk x so) (sym silent) ends)

  -- no database was opened
  pub unopened_rounds : (create : Bool) (ended : ServiceEnd) → i < layout.sites → IsUnopened create ended → EndsLiveRounds t most layout i group marking talk talk ended
  unopened_rounds create (Ended Memory) there is = (there, refl)
  unopened_rounds create (Ended (NoStore refusal)) there is = (there, refl)
  unopened_rounds create (Ended (NoLayout fault)) there is = absurd is
  unopened_rounds create (Ended Done) there is = absurd is
  unopened_rounds create (Ended Usage) there is = absurd is
  unopened_rounds create (Ended Fault) there is = absurd is
  unopened_rounds create (Ended Refused) there is = absurd is
  unopened_rounds create (Ended Io) there is = absurd is
  unopened_rounds create (NoLog refusal) there is = absurd is
  unopened_rounds create LogIsStore there is = absurd is
  unopened_rounds create Unlogged there is = absurd is
  unopened_rounds create (Absent absence) there is = (there, refl)
  unopened_rounds create Outdated there is = absurd is

pub ends_rounds : {S C : Type 0} (g : Device S) (k : Ghosts (SqlKeeper S g)) (t : TalkGhosts C) (most : ℕ) (layout : LayoutState) (s : Served) (c after : Held S)
    (talk talk_after : C) (ended : ServiceEnd) → s.site < layout.sites
    → RoundsOver g k t most layout s c after talk talk_after ended → EndsLiveRounds t most layout s.site s.group s.marking talk talk_after ended
ends_rounds g k t most layout s c after talk talk_after ended there (inl run) =
    subst (λ (e : ServiceEnd). EndsLiveRounds t most layout s.site s.group s.marking talk talk_after e) (sym run.is_status)
    (ran k KeepsOutdated t most layout s.site s.group s.marking run.keeper run.keeper_after talk talk_after run.status there run.ends)
ends_rounds g k t most layout s c after talk talk_after ended there (inr none) =
    ends_silent t most layout s.site s.group s.marking talk talk_after ended (refused_store none.error) none.silent none.is_refused
    (refused_end t most layout s.site s.group s.marking talk none.error there)
