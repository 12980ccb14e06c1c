-- From a service over a database to the end of the program.
use Rattle.std.proofs.Common.{◌≡◌, ◌⊎◌, ℕ, ◌<◌, ◌≤◌, length, Bool, true, false, List, Option, inl, inr, refl, sym, subst}
use Rattle.std.specs.Prelude.{Result, Ok, Some, None, IfOk, IsSome}
use Rattle.sqlite_trees.specs.declared.store.Store.{Ghosts as Device}
use Rattle.sqlite.specs.Held.{Held}
use Rattle.merge_core.specs.Layout.{LayoutState}
use Rattle.durable_keeper.specs.declared.error.KeeperError.{KeeperError}
use Rattle.durable_keeper.specs.declared.error.KeeperError.TheVariants as keeping
use Rattle.durable_keeper.specs.declared.keeper.Keeper.{Ghosts}
use Rattle.log_file.specs.declared.file.SystemFile.{SystemFile}
use Rattle.log_file.specs.declared.hold.ExclusiveFile.{Ghosts as HoldGhosts}
use Rattle.log_file.specs.declared.refusal.LogError.{LogError}
use Rattle.log_file.specs.declared.refusal.LogError.TheVariants as logging
use Rattle.log_file.specs.Logged.{LogState}
use Rattle.desk_log.specs.Log.{begun}
use Rattle.admission_core.specs.Kept.{DurableState}
use Rattle.serve_engine.specs.Sites.{Began}
use Rattle.site_store.specs.declared.error.ServedError.{ServedError}
use Rattle.site_store.specs.declared.error.ServedError.TheVariants as opening
use Rattle.site_store.specs.Sql.{KeepsOutdated}
use Rattle.site_store.specs.declared.sql.SqlKeeper.{SqlKeeper}
use Rattle.exit_status.specs.declared.status.Status.{Status}
use Rattle.exit_status.specs.declared.status.Status.TheVariants.{Done, Usage, NoLayout, NoStore, Fault, Refused, Memory, Io}
use Rattle.line_conversation.specs.declared.conversation.Conversation.{Ghosts as TalkGhosts}
use Rattle.live_site.specs.declared.call_log.CallLog.{Ghosts as LogGhosts}
use Rattle.sqlite_disk.specs.declared.Disk as disk
use Rattle.sqlite_store.specs.declared.store.FileStore.{FileStore}
use Rattle.sqlite.specs.Files.{over_files}
use Rattle.serve_engine.specs.declared.marks.Marking.{Marking}
use Rattle.serve_engine.specs.Requests.{terms_of}
use Rattle.serve_engine.specs.Exchanges.{Exchange}
use Rattle.serve_engine.specs.Ending.{EndsEarly, EndsServing, EndsWell, most_exchanges}
use Rattle.live_databases.specs.declared.service_end.ServiceEnd.{ServiceEnd}
use Rattle.live_databases.specs.declared.service_end.ServiceEnd.TheVariants.{Ended, Absent, NoLog, LogIsStore, Unlogged, Outdated}
use Rattle.live_databases.specs.Endings.{refused_store}
use Rattle.live_databases.specs.LiveStores.{IsUnserved, LogsOver, ServesOver, unloaded_end, unlogged_end}
use Rattle.live_databases.specs.Services.{Served}
use Rattle.live_databases.specs.LiveFound.{RunsOver}
use Rattle.live_databases.specs.LiveDatabases.{EndsLive, TalksInPart, TalksToEnd}

module _ {K C L : Type 0} (g : Ghosts K) (m : K → Type 0) (t : TalkGhosts C) (h : LogGhosts L) (layout : LayoutState) (i : ℕ) (group : Option (List ℕ)) (marking : Marking) (named : Option (List ℕ)) (keeper back : K) (talk talk_after : C) (log log_after : L) where
  -- what the conversation was, whatever the keeper and the log
  talked : (frozen : Bool) (first : DurableState) → Began g layout i keeper back first
      → EndsWell g m t h (terms_of layout group marking) (begun layout i first) first frozen keeper back talk talk_after log log_after
      → TalksToEnd t layout i group marking named frozen talk talk_after
  talked frozen first began well = record {
    exchanges = well.exchanges;
    served = record {
      first = first;
      cells = began.cells;
      sessions = began.sessions;
      entries = well.entries;
      fault = well.site.fault;
      account = well.site.account;
      tried = well.site.tried;
      served = well.site.served;
    };
    heard = well.heard;
    ended = well.ended;
    whole = well.whole;
  }

  -- why a service stops early: a log that fails is one that is named
  why_early : (exchanges : List Exchange) → (h.has_failed log_after → IsSome named) → t.has_failed talk_after ⊎ (h.has_failed log_after ⊎ (most_exchanges ≤ length exchanges))
      → t.has_failed talk_after ⊎ (IsSome named ⊎ (most_exchanges ≤ length exchanges))
  why_early exchanges is_named (inl failed) = inl failed
  why_early exchanges is_named (inr (inl failed)) = inr (inl (is_named failed))
  why_early exchanges is_named (inr (inr many)) = inr (inr many)

  talked_in_part : (h.has_failed log_after → IsSome named) → (first : DurableState) → Began g layout i keeper back first
      → EndsEarly g m t h (terms_of layout group marking) (begun layout i first) first keeper back talk talk_after log log_after
      → TalksInPart t layout i group marking named talk talk_after
  talked_in_part is_named first began early = record {
    frozen = early.frozen;
    exchanges = early.exchanges;
    served = record {
      first = first;
      cells = began.cells;
      sessions = began.sessions;
      entries = early.entries;
      fault = early.site.fault;
      account = early.site.account;
      tried = early.site.tried;
      served = early.site.served;
    };
    turns = early.turns;
    last = early.last;
    heard = early.heard;
    why = why_early early.exchanges is_named early.why;
  }

  -- the engine of a site that is there
  ran : (h.has_failed log_after → IsSome named) → (ended : Status) → i < layout.sites → EndsServing g m t h layout i group marking keeper back talk talk_after log log_after ended
      → EndsLive t layout i group marking named talk talk_after (Ended ended)
  ran is_named Done there s = (there, talked false s.first s.began s.ended)
  ran is_named Fault there s = (there, talked true s.first s.began s.ended)
  ran is_named Io there s = (there, talked_in_part is_named s.first s.began s.ended)
  ran is_named (NoStore refusal) there (unfit, untouched) = (there, untouched.silent)
  ran is_named (NoLayout fault) there (is, none, same, untouched) = absurd (none there)
  ran is_named Memory there (is_there, untouched) = (there, untouched.silent)
  ran is_named Refused there ended = absurd ended
  ran is_named Usage there ended = absurd ended

-- a refused store
refused_end : {C : Type 0} (t : TalkGhosts C) (layout : LayoutState) (i : ℕ) (group : Option (List ℕ)) (marking : Marking) (named : Option (List ℕ)) (talk : C) (error : ServedError) → i < layout.sites
    → EndsLive t layout i group marking named talk talk (refused_store error)
refused_end t layout i group marking named talk opening.NotAStore there = (there, refl)
refused_end t layout i group marking named talk opening.NoStore there = (there, refl)
refused_end t layout i group marking named talk opening.Exists there = (there, refl)
refused_end t layout i group marking named talk opening.BadStore there = (there, refl)
refused_end t layout i group marking named talk opening.WrongSite there = (there, refl)
refused_end t layout i group marking named talk opening.WrongGroup there = (there, refl)
refused_end t layout i group marking named talk opening.Outdated there = (there, refl)
refused_end t layout i group marking named talk opening.WrongLayout there = (there, refl)
refused_end t layout i group marking named talk opening.StoreFault there = (there, refl)
refused_end t layout i group marking named talk opening.Memory there = (there, refl)

-- what a keeper gave back
pub found_one : (answer : Result DurableState KeeperError) (first d : DurableState) → answer ≡ Ok first → IfOk answer (λ found. found ≡ d) → first ≡ d
found_one answer first d is found = subst (λ (r : Result DurableState KeeperError). IfOk r (λ f. f ≡ d)) is found

-- a service that ended so before anything was heard or told
ends_silent : {C : Type 0} (t : TalkGhosts C) (layout : LayoutState) (i : ℕ) (group : Option (List ℕ)) (marking : Marking) (named : Option (List ℕ)) (talk talk_after : C) (ended so : ServiceEnd) → talk_after ≡ talk → ended ≡ so
    → EndsLive t layout i group marking named talk talk so → EndsLive t layout i group marking named talk talk_after ended
ends_silent {C = C} t layout i group marking named talk talk_after ended so silent is ends =
    subst (λ (e : ServiceEnd). EndsLive t layout i group marking named talk talk_after e) (sym is) (subst (λ (x : C). EndsLive t layout i group marking named talk x so) (sym silent) ends)

pub ends_live : {S C L : Type 0} (g : Device S) (k : Ghosts (SqlKeeper S g)) (t : TalkGhosts C) (h : LogGhosts L) (layout : LayoutState) (s : Served) (named : Option (List ℕ))
    (c after : Held S) (talk talk_after : C) (log log_after : L) (ended : ServiceEnd) → s.site < layout.sites → (h.has_failed log_after → IsSome named)
    → ServesOver g k t h layout s c after talk talk_after log log_after ended → EndsLive t layout s.site s.group s.marking named talk talk_after ended
ends_live g k t h layout s named c after talk talk_after log log_after ended there is_named (inl run) =
    subst (λ (e : ServiceEnd). EndsLive t layout s.site s.group s.marking named talk talk_after e) (sym run.is_status)
    (ran k KeepsOutdated t h layout s.site s.group s.marking named run.keeper run.keeper_after talk talk_after log log_after is_named run.status there run.ends)
ends_live g k t h layout s named c after talk talk_after log log_after ended there is_named (inr none) =
    ends_silent t layout s.site s.group s.marking named talk talk_after ended (refused_store none.error) none.silent none.is_refused
    (refused_end t layout s.site s.group s.marking named talk none.error there)

-- no database was opened
pub unserved_end : {C : Type 0} (t : TalkGhosts C) (layout : LayoutState) (i : ℕ) (group : Option (List ℕ)) (marking : Marking) (named : Option (List ℕ)) (talk : C) (create : Bool) (ended : ServiceEnd) → i < layout.sites → IsUnserved named create ended
    → EndsLive t layout i group marking named talk talk ended
unserved_end t layout i group marking named talk create ended there (inr (is_named, is)) =
    subst (λ (e : ServiceEnd). EndsLive t layout i group marking named talk talk e) (sym is) (is_named, there, refl)
unserved_end t layout i group marking named talk create (Ended Memory) there (inl is) = (there, refl)
unserved_end t layout i group marking named talk create (Ended (NoStore refusal)) there (inl is) = (there, refl)
unserved_end t layout i group marking named talk create (Ended (NoLayout fault)) there (inl is) = absurd is
unserved_end t layout i group marking named talk create (Ended Done) there (inl is) = absurd is
unserved_end t layout i group marking named talk create (Ended Usage) there (inl is) = absurd is
unserved_end t layout i group marking named talk create (Ended Fault) there (inl is) = absurd is
unserved_end t layout i group marking named talk create (Ended Refused) there (inl is) = absurd is
unserved_end t layout i group marking named talk create (Ended Io) there (inl is) = absurd is
unserved_end t layout i group marking named talk create (NoLog refusal) there (inl is) = absurd is
unserved_end t layout i group marking named talk create LogIsStore there (inl is) = absurd is
unserved_end t layout i group marking named talk create Unlogged there (inl is) = absurd is
unserved_end t layout i group marking named talk create (Absent absence) there (inl is) = (there, refl)
unserved_end t layout i group marking named talk create Outdated there (inl is) = absurd is

-- a store that gives nothing back
ends_unloaded : {C : Type 0} (t : TalkGhosts C) (layout : LayoutState) (i : ℕ) (group : Option (List ℕ)) (marking : Marking) (named : Option (List ℕ)) (talk : C) (error : KeeperError) → i < layout.sites
    → EndsLive t layout i group marking named talk talk (unloaded_end error)
ends_unloaded t layout i group marking named talk keeping.Memory there = (there, refl)
ends_unloaded t layout i group marking named talk keeping.StoreFault there = (there, refl)

-- a log that is not opened
ends_unlogged : {C : Type 0} (t : TalkGhosts C) (layout : LayoutState) (i : ℕ) (group : Option (List ℕ)) (marking : Marking) (named : Option (List ℕ)) (talk : C) (error : LogError) → IsSome named → i < layout.sites
    → EndsLive t layout i group marking named talk talk (unlogged_end error)
ends_unlogged t layout i group marking named talk logging.Memory is_named there = (there, refl)
ends_unlogged t layout i group marking named talk (logging.Refused refusal) is_named there = (is_named, there, refl)
ends_unlogged t layout i group marking named talk logging.Io is_named there = (is_named, there, refl)

pub ends_logged : {S C F : Type 0} (g : Device S) (k : Ghosts (SqlKeeper S g)) (hold : HoldGhosts F) (remaining contents : F → Option (List ℕ)) (t : TalkGhosts C) (h : LogGhosts (LogState (SystemFile F)))
    (layout : LayoutState) (s : Served) (named : Option (List ℕ)) (c after : Held S) (talk talk_after : C) (made : Bool) (ended : ServiceEnd) → s.site < layout.sites → IsSome named
    → LogsOver g k hold remaining contents t h layout s c after talk talk_after made ended → EndsLive t layout s.site s.group s.marking named talk talk_after ended
ends_logged g k hold remaining contents t h layout s named c after talk talk_after made ended there is_named (inl run) =
    subst (λ (e : ServiceEnd). EndsLive t layout s.site s.group s.marking named talk talk_after e) (sym run.is_status)
    (ran k KeepsOutdated t h layout s.site s.group s.marking named run.keeper_now run.keeper_after talk talk_after run.log run.log_after (λ failed. is_named) run.status there run.ends)
ends_logged g k hold remaining contents t h layout s named c after talk talk_after made ended there is_named (inr (inl none)) =
    ends_silent t layout s.site s.group s.marking named talk talk_after ended (unlogged_end none.error) none.silent none.is_unlogged
    (ends_unlogged t layout s.site s.group s.marking named talk none.error is_named there)
ends_logged g k hold remaining contents t h layout s named c after talk talk_after made ended there is_named (inr (inr (inl none))) =
    ends_silent t layout s.site s.group s.marking named talk talk_after ended (unloaded_end none.error) none.silent none.is_unloaded
    (ends_unloaded t layout s.site s.group s.marking named talk none.error there)
ends_logged g k hold remaining contents t h layout s named c after talk talk_after made ended there is_named (inr (inr (inr none))) =
    ends_silent t layout s.site s.group s.marking named talk talk_after ended (refused_store none.error) none.silent none.is_refused
    (refused_end t layout s.site s.group s.marking named talk none.error there)

-- a service over a database that was opened, or that ended before anything was heard or told
pub ends_over : {D C L F : Type 0} {d : disk.Ghosts D} (k : Ghosts (SqlKeeper (FileStore D d) over_files)) (hold : HoldGhosts F) (remaining contents : F → Option (List ℕ)) (t : TalkGhosts C) (n : LogGhosts L)
    (h : LogGhosts (LogState (SystemFile F))) (layout : LayoutState) (s : Served) (named : Option (List ℕ)) (c after : Held (FileStore D d)) (talk talk_after : C) (made : Bool) (ended : ServiceEnd)
    → s.site < layout.sites → ((log : L) → n.has_failed log → ⊥) → RunsOver k hold remaining contents t n h layout s named c after talk talk_after made ended
    → EndsLive t layout s.site s.group s.marking named talk talk_after ended
ends_over k hold remaining contents t n h layout s None c after talk talk_after made ended there never (unmade, (log, log_after, run)) =
    ends_live over_files k t n layout s None c after talk talk_after log log_after ended there (λ failed. absurd (never log_after failed)) run
ends_over k hold remaining contents t n h layout s (Some path) c after talk talk_after made ended there never (inl run) =
    ends_logged over_files k hold remaining contents t h layout s (Some path) c after talk talk_after made ended there refl run
ends_over k hold remaining contents t n h layout s (Some path) c after talk talk_after made ended there never (inr (same, silent, unmade, inl is)) =
    ends_silent t layout s.site s.group s.marking (Some path) talk talk_after ended LogIsStore silent is (refl, there, refl)
ends_over k hold remaining contents t n h layout s (Some path) c after talk talk_after made ended there never (inr (same, silent, unmade, inr is)) =
    ends_silent t layout s.site s.group s.marking (Some path) talk talk_after ended (Ended Memory) silent is (there, refl)
