-- A site's entries and runs as they come, whatever comes behind them.
use Rattle.std.proofs.Common.{◌≡◌, ℕ, suc, ◌+◌, ◌-◌, ◌<◌, ◌≤◌, ◌⊎◌, inl, inr, Bool, true, false, cond, ltb, List, [], ◌∷◌, ◌++◌, length, take, Option, None, Some, refl, sym, ap, subst, ◌∙◌, append-nil, arith}
use Rattle.std.proofs.lemmas.Bool.{cond-true, cond-false, lt-ltb, le-ltb, cases_eq, false≢true}
use Rattle.merge_core.specs.declared.delta.Row.{Row}
use Rattle.merge_core.specs.declared.layout.RecordSpec.{RecordSpec}
use Rattle.merge_core.specs.Layout.{LayoutState, at_sites}
use Rattle.admission_model.specs.declared.ask.Call.{Call}
use Rattle.admission_model.specs.declared.ask.Call.TheVariants.{Snapshot}
use Rattle.admission_model.specs.declared.reply.Reply.{Reply}
use Rattle.admission_model.specs.Account.{Account, Origin, start_origin}
use Rattle.admission_model.specs.declared.reply.Reply.TheVariants.{Snapshot as SnapshotReply}
use Rattle.admission_model.specs.Merging.{snapshot_of}
use Rattle.admission_model.specs.View.{View, view_of}
use Rattle.admission_model.specs.Serving.{after, reply_of}
use Rattle.admission_core.specs.Core.{Core, Stands, SameContent}
use Rattle.admission_core.proofs.CoreLemmas.{shows_account}
use Rattle.admission_core.proofs.ReadyLemmas.{stands_along}
use Rattle.std.specs.Prelude.{◌↔◌, IsTrue, Vec}
use Rattle.std.specs.Global.{Global}
use Rattle.admission_core.specs.Kept.{durable_of}
use Rattle.desk_log.specs.declared.entry.Entry.{Entry}
use Rattle.desk_log.specs.declared.transcript.Run.{Run}
use Rattle.desk_log.specs.Log.{is_fault, account_after, IsLegal}
use Rattle.log_replay.specs.Legal.{is_same_part, started, was_kept, answered_in, tried_in, after_run, Begins, AreLegal, IsBadJoint, IsBadReply, first_sites, start_account, account_at}
use Rattle.log_replay.specs.Replay.{settled, tried_at, IsPath, IsWay, IsEnd, IsEndable, IsStop, IsJoint, IsFirstCore, TellsOwn}
use Rattle.log_replay.specs.declared.stream.LogFault.TheVariants.{BadJoint, BadReply}
use Rattle.log_replay.specs.declared.stream.Stage.{Stage}
use Rattle.log_replay.specs.declared.stream.Stage.TheVariants.{Fresh, Open, Ended}
use Rattle.log_replay.specs.declared.stream.SiteReplay.{SiteReplay}
use Rattle.log_replay.specs.Stream.{CarriesOut, count_of, left_of, length_by, HasEnded, IsClear, IsDoubted, IsDoubtKept, IsFaultOf, IsHandedBack, IsInRun, IsMarkedAt, IsReplaying, IsSettled, IsShownBy, IsStage, IsTried}
use Rattle.log_replay.proofs.EntryLemmas.{fault_is_other, carried}
use Rattle.log_replay.proofs.WayLemmas.{way_more, way_length, way_account, way_origin, way_legal, way_bad, way_answered, way_tried}
use Rattle.log_replay.proofs.RunLemmas.{settled_next, last_settled, after_run_origin}
use Rattle.log_replay.proofs.PathLemmas.{path_more, path_legal, path_joint, path_reply, joint_behind}

-- a run with other entries begins as it does
pub begins_so : (layout : LayoutState) (i : ℕ) (a : Account) (run : Run) (es : List Entry) → Begins layout i a run → Begins layout i a (record run { entries = es })
begins_so layout i a run es b = record { site_there = b.site_there; no_fewer = b.no_fewer; no_more = b.no_more; records_fit = b.records_fit; first_part = b.first_part }

pub begins_back : (layout : LayoutState) (i : ℕ) (a : Account) (run : Run) (es : List Entry) → Begins layout i a (record run { entries = es }) → Begins layout i a run
begins_back layout i a run es b = record { site_there = b.site_there; no_fewer = b.no_fewer; no_more = b.no_more; records_fit = b.records_fit; first_part = b.first_part }

-- ---- the first run

pub first_begun : (layout : LayoutState) (i : ℕ) (it : Run) (es : List Entry) (later : List Run) (c : Core) → IsFirstCore layout i (start_account layout i (it ∷ [])) (it ∷ []) (Some c)
    → IsInRun layout i (record it { entries = es } ∷ later) es later c [] 0
first_begun layout i it es later c first =
    let a = start_account layout i (it ∷ []) in
    record {
      account = a;
      run = record it { entries = es };
      flags = [];
      before = 0;
      origin = refl;
      path = (refl, refl, refl);
      begins = begins_so layout i a it es first.0;
      n = 0;
      reached = started a it;
      way = (refl, refl);
      stands = first.1;
      ends = tt;
      number = refl;
    }

pub first_unfit : (layout : LayoutState) (i : ℕ) (it : Run) (es : List Entry) (later : List Run) → IsFirstCore layout i (start_account layout i (it ∷ [])) (it ∷ []) None
    → IsFaultOf layout i (record it { entries = es } ∷ later) BadJoint
first_unfit layout i it es later first = inl (λ b. first (begins_back layout i (start_account layout i (it ∷ [])) it es b))

-- ---- a run that has begun

module _ (layout : LayoutState) (i : ℕ) (runs : List Run) (more : List Entry) (later : List Run) (core : Core) (left : List Entry) (at : ℕ) (r : IsInRun layout i runs more later core left at) where
  reached_origin : r.reached.origin ≡ start_origin (at_sites (first_sites layout runs) layout) i
  reached_origin = way_origin (started r.account r.run) r.run.entries r.n r.reached (left ++ more) r.way ∙ r.origin

  pub in_site : core.site ≡ i
  in_site = r.stands.shows.site ∙ ap (λ (o : Origin). o.site) reached_origin

  pub in_records : core.layout.records ≡ layout.records
  in_records = ap (λ (l : LayoutState). l.records) r.stands.shows.layout ∙ ap (λ (o : Origin). o.layout.records) reached_origin

  pub in_length : r.n + length (left ++ more) ≡ length r.run.entries
  in_length = way_length (started r.account r.run) r.run.entries r.n r.reached (left ++ more) r.way

  -- an entry that can't stand is the fault of all runs
  pub bad_reply : (k : ℕ) → k ≡ r.before + r.n → IsStop r.reached (left ++ more) → (¬ IsEnd r.reached (left ++ more)) → IsFaultOf layout i runs (BadReply k)
  bad_reply k sum stop no_end =
      path_reply layout i (start_account layout i runs) runs r.flags r.before r.account (r.run ∷ later) r.n k sum r.path
      (r.begins, inl (way_bad (started r.account r.run) r.run.entries r.n r.reached (left ++ more) r.way stop no_end))

-- nothing is in doubt
pub in_left : (layout : LayoutState) (i : ℕ) (runs : List Run) (more : List Entry) (later : List Run) (core : Core) (left : List Entry) (at : ℕ) → left ≡ [] → IsInRun layout i runs more later core [] at → IsInRun layout i runs more later core left at
in_left layout i runs more later core left at none r = subst (λ (xs : List Entry). IsInRun layout i runs more later core xs at) (sym none) r

-- an entry with the model's reply
pub entry_followed : (layout : LayoutState) (i : ℕ) (runs : List Run) (e : Entry) (more : List Entry) (later : List Run) (core new : Core) (at : ℕ) → (r : IsInRun layout i runs (e ∷ more) later core [] at)
    → e.reply ≡ reply_of (view_of r.reached) e.call → Stands (cond (is_fault e.reply) r.reached (after r.reached e.call)) new → IsInRun layout i runs more later new [] (at + 1)
entry_followed layout i runs e more later core new at r same stands =
    record {
      account = r.account;
      run = r.run;
      flags = r.flags;
      before = r.before;
      origin = r.origin;
      path = r.path;
      begins = r.begins;
      n = suc r.n;
      reached = after r.reached e.call;
      way = way_more (started r.account r.run) r.run.entries r.n r.reached e more r.way same;
      stands = carried r.reached e new same stands;
      ends = tt;
      number = omega (arith, r.number);
    }

-- an entry in doubt
pub entry_doubted : (layout : LayoutState) (i : ℕ) (runs : List Run) (e : Entry) (more : List Entry) (later : List Run) (core new : Core) (left : List Entry) (at : ℕ) → (r : IsInRun layout i runs (e ∷ more) later core [] at)
    → left ≡ e ∷ [] → IsEnd r.reached (e ∷ []) → Stands r.reached new → IsInRun layout i runs more later new left (at + 1)
entry_doubted layout i runs e more later core new left at r is ends stands =
    subst (λ (xs : List Entry). IsInRun layout i runs more later new xs (at + 1)) (sym is)
    (record {
      account = r.account;
      run = r.run;
      flags = r.flags;
      before = r.before;
      origin = r.origin;
      path = r.path;
      begins = r.begins;
      n = r.n;
      reached = r.reached;
      way = r.way;
      stands = stands;
      ends = ends;
      number = omega (arith, r.number);
    })

-- an entry that can't stand
pub entry_refused : (layout : LayoutState) (i : ℕ) (runs : List Run) (e : Entry) (more : List Entry) (later : List Run) (core : Core) (at : ℕ) → (r : IsInRun layout i runs (e ∷ more) later core [] at)
    → (¬ (e.reply ≡ reply_of (view_of r.reached) e.call)) → (¬ IsEnd r.reached (e ∷ [])) → IsFaultOf layout i runs (BadReply at)
entry_refused layout i runs e more later core at r other no_end =
    bad_reply layout i runs (e ∷ more) later core [] at r at (omega (arith, r.number)) other (λ end. no_end (end.0, refl))

-- an entry behind one in doubt
pub entry_behind : (layout : LayoutState) (i : ℕ) (runs : List Run) (e : Entry) (more : List Entry) (later : List Run) (core : Core) (left : List Entry) (at k : ℕ) → IsInRun layout i runs (e ∷ more) later core left at
    → 1 ≤ length left → k ≡ at - 1 → IsFaultOf layout i runs (BadReply k)
entry_behind layout i runs e more later core [] at k r some is = absurd (omega (arith, some))
entry_behind layout i runs e more later core (d ∷ ds) at k r some is =
    let none : length ds ≡ 0 = ap (λ (xs : List Entry). length xs) r.ends.1 in
    bad_reply layout i runs (e ∷ more) later core (d ∷ ds) at r k (omega (arith, is, r.number, none))
    (λ same. let wrong : false ≡ true = (fault_is_other d.reply (view_of r.reached) d.call r.ends.0.fault).1 same in cc)
    (λ end. let size : length (ds ++ e ∷ more) ≡ 0 = ap (λ (xs : List Entry). length xs) end.1 in absurd (longer ds size))
  where
    longer : (xs : List Entry) → length (xs ++ e ∷ more) ≡ 0 → ⊥
    longer [] size = omega (arith, size)
    longer (x ∷ xs) size = omega (arith, size)

-- what the code asks of one entry that is not answered as in the model
pub doubt_ends : (a : Account) (core new : Core) (xs : List Entry) (e : Entry) (flag : Bool) → xs ≡ e ∷ [] → (is_fault e.reply ≡ true → Stands a core) → SameContent core new
    → ((b : Account) → (IsEndable xs → Stands b core) → IsTrue flag ↔ IsEnd b xs) → flag ≡ true → IsEnd a (e ∷ []) × Stands a new
doubt_ends a core new xs e flag is stood content tells truth =
    let ends : IsEnd a (e ∷ []) = subst (IsEnd a) is ((tells a (λ endable. stood (subst IsEndable is endable))).0 truth) in
    (ends, stands_along a core new content (stood ends.0.fault))

pub doubt_refused : (a : Account) (core : Core) (xs : List Entry) (e : Entry) (flag : Bool) → xs ≡ e ∷ [] → (is_fault e.reply ≡ true → Stands a core)
    → ((b : Account) → (IsEndable xs → Stands b core) → IsTrue flag ↔ IsEnd b xs) → flag ≡ false → ¬ IsEnd a (e ∷ [])
doubt_refused a core xs e flag is stood tells off end =
    let yes : flag ≡ true = (tells a (λ endable. stood (subst IsEndable is endable))).1 (subst (IsEnd a) (sym is) end) in
    let both : false ≡ true = sym off ∙ yes in cc

-- one entry more, where nothing is in doubt
pub followed_on : (layout : LayoutState) (i : ℕ) (runs : List Run) (e : Entry) (more : List Entry) (later : List Run) (core new : Core) (left : List Entry) (at : ℕ) → left ≡ [] → (r : IsInRun layout i runs (e ∷ more) later core left at)
    → ((b : Account) → Stands b core → e.reply ≡ reply_of (view_of b) e.call) → ((b : Account) → Stands b core → Stands (cond (is_fault e.reply) b (after b e.call)) new) → IsInRun layout i runs more later new left (at + 1)
followed_on layout i runs e more later core new left at none it same stands =
    let r : IsInRun layout i runs (e ∷ more) later core [] at = subst (λ (xs : List Entry). IsInRun layout i runs (e ∷ more) later core xs at) none it in
    in_left layout i runs more later new left (at + 1) none
    (entry_followed layout i runs e more later core new at r (same r.reached r.stands) (stands r.reached r.stands))

pub doubted_on : (layout : LayoutState) (i : ℕ) (runs : List Run) (e : Entry) (more : List Entry) (later : List Run) (core new : Core) (left : List Entry) (at : ℕ) (ok : Bool) (stage : Stage) → left ≡ [] → IsInRun layout i runs (e ∷ more) later core left at
    → ok ≡ false → ((b : Account) → Stands b core → IsTrue ok ↔ (e.reply ≡ reply_of (view_of b) e.call)) → ((b : Account) → Stands b core → Stands (cond (is_fault e.reply) b (after b e.call)) new)
    → ((a : Account) → (is_fault e.reply ≡ true → Stands a new) → IsDoubted a e stage) → IsDoubtKept e at stage → IsStage layout i runs more later (at + 1) stage
doubted_on layout i runs e more later core new left at ok stage none it off tells stands answer kept = go stage answer kept
  where
    r : IsInRun layout i runs (e ∷ more) later core [] at
    r = subst (λ (xs : List Entry). IsInRun layout i runs (e ∷ more) later core xs at) none it

    other : ¬ (e.reply ≡ reply_of (view_of r.reached) e.call)
    other same = let yes : ok ≡ true = (tells r.reached r.stands).1 same in let both : false ≡ true = sym off ∙ yes in cc

    stood : is_fault e.reply ≡ true → Stands r.reached new
    stood fault = subst (λ (x : Account). Stands x new) (cond-true (is_fault e.reply) r.reached (after r.reached e.call) fault) (stands r.reached r.stands)

    go : (s : Stage) → ((a : Account) → (is_fault e.reply ≡ true → Stands a new) → IsDoubted a e s) → IsDoubtKept e at s → IsStage layout i runs more later (at + 1) s
    go Fresh ans kept2 = absurd kept2
    go (Open c left2) ans kept2 = let it2 = ans r.reached stood in entry_doubted layout i runs e more later core c left2.items at r kept2 it2.0 it2.1
    go (Ended fault) ans kept2 = subst (IsFaultOf layout i runs) (sym kept2) (entry_refused layout i runs e more later core at r other (ans r.reached stood))

-- ---- an entry that was tried

is_empty : (xs : List Entry) → (xs ≡ []) ⊎ (xs ≡ [] → ⊥)
is_empty [] = inl refl
is_empty (x ∷ xs) = inr (λ none. let size : length (x ∷ xs) ≡ 0 = ap (λ (ys : List Entry). length ys) none in omega (arith, size))

-- its reply is the model's
pub tried_on : (layout : LayoutState) (i : ℕ) (runs : List Run) (e : Entry) (more : List Entry) (later : List Run) (at : ℕ) (old new : Stage) → IsTried old e true new → IsStage layout i runs (e ∷ more) later at old
    → IsStage layout i runs more later (at + 1) new
tried_on layout i runs e more later at Fresh new tried is = absurd (false≢true (sym tried.0))
tried_on layout i runs e more later at (Ended fault) new tried is = absurd (false≢true (sym tried.0))
tried_on layout i runs e more later at (Open core left) Fresh tried is = absurd tried
tried_on layout i runs e more later at (Open core left) (Ended fault) tried is = absurd tried
tried_on layout i runs e more later at (Open core left) (Open new left2) tried is = go (is_empty left.items)
  where
    go : (left.items ≡ []) ⊎ (left.items ≡ [] → ⊥) → IsInRun layout i runs more later new left2.items (at + 1)
    go (inr some) = absurd (false≢true (sym (tried.1.1 some).0))
    go (inl none) =
        let out = tried.1.0 none in
        subst (λ (xs : List Entry). IsInRun layout i runs more later new xs (at + 1)) (sym tried.0)
        (followed_on layout i runs e more later core new left.items at none is (λ b stands. (out.tells b stands).0 refl) out.stands)

-- nothing was in doubt then
pub tried_free : (e : Entry) (old new : Stage) → IsTried old e true new → left_of old ≡ []
tried_free e Fresh new tried = refl
tried_free e (Ended fault) new tried = refl
tried_free e (Open core left) Fresh tried = absurd tried
tried_free e (Open core left) (Ended fault) tried = absurd tried
tried_free e (Open core left) (Open new left2) tried = go (is_empty left.items)
  where
    go : (left.items ≡ []) ⊎ (left.items ≡ [] → ⊥) → left.items ≡ []
    go (inl none) = none
    go (inr some) = absurd (false≢true (sym (tried.1.1 some).0))

pub tried_back : (e : Entry) (old new : Stage) → IsTried old e true new → IsHandedBack e new (Some e)
tried_back e Fresh new tried = absurd (false≢true (sym tried.0))
tried_back e (Ended fault) new tried = absurd (false≢true (sym tried.0))
tried_back e (Open core left) Fresh tried = absurd tried
tried_back e (Open core left) (Ended fault) tried = absurd tried
tried_back e (Open core left) (Open new left2) tried =
    let none : left.items ≡ [] = tried_free e (Open core left) (Open new left2) tried in
    (refl, (tried.0 ∙ none, (tried.1.0 none).plain refl))

-- whatever came of it, the same is in doubt, and an end stays one
pub tried_left : (e : Entry) (ok : Bool) (old new : Stage) → IsTried old e ok new → left_of new ≡ left_of old
tried_left e ok Fresh new tried = ap (λ (s : Stage). left_of s) tried.1
tried_left e ok (Ended fault) new tried = ap (λ (s : Stage). left_of s) tried.1
tried_left e ok (Open core left) Fresh tried = absurd tried
tried_left e ok (Open core left) (Ended fault) tried = absurd tried
tried_left e ok (Open core left) (Open new left2) tried = tried.0

pub tried_ended : (e : Entry) (ok : Bool) (old new : Stage) → IsTried old e ok new → HasEnded old → HasEnded new
tried_ended e ok Fresh new tried over = absurd over
tried_ended e ok (Open core left) new tried over = absurd over
tried_ended e ok (Ended fault) new tried over = subst HasEnded (sym tried.1) tt

-- its reply is not, or was not looked at
pub refused_on : (layout : LayoutState) (i : ℕ) (runs : List Run) (e : Entry) (more : List Entry) (later : List Run) (before core : Core) (left : List Entry) (at : ℕ) (stage : Stage) → left ≡ [] → CarriesOut before core e false
    → IsInRun layout i runs (e ∷ more) later before left at → ((a : Account) → (is_fault e.reply ≡ true → Stands a core) → IsDoubted a e stage) → IsDoubtKept e at stage → IsStage layout i runs more later (at + 1) stage
refused_on layout i runs e more later before core left at stage none out is answer kept =
    doubted_on layout i runs e more later before core left at false stage none is refl out.tells out.stands answer kept

pub refused_open : (layout : LayoutState) (i : ℕ) (runs : List Run) (e : Entry) (more : List Entry) (later : List Run) (at : ℕ) (core : Core) (left : Vec Entry Global) (result : Stage)
    → ((b : Core) → (left.items ≡ [] → CarriesOut b core e false) → ((left.items ≡ [] → ⊥) → core ≡ b) → IsInRun layout i runs (e ∷ more) later b left.items at → IsStage layout i runs more later (at + 1) result)
    → (before : Stage) → IsTried before e false (Open core left) → IsStage layout i runs (e ∷ more) later at before → IsStage layout i runs more later (at + 1) result
refused_open layout i runs e more later at core left result step Fresh tried is = absurd (let wrong : Open core left ≡ Fresh = tried.1 in cc)
refused_open layout i runs e more later at core left result step (Ended fault) tried is = absurd (let wrong : Open core left ≡ Ended fault = tried.1 in cc)
refused_open layout i runs e more later at core left result step (Open b was) tried is =
    step b (λ none. tried.1.0 (sym tried.0 ∙ none)) (λ some. (tried.1.1 (λ none. some (tried.0 ∙ none))).1)
    (subst (λ (xs : List Entry). IsInRun layout i runs (e ∷ more) later b xs at) (sym tried.0) is)

-- ---- an entry that is the core's own snapshot

-- the core stands for some account
pub clear_stands : (layout : LayoutState) (i : ℕ) (runs : List Run) (more : List Entry) (later : List Run) (it : SiteReplay) (core : Core) → IsReplaying layout i runs more later it → IsClear core it.stage
    → (a : Account) × Stands a core
clear_stands layout i runs more later it core replaying clear = at it.stage replaying.stage clear
  where
    at : (stage : Stage) → IsStage layout i runs more later it.at stage → IsClear core stage → (a : Account) × Stands a core
    at Fresh is clear = absurd clear
    at (Open c left) is clear = (is.reached, subst (Stands is.reached) clear.0 is.stands)
    at (Ended fault) is clear = absurd clear

pub clear_left : (core : Core) (stage : Stage) → IsClear core stage → left_of stage ≡ []
clear_left core Fresh clear = absurd clear
clear_left core (Open c left) clear = clear.1
clear_left core (Ended fault) clear = absurd clear

-- the replay goes on at the same core
pub shown_on : (layout : LayoutState) (i : ℕ) (runs : List Run) (e : Entry) (more : List Entry) (later : List Run) (at : ℕ) (core : Core) (stage : Stage) → IsStage layout i runs (e ∷ more) later at stage → IsClear core stage → IsShownBy core e
    → IsStage layout i runs more later (at + 1) stage × IsHandedBack e stage (Some e)
shown_on layout i runs e more later at core Fresh is clear shown = absurd clear
shown_on layout i runs e more later at core (Ended fault) is clear shown = absurd clear
shown_on layout i runs e more later at core (Open c left) is clear shown =
    (followed_on layout i runs e more later c c left.items at clear.1 is replied stood, (refl, (clear.1, no_fault)))
  where
    told : (b : Account) → Stands b c → e.reply ≡ reply_of (view_of b) Snapshot
    told b stands =
        let mine : Stands b core = subst (Stands b) clear.0 stands in
        shown.1 ∙ ap (λ (v : View). SnapshotReply (snapshot_of v)) (shows_account b core mine)

    replied : (b : Account) → Stands b c → e.reply ≡ reply_of (view_of b) e.call
    replied b stands = told b stands ∙ ap (λ (call : Call). reply_of (view_of b) call) (sym shown.0)

    either : (b : Account) → Stands b c → (fault : Bool) → Stands (cond fault b (after b Snapshot)) c
    either b stands true = stands
    either b stands false = stands

    stood : (b : Account) → Stands b c → Stands (cond (is_fault e.reply) b (after b e.call)) c
    stood b stands = subst (λ (call : Call). Stands (cond (is_fault e.reply) b (after b call)) c) (sym shown.0) (either b stands (is_fault e.reply))

    no_fault : is_fault e.reply ≡ false
    no_fault = ap (λ (r : Reply). is_fault r) (told is.reached is.stands)

-- ---- a run that begins behind another one

module _ (layout : LayoutState) (i : ℕ) (runs : List Run) (nr : Run) (es : List Entry) (later : List Run) (core : Core) (left : List Entry) (at : ℕ) (r : IsInRun layout i runs [] (record nr { entries = es } ∷ later) core left at) where
  abbrev pub next : Run
  next = record nr { entries = es }

  way_to : IsWay (started r.account r.run) r.run.entries r.n r.reached left
  way_to = subst (IsWay (started r.account r.run) r.run.entries r.n r.reached) (append-nil left) r.way

  legal_run : IsLegal (started r.account r.run) r.run.entries
  legal_run = way_legal (started r.account r.run) r.run.entries r.n r.reached left way_to r.ends

  answered : answered_in r.account r.run ≡ r.reached
  answered = way_answered (started r.account r.run) r.run.entries r.n r.reached left way_to r.ends

  tried : tried_in r.account r.run ≡ tried_at r.reached left
  tried = way_tried (started r.account r.run) r.run.entries r.n r.reached left way_to r.ends

  settles : settled r.reached (tried_at r.reached left) next ≡ after_run r.account r.run (next ∷ later)
  settles = settled_next r.account r.run next later r.reached (tried_at r.reached left) answered tried

  whole : r.n + length left ≡ length r.run.entries
  whole = way_length (started r.account r.run) r.run.entries r.n r.reached left way_to

  pub next_begun : (c : Core) (kept : Bool) → IsJoint layout core.site r.reached (tried_at r.reached left) nr (Some (c, kept)) → IsInRun layout i runs es later c [] at
  next_begun c kept joint =
      let b = after_run r.account r.run (next ∷ later) in
      let here = settled r.reached (tried_at r.reached left) next in
      let begun : Begins layout i here next = subst (λ (s : ℕ). Begins layout s here next) (in_site layout i runs [] (next ∷ later) core left at r) (begins_so layout core.site here nr es joint.0) in
      record {
        account = b;
        run = next;
        flags = r.flags ++ was_kept r.account r.run (next ∷ later) ∷ [];
        before = r.before + length r.run.entries;
        origin = after_run_origin r.account r.run (next ∷ later) ∙ r.origin;
        path = path_more layout i (start_account layout i runs) runs r.flags r.before r.account r.run (next ∷ later) (was_kept r.account r.run (next ∷ later)) r.path r.begins legal_run refl;
        begins = subst (λ (x : Account). Begins layout i x next) settles begun;
        n = 0;
        reached = started b next;
        way = (refl, refl);
        stands = subst (λ (x : Account). Stands (started x next) c) settles joint.2;
        ends = tt;
        number = omega (arith, r.number, whole);
      }

  pub next_unfit : IsJoint layout core.site r.reached (tried_at r.reached left) nr None → IsFaultOf layout i runs BadJoint
  next_unfit joint =
      let here = settled r.reached (tried_at r.reached left) next in
      let unfit : ¬ Begins layout i here next = λ b. joint (begins_back layout core.site here nr es (subst (λ (s : ℕ). Begins layout s here next) (sym (in_site layout i runs [] (next ∷ later) core left at r)) b)) in
      path_joint layout i (start_account layout i runs) runs r.flags r.before r.account (r.run ∷ (next ∷ later)) r.path
      (joint_behind layout i r.account r.run (next ∷ later) r.begins legal_run (subst (λ (x : Account). ¬ Begins layout i x next) settles unfit))

  pub next_settled : (d : Entry) (c : Core) (kept : Bool) (back : List Entry) → left ≡ d ∷ [] → IsJoint layout core.site r.reached (tried_at r.reached left) nr (Some (c, kept)) → back ≡ cond kept (d ∷ []) []
      → IsSettled layout i runs (next ∷ later) at d back
  next_settled d c kept back is joint gives = record {
    account = r.account;
    run = r.run;
    flags = r.flags;
    before = r.before;
    path = r.path;
    n = r.n;
    reached = r.reached;
    way = subst (IsWay (started r.account r.run) r.run.entries r.n r.reached) is way_to;
    fault = (subst (IsEnd r.reached) is r.ends).0.fault;
    number = let size : length left ≡ 1 = ap (λ (xs : List Entry). length xs) is in omega (arith, r.number, size);
    is_kept = gives ∙ ap (λ (k : Bool). cond k (d ∷ []) []) (joint.1 ∙ ap (λ (x : Account). is_same_part nr.first (durable_of x)) (sym tried));
  }

-- ---- the cut

pub path_account : (layout : LayoutState) (i : ℕ) (a : Account) (runs : List Run) (flags : List Bool) (at : ℕ) (b : Account) (rest : List Run) (m k : ℕ) → k ≡ at + m → IsPath layout i a runs flags at b rest → account_at a k runs ≡ account_at b m rest
path_account layout i a runs [] at b rest m k sum path =
    let none : at ≡ 0 = path.0 in
    let same : k ≡ m = omega (arith, none, sum) in
    ap (λ (n : ℕ). account_at a n runs) same ∙ (ap (λ (x : Account). account_at x m runs) (sym path.1) ∙ ap (account_at b m) (sym path.2))
path_account layout i a [] (f ∷ fs) at b rest m k sum path = absurd path
path_account layout i a (r ∷ rs) (f ∷ fs) at b rest m k sum path =
    let n = path.1.1.1.0 in
    let parts : at ≡ length r.entries + n = path.1.1.1.1.0 in
    let behind : k - length r.entries ≡ n + m = omega (arith, sum, parts) in
    cond-false (ltb k (length r.entries)) (account_after (started a r) (take k r.entries)) (account_at (after_run a r rs) (k - length r.entries) rs) (le-ltb k (length r.entries) (omega (arith, sum, parts)))
    ∙ path_account layout i (after_run a r rs) rs fs n b rest m (k - length r.entries) behind path.1.1.1.1.1

-- the account where the replay stands
pub account_here : (layout : LayoutState) (i : ℕ) (runs : List Run) (e : Entry) (more : List Entry) (later : List Run) (core : Core) (at : ℕ) → (r : IsInRun layout i runs (e ∷ more) later core [] at)
    → account_at (start_account layout i runs) at runs ≡ r.reached
account_here layout i runs e more later core at r =
    let size = in_length layout i runs (e ∷ more) later core [] at r in
    path_account layout i (start_account layout i runs) runs r.flags r.before r.account (r.run ∷ later) r.n at (omega (arith, r.number)) r.path
    ∙ (cond-true (ltb r.n (length r.run.entries)) (account_after (started r.account r.run) (take r.n r.run.entries)) (account_at (after_run r.account r.run later) (r.n - length r.run.entries) later)
    (lt-ltb r.n (length r.run.entries) (omega (arith, size)))
    ∙ way_account (started r.account r.run) r.run.entries r.n r.reached (e ∷ more) r.way)

pub rows_here : (layout : LayoutState) (i : ℕ) (runs : List Run) (e : Entry) (more : List Entry) (later : List Run) (core : Core) (left : List Entry) (at : ℕ) (rows : List Row) → left ≡ [] → IsInRun layout i runs (e ∷ more) later core left at
    → ((a : Account) → Stands a core → TellsOwn (length core.layout.records) rows a) → TellsOwn (length layout.records) rows (account_at (start_account layout i runs) at runs)
rows_here layout i runs e more later core left at rows none it tells =
    let r : IsInRun layout i runs (e ∷ more) later core [] at = subst (λ (xs : List Entry). IsInRun layout i runs (e ∷ more) later core xs at) none it in
    subst (TellsOwn (length layout.records) rows) (sym (account_here layout i runs e more later core at r))
    (subst (λ (rs : List RecordSpec). TellsOwn (length rs) rows r.reached) (in_records layout i runs (e ∷ more) later core [] at r) (tells r.reached r.stands))

-- the account at the end
last_account : (layout : LayoutState) (i : ℕ) (runs : List Run) (core : Core) (left : List Entry) (at : ℕ) → (r : IsInRun layout i runs [] [] core left at) → account_at (start_account layout i runs) at runs ≡ r.reached
last_account layout i runs core left at r =
    let way : IsWay (started r.account r.run) r.run.entries r.n r.reached left = subst (IsWay (started r.account r.run) r.run.entries r.n r.reached) (append-nil left) r.way in
    let size = way_length (started r.account r.run) r.run.entries r.n r.reached left way in
    path_account layout i (start_account layout i runs) runs r.flags r.before r.account (r.run ∷ []) (length r.run.entries) at (omega (arith, r.number, size)) r.path
    ∙ (cond-false (ltb (length r.run.entries) (length r.run.entries)) (account_after (started r.account r.run) (take (length r.run.entries) r.run.entries)) (account_at (after_run r.account r.run []) (length r.run.entries - length r.run.entries) [])
    (le-ltb (length r.run.entries) (length r.run.entries) (omega arith))
    ∙ last_settled r.account r.run r.reached (way_answered (started r.account r.run) r.run.entries r.n r.reached left way r.ends))

pub rows_last : (layout : LayoutState) (i : ℕ) (runs : List Run) (core : Core) (left : List Entry) (at : ℕ) (rows : List Row) → IsInRun layout i runs [] [] core left at
    → ((a : Account) → Stands a core → TellsOwn (length core.layout.records) rows a) → TellsOwn (length layout.records) rows (account_at (start_account layout i runs) at runs)
rows_last layout i runs core left at rows r tells =
    subst (TellsOwn (length layout.records) rows) (sym (last_account layout i runs core left at r))
    (subst (λ (rs : List RecordSpec). TellsOwn (length rs) rows r.reached) (in_records layout i runs [] [] core left at r) (tells r.reached r.stands))

-- all runs are legal
pub legal_last : (layout : LayoutState) (i : ℕ) (runs : List Run) (at : ℕ) (stage : Stage) → IsStage layout i runs [] [] at stage → (¬ HasEnded stage) → AreLegal layout i (start_account layout i runs) runs
legal_last layout i runs at Fresh is none = subst (λ (rs : List Run). AreLegal layout i (start_account layout i rs) rs) is.1.0 tt
legal_last layout i runs at (Ended fault) is none = absurd (none tt)
legal_last layout i runs at (Open core left) r none =
    let way : IsWay (started r.account r.run) r.run.entries r.n r.reached left.items = subst (IsWay (started r.account r.run) r.run.entries r.n r.reached) (append-nil left.items) r.way in
    let flag = was_kept r.account r.run [] in
    (path_legal layout i (start_account layout i runs) runs (r.flags ++ flag ∷ []) (r.before + length r.run.entries) (after_run r.account r.run [])
    (path_more layout i (start_account layout i runs) runs r.flags r.before r.account r.run [] flag r.path r.begins (way_legal (started r.account r.run) r.run.entries r.n r.reached left.items way r.ends) refl)).0

-- a site without runs
pub none_rows : (layout : LayoutState) (i : ℕ) (core : Core) (rows : List Row) → Stands (start_account layout i []) core
    → ((a : Account) → Stands a core → TellsOwn (length core.layout.records) rows a) → TellsOwn (length layout.records) rows (start_account layout i [])
none_rows layout i core rows stands tells =
    let records : core.layout.records ≡ layout.records = ap (λ (l : LayoutState). l.records) stands.shows.layout in
    subst (λ (rs : List RecordSpec). TellsOwn (length rs) rows (start_account layout i [])) records (tells (start_account layout i []) stands)

-- the mark of the cut, one entry further on
pub mark_passed : (layout : LayoutState) (i : ℕ) (runs : List Run) (cut : Option ℕ) (at : ℕ) (own : Option (List Row)) → (¬ (cut ≡ Some at)) → IsMarkedAt layout i runs cut at own → IsMarkedAt layout i runs cut (at + 1) own
mark_passed layout i runs None at None other marked = tt
mark_passed layout i runs None at (Some rows) other marked = absurd marked
mark_passed layout i runs (Some cut) at None other marked = before (cases_eq cut at)
  where
    before : (cut ≡ at) ⊎ (cut ≡ at → ⊥) → at + 1 ≤ cut
    before (inl same) = absurd (other (ap (λ (n : ℕ). Some n) same))
    before (inr apart) = omega (arith, marked, apart)
mark_passed layout i runs (Some cut) at (Some rows) other marked = (omega (arith, marked.0), marked.1)

pub mark_taken : (layout : LayoutState) (i : ℕ) (runs : List Run) (e : Entry) (more : List Entry) (later : List Run) (cut : Option ℕ) (at : ℕ) (stage : Stage) (core : Core) (left : List Entry) (rows : List Row) → cut ≡ Some at
    → IsInRun layout i runs (e ∷ more) later core left at → left ≡ [] → ((a : Account) → Stands a core → TellsOwn (length core.layout.records) rows a) → IsMarkedAt layout i runs cut (at + 1) (Some rows)
mark_taken layout i runs e more later cut at stage core left rows is it none tells =
    subst (λ (o : Option ℕ). IsMarkedAt layout i runs o (at + 1) (Some rows)) (sym is)
    (omega arith, rows_here layout i runs e more later core left at rows none it tells)

pub mark_at : (layout : LayoutState) (i : ℕ) (runs : List Run) (e : Entry) (more : List Entry) (later : List Run) (it : SiteReplay) (core : Core) (left : List Entry) (rows : List Row) → it.cut ≡ Some it.at
    → IsReplaying layout i runs (e ∷ more) later it → (IsStage layout i runs (e ∷ more) later it.at it.stage → IsInRun layout i runs (e ∷ more) later core left it.at) → left ≡ [] → ((a : Account) → Stands a core → TellsOwn (length core.layout.records) rows a)
    → IsMarkedAt layout i runs it.cut (it.at + 1) (Some rows)
mark_at layout i runs e more later it core left rows is replaying opens none tells =
    mark_taken layout i runs e more later it.cut it.at it.stage core left rows is (opens replaying.stage) none tells

-- one entry more
pub replayed_on : (layout : LayoutState) (i : ℕ) (runs : List Run) (e : Entry) (more : List Entry) (later : List Run) (old new : SiteReplay) → IsReplaying layout i runs (e ∷ more) later old
    → new.cut ≡ old.cut → new.at ≡ old.at + 1 → new.runs ≡ old.runs → IsStage layout i runs more later (old.at + 1) new.stage
    → ((¬ HasEnded new.stage) → IsMarkedAt layout i runs old.cut (old.at + 1) new.own) → IsReplaying layout i runs more later new
replayed_on layout i runs e more later old new it cut at run_number stage mark = record {
  stage = subst (λ (n : ℕ). IsStage layout i runs more later n new.stage) (sym at) stage;
  mark = λ going. subst (λ (n : ℕ). IsMarkedAt layout i runs new.cut n new.own) (sym at) (subst (λ (o : Option ℕ). IsMarkedAt layout i runs o (old.at + 1) new.own) (sym cut) (mark going));
  entries = omega (arith, it.entries, at);
  run_number = omega (arith, it.run_number, run_number);
}

-- one run more
pub replayed_next : (layout : LayoutState) (i : ℕ) (runs : List Run) (next : Run) (later : List Run) (old new : SiteReplay) → IsReplaying layout i runs [] (next ∷ later) old
    → new.cut ≡ old.cut → new.at ≡ old.at → new.own ≡ old.own → new.runs ≡ old.runs + 1 → IsStage layout i runs next.entries later old.at new.stage → (HasEnded old.stage → HasEnded new.stage) → IsReplaying layout i runs next.entries later new
replayed_next layout i runs next later old new it cut at own run_number stage ended = record {
  stage = subst (λ (n : ℕ). IsStage layout i runs next.entries later n new.stage) (sym at) stage;
  mark = λ going. subst (λ (n : ℕ). IsMarkedAt layout i runs new.cut n new.own) (sym at) (subst (λ (o : Option ℕ). IsMarkedAt layout i runs o old.at new.own) (sym cut) (subst (IsMarkedAt layout i runs old.cut old.at) (sym own) (it.mark (λ over. going (ended over)))));
  entries = omega (arith, it.entries, at);
  run_number = omega (arith, it.run_number, run_number);
}

-- the cut is at the end, where it is not behind
pub cut_at_end : (layout : LayoutState) (i : ℕ) (runs : List Run) (cut : Option ℕ) (at : ℕ) → IsMarkedAt layout i runs cut at None → length_by cut at ≤ at → length_by cut at ≡ at
cut_at_end layout i runs None at marked within = refl
cut_at_end layout i runs (Some cut) at marked within = omega (arith, marked, within)

pub cut_ahead : (layout : LayoutState) (i : ℕ) (runs : List Run) (cut : Option ℕ) (at all : ℕ) → IsMarkedAt layout i runs cut at None → at ≤ all → at ≤ length_by cut all
cut_ahead layout i runs None at all marked within = within
cut_ahead layout i runs (Some cut) at all marked within = marked

pub cut_behind : (layout : LayoutState) (i : ℕ) (runs : List Run) (cut : Option ℕ) (at all : ℕ) (rows : List Row) → IsMarkedAt layout i runs cut at (Some rows) → TellsOwn (length layout.records) rows (account_at (start_account layout i runs) (length_by cut all) runs)
cut_behind layout i runs None at all rows marked = absurd marked
cut_behind layout i runs (Some cut) at all rows marked = marked.1
