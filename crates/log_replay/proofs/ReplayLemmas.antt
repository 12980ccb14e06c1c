-- Runs that are replayed one after another.
use Rattle.std.proofs.Common.{◌≡◌, ℕ, ◌+◌, inl, Bool, List, [], ◌∷◌, ◌++◌, length, Option, None, refl, sym, ap, subst, ◌∙◌}
use Rattle.merge_core.specs.declared.delta.Row.{Row}
use Rattle.merge_core.specs.Layout.{LayoutState, at_sites}
use Rattle.admission_model.specs.Account.{Account, Origin, start_origin}
use Rattle.admission_core.specs.Core.{Core, Stands}
use Rattle.desk_log.specs.declared.transcript.Run.{Run}
use Rattle.log_replay.specs.declared.replay.RunEnd.{RunEnd}
use Rattle.log_replay.specs.declared.replay.RunEnd.TheVariants.{NoJoint, NoReply, Passed}
use Rattle.log_replay.specs.Legal.{started, after_run, AreLegal, IsBadJoint, IsBadReply, first_sites, start_account, account_at}
use Rattle.log_replay.specs.Replay.{IsOnPath, IsPath, IsBefore, IsMarked, IsRunEnd, TellsOwn, flags_of}
use Rattle.log_replay.proofs.RunLemmas.{after_run_origin}
use Rattle.log_replay.proofs.PathLemmas.{path_more, path_legal, path_joint, path_reply, joint_behind}

-- the site and the records of a core
pub record IsPlaced (layout : LayoutState) (i : ℕ) (core : Core) : Type 0 where
  pub account : Account
  pub stands : Stands account core
  pub records : core.layout.records ≡ layout.records
  pub site : core.site ≡ i

placed_by : (layout : LayoutState) (i n : ℕ) (a : Account) (core : Core) → a.origin ≡ start_origin (at_sites n layout) i → Stands a core → IsPlaced layout i core
placed_by layout i n a core origin stands = record {
  account = a;
  stands = stands;
  records = ap (λ (l : LayoutState). l.records) stands.shows.layout ∙ ap (λ (o : Origin). o.layout.records) origin;
  site = stands.shows.site ∙ ap (λ (o : Origin). o.site) origin;
}

placed_before : (layout : LayoutState) (i n : ℕ) (a : Account) (rest : List Run) (core : Core) → a.origin ≡ start_origin (at_sites n layout) i → IsBefore layout i a rest core → IsPlaced layout i core
placed_before layout i n a [] core origin before = placed_by layout i n a core origin before
placed_before layout i n a (run ∷ later) core origin before = placed_by layout i n (started a run) core origin before.1

pub start_on_path : (layout : LayoutState) (i : ℕ) (runs : List Run) (cut : ℕ) (core : Core) → IsBefore layout i (start_account layout i runs) runs core → IsOnPath layout i runs cut runs core [] 0 cut None
start_on_path layout i runs cut core before = record { account = start_account layout i runs; origin = refl; path = (refl, refl, refl); before = before; marked = refl }

module _ (layout : LayoutState) (i : ℕ) (runs : List Run) (cut : ℕ) (rest : List Run) (core : Core) (kept : List Bool) (at left : ℕ) (own : Option (List Row)) (on : IsOnPath layout i runs cut rest core kept at left own) where
  pub placed : IsPlaced layout i core
  placed = placed_before layout i (first_sites layout runs) on.account rest core on.origin on.before

  module _ (run : Run) (later : List Run) (split : rest ≡ run ∷ later) where
    before_it : IsBefore layout i on.account (run ∷ later) core
    before_it = subst (λ (rs : List Run). IsBefore layout i on.account rs core) split on.before

    path_to : IsPath layout i (start_account layout i runs) runs kept at on.account (run ∷ later)
    path_to = subst (IsPath layout i (start_account layout i runs) runs kept at on.account) split on.path

    ended : (end : RunEnd) → ((a : Account) → Stands (started a run) core → IsRunEnd layout core.site a run later end) → IsRunEnd layout i on.account run later end
    ended end ends = subst (λ (s : ℕ). IsRunEnd layout s on.account run later end) placed.site (ends on.account before_it.1)

    pub passed : (next : Core) (flag : Bool) (left2 : ℕ) (own2 : Option (List Row)) → ((a : Account) → Stands (started a run) core → IsRunEnd layout core.site a run later (Passed next flag))
        → ((a target : Account) → Stands (started a run) core → IsMarked (length layout.records) target a (run ∷ later) left own → IsMarked (length layout.records) target (after_run a run later) later left2 own2)
        → IsOnPath layout i runs cut later next (kept ++ flag ∷ []) (at + length run.entries) left2 own2
    passed next flag left2 own2 ends marks =
        let end = ended (Passed next flag) ends in
        record {
          account = after_run on.account run later;
          origin = after_run_origin on.account run later ∙ on.origin;
          path = path_more layout i (start_account layout i runs) runs kept at on.account run later flag path_to before_it.0 end.0 end.1;
          before = end.2;
          marked = marks on.account (account_at (start_account layout i runs) cut runs) before_it.1
              (subst (λ (rs : List Run). IsMarked (length layout.records) (account_at (start_account layout i runs) cut runs) on.account rs left own) split on.marked);
        }

    pub no_joint : ((a : Account) → Stands (started a run) core → IsRunEnd layout core.site a run later NoJoint) → IsBadJoint layout i (start_account layout i runs) runs
    no_joint ends =
        let end = ended NoJoint ends in
        path_joint layout i (start_account layout i runs) runs kept at on.account (run ∷ later) path_to (joint_behind layout i on.account run later before_it.0 end.0 end.1)

    pub no_reply : (n k : ℕ) → k ≡ at + n → ((a : Account) → Stands (started a run) core → IsRunEnd layout core.site a run later (NoReply n)) → IsBadReply layout i (start_account layout i runs) runs k
    no_reply n k sum ends =
        path_reply layout i (start_account layout i runs) runs kept at on.account (run ∷ later) n k sum path_to (before_it.0, inl (ended (NoReply n) ends))

  -- no run is left
  pub at_end : rest ≡ [] → AreLegal layout i (start_account layout i runs) runs × (kept ≡ flags_of (start_account layout i runs) runs)
  at_end none = path_legal layout i (start_account layout i runs) runs kept at on.account (subst (IsPath layout i (start_account layout i runs) runs kept at on.account) none on.path)

  pub own_at : rest ≡ [] → (rows : List Row) → ((a target : Account) → Stands a core → IsMarked (length core.layout.records) target a [] left own → TellsOwn (length core.layout.records) rows target) → TellsOwn (length layout.records) rows (account_at (start_account layout i runs) cut runs)
  own_at none rows tells =
      let target = account_at (start_account layout i runs) cut runs in
      let here : Stands on.account core = subst (λ (rs : List Run). IsBefore layout i on.account rs core) none on.before in
      let marked : IsMarked (length layout.records) target on.account [] left own = subst (λ (rs : List Run). IsMarked (length layout.records) target on.account rs left own) none on.marked in
      let number : length core.layout.records ≡ length layout.records = ap (λ (records : List _). length records) placed.records in
      subst (λ (n : ℕ). TellsOwn n rows target) number
      (tells on.account target here (subst (λ (n : ℕ). IsMarked n target on.account [] left own) (sym number) marked))
