-- A message that was taken once is one against which thin ones are well told ever after.
use Rattle.std.proofs.Common.{◌≡◌, ℕ, zero, suc, ◌<◌, ◌≤◌, ◌⊎◌, inl, inr, true, false, ◌&&◌, eqb, ltb, List, [], ◌∷◌, ◌++◌, length, Option, Some, None, refl, sym, ap, subst, ◌∙◌, arith}
use Rattle.std.specs.Prelude.{slice_get}
use Rattle.std.specs.List.{AllByRecursion}
use Rattle.std.proofs.lemmas.Option.{same_Some}
use Rattle.std.proofs.lemmas.Bool.{cases_Bool, cond_both, eq-eqb, and_from, cond-true, cond-false}
use Rattle.merge_core.specs.declared.cell.Cell.TheVariants.{Fin}
use Rattle.merge_core.specs.declared.delta.Row.{Row}
use Rattle.merge_core.specs.Delta.{DeltaState}
use Rattle.merge_core.specs.Layout.{Shape, shape_of}
use Rattle.merge_core.specs.Naming.{shown_by}
use Rattle.merge_core.specs.Thin.{thin_rows}
use Rattle.admission_model.specs.declared.ask.Call.TheVariants.{Merge}
use Rattle.admission_model.specs.declared.reply.Refusal.{Refusal}
use Rattle.admission_model.specs.declared.reply.Reply.TheVariants.{Merged, Refused}
use Rattle.admission_model.specs.Account.{Account}
use Rattle.admission_model.specs.Knowledge.{known, hears, grown}
use Rattle.admission_model.specs.View.{view_of}
use Rattle.admission_model.specs.Merging.{snapshot_of}
use Rattle.admission_model.specs.Serving.{reason, reply_of, replied, answer, unless_refused, after}
use Rattle.admission_model.proofs.SnapshotLemmas.{matches}
use Rattle.multi_site_world.specs.declared.event.Event.{Event}
use Rattle.multi_site_world.specs.declared.event.Event.TheVariants.{Call, Send, Take, Thin, Restart, Grow}
use Rattle.multi_site_world.specs.declared.event.WorldReply.{WorldReply}
use Rattle.multi_site_world.specs.declared.event.WorldReply.TheVariants.{Core, NoMessage}
use Rattle.multi_site_world.specs.World.{World, account_at, with_account, world_taken, reply_taken, thin, thin_message, world_here, place_of, happens, world_reply, run}
use Rattle.multi_site_world.specs.Laws.{IsMergedReply}
use Rattle.rebuild_laws.specs.Groups.{IsRebuiltWorld}
use Rattle.multi_site_world.proofs.WorldLemmas.{IsSoundWorld, same_account}
use Rattle.multi_site_world.proofs.EventLemmas.{message_there}
use Rattle.rebuild_laws.proofs.RebuildLaw.{sound_rebuilt_world}
use Rattle.multi_site_world.proofs.LawLemmas.{reply_there}
use Rattle.multi_site_world.proofs.StepLaws.{finished_stays}
use Rattle.fencing_laws.specs.Fences.{KnowsFinished, IsWellTold}
use Rattle.fencing_laws.proofs.FenceLemmas.{happens_here, whole_covers, thin_covers}

-- a row of a list in which no two are of one record and site stands there, and is shown
IsShown : Shape → List Row → Row → Type 0
IsShown shape rows p = (1 ≤ matches p.r p.s rows) × (p.fin ≤ shown_by shape rows p.r p.s Fin)

shown_still : (shape : Shape) (q : Row) (qs ps : List Row) → ((r s : ℕ) → matches r s (q ∷ qs) ≤ 1) → AllByRecursion (IsShown shape qs) ps → AllByRecursion (IsShown shape (q ∷ qs)) ps
unfolding matches IsShown
shown_still shape q qs [] apart all = tt
shown_still shape q qs (p ∷ ps) apart all = (at (cases_Bool (eqb q.r p.r && eqb q.s p.s)), shown_still shape q qs ps apart all.1)
  where
    at : ((eqb q.r p.r && eqb q.s p.s) ≡ true) ⊎ ((eqb q.r p.r && eqb q.s p.s) ≡ false) → (1 ≤ matches p.r p.s (q ∷ qs)) × (p.fin ≤ shown_by shape (q ∷ qs) p.r p.s Fin)
    at (inl e) = absurd (omega (arith, apart p.r p.s, all.0.0, cond-true {A = ℕ} (eqb q.r p.r && eqb q.s p.s) 1 0 e))
    at (inr e) =
        (omega (arith, all.0.0), omega (arith, all.0.1, cond-false (eqb q.r p.r && eqb q.s p.s) q.fin (shown_by shape qs p.r p.s Fin) e))

all_shown : (shape : Shape) (rows : List Row) → ((r s : ℕ) → matches r s rows ≤ 1) → AllByRecursion (IsShown shape rows) rows
unfolding matches IsShown
all_shown shape [] apart = tt
all_shown shape (q ∷ qs) apart =
    let here = and_from (eqb q.r q.r) (eqb q.s q.s) (eq-eqb q.r q.r refl) (eq-eqb q.s q.s refl) in (
      (omega (arith, cond-true {A = ℕ} (eqb q.r q.r && eqb q.s q.s) 1 0 here), omega (arith, cond-true (eqb q.r q.r && eqb q.s q.s) q.fin (shown_by shape qs q.r q.s Fin) here)),
      shown_still shape q qs qs apart (all_shown shape qs (λ r s. omega (arith, apart r s))),
    )

-- a site that knows what a message shows of finished writers knows them of its rows
knows_rows : (shape : Shape) (a : Account) (rows ps : List Row) → AllByRecursion (IsShown shape rows) ps → ((r s : ℕ) → shown_by shape rows r s Fin ≤ known a r s Fin) → KnowsFinished a ps
unfolding IsShown
knows_rows shape a rows [] all covers = tt
knows_rows shape a rows (p ∷ ps) all covers = (omega (arith, all.0.1, covers p.r p.s), knows_rows shape a rows ps all.1 covers)

knows_still : (w : World) (event : Event) (i : ℕ) (rows : List Row) → KnowsFinished (account_at w i) rows → KnowsFinished (account_at (happens w event) i) rows
knows_still w event i [] all = tt
knows_still w event i (p ∷ ps) all = (omega (arith, all.0, finished_stays w event i p.r p.s), knows_still w event i ps all.1)

-- messages stay
get_pushed : (xs : List DeltaState) (d e : DeltaState) (l : ℕ) → slice_get xs l ≡ Some d → slice_get (xs ++ e ∷ []) l ≡ Some d
get_pushed [] d e l there = cc
get_pushed (x ∷ xs) d e zero there = there
get_pushed (x ∷ xs) d e (suc l) there = get_pushed xs d e l there

taken_sent : (w : World) (i : ℕ) (o : Option DeltaState) → (world_taken w i o).sent ≡ w.sent
taken_sent w i None = refl
taken_sent w i (Some delta) = refl

message_stays : (w : World) (event : Event) (l : ℕ) (d : DeltaState) → slice_get w.sent l ≡ Some d → slice_get (happens w event).sent l ≡ Some d
message_stays w event l d there =
    cond_both (ltb (place_of event) (length w.sites)) (world_here w event) w (λ u. slice_get u.sent l ≡ Some d) (λ e. here event) (λ e. there)
  where
    here : (event : Event) → slice_get (world_here w event).sent l ≡ Some d
    here (Call i ask) = there
    here (Send i) = get_pushed w.sent d (snapshot_of (view_of (account_at w i))) l there
    here (Take i k) = ap (λ ds. slice_get ds l) (taken_sent w i (slice_get w.sent k)) ∙ there
    here (Thin i k m) = ap (λ ds. slice_get ds l) (taken_sent w i (thin_message (slice_get w.sent k) (slice_get w.sent m))) ∙ there
    here (Restart i) = there
    here (Grow i) =
        cond_both (ltb (account_at w i).sites w.layout.sites) (with_account w i (grown w.layout.sites (account_at w i))) w (λ u. slice_get u.sent l ≡ Some d) (λ e. there) (λ e. there)

well_run : (events : List Event) (w : World) (i k l : ℕ) (d : DeltaState) → slice_get w.sent l ≡ Some d → KnowsFinished (account_at w i) d.rows → IsWellTold (run events w) (Thin i k l)
well_run [] w i k l d there knows = λ earlier e. subst (λ (x : DeltaState). KnowsFinished (account_at w i) x.rows) (same_Some d earlier (sym there ∙ e)) knows
well_run (event ∷ events) w i k l d there knows =
    well_run events (happens w event) i k l d (message_stays w event l d there) (knows_still w event i d.rows knows)

-- what is merged is heard
merged_hears : (a : Account) (delta : DeltaState) → IsMergedReply (Core (reply_of (view_of a) (Merge delta))) → after a (Merge delta) ≡ hears a delta.rows
merged_hears a delta merged = at (reason (view_of a) (Merge delta)) refl
  where
    at : (o : Option Refusal) → reason (view_of a) (Merge delta) ≡ o → after a (Merge delta) ≡ hears a delta.rows
    at None e = ap (λ o. unless_refused o a (hears a delta.rows)) e
    at (Some refusal) e =
        let refused : ◌≡◌ {A = WorldReply} (Core (Refused refusal)) (Core (Merged merged.0)) =
        sym (ap (λ o. Core (replied o (answer (view_of a) (Merge delta)))) e) ∙ merged.1 in cc

pub well_told_whole : (w : World) → IsRebuiltWorld w → (i k l : ℕ) → i < w.layout.sites → IsMergedReply (world_reply w (Take i l)) → (events : List Event) → IsWellTold (run events (happens w (Take i l))) (Thin i k l)
well_told_whole w reached i k l below merged events =
    at (slice_get w.sent l) refl (subst IsMergedReply (reply_there w (Take i l) sound below) merged)
  where
    sound : IsSoundWorld w
    sound = sound_rebuilt_world w reached

    at : (o : Option DeltaState) → slice_get w.sent l ≡ o → IsMergedReply (reply_taken w i o) → IsWellTold (run events (happens w (Take i l))) (Thin i k l)
    at None e reply = let gone : ◌≡◌ {A = WorldReply} NoMessage (Core (Merged reply.0)) = reply.1 in cc
    at (Some delta) e reply =
        let a = account_at w i in
        let message = message_there w l delta sound e in
        let now : happens w (Take i l) ≡ with_account w i (hears a delta.rows) =
        happens_here w (Take i l) sound below ∙ (ap (world_taken w i) e ∙ ap (with_account w i) (merged_hears a delta reply)) in
        let account : account_at (happens w (Take i l)) i ≡ hears a delta.rows = ap (λ u. account_at u i) now ∙ same_account w i (hears a delta.rows) (omega (arith, sound.number, below)) in
        well_run events (happens w (Take i l)) i k l delta (message_stays w (Take i l) l delta e)
        (subst (λ (b : Account). KnowsFinished b delta.rows) (sym account)
        (knows_rows (shape_of w.layout) (hears a delta.rows) delta.rows delta.rows (all_shown (shape_of w.layout) delta.rows message.apart) (λ r s. whole_covers w i r delta.rows sound below message.rows s)))

pub well_told_thin : (w : World) → IsRebuiltWorld w → (i k l m : ℕ) → i < w.layout.sites → IsWellTold w (Thin i l m) → IsMergedReply (world_reply w (Thin i l m)) → (events : List Event) → IsWellTold (run events (happens w (Thin i l m))) (Thin i k l)
well_told_thin w reached i k l m below well merged events =
    at (slice_get w.sent l) (slice_get w.sent m) refl refl (subst IsMergedReply (reply_there w (Thin i l m) sound below) merged)
  where
    sound : IsSoundWorld w
    sound = sound_rebuilt_world w reached

    at : (o p : Option DeltaState) → slice_get w.sent l ≡ o → slice_get w.sent m ≡ p → IsMergedReply (reply_taken w i (thin_message o p)) → IsWellTold (run events (happens w (Thin i l m))) (Thin i k l)
    at None None e d reply = let gone : ◌≡◌ {A = WorldReply} NoMessage (Core (Merged reply.0)) = reply.1 in cc
    at None (Some earlier) e d reply = let gone : ◌≡◌ {A = WorldReply} NoMessage (Core (Merged reply.0)) = reply.1 in cc
    at (Some delta) None e d reply = let gone : ◌≡◌ {A = WorldReply} NoMessage (Core (Merged reply.0)) = reply.1 in cc
    at (Some delta) (Some earlier) e d reply =
        let a = account_at w i in
        let few = thin_rows delta.rows earlier.rows in
        let message = message_there w l delta sound e in
        let now : happens w (Thin i l m) ≡ with_account w i (hears a few) =
        happens_here w (Thin i l m) sound below ∙ (ap (λ o. world_taken w i (thin_message o (slice_get w.sent m))) e ∙ (ap (λ o. world_taken w i (thin_message (Some delta) o)) d ∙ ap (with_account w i) (merged_hears a (thin delta earlier) reply))) in
        let account : account_at (happens w (Thin i l m)) i ≡ hears a few = ap (λ u. account_at u i) now ∙ same_account w i (hears a few) (omega (arith, sound.number, below)) in
        well_run events (happens w (Thin i l m)) i k l delta (message_stays w (Thin i l m) l delta e)
        (subst (λ (b : Account). KnowsFinished b delta.rows) (sym account)
        (knows_rows (shape_of w.layout) (hears a few) delta.rows delta.rows (all_shown (shape_of w.layout) delta.rows message.apart) (λ r s. thin_covers w i r delta.rows earlier.rows sound below message.rows (well earlier d) s)))
