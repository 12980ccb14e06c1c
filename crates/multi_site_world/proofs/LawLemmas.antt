-- The laws of a world, from what every event keeps.
use Rattle.std.proofs.Common.{inl, inr, ◌≡◌, ◌≢◌, ℕ, ◌<◌, ◌≤◌, ◌⊎◌, true, false, ltb, List, [], ◌∷◌, length, get_or, Option, Some, None, is_some, refl, sym, ap, subst, ◌∙◌, arith}
use Rattle.std.specs.Prelude.{slice_get, unwrap_or}
use Rattle.std.specs.List.{AllByRecursion}
use Rattle.std.proofs.lemmas.Bool.{cases_Bool, cond_both, cond-true, lt-ltb}
use Rattle.std.proofs.lemmas.Option.{slice_get-get_or}
use Rattle.merge_core.specs.declared.cell.Cell.{Cell}
use Rattle.merge_core.specs.declared.cell.Cell.TheVariants.{Ann, Fin}
use Rattle.merge_core.specs.declared.delta.Row.{Row}
use Rattle.merge_core.specs.Delta.{DeltaState}
use Rattle.merge_core.specs.Layout.{LayoutState, IsLayout, Shape, shape_of}
use Rattle.merge_core.specs.Moved.{raised_by}
use Rattle.merge_core.specs.Tests.{is_placed, is_valid, first_failing}
use Rattle.admission_model.specs.declared.ask.Ask.TheVariants.{Read}
use Rattle.admission_model.specs.declared.ask.Call.TheVariants.{Ask as AskCall, Merge}
use Rattle.admission_model.specs.declared.reply.Refusal.TheVariants.{WriterAnnounced, OtherLayout, BadRow, OwnRowAhead}
use Rattle.admission_model.specs.declared.reply.Reply.{Reply}
use Rattle.admission_model.specs.declared.reply.Reply.TheVariants.{Admitted, Refused}
use Rattle.admission_model.specs.Account.{Account, layout_of, seats_in}
use Rattle.admission_model.specs.Knowledge.{known}
use Rattle.admission_model.specs.View.{problem_in, view_of}
use Rattle.admission_model.specs.Merging.{first_ahead}
use Rattle.admission_model.specs.Replies.{line}
use Rattle.admission_model.specs.Serving.{reason, replied, reply_of, answer}
use Rattle.admission_model.specs.Laws.{SourcesAgree, MayAsk, IsFirstUnfinished}
use Rattle.admission_model.proofs.RowLemmas.{AllPass, AllPass-from, none_of, placed_parts}
use Rattle.admission_model.proofs.UnitLemmas.{equal_counters}
use Rattle.admission_model.proofs.NoticeLemmas.{none_admitted}
use Rattle.admission_model.proofs.ReaderLemmas.{reason_behind, reader_held}
use Rattle.multi_site_world.specs.declared.event.Event.{Event}
use Rattle.multi_site_world.specs.declared.event.Event.TheVariants.{Call, Send, Take, Thin, Restart, Grow}
use Rattle.multi_site_world.specs.declared.event.WorldReply.{WorldReply}
use Rattle.multi_site_world.specs.declared.event.WorldReply.TheVariants.{Core, NoSite}
use Rattle.multi_site_world.specs.World.{World, account_at, world_taken, thin, thin_message, world_here, reply_taken, reply_here, place_of, happens, world_reply, run}
use Rattle.multi_site_world.specs.Laws.{IsConserved, IsWriterAlone, IsMergedReply, IsOtherLayoutReply, KnowsAllSites, IsReachedWorld, StandsIn, WasSent, AreLogged, IsConsistentCut, all_inside}
use Rattle.multi_site_world.proofs.FamilyLemmas.{IsSentBefore, conserved, writer_alone, inside_most, logged_family, consistent_cut}
use Rattle.multi_site_world.proofs.WorldLemmas.{IsSentRow, AreSentRows, IsSoundWorld, IsMessage, rows_accepted, all_narrow}
use Rattle.multi_site_world.proofs.EventLemmas.{known_done, message_there, thin_sent, sound_reached}

taken_layout : (w : World) (i : ℕ) (o : Option DeltaState) → (world_taken w i o).layout ≡ w.layout
taken_layout w i None = refl
taken_layout w i (Some delta) = refl

here_layout : (w : World) (event : Event) → (world_here w event).layout ≡ w.layout
here_layout w (Call i ask) = refl
here_layout w (Send i) = refl
here_layout w (Take i k) = taken_layout w i (slice_get w.sent k)
here_layout w (Thin i k l) = taken_layout w i (thin_message (slice_get w.sent k) (slice_get w.sent l))
here_layout w (Restart i) = refl
here_layout w (Grow i) =
    cond_both (ltb (account_at w i).sites w.layout.sites) _ w (λ v. v.layout ≡ w.layout) (λ e. refl) (λ e. refl)

pub run_layout : (events : List Event) (w : World) → (run events w).layout ≡ w.layout
run_layout [] w = refl
run_layout (event ∷ events) w =
    run_layout events (happens w event)
    ∙ cond_both (ltb (place_of event) (length w.sites)) (world_here w event) w (λ v. v.layout ≡ w.layout) (λ e. here_layout w event) (λ e. refl)

-- in a sound world nothing is known to have been sent that was not
pub sent_before : (w : World) (r : ℕ) → IsSoundWorld w → IsSentBefore w.layout (account_at w) r
sent_before w r sound i j below there apart = known_done w i j sound below there r _

pub conservation : (w : World) → IsReachedWorld w → (r : ℕ) → IsConserved w r
conservation w is r =
    let sound = sound_reached w is in
    record {
      seats = conserved w.layout (account_at w) r sound.layout sound.family (sent_before w r sound);
      never_below = λ i below. ((sound.family.sound i below).balanced r).affordable;
    }

pub exclusion : (w : World) → IsReachedWorld w → (r : ℕ) → IsWriterAlone (account_at w) w.layout.sites r
exclusion w is r =
    let sound = sound_reached w is in
    writer_alone w.layout (account_at w) r sound.layout sound.family (sent_before w r sound)

-- an event at a site that there is
pub reply_there : (w : World) (event : Event) → IsSoundWorld w → place_of event < w.layout.sites → world_reply w event ≡ reply_here w event
reply_there w event sound below =
    cond-true (ltb (place_of event) (length w.sites)) (reply_here w event) NoSite (lt-ltb (place_of event) (length w.sites) (omega (arith, sound.number)))

-- the answer to a delta that nothing refuses
merged_if : (w : World) (i : ℕ) (delta : DeltaState) → reason (view_of (account_at w i)) (Merge delta) ≡ None → IsMergedReply (Core (reply_of (view_of (account_at w i)) (Merge delta)))
merged_if w i delta accepted = (
  raised_by (shape_of (layout_of (account_at w i))) (known (account_at w i)) delta.rows,
  ap (λ o. Core (replied o (answer (view_of (account_at w i)) (Merge delta)))) accepted,
)

-- placed rows are narrow
narrow_of : (shape : Shape) (rows : List Row) → AllPass (is_placed shape) rows → AllByRecursion (λ p. length p.out ≤ shape.sites) rows
narrow_of shape [] all = tt
narrow_of shape (p ∷ ps) all = ((placed_parts shape p all.0).1.1, narrow_of shape ps all.1)

-- a delta of sent rows is merged, or tells of a site that the account does not know
pub merged_or_other : (w : World) (i : ℕ) (delta : DeltaState) → IsSoundWorld w → i < w.layout.sites → AreSentRows w.layout (account_at w) delta.rows → IsMergedReply (Core (reply_of (view_of (account_at w i)) (Merge delta))) ⊎ IsOtherLayoutReply (Core (reply_of (view_of (account_at w i)) (Merge delta)))
merged_or_other w i delta sound below sent = at (cases_Bool (is_some misplaced))
  where
    shape : Shape
    shape = shape_of (layout_of (account_at w i))

    misplaced : Option ℕ
    misplaced = first_failing (is_placed (shape_of (layout_of (account_at w i)))) delta.rows

    at : (is_some misplaced ≡ true) ⊎ (is_some misplaced ≡ false) → IsMergedReply (Core (reply_of (view_of (account_at w i)) (Merge delta))) ⊎ IsOtherLayoutReply (Core (reply_of (view_of (account_at w i)) (Merge delta)))
    at (inl other) =
        let v = view_of (account_at w i) in
        let invalid = first_failing (is_valid (shape_of v.layout)) delta.rows in
        inr (
          unwrap_or (first_failing (is_placed (shape_of v.layout)) delta.rows) 0,
          ap (λ o. Core (replied o (answer v (Merge delta))))
              (reason_behind [] (line (is_some misplaced) (OtherLayout (unwrap_or misplaced 0))) (line (is_some invalid) (BadRow (unwrap_or invalid 0)) ∷ line (is_some (first_ahead v delta.rows)) (OwnRowAhead (unwrap_or (first_ahead v delta.rows) 0)) ∷ []) tt other),
        )
    at (inr none) =
        inl (merged_if w i delta
        (rows_accepted w i delta sound below sent (narrow_of shape delta.rows (AllPass-from (is_placed shape) delta.rows (none_of misplaced none)))))

-- where a site knows all sites, every delta of sent rows is merged
pub merged_rows : (w : World) (i : ℕ) (delta : DeltaState) → IsSoundWorld w → i < w.layout.sites → (account_at w i).sites ≡ w.layout.sites → AreSentRows w.layout (account_at w) delta.rows → IsMergedReply (Core (reply_of (view_of (account_at w i)) (Merge delta)))
merged_rows w i delta sound below all sent =
    merged_if w i delta (rows_accepted w i delta sound below sent (all_narrow w i delta.rows all sent))

-- a message that is there
message_is : (w : World) (k : ℕ) → k < length w.sent → (delta : DeltaState) × (slice_get w.sent k ≡ Some delta)
message_is w k there = let d : DeltaState = record { from = 0; rows = [] } in (get_or w.sent k d, slice_get-get_or w.sent k d there)

taken_is : (w : World) (i k : ℕ) (sound : IsSoundWorld w) → i < w.layout.sites → (delta : DeltaState) → slice_get w.sent k ≡ Some delta → world_reply w (Take i k) ≡ Core (reply_of (view_of (account_at w i)) (Merge delta))
taken_is w i k sound below delta e = reply_there w (Take i k) sound below ∙ ap (reply_taken w i) e

thin_is : (w : World) (i k l : ℕ) (sound : IsSoundWorld w) → i < w.layout.sites → (delta earlier : DeltaState) → slice_get w.sent k ≡ Some delta → slice_get w.sent l ≡ Some earlier → world_reply w (Thin i k l) ≡ Core (reply_of (view_of (account_at w i)) (Merge (thin delta earlier)))
thin_is w i k l sound below delta earlier e f =
    reply_there w (Thin i k l) sound below
    ∙ (ap (λ o. reply_taken w i (thin_message o (slice_get w.sent l))) e ∙ ap (λ o. reply_taken w i (thin_message (Some delta) o)) f)

thin_rows_sent : (w : World) (k : ℕ) (delta earlier : DeltaState) → IsSoundWorld w → slice_get w.sent k ≡ Some delta → AreSentRows w.layout (account_at w) (thin delta earlier).rows
thin_rows_sent w k delta earlier sound e =
    thin_sent w (slice_get w.sent k) (Some earlier) (λ d f. (message_there w k d sound f).rows) (thin delta earlier) (ap (λ o. thin_message o (Some earlier)) e)

pub merged : (w : World) (i k : ℕ) → IsSoundWorld w → i < w.layout.sites → (account_at w i).sites ≡ w.layout.sites → k < length w.sent → IsMergedReply (world_reply w (Take i k))
merged w i k sound below all there =
    let it = message_is w k there in
    subst IsMergedReply (sym (taken_is w i k sound below it.0 it.1)) (merged_rows w i it.0 sound below all (message_there w k it.0 sound it.1).rows)

pub message_merged : (w : World) → IsReachedWorld w → (i k : ℕ) → KnowsAllSites w i → k < length w.sent → IsMergedReply (world_reply w (Take i k))
message_merged w is i k knows there = merged w i k (sound_reached w is) knows.there knows.all there

pub thin_merged : (w : World) → IsReachedWorld w → (i k l : ℕ) → KnowsAllSites w i → k < length w.sent → l < length w.sent → IsMergedReply (world_reply w (Thin i k l))
thin_merged w is i k l knows there earlier =
    let sound = sound_reached w is in
    let it = message_is w k there in
    let before = message_is w l earlier in
    subst IsMergedReply (sym (thin_is w i k l sound knows.there it.0 before.0 it.1 before.1))
    (merged_rows w i (thin it.0 before.0) sound knows.there knows.all (thin_rows_sent w k it.0 before.0 sound it.1))

pub message_answered : (w : World) → IsReachedWorld w → (i k : ℕ) → i < w.layout.sites → k < length w.sent → IsMergedReply (world_reply w (Take i k)) ⊎ IsOtherLayoutReply (world_reply w (Take i k))
message_answered w is i k below there =
    let sound = sound_reached w is in
    let it = message_is w k there in
    subst (λ (reply : WorldReply). IsMergedReply reply ⊎ IsOtherLayoutReply reply) (sym (taken_is w i k sound below it.0 it.1))
    (merged_or_other w i it.0 sound below (message_there w k it.0 sound it.1).rows)

pub thin_answered : (w : World) → IsReachedWorld w → (i k l : ℕ) → i < w.layout.sites → k < length w.sent → l < length w.sent → IsMergedReply (world_reply w (Thin i k l)) ⊎ IsOtherLayoutReply (world_reply w (Thin i k l))
thin_answered w is i k l below there earlier =
    let sound = sound_reached w is in
    let it = message_is w k there in
    let before = message_is w l earlier in
    subst (λ (reply : WorldReply). IsMergedReply reply ⊎ IsOtherLayoutReply reply) (sym (thin_is w i k l sound below it.0 before.0 it.1 before.1))
    (merged_or_other w i (thin it.0 before.0) sound below (thin_rows_sent w k it.0 before.0 sound it.1))

standing : (P : Row → Type 0) (p : Row) (rows : List Row) → AllByRecursion P rows → StandsIn p rows → P p
standing P p [] all out = elim out [ ]
standing P p (q ∷ qs) all (inl e) = subst P (sym e) all.0
standing P p (q ∷ qs) all (inr later) = standing P p qs all.1 later

was_sent : (w : World) (sent : List DeltaState) → AllByRecursion (IsMessage w.layout (account_at w)) sent → (p : Row) → WasSent sent p → IsSentRow w.layout (account_at w) p
was_sent w [] all p out = elim out [ ]
was_sent w (d ∷ ds) all p (inl here) = standing (IsSentRow w.layout (account_at w)) p d.rows all.0.rows here
was_sent w (d ∷ ds) all p (inr later) = was_sent w ds all.1 p later

all_sent : (w : World) → IsSoundWorld w → (rows : List Row) → AllByRecursion (WasSent w.sent) rows → AreSentRows w.layout (account_at w) rows
all_sent w sound [] each = tt
all_sent w sound (p ∷ ps) each = (was_sent w w.sent sound.sent p each.0, all_sent w sound ps each.1)

pub rows_merged : (w : World) → IsReachedWorld w → (i : ℕ) (delta : DeltaState) → KnowsAllSites w i → AllByRecursion (WasSent w.sent) delta.rows → IsMergedReply (Core (reply_of (view_of (account_at w i)) (Merge delta)))
rows_merged w is i delta knows each =
    let sound = sound_reached w is in merged_rows w i delta sound knows.there knows.all (all_sent w sound delta.rows each)

pub rows_answered : (w : World) → IsReachedWorld w → (i : ℕ) (delta : DeltaState) → i < w.layout.sites → AllByRecursion (WasSent w.sent) delta.rows → IsMergedReply (Core (reply_of (view_of (account_at w i)) (Merge delta))) ⊎ IsOtherLayoutReply (Core (reply_of (view_of (account_at w i)) (Merge delta)))
rows_answered w is i delta below each =
    let sound = sound_reached w is in merged_or_other w i delta sound below (all_sent w sound delta.rows each)

pub separate_seats : (layout : LayoutState) → IsLayout layout → (accounts : ℕ → Account) → AreLogged layout accounts → IsConsistentCut layout accounts → (r : ℕ) → all_inside accounts layout.sites r ≤ seats_in layout r
separate_seats layout is accounts logged cut r =
    inside_most layout accounts r is (logged_family layout accounts logged) (consistent_cut layout accounts logged cut r)

pub separate_writer : (layout : LayoutState) → IsLayout layout → (accounts : ℕ → Account) → AreLogged layout accounts → IsConsistentCut layout accounts → (r : ℕ) → IsWriterAlone accounts layout.sites r
separate_writer layout is accounts logged cut r =
    writer_alone layout accounts r is (logged_family layout accounts logged) (consistent_cut layout accounts logged cut r)

pub equal_books : (w : World) → IsReachedWorld w → (i j : ℕ) → i < w.layout.sites → j < w.layout.sites → SourcesAgree (account_at w i) (account_at w j) → (r s : ℕ) (cell : Cell) → known (account_at w i) r s cell ≡ known (account_at w j) r s cell
equal_books w is i j below there same =
    let sound = sound_reached w is in
    equal_counters (account_at w i) (account_at w j) (sound.family.sound i below) (sound.family.sound j there) same

-- the problem of a record, as each site reads it
pub problem_here : (w : World) (i r : ℕ) → IsSoundWorld w → i < w.layout.sites → problem_in (account_at w i).origin.layout r ≡ problem_in w.layout r
problem_here w i r sound below = ap (λ records. problem_in (record { sites = 0; records = records }) r) (sound.family.same_records i below)

pub none_read : (w : World) → IsReachedWorld w → (i r h s : ℕ) → i < w.layout.sites → problem_in w.layout r ≡ 2 → known (account_at w i) r s Fin < known (account_at w i) r s Ann → world_reply w (Call i (Read r h)) ≢ Core Admitted
none_read w is i r h s below second unfinished e =
    let sound = sound_reached w is in
    let a = account_at w i in
    none_admitted a r h s (sound.family.sound i below) (problem_here w i r sound below ∙ second) unfinished
    (same_core (reply_of (view_of a) (AskCall (Read r h))) Admitted (sym (reply_there w (Call i (Read r h)) sound below) ∙ e))
  where
    same_core : (x y : Reply) → ◌≡◌ {A = WorldReply} (Core x) (Core y) → x ≡ y
    same_core x y same = cc

pub writer_first : (w : World) → IsReachedWorld w → (i r h s : ℕ) → i < w.layout.sites → problem_in w.layout r ≡ 2 → MayAsk (view_of (account_at w i)) r h → IsFirstUnfinished (view_of (account_at w i)) r s → world_reply w (Call i (Read r h)) ≡ Core (Refused (WriterAnnounced s))
writer_first w is i r h s below second may first =
    let sound = sound_reached w is in
    let a = account_at w i in
    reply_there w (Call i (Read r h)) sound below
    ∙ ap {B = WorldReply} Core (reader_held (view_of a) r h s (problem_here w i r sound below ∙ second) may first)
