-- Worlds that meet the premises of the law, so that it does not speak of nothing, and one that may not.
use Rattle.std.specs.Prelude.{◌==◌, ◌||◌, ◌&&◌, List, [], ◌∷◌, if◌then◌else◌}
use Rattle.merge_core.specs.Delta.{DeltaState}
use Rattle.admission_model.specs.declared.ask.Ask.TheVariants.{Read, Announce, Quill, Give}
use Rattle.admission_model.specs.declared.reply.Refusal.TheVariants.{WriterAnnounced}
use Rattle.admission_model.specs.declared.reply.Reply.TheVariants.{Admitted, Announced, Merged, Refused}
use Rattle.admission_model.specs.View.{view_of}
use Rattle.admission_model.specs.Merging.{snapshot_of}
use Rattle.multi_site_world.specs.declared.event.Event.TheVariants.{Call, Send, Take}
use Rattle.multi_site_world.specs.declared.event.WorldReply.{WorldReply}
use Rattle.multi_site_world.specs.declared.event.WorldReply.TheVariants.{Core, Sent}
use Rattle.multi_site_world.specs.World.{World, account_at, start_world, run}
use Rattle.multi_site_world.specs.Instances.{three_sites, third_message}
use Rattle.rebuild_laws.specs.Groups.{Losing, lost_alone, Loss, new_group}

-- site 1 loses its store while its writer has all seats; the two others send, and it begins again and writes
abbrev pub site_1_lost : Loss
site_1_lost = record {
  lost = lost_alone 1;
  sites = 3;
  stages = record { waiting = Send 0 ∷ (Send 2 ∷ []); lost = 1; told = third_message ∷ (record { from = 2; rows = [] } ∷ []) } ∷ [];
  events = Call 1 (Announce 0 9) ∷ (Call 1 (Quill 0 9) ∷ (Send 1 ∷ (Take 0 2 ∷ (Call 0 (Read 0 7) ∷ []))));
}

abbrev pub site_1_replies : List WorldReply
site_1_replies = Core (Announced 2) ∷ Core Admitted ∷ Sent 2 ∷ Core (Merged 3) ∷ Core (Refused (WriterAnnounced 1)) ∷ []

-- site 0 gives all seats to site 1, and that one to site 2; then sites 0 and 1 are lost
abbrev pub seats_handed_on : World
seats_handed_on =
    run (Call 0 (Give 0 1 3) ∷ (Send 0 ∷ (Take 1 0 ∷ (Call 1 (Give 0 2 3) ∷ (Send 1 ∷ (Take 2 1 ∷ [])))))) (start_world 3 three_sites)

-- .. between which nothing is settled
abbrev pub nothing_settled : Losing
nothing_settled = record { gone = λ i. (i == 0) || (i == 1); settled = λ r d j. 0 }

-- .. or site 0 gives its three seats to site 1
abbrev pub seats_settled : Losing
seats_settled = record {
  gone = λ i. (i == 0) || (i == 1);
  settled = λ r d j. if (r == 0) && ((d == 0) && (j == 1)) then 3 else 0;
}

-- what site 2 tells in the new group
abbrev pub told_by_2 : DeltaState
told_by_2 = snapshot_of (view_of (account_at (new_group seats_handed_on nothing_settled) 2))
