-- One line more of a script.
use Rattle.std.proofs.Common.{◌≡◌, ℕ, ◌+◌, Option, Some, None, List, [], ◌∷◌, ◌++◌, length, map, refl, sym, ap, subst, ◌∙◌, append_assoc, append-nil, length-append, arith}
use Rattle.merge_core.specs.declared.layout.RecordSpec.{RecordSpec}
use Rattle.multi_site_world.specs.declared.event.Event.{Event}
use Rattle.multi_site_world.specs.declared.event.WorldReply.{WorldReply}
use Rattle.multi_site_world.specs.World.{World, run, replies, world_reply}
use Rattle.multi_site_world.specs.Worlds.{WorldState, StandsForWorld}
use Rattle.multi_site_world.proofs.WorldCode.{run_more}
use Rattle.multi_site_world.proofs.WorldRun.{replies_more}
use Rattle.text_input.specs.Lines.{lines_of}
use Rattle.script_text.specs.Replies.{unread_line}
use Rattle.world_script.specs.Events.{event_in}
use Rattle.world_script.specs.Replies.{reply_line, reply_lines}
use Rattle.world_script.specs.Played.{AreEvents, PlaysAll, PlaysUpTo, PlaysEvent, PlaysNone, PlaysSoFar}

map_more : {A B : Type 0} (f : A → B) (xs : List A) (x : A) → map f (xs ++ x ∷ []) ≡ map f xs ++ f x ∷ []
map_more f [] x = refl
map_more f (y ∷ ys) x = ap (λ zs. f y ∷ zs) (map_more f ys x)

lines_more : (rs : List WorldReply) (r : WorldReply) → reply_lines (rs ++ r ∷ []) ≡ reply_lines rs ++ reply_line r
lines_more [] r = append-nil (reply_line r)
lines_more (q ∷ rs) r =
    ap (λ (t : List ℕ). reply_line q ++ t) (lines_more rs r) ∙ sym (append_assoc (reply_line q) (reply_lines rs) (reply_line r))

-- before the first line
pub played_none : (m : World) (records : List RecordSpec) (lines : List (List ℕ)) (w : WorldState) → StandsForWorld m w → PlaysSoFar m records lines lines 0 [] w
played_none m records lines w stands = record {
  before = [];
  split = refl;
  counted = refl;
  played = record { events = []; read = refl; text_is = refl; world = stands };
}

-- a line that says an event
pub played_line : (m : World) (records : List RecordSpec) (lines behind : List (List ℕ)) (line : List ℕ) (number : ℕ) (old new : List ℕ) (v w : WorldState)
    → PlaysSoFar m records lines (line ∷ behind) number old v → ((n : World) → StandsForWorld n v → PlaysEvent n records line old new w)
    → PlaysSoFar m records lines behind (number + 1) new w
played_line m records lines behind line number old new v w so_far plays = record {
  before = so_far.before ++ line ∷ [];
  split = so_far.split ∙ sym (append_assoc so_far.before (line ∷ []) behind);
  counted = length-append so_far.before (line ∷ []) ∙ ap (λ (n : ℕ). n + 1) so_far.counted;
  played = record {
    events = events ++ one.event ∷ [];
    read =
        map_more (event_in records) so_far.before line
        ∙ (ap (λ (os : List (Option Event)). os ++ event_in records line ∷ []) so_far.played.read
        ∙ (ap (λ (o : Option Event). map Some events ++ o ∷ []) one.read ∙ sym (map_more Some events one.event)));
    text_is =
        one.text_is
        ∙ (ap (λ (t : List ℕ). t ++ reply_line (world_reply here one.event)) so_far.played.text_is
        ∙ (sym (lines_more (replies events m) (world_reply here one.event)) ∙ ap reply_lines (sym (replies_more events one.event m))));
    world = subst (λ (n : World). StandsForWorld n w) (sym (run_more events one.event m)) one.world;
  };
}
  where
    events : List Event
    events = so_far.played.events

    here : World
    here = run events m

    one : PlaysEvent here records line old new w
    one = plays here so_far.played.world

-- a line that says none
pub played_stop : (m : World) (records : List RecordSpec) (lines behind : List (List ℕ)) (line : List ℕ) (number : ℕ) (old new : List ℕ) (v w : WorldState)
    → PlaysSoFar m records lines (line ∷ behind) number old v → ((n : World) → StandsForWorld n v → PlaysNone n records line (number + 1) old new w)
    → PlaysUpTo m records lines new w
played_stop m records lines behind line number old new v w so_far plays =
    let stop = plays (run so_far.played.events m) so_far.played.world in
    record {
      before = so_far.before;
      line = line;
      behind = behind;
      split = so_far.split;
      events = so_far.played.events;
      read = so_far.played.read;
      unread = stop.unread;
      text_is =
          stop.text_is
          ∙ (ap (λ (t : List ℕ). t ++ unread_line (number + 1)) so_far.played.text_is
          ∙ ap (λ (n : ℕ). reply_lines (replies so_far.played.events m) ++ unread_line (n + 1)) (sym so_far.counted));
      world = stop.world;
    }

no_bytes : (rest : List ℕ) → length rest ≡ 0 → lines_of rest ≡ []
no_bytes [] none = refl
no_bytes (b ∷ bs) none = absurd (omega arith)

-- behind the last line
pub played_all : (m : World) (records : List RecordSpec) (lines : List (List ℕ)) (rest : List ℕ) (number : ℕ) (text : List ℕ) (w : WorldState)
    → PlaysSoFar m records lines (lines_of rest) number text w → length rest ≡ 0 → PlaysAll m records lines text w
played_all m records lines rest number text w so_far none =
    subst (λ (ls : List (List ℕ)). PlaysAll m records ls text w)
    (sym (so_far.split ∙ (ap (λ (ls : List (List ℕ)). so_far.before ++ ls) (no_bytes rest none) ∙ append-nil so_far.before))) so_far.played
