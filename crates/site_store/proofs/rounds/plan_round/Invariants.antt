use Rattle.std.proofs.Common.{◌≡◌, take}
use Rattle.store_schema.specs.declared.Version.TheVariants.{Second}
use Rattle.store_rows.specs.Rows.{Stored}
use Rattle.store_content.specs.Content.{IsContent}
use Rattle.store_content.specs.Known.{Knows}
use Rattle.site_store.specs.Rounds.{AreRows, Plans}
use Rattle.site_store.proofs.rounds.plan_round.Given as goal

abbrev pub invariant-loop-change : goal.invariant-loop-change
invariant-loop-change l = record {
  plans : (it : Stored) → it.version ≡ Second → IsContent it → Knows l.initial.index it → Plans (take l.change-index l.changes) it l.round.cells.items l.round.notices.items l.round.edits.items l.index;
  storable : AreRows l.round.cells.items l.round.notices.items l.round.edits.items;
}
