use Rattle.std.proofs.Common.{rules, Ok, ◌≡◌, ◌∙◌, List, ℕ, Option, Some, None, inl, inr, refl, sym, ap}
use Rattle.std.specs.Prelude.{option_map, string_bytes}
use Rattle.group_names.specs.Names.{next_name}
use Rattle.live_databases.specs.declared.service_end.ServiceEnd.{ServiceEnd}
use Rattle.admission_core.specs.Kept.{DurableState}
use Rattle.site_store.specs.Content.{durable_in}
use Rattle.live_databases.specs.Moves.{HasMoved, IsNotMoved, Moves, MovesNot, whole_text}
use Rattle.live_databases.proofs.MoveLemmas.{matched}
use Rattle.live_databases.proofs.moving.regroup_over.Goals as goal

pub returns-in-Ok-None : goal.returns-in-Ok-None
returns-in-Ok-None g c =
    let none : next_name c.args.group.now ≡ None = sym c.in-Ok-None.ensures ∙ ap (option_map string_bytes) c.in-Ok-None.field-0-is in
    inl (refl, inr (inl (none, refl)))

pub returns-in-Err : goal.returns-in-Err
returns-in-Err g c = inl (refl, inr (inr refl))

pub returns-in-Err-open_keeper : goal.returns-in-Err-open_keeper
returns-in-Err-open_keeper g c = inr (inl (record {
  error = c.in-Err-open_keeper.error;
  left = c.in-Err-open_keeper.connection;
  opened = c.in-Err-open_keeper.ensures.opened;
  ends = c.end_refused-ended.ensures;
}))

pub move_told-told-requires-clause-its_site : goal.move_told-told-requires-clause-its_site
move_told-told-requires-clause-its_site g c = c.in-Ok.ensures.keeper.its_site

pub returns : goal.returns
returns g c =
    let name = c.as_str.result.now in
    let is_next : next_name c.args.group.now ≡ Some name =
    sym c.in-Ok-Some.ensures ∙ ap (option_map string_bytes) c.in-Ok-Some.field-0-is ∙ ap (λ (n : List ℕ). Some n) (sym c.as_str.ensures.value) in
    let keeper = c.in-Ok.opened.0 in
    let left = c.move_told-told.new.keeper in
    matched _ _ _ _ c.move_told-told.result
    (λ text moves. record {
      is_name = search rules;
      name = name;
      is_next = is_next;
      keeper = keeper;
      made = c.in-Ok.opened.1;
      opened = c.in-Ok.ensures.opened;
      moved = left;
      moves = moves;
      handed = c.into_connection.ensures;
      told = λ it keeps honest.
          moves.tells.is_text ∙ ap (λ (d : DurableState). whole_text c.args.layout c.args.site name d) (moves.tells.given (durable_in it) (c.in-Ok.ensures.opened.stored it keeps).1 honest);
      kept = λ it keeps. moves.part (durable_in it) (c.in-Ok.ensures.opened.stored it keeps).1;
    })
    (λ ended not_moved. inr (inr (record {
      name = name;
      is_next = is_next;
      keeper = keeper;
      made = c.in-Ok.opened.1;
      opened = c.in-Ok.ensures.opened;
      left = left;
      moves_not = not_moved;
      handed = c.into_connection.ensures;
    })))
    c.move_told-told.ensures
