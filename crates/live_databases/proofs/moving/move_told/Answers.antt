use Rattle.std.proofs.Common.{◌≡◌, Result, Err, ap, ◌∙◌}
use Rattle.durable_keeper.specs.declared.error.KeeperError.{KeeperError}
use Rattle.site_store.specs.Sql.{faults_of}
use Rattle.live_databases.proofs.MoveLemmas.{has_moved, memory_no_fault, ok_is_none, refused_move, untold_move}
use Rattle.live_databases.proofs.moving.move_told.Goals as goal

abbrev error : KeeperError → Result (Unit {0}) KeeperError
error e = Err e

pub returns-in-Err : goal.returns-in-Err
returns-in-Err g c = untold_move g.S.Store c.args.layout c.args.site c.args.name.now c.args.keeper.now c.whole_text.new.keeper c.whole_text.new.keeper
    c.in-Err.ended c.in-Err.ensures.told c.whole_text.ensures.content c.whole_text.ensures.beside

pub returns-in-Ok-move_to_group : goal.returns-in-Ok-move_to_group
returns-in-Ok-move_to_group g c =
    let wrote = c.whole_text.ensures in
    let moved = c.move_to_group.ensures in
    let sound : faults_of c.move_to_group.new.self ≡ 0 = c.in-Ok-move_to_group.ensures.sound (λ same. ok_is_none _ _ same) in
    has_moved g.S.Store c.args.layout c.args.site c.args.name.now c.args.keeper.now c.whole_text.new.keeper c.move_to_group.new.self _ _
    (wrote.same_site ∙ c.requires.its_site) c.in-Ok.ensures.told wrote.content wrote.part c.in-Ok-move_to_group.ensures.content c.in-Ok-move_to_group.ensures.ok c.in-Ok-move_to_group.ensures.moved moved.honest sound wrote.beside moved.beside

pub returns-in-Err-move_to_group : goal.returns-in-Err-move_to_group
returns-in-Err-move_to_group g c =
    let wrote = c.whole_text.ensures in
    refused_move g.S.Store c.args.layout c.args.site c.args.name.now c.args.keeper.now c.whole_text.new.keeper c.move_to_group.new.self _ c.in-Err-move_to_group.error _
    (wrote.same_site ∙ c.requires.its_site) c.unloaded.ensures wrote.content
    (λ is. c.in-Err-move_to_group.ensures.told (ap error is))
    (λ is. c.in-Err-move_to_group.ensures.sound (λ same. memory_no_fault (error c.in-Err-move_to_group.error) (ap error is) same))
    (λ it keeps is. c.in-Err-move_to_group.ensures.memory it keeps (ap error is))
    (λ it keeps is. c.in-Err-move_to_group.ensures.doubt it keeps (ap error is))
    wrote.beside c.move_to_group.ensures.beside
