use Rattle.std.proofs.Common.{◌∙◌, ap, subst, sym}
use Rattle.std.specs.Option.{option_copied}
use Rattle.admission_core.specs.Core.{Core}
use Rattle.serve_engine.specs.Ending.{EndsServing}
use Rattle.serve_engine.proofs.EndLemmas.{serving, ends_serving, ends_unserved, terms_of_here}
use Rattle.serve_engine.proofs.engine.serve_engine.Goals as goal

pub returns-in_default-clause-ended : goal.returns-in_default-clause-ended
returns-in_default-clause-ended g c =
    let fresh = c.in-Ok.ensures in
    ends_unserved g.K.Keeper g.K.LiveKeeper.is_outdated g.C.Conversation g.L.CallLog c.args.layout c.args.site (option_copied c.args.group) c.args.marking c.args.keeper c.in-Ok.live fresh.0 fresh.1
    c.into_keeper.result c.args.conversation.now c.args.log.now c.into_keeper.ensures.keeper

pub returns-clause-ended : goal.returns-clause-ended
returns-clause-ended g c =
    let layout = c.args.layout in
    let i = c.args.site in
    let group = option_copied c.args.group in
    let marking = c.args.marking in
    let keeper = c.args.keeper in
    let talk = c.args.conversation.now in
    let log = c.args.log.now in
    let opened = c.in-Ok.live in
    let fresh = c.in-Ok.ensures in
    let s = c.serve_lines-ended in
    let after = s.new.live.keeper in
    let marker = c.in-Ok-marker_of.marker in
    let are = terms_of_here group marking marker (c.layout.ensures ∙ ap (λ (x : Core). x.layout) c.core.ensures.core) c.in-Ok-marker_of.ensures in
    subst (λ (k : g.row.K.Denot). EndsServing g.K.Keeper g.K.LiveKeeper.is_outdated g.C.Conversation g.L.CallLog layout i group marking keeper k talk s.new.conversation log s.new.log s.result)
    (sym c.into_keeper-2.ensures.keeper)
    (ends_serving g.K.Keeper g.K.LiveKeeper.is_outdated g.C.Conversation g.L.CallLog layout i group marking keeper opened fresh.0 fresh.1 after talk s.new.conversation log s.new.log s.result
    (serving g.K.Keeper g.K.LiveKeeper.is_outdated g.C.Conversation g.L.CallLog layout i group marking keeper opened fresh.0 fresh.1 marker after talk s.new.conversation log s.new.log s.result
    s.ensures.honest are s.ensures.ended))
