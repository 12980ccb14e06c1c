use Rattle.std.proofs.Common.{◌∙◌, ap, subst, sym}
use Rattle.std.specs.Option.{option_copied}
use Rattle.admission_core.specs.Core.{Core}
use Rattle.serve_engine.specs.Rounds.{EndsServingTogether}
use Rattle.serve_engine.proofs.EndLemmas.{terms_of_here}
use Rattle.serve_engine.proofs.TogetherLemmas.{ends_together, serving_together, unserved_together}
use Rattle.serve_engine.proofs.rounds.serve_together.Goals as goal

pub returns-in_default-clause-ended : goal.returns-in_default-clause-ended
returns-in_default-clause-ended g c =
    let fresh = c.in-Ok.ensures in
    unserved_together g.K.Keeper g.K.LiveKeeper.is_outdated g.C.Conversation c.args.most c.args.layout c.args.site (option_copied c.args.group) c.args.marking c.args.keeper c.in-Ok.live fresh.0 fresh.1
    c.into_keeper.result c.args.conversation.now c.into_keeper.ensures.keeper

pub returns-clause-ended : goal.returns-clause-ended
returns-clause-ended g c =
    let layout = c.args.layout in
    let i = c.args.site in
    let most = c.args.most in
    let group = option_copied c.args.group in
    let marking = c.args.marking in
    let keeper = c.args.keeper in
    let talk = c.args.conversation.now in
    let opened = c.in-Ok.live in
    let fresh = c.in-Ok.ensures in
    let s = c.serve_rounds-live in
    let after = s.result.0.keeper in
    let marker = c.in-Ok-marker_of.marker in
    let are = terms_of_here group marking marker (c.layout.ensures ∙ ap (λ (x : Core). x.layout) c.core.ensures.core) c.in-Ok-marker_of.ensures in
    subst (λ (k : g.row.K.Denot). EndsServingTogether g.K.Keeper g.K.LiveKeeper.is_outdated g.C.Conversation most layout i group marking keeper k talk s.new.conversation s.result.1)
    (sym c.into_keeper-2.ensures.keeper)
    (ends_together g.K.Keeper g.K.LiveKeeper.is_outdated g.C.Conversation most layout i group marking keeper opened fresh.0 fresh.1 after talk s.new.conversation s.result.1
    (serving_together g.K.Keeper g.K.LiveKeeper.is_outdated g.C.Conversation most layout i group marking keeper opened fresh.0 fresh.1 marker after talk s.new.conversation s.result.1
    s.ensures.honest are s.ensures.ended))
