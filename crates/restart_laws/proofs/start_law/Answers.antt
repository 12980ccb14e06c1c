-- The lemmas are the law.
use Rattle.std.proofs.Common.{refl, sym}
use Rattle.restart_laws.proofs.StartLemmas.{own_either, own_in_doubt, own_kept, own_new}
use Rattle.restart_laws.proofs.start_law.Goals as goal

pub returns-clause-kept : goal.returns-clause-kept
returns-clause-kept g c = λ held layout a it core may starts keeps part. own_kept g.S.Store layout a.origin.site held core starts a it may refl keeps part

pub returns-clause-doubt : goal.returns-clause-doubt
returns-clause-doubt g c = λ held old layout site a call core may starts left. own_in_doubt g.S.Store layout a.origin.site held core starts a call may refl old site left

pub returns-clause-either : goal.returns-clause-either
returns-clause-either g c = λ held old layout site a b core may may_second at starts left.
    own_either g.S.Store layout a.origin.site held core starts a b may may_second refl (sym at) old site left

pub returns-clause-begun : goal.returns-clause-begun
returns-clause-begun g c = λ held layout i it core is there starts nothing keeps. own_new g.S.Store layout i held core starts it is there nothing keeps
