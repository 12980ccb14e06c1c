use Rattle.std.proofs.Common.{refl, ◌≡◌, ℕ, ◌<◌, ◌∷◌, ◌∙◌, ap, sym, subst, List, get_or, set, length, arith}
use Rattle.std.proofs.lemmas.Result.{IfOk-weaker}
use Rattle.desk_log.specs.declared.entry.Entry.{Entry}
use Rattle.log_replay.specs.Stream.{IsClear}
use Rattle.log_judge.specs.declared.stream.SiteLog.{SiteLog}
use Rattle.log_judge.specs.Stream.{IsLog}
use Rattle.log_judge.proofs.LogsLemmas.{log_of, logs_set}
use Rattle.log_judge.proofs.stream.Logs.add_snapshot.Goals as goal

pub returns-clause-logs : goal.returns-clause-logs
returns-clause-logs c =
    let logs = c.args.self.now in
    let site = c.args.site in
    let old = c.index_mut.result.now in
    let new = c.add_snapshot.new.self in
    let place : c.from.result ≡ site = c.from.ensures in
    let value : old ≡ get_or logs.sites.items site old = c.index_mut.ensures.value ∙ ap (λ (n : ℕ). get_or logs.sites.items n old) place in
    IfOk-weaker c.add_snapshot.result _ _
    (λ x step core e clear shown layout ts cut more more2 later rest below head tail others all.
    let there : site < length logs.sites.items = omega (arith, below, all.sites) in
    let here = log_of layout ts cut more later logs site old all there value in
    let it : IsLog layout ts cut site logs.keeping (e ∷ rest) (later site) old = subst (λ (es : List Entry). IsLog layout ts cut site logs.keeping es (later site) old) head here in
    let clear_here : IsClear core old.replay.stage = subst (λ (log : SiteLog). IsClear core log.replay.stage) (sym value) (clear old) in
    let next : IsLog layout ts cut site logs.keeping rest (later site) new = step core layout ts cut site logs.keeping e rest (later site) clear_here shown it in
    logs_set layout ts cut more more2 later later logs _ site new there refl (ap (λ (n : ℕ). set logs.sites.items n new) place)
    (subst (λ (es : List Entry). IsLog layout ts cut site logs.keeping es (later site) new) (sym tail) next) (λ j apart. (others j apart, refl)) all)
    c.add_snapshot.ensures
