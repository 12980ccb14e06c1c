use Rattle.std.proofs.Common.{refl, ◌≡◌, ℕ, ◌<◌, ◌∷◌, ◌∙◌, ap, sym, subst, List, get_or, set, length, arith}
use Rattle.std.proofs.lemmas.Result.{IfOk-weaker}
use Rattle.desk_log.specs.declared.entry.Entry.{Entry}
use Rattle.log_judge.specs.Stream.{IsLog}
use Rattle.log_judge.proofs.LogsLemmas.{log_of, logs_set}
use Rattle.log_judge.proofs.stream.Logs.add_entry.Goals as goal

pub returns-clause-logs : goal.returns-clause-logs
returns-clause-logs c =
    let logs = c.args.self.now in
    let site = c.args.site in
    let old = c.index_mut.result.now in
    let new = c.add_entry.new.self in
    let place : c.from.result ≡ site = c.from.ensures in
    let value = c.is_wanted-wanted in
    IfOk-weaker c.add_entry.result _ _
    (λ x step layout ts cut more more2 later rest below head tail others all.
    let there : site < length logs.sites.items = omega (arith, below, all.sites) in
    let here = log_of layout ts cut more later logs site old all there (c.index_mut.ensures.value ∙ ap (λ (n : ℕ). get_or logs.sites.items n old) place) in
    let it : IsLog layout ts cut site logs.keeping (c.args.entry ∷ rest) (later site) old = subst (λ (es : List Entry). IsLog layout ts cut site logs.keeping es (later site) old) head here in
    let next : IsLog layout ts cut site logs.keeping rest (later site) new = step layout ts cut site rest (later site) (λ off. value.ensures.done off layout ts cut more later all) value.ensures.merged it in
    logs_set layout ts cut more more2 later later logs _ site new there refl (ap (λ (n : ℕ). set logs.sites.items n new) place)
    (subst (λ (es : List Entry). IsLog layout ts cut site logs.keeping es (later site) new) (sym tail) next) (λ j apart. (others j apart, refl)) all)
    c.add_entry.ensures
