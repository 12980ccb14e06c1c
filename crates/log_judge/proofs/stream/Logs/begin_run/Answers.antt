use Rattle.std.proofs.Common.{refl, ◌≡◌, ℕ, ◌<◌, [], ◌∷◌, ◌∙◌, ap, sym, subst, List, get_or, set, length, arith}
use Rattle.std.proofs.lemmas.Result.{IfOk-weaker}
use Rattle.desk_log.specs.declared.entry.Entry.{Entry}
use Rattle.desk_log.specs.declared.transcript.Run.{Run}
use Rattle.log_judge.specs.Stream.{IsLog}
use Rattle.log_judge.proofs.LogsLemmas.{log_of, logs_set}
use Rattle.log_judge.proofs.stream.Logs.begin_run.Goals as goal

pub returns-clause-logs : goal.returns-clause-logs
returns-clause-logs c =
    let layout = c.args.layout.now in
    let logs = c.args.self.now in
    let site = c.args.site in
    let old = c.index_mut.result.now in
    let new = c.begin_run.new.self in
    let place : c.from.result ≡ site = c.from.ensures in
    IfOk-weaker c.begin_run.result _ _
    (λ x step ts cut more more2 later later2 es rest idle head entries tail others all.
    let next : Run = record { sites = c.args.sites; first = c.args.first; entries = es } in
    let there : site < length logs.sites.items = omega (arith, c.requires.site, all.sites) in
    let here = log_of layout ts cut more later logs site old all there (c.index_mut.ensures.value ∙ ap (λ (n : ℕ). get_or logs.sites.items n old) place) in
    let so : IsLog layout ts cut site logs.keeping [] (later site) old = subst (λ (xs : List Entry). IsLog layout ts cut site logs.keeping xs (later site) old) idle here in
    let it : IsLog layout ts cut site logs.keeping [] (next ∷ rest) old = subst (λ (rs : List Run). IsLog layout ts cut site logs.keeping [] rs old) head so in
    let begun : IsLog layout ts cut site logs.keeping es rest new = step ts cut es rest it in
    let ready : IsLog layout ts cut site logs.keeping (more2 site) (later2 site) new = subst (λ (xs : List Entry). IsLog layout ts cut site logs.keeping xs (later2 site) new) (sym entries) (subst (λ (rs : List Run). IsLog layout ts cut site logs.keeping es rs new) (sym tail) begun) in
    logs_set layout ts cut more more2 later later2 logs _ site new there refl (ap (λ (n : ℕ). set logs.sites.items n new) place) ready others all)
    c.begin_run.ensures
