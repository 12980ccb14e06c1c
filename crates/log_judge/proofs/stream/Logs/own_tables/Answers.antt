use Rattle.std.proofs.Common.{rules, ◌≡◌, ℕ, ◌+◌, ◌<◌, length, ap, sym, subst, ◌∙◌, get_or, arith}
use Rattle.log_replay.specs.Stream.{HasEnded}
use Rattle.log_judge.specs.declared.stream.SiteLog.{SiteLog}
use Rattle.log_judge.specs.Cut.{runs_at}
use Rattle.log_judge.specs.Stream.{AreTables}
use Rattle.log_judge.proofs.LogsLemmas.{log_here, rows_told, tables_all, tables_more}
use Rattle.log_judge.proofs.stream.Logs.own_tables.Goals as goal

pub sites-preserved : goal.sites-preserved
sites-preserved c = λ ts cut all is_cut going.
    let layout = c.args.layout.now in
    let logs = c.args.self.now in
    let log = c.index-log.result.now in
    let site = c.sites.site in
    let below : site < length logs.sites.items = omega (arith, c.sites-test.true, c.sites-site-end.ensures.sites, all.sites) in
    let same = c.index-log.ensures ∙ ap (λ (n : ℕ). get_or logs.sites.items n log) c.from.ensures in
    let here = log_here layout ts cut logs site log all below same in
    let rows = c.in_ok-own_rows.field-0 in
    let runs : (¬ HasEnded log.replay.stage) = λ over. going site below log (subst (λ (l : SiteLog). HasEnded l.replay.stage) same over) in
    subst (AreTables layout ts cut (site + 1)) (sym c.in_ok-push.ensures.items)
    (tables_more layout ts cut site c.sites.tables.items rows (c.sites.invariant ts cut all is_cut going)
    (rows_told layout ts cut logs.keeping site log rows here (is_cut.within site (omega (arith, below, all.sites, all.number)))
    (λ fits. c.in_ok-own_rows.ensures (runs_at ts site) here.replaying runs fits)))

pub returns : goal.returns
returns c = λ ts cut all is_cut going.
    let layout = c.args.layout.now in
    let end : c.sites.site ≡ layout.sites = search (rules, c.sites-test.false, c.sites-site-end.ensures.sites, c.sites.auto) in
    tables_all layout ts cut c.args.self.now c.sites.tables.items c.sites-site-end.ensures.layout all going
    (subst (λ (n : ℕ). AreTables layout ts cut n c.sites.tables.items) end (c.sites.invariant ts cut all is_cut going))
