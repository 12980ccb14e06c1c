use Rattle.std.proofs.Common.{rules, ◌≡◌, ℕ, ◌+◌, ◌++◌, suc, ap, ◌∙◌, length, get_or, append_assoc, arith}
use Rattle.log_judge.specs.Cut.{no_transcript}
use Rattle.log_judge.specs.Table.{cut_header, cut_line, cut_lines}
use Rattle.log_judge.proofs.LogsLemmas.{line_here}
use Rattle.log_judge.proofs.stream.Logs.cut_table.Goals as goal

pub sites-preserved : goal.sites-preserved
sites-preserved c = λ layout ts cut of all.
    let i = c.sites.i in
    let n = get_or c.args.lengths.now i 0 in
    let line = line_here layout ts cut c.args.self.now i n c.index-log.result.now of all (search rules) c.index-log.ensures in
    let next : suc i ≡ i + 1 = omega arith in
    c.in_ok-push_counts.ensures ∙ ((λ k. c.sites.invariant layout ts cut of all k ++ line k)
    ∙ (append_assoc cut_header (cut_lines ts c.args.lengths.now i) (cut_line (get_or ts i no_transcript) n) ∙ ap (λ (m : ℕ). cut_header ++ cut_lines ts c.args.lengths.now m) next))

pub returns : goal.returns
returns c = λ layout ts cut of all.
    let end : c.sites.i ≡ length ts = search (rules, all.sites, all.number) in
    c.sites.invariant layout ts cut of all ∙ ap (λ (m : ℕ). cut_header ++ cut_lines ts c.args.lengths.now m) end
