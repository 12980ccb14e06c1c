use Rattle.std.proofs.Common.{rules, Bor, List, ℕ, Option, ap, option_copied, option_map, refl, subst}
use Rattle.std.specs.Prelude.{[], unwrap_or}
use Rattle.program_shell.proofs.ShellLemmas.{asked_by, served_by}
use Rattle.program_shell.specs.Moves.{EndsRebuild, EndsRegroup}
use Rattle.program_shell.proofs.shell.carry_out.Goals as goal

pub returns-in-Play : goal.returns-in-Play
returns-in-Play g c = rw c.in-Play.is (c.play_engine-ended.result, c.play_engine-ended.ensures, search rules)

pub returns-in-Serve : goal.returns-in-Serve
returns-in-Serve g c =
    let opened = c.opening-opening.ensures in
    rw c.in-Serve.is
    (served_by _ c.args.layout c.args.source _ c.args.sink _ c.args.errors.now _ _ _ _ _ _ _ _ _ _ _ _ opened.together opened.site
    (ap (λ (o : Option (Bor (List ℕ))). option_copied o) opened.group) opened.marking
    (ap (λ (o : Option (Bor (List ℕ))). option_map (λ path. path.now) o) opened.log) c.serve_lines.ensures)

pub returns-in-Ask : goal.returns-in-Ask
returns-in-Ask g c =
    let opened = c.opening-opening-in-Ask.ensures in
    rw c.in-Ask.is (
      refl,
      asked_by _ c.args.layout _ c.args.sink _ c.args.errors.now _ _ _ _ _ _ _ _ _ _ opened.site
          (ap (λ (o : Option (Bor (List ℕ))). option_copied o) opened.group) opened.marking
          (ap (λ (o : Option (Bor (List ℕ))). option_map (λ path. path.now) o) opened.log) c.ask_once-code.ensures,
    )

pub returns-in-Regroup : goal.returns-in-Regroup
returns-in-Regroup g c = rw c.in-Regroup.is (
  refl,
  subst (λ (n : List ℕ). EndsRegroup c.args.layout c.in-Regroup.site n c.args.sink c.regroup_site-code.new.sink c.args.errors.now c.regroup_site-code.new.errors c.regroup_site-code.result)
      c.group_of-group.ensures c.regroup_site-code.ensures,
)

pub returns-in-Rebuild : goal.returns-in-Rebuild
returns-in-Rebuild g c =
    let asked = c.args.asked.now in
    let name = unwrap_or (option_copied asked.group) [] in
    rw c.in-Rebuild.is
    (subst (λ (lost : List ℕ). EndsRebuild c.args.layout c.in-Rebuild.site lost name c.args.source c.rebuild_site-code.new.source c.args.sink c.rebuild_site-code.new.sink
    c.args.errors.now c.rebuild_site-code.new.errors c.rebuild_site-code.result) c.as_slice-lost.ensures.value
    (subst (λ (n : List ℕ). EndsRebuild c.args.layout c.in-Rebuild.site c.as_slice-lost.result.now n c.args.source c.rebuild_site-code.new.source c.args.sink c.rebuild_site-code.new.sink
    c.args.errors.now c.rebuild_site-code.new.errors c.rebuild_site-code.result) c.group_of-group-in-Rebuild.ensures c.rebuild_site-code.ensures))
