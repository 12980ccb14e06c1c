use Rattle.std.proofs.Common.{rules, inl, sym, Ok, Err}
use Rattle.program_shell.proofs.ShellLemmas.{carried_by}
use Rattle.program_shell.proofs.shell.run_with.Goals as goal

pub returns-in-Err-layout_at : goal.returns-in-Err-layout_at
returns-in-Err-layout_at g c =
    inl (record {
      asked = search rules;
      lengths = c.in-Ok-cut_of.cut;
      cut_found = search rules;
      group_fits = search rules;
      one_of_both = search rules;
      layout = Err c.in-Err-layout_at.refusal;
      found = search rules;
      carried_out = (search rules, search rules, rw (sym c.in-Ok.ensures.command) c.end_without_layout-code.ensures);
    })

pub returns : goal.returns
returns g c =
    inl (record {
      asked = search rules;
      lengths = c.in-Ok-cut_of.cut;
      cut_found = search rules;
      group_fits = search rules;
      one_of_both = search rules;
      layout = Ok c.in-Ok-layout_at.layout;
      found = search rules;
      carried_out = carried_by _ _ _ _ _ _ _ _ _ _ _ _ _ _ _ _ _ _ _ _ _ _ _ _ _ _ c.in-Ok.ensures.command c.in-Ok.ensures.out c.in-Ok.ensures.log c.in-Ok.ensures.group c.in-Ok.ensures.lost
          c.in-Ok.ensures.logs c.in-Ok.ensures.words c.carry_out.ensures;
    })
