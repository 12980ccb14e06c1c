use Rattle.std.proofs.Common.{rules, string_bytes}
use Rattle.text_input.specs.Lines.{lines_of}
use Rattle.text_input.specs.Source.{HasFault}
use Rattle.site_script.proofs.LineLemmas.{front_answered}
use Rattle.site_engine.proofs.sites.answer_lines.Goals as goal

pub returns-then-not-write_and_flush-clause-answered : goal.returns-then-not-write_and_flush-clause-answered
returns-then-not-write_and_flush-clause-answered g c =
    let failed : HasFault c.write_and_flush.new.self.fault = search rules in (
      failed,
      front_answered c.args.desk.now c.serve_script.new.desk (lines_of c.args.script.now) c.in-Ok.served.whole (string_bytes c.in-Ok.served.text)
          (c.in-Ok.ensures.served c.requires) (c.in-Ok.ensures.stopped c.requires),
    )
