use Rattle.std.proofs.Common.{subst}
use Rattle.text_input.specs.Source.{SourceState}
use Rattle.layout_file.specs.LayoutFile.{ReadsLayoutFile}
use Rattle.program_shell.proofs.shell.layout_from.Goals as goal

pub returns-in-Ok : goal.returns-in-Ok
returns-in-Ok g c =
    rw c.in-Ok.is (record {
      opened = c.in-Ok.file;
      source_after = c.read_layout_file.new.source;
      read = subst (λ (s : SourceState). ReadsLayoutFile s c.read_layout_file.new.source c.read_layout_file.result) c.new.ensures c.read_layout_file.ensures;
    })
