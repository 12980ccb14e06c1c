use Rattle.std.proofs.Common.{rules, List, ℕ, string_bytes, subst, sym}
use Rattle.std.specs.Io.KnownBytes.{Consumes, IsAtEnd}
use Rattle.log_file.specs.Mending.{MendsTo}
use Rattle.log_file.proofs.OpeningLemmas.{not_mended, opened}
use Rattle.log_file.proofs.opening.open_over.Goals as goal

pub returns-in_err-mended : goal.returns-in_err-mended
returns-in_err-mended g c =
    let read = g.R.File.Read.remaining in
    let file = c.read_file.new.file in
    let held : g.R.File.ExclusiveFile.is_held c.args.file = search rules in
    let gave : Consumes (read c.args.file) (read file) c.in_ok-bytes.bytes.items = search rules in
    let at_end : IsAtEnd (read file) = search rules in
    let step =
    not_mended g.R.File.ExclusiveFile read g.R.File.Write.contents c.args.layout.now c.args.site c.args.first.now c.args.file file c.as_slice.result.now
    held (subst (λ (xs : List ℕ). Consumes (read c.args.file) (read file) xs) (sym c.as_slice.ensures.value) gave) at_end in
    search (rules, step)

pub returns : goal.returns
returns g c =
    let read = g.R.File.Read.remaining in
    let file = c.read_file.new.file in
    let held : g.R.File.ExclusiveFile.is_held c.args.file = search rules in
    let gave : Consumes (read c.args.file) (read file) c.in_ok-bytes.bytes.items = search rules in
    let at_end : IsAtEnd (read file) = search rules in
    let tail = string_bytes c.in_ok-mended.mended.tail in
    let mends : MendsTo c.args.layout.now c.args.site c.as_slice.result.now c.args.first.now c.in_ok-mended.mended.kept tail = search rules in
    opened g.R.File.ExclusiveFile read g.R.File.Write.contents c.args.layout.now c.args.site c.args.first.now _ (λ a b steps did. did) c.args.file file c.as_slice.result.now c.new.result _
    c.in_ok-mended.mended.kept tail c.begin_log.result held (subst (λ (xs : List ℕ). Consumes (read c.args.file) (read file) xs) (sym c.as_slice.ensures.value) gave) at_end mends c.new.ensures.file
    c.begin_log.ensures
