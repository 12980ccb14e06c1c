use Rattle.std.proofs.Common.{◌∙◌, ◌+◌, ℕ, sym, ap}
use Rattle.serve_engine.proofs.SendLemmas.{filled}
use Rattle.serve_engine.proofs.sending.finish_mark.Goals as goal

pub returns-then-is_marked : goal.returns-then-is_marked
returns-then-is_marked c = λ terms layout v are is.
    filled terms layout c.args.marker.now v c.args.call.now _ _ _ are (sym c.is_marked.ensures ∙ c.if-is_marked.true)
    (ap (λ (n : ℕ). n + 18) (c.len.ensures ∙ c.args.marker.now.group.bytes.ok.0)) c.fill_checksum.ensures is
