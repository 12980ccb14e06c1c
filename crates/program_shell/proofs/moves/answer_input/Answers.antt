use Rattle.std.proofs.Common.{◌∙◌, ◌∷◌, List, ℕ, inl, string_bytes, subst, sym}
use Rattle.live_databases.specs.LiveMoves.{RebuildsSome}
use Rattle.program_shell.proofs.moves.answer_input.Goals as goal

pub returns-in-Ok-rebuild_store : goal.returns-in-Ok-rebuild_store
returns-in-Ok-rebuild_store g c =
    let text = c.in-Ok-rebuild_store.text in
    inl (record {
      text = c.as_str.result.now;
      rebuilt = subst (λ (t : List ℕ). RebuildsSome c.args.layout c.args.site (c.args.site ∷ c.args.others.now) c.args.name.now c.args.bytes.now t) (sym c.as_str.ensures.value)
          (subst (λ (lost : List ℕ). RebuildsSome c.args.layout c.args.site lost c.args.name.now c.args.bytes.now (string_bytes text)) (c.deref.ensures.value ∙ c.in-Ok.ensures)
          c.in-Ok-rebuild_store.ensures);
      written = c.write_text.ensures;
    })
