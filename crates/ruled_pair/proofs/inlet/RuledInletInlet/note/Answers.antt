use Rattle.std.proofs.Common.{◌≡◌, ◌∷◌, ◌++◌, [], ℕ, List, map, string_bytes, ap, ◌∙◌, sym, String, Global}
use Rattle.std.proofs.lemmas.List.{map-append}
use Rattle.ruled_pair.proofs.Hearing.{heard_note}
use Rattle.ruled_pair.proofs.inlet.RuledInletInlet.note.Goals as goal

pub returns-clause-noted : goal.returns-clause-noted
returns-clause-noted c = λ rs added earlier m held is.
    let texts : List (List ℕ) = map string_bytes c.args.self.now.taken.items in
    let more : map string_bytes c.push_reserved.new.self.items ≡ texts ++ string_bytes c.args.text ∷ [] =
    ap (λ (ss : List (String Global)). map string_bytes ss) c.push_reserved.ensures.items ∙ map-append string_bytes c.args.self.now.taken.items (c.args.text ∷ []) in (
      heard_note rs added c.args.self.now.first texts (map string_bytes c.push_reserved.new.self.items) c.args.self.now.fates.items c.push_reserved-2.new.self.items m (string_bytes c.args.text) c.args.fate held.0 is more c.push_reserved-2.ensures.items,
      held.1 ∙ sym more,
      ap (λ (ts : List (List ℕ)). ts ++ string_bytes c.args.text ∷ []) held.2 ∙ sym more,
      held.5,
    )
