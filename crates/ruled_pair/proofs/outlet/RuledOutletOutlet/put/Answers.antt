use Rattle.std.proofs.Common.{◌≡◌, ◌∷◌, ◌++◌, [], ℕ, ◌+◌, List, Some, subst, map, string_bytes, ap, ◌∙◌, sym, String, Global, rules}
use Rattle.std.proofs.lemmas.List.{map-append}
use Rattle.ordered_link.specs.Ends.{PutterState}
use Rattle.exchange_threads.specs.Outbox.{shown_receipt}
use Rattle.ruled_pair.specs.Sent.{AreSent}
use Rattle.ruled_pair.proofs.Sending.{sent_put}
use Rattle.ruled_pair.proofs.outlet.RuledOutletOutlet.put.Goals as goal

pub returns-clause-put : goal.returns-clause-put
returns-clause-put g c = λ rs n last d right at is.
    let texts : List (List ℕ) = map string_bytes c.args.self.now.put.items in
    let now : List (List ℕ) = map string_bytes c.push_reserved.new.self.items in
    let more : now ≡ texts ++ string_bytes c.args.text ∷ [] =
    ap (λ (ss : List (String Global)). map string_bytes ss) (c.push_reserved.ensures.items ∙ ap (λ (ss : List (String Global)). ss ++ c.in-Ok.copy ∷ []) c.in-Ok.ensures.put)
    ∙ (map-append string_bytes c.args.self.now.put.items (c.in-Ok.copy ∷ []) ∙ ap (λ (t : List ℕ). texts ++ t ∷ []) c.in-Ok.ensures.copy) in
    let places : c.push_reserved-2.new.self.items ≡ c.args.self.now.sent_at.items ++ c.args.place ∷ [] =
    c.push_reserved-2.ensures.items ∙ ap (λ (ps : List ℕ). ps ++ c.args.place ∷ []) c.in-Ok.ensures.sent_at in
    let put : c.put.new.self.put ≡ texts ++ string_bytes c.args.text ∷ [] =
    c.if-not-put.ensures.put ∙ ap (λ (ts : List (List ℕ)). ts ++ string_bytes c.args.text ∷ []) (ap (λ (p : PutterState). p.put) c.in-Ok.ensures.putter ∙ right.1) in
    let unfinished = ap (λ (p : PutterState). p.finished) c.in-Ok.ensures.putter ∙ right.2 in (
      subst (λ (k : ℕ). AreSent (rs ++ shown_receipt d ∷ []) k c.push_reserved-2.new.self.items now (n + 1) (Some d)) (sym c.in-Ok.ensures.first)
          (sent_put rs c.args.self.now.first c.args.self.now.sent_at.items c.push_reserved-2.new.self.items c.args.place texts now (string_bytes c.args.text) n last d right.0 at is places more),
      put ∙ sym more,
      c.if-not-put.ensures.finished ∙ unfinished,
      c.if-not-put.ensures.late unfinished ∙ (ap (λ (p : PutterState). p.late) c.in-Ok.ensures.putter ∙ right.3),
    )

pub returns-in_default-clause-memory : goal.returns-in_default-clause-memory
returns-in_default-clause-memory g c = search rules

pub returns-in_default-clause-kept : goal.returns-in_default-clause-kept
returns-in_default-clause-kept g c = search rules
