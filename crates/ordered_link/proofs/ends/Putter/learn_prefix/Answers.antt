use Rattle.std.proofs.Common.{◌≡◌, ℕ, true, List, ◌++◌, sym, ap, ◌∙◌, arith}
use Rattle.crossbeam_channel.specs.Claims.{view}
use Rattle.ordered_link.specs.declared.rule.Parcel.{Parcel}
use Rattle.ordered_link.specs.declared.rule.Log.{Log}
use Rattle.ordered_link.specs.Ends.{TakerState, texts_of, is_finished}
use Rattle.ordered_link.proofs.Rules.{merges, texts_append, texts_few, all_taken}
use Rattle.ordered_link.proofs.ends.Putter.learn_prefix.Goals as goal

pub absorb-requires-clause-rule : goal.absorb-requires-clause-rule
absorb-requires-clause-rule c = merges _ _ _ _ c.self.invariant.1 c.taker.invariant.2

pub returns-clause-prefix : goal.returns-clause-prefix
returns-clause-prefix c =
    let items : List Parcel = c.learn_as.ensures.rule.0 in
    let whole : Log = view c.absorb.new.pass in
    let taken : texts_of whole.taken ≡ c.args.taker.taken =
    ap (λ (l : Log). texts_of l.taken) c.absorb.ensures.rule ∙ ap (λ (t : TakerState). t.taken) c.taker.view_is in (
      texts_of items,
      ap (λ (l : Log). texts_of l.put) c.learn_as.ensures.channel.2
          ∙ (ap texts_of c.learn_as.ensures.rule.1.0 ∙ (texts_append whole.taken items ∙ ap (λ (ts : List (List ℕ)). ts ++ texts_of items) taken)),
      omega (arith, texts_few items, c.learn_as.ensures.rule.1.1),
      λ (told : c.args.taker.finished ≡ true).
          let word : is_finished whole.taken ≡ true =
          ap (λ (l : Log). is_finished l.taken) c.absorb.ensures.rule ∙ (sym c.taker.invariant.3 ∙ (ap (λ (t : TakerState). t.finished) c.taker.view_is ∙ told)) in
          all_taken (view c.learn_as.new.pass).put whole.taken items (ap (λ (l : Log). l.put) c.learn_as.ensures.channel.2 ∙ c.learn_as.ensures.rule.1.0) word,
    )
