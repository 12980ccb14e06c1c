-- The entries sorted by the numbers of their arrivals are the list.
use Rattle.std.proofs.Common.{◌≡◌, ap, ◌∙◌, subst, map, rules, IfOk, IsPermutation}
use Rattle.std.proofs.lemmas.List.Sorted.{IsNonDecreasingBy-from_sort_by_key}
use Rattle.session_list.specs.Sessions.{Held}
use Rattle.session_list.specs.Kept.{number_of, session_of}
use Rattle.session_list.proofs.KeptLemmas.{sorted-sessions_by}
use Rattle.session_list.proofs.sessions.Sessions.list.Goals as goal

pub returns : goal.returns
returns c =
    let entries = c.sort_unstable_by_key.new.self.items in
    let moved : IsPermutation c.self.inside.map.entries entries = rw (← c.in_ok-entries.ensures) c.sort_unstable_by_key.ensures.permutation in
    let up = IsNonDecreasingBy-from_sort_by_key number_of entries c.sort_unstable_by_key.ensures.sorted (λ a r q k. search rules) in
    let same = ap (map session_of) c.deref.ensures.value ∙ sorted-sessions_by _ _ c.self.invariant entries moved up ∙ ap (λ (v : Held). v.sessions) c.self.view_is in
    subst (λ xs. IfOk c.sessions_of.result (λ list. list.items ≡ xs)) same c.sessions_of.ensures
