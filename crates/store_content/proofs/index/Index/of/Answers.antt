-- The maps have the lists' look-ups, and the greatest place with them.
use Rattle.std.proofs.Common.{ap, ◌∙◌, is_some}
use Rattle.store_rows.specs.Rows.{Stored}
use Rattle.store_content.specs.Content.{greatest_place, notice_in, place_in}
use Rattle.store_content.proofs.IndexLemmas.{at_some, greatest_known}
use Rattle.store_content.proofs.index.Index.of.Goals as goal

pub returns-clause-knows : goal.returns-clause-knows
returns-clause-knows c =
    let sessions = c.deref.ensures.value ∙ ap (λ (v : Stored). v.sessions) c.content.view_is in
    let notices = c.deref-2.ensures.value ∙ ap (λ (v : Stored). v.notices) c.content.view_is in
    let places = at_some c.in_ok-places.field-0 c.in-Some.places _ c.in-Some.is c.in_ok-places.ensures.places in
    let unique = at_some c.in_ok-places.field-0 c.in-Some.places _ c.in-Some.is c.in_ok-places.ensures.unique in
    let once = c.in_ok-places.ensures.once.0 (ap is_some c.in-Some.is) in
    record {
      places = λ r h. places r h ∙ ap (λ l. place_in l r h) sessions;
      notices = λ r j. c.in_ok-notices.ensures r j ∙ ap (λ l. notice_in l r j) notices;
      unique = unique;
      greatest = c.greatest_of-greatest.ensures ∙ greatest_known c.in-Some.places.entries c.deref.result.now unique once places ∙ ap greatest_place sessions;
    }
