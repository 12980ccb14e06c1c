-- The map of places takes in what the edit makes of the sessions.
use Rattle.std.proofs.Common.{◌≡◌, ℕ, ap, sym, ◌∙◌, cond, max, subst, Some, None}
use Rattle.std.specs.Map.{lookup}
use Rattle.store_rows.specs.declared.content.SessionEdit.TheVariants.{Put, Dropped}
use Rattle.store_rows.specs.Changes.{edited, without}
use Rattle.store_content.specs.Content.{greatest_place, place_in}
use Rattle.store_content.specs.Known.{IsPlacedEdit, is_place, greatest_value, same_key}
use Rattle.store_content.proofs.EditLemmas.{drop_greatest, put_greatest, put_places}
use Rattle.store_content.proofs.PlaceLemmas.{place_without}
use Rattle.store_content.proofs.index.Index.take_edit.Goals as goal

pub returns-in-Put : goal.returns-in-Put
returns-in-Put c =
    λ it knows up once fits.
    let s = c.in-Put.session in
    let edit : c.args.edit ≡ Put s = c.in-Put.is in
    let placed = subst (λ e. IsPlacedEdit e it.sessions) edit fits in
    record {
      places = λ r h. c.put_session.ensures.places r h ∙ ap (cond (same_key (s.r, s.h) (r, h)) (Some s.place)) (knows.places r h)
          ∙ put_places s it.sessions up once placed r h ∙ sym (ap (λ e. place_in (edited (Some e) it.sessions) r h) edit);
      notices = λ r j. rw c.put_session.ensures.notices (knows.notices r j);
      unique = c.put_session.ensures.unique;
      greatest = c.put_session.ensures.greatest ∙ ap (λ n. max n s.place) knows.greatest ∙ put_greatest s it.sessions up once placed
          ∙ sym (ap (λ e. greatest_place (edited (Some e) it.sessions)) edit);
    }

pub returns-in-Dropped : goal.returns-in-Dropped
returns-in-Dropped c =
    λ it knows up once fits.
    let r = c.in-Dropped.r in
    let h = c.in-Dropped.h in
    let edit : c.args.edit ≡ Dropped r h = c.in-Dropped.is in
    let places : (q g : ℕ) → lookup (same_key (q, g)) c.drop_session.new.self.places.entries ≡ place_in (without r h it.sessions) q g =
    λ q g. c.drop_session.ensures.places q g ∙ ap (cond (same_key (r, h) (q, g)) None) (knows.places q g) ∙ sym (place_without it.sessions r h q g) in
    record {
      places = λ q g. places q g ∙ sym (ap (λ e. place_in (edited (Some e) it.sessions) q g) edit);
      notices = λ q j. rw c.drop_session.ensures.notices (knows.notices q j);
      unique = c.drop_session.ensures.unique;
      greatest = c.drop_session.ensures.greatest
          ∙ ap (λ n. cond (is_place n (lookup (same_key (r, h)) c.args.self.now.places.entries)) (greatest_value c.drop_session.new.self.places.entries) n) knows.greatest
          ∙ ap (λ o. cond (is_place (greatest_place it.sessions) o) (greatest_value c.drop_session.new.self.places.entries) (greatest_place it.sessions)) (knows.places r h)
          ∙ drop_greatest c.drop_session.new.self.places.entries it.sessions r h once c.drop_session.ensures.unique places
          ∙ sym (ap (λ e. greatest_place (edited (Some e) it.sessions)) edit);
    }
