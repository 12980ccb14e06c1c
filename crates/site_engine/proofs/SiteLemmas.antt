-- From the opening of a desk to the end of the engine.
use Rattle.std.proofs.Common.{◌<◌, ◌≡◌, ℕ, ◌⊎◌, Bool, true, false, List, inl, inr, refl, sym, ap, ◌∙◌, subst}
use Rattle.std.proofs.lemmas.Bool.{cases_Bool}
use Rattle.merge_core.specs.declared.layout.RecordSpec.{RecordSpec}
use Rattle.merge_core.specs.Layout.{LayoutState}
use Rattle.admission_model.specs.Account.{Account}
use Rattle.durable_keeper.specs.Kept.{DurableState, durable_of}
use Rattle.durable_keeper.specs.declared.keeper.Keeper.{Ghosts}
use Rattle.desk_log.specs.Log.{begun}
use Rattle.desk_log.specs.Desk.{DeskState, IsFresh, KeepsOn, Leaves, account_of, account_if_kept, is_frozen}
use Rattle.site_script.specs.Served.{SameOpening, Serves, ServesFront, Stops, places_of}
use Rattle.text_input.specs.Source.{SourceState}
use Rattle.text_input.specs.Sink.{SinkState}
use Rattle.exit_status.specs.declared.status.Status.{Status}
use Rattle.exit_status.specs.declared.status.Status.TheVariants.{Done, Usage, NoLayout, NoStore, Fault, Refused, Memory, Io}
use Rattle.site_engine.specs.Sites.{Began, EndsSite, KeepsSome, ServesSome, WritesServed, WritesStopped, log_places}
use Rattle.site_engine.specs.SiteSteps.{ServesInput, ServesLost, WritesAnswers, WritesFault}

-- what is known of a desk from its opening to its end, and of the keeper that it gives back
pub record Worked {K : Type 0} (g : Ghosts K) (layout : LayoutState) (i : ℕ) (keeper back : K) (opened desk : DeskState K) : Type 0 where
  pub fresh : IsFresh g keeper layout i log_places opened
  pub same : SameOpening opened desk
  pub keeper_is : back ≡ desk.keeper
  pub honest : g.is_honest back → g.is_honest desk.opened
  pub kept : g.keeps desk.opened desk.log.first → Leaves g (is_frozen desk) back (account_of desk) (account_if_kept desk)

-- a desk that was just opened has the account of what it began with, and all places of its log
account_begun : {K : Type 0} (g : Ghosts K) (layout : LayoutState) (i : ℕ) (keeper : K) (opened : DeskState K)
    → IsFresh g keeper layout i log_places opened → account_of opened ≡ begun layout i opened.log.first
account_begun g layout i keeper opened fresh = rw (fresh.none, fresh.of_layout, fresh.of_site) refl

all_places : {K : Type 0} (g : Ghosts K) (layout : LayoutState) (i : ℕ) (keeper : K) (opened : DeskState K)
    → IsFresh g keeper layout i log_places opened → places_of opened ≡ log_places
all_places g layout i keeper opened fresh = rw (fresh.none, fresh.places) refl

-- a statement on the desk's account, its places and its records is one on what it began with
from_first : {K : Type 0} (g : Ghosts K) (layout : LayoutState) (i : ℕ) (keeper : K) (opened : DeskState K)
    (P : Account → ℕ → List RecordSpec → Type 0) → IsFresh g keeper layout i log_places opened
    → P (account_of opened) (places_of opened) opened.core.layout.records → P (begun layout i opened.log.first) log_places layout.records
from_first g layout i keeper opened P fresh p =
    let records = ap (λ (l : LayoutState). l.records) fresh.of_layout in
    subst (λ (a : Account). P a log_places layout.records) (account_begun g layout i keeper opened fresh)
    (subst (λ (n : ℕ). P (account_of opened) n layout.records) (all_places g layout i keeper opened fresh)
    (subst (λ (rs : List RecordSpec). P (account_of opened) (places_of opened) rs) records p))

opened_is : {K : Type 0} (g : Ghosts K) (layout : LayoutState) (i : ℕ) (keeper back : K) (opened desk : DeskState K)
    → Worked g layout i keeper back opened desk → desk.opened ≡ opened.keeper
opened_is g layout i keeper back opened desk w = w.same.opened ∙ w.fresh.opened

began : {K : Type 0} (g : Ghosts K) (layout : LayoutState) (i : ℕ) (keeper back : K) (opened desk : DeskState K)
    → Worked g layout i keeper back opened desk → Began g layout i keeper back opened.log.first
began g layout i keeper back opened desk w = record {
  found = λ d kept honest. w.fresh.found d kept (subst g.is_honest (opened_is g layout i keeper back opened desk w) (w.honest honest));
  cells = w.fresh.cells;
  sessions = w.fresh.sessions;
}

-- what was kept is kept by the keeper that comes back
left : {K : Type 0} (g : Ghosts K) (layout : LayoutState) (i : ℕ) (keeper back : K) (opened desk : DeskState K)
    → Worked g layout i keeper back opened desk → g.keeps keeper opened.log.first
    → Leaves g (is_frozen desk) back (account_of desk) (account_if_kept desk)
left g layout i keeper back opened desk w kept =
    let at_opening = w.fresh.keeps_on.keeps opened.log.first kept in
    let of_first = subst (λ (k : _). g.keeps k opened.log.first) (sym (opened_is g layout i keeper back opened desk w)) at_opening in
    w.kept (subst (λ (d : DurableState). g.keeps desk.opened d) (sym w.same.first) of_first)

served : {K : Type 0} (g : Ghosts K) (layout : LayoutState) (i : ℕ) (keeper back : K) (opened desk : DeskState K) (lines : List (List ℕ))
    (whole : Bool) (sink sink_after : SinkState) → Worked g layout i keeper back opened desk
    → WritesAnswers opened desk lines whole sink sink_after → WritesServed g layout i keeper back lines whole sink sink_after
served g layout i keeper back opened desk lines whole sink sink_after w a = record {
  first = opened.log.first;
  began = began g layout i keeper back opened desk w;
  text = a.text;
  account = account_of desk;
  served = from_first g layout i keeper opened (λ b n rs. Serves b n rs lines whole a.text (account_of desk)) w.fresh a.served;
  written = a.written;
  kept = λ kept. subst (λ (b : Bool). Leaves g b back (account_of desk) (account_if_kept desk)) a.running (left g layout i keeper back opened desk w kept);
}

stopped : {K : Type 0} (g : Ghosts K) (layout : LayoutState) (i : ℕ) (keeper back : K) (opened desk : DeskState K) (lines : List (List ℕ))
    (sink sink_after : SinkState) → Worked g layout i keeper back opened desk
    → WritesFault opened desk lines sink sink_after → WritesStopped g layout i keeper back lines sink sink_after
stopped g layout i keeper back opened desk lines sink sink_after w a = record {
  first = opened.log.first;
  began = began g layout i keeper back opened desk w;
  whole = a.whole;
  text = a.text;
  account = account_of desk;
  tried = account_if_kept desk;
  stopped = from_first g layout i keeper opened (λ b n rs. Stops b n rs lines a.whole a.text (account_of desk) (account_if_kept desk)) w.fresh a.stopped;
  written = a.written;
  kept = λ kept. subst (λ (b : Bool). Leaves g b back (account_of desk) (account_if_kept desk)) a.frozen (left g layout i keeper back opened desk w kept);
}

-- a desk that served nothing gives the keeper back as the opening left it
unused : {K : Type 0} (g : Ghosts K) (layout : LayoutState) (i : ℕ) (keeper back : K) (opened desk : DeskState K)
    → Worked g layout i keeper back opened desk → desk ≡ opened → KeepsOn g keeper back
unused g layout i keeper back opened desk w same =
    subst (λ (k : _). KeepsOn g keeper k) (sym (w.keeper_is ∙ ap (λ (d : _). d.keeper) same)) w.fresh.keeps_on

-- what some of the first lines leave
front_kept : {K : Type 0} (g : Ghosts K) (layout : LayoutState) (i : ℕ) (keeper back : K) (opened desk : DeskState K) (lines : List (List ℕ))
    → Worked g layout i keeper back opened desk → ServesFront opened desk lines → ServesSome g layout i keeper back lines
front_kept g layout i keeper back opened desk lines w some = record {
  first = opened.log.first;
  began = began g layout i keeper back opened desk w;
  front = some.front;
  behind = some.behind;
  split = some.split;
  text = some.text;
  account = account_of desk;
  tried = account_if_kept desk;
  left = at (cases_Bool (is_frozen desk));
}
  where
    at : (is_frozen desk ≡ true) ⊎ (is_frozen desk ≡ false)
        → (Serves (begun layout i opened.log.first) log_places layout.records some.front true some.text (account_of desk) × (g.keeps keeper opened.log.first → g.keeps back (durable_of (account_of desk))))
        ⊎ (Stops (begun layout i opened.log.first) log_places layout.records some.front true some.text (account_of desk) (account_if_kept desk)
        × (g.keeps keeper opened.log.first → g.keeps_either back (durable_of (account_of desk)) (durable_of (account_if_kept desk))))
    at (inl frozen) = inr (
      from_first g layout i keeper opened (λ b n rs. Stops b n rs some.front true some.text (account_of desk) (account_if_kept desk)) w.fresh (some.stopped frozen),
      λ kept. subst (λ (b : Bool). Leaves g b back (account_of desk) (account_if_kept desk)) frozen (left g layout i keeper back opened desk w kept),
    )
    at (inr runs) = inl (
      from_first g layout i keeper opened (λ b n rs. Serves b n rs some.front true some.text (account_of desk)) w.fresh (some.served runs),
      λ kept. subst (λ (b : Bool). Leaves g b back (account_of desk) (account_if_kept desk)) runs (left g layout i keeper back opened desk w kept),
    )

some_kept : {K : Type 0} (g : Ghosts K) (layout : LayoutState) (i : ℕ) (keeper back : K) (opened desk : DeskState K) (source source_after : SourceState)
    → Worked g layout i keeper back opened desk → ServesLost opened desk source source_after → KeepsSome g layout i keeper back source source_after
some_kept g layout i keeper back opened desk source source_after w (inl same) = inl (unused g layout i keeper back opened desk w same)
some_kept g layout i keeper back opened desk source source_after w (inr (bytes, read, front)) = inr (bytes, read, front_kept g layout i keeper back opened desk _ w front)

pub ends_site : {K : Type 0} (g : Ghosts K) (layout : LayoutState) (i : ℕ) (keeper back : K) (opened desk : DeskState K)
    (source source_after : SourceState) (sink sink_after : SinkState) (status : Status) → i < layout.sites → Worked g layout i keeper back opened desk
    → ServesInput opened desk source source_after sink sink_after status
    → EndsSite g layout i keeper back source source_after sink sink_after status
ends_site g layout i keeper back opened desk source source_after sink sink_after Done there w (bytes, read, a) =
    (bytes, read, served g layout i keeper back opened desk _ true sink sink_after w a)
ends_site g layout i keeper back opened desk source source_after sink sink_after Refused there w (inl (bytes, read, a)) =
    inl (bytes, read, served g layout i keeper back opened desk _ false sink sink_after w a)
ends_site g layout i keeper back opened desk source source_after sink sink_after Refused there w (inr (read, written, same)) =
    inr (read, written, unused g layout i keeper back opened desk w same)
ends_site g layout i keeper back opened desk source source_after sink sink_after Fault there w (bytes, read, a) =
    (bytes, read, stopped g layout i keeper back opened desk _ sink sink_after w a)
ends_site g layout i keeper back opened desk source source_after sink sink_after Memory there w (loses, lacks, silent, lost) =
    (there, loses, lacks, silent, some_kept g layout i keeper back opened desk source source_after w lost)
ends_site g layout i keeper back opened desk source source_after sink sink_after Io there w (loses, failed, lost) =
    (there, loses, failed, some_kept g layout i keeper back opened desk source source_after w lost)
ends_site g layout i keeper back opened desk source source_after sink sink_after Usage there w ended = absurd ended
ends_site g layout i keeper back opened desk source source_after sink sink_after (NoLayout fault) there w ended = absurd ended
ends_site g layout i keeper back opened desk source source_after sink sink_after (NoStore refusal) there w ended = absurd ended
