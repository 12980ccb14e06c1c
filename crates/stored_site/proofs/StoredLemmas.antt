-- From a site over a database to the end of the program.
use Rattle.std.proofs.Common.{ℕ, ◌<◌, ◌+◌, Bool, true, false, List, [], Option, Some, None, inl, inr, refl, sym, subst, arith}
use Rattle.std.specs.Io.KnownBytes.{Consumes}
use Rattle.sqlite_trees.specs.declared.store.Store.{Ghosts as Device}
use Rattle.sqlite.specs.Held.{Held}
use Rattle.merge_core.specs.Layout.{LayoutState}
use Rattle.durable_keeper.specs.declared.keeper.Keeper.{Ghosts}
use Rattle.site_store.specs.declared.error.StoreOpenError.{StoreOpenError}
use Rattle.site_store.specs.declared.error.StoreOpenError.TheVariants as opening
use Rattle.site_store.specs.declared.sql.SqlKeeper.{SqlKeeper}
use Rattle.text_input.specs.Input.{LosesSome, input_limit}
use Rattle.text_input.specs.Source.{SourceState}
use Rattle.text_input.specs.Sink.{SinkState}
use Rattle.exit_status.specs.declared.status.Status.{Status}
use Rattle.exit_status.specs.declared.status.Status.TheVariants.{Done, Usage, NoLayout, NoStore, Fault, Refused, Memory, Io}
use Rattle.site_engine.specs.Sites.{EndsSite, WritesServed, WritesStopped}
use Rattle.stored_site.specs.StoredSites.{EndsOver, refusal_status}
use Rattle.stored_site.specs.Databases.{EndsStored, StopsSome, WritesSome}

-- what was written, whatever the keeper
some_served : {K : Type 0} (g : Ghosts K) (layout : LayoutState) (i : ℕ) (keeper back : K) (lines : List (List ℕ)) (whole : Bool)
    (sink sink_after : SinkState) → WritesServed g layout i keeper back lines whole sink sink_after → WritesSome layout i lines whole sink sink_after
some_served g layout i keeper back lines whole sink sink_after w = record {
  first = w.first;
  cells = w.began.cells;
  sessions = w.began.sessions;
  text = w.text;
  account = w.account;
  served = w.served;
  written = w.written;
}

some_stopped : {K : Type 0} (g : Ghosts K) (layout : LayoutState) (i : ℕ) (keeper back : K) (lines : List (List ℕ))
    (sink sink_after : SinkState) → WritesStopped g layout i keeper back lines sink sink_after → StopsSome layout i lines sink sink_after
some_stopped g layout i keeper back lines sink sink_after w = record {
  first = w.first;
  cells = w.began.cells;
  sessions = w.began.sessions;
  whole = w.whole;
  text = w.text;
  account = w.account;
  tried = w.tried;
  stopped = w.stopped;
  written = w.written;
}

-- the engine of a site that is there, over any keeper
ran : {K : Type 0} (g : Ghosts K) (layout : LayoutState) (i : ℕ) (keeper back : K) (source source_after : SourceState)
    (sink sink_after : SinkState) (ended : Status) → i < layout.sites
    → EndsSite g layout i keeper back source source_after sink sink_after ended → EndsStored layout i source source_after sink sink_after ended
ran g layout i keeper back source source_after sink sink_after Done there (bytes, read, w) =
    (there, (bytes, read, some_served g layout i keeper back _ true sink sink_after w))
ran g layout i keeper back source source_after sink sink_after Refused there (inl (bytes, read, w)) =
    (there, inl (bytes, read, some_served g layout i keeper back _ false sink sink_after w))
ran g layout i keeper back source source_after sink sink_after Refused there (inr (read, written, kept)) = (there, inr (read, written))
ran g layout i keeper back source source_after sink sink_after Fault there (bytes, read, w) =
    (there, (bytes, read, some_stopped g layout i keeper back _ sink sink_after w))
ran g layout i keeper back source source_after sink sink_after (NoStore refusal) there (unfit, kept, unread, silent) = (there, unread, silent)
ran g layout i keeper back source source_after sink sink_after (NoLayout fault) there (is, none, same, unread, silent) = absurd (none there)
ran g layout i keeper back source source_after sink sink_after Memory there (is_there, loses, lacks, silent, kept) = (there, loses, lacks, silent)
ran g layout i keeper back source source_after sink sink_after Io there (is_there, loses, failed, kept) = (there, loses, failed)
ran g layout i keeper back source source_after sink sink_after Usage there ended = absurd ended

-- a source that was not read lost nothing
loses_none : (source : SourceState) → LosesSome source source (input_limit + 1)
loses_none source = ([], record { lost = at source.remaining; bounded = omega arith })
  where
    at : (known : Option (List ℕ)) → Consumes known known []
    at None = tt
    at (Some bytes) = refl

-- a refused store
refused_end : (layout : LayoutState) (i : ℕ) (source : SourceState) (sink : SinkState) (error : StoreOpenError) → i < layout.sites
    → EndsStored layout i source source sink sink (refusal_status error)
refused_end layout i source sink opening.BadStore there = (there, refl, refl)
refused_end layout i source sink opening.WrongSite there = (there, refl, refl)
refused_end layout i source sink opening.WrongGroup there = (there, refl, refl)
refused_end layout i source sink opening.WrongLayout there = (there, refl, refl)
refused_end layout i source sink opening.StoreFault there = (there, refl, refl)
refused_end layout i source sink opening.Memory there = (there, loses_none source, inl refl, refl)

pub ends_stored : {S : Type 0} (g : Device S) (k : Ghosts (SqlKeeper S g)) (layout : LayoutState) (i : ℕ) (c after : Held S)
    (source source_after : SourceState) (sink sink_after : SinkState) (ended : Status) → i < layout.sites
    → EndsOver g k layout i c after source source_after sink sink_after ended
    → EndsStored layout i source source_after sink sink_after ended
ends_stored g k layout i c after source source_after sink sink_after ended there (inl run) =
    ran k layout i run.keeper run.keeper_after source source_after sink sink_after ended there run.ends
ends_stored g k layout i c after source source_after sink sink_after ended there (inr none) =
    subst (λ (s : Status). EndsStored layout i source source_after sink sink_after s) (sym none.status)
    (subst (λ (s : SourceState). EndsStored layout i source s sink sink_after (refusal_status none.error)) (sym none.unread)
    (subst (λ (s : SinkState). EndsStored layout i source source sink s (refusal_status none.error)) (sym none.silent)
    (refused_end layout i source sink none.error there)))
