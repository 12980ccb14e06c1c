-- A reply is logged, or tells of want of memory, of a stopped site or of a full log.
use Rattle.std.proofs.Common.{◌≡◌, ◌≤◌, ◌⊎◌, inl, inr, true, false, refl, ap, arith}
use Rattle.admission_model.specs.declared.reply.Refusal.{Refusal}
use Rattle.admission_model.specs.declared.reply.Refusal.TheVariants as Why
use Rattle.admission_model.specs.declared.reply.Reply.{Reply}
use Rattle.admission_model.specs.declared.reply.Reply.TheVariants.{Admitted, Announced, Left, Given, Gave, Merged, Snapshot, Refused}
use Rattle.admission_model.specs.declared.ask.Call.TheVariants.{Merge}
use Rattle.merge_core.specs.Delta.{DeltaState}
use Rattle.session_book.specs.Log.{is_logged}
use Rattle.session_book.specs.Following.{CanFollow, RefusesSnapshot, most_raised}
use Rattle.session_book.specs.Passes.{is_frozen_reply, is_full_reply}
use Rattle.exchange_threads.specs.Turns.{turn_after}
use Rattle.exchange_threads.specs.Inbox.{raise_of}
use Rattle.exchange_threads.specs.declared.turn.Turn.TheVariants.{GoesOn}

-- a reply that is logged
pub record IsPlain (reply : Reply) : Type 0 where
  pub logged : is_logged reply ≡ true
  pub frozen : is_frozen_reply reply ≡ false
  pub full : is_full_reply reply ≡ false
  pub turn : turn_after reply ≡ GoesOn

-- every reply is one of these
pub reply_kind : (reply : Reply) → IsPlain reply ⊎ ((reply ≡ Refused Why.Memory) ⊎ ((reply ≡ Refused Why.Frozen) ⊎ (reply ≡ Refused Why.LogFull)))
reply_kind Admitted = inl record { logged = refl; frozen = refl; full = refl; turn = refl }
reply_kind (Announced n) = inl record { logged = refl; frozen = refl; full = refl; turn = refl }
reply_kind (Left p) = inl record { logged = refl; frozen = refl; full = refl; turn = refl }
reply_kind Given = inl record { logged = refl; frozen = refl; full = refl; turn = refl }
reply_kind (Gave to seats) = inl record { logged = refl; frozen = refl; full = refl; turn = refl }
reply_kind (Merged n) = inl record { logged = refl; frozen = refl; full = refl; turn = refl }
reply_kind (Snapshot d) = inl record { logged = refl; frozen = refl; full = refl; turn = refl }
reply_kind (Refused Why.NoRecord) = inl record { logged = refl; frozen = refl; full = refl; turn = refl }
reply_kind (Refused Why.BadHolder) = inl record { logged = refl; frozen = refl; full = refl; turn = refl }
reply_kind (Refused Why.AlreadyHere) = inl record { logged = refl; frozen = refl; full = refl; turn = refl }
reply_kind (Refused Why.CounterFull) = inl record { logged = refl; frozen = refl; full = refl; turn = refl }
reply_kind (Refused (Why.WriterAnnounced site)) = inl record { logged = refl; frozen = refl; full = refl; turn = refl }
reply_kind (Refused (Why.NoSeat rights)) = inl record { logged = refl; frozen = refl; full = refl; turn = refl }
reply_kind (Refused Why.TooManyWriters) = inl record { logged = refl; frozen = refl; full = refl; turn = refl }
reply_kind (Refused Why.NotAnnounced) = inl record { logged = refl; frozen = refl; full = refl; turn = refl }
reply_kind (Refused Why.AlreadyInside) = inl record { logged = refl; frozen = refl; full = refl; turn = refl }
reply_kind (Refused (Why.MissingSeats rights seats)) = inl record { logged = refl; frozen = refl; full = refl; turn = refl }
reply_kind (Refused Why.NotHere) = inl record { logged = refl; frozen = refl; full = refl; turn = refl }
reply_kind (Refused Why.NoSite) = inl record { logged = refl; frozen = refl; full = refl; turn = refl }
reply_kind (Refused Why.ToSelf) = inl record { logged = refl; frozen = refl; full = refl; turn = refl }
reply_kind (Refused Why.ZeroSeats) = inl record { logged = refl; frozen = refl; full = refl; turn = refl }
reply_kind (Refused (Why.TooFewRights rights)) = inl record { logged = refl; frozen = refl; full = refl; turn = refl }
reply_kind (Refused Why.NoPlan) = inl record { logged = refl; frozen = refl; full = refl; turn = refl }
reply_kind (Refused (Why.OtherLayout row)) = inl record { logged = refl; frozen = refl; full = refl; turn = refl }
reply_kind (Refused (Why.BadRow row)) = inl record { logged = refl; frozen = refl; full = refl; turn = refl }
reply_kind (Refused (Why.OwnRowAhead r)) = inl record { logged = refl; frozen = refl; full = refl; turn = refl }
reply_kind (Refused Why.Memory) = inr (inl refl)
reply_kind (Refused Why.Frozen) = inr (inr (inl refl))
reply_kind (Refused Why.LogFull) = inr (inr (inr refl))
reply_kind (Refused Why.StoreFault) = inl record { logged = refl; frozen = refl; full = refl; turn = refl }

-- a merge raises no more counters than there are
pub few_raised : (d : DeltaState) (reply : Reply) → CanFollow (Merge d) reply → raise_of reply ≤ most_raised
few_raised d reply (inl (n, (is, few))) = omega (arith, few, ap raise_of is)
few_raised d reply (inr (refusal, (is, may))) = omega (arith, ap raise_of is)

-- why there is no snapshot
pub unshown_kind : (why : Refusal) → RefusesSnapshot why → (why ≡ Why.Memory) ⊎ ((why ≡ Why.Frozen) ⊎ (why ≡ Why.LogFull))
unshown_kind Why.NoRecord may = absurd may
unshown_kind Why.BadHolder may = absurd may
unshown_kind Why.AlreadyHere may = absurd may
unshown_kind Why.CounterFull may = absurd may
unshown_kind (Why.WriterAnnounced site) may = absurd may
unshown_kind (Why.NoSeat rights) may = absurd may
unshown_kind Why.TooManyWriters may = absurd may
unshown_kind Why.NotAnnounced may = absurd may
unshown_kind Why.AlreadyInside may = absurd may
unshown_kind (Why.MissingSeats rights seats) may = absurd may
unshown_kind Why.NotHere may = absurd may
unshown_kind Why.NoSite may = absurd may
unshown_kind Why.ToSelf may = absurd may
unshown_kind Why.ZeroSeats may = absurd may
unshown_kind (Why.TooFewRights rights) may = absurd may
unshown_kind Why.NoPlan may = absurd may
unshown_kind (Why.OtherLayout row) may = absurd may
unshown_kind (Why.BadRow row) may = absurd may
unshown_kind (Why.OwnRowAhead r) may = absurd may
unshown_kind Why.Memory may = inl refl
unshown_kind Why.Frozen may = inr (inl refl)
unshown_kind Why.LogFull may = inr (inr refl)
unshown_kind Why.StoreFault may = absurd may
