-- What one operation leaves: counters and sessions that agree.
use Rattle.std.proofs.Common.{◌≡◌, ◌≢◌, ℕ, ◌+◌, ◌<◌, ◌≤◌, ◌⊎◌, inl, inr, Bool, true, false, cond, eqb, ◌∷◌, length, Option, Some, None, refl, sym, ap, subst, ◌∙◌, arith}
use Rattle.std.proofs.lemmas.Bool.{cases_eq, eq-eqb, ne_eqb, cond-true, cond-false}
use Rattle.merge_core.specs.declared.cell.Cell.TheVariants.{Out, Taken, Ann, Fin}
use Rattle.merge_core.specs.Counts.{counter_limit}
use Rattle.merge_core.specs.Notices.{most_writers}
use Rattle.admission_model.specs.Replies.{holder_limit}
use Rattle.session_list.specs.declared.session.Phase.{Phase}
use Rattle.session_list.specs.declared.session.Phase.TheVariants.{Reader, Waiting, Writer}
use Rattle.merge_core.specs.Sums.{total_others}
use Rattle.admission_model.specs.Account.{Account, seats_in, own, record_of, phase_of, arrivals, sessions_of, session_total, weight, writers, on_phase}
use Rattle.admission_model.specs.declared.operation.Operation.TheVariants.{EnteredRead, AnnouncedWriter, EnteredWrite, LeftRecord, GaveSeats}
use Rattle.admission_model.specs.declared.operation.Operation.{Operation}
use Rattle.admission_model.specs.View.{view_of, rights_of}
use Rattle.admission_model.specs.Sound.{IsBalanced, IsSound}
use Rattle.merge_core.proofs.SumLemmas.{total_others_zero, total_others_only, total_others_same}
use Rattle.admission_model.proofs.SessionLemmas.{session_arrives, session_changes, IsListed, IsListed-arrives, IsListed-changes, IsAmong, IsAmong-changes, AreHolders, AreHolders-changes}
use Rattle.admission_model.proofs.CounterLemmas.{does, Raises, Raises-elsewhere, own_here, own_elsewhere, balance_step}

pub cond_zero : (b : Bool) → ◌≡◌ {A = ℕ} (cond b 0 0) 0
cond_zero true = refl
cond_zero false = refl

-- an operation takes a holder at its record from one phase to another
pub record Takes (a : Account) (operation : Operation) (before after : Option Phase) : Type 0 where
  pub sums : (value : Phase → ℕ) (r : ℕ) → session_total value r (sessions_of (does operation a)) + cond (eqb (record_of operation) r) (on_phase value before) 0 ≡ session_total value r (sessions_of a) + cond (eqb (record_of operation) r) (on_phase value after) 0
  pub listed : IsListed (phase_of (does operation a)) (arrivals a.origin (operation ∷ a.done))
  pub among : IsAmong (length a.origin.layout.records) (phase_of (does operation a))
  pub held : AreHolders (phase_of (does operation a))

takes_here : (a : Account) (operation : Operation) (before after : Option Phase) → Takes a operation before after → (value : Phase → ℕ) → session_total value (record_of operation) (sessions_of (does operation a)) + on_phase value before ≡ session_total value (record_of operation) (sessions_of a) + on_phase value after
takes_here a operation before after takes value =
    let same : eqb (record_of operation) (record_of operation) ≡ true = eq-eqb (record_of operation) (record_of operation) refl in
    omega (
      arith,
      takes.sums value (record_of operation),
      cond-true {A = ℕ} (eqb (record_of operation) (record_of operation)) (on_phase value before) 0 same,
      cond-true {A = ℕ} (eqb (record_of operation) (record_of operation)) (on_phase value after) 0 same,
    )

takes_elsewhere : (a : Account) (operation : Operation) (before after : Option Phase) → Takes a operation before after → (value : Phase → ℕ) (r : ℕ) → eqb (record_of operation) r ≡ false → session_total value r (sessions_of (does operation a)) ≡ session_total value r (sessions_of a)
takes_elsewhere a operation before after takes value r e =
    omega (
      arith,
      takes.sums value r,
      cond-false {A = ℕ} (eqb (record_of operation) r) (on_phase value before) 0 e,
      cond-false {A = ℕ} (eqb (record_of operation) r) (on_phase value after) 0 e,
    )

-- what the operation asks of the numbers at its record
pub record IsPaid (a : Account) (operation : Operation) (before after : Option Phase) (out : ℕ → ℕ) (taken ann fin : ℕ) : Type 0 where
  pub raises : Raises a operation (record_of operation) out taken ann fin
  pub affordable : total_others (a.sites) a.origin.site out + taken ≤ rights_of (view_of a) (record_of operation)
  pub seats : taken + on_phase (weight (seats_in a.origin.layout (record_of operation))) before ≡ out a.origin.site + on_phase (weight (seats_in a.origin.layout (record_of operation))) after
  pub writers : ann + on_phase writers before ≡ fin + on_phase writers after
  pub few_taken : own a (record_of operation) Taken + taken ≤ counter_limit
  pub few_moved : (j : ℕ) → j ≢ a.origin.site → own a (record_of operation) (Out j) + out j ≤ counter_limit
  pub few_announced : own a (record_of operation) Ann + ann ≤ counter_limit
  pub few_writers : own a (record_of operation) Ann + ann ≤ own a (record_of operation) Fin + fin + most_writers
  pub sites_there : (j : ℕ) → a.sites ≤ j → out j ≡ 0
  pub record_there : record_of operation < length a.origin.layout.records

balanced_here : (a : Account) (operation : Operation) (before after : Option Phase) (out : ℕ → ℕ) (taken ann fin : ℕ) → IsSound a → Takes a operation before after → IsPaid a operation before after out taken ann fin → IsBalanced (does operation a) (record_of operation)
balanced_here a operation before after out taken ann fin sound takes paid =
    balance_step a operation (record_of operation) out taken ann fin sound.site_there (sound.balanced (record_of operation)) paid.raises
    (record {
      affordable = paid.affordable;
      seats = omega (arith, paid.seats, takes_here a operation before after takes (weight (seats_in a.origin.layout (record_of operation))));
      writers = omega (arith, paid.writers, takes_here a operation before after takes writers);
      few_taken = paid.few_taken;
      few_moved = paid.few_moved;
      few_announced = paid.few_announced;
      few_writers = paid.few_writers;
    })

balanced_elsewhere : (a : Account) (operation : Operation) (before after : Option Phase) → IsSound a → Takes a operation before after → (r : ℕ) → eqb (record_of operation) r ≡ false → IsBalanced (does operation a) r
balanced_elsewhere a operation before after sound takes r e =
    let now = sound.balanced r in
    balance_step a operation r (λ j. 0) 0 0 0 sound.site_there now (Raises-elsewhere a operation r e)
    (record {
      affordable = omega (arith, total_others_zero (a.sites) a.origin.site (λ j. 0) (λ j. refl));
      seats = omega (arith, takes_elsewhere a operation before after takes (weight (seats_in a.origin.layout r)) r e);
      writers = omega (arith, takes_elsewhere a operation before after takes writers r e);
      few_taken = omega (arith, now.fits.few_taken);
      few_moved = λ j apart. omega (arith, now.fits.few_moved j apart);
      few_announced = omega (arith, now.fits.few_announced);
      few_writers = omega (arith, now.writers, now.few_writers);
    })

pub sound_step : (a : Account) (operation : Operation) (before after : Option Phase) (out : ℕ → ℕ) (taken ann fin : ℕ) → IsSound a → Takes a operation before after → IsPaid a operation before after out taken ann fin → IsSound (does operation a)
sound_step a operation before after out taken ann fin sound takes paid = record {
  site_there = sound.site_there;
  listed_once = takes.listed;
  record_there = takes.among;
  holder_there = takes.held;
  balanced = λ r. at r (cases_eq (record_of operation) r);
  told_fits = sound.told_fits;
  told_after_done = λ r cell. omega (arith, sound.told_after_done r cell);
  no_others = record {
    none_sent = λ r j past. none_sent r j past (cases_eq (record_of operation) r);
    none_told = sound.no_others.none_told;
    none_told_sent = sound.no_others.none_told_sent;
  };
  no_other_records = record {
    none_done = λ r cell past.
        own_elsewhere a operation r cell (ne_eqb (record_of operation) r (λ e. absurd (omega (arith, paid.record_there)))) ∙ omega (arith, sound.no_other_records.none_done r cell past);
    none_heard = sound.no_other_records.none_heard;
  };
}
  where
    none_sent : (r j : ℕ) → a.sites ≤ j → (record_of operation ≡ r) ⊎ (record_of operation ≡ r → ⊥) → own (does operation a) r (Out j) ≡ 0
    none_sent r j past (inl e) =
        ap (λ x. own (does operation a) x (Out j)) (sym e)
        ∙ (paid.raises.outs j ∙ omega (arith, sound.no_others.none_sent (record_of operation) j past, paid.sites_there j past))
    none_sent r j past (inr ne) =
        (Raises-elsewhere a operation r (ne_eqb (record_of operation) r ne)).outs j ∙ omega (arith, sound.no_others.none_sent r j past)

    at : (r : ℕ) → (record_of operation ≡ r) ⊎ (record_of operation ≡ r → ⊥) → IsBalanced (does operation a) r
    at r (inl e) = subst (λ (x : ℕ). IsBalanced (does operation a) x) e (balanced_here a operation before after out taken ann fin sound takes paid)
    at r (inr ne) = balanced_elsewhere a operation before after sound takes r (ne_eqb (record_of operation) r ne)

-- a holder without a session arrives
arrives_takes : (a : Account) (r h : ℕ) → r < length a.origin.layout.records → h ≤ holder_limit → phase_of a r h ≡ None → IsSound a → Takes a (EnteredRead r h) None (Some Reader)
arrives_takes a r h below holder none sound = record {
  sums = λ value r2. omega (arith, session_arrives value r2 r h (Some Reader) (phase_of a) (arrivals a.origin a.done) none, cond_zero (eqb r r2));
  listed = IsListed-arrives r h (Some Reader) (phase_of a) (arrivals a.origin a.done) sound.listed_once;
  among = IsAmong-changes (length a.origin.layout.records) r h (Some Reader) (phase_of a) below sound.record_there;
  held = AreHolders-changes r h (Some Reader) (phase_of a) holder sound.holder_there;
}

announces_takes : (a : Account) (r h : ℕ) → r < length a.origin.layout.records → h ≤ holder_limit → phase_of a r h ≡ None → IsSound a → Takes a (AnnouncedWriter r h) None (Some Waiting)
announces_takes a r h below holder none sound = record {
  sums = λ value r2. omega (arith, session_arrives value r2 r h (Some Waiting) (phase_of a) (arrivals a.origin a.done) none, cond_zero (eqb r r2));
  listed = IsListed-arrives r h (Some Waiting) (phase_of a) (arrivals a.origin a.done) sound.listed_once;
  among = IsAmong-changes (length a.origin.layout.records) r h (Some Waiting) (phase_of a) below sound.record_there;
  held = AreHolders-changes r h (Some Waiting) (phase_of a) holder sound.holder_there;
}

here_before : (a : Account) (r h r2 : ℕ) (before : Option Phase) (value : Phase → ℕ) → phase_of a r h ≡ before → cond (eqb r r2) (on_phase value (phase_of a r h)) 0 ≡ cond (eqb r r2) (on_phase value before) 0
here_before a r h r2 before value e = ap (λ o. cond (eqb r r2) (on_phase value o) 0) e

writes_takes : (a : Account) (r h : ℕ) → phase_of a r h ≡ Some Waiting → IsSound a → Takes a (EnteredWrite r h) (Some Waiting) (Some Writer)
writes_takes a r h waits sound = record {
  sums = λ value r2. omega (arith, session_changes value r2 r h (Some Writer) (phase_of a) (arrivals a.origin a.done) (sound.listed_once r h Waiting waits), here_before a r h r2 (Some Waiting) value waits);
  listed = IsListed-changes r h (Some Writer) (phase_of a) (arrivals a.origin a.done) (sound.listed_once r h Waiting waits) sound.listed_once;
  among = IsAmong-changes (length a.origin.layout.records) r h (Some Writer) (phase_of a) (sound.record_there r h Waiting waits) sound.record_there;
  held = AreHolders-changes r h (Some Writer) (phase_of a) (sound.holder_there r h Waiting waits) sound.holder_there;
}

leaves_takes : (a : Account) (r h : ℕ) (p : Phase) → phase_of a r h ≡ Some p → IsSound a → Takes a (LeftRecord r h) (Some p) None
leaves_takes a r h p there sound = record {
  sums = λ value r2. omega (arith, session_changes value r2 r h None (phase_of a) (arrivals a.origin a.done) (sound.listed_once r h p there), here_before a r h r2 (Some p) value there, cond_zero (eqb r r2));
  listed = IsListed-changes r h None (phase_of a) (arrivals a.origin a.done) (sound.listed_once r h p there) sound.listed_once;
  among = IsAmong-changes (length a.origin.layout.records) r h None (phase_of a) (sound.record_there r h p there) sound.record_there;
  held = AreHolders-changes r h None (phase_of a) (sound.holder_there r h p there) sound.holder_there;
}

gives_takes : (a : Account) (r to seats : ℕ) → IsSound a → Takes a (GaveSeats r to seats) None None
gives_takes a r to seats sound = record {
  sums = λ value r2. refl;
  listed = sound.listed_once;
  among = sound.record_there;
  held = sound.holder_there;
}

pub sound_read : (a : Account) (r h : ℕ) → IsSound a → r < length a.origin.layout.records → h ≤ holder_limit → phase_of a r h ≡ None → own a r Taken + 1 ≤ counter_limit → 1 ≤ rights_of (view_of a) r → IsSound (does (EnteredRead r h) a)
sound_read a r h sound below holder none room seats =
    sound_step a (EnteredRead r h) None (Some Reader) (λ j. 0) 1 0 0 sound (arrives_takes a r h below holder none sound)
    (record {
      raises = record { outs = λ j. own_here a (EnteredRead r h) (Out j); takens = own_here a (EnteredRead r h) Taken; anns = own_here a (EnteredRead r h) Ann; fins = own_here a (EnteredRead r h) Fin };
      affordable = omega (arith, total_others_zero (a.sites) a.origin.site (λ j. 0) (λ j. refl));
      seats = refl;
      writers = refl;
      few_taken = room;
      few_moved = λ j apart. omega (arith, (sound.balanced r).fits.few_moved j apart);
      few_announced = omega (arith, (sound.balanced r).fits.few_announced);
      few_writers = omega (arith, (sound.balanced r).writers, (sound.balanced r).few_writers);
      sites_there = λ j past. refl;
      record_there = below;
    })

pub sound_announce : (a : Account) (r h : ℕ) → IsSound a → r < length a.origin.layout.records → h ≤ holder_limit → phase_of a r h ≡ None → own a r Ann + 1 ≤ counter_limit → own a r Ann + 1 ≤ own a r Fin + most_writers → IsSound (does (AnnouncedWriter r h) a)
sound_announce a r h sound below holder none room few =
    sound_step a (AnnouncedWriter r h) None (Some Waiting) (λ j. 0) 0 1 0 sound (announces_takes a r h below holder none sound)
    (record {
      raises = record { outs = λ j. own_here a (AnnouncedWriter r h) (Out j); takens = own_here a (AnnouncedWriter r h) Taken; anns = own_here a (AnnouncedWriter r h) Ann; fins = own_here a (AnnouncedWriter r h) Fin };
      affordable = omega (arith, total_others_zero (a.sites) a.origin.site (λ j. 0) (λ j. refl));
      seats = refl;
      writers = refl;
      few_taken = omega (arith, (sound.balanced r).fits.few_taken);
      few_moved = λ j apart. omega (arith, (sound.balanced r).fits.few_moved j apart);
      few_announced = room;
      few_writers = omega (arith, few);
      sites_there = λ j past. refl;
      record_there = below;
    })

pub sound_write : (a : Account) (r h : ℕ) → IsSound a → phase_of a r h ≡ Some Waiting → own a r Taken + seats_in a.origin.layout r ≤ counter_limit → seats_in a.origin.layout r ≤ rights_of (view_of a) r → IsSound (does (EnteredWrite r h) a)
sound_write a r h sound waits room enough =
    let seats = seats_in a.origin.layout r in
    sound_step a (EnteredWrite r h) (Some Waiting) (Some Writer) (λ j. 0) seats 0 0 sound (writes_takes a r h waits sound)
    (record {
      raises = record { outs = λ j. own_here a (EnteredWrite r h) (Out j); takens = own_here a (EnteredWrite r h) Taken; anns = own_here a (EnteredWrite r h) Ann; fins = own_here a (EnteredWrite r h) Fin };
      affordable = omega (arith, total_others_zero (a.sites) a.origin.site (λ j. 0) (λ j. refl));
      seats = omega arith;
      writers = refl;
      few_taken = room;
      few_moved = λ j apart. omega (arith, (sound.balanced r).fits.few_moved j apart);
      few_announced = omega (arith, (sound.balanced r).fits.few_announced);
      few_writers = omega (arith, (sound.balanced r).writers, (sound.balanced r).few_writers);
      sites_there = λ j past. refl;
      record_there = sound.record_there r h Waiting waits;
    })

pub sound_leave : (a : Account) (r h : ℕ) (p : Phase) → IsSound a → phase_of a r h ≡ Some p → IsSound (does (LeftRecord r h) a)
sound_leave a r h p sound there =
    let w = weight (seats_in a.origin.layout r) p in
    let back = λ (j : ℕ). cond (eqb j a.origin.site) w 0 in
    let weighs : on_phase (weight (seats_in a.origin.layout r)) (phase_of a r h) ≡ w = ap (on_phase (weight (seats_in a.origin.layout r))) there in
    let counts : on_phase writers (phase_of a r h) ≡ writers p = ap (on_phase writers) there in
    sound_step a (LeftRecord r h) (Some p) None back 0 0 (writers p) sound (leaves_takes a r h p there sound)
    (record {
      raises = record {
        outs = λ j. own_here a (LeftRecord r h) (Out j) ∙ ap (λ x. own a r (Out j) + cond (eqb j a.origin.site) x 0) weighs;
        takens = own_here a (LeftRecord r h) Taken;
        anns = own_here a (LeftRecord r h) Ann;
        fins = own_here a (LeftRecord r h) Fin ∙ ap (λ x. own a r Fin + x) counts;
      };
      affordable = omega (arith, nothing);
      seats = omega (arith, cond-true {A = ℕ} (eqb a.origin.site a.origin.site) w 0 (eq-eqb a.origin.site a.origin.site refl));
      writers = omega arith;
      few_taken = omega (arith, (sound.balanced r).fits.few_taken);
      few_moved = λ j apart. omega (arith, (sound.balanced r).fits.few_moved j apart, cond-false {A = ℕ} (eqb j a.origin.site) w 0 (ne_eqb j a.origin.site apart));
      few_announced = omega (arith, (sound.balanced r).fits.few_announced);
      few_writers = omega (arith, (sound.balanced r).writers, (sound.balanced r).few_writers);
      sites_there = λ j past. cond-false {A = ℕ} (eqb j a.origin.site) w 0 (ne_eqb j a.origin.site (λ e. absurd (omega (arith, sound.site_there))));
      record_there = sound.record_there r h p there;
    })
  where
    nothing : total_others (a.sites) a.origin.site (λ j. cond (eqb j a.origin.site) (weight (seats_in a.origin.layout r) p) 0) ≡ 0
    nothing =
        let i = a.origin.site in
        let w = weight (seats_in a.origin.layout r) p in
        total_others_same (a.sites) i (λ j. cond (eqb j i) w 0) (λ j. 0) (λ j below apart. cond-false {A = ℕ} (eqb j i) w 0 (ne_eqb j i apart))
        ∙ total_others_zero (a.sites) i (λ j. 0) (λ j. refl)

pub sound_give : (a : Account) (r to seats : ℕ) → IsSound a → r < length a.origin.layout.records → to < a.sites → to ≢ a.origin.site → own a r (Out to) + seats ≤ counter_limit → seats ≤ rights_of (view_of a) r → IsSound (does (GaveSeats r to seats) a)
sound_give a r to seats sound below there apart_to room enough =
    let sent = λ (j : ℕ). cond (eqb j to) seats 0 in
    sound_step a (GaveSeats r to seats) None None sent 0 0 0 sound (gives_takes a r to seats sound)
    (record {
      raises = record { outs = λ j. own_here a (GaveSeats r to seats) (Out j); takens = own_here a (GaveSeats r to seats) Taken; anns = own_here a (GaveSeats r to seats) Ann; fins = own_here a (GaveSeats r to seats) Fin };
      affordable = omega (arith, total_others_only (a.sites) a.origin.site to seats there apart_to);
      seats = omega (arith, cond-false {A = ℕ} (eqb a.origin.site to) seats 0 (ne_eqb a.origin.site to (λ e. apart_to (sym e))));
      writers = refl;
      few_taken = omega (arith, (sound.balanced r).fits.few_taken);
      few_moved = λ j apart. moved j apart (cases_eq j to);
      few_announced = omega (arith, (sound.balanced r).fits.few_announced);
      few_writers = omega (arith, (sound.balanced r).writers, (sound.balanced r).few_writers);
      sites_there = λ j past. cond-false {A = ℕ} (eqb j to) seats 0 (ne_eqb j to (λ e. absurd (omega (arith, there))));
      record_there = below;
    })
  where
    moved : (j : ℕ) → j ≢ a.origin.site → (j ≡ to) ⊎ (j ≡ to → ⊥) → own a r (Out j) + cond (eqb j to) seats 0 ≤ counter_limit
    moved j apart (inl e) =
        let same : own a r (Out j) ≡ own a r (Out to) = ap (λ x. own a r (Out x)) e in
        omega (arith, cond-true {A = ℕ} (eqb j to) seats 0 (eq-eqb j to e))
    moved j apart (inr ne) = omega (arith, (sound.balanced r).fits.few_moved j apart, cond-false {A = ℕ} (eqb j to) seats 0 (ne_eqb j to ne))
