-- Known notices are never forgotten, and a reader is never admitted where one is unfinished.
use Rattle.std.proofs.Common.{◌≡◌, ◌≢◌, ℕ, ◌<◌, ◌≤◌, ◌⊎◌, inl, inr, true, leb, eqb, Option, Some, None, is_some, refl, sym, ap, ◌∙◌, arith}
use Rattle.std.proofs.lemmas.Bool.{cases_eq, cases_lt, cond_both, eq-eqb, lt-ltb, and_from, false≢true}
use Rattle.merge_core.specs.declared.cell.Cell.{Cell}
use Rattle.merge_core.specs.declared.cell.Cell.TheVariants.{Out, Taken, Ann, Fin}
use Rattle.merge_core.specs.Changes.{keeps_counter}
use Rattle.admission_model.specs.declared.ask.Ask.TheVariants.{Read}
use Rattle.admission_model.specs.declared.ask.Call.{Call}
use Rattle.admission_model.specs.declared.ask.Call.TheVariants.{Ask as AskCall, Merge, Snapshot as SnapshotCall}
use Rattle.admission_model.specs.declared.reply.Reply.TheVariants.{Admitted}
use Rattle.admission_model.specs.Account.{Account, own}
use Rattle.admission_model.specs.Knowledge.{known, told, hears, grown}
use Rattle.admission_model.specs.View.{view_of, problem_in, first_unfinished, shows_writer}
use Rattle.admission_model.specs.Replies.{must_wait, read_lines, ask_lines, merge_lines}
use Rattle.admission_model.specs.Serving.{reply_of, replied, advanced, unless_refused, after, Step, Serves, Restarts, Grows, after_step}
use Rattle.admission_model.specs.Sound.{IsSound}
use Rattle.admission_model.proofs.CounterLemmas.{known_own, known_other}
use Rattle.admission_model.proofs.LeastLemmas.{least_below-none}
use Rattle.admission_model.proofs.HeardLemmas.{kept_yes}
use Rattle.admission_model.proofs.ServingLemmas.{first_both, Clear}

-- a counter that every site keeps
abbrev pub IsNotice : Cell → Type 0
IsNotice (Out j) = ⊥
IsNotice Taken = ⊥
IsNotice Ann = Unit {0}
IsNotice Fin = Unit {0}

notice_kept : (i s : ℕ) (cell : Cell) → IsNotice cell → keeps_counter i s cell ≡ true
notice_kept i s (Out j) out = elim out [ ]
notice_kept i s Taken out = elim out [ ]
notice_kept i s Ann is = refl
notice_kept i s Fin is = refl

-- what is known rises with what was done and what was told
known_rises : (a b : Account) (r s : ℕ) (cell : Cell) → b.origin ≡ a.origin → own a r cell ≤ own b r cell → told a r s cell ≤ told b r s cell → known a r s cell ≤ known b r s cell
known_rises a b r s cell same more heard = at (cases_eq s a.origin.site)
  where
    at : (s ≡ a.origin.site) ⊎ (s ≡ a.origin.site → ⊥) → known a r s cell ≤ known b r s cell
    at (inl e) =
        let mine : known a r s cell ≡ own a r cell = ap (λ x. known a r x cell) e ∙ known_own a r cell in
        let yours : known b r s cell ≡ own b r cell = ap (λ x. known b r x cell) (e ∙ sym (ap (λ o. o.site) same)) ∙ known_own b r cell in
        omega arith
    at (inr ne) =
        omega (arith, known_other a r s cell ne, known_other b r s cell (λ e. ne (e ∙ ap (λ o. o.site) same)))

pub known_after : (a : Account) (call : Call) (r s : ℕ) (cell : Cell) → known a r s cell ≤ known (after a call) r s cell
known_after a (AskCall ask) r s cell =
    first_both (λ o. known a r s cell ≤ known (unless_refused o a (advanced a (AskCall ask))) r s cell) (ask_lines (view_of a) ask) (λ x. omega arith)
    (λ clear. known_rises a (advanced a (AskCall ask)) r s cell refl (omega arith) (omega arith))
known_after a (Merge delta) r s cell =
    first_both (λ o. known a r s cell ≤ known (unless_refused o a (hears a delta.rows)) r s cell) (merge_lines (view_of a) delta) (λ x. omega arith)
    (λ clear. known_rises a (hears a delta.rows) r s cell refl (omega arith) (omega arith))
known_after a SnapshotCall r s cell = omega arith

pub known_grown : (a : Account) (n r s : ℕ) (cell : Cell) → IsNotice cell → known a r s cell ≤ known (grown n a) r s cell
known_grown a n r s cell is =
    known_rises a (grown n a) r s cell refl (omega arith) (omega (arith, kept_yes a.origin (told a) r s cell (notice_kept a.origin.site s cell is)))

-- no step takes a known notice away
pub notices_stay : (a : Account) (step : Step) (r s : ℕ) (cell : Cell) → IsNotice cell → known a r s cell ≤ known (after_step a step) r s cell
notices_stay a (Serves call) r s cell is = known_after a call r s cell
notices_stay a Restarts r s cell is = known_grown a a.sites r s cell is
notices_stay a (Grows n) r s cell is =
    cond_both (leb a.sites n) (grown n a) a (λ b. known a r s cell ≤ known b r s cell) (λ e. known_grown a n r s cell is) (λ e. omega arith)

pub announced_stay : (a : Account) (step : Step) (r s : ℕ) → known a r s Ann ≤ known (after_step a step) r s Ann
announced_stay a step r s = notices_stay a step r s Ann tt

pub finished_stay : (a : Account) (step : Step) (r s : ℕ) → known a r s Fin ≤ known (after_step a step) r s Fin
finished_stay a step r s = notices_stay a step r s Fin tt

-- a site that shows an unfinished writer is one that the account knows
writer_known : (a : Account) (r s : ℕ) → IsSound a → known a r s Fin < known a r s Ann → s < a.sites
writer_known a r s sound unfinished = at (cases_lt s a.sites)
  where
    at : (s < a.sites) ⊎ (a.sites ≤ s) → s < a.sites
    at (inl below) = below
    at (inr past) =
        absurd (omega (arith, unfinished, known_other a r s Ann (λ e. absurd (omega (arith, sound.site_there))), sound.no_others.none_told r s Ann past))

some_first : (a : Account) (r s : ℕ) → IsSound a → known a r s Fin < known a r s Ann → is_some (first_unfinished (view_of a) r) ≡ true
some_first a r s sound unfinished = at (first_unfinished (view_of a) r) refl
  where
    at : (o : Option ℕ) → first_unfinished (view_of a) r ≡ o → is_some (first_unfinished (view_of a) r) ≡ true
    at (Some w) e = ap is_some e
    at None e =
        let gone = least_below-none a.sites (shows_writer (view_of a) r) e s (writer_known a r s sound unfinished) in
        absurd (false≢true (sym gone ∙ lt-ltb (known a r s Fin) (known a r s Ann) unfinished))

-- under problem 2 no reader is admitted where some site shows an unfinished writer
pub none_admitted : (a : Account) (r h s : ℕ) → IsSound a → problem_in a.origin.layout r ≡ 2 → known a r s Fin < known a r s Ann → reply_of (view_of a) (AskCall (Read r h)) ≢ Admitted
none_admitted a r h s sound second unfinished =
    first_both (λ o. replied o Admitted ≡ Admitted → ⊥) (read_lines (view_of a) r h) (λ x e. cc) (λ clear e. at clear)
  where
    waits : must_wait (view_of a) r ≡ true
    waits = and_from (eqb (problem_in a.origin.layout r) 2) (is_some (first_unfinished (view_of a) r)) (eq-eqb (problem_in a.origin.layout r) 2 second) (some_first a r s sound unfinished)

    at : Clear (read_lines (view_of a) r h) → ⊥
    at clear = false≢true (sym clear.1.1.1.1.0 ∙ waits)
