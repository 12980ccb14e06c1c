-- Known counters and rights, read off what a site did and what it was told.
use Rattle.std.proofs.Common.{◌≡◌, ◌≢◌, ℕ, ◌+◌, ◌<◌, ◌≤◌, false, eqb, ◌∷◌, refl, ap, ◌∙◌, arith}
use Rattle.std.proofs.lemmas.Bool.{eq-eqb, ne_eqb, cond-true, cond-false}
use Rattle.merge_core.specs.declared.cell.Cell.{Cell}
use Rattle.merge_core.specs.declared.cell.Cell.TheVariants.{Out, Taken, Ann, Fin}
use Rattle.merge_core.specs.Layout.{shape_of}
use Rattle.merge_core.specs.Counts.{counter_limit}
use Rattle.merge_core.specs.Notices.{most_writers}
use Rattle.merge_core.specs.Rows.{grant}
use Rattle.merge_core.specs.Sums.{total_others}
use Rattle.admission_model.specs.Account.{Account, seats_in, own, rise_of, record_of, phase_of, inside, writers_here}
use Rattle.admission_model.specs.declared.operation.Operation.{Operation}
use Rattle.admission_model.specs.Knowledge.{known, told}
use Rattle.admission_model.specs.View.{view_of, gained, spent, rights_of}
use Rattle.admission_model.specs.Sound.{IsBalanced}
use Rattle.merge_core.proofs.SumLemmas.{total_split, total_others_same, total_others_add}

pub known_own : (a : Account) (r : ℕ) (cell : Cell) → known a r a.origin.site cell ≡ own a r cell
known_own a r cell = cond-true (eqb a.origin.site a.origin.site) (own a r cell) (told a r a.origin.site cell) (eq-eqb a.origin.site a.origin.site refl)

pub known_other : (a : Account) (r s : ℕ) (cell : Cell) → s ≢ a.origin.site → known a r s cell ≡ told a r s cell
known_other a r s cell apart = cond-false (eqb s a.origin.site) (own a r cell) (told a r s cell) (ne_eqb s a.origin.site apart)

pub gained_own : (a : Account) (r : ℕ) → a.origin.site < a.sites → gained (view_of a) r ≡ own a r (Out a.origin.site) + total_others (a.sites) a.origin.site (λ j. told a r j (Out a.origin.site))
gained_own a r below =
    let n = a.sites in
    let i = a.origin.site in
    total_split n i (λ j. known a r j (Out i)) below
    ∙ (ap (λ x. x + total_others n i (λ j. known a r j (Out i))) (known_own a r (Out i))
    ∙ ap (λ x. own a r (Out i) + x) (total_others_same n i (λ j. known a r j (Out i)) (λ j. told a r j (Out i)) (λ j lower apart. known_other a r j (Out i) apart)))

pub spent_own : (a : Account) (r : ℕ) → spent (view_of a) r ≡ total_others (a.sites) a.origin.site (λ j. own a r (Out j)) + own a r Taken
spent_own a r =
    let n = a.sites in
    let i = a.origin.site in
    omega (arith, known_own a r Taken, total_others_same n i (λ j. known a r i (Out j)) (λ j. own a r (Out j)) (λ j lower apart. known_own a r (Out j)))

-- the account after one more operation
abbrev pub does : Operation → Account → Account
does operation a = record a { done = operation ∷ a.done }

-- by how much an operation raises the counters of a record
pub record Raises (a : Account) (operation : Operation) (r : ℕ) (out : ℕ → ℕ) (taken ann fin : ℕ) : Type 0 where
  pub outs : (j : ℕ) → own (does operation a) r (Out j) ≡ own a r (Out j) + out j
  pub takens : own (does operation a) r Taken ≡ own a r Taken + taken
  pub anns : own (does operation a) r Ann ≡ own a r Ann + ann
  pub fins : own (does operation a) r Fin ≡ own a r Fin + fin

pub own_here : (a : Account) (operation : Operation) (cell : Cell) → own (does operation a) (record_of operation) cell ≡ own a (record_of operation) cell + rise_of (seats_in a.origin.layout) a.origin.site (phase_of a) operation cell
own_here a operation cell =
    ap (λ x. own a (record_of operation) cell + x)
    (cond-true (eqb (record_of operation) (record_of operation)) (rise_of (seats_in a.origin.layout) a.origin.site (phase_of a) operation cell) 0 (eq-eqb (record_of operation) (record_of operation) refl))

pub own_elsewhere : (a : Account) (operation : Operation) (r : ℕ) (cell : Cell) → eqb (record_of operation) r ≡ false → own (does operation a) r cell ≡ own a r cell + 0
own_elsewhere a operation r cell e =
    ap (λ x. own a r cell + x) (cond-false (eqb (record_of operation) r) (rise_of (seats_in a.origin.layout) a.origin.site (phase_of a) operation cell) 0 e)

pub Raises-elsewhere : (a : Account) (operation : Operation) (r : ℕ) → eqb (record_of operation) r ≡ false → Raises a operation r (λ j. 0) 0 0 0
Raises-elsewhere a operation r e = record {
  outs = λ j. own_elsewhere a operation r (Out j) e;
  takens = own_elsewhere a operation r Taken e;
  anns = own_elsewhere a operation r Ann e;
  fins = own_elsewhere a operation r Fin e;
}

pub gained_step : (a : Account) (operation : Operation) (r : ℕ) (out : ℕ → ℕ) (taken ann fin : ℕ) → a.origin.site < a.sites → Raises a operation r out taken ann fin → gained (view_of (does operation a)) r ≡ gained (view_of a) r + out a.origin.site
gained_step a operation r out taken ann fin below raises =
    omega (arith, gained_own (does operation a) r below, gained_own a r below, raises.outs a.origin.site)

pub spent_step : (a : Account) (operation : Operation) (r : ℕ) (out : ℕ → ℕ) (taken ann fin : ℕ) → Raises a operation r out taken ann fin → spent (view_of (does operation a)) r ≡ spent (view_of a) r + (total_others (a.sites) a.origin.site out + taken)
spent_step a operation r out taken ann fin raises =
    let n = a.sites in
    let i = a.origin.site in
    omega (
      arith,
      spent_own (does operation a) r,
      spent_own a r,
      raises.takens,
      total_others_same n i (λ j. own (does operation a) r (Out j)) (λ j. own a r (Out j) + out j) (λ j lower apart. raises.outs j),
      total_others_add n i (λ j. own a r (Out j)) out,
    )

-- what an operation has to leave so that a record's counters and sessions still agree
pub record IsAllowed (a : Account) (operation : Operation) (r : ℕ) (out : ℕ → ℕ) (taken ann fin : ℕ) : Type 0 where
  pub affordable : total_others (a.sites) a.origin.site out + taken ≤ rights_of (view_of a) r
  pub seats : taken + inside a r ≡ out a.origin.site + inside (does operation a) r
  pub writers : ann + writers_here a r ≡ fin + writers_here (does operation a) r
  pub few_taken : own a r Taken + taken ≤ counter_limit
  pub few_moved : (j : ℕ) → j ≢ a.origin.site → own a r (Out j) + out j ≤ counter_limit
  pub few_announced : own a r Ann + ann ≤ counter_limit
  pub few_writers : own a r Ann + ann ≤ own a r Fin + fin + most_writers

pub balance_step : (a : Account) (operation : Operation) (r : ℕ) (out : ℕ → ℕ) (taken ann fin : ℕ) → a.origin.site < a.sites → IsBalanced a r → Raises a operation r out taken ann fin → IsAllowed a operation r out taken ann fin → IsBalanced (does operation a) r
balance_step a operation r out taken ann fin below balanced raises allowed =
    let after_seats : own (does operation a) r Taken + grant (shape_of a.origin.layout) r a.origin.site ≡ own (does operation a) r (Out a.origin.site) + inside (does operation a) r =
    omega (arith, balanced.seats, raises.takens, raises.outs a.origin.site, allowed.seats) in
    let after_writers : own (does operation a) r Ann ≡ own (does operation a) r Fin + writers_here (does operation a) r =
    omega (arith, balanced.writers, raises.anns, raises.fins, allowed.writers) in
    record {
      affordable = omega (arith, gained_step a operation r out taken ann fin below raises, spent_step a operation r out taken ann fin raises, balanced.affordable, allowed.affordable);
      seats = after_seats;
      writers = after_writers;
      few_writers = omega (arith, after_writers, raises.anns, raises.fins, allowed.few_writers);
      fits = record {
        grant_kept = omega (arith, balanced.fits.grant_kept, raises.outs a.origin.site);
        returned_after_taken = omega (arith, after_seats);
        few_taken = omega (arith, raises.takens, allowed.few_taken);
        few_moved = λ j apart. omega (arith, raises.outs j, allowed.few_moved j apart);
        finished_after_announced = omega (arith, after_writers);
        few_announced = omega (arith, raises.anns, allowed.few_announced);
      };
    }
