-- The number of a holder.
use Rattle.std.proofs.Common.{◌≡◌, ℕ, ◌<◌, ◌+◌, Bool, true, false, List, [], ◌∷◌, ◌++◌, length, Option, Some, None, Result, Ok, Err, refl, ap, ◌∙◌, arith}
use Rattle.std.specs.Prelude.{IfOk, nat_le, nat_lt}
use Rattle.std.specs.declared.alloc.AllocError.{AllocError}
use Rattle.std.proofs.lemmas.Bool.Decides.{nat_tests}
use Rattle.merge_core.specs.Layout.{LayoutState}
use Rattle.session_list.specs.declared.session.Phase.{Phase}
use Rattle.session_list.specs.declared.session.Phase.TheVariants.{Reader, Waiting, Writer}
use Rattle.admission_model.specs.declared.ask.Ask.TheVariants.{Leave, Quill}
use Rattle.admission_model.specs.declared.ask.Call.TheVariants.{Ask}
use Rattle.admission_model.specs.declared.reply.Refusal.{Refusal}
use Rattle.admission_model.specs.declared.reply.Refusal.TheVariants.{AlreadyInside, BadHolder, CounterFull, MissingSeats, NotAnnounced, NotHere}
use Rattle.admission_model.specs.Account.{Account, layout_of, seats_in}
use Rattle.admission_model.specs.View.{view_of, rights_of}
use Rattle.admission_model.specs.Serving.{reason}
use Rattle.admission_model.specs.Replies.{first_reason, holder_limit, is_not_announced, is_writer, line}
use Rattle.merge_core.specs.Counts.{counter_limit}
use Rattle.merge_core.specs.declared.cell.Cell.TheVariants.{Taken}
use Rattle.admission_core.specs.Core.{Core, Stands}
use Rattle.serve_engine.specs.Fencing.{fence_reason, inside_or_not, is_not_inside}

-- the reasons of the reply table tell whether a holder is inside, where there is the record
by_phase : (bad full missing : Bool) (p : Option Phase) (have want : ℕ)
    → inside_or_not
    (first_reason (line bad BadHolder ∷ line (Rattle.std.specs.Prelude.is_none p) NotHere ∷ []))
    (first_reason (line bad BadHolder ∷ line (is_not_announced p) NotAnnounced ∷ line (is_writer p) AlreadyInside ∷ line full CounterFull ∷ line missing (MissingSeats have want) ∷ []))
    ≡ first_reason (line bad BadHolder ∷ line (is_not_inside p) NotHere ∷ [])
by_phase true full missing p have want = refl
by_phase false full missing None have want = refl
by_phase false full missing (Some Reader) have want = refl
by_phase false true missing (Some Waiting) have want = refl
by_phase false false true (Some Waiting) have want = refl
by_phase false false false (Some Waiting) have want = refl
by_phase false full missing (Some Writer) have want = refl

-- a record that a core has, its account has
there_of : (a : Account) (c : Core) (r : ℕ) → Stands a c → r < length c.layout.records → nat_le (length (layout_of a).records) r ≡ false
there_of a c r stands there =
    let same : length c.layout.records ≡ length (layout_of a).records = ap (λ (l : LayoutState). length l.records) stands.shows.layout in
    grind (arith, nat_tests)

pub reasons_tell : (a : Account) (c : Core) (r h : ℕ) (left entered : Option Refusal) → Stands a c → r < length c.layout.records
    → left ≡ reason (view_of a) (Ask (Leave r h)) → entered ≡ reason (view_of a) (Ask (Quill r h)) → inside_or_not left entered ≡ fence_reason (view_of a) r h
reasons_tell a c r h left entered stands there was would =
    let v = view_of a in
    let known = there_of a c r stands there in
    (λ i. inside_or_not (was i) (would i))
    ∙ rw known (by_phase (nat_lt holder_limit h) (nat_lt counter_limit (v.counter r v.site Taken + seats_in v.layout r)) (nat_lt (rights_of v r) (seats_in v.layout r))
    (v.phase r h) (rights_of v r) (seats_in v.layout r))

-- a text that was written stands for one that depends on what is shown
pub stands_for : {X : Type 0} (P : X → Type 0) (answer : Result (Unit {0}) AllocError) (old new written : List ℕ) (shown : X → List ℕ)
    → IfOk answer (λ _. new ≡ old ++ written) → ((x : X) → P x → written ≡ shown x) → IfOk answer (λ _. (x : X) → P x → new ≡ old ++ shown x)
stands_for P (Ok y) old new written shown is same = λ x p. is ∙ ap (λ (t : List ℕ). old ++ t) (same x p)
stands_for P (Err e) old new written shown is same = tt
