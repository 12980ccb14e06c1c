-- The model never answers for the desk: want of memory, a frozen desk, a full log and a fault of the store are no
-- refusals of its table.
use Rattle.std.proofs.Common.{◌≡◌, ◌⊎◌, inl, inr, Bool, true, false, cond, List, [], ◌∷◌, Some, refl, sym, subst, ◌∙◌}
use Rattle.std.specs.List.{AllByRecursion}
use Rattle.std.proofs.lemmas.Bool.{cases_Bool}
use Rattle.admission_model.specs.declared.ask.Ask.{Ask}
use Rattle.admission_model.specs.declared.ask.Ask.TheVariants.{Read, Announce, Quill, Leave, Give, Help}
use Rattle.admission_model.specs.declared.ask.Call.{Call}
use Rattle.admission_model.specs.declared.ask.Call.TheVariants.{Ask as AskCall, Merge, Snapshot as SnapshotCall}
use Rattle.admission_model.specs.declared.reply.Refusal.{Refusal}
use Rattle.admission_model.specs.declared.reply.Refusal.TheVariants.{Memory, Frozen, LogFull, StoreFault}
use Rattle.admission_model.specs.declared.reply.Reply.{Reply}
use Rattle.admission_model.specs.declared.reply.Reply.TheVariants.{Refused}
use Rattle.admission_model.specs.View.{View}
use Rattle.admission_model.specs.Replies.{Line, first_reason, ask_lines, merge_lines}
use Rattle.admission_model.specs.Serving.{reason, reply_of}
use Rattle.admission_model.proofs.ReasonLemmas.{reason_told}
use Rattle.admission_core.specs.Core.{is_memory}
use Rattle.desk_log.specs.Log.{is_fault, is_logged}

-- a refusal of the model's table
abbrev is_model : Refusal → Bool
is_model Memory = false
is_model Frozen = false
is_model LogFull = false
is_model StoreFault = false
is_model _ = true

-- what holds of the refusal of each line holds of the reason
pub of_lines : (P : Refusal → Type 0) (ls : List Line) → AllByRecursion (λ l. P l.refusal) ls → (x : Refusal) → first_reason ls ≡ Some x → P x
of_lines P [] all x e = absurd (cc)
of_lines P (l ∷ ls) all x e = at l.test e (of_lines P ls all.1 x)
  where
    at : (b : Bool) → cond b (Some l.refusal) (first_reason ls) ≡ Some x → (first_reason ls ≡ Some x → P x) → P x
    at true f later = let same : l.refusal ≡ x = cc in subst P same all.0
    at false f later = later f

ask_model : (v : View) (ask : Ask) → AllByRecursion (λ l. is_model l.refusal ≡ true) (ask_lines v ask)
ask_model v (Read r h) = (refl, (refl, (refl, (refl, (refl, (refl, tt))))))
ask_model v (Announce r h) = (refl, (refl, (refl, (refl, (refl, tt)))))
ask_model v (Quill r h) = (refl, (refl, (refl, (refl, (refl, (refl, tt))))))
ask_model v (Leave r h) = (refl, (refl, (refl, tt)))
ask_model v (Give r to seats) = (refl, (refl, (refl, (refl, (refl, (refl, tt))))))
ask_model v (Help r) = (refl, (refl, (refl, tt)))

reason_model : (v : View) (call : Call) (x : Refusal) → reason v call ≡ Some x → is_model x ≡ true
reason_model v (AskCall ask) x e = of_lines (λ x. is_model x ≡ true) (ask_lines v ask) (ask_model v ask) x e
reason_model v (Merge delta) x e = of_lines (λ x. is_model x ≡ true) (merge_lines v delta) (refl, (refl, (refl, tt))) x e
reason_model v SnapshotCall x e = absurd (cc)

-- such a refusal is never the model's
pub never_memory : (v : View) (call : Call) → reason v call ≡ Some Memory → ⊥
never_memory v call e = let is = reason_model v call Memory e in cc

never : (v : View) (call : Call) (x : Refusal) → is_model x ≡ false → reply_of v call ≡ Refused x → ⊥
never v call x other e =
    let is = reason_model v call x (reason_told v call x e) in
    let both : false ≡ true = sym other ∙ is in
    cc

pub never_frozen : (v : View) (call : Call) → reply_of v call ≡ Refused Frozen → ⊥
never_frozen v call e = never v call Frozen refl e

pub never_full : (v : View) (call : Call) → reply_of v call ≡ Refused LogFull → ⊥
never_full v call e = never v call LogFull refl e

-- there is one reply that is a fault, and one that is want of memory
pub fault_is : (reply : Reply) → is_fault reply ≡ true → reply ≡ Refused StoreFault
fault_is (Refused StoreFault) e = refl
fault_is other e = absurd (cc)

pub memory_is : (reply : Reply) → is_memory reply ≡ true → reply ≡ Refused Memory
memory_is (Refused Memory) e = refl
memory_is other e = absurd (cc)

-- there are three that are not logged
pub unlogged_is : (reply : Reply) → is_logged reply ≡ false → (reply ≡ Refused Memory) ⊎ ((reply ≡ Refused Frozen) ⊎ (reply ≡ Refused LogFull))
unlogged_is (Refused Memory) e = inl refl
unlogged_is (Refused Frozen) e = inr (inl refl)
unlogged_is (Refused LogFull) e = inr (inr refl)
unlogged_is other e = absurd (cc)

pub model_fault : (v : View) (call : Call) → is_fault (reply_of v call) ≡ false
model_fault v call = at (cases_Bool (is_fault (reply_of v call)))
  where
    at : (is_fault (reply_of v call) ≡ true) ⊎ (is_fault (reply_of v call) ≡ false) → is_fault (reply_of v call) ≡ false
    at (inl e) = absurd (never v call StoreFault refl (fault_is (reply_of v call) e))
    at (inr e) = e

pub model_logged : (v : View) (call : Call) → is_logged (reply_of v call) ≡ true
model_logged v call = at (cases_Bool (is_logged (reply_of v call)))
  where
    none : (reply_of v call ≡ Refused Memory) ⊎ ((reply_of v call ≡ Refused Frozen) ⊎ (reply_of v call ≡ Refused LogFull)) → ⊥
    none (inl e) = never v call Memory refl e
    none (inr (inl e)) = never v call Frozen refl e
    none (inr (inr e)) = never v call LogFull refl e

    at : (is_logged (reply_of v call) ≡ true) ⊎ (is_logged (reply_of v call) ≡ false) → is_logged (reply_of v call) ≡ true
    at (inl e) = e
    at (inr e) = absurd (none (unlogged_is (reply_of v call) e))
