-- Why a runner made fewer turns than it was asked for.
use Rattle.std.proofs.Common.{◌≡◌, ◌⊎◌, inl, inr, ℕ, ◌+◌, ◌≤◌, Bool, List, [], ◌∷◌, length, refl, ap, subst, arith, length-append}
use Rattle.session_book.specs.Passes.{PassState}
use Rattle.exchange_threads.specs.declared.report.OutReport.{OutReport}
use Rattle.exchange_threads.specs.declared.report.InReport.{InReport}
use Rattle.exchange_threads.specs.declared.turn.Turn.{Turn}
use Rattle.exchange_threads.specs.declared.turn.Turn.TheVariants.{GoesOn, IsOver, EndsRun}
use Rattle.exchange_threads.specs.Turns.{IsMarked, stops_at}
use Rattle.exchange_threads.specs.Outbox.{HasRunOutAt, IsOutEnd}
use Rattle.exchange_threads.specs.Inbox.{HasHeard, HasRunInAt, IsInEnd, Taken, texts_from, nothing_heard}

-- what comes of the last of three reasons
pub if_closed : {A B C D : Type 0} → A ⊎ (B ⊎ C) → (C → D) → A ⊎ (B ⊎ D)
if_closed (inl a) f = inl a
if_closed (inr (inl b)) f = inr (inl b)
if_closed (inr (inr c)) f = inr (inr (f c))

-- a closed end, or a mark, or all turns
closed_last : {A B C : Type 0} → C ⊎ B → A ⊎ (B ⊎ C)
closed_last (inl c) = inr (inr c)
closed_last (inr b) = inr (inl b)

pub out_ends : {G : Type 0} (answers : G → ℕ → Bool → G → Type 0) (closed : Type 0) (records : ℕ) (old new : PassState) (a b : G) (asked : ℕ) (r : OutReport)
    → HasRunOutAt answers closed records old new a b asked r → (r.turns ≡ asked) ⊎ (IsMarked new ⊎ closed)
out_ends answers closed records old new a b asked r ran = by_last ran.ran.last refl
  where
    by_last : (x : Turn) → ran.ran.last ≡ x → (r.turns ≡ asked) ⊎ (IsMarked new ⊎ closed)
    by_last GoesOn is = inl (subst (λ (x : Turn). IsOutEnd x asked r) is ran.ran.ending)
    by_last IsOver is = inl (subst (λ (x : Turn). IsOutEnd x asked r) is ran.ran.ending)
    by_last EndsRun is = closed_last (ran.early is)

-- each text that was taken is one
texts_many : (ts : List Taken) → length (texts_from ts) ≡ length ts
texts_many [] = refl
texts_many (t ∷ ts) = omega (arith, texts_many ts)

-- each turn took a text or met want of memory
all_turns : {texts : List (List ℕ)} (old new : PassState) (r : InReport) (asked turns : ℕ) (x : Turn) → stops_at x ≡ 0 → turns ≡ asked → HasHeard texts old new nothing_heard r turns x → asked ≤ r.taken + r.memory
all_turns {texts} old new r asked turns x goes_on all heard = omega (
  arith,
  goes_on,
  all,
  heard.begun,
  heard.taken,
  heard.memory,
  ap (λ (ts : List (List ℕ)). length ts) heard.listed,
  length-append (texts_from heard.takes) heard.cut,
  texts_many heard.takes,
)

pub in_ends : (closed : Type 0) (accounts : List (List ℕ) → Bool → Type 0) (old new : PassState) (asked : ℕ) (r : InReport)
    → HasRunInAt closed accounts old new asked r → (asked ≤ r.taken + r.memory) ⊎ (IsMarked new ⊎ closed)
in_ends closed accounts old new asked r ran = by_last ran.ran.last refl
  where
    by_last : (x : Turn) → ran.ran.last ≡ x → (asked ≤ r.taken + r.memory) ⊎ (IsMarked new ⊎ closed)
    by_last GoesOn is = inl (all_turns old new r asked ran.ran.turns GoesOn refl (subst (λ (x : Turn). IsInEnd x asked ran.ran.turns) is ran.ran.ending)
        (subst (λ (x : Turn). HasHeard ran.texts old new nothing_heard r ran.ran.turns x) is ran.ran.heard))
    by_last IsOver is = inl (all_turns old new r asked ran.ran.turns IsOver refl (subst (λ (x : Turn). IsInEnd x asked ran.ran.turns) is ran.ran.ending)
        (subst (λ (x : Turn). HasHeard ran.texts old new nothing_heard r ran.ran.turns x) is ran.ran.heard))
    by_last EndsRun is = closed_last (ran.early is)
