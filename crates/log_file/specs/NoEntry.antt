-- A log before any entry.
use Rattle.std.proofs.Common.{◌≡◌, List, [], ◌∷◌, ◌++◌, refl, sym, subst, append-nil}
use Rattle.std.proofs.Math.Nat.{add-zero}
use Rattle.desk_log.specs.declared.entry.Entry.{Entry}
use Rattle.log_file.specs.declared.file.LogFile.{Ghosts}
use Rattle.log_file.specs.Logged.{LogState, HasLogged}

-- a list without entries
abbrev IsNone : List Entry → Type 0
IsNone [] = Unit {0}
IsNone (e ∷ es) = ⊥

some_entry : (before : List Entry) (e : Entry) → [] ≡ before ++ e ∷ [] → ⊥
some_entry [] e is = subst IsNone is tt
some_entry (b ∷ bs) e is = subst IsNone is tt

pub nothing_logged : {F : Type 0} (g : Ghosts F) (l : LogState F) → g.did l.file [] l.file → HasLogged g l [] l
nothing_logged g l begins = record {
  steps = [];
  did = begins;
  leaves = λ bytes size. sym (append-nil bytes);
  layout = refl;
  length_is = sym (add-zero l.length);
  last_is = λ before e is n at. absurd (some_entry before e is);
}
