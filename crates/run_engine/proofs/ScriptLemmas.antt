-- One line more of a script.
use Rattle.std.proofs.Common.{◌≡◌, ℕ, ◌+◌, ◌<◌, ◌≤◌, ◌⊎◌, inl, inr, Result, Ok, Err, List, [], ◌∷◌, ◌++◌, length, map, refl, sym, ap, subst, ◌∙◌, append_assoc, append-nil, length-append, arith}
use Rattle.std.proofs.lemmas.Bool.{cases_lt, lt-ltb, le-ltb}
use Rattle.std.proofs.lemmas.List.{length-map, map-append}
use Rattle.merge_core.specs.Layout.{LayoutState}
use Rattle.text_input.specs.Lines.{lines_of}
use Rattle.run_engine.specs.declared.script.Asked.{Asked}
use Rattle.run_engine.specs.declared.script.LineError.{LineError}
use Rattle.run_engine.specs.declared.script.LineError.TheVariants.{TooManyLines}
use Rattle.run_engine.specs.Scripts.{most_lines, asked_in, answer_to, IsScript, IsRefusedAt, IsScriptSoFar}

-- as many lines as asks
as_many : (layout : LayoutState) (lines : List (List ℕ)) (asked : List Asked) → IsScript layout lines asked → length lines ≡ length asked
as_many layout lines asked script =
    sym (length-map lines (asked_in layout)) ∙ (ap length script.read ∙ length-map asked Ok)

-- a line that asks something has few lines before it
answered : (layout : LayoutState) (before : ℕ) (line : List ℕ) (one : Asked) → answer_to layout before line ≡ Ok one → (before < most_lines) × (asked_in layout line ≡ Ok one)
answered layout before line one is = at (cases_lt before most_lines)
  where
    at : (before < most_lines) ⊎ (most_lines ≤ before) → (before < most_lines) × (asked_in layout line ≡ Ok one)
    at (inl below) = (below, rw (lt-ltb before most_lines below) at is)
    at (inr above) = let no : Err TooManyLines ≡ Ok one = rw (le-ltb before most_lines above) at is in absurd (cc)

-- before the first line
pub script_none : (layout : LayoutState) (lines : List (List ℕ)) → IsScriptSoFar layout lines lines []
script_none layout lines = record { before = []; split = refl; read = record { read = refl; few = omega arith } }

-- a line that asks something
pub script_line : (layout : LayoutState) (lines behind : List (List ℕ)) (line : List ℕ) (asked : List Asked) (one : Asked)
    → IsScriptSoFar layout lines (line ∷ behind) asked → answer_to layout (length asked) line ≡ Ok one → IsScriptSoFar layout lines behind (asked ++ one ∷ [])
script_line layout lines behind line asked one so_far is =
    let here : (length asked < most_lines) × (asked_in layout line ≡ Ok one) = answered layout (length asked) line one is in
    let many : length so_far.before ≡ length asked = as_many layout so_far.before asked so_far.read in
    record {
      before = so_far.before ++ line ∷ [];
      split = so_far.split ∙ sym (append_assoc so_far.before (line ∷ []) behind);
      read = record {
        read =
            map-append (asked_in layout) so_far.before (line ∷ [])
            ∙ (ap (λ (os : List (Result Asked LineError)). os ++ asked_in layout line ∷ []) so_far.read.read
            ∙ (ap (λ (o : Result Asked LineError). map Ok asked ++ o ∷ []) here.1 ∙ sym (map-append Ok asked (one ∷ []))));
        few = omega (arith, length-append so_far.before (line ∷ []), many, here.0);
      };
    }

-- a line that is refused
pub script_stop : (layout : LayoutState) (lines behind : List (List ℕ)) (line : List ℕ) (asked : List Asked) (e : LineError)
    → IsScriptSoFar layout lines (line ∷ behind) asked → answer_to layout (length asked) line ≡ Err e → IsRefusedAt layout lines (length asked + 1) e
script_stop layout lines behind line asked e so_far is =
    let many : length so_far.before ≡ length asked = as_many layout so_far.before asked so_far.read in
    record {
      before = so_far.before;
      line = line;
      behind = behind;
      split = so_far.split;
      numbered = ap (λ (n : ℕ). n + 1) (sym many);
      asked = asked;
      read = so_far.read;
      refused = subst (λ (n : ℕ). answer_to layout n line ≡ Err e) (sym many) is;
    }

no_bytes : (rest : List ℕ) → length rest ≡ 0 → lines_of rest ≡ []
no_bytes [] none = refl
no_bytes (b ∷ bs) none = absurd (omega arith)

-- behind the last line
pub script_all : (layout : LayoutState) (lines : List (List ℕ)) (rest : List ℕ) (asked : List Asked)
    → IsScriptSoFar layout lines (lines_of rest) asked → length rest ≡ 0 → IsScript layout lines asked
script_all layout lines rest asked so_far none =
    subst (λ (ls : List (List ℕ)). IsScript layout ls asked)
    (sym (so_far.split ∙ (ap (λ (ls : List (List ℕ)). so_far.before ++ ls) (no_bytes rest none) ∙ append-nil so_far.before))) so_far.read
