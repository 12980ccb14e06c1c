-- One line more of an input.
use Rattle.std.proofs.Common.{◌≡◌, ℕ, ◌+◌, max, List, [], ◌∷◌, ◌++◌, length, map, refl, sym, ap, ◌∙◌, subst, append_assoc, arith}
use Rattle.std.proofs.lemmas.List.{length-append, length-map, map-append}
use Rattle.std.specs.List.{AllByRecursion}
use Rattle.merge_core.specs.declared.cell.Cell.{Cell}
use Rattle.merge_core.specs.Layout.{Shape}
use Rattle.merge_core.specs.Delta.{DeltaState}
use Rattle.merge_core.specs.Naming.{greatest_shown, shown_by}
use Rattle.merge_core.specs.Book.{BookState, IsBook, counter_of, book_shape}
use Rattle.merge_core.specs.Changes.{JoinsAll, JoinsRows}
use Rattle.merge_core.specs.Rows.{start_counter}
use Rattle.merge_core.proofs.KnownLemmas.{greatest_shown-push}
use Rattle.delta_codec.specs.DeltaText.{delta_text}
use Rattle.text_input.specs.Lines.{lines_of}
use Rattle.join_engine.specs.declared.fault.LineFault.{LineFault}
use Rattle.join_engine.specs.Joins.{joined_counter, IsJoinOf, IsTaken, IsFaultOf, IsFirstRefused}
use Rattle.join_engine.specs.Stops.{JoinsSoFar}

-- what one delta more shows, and many more
joined_more : (old b new : BookState) (ds : List DeltaState) (d : DeltaState) → JoinsAll old b ds → JoinsRows b new d.rows → JoinsAll old new (ds ++ d ∷ [])
joined_more old b new ds d before joins = record {
  shape = joins.shape ∙ before.shape;
  counters = λ r s cell. at_place r s cell;
}
  where
    at_place : (r s : ℕ) (cell : Cell) → counter_of new r s cell ≡ greatest_shown (book_shape old) (counter_of old r s cell) (ds ++ d ∷ []) r s cell
    at_place r s cell =
        let shown : shown_by (book_shape b) d.rows r s cell ≡ shown_by (book_shape old) d.rows r s cell =
        ap (λ (it : Shape). shown_by it d.rows r s cell) before.shape in
        omega (arith, joins.counters r s cell, before.counters r s cell, greatest_shown-push (book_shape old) (counter_of old r s cell) ds d r s cell, shown)

greatest_shown-max : (shape : Shape) (m n : ℕ) (ds : List DeltaState) (r s : ℕ) (cell : Cell)
    → greatest_shown shape (max m n) ds r s cell ≡ max m (greatest_shown shape n ds r s cell)
greatest_shown-max shape m n [] r s cell = refl
greatest_shown-max shape m n (d ∷ ds) r s cell = omega (arith, greatest_shown-max shape m n ds r s cell)

greatest_shown-append : (shape : Shape) (known : ℕ) (ds es : List DeltaState) (r s : ℕ) (cell : Cell)
    → greatest_shown shape known (ds ++ es) r s cell ≡ greatest_shown shape (greatest_shown shape known ds r s cell) es r s cell
greatest_shown-append shape known [] es r s cell = refl
greatest_shown-append shape known (d ∷ ds) es r s cell =
    ap (λ (n : ℕ). max (shown_by shape d.rows r s cell) n) (greatest_shown-append shape known ds es r s cell)
    ∙ sym (greatest_shown-max shape (shown_by shape d.rows r s cell) (greatest_shown shape known ds r s cell) es r s cell)

-- a join takes more deltas in
pub joined_on : (shape : Shape) (ds es : List DeltaState) (old new : BookState) → IsJoinOf shape ds old → JoinsAll old new es → IsBook new
    → IsJoinOf shape (ds ++ es) new
joined_on shape ds es old new before joins book = record {
  one_shape = joins.shape ∙ before.one_shape;
  counters = λ r s cell. at_place r s cell;
  book = book;
}
  where
    at_place : (r s : ℕ) (cell : Cell) → counter_of new r s cell ≡ joined_counter shape (ds ++ es) r s cell
    at_place r s cell =
        joins.counters r s cell
        ∙ ap (λ (it : Shape). greatest_shown it (counter_of old r s cell) es r s cell) before.one_shape
        ∙ ap (λ (n : ℕ). greatest_shown shape n es r s cell) (before.counters r s cell)
        ∙ sym (greatest_shown-append shape (start_counter shape r s cell) ds es r s cell)

pub taken_on : (shape : Shape) (ds es : List DeltaState) → AllByRecursion (IsTaken shape) ds → AllByRecursion (IsTaken shape) es
    → AllByRecursion (IsTaken shape) (ds ++ es)
taken_on shape [] es front back = back
taken_on shape (d ∷ ds) es front back = (front.0, taken_on shape ds es front.1 back)

-- before the first line
pub joined_none : (lines : List (List ℕ)) (b : BookState) → JoinsSoFar lines lines 0 b b
joined_none lines b = record {
  deltas = [];
  split = refl;
  taken = tt;
  joins = record { shape = refl; counters = λ r s cell. refl };
  book = λ is. is;
  counted = refl;
}

-- the next line is the text of a delta that is taken and joined
pub joined_line : (lines rest later : List (List ℕ)) (line : List ℕ) (number : ℕ) (d : DeltaState) (old b new : BookState)
    → JoinsSoFar lines rest number old b → rest ≡ line ∷ later → IsTaken (book_shape b) d → line ≡ delta_text d → JoinsRows b new d.rows
    → IsBook new → JoinsSoFar lines later (number + 1) old new
joined_line lines rest later line number d old b new before next taken text joins book = record {
  deltas = before.deltas ++ d ∷ [];
  split =
      before.split ∙ ap (λ (ls : List (List ℕ)). map delta_text before.deltas ++ ls) (next ∙ ap (λ (l : List ℕ). l ∷ later) text)
      ∙ sym (append_assoc (map delta_text before.deltas) (delta_text d ∷ []) later)
      ∙ ap (λ (ls : List (List ℕ)). ls ++ later) (sym (map-append delta_text before.deltas (d ∷ [])));
  taken = taken_on (book_shape old) before.deltas (d ∷ []) before.taken (subst (λ (it : Shape). IsTaken it d) before.joins.shape taken, tt);
  joins = joined_more old b new before.deltas d before.joins joins;
  book = λ is. book;
  counted = length-append before.deltas (d ∷ []) ∙ ap (λ (n : ℕ). n + 1) before.counted;
}

no_bytes : (rest : List ℕ) → length rest ≡ 0 → lines_of rest ≡ []
no_bytes [] none = refl
no_bytes (b ∷ bs) none = absurd (omega arith)

-- behind the last line
pub joined_all : (lines : List (List ℕ)) (rest : List ℕ) (number : ℕ) (old b : BookState) → JoinsSoFar lines (lines_of rest) number old b
    → length rest ≡ 0 → JoinsSoFar lines [] number old b
joined_all lines rest number old b before none =
    subst (λ (ls : List (List ℕ)). JoinsSoFar lines ls number old b) (no_bytes rest none) before

-- A line that is refused behind some that are joined is the first that is refused of all of them.
pub refused_behind : (shape : Shape) (input lines later : List (List ℕ)) (ds : List DeltaState) (n m : ℕ) (fault : LineFault)
    → input ≡ map delta_text ds ++ (lines ++ later) → AllByRecursion (IsTaken shape) ds → length ds ≡ n → IsFirstRefused shape lines m fault
    → IsFirstRefused shape input (n + m) fault
refused_behind shape input lines later ds n m fault split taken counted first = record {
  deltas = ds ++ first.deltas;
  before = map delta_text ds ++ first.before;
  line = first.line;
  after = first.after ++ later;
  split =
      split ∙ ap (λ (ls : List (List ℕ)). map delta_text ds ++ ls)
      (ap (λ (ls : List (List ℕ)). ls ++ later) first.split ∙ append_assoc first.before (first.line ∷ first.after) later)
      ∙ sym (append_assoc (map delta_text ds) first.before (first.line ∷ (first.after ++ later)));
  joined = record {
    texts = ap (λ (ls : List (List ℕ)). map delta_text ds ++ ls) first.joined.texts ∙ sym (map-append delta_text ds first.deltas);
    taken = taken_on shape ds first.deltas taken first.joined.taken;
  };
  counted = omega (arith, first.counted, counted, length-append (map delta_text ds) first.before, length-map ds delta_text);
  refused = first.refused;
}

-- the next line is refused
pub refused_line : (lines rest later : List (List ℕ)) (line : List ℕ) (number : ℕ) (old b : BookState) (fault : LineFault)
    → JoinsSoFar lines rest number old b → rest ≡ line ∷ later → IsFaultOf (book_shape b) line fault
    → IsFirstRefused (book_shape old) lines (number + 1) fault
refused_line lines rest later line number old b fault so_far next refused =
    refused_behind (book_shape old) lines (line ∷ []) later so_far.deltas number 1 fault
    (so_far.split ∙ ap (λ (ls : List (List ℕ)). map delta_text so_far.deltas ++ ls) next) so_far.taken so_far.counted alone
  where
    alone : IsFirstRefused (book_shape old) (line ∷ []) 1 fault
    alone = record {
      deltas = [];
      before = [];
      line = line;
      after = [];
      split = refl;
      joined = record { texts = refl; taken = tt };
      counted = refl;
      refused = subst (λ (it : Shape). IsFaultOf it line fault) so_far.joins.shape refused;
    }
