-- The reading of a delta between quotes takes exactly the texts of deltas.
use Rattle.std.proofs.Common.{◌≡◌, ℕ, ◌^◌, ◌<◌, ◌≤◌, Bool, true, false, cond, ltb, ◌==◌, List, [], ◌∷◌, ◌++◌, length, Option, Some, None, codes, decimal, refl, sym, ap, subst, ◌∙◌, append_assoc, arith}
use Rattle.std.specs.List.{AllByRecursion}
use Rattle.std.proofs.lemmas.Option.{none-some, cond_some, some_pair_parts, same_Some}
use Rattle.merge_core.specs.Delta.{DeltaState, IsDelta, IsRow, IsRising}
use Rattle.merge_core.specs.declared.delta.Row.{Row}
use Rattle.text_parts.specs.Lists.{joined}
use Rattle.text_parts.specs.Readers.{◌>>=◌, Fails, NoDigit, after, number_at, short_at, joined_at}
use Rattle.text_parts.specs.declared.unread.Unread.{Unread}
use Rattle.text_parts.specs.declared.unread.Unread.TheVariants.{Refused, Memory}
use Rattle.text_parts.proofs.LiteralLaws.{bind_some, after_takes, after_again}
use Rattle.text_parts.proofs.NumberLaws.{number_takes, number_again, short_again}
use Rattle.text_parts.proofs.ElementLaws.{TakesTexts, TakesAgain, joined_takes, joined_again}
use Rattle.delta_codec.specs.DeltaText.{row_text, delta_text}
use Rattle.delta_codec.specs.DeltaReaders.{number_behind, short_behind, numbers_behind}
use Rattle.delta_codec.proofs.DeltaLaws.{few_rows}
use Rattle.transcript_text.specs.Quoted.{escaped}
use Rattle.transcript_reader.specs.Quoted.{quoted, Refuses}
use Rattle.transcript_reader.specs.Deltas.{row_at, rows_at, delta_at}
use Rattle.transcript_reader.proofs.EscapedLemmas.{escaped_append, escaped_decimal, escaped_joined}

abbrev Read : Type 0
Read = ℕ × List ℕ

abbrev Counters : Type 0
Counters = List ℕ × List ℕ

-- the text of a number between quotes
abbrev pub digits : ℕ → List ℕ
digits n = escaped (decimal n)

-- ---- what is taken is its text

number_takes_digits : TakesTexts digits number_at
number_takes_digits bytes n rest e =
    let taken = number_takes bytes n rest e in
    taken.0 ∙ ap (λ (t : List ℕ). t ++ rest) (sym (escaped_decimal n taken.1))

short_takes_digits : TakesTexts digits short_at
unfolding short_at
short_takes_digits bytes n rest e =
    let read = bind_some (number_at bytes) (λ (m : Read). cond (ltb m.0 (2 ^ 16)) (Some m) None) (n, rest) e in
    let small = cond_some (ltb read.0.0 (2 ^ 16)) read.0 (n, rest) read.2 in
    number_takes_digits bytes n rest (read.1 ∙ ap (λ (x : Read). Some x) small.1)

pub number_behind_takes : (literal bytes : List ℕ) (n : ℕ) (rest : List ℕ) → number_behind literal bytes ≡ Some (n, rest) → bytes ≡ literal ++ (digits n ++ rest)
unfolding number_behind
number_behind_takes literal bytes n rest e =
    let front = bind_some (after literal bytes) number_at (n, rest) e in
    after_takes literal bytes front.0 front.1 ∙ ap (λ (s : List ℕ). literal ++ s) (number_takes_digits front.0 n rest front.2)

short_behind_takes : (literal bytes : List ℕ) (n : ℕ) (rest : List ℕ) → short_behind literal bytes ≡ Some (n, rest) → bytes ≡ literal ++ (digits n ++ rest)
unfolding short_behind
short_behind_takes literal bytes n rest e =
    let front = bind_some (after literal bytes) short_at (n, rest) e in
    after_takes literal bytes front.0 front.1 ∙ ap (λ (s : List ℕ). literal ++ s) (short_takes_digits front.0 n rest front.2)

numbers_behind_takes : (literal bytes ns rest : List ℕ) → numbers_behind literal bytes ≡ Some (ns, rest) → bytes ≡ literal ++ (escaped (joined decimal ns) ++ rest)
unfolding numbers_behind
numbers_behind_takes literal bytes ns rest e =
    let front = bind_some (after literal bytes) (joined_at number_at 15) (ns, rest) e in
    let taken = joined_takes digits number_at number_takes_digits 15 front.0 ns rest front.2 in
    after_takes literal bytes front.0 front.1 ∙ ap (λ (s : List ℕ). literal ++ s) (taken ∙ ap (λ (t : List ℕ). t ++ rest) (escaped_joined decimal ns))

-- the text of a row between quotes, and what follows it
abbrev pub row_pieces : Row → List ℕ → List ℕ
row_pieces p rest =
    codes "{\\\"ann\\\":" ++ (digits p.ann ++ (codes ",\\\"fin\\\":" ++ (digits p.fin
    ++ (codes ",\\\"out\\\":[" ++ (escaped (joined decimal p.out) ++ (codes "],\\\"r\\\":" ++ (digits p.r
    ++ (codes ",\\\"s\\\":" ++ (digits p.s ++ (codes ",\\\"taken\\\":" ++ (digits p.taken ++ (codes "}" ++ rest))))))))))))

row_split : (a b c d e f g h i j k l m rest : List ℕ) → escaped (a ++ (b ++ (c ++ (d ++ (e ++ (f ++ (g ++ (h ++ (i ++ (j ++ (k ++ (l ++ m)))))))))))) ++ rest
    ≡ escaped a ++ (escaped b ++ (escaped c ++ (escaped d ++ (escaped e ++ (escaped f ++ (escaped g ++ (escaped h ++ (escaped i ++ (escaped j ++ (escaped k ++ (escaped l ++ (escaped m ++ rest))))))))))))
row_split a b c d e f g h i j k l m rest = simp (escaped_append, append_assoc)

pub row_pieces_are : (p : Row) (rest : List ℕ) → escaped (row_text p) ++ rest ≡ row_pieces p rest
unfolding row_text
row_pieces_are p rest =
    row_split (codes "{\"ann\":") (decimal p.ann) (codes ",\"fin\":") (decimal p.fin) (codes ",\"out\":[") (joined decimal p.out) (codes "],\"r\":") (decimal p.r)
    (codes ",\"s\":") (decimal p.s) (codes ",\"taken\":") (decimal p.taken) (codes "}") rest

-- the reading of a row from each of its fields on
abbrev with_taken : Read → Read → Counters → Read → Read → Read → Option (Row × List ℕ)
with_taken ann fin out r s taken = after (codes "}") taken.1 >>= λ rest. Some (record { r = r.0; s = s.0; out = out.0; taken = taken.0; ann = ann.0; fin = fin.0 }, rest)

abbrev with_s : Read → Read → Counters → Read → Read → Option (Row × List ℕ)
with_s ann fin out r s = number_behind (codes ",\\\"taken\\\":") s.1 >>= with_taken ann fin out r s

abbrev with_r : Read → Read → Counters → Read → Option (Row × List ℕ)
with_r ann fin out r = short_behind (codes ",\\\"s\\\":") r.1 >>= with_s ann fin out r

abbrev with_out : Read → Read → Counters → Option (Row × List ℕ)
with_out ann fin out = short_behind (codes "],\\\"r\\\":") out.1 >>= with_r ann fin out

abbrev with_fin : Read → Read → Option (Row × List ℕ)
with_fin ann fin = numbers_behind (codes ",\\\"out\\\":[") fin.1 >>= with_out ann fin

abbrev with_ann : Read → Option (Row × List ℕ)
with_ann ann = number_behind (codes ",\\\"fin\\\":") ann.1 >>= with_fin ann

-- a number behind a literal, and what is behind the number
pub piece : (literal : List ℕ) (n : ℕ) (bytes rest tail : List ℕ) → bytes ≡ literal ++ (digits n ++ rest) → rest ≡ tail → bytes ≡ literal ++ (digits n ++ tail)
piece literal n bytes rest tail e f = e ∙ ap (λ (t : List ℕ). literal ++ (digits n ++ t)) f

pub list_piece : (literal ns bytes rest tail : List ℕ) → bytes ≡ literal ++ (escaped (joined decimal ns) ++ rest) → rest ≡ tail → bytes ≡ literal ++ (escaped (joined decimal ns) ++ tail)
list_piece literal ns bytes rest tail e f = e ∙ ap (λ (t : List ℕ). literal ++ (escaped (joined decimal ns) ++ t)) f

row_takes : TakesTexts (λ p. escaped (row_text p)) row_at
unfolding row_at
row_takes bytes p rest e =
    let ann = bind_some (number_behind (codes "{\\\"ann\\\":") bytes) with_ann (p, rest) e in
    let fin = bind_some (number_behind (codes ",\\\"fin\\\":") ann.0.1) (with_fin ann.0) (p, rest) ann.2 in
    let out = bind_some (numbers_behind (codes ",\\\"out\\\":[") fin.0.1) (with_out ann.0 fin.0) (p, rest) fin.2 in
    let r = bind_some (short_behind (codes "],\\\"r\\\":") out.0.1) (with_r ann.0 fin.0 out.0) (p, rest) out.2 in
    let s = bind_some (short_behind (codes ",\\\"s\\\":") r.0.1) (with_s ann.0 fin.0 out.0 r.0) (p, rest) r.2 in
    let taken = bind_some (number_behind (codes ",\\\"taken\\\":") s.0.1) (with_taken ann.0 fin.0 out.0 r.0 s.0) (p, rest) s.2 in
    let row : Row = record { r = r.0.0; s = s.0.0; out = out.0.0; taken = taken.0.0; ann = ann.0.0; fin = fin.0.0 } in
    let end = bind_some (after (codes "}") taken.0.1) (λ (t : List ℕ). Some (row, t)) (p, rest) taken.2 in
    let t6 : List ℕ = codes "}" ++ end.0 in
    let t5 : List ℕ = codes ",\\\"taken\\\":" ++ (digits taken.0.0 ++ t6) in
    let t4 : List ℕ = codes ",\\\"s\\\":" ++ (digits s.0.0 ++ t5) in
    let t3 : List ℕ = codes "],\\\"r\\\":" ++ (digits r.0.0 ++ t4) in
    let t2 : List ℕ = codes ",\\\"out\\\":[" ++ (escaped (joined decimal out.0.0) ++ t3) in
    let t1 : List ℕ = codes ",\\\"fin\\\":" ++ (digits fin.0.0 ++ t2) in
    let e6 : taken.0.1 ≡ t6 = after_takes (codes "}") taken.0.1 end.0 end.1 in
    let e5 : s.0.1 ≡ t5 = piece (codes ",\\\"taken\\\":") taken.0.0 s.0.1 taken.0.1 t6 (number_behind_takes (codes ",\\\"taken\\\":") s.0.1 taken.0.0 taken.0.1 taken.1) e6 in
    let e4 : r.0.1 ≡ t4 = piece (codes ",\\\"s\\\":") s.0.0 r.0.1 s.0.1 t5 (short_behind_takes (codes ",\\\"s\\\":") r.0.1 s.0.0 s.0.1 s.1) e5 in
    let e3 : out.0.1 ≡ t3 = piece (codes "],\\\"r\\\":") r.0.0 out.0.1 r.0.1 t4 (short_behind_takes (codes "],\\\"r\\\":") out.0.1 r.0.0 r.0.1 r.1) e4 in
    let e2 : fin.0.1 ≡ t2 = list_piece (codes ",\\\"out\\\":[") out.0.0 fin.0.1 out.0.1 t3 (numbers_behind_takes (codes ",\\\"out\\\":[") fin.0.1 out.0.0 out.0.1 out.1) e3 in
    let e1 : ann.0.1 ≡ t1 = piece (codes ",\\\"fin\\\":") fin.0.0 ann.0.1 fin.0.1 t2 (number_behind_takes (codes ",\\\"fin\\\":") ann.0.1 fin.0.0 fin.0.1 fin.1) e2 in
    let e0 : bytes ≡ row_pieces row end.0 = piece (codes "{\\\"ann\\\":") ann.0.0 bytes ann.0.1 t1 (number_behind_takes (codes "{\\\"ann\\\":") bytes ann.0.0 ann.0.1 ann.1) e1 in
    let read : Row × List ℕ = (row, end.0) in
    let text : List ℕ = escaped (row_text row) ++ end.0 in
    let pieces : List ℕ = row_pieces row end.0 in
    let same : text ≡ pieces = row_pieces_are row end.0 in
    let whole : bytes ≡ text = ◌∙◌ {b = pieces} {c = text} e0 (sym {a = text} {b = pieces} same) in
    subst (λ (x : Row × List ℕ). bytes ≡ escaped (row_text x.0) ++ x.1) {x = read} (same_Some read (p, rest) end.2) whole

rows_take : (bytes : List ℕ) (ps : List Row) (rest : List ℕ) → rows_at bytes ≡ Some (ps, rest) → bytes ≡ escaped (joined row_text ps) ++ rest
unfolding rows_at
rows_take [] ps rest e = absurd (none-some (ps, rest) e)
rows_take (b ∷ bs) ps rest e = cases (b == 93) e
  where
    cases : (closed : Bool) → cond closed (Some ([], b ∷ bs)) (joined_at row_at 4095 (b ∷ bs)) ≡ Some (ps, rest) → b ∷ bs ≡ escaped (joined row_text ps) ++ rest
    cases true h = let parts = some_pair_parts [] ps (b ∷ bs) rest h in rw (← parts.0) parts.1
    cases false h =
        joined_takes (λ p. escaped (row_text p)) row_at row_takes 4095 (b ∷ bs) ps rest h ∙ ap (λ (t : List ℕ). t ++ rest) (escaped_joined row_text ps)

-- the text of a delta between quotes, and what follows the closing one
abbrev pub delta_pieces : DeltaState → List ℕ → List ℕ
delta_pieces d rest =
    codes "{\\\"from\\\":" ++ (digits d.from ++ (codes ",\\\"rows\\\":[" ++ (escaped (joined row_text d.rows) ++ (codes "],\\\"v\\\":1}\"" ++ rest))))

delta_split : (a b c d e rest : List ℕ) → escaped (a ++ (b ++ (c ++ (d ++ e)))) ++ rest ≡ escaped a ++ (escaped b ++ (escaped c ++ (escaped d ++ (escaped e ++ rest))))
delta_split a b c d e rest = simp (escaped_append, append_assoc)

pub delta_pieces_are : (d : DeltaState) (rest : List ℕ) → quoted (delta_text d) rest ≡ delta_pieces d rest
unfolding delta_text
delta_pieces_are d rest =
    delta_split (codes "{\"from\":") (decimal d.from) (codes ",\"rows\":[") (joined row_text d.rows) (codes "],\"v\":1}") (34 ∷ rest)

-- the reading of a delta from each of its fields on
abbrev with_rows : Read → List Row × List ℕ → Option (DeltaState × List ℕ)
with_rows from rows = after (codes "],\\\"v\\\":1}\"") rows.1 >>= λ rest. Some (record { from = from.0; rows = rows.0 }, rest)

abbrev with_open : Read → List ℕ → Option (DeltaState × List ℕ)
with_open from open_rows = rows_at open_rows >>= with_rows from

abbrev with_from : Read → Option (DeltaState × List ℕ)
with_from from = after (codes ",\\\"rows\\\":[") from.1 >>= with_open from

-- what is read is the text of the parts
pub delta_takes : (bytes : List ℕ) (d : DeltaState) (rest : List ℕ) → delta_at bytes ≡ Some (d, rest) → bytes ≡ quoted (delta_text d) rest
unfolding delta_at
delta_takes bytes d rest e =
    let from = bind_some (short_behind (codes "{\\\"from\\\":") bytes) with_from (d, rest) e in
    let front = bind_some (after (codes ",\\\"rows\\\":[") from.0.1) (with_open from.0) (d, rest) from.2 in
    let rows = bind_some (rows_at front.0) (with_rows from.0) (d, rest) front.2 in
    let parts : DeltaState = record { from = from.0.0; rows = rows.0.0 } in
    let end = bind_some (after (codes "],\\\"v\\\":1}\"") rows.0.1) (λ (t : List ℕ). Some (parts, t)) (d, rest) rows.2 in
    let e3 = after_takes (codes "],\\\"v\\\":1}\"") rows.0.1 end.0 end.1 in
    let e2 = rows_take front.0 rows.0.0 rows.0.1 rows.1 ∙ ap (λ (t : List ℕ). escaped (joined row_text rows.0.0) ++ t) e3 in
    let e1 = after_takes (codes ",\\\"rows\\\":[") from.0.1 front.0 front.1 ∙ ap (λ (t : List ℕ). codes ",\\\"rows\\\":[" ++ t) e2 in
    let e0 : bytes ≡ delta_pieces parts end.0 = piece (codes "{\\\"from\\\":") from.0.0 bytes from.0.1 _ (short_behind_takes (codes "{\\\"from\\\":") bytes from.0.0 from.0.1 from.1) e1 in
    let read : DeltaState × List ℕ = (parts, end.0) in
    let text : List ℕ = quoted (delta_text parts) end.0 in
    let pieces : List ℕ = delta_pieces parts end.0 in
    let same : text ≡ pieces = delta_pieces_are parts end.0 in
    let whole : bytes ≡ text = ◌∙◌ {b = pieces} {c = text} e0 (sym {a = text} {b = pieces} same) in
    subst (λ (x : DeltaState × List ℕ). bytes ≡ quoted (delta_text x.0) x.1) {x = read} (same_Some read (d, rest) end.2) whole

-- ---- the text is taken again

number_again_digits : TakesAgain digits (λ n. n < 2 ^ 64) NoDigit number_at
number_again_digits n rest fits apart = ap (λ (t : List ℕ). number_at (t ++ rest)) (escaped_decimal n fits) ∙ number_again n rest fits apart

number_behind_again : (literal : List ℕ) (n : ℕ) (rest : List ℕ) → n < 2 ^ 64 → NoDigit rest → number_behind literal (literal ++ (digits n ++ rest)) ≡ Some (n, rest)
unfolding number_behind
number_behind_again literal n rest fits apart = rw (after_again literal (digits n ++ rest)) (number_again_digits n rest fits apart)

short_behind_again : (literal : List ℕ) (n : ℕ) (rest : List ℕ) → n < 2 ^ 16 → NoDigit rest → short_behind literal (literal ++ (digits n ++ rest)) ≡ Some (n, rest)
unfolding short_behind
short_behind_again literal n rest fits apart =
    rw (after_again literal (digits n ++ rest)) (ap (λ (t : List ℕ). short_at (t ++ rest)) (escaped_decimal n (omega (arith, fits))) ∙ short_again n rest fits apart)

numbers_behind_again : (literal ns rest : List ℕ) → 1 ≤ length ns → length ns ≤ 16 → AllByRecursion (λ n. n < 2 ^ 64) ns → NoDigit rest → after (codes ",") rest ≡ None
    → numbers_behind literal (literal ++ (escaped (joined decimal ns) ++ rest)) ≡ Some (ns, rest)
unfolding numbers_behind
numbers_behind_again literal [] rest some few fits apart none = absurd (omega arith)
numbers_behind_again literal (n ∷ ns) rest some few fits apart none =
    let text = escaped (joined decimal (n ∷ ns)) in
    let same : joined digits (n ∷ ns) ≡ text = escaped_joined decimal (n ∷ ns) in
    let read : joined_at number_at 15 (text ++ rest) ≡ Some (n ∷ ns, rest) =
    ap (λ (t : List ℕ). joined_at number_at 15 (t ++ rest)) (sym same)
    ∙ joined_again digits (λ n. n < 2 ^ 64) NoDigit number_at number_again_digits (λ s. refl) 15 n ns rest (omega arith) fits apart none in
    rw (after_again literal (text ++ rest)) read

row_again : TakesAgain (λ p. escaped (row_text p)) IsRow (λ rest. Unit {0}) row_at
unfolding row_at
row_again p rest fits apart =
    let t6 = codes "}" ++ rest in
    let t5 = codes ",\\\"taken\\\":" ++ (digits p.taken ++ t6) in
    let t4 = codes ",\\\"s\\\":" ++ (digits p.s ++ t5) in
    let t3 = codes "],\\\"r\\\":" ++ (digits p.r ++ t4) in
    let t2 = codes ",\\\"out\\\":[" ++ (escaped (joined decimal p.out) ++ t3) in
    let t1 = codes ",\\\"fin\\\":" ++ (digits p.fin ++ t2) in
    ap row_at (row_pieces_are p rest)
    ∙ ap (λ (o : Option Read). o >>= with_ann) (number_behind_again (codes "{\\\"ann\\\":") p.ann t1 fits.ann_fits refl)
    ∙ ap (λ (o : Option Read). o >>= with_fin (p.ann, t1)) (number_behind_again (codes ",\\\"fin\\\":") p.fin t2 fits.fin_fits refl)
    ∙ ap (λ (o : Option Counters). o >>= with_out (p.ann, t1) (p.fin, t2)) (numbers_behind_again (codes ",\\\"out\\\":[") p.out t3 fits.some_sites fits.few_sites fits.out_fits refl refl)
    ∙ ap (λ (o : Option Read). o >>= with_r (p.ann, t1) (p.fin, t2) (p.out, t3)) (short_behind_again (codes "],\\\"r\\\":") p.r t4 (omega (arith, fits.record_number)) refl)
    ∙ ap (λ (o : Option Read). o >>= with_s (p.ann, t1) (p.fin, t2) (p.out, t3) (p.r, t4)) (short_behind_again (codes ",\\\"s\\\":") p.s t5 (omega (arith, fits.site_number)) refl)
    ∙ ap (λ (o : Option Read). o >>= with_taken (p.ann, t1) (p.fin, t2) (p.out, t3) (p.r, t4) (p.s, t5)) (number_behind_again (codes ",\\\"taken\\\":") p.taken t6 fits.taken_fits refl)
    ∙ ap (λ (o : Option (List ℕ)). o >>= λ rest. Some (p, rest)) (after_again (codes "}") rest)

rows_again : (ps : List Row) (rest : List ℕ) → IsRising ps → AllByRecursion IsRow ps → rows_at (escaped (joined row_text ps) ++ 93 ∷ rest) ≡ Some (ps, 93 ∷ rest)
unfolding rows_at row_text
rows_again [] rest rising fits = refl
rows_again (p ∷ ps) rest rising fits =
    ap (λ (t : List ℕ). joined_at row_at 4095 (t ++ 93 ∷ rest)) (sym (escaped_joined row_text (p ∷ ps)))
    ∙ joined_again (λ q. escaped (row_text q)) IsRow (λ t. Unit {0}) row_at row_again (λ s. tt) 4095 p ps (93 ∷ rest) (omega (arith, few_rows p ps rising fits)) fits tt refl

-- the text of a delta is read as that delta
pub delta_again : (d : DeltaState) (rest : List ℕ) → IsDelta d → delta_at (quoted (delta_text d) rest) ≡ Some (d, rest)
unfolding delta_at
delta_again d rest is =
    let t2 = codes "],\\\"v\\\":1}\"" ++ rest in
    let t1 = escaped (joined row_text d.rows) ++ t2 in
    let t0 = codes ",\\\"rows\\\":[" ++ t1 in
    ap delta_at (delta_pieces_are d rest)
    ∙ ap (λ (o : Option Read). o >>= with_from) (short_behind_again (codes "{\\\"from\\\":") d.from t0 (omega (arith, is.from_site)) refl)
    ∙ ap (λ (o : Option (List ℕ)). o >>= with_open (d.from, t0)) (after_again (codes ",\\\"rows\\\":[") t1)
    ∙ ap (λ (o : Option (List Row × List ℕ)). o >>= with_rows (d.from, t0)) (rows_again d.rows (codes ",\\\"v\\\":1}\"" ++ rest) is.rising is.rows)
    ∙ ap (λ (o : Option (List ℕ)). o >>= λ (t : List ℕ). Some (d, t)) (after_again (codes "],\\\"v\\\":1}\"") rest)

-- ---- what a reader answers

-- it gives up where no delta stands
pub parts_fail : (e : Unread) (bytes : List ℕ) → Fails e (delta_at bytes) → Refuses e ((d : DeltaState) → (rest : List ℕ) → IsDelta d → bytes ≡ quoted (delta_text d) rest → ⊥)
parts_fail Refused bytes none = λ d rest is same. none-some (d, rest) (sym none ∙ ap delta_at same ∙ delta_again d rest is)
parts_fail Memory bytes fails = tt

-- parts that are no delta are not those of another text
pub parts_misfit : (bytes : List ℕ) (parts : DeltaState) (behind : List ℕ) → delta_at bytes ≡ Some (parts, behind) → (IsDelta parts → ⊥)
    → (d : DeltaState) → (rest : List ℕ) → IsDelta d → bytes ≡ quoted (delta_text d) rest → ⊥
parts_misfit bytes parts behind read misfit d rest is same =
    let one = some_pair_parts d parts rest behind (sym (delta_again d rest is) ∙ ap delta_at (sym same) ∙ read) in
    misfit (subst IsDelta one.0 is)
