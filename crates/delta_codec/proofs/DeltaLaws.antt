-- The reading of a delta's text takes exactly the texts of deltas.
use Rattle.std.proofs.Common.{◌≡◌, ℕ, ◌+◌, ◌*◌, ◌^◌, ◌<◌, ◌≤◌, Bool, true, false, cond, ◌==◌, List, [], ◌∷◌, ◌++◌, length, Option, Some, None, codes, decimal, refl, sym, ap, subst, ◌∙◌, append_assoc, inl, inr, arith}
use Rattle.std.specs.List.{AllByRecursion}
use Rattle.std.proofs.lemmas.Bool.{eqb-true}
use Rattle.std.proofs.lemmas.List.{nil_from_length}
use Rattle.std.proofs.lemmas.Option.{none-some, cond_some, some_pair_parts, same_Some}
use Rattle.merge_core.specs.Delta.{DeltaState, IsDelta, IsRow, IsRising}
use Rattle.merge_core.specs.declared.delta.Row.{Row}
use Rattle.text_parts.specs.Lists.{joined}
use Rattle.text_parts.specs.Readers.{◌>>=◌, Fails, NoDigit, after, number_at, short_at, joined_at}
use Rattle.delta_codec.specs.Decodes.{HasNoDelta}
use Rattle.delta_codec.specs.DeltaText.{row_text, delta_text}
use Rattle.delta_codec.specs.DeltaReaders.{number_behind, short_behind, numbers_behind, row_at, rows_at, delta_at}
use Rattle.text_parts.specs.declared.unread.Unread.{Unread}
use Rattle.text_parts.specs.declared.unread.Unread.TheVariants.{Refused, Memory}
use Rattle.text_parts.proofs.LiteralLaws.{bind_some, after_takes, after_again}
use Rattle.text_parts.proofs.NumberLaws.{number_takes, number_again, short_takes, short_again}
use Rattle.text_parts.proofs.ElementLaws.{TakesTexts, TakesAgain, joined_takes, joined_again}

-- ---- what is taken is its text

number_behind_takes : (literal bytes : List ℕ) (n : ℕ) (rest : List ℕ) → number_behind literal bytes ≡ Some (n, rest) → bytes ≡ literal ++ (decimal n ++ rest)
unfolding number_behind
number_behind_takes literal bytes n rest e =
    let front = bind_some (after literal bytes) number_at (n, rest) e in
    after_takes literal bytes front.0 front.1 ∙ ap (λ (s : List ℕ). literal ++ s) (number_takes front.0 n rest front.2).0

short_behind_takes : (literal bytes : List ℕ) (n : ℕ) (rest : List ℕ) → short_behind literal bytes ≡ Some (n, rest) → bytes ≡ literal ++ (decimal n ++ rest)
unfolding short_behind
short_behind_takes literal bytes n rest e =
    let front = bind_some (after literal bytes) short_at (n, rest) e in
    after_takes literal bytes front.0 front.1 ∙ ap (λ (s : List ℕ). literal ++ s) (short_takes front.0 n rest front.2)

numbers_behind_takes : (literal bytes ns rest : List ℕ) → numbers_behind literal bytes ≡ Some (ns, rest) → bytes ≡ literal ++ (joined decimal ns ++ rest)
unfolding numbers_behind
numbers_behind_takes literal bytes ns rest e =
    let front = bind_some (after literal bytes) (joined_at number_at 15) (ns, rest) e in
    after_takes literal bytes front.0 front.1 ∙ ap (λ (s : List ℕ). literal ++ s) (joined_takes decimal number_at (λ b x r h. (number_takes b x r h).0) 15 front.0 ns rest front.2)

-- thirteen pieces and what follows them
regrouped : (a b c d e f g h i j k l m rest : List ℕ) → (a ++ (b ++ (c ++ (d ++ (e ++ (f ++ (g ++ (h ++ (i ++ (j ++ (k ++ (l ++ m)))))))))))) ++ rest ≡ a ++ (b ++ (c ++ (d ++ (e ++ (f ++ (g ++ (h ++ (i ++ (j ++ (k ++ (l ++ (m ++ rest))))))))))))
regrouped a b c d e f g h i j k l m rest = simp append_assoc

abbrev Read : Type 0
Read = ℕ × List ℕ

-- the reading of a row from each of its fields on
abbrev with_taken : Read → Read → List ℕ × List ℕ → Read → Read → Read → Option (Row × List ℕ)
with_taken ann fin out r s taken = after (codes "}") taken.1 >>= λ rest. Some (record { r = r.0; s = s.0; out = out.0; taken = taken.0; ann = ann.0; fin = fin.0 }, rest)

abbrev with_s : Read → Read → List ℕ × List ℕ → Read → Read → Option (Row × List ℕ)
with_s ann fin out r s = number_behind (codes ",\"taken\":") s.1 >>= with_taken ann fin out r s

abbrev with_r : Read → Read → List ℕ × List ℕ → Read → Option (Row × List ℕ)
with_r ann fin out r = short_behind (codes ",\"s\":") r.1 >>= with_s ann fin out r

abbrev with_out : Read → Read → List ℕ × List ℕ → Option (Row × List ℕ)
with_out ann fin out = short_behind (codes "],\"r\":") out.1 >>= with_r ann fin out

abbrev with_fin : Read → Read → Option (Row × List ℕ)
with_fin ann fin = numbers_behind (codes ",\"out\":[") fin.1 >>= with_out ann fin

abbrev with_ann : Read → Option (Row × List ℕ)
with_ann ann = number_behind (codes ",\"fin\":") ann.1 >>= with_fin ann

-- a number behind a literal, and what is behind the number
piece : (literal : List ℕ) (n : ℕ) (bytes rest tail : List ℕ) → bytes ≡ literal ++ (decimal n ++ rest) → rest ≡ tail → bytes ≡ literal ++ (decimal n ++ tail)
piece literal n bytes rest tail e f = e ∙ ap (λ (t : List ℕ). literal ++ (decimal n ++ t)) f

list_piece : (literal ns bytes rest tail : List ℕ) → bytes ≡ literal ++ (joined decimal ns ++ rest) → rest ≡ tail → bytes ≡ literal ++ (joined decimal ns ++ tail)
list_piece literal ns bytes rest tail e f = e ∙ ap (λ (t : List ℕ). literal ++ (joined decimal ns ++ t)) f

row_takes : TakesTexts row_text row_at
unfolding row_at row_text
row_takes bytes p rest e =
    let ann = bind_some (number_behind (codes "{\"ann\":") bytes) with_ann (p, rest) e in
    let fin = bind_some (number_behind (codes ",\"fin\":") ann.0.1) (with_fin ann.0) (p, rest) ann.2 in
    let out = bind_some (numbers_behind (codes ",\"out\":[") fin.0.1) (with_out ann.0 fin.0) (p, rest) fin.2 in
    let r = bind_some (short_behind (codes "],\"r\":") out.0.1) (with_r ann.0 fin.0 out.0) (p, rest) out.2 in
    let s = bind_some (short_behind (codes ",\"s\":") r.0.1) (with_s ann.0 fin.0 out.0 r.0) (p, rest) r.2 in
    let taken = bind_some (number_behind (codes ",\"taken\":") s.0.1) (with_taken ann.0 fin.0 out.0 r.0 s.0) (p, rest) s.2 in
    let end = bind_some (after (codes "}") taken.0.1) (λ rest. Some (record { r = r.0.0; s = s.0.0; out = out.0.0; taken = taken.0.0; ann = ann.0.0; fin = fin.0.0 }, rest)) (p, rest) taken.2 in
    let t6 : List ℕ = codes "}" ++ end.0 in
    let t5 : List ℕ = codes ",\"taken\":" ++ (decimal taken.0.0 ++ t6) in
    let t4 : List ℕ = codes ",\"s\":" ++ (decimal s.0.0 ++ t5) in
    let t3 : List ℕ = codes "],\"r\":" ++ (decimal r.0.0 ++ t4) in
    let t2 : List ℕ = codes ",\"out\":[" ++ (joined decimal out.0.0 ++ t3) in
    let t1 : List ℕ = codes ",\"fin\":" ++ (decimal fin.0.0 ++ t2) in
    let t0 : List ℕ = codes "{\"ann\":" ++ (decimal ann.0.0 ++ t1) in
    let e6 : taken.0.1 ≡ t6 = after_takes (codes "}") taken.0.1 end.0 end.1 in
    let e5 : s.0.1 ≡ t5 = piece (codes ",\"taken\":") taken.0.0 s.0.1 taken.0.1 t6 (number_behind_takes (codes ",\"taken\":") s.0.1 taken.0.0 taken.0.1 taken.1) e6 in
    let e4 : r.0.1 ≡ t4 = piece (codes ",\"s\":") s.0.0 r.0.1 s.0.1 t5 (short_behind_takes (codes ",\"s\":") r.0.1 s.0.0 s.0.1 s.1) e5 in
    let e3 : out.0.1 ≡ t3 = piece (codes "],\"r\":") r.0.0 out.0.1 r.0.1 t4 (short_behind_takes (codes "],\"r\":") out.0.1 r.0.0 r.0.1 r.1) e4 in
    let e2 : fin.0.1 ≡ t2 = list_piece (codes ",\"out\":[") out.0.0 fin.0.1 out.0.1 t3 (numbers_behind_takes (codes ",\"out\":[") fin.0.1 out.0.0 out.0.1 out.1) e3 in
    let e1 : ann.0.1 ≡ t1 = piece (codes ",\"fin\":") fin.0.0 ann.0.1 fin.0.1 t2 (number_behind_takes (codes ",\"fin\":") ann.0.1 fin.0.0 fin.0.1 fin.1) e2 in
    let e0 : bytes ≡ t0 = piece (codes "{\"ann\":") ann.0.0 bytes ann.0.1 t1 (number_behind_takes (codes "{\"ann\":") bytes ann.0.0 ann.0.1 ann.1) e1 in
    let text : List ℕ = row_text (record { r = r.0.0; s = s.0.0; out = out.0.0; taken = taken.0.0; ann = ann.0.0; fin = fin.0.0 }) ++ end.0 in
    let same : text ≡ t0 = regrouped (codes "{\"ann\":") (decimal ann.0.0) (codes ",\"fin\":") (decimal fin.0.0) (codes ",\"out\":[") (joined decimal out.0.0) (codes "],\"r\":") (decimal r.0.0) (codes ",\"s\":") (decimal s.0.0) (codes ",\"taken\":") (decimal taken.0.0) (codes "}") end.0 in
    let whole : bytes ≡ text = ◌∙◌ {b = t0} {c = text} e0 (sym {a = text} {b = t0} same) in
    let read : Row × List ℕ = (record { r = r.0.0; s = s.0.0; out = out.0.0; taken = taken.0.0; ann = ann.0.0; fin = fin.0.0 }, end.0) in
    subst (λ (x : Row × List ℕ). bytes ≡ row_text x.0 ++ x.1) {x = read} (same_Some read (p, rest) end.2) whole

rows_take : (bytes : List ℕ) (ps : List Row) (rest : List ℕ) → rows_at bytes ≡ Some (ps, rest) → bytes ≡ joined row_text ps ++ rest
unfolding rows_at
rows_take [] ps rest e = absurd (none-some (ps, rest) e)
rows_take (b ∷ bs) ps rest e = cases (b == 93) e
  where
    cases : (closed : Bool) → cond closed (Some ([], b ∷ bs)) (joined_at row_at 4095 (b ∷ bs)) ≡ Some (ps, rest) → b ∷ bs ≡ joined row_text ps ++ rest
    cases true h = let parts = some_pair_parts [] ps (b ∷ bs) rest h in rw (← parts.0) parts.1
    cases false h = joined_takes row_text row_at row_takes 4095 (b ∷ bs) ps rest h

-- the reading of a delta from each of its fields on
abbrev with_rows : Read → List Row × List ℕ → Option DeltaState
with_rows from rows = after (codes "],\"v\":1}") rows.1 >>= λ rest. cond (length rest == 0) (Some (record { from = from.0; rows = rows.0 })) None

abbrev with_open : Read → List ℕ → Option DeltaState
with_open from open_rows = rows_at open_rows >>= with_rows from

abbrev with_from : Read → Option DeltaState
with_from from = after (codes ",\"rows\":[") from.1 >>= with_open from

-- what is read is the text of the parts
pub delta_takes : (bytes : List ℕ) (d : DeltaState) → delta_at bytes ≡ Some d → bytes ≡ delta_text d
unfolding delta_at delta_text
delta_takes bytes d e =
    let from = bind_some (short_behind (codes "{\"from\":") bytes) with_from d e in
    let front = bind_some (after (codes ",\"rows\":[") from.0.1) (with_open from.0) d from.2 in
    let rows = bind_some (rows_at front.0) (with_rows from.0) d front.2 in
    let end = bind_some (after (codes "],\"v\":1}") rows.0.1) (λ rest. cond (length rest == 0) (Some (record { from = from.0.0; rows = rows.0.0 })) None) d rows.2 in
    let read : DeltaState = record { from = from.0.0; rows = rows.0.0 } in
    let last = cond_some (length end.0 == 0) read d end.2 in
    let nothing : end.0 ≡ [] = nil_from_length end.0 (eqb-true _ _ last.0) in
    let e3 : rows.0.1 ≡ codes "],\"v\":1}" = after_takes (codes "],\"v\":1}") rows.0.1 end.0 end.1 ∙ ap (λ (t : List ℕ). codes "],\"v\":1}" ++ t) nothing in
    let e2 = rows_take front.0 rows.0.0 rows.0.1 rows.1 ∙ ap (λ (t : List ℕ). joined row_text rows.0.0 ++ t) e3 in
    let e1 = after_takes (codes ",\"rows\":[") from.0.1 front.0 front.1 ∙ ap (λ (t : List ℕ). codes ",\"rows\":[" ++ t) e2 in
    let e0 = piece (codes "{\"from\":") from.0.0 bytes from.0.1 _ (short_behind_takes (codes "{\"from\":") bytes from.0.0 from.0.1 from.1) e1 in
    subst (λ (x : DeltaState). bytes ≡ delta_text x) last.1 e0

-- ---- the text is taken again

number_behind_again : (literal : List ℕ) (n : ℕ) (rest : List ℕ) → n < 2 ^ 64 → NoDigit rest → number_behind literal (literal ++ (decimal n ++ rest)) ≡ Some (n, rest)
unfolding number_behind
number_behind_again literal n rest fits apart = rw (after_again literal (decimal n ++ rest)) (number_again n rest fits apart)

short_behind_again : (literal : List ℕ) (n : ℕ) (rest : List ℕ) → n < 2 ^ 16 → NoDigit rest → short_behind literal (literal ++ (decimal n ++ rest)) ≡ Some (n, rest)
unfolding short_behind
short_behind_again literal n rest fits apart = rw (after_again literal (decimal n ++ rest)) (short_again n rest fits apart)

numbers_behind_again : (literal ns rest : List ℕ) → 1 ≤ length ns → length ns ≤ 16 → AllByRecursion (λ n. n < 2 ^ 64) ns → NoDigit rest → after (codes ",") rest ≡ None → numbers_behind literal (literal ++ (joined decimal ns ++ rest)) ≡ Some (ns, rest)
unfolding numbers_behind
numbers_behind_again literal [] rest some few fits apart none = absurd (omega arith)
numbers_behind_again literal (n ∷ ns) rest some few fits apart none =
    rw (after_again literal (joined decimal (n ∷ ns) ++ rest)) (joined_again decimal (λ n. n < 2 ^ 64) NoDigit number_at (λ x r h a. number_again x r h a) (λ s. refl) 15 n ns rest (omega arith) fits apart none)

row_again : TakesAgain row_text IsRow (λ rest. Unit {0}) row_at
unfolding row_at row_text
row_again p rest fits apart =
    let t6 = codes "}" ++ rest in
    let t5 = codes ",\"taken\":" ++ (decimal p.taken ++ t6) in
    let t4 = codes ",\"s\":" ++ (decimal p.s ++ t5) in
    let t3 = codes "],\"r\":" ++ (decimal p.r ++ t4) in
    let t2 = codes ",\"out\":[" ++ (joined decimal p.out ++ t3) in
    let t1 = codes ",\"fin\":" ++ (decimal p.fin ++ t2) in
    let whole = regrouped (codes "{\"ann\":") (decimal p.ann) (codes ",\"fin\":") (decimal p.fin) (codes ",\"out\":[") (joined decimal p.out) (codes "],\"r\":") (decimal p.r) (codes ",\"s\":") (decimal p.s) (codes ",\"taken\":") (decimal p.taken) (codes "}") rest in
    ap row_at whole
    ∙ ap (λ (o : Option Read). o >>= with_ann) (number_behind_again (codes "{\"ann\":") p.ann t1 fits.ann_fits refl)
    ∙ ap (λ (o : Option Read). o >>= with_fin (p.ann, t1)) (number_behind_again (codes ",\"fin\":") p.fin t2 fits.fin_fits refl)
    ∙ ap (λ (o : Option (List ℕ × List ℕ)). o >>= with_out (p.ann, t1) (p.fin, t2)) (numbers_behind_again (codes ",\"out\":[") p.out t3 fits.some_sites fits.few_sites fits.out_fits refl refl)
    ∙ ap (λ (o : Option Read). o >>= with_r (p.ann, t1) (p.fin, t2) (p.out, t3)) (short_behind_again (codes "],\"r\":") p.r t4 (omega (arith, fits.record_number)) refl)
    ∙ ap (λ (o : Option Read). o >>= with_s (p.ann, t1) (p.fin, t2) (p.out, t3) (p.r, t4)) (short_behind_again (codes ",\"s\":") p.s t5 (omega (arith, fits.site_number)) refl)
    ∙ ap (λ (o : Option Read). o >>= with_taken (p.ann, t1) (p.fin, t2) (p.out, t3) (p.r, t4) (p.s, t5)) (number_behind_again (codes ",\"taken\":") p.taken t6 fits.taken_fits refl)
    ∙ ap (λ (o : Option (List ℕ)). o >>= λ rest. Some (p, rest)) (after_again (codes "}") rest)

-- rows that rise are no more than there are pairs of a record and a site
pub few_rows : (p : Row) (ps : List Row) → IsRising (p ∷ ps) → AllByRecursion IsRow (p ∷ ps) → 16 * p.r + p.s + length ps < 4096
few_rows p [] rising rows = omega (arith, rows.0.record_number, rows.0.site_number)
few_rows p (q ∷ qs) rising rows =
    let others = few_rows q qs rising.1 rows.1 in
    elim rising.0.0 [
      | inl record_before ↦ omega (arith, others, rows.0.site_number)
      | inr site_before ↦ omega (arith, others, site_before.0, site_before.1)
    ]

rows_again : (ps : List Row) (rest : List ℕ) → IsRising ps → AllByRecursion IsRow ps → rows_at (joined row_text ps ++ 93 ∷ rest) ≡ Some (ps, 93 ∷ rest)
unfolding rows_at row_text
rows_again [] rest rising fits = refl
rows_again (p ∷ ps) rest rising fits =
    joined_again row_text IsRow (λ t. Unit {0}) row_at row_again (λ s. tt) 4095 p ps (93 ∷ rest) (omega (arith, few_rows p ps rising fits)) fits tt refl

-- the text of a delta is read as that delta
pub delta_again : (d : DeltaState) → IsDelta d → delta_at (delta_text d) ≡ Some d
unfolding delta_at delta_text
delta_again d is =
    let t2 = codes "],\"v\":1}" in
    let t1 = joined row_text d.rows ++ t2 in
    let t0 = codes ",\"rows\":[" ++ t1 in
    ap (λ (o : Option Read). o >>= with_from) (short_behind_again (codes "{\"from\":") d.from t0 (omega (arith, is.from_site)) refl)
    ∙ ap (λ (o : Option (List ℕ)). o >>= with_open (d.from, t0)) (after_again (codes ",\"rows\":[") t1)
    ∙ ap (λ (o : Option (List Row × List ℕ)). o >>= with_rows (d.from, t0)) (rows_again d.rows (codes ",\"v\":1}") is.rising is.rows)

-- two deltas with one text are one
pub one_delta : (d e : DeltaState) → IsDelta d → IsDelta e → delta_text d ≡ delta_text e → d ≡ e
one_delta d e is_d is_e same = same_Some d e (sym (delta_again d is_d) ∙ ap delta_at same ∙ delta_again e is_e)

-- where nothing is read there is no delta
unread_none : (bytes : List ℕ) → delta_at bytes ≡ None → HasNoDelta bytes
unread_none bytes none d is text = none-some d (sym none ∙ ap delta_at text ∙ delta_again d is)

-- what a refusal of the reader says
pub read_fails : (e : Unread) (bytes : List ℕ) → Fails e (delta_at bytes) → e ≡ Refused → HasNoDelta bytes
read_fails Refused bytes none same = unread_none bytes none
read_fails Memory bytes any same = absurd cc

-- parts that are no delta are not those of another text
pub misfit_none : (bytes : List ℕ) (parts : DeltaState) → delta_at bytes ≡ Some parts → ¬ IsDelta parts → HasNoDelta bytes
misfit_none bytes parts read misfit d is text =
    misfit (subst IsDelta (same_Some d parts (sym (delta_again d is) ∙ ap delta_at (sym text) ∙ read)) is)
