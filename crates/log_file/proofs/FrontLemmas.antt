-- Fronts of a log's first line.
use Rattle.std.proofs.Common.{◌≡◌, ◌⊎◌, ℕ, ◌+◌, ◌-◌, ◌<◌, ◌≤◌, inl, inr, Bool, true, false, List, [], ◌∷◌, ◌++◌, length, drop, None, Some, Result, Ok, Err, suc, refl, sym, ap, subst, ◌∙◌, arith}
use Rattle.std.specs.declared.alloc.AllocError.{AllocError}
use Rattle.std.specs.Prelude.{IfOk, IsTrue, ◌↔◌, MatchBool}
use Rattle.std.proofs.lemmas.Bool.{cases_lt}
use Rattle.merge_core.specs.Layout.{LayoutState}
use Rattle.admission_core.specs.Kept.{DurableState}
use Rattle.text_input.specs.Lines.{HasNoLf}
use Rattle.transcript_text.specs.Texts.{book_told, front_text, sites_text}
use Rattle.transcript_text.specs.Told.{FitsSites}
use Rattle.transcript_reader.specs.declared.openings.Opening.{Opening}
use Rattle.transcript_reader.specs.Reading.{BeginsRun}
use Rattle.log_file.specs.Pieces.{IsTorn}
use Rattle.log_file.specs.Fronts.{IsFrontOf, IsFrontOfRun, IsNoFront, MayBeLog}
use Rattle.log_file.specs.Fronting.{start_opening, start_part, IsFrontAt, IsFrontIn}

-- ---- one number of sites

module _ (layout : LayoutState) (i n : ℕ) (bytes : List ℕ) where
  -- the site can't know so many
  pub none_fits : ¬ FitsSites layout i n → ¬ IsFrontAt layout i n bytes
  none_fits not (line, (begins, front)) = not (record {
    site_there = begins.may_begin.site_there;
    no_more = begins.may_begin.no_more;
    records_fit = begins.may_begin.records_fit;
  })

  -- the spelling with the number
  pub in_full : (first : DurableState) → first ≡ start_part layout i n → IsFrontIn layout i n first (Some n) bytes → IsFrontAt layout i n bytes
  in_full first same front =
      let here = subst (λ (d : DurableState). IsFrontIn layout i n d (Some n) bytes) same front in
      (_, (record { may_begin = here.0; text = inl refl }, here.1))

  -- or without it
  pub in_short : (first : DurableState) → first ≡ start_part layout i n → n ≡ layout.sites → IsFrontIn layout i n first None bytes → IsFrontAt layout i n bytes
  in_short first same all front =
      let here = subst (λ (d : DurableState). IsFrontIn layout i n d None bytes) same front in (
        _,
        (
          record {
            may_begin = here.0;
            text = inr (all, ap (λ (m : ℕ). front_text layout.records i (book_told layout i m (start_part layout i n)) (start_part layout i n).sessions ++ sites_text None) all);
          },
          here.1,
        ),
      )

  -- there is no other
  either : (first : DurableState) → first ≡ start_part layout i n → IsFrontAt layout i n bytes
      → IsFrontIn layout i n first (Some n) bytes ⊎ ((n ≡ layout.sites) × IsFrontIn layout i n first None bytes)
  either first same (line, (begins, front)) = elim begins.text [
    | inl full ↦ inl (subst (λ (d : DurableState). IsFrontIn layout i n d (Some n) bytes) (sym same)
        (begins.may_begin, (front.0, sym full ∙ front.1)))
    | inr short ↦ inr (
      short.0,
      subst (λ (d : DurableState). IsFrontIn layout i n d None bytes) (sym same) (
        begins.may_begin,
        (
          front.0,
          ap (λ (m : ℕ). front_text layout.records i (book_told layout i m (start_part layout i n)) (start_part layout i n).sessions ++ sites_text None) short.0
              ∙ (sym short.1 ∙ front.1),
        ),
      ),
    )
  ]

  -- neither of them
  pub neither : (first : DurableState) → first ≡ start_part layout i n → ¬ IsFrontIn layout i n first (Some n) bytes → ¬ (n ≡ layout.sites)
      → ¬ IsFrontAt layout i n bytes
  neither first same not_full fewer front = elim (either first same front) [
    | inl full ↦ not_full full
    | inr short ↦ fewer short.0
  ]

  -- the answer of the second, where it is not the first
  pub second : (first : DurableState) → first ≡ start_part layout i n → ¬ IsFrontIn layout i n first (Some n) bytes → n ≡ layout.sites
      → (answer : Result Bool AllocError) → IfOk answer (λ (b : Bool). IsTrue b ↔ IsFrontIn layout i n first None bytes) → IfOk answer (λ (b : Bool). IsTrue b ↔ IsFrontAt layout i n bytes)
  second first same not_full all (Err e) tells = tells
  second first same not_full all (Ok b) tells = (
    λ yes. in_short first same all (tells.0 yes),
    λ front. elim (either first same front) [
      | inl full ↦ absurd (not_full full)
      | inr short ↦ tells.1 short.1
    ],
  )

-- ---- any number

-- the run is legal with none before it
pub front_found : (layout : LayoutState) (i n : ℕ) (bytes : List ℕ) → IsFrontAt layout i n bytes → IsFrontOfRun layout i bytes
front_found layout i n bytes (line, (begins, front)) = (
  line,
  (
    record {
      it = start_opening layout i n;
      begins = begins;
      of_site = refl;
      legal = (
        record {
          site_there = begins.may_begin.site_there;
          no_fewer = omega arith;
          no_more = begins.may_begin.no_more;
          records_fit = begins.may_begin.records_fit;
          first_part = refl;
        },
        (tt, tt),
      );
    },
    front,
  ),
)

begins_so : (layout : LayoutState) (i : ℕ) (line : List ℕ) (it : Opening) → it.site ≡ i → it.first ≡ start_part layout i it.sites → BeginsRun layout line it
    → BeginsRun layout line (start_opening layout i it.sites)
begins_so layout i line it of_site part begins =
    let same : it ≡ start_opening layout i it.sites = λ k. record { site = of_site k; sites = it.sites; first = part k } in
    subst (BeginsRun layout line) same begins

-- a first run knows some number of sites, up to the layout's
pub front_sites : (layout : LayoutState) (i : ℕ) (bytes : List ℕ) → IsFrontOfRun layout i bytes
    → (n : ℕ) × ((n < layout.sites) × IsFrontAt layout i (n + 1) bytes)
front_sites layout i bytes (line, (can, front)) =
    let it = can.it in
    let begins = begins_so layout i line it can.of_site can.legal.0.first_part can.begins in
    let few : it.sites ≤ layout.sites = begins.may_begin.no_more in
    let some : i < it.sites = begins.may_begin.site_there in
    let next : it.sites ≡ (it.sites - 1) + 1 = omega (arith, some) in (
      it.sites - 1,
      (
        omega (arith, few, some),
        subst (λ (m : ℕ). IsFrontAt layout i m bytes) next (line, (begins, front)),
      ),
    )

pub one_more : (layout : LayoutState) (i : ℕ) (bytes : List ℕ) (n : ℕ) → ((m : ℕ) → m < n → ¬ IsFrontAt layout i (m + 1) bytes) → ¬ IsFrontAt layout i (n + 1) bytes
    → (m : ℕ) → m < n + 1 → ¬ IsFrontAt layout i (m + 1) bytes
one_more layout i bytes n before here m within front = elim (cases_lt m n) [
  | inl below ↦ before m below front
  | inr past ↦ here (let same : m ≡ n = omega (arith, past, within) in subst (λ (k : ℕ). IsFrontAt layout i (k + 1) bytes) same front)
]

pub no_front : (layout : LayoutState) (i : ℕ) (bytes : List ℕ) → ((n : ℕ) → n < layout.sites → ¬ IsFrontAt layout i (n + 1) bytes) → ¬ IsFrontOfRun layout i bytes
no_front layout i bytes none front = let found = front_sites layout i bytes front in none found.0 found.1.0 found.1.1

-- ---- bytes, by their whole lines

ends_in_lf : (before after : List ℕ) → ¬ HasNoLf ((before ++ 10 ∷ []) ++ after)
ends_in_lf [] after none = none 0 (omega arith) refl
ends_in_lf (b ∷ before) after none = ends_in_lf before after (λ j within. none (suc j) (omega (arith, within)))

pub some_whole : (layout : LayoutState) (i : ℕ) (bytes whole torn : List ℕ) → IsTorn bytes whole torn → ¬ (whole ≡ []) → MayBeLog layout i bytes
some_whole layout i bytes whole torn is_torn some plain = elim is_torn.are_whole [
  | inl none ↦ absurd (some none)
  | inr ends ↦ absurd (ends_in_lf ends.0 torn (subst HasNoLf (is_torn.split ∙ ap (λ (xs : List ℕ). xs ++ torn) ends.1) plain))
]

pub no_whole : (layout : LayoutState) (i : ℕ) (bytes whole torn : List ℕ) (b : Bool) → IsTorn bytes whole torn → whole ≡ [] → (IsTrue b ↔ IsFrontOfRun layout i bytes)
    → MatchBool b (MayBeLog layout i bytes) (IsNoFront layout i bytes)
no_whole layout i bytes whole torn true is_torn none tells = λ plain. tells.0 refl
no_whole layout i bytes whole torn false is_torn none tells =
    let all : bytes ≡ torn = is_torn.split ∙ ap (λ (xs : List ℕ). xs ++ torn) none in (
      subst HasNoLf (sym all) is_torn.no_line,
      λ front. let clash : false ≡ true = tells.1 front in cc,
    )

-- a text that begins with bytes
pub starts_so : (text bytes : List ℕ) (r : Bool) → (r ≡ true → text ≡ bytes ++ drop (length bytes) text) × ((rest : List ℕ) → text ≡ bytes ++ rest → r ≡ true)
    → IsTrue r ↔ IsFrontOf bytes text
starts_so text bytes r it = (λ yes. (drop (length bytes) text, it.0 yes), λ front. it.1 front.0 front.1)
