-- What was read of the line that begins a run.
use Rattle.std.specs.Prelude.{MatchResult}
use Rattle.std.proofs.Common.{◌≡◌, ℕ, ◌<◌, ◌^◌, List, ◌++◌, Option, Some, None, Result, Ok, Err, codes, unwrap_or, refl, sym, ap, subst, ◌∙◌, ◌⊎◌, inl, inr, arith}
use Rattle.std.proofs.lemmas.Option.{same_Some}
use Rattle.merge_core.specs.Layout.{LayoutState, IsLayout, at_sites}
use Rattle.merge_core.specs.Delta.{DeltaState, IsDelta}
use Rattle.text_parts.specs.declared.unread.Unread.{Unread}
use Rattle.text_parts.specs.declared.unread.Unread.TheVariants.{Refused, Memory as NoRoom}
use Rattle.text_parts.specs.Readers.{Fails, after}
use Rattle.text_parts.proofs.LiteralLaws.{after_again}
use Rattle.delta_codec.proofs.DeltaLaws.{one_delta}
use Rattle.transcript_reader.specs.Quoted.{quoted, ReadsQuoted}
use Rattle.transcript_reader.proofs.EscapedLemmas.{quoted_once}
use Rattle.transcript_reader.proofs.EntryLemmas.{only_memory}
use Rattle.admission_core.specs.Kept.{DurableState}
use Rattle.delta_codec.specs.DeltaText.{delta_text}
use Rattle.transcript_text.specs.Texts.{front_text, sites_text, book_told, opening_text, short_opening_text, MayBegin}
use Rattle.transcript_reader.specs.declared.openings.Opening.{Opening}
use Rattle.transcript_reader.specs.Readers.{OpeningParts, opening_parts}
use Rattle.transcript_reader.specs.Reading.{BeginsRun}
use Rattle.transcript_reader.proofs.OpeningLemmas.{behind_book, opening_front, opening_again, sessions_fit}
use Rattle.transcript_reader.proofs.PartLemmas.{layout_at}

-- the line in one of its spellings, and what stands in it
pub record IsSpelled (layout : LayoutState) (line : List ℕ) (it : Opening) : Type 0 where
  pub sites : Option ℕ
  pub stands : unwrap_or sites layout.sites ≡ it.sites
  pub text : line ≡ front_text layout.records it.site (book_told layout it.site it.sites it.first) it.first.sessions ++ sites_text sites
  pub read : opening_parts layout.records (behind_book layout.records it.site it.first.sessions sites) ≡ Some (record { sessions = it.first.sessions; site = it.site; sites = sites })

pub spelled_so : (layout : LayoutState) (line : List ℕ) (it : Opening) → IsLayout layout → BeginsRun layout line it → IsSpelled layout line it
spelled_so layout line it is begins = at begins.text
  where
    may : MayBegin layout it.site it.sites it.first
    may = begins.may_begin

    told : DeltaState
    told = book_told layout it.site it.sites it.first

    front : List ℕ
    front = front_text layout.records it.site told it.first.sessions

    site_fits : it.site < 2 ^ 16
    site_fits = omega (arith, may.site_there, may.no_more, is.few_sites)

    sites_fit : it.sites < 2 ^ 16
    sites_fit = omega (arith, may.no_more, is.few_sites)

    at : (line ≡ opening_text layout it.site it.sites it.first) ⊎ ((it.sites ≡ layout.sites) × (line ≡ short_opening_text layout it.site it.first)) → IsSpelled layout line it
    at (inl long) = record {
      sites = Some it.sites;
      stands = refl;
      text = long;
      read = opening_again layout.records it.site it.first.sessions (Some it.sites) (sessions_fit layout is it.first.sessions may.sessions.records may.sessions.holders) site_fits sites_fit;
    }
    at (inr short) =
        let text : line ≡ front ++ sites_text None =
        short.1 ∙ ap (λ (n : ℕ). front_text layout.records it.site (book_told layout it.site n it.first) it.first.sessions ++ sites_text None) (sym short.0) in
        record {
          sites = None;
          stands = sym short.0;
          text = text;
          read = opening_again layout.records it.site it.first.sessions None (sessions_fit layout is it.first.sessions may.sessions.records may.sessions.holders) site_fits tt;
        }

-- what stands in it behind what the site tells
abbrev pub behind_spelled : (layout : LayoutState) (line : List ℕ) (it : Opening) → IsLayout layout → BeginsRun layout line it → List ℕ
behind_spelled layout line it is begins = behind_book layout.records it.site it.first.sessions (spelled_so layout line it is begins).sites

pub front_spelled : (layout : LayoutState) (line : List ℕ) (it : Opening) → (is : IsLayout layout) → (begins : BeginsRun layout line it)
    → line ≡ codes "{\"book\":\"" ++ quoted (delta_text (book_told layout it.site it.sites it.first)) (behind_spelled layout line it is begins)
front_spelled layout line it is begins =
    let s = spelled_so layout line it is begins in
    s.text ∙ opening_front layout.records it.site (book_told layout it.site it.sites it.first) it.first.sessions s.sites

-- two spellings of a line have one text between the first quotes, and the same behind it
pub one_front : (layout : LayoutState) (line : List ℕ) (it other : Opening) → (is : IsLayout layout) → (begins : BeginsRun layout line it) → (begins2 : BeginsRun layout line other)
    → (delta_text (book_told layout it.site it.sites it.first) ≡ delta_text (book_told layout other.site other.sites other.first))
    × (behind_spelled layout line it is begins ≡ behind_spelled layout line other is begins2)
one_front layout line it other is begins begins2 =
    let text = quoted (delta_text (book_told layout it.site it.sites it.first)) (behind_spelled layout line it is begins) in
    let text2 = quoted (delta_text (book_told layout other.site other.sites other.first)) (behind_spelled layout line other is begins2) in
    quoted_once (delta_text (book_told layout it.site it.sites it.first)) (behind_spelled layout line it is begins)
    (delta_text (book_told layout other.site other.sites other.first)) (behind_spelled layout line other is begins2)
    (same_Some text text2
    (sym (after_again (codes "{\"book\":\"") text)
    ∙ (ap (after (codes "{\"book\":\"")) (sym (front_spelled layout line it is begins) ∙ front_spelled layout line other is begins2) ∙ after_again (codes "{\"book\":\"") text2)))

-- what the site tells is read off its front
pub book_so : {X : Type 0} (view : X → DeltaState × List ℕ) (line bytes : List ℕ) (result : Result X Unread) → after (codes "{\"book\":\"") line ≡ Some bytes
    → ReadsQuoted view IsDelta delta_text bytes result → (d : DeltaState) → (rest : List ℕ) → IsDelta d → line ≡ codes "{\"book\":\"" ++ quoted (delta_text d) rest
    → MatchResult result (λ x. ((view x).0 ≡ d) × ((view x).1 ≡ rest)) (λ e. e ≡ NoRoom)
book_so {X} view line bytes result head reads d rest is same = at result reads
  where
    here : bytes ≡ quoted (delta_text d) rest
    here = same_Some bytes (quoted (delta_text d) rest) (sym head ∙ (ap (after (codes "{\"book\":\"")) same ∙ after_again (codes "{\"book\":\"") (quoted (delta_text d) rest)))

    at : (r : Result X Unread) → ReadsQuoted view IsDelta delta_text bytes r → MatchResult r (λ x. ((view x).0 ≡ d) × ((view x).1 ≡ rest)) (λ e. e ≡ NoRoom)
    at (Ok x) read =
        let once = quoted_once (delta_text (view x).0) (view x).1 (delta_text d) rest (sym read.1 ∙ here) in
        (one_delta (view x).0 d read.0 is once.0, once.1)
    at (Err Refused) none = absurd (none d rest is here)
    at (Err NoRoom) none = refl

-- no other text stands behind the first quote
pub book_fails : (e : Unread) (line : List ℕ) → Fails e (after (codes "{\"book\":\"") line) → (d : DeltaState) → (rest : List ℕ) → line ≡ codes "{\"book\":\"" ++ quoted (delta_text d) rest → e ≡ NoRoom
book_fails e line fails d rest same =
    only_memory e (after (codes "{\"book\":\"") line) (quoted (delta_text d) rest) fails (ap (after (codes "{\"book\":\"")) same ∙ after_again (codes "{\"book\":\"") (quoted (delta_text d) rest))

-- what a reader finds in it
pub record AreParts (layout : LayoutState) (line : List ℕ) (it : Opening) (p : OpeningParts) : Type 0 where
  pub sessions : p.sessions ≡ it.first.sessions
  pub site : p.site ≡ it.site
  pub stands : unwrap_or p.sites layout.sites ≡ it.sites
  pub text : line ≡ front_text layout.records it.site (book_told layout it.site it.sites it.first) it.first.sessions ++ sites_text p.sites

pub parts_so : (layout : LayoutState) (line bytes : List ℕ) (it : Opening) (p : OpeningParts) → (is : IsLayout layout) → (begins : BeginsRun layout line it)
    → bytes ≡ behind_spelled layout line it is begins → opening_parts layout.records bytes ≡ Some p → AreParts layout line it p
parts_so layout line bytes it p is begins behind read =
    let s = spelled_so layout line it is begins in
    let whole : OpeningParts = record { sessions = it.first.sessions; site = it.site; sites = s.sites } in
    let same : p ≡ whole = same_Some p whole (sym read ∙ (ap (opening_parts layout.records) behind ∙ s.read)) in
    let sites : p.sites ≡ s.sites = ap (λ (x : OpeningParts). x.sites) same in
    record {
      sessions = ap (λ (x : OpeningParts). x.sessions) same;
      site = ap (λ (x : OpeningParts). x.site) same;
      stands = ap (λ (x : Option ℕ). unwrap_or x layout.sites) sites ∙ s.stands;
      text = s.text ∙ ap (λ (x : Option ℕ). front_text layout.records it.site (book_told layout it.site it.sites it.first) it.first.sessions ++ sites_text x) (sym sites);
    }

-- the layout of the run is one
pub layout_there : (layout : LayoutState) (line : List ℕ) (it : Opening) → IsLayout layout → BeginsRun layout line it → IsLayout (at_sites it.sites layout)
layout_there layout line it is begins =
    let may = begins.may_begin in
    layout_at layout it.sites is (omega (arith, may.site_there)) may.no_more may.records_fit

-- the same beginning under other names of its numbers
pub may_with : (layout : LayoutState) (i n site sites : ℕ) (first : DurableState) → site ≡ i → sites ≡ n → MayBegin layout i n first → MayBegin layout site sites first
may_with layout i n site sites first at_site at_sites_ may =
    subst (λ (x : ℕ). MayBegin layout x sites first) (sym at_site) (subst (λ (x : ℕ). MayBegin layout i x first) (sym at_sites_) may)

pub told_with : (layout : LayoutState) (i n site sites : ℕ) (first : DurableState) → site ≡ i → sites ≡ n → book_told layout i n first ≡ book_told layout site sites first
told_with layout i n site sites first at_site at_sites_ =
    ap (λ (x : ℕ). book_told layout x n first) (sym at_site) ∙ ap (λ (x : ℕ). book_told layout site x first) (sym at_sites_)

pub opening_same : (it : Opening) (site sites : ℕ) (first : DurableState) → site ≡ it.site → sites ≡ it.sites → first ≡ it.first → record { site = site; sites = sites; first = first } ≡ it
opening_same it site sites first s n f = λ k. record { site = s k; sites = n k; first = f k }

-- a run begins with the line as it was read
pub begins_with : (layout : LayoutState) (line : List ℕ) (it other : Opening) (sites : Option ℕ) → other ≡ it
    → MayBegin layout it.site it.sites it.first × (line ≡ front_text layout.records it.site (book_told layout it.site it.sites it.first) it.first.sessions ++ sites_text sites)
    → MayBegin layout other.site other.sites other.first × (line ≡ front_text layout.records other.site (book_told layout other.site other.sites other.first) other.first.sessions ++ sites_text sites)
begins_with layout line it other sites same begins =
    subst (λ (x : Opening). MayBegin layout x.site x.sites x.first × (line ≡ front_text layout.records x.site (book_told layout x.site x.sites x.first) x.first.sessions ++ sites_text sites)) (sym same) begins
