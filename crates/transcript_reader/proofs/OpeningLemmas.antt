-- The line that begins a run is taken apart again.
use Rattle.std.proofs.Common.{◌≡◌, ℕ, ◌<◌, ◌≤◌, ◌^◌, cond, ◌==◌, List, [], ◌∷◌, ◌++◌, length, get_or, Option, Some, None, codes, decimal, refl, sym, ap, subst, ◌∙◌, append_assoc, length-append, arith}
use Rattle.std.specs.List.{AllByRecursion, All}
use Rattle.std.proofs.lemmas.List.Elements.{recursion_from_All}
use Rattle.merge_core.specs.declared.layout.RecordSpec.{RecordSpec}
use Rattle.merge_core.specs.Layout.{LayoutState, IsLayout}
use Rattle.merge_core.specs.Delta.{DeltaState}
use Rattle.session_list.specs.declared.session.Phase.{Phase}
use Rattle.session_list.specs.declared.session.Phase.TheVariants.{Reader, Waiting, Writer}
use Rattle.session_list.specs.declared.session.Session.{Session}
use Rattle.delta_codec.specs.DeltaText.{delta_text}
use Rattle.text_parts.specs.Lists.{joined}
use Rattle.text_parts.specs.Readers.{◌>>=◌, NoDigit, onto, after, number_at, short_at}
use Rattle.text_parts.proofs.LiteralLaws.{after_again}
use Rattle.text_parts.proofs.NumberLaws.{number_again, short_again}
use Rattle.text_parts.proofs.ElementLaws.{TakesAgain, joined_again}
use Rattle.script_text.specs.Words.{found_or_unknown, record_word}
use Rattle.script_text.specs.Replies.{phase_word}
use Rattle.transcript_text.specs.Quoted.{escaped}
use Rattle.transcript_text.specs.Texts.{nameless, record_text, session_text, front_text, sites_text}
use Rattle.transcript_reader.specs.Quoted.{quoted}
use Rattle.transcript_reader.specs.Readers.{OpeningParts, cut_at, phase_at, session_at, sessions_at, sites_at, opening_parts}
use Rattle.transcript_reader.proofs.WordLemmas.{IsWord}
use Rattle.transcript_reader.proofs.RecordLemmas.{name_again}
use Rattle.admission_model.specs.Replies.{holder_limit}

abbrev Quoted : Type 0
Quoted = List ℕ × List ℕ

abbrev Read : Type 0
Read = ℕ × List ℕ

-- ---- sessions

word_again : (w rest : List ℕ) → IsWord w → cut_at 32 (w ++ 32 ∷ rest) ≡ Some (w, rest)
word_again [] rest is = refl
word_again (b ∷ bs) rest is = rw is.0 (ap (onto b) (word_again bs rest is.1))

phase_again : (p : Phase) (rest : List ℕ) → phase_at (phase_word p ++ (codes "\"" ++ rest)) ≡ Some (p, rest)
unfolding phase_at
phase_again Reader rest = refl
phase_again Waiting rest = refl
phase_again Writer rest = refl

-- a session of a record that is found by its name
pub record FitsSession (records : List RecordSpec) (s : Session) : Type 0 where
  pub word : IsWord (record_text records s.r)
  pub found : record_word records (record_text records s.r) ≡ Some s.r
  pub holder : s.h < 2 ^ 64

abbrev with_phase : ℕ → ℕ → Phase × List ℕ → Option (Session × List ℕ)
with_phase r h phase = Some (record { r = r; h = h; phase = phase.0 }, phase.1)

abbrev with_blank : ℕ → ℕ → List ℕ → Option (Session × List ℕ)
with_blank r h blank = phase_at blank >>= with_phase r h

abbrev with_holder : ℕ → Read → Option (Session × List ℕ)
with_holder r h = after (codes " ") h.1 >>= with_blank r h.0

abbrev with_record : List ℕ → ℕ → Option (Session × List ℕ)
with_record behind r = number_at behind >>= with_holder r

abbrev with_name : List RecordSpec → Quoted → Option (Session × List ℕ)
with_name records name = record_word records name.0 >>= with_record name.1

abbrev with_quote : List RecordSpec → List ℕ → Option (Session × List ℕ)
with_quote records front = cut_at 32 front >>= with_name records

session_regroup : (a b c d e f g rest : List ℕ) → (a ++ (b ++ (c ++ (d ++ (e ++ (f ++ g)))))) ++ rest ≡ a ++ (b ++ (c ++ (d ++ (e ++ (f ++ (g ++ rest))))))
session_regroup a b c d e f g rest = simp append_assoc

session_again : (records : List RecordSpec) → TakesAgain (session_text records) (FitsSession records) (λ t. Unit {0}) (session_at records)
unfolding session_at
session_again records s rest fits apart =
    let name = record_text records s.r in
    let t3 = phase_word s.phase ++ (codes "\"" ++ rest) in
    let t2 = codes " " ++ t3 in
    let t1 = decimal s.h ++ t2 in
    let t0 = name ++ 32 ∷ t1 in
    ap (session_at records) (session_regroup (codes "\"") name (codes " ") (decimal s.h) (codes " ") (phase_word s.phase) (codes "\"") rest)
    ∙ (ap (λ (o : Option (List ℕ)). o >>= with_quote records) (after_again (codes "\"") t0)
    ∙ (ap (λ (o : Option Quoted). o >>= with_name records) (word_again name t1 fits.word)
    ∙ (ap (λ (o : Option ℕ). o >>= with_record t1) fits.found
    ∙ (ap (λ (o : Option Read). o >>= with_holder s.r) (number_again s.h t2 fits.holder refl)
    ∙ (ap (λ (o : Option (List ℕ)). o >>= with_blank s.r s.h) (after_again (codes " ") t3)
    ∙ ap (λ (o : Option (Phase × List ℕ)). o >>= with_phase s.r s.h) (phase_again s.phase rest))))))

few : (records : List RecordSpec) (x : Session) (xs : List Session) (rest : List ℕ) → length xs ≤ length (joined (session_text records) (x ∷ xs) ++ rest)
few records x [] rest = omega arith
few records x (y ∷ ys) rest =
    let more = few records y ys rest in
    let a = session_text records x in
    let b = joined (session_text records) (y ∷ ys) in
    omega (arith, more, length-append (a ++ (44 ∷ b)) rest, length-append a (44 ∷ b), length-append b rest)

sessions_again : (records : List RecordSpec) (ss : List Session) (rest : List ℕ) → AllByRecursion (FitsSession records) ss
    → sessions_at records (joined (session_text records) ss ++ 93 ∷ rest) ≡ Some (ss, 93 ∷ rest)
unfolding sessions_at
sessions_again records [] rest fits = refl
sessions_again records (s ∷ ss) rest fits =
    joined_again (session_text records) (FitsSession records) (λ t. Unit {0}) (session_at records) (session_again records) (λ t. tt)
    (length (joined (session_text records) (s ∷ ss) ++ 93 ∷ rest)) s ss (93 ∷ rest) (few records s ss (93 ∷ rest)) fits tt refl

-- ---- the whole line

-- a number of sites that fits, if it is spelled
abbrev pub SpelledFits : Option ℕ → Type 0
SpelledFits None = Unit {0}
SpelledFits (Some n) = n < 2 ^ 16

sites_again : (sites : Option ℕ) → SpelledFits sites → sites_at (sites_text sites) ≡ Some (sites, codes "}")
unfolding sites_at
sites_again None fits = refl
sites_again (Some n) fits = rw (short_again n (codes "}") fits refl) refl

no_digit : (sites : Option ℕ) → NoDigit (sites_text sites)
no_digit None = refl
no_digit (Some n) = refl

-- the reading from each of its parts on
abbrev with_sites : List Session × List ℕ → Read → Option ℕ × List ℕ → Option OpeningParts
with_sites sessions site sites = after (codes "}") sites.1 >>= λ rest. cond (length rest == 0) (Some (record { sessions = sessions.0; site = site.0; sites = sites.0 })) None

abbrev with_site : List Session × List ℕ → Read → Option OpeningParts
with_site sessions site = sites_at site.1 >>= with_sites sessions site

abbrev with_behind : List Session × List ℕ → List ℕ → Option OpeningParts
with_behind sessions behind = short_at behind >>= with_site sessions

abbrev with_sessions : List Session × List ℕ → Option OpeningParts
with_sessions sessions = after (codes "],\"site\":") sessions.1 >>= with_behind sessions

abbrev with_front : List RecordSpec → List ℕ → Option OpeningParts
with_front records front = sessions_at records front >>= with_sessions

-- what stands in the line behind what the site tells
abbrev pub behind_book : List RecordSpec → ℕ → List Session → Option ℕ → List ℕ
behind_book records i sessions sites =
    codes ",\"sessions\":[" ++ (joined (session_text records) sessions ++ (codes "],\"site\":" ++ (decimal i ++ sites_text sites)))

front_regroup : (a b c d e f rest : List ℕ) → (a ++ (b ++ (c ++ (d ++ (e ++ f))))) ++ rest ≡ a ++ (b ++ (c ++ (d ++ (e ++ (f ++ rest)))))
front_regroup a b c d e f rest = simp append_assoc

pub opening_front : (records : List RecordSpec) (i : ℕ) (told : DeltaState) (sessions : List Session) (sites : Option ℕ)
    → front_text records i told sessions ++ sites_text sites ≡ codes "{\"book\":\"" ++ quoted (delta_text told) (behind_book records i sessions sites)
unfolding front_text
opening_front records i told sessions sites =
    front_regroup (codes "{\"book\":\"") (escaped (delta_text told)) (codes "\",\"sessions\":[") (joined (session_text records) sessions) (codes "],\"site\":") (decimal i) (sites_text sites)

pub opening_again : (records : List RecordSpec) (i : ℕ) (sessions : List Session) (sites : Option ℕ)
    → AllByRecursion (FitsSession records) sessions → i < 2 ^ 16 → SpelledFits sites
    → opening_parts records (behind_book records i sessions sites) ≡ Some (record { sessions = sessions; site = i; sites = sites })
unfolding opening_parts
opening_again records i sessions sites fit site_fits spelled_fits =
    let t3 = sites_text sites in
    let t2 = codes ",\"site\":" ++ (decimal i ++ t3) in
    let t1 = joined (session_text records) sessions ++ 93 ∷ t2 in
    ap (λ (o : Option (List ℕ)). o >>= with_front records) (after_again (codes ",\"sessions\":[") t1)
    ∙ (ap (λ (o : Option (List Session × List ℕ)). o >>= with_sessions) (sessions_again records sessions t2 fit)
    ∙ (ap (λ (o : Option (List ℕ)). o >>= with_behind (sessions, 93 ∷ t2)) (after_again (codes "],\"site\":") (decimal i ++ t3))
    ∙ (ap (λ (o : Option Read). o >>= with_site (sessions, 93 ∷ t2)) (short_again i t3 site_fits (no_digit sites))
    ∙ ap (λ (o : Option (Option ℕ × List ℕ)). o >>= with_sites (sessions, 93 ∷ t2) (i, t3)) (sites_again sites spelled_fits))))

-- ---- sessions of a durable part

each_fits : (layout : LayoutState) → IsLayout layout → (ss : List Session) → AllByRecursion (λ s. s.r < length layout.records) ss → AllByRecursion (λ s. s.h ≤ holder_limit) ss
    → AllByRecursion (FitsSession layout.records) ss
each_fits layout is [] there few = tt
each_fits layout is (s ∷ ss) there few =
    let name = name_again layout is s.r there.0 in
    let records = layout.records in (
      record {
        word = subst IsWord (sym name.text) name.word;
        found = subst (λ (w : List ℕ). record_word records w ≡ Some s.r) (sym name.text) (ap (λ (o : Option ℕ). found_or_unknown o (get_or records s.r nameless).name) name.place);
        holder = omega (arith, few.0);
      },
      each_fits layout is ss there.1 few.1,
    )

pub sessions_fit : (layout : LayoutState) → IsLayout layout → (ss : List Session) → All (λ s. s.r < length layout.records) ss → All (λ s. s.h ≤ holder_limit) ss
    → AllByRecursion (FitsSession layout.records) ss
sessions_fit layout is ss there few =
    each_fits layout is ss (recursion_from_All (λ s. s.r < length layout.records) ss there) (recursion_from_All (λ s. s.h ≤ holder_limit) ss few)
