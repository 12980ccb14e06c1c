-- Each line says one thing.
use Rattle.std.proofs.Common.{◌≡◌, ◌≢◌, ℕ, ◌⊎◌, inl, inr, true, false, Option, Some, None, List, [], ◌∷◌, ◌++◌, codes, refl, sym, ap, subst, ◌∙◌, arith}
use Rattle.std.specs.Prelude.{IsSome, IsUtf8, Err}
use Rattle.std.specs.Str.{is_utf8}
use Rattle.std.proofs.lemmas.Bool.{cases_Bool}
use Rattle.std.proofs.lemmas.Str.{IsUtf8-from_is_utf8, is_utf8-from_IsUtf8}
use Rattle.merge_core.specs.declared.layout.RecordSpec.{RecordSpec}
use Rattle.merge_core.specs.Delta.{DeltaState, IsDelta}
use Rattle.admission_model.specs.declared.ask.Ask.{Ask as Question}
use Rattle.admission_model.specs.declared.ask.Call.{Call}
use Rattle.admission_model.specs.declared.ask.Call.TheVariants.{Ask, Merge, Snapshot}
use Rattle.delta_codec.specs.declared.fault.DecodeError.{DecodeError}
use Rattle.delta_codec.specs.declared.fault.DecodeError.TheVariants.{TooLong, NotUtf8, NotJson, NotCanonical, Memory}
use Rattle.delta_codec.specs.DeltaText.{delta_text}
use Rattle.delta_codec.specs.Decodes.{Decodes, HasNoDelta}
use Rattle.delta_codec.proofs.DeltaLaws.{one_delta}
use Rattle.delta_codec.proofs.Utf8Laws.{not_utf8_none}
use Rattle.script_text.specs.Words.{words_of}
use Rattle.script_text.specs.Asks.{ask_in}
use Rattle.site_script.specs.declared.lines.Said.{Said}
use Rattle.site_script.specs.declared.lines.Said.TheVariants.{Asked, Unread}
use Rattle.site_script.specs.Lines.{Takes, SaysCall, SaysUnread, SaysNothing, Says}

abbrev first_of : List ℕ → ℕ
first_of [] = 0
first_of (b ∷ bs) = b

-- a line that begins with another letter
pub not_send_or_take : (records : List RecordSpec) (b : ℕ) (bs : List ℕ) → ask_in records (words_of (b ∷ bs)) ≡ None → b ≢ 115 → b ≢ 116 → SaysNothing records (b ∷ bs)
not_send_or_take records b bs no_ask no_s no_t = record {
  no_ask = no_ask;
  no_send = λ e. no_s (ap first_of e);
  no_take = λ text takes. no_t (ap first_of takes.is_text);
}

-- a line that takes a text asks nothing, and is not `send`
taken_asks : (records : List RecordSpec) (line text : List ℕ) → Takes line text → ask_in records (words_of line) ≡ None
taken_asks records line text takes = ap (λ (l : List ℕ). ask_in records (words_of l)) takes.is_text

taken_send : (line text : List ℕ) → Takes line text → line ≡ codes "send" → ⊥
taken_send line text takes send = let first : 116 ≡ 115 = ap first_of (sym takes.is_text ∙ send) in absurd (omega (arith, first))

-- it takes one text
abbrev pub behind_take : List ℕ → List ℕ
behind_take (a ∷ b ∷ c ∷ d ∷ e ∷ rest) = rest
behind_take other = []

one_text : (line text other : List ℕ) → Takes line text → Takes line other → text ≡ other
one_text line text other takes again = ap behind_take (sym takes.is_text ∙ again.is_text)

-- a question is told by its words alone
asks_one : (records : List RecordSpec) (line : List ℕ) (ask : Question) → ask_in records (words_of line) ≡ Some ask → ask_in records (words_of line) ≡ None → ⊥
asks_one records line ask some none = let both : Some ask ≡ None = sym some ∙ none in cc

send_asks : (records : List RecordSpec) (line : List ℕ) → line ≡ codes "send" → ask_in records (words_of line) ≡ None
send_asks records line send = ap (λ (l : List ℕ). ask_in records (words_of l)) send

not_some : {T : Type 0} {o : Option T} → o ≡ None → IsSome o → ⊥
not_some none there = let both = subst IsSome none there in cc

-- a text that is no delta's has one first fault
one_fault : (text : List ℕ) (e f : DecodeError) → Decodes text (Err e) → Decodes text (Err f) → e ≢ Memory → f ≢ Memory → e ≡ f
one_fault text TooLong TooLong is also no_memory nor = refl
one_fault text TooLong NotUtf8 is also no_memory nor = absurd (omega (arith, is.1, also.1))
one_fault text TooLong NotJson is also no_memory nor = absurd (omega (arith, is.1, also.1.0))
one_fault text TooLong NotCanonical is also no_memory nor = absurd (omega (arith, is.1, also.1.0))
one_fault text NotUtf8 TooLong is also no_memory nor = absurd (omega (arith, is.1, also.1))
one_fault text NotUtf8 NotUtf8 is also no_memory nor = refl
one_fault text NotUtf8 NotJson is also no_memory nor = absurd (is.2 also.1.1)
one_fault text NotUtf8 NotCanonical is also no_memory nor = absurd (is.2 also.1.1)
one_fault text NotJson TooLong is also no_memory nor = absurd (omega (arith, is.1.0, also.1))
one_fault text NotJson NotUtf8 is also no_memory nor = absurd (also.2 is.1.1)
one_fault text NotJson NotJson is also no_memory nor = refl
one_fault text NotJson NotCanonical is also no_memory nor = absurd (not_some is.2 also.2)
one_fault text NotCanonical TooLong is also no_memory nor = absurd (omega (arith, is.1.0, also.1))
one_fault text NotCanonical NotUtf8 is also no_memory nor = absurd (also.2 is.1.1)
one_fault text NotCanonical NotJson is also no_memory nor = absurd (not_some also.2 is.2)
one_fault text NotCanonical NotCanonical is also no_memory nor = refl
one_fault text Memory f is also no_memory nor = absurd (no_memory refl)
one_fault text e Memory is also no_memory nor = absurd (nor refl)

-- one that has a fault is no delta's
no_delta : (text : List ℕ) (e : DecodeError) → Decodes text (Err e) → e ≢ Memory → HasNoDelta text
no_delta text TooLong is judged = is.0
no_delta text NotUtf8 is judged = is.0
no_delta text NotJson is judged = is.0
no_delta text NotCanonical is judged = is.0
no_delta text Memory is judged = absurd (judged refl)

-- every delta's text can be taken
pub delta_taken : (d : DeltaState) → IsDelta d → Takes (codes "take " ++ delta_text d) (delta_text d)
delta_taken d is = record { is_text = refl; utf8 = at (cases_Bool (is_utf8 (delta_text d))) }
  where
    at : (is_utf8 (delta_text d) ≡ true) ⊎ (is_utf8 (delta_text d) ≡ false) → IsUtf8 (delta_text d)
    at (inl e) = IsUtf8-from_is_utf8 (delta_text d) e
    at (inr e) =
        absurd (not_utf8_none (delta_text d) (λ there. let both : true ≡ false = sym (is_utf8-from_IsUtf8 (delta_text d) there) ∙ e in cc) d is refl)

-- what a line says where it takes a text
one_call : (records : List RecordSpec) (line : List ℕ) (c d : Call) → SaysCall records line c → SaysCall records line d → c ≡ d
one_call records line (Ask a) (Ask b) is also = let same : Some a ≡ Some b = sym is ∙ also in cc
one_call records line (Ask a) Snapshot is also = absurd (asks_one records line a is (send_asks records line also))
one_call records line (Ask a) (Merge d) is also = absurd (asks_one records line a is (taken_asks records line (delta_text d) also.1))
one_call records line Snapshot (Ask b) is also = absurd (asks_one records line b also (send_asks records line is))
one_call records line Snapshot Snapshot is also = refl
one_call records line Snapshot (Merge d) is also = absurd (taken_send line (delta_text d) also.1 is)
one_call records line (Merge c) (Ask b) is also = absurd (asks_one records line b also (taken_asks records line (delta_text c) is.1))
one_call records line (Merge c) Snapshot is also = absurd (taken_send line (delta_text c) is.1 also)
one_call records line (Merge c) (Merge d) is also = ap Merge (one_delta c d is.0 also.0 (one_text line (delta_text c) (delta_text d) is.1 also.1))

not_both : (records : List RecordSpec) (line : List ℕ) (c : Call) (e : DecodeError) → SaysCall records line c → SaysUnread line e → ⊥
not_both records line (Ask a) e is also = asks_one records line a is (taken_asks records line also.text also.takes)
not_both records line Snapshot e is also = taken_send line also.text also.takes is
not_both records line (Merge d) e is also = no_delta also.text e also.fault also.judged d is.0 (one_text line also.text (delta_text d) also.takes is.1)

not_nothing : (records : List RecordSpec) (line : List ℕ) (c : Call) → SaysCall records line c → SaysNothing records line → ⊥
not_nothing records line (Ask a) is none = asks_one records line a is none.no_ask
not_nothing records line Snapshot is none = none.no_send is
not_nothing records line (Merge d) is none = none.no_take (delta_text d) is.1

pub one_said : (records : List RecordSpec) (line : List ℕ) (one other : Option Said) → Says records line one → Says records line other → one ≡ other
one_said records line (Some (Asked c)) (Some (Asked d)) is also = ap (λ (x : Call). Some (Asked x)) (one_call records line c d is also)
one_said records line (Some (Asked c)) (Some (Unread e)) is also = absurd (not_both records line c e is also)
one_said records line (Some (Asked c)) None is also = absurd (not_nothing records line c is also)
one_said records line (Some (Unread e)) (Some (Asked d)) is also = absurd (not_both records line d e also is)
one_said records line (Some (Unread e)) (Some (Unread f)) is also =
    ap (λ (x : DecodeError). Some (Unread x))
    (one_fault is.text e f is.fault (subst (λ (t : List ℕ). Decodes t (Err f)) (one_text line also.text is.text also.takes is.takes) also.fault) is.judged also.judged)
one_said records line (Some (Unread e)) None is also = absurd (also.no_take is.text is.takes)
one_said records line None (Some (Asked d)) is also = absurd (not_nothing records line d also is)
one_said records line None (Some (Unread f)) is also = absurd (is.no_take also.text also.takes)
one_said records line None None is also = refl
