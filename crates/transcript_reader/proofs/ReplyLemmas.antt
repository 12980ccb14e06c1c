-- A reply is read from its text, and from no other.
use Rattle.std.proofs.Common.{◌≡◌, ◌≢◌, ℕ, ◌<◌, ◌^◌, true, List, [], ◌∷◌, ◌++◌, drop, Option, Some, None, codes, decimal, refl, sym, ap, ◌∙◌, ◌⊎◌, inl, inr, Result, Ok, Err, arith}
use Rattle.std.proofs.lemmas.Option.{none-some}
use Rattle.text_parts.specs.declared.unread.Unread.{Unread}
use Rattle.text_parts.specs.declared.unread.Unread.TheVariants.{Refused as NotRead, Memory as NoRoom}
use Rattle.merge_core.specs.Delta.{DeltaState, IsDelta}
use Rattle.session_list.specs.declared.session.Phase.TheVariants.{Reader, Writer, Waiting}
use Rattle.admission_model.specs.declared.reply.Refusal.{Refusal}
use Rattle.admission_model.specs.declared.reply.Refusal.TheVariants.{NoRecord, BadHolder, AlreadyHere, CounterFull, WriterAnnounced, NoSeat, TooManyWriters, NotAnnounced, AlreadyInside, MissingSeats, NotHere, NoSite, ToSelf, ZeroSeats, TooFewRights, NoPlan, OtherLayout, BadRow, OwnRowAhead, Memory, Frozen, LogFull, StoreFault}
use Rattle.admission_model.specs.declared.reply.Reply.{Reply}
use Rattle.admission_model.specs.declared.reply.Reply.TheVariants.{Admitted, Announced, Left, Given, Gave, Merged, Snapshot, Refused}
use Rattle.delta_codec.specs.DeltaText.{delta_text}
use Rattle.text_parts.specs.Readers.{◌>>=◌, Gives, after}
use Rattle.script_text.specs.Replies.{numbers_text, refusal_name, refusal_numbers, refusal_text, reply_text}
use Rattle.transcript_reader.specs.Fits.{FitsRefusal, FitsReply}
use Rattle.transcript_reader.specs.Words.{told, last_number, last_short, gift_at, shortage_at}
use Rattle.transcript_reader.specs.ReplyReaders.{seat_refusal, not_refusal, no_refusal, no_refusal_arms, already_refusal, already_refusal_arms, too_refusal, to_refusal, to_refusal_arms, m_refusal, o_refusal, bad_refusal, bad_refusal_arms, rare_refusal, refusal_at, a_reply, left_reply, left_reply_arms, g_reply, worded_reply}
use Rattle.transcript_text.specs.Quoted.{escaped}
use Rattle.transcript_reader.specs.Quoted.{quoted, Refuses, ReadsQuoted}
use Rattle.transcript_reader.proofs.EscapedLemmas.{is_plain, number_plain, plain_quoted}
use Rattle.transcript_reader.proofs.HoldLemmas.{Holds, held_by, letter_holds, still_holds, then_holds, literal_holds}
use Rattle.transcript_reader.proofs.WordLemmas.{SaysLast, SaysPair, last_text, last_number_says, last_number_again, last_short_says, last_short_again, gift_says, gift_again, shortage_says, shortage_again}

-- ---- what is read is what stands there

-- a refusal's name and numbers
abbrev name_text : Refusal → List ℕ
name_text x = refusal_name x ++ numbers_text (refusal_numbers x)

-- what was read before these bytes, and they, are the text of a refusal up to the closing quote, and what stands behind it
abbrev SaysRefusal : List ℕ → List ℕ → Refusal × List ℕ → Type 0
SaysRefusal front bytes x = FitsRefusal x.0 × (front ++ bytes ≡ name_text x.0 ++ 34 ∷ x.1)

-- .. of a reply
abbrev SaysReply : List ℕ → List ℕ → Reply × List ℕ → Type 0
SaysReply front bytes x = FitsReply x.0 × (front ++ bytes ≡ reply_text x.0 ++ 34 ∷ x.1)

told_refusal : (front literal : List ℕ) (x : Refusal) (bytes : List ℕ) → FitsRefusal x → ((rest : List ℕ) → front ++ (literal ++ rest) ≡ name_text x ++ 34 ∷ rest) → Holds (SaysRefusal front bytes) (told literal x bytes)
told_refusal front literal x bytes fits whole =
    then_holds (λ (rest : List ℕ). bytes ≡ literal ++ rest) (SaysRefusal front bytes) (after literal bytes) (λ rest. Some (x, rest)) (literal_holds literal bytes)
    (λ rest e. (fits, ap (λ (t : List ℕ). front ++ t) e ∙ whole rest))

told_reply : (front literal : List ℕ) (x : Reply) (bytes : List ℕ) → FitsReply x → ((rest : List ℕ) → front ++ (literal ++ rest) ≡ reply_text x ++ 34 ∷ rest) → Holds (SaysReply front bytes) (told literal x bytes)
told_reply front literal x bytes fits whole =
    then_holds (λ (rest : List ℕ). bytes ≡ literal ++ rest) (SaysReply front bytes) (after literal bytes) (λ rest. Some (x, rest)) (literal_holds literal bytes)
    (λ rest e. (fits, ap (λ (t : List ℕ). front ++ t) e ∙ whole rest))

-- behind a literal, what is read of the rest
part_holds : {A B : Type 0} (Part : List ℕ → A → Type 0) (P : B → Type 0) (literal : List ℕ) (read : List ℕ → Option A) (f : A → Option B) (bytes : List ℕ) → ((rest : List ℕ) → Holds (Part rest) (read rest))
    → ((rest : List ℕ) (x : A) → bytes ≡ literal ++ rest → Part rest x → Holds P (f x)) → Holds P (after literal bytes >>= λ rest. read rest >>= f)
part_holds Part P literal read f bytes says each =
    then_holds (λ (rest : List ℕ). bytes ≡ literal ++ rest) P (after literal bytes) (λ rest. read rest >>= f) (literal_holds literal bytes)
    (λ rest e. then_holds (Part rest) P (read rest) f (says rest) (λ x it. each rest x e it))

numbered_refusal : (front literal : List ℕ) (make : ℕ → Refusal) (limit : ℕ) (last : List ℕ → Option (ℕ × List ℕ)) (bytes : List ℕ) → ((rest : List ℕ) → Holds (SaysLast limit rest) (last rest))
    → ((n : ℕ) → n < limit → FitsRefusal (make n)) → ((n : ℕ) (rest : List ℕ) → front ++ (literal ++ (last_text n ++ 34 ∷ rest)) ≡ name_text (make n) ++ 34 ∷ rest)
    → Holds (SaysRefusal front bytes) (after literal bytes >>= λ rest. last rest >>= λ n. Some (make n.0, n.1))
numbered_refusal front literal make limit last bytes says fits whole =
    part_holds (SaysLast limit) (SaysRefusal front bytes) literal last (λ n. Some (make n.0, n.1)) bytes says
    (λ rest n e it. (fits n.0 it.0, ap (λ (t : List ℕ). front ++ t) (e ∙ ap (λ (t : List ℕ). literal ++ t) it.1) ∙ whole n.0 n.1))

numbered_reply : (front literal : List ℕ) (make : ℕ → Reply) (limit : ℕ) (last : List ℕ → Option (ℕ × List ℕ)) (bytes : List ℕ) → ((rest : List ℕ) → Holds (SaysLast limit rest) (last rest))
    → ((n : ℕ) → n < limit → FitsReply (make n)) → ((n : ℕ) (rest : List ℕ) → front ++ (literal ++ (last_text n ++ 34 ∷ rest)) ≡ reply_text (make n) ++ 34 ∷ rest)
    → Holds (SaysReply front bytes) (after literal bytes >>= λ rest. last rest >>= λ n. Some (make n.0, n.1))
numbered_reply front literal make limit last bytes says fits whole =
    part_holds (SaysLast limit) (SaysReply front bytes) literal last (λ n. Some (make n.0, n.1)) bytes says
    (λ rest n e it. (fits n.0 it.0, ap (λ (t : List ℕ). front ++ t) (e ∙ ap (λ (t : List ℕ). literal ++ t) it.1) ∙ whole n.0 n.1))

missingseats_says : (bytes : List ℕ) → Holds (SaysRefusal (codes "Mi") bytes) (after (codes "ssingSeats ") bytes >>= λ rest. shortage_at rest >>= λ n. Some (MissingSeats n.0 n.1, n.2))
missingseats_says bytes =
    part_holds (SaysPair decimal (2 ^ 64) (2 ^ 32)) (SaysRefusal (codes "Mi") bytes) (codes "ssingSeats ") shortage_at (λ n. Some (MissingSeats n.0 n.1, n.2)) bytes shortage_says
    (λ rest n e it. ((it.0, it.1.0), ap (λ (t : List ℕ). codes "Mi" ++ t) (e ∙ ap (λ (t : List ℕ). codes "ssingSeats " ++ t) it.1.1)))

gave_says : (bytes : List ℕ) → Holds (SaysReply (codes "ga") bytes) (after (codes "ve ") bytes >>= λ rest. gift_at rest >>= λ n. Some (Gave n.0 n.1, n.2))
gave_says bytes =
    part_holds (SaysPair decimal (2 ^ 16) (2 ^ 64)) (SaysReply (codes "ga") bytes) (codes "ve ") gift_at (λ n. Some (Gave n.0 n.1, n.2)) bytes gift_says
    (λ rest n e it. ((it.0, it.1.0), ap (λ (t : List ℕ). codes "ga" ++ t) (e ∙ ap (λ (t : List ℕ). codes "ve " ++ t) it.1.1)))

seat_refusal_says : (bytes : List ℕ) → Holds (SaysRefusal (codes "NoS") bytes) (seat_refusal bytes)
unfolding seat_refusal
seat_refusal_says [] = tt
seat_refusal_says (b ∷ bs) =
    letter_holds (SaysRefusal (codes "NoS")) 101 b bs _ _ (numbered_refusal (codes "NoSe") (codes "at ") NoSeat (2 ^ 64) last_number bs last_number_says (λ n low. low) (λ n rest. refl))
    (letter_holds (SaysRefusal (codes "NoS")) 105 b bs _ None (told_refusal (codes "NoSi") (codes "te\"") NoSite bs tt (λ rest. refl)) tt)

not_refusal_says : (bytes : List ℕ) → Holds (SaysRefusal (codes "Not") bytes) (not_refusal bytes)
unfolding not_refusal
not_refusal_says [] = tt
not_refusal_says (b ∷ bs) =
    letter_holds (SaysRefusal (codes "Not")) 72 b bs _ _ (told_refusal (codes "NotH") (codes "ere\"") NotHere bs tt (λ rest. refl))
    (letter_holds (SaysRefusal (codes "Not")) 65 b bs _ None (told_refusal (codes "NotA") (codes "nnounced\"") NotAnnounced bs tt (λ rest. refl)) tt)

no_refusal_arms_says : (bytes : List ℕ) → Holds (SaysRefusal (codes "No") bytes) (no_refusal_arms bytes)
no_refusal_arms_says [] = tt
no_refusal_arms_says (b ∷ bs) =
    letter_holds (SaysRefusal (codes "No")) 83 b bs _ _ (seat_refusal_says bs)
    (letter_holds (SaysRefusal (codes "No")) 116 b bs _ _ (not_refusal_says bs)
    (letter_holds (SaysRefusal (codes "No")) 82 b bs _ _ (told_refusal (codes "NoR") (codes "ecord\"") NoRecord bs tt (λ rest. refl))
    (letter_holds (SaysRefusal (codes "No")) 80 b bs _ None (told_refusal (codes "NoP") (codes "lan\"") NoPlan bs tt (λ rest. refl)) tt)))

no_refusal_says : (bytes : List ℕ) → Holds (SaysRefusal (codes "N") bytes) (no_refusal bytes)
unfolding no_refusal
no_refusal_says bytes =
    then_holds (λ (rest : List ℕ). bytes ≡ codes "o" ++ rest) (SaysRefusal (codes "N") bytes) (after (codes "o") bytes) no_refusal_arms (literal_holds (codes "o") bytes)
    (λ rest e. still_holds (SaysRefusal (codes "No") rest) (SaysRefusal (codes "N") bytes) (no_refusal_arms rest) (λ x it. (it.0, ap (λ (t : List ℕ). codes "N" ++ t) e ∙ it.1)) (no_refusal_arms_says rest))

already_refusal_arms_says : (bytes : List ℕ) → Holds (SaysRefusal (codes "Already") bytes) (already_refusal_arms bytes)
already_refusal_arms_says [] = tt
already_refusal_arms_says (b ∷ bs) =
    letter_holds (SaysRefusal (codes "Already")) 72 b bs _ _ (told_refusal (codes "AlreadyH") (codes "ere\"") AlreadyHere bs tt (λ rest. refl))
    (letter_holds (SaysRefusal (codes "Already")) 73 b bs _ None (told_refusal (codes "AlreadyI") (codes "nside\"") AlreadyInside bs tt (λ rest. refl)) tt)

already_refusal_says : (bytes : List ℕ) → Holds (SaysRefusal (codes "A") bytes) (already_refusal bytes)
unfolding already_refusal
already_refusal_says bytes =
    then_holds (λ (rest : List ℕ). bytes ≡ codes "lready" ++ rest) (SaysRefusal (codes "A") bytes) (after (codes "lready") bytes) already_refusal_arms (literal_holds (codes "lready") bytes)
    (λ rest e. still_holds (SaysRefusal (codes "Already") rest) (SaysRefusal (codes "A") bytes) (already_refusal_arms rest) (λ x it. (it.0, ap (λ (t : List ℕ). codes "A" ++ t) e ∙ it.1)) (already_refusal_arms_says rest))

too_refusal_says : (bytes : List ℕ) → Holds (SaysRefusal (codes "Too") bytes) (too_refusal bytes)
unfolding too_refusal
too_refusal_says [] = tt
too_refusal_says (b ∷ bs) =
    letter_holds (SaysRefusal (codes "Too")) 70 b bs _ _ (numbered_refusal (codes "TooF") (codes "ewRights ") TooFewRights (2 ^ 64) last_number bs last_number_says (λ n low. low) (λ n rest. refl))
    (letter_holds (SaysRefusal (codes "Too")) 77 b bs _ None (told_refusal (codes "TooM") (codes "anyWriters\"") TooManyWriters bs tt (λ rest. refl)) tt)

to_refusal_arms_says : (bytes : List ℕ) → Holds (SaysRefusal (codes "To") bytes) (to_refusal_arms bytes)
to_refusal_arms_says [] = tt
to_refusal_arms_says (b ∷ bs) =
    letter_holds (SaysRefusal (codes "To")) 111 b bs _ _ (too_refusal_says bs)
    (letter_holds (SaysRefusal (codes "To")) 83 b bs _ None (told_refusal (codes "ToS") (codes "elf\"") ToSelf bs tt (λ rest. refl)) tt)

to_refusal_says : (bytes : List ℕ) → Holds (SaysRefusal (codes "T") bytes) (to_refusal bytes)
unfolding to_refusal
to_refusal_says bytes =
    then_holds (λ (rest : List ℕ). bytes ≡ codes "o" ++ rest) (SaysRefusal (codes "T") bytes) (after (codes "o") bytes) to_refusal_arms (literal_holds (codes "o") bytes)
    (λ rest e. still_holds (SaysRefusal (codes "To") rest) (SaysRefusal (codes "T") bytes) (to_refusal_arms rest) (λ x it. (it.0, ap (λ (t : List ℕ). codes "T" ++ t) e ∙ it.1)) (to_refusal_arms_says rest))

m_refusal_says : (bytes : List ℕ) → Holds (SaysRefusal (codes "M") bytes) (m_refusal bytes)
unfolding m_refusal
m_refusal_says [] = tt
m_refusal_says (b ∷ bs) =
    letter_holds (SaysRefusal (codes "M")) 105 b bs _ _ (missingseats_says bs)
    (letter_holds (SaysRefusal (codes "M")) 101 b bs _ None (told_refusal (codes "Me") (codes "mory\"") Memory bs tt (λ rest. refl)) tt)

o_refusal_says : (bytes : List ℕ) → Holds (SaysRefusal (codes "O") bytes) (o_refusal bytes)
unfolding o_refusal
o_refusal_says [] = tt
o_refusal_says (b ∷ bs) =
    letter_holds (SaysRefusal (codes "O")) 116 b bs _ _ (numbered_refusal (codes "Ot") (codes "herLayout ") OtherLayout (2 ^ 64) last_number bs last_number_says (λ n low. low) (λ n rest. refl))
    (letter_holds (SaysRefusal (codes "O")) 119 b bs _ None (numbered_refusal (codes "Ow") (codes "nRowAhead ") OwnRowAhead (2 ^ 16) last_short bs last_short_says (λ n low. low) (λ n rest. refl)) tt)

bad_refusal_arms_says : (bytes : List ℕ) → Holds (SaysRefusal (codes "Bad") bytes) (bad_refusal_arms bytes)
bad_refusal_arms_says [] = tt
bad_refusal_arms_says (b ∷ bs) =
    letter_holds (SaysRefusal (codes "Bad")) 82 b bs _ _ (numbered_refusal (codes "BadR") (codes "ow ") BadRow (2 ^ 64) last_number bs last_number_says (λ n low. low) (λ n rest. refl))
    (letter_holds (SaysRefusal (codes "Bad")) 72 b bs _ None (told_refusal (codes "BadH") (codes "older\"") BadHolder bs tt (λ rest. refl)) tt)

bad_refusal_says : (bytes : List ℕ) → Holds (SaysRefusal (codes "B") bytes) (bad_refusal bytes)
unfolding bad_refusal
bad_refusal_says bytes =
    then_holds (λ (rest : List ℕ). bytes ≡ codes "ad" ++ rest) (SaysRefusal (codes "B") bytes) (after (codes "ad") bytes) bad_refusal_arms (literal_holds (codes "ad") bytes)
    (λ rest e. still_holds (SaysRefusal (codes "Bad") rest) (SaysRefusal (codes "B") bytes) (bad_refusal_arms rest) (λ x it. (it.0, ap (λ (t : List ℕ). codes "B" ++ t) e ∙ it.1)) (bad_refusal_arms_says rest))

rare_refusal_says : (bytes : List ℕ) → Holds (SaysRefusal [] bytes) (rare_refusal bytes)
unfolding rare_refusal
rare_refusal_says [] = tt
rare_refusal_says (b ∷ bs) =
    letter_holds (SaysRefusal []) 66 b bs _ _ (bad_refusal_says bs)
    (letter_holds (SaysRefusal []) 79 b bs _ _ (o_refusal_says bs)
    (letter_holds (SaysRefusal []) 90 b bs _ _ (told_refusal (codes "Z") (codes "eroSeats\"") ZeroSeats bs tt (λ rest. refl))
    (letter_holds (SaysRefusal []) 76 b bs _ _ (told_refusal (codes "L") (codes "ogFull\"") LogFull bs tt (λ rest. refl))
    (letter_holds (SaysRefusal []) 70 b bs _ _ (told_refusal (codes "F") (codes "rozen\"") Frozen bs tt (λ rest. refl))
    (letter_holds (SaysRefusal []) 83 b bs _ None (told_refusal (codes "S") (codes "toreFault\"") StoreFault bs tt (λ rest. refl)) tt)))))

refusal_at_says : (bytes : List ℕ) → Holds (SaysRefusal [] bytes) (refusal_at bytes)
unfolding refusal_at
refusal_at_says [] = rare_refusal_says []
refusal_at_says (b ∷ bs) =
    letter_holds (SaysRefusal []) 78 b bs _ _ (no_refusal_says bs)
    (letter_holds (SaysRefusal []) 65 b bs _ _ (already_refusal_says bs)
    (letter_holds (SaysRefusal []) 87 b bs _ _ (numbered_refusal (codes "W") (codes "riterAnnounced ") WriterAnnounced (2 ^ 16) last_short bs last_short_says (λ n low. low) (λ n rest. refl))
    (letter_holds (SaysRefusal []) 84 b bs _ _ (to_refusal_says bs)
    (letter_holds (SaysRefusal []) 67 b bs _ _ (told_refusal (codes "C") (codes "ounterFull\"") CounterFull bs tt (λ rest. refl))
    (letter_holds (SaysRefusal []) 77 b bs _ _ (m_refusal_says bs) (rare_refusal_says (b ∷ bs)))))))

refused_says : (bytes : List ℕ) → Holds (SaysReply (codes "r") bytes) (after (codes "efused ") bytes >>= λ rest. refusal_at rest >>= λ n. Some (Refused n.0, n.1))
refused_says bytes =
    part_holds (SaysRefusal []) (SaysReply (codes "r") bytes) (codes "efused ") refusal_at (λ n. Some (Refused n.0, n.1)) bytes refusal_at_says
    (λ rest n e it. (it.0, ap (λ (t : List ℕ). codes "r" ++ t) (e ∙ ap (λ (t : List ℕ). codes "efused " ++ t) it.1)))

a_reply_says : (bytes : List ℕ) → Holds (SaysReply (codes "a") bytes) (a_reply bytes)
unfolding a_reply
a_reply_says [] = tt
a_reply_says (b ∷ bs) =
    letter_holds (SaysReply (codes "a")) 100 b bs _ _ (told_reply (codes "ad") (codes "mitted\"") Admitted bs tt (λ rest. refl))
    (letter_holds (SaysReply (codes "a")) 110 b bs _ None (numbered_reply (codes "an") (codes "nounced ") Announced (2 ^ 64) last_number bs last_number_says (λ n low. low) (λ n rest. refl)) tt)

left_reply_arms_says : (bytes : List ℕ) → Holds (SaysReply (codes "left ") bytes) (left_reply_arms bytes)
left_reply_arms_says [] = tt
left_reply_arms_says (b ∷ bs) =
    letter_holds (SaysReply (codes "left ")) 114 b bs _ _ (told_reply (codes "left r") (codes "eader\"") (Left Reader) bs tt (λ rest. refl))
    (letter_holds (SaysReply (codes "left ")) 119 b bs _ None (told_reply (codes "left w") (codes "riter\"") (Left Writer) bs tt (λ rest. refl)) tt)

left_reply_says : (bytes : List ℕ) → Holds (SaysReply (codes "l") bytes) (left_reply bytes)
unfolding left_reply
left_reply_says bytes =
    then_holds (λ (rest : List ℕ). bytes ≡ codes "eft " ++ rest) (SaysReply (codes "l") bytes) (after (codes "eft ") bytes) left_reply_arms (literal_holds (codes "eft ") bytes)
    (λ rest e. still_holds (SaysReply (codes "left ") rest) (SaysReply (codes "l") bytes) (left_reply_arms rest) (λ x it. (it.0, ap (λ (t : List ℕ). codes "l" ++ t) e ∙ it.1)) (left_reply_arms_says rest))

g_reply_says : (bytes : List ℕ) → Holds (SaysReply (codes "g") bytes) (g_reply bytes)
unfolding g_reply
g_reply_says [] = tt
g_reply_says (b ∷ bs) =
    letter_holds (SaysReply (codes "g")) 105 b bs _ _ (told_reply (codes "gi") (codes "ven\"") Given bs tt (λ rest. refl))
    (letter_holds (SaysReply (codes "g")) 97 b bs _ None (gave_says bs) tt)

worded_reply_says : (bytes : List ℕ) → Holds (SaysReply [] bytes) (worded_reply bytes)
unfolding worded_reply
worded_reply_says [] = tt
worded_reply_says (b ∷ bs) =
    letter_holds (SaysReply []) 114 b bs _ _ (refused_says bs)
    (letter_holds (SaysReply []) 97 b bs _ _ (a_reply_says bs)
    (letter_holds (SaysReply []) 108 b bs _ _ (left_reply_says bs)
    (letter_holds (SaysReply []) 119 b bs _ _ (told_reply (codes "w") (codes "ithdrawn\"") (Left Waiting) bs tt (λ rest. refl))
    (letter_holds (SaysReply []) 103 b bs _ _ (g_reply_says bs)
    (letter_holds (SaysReply []) 109 b bs _ None (numbered_reply (codes "m") (codes "erged ") Merged (2 ^ 64) last_number bs last_number_says (λ n low. low) (λ n rest. refl)) tt)))))

-- ---- what stands there is read

refusal_again : (x : Refusal) (rest : List ℕ) → FitsRefusal x → refusal_at (name_text x ++ 34 ∷ rest) ≡ Some (x, rest)
unfolding refusal_at rare_refusal bad_refusal o_refusal m_refusal to_refusal too_refusal already_refusal no_refusal not_refusal seat_refusal
refusal_again NoRecord rest fits = refl
refusal_again BadHolder rest fits = refl
refusal_again AlreadyHere rest fits = refl
refusal_again CounterFull rest fits = refl
refusal_again (WriterAnnounced site) rest fits = ap (λ (o : Option (ℕ × List ℕ)). o >>= λ n. Some (WriterAnnounced n.0, n.1)) (last_short_again site rest fits)
refusal_again (NoSeat rights) rest fits = ap (λ (o : Option (ℕ × List ℕ)). o >>= λ n. Some (NoSeat n.0, n.1)) (last_number_again rights rest fits)
refusal_again TooManyWriters rest fits = refl
refusal_again NotAnnounced rest fits = refl
refusal_again AlreadyInside rest fits = refl
refusal_again (MissingSeats rights seats) rest fits =
    ap (λ (o : Option (ℕ × ℕ × List ℕ)). o >>= λ n. Some (MissingSeats n.0 n.1, n.2)) (shortage_again rights seats rest fits.0 fits.1)
refusal_again NotHere rest fits = refl
refusal_again NoSite rest fits = refl
refusal_again ToSelf rest fits = refl
refusal_again ZeroSeats rest fits = refl
refusal_again (TooFewRights rights) rest fits = ap (λ (o : Option (ℕ × List ℕ)). o >>= λ n. Some (TooFewRights n.0, n.1)) (last_number_again rights rest fits)
refusal_again NoPlan rest fits = refl
refusal_again (OtherLayout row) rest fits = ap (λ (o : Option (ℕ × List ℕ)). o >>= λ n. Some (OtherLayout n.0, n.1)) (last_number_again row rest fits)
refusal_again (BadRow row) rest fits = ap (λ (o : Option (ℕ × List ℕ)). o >>= λ n. Some (BadRow n.0, n.1)) (last_number_again row rest fits)
refusal_again (OwnRowAhead rec) rest fits = ap (λ (o : Option (ℕ × List ℕ)). o >>= λ n. Some (OwnRowAhead n.0, n.1)) (last_short_again rec rest fits)
refusal_again Memory rest fits = refl
refusal_again Frozen rest fits = refl
refusal_again LogFull rest fits = refl
refusal_again StoreFault rest fits = refl

-- a snapshot
pub record IsTold (reply : Reply) : Type 0 where
  pub delta : DeltaState
  pub is : reply ≡ Snapshot delta
  pub fits : IsDelta delta

-- a reply of words, or a snapshot
reply_again : (reply : Reply) (rest : List ℕ) → FitsReply reply → (worded_reply (reply_text reply ++ 34 ∷ rest) ≡ Some (reply, rest)) ⊎ IsTold reply
unfolding worded_reply g_reply left_reply a_reply
reply_again Admitted rest fits = inl refl
reply_again (Announced n) rest fits = inl (ap (λ (o : Option (ℕ × List ℕ)). o >>= λ x. Some (Announced x.0, x.1)) (last_number_again n rest fits))
reply_again (Left Reader) rest fits = inl refl
reply_again (Left Waiting) rest fits = inl refl
reply_again (Left Writer) rest fits = inl refl
reply_again Given rest fits = inl refl
reply_again (Gave to seats) rest fits = inl (ap (λ (o : Option (ℕ × ℕ × List ℕ)). o >>= λ x. Some (Gave x.0 x.1, x.2)) (gift_again to seats rest fits.0 fits.1))
reply_again (Merged n) rest fits = inl (ap (λ (o : Option (ℕ × List ℕ)). o >>= λ x. Some (Merged x.0, x.1)) (last_number_again n rest fits))
reply_again (Snapshot d) rest fits = inr (record { delta = d; is = refl; fits = fits })
reply_again (Refused x) rest fits = inl (ap (λ (o : Option (Refusal × List ℕ)). o >>= λ y. Some (Refused y.0, y.1)) (refusal_again x rest fits))

-- ---- between quotes

refusal_plain : (x : Refusal) → FitsRefusal x → is_plain (refusal_text x) ≡ true
refusal_plain NoRecord fits = refl
refusal_plain BadHolder fits = refl
refusal_plain AlreadyHere fits = refl
refusal_plain CounterFull fits = refl
refusal_plain (WriterAnnounced site) fits = number_plain site [] (omega (arith, fits)) refl
refusal_plain (NoSeat rights) fits = number_plain rights [] fits refl
refusal_plain TooManyWriters fits = refl
refusal_plain NotAnnounced fits = refl
refusal_plain AlreadyInside fits = refl
refusal_plain (MissingSeats rights seats) fits = number_plain rights (32 ∷ (decimal seats ++ [])) fits.0 (number_plain seats [] (omega (arith, fits.1)) refl)
refusal_plain NotHere fits = refl
refusal_plain NoSite fits = refl
refusal_plain ToSelf fits = refl
refusal_plain ZeroSeats fits = refl
refusal_plain (TooFewRights rights) fits = number_plain rights [] fits refl
refusal_plain NoPlan fits = refl
refusal_plain (OtherLayout row) fits = number_plain row [] fits refl
refusal_plain (BadRow row) fits = number_plain row [] fits refl
refusal_plain (OwnRowAhead rec) fits = number_plain rec [] (omega (arith, fits)) refl
refusal_plain Memory fits = refl
refusal_plain Frozen fits = refl
refusal_plain LogFull fits = refl
refusal_plain StoreFault fits = refl

-- the text of any reply but a snapshot needs no backslash
reply_plain : (reply : Reply) → FitsReply reply → (is_plain (reply_text reply) ≡ true) ⊎ IsTold reply
reply_plain Admitted fits = inl refl
reply_plain (Announced n) fits = inl (number_plain n [] fits refl)
reply_plain (Left Reader) fits = inl refl
reply_plain (Left Waiting) fits = inl refl
reply_plain (Left Writer) fits = inl refl
reply_plain Given fits = inl refl
reply_plain (Gave to seats) fits = inl (number_plain to (32 ∷ (decimal seats ++ [])) (omega (arith, fits.0)) (number_plain seats [] fits.1 refl))
reply_plain (Merged n) fits = inl (number_plain n [] fits refl)
reply_plain (Snapshot d) fits = inr (record { delta = d; is = refl; fits = fits })
reply_plain (Refused x) fits = inl (refusal_plain x fits)

-- a reply of words is read of its text between quotes
pub worded_or_told : (reply : Reply) (rest : List ℕ) → FitsReply reply → (worded_reply (quoted (reply_text reply) rest) ≡ Some (reply, rest)) ⊎ IsTold reply
worded_or_told reply rest fits = at (reply_plain reply fits) (reply_again reply rest fits)
  where
    at : (is_plain (reply_text reply) ≡ true) ⊎ IsTold reply → (worded_reply (reply_text reply ++ 34 ∷ rest) ≡ Some (reply, rest)) ⊎ IsTold reply
        → (worded_reply (quoted (reply_text reply) rest) ≡ Some (reply, rest)) ⊎ IsTold reply
    at (inl plain) (inl again) = inl (ap worded_reply (plain_quoted (reply_text reply) rest plain) ∙ again)
    at (inl plain) (inr told) = inr told
    at (inr told) other = inr told

-- what begins with a brace is none
pub no_words : (bs : List ℕ) → worded_reply (123 ∷ bs) ≡ None
unfolding worded_reply
no_words bs = refl

-- a snapshot begins with a brace
told_braced : (reply : Reply) (bytes rest : List ℕ) → IsTold reply → bytes ≡ quoted (reply_text reply) rest → (behind : List ℕ) × (bytes ≡ 123 ∷ behind)
unfolding delta_text
told_braced reply bytes rest told same =
    (escaped (drop 1 (delta_text told.delta)) ++ 34 ∷ rest, same ∙ ap (λ (r : Reply). quoted (reply_text r) rest) told.is)

-- .. and is not read as a reply of words
pub told_unread : (reply : Reply) → IsTold reply → (rest : List ℕ) → worded_reply (quoted (reply_text reply) rest) ≡ None
told_unread reply told rest =
    let braces = told_braced reply (quoted (reply_text reply) rest) rest told refl in
    ap worded_reply braces.1 ∙ no_words braces.0

abbrev NoReply : List ℕ → Type 0
NoReply bytes = (reply : Reply) → (rest : List ℕ) → FitsReply reply → bytes ≢ quoted (reply_text reply) rest

-- what begins with a brace is no delta
pub no_snapshot : (e : Unread) (bytes behind : List ℕ) → bytes ≡ 123 ∷ behind → Refuses e ((d : DeltaState) → (rest : List ℕ) → IsDelta d → bytes ≢ quoted (delta_text d) rest) → Refuses e (NoReply bytes)
no_snapshot NoRoom bytes behind brace none = tt
no_snapshot NotRead bytes behind brace none = λ reply rest fits same. elim (worded_or_told reply rest fits) [
  | inl worded ↦ none-some (reply, rest) (sym (no_words behind) ∙ (ap worded_reply (sym brace ∙ same) ∙ worded))
  | inr told ↦ none told.delta rest told.fits (same ∙ ap (λ (r : Reply). quoted (reply_text r) rest) told.is)
]

no_reply : (bytes : List ℕ) → worded_reply bytes ≡ None → ((behind : List ℕ) → bytes ≢ 123 ∷ behind) → NoReply bytes
no_reply bytes none no_brace = λ reply rest fits same. elim (worded_or_told reply rest fits) [
  | inl worded ↦ none-some (reply, rest) (sym none ∙ (ap worded_reply same ∙ worded))
  | inr told ↦ let braces = told_braced reply bytes rest told same in absurd (no_brace braces.0 braces.1)
]

-- it is that reply alone
reply_says : (bytes : List ℕ) (reply : Reply) (rest : List ℕ) → worded_reply bytes ≡ Some (reply, rest) → FitsReply reply × (bytes ≡ quoted (reply_text reply) rest)
unfolding delta_text
reply_says bytes reply rest read = at (reply_plain reply says.0)
  where
    says : FitsReply reply × (bytes ≡ reply_text reply ++ 34 ∷ rest)
    says = held_by (SaysReply [] bytes) (worded_reply bytes) (reply, rest) (worded_reply_says bytes) read

    unbraced : IsTold reply → ⊥
    unbraced told =
        let text : bytes ≡ 123 ∷ (drop 1 (delta_text told.delta) ++ 34 ∷ rest) = says.1 ∙ ap (λ (r : Reply). reply_text r ++ 34 ∷ rest) told.is in
        none-some (reply, rest) (sym (no_words (drop 1 (delta_text told.delta) ++ 34 ∷ rest)) ∙ (ap worded_reply (sym text) ∙ read))

    at : (is_plain (reply_text reply) ≡ true) ⊎ IsTold reply → FitsReply reply × (bytes ≡ quoted (reply_text reply) rest)
    at (inl plain) = (says.0, says.1 ∙ sym (plain_quoted (reply_text reply) rest plain))
    at (inr told) = absurd (unbraced told)

-- what a reader of any reply but a snapshot answers
pub reply_so : {X : Type 0} (view : X → Reply × List ℕ) (bytes : List ℕ) (result : Result X Unread) → Gives view result (worded_reply bytes)
    → ((behind : List ℕ) → bytes ≢ 123 ∷ behind) → ReadsQuoted view FitsReply reply_text bytes result
reply_so view bytes (Ok x) gives no_brace = reply_says bytes (view x).0 (view x).1 gives
reply_so view bytes (Err NotRead) gives no_brace = no_reply bytes gives no_brace
reply_so view bytes (Err NoRoom) gives no_brace = tt
