-- The reading of any reply but a snapshot, from left to right up to the closing quote: each letter in front tells what
-- follows. For private clauses: that exactly the texts of such replies are read is proved in proofs/.
use Rattle.std.specs.Prelude.{ℕ, ◌==◌, List, [], ◌∷◌, codes, if◌then◌else◌, Option, Some, None}
use Rattle.session_list.specs.declared.session.Phase.TheVariants.{Reader, Writer, Waiting}
use Rattle.admission_model.specs.declared.reply.Refusal.{Refusal}
use Rattle.admission_model.specs.declared.reply.Refusal.TheVariants.{NoRecord, BadHolder, AlreadyHere, CounterFull, WriterAnnounced, NoSeat, TooManyWriters, NotAnnounced, AlreadyInside, MissingSeats, NotHere, NoSite, ToSelf, ZeroSeats, TooFewRights, NoPlan, OtherLayout, BadRow, OwnRowAhead, Memory, Frozen, LogFull, StoreFault}
use Rattle.admission_model.specs.declared.reply.Reply.{Reply}
use Rattle.admission_model.specs.declared.reply.Reply.TheVariants.{Admitted, Announced, Left, Given, Gave, Merged, Refused}
use Rattle.text_parts.specs.Readers.{◌>>=◌, after}
use Rattle.transcript_reader.specs.Words.{told, last_number, last_short, gift_at, shortage_at}

-- a refusal whose name begins with `NoS`, from behind that on
unfoldable pub seat_refusal : List ℕ → Option (Refusal × List ℕ)
seat_refusal [] = None
seat_refusal (b ∷ bs) =
    if b == 101 then (after (codes "at ") bs >>= λ rest. last_number rest >>= λ n. Some (NoSeat n.0, n.1)) else (
    if b == 105 then told (codes "te\"") NoSite bs else None)

-- a refusal whose name begins with `Not`, from behind that on
unfoldable pub not_refusal : List ℕ → Option (Refusal × List ℕ)
not_refusal [] = None
not_refusal (b ∷ bs) =
    if b == 72 then told (codes "ere\"") NotHere bs else (
    if b == 65 then told (codes "nnounced\"") NotAnnounced bs else None)

-- a refusal whose name begins with `N`, from behind that on
abbrev pub no_refusal_arms : List ℕ → Option (Refusal × List ℕ)
no_refusal_arms [] = None
no_refusal_arms (b ∷ bs) =
    if b == 83 then seat_refusal bs else (
    if b == 116 then not_refusal bs else (
    if b == 82 then told (codes "ecord\"") NoRecord bs else (
    if b == 80 then told (codes "lan\"") NoPlan bs else None)))

unfoldable pub no_refusal : List ℕ → Option (Refusal × List ℕ)
no_refusal bytes = after (codes "o") bytes >>= no_refusal_arms

-- a refusal whose name begins with `A`, from behind that on
abbrev pub already_refusal_arms : List ℕ → Option (Refusal × List ℕ)
already_refusal_arms [] = None
already_refusal_arms (b ∷ bs) =
    if b == 72 then told (codes "ere\"") AlreadyHere bs else (
    if b == 73 then told (codes "nside\"") AlreadyInside bs else None)

unfoldable pub already_refusal : List ℕ → Option (Refusal × List ℕ)
already_refusal bytes = after (codes "lready") bytes >>= already_refusal_arms

-- a refusal whose name begins with `Too`, from behind that on
unfoldable pub too_refusal : List ℕ → Option (Refusal × List ℕ)
too_refusal [] = None
too_refusal (b ∷ bs) =
    if b == 70 then (after (codes "ewRights ") bs >>= λ rest. last_number rest >>= λ n. Some (TooFewRights n.0, n.1)) else (
    if b == 77 then told (codes "anyWriters\"") TooManyWriters bs else None)

-- a refusal whose name begins with `T`, from behind that on
abbrev pub to_refusal_arms : List ℕ → Option (Refusal × List ℕ)
to_refusal_arms [] = None
to_refusal_arms (b ∷ bs) =
    if b == 111 then too_refusal bs else (
    if b == 83 then told (codes "elf\"") ToSelf bs else None)

unfoldable pub to_refusal : List ℕ → Option (Refusal × List ℕ)
to_refusal bytes = after (codes "o") bytes >>= to_refusal_arms

-- a refusal whose name begins with `M`, from behind that on
unfoldable pub m_refusal : List ℕ → Option (Refusal × List ℕ)
m_refusal [] = None
m_refusal (b ∷ bs) =
    if b == 105 then (after (codes "ssingSeats ") bs >>= λ rest. shortage_at rest >>= λ n. Some (MissingSeats n.0 n.1, n.2)) else (
    if b == 101 then told (codes "mory\"") Memory bs else None)

-- a refusal whose name begins with `O`, from behind that on
unfoldable pub o_refusal : List ℕ → Option (Refusal × List ℕ)
o_refusal [] = None
o_refusal (b ∷ bs) =
    if b == 116 then (after (codes "herLayout ") bs >>= λ rest. last_number rest >>= λ n. Some (OtherLayout n.0, n.1)) else (
    if b == 119 then (after (codes "nRowAhead ") bs >>= λ rest. last_short rest >>= λ n. Some (OwnRowAhead n.0, n.1)) else None)

-- a refusal whose name begins with `B`, from behind that on
abbrev pub bad_refusal_arms : List ℕ → Option (Refusal × List ℕ)
bad_refusal_arms [] = None
bad_refusal_arms (b ∷ bs) =
    if b == 82 then (after (codes "ow ") bs >>= λ rest. last_number rest >>= λ n. Some (BadRow n.0, n.1)) else (
    if b == 72 then told (codes "older\"") BadHolder bs else None)

unfoldable pub bad_refusal : List ℕ → Option (Refusal × List ℕ)
bad_refusal bytes = after (codes "ad") bytes >>= bad_refusal_arms

-- a refusal that seldom comes
unfoldable pub rare_refusal : List ℕ → Option (Refusal × List ℕ)
rare_refusal [] = None
rare_refusal (b ∷ bs) =
    if b == 66 then bad_refusal bs else (
    if b == 79 then o_refusal bs else (
    if b == 90 then told (codes "eroSeats\"") ZeroSeats bs else (
    if b == 76 then told (codes "ogFull\"") LogFull bs else (
    if b == 70 then told (codes "rozen\"") Frozen bs else (
    if b == 83 then told (codes "toreFault\"") StoreFault bs else None)))))

-- a refusal by its name and numbers
unfoldable pub refusal_at : List ℕ → Option (Refusal × List ℕ)
refusal_at [] = rare_refusal []
refusal_at (b ∷ bs) =
    if b == 78 then no_refusal bs else (
    if b == 65 then already_refusal bs else (
    if b == 87 then (after (codes "riterAnnounced ") bs >>= λ rest. last_short rest >>= λ n. Some (WriterAnnounced n.0, n.1)) else (
    if b == 84 then to_refusal bs else (
    if b == 67 then told (codes "ounterFull\"") CounterFull bs else (
    if b == 77 then m_refusal bs else rare_refusal (b ∷ bs))))))

-- a reply that begins with `a`, from behind that on
unfoldable pub a_reply : List ℕ → Option (Reply × List ℕ)
a_reply [] = None
a_reply (b ∷ bs) =
    if b == 100 then told (codes "mitted\"") Admitted bs else (
    if b == 110 then (after (codes "nounced ") bs >>= λ rest. last_number rest >>= λ n. Some (Announced n.0, n.1)) else None)

-- a reply that begins with `l`, from behind that on
abbrev pub left_reply_arms : List ℕ → Option (Reply × List ℕ)
left_reply_arms [] = None
left_reply_arms (b ∷ bs) =
    if b == 114 then told (codes "eader\"") (Left Reader) bs else (
    if b == 119 then told (codes "riter\"") (Left Writer) bs else None)

unfoldable pub left_reply : List ℕ → Option (Reply × List ℕ)
left_reply bytes = after (codes "eft ") bytes >>= left_reply_arms

-- a reply that begins with `g`, from behind that on
unfoldable pub g_reply : List ℕ → Option (Reply × List ℕ)
g_reply [] = None
g_reply (b ∷ bs) =
    if b == 105 then told (codes "ven\"") Given bs else (
    if b == 97 then (after (codes "ve ") bs >>= λ rest. gift_at rest >>= λ n. Some (Gave n.0 n.1, n.2)) else None)

-- any reply but a snapshot
unfoldable pub worded_reply : List ℕ → Option (Reply × List ℕ)
worded_reply [] = None
worded_reply (b ∷ bs) =
    if b == 114 then (after (codes "efused ") bs >>= λ rest. refusal_at rest >>= λ n. Some (Refused n.0, n.1)) else (
    if b == 97 then a_reply bs else (
    if b == 108 then left_reply bs else (
    if b == 119 then told (codes "ithdrawn\"") (Left Waiting) bs else (
    if b == 103 then g_reply bs else (
    if b == 109 then (after (codes "erged ") bs >>= λ rest. last_number rest >>= λ n. Some (Merged n.0, n.1)) else None)))))
