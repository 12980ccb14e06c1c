-- The texts of a snapshot's parts, one behind another, are that of the entry which shows it.
use Rattle.std.proofs.Common.{◌≡◌, ℕ, ◌+◌, ◌<◌, ◌^◌, Bool, true, false, cond, ltb, List, [], ◌∷◌, ◌++◌, length, drop, get_or, Option, Some, None, codes, decimal, refl, sym, ap, subst, ◌∙◌, append_assoc, append-nil}
use Rattle.std.specs.Prelude.{MatchOption}
use Rattle.std.proofs.lemmas.Bool.{false≢true, ltb-true}
use Rattle.std.proofs.lemmas.List.{drop_more}
use Rattle.std.proofs.lemmas.Option.{cond_some, some_pair_parts}
use Rattle.merge_core.specs.declared.delta.Row.{Row}
use Rattle.merge_core.specs.declared.layout.RecordSpec.{RecordSpec}
use Rattle.merge_core.specs.Delta.{DeltaState, IsDelta}
use Rattle.merge_core.specs.Book.{counter_of}
use Rattle.merge_core.specs.Moved.{all_moved, row_if}
use Rattle.merge_core.specs.Layout.{IsLayout, Shape}
use Rattle.merge_core.proofs.SnapshotLemmas.{IsDelta-snapshot}
use Rattle.admission_model.specs.declared.ask.Call.TheVariants.{Snapshot}
use Rattle.admission_model.specs.declared.reply.Reply.TheVariants.{Snapshot as SnapshotReply}
use Rattle.admission_model.specs.Merging.{snapshot_of}
use Rattle.admission_core.specs.Core.{Core, IsCore, core_view}
use Rattle.admission_core.proofs.CoreLemmas.{is_core}
use Rattle.text_parts.specs.Lists.{joined, later}
use Rattle.text_parts.specs.Readers.{◌>>=◌, after, number_at, short_at}
use Rattle.text_parts.proofs.LiteralLaws.{bind_some, after_takes}
use Rattle.delta_codec.specs.DeltaText.{row_text, delta_text}
use Rattle.transcript_text.specs.Quoted.{escaped}
use Rattle.transcript_text.specs.Texts.{entry_text}
use Rattle.transcript_reader.specs.Quoted.{quoted}
use Rattle.transcript_reader.specs.Readers.{pass_behind}
use Rattle.transcript_reader.specs.Shown.{BeginsWithRows, IsOwnSnapshot, book_snapshot, is_first_behind, pass_of_send, rows_text, snapshot_entry}
use Rattle.transcript_reader.proofs.DeltaLemmas.{digits, piece, list_piece, row_pieces, row_pieces_are, delta_pieces, delta_pieces_are}
use Rattle.transcript_reader.proofs.EntryLemmas.{entry_sound}
use Rattle.transcript_reader.proofs.EscapedLemmas.{escaped_append}

-- ---- one row

-- a text that is followed by another
then_text : (text bytes rest tail : List ℕ) → bytes ≡ text ++ rest → rest ≡ tail → bytes ≡ text ++ tail
then_text text bytes rest tail e f = e ∙ ap (λ (t : List ℕ). text ++ t) f

pub row_of_parts : (p : Row) (bytes b1 b2 b3 b4 b5 b6 rest : List ℕ)
    → bytes ≡ codes "{\\\"ann\\\":" ++ (digits p.ann ++ b1) → b1 ≡ codes ",\\\"fin\\\":" ++ (digits p.fin ++ b2)
    → b2 ≡ codes ",\\\"out\\\":[" ++ (escaped (joined decimal p.out) ++ b3) → b3 ≡ codes "],\\\"r\\\":" ++ (digits p.r ++ b4)
    → b4 ≡ codes ",\\\"s\\\":" ++ (digits p.s ++ b5) → b5 ≡ codes ",\\\"taken\\\":" ++ (digits p.taken ++ b6) → b6 ≡ codes "}" ++ rest
    → bytes ≡ escaped (row_text p) ++ rest
row_of_parts p bytes b1 b2 b3 b4 b5 b6 rest e1 e2 e3 e4 e5 e6 e7 =
    let t6 : List ℕ = codes "}" ++ rest in
    let t5 : List ℕ = codes ",\\\"taken\\\":" ++ (digits p.taken ++ t6) in
    let t4 : List ℕ = codes ",\\\"s\\\":" ++ (digits p.s ++ t5) in
    let t3 : List ℕ = codes "],\\\"r\\\":" ++ (digits p.r ++ t4) in
    let t2 : List ℕ = codes ",\\\"out\\\":[" ++ (escaped (joined decimal p.out) ++ t3) in
    let t1 : List ℕ = codes ",\\\"fin\\\":" ++ (digits p.fin ++ t2) in
    let f5 : b5 ≡ t5 = piece (codes ",\\\"taken\\\":") p.taken b5 b6 t6 e6 e7 in
    let f4 : b4 ≡ t4 = piece (codes ",\\\"s\\\":") p.s b4 b5 t5 e5 f5 in
    let f3 : b3 ≡ t3 = piece (codes "],\\\"r\\\":") p.r b3 b4 t4 e4 f4 in
    let f2 : b2 ≡ t2 = list_piece (codes ",\\\"out\\\":[") p.out b2 b3 t3 e3 f3 in
    let f1 : b1 ≡ t1 = piece (codes ",\\\"fin\\\":") p.fin b1 b2 t2 e2 f2 in
    let whole : bytes ≡ row_pieces p rest = piece (codes "{\\\"ann\\\":") p.ann bytes b1 t1 e1 f1 in
    let text : List ℕ = escaped (row_text p) ++ rest in
    ◌∙◌ {b = row_pieces p rest} {c = text} whole (sym {a = text} {b = row_pieces p rest} (row_pieces_are p rest))

-- what follows from a clause on a value, if there is one
pub then_some : {X : Type 0} (o : Option X) (P Q : X → Type 0) → ((x : X) → P x → Q x) → MatchOption o (Unit {0}) P → MatchOption o (Unit {0}) Q
then_some None P Q f holds = tt
then_some (Some x) P Q f holds = f x holds

-- a number more behind a comma
later_more : (n : ℕ) (ns bytes rest t : List ℕ) → bytes ≡ codes "," ++ (digits n ++ rest) → rest ≡ escaped (later decimal ns) ++ t → bytes ≡ escaped (later decimal (n ∷ ns)) ++ t
later_more n ns bytes rest t e f =
    piece (codes ",") n bytes rest (escaped (later decimal ns) ++ t) e f
    ∙ ap (λ (x : List ℕ). codes "," ++ x) (sym (append_assoc (digits n) (escaped (later decimal ns)) t) ∙ ap (λ (x : List ℕ). x ++ t) (sym (escaped_append (decimal n) (later decimal ns))))

pub later_step : (numbers bytes rest t : List ℕ) (i : ℕ) → i < length numbers → bytes ≡ codes "," ++ (digits (get_or numbers i 0) ++ rest) → rest ≡ escaped (later decimal (drop (i + 1) numbers)) ++ t
    → bytes ≡ escaped (later decimal (drop i numbers)) ++ t
later_step numbers bytes rest t i more e f =
    later_more (get_or numbers i 0) (drop (i + 1) numbers) bytes rest t e f ∙ ap (λ (ns : List ℕ). escaped (later decimal ns) ++ t) (sym (drop_more numbers i 0 more))

-- the first number, and those behind it
pub first_listed : (literal numbers bytes rest t : List ℕ) → 0 < length numbers → bytes ≡ literal ++ (digits (get_or numbers 0 0) ++ rest) → rest ≡ escaped (later decimal (drop 1 numbers)) ++ t
    → bytes ≡ literal ++ (escaped (joined decimal numbers) ++ t)
first_listed literal numbers bytes rest t some e f =
    let n = get_or numbers 0 0 in
    let ns = drop 1 numbers in
    piece literal n bytes rest (escaped (later decimal ns) ++ t) e f
    ∙ ap (λ (x : List ℕ). literal ++ x) (sym (append_assoc (digits n) (escaped (later decimal ns)) t) ∙ ap (λ (x : List ℕ). x ++ t) (sym (escaped_append (decimal n) (later decimal ns))))
    ∙ ap (λ (xs : List ℕ). literal ++ (escaped (joined decimal xs) ++ t)) (sym (drop_more numbers 0 0 some))

-- ---- rows with commas between them

later_append : (xs ys : List Row) → later row_text (xs ++ ys) ≡ later row_text xs ++ later row_text ys
later_append [] ys = refl
later_append (x ∷ xs) ys =
    ap (λ (t : List ℕ). codes "," ++ (row_text x ++ t)) (later_append xs ys)
    ∙ ap (λ (t : List ℕ). codes "," ++ t) (sym (append_assoc (row_text x) (later row_text xs) (later row_text ys)))

rows_text_append : (first : Bool) (xs ys : List Row) → rows_text first (xs ++ ys) ≡ rows_text first xs ++ rows_text (is_first_behind first xs) ys
rows_text_append true [] ys = refl
rows_text_append false [] ys = refl
rows_text_append true (x ∷ xs) ys =
    ap (λ (t : List ℕ). row_text x ++ t) (later_append xs ys) ∙ sym (append_assoc (row_text x) (later row_text xs) (later row_text ys))
rows_text_append false (x ∷ xs) ys = later_append (x ∷ xs) ys

not_first : (ys : List Row) → is_first_behind false ys ≡ false
not_first [] = refl
not_first (y ∷ ys) = refl

first_append : (first : Bool) (xs ys : List Row) → is_first_behind first (xs ++ ys) ≡ is_first_behind (is_first_behind first xs) ys
first_append first [] ys = refl
first_append first (x ∷ xs) ys = sym (not_first ys)

-- rows behind rows
pub rows_join : (first : Bool) (xs ys : List Row) (bytes : List ℕ) (still : Bool) (rest : List ℕ) (last : Bool) (more : List ℕ)
    → BeginsWithRows first xs bytes still rest → BeginsWithRows still ys rest last more → BeginsWithRows first (xs ++ ys) bytes last more
rows_join first xs ys bytes still rest last more a b = record {
  text = then_text (escaped (rows_text first xs)) bytes rest _ a.text (b.text ∙ ap (λ (f : Bool). escaped (rows_text f ys) ++ more) a.flag) ∙ whole;
  flag = b.flag ∙ (ap (λ (f : Bool). is_first_behind f ys) a.flag ∙ sym (first_append first xs ys));
}
  where
    behind : List ℕ
    behind = rows_text (is_first_behind first xs) ys

    whole : escaped (rows_text first xs) ++ (escaped behind ++ more) ≡ escaped (rows_text first (xs ++ ys)) ++ more
    whole =
        sym (append_assoc (escaped (rows_text first xs)) (escaped behind) more)
        ∙ ap (λ (t : List ℕ). t ++ more) (sym (escaped_append (rows_text first xs) behind) ∙ ap escaped (sym (rows_text_append first xs ys)))

-- no row, and then nothing has changed
pub no_row : (moved : Bool) (p : Row) (first : Bool) (bytes : List ℕ) → moved ≡ false → BeginsWithRows first (row_if moved p) bytes first bytes
no_row true p first bytes still = absurd (false≢true (sym still))
no_row false p true bytes still = record { text = refl; flag = refl }
no_row false p false bytes still = record { text = refl; flag = refl }

-- a row, with its comma
pub one_row : (moved : Bool) (p q : Row) (first : Bool) (bytes gap rest : List ℕ) → moved ≡ true → q ≡ p → (first ≡ true → bytes ≡ gap) → (first ≡ false → bytes ≡ codes "," ++ gap)
    → gap ≡ escaped (row_text q) ++ rest → BeginsWithRows first (row_if moved p) bytes false rest
one_row false p q first bytes gap rest is same at_first behind e = absurd (false≢true is)
one_row true p q true bytes gap rest is same at_first behind e = record {
  text = at_first refl ∙ (e ∙ (ap (λ (x : Row). escaped (row_text x) ++ rest) same ∙ ap (λ (t : List ℕ). escaped t ++ rest) (sym (append-nil (row_text p)))));
  flag = refl;
}
one_row true p q false bytes gap rest is same at_first behind e = record {
  text = then_text (codes ",") bytes gap _ (behind refl) (e ∙ (ap (λ (x : Row). escaped (row_text x) ++ rest) same ∙ ap (λ (t : List ℕ). escaped t ++ rest) (sym (append-nil (row_text p)))));
  flag = refl;
}

-- ---- a snapshot, and the entry

-- a pass that is read has 16 bits
pass_few : (bytes : List ℕ) (pass : ℕ) (rest : List ℕ) → pass_behind bytes ≡ Some (pass, rest) → pass < 2 ^ 16
unfolding pass_behind short_at
pass_few bytes pass rest e =
    let front = bind_some (after (codes ",\"pass\":") bytes) (λ (b : List ℕ). short_at b >>= λ (p : ℕ × List ℕ). after (codes ",\"reply\":\"") p.1 >>= λ (t : List ℕ). Some (p.0, t)) (pass, rest) e in
    let read = bind_some (short_at front.0) (λ (p : ℕ × List ℕ). after (codes ",\"reply\":\"") p.1 >>= λ (t : List ℕ). Some (p.0, t)) (pass, rest) front.2 in
    let last = bind_some (after (codes ",\"reply\":\"") read.0.1) (λ (t : List ℕ). Some (read.0.0, t)) (pass, rest) read.2 in
    let number = bind_some (number_at front.0) (λ (m : ℕ × List ℕ). cond (ltb m.0 (2 ^ 16)) (Some m) None) read.0 read.1 in
    let small = cond_some (ltb number.0.0 (2 ^ 16)) number.0 read.0 number.2 in
    let same : read.0.0 ≡ pass = (some_pair_parts read.0.0 pass last.0 rest last.2).0 in
    let is : number.0.0 ≡ pass = ap (λ (p : ℕ × List ℕ). p.0) small.1 ∙ same in
    subst (λ (n : ℕ). n < 2 ^ 16) is (ltb-true number.0.0 (2 ^ 16) small.0)

pub snapshot_of_parts : (d : DeltaState) (bytes b1 b2 b3 rest : List ℕ) → bytes ≡ codes "{\\\"from\\\":" ++ (digits d.from ++ b1) → b1 ≡ codes ",\\\"rows\\\":[" ++ b2
    → b2 ≡ escaped (joined row_text d.rows) ++ b3 → b3 ≡ codes "],\\\"v\\\":1}\"" ++ rest → bytes ≡ quoted (delta_text d) rest
snapshot_of_parts d bytes b1 b2 b3 rest e1 e2 e3 e4 =
    let t3 : List ℕ = codes "],\\\"v\\\":1}\"" ++ rest in
    let t2 : List ℕ = escaped (joined row_text d.rows) ++ t3 in
    let t1 : List ℕ = codes ",\\\"rows\\\":[" ++ t2 in
    let f2 : b2 ≡ t2 = then_text (escaped (joined row_text d.rows)) b2 b3 t3 e3 e4 in
    let f1 : b1 ≡ t1 = then_text (codes ",\\\"rows\\\":[") b1 b2 t2 e2 f2 in
    let whole : bytes ≡ delta_pieces d rest = piece (codes "{\\\"from\\\":") d.from bytes b1 t1 e1 f1 in
    let text : List ℕ = quoted (delta_text d) rest in
    ◌∙◌ {b = delta_pieces d rest} {c = text} whole (sym {a = text} {b = delta_pieces d rest} (delta_pieces_are d rest))

pub shows : (c : Core) (line : List ℕ) (pass : ℕ) (reply rest : List ℕ) → IsLayout c.layout → pass_of_send line ≡ Some (pass, reply)
    → reply ≡ quoted (delta_text (book_snapshot c)) rest → rest ≡ codes "}" → IsOwnSnapshot c line
unfolding pass_of_send
shows c line pass reply rest layout read is_reply end a stands = record {
  pass = pass;
  fits = record { pass = pass_few behind.0 pass reply behind.2; call = tt; reply = subst IsDelta same (IsDelta-snapshot c.book c.site stands.book (subst (λ (n : ℕ). c.site < n) (sym is.sites) is.site_there)) };
  text = λ records. entry_sound records line head.0 Snapshot behind.0 pass reply (SnapshotReply (snapshot_of (core_view c))) rest head.1 (after_takes (codes "send\"") head.0 behind.0 behind.1) behind.2
      (is_reply ∙ ap (λ (d : DeltaState). quoted (delta_text d) rest) same) end;
}
  where
    is : IsCore c
    is = is_core c layout a stands

    same : book_snapshot c ≡ snapshot_of (core_view c)
    same = ap (λ (shape : Shape). record { from = c.site; rows = all_moved shape (counter_of c.book) }) (sym stands.shape)

    head : (front : List ℕ) × (after (codes "{\"call\":\"") line ≡ Some front) × ((after (codes "send\"") front >>= pass_behind) ≡ Some (pass, reply))
    head = bind_some (after (codes "{\"call\":\"") line) (λ (front : List ℕ). after (codes "send\"") front >>= pass_behind) (pass, reply) read

    behind : (bytes : List ℕ) × (after (codes "send\"") head.0 ≡ Some bytes) × (pass_behind bytes ≡ Some (pass, reply))
    behind = bind_some (after (codes "send\"") head.0) pass_behind (pass, reply) head.2
