-- From what clap met to what the arguments ask for.
use Rattle.std.proofs.Common.{◌≡◌, ◌<◌, ◌&&◌, ℕ, Bool, true, false, List, [], ◌∷◌, length, map, codes, Option, Some, None, Result, Ok, Err, option_map, refl, sym, ap, subst, ◌∙◌, arith}
use Rattle.std.specs.List.{list_all}
use Rattle.std.specs.Prelude.{nat_lt, option_and_then, unwrap_or}
use Rattle.std.specs.Option.{option_map_or}
use Rattle.std.specs.Char.{digit_value}
use Rattle.std.specs.Str.Parse.{AllDigits, ParsesBool, ParsesUnsigned, digits_value, without_leading_plus}
use Rattle.std.proofs.lemmas.Bool.{lt-leb, lt-ltb, ltb-true}
use Rattle.std.proofs.lemmas.List.{length-map}
use Rattle.std.proofs.lemmas.Slice.Eq.{bytes_eq-Decides}
use Rattle.clap.specs.ValueTests.{is_numeral}
use Rattle.clap.specs.Matches.{ReadsOne}
use Rattle.clap.specs.Words.{App, Row, Text, fault_of, first_of, subcommand_of}
use Rattle.clap.proofs.WalkLemmas.{both}
use Rattle.command_arguments.specs.Arguments.{asked_command, asked_logs, asked_lost, asked_value, asked_words, command_in, is_true, logs_at, logs_in, lost_at, lost_in, program, short_number, site_of, usage_errors, value_in, words_at, words_in}

-- arguments behind the program's name are judged by clap's rules
pub errors_by_clap : (arguments : List Text) → 1 < length arguments → usage_errors arguments ≡ fault_of program arguments
errors_by_clap arguments more = rw (lt-leb (length arguments) 1 more) refl

-- what a parser that is the program met is what they ask for
module _ (a : App) (met : Option (Text × List Row)) (arguments : List Text) (more : 1 < length arguments) (is : a ≡ program) (meets : met ≡ subcommand_of a arguments) where
  met_is : met ≡ subcommand_of program arguments
  met_is = meets ∙ ap (λ (x : App). subcommand_of x arguments) is

  pub command_met : command_in met ≡ asked_command arguments
  command_met = rw (lt-leb (length arguments) 1 more) (ap command_in met_is)

  pub value_met : (option : Text) → value_in option met ≡ asked_value option arguments
  value_met option = rw (lt-leb (length arguments) 1 more) (ap (value_in option) met_is)

  pub lost_met : lost_at met ≡ asked_lost arguments
  lost_met = rw (lt-leb (length arguments) 1 more) (ap lost_at met_is)

  pub logs_met : logs_at met ≡ asked_logs arguments
  logs_met = rw (lt-leb (length arguments) 1 more) (ap logs_at met_is)

  pub words_met : words_at met ≡ asked_words arguments
  words_met = rw (lt-leb (length arguments) 1 more) (ap words_at met_is)

-- the arguments of a call are as many as their texts
pub more_texts : {S : Type 0} (f : S → Text) (arguments : List S) → 1 < length arguments → 1 < length (map f arguments)
more_texts f arguments more = omega (arith, length-map arguments f)

-- the value of an option is read from the rows of the command that was met
pub value_of_rows : (option : Text) (met : Option (Text × List Row)) (rows : List Row) → option_map (λ p. p.1) met ≡ Some rows
    → first_of option rows ≡ value_in option met
value_of_rows option None rows has_rows = cc
value_of_rows option (Some (name, values)) rows has_rows =
    let rows_are : values ≡ rows = cc in
    rw rows_are refl

-- so are the sites that are lost
pub lost_of_rows : (met : Option (Text × List Row)) (rows : List Row) → option_map (λ p. p.1) met ≡ Some rows → lost_in rows ≡ lost_at met
lost_of_rows None rows has_rows = cc
lost_of_rows (Some (name, values)) rows has_rows =
    let rows_are : values ≡ rows = cc in
    rw rows_are refl

-- so are the files of logs
pub logs_of_rows : (met : Option (Text × List Row)) (rows : List Row) → option_map (λ p. p.1) met ≡ Some rows → logs_in rows ≡ logs_at met
logs_of_rows None rows has_rows = cc
logs_of_rows (Some (name, values)) rows has_rows =
    let rows_are : values ≡ rows = cc in
    rw rows_are refl

-- the words of a call are read from them too
pub words_of_rows : (met : Option (Text × List Row)) (rows : List Row) → option_map (λ p. p.1) met ≡ Some rows → words_in rows ≡ words_at met
words_of_rows None rows has_rows = cc
words_of_rows (Some (name, values)) rows has_rows =
    let rows_are : values ≡ rows = cc in
    rw rows_are refl

-- a text that is read as a `bool`, or else counts as false
flag_of_text : (E : Type 0) (text : Text) (read : Option Bool) → ReadsOne {T = Bool} {E = E} ParsesBool text read
    → unwrap_or read false ≡ is_true text
flag_of_text E text (Some true) is = rw is refl
flag_of_text E text (Some false) is = rw is refl
flag_of_text E text None is = go (is_true text) refl
  where
    go : (b : Bool) → is_true text ≡ b → false ≡ b
    go false fails = refl
    go true holds = absurd (is.1.0 ((bytes_eq-Decides text (codes "true")).0 holds))

-- a flag is what its text says, and false where it has none
pub flag_read : (E : Type 0) (text : Option Text) (read : Option Bool) → (text ≡ None → read ≡ None)
    → ((t : Text) → text ≡ Some t → ReadsOne {T = Bool} {E = E} ParsesBool t read) → unwrap_or read false ≡ option_map_or is_true text false
flag_read E None read none some = rw (none refl) refl
flag_read E (Some t) read none some = flag_of_text E t read (some t refl)

digits_pass : (ds : List ℕ) → AllDigits 10 ds → list_all (λ d. nat_lt (digit_value d) 10) ds ≡ true
digits_pass [] all = refl
digits_pass (d ∷ ds) all = rw (lt-ltb (digit_value d) 10 all.0) (digits_pass ds all.1)

digits_from : (ds : List ℕ) → list_all (λ d. nat_lt (digit_value d) 10) ds ≡ true → AllDigits 10 ds
digits_from [] pass = tt
digits_from (d ∷ ds) pass =
    let parts = both _ _ pass in
    (ltb-true _ _ parts.0, digits_from ds parts.1)

abbrev is_short : List ℕ → Bool
is_short ds = is_numeral ds && nat_lt (digits_value 10 ds) 65536

-- a text that is read as a number of 16 bits
short_of_text : (E : Type 0) (text : Text) (read : Option ℕ) → ReadsOne {T = ℕ} {E = E} (ParsesUnsigned 16 10) text read
    → read ≡ short_number text
short_of_text E text (Some n) is =
    let ds = without_leading_plus text in
    rw (lt-ltb 0 (length ds) is.0.0.0, digits_pass ds is.0.0.1, lt-ltb (digits_value 10 ds) 65536 is.0.1) (ap (λ (x : ℕ). Some x) is.1)
short_of_text E text None is = go (is_short (without_leading_plus text)) refl
  where
    go : (b : Bool) → is_short (without_leading_plus text) ≡ b → None ≡ short_number text
    go false fails = rw fails refl
    go true holds =
        let outer = both _ _ holds in
        let inner = both _ _ outer.0 in
        absurd (is.1 ((ltb-true _ _ inner.0, digits_from (without_leading_plus text) inner.1), ltb-true _ _ outer.1))

-- a text that is read as a number of 16 bits names a site, and one that is not names none
pub site_read : (E : Type 0) (text : Text) (r : Result ℕ E) (n : ℕ) → ParsesUnsigned 16 10 text r → r ≡ Ok n → site_of text ≡ n ∷ []
site_read E text r n parsed is =
    let read : Some n ≡ short_number text = short_of_text E text (Some n) (subst (λ (x : Result ℕ E). ParsesUnsigned 16 10 text x) is parsed) in
    ap (λ (o : Option ℕ). option_map_or (λ k. k ∷ []) o []) (sym read)

pub site_unread : (E : Type 0) (text : Text) (r : Result ℕ E) (e : E) → ParsesUnsigned 16 10 text r → r ≡ Err e → site_of text ≡ []
site_unread E text r e parsed is =
    let unread : None ≡ short_number text = short_of_text E text None (e, subst (λ (x : Result ℕ E). ParsesUnsigned 16 10 text x) is parsed) in
    ap (λ (o : Option ℕ). option_map_or (λ k. k ∷ []) o []) (sym unread)

-- reading by a stronger rule is reading
reads_by : (E : Type 0) (G H : Text → Result ℕ E → Type 0) (text : Text) (read : Option ℕ)
    → ((r : Result ℕ E) → G text r → H text r) → ReadsOne G text read → ReadsOne H text read
reads_by E G H text (Some n) weaker is = weaker (Ok n) is
reads_by E G H text None weaker is = (is.0, weaker (Err is.0) is.1)

-- a number is what its text says, if it has one
pub short_read : (E : Type 0) (G : Text → Result ℕ E → Type 0) (text : Option Text) (read : Option ℕ)
    → ((t : Text) (r : Result ℕ E) → G t r → ParsesUnsigned 16 10 t r) → (text ≡ None → read ≡ None)
    → ((t : Text) → text ≡ Some t → ReadsOne G t read) → read ≡ option_and_then short_number text
short_read E G None read weaker none some = none refl
short_read E G (Some t) read weaker none some =
    short_of_text E t read (reads_by E G (ParsesUnsigned 16 10) t read (weaker t) (some t refl))
