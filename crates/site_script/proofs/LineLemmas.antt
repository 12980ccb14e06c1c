-- One line more of a script.
use Rattle.std.proofs.Common.{◌≡◌, ℕ, ◌+◌, ◌⊎◌, inl, inr, Bool, true, false, Option, Some, Result, Ok, Err, List, [], ◌∷◌, ◌++◌, sym, ap, subst, ◌∙◌, append_assoc, append-nil, length-append}
use Rattle.std.proofs.lemmas.Bool.{cases_Bool}
use Rattle.std.specs.List.{AllByRecursion}
use Rattle.std.specs.Result.{IfErr}
use Rattle.merge_core.specs.Layout.{LayoutState}
use Rattle.merge_core.specs.declared.layout.RecordSpec.{RecordSpec}
use Rattle.admission_model.specs.declared.ask.Call.{Call}
use Rattle.admission_model.specs.Account.{Account}
use Rattle.text_input.specs.Lines.{lines_of}
use Rattle.script_text.specs.Replies.{unread_line}
use Rattle.desk_log.specs.declared.entry.Entry.{Entry}
use Rattle.desk_log.specs.Desk.{DeskState, account_of, account_if_kept, is_frozen}
use Rattle.delta_codec.specs.declared.fault.DecodeError.{DecodeError}
use Rattle.site_script.specs.declared.lines.Said.{Said}
use Rattle.site_script.specs.declared.lines.Said.TheVariants.{Asked, Unread}
use Rattle.site_script.specs.Lines.{Says}
use Rattle.site_script.specs.Served.{no_delta_line, AreSaid, AnswersAll, AnswersUpTo, Answers, IsServed, IsStopped, Serves, ServesFront, Stops, StaysStopped, frozen_answers, places_of, SameOpening, Grows}
use Rattle.site_script.specs.Steps.{AnsweredAs, HasAnswered, AnsweredFrom, AnsweredSoFar, AnswersLine, AnswersNone, AnswersOne, LosesCall, LosesLine}
use Rattle.site_script.proofs.StepLemmas.{unread_from}

-- one line more that says something
said_more : (records : List RecordSpec) (lines : List (List ℕ)) (all : List Said) (line : List ℕ) (said : Said) → AreSaid records lines all → Says records line (Some said) → AreSaid records (lines ++ line ∷ []) (all ++ said ∷ [])
said_more records [] [] line said are says = (says, tt)
said_more records (l ∷ lines) (s ∷ all) line said are says = (are.0, said_more records lines all line said are.1 says)
said_more records [] (s ∷ all) line said are says = absurd are
said_more records (l ∷ lines) [] line said are says = absurd are

-- a line that says something
pub line_answered : (A B : List Said → List ℕ → Type 0) (records : List RecordSpec) (lines behind : List (List ℕ)) (line : List ℕ) (number : ℕ) (old new : List ℕ)
    → AnsweredSoFar A records lines (line ∷ behind) number old → AnswersLine A B records line old new → AnsweredSoFar B records lines behind (number + 1) new
line_answered A B records lines behind line number old new so_far one = record {
  before = so_far.before ++ line ∷ [];
  split = so_far.split ∙ sym (append_assoc so_far.before (line ∷ []) behind);
  counted = length-append so_far.before (line ∷ []) ∙ ap (λ (n : ℕ). n + 1) so_far.counted;
  answers = record {
    said = so_far.answers.said ++ one.said ∷ [];
    read = said_more records so_far.before so_far.answers.said line one.said so_far.answers.read one.read;
    answered = one.answered so_far.answers.said so_far.answers.answered;
  };
}

-- a line that says nothing
pub line_unread : (A B : List Said → List ℕ → Type 0) (records : List RecordSpec) (lines behind : List (List ℕ)) (line : List ℕ) (number : ℕ) (old new : List ℕ)
    → AnsweredSoFar A records lines (line ∷ behind) number old → AnswersNone A B records line (number + 1) old new → AnswersUpTo B records lines new
line_unread A B records lines behind line number old new so_far none = record {
  before = so_far.before;
  line = line;
  behind = behind;
  split = so_far.split;
  unread = none.unread;
  some = old;
  answers = record { said = so_far.answers.said; read = so_far.answers.read; answered = none.still so_far.answers.said so_far.answers.answered };
  text_is = none.text_is ∙ ap (λ (n : ℕ). old ++ unread_line (n + 1)) (sym so_far.counted);
}

-- what holds of the answers may be told in part
answers_weaker : (A B : List Said → List ℕ → Type 0) (records : List RecordSpec) (lines : List (List ℕ)) (text : List ℕ) → ((said : List Said) (t : List ℕ) → A said t → B said t) → AnswersAll A records lines text → AnswersAll B records lines text
answers_weaker A B records lines text weaker all = record { said = all.said; read = all.read; answered = weaker all.said text all.answered }

weaker : (A B : List Said → List ℕ → Type 0) (records : List RecordSpec) (lines : List (List ℕ)) (whole : Bool) (text : List ℕ) → ((said : List Said) (t : List ℕ) → A said t → B said t) → Answers A records lines whole text → Answers B records lines whole text
weaker A B records lines true text so all = answers_weaker A B records lines text so all
weaker A B records lines false text so to = record {
  before = to.before;
  line = to.line;
  behind = to.behind;
  split = to.split;
  unread = to.unread;
  some = to.some;
  answers = answers_weaker A B records to.before to.some so to.answers;
  text_is = to.text_is;
}

-- a desk that still serves, one that has stopped, and one that had stopped before
module _ {K : Type 0} (was : Bool) (a : Account) (left : ℕ) (d : DeskState K) (records : List RecordSpec) (lines : List (List ℕ)) (whole : Bool) (text : List ℕ) (all : Answers (AnsweredFrom was a left d) records lines whole text) where
  begun : (b : Bool) → was ≡ b → Answers (AnsweredFrom b a left d) records lines whole text
  begun b is = subst (λ (c : Bool). Answers (AnsweredFrom c a left d) records lines whole text) is all

  pub all_served : was ≡ false → is_frozen d ≡ false → Serves a left records lines whole text (account_of d)
  all_served ran runs =
      weaker (HasAnswered a left d) (IsServed a left (account_of d)) records lines whole text
      (λ said t has. (subst (λ (b : Bool). AnsweredAs b a left (account_of d) (account_if_kept d) (places_of d) said t) runs has).0)
      (begun false ran)

  pub all_stopped : was ≡ false → is_frozen d ≡ true → Stops a left records lines whole text (account_of d) (account_if_kept d)
  all_stopped ran frozen =
      weaker (HasAnswered a left d) (IsStopped a left (account_of d) (account_if_kept d)) records lines whole text
      (λ said t has. subst (λ (b : Bool). AnsweredAs b a left (account_of d) (account_if_kept d) (places_of d) said t) frozen has)
      (begun false ran)

  pub all_frozen : was ≡ true → StaysStopped records lines whole text
  all_frozen stood =
      weaker (AnsweredFrom true a left d) (λ said t. t ≡ frozen_answers said) records lines whole text (λ said t has. has.1) (begun true stood)

-- desks of one opening
pub opening_kept : {K : Type 0} (c d e : DeskState K) → SameOpening c d → SameOpening d e → SameOpening c e
opening_kept c d e first second = record {
  layout = second.layout ∙ first.layout;
  site = second.site ∙ first.site;
  opened = second.opened ∙ first.opened;
  first = second.first ∙ first.first;
  limit = second.limit ∙ first.limit;
}

-- a line with a text that is no delta's
pub line_of_no_delta : {K : Type 0} (d : DeskState K) (records : List RecordSpec) (line : List ℕ) (read : Option Said) (said : Said) (e : DecodeError) (old new : List ℕ)
    → Says records line read → read ≡ Some said → said ≡ Unread e → new ≡ old ++ no_delta_line e
    → (was : Bool) (a : Account) (left : ℕ) → AnswersLine (AnsweredFrom was a left d) (AnsweredFrom was a left d) records line old new
line_of_no_delta d records line read said e old new says is unread text was a left = record {
  said = Unread e;
  read = subst (λ (o : Option Said). Says records line o) (is ∙ ap Some unread) says;
  answered = λ before has. subst (λ (t : List ℕ). AnsweredFrom was a left d (before ++ Unread e ∷ []) t) (sym text) (unread_from was a left d before old e has);
}

-- one line of a script that began at desk s and has come to desk d
module _ {K : Type 0} (s d e : DeskState K) (lines : List (List ℕ)) (rest line tail : List ℕ) (number : ℕ) (old new : List ℕ) (read : Bool)
    (so_far : AnsweredSoFar (AnsweredFrom (is_frozen s) (account_of s) (places_of s) d) s.core.layout.records lines (lines_of rest) number old)
    (same : d.core.layout ≡ s.core.layout) (cut : lines_of rest ≡ line ∷ lines_of tail)
    (one : (was : Bool) (a : Account) (left : ℕ) → AnswersOne (AnsweredFrom was a left d) (AnsweredFrom was a left e) d.core.layout.records line (number + 1) read old new) where
  abbrev Before : List Said → List ℕ → Type 0
  Before = AnsweredFrom (is_frozen s) (account_of s) (places_of s) d

  abbrev Behind : List Said → List ℕ → Type 0
  Behind = AnsweredFrom (is_frozen s) (account_of s) (places_of s) e

  come : AnsweredSoFar Before s.core.layout.records lines (line ∷ lines_of tail) number old
  come = subst (λ (ls : List (List ℕ)). AnsweredSoFar Before s.core.layout.records lines ls number old) cut so_far

  this : (b : Bool) → read ≡ b → AnswersOne Before Behind s.core.layout.records line (number + 1) b old new
  this b is =
      subst (λ (l : LayoutState). AnswersOne Before Behind l.records line (number + 1) b old new) same
      (subst (λ (c : Bool). AnswersOne Before Behind d.core.layout.records line (number + 1) c old new) is (one (is_frozen s) (account_of s) (places_of s)))

  pub line_read : read ≡ true → AnsweredSoFar Behind s.core.layout.records lines (lines_of tail) (number + 1) new
  line_read is = line_answered Before Behind s.core.layout.records lines (lines_of tail) line number old new come (this true is)

  pub line_not_read : read ≡ false → AnswersUpTo Behind s.core.layout.records lines new
  line_not_read is = line_unread Before Behind s.core.layout.records lines (lines_of tail) line number old new come (this false is)

-- a desk that had stopped before is as it was
pub stays_on : {K : Type 0} (s d e : DeskState K) → (is_frozen s ≡ true → d ≡ s) → (is_frozen d ≡ true → e ≡ d) → is_frozen s ≡ true → e ≡ s
stays_on s d e first second frozen = second (ap is_frozen (first frozen) ∙ frozen) ∙ first frozen

both_of : (pass : ℕ) (es fs : List Entry) → AllByRecursion (λ (e : Entry). e.pass ≡ pass) es → AllByRecursion (λ (e : Entry). e.pass ≡ pass) fs → AllByRecursion (λ (e : Entry). e.pass ≡ pass) (es ++ fs)
both_of pass [] fs these those = those
both_of pass (e ∷ es) fs these those = (these.0, both_of pass es fs these.1 those)

-- one that grows twice has grown by both
pub grows_on : {K : Type 0} (pass : ℕ) (c d e : DeskState K) → Grows pass c d → Grows pass d e → Grows pass c e
grows_on pass c d e first second = record {
  more = first.more ++ second.more;
  grown = second.grown ∙ (ap (λ (es : List Entry). es ++ second.more) first.grown ∙ append_assoc c.log.entries first.more second.more);
  of_pass = both_of pass first.more second.more first.of_pass second.of_pass;
}

-- what holds whatever the error is
pub if_err : {T E : Type 0} (Q : Type 0) (r : Result T E) → Q → IfErr r (λ _. Q)
if_err Q (Ok x) q = tt
if_err Q (Err e) q = q

-- a line whose call's answer was lost
pub line_of_lost : (A B : List Said → List ℕ → Type 0) (records : List RecordSpec) (line old : List ℕ) (call : Call) → Says records line (Some (Asked call)) → LosesCall A B call old → LosesLine A B records line old
line_of_lost A B records line old call says (inl same) = inl same
line_of_lost A B records line old call says (inr (new, one)) = inr (new, record { said = Asked call; read = says; answered = one })

-- what a desk has served is some of the first lines
front_of : {K : Type 0} (s e : DeskState K) (lines rest : List (List ℕ)) (number : ℕ) (text : List ℕ) → is_frozen s ≡ false
    → AnsweredSoFar (AnsweredFrom (is_frozen s) (account_of s) (places_of s) e) s.core.layout.records lines rest number text → ServesFront s e lines
front_of s e lines rest number text ran so_far = record {
  front = so_far.before;
  behind = rest;
  split = so_far.split;
  text = text;
  served = λ runs. all_served (is_frozen s) (account_of s) (places_of s) e s.core.layout.records so_far.before true text so_far.answers ran runs;
  stopped = λ frozen. all_stopped (is_frozen s) (account_of s) (places_of s) e s.core.layout.records so_far.before true text so_far.answers ran frozen;
}

-- a script that ended at a line whose answer was lost
pub line_lost : {K : Type 0} (s d e : DeskState K) (lines : List (List ℕ)) (rest line tail : List ℕ) (number : ℕ) (old : List ℕ)
    → AnsweredSoFar (AnsweredFrom (is_frozen s) (account_of s) (places_of s) d) s.core.layout.records lines (lines_of rest) number old
    → d.core.layout ≡ s.core.layout → lines_of rest ≡ line ∷ lines_of tail
    → ((was : Bool) (a : Account) (left : ℕ) → LosesLine (AnsweredFrom was a left d) (AnsweredFrom was a left e) d.core.layout.records line old)
    → is_frozen s ≡ false → ServesFront s e lines
line_lost {K} s d e lines rest line tail number old so_far same cut lost ran = at this
  where
    Before : List Said → List ℕ → Type 0
    Before = AnsweredFrom (is_frozen s) (account_of s) (places_of s) d

    Behind : List Said → List ℕ → Type 0
    Behind = AnsweredFrom (is_frozen s) (account_of s) (places_of s) e

    come : AnsweredSoFar Before s.core.layout.records lines (line ∷ lines_of tail) number old
    come = subst (λ (ls : List (List ℕ)). AnsweredSoFar Before s.core.layout.records lines ls number old) cut so_far

    this : LosesLine Before Behind s.core.layout.records line old
    this = subst (λ (l : LayoutState). LosesLine Before Behind l.records line old) same (lost (is_frozen s) (account_of s) (places_of s))

    at : LosesLine Before Behind s.core.layout.records line old → ServesFront s e lines
    at (inl stays) =
        front_of s e lines (line ∷ lines_of tail) number old ran
        (record {
          before = come.before;
          split = come.split;
          counted = come.counted;
          answers = record { said = come.answers.said; read = come.answers.read; answered = stays come.answers.said come.answers.answered };
        })
    at (inr (new, one)) =
        front_of s e lines (lines_of tail) (number + 1) new ran
        (line_answered Before Behind s.core.layout.records lines (lines_of tail) line number old new come one)

-- what was answered of a whole script, or of the lines before one that says nothing
pub front_answered : {K : Type 0} (s e : DeskState K) (lines : List (List ℕ)) (whole : Bool) (text : List ℕ)
    → (is_frozen e ≡ false → Serves (account_of s) (places_of s) s.core.layout.records lines whole text (account_of e))
    → (is_frozen e ≡ true → Stops (account_of s) (places_of s) s.core.layout.records lines whole text (account_of e) (account_if_kept e))
    → ServesFront s e lines
front_answered s e lines true text served stopped = record {
  front = lines;
  behind = [];
  split = sym (append-nil lines);
  text = text;
  served = served;
  stopped = stopped;
}
front_answered s e lines false text served stopped = at (cases_Bool (is_frozen e))
  where
    differ : true ≡ false → ⊥
    differ e = cc

    at : (is_frozen e ≡ true) ⊎ (is_frozen e ≡ false) → ServesFront s e lines
    at (inl frozen) =
        let to = stopped frozen in
        record {
          front = to.before;
          behind = to.line ∷ to.behind;
          split = to.split;
          text = to.some;
          served = λ runs. absurd (differ (sym frozen ∙ runs));
          stopped = λ _. to.answers;
        }
    at (inr runs) =
        let to = served runs in
        record {
          front = to.before;
          behind = to.line ∷ to.behind;
          split = to.split;
          text = to.some;
          served = λ _. to.answers;
          stopped = λ frozen. absurd (differ (sym frozen ∙ runs));
        }
