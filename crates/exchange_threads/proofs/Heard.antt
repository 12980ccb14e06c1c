-- What the texts and turns of an inbox leave, one after another.
use Rattle.std.proofs.Common.{◌≡◌, ℕ, ◌+◌, ◌≤◌, ◌⊎◌, inl, inr, Bool, true, false, cond, List, [], ◌∷◌, ◌++◌, Option, Some, None, length, refl, sym, ap, subst, ◌∙◌, arith, append_assoc, append-nil, length-append}
use Rattle.std.proofs.lemmas.List.Elements.{All-nil, All-cons, All-append}
use Rattle.std.proofs.lemmas.List.Sums.{sum_by-append, sum_by-cons}
use Rattle.std.specs.Prelude.{count_by, sum_by, if◌then◌else◌, ◌||◌, Err, is_some}
use Rattle.merge_core.specs.Delta.{DeltaState}
use Rattle.admission_model.specs.declared.ask.Call.{Call}
use Rattle.admission_model.specs.declared.ask.Call.TheVariants.{Merge}
use Rattle.admission_model.specs.declared.reply.Refusal.TheVariants.{Memory, Frozen, LogFull}
use Rattle.admission_model.specs.declared.reply.Reply.{Reply}
use Rattle.admission_model.specs.declared.reply.Reply.TheVariants.{Refused}
use Rattle.delta_codec.specs.declared.fault.DecodeError.{DecodeError}
use Rattle.delta_codec.specs.DeltaText.{delta_text}
use Rattle.delta_codec.specs.Decodes.{Decodes}
use Rattle.session_book.specs.declared.pass.Receipt.{Receipt}
use Rattle.session_book.specs.Passes.{PassState, pass_after}
use Rattle.exchange_threads.specs.declared.names.RefusalName.{RefusalName}
use Rattle.exchange_threads.specs.declared.report.InReport.{InReport}
use Rattle.exchange_threads.specs.declared.turn.Turn.{Turn}
use Rattle.exchange_threads.specs.declared.turn.Turn.TheVariants.{GoesOn, IsOver, EndsRun}
use Rattle.exchange_threads.specs.Names.{unread_name, merge_name}
use Rattle.session_book.specs.Following.{most_raised}
use Rattle.exchange_threads.specs.Counts.{count_name, count_names, count_total}
use Rattle.exchange_threads.specs.Turns.{turn_after, stops_at, lacks_at, IsMarked}
use Rattle.exchange_threads.specs.Inbox.{Fate, heard, unread, lacking, Taken, IsTaken, is_lacking, receipts_from, texts_from, names_from, name_list, raise_of, raised_by, IsInReason, HearsText, HasHeard, IsInAt, CountsTurn, TellsMerge, TellsUnread}
use Rattle.exchange_threads.proofs.Replies.{IsPlain, reply_kind}
use Rattle.exchange_threads.proofs.Counting.{total_noted}

count_one : {X : Type 0} (p : X → Bool) (x : X) → count_by p (x ∷ []) ≡ cond (p x) 1 0
count_one p x = omega (arith, sum_by-cons (λ y. cond (p y) 1 0) x [])

count_append : {X : Type 0} (p : X → Bool) (xs ys : List X) → count_by p (xs ++ ys) ≡ count_by p xs + count_by p ys
count_append p xs ys = sum_by-append (λ y. cond (p y) 1 0) xs ys

or_true : (b : Bool) → (b || true) ≡ true
or_true true = refl
or_true false = refl

receipts_append : (xs ys : List Taken) → receipts_from (xs ++ ys) ≡ receipts_from xs ++ receipts_from ys
receipts_append [] ys = refl
receipts_append (x ∷ xs) ys = at x.fate (receipts_append xs ys)
  where
    at : (f : Fate) → receipts_from (xs ++ ys) ≡ receipts_from xs ++ receipts_from ys → receipts_from (record { text = x.text; fate = f } ∷ (xs ++ ys)) ≡ receipts_from (record { text = x.text; fate = f } ∷ xs) ++ receipts_from ys
    at (heard d reply) rest = ap (λ (rs : List Receipt). record { call = Merge d; reply = reply } ∷ rs) rest
    at (unread e name) rest = rest
    at lacking rest = rest

texts_append : (xs ys : List Taken) → texts_from (xs ++ ys) ≡ texts_from xs ++ texts_from ys
texts_append [] ys = refl
texts_append (x ∷ xs) ys = ap (λ (ts : List (List ℕ)). x.text ∷ ts) (texts_append xs ys)

names_append : (xs ys : List Taken) → names_from (xs ++ ys) ≡ names_from xs ++ names_from ys
names_append [] ys = refl
names_append (x ∷ xs) ys = at x.fate (names_append xs ys)
  where
    one : (o : Option RefusalName) → names_from (xs ++ ys) ≡ names_from xs ++ names_from ys → name_list o ++ names_from (xs ++ ys) ≡ (name_list o ++ names_from xs) ++ names_from ys
    one None rest = rest
    one (Some name) rest = ap (λ (ns : List RefusalName). name ∷ ns) rest

    at : (f : Fate) → names_from (xs ++ ys) ≡ names_from xs ++ names_from ys → names_from (record { text = x.text; fate = f } ∷ (xs ++ ys)) ≡ names_from (record { text = x.text; fate = f } ∷ xs) ++ names_from ys
    at (heard d reply) rest = one (merge_name reply) rest
    at (unread e name) rest = ap (λ (ns : List RefusalName). name ∷ ns) rest
    at lacking rest = rest

count_names_append : (es : List (RefusalName × ℕ)) (xs ys : List RefusalName) → count_names es (xs ++ ys) ≡ count_names (count_names es xs) ys
count_names_append es [] ys = refl
count_names_append es (x ∷ xs) ys = count_names_append (count_name es x) xs ys

-- no text was cut off where no turn ended the run
uncut : (turn : Turn) (p : PassState) (cut : List (List ℕ)) → stops_at turn ≡ 0 → IsInReason turn p cut → cut ≡ []
uncut GoesOn p cut goes_on why = why
uncut IsOver p cut goes_on why = why
uncut EndsRun p cut goes_on why = absurd (omega (arith, goes_on))

no_cut : (turn : Turn) (p : PassState) → IsInReason turn p []
no_cut GoesOn p = refl
no_cut IsOver p = refl
no_cut EndsRun p = inl refl

-- nothing was done
pub heard_same : (p : PassState) (before now : InReport) → now.taken ≡ before.taken → now.raised ≡ before.raised → now.refused.names ≡ before.refused.names → now.memory ≡ before.memory → HasHeard [] p p before now 0 GoesOn
heard_same p before now taken raised refused memory = record {
  takes = [];
  skipped = 0;
  cut = [];
  listed = refl;
  number = refl;
  grows = sym (append-nil p.receipts);
  each = All-nil IsTaken;
  taken = omega (arith, taken);
  raised = omega (arith, raised);
  refused = refused;
  memory = omega (arith, memory);
  begun = omega arith;
  why = refl;
}

-- no text was taken
pub heard_none : (p : PassState) (before now : InReport) (turn : Turn) (skipped : ℕ) → skipped + stops_at turn ≡ 1 → now.taken ≡ before.taken → now.raised ≡ before.raised → now.refused.names ≡ before.refused.names → now.memory ≡ before.memory + skipped → HasHeard [] p p before now 1 turn
heard_none p before now turn skipped one taken raised refused memory = record {
  takes = [];
  skipped = skipped;
  cut = [];
  listed = refl;
  number = refl;
  grows = sym (append-nil p.receipts);
  each = All-nil IsTaken;
  taken = omega (arith, taken);
  raised = omega (arith, raised);
  refused = refused;
  memory = omega (arith, memory);
  begun = omega (arith, one);
  why = no_cut turn p;
}

-- one text was taken
heard_one : (old new : PassState) (t : Taken) (before now : InReport) (turn : Turn) → stops_at turn ≡ 0 → new.number ≡ old.number → new.receipts ≡ old.receipts ++ receipts_from (t ∷ []) → IsTaken t → now.taken ≡ before.taken + 1 → now.raised ≡ before.raised + sum_by raised_by (receipts_from (t ∷ []))
    → now.refused.names ≡ count_names before.refused.names (names_from (t ∷ [])) → now.memory ≡ before.memory + cond (is_lacking t) 1 0 → HasHeard (t.text ∷ []) old new before now 1 turn
heard_one old new t before now turn goes_on number grows kind taken raised refused memory = record {
  takes = t ∷ [];
  skipped = 0;
  cut = [];
  listed = refl;
  number = number;
  grows = grows;
  each = All-cons IsTaken t [] kind (All-nil IsTaken);
  taken = taken;
  raised = raised;
  refused = refused;
  memory = omega (arith, memory, count_one is_lacking t);
  begun = omega (arith, goes_on);
  why = no_cut turn new;
}

-- one text was taken, which ended the run
heard_last : (text : List ℕ) (old new : PassState) (before now : InReport) → new.number ≡ old.number → new.receipts ≡ old.receipts → now.taken ≡ before.taken + 1 → now.raised ≡ before.raised → now.refused.names ≡ before.refused.names → now.memory ≡ before.memory → IsMarked new → HasHeard (text ∷ []) old new before now 1 EndsRun
heard_last text old new before now number grows taken raised refused memory marked = record {
  takes = [];
  skipped = 0;
  cut = text ∷ [];
  listed = refl;
  number = number;
  grows = grows ∙ sym (append-nil old.receipts);
  each = All-nil IsTaken;
  taken = taken;
  raised = omega (arith, raised);
  refused = refused;
  memory = omega (arith, memory);
  begun = omega arith;
  why = inr (refl, marked);
}

-- turns after turns of which none ended the run
pub heard_both : {ts us : List (List ℕ)} (a b c : PassState) (r s t : InReport) (m n : ℕ) (x y : Turn) → stops_at x ≡ 0 → HasHeard ts a b r s m x → HasHeard us b c s t n y → HasHeard (ts ++ us) a c r t (m + n) y
heard_both {ts} {us} a b c r s t m n x y goes_on first second = record {
  takes = first.takes ++ second.takes;
  skipped = first.skipped + second.skipped;
  cut = second.cut;
  listed =
      ap (λ (xs : List (List ℕ)). xs ++ us) (first.listed ∙ (ap (λ (xs : List (List ℕ)). texts_from first.takes ++ xs) (uncut x b first.cut goes_on first.why) ∙ append-nil (texts_from first.takes)))
      ∙ (ap (λ (xs : List (List ℕ)). texts_from first.takes ++ xs) second.listed
      ∙ (sym (append_assoc (texts_from first.takes) (texts_from second.takes) second.cut)
      ∙ ap (λ (xs : List (List ℕ)). xs ++ second.cut) (sym (texts_append first.takes second.takes))));
  number = second.number ∙ first.number;
  grows =
      second.grows
      ∙ (ap (λ (xs : List Receipt). xs ++ receipts_from second.takes) first.grows
      ∙ (append_assoc a.receipts (receipts_from first.takes) (receipts_from second.takes)
      ∙ ap (λ (xs : List Receipt). a.receipts ++ xs) (sym (receipts_append first.takes second.takes))));
  each = All-append IsTaken first.takes second.takes first.each second.each;
  taken = omega (arith, first.taken, second.taken, length-append ts us);
  raised = omega (arith, first.raised, second.raised, ap (sum_by raised_by) (receipts_append first.takes second.takes), sum_by-append raised_by (receipts_from first.takes) (receipts_from second.takes));
  refused =
      second.refused
      ∙ (ap (λ (es : List (RefusalName × ℕ)). count_names es (names_from second.takes)) first.refused
      ∙ (sym (count_names_append r.refused.names (names_from first.takes) (names_from second.takes))
      ∙ ap (count_names r.refused.names) (sym (names_append first.takes second.takes))));
  memory = omega (arith, first.memory, second.memory, count_append is_lacking first.takes second.takes);
  begun = omega (arith, goes_on, first.begun, second.begun, length-append first.takes second.takes);
  why = second.why;
}

-- the report with a text that was taken, before anything else is told of it
pub record TakesText (before mid : InReport) : Type 0 where
  pub taken : mid.taken ≡ before.taken + 1
  pub raised : mid.raised ≡ before.raised
  pub refused : mid.refused.names ≡ before.refused.names
  pub memory : mid.memory ≡ before.memory

-- a text was taken whose delta was handed to the site
heard_merge : (old : PassState) (d : DeltaState) (text : List ℕ) (reply : Reply) (before mid now : InReport) → text ≡ delta_text d → TakesText before mid → TellsMerge mid now reply → HasHeard (text ∷ []) old (pass_after old (Merge d) reply) before now 1 (turn_after reply)
heard_merge old d text reply before mid now is_text takes tells = by_kind (reply_kind reply)
  where
    call : Call
    call = Merge d

    t : Taken
    t = record { text = text; fate = heard d reply }

    Goal : Reply → Type 0
    Goal x = TellsMerge mid now x → HasHeard (text ∷ []) old (pass_after old call x) before now 1 (turn_after x)

    names : names_from (t ∷ []) ≡ name_list (merge_name reply)
    names = append-nil (name_list (merge_name reply))

    raised : sum_by raised_by (receipts_from (t ∷ [])) ≡ raise_of reply
    raised = omega (arith, sum_by-cons raised_by (record { call = call; reply = reply }) [])

    plain : IsPlain reply → HasHeard (text ∷ []) old (pass_after old call reply) before now 1 (turn_after reply)
    plain is =
        heard_one old (pass_after old call reply) t before now (turn_after reply) (ap stops_at is.turn) refl
        (ap (λ (b : Bool). if b then old.receipts ++ record { call = call; reply = reply } ∷ [] else old.receipts) is.logged)
        (is_text, is.logged)
        (omega (arith, takes.taken, tells.taken))
        (omega (arith, takes.raised, tells.raised, raised))
        (tells.refused ∙ (ap (λ (es : List (RefusalName × ℕ)). count_names es (name_list (merge_name reply))) takes.refused ∙ ap (count_names before.refused.names) (sym names)))
        (omega (arith, takes.memory, tells.memory, ap lacks_at is.turn))

    by_kind : IsPlain reply ⊎ ((reply ≡ Refused Memory) ⊎ ((reply ≡ Refused Frozen) ⊎ (reply ≡ Refused LogFull))) → HasHeard (text ∷ []) old (pass_after old call reply) before now 1 (turn_after reply)
    by_kind (inl is) = plain is
    by_kind (inr (inl is)) = subst Goal (sym is) (λ (told : TellsMerge mid now (Refused Memory)).
        heard_one old (pass_after old call (Refused Memory)) (record { text = text; fate = lacking }) before now IsOver refl refl (sym (append-nil old.receipts)) tt
        (omega (arith, takes.taken, told.taken)) (omega (arith, takes.raised, told.raised)) (told.refused ∙ takes.refused) (omega (arith, takes.memory, told.memory))) tells
    by_kind (inr (inr (inl is))) = subst Goal (sym is) (λ (told : TellsMerge mid now (Refused Frozen)).
        heard_last text old (pass_after old call (Refused Frozen)) before now refl refl
        (omega (arith, takes.taken, told.taken)) (omega (arith, takes.raised, told.raised)) (told.refused ∙ takes.refused) (omega (arith, takes.memory, told.memory)) (inl (or_true old.frozen))) tells
    by_kind (inr (inr (inr is))) = subst Goal (sym is) (λ (told : TellsMerge mid now (Refused LogFull)).
        heard_last text old (pass_after old call (Refused LogFull)) before now refl refl
        (omega (arith, takes.taken, told.taken)) (omega (arith, takes.raised, told.raised)) (told.refused ∙ takes.refused) (omega (arith, takes.memory, told.memory)) (inr (or_true old.log_full))) tells

-- a text was taken that is no delta's
heard_unread : (p : PassState) (text : List ℕ) (e : DecodeError) (before mid now : InReport) → Decodes text (Err e) → TakesText before mid → TellsUnread mid now e → HasHeard (text ∷ []) p p before now 1 GoesOn
heard_unread p text e before mid now decodes takes tells = at (unread_name e) refl
  where
    named : (name : RefusalName) → unread_name e ≡ Some name → HasHeard (text ∷ []) p p before now 1 GoesOn
    named name is =
        heard_one p p (record { text = text; fate = unread e name }) before now GoesOn refl refl (sym (append-nil p.receipts)) (decodes, is)
        (omega (arith, takes.taken, tells.taken)) (omega (arith, takes.raised, tells.raised))
        (tells.refused ∙ (ap (λ (es : List (RefusalName × ℕ)). count_names es (name_list (unread_name e))) takes.refused ∙ ap (λ (o : Option RefusalName). count_names before.refused.names (name_list o)) is))
        (omega (arith, takes.memory, tells.memory, ap {B = ℕ} (λ (o : Option RefusalName). if is_some o then 0 else 1) is))

    lacked : unread_name e ≡ None → HasHeard (text ∷ []) p p before now 1 GoesOn
    lacked is =
        heard_one p p (record { text = text; fate = lacking }) before now GoesOn refl refl (sym (append-nil p.receipts)) tt
        (omega (arith, takes.taken, tells.taken)) (omega (arith, takes.raised, tells.raised))
        (tells.refused ∙ (ap (λ (es : List (RefusalName × ℕ)). count_names es (name_list (unread_name e))) takes.refused ∙ ap (λ (o : Option RefusalName). count_names before.refused.names (name_list o)) is))
        (omega (arith, takes.memory, tells.memory, ap {B = ℕ} (λ (o : Option RefusalName). if is_some o then 0 else 1) is))

    at : (o : Option RefusalName) → unread_name e ≡ o → HasHeard (text ∷ []) p p before now 1 GoesOn
    at None is = lacked is
    at (Some name) is = named name is

-- what came of a text, where room for a name was made before
pub heard_text : (text : List ℕ) (old new : PassState) (before mid now : InReport) (turn : Turn) → mid.taken ≡ before.taken → mid.raised ≡ before.raised → mid.refused.names ≡ before.refused.names → mid.memory ≡ before.memory
    → HearsText text old new mid now turn → HasHeard (text ∷ []) old new before now 1 turn
heard_text text old new before mid now turn taken raised refused memory hears = by_kind hears
  where
    takes : TakesText before (record mid { taken = mid.taken + 1 })
    takes = record { taken = omega (arith, taken); raised = raised; refused = refused; memory = memory }

    by_kind : HearsText text old new mid now turn → HasHeard (text ∷ []) old new before now 1 turn
    by_kind (inl is) =
        subst (λ (x : Turn). HasHeard (text ∷ []) old new before now 1 x) (sym is.went)
        (subst (λ (x : PassState). HasHeard (text ∷ []) old x before now 1 (turn_after is.reply)) (sym is.pass)
        (heard_merge old is.delta text is.reply before (record mid { taken = mid.taken + 1 }) now is.read takes is.tells))
    by_kind (inr is) =
        subst (λ (x : Turn). HasHeard (text ∷ []) old new before now 1 x) (sym is.went)
        (subst (λ (x : PassState). HasHeard (text ∷ []) old x before now 1 GoesOn) (sym is.pass)
        (heard_unread old text is.error before (record mid { taken = mid.taken + 1 }) now is.read takes is.tells))

few_names : (o : Option RefusalName) → length (name_list o) ≤ 1
few_names None = omega arith
few_names (Some name) = omega arith

-- a reply to a merge has a name, or tells of want of memory, or neither
one_note : (reply : Reply) → length (name_list (merge_name reply)) + lacks_at (turn_after reply) ≤ 1
one_note reply = by_kind (reply_kind reply)
  where
    Goal : Reply → Type 0
    Goal x = length (name_list (merge_name x)) + lacks_at (turn_after x) ≤ 1

    by_kind : IsPlain reply ⊎ ((reply ≡ Refused Memory) ⊎ ((reply ≡ Refused Frozen) ⊎ (reply ≡ Refused LogFull))) → Goal reply
    by_kind (inl is) = omega (arith, few_names (merge_name reply), ap lacks_at is.turn)
    by_kind (inr (inl is)) = subst Goal (sym is) (omega arith)
    by_kind (inr (inr (inl is))) = subst Goal (sym is) (omega arith)
    by_kind (inr (inr (inr is))) = subst Goal (sym is) (omega arith)

-- so does a text that is no delta's
one_fault : (o : Option RefusalName) → length (name_list o) + (if is_some o then 0 else 1) ≤ 1
one_fault None = omega arith
one_fault (Some name) = omega arith

-- a merge counts at most once
pub counts_merge : (reply : Reply) (before mid now : InReport) → raise_of reply ≤ most_raised → TakesText before mid → TellsMerge mid now reply → CountsTurn before now
counts_merge reply before mid now few takes tells = record {
  taken = omega (arith, takes.taken, tells.taken);
  raised = omega (arith, takes.raised, tells.raised, few);
  noted = omega (arith, takes.memory, tells.memory, ap count_total tells.refused, ap count_total takes.refused, total_noted mid.refused.names (merge_name reply), one_note reply);
}

-- so does a text that is no delta's
pub counts_unread : (e : DecodeError) (before mid now : InReport) → TakesText before mid → TellsUnread mid now e → CountsTurn before now
counts_unread e before mid now takes tells = record {
  taken = omega (arith, takes.taken, tells.taken);
  raised = omega (arith, takes.raised, tells.raised);
  noted = omega (arith, takes.memory, tells.memory, ap count_total tells.refused, ap count_total takes.refused, total_noted mid.refused.names (unread_name e), one_fault (unread_name e));
}

-- the report after one turn more
pub counted_on : (t : ℕ) (before now : InReport) → IsInAt t before → CountsTurn before now → IsInAt (t + 1) now
counted_on t before now at counts = record {
  taken = omega (arith, at.taken, counts.taken);
  raised = omega (arith, at.raised, counts.raised);
  noted = omega (arith, at.noted, counts.noted);
}

-- a turn that did not end the run is like any other
pub heard_on : {ts : List (List ℕ)} (a b : PassState) (r s : InReport) (n : ℕ) (turn : Turn) → (turn ≡ EndsRun → ⊥) → HasHeard ts a b r s n turn → HasHeard ts a b r s n GoesOn
heard_on a b r s n GoesOn other told = told
heard_on a b r s n IsOver other told = record {
  takes = told.takes;
  skipped = told.skipped;
  cut = told.cut;
  listed = told.listed;
  number = told.number;
  grows = told.grows;
  each = told.each;
  taken = told.taken;
  raised = told.raised;
  refused = told.refused;
  memory = told.memory;
  begun = told.begun;
  why = told.why;
}
heard_on a b r s n EndsRun other told = absurd (other refl)

-- the same of more turns
pub in_at_more : (t u : ℕ) (r : InReport) → t ≤ u → IsInAt t r → IsInAt u r
in_at_more t u r more at = record {
  taken = omega (arith, more, at.taken);
  raised = omega (arith, more, at.raised);
  noted = omega (arith, more, at.noted);
}
