-- What the turns of an outbox leave, one after another.
use Rattle.std.proofs.Common.{◌≡◌, ℕ, ◌+◌, ◌≤◌, ◌⊎◌, inl, inr, Bool, true, false, cond, List, [], ◌∷◌, ◌++◌, Option, Some, None, length, refl, sym, ap, subst, ◌∙◌, arith, append_assoc, append-nil, length-append}
use Rattle.std.proofs.lemmas.List.Elements.{All-nil, All-cons, All-append}
use Rattle.std.proofs.lemmas.List.Sums.{sum_by-append, sum_by-cons}
use Rattle.std.specs.Prelude.{◌%◌, All, count_by, if◌then◌else◌, ◌||◌}
use Rattle.merge_core.specs.Delta.{DeltaState}
use Rattle.admission_model.specs.declared.ask.Ask.TheVariants.{Help}
use Rattle.admission_model.specs.declared.ask.Call.{Call}
use Rattle.admission_model.specs.declared.ask.Call.TheVariants.{Ask as AskCall, Snapshot as SnapshotCall}
use Rattle.admission_model.specs.declared.reply.Refusal.{Refusal}
use Rattle.admission_model.specs.declared.reply.Refusal.TheVariants.{Memory, Frozen, LogFull}
use Rattle.admission_model.specs.declared.reply.Reply.{Reply}
use Rattle.admission_model.specs.declared.reply.Reply.TheVariants.{Snapshot, Refused}
use Rattle.session_book.specs.Log.{is_logged}
use Rattle.session_book.specs.Following.{CanFollow}
use Rattle.session_book.specs.declared.pass.Receipt.{Receipt}
use Rattle.session_book.specs.Passes.{PassState, pass_after}
use Rattle.exchange_threads.specs.declared.report.OutReport.{OutReport}
use Rattle.exchange_threads.specs.declared.turn.Turn.{Turn}
use Rattle.exchange_threads.specs.declared.turn.Turn.TheVariants.{GoesOn, IsOver, EndsRun}
use Rattle.exchange_threads.specs.declared.telling.Telling.{Telling}
use Rattle.exchange_threads.specs.Turns.{turn_after, stops_at, lacks_at, IsMarked}
use Rattle.exchange_threads.specs.Outbox.{OutTurn, no_help, gate_shut, no_snapshot, no_text, text_sent, OutStop, at_help, at_snapshot, at_channel, help_receipt, shown_receipt, turn_receipts, stop_receipts, went_receipts, told_receipts, stops_in, stop_lost, is_sent_turn, is_lacking_turn, GateAtTurn, GateAtStop, GateOverTurns, is_snapshot, is_gift, IsTold, IsOutStop, HasTold, HasAsked, HasShown, IsShowing, after_help}
use Rattle.exchange_threads.proofs.Replies.{IsPlain, reply_kind, unshown_kind}

count_one : {X : Type 0} (p : X → Bool) (x : X) → count_by p (x ∷ []) ≡ cond (p x) 1 0
count_one p x = omega (arith, sum_by-cons (λ y. cond (p y) 1 0) x [])

count_append : {X : Type 0} (p : X → Bool) (xs ys : List X) → count_by p (xs ++ ys) ≡ count_by p xs + count_by p ys
count_append p xs ys = sum_by-append (λ y. cond (p y) 1 0) xs ys

or_true : (b : Bool) → (b || true) ≡ true
or_true true = refl
or_true false = refl

-- the receipts of turns after turns
went_append : (n t u : ℕ) (xs ys : List OutTurn) → u ≡ t + length xs → went_receipts n t (xs ++ ys) ≡ went_receipts n t xs ++ went_receipts n u ys
went_append n t u [] ys is = ap (λ (k : ℕ). went_receipts n k ys) (omega (arith, is))
went_append n t u (x ∷ xs) ys is =
    ap (λ (rs : List Receipt). turn_receipts (t % n) x ++ rs) (went_append n (t + 1) u xs ys (omega (arith, is)))
    ∙ sym (append_assoc (turn_receipts (t % n) x) (went_receipts n (t + 1) xs) (went_receipts n u ys))

told_append : (n t u : ℕ) (xs ys : List OutTurn) (stop : Option OutStop) → u ≡ t + length xs → told_receipts n t (xs ++ ys) stop ≡ went_receipts n t xs ++ told_receipts n u ys stop
told_append n t u xs ys stop is =
    ap (λ (k : ℕ). went_receipts n t (xs ++ ys) ++ stop_receipts (k % n) stop) (omega (arith, is, length-append xs ys))
    ∙ (ap (λ (rs : List Receipt). rs ++ stop_receipts ((u + length ys) % n) stop) (went_append n t u xs ys is)
    ∙ append_assoc (went_receipts n t xs) (went_receipts n u ys) (stop_receipts ((u + length ys) % n) stop))

-- no turn ended the run
unstopped : (turn : Turn) (p : PassState) (stop : Option OutStop) → stops_at turn ≡ 0 → IsOutStop turn p stop → stop ≡ None
unstopped GoesOn p stop goes_on why = why
unstopped IsOver p stop goes_on why = why
unstopped EndsRun p stop goes_on why = absurd (omega (arith, goes_on))

told_plain : (n t : ℕ) (went : List OutTurn) (stop : Option OutStop) → stop ≡ None → told_receipts n t went stop ≡ went_receipts n t went
told_plain n t went stop is =
    ap (λ (o : Option OutStop). went_receipts n t went ++ stop_receipts ((t + length went) % n) o) is
    ∙ append-nil (went_receipts n t went)

-- nothing was done
pub told_same : {G : Type 0} (answers : G → ℕ → Bool → G → Type 0) (n : ℕ) (p : PassState) (gate : G) (r : OutReport) → HasTold answers n p p gate gate r r GoesOn
told_same answers n p gate r = record {
  went = [];
  stop = None;
  number = refl;
  grows = sym (append-nil p.receipts);
  turns = omega arith;
  helped = omega arith;
  sent = omega arith;
  memory = omega arith;
  gate = (gate, refl, refl);
  why = refl;
}

-- the gate over turns after turns
gates_append : {G : Type 0} (answers : G → ℕ → Bool → G → Type 0) (t u : ℕ) (xs ys : List OutTurn) (a b c : G) → u ≡ t + length xs → GateOverTurns answers t xs a b → GateOverTurns answers u ys b c
    → GateOverTurns answers t (xs ++ ys) a c
gates_append {G} answers t u [] ys a b c is first second =
    subst (λ (k : ℕ). GateOverTurns answers k ys a c) (omega (arith, is)) (subst (λ (x : G). GateOverTurns answers u ys x c) first second)
gates_append answers t u (x ∷ xs) ys a b c is first second = (first.0, first.1, gates_append answers (t + 1) u xs ys first.0 b c (omega (arith, is)) first.2 second)

-- a turn that did not end the run
told_one : {G : Type 0} (answers : G → ℕ → Bool → G → Type 0) (n : ℕ) (old new : PassState) (x : OutTurn) (a b : G) (before now : OutReport) (turn : Turn) → new.number ≡ old.number → new.receipts ≡ old.receipts ++ turn_receipts (before.turns % n) x
    → now.turns ≡ before.turns + 1 → now.helped ≡ before.helped + count_by is_gift (turn_receipts (before.turns % n) x) → now.sent ≡ before.sent + cond (is_sent_turn x) 1 0
    → now.memory ≡ before.memory + cond (is_lacking_turn x) 1 0 → GateAtTurn answers before.turns x a b → IsOutStop turn new None → HasTold answers n old new a b before now turn
told_one answers n old new x a b before now turn number grows turns helped sent memory gate why =
    let one : told_receipts n before.turns (x ∷ []) None ≡ turn_receipts (before.turns % n) x =
    append-nil (turn_receipts (before.turns % n) x ++ []) ∙ append-nil (turn_receipts (before.turns % n) x) in
    record {
      went = x ∷ [];
      stop = None;
      number = number;
      grows = grows ∙ ap (λ (rs : List Receipt). old.receipts ++ rs) (sym one);
      turns = omega (arith, turns);
      helped = omega (arith, helped, ap (count_by is_gift) one);
      sent = omega (arith, sent, count_one is_sent_turn x);
      memory = omega (arith, memory, count_one is_lacking_turn x);
      gate = (b, (b, gate, refl), refl);
      why = why;
    }

-- the turn that ended the run
told_end : {G : Type 0} (answers : G → ℕ → Bool → G → Type 0) (n : ℕ) (old new : PassState) (s : OutStop) (a b : G) (before now : OutReport) → new.number ≡ old.number → new.receipts ≡ old.receipts ++ stop_receipts (before.turns % n) (Some s)
    → now.turns ≡ before.turns + 1 → now.helped ≡ before.helped + count_by is_gift (stop_receipts (before.turns % n) (Some s)) → now.sent ≡ before.sent → now.memory ≡ before.memory
    → GateAtStop answers before.turns (Some s) a b → IsOutStop EndsRun new (Some s) → HasTold answers n old new a b before now EndsRun
told_end answers n old new s a b before now number grows turns helped sent memory gate why =
    let one : told_receipts n before.turns [] (Some s) ≡ stop_receipts (before.turns % n) (Some s) =
    ap (λ (k : ℕ). stop_receipts (k % n) (Some s)) (omega arith) in
    record {
      went = [];
      stop = Some s;
      number = number;
      grows = grows ∙ ap (λ (rs : List Receipt). old.receipts ++ rs) (sym one);
      turns = omega (arith, turns);
      helped = omega (arith, helped, ap (count_by is_gift) one);
      sent = omega (arith, sent);
      memory = omega (arith, memory);
      gate = (a, refl, subst (λ (k : ℕ). GateAtStop answers k (Some s) a b) (omega arith) gate);
      why = why;
    }

-- turns after turns of which none ended the run
pub told_both : {G : Type 0} (answers : G → ℕ → Bool → G → Type 0) (n : ℕ) (a b c : PassState) (i j k : G) (r s t : OutReport) (x y : Turn) → stops_at x ≡ 0
    → HasTold answers n a b i j r s x → HasTold answers n b c j k s t y → HasTold answers n a c i k r t y
told_both {G} answers n a b c i j k r s t x y goes_on first second =
    let none : first.stop ≡ None = unstopped x b first.stop goes_on first.why in
    let plain : told_receipts n r.turns first.went first.stop ≡ went_receipts n r.turns first.went = told_plain n r.turns first.went first.stop none in
    let place : s.turns ≡ r.turns + length first.went = omega (arith, first.turns, ap stops_in none) in
    let all : told_receipts n r.turns (first.went ++ second.went) second.stop ≡ went_receipts n r.turns first.went ++ told_receipts n s.turns second.went second.stop =
    told_append n r.turns s.turns first.went second.went second.stop place in
    let same : j ≡ first.gate.0 = subst (λ (o : Option OutStop). GateAtStop answers (r.turns + length first.went) o first.gate.0 j) none first.gate.2 in
    let behind : GateOverTurns answers s.turns second.went first.gate.0 second.gate.0 = subst (λ (g : G). GateOverTurns answers s.turns second.went g second.gate.0) same second.gate.1 in
    record {
      went = first.went ++ second.went;
      stop = second.stop;
      number = second.number ∙ first.number;
      grows =
          second.grows
          ∙ (ap (λ (rs : List Receipt). rs ++ told_receipts n s.turns second.went second.stop) (first.grows ∙ ap (λ (rs : List Receipt). a.receipts ++ rs) plain)
          ∙ (append_assoc a.receipts (went_receipts n r.turns first.went) (told_receipts n s.turns second.went second.stop)
          ∙ ap (λ (rs : List Receipt). a.receipts ++ rs) (sym all)));
      turns = omega (arith, place, second.turns, length-append first.went second.went);
      helped = omega (arith, first.helped, second.helped, ap (count_by is_gift) plain, ap (count_by is_gift) all, count_append is_gift (went_receipts n r.turns first.went) (told_receipts n s.turns second.went second.stop));
      sent = omega (arith, first.sent, second.sent, count_append is_sent_turn first.went second.went);
      memory = omega (arith, first.memory, second.memory, count_append is_lacking_turn first.went second.went);
      gate = (
        second.gate.0,
        gates_append answers r.turns s.turns first.went second.went i first.gate.0 second.gate.0 place first.gate.1 behind,
        subst (λ (m : ℕ). GateAtStop answers m second.stop second.gate.0 k) (omega (arith, place, length-append first.went second.went)) second.gate.2,
      );
      why = second.why;
    }

-- what a pass has after a reply that is logged
logged_receipts : (old : PassState) (call : Call) (reply : Reply) → is_logged reply ≡ true → (pass_after old call reply).receipts ≡ old.receipts ++ record { call = call; reply = reply } ∷ []
logged_receipts old call reply logged = ap (λ (b : Bool). if b then old.receipts ++ record { call = call; reply = reply } ∷ [] else old.receipts) logged

-- a reply behind which the turn goes on is logged
going_plain : (reply : Reply) → turn_after reply ≡ GoesOn → IsPlain reply
going_plain reply goes_on = by_kind (reply_kind reply)
  where
    by_kind : IsPlain reply ⊎ ((reply ≡ Refused Memory) ⊎ ((reply ≡ Refused Frozen) ⊎ (reply ≡ Refused LogFull))) → IsPlain reply
    by_kind (inl is) = is
    by_kind (inr (inl is)) = let other : IsOver ≡ GoesOn = sym (ap turn_after is) ∙ goes_on in cc
    by_kind (inr (inr (inl is))) = let other : EndsRun ≡ GoesOn = sym (ap turn_after is) ∙ goes_on in cc
    by_kind (inr (inr (inr is))) = let other : EndsRun ≡ GoesOn = sym (ap turn_after is) ∙ goes_on in cc

-- a turn that ended as the site was asked to help
ended_as : {G : Type 0} (answers : G → ℕ → Bool → G → Type 0) (n : ℕ) (old : PassState) (gate : G) (before : OutReport) (reply : Reply) → (turn_after reply ≡ GoesOn → ⊥)
    → HasTold answers n old (pass_after old (AskCall (Help (before.turns % n))) reply) gate gate before (after_help before reply) (turn_after reply)
ended_as answers n old gate before reply over = by_kind (reply_kind reply)
  where
    call : Call
    call = AskCall (Help (before.turns % n))

    Goal : Reply → Type 0
    Goal x = HasTold answers n old (pass_after old call x) gate gate before (after_help before x) (turn_after x)

    same : old.receipts ≡ old.receipts ++ []
    same = sym (append-nil old.receipts)

    by_kind : IsPlain reply ⊎ ((reply ≡ Refused Memory) ⊎ ((reply ≡ Refused Frozen) ⊎ (reply ≡ Refused LogFull))) → Goal reply
    by_kind (inl is) = absurd (over is.turn)
    by_kind (inr (inl is)) = subst Goal (sym is)
        (told_one answers n old (pass_after old call (Refused Memory)) no_help gate gate before (after_help before (Refused Memory)) IsOver refl same refl (omega arith) (omega arith) refl refl refl)
    by_kind (inr (inr (inl is))) = subst Goal (sym is)
        (told_end answers n old (pass_after old call (Refused Frozen)) at_help gate gate before (after_help before (Refused Frozen)) refl same refl (omega arith) refl (omega arith) refl (inl (or_true old.frozen)))
    by_kind (inr (inr (inr is))) = subst Goal (sym is)
        (told_end answers n old (pass_after old call (Refused LogFull)) at_help gate gate before (after_help before (Refused LogFull)) refl same refl (omega arith) refl (omega arith) refl (inr (or_true old.log_full)))

pub told_ended : {G : Type 0} (answers : G → ℕ → Bool → G → Type 0) (n : ℕ) (old new : PassState) (gate : G) (before now : OutReport) (turn : Turn) → (turn ≡ GoesOn → ⊥) → HasAsked n old new before now turn
    → HasTold answers n old new gate gate before now turn
told_ended answers n old new gate before now turn over asked =
    subst (λ (x : Turn). HasTold answers n old new gate gate before now x) (sym asked.went)
    (subst (λ (x : OutReport). HasTold answers n old new gate gate before x (turn_after asked.reply)) (sym asked.report)
    (subst (λ (x : PassState). HasTold answers n old x gate gate before (after_help before asked.reply) (turn_after asked.reply)) (sym asked.pass)
    (ended_as answers n old gate before asked.reply (λ goes_on. over (asked.went ∙ goes_on)))))

-- The site answered as it was asked to help, and the turn goes on.
record IsHelped (n : ℕ) (old new : PassState) (before now : OutReport) (reply : Reply) : Type 0 where
  number : new.number ≡ old.number
  grows : new.receipts ≡ old.receipts ++ help_receipt (before.turns % n) reply ∷ []
  turns : now.turns ≡ before.turns + 1
  helped : now.helped ≡ before.helped + cond (is_gift (help_receipt (before.turns % n) reply)) 1 0
  sent : now.sent ≡ before.sent
  memory : now.memory ≡ before.memory

is_helped : (n : ℕ) (old new : PassState) (before now : OutReport) (asked : HasAsked n old new before now GoesOn) → IsHelped n old new before now asked.reply
is_helped n old new before now asked =
    let plain : IsPlain asked.reply = going_plain asked.reply (sym asked.went) in
    record {
      number = ap (λ (x : PassState). x.number) asked.pass;
      grows = ap (λ (x : PassState). x.receipts) asked.pass ∙ logged_receipts old (AskCall (Help (before.turns % n))) asked.reply plain.logged;
      turns = ap (λ (x : OutReport). x.turns) asked.report;
      helped = ap (λ (x : OutReport). x.helped) asked.report;
      sent = ap (λ (x : OutReport). x.sent) asked.report;
      memory = omega (arith, ap (λ (x : OutReport). x.memory) asked.report, ap lacks_at plain.turn);
    }

-- the gate was shut
pub told_shut : {G : Type 0} (answers : G → ℕ → Bool → G → Type 0) (n : ℕ) (old new : PassState) (a b : G) (before now : OutReport) → answers a before.turns false b → HasAsked n old new before now GoesOn
    → HasTold answers n old new a b before now GoesOn
told_shut answers n old new a b before now shut asked =
    let is : IsHelped n old new before now asked.reply = is_helped n old new before now asked in
    told_one answers n old new (gate_shut asked.reply) a b before now GoesOn is.number is.grows is.turns
    (omega (arith, is.helped, count_one is_gift (help_receipt (before.turns % n) asked.reply))) (omega (arith, is.sent)) (omega (arith, is.memory)) shut refl

-- what a gift and a snapshot count
gifts_two : (r : ℕ) (reply : Reply) (d : DeltaState) → count_by is_gift (help_receipt r reply ∷ (shown_receipt d ∷ [])) ≡ cond (is_gift (help_receipt r reply)) 1 0
gifts_two r reply d = omega (arith, sum_by-cons (λ (x : Receipt). cond (is_gift x) 1 0) (help_receipt r reply) (shown_receipt d ∷ []), count_one is_gift (shown_receipt d))

-- the gate was open, and a snapshot was asked for
pub told_shown : {G : Type 0} (answers : G → ℕ → Bool → G → Type 0) (n : ℕ) (old mid new : PassState) (a b : G) (before : OutReport) (told now : Telling) (turn : Turn) → answers a before.turns true b
    → HasAsked n old mid before told.report GoesOn → HasShown mid new told now turn → HasTold answers n old new a b before now.report turn
told_shown answers n old mid new a b before told now turn opens asked shown = by_reply shown.follows
  where
    is : IsHelped n old mid before told.report asked.reply
    is = is_helped n old mid before told.report asked

    r : ℕ
    r = before.turns % n

    gift : count_by is_gift (help_receipt r asked.reply ∷ []) ≡ cond (is_gift (help_receipt r asked.reply)) 1 0
    gift = count_one is_gift (help_receipt r asked.reply)

    number : new.number ≡ old.number
    number = ap (λ (x : PassState). x.number) shown.pass ∙ is.number

    IsReply : Reply → Type 0
    IsReply x = (new ≡ pass_after mid SnapshotCall x) × IsShowing x told now turn

    -- a snapshot was taken
    with_snapshot : (d : DeltaState) → IsReply (Snapshot d) → HasTold answers n old new a b before now.report turn
    with_snapshot d has = by_turn turn has.1
      where
        both : new.receipts ≡ old.receipts ++ help_receipt r asked.reply ∷ (shown_receipt d ∷ [])
        both =
            ap (λ (x : PassState). x.receipts) has.0
            ∙ (ap (λ (rs : List Receipt). rs ++ shown_receipt d ∷ []) is.grows
            ∙ append_assoc old.receipts (help_receipt r asked.reply ∷ []) (shown_receipt d ∷ []))

        gifts : count_by is_gift (help_receipt r asked.reply ∷ (shown_receipt d ∷ [])) ≡ cond (is_gift (help_receipt r asked.reply)) 1 0
        gifts = gifts_two r asked.reply d

        by_turn : (x : Turn) → IsShowing (Snapshot d) told now x → HasTold answers n old new a b before now.report x
        by_turn GoesOn same =
            told_one answers n old new (text_sent asked.reply d) a b before now.report GoesOn number both
            (ap (λ (x : Telling). x.report.turns) same ∙ is.turns)
            (omega (arith, ap (λ (x : Telling). x.report.helped) same, is.helped, gifts))
            (omega (arith, ap (λ (x : Telling). x.report.sent) same, is.sent))
            (omega (arith, ap (λ (x : Telling). x.report.memory) same, is.memory)) opens refl
        by_turn IsOver same =
            told_one answers n old new (no_text asked.reply d) a b before now.report IsOver number both
            (ap (λ (x : Telling). x.report.turns) same ∙ is.turns)
            (omega (arith, ap (λ (x : Telling). x.report.helped) same, is.helped, gifts))
            (omega (arith, ap (λ (x : Telling). x.report.sent) same, is.sent))
            (omega (arith, ap (λ (x : Telling). x.report.memory) same, is.memory)) opens refl
        by_turn EndsRun same =
            told_end answers n old new (at_channel asked.reply d) a b before now.report number both
            (ap (λ (x : Telling). x.report.turns) same ∙ is.turns)
            (omega (arith, ap (λ (x : Telling). x.report.helped) same, is.helped, gifts))
            (ap (λ (x : Telling). x.report.sent) same ∙ is.sent)
            (ap (λ (x : Telling). x.report.memory) same ∙ is.memory) opens tt

    IsWhy : Refusal → Type 0
    IsWhy why = (why ≡ Memory) ⊎ ((why ≡ Frozen) ⊎ (why ≡ LogFull))

    lacking : IsReply (Refused Memory) → HasTold answers n old new a b before now.report turn
    lacking has =
        subst (λ (x : Turn). HasTold answers n old new a b before now.report x) (sym has.1.1)
        (told_one answers n old new (no_snapshot asked.reply) a b before now.report IsOver number
        (ap (λ (x : PassState). x.receipts) has.0 ∙ is.grows)
        (ap (λ (x : Telling). x.report.turns) has.1.0 ∙ is.turns)
        (omega (arith, ap (λ (x : Telling). x.report.helped) has.1.0, is.helped, gift))
        (omega (arith, ap (λ (x : Telling). x.report.sent) has.1.0, is.sent))
        (omega (arith, ap (λ (x : Telling). x.report.memory) has.1.0, is.memory)) opens refl)

    stopped : (new.receipts ≡ mid.receipts) → IsMarked new → (now ≡ record { report = record told.report { memory = told.report.memory + 0 }; last = told.last }) → turn ≡ EndsRun
        → HasTold answers n old new a b before now.report turn
    stopped grows marked same ends =
        subst (λ (x : Turn). HasTold answers n old new a b before now.report x) (sym ends)
        (told_end answers n old new (at_snapshot asked.reply) a b before now.report number (grows ∙ is.grows)
        (ap (λ (x : Telling). x.report.turns) same ∙ is.turns)
        (omega (arith, ap (λ (x : Telling). x.report.helped) same, is.helped, gift))
        (ap (λ (x : Telling). x.report.sent) same ∙ is.sent)
        (omega (arith, ap (λ (x : Telling). x.report.memory) same, is.memory)) opens marked)

    by_why : (why : Refusal) → IsWhy why → IsReply (Refused why) → HasTold answers n old new a b before now.report turn
    by_why why (inl at) has = lacking (subst (λ (x : Refusal). IsReply (Refused x)) at has)
    by_why why (inr (inl at)) has =
        let here : IsReply (Refused Frozen) = subst (λ (x : Refusal). IsReply (Refused x)) at has in
        stopped (ap (λ (x : PassState). x.receipts) here.0) (inl (ap (λ (x : PassState). x.frozen) here.0 ∙ or_true mid.frozen)) here.1.0 here.1.1
    by_why why (inr (inr at)) has =
        let here : IsReply (Refused LogFull) = subst (λ (x : Refusal). IsReply (Refused x)) at has in
        stopped (ap (λ (x : PassState). x.receipts) here.0) (inr (ap (λ (x : PassState). x.log_full) here.0 ∙ or_true mid.log_full)) here.1.0 here.1.1

    by_reply : CanFollow SnapshotCall shown.reply → HasTold answers n old new a b before now.report turn
    by_reply (inl (d, at)) = with_snapshot d (subst IsReply at (shown.pass, shown.showing))
    by_reply (inr (why, (at, may))) = by_why why (unshown_kind why may) (subst IsReply at (shown.pass, shown.showing))

-- a turn that did not end the run is like any other
pub told_on : {G : Type 0} (answers : G → ℕ → Bool → G → Type 0) (n : ℕ) (a b : PassState) (i j : G) (r s : OutReport) (turn : Turn) → (turn ≡ EndsRun → ⊥) → HasTold answers n a b i j r s turn
    → HasTold answers n a b i j r s GoesOn
told_on answers n a b i j r s GoesOn other told = told
told_on answers n a b i j r s IsOver other told = record {
  went = told.went;
  stop = told.stop;
  number = told.number;
  grows = told.grows;
  turns = told.turns;
  helped = told.helped;
  sent = told.sent;
  memory = told.memory;
  gate = told.gate;
  why = told.why;
}
told_on answers n a b i j r s EndsRun other told = absurd (other refl)

-- the site was asked for help and for snapshots alone
kind_help : (r : ℕ) (reply : Reply) → IsTold (help_receipt r reply)
kind_help r reply = inl refl

kinds_turn : (r : ℕ) (x : OutTurn) → All IsTold (turn_receipts r x)
kinds_turn r no_help = All-nil IsTold
kinds_turn r (gate_shut reply) = All-cons IsTold (help_receipt r reply) [] (kind_help r reply) (All-nil IsTold)
kinds_turn r (no_snapshot reply) = All-cons IsTold (help_receipt r reply) [] (kind_help r reply) (All-nil IsTold)
kinds_turn r (no_text reply d) = All-cons IsTold (help_receipt r reply) (shown_receipt d ∷ []) (kind_help r reply) (All-cons IsTold (shown_receipt d) [] (inr refl) (All-nil IsTold))
kinds_turn r (text_sent reply d) = All-cons IsTold (help_receipt r reply) (shown_receipt d ∷ []) (kind_help r reply) (All-cons IsTold (shown_receipt d) [] (inr refl) (All-nil IsTold))

kinds_stop : (r : ℕ) (stop : Option OutStop) → All IsTold (stop_receipts r stop)
kinds_stop r None = All-nil IsTold
kinds_stop r (Some at_help) = All-nil IsTold
kinds_stop r (Some (at_snapshot reply)) = All-cons IsTold (help_receipt r reply) [] (kind_help r reply) (All-nil IsTold)
kinds_stop r (Some (at_channel reply d)) = All-cons IsTold (help_receipt r reply) (shown_receipt d ∷ []) (kind_help r reply) (All-cons IsTold (shown_receipt d) [] (inr refl) (All-nil IsTold))

kinds_went : (n t : ℕ) (went : List OutTurn) → All IsTold (went_receipts n t went)
kinds_went n t [] = All-nil IsTold
kinds_went n t (x ∷ xs) = All-append IsTold (turn_receipts (t % n) x) (went_receipts n (t + 1) xs) (kinds_turn (t % n) x) (kinds_went n (t + 1) xs)

pub kinds_told : (n t : ℕ) (went : List OutTurn) (stop : Option OutStop) → All IsTold (told_receipts n t went stop)
kinds_told n t went stop = All-append IsTold (went_receipts n t went) (stop_receipts ((t + length went) % n) stop) (kinds_went n t went) (kinds_stop ((t + length went) % n) stop)

-- no more texts were sent than snapshots were taken
shown_turn : (r : ℕ) (x : OutTurn) → cond (is_sent_turn x) 1 0 ≤ count_by is_snapshot (turn_receipts r x)
shown_turn r no_help = omega arith
shown_turn r (gate_shut reply) = omega arith
shown_turn r (no_snapshot reply) = omega arith
shown_turn r (no_text reply d) = omega arith
shown_turn r (text_sent reply d) = omega (arith, sum_by-cons (λ (x : Receipt). cond (is_snapshot x) 1 0) (help_receipt r reply) (shown_receipt d ∷ []), count_one is_snapshot (shown_receipt d))

shown_went : (n t : ℕ) (went : List OutTurn) → count_by is_sent_turn went ≤ count_by is_snapshot (went_receipts n t went)
shown_went n t [] = omega arith
shown_went n t (x ∷ xs) = omega (arith, sum_by-cons (λ (y : OutTurn). cond (is_sent_turn y) 1 0) x xs, count_append is_snapshot (turn_receipts (t % n) x) (went_receipts n (t + 1) xs), shown_turn (t % n) x, shown_went n (t + 1) xs)

pub shown_told : (n t : ℕ) (went : List OutTurn) (stop : Option OutStop) → count_by is_sent_turn went ≤ count_by is_snapshot (told_receipts n t went stop)
shown_told n t went stop = omega (arith, shown_went n t went, count_append is_snapshot (went_receipts n t went) (stop_receipts ((t + length went) % n) stop))

-- a snapshot whose text was not sent is counted as want of memory, or its text found the channel closed
two_shown : (r : ℕ) (reply : Reply) (d : DeltaState) → count_by is_snapshot (help_receipt r reply ∷ (shown_receipt d ∷ [])) ≡ 1
two_shown r reply d = omega (arith, sum_by-cons (λ (x : Receipt). cond (is_snapshot x) 1 0) (help_receipt r reply) (shown_receipt d ∷ []), count_one is_snapshot (shown_receipt d))

one_asked : (r : ℕ) (reply : Reply) → count_by is_snapshot (help_receipt r reply ∷ []) ≡ 0
one_asked r reply = count_one is_snapshot (help_receipt r reply)

unsent_turn : (r : ℕ) (x : OutTurn) → count_by is_snapshot (turn_receipts r x) ≤ cond (is_sent_turn x) 1 0 + cond (is_lacking_turn x) 1 0
unsent_turn r no_help = omega arith
unsent_turn r (gate_shut reply) = omega (arith, one_asked r reply)
unsent_turn r (no_snapshot reply) = omega (arith, one_asked r reply)
unsent_turn r (no_text reply d) = omega (arith, two_shown r reply d)
unsent_turn r (text_sent reply d) = omega (arith, two_shown r reply d)

unsent_went : (n t : ℕ) (went : List OutTurn) → count_by is_snapshot (went_receipts n t went) ≤ count_by is_sent_turn went + count_by is_lacking_turn went
unsent_went n t [] = omega arith
unsent_went n t (x ∷ xs) = omega (
  arith,
  sum_by-cons (λ (y : OutTurn). cond (is_sent_turn y) 1 0) x xs,
  sum_by-cons (λ (y : OutTurn). cond (is_lacking_turn y) 1 0) x xs,
  count_append is_snapshot (turn_receipts (t % n) x) (went_receipts n (t + 1) xs),
  unsent_turn (t % n) x,
  unsent_went n (t + 1) xs,
)

unsent_stop : (r : ℕ) (stop : Option OutStop) → count_by is_snapshot (stop_receipts r stop) ≡ stop_lost stop
unsent_stop r None = omega arith
unsent_stop r (Some at_help) = omega arith
unsent_stop r (Some (at_snapshot reply)) = one_asked r reply
unsent_stop r (Some (at_channel reply d)) = two_shown r reply d

pub unsent_told : (n t : ℕ) (went : List OutTurn) (stop : Option OutStop)
    → count_by is_snapshot (told_receipts n t went stop) ≤ count_by is_sent_turn went + count_by is_lacking_turn went + stop_lost stop
unsent_told n t went stop = omega (
  arith,
  unsent_went n t went,
  unsent_stop ((t + length went) % n) stop,
  count_append is_snapshot (went_receipts n t went) (stop_receipts ((t + length went) % n) stop),
)
