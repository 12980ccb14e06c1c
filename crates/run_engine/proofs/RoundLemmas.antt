-- What the rounds of two linked sites leave, one after another.
use Rattle.std.proofs.Common.{◌≡◌, ℕ, suc, ◌+◌, ◌<◌, ◌≤◌, true, List, [], ◌∷◌, ◌++◌, refl, sym, ap, subst, ◌∙◌, arith, append_assoc, add-one}
use Rattle.std.proofs.lemmas.List.{map-append}
use Rattle.std.specs.Prelude.{◌%◌, if◌then◌else◌, Bool}
use Rattle.admission_model.specs.declared.ask.Ask.{Ask}
use Rattle.admission_model.specs.declared.ask.Ask.TheVariants.{Help}
use Rattle.admission_model.specs.declared.ask.Call.{Call}
use Rattle.admission_model.specs.declared.ask.Call.TheVariants.{Ask as AskCall}
use Rattle.admission_model.specs.declared.reply.Reply.{Reply}
use Rattle.desk_log.specs.Log.{is_logged}
use Rattle.session_book.specs.declared.pass.Receipt.{Receipt}
use Rattle.session_book.specs.Passes.{PassState, pass_after}
use Rattle.run_engine.specs.Callers.{HasAsked, ask_calls, calls_in}
use Rattle.ruled_pair.specs.declared.pair.RuledEnd.{RuledEnd}
use Rattle.run_engine.specs.declared.tasks.AlwaysOpen.{AlwaysOpen}
use Rattle.run_engine.specs.Rounds.{HasHelped, HaveRounds, IsRound, Round, helps}

-- a round has a turn for each record
pub helped_none : (records from turns : ℕ) (p : PassState) → records ≤ 15 → HasHelped records from turns p p
helped_none records from turns p none = record { many = λ many. absurd (omega (arith, none, many)); few = λ _. refl }

pub helped_all : (records from turns : ℕ) (old new : PassState) → 15 < records → HasAsked (helps records from turns) old new → HasHelped records from turns old new
helped_all records from turns old new more asked = record { many = λ _. asked; few = λ few. absurd (omega (arith, more, few)) }

-- help was asked for at one turn more
helped_next : (records from n : ℕ) (old p : PassState) (reply : Reply) → is_logged reply ≡ true → HasAsked (helps records from n) old p
    → HasAsked (helps records from (suc n)) old (pass_after p (AskCall (Help ((from + n) % records))) reply)
helped_next records from n old p reply logged asked =
    let call : Call = AskCall (Help ((from + n) % records)) in
    let ask : Ask = Help ((from + n) % records) in
    let call_of : Receipt → Call = λ r. r.call in
    let as_call : Ask → Call = λ a. AskCall a in record {
      number = asked.number;
      calls =
          ap (λ (b : Bool). calls_in (if b then p.receipts ++ record { call = call; reply = reply } ∷ [] else p.receipts)) logged
          ∙ (map-append call_of p.receipts (record { call = call; reply = reply } ∷ [])
          ∙ (ap (λ (cs : List Call). cs ++ call ∷ []) asked.calls
          ∙ (append_assoc (calls_in old.receipts) (ask_calls (helps records from n)) (call ∷ [])
          ∙ ap (λ (cs : List Call). calls_in old.receipts ++ cs) (sym (map-append as_call (helps records from n) (ask ∷ []))))));
    }

pub helped_more : (records from n r : ℕ) (old p new : PassState) (reply : Reply) → r ≡ (from + n) % records → new ≡ pass_after p (AskCall (Help r)) reply → is_logged reply ≡ true
    → HasAsked (helps records from n) old p → HasAsked (helps records from (n + 1)) old new
helped_more records from n r old p new reply turn is logged asked =
    let now : new ≡ pass_after p (AskCall (Help ((from + n) % records))) reply = subst (λ (q : ℕ). new ≡ pass_after p (AskCall (Help q)) reply) turn is in
    subst (λ (m : ℕ). HasAsked (helps records from m) old new) (sym (add-one n))
    (subst (λ (q : PassState). HasAsked (helps records from (suc n)) old q) (sym now) (helped_next records from n old p reply logged asked))

-- before the first round
pub rounds_none : {L M : Type 0} (records peer_records : ℕ) (end : RuledEnd L AlwaysOpen) (peer_end : RuledEnd M AlwaysOpen) → HaveRounds records peer_records 0 end end peer_end peer_end
rounds_none records peer_records end peer_end = record { rounds = []; count = refl; each = (refl, refl) }

-- one round more
pub rounds_more : {L M : Type 0} (records peer_records begun : ℕ) (old mid new : RuledEnd L AlwaysOpen) (peer_old peer_mid peer_new : RuledEnd M AlwaysOpen) (round : Round)
    → HaveRounds records peer_records begun old mid peer_old peer_mid → IsRound records peer_records begun mid new peer_mid peer_new round
    → HaveRounds records peer_records (begun + round.turns) old new peer_old peer_new
rounds_more records peer_records begun old mid new peer_old peer_mid peer_new round have is = record {
  rounds = round ∷ have.rounds;
  count = ap (λ (n : ℕ). n + round.turns) have.count;
  each = (mid, peer_mid, have.each, subst (λ (n : ℕ). IsRound records peer_records n mid new peer_mid peer_new round) (sym have.count) is);
}
