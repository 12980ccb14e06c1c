-- A call at a desk that has answered what was said so far.
use Rattle.std.proofs.Common.{◌≡◌, ℕ, zero, suc, ◌+◌, ◌-◌, ◌<◌, ◌≤◌, ◌⊎◌, inl, inr, Bool, true, false, List, [], ◌∷◌, ◌++◌, length, codes, refl, sym, ap, subst, ◌∙◌, append_assoc, append-nil, length-append, arith}
use Rattle.std.proofs.lemmas.Bool.{cond-true, cond-false, cases_Bool, cases_lt}
use Rattle.admission_model.specs.declared.ask.Call.{Call}
use Rattle.admission_model.specs.declared.reply.Refusal.TheVariants.{Memory, StoreFault}
use Rattle.admission_model.specs.declared.reply.Reply.{Reply}
use Rattle.admission_model.specs.declared.reply.Reply.TheVariants.{Refused}
use Rattle.admission_model.specs.Account.{Account}
use Rattle.admission_model.specs.View.{view_of}
use Rattle.admission_model.specs.Serving.{after, reply_of}
use Rattle.admission_core.specs.Core.{is_memory}
use Rattle.script_text.specs.Replies.{reply_text}
use Rattle.durable_keeper.specs.declared.keeper.Keeper.{Ghosts}
use Rattle.desk_log.specs.declared.entry.Entry.{Entry}
use Rattle.desk_log.specs.Log.{LogState, is_fault, is_logged, ends_in_fault, begun, after_entry, account_after as log_account, account_tried, IsInDoubt}
use Rattle.desk_log.specs.Desk.{DeskState, first_account, account_of, account_if_kept, is_frozen, IsOpen, IsServing}
use Rattle.desk_log.proofs.ReplyLemmas.{fault_is, model_fault, model_logged}
use Rattle.desk_log.proofs.LogLemmas.{ends-push, after-push, after_answered, after_doubted}
use Rattle.site_script.specs.declared.lines.Said.{Said}
use Rattle.site_script.specs.declared.lines.Said.TheVariants.{Asked, Unread}
use Rattle.site_script.specs.Served.{no_delta_line, answers, account_after, places_after, frozen_answers, IsStopped, places_of, Grows}
use Rattle.site_script.specs.Steps.{ServedAs, AnsweredAs, HasAnswered, AnsweredFrom, LosesCall}
use Rattle.site_script.proofs.AnswerLemmas.{line_of, answers_more, account_more, places_more, frozen_more}
use Rattle.delta_codec.specs.declared.fault.DecodeError.{DecodeError}

-- what is said at an account that serves
module _ (a : Account) (left : ℕ) (b : Account) (now : ℕ) (said : List Said) (text : List ℕ) (was : ServedAs a left b now said text) where
  answers_then : (s : Said) (line : List ℕ) → answers b now (s ∷ []) ≡ line → text ++ line ≡ answers a left (said ++ s ∷ [])
  answers_then s line is =
      ap (λ (t : List ℕ). t ++ line) was.0.text_is
      ∙ (ap (λ (t : List ℕ). answers a left said ++ t) (sym is)
      ∙ (((λ i. answers a left said ++ answers (was.0.account i) (was.1 i) (s ∷ []))) ∙ sym (answers_more a left said s)))

  -- more of it
  pub served_more : (s : Said) (line : List ℕ) (c : Account) (next : ℕ) → answers b now (s ∷ []) ≡ line → c ≡ account_after b now (s ∷ []) → next ≡ places_after now (s ∷ []) → ServedAs a left c next (said ++ s ∷ []) (text ++ line)
  served_more s line c next is account places = (
    record {
      text_is = answers_then s line is;
      account = account ∙ ((λ i. account_after (was.0.account i) (was.1 i) (s ∷ [])) ∙ sym (account_more a left said s));
    },
    places ∙ (ap (λ (n : ℕ). places_after n (s ∷ [])) was.1 ∙ sym (places_more left said s)),
  )

  -- the store's fault
  pub stopped_here : (call : Call) (c tried : Account) → c ≡ b → tried ≡ after b call → IsStopped a left c tried (said ++ Asked call ∷ []) (text ++ line_of (Refused StoreFault))
  stopped_here call c tried account doubt = record {
    before = said;
    call = call;
    behind = [];
    split = refl;
    text_is = ap (λ (t : List ℕ). t ++ line_of (Refused StoreFault)) was.0.text_is;
    account = account ∙ was.0.account;
    in_doubt = doubt ∙ ap (λ (d : Account). after d call) (sym account);
  }

-- what is said where the desk has stopped
pub stopped_more : (a : Account) (left : ℕ) (b tried : Account) (said : List Said) (text : List ℕ) → IsStopped a left b tried said text → (s : Said) (line : List ℕ) → frozen_answers (s ∷ []) ≡ line → IsStopped a left b tried (said ++ s ∷ []) (text ++ line)
stopped_more a left b tried said text was s line is = record {
  before = was.before;
  call = was.call;
  behind = was.behind ++ s ∷ [];
  split = ap (λ (ss : List Said). ss ++ s ∷ []) was.split ∙ append_assoc was.before (Asked was.call ∷ was.behind) (s ∷ []);
  text_is =
      ap (λ (t : List ℕ). t ++ line) was.text_is
      ∙ (append_assoc (answers a left was.before) (fault ++ (codes "\n" ++ frozen_answers was.behind)) line
      ∙ ap (λ (t : List ℕ). answers a left was.before ++ t)
      (append_assoc fault (codes "\n" ++ frozen_answers was.behind) line
      ∙ ap (λ (t : List ℕ). fault ++ t)
      (append_assoc (codes "\n") (frozen_answers was.behind) line
      ∙ ap (λ (t : List ℕ). codes "\n" ++ t) (ap (λ (t : List ℕ). frozen_answers was.behind ++ t) (sym is) ∙ sym (frozen_more was.behind s)))));
  account = was.account;
  in_doubt = was.in_doubt;
}
  where
    fault : List ℕ
    fault = reply_text (Refused StoreFault)

-- a text that is no delta's
pub unread_more : {K : Type 0} (a : Account) (left : ℕ) (d : DeskState K) (said : List Said) (text : List ℕ) (e : DecodeError) → HasAnswered a left d said text → HasAnswered a left d (said ++ Unread e ∷ []) (text ++ no_delta_line e)
unread_more a left d said text e was = at (is_frozen d) was
  where
    at : (frozen : Bool) → AnsweredAs frozen a left (account_of d) (account_if_kept d) (places_of d) said text → AnsweredAs frozen a left (account_of d) (account_if_kept d) (places_of d) (said ++ Unread e ∷ []) (text ++ no_delta_line e)
    at false has = served_more a left (account_of d) (places_of d) said text has (Unread e) (no_delta_line e) (account_of d) (places_of d) (append-nil (no_delta_line e)) refl refl
    at true has = stopped_more a left (account_of d) (account_if_kept d) said text has (Unread e) (no_delta_line e) (append-nil (no_delta_line e))

-- the same from wherever the desk stood before the script
pub unread_from : {K : Type 0} (was : Bool) (a : Account) (left : ℕ) (d : DeskState K) (said : List Said) (text : List ℕ) (e : DecodeError) → AnsweredFrom was a left d said text → AnsweredFrom was a left d (said ++ Unread e ∷ []) (text ++ no_delta_line e)
unread_from false a left d said text e has = unread_more a left d said text e has
unread_from true a left d said text e has = (
  has.0,
  ap (λ (t : List ℕ). t ++ no_delta_line e) has.1
      ∙ (ap (λ (t : List ℕ). frozen_answers said ++ t) (sym (append-nil (no_delta_line e))) ∙ sym (frozen_more said (Unread e))),
)

-- the log grows by an entry, or stays
pub log_grows : {K : Type 0} (g : Ghosts K) (old new : DeskState K) (pass : ℕ) (call : Call) (reply : Reply) → IsServing g old new pass call reply → Grows pass old new
log_grows g old new pass call reply is = at (cases_Bool (is_logged reply))
  where
    longer : LogState
    longer = record old.log { entries = old.log.entries ++ record { pass = pass; call = call; reply = reply } ∷ [] }

    at : (is_logged reply ≡ true) ⊎ (is_logged reply ≡ false) → Grows pass old new
    at (inl logged) = record {
      more = record { pass = pass; call = call; reply = reply } ∷ [];
      grown = ap (λ (l : LogState). l.entries) (is.logged ∙ cond-true (is_logged reply) longer old.log logged);
      of_pass = (refl, tt);
    }
    at (inr unlogged) = record {
      more = [];
      grown = ap (λ (l : LogState). l.entries) (is.logged ∙ cond-false (is_logged reply) longer old.log unlogged) ∙ sym (append-nil old.log.entries);
      of_pass = tt;
    }

-- a call that was logged
module _ {K : Type 0} (g : Ghosts K) (old new : DeskState K) (pass : ℕ) (call : Call) (reply : Reply) (is : IsServing g old new pass call reply) (logged : is_logged reply ≡ true) where
  abbrev entry : Entry
  entry = record { pass = pass; call = call; reply = reply }

  log_now : new.log ≡ record old.log { entries = old.log.entries ++ entry ∷ [] }
  log_now = is.logged ∙ cond-true (is_logged reply) (record old.log { entries = old.log.entries ++ entry ∷ [] }) old.log logged

  frozen_now : is_frozen new ≡ is_fault reply
  frozen_now = ap (λ (l : LogState). ends_in_fault false l.entries) log_now ∙ ends-push false old.log.entries entry

  account_now : account_of new ≡ after_entry (account_of old) entry
  account_now =
      (λ i. log_account (begun (is.layout i) (is.site i) (log_now i).first) (log_now i).entries)
      ∙ after-push (first_account old) old.log.entries entry

  places_now : length old.log.entries < old.log.limit → places_of old ≡ suc (places_of new)
  places_now place =
      let counted : places_of new ≡ old.log.limit - (length old.log.entries + 1) =
      ap (λ (l : LogState). l.limit - length l.entries) log_now ∙ ap (λ (n : ℕ). old.log.limit - n) (length-append old.log.entries (entry ∷ [])) in
      omega (arith, counted, place)

-- a call that was answered
module _ {K : Type 0} (g : Ghosts K) (old new : DeskState K) (pass : ℕ) (call : Call) (reply : Reply) (is : IsServing g old new pass call reply) (found : reply ≡ Refused Memory → ⊥) (a : Account) (left : ℕ) (said : List Said) (text : List ℕ) where
  -- the goal, by how the desk stands after it
  abbrev Has : Bool → DeskState K → Type 0
  Has b d = AnsweredAs b a left (account_of d) (account_if_kept d) (places_of d) (said ++ Asked call ∷ []) (text ++ line_of reply)

  by_model : IsOpen old → ServedAs a left (account_of old) (places_of old) said text → reply ≡ reply_of (view_of (account_of old)) call → Has (is_frozen new) new
  by_model opened was model =
      let logged : is_logged reply ≡ true = ap is_logged model ∙ model_logged (view_of (account_of old)) call in
      let one = places_now g old new pass call reply is logged opened.place in
      let runs : is_frozen new ≡ false = frozen_now g old new pass call reply is logged ∙ (ap is_fault model ∙ model_fault (view_of (account_of old)) call) in
      let account : account_of new ≡ after (account_of old) call =
      account_now g old new pass call reply is logged ∙ after_answered (account_of old) (record { pass = pass; call = call; reply = reply }) model in
      subst (λ (b : Bool). Has b new) (sym runs)
      (served_more a left (account_of old) (places_of old) said text was (Asked call) (line_of reply) (account_of new) (places_of new)
      (ap (λ (n : ℕ). answers (account_of old) n (Asked call ∷ [])) one ∙ ap line_of (sym model))
      (account ∙ sym (ap (λ (n : ℕ). account_after (account_of old) n (Asked call ∷ [])) one))
      (sym (ap (λ (n : ℕ). places_after n (Asked call ∷ [])) one)))

  by_fault : IsOpen old → ServedAs a left (account_of old) (places_of old) said text → is_fault reply ≡ true → Has (is_frozen new) new
  by_fault opened was fault =
      let told : reply ≡ Refused StoreFault = fault_is reply fault in
      let logged : is_logged reply ≡ true = ap is_logged told in
      let account : account_of new ≡ account_of old =
      account_now g old new pass call reply is logged ∙ after_doubted (account_of old) (record { pass = pass; call = call; reply = reply }) fault in
      subst (λ (b : Bool). Has b new) (sym (frozen_now g old new pass call reply is logged ∙ fault))
      (subst (λ (r : Reply). IsStopped a left (account_of new) (account_if_kept new) (said ++ Asked call ∷ []) (text ++ line_of r)) (sym told)
      (stopped_here a left (account_of old) (places_of old) said text was call (account_of new) (account_if_kept new) account (is.in_doubt opened fault)))

  by_place : IsOpen old → ServedAs a left (account_of old) (places_of old) said text → Has (is_frozen new) new
  by_place opened was = at (is.answered opened)
    where
      at : (reply ≡ reply_of (view_of (account_of old)) call) ⊎ ((reply ≡ Refused Memory) ⊎ IsInDoubt (account_of old) call reply) → Has (is_frozen new) new
      at (inl model) = by_model opened was model
      at (inr (inl memory)) = absurd (found memory)
      at (inr (inr doubt)) = by_fault opened was doubt.fault

  by_full : is_frozen old ≡ false → old.log.limit ≤ length old.log.entries → ServedAs a left (account_of old) (places_of old) said text → Has (is_frozen new) new
  by_full runs full was =
      let none : places_of old ≡ zero = omega (arith, full) in
      let told = is.full runs full in
      subst (λ (d : DeskState K). Has (is_frozen d) d) (sym told.1)
      (subst (λ (b : Bool). Has b old) (sym runs)
      (served_more a left (account_of old) (places_of old) said text was (Asked call) (line_of reply) (account_of old) (places_of old)
      (ap (λ (n : ℕ). answers (account_of old) n (Asked call ∷ [])) none ∙ ap line_of (sym told.0))
      (sym (ap (λ (n : ℕ). account_after (account_of old) n (Asked call ∷ [])) none))
      (none ∙ sym (ap (λ (n : ℕ). places_after n (Asked call ∷ [])) none))))

  by_frozen : is_frozen old ≡ true → IsStopped a left (account_of old) (account_if_kept old) said text → Has (is_frozen new) new
  by_frozen frozen was =
      let told = is.frozen frozen in
      subst (λ (d : DeskState K). Has (is_frozen d) d) (sym told.1)
      (subst (λ (b : Bool). Has b old) (sym frozen)
      (stopped_more a left (account_of old) (account_if_kept old) said text was (Asked call) (line_of reply) (ap line_of (sym told.0))))

  pub call_more : HasAnswered a left old said text → HasAnswered a left new (said ++ Asked call ∷ []) (text ++ line_of reply)
  call_more was = at (cases_Bool (is_frozen old))
    where
      room : is_frozen old ≡ false → (length old.log.entries < old.log.limit) ⊎ (old.log.limit ≤ length old.log.entries) → ServedAs a left (account_of old) (places_of old) said text → Has (is_frozen new) new
      room runs (inl place) has = by_place (record { running = runs; place = place }) has
      room runs (inr full) has = by_full runs full has

      at : (is_frozen old ≡ true) ⊎ (is_frozen old ≡ false) → Has (is_frozen new) new
      at (inl frozen) = by_frozen frozen (subst (λ (b : Bool). AnsweredAs b a left (account_of old) (account_if_kept old) (places_of old) said text) frozen was)
      at (inr runs) =
          room runs (cases_lt (length old.log.entries) old.log.limit)
          (subst (λ (b : Bool). AnsweredAs b a left (account_of old) (account_if_kept old) (places_of old) said text) runs was)

-- its reply, written with LF
pub call_answered : {K : Type 0} (g : Ghosts K) (old new : DeskState K) (pass : ℕ) (call : Call) (reply : Reply) → IsServing g old new pass call reply → is_memory reply ≡ false
    → (text with_reply line : List ℕ) → with_reply ≡ text ++ reply_text reply → line ≡ with_reply ++ codes "\n"
    → (was : Bool) (a : Account) (left : ℕ) (said : List Said) → AnsweredFrom was a left old said text → AnsweredFrom was a left new (said ++ Asked call ∷ []) line
call_answered {K} g old new pass call reply is there text with_reply line first second was a left said has =
    subst (λ (t : List ℕ). AnsweredFrom was a left new (said ++ Asked call ∷ []) t)
    (sym (second ∙ (ap (λ (t : List ℕ). t ++ codes "\n") first ∙ append_assoc text (reply_text reply) (codes "\n"))))
    (more was has)
  where
    found : reply ≡ Refused Memory → ⊥
    found e = let both : false ≡ true = sym there ∙ ap is_memory e in cc

    more : (b : Bool) → AnsweredFrom b a left old said text → AnsweredFrom b a left new (said ++ Asked call ∷ []) (text ++ line_of reply)
    more false so_far = call_more g old new pass call reply is found a left said text so_far
    more true so_far =
        let told = is.frozen so_far.0 in (
          ap is_frozen told.1 ∙ so_far.0,
          ap (λ (t : List ℕ). t ++ line_of reply) so_far.1
              ∙ (ap (λ (r : Reply). frozen_answers said ++ line_of r) told.0 ∙ sym (frozen_more said (Asked call))),
        )

memory_is : (reply : Reply) → is_memory reply ≡ true → reply ≡ Refused Memory
memory_is (Refused Memory) e = refl
memory_is other e = absurd (cc)

-- a call that found no memory leaves what was answered
pub call_unserved : {K : Type 0} (g : Ghosts K) (old new : DeskState K) (pass : ℕ) (call : Call) (reply : Reply) → IsServing g old new pass call reply → is_memory reply ≡ true
    → (was : Bool) (a : Account) (left : ℕ) (said : List Said) (text : List ℕ) → AnsweredFrom was a left old said text → AnsweredFrom was a left new said text
call_unserved {K} g old new pass call reply is memory was a left said text has = at was has
  where
    log : new.log ≡ old.log
    log =
        is.logged
        ∙ cond-false (is_logged reply) (record old.log { entries = old.log.entries ++ record { pass = pass; call = call; reply = reply } ∷ [] }) old.log
        (ap is_logged (memory_is reply memory))

    frozen : is_frozen new ≡ is_frozen old
    frozen = ap (λ (l : LogState). ends_in_fault false l.entries) log

    account : account_of new ≡ account_of old
    account = λ i. log_account (begun (is.layout i) (is.site i) (log i).first) (log i).entries

    tried : account_if_kept new ≡ account_if_kept old
    tried = λ i. account_tried (begun (is.layout i) (is.site i) (log i).first) (log i).entries

    places : places_of new ≡ places_of old
    places = ap (λ (l : LogState). l.limit - length l.entries) log

    at : (b : Bool) → AnsweredFrom b a left old said text → AnsweredFrom b a left new said text
    at false so_far =
        subst (λ (f : Bool). AnsweredAs f a left (account_of new) (account_if_kept new) (places_of new) said text) (sym frozen)
        (subst (λ (b : Account). AnsweredAs (is_frozen old) a left b (account_if_kept new) (places_of new) said text) (sym account)
        (subst (λ (t : Account). AnsweredAs (is_frozen old) a left (account_of old) t (places_of new) said text) (sym tried)
        (subst (λ (n : ℕ). AnsweredAs (is_frozen old) a left (account_of old) (account_if_kept old) n said text) (sym places) so_far)))
    at true so_far = (frozen ∙ so_far.0, so_far.1)

-- a call whose answer was lost
pub call_lost : {K : Type 0} (g : Ghosts K) (old new : DeskState K) (pass : ℕ) (call : Call) (reply : Reply) → IsServing g old new pass call reply → (text : List ℕ)
    → (was : Bool) (a : Account) (left : ℕ) → LosesCall (AnsweredFrom was a left old) (AnsweredFrom was a left new) call text
call_lost g old new pass call reply is text was a left = at (cases_Bool (is_memory reply))
  where
    line : List ℕ
    line = (text ++ reply_text reply) ++ codes "\n"

    at : (is_memory reply ≡ true) ⊎ (is_memory reply ≡ false) → LosesCall (AnsweredFrom was a left old) (AnsweredFrom was a left new) call text
    at (inl memory) = inl (λ said has. call_unserved g old new pass call reply is memory was a left said text has)
    at (inr answered) = inr (line, λ said has. call_answered g old new pass call reply is answered text (text ++ reply_text reply) line refl refl was a left said has)
