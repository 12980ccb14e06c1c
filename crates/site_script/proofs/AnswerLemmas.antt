-- One thing more that was said.
use Rattle.std.proofs.Common.{◌≡◌, ℕ, zero, suc, List, [], ◌∷◌, ◌++◌, codes, refl, sym, ap, ◌∙◌, append_assoc}
use Rattle.admission_model.specs.declared.reply.Refusal.TheVariants.{Frozen, LogFull}
use Rattle.admission_model.specs.declared.reply.Reply.{Reply}
use Rattle.admission_model.specs.declared.reply.Reply.TheVariants.{Refused}
use Rattle.admission_model.specs.Account.{Account}
use Rattle.admission_model.specs.View.{view_of}
use Rattle.admission_model.specs.Serving.{after, reply_of}
use Rattle.script_text.specs.Replies.{reply_text}
use Rattle.site_script.specs.declared.lines.Said.{Said}
use Rattle.site_script.specs.declared.lines.Said.TheVariants.{Asked, Unread}
use Rattle.site_script.specs.Served.{no_delta_line, answers, account_after, places_after, frozen_answers}

-- a reply on a line of its own
abbrev pub line_of : Reply → List ℕ
line_of reply = reply_text reply ++ codes "\n"

-- a line and a text, and more behind them
line_more : (reply : Reply) (text more : List ℕ) → reply_text reply ++ (codes "\n" ++ (text ++ more)) ≡ (reply_text reply ++ (codes "\n" ++ text)) ++ more
line_more reply text more =
    ap (λ (t : List ℕ). reply_text reply ++ t) (sym (append_assoc (codes "\n") text more)) ∙ sym (append_assoc (reply_text reply) (codes "\n" ++ text) more)

pub answers_more : (a : Account) (left : ℕ) (before : List Said) (said : Said) → answers a left (before ++ said ∷ []) ≡ answers a left before ++ answers (account_after a left before) (places_after left before) (said ∷ [])
answers_more a left [] said = refl
answers_more a left (Unread e ∷ rest) said =
    ap (λ (t : List ℕ). no_delta_line e ++ t) (answers_more a left rest said)
    ∙ sym (append_assoc (no_delta_line e) (answers a left rest) (answers (account_after a left rest) (places_after left rest) (said ∷ [])))
answers_more a zero (Asked call ∷ rest) said =
    ap (λ (t : List ℕ). reply_text (Refused LogFull) ++ (codes "\n" ++ t)) (answers_more a zero rest said)
    ∙ line_more (Refused LogFull) (answers a zero rest) (answers (account_after a zero rest) (places_after zero rest) (said ∷ []))
answers_more a (suc left) (Asked call ∷ rest) said =
    ap (λ (t : List ℕ). reply_text (reply_of (view_of a) call) ++ (codes "\n" ++ t)) (answers_more (after a call) left rest said)
    ∙ line_more (reply_of (view_of a) call) (answers (after a call) left rest) (answers (account_after (after a call) left rest) (places_after left rest) (said ∷ []))

pub account_more : (a : Account) (left : ℕ) (before : List Said) (said : Said) → account_after a left (before ++ said ∷ []) ≡ account_after (account_after a left before) (places_after left before) (said ∷ [])
account_more a left [] said = refl
account_more a left (Unread e ∷ rest) said = account_more a left rest said
account_more a zero (Asked call ∷ rest) said = account_more a zero rest said
account_more a (suc left) (Asked call ∷ rest) said = account_more (after a call) left rest said

pub places_more : (left : ℕ) (before : List Said) (said : Said) → places_after left (before ++ said ∷ []) ≡ places_after (places_after left before) (said ∷ [])
places_more left [] said = refl
places_more left (Unread e ∷ rest) said = places_more left rest said
places_more zero (Asked call ∷ rest) said = places_more zero rest said
places_more (suc left) (Asked call ∷ rest) said = places_more left rest said

pub frozen_more : (before : List Said) (said : Said) → frozen_answers (before ++ said ∷ []) ≡ frozen_answers before ++ frozen_answers (said ∷ [])
frozen_more [] said = refl
frozen_more (Unread e ∷ rest) said =
    ap (λ (t : List ℕ). no_delta_line e ++ t) (frozen_more rest said) ∙ sym (append_assoc (no_delta_line e) (frozen_answers rest) (frozen_answers (said ∷ [])))
frozen_more (Asked call ∷ rest) said =
    ap (λ (t : List ℕ). reply_text (Refused Frozen) ++ (codes "\n" ++ t)) (frozen_more rest said)
    ∙ line_more (Refused Frozen) (frozen_answers rest) (frozen_answers (said ∷ []))
