-- Lines that are written piece by piece.
use Rattle.std.proofs.Common.{◌≡◌, ℕ, List, ◌++◌, codes, decimal, ap, ◌∙◌, append_assoc}
use Rattle.merge_core.specs.declared.layout.RecordSpec.{RecordSpec}
use Rattle.merge_core.specs.Delta.{DeltaState}
use Rattle.session_list.specs.declared.session.Session.{Session}
use Rattle.delta_codec.specs.DeltaText.{delta_text}
use Rattle.text_parts.specs.Lists.{joined}
use Rattle.script_text.specs.Replies.{reply_text}
use Rattle.desk_log.specs.declared.entry.Entry.{Entry}
use Rattle.transcript_text.specs.Quoted.{escaped}
use Rattle.transcript_text.specs.Texts.{call_text, entry_text, session_text, front_text}

seven : (b0 b1 b2 b3 b4 b5 b6 p q r s t u v w : List ℕ) → b1 ≡ b0 ++ p → b2 ≡ b1 ++ q → b3 ≡ b2 ++ (r ++ s) → b4 ≡ b3 ++ t → b5 ≡ b4 ++ u → b6 ≡ b5 ++ v
    → b6 ≡ b0 ++ (p ++ (q ++ (r ++ (s ++ (t ++ (u ++ v))))))
seven b0 b1 b2 b3 b4 b5 b6 p q r s t u v w e1 e2 e3 e4 e5 e6 = rw (e6, e5, e4, e3, e2, e1) (simp append_assoc)

pub entry_pushed : (records : List RecordSpec) (e : Entry) (call reply : List ℕ) (pass : ℕ) (b0 b1 b2 b3 b4 b5 b6 : List ℕ)
    → call ≡ call_text records e.call → reply ≡ reply_text e.reply → pass ≡ e.pass
    → b1 ≡ b0 ++ codes "{\"call\":\"" → b2 ≡ b1 ++ escaped call → b3 ≡ b2 ++ (codes "\",\"pass\":" ++ decimal pass)
    → b4 ≡ b3 ++ codes ",\"reply\":\"" → b5 ≡ b4 ++ escaped reply → b6 ≡ b5 ++ codes "\"}" → b6 ≡ b0 ++ entry_text records e
unfolding entry_text
entry_pushed records e call reply pass b0 b1 b2 b3 b4 b5 b6 ec er ep e1 e2 e3 e4 e5 e6 =
    seven b0 b1 b2 b3 b4 b5 b6 (codes "{\"call\":\"") (escaped (call_text records e.call)) (codes "\",\"pass\":") (decimal e.pass) (codes ",\"reply\":\"") (escaped (reply_text e.reply)) (codes "\"}") (codes "")
    e1 (e2 ∙ ap (λ (x : List ℕ). b1 ++ escaped x) ec) (e3 ∙ ap (λ (n : ℕ). b2 ++ (codes "\",\"pass\":" ++ decimal n)) ep) e4 (e5 ∙ ap (λ (x : List ℕ). b4 ++ escaped x) er) e6

five : (b0 b1 b2 b3 b4 b5 p q r s t u : List ℕ) → b1 ≡ b0 ++ p → b2 ≡ b1 ++ q → b3 ≡ b2 ++ r → b4 ≡ b3 ++ s → b5 ≡ b4 ++ (t ++ u)
    → b5 ≡ b0 ++ (p ++ (q ++ (r ++ (s ++ (t ++ u)))))
five b0 b1 b2 b3 b4 b5 p q r s t u e1 e2 e3 e4 e5 = rw (e5, e4, e3, e2, e1) (simp append_assoc)

pub front_pushed : (records : List RecordSpec) (i site : ℕ) (told : DeltaState) (sessions : List Session) (book b0 b1 b2 b3 b4 b5 : List ℕ)
    → book ≡ delta_text told → site ≡ i
    → b1 ≡ b0 ++ codes "{\"book\":\"" → b2 ≡ b1 ++ escaped book → b3 ≡ b2 ++ codes "\",\"sessions\":["
    → b4 ≡ b3 ++ joined (session_text records) sessions → b5 ≡ b4 ++ (codes "],\"site\":" ++ decimal site) → b5 ≡ b0 ++ front_text records i told sessions
unfolding front_text
front_pushed records i site told sessions book b0 b1 b2 b3 b4 b5 eb es e1 e2 e3 e4 e5 =
    five b0 b1 b2 b3 b4 b5 (codes "{\"book\":\"") (escaped (delta_text told)) (codes "\",\"sessions\":[") (joined (session_text records) sessions) (codes "],\"site\":") (decimal i)
    e1 (e2 ∙ ap (λ (x : List ℕ). b1 ++ escaped x) eb) e3 e4 (e5 ∙ ap (λ (n : ℕ). b4 ++ (codes "],\"site\":" ++ decimal n)) es)
