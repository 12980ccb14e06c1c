-- A text has one reading at most: a line is that of one entry, or begins one run, and not both.
use Rattle.std.proofs.Common.{◌≡◌, ℕ, List, [], ◌++◌, get_or, drop, Option, Some, codes, unwrap_or, refl, sym, ap, subst, ◌∙◌, ◌⊎◌, inl, inr, arith}
use Rattle.std.proofs.lemmas.Option.{none-some, same_Some, some_pair_parts}
use Rattle.merge_core.specs.Layout.{LayoutState, IsLayout, at_sites, shape_of}
use Rattle.merge_core.specs.Rows.{start_counter}
use Rattle.merge_core.specs.Delta.{DeltaState}
use Rattle.merge_core.specs.Naming.{shown_by}
use Rattle.admission_model.specs.declared.ask.Ask.{Ask}
use Rattle.admission_model.specs.declared.ask.Call.{Call}
use Rattle.admission_model.specs.declared.ask.Call.TheVariants.{Ask as AskCall, Merge, Snapshot}
use Rattle.admission_model.specs.declared.reply.Reply.{Reply}
use Rattle.admission_model.specs.declared.reply.Reply.TheVariants.{Snapshot as SnapshotReply}
use Rattle.admission_model.specs.Durable.{at_slot, places, kept_cells}
use Rattle.admission_core.specs.Kept.{DurableState}
use Rattle.delta_codec.specs.DeltaText.{delta_text}
use Rattle.delta_codec.proofs.DeltaLaws.{one_delta}
use Rattle.desk_log.specs.declared.entry.Entry.{Entry}
use Rattle.script_text.specs.Replies.{reply_text}
use Rattle.transcript_text.specs.Texts.{ask_text, call_text, entry_text, front_text, book_told, MayBegin}
use Rattle.transcript_reader.specs.declared.openings.Opening.{Opening}
use Rattle.transcript_reader.specs.Fits.{FitsAsk, FitsCall, FitsReply, FitsEntry}
use Rattle.transcript_reader.specs.CallReaders.{worded_call}
use Rattle.transcript_reader.specs.ReplyReaders.{worded_reply}
use Rattle.transcript_reader.specs.Quoted.{quoted}
use Rattle.transcript_reader.specs.Readers.{OpeningParts, opening_parts}
use Rattle.transcript_reader.specs.Reading.{BeginsRun}
use Rattle.transcript_reader.proofs.CallLemmas.{asked_again, sent_again, take_asks_nothing}
use Rattle.transcript_reader.proofs.ReplyLemmas.{IsTold, worded_or_told, told_unread}
use Rattle.transcript_reader.proofs.EscapedLemmas.{quoted_once}
use Rattle.transcript_reader.proofs.EntryLemmas.{tail_text, front_same, passes_same, entry_same}
use Rattle.transcript_reader.proofs.PartLemmas.{told_delta, cells_told}
use Rattle.transcript_reader.proofs.BeginLemmas.{spelled_so, one_front, layout_there, opening_same}

-- ---- entries

-- the call of an ask's text
asked : (layout : LayoutState) → IsLayout layout → (a : Ask) (text : List ℕ) → FitsAsk a → ask_text layout.records a ≡ text
    → worded_call layout.records (quoted text []) ≡ Some (AskCall a, [])
asked layout is a text fits same = ap (λ (t : List ℕ). worded_call layout.records (quoted t [])) (sym same) ∙ asked_again layout is a [] fits

-- no ask takes a delta
not_taken : (layout : LayoutState) → IsLayout layout → (a : Ask) (d : DeltaState) → FitsAsk a → ask_text layout.records a ≡ codes "take " ++ delta_text d → ⊥
not_taken layout is a d fits same =
    none-some (AskCall a, []) (sym (take_asks_nothing layout.records (quoted (delta_text d) [])) ∙ asked layout is a (codes "take " ++ delta_text d) fits same)

same_call : (c d : Call) → ◌≡◌ {A = Option (Call × List ℕ)} (Some (c, [])) (Some (d, [])) → c ≡ d
same_call c d same = (some_pair_parts c d [] [] same).0

one_call : (layout : LayoutState) → IsLayout layout → (c d : Call) → FitsCall c → FitsCall d → call_text layout.records c ≡ call_text layout.records d → c ≡ d
one_call layout is (AskCall a) (AskCall b) fits fits2 same =
    same_call (AskCall a) (AskCall b) (sym (asked layout is a (ask_text layout.records b) fits same) ∙ asked_again layout is b [] fits2)
one_call layout is (AskCall a) (Merge d) fits fits2 same = absurd (not_taken layout is a d fits same)
one_call layout is (AskCall a) Snapshot fits fits2 same =
    same_call (AskCall a) Snapshot (sym (asked layout is a (codes "send") fits same) ∙ sent_again layout.records [])
one_call layout is (Merge d) (AskCall b) fits fits2 same = absurd (not_taken layout is b d fits2 (sym same))
one_call layout is (Merge d) (Merge e) fits fits2 same = ap Merge (one_delta d e fits fits2 (ap (λ (t : List ℕ). drop 5 t) same))
one_call layout is (Merge d) Snapshot fits fits2 same =
    let clash : ◌≡◌ {A = ℕ} 116 115 = ap (λ (t : List ℕ). get_or t 0 0) same in absurd (omega arith)
one_call layout is Snapshot (AskCall b) fits fits2 same =
    same_call Snapshot (AskCall b) (sym (sent_again layout.records []) ∙ asked layout is b (codes "send") fits2 (sym same))
one_call layout is Snapshot (Merge e) fits fits2 same =
    let clash : ◌≡◌ {A = ℕ} 115 116 = ap (λ (t : List ℕ). get_or t 0 0) same in absurd (omega arith)
one_call layout is Snapshot Snapshot fits fits2 same = refl

one_reply : (r q : Reply) → FitsReply r → FitsReply q → reply_text r ≡ reply_text q → r ≡ q
one_reply r q fits fits2 same = at (worded_or_told r [] fits) (worded_or_told q [] fits2)
  where
    read : worded_reply (quoted (reply_text r) []) ≡ worded_reply (quoted (reply_text q) [])
    read = ap (λ (t : List ℕ). worded_reply (quoted t [])) same

    at : (worded_reply (quoted (reply_text r) []) ≡ Some (r, [])) ⊎ IsTold r → (worded_reply (quoted (reply_text q) []) ≡ Some (q, [])) ⊎ IsTold q → r ≡ q
    at (inl one) (inl other) = (some_pair_parts r q [] [] (sym one ∙ (read ∙ other))).0
    at (inl one) (inr told) = absurd (none-some (r, []) (sym (told_unread q told []) ∙ (sym read ∙ one)))
    at (inr told) (inl other) = absurd (none-some (q, []) (sym (told_unread r told []) ∙ (read ∙ other)))
    at (inr told) (inr told2) =
        let texts : delta_text told.delta ≡ delta_text told2.delta = sym (ap reply_text told.is) ∙ (same ∙ ap reply_text told2.is) in
        told.is ∙ (ap SnapshotReply (one_delta told.delta told2.delta told.fits told2.fits texts) ∙ sym told2.is)

pub one_entry : (layout : LayoutState) → IsLayout layout → (e f : Entry) → FitsEntry e → FitsEntry f → entry_text layout.records e ≡ entry_text layout.records f → e ≡ f
one_entry layout is e f fits fits2 same =
    let records = layout.records in
    let calls = quoted_once (call_text records e.call) (tail_text e) (call_text records f.call) (tail_text f) (front_same records e f same) in
    let passes = passes_same e.pass f.pass (quoted (reply_text e.reply) (codes "}")) (quoted (reply_text f.reply) (codes "}")) fits.pass fits2.pass calls.1 in
    let replies = quoted_once (reply_text e.reply) (codes "}") (reply_text f.reply) (codes "}") passes.1 in
    entry_same f e.pass e.call e.reply passes.0 (one_call layout is e.call f.call fits.call fits2.call calls.0) (one_reply e.reply f.reply fits.reply fits2.reply replies.0)

-- ---- openings

-- a durable part is known by what the site tells and its sessions
one_part : (layout : LayoutState) (i sites : ℕ) (first other : DurableState) → IsLayout (at_sites sites layout) → MayBegin layout i sites first → MayBegin layout i sites other
    → book_told layout i sites first ≡ book_told layout i sites other → first.sessions ≡ other.sessions → first ≡ other
one_part layout i sites first other there may may2 told sessions =
    let under = at_sites sites layout in
    let cells : first.cells ≡ other.cells =
    sym (cells_told layout i sites first there may)
    ∙ (ap (λ (d : DeltaState). kept_cells (at_slot sites i (start_counter (shape_of under))) (at_slot sites i (shown_by (shape_of under) d.rows)) (places under)) told
    ∙ cells_told layout i sites other there may2) in
    λ k. record { cells = cells k; sessions = sessions k }

-- .. under other names of the site and the number of sites
same_part : (layout : LayoutState) (it other : Opening) → IsLayout (at_sites it.sites layout) → MayBegin layout it.site it.sites it.first → MayBegin layout other.site other.sites other.first
    → it.site ≡ other.site → it.sites ≡ other.sites → book_told layout it.site it.sites it.first ≡ book_told layout other.site other.sites other.first
    → it.first.sessions ≡ other.first.sessions → it.first ≡ other.first
same_part layout it other there may may2 site sites told sessions =
    let may3 : MayBegin layout it.site it.sites other.first =
    subst (λ (x : ℕ). MayBegin layout x it.sites other.first) (sym site) (subst (λ (x : ℕ). MayBegin layout other.site x other.first) (sym sites) may2) in
    let told2 : book_told layout other.site other.sites other.first ≡ book_told layout it.site it.sites other.first =
    ap (λ (x : ℕ). book_told layout x other.sites other.first) (sym site) ∙ ap (λ (x : ℕ). book_told layout it.site x other.first) (sym sites) in
    one_part layout it.site it.sites it.first other.first there may may3 (told ∙ told2) sessions

pub one_opening : (layout : LayoutState) → IsLayout layout → (line : List ℕ) (it other : Opening) → BeginsRun layout line it → BeginsRun layout line other → it ≡ other
one_opening layout is line it other begins begins2 =
    let s = spelled_so layout line it is begins in
    let t = spelled_so layout line other is begins2 in
    let told = book_told layout it.site it.sites it.first in
    let told2 = book_told layout other.site other.sites other.first in
    let fronts = one_front layout line it other is begins begins2 in
    let p : OpeningParts = record { sessions = it.first.sessions; site = it.site; sites = s.sites } in
    let q : OpeningParts = record { sessions = other.first.sessions; site = other.site; sites = t.sites } in
    let parts : p ≡ q = same_Some p q (sym s.read ∙ (ap (opening_parts layout.records) fronts.1 ∙ t.read)) in
    let there = layout_there layout line it is begins in
    let there2 = layout_there layout line other is begins2 in
    let deltas : told ≡ told2 =
    one_delta told told2 (told_delta layout it.site it.sites it.first there begins.may_begin) (told_delta layout other.site other.sites other.first there2 begins2.may_begin)
    fronts.0 in
    let site = ap (λ (x : OpeningParts). x.site) parts in
    let sites : it.sites ≡ other.sites = sym s.stands ∙ (ap (λ (x : OpeningParts). unwrap_or x.sites layout.sites) parts ∙ t.stands) in
    let first = same_part layout it other there begins.may_begin begins2.may_begin site sites deltas (ap (λ (x : OpeningParts). x.sessions) parts) in
    opening_same other it.site it.sites it.first site sites first

-- ---- no line is both

pub begins_no_entry : (layout : LayoutState) → IsLayout layout → (line : List ℕ) (it : Opening) (e : Entry) → BeginsRun layout line it → line ≡ entry_text layout.records e → ⊥
unfolding entry_text front_text
begins_no_entry layout is line it e begins same =
    let s = spelled_so layout line it is begins in
    let clash : ◌≡◌ {A = ℕ} 98 99 = ap (λ (t : List ℕ). get_or t 2 0) (sym s.text ∙ same) in absurd (omega arith)
