use Rattle.std.proofs.Common.{◌≡◌, ◌∙◌, ◌++◌, List, ℕ, Some, None, refl, ap, subst}
use Rattle.std.specs.Prelude.{IfOk, string_bytes}
use Rattle.merge_core.specs.Layout.{LayoutState}
use Rattle.merge_core.specs.declared.layout.RecordSpec.{RecordSpec}
use Rattle.admission_core.specs.Core.{Core}
use Rattle.site_script.specs.Served.{no_delta_line}
use Rattle.serve_engine.specs.declared.answering.Told.{Told}
use Rattle.serve_engine.specs.declared.request.Request.TheVariants.{Asked, Unread, Show, Sessions, Fence}
use Rattle.serve_engine.specs.Requests.{Asks}
use Rattle.serve_engine.specs.Answers.{show_line, sessions_line, wrong_word_line}
use Rattle.serve_engine.specs.BadWords.{wrong_word}
use Rattle.group_names.specs.Names.{generation_of}
use Rattle.serve_engine.specs.Fencing.{fence_line}
use Rattle.serve_engine.specs.Exchanges.{told_no_delta, told_counts, told_sessions, told_fence, still_no_delta}
use Rattle.serve_engine.specs.Steps.{ServesLine, exchange_of}
use Rattle.serve_engine.proofs.LineLemmas.{asks_here}
use Rattle.serve_engine.proofs.ExchangeLemmas.{no_memory, no_word, no_own_mark, look, plain, by_written}
use Rattle.serve_engine.proofs.answering.serve_line.Goals as goal

pub returns-in_default-clause-served : goal.returns-in_default-clause-served
returns-in_default-clause-served g c = λ terms a are stands.
    no_memory g.K.Keeper g.K.LiveKeeper.is_outdated g.L.CallLog terms a c.args.live.now c.args.log.now c.args.line.now stands

pub returns-in-None-clause-served : goal.returns-in-None-clause-served
returns-in-None-clause-served g c = λ terms a are stands.
    let live = c.args.live.now in
    let line = c.args.line.now in
    let asks : Asks terms line None =
    asks_here terms c.args.marker.now line (c.layout.ensures ∙ ap (λ (x : Core). x.layout) c.core.ensures.core) c.in-None.is are c.in-Ok.ensures in
    let answer : List ℕ = wrong_word_line (wrong_word terms.records line) in
    let place : c.wrong_word-place.result ≡ wrong_word terms.records line =
    c.wrong_word-place.ensures ∙ ap (λ (rs : List RecordSpec). wrong_word rs line) (ap (λ (l : LayoutState). l.records) (c.layout-in-None.ensures ∙ ap (λ (x : Core). x.layout) c.core-in-None.ensures.core) ∙ are.of_layout) in
    by_written (λ (told : Told) (t : List ℕ). ServesLine g.K.Keeper g.K.LiveKeeper.is_outdated g.L.CallLog terms a live live c.args.log.now c.args.log.now line told t)
    c.push_bad_word.result c.written-in-None.result (string_bytes c.push_bad_word.new.text) answer c.written-in-None.ensures
    (subst (λ (k : ℕ). IfOk c.push_bad_word.result (λ _. string_bytes c.push_bad_word.new.text ≡ wrong_word_line k)) place
    (subst (λ (t : List ℕ). IfOk c.push_bad_word.result (λ _. string_bytes c.push_bad_word.new.text ≡ t ++ wrong_word_line c.wrong_word-place.result)) c.requires c.push_bad_word.ensures))
    (no_word g.K.Keeper g.K.LiveKeeper.is_outdated g.L.CallLog terms a live c.args.log.now line stands asks)
    (λ u. no_memory g.K.Keeper g.K.LiveKeeper.is_outdated g.L.CallLog terms a live c.args.log.now line stands)

pub returns-in-Some-Unmarked-clause-served : goal.returns-in-Some-Unmarked-clause-served
returns-in-Some-Unmarked-clause-served g c = λ terms a are stands.
    no_own_mark g.K.Keeper g.K.LiveKeeper.is_outdated g.L.CallLog terms a c.args.live.now c.args.log.now c.args.line.now c.in-Some-Unmarked.fault stands
    (asks_here terms c.args.marker.now c.args.line.now (c.layout.ensures ∙ ap (λ (x : Core). x.layout) c.core.ensures.core)
    (c.in-Some-Unmarked.is ∙ ap Some c.in-Some-Unmarked.field-0-is) are c.in-Ok.ensures)

pub returns-in-Some-Asked-clause-served : goal.returns-in-Some-Asked-clause-served
returns-in-Some-Asked-clause-served g c = λ terms a are stands.
    let live = c.args.live.now in
    let asks : Asks terms c.args.line.now (Some (Asked c.in-Some-Asked.call)) =
    asks_here terms c.args.marker.now c.args.line.now (c.layout.ensures ∙ ap (λ (x : Core). x.layout) c.core.ensures.core)
    (c.in-Some-Asked.is ∙ ap Some c.in-Some-Asked.field-0-is) are c.in-Ok.ensures in
    c.serve_call.ensures.served terms live.core.layout c.args.line.now are asks a stands

pub returns-in-Some-Unread-clause-served : goal.returns-in-Some-Unread-clause-served
returns-in-Some-Unread-clause-served g c = λ terms a are stands.
    let live = c.args.live.now in
    let line = c.args.line.now in
    let e = c.in-Some-Unread.error in
    let asks : Asks terms line (Some (Unread e)) =
    asks_here terms c.args.marker.now line (c.layout.ensures ∙ ap (λ (x : Core). x.layout) c.core.ensures.core)
    (c.in-Some-Unread.is ∙ ap Some c.in-Some-Unread.field-0-is) are c.in-Ok.ensures in
    by_written (λ (told : Told) (t : List ℕ). ServesLine g.K.Keeper g.K.LiveKeeper.is_outdated g.L.CallLog terms a live live c.args.log.now c.args.log.now line told t)
    c.push_no_delta_line.result c.written.result (string_bytes c.push_no_delta_line.new.text) (no_delta_line e) c.written.ensures
    (subst (λ (t : List ℕ). IfOk c.push_no_delta_line.result (λ _. string_bytes c.push_no_delta_line.new.text ≡ t ++ no_delta_line e)) c.requires c.push_no_delta_line.ensures)
    (plain g.K.Keeper g.K.LiveKeeper.is_outdated g.L.CallLog terms a live c.args.log.now (exchange_of line (no_delta_line e)) stands (told_no_delta terms a line e asks) (still_no_delta terms line e asks))
    (λ u. no_memory g.K.Keeper g.K.LiveKeeper.is_outdated g.L.CallLog terms a live c.args.log.now line stands)

pub returns-in-Some-Show-clause-served : goal.returns-in-Some-Show-clause-served
returns-in-Some-Show-clause-served g c = λ terms a are stands.
    let live = c.args.live.now in
    let line = c.args.line.now in
    let r = c.in-Some-Show.r in
    let asks : Asks terms line (Some (Show r)) =
    asks_here terms c.args.marker.now line (c.layout.ensures ∙ ap (λ (x : Core). x.layout) c.core.ensures.core)
    (c.in-Some-Show.is ∙ ap Some c.in-Some-Show.field-0-is) are c.in-Ok.ensures in
    look g.K.Keeper g.K.LiveKeeper.is_outdated g.L.CallLog terms a live c.args.log.now line (Show r) (λ b. show_line b r) c.show.result (string_bytes c.show.new.text)
    stands asks refl (told_counts terms a line r asks) c.show.ensures

pub returns-in-Some-Sessions-clause-served : goal.returns-in-Some-Sessions-clause-served
returns-in-Some-Sessions-clause-served g c = λ terms a are stands.
    let live = c.args.live.now in
    let line = c.args.line.now in
    let r = c.in-Some-Sessions.r in
    let asks : Asks terms line (Some (Sessions r)) =
    asks_here terms c.args.marker.now line (c.layout.ensures ∙ ap (λ (x : Core). x.layout) c.core.ensures.core)
    (c.in-Some-Sessions.is ∙ ap Some c.in-Some-Sessions.field-0-is) are c.in-Ok.ensures in
    look g.K.Keeper g.K.LiveKeeper.is_outdated g.L.CallLog terms a live c.args.log.now line (Sessions r) (λ b. sessions_line b r) c.list.result (string_bytes c.list.new.text)
    stands asks refl (told_sessions terms a line r asks) c.list.ensures

pub returns-in-Some-Fence-clause-served : goal.returns-in-Some-Fence-clause-served
returns-in-Some-Fence-clause-served g c = λ terms a are stands.
    let live = c.args.live.now in
    let line = c.args.line.now in
    let r = c.in-Some-Fence.r in
    let h = c.in-Some-Fence.h in
    let asks : Asks terms line (Some (Fence r h)) =
    asks_here terms c.args.marker.now line (c.layout.ensures ∙ ap (λ (x : Core). x.layout) c.core.ensures.core)
    (c.in-Some-Fence.is ∙ ap Some c.in-Some-Fence.field-0-is) are c.in-Ok.ensures in
    look g.K.Keeper g.K.LiveKeeper.is_outdated g.L.CallLog terms a live c.args.log.now line (Fence r h) (λ b. fence_line (generation_of terms.group) b r h) c.fence.result (string_bytes c.fence.new.text)
    stands asks refl (told_fence terms a line r h asks) (c.fence.ensures terms are.word)
