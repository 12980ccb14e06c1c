use Rattle.std.proofs.Common.{rules, ◌≡◌, ◌≤◌, ◌^◌, ℕ, List, ◌++◌, length, Option, None, sym, subst, length-append, arith}
use Rattle.text_input.specs.Lines.{lines_of}
use Rattle.join_engine.specs.declared.fault.Refusal.{Refusal}
use Rattle.join_engine.specs.Stops.{JoinsLines, JoinsPending, KnownOf}
use Rattle.join_engine.proofs.FrontLemmas.{front_waits, known_lines, known_stopped}
use Rattle.join_engine.proofs.joining.JoiningAccumulator.add.Goals as goal

fewer : (before part : List ℕ) → length (before ++ part) ≤ 2 ^ 32 → length before ≤ 2 ^ 32
fewer before part few = omega (arith, few, length-append before part)

pub returns-in_ok-extend_from_slice-in-Some-2 : goal.returns-in_ok-extend_from_slice-in-Some-2
returns-in_ok-extend_from_slice-in-Some-2 c = λ first before taken shape few start.
    let self = c.args.self.now in
    let new = c.join_pending.new.self in
    let lines = c.in-Some.lines.now in
    let waits : self.refused ≡ None = search rules in
    let front = subst (λ (it : Option Refusal). KnownOf shape before it self.pending.items self.joined self.book) waits
    (taken shape (fewer before c.args.part.now few) start) in
    let whole : c.extend_from_slice.new.self.items ≡ self.pending.items ++ lines = search rules in
    let joins : JoinsPending (record self { pending = c.extend_from_slice.new.self }) new = search rules in
    let after : c.extend_from_slice-then-is_none.new.self.items ≡ c.in-Some.rest.now = search rules in
    let goes_on : new.refused ≡ None = search rules in
    let joined = subst (λ (p : List ℕ). JoinsLines (lines_of p) self.joined self.book None new.joined new.book) whole
    (subst (λ (it : Option Refusal). JoinsLines (lines_of c.extend_from_slice.new.self.items) self.joined self.book it new.joined new.book) goes_on joins.1) in
    let known = known_lines shape before c.args.part.now lines c.in-Some.rest.now self.pending.items self.joined self.book new.joined new.book
    front c.in-Some.ensures.0 c.in-Some.ensures.1 c.in-Some.ensures.2 few joined in
    subst (λ (p : List ℕ). KnownOf shape (before ++ c.args.part.now) new.refused p new.joined new.book) (sym after)
    (subst (λ (it : Option Refusal). KnownOf shape (before ++ c.args.part.now) it c.in-Some.rest.now new.joined new.book) (sym goes_on) known)

pub returns-else-is_none : goal.returns-else-is_none
returns-else-is_none c = λ first before taken shape few start.
    let self = c.args.self.now in
    let new = c.join_pending.new.self in
    let lines = c.in-Some.lines.now in
    let waits : self.refused ≡ None = search rules in
    let front = subst (λ (it : Option Refusal). KnownOf shape before it self.pending.items self.joined self.book) waits
    (taken shape (fewer before c.args.part.now few) start) in
    let whole : c.extend_from_slice.new.self.items ≡ self.pending.items ++ lines = search rules in
    let joins : JoinsPending (record self { pending = c.extend_from_slice.new.self }) new = search rules in
    let joined = subst (λ (p : List ℕ). JoinsLines (lines_of p) self.joined self.book new.refused new.joined new.book) whole joins.1 in
    known_stopped shape before c.args.part.now lines c.in-Some.rest.now self.pending.items new.pending.items self.joined self.book new.refused new.joined new.book
    (search rules) front c.in-Some.ensures.0 c.in-Some.ensures.1 few joined

pub returns-in_ok-extend_from_slice-in-None : goal.returns-in_ok-extend_from_slice-in-None
returns-in_ok-extend_from_slice-in-None c = λ first before taken shape few start.
    let self = c.args.self.now in
    let waits : self.refused ≡ None = search rules in
    let front = subst (λ (it : Option Refusal). KnownOf shape before it self.pending.items self.joined self.book) waits
    (taken shape (fewer before c.args.part.now few) start) in
    let after : c.extend_from_slice-in-None.new.self.items ≡ self.pending.items ++ c.args.part.now = search rules in
    subst (λ (p : List ℕ). KnownOf shape (before ++ c.args.part.now) self.refused p self.joined self.book) (sym after)
    (subst (λ (it : Option Refusal). KnownOf shape (before ++ c.args.part.now) it (self.pending.items ++ c.args.part.now) self.joined self.book) (sym waits)
    (front_waits shape before c.args.part.now self.pending.items self.joined self.book front c.in-None.ensures))
