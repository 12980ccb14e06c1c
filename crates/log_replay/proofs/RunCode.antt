-- What the code of one run knows of its core, its entries and the mark of the cut.
use Rattle.std.proofs.Common.{◌≡◌, ℕ, ◌+◌, ◌-◌, ◌<◌, ◌≤◌, ◌⊎◌, inl, inr, Bool, true, false, List, [], ◌∷◌, ◌++◌, length, take, drop, get_or, Option, Some, None, refl, sym, ap, subst, ◌∙◌, arith}
use Rattle.std.specs.Prelude.{◌↔◌, IsTrue, IsSome}
use Rattle.std.proofs.lemmas.Bool.{cases_lt, cond_both}
use Rattle.std.proofs.lemmas.List.{take_all, length-drop}
use Rattle.merge_core.specs.declared.delta.Row.{Row}
use Rattle.merge_core.specs.declared.layout.RecordSpec.{RecordSpec}
use Rattle.merge_core.specs.Layout.{LayoutState, at_sites}
use Rattle.admission_model.specs.Account.{Account, Origin, begin, start_origin}
use Rattle.admission_model.specs.Serving.{after}
use Rattle.admission_core.specs.Core.{Core, Stands, SameContent}
use Rattle.admission_core.proofs.ReadyLemmas.{stands_along}
use Rattle.admission_core.specs.Kept.{durable_of}
use Rattle.desk_log.specs.declared.entry.Entry.{Entry}
use Rattle.desk_log.specs.declared.transcript.Run.{Run}
use Rattle.desk_log.specs.Log.{account_after, account_tried, IsLegal}
use Rattle.log_replay.specs.declared.entries.Mark.{Mark}
use Rattle.log_replay.specs.declared.replay.RunEnd.{RunEnd}
use Rattle.log_replay.specs.declared.replay.RunEnd.TheVariants.{NoJoint, Passed}
use Rattle.log_replay.specs.Legal.{is_same_part, started, after_run, Begins, IsFirstBad, start_account, account_at}
use Rattle.log_replay.specs.Replay.{settled, IsWay, IsEnd, IsEndable, IsFollowed, IsNext, IsRunEnd, IsMarked, IsJoint, IsBefore, IsNoBegin, IsFirstCore, tried_at, TellsOwn}
use Rattle.log_replay.proofs.ListLemmas.{parts}
use Rattle.log_replay.proofs.RunLemmas.{run_end, mark_ahead, mark_here}
use Rattle.log_replay.proofs.WayLemmas.{way_over, way_less, way_drop, way_length, way_account, way_origin, way_sites, way_legal, way_bad, way_answered, way_tried, stop_longer, end_short}

-- the entries behind the first n
abbrev pub rest_of : ℕ → List Entry → List Entry
rest_of n es = take (length es - n) (drop n es)

pub rest_is : (n : ℕ) (es : List Entry) → rest_of n es ≡ drop n es
rest_is n es = take_all (length es - n) (drop n es) (let size = length-drop n es in omega (arith, size))

-- the call in doubt, where one is left
pub tried_first : (b : Account) (left : List Entry) (e : Entry) → 1 ≤ length left → e ≡ get_or left 0 e → tried_at b left ≡ after b e.call
tried_first b left e some is = ap (tried_at b) (parts left e some is)

-- the entries that are left
left_is : (a : Account) (es : List Entry) (n : ℕ) (c : Core) (followed : IsFollowed a es n c) → rest_of n es ≡ followed.left
left_is a es n c followed = rest_is n es ∙ sym (way_drop a es n followed.reached followed.left followed.way)

-- the core stands where these may end the run
left_stands : (a : Account) (es : List Entry) (n : ℕ) (c : Core) (followed : IsFollowed a es n c) → IsEndable (rest_of n es) → Stands followed.reached c
left_stands a es n c followed endable = followed.stands (subst IsEndable (left_is a es n c followed) endable)

end_endable : (b : Account) (left : List Entry) → IsEnd b left → IsEndable left
end_endable b [] end = tt
end_endable b (e ∷ later) end = end.0.fault

less_endable : (left later : List Entry) → 1 ≤ length left → IsEndable (left ++ later) → IsEndable left
less_endable [] later some endable = tt
less_endable (e ∷ left) later some endable = endable

none_endable : (left : List Entry) → left ≡ [] → IsEndable left
none_endable left none = subst IsEndable (sym none) tt

-- the core behind followed entries has the records and the site of the one before them
pub followed_layout : (a : Account) (es : List Entry) (n : ℕ) (before c : Core) → Stands a before → (followed : IsFollowed a es n c) → Stands followed.reached c → c.layout ≡ before.layout
followed_layout a es n before c stands followed here =
    let origin = way_origin a es n followed.reached followed.left followed.way in
    let sites = way_sites a es n followed.reached followed.left followed.way in
    here.shows.layout ∙ ((λ k. record { sites = sites k; records = (origin k).layout.records }) ∙ sym stands.shows.layout)

pub followed_site : (a : Account) (es : List Entry) (n : ℕ) (before c : Core) → Stands a before → (followed : IsFollowed a es n c) → Stands followed.reached c → c.site ≡ before.site
followed_site a es n before c stands followed here =
    let origin = way_origin a es n followed.reached followed.left followed.way in
    here.shows.site ∙ (ap (λ (o : Origin). o.site) origin ∙ sym stands.shows.site)

-- the first entries were followed, but not to their end
pub followed_less : (a : Account) (es : List Entry) (k n : ℕ) (c : Core) → k ≤ length es → n < k → length (take k es) ≡ k → IsFollowed a (take k es) n c → IsFollowed a es n c
followed_less a es k n c fits less size followed =
    let whole = way_length a (take k es) n followed.reached followed.left followed.way in
    record {
      reached = followed.reached;
      left = followed.left ++ drop k es;
      way = way_less a es k n followed.reached followed.left followed.way;
      stands = λ endable. followed.stands (less_endable followed.left (drop k es) (omega (arith, whole, size, less)) endable);
      stop = stop_longer followed.reached followed.left (drop k es) (omega (arith, whole, size, less)) followed.stop;
    }

-- the first entries were followed to their end
nothing_left : (left : List Entry) → length left ≡ 0 → left ≡ []
nothing_left [] none = refl
nothing_left (e ∷ left) none = absurd (omega (arith, none))

first_left : (a : Account) (es : List Entry) (k n : ℕ) (c : Core) → k ≤ n → length (take k es) ≡ k → (followed : IsFollowed a (take k es) n c) → followed.left ≡ []
first_left a es k n c all size followed =
    let whole = way_length a (take k es) n followed.reached followed.left followed.way in
    nothing_left followed.left (omega (arith, whole, size, all))

pub first_stands : (a : Account) (es : List Entry) (k n : ℕ) (c : Core) → k ≤ n → length (take k es) ≡ k → (followed : IsFollowed a (take k es) n c) → Stands followed.reached c
first_stands a es k n c all size followed = followed.stands (none_endable followed.left (first_left a es k n c all size followed))

pub first_way : (a : Account) (es : List Entry) (k n : ℕ) (c : Core) → k ≤ n → length (take k es) ≡ k → (followed : IsFollowed a (take k es) n c) → IsWay a (take k es) n followed.reached []
first_way a es k n c all size followed =
    subst (IsWay a (take k es) n followed.reached) (first_left a es k n c all size followed) followed.way

pub followed_over : (a : Account) (es : List Entry) (k n m t : ℕ) (c d : Core) → t ≡ k + m → k ≤ length es → k ≤ n → length (take k es) ≡ k → IsFollowed a (take k es) n c → ((b : Account) → Stands b c → IsFollowed b (rest_of k es) m d) → IsFollowed a es t d
followed_over a es k n m t c d sum fits all size followed more =
    let rest : IsFollowed followed.reached (drop k es) m d = subst (λ (xs : List Entry). IsFollowed followed.reached xs m d) (rest_is k es) (more followed.reached (first_stands a es k n c all size followed)) in
    record {
      reached = rest.reached;
      left = rest.left;
      way = way_over a es k n m t followed.reached rest.reached rest.left sum fits (first_way a es k n c all size followed) rest.way;
      stands = rest.stands;
      stop = rest.stop;
    }

-- the account behind the first entries
pub first_account : (a : Account) (es : List Entry) (k n : ℕ) (c : Core) → k ≤ n → length (take k es) ≡ k → (followed : IsFollowed a (take k es) n c) → account_after a (take k es) ≡ followed.reached
first_account a es k n c all size followed =
    let way = first_way a es k n c all size followed in
    let whole = way_length a (take k es) n followed.reached [] way in
    ap (account_after a) (sym (take_more (take k es) n (omega (arith, whole)))) ∙ way_account a (take k es) n followed.reached [] way
  where
    take_more : (xs : List Entry) (n : ℕ) → length xs ≤ n → take n xs ≡ xs
    take_more xs n fits = take_all n xs fits

-- the own rows behind the first entries
pub here_told : (a : Account) (es : List Entry) (k n : ℕ) (before c : Core) (rows : List Row) → k ≤ n → length (take k es) ≡ k → Stands a before → IsFollowed a (take k es) n c → ((b : Account) → Stands b c → TellsOwn (length c.layout.records) rows b) → TellsOwn (length before.layout.records) rows (account_after a (take k es))
here_told a es k n before c rows all size stands followed tells =
    let there = first_stands a es k n c all size followed in
    let records : length c.layout.records ≡ length before.layout.records = ap (λ (l : LayoutState). length l.records) (followed_layout a (take k es) n before c stands followed there) in
    let here : TellsOwn (length before.layout.records) rows followed.reached = subst (λ (m : ℕ). TellsOwn m rows followed.reached) records (tells followed.reached there) in
    subst (TellsOwn (length before.layout.records) rows) (sym (first_account a es k n c all size followed)) here

-- an end that may not be
pub run_bad : (a : Account) (es all : List Entry) (n : ℕ) (c : Core) (flag : Bool) → IsFollowed a es n c → es ≡ all → ((b : Account) → (IsEndable (rest_of n es) → Stands b c) → IsTrue flag ↔ IsEnd b (rest_of n es)) → flag ≡ false → IsFirstBad a all n
run_bad a es all n c flag followed same tells stops =
    subst (λ (xs : List Entry). IsFirstBad a xs n) same
    (way_bad a es n followed.reached followed.left followed.way followed.stop
    (λ end. let wrong : flag ≡ true = (tells followed.reached (left_stands a es n c followed)).1 (subst (IsEnd followed.reached) (way_drop a es n followed.reached followed.left followed.way ∙ sym (rest_is n es)) end) in
    let both : false ≡ true = sym stops ∙ wrong in cc))

-- one that may be
pub run_end_of : (a : Account) (es : List Entry) (n : ℕ) (c : Core) (flag : Bool) (followed : IsFollowed a es n c) → ((b : Account) → (IsEndable (rest_of n es) → Stands b c) → IsTrue flag ↔ IsEnd b (rest_of n es)) → flag ≡ true → IsEnd followed.reached followed.left
run_end_of a es n c flag followed tells may =
    subst (IsEnd followed.reached) (rest_is n es ∙ sym (way_drop a es n followed.reached followed.left followed.way)) ((tells followed.reached (left_stands a es n c followed)).0 may)

-- the core stands there
pub run_stands : (a : Account) (es : List Entry) (n : ℕ) (c : Core) (flag : Bool) (followed : IsFollowed a es n c) → ((b : Account) → (IsEndable (rest_of n es) → Stands b c) → IsTrue flag ↔ IsEnd b (rest_of n es)) → flag ≡ true → Stands followed.reached c
run_stands a es n c flag followed tells may = followed.stands (end_endable followed.reached followed.left (run_end_of a es n c flag followed tells may))

pub run_goes : (layout : LayoutState) (a : Account) (run : Run) (later : List Run) (es : List Entry) (n : ℕ) (before c d : Core) (flag : Bool) (end : RunEnd) → Stands (started a run) before → IsFollowed (started a run) es n c → es ≡ run.entries → ((b : Account) → (IsEndable (rest_of n es) → Stands b c) → IsTrue flag ↔ IsEnd b (rest_of n es)) → flag ≡ true → SameContent c d
    → ((b : Account) → Stands b d → IsNext layout d.site b (tried_at b (rest_of n es)) later end) → IsRunEnd layout before.site a run later end
run_goes layout a run later es n before c d flag end stands followed same tells may content next =
    let b = followed.reached in
    let ends = run_end_of (started a run) es n c flag followed tells may in
    let stood = followed.stands (end_endable b followed.left ends) in
    let here : rest_of n es ≡ followed.left = rest_is n es ∙ sym (way_drop (started a run) es n b followed.left followed.way) in
    let answered : account_after (started a run) run.entries ≡ b = ap (account_after (started a run)) (sym same) ∙ way_answered (started a run) es n b followed.left followed.way ends in
    let tried : account_tried (started a run) run.entries ≡ tried_at b (rest_of n es) = ap (account_tried (started a run)) (sym same) ∙ (way_tried (started a run) es n b followed.left followed.way ends ∙ ap (tried_at b) (sym here)) in
    let site : d.site ≡ before.site = ap (λ (x : Core). x.site) content ∙ followed_site (started a run) es n before c stands followed stood in
    run_end layout before.site a run later b (tried_at b (rest_of n es)) answered tried (subst (IsLegal (started a run)) same (way_legal (started a run) es n b followed.left followed.way ends)) end
    (subst (λ (i : ℕ). IsNext layout i b (tried_at b (rest_of n es)) later end) site (next b (stands_along b c d content stood)))

-- how many entries are followed where a run may end
run_short : (a : Account) (es : List Entry) (n : ℕ) (c : Core) (flag : Bool) → IsFollowed a es n c → ((b : Account) → (IsEndable (rest_of n es) → Stands b c) → IsTrue flag ↔ IsEnd b (rest_of n es)) → flag ≡ true → length es ≤ n + 1
run_short a es n c flag followed tells may =
    let ends = run_end_of a es n c flag followed tells may in
    let whole = way_length a es n followed.reached followed.left followed.way in
    let short = end_short followed.reached followed.left ends in
    omega (arith, whole, short)

-- the mark of the cut behind a run
mark_behind : (records : ℕ) (target a : Account) (run : Run) (later : List Run) (old new : Mark) (n : ℕ) (es : List Entry) → es ≡ run.entries → length es ≤ n + 1 → (IsSome old.own → new ≡ old) → (old.own ≡ None → length es ≤ old.left → new ≡ record { left = old.left - length es; own = None })
    → (old.own ≡ None → old.left < length es → length es ≤ n + 1 → (rows : List Row) × ((new.own ≡ Some rows) × TellsOwn records rows (account_after (started a run) (take old.left es))))
    → IsMarked records target a (run ∷ later) old.left old.own → IsMarked records target (after_run a run later) later new.left new.own
mark_behind records target a run later old new n es same short taken past here marked = at old.own refl
  where
    Behind : Mark → Type 0
    Behind m = IsMarked records target (after_run a run later) later m.left m.own

    size : length es ≡ length run.entries
    size = ap (λ (xs : List Entry). length xs) same

    ahead : old.own ≡ None → (old.left < length es) ⊎ (length es ≤ old.left) → Behind new
    ahead none (inl within) =
        let it = here none within short in
        let is : target ≡ account_at a old.left (run ∷ later) = subst (IsMarked records target a (run ∷ later) old.left) none marked in
        let there : account_after (started a run) (take old.left es) ≡ target = ap (λ (xs : List Entry). account_after (started a run) (take old.left xs)) same ∙ mark_here target a run later old.left (omega (arith, within, size)) is in
        let rows : IsMarked records target (after_run a run later) later new.left (Some it.0) = subst (TellsOwn records it.0) there it.1.1 in
        subst (IsMarked records target (after_run a run later) later new.left) (sym it.1.0) rows
    ahead none (inr behind) =
        let is : target ≡ account_at a old.left (run ∷ later) = subst (IsMarked records target a (run ∷ later) old.left) none marked in
        let moved : target ≡ account_at (after_run a run later) (old.left - length es) later = subst (λ (m : ℕ). target ≡ account_at (after_run a run later) (old.left - m) later) (sym size) (mark_ahead target a run later old.left (omega (arith, behind, size)) is) in
        let there : Behind (record { left = old.left - length es; own = None }) = moved in
        subst Behind (sym (past none behind)) there

    at : (own : Option (List Row)) → old.own ≡ own → Behind new
    at None none = ahead none (cases_lt old.left (length es))
    at (Some rows) some =
        let tells : TellsOwn records rows target = subst (IsMarked records target a (run ∷ later) old.left) some marked in
        let there : Behind old = subst (IsMarked records target (after_run a run later) later old.left) (sym some) tells in
        subst Behind (sym (taken (subst IsSome (sym some) refl))) there

pub run_mark : (layout : LayoutState) (target a : Account) (run : Run) (later : List Run) (old new : Mark) (n : ℕ) (es : List Entry) (before c : Core) (flag : Bool) → Stands (started a run) before → before.layout.records ≡ layout.records → IsFollowed (started a run) es n c → es ≡ run.entries → ((b : Account) → (IsEndable (rest_of n es) → Stands b c) → IsTrue flag ↔ IsEnd b (rest_of n es)) → flag ≡ true
    → (IsSome old.own → new ≡ old) → (old.own ≡ None → length es ≤ old.left → new ≡ record { left = old.left - length es; own = None })
    → (old.own ≡ None → old.left < length es → length es ≤ n + 1 → (rows : List Row) × ((new.own ≡ Some rows) × ((b : Account) → Stands b before → TellsOwn (length before.layout.records) rows (account_after b (take old.left es)))))
    → IsMarked (length layout.records) target a (run ∷ later) old.left old.own → IsMarked (length layout.records) target (after_run a run later) later new.left new.own
run_mark layout target a run later old new n es before c flag stands records followed same tells may taken past here marked =
    mark_behind (length layout.records) target a run later old new n es same (run_short (started a run) es n c flag followed tells may) taken past
    (λ none within short. let it = here none within short in (it.0, (it.1.0, subst (λ (m : ℕ). TellsOwn m it.0 (account_after (started a run) (take old.left es))) number (it.1.1 (started a run) stands))))
    marked
  where
    number : length before.layout.records ≡ length layout.records
    number = ap (λ (rs : List RecordSpec). length rs) records

-- the next run begins where the joint says
pub next_some : (layout : LayoutState) (i : ℕ) (b t : Account) (run : Run) (rest later : List Run) (c : Core) (kept : Bool) → later ≡ run ∷ rest → IsJoint layout i b t run (Some (c, kept)) → IsNext layout i b t later (Passed c kept)
next_some layout i b t run rest later c kept split joint = subst (λ (rs : List Run). IsNext layout i b t rs (Passed c kept)) (sym split) joint

pub next_none : (layout : LayoutState) (i : ℕ) (b t : Account) (run : Run) (rest later : List Run) → later ≡ run ∷ rest → IsJoint layout i b t run None → IsNext layout i b t later NoJoint
next_none layout i b t run rest later split joint = subst (λ (rs : List Run). IsNext layout i b t rs NoJoint) (sym split) joint

-- the first run begins at the start
settled_start : (a : Account) (run : Run) → settled a a run ≡ a
settled_start a run = cond_both (is_same_part run.first (durable_of a)) a a (λ (x : Account). x ≡ a) (λ is. refl) (λ is. refl)

start_first : (layout : LayoutState) (i : ℕ) (run : Run) (rest runs : List Run) (first : LayoutState) → runs ≡ run ∷ rest → first ≡ at_sites run.sites layout → begin (start_origin first i) ≡ start_account layout i runs
start_first layout i run rest runs first split is = ap (λ (l : LayoutState). begin (start_origin l i)) is ∙ ap (start_account layout i) (sym split)

pub first_some : (layout : LayoutState) (i : ℕ) (run : Run) (rest runs : List Run) (first : LayoutState) (c : Core) (kept : Bool) → runs ≡ run ∷ rest → first ≡ at_sites run.sites layout → IsJoint layout i (begin (start_origin first i)) (begin (start_origin first i)) run (Some (c, kept)) → IsFirstCore layout i (start_account layout i runs) runs (Some c)
first_some layout i run rest runs first c kept split is joint =
    let a = begin (start_origin first i) in
    let settles = settled_start a run in
    let begun : IsBefore layout i a (run ∷ rest) c = (subst (λ (x : Account). Begins layout i x run) settles joint.0, subst (λ (x : Account). Stands (started x run) c) settles joint.2) in
    subst (λ (x : Account). IsBefore layout i x runs c) (start_first layout i run rest runs first split is)
    (subst (λ (rs : List Run). IsBefore layout i a rs c) (sym split) begun)

pub first_none : (layout : LayoutState) (i : ℕ) (run : Run) (rest runs : List Run) (first : LayoutState) → runs ≡ run ∷ rest → first ≡ at_sites run.sites layout → IsJoint layout i (begin (start_origin first i)) (begin (start_origin first i)) run None → IsFirstCore layout i (start_account layout i runs) runs None
first_none layout i run rest runs first split is joint =
    let a = begin (start_origin first i) in
    let none : IsNoBegin layout i a (run ∷ rest) = subst (λ (x : Account). ¬ Begins layout i x run) (settled_start a run) joint in
    subst (λ (x : Account). IsNoBegin layout i x runs) (start_first layout i run rest runs first split is)
    (subst (λ (rs : List Run). IsNoBegin layout i a rs) (sym split) none)
