-- A site behind its lock, as contracts see it, and what closing it tells.
use Rattle.std.specs.Prelude.{◌≡◌, ℕ, ◌<◌, ◌≤◌, ◌==◌, Bool, true, false, List, [], ◌∷◌, ◌++◌, length, take, slice_index_or, All, IsTrue, Result, Ok, Err, Vec, zero, suc}
use Rattle.std.specs.Global.{Global}
use Rattle.std.specs.List.{list_any}
use Rattle.merge_core.specs.Layout.{LayoutState, IsLayout}
use Rattle.admission_model.specs.Restoring.{AreCells, AreSessions}
use Rattle.admission_core.specs.Kept.{DurableState}
use Rattle.durable_keeper.specs.declared.keeper.Keeper.{Ghosts}
use Rattle.desk_log.specs.declared.entry.Entry.{Entry}
use Rattle.desk_log.specs.declared.error.OpenError.{OpenError}
use Rattle.desk_log.specs.declared.error.OpenError.TheVariants.{BadSite, BadPasses, BadLimit}
use Rattle.desk_log.specs.declared.transcript.Run.{Run}
use Rattle.desk_log.specs.declared.transcript.Transcript.{Transcript}
use Rattle.desk_log.specs.Log.{begun, account_after, account_tried, ends_in_fault, IsLegal}
use Rattle.desk_log.specs.Desk.{DeskState, first_account, account_of, account_if_kept, is_frozen, AreGood, IsMadeFor, KeepsOn, Finds, Leaves, IsNoBegin}
use Rattle.session_book.specs.declared.error.CloseError.{CloseError}
use Rattle.session_book.specs.declared.error.CloseError.TheVariants.{PassMissing, Mismatch, Memory}
use Rattle.session_book.specs.Passes.{PassState, new_pass, receipts_of, receipts_in, IsFirstOther}

-- what a site was opened with: layout, number, durable part, places of the log and number of passes
pub record SiteState : Type 0 where
  pub layout : LayoutState
  pub site : ℕ
  pub first : DurableState
  pub limit : ℕ
  pub passes : ℕ

-- Every site: its layout is one, and it began with cells and sessions of this site that agree. It gave out a pass for
-- each part of its ledger.
pub record IsSite (parts : ℕ) (s : SiteState) : Type 0 where
  pub as_many : s.passes ≡ parts
  pub layout : IsLayout s.layout
  pub cells : AreCells s.layout s.site s.first.cells
  pub sessions : AreSessions s.layout s.site s.first.cells s.first.sessions

-- the passes that an opening gives out, numbered from 0
abbrev pub new_passes : ℕ → List PassState
new_passes zero = []
new_passes (suc n) = new_passes n ++ new_pass n ∷ []

-- a site has 1 to 64 passes
pub record AreFew (passes : ℕ) : Type 0 where
  pub some : 1 ≤ passes
  pub few : passes ≤ 64

module _ {K : Type 0} where
  -- a site was opened over a keeper: it begins with what the keeper kept
  pub record IsNewSite (g : Ghosts K) (keeper : K) (layout : LayoutState) (i passes limit : ℕ) (s : SiteState) : Type 0 where
    pub of_layout : s.layout ≡ layout
    pub of_site : s.site ≡ i
    pub places : s.limit ≡ limit
    pub as_many : s.passes ≡ passes
    pub cells : AreCells layout i s.first.cells
    pub sessions : AreSessions layout i s.first.cells s.first.sessions
    pub loaded : K
    pub keeps_on : KeepsOn g keeper loaded
    pub found : Finds g keeper loaded (λ d. s.first ≡ d)

  -- what is wrong with an opening, and the keeper that is handed back
  abbrev pub IsSiteFault : Ghosts K → K → K → LayoutState → ℕ → ℕ → ℕ → OpenError → Type 0
  IsSiteFault g keeper back layout i passes limit BadSite = (¬ (i < layout.sites)) × (back ≡ keeper)
  IsSiteFault g keeper back layout i passes limit BadPasses =
      (i < layout.sites) × (¬ AreFew passes) × (back ≡ keeper)
  IsSiteFault g keeper back layout i passes limit BadLimit =
      (i < layout.sites) × AreFew passes × (¬ AreGood layout i limit) × (back ≡ keeper)
  IsSiteFault g keeper back layout i passes limit e =
      AreFew passes × AreGood layout i limit × IsNoBegin g keeper back layout i e

  -- the answer to an opening: a site with its passes, or what is wrong, with the keeper
  abbrev pub IsSiteOpened : Ghosts K → K → LayoutState → ℕ → ℕ → ℕ → Result (SiteState × Vec PassState Global) (OpenError × K) → Type 0
  IsSiteOpened g keeper layout i passes limit (Ok (s, ps)) =
      AreFew passes × AreGood layout i limit × IsNewSite g keeper layout i passes limit s × (ps.items ≡ new_passes passes)
  IsSiteOpened g keeper layout i passes limit (Err (e, back)) =
      KeepsOn g keeper back × IsSiteFault g keeper back layout i passes limit e

module _ {K : Type 0} where
  -- What a site's lock guards: a desk whose entries are as many as a ledger's total, of which no part is left over. Its
  -- keeper kept after the opening what it kept before, and while its device was honest the desk began with that.
  pub record IsLocked (g : Ghosts K) (was_kept : DurableState → Type 0) (d : DeskState K) (total parts amount : ℕ) : Type 0 where
    pub all_counted : length d.log.entries ≡ total
    pub no_part : parts ≡ 0
    pub no_amount : amount ≡ 0
    pub held : (e : DurableState) → was_kept e → g.keeps d.opened e
    pub found : (e : DurableState) → was_kept e → g.is_honest d.opened → d.log.first ≡ e

  -- What a keeper keeps that a desk gives back: where the opening's keeper kept what the desk began with, the durable part
  -- of the log's account, and after the store's fault that or the one where the call in doubt was kept. While its device
  -- is honest, nothing else was kept at the opening.
  pub record KeepsOf (g : Ghosts K) (was_kept : DurableState → Type 0) (d : DeskState K) (k : K) : Type 0 where
    pub kept : was_kept d.log.first → Leaves g (is_frozen d) k (account_of d) (account_if_kept d)
    pub found : (e : DurableState) → was_kept e → g.is_honest k → d.log.first ≡ e

-- a pass with this number is among these
abbrev pub has_number : ℕ → List PassState → Bool
has_number n ps = list_any (λ p. p.number == n) ps

-- all passes of a site are there, and no other
pub record AreAll (passes : ℕ) (ps : List PassState) : Type 0 where
  pub as_many : length ps ≡ passes
  pub each : (n : ℕ) → n < passes → IsTrue (has_number n ps)

-- a log bears a pass out: it has the pass's receipts in their order and no other of it, and what the marks tell
pub record BearsOut (limit : ℕ) (entries : List Entry) (p : PassState) : Type 0 where
  pub receipts : receipts_of p.number entries ≡ p.receipts
  pub frozen : p.frozen ≡ true → ends_in_fault false entries ≡ true
  pub log_full : p.log_full ≡ true → length entries ≡ limit

-- Among these passes is one with this number that a log does not bear out, and each before it is borne out. Its receipts
-- are the log's before this place and no further: all of them, where one is lacking or a mark is not borne out.
pub record IsAstray (limit : ℕ) (entries : List Entry) (ps : List PassState) (number at : ℕ) : Type 0 where
  pub pass : PassState
  pub place : ℕ
  pub within : place < length ps
  pub there : pass ≡ slice_index_or ps place pass
  pub numbered : pass.number ≡ number
  pub earlier : All (BearsOut limit entries) (take place ps)
  pub astray : ¬ BearsOut limit entries pass
  pub first : IsFirstOther (receipts_of number entries) pass.receipts at

module _ {K : Type 0} where
  -- a desk is that of an opening
  pub record IsSameOpening (d : DeskState K) (layout : LayoutState) (i : ℕ) (first : DurableState) (limit : ℕ) : Type 0 where
    pub of_layout : d.core.layout ≡ layout
    pub of_site : d.core.site ≡ i
    pub began : d.log.first ≡ first
    pub places : d.log.limit ≡ limit

  -- a desk is that of an opening, and its log, legal and within its limit, does not bear out the pass with this number
  pub record IsDeskAstray (d : DeskState K) (layout : LayoutState) (i : ℕ) (first : DurableState) (limit : ℕ) (ps : List PassState) (pass at : ℕ) : Type 0 where
    pub opening : IsSameOpening d layout i first limit
    pub legal : IsLegal (first_account d) d.log.entries
    pub within : length d.log.entries ≤ limit
    pub astray : IsAstray limit d.log.entries ps pass at

  -- the run that a desk leaves, whose entries are as many as the passes' receipts
  pub record IsRunOf (d : DeskState K) (ps : List PassState) (run : Run) : Type 0 where
    pub sites : run.sites ≡ d.core.layout.sites
    pub began : run.first ≡ d.log.first
    pub has_entries : run.entries ≡ d.log.entries
    pub legal : IsLegal (first_account d) d.log.entries
    pub within : length d.log.entries ≤ d.log.limit
    pub count : length d.log.entries ≡ receipts_in ps

-- A closed site leaves one run from what it began with, cells and sessions that agree. The run is legal and has as many entries as all passes have
-- receipts, and it bears each pass out. The keeper is made for the site. Where it kept at the opening what the run began
-- with, a crash leaves the durable part of the run's account, and where the run ends in the store's fault that or the one
-- where the call in doubt was kept; and while its device is honest, it kept nothing else at the opening.
pub record IsClosed {K : Type 0} (g : Ghosts K) (was_kept : DurableState → Type 0) (s : SiteState) (ps : List PassState) (t : Transcript) (k : K) : Type 0 where
  pub of_site : t.site ≡ s.site
  pub run : Run
  pub one_run : t.runs ≡ run ∷ []
  pub sites : run.sites ≡ s.layout.sites
  pub began : run.first ≡ s.first
  pub cells : AreCells s.layout s.site run.first.cells
  pub sessions : AreSessions s.layout s.site run.first.cells run.first.sessions
  pub legal : IsLegal (begun s.layout s.site s.first) run.entries
  pub within : length run.entries ≤ s.limit
  pub all : AreAll s.passes ps
  pub count : length run.entries ≡ receipts_in ps
  pub each : All (BearsOut s.limit run.entries) ps
  pub made_for : IsMadeFor g k s.layout s.site
  pub kept : was_kept s.first → Leaves g (ends_in_fault false run.entries) k (account_after (begun s.layout s.site s.first) run.entries) (account_tried (begun s.layout s.site s.first) run.entries)
  pub found : (e : DurableState) → was_kept e → g.is_honest k → s.first ≡ e

-- A legal log of the opening, within its limit and with as many entries as all passes have receipts, does not bear out the
-- pass with this number, from this place on.
pub record IsLogAstray (s : SiteState) (ps : List PassState) (pass at : ℕ) : Type 0 where
  pub entries : List Entry
  pub legal : IsLegal (begun s.layout s.site s.first) entries
  pub within : length entries ≤ s.limit
  pub count : length entries ≡ receipts_in ps
  pub astray : IsAstray s.limit entries ps pass at

-- What is wrong with a closing: a pass is missing; or all are there, and a legal log of the opening, which is as long as
-- their receipts are many, does not bear out the pass that is named; or memory ran out.
abbrev pub IsCloseFault : SiteState → List PassState → CloseError → Type 0
IsCloseFault s ps PassMissing = ¬ AreAll s.passes ps
IsCloseFault s ps (Mismatch pass at) = AreAll s.passes ps × IsLogAstray s ps pass at
IsCloseFault s ps Memory = AreAll s.passes ps

-- the answer to a closing: a transcript and the keeper, or what is wrong, with the site and the passes
abbrev pub IsClosing : {K : Type 0} → Ghosts K → (DurableState → Type 0) → SiteState → Vec PassState Global → Result (Transcript × K) (CloseError × SiteState × Vec PassState Global) → Type 0
IsClosing g was_kept s ps (Ok (t, k)) = IsClosed g was_kept s ps.items t k
IsClosing g was_kept s ps (Err (e, back, passes)) = IsCloseFault s ps.items e × (back ≡ s) × (passes ≡ ps)
