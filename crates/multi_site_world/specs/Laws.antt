-- The statements of the laws.
use Rattle.std.specs.Prelude.{◌≡◌, ◌≢◌, ℕ, ◌+◌, ◌-◌, ◌<◌, ◌≤◌, ◌⊎◌, List, [], ◌∷◌, length, slice_get, Option, Some, None}
use Rattle.std.specs.List.{AllByRecursion}
use Rattle.merge_core.specs.declared.cell.Cell.{Cell}
use Rattle.merge_core.specs.declared.cell.Cell.TheVariants.{Out}
use Rattle.merge_core.specs.Rows.{counter_in, counters_of}
use Rattle.merge_core.specs.declared.delta.Row.{Row}
use Rattle.merge_core.specs.Delta.{DeltaState}
use Rattle.merge_core.specs.Layout.{LayoutState, IsLayout, at_sites}
use Rattle.session_list.specs.declared.session.Phase.{Phase}
use Rattle.session_list.specs.declared.session.Phase.TheVariants.{Reader, Waiting, Writer}
use Rattle.merge_core.specs.Sums.{total, total_others}
use Rattle.admission_model.specs.Account.{Account, Heard, HeardRows, StartedAgain, seats_in, own, inside, phase_of, begin, start_origin}
use Rattle.admission_model.specs.Knowledge.{known}
use Rattle.admission_model.specs.View.{view_of, rights_of, gained, spent}
use Rattle.admission_model.specs.Serving.{Step, replay}
use Rattle.admission_model.specs.Laws.{IsFirstUnfinished}
use Rattle.admission_model.specs.declared.ask.Ask.TheVariants.{Help}
use Rattle.admission_model.specs.declared.reply.Refusal.TheVariants.{CounterFull, NoPlan, OtherLayout}
use Rattle.admission_model.specs.declared.reply.Reply.TheVariants.{Gave, Merged, Refused}
use Rattle.multi_site_world.specs.declared.event.Event.{Event}
use Rattle.multi_site_world.specs.declared.event.Event.TheVariants.{Call, Send, Take}
use Rattle.multi_site_world.specs.declared.event.WorldReply.{WorldReply}
use Rattle.multi_site_world.specs.declared.event.WorldReply.TheVariants.{Core, Sent}
use Rattle.multi_site_world.specs.World.{World, account_at, start_world, run, replies}

-- seats that site j sent to site i and i does not know of
abbrev pub in_flight : (ℕ → Account) → ℕ → ℕ → ℕ → ℕ
in_flight accounts r j i = own (accounts j) r (Out i) - known (accounts i) r j (Out i)

-- all seats of record r that are in flight between n sites
abbrev pub all_in_flight : (ℕ → Account) → ℕ → ℕ → ℕ
all_in_flight accounts n r = total n (λ i. total_others n i (λ j. in_flight accounts r j i))

-- the rights of n sites together
abbrev pub all_rights : (ℕ → Account) → ℕ → ℕ → ℕ
all_rights accounts n r = total n (λ i. rights_of (view_of (accounts i)) r)

-- the seats that readers and writers take at n sites together
abbrev pub all_inside : (ℕ → Account) → ℕ → ℕ → ℕ
all_inside accounts n r = total n (λ i. inside (accounts i) r)

-- The seats of a record are the rights of all sites, the weights inside and the seats in flight (the
-- invariant of the bounded counter, Balegas et al., 2015), and no site has spent more than it gained.
pub record IsConserved (w : World) (r : ℕ) : Type 0 where
  pub seats : seats_in w.layout r
      ≡ all_rights (account_at w) w.layout.sites r + (all_inside (account_at w) w.layout.sites r + all_in_flight (account_at w) w.layout.sites r)
  pub never_below : (i : ℕ) → i < w.layout.sites → spent (view_of (account_at w i)) r ≤ gained (view_of (account_at w i)) r

-- a session that reads or writes is inside
abbrev pub IsInside : Option Phase → Type 0
IsInside None = ⊥
IsInside (Some Reader) = Unit {0}
IsInside (Some Waiting) = ⊥
IsInside (Some Writer) = Unit {0}

-- where some site has a writer inside a record, no other session is inside it, at any of n sites: writers
-- exclude readers and one another (Courtois, Heymans and Parnas, 1971)
abbrev pub IsWriterAlone : (ℕ → Account) → ℕ → ℕ → Type 0
IsWriterAlone accounts n r =
    (i j h k : ℕ) → i < n → j < n → phase_of (accounts i) r h ≡ Some Writer → IsInside (phase_of (accounts j) r k) → (i ≡ j) × (h ≡ k)

-- a log of the site's own leads to the account, from the start under the layout or with fewer sites
pub record IsLogged (layout : LayoutState) (i : ℕ) (a : Account) : Type 0 where
  pub first : ℕ
  pub site_there : i < first
  pub steps : List Step
  pub replayed : a ≡ replay (begin (start_origin (at_sites first layout) i)) steps
  pub few_sites : a.sites ≤ layout.sites

-- an account for each site, each with a log of its own; nothing is known of an order between the logs
abbrev pub AreLogged : LayoutState → (ℕ → Account) → Type 0
AreLogged layout accounts = (i : ℕ) → i < layout.sites → IsLogged layout i (accounts i)

-- no delta that was heard tells of a row more than its site did
abbrev pub HeardNoMore : (ℕ → Account) → List Heard → Type 0
HeardNoMore accounts [] = Unit {0}
HeardNoMore accounts (HeardRows rows ∷ heard) =
    AllByRecursion (λ p. (cell : Cell) → counter_in (counters_of p) cell ≤ own (accounts p.s) p.r cell) rows × HeardNoMore accounts heard
HeardNoMore accounts (StartedAgain ∷ heard) = HeardNoMore accounts heard

-- The logs' ends are a consistent cut: what was heard up to there was done up to there (Chandy and Lamport,
-- 1985; Mattern, 1989; here compared counter by counter).
abbrev pub IsConsistentCut : LayoutState → (ℕ → Account) → Type 0
IsConsistentCut layout accounts = (i : ℕ) → i < layout.sites → HeardNoMore accounts (accounts i).heard

-- the reply of a merge that was carried out
abbrev pub IsMergedReply : WorldReply → Type 0
IsMergedReply reply = (raised : ℕ) × (reply ≡ Core (Merged raised))

-- the reply of a merge that was refused for a row of a site that the account does not know
abbrev pub IsOtherLayoutReply : WorldReply → Type 0
IsOtherLayoutReply reply = (row : ℕ) × (reply ≡ Core (Refused (OtherLayout row)))

-- one of the two
abbrev pub IsMergedOrOther : WorldReply → Type 0
IsMergedOrOther reply = IsMergedReply reply ⊎ IsOtherLayoutReply reply

-- the site is there, and knows all sites
pub record KnowsAllSites (w : World) (i : ℕ) : Type 0 where
  pub there : i < w.layout.sites
  pub all : (account_at w i).sites ≡ w.layout.sites

-- a site has counted all that the rows tell
abbrev pub HasCounted : Account → List Row → Type 0
HasCounted a rows = AllByRecursion (λ p. (cell : Cell) → counter_in (counters_of p) cell ≤ known a p.r p.s cell) rows

-- site i has counted all that message l tells
pub record HasTaken (w : World) (i l : ℕ) : Type 0 where
  pub message : DeltaState
  pub there : slice_get w.sent l ≡ Some message
  pub counted : HasCounted (account_at w i) message.rows

-- some list of events leads to the world, from sites of which the first so many know one another alone
pub record IsReachedWorld (w : World) : Type 0 where
  pub whole : LayoutState
  pub is_layout : IsLayout whole
  pub first : ℕ
  pub events : List Event
  pub reached : w ≡ run events (start_world first whole)

-- a row stands in a list
abbrev pub StandsIn : Row → List Row → Type 0
StandsIn p [] = ⊥
StandsIn p (q ∷ qs) = (p ≡ q) ⊎ StandsIn p qs

-- a row stands in a message that was sent
abbrev pub WasSent : List DeltaState → Row → Type 0
WasSent [] p = ⊥
WasSent (message ∷ messages) p = StandsIn p message.rows ⊎ WasSent messages p

-- each site of a list helps at record r, sends, and w takes the message; k is the number of the first one
abbrev pub gathering : ℕ → ℕ → ℕ → List ℕ → List Event
gathering r w k [] = []
gathering r w k (i ∷ others) = Call i (Help r) ∷ (Send i ∷ (Take w k ∷ gathering r w (k + 1) others))

-- a site stands in a list
abbrev pub IsOneOf : ℕ → List ℕ → Type 0
IsOneOf i [] = ⊥
IsOneOf i (j ∷ js) = (i ≡ j) ⊎ IsOneOf i js

-- all sites but w, each at least once, in any order
pub record AreTheOthers (n w : ℕ) (others : List ℕ) : Type 0 where
  pub others_alone : AllByRecursion (λ i. (i < n) × (i ≢ w)) others
  pub all_others : (i : ℕ) → i < n → i ≢ w → IsOneOf i others

-- no reply refuses for a full counter
abbrev pub IsNeverFull : List WorldReply → Type 0
IsNeverFull [] = Unit {0}
IsNeverFull (reply ∷ rest) = (reply ≢ Core (Refused CounterFull)) × IsNeverFull rest

-- a help hands seats over or has none to give
abbrev pub IsHelpReply : WorldReply → Type 0
IsHelpReply reply = ((to : ℕ) × (seats : ℕ) × (reply ≡ Core (Gave to seats))) ⊎ (reply ≡ Core (Refused NoPlan))

-- a message was sent
abbrev pub IsSentReply : WorldReply → Type 0
IsSentReply reply = (k : ℕ) × (reply ≡ Sent k)

-- each help, send and take of a gathering was carried out
abbrev pub AreGathered : List WorldReply → Type 0
AreGathered [] = Unit {0}
AreGathered (helped ∷ (sent ∷ (taken ∷ rest))) = IsHelpReply helped × (IsSentReply sent × (IsMergedReply taken × AreGathered rest))
AreGathered _ = ⊥

-- w knows all sites, nobody is inside a record, none of its seats is in flight, and every other site shows w
-- as the least site with an unfinished writer
pub record MayGather (u : World) (r w : ℕ) : Type 0 where
  pub record_there : r < length u.layout.records
  pub site_there : w < u.layout.sites
  pub all_known : (account_at u w).sites ≡ u.layout.sites
  pub nobody_inside : (i h : ℕ) → i < u.layout.sites → ¬ IsInside (phase_of (account_at u i) r h)
  pub nothing_in_flight : all_in_flight (account_at u) u.layout.sites r ≡ 0
  pub least_writer : (i : ℕ) → i < u.layout.sites → i ≢ w → IsFirstUnfinished (view_of (account_at u i)) r w

-- from this world w may gather the seats of a record from the others, and no help meets a full counter
pub record CanGather (u : World) (r w : ℕ) (others : List ℕ) : Type 0 where
  pub may : MayGather u r w
  pub the_others : AreTheOthers u.layout.sites w others
  pub never_full : IsNeverFull (replies (gathering r w (length u.sent) others) u)
