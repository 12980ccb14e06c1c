-- What a world that stands for a world of the model promises of its running sites.
use Rattle.std.proofs.Common.{◌≡◌, ◌≢◌, ℕ, ◌+◌, ◌-◌, ◌<◌, ◌≤◌, ◌⊎◌, inl, inr, Bool, true, false, cond, eqb, ltb, List, [], ◌∷◌, length, get_or, map, Option, Some, None, refl, sym, ap, subst, ◌∙◌, arith}
use Rattle.std.specs.Prelude.{slice_get}
use Rattle.std.proofs.lemmas.Bool.{cases_eq, cond-true, cond-false, ltb-true, lt-ltb}
use Rattle.std.proofs.lemmas.Option.{get_or_from_slice_get, slice_get_within}
use Rattle.merge_core.specs.declared.cell.Cell.{Cell}
use Rattle.merge_core.specs.declared.cell.Cell.TheVariants.{Out, Ann, Fin}
use Rattle.merge_core.specs.Delta.{DeltaState}
use Rattle.merge_core.specs.Layout.{LayoutState, Shape, record_shape}
use Rattle.merge_core.specs.Naming.{ReachesUnit}
use Rattle.merge_core.specs.Book.{BookState, IsBook, book_shape, counter_of}
use Rattle.merge_core.proofs.SameLemmas.{same_from_names}
use Rattle.merge_core.specs.Sums.{total, total_others}
use Rattle.merge_core.proofs.SumLemmas.{total_same, total_others_same}
use Rattle.session_list.specs.declared.session.Phase.{Phase}
use Rattle.session_list.specs.declared.session.Phase.TheVariants.{Writer}
use Rattle.session_list.specs.declared.session.Session.{Session}
use Rattle.session_list.specs.Sessions.{phase_in}
use Rattle.admission_model.specs.declared.ask.Ask.{Ask}
use Rattle.admission_model.specs.declared.ask.Ask.TheVariants.{Read, Announce, Quill, Leave, Give, Help}
use Rattle.admission_model.specs.declared.ask.Call.TheVariants.{Ask as AskCall, Merge}
use Rattle.admission_model.specs.declared.reply.Refusal.{Refusal}
use Rattle.admission_model.specs.declared.reply.Refusal.TheVariants.{OtherLayout, BadRow, OwnRowAhead, WriterAnnounced}
use Rattle.admission_model.specs.declared.reply.Reply.{Reply}
use Rattle.admission_model.specs.declared.reply.Reply.TheVariants.{Admitted, Merged, Refused}
use Rattle.admission_model.specs.Account.{Account, inside, own, phase_of, sessions_of, seats_in, session_total, weight}
use Rattle.admission_model.specs.Knowledge.{known}
use Rattle.admission_model.specs.Laws.{SourcesAgree, IsFirstUnfinished, MayAsk}
use Rattle.admission_model.specs.View.{View, view_of, rights_of, gained, spent, problem_in}
use Rattle.admission_model.specs.Replies.{Line, first_reason, ask_lines}
use Rattle.admission_model.specs.Serving.{reply_of, reason}
use Rattle.admission_model.proofs.CounterLemmas.{known_own}
use Rattle.admission_model.proofs.ReaderLemmas.{reader_held}
use Rattle.admission_model.proofs.ReasonLemmas.{reason_told}
use Rattle.admission_model.proofs.StandsLemmas.{same_view}
use Rattle.admission_core.specs.Core.{Core as SiteState, Stands, core_view}
use Rattle.admission_core.proofs.StandsLemmas.{phases_told}
use Rattle.multi_site_world.specs.declared.event.Event.{Event}
use Rattle.multi_site_world.specs.declared.event.Event.TheVariants.{Call, Send, Take, Thin, Restart, Grow}
use Rattle.multi_site_world.specs.declared.event.WorldReply.{WorldReply}
use Rattle.multi_site_world.specs.declared.event.WorldReply.TheVariants.{Core, Sent, Restarted, Grown, NoSite, NoMessage, NoGrowth}
use Rattle.multi_site_world.specs.World.{World, account_at, happens, place_of, world_reply, reply_here, reply_taken, thin_message}
use Rattle.multi_site_world.specs.Laws.{IsReachedWorld, IsInside, IsConserved, KnowsAllSites, IsMergedReply, IsOtherLayoutReply, in_flight, all_rights, all_inside, all_in_flight}
use Rattle.multi_site_world.specs.Worlds.{WorldState, StandsForWorld, IsWorldState, IsStep, is_wanting, stepped, refused_by, certain_here, certain_reply}
use Rattle.multi_site_world.specs.Safe.{AreCores, IsSafe, IsSafeWorld, IsLawful, IsLawfulStep, HasEqualBooks, SharesSeats, rights_together, seats_together, seats_between}
use Rattle.multi_site_world.proofs.LawLemmas.{conservation, exclusion, equal_books, problem_here, none_read, run_layout, message_answered, thin_answered, message_merged, thin_merged}
use Rattle.multi_site_world.proofs.EventLemmas.{sound_reached}
use Rattle.multi_site_world.proofs.StepLaws.{announced_stays, finished_stays}

-- the core at a site stands for its account
pub core_at : (m : World) (w : WorldState) (at : ℕ → SiteState) → AreCores w at → StandsForWorld m w → (i : ℕ) → i < length w.cores → Stands (account_at m i) (at i)
core_at m w at are stands i below =
    subst (Stands (account_at m i)) (get_or_from_slice_get w.cores i (at i) (at i) (are i below))
    (stands.cores.each i (at i) (omega (arith, below, stands.cores.number)))

-- it shows what the account shows
shown_at : (m : World) (w : WorldState) (at : ℕ → SiteState) → AreCores w at → StandsForWorld m w → (i : ℕ) → i < length w.cores → core_view (at i) ≡ view_of (account_at m i)
shown_at m w at are stands i below =
    same_view (core_view (at i)) (at i).sessions (account_at m i) (core_at m w at are stands i below).shows

-- there are as many cores as sites
count_of : (m : World) (w : WorldState) → StandsForWorld m w → length w.cores ≡ m.layout.sites
count_of m w stands = stands.cores.number ∙ (sound_reached m stands.reached).number

-- the own row that a site's book shows is what the site did
own_shown : (m : World) (w : WorldState) (at : ℕ → SiteState) → AreCores w at → StandsForWorld m w → (j : ℕ) → j < length w.cores → (r : ℕ) (cell : Cell) → counter_of (at j).book r j cell ≡ own (account_at m j) r cell
own_shown m w at are stands j below r cell =
    let a = account_at m j in
    let same : a.origin.site ≡ j = (sound_reached m stands.reached).family.same_site j (omega (arith, below, count_of m w stands)) in
    (core_at m w at are stands j below).shows.counters r j cell ∙ subst (λ (s : ℕ). known a r s cell ≡ own a r cell) same (known_own a r cell)

-- the seats that a site's sessions take
seats_shown_at : (m : World) (w : WorldState) (at : ℕ → SiteState) → AreCores w at → StandsForWorld m w → (i : ℕ) → i < length w.cores → (r : ℕ) → session_total (weight (seats_in (at i).layout r)) r (at i).sessions ≡ inside (account_at m i) r
seats_shown_at m w at are stands i below r =
    let shows = (core_at m w at are stands i below).shows in
    ap (λ (l : LayoutState). session_total (weight (seats_in l r)) r (at i).sessions) shows.layout
    ∙ ap (λ (ss : List Session). session_total (weight (seats_in (account_at m i).origin.layout r)) r ss) shows.order_kept

-- seats are conserved
shares : (m : World) (w : WorldState) (at : ℕ → SiteState) → AreCores w at → StandsForWorld m w → (r : ℕ) → SharesSeats w.layout at r
shares m w at are stands r = subst (λ (l : LayoutState). SharesSeats l at r) (sym stands.layout) whole
  where
    n : ℕ
    n = m.layout.sites

    there : (i : ℕ) → i < n → i < length w.cores
    there i below = omega (arith, below, count_of m w stands)

    law : IsConserved m r
    law = conservation m stands.reached r

    rights : rights_together at n r ≡ all_rights (account_at m) n r
    rights =
        total_same n (λ i. rights_of (core_view (at i)) r) (λ i. rights_of (view_of (account_at m i)) r)
        (λ i below. ap (λ (v : View). rights_of v r) (shown_at m w at are stands i (there i below)))

    seats : seats_together at n r ≡ all_inside (account_at m) n r
    seats =
        total_same n (λ i. session_total (weight (seats_in (at i).layout r)) r (at i).sessions) (λ i. inside (account_at m i) r)
        (λ i below. seats_shown_at m w at are stands i (there i below) r)

    one : (i j : ℕ) → i < n → j < n → counter_of (at j).book r j (Out i) - counter_of (at i).book r j (Out i) ≡ in_flight (account_at m) r j i
    one i j below other =
        ap (λ (x : ℕ). x - counter_of (at i).book r j (Out i)) (own_shown m w at are stands j (there j other) r (Out i))
        ∙ ap (λ (x : ℕ). own (account_at m j) r (Out i) - x) ((core_at m w at are stands i (there i below)).shows.counters r j (Out i))

    between : seats_between at n r ≡ all_in_flight (account_at m) n r
    between =
        total_same n (λ i. total_others n i (λ j. counter_of (at j).book r j (Out i) - counter_of (at i).book r j (Out i))) (λ i. total_others n i (λ j. in_flight (account_at m) r j i))
        (λ i below. total_others_same n i (λ j. counter_of (at j).book r j (Out i) - counter_of (at i).book r j (Out i)) (λ j. in_flight (account_at m) r j i)
        (λ j other ne. one i j below other))

    together : seats_in m.layout r ≡ rights_together at n r + (seats_together at n r + seats_between at n r)
    together =
        law.seats
        ∙ sym (ap (λ (x : ℕ). x + (seats_together at n r + seats_between at n r)) rights
        ∙ (ap (λ (x : ℕ). all_rights (account_at m) n r + (x + seats_between at n r)) seats
        ∙ ap (λ (x : ℕ). all_rights (account_at m) n r + (all_inside (account_at m) n r + x)) between))

    whole : SharesSeats m.layout at r
    whole = record {
      seats = together;
      never_below = λ i below.
          subst (λ (v : View). spent v r ≤ gained v r) (sym (shown_at m w at are stands i (there i below))) (law.never_below i below);
    }

-- books with equal counters are equal
equal_by_counters : (x y : BookState) → IsBook x → IsBook y → book_shape y ≡ book_shape x → ((r s : ℕ) (cell : Cell) → counter_of x r s cell ≡ counter_of y r s cell) → x ≡ y
equal_by_counters x y is_x is_y shape same =
    same_from_names x y is_x is_y shape
    (λ r s cell k. (
      subst (λ (n : ℕ). ReachesUnit n k) (same r s cell),
      subst (λ (n : ℕ). ReachesUnit n k) (sym (same r s cell)),
    ))

-- the records that a core's book is of
records_shown : (m : World) (w : WorldState) (at : ℕ → SiteState) → AreCores w at → StandsForWorld m w → (i : ℕ) → i < length w.cores → (book_shape (at i).book).records ≡ map record_shape m.layout.records
records_shown m w at are stands i below =
    let core = core_at m w at are stands i below in
    ap (λ (shape : Shape). shape.records) (sym core.shape)
    ∙ (ap (λ (l : LayoutState). map record_shape l.records) core.shows.layout
    ∙ ap (map record_shape) ((sound_reached m stands.reached).family.same_records i (omega (arith, below, count_of m w stands))))

-- sites that know the same units have equal books
pub equal_books_of : (m : World) (w : WorldState) → StandsForWorld m w → HasEqualBooks w
equal_books_of m w stands = λ at are n for i j below other same.
    let one = core_at n w at are for i below in
    let two = core_at n w at are for j other in
    let counters : (r s : ℕ) (cell : Cell) → counter_of (at i).book r s cell ≡ counter_of (at j).book r s cell =
    λ r s cell.
    one.shows.counters r s cell
    ∙ (equal_books n for.reached i j (omega (arith, below, count_of n w for)) (omega (arith, other, count_of n w for)) same r s cell
    ∙ sym (two.shows.counters r s cell)) in
    let records : (book_shape (at j).book).records ≡ (book_shape (at i).book).records =
    records_shown n w at are for j other ∙ sym (records_shown n w at are for i below) in
    record {
      counters = counters;
      equal = λ sites. equal_by_counters (at i).book (at j).book one.book two.book (λ k. record { sites = sym sites k; records = records k }) counters;
      widened = λ x y is_x is_y wide_x wide_y.
          equal_by_counters x y is_x is_y (wide_y.shape ∙ sym wide_x.shape)
          (λ r s cell. wide_x.counters r s cell ∙ (counters r s cell ∙ sym (wide_y.counters r s cell)));
    }

-- each world does
pub equal_books_world : (w : WorldState) → IsWorldState w → HasEqualBooks w
equal_books_world w is = equal_books_of is.model w is.stands

-- a world that stands for a world of the model is safe
pub safe_of : (m : World) (w : WorldState) → StandsForWorld m w → IsSafeWorld w
safe_of m w stands = λ at are. record {
  conserved = shares m w at are stands;
  writer_alone = λ i j r h k below other writer also.
      exclusion m stands.reached r i j h k (omega (arith, below, count_of m w stands)) (omega (arith, other, count_of m w stands))
      (sym ((core_at m w at are stands i below).shows.phases r h) ∙ writer)
      (subst IsInside ((core_at m w at are stands j other).shows.phases r k) also);
}

-- each world does
pub safe_world : (w : WorldState) → IsWorldState w → IsSafeWorld w
safe_world w is = safe_of is.model w is.stands

-- a refusal that only a delta meets
abbrev pub is_of_delta : Refusal → Bool
is_of_delta (OtherLayout row) = true
is_of_delta (BadRow row) = true
is_of_delta (OwnRowAhead r) = true
is_of_delta _ = false

-- no line of a table has such a refusal
abbrev none_of_delta : List Line → Type 0
none_of_delta [] = Unit {0}
none_of_delta (l ∷ ls) = (is_of_delta l.refusal ≡ false) × none_of_delta ls

not_first : (ls : List Line) → none_of_delta ls → (x : Refusal) → first_reason ls ≡ Some x → is_of_delta x ≡ false
not_first [] none x e = cc
not_first (l ∷ ls) none x e = at l.test refl (not_first ls none.1 x)
  where
    same_refusal : (x y : Refusal) → ◌≡◌ {A = Option Refusal} (Some x) (Some y) → x ≡ y
    same_refusal x y e = cc

    at : (b : Bool) → l.test ≡ b → (first_reason ls ≡ Some x → is_of_delta x ≡ false) → is_of_delta x ≡ false
    at true t later =
        let same : l.refusal ≡ x = same_refusal l.refusal x (sym (cond-true l.test (Some l.refusal) (first_reason ls) t) ∙ e) in
        subst (λ (y : Refusal). is_of_delta y ≡ false) same none.0
    at false t later = later (sym (cond-false l.test (Some l.refusal) (first_reason ls) t) ∙ e)

-- nothing that a caller asks does
none_asked : (v : View) (ask : Ask) → none_of_delta (ask_lines v ask)
none_asked v (Read r h) = (refl, (refl, (refl, (refl, (refl, (refl, tt))))))
none_asked v (Announce r h) = (refl, (refl, (refl, (refl, (refl, tt)))))
none_asked v (Quill r h) = (refl, (refl, (refl, (refl, (refl, (refl, tt))))))
none_asked v (Leave r h) = (refl, (refl, (refl, tt)))
none_asked v (Give r to seats) = (refl, (refl, (refl, (refl, (refl, (refl, tt))))))
none_asked v (Help r) = (refl, (refl, (refl, tt)))

same_refused : (x y : Refusal) → ◌≡◌ {A = WorldReply} (Core (Refused x)) (Core (Refused y)) → x ≡ y
same_refused x y e = cc

-- a delta that was sent is refused for the layout alone
record IsOfLayout (x : Refusal) : Type 0 where
  row : ℕ
  same : x ≡ OtherLayout row

-- an answer to a message, where it is a refusal
of_layout : (reply : WorldReply) (x : Refusal) → IsMergedReply reply ⊎ IsOtherLayoutReply reply → reply ≡ Core (Refused x) → IsOfLayout x
of_layout reply x (inl (raised, merged)) e = absurd (no (sym merged ∙ e))
  where
    no : ◌≡◌ {A = WorldReply} (Core (Merged raised)) (Core (Refused x)) → ⊥
    no same = cc
of_layout reply x (inr (row, other)) e = record { row = row; same = same_refused x (OtherLayout row) (sym e ∙ other) }

-- and then the site does not know all sites
fewer : (m : World) (i : ℕ) (reply : WorldReply) (x : Refusal) → IsReachedWorld m → i < m.layout.sites → (KnowsAllSites m i → IsMergedReply reply) → reply ≡ Core (Refused x) → (account_at m i).sites < m.layout.sites
fewer m i reply x is below merged e = at (cases_eq (account_at m i).sites m.layout.sites)
  where
    no : (raised : ℕ) → ◌≡◌ {A = WorldReply} (Core (Merged raised)) (Core (Refused x)) → ⊥
    no raised same = cc

    at : ((account_at m i).sites ≡ m.layout.sites) ⊎ ((account_at m i).sites ≡ m.layout.sites → ⊥) → (account_at m i).sites < m.layout.sites
    at (inl all) =
        let done = merged (record { there = below; all = all }) in
        absurd (no done.0 (sym done.1 ∙ e))
    at (inr ne) = omega (arith, ne, (sound_reached m is).family.few_sites i below)

-- what an event is refused for that only deltas are refused for
record IsRefusedDelta (m : World) (event : Event) (x : Refusal) : Type 0 where
  layout : IsOfLayout x
  few : (account_at m (place_of event)).sites < m.layout.sites

refused_delta : (m : World) (event : Event) (x : Refusal) → IsReachedWorld m → is_of_delta x ≡ true → world_reply m event ≡ Core (Refused x) → IsRefusedDelta m event x
refused_delta m event x is of_delta e = placed (ltb (place_of event) (length m.sites)) refl
  where
    number : length m.sites ≡ m.layout.sites
    number = (sound_reached m is).number

    asked : (i : ℕ) (ask : Ask) → reply_here m (Call i ask) ≡ Core (Refused x) → ⊥
    asked i ask here =
        let v = view_of (account_at m i) in
        let told : reply_of v (AskCall ask) ≡ Refused x = same_core (reply_of v (AskCall ask)) (Refused x) here in
        differ (sym of_delta ∙ not_first (ask_lines v ask) (none_asked v ask) x (reason_told v (AskCall ask) x told))
      where
        differ : true ≡ false → ⊥
        differ same = cc

        same_core : (p q : Reply) → ◌≡◌ {A = WorldReply} (Core p) (Core q) → p ≡ q
        same_core p q same = cc

    missing : ◌≡◌ {A = WorldReply} NoMessage (Core (Refused x)) → ⊥
    missing same = cc

    here : (event : Event) → place_of event < m.layout.sites → world_reply m event ≡ reply_here m event → reply_here m event ≡ Core (Refused x) → IsRefusedDelta m event x
    here (Call i ask) below whole told = absurd (asked i ask told)
    here (Send i) below whole told = absurd (no told)
      where
        no : ◌≡◌ {A = WorldReply} (Sent (length m.sent)) (Core (Refused x)) → ⊥
        no same = cc
    here (Take i k) below whole told = at (slice_get m.sent k) refl
      where
        at : (o : Option DeltaState) → slice_get m.sent k ≡ o → IsRefusedDelta m (Take i k) x
        at None none = absurd (missing (sym (ap (reply_taken m i) none) ∙ told))
        at (Some d) some =
            let there : k < length m.sent = slice_get_within m.sent k d some in
            record {
              layout = of_layout (world_reply m (Take i k)) x (message_answered m is i k below there) (whole ∙ told);
              few = fewer m i (world_reply m (Take i k)) x is below (λ all. message_merged m is i k all there) (whole ∙ told);
            }
    here (Thin i k l) below whole told = at (slice_get m.sent k) (slice_get m.sent l) refl refl
      where
        at : (o p : Option DeltaState) → slice_get m.sent k ≡ o → slice_get m.sent l ≡ p → IsRefusedDelta m (Thin i k l) x
        at None p none earlier = absurd (missing (sym (ap (λ (q : Option DeltaState). reply_taken m i (thin_message q (slice_get m.sent l))) none) ∙ told))
        at (Some d) None some none =
            absurd (missing (sym (ap (λ (q : Option DeltaState). reply_taken m i (thin_message q (slice_get m.sent l))) some
            ∙ ap (λ (q : Option DeltaState). reply_taken m i (thin_message (Some d) q)) none) ∙ told))
        at (Some d) (Some p) some earlier =
            let there : k < length m.sent = slice_get_within m.sent k d some in
            let before : l < length m.sent = slice_get_within m.sent l p earlier in
            record {
              layout = of_layout (world_reply m (Thin i k l)) x (thin_answered m is i k l below there before) (whole ∙ told);
              few = fewer m i (world_reply m (Thin i k l)) x is below (λ all. thin_merged m is i k l all there before) (whole ∙ told);
            }
    here (Restart i) below whole told = absurd (no told)
      where
        no : ◌≡◌ {A = WorldReply} Restarted (Core (Refused x)) → ⊥
        no same = cc
    here (Grow i) below whole told = absurd (at (ltb (account_at m i).sites m.layout.sites) told)
      where
        at : (b : Bool) → cond b Grown NoGrowth ≡ Core (Refused x) → ⊥
        at true same = cc
        at false same = cc

    placed : (b : Bool) → ltb (place_of event) (length m.sites) ≡ b → IsRefusedDelta m event x
    placed true t =
        let whole : world_reply m event ≡ reply_here m event = cond-true (ltb (place_of event) (length m.sites)) (reply_here m event) NoSite t in
        here event (omega (arith, ltb-true (place_of event) (length m.sites) t, number)) whole (sym whole ∙ e)
    placed false t = absurd (no (sym (cond-false (ltb (place_of event) (length m.sites)) (reply_here m event) NoSite t) ∙ e))
      where
        no : ◌≡◌ {A = WorldReply} NoSite (Core (Refused x)) → ⊥
        no same = cc

-- a reply of a core is no want of memory
not_wanting : (reply : WorldReply) (r : Reply) → reply ≡ Core r → is_wanting reply ≡ false
not_wanting reply r e = ap is_wanting e

-- an event leaves the layout
stepped_layout : (m : World) (event : Event) (reply : WorldReply) → (stepped m event reply).layout ≡ m.layout
stepped_layout m event reply = at (is_wanting reply)
  where
    at : (b : Bool) → (cond b m (happens m event)).layout ≡ m.layout
    at true = refl
    at false = run_layout (event ∷ []) m

pub same_layout : (old new : WorldState) (event : Event) (reply : WorldReply) → IsWorldState old → IsStep old new event reply → new.layout ≡ old.layout
same_layout old new event reply is step =
    (step.world is.model is.stands).layout ∙ (stepped_layout is.model event reply ∙ sym is.stands.layout)

-- what no event does
pub lawful : (old new : WorldState) (event : Event) (reply : WorldReply) → IsWorldState old → IsStep old new event reply → IsLawfulStep old new event reply
lawful old new event reply is step = λ before after are become. record {
  announced_first = λ i r h s below read second unfinished admitted.
      none_read m reached i r h s (omega (arith, below, count)) (subst (λ (l : LayoutState). problem_in l r ≡ 2) stands.layout second)
      (shown_less before are i below r s unfinished)
      (subst (λ (x : Event). world_reply m x ≡ Core Admitted) read (sym (answered (not_wanting reply Admitted admitted)) ∙ admitted));
  announced_named = λ i r h s below read second may first. named before are i r h s below read second may first;
  announced_kept = λ i r s below. kept before after are become i below r s Ann (stays i r s Ann (announced_stays m event i r s));
  finished_kept = λ i r s below. kept before after are become i below r s Fin (stays i r s Fin (finished_stays m event i r s));
  none_ahead = λ r e. absurd (no_ahead r (delta (OwnRowAhead r) refl e).layout);
  none_bad = λ row e. absurd (no_bad row (delta (BadRow row) refl e).layout);
  other_layout = λ row e.
      let few = (delta (OtherLayout row) refl e).few in
      let below : place_of event < length old.cores = there e in
      omega (arith, few, ap (λ (l : LayoutState). l.sites) (core_at m old before are stands (place_of event) below).shows.layout, ap (λ (l : LayoutState). l.sites) stands.layout);
}
  where
    m : World
    m = is.model

    stands : StandsForWorld m old
    stands = is.stands

    reached : IsReachedWorld m
    reached = stands.reached

    count : length old.cores ≡ m.layout.sites
    count = count_of m old stands

    answered : is_wanting reply ≡ false → reply ≡ world_reply m event
    answered wanting = step.answered wanting m stands

    named : (at : ℕ → SiteState) → AreCores old at → (i r h s : ℕ) → i < length old.cores → event ≡ Call i (Read r h) → problem_in old.layout r ≡ 2 → MayAsk (core_view (at i)) r h → IsFirstUnfinished (core_view (at i)) r s → reply ≡ Core (Refused (WriterAnnounced s))
    named at are i r h s below read second may first =
        let v = view_of (account_at m i) in
        let shown : core_view (at i) ≡ v = shown_at m old at are stands i below in
        let sound = sound_reached m reached in
        let there : i < m.layout.sites = omega (arith, below, count) in
        let two : problem_in v.layout r ≡ 2 = problem_here m i r sound there ∙ subst (λ (l : LayoutState). problem_in l r ≡ 2) stands.layout second in
        let told : reply_of v (AskCall (Read r h)) ≡ Refused (WriterAnnounced s) =
        reader_held v r h s two (subst (λ (u : View). MayAsk u r h) shown may) (subst (λ (u : View). IsFirstUnfinished u r s) shown first) in
        let sure : certain_reply m (Call i (Read r h)) ≡ Some (Core (Refused (WriterAnnounced s))) =
        cond-true (ltb i (length m.sites)) (certain_here m (Call i (Read r h))) (Some NoSite) (lt-ltb i (length m.sites) (omega (arith, there, sound.number)))
        ∙ ap refused_by (reason_told v (AskCall (Read r h)) (WriterAnnounced s) told) in
        step.certain (Core (Refused (WriterAnnounced s))) m stands
        (subst (λ (x : Event). certain_reply m x ≡ Some (Core (Refused (WriterAnnounced s)))) (sym read) sure)

    delta : (x : Refusal) → is_of_delta x ≡ true → reply ≡ Core (Refused x) → IsRefusedDelta m event x
    delta x of_delta e = refused_delta m event x reached of_delta (sym (answered (not_wanting reply (Refused x) e)) ∙ e)

    no_ahead : (r : ℕ) → IsOfLayout (OwnRowAhead r) → ⊥
    no_ahead r same = differ same.row same.same
      where
        differ : (row : ℕ) → ◌≡◌ {A = Refusal} (OwnRowAhead r) (OtherLayout row) → ⊥
        differ row e = cc

    no_bad : (row : ℕ) → IsOfLayout (BadRow row) → ⊥
    no_bad row same = differ same.row same.same
      where
        differ : (other : ℕ) → ◌≡◌ {A = Refusal} (BadRow row) (OtherLayout other) → ⊥
        differ other e = cc

    -- the site of a reply that a core gave is there
    there : {r : Reply} → reply ≡ Core r → place_of event < length old.cores
    there {r} e = at (ltb (place_of event) (length m.sites)) refl
      where
        no : ◌≡◌ {A = WorldReply} NoSite (Core r) → ⊥
        no same = cc

        at : (b : Bool) → ltb (place_of event) (length m.sites) ≡ b → place_of event < length old.cores
        at true t = omega (arith, ltb-true (place_of event) (length m.sites) t, stands.cores.number)
        at false t =
            absurd (no (sym (cond-false (ltb (place_of event) (length m.sites)) (reply_here m event) NoSite t) ∙ (sym (answered (not_wanting reply r e)) ∙ e)))

    shown_less : (before : ℕ → SiteState) → AreCores old before → (i : ℕ) → i < length old.cores → (r s : ℕ) → counter_of (before i).book r s Fin < counter_of (before i).book r s Ann → known (account_at m i) r s Fin < known (account_at m i) r s Ann
    shown_less before are i below r s less =
        let shows = (core_at m old before are stands i below).shows in
        omega (arith, less, shows.counters r s Fin, shows.counters r s Ann)

    -- the model after the event
    next : World
    next = stepped m event reply

    next_count : length new.cores ≡ m.layout.sites
    next_count = count_of next new (step.world m stands) ∙ ap (λ (l : LayoutState). l.sites) (stepped_layout m event reply)

    stays : (i r s : ℕ) (cell : Cell) → known (account_at m i) r s cell ≤ known (account_at (happens m event) i) r s cell → known (account_at m i) r s cell ≤ known (account_at next i) r s cell
    stays i r s cell less = at (is_wanting reply)
      where
        at : (b : Bool) → known (account_at m i) r s cell ≤ known (account_at (cond b m (happens m event)) i) r s cell
        at true = omega arith
        at false = less

    kept : (before after : ℕ → SiteState) → AreCores old before → AreCores new after → (i : ℕ) → i < length old.cores → (r s : ℕ) (cell : Cell) → known (account_at m i) r s cell ≤ known (account_at next i) r s cell → counter_of (before i).book r s cell ≤ counter_of (after i).book r s cell
    kept before after are become i below r s cell less =
        omega (
          arith,
          less,
          (core_at m old before are stands i below).shows.counters r s cell,
          (core_at next new after become (step.world m stands) i (omega (arith, below, count, next_count))).shows.counters r s cell,
        )
