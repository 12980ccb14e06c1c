-- What the book of a site in a world tells of the site's account.
use Rattle.std.proofs.Common.{◌≡◌, ℕ, ◌<◌, List, length, get_or, sym, ap, subst, ◌∙◌, arith}
use Rattle.std.specs.Prelude.{All}
use Rattle.std.proofs.lemmas.List.{get_or_default}
use Rattle.merge_core.specs.Seats.{seat_rights, inside_of, HasSeatRights}
use Rattle.merge_core.specs.Notices.{open_count}
use Rattle.merge_core.specs.declared.layout.RecordSpec.{RecordSpec}
use Rattle.merge_core.specs.Layout.{LayoutState}
use Rattle.merge_core.specs.Book.{BookState, seats_at, notices_at}
use Rattle.session_list.specs.declared.session.Session.{Session}
use Rattle.admission_model.specs.Account.{Account, sessions_of}
use Rattle.admission_model.specs.View.{view_of}
use Rattle.admission_model.specs.Books.{HasBook}
use Rattle.admission_model.proofs.LawLemmas.{sessions}
use Rattle.admission_model.proofs.BookLemmas.{layout_sites, layout_records, rights_in, rights_there, inside_there, open_here}
use Rattle.admission_model.proofs.RestoringLemmas.{stored_sessions}
use Rattle.admission_core.specs.Core.{Core as SiteState, Stands}
use Rattle.admission_core.proofs.CoreLemmas.{has_book}
use Rattle.multi_site_world.specs.World.{World, account_at}
use Rattle.multi_site_world.specs.Worlds.{WorldState, StandsForWorld, IsWorldState}
use Rattle.multi_site_world.proofs.EventLemmas.{sound_reached}
use Rattle.multi_site_world.proofs.ReachedLemmas.{all_reached}
use Rattle.multi_site_world.proofs.WorldLemmas.{IsSoundWorld}
use Rattle.multi_site_world.proofs.WorldCode.{stands_at}
use Rattle.audit_report.specs.declared.lines.SeatCounts.{SeatCounts}
use Rattle.audit_report.specs.Lines.{seat_line}
use Rattle.audit_report.specs.Tables.{name_in, counts_in, seat_row}

-- the book of site i of a world, and its account's
pub record IsBookAt (m : World) (i : ℕ) (b : BookState) : Type 0 where
  pub has : HasBook (account_at m i) b
  pub site : (account_at m i).origin.site ≡ i
  pub records : length b.records ≡ length m.layout.records
  pub there : i < b.sites

module _ (m : World) (w : WorldState) (i : ℕ) (core none : SiteState) (is : core ≡ get_or w.cores i none) (below : i < w.layout.sites) (stands : StandsForWorld m w) where
  sound : IsSoundWorld m
  sound = sound_reached m stands.reached

  there : i < m.layout.sites
  there = omega (arith, below, ap (λ (l : LayoutState). l.sites) stands.layout)

  -- the core at a site stands for its account
  pub core_stands : Stands (account_at m i) core
  core_stands = stands_at m w i core none is (omega (arith, there, sound.number, stands.cores.number)) stands

  has : HasBook (account_at m i) core.book
  has = has_book (account_at m i) core core_stands

  pub book_at : IsBookAt m i core.book
  book_at = record {
    has = has;
    site = sound.family.same_site i there;
    records =
        sym (layout_records core.book (view_of (account_at m i)) has.shows)
        ∙ ap (λ (rs : List RecordSpec). length rs) (sound.family.same_records i there);
    there = omega (
      arith,
      (sound.family.sound i there).site_there,
      sound.family.same_site i there,
      layout_sites core.book (view_of (account_at m i)) has.shows,
    );
  }

-- the sessions of a site are at records of the world's layout
pub sessions_there : (m : World) (w : WorldState) (i : ℕ) → i < w.layout.sites → StandsForWorld m w → All (λ s. s.r < length w.layout.records) (sessions_of (account_at m i))
sessions_there m w i below stands =
    let sound : IsSoundWorld m = sound_reached m stands.reached in
    let there : i < m.layout.sites = omega (arith, below, ap (λ (l : LayoutState). l.sites) stands.layout) in
    subst (λ (rs : List RecordSpec). All (λ s. s.r < length rs) (sessions_of (account_at m i)))
    (sound.family.same_records i there ∙ sym (ap (λ (l : LayoutState). l.records) stands.layout))
    (stored_sessions (account_at m i) (all_reached m stands.reached i there) (account_at m i).sites (omega arith)
    (omega (arith, sound.family.few_sites i there, sound.layout.few_sites))).records

-- the same of equal lists
pub sessions_given : (records shown : List RecordSpec) (all list : List Session) → shown ≡ records → list ≡ all → All (λ s. s.r < length records) all → All (λ s. s.r < length shown) list
sessions_given records shown all list same is there =
    subst (λ (rs : List RecordSpec). All (λ s. s.r < length rs) list) (sym same)
    (subst (λ (ss : List Session). All (λ s. s.r < length records) ss) (sym is) there)

-- what a book tells of a record's seats at a site
abbrev pub counts_by : BookState → ℕ → ℕ → SeatCounts
counts_by b r i = record {
  rights = seat_rights (seats_at b r) i;
  inside = inside_of (seats_at b r) i;
  unfinished = open_count (notices_at b r) i;
}

-- the account tells the same
pub counts_told : (m : World) (i r : ℕ) (b : BookState) → IsBookAt m i b → r < length m.layout.records → counts_in (account_at m i) r ≡ counts_by b r i
counts_told m i r b it below = λ k. record { rights = rights k; inside = inside k; unfinished = unfinished k }
  where
    a : Account
    a = account_at m i

    here : r < length b.records
    here = omega (arith, below, it.records)

    rights : (counts_in (account_at m i) r).rights ≡ seat_rights (seats_at b r) i
    rights =
        rights_in b (view_of (account_at m i)) r it.has.is_book it.has.shows here (omega (arith, it.there, it.site))
        ∙ ap (seat_rights (seats_at b r)) it.site

    inside : (counts_in (account_at m i) r).inside ≡ inside_of (seats_at b r) i
    inside = sym (inside_there (account_at m i) b it.has r here) ∙ ap (inside_of (seats_at b r)) it.site

    unfinished : (counts_in (account_at m i) r).unfinished ≡ open_count (notices_at b r) i
    unfinished =
        (sessions (account_at m i) it.has.reached r).writers
        ∙ (sym (open_here (account_at m i) b it.has r here) ∙ ap (open_count (notices_at b r)) it.site)

-- what a call of the book at a site asks for
pub record CanCount (w : WorldState) (i : ℕ) (b : BookState) : Type 0 where
  pub records : length b.records ≡ length w.layout.records
  pub there : i < b.sites
  pub enough : (r : ℕ) → r < length w.layout.records → HasSeatRights (seats_at b r) i

pub can_count : (w : WorldState) (i : ℕ) (core : SiteState) (b : BookState) → IsWorldState w → core ≡ get_or w.cores i core → i < w.layout.sites → b ≡ core.book → CanCount w i b
can_count w i core b is at below same = subst (CanCount w i) (sym same) (record {
  records = it.records ∙ sym records;
  there = it.there;
  enough = λ r inside. subst (λ (j : ℕ). HasSeatRights (seats_at core.book r) j) it.site
      (rights_there (account_at is.model i) core.book it.has r (omega (arith, inside, it.records, records)));
})
  where
    it : IsBookAt is.model i core.book
    it = book_at is.model w i core core at below is.stands

    records : length w.layout.records ≡ length is.model.layout.records
    records = ap (λ (l : LayoutState). length l.records) is.stands.layout

-- the name of a record that is there
pub name_told : (records shown : List RecordSpec) (r k : ℕ) (item : RecordSpec) → shown ≡ records → k ≡ r → r < length records → (get_or shown k item).name ≡ name_in records r
name_told records shown r k item same at below =
    ap (λ (it : RecordSpec). it.name)
    (ap (λ (rs : List RecordSpec). get_or rs k item) same
    ∙ (ap (λ (n : ℕ). get_or records n item) at ∙ get_or_default records r item _ below))

-- the line of a record and a site, by what the site's book tells
pub row_told : (m : World) (w : WorldState) (r i : ℕ) (core : SiteState) (b : BookState) (name : List ℕ) (counts : SeatCounts) → core ≡ get_or w.cores i core → i < w.layout.sites → r < length w.layout.records → b ≡ core.book → name ≡ name_in w.layout.records r → counts ≡ counts_by b r i → StandsForWorld m w → seat_line name i counts ≡ seat_row m r i
row_told m w r i core b name counts at below inside same named counted stands =
    ap (λ (n : List ℕ). seat_line n i counts) (named ∙ ap (λ (l : LayoutState). name_in l.records r) stands.layout)
    ∙ ap (seat_line (name_in m.layout.records r) i)
    (counted ∙ (ap (λ (x : BookState). counts_by x r i) same
    ∙ sym (counts_told m i r core.book (book_at m w i core core at below stands) (omega (arith, inside, ap (λ (l : LayoutState). length l.records) stands.layout)))))
