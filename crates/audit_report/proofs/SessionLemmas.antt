-- How the lines of sessions come to each record's text.
use Rattle.std.proofs.Common.{◌≡◌, ℕ, List, [], ◌++◌, length, get_or, ap, ◌∙◌}
use Rattle.merge_core.specs.Layout.{LayoutState}
use Rattle.session_list.specs.declared.session.Session.{Session}
use Rattle.admission_model.specs.Account.{sessions_of}
use Rattle.multi_site_world.specs.World.{World, account_at}
use Rattle.multi_site_world.specs.Worlds.{WorldState, StandsForWorld}
use Rattle.audit_report.specs.Lines.{texts_below, session_lines}
use Rattle.audit_report.specs.Tables.{name_in, session_rows, session_table, session_header}
use Rattle.audit_report.specs.Writing.{text_at, AddsSessions, AddsSite, HasRows}
use Rattle.audit_report.proofs.TextLemmas.{texts_same}

-- the sessions of a site are added
pub added_site : (w : WorldState) (i : ℕ) (sessions : List Session) (old new : List (List ℕ)) → ((m : World) → StandsForWorld m w → sessions ≡ sessions_of (account_at m i)) → AddsSessions w.layout.records i sessions old new → AddsSite w i old new
added_site w i sessions old new told adds = record {
  number = adds.number;
  lines = λ m stands r inside.
      adds.lines r inside
      ∙ ap (λ (t : List ℕ). text_at old r ++ t)
      (ap (λ (l : LayoutState). session_lines (name_in l.records r) i r sessions) stands.layout
      ∙ ap (session_lines (name_in m.layout.records r) i r) (told m stands));
}

-- all rows make the table
pub rows_told : (m : World) (w : WorldState) (rows : List (List ℕ)) (text : List ℕ) → HasRows w w.layout.sites rows → StandsForWorld m w → text ≡ session_header ++ texts_below (length rows) (λ r. get_or rows r []) → text ≡ session_table m
rows_told m w rows text has stands is =
    is
    ∙ ap (λ (t : List ℕ). session_header ++ t)
    (texts_same (λ r. get_or rows r []) _ (length rows) (has.lines m stands)
    ∙ (ap (λ (n : ℕ). texts_below n (λ r. texts_below w.layout.sites (session_rows m r))) has.number
    ∙ ap (λ (l : LayoutState). texts_below (length l.records) (λ r. texts_below l.sites (session_rows m r))) stands.layout))
