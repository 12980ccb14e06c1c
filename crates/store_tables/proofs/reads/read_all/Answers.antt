use Rattle.std.proofs.Common.{◌≡◌, List, codes, sym, ap, subst, arith, rules}
use Rattle.sqlite.specs.Effect.{Database}
use Rattle.sqlite_value.specs.Order.{Row}
use Rattle.sqlite.specs.State.{HasCleanDisk}
use Rattle.sqlite.specs.Held.{state}
use Rattle.store_rows.specs.Rows.{version_text}
use Rattle.store_rows.specs.Holding.{HoldsParts, parts_of, mark}
use Rattle.store_tables.specs.Reads.{TellsMark}
use Rattle.store_schema.specs.Tables.{IsSchemaOf}
use Rattle.store_rows.proofs.StepLemmas.{survives_more}
use Rattle.store_tables.proofs.RefusalLemmas.{refused_since}
use Rattle.store_tables.proofs.reads.read_all.Goals as goal

pub returns-clause-read : goal.returns-clause-read
returns-clause-read g c clean it fits h =
    let p = parts_of it in
    let s0 = state g.S.Store c.args.tx.now.conn.now in
    let s1 = state g.S.Store c.read_marks.new.tx.conn.now in
    let s2 = state g.S.Store c.read_cells.new.tx.conn.now in
    let s3 = state g.S.Store c.read_sessions.new.tx.conn.now in
    let clean3 : HasCleanDisk s3 = omega (arith, c.read_notices_of.ensures.survives.clean) in
    let clean2 : HasCleanDisk s2 = omega (arith, c.read_sessions.ensures.survives.clean) in
    let clean1 : HasCleanDisk s1 = omega (arith, c.read_cells.ensures.survives.clean) in
    let marks = c.in_ok-rows.ensures.read clean1 p h in
    let site : c.in_ok-site.site.items ≡ it.site =
    c.in_ok-site.ensures.sound it.site (subst (λ (rows : List Row). TellsMark rows (mark (codes "site") it.site)) (sym c.as_slice-3.ensures.value) marks.0.1.0) in
    let layout : c.in_ok-layout.layout.items ≡ it.layout =
    c.in_ok-layout.ensures.sound it.layout (subst (λ (rows : List Row). TellsMark rows (mark (codes "layout") it.layout)) (sym c.as_slice-4.ensures.value) marks.0.1.1.0) in
    let h1 : HoldsParts p s1.now = subst (HoldsParts p) (sym marks.1) h in
    let cells = c.in_ok-cells.ensures.read clean2 p h1 in
    let h2 : HoldsParts p s2.now = subst (HoldsParts p) (sym cells.1) h1 in
    let sessions = c.in_ok-sessions.ensures.read clean3 p h2 in
    let h3 : HoldsParts p s3.now = subst (HoldsParts p) (sym sessions.1) h2 in
    let notices = c.in_ok-notices.ensures.read clean p fits h3 in
    λ i. record { version = sym fits i; site = site i; layout = layout i; cells = cells.0 i; sessions = sessions.0 i; notices = notices i }

pub returns-in_err-found-clause-own : goal.returns-in_err-found-clause-own
returns-in_err-found-clause-own g c clean it fits h range bad =
    let p = parts_of it in
    let marks = c.in_ok-rows.ensures.read clean p h in
    let kind = c.in_err-found.ensures.own (version_text it.version) (subst (λ (rows : List Row). TellsMark rows (mark (codes "version") (version_text it.version))) (sym c.as_slice.ensures.value) marks.0.0) in
    kind (search rules)

pub returns-then-ne-clause-own : goal.returns-then-ne-clause-own
returns-then-ne-clause-own g c clean it fits h range bad =
    let p = parts_of it in
    let marks = c.in_ok-rows.ensures.read clean p h in
    let same = c.in_ok-found.ensures.sound (version_text it.version) (subst (λ (rows : List Row). TellsMark rows (mark (codes "version") (version_text it.version))) (sym c.as_slice.ensures.value) marks.0.0) in
    let text = c.version_text.ensures in
    let also = ap version_text fits in
    grind arith

pub returns-in_err-site-clause-own : goal.returns-in_err-site-clause-own
returns-in_err-site-clause-own g c clean it fits h range bad =
    let p = parts_of it in
    let marks = c.in_ok-rows.ensures.read clean p h in
    let kind = c.in_err-site.ensures.own it.site (subst (λ (rows : List Row). TellsMark rows (mark (codes "site") it.site)) (sym c.as_slice-3.ensures.value) marks.0.1.0) in
    kind (search rules)

pub returns-in_err-layout-clause-own : goal.returns-in_err-layout-clause-own
returns-in_err-layout-clause-own g c clean it fits h range bad =
    let p = parts_of it in
    let marks = c.in_ok-rows.ensures.read clean p h in
    let kind = c.in_err-layout.ensures.own it.layout (subst (λ (rows : List Row). TellsMark rows (mark (codes "layout") it.layout)) (sym c.as_slice-4.ensures.value) marks.0.1.1.0) in
    kind (search rules)

pub returns-in_err-cells-clause-own : goal.returns-in_err-cells-clause-own
returns-in_err-cells-clause-own g c clean it fits h range bad =
    let p = parts_of it in
    let s1 = state g.S.Store c.read_marks.new.tx.conn.now in
    let clean1 : HasCleanDisk s1 = omega (arith, c.read_cells.ensures.survives.clean) in
    let h1 : HoldsParts p s1.now = subst (HoldsParts p) (sym (c.in_ok-rows.ensures.read clean1 p h).1) h in
    let kind = c.in_err-cells.ensures.own clean p h1 range.cells in
    kind (search rules)

pub returns-in_err-sessions-clause-own : goal.returns-in_err-sessions-clause-own
returns-in_err-sessions-clause-own g c clean it fits h range bad =
    let p = parts_of it in
    let s1 = state g.S.Store c.read_marks.new.tx.conn.now in
    let s2 = state g.S.Store c.read_cells.new.tx.conn.now in
    let clean2 : HasCleanDisk s2 = omega (arith, c.read_sessions.ensures.survives.clean) in
    let clean1 : HasCleanDisk s1 = omega (arith, c.read_cells.ensures.survives.clean) in
    let h1 : HoldsParts p s1.now = subst (HoldsParts p) (sym (c.in_ok-rows.ensures.read clean1 p h).1) h in
    let h2 : HoldsParts p s2.now = subst (HoldsParts p) (sym (c.in_ok-cells.ensures.read clean2 p h1).1) h1 in
    let kind = c.in_err-sessions.ensures.own clean p h2 range.sessions in
    kind (search rules)

pub returns-in_err-notices-clause-own : goal.returns-in_err-notices-clause-own
returns-in_err-notices-clause-own g c clean it fits h range bad =
    let p = parts_of it in
    let s1 = state g.S.Store c.read_marks.new.tx.conn.now in
    let s2 = state g.S.Store c.read_cells.new.tx.conn.now in
    let s3 = state g.S.Store c.read_sessions.new.tx.conn.now in
    let clean3 : HasCleanDisk s3 = omega (arith, c.read_notices_of.ensures.survives.clean) in
    let clean2 : HasCleanDisk s2 = omega (arith, c.read_sessions.ensures.survives.clean) in
    let clean1 : HasCleanDisk s1 = omega (arith, c.read_cells.ensures.survives.clean) in
    let h1 : HoldsParts p s1.now = subst (HoldsParts p) (sym (c.in_ok-rows.ensures.read clean1 p h).1) h in
    let h2 : HoldsParts p s2.now = subst (HoldsParts p) (sym (c.in_ok-cells.ensures.read clean2 p h1).1) h1 in
    let h3 : HoldsParts p s3.now = subst (HoldsParts p) (sym (c.in_ok-sessions.ensures.read clean3 p h2).1) h2 in
    let kind = c.in_err-notices.ensures.own clean p fits h3 range.notices in
    kind (search rules)

-- ---- refused calls

pub returns-in_err-rows-clause-refused : goal.returns-in_err-rows-clause-refused
returns-in_err-rows-clause-refused g c clean has failed = c.in_err-rows.ensures.refused clean c.args.version has (search rules)

pub returns-in_err-found-clause-refused : goal.returns-in_err-found-clause-refused
returns-in_err-found-clause-refused g c clean has failed = let none = c.in_err-found.ensures.unrefused in absurd (none (search rules))

pub returns-in_err-site-clause-refused : goal.returns-in_err-site-clause-refused
returns-in_err-site-clause-refused g c clean has failed = let none = c.in_err-site.ensures.unrefused in absurd (none (search rules))

pub returns-in_err-layout-clause-refused : goal.returns-in_err-layout-clause-refused
returns-in_err-layout-clause-refused g c clean has failed = let none = c.in_err-layout.ensures.unrefused in absurd (none (search rules))

pub returns-in_err-cells-clause-refused : goal.returns-in_err-cells-clause-refused
returns-in_err-cells-clause-refused g c clean has failed =
    let s0 = state g.S.Store c.args.tx.now.conn.now in
    let s1 = state g.S.Store c.read_marks.new.tx.conn.now in
    let s2 = state g.S.Store c.read_cells.new.tx.conn.now in
    let clean1 : HasCleanDisk s1 = omega (arith, c.read_cells.ensures.survives.clean) in
    let has1 : IsSchemaOf c.args.version s1.now.schema = subst (λ (d : Database). IsSchemaOf c.args.version d.schema) (sym (c.in_ok-rows.ensures.same clean1 c.args.version has)) has in
    let why = c.in_err-cells.ensures.refused clean c.args.version has1 in
    refused_since s0 s1 s2 c.read_marks.ensures.survives clean1 c.read_cells.ensures.survives.counts (why (search rules))

pub returns-in_err-sessions-clause-refused : goal.returns-in_err-sessions-clause-refused
returns-in_err-sessions-clause-refused g c clean has failed =
    let s0 = state g.S.Store c.args.tx.now.conn.now in
    let s1 = state g.S.Store c.read_marks.new.tx.conn.now in
    let s2 = state g.S.Store c.read_cells.new.tx.conn.now in
    let s3 = state g.S.Store c.read_sessions.new.tx.conn.now in
    let clean2 : HasCleanDisk s2 = omega (arith, c.read_sessions.ensures.survives.clean) in
    let clean1 : HasCleanDisk s1 = omega (arith, c.read_cells.ensures.survives.clean) in
    let has1 : IsSchemaOf c.args.version s1.now.schema = subst (λ (d : Database). IsSchemaOf c.args.version d.schema) (sym (c.in_ok-rows.ensures.same clean1 c.args.version has)) has in
    let has2 : IsSchemaOf c.args.version s2.now.schema = subst (λ (d : Database). IsSchemaOf c.args.version d.schema) (sym (c.in_ok-cells.ensures.same clean2 c.args.version has1)) has1 in
    let why = c.in_err-sessions.ensures.refused clean c.args.version has2 in
    refused_since s0 s2 s3 (survives_more s0 s1 s2 c.read_marks.ensures.survives c.read_cells.ensures.survives) clean2 c.read_sessions.ensures.survives.counts (why (search rules))

pub returns-in_err-notices-clause-refused : goal.returns-in_err-notices-clause-refused
returns-in_err-notices-clause-refused g c clean has failed =
    let s0 = state g.S.Store c.args.tx.now.conn.now in
    let s1 = state g.S.Store c.read_marks.new.tx.conn.now in
    let s2 = state g.S.Store c.read_cells.new.tx.conn.now in
    let s3 = state g.S.Store c.read_sessions.new.tx.conn.now in
    let s4 = state g.S.Store c.read_notices_of.new.tx.conn.now in
    let clean3 : HasCleanDisk s3 = omega (arith, c.read_notices_of.ensures.survives.clean) in
    let clean2 : HasCleanDisk s2 = omega (arith, c.read_sessions.ensures.survives.clean) in
    let clean1 : HasCleanDisk s1 = omega (arith, c.read_cells.ensures.survives.clean) in
    let has1 : IsSchemaOf c.args.version s1.now.schema = subst (λ (d : Database). IsSchemaOf c.args.version d.schema) (sym (c.in_ok-rows.ensures.same clean1 c.args.version has)) has in
    let has2 : IsSchemaOf c.args.version s2.now.schema = subst (λ (d : Database). IsSchemaOf c.args.version d.schema) (sym (c.in_ok-cells.ensures.same clean2 c.args.version has1)) has1 in
    let has3 : IsSchemaOf c.args.version s3.now.schema = subst (λ (d : Database). IsSchemaOf c.args.version d.schema) (sym (c.in_ok-sessions.ensures.same clean3 c.args.version has2)) has2 in
    let why = c.in_err-notices.ensures.refused clean has3 in
    let early = survives_more s0 s2 s3 (survives_more s0 s1 s2 c.read_marks.ensures.survives c.read_cells.ensures.survives) c.read_sessions.ensures.survives in
    refused_since s0 s3 s4 early clean3 c.read_notices_of.ensures.survives.counts (why (search rules))
