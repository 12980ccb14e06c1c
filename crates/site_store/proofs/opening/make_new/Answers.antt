use Rattle.std.proofs.Common.{◌≡◌, List, ℕ, Result, Err, refl, sym, ap, subst, arith}
use Rattle.std.proofs.lemmas.Result.{err_from_is_err_and}
use Rattle.store_tables.specs.declared.error.TableError.{TableError}
use Rattle.layout_line.specs.Line.{line_of}
use Rattle.store_rows.specs.Holding.{Keeps}
use Rattle.store_tables.specs.Kept.{connection_of}
use Rattle.store_tables.specs.Transacts.{made}
use Rattle.site_store.proofs.OpenLemmas.{made_content}
use Rattle.site_store.proofs.OwnLemmas.{memory_cause, table_cause}
use Rattle.site_store.specs.SiteText.{named, site_text}
use Rattle.site_store.specs.Opened.{IsDeviceCause}
use Rattle.site_store.proofs.opening.make_new.Goals as goal

abbrev error : TableError → Result (Unit {0}) TableError
error e = Err e

pub returns-clause-made : goal.returns-clause-made
returns-clause-made g c blank = λ clean.
    let row = site_text c.args.site (named c.args.group) in
    let text : c.as_str.result.now ≡ row = grind (arith, c.as_str.ensures.value, c.in_ok-own.ensures) in
    let keeps = c.in_ok-make.ensures.ok blank in
    let line = subst (λ (t : List ℕ). Keeps g.S.Store (connection_of c.make.new.self) (made c.as_str.result.now t)) c.requires keeps in
    record {
      own = record { second = refl; its_site = refl; its_layout = refl; content = made_content row (line_of c.args.layout.now) };
      kept = subst (λ (t : List ℕ). Keeps g.S.Store (connection_of c.make.new.self) (made t (line_of c.args.layout.now))) text line;
      known = c.new.ensures (made row (line_of c.args.layout.now)) refl refl;
    }

pub returns-in_err-own-clause-device : goal.returns-in_err-own-clause-device
returns-in_err-own-clause-device g c =
    let p = err_from_is_err_and c.from_residual.result c.from_residual.ensures.1 in
    rw p.1 (memory_cause p.0 p.2)

pub returns-in_err-make-clause-device : goal.returns-in_err-make-clause-device
returns-in_err-make-clause-device g c =
    let p = err_from_is_err_and c.from_residual-in_err-make.result c.from_residual-in_err-make.ensures.1 in
    rw p.1 (subst IsDeviceCause (sym p.2) (table_cause _ (λ is. c.in_err-make.ensures.kind (ap error is))))
