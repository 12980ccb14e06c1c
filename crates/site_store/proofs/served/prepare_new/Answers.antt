use Rattle.std.proofs.Common.{inr, Option, Result, Err, sym, ap, subst}
use Rattle.std.proofs.lemmas.Result.{err_from_is_err_and}
use Rattle.store_rows.specs.Rows.{Stored}
use Rattle.store_tables.specs.Kept.{connection_of}
use Rattle.store_tables.specs.declared.error.TableError.{TableError}
use Rattle.site_store.specs.Errors.{open_error}
use Rattle.site_store.specs.SiteText.{named}
use Rattle.site_store.specs.Served.{IsDevice, IsLeftOfNothing}
use Rattle.site_store.proofs.OwnLemmas.{table_cause}
use Rattle.site_store.proofs.ServedLemmas.{device_of, device_two, kept_nothing, left_nothing}
use Rattle.site_store.proofs.served.prepare_new.Goals as goal

abbrev error : TableError → Result (Option Stored) TableError
error e = Err e

pub returns-in-Ok-make_new-clause-made : goal.returns-in-Ok-make_new-clause-made
returns-in-Ok-make_new-clause-made g c = record { ready = λ none. c.in-Ok-make_new.ensures.made (c.in-Ok.ensures.looks.fresh none); device = λ keeps. tt; left = λ keeps. tt }

pub returns-in-Ok-clause-made : goal.returns-in-Ok-clause-made
returns-in-Ok-clause-made g c =
    let conn = connection_of c.make_new.new.tables in
    record {
      ready = λ none. tt;
      device = λ keeps clean. subst IsDevice (sym c.from.ensures) (device_of c.in-Err-make_new.error c.in-Err-make_new.ensures.device);
      left = λ keeps.
          subst (IsLeftOfNothing g.S.Store c.args.layout.now c.args.site (named c.args.group) conn) (sym c.from.ensures)
          (left_nothing g.S.Store conn c.args.layout.now c.args.site (named c.args.group) c.in-Err-make_new.error (c.in-Err-make_new.ensures.made (c.in-Ok.ensures.keeps.bare keeps)).left);
    }

pub returns-in-Ok-clause-judged : goal.returns-in-Ok-clause-judged
returns-in-Ok-clause-judged g c = λ other room.
    absurd (device_two _ (subst IsDevice (sym c.from.ensures) (device_of c.in-Err-make_new.error c.in-Err-make_new.ensures.device)) other room)

pub returns-clause-made : goal.returns-clause-made
returns-clause-made g c =
    let conn = connection_of c.look.new.self in
    record {
      ready = λ none. tt;
      device = λ keeps clean. subst IsDevice (sym c.from-in-Err.ensures) (device_of (open_error c.in-Err.error) (table_cause c.in-Err.error (λ is. (c.in-Err.ensures.looks.blank keeps clean).1 (ap error is))));
      left = λ keeps.
          subst (IsLeftOfNothing g.S.Store c.args.layout.now c.args.site (named c.args.group) conn) (sym c.from-in-Err.ensures)
          (kept_nothing g.S.Store conn c.args.layout.now c.args.site (named c.args.group) _ (c.in-Err.ensures.keeps.bare keeps));
    }

pub returns-in_err-line-clause-made : goal.returns-in_err-line-clause-made
returns-in_err-line-clause-made g c =
    let p = err_from_is_err_and c.from_residual.result c.from_residual.ensures.1 in
    rw p.1 (record {
      ready = λ none. tt;
      device = λ keeps clean. inr p.2;
      left = λ keeps. kept_nothing g.S.Store (connection_of c.args.tables.now) c.args.layout.now c.args.site (named c.args.group) p.0 keeps;
    })

pub returns-in_err-line-clause-judged : goal.returns-in_err-line-clause-judged
returns-in_err-line-clause-judged g c =
    let p = err_from_is_err_and c.from_residual.result c.from_residual.ensures.1 in
    rw p.1 (λ other room. absurd (room p.2))
