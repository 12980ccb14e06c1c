use Rattle.std.proofs.Common.{◌≡◌, ℕ, ◌+◌, List, length, string_bytes, refl, sym, ap, subst, ◌∙◌, arith, rules}
use Rattle.live_site.specs.Entries.{entry_of}
use Rattle.log_file.specs.Logged.{LogState, HasLogged}
use Rattle.log_file.specs.Mending.{entry_line}
use Rattle.log_file.proofs.LogLemmas.{logged_more}
use Rattle.log_file.proofs.file_log.FileLogCallLog.enter.Goals as goal

pub returns-clause-entered : goal.returns-clause-entered
returns-clause-entered g c = λ first before logged.
    let here = subst (λ (l : LogState g.row.F.Denot). HasLogged g.F.LogFile first before l) (sym c.self.view_is) logged in
    let written : string_bytes c.write_line.new.line ≡ entry_line c.self.inside.layout (entry_of c.args.call.now c.args.reply.now) = search rules in
    let size : c.in-Some.length ≡ c.self.inside.length + length c.as_str.result.now =
    omega (arith, (c.in-Some.ensures {u = tt}).1, c.len.ensures, ap (λ (xs : List ℕ). length xs) c.as_str.ensures.value) in
    logged_more g.F.LogFile first _ _ before (entry_of c.args.call.now c.args.reply.now) c.as_str.result.now here (c.as_str.ensures.value ∙ written)
    (λ start steps did. c.append.ensures.done start steps did c.if-not-append.false) refl size refl
