use Rattle.std.proofs.Common.{◌++◌, ◌∙◌, codes, Option, Some, refl, ap, subst}
use Rattle.site_script.specs.declared.lines.Said.{Said}
use Rattle.site_script.specs.Lines.{Says}
use Rattle.serve_engine.proofs.request.taken_text.Goals as goal

pub returns-in-Some-Asked : goal.returns-in-Some-Asked
returns-in-Some-Asked c = λ records.
    subst (λ (o : Option Said). Says records (codes "take " ++ c.args.text.now) o) (c.in-Some-Asked.is ∙ ap Some c.in-Some-Asked.field-0-is) (c.in_ok-call.ensures records)

pub returns-in-Some-Unread : goal.returns-in-Some-Unread
returns-in-Some-Unread c = λ records.
    subst (λ (o : Option Said). Says records (codes "take " ++ c.args.text.now) o) (c.in-Some-Unread.is ∙ ap Some c.in-Some-Unread.field-0-is) (c.in_ok-call.ensures records)

pub returns-in-None : goal.returns-in-None
returns-in-None c = λ records. record {
  says_nothing = subst (λ (o : Option Said). Says records (codes "take " ++ c.args.text.now) o) c.in-None.is (c.in_ok-call.ensures records);
  no_show = refl;
  no_sessions = refl;
  no_fence = refl;
}
