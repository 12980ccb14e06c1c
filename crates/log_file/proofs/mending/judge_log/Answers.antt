use Rattle.std.proofs.Common.{◌≡◌, List, ap, subst, ◌∙◌, rules}
use Rattle.std.specs.Prelude.{MatchOption, string_bytes}
use Rattle.desk_log.specs.declared.entry.Entry.{Entry}
use Rattle.desk_log.specs.declared.transcript.Run.{Run}
use Rattle.desk_log.specs.declared.transcript.Transcript.{Transcript}
use Rattle.log_judge.specs.Cut.{runs_at}
use Rattle.log_file.specs.Runs.{EndsWith, HasNoLast, in_doubt}
use Rattle.log_file.specs.Mending.{entry_line, IsUnfit}
use Rattle.log_file.proofs.MendLemmas.{unfit_with}
use Rattle.log_file.proofs.mending.judge_log.Goals as goal

pub returns : goal.returns
returns c =
    let layout = c.args.layout.now in
    let ts = c.in_ok-transcripts.transcripts.items in
    let unfit : IsUnfit layout c.args.site c.args.whole.now c.args.first.now ts = record {
      log = record { read = c.in_ok-transcripts.ensures {u = tt}; only = search rules };
      unfit = search rules;
    } in
    let runs : c.runs_of.result.now ≡ runs_at ts c.args.site = c.runs_of.ensures ∙ ap (λ (xs : List Transcript). runs_at xs c.args.site) c.as_slice-2.ensures.value in
    unfit_with layout c.args.site c.args.whole.now c.args.first.now ts c.in_ok-doubted.doubted unfit
    (subst (λ (xs : List Run). MatchOption c.in_ok-doubted.doubted (HasNoLast xs)
    (λ t. (e : Entry) × (EndsWith xs e × (string_bytes t ≡ entry_line layout (in_doubt e))))) runs (c.in_ok-doubted.ensures {u = tt}))
