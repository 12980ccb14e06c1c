-- What was read is judged, and the text of the judgement.
use Rattle.std.proofs.Common.{◌≡◌, MatchOption, IsSome, ℕ, List, [], ◌++◌, ◌+◌, Option, None, Some, Ok, inl, inr, refl, sym, ap, subst, arith}
use Rattle.merge_core.specs.Layout.{LayoutState}
use Rattle.merge_core.specs.declared.layout.RecordSpec.{RecordSpec}
use Rattle.desk_log.specs.declared.transcript.Transcript.{Transcript}
use Rattle.log_judge.specs.declared.verdict.Verdict.{Verdict}
use Rattle.log_judge.specs.declared.verdict.Verdict.TheVariants.{BadCut, BadJoint, BadReply, Exceeds, Consistent}
use Rattle.log_judge.specs.Cut.{cut_account, no_transcript}
use Rattle.log_judge.specs.Table.{cut_table}
use Rattle.log_judge.specs.Verdict.{AreOfSites, IsSafeCut, IsVerdict}
use Rattle.transcript_reader.specs.declared.runs.SiteRun.{SiteRun}
use Rattle.transcript_reader.specs.Reading.{AreTranscriptsOf, IsRefusedAt, transcripts_below}
use Rattle.transcript_reader.proofs.ReadingLemmas.{length_below, transcript_at}
use Rattle.text_input.specs.Input.{LosesSome, ReadsInput, input_limit}
use Rattle.text_input.specs.Lines.{lines_of}
use Rattle.text_input.specs.Sink.{SinkState}
use Rattle.text_input.specs.Source.{SourceState}
use Rattle.exit_status.specs.declared.status.Status.{Status}
use Rattle.exit_status.specs.declared.status.Status.TheVariants.{Done, Usage, NoLayout, NoStore, Fault, Refused, Memory, Io}
use Rattle.log_judge.specs.declared.keeping.Keeping.{Keeping}
use Rattle.log_judge.specs.declared.keeping.Keeping.TheVariants.{All as KeepsAll}
use Rattle.log_judge.specs.declared.stream.Logs.{Logs}
use Rattle.log_judge.specs.Stream.{AreAllLogs, IsUntold}
use Rattle.judge_engine.specs.Cuts.{lengths_of}
use Rattle.judge_engine.specs.Reading.{EndsBy, EndsReading, IsUnjudged}
use Rattle.judge_engine.proofs.ReadingLemmas.{all_logs, logs_end}
use Rattle.judge_engine.specs.Engine.{AnswersLogs, EndsJudge, IsJudgement, judgement_text}
use Rattle.judge_engine.specs.Verdicts.{verdict_line}

-- of runs there is a transcript for each site, in order of sites
pub runs_of_sites : (layout : LayoutState) (rs : List SiteRun) → AreOfSites layout (transcripts_below rs layout.sites)
runs_of_sites layout rs = record {
  number = length_below rs layout.sites;
  in_order = λ i below. ap (λ (t : Transcript). t.site) (transcript_at rs layout.sites i no_transcript (omega (arith, below, length_below rs layout.sites)));
}

-- what was read is a transcript for each site, in order of sites
pub of_sites : (layout : LayoutState) (bytes : List ℕ) (ts : List Transcript) → AreTranscriptsOf layout bytes ts → AreOfSites layout ts
of_sites layout bytes ts read = subst (λ (xs : List Transcript). AreOfSites layout xs) (sym read.1.1) (runs_of_sites layout read.0)

-- where the verdict is another than that there is no cut, the table stands in front of its line
pub behind_table : (records : List RecordSpec) (ts : List Transcript) (cut : List ℕ) (v : Verdict) → ¬ (v ≡ BadCut)
    → cut_table ts cut ++ verdict_line records v ≡ judgement_text records ts cut v
behind_table records ts cut BadCut other = absurd (other refl)
behind_table records ts cut (BadJoint i) other = refl
behind_table records ts cut (BadReply i at) other = refl
behind_table records ts cut (Exceeds i at r s) other = refl
behind_table records ts cut Consistent other = refl

-- the judgement on a cut, by the same lengths
pub judged : (layout : LayoutState) (ts : List Transcript) (cut lengths text : List ℕ) (v : Verdict) → lengths ≡ cut → IsVerdict layout ts lengths v
    → (v ≡ Consistent → (r : ℕ) → IsSafeCut layout ts lengths r) → text ≡ judgement_text layout.records ts lengths v → IsJudgement layout ts cut text
judged layout ts cut lengths text v same right safe is =
    subst (λ (l : List ℕ). IsJudgement layout ts l text) same (record { verdict = v; right = right; safe = safe; is_text = is })

-- what the lines of all bytes are, where none was refused
pub all_read : (layout : LayoutState) (cut : Option (List ℕ)) (bytes : List ℕ) (its : LayoutState) (refused site : Option ℕ) (logs : Logs) → refused ≡ None → EndsReading layout cut KeepsAll [] bytes its refused site logs
    → (ts : List Transcript) × AreTranscriptsOf layout bytes ts × AreOfSites layout ts × AreAllLogs layout ts (lengths_of cut ts) logs
all_read layout cut bytes its refused site logs none ends =
    let knows = subst (λ (o : Option ℕ). EndsBy layout cut KeepsAll [] bytes o site logs) none ends.1 in
    let end = logs_end layout cut KeepsAll [] (lines_of bytes) site logs knows in
    let ts = transcripts_below end.0 layout.sites in
    let read : AreTranscriptsOf layout bytes ts = (end.0, (end.1, refl)) in
    (ts, read, of_sites layout bytes ts read, all_logs layout cut end.0 logs end.2)

-- where all is kept, the verdict is known
pub is_judged : (layout : LayoutState) (cut : Option (List ℕ)) (bytes : List ℕ) (its : LayoutState) (refused site : Option ℕ) (logs : Logs) → refused ≡ None → EndsReading layout cut KeepsAll [] bytes its refused site logs
    → IsUnjudged layout cut logs → ⊥
is_judged layout cut bytes its refused site logs none ends unknown =
    let knows = subst (λ (o : Option ℕ). EndsBy layout cut KeepsAll [] bytes o site logs) none ends.1 in
    let so = all_read layout cut bytes its refused site logs none ends in
    subst (λ (k : Keeping). IsUntold k logs.sites.items (cut_account layout so.0 (lengths_of cut so.0))) knows.keeps (unknown.untold so.0 so.3)

-- .. so that there is one
pub is_told : {T : Type 0} (P : Type 0) (Q : T → Type 0) (answer : Option T) → MatchOption answer P Q → (P → ⊥) → IsSome answer
is_told P Q None unknown never = absurd (never unknown)
is_told P Q (Some x) known never = search

-- the line that was refused
pub one_refused : (layout : LayoutState) (cut : Option (List ℕ)) (bytes : List ℕ) (its : LayoutState) (refused site : Option ℕ) (logs : Logs) (n : ℕ) → refused ≡ Some n → EndsReading layout cut KeepsAll [] bytes its refused site logs
    → IsRefusedAt layout (lines_of bytes) n
one_refused layout cut bytes its refused site logs n is ends = subst (λ (o : Option ℕ). EndsBy layout cut KeepsAll [] bytes o site logs) is ends.1

-- of an input within the limit no more is lost than a byte past it
some_lost : (bytes : List ℕ) (source read : SourceState) → ReadsInput source read (Ok bytes) → LosesSome source read (input_limit + 1)
some_lost bytes source read reads = (bytes, record { lost = reads.0.lost; bounded = omega (arith, reads.0.bounded) })

-- the whole engine, once the input was read and answered
pub ends_judge : (layout : LayoutState) (cut : Option (List ℕ)) (bytes : List ℕ) (source read : SourceState) (sink written : SinkState) (status : Status) → ReadsInput source read (Ok bytes)
    → AnswersLogs layout cut bytes sink written status → EndsJudge layout cut source read sink written status
ends_judge layout cut bytes source read sink written Done reads answered = (bytes, reads, answered)
ends_judge layout cut bytes source read sink written Refused reads answered = inl (bytes, reads, answered)
ends_judge layout cut bytes source read sink written Memory reads same = (some_lost bytes source read reads, inl reads.2, same)
ends_judge layout cut bytes source read sink written Io reads fault = (some_lost bytes source read reads, inr fault)
ends_judge layout cut bytes source read sink written Usage reads never = never
ends_judge layout cut bytes source read sink written (NoLayout fault) reads never = never
ends_judge layout cut bytes source read sink written (NoStore refusal) reads never = never
ends_judge layout cut bytes source read sink written Fault reads never = never
