-- What a run writes (this project's own texts).
use Rattle.std.specs.Prelude.{◌≡◌, ℕ, ◌==◌, List, [], ◌++◌, codes, decimal, if◌then◌else◌}
use Rattle.std.specs.List.{flat_map}
use Rattle.merge_core.specs.Layout.{LayoutState}
use Rattle.admission_model.specs.declared.reply.Reply.{Reply}
use Rattle.script_text.specs.Replies.{reply_text}
use Rattle.desk_log.specs.declared.entry.Entry.{Entry}
use Rattle.desk_log.specs.declared.transcript.Transcript.{Transcript}
use Rattle.log_judge.specs.declared.verdict.Verdict.{Verdict}
use Rattle.log_judge.specs.declared.verdict.Verdict.TheVariants.{Consistent}
use Rattle.log_judge.specs.Cut.{full_cut}
use Rattle.log_judge.specs.Verdict.{IsSafeCut, IsVerdict}
use Rattle.judge_engine.specs.Verdicts.{verdict_line}

-- a reply of a site, on a line of its own
abbrev pub reply_line : ℕ → Reply → List ℕ
reply_line i reply = decimal i ++ (codes ": " ++ (reply_text reply ++ codes "\n"))

-- the line of an entry, where it is the caller's, who has pass 0
abbrev pub entry_text : ℕ → Entry → List ℕ
entry_text i e = if e.pass == 0 then reply_line i e.reply else []

abbrev pub entries_text : ℕ → List Entry → List ℕ
entries_text i es = flat_map (entry_text i) es

-- the replies to a site's caller
abbrev pub site_text : Transcript → List ℕ
site_text t = flat_map (λ run. entries_text t.site run.entries) t.runs

-- the replies to the callers of all sites
abbrev pub replies_text : List Transcript → List ℕ
replies_text ts = flat_map site_text ts

-- The text has the replies, and then the line of the right verdict on the logs at their ends. Where that is `Consistent`,
-- the seats inside are then at most those of the record, and a writer inside is alone.
pub record IsOutput (layout : LayoutState) (ts : List Transcript) (text : List ℕ) : Type 0 where
  pub verdict : Verdict
  pub right : IsVerdict layout ts (full_cut ts) verdict
  pub safe : verdict ≡ Consistent → (r : ℕ) → IsSafeCut layout ts (full_cut ts) r
  pub is_text : text ≡ replies_text ts ++ verdict_line layout.records verdict
