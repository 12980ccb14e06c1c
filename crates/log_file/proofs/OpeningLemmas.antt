-- What an opening answers where a step of it fails.
use Rattle.std.proofs.Common.{◌≡◌, ℕ, List, [], ◌∷◌, ◌++◌, Option, Result, Ok, Err, refl, subst}
use Rattle.std.specs.Io.KnownBytes.{Appends, Consumes, IsAtEnd}
use Rattle.merge_core.specs.Layout.{LayoutState}
use Rattle.admission_core.specs.Kept.{DurableState}
use Rattle.log_file.specs.declared.file.LogFile.{Ghosts}
use Rattle.log_file.specs.declared.file.SystemFile.{SystemFile}
use Rattle.log_file.specs.declared.hold.ExclusiveFile.{Ghosts as HoldGhosts}
use Rattle.log_file.specs.declared.refusal.LogError.{LogError}
use Rattle.log_file.specs.declared.refusal.LogError.TheVariants.{Refused, Memory, Io}
use Rattle.log_file.specs.declared.refusal.LogRefusal.{LogRefusal}
use Rattle.log_file.specs.declared.refusal.LogRefusal.TheVariants.{NotRead, InUse, NotALog, NotTranscript, WrongSite, WrongStore}
use Rattle.log_file.specs.Steps.{FileStep, appended_in}
use Rattle.log_file.specs.Logged.{LogState}
use Rattle.log_file.specs.Mending.{IsRefused, MendsTo}
use Rattle.log_file.specs.Errors.{IsHoldError, IsReadError}
use Rattle.log_file.specs.Folder.{named_folder}
use Rattle.log_file.specs.Opening.{IsBegunLog, IsOpenedLog, RefusesLog, run_line}

module _ {F : Type 0} (hold : HoldGhosts F) (remaining contents : F → Option (List ℕ)) (layout : LayoutState) (i : ℕ) (first : DurableState) where
  pub not_held : (file : F) (e : LogError) → IsHoldError hold file e → IsOpenedLog hold remaining contents layout i first (Err e)
  not_held file Memory is = absurd is
  not_held file Io is = absurd is
  not_held file (Refused NotRead) is = tt
  not_held file (Refused InUse) is = (file, is)
  not_held file (Refused NotALog) is = absurd is
  not_held file (Refused (NotTranscript line)) is = absurd is
  not_held file (Refused WrongSite) is = absurd is
  not_held file (Refused WrongStore) is = absurd is

  pub not_read : (e : LogError) → IsReadError e → IsOpenedLog hold remaining contents layout i first (Err e)
  not_read Memory is = tt
  not_read Io is = absurd is
  not_read (Refused NotRead) is = tt
  not_read (Refused InUse) is = absurd is
  not_read (Refused NotALog) is = absurd is
  not_read (Refused (NotTranscript line)) is = absurd is
  not_read (Refused WrongSite) is = absurd is
  not_read (Refused WrongStore) is = absurd is

  -- all that a file which is held gave
  module _ (file read : F) (bytes : List ℕ) (held : hold.is_held file) (gave : Consumes (remaining file) (remaining read) bytes) (at_end : IsAtEnd (remaining read)) where
    refuses : (refusal : LogRefusal) → IsRefused layout i bytes first (Refused refusal) → RefusesLog hold remaining layout i first refusal
    refuses refusal is = record { opened = file; held = held; read = read; bytes = bytes; gave = gave; at_end = at_end; refused = is }

    pub not_mended : (e : LogError) → IsRefused layout i bytes first e → IsOpenedLog hold remaining contents layout i first (Err e)
    not_mended Memory is = tt
    not_mended Io is = tt
    not_mended (Refused NotRead) is = tt
    not_mended (Refused InUse) is = absurd is.fault
    not_mended (Refused NotALog) is = refuses NotALog is
    not_mended (Refused (NotTranscript line)) is = refuses (NotTranscript line) is
    not_mended (Refused WrongSite) is = refuses WrongSite is
    not_mended (Refused WrongStore) is = refuses WrongStore is

  pub opened : (g : Ghosts (SystemFile F)) → ((a b : SystemFile F) (steps : List FileStep) → g.did a steps b → Appends (contents a.file) (contents b.file) (appended_in steps))
      → (file read : F) (bytes : List ℕ) (system : SystemFile F) (size kept : ℕ) (tail : List ℕ) (answer : Result (LogState (SystemFile F)) LogError)
      → hold.is_held file → Consumes (remaining file) (remaining read) bytes → IsAtEnd (remaining read) → MendsTo layout i bytes first kept tail → system.file ≡ read
      → IsBegunLog g system size kept (tail ++ run_line layout i first) layout answer → IsOpenedLog hold remaining contents layout i first answer
  opened g appends file read bytes system size kept tail (Ok log) held gave at_end mends same begun = record {
    opened = file;
    held = held;
    read = read;
    bytes = bytes;
    gave = gave;
    at_end = at_end;
    kept = kept;
    tail = tail;
    mends = mends;
    appended = subst (λ (text : List ℕ). Appends (contents read) (contents log.file.file) text) begun.puts.appended
        (subst (λ (f : F). Appends (contents f) (contents log.file.file) (appended_in begun.puts.steps)) same (appends system log.file begun.puts.steps begun.puts.did));
    named_by = begun.named_by;
    length_is = begun.length_is;
    running = begun.running;
  }
  opened g appends file read bytes system size kept tail (Err Memory) held gave at_end mends same begun = tt
  opened g appends file read bytes system size kept tail (Err Io) held gave at_end mends same begun = tt
  opened g appends file read bytes system size kept tail (Err (Refused refusal)) held gave at_end mends same begun = absurd begun

-- a folder that is named is not the current one by that
pub named_as : (path : List ℕ) → (path ≡ [] → ⊥) → path ≡ named_folder path
named_as [] some = absurd (some refl)
named_as (b ∷ bs) some = refl
