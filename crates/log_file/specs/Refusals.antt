-- The names of what a log file is refused for, as the program writes them (this project's own).
use Rattle.std.specs.Prelude.{ℕ, List, codes}
use Rattle.transcript_reader.specs.declared.reading.ReadError.{ReadError}
use Rattle.transcript_reader.specs.declared.reading.ReadError.TheVariants as reading
use Rattle.log_file.specs.declared.refusal.LogRefusal.{LogRefusal}
use Rattle.log_file.specs.declared.refusal.LogRefusal.TheVariants.{NotRead, InUse, NotALog, NotTranscript, WrongSite, WrongStore}
use Rattle.log_file.specs.declared.refusal.LogError.{LogError}
use Rattle.log_file.specs.declared.refusal.LogError.TheVariants.{Refused, Memory}

abbrev pub log_refusal_name : LogRefusal → List ℕ
log_refusal_name NotRead = codes "NotRead"
log_refusal_name InUse = codes "InUse"
log_refusal_name NotALog = codes "NotALog"
log_refusal_name (NotTranscript line) = codes "NotTranscript"
log_refusal_name WrongSite = codes "WrongSite"
log_refusal_name WrongStore = codes "WrongStore"

-- the error for bytes that are no transcript
abbrev pub read_error : ReadError → LogError
read_error (reading.NotTranscript line) = Refused (NotTranscript line)
read_error reading.Memory = Memory
