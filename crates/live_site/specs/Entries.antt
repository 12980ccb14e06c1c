-- What a log is handed.
use Rattle.admission_model.specs.declared.ask.Call.{Call}
use Rattle.admission_model.specs.declared.reply.Reply.{Reply}
use Rattle.desk_log.specs.declared.entry.Entry.{Entry}

-- a call and its reply, in the only pass
abbrev pub entry_of : Call → Reply → Entry
entry_of call reply = record { pass = 0; call = call; reply = reply }
