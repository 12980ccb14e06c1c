-- What the refusals that an inbox counts are called (this project's own).
use Rattle.std.specs.Prelude.{ℕ, ◌==◌, Bool, Option, Some, None}
use Rattle.delta_codec.specs.declared.fault.DecodeError.{DecodeError}
use Rattle.delta_codec.specs.declared.fault.DecodeError.TheVariants as Fault
use Rattle.admission_model.specs.declared.reply.Refusal.TheVariants as Why
use Rattle.admission_model.specs.declared.reply.Reply.{Reply}
use Rattle.admission_model.specs.declared.reply.Reply.TheVariants.{Refused}
use Rattle.exchange_threads.specs.declared.names.RefusalName.{RefusalName}
use Rattle.exchange_threads.specs.declared.names.RefusalName.TheVariants.{TooLong, NotUtf8, NotJson, NotCanonical, OtherLayout, BadRow, OwnRowAhead, StoreFault}

-- the place of a name among all
abbrev pub name_number : RefusalName → ℕ
name_number TooLong = 0
name_number NotUtf8 = 1
name_number NotJson = 2
name_number NotCanonical = 3
name_number OtherLayout = 4
name_number BadRow = 5
name_number OwnRowAhead = 6
name_number StoreFault = 7

-- the two are one name
abbrev pub same_name : RefusalName → RefusalName → Bool
same_name a b = name_number a == name_number b

-- what is wrong with a text that is no delta's; want of memory has no name
abbrev pub unread_name : DecodeError → Option RefusalName
unread_name Fault.TooLong = Some TooLong
unread_name Fault.NotUtf8 = Some NotUtf8
unread_name Fault.NotJson = Some NotJson
unread_name Fault.NotCanonical = Some NotCanonical
unread_name Fault.Memory = None

-- what refused a merge, if something did that is counted
abbrev pub merge_name : Reply → Option RefusalName
merge_name (Refused (Why.OtherLayout row)) = Some OtherLayout
merge_name (Refused (Why.BadRow row)) = Some BadRow
merge_name (Refused (Why.OwnRowAhead r)) = Some OwnRowAhead
merge_name (Refused Why.StoreFault) = Some StoreFault
merge_name _ = None
