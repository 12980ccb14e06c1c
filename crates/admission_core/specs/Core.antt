-- The core of a site as contracts see it, and for which accounts of the model it stands.
use Rattle.std.specs.Prelude.{◌≡◌, ◌↔◌, ℕ, ◌<◌, length, Bool, true, false, List, if◌then◌else◌, Some}
use Rattle.merge_core.specs.declared.cell.Cell.{Cell}
use Rattle.merge_core.specs.Layout.{LayoutState, IsLayout, shape_of}
use Rattle.merge_core.specs.Book.{BookState, IsBook, book_shape, counter_of, Names, seats_at}
use Rattle.merge_core.specs.Seats.{HasSeatRights}
use Rattle.session_list.specs.declared.session.Session.{Session}
use Rattle.session_list.specs.Sessions.{phase_in}
use Rattle.admission_model.specs.declared.ask.Call.{Call}
use Rattle.admission_model.specs.declared.reply.Refusal.{Refusal}
use Rattle.admission_model.specs.declared.reply.Refusal.TheVariants.{Memory}
use Rattle.admission_model.specs.declared.reply.Reply.{Reply}
use Rattle.admission_model.specs.declared.reply.Reply.TheVariants.{Refused}
use Rattle.admission_model.specs.Account.{Account}
use Rattle.admission_model.specs.Knowledge.{SourceNames}
use Rattle.admission_model.specs.View.{View, view_of}
use Rattle.admission_model.specs.Serving.{after, reason, reply_of}
use Rattle.admission_model.specs.Reached.{IsReached}
use Rattle.admission_model.specs.Laws.{StandsFor}

-- a site's layout, number, book and sessions in order of arrival, and how many more sessions fit without
-- taking memory
pub record Core : Type 0 where
  pub layout : LayoutState
  pub site : ℕ
  pub book : BookState
  pub sessions : List Session
  pub room : ℕ

-- what the core shows: all that a site decides by
abbrev pub core_view : Core → View
core_view c = record { layout = c.layout; site = c.site; phase = phase_in c.sessions; counter = counter_of c.book }

-- The core stands for an account: steps lead to the account, it shows the core's layout, number, phases, order of
-- sessions and counters, and the core's book names exactly the units that the account knows.
pub record Stands (a : Account) (c : Core) : Type 0 where
  pub reached : IsReached a
  pub book : IsBook c.book
  pub shape : shape_of c.layout ≡ book_shape c.book
  pub shows : StandsFor (core_view c) c.sessions a
  pub names : (r s : ℕ) (cell : Cell) (k : ℕ) → Names c.book r s cell k ↔ SourceNames a r s cell k

-- Every core has a layout, and stands for some account. The facts between follow from these.
pub record IsCore (c : Core) : Type 0 where
  pub layout : IsLayout c.layout
  pub site_there : c.site < c.layout.sites
  pub sites : c.book.sites ≡ c.layout.sites
  pub records : length c.book.records ≡ length c.layout.records
  pub enough : (r : ℕ) → r < length c.layout.records → HasSeatRights (seats_at c.book r) c.site
  pub account : Account
  pub stands : Stands account c

-- two cores differ in their room alone
abbrev pub SameContent : Core → Core → Type 0
SameContent old new = new ≡ record old { room = new.room }

-- the reply is want of memory
abbrev pub is_memory : Reply → Bool
is_memory (Refused Memory) = true
is_memory _ = false

-- the account after a call that was answered so: want of memory leaves it as it was
abbrev pub served : Account → Call → Reply → Account
served a call reply = if is_memory reply then a else after a call

-- The call is answered as the model answers it, and leaves a core that stands for the account that the model
-- leaves. Want of memory may stand in place of an answer, and never of a refusal. After a refusal the core is as
-- it was, its room aside.
pub record IsServed (old new : Core) (call : Call) (reply : Reply) : Type 0 where
  pub answered : is_memory reply ≡ false → (a : Account) → Stands a old → reply ≡ reply_of (view_of a) call
  pub refused : (refusal : Refusal) → (a : Account) → Stands a old → reason (view_of a) call ≡ Some refusal → reply ≡ Refused refusal
  pub account : (a : Account) → Stands a old → Stands (served a call reply) new
  pub unchanged : (refusal : Refusal) → reply ≡ Refused refusal → SameContent old new
