-- What one call promises beside its reply: a session that is there may leave, and announced writers go first.
use Rattle.std.proofs.Common.{◌≡◌, ◌≢◌, ℕ, ◌<◌, ◌⊎◌, inl, inr, true, false, length, Option, Some, None, refl, sym, ap, subst, ◌∙◌, arith}
use Rattle.std.specs.Prelude.{is_none}
use Rattle.std.proofs.lemmas.Bool.{cases_Bool, lt-leb, le-ltb}
use Rattle.merge_core.specs.declared.cell.Cell.TheVariants.{Ann, Fin}
use Rattle.merge_core.specs.Layout.{LayoutState}
use Rattle.merge_core.specs.Book.{counter_of}
use Rattle.session_list.specs.declared.session.Phase.{Phase}
use Rattle.session_list.specs.Sessions.{phase_in}
use Rattle.admission_model.specs.declared.ask.Ask.TheVariants.{Read, Leave}
use Rattle.admission_model.specs.declared.ask.Call.TheVariants.{Ask as AskCall}
use Rattle.admission_model.specs.declared.reply.Refusal.{Refusal}
use Rattle.admission_model.specs.declared.reply.Refusal.TheVariants.{Memory, WriterAnnounced}
use Rattle.admission_model.specs.declared.reply.Reply.{Reply}
use Rattle.admission_model.specs.declared.reply.Reply.TheVariants.{Admitted, Left, Refused}
use Rattle.admission_model.specs.Account.{Account, phase_of}
use Rattle.admission_model.specs.View.{View, view_of, problem_in}
use Rattle.admission_model.specs.Replies.{leave_lines, holder_limit, first_reason}
use Rattle.admission_model.specs.Serving.{replied, left_reply, reply_of}
use Rattle.admission_model.specs.Laws.{IsFirstUnfinished, MayAsk}
use Rattle.admission_model.specs.Sound.{IsSound}
use Rattle.admission_model.proofs.LawLemmas.{sound_reached, none_admitted_reached}
use Rattle.admission_model.proofs.ReaderLemmas.{reader_held}
use Rattle.admission_model.proofs.ReasonLemmas.{reason_told}
use Rattle.admission_model.proofs.ServingLemmas.{first_reason-none}
use Rattle.admission_core.specs.Core.{Core, core_view, IsCore, IsServed, is_memory}
use Rattle.admission_core.proofs.CoreLemmas.{shows_account}

-- there is one reply that is want of memory
memory_is : (reply : Reply) → is_memory reply ≡ true → reply ≡ Refused Memory
memory_is (Refused Memory) e = refl
memory_is other e = absurd (cc)

-- what leaving answers where the phase is known
left_told : (v : View) (r h : ℕ) (p : Phase) → first_reason (leave_lines v r h) ≡ None → v.phase r h ≡ Some p → reply_of v (AskCall (Leave r h)) ≡ Left p
left_told v r h p free there =
    ap (λ (o : Option Refusal). replied o (left_reply (v.phase r h))) free ∙ ap left_reply there

pub leaves_there : (c d : Core) → IsCore c → (r h : ℕ) (p : Phase) (reply : Reply) → IsServed c d (AskCall (Leave r h)) reply → phase_in c.sessions r h ≡ Some p → (reply ≡ Left p) ⊎ (reply ≡ Refused Memory)
leaves_there c d is r h p reply served there = at (cases_Bool (is_memory reply))
  where
    a : Account
    a = is.account

    sound : IsSound a
    sound = sound_reached a is.stands.reached

    phase : phase_of a r h ≡ Some p
    phase = sym (is.stands.shows.phases r h) ∙ there

    free : first_reason (leave_lines (view_of a) r h) ≡ None
    free = first_reason-none (leave_lines (view_of a) r h) (
      lt-leb (length a.origin.layout.records) r (sound.record_there r h p phase),
      (le-ltb holder_limit h (sound.holder_there r h p phase), (ap is_none phase, tt)),
    )

    at : (is_memory reply ≡ true) ⊎ (is_memory reply ≡ false) → (reply ≡ Left p) ⊎ (reply ≡ Refused Memory)
    at (inl e) = inr (memory_is reply e)
    at (inr e) = inl (served.answered e a is.stands ∙ left_told (view_of a) r h p free phase)

-- under problem 2 no reader is admitted where the book shows an unfinished writer
pub announced_first : (c d : Core) → IsCore c → (r h : ℕ) (reply : Reply) → IsServed c d (AskCall (Read r h)) reply → (s : ℕ) → problem_in c.layout r ≡ 2 → counter_of c.book r s Fin < counter_of c.book r s Ann → reply ≢ Admitted
announced_first c d is r h reply served s second open_writer admitted =
    none_admitted_reached a is.stands.reached r h s
    (ap (λ (l : LayoutState). problem_in l r) (sym is.stands.shows.layout) ∙ second)
    (omega (arith, open_writer, is.stands.shows.counters r s Fin, is.stands.shows.counters r s Ann))
    (sym (served.answered (ap is_memory admitted) a is.stands) ∙ admitted)
  where
    a : Account
    a = is.account

-- .. and a reader whom nothing else refuses is told of the least site whose writer the book shows unfinished
pub announced_named : (c d : Core) → IsCore c → (r h : ℕ) (reply : Reply) → IsServed c d (AskCall (Read r h)) reply → (s : ℕ) → problem_in c.layout r ≡ 2 → MayAsk (core_view c) r h → IsFirstUnfinished (core_view c) r s → reply ≡ Refused (WriterAnnounced s)
announced_named c d is r h reply served s second may first =
    served.refused (WriterAnnounced s) a is.stands (reason_told (view_of a) (AskCall (Read r h)) (WriterAnnounced s) held)
  where
    a : Account
    a = is.account

    held : reply_of (view_of a) (AskCall (Read r h)) ≡ Refused (WriterAnnounced s)
    held = subst (λ (v : View). reply_of v (AskCall (Read r h)) ≡ Refused (WriterAnnounced s)) (shows_account a c is.stands)
        (reader_held (core_view c) r h s second may first)
