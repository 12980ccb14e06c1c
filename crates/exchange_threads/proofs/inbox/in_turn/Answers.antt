use Rattle.std.specs.Prelude.{string_bytes}
use Rattle.std.proofs.Common.{◌≡◌, ℕ, ◌+◌, List, [], ◌∷◌, ◌++◌, false, true≢false, refl, sym, subst, arith, append-nil}
use Rattle.session_book.specs.declared.pass.Receipt.{Receipt}
use Rattle.exchange_threads.specs.declared.report.InReport.{InReport}
use Rattle.exchange_threads.specs.declared.turn.Turn.TheVariants.{IsOver, EndsRun}
use Rattle.exchange_threads.specs.Fates.{HasFate, is_ended}
use Rattle.exchange_threads.specs.Inbox.{HearsText}
use Rattle.exchange_threads.proofs.Heard.{heard_none, heard_text}
use Rattle.exchange_threads.proofs.inbox.in_turn.Goals as goal

pub returns-then-is_err-clause-turned : goal.returns-then-is_err-clause-turned
returns-then-is_err-clause-turned g c = λ texts right.
    let before : InReport = c.args.report.now in
    record {
      texts = [];
      heard = heard_none c.args.pass.now before (record before { refused = c.reserve.new.self; memory = before.memory + 1 }) IsOver 1 refl refl refl c.reserve.ensures.names refl;
      ended = false;
      account = subst (λ (ts : List (List ℕ)). g.I.Inlet.accounts c.args.inlet.now c.args.pass.now.receipts ts (before.memory + 1) false) (sym (append-nil texts))
          (g.met.I.Inlet.lacks c.args.inlet.now c.args.pass.now.receipts texts before.memory 1 false right);
      marked = λ is. absurd (true≢false (sym is));
    }

pub returns-in-Err-Memory-clause-turned : goal.returns-in-Err-Memory-clause-turned
returns-in-Err-Memory-clause-turned g c = λ texts right.
    let before : InReport = c.args.report.now in
    record {
      texts = [];
      heard = heard_none c.args.pass.now before (record before { refused = c.reserve.new.self; memory = before.memory + 1 }) IsOver 1 refl refl refl c.reserve.ensures.names refl;
      ended = false;
      account = subst (λ (ts : List (List ℕ)). g.I.Inlet.accounts c.take.new.self c.args.pass.now.receipts ts (before.memory + 1) false) (sym (append-nil texts))
          (g.met.I.Inlet.lacks c.take.new.self c.args.pass.now.receipts texts before.memory 1 false (c.in-Err-Memory.ensures.taken c.args.pass.now.receipts texts before.memory right));
      marked = λ is. absurd (true≢false (sym is));
    }

pub returns-in-Err-Closed-clause-turned : goal.returns-in-Err-Closed-clause-turned
returns-in-Err-Closed-clause-turned g c = λ texts right.
    let before : InReport = c.args.report.now in
    record {
      texts = [];
      heard = heard_none c.args.pass.now before (record before { refused = c.reserve.new.self }) EndsRun 0 refl refl refl c.reserve.ensures.names (omega arith);
      ended = false;
      account = subst (λ (ts : List (List ℕ)). g.I.Inlet.accounts c.take.new.self c.args.pass.now.receipts ts before.memory false) (sym (append-nil texts))
          (c.in-Err-Closed.ensures.taken c.args.pass.now.receipts texts before.memory right);
      marked = λ is. absurd (true≢false (sym is));
    }

pub returns-clause-turned : goal.returns-clause-turned
returns-clause-turned g c = λ texts right.
    let before : InReport = c.args.report.now in
    let taken : InReport = record before { refused = c.reserve.new.self } in
    let text : List ℕ = string_bytes c.in-Ok.text in
    let same : c.as_bytes.result.now ≡ text = c.as_bytes.ensures.value in
    let fate : HasFate text c.hear_text-turn.result.1 c.args.pass.now c.hear_text-turn.new.pass taken c.hear_text-turn.new.report c.hear_text-turn.result.0 =
    subst (λ (t : List ℕ). HasFate t c.hear_text-turn.result.1 c.args.pass.now c.hear_text-turn.new.pass taken c.hear_text-turn.new.report c.hear_text-turn.result.0) same c.hear_text-turn.ensures.fate in
    let hears : HearsText text c.args.pass.now c.hear_text-turn.new.pass taken c.hear_text-turn.new.report c.hear_text-turn.result.0 =
    subst (λ (t : List ℕ). HearsText t c.args.pass.now c.hear_text-turn.new.pass taken c.hear_text-turn.new.report c.hear_text-turn.result.0) same c.hear_text-turn.ensures.hears in
    record {
      texts = text ∷ [];
      heard = heard_text text c.args.pass.now c.hear_text-turn.new.pass before taken c.hear_text-turn.new.report c.hear_text-turn.result.0 refl refl c.reserve.ensures.names refl hears;
      ended = is_ended c.hear_text-turn.result.1;
      account = subst (λ (rs : List Receipt). g.I.Inlet.accounts c.note.new.self rs (texts ++ text ∷ []) c.hear_text-turn.new.report.memory (is_ended c.hear_text-turn.result.1)) (sym fate.grows)
          (subst (λ (m : ℕ). g.I.Inlet.accounts c.note.new.self (c.args.pass.now.receipts ++ fate.added) (texts ++ text ∷ []) m (is_ended c.hear_text-turn.result.1)) (sym fate.memory)
          (c.note.ensures.noted c.args.pass.now.receipts fate.added texts before.memory (c.in-Ok.ensures.taken c.args.pass.now.receipts texts before.memory right) fate.fate_of));
      marked = fate.ends;
    }
