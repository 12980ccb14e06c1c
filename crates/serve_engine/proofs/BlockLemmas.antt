-- Lines that were heard, served and answered in a block.
use Rattle.std.proofs.Common.{◌≡◌, ℕ, zero, suc, ◌+◌, ◌-◌, ◌==◌, ◌<◌, ◌≤◌, inr, true, List, [], ◌∷◌, ◌++◌, length, refl, sym, ap, subst, ◌∙◌, append_assoc, append-nil, length-append, arith}
use Rattle.std.proofs.lemmas.Bool.Decides.{nat_tests}
use Rattle.durable_keeper.specs.declared.keeper.Keeper.{Ghosts}
use Rattle.line_conversation.specs.Turns.{Line, Whole, Turn, Heard, Told, heard_by}
use Rattle.line_conversation.specs.declared.conversation.Conversation.{Ghosts as TalkGhosts}
use Rattle.line_conversation.specs.declared.conversation.Next.{Next}
use Rattle.line_conversation.specs.declared.conversation.Next.TheVariants as next
use Rattle.live_site.specs.Live.{LiveState}
use Rattle.serve_engine.specs.declared.turns.Turned.{Turned}
use Rattle.serve_engine.specs.declared.turns.Turned.TheVariants as turned
use Rattle.serve_engine.specs.Answers.{fault_line}
use Rattle.serve_engine.specs.Exchanges.{Exchange}
use Rattle.serve_engine.specs.Rounds.{AreFew, one_more, answers_of, heard_of, joined, told_of, unanswered}
use Rattle.serve_engine.specs.Steps.{Tells}
use Rattle.serve_engine.specs.Filling.{AreWhole}
use Rattle.serve_engine.specs.Together.{BlockTo, FailsInBlock, HasHeard, InBlock, Start, StandsTogether, TellsText, faults, lines_by, whole_lines}

-- lists of turns
pub heard_both : (xs ys : List Exchange) → heard_of (xs ++ ys) ≡ heard_of xs ++ heard_of ys
heard_both [] ys = refl
heard_both (x ∷ xs) ys = ap (λ (ts : List Turn). Heard x.line ∷ ts) (heard_both xs ys)

told_both : (ts us : List (List ℕ)) → told_of (ts ++ us) ≡ told_of ts ++ told_of us
told_both [] us = refl
told_both (t ∷ ts) us = ap (λ (l : List Turn). Told t ∷ l) (told_both ts us)

joined_both : (ts us : List (List ℕ)) → joined (ts ++ us) ≡ joined ts ++ joined us
joined_both [] us = refl
joined_both (t ∷ ts) us = ap (λ (l : List ℕ). t ++ l) (joined_both ts us) ∙ sym (append_assoc t (joined ts) (joined us))

pub answers_both : (xs ys : List Exchange) → answers_of (xs ++ ys) ≡ answers_of xs ++ answers_of ys
answers_both [] ys = refl
answers_both (x ∷ xs) ys = ap (λ (l : List ℕ). x.told ++ l) (answers_both xs ys) ∙ sym (append_assoc x.told (answers_of xs) (answers_of ys))

pub unanswered_both : (ls ks : List Line) → unanswered (ls ++ ks) ≡ unanswered ls ++ unanswered ks
unanswered_both [] ks = refl
unanswered_both (l ∷ ls) ks = ap (λ (ts : List Turn). Heard l ∷ ts) (unanswered_both ls ks)

pub whole_both : (ls ks : List (List ℕ)) → whole_lines (ls ++ ks) ≡ whole_lines ls ++ whole_lines ks
whole_both [] ks = refl
whole_both (l ∷ ls) ks = ap (λ (ms : List Line). Whole l ∷ ms) (whole_both ls ks)

pub length_whole : (ls : List (List ℕ)) → length (whole_lines ls) ≡ length ls
length_whole [] = refl
length_whole (l ∷ ls) = ap suc (length_whole ls)

-- lines that were heard are those of the exchanges over them
pub heard_whole : (ls : List (List ℕ)) (xs : List Exchange) → AreWhole ls xs → unanswered (whole_lines ls) ≡ heard_of xs
heard_whole [] [] are = refl
heard_whole [] (x ∷ xs) are = absurd are
heard_whole (l ∷ ls) [] are = absurd are
heard_whole (l ∷ ls) (x ∷ xs) are = ap (λ (k : Line). Heard k ∷ unanswered (whole_lines ls)) (sym are.0) ∙ ap (λ (ts : List Turn). Heard x.line ∷ ts) (heard_whole ls xs are.1)

pub length_same : (ls : List (List ℕ)) (xs : List Exchange) → AreWhole ls xs → length ls ≡ length xs
length_same [] [] are = refl
length_same [] (x ∷ xs) are = absurd are
length_same (l ∷ ls) [] are = absurd are
length_same (l ∷ ls) (x ∷ xs) are = ap suc (length_same ls xs are.1)

-- no byte
pub no_bytes : (text : List ℕ) → (length text == 0) ≡ true → text ≡ []
no_bytes [] is = refl
no_bytes (b ∷ bs) is = absurd (let same : length (b ∷ bs) ≡ 0 = grind (arith, nat_tests) in omega (arith, same))

-- a reading, as lines that were heard
pub heard_lines : (told : Next) (line : List ℕ) → heard_by told line ≡ unanswered (lines_by told line)
heard_lines next.Line line = refl
heard_lines next.TooLong line = refl
heard_lines next.Memory line = refl
heard_lines next.Torn line = refl
heard_lines next.End line = refl
heard_lines next.Failed line = refl

-- a reading brings one line at most
pub at_most_one : (told : Next) (line : List ℕ) → length (lines_by told line) ≤ 1
at_most_one next.Line line = omega arith
at_most_one next.TooLong line = omega arith
at_most_one next.Memory line = omega arith
at_most_one next.Torn line = omega arith
at_most_one next.End line = omega arith
at_most_one next.Failed line = omega arith

fewer : (most n k : ℕ) → n ≡ k → AreFew most n → AreFew most k
fewer most n k same few = subst (λ (j : ℕ). AreFew most j) same few

module _ {C : Type 0} (c : TalkGhosts C) where
  -- a text was told as one
  pub told_whole : (old new : C) (text : List ℕ) (turn : Turned) → Tells c old new text turn → TellsText c old new text turn
  told_whole old new text turned.Next it = record {
    texts = text ∷ [];
    parts = append-nil text;
    all = record { told = it.0; whole = it.1 };
  }
  told_whole old new text turned.Failed it = record {
    texts = [];
    untold = text;
    parts = refl;
    told = λ first before took. subst (λ (ts : List Turn). c.took_place first ts new) (sym (append-nil before)) (it.0 first before took);
    failed = it.1;
  }
  told_whole old new text turned.End it = absurd it

  -- no text was told, as there is none
  pub told_none : (old : C) (text : List ℕ) → text ≡ [] → TellsText c old old text turned.Next
  told_none old text none = record {
    texts = [];
    parts = sym none;
    all = record { told = λ first before took. subst (λ (ts : List Turn). c.took_place first ts old) (sym (append-nil before)) took; whole = λ lost. lost };
  }

  both_told : (old mid new : C) (ts us : List (List ℕ)) → ((first : C) (before : List Turn) → c.took_place first before old → c.took_place first (before ++ told_of ts) mid)
      → ((first : C) (before : List Turn) → c.took_place first before mid → c.took_place first (before ++ told_of us) new)
      → (first : C) (before : List Turn) → c.took_place first before old → c.took_place first (before ++ told_of (ts ++ us)) new
  both_told old mid new ts us one two first before took =
      subst (λ (l : List Turn). c.took_place first l new) (append_assoc before (told_of ts) (told_of us) ∙ ap (λ (l : List Turn). before ++ l) (sym (told_both ts us)))
      (two first (before ++ told_of ts) (one first before took))

  -- a text behind another one
  pub told_then : (old mid new : C) (text more : List ℕ) (turn : Turned) → TellsText c old mid text turned.Next → TellsText c mid new more turn → TellsText c old new (text ++ more) turn
  told_then old mid new text more turned.Next one two = record {
    texts = one.texts ++ two.texts;
    parts = joined_both one.texts two.texts ∙ (ap (λ (l : List ℕ). l ++ joined two.texts) one.parts ∙ ap (λ (l : List ℕ). text ++ l) two.parts);
    all = record { told = both_told old mid new one.texts two.texts one.all.told two.all.told; whole = λ lost. one.all.whole (two.all.whole lost) };
  }
  told_then old mid new text more turned.Failed one two = record {
    texts = one.texts ++ two.texts;
    untold = two.untold;
    parts = ap (λ (l : List ℕ). l ++ two.untold) (joined_both one.texts two.texts ∙ ap (λ (l : List ℕ). l ++ joined two.texts) one.parts)
        ∙ (append_assoc text (joined two.texts) two.untold ∙ ap (λ (l : List ℕ). text ++ l) two.parts);
    told = both_told old mid new one.texts two.texts one.all.told two.told;
    failed = two.failed;
  }
  told_then old mid new text more turned.End one two = absurd two

  -- a text of which the conversation failed to tell the front
  pub failed_then : (old new : C) (text more : List ℕ) → TellsText c old new text turned.Failed → TellsText c old new (text ++ more) turned.Failed
  failed_then old new text more one = record {
    texts = one.texts;
    untold = one.untold ++ more;
    parts = sym (append_assoc (joined one.texts) one.untold more) ∙ ap (λ (l : List ℕ). l ++ more) one.parts;
    told = one.told;
    failed = one.failed;
  }

  -- so many faults, and one more
  faults_end : (n : ℕ) → faults n ++ fault_line ≡ faults (n + 1)
  faults_end zero = sym (append-nil fault_line)
  faults_end (suc n) =
      let same : suc (n + 1) ≡ suc n + 1 = omega arith in
      append_assoc fault_line (faults n) fault_line ∙ (ap (λ (l : List ℕ). fault_line ++ l) (faults_end n) ∙ ap faults same)

  faults_more : (n k : ℕ) → faults n ++ faults k ≡ faults (n + k)
  faults_more zero k = let same : k ≡ 0 + k = omega arith in ap faults same
  faults_more (suc n) k =
      let same : suc (n + k) ≡ suc n + k = omega arith in
      append_assoc fault_line (faults n) (faults k) ∙ (ap (λ (l : List ℕ). fault_line ++ l) (faults_more n k) ∙ ap faults same)

  pub one_fault_more : (old mid new : C) (n : ℕ) (turn : Turned) → TellsText c old mid (faults n) turned.Next → TellsText c mid new fault_line turn → TellsText c old new (faults (n + 1)) turn
  one_fault_more old mid new n turn one two = subst (λ (t : List ℕ). TellsText c old new t turn) (faults_end n) (told_then old mid new (faults n) fault_line turn one two)

  -- the conversation failed at one of so many faults
  pub fault_untold : (old mid new : C) (n count : ℕ) → n < count → TellsText c old mid (faults n) turned.Next → TellsText c mid new fault_line turned.Failed → TellsText c old new (faults count) turned.Failed
  fault_untold old mid new n count more one two =
      let same : (n + 1) + (count - (n + 1)) ≡ count = omega (arith, more) in
      subst (λ (t : List ℕ). TellsText c old new t turned.Failed)
      (ap (λ (t : List ℕ). t ++ faults (count - (n + 1))) (faults_end n) ∙ (faults_more (n + 1) (count - (n + 1)) ∙ ap faults same))
      (failed_then old new (faults n ++ fault_line) (faults (count - (n + 1))) (told_then old mid new (faults n) fault_line turned.Failed one two))

module _ {K C : Type 0} (g : Ghosts K) (m : K → Type 0) (c : TalkGhosts C) (s : Start K C) where
  -- a line was read behind the blocks so far, or nothing
  pub hears_next : (live : LiveState K) (now after : C) (n : ℕ) (told : Next) → HasHeard g m c s live now [] n
      → ((first : C) (before : List Turn) → c.took_place first before now → c.took_place first (before ++ heard_by told (c.kept after)) after) → (c.loses after → c.loses now)
      → HasHeard g m c s live after (lines_by told (c.kept after)) n
  hears_next live now after n told h took whole = record {
    exchanges = h.exchanges;
    turns = h.turns;
    blocks = h.blocks;
    heard = subst (λ (ts : List Turn). c.took_place s.talk ts after)
        (ap (λ (ts : List Turn). ts ++ heard_by told (c.kept after)) (append-nil h.turns) ∙ ap (λ (ts : List Turn). h.turns ++ ts) (heard_lines told (c.kept after)))
        (took s.talk (h.turns ++ []) h.heard);
    few = inr (at_most_one told (c.kept after));
    site = h.site;
    counted = h.counted;
    whole = λ lost. h.whole (whole lost);
  }

  module _ (live : LiveState K) (now : C) (n : ℕ) where
    -- lines of which none is served are the front of a block
    pub to_block : (lines : List Line) → 0 < length lines → HasHeard g m c s live now lines n → InBlock g m c s live now lines [] n
    to_block lines some h = record {
      before = h.exchanges;
      done = h.turns;
      block = [];
      texts = [];
      blocks = h.blocks;
      heard = subst (λ (ts : List Turn). c.took_place s.talk (h.turns ++ ts) now) (sym (append-nil (unanswered lines))) h.heard;
      answers = refl;
      some = omega (arith, some);
      few = fewer s.most (length lines) (0 + length lines) (omega arith) h.few;
      site = subst (λ (l : List Exchange). StandsTogether g m s live l) (sym (append-nil h.exchanges)) h.site;
      counted = h.counted;
      whole = h.whole;
    }

    -- all lines of a block were answered
    pub to_next : InBlock g m c s live now [] [] n → HasHeard g m c s live now [] (n + 1)
    to_next b = record {
      exchanges = b.before ++ b.block;
      turns = b.done ++ (heard_of b.block ++ told_of b.texts);
      blocks = one_more s.most b.before b.done b.block (heard_of b.block ++ told_of b.texts) b.blocks (record {
        texts = b.texts;
        order = refl;
        answers = sym (append-nil (joined b.texts)) ∙ b.answers;
        some = omega (arith, b.some);
        few = fewer s.most (length b.block + 0) (length b.block) (omega arith) b.few;
      });
      heard = subst (λ (ts : List Turn). c.took_place s.talk ts now) (sym (append-nil (b.done ++ (heard_of b.block ++ told_of b.texts)))) b.heard;
      few = inr (omega arith);
      site = b.site;
      counted = let all = length-append b.before b.block in omega (arith, all, b.counted, b.some);
      whole = b.whole;
    }

    -- a block that failed before its end
    pub fails_so : (unserved : List Line) (untold : List ℕ) (after : C) (texts : List (List ℕ)) (left : List ℕ) → (b : InBlock g m c s live now unserved untold n) → joined texts ++ left ≡ untold
        → ((first : C) (before : List Turn) → c.took_place first before now → c.took_place first (before ++ told_of texts) after) → c.has_failed after → FailsInBlock g m c s live after
    fails_so unserved untold after texts left b parts told failed = record {
      exchanges = b.before ++ b.block;
      turns = b.done ++ (heard_of b.block ++ (unanswered unserved ++ told_of (b.texts ++ texts)));
      last = record {
        before = b.before;
        block = b.block;
        done = b.done;
        unserved = unserved;
        texts = b.texts ++ texts;
        untold = left;
        split = refl;
        blocks = b.blocks;
        order = refl;
        answers = ap (λ (l : List ℕ). l ++ left) (joined_both b.texts texts) ∙ (append_assoc (joined b.texts) (joined texts) left ∙ (ap (λ (l : List ℕ). joined b.texts ++ l) parts ∙ b.answers));
        few = b.few;
      };
      heard = subst (λ (ts : List Turn). c.took_place s.talk ts after) (more_told b.done (heard_of b.block) (unanswered unserved) b.texts texts) (told s.talk (b.done ++ (heard_of b.block ++ (unanswered unserved ++ told_of b.texts))) b.heard);
      site = b.site;
      why = failed;
    }
      where
        more_told : (done front mid : List Turn) (ts us : List (List ℕ)) → (done ++ (front ++ (mid ++ told_of ts))) ++ told_of us ≡ done ++ (front ++ (mid ++ told_of (ts ++ us)))
        more_told done front mid ts us =
            append_assoc done (front ++ (mid ++ told_of ts)) (told_of us)
            ∙ ap (λ (l : List Turn). done ++ l) (append_assoc front (mid ++ told_of ts) (told_of us)
            ∙ ap (λ (l : List Turn). front ++ l) (append_assoc mid (told_of ts) (told_of us) ∙ ap (λ (l : List Turn). mid ++ l) (sym (told_both ts us))))

    -- a text of the answers was told, or was not
    pub tells_block : (unserved : List Line) (text rest : List ℕ) (after : C) (turn : Turned) → InBlock g m c s live now unserved (text ++ rest) n → TellsText c now after text turn
        → BlockTo g m c s live after unserved rest n turn
    tells_block unserved text rest after turned.Next b it = record {
      before = b.before;
      done = b.done;
      block = b.block;
      texts = b.texts ++ it.texts;
      blocks = b.blocks;
      heard = subst (λ (ts : List Turn). c.took_place s.talk ts after) (more_told b.done (heard_of b.block) (unanswered unserved) b.texts it.texts)
          (it.all.told s.talk (b.done ++ (heard_of b.block ++ (unanswered unserved ++ told_of b.texts))) b.heard);
      answers = ap (λ (l : List ℕ). l ++ rest) (joined_both b.texts it.texts)
          ∙ (append_assoc (joined b.texts) (joined it.texts) rest ∙ (ap (λ (l : List ℕ). joined b.texts ++ (l ++ rest)) it.parts ∙ b.answers));
      some = b.some;
      few = b.few;
      site = b.site;
      counted = b.counted;
      whole = λ lost. b.whole (it.all.whole lost);
    }
      where
        more_told : (done front mid : List Turn) (ts us : List (List ℕ)) → (done ++ (front ++ (mid ++ told_of ts))) ++ told_of us ≡ done ++ (front ++ (mid ++ told_of (ts ++ us)))
        more_told done front mid ts us =
            append_assoc done (front ++ (mid ++ told_of ts)) (told_of us)
            ∙ ap (λ (l : List Turn). done ++ l) (append_assoc front (mid ++ told_of ts) (told_of us)
            ∙ ap (λ (l : List Turn). front ++ l) (append_assoc mid (told_of ts) (told_of us) ∙ ap (λ (l : List Turn). mid ++ l) (sym (told_both ts us))))
    tells_block unserved text rest after turned.Failed b it =
        fails_so unserved (text ++ rest) after it.texts (it.untold ++ rest) b
        (sym (append_assoc (joined it.texts) it.untold rest) ∙ ap (λ (l : List ℕ). l ++ rest) it.parts) it.told it.failed
    tells_block unserved text rest after turned.End b it = absurd it

    -- the last text of the answers
    pub tells_last : (unserved : List Line) (text : List ℕ) (after : C) (turn : Turned) → InBlock g m c s live now unserved text n → TellsText c now after text turn
        → BlockTo g m c s live after unserved [] n turn
    tells_last unserved text after turn b it =
        tells_block unserved text [] after turn (subst (λ (t : List ℕ). InBlock g m c s live now unserved t n) (sym (append-nil text)) b) it

    -- a block of which all is told, and the turn behind it
    pub turns_to : (after : C) (turn : Turned) → BlockTo g m c s live after [] [] n turn → (turned.Next ≡ turn → InBlock g m c s live after [] [] n)
    turns_to after turned.Next b is = b
    turns_to after turned.Failed b is = absurd (cc)
    turns_to after turned.End b is = absurd b

  -- a line of a block was served
  pub serves_block : (old new : LiveState K) (now : C) (n : ℕ) (line : Line) (rest : List Line) (untold : List ℕ) (x : Exchange) → x.line ≡ line
      → (b : InBlock g m c s old now (line ∷ rest) untold n) → (StandsTogether g m s old (b.before ++ b.block) → StandsTogether g m s new ((b.before ++ b.block) ++ x ∷ []))
      → InBlock g m c s new now rest (untold ++ x.told) n
  serves_block old new now n line rest untold x is b site = record {
    before = b.before;
    done = b.done;
    block = b.block ++ x ∷ [];
    texts = b.texts;
    blocks = b.blocks;
    heard = subst (λ (ts : List Turn). c.took_place s.talk (b.done ++ ts) now) turns b.heard;
    answers = sym (append_assoc (joined b.texts) untold x.told) ∙ (ap (λ (l : List ℕ). l ++ x.told) b.answers
        ∙ (ap (λ (l : List ℕ). answers_of b.block ++ l) (sym (append-nil x.told)) ∙ sym (answers_both b.block (x ∷ []))));
    some = let all = length-append b.block (x ∷ []) in omega (arith, all);
    few = fewer s.most (length b.block + suc (length rest)) (length (b.block ++ x ∷ []) + length rest) (let all = length-append b.block (x ∷ []) in omega (arith, all)) b.few;
    site = subst (λ (l : List Exchange). StandsTogether g m s new l) (append_assoc b.before b.block (x ∷ [])) (site b.site);
    counted = b.counted;
    whole = b.whole;
  }
    where
      turns : heard_of b.block ++ (Heard line ∷ (unanswered rest ++ told_of b.texts)) ≡ heard_of (b.block ++ x ∷ []) ++ (unanswered rest ++ told_of b.texts)
      turns = ap (λ (l : Line). heard_of b.block ++ (Heard l ∷ (unanswered rest ++ told_of b.texts))) (sym is)
          ∙ (sym (append_assoc (heard_of b.block) (Heard x.line ∷ []) (unanswered rest ++ told_of b.texts))
          ∙ ap (λ (l : List Turn). l ++ (unanswered rest ++ told_of b.texts)) (sym (heard_both b.block (x ∷ []))))

  -- all lines of a round were served
  pub serves_round : (old new : LiveState K) (now : C) (n : ℕ) (lines : List (List ℕ)) (behind : List Line) (ys : List Exchange) → AreWhole lines ys → 0 < length (whole_lines lines ++ behind)
      → (h : HasHeard g m c s old now (whole_lines lines ++ behind) n) → StandsTogether g m s new (h.exchanges ++ ys) → InBlock g m c s new now behind (answers_of ys) n
  serves_round old new now n lines behind ys are some h site = record {
    before = h.exchanges;
    done = h.turns;
    block = ys;
    texts = [];
    blocks = h.blocks;
    heard = subst (λ (ts : List Turn). c.took_place s.talk (h.turns ++ ts) now) turns h.heard;
    answers = refl;
    some = omega (arith, some, all);
    few = fewer s.most (length (whole_lines lines ++ behind)) (length ys + length behind) all h.few;
    site = site;
    counted = h.counted;
    whole = h.whole;
  }
    where
      all : length (whole_lines lines ++ behind) ≡ length ys + length behind
      all = length-append (whole_lines lines) behind ∙ ap (λ (k : ℕ). k + length behind) (length_whole lines ∙ length_same lines ys are)

      turns : unanswered (whole_lines lines ++ behind) ≡ heard_of ys ++ (unanswered behind ++ [])
      turns = unanswered_both (whole_lines lines) behind
          ∙ (ap (λ (l : List Turn). l ++ unanswered behind) (heard_whole lines ys are) ∙ ap (λ (l : List Turn). heard_of ys ++ l) (sym (append-nil (unanswered behind))))
