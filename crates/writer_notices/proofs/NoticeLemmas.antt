-- The join of notices: it stays valid, and what it counts.
use Rattle.std.proofs.Common.{◌≡◌, length, sym, ◌∙◌, arith}
use Rattle.grow_counters.proofs.CountsLemmas.{length-maxima, get_or-maxima}
use Rattle.writer_notices.specs.Notices.{NoticeState, IsNotices, joined}

pub IsNotices-joined : (n m : NoticeState) → length m.announced ≡ length n.announced → IsNotices n → IsNotices m → IsNotices (joined n m)
IsNotices-joined n m same hn hm = record {
  few_sites = omega (arith, length-maxima n.announced m.announced, hn.few_sites);
  same_length = length-maxima n.finished m.finished ∙ hn.same_length ∙ sym (length-maxima n.announced m.announced);
  in_order = λ s. omega (arith, get_or-maxima n.announced m.announced s (omega arith), get_or-maxima n.finished m.finished s (omega (arith, hn.same_length, hm.same_length)), hn.in_order s, hm.in_order s);
  limited = λ s. omega (arith, get_or-maxima n.announced m.announced s (omega arith), hn.limited s, hm.limited s);
}
