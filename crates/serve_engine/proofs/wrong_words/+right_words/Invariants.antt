-- Each word takes the first kind away.
use Rattle.std.proofs.Common.{length}
use Rattle.serve_engine.proofs.wrong_words.+right_words.Given as goal

abbrev pub decreases-right_words : goal.decreases-right_words
decreases-right_words l = length l.kinds.now
