use Rattle.std.proofs.Common.{length}
use Rattle.session_book.proofs.closing.+audit_all.Given as goal

abbrev pub decreases-audit_all : goal.decreases-audit_all
decreases-audit_all g l = length l.passes.now
