use Rattle.std.proofs.Common.{rules}
use Rattle.session_book.proofs.site.Site.call.Goals as goal

pub returns-in-Some-clause-pass : goal.returns-in-Some-clause-pass
returns-in-Some-clause-pass g c = search rules
