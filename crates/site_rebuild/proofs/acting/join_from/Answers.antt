use Rattle.std.proofs.Common.{sym, ◌∙◌}
use Rattle.std.proofs.lemmas.Bool.{eq-eqb, ne_eqb}
use Rattle.site_rebuild.proofs.ActingLemmas.{joined_more, joined_same}
use Rattle.site_rebuild.proofs.acting.join_from.Goals as goal

pub returns-then-from_site-j-clause-joins : goal.returns-then-from_site-j-clause-joins
returns-then-from_site-j-clause-joins c = λ start ds before.
    joined_more c.args.j start c.args.book.now c.join.new.self ds c.args.delta.now (eq-eqb c.args.delta.now.from c.args.j (sym c.from_site.ensures.label ∙ c.if-from_site-j.true)) c.join.ensures.counters before

pub returns-else-from_site-j-clause-joins : goal.returns-else-from_site-j-clause-joins
returns-else-from_site-j-clause-joins c = λ start ds before.
    joined_same c.args.j start c.args.book.now ds c.args.delta.now (ne_eqb c.args.delta.now.from c.args.j (λ e. c.if-from_site-j.false (c.from_site.ensures.label ∙ e))) before
