use Rattle.std.proofs.Common.{◌≤◌, ◌+◌, length, refl, arith}
use Rattle.std.proofs.lemmas.List.{length-take-le}
use Rattle.log_replay.proofs.RunCode.{first_stands, followed_less, followed_over, here_told}
use Rattle.log_replay.proofs.entries.follow_past.Goals as goal

pub own_rows-requires : goal.own_rows-requires
own_rows-requires c =
    let k = c.args.mark.now.left in
    let fits : k ≤ length c.args.entries.now = omega (arith, c.if-mark-all.false) in
    let followed = c.in_ok-n.ensures.followed c.requires.0 c.requires.1 in
    (followed.reached, first_stands c.requires.0 c.args.entries.now k c.in_ok-n.n c.follow-2.new.core c.if-n-until.false (length-take-le k c.args.entries.now fits) followed)

pub returns-then-n-until-clause-followed : goal.returns-then-n-until-clause-followed
returns-then-n-until-clause-followed c =
    let k = c.args.mark.now.left in
    let fits : k ≤ length c.args.entries.now = omega (arith, c.if-mark-all.false) in
    λ a stands. followed_less a c.args.entries.now k c.in_ok-n.n c.follow-2.new.core fits c.if-n-until.true (length-take-le k c.args.entries.now fits) (c.in_ok-n.ensures.followed a stands)

pub returns-clause-followed : goal.returns-clause-followed
returns-clause-followed c =
    let k = c.args.mark.now.left in
    let fits : k ≤ length c.args.entries.now = omega (arith, c.if-mark-all.false) in
    λ a stands. followed_over a c.args.entries.now k c.in_ok-n.n c.in_ok-more.more (k + c.in_ok-more.more) c.follow-2.new.core c.follow-3.new.core refl fits c.if-n-until.false
    (length-take-le k c.args.entries.now fits) (c.in_ok-n.ensures.followed a stands) c.in_ok-more.ensures.followed

pub returns-clause-here : goal.returns-clause-here
returns-clause-here c =
    let k = c.args.mark.now.left in
    let fits : k ≤ length c.args.entries.now = omega (arith, c.if-mark-all.false) in
    λ none within short. (
      c.in_ok-own_rows.field-0,
      (
        refl,
        λ a stands.
            here_told a c.args.entries.now k c.in_ok-n.n c.args.core.now c.follow-2.new.core c.in_ok-own_rows.field-0 c.if-n-until.false
            (length-take-le k c.args.entries.now fits) stands (c.in_ok-n.ensures.followed a stands) c.in_ok-own_rows.ensures,
      ),
    )
