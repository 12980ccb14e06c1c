use Rattle.std.proofs.Common.{◌≡◌, map, take}
use Rattle.command_arguments.specs.Arguments.{sites_of}
use Rattle.command_arguments.proofs.arguments.sites_of.Given as goal

abbrev pub invariant-loop-text : goal.invariant-loop-text
invariant-loop-text l = l.sites.items ≡ sites_of (map (λ t. t.now) (take l.text-index l.texts))
