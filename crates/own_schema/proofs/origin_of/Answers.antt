-- What is said of each origin.
use Rattle.store_schema.specs.declared.Version.TheVariants.{First, Second}
use Rattle.own_schema.proofs.OriginLemmas.{first_made, is_foreign, is_nothing, is_store}
use Rattle.std.proofs.lemmas.Bool.Decides.{not_from_Decides}
use Rattle.own_schema.proofs.origin_of.Goals as goal

pub returns-then-is_empty : goal.returns-then-is_empty
returns-then-is_empty c =
    let it = is_nothing c.args.schema.now (c.is_empty.ensures.0 c.if-is_empty.true) in
    record { nothing = it.as_nothing; store = it.as_store; foreign = it.as_foreign }

pub returns-then-is_first : goal.returns-then-is_first
returns-then-is_first c =
    let it = is_store First c.args.schema.now (first_made c.args.schema.now (c.is_first.ensures.0 c.if-is_first.true)) in
    record { nothing = it.as_nothing; store = it.as_store; foreign = it.as_foreign }

pub returns-then-is_second : goal.returns-then-is_second
returns-then-is_second c =
    let it = is_store Second c.args.schema.now (c.is_second.ensures.0 c.if-is_second.true) in
    record { nothing = it.as_nothing; store = it.as_store; foreign = it.as_foreign }

pub returns : goal.returns
returns c =
    let it = is_foreign c.args.schema.now (not_from_Decides _ c.is_empty.ensures c.if-is_empty.false) (not_from_Decides _ c.is_first.ensures c.if-is_first.false) (not_from_Decides _ c.is_second.ensures c.if-is_second.false) in
    record { nothing = it.as_nothing; store = it.as_store; foreign = it.as_foreign }
