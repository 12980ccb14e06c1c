use Rattle.site_store.proofs.ServedLemmas.{foreign_denied, foreign_told, none_told, nothing_denied, nothing_permitted, store_denied, store_permitted, there_told}
use Rattle.site_store.proofs.served.permit.Goals as goal

pub returns-in-Foreign-clause-schema : goal.returns-in-Foreign-clause-schema
returns-in-Foreign-clause-schema c schema is = foreign_denied c.args.permission schema c.args.origin is c.in-Foreign.is

pub returns-in-Foreign-clause-kind : goal.returns-in-Foreign-clause-kind
returns-in-Foreign-clause-kind c = foreign_told

pub returns-then-permission-clause-schema : goal.returns-then-permission-clause-schema
returns-then-permission-clause-schema c schema is = nothing_permitted c.args.permission schema c.args.origin is c.in-Nothing.is c.if-permission.true

pub returns-else-permission-clause-schema : goal.returns-else-permission-clause-schema
returns-else-permission-clause-schema c schema is = nothing_denied c.args.permission schema c.args.origin is c.in-Nothing.is c.if-permission.false

pub returns-else-permission-clause-kind : goal.returns-else-permission-clause-kind
returns-else-permission-clause-kind c = none_told

pub returns-then-permission-2-clause-schema : goal.returns-then-permission-2-clause-schema
returns-then-permission-2-clause-schema c schema is = store_denied c.args.permission schema c.args.origin is c.in-Store.field-0 c.in-Store.is c.if-permission-2.true

pub returns-then-permission-2-clause-kind : goal.returns-then-permission-2-clause-kind
returns-then-permission-2-clause-kind c = there_told

pub returns-else-permission-2-clause-schema : goal.returns-else-permission-2-clause-schema
returns-else-permission-2-clause-schema c schema is = store_permitted c.args.permission schema c.args.origin is c.in-Store.field-0 c.in-Store.is c.if-permission-2.false
