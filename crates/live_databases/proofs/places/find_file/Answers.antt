use Rattle.live_databases.proofs.places.find_file.Goals as goal

pub returns-in-Err : goal.returns-in-Err
returns-in-Err c = c.unreadable.ensures c.args.create

pub returns-in-Err-make_file : goal.returns-in-Err-make_file
returns-in-Err-make_file c = c.unreadable-in-Err-make_file.ensures c.args.create

pub returns-in-Err-metadata : goal.returns-in-Err-metadata
returns-in-Err-metadata c = c.unreadable-in-Err-metadata.ensures c.args.create
