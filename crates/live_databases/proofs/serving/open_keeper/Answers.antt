use Rattle.live_databases.proofs.serving.open_keeper.Goals as goal

pub returns-clause-opened : goal.returns-clause-opened
returns-clause-opened g c = record {
  stored = c.open_served.ensures.store;
  blank = c.open_served.ensures.blank;
  by_schema = c.open_served.ensures.schema;
  created = c.open_served.ensures.created;
  judged = c.open_served.ensures.judged;
  marked = c.open_served.ensures.marked;
  unmarked = c.open_served.ensures.unmarked;
  settles = c.open_served.ensures.settles;
  own = c.open_served.ensures.own;
  settles_or = c.open_served.ensures.settles_or;
  left = c.open_served.ensures.left;
  left_or = c.open_served.ensures.left_or;
  fault = c.open_served.ensures.fault;
  current = c.open_served.ensures.current;
  beside = c.open_served.ensures.beside;
}
