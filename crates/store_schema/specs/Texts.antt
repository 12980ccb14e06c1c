-- The texts that make the tables (formats of this project), in the dialect of SQLite.
use Rattle.std.specs.Prelude.{ℕ, List, codes}

-- what names a store: its version, its site and its layout
abbrev pub create_meta : List ℕ
create_meta = codes "CREATE TABLE meta (name TEXT PRIMARY KEY NOT NULL, value TEXT NOT NULL)"

-- the counters that have left their start
abbrev pub create_cells : List ℕ
create_cells = codes "CREATE TABLE cells (record INTEGER NOT NULL, slot INTEGER NOT NULL, n INTEGER NOT NULL CHECK (n >= 0), PRIMARY KEY (record, slot))"

-- the sessions, in order of arrival by place
abbrev pub create_sessions : List ℕ
create_sessions = codes "CREATE TABLE sessions (record INTEGER NOT NULL, holder INTEGER NOT NULL, phase INTEGER NOT NULL, place INTEGER NOT NULL UNIQUE, PRIMARY KEY (record, holder))"

-- the writers announced and finished at other sites
abbrev pub create_notices : List ℕ
create_notices = codes "CREATE TABLE notices (record INTEGER NOT NULL, site INTEGER NOT NULL, ann INTEGER NOT NULL CHECK (ann >= 0), fin INTEGER NOT NULL CHECK (fin >= 0), PRIMARY KEY (record, site))"
