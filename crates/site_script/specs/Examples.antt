-- Small scripts, for the laws that compute the definitions on them.
use Rattle.std.specs.Prelude.{List, [], ◌∷◌}
use Rattle.admission_model.specs.declared.ask.Ask.TheVariants.{Read, Leave}
use Rattle.admission_model.specs.declared.ask.Call.TheVariants.{Ask, Snapshot}
use Rattle.admission_model.specs.Account.{Account, begin, start_origin}
use Rattle.delta_codec.specs.declared.fault.DecodeError.TheVariants.{NotJson, NotCanonical}
use Rattle.script_text.specs.Examples.{two_records}
use Rattle.site_script.specs.declared.lines.Said.{Said}
use Rattle.site_script.specs.declared.lines.Said.TheVariants.{Asked, Unread}

-- record `a` has two seats, which start at this site, one of two
abbrev pub first_site : Account
first_site = begin (start_origin (record { sites = 2; records = two_records }) 0)

-- a reader enters, a text is refused, and a reader of no record is
abbrev pub two_calls : List Said
two_calls = Asked (Ask (Read 0 7)) ∷ (Unread NotJson ∷ (Asked (Ask (Read 2 7)) ∷ []))

-- the reader leaves, a text is refused, and the site tells what it knows
abbrev pub two_more : List Said
two_more = Asked (Ask (Leave 0 7)) ∷ (Unread NotCanonical ∷ (Asked Snapshot ∷ []))
