-- What a script of a run asks of its sites (this project's own format): the lines of a script of several sites that are
-- calls of a site, and no other.
use Rattle.std.specs.Prelude.{◌≡◌, ℕ, ◌+◌, ◌≤◌, ◌==◌, nat_lt, List, [], ◌∷◌, ◌++◌, length, map, if◌then◌else◌, Option, Some, Result, Ok, Err}
use Rattle.merge_core.specs.Layout.{LayoutState}
use Rattle.admission_model.specs.declared.ask.Ask.{Ask}
use Rattle.multi_site_world.specs.declared.event.Event.{Event}
use Rattle.multi_site_world.specs.declared.event.Event.TheVariants.{Call}
use Rattle.world_script.specs.Events.{event_in}
use Rattle.run_engine.specs.declared.script.Asked.{Asked}
use Rattle.run_engine.specs.declared.script.LineError.{LineError}
use Rattle.run_engine.specs.declared.script.LineError.TheVariants.{TooManyLines, BadWord, NoSite}
use Rattle.run_engine.specs.declared.script.ScriptError.{ScriptError}
use Rattle.run_engine.specs.declared.script.ScriptError.TheVariants.{Refused, Memory}

-- the most lines of a script
abbrev pub most_lines : ℕ
most_lines = 16384

-- what a call asks, where there are so many sites
abbrev pub asked_at : ℕ → ℕ → Ask → Result Asked LineError
asked_at sites i ask = if nat_lt i sites then Ok (record { site = i; ask = ask }) else Err NoSite

-- what an event asks: no event but a call asks anything
abbrev pub asked_of : ℕ → Option Event → Result Asked LineError
asked_of sites (Some (Call i ask)) = asked_at sites i ask
asked_of sites event = Err BadWord

-- what a line asks
abbrev pub asked_in : LayoutState → List ℕ → Result Asked LineError
asked_in layout line = asked_of layout.sites (event_in layout.records line)

-- what is said to a line that has so many lines before it
abbrev pub answer_to : LayoutState → ℕ → List ℕ → Result Asked LineError
answer_to layout before line = if nat_lt before most_lines then asked_in layout line else Err TooManyLines

-- each of these lines asks something, in this order, and they are few enough
pub record IsScript (layout : LayoutState) (lines : List (List ℕ)) (asked : List Asked) : Type 0 where
  pub read : map (asked_in layout) lines ≡ map Ok asked
  pub few : length lines ≤ most_lines

-- the line of this number is refused so, and the lines before it are a script
pub record IsRefusedAt (layout : LayoutState) (lines : List (List ℕ)) (number : ℕ) (e : LineError) : Type 0 where
  pub before : List (List ℕ)
  pub line : List ℕ
  pub behind : List (List ℕ)
  pub split : lines ≡ before ++ line ∷ behind
  pub numbered : number ≡ length before + 1
  pub asked : List Asked
  pub read : IsScript layout before asked
  pub refused : answer_to layout (length before) line ≡ Err e

-- a script is refused for its first line that is; memory may run out over any script
abbrev pub IsScriptFault : LayoutState → List (List ℕ) → ScriptError → Type 0
IsScriptFault layout lines (Refused number e) = IsRefusedAt layout lines number e
IsScriptFault layout lines Memory = Unit {0}

-- on the way: these lines are still to be read
pub record IsScriptSoFar (layout : LayoutState) (lines rest : List (List ℕ)) (asked : List Asked) : Type 0 where
  pub before : List (List ℕ)
  pub split : lines ≡ before ++ rest
  pub read : IsScript layout before asked

-- what a script asks of a site, in order
abbrev pub asks_of : ℕ → List Asked → List Ask
asks_of i [] = []
asks_of i (l ∷ ls) = if l.site == i then l.ask ∷ asks_of i ls else asks_of i ls
