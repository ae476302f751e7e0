-- What a watch of the root tells of a run at rest, by the root's record.
use Rattle.std.specs.Prelude.{◌≡◌, List, Option, Some, None}
use mathlib.Core.Option.{some}
use lib.ListN.{get_elem?}
use Rattle.tj_record.specs.declared.record.Finish.{Finish}
use Rattle.tj_record.specs.declared.record.Finish.TheVariants as finish
use Rattle.tj_record.specs.declared.record.Rec.{Rec}
use Rattle.tj_future.specs.declared.watched.Watched.{Watched}
use Rattle.tj_future.specs.declared.watched.Watched.TheVariants as watched

-- what is told of a task by its ending: its value, that it failed, or that it waits
abbrev pub watched_of : Option Finish → Watched
watched_of (Some (finish.Done f)) = watched.Value f
watched_of (Some (finish.Failed hurt)) = watched.Broken
watched_of None = watched.Rested

-- record 0 is the root's, and what was told is what it says
abbrev pub IsRootWatched : {B : Type 0} → List (Option (Rec B)) → Watched → Type 0
IsRootWatched {B} records told = (r : Rec B) × (get_elem? records 0 ≡ some (Some r)) × (told ≡ watched_of r.finish)
