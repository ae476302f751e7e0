-- The core state that contents under the law show.
use Rattle.std.specs.Prelude.{ℕ}
use Rattle.tj_body.specs.Programs.{Program}
use Rattle.tj_events.specs.CoreState.{CoreState}
use Rattle.tj_words.specs.LawParts.Contents.{Contents, core_shown}
use Rattle.tj_words.specs.Law.{Law}

module _ {B : Type 0} (program : Program B) (cells : ℕ) where
  -- contents under the law of a table of so many cells
  pub record Under : Type 0 where
    pub now : Contents B
    pub law : Law program cells now

  -- the core state that they show
  abbrev pub state_of : Under → CoreState
  state_of u = core_shown cells u.law.born u.law.maker u.now
