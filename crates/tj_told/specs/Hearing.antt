-- What a listener has heard: the calls that were made of it, one after the other.
use Rattle.std.specs.Prelude.{◌≡◌, List, [], ◌∷◌, ◌++◌}
use Rattle.tj_told.specs.declared.fault.ToldFault.{ToldFault}
use Rattle.tj_told.specs.declared.fault.ToldFault.TheVariants as fault
use Rattle.tj_told.specs.declared.listener.Goes.{Goes}
use Rattle.tj_told.specs.declared.listener.Goes.TheVariants as goes
use Rattle.tj_told.specs.declared.news.News.{News}
use Rattle.tj_told.specs.declared.telling.Telling.{Telling}
use Rattle.tj_told.specs.ToldNews.{AreApart}

module _ {T : Type 0} (tells : T → News → Goes → T → Type 0) where
  -- calls that told this, in this order, each answered On, lead from the one state to the other
  abbrev pub HasHeard : List News → T → T → Type 0
  HasHeard [] s t = s ≡ t
  HasHeard (n ∷ ns) s t = (m : T) × tells s n goes.On m × HasHeard ns m t

  -- calls that told this lead from the one state to the other: nothing stands twice, and each call is answered On
  pub record Hears (told : List News) (s t : T) : Type 0 where
    pub calls : HasHeard told s t
    pub apart : AreApart told

  -- the same, but that the last call is answered Stop
  pub record IsStoppedBy (told : List News) (s t : T) : Type 0 where
    pub before : List News
    pub last : News
    pub at : T
    pub all : told ≡ before ++ last ∷ []
    pub calls : HasHeard before s at
    pub stops : tells at last goes.Stop t
    pub apart : AreApart told

  -- calls that told this lead from the one state to the other where a run ends with this fault: the last one is
  -- answered Stop where the fault is Stopped, and else none is
  abbrev pub IsHeardUntil : ToldFault → List News → T → T → Type 0
  IsHeardUntil fault.Full told s t = Hears told s t
  IsHeardUntil fault.Oom told s t = Hears told s t
  IsHeardUntil fault.Stopped told s t = IsStoppedBy told s t

  -- where this is so, a listener that had heard what was told before has heard what is told now
  abbrev pub HearsOn : Telling T → Telling T → Type 0 → Type 0
  HearsOn old new so = (s : T) → Hears old.news s old.listener → so → Hears new.news s new.listener

  -- the same, but that its last call was answered Stop
  abbrev pub IsStoppedOn : Telling T → Telling T → Type 0 → Type 0
  IsStoppedOn old new so = (s : T) → Hears old.news s old.listener → so → IsStoppedBy new.news s new.listener
