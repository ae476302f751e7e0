-- When the last seat may close its table.
use Rattle.std.specs.Prelude.{◌≡◌, true, [], None}
use Rattle.tj_words.specs.declared.view.View.{View}
use Rattle.tj_words.specs.LawParts.Lots.{all_lots}

module _ {B : Type 0} where
  -- a seat that may close its table: it has all lots, so no other one is in use; it has loaded LIVE as 0; it holds no
  -- task and has no cell in hand, and no word is due to it
  pub record MayRest (v : View B) : Type 0 where
    pub alone : v.lot ≡ all_lots
    pub rested : v.rested ≡ true
    pub tasks : v.tasks ≡ []
    pub hand : v.hand ≡ None
    pub dues : v.dues ≡ []
