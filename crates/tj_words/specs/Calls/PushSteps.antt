-- What a push finds of the chain where its head isn't the one for which it asks.
use Rattle.std.specs.Prelude.{◌≡◌, ℕ, ◌<◌, List, ◌∷◌, length}
use Rattle.tj_words.specs.declared.head.Head.{Head}
use Rattle.tj_words.specs.declared.view.Found.{Found}
use Rattle.tj_words.specs.declared.view.View.{View}
use Rattle.tj_words.specs.Words.Lists.{All}
use Rattle.tj_words.specs.LawParts.Chains.{head_of}

module _ {B : Type 0} where
  -- the chain that was found has this head, and is longer than each chain of the cell that the seat had found before
  -- and that began with the head for which the push asked
  pub record FindsLonger (p : ℕ) (behind h : Head) (v w : View B) : Type 0 where
    pub chain : List ℕ
    pub is : h ≡ head_of chain
    pub found : w.found ≡ record { cell = p; chain = chain } ∷ v.found
    pub longer : All (λ (f : Found). f.cell ≡ p → head_of f.chain ≡ behind → length f.chain < length chain) v.found
