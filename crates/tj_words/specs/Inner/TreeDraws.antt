-- What the cells are after a draw: the new one, its maker and number, and the fork where it is a task.
use Rattle.std.specs.Prelude.{◌≡◌, ◌≢◌, ℕ, suc, ◌≤◌, List, ◌∷◌, Option, Some}
use Rattle.tj_base.specs.declared.cell.Sort.{Sort}
use Rattle.tj_base.specs.declared.cell.Sort.TheVariants as sort
use Rattle.tj_body.specs.declared.point.Reference.{Reference}
use Rattle.tj_tree.specs.Forks.{Forks}
use Rattle.tj_words.specs.declared.view.Hand.{Hand}
use Rattle.tj_words.specs.LawParts.Hands.{IsThere}
use Rattle.tj_words.specs.LawParts.TreeWords.{IsCell}

-- the forks after a draw of this sort by t, of cell n, the k-th thing that t makes
abbrev pub forks_after : Sort → ℕ → ℕ → ℕ → Forks → Forks
forks_after sort.Promise t n k forks = forks
forks_after sort.Task t n k forks = record { parent = t; child = n; kid = k } ∷ forks

module _ (n : ℕ) (born : List Reference) (maker number made : ℕ → ℕ) (hand : ℕ → Option Hand) (h : Hand) where
  -- what the draw of cell n into this hand makes of the things made and of the hands
  pub record IsDrawnInto (made' : ℕ → ℕ) (hand' : ℕ → Option Hand) : Type 0 where
    pub here : hand' n ≡ Some h
    pub else : (c : ℕ) → c ≢ n → hand' c ≡ hand c
    pub made_one : made' h.maker ≡ suc (made h.maker)
    pub made_none : made' n ≡ 0
    pub made_else : (c : ℕ) → c ≢ h.maker → c ≢ n → made' c ≡ made c

  -- the maker is a task that is there and has nothing in hand; what a cell is numbered is at most what its maker made
  pub record MayDraw : Type 0 where
    pub maker_there : IsThere n hand h.maker
    pub task : Reference
    pub is_task : IsCell born h.maker task × (task.sort ≡ sort.Task)
    pub calm : (c : ℕ) (g : Hand) → hand c ≡ Some g → (g.maker ≢ h.maker) × (g.maker ≢ n)
    pub numbered : (c : ℕ) (x : Reference) → IsCell born c x → c ≢ 0 → number c ≤ made (maker c)
