-- Moves up a tree that forks build: where they lead, and what they cost.
use Rattle.std.proofs.Common.{◌≡◌, ◌≢◌, ℕ, suc, ◌+◌, ◌-◌, ◌<◌, ◌≤◌, min, Bool, true, false, not, cond, eqb, nat_lt, nat_le, [], ◌∷◌, ◌++◌, length, refl, sym, ap, ◌∙◌, subst, inl, inr, arith}
use Rattle.std.proofs.lemmas.Bool.{cases_eq, eqb-true}
use Rattle.std.proofs.lemmas.Bool.Decides.{nat_tests}
use Rattle.std.proofs.lemmas.List.{length-append, append_assoc}
use Rattle.tj_base.specs.ForkOrder.{Name, before}
use Rattle.tj_tree.specs.Forks.{Forks, HasTask, IsHistory, name_of}
use Rattle.tj_tree.specs.Nodes.{node_of, move_from}
use Rattle.tj_tree.specs.Inner.Moves.{IsAtOrAbove}
use Rattle.tj_tree.proofs.Names.{before-append_same}
use Rattle.tj_tree.proofs.Skew.{ranks, moves, moves_jump, moves_step, jump_shallower, jump_level}
use Rattle.tj_tree.proofs.Trees.{IsChild-of, IsJump-of, depth-of, kids_apart, names_apart, root_name, root_there}

-- how many numbers two names have in common from the root on
abbrev pub common : Name → Name → ℕ
common [] b = 0
common (x ∷ a) [] = 0
common (x ∷ a) (y ∷ b) = cond (eqb x y) (suc (common a b)) 0

pub common-same : (n a b : Name) → length n ≤ common (n ++ a) (n ++ b)
common-same [] a b = omega arith
common-same (x ∷ n) a b = grind (arith, nat_tests, common-same n a b)

pub common-other : (m n a b : Name) → length m ≡ length n → m ≢ n → common (m ++ a) (n ++ b) < length m
common-other [] [] a b l ne = absurd (ne refl)
common-other [] (y ∷ n) a b l ne = absurd (omega arith)
common-other (x ∷ m) [] a b l ne = absurd (omega arith)
common-other (x ∷ m) (y ∷ n) a b l ne =
    elim (cases_eq x y) [
      | inl same ↦
          let fewer = common-other m n a b (omega arith) (λ e. ne (cc)) in
          grind (arith, nat_tests, fewer)
      | inr other ↦ grind (arith, nat_tests, other)
    ]

empty_name : (n : Name) → length n ≡ 0 → n ≡ []
empty_name [] h = refl
empty_name (x ∷ n) h = absurd (omega arith)

-- of two tasks of one depth that aren't the same, neither is the root
pub level_some : (fs : Forks) → IsHistory fs → (x y : ℕ) → HasTask fs x → HasTask fs y
    → (node_of fs x).depth ≡ (node_of fs y).depth → x ≢ y → x ≢ 0
level_some fs h x y p q level ne root =
    let first : name_of fs x ≡ [] = ap (name_of fs) root ∙ root_name fs h in
    let second : length (name_of fs y) ≡ 0 = sym (depth-of fs h y q) ∙ sym level ∙ depth-of fs h x p
    ∙ ap length first in
    ne (names_apart fs h x y p q (first ∙ sym (empty_name (name_of fs y) second)))

pub above_trans : (fs : Forks) (top mid n : ℕ) → IsAtOrAbove fs top mid → IsAtOrAbove fs mid n → IsAtOrAbove fs top n
above_trans fs top mid n p q = record {
  there = p.there;
  rest = p.rest ++ q.rest;
  goes_on = q.goes_on ∙ ap (λ (m : Name). m ++ q.rest) p.goes_on ∙ append_assoc (name_of fs top) p.rest q.rest;
}

pub jump_above : (fs : Forks) → IsHistory fs → (n : ℕ) → HasTask fs n → IsAtOrAbove fs (node_of fs n).jump.0 n
jump_above fs h n there = let is = IsJump-of fs h n there in
    record { there = is.jump_there; rest = is.rest; goes_on = is.above }

parent_above : (fs : Forks) → IsHistory fs → (n : ℕ) → HasTask fs n → n ≢ 0 → IsAtOrAbove fs (node_of fs n).parent.0 n
parent_above fs h n there some =
    let is = IsChild-of fs h n there some in
    record { there = is.parent_there; rest = (node_of fs n).kid ∷ []; goes_on = is.named }

-- a task above two is no deeper than what their names have in common
common-above : (fs : Forks) → IsHistory fs → (x a b : ℕ) → IsAtOrAbove fs x a → IsAtOrAbove fs x b
    → (node_of fs x).depth ≤ common (name_of fs a) (name_of fs b)
common-above fs h x a b p q =
    rw (depth-of fs h x p.there, p.goes_on, q.goes_on) (common-same (name_of fs x) p.rest q.rest)

-- two tasks of one depth that are apart are deeper
common-apart : (fs : Forks) → IsHistory fs → (x y a b : ℕ) → IsAtOrAbove fs x a → IsAtOrAbove fs y b
    → (node_of fs x).depth ≡ (node_of fs y).depth → x ≢ y
    → common (name_of fs a) (name_of fs b) < (node_of fs x).depth
common-apart fs h x y a b p q level ne =
    let one = depth-of fs h x p.there in
    let two = depth-of fs h y q.there in
    rw (one, p.goes_on, q.goes_on) (common-other (name_of fs x) (name_of fs y) p.rest q.rest (sym one ∙ level ∙ two)
    (λ e. ne (names_apart fs h x y p.there q.there e)))

-- a move up from n that leads no higher than the floor
pub record MovesUp (fs : Forks) (floor n to : ℕ) : Type 0 where
  pub above : IsAtOrAbove fs to n
  pub within : floor ≤ (node_of fs to).depth
  pub shallower : (node_of fs to).depth < (node_of fs n).depth
  pub saves : moves (ranks (node_of fs to).depth) ((node_of fs to).depth - floor) < moves
      (ranks (node_of fs n).depth) ((node_of fs n).depth - floor)

MovesUp-jump : (fs : Forks) → IsHistory fs → (floor n : ℕ) → HasTask fs n → 0 < (node_of fs n).depth
    → floor ≤ (node_of fs (node_of fs n).jump.0).depth → MovesUp fs floor n (node_of fs n).jump.0
MovesUp-jump fs h floor n there some fits =
    let is = IsJump-of fs h n there in
    let up = jump_shallower (node_of fs n).depth (node_of fs (node_of fs n).jump.0).depth is.behind some in
    record {
      above = jump_above fs h n there;
      within = fits;
      shallower = up;
      saves = moves_jump (node_of fs n).depth (node_of fs (node_of fs n).jump.0).depth floor is.behind fits
          (omega arith);
    }

MovesUp-parent : (fs : Forks) → IsHistory fs → (floor n : ℕ) → HasTask fs n → n ≢ 0 → floor < (node_of fs n).depth
    → (node_of fs (node_of fs n).jump.0).depth < floor → MovesUp fs floor n (node_of fs n).parent.0
MovesUp-parent fs h floor n there some deep far =
    let is = IsChild-of fs h n there some in
    let jump = IsJump-of fs h n there in
    let up = (node_of fs (node_of fs n).parent.0).depth in
    record {
      above = parent_above fs h n there some;
      within = omega (arith, is.deeper);
      shallower = omega (arith, is.deeper);
      saves = rw is.deeper (moves_step up (node_of fs (node_of fs n).jump.0).depth floor
          (rw is.deeper at jump.behind) far (omega (arith, is.deeper)));
    }

not_root : (fs : Forks) → IsHistory fs → (n : ℕ) → 0 < (node_of fs n).depth → n ≢ 0
not_root fs h n some root =
    let none : (node_of fs n).depth ≡ 0 = ap (λ m. (node_of fs m).depth) root ∙ depth-of fs h 0 (root_there fs)
    ∙ ap length (root_name fs h) in
    omega arith

MovesUp-cases : (fs : Forks) → IsHistory fs → (floor n : ℕ) → HasTask fs n → floor < (node_of fs n).depth
    → (t : Bool) → nat_le floor (node_of fs (node_of fs n).jump.0).depth ≡ t
    → MovesUp fs floor n (move_from (node_of fs n) t).0
MovesUp-cases fs h floor n there deep true e = MovesUp-jump fs h floor n there (omega arith)
    (grind (arith, nat_tests, e))
MovesUp-cases fs h floor n there deep false e = MovesUp-parent fs h floor n there (not_root fs h n (omega arith))
    deep (grind (arith, nat_tests, e))

-- by the jump where it leads no higher than the floor, else to the parent
pub MovesUp-higher : (fs : Forks) → IsHistory fs → (floor n : ℕ) → HasTask fs n → floor < (node_of fs n).depth
    → MovesUp fs floor n (move_from (node_of fs n) (nat_le floor (node_of fs (node_of fs n).jump.0).depth)).0
MovesUp-higher fs h floor n there deep = MovesUp-cases fs h floor n there deep _ refl

-- the depth below which two tasks have no common task above them
abbrev pub floor_of : Forks → ℕ → ℕ → ℕ
floor_of fs a b = common (name_of fs a) (name_of fs b) + 1

-- two tasks that are apart move up together
pub record MoveTogether (fs : Forks) (a b x y x' y' : ℕ) : Type 0 where
  pub first : MovesUp fs (floor_of fs a b) x x'
  pub second : MovesUp fs (floor_of fs a b) y y'
  pub level : (node_of fs x').depth ≡ (node_of fs y').depth
  pub apart : x' ≢ y'

together_cases : (fs : Forks) → IsHistory fs → (a b x y : ℕ) → IsAtOrAbove fs x a → IsAtOrAbove fs y b
    → (node_of fs x).depth ≡ (node_of fs y).depth → x ≢ y → (node_of fs x).parent.0 ≢ (node_of fs y).parent.0
    → (t : Bool) → eqb (node_of fs x).jump.0 (node_of fs y).jump.0 ≡ t
    → MoveTogether fs a b x y (move_from (node_of fs x) (not t)).0 (move_from (node_of fs y) (not t)).0
together_cases fs h a b x y p q level ne parents true e =
    let some_x = level_some fs h x y p.there q.there level ne in
    let some_y = level_some fs h y x q.there p.there (sym level) (λ k. ne (sym k)) in
    let is_x = IsChild-of fs h x p.there some_x in
    let is_y = IsChild-of fs h y q.there some_y in
    let up_x = above_trans fs _ x a (parent_above fs h x p.there some_x) p in
    let up_y = above_trans fs _ y b (parent_above fs h y q.there some_y) q in
    let flat : (node_of fs (node_of fs x).parent.0).depth ≡ (node_of fs (node_of fs y).parent.0).depth = omega
    (arith, is_x.deeper, is_y.deeper, level) in
    let deep = common-apart fs h (node_of fs x).parent.0 (node_of fs y).parent.0 a b up_x up_y flat parents in
    let jump = eqb-true (node_of fs x).jump.0 (node_of fs y).jump.0 e in
    let over_a = above_trans fs (node_of fs x).jump.0 x a (jump_above fs h x p.there) p in
    let over_b = above_trans fs (node_of fs y).jump.0 y b (jump_above fs h y q.there) q in
    let high = common-above fs h (node_of fs x).jump.0 a b over_a (subst (λ j. IsAtOrAbove fs j b) (sym jump) over_b) in
    record {
      first = MovesUp-parent fs h (floor_of fs a b) x p.there some_x (omega (arith, is_x.deeper)) (omega arith);
      second = MovesUp-parent fs h (floor_of fs a b) y q.there some_y (omega (arith, is_y.deeper))
          (omega (arith, ap (λ j. (node_of fs j).depth) jump));
      level = flat;
      apart = parents;
    }
together_cases fs h a b x y p q level ne parents false e =
    let some_x = level_some fs h x y p.there q.there level ne in
    let is_x = IsChild-of fs h x p.there some_x in
    let jump_x = IsJump-of fs h x p.there in
    let jump_y = IsJump-of fs h y q.there in
    let flat = jump_level (node_of fs x).depth (node_of fs y).depth (node_of fs (node_of fs x).jump.0).depth
    (node_of fs (node_of fs y).jump.0).depth level jump_x.behind jump_y.behind in
    let other : (node_of fs x).jump.0 ≢ (node_of fs y).jump.0 = grind (arith, nat_tests, e) in
    let over_a = above_trans fs (node_of fs x).jump.0 x a (jump_above fs h x p.there) p in
    let over_b = above_trans fs (node_of fs y).jump.0 y b (jump_above fs h y q.there) q in
    let deep = common-apart fs h (node_of fs x).jump.0 (node_of fs y).jump.0 a b over_a over_b flat other in
    record {
      first = MovesUp-jump fs h (floor_of fs a b) x p.there (omega (arith, is_x.deeper)) (omega arith);
      second = MovesUp-jump fs h (floor_of fs a b) y q.there (omega (arith, is_x.deeper, level)) (omega (arith, flat));
      level = flat;
      apart = other;
    }

-- by their jumps where these differ, else to their parents
pub MoveTogether-up : (fs : Forks) → IsHistory fs → (a b x y : ℕ) → IsAtOrAbove fs x a → IsAtOrAbove fs y b
    → (node_of fs x).depth ≡ (node_of fs y).depth → x ≢ y → (node_of fs x).parent.0 ≢ (node_of fs y).parent.0
    → MoveTogether fs a b x y (move_from (node_of fs x) (not (eqb (node_of fs x).jump.0 (node_of fs y).jump.0))).0
    (move_from (node_of fs y) (not (eqb (node_of fs x).jump.0 (node_of fs y).jump.0))).0
MoveTogether-up fs h a b x y p q level ne parents = together_cases fs h a b x y p q level ne parents _ refl

rest_order : (r s : Name) (n j k d : ℕ) → j ≡ n + length r → k ≡ n + length s → n ≡ min j k → nat_lt j k ≡ before r s
rest_order [] [] n j k d p q e = grind (arith, nat_tests, p, q)
rest_order [] (y ∷ s) n j k d p q e = grind (arith, nat_tests, p, q)
rest_order (x ∷ r) [] n j k d p q e = grind (arith, nat_tests, p, q)
rest_order (x ∷ r) (y ∷ s) n j k d p q e = absurd (omega arith)

-- of two tasks, one of which is the other or above it, the less deep one is before
pub before-same : (fs : Forks) → IsHistory fs → (a b x : ℕ) → HasTask fs a → HasTask fs b → IsAtOrAbove fs x a
    → IsAtOrAbove fs x b → (node_of fs x).depth ≡ min (node_of fs a).depth (node_of fs b).depth
    → nat_lt (node_of fs a).depth (node_of fs b).depth ≡ before (name_of fs a) (name_of fs b)
before-same fs h a b x pa pb p q level =
    let depth_x = depth-of fs h x p.there in
    let depth_a = depth-of fs h a pa in
    let depth_b = depth-of fs h b pb in
    rw (p.goes_on, q.goes_on, before-append_same (name_of fs x) p.rest q.rest)
    (rest_order p.rest q.rest (node_of fs x).depth (node_of fs a).depth (node_of fs b).depth 0
    (omega (arith, depth_x, depth_a, ap length p.goes_on, length-append (name_of fs x) p.rest))
    (omega (arith, depth_x, depth_b, ap length q.goes_on, length-append (name_of fs x) q.rest)) level)

heads_order : (j k : ℕ) (r s : Name) → j ≢ k → nat_lt k j ≡ before (j ∷ r) (k ∷ s)
heads_order j k r s ne = grind (arith, nat_tests, ne)

-- of two tasks below different children of one task, the one below the greater kid is before
pub before-apart : (fs : Forks) → IsHistory fs → (a b x y : ℕ) → IsAtOrAbove fs x a → IsAtOrAbove fs y b
    → (node_of fs x).depth ≡ (node_of fs y).depth → x ≢ y → (node_of fs x).parent.0 ≡ (node_of fs y).parent.0
    → nat_lt (node_of fs y).kid (node_of fs x).kid ≡ before (name_of fs a) (name_of fs b)
before-apart fs h a b x y p q level ne parents =
    let some_x = level_some fs h x y p.there q.there level ne in
    let some_y = level_some fs h y x q.there p.there (sym level) (λ k. ne (sym k)) in
    let is_x = IsChild-of fs h x p.there some_x in
    let is_y = IsChild-of fs h y q.there some_y in
    let kids : (node_of fs x).kid ≢ (node_of fs y).kid = λ e. ne
    (kids_apart fs h x y p.there q.there some_x some_y parents e) in
    let top = name_of fs (node_of fs y).parent.0 in
    let whole_a : name_of fs a ≡ top ++ (node_of fs x).kid ∷ p.rest =
    p.goes_on ∙ ap (λ (m : Name). m ++ p.rest)
    (is_x.named ∙ ap (λ n. name_of fs n ++ (node_of fs x).kid ∷ []) parents)
    ∙ append_assoc top ((node_of fs x).kid ∷ []) p.rest in
    let whole_b : name_of fs b ≡ top ++ (node_of fs y).kid ∷ q.rest =
    q.goes_on ∙ ap (λ (m : Name). m ++ q.rest) is_y.named ∙ append_assoc top ((node_of fs y).kid ∷ []) q.rest in
    heads_order (node_of fs x).kid (node_of fs y).kid p.rest q.rest kids
    ∙ sym (before-append_same top ((node_of fs x).kid ∷ p.rest) ((node_of fs y).kid ∷ q.rest))
    ∙ sym (ap (λ (m : Name). before m (top ++ (node_of fs y).kid ∷ q.rest)) whole_a)
    ∙ sym (ap (λ (m : Name). before (name_of fs a) m) whole_b)
