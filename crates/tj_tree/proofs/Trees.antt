-- What holds of the tasks of a tree that forks build: their names, nodes and jumps.
use Rattle.std.proofs.Common.{◌≡◌, ◌≢◌, ℕ, suc, zero, ◌+◌, ◌-◌, ◌<◌, Bool, true, false, cond, eqb, List, [], ◌∷◌, ◌++◌, length, refl, sym, ap, ◌∙◌, subst, inl, inr, arith, add-one}
use Rattle.std.proofs.lemmas.Bool.{cases_eq, eqb-true}
use Rattle.std.proofs.lemmas.Bool.Decides.{nat_tests}
use Rattle.std.proofs.lemmas.List.{append_assoc, append-nil, length-append}
use Rattle.tj_tree.specs.declared.node.Node.{Node}
use Rattle.tj_tree.specs.declared.node.NodeId.{NodeId}
use Rattle.tj_base.specs.ForkOrder.{Name}
use Rattle.tj_tree.specs.Forks.{Fork, Forks, HasTask, HasKid, IsNext, IsHistory, name_of}
use Rattle.tj_tree.specs.Nodes.{root_node, jump_from, child_node, node_of}
use Rattle.tj_tree.proofs.Skew.{ranks, tail, next, total, total-ranks, tail-next_merged, tail-next_added}

-- a further fork changes no task
pub other_task : (fork : Fork) (fs : Forks) (n : ℕ) → IsNext fork fs → HasTask fs n → eqb n fork.child ≡ false
other_task fork fs n next there = let below = next.newest n there in grind (arith, nat_tests, below)

pub node_of-older : (fork : Fork) (fs : Forks) (n : ℕ) → IsNext fork fs → HasTask fs n
    → node_of (fork ∷ fs) n ≡ node_of fs n
node_of-older fork fs n next there = ap (λ b. cond b (child_node (node_of fs) fork) (node_of fs n))
    (other_task fork fs n next there)

pub name_of-older : (fork : Fork) (fs : Forks) (n : ℕ) → IsNext fork fs → HasTask fs n
    → name_of (fork ∷ fs) n ≡ name_of fs n
name_of-older fork fs n next there = ap (λ b. cond b (name_of fs fork.parent ++ fork.kid ∷ []) (name_of fs n))
    (other_task fork fs n next there)

eqb_same : (n : ℕ) → eqb n n ≡ true
eqb_same n = grind (arith, nat_tests)

pub node_of-child : (fork : Fork) (fs : Forks) → node_of (fork ∷ fs) fork.child ≡ child_node (node_of fs) fork
node_of-child fork fs = ap (λ b. cond b (child_node (node_of fs) fork) (node_of fs fork.child)) (eqb_same fork.child)

pub name_of-child : (fork : Fork) (fs : Forks)
    → name_of (fork ∷ fs) fork.child ≡ name_of fs fork.parent ++ fork.kid ∷ []
name_of-child fork fs = ap (λ b. cond b (name_of fs fork.parent ++ fork.kid ∷ []) (name_of fs fork.child))
    (eqb_same fork.child)

pub root_there : (fs : Forks) → HasTask fs 0
root_there [] = refl
root_there (fork ∷ fs) = inr (root_there fs)

-- one that isn't the root is its parent's child
pub record IsChild (there : ℕ → Type 0) (nodes : ℕ → Node) (names : ℕ → Name) (n : ℕ) : Type 0 where
  pub parent_there : there (nodes n).parent.0
  pub named : names n ≡ names (nodes n).parent.0 ++ (nodes n).kid ∷ []
  pub deeper : (nodes n).depth ≡ (nodes (nodes n).parent.0).depth + 1

-- a jump leads to a task above, whose ranks are those behind the lowest one
pub record IsJump (there : ℕ → Type 0) (nodes : ℕ → Node) (names : ℕ → Name) (node : Node) (name : Name) : Type 0 where
  pub jump_there : there node.jump.0
  pub behind : ranks (nodes node.jump.0).depth ≡ tail (ranks node.depth)
  pub rest : Name
  pub above : name ≡ names node.jump.0 ++ rest

-- they stay so in a tree that has grown
module _ (there more : ℕ → Type 0) (nodes grown : ℕ → Node) (names longer : ℕ → Name)
    (stays : (n : ℕ) → there n → more n) (same : (n : ℕ) → there n → grown n ≡ nodes n)
    (alike : (n : ℕ) → there n → longer n ≡ names n) where
  IsChild-grown : (n : ℕ) → there n → IsChild there nodes names n → IsChild more grown longer n
  IsChild-grown n h is =
      let here = same n h in
      let parent : (grown n).parent.0 ≡ (nodes n).parent.0 = ap (λ (x : Node). x.parent.0) here in
      let its_node = same (nodes n).parent.0 is.parent_there in
      let its_name = alike (nodes n).parent.0 is.parent_there in
      let name = alike n h in
      record {
        parent_there = subst more (sym parent) (stays (nodes n).parent.0 is.parent_there);
        named = rw (here, its_name, name) is.named;
        deeper = rw (here, its_node) is.deeper;
      }

  IsJump-grown : (node : Node) (name : Name) → IsJump there nodes names node name → IsJump more grown longer node name
  IsJump-grown node name is =
      let its_node = same node.jump.0 is.jump_there in
      let its_name = alike node.jump.0 is.jump_there in
      record {
        jump_there = stays node.jump.0 is.jump_there;
        behind = rw its_node is.behind;
        rest = is.rest;
        above = rw its_name is.above;
      }

-- where the jump of a child leads
abbrev IsAbove : (ℕ → Type 0) → (ℕ → Node) → (ℕ → Name) → ℕ → NodeId → Type 0
IsAbove there nodes names p jump =
    there jump.0 × (ranks (nodes jump.0).depth ≡ tail (next (ranks (nodes p).depth))) ×
    ((rest : Name) × (names p ≡ names jump.0 ++ rest))

module _ (there : ℕ → Type 0) (nodes : ℕ → Node) (names : ℕ → Name) (p : ℕ)
    (near : IsJump there nodes names (nodes p) (names p))
    (far : IsJump there nodes names (nodes (nodes p).jump.0) (names (nodes p).jump.0)) (h : there p) where
  abbrev rs : List ℕ
  rs = ranks (nodes p).depth

  whole : total rs ≡ (nodes p).depth
  whole = total-ranks (nodes p).depth

  first : total (tail rs) ≡ (nodes (nodes p).jump.0).depth
  first = ap total (sym near.behind) ∙ total-ranks _

  behind_both : ranks (nodes (nodes (nodes p).jump.0).jump.0).depth ≡ tail (tail rs)
  behind_both = far.behind ∙ ap tail near.behind

  second : total (tail (tail rs)) ≡ (nodes (nodes (nodes p).jump.0).jump.0).depth
  second = ap total (sym behind_both) ∙ total-ranks _

  IsAbove-cases : (t : Bool) → eqb ((nodes p).depth - (nodes (nodes p).jump.0).depth)
      ((nodes (nodes p).jump.0).depth - (nodes (nodes (nodes p).jump.0).jump.0).depth) ≡ t
      → IsAbove there nodes names p (cond t (nodes (nodes p).jump.0).jump (record { 0 = p }))
  IsAbove-cases true e =
      let long : (nodes p).depth - (nodes (nodes p).jump.0).depth ≡ (nodes (nodes p).jump.0).depth -
      (nodes (nodes (nodes p).jump.0).jump.0).depth = eqb-true _ _ e in
      let merged = tail-next_merged rs (rw (whole, first, second) long) in (
        far.jump_there,
        behind_both ∙ sym merged,
        (
          far.rest ++ near.rest,
          near.above ∙ (ap (λ (n : Name). n ++ near.rest) far.above
              ∙ append_assoc (names (nodes (nodes p).jump.0).jump.0) far.rest near.rest),
        ),
      )
  IsAbove-cases false e =
      let uneven : (nodes p).depth - (nodes (nodes p).jump.0).depth ≢ (nodes (nodes p).jump.0).depth -
      (nodes (nodes (nodes p).jump.0).jump.0).depth = grind (arith, nat_tests, e) in
      let added = tail-next_added rs (rw (whole, first, second) uneven) in
      (h, sym added, ([], sym (append-nil (names p))))

  IsAbove-child : IsAbove there nodes names p (jump_from nodes (record { 0 = p }))
  IsAbove-child = IsAbove-cases _ refl

  IsJump-child : (kid : ℕ) → IsJump there nodes names
      (child_node nodes (record { parent = p; child = p; kid = kid })) (names p ++ kid ∷ [])
  IsJump-child kid = record {
    jump_there = IsAbove-child.0;
    behind = rw add-one IsAbove-child.1;
    rest = IsAbove-child.2.0 ++ kid ∷ [];
    above = ap (λ (n : Name). n ++ kid ∷ []) IsAbove-child.2.1
        ∙ append_assoc (names (jump_from nodes (record { 0 = p })).0) IsAbove-child.2.0 (kid ∷ []);
  }

IsJump-later : (fork : Fork) (fs : Forks) → IsNext fork fs → (node : Node) (name : Name)
    → IsJump (HasTask fs) (node_of fs) (name_of fs) node name
    → IsJump (HasTask (fork ∷ fs)) (node_of (fork ∷ fs)) (name_of (fork ∷ fs)) node name
IsJump-later fork fs next =
    IsJump-grown (HasTask fs) (HasTask (fork ∷ fs)) (node_of fs) (node_of (fork ∷ fs)) (name_of fs)
    (name_of (fork ∷ fs)) (λ m k. inr k) (λ m k. node_of-older fork fs m next k)
    (λ m k. name_of-older fork fs m next k)

-- each task's jump is as Myers' rule has it
pub IsJump-of : (fs : Forks) → IsHistory fs → (n : ℕ) → HasTask fs n
    → IsJump (HasTask fs) (node_of fs) (name_of fs) (node_of fs n) (name_of fs n)
IsJump-of [] h n there = record { jump_there = refl; behind = refl; rest = []; above = refl }
IsJump-of (fork ∷ fs) h n (inr there) =
    rw (node_of-older fork fs n h.0 there, name_of-older fork fs n h.0 there)
    (IsJump-later fork fs h.0 (node_of fs n) (name_of fs n) (IsJump-of fs h.1 n there))
IsJump-of (fork ∷ fs) h n (inl same) =
    let near = IsJump-of fs h.1 fork.parent h.0.parent_there in
    let far = IsJump-of fs h.1 (node_of fs fork.parent).jump.0 near.jump_there in
    rw (same, node_of-child fork fs, name_of-child fork fs)
    (IsJump-later fork fs h.0 (child_node (node_of fs) fork) (name_of fs fork.parent ++ fork.kid ∷ [])
    (IsJump-child (HasTask fs) (node_of fs) (name_of fs) fork.parent near far h.0.parent_there fork.kid))

newest_child : (fork : Fork) (fs : Forks) → IsNext fork fs
    → IsChild (HasTask (fork ∷ fs)) (node_of (fork ∷ fs)) (name_of (fork ∷ fs)) fork.child
newest_child fork fs next =
    let named = name_of-older fork fs fork.parent next next.parent_there in
    let at_parent = node_of-older fork fs fork.parent next next.parent_there in
    record {
      parent_there = rw (node_of-child fork fs) (inr next.parent_there);
      named = rw (node_of-child fork fs, name_of-child fork fs, named) refl;
      deeper = rw (node_of-child fork fs, at_parent) refl;
    }

-- each task but the root is a child
pub IsChild-of : (fs : Forks) → IsHistory fs → (n : ℕ) → HasTask fs n → n ≢ 0
    → IsChild (HasTask fs) (node_of fs) (name_of fs) n
IsChild-of [] h n there some = absurd (some there)
IsChild-of (fork ∷ fs) h n (inr there) some =
    IsChild-grown (HasTask fs) (HasTask (fork ∷ fs)) (node_of fs) (node_of (fork ∷ fs)) (name_of fs)
    (name_of (fork ∷ fs)) (λ m k. inr k) (λ m k. node_of-older fork fs m h.0 k)
    (λ m k. name_of-older fork fs m h.0 k) n there (IsChild-of fs h.1 n there some)
IsChild-of (fork ∷ fs) h n (inl same) some =
    subst (IsChild (HasTask (fork ∷ fs)) (node_of (fork ∷ fs)) (name_of (fork ∷ fs))) (sym same)
    (newest_child fork fs h.0)

pub HasKid-of : (fs : Forks) → IsHistory fs → (n : ℕ) → HasTask fs n → n ≢ 0
    → HasKid fs (node_of fs n).parent.0 (node_of fs n).kid
HasKid-of [] h n there some = absurd (some there)
HasKid-of (fork ∷ fs) h n (inr there) some = rw (node_of-older fork fs n h.0 there)
    (inr (HasKid-of fs h.1 n there some))
HasKid-of (fork ∷ fs) h n (inl same) some = rw (same, node_of-child fork fs) (inl (refl, refl))

pub depth-of : (fs : Forks) → IsHistory fs → (n : ℕ) → HasTask fs n → (node_of fs n).depth ≡ length (name_of fs n)
depth-of [] h n there = refl
depth-of (fork ∷ fs) h n (inr there) = rw (node_of-older fork fs n h.0 there, name_of-older fork fs n h.0 there)
    (depth-of fs h.1 n there)
depth-of (fork ∷ fs) h n (inl same) =
    rw (same, node_of-child fork fs, name_of-child fork fs)
    (omega (
      arith,
      depth-of fs h.1 fork.parent h.0.parent_there,
      length-append (name_of fs fork.parent)
          (fork.kid ∷ []),
    ))

older_kid : (fork : Fork) (fs : Forks) (n : ℕ) → IsHistory (fork ∷ fs) → HasTask fs n → n ≢ 0
    → fork.parent ≡ (node_of fs n).parent.0 → HasKid fs fork.parent (node_of fs n).kid
older_kid fork fs n h there some p = subst (λ q. HasKid fs q (node_of fs n).kid) (sym p) (HasKid-of fs h.1 n there some)

-- siblings have kid numbers of their own
pub kids_apart : (fs : Forks) → IsHistory fs → (m n : ℕ) → HasTask fs m → HasTask fs n → m ≢ 0 → n ≢ 0
    → (node_of fs m).parent.0 ≡ (node_of fs n).parent.0 → (node_of fs m).kid ≡ (node_of fs n).kid → m ≡ n
kids_apart [] h m n there also some more p k = absurd (some there)
kids_apart (fork ∷ fs) h m n (inl same) (inl alike) some more p k = same ∙ sym alike
kids_apart (fork ∷ fs) h m n (inl same) (inr also) some more p k =
    let kid = h.0.last_kid (node_of fs n).kid
    (older_kid fork fs n h also more (rw (same, node_of-child fork fs, node_of-older fork fs n h.0 also) at p)) in
    absurd (omega (arith, kid, rw (same, node_of-child fork fs, node_of-older fork fs n h.0 also) at k))
kids_apart (fork ∷ fs) h m n (inr there) (inl alike) some more p k =
    let kid = h.0.last_kid (node_of fs m).kid
    (older_kid fork fs m h there some (sym (rw (alike, node_of-child fork fs, node_of-older fork fs m h.0 there)
    at p))) in
    absurd (omega (arith, kid, rw (alike, node_of-child fork fs, node_of-older fork fs m h.0 there) at k))
kids_apart (fork ∷ fs) h m n (inr there) (inr also) some more p k =
    kids_apart fs h.1 m n there also some more
    (rw (node_of-older fork fs m h.0 there, node_of-older fork fs n h.0 also) at p)
    (rw (node_of-older fork fs m h.0 there, node_of-older fork fs n h.0 also) at k)

pub snoc_apart : (xs ys : Name) (x y : ℕ) → xs ++ x ∷ [] ≡ ys ++ y ∷ [] → (xs ≡ ys) × (x ≡ y)
snoc_apart [] [] x y e = (refl, cc)
snoc_apart [] (b ∷ []) x y e = absurd (cc)
snoc_apart [] (b ∷ c ∷ ys) x y e = absurd (cc)
snoc_apart (a ∷ []) [] x y e = absurd (cc)
snoc_apart (a ∷ c ∷ xs) [] x y e = absurd (cc)
snoc_apart (a ∷ xs) (b ∷ ys) x y e =
    let same : a ≡ b = cc in
    let rest = snoc_apart xs ys x y (cc) in
    (cc, rest.1)

pub not_snoc : (xs : Name) (x : ℕ) → [] ≡ xs ++ x ∷ [] → ⊥
not_snoc [] x e = cc
not_snoc (y ∷ xs) x e = cc

pub root_name : (fs : Forks) → IsHistory fs → name_of fs 0 ≡ []
root_name [] h = refl
root_name (fork ∷ fs) h = name_of-older fork fs 0 h.0 (root_there fs) ∙ root_name fs h.1

apart_within : (k : ℕ) (fs : Forks) → IsHistory fs → (m n : ℕ) → length (name_of fs m) < k → HasTask fs m
    → HasTask fs n → name_of fs m ≡ name_of fs n → m ≡ n
apart_within zero fs h m n l there also e = absurd (omega arith)
apart_within (suc k) fs h m n l there also e =
    elim (cases_eq m 0) [
      | inl m_root ↦ elim (cases_eq n 0) [
        | inl n_root ↦ m_root ∙ sym n_root
        | inr more ↦
            let is = IsChild-of fs h n also more in
            absurd (not_snoc _ _ (sym (root_name fs h) ∙ ap (name_of fs) (sym m_root) ∙ e ∙ is.named))
      ]
      | inr some ↦ elim (cases_eq n 0) [
        | inl n_root ↦
            let is = IsChild-of fs h m there some in
            absurd (not_snoc _ _ (sym (root_name fs h) ∙ ap (name_of fs) (sym n_root) ∙ sym e ∙ is.named))
        | inr more ↦
            let one = IsChild-of fs h m there some in
            let two = IsChild-of fs h n also more in
            let parts = snoc_apart (name_of fs (node_of fs m).parent.0) (name_of fs (node_of fs n).parent.0)
            (node_of fs m).kid (node_of fs n).kid (sym one.named ∙ e ∙ two.named) in
            let shorter : length (name_of fs (node_of fs m).parent.0) < k = omega (
              arith,
              ap length one.named,
              length-append (name_of fs (node_of fs m).parent.0)
                  ((node_of fs m).kid ∷ []),
            ) in
            let parents = apart_within k fs h (node_of fs m).parent.0 (node_of fs n).parent.0 shorter
            one.parent_there two.parent_there parts.0 in
            kids_apart fs h m n there also some more parents parts.1
      ]
    ]

-- tasks have names of their own
pub names_apart : (fs : Forks) → IsHistory fs → (m n : ℕ) → HasTask fs m → HasTask fs n → name_of fs m ≡ name_of fs n
    → m ≡ n
names_apart fs h m n = apart_within (suc (length (name_of fs m))) fs h m n (omega arith)

root_node-of : (fs : Forks) → IsHistory fs → node_of fs 0 ≡ root_node
root_node-of [] h = refl
root_node-of (fork ∷ fs) h = node_of-older fork fs 0 h.0 (root_there fs) ∙ root_node-of fs h.1

-- each task's parent is there
pub parent_there : (fs : Forks) → IsHistory fs → (n : ℕ) → HasTask fs n → HasTask fs (node_of fs n).parent.0
parent_there fs h n there =
    elim (cases_eq n 0) [
      | inl root ↦ subst (HasTask fs) (sym (ap (λ k. (node_of fs k).parent.0) root
          ∙ ap (λ (node : Node). node.parent.0) (root_node-of fs h))) (root_there fs)
      | inr some ↦ let is = IsChild-of fs h n there some in is.parent_there
    ]
