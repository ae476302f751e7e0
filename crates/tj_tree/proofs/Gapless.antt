-- Forks whose tasks, and the children of each, are numbered as they come.
use Rattle.std.proofs.Common.{◌≡◌, ◌≢◌, ℕ, suc, ◌+◌, ◌-◌, ◌<◌, ◌≤◌, cond, eqb, List, [], ◌∷◌, ◌++◌, length, get_or, set, refl, sym, ap, ◌∙◌, subst, inl, inr, arith}
use Rattle.std.proofs.lemmas.Bool.{cases_eq, cases_lt}
use Rattle.std.proofs.lemmas.Bool.Decides.{nat_tests}
use Rattle.std.proofs.lemmas.List.{length_push, length-set, get_or_push, get_or_append_left, get_or-set_same, get_or-set_other}
use Rattle.std.proofs.lemmas.List.Sums.{sum_by-cons}
use Rattle.tj_tree.specs.declared.node.Node.{Node}
use Rattle.tj_tree.specs.declared.node.NodeId.{NodeId}
use Rattle.tj_tree.specs.declared.tree.Entry.{Entry}
use Rattle.tj_base.specs.declared.cell.TheConstants.{MAX_CELLS}
use Rattle.tj_tree.specs.Forks.{Fork, Forks, HasTask, HasKid, IsHistory, task_count, kid_count, next_fork}
use Rattle.tj_tree.specs.Nodes.{child_node, node_of}
use Rattle.tj_tree.specs.Inner.Tree.{AreGapless, AreEntriesOf, MayLook, forks_up_to, forks_of, root_entry}
use Rattle.tj_tree.proofs.Skew.{jump_up_to}
use Rattle.tj_tree.proofs.Trees.{node_of-older, node_of-child, IsJump-of, parent_there}

pub HasTask-below : (fs : Forks) → AreGapless fs → (n : ℕ) → n < task_count fs → HasTask fs n
HasTask-below [] h n l = omega arith
HasTask-below (fork ∷ fs) h n l =
    let number : fork.child ≡ task_count fs = ap (λ (f : Fork). f.child) h.0 in
    elim (cases_eq n fork.child) [
      | inl same ↦ inl same
      | inr other ↦ inr (HasTask-below fs h.2 n (omega arith))
    ]

pub below-HasTask : (fs : Forks) → AreGapless fs → (n : ℕ) → HasTask fs n → n < task_count fs
below-HasTask [] h n there = omega arith
below-HasTask (fork ∷ fs) h n (inl same) = let number : fork.child ≡ task_count fs = ap (λ (f : Fork). f.child) h.0
    in omega arith
below-HasTask (fork ∷ fs) h n (inr there) = omega (arith, below-HasTask fs h.2 n there)

kid_count-cons : (fork : Fork) (fs : Forks) (n : ℕ)
    → kid_count (fork ∷ fs) n ≡ cond (eqb fork.parent n) 1 0 + kid_count fs n
kid_count-cons fork fs n = sum_by-cons (λ (f : Fork). cond (eqb f.parent n) 1 0) fork fs

kids_counted : (fs : Forks) → AreGapless fs → (p k : ℕ) → HasKid fs p k → k ≤ kid_count fs p
kids_counted [] h p k has = absurd has
kids_counted (fork ∷ fs) h p k (inl is) =
    let number : fork.kid ≡ kid_count fs fork.parent + 1 = ap (λ (f : Fork). f.kid) h.0 in
    let more = kid_count-cons fork fs p in
    let same : kid_count fs fork.parent ≡ kid_count fs p = ap (kid_count fs) is.0 in
    grind (arith, nat_tests, number, more, same, is)
kids_counted (fork ∷ fs) h p k (inr has) =
    let rest = kids_counted fs h.2 p k has in
    let more = kid_count-cons fork fs p in
    omega (arith, rest, more)

pub IsHistory-gapless : (fs : Forks) → AreGapless fs → IsHistory fs
IsHistory-gapless [] h = tt
IsHistory-gapless (fork ∷ fs) h =
    let number : fork.child ≡ task_count fs = ap (λ (f : Fork). f.child) h.0 in
    let kid : fork.kid ≡ kid_count fs fork.parent + 1 = ap (λ (f : Fork). f.kid) h.0 in (
      record {
        parent_there = HasTask-below fs h.2 fork.parent h.1;
        newest = λ n there. omega (arith, number, below-HasTask fs h.2 n there);
        last_kid = λ k has. omega (arith, kid, kids_counted fs h.2 fork.parent k has);
      },
      IsHistory-gapless fs h.2,
    )

pub depth_below : (fs : Forks) → AreGapless fs → (n : ℕ) → HasTask fs n → (node_of fs n).depth ≤ n
depth_below [] h n there = omega arith
depth_below (fork ∷ fs) h n (inr there) = rw (node_of-older fork fs n (IsHistory-gapless (fork ∷ fs) h).0 there)
    (depth_below fs h.2 n there)
depth_below (fork ∷ fs) h n (inl same) =
    let number : fork.child ≡ task_count fs = ap (λ (f : Fork). f.child) h.0 in
    let above = depth_below fs h.2 fork.parent (HasTask-below fs h.2 fork.parent h.1) in
    rw (same, node_of-child fork fs) (omega (arith, above, number, h.1))

pub jump_up : (fs : Forks) → IsHistory fs → (n : ℕ) → HasTask fs n
    → (node_of fs (node_of fs n).jump.0).depth ≤ (node_of fs n).depth
jump_up fs h n there =
    let is = IsJump-of fs h n there in
    jump_up_to (node_of fs n).depth (node_of fs (node_of fs n).jump.0).depth is.behind

same_fork : (fork : Fork) (p c k : ℕ) → p ≡ fork.parent → c ≡ fork.child → k ≡ fork.kid
    → record { parent = p; child = c; kid = k } ≡ fork
same_fork fork p c k e f g = rw (e, f, g) refl

forks_up_to-same : (entries : List Entry) (fs : Forks) → AreGapless fs
    → ((n : ℕ) (d : Entry) → n < task_count fs → (get_or entries n d).node ≡ node_of fs n)
    → forks_up_to entries (length fs) ≡ fs
forks_up_to-same entries [] h same = refl
forks_up_to-same entries (fork ∷ fs) h same =
    let number : fork.child ≡ task_count fs = ap (λ (f : Fork). f.child) h.0 in
    let last : suc (length fs) ≡ fork.child = omega (arith, number) in
    let node : (get_or entries (suc (length fs)) root_entry).node ≡ child_node (node_of fs) fork =
    same (suc (length fs)) root_entry (omega arith) ∙ ap (node_of (fork ∷ fs)) last ∙ node_of-child fork fs in
    let this = same_fork fork (get_or entries (suc (length fs)) root_entry).node.parent.0 (suc (length fs))
    (get_or entries (suc (length fs)) root_entry).node.kid (ap (λ (x : Node). x.parent.0) node) last
    (ap (λ (x : Node). x.kid) node) in
    let history = IsHistory-gapless (fork ∷ fs) h in
    let rest = forks_up_to-same entries fs h.2
    (λ n d l. same n d (omega arith) ∙ node_of-older fork fs n history.0 (HasTask-below fs h.2 n l)) in
    ap (λ (f : Fork). f ∷ forks_up_to entries (length fs)) this ∙ ap (λ (ys : Forks). fork ∷ ys) rest

pub forks_of-entries : (fs : Forks) (entries : List Entry) → AreEntriesOf fs entries → forks_of entries ≡ fs
forks_of-entries fs entries h =
    let last : length entries - 1 ≡ length fs = omega (arith, h.size) in
    ap (forks_up_to entries) last ∙ forks_up_to-same entries fs h.gapless (λ n d l. h.nodes n d (omega (arith, h.size)))

-- an entry leads to others
below-entries : (fs : Forks) (entries : List Entry) (n : ℕ) → AreEntriesOf fs entries → HasTask fs n
    → n < length entries
below-entries fs entries n h there = omega (arith, h.size, below-HasTask fs h.gapless n there)

-- what holds of the node of a task holds of that of its entry
entry_has : (P : Node → Type 0) (fs : Forks) (entries : List Entry) (n : ℕ) → AreEntriesOf fs entries
    → n < length entries → (HasTask fs n → P (node_of fs n)) → P (get_or entries n root_entry).node
entry_has P fs entries n h l of_node = subst P (sym (h.nodes n root_entry l))
    (of_node (HasTask-below fs h.gapless n (omega (arith, h.size))))

-- its depth is at most its number, its parent and its jump are among the entries, and its jump is no deeper
pub entry_shallow : (fs : Forks) (entries : List Entry) (n : ℕ) → AreEntriesOf fs entries → n < length entries
    → (get_or entries n root_entry).node.depth ≤ n
entry_shallow fs entries n h l = entry_has (λ node. node.depth ≤ n) fs entries n h l (depth_below fs h.gapless n)

pub entry_parent : (fs : Forks) (entries : List Entry) (n : ℕ) → AreEntriesOf fs entries → n < length entries
    → (get_or entries n root_entry).node.parent.0 < length entries
entry_parent fs entries n h l = entry_has (λ node. node.parent.0 < length entries) fs entries n h l
    (λ there. below-entries fs entries (node_of fs n).parent.0 h
    (parent_there fs (IsHistory-gapless fs h.gapless) n there))

pub entry_jump : (fs : Forks) (entries : List Entry) (n : ℕ) → AreEntriesOf fs entries → n < length entries
    → (get_or entries n root_entry).node.jump.0 < length entries
entry_jump fs entries n h l = entry_has (λ node. node.jump.0 < length entries) fs entries n h l
    (λ there. let is = IsJump-of fs (IsHistory-gapless fs h.gapless) n there in
    below-entries fs entries (node_of fs n).jump.0 h is.jump_there)

pub entry_up : (fs : Forks) (entries : List Entry) (n : ℕ) → AreEntriesOf fs entries → n < length entries
    → (node_of fs (get_or entries n root_entry).node.jump.0).depth ≤ (get_or entries n root_entry).node.depth
entry_up fs entries n h l = entry_has (λ node. (node_of fs node.jump.0).depth ≤ node.depth) fs entries n h l
    (jump_up fs (IsHistory-gapless fs h.gapless) n)

no_kids_yet : (fs : Forks) → AreGapless fs → (n : ℕ) → task_count fs ≤ n → kid_count fs n ≡ 0
no_kids_yet [] h n l = refl
no_kids_yet (fork ∷ fs) h n l =
    let rest = no_kids_yet fs h.2 n (omega arith) in
    let more = kid_count-cons fork fs n in
    let other : fork.parent ≢ n = omega (arith, h.1) in
    grind (arith, nat_tests, rest, more, other)

-- each entry after a fork: the parent's, an older one, or the child's
read_after : (entries : List Entry) (p : ℕ) (child parent : Entry) (P : Entry → Type 0) (n : ℕ) (d : Entry)
    → p < length entries → n < length entries + 1 → (n ≡ p → P parent)
    → (n ≢ p → n < length entries → P (get_or entries n d)) → (n ≡ length entries → P child)
    → P (get_or (set (entries ++ child ∷ []) p parent) n d)
read_after entries p child parent P n d l k at_parent older at_child =
    let grown = entries ++ child ∷ [] in
    let wide : p < length grown = omega (arith, length_push entries child) in
    elim (cases_eq n p) [
      | inl same ↦ subst P (sym (ap (λ i. get_or (set grown p parent) i d) same
          ∙ get_or-set_same grown p parent d wide)) (at_parent same)
      | inr other ↦
          subst P (sym (get_or-set_other grown p n parent d other))
          (elim (cases_lt n (length entries)) [
            | inl below ↦ subst P (sym (get_or_append_left entries (child ∷ []) d n below)) (older other below)
            | inr last ↦
                let end : n ≡ length entries = omega arith in
                subst P (sym (get_or_push entries child d n (sym end))) (at_child end)
          ])
    ]

-- the entries after a fork: a further one, and one more child counted at the parent
module _ (fs : Forks) (entries : List Entry) (p : ℕ) (child parent : Entry) (h : AreEntriesOf fs entries)
    (l : p < length entries) (few : length entries < MAX_CELLS)
    (node : child.node ≡ child_node (node_of fs) (next_fork fs p)) (none : child.kids ≡ 0)
    (above : parent.node ≡ node_of fs p) (more : parent.kids ≡ kid_count fs p + 1) where
  gapless_on : AreGapless (next_fork fs p ∷ fs)
  gapless_on = (refl, omega (arith, h.size, l), h.gapless)

  older_node : (n : ℕ) → n < length entries → node_of (next_fork fs p ∷ fs) n ≡ node_of fs n
  older_node n k = node_of-older (next_fork fs p) fs n (IsHistory-gapless (next_fork fs p ∷ fs) gapless_on).0
      (HasTask-below fs h.gapless n (omega (arith, h.size)))

  kids_of : (n : ℕ) → kid_count (next_fork fs p ∷ fs) n ≡ cond (eqb p n) 1 0 + kid_count fs n
  kids_of n = kid_count-cons (next_fork fs p) fs n

  length_after : length (set (entries ++ child ∷ []) p parent) ≡ length entries + 1
  length_after = length-set (entries ++ child ∷ []) p parent ∙ length_push entries child

  pub AreEntriesOf-fork : AreEntriesOf (next_fork fs p ∷ fs) (set (entries ++ child ∷ []) p parent)
  AreEntriesOf-fork = record {
    gapless = gapless_on;
    size = omega (arith, length_after, h.size);
    few = omega (arith, length_after);
    nodes = λ n d k. read_after entries p child parent (λ (x : Entry). x.node ≡ node_of (next_fork fs p ∷ fs) n) n d
        l (omega (arith, length_after))
        (λ same. above ∙ ap (node_of fs) (sym same) ∙ sym (older_node n (omega arith)))
        (λ other below. h.nodes n d below ∙ sym (older_node n below))
        (λ last. let end : n ≡ task_count fs = omega (arith, h.size) in node
        ∙ sym (ap (node_of (next_fork fs p ∷ fs)) end ∙ node_of-child (next_fork fs p) fs));
    kids = λ n d k. read_after entries p child parent (λ (x : Entry). x.kids ≡ kid_count (next_fork fs p ∷ fs) n) n d
        l (omega (arith, length_after))
        (λ same. let counted = kids_of n in let here : kid_count fs p ≡ kid_count fs n = ap (kid_count fs) (sym same)
        in grind (arith, nat_tests, counted, here, same))
        (λ other below. let counted = kids_of n in let old = h.kids n d below in
        grind (arith, nat_tests, counted, old, other))
        (λ last. let counted = kids_of n in let new = no_kids_yet fs h.gapless n (omega (arith, h.size)) in
        grind (arith, nat_tests, counted, new, last));
  }

pub entry_inside : (fs : Forks) (entries : List Entry) (n : ℕ) → MayLook fs entries n → n < length entries
entry_inside fs entries n may = omega (arith, may.entries_of.size, below-HasTask fs may.entries_of.gapless n may.there)

jump_there : (fs : Forks) → IsHistory fs → (n : ℕ) → HasTask fs n → HasTask fs (node_of fs n).jump.0
jump_there fs h n there = let is = IsJump-of fs h n there in is.jump_there

-- what an entry answers for a task, and what may be looked at then
pub entry_node : (fs : Forks) (entries : List Entry) (n : ℕ) (d : Entry) → MayLook fs entries n
    → node_of fs n ≡ (get_or entries n d).node
entry_node fs entries n d may = sym (may.entries_of.nodes n d (entry_inside fs entries n may))

-- an entry leads to what its node leads to, as the parent and the jump
MayLook-to : (fs : Forks) (entries : List Entry) (n : ℕ) (d : Entry) (to : Node → NodeId) → MayLook fs entries n
    → HasTask fs (to (node_of fs n)).0 → MayLook fs entries (to (get_or entries n d).node).0
MayLook-to fs entries n d to may there = record {
  entries_of = may.entries_of;
  there = subst (λ (node : Node). HasTask fs (to node).0) (entry_node fs entries n d may) there;
}

pub MayLook-parent : (fs : Forks) (entries : List Entry) (n : ℕ) (d : Entry) → MayLook fs entries n
    → MayLook fs entries (get_or entries n d).node.parent.0
MayLook-parent fs entries n d may = MayLook-to fs entries n d (λ node. node.parent) may
    (parent_there fs (IsHistory-gapless fs may.entries_of.gapless) n may.there)

pub MayLook-jump : (fs : Forks) (entries : List Entry) (n : ℕ) (d : Entry) → MayLook fs entries n
    → MayLook fs entries (get_or entries n d).node.jump.0
MayLook-jump fs entries n d may = MayLook-to fs entries n d (λ node. node.jump) may
    (jump_there fs (IsHistory-gapless fs may.entries_of.gapless) n may.there)
