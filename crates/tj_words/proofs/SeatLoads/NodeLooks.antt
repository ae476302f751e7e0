-- A look at a node of the tree of forks: four loads of words that are written once.
use Rattle.tj_words.proofs.Prelude.{AreCells, Begins, FindsWord, HasReadTree, IsIn, IsLater, IsTaskIn, List}
use Rattle.tj_words.proofs.Prelude.{MayReadTree, Node, Once, Option, Rec, Reference, SeatShown, SeenWord, ShowsNode}
use Rattle.tj_words.proofs.Prelude.{View}
use Rattle.tj_words.proofs.Prelude.{[], ap, arith, begins_self, in_right, inl, inr, length, refl, seen_word, subst, suc}
use Rattle.tj_words.proofs.Prelude.{sym, zero, ℕ, ◌-◌, ◌<◌, ◌∙◌, ◌∷◌, ◌≡◌, ◌≤◌, ◌⊎◌}
use Rattle.tj_words.proofs.Lemmas.{inside}
use Rattle.tj_tree.specs.Nodes.{ArePartOfTree}
use Rattle.tj_tree.specs.Walk.{GoesOn}
use Rattle.tj_words.specs.declared.table.Laid.{Laid}
use Rattle.tj_words.specs.SeatViews.SeatSteps.{IsSameSeat, IsSeatOf}
use Rattle.tj_words.proofs.Seating.Merging.{begins_at}
use Rattle.tj_words.proofs.SeatLoads.LaterSeats.{later_on}
use Rattle.tj_words.specs.SeatViews.TreeReads.{MayLook, TreeShown}
use Rattle.tj_words.specs.CallLaws.StepCalls as call
use Rattle.tj_words.specs.CallLaws.StepLogs.{IsLogged, IsLookLogged, entry_of}
use Rattle.tj_words.proofs.SeatLoads.LoggedSteps.{logged_so}
use Rattle.tj_words.specs.declared.offsets.Once.TheVariants as once

module _ {B : Type 0} {cells : ℕ} {f : Once} {c n : ℕ} {v w : View B} (h : FindsWord cells f c n v w) where
  -- after one load the view knows more of the tree
  word_read : HasReadTree cells v w
  word_read = record {
    begins = subst (Begins v.born) (sym (ap (λ (u : View B). u.born) h.view)) h.begins;
    all = λ a. subst (λ (u : View B). AreCells cells u.born) (sym h.view) h.all;
    more = seen_word c f n ∷ [];
    seen = ap (λ (u : View B). u.seen) h.view;
    loads = let a = ap (λ (u : View B). u.steps) h.view in let b = ap (λ (u : View B). u.once_loads) h.view in
        omega arith;
    rest = subst (λ (u : View B).
        u ≡ record v { born = u.born; seen = u.seen; once_loads = u.once_loads; steps = u.steps }) (sym h.view) refl;
  }

  -- the word is among those seen
  word_seen : IsIn (seen_word c f n) w.seen
  word_seen = subst (IsIn (seen_word c f n)) (sym (ap (λ (u : View B). u.seen) h.view)) (inl refl)

module _ {B : Type 0} where
  -- what was seen stays so
  seen_later : {cells : ℕ} {v w : View B} → HasReadTree cells v w → (s : SeenWord) → IsIn s v.seen → IsIn s w.seen
  seen_later {v = v} h s i = subst (IsIn s) (sym h.seen) (in_right s h.more v.seen i)

  pub shown_later : {cells : ℕ} (v w : View B) → HasReadTree cells v w → (n : ℕ) (node : Node)
      → ShowsNode v.seen n node → ShowsNode w.seen n node
  shown_later v w h n node s = record {
    parent = s.parent;
    parent_seen = seen_later h _ s.parent_seen;
    parent_is = s.parent_is;
    kid = seen_later h _ s.kid;
    depth = seen_later h _ s.depth;
    jump = seen_later h _ s.jump;
  }

  pub task_later : {cells : ℕ} (v w : View B) → HasReadTree cells v w → (c : ℕ) → IsTaskIn v.born c
      → IsTaskIn w.born c
  task_later v w h c t = (t.0, begins_at v.born w.born h.begins c t.0 t.1, t.2)

  may_later : {cells : ℕ} (v w : View B) → HasReadTree cells v w → (c : ℕ) → MayReadTree c v
      → MayReadTree c w
  may_later v w h c (inl e) = inl e
  may_later v w h c (inr (inl i)) = inr (inl (subst (IsIn c) (sym (ap (λ (u : View B). u.known) h.rest)) i))
  may_later v w h c (inr (inr n)) = inr (inr (n.0, seen_later h n.0 n.1, n.2))

  look_later : {cells : ℕ} (laid : Laid B) (s t : SeatShown (Option (Rec B)) (View B)) → IsLater cells s t → (c : ℕ)
      → MayLook laid s c → MayLook laid t c
  look_later laid s t h c m = record {
    table = h.0.0 ∙ m.table;
    cell = m.cell;
    may = may_later s.me.0 t.me.0 h.1 c m.may;
    task = task_later s.me.0 t.me.0 h.1 c m.task;
  }

  -- the nodes that were seen are part of a tree
  pub tree_of : (s : SeatShown (Option (Rec B)) (View B)) (n : ℕ) (node : Node) → TreeShown s n node → ArePartOfTree
      (TreeShown s)
  tree_of s n node h = (h.0.forks, (h.0.history, λ m o k. h.0.nodes m o k.1))

  -- a cell that a PARENT or a JUMP of a task leads to may be looked at
  led : (laid : Laid B) (s : SeatShown (Option (Rec B)) (View B)) (w : SeenWord) (born : List Reference) (p : ℕ)
      → IsSeatOf laid s → IsIn w s.me.0.seen → (w.word ≡ once.Parent) ⊎ (w.word ≡ once.Jump) → p ≡ w.value - 1
      → IsTaskIn born (w.value - 1) → Begins born s.me.0.born → length born ≤ laid.cells → MayLook laid s p
  led laid s w born p table i link e t b few = record {
    table = table;
    cell = let l = inside born (w.value - 1) t.0 t.1 in omega arith;
    may = by w.value refl;
    task = subst (IsTaskIn s.me.0.born) (sym e) (t.0, begins_at born s.me.0.born b (w.value - 1) t.0 t.1, t.2);
  }
    where
      by : (n : ℕ) → w.value ≡ n → MayReadTree p s.me.0
      by zero z = inl (omega (arith, e, z))
      by (suc n) z = inr (inr (w, i, (link, omega (arith, e, z))))

-- the four loads of a look
module _ {B : Type 0} {laid : Laid B} {c parent kid depth jump : ℕ}
    (s0 s1 s2 s3 s4 : SeatShown (Option (Rec B)) (View B))
    (may : MayLook laid s0 c)
    (q1 : IsSameSeat s0 s1) (q2 : IsSameSeat s1 s2) (q3 : IsSameSeat s2 s3) (q4 : IsSameSeat s3 s4)
    (f1 : FindsWord laid.cells once.Parent c parent s0.me.0 s1.me.0)
    (f2 : FindsWord laid.cells once.Kid c kid s1.me.0 s2.me.0)
    (f3 : FindsWord laid.cells once.Depth c depth s2.me.0 s3.me.0)
    (f4 : FindsWord laid.cells once.Jump c jump s3.me.0 s4.me.0) where
  l1 : IsLater laid.cells s0 s1
  l1 = (q1, word_read f1)

  l3 : IsLater laid.cells s2 s3
  l3 = (q3, word_read f3)

  l4 : IsLater laid.cells s3 s4
  l4 = (q4, word_read f4)

  l34 : IsLater laid.cells s2 s4
  l34 = later_on s2 s3 s4 l3 l4

  l24 : IsLater laid.cells s1 s4
  l24 = later_on s1 s2 s4 (q2, word_read f2) l34

  pub four_later : IsLater laid.cells s0 s4
  four_later = later_on s0 s1 s4 l1 l24

  task_at_3 : IsTaskIn s3.me.0.born c
  task_at_3 = task_later s0.me.0 s3.me.0 (later_on s0 s1 s3 l1 (later_on s1 s2 s3 (q2, word_read f2) l3)).1 c may.task

  pub jump_some : 0 < jump
  jump_some = (f4.leads task_at_3).0

  jump_back : suc (jump - 1) ≡ jump
  jump_back = let j = jump_some in omega arith

  parent_in : IsIn (seen_word c once.Parent parent) s4.me.0.seen
  parent_in = seen_later l24.1 _ (word_seen f1)

  pub four_shown : (node : Node) → node.parent.0 ≡ parent - 1 → node.kid ≡ kid → node.depth ≡ depth
      → node.jump.0 ≡ jump - 1 → TreeShown s4 c node
  four_shown node p k d j = (
    f4.tree,
    record {
      parent = parent;
      parent_seen = parent_in;
      parent_is = p;
      kid = subst (λ n. IsIn (seen_word c once.Kid n) s4.me.0.seen) (sym k) (seen_later l34.1 _ (word_seen f2));
      depth = subst (λ n. IsIn (seen_word c once.Depth n) s4.me.0.seen) (sym d) (seen_later l4.1 _ (word_seen f3));
      jump = subst (λ n. IsIn (seen_word c once.Jump n) s4.me.0.seen) (sym (ap suc j ∙ jump_back)) (word_seen f4);
    },
  )

  pub four_logged : (node : Node) → node.parent.0 ≡ parent - 1 → node.kid ≡ kid → node.depth ≡ depth
      → node.jump.0 ≡ jump - 1 → IsLogged (call.sees_once c once.Parent) 0 0 parent s0 s1
      → IsLogged (call.sees_once c once.Kid) 0 0 kid s1 s2 → IsLogged (call.sees_once c once.Depth) 0 0 depth s2 s3
      → IsLogged (call.sees_once c once.Jump) 0 0 jump s3 s4 → IsLookLogged c node s0 s4
  four_logged node p k d j g1 g2 g3 g4 = (
    parent,
    p,
    logged_so refl refl refl (sym (ap suc j ∙ jump_back)) g4.0
        ∙ ap (λ l. entry_of (call.sees_once c once.Jump) 0 0 (suc node.jump.0) ∷ l)
        (logged_so refl refl refl (sym d) g3.0 ∙ ap (λ l. entry_of (call.sees_once c once.Depth) 0 0 node.depth ∷ l)
        (logged_so refl refl refl (sym k) g2.0 ∙ ap (λ l. entry_of (call.sees_once c once.Kid) 0 0 node.kid ∷ l) g1.0)),
    g4.1 ∙ (g3.1 ∙ (g2.1 ∙ g1.1)),
  )

  pub four_parent : (p : ℕ) → p ≡ parent - 1 → MayLook laid s4 p
  four_parent p e = led laid s4 (seen_word c once.Parent parent) f1.born p (four_later.0.0 ∙ may.table) parent_in
      (inl refl) e (f1.leads may.task)
      (subst (λ b. Begins b s4.me.0.born) (ap (λ (u : View B). u.born) f1.view) l24.1.begins) f1.all.few

  pub four_jump : (p : ℕ) → p ≡ jump - 1 → MayLook laid s4 p
  four_jump p e = led laid s4 (seen_word c once.Jump jump) f4.born p (four_later.0.0 ∙ may.table) (word_seen f4)
      (inr refl) e (f4.leads task_at_3).1
      (subst (λ b. Begins b s4.me.0.born) (ap (λ (u : View B). u.born) f4.view) (begins_self s4.me.0.born)) f4.all.few

  pub four_go_on : GoesOn (TreeShown s0) (MayLook laid s0) (TreeShown s4) (MayLook laid s4)
  four_go_on = record {
    kept = λ n node h. (f4.tree, shown_later s0.me.0 s4.me.0 four_later.1 n node h.1);
    still_may = λ n h. look_later laid s0 s4 four_later n h;
    tree = λ _. (f4.tree.forks, (f4.tree.history, λ n node h. f4.tree.nodes n node h.1));
  }
