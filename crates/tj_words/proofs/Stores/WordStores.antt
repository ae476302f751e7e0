-- The store of a word of the tree of a cell in hand: what it asks is the right word, and the rule is kept.
use Rattle.tj_words.proofs.Prelude.{All, Allows, Bool, Chains, Contents, Custody, Hand, HasTask, IsCell, IsDue, IsIn}
use Rattle.tj_words.proofs.Prelude.{IsOfTree, IsThere, Key, Law, Meaning, NodeId, Once, Option, Program, Rec}
use Rattle.tj_words.proofs.Prelude.{RecordsFit, Reference, Rule, SeatMe, SeatsHave, SeenWord, ShowsNode, Some, Stands}
use Rattle.tj_words.proofs.Prelude.{State, View, [], ap, arith, at_map, contents_of, depth_word, drawn_in, get_elem?}
use Rattle.tj_words.proofs.Prelude.{hand_of, held_in, held_of, home_of, inl, inr, jump_word, made_by, made_of, making}
use Rattle.tj_words.proofs.Prelude.{none, once_at, parent_word, refl, seats_have, seen_word, set, some, some-injective}
use Rattle.tj_words.proofs.Prelude.{sort_shown, step, subst, suc, sym, tree_word, zero, ℕ, ◌<◌, ◌^◌, ◌∙◌, ◌∷◌, ◌≡◌, ◌≢◌}
use Rattle.tj_words.proofs.Lemmas.{MayStand, Stores, back, hand_finds, hand_found, held_here, knows_so, law_kept}
use Rattle.tj_words.proofs.Lemmas.{made_few, makes_one, none_some, once_stored, one_some, put_word, put_word_word}
use Rattle.tj_words.proofs.Lemmas.{seats_same, step_allowed, tree_words_stored}
use Rattle.tj_tree.specs.Nodes.{node_of, jump_from, InEachTree}
use Rattle.tj_tree.proofs.Trees.{IsChild-of}
use Rattle.tj_words.specs.Calls.DrawViews.{without_due, IsRightWord, MayWrite, wrote_word, word_store}
use Rattle.tj_words.proofs.SeatLoads.KnowLoads.{root_there, born_at, sees_tree}
use Rattle.tj_words.proofs.Cells.MadeThings.{child_jump}
use Rattle.tj_words.proofs.Stores.WrittenOnce.{once_stores, seat_written}
use Rattle.tj_base.specs.declared.cell.Sort.TheVariants as sort
use Rattle.tj_words.specs.declared.offsets.Once.TheVariants as once

module _ {B : Type 0} {program : Program B} {cells : ℕ} {x : Contents B} (r : Law program cells x) where
  -- what a seat has in hand is in that hand
  pub hand_here : (id : ℕ) (h : Hand) → get_elem? x.seats.hands id ≡ some (Some h) → hand_of x h.cell ≡ Some h
  hand_here id h e =
      let g = hand_finds x.seats.hands id h e in
      let f = hand_found x.seats.hands h.cell g.0 g.1 in
      let j : f.0.0 ≡ id = r.hands.apart f.0.0 id g.0 h f.0.1 e f.1 in
      let q : g.0 ≡ h = one_some g.0 h (some-injective (Some g.0) (Some h)
      (sym f.0.1 ∙ (ap (get_elem? x.seats.hands) j ∙ e))) in
      g.1 ∙ ap (λ (z : Hand). Some z) q

  -- the root is in no hand
  pub hand_not_root : (h : Hand) → hand_of x h.cell ≡ Some h → h.cell ≢ 0
  hand_not_root h e z = none_some (hand_of x 0) h (root_there program cells x r).1 (ap (hand_of x) (sym z) ∙ e)

  module _ (id : ℕ) (h : Hand) (has : get_elem? x.seats.hands id ≡ some (Some h)) where
    here : hand_of x h.cell ≡ Some h
    here = hand_here id h has

    pub not_root : h.cell ≢ 0
    not_root = hand_not_root h here

    drawn : h.cell < drawn_in cells x
    drawn = (r.hands.each id h has).drawn_cell

    its_maker : r.maker h.cell ≡ h.maker
    its_maker = (r.births.in_hand h.cell h here).0

    pub maker_there : IsThere (drawn_in cells x) (hand_of x) h.maker
    maker_there = subst (IsThere (drawn_in cells x) (hand_of x)) its_maker (r.births.makers_there h.cell drawn)

    sort_here : (y : Reference) → IsCell r.born h.cell y → y.sort ≡ h.sort
    sort_here y e = r.births.sorts h.cell y e ∙ ap (λ o. sort_shown o (x.words.phase h.cell)) here

    module _ (v : View B) (tasks : get_elem? x.seats.tasks id ≡ some v.tasks)
        (stands : All (Stands (drawn_in cells x) x.words.once r.once_words.due_to) v.seen) where
      -- the number of the cell is the number of things that its maker has made, and one
      number_here : (k : Custody B) → held_in v.tasks h.maker ≡ Some k → r.number h.cell ≡ suc k.made
      number_here k e =
          let a : r.number h.cell ≡ made_of x h.maker = (r.births.in_hand h.cell h here).1 in
          let b : made_by (held_of x h.maker) (home_of x h.maker) ≡ k.made =
          ap (λ (o : Option (Custody B)). made_by o (home_of x h.maker))
          (held_here r id h.maker k (v.tasks, tasks, e)) in
          let d : making x.seats.hands h.maker ≡ 1 = makes_one x.seats.hands id h has in omega arith

      -- what holds in each tree that fits what was seen holds in the tree of forks
      in_tree : (F : Rattle.tj_tree.specs.Forks.Forks → Type 0) → InEachTree (ShowsNode v.seen) F → F r.forks
      in_tree F each = each r.forks r.tree.history (sees_tree program cells x r v.seen [] stands (r.born, refl)).nodes

      task_there : (y : Reference) → IsCell r.born h.cell y → h.sort ≡ sort.Task → HasTask r.forks h.cell
      task_there y e is = (r.tree.tasks h.cell).1 (y, e, sort_here y e ∙ is)

      parent_is : (y : Reference) → IsCell r.born h.cell y → h.sort ≡ sort.Task
          → (node_of r.forks h.cell).parent ≡ record { 0 = h.maker }
      parent_is y e is j =
          record { 0 = (r.tree.parents h.cell (task_there y e is) ∙ its_maker) j }

      right_word : (f : Once) (n : ℕ) → IsRightWord f n h v → (y : Reference) → IsCell r.born h.cell y
          → n ≡ tree_word r.maker r.number r.forks y.sort h.cell f
      right_word once.Tag n w y e = absurd w
      right_word once.Bits n w y e = absurd w
      right_word once.Parent n w y e = by h.cell not_root its_maker
        where
          by : (c : ℕ) → c ≢ 0 → r.maker c ≡ h.maker → n ≡ parent_word c (r.maker c)
          by zero z q = absurd (z refl)
          by (suc c) z q = w ∙ ap suc (sym q)
      right_word once.Kid n w y e = w.2 ∙ sym (number_here w.0 w.1)
      right_word once.Depth n w y e =
          let task = task_there y e w.0 in
          let d = (IsChild-of r.forks r.tree.history h.cell task not_root).deeper in
          let p : (node_of r.forks (node_of r.forks h.cell).parent.0).depth ≡ (node_of r.forks h.maker).depth =
          ap (λ (i : NodeId). (node_of r.forks i.0).depth) (parent_is y e w.0) in
          let m : n ≡ suc (node_of r.forks h.maker).depth =
          in_tree (λ forks. n ≡ suc (node_of forks h.maker).depth) w.1 in
          let q : n ≡ (node_of r.forks h.cell).depth = omega arith in
          q ∙ ap (λ o. depth_word o (node_of r.forks h.cell)) (sym (sort_here y e ∙ w.0))
      right_word once.Jump n w y e =
          let task = task_there y e w.0 in
          let m : n ≡ suc (jump_from (node_of r.forks) (record { 0 = h.maker })).0 =
          in_tree (λ forks. n ≡ suc (jump_from (node_of forks) (record { 0 = h.maker })).0) w.1 in
          let q : (node_of r.forks h.cell).jump ≡ jump_from (node_of r.forks) (record { 0 = h.maker }) =
          child_jump r.forks r.tree.history h.cell task not_root
          ∙ ap (jump_from (node_of r.forks)) (parent_is y e w.0) in
          m ∙ (ap (λ (i : NodeId). suc i.0) (sym q)
          ∙ ap (λ o. jump_word o (node_of r.forks h.cell)) (sym (sort_here y e ∙ w.0)))

      -- and it may stand there
      may_stand : cells < 2 ^ 32 → (f : Once) (n : ℕ) → IsRightWord f n h v
          → (y : Reference) → IsCell r.born h.cell y → MayStand cells f n
      may_stand few once.Parent n w y e = let l = maker_there.0 in let q : n ≡ suc h.maker = w in omega arith
      may_stand few once.Kid n w y e =
          let a : n ≡ suc w.0.made = w.2 in
          let b = number_here w.0 w.1 in
          let d : r.number h.cell ≡ made_of x h.maker = (r.births.in_hand h.cell h here).1 in
          let l = made_few r h.maker in omega arith
      may_stand few once.Depth n w y e =
          let q : n ≡ (node_of r.forks h.cell).depth = right_word once.Depth n w y e
          ∙ ap (λ o. depth_word o (node_of r.forks h.cell)) (sort_here y e ∙ w.0) in
          let d = r.tree.depths h.cell (task_there y e w.0) in let l = drawn in omega arith
      may_stand few once.Jump n w y e =
          let q : n ≡ suc (node_of r.forks h.cell).jump.0 = right_word once.Jump n w y e
          ∙ ap (λ o. jump_word o (node_of r.forks h.cell)) (sort_here y e ∙ w.0) in
          let d = (r.tree.jumps_there h.cell (task_there y e w.0)).0 in omega arith
      may_stand few other n w y e = absurd w

      -- the law after the store
      law_written : (c : ℕ) (f : Once) (n : ℕ) → h.cell ≡ c → get_elem? x.seats.seen id ≡ some v.seen
          → get_elem? x.seats.dues id ≡ some v.dues → IsDue c f v.dues → IsRightWord f n h v
          → Law program cells record {
            words = record x.words { once = put_word x.words.once c f n };
            slots = x.slots;
            seats = record x.seats {
              seen = set x.seats.seen id (seen_word c f n ∷ v.seen);
              dues = set x.seats.dues id (without_due c f v.dues);
            };
          }
      law_written c f n is seen dues due w = law_kept r (record x.words { once = put_word x.words.once c f n })
          (record x.seats {
            seen = set x.seats.seen id (seen_word c f n ∷ v.seen);
            dues = set x.seats.dues id (without_due c f v.dues);
          })
          r.lots r.names
          (tree_words_stored r.tree_words id c f n v.dues dues
          (λ o e. none_some (hand_of x c) h e (ap (hand_of x) (sym is) ∙ here))
          (λ y e o. right_word f n w y (subst (λ d. IsCell r.born d y) (sym is) e)
          ∙ ap (λ d. tree_word r.maker r.number r.forks y.sort d f) is))
          (once_stored r.once_words id c f n v.dues dues due v.seen (seen_word c f n ∷ []) seen
          (λ y i. (tree f w, only y i)) (λ e. absurd (subst (λ z. IsRightWord z n h v) e w)))
          (subst (λ tags. Chains tags x.words.head x.words.next x.words.phase x.seats.pushes x.seats.shuts
          x.seats.rests x.seats.closed x.seats.found) (sym (same once.Tag (λ i. i))) r.chains)
          r.live_count r.stops
          (subst (λ tags. RecordsFit tags x.words.phase (home_of x)) (sym (same once.Tag (λ i. i)))
          r.records_fit)
          (back (λ j. Meaning program cells x.words.count x.words.stop (drawn_in cells x) (hand_of x) r.born
          (same once.Tag (λ i. i) j) (same once.Bits (λ i. i) j) (home_of x) x.seats.born_seen x.seats.wrote
          x.seats.filled) r.meaning) r.facts
        where
          tree : (f : Once) → IsRightWord f n h v → IsOfTree f
          tree once.Tag q = absurd q
          tree once.Bits q = absurd q
          tree f q = tt

          same : (g : Once) → ¬ IsRightWord g n h v
              → ◌≡◌ {A = ℕ → ℕ} (λ d. put_word x.words.once c f n d g) (λ d. x.words.once d g)
          same g not = λ j d. put_word_word x.words.once c f n d g
              (λ e. not (subst (λ z. IsRightWord z n h v) (sym e) w)) j

          only : (y : SeenWord) → IsIn y (seen_word c f n ∷ []) → y ≡ record { cell = c; word = f; value = n }
          only y (inl e) = e
          only y (inr i) = absurd i

module _ {B : Type 0} (program : Bool → B → Program B) (key : Key B) where
  abbrev P : Program B
  P = program key.strict key.root.value

  -- the store is one of the rule
  pub word_stores : (s : State (Option (Rec B)) (View B)) (r : Rule program key s) (id c : ℕ) (f : Once) (n : ℕ)
      (v : View B)
      → get_elem? s.views id ≡ some v
      → c < key.cells
      → MayWrite c f n v
      → Stores program key s id (once_at c f) n (wrote_word c f n v)
  word_stores s r id c f n v at l m = let y = seats_have s.views in let w = wrote_word c f n v in
      let law = r.law in let h = m.hand in
      let has : get_elem? y.hands id ≡ some (Some h) =
      at_map (λ (u : View B). u.hand) s.views id v at ∙ ap (λ (o : Option Hand). some o) m.has in
      let tasks = at_map (λ (u : View B). u.tasks) s.views id v at in
      let stands = (knows_so program key s r id v at).seen in
      let q = r.seats id v at in
      let born = born_at P key.cells (contents_of s) law h.cell (law.hands.each id h has).drawn_cell in
      once_stores program key s r id c n f l w (record y { seen = set y.seen id w.seen; dues = set y.dues id w.dues })
      (may_stand law id h has v tasks stands (let a = r.few_cells in omega arith) f n m.right born.0 born.1)
      (seat_written key v c f v.shuts q q.backing.wakes) (r.pushed id v at)
      (ap (λ (z : SeatsHave B). record z { seen = set y.seen id w.seen; dues = set y.dues id w.dues })
      (seats_same s.views id v at))
      (law_written law id h has v tasks stands c f n m.its_cell (at_map (λ (u : View B). u.seen) s.views id v at)
      (at_map (λ (u : View B). u.dues) s.views id v at) m.due m.right)

  pub word_allowed : (slots id : ℕ) (m : SeatMe B) (c i n cell : ℕ) (f kind : Once) → c < key.cells → i ≡ once_at c f
      → cell ≡ c → kind ≡ f → MayWrite c f n m.0
      → Allows (Rule program key) slots id m i (λ k. n) (λ k. word_store cell kind (step slots i n 0 none) m n)
  word_allowed slots id m c i n cell f kind l at e g may = step_allowed program key slots id m i (λ k. n)
      (λ k. word_store cell kind (step slots i n 0 none) m n) (λ s r k. (
        wrote_word c f n m.0,
        subst (λ j. Stores program key s id j n (wrote_word c f n m.0)) (sym at) (word_stores s r id c f n m.0 k l may),
        (refl, λ j. wrote_word (sym e j) (sym g j) n m.0),
      ))
