-- A draw keeps what is said of births and of the tree of forks.
use Rattle.tj_words.proofs.Prelude.{Births, Bool, Due, Fork, Forks, Hand, HasTask, IsCell, IsDue, IsForkTree, IsHistory}
use Rattle.tj_words.proofs.Prelude.{IsJump-of, IsOfTree, IsThere, List, Node, NodeId, None, OfSeat, Once, Option, Phase}
use Rattle.tj_words.proofs.Prelude.{Reference, Some, Sort, TreeWords, [], ap, arith, at_longer, at_put, child}
use Rattle.tj_words.proofs.Prelude.{depth_word, dite, false, forks_after, if◌then◌else◌, inl, inr, jump_from, jump_word}
use Rattle.tj_words.proofs.Prelude.{length, length-append, ne_eqb, next_reference, node_of, parent_word, put, put_else}
use Rattle.tj_words.proofs.Prelude.{put_here, reference_of, refl, sort_shown, subst, suc, sym, to_task, tree_word, true}
use Rattle.tj_words.proofs.Prelude.{ℕ, ℕ_discrete, ⊎_elim, ◌++◌, ◌-◌, ◌<◌, ◌==◌, ◌∙◌, ◌∷◌, ◌≡◌, ◌≢◌, ◌≤◌, ◌⊎◌}
use Rattle.tj_words.proofs.Lemmas.{at_index, at_two, back, index_is, inside, last_at, one_some}
use Rattle.tj_tree.specs.Forks.{HasKid, IsNext, name_of}
use Rattle.tj_tree.specs.Nodes.{child_node}
use Rattle.tj_tree.proofs.Trees.{node_of-older, node_of-child, name_of-older, name_of-child, root_there}
use Rattle.tj_words.specs.Inner.TreeDraws.{IsDrawnInto, MayDraw}
use Rattle.tj_words.proofs.Cells.CellNames.{last_or}
use Rattle.tj_base.specs.declared.cell.Sort.TheVariants as sort
use Rattle.tj_words.specs.declared.offsets.Once.TheVariants as once

-- a kid number is that of a task
kid_task : (forks : Forks) → IsHistory forks → (p k : ℕ) → HasKid forks p k
    → (c : ℕ) × HasTask forks c × (0 < c) × ((node_of forks c).parent.0 ≡ p) × ((node_of forks c).kid ≡ k)
kid_task [] h p k i = absurd i
kid_task (fork ∷ forks) h p k (inl e) = let n = node_of-child fork forks in (
  fork.child,
  inl refl,
  h.0.newest 0 (root_there forks),
  ap (λ (z : Node). z.parent.0) n ∙ e.0,
  ap (λ (z : Node). z.kid) n ∙ e.1,
)
kid_task (fork ∷ forks) h p k (inr i) = let r = kid_task forks h.1 p k i in
    let n = node_of-older fork forks r.0 h.0 r.1 in
    (r.0, inr r.1, r.2, ap (λ (z : Node). z.parent.0) n ∙ r.3, ap (λ (z : Node). z.kid) n ∙ r.4)

module _ {n : ℕ} {born : List Reference} {maker number made : ℕ → ℕ} {hand : ℕ → Option Hand} {h : Hand}
    (may : MayDraw n born maker number made hand h) {made' : ℕ → ℕ} {hand' : ℕ → Option Hand}
    (d : IsDrawnInto n born maker number made hand h made' hand') where
  abbrev t : ℕ
  t = h.maker

  abbrev k : ℕ
  k = suc (made t)

  abbrev new : Reference
  new = next_reference born t (made t) h.sort

  abbrev born' : List Reference
  born' = born ++ new ∷ []

  abbrev maker' : ℕ → ℕ
  maker' = put maker n t

  abbrev number' : ℕ → ℕ
  number' = put number n k

  -- a cell that is there is there after the draw, and the other way round
  pub there_on : (c : ℕ) → IsThere n hand c → IsThere (suc n) hand' c
  there_on c i = let l = i.0 in ((omega arith), d.else c (λ e. omega arith) ∙ i.1)

  pub there_back : (c : ℕ) → IsThere (suc n) hand' c → IsThere n hand c
  there_back c i = dite (ℕ_discrete c n)
      (λ e. let q : None ≡ Some h = sym i.1 ∙ (ap hand' e ∙ d.here) in absurd (cc))
      (λ q. let l = i.0 in ((omega arith), sym (d.else c q) ∙ i.1))

  module _ (phase : ℕ → Phase) (b : Births n born maker number made hand phase) where
    cell_inside : (c : ℕ) (x : Reference) → IsCell born c x → c < n
    cell_inside c x e = subst (λ m. c < m) b.all (inside born c x e)

    -- what is so of each old cell, and of the new one, is so of each cell after the draw
    each_cell : (F : ℕ → Reference → Type 0) → ((c : ℕ) (x : Reference) → IsCell born c x → F c x) → F n new
        → (c : ℕ) (x : Reference) → IsCell born' c x → F c x
    each_cell F old here c x e = ⊎_elim (old c x)
        (λ (q : (c ≡ length born) × (new ≡ x)). back (λ j. F ((q.0 ∙ b.all) j) (sym q.1 j)) here)
        (last_or born new c x e)

    pub new_cell_is : IsCell born' n new
    new_cell_is = subst (λ m. IsCell born' m new) b.all (last_at born new)

    pub old_cell : (c : ℕ) (x : Reference) → IsCell born c x → IsCell born' c x
    old_cell c x e = at_longer born (new ∷ []) c x e

    -- the maker's reference
    maker_cell : IsCell born t (reference_of born t)
    maker_cell = at_index born t (to_task []) (subst (λ m. t < m) (sym b.all) may.maker_there.0)

    not_new : (c : ℕ) (x : Reference) → IsCell born c x → c ≢ n
    not_new c x e q = let l = cell_inside c x e in omega arith

    root_old : 0 ≢ n
    root_old e = let l = may.maker_there.0 in omega arith

    -- births are kept
    pub births_drawn : Births (suc n) born' maker' number' made' hand' phase
    births_drawn = record {
      all = long;
      root = old_cell 0 (to_task []) b.root;
      root_maker = put_else maker n t 0 root_old ∙ b.root_maker;
      root_number = put_else number n k 0 root_old ∙ b.root_number;
      named = each_cell (λ c x. c ≢ 0 → (y : Reference) × IsCell born' (maker' c) y
          × (x.name ≡ child y.name (number' c)))
          (λ c x q z. let y = b.named c x q z in (
            y.0,
            old_cell (maker' c) y.0 (subst (λ m. IsCell born m y.0) (sym (put_else maker n t c (not_new c x q))) y.1),
            y.2 ∙ ap (child y.0.name) (sym (put_else number n k c (not_new c x q))),
          ))
          (λ z. (
            reference_of born t,
            old_cell (maker' n) (reference_of born t)
                (subst (λ m. IsCell born m (reference_of born t)) (sym (put_here maker n t)) maker_cell),
            ap (child (reference_of born t).name) (sym (put_here number n k)),
          ));
      sorts = each_cell (λ c x. x.sort ≡ sort_shown (hand' c) (phase c))
          (λ c x q. b.sorts c x q ∙ ap (λ o. sort_shown o (phase c)) (sym (d.else c (not_new c x q))))
          (ap (λ o. sort_shown o (phase n)) (sym d.here));
      makers_there = λ c l. at_put maker n t (λ c m. IsThere (suc n) hand' m) c (there_on t may.maker_there)
          (λ z. there_on (maker c) (b.makers_there c (omega arith)));
      in_hand = λ c g e. at_two maker number n t k
          (λ c m j. hand' c ≡ Some g → (m ≡ g.maker) × (j ≡ made' g.maker)) c
          (λ e. let i : h ≡ g = one_some h g (sym d.here ∙ e) in
          (ap (λ (z : Hand). z.maker) i, sym d.made_one ∙ ap (λ (z : Hand). made' z.maker) i))
          (λ z e. let a : hand c ≡ Some g = sym (d.else c z) ∙ e in
          let w = b.in_hand c g a in let m = may.calm c g a in (w.0, w.1 ∙ sym (d.made_else g.maker m.0 m.1))) e;
      made_all = made_each;
    }
      where
        long : length born' ≡ suc n
        long = (let a = length-append born (new ∷ []) in let l = b.all in omega arith)

        old_one : (m j : ℕ) → 0 < j → j ≤ made m
            → (c : ℕ) × (c < suc n) × (maker' c ≡ m) × (number' c ≡ j)
        old_one m j z l =
            let o = b.made_all m j z l in
            let i = o.1 in (
              o.0,
              (omega arith),
              put_else maker n t o.0 (λ e. omega arith) ∙ o.2,
              put_else number n k o.0 (λ e. omega arith) ∙ o.3,
            )

        made_each : (m j : ℕ) → 0 < j → j ≤ made' m
            → (c : ℕ) × (c < suc n) × (maker' c ≡ m) × (number' c ≡ j)
        made_each m j z l = dite (ℕ_discrete m t)
            (λ e. dite (ℕ_discrete j k)
            (λ q. (n, (omega arith), put_here maker n t ∙ sym e, put_here number n k ∙ sym q))
            (λ u. let a : made' m ≡ suc (made m) = ap made' e ∙ (d.made_one ∙ ap (λ i. suc (made i)) (sym e)) in
            let v : k ≡ suc (made m) = ap (λ i. suc (made i)) (sym e) in old_one m j z (omega arith)))
            (λ w. dite (ℕ_discrete m n)
            (λ e. let a : made' m ≡ 0 = ap made' e ∙ d.made_none in absurd (omega arith))
            (λ u. let a = d.made_else m w u in old_one m j z (omega arith)))

    module _ {forks : Forks} (tree : IsForkTree n born maker number forks hand) where
      abbrev fork : Fork
      fork = record { parent = t; child = n; kid = k }

      -- the cell of a task of the tree
      its_cell : (c : ℕ) → HasTask forks c → (x : Reference) × IsCell born c x × (x.sort ≡ sort.Task)
      its_cell c i = (tree.tasks c).0 i

      task_old : (c : ℕ) → HasTask forks c → c ≢ n
      task_old c i = let x = its_cell c i in not_new c x.0 x.1

      -- the fork that makes the new task comes next
      next_fork : IsNext fork forks
      next_fork = record {
        parent_there = (tree.tasks t).1 (may.task, may.is_task.0, may.is_task.1);
        newest = λ c i. let x = its_cell c i in cell_inside c x.0 x.1;
        last_kid = λ j i.
            let r = kid_task forks tree.history t j i in
            let x = its_cell r.0 r.1 in
            let z = r.2 in
            let l = may.numbered r.0 x.0 x.1 (λ e. omega arith) in
            let a : number r.0 ≡ j = sym (tree.kids r.0 r.1) ∙ r.4 in
            let b : made (maker r.0) ≡ made t = ap made (sym (tree.parents r.0 r.1) ∙ r.3) in omega
            arith;
      }

      -- a promise more leaves the tree as it is
      promise_drawn : h.sort ≡ sort.Promise → IsForkTree (suc n) born' maker' number' forks hand'
      promise_drawn is = record {
        history = tree.history;
        tasks = λ c. (
          λ i. let x = its_cell c i in (x.0, old_cell c x.0 x.1, x.2),
          λ w. each_cell (λ c x. x.sort ≡ sort.Task → HasTask forks c) (λ c x q s. (tree.tasks c).1 (x, q, s)) no_task
              c w.0 w.1 w.2,
        );
        names = each_cell (λ c x. x.sort ≡ sort.Task → name_of forks c ≡ x.name) tree.names no_task;
        parents = λ c i. tree.parents c i ∙ sym (put_else maker n t c (task_old c i));
        kids = λ c i. tree.kids c i ∙ sym (put_else number n k c (task_old c i));
        jumps_there = λ c i. there_on (node_of forks c).jump.0 (tree.jumps_there c i);
        depths = tree.depths;
      }
        where
          no_task : {Z : Type 0} → h.sort ≡ sort.Task → Z
          no_task s = let q : sort.Promise ≡ sort.Task = sym is ∙ s in absurd (cc)

      -- a task more is one fork more
      task_drawn : h.sort ≡ sort.Task → IsForkTree (suc n) born' maker' number' (fork ∷ forks) hand'
      task_drawn is = record {
        history = (next_fork, tree.history);
        tasks = λ c. (
          λ i. ⊎_elim
              (λ (q : c ≡ n). (new, subst (λ m. IsCell born' m new) (sym q) new_cell_is, is))
              (λ (q : HasTask forks c). let x = its_cell c q in (x.0, old_cell c x.0 x.1, x.2)) i,
          λ w. each_cell (λ c x. x.sort ≡ sort.Task → HasTask (fork ∷ forks) c)
              (λ c x q s. inr ((tree.tasks c).1 (x, q, s))) (λ _. inl refl) c w.0 w.1 w.2,
        );
        names = each_cell (λ c x. x.sort ≡ sort.Task → name_of (fork ∷ forks) c ≡ x.name)
            (λ c x q s. name_of-older fork forks c next_fork ((tree.tasks c).1 (x, q, s)) ∙ tree.names c x q s)
            (λ _. name_of-child fork forks ∙ ap (λ a. child a k) maker_name);
        parents = each (λ c node. node.parent.0 ≡ maker' c)
            (λ c i. tree.parents c i ∙ sym (put_else maker n t c (task_old c i))) (sym (put_here maker n t));
        kids = each (λ c node. node.kid ≡ number' c)
            (λ c i. tree.kids c i ∙ sym (put_else number n k c (task_old c i))) (sym (put_here number n k));
        jumps_there = each (λ c node. IsThere (suc n) hand' node.jump.0)
            (λ c i. there_on (node_of forks c).jump.0 (tree.jumps_there c i)) jumps;
        depths = each (λ c node. node.depth ≤ c) tree.depths
            (let a = tree.depths t maker_task in let l = may.maker_there.0 in omega arith);
      }
        where
          maker_task : HasTask forks t
          maker_task = next_fork.parent_there

          maker_name : name_of forks t ≡ (reference_of born t).name
          maker_name = tree.names t may.task may.is_task.0 may.is_task.1
              ∙ ap (λ (r : Reference). r.name) (sym (index_is born t _ may.task may.is_task.0))

          -- what holds of each old node, and of the new one, holds of each
          each : (F : ℕ → Node → Type 0) → ((c : ℕ) → HasTask forks c → F c (node_of forks c))
              → F n (child_node (node_of forks) fork)
              → (c : ℕ) → HasTask (fork ∷ forks) c → F c (node_of (fork ∷ forks) c)
          each F old here c i = ⊎_elim
              (λ (q : c ≡ n). subst (λ m. F m (node_of (fork ∷ forks) m)) (sym q)
              (subst (F n) (sym (node_of-child fork forks)) here))
              (λ (q : HasTask forks c). subst (F c) (sym (node_of-older fork forks c next_fork q)) (old c q)) i

          near : NodeId
          near = (node_of forks t).jump

          far : NodeId
          far = (node_of forks (node_of forks t).jump.0).jump

          jumps : IsThere (suc n) hand' (jump_from (node_of forks) (record { 0 = t })).0
          jumps = by ((node_of forks t).depth - (node_of forks near.0).depth
              == (node_of forks near.0).depth - (node_of forks far.0).depth)
            where
              near_task : HasTask forks (node_of forks t).jump.0
              near_task = (IsJump-of forks tree.history t maker_task).jump_there

              by : (b : Bool)
                  → IsThere (suc n) hand'
                  (if b then (node_of forks (node_of forks t).jump.0).jump else (record { 0 = t })).0
              by true = there_on (node_of forks (node_of forks t).jump.0).jump.0
                  (tree.jumps_there (node_of forks t).jump.0 near_task)
              by false = there_on t may.maker_there

      -- a draw of either sort keeps the tree of forks
      pub tree_drawn : IsForkTree (suc n) born' maker' number' (forks_after h.sort t n k forks) hand'
      tree_drawn = by h.sort refl
        where
          by : (o : Sort) → h.sort ≡ o → IsForkTree (suc n) born' maker' number' (forks_after o t n k forks) hand'
          by sort.Promise e = promise_drawn e
          by sort.Task e = task_drawn e

    -- the word of the tree of an old cell is the same, whatever its sort
    pub same_tree_word : (forks : Forks) (o : Sort) (c : ℕ) (f : Once) → c ≢ n → (p : Sort)
        → tree_word maker' number' (forks_after p t n k forks) o c f ≡ tree_word maker number forks o c f
    same_tree_word forks o c f z p = by f
      where
        node_same : (p : Sort) → node_of (forks_after p t n k forks) c ≡ node_of forks c
        node_same sort.Promise = refl
        node_same sort.Task = rw (ne_eqb c n z) refl

        by : (f : Once)
            → tree_word maker' number' (forks_after p t n k forks) o c f ≡ tree_word maker number forks o c f
        by once.Parent = ap (parent_word c) (put_else maker n t c z)
        by once.Kid = put_else number n k c z
        by once.Depth = ap (depth_word o) (node_same p)
        by once.Jump = ap (jump_word o) (node_same p)
        by f = refl

    -- a draw keeps the words of the tree, where nothing that is due to a seat is taken from it, and each word of the
    -- new cell is due to a seat, or right
    pub tree_words_drawn : {forks : Forks} {word : ℕ → Once → ℕ} {dues dues' : List (List Due)}
        → TreeWords n born maker number forks hand word dues
        → ((c : ℕ) (f : Once) → (j : ℕ) × OfSeat (IsDue c f) dues j → (j : ℕ) × OfSeat (IsDue c f) dues' j)
        → ((f : Once) → IsOfTree f → ((j : ℕ) × OfSeat (IsDue n f) dues' j)
        ⊎ (word n f ≡ tree_word maker' number' (forks_after h.sort t n k forks) h.sort n f))
        → TreeWords (suc n) born' maker' number' (forks_after h.sort t n k forks) hand' word dues'
    tree_words_drawn {forks} {word} {dues} {dues'} w keeps news = record {
      written = λ c x f i e o. each_cell (λ c x. IsThere (suc n) hand' c
          → word c f ≡ tree_word maker' number' (forks_after h.sort t n k forks) x.sort c f)
          (λ c x q i. w.written c x f (there_back c i) q o
          ∙ sym (same_tree_word forks x.sort c f (not_new c x q) h.sort))
          (λ i. let a = (there_back n i).0 in absurd (omega arith)) c x e i;
      in_hand = λ c g x f a e o. each_cell (λ c x. hand' c ≡ Some g → ((j : ℕ) × OfSeat (IsDue c f) dues' j)
          ⊎ (word c f ≡ tree_word maker' number' (forks_after h.sort t n k forks) x.sort c f))
          (λ c x q a. let z = not_new c x q in ⊎_elim
          (λ (r : (j : ℕ) × OfSeat (IsDue c f) dues j). inl (keeps c f r))
          (λ (r : word c f ≡ tree_word maker number forks x.sort c f).
          inr (r ∙ sym (same_tree_word forks x.sort c f z h.sort)))
          (w.in_hand c g x f (sym (d.else c z) ∙ a) q o))
          (λ _. news f o) c x e a;
    }
