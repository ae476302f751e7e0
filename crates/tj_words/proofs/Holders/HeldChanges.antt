-- A seat notes something else for a task that it holds: what of the law speaks of the lists of tasks is kept.
use Rattle.tj_words.proofs.Prelude.{AreThere, CellId, Contents, Custody, Does, Hand, HasAlarmed, IsCustody, IsIn}
use Rattle.tj_words.proofs.Prelude.{IsKept, IsLaid, IsThere, Law, List, None, OfSeat, Option, Phase, Program, Rec}
use Rattle.tj_words.proofs.Prelude.{Slots, Some, Walk, Way, [], ap, arith, does_cells, drawn_in, find_in, get_elem?}
use Rattle.tj_words.proofs.Prelude.{hand_of, held_in, held_of, hold, home_in, home_of, inl, let_go, made_by, made_of}
use Rattle.tj_words.proofs.Prelude.{making, owned_by, owned_of, phase_of, phase_sort, put, put_else, put_here}
use Rattle.tj_words.proofs.Prelude.{record_cells, refl, set, some, subst, sym, ℕ, ⊎_elim, ◌+◌, ◌∙◌, ◌∷◌, ◌≡◌, ◌≢◌}
use Rattle.tj_words.proofs.Lemmas.{IsHeldWith, custody, find_put, held_alone, held_here, hold_else, hold_here}
use Rattle.tj_words.proofs.Lemmas.{made_held_by, none_some, of_seat_here, one_some, put_is, put_kept}
use Rattle.tj_words.proofs.Holders.TaskMoves.{does_sort, TaskMove}
use Rattle.tj_words.specs.declared.view.Does.TheVariants as does
use Rattle.tj_words.specs.declared.phase.Phase.TheVariants as phase

module _ {B : Type 0} where
  -- what a seat has for a task is of that task
  pub held_task : (ks : List (Custody B)) (t : ℕ) (k : Custody B) → held_in ks t ≡ Some k → k.task ≡ t
  held_task [] t k e = none_some None k refl e
  held_task (k' ∷ ks) t k e = let r = held_task ks t k in grind arith

  -- what is let go is an element less
  pub let_go_in : (t : ℕ) (ks : List (Custody B)) (k : Custody B) → IsIn k (let_go t ks) → IsIn k ks
  let_go_in t [] k i = i
  let_go_in t (k' ∷ ks) k i = let r = let_go_in t ks k in grind arith

module _ {B : Type 0} {program : Program B} {cells : ℕ} {x : Contents B} (r : Law program cells x) (id t : ℕ)
    (k k' : Custody B) (h : IsHeldWith x id t k) (its : k'.task ≡ t) where
  -- what the seats have for their tasks from now on
  abbrev pub tasks' : List (List (Custody B))
  tasks' = set x.seats.tasks id (hold k' h.0)

  here : held_in (hold k' h.0) t ≡ Some k'
  here = ap (held_in (hold k' h.0)) (sym its) ∙ hold_here k' h.0

  else : (u : ℕ) → u ≢ t → held_in (hold k' h.0) u ≡ held_in h.0 u
  else u n = hold_else k' u h.0 (λ e. n (e ∙ its))

  -- what is found for each task
  pub found_held : find_in tasks' ≡ put (held_of x) t (Some k')
  found_held = find_put x.seats.tasks id t h.0 (hold k' h.0) h.1 (held_alone r id t (custody r id t k h).mine) else
      ∙ ap (put (held_of x) t) here

  -- and so what each owns
  pub owned_held : (λ u. owned_by (find_in tasks' u) (home_of x u)) ≡ put (owned_of x) t k'.owned
  owned_held = (λ j u. owned_by (found_held j u) (home_of x u))
      ∙ put_is (owned_of x) (λ u. owned_by (put (held_of x) t (Some k') u) (home_of x u)) t k'.owned
      (ap (λ (o : Option (Custody B)). owned_by o (home_of x t)) (put_here (held_of x) t (Some k')))
      (λ u n. ap (λ (o : Option (Custody B)). owned_by o (home_of x u)) (put_else (held_of x) t (Some k') u n))

  -- and how many things each has made
  pub made_held : k'.made ≡ k.made → (u : ℕ)
      → made_by (find_in tasks' u) (home_of x u) + making x.seats.hands u ≡ made_of x u
  made_held e u = (λ j. made_by (found_held j u) (home_of x u) + making x.seats.hands u)
      ∙ put_kept (λ u o. made_by o (home_of x u) + making x.seats.hands u) (held_of x) t (Some k')
      (ap (λ n. n + making x.seats.hands t) (e ∙ made_held_by r id t k h)) u

  -- so the task moves, where PHASE of it is as the seat has it, that of each other cell as before, and each other slot
  pub hold_move : (slots : Slots B) → ((u : ℕ) → u ≢ t → get_elem? slots u ≡ get_elem? x.slots u)
      → ((y : Rec B) → home_in slots t ≡ Some y → AreThere (drawn_in cells x) (hand_of x) (record_cells y)
      × (y.cell.0 ≡ t))
      → (phases : ℕ → Phase) → ((u : ℕ) → u ≢ t → phases u ≡ x.words.phase u) → phases t ≡ phase_of k'.does
      → IsThere (drawn_in cells x) (hand_of x) t
      → ((p : CellId) (way : Way) (w : Walk) → phases t ≡ phase.Waiting p way w
      → IsThere (drawn_in cells x) (hand_of x) p.0 × (x.words.own t ≢ None))
      → AreThere (drawn_in cells x) (hand_of x) (does_cells k'.does)
      → k'.made ≡ k.made
      → ((g : Hand) → get_elem? x.seats.hands id ≡ some (Some g) → g.maker ≡ t → k.home ≡ None → k'.home ≡ None)
      → (HasAlarmed k'.does → home_in slots t ≡ None)
      → ((c : Rec B) → k'.home ≡ Some c → IsLaid k' (home_in slots t) c)
      → (k'.home ≡ None → home_in slots t ≡ None)
      → TaskMove r id t phases h.0 (hold k' h.0) slots
  hold_move slots apart lies phases same now there waits named made out alarmed laid bare = record {
    at = h.1;
    same = else;
    mine = λ j e. one_some j id (sym e ∙ (custody r id t k h).mine);
    there = there;
    was_task = ap phase_sort (custody r id t k h).does ∙ does_sort k.does;
    is_task = ap phase_sort now ∙ does_sort k'.does;
    else = same;
    waits = waits;
    makers = λ g e q. let w = (r.hands.each id g e).maker_held in
        let its : k ≡ w.2.0 = one_some k w.2.0 (sym (held_here r id t k h)
        ∙ (ap (held_of x) (sym q) ∙ held_here r id g.maker w.2.0 (w.0, w.1, w.2.1))) in
        (k', here, out g e q (ap (λ (z : Custody B). z.home) its ∙ w.2.2));
    apart = apart;
    lies = lies;
    walks = λ z i. ⊎_elim
        (λ (e : z ≡ k'). subst (λ (q : Custody B). AreThere (drawn_in cells x) (hand_of x) (does_cells q.does)) (sym e)
        named)
        (λ (j : IsIn z (let_go k'.task h.0)). r.names.walks id h.0 h.1 z (let_go_in k'.task h.0 z j)) i;
    made = ap (λ (o : Option (Custody B)). made_by o (home_in slots t)) here ∙ (made ∙ made_held_by r id t k h);
    holder = Some id;
    kept = subst (λ p. IsKept p (Some id) (home_in slots t)) (sym now) (kept k'.does alarmed);
    custody = λ a e. subst (IsCustody (put r.custody.holder t (Some id)) phases (home_in slots) id t)
        (one_some k' a (sym here ∙ e)) record {
          mine = put_here r.custody.holder t (Some id);
          does = now;
          laid = laid;
          out = bare;
        };
    holds = λ j e. subst (OfSeat (λ l. (a : Custody B) × (held_in l t ≡ Some a)) tasks') (one_some id j e)
        (of_seat_here (λ l. (a : Custody B) × (held_in l t ≡ Some a)) x.seats.tasks id h.0 (hold k' h.0) h.1
        (k', here));
  }
    where
      kept : (d : Does) → (HasAlarmed d → home_in slots t ≡ None) → IsKept (phase_of d) (Some id) (home_in slots t)
      kept (does.Alarmed c way w) a = inl ((id, refl), a tt)
      kept d a = (id, refl)
