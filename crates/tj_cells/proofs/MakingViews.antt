-- The view of a seat as it makes a cell, step by step.
use Rattle.tj_cells.proofs.Prelude.{All, Begins, Bool, Due, InEachTree, IsIn, Node, Program, Reference, Sort, View, []}
use Rattle.tj_cells.proofs.Prelude.{ap, begins_at, cond, due_still, held_in, inl, inr, inside, new_task, node_of, noted}
use Rattle.tj_cells.proofs.Prelude.{noted_here, refl, runs_on, same_word, sym, true, ℕ, ◌+◌, ◌∙◌, ◌∷◌, ◌≡◌, ◌≢◌, ◌≤◌}
use Rattle.std.proofs.Common.{◌⊎◌, zero, suc, List, ◌++◌, length, Some, subst, arith, ⊎_elim, eq-eqb}
use mathlib.Core.Option.{some}
use lib.ListN.{get_elem?}
use Rattle.tj_body.proofs.Lists.{begins_trans, begins_more}
use Rattle.tj_words.specs.declared.view.SeenWord.{SeenWord}
use Rattle.tj_words.specs.LawParts.TreeWords.{IsCell, IsDue, AreCells}
use Rattle.tj_words.specs.SeatViews.SeenWords.{IsTaskIn, MayReadTree, ShowsNode, seen_word}
use Rattle.tj_words.specs.Calls.DrawViews.{FindsCell, MayGive, MayMark, MayWrite, drawn_next, gave_owner}
use Rattle.tj_words.specs.Calls.DrawViews.{marked_promise, new_dues, new_hand, new_tasks, without_due, wrote_word}
use Rattle.tj_words.specs.SeatViews.TreeReads.{HasReadTree}
use Rattle.tj_cells.specs.MadeCells.{IsMade, MayMake}
use Rattle.tj_cells.specs.Inner.MakingSteps.{DrawsNamed, HasInHand, WritesNode, child_jump_of, drew_named, dues_left}
use Rattle.tj_cells.proofs.DueWords.{due_of, both_alone, named_dues}
use Rattle.tj_cells.proofs.TaskNotes.{maker_held, promise_notes, task_notes}
use Rattle.tj_base.specs.declared.cell.Sort.TheVariants as sort
use Rattle.tj_words.specs.declared.offsets.Once.TheVariants as once

-- the last of a list stands at the index of its length
pub last_at : {A : Type 0} (l : List A) (x : A) (c : ℕ) → length l ≡ c → get_elem? (l ++ x ∷ []) c ≡ some x
last_at [] x zero e = refl
last_at [] x (suc c) e = absurd (omega (arith, e))
last_at (y ∷ l) x zero e = absurd (omega (arith, e))
last_at (y ∷ l) x (suc c) e = last_at l x c (omega (arith, e))

-- a beginning isn't longer
pub begins_short : {A : Type 0} (xs ys : List A) → Begins xs ys → length xs ≤ length ys
begins_short xs ys b = subst (λ l. length xs ≤ length l) (sym b.1) (longer xs b.0) where
  longer : {A : Type 0} (l m : List A) → length l ≤ length (l ++ m)
  longer [] m = omega arith
  longer (x ∷ l) m = let h = longer l m in omega arith

module _ {B : Type 0} {program : Bool → B → Program B} {t kid : ℕ} {v : View B}
    (may : MayMake program t kid v) where
  -- a cell that is drawn is none that was there
  pub maker_apart : (born : List Reference) (c : ℕ) → Begins v.born born → length born ≡ c → t ≢ c
  maker_apart born c b n e = let l = inside born t may.draw.task
      (begins_at v.born born b t may.draw.task may.draw.is_task) in omega arith

  -- PARENT and KID of the cell that was drawn
  module _ {cells : ℕ} {o : Sort} {c : ℕ} {v0 : View B} (d : FindsCell cells t o c v v0) where
    apart : t ≢ c
    apart = maker_apart d.born c d.begins d.next

    -- the maker is held as it was, but that it runs
    maker_now : (p : Sort) → held_in (new_tasks c p (noted t runs_on v.tasks)) t ≡ Some (runs_on may.draw.has)
    maker_now sort.Promise = noted_here v.tasks t may.draw.has runs_on may.draw.held refl
    maker_now sort.Task = maker_held v.tasks t may.draw.has may.draw.held c apart

    parent_due : (p : Sort) → IsDue c once.Parent (new_dues c p ++ v.dues)
    parent_due sort.Promise = inl refl
    parent_due sort.Task = inl refl

    kid_due : (p : Sort) → IsDue c once.Kid (new_dues c p ++ v.dues)
    kid_due sort.Promise = inr (inl refl)
    kid_due sort.Task = inr (inl refl)

    pub may_parent : (n : ℕ) → n ≡ suc t → MayWrite c once.Parent n v0
    may_parent n e = subst (MayWrite c once.Parent n) (sym d.view) (record {
      hand = new_hand c t o;
      has = refl;
      its_cell = refl;
      due = parent_due o;
      right = e;
    })

    pub may_kid : (v1 : View B) (n : ℕ) → v1 ≡ wrote_word c once.Parent n v0 → MayWrite c once.Kid kid v1
    may_kid v1 n e = subst (MayWrite c once.Kid kid) (sym (e ∙ ap (wrote_word c once.Parent n) d.view)) (record {
      hand = new_hand c t o;
      has = refl;
      its_cell = refl;
      due = due_still c once.Parent (new_dues c o ++ v.dues) (due_of c once.Kid) (kid_due o)
          (λ q. let s : once.Kid ≡ once.Parent = same_word c c once.Parent once.Kid q in cc);
      right = (runs_on may.draw.has, maker_now o, may.next);
    })

    pub draws_named : (v1 v2 : View B) (n : ℕ) → n ≡ suc t → v1 ≡ wrote_word c once.Parent n v0
        → v2 ≡ wrote_word c once.Kid kid v1 → DrawsNamed cells t kid o c v v2
    draws_named v1 v2 n m e f = record {
      born = d.born;
      begins = d.begins;
      next = d.next;
      small = d.small;
      all = d.all;
      fresh = d.fresh;
      view = f ∙ (ap (wrote_word c once.Kid kid) (e ∙ (λ i. wrote_word c once.Parent (m i) (d.view i)))
          ∙ (λ i. record (drew_named t kid o c d.born v) { dues = named_dues c o v.dues d.fresh i }));
    }

  -- a promise that was drawn is marked, and goes to its maker
  module _ {cells c : ℕ} {v2 : View B} (d : DrawsNamed cells t kid sort.Promise c v v2) where
    abbrev drawn : View B
    drawn = drew_named t kid sort.Promise c d.born v

    pub may_mark : MayMark c v2
    may_mark = subst (MayMark c) (sym d.view)
        (record { hand = new_hand c t sort.Promise; has = refl; its_cell = refl; promise = refl })

    module _ {v3 : View B} (marks : v3 ≡ marked_promise v2) where
      pub may_give : MayGive c t v3
      may_give = subst (MayGive c t) (sym (marks ∙ ap marked_promise d.view)) (record {
        hand = record (new_hand c t sort.Promise) { marked = true };
        has = refl;
        its_cell = refl;
        owner = refl;
        marked = λ _. refl;
        holds = λ (e : sort.Promise ≡ sort.Task). absurd (cc);
        written = d.fresh;
        reference = drawn_next t sort.Promise v;
        is_reference = last_at d.born (drawn_next t sort.Promise v) c d.next;
      })

      pub promise_made : {v4 : View B} → v4 ≡ gave_owner c t v3 → IsMade sort.Promise cells t c v v4
      promise_made gives = subst (IsMade sort.Promise cells t c v)
          (sym (gives ∙ ap (gave_owner c t) (marks ∙ ap marked_promise d.view))) (record {
            small = d.small;
            new = let n = begins_short v.born d.born d.begins in let e = d.next in omega arith;
            begins = begins_trans v.born d.born (d.born ++ drawn_next t sort.Promise v ∷ []) d.begins
                (begins_more d.born (drawn_next t sort.Promise v ∷ []));
            all = d.all;
            is = last_at d.born (drawn_next t sort.Promise v) c d.next;
            tasks = promise_notes v.tasks t may.draw.has may.draw.held c;
            known = refl;
            more = seen_word c once.Kid kid ∷ seen_word c once.Parent (suc t) ∷ [];
            seen = refl;
            parent = inr (inl refl);
            loads = omega arith;
            steps = omega arith;
            rest = λ i. record (gave_owner c t (marked_promise drawn)) { hand = sym may.draw.no_hand i };
          })

  -- a task that was drawn owns its result, once its node is written
  module _ {cells c : ℕ} {v2 : View B} (d : DrawsNamed cells t kid sort.Task c v v2) where
    abbrev drawn_task : View B
    drawn_task = drew_named t kid sort.Task c d.born v

    pub in_hand : HasInHand t c v2
    in_hand = subst (HasInHand t c) (sym d.view)
        (record { hand = refl; left = v.dues; dues = refl; fresh = d.fresh })

    -- the seat may still look at the maker
    pub still_may : (t ≡ 0) ⊎ IsIn t v.known → MayReadTree t v2
    still_may known = ⊎_elim (λ (z : t ≡ 0). inl z)
        (λ (i : IsIn t v.known). inr (inl (subst (IsIn t) (sym (ap (λ (u : View B). u.known) d.view)) i))) known

    pub still_task : IsTaskIn v.born t → IsTaskIn v2.born t
    still_task i = subst (λ b. IsTaskIn b t) (sym (ap (λ (u : View B). u.born) d.view)) (
      i.0,
      begins_at v.born (d.born ++ drawn_next t sort.Task v ∷ [])
          (begins_trans v.born d.born (d.born ++ drawn_next t sort.Task v ∷ []) d.begins
          (begins_more d.born (drawn_next t sort.Task v ∷ []))) t i.0 i.1,
      i.2,
    )

    module _ {v3 : View B} (p : WritesNode cells c v2 v3) where
      -- all but what was read of the tree is as it was drawn
      abbrev read_as : View B → View B
      read_as u = record u {
        born = p.read.born;
        seen = p.read.seen;
        once_loads = p.read.once_loads;
        steps = p.read.steps;
      }

      read_is : p.read ≡ read_as drawn_task
      read_is = p.reads.rest ∙ ap read_as d.view

      abbrev placed : View B → View B
      placed u = wrote_word c once.Jump p.jump (wrote_word c once.Depth p.depth u)

      placed_is : v3 ≡ placed (read_as drawn_task)
      placed_is = p.view ∙ ap placed read_is

      nothing_due : without_due c once.Jump (without_due c once.Depth (dues_left c sort.Task ++ v.dues)) ≡ v.dues
      nothing_due = both_alone c once.Depth once.Jump v.dues (λ (e : once.Jump ≡ once.Depth). cc) d.fresh

      -- the child is what was drawn
      begins_read : Begins (d.born ++ drawn_next t sort.Task v ∷ []) p.read.born
      begins_read = subst (λ b. Begins b p.read.born) (ap (λ (u : View B). u.born) d.view) p.reads.begins

      child_is : IsCell p.read.born c (drawn_next t sort.Task v)
      child_is = begins_at (d.born ++ drawn_next t sort.Task v ∷ []) p.read.born begins_read c
          (drawn_next t sort.Task v)
          (last_at d.born (drawn_next t sort.Task v) c d.next)

      pub may_give_task : MayGive c c v3
      may_give_task = subst (MayGive c c) (sym placed_is) (record {
        hand = new_hand c t sort.Task;
        has = refl;
        its_cell = refl;
        owner = refl;
        marked = λ (e : sort.Task ≡ sort.Promise). absurd (cc);
        holds = λ _. (
          new_task c,
          ap (λ b. cond b (Some (new_task c)) (held_in (noted t runs_on v.tasks) c))
              (eq-eqb c c refl),
        );
        written = subst (All (λ (y : Due). y.cell ≢ c)) (sym nothing_due) d.fresh;
        reference = drawn_next t sort.Task v;
        is_reference = child_is;
      })

      pub task_made : {v4 : View B} → v4 ≡ gave_owner c c v3 → IsMade sort.Task cells t c v v4
      task_made gives = subst (IsMade sort.Task cells t c v)
          (sym (gives ∙ ap (gave_owner c c) placed_is)) (record {
            small = d.small;
            new = let n = begins_short v.born d.born d.begins in let e = d.next in omega arith;
            begins = begins_trans v.born (d.born ++ drawn_next t sort.Task v ∷ []) p.read.born
                (begins_trans v.born d.born (d.born ++ drawn_next t sort.Task v ∷ []) d.begins
                (begins_more d.born (drawn_next t sort.Task v ∷ []))) begins_read;
            all = p.reads.all (subst (λ (u : View B). AreCells cells u.born) (sym d.view) d.all);
            is = child_is;
            tasks = task_notes v.tasks t may.draw.has may.draw.held c (maker_apart d.born c d.begins d.next);
            known = refl;
            more = seen_word c once.Jump p.jump ∷ seen_word c once.Depth p.depth ∷ (p.reads.more
                ++ seen_word c once.Kid kid ∷ seen_word c once.Parent (suc t) ∷ []);
            seen = ap (λ l. seen_word c once.Jump p.jump ∷ seen_word c once.Depth p.depth ∷ l) seen_is;
            parent = inr (inr (in_behind p.reads.more));
            loads = loads_are;
            steps = let s : p.read.steps + v.once_loads ≡ suc (suc (suc v.steps)) + p.read.once_loads = steps_are in
                let l = loads_are in omega arith;
            rest = λ i. record (gave_owner c c (placed (read_as drawn_task))) {
              hand = sym may.draw.no_hand i;
              dues = nothing_due i;
            };
          })
        where
          loads_are : p.read.once_loads ≡ 12 + v.once_loads
          loads_are = p.loads ∙ ap (λ (u : View B). 12 + u.once_loads) d.view

          steps_are : p.read.steps + v.once_loads ≡ suc (suc (suc v.steps)) + p.read.once_loads
          steps_are = subst (λ (u : View B). p.read.steps + u.once_loads ≡ u.steps + p.read.once_loads) d.view
              p.reads.loads

          on : (xs ys zs : List SeenWord) → xs ++ (ys ++ zs) ≡ (xs ++ ys) ++ zs
          on [] ys zs = refl
          on (x ∷ xs) ys zs = ap (λ l. x ∷ l) (on xs ys zs)

          seen_is : p.read.seen ≡ (p.reads.more ++ seen_word c once.Kid kid ∷ seen_word c once.Parent (suc t) ∷ [])
              ++ v.seen
          seen_is = p.reads.seen ∙ (ap (λ (u : View B). p.reads.more ++ u.seen) d.view
              ∙ on p.reads.more (seen_word c once.Kid kid ∷ seen_word c once.Parent (suc t) ∷ []) v.seen)

          in_behind : (l : List SeenWord) → IsIn (seen_word c once.Parent (suc t))
              (l ++ seen_word c once.Kid kid ∷ seen_word c once.Parent (suc t) ∷ [])
          in_behind [] = inr (inl refl)
          in_behind (x ∷ l) = inr (in_behind l)

-- DEPTH and JUMP of a task in hand, once the nodes of its maker and of two tasks above were read
module _ {B : Type 0} (cells t c : ℕ) (v0 v1 : View B) (hand : HasInHand t c v0) (reads : HasReadTree cells v0 v1)
  where
    hand_read : v1.hand ≡ Some (new_hand c t sort.Task)
    hand_read = ap (λ (u : View B). u.hand) reads.rest ∙ hand.hand

    dues_read : v1.dues ≡ dues_left c sort.Task ++ hand.left
    dues_read = ap (λ (u : View B). u.dues) reads.rest ∙ hand.dues

    pub may_depth : (n : ℕ) → InEachTree (ShowsNode v1.seen) (λ forks. n ≡ suc (node_of forks t).depth)
        → MayWrite c once.Depth n v1
    may_depth n right = record {
      hand = new_hand c t sort.Task;
      has = hand_read;
      its_cell = refl;
      due = subst (IsDue c once.Depth) (sym dues_read) (inl refl);
      right = (refl, right);
    }

    -- a node that was shown still is, with one word more
    shows_more : (w : SeenWord) (n : ℕ) (node : Node) → ShowsNode v1.seen n node → ShowsNode (w ∷ v1.seen) n node
    shows_more w n node s = record {
      parent = s.parent;
      parent_seen = inr s.parent_seen;
      parent_is = s.parent_is;
      kid = inr s.kid;
      depth = inr s.depth;
      jump = inr s.jump;
    }

    pub may_jump : (v2 : View B) (d : ℕ) → v2 ≡ wrote_word c once.Depth d v1 → (n : ℕ)
        → InEachTree (ShowsNode v1.seen) (λ forks. n ≡ suc (child_jump_of t forks)) → MayWrite c once.Jump n v2
    may_jump v2 d e n right = subst (MayWrite c once.Jump n) (sym e) (record {
      hand = new_hand c t sort.Task;
      has = hand_read;
      its_cell = refl;
      due = due_still c once.Depth v1.dues (due_of c once.Jump)
          (subst (IsDue c once.Jump) (sym dues_read) (inr (inl refl)))
          (λ q. let z : once.Jump ≡ once.Depth = same_word c c once.Depth once.Jump q in cc);
      right = (
        refl,
        (λ forks h has. right forks h (λ m node k. has m node (shows_more (seen_word c once.Depth d) m node k))),
      );
    })
