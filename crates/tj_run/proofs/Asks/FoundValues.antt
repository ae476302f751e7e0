-- What a value found makes of the record of a task that waits for its cell, and of the point that the record tells.
use Rattle.tj_run.proofs.Prelude.{Answer, ArePairs, Becomes, Begins, Bool, Entry, HasName, HasSeen, Held, HeldSays}
use Rattle.tj_run.proofs.Prelude.{IsCell, IsOfRounds, IsRunning, IsWaiting, List, Name, Point, PointsRead, Program, Rec}
use Rattle.tj_run.proofs.Prelude.{Reference, Stands, Tells, View, [], ap, held_at, inl, length, owned_in, record_with}
use Rattle.tj_run.proofs.Prelude.{reference, refl, stands_on, subst, sym, tells_on, to_task, ℕ, ◌++◌, ◌<◌, ◌∷◌}
use Rattle.tj_body.specs.History.{after_read, with_answer, with_reference}
use Rattle.tj_run.proofs.Asks.PointSteps.{pairs_at, pairs_length, stands_next}
use Rattle.tj_base.specs.declared.cell.Sort.TheVariants as sort
use Rattle.tj_body.specs.declared.ask.Answer.TheVariants as answer
use Rattle.tj_body.specs.declared.point.PointStage.TheVariants as stage

-- pairs stay when one more pair is added
pub pairs_snoc : {A C : Type 0} (F : A → C → Type 0) (xs : List A) (ys : List C) (a : A) (c : C) → ArePairs F xs ys
    → F a c → ArePairs F (xs ++ a ∷ []) (ys ++ c ∷ [])
pairs_snoc F [] [] a c h k = (k, tt)
pairs_snoc F [] (y ∷ ys) a c h k = absurd h
pairs_snoc F (x ∷ xs) [] a c h k = absurd h
pairs_snoc F (x ∷ xs) (y ∷ ys) a c h k = (h.0, pairs_snoc F xs ys a c h.1 k)

module _ {B : Type 0} (program : Program B) (v : View B) (r : Rec B) (k : ℕ) (spare : Bool)
    (h : IsWaiting program v r k spare) where
  abbrev p : Point B
  p = h.point

  -- the cell that the task waits for
  abbrev q : Name
  q = (reference p k).name

  -- the held cell at the place is that cell
  pub waited_cell : k < length r.held → IsCell v.born (held_at r.held k).cell.0 (reference p k)
  waited_cell l = (pairs_at (HeldSays v.born) r.held p.references (record { cell = record { 0 = 0 }; sort = sort.Task })
      (to_task p.name) h.tells.held k l).0

  -- the answer's point is of some round
  pub read_rounds : PointsRead program → (e : Entry) → Becomes program q e
      → IsOfRounds program (after_read spare q e p)
  read_rounds law e b = law p q spare e h.stands.of_rounds h.at_stage b

  -- as its seat knows more
  module _ (w : View B) (more : Begins v.born w.born)
      (filled : (c : ℕ) (e : Entry) → HasSeen v.filled c e → HasSeen w.filled c e) where
    pub tells_later : Tells w.born r p
    tells_later = tells_on v.born w.born more r p h.tells

    pub stands_later : Stands program w p
    stands_later = stands_on program v.born w.born more (HasSeen v.filled) (HasSeen w.filled) filled p h.stands

    -- the task owns the same cells when it has its answer
    owned_later : (a : Answer) → ArePairs (HasName w.born) r.owned (owned_in (stage.Answered a) p.name p.holds)
    owned_later a = subst (λ s. ArePairs (HasName w.born) r.owned (owned_in s p.name p.holds)) h.at_stage
        tells_later.owned_cells

    -- an answer that names no cell
    pub answered : (a : Answer) → IsOfRounds program (with_answer a p) → IsRunning program w (record r { answer = a })
    answered a o = let t = tells_later in record {
      rooted = h.rooted;
      point = with_answer a p;
      at_stage = refl;
      unfinished = h.unfinished;
      tells = record {
        of = t.of;
        body = t.body;
        held = t.held;
        owned_cells = owned_later a;
        made = t.made;
        prints = t.prints;
        owed = t.owed;
      };
      stands = stands_next program w p (with_answer a p) stands_later o (λ c j. inl j) (λ y j. inl j)
          (λ y e j. inl j);
    }

    -- an answer that names a cell, which the task holds from then on
    pub answered_cell : (d : Held) (x : Reference) → HeldSays w.born d x
        → IsOfRounds program (with_answer (answer.RefAt (length p.references)) (with_reference x p))
        → IsRunning program w (record_with d r)
    answered_cell d x says o = let t = tells_later in
        let n = with_answer (answer.RefAt (length p.references)) (with_reference x p) in record {
          rooted = h.rooted;
          point = n;
          at_stage = ap (λ i. stage.Answered (answer.RefAt i))
              (sym (pairs_length (HeldSays w.born) r.held p.references t.held));
          unfinished = h.unfinished;
          tells = record {
            of = t.of;
            body = t.body;
            held = pairs_snoc (HeldSays w.born) r.held p.references d x t.held says;
            owned_cells = owned_later (answer.RefAt (length p.references));
            made = t.made;
            prints = t.prints;
            owed = t.owed;
          };
          stands = stands_next program w p n stands_later o (λ c j. inl j) (λ y j. inl j) (λ y e j. inl j);
        }
