-- The next ask of a running task: its body may be given the record's answer, there is room for a place more, and each
-- place of the ask is held.
use Rattle.tj_run.proofs.Prelude.{Ask, AsksArePlaced, HeldSays, IsAsked, IsRunning, Point, PointsAreGood, Rec, View, ap}
use Rattle.tj_run.proofs.Prelude.{arith, inl, inr, length, subst, sym, ℕ, ⊎_elim, ◌+◌, ◌<◌, ◌^◌, ◌∙◌, ◌≡◌, ◌≤◌, ◌⊎◌}
use Rattle.tj_body.specs.Asks.{Ends, Fits, IsPlaced}
use Rattle.tj_body.specs.Points.{IsGoodAt, MayAnswer, most_places}
use Rattle.tj_body.specs.Programs.{AreLawful, Program}
use Rattle.tj_run.proofs.Asks.PointSteps.{pairs_length}

-- so many places leave room for one more
pub few_held : (n l : ℕ) → n + l ≤ most_places → n + 1 < 2 ^ 31
few_held n l h = omega arith

module _ {B : Type 0} (program : Program B) (good : PointsAreGood program) (v : View B) (r : Rec B)
    (h : IsRunning program v r) where
  abbrev p : Point B
  p = h.point

  -- the point's body may be given the answer
  may_answer : MayAnswer program.rules r.answer p
  may_answer = subst (λ z. IsGoodAt program.rules z p) h.at_stage (good p h.stands.of_rounds).at_stage

  -- and so may the record's
  pub fits_record : Fits (program.rules.awaits r.body) (program.rules.places r.body) r.answer
  fits_record = subst (λ b. Fits (program.rules.awaits b) (program.rules.places b) r.answer) (sym h.tells.body)
      may_answer.fits

  pub few_places : program.rules.places r.body < 2 ^ 31
  few_places = subst (λ b. program.rules.places b < 2 ^ 31) (sym h.tells.body)
      (let e = may_answer.all_places in let f = few_held (length p.references) _ may_answer.room in omega arith)

  -- what is held leaves room for one more
  held_room : length r.held + 1 < 2 ^ 31
  held_room = subst (λ n. n + 1 < 2 ^ 31) (sym (pairs_length (HeldSays v.born) r.held p.references h.tells.held))
      (few_held (length p.references) _ may_answer.room)

  -- and so does what was made
  made_room : r.made + 1 < 2 ^ 31
  made_room = subst (λ n. n + 1 < 2 ^ 31) (sym h.tells.made)
      (let m = (good p h.stands.of_rounds).made in let f = few_held (length p.references) _ may_answer.room in
      omega arith)

  module _ (x : Ask B) (b : B) (e : x ≡ program.rules.asks r.body r.answer) (f : b ≡ program.rules.then r.body r.answer)
    where
      -- the ask is given, and the record has nothing of it yet
      pub asked_next : AsksArePlaced program → IsAsked program v (record r { body = b }) x
      asked_next placed = let t = h.tells in
          let is : x ≡ program.rules.asks p.body r.answer =
          e ∙ ap (λ y. program.rules.asks y r.answer) t.body in record {
            rooted = h.rooted;
            point = p;
            given = r.answer;
            at_stage = h.at_stage;
            is = is;
            unfinished = h.unfinished;
            tells = record {
              of = t.of;
              body = f ∙ ap (λ y. program.rules.then y r.answer) t.body;
              held = t.held;
              owned_cells = t.owned_cells;
              made = t.made;
              prints = t.prints;
              owed = t.owed;
            };
            stands = h.stands;
            placed =
                subst (λ n. IsPlaced program.rules.places program.rules.awaits program.rules.left n x)
                (sym (pairs_length (HeldSays v.born) r.held p.references t.held))
                (subst (λ y. IsPlaced program.rules.places program.rules.awaits program.rules.left
                (length p.references) y) (sym is) (placed p r.answer h.stands.of_rounds h.at_stage));
            room = held_room;
            few = made_room;
          }

      -- it is the last one, or fewer are left
      pub falls_next : AreLawful program.rules → Ends x ⊎ (program.rules.left b < program.rules.left r.body)
      falls_next obeys = ⊎_elim (λ i. inl (subst Ends (sym e) i))
          (λ l. inr (subst (λ y. program.rules.left y < program.rules.left r.body) (sym f) l))
          (obeys r.body r.answer fits_record).falls
