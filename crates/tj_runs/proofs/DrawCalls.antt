-- A draw that finds a cell is a change of the law of steps, and leaves makers and numbers of the cells that were drawn
-- before.
use Rattle.tj_words.proofs.Prelude.{Bool, Contents, FindsCell, Law, List, MakesWith, MayDraw, Option, Program}
use Rattle.tj_words.proofs.Prelude.{Reference, Rule, SeatMe, Sort, State, [], ap, arith, contents_of, count_at}
use Rattle.tj_words.proofs.Prelude.{drawn_in, drawn_next, drew, homes_after, inl, new_hand, refl, suc, sym, takes_new}
use Rattle.tj_words.proofs.Prelude.{word, ℕ, ◌++◌, ◌<◌, ◌∙◌, ◌∷◌, ◌≡◌}
use Rattle.tj_record.specs.declared.record.Rec.{Rec}
use Rattle.tj_words.specs.declared.table.Key.{Key}
use Rattle.tj_words.specs.declared.view.Hand.{Hand}
use Rattle.tj_words.specs.declared.view.View.{View}
use Rattle.tj_words.proofs.Lemmas.{Count, DrawsCell, KeepsCells, back, call_stores_with, hand_found, stored_with}
use Rattle.tj_words.proofs.Events.StepEvents.{Keeping}
use Rattle.tj_words.proofs.Events.DrawEvents.{drawn_into, may_draw}
use Rattle.tj_words.proofs.Cells.DrawnTasks.{slots_after}
use Rattle.tj_words.proofs.Cells.DrawSteps.{after_draw, draw_path, after_draws}
use Rattle.tj_base.specs.declared.cell.Sort.TheVariants as sort
use Rattle.tj_words.specs.declared.offsets.Once.TheVariants as once

-- makers and numbers of the cells that were drawn before stay: the drawer had none in hand, and no other cell in hand
-- is one that it makes
draw_keeps : {B : Type 0} {program : Program B} {cells : ℕ} {x : Contents B} (r : Law program cells x) (y : Contents B)
    (id t : ℕ) (h : Hand) → DrawsCell cells x y id t h → y.words.once ≡ x.words.once → KeepsCells cells x y
draw_keeps {cells = cells} {x = x} r y id t h s words = record {
  there = λ d i. record {
    out = (drawn_into r y id t h s).else d (λ e. let l = i.0 in omega arith) ∙ i.1;
    parent_is = ap (λ z. z d once.Parent) words;
    kid_is = ap (λ z. z d once.Kid) words;
  };
  hands = λ d g e. let f = hand_found x.seats.hands d g e in let l = (r.hands.each f.0.0 g f.0.1).drawn_cell in
      let q = f.1 in let calm = (may_draw r y id t h s).calm d g e in inl (record {
        hand = g;
        in_hand = (drawn_into r y id t h s).else d (λ z. omega arith) ∙ e;
        maker_is = refl;
        made_is = (drawn_into r y id t h s).made_else g.maker calm.0 calm.1;
      });
}

module _ {B : Type 0} (program : Bool → B → Program B) (key : Key B) (s t : State (Option (Rec B)) (View B))
    (r : Rule program key s) (id n u c : ℕ) (o : Sort) (m m' : SeatMe B) where
  abbrev x : Contents B
  x = contents_of s

  abbrev y : Contents B
  y = contents_of t

  slots_now : (p : Sort) → homes_after s.homes m.1 (takes_new B c p) ≡ slots_after c p s.homes
  slots_now sort.Promise = refl
  slots_now sort.Task = refl

  pub call_draws : MakesWith (takes_new B c o) id count_at n m m' s t → word s.words count_at ≡ c → n ≡ suc c
      → word s.words count_at < key.cells → FindsCell key.cells u o (word s.words count_at) m.0 m'.0
      → MayDraw program u m.0 → Keeping key.cells x y (DrawsCell key.cells x y id u (new_hand c u o))
  call_draws h found next left finds may = back
      (λ j. Keeping key.cells x (leaves j) (DrawsCell key.cells x (leaves j) id u (new_hand (same j) u o))) (
        change,
        draw_keeps r.law after id u (new_hand d u o) change refl,
      )
    where
      v : View B
      v = m.0

      d : ℕ
      d = drawn_in key.cells x

      same : c ≡ d
      same = omega (arith, found, left)

      now : List Reference
      now = finds.born ++ drawn_next u o v ∷ []

      after : Contents B
      after = after_draw program key s r id u o v h.at may left now

      leaves : y ≡ after
      leaves = call_stores_with s t id Count n m m' (takes_new B c o) h (slots_after d o s.homes)
          (slots_now o ∙ ap (λ k. slots_after k o s.homes) same) (drew d u o finds.born v)
          (finds.view ∙ ap (λ k. drew k u o finds.born v) (found ∙ same))
          ∙ (ap (λ k. stored_with s id Count k (slots_after d o s.homes) (drew d u o finds.born v))
          (next ∙ ap suc (sym found)) ∙ draw_path program key s r id u o v h.at may left now)

      change : DrawsCell key.cells x after id u (new_hand d u o)
      change = after_draws program key s r id u o v h.at may left now
