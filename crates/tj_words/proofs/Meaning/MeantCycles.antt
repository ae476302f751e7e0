-- The cycles of waits of a meaning are those that closed words of it show; so each of them has a member that has
-- alarmed.
use Rattle.tj_words.proofs.Prelude.{AreDistinct, Bool, CellId, IsCell, IsIn, List, Name, Owns, Phase, Point, Program}
use Rattle.tj_words.proofs.Prelude.{Reference, RestCell, Walk, Way, [], ap, cell, owned, phase_sort, reference_of, some}
use Rattle.tj_words.proofs.Prelude.{some-injective, some-ne-none, suc, sym, to_map, to_task, ℕ, ◌<◌, ◌∙◌, ◌∷◌, ◌≡◌}
use Rattle.tj_words.proofs.Lemmas.{at_index, index_is, inside, name_of, one_some}
use Rattle.tj_body.specs.declared.point.PointStage.{PointStage}
use Rattle.std.proofs.Common.{arith, refl, subst, true, zero, nat_eq, eqb-true, eq-eqb}
use Rattle.tj_body.specs.Rounds.{meaning}
use Rattle.tj_body.specs.Names.{same}
use Rattle.tj_body.proofs.Counts.{same_is, same_self}
use Rattle.std.specs.Bool.{Decides}
use Rattle.tj_base.proofs.CycleImages.{AreImages, cycle_list_from}
use Rattle.tj_words.specs.AtRest.ClosedCells.{IsShown, Waits, Leads, HasAlarmed, AreCyclesAlarmed}
use Rattle.tj_words.specs.AtRest.RestMeaning.{names, IsPhaseAt, AreWordsOf, AreCyclesOfMeaningAlarmed}
use Rattle.tj_words.proofs.Meaning.Resting.{in_of_index}
use Rattle.tj_words.proofs.Meaning.RestingStates.{one_wait}
use Rattle.tj_base.specs.Cycles as graph
use Rattle.tj_base.specs.declared.cell.Sort.TheVariants as sort
use Rattle.tj_body.specs.WaitGraph as meant
use Rattle.tj_body.specs.declared.point.PointStage.TheVariants as stage
use Rattle.tj_words.specs.declared.phase.Phase.TheVariants as phase

-- cells whose names stand once each are told apart by their names
pub names_apart : (l : List Reference) → AreDistinct (names l) → (c d : ℕ) (y z : Reference) → IsCell l c y
    → IsCell l d z → y.name ≡ z.name → c ≡ d
names_apart [] h c d y z e f q = absurd (some-ne-none y (sym e))
names_apart (x ∷ xs) h zero zero y z e f q = refl
names_apart (x ∷ xs) h zero (suc d) y z e f q = absurd (h.0 (subst (λ w. IsIn w (names xs))
    (sym q ∙ ap name_of (sym (some-injective x y e))) (to_map name_of z xs (in_of_index xs d z f))))
names_apart (x ∷ xs) h (suc c) zero y z e f q = absurd (h.0 (subst (λ w. IsIn w (names xs))
    (q ∙ ap name_of (sym (some-injective x z f))) (to_map name_of y xs (in_of_index xs c y e))))
names_apart (x ∷ xs) h (suc c) (suc d) y z e f q = ap suc (names_apart xs h.1 c d y z e f q)

-- a history that waits is shown by a wait
pub waits_there : (born : List Reference) (q : PointStage) (p : Phase) (name : Name) (spare : Bool)
    → IsPhaseAt born q p → q ≡ stage.Waits name spare
    → (c : CellId) × (way : Way) × (w : Walk) × (r : Reference) × (p ≡ phase.Waiting c way w) × IsCell born c.0 r
    × (r.name ≡ name)
waits_there born q p name spare h e = let w = subst (λ z. IsPhaseAt born z p) e h in
    (w.0, w.1, w.2, w.3, w.4, w.6, w.7)

-- and a wait that is shown is one of the history
pub waits_at : (born : List Reference) (q : PointStage) (p : Phase) (c : CellId) (way : Way) (w : Walk)
    → IsPhaseAt born q p → p ≡ phase.Waiting c way w
    → (r : Reference) × (spare : Bool) × IsCell born c.0 r × (q ≡ stage.Waits r.name spare)
waits_at born q p c way w h e = grind arith

module _ {B : Type 0} (program : Program B) (N : ℕ) (shown : List RestCell) (born : List Reference)
    (words : AreWordsOf program N born shown) where
  abbrev pub ps : List (Point B)
  ps = meaning program N

  abbrev pub named : ℕ → Name
  named c = (reference_of born c).name

  -- a task that is there
  abbrev pub There : ℕ → Type 0
  There c = (r : Reference) × IsCell born c r × (r.sort ≡ sort.Task)

  pub named_is : (c : ℕ) (r : Reference) → IsCell born c r → named c ≡ r.name
  named_is c r e = ap name_of (index_is born c (to_task []) r e)

  pub apart : (c d : ℕ) (y z : Reference) → IsCell born c y → IsCell born d z → y.name ≡ z.name → c ≡ d
  apart = names_apart born words.once

  pub one_shown : (c : ℕ) (x y : RestCell) → IsShown shown c x → IsShown shown c y → x ≡ y
  one_shown c x y e f = some-injective x y (sym e ∙ f)

  pub one_led : graph.LeadsToOne (Leads shown)
  one_led t u v h k =
      let a = h.1 in let b = k.1 in
      let same = one_wait (ap (λ (z : RestCell). z.phase) (one_shown t a.0 b.0 a.3 b.3) ∙ b.4) a.4 in
      let o = h.2 in let p = k.2 in
      let x = one_shown h.0.0 o.0 p.0 o.1 (subst (λ c. IsShown shown c p.0) same p.1) in
      ap (λ (c : CellId). c.0) (one_some (cell u) (cell v) (sym o.2 ∙ (ap (λ (z : RestCell). z.own) x ∙ p.2)))

  -- a task that waits in the words does so in the meaning, for the cell of that name
  pub waits_meant : (t : ℕ) (c : CellId) → There t → Waits shown t c
      → (r : Reference) × IsCell born c.0 r × meant.Waits ps (named t) r.name
  waits_meant t c there h =
      let w = words.tasks t there.0 there.1 there.2 in let s = w.2 in
      let x = one_shown t s.x h.0 s.is_shown h.3 in
      let z = waits_at born w.0.stage s.x.phase c h.1 h.2 s.phase_is (ap (λ (k : RestCell). k.phase) x ∙ h.4) in
      (z.0, z.2, (w.0, z.1, w.1, sym (named_is t (to_task w.0.name) s.is), z.3))

  pub owns_meant : (u : ℕ) (c : CellId) (r : Reference) → IsCell born c.0 r → Owns shown u c
      → meant.Owns ps (named u) r.name
  owns_meant u c r e h =
      let o = words.owners u c h in let w = words.tasks u o.0 o.1 o.2 in
      (w.0, w.1, sym (named_is u (to_task w.0.name) w.2.is), (w.2.owns c r e).0 h)

  pub waiter_there : (t : ℕ) (c : CellId) → Waits shown t c → There t
  waiter_there t c h =
      let l = subst (λ k. t < k) (sym words.named.all) (inside shown t h.0 h.3) in
      let e = at_index born t (to_task []) l in (
        reference_of born t,
        e,
        words.named.sorts t h.0 (reference_of born t) h.3 e
            ∙ ap phase_sort h.4,
      )

  pub image : AreImages named There (Leads shown) (meant.WaitsFor ps)
  image = record {
    stay = λ a b h. words.owners b h.0 h.2;
    steps = λ a b h. let w = waits_meant a h.0 (waiter_there a h.0 h.1) h.1 in
        (w.0.name, w.2, owns_meant b h.0 w.0 w.1 h.2);
    back = λ a h y l.
        let p = l.1 in let o = l.2 in
        let s = words.histories p.0 p.2 in let u = words.histories o.0 o.1 in
        let here : s.0 ≡ a = apart s.0 a (to_task p.0.name) h.0 s.1.is h.1 (p.3 ∙ named_is a h.0 h.1) in
        let w = waits_there born p.0.stage s.1.x.phase l.0 p.1 s.1.phase_is p.4 in (
          u.0,
          (
            w.0,
            (s.1.x, w.1, w.2, subst (λ k. IsShown shown k s.1.x) here s.1.is_shown, w.4),
            (u.1.owns w.0 w.3 w.5).1 (subst (λ q. IsIn q (owned o.0)) (sym w.6) o.3),
          ),
          named_is u.0 (to_task o.0.name) u.1.is ∙ o.2,
        );
    apart = λ a b h k e. apart a b h.0 k.0 h.1 k.1 (sym (named_is a h.0 h.1) ∙ (e ∙ named_is b k.0 k.1));
  }

  -- a task of the meaning that waits is there
  pub cell_of_waiter : (x y : Name) → meant.WaitsFor ps x y → (a : ℕ) × There a × (named a ≡ x)
  cell_of_waiter x y l = let p = l.1 in let s = words.histories p.0 p.2 in
      (s.0, (to_task p.0.name, s.1.is, refl), named_is s.0 (to_task p.0.name) s.1.is ∙ p.3)

  pub one_meant : graph.LeadsToOne (meant.WaitsFor ps)
  one_meant x y z h k =
      let a = cell_of_waiter x y h in
      let b = image.back a.0 a.1 y (subst (λ q. meant.WaitsFor ps q y) (sym a.2) h) in
      let c = image.back a.0 a.1 z (subst (λ q. meant.WaitsFor ps q z) (sym a.2) k) in
      sym b.2 ∙ (ap named (one_led a.0 b.0 c.0 b.1 c.1) ∙ c.2)

  pub same_cells : (a b : ℕ) → Decides (nat_eq a b) (a ≡ b)
  same_cells a b = (eqb-true a b, eq-eqb a b)

  pub same_names : (x y : Name) → Decides (same x y) (x ≡ y)
  same_names x y = (same_is x y, λ e. subst (λ z. same x z ≡ true) e (same_self x))

  first_waits : (x : Name) (ys : List Name) → graph.LeadsAlong (meant.WaitsFor ps) x ys x
      → (y : Name) × meant.WaitsFor ps x y
  first_waits x [] l = (x, l)
  first_waits x (y ∷ ys) l = (y, l.0)

  cycle_alarmed : AreCyclesAlarmed shown → (tasks : List Name) → graph.IsCycle (meant.WaitsFor ps) same tasks
      → (u : ℕ) × (r : Reference) × IsCell born u r × IsIn r.name tasks × HasAlarmed shown u
  cycle_alarmed law [] c = absurd c
  cycle_alarmed law (x ∷ ys) c =
      let f = first_waits x ys c.1 in let a = cell_of_waiter x f.0 f.1 in
      let w = cycle_list_from named There (Leads shown) (meant.WaitsFor ps) image one_led one_meant nat_eq same_cells
      same same_names a.0 ys a.1
      (subst (λ q. graph.IsCycle (meant.WaitsFor ps) same (q ∷ ys)) (sym a.2) c) in
      let h = law (a.0 ∷ w.0) w.1 in
      let l = subst (λ k. h.0 < k) (sym words.named.all) (inside shown h.0 h.2.0 h.2.3) in (
        h.0,
        reference_of born h.0,
        at_index born h.0 (to_task []) l,
        subst (IsIn (named h.0)) (λ j. a.2 j ∷ w.2 j)
            (to_map named h.0 (a.0 ∷ w.0) (in_of_index (a.0 ∷ w.0) h.1.0 h.0
            (at_index (a.0 ∷ w.0) h.1.0 h.0 h.1.1 ∙ ap some h.1.2))),
        h.2,
      )

-- each cycle of the meaning's waits has a member that has alarmed
pub meant_cycles_alarmed : {B : Type 0} (program : Program B) (N : ℕ) (shown : List RestCell) → AreCyclesAlarmed shown
    → AreCyclesOfMeaningAlarmed program N shown
meant_cycles_alarmed program N shown law tasks c born words = cycle_alarmed program N shown born words law tasks c
