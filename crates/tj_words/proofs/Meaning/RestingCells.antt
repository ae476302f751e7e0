-- What is shown of the cells of a table whose last seat has come back: they are at rest, who they are, and their
-- cycles.
use Rattle.tj_words.proofs.Prelude.{AlarmsAreOnCycles, AreAtRest, AreCellsOf, Bool, CellId, CellState, CoreState}
use Rattle.tj_words.proofs.Prelude.{CyclesAreWatched, IsCell, IsOfTree, IsShown, IsStill, Key, Leads, List, MayRest}
use Rattle.tj_words.proofs.Prelude.{Once, Option, Program, Rec, Reference, RestCell, Rule, Some, State, View, Waits}
use Rattle.tj_words.proofs.Prelude.{Walk, Way, ap, arith, cell, cell_of, child, get_elem?, maker_in, nat_eq, once_at}
use Rattle.tj_words.proofs.Prelude.{own_at, owner_in, parent_word, phase_sort, some, some-injective, sort_shown, stage}
use Rattle.tj_words.proofs.Prelude.{subst, sym, task_in, tree_word, waits, word, ℕ, ⊎_elim, ◌<◌, ◌∙◌, ◌∷◌, ◌≡◌, ◌≢◌}
use Rattle.tj_words.proofs.Lemmas.{cell_there, inside, parts_of}
use Rattle.tj_words.specs.AtRest.ClosedCells.{AreAlarmsOnCycles, AreCyclesAlarmed, HasAlarmed, AreNamed}
use Rattle.tj_base.proofs.CyclesOn.{cycle_list_moves}
use Rattle.tj_events.specs.WaitGraph as core
use Rattle.tj_words.specs.declared.offsets.Once.TheVariants as once
use Rattle.tj_words.specs.declared.phase.Phase.TheVariants as phase
use Rattle.tj_words.specs.declared.phase.Walk.TheVariants as walk
use Rattle.tj_words.proofs.Meaning.RestingStates as rests

-- an owner that is shown is that of the word
pub owner_back : (w u : ℕ) → task_in w ≡ Some (cell u) → owner_in w ≡ Some u
owner_back w u e = grind arith

pub owner_forth : (w u : ℕ) → owner_in w ≡ Some u → task_in w ≡ Some (cell u)
owner_forth w u e = grind arith

-- the maker that is shown is that of the cell
parent_shown : (c maker w : ℕ) → c ≢ 0 → w ≡ parent_word c maker → (maker_in w).0 ≡ maker
parent_shown c maker w n e = grind arith

module _ {B : Type 0} {program : Bool → B → Program B} {key : Key B} {s : State (Option (Rec B)) (View B)}
    (r : Rule program key s) (id : ℕ) {v : View B} (at : get_elem? s.views id ≡ some v) (may : MayRest v)
    {shown : List RestCell} (are : AreCellsOf s.words key.cells shown) where
  abbrev n : ℕ
  n = rests.n r id at may

  abbrev K : CoreState
  K = rests.K r id at may

  -- which cells are shown, and how
  pub inside_shown : (c : ℕ) (x : RestCell) → IsShown shown c x → c < n
  inside_shown c x e = subst (λ k. c < k) are.all (inside shown c x e)

  pub shown_is : (c : ℕ) (x : RestCell) → IsShown shown c x → x ≡ cell_of s.words c
  shown_is c x e = some-injective x (cell_of s.words c) (sym e ∙ are.each c (inside shown c x e))

  pub is_shown : (c : ℕ) → c < n → IsShown shown c (cell_of s.words c)
  is_shown c l = are.each c (subst (λ k. c < k) (sym are.all) l)

  pub phase_shown : (c : ℕ) (x : RestCell) → IsShown shown c x → x.phase ≡ (cell_of s.words c).phase
  phase_shown c x e = ap (λ (z : RestCell). z.phase) (shown_is c x e)

  -- they are at rest
  pub at_rest : AreAtRest shown
  at_rest = record {
    still = λ c x e. subst IsStill (sym (phase_shown c x e)) (rests.still r id at may c (inside_shown c x e));
    waits_open = λ t c h.
        let e = sym (phase_shown t h.0 h.3) ∙ h.4 in
        let l = (r.law.names.waits t c h.1 h.2 e).0 in
        (cell_of s.words c.0, is_shown c.0 l, rests.no_value r id at may t c h.1 h.2 e);
  }

  -- the wait graph that is shown is that of the core state
  pub leads_core : (t u : ℕ) → Leads shown t u → core.Leads K.cells t u
  leads_core t u h = let w = h.1 in let o = h.2 in
      rests.leads_shown r id at may t u h.0 w.1 w.2 (sym (phase_shown t w.0 w.3) ∙ w.4)
      (owner_back (word s.words (own_at h.0.0)) u
      (ap (λ (z : RestCell). z.own) (sym (shown_is h.0.0 o.0 o.1)) ∙ o.2))

  pub waits_shown : (t : ℕ) (c : CellId) (way : Way) (w : Walk) → t < n
      → (cell_of s.words t).phase ≡ phase.Waiting c way w → Waits shown t c
  waits_shown t c way w l e = (cell_of s.words t, way, w, is_shown t l, e)

  pub leads_words : (t u : ℕ) → core.Leads K.cells t u → Leads shown t u
  leads_words t u h = let w = rests.leads_back r id at may t u h in
      let l = (r.law.names.waits t w.0 w.1 w.2 w.3).0 in (
        w.0,
        waits_shown t w.0 w.1 w.2 (rests.waiter_there r id at may t w.0 w.1 w.2 w.3) w.3,
        (cell_of s.words w.0.0, is_shown w.0.0 l, owner_forth (word s.words (own_at w.0.0)) u w.4),
      )

  -- each standing cycle has a member that has alarmed
  pub cycles_alarmed : CyclesAreWatched → AreCyclesAlarmed shown
  cycles_alarmed law tasks c =
      let w = law K tasks r.law.facts
      (cycle_list_moves (Leads shown) (core.Leads K.cells) (λ a b z h i. leads_core a b h) nat_eq tasks c) in (
        w.0,
        w.1,
        ⊎_elim (λ h. alarmed w.0 h.0 h.1 h.2) (λ h. absurd (rests.no_walk r id at may w.0 h.0 h.1 h.2 h.3)) w.2,
      )
    where
      alarmed : (u c : ℕ) (way : Way) → stage K.cells u
          ≡ waits c way Rattle.tj_events.specs.CoreState.alarmed → HasAlarmed shown u
      alarmed u c way e = let p = rests.alarm_phase r id at may u c way e in
          let l = rests.waiter_there r id at may u (cell c) way walk.Alarmed p in
          (cell_of s.words u, cell c, way, is_shown u l, p)

  -- each task that has alarmed is on a standing cycle
  pub alarms_on_cycles : AlarmsAreOnCycles → AreAlarmsOnCycles shown
  alarms_on_cycles law t h =
      let w = law K t r.law.facts (
        h.1.0,
        h.2,
        rests.alarm_shown r id at may t h.1 h.2 (sym (phase_shown t h.0 h.3) ∙ h.4),
      ) in
      (w.0, cycle_list_moves (core.Leads K.cells) (Leads shown) (λ a b z k i. leads_words a b k) nat_eq (t ∷ w.0) w.1)

  -- who the cells are
  pub named : AreNamed shown r.law.born
  named = record {
    all = r.law.births.all ∙ sym are.all;
    root = r.law.births.root;
    root_words = λ x e. (
      ap (λ (z : RestCell). z.parent.0) (shown_is 0 x e)
          ∙ ap (λ z. (maker_in z).0) (tree 0 (inside_shown 0 x e) r.law.births.root once.Parent tt),
      ap (λ (z : RestCell). z.kid) (shown_is 0 x e)
          ∙ (tree 0 (inside_shown 0 x e) r.law.births.root once.Kid tt ∙ r.law.births.root_number),
    );
    named = λ c x y nz e f.
        let l = inside_shown c x e in
        let maker : x.parent.0 ≡ r.law.maker c = ap (λ (z : RestCell). z.parent.0) (shown_is c x e)
        ∙ parent_shown c (r.law.maker c) _ nz (tree c l f once.Parent tt) in
        let kid : x.kid ≡ r.law.number c = ap (λ (z : RestCell). z.kid) (shown_is c x e) ∙ tree c l f once.Kid tt in
        let b = r.law.births.named c y f nz in
        let before : r.law.maker c < c = subst (λ k. k < c)
        (ap (λ (z : CellState). z.maker)
        (cell_there r.law.born r.law.maker (parts_of key.cells
        (rests.x r id at may)) c l)) (r.law.facts.makers.makers_before c l nz) in (
          subst (λ k. k < c) (sym maker) before,
          (b.0, subst (λ k. IsCell r.law.born k b.0) (sym maker) b.1, b.2 ∙ ap (child b.0.name) (sym kid)),
        );
    sorts = λ c x y e f. r.law.births.sorts c y f
        ∙ (ap (λ o. sort_shown o (cell_of s.words c).phase) (rests.no_hand r id at may c)
        ∙ ap phase_sort (sym (phase_shown c x e)));
  }
    where
      tree : (c : ℕ) → c < n → {y : Reference} → IsCell r.law.born c y
          → (f : Once) → IsOfTree f
          → word s.words (once_at c f) ≡ tree_word r.law.maker r.law.number r.law.forks
          y.sort c f
      tree c l {y} e f t = r.law.tree_words.written c y f (rests.there r id at may c l) e t
