-- A table whose last seat has come back: no other seat is in use, no task is held, ready or live, no cell is in hand,
-- and nothing has become of what a task waits for.
use Rattle.tj_words.proofs.Prelude.{Bool, CellId, CellState, Contents, CoreState, Custody, Each, Hand, IsHeld, IsKept}
use Rattle.tj_words.proofs.Prelude.{IsSpent, IsStill, IsThere, IsWithinLot, Key, List, MayRest, None, Option, Phase}
use Rattle.tj_words.proofs.Prelude.{Program, Rec, Rule, Some, State, Tag, View, Walk, Walker, Way, [], alarmed, ap}
use Rattle.tj_words.proofs.Prelude.{arith, at_map, cell, contents_of, core_shown, dec_le, dite, drawn_in, get_elem?}
use Rattle.tj_words.proofs.Prelude.{hand_of, held_in, held_of, home_of, live_part, live_tasks, owner, phase_sort, refl}
use Rattle.tj_words.proofs.Prelude.{some, some-injective, some-ne-none, sort_shown, stage, stage_there, subst, suc, sym}
use Rattle.tj_words.proofs.Prelude.{tag_in, total, wait_in, wait_of, waits, walks, zero, ℕ, ℕ_discrete, ⊎_elim, ◌+◌}
use Rattle.tj_words.proofs.Prelude.{◌<◌, ◌∙◌, ◌∷◌, ◌≡◌, ◌≢◌, ◌≤◌}
use Rattle.tj_words.proofs.Lemmas.{cell_blank, hand_found, none_some, owner_out, parts_of, stage_out, wait_shown}
use Rattle.tj_base.proofs.Ways.{reach_front}
use Rattle.tj_events.specs.WaitGraph.{Leads, Reaches}
use Rattle.tj_words.proofs.Waiters.LiveSteps.{none_left_waiting}
use Rattle.tj_base.specs.declared.cell.Sort.TheVariants as sort
use Rattle.tj_words.specs.declared.phase.Phase.TheVariants as phase
use Rattle.tj_words.specs.declared.phase.Walk.TheVariants as walk
pub use Rattle.tj_words.proofs.Stores.SeatLists.{map_back, one_part}

-- two of the numbers are no more than the sum
pub two_parts : (l : List ℕ) (i j a b : ℕ) → j ≢ i → get_elem? l i ≡ some a → get_elem? l j ≡ some b → a + b ≤ total l
two_parts [] i j a b n e f = absurd (some-ne-none a (sym e))
two_parts (x ∷ xs) zero zero a b n e f = absurd (n refl)
two_parts (x ∷ xs) zero (suc j) a b n e f = let q : x ≡ a = some-injective x a e in let p = one_part xs j b f in
    omega arith
two_parts (x ∷ xs) (suc i) zero a b n e f = let q : x ≡ b = some-injective x b f in let p = one_part xs i a e in
    omega arith
two_parts (x ∷ xs) (suc i) (suc j) a b n e f = let p = two_parts xs i j a b (λ q. n (ap suc q)) e f in omega arith

-- where no task is live, each of them isn't
none_live : (phases : ℕ → Phase) (n t : ℕ) → t < n → live_tasks phases n ≡ 0 → live_part (phases t) ≡ 0
none_live phases zero t l e = absurd (omega arith)
none_live phases (suc n) t l e = dite (ℕ_discrete t n)
    (λ q. ap (λ k. live_part (phases k)) q ∙ (let z : live_part (phases n) ≡ 0 = omega arith in z))
    (λ q. none_live phases n t (omega arith) (omega arith))

module _ {B : Type 0} where
  pub no_lot_no_task : (v : View B) → IsWithinLot v → v.lot ≡ 0 → v.tasks ≡ []
  no_lot_no_task v l z = ⊎_elim (λ (q : IsSpent v). q.1) (λ q. absurd (omega arith)) l.least

-- what a still task shows
module _ {B : Type 0} (t : ℕ) where
  -- one that has alarmed shows it
  alarm_out : (o : Option ℕ) (p : Phase) (c : CellId) (way : Way) (held : Option (Custody B)) (home : Option (Rec B))
      → o ≢ None → p ≡ phase.Waiting c way walk.Alarmed
      → stage_there t (phase_sort p) o p held home ≡ waits c.0 way alarmed
  alarm_out o p c way held home n e = grind arith

  -- and what shows it has alarmed
  alarm_back : (o : Option ℕ) (p : Phase) (c : ℕ) (way : Way) (held : Option (Custody B)) (home : Option (Rec B))
      → IsStill p → stage_there t (phase_sort p) o p held home ≡ waits c way alarmed
      → p ≡ phase.Waiting (cell c) way walk.Alarmed
  alarm_back o p c way held home s e = grind arith

  -- no still task shows a walk
  walk_back : (o : Option ℕ) (p : Phase) (c : ℕ) (way : Way) (w : Walker) (held : Option (Custody B))
      (home : Option (Rec B)) → IsStill p → stage_there t (phase_sort p) o p held home ≡ waits c way (walks w) → ⊥
  walk_back o p c way w held home s e = grind arith

-- one wait for each phase
pub one_wait : {c d : CellId} {y z : Way} {w u : Walk} {p : Phase} → p ≡ phase.Waiting c y w
    → p ≡ phase.Waiting d z u → c.0 ≡ d.0
one_wait e f = let q = sym e ∙ f in cc

-- a phase that names a cell waits for it
waits_back : (p : Phase) (c : ℕ) → wait_in p ≡ Some c
    → (d : CellId) × (way : Way) × (w : Walk) × (p ≡ phase.Waiting d way w) × (d.0 ≡ c)
waits_back p c e = grind arith

module _ {B : Type 0} {program : Bool → B → Program B} {key : Key B} {s : State (Option (Rec B)) (View B)}
    (r : Rule program key s) (id : ℕ) {v : View B} (at : get_elem? s.views id ≡ some v) (may : MayRest v) where
  abbrev pub P : Program B
  P = program key.strict key.root.value

  abbrev pub x : Contents B
  x = contents_of s

  abbrev pub n : ℕ
  n = drawn_in key.cells x

  abbrev pub K : CoreState
  K = core_shown key.cells r.law.born r.law.maker x

  pub few : n ≤ key.cells
  few = omega arith

  pub live_zero : x.words.live ≡ 0
  live_zero = r.law.live_count.stays_at_rest id v.rested (at_map (λ (u : View B). u.rested) s.views id v at) may.rested

  no_tasks : (j : ℕ) (u : View B) → get_elem? s.views j ≡ some u → u.tasks ≡ []
  no_tasks j u e = dite (ℕ_discrete j id)
      (λ q. ap (λ (w : View B). w.tasks)
      (some-injective u v (sym e ∙ (ap (λ k. get_elem? s.views k) q ∙ at))) ∙ may.tasks)
      (λ q. let l = two_parts x.seats.lots id j v.lot u.lot q (at_map (λ (w : View B). w.lot) s.views id v at)
      (at_map (λ (w : View B). w.lot) s.views j u e) in let a = r.law.lots.all in let m = may.alone in
      no_lot_no_task u (r.seats j u e).within_lot (omega arith))

  -- no seat holds a task
  pub idle : Each (λ j ks. ks ≡ []) x.seats.tasks
  idle j ks e = let w = map_back (λ (u : View B). u.tasks) s.views j ks e in sym w.2 ∙ no_tasks j w.0 w.1

  pub not_held : (t : ℕ) → ¬ IsHeld (r.law.custody.holder t)
  not_held t h = let z = r.law.custody.holders t h.0 h.1 in
      none_some None z.2.0 refl (sym (ap (λ l. held_in l t) (idle h.0 z.0 z.1)) ∙ z.2.1)

  pub free : (t : ℕ) → r.law.custody.holder t ≡ None
  free t = by (r.law.custody.holder t) refl where
    by : (o : Option ℕ) → r.law.custody.holder t ≡ o → o ≡ None
    by None e = refl
    by (Some j) e = absurd (not_held t (j, e))

  -- no cell is in hand
  pub no_hand : (c : ℕ) → hand_of x c ≡ None
  no_hand c = by (hand_of x c) refl where
    by : (o : Option Hand) → hand_of x c ≡ o → o ≡ None
    by None e = refl
    by (Some h) e = let f = hand_found x.seats.hands c h e in
        let m = (r.law.hands.each f.0.0 h f.0.1).maker_held in
        none_some None m.2.0 refl
        (sym (ap (λ l. held_in l h.maker) (idle f.0.0 m.0 m.1)) ∙ m.2.1)

  pub there : (c : ℕ) → c < n → IsThere n (hand_of x) c
  there c l = (l, no_hand c)

  -- no task is live
  pub not_live : (t : ℕ) → t < n → live_part (x.words.phase t) ≡ 0
  not_live t l = let c = r.law.live_count.counted in let z = live_zero in let f = few in
      none_live x.words.phase key.cells t (omega arith) (omega arith)

  pub kept : (t : ℕ) → t < n → (p : Phase) → x.words.phase t ≡ p → phase_sort p ≡ sort.Task
      → IsKept p (r.law.custody.holder t) (home_of x t)
  kept t l p e is = subst (λ z. IsKept z (r.law.custody.holder t) (home_of x t)) e
      (r.law.custody.tasks_kept t l
      (ap (λ (o : Option Hand). sort_shown o (x.words.phase t)) (no_hand t)
      ∙ (ap phase_sort e ∙ is)))

  -- each task has ended, or waits and has parked or alarmed
  pub still : (t : ℕ) → t < n → IsStill (x.words.phase t)
  still t l = by (x.words.phase t) refl where
    by : (p : Phase) → x.words.phase t ≡ p → IsStill p
    by phase.Unborn e = absurd (not_held t (kept t l phase.Unborn e refl))
    by phase.Ready e = let z : live_part phase.Ready ≡ 0 = ap live_part (sym e) ∙ not_live t l in absurd (omega arith)
    by phase.Running e = absurd (not_held t (kept t l phase.Running e refl))
    by (phase.Waiting c way walk.Walking) e = absurd (not_held t (kept t l (phase.Waiting c way walk.Walking) e refl))
    by p e = tt

  -- a task that waits is there
  pub waiter_there : (t : ℕ) (c : CellId) (way : Way) (w : Walk) → x.words.phase t ≡ phase.Waiting c way w → t < n
  waiter_there t c way w e = dite (dec_le n t)
      (λ (l : n ≤ t). let q : phase.Unborn ≡ phase.Waiting c way w = sym (r.law.undrawn t l) ∙ e in absurd (cc))
      (λ l. omega arith)

  -- the stage that a task shows
  pub stage_is : (t : ℕ) → t < n → stage K.cells t
      ≡ stage_there t (phase_sort (x.words.phase t)) (x.words.own t) (x.words.phase t) (held_of x t) (home_of x t)
  stage_is t l = stage_out r.law.born r.law.maker (parts_of key.cells x) t l (no_hand t)

  pub alarm_shown : (t : ℕ) (c : CellId) (way : Way) → x.words.phase t ≡ phase.Waiting c way walk.Alarmed
      → stage K.cells t ≡ waits c.0 way alarmed
  alarm_shown t c way e = stage_is t (waiter_there t c way walk.Alarmed e)
      ∙ alarm_out t (x.words.own t) (x.words.phase t) c way (held_of x t) (home_of x t)
      (r.law.waiters_own t c way walk.Alarmed e) e

  waits_drawn : (t c : ℕ) → wait_of (stage K.cells t) ≡ Some c → t < n
  waits_drawn t c e = dite (dec_le n t)
      (λ (l : n ≤ t). let q : None ≡ Some c = sym (ap (λ (z : CellState). wait_of z.stage)
      (cell_blank r.law.born r.law.maker (parts_of key.cells x) t l)) ∙ e in absurd (cc))
      (λ l. omega arith)

  pub alarm_phase : (t c : ℕ) (way : Way) → stage K.cells t ≡ waits c way alarmed
      → x.words.phase t ≡ phase.Waiting (cell c) way walk.Alarmed
  alarm_phase t c way e = let l = waits_drawn t c (ap wait_of e) in
      alarm_back t (x.words.own t) (x.words.phase t) c way (held_of x t) (home_of x t) (still t l)
      (sym (stage_is t l) ∙ e)

  pub no_walk : (t c : ℕ) (way : Way) (w : Walker) → stage K.cells t ≡ waits c way (walks w) → ⊥
  no_walk t c way w e = let l = waits_drawn t c (ap wait_of e) in
      walk_back t (x.words.own t) (x.words.phase t) c way w (held_of x t) (home_of x t) (still t l)
      (sym (stage_is t l) ∙ e)

  -- the wait graph that is shown is that of the words
  pub leads_shown : (t u : ℕ) (c : CellId) (way : Way) (w : Walk) → x.words.phase t ≡ phase.Waiting c way w
      → x.words.own c.0 ≡ Some u → Leads K.cells t u
  leads_shown t u c way w e o = (
    c.0,
    wait_shown r.law t (there t (waiter_there t c way w e)) ∙ ap wait_in e,
    owner_out r.law.born r.law.maker (parts_of key.cells x) c.0 (r.law.names.waits t c way w e).0 (no_hand c.0) ∙ o,
  )

  pub leads_back : (t u : ℕ) → Leads K.cells t u
      → (c : CellId) × (way : Way) × (w : Walk) × (x.words.phase t ≡ phase.Waiting c way w) × (x.words.own c.0 ≡ Some u)
  leads_back t u h =
      let l = waits_drawn t h.0 h.1 in
      let y = waits_back (x.words.phase t) h.0 (sym (wait_shown r.law t (there t l)) ∙ h.1) in
      let o = owner_out r.law.born r.law.maker (parts_of key.cells x) y.0.0 (r.law.names.waits t y.0 y.1 y.2 y.3).0
      (no_hand y.0.0) in
      (y.0, y.1, y.2, y.3, sym o ∙ (ap (λ k. owner K.cells k) y.4 ∙ h.2))

  -- nothing has become of a cell that a task waits for
  pub no_value : (t : ℕ) (c : CellId) (way : Way) (w : Walk) → x.words.phase t ≡ phase.Waiting c way w
      → tag_in x c.0 ≡ 0
  no_value t c way walk.Walking e = let z : live_part (phase.Waiting c way walk.Walking) ≡ 0 =
      ap live_part (sym e) ∙ not_live t (waiter_there t c way walk.Walking e) in absurd (omega arith)
  no_value t c way walk.Parked e = none_left_waiting program key s r id v at may.rested t c.0 (way, e)
  no_value t c way walk.Alarmed e = dite (ℕ_discrete (tag_in x c.0) 0) (λ q. q)
      (λ q. let closed = r.law.once_words.valued c.0 Tag
      (λ h. h) q in
      let cycle = r.law.facts.alarm t c.0 way (alarm_shown t c way e) in
      let first = first_of t cycle.0 cycle.1.some cycle.1.round in
      let h = leads_back t first.0 first.1 in
      let same = one_wait h.3 e in
      none_some (x.words.own c.0) first.0 closed.1 (ap (λ k. x.words.own k) (sym same) ∙ h.4))
    where
      first_of : (a m : ℕ) → 0 < m → Reaches K.cells a m a
          → (b : ℕ) × Leads K.cells a b
      first_of a zero l h = absurd (omega arith)
      first_of a (suc m) l h = let z = reach_front (Leads K.cells) a m a h in (z.0, z.1)
