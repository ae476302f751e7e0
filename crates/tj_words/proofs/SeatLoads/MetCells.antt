-- A load of OWN or PHASE that is no event: its seat learns which cells are out of their makers' hands.
use Rattle.tj_words.proofs.Prelude.{Allows, Begins, Bool, Contents, IsBegun, IsTaskIn, IsThere}
use Rattle.tj_words.proofs.Prelude.{Key, Law, Meets, None, Option, Phase, Program, Rec, Rule, SeatMe}
use Rattle.tj_words.proofs.Prelude.{SeesOwner, seat_part, set, some, Some, State, View, [], ap, arith}
use Rattle.tj_words.proofs.Prelude.{contents_of, drawn_in, get_elem?, hand_of, inl, inr, is_task_sort, met}
use Rattle.tj_words.proofs.Prelude.{none, own_at, owner_in, owner_load, phase_at, phase_in, phase_sort, refl}
use Rattle.tj_words.proofs.Prelude.{reference_of, stage, step, subst, suc, sym, word, ℕ, ◌<◌, ◌∙◌, ◌∷◌, ◌≡◌, ◌⊎◌}
use Rattle.tj_base.specs.declared.cell.Sort.{Sort}
use Rattle.tj_events.specs.CoreState.{CellStage, Lives, is_task}
use Rattle.tj_words.specs.Calls.ParkSteps.{loaded_phase, rest_loaded}
use Rattle.tj_words.specs.SeatViews.Views.{loaded_plain}
use Rattle.tj_words.proofs.Lemmas.{Learns, are_cells, back, begun_there, cell_born, knowing_of, knows_so, load_allowed}
use Rattle.tj_words.proofs.Lemmas.{core_of, owner_out, parts_of, sort_is}
use Rattle.tj_words.proofs.Cells.CellFacts.{task_shown}
use Rattle.tj_words.proofs.SeatLoads.KnowLoads.{AllOf, all_cons, born_at, learned_so, none_of, one_of}
use Rattle.tj_words.proofs.Stores.SeatContents.{set_seats}
use Rattle.tj_words.proofs.SeatLoads.Learning.{IsSo, seats_learn}
use Rattle.tj_base.specs.declared.cell.Sort.TheVariants as sort
use Rattle.tj_words.specs.declared.phase.Phase.TheVariants as phase
use Rattle.tj_words.specs.declared.view.Noted.TheVariants as note

-- a task has begun or hasn't
pub begun_or : (p : Phase) → IsBegun p ⊎ (¬ IsBegun p)
begun_or phase.Unborn = inr (λ h. h)
begun_or phase.Ready = inl tt
begun_or phase.Running = inl tt
begun_or phase.Ended = inl tt
begun_or phase.Promise = inr (λ h. h)
begun_or (phase.Waiting c way walk) = inl tt

-- a phase of a task that has begun is a task's
begun_task : (p : Phase) → IsBegun p → phase_sort p ≡ sort.Task
begun_task phase.Unborn h = absurd h
begun_task phase.Ready h = refl
begun_task phase.Running h = refl
begun_task phase.Ended h = refl
begun_task phase.Promise h = absurd h
begun_task (phase.Waiting c way walk) h = refl

-- what lives is a task
lives_task : (st : CellStage) (o : Sort) → Lives st → is_task st ≡ is_task_sort o → o ≡ sort.Task
lives_task st o l e = grind arith

module _ {B : Type 0} {program : Program B} {cells : ℕ} {x : Contents B} (law : Law program cells x) where
  -- the owner of a cell is a task
  owner_task : (c u : ℕ) → x.words.own c ≡ Some u → IsTaskIn law.born u
  owner_task c u e = let o = law.names.owned c u e in let born = cell_born law u o.1.0 in (
    reference_of law.born u,
    born,
    lives_task (stage (core_of law).cells u) (reference_of law.born u).sort
        (law.facts.owners.owners_live c u (owner_out law.born law.maker (parts_of cells x) c o.0.0 o.0.1 ∙ e))
        (task_shown law u o.1),
  )

  -- a task that has begun
  begun_born : (t : ℕ) → IsBegun (x.words.phase t) → IsTaskIn law.born t
  begun_born t b = let there = begun_there law t b in (
    reference_of law.born t,
    cell_born law t there.0,
    sort_is law t there ∙ begun_task (x.words.phase t) b,
  )

module _ {B : Type 0} {program : Bool → B → Program B} {key : Key B} {s : State (Option (Rec B)) (View B)}
    (r : Rule program key s) (id : ℕ) (v : View B) (at : get_elem? s.views id ≡ some v) where
  abbrev There : ℕ → Type 0
  There = IsThere (drawn_in key.cells (contents_of s)) (hand_of (contents_of s))

  -- what the seat knows is so where it knows these cells too
  met_so : (there : AllOf There)
      → IsSo (program key.strict key.root.value) key.cells (contents_of s) r.law
      (knowing_of (met there.0 r.law.born v))
  met_so there = learned_so r.law (knowing_of v) (knows_so program key s r id v at) there none_of none_of none_of

  -- after a load that leaves the names that the seat knows, the cells are known, and one of them is a task
  meets : (there : AllOf There) (t : ℕ) (w : View B) → IsTaskIn r.law.born t → v.born ≡ w.born
      → Meets key.cells there.0 t w (met there.0 r.law.born w)
  meets there t w task same = record {
    born = r.law.born;
    begins = subst (λ l. Begins l r.law.born) same (knows_so program key s r id v at).begins;
    all = are_cells r.law;
    named = λ c i. born_at (program key.strict key.root.value) key.cells (contents_of s) r.law c (there.1 c i).0;
    task = task;
    view = refl;
  }

module _ {B : Type 0} (program : Bool → B → Program B) (key : Key B) where
  -- the load of OWN
  pub owner_allowed : (slots id : ℕ) (m : SeatMe B) (cells named c i : ℕ) → cells ≡ key.cells → named ≡ c
      → c < key.cells → i ≡ own_at c
      → Allows (Rule program key) slots id m i (λ n. n) (owner_load cells named (step slots i 0 0 none) m)
  owner_allowed slots id m cells named c i e is l at = back (λ j. Allows (Rule program key) slots id m (at j) (λ n. n)
      (owner_load (e j) (is j) (step slots (at j) 0 0 none) m))
      (load_allowed program key slots id m (own_at c) (owner_load key.cells c (step slots (own_at c) 0 0 none) m)
      (λ s r k. by s r k (owner_in (word s.words (own_at c))) refl))
    where
      by : (s : State (Option (Rec B)) (View B)) (r : Rule program key s) → get_elem? s.views id ≡ some m.0
          → (o : Option ℕ) → owner_in (word s.words (own_at c)) ≡ o
          → Learns program key s r m (owner_load key.cells c (step slots (own_at c) 0 0 none) m)
          (word s.words (own_at c))
      by s r k None q = (
        loaded_plain (note.Owner c) 0 m.0,
        (refl, refl, λ y d. refl),
        knows_so program key s r id m.0 k,
        (
          refl,
          subst (λ o. SeesOwner key.cells c o m.0 (loaded_plain (note.Owner c) 0 m.0)) (sym q) refl,
          (r.codes.each c l).own,
          refl,
        ),
      )
      by s r k (Some u) q = let o = r.law.names.owned c u q in
          let there : AllOf (IsThere (drawn_in key.cells (contents_of s)) (hand_of (contents_of s)))
          = (c ∷ u ∷ [], all_cons _ c (u ∷ []) o.0 (one_of u o.1).1) in
          let w = met there.0 r.law.born (loaded_plain (note.Owner c) (suc u) m.0) in (
            w,
            (refl, refl, λ y d. refl),
            met_so r id m.0 k there,
            (
              refl,
              subst (λ o. SeesOwner key.cells c o m.0 w) (sym q)
                  (meets r id m.0 k there u (loaded_plain (note.Owner c) (suc u) m.0) (owner_task r.law c u q) refl),
              (r.codes.each c l).own,
              refl,
            ),
          )

  -- the load of PHASE of a task that has begun, by a seat without a rest of a chain
  pub phase_learned : (s : State (Option (Rec B)) (View B)) (r : Rule program key s) (id : ℕ) (m : SeatMe B) (t : ℕ)
      (then : ℕ → SeatMe B → Type 0) → get_elem? s.views id ≡ some m.0 → m.0.rest ≡ None
      → (b : IsBegun (phase_in (word s.words (phase_at t))))
      → ((w : View B) → Meets key.cells (t ∷ []) t (loaded_phase t (phase_in (word s.words (phase_at t))) m.0) w
      → then (word s.words (phase_at t)) (w, m.1))
      → Learns program key s r m then (word s.words (phase_at t))
  phase_learned s r id m t then k free b h =
      let p = phase_in (word s.words (phase_at t)) in
      let there = one_of t (begun_there r.law t b) in
      let w = met there.0 r.law.born (loaded_phase t p m.0) in
      let e : rest_loaded t p m.0.rest ≡ m.0.rest = ap (rest_loaded t p) free ∙ sym free in (
        w,
        (
          (λ i. record (seat_part m.0) { born = w.born; known = w.known; rest = e i }),
          refl,
          (λ y d i. record (seats_learn d (knowing_of w) y (set_seats y d m.0)) { rests = set y.rests d (e i) }),
        ),
        met_so r id m.0 k there,
        h w (meets r id m.0 k there t (loaded_phase t p m.0) (begun_born r.law t b) refl),
      )
