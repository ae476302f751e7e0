-- The live count is kept by the changes of PHASE and by the steps on LIVE; and where a seat has loaded LIVE as 0,
-- nobody waits for a cell of which something has become.
use Rattle.tj_words.proofs.Prelude.{Any, Backing, Bool, Contents, Custodies, Custody, Does, DoesRun, DoesWalk, Due}
use Rattle.tj_words.proofs.Prelude.{Each, Hand, HasAlarmed, HasWakeToCome, Holds, IsBacked, IsLively, IsParkedOn, Key}
use Rattle.tj_words.proofs.Prelude.{List, LiveCount, None, Option, Phase, Program, Rec, Rest, Rule, Shut, Slots, Some}
use Rattle.tj_words.proofs.Prelude.{State, View, [], ap, arith, at_map, contents_of, dec_le, dite, get_elem?, held_in}
use Rattle.tj_words.proofs.Prelude.{inl, inr, live_part, live_tasks, phase_of, put, refl, set, some, subst, suc, sym}
use Rattle.tj_words.proofs.Prelude.{true, zero, ℕ, ℕ_discrete, ⊎_elim, ◌+◌, ◌-◌, ◌<◌, ◌∙◌, ◌≡◌, ◌≢◌, ◌≤◌, ◌⊎◌}
use Rattle.tj_words.proofs.Lemmas.{no_some, none_or, put_else, put_here, total_set}
use Rattle.tj_words.proofs.Waiters.ChainFacts.{not_empty}
use Rattle.tj_words.proofs.Waiters.ChainsSaid.{shut_or}
use Rattle.tj_words.proofs.Stores.SeatLists.{map_back, one_part}
use Rattle.tj_words.specs.declared.offsets.Once.TheVariants as once

-- how many live tasks there are, where the phases are the same, and where one changes
live_same : (phase phase' : ℕ → Phase) (n : ℕ) → ((u : ℕ) → u < n → phase' u ≡ phase u)
    → live_tasks phase' n ≡ live_tasks phase n
live_same phase phase' zero s = refl
live_same phase phase' (suc n) s =
    let a : live_part (phase' n) ≡ live_part (phase n) = ap live_part (s n (omega arith)) in
    let b = live_same phase phase' n (λ u h. s u (omega arith)) in omega arith

live_set : (phase phase' : ℕ → Phase) (t n : ℕ) → ((u : ℕ) → u ≢ t → phase' u ≡ phase u) → t < n
    → live_tasks phase' n + live_part (phase t) ≡ live_tasks phase n + live_part (phase' t)
live_set phase phase' t zero s h = absurd (omega arith)
live_set phase phase' t (suc n) s h = let b = live_set phase phase' t n s in
    let c = live_same phase phase' n in grind arith

live_some : (phase : ℕ → Phase) (t n : ℕ) → t < n → live_part (phase t) ≤ live_tasks phase n
live_some phase t zero h = absurd (omega arith)
live_some phase t (suc n) h = let b = live_some phase t n in grind arith

module _ {cells live : ℕ} {phase : ℕ → Phase} {tokens : List ℕ} {rested : List Bool}
    (c : LiveCount cells live phase tokens rested) where
  -- any change of the phase of a task, whose tokens make it even
  pub count_turned : (t : ℕ) (w : Phase) (id k k' : ℕ) → t < cells → get_elem? tokens id ≡ some k
      → live_part w + k' ≡ live_part (phase t) + k
      → LiveCount cells live (put phase t w) (set tokens id k') rested
  count_turned t w id k k' small at even = let a = c.counted in let s = total_set tokens id k k' at in
      let p = live_set phase (put phase t w) t cells (λ u n. put_else phase t u w n) small in
      let h = ap live_part (put_here phase t t w refl) in
      record { counted = (omega arith); stays_at_rest = c.stays_at_rest }

  -- LIVE up: a token more, while something is live
  pub count_up : (id k : ℕ) → get_elem? tokens id ≡ some k → 0 < live
      → LiveCount cells (suc live) phase (set tokens id (suc k)) rested
  count_up id k at some_live = let a = c.counted in let s = total_set tokens id k (suc k) at in record {
    counted = (omega arith);
    stays_at_rest = λ j b e q. let z = c.stays_at_rest j b e q in absurd (omega arith);
  }

  -- LIVE down: a token less
  pub count_down : (id k : ℕ) → get_elem? tokens id ≡ some (suc k)
      → (0 < live) × LiveCount cells (live - 1) phase (set tokens id k) rested
  count_down id k at = let a = c.counted in let s = total_set tokens id (suc k) k at in
      let t = one_part tokens id (suc k) at in (
        (omega arith),
        record {
          counted = (omega arith);
          stays_at_rest = λ j b e q. let z = c.stays_at_rest j b e q in absurd (omega arith);
        },
      )

-- what a running or walking task counts
live_does : (d : Does) → DoesRun d ⊎ DoesWalk d → live_part (phase_of d) ≡ 1
live_does d h = grind arith

module _ {B : Type 0} where
  -- what a seat holds stands in these phases
  abbrev pub HoldsInPhase : ℕ → (ℕ → Phase) → List (Custody B) → Type 0
  HoldsInPhase cells phase ks = (t : ℕ) (k : Custody B) → held_in ks t ≡ Some k
      → (t < cells) × (phase t ≡ phase_of k.does)

  pub held_in_phase : {cells drawn : ℕ} {hand : ℕ → Option Hand} {phase : ℕ → Phase} {slots : Slots B}
      {tasks : List (List (Custody B))} → Custodies cells drawn hand phase slots tasks → drawn ≤ cells
      → Each (λ j ks. HoldsInPhase cells phase ks) tasks
  held_in_phase {cells} {drawn} c few j ks at t k e = let h = c.held j ks at t k e in (
    dite (dec_le drawn t) (λ (l : drawn ≤ t). no_some (c.undrawn_free t l) h.mine) (λ l. (omega arith)),
    h.does,
  )

  -- a seat that has a token, or a task that runs or walks, shows that LIVE isn't 0
  pub lively_live : {cells live : ℕ} {phase : ℕ → Phase} {tokens : List ℕ} {rested : List Bool}
      → LiveCount cells live phase tokens rested → (id : ℕ) (v : View B) → get_elem? tokens id ≡ some v.tokens
      → HoldsInPhase cells phase v.tasks → IsLively v → 0 < live
  lively_live {cells} {live} {phase} {tokens} c id v at h l = let a = c.counted in ⊎_elim
      (λ (t : 0 < v.tokens). let s = one_part tokens id v.tokens at in (omega arith))
      (λ (w : Holds DoesRun v ⊎ Holds DoesWalk v). ⊎_elim
      (λ (r : Holds DoesRun v). let f = h r.0 r.1 r.2 in let s = live_some phase r.0 cells f.0 in
      let e : live_part (phase r.0) ≡ 1 = ap live_part f.1 ∙ live_does r.1.does (inl r.3) in (omega arith))
      (λ (r : Holds DoesWalk v). let f = h r.0 r.1 r.2 in let s = live_some phase r.0 cells f.0 in
      let e : live_part (phase r.0) ≡ 1 = ap live_part f.1 ∙ live_does r.1.does (inr r.3) in (omega arith)) w) l

  pub backed_lively : (v : View B) → IsBacked v → IsLively v
  backed_lively v b = ⊎_elim (λ (t : 0 < v.tokens). inl t) (λ (r : Holds DoesRun v). inr (inl r)) b

  -- Backing of a view that has a token
  pub backing_token : (v : View B) → 0 < v.tokens → Backing v
  backing_token v h = record { wakes = λ _. inl h; tags = λ _. inl h; alarms = λ _. h }

  -- of one that holds a running task
  pub backing_running : (v : View B) → Holds DoesRun v → (Holds HasAlarmed v → 0 < v.tokens) → Backing v
  backing_running v r a = record { wakes = λ _. inr r; tags = λ _. inr (inl r); alarms = a }

  -- of one that holds a walking task
  pub backing_walking : (v : View B) → Holds DoesWalk v → (HasWakeToCome v → IsBacked v)
      → (Holds HasAlarmed v → 0 < v.tokens) → Backing v
  backing_walking v r b a = record { wakes = b; tags = λ _. inr (inr r); alarms = a }

  -- of one that has no wake and no TAG to come
  pub backing_idle : (v : View B) → v.pushes ≡ [] → v.shuts ≡ [] → v.rest ≡ None
      → ¬ Any (λ (d : Due). d.word ≡ once.Tag) v.dues → (Holds HasAlarmed v → 0 < v.tokens) → Backing v
  backing_idle v p s r d a = record {
    wakes = λ h. absurd (⊎_elim (λ (n : v.pushes ≢ []). n p)
        (λ (h' : (v.shuts ≢ []) ⊎ ((x : Rest) × (v.rest ≡ Some x))).
        ⊎_elim (λ (n : v.shuts ≢ []). n s) (λ (x : (x : Rest) × (v.rest ≡ Some x)). no_some r x.1) h') h);
    tags = λ t. absurd (d t);
    alarms = a;
  }

  -- what is so of alarmed tasks, where one task's entry changes to one that hasn't alarmed
  pub alarms_else : (v w : View B) (t : ℕ) → w.tokens ≡ v.tokens
      → ((u : ℕ) → u ≢ t → held_in w.tasks u ≡ held_in v.tasks u)
      → ((k : Custody B) → held_in w.tasks t ≡ Some k → ¬ HasAlarmed k.does) → Backing v → Holds HasAlarmed w
      → 0 < w.tokens
  alarms_else v w t e else here b a = dite (ℕ_discrete a.0 t)
      (λ q. absurd (here a.1 (subst (λ u. held_in w.tasks u ≡ Some a.1) q a.2) a.3))
      (λ n. subst (λ m. 0 < m) (sym e) (b.alarms (a.0, a.1, sym (else a.0 n) ∙ a.2, a.3)))

module _ {B : Type 0} (program : Bool → B → Program B) (key : Key B) (s : State (Option (Rec B)) (View B))
    (r : Rule program key s) where
  abbrev x : Contents B
  x = contents_of s

  -- LIVE isn't 0 while a seat has a wake to come
  wake_live : (j : ℕ) (v : View B) → get_elem? s.views j ≡ some v → HasWakeToCome v → 0 < x.words.live
  wake_live j v at h = lively_live r.law.live_count j v (at_map (λ (u : View B). u.tokens) s.views j v at)
      (held_in_phase r.law.custody (omega arith) j v.tasks (at_map (λ (u : View B). u.tasks) s.views j v at))
      (backed_lively v ((r.seats j v at).backing.wakes h))

  -- where a seat has loaded LIVE as 0, no task is left that is parked on a cell of which something has become
  pub none_left_waiting : (id : ℕ) (v : View B) → get_elem? s.views id ≡ some v → v.rested ≡ true → (t p : ℕ)
      → IsParkedOn (x.words.phase t) p → x.words.once p once.Tag ≡ 0
  none_left_waiting id v at rested t p waits = let views = s.views in let c = r.law.chains in
      let at_rest : x.words.live ≡ 0
      = r.law.live_count.stays_at_rest id v.rested (at_map (λ (u : View B). u.rested) views id v at) rested in
      let idle : (j : ℕ) (u : View B) → get_elem? views j ≡ some u → ¬ HasWakeToCome u
      = λ j u e h. let q = wake_live j u e h in (omega arith) in
      dite (ℕ_discrete (x.words.once p once.Tag) 0) (λ e. e) (λ n. absurd (⊎_elim
      (λ (s : x.words.head p ≡ Shut). ⊎_elim
      (λ (e : c.pusher t ≡ None). let g = c.taken p s (not_empty (c.line p) t (c.placed p t waits e)) in
      let a = map_back (λ (u : View B). u.rest) views (c.taker p) g.0 g.1 in
      idle (c.taker p) a.0 a.1 (inr (inr (g.2.0, a.2 ∙ g.2.1))))
      (λ (k : (j : ℕ) × (c.pusher t ≡ Some j)). let g = c.pushing t k.0 k.1 in
      let a = map_back (λ (u : View B). u.pushes) views k.0 g.0 g.1 in
      idle k.0 a.0 a.1 (inl (λ z. not_empty g.0 g.2.0 g.2.1 (sym a.2 ∙ z))))
      (none_or (c.pusher t)))
      (λ (s : x.words.head p ≢ Shut). let g = c.due p n s in
      let a = map_back (λ (u : View B). u.shuts) views (c.shutter p) g.0 g.1 in
      idle (c.shutter p) a.0 a.1 (inr (inl (λ z. not_empty g.0 p g.2 (sym a.2 ∙ z)))))
      (shut_or (x.words.head p))))
