-- The loads of a round that a log has show a cycle of waits that stands at the end of the run.
use Rattle.std.proofs.Common.{◌≡◌, ℕ, zero, suc, Bool, List, [], ◌∷◌, Option, Some, refl, sym, ap, ◌∙◌}
use Rattle.std.proofs.Common.{subst, inl, inr, ◌⊎◌, arith, ◌<◌, ◌+◌, ◌*◌, ◌%◌, ◌/◌}
use Rattle.std.specs.Prelude.{Contains}
use Rattle.tj_base.specs.Cycles as graph
use Rattle.tj_base.specs.declared.cell.CellId.{CellId}
use Rattle.tj_body.specs.Programs.{Program}
use Rattle.tj_events.specs.declared.walk.Way.{Way}
use Rattle.tj_events.specs.declared.walk.Way.TheVariants as way
use Rattle.tj_log.specs.declared.entry.Entry.{Entry}
use Rattle.tj_words.specs.CallLaws.CallRuns.{AreAskedMoments, IsAskedStep}
use Rattle.tj_words.specs.CallLaws.LoggedRuns.{AreStepsOf, IsEntry, in_order}
use Rattle.tj_words.specs.CallLaws.RestedRuns.{Ruled, last_moment}
use Rattle.tj_words.specs.LawParts.Contents.{Contents, contents_of}
use Rattle.tj_words.specs.Words.Owners.{owner_in}
use Rattle.tj_words.specs.Words.Phases.{phase_in, phase_word, phase_by}
use Rattle.tj_words.specs.declared.phase.Phase.TheVariants as phase
use Rattle.tj_words.specs.declared.phase.Walk.{Walk}
use Rattle.tj_words.specs.declared.phase.Walk.TheVariants as walk
use Rattle.tj_record.specs.declared.record.Rec.{Rec}
use Rattle.tj_words.specs.declared.view.View.{View}
use Rattle.tj_words.specs.CallLaws.LoggedRuns.{HasRun}
use Rattle.tj_log.specs.Runs.{log_of, took_of}
use Rattle.tj_body.specs.Points.{IsIn}
use Rattle.atomic_table.specs.Table.{State}
use Rattle.tj_words.specs.declared.table.Key.{Key}
use Rattle.tj_runs.specs.Moments.{contents_at}
use Rattle.tj_laws.specs.TableWaits.{CyclesStay, EveryMoment, IsCycle, Leads, Waits}
use Rattle.tj_told.specs.ToldLoads.{ArePartOf, ComesBack, HasRound, Turn, loads_of, owner_load, phase_load}

-- what is a part of the steps of a seat is so too
pub part_of_steps : {B : Type 0} (program : Bool → B → Program B) (key : Key B) (j : ℕ) (es fs : List Entry)
    (u : Ruled program key) (later : List (Ruled program key)) (a : AreAskedMoments program key u later)
    → ArePartOf es fs → AreStepsOf program key j fs u later a → AreStepsOf program key j es u later a
part_of_steps program key j [] fs u later a p s = tt
part_of_steps program key j (e ∷ es) [] u later a p s = absurd p
part_of_steps program key j (e ∷ es) (f ∷ fs) u [] a p s = absurd s
part_of_steps program key j (e ∷ es) (f ∷ fs) u (w ∷ ws) a p (inr s) =
    inr (part_of_steps program key j (e ∷ es) (f ∷ fs) w ws a.1 p s)
part_of_steps program key j (e ∷ es) (f ∷ fs) u (w ∷ ws) a (inl p) (inl s) = inl (
  subst (λ x. IsEntry program key j x u.now w.now a.0) (sym p.0) s.0,
  part_of_steps program key j es fs w ws a.1 p.1 s.1,
)
part_of_steps program key j (e ∷ es) (f ∷ fs) u (w ∷ ws) a (inr p) (inl s) =
    inr (part_of_steps program key j (e ∷ es) fs w ws a.1 p s.1)

-- the word with these low bits and this cell has that phase
by_code : (n : ℕ) (c : CellId) → n < 16 → phase_in (n + 16 * c.0) ≡ phase_by n c
by_code n c l =
    let w = n + 16 * c.0 in
    let low : (n + 16 * c.0) % 16 ≡ n = omega arith in
    let high : (n + 16 * c.0) / 16 ≡ c.0 = omega arith in
    ap (λ m. phase_by m (record { 0 = w / 16 })) low ∙ ap (λ k. phase_by n (record { 0 = k })) high

-- the word of a wait has the wait
pub wait_back : (c : CellId) (to : Way) (w : Walk) → phase_in (phase_word (phase.Waiting c to w)) ≡ phase.Waiting c to w
wait_back c way.Along walk.Walking = by_code 8 c (omega arith)
wait_back c way.Along walk.Parked = by_code 9 c (omega arith)
wait_back c way.Along walk.Alarmed = by_code 10 c (omega arith)
wait_back c way.Other walk.Walking = by_code 12 c (omega arith)
wait_back c way.Other walk.Parked = by_code 13 c (omega arith)
wait_back c way.Other walk.Alarmed = by_code 14 c (omega arith)

module _ {A : Type 0} (R S : A → A → Type 0) where
  -- of one list that is led along by two relations, each node leads to the same next one by both
  along_both : (a : A) (bs : List A) (z : A) → graph.LeadsAlong R a bs z → graph.LeadsAlong S a bs z → (t : A)
      → Contains (a ∷ bs) t → (v : A) × R t v × S t v × ((v ≡ z) ⊎ Contains bs v)
  along_both a [] z l m t (zero, lt, e) =
      (z, subst (λ x. R x z) e l, subst (λ x. S x z) e m, inl refl)
  along_both a [] z l m t (suc k, lt, e) = absurd (omega arith)
  along_both a (b ∷ bs) z l m t (zero, lt, e) =
      (b, subst (λ x. R x b) e l.0, subst (λ x. S x b) e m.0, inr (0, omega arith, refl))
  along_both a (b ∷ bs) z l m t (suc k, lt, e) =
      let r = along_both b bs z l.1 m.1 t (k, omega arith, e) in (r.0, r.1, r.2, more r.0 r.3)
    where
      more : (v : A) → (v ≡ z) ⊎ Contains bs v → (v ≡ z) ⊎ Contains (b ∷ bs) v
      more v (inl q) = inl q
      more v (inr h) = inr (suc h.0, (let x = h.1 in omega arith), h.2)

  -- so it is on a cycle
  pub round_both : (a : A) (bs : List A) → graph.LeadsAlong R a bs a → graph.LeadsAlong S a bs a → (t : A)
      → Contains (a ∷ bs) t → (v : A) × R t v × S t v × Contains (a ∷ bs) v
  round_both a bs l m t h = let r = along_both a bs a l m t h in (r.0, r.1, r.2, more r.0 r.3) where
    more : (v : A) → (v ≡ a) ⊎ Contains bs v → Contains (a ∷ bs) v
    more v (inl q) = (0, omega arith, sym q)
    more v (inr k) = (suc k.0, (let x = k.1 in omega arith), k.2)

-- the turns lead on from t
abbrev AreChained : ℕ → List Turn → Type 0
AreChained t [] = Unit {0}
AreChained t (x ∷ xs) = (x.task ≡ t) × AreChained x.owner xs

-- the task of each turn waits for its cell, whose owner is the turn's
abbrev pub TurnsStand : {B : Type 0} → Contents B → List Turn → Type 0
TurnsStand y [] = Unit {0}
TurnsStand y (x ∷ xs) = (Waits y x.task x.cell × (y.words.own x.cell.0 ≡ Some x.owner)) × TurnsStand y xs

-- a phase waits for one cell at most
one_wait : {B : Type 0} (y : Contents B) (t : ℕ) (c d : CellId) → Waits y t c → Waits y t d → c ≡ d
one_wait y t c d v w =
    let e : phase.Waiting c v.0 v.1 ≡ phase.Waiting d w.0 w.1 = sym v.2 ∙ w.2 in cc

module _ {B : Type 0} (program : Bool → B → Program B) (key : Key B) (j : ℕ) where
  -- what was loaded stood then
  wait_loaded : (t : ℕ) (c : CellId) (to : Way) (k : Walk) (u w : Ruled program key)
      (a : IsAskedStep program key u.now w.now)
      → IsEntry program key j (phase_load t (phase.Waiting c to k)) u.now w.now a
      → (contents_at program key u).words.phase t ≡ phase.Waiting c to k
  wait_loaded t c to k u w (inr b) h = absurd h
  wait_loaded t c to k u w (inl b) h = ap phase_in (sym h.found) ∙ wait_back c to k

  owner_loaded : (c v : ℕ) (u w : Ruled program key) (a : IsAskedStep program key u.now w.now)
      → IsEntry program key j (owner_load c v) u.now w.now a → (contents_at program key u).words.own c ≡ Some v
  owner_loaded c v u w (inr b) h = absurd h
  owner_loaded c v u w (inl b) h = ap owner_in (sym h.found)

  module _ (every : EveryMoment B) (first : ℕ) (ts : List ℕ) where
    -- the cycle stands one step later
    next : (u w : Ruled program key) → IsAskedStep program key u.now w.now
        → IsCycle (contents_at program key u) (first ∷ ts) → IsCycle (contents_at program key w) (first ∷ ts)
    next u w a c = ((every program key u (w ∷ []) (a, tt)).3 (first ∷ ts) c).0

    -- this is so of the turn: its task is on the cycle, and waits for its cell, whose owner is this
    abbrev Stands : Contents B → Turn → Type 0
    Stands y x = Waits y x.task x.cell × (y.words.own x.cell.0 ≡ Some x.owner) × Contains (first ∷ ts) x.task

    -- so it is of all
    abbrev AllStand : Contents B → List Turn → Type 0
    AllStand y [] = Unit {0}
    AllStand y (x ∷ xs) = Stands y x × AllStand y xs

    -- who owned the awaited cell of a task of the cycle at an earlier moment does so still, and is on the cycle
    owner_stands : (z y : Contents B) → CyclesStay z y → IsCycle z (first ∷ ts) → (t u : ℕ) (c : CellId)
        → Contains (first ∷ ts) t → Waits y t c → z.words.own c.0 ≡ Some u
        → (y.words.own c.0 ≡ Some u) × Contains (first ∷ ts) u
    owner_stands z y stay c t u cell has waits own =
        let later = stay (first ∷ ts) c in
        let r = round_both (Leads z) (Leads y) first ts c.1 later.0.1 t has in
        let v = r.0 in
        let before = r.1 in
        let after = r.2 in
        let p : before.0 ≡ cell = one_wait y t before.0 cell (later.1 t before.0 has before.1) waits in
        let q : after.0 ≡ cell = one_wait y t after.0 cell after.1 waits in
        let o : z.words.own cell.0 ≡ Some v = subst (λ (d : CellId). z.words.own d.0 ≡ Some v) p before.2 in
        let n : y.words.own cell.0 ≡ Some v = subst (λ (d : CellId). y.words.own d.0 ≡ Some v) q after.2 in
        let same : Some v ≡ Some u = sym o ∙ own in
        let is : v ≡ u = cc in
        (n ∙ ap (λ x. Some x) is, subst (Contains (first ∷ ts)) is r.3)

    -- what is so of what comes after the turn
    abbrev Rest : List Turn → Type 0
    Rest xs = (u : Ruled program key) (later : List (Ruled program key)) (a : AreAskedMoments program key u later)
        → IsCycle (contents_at program key u) (first ∷ ts) → AreStepsOf program key j (loads_of xs) u later a
        → AllStand (contents_at program key (last_moment program key u later)) xs

    owner_then : (x : Turn) (xs : List Turn) → Contains (first ∷ ts) x.task
        → (Contains (first ∷ ts) x.owner → Rest xs)
        → (u : Ruled program key) (later : List (Ruled program key)) (a : AreAskedMoments program key u later)
        → IsCycle (contents_at program key u) (first ∷ ts)
        → Waits (contents_at program key (last_moment program key u later)) x.task x.cell
        → AreStepsOf program key j (owner_load x.cell.0 x.owner ∷ loads_of xs) u later a
        → AllStand (contents_at program key (last_moment program key u later)) (x ∷ xs)
    owner_then x xs has more u [] a c wait s = absurd s
    owner_then x xs has more u (w ∷ ws) a c wait (inr s) =
        owner_then x xs has more w ws a.1 (next u w a.0 c) wait s
    owner_then x xs has more u (w ∷ ws) a c wait (inl s) =
        let r = owner_stands (contents_at program key u) (contents_at program key (last_moment program key w ws))
        (every program key u (w ∷ ws) a).3 c x.task x.owner x.cell has wait
        (owner_loaded x.cell.0 x.owner u w a.0 s.0) in
        ((wait, r.0, has), more r.1 w ws a.1 (next u w a.0 c) s.1)

    wait_then : (x : Turn) (xs : List Turn) → Contains (first ∷ ts) x.task
        → (Contains (first ∷ ts) x.owner → Rest xs) → Rest (x ∷ xs)
    wait_then x xs has more u [] a c s = absurd s
    wait_then x xs has more u (w ∷ ws) a c (inr s) = wait_then x xs has more w ws a.1 (next u w a.0 c) s
    wait_then x xs has more u (w ∷ ws) a c (inl s) =
        owner_then x xs has more w ws a.1 (next u w a.0 c)
        (((every program key u (w ∷ ws) a).3 (first ∷ ts) c).1 x.task x.cell has
        (x.way, x.walk, wait_loaded x.task x.cell x.way x.walk u w a.0 s.0)) s.1

    -- the turns that were loaded stand at the end
    turns_stand : (xs : List Turn) (t : ℕ) → Contains (first ∷ ts) t → AreChained t xs → Rest xs
    turns_stand [] t has chain = λ u later a c s. tt
    turns_stand (x ∷ xs) t has chain = wait_then x xs (subst (Contains (first ∷ ts)) (sym chain.0) has)
        (λ h. turns_stand xs x.owner h chain.1)

    all_stand : (y : Contents B) (xs : List Turn) → AllStand y xs → TurnsStand y xs
    all_stand y [] h = tt
    all_stand y (x ∷ xs) h = ((h.0.0, h.0.1), all_stand y xs h.1)

  -- where the alarm of the first task was loaded before, the turns stand at the end
  loaded_stand : (every : EveryMoment B) (t : ℕ) (c : CellId) (to : Way) (xs : List Turn) → AreChained t xs
      → (u : Ruled program key) (later : List (Ruled program key)) (a : AreAskedMoments program key u later)
      → AreStepsOf program key j (phase_load t (phase.Waiting c to walk.Alarmed) ∷ loads_of xs) u later a
      → TurnsStand (contents_at program key (last_moment program key u later)) xs
  loaded_stand every t c to xs chain u [] a s = absurd s
  loaded_stand every t c to xs chain u (w ∷ ws) a (inr s) = loaded_stand every t c to xs chain w ws a.1 s
  loaded_stand every t c to xs chain u (w ∷ ws) a (inl s) =
      let on = (every program key u [] tt).0 t (c, to, wait_loaded t c to walk.Alarmed u w a.0 s.0) in
      all_stand every t on.0 (contents_at program key (last_moment program key w ws)) xs
      (turns_stand every t on.0 xs t (0, omega arith, refl) chain w ws a.1
      (next every t on.0 u w a.0 on.1) s.1)

-- turns that come back lead on
chained : (first t : ℕ) (xs : List Turn) → ComesBack first t xs → AreChained t xs
chained first t [] b = absurd b
chained first t (x ∷ []) b = (b.0, tt)
chained first t (x ∷ y ∷ ys) b = (b.0, chained first x.owner (y ∷ ys) b.2)

-- a round whose loads are steps of some seat of the run stands at the end of the run
module _ {B : Type 0} (every : EveryMoment B) (program : Bool → B → Program B) (key : Key B)
    (s : State (Option (Rec B)) (View B)) (run : HasRun program key s) where
  pub steps_stand : (j : ℕ) (log : List Entry) → AreStepsOf program key j (in_order log) run.first run.later run.moments
      → (t : ℕ) (xs : List Turn) → HasRound t xs log → TurnsStand (contents_of s) xs
  steps_stand j log made t xs r = subst (λ (z : State (Option (Rec B)) (View B)). TurnsStand (contents_of z) xs) run.end
      (loaded_stand program key j every t r.cell r.way xs (chained t t xs r.back) run.first run.later run.moments
      (part_of_steps program key j (phase_load t (phase.Waiting r.cell r.way walk.Alarmed) ∷ loads_of xs)
      (in_order log) run.first run.later run.moments r.loads made))

  -- so does a round that a log has which the seat has taken in
  pub round_stands : (j : ℕ) (log : List Entry) → IsIn log (took_of j run.past) → (t : ℕ) (xs : List Turn)
      → HasRound t xs log → TurnsStand (contents_of s) xs
  round_stands j log i = let took = run.taken j log i in steps_stand took.0 log took.1

  -- and one that its own log has
  pub own_stands : (j : ℕ) (t : ℕ) (xs : List Turn) → HasRound t xs (log_of j run.past) → TurnsStand (contents_of s) xs
  own_stands j = steps_stand j (log_of j run.past) (run.logs j)
