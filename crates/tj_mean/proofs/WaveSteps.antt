-- What is known of a round where its wave is under way, where it is done, and where the next one begins.
use Rattle.std.proofs.Common.{◌≡◌, ℕ, suc, ◌+◌, ◌-◌, ◌*◌, ◌<◌, ◌≤◌, ◌⊎◌, inl, inr, List, [], ◌∷◌, ◌++◌, map, length}
use Rattle.std.proofs.Common.{get_or, refl, sym, ap, ◌∙◌, subst, arith, append-nil, length-append, None}
use Rattle.std.specs.Prelude.{slice_set}
use Rattle.tj_base.specs.ForkOrder.{Name}
use Rattle.tj_body.specs.History.{Assignment, start}
use Rattle.tj_body.specs.Points.{IsProper, IsGood, HasStopped}
use Rattle.tj_body.specs.Programs.{Program, AreLawful, root_task}
use Rattle.tj_body.specs.Rounds.{given, cells}
use Rattle.tj_body.specs.declared.point.Entry.{Entry}
use Rattle.tj_body.specs.declared.point.Task.{Task}
use Rattle.tj_body.specs.declared.point.Point.{Point}
use Rattle.tj_mean.specs.FirstFull.{IsFirstFull}
use Rattle.tj_mean.specs.Inner.Agendas.{IsAhead, IsNotedAt, IsNoted}
use Rattle.tj_mean.specs.Inner.Reached.{Enters, emptied}
use Rattle.tj_mean.specs.Inner.Waves.{promised_by, AreKeptLater, IsTakenUp, IsWave, IsWaveAt, IsWaveDone}
use Rattle.tj_mean.specs.declared.agenda.Agenda.{Agenda}
use Rattle.tj_mean.proofs.AgendaSteps.{IsWoken, agenda_next, all_rest, in_front, nobody_left, set_here, set_length}
use Rattle.tj_mean.proofs.AgendaSteps.{taken_up}
use Rattle.tj_mean.proofs.AtWork.KeptPoints.{total_set}
use Rattle.tj_mean.proofs.RoundWaves.{cells_apart, cells_are_of_round, first_after, points_fit, promised_starts}
use Rattle.tj_mean.proofs.RoundWaves.{promises_fit, round_fits, wave_begins, wave_good, wave_next, wave_takes_up}

-- what holds of the number after n, as the code writes it
pub by_one : (P : ℕ → Type 0) (n : ℕ) → P (suc n) → P (n + 1)
by_one P n p = let e : suc n ≡ n + 1 = omega arith in subst P e p

-- and of the one after that
pub by_two : (P : ℕ → Type 0) (n : ℕ) → P (suc (suc n)) → P (n + 1 + 1)
by_two P n p = let e : suc (suc n) ≡ n + 1 + 1 = omega arith in subst P e p

-- what stands where a wave begins to which the limit is still to come
pub record IsRoundBegun {B : Type 0} (program : Program B) (N n : ℕ) (E : Assignment) (a : Agenda) (left : ℕ)
    (qs : List (Point B)) : Type 0 where
  pub at : IsWaveAt program N n E a left qs [] []
  pub fits : length (cells program n) ≤ N
  pub few : n ≤ 2 * N + 1

module _ {B : Type 0} (program : Program B) where
  -- the first round begins
  pub first_begun : (N : ℕ) (E : Assignment) (a : Agenda) (qs : List (Point B)) → ((q : Name) → E q ≡ None)
      → qs ≡ start (root_task program.root) ∷ [] → a.fresh ≡ 0 → IsRoundBegun program N 0 E a N qs
  first_begun N E a qs none e f = record {
    at = record {
      later = [];
      wave = wave_begins program E qs none e;
      are_kept = inl refl;
      agenda = record { within = omega arith; known = λ i d h. inl (inr (omega arith)) };
      counted = subst (λ l. promised_by l + N ≡ N) (sym e) (omega arith);
    };
    fits = omega arith;
    few = omega arith;
  }

  module _ (obeys : AreLawful program.rules) (proper : IsProper program.rules (root_task program.root)) (N n : ℕ)
      (E : Assignment) where
    module _ (a : Agenda) (left : ℕ) (qs : List (Point B)) (kept : List (Task B)) (writes : List (Name × Entry))
        (w : IsWaveAt program N n E a left qs kept writes) where
      -- there are more tasks than are left by the promises, and so more cells than the limit
      pub tasks_fill : left < length qs → N < length (cells program (suc n))
      tasks_fill l =
          let a = cells_are_of_round program obeys proper n E qs w.later writes w.wave in
          let b = cells_apart qs in
          let c = w.counted in
          omega arith

      -- a task can go on
      pub next_good : (at : ℕ) → at < length qs → (q : Point B) → q ≡ get_or qs at q → IsGood program.rules q
      next_good at h = wave_good program obeys proper n E qs w.later writes w.wave at h

      -- what is left with the promises of one task is no more than the limit
      pub room_fits : (at : ℕ) → at < length qs → (q : Point B) → q ≡ get_or qs at q → left + length q.promises ≤ N
      room_fits at h q e =
          let a = promises_fit qs at q h in
          let b = ap (λ (z : Point B). length z.promises) e in
          let c = w.counted in
          omega arith

      -- a task is taken up
      module _ (at : ℕ) (there : at < length qs) (rest : List (Point B)) (kept' : List (Task B))
          (writes' : List (Name × Entry)) (u : IsTakenUp program.rules E N n at qs rest kept kept' writes writes') where
        abbrev front : List (Point B)
        front = slice_set qs at (emptied u.end)

        -- some tasks begin
        rest_is : (cs : List (Task B)) × (rest ≡ front ++ map start cs)
        rest_is = by u.children where
          by : ((length u.end.name ≤ n) × (rest ≡ front ++ map start u.end.children) × (kept' ≡ kept))
              ⊎ ((n < length u.end.name) × (rest ≡ front)
              × ((kept' ≡ kept ++ u.end.children) ⊎ ((N < length kept) × (kept' ≡ kept))))
              → (cs : List (Task B)) × (rest ≡ front ++ map start cs)
          by (inl h) = (u.end.children, h.1)
          by (inr h) = ([], h.1 ∙ sym (append-nil front))

        -- it is there afterwards
        pub taken_there : at < length rest
        taken_there =
            let a = ap (λ (l : List (Point B)). length l) rest_is.1 in
            let b = length-append front (map start rest_is.0) in
            let c = set_length qs at (emptied u.end) in
            omega arith

        in_rest : (d : Point B) → get_or rest at d ≡ emptied u.end
        in_rest d =
            let c = set_length qs at (emptied u.end) in
            ap (λ (l : List (Point B)). get_or l at d) rest_is.1
            ∙ (in_front front (map start rest_is.0) at d (omega arith) ∙ set_here qs at (emptied u.end) d there)

        wave_on : (later' : List (Task B)) × IsWave program n E rest later' writes' × AreKeptLater N kept' later'
        wave_on = wave_takes_up program obeys proper n E qs w.later writes w.wave at there N kept kept' rest writes'
            w.are_kept u

        -- it has made these promises
        module _ (q r : Point B) (q_is : q ≡ get_or qs at q) (r_is : r ≡ get_or rest at r) where
          promised : promised_by rest + length q.promises ≡ promised_by qs + length r.promises
          promised =
              let a = ap (λ (l : List (Point B)). promised_by l) rest_is.1 in
              let b = promised_starts front rest_is.0 in
              let c = total_set (λ (p : Point B). length p.promises) qs at (emptied u.end) q there in
              let d = ap (λ (p : Point B). length p.promises) q_is in
              let e = ap (λ (p : Point B). length p.promises) (r_is ∙ in_rest r) in
              omega arith

          -- they are more than the limit, and so are the round's cells
          pub promises_fill : left + length q.promises < length r.promises → N < length (cells program (suc n))
          promises_fill l =
              let a = cells_are_of_round program obeys proper n E rest wave_on.0 writes' wave_on.1 in
              let b = cells_apart rest in
              let c = promised in
              let d = w.counted in
              omega arith

          -- it is noted where it waits
          pub takes_next : length r.promises ≤ left + length q.promises → (left' : ℕ)
              → left' ≡ (left + length q.promises) - length r.promises → (b c : Agenda)
              → ((i : ℕ) → i < length qs → IsAhead a i → (i ≡ at) ⊎ IsAhead b i)
              → (a.fresh ≤ length qs → b.fresh ≤ length qs) → b.waiting ≡ a.waiting
              → (s : Point B) → s ≡ get_or rest at s → IsNoted c.waiting at s.stage
              → ((x : Name) (i : ℕ) → IsNotedAt b.waiting x i → IsNotedAt c.waiting x i)
              → (c.woken ≡ b.woken) × (c.fresh ≡ b.fresh) → IsWaveAt program N n E c left' rest kept' writes'
          takes_next l left' left_is b c others within notes s s_is noted keeps ahead = record {
            later = wave_on.0;
            wave = wave_on.1;
            are_kept = wave_on.2;
            agenda = taken_up E a qs w.agenda b c at u.end rest (map start rest_is.0) rest_is.1 there others within
                notes u.stopped
                (subst (λ (p : Point B). IsNoted c.waiting at p.stage) (s_is ∙ in_rest s) noted) keeps ahead;
            counted = let d = promised in let e = w.counted in omega arith;
          }

      -- nobody is ahead
      pub is_done : (b : Agenda) → b.waiting ≡ a.waiting → (a.fresh ≤ length qs → b.fresh ≤ length qs)
          → ((i : ℕ) → i < length qs → (¬ IsAhead a i) × (¬ IsAhead b i)) → length qs ≤ left
          → IsWaveDone program N n E b left qs kept writes
      is_done b notes within none few = record {
        at = record {
          later = w.later;
          wave = w.wave;
          are_kept = w.are_kept;
          agenda = nobody_left E a qs w.agenda b notes within (λ i h. (none i h).0);
          counted = w.counted;
        };
        none_ahead = λ i h. (none i h).1;
        fits = round_fits program obeys proper n E qs w.later writes w.wave
            (λ i d h. subst (λ F. HasStopped F (get_or qs i d)) w.wave.assigned
            (all_rest E a qs w.agenda (λ j k. (none j k).0) i d h).0) N
            (let x = cells_apart qs in let y = w.counted in omega arith);
      }

    module _ (a : Agenda) (left : ℕ) (qs : List (Point B)) (kept : List (Task B)) (writes : List (Name × Entry))
        (d : IsWaveDone program N n E a left qs kept writes) (F : Assignment) (enters : Enters writes E F) where
      abbrev next_wave : (rest : List (Point B)) → rest ≡ qs ++ map start d.at.later
          → IsWave program (suc n) F rest [] []
      next_wave rest e = wave_next program obeys proper n E qs d.at.later writes d.at.wave
          (λ i x h. subst (λ G. HasStopped G (get_or qs i x)) d.at.wave.assigned
          (all_rest E a qs d.at.agenda d.none_ahead i x h).0) F enters rest e

      -- the next wave begins where no more than the limit come later
      pub next_begun : (b : Agenda) → IsWoken a b (map (λ w. w.0) writes) → n ≤ 2 * N → length kept ≤ N
          → (rest : List (Point B)) → rest ≡ qs ++ map start kept → IsRoundBegun program N (suc n) F b left rest
      next_begun b woken few l rest e = record {
        at = record {
          later = [];
          wave = by d.at.are_kept;
          are_kept = inl refl;
          agenda = agenda_next E a qs d.at.agenda F writes enters b woken d.none_ahead rest (map start kept) e;
          counted =
              let x = ap (λ (m : List (Point B)). promised_by m) e in
              let y = promised_starts qs kept in
              let z = d.at.counted in
              omega arith;
        };
        fits = d.fits;
        few = omega arith;
      }
        where
          by : AreKeptLater N kept d.at.later → IsWave program (suc n) F rest [] []
          by (inl f) = next_wave rest (e ∙ ap (λ ts. qs ++ map start ts) f)
          by (inr h) = let a = h.0 in absurd (omega arith)

      -- what is entered is the next round's
      pub next_entered : F ≡ given program (suc n)
      next_entered = (next_wave (qs ++ map start d.at.later) refl).assigned

      -- more than the limit come later, and so the next round is the first that is full
      pub next_full : N < length kept → IsFirstFull program N (suc (suc n))
      next_full l = first_after program N (suc n) d.fits (by d.at.are_kept) where
        map_length : (ts : List (Task B)) → length (map (λ t. start t) ts) ≡ length ts
        map_length [] = refl
        map_length (t ∷ ts) = ap suc (map_length ts)

        many : N < length d.at.later → N < length (cells program (suc (suc n)))
        many m =
            let rest = qs ++ map start d.at.later in
            let a = cells_are_of_round program obeys proper (suc n) F rest [] [] (next_wave rest refl) in
            let b = points_fit rest in
            let c = length-append qs (map start d.at.later) in
            let e = map_length d.at.later in
            omega arith

        by : AreKeptLater N kept d.at.later → N < length (cells program (suc (suc n)))
        by (inl f) = let e = ap (λ (ts : List (Task B)). length ts) f in many (omega arith)
        by (inr h) = many h.1
