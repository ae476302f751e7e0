-- The statement that made most, found by going through the first round that has more cells than the limit.
use Rattle.std.proofs.Common.{◌≡◌, ℕ, suc, ◌<◌, Bool, List, [], ◌∷◌, ◌++◌, ◌*◌, map, length, take, cond}
use Rattle.std.proofs.Common.{true, false, inl, inr}
use Rattle.std.proofs.Common.{◌-◌, ◌≤◌, ◌⊎◌, refl, sym, ap, ◌∙◌, subst, arith}
use Rattle.std.proofs.lemmas.List.{length-append, length-take}
use Rattle.std.specs.Prelude.{filter, IfOk, Result, Ok, Err}
use Rattle.tj_base.specs.ForkOrder.{Name, child}
use Rattle.tj_base.specs.declared.cell.Sort.{Sort}
use Rattle.tj_base.specs.declared.cell.Sort.TheVariants as sort
use Rattle.tj_body.specs.Asks.{IsFresh}
use Rattle.tj_body.specs.History.{Assignment, history}
use Rattle.tj_body.specs.Points.{HasStopped, IsIn, IsProper}
use Rattle.tj_body.specs.Programs.{Program, program_of, root_task}
use Rattle.tj_body.specs.Rounds.{cells, given, tasks}
use Rattle.tj_body.specs.declared.point.Point.{Point}
use Rattle.tj_body.specs.declared.point.Task.{Task}
use Rattle.tj_body.proofs.Histories.Good.{task_proper}
use Rattle.tj_body.proofs.Histories.Grows.{from_start}
use Rattle.tj_body.proofs.Histories.Points.{stopped}
use Rattle.tj_body.proofs.Proper.{root_proper}
use Rattle.tj_mean.specs.FirstFull.{IsFirstFull}
use Rattle.tj_trace.specs.Inner.LogLaws.{logged_obeys}
use Rattle.tj_trace.specs.Inner.RoundMakers.{IsTaken, forked_makers, is_of, made_by}
use Rattle.tj_trace.specs.Inner.RoundMakers.{round_makers, still_makers}
use Rattle.tj_trace.specs.Inner.TaskDepths.{AreAsInRound}
use Rattle.tj_trace.specs.Logs.{Logged, logged, logged_asks, logged_awaits, logged_left, logged_places, logged_then}
use Rattle.tj_trace.specs.MadeCells.{AreMadeBy}
use Rattle.tj_trace.specs.MostMade.{IsMostMade}
use Rattle.tj_trace.specs.MostOf.{IsMostOf}
use Rattle.tj_trace.specs.NoteLaws.{AreNoted, is_sort, things}
use Rattle.tj_trace.specs.declared.found.Found.{Found}
use Rattle.tj_trace.specs.declared.line.Maker.{Maker}
use Rattle.tj_trace.specs.declared.most.Most.{Most}
use Rattle.tj_trace.proofs.FoundTasks.{IsGathered, all_gathered, begins_gathered, enough_gathered, next_gathered}
use Rattle.tj_trace.proofs.FoundTasks.{takes_gathered}
use Rattle.tj_trace.proofs.LoggedRules.{rules}
use Rattle.tj_trace.proofs.MadeRounds.{made_length, made_take, round_made}
use Rattle.tj_trace.proofs.Noted.{IsLogged, family_fresh, history_noted, notes_at}

-- what a task that has stopped notes is what its body has noted
noted_there : (V : Assignment) (p : Point Logged) → HasStopped V p
    → AreNoted p.name (notes_at p.stage p.body) p.made p.promises p.children
    → AreNoted p.name p.body.makers p.made p.promises p.children
noted_there V p (inl e) h = subst (λ s. AreNoted p.name (notes_at s p.body) p.made p.promises p.children) e.1 h
noted_there V p (inr w) h = subst (λ s. AreNoted p.name (notes_at s p.body) p.made p.promises p.children) w.2 h

-- the notes of a history tell what the task made
pub noted_history : (strict : Bool) (V : Assignment) (t : Task Logged) → IsProper (rules strict) t → IsLogged t
    → let p = history (rules strict) V t in AreNoted t.name p.body.makers p.made p.promises p.children
noted_history strict V t proper l =
    let p = history (rules strict) V t in
    subst (λ x. AreNoted x p.body.makers p.made p.promises p.children)
    (from_start (rules strict) V (2 * suc (logged_left t.body)) t).5
    (noted_there V p (stopped (rules strict) logged_obeys V t proper) (history_noted strict V t l).made)

-- what three clauses of a call say is told together
pub if_all : {X E A B C D : Type 0} (r : Result X E) → IfOk r (λ _. A) → IfOk r (λ _. B) → IfOk r (λ _. C)
    → (A → B → C → D) → IfOk r (λ _. D)
if_all (Ok x) a b c f = f a b c
if_all (Err e) a b c f = tt

things_length : (s : Sort) (x : Name) (n : ℕ) (ms : List Maker)
    → length (things s x n ms) ≡ length (filter (is_of s) ms)
things_length s x n [] = refl
things_length s x n (m ∷ ms) = by (is_sort s m.sort) (things_length s x (suc n) ms) where
  by : (b : Bool) → length (things s x (suc n) ms) ≡ length (filter (is_of s) ms)
      → length (cond b (child x (suc n) ∷ things s x (suc n) ms) (things s x (suc n) ms))
      ≡ length (cond b (m ∷ filter (is_of s) ms) (filter (is_of s) ms))
  by true e = ap suc e
  by false e = e

-- as many statements are noted for the children as there are children
pub forks_as_many : (x : Name) (makers : List Maker) (made : ℕ) (promises : List Name) (children : List (Task Logged))
    → AreNoted x makers made promises children → length (filter (is_of sort.Task) makers) ≡ length children
forks_as_many x makers made promises children h =
    sym (things_length sort.Task x 0 makers) ∙ ap (λ (l : List Name). length l) h.all_children ∙ names children
  where
    names : (cs : List (Task Logged)) → length (map (λ (c : Task Logged). c.name) cs) ≡ length cs
    names [] = refl
    names (c ∷ cs) = ap suc (names cs)

module _ (strict : Bool) (V : Assignment) (t : Task Logged) (p : Point Logged) (is : p ≡ history (rules strict) V t)
    (forks : List Maker) (are_forks : forks ≡ filter (is_of sort.Task) p.body.makers) where
  -- what forked its children are as many
  pub counts_forks : IsProper (rules strict) t → IsLogged t → length forks ≡ length p.children
  counts_forks proper l =
      let h = subst (λ (q : Point Logged). AreNoted t.name q.body.makers q.made q.promises q.children) (sym is)
      (noted_history strict V t proper l) in
      ap (λ (m : List Maker). length m) are_forks
      ∙ forks_as_many t.name p.body.makers p.made p.promises p.children h

  -- a task was taken
  pub takes_up : (d : ℕ) (ws pending : List (Found Logged)) (ms makers : List Maker)
      → makers ≡ ms ++ filter (is_of sort.Promise) p.body.makers
      → ((below : ℕ → Task Logged → List Maker)
      → still_makers below pending ≡ forked_makers below d forks p.children ++ still_makers below ws)
      → ((w : Found Logged) → IsIn w pending → IsIn w ws ⊎ ((suc w.depth ≡ d) × IsIn w.task p.children))
      → IsTaken (history (rules strict) V t) d ws pending ms makers
  takes_up d ws pending ms makers made still from = record {
    made = made ∙ ap (λ (q : Point Logged). ms ++ filter (is_of sort.Promise) q.body.makers) is;
    still = λ below. still below
        ∙ ap (λ (l : List Maker). forked_makers below d l p.children ++ still_makers below ws) are_forks
        ∙ ap (λ (q : Point Logged). forked_makers below d (filter (is_of sort.Task) q.body.makers) q.children
        ++ still_makers below ws) is;
    from = λ w i. subst (λ (q : Point Logged). IsIn w ws ⊎ ((suc w.depth ≡ d) × IsIn w.task q.children)) is
        (from w i);
  }

module _ (program : Program Logged) (k : ℕ) (W : Assignment)
    (round : AreAsInRound program k W) where
  same_number : k - 1 ≡ round.before
  same_number = let e = round.number_is in omega arith

  pub same_round : suc (k - 1) ≡ k
  same_round = let e = round.number_is in omega arith

  same_history : (t : Task Logged) → IsIn t (tasks program (suc (k - 1)))
      → history program.rules W t ≡ history program.rules (given program (k - 1)) t
  same_history = subst (λ m. (t : Task Logged) → IsIn t (tasks program (suc m))
      → history program.rules W t ≡ history program.rules (given program m) t) (sym same_number) round.alike

  -- at first the root was taken
  pub begins_found : (t : Task Logged) → t ≡ root_task program.root → (ws : List (Found Logged)) → ws ≡ []
      → (ms : List Maker) → ms ≡ [] → (pending : List (Found Logged)) (makers : List Maker)
      → IsTaken (history program.rules W t) k ws pending ms makers → IsGathered program (k - 1) pending makers
  begins_found t t_is ws ws_is ms ms_is pending makers h =
      let root = root_task program.root in
      let V = given program (k - 1) in
      begins_gathered program (k - 1) pending makers
      (subst (λ x. IsTaken (history program.rules V root) x [] pending [] makers) (sym same_round)
      (subst (λ x. IsTaken (history program.rules V root) k [] pending x makers) ms_is
      (subst (λ x. IsTaken (history program.rules V root) k x pending ms makers) ws_is
      (subst (λ p. IsTaken p k ws pending ms makers)
      (ap (λ x. history program.rules W x) t_is ∙ same_history root (inl refl)) h))))

  module _ (pending : List (Found Logged)) (makers : List Maker)
      (u : IsGathered program (k - 1) pending makers) where
    -- where there are enough, or nothing is pending, the first of them are the first of the round's
    pub enough_found : (N : ℕ) → N ≤ length makers → take N makers ≡ take N (round_makers program k)
    enough_found N l = enough_gathered program (k - 1) pending makers u N l
        ∙ ap (λ m. take N (round_makers program m)) same_round

    pub all_found : (N : ℕ) → pending ≡ [] → take N makers ≡ take N (round_makers program k)
    all_found N e = ap (λ (l : List Maker). take N l) (all_gathered program (k - 1) pending makers u e)
        ∙ ap (λ m. take N (round_makers program m)) same_round

    module _ (ws : List (Found Logged)) (w : Found Logged) (stack : pending ≡ ws ++ w ∷ []) where
      -- the task that is taken next is one of the round
      pub next_found : IsIn w.task (tasks program (suc (k - 1)))
      next_found = next_gathered program (k - 1) pending makers u ws w stack

      module _ (ms' : List Maker) (noted : ms' ≡ makers ++ w.maker ∷ []) (pending' : List (Found Logged))
          (makers' : List Maker) (h : IsTaken (history program.rules W w.task) w.depth ws pending' ms' makers') where
        pub takes_found : IsGathered program (k - 1) pending' makers'
        takes_found = takes_gathered program (k - 1) pending makers u ws w stack pending' makers'
            (subst (λ x. IsTaken (history program.rules (given program (k - 1)) w.task) w.depth ws pending' x makers')
            noted
            (subst (λ p. IsTaken p w.depth ws pending' ms' makers') (same_history w.task next_found) h))

        -- there are more
        pub grows_found : length makers < length makers'
        grows_found =
            let a = ap (λ (l : List Maker). length l) (h.made ∙ ap (λ l. l ++ promises) noted) in
            let b = length-append (makers ++ w.maker ∷ []) promises in
            let c = length-append makers (w.maker ∷ []) in
            omega arith
          where
            promises : List Maker
            promises = made_by program.rules W sort.Promise w.task

module _ (strict : Bool) (root : Logged) (fresh : IsFresh logged_places logged_awaits logged_left 1 root)
    (notes_nothing : root ≡ logged root.placed) where
  abbrev P : Program Logged
  P = program_of logged_places logged_awaits logged_left logged_asks logged_then strict root

  -- a task of a round is proper, and has asked nothing
  pub round_proper : (n : ℕ) (t : Task Logged) → IsIn t (tasks P (suc n)) → IsProper P.rules t
  round_proper n t i = task_proper P logged_obeys (root_proper P fresh) (suc n) t i

  pub round_fresh : (n : ℕ) (t : Task Logged) → IsIn t (tasks P (suc n)) → IsLogged t
  round_fresh n t i = family_fresh strict (given P n) (suc n) (root_task root) notes_nothing t i

  module _ (N n : ℕ) (first : IsFirstFull P N (suc n)) (makers : List Maker)
      (are : makers ≡ take N (round_makers P (suc n))) where
    noted : (t : Task Logged) → IsIn t (tasks P (suc n))
        → let p = history P.rules (given P n) t in AreNoted t.name p.body.makers p.made p.promises p.children
    noted t i = noted_history strict (given P n) t (round_proper n t i) (round_fresh n t i)

    -- the statement that made most of them is the one that was meant
    pub most_is_made : (most : Most) → IsMostOf makers most → IsMostMade P N most
    most_is_made most h = let r = round_made P n noted in record {
      round = n;
      is_first = first;
      others = take N r.0;
      first_cells = ap (λ l. take (suc N) l) r.1;
      makers = makers;
      are_made = subst (λ l. AreMadeBy P n (take N r.0) l) (sym are)
          (made_take P n N r.0 (round_makers P (suc n)) r.2);
      is_most = h;
    }

    -- some statement made a cell
    pub some_made : 0 < N → makers ≡ [] → ⊥
    some_made positive none =
        let r = round_made P n noted in
        let a = ap (λ (l : List Name). length l) r.1 in
        let b = made_length P n r.0 (round_makers P (suc n)) r.2 in
        let c = length-take N (round_makers P (suc n)) in
        let d = ap (λ (l : List Maker). length l) (sym are ∙ none) in
        let f = first.full in
        omega arith
