-- Programs whose bodies are seen as others' have their histories and rounds.
use Rattle.std.proofs.Common.{◌≡◌, ℕ, zero, suc, ◌*◌, Bool, true, false, List, [], ◌∷◌, ◌++◌, map}
use Rattle.std.proofs.Common.{Option, Some, None, Result, Ok, Err, refl, sym, ap, ◌∙◌, subst, not, ◌&&◌, cond, inl, inr, ⊎_elim, ◌+◌, ◌<◌, ◌≤◌}
use Rattle.std.proofs.lemmas.List.{map-append}
use Rattle.std.specs.List.{flat_map}
use Rattle.tj_base.specs.ForkOrder.{Name, before}
use Rattle.tj_base.specs.declared.cell.Sort.{Sort}
use Rattle.tj_base.specs.declared.cell.Sort.TheVariants as sort
use Rattle.tj_base.specs.declared.cause.Cause.{Cause}
use Rattle.tj_base.specs.declared.cause.Cause.TheVariants as cause
use Rattle.tj_body.specs.Asks.{Fits, Ends, IsFresh, IsPlaced, IsNext, Obeys, awaited, new_places, most_left}
use Rattle.tj_body.specs.Names.{has}
use Rattle.tj_body.specs.Programs.{Rules, Program, root_task}
use Rattle.tj_body.specs.History.{Assignment, after_read, after_look, after_ask, after_stage, after_step}
use Rattle.tj_body.specs.History.{after_try_fork, after_fork, next_child, after_failure, after_write, with_wait}
use Rattle.tj_body.specs.History.{after_set, after_get, after_join, hand_all, reference, point_after}
use Rattle.tj_body.specs.History.{history}
use Rattle.tj_body.specs.Rounds.{family, writes_by, cells_by, given, tasks, entries, cells, entry_in, last_round}
use Rattle.tj_body.specs.SeenAs.{ask_as, task_as, point_as, AreSeenAs, IsSeenAs, HistoriesAreSeen, RoundsAreSeen}
use Rattle.tj_body.specs.SeenAs.{MeaningIsSeen}
use Rattle.tj_body.specs.declared.ask.Answer.{Answer}
use Rattle.tj_body.specs.declared.ask.Ask.{Ask}
use Rattle.tj_body.specs.declared.ask.Ask.TheVariants as ask
use Rattle.tj_body.specs.declared.point.Reference.{Reference}
use Rattle.tj_body.specs.declared.point.Value.{Value}
use Rattle.tj_body.specs.declared.point.Value.TheVariants as value
use Rattle.tj_body.specs.declared.point.Entry.{Entry}
use Rattle.tj_body.specs.declared.point.Entry.TheVariants as entry
use Rattle.tj_body.specs.declared.point.PointStage.{PointStage}
use Rattle.tj_body.specs.declared.point.PointStage.TheVariants as stage
use Rattle.tj_body.specs.declared.point.Task.{Task}
use Rattle.tj_body.specs.declared.point.Point.{Point}

-- Lists: what g makes of each of what f makes is what h makes of each
flat_map_as : {A D E : Type 0} (f : A → D) (g : D → List E) (h : A → List E) → ((x : A) → g (f x) ≡ h x) → (l : List A)
    → flat_map g (map f l) ≡ flat_map h l
flat_map_as f g h q [] = refl
flat_map_as f g h q (x ∷ l) = ap (λ y. y ++ flat_map g (map f l)) (q x) ∙ ap (λ z. h x ++ z) (flat_map_as f g h q l)

-- the same where each is seen
flat_map_seen : {A D : Type 0} (f : A → D) (g : D → List D) (h : A → List A) → ((x : A) → g (f x) ≡ map f (h x))
    → (l : List A) → flat_map g (map f l) ≡ map f (flat_map h l)
flat_map_seen f g h q [] = refl
flat_map_seen f g h q (x ∷ l) = ap (λ y. y ++ flat_map g (map f l)) (q x)
    ∙ ap (λ z. map f (h x) ++ z) (flat_map_seen f g h q l) ∙ sym (map-append f (h x) (flat_map h l))

module _ {B C : Type 0} (e : B → C) where
  abbrev seen : Point B → Point C
  seen = point_as e

  -- Steps.
  fork_seen : (b : B) (passed : List Reference) (handed : List Name) (o : Result (List Name) Cause) (p : Point B)
      → after_try_fork (e b) passed handed o (seen p) ≡ seen (after_try_fork b passed handed o p)
  fork_seen b passed handed (Ok left) p = ap (λ z. record (seen (after_fork b passed handed left p)) { children = z })
      (sym (map-append (task_as e) p.children (next_child b passed handed p ∷ [])))
  fork_seen b passed handed (Err c) p = refl

  set_seen : (s : Sort) (q : Name) (v : Value) (p : Point B) → after_set s q v (seen p) ≡ seen (after_set s q v p)
  set_seen sort.Task q v p = refl
  set_seen sort.Promise q v p = by (has q p.holds) where
    by : (b : Bool) → cond b (after_write q v (seen p)) (after_failure (cause.Owner q) (seen p))
        ≡ seen (cond b (after_write q v p) (after_failure (cause.Owner q) p))
    by true = refl
    by false = refl

  get_seen : (spare : Bool) (s : Sort) (q : Name) (p : Point B)
      → after_get spare s q (seen p) ≡ seen (after_get spare s q p)
  get_seen spare sort.Task q p = refl
  get_seen spare sort.Promise q p = refl

  join_seen : (strict spare : Bool) (s : Sort) (q : Name) (p : Point B)
      → after_join strict spare s q (seen p) ≡ seen (after_join strict spare s q p)
  join_seen strict spare sort.Promise q p = refl
  join_seen strict spare sort.Task q p = by (strict && not (before p.name q)) where
    by : (b : Bool) → cond b (after_failure (cause.Order q) (seen p)) (with_wait spare q (seen p))
        ≡ seen (cond b (after_failure (cause.Order q) p) (with_wait spare q p))
    by true = refl
    by false = refl

  ask_seen : (strict : Bool) (a : Ask B) (p : Point B) → after_ask strict (ask_as e a) (seen p) ≡ seen (after_ask strict a p)
  ask_seen strict (ask.Fork b pass hand) p = fork_seen b _ _ (hand_all p.holds (map (reference p) hand)) p
  ask_seen strict (ask.Set k v) p = set_seen (reference p k).sort (reference p k).name _ p
  ask_seen strict (ask.Get k) p = get_seen false (reference p k).sort (reference p k).name p
  ask_seen strict (ask.Join k) p = join_seen strict false (reference p k).sort (reference p k).name p
  ask_seen strict (ask.GetOr k) p = get_seen true (reference p k).sort (reference p k).name p
  ask_seen strict (ask.JoinOr k) p = join_seen strict true (reference p k).sort (reference p k).name p
  ask_seen strict a p = refl

  read_seen : (spare : Bool) (q : Name) (x : Entry) (p : Point B)
      → after_read spare q x (seen p) ≡ seen (after_read spare q x p)
  read_seen true q entry.Broken p = refl
  read_seen false q entry.Broken p = refl
  read_seen spare q (entry.Value (value.Num i)) p = refl
  read_seen spare q (entry.Value (value.Ref r)) p = refl

  look_seen : (spare : Bool) (q : Name) (o : Option Entry) (p : Point B)
      → after_look spare q o (seen p) ≡ seen (after_look spare q o p)
  look_seen spare q None p = refl
  look_seen spare q (Some x) p = read_seen spare q x p

  module _ (rules : Rules B) (other : Rules C) (s : AreSeenAs e rules other) where
    stage_seen : (V : Assignment) (st : PointStage) (p : Point B)
        → after_stage other V st (seen p) ≡ seen (after_stage rules V st p)
    stage_seen V (stage.Answered a) p =
        ap (λ z. after_ask z (other.asks (e p.body) a) (record (seen p) { body = other.then (e p.body) a })) s.strict
        ∙ ap (λ z. after_ask rules.strict z (record (seen p) { body = other.then (e p.body) a })) (s.asks p.body a)
        ∙ ap (λ z. after_ask rules.strict (ask_as e (rules.asks p.body a)) (record (seen p) { body = z }))
        (s.then p.body a)
        ∙ ask_seen rules.strict (rules.asks p.body a) (record p { body = rules.then p.body a })
    stage_seen V (stage.Waits q spare) p = look_seen spare q (V q) p
    stage_seen V (stage.Closed c) p = refl

    point_seen : (V : Assignment) (t : Task B) (k : ℕ)
        → point_after other V k (task_as e t) ≡ seen (point_after rules V k t)
    point_seen V t zero = refl
    point_seen V t (suc k) = ap (after_step other V) (point_seen V t k)
        ∙ stage_seen V (point_after rules V k t).stage (point_after rules V k t)

    history_seen : (V : Assignment) (t : Task B) → history other V (task_as e t) ≡ seen (history rules V t)
    history_seen V t = ap (λ n. point_after other V (2 * suc n) (task_as e t)) (s.left t.body)
        ∙ point_seen V t (2 * suc (rules.left t.body))

    -- histories are seen so
    pub histories_seen : HistoriesAreSeen e rules other
    histories_seen V t = (point_seen V t, history_seen V t)

    family_seen : (V : Assignment) (d : ℕ) (t : Task B)
        → family other V d (task_as e t) ≡ map (task_as e) (family rules V d t)
    family_seen V zero t = refl
    family_seen V (suc d) t = ap (λ z. task_as e t ∷ flat_map (family other V d) z.children) (history_seen V t)
        ∙ ap (λ z. task_as e t ∷ z) (flat_map_seen (task_as e) (family other V d) (family rules V d)
        (family_seen V d) (history rules V t).children)

    writes_seen : (V : Assignment) (t : Task B) → writes_by other V (task_as e t) ≡ writes_by rules V t
    writes_seen V t = ap (λ z. z.writes) (history_seen V t)

    cells_seen : (V : Assignment) (t : Task B) → cells_by other V (task_as e t) ≡ cells_by rules V t
    cells_seen V t = ap (λ z. t.name ∷ z.promises) (history_seen V t)

  -- Rounds.
  module _ (program : Program B) (other : Program C) (s : IsSeenAs e program other) where
    abbrev R : Rules B
    R = program.rules

    abbrev S : Rules C
    S = other.rules

    tasks_under : (V : Assignment) (d : ℕ)
        → family S V d (root_task other.root) ≡ map (task_as e) (family R V d (root_task program.root))
    tasks_under V d = ap (λ z. family S V d (root_task z)) s.root ∙ family_seen R S s.rules V d (root_task program.root)

    flat_under : {A : Type 0} (f : Task C → List A) (g : Task B → List A) → ((t : Task B) → f (task_as e t) ≡ g t)
        → (V : Assignment) (d : ℕ)
        → flat_map f (family S V d (root_task other.root)) ≡ flat_map g (family R V d (root_task program.root))
    flat_under f g same V d = ap (flat_map f) (tasks_under V d)
        ∙ flat_map_as (task_as e) f g same (family R V d (root_task program.root))

    written_under : (V : Assignment) (d : ℕ)
        → flat_map (writes_by S V) (family S V d (root_task other.root))
        ≡ flat_map (writes_by R V) (family R V d (root_task program.root))
    written_under V = flat_under (writes_by S V) (writes_by R V) (writes_seen R S s.rules V) V

    given_seen : (n : ℕ) → given other n ≡ given program n
    given_seen zero = refl
    given_seen (suc n) =
        ap (λ V. entry_in (flat_map (writes_by S V) (family S V (suc n) (root_task other.root)))) (given_seen n)
        ∙ ap entry_in (written_under (given program n) (suc n))

    tasks_seen : (n : ℕ) → tasks other n ≡ map (task_as e) (tasks program n)
    tasks_seen zero = refl
    tasks_seen (suc n) = ap (λ V. family S V (suc n) (root_task other.root)) (given_seen n)
        ∙ tasks_under (given program n) (suc n)

    entries_seen : (n : ℕ) → entries other n ≡ entries program n
    entries_seen zero = refl
    entries_seen (suc n) =
        ap (λ V. flat_map (writes_by S V) (family S V (suc n) (root_task other.root))) (given_seen n)
        ∙ written_under (given program n) (suc n)

    all_cells_seen : (n : ℕ) → cells other n ≡ cells program n
    all_cells_seen zero = refl
    all_cells_seen (suc n) =
        ap (λ V. flat_map (cells_by S V) (family S V (suc n) (root_task other.root))) (given_seen n)
        ∙ flat_under (cells_by S (given program n)) (cells_by R (given program n))
        (cells_seen R S s.rules (given program n)) (given program n) (suc n)

    -- rounds are seen so
    pub rounds_seen : (n : ℕ) → RoundsAreSeen e program other n
    rounds_seen n = record {
      given = given_seen n;
      tasks = tasks_seen n;
      entries = entries_seen n;
      cells = all_cells_seen n;
    }

    histories_of : (V : Assignment) (l : List (Task B))
        → map (history S V) (map (task_as e) l) ≡ map seen (map (history R V) l)
    histories_of V [] = refl
    histories_of V (t ∷ l) = ap (λ p. p ∷ map (history S V) (map (task_as e) l)) (history_seen R S s.rules V t)
        ∙ ap (λ z. seen (history R V t) ∷ z) (histories_of V l)

    -- the meaning is seen so
    pub meaning_seen : MeaningIsSeen e program other
    meaning_seen N = let n = last_round N in
        ap (λ V. map (history S V) (tasks other n)) (given_seen n)
        ∙ ap (map (history S (given program n))) (tasks_seen n) ∙ histories_of (given program n) (tasks program n)

-- The laws of one ask.
module _ {B C : Type 0} (e : B → C) (rules : Rules B) (other : Rules C) (s : AreSeenAs e rules other) where
  ends_seen : (q : Ask B) → Ends (ask_as e q) → Ends q
  ends_seen ask.New h = h
  ends_seen q h = h

  awaited_seen : (q : Ask B) → awaited (ask_as e q) ≡ awaited q
  awaited_seen ask.New = refl
  awaited_seen q = refl

  -- a body that is seen as a fresh one is fresh
  pub fresh_seen : (n : ℕ) (b : B) → IsFresh other.places other.awaits other.left n (e b)
      → IsFresh rules.places rules.awaits rules.left n b
  fresh_seen n b h = record {
    has_places = sym (s.places b) ∙ h.has_places;
    begins = sym (s.awaits b) ∙ h.begins;
    ends = subst (λ k. k ≤ most_left) (s.left b) h.ends;
  }

  placed_seen : (n : ℕ) (q : Ask B) → IsPlaced other.places other.awaits other.left n (ask_as e q)
      → IsPlaced rules.places rules.awaits rules.left n q
  placed_seen n (ask.Fork b pass hand) h =
      record { passed = h.passed; handed = h.handed; few = h.few; fresh = fresh_seen _ b h.fresh }
  placed_seen n q h = h

  -- bodies that are seen as others obey where those do
  pub obeys_seen : (b : B) (a : Answer)
      → Obeys other.places other.awaits other.left other.asks other.then (e b) a
      → Obeys rules.places rules.awaits rules.left rules.asks rules.then b a
  obeys_seen b a h fits = record {
    falls = ⊎_elim (λ z. inl (ends_seen q (subst Ends (s.asks b a) z)))
        (λ l. inr (subst (λ k. rules.left (rules.then b a) < k) (s.left b)
        (subst (λ k. k < other.left (e b)) now l))) x.falls;
    awaits_answer = sym (s.awaits (rules.then b a)) ∙ ap other.awaits (sym (s.then b a)) ∙ x.awaits_answer
        ∙ ap awaited (s.asks b a) ∙ awaited_seen q;
    adds_places = sym (s.places (rules.then b a)) ∙ ap other.places (sym (s.then b a)) ∙ x.adds_places
        ∙ ap (λ k. k + new_places a) (s.places b);
    placed = placed_seen (rules.places (rules.then b a)) q
        (subst (λ k. IsPlaced other.places other.awaits other.left k (ask_as e q))
        (ap other.places (s.then b a) ∙ s.places (rules.then b a))
        (subst (IsPlaced other.places other.awaits other.left (other.places (other.then (e b) a))) (s.asks b a)
        x.placed));
  } where
    q : Ask B
    q = rules.asks b a

    now : other.left (other.then (e b) a) ≡ rules.left (rules.then b a)
    now = ap other.left (s.then b a) ∙ s.left (rules.then b a)

    x : IsNext other.places other.awaits other.left other.asks other.then (e b) a
    x = h (subst (λ w. Fits w (other.places (e b)) a) (sym (s.awaits b))
        (subst (λ k. Fits (rules.awaits b) k a) (sym (s.places b)) fits))
