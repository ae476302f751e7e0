-- What an event keeps for those that take no part in it.
use Rattle.std.proofs.Common.{◌≡◌, ◌⊎◌, ℕ, ◌<◌, ◌≤◌, List, [], ◌∷◌, Option, Some, None, sym, ap, ◌∙◌, subst}
use Rattle.std.proofs.Common.{inl, inr, ⊎_elim, lt_of_lt_of_le}
use Rattle.tj_events.specs.CoreState.{CoreState, owner, name, maker, stage, wait, IsTask, HasBegun, IsClosed, present}
use Rattle.tj_events.specs.declared.walk.LastRead.{LastRead}
use Rattle.tj_events.specs.declared.walk.LastRead.TheVariants.{Published, SawOthers, Counted, SawOwner, SawWait, Passed}
use Rattle.tj_events.specs.declared.walk.LastRead.TheVariants.{Changed}
use Rattle.tj_events.specs.declared.walk.TrailLink.{TrailLink}
use Rattle.tj_events.specs.declared.walk.Walker.{Walker}
use Rattle.tj_events.specs.WaitGraph.{Leads}
use Rattle.tj_events.specs.Facts.{IsLinked, IsTrail, IsLastRead, IsPresentChain, IsOnCourse, AreNextsThere, IsReadThere}

-- from s to s' cells are added and closed for good; who waits owns on, and waits on unless its cell is closed; no cell
-- that was there is gained by a task that had begun; who gives a cell away has begun; names, makers and tasks stay
pub record Frame (s s' : CoreState) : Type 0 where
  pub grows : s.count ≤ s'.count
  pub closes : (c : ℕ) → IsClosed s.count s.cells c → IsClosed s'.count s'.cells c
  pub owns : (c u w : ℕ) → owner s.cells c ≡ Some u → wait s.cells u ≡ Some w → owner s'.cells c ≡ Some u
  pub waited : (u w : ℕ) → wait s.cells u ≡ Some w → (wait s'.cells u ≡ Some w) ⊎ IsClosed s.count s.cells w
  pub back : (c u : ℕ)
      → c < s.count → HasBegun (stage s.cells u) → owner s'.cells c ≡ Some u → owner s.cells c ≡ Some u
  pub begins : (u : ℕ) → HasBegun (stage s.cells u) → HasBegun (stage s'.cells u)
  pub gives : (c u : ℕ) → owner s.cells c ≡ Some u → (owner s'.cells c ≡ Some u) ⊎ HasBegun (stage s'.cells u)
  pub names : (c : ℕ) → c < s.count → name s'.cells c ≡ name s.cells c
  pub makers : (c : ℕ) → c < s.count → maker s'.cells c ≡ maker s.cells c
  pub makes : (c : ℕ) → c < s.count → (s.cells c).made ≤ (s'.cells c).made
  pub tasks : (c : ℕ) → IsTask s.cells c → IsTask s'.cells c

-- an option isn't both a value and none
pub some_none : {P : Type 0} {u : ℕ} {o : Option ℕ} → o ≡ Some u → o ≡ None → P
some_none a b = let e = sym a ∙ b in absurd (cc)

module _ (s s' : CoreState) (f : Frame s s') where
  -- a trail's next cells stay there
  pub nexts_stay : (ls : List TrailLink) → AreNextsThere s.count ls → AreNextsThere s'.count ls
  nexts_stay [] h = tt
  nexts_stay (l ∷ ls) h = (lt_of_lt_of_le h.0 f.grows, nexts_stay ls h.1)

  -- a cell that was read stays there
  pub read_stays : (a : LastRead) → IsReadThere s.count a → IsReadThere s'.count a
  read_stays (SawWait u (Some v)) h = lt_of_lt_of_le h f.grows
  read_stays a h = h

  -- what goes on while the wait of u for w does goes on, or the cell is closed
  or_closed : (u w : ℕ) (P Q : Type 0) → (P → wait s.cells u ≡ Some w) → (P → wait s'.cells u ≡ Some w → Q)
      → P ⊎ IsClosed s.count s.cells w → Q ⊎ IsClosed s'.count s'.cells w
  or_closed u w P Q waits on h = ⊎_elim
      (λ (p : P). ⊎_elim
      (λ (e : wait s'.cells u ≡ Some w). inl (on p e))
      (λ (k : IsClosed s.count s.cells w). inr (f.closes w k))
      (f.waited u w (waits p)))
      (λ (k : IsClosed s.count s.cells w). inr (f.closes w k))
      h

  -- who waits waits on, or its cell is closed
  pub waits_on : (u w : ℕ)
      → (wait s.cells u ≡ Some w) ⊎ IsClosed s.count s.cells w
      → (wait s'.cells u ≡ Some w) ⊎ IsClosed s'.count s'.cells w
  waits_on u w h = or_closed u w (wait s.cells u ≡ Some w) (wait s'.cells u ≡ Some w) (λ e. e) (λ _ e. e) h

  linked_stays : (c u w : ℕ)
      → IsLinked s.cells c u w ⊎ IsClosed s.count s.cells w
      → IsLinked s'.cells c u w ⊎ IsClosed s'.count s'.cells w
  linked_stays c u w h = or_closed u w (IsLinked s.cells c u w) (IsLinked s'.cells c u w)
      (λ l. l.1) (λ l e. (f.owns c u w l.0 l.1, e)) h

  -- a trail stays one
  pub trail_stays : (t p : ℕ) (ls : List TrailLink)
      → IsTrail s.count s.cells t p ls → IsTrail s'.count s'.cells t p ls
  trail_stays t p [] h = tt
  trail_stays t p (l ∷ ls) h = (h.0, linked_stays (present p ls) l.owner l.next h.1, trail_stays t p ls h.2)

  owner_stays : (t p c u : ℕ)
      → wait s.cells t ≡ Some p
      → ((owner s.cells c ≡ Some u) ⊎ HasBegun (stage s.cells u)) × (u ≡ t → owner s.cells c ≡ Some t)
      → ((owner s'.cells c ≡ Some u) ⊎ HasBegun (stage s'.cells u)) × (u ≡ t → owner s'.cells c ≡ Some t)
  owner_stays t p c u w r = (
    ⊎_elim (λ (e : owner s.cells c ≡ Some u). f.gives c u e)
        (λ (b : HasBegun (stage s.cells u)). inr (f.begins u b)) r.0,
    λ e. f.owns c t p (r.1 e) w,
  )

  -- what a walker last read holds as far as it did
  pub last_read_stays : (t p c : ℕ) (tr : List TrailLink) (a : LastRead)
      → c < s.count
      → wait s.cells t ≡ Some p
      → IsLastRead s.count s.cells t c tr a
      → IsLastRead s'.count s'.cells t c tr a
  last_read_stays t p c tr (SawOwner None) h w r = tt
  last_read_stays t p c tr (SawOwner (Some u)) h w r = owner_stays t p c u w r
  last_read_stays t p c tr (SawWait u (Some v)) h w r =
      (r.0, f.begins u r.1, λ e. waits_on u v (r.2 (f.back c u h r.1 e)))
  last_read_stays t p c tr Passed h w r = tt
  last_read_stays t p c tr Changed h w r = tt
  last_read_stays t p c tr a h w r = r

  -- a wait for an owned cell goes on
  pub wait_stays : (u w v : ℕ) → wait s.cells u ≡ Some w → owner s.cells w ≡ Some v → wait s'.cells u ≡ Some w
  wait_stays u w v a b = ⊎_elim
      (λ (e : wait s'.cells u ≡ Some w). e)
      (λ (k : IsClosed s.count s.cells w). some_none b k.1)
      (f.waited u w a)

  -- a chain of present waits to an owned cell stands still
  pub chain_stays : (p v : ℕ) (ls : List TrailLink)
      → owner s.cells (present p ls) ≡ Some v → IsPresentChain s.cells p ls → IsPresentChain s'.cells p ls
  chain_stays p v [] o h = tt
  chain_stays p v (l ∷ ls) o h = (
    (f.owns (present p ls) l.owner l.next h.0.0 h.0.1, wait_stays l.owner l.next v h.0.1 o),
    chain_stays p l.owner ls h.0.0 h.1,
  )

  -- a step of the wait graph to a task that leads on is kept
  pub leads_stays : (t u v : ℕ) → Leads s.cells t u → Leads s.cells u v → Leads s'.cells t u
  leads_stays t u v a b = (a.0, wait_stays t a.0 u a.1 a.2, f.owns a.0 u b.0 a.2 b.1)

  -- the owner v of the present cell waits for an owned cell
  abbrev IsOwnedOn : ℕ → ℕ → List TrailLink → Type 0
  IsOwnedOn p v ls = (owner s.cells (present p ls) ≡ Some v)
      × ((x : ℕ) × (wait s.cells v ≡ Some x) × ((y : ℕ) × (owner s.cells x ≡ Some y)))

  -- a walker on course stays on course where the owner of its present cell leads on
  pub course_stays : (n p v : ℕ) (w : Walker) (a : LastRead)
      → IsOwnedOn p v w.trail → IsOnCourse s.cells n p w a → IsOnCourse s'.cells n p w a
  course_stays n p v w Published o h = tt
  course_stays n p v w Counted o h = (h.0, h.1, chain_stays p v w.trail o.0 h.2)
  course_stays n p v w (SawOwner k) o h = (
    (h.0.0, h.0.1, chain_stays p v w.trail o.0 h.0.2),
    (h.1.0, h.1.1, f.owns (present p w.trail) v o.1.0 o.0 o.1.1 ∙ (sym o.0 ∙ h.1.2)),
  )
  course_stays n p v w (SawWait u k) o h =
      let e : Some u ≡ Some v = sym h.1 ∙ o.0 in
      let u-v : u ≡ v = cc in
      let waits_on' : wait s'.cells v ≡ Some o.1.0 = wait_stays v o.1.0 o.1.2.0 o.1.1 o.1.2.1 in (
        (h.0.0, h.0.1, chain_stays p v w.trail o.0 h.0.2),
        f.owns (present p w.trail) v o.1.0 o.0 o.1.1 ∙ sym e,
        (
          h.2.0,
          h.2.1,
          subst (λ z. wait s'.cells z ≡ k) (sym u-v)
              (waits_on' ∙ (sym o.1.1 ∙ (ap (wait s.cells) (sym u-v) ∙ h.2.2))),
        ),
      )
  course_stays n p v w Passed o h = (h.0, h.1, chain_stays p v w.trail o.0 h.2)
  course_stays n p v w a o h = h
