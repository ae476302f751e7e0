-- The steps of a call that blocks, in the log of its seat.
use Rattle.tj_detect.proofs.Prelude.{Alarm, Along, CellId, Ended, List, Next, None, Other, Own, Skipped, Some, Verdict}
use Rattle.tj_detect.proofs.Prelude.{Walked, Way, [], ap, inl, inr, refl, subst, suc, sym, ℕ, ⊎_elim, ◌<◌, ◌∙◌, ◌∷◌}
use Rattle.tj_detect.proofs.Prelude.{◌≡◌, ◌≢◌}
use Rattle.tj_detect.proofs.Prelude.{false, is_owner, owner_number, true}
use Rattle.std.proofs.Common.{append_assoc, eq-eqb, min, Option, ◌++◌}
use Rattle.std.proofs.lemmas.Bool.{eqb-true}
use Rattle.tj_log.specs.declared.entry.Entry.{Entry}
use Rattle.tj_words.specs.Steps.StepEvents.{wait_in}
use Rattle.tj_words.specs.declared.phase.Phase.{Phase}
use Rattle.tj_detect.specs.Inner.WalkHops.{MakesHop, MakesSecondLook}
use Rattle.tj_detect.specs.declared.blocking.Hop.{Hop}
use Rattle.tj_words.specs.CallLaws.StepCalls as call
use Rattle.tj_words.specs.CallLaws.StepLogs.{IsLogged, entry_of}
use Rattle.tj_detect.specs.BlockLogs.{EndsAtOwner, LogsBlock, Makes, MakesHops, MakesWalk, PassesOwner, Seat}
use Rattle.tj_detect.specs.BlockLogs.{ends_there, finds_own, first_steps, last_steps, owner_seen, passes_all, passes_one}
use Rattle.tj_detect.specs.BlockLogs.{phase_seen, wait_store}
use Rattle.tj_words.specs.declared.phase.Walk.TheVariants.{Walking}

-- an other wait isn't one along the order
pub not_along : {P : Type 0} (way : Way) → way ≡ Other → way ≡ Along → P
not_along way e d = let z : Other ≡ Along = sym e ∙ d in absurd (cc)

-- an owner that is this task, and one that isn't
owner_is : (o : Option ℕ) (u : ℕ) → is_owner o u ≡ true → o ≡ Some u
owner_is None u e = absurd (cc)
owner_is (Some x) u e = ap Some (eqb-true x u e)

owner_differs : (o : Option ℕ) (u : ℕ) → is_owner o u ≡ false → o ≢ Some u
owner_differs o u e is = let z : true ≡ false = sym (eq-eqb u u refl) ∙ subst (λ x. is_owner x u ≡ false) is e in
    absurd (cc)

module _ {B : Type 0} where
  -- steps after steps
  pub makes_on : (es ds : List Entry) (u v w : Seat B) → Makes es u v → Makes ds v w → Makes (ds ++ es) u w
  makes_on es ds u v w h g =
      (g.0 ∙ (ap (λ l. ds ++ l) h.0 ∙ sym (append_assoc ds es u.log)), g.1 ∙ h.1)

  -- OWN named this owner
  pub named : (p : ℕ) (u v : Seat B) {o o' : Option CellId} → o ≡ o'
      → Makes (owner_seen p (owner_number o) ∷ []) u v → Makes (owner_seen p (owner_number o') ∷ []) u v
  named p u v e h = subst (λ z. Makes (owner_seen p (owner_number z) ∷ []) u v) e h

  -- it named t itself
  pub named_own : (p t : ℕ) (u v : Seat B) {o : Option CellId} {w : CellId} → o ≡ Some w → w.0 ≡ t
      → Makes (owner_seen p (owner_number o) ∷ []) u v → Makes (owner_seen p (Some t) ∷ []) u v
  named_own p t u v e is h = subst (λ n. Makes (owner_seen p (Some n) ∷ []) u v) is (named p u v e h)

  -- it named the same owner again, which waits for a cell
  pub named_again : (p u : ℕ) (next : CellId) (was : Phase) (again : Option CellId) (a b c : Seat B)
      → wait_in was ≡ Some next.0 → is_owner (owner_number again) u ≡ true → Makes (phase_seen u was ∷ []) a b
      → Makes (owner_seen p (owner_number again) ∷ []) b c → MakesSecondLook p u (Next next) a c
  named_again p u next was again a b c waits same h k = (
    was,
    waits,
    makes_on (phase_seen u was ∷ []) (owner_seen p (Some u) ∷ []) a b c h
        (subst (λ o. Makes (owner_seen p o ∷ []) b c) (owner_is (owner_number again) u same) k),
  )

  -- it named another, or nobody
  pub named_other : (p u next : ℕ) (was : Phase) (again : Option CellId) (a b c : Seat B) → wait_in was ≡ Some next
      → is_owner (owner_number again) u ≡ false → Makes (phase_seen u was ∷ []) a b
      → Makes (owner_seen p (owner_number again) ∷ []) b c → MakesSecondLook p u Ended a c
  named_other p u next was again a b c waits other h k = inr (
    next,
    was,
    owner_number again,
    waits,
    owner_differs (owner_number again) u other,
    makes_on (phase_seen u was ∷ []) (owner_seen p (owner_number again) ∷ []) a b c h k,
  )

  -- the loads at a cell after the first load of OWN
  pub hop_on : (t p u : ℕ) (o : Hop) (a b c : Seat B) → u ≢ t → Makes (owner_seen p (Some u) ∷ []) a b
      → MakesSecondLook p u o b c → MakesHop t p o a c
  hop_on t p u (Next next) a b c ne h k = (
    u,
    k.0,
    ne,
    k.1,
    makes_on (owner_seen p (Some u) ∷ []) (owner_seen p (Some u) ∷ phase_seen u k.0 ∷ []) a b c h k.2,
  )
  hop_on t p u Ended a b c ne h k = inr (⊎_elim
      (λ (l : (was : Phase) × (wait_in was ≡ None) × Makes (phase_seen u was ∷ []) b c). inl (
        u,
        l.0,
        ne,
        l.1,
        makes_on (owner_seen p (Some u) ∷ []) (phase_seen u l.0 ∷ []) a b c h l.2,
      ))
      (λ (l : (next : ℕ) × (was : Phase) × (again : Option ℕ) × (wait_in was ≡ Some next) × (again ≢ Some u)
      × Makes (owner_seen p again ∷ phase_seen u was ∷ []) b c). inr (
        u,
        l.0,
        l.1,
        l.2,
        ne,
        l.3,
        l.4,
        makes_on (owner_seen p (Some u) ∷ []) (owner_seen p l.2 ∷ phase_seen u l.1 ∷ []) a b c h l.5,
      )) k)
  hop_on t p u Own a b c ne h k = absurd k

  -- a walk that has loaded COUNT, with so many owners left to pass: whatever loads come from its present cell on,
  -- together with those so far they are the loads of the walk
  pub record IsHopping (cells t q bound left present : ℕ) (old now : Seat B) : Type 0 where
    pub count : ℕ
    pub counted : Seat B
    pub bound_is : bound ≡ min count cells
    pub loads_count : IsLogged call.counts 0 0 count old counted
    pub hops : (verdict : Verdict) (new : Seat B) → MakesHops t left present verdict now new
        → MakesHops t bound q verdict counted new

  -- a walk has loaded COUNT
  pub counted_first : {cells t q bound left : ℕ} {u v : Seat B} (count : ℕ) → bound ≡ min count cells
      → IsLogged call.counts 0 0 count u v → left ≡ bound → IsHopping cells t q bound left q u v
  counted_first {cells} {t} {q} {bound} {left} {u} {v} count e h is = record {
    count = count;
    counted = v;
    bound_is = e;
    loads_count = h;
    hops = λ verdict new m. subst (λ n. MakesHops t n q verdict v new) is m;
  }

  module _ {cells t : ℕ} {q : CellId} {bound left present : ℕ} {u v : Seat B}
      (h : IsHopping cells t q.0 bound left present u v) where
    -- it has passed one owner more
    pub passed_more : {less next : ℕ} {w : Seat B} → left ≡ suc less → PassesOwner t present next v w
        → IsHopping cells t q.0 bound less next u w
    passed_more {less} {next} {w} e g = record {
      count = h.count;
      counted = h.counted;
      bound_is = h.bound_is;
      loads_count = h.loads_count;
      hops = λ verdict new m. h.hops verdict new (subst (λ n. MakesHops t n present verdict v new) (sym e)
          (passes_one less present next verdict v w new g m));
    }

    -- it has made all of its loads
    walk_made : (way : Way) (verdict : Verdict) (w x : Seat B) → MakesHops t left present verdict v w
        → Makes (last_steps verdict t q way) w x → MakesWalk cells t q way verdict u x
    walk_made way verdict w x m ends = record {
      count = h.count;
      counted = h.counted;
      walked = w;
      loads_count = h.loads_count;
      hops = subst (λ n. MakesHops t n q.0 verdict h.counted w) h.bound_is (h.hops verdict w m);
      ends = ends;
    }

    -- it is at its bound
    pub walk_through : (way : Way) → left ≡ 0 → MakesWalk cells t q way Walked u v
    walk_through way e = walk_made way Walked v v
        (subst (λ n. MakesHops t n present Walked v v) (sym e) (passes_all present v)) (refl, refl)

    -- it ends at an owner
    pub walk_ended : {w : Seat B} (less : ℕ) (way : Way) → left ≡ suc less → EndsAtOwner t present v w
        → MakesWalk cells t q way Walked u w
    walk_ended {w} less way e g = walk_made way Walked w w
        (subst (λ n. MakesHops t n present Walked v w) (sym e) (ends_there less present v w g)) (refl, refl)

    -- it has found its own task
    pub walk_alarmed : (less : ℕ) (way : Way) (w x : Seat B) → left ≡ suc less
        → Makes (owner_seen present (Some t) ∷ []) v w → Makes (last_steps Alarm t q way) w x
        → MakesWalk cells t q way Alarm u x
    walk_alarmed less way w x e g ends = walk_made way Alarm w x
        (subst (λ n. MakesHops t n present Alarm v w) (sym e) (finds_own less present v w g)) ends

  -- what a call that has walked leaves
  pub block_made : (cells t : ℕ) (q : CellId) (way : Way) (verdict : Verdict) (u v w : Seat B) (others : ℕ)
      → verdict ≢ Skipped → (way ≡ Along → 0 < others) → Makes (first_steps t q way others) u v
      → MakesWalk cells t q way verdict v w → LogsBlock cells t q way verdict u w
  block_made cells t q way Skipped u v w others n more begins walks = absurd (n refl)
  block_made cells t q way Alarm u v w others n more begins walks =
      record { others = others; some = more; begun = v; begins = begins; walks = walks }
  block_made cells t q way Walked u v w others n more begins walks =
      record { others = others; some = more; begun = v; begins = begins; walks = walks }

  -- the first steps of a wait along the order, and of an other wait
  pub along_steps : (t : ℕ) (q : CellId) (way : Way) → way ≡ Along → (u v w : Seat B) (k : ℕ)
      → Makes (wait_store t q way Walking ∷ []) u v → IsLogged (call.sees_others_by t) 0 0 k v w
      → Makes (first_steps t q Along k) u w
  along_steps t q way e u v w k h g = makes_on (wait_store t q Along Walking ∷ [])
      (entry_of (call.sees_others_by t) 0 0 k ∷ []) u v w
      (subst (λ y. Makes (wait_store t q y Walking ∷ []) u v) e h) g

  pub other_steps : (t : ℕ) (q : CellId) (way : Way) → way ≡ Other → (u v w : Seat B) (k : ℕ)
      → IsLogged (call.raises_others t) 1 0 k u v → Makes (wait_store t q way Walking ∷ []) v w
      → Makes (first_steps t q way k) u w
  other_steps t q way e u v w k h g = subst (λ y. Makes (first_steps t q y k) u w) (sym e)
      (makes_on (entry_of (call.raises_others t) 1 0 k ∷ []) (wait_store t q Other Walking ∷ []) u v w h
      (subst (λ y. Makes (wait_store t q y Walking ∷ []) v w) e g))
