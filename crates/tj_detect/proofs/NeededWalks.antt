-- A walk that has ended by a load was needed: on a wait along the order no owner is read but after OTHERS was read above
-- 0.
use Rattle.tj_detect.proofs.Prelude.{Alarm, EndsWith, IsLoad, IsWalkOf, MayCount, MayReadOwner, Skipped, Verdict}
use Rattle.tj_detect.proofs.Prelude.{Walked, Walker, Way, ap, count_read, inl, inr, others_read, refl, start_walk}
use Rattle.tj_detect.proofs.Prelude.{subst, sym, walk_again, walk_wait, ℕ, ⊎_elim, ◌∙◌, ◌≡◌, ◌⊎◌}
use Rattle.tj_events.specs.declared.walk.LastRead.{LastRead}
use Rattle.tj_events.specs.declared.walk.LastRead.TheVariants.{Published, SawOthers}
use Rattle.tj_detect.specs.Blocks.{IsWalkFrom, IsNeeded, WasNeeded, walk_first, walk_others, walk_count, walk_owner}

-- no owner is read where the walk has only been published, or has only read OTHERS
abbrev no_owner : LastRead → Type 0
no_owner Published = Unit {0}
no_owner (SawOthers n) = Unit {0}
no_owner _ = ⊥

-- what was read of OTHERS
abbrev others_of : LastRead → ℕ
others_of (SawOthers n) = n
others_of _ = 0

module _ (t : ℕ) (way : Way) where
  -- the walk is at its start, has only read OTHERS, or was needed
  abbrev Begun : Walker → Type 0
  Begun w = (w ≡ start_walk) ⊎ ((n : ℕ) × (w ≡ others_read n start_walk)) ⊎ IsNeeded t way w

  -- a read that comes neither first nor after OTHERS alone leaves a needed walk needed
  goes_on : (w w' : Walker) → Begun w → ¬ no_owner w.last
      → ((first : Walker) → IsWalkFrom t way first w → IsWalkFrom t way first w')
      → IsNeeded t way w'
  goes_on w w' b not step = ⊎_elim
      (λ (e : w ≡ start_walk). absurd (not (subst (λ (z : Walker). no_owner z.last) (sym e) tt)))
      (λ h. ⊎_elim
      (λ (e : (n : ℕ) × (w ≡ others_read n start_walk)).
      absurd (not (subst (λ (z : Walker). no_owner z.last) (sym e.1) tt)))
      (λ (d : IsNeeded t way w). needed_on d) h) b
    where
      needed_on : IsNeeded t way w → IsNeeded t way w'
      needed_on (inl o) = inl o
      needed_on (inr k) = inr (k.0, k.1, step (others_read k.0 start_walk) k.2)

  reads_owner : (w : Walker) → MayReadOwner w → ¬ no_owner w.last
  reads_owner w (inl e) z = subst no_owner e z
  reads_owner w (inr e) z = subst no_owner e.0 z

  counts_on : (w : Walker) (n : ℕ) → Begun w → MayCount way w
      → ((first : Walker) → IsWalkFrom t way first w → IsWalkFrom t way first (count_read n w))
      → IsNeeded t way (count_read n w)
  counts_on w n b (inl h) step = inl h.0
  counts_on w n (inl e) (inr h) step =
      let z : Published ≡ SawOthers h.0 = sym (ap (λ (k : Walker). k.last) e) ∙ h.1 in absurd (cc)
  counts_on w n (inr (inl e)) (inr h) step =
      let same : e.0 ≡ h.0 = sym (ap (λ (k : Walker). others_of k.last) e.1) ∙ ap others_of h.1 in
      inr (
        h.0,
        h.2,
        step (others_read h.0 start_walk)
            (subst (λ (k : Walker). IsWalkFrom t way (others_read h.0 start_walk) k)
            (sym (e.1 ∙ ap (λ k. others_read k start_walk) same)) walk_first),
      )
  counts_on w n (inr (inr (inl o))) (inr h) step = inl o
  counts_on w n (inr (inr (inr k))) (inr h) step = inr (k.0, k.1, step (others_read k.0 start_walk) k.2)

  begun : (w : Walker) → IsWalkOf t way w → Begun w
  begun _ walk_first = inl refl
  begun _ (walk_others w n h may) = by (begun w h)
    where
      by : Begun w → Begun (others_read n w)
      by (inl e) = inr (inl (n, ap (others_read n) e))
      by (inr (inl e)) =
          let z : SawOthers e.0 ≡ Published = sym (ap (λ (k : Walker). k.last) e.1) ∙ may.1 in absurd (cc)
      by (inr (inr (inl o))) = inr (inr (inl o))
      by (inr (inr (inr k))) = inr (inr (inr (k.0, k.1, walk_others w n k.2 may)))
  begun _ (walk_count w n h may) = inr (inr (counts_on w n (begun w h) may (λ f k. walk_count w n k may)))
  begun _ (walk_owner w o h may) =
      inr (inr (goes_on w _ (begun w h) (reads_owner w may) (λ f k. walk_owner w o k may)))
  begun _ (walk_wait w u o h may) = inr (inr (goes_on w _ (begun w h) (λ z. subst no_owner may.0 z) (λ f k. walk_wait w u o k may)))
  begun _ (walk_again w u v o h e) =
      inr (inr (goes_on w _ (begun w h) (λ z. subst no_owner e z) (λ f k. walk_again w u v o k e)))

  pub needed : (verdict : Verdict) (w : Walker) → IsWalkOf t way w → EndsWith verdict t way w
      → WasNeeded verdict t way w
  needed Alarm w h e = tt
  needed Walked w h e = by (begun w h)
    where
      by : Begun w → IsNeeded t way w
      by (inl s) = absurd (subst (λ (k : Walker). IsLoad k.last) s e.1)
      by (inr (inl s)) = absurd (subst (λ (k : Walker). IsLoad k.last) s.1 e.1)
      by (inr (inr n)) = n
  needed Skipped w h e = tt
