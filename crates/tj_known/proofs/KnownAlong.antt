-- Each task that a task knows is one that it is before. What carries it is that each child which it may still fork, and
-- all that come from that child, are before it too: so a child that inherits what its parent knew is before that.
use Rattle.std.proofs.Common.{◌≡◌, ◌<◌, ℕ, suc, true, List, [], ◌∷◌, ◌++◌, refl, sym, subst, arith}
use Rattle.std.proofs.Common.{append_assoc, inl, inr}
use Rattle.tj_base.specs.ForkOrder.{Name, child, before, IsBefore}
use Rattle.tj_base.proofs.Orders.{before_tells, before-trans}
use Rattle.tj_mean.specs.ActLines.{HasAct, AreActLines}
use Rattle.tj_mean.specs.declared.act.Act.TheVariants as act
use Rattle.tj_mean.specs.declared.act.ActLine.{ActLine}
use Rattle.tj_known.specs.Knowledge.{Knows, stays, forks, inherits, learns}

-- what is before in words is so as computed
computed : (a b : Name) → IsBefore a b → before a b ≡ true
computed a b x = (before_tells a b (before a b) refl).1 x

-- and the other way round
in_words : (a b : Name) → before a b ≡ true → IsBefore a b
in_words a b h = (before_tells a b (before a b) refl).0 h

module _ (lines : List ActLine) where
  -- the children that t forked with its first n acts have numbers below k
  abbrev pub IsPast : Name → ℕ → ℕ → Type 0
  IsPast t n k = (m j : ℕ) → m < n → HasAct lines t m (act.Fork (child t j)) → j < k

  -- t is before u, and so are all that come from a child that it may fork after n acts
  pub record IsAlong (t : Name) (n : ℕ) (u : Name) : Type 0 where
    pub itself : before t u ≡ true
    pub later : (k : ℕ) (rest : Name) → IsPast t n k → before (t ++ k ∷ rest) u ≡ true

  -- a child that was forked: its parent is before it, and so are all that come from later children
  along_child : (t c : Name) (n j : ℕ) → c ≡ child t j → HasAct lines t n (act.Fork (child t j))
      → IsAlong t (suc n) c
  along_child t c n j e h = subst (λ d. IsAlong t (suc n) d) (sym e) (record {
    itself = computed t (child t j) (inl (record { number = j; rest = []; goes_on = refl }));
    later = λ k rest past. computed (t ++ k ∷ rest) (child t j) (inr (record {
      common = t;
      later = k;
      earlier = j;
      rest_of_a = rest;
      rest_of_b = [];
      a_is = refl;
      b_is = refl;
      larger = past n j (omega arith) h;
    }));
  })

  -- what is known before one act more
  along_more : (t u : Name) (n : ℕ) → IsAlong t n u → IsAlong t (suc n) u
  along_more t u n x = record {
    itself = x.itself;
    later = λ k rest past. x.later k rest (λ m j less. past m j (omega arith));
  }

  -- what a child inherits
  along_inherited : (t c u : Name) (n j : ℕ) → c ≡ child t j → IsPast t n j → IsAlong t n u → IsAlong c 0 u
  along_inherited t c u n j e past x = subst (λ d. IsAlong d 0 u) (sym e) (record {
    itself = x.later j [] past;
    later = λ k rest none. subst (λ a. before a u ≡ true) (sym (append_assoc t (j ∷ []) (k ∷ rest)))
        (x.later j (k ∷ rest) past);
  })

  -- what one learns of a task that is known
  along_learnt : (t u v : Name) (n m : ℕ) → IsAlong t n u → IsAlong u m v → IsAlong t (suc n) v
  along_learnt t u v n m x y = record {
    itself = before-trans t u v x.itself y.itself;
    later = λ k rest past. before-trans (t ++ k ∷ rest) u v
        (x.later k rest (λ i j less. past i j (omega arith))) y.itself;
  }

  module _ (fit : AreActLines lines) where
    -- each task that is known is along
    along : (t u : Name) (n : ℕ) → Knows lines t n u → IsAlong t n u
    along _ _ _ (stays t u n a h knew) = along_more t u n (along t u n knew)
    along _ _ _ (forks t c n h) =
        let own = fit.own_children t c n h in
        along_child t c n own.0 own.1 (subst (λ d. HasAct lines t n (act.Fork d)) own.1 h)
    along _ _ _ (inherits t c u n h knew) =
        let own = fit.own_children t c n h in
        let forked = subst (λ d. HasAct lines t n (act.Fork d)) own.1 h in
        along_inherited t c u n own.0 own.1 (λ m j less g. fit.numbers_rise t m n j own.0 less g forked)
        (along t u n knew)
    along _ _ _ (learns t u v n h knew told) = along_learnt t u v n _ (along t u n knew) (along u v _ told)

    -- a task is before each that it knows
    pub known_before : (t u : Name) (n : ℕ) → Knows lines t n u → IsBefore t u
    known_before t u n knew = in_words t u (along t u n knew).itself
