-- The statement that is ahead of those seen so far.
use Rattle.std.proofs.Common.{◌≡◌, ℕ, zero, suc, ◌+◌, ◌<◌, ◌≤◌, ◌⊎◌, inl, inr, List, [], ◌∷◌, ◌++◌}
use Rattle.std.proofs.Common.{refl, sym, ◌∙◌, subst, arith, ap, get_or, length, take, eqb-true}
use Rattle.std.proofs.Common.{Bool, true, false, ◌&&◌, ◌||◌, nat_eq}
use Rattle.std.proofs.lemmas.List.{take_all, take_more}
use Rattle.tj_body.specs.Points.{IsIn}
use Rattle.tj_trace.specs.MostOf.{IsMostOf, IsNotAfter, made_count, same_statement}
use Rattle.tj_trace.specs.declared.line.Maker.{Maker}
use Rattle.tj_trace.specs.declared.most.Most.{Most}

same_place : (m : Maker) → IsNotAfter m m
same_place m = inr (refl, omega arith)

no_later : (a b c : Maker) → IsNotAfter a b → IsNotAfter b c → IsNotAfter a c
no_later a b c (inl x) (inl y) = inl (omega arith)
no_later a b c (inl x) (inr y) = let e = y.0 in inl (omega arith)
no_later a b c (inr x) (inl y) = let e = x.0 in inl (omega arith)
no_later a b c (inr x) (inr y) = let l = x.1 in let k = y.1 in inr (x.0 ∙ y.0, omega arith)

either_in : {A : Type 0} (l : List A) (x y : A) → IsIn x (l ++ y ∷ []) → IsIn x l ⊎ (x ≡ y)
either_in [] x y (inl e) = inr e
either_in [] x y (inr i) = absurd i
either_in (z ∷ zs) x y (inl e) = inl (inl e)
either_in (z ∷ zs) x y (inr i) = by (either_in zs x y i) where
  by : IsIn x zs ⊎ (x ≡ y) → IsIn x (z ∷ zs) ⊎ (x ≡ y)
  by (inl j) = inl (inr j)
  by (inr e) = inr e

get_in : {A : Type 0} (l : List A) (n : ℕ) (d : A) → n < length l → IsIn (get_or l n d) l
get_in [] n d h = absurd (omega arith)
get_in (x ∷ xs) zero d h = inl refl
get_in (x ∷ xs) (suc n) d h = inr (get_in xs n d (omega arith))

pub same_default : {A : Type 0} (l : List A) (n : ℕ) (d e : A) → n < length l → get_or l n d ≡ get_or l n e
same_default [] n d e h = absurd (omega arith)
same_default (x ∷ xs) zero d e h = refl
same_default (x ∷ xs) (suc n) d e h = same_default xs n d e (omega arith)

-- the statement with so many
abbrev pub most_with : Maker → ℕ → Most
most_with m k = record { maker = m; count = k }

module _ (makers : List Maker) where
  -- none of those seen made more, and none that made as many stands earlier
  pub record IsAhead (seen : List Maker) (most : Most) : Type 0 where
    pub among : IsIn most.maker makers
    pub count : most.count ≡ made_count most.maker makers
    pub none_more : (m : Maker) → IsIn m seen → made_count m makers ≤ most.count
    pub first : (m : Maker) → IsIn m seen → made_count m makers ≡ most.count → IsNotAfter most.maker m

  -- at first nothing is seen
  pub none_seen : (most : Most) → IsIn most.maker makers → most.count ≡ made_count most.maker makers → IsAhead [] most
  none_seen most i e = record { among = i; count = e; none_more = λ m j. absurd j; first = λ m j. absurd j }

  module _ (seen : List Maker) (most next : Most) (h : IsAhead seen most) (among : IsIn next.maker makers)
      (count : next.count ≡ made_count next.maker makers) where
    -- the next one is no further
    pub stays_ahead : (next.count ≤ most.count) × (next.count ≡ most.count → IsNotAfter most.maker next.maker)
        → IsAhead (seen ++ next.maker ∷ []) most
    stays_ahead b = record {
      among = h.among;
      count = h.count;
      none_more = λ m i. more m (either_in seen m next.maker i);
      first = λ m i e. earlier m (either_in seen m next.maker i) e;
    }
      where
        more : (m : Maker) → IsIn m seen ⊎ (m ≡ next.maker) → made_count m makers ≤ most.count
        more m (inl j) = h.none_more m j
        more m (inr e) = subst (λ z. made_count z makers ≤ most.count) (sym e)
            (let l = b.0 in let c = count in omega arith)

        earlier : (m : Maker) → IsIn m seen ⊎ (m ≡ next.maker) → made_count m makers ≡ most.count
            → IsNotAfter most.maker m
        earlier m (inl j) e = h.first m j e
        earlier m (inr g) e = subst (λ z. IsNotAfter most.maker z) (sym g)
            (b.1 (count ∙ subst (λ z. made_count z makers ≡ most.count) g e))

    -- the next one is ahead
    pub gets_ahead : (most.count < next.count) ⊎ ((next.count ≡ most.count) × IsNotAfter next.maker most.maker)
        → IsAhead (seen ++ next.maker ∷ []) next
    gets_ahead b = record {
      among = among;
      count = count;
      none_more = λ m i. more b m (either_in seen m next.maker i);
      first = λ m i e. earlier b m (either_in seen m next.maker i) e;
    }
      where
        more : (most.count < next.count) ⊎ ((next.count ≡ most.count) × IsNotAfter next.maker most.maker)
            → (m : Maker) → IsIn m seen ⊎ (m ≡ next.maker) → made_count m makers ≤ next.count
        more (inl l) m (inl j) = let k = h.none_more m j in omega arith
        more (inr l) m (inl j) = let k = h.none_more m j in let e = l.0 in omega arith
        more c m (inr e) = subst (λ z. made_count z makers ≤ next.count) (sym e) (let d = count in omega arith)

        earlier : (most.count < next.count) ⊎ ((next.count ≡ most.count) × IsNotAfter next.maker most.maker)
            → (m : Maker) → IsIn m seen ⊎ (m ≡ next.maker) → made_count m makers ≡ next.count
            → IsNotAfter next.maker m
        earlier (inl l) m (inl j) e = let k = h.none_more m j in absurd (omega arith)
        earlier (inr l) m (inl j) e = no_later next.maker most.maker m l.1 (h.first m j (e ∙ l.0))
        earlier c m (inr g) e = subst (λ z. IsNotAfter next.maker z) (sym g) (same_place next.maker)

  -- where all are seen it is the most
  pub all_seen : (n : ℕ) (most : Most) → length makers ≤ n → IsAhead (take n makers) most → IsMostOf makers most
  all_seen n most l a =
      let h = subst (λ s. IsAhead s most) (take_all n makers l) a in
      record { among = h.among; count = h.count; none_more = h.none_more; first = h.first }

  -- one more is seen
  module _ (n : ℕ) (within : n < length makers) (most next : Most) (h : IsAhead (take n makers) most) (m : Maker)
      (is : m ≡ get_or makers n m) (next_is : next ≡ record { maker = m; count = made_count m makers }) where
    more : take (n + 1) makers ≡ take n makers ++ m ∷ []
    more = take_more makers n m within ∙ ap (λ z. take n makers ++ z ∷ []) (sym is)

    among : IsIn next.maker makers
    among = subst (λ (z : Most). IsIn z.maker makers) (sym next_is)
        (subst (λ z. IsIn z makers) (sym is) (get_in makers n m within))

    count : next.count ≡ made_count next.maker makers
    count = subst (λ (z : Most). z.count ≡ made_count z.maker makers) (sym next_is) refl

    seen : take n makers ++ next.maker ∷ [] ≡ take (n + 1) makers
    seen = ap (λ (z : Most). take n makers ++ z.maker ∷ []) next_is ∙ sym more

    -- it is no further
    pub more_stays : (next.count ≤ most.count) × (next.count ≡ most.count → IsNotAfter most.maker next.maker)
        → IsAhead (take (n + 1) makers) most
    more_stays b = subst (λ l. IsAhead l most) seen (stays_ahead (take n makers) most next h among count b)

    -- it is ahead
    pub more_gets : (most.count < next.count) ⊎ ((next.count ≡ most.count) × IsNotAfter next.maker most.maker)
        → IsAhead (take (n + 1) makers) next
    more_gets b = subst (λ l. IsAhead l next) seen (gets_ahead (take n makers) most next h among count b)
