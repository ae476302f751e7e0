-- What it is for two readings to be alike, of inputs whose tokens begin alike, and the steps that every rule is made
-- of.
use Rattle.std.proofs.Common.{◌≡◌, ℕ, suc, ◌≤◌, ◌<◌, Bool, true, false, cond, List, [], ◌∷◌, ◌++◌, length, drop}
use Rattle.std.proofs.Common.{Option, None, Ok, Err, refl, ap, sym, ◌∙◌, subst, arith, length-append, nat_eq, ◌⊎◌, inl}
use Rattle.std.proofs.Common.{inr, ⊎_elim}
use Rattle.tj_lex.specs.declared.token.Tok.{Tok}
use Rattle.tj_syntax.specs.declared.fault.Breach.{Breach}
use Rattle.tj_syntax.specs.declared.fault.Stop.{Stop}
use Rattle.tj_syntax.specs.declared.fault.Stop.TheVariants as stop
use Rattle.tj_syntax.specs.Marks.{Name}
use Rattle.tj_syntax.specs.Inner.Input.{Head, Input, Outcome, Parser, and_then, ◌>>=◌, ◌>>◌, ◌<$>◌, first, pure, skip}
use Rattle.tj_syntax.specs.Inner.Input.{refuse, breaks}
use Rattle.tj_syntax.proofs.Complete.Steps.{at}
use Rattle.tj_syntax.proofs.Complete.Task.{some_left}

-- why a token stops a reading
pub data Cause : Type 0 where
  refused : Cause
  broke : Breach → Cause

-- the stop at a token, where so many tokens are left from it on
abbrev pub stop_for : Cause → ℕ → Stop
stop_for refused left = stop.Expected left
stop_for (broke b) left = stop.Broken b left

-- how many tokens are left where a reading stopped
abbrev pub left_at : Stop → ℕ
left_at (stop.Expected left) = left
left_at (stop.Broken b left) = left
left_at stop.NoMain = 0
left_at (stop.MainParams left) = left
left_at stop.Oom = 0

-- how many tokens are left behind a reading
abbrev pub left_behind : {A : Type 0} → Outcome A → ℕ
left_behind (Ok p) = length p.1.ahead
left_behind (Err e) = left_at e

-- The outcomes of two readings, of a list that ends in `x` and of one that ends in `y`: both are read equally far
-- before these ends, or stop for the same cause there; or the first has gone into its end.
pub data Alike (x y : List Tok) {A K : Type 0} (see : A → K) (n m : ℕ) : Outcome A → Outcome A → Type 0 where
  read : (before : List Tok) (vars : List Name) (heads heads' : List Head) (flaw flaw' : Option Stop) (a b : A)
      → see a ≡ see b
      → length (before ++ x) ≤ n → length (before ++ y) ≤ m
      → Alike x y see n m (Ok (a, at heads (before ++ x) vars flaw)) (Ok (b, at heads' (before ++ y) vars flaw'))
  stopped : (before : List Tok) (cause : Cause)
      → Alike x y see n m (Err (stop_for cause (length (before ++ x)))) (Err (stop_for cause (length (before ++ y))))
  gone : (r s : Outcome A) → left_behind r < length x → Alike x y see n m r s

-- a reading leaves no more tokens than there were
pub record Narrow {A : Type 0} (p : Parser A) : Type 0 where
  pub stays : (i : Input) → left_behind (p i) ≤ length i.ahead

-- Two rules read alike: inputs of n and m tokens at most to inputs of n' and m' at most.
pub record Local (n m n' m' : ℕ) {A K : Type 0} (see : A → K) (p q : Parser A) : Type 0 where
  pub narrow : Narrow p
  pub alike : (x y before : List Tok) (vars : List Name) (heads heads' : List Head) (flaw flaw' : Option Stop)
      → first x ≡ first y
      → length (before ++ x) ≤ n → length (before ++ y) ≤ m
      → Alike x y see n' m' (p (at heads (before ++ x) vars flaw)) (q (at heads' (before ++ y) vars flaw'))

pub bind_narrow : {A B : Type 0} {p : Parser A} {f : A → Parser B} → Narrow p → ((a : A) → Narrow (f a))
    → Narrow (p >>= f)
bind_narrow {A} {B} {p} {f} h k = record { stays = λ i. by i (p i) (h.stays i) }
  where
    by : (i : Input) (r : Outcome A) → left_behind r ≤ length i.ahead → left_behind (and_then r f) ≤ length i.ahead
    by i (Ok (a, j)) e = let more : left_behind (f a j) ≤ length j.ahead = (k a).stays j in omega arith
    by i (Err e) h' = h'

pub pure_narrow : {A : Type 0} (a : A) → Narrow (pure a)
pure_narrow a = record { stays = λ i. omega arith }

pub bind_local : {A B K L : Type 0} {n m n' m' n'' m'' : ℕ} {see : A → K} {view : B → L} {p q : Parser A}
    {f g : A → Parser B}
    → Local n m n' m' see p q → ((a b : A) → see a ≡ see b → Local n' m' n'' m'' view (f a) (g b))
    → Local n m n'' m'' view (p >>= f) (q >>= g)
bind_local {A} {B} {K} {L} {n} {m} {n'} {m'} {n''} {m''} {see} {view} {p} {q} {f} {g} h k = record {
  narrow = bind_narrow h.narrow (λ a. (k a a refl).narrow);
  alike = λ x y before vars heads heads' flaw flaw' same small small'.
      by x y same (p (at heads (before ++ x) vars flaw)) (q (at heads' (before ++ y) vars flaw'))
      (h.alike x y before vars heads heads' flaw flaw' same small small');
}
  where
    by : (x y : List Tok) → first x ≡ first y → (r s : Outcome A) → Alike x y see n' m' r s
        → Alike x y view n'' m'' (and_then r f) (and_then s g)
    by x y same r s (read before vars heads heads' flaw flaw' a b e small small') =
        (k a b e).alike x y before vars heads heads' flaw flaw' same small small'
    by x y same r s (stopped before cause) = stopped before cause
    by x y same (Ok (a, j)) s (gone r t e) = gone _ _
        (let more : left_behind (f a j) ≤ length j.ahead = (k a a refl).narrow.stays j in omega arith)
    by x y same (Err e) s (gone r t h') = gone _ _ h'

-- nothing of a value is looked at
abbrev pub any : {A : Type 0} → A → Unit {0}
any a = tt

-- the value is looked at
abbrev pub it : {A : Type 0} → A → A
it a = a

-- rules that may take nothing
abbrev pub Loose : {A K : Type 0} → (A → K) → Parser A → Parser A → Type 0
Loose see p q = (n m : ℕ) → Local n m n m see p q

-- rules that take a token
abbrev pub Strict : {A K : Type 0} → (A → K) → Parser A → Parser A → Type 0
Strict see p q = (n m : ℕ) → Local (suc n) (suc m) n m see p q

pub wider : {A K : Type 0} {x y : List Tok} {see : A → K} {n m n' m' : ℕ} {r s : Outcome A} → n ≤ n' → m ≤ m'
    → Alike x y see n m r s → Alike x y see n' m' r s
wider h h' (read before vars heads heads' flaw flaw' a b e small small') =
    read before vars heads heads' flaw flaw' a b e (omega arith) (omega arith)
wider h h' (stopped before cause) = stopped before cause
wider h h' (gone r s e) = gone r s e

pub weaker : {A K : Type 0} {see : A → K} {p q : Parser A} (a b c d n m n' m' : ℕ) → n ≤ a → m ≤ b → c ≤ n' → d ≤ m'
    → Local a b c d see p q → Local n m n' m' see p q
weaker a b c d n m n' m' e e' u u' h = record {
  narrow = h.narrow;
  alike = λ x y before vars heads heads' flaw flaw' same small small'.
      wider u u' (h.alike x y before vars heads heads' flaw flaw' same (omega arith) (omega arith));
}

-- what takes a token may also be said to take none
pub loose : {A K : Type 0} {see : A → K} {p q : Parser A} → Strict see p q → Loose see p q
loose h n m = weaker (suc n) (suc m) n m n m n m (omega arith) (omega arith) (omega arith) (omega arith) (h n m)

-- inputs of one token more
pub strictly : {A K : Type 0} {see : A → K} {p q : Parser A} (n m : ℕ) → Local (suc n) (suc m) n m see p q
    → Local (suc n) (suc m) (suc n) (suc m) see p q
strictly n m h = weaker (suc n) (suc m) n m (suc n) (suc m) (suc n) (suc m) (omega arith) (omega arith) (omega arith)
    (omega arith) h

pub see_less : {A K L : Type 0} {see : A → K} {view : A → L} {p q : Parser A} {n m n' m' : ℕ}
    → ((a b : A) → see a ≡ see b → view a ≡ view b)
    → Local n m n' m' see p q → Local n m n' m' view p q
see_less {A} {K} {L} {see} {view} {p} {q} {n} {m} {n'} {m'} less h = record {
  narrow = h.narrow;
  alike = λ x y before vars heads heads' flaw flaw' same small small'. by
      (h.alike x y before vars heads heads' flaw flaw' same small small');
}
  where
    by : {x y : List Tok} {r s : Outcome A} → Alike x y see n' m' r s → Alike x y view n' m' r s
    by (read before vars heads heads' flaw flaw' a b e small small') =
        read before vars heads heads' flaw flaw' a b (less a b e) small small'
    by (stopped before cause) = stopped before cause
    by (gone r s e) = gone r s e

pub pure_local : {A K : Type 0} {see : A → K} {a b : A} → see a ≡ see b → Loose see (pure a) (pure b)
pure_local {a = a} {b = b} e n m = record {
  narrow = pure_narrow a;
  alike = λ x y before vars heads heads' flaw flaw' same small small'. read before vars heads heads' flaw flaw' a b e
      small small';
}

pub stop_local : {A K : Type 0} {see : A → K} (cause : Cause) (n m n' m' : ℕ)
    → Local n m n' m' see (λ i. Err (stop_for cause (length i.ahead))) (λ i. Err (stop_for cause (length i.ahead)))
stop_local cause n m n' m' = record {
  narrow = record { stays = λ i. by cause (length i.ahead) };
  alike = λ x y before vars heads heads' flaw flaw' same small small'. stopped before cause;
}
  where
    by : (cause : Cause) (n : ℕ) → left_at (stop_for cause n) ≤ n
    by refused n = omega arith
    by (broke b) n = omega arith

pub refuse_local : {A K : Type 0} {see : A → K} (n m n' m' : ℕ) → Local n m n' m' see refuse refuse
refuse_local n m n' m' = stop_local refused n m n' m'

pub breaks_local : {A K : Type 0} {see : A → K} (b : Breach) (n m n' m' : ℕ) → Local n m n' m' see (breaks b) (breaks b)
breaks_local b n m n' m' = stop_local (broke b) n m n' m'

no_first : (y : List Tok) → None ≡ first y → y ≡ []
no_first [] e = refl
no_first (t ∷ y) e = absurd (cc)

drop_one : (l : List Tok) → length (drop 1 l) ≤ length l
drop_one [] = omega arith
drop_one (t ∷ l) = omega arith

pub skip_local : Strict any skip skip
skip_local n m = record { narrow = record { stays = λ i. drop_one i.ahead }; alike = by }
  where
    by : (x y before : List Tok) (vars : List Name) (heads heads' : List Head) (flaw flaw' : Option Stop)
        → first x ≡ first y
        → length (before ++ x) ≤ suc n → length (before ++ y) ≤ suc m
        → Alike x y any n m (skip (at heads (before ++ x) vars flaw)) (skip (at heads' (before ++ y) vars flaw'))
    by x y (t ∷ before) vars heads heads' flaw flaw' same small small' =
        read before vars heads heads' flaw flaw' tt tt refl (omega arith) (omega arith)
    by (t ∷ x) y [] vars heads heads' flaw flaw' same small small' = gone _ _ (omega arith)
    by [] [] [] vars heads heads' flaw flaw' same small small' =
        read [] vars heads heads' flaw flaw' tt tt refl (omega arith) (omega arith)
    by [] (t ∷ y) [] vars heads heads' flaw flaw' same small small' = absurd (cc)

pub same_first : (before x y : List Tok) → first x ≡ first y → first (before ++ x) ≡ first (before ++ y)
same_first [] x y e = e
same_first (t ∷ before) x y e = refl

-- a rule by the next token leaves no more
pub first_narrow : {A : Type 0} {f : Option Tok → Parser A} → ((t : Option Tok) → Narrow (f t))
    → Narrow (λ i. f (first i.ahead) i)
first_narrow h = record { stays = λ i. (h (first i.ahead)).stays i }

-- rules by the next token
pub by_first : {A K : Type 0} {see : A → K} {n m n' m' : ℕ} (f g : Option Tok → Parser A)
    → ((t : Option Tok) → Local n m n' m' see (f t) (g t))
    → Local n m n' m' see (λ i. f (first i.ahead) i) (λ i. g (first i.ahead) i)
by_first {A} {K} {see} {n} {m} {n'} {m'} f g h = record {
  narrow = record { stays = λ i. (h (first i.ahead)).narrow.stays i };
  alike = λ x y before vars heads heads' flaw flaw' same small small'.
      subst (λ t. Alike x y see n' m' (f (first (before ++ x)) (at heads (before ++ x) vars flaw))
      (g t (at heads' (before ++ y) vars flaw')))
      (same_first before x y same)
      ((h (first (before ++ x))).alike x y before vars heads heads' flaw flaw' same small small');
}

-- rules by the variables that are known
pub by_vars : {A K : Type 0} {see : A → K} {n m n' m' : ℕ} (f g : List Name → Parser A)
    → ((vars : List Name) → Local n m n' m' see (f vars) (g vars))
    → Local n m n' m' see (λ i. f i.vars i) (λ i. g i.vars i)
by_vars f g h = record {
  narrow = record { stays = λ i. (h i.vars).narrow.stays i };
  alike = λ x y before vars heads heads' flaw flaw' same small small'.
      (h vars).alike x y before vars heads heads' flaw flaw' same small small';
}

-- rules by the number of tokens that are left
pub by_count : {A K : Type 0} {see : A → K} {n m : ℕ} (f g : ℕ → Parser A) → ((n m : ℕ) → Local n m n m see (f n) (g m))
    → Local n m n m see (λ i. f (length i.ahead) i) (λ i. g (length i.ahead) i)
by_count f g h = record {
  narrow = record { stays = λ i. (h (length i.ahead) (length i.ahead)).narrow.stays i };
  alike = λ x y before vars heads heads' flaw flaw' same small small'.
      wider small small' ((h (length (before ++ x)) (length (before ++ y))).alike x y before vars heads heads' flaw
      flaw' same (omega arith) (omega arith));
}

-- rules by the number of tokens that are left, where it makes no difference
pub by_counts : {A K : Type 0} {see : A → K} {n m n' m' : ℕ} {f g : ℕ → Parser A}
    → ((c d : ℕ) → Local n m n' m' see (f c) (g d))
    → Local n m n' m' see (λ i. f (length i.ahead) i) (λ i. g (length i.ahead) i)
by_counts h = record {
  narrow = record { stays = λ i. (h (length i.ahead) (length i.ahead)).narrow.stays i };
  alike = λ x y before vars heads heads' flaw flaw' same small small'.
      (h (length (before ++ x)) (length (before ++ y))).alike x y before vars heads heads' flaw flaw' same small small';
}

-- one of two rules
pub either_local : {A K : Type 0} {see : A → K} {n m n' m' : ℕ} {p q r s : Parser A} (test : Bool)
    → Local n m n' m' see p q → Local n m n' m' see r s
    → Local n m n' m' see (λ i. cond test (p i) (r i)) (λ i. cond test (q i) (s i))
either_local true h k = h
either_local false h k = k

-- no token is left where there are none at most
pub at_end : {A K : Type 0} {see : A → K} {p q : Parser A} (n m n' m' : ℕ) → (n ≡ 0) ⊎ (m ≡ 0) → Narrow p
    → ((vars : List Name) (heads heads' : List Head) (flaw flaw' : Option Stop)
    → Alike [] [] see n' m' (p (at heads [] vars flaw)) (q (at heads' [] vars flaw')))
    → Local n m n' m' see p q
at_end {A} {K} {see} {p} {q} n m n' m' none narrow h = record { narrow = narrow; alike = by }
  where
    ended : (x y before : List Tok) → first x ≡ first y → length (before ++ x) ≤ n → length (before ++ y) ≤ m
        → (x ≡ []) × (y ≡ []) × (before ≡ [])
    ended [] [] [] e small small' = (refl, refl, refl)
    ended (t ∷ x) [] before e small small' = absurd (cc)
    ended [] (t ∷ y) before e small small' = absurd (cc)
    ended (t ∷ x) (u ∷ y) before e small small' =
        absurd (⊎_elim (λ z. omega (arith, length-append before (t ∷ x)))
        (λ z. omega (arith, length-append before (u ∷ y))) none)
    ended [] [] (t ∷ before) e small small' = absurd (⊎_elim (λ z. omega arith) (λ z. omega arith) none)

    by : (x y before : List Tok) (vars : List Name) (heads heads' : List Head) (flaw flaw' : Option Stop)
        → first x ≡ first y
        → length (before ++ x) ≤ n → length (before ++ y) ≤ m
        → Alike x y see n' m' (p (at heads (before ++ x) vars flaw)) (q (at heads' (before ++ y) vars flaw'))
    by x y before vars heads heads' flaw flaw' same small small' =
        let e = ended x y before same small small' in
        subst (λ l. Alike l y see n' m' (p (at heads (before ++ l) vars flaw))
        (q (at heads' (before ++ y) vars flaw'))) (sym e.0)
        (subst (λ l. Alike [] l see n' m' (p (at heads (before ++ []) vars flaw))
        (q (at heads' (before ++ l) vars flaw'))) (sym e.1)
        (subst (λ l. Alike [] [] see n' m' (p (at heads (l ++ []) vars flaw)) (q (at heads' (l ++ []) vars flaw')))
        (sym e.2)
        (h vars heads heads' flaw flaw')))

-- the test for the end is the same
same_end : (before x y : List Tok) → first x ≡ first y
    → nat_eq (length (before ++ x)) 0 ≡ nat_eq (length (before ++ y)) 0
same_end (t ∷ before) x y e = some_left (t ∷ (before ++ x)) (omega arith)
    ∙ sym (some_left (t ∷ (before ++ y)) (omega arith))
same_end [] [] [] e = refl
same_end [] [] (t ∷ y) e = absurd (cc)
same_end [] (t ∷ x) [] e = absurd (cc)
same_end [] (t ∷ x) (u ∷ y) e = some_left (t ∷ x) (omega arith) ∙ sym (some_left (u ∷ y) (omega arith))

-- one rule at the end, another before it
pub if_end : {A K : Type 0} {see : A → K} {n m n' m' : ℕ} (p q r s : Parser A) → Local n m n' m' see p q
    → Local n m n' m' see r s
    → Local n m n' m' see (λ i. cond (nat_eq (length i.ahead) 0) (p i) (r i))
    (λ i. cond (nat_eq (length i.ahead) 0) (q i) (s i))
if_end {A} {K} {see} {n} {m} {n'} {m'} p q r s h k = record {
  narrow = record { stays = λ i. (either_local (nat_eq (length i.ahead) 0) h k).narrow.stays i };
  alike = λ x y before vars heads heads' flaw flaw' same small small'.
      subst (λ t. Alike x y see n' m' (cond (nat_eq (length (before ++ x)) 0) (p (at heads (before ++ x) vars flaw))
      (r (at heads (before ++ x) vars flaw)))
      (cond t (q (at heads' (before ++ y) vars flaw')) (s (at heads' (before ++ y) vars flaw'))))
      (same_end before x y same)
      ((either_local (nat_eq (length (before ++ x)) 0) h k).alike x y before vars heads heads' flaw flaw' same small
      small');
}

-- rules behind rules whose value is not looked at
pub then_local : {A B K L : Type 0} {n m n' m' n'' m'' : ℕ} {see : A → K} {view : B → L} {p q : Parser A}
    {r s : Parser B}
    → Local n m n' m' see p q → Local n' m' n'' m'' view r s → Local n m n'' m'' view (p >> r) (q >> s)
then_local h k = bind_local h (λ _ _ _. k)

-- rules whose values are changed, and not looked at
pub mapped_local : {A B K : Type 0} {n m n' m' : ℕ} {see : A → K} {p q : Parser A} (f g : A → B)
    → Local n m n' m' see p q → Local n m n' m' any (f <$> p) (g <$> q)
mapped_local {n' = n'} {m' = m'} f g h = bind_local h (λ a b _. pure_local refl n' m')

pub either_narrow : {A : Type 0} {p q : Parser A} (test : Bool) → Narrow p → Narrow q
    → Narrow (λ i. cond test (p i) (q i))
either_narrow true h k = h
either_narrow false h k = k

pub end_narrow : {A : Type 0} {p q : Parser A} → Narrow p → Narrow q
    → Narrow (λ i. cond (nat_eq (length i.ahead) 0) (p i) (q i))
end_narrow h k = record { stays = λ i. (either_narrow (nat_eq (length i.ahead) 0) h k).stays i }

pub chosen_local : {A K : Type 0} {see : A → K} {n m n' m' : ℕ} {p q r s : Parser A} (test : Bool)
    → Local n m n' m' see p q → Local n m n' m' see r s
    → Local n m n' m' see (cond test p r) (cond test q s)
chosen_local true h k = h
chosen_local false h k = k

pub chosen_narrow : {A : Type 0} {p q : Parser A} (test : Bool) → Narrow p → Narrow q → Narrow (cond test p q)
chosen_narrow true h k = h
chosen_narrow false h k = k

-- a rule that stops where no token is left
pub record Needs {A : Type 0} (p : Parser A) : Type 0 where
  pub stops : (heads : List Head) (vars : List Name) (flaw : Option Stop)
      → p (at heads [] vars flaw) ≡ Err (stop.Expected 0)

pub needs_behind : {A B : Type 0} {p : Parser A} (f : A → Parser B) → Needs p → Needs (p >>= f)
needs_behind f h = record { stops = λ heads vars flaw. ap (λ r. and_then r f) (h.stops heads vars flaw) }

-- where no token is left, a rule that needs one is like the refusal
pub needs_one : {A K : Type 0} {see : A → K} {q : Parser A} (m n' m' : ℕ) → Needs q → Local 0 m n' m' see refuse q
needs_one {A} {K} {see} {q} m n' m' h = at_end 0 m n' m' (inl refl) (refuse_local {see = see} 0 m n' m').narrow
    (λ vars heads heads' flaw flaw'. subst (λ r. Alike [] [] see n' m' (Err (stop.Expected 0)) r)
    (sym (h.stops heads' vars flaw')) (stopped [] refused))

pub one_needed : {A K : Type 0} {see : A → K} {p : Parser A} (n n' m' : ℕ) → Needs p → Narrow p
    → Local n 0 n' m' see p refuse
one_needed {A} {K} {see} {p} n n' m' h narrow = at_end n 0 n' m' (inr refl) narrow
    (λ vars heads heads' flaw flaw'. subst (λ r. Alike [] [] see n' m' r (Err (stop.Expected 0)))
    (sym (h.stops heads vars flaw)) (stopped [] refused))

-- rules behind rules with the same value
pub bind_same : {A B L : Type 0} {n m n' m' n'' m'' : ℕ} {view : B → L} {p q : Parser A} {f g : A → Parser B}
    → Local n m n' m' it p q → ((a : A) → Local n' m' n'' m'' view (f a) (g a))
    → Local n m n'' m'' view (p >>= f) (q >>= g)
bind_same {A} {B} {L} {n} {m} {n'} {m'} {n''} {m''} {view} {p} {q} {f} {g} h k =
    bind_local {f = f} {g = g} h (λ a b e. subst (λ c. Local n' m' n'' m'' view (f a) (g c)) e (k a))
