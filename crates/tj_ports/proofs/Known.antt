-- How the told bytes of a port move over several calls.
use Rattle.std.proofs.Common.{◌≡◌, ℕ, ◌+◌, ◌-◌, ◌≤◌, List, [], ◌++◌, length, take, drop, Option, Some, None, sym, ap, refl, subst, ◌∙◌, append_assoc, append-nil, arith, take-append-drop}
use Rattle.std.proofs.Math.Seq.{take-add}
use Rattle.std.proofs.lemmas.List.{take_at, take_rest, drop-drop, length-take-le, length-drop}
use Rattle.std.specs.Io.KnownBytes.{Appends, Consumes, Keeps}

-- nothing was added
pub Appends-none : (a : Option (List ℕ)) → Appends a a []
Appends-none None = tt
Appends-none (Some xs) = sym (append-nil xs)

-- the next bytes of a text were added
pub Appends-more : (a b c : Option (List ℕ)) (n m : ℕ) (text : List ℕ) → Appends a b (take n text)
    → Appends b c (take m (drop n text)) → Appends a c (take (n + m) text)
Appends-more None b c n m text p q = tt
Appends-more (Some xs) None c n m text p q = absurd p
Appends-more (Some xs) (Some ys) None n m text p q = absurd q
Appends-more (Some xs) (Some ys) (Some zs) n m text p q =
    q ∙ ap (λ l. l ++ take m (drop n text)) p ∙ append_assoc xs (take n text) (take m (drop n text))
    ∙ ap (λ l. xs ++ l) (sym (take-add n m text))

-- the part that a call is given, the text from an index on
pub Appends-rest : (a b c : Option (List ℕ)) (n m : ℕ) (text : List ℕ) → Appends a b (take n text)
    → Appends b c (take m (take (length text - n) (drop n text))) → Appends a c (take (n + m) text)
Appends-rest a b c n m text p q = Appends-more a b c n m text p
    (subst (λ l. Appends b c (take m l)) (take_rest text n) q)

-- what is left of a text fits into what is left of the room
pub rest_fits : (n room : ℕ) (text : List ℕ) → n ≤ length text → length text ≤ room
    → length (take (length text - n) (drop n text)) ≤ room - n
rest_fits n room text le fits =
    let same : length (take (length text - n) (drop n text)) ≡ length text - n =
    ap length (take_rest text n) ∙ length-drop n text in
    omega arith

-- a call that failed added nothing
pub Appends-kept : (a b c : Option (List ℕ)) (text : List ℕ) → Appends a b text → Keeps b c → Appends a c text
Appends-kept None b c text p q = tt
Appends-kept (Some xs) None c text p q = absurd p
Appends-kept (Some xs) (Some ys) None text p q = absurd q
Appends-kept (Some xs) (Some ys) (Some zs) text p q = q ∙ p

-- nothing was taken
pub Consumes-none : (a : Option (List ℕ)) → Consumes a a []
Consumes-none None = tt
Consumes-none (Some xs) = refl

-- a call that failed took nothing
pub Consumes-kept : (a b : Option (List ℕ)) → Keeps a b → Consumes a b []
Consumes-kept None b p = tt
Consumes-kept (Some xs) None p = absurd p
Consumes-kept (Some xs) (Some ys) p = sym p

-- more was taken
pub Consumes-more : (a b c : Option (List ℕ)) (xs ys : List ℕ) → Consumes a b xs → Consumes b c ys
    → Consumes a c (xs ++ ys)
Consumes-more None b c xs ys p q = tt
Consumes-more (Some s) None c xs ys p q = absurd p
Consumes-more (Some s) (Some t) None xs ys p q = absurd q
Consumes-more (Some s) (Some t) (Some u) xs ys p q = p ∙ ap (λ l. xs ++ l) q ∙ sym (append_assoc xs ys u)

-- a call that failed took nothing more
pub Consumes-still : (a b c : Option (List ℕ)) (xs : List ℕ) → Consumes a b xs → Keeps b c → Consumes a c xs
Consumes-still None b c xs p q = tt
Consumes-still (Some s) None c xs p q = absurd p
Consumes-still (Some s) (Some t) None xs p q = absurd q
Consumes-still (Some s) (Some t) (Some u) xs p q = p ∙ ap (λ l. xs ++ l) (sym q)

-- a part of the text from an index on isn't longer than that
pub rest_bound : (n m : ℕ) (text : List ℕ) → m ≤ length (take (length text - n) (drop n text)) → m ≤ length text - n
rest_bound n m text le = subst (λ k. m ≤ k) (ap length (take_rest text n) ∙ length-drop n text) le

-- what a source in memory gives: the front of its bytes, copied into the buffer's front
pub front_given : (given n : ℕ) (bytes front rest : List ℕ) → n ≤ length (drop given bytes)
    → front ≡ take n (drop given bytes) → drop given bytes ≡ take n (front ++ rest) ++ drop (given + n) bytes
front_given given n bytes front rest fits e =
    sym (take-append-drop n (drop given bytes))
    ∙ ap (λ l. l ++ drop n (drop given bytes)) (sym
    (take_at front rest n (ap length e ∙ length-take-le n (drop given bytes) fits) ∙ e))
    ∙ ap (λ l. take n (front ++ rest) ++ l) (drop-drop n given bytes)
