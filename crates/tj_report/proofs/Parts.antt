-- Texts that grow part by part.
use Rattle.tj_report.proofs.Prelude.{List, [], ap, append-nil, append_assoc, arith, get_or, length, suc}
use Rattle.tj_report.proofs.Prelude.{sym, zero, ℕ, ◌++◌, ◌+◌, ◌<◌, ◌∙◌, ◌∷◌, ◌≡◌}
use Rattle.std.proofs.Common.{take}
use Rattle.std.proofs.lemmas.List.{flat_map_more, take_more}
use Rattle.std.specs.List.{flat_map, join_by}

-- a part added to a text, and a further one
pub adds : (t a b x y : List ℕ) → x ≡ t ++ a → y ≡ x ++ b → y ≡ t ++ (a ++ b)
adds t a b x y e f = f ∙ ap (λ z. z ++ b) e ∙ append_assoc t a b

-- behind a text, the line of one element more
pub more_lines : {A : Type 0} (f : A → List ℕ) (xs : List A) (i : ℕ) (x : A) (text old new : List ℕ)
    → i < length xs → x ≡ get_or xs i x → old ≡ text ++ flat_map f (take i xs) → new ≡ old ++ f x
    → new ≡ text ++ flat_map f (take (i + 1) xs)
more_lines f xs i x text old new within is so_far grown =
    grown ∙ ap (λ z. z ++ f x) so_far ∙ flat_map_more f text (take i xs) x
    ∙ ap (λ z. text ++ flat_map f (take i xs ++ z ∷ [])) is
    ∙ ap (λ z. text ++ flat_map f z) (sym (take_more xs i x within))

-- a name, some words and another name, behind what stands before them
pub linked : (t b x w y u v : List ℕ) → u ≡ t ++ (b ++ x) → v ≡ u ++ (w ++ y) → v ≡ t ++ (b ++ (x ++ w ++ y))
linked t b x w y u v e f =
    f ∙ ap (λ z. z ++ (w ++ y)) e ∙ append_assoc t (b ++ x) (w ++ y)
    ∙ ap (λ z. t ++ z) (append_assoc b x (w ++ y) ∙ ap (λ z. b ++ z) (sym (append_assoc x w y)))

-- what stands before the element at an index: nothing before the first one
abbrev pub between : List ℕ → ℕ → List ℕ
between sep zero = []
between sep (suc i) = sep

pub between_more : (sep : List ℕ) (i : ℕ) → between sep (i + 1) ≡ sep
between_more sep i = let on : i + 1 ≡ suc i = omega arith in ap (between sep) on

-- a joined text with one element more
join_more : {A : Type 0} (f : A → List ℕ) (sep : List ℕ) (xs : List A) (i : ℕ) (x : A) → i < length xs
    → x ≡ get_or xs i x → join_by f sep (take (i + 1) xs) ≡ join_by f sep (take i xs) ++ (between sep i ++ f x)
join_more f sep [] i x within is = absurd (omega (arith, within))
join_more f sep (y ∷ ys) zero x within is = append-nil (f y) ∙ ap f (sym is)
join_more f sep (y ∷ ys) (suc i) x within is =
    let on : suc i + 1 ≡ suc (i + 1) = omega arith in
    ap (λ n. join_by f sep (take n (y ∷ ys))) on
    ∙ ap (λ z. f y ++ flat_map (λ a. sep ++ f a) z) (take_more ys i x (omega (arith, within)))
    ∙ ap (λ z. f y ++ flat_map (λ a. sep ++ f a) (take i ys ++ z ∷ [])) (sym is)
    ∙ sym (flat_map_more (λ a. sep ++ f a) (f y) (take i ys) x)

-- the same behind a text
pub joined_more : {A : Type 0} (f : A → List ℕ) (sep : List ℕ) (xs : List A) (i : ℕ) (x : A)
    (text old new before : List ℕ) → i < length xs → x ≡ get_or xs i x → before ≡ between sep i
    → old ≡ text ++ join_by f sep (take i xs) → new ≡ old ++ (before ++ f x)
    → new ≡ text ++ join_by f sep (take (i + 1) xs)
joined_more f sep xs i x text old new before within is stands so_far grown =
    grown ∙ ap (λ z. old ++ (z ++ f x)) stands ∙ ap (λ z. z ++ (between sep i ++ f x)) so_far
    ∙ append_assoc text (join_by f sep (take i xs)) (between sep i ++ f x)
    ∙ ap (λ z. text ++ z) (sym (join_more f sep xs i x within is))
