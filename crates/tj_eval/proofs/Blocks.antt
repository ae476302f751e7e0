-- Lists that loops and open blocks need.
use Rattle.std.proofs.Common.{◌≡◌, ℕ, suc, ◌≤◌, List, [], ◌∷◌, ◌++◌, map, length}
use Rattle.std.proofs.Common.{refl, ap, sym, ◌∙◌, append_assoc, arith}
use Rattle.std.proofs.lemmas.List.{append-nil, length-map}
use Rattle.std.specs.Prelude.{Result, Ok, Err}
use Rattle.tj_base.specs.declared.value.Pay.{Pay}
use Rattle.tj_base.specs.declared.cause.Trouble.{Trouble}
use Rattle.tj_eval.specs.Bodies.{rest_of}
use Rattle.tj_base.specs.declared.value.Pay.TheVariants as pay
use Rattle.tj_syntax.specs.Trees.{Argument}
use Rattle.tj_eval.specs.Expressions.{Computed}
use Rattle.tj_eval.specs.Statements.{one_more, and_more, argument, arguments, references}

not_ok : {A : Type 0} {x : A} {f : Trouble} → ◌≡◌ {A = Result A Trouble} (Err f) (Ok x) → ⊥
not_ok e = cc

ok_is : {A : Type 0} {x y : A} → ◌≡◌ {A = Result A Trouble} (Ok x) (Ok y) → x ≡ y
ok_is {A} {x} {y} e = ap (λ r. elim r [ Ok z ↦ z | Err f ↦ x ]) e

module _ {X A : Type 0} (now : X → List A) where
  -- the innermost block comes first
  pub rest_of-push : (xs : List X) (x : X) → rest_of (map now (xs ++ x ∷ [])) ≡ now x ++ rest_of (map now xs)
  rest_of-push [] x = sym (append-nil (now x))
  rest_of-push (y ∷ xs) x = ap (λ z. z ++ now y) (rest_of-push xs x)
      ∙ append_assoc (now x) (rest_of (map now xs)) (now y)

-- a list of no elements
pub nil_of : {A : Type 0} (xs : List A) → length xs ≡ 0 → xs ≡ []
nil_of [] e = refl
nil_of (x ∷ xs) e = absurd (omega arith)

-- Open blocks whose statements are seen as f shows them.
module _ {X A B : Type 0} (now : X → List A) (f : A → B) where
  abbrev seen : X → List B
  seen x = map f (now x)

  -- where nothing remains of two blocks, the last one of the list comes next
  pub take-around : (block outer : List A) (xs new : List X) (x : X) (s : A) (rest : List A) → length block ≡ 0
      → length outer ≡ 0 → xs ≡ new ++ x ∷ [] → now x ≡ s ∷ rest
      → map f block ++ (map f outer ++ rest_of (map seen xs))
      ≡ f s ∷ (map f rest ++ (map f outer ++ rest_of (map seen new)))
  take-around block outer xs new x s rest z o e g =
      ap (λ b. map f b ++ (map f outer ++ rest_of (map seen xs))) (nil_of block z)
      ∙ ap (λ b. map f b ++ rest_of (map seen xs)) (nil_of outer o)
      ∙ ap (λ w. rest_of (map seen w)) e ∙ rest_of-push seen new x ∙ ap (λ w. map f w ++ rest_of (map seen new)) g
      ∙ ap (λ w. f s ∷ (map f rest ++ w)) (ap (λ b. map f b ++ rest_of (map seen new)) (sym (nil_of outer o)))

-- where nothing remains of the innermost block, the one around it comes next
pub next-outer : {A B : Type 0} (f : A → B) (block outer : List A) (around : List B) (s : A) (rest : List A)
    → length block ≡ 0 → outer ≡ s ∷ rest
    → map f block ++ (map f outer ++ around) ≡ f s ∷ (map f rest ++ around)
next-outer f block outer around s rest z e = ap (λ b. map f b ++ (map f outer ++ around)) (nil_of block z)
    ∙ ap (λ b. map f b ++ around) e

-- values in front of those that are still computed
abbrev pub ahead : List Pay → Result (List Pay) Trouble → Result (List Pay) Trouble
ahead values (Ok more) = Ok (values ++ more)
ahead values (Err fault) = Err fault

-- one value more in front
pub ahead-one : (values : List Pay) (v : Pay) (more : Result (List Pay) Trouble)
    → ahead values (one_more v more) ≡ ahead (values ++ v ∷ []) more
ahead-one values v (Ok more) = ap (λ z. Ok z) (sym (append_assoc values (v ∷ []) more))
ahead-one values v (Err fault) = refl

length-one : (n : ℕ) (c : Computed) (more : Result (List Pay) Trouble) (values : List Pay)
    → ((vs : List Pay) → more ≡ Ok vs → length vs ≡ n) → and_more c more ≡ Ok values → length values ≡ suc n
length-one n (Ok v) (Ok vs) values h g = ap length (sym (ok_is g)) ∙ ap suc (h vs refl)
length-one n (Ok v) (Err fault) values h g = absurd (not_ok g)
length-one n (Err fault) more values h g = absurd (not_ok g)

-- each argument has its value
pub length-arguments : (vars : List Pay) (list : List Argument) (values : List Pay) → arguments vars list ≡ Ok values
    → length values ≡ length list
length-arguments vars [] values e = ap length (sym (ok_is e))
length-arguments vars (x ∷ list) values e = length-one (length list) (argument vars x) (arguments vars list) values
    (λ vs f. length-arguments vars list vs f) e

-- the same, of arguments as f shows them
pub length-shown : {X : Type 0} (f : X → Argument) (vars : List Pay) (list : List X) (values : List Pay)
    → arguments vars (map f list) ≡ Ok values → length values ≡ length list
length-shown f vars list values e = length-arguments vars (map f list) values e ∙ length-map list f

-- the references are no more than the values
pub length-references : (values : List Pay) → length (references values) ≤ length values
length-references [] = omega arith
length-references (pay.Num n ∷ values) = omega (arith, length-references values)
length-references (pay.Ref k ∷ values) = omega (arith, length-references values)
