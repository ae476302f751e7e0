-- A name that is known is found again by its number.
use Rattle.std.proofs.Common.{◌≡◌, ℕ, suc, ◌+◌, true, false, cond, List, [], ◌∷◌, ◌++◌, Some, refl, ap, ◌∙◌, subst}
use Rattle.std.proofs.Common.{arith, get_or, ⊎_elim}
use Rattle.std.specs.Prelude.{is_some, unwrap_or}
use Rattle.std.specs.List.{position_from}
use Rattle.std.specs.Str.{bytes_eq}
use Rattle.std.proofs.lemmas.Slice.Eq.{bytes_eq-Decides}
use Rattle.std.proofs.lemmas.Bool.{cases_Bool}
use Rattle.tj_lex.specs.declared.token.Tok.TheVariants as toks
use Rattle.tj_syntax.specs.declared.fault.Breach.TheVariants.{Unknown}
use Rattle.tj_syntax.specs.Marks.{Name, broken, is_among, number_of, use_of}
use Rattle.tj_syntax.specs.Faults.{IsUnbroken}

-- where a name is found, counted from i
record Found (x : Name) (i : ℕ) (names rest : List Name) : Type 0 where
  at : ℕ
  is : position_from (λ name. bytes_eq name x) i names ≡ Some (i + at)
  same : get_or (names ++ rest) at [] ≡ x

passed : (x y : Name) (i : ℕ) (names : List Name) → bytes_eq y x ≡ false
    → position_from (λ name. bytes_eq name x) i (y ∷ names) ≡ position_from (λ name. bytes_eq name x) (i + 1) names
passed x y i names e = rw e refl

found : (x : Name) (i : ℕ) (names rest : List Name) → is_some (position_from (λ name. bytes_eq name x) i names) ≡ true
    → Found x i names rest
found x i [] rest h = absurd (cc)
found x i (y ∷ names) rest h =
    ⊎_elim
    (λ e. record {
      at = 0;
      is = rw e (ap Some (omega arith));
      same = (bytes_eq-Decides y x).0 e;
    })
    (λ e.
    let later : is_some (position_from (λ name. bytes_eq name x) (i + 1) names) ≡ true =
    subst (λ v. is_some (cond v (Some i) (position_from (λ name. bytes_eq name x) (i + 1) names)) ≡ true) e h in
    let more = found x (i + 1) names rest later in
    record {
      at = suc more.at;
      is = passed x y i names e ∙ (more.is ∙ ap Some (omega arith));
      same = more.same;
    })
    (cases_Bool (bytes_eq y x))

pub number-name : (names rest : List Name) (x : Name) → is_among names x ≡ true
    → get_or (names ++ rest) (number_of names x) [] ≡ x
number-name names rest x h =
    let f = found x 0 names rest h in
    let n : number_of names x ≡ f.at = ap (λ o. unwrap_or o 0) f.is ∙ (omega arith) in
    rw n f.same

-- a use that breaks nothing is of a name that is known
pub known_by_use : (names : List Name) (x : Name) → IsUnbroken (toks.Name x, use_of names x) → is_among names x ≡ true
known_by_use names x h =
    ⊎_elim (λ e. e)
    (λ e.
    let bad : use_of names x ≡ broken Unknown = rw e refl in
    absurd (h Unknown bad))
    (cases_Bool (is_among names x))
