-- What reading an input up to the most bytes tells of it.
use Rattle.std.proofs.Common.{Bool, List, [], ap, arith, cond, refl, sym, take, true, ℕ, ◌++◌, ◌<◌, ◌∙◌, ◌∷◌, ◌≡◌}
use Rattle.std.proofs.Common.{◌+◌, length, nat_le, false, subst}
use Rattle.std.proofs.lemmas.Bool.Decides.{nat_tests}
use Rattle.std.proofs.Math.Seq.{take-append_seam}
use Rattle.std.proofs.lemmas.List.{length-append}
use Rattle.tj_ports.specs.declared.source.ReadEnd.{ReadEnd}
use Rattle.tj_ports.specs.declared.source.ReadEnd.TheVariants.{Whole, Long}
use Rattle.tj_ports.specs.Reading.{IsWithin}
use Rattle.tj_syntax.specs.ScriptTexts.{most_bytes}
use Rattle.tj_command.specs.Inputs.{IsReadOf}

whole_cases : (limit : ℕ) (bytes input : List ℕ) (b : Bool)
    → Whole bytes ≡ cond b (Whole input) (Long (take limit input)) → bytes ≡ input
whole_cases limit bytes input true e = cc
whole_cases limit bytes input false e = cc

-- what was read whole is the input
pub read_whole : (bytes input : List ℕ) → IsReadOf input (Whole bytes) → bytes ≡ input
read_whole bytes input e = whole_cases most_bytes bytes input (nat_le (length input) most_bytes) e

long_cases : (limit : ℕ) (bytes input : List ℕ) (b : Bool)
    → Long bytes ≡ cond b (Whole input) (Long (take limit input)) → (b ≡ false) × (bytes ≡ take limit input)
long_cases limit bytes input true e = cc
long_cases limit bytes input false e = (refl, cc)

-- of what was too long, the first bytes were read
pub record IsLong (bytes input : List ℕ) : Type 0 where
  pub long : most_bytes < length input
  pub first : bytes ≡ take most_bytes input

pub read_long : (bytes input : List ℕ) → IsReadOf input (Long bytes) → IsLong bytes input
read_long bytes input e =
    let c = long_cases most_bytes bytes input (nat_le (length input) most_bytes) e in
    let no : nat_le (length input) most_bytes ≡ false = c.0 in
    record { long = grind (arith, nat_tests); first = c.1 }

-- an input of which this was read
abbrev pub SomeInput : ReadEnd → Type 0
SomeInput end = (input : List ℕ) × IsReadOf input end

cond_true : {A : Type 0} (b : Bool) (x y : A) → b ≡ true → cond b x y ≡ x
cond_true true x y e = refl
cond_true false x y e = absurd (cc)

cond_false : {A : Type 0} (b : Bool) (x y : A) → b ≡ false → cond b x y ≡ y
cond_false true x y e = absurd (cc)
cond_false false x y e = refl

-- each text within the limit is what was read of some input
pub some_input : (end : ReadEnd) → IsWithin most_bytes end → SomeInput end
some_input (Whole bytes) short =
    let yes : nat_le (length bytes) most_bytes ≡ true = grind (arith, nat_tests) in
    (bytes, sym (cond_true (nat_le (length bytes) most_bytes) (Whole bytes) (Long (take most_bytes bytes)) yes))
some_input (Long bytes) full =
    let more = bytes ++ 0 ∷ [] in
    let count : length more ≡ length bytes + 1 = length-append bytes (0 ∷ []) in
    let no : nat_le (length more) most_bytes ≡ false = grind (arith, nat_tests) in
    let first : take most_bytes more ≡ bytes =
    subst (λ n. take n more ≡ bytes) full (take-append_seam bytes (0 ∷ [])) in (
      more,
      sym (cond_false (nat_le (length more) most_bytes) (Whole more) (Long (take most_bytes more)) no
          ∙ ap (λ l. Long l) first),
    )
