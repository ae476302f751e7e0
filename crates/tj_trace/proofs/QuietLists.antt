-- Lists of statements none of which has the ask `new`.
use Rattle.std.proofs.Common.{◌≡◌, Bool, true, false, List, [], ◌∷◌, ◌++◌, ◌&&◌, refl, ap, ◌∙◌}
use Rattle.tj_syntax.specs.Parts.{own_ask}
use Rattle.tj_syntax.specs.Trees.{Statement}
use Rattle.tj_trace.specs.Inner.Quiet.{are_quiet, is_other}

-- where both are so, so is each
pub both_first : (a b : Bool) → (a && b) ≡ true → a ≡ true
both_first true b h = refl
both_first false b h = h

pub both_second : (a b : Bool) → (a && b) ≡ true → b ≡ true
both_second true b h = h
both_second false b h = absurd (cc)

both_of_three : (a b c : Bool) → (a && (b && c)) ≡ ((a && b) && c)
both_of_three true b c = refl
both_of_three false b c = refl

-- two lists are quiet where each is
pub quiet_append : (xs ys : List Statement) → are_quiet (xs ++ ys) ≡ (are_quiet xs && are_quiet ys)
quiet_append [] ys = refl
quiet_append (x ∷ xs) ys = ap (λ b. is_other (own_ask x) && b) (quiet_append xs ys)
    ∙ both_of_three (is_other (own_ask x)) (are_quiet xs) (are_quiet ys)

-- where the first is, the second decides; where it isn't, they aren't
pub quiet_front : (xs ys : List Statement) → are_quiet xs ≡ true → are_quiet (xs ++ ys) ≡ are_quiet ys
quiet_front xs ys e = quiet_append xs ys ∙ ap (λ b. b && are_quiet ys) e

pub loud_front : (xs ys : List Statement) → are_quiet xs ≡ false → are_quiet (xs ++ ys) ≡ false
loud_front xs ys e = quiet_append xs ys ∙ ap (λ b. b && are_quiet ys) e
