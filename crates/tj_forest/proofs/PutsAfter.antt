-- What follows from a cause, put below it as the code does it.
use Rattle.std.proofs.Common.{◌≡◌, ℕ, Bool, true, false, List, [], ◌∷◌, ◌++◌, map, cond, Option, Some, None, refl, sym}
use Rattle.std.proofs.Common.{ap, subst, ◌∙◌}
use Rattle.std.specs.Prelude.{option_and_then}
use Rattle.std.specs.List.{flat_map}
use Rattle.std.specs.Option.{is_some, option_map}
use Rattle.tj_base.specs.ForkOrder.{Name}
use Rattle.tj_base.specs.declared.cause.Cause.TheVariants as cause
use Rattle.tj_mean.specs.declared.outcome.Ending.{Ending}
use Rattle.tj_mean.specs.declared.outcome.Ending.TheVariants as ending
use Rattle.tj_mean.specs.declared.outcome.Link.{Link}
use Rattle.tj_syntax.specs.PlacesOf.{PlacesOfTask}
use Rattle.tj_mean.specs.declared.name_map.NameMap.{NameMap}
use Rattle.tj_trace.specs.declared.line.TraceLine.{TraceLine}
use Rattle.tj_forest.proofs.Planted.{put_all_append, put_follow, roots_found}
use Rattle.tj_findings.specs.Echoes.{echoed_by}
use Rattle.tj_findings.specs.Findings.{behind, echo, echo_with, owed, told_echo}
use Rattle.tj_findings.specs.Forests.{Forest, after_chain, after_cycle, after_failure, bare, begun_by, cause_from, causes}
use Rattle.tj_findings.specs.Forests.{follow, forest_of, led_to, put, put_all, put_each, view_tree}
use Rattle.tj_forest.specs.Inner.Numbers.{AreCausesFrom, AreRootsFrom}
use Rattle.tj_findings.specs.declared.finding.Finding.{Finding}
use Rattle.tj_findings.specs.declared.forest.Tree as code

-- what is made of a value is there where the value is
pub is_some_map : {A C : Type 0} (f : A → C) (o : Option A) → is_some (option_map f o) ≡ is_some o
is_some_map f None = refl
is_some_map f (Some x) = refl

-- the value that was looked up is there
pub is_there : {A : Type 0} (now : A → Name) (o : Option A) (x : A) (e : Option Name) → option_map now o ≡ e
    → o ≡ Some x → e ≡ Some (now x)
is_there now o x e is some = sym is ∙ ap (option_map now) some

some_name : (p q : Name) → Some p ≡ Some q → p ≡ q
some_name p q e = cc

-- an echo is told as one
echo_is : (lines : List TraceLine) (l : TraceLine) (q : Name) (e : Ending) → echoed_by e ≡ Some q
    → echo_with lines l e ≡ told_echo lines l q ∷ []
echo_is lines l q (ending.Done v) is = absurd (cc)
echo_is lines l q (ending.Waits p) is = absurd (cc)
echo_is lines l q (ending.Failed cause.Arith) is = absurd (cc)
echo_is lines l q (ending.Failed cause.Kind) is = absurd (cc)
echo_is lines l q (ending.Failed cause.Steps) is = absurd (cc)
echo_is lines l q (ending.Failed (cause.Owner p)) is = absurd (cc)
echo_is lines l q (ending.Failed (cause.Order p)) is = absurd (cc)
echo_is lines l q (ending.Failed (cause.Broken p)) is = ap (λ z. told_echo lines l z ∷ []) (some_name p q is)

-- what a task owed that failed and echoes none
pub put_after_failure : (lines : List TraceLine) (l : TraceLine) (fs : List Finding) (n : Option ℕ) (a c : Forest)
    → is_some (echoed_by l.line.ending) ≡ false → n ≡ option_and_then (cause_from 0 fs) (Some l.line.name)
    → c ≡ put_each n (owed lines false l) a → c ≡ put_all fs a (after_failure lines l)
put_after_failure lines l fs n a c plain number is =
    is
    ∙ ap (λ m. put_each m (owed lines false l) a) number
    ∙ sym (put_follow fs (Some l.line.name) (owed lines false l) a)
    ∙ ap (λ (b : Bool). put_all fs a (cond b [] (follow (Some l.line.name) (owed lines false l)))) (sym plain)

-- a wait behind a cycle
pub put_after_cycle : (lines : List TraceLine) (cycles : List (List Link)) (l : TraceLine) (fs : List Finding)
    (n : Option ℕ) (o : Option Name) (a c : Forest) → n ≡ option_and_then (cause_from 0 fs) o
    → o ≡ Some (led_to lines l).line.name → c ≡ put_each n (behind lines cycles l) a
    → c ≡ put_all fs a (after_cycle lines cycles l)
put_after_cycle lines cycles l fs n o a c number same is =
    is
    ∙ ap (λ m. put_each m (behind lines cycles l) a) (number ∙ ap (option_and_then (cause_from 0 fs)) same)
    ∙ sym (put_follow fs (Some (led_to lines l).line.name) (behind lines cycles l) a)

-- an echo, and what its task owed
pub put_after_chain : (lines : List TraceLine) (l : TraceLine) (q : Name) (fs : List Finding) (n : Option ℕ)
    (o : Option Name) (f : Finding) (a b c : Forest) → echoed_by l.line.ending ≡ Some q
    → n ≡ option_and_then (cause_from 0 fs) o → o ≡ begun_by lines l → f ≡ told_echo lines l q → b ≡ put n f a
    → c ≡ put_each n (owed lines false l) b → c ≡ put_all fs a (after_chain lines l)
put_after_chain lines l q fs n o f a b c is number same told first then =
    let found = owed lines false l in
    let told_is = told_echo lines l q in
    then
    ∙ ap (put_each n found) (first ∙ ap (λ z. put n z a) told)
    ∙ ap (λ m. put_each m (told_is ∷ found) a) (number ∙ ap (option_and_then (cause_from 0 fs)) same)
    ∙ sym (put_follow fs (begun_by lines l) (told_is ∷ found) a)
    ∙ ap (λ es. put_all fs a (follow (begun_by lines l) (es ++ found))) (sym (echo_is lines l q l.line.ending is))
    ∙ ap (λ (b : Bool). put_all fs a (cond b (follow (begun_by lines l) (echo lines l ++ found)) []))
    (sym (ap is_some is))

-- the forest, where its parts were put one after the other
forest_is : (places : List PlacesOfTask) (lines : List TraceLine) (cycles : List (List Link)) (ts : List code.Tree)
    (m : NameMap ℕ) (a b c : Forest) → map view_tree ts ≡ map bare (causes places lines cycles)
    → AreRootsFrom ts 0 m → a ≡ record { trees = map view_tree ts; strays = [] }
    → ((fs : List Finding) → AreCausesFrom fs 0 m → b ≡ put_all fs a (flat_map (after_failure lines) lines))
    → ((fs : List Finding) → AreCausesFrom fs 0 m
    → c ≡ put_all fs b (flat_map (λ l. after_cycle lines cycles l ++ after_chain lines l) lines))
    → c ≡ forest_of places lines cycles
forest_is places lines cycles ts m a b c same roots start first second =
    let fs = causes places lines cycles in
    let found = roots_found ts fs m same roots in
    let owing = flat_map (after_failure lines) lines in
    let rest = flat_map (λ l. after_cycle lines cycles l ++ after_chain lines l) lines in
    second fs found
    ∙ ap (λ z. put_all fs z rest) (first fs found)
    ∙ sym (put_all_append fs a owing rest)
    ∙ ap (λ z. put_all fs z (owing ++ rest)) (start ∙ ap (λ l. record { trees = l; strays = [] }) same)

-- the same where the lines, the cycles and the numbers are those that the code holds
pub forest_made : (places : List PlacesOfTask) (lines here : List TraceLine) (cycles there : List (List Link))
    (ts : List code.Tree) (m n : NameMap ℕ) (a b c : Forest) → here ≡ lines → there ≡ cycles → n ≡ m
    → map view_tree ts ≡ map bare (causes places lines cycles)
    → AreRootsFrom ts 0 m → a ≡ record { trees = map view_tree ts; strays = [] }
    → ((fs : List Finding) → AreCausesFrom fs 0 n → b ≡ put_all fs a (flat_map (after_failure here) here))
    → ((fs : List Finding) → AreCausesFrom fs 0 n
    → c ≡ put_all fs b (flat_map (λ l. after_cycle here there l ++ after_chain here l) here))
    → c ≡ forest_of places lines cycles
forest_made places lines here cycles there ts m n a b c are goes num same roots start first second =
    forest_is places here there ts n a b c
    (same
    ∙ ap (λ z. map bare (causes places z cycles)) (sym are)
    ∙ ap (λ z. map bare (causes places here z)) (sym goes))
    (subst (AreRootsFrom ts 0) (sym num) roots) start first second
    ∙ ap (λ z. forest_of places z there) are
    ∙ ap (forest_of places lines) goes
