-- The words of a line and the event that they name.
use Rattle.std.proofs.Common.{◌≡◌, ◌≢◌, ℕ, ◌<◌, ◌^◌, List, [], ◌∷◌, map, Option, Some, None, decimal, refl, sym, ◌∙◌, subst, arith}
use Rattle.std.specs.List.{AllByRecursion}
use Rattle.std.specs.Option.{IfSome, IfNone}
use Rattle.std.proofs.lemmas.Fmt.{decimal_injective}
use Rattle.tj_events.specs.declared.event.Event.{Event}
use Rattle.tj_core.specs.Journals.Lines.{verb_of, cells_of, HasSmallCells, Names}

-- small numbers, all of them
abbrev pub AreSmall : List ℕ → Type 0
AreSmall ns = AllByRecursion (λ c. c < 2 ^ 32) ns

-- numbers with the same decimals are the same
pub cells_are : (cs ns : List ℕ) → AreSmall cs → AreSmall ns → map decimal cs ≡ map decimal ns → cs ≡ ns
cells_are [] [] a b e = refl
cells_are [] (n ∷ ns) a b e = absurd (cc)
cells_are (c ∷ cs) [] a b e = absurd (cc)
cells_are (c ∷ cs) (n ∷ ns) a b e =
    let first : decimal c ≡ decimal n = cc in
    let rest : map decimal cs ≡ map decimal ns = cc in
    let f : c ≡ n = decimal_injective c n (omega (arith, a.0)) (omega (arith, b.0)) first in
    let r = cells_are cs ns a.1 b.1 rest in cc

-- no event has these words where none with these cells has this word
pub none_named : (o : Option Event) (verb : List ℕ) (words : List (List ℕ)) (ns : List ℕ)
    → AreSmall ns → map decimal ns ≡ words → IfNone o ((e : Event) → cells_of e ≡ ns → verb_of e ≢ verb)
    → IfNone o ((e : Event) → HasSmallCells e → ¬ Names (verb ∷ words) e)
none_named None verb words ns small same none = λ e cells names.
    let rest : map decimal (cells_of e) ≡ words = cc in
    let name : verb_of e ≡ verb = cc in
    none e (cells_are (cells_of e) ns cells small (rest ∙ sym same)) name
none_named (Some f) verb words ns small same none = tt

-- a clause of no value, from another
pub if_none : {A : Type 0} (o : Option A) (P Q : Type 0) → (P → Q) → IfNone o P → IfNone o Q
if_none None P Q f h = f h
if_none (Some x) P Q f h = tt

-- a clause of a value or of none, where that is known
pub none_at : {A : Type 0} (o : Option A) (P : Type 0) → o ≡ None → IfNone o P → P
none_at None P e h = h
none_at (Some x) P e h = absurd (cc)

pub some_at : {A : Type 0} (o : Option A) (P : A → Type 0) (x : A) → o ≡ Some x → IfSome o P → P x
some_at None P x e h = absurd (cc)
some_at (Some y) P x e h = let same : y ≡ x = cc in subst P same h
