-- A trace is of the outcome of the program without stands.
use Rattle.tj_trace.proofs.Prelude.{PlacedState, Point, TraceLine, [], in_permuted, in_unpermuted, line_of, names_of}
use Rattle.std.proofs.Common.{◌≡◌, ◌<◌, Bool, List, ◌∷◌, Some, map, length, refl, sym, ap, ◌∙◌, subst}
use Rattle.std.specs.List.Sorted.{IsPermutation}
use Rattle.std.proofs.lemmas.List.Sorted.{IsPermutation-map}
use Rattle.tj_body.specs.Rounds.{meaning, cells, last_round}
use Rattle.tj_body.specs.SeenAs.{point_as, IsSeenAs}
use Rattle.tj_body.proofs.SeenAs.{rounds_seen, meaning_seen}
use Rattle.tj_mean.specs.Outcomes.{Ascend, IsOutcome, stopped_of}
use Rattle.tj_mean.specs.declared.outcome.Outcome.{Outcome}
use Rattle.tj_mean.specs.declared.outcome.TaskLine.{TaskLine}
use Rattle.tj_mean.specs.declared.stopped.Stopped.{Stopped}
use Rattle.tj_mean.proofs.Outcomes.OneOutcome.{same_in_order}
use Rattle.tj_mean.proofs.Outcomes.ToldOutcomes.{any_order}
use Rattle.tj_trace.specs.Logs.{Logged, erased, logged_program}
use Rattle.tj_trace.specs.TraceLaws.{script_program, IsOfOutcome, IsFullAlike}
use Rattle.tj_trace.specs.Inner.LogLaws.{are_seen}
use Rattle.tj_trace.proofs.Told.{same_told}

-- a body with notes is seen as the script's task
pub seen : (strict : Bool) (root : PlacedState)
    → IsSeenAs erased (logged_program strict root) (script_program strict root)
seen strict root = record { rules = are_seen strict; root = refl }

-- the names of the lines
named : (ls : List TraceLine) → names_of ls ≡ map (λ (l : TaskLine). l.name) (map (λ (l : TraceLine). l.line) ls)
named [] = refl
named (l ∷ ls) = ap (λ ns. l.line.name ∷ ns) (named ls)

-- two lists of lines in name order, with the elements of two lists that are equal
same_lines : (told : List TaskLine) (xs ys : List TaskLine) → IsPermutation told xs → IsPermutation told ys
    → Ascend (map (λ (l : TaskLine). l.name) xs) → Ascend (map (λ (l : TaskLine). l.name) ys) → xs ≡ ys
same_lines told xs ys p q a b =
    same_in_order (λ (l : TaskLine). l.name) xs ys a b
    (λ l i. in_unpermuted told ys q l (in_permuted told xs p l i))
    (λ l i. in_unpermuted told xs p l (in_permuted told ys q l i))

-- histories of which the lines and the outcome are told
of_histories : (qs : List (Point Logged)) (told lines : List TraceLine) (o : Outcome)
    → map line_of qs ≡ map (λ l. Some l) told → IsPermutation told lines → Ascend (names_of lines)
    → IsOutcome qs o → map (λ (l : TraceLine). l.line) lines ≡ o.lines
of_histories qs told lines o e p a (ss, t, x) =
    let same : map (λ (l : TraceLine). l.line) told ≡ map (λ (s : Stopped). s.line) ss = same_told qs ss told t e in
    same_lines (map (λ (s : Stopped). s.line) ss) (map (λ (l : TraceLine). l.line) lines) o.lines
    (subst (λ ls. IsPermutation ls (map (λ (l : TraceLine). l.line) lines)) same
    (IsPermutation-map (λ (l : TraceLine). l.line) told lines p))
    x.lines (subst Ascend (named lines) a) x.lines_in_order

-- of histories that are seen as others the same is told
pub told_as : (ps : List (Point Logged)) → map stopped_of (map (point_as erased) ps) ≡ map stopped_of ps
told_as [] = refl
told_as (p ∷ ps) = ap (λ os. stopped_of p ∷ os) (told_as ps)

-- the order of histories is free, and those of bodies seen as others have their outcome
pub is_of_outcome : (strict : Bool) (root : PlacedState) → IsOfOutcome strict root
is_of_outcome strict root N lines o t h =
    let p = logged_program strict root in
    let m : meaning (script_program strict root) N ≡ map (point_as erased) (meaning p N) =
    meaning_seen erased p (script_program strict root) (seen strict root) N in
    let seen_so : IsOutcome (map (point_as erased) (meaning p N)) o = subst (λ ps. IsOutcome ps o) m h in
    let there : IsOutcome (meaning p N) o = (seen_so.0, sym (told_as (meaning p N)) ∙ seen_so.1, seen_so.2) in
    of_histories t.histories t.told lines o t.are_told t.same_lines t.in_name_order
    (any_order (meaning p N) t.histories o t.same_histories there)

pub is_full_alike : (strict : Bool) (root : PlacedState) → IsFullAlike strict root
is_full_alike strict root N =
    let p = logged_program strict root in
    let s = script_program strict root in
    let e : cells s (last_round N) ≡ cells p (last_round N) =
    (rounds_seen erased p s (seen strict root) (last_round N)).cells in
    (λ h. subst (λ cs. N < length cs) (sym e) h, λ h. subst (λ cs. N < length cs) e h)
