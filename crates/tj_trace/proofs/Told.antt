-- The lines of a trace, from what is told of tasks with their bodies.
use Rattle.tj_trace.proofs.Prelude.{AreTraced, Ascend, Bool, List, Logged, None, Option, PlacedState, Point, Some}
use Rattle.tj_trace.proofs.Prelude.{TraceLine, [], ap, line_in, line_of, line_with, logged, logged_asks}
use Rattle.tj_trace.proofs.Prelude.{logged_awaits, logged_left, logged_places, logged_program, logged_then, map}
use Rattle.tj_trace.proofs.Prelude.{meaning, names_of, option_map, refl, subst, sym, ℕ, ◌∙◌, ◌∷◌, ◌≡◌}
use Rattle.std.specs.List.Sorted.{IsPermutation}
use Rattle.std.proofs.lemmas.List.Sorted.{IsPermutation-sym}
use Rattle.tj_body.specs.Asks.{IsFresh}
use Rattle.tj_body.specs.Laws.{AreDistinct}
use Rattle.tj_eval.specs.Stands.{placed_places, placed_awaits, placed_left}
use Rattle.tj_body.specs.Programs.{Program, program_of}
use Rattle.tj_mean.specs.Outcomes.{AreBodiesOf, stopped_of, body_of}
use Rattle.tj_mean.specs.declared.stopped.Stopped.{Stopped}
use Rattle.tj_mean.specs.declared.stopped.StoppedBody.{StoppedBody}
use Rattle.tj_trace.specs.Traces.{stopped_at}
use Rattle.tj_mean.proofs.Outcomes.ToldOutcomes.{apart_in_order, meaning_apart, told_in_order}

-- the line of a task with its body
abbrev pub line : StoppedBody Logged → TraceLine
line b = line_with b

with_line : (p : Point Logged) (o : Option Stopped)
    → option_map (line_in p) o ≡ option_map line (option_map (stopped_at p) o)
with_line p None = refl
with_line p (Some s) = refl

-- what is told of each history by its body is told of all of them
by_bodies : {A : Type 0} (f : StoppedBody Logged → A) (of : Point Logged → Option A)
    → ((q : Point Logged) → of q ≡ option_map f (body_of q)) → (qs : List (Point Logged))
    → map of qs ≡ map (option_map f) (map body_of qs)
by_bodies f of each [] = refl
by_bodies f of each (q ∷ qs) = ap (λ o. o ∷ map of qs) (each q)
    ∙ ap (λ os. option_map f (body_of q) ∷ os) (by_bodies f of each qs)

mapped : {A B : Type 0} (f : A → B) (xs : List A)
    → map (option_map f) (map (λ (x : A). Some x) xs) ≡ map (λ (y : B). Some y) (map f xs)
mapped f [] = refl
mapped f (x ∷ xs) = ap (λ os. Some (f x) ∷ os) (mapped f xs)

-- the lines of histories of which this is told
pub lines_told : (qs : List (Point Logged)) (bs : List (StoppedBody Logged)) → map body_of qs ≡ map (λ b. Some b) bs
    → map line_of qs ≡ map (λ l. Some l) (map line bs)
lines_told qs bs e = by_bodies line line_of (λ q. with_line q (stopped_of q)) qs
    ∙ ap (map (option_map line)) e ∙ mapped line bs

-- what is told of a task without its body
abbrev pub told : StoppedBody Logged → Stopped
told b = b.told

with_told : (p : Point Logged) (o : Option Stopped) → o ≡ option_map told (option_map (stopped_at p) o)
with_told p None = refl
with_told p (Some s) = refl

pub stopped_told : (qs : List (Point Logged)) (bs : List (StoppedBody Logged))
    → map body_of qs ≡ map (λ b. Some b) bs → map stopped_of qs ≡ map (λ s. Some s) (map told bs)
stopped_told qs bs e = by_bodies told stopped_of (λ q. with_told q (stopped_of q)) qs
    ∙ ap (map (option_map told)) e ∙ mapped told bs

-- the names of the lines are those of what is told
pub same_names : (bs : List (StoppedBody Logged)) → map (λ (s : Stopped). s.line.name) (map told bs)
    ≡ names_of (map line bs)
same_names [] = refl
same_names (b ∷ bs) = ap (λ ns. b.told.line.name ∷ ns) (same_names bs)

some_first : {A : Type 0} (x y : A) (xs ys : List (Option A)) → ◌≡◌ {A = List (Option A)} (Some x ∷ xs) (Some y ∷ ys)
    → (x ≡ y) × (xs ≡ ys)
some_first x y xs ys e = (cc, cc)

one_line : (p : Point Logged) (o : Option Stopped) (s : Stopped) (t : TraceLine) → o ≡ Some s
    → option_map (line_in p) o ≡ Some t → t.line ≡ s.line
one_line p o s t e f =
    let same : ◌≡◌ {A = Option TraceLine} (Some (line_in p s)) (Some t) = sym (ap (option_map (line_in p)) e) ∙ f in
    let h : line_in p s ≡ t = cc in sym (ap (λ (l : TraceLine). l.line) h)

-- what is told of histories, and their lines, are of the same tasks in the same order
pub same_told : (qs : List (Point Logged)) (ss : List Stopped) (ts : List TraceLine)
    → map stopped_of qs ≡ map (λ s. Some s) ss → map line_of qs ≡ map (λ t. Some t) ts
    → map (λ (t : TraceLine). t.line) ts ≡ map (λ (s : Stopped). s.line) ss
same_told [] [] [] e f = refl
same_told [] [] (t ∷ ts) e f = absurd (cc)
same_told [] (s ∷ ss) ts e f = absurd (cc)
same_told (q ∷ qs) [] ts e f = absurd (cc)
same_told (q ∷ qs) (s ∷ ss) [] e f = absurd (cc)
same_told (q ∷ qs) (s ∷ ss) (t ∷ ts) e f =
    let first : stopped_of q ≡ Some s = cc in
    let rest : map stopped_of qs ≡ map (λ s. Some s) ss = cc in
    let line_first : line_of q ≡ Some t = cc in
    let line_rest : map line_of qs ≡ map (λ t. Some t) ts = cc in
    ap (λ l. l ∷ map (λ (u : TraceLine). u.line) ts) (one_line q (stopped_of q) s t first line_first)
    ∙ ap (λ ls. s.line ∷ ls) (same_told qs ss ts rest line_rest)

-- no two lines of a meaning have one name
pub names_apart : (program : Program Logged) (N : ℕ) (bs : List (StoppedBody Logged)) (ls : List TraceLine)
    → AreBodiesOf (meaning program N) bs → ls ≡ map line bs → AreDistinct (names_of ls)
names_apart program N bs ls (qs, perm, t) e =
    let ss = map told bs in
    let r = told_in_order qs (meaning program N) (IsPermutation-sym (meaning program N) qs perm) ss
    (stopped_told qs bs t) in
    let apart = apart_in_order r.0 ss (IsPermutation-sym ss r.0 r.2) (meaning_apart program N r.0 r.1) in
    subst (λ z. AreDistinct (names_of z)) (sym e) (subst AreDistinct (same_names bs) apart.names)

-- the lines of a meaning in name order are its trace
pub are_traced : (strict : Bool) (root : PlacedState) (noting : Logged) → noting ≡ logged root → (N : ℕ)
    (bs : List (StoppedBody Logged)) (ls sorted : List TraceLine)
    → AreBodiesOf (meaning (program_of logged_places logged_awaits logged_left logged_asks logged_then strict noting) N) bs
    → ls ≡ map line bs → IsPermutation ls sorted → Ascend (names_of sorted)
    → AreTraced (logged_program strict root) N sorted
are_traced strict root noting same N bs ls sorted (qs, perm, t) e p a = record {
  histories = qs;
  told = map line bs;
  same_histories = subst (λ x. IsPermutation
      (meaning (program_of logged_places logged_awaits logged_left logged_asks logged_then strict x) N) qs) same perm;
  are_told = lines_told qs bs t;
  same_lines = subst (λ z. IsPermutation z sorted) e p;
  in_name_order = a;
}

-- a body with notes is as fresh as the one without
pub logged_fresh : (x : PlacedState) → IsFresh placed_places placed_awaits placed_left 1 x
    → IsFresh logged_places logged_awaits logged_left 1 (logged x)
logged_fresh x h = record { has_places = h.has_places; begins = h.begins; ends = h.ends }
