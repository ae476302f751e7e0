-- A meaning has one trace.
use Rattle.tj_trace.proofs.Prelude.{AreTraced, IsIn, List, Logged, Point, Some, TraceLine, [], ap, in_permuted}
use Rattle.tj_trace.proofs.Prelude.{in_unpermuted, inl, inr, line_of, map, meaning, refl, sym, ℕ, ◌∙◌, ◌∷◌, ◌≡◌}
use Rattle.tj_body.specs.Programs.{Program}
use Rattle.tj_mean.proofs.Outcomes.OneOutcome.{same_in_order}

-- a history of which this is told
record IsTold (ps : List (Point Logged)) (l : TraceLine) : Type 0 where
  point : Point Logged
  is_in : IsIn point ps
  told : line_of point ≡ Some l

some_is : (a b : TraceLine) → Some a ≡ Some b → a ≡ b
some_is a b e = cc

of_line : (ps : List (Point Logged)) (told : List TraceLine) → map line_of ps ≡ map Some told → (l : TraceLine)
    → IsIn l told → IsTold ps l
of_line ps [] e l is = absurd is
of_line [] (t ∷ told) e l is = let f : [] ≡ Some t ∷ map Some told = e in cc
of_line (p ∷ ps) (t ∷ told) e l (inl same) =
    let f : line_of p ∷ map line_of ps ≡ Some t ∷ map Some told = e in
    let first : line_of p ≡ Some t = cc in
    record { point = p; is_in = inl refl; told = first ∙ ap Some (sym same) }
of_line (p ∷ ps) (t ∷ told) e l (inr later) =
    let f : line_of p ∷ map line_of ps ≡ Some t ∷ map Some told = e in
    let more : map line_of ps ≡ map Some told = cc in
    let i = of_line ps told more l later in
    record { point = i.point; is_in = inr i.is_in; told = i.told }

to_line : (ps : List (Point Logged)) (told : List TraceLine) → map line_of ps ≡ map Some told → (p : Point Logged)
    (l : TraceLine) → IsIn p ps → line_of p ≡ Some l → IsIn l told
to_line [] told e p l is here = absurd is
to_line (q ∷ ps) [] e p l is here = let f : line_of q ∷ map line_of ps ≡ [] = e in cc
to_line (q ∷ ps) (t ∷ told) e p l (inl same) here =
    let f : line_of q ∷ map line_of ps ≡ Some t ∷ map Some told = e in
    let first : line_of q ≡ Some t = cc in
    inl (some_is l t (sym here ∙ ap line_of same ∙ first))
to_line (q ∷ ps) (t ∷ told) e p l (inr later) here =
    let f : line_of q ∷ map line_of ps ≡ Some t ∷ map Some told = e in
    let more : map line_of ps ≡ map Some told = cc in
    inr (to_line ps told more p l later here)

-- a line of one trace is one of another
line_in : (program : Program Logged) (N : ℕ) (a b : List TraceLine) → AreTraced program N a → AreTraced program N b
    → (l : TraceLine) → IsIn l a → IsIn l b
line_in program N a b h k l is =
    let told = of_line h.histories h.told h.are_told l (in_permuted h.told a h.same_lines l is) in
    let there = in_unpermuted (meaning program N) k.histories k.same_histories told.point
    (in_permuted (meaning program N) h.histories h.same_histories told.point told.is_in) in
    in_unpermuted k.told b k.same_lines l (to_line k.histories k.told k.are_told told.point l there told.told)

-- a meaning has one trace
pub one_trace : (program : Program Logged) (N : ℕ) (a b : List TraceLine) → AreTraced program N a
    → AreTraced program N b → a ≡ b
one_trace program N a b h k = same_in_order (λ (l : TraceLine). l.line.name) a b h.in_name_order k.in_name_order
    (line_in program N a b h k) (line_in program N b a k h)
