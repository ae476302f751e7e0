-- The position of a statement's number is that of its first token.
use Rattle.tj_trace.proofs.Prelude.{List, None, Some, Statement, [], ap, length, map, option_map, refl, slice_get}
use Rattle.tj_trace.proofs.Prelude.{subst, suc, sym, within, zero, ℕ, ◌++◌, ◌∙◌, ◌∷◌, ◌≡◌}
use Rattle.std.proofs.lemmas.Option.{slice_get-map}
use Rattle.tj_lex.specs.declared.token.Token.{Token}
use Rattle.tj_syntax.specs.Marks.{Name, Noted}
use Rattle.tj_syntax.specs.Parts.{StatementStandsAt, StandAt, TaskStandsAt, TasksStandAt}
use Rattle.tj_syntax.specs.PlacesOf.{place_at, statement_place, task_place, places_of}
use Rattle.tj_syntax.specs.Starts.{Start, TaskStart, in_tasks}
use Rattle.tj_syntax.specs.Trees.{Task}
use Rattle.tj_syntax.specs.declared.positions.StatementPlace.{StatementPlace}
use Rattle.tj_syntax.proofs.Starting.Parts.{script_stands}
use Rattle.tj_trace.specs.Lookups.{spots, spot_of, ask_in, ask_spot_of}
use Rattle.tj_trace.specs.RightLines.{IsStatementAt, IsBraceAt}
use Rattle.tj_trace.specs.SpotLaws.{HasSpot, HasBraceSpot, SpotsAreThere}

-- what stands at the number of a task, and of a statement
task_there : (names : List Name) (notes : List Noted) (ts : List Task) (us : List TaskStart) (n : ℕ) (t : Task)
    → TasksStandAt names notes ts us → slice_get ts n ≡ Some t
    → (u : TaskStart) × (slice_get us n ≡ Some u) × TaskStandsAt names notes t u
task_there names notes [] [] n t h e = absurd (cc)
task_there names notes [] (u ∷ us) n t h e = absurd h
task_there names notes (x ∷ ts) [] n t h e = absurd h
task_there names notes (x ∷ ts) (u ∷ us) zero t h e = let same : x ≡ t = cc in
    (u, refl, subst (λ z. TaskStandsAt names notes z u) same h.0)
task_there names notes (x ∷ ts) (u ∷ us) (suc n) t h e = task_there names notes ts us n t h.1 e

statement_there : (names : List Name) (notes : List Noted) (ss : List Statement) (ps : List Start) (n : ℕ)
    (s : Statement) → StandAt names notes ss ps → slice_get ss n ≡ Some s
    → (p : Start) × (slice_get ps n ≡ Some p) × StatementStandsAt names notes s p
statement_there names notes [] [] n s h e = absurd (cc)
statement_there names notes [] (p ∷ ps) n s h e = absurd h
statement_there names notes (x ∷ ss) [] n s h e = absurd h
statement_there names notes (x ∷ ss) (p ∷ ps) zero s h e = let same : x ≡ s = cc in
    (p, refl, subst (λ z. StatementStandsAt names notes z p) same h.0)
statement_there names notes (x ∷ ss) (p ∷ ps) (suc n) s h e = statement_there names notes ss ps n s h.1 e

-- there are as many starts as statements
as_many : (names : List Name) (notes : List Noted) (ss : List Statement) (ps : List Start) → StandAt names notes ss ps
    → length ps ≡ length ss
as_many names notes [] [] h = refl
as_many names notes [] (p ∷ ps) h = absurd h
as_many names notes (s ∷ ss) [] h = absurd h
as_many names notes (s ∷ ss) (p ∷ ps) h = ap suc (as_many names notes ss ps h.1)

get_front : {A : Type 0} (xs ys : List A) (k : ℕ) (x : A) → slice_get xs k ≡ Some x → slice_get (xs ++ ys) k ≡ Some x
get_front [] ys k x e = absurd (cc)
get_front (z ∷ xs) ys zero x e = e
get_front (z ∷ xs) ys (suc k) x e = get_front xs ys k x e

module _ (tokens : List Token) where
  -- the declaration's places
  places_there : (us : List TaskStart) (n : ℕ) (u : TaskStart) → slice_get us n ≡ Some u
      → slice_get (places_of tokens us) n ≡ Some (task_place tokens u)
  places_there us n u e = slice_get-map (task_place tokens) us n ∙ ap (option_map (task_place tokens)) e

  -- a statement's place
  place_there : (u : TaskStart) (n : ℕ) (p : Start) → slice_get u.statements n ≡ Some p
      → slice_get (task_place tokens u).statements n ≡ Some (statement_place tokens p)
  place_there u n p e =
      slice_get-map (statement_place tokens) u.statements n ∙ ap (option_map (statement_place tokens)) e

  spot_there : (u : TaskStart) (n : ℕ) (p : Start) → slice_get u.statements n ≡ Some p
      → slice_get (spots (task_place tokens u)) n ≡ Some (place_at tokens p.at)
  spot_there u n p e =
      let t = task_place tokens u in
      get_front (map (λ (s : StatementPlace). s.at) t.statements) (t.brace ∷ []) n (place_at tokens p.at)
      (slice_get-map (λ (s : StatementPlace). s.at) t.statements n
      ∙ ap (option_map (λ (s : StatementPlace). s.at)) (place_there u n p e))

  brace_there : (u : TaskStart) → slice_get (spots (task_place tokens u)) (length u.statements)
      ≡ Some (place_at tokens u.brace)
  brace_there u = by u.statements where
    by : (ps : List Start) → slice_get (map (λ (s : StatementPlace). s.at) (map (statement_place tokens) ps)
        ++ place_at tokens u.brace ∷ []) (length ps) ≡ Some (place_at tokens u.brace)
    by [] = refl
    by (p ∷ ps) = by ps

  no_ask_there : (u : TaskStart) → slice_get (task_place tokens u).statements (length u.statements) ≡ None
  no_ask_there u = by u.statements where
    by : (ps : List Start) → slice_get (map (statement_place tokens) ps) (length ps) ≡ None
    by [] = refl
    by (p ∷ ps) = by ps

-- the law
pub spots_are_there : SpotsAreThere
spots_are_there tokens notes script derived decl at =
    (statement, brace) where
      statement : (s : Statement) → IsStatementAt script decl at s
          → HasSpot tokens notes script (in_tasks derived 0) decl at s
      statement s i =
          let us = in_tasks derived 0 in
          let t = task_there (map (λ (t : Task). t.name) script) notes script us decl i.task
          (script_stands notes script derived) i.is_declared in
          let p = statement_there (map (λ (t : Task). t.name) script) notes (within i.task.body) t.0.statements at s
          t.2.statements i.is_there in record {
            task = t.0;
            is_declared = t.1;
            start = p.0;
            is_there = p.1;
            stands = p.2;
            spot = ap (λ o. spot_of o at) (places_there tokens us decl t.0 t.1) ∙ spot_there tokens t.0 at p.0 p.1;
            ask_spot = ap (λ o. ask_spot_of o at) (places_there tokens us decl t.0 t.1)
                ∙ ap ask_in (place_there tokens t.0 at p.0 p.1);
          }

      brace : IsBraceAt script decl at → HasBraceSpot tokens notes (in_tasks derived 0) decl at
      brace i =
          let us = in_tasks derived 0 in
          let t = task_there (map (λ (t : Task). t.name) script) notes script us decl i.task
          (script_stands notes script derived) i.is_declared in
          let last : at ≡ length t.0.statements = i.is_last
          ∙ sym (as_many (map (λ (t : Task). t.name) script) notes (within i.task.body) t.0.statements
          t.2.statements) in
          record {
            task = t.0;
            is_declared = t.1;
            stands = t.2.brace;
            spot = ap (λ o. spot_of o at) (places_there tokens us decl t.0 t.1)
                ∙ ap (slice_get (spots (task_place tokens t.0))) last ∙ brace_there tokens t.0;
            ask_spot = ap (λ o. ask_spot_of o at) (places_there tokens us decl t.0 t.1)
                ∙ ap (λ k. ask_in (slice_get (task_place tokens t.0).statements k)) last
                ∙ ap ask_in (no_ask_there tokens t.0);
          }
