-- What a table of statements has by two numbers.
use Rattle.std.proofs.Common.{◌≡◌, ◌<◌, ◌≤◌, ◌⊎◌, ◌∙◌, ℕ, List, Bor, Global, Vec, get_or, length, map, ap, sym, inl, inr, arith}
use Rattle.std.specs.Prelude.{Option, Some, None, option_map, slice_get}
use Rattle.std.proofs.lemmas.Option.{slice_get-map, slice_get_cases}
use Rattle.tj_syntax.specs.View as trees
use Rattle.tj_syntax.specs.declared.stmt.Stmt.{Stmt}
use Rattle.tj_findings.specs.Scenes.{statement_in, view_table}

module _ (table : List (Vec (Bor Stmt) Global)) (decl at : ℕ) (list : Vec (Bor Stmt) Global)
    (declared : slice_get table decl ≡ Some list) where
  row : statement_in (slice_get (view_table (map (λ (d : Vec (Bor Stmt) Global). map (λ (q : Bor Stmt). q.now) d.items)
      table)) decl) at ≡ option_map trees.statement (option_map (λ (q : Bor Stmt). q.now) (slice_get list.items at))
  row = ap (λ o. statement_in o at) (slice_get-map (λ (d : List Stmt). map trees.statement d)
      (map (λ (d : Vec (Bor Stmt) Global). map (λ (q : Bor Stmt). q.now) d.items) table) decl
      ∙ ap (option_map (λ (d : List Stmt). map trees.statement d))
      (slice_get-map (λ (d : Vec (Bor Stmt) Global). map (λ (q : Bor Stmt). q.now) d.items) table decl
      ∙ ap (option_map (λ (d : Vec (Bor Stmt) Global). map (λ (q : Bor Stmt). q.now) d.items)) declared))
      ∙ slice_get-map trees.statement (map (λ (q : Bor Stmt). q.now) list.items) at
      ∙ ap (option_map trees.statement) (slice_get-map (λ (q : Bor Stmt). q.now) list.items at)

  -- the statement that a row of a table has
  pub statement_there : (q : Bor Stmt) → slice_get list.items at ≡ Some q
      → Some (trees.statement q.now) ≡ statement_in (slice_get (view_table
      (map (λ (d : Vec (Bor Stmt) Global). map (λ (q : Bor Stmt). q.now) d.items) table)) decl) at
  statement_there q e =
      sym (row ∙ ap (λ o. option_map trees.statement (option_map (λ (q : Bor Stmt). q.now) o)) e)

  -- and where it has none
  pub no_statement : (o : Option (Bor Stmt)) → o ≡ None → slice_get list.items at ≡ None
      → option_map (λ (q : Bor Stmt). trees.statement q.now) o ≡ statement_in (slice_get (view_table
      (map (λ (d : Vec (Bor Stmt) Global). map (λ (q : Bor Stmt). q.now) d.items) table)) decl) at
  no_statement o none e = ap (option_map (λ (q : Bor Stmt). trees.statement q.now)) none
      ∙ sym (row ∙ ap (λ o. option_map trees.statement (option_map (λ (q : Bor Stmt). q.now) o)) e)

-- past the end of a list there is nothing
pub none_past : {X : Type 0} (xs : List X) (i : ℕ) → length xs ≤ i → slice_get xs i ≡ None
none_past {X} xs i over = by (slice_get_cases xs i).1 where
  by : ((x : X) × (i < length xs) × (slice_get xs i ≡ Some x) × (get_or xs i x ≡ x))
      ⊎ ((length xs ≤ i) × (slice_get xs i ≡ None)) → slice_get xs i ≡ None
  by (inl h) = let within = h.1 in absurd (omega (arith, within, over))
  by (inr h) = h.1
