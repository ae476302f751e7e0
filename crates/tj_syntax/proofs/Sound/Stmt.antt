-- What is read as a statement without a block is one.
use Rattle.std.proofs.Common.{◌≡◌, ℕ, Bool, true, false, cond, is_some, List, [], ◌∷◌, ◌++◌, length, Option, Some, None}
use Rattle.std.proofs.Common.{Ok, refl, ap, sym, ◌∙◌, subst}
use Rattle.std.specs.Prelude.{nat_le}
use Rattle.tj_lex.specs.declared.token.Tok.{Tok}
use Rattle.tj_lex.specs.declared.token.Tok.TheVariants as toks
use Rattle.tj_lex.specs.declared.token.Key.TheVariants as k
use Rattle.tj_lex.specs.declared.token.Mark.TheVariants as m
use Rattle.tj_syntax.specs.declared.fault.Breach.{Breach}
use Rattle.tj_syntax.specs.declared.fault.Breach.TheVariants.{Twice, Many}
use Rattle.tj_syntax.specs.Trees as tree
use Rattle.tj_syntax.specs.Trees.{Expression, Statement}
use Rattle.tj_syntax.specs.Marks.{Name, Note, Noted, fine, broken, key, mark, use_of, index_of, declaration, most_vars}
use Rattle.tj_syntax.specs.Marks.{number_of}
use Rattle.tj_syntax.specs.Grammar as g
use Rattle.tj_syntax.specs.Grammar.{IsExpression, IsGiven, IsStatement}
use Rattle.tj_syntax.specs.Inner.Input.{Input, Parser, first, next, expect, names_of, fresh, fresh_by}
use Rattle.tj_syntax.specs.Inner.Input.{fresh_variable, breach_of, unless, variable}
use Rattle.tj_syntax.specs.Inner.Reading.{expression, ask, given, let_new, assigned, assign, set_cell, ended, ask_statement}
use Rattle.tj_syntax.proofs.Taken.{Took, took_both, bind_ok, landed}
use Rattle.tj_syntax.proofs.Sound.Steps.{took_fine, expected}
use Rattle.tj_syntax.proofs.Sound.AskParts.{expressions_sound, variable_sound}
use Rattle.tj_syntax.proofs.Sound.Ask.{Kept, ask_sound, given_sound}

-- what is read where variables become known
pub record Made (i j : Input) (P : List Noted → List Name → Type 0) : Type 0 where
  pub notes : List Noted
  pub took : Took i j notes
  pub right : P notes j.vars

pub took_to : {i j : Input} {notes : List Noted} → Took i j notes → (vars : List Name) → Took i (record j {
  vars =
      vars;
}) notes
took_to t vars = record { ahead = t.ahead; unbroken = t.unbroken; tasks = t.tasks; flaw = t.flaw; calm = t.calm }

-- ---- names that are declared

declared_at : (a b : Bool) (note : Note) → ◌≡◌ {A = Option Breach} (cond a (Some Twice) (cond b (Some Many) None)) None
    → cond a (broken Twice) (cond b (broken Many) note) ≡ note
declared_at true b note h = absurd (cc)
declared_at false true note h = absurd (cc)
declared_at false false note h = refl

-- a declaration that breaks nothing is noted as it should be
pub declared_right : (most : ℕ) (earlier : List Name) (x : Name) → breach_of most earlier x ≡ None → (note : Note) →
    declaration most earlier x note ≡ note
declared_right most earlier x h note = declared_at (is_some (index_of earlier x)) (nat_le most (length earlier)) note h

-- a name that is declared is taken
pub record GotFresh (most : ℕ) (earlier : List Name) (i j : Input) (x : Name) : Type 0 where
  pub rest : List Tok
  pub ahead : i.ahead ≡ toks.Name x ∷ rest
  pub there : j ≡ next i
  pub free : breach_of most earlier x ≡ None

unless_ok : (most : ℕ) (earlier : List Name) (i j : Input) (x y : Name) (rest : List Tok) → i.ahead ≡ toks.Name x ∷ rest
    → (o : Option Breach) → breach_of most earlier x ≡ o → unless o (λ l. Ok (x, next l)) i ≡ Ok (y, j) → GotFresh
    most earlier i j y
unless_ok most earlier i j x y rest e None is h = landed (λ z l. GotFresh most earlier i l z) x y (next i) j h (record
    { rest = rest; ahead = e; there = refl; free = is })
unless_ok most earlier i j x y rest e (Some b) is h = absurd (cc)

fresh_by_sound : (most : ℕ) (earlier : List Name) (ts : List Tok) (i j : Input) (x : Name) → i.ahead ≡ ts → fresh_by
    most earlier (first ts) i ≡ Ok (x, j)
    → GotFresh most earlier i j x
fresh_by_sound most earlier (toks.Name y ∷ rest) i j x e h = unless_ok most earlier i j y x rest e (breach_of most
    earlier y) refl h
fresh_by_sound most earlier ts i j x e h = absurd (cc)

pub fresh_sound : (most : ℕ) (earlier : List Name) (i j : Input) (x : Name) → fresh most earlier i ≡ Ok (x, j) →
    GotFresh most earlier i j x
unfolding fresh
fresh_sound most earlier i j x h = fresh_by_sound most earlier i.ahead i j x refl h

-- ---- statements without blocks

-- behind a keyword
abbrev pub Behind : (k : Noted) (room : ℕ) (i j : Input) (s : Statement) → Type 0
Behind k room i j s = Made i j (λ notes last. IsStatement (names_of i.tasks) room i.vars (k ∷ notes) s last)

abbrev pub Whole : (room : ℕ) (i j : Input) (s : Statement) → Type 0
Whole room i j s = Made i j (λ notes last. IsStatement (names_of i.tasks) room i.vars notes s last)

pub let_new_sound : (room : ℕ) (i j : Input) (s : Statement) → let_new room i ≡ Ok (s, j) → Behind (key k.Let) room i
    j s
unfolding let_new
let_new_sound room i j s h =
    let read = bind_ok (fresh_variable i) _ s j h in
    let x = read.0 in
    let name = fresh_sound most_vars i.vars i read.1 x read.2 in
    let gives = bind_ok (expect m.Assign read.1) _ s j read.3 in
    let assigning = expected m.Assign read.1 gives.1 gives.0 gives.2 in
    let side = bind_ok (given room gives.1) _ s j gives.3 in
    let got = given_sound room gives.1 side.1 side.0 side.2 in
    let close = bind_ok (expect m.Semi side.1) _ s j side.3 in
    let closing = expected m.Semi side.1 close.1 close.0 close.2 in
    let note = declaration most_vars i.vars x fine in
    let first_one : Took i (next i) ((toks.Name x, note) ∷ []) =
    subst (λ n. Took i (next i) ((toks.Name x, n) ∷ [])) (sym (declared_right most_vars i.vars x name.free fine))
    (took_fine i (toks.Name x) name.rest name.ahead refl) in
    let start : Took i read.1 ((toks.Name x, note) ∷ []) = subst (λ l. Took i l ((toks.Name x, note) ∷ [])) (sym
    name.there) first_one in
    let whole : Took i close.1 ((toks.Name x, note) ∷ (mark m.Assign ∷ (got.notes ++ mark m.Semi ∷ []))) =
    took_both start (took_both assigning.took (took_both got.took closing.took)) in
    let before : gives.1.vars ≡ i.vars = ap (λ p. p.0) assigning.kept ∙ ap (λ (l : Input). l.vars) name.there in
    let tasks : gives.1.tasks ≡ i.tasks = assigning.took.tasks ∙ start.tasks in
    let vars : close.1.vars ≡ i.vars = ap (λ p. p.0) closing.kept ∙ got.vars ∙ before in
    let right : IsStatement (names_of i.tasks) room i.vars (key k.Let ∷ ((toks.Name x, note) ∷ (mark m.Assign ∷
    (got.notes ++ mark m.Semi ∷ []))))
    (tree.let_new (length i.vars) side.0) (i.vars ++ x ∷ []) =
    g.let_new x (subst (λ ts. IsGiven (names_of ts) i.vars room got.notes side.0) tasks
    (subst (λ v. IsGiven (names_of gives.1.tasks) v room got.notes side.0) before got.right)) in
    landed (λ b l. Behind (key k.Let) room i l b) (tree.let_new (length close.1.vars) side.0) s (record close.1 {
      vars
          = close.1.vars ++ x ∷ [];
    }) j close.3
    (record {
      notes = (toks.Name x, note) ∷ (mark m.Assign ∷ (got.notes ++ mark m.Semi ∷ []));
      took = took_to whole (close.1.vars ++ x ∷ []);
      right = subst (λ v. IsStatement (names_of i.tasks) room i.vars (key k.Let ∷ ((toks.Name x, note) ∷ (mark
          m.Assign ∷ (got.notes ++ mark m.Semi ∷ []))))
          (tree.let_new (length v) side.0) (v ++ x ∷ [])) (sym vars) right;
    })

-- an expression that is read leaves the variables
pub expression_kept : (room : ℕ) (i j : Input) (x : Expression) → expression room i ≡ Ok (x, j)
    → Kept i j (λ notes. IsExpression i.vars room notes x)
expression_kept room i j x h = let got = expressions_sound room i j x h in
    record { notes = got.notes; took = got.took; vars = ap (λ p. p.0) got.kept; right = got.right }

-- behind a variable: the mark, the side that it is given and a semicolon
assigned_sound : {A : Type 0} (side : Parser A) (P : List Name → List Name → List Noted → A → Type 0)
    → ((i j : Input) (x : A) → side i ≡ Ok (x, j) → Kept i j (λ notes. P (names_of i.tasks) i.vars notes x))
    → (wrap : ℕ → A → Statement) (R : List Noted → Statement → List Name → Type 0) (i j : Input) (s : Statement)
    → ((x : Name) (notes : List Noted) (y : A) → P (names_of i.tasks) i.vars notes y
    → R ((toks.Name x, use_of i.vars x) ∷ mark m.Assign ∷ (notes ++ mark m.Semi ∷ [])) (wrap (number_of i.vars x) y)
    i.vars)
    → assigned side wrap i ≡ Ok (s, j)
    → Made i j (λ notes last. R notes s last)
assigned_sound side P sound wrap R i j s make h =
    let read = bind_ok (variable i) _ s j h in
    let x = variable_sound i read.1 read.0 read.2 in
    let gives = bind_ok (expect m.Assign read.1) _ s j read.3 in
    let assigning = expected m.Assign read.1 gives.1 gives.0 gives.2 in
    let given = bind_ok (side gives.1) _ s j gives.3 in
    let got = sound gives.1 given.1 given.0 given.2 in
    let close = bind_ok (expect m.Semi given.1) _ s j given.3 in
    let closing = expected m.Semi given.1 close.1 close.0 close.2 in
    let before : gives.1.vars ≡ i.vars = ap (λ p. p.0) (assigning.kept ∙ x.step.kept) in
    let tasks : gives.1.tasks ≡ i.tasks = assigning.took.tasks ∙ x.step.took.tasks in
    let vars : close.1.vars ≡ i.vars = ap (λ p. p.0) closing.kept ∙ got.vars ∙ before in
    let notes = (toks.Name x.name, use_of i.vars x.name) ∷ (mark m.Assign ∷ (got.notes ++ mark m.Semi ∷ [])) in
    landed (λ b l. Made i l (λ ns last. R ns b last)) (wrap read.0 given.0) s close.1 j close.3
    (record {
      notes = (toks.Name x.name, use_of i.vars x.name) ∷ (mark m.Assign ∷ (got.notes ++ mark m.Semi ∷ []));
      took = took_both x.step.took (took_both assigning.took (took_both got.took closing.took));
      right = subst (λ v. R notes (wrap read.0 given.0) v) (sym vars)
          (subst (λ n. R notes (wrap n given.0) i.vars) (sym x.is)
          (make x.name got.notes given.0 (subst (λ ts. P (names_of ts) i.vars got.notes given.0) tasks
          (subst (λ v. P (names_of gives.1.tasks) v got.notes given.0) before got.right))));
    })

pub assign_sound : (room : ℕ) (i j : Input) (s : Statement) → assign room i ≡ Ok (s, j) → Whole room i j s
unfolding assign
assign_sound room i j s h = assigned_sound (given room) (λ tasks vars notes x. IsGiven tasks vars room notes x)
    (given_sound room) tree.assign (λ notes t last. IsStatement (names_of i.tasks) room i.vars notes t last) i j s
    (λ x notes y p. g.assign x p) h

pub set_cell_sound : (room : ℕ) (i j : Input) (s : Statement) → set_cell room i ≡ Ok (s, j)
    → Behind (key k.Set) room i j s
unfolding set_cell
set_cell_sound room i j s h = assigned_sound (expression room) (λ tasks vars notes x. IsExpression vars room notes x)
    (expression_kept room) tree.set_cell
    (λ notes t last. IsStatement (names_of i.tasks) room i.vars (key k.Set ∷ notes) t last) i j s
    (λ x notes y p. g.set_cell x p) h

-- an expression with its semicolon
pub record GotEnded (room : ℕ) (i j : Input) (x : Expression) : Type 0 where
  pub notes : List Noted
  pub took : Took i j (notes ++ mark m.Semi ∷ [])
  pub vars : j.vars ≡ i.vars
  pub right : IsExpression i.vars room notes x

pub ended_sound : (room : ℕ) (i j : Input) (x : Expression) → ended room i ≡ Ok (x, j) → GotEnded room i j x
unfolding ended
ended_sound room i j x h =
    let read = bind_ok (expression room i) _ x j h in
    let got = expressions_sound room i read.1 read.0 read.2 in
    let close = bind_ok (expect m.Semi read.1) _ x j read.3 in
    let closing = expected m.Semi read.1 close.1 close.0 close.2 in
    landed (λ b l. GotEnded room i l b) read.0 x close.1 j close.3
    (record {
      notes = got.notes;
      took = took_both got.took closing.took;
      vars = ap (λ p. p.0) (closing.kept ∙
          got.kept);
      right = got.right;
    })

pub ask_statement_sound : (room : ℕ) (i j : Input) (s : Statement) → ask_statement room i ≡ Ok (s, j) → Whole room i j s
unfolding ask_statement
ask_statement_sound room i j s h =
    let read = bind_ok (ask room i) _ s j h in
    let got = ask_sound room i read.1 read.0 read.2 in
    let close = bind_ok (expect m.Semi read.1) _ s j read.3 in
    let closing = expected m.Semi read.1 close.1 close.0 close.2 in
    let vars : close.1.vars ≡ i.vars = ap (λ p. p.0) closing.kept ∙ got.vars in
    landed (λ b l. Whole room i l b) (tree.ask read.0) s close.1 j close.3
    (record {
      notes = got.notes ++ mark m.Semi ∷ [];
      took = took_both got.took closing.took;
      right = subst (λ v. IsStatement (names_of i.tasks) room i.vars (got.notes ++ mark m.Semi ∷ []) (tree.ask read.0)
          v) (sym vars) (g.ask got.right);
    })
