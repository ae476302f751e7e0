-- Where the reading of a statement or of a block stops, it is the beginning of one.
use Rattle.std.proofs.Common.{◌≡◌, ℕ, zero, suc, false, List, [], ◌∷◌, ◌++◌, length, Ok, Err, refl, ap, sym, ◌∙◌, subst}
use Rattle.std.proofs.Common.{drop, append_assoc, ⊎_elim}
use Rattle.std.proofs.lemmas.List.{append-nil}
use Rattle.tj_lex.specs.declared.token.Tok.{Tok}
use Rattle.tj_lex.specs.declared.token.Tok.TheVariants as toks
use Rattle.tj_lex.specs.declared.token.Key.{Key}
use Rattle.tj_lex.specs.declared.token.Key.TheVariants as k
use Rattle.tj_lex.specs.declared.token.Mark.TheVariants as m
use Rattle.tj_syntax.specs.declared.fault.Breach.{Breach}
use Rattle.tj_syntax.specs.declared.fault.Stop.{Stop}
use Rattle.tj_syntax.specs.declared.fault.Stop.TheVariants as stop
use Rattle.tj_syntax.specs.Trees as tree
use Rattle.tj_syntax.specs.Trees.{Expression, Statement, Statements, Otherwise}
use Rattle.tj_syntax.specs.Marks.{use_of, Name, Note, Noted, fine, broken, key, mark, declaration, opening, within}
use Rattle.tj_syntax.specs.Marks.{most_vars}
use Rattle.tj_syntax.specs.Grammar as g
use Rattle.tj_syntax.specs.Grammar.{IsExpression, IsGiven, IsStatement, IsBlock, IsStatements, IsElse}
use Rattle.tj_syntax.specs.View.{statements_of}
use Rattle.tj_syntax.specs.Inner.Input.{Input, Parser, and_then, first, next, refuse, sees, expect, open_level}
use Rattle.tj_syntax.specs.Inner.Input.{variable, fresh_variable, names_of}
use Rattle.tj_syntax.specs.Inner.Reading.{expression, ask, given, let_new, assign, set_cell, ended, ask_statement}
use Rattle.tj_syntax.specs.Inner.Reading.{otherwise_by, otherwise, choose, repeat, statement_by, statement_over}
use Rattle.tj_syntax.specs.Inner.Reading.{statements_from, statements, block_by, block}
use Rattle.tj_syntax.proofs.Taken.{is_task}
use Rattle.tj_syntax.proofs.Sound.Steps.{took_fine, expected, opened, fine_unbroken}
use Rattle.tj_syntax.proofs.Sound.AskParts.{expressions_sound, variable_sound}
use Rattle.tj_syntax.proofs.Sound.Ask.{Kept, ask_sound, given_sound}
use Rattle.tj_syntax.proofs.Sound.Stmt.{GotFresh, declared_right, fresh_sound, expression_kept}
use Rattle.tj_syntax.proofs.Sound.Block.{SoundBlock, SoundStatement, statement_sound, block_sound, refused_statement}
use Rattle.tj_syntax.proofs.Stops.Steps.{Halts, Part, Halting, Past, past, past_nothing, past_both, split, if_err}
use Rattle.tj_syntax.proofs.Stops.Steps.{moved, later, at_last, refused, refused_behind, err_inj, expect_stops}
use Rattle.tj_syntax.proofs.Stops.Steps.{open_halts, variable_halts, fresh_halts}
use Rattle.tj_syntax.proofs.Stops.Expr.{AnExpression, just_me, is_me, expressions_halt, refuse_halts}
use Rattle.tj_syntax.proofs.Stops.Ask.{AnAsk, AGiven, ask_halts, given_halts}

abbrev AStatement : ℕ → Part
AStatement room tasks vars notes = (s : Statement) × (last : List Name) × IsStatement tasks room vars notes s last

-- what makes a statement behind a keyword
abbrev Behind : Key → ℕ → Part
Behind word room tasks vars notes = AStatement room tasks vars (key word ∷ notes)

abbrev pub ABlock : ℕ → Part
ABlock room tasks vars notes = (b : Statements) × (last : List Name) × IsBlock tasks room vars notes b last

abbrev AnElse : ℕ → Part
AnElse room tasks vars notes = (o : Otherwise) × (last : List Name) × IsElse tasks room vars notes o last

-- an expression with its semicolon
record Ended (room : ℕ) (vars : List Name) (notes : List Noted) : Type 0 where
  a : List Noted
  x : Expression
  is : notes ≡ a ++ mark m.Semi ∷ []
  right : IsExpression vars room a x

abbrev AnEnded : ℕ → Part
AnEnded room tasks vars notes = Ended room vars notes

-- statements with the brace behind them
record Closed (room : ℕ) (tasks vars : List Name) (notes : List Noted) : Type 0 where
  a : List Noted
  body : Statements
  last : List Name
  is : notes ≡ a ++ mark m.BraceClose ∷ []
  right : IsStatements tasks room vars a body last

-- no statements between braces
abbrev pub empty : ℕ → List Noted
empty room = (toks.Mark m.BraceOpen, opening room) ∷ mark m.BraceClose ∷ []

pub is_empty : (tasks : List Name) (room : ℕ) (vars : List Name)
    → IsBlock tasks room vars (empty room) tree.no_more vars
is_empty tasks room vars = g.braces g.statements_end

-- a name that was declared is passed
pub past_name : {most : ℕ} {earlier : List Name} {i j : Input} {x : Name} (note : Note)
    → ((b : Breach) → note ≡ broken b → ⊥) → GotFresh most earlier i j x
    → Past i j ((toks.Name x, declaration most earlier x note) ∷ [])
past_name {most} {earlier} {i} {j} {x} note right got = record {
  ahead =
      let after : (next i).ahead ≡ got.rest = ap (λ ts. drop 1 ts) got.ahead in
      got.ahead ∙ ap (λ ts. toks.Name x ∷ ts) (sym after) ∙ ap (λ (l : Input). toks.Name x ∷ l.ahead) (sym got.there);
  unbroken = (
    subst (λ n. (b : Breach) → n ≡ broken b → ⊥) (sym (declared_right most earlier x got.free note)) right,
    tt,
  );
  tasks = ap (λ (l : Input). l.tasks) got.there;
}

-- ---- statements without blocks

-- a side and its semicolon
abbrev side : List Noted
side = mark m.Assign ∷ (just_me ++ mark m.Semi ∷ [])

let_new_halts : (room : ℕ) → Halting (Behind k.Let room) (let_new room)
unfolding let_new
let_new_halts room i s h =
    split (fresh_variable i) _ s h
    (λ e. fresh_halts most_vars i.vars i s fine e (λ x. side)
    (λ x. (_, _, g.let_new x (g.result_of (is_me i.vars room)))))
    (λ x j r e.
    let name = fresh_sound most_vars i.vars i j x r in
    let named = past_name fine (fine_unbroken (toks.Name x)) name in
    split (expect m.Assign j) _ s e
    (λ e'. refused_behind named (expect_stops m.Assign j s e') side
    (_, _, g.let_new x (g.result_of (is_me i.vars room))))
    (λ u l r' e'.
    let assigning = expected m.Assign j l u r' in
    let front = past_both named (past assigning.took) in
    let vars : l.vars ≡ i.vars = ap (λ p. p.0) assigning.kept ∙ ap (λ (n : Input). n.vars) name.there in
    split (given room l) _ s e'
    (λ e''. later (AGiven room) front vars (given_halts room l s e'')
    (λ notes p. (mark m.Semi ∷ [], (_, _, g.let_new x p.1))))
    (λ a n r'' e''.
    let got = given_sound room l n a r'' in
    split (expect m.Semi n) _ s e''
    (λ e₃. refused_behind (past_both front (past got.took)) (expect_stops m.Semi n s e₃) (mark m.Semi ∷ [])
    (_, _, g.let_new x (moved (λ ts v ns. IsGiven ts v room ns a) front vars got.right)))
    (λ v o r₃ e₃. absurd (cc)))))

-- behind a variable: the mark, the side that it is given and a semicolon
assigned_halts : {A : Type 0} (given_side : Parser A) (P : List Name → List Name → List Noted → A → Type 0) (R : Part)
    → ((i j : Input) (x : A) → given_side i ≡ Ok (x, j) → Kept i j (λ notes. P (names_of i.tasks) i.vars notes x))
    → Halting (λ tasks vars notes. (x : A) × P tasks vars notes x) given_side
    → (wrap : ℕ → A → Statement) (i : Input) (s : Stop) (least : A) → P (names_of i.tasks) i.vars just_me least
    → ((x : Name) (notes : List Noted) (y : A) → P (names_of i.tasks) i.vars notes y
    → R (names_of i.tasks) i.vars ((toks.Name x, use_of i.vars x) ∷ mark m.Assign ∷ (notes ++ mark m.Semi ∷ [])))
    → and_then (variable i) (λ n h. and_then (expect m.Assign h) (λ _ k. and_then (given_side k)
    (λ x l. and_then (expect m.Semi l) (λ _ z. Ok (wrap n x, z))))) ≡ Err s
    → Halts i s (R (names_of i.tasks) i.vars)
assigned_halts {A = A} given_side P R sound halts wrap i s least me make h =
    split (variable i) _ s h
    (λ e. variable_halts i s e side (λ x. make x just_me least me))
    (λ x j r e.
    let name = variable_sound i j x r in
    split (expect m.Assign j) _ s e
    (λ e'. refused_behind (past name.step.took) (expect_stops m.Assign j s e') side
    (make name.name just_me least me))
    (λ u l r' e'.
    let assigning = expected m.Assign j l u r' in
    let front = past_both (past name.step.took) (past assigning.took) in
    let vars : l.vars ≡ i.vars = ap (λ p. p.0) (assigning.kept ∙ name.step.kept) in
    split (given_side l) _ s e'
    (λ e''. later (λ tasks vars notes. (x : A) × P tasks vars notes x) front vars (halts l s e'')
    (λ notes p. (mark m.Semi ∷ [], make name.name notes p.0 p.1)))
    (λ a n r'' e''.
    let got = sound l n a r'' in
    split (expect m.Semi n) _ s e''
    (λ e₃. refused_behind (past_both front (past got.took)) (expect_stops m.Semi n s e₃) (mark m.Semi ∷ [])
    (make name.name got.notes a (moved (λ ts v ns. P ts v ns a) front vars got.right)))
    (λ v o r₃ e₃. absurd (cc)))))

assign_halts : (room : ℕ) → Halting (AStatement room) (assign room)
unfolding assign
assign_halts room i s h = assigned_halts (given room) (λ tasks vars notes x. IsGiven tasks vars room notes x)
    (AStatement room) (given_sound room) (given_halts room) tree.assign i s (tree.result_of tree.me)
    (g.result_of (is_me i.vars room)) (λ x notes y p. (_, _, g.assign x p)) h

set_cell_halts : (room : ℕ) → Halting (Behind k.Set room) (set_cell room)
unfolding set_cell
set_cell_halts room i s h = assigned_halts (expression room) (λ tasks vars notes x. IsExpression vars room notes x)
    (Behind k.Set room) (expression_kept room) (expressions_halt room) tree.set_cell i s tree.me (is_me i.vars room)
    (λ x notes y p. (_, _, g.set_cell x p)) h

ended_halts : (room : ℕ) → Halting (AnEnded room) (ended room)
unfolding ended
ended_halts room i s h =
    split (expression room i) _ s h
    (λ e. later (AnExpression room) (past_nothing i) refl (expressions_halt room i s e)
    (λ notes p. (mark m.Semi ∷ [], record { a = notes; x = p.0; is = refl; right = p.1 })))
    (λ x j r e.
    let got = expressions_sound room i j x r in
    split (expect m.Semi j) _ s e
    (λ e'. refused_behind (past got.took) (expect_stops m.Semi j s e') (mark m.Semi ∷ [])
    (record { a = got.notes; x = x; is = refl; right = got.right }))
    (λ u l r' e'. absurd (cc)))

ask_statement_halts : (room : ℕ) → Halting (AStatement room) (ask_statement room)
unfolding ask_statement
ask_statement_halts room i s h =
    split (ask room i) _ s h
    (λ e. later (AnAsk room) (past_nothing i) refl (ask_halts room i s e)
    (λ notes p. (mark m.Semi ∷ [], (_, _, g.ask p.1))))
    (λ x j r e.
    let got = ask_sound room i j x r in
    split (expect m.Semi j) _ s e
    (λ e'. refused_behind (past got.took) (expect_stops m.Semi j s e') (mark m.Semi ∷ []) (_, _, g.ask got.right))
    (λ u l r' e'. absurd (cc)))

-- ---- statements with blocks

otherwise_by_halts : (room : ℕ) (block : Parser Statements) → Halting (ABlock room) block
    → (ts : List Tok) (i : Input) (s : Stop) → i.ahead ≡ ts
    → otherwise_by block (first ts) i ≡ Err s → Halts i s (AnElse room (names_of i.tasks) i.vars)
otherwise_by_halts room block hb (toks.Key k.Else ∷ rest) i s e h =
    split (block (next i)) _ s h
    (λ e'. at_last (ABlock room) (past (took_fine i (toks.Key k.Else) rest e refl)) refl (hb (next i) s e')
    (λ notes p. (_, _, g.else_block p.2)))
    (λ b j r e'. absurd (cc))
otherwise_by_halts room block hb ts i s e h = absurd (cc)

choose_halts : (room : ℕ) (block : Parser Statements) → SoundBlock room block → Halting (ABlock room) block
    → Halting (Behind k.If room) (choose room block)
unfolding choose otherwise
choose_halts room block sb hb i s h =
    split (expression room i) _ s h
    (λ e. later (AnExpression room) (past_nothing i) refl (expressions_halt room i s e)
    (λ notes p. (empty room, (_, _, g.choose p.1 (is_empty (names_of i.tasks) room i.vars) g.no_else))))
    (λ x j r e.
    let one = expressions_sound room i j x r in
    let vars : j.vars ≡ i.vars = ap (λ p. p.0) one.kept in
    split (block j) _ s e
    (λ e'. later (ABlock room) (past one.took) vars (hb j s e')
    (λ notes p. ([], (_, _, g.choose one.right p.2 g.no_else))))
    (λ body l r' e'.
    let two = sb j l body r' in
    split (otherwise block l) _ s e'
    (λ e''. at_last (AnElse room) (past_both (past one.took) (past two.took)) refl
    (otherwise_by_halts room block hb l.ahead l s refl e'')
    (λ notes p. (
      tree.choose x body p.0,
      p.1,
      subst (λ ns. IsStatement (names_of i.tasks) room i.vars (key k.If ∷ ns) (tree.choose x body p.0) p.1)
          (sym (append_assoc one.notes two.notes notes))
          (g.choose one.right (moved (λ ts v ns. IsBlock ts room v ns body l.vars) (past one.took) vars two.right) p.2),
    )))
    (λ o n r'' e''. absurd (cc))))

repeat_halts : (room : ℕ) (block : Parser Statements) → Halting (ABlock room) block
    → Halting (Behind k.While room) (repeat room block)
unfolding repeat
repeat_halts room block hb i s h =
    split (expression room i) _ s h
    (λ e. later (AnExpression room) (past_nothing i) refl (expressions_halt room i s e)
    (λ notes p. (empty room, (_, _, g.repeat p.1 (is_empty (names_of i.tasks) room i.vars)))))
    (λ x j r e.
    let one = expressions_sound room i j x r in
    split (block j) _ s e
    (λ e'. at_last (ABlock room) (past one.took) (ap (λ p. p.0) one.kept) (hb j s e')
    (λ notes p. (_, _, g.repeat one.right p.2)))
    (λ body l r' e'. absurd (cc)))

-- a statement behind its keyword
behind : (room : ℕ) (word : Key) (i : Input) (s : Stop) (rest : List Tok) → i.ahead ≡ toks.Key word ∷ rest
    → is_task (toks.Key word) ≡ false
    → Halts (next i) s (Behind word room (names_of i.tasks) i.vars)
    → Halts i s (AStatement room (names_of i.tasks) i.vars)
behind room word i s rest e calm got = at_last (Behind word room) (past (took_fine i (toks.Key word) rest e calm))
    refl got (λ notes p. p)

-- a print or a return by its keyword
ended_by : (room : ℕ) (word : Key) (wrap : Expression → Statement) (i : Input) (s : Stop) (rest : List Tok)
    → i.ahead ≡ toks.Key word ∷ rest → is_task (toks.Key word) ≡ false
    → ((a : List Noted) (x : Expression) → IsExpression i.vars room a x
    → IsStatement (names_of i.tasks) room i.vars (key word ∷ (a ++ mark m.Semi ∷ [])) (wrap x) i.vars)
    → and_then (ended room (next i)) (λ x j. Ok (wrap x, j)) ≡ Err s
    → Halts i s (AStatement room (names_of i.tasks) i.vars)
ended_by room word wrap i s rest e calm make h =
    split (ended room (next i)) _ s h
    (λ e'. at_last (AnEnded room) (past (took_fine i (toks.Key word) rest e calm)) refl (ended_halts room (next i) s e')
    (λ notes p. (
      wrap p.x,
      i.vars,
      subst (λ ns. IsStatement (names_of i.tasks) room i.vars (key word ∷ ns) (wrap p.x) i.vars) (sym p.is)
          (make p.a p.x p.right),
    )))
    (λ x j r e'. absurd (cc))

statement_by_halts : (room : ℕ) (block : Parser Statements) → SoundBlock room block → Halting (ABlock room) block
    → (ts : List Tok) (i : Input) (s : Stop) → i.ahead ≡ ts
    → statement_by room block (first ts) i ≡ Err s → Halts i s (AStatement room (names_of i.tasks) i.vars)
statement_by_halts room block sb hb (toks.Name x ∷ rest) i s e h = assign_halts room i s h
statement_by_halts room block sb hb (toks.Key k.Let ∷ rest) i s e h = behind room k.Let i s rest e refl
    (let_new_halts room (next i) s h)
statement_by_halts room block sb hb (toks.Key k.Set ∷ rest) i s e h = behind room k.Set i s rest e refl
    (set_cell_halts room (next i) s h)
statement_by_halts room block sb hb (toks.Key k.If ∷ rest) i s e h = behind room k.If i s rest e refl
    (choose_halts room block sb hb (next i) s h)
statement_by_halts room block sb hb (toks.Key k.While ∷ rest) i s e h = behind room k.While i s rest e refl
    (repeat_halts room block hb (next i) s h)
statement_by_halts room block sb hb (toks.Key k.Print ∷ rest) i s e h =
    ended_by room k.Print tree.print i s rest e refl (λ a x p. g.print p) h
statement_by_halts room block sb hb (toks.Key k.Return ∷ rest) i s e h =
    ended_by room k.Return tree.return i s rest e refl (λ a x p. g.return p) h
statement_by_halts room block sb hb ts i s e h = ask_statement_halts room i s h

statement_halts : (room : ℕ) (block : Parser Statements) → SoundBlock room block → Halting (ABlock room) block
    → Halting (AStatement room) (statement_over room block)
unfolding statement_over
statement_halts room block sb hb i s h = statement_by_halts room block sb hb i.ahead i s refl h

-- ---- blocks

statements_halt : (room : ℕ) (item : Parser Statement) → SoundStatement room item → Halting (AStatement room) item
    → (n : ℕ) (found : List Statement)
    → Halting (Closed room) (statements_from item n found)
unfolding statements_from
statements_halt room item si hi zero found i s h =
    refused (err_inj {A = Statements} (stop.Expected (length i.ahead)) s h) (mark m.BraceClose ∷ [])
    (record { a = []; body = tree.no_more; last = i.vars; is = refl; right = g.statements_end })
statements_halt room item si hi (suc n) found i s h =
    ⊎_elim (λ p. let e = p.1 in absurd (cc))
    (λ p.
    split (item i) (λ x. statements_from item n (found ++ x ∷ [])) s p.1
    (λ e. later (AStatement room) (past_nothing i) refl (hi i s e)
    (λ notes q. (
      mark m.BraceClose ∷ [],
      record {
        a = notes ++ [];
        body = tree.then_do q.0 tree.no_more;
        last = q.1;
        is = ap (λ ns. ns ++ mark m.BraceClose ∷ []) (sym (append-nil notes));
        right = g.statements_more q.2 g.statements_end;
      },
    )))
    (λ x j r e.
    let one = si i j x r in
    at_last (Closed room) (past one.took) refl (statements_halt room item si hi n (found ++ x ∷ []) j s e)
    (λ notes q. record {
      a = one.notes ++ q.a;
      body = tree.then_do x q.body;
      last = q.last;
      is = ap (λ ns. one.notes ++ ns) q.is ∙ sym (append_assoc one.notes q.a (mark m.BraceClose ∷ []));
      right = g.statements_more one.right q.right;
    })))
    (if_err (sees m.BraceClose i) (Ok (statements_of found, next i))
    (and_then (item i) (λ x. statements_from item n (found ++ x ∷ []))) s h)

block_by_halts : (room : ℕ) (item : Parser Statement) → SoundStatement (within room) item
    → Halting (AStatement (within room)) item → (ts : List Tok) (i : Input) (s : Stop)
    → i.ahead ≡ ts → block_by room item (first ts) i ≡ Err s → Halts i s (ABlock room (names_of i.tasks) i.vars)
unfolding statements
block_by_halts room item si hi (toks.Mark m.BraceOpen ∷ rest) i s e h =
    split (open_level room i) _ s h
    (λ e'. open_halts room i s (toks.Mark m.BraceOpen) rest e e' {P = ABlock room (names_of i.tasks) i.vars}
    (mark m.BraceClose ∷ []) (_, _, is_empty (names_of i.tasks) room i.vars))
    (λ u j r e'.
    let entry = opened room i j u (toks.Mark m.BraceOpen) rest refl e r in
    at_last (Closed (within room)) (past entry.1.took) (ap (λ p. p.0) entry.1.kept)
    (statements_halt (within room) item si hi (length j.ahead) [] j s e')
    (λ notes q. (
      q.body,
      q.last,
      subst
          (λ ns. IsBlock (names_of i.tasks) room i.vars ((toks.Mark m.BraceOpen, opening room) ∷ ns) q.body q.last)
          (sym q.is) (g.braces q.right),
    )))
block_by_halts room item si hi ts i s e h = other i s h
  where
    other : Halting {A = Statements} (ABlock room) refuse
    other = refuse_halts (ABlock room) (λ tasks vars. (empty room, (_, _, is_empty tasks room vars)))

pub block_halts : (room : ℕ) → Halting (ABlock room) (block room)
unfolding block
block_halts zero i s h = block_by_halts zero refuse (refused_statement zero) other i.ahead i s refl h
  where
    other : Halting {A = Statement} (AStatement zero) refuse
    other = refuse_halts (AStatement zero) (λ tasks vars. (key k.New ∷ mark m.Semi ∷ [], (_, _, g.ask g.new)))
block_halts (suc room) i s h =
    block_by_halts (suc room) (statement_over room (block room)) (statement_sound room (block room) (block_sound room))
    (statement_halts room (block room) (block_sound room) (block_halts room)) i.ahead i s refl h
