-- What is read as a block is one.
use Rattle.std.proofs.Common.{◌≡◌, ℕ, zero, suc, false, List, [], ◌∷◌, ◌++◌, length, Ok, refl, ap, sym, ◌∙◌, subst}
use Rattle.std.proofs.Common.{append_assoc, ⊎_elim}
use Rattle.std.proofs.lemmas.List.{append-nil}
use Rattle.tj_lex.specs.declared.token.Tok.{Tok}
use Rattle.tj_lex.specs.declared.token.Tok.TheVariants as toks
use Rattle.tj_lex.specs.declared.token.Key.{Key}
use Rattle.tj_lex.specs.declared.token.Key.TheVariants as k
use Rattle.tj_lex.specs.declared.token.Mark.TheVariants as m
use Rattle.tj_syntax.specs.Trees as tree
use Rattle.tj_syntax.specs.Trees.{Expression, Statement, Statements, Otherwise}
use Rattle.tj_syntax.specs.Marks.{Name, Noted, key, mark, opening, within}
use Rattle.tj_syntax.specs.Grammar as g
use Rattle.tj_syntax.specs.Grammar.{IsExpression, IsStatement, IsBlock, IsStatements, IsElse}
use Rattle.tj_syntax.specs.View.{statements_of}
use Rattle.tj_syntax.specs.Inner.Input.{Input, Parser, and_then, first, next, refuse, sees, open_level, names_of}
use Rattle.tj_syntax.specs.Inner.Reading.{expression, ended, otherwise_by, otherwise, choose, repeat, statement_by}
use Rattle.tj_syntax.specs.Inner.Reading.{statement_over, statements_from, statements, block_by, block}
use Rattle.tj_syntax.proofs.Taken.{Took, took_nothing, took_both, bind_ok, if_ok, landed, is_task}
use Rattle.tj_syntax.proofs.Sound.Steps.{took_fine, opened, mark_next}
use Rattle.tj_syntax.proofs.Sound.AskParts.{expressions_sound}
use Rattle.tj_syntax.proofs.Sound.Stmt.{Made, Behind, Whole, let_new_sound, assign_sound, set_cell_sound, ended_sound}
use Rattle.tj_syntax.proofs.Sound.Stmt.{ask_statement_sound}

-- ---- blocks

refuse_made : {A : Type 0} (P : Input → List Noted → A → List Name → Type 0) (i j : Input) (a : A) → refuse i ≡ Ok (
  a,
  j,
) → Made i j (λ notes last. P i notes a last)
refuse_made P i j a h = absurd (cc)

abbrev pub SoundBlock : ℕ → Parser Statements → Type 0
SoundBlock room p = (i j : Input) (b : Statements) → p i ≡ Ok (b, j) → Made i j (λ notes last. IsBlock (names_of
    i.tasks) room i.vars notes b last)

abbrev pub SoundStatement : ℕ → Parser Statement → Type 0
SoundStatement room p = (i j : Input) (s : Statement) → p i ≡ Ok (s, j) → Whole room i j s

otherwise_by_sound : (room : ℕ) (block : Parser Statements) → SoundBlock room block → (ts : List Tok) (i j : Input) (o
    : Otherwise) → i.ahead ≡ ts
    → otherwise_by block (first ts) i ≡ Ok (o, j) → Made i j (λ notes last. IsElse (names_of i.tasks) room i.vars
    notes o last)
otherwise_by_sound room block sb [] i j o e h =
    landed (λ b l. Made i l (λ notes last. IsElse (names_of i.tasks) room i.vars notes b last)) tree.nothing o i j h
    (record { notes = []; took = took_nothing i; right = g.no_else })
otherwise_by_sound room block sb (toks.Key k.Else ∷ rest) i j o e h =
    let read = bind_ok (block (next i)) _ o j h in
    let got = sb (next i) read.1 read.0 read.2 in
    landed (λ b l. Made i l (λ notes last. IsElse (names_of i.tasks) room i.vars notes b last)) (tree.block read.0) o
    read.1 j read.3
    (record {
      notes = key k.Else ∷ got.notes;
      took = took_both (took_fine i (toks.Key k.Else) rest e refl) got.took;
      right = g.else_block got.right;
    })
otherwise_by_sound room block sb (t ∷ rest) i j o e h =
    landed (λ b l. Made i l (λ notes last. IsElse (names_of i.tasks) room i.vars notes b last)) tree.nothing o i j h
    (record { notes = []; took = took_nothing i; right = g.no_else })

choose_sound : (room : ℕ) (block : Parser Statements) → SoundBlock room block → (i j : Input) (s : Statement) → choose
    room block i ≡ Ok (s, j)
    → Behind (key k.If) room i j s
unfolding choose otherwise
choose_sound room block sb i j s h =
    let read = bind_ok (expression room i) _ s j h in
    let one = expressions_sound room i read.1 read.0 read.2 in
    let body = bind_ok (block read.1) _ s j read.3 in
    let two = sb read.1 body.1 body.0 body.2 in
    let other = bind_ok (otherwise block body.1) _ s j body.3 in
    let three = otherwise_by_sound room block sb body.1.ahead body.1 other.1 other.0 refl other.2 in
    let vars : read.1.vars ≡ i.vars = ap (λ p. p.0) one.kept in
    let tasks : body.1.tasks ≡ i.tasks = two.took.tasks ∙ one.took.tasks in
    landed (λ b l. Behind (key k.If) room i l b) (tree.choose read.0 body.0 other.0) s other.1 j other.3
    (record {
      notes = one.notes ++ (two.notes ++ three.notes);
      took = took_both one.took (took_both two.took three.took);
      right = g.choose one.right
          (subst (λ v. IsBlock (names_of i.tasks) room v two.notes body.0 body.1.vars) vars
          (subst (λ ts. IsBlock (names_of ts) room read.1.vars two.notes body.0 body.1.vars) one.took.tasks two.right))
          (subst (λ ts. IsElse (names_of ts) room body.1.vars three.notes other.0 other.1.vars) tasks three.right);
    })

repeat_sound : (room : ℕ) (block : Parser Statements) → SoundBlock room block → (i j : Input) (s : Statement) → repeat
    room block i ≡ Ok (s, j)
    → Behind (key k.While) room i j s
unfolding repeat
repeat_sound room block sb i j s h =
    let read = bind_ok (expression room i) _ s j h in
    let one = expressions_sound room i read.1 read.0 read.2 in
    let body = bind_ok (block read.1) _ s j read.3 in
    let two = sb read.1 body.1 body.0 body.2 in
    let vars : read.1.vars ≡ i.vars = ap (λ p. p.0) one.kept in
    landed (λ b l. Behind (key k.While) room i l b) (tree.repeat read.0 body.0) s body.1 j body.3
    (record {
      notes = one.notes ++ two.notes;
      took = took_both one.took two.took;
      right = g.repeat one.right
          (subst (λ v. IsBlock (names_of i.tasks) room v two.notes body.0 body.1.vars) vars
          (subst (λ ts. IsBlock (names_of ts) room read.1.vars two.notes body.0 body.1.vars) one.took.tasks two.right));
    })

-- a statement behind its keyword
behind : (room : ℕ) (word : _) (i j : Input) (s : Statement) (rest : List Tok) → i.ahead ≡ toks.Key word ∷ rest →
    is_task (toks.Key word) ≡ false
    → Behind (key word) room (next i) j s → Whole room i j s
behind room word i j s rest e calm got =
    record {
      notes = key word ∷ got.notes;
      took = took_both (took_fine i (toks.Key word) rest e calm) got.took;
      right
          = got.right;
    }

-- a print or a return by its keyword
ended_by : (room : ℕ) (word : Key) (wrap : Expression → Statement) (i j : Input) (s : Statement) (rest : List Tok)
    → i.ahead ≡ toks.Key word ∷ rest → is_task (toks.Key word) ≡ false
    → ((a : List Noted) (x : Expression) → IsExpression i.vars room a x
    → IsStatement (names_of i.tasks) room i.vars (key word ∷ (a ++ mark m.Semi ∷ [])) (wrap x) i.vars)
    → and_then (ended room (next i)) (λ x l. Ok (wrap x, l)) ≡ Ok (s, j) → Whole room i j s
ended_by room word wrap i j s rest e calm make h =
    let read = bind_ok (ended room (next i)) _ s j h in
    let got = ended_sound room (next i) read.1 read.0 read.2 in
    landed (λ b l. Whole room i l b) (wrap read.0) s read.1 j read.3
    (record {
      notes = key word ∷ (got.notes ++ mark m.Semi ∷ []);
      took = took_both (took_fine i (toks.Key word) rest e calm) got.took;
      right = subst
          (λ v. IsStatement (names_of i.tasks) room i.vars (key word ∷ (got.notes ++ mark m.Semi ∷ [])) (wrap read.0) v)
          (sym got.vars) (make got.notes read.0 got.right);
    })

statement_by_sound : (room : ℕ) (block : Parser Statements) → SoundBlock room block → (ts : List Tok) (i j : Input) (s
    : Statement) → i.ahead ≡ ts
    → statement_by room block (first ts) i ≡ Ok (s, j) → Whole room i j s
statement_by_sound room block sb (toks.Name x ∷ rest) i j s e h = assign_sound room i j s h
statement_by_sound room block sb (toks.Key k.Let ∷ rest) i j s e h = behind room k.Let i j s rest e refl
    (let_new_sound room (next i) j s h)
statement_by_sound room block sb (toks.Key k.Set ∷ rest) i j s e h = behind room k.Set i j s rest e refl
    (set_cell_sound room (next i) j s h)
statement_by_sound room block sb (toks.Key k.If ∷ rest) i j s e h = behind room k.If i j s rest e refl (choose_sound
    room block sb (next i) j s h)
statement_by_sound room block sb (toks.Key k.While ∷ rest) i j s e h = behind room k.While i j s rest e refl
    (repeat_sound room block sb (next i) j s h)
statement_by_sound room block sb (toks.Key k.Print ∷ rest) i j s e h =
    ended_by room k.Print tree.print i j s rest e refl (λ a x p. g.print p) h
statement_by_sound room block sb (toks.Key k.Return ∷ rest) i j s e h =
    ended_by room k.Return tree.return i j s rest e refl (λ a x p. g.return p) h
statement_by_sound room block sb ts i j s e h = ask_statement_sound room i j s h

pub statement_sound : (room : ℕ) (block : Parser Statements) → SoundBlock room block
    → SoundStatement room (statement_over
    room block)
unfolding statement_over
statement_sound room block sb i j s h = statement_by_sound room block sb i.ahead i j s refl h

-- statements that were read up to the brace, behind those found before
record MoreStatements (room : ℕ) (found : List Statement) (result : Statements) (i j : Input) : Type 0 where
  more : List Statement
  is : result ≡ statements_of (found ++ more)
  notes : List Noted
  took : Took i j (notes ++ mark m.BraceClose ∷ [])
  right : IsStatements (names_of i.tasks) room i.vars notes (statements_of more) j.vars

statements_from_sound : (room : ℕ) (item : Parser Statement) → SoundStatement room item → (n : ℕ) (found : List
    Statement) (result : Statements) (i j : Input)
    → statements_from item n found i ≡ Ok (result, j) → MoreStatements room found result i j
unfolding statements_from
statements_from_sound room item si zero found result i j h = absurd (cc)
statements_from_sound room item si (suc n) found result i j h =
    ⊎_elim
    (λ p. let t = mark_next m.BraceClose i.ahead p.0 in
    landed (λ r l. MoreStatements room found r i l) (statements_of found) result (next i) j p.1
    (record {
      more = [];
      is = ap statements_of (sym (append-nil found));
      notes = [];
      took = took_fine i (toks.Mark
          m.BraceClose) t.0 t.1 refl;
      right = g.statements_end;
    }))
    (λ p.
    let read = bind_ok (item i) (λ s. statements_from item n (found ++ s ∷ [])) result j p.1 in
    let s = read.0 in
    let one = si i read.1 s read.2 in
    let rest = statements_from_sound room item si n (found ++ s ∷ []) result read.1 j read.3 in
    record {
      more = s ∷ rest.more;
      is = rest.is ∙ ap statements_of (append_assoc found (s ∷ []) rest.more);
      notes = one.notes ++ rest.notes;
      took = subst (λ ns. Took i j ns) (sym (append_assoc one.notes rest.notes (mark m.BraceClose ∷ []))) (took_both
          one.took rest.took);
      right = g.statements_more one.right
          (subst (λ ts. IsStatements (names_of ts) room read.1.vars rest.notes (statements_of rest.more) j.vars)
          one.took.tasks rest.right);
    })
    (if_ok (sees m.BraceClose i) (Ok (statements_of found, next i)) (and_then (item i) (λ s. statements_from item n
    (found ++ s ∷ []))) (result, j) h)

block_by_sound : (room : ℕ) (item : Parser Statement) → SoundStatement (within room) item → (ts : List Tok) (i j :
    Input) (b : Statements) → i.ahead ≡ ts
    → block_by room item (first ts) i ≡ Ok (b, j) → Made i j (λ notes last. IsBlock (names_of i.tasks) room i.vars
    notes b last)
unfolding statements
block_by_sound room item si (toks.Mark m.BraceOpen ∷ rest) i j b e h =
    let read = bind_ok (open_level room i) _ b j h in
    let entry = opened room i read.1 read.0 (toks.Mark m.BraceOpen) rest refl e read.2 in
    let got = statements_from_sound (within room) item si (length read.1.ahead) [] b read.1 j read.3 in
    record {
      notes = (toks.Mark m.BraceOpen, opening room) ∷ (got.notes ++ mark m.BraceClose ∷ []);
      took = took_both entry.1.took got.took;
      right = g.braces (subst (λ r. IsStatements (names_of i.tasks) (within room) i.vars got.notes r j.vars) (sym
          got.is)
          (subst (λ v. IsStatements (names_of i.tasks) (within room) v got.notes (statements_of got.more) j.vars) (ap
          (λ p. p.0) entry.1.kept)
          (subst (λ ts. IsStatements (names_of ts) (within room) read.1.vars got.notes (statements_of got.more)
          j.vars) entry.1.took.tasks got.right)));
    }
block_by_sound room item si ts i j b e h = absurd (cc)

pub refused_statement : (room : ℕ) → SoundStatement room refuse
refused_statement room i j s h = absurd (cc)

pub block_sound : (room : ℕ) → SoundBlock room (block room)
unfolding block
block_sound zero i j b h = block_by_sound zero refuse (refused_statement zero) i.ahead i j b refl h
block_sound (suc room) i j b h =
    block_by_sound (suc room) (statement_over room (block room)) (statement_sound room (block room) (block_sound
    room)) i.ahead i j b refl h
