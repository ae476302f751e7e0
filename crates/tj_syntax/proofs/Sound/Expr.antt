-- What is read as an expression is one.
use Rattle.std.proofs.Common.{◌≡◌, ℕ, zero, suc, List, [], ◌∷◌, ◌++◌, length, Option, Some, None, Ok, refl, ap, sym}
use Rattle.std.proofs.Common.{◌∙◌, subst, append_assoc}
use Rattle.std.proofs.lemmas.List.{append-nil}
use Rattle.tj_lex.specs.declared.token.Tok.{Tok}
use Rattle.tj_lex.specs.declared.token.Tok.TheVariants as toks
use Rattle.tj_lex.specs.declared.token.Key.TheVariants as k
use Rattle.tj_lex.specs.declared.token.Mark.TheVariants as m
use Rattle.tj_syntax.specs.declared.read_expr.Level.{Level}
use Rattle.tj_syntax.specs.declared.read_expr.Level.TheVariants.{Sums as sums, Products as products}
use Rattle.tj_syntax.specs.declared.expr.Op.{Op}
use Rattle.tj_syntax.specs.declared.expr.Op.TheVariants as op
use Rattle.tj_syntax.specs.declared.expr.Rel.{Rel}
use Rattle.tj_syntax.specs.declared.expr.Rel.TheVariants as rel
use Rattle.tj_syntax.specs.Trees as tree
use Rattle.tj_syntax.specs.Trees.{Expression}
use Rattle.tj_syntax.specs.Marks.{Name, Noted, fine, key, mark, opening, within, use_of}
use Rattle.tj_syntax.specs.Grammar.{level_of, op_mark, rel_mark, chain_of, IsExpression, alone, compared, IsChain}
use Rattle.tj_syntax.specs.Grammar.{operands, IsPairs, pairs_end, pairs_more, IsOperand, product, unary as one_unary}
use Rattle.tj_syntax.specs.Grammar.{IsUnary, signed, number, name, me, grouped}
use Rattle.tj_syntax.specs.View.{pairs_of}
use Rattle.tj_syntax.specs.Inner.Input.{Input, Outcome, Parser, first, next, refuse, expect, open_level, known}
use Rattle.tj_syntax.specs.Inner.Reading.{operator, relation, PairList, pair_by, pairs_from, pairs, chain}
use Rattle.tj_syntax.specs.Inner.Reading.{comparison_by, operand_over, sum_over, expression_over, unary_by, unary}
use Rattle.tj_syntax.proofs.Taken.{Got, Sound, took_nothing, took_both, bind_ok, landed}
use Rattle.tj_syntax.proofs.Sound.Steps.{took_fine, expected, opened, knew}

-- the mark at the front is that of the operator, which is one of the level
operator_mark : {level : Level} (o is : Op) (rest : List Tok) → o ≡ is → level_of o ≡ level
    → (more : List Tok) × (toks.Mark (op_mark o) ∷ rest ≡ toks.Mark (op_mark is) ∷ more) × (level_of is ≡ level)
operator_mark o is rest e l = (rest, ap (λ o. toks.Mark (op_mark o) ∷ rest) e, ap level_of (sym e) ∙ l)

pub operator_next : (level : Level) (ts : List Tok) (o : Op) → operator level (first ts) ≡ Some o
    → (rest : List Tok) × (ts ≡ toks.Mark (op_mark o) ∷ rest) × (level_of o ≡ level)
operator_next sums [] o h = absurd (cc)
operator_next products [] o h = absurd (cc)
operator_next sums (toks.Mark m.Plus ∷ rest) o h = operator_mark op.Plus o rest (cc) refl
operator_next sums (toks.Mark m.Minus ∷ rest) o h = operator_mark op.Minus o rest (cc) refl
operator_next products (toks.Mark m.Times ∷ rest) o h = operator_mark op.Times o rest (cc) refl
operator_next products (toks.Mark m.Over ∷ rest) o h = operator_mark op.Over o rest (cc) refl
operator_next products (toks.Mark m.Rest ∷ rest) o h = operator_mark op.Rest o rest (cc) refl
operator_next sums (t ∷ rest) o h = absurd (cc)
operator_next products (t ∷ rest) o h = absurd (cc)

-- the mark at the front is that of the comparison
relation_mark : (r is : Rel) (rest : List Tok) → r ≡ is
    → (more : List Tok) × (toks.Mark (rel_mark r) ∷ rest ≡ toks.Mark (rel_mark is) ∷ more)
relation_mark r is rest e = (rest, ap (λ r. toks.Mark (rel_mark r) ∷ rest) e)

pub relation_next : (ts : List Tok) (rel : Rel) → relation (first ts) ≡ Some rel → (rest : List Tok) × (ts ≡ toks.Mark
    (rel_mark rel) ∷ rest)
relation_next (toks.Mark m.Eq ∷ rest) r h = relation_mark rel.Eq r rest (cc)
relation_next (toks.Mark m.Ne ∷ rest) r h = relation_mark rel.Ne r rest (cc)
relation_next (toks.Mark m.Lt ∷ rest) r h = relation_mark rel.Lt r rest (cc)
relation_next (toks.Mark m.Le ∷ rest) r h = relation_mark rel.Le r rest (cc)
relation_next (toks.Mark m.Gt ∷ rest) r h = relation_mark rel.Gt r rest (cc)
relation_next (toks.Mark m.Ge ∷ rest) r h = relation_mark rel.Ge r rest (cc)
relation_next ts r h = absurd (cc)

-- pairs that were read behind those found before
record More (level : Level) (room : ℕ) (found result : PairList) (i j : Input) : Type 0 where
  more : PairList
  is : result ≡ found ++ more
  got : Got i j (λ notes. IsPairs i.vars level room notes (pairs_of more))

no_more : (level : Level) (room : ℕ) (found result : PairList) (i j : Input) → ◌≡◌ {A = Outcome PairList} (Ok (
  found,
  i,
)) (Ok (result, j)) → More level room found result i j
no_more level room found result i j h =
    landed (λ r k. More level room found r i k) found result i j h
    (record {
      more = [];
      is = sym (append-nil found);
      got = record {
        notes = [];
        took = took_nothing i;
        kept = refl;
        right = pairs_end;
      };
    })

pair_sound : (item : Parser Expression) (level : Level) (room : ℕ) → Sound (λ vars notes x. IsOperand vars level room
    notes x) item
    → (found result : PairList) (i j : Input) (go_on : PairList → Parser PairList)
    → ((longer : PairList) (k : Input) → go_on longer k ≡ Ok (result, j) → More level room longer result k j)
    → (o : Option Op) → operator level (first i.ahead) ≡ o → pair_by item found go_on o i ≡ Ok (result, j) → More
    level room found result i j
pair_sound item level room si found result i j go_on ih None e h = no_more level room found result i j h
pair_sound item level room si found result i j go_on ih (Some o) e h =
    let t = operator_next level i.ahead o e in
    let read = bind_ok (item (next i)) (λ y. go_on (found ++ (o, y) ∷ [])) result j h in
    let y = read.0 in
    let k = read.1 in
    let one = si (next i) k y read.2 in
    let rest = ih (found ++ (o, y) ∷ []) k read.3 in
    let head = took_fine i (toks.Mark (op_mark o)) t.0 t.1 refl in
    record {
      more = (o, y) ∷ rest.more;
      is = rest.is ∙ append_assoc found ((o, y) ∷ []) rest.more;
      got = record {
        notes = mark (op_mark o) ∷ (one.notes ++ rest.got.notes);
        took = took_both head (took_both one.took rest.got.took);
        kept = rest.got.kept ∙ one.kept;
        right = pairs_more o t.2 one.right (subst (λ v. IsPairs v level room rest.got.notes (pairs_of rest.more)) (ap
            (λ p. p.0) one.kept) rest.got.right);
      };
    }

pairs_sound : (item : Parser Expression) (level : Level) (room : ℕ) → Sound (λ vars notes x. IsOperand vars level room
    notes x) item
    → (n : ℕ) (found result : PairList) (i j : Input) → pairs_from item level n found i ≡ Ok (result, j) → More level
    room found result i j
unfolding pairs_from
pairs_sound item level room si zero found result i j h = no_more level room found result i j h
pairs_sound item level room si (suc n) found result i j h =
    pair_sound item level room si found result i j (pairs_from item level n)
    (λ longer k h'. pairs_sound item level room si n longer result k j h') (operator level (first i.ahead)) refl h

pub chain_sound : (item : Parser Expression) (level : Level) (room : ℕ) → Sound (λ vars notes x. IsOperand vars level
    room notes x) item
    → Sound (λ vars notes x. IsChain vars level room notes x) (chain item level)
unfolding chain pairs
chain_sound item level room si i j a h =
    let read = bind_ok (item i) _ a j h in
    let x = read.0 in
    let one = si i read.1 x read.2 in
    let more = bind_ok (pairs_from item level (length read.1.ahead) [] read.1) _ a j read.3 in
    let rest = pairs_sound item level room si (length read.1.ahead) [] more.0 read.1 more.1 more.2 in
    landed (λ b k. Got i k (λ notes. IsChain i.vars level room notes b)) (chain_of x (pairs_of more.0)) a more.1 j
    more.3
    (record {
      notes = one.notes ++ rest.got.notes;
      took = took_both one.took rest.got.took;
      kept = rest.got.kept ∙ one.kept;
      right = subst (λ ps. IsChain i.vars level room (one.notes ++ rest.got.notes) (chain_of x (pairs_of ps))) (sym
          rest.is)
          (operands one.right (subst (λ v. IsPairs v level room rest.got.notes (pairs_of rest.more)) (ap (λ p. p.0)
          one.kept) rest.got.right));
    })

abbrev pub SoundUnary : ℕ → Parser Expression → Type 0
SoundUnary room u = Sound (λ vars notes x. IsUnary vars room notes x) u

pub product_sound : (u : Parser Expression) (room : ℕ) → SoundUnary room u → Sound (λ vars notes x. IsOperand vars
    products room notes x) u
product_sound u room su i j a h = let got = su i j a h in record {
  notes = got.notes;
  took = got.took;
  kept =
      got.kept;
  right = one_unary got.right;
}

pub sum_sound : (u : Parser Expression) (room : ℕ) → SoundUnary room u → Sound (λ vars notes x. IsChain vars sums room
    notes x) (sum_over u)
sum_sound u room su = chain_sound (operand_over u sums) sums room
    (λ i j a h. let got = chain_sound u products room (product_sound u room su) i j a h in
    record { notes = got.notes; took = got.took; kept = got.kept; right = product got.right })

pub expression_sound : (u : Parser Expression) (room : ℕ) → SoundUnary room u → Sound (λ vars notes x. IsExpression
    vars room notes x) (expression_over u)
unfolding expression_over
expression_sound u room su i j a h =
    let read = bind_ok (sum_over u i) _ a j h in
    let one = sum_sound u room su i read.1 read.0 read.2 in
    by read.0 read.1 one (relation (first read.1.ahead)) refl read.3
  where
    by : (x : Expression) (l : Input) (one : Got i l (λ notes. IsChain i.vars sums room notes x)) (o : Option Rel) →
        relation (first l.ahead) ≡ o
        → comparison_by (sum_over u) x o l ≡ Ok (a, j) → Got i j (λ notes. IsExpression i.vars room notes a)
    by x l one None e h' = landed (λ b k. Got i k (λ notes. IsExpression i.vars room notes b)) x a l j h'
        (record { notes = one.notes; took = one.took; kept = one.kept; right = alone one.right })
    by x l one (Some r) e h' =
        let t = relation_next l.ahead r e in
        let more = bind_ok (sum_over u (next l)) _ a j h' in
        let two = sum_sound u room su (next l) more.1 more.0 more.2 in
        let head = took_fine l (toks.Mark (rel_mark r)) t.0 t.1 refl in
        landed (λ b k. Got i k (λ notes. IsExpression i.vars room notes b)) (tree.comparison r x more.0) a more.1 j
        more.3
        (record {
          notes = one.notes ++ (mark (rel_mark r) ∷ two.notes);
          took = took_both one.took (took_both head two.took);
          kept = two.kept ∙ one.kept;
          right = compared r one.right (subst (λ v. IsChain v sums room two.notes more.0) (ap (λ p. p.0) one.kept)
              two.right);
        })

refuse_sound : {A : Type 0} (Q : List Name → List Noted → A → Type 0) → Sound Q refuse
refuse_sound Q i j a h = absurd (cc)

unary_by_sound : (inner grouped_ : Parser Expression) (room : ℕ) → SoundUnary (within room) inner
    → Sound (λ vars notes x. IsExpression vars (within room) notes x) grouped_ → (ts : List Tok) (i j : Input) (a :
    Expression)
    → i.ahead ≡ ts → unary_by inner grouped_ room (first ts) i ≡ Ok (a, j) → Got i j (λ notes. IsUnary i.vars room
    notes a)
unary_by_sound inner group room si sg (toks.Num n ∷ rest) i j a e h =
    landed (λ b k. Got i k (λ notes. IsUnary i.vars room notes b)) (tree.number n) a (next i) j h
    (record {
      notes = (toks.Num n, fine) ∷ [];
      took = took_fine i (toks.Num n) rest e refl;
      kept = refl;
      right =
          number n;
    })
unary_by_sound inner group room si sg (toks.Key k.Me ∷ rest) i j a e h =
    landed (λ b k. Got i k (λ notes. IsUnary i.vars room notes b)) tree.me a (next i) j h
    (record { notes = key k.Me ∷ []; took = took_fine i (toks.Key k.Me) rest e refl; kept = refl; right = me })
unary_by_sound inner group room si sg (toks.Name x ∷ rest) i j a e h =
    let read = bind_ok (known x i) _ a j h in
    let step = knew x i read.1 read.0 rest e read.2 in
    landed (λ b k. Got i k (λ notes. IsUnary i.vars room notes b)) (tree.variable read.0) a read.1 j read.3
    (record {
      notes = (toks.Name x, use_of i.vars x) ∷ [];
      took = step.0.took;
      kept = step.0.kept;
      right = subst (λ n. IsUnary i.vars room ((toks.Name x, use_of i.vars x) ∷ []) (tree.variable n)) (sym step.1)
          (name x);
    })
unary_by_sound inner group room si sg (toks.Mark m.Minus ∷ rest) i j a e h =
    let read = bind_ok (open_level room i) _ a j h in
    let step = opened room i read.1 read.0 (toks.Mark m.Minus) rest refl e read.2 in
    let more = bind_ok (inner read.1) _ a j read.3 in
    let one = si read.1 more.1 more.0 more.2 in
    landed (λ b k. Got i k (λ notes. IsUnary i.vars room notes b)) (tree.negation more.0) a more.1 j more.3
    (record {
      notes = (toks.Mark m.Minus, opening room) ∷ one.notes;
      took = took_both step.1.took one.took;
      kept = one.kept ∙ step.1.kept;
      right = signed (subst (λ v. IsUnary v (within room) one.notes more.0) (ap (λ p. p.0) step.1.kept) one.right);
    })
unary_by_sound inner group room si sg (toks.Mark m.ParenOpen ∷ rest) i j a e h =
    let read = bind_ok (open_level room i) _ a j h in
    let step = opened room i read.1 read.0 (toks.Mark m.ParenOpen) rest refl e read.2 in
    let more = bind_ok (group read.1) _ a j read.3 in
    let one = sg read.1 more.1 more.0 more.2 in
    let last = bind_ok (expect m.ParenClose more.1) _ a j more.3 in
    let close = expected m.ParenClose more.1 last.1 last.0 last.2 in
    landed (λ b k. Got i k (λ notes. IsUnary i.vars room notes b)) more.0 a last.1 j last.3
    (record {
      notes = (toks.Mark m.ParenOpen, opening room) ∷ (one.notes ++ mark m.ParenClose ∷ []);
      took = took_both step.1.took (took_both one.took close.took);
      kept = close.kept ∙ one.kept ∙ step.1.kept;
      right = grouped (subst (λ v. IsExpression v (within room) one.notes more.0) (ap (λ p. p.0) step.1.kept)
          one.right);
    })
unary_by_sound inner group room si sg ts i j a e h = absurd (cc)

pub unary_sound : (room : ℕ) → SoundUnary room (unary room)
unfolding unary
unary_sound zero i j a h = unary_by_sound refuse refuse zero (refuse_sound _) (refuse_sound _) i.ahead i j a refl h
unary_sound (suc room) i j a h =
    unary_by_sound (unary room) (expression_over (unary room)) (suc room) (unary_sound room) (expression_sound (unary
    room) room (unary_sound room)) i.ahead i j a refl h
