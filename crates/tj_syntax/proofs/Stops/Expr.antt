-- Where the reading of an expression stops, it is the beginning of one.
use Rattle.std.proofs.Common.{◌≡◌, ℕ, zero, suc, List, [], ◌∷◌, ◌++◌, length, Option, Some, None, Err, refl, ap, sym}
use Rattle.std.proofs.Common.{subst, append_assoc}
use Rattle.tj_lex.specs.declared.token.Tok.{Tok}
use Rattle.tj_lex.specs.declared.token.Tok.TheVariants as toks
use Rattle.tj_lex.specs.declared.token.Key.TheVariants as k
use Rattle.tj_lex.specs.declared.token.Mark.TheVariants as m
use Rattle.tj_syntax.specs.declared.read_expr.Level.{Level}
use Rattle.tj_syntax.specs.declared.read_expr.Level.TheVariants.{Sums as sums, Products as products}
use Rattle.tj_syntax.specs.declared.expr.Op.{Op}
use Rattle.tj_syntax.specs.declared.expr.Rel.{Rel}
use Rattle.tj_syntax.specs.declared.fault.Stop.{Stop}
use Rattle.tj_syntax.specs.declared.fault.Stop.TheVariants as stop
use Rattle.tj_syntax.specs.Trees as tree
use Rattle.tj_syntax.specs.Trees.{Expression, Pairs}
use Rattle.tj_syntax.specs.Marks.{Name, Noted, key, mark, within}
use Rattle.tj_syntax.specs.Grammar.{op_mark, rel_mark, chain_of, IsExpression, alone, compared, IsChain, operands}
use Rattle.tj_syntax.specs.Grammar.{IsPairs, pairs_end, pairs_more, IsOperand, product, unary as one_unary, IsUnary}
use Rattle.tj_syntax.specs.Grammar.{signed, name, me, grouped}
use Rattle.tj_syntax.specs.Inner.Input.{Input, Parser, first, next, refuse, expect, open_level, known, names_of}
use Rattle.tj_syntax.specs.Inner.Reading.{operator, relation, PairList, pair_by, pairs_from, pairs, chain, comparison_by}
use Rattle.tj_syntax.specs.Inner.Reading.{operand_over, sum_over, expression_over, unary_by, unary, expression}
use Rattle.tj_syntax.proofs.Taken.{Sound, Got}
use Rattle.tj_syntax.proofs.Sound.Steps.{took_fine, opened}
use Rattle.tj_syntax.proofs.Sound.Expr.{operator_next, relation_next, chain_sound, product_sound, sum_sound}
use Rattle.tj_syntax.proofs.Sound.Expr.{expression_sound, unary_sound, SoundUnary}
use Rattle.tj_syntax.proofs.Stops.Steps.{Halts, Part, Halting, past, past_nothing, past_both, split, later, at_last}
use Rattle.tj_syntax.proofs.Stops.Steps.{refused, refused_behind, err_inj, expect_stops, open_halts, known_halts}

abbrev pub AnExpression : ℕ → Part
AnExpression room tasks vars notes = (x : Expression) × IsExpression vars room notes x

abbrev AChain : Level → ℕ → Part
AChain level room tasks vars notes = (x : Expression) × IsChain vars level room notes x

abbrev SomePairs : Level → ℕ → Part
SomePairs level room tasks vars notes = (ps : Pairs) × IsPairs vars level room notes ps

abbrev AnOperand : Level → ℕ → Part
AnOperand level room tasks vars notes = (x : Expression) × IsOperand vars level room notes x

abbrev AUnary : ℕ → Part
AUnary room tasks vars notes = (x : Expression) × IsUnary vars room notes x

-- the word `me`, of which each part of an expression may be made
abbrev pub just_me : List Noted
just_me = key k.Me ∷ []

pub is_me : (vars : List Name) (room : ℕ) → IsExpression vars room just_me tree.me
is_me vars room = alone (operands (product (operands (one_unary me) pairs_end)) pairs_end)

pairs_halt : (item : Parser Expression) (level : Level) (room : ℕ) → Sound
    (λ vars notes x. IsOperand vars level room notes x) item
    → Halting (AnOperand level room) item → (n : ℕ) (found : PairList)
    → Halting (SomePairs level room) (pairs_from item level n found)
unfolding pairs_from
pairs_halt item level room si hi zero found i s h = absurd (cc)
pairs_halt item level room si hi (suc n) found i s h = by
    (λ longer j. pairs_halt item level room si hi n longer j s) (operator level (first i.ahead)) refl h
  where
    by : ((longer : PairList) (j : Input) → pairs_from item level n longer j ≡ Err s
        → Halts j s (SomePairs level room (names_of j.tasks) j.vars)) → (o : Option Op)
        → operator level (first i.ahead) ≡ o → pair_by item found (pairs_from item level n) o i ≡ Err s
        → Halts i s (SomePairs level room (names_of i.tasks) i.vars)
    by rest None e h' = absurd (cc)
    by rest (Some o) e h' =
        let t = operator_next level i.ahead o e in
        let head = took_fine i (toks.Mark (op_mark o)) t.0 t.1 refl in
        split (item (next i)) (λ y. pairs_from item level n (found ++ (o, y) ∷ [])) s h'
        (λ e'. later (AnOperand level room) (past head) refl (hi (next i) s e')
        (λ notes p. ([], (tree.pair o p.0 tree.no_pairs, pairs_more o t.2 p.1 pairs_end))))
        (λ y j r e'.
        let one = si (next i) j y r in
        at_last (SomePairs level room) (past_both (past head) (past one.took)) (ap (λ p. p.0) one.kept)
        (rest (found ++ (o, y) ∷ []) j e')
        (λ notes p. (tree.pair o y p.0, pairs_more o t.2 one.right p.1)))

pub chain_halts : (item : Parser Expression) (level : Level) (room : ℕ) → Sound
    (λ vars notes x. IsOperand vars level room notes x) item
    → Halting (AnOperand level room) item → Halting (AChain level room) (chain item level)
unfolding chain pairs
chain_halts item level room si hi i s h =
    split (item i) _ s h
    (λ e. later (AnOperand level room) (past_nothing i) refl (hi i s e)
    (λ notes p. ([], (p.0, operands p.1 pairs_end))))
    (λ x j r e.
    let one = si i j x r in
    split (pairs_from item level (length j.ahead) [] j) _ s e
    (λ e'. at_last (SomePairs level room) (past one.took) (ap (λ p. p.0) one.kept)
    (pairs_halt item level room si hi (length j.ahead) [] j s e')
    (λ notes p. (chain_of x p.0, operands one.right p.1)))
    (λ found l r' e'. absurd (cc)))

product_halts : (u : Parser Expression) (room : ℕ) → Halting (AUnary room) u → Halting (AnOperand products room) u
product_halts u room hu i s h = at_last (AUnary room) (past_nothing i) refl (hu i s h) (λ notes p. (p.0, one_unary p.1))

sum_halts : (u : Parser Expression) (room : ℕ) → SoundUnary room u → Halting (AUnary room) u
    → Halting (AChain sums room) (sum_over u)
sum_halts u room su hu = chain_halts (operand_over u sums) sums room
    (λ i j a h. let got = chain_sound u products room (product_sound u room su) i j a h in
    record { notes = got.notes; took = got.took; kept = got.kept; right = product got.right })
    (λ i s h. at_last (AChain products room) (past_nothing i) refl
    (chain_halts u products room (product_sound u room su) (product_halts u room hu) i s h)
    (λ notes p. (p.0, product p.1)))

expression_halts : (u : Parser Expression) (room : ℕ) → SoundUnary room u → Halting (AUnary room) u
    → Halting (AnExpression room) (expression_over u)
unfolding expression_over
expression_halts u room su hu i s h =
    split (sum_over u i) _ s h
    (λ e. at_last (AChain sums room) (past_nothing i) refl (sum_halts u room su hu i s e) (λ notes p. (p.0, alone p.1)))
    (λ x j r e. by x j (sum_sound u room su i j x r) (relation (first j.ahead)) refl e)
  where
    by : (x : Expression) (l : Input) (one : Got i l (λ notes. IsChain i.vars sums room notes x)) (o : Option Rel)
        → relation (first l.ahead) ≡ o
        → comparison_by (sum_over u) x o l ≡ Err s → Halts i s (AnExpression room (names_of i.tasks) i.vars)
    by x l one None e h' = absurd (cc)
    by x l one (Some r) e h' =
        let t = relation_next l.ahead r e in
        let head = took_fine l (toks.Mark (rel_mark r)) t.0 t.1 refl in
        split (sum_over u (next l)) _ s h'
        (λ e'. at_last (AChain sums room) (past_both (past one.took) (past head)) (ap (λ p. p.0) one.kept)
        (sum_halts u room su hu (next l) s e')
        (λ notes p. (
          tree.comparison r x p.0,
          subst (λ ns. IsExpression i.vars room ns (tree.comparison r x p.0))
              (sym (append_assoc one.notes (mark (rel_mark r) ∷ []) notes)) (compared r one.right p.1),
        )))
        (λ y j r' e'. absurd (cc))

pub refuse_halts : (P : Part) → ((tasks vars : List Name) → (back : List Noted) × P tasks vars back) → {A : Type 0}
    → Halting {A = A} P refuse
refuse_halts P complete {A} i s h =
    let c = complete (names_of i.tasks) i.vars in
    refused (err_inj {A = A} (stop.Expected (length i.ahead)) s h) c.0 c.1

unary_by_halts : (inner group : Parser Expression) (room : ℕ) → SoundUnary (within room) inner
    → Sound (λ vars notes x. IsExpression vars (within room) notes x) group → Halting (AUnary (within room)) inner
    → Halting (AnExpression (within room)) group
    → (ts : List Tok) (i : Input) (s : Stop) → i.ahead ≡ ts → unary_by inner group room (first ts) i ≡ Err s
    → Halts i s (AUnary room (names_of i.tasks) i.vars)
unary_by_halts inner group room si sg hi hg (toks.Num n ∷ rest) i s e h = absurd (cc)
unary_by_halts inner group room si sg hi hg (toks.Key k.Me ∷ rest) i s e h = absurd (cc)
unary_by_halts inner group room si sg hi hg (toks.Name x ∷ rest) i s e h =
    split (known x i) _ s h
    (λ e'. known_halts x i s rest e e' {P = AUnary room (names_of i.tasks) i.vars} [] (_, name x))
    (λ n j r e'. absurd (cc))
unary_by_halts inner group room si sg hi hg (toks.Mark m.Minus ∷ rest) i s e h =
    split (open_level room i) _ s h
    (λ e'. open_halts room i s (toks.Mark m.Minus) rest e e' {P = AUnary room (names_of i.tasks) i.vars} just_me
    (tree.negation tree.me, signed me))
    (λ u j r e'.
    let step = opened room i j u (toks.Mark m.Minus) rest refl e r in
    split (inner j) _ s e'
    (λ e''. at_last (AUnary (within room)) (past step.1.took) (ap (λ p. p.0) step.1.kept) (hi j s e'')
    (λ notes p. (tree.negation p.0, signed p.1)))
    (λ x l r' e''. absurd (cc)))
unary_by_halts inner group room si sg hi hg (toks.Mark m.ParenOpen ∷ rest) i s e h =
    split (open_level room i) _ s h
    (λ e'. open_halts room i s (toks.Mark m.ParenOpen) rest e e' {P = AUnary room (names_of i.tasks) i.vars}
    (just_me ++ mark m.ParenClose ∷ [])
    (tree.me, grouped (is_me i.vars (within room))))
    (λ u j r e'.
    let step = opened room i j u (toks.Mark m.ParenOpen) rest refl e r in
    let vars : j.vars ≡ i.vars = ap (λ p. p.0) step.1.kept in
    split (group j) _ s e'
    (λ e''. later (AnExpression (within room)) (past step.1.took) vars (hg j s e'')
    (λ notes p. (mark m.ParenClose ∷ [], (p.0, grouped p.1))))
    (λ x l r' e''.
    let one = sg j l x r' in
    split (expect m.ParenClose l) _ s e''
    (λ e₃. refused_behind (past_both (past step.1.took) (past one.took)) (expect_stops m.ParenClose l s e₃)
    (mark m.ParenClose ∷ [])
    (x, grouped (subst (λ v. IsExpression v (within room) one.notes x) vars one.right)))
    (λ v n r'' e₃. absurd (cc))))
unary_by_halts inner group room si sg hi hg ts i s e h = other i s h
  where
    other : Halting {A = Expression} (AUnary room) refuse
    other = refuse_halts (AUnary room) (λ tasks vars. (just_me, (tree.me, me)))

pub unary_halts : (room : ℕ) → Halting (AUnary room) (unary room)
unfolding unary
unary_halts zero i s h = unary_by_halts refuse refuse zero (λ i j a h. absurd (cc)) (λ i j a h. absurd (cc))
    (refuse_halts (AUnary zero) (λ tasks vars. (just_me, (tree.me, me))))
    (refuse_halts (AnExpression zero) (λ tasks vars. (just_me, (tree.me, is_me vars zero))))
    i.ahead i s refl h
unary_halts (suc room) i s h = unary_by_halts (unary room) (expression_over (unary room)) (suc room)
    (unary_sound room) (expression_sound (unary room) room (unary_sound room))
    (unary_halts room) (expression_halts (unary room) room (unary_sound room) (unary_halts room)) i.ahead i s refl h

pub expressions_halt : (room : ℕ) → Halting (AnExpression room) (expression room)
expressions_halt room = expression_halts (unary room) room (unary_sound room) (unary_halts room)
