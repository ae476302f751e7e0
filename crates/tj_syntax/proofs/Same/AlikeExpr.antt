-- Expressions are read alike.
use Rattle.std.proofs.Common.{◌≡◌, ℕ, zero, suc, [], ◌∷◌, ◌++◌, Option, Some, None, refl, arith, inl, inr, nat_eq}
use Rattle.tj_lex.specs.declared.token.Tok.{Tok}
use Rattle.tj_lex.specs.declared.token.Tok.TheVariants as toks
use Rattle.tj_lex.specs.declared.token.Key.TheVariants as k
use Rattle.tj_lex.specs.declared.token.Mark.{Mark}
use Rattle.tj_lex.specs.declared.token.Mark.TheVariants as m
use Rattle.tj_syntax.specs.declared.read_expr.Level.{Level}
use Rattle.tj_syntax.specs.declared.read_expr.Level.TheVariants.{Sums as sums, Products as products}
use Rattle.tj_syntax.specs.declared.expr.Op.{Op}
use Rattle.tj_syntax.specs.declared.expr.Rel.{Rel}
use Rattle.tj_syntax.specs.declared.fault.Breach.TheVariants as breach
use Rattle.tj_syntax.specs.Trees.{Expression}
use Rattle.tj_syntax.specs.Marks.{Name, index_of}
use Rattle.tj_syntax.specs.Inner.Input.{Parser, refuse, expect, open_level, known, known_at, variable, variable_by, is_mark}
use Rattle.tj_syntax.specs.Inner.Reading.{operator, relation, PairList, pair_by, pairs_from, pairs, chain, comparison_by}
use Rattle.tj_syntax.specs.Inner.Reading.{sum_over, expression_over, unary_by, unary, expression}
use Rattle.tj_syntax.proofs.Same.AlikeSteps.{Local, Loose, Strict, Narrow, read, any, bind_local, then_local, mapped_local}
use Rattle.tj_syntax.proofs.Same.AlikeSteps.{bind_narrow, pure_narrow, first_narrow, pure_local, skip_local, refuse_local}
use Rattle.tj_syntax.proofs.Same.AlikeSteps.{breaks_local, by_first, by_vars, by_count, either_local, at_end, loose}
use Rattle.tj_syntax.proofs.Same.AlikeSteps.{strictly}

pub expect_local : (mark : Mark) → Strict any (expect mark) (expect mark)
unfolding expect
expect_local mark n d = by_first _ _ (λ t. either_local (is_mark mark t) (skip_local n d)
    (refuse_local (suc n) (suc d) n d))

pub open_local : (room : ℕ) → Strict any (open_level room) (open_level room)
unfolding open_level
open_local room n d = either_local (nat_eq room 0) (breaks_local breach.Deep (suc n) (suc d) n d) (skip_local n d)

pub known_local : (x : Name) → Strict any (known x) (known x)
unfolding known
known_local x n d = by_vars _ _ (λ vars. by (index_of vars x))
  where
    by : (o : Option ℕ) → Local (suc n) (suc d) n d any (known_at o) (known_at o)
    by None = breaks_local breach.Unknown (suc n) (suc d) n d
    by (Some number) = then_local (skip_local n d) (pure_local refl n d)

operator-none : (level : Level) → operator level None ≡ None
operator-none sums = refl
operator-none products = refl

pair_narrow : (item : Parser Expression) → Narrow item → (more : PairList → Parser PairList)
    → ((found : PairList) → Narrow (more found))
    → (found : PairList) (o : Option Op) → Narrow (pair_by item found more o)
pair_narrow item h more k found None = pure_narrow found
pair_narrow item h more k found (Some o) = bind_narrow (skip_local 0 0).narrow
    (λ _. bind_narrow h (λ y. k (found ++ (o, y) ∷ [])))

pairs_narrow : (item : Parser Expression) → Narrow item → (level : Level) (n : ℕ) (found : PairList)
    → Narrow (pairs_from item level n found)
unfolding pairs_from
pairs_narrow item h level zero found = pure_narrow found
pairs_narrow item h level (suc n) found = first_narrow
    (λ t. pair_narrow item h (pairs_from item level n) (pairs_narrow item h level n) found (operator level t))

pair_local : (item : Parser Expression) → Strict any item item → (n d : ℕ) (more more' : PairList → Parser PairList)
    → ((found found' : PairList) → Local n d n d any (more found) (more' found'))
    → (found found' : PairList) (o : Option Op)
    → Local (suc n) (suc d) (suc n) (suc d) any (pair_by item found more o) (pair_by item found' more' o)
pair_local item h n d more more' k found found' None = pure_local refl (suc n) (suc d)
pair_local item h n d more more' k found found' (Some o) =
    strictly n d (bind_local (skip_local n d)
    (λ _ _ _. bind_local (loose h n d) (λ y y' _. k (found ++ (o, y) ∷ []) (found' ++ (o, y') ∷ []))))

pairs_local : (item : Parser Expression) → Strict any item item → (level : Level) (n d : ℕ) (found found' : PairList)
    → Local n d n d any (pairs_from item level n found) (pairs_from item level d found')
unfolding pairs_from
pairs_local item h level zero zero found found' = pure_local refl zero zero
pairs_local item h level zero (suc d) found found' = at_end zero (suc d) zero (suc d) (inl refl) (pure_narrow found)
    (λ vars heads heads' flaw flaw'. rw (operator-none level)
    (read [] vars heads heads' flaw flaw' found found' refl (omega arith) (omega arith)))
pairs_local item h level (suc n) zero found found' =
    at_end (suc n) zero (suc n) zero (inr refl) (pairs_narrow item (h 0 0).narrow level (suc n) found)
    (λ vars heads heads' flaw flaw'. rw (operator-none level)
    (read [] vars heads heads' flaw flaw' found found' refl (omega arith) (omega arith)))
pairs_local item h level (suc n) (suc d) found found' =
    by_first _ _ (λ t. pair_local item h n d (pairs_from item level n) (pairs_from item level d)
    (pairs_local item h level n d) found found' (operator level t))

chain_local : (item : Parser Expression) → Strict any item item → (level : Level)
    → Strict any (chain item level) (chain item level)
unfolding chain pairs
chain_local item h level n d =
    bind_local (h n d) (λ x y _. bind_local (by_count (λ c. pairs_from item level c [])
    (λ c. pairs_from item level c []) (λ c d. pairs_local item h level c d [] [])) (λ a b _. pure_local refl n d))

sum_local : (item : Parser Expression) → Strict any item item → Strict any (sum_over item) (sum_over item)
sum_local item h = chain_local (chain item products) (chain_local item h products) sums

comparison_local : (item : Parser Expression) → Strict any item item → (x y : Expression) (r : Option Rel)
    → Loose any (comparison_by (sum_over item) x r) (comparison_by (sum_over item) y r)
comparison_local item h x y None n d = pure_local refl n d
comparison_local item h x y (Some r) n d = then_local (loose skip_local n d)
    (mapped_local _ _ (loose (sum_local item h) n d))

expression_over_local : (item : Parser Expression) → Strict any item item
    → Strict any (expression_over item) (expression_over item)
unfolding expression_over
expression_over_local item h n d = bind_local (sum_local item h n d)
    (λ x y _. by_first _ _ (λ t. comparison_local item h x y (relation t) n d))

unary_by_local : (inner grouped : Parser Expression) → Loose any inner inner → Loose any grouped grouped
    → (room : ℕ) (t : Option Tok)
    → Strict any (unary_by inner grouped room t) (unary_by inner grouped room t)
unary_by_local inner grouped h l room (Some (toks.Num x)) n d = then_local (skip_local n d) (pure_local refl n d)
unary_by_local inner grouped h l room (Some (toks.Name x)) n d = mapped_local _ _ (known_local x n d)
unary_by_local inner grouped h l room (Some (toks.Key k.Me)) n d = then_local (skip_local n d) (pure_local refl n d)
unary_by_local inner grouped h l room (Some (toks.Mark m.Minus)) n d =
    then_local (open_local room n d) (mapped_local _ _ (h n d))
unary_by_local inner grouped h l room (Some (toks.Mark m.ParenOpen)) n d =
    then_local (open_local room n d) (bind_local (l n d)
    (λ a b _. then_local (loose (expect_local m.ParenClose) n d) (pure_local refl n d)))
unary_by_local inner grouped h l room t n d = refuse_local (suc n) (suc d) n d

unary_local : (room : ℕ) → Strict any (unary room) (unary room)
unfolding unary
unary_local zero n d = by_first _ _ (λ t. unary_by_local refuse refuse (λ c d. refuse_local c d c d)
    (λ c d. refuse_local c d c d) zero t n d)
unary_local (suc room) n d = by_first _ _ (λ t. unary_by_local (unary room) (expression_over (unary room))
    (loose (unary_local room)) (loose (expression_over_local (unary room) (unary_local room))) (suc room) t n d)

pub expression_local : (room : ℕ) → Strict any (expression room) (expression room)
expression_local room = expression_over_local (unary room) (unary_local room)

pub variable_local : Strict any variable variable
unfolding variable
variable_local n d = by_first _ _ by
  where
    by : (t : Option Tok) → Local (suc n) (suc d) n d any (variable_by t) (variable_by t)
    by (Some (toks.Name x)) = known_local x n d
    by t = refuse_local (suc n) (suc d) n d
