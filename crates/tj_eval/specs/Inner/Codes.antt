-- How the logic stores trees: each has a code, and is read back from it. Nothing here says what a script means; it is
-- asked of each type that stands for a value of a struct.
use Rattle.std.specs.Prelude.{◌≡◌, ℕ, zero, suc, ℤ, pos, negsuc, List, [], ◌∷◌, Option, Some, None, refl}
use Rattle.std.specs.Coded.{Coded, code_by}
use base.Stored.{Gv, gnil, gnum, gcons, num}
use denote.Struct.Codes.{itself}
use Rattle.tj_syntax.specs.declared.expr.Op.{Op}
use Rattle.tj_syntax.specs.declared.expr.Op.TheVariants as op
use Rattle.tj_syntax.specs.declared.expr.Rel.{Rel}
use Rattle.tj_syntax.specs.declared.expr.Rel.TheVariants as rel
use Rattle.tj_syntax.specs.declared.expr.RefOf.{RefOf}
use Rattle.tj_syntax.specs.declared.expr.RefOf.TheVariants as ref
use Rattle.tj_syntax.specs.Trees as tree
use Rattle.tj_syntax.specs.Trees.{Expression, Pairs, Argument, Given, Statement, Statements, Otherwise}

-- an operator as a number
abbrev op_code : Op → ℕ
op_code op.Plus = 0
op_code op.Minus = 1
op_code op.Times = 2
op_code op.Over = 3
op_code op.Rest = 4

-- an operator by its number
abbrev op_back : ℕ → Op
op_back zero = op.Plus
op_back (suc zero) = op.Minus
op_back (suc (suc zero)) = op.Times
op_back (suc (suc (suc zero))) = op.Over
op_back (suc (suc (suc (suc k)))) = op.Rest

-- an operator is that of its number
pub op_same : (o : Op) → op_back (op_code o) ≡ o
op_same op.Plus = refl
op_same o = refl

-- a comparison as a number
abbrev rel_code : Rel → ℕ
rel_code rel.Eq = 0
rel_code rel.Ne = 1
rel_code rel.Lt = 2
rel_code rel.Le = 3
rel_code rel.Gt = 4
rel_code rel.Ge = 5

-- a comparison by its number
abbrev rel_back : ℕ → Rel
rel_back zero = rel.Eq
rel_back (suc zero) = rel.Ne
rel_back (suc (suc zero)) = rel.Lt
rel_back (suc (suc (suc zero))) = rel.Le
rel_back (suc (suc (suc (suc zero)))) = rel.Gt
rel_back (suc (suc (suc (suc (suc k))))) = rel.Ge

-- a comparison is that of its number
pub rel_same : (r : Rel) → rel_back (rel_code r) ≡ r
rel_same rel.Eq = refl
rel_same r = refl

-- what holds a reference, as its code
abbrev ref_code : RefOf → Gv
ref_code (ref.Var x) = gnum x
ref_code ref.Me = gnil

-- what holds a reference, by its code
abbrev ref_back : Gv → RefOf
ref_back gnil = ref.Me
ref_back (gnum x) = ref.Var x
ref_back (gcons a b) = ref.Me

-- what holds a reference is that of its code
pub ref_same : (r : RefOf) → ref_back (ref_code r) ≡ r
ref_same (ref.Var x) = refl
ref_same ref.Me = refl

-- the first part of a code
abbrev head : Gv → Gv
head gnil = gnil
head (gnum n) = gnil
head (gcons a b) = a

-- the second part of a code
abbrev tail : Gv → Gv
tail gnil = gnil
tail (gnum n) = gnil
tail (gcons a b) = b

-- a whole number by its sign and its size
abbrev int_back : ℕ → ℕ → ℤ
int_back zero n = pos n
int_back (suc k) n = negsuc n

-- a whole number as its code
abbrev int_code : ℤ → Gv
int_code (pos n) = gcons (gnum 0) (gnum n)
int_code (negsuc n) = gcons (gnum 1) (gnum n)

abbrev mutual
  -- an expression as its code
  x_code : Expression → Gv
  x_code (tree.number n) = int_code n
  x_code (tree.variable x) = gnum x
  x_code tree.me = gnil
  x_code (tree.negation e) = gcons gnil (x_code e)
  x_code (tree.chain e pairs) = gcons (gcons gnil (x_code e)) (pairs_code pairs)
  x_code (tree.comparison r a b) = gcons (gcons (gnum (rel_code r)) (x_code a)) (x_code b)

  -- pairs as their code
  pairs_code : Pairs → Gv
  pairs_code tree.no_pairs = gnil
  pairs_code (tree.pair o e more) = gcons (gcons (gnum (op_code o)) (x_code e)) (pairs_code more)

-- an expression, and pairs, by their codes
abbrev x_back : Gv → Expression × Pairs
x_back gnil = (tree.me, tree.no_pairs)
x_back (gnum x) = (tree.variable x, tree.no_pairs)
x_back (gcons gnil a) = (tree.negation (x_back a).0, tree.no_pairs)
x_back (gcons (gnum k) a) = (tree.number (int_back k (num a)), tree.no_pairs)
x_back (gcons (gcons gnil a) b) = (tree.chain (x_back a).0 (x_back b).1, tree.no_pairs)
x_back (gcons (gcons (gnum k) a) b) =
    (tree.comparison (rel_back k) (x_back a).0 (x_back b).0, tree.pair (op_back k) (x_back a).0 (x_back b).1)
x_back (gcons (gcons (gcons a b) c) d) = (tree.me, tree.no_pairs)

-- a whole number is that of its code
pub int_same : (n : ℤ) → (x_back (int_code n)).0 ≡ tree.number n
int_same (pos n) = refl
int_same (negsuc n) = refl

mutual
  -- an expression is that of its code
  pub x_same : (e : Expression) → (x_back (x_code e)).0 ≡ e
  x_same (tree.number n) = int_same n
  x_same (tree.negation e) = λ i. tree.negation (x_same e i)
  x_same (tree.chain e pairs) = λ i. tree.chain (x_same e i) (pairs_same pairs i)
  x_same (tree.comparison r a b) = λ i. tree.comparison (rel_same r i) (x_same a i) (x_same b i)
  x_same e = refl

  -- pairs are those of their code
  pub pairs_same : (pairs : Pairs) → (x_back (pairs_code pairs)).1 ≡ pairs
  pairs_same tree.no_pairs = refl
  pairs_same (tree.pair o e more) = λ i. tree.pair (op_same o i) (x_same e i) (pairs_same more i)

-- arguments as their code
abbrev args_code : List Argument → Gv
args_code [] = gnil
args_code (tree.own x ∷ more) = gcons (gnum x) (args_code more)
args_code (tree.value e ∷ more) = gcons (gcons gnil (x_code e)) (args_code more)

-- arguments by their code
abbrev args_back : Gv → List Argument
args_back gnil = []
args_back (gnum n) = []
args_back (gcons gnil b) = []
args_back (gcons (gnum x) b) = tree.own x ∷ args_back b
args_back (gcons (gcons t a) b) = tree.value (x_back a).0 ∷ args_back b

-- arguments are those of their code
pub args_same : (list : List Argument) → args_back (args_code list) ≡ list
args_same [] = refl
args_same (tree.own x ∷ more) = λ i. tree.own x ∷ args_same more i
args_same (tree.value e ∷ more) = λ i. tree.value (x_same e i) ∷ args_same more i

-- an expression that may be missing, as its code
abbrev or_code : Option Expression → Gv
or_code None = gnil
or_code (Some e) = gcons gnil (x_code e)

-- an expression that may be missing, by its code
abbrev or_back : Gv → Option Expression
or_back gnil = None
or_back (gnum n) = None
or_back (gcons t a) = Some (x_back a).0

-- it is that of its code
pub or_same : (e : Option Expression) → or_back (or_code e) ≡ e
or_same None = refl
or_same (Some e) = λ i. Some (x_same e i)

-- an ask as its code
abbrev ask_code : tree.Ask → Gv
ask_code tree.new = gnil
ask_code (tree.fork f list) = gcons (gnum f) (args_code list)
ask_code (tree.get r e) = gcons (gcons gnil (ref_code r)) (or_code e)
ask_code (tree.join r e) = gcons (gcons (gnum 0) (ref_code r)) (or_code e)

-- an ask by its code
abbrev ask_back : Gv → tree.Ask
ask_back gnil = tree.new
ask_back (gnum n) = tree.new
ask_back (gcons gnil b) = tree.new
ask_back (gcons (gnum f) b) = tree.fork f (args_back b)
ask_back (gcons (gcons gnil a) b) = tree.get (ref_back a) (or_back b)
ask_back (gcons (gcons (gnum n) a) b) = tree.join (ref_back a) (or_back b)
ask_back (gcons (gcons (gcons a b) c) d) = tree.new

-- an ask is that of its code
pub ask_same : (ask : tree.Ask) → ask_back (ask_code ask) ≡ ask
ask_same tree.new = refl
ask_same (tree.fork f list) = λ i. tree.fork f (args_same list i)
ask_same (tree.get r e) = λ i. tree.get (ref_same r i) (or_same e i)
ask_same (tree.join r e) = λ i. tree.join (ref_same r i) (or_same e i)

-- what a variable is given, as its code
abbrev given_code : Given → Gv
given_code (tree.answer ask) = gcons gnil (ask_code ask)
given_code (tree.result_of e) = gcons (gnum 0) (x_code e)

-- what a variable is given, by its code
abbrev given_back : Gv → Given
given_back gnil = tree.answer tree.new
given_back (gnum n) = tree.answer tree.new
given_back (gcons gnil b) = tree.answer (ask_back b)
given_back (gcons (gnum n) b) = tree.result_of (x_back b).0
given_back (gcons (gcons a b) c) = tree.answer tree.new

-- what a variable is given is that of its code
pub given_same : (g : Given) → given_back (given_code g) ≡ g
given_same (tree.answer ask) = λ i. tree.answer (ask_same ask i)
given_same (tree.result_of e) = λ i. tree.result_of (x_same e i)

abbrev mutual
  -- a statement as its code
  s_code : Statement → Gv
  s_code (tree.let_new x g) = gcons (gnum 0) (gcons (gnum x) (given_code g))
  s_code (tree.assign x g) = gcons (gnum 1) (gcons (gnum x) (given_code g))
  s_code (tree.ask ask) = gcons gnil (ask_code ask)
  s_code (tree.print e) = gcons (gcons gnil gnil) (x_code e)
  s_code (tree.set_cell x e) = gcons (gcons gnil (gnum x)) (x_code e)
  s_code (tree.return e) = gcons (gcons gnil (gcons gnil gnil)) (x_code e)
  s_code (tree.choose e body other) = gcons (gcons (gcons (gnum 0) (x_code e)) (body_code body)) (other_code other)
  s_code (tree.repeat e body) = gcons (gcons (gcons (gnum 1) (x_code e)) (body_code body)) gnil

  -- statements as their code
  body_code : Statements → Gv
  body_code tree.no_more = gnil
  body_code (tree.then_do s more) = gcons (s_code s) (body_code more)

  -- what is done otherwise, as its code
  other_code : Otherwise → Gv
  other_code tree.nothing = gnil
  other_code (tree.block body) = gcons gnil (body_code body)

-- a value of each of the three sorts
abbrev Back : Type 0
Back = Statement × Statements × Otherwise

-- the statements behind the first
abbrev behind : Statements → Statements
behind tree.no_more = tree.no_more
behind (tree.then_do s more) = more

-- a conditional or a loop, by a number that tells which
abbrev block_back : ℕ → Expression → Statements → Otherwise → Statement
block_back zero e body other = tree.choose e body other
block_back (suc k) e body other = tree.repeat e body

-- a statement by the two parts of its code, and the blocks that are in them
abbrev s_back_of : Gv → Gv → Statements → Otherwise → Statement
s_back_of gnil b body other = tree.ask (ask_back b)
s_back_of (gnum zero) b body other = tree.let_new (num (head b)) (given_back (tail b))
s_back_of (gnum (suc k)) b body other = tree.assign (num (head b)) (given_back (tail b))
s_back_of (gcons gnil gnil) b body other = tree.print (x_back b).0
s_back_of (gcons gnil (gnum x)) b body other = tree.set_cell x (x_back b).0
s_back_of (gcons gnil (gcons u v)) b body other = tree.return (x_back b).0
s_back_of (gcons (gnum n) v) b body other = tree.ask tree.new
s_back_of (gcons (gcons t e) v) b body other = block_back (num t) (x_back e).0 (behind body) other

-- a statement, statements, and what is done otherwise, by their codes
abbrev s_back : Gv → Back
s_back gnil = (tree.ask tree.new, tree.no_more, tree.nothing)
s_back (gnum n) = (tree.ask tree.new, tree.no_more, tree.nothing)
s_back (gcons a b) = (
  s_back_of a b (s_back a).1 (s_back b).2,
  tree.then_do (s_back a).0 (s_back b).1,
  tree.block (s_back b).1,
)

mutual
  -- a statement is that of its code
  pub s_same : (s : Statement) → (s_back (s_code s)).0 ≡ s
  s_same (tree.let_new x g) = λ i. tree.let_new x (given_same g i)
  s_same (tree.assign x g) = λ i. tree.assign x (given_same g i)
  s_same (tree.ask ask) = λ i. tree.ask (ask_same ask i)
  s_same (tree.print e) = λ i. tree.print (x_same e i)
  s_same (tree.set_cell x e) = λ i. tree.set_cell x (x_same e i)
  s_same (tree.return e) = λ i. tree.return (x_same e i)
  s_same (tree.choose e body other) = λ i. tree.choose (x_same e i) (body_same body i) (other_same other i)
  s_same (tree.repeat e body) = λ i. tree.repeat (x_same e i) (body_same body i)

  -- statements are those of their code
  pub body_same : (body : Statements) → (s_back (body_code body)).1 ≡ body
  body_same tree.no_more = refl
  body_same (tree.then_do s more) = λ i. tree.then_do (s_same s i) (body_same more i)

  -- what is done otherwise is that of its code
  pub other_same : (other : Otherwise) → (s_back (other_code other)).2 ≡ other
  other_same tree.nothing = refl
  other_same (tree.block body) = λ i. tree.block (body_same body i)

-- the code of expressions
abbrev pub expression_code : Coded Expression
expression_code = code_by Gv itself x_code (λ g. (x_back g).0) x_same

-- the code of statements, one by one
abbrev pub statement_code : Coded Statement
statement_code = code_by Gv itself s_code (λ g. (s_back g).0) s_same

-- the code of a block
abbrev pub statements_code : Coded Statements
statements_code = code_by Gv itself body_code (λ g. (s_back g).1) body_same
