-- What is read as a part of an ask is one.
use Rattle.std.proofs.Common.{◌≡◌, ℕ, zero, suc, cond, List, [], ◌∷◌, ◌++◌, length, Option, Some, None, Ok, refl, ap}
use Rattle.std.proofs.Common.{sym, ◌∙◌, subst, append_assoc, ⊎_elim}
use Rattle.tj_lex.specs.declared.token.Tok.{Tok}
use Rattle.tj_lex.specs.declared.token.Tok.TheVariants as toks
use Rattle.tj_lex.specs.declared.token.Key.TheVariants as k
use Rattle.tj_lex.specs.declared.token.Mark.TheVariants as m
use Rattle.tj_syntax.specs.declared.fault.Stop.{Stop}
use Rattle.tj_syntax.specs.declared.expr.RefOf.{RefOf}
use Rattle.tj_syntax.specs.declared.expr.RefOf.TheVariants as ref
use Rattle.tj_syntax.specs.Trees as tree
use Rattle.tj_syntax.specs.Trees.{Expression, Argument}
use Rattle.tj_syntax.specs.Marks.{Name, Noted, key, mark, number_of, use_of}
use Rattle.tj_syntax.specs.Grammar as g
use Rattle.tj_syntax.specs.Grammar.{IsExpression, IsArgument, IsMoreArguments, IsArguments, IsReference, IsOr}
use Rattle.tj_syntax.specs.Inner.Input.{Input, Outcome, and_then, first, next, sees, eat, known, variable, variable_by}
use Rattle.tj_syntax.specs.Inner.Reading.{expression, separated_from, separated, argument_by, argument, reference_by}
use Rattle.tj_syntax.specs.Inner.Reading.{reference, or_else_by, or_else, asked}
use Rattle.tj_syntax.proofs.Taken.{Took, Got, Sound, took_nothing, took_both, bind_ok, if_ok, landed}
use Rattle.tj_syntax.proofs.Sound.Steps.{took_fine, Stepped, ate, knew}
use Rattle.tj_syntax.proofs.Sound.Expr.{unary_sound, expression_sound}

-- an expression at any number of levels
pub expressions_sound : (room : ℕ) → Sound (λ vars notes x. IsExpression vars room notes x) (expression room)
expressions_sound room = expression_sound _ room (unary_sound room)

-- a variable that is read
pub record GotName (i j : Input) (n : ℕ) : Type 0 where
  pub name : Name
  pub step : Stepped i j ((toks.Name name, use_of i.vars name) ∷ [])
  pub is : n ≡ number_of i.vars name

variable_by_sound : (ts : List Tok) (i j : Input) (n : ℕ) → i.ahead ≡ ts → variable_by (first ts) i ≡ Ok (n, j) →
    GotName i j n
variable_by_sound (toks.Name x ∷ rest) i j n e h = let s = knew x i j n rest e h in record {
  name = x;
  step = s.0;
  is
      = s.1;
}
variable_by_sound ts i j n e h = absurd (cc)

pub variable_sound : (i j : Input) (n : ℕ) → variable i ≡ Ok (n, j) → GotName i j n
unfolding variable
variable_sound i j n h = variable_by_sound i.ahead i j n refl h

-- ---- arguments

plain_argument : (room : ℕ) (i j : Input) (a : Argument) → and_then (expression room i) (λ x l. Ok (tree.value x, l))
    ≡ Ok (a, j)
    → Got i j (λ notes. IsArgument i.vars room notes a)
plain_argument room i j a h =
    let read = bind_ok (expression room i) _ a j h in
    let one = expressions_sound room i read.1 read.0 read.2 in
    landed (λ b l. Got i l (λ notes. IsArgument i.vars room notes b)) (tree.value read.0) a read.1 j read.3
    (record { notes = one.notes; took = one.took; kept = one.kept; right = g.value one.right })

argument_by_sound : (room : ℕ) (ts : List Tok) (i j : Input) (a : Argument) → i.ahead ≡ ts → argument_by room (first
    ts) i ≡ Ok (a, j)
    → Got i j (λ notes. IsArgument i.vars room notes a)
argument_by_sound room (toks.Key k.Own ∷ rest) i j a e h =
    let read = bind_ok (variable (next i)) _ a j h in
    let one = variable_sound (next i) read.1 read.0 read.2 in
    landed (λ b l. Got i l (λ notes. IsArgument i.vars room notes b)) (tree.own read.0) a read.1 j read.3
    (record {
      notes = key k.Own ∷ ((toks.Name one.name, use_of i.vars one.name) ∷ []);
      took = took_both (took_fine i (toks.Key k.Own) rest e refl) one.step.took;
      kept = one.step.kept;
      right = subst (λ n. IsArgument i.vars room (key k.Own ∷ ((toks.Name one.name, use_of i.vars one.name) ∷ []))
          (tree.own n)) (sym one.is) (g.own one.name);
    })
argument_by_sound room ts i j a e h = plain_argument room i j a h

pub argument_sound : (room : ℕ) → Sound (λ vars notes x. IsArgument vars room notes x) (argument room)
unfolding argument
argument_sound room i j a h = argument_by_sound room i.ahead i j a refl h

-- arguments that were read behind those found before
record MoreArguments (room : ℕ) (found result : List Argument) (i j : Input) : Type 0 where
  first : Argument
  more : List Argument
  is : result ≡ found ++ first ∷ more
  one : List Noted
  rest : List Noted
  took : Took i j (one ++ rest)
  kept : ◌≡◌ {A = List Name × Option Stop} (j.vars, j.flaw) (i.vars, i.flaw)
  is_first : IsArgument i.vars room one first
  are_more : IsMoreArguments i.vars room rest more

separated_sound : (room n : ℕ) (found result : List Argument) (i j : Input) → separated_from (argument room) n found i
    ≡ Ok (result, j)
    → MoreArguments room found result i j
unfolding separated_from
separated_sound room zero found result i j h = absurd (cc)
separated_sound room (suc n) found result i j h =
    let read = bind_ok (argument room i) _ result j h in
    let x = read.0 in
    let one = argument_sound room i read.1 x read.2 in
    let comma = bind_ok (eat m.Comma read.1) _ result j read.3 in
    ⊎_elim
    (λ yes.
    let h' : separated_from (argument room) n (found ++ x ∷ []) comma.1 ≡ Ok (result, j) = subst (λ b. cond b
    (separated_from (argument room) n (found ++ x ∷ [])) (λ l. Ok (found ++ x ∷ [], l)) comma.1 ≡ Ok (result, j))
    yes.0 comma.3 in
    let rest = separated_sound room n (found ++ x ∷ []) result comma.1 j h' in
    let same : ◌≡◌ {A = List Name × Option Stop} (comma.1.vars, comma.1.flaw) (i.vars, i.flaw) = yes.1.kept ∙ one.kept
    in
    record {
      first = x;
      more = rest.first ∷ rest.more;
      is = rest.is ∙ append_assoc found (x ∷ []) (rest.first ∷ rest.more);
      one = one.notes;
      rest = mark m.Comma ∷ (rest.one ++ rest.rest);
      took = took_both one.took (took_both yes.1.took rest.took);
      kept = rest.kept ∙ same;
      is_first = one.right;
      are_more = subst (λ v. IsMoreArguments v room (mark m.Comma ∷ (rest.one ++ rest.rest)) (rest.first ∷ rest.more))
          (ap (λ p. p.0) same) (g.arguments_more rest.is_first rest.are_more);
    })
    (λ no.
    let h' : ◌≡◌ {A = Outcome (List Argument)} (Ok (found ++ x ∷ [], comma.1)) (Ok (result, j)) = subst (λ b. cond b
    (separated_from (argument room) n (found ++ x ∷ [])) (λ l. Ok (found ++ x ∷ [], l)) comma.1 ≡ Ok (result, j))
    no.0 comma.3 in
    landed (λ r l. MoreArguments room found r i l) (found ++ x ∷ []) result comma.1 j h'
    (subst (λ l. MoreArguments room found (found ++ x ∷ []) i l) (sym no.1)
    (record {
      first = x;
      more = [];
      is = refl;
      one = one.notes;
      rest = [];
      took = took_both one.took (took_nothing read.1);
      kept = one.kept;
      is_first = one.right;
      are_more = g.arguments_end;
    })))
    (ate m.Comma read.1 comma.1 comma.0 comma.2)

pub arguments_sound : (room : ℕ) → Sound (λ vars notes xs. IsArguments vars room notes xs) (separated (argument room))
unfolding separated
arguments_sound room i j xs h =
    ⊎_elim
    (λ p. landed (λ r l. Got i l (λ notes. IsArguments i.vars room notes r)) [] xs i j p.1
    (record { notes = []; took = took_nothing i; kept = refl; right = g.no_arguments }))
    (λ p. let more = separated_sound room (length i.ahead) [] xs i j p.1 in
    record {
      notes = more.one ++ more.rest;
      took = more.took;
      kept = more.kept;
      right = subst (λ r. IsArguments i.vars room (more.one ++ more.rest) r) (sym more.is) (g.arguments more.is_first
          more.are_more);
    })
    (if_ok (sees m.ParenClose i) (Ok ([], i)) (separated_from (argument room) (length i.ahead) [] i) (xs, j) h)

-- ---- gets and joins

pub reference_by_sound : (ts : List Tok) (i j : Input) (r : RefOf) → i.ahead ≡ ts
    → reference_by (first ts) i ≡ Ok (r, j)
    → Got i j (λ notes. IsReference i.vars notes r)
reference_by_sound (toks.Name x ∷ rest) i j r e h =
    let read = bind_ok (known x i) _ r j h in
    let s = knew x i read.1 read.0 rest e read.2 in
    landed (λ b l. Got i l (λ notes. IsReference i.vars notes b)) (ref.Var read.0) r read.1 j read.3
    (record {
      notes = (toks.Name x, use_of i.vars x) ∷ [];
      took = s.0.took;
      kept = s.0.kept;
      right = subst (λ n. IsReference i.vars ((toks.Name x, use_of i.vars x) ∷ []) (ref.Var n)) (sym s.1)
          (g.reference_name x);
    })
reference_by_sound (toks.Key k.Me ∷ rest) i j r e h =
    landed (λ b l. Got i l (λ notes. IsReference i.vars notes b)) ref.Me r (next i) j h
    (record {
      notes = key k.Me ∷ [];
      took = took_fine i (toks.Key k.Me) rest e refl;
      kept = refl;
      right =
          g.reference_me;
    })
reference_by_sound ts i j r e h = absurd (cc)

or_else_by_sound : (room : ℕ) (ts : List Tok) (i j : Input) (o : Option Expression) → i.ahead ≡ ts →
    or_else_by room (first ts) i ≡ Ok (o, j)
    → Got i j (λ notes. IsOr i.vars room notes o)
or_else_by_sound room [] i j o e h =
    landed (λ b l. Got i l (λ notes. IsOr i.vars room notes b)) None o i j h (record {
      notes = [];
      took = took_nothing
          i;
      kept = refl;
      right = g.no_or;
    })
or_else_by_sound room (toks.Key k.Or ∷ rest) i j o e h =
    let read = bind_ok (expression room (next i)) _ o j h in
    let one = expressions_sound room (next i) read.1 read.0 read.2 in
    landed (λ b l. Got i l (λ notes. IsOr i.vars room notes b)) (Some read.0) o read.1 j read.3
    (record {
      notes = key k.Or ∷ one.notes;
      took = took_both (took_fine i (toks.Key k.Or) rest e refl) one.took;
      kept
          = one.kept;
      right = g.or_else one.right;
    })
or_else_by_sound room (t ∷ rest) i j o e h =
    landed (λ b l. Got i l (λ notes. IsOr i.vars room notes b)) None o i j h (record {
      notes = [];
      took = took_nothing
          i;
      kept = refl;
      right = g.no_or;
    })

-- a reference with what is computed where the cell is broken
pub record GotAsked (room : ℕ) (i j : Input) (r : RefOf) (o : Option Expression) : Type 0 where
  pub one : List Noted
  pub two : List Noted
  pub took : Took i j (one ++ two)
  pub kept : ◌≡◌ {A = List Name × Option Stop} (j.vars, j.flaw) (i.vars, i.flaw)
  pub is_reference : IsReference i.vars one r
  pub is_other : IsOr i.vars room two o

pub asked_sound : (room : ℕ) (i j : Input) (a : RefOf × Option Expression) → asked room i ≡ Ok (a, j) → GotAsked room
    i j a.0 a.1
unfolding asked reference or_else
asked_sound room i j a h =
    let read = bind_ok (reference i) _ a j h in
    let one = reference_by_sound i.ahead i read.1 read.0 refl read.2 in
    let more = bind_ok (or_else room read.1) _ a j read.3 in
    let two = or_else_by_sound room read.1.ahead read.1 more.1 more.0 refl more.2 in
    landed (λ b l. GotAsked room i l b.0 b.1) (read.0, more.0) a more.1 j more.3
    (record {
      one = one.notes;
      two = two.notes;
      took = took_both one.took two.took;
      kept = two.kept ∙ one.kept;
      is_reference = one.right;
      is_other = subst (λ v. IsOr v room two.notes more.0) (ap (λ p. p.0) one.kept) two.right;
    })
