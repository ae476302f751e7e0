-- The faults of forks beside what is read.
use Rattle.std.proofs.Common.{◌≡◌, ℕ, suc, ◌+◌, Bool, true, false, cond, is_some, List, [], ◌∷◌, ◌++◌, length, Option}
use Rattle.std.proofs.Common.{None, Ok, refl, ap, sym, ◌∙◌}
use Rattle.std.specs.Prelude.{nat_le}
use Rattle.tj_lex.specs.declared.token.Tok.{Tok}
use Rattle.tj_lex.specs.declared.token.Tok.TheVariants as toks
use Rattle.tj_lex.specs.declared.token.Key.{Key}
use Rattle.tj_lex.specs.declared.token.Key.TheVariants as k
use Rattle.tj_lex.specs.declared.token.Mark.{Mark}
use Rattle.tj_lex.specs.declared.token.Mark.TheVariants as m
use Rattle.tj_syntax.specs.declared.read_expr.Level.{Level}
use Rattle.tj_syntax.specs.declared.fault.Breach.TheVariants.{Unknown, Twice, Many}
use Rattle.tj_syntax.specs.declared.fault.Stop.{Stop}
use Rattle.tj_syntax.specs.Trees.{Expression, Pairs, Argument}
use Rattle.tj_syntax.specs.Marks.{Name, Note, fine, broken, Noted, key, mark, opening, index_of, use_of, declaration}
use Rattle.tj_syntax.specs.Faults.{tokens_of}
use Rattle.tj_syntax.specs.Grammar.{op_mark, rel_mark, IsExpression, alone, compared, IsChain, operands, IsPairs}
use Rattle.tj_syntax.specs.Grammar.{pairs_end, pairs_more, IsOperand, product, unary as one_unary, IsUnary, signed}
use Rattle.tj_syntax.specs.Grammar.{number, name, me, grouped, IsArgument, own, value, IsMoreArguments, arguments_end}
use Rattle.tj_syntax.specs.Grammar.{arguments_more, IsArguments, no_arguments, arguments}
use Rattle.tj_syntax.specs.Inner.Input.{Head, Outcome, Parser, and_then, first_flaw}
use Rattle.tj_syntax.proofs.Taken.{note_flaw, flaw_after, flaw_after-append, first_flaw-none}
use Rattle.tj_syntax.proofs.Complete.Steps.{at, Does, then_does, mapped, length-ahead}

-- the notes have no fault of a fork
abbrev pub AreQuiet : List Noted → Type 0
AreQuiet a = (heads : List Head) (left : ℕ) (flaw : Option Stop) → flaw_after heads a left flaw ≡ flaw

pub quiet-append : (a b : List Noted) → AreQuiet a → AreQuiet b → AreQuiet (a ++ b)
quiet-append a b p q heads left flaw =
    flaw_after-append heads a b left flaw ∙ ap (λ f. flaw_after heads b left f) (p heads (length b + left) flaw)
    ∙ q heads left flaw

pub quiet_token : (n : Noted) → ((heads : List Head) (left : ℕ) → note_flaw heads n left ≡ None) → AreQuiet (n ∷ [])
quiet_token n h heads left flaw = ap (λ f. first_flaw flaw f) (h heads (suc (0 + left))) ∙ first_flaw-none flaw

pub quiet_mark : (t : Mark) (note : Note) → AreQuiet ((toks.Mark t, note) ∷ [])
quiet_mark t note = quiet_token (toks.Mark t, note) (λ heads left. refl)

pub quiet_key : (t : Key) → AreQuiet (key t ∷ [])
quiet_key t = quiet_token (key t) (λ heads left. refl)

pub quiet_use : (vars : List Name) (x : Name) → AreQuiet ((toks.Name x, use_of vars x) ∷ [])
quiet_use vars x = quiet_token (toks.Name x, use_of vars x) (λ heads left. by heads left (is_some (index_of vars x)))
  where
    by : (heads : List Head) (left : ℕ) (b : Bool)
        → note_flaw heads (toks.Name x, cond b fine (broken Unknown)) left ≡ None
    by heads left true = refl
    by heads left false = refl

pub quiet_declaration : (most : ℕ) (earlier : List Name) (x : Name) (note : Note)
    → ((heads : List Head) (left : ℕ) → note_flaw heads (toks.Name x, note) left ≡ None)
    → AreQuiet ((toks.Name x, declaration most earlier x note) ∷ [])
quiet_declaration most earlier x note h =
    quiet_token (toks.Name x, declaration most earlier x note)
    (λ heads left. by heads left (is_some (index_of earlier x)) (nat_le most (length earlier)))
  where
    by : (heads : List Head) (left : ℕ) (b c : Bool)
        → note_flaw heads (toks.Name x, cond b (broken Twice) (cond c (broken Many) note)) left ≡ None
    by heads left true c = refl
    by heads left false true = refl
    by heads left false false = h heads left

mutual
  pub quiet_expression : {vars : List Name} {room : ℕ} {a : List Noted} {x : Expression} → IsExpression vars room a x
      → AreQuiet a
  quiet_expression (alone c) = quiet_chain c
  quiet_expression (compared {a = a} {b = b} r c d) =
      quiet-append a (mark (rel_mark r) ∷ b) (quiet_chain c)
      (quiet-append (mark (rel_mark r) ∷ []) b (quiet_mark (rel_mark r) fine) (quiet_chain d))

  pub quiet_chain : {vars : List Name} {level : Level} {room : ℕ} {a : List Noted} {x : Expression}
      → IsChain vars level room a x → AreQuiet a
  quiet_chain (operands {a = a} {b = b} p q) = quiet-append a b (quiet_operand p) (quiet_pairs q)

  pub quiet_pairs : {vars : List Name} {level : Level} {room : ℕ} {a : List Noted} {ps : Pairs}
      → IsPairs vars level room a ps → AreQuiet a
  quiet_pairs pairs_end = λ heads left flaw. refl
  quiet_pairs (pairs_more {a = a} {b = b} o e p q) =
      quiet-append (mark (op_mark o) ∷ []) (a ++ b) (quiet_mark (op_mark o) fine)
      (quiet-append a b (quiet_operand p) (quiet_pairs q))

  pub quiet_operand : {vars : List Name} {level : Level} {room : ℕ} {a : List Noted} {x : Expression}
      → IsOperand vars level room a x → AreQuiet a
  quiet_operand (product c) = quiet_chain c
  quiet_operand (one_unary u) = quiet_unary u

  pub quiet_unary : {vars : List Name} {room : ℕ} {a : List Noted} {x : Expression} → IsUnary vars room a x → AreQuiet a
  quiet_unary (signed {room = room} {a = a} u) = quiet-append ((toks.Mark m.Minus, opening room) ∷ []) a
      (quiet_mark m.Minus (opening room)) (quiet_unary u)
  quiet_unary (number n) = quiet_token (toks.Num n, fine) (λ heads left. refl)
  quiet_unary {vars = vars} (name x) = quiet_use vars x
  quiet_unary me = quiet_key k.Me
  quiet_unary (grouped {room = room} {a = a} e) =
      quiet-append ((toks.Mark m.ParenOpen, opening room) ∷ []) (a ++ mark m.ParenClose ∷ [])
      (quiet_mark m.ParenOpen (opening room))
      (quiet-append a (mark m.ParenClose ∷ []) (quiet_expression e) (quiet_mark m.ParenClose fine))

pub quiet_argument : {vars : List Name} {room : ℕ} {a : List Noted} {x : Argument} → IsArgument vars room a x
    → AreQuiet a
quiet_argument {vars = vars} (own x) = quiet-append (key k.Own ∷ []) ((toks.Name x, use_of vars x) ∷ [])
    (quiet_key k.Own) (quiet_use vars x)
quiet_argument (value e) = quiet_expression e

pub quiet_more : {vars : List Name} {room : ℕ} {a : List Noted} {xs : List Argument} → IsMoreArguments vars room a xs
    → AreQuiet a
quiet_more arguments_end = λ heads left flaw. refl
quiet_more (arguments_more {a = a} {b = b} p q) =
    quiet-append (mark m.Comma ∷ []) (a ++ b) (quiet_mark m.Comma fine)
    (quiet-append a b (quiet_argument p) (quiet_more q))

pub quiet_arguments : {vars : List Name} {room : ℕ} {a : List Noted} {xs : List Argument}
    → IsArguments vars room a xs → AreQuiet a
quiet_arguments no_arguments = λ heads left flaw. refl
quiet_arguments (arguments {a = a} {b = b} p q) = quiet-append a b (quiet_argument p) (quiet_more q)

-- what is read, with the first fault of a fork then
pub record Done {A : Type 0} (heads : List Head) (outcome : Outcome A) (notes : List Noted) (rest : List Tok)
    (vars : List Name)
    (before behind : Option Stop) (x : A) : Type 0 where
  pub does : Does heads outcome notes rest vars behind x
  pub forks : flaw_after heads notes (length rest) before ≡ behind

pub quiet_done : {A : Type 0} {heads : List Head} {r : Outcome A} {notes : List Noted} {rest : List Tok}
    {vars : List Name} {flaw : Option Stop} {x : A}
    → AreQuiet notes → Does heads r notes rest vars flaw x → Done heads r notes rest vars flaw flaw x
quiet_done {heads = heads} {rest = rest} {flaw = flaw} q d = record { does = d; forks = q heads (length rest) flaw }

pub mapped_done : {A B : Type 0} {heads : List Head} {r : Outcome A} {notes : List Noted} {rest : List Tok}
    {vars : List Name} {before behind : Option Stop} {x : A}
    (f : A → B) → Done heads r notes rest vars before behind x
    → Done heads (and_then r (λ a i. Ok (f a, i))) notes rest vars before behind (f x)
mapped_done f d = record { does = mapped f d.does; forks = d.forks }

pub then_done : {A B : Type 0} (heads : List Head) (p : Parser A) (f : A → Parser B) (a b : List Noted)
    (rest : List Tok) (vars mid last : List Name)
    (before between behind : Option Stop) (x : A) (y : B)
    → Done heads (p (at heads (tokens_of a ++ (tokens_of b ++ rest)) vars before)) a
    (tokens_of b ++ rest) mid before between x
    → Done heads (f x (at heads (tokens_of b ++ rest) mid between)) b rest last between behind y
    → Done heads (and_then (p (at heads (tokens_of (a ++ b) ++ rest) vars before)) f) (a ++ b) rest last before behind y
then_done heads p f a b rest vars mid last before between behind x y one two = record {
  does = then_does heads p f a b rest vars mid last before between behind x y one.does two.does;
  forks =
      flaw_after-append heads a b (length rest) before
      ∙ ap (λ n. flaw_after heads b (length rest) (flaw_after heads a n before)) (sym (length-ahead b rest))
      ∙ ap (λ g. flaw_after heads b (length rest) g) one.forks
      ∙ two.forks;
}
