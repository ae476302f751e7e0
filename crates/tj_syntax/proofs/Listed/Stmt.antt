-- Statements and blocks are listed as parts of a script again. The names that are known behind a statement are the
-- first of the task's names, and so are those before it.
use Rattle.std.proofs.Common.{◌≡◌, ℕ, List, [], ◌∷◌, ◌++◌, length, refl, ap, sym, ◌∙◌, subst, get_or, append_assoc}
use Rattle.tj_lex.specs.declared.token.Tok.TheVariants as toks
use Rattle.tj_lex.specs.declared.token.Key.{Key}
use Rattle.tj_lex.specs.declared.token.Key.TheVariants as k
use Rattle.tj_lex.specs.declared.token.Mark.TheVariants as m
use Rattle.tj_syntax.specs.Trees as tree
use Rattle.tj_syntax.specs.Trees.{Expression, Given, Statement, Statements, Otherwise, Task}
use Rattle.tj_syntax.specs.Marks.{Name, Noted, fine, key, mark, most_vars, opening, within, use_of, declaration}
use Rattle.tj_syntax.specs.Grammar.{IsExpression, IsStatement, let_new, assign, ask, print, set_cell, return, choose}
use Rattle.tj_syntax.specs.Grammar.{repeat, IsBlock, braces, IsStatements, statements_end, statements_more, IsElse}
use Rattle.tj_syntax.specs.Grammar.{no_else, else_block}
use Rattle.tj_syntax.specs.Listing as listing
use Rattle.tj_syntax.specs.Listing.{Part, token, blanks, names_of}
use Rattle.tj_syntax.proofs.Listed.Again.{AreBlank, IsFine, AreFine, Again, fine-split, fine_mark, fine_key, both}
use Rattle.tj_syntax.proofs.Listed.Again.{front, only, back, behind, spaced, lined, none}
use Rattle.tj_syntax.proofs.Listed.Fits.{IsFront, known_name}
use Rattle.tj_syntax.proofs.Listed.Asks.{expression_again, ask_again, given_again}

get_or-behind : (names rest : List Name) (x : Name) → get_or (names ++ x ∷ rest) (length names) [] ≡ x
get_or-behind [] rest x = refl
get_or-behind (y ∷ names) rest x = get_or-behind names rest x

new_name : (vars names : List Name) (x : Name) → IsFront (vars ++ x ∷ []) names → get_or names (length vars) [] ≡ x
new_name vars names x f =
    subst (λ all. get_or all (length vars) [] ≡ x) (sym (append_assoc vars (x ∷ []) f.rest) ∙ f.whole)
    (get_or-behind vars f.rest x)

before : (vars more names : List Name) → IsFront (vars ++ more) names → IsFront vars names
before vars more names f = record { rest = more ++ f.rest; whole = sym (append_assoc vars more f.rest) ∙ f.whole }

-- the notes of what is listed behind a keyword, with a semicolon at the end
ended : {script : List Task} {P R : List Noted → Type 0} {parts : List Part} (key_ : Key)
    → ((a : List Noted) → P a → R (key key_ ∷ (a ++ mark m.Semi ∷ []))) → Again script P parts
    → Again script R (listing.key key_ ∷ listing.space ∷ (parts ++ listing.mark m.Semi ∷ []))
ended {script} {P} {R} {parts} key_ join p =
    front {P = λ c. (a : List Noted) × (c ≡ a ++ mark m.Semi ∷ []) × P a} (key key_) (fine_key script key_)
    (λ c is. rw is.1 (join is.0 is.2))
    (spaced (back (mark m.Semi) (fine_mark script m.Semi) (λ a is. (a, refl, is)) p))

-- a name and what it is given
assigned : {script : List Task} {P R : List Noted → Type 0} {parts : List Part} (noted : Noted) → IsFine script noted
    → ((a : List Noted) → P a → R (noted ∷ mark m.Assign ∷ (a ++ mark m.Semi ∷ []))) → Again script P parts
    → Again script R (token noted.0 ∷ listing.assigned parts)
assigned {script} {P} {R} {parts} noted ok join p =
    front {P = λ c. (a : List Noted) × (c ≡ mark m.Assign ∷ (a ++ mark m.Semi ∷ [])) × P a} noted ok
    (λ c is. rw is.1 (join is.0 is.2))
    (spaced (front {P = λ c. (a : List Noted) × (c ≡ a ++ mark m.Semi ∷ []) × P a} (mark m.Assign)
    (fine_mark script m.Assign)
    (λ c is. (is.0, ap (λ d. mark m.Assign ∷ d) is.1, is.2))
    (spaced (back (mark m.Semi) (fine_mark script m.Semi) (λ a is. (a, refl, is)) p))))

-- the same behind a keyword
key_assigned : {script : List Task} {P R : List Noted → Type 0} {parts : List Part} (key_ : Key) (noted : Noted)
    → IsFine script noted
    → ((a : List Noted) → P a → R (key key_ ∷ noted ∷ mark m.Assign ∷ (a ++ mark m.Semi ∷ []))) → Again script P parts
    → Again script R (listing.key key_ ∷ listing.space ∷ token noted.0 ∷ listing.assigned parts)
key_assigned {script} {P} {R} {parts} key_ noted ok join p =
    front {P = λ c. (a : List Noted) × (c ≡ noted ∷ mark m.Assign ∷ (a ++ mark m.Semi ∷ [])) × P a} (key key_)
    (fine_key script key_)
    (λ c is. rw is.1 (join is.0 is.2))
    (spaced (assigned noted ok (λ a is. (a, refl, is)) p))

-- a block's listing is a block again
block_again : {script : List Task} {tasks : List Name} {vars last : List Name} {room : ℕ} {body : Statements}
    (names : List Name) (indent : List ℕ) → AreBlank indent
    → IsFine script (toks.Mark m.BraceOpen, opening room)
    → Again script (λ b. IsStatements tasks (within room) vars b body last)
    (listing.lines tasks names (listing.deeper indent) body)
    → Again script (λ b. IsBlock tasks room vars b body last) (listing.block tasks names indent body)
block_again {script} {tasks} {vars} {last} {room} {body} names indent blank ok p =
    front {P = λ c. (b : List Noted) × (c ≡ b ++ mark m.BraceClose ∷ [])
    × IsStatements tasks (within room) vars b body last}
    (toks.Mark m.BraceOpen, opening room) ok (λ c is. rw is.1 (braces is.2))
    (lined (closed p))
  where
    closed : {P : List Noted → Type 0} {parts : List Part} → Again script P parts
        → Again script (λ c. (b : List Noted) × (c ≡ b ++ mark m.BraceClose ∷ []) × P b)
        (parts ++ blanks indent ∷ listing.mark m.BraceClose ∷ [])
    closed {P} p = both {Q = λ n. n ≡ mark m.BraceClose ∷ []} (λ b n is e. (b, ap (λ d. b ++ d) e, is)) p
        (behind indent blank (only (mark m.BraceClose) (fine_mark script m.BraceClose) refl))

-- what is listed again for any indent, and the names known before
pub record Listed (names vars : List Name) (lists : List ℕ → Type 0) : Type 0 where
  pub before_it : IsFront vars names
  pub again : (indent : List ℕ) → AreBlank indent → lists indent

chosen : {script : List Task} {tasks : List Name} {vars after last : List Name} {room : ℕ} {x : Expression}
    {body : Statements} {other : Otherwise} (names : List Name) (indent : List ℕ)
    → Again script (λ a. IsExpression vars room a x) (listing.expression names x)
    → Again script (λ b. IsBlock tasks room vars b body after) (listing.block tasks names indent body)
    → Again script (λ c. IsElse tasks room after c other last) (listing.else_parts tasks names indent other)
    → Again script (λ a. IsStatement tasks room vars a (tree.choose x body other) last)
    (listing.statement tasks names indent (tree.choose x body other))
chosen {script} {tasks} {vars} {after} {last} {room} {x} {body} {other} names indent p q r =
    front {P = λ d. (a : List Noted) × (b : List Noted) × (c : List Noted) × (d ≡ a ++ (b ++ c))
    × IsExpression vars room a x
    × IsBlock tasks room vars b body after × IsElse tasks room after c other last}
    (key k.If) (fine_key script k.If) (λ d is. rw is.3 (choose is.4 is.5 is.6))
    (spaced (both {Q = λ d. (b : List Noted) × (c : List Noted) × (d ≡ b ++ c)
    × IsBlock tasks room vars b body after × IsElse tasks room after c other last}
    (λ a d is are. (a, are.0, are.1, ap (λ e. a ++ e) are.2, is, are.3, are.4)) p
    (spaced (both (λ b c is are. (b, c, refl, is, are)) q r))))

repeated : {script : List Task} {tasks : List Name} {vars last : List Name} {room : ℕ} {x : Expression}
    {body : Statements} (names : List Name) (indent : List ℕ)
    → Again script (λ a. IsExpression vars room a x) (listing.expression names x)
    → Again script (λ b. IsBlock tasks room vars b body last) (listing.block tasks names indent body)
    → Again script (λ a. IsStatement tasks room vars a (tree.repeat x body) last)
    (listing.statement tasks names indent (tree.repeat x body))
repeated {script} {tasks} {vars} {last} {room} {x} {body} names indent p q =
    front {P = λ d. (a : List Noted) × (b : List Noted) × (d ≡ a ++ b) × IsExpression vars room a x
    × IsBlock tasks room vars b body last}
    (key k.While) (fine_key script k.While) (λ d is. rw is.2 (repeat is.3 is.4))
    (spaced (both (λ a d is are. (a, d, refl, is, are)) p (spaced q)))

in_order : {script : List Task} {tasks : List Name} {vars after last : List Name} {room : ℕ} {s : Statement}
    {rest : Statements} (names : List Name) (indent : List ℕ) → AreBlank indent
    → Again script (λ a. IsStatement tasks room vars a s after) (listing.statement tasks names indent s)
    → Again script (λ b. IsStatements tasks room after b rest last) (listing.lines tasks names indent rest)
    → Again script (λ a. IsStatements tasks room vars a (tree.then_do s rest) last)
    (listing.lines tasks names indent (tree.then_do s rest))
in_order names indent blank p q = behind indent blank (both (λ a b is are. statements_more is are) p (lined q))

deeper_blank : (indent : List ℕ) → AreBlank indent → AreBlank (listing.deeper indent)
deeper_blank [] h = (refl, (refl, tt))
deeper_blank (b ∷ indent) h = (h.0, deeper_blank indent h.1)

mutual
  pub statement_again : (script : List Task) (tasks : List Name) (same : tasks ≡ names_of script) (names : List Name)
      (room : ℕ) (vars : List Name) (a : List Noted) (s : Statement) (last : List Name)
      → IsStatement tasks room vars a s last → IsFront last names → AreFine script a
      → Listed names vars (λ indent. Again script (λ b. IsStatement tasks room vars b s last)
      (listing.statement tasks names indent s))
  statement_again script tasks same names room vars _ _ _ (let_new {a = a} {given = side} x p) f h =
      let now = before vars (x ∷ []) names f in
      let hs = fine-split script a (mark m.Semi ∷ []) h.1.1.1 in
      record {
        before_it = now;
        again = λ indent blank. rw (new_name vars names x f)
            (key_assigned k.Let (toks.Name x, declaration most_vars vars x fine) h.1.0 (λ b is. let_new x is)
            (given_again script tasks same names vars now room a side p hs.0));
      }
  statement_again script tasks same names room vars _ _ _ (assign {a = a} {given = side} x p) f h =
      let hs = fine-split script a (mark m.Semi ∷ []) h.1.1 in
      record {
        before_it = f;
        again = λ indent blank. rw (known_name x f h.0)
            (assigned (toks.Name x, use_of vars x) h.0 (λ b is. assign x is)
            (given_again script tasks same names vars f room a side p hs.0));
      }
  statement_again script tasks same names room vars _ _ _ (ask {a = a} {ask = call} p) f h =
      let hs = fine-split script a (mark m.Semi ∷ []) h in
      record {
        before_it = f;
        again = λ indent blank. back (mark m.Semi) (fine_mark script m.Semi) (λ b is. ask is)
            (ask_again script tasks same names vars f room a call p hs.0);
      }
  statement_again script tasks same names room vars _ _ _ (print {a = a} {x = x} p) f h =
      let hs = fine-split script a (mark m.Semi ∷ []) h.1 in
      record {
        before_it = f;
        again = λ indent blank. ended k.Print (λ b is. print is) (expression_again script names vars f room a x p hs.0);
      }
  statement_again script tasks same names room vars _ _ _ (set_cell {a = a} {e = e} x p) f h =
      let hs = fine-split script a (mark m.Semi ∷ []) h.1.1.1 in
      record {
        before_it = f;
        again = λ indent blank. rw (known_name x f h.1.0)
            (key_assigned k.Set (toks.Name x, use_of vars x) h.1.0 (λ b is. set_cell x is)
            (expression_again script names vars f room a e p hs.0));
      }
  statement_again script tasks same names room vars _ _ _ (return {a = a} {x = x} p) f h =
      let hs = fine-split script a (mark m.Semi ∷ []) h.1 in
      record {
        before_it = f;
        again = λ indent blank. ended k.Return (λ b is. return is)
            (expression_again script names vars f room a x p hs.0);
      }
  statement_again script tasks same names room vars _ _ last
      (choose {after = after} {a = a} {b = b} {c = c} {x = x} {then_ = body} {else_ = other} p q r) f h =
      let hs = fine-split script a (b ++ c) h.1 in
      let bs = fine-split script b c hs.1 in
      let third = else_again script tasks same names room after c other last r f bs.1 in
      let second = braces_again script tasks same names room vars b body after q third.before_it bs.0 in
      record {
        before_it = second.before_it;
        again = λ indent blank. chosen names indent
            (expression_again script names vars second.before_it room a x p hs.0) (second.again indent blank)
            (third.again indent blank);
      }
  statement_again script tasks same names room vars _ _ last (repeat {a = a} {b = b} {x = x} {body = body} p q) f h =
      let hs = fine-split script a b h.1 in
      let second = braces_again script tasks same names room vars b body last q f hs.1 in
      record {
        before_it = second.before_it;
        again = λ indent blank. repeated names indent
            (expression_again script names vars second.before_it room a x p hs.0) (second.again indent blank);
      }

  pub braces_again : (script : List Task) (tasks : List Name) (same : tasks ≡ names_of script) (names : List Name)
      (room : ℕ) (vars : List Name) (a : List Noted) (body : Statements) (last : List Name)
      → IsBlock tasks room vars a body last → IsFront last names → AreFine script a
      → Listed names vars (λ indent. Again script (λ b. IsBlock tasks room vars b body last)
      (listing.block tasks names indent body))
  braces_again script tasks same names room vars _ body last (braces {a = a} p) f h =
      let hs = fine-split script a (mark m.BraceClose ∷ []) h.1 in
      let inner = statements_again script tasks same names (within room) vars a body last p f hs.0 in
      record {
        before_it = inner.before_it;
        again = λ indent blank. block_again names indent blank h.0
            (inner.again (listing.deeper indent) (deeper_blank indent blank));
      }

  statements_again : (script : List Task) (tasks : List Name) (same : tasks ≡ names_of script) (names : List Name)
      (room : ℕ) (vars : List Name) (a : List Noted) (body : Statements) (last : List Name)
      → IsStatements tasks room vars a body last → IsFront last names → AreFine script a
      → Listed names vars (λ indent. Again script (λ b. IsStatements tasks room vars b body last)
      (listing.lines tasks names indent body))
  statements_again script tasks same names room vars _ _ _ statements_end f h =
      record { before_it = f; again = λ indent blank. none statements_end }
  statements_again script tasks same names room vars _ _ last
      (statements_more {after = after} {a = a} {b = b} {s = s} {rest = rest} p q) f h =
      let hs = fine-split script a b h in
      let second = statements_again script tasks same names room after b rest last q f hs.1 in
      let first = statement_again script tasks same names room vars a s after p second.before_it hs.0 in
      record {
        before_it = first.before_it;
        again = λ indent blank. in_order names indent blank
            (first.again indent blank) (second.again indent blank);
      }

  else_again : (script : List Task) (tasks : List Name) (same : tasks ≡ names_of script) (names : List Name)
      (room : ℕ) (vars : List Name) (a : List Noted) (other : Otherwise) (last : List Name)
      → IsElse tasks room vars a other last → IsFront last names → AreFine script a
      → Listed names vars (λ indent. Again script (λ b. IsElse tasks room vars b other last)
      (listing.else_parts tasks names indent other))
  else_again script tasks same names room vars _ _ _ no_else f h =
      record { before_it = f; again = λ indent blank. none no_else }
  else_again script tasks same names room vars _ _ last (else_block {a = a} {body = body} p) f h =
      let inner = braces_again script tasks same names room vars a body last p f h.1 in
      record {
        before_it = inner.before_it;
        again = λ indent blank. spaced (front (key k.Else) (fine_key script k.Else) (λ b is. else_block is)
            (spaced (inner.again indent blank)));
      }
