-- Statements are read off the tokens where their derivation has them.
use Rattle.std.proofs.Common.{◌≡◌, ℕ, suc, ◌+◌, true, false, List, [], ◌∷◌, ◌++◌, length, Option, Some, None, refl, ◌∙◌}
use Rattle.std.proofs.Common.{arith, append_assoc, length-append, ap, sym, slice_get}
use Rattle.tj_lex.specs.declared.token.Tok.{Tok}
use Rattle.tj_lex.specs.declared.token.Tok.TheVariants as toks
use Rattle.tj_lex.specs.declared.token.Mark.TheVariants as m
use Rattle.tj_syntax.specs.Trees.{Ask, Given, Statement, Statements, Otherwise}
use Rattle.tj_syntax.specs.Marks.{Name, Noted, forks, mark}
use Rattle.tj_syntax.specs.Faults.{tokens_of}
use Rattle.tj_syntax.specs.Grammar as g
use Rattle.tj_syntax.specs.Grammar.{IsAsk, IsGiven, IsStatement, IsBlock, IsStatements, IsElse}
use Rattle.tj_syntax.specs.Starts.{Start, start, ask_in, starts_of, in_block, starts_in, in_else}
use Rattle.tj_syntax.specs.Inner.Scan.{ask_at, statements_from}
use Rattle.tj_syntax.proofs.Complete.Steps.{ahead-append}
use Rattle.tj_syntax.proofs.Starting.Quiet.{AreQuiet, AreSteady, steady, expression_quiet, ask_steady, given_steady}
use Rattle.tj_syntax.proofs.Starting.Quiet.{over_steady}

-- a part that ends in a semicolon: behind it a statement may begin
ended : (a : List Noted) → AreSteady a → (k n : ℕ) → k + length (a ++ mark m.Semi ∷ []) ≡ n → (more : List Tok)
    → statements_from false k (tokens_of (a ++ mark m.Semi ∷ []) ++ more) ≡ statements_from true n more
ended a h k n e more =
    let count : suc (k + length a) ≡ n = omega (arith, length-append a (mark m.Semi ∷ [])) in
    ap (λ ts. statements_from false k ts) (ahead-append a (mark m.Semi ∷ []) more)
    ∙ over_steady a h k (k + length a) refl (toks.Mark m.Semi ∷ more)
    ∙ ap (λ i. statements_from true i more) count

-- what is given begins with an ask's keyword where it is an ask
first_quiet : (a : List Noted) → AreQuiet a → (more : List Tok) (n : ℕ)
    → ask_at (slice_get (tokens_of (a ++ mark m.Semi ∷ []) ++ more) 0) n ≡ None
first_quiet [] h more n = refl
first_quiet (t ∷ a) h more n = rw h.0.2

first_ask : {tasks vars : List Name} {room : ℕ} {a : List Noted} {q : Ask} → IsAsk tasks vars room a q
    → (more : List Tok) (n : ℕ) → ask_at (slice_get (tokens_of (a ++ mark m.Semi ∷ []) ++ more) 0) n ≡ Some n
first_ask g.new more n = refl
first_ask p more n = refl

first_given : {tasks vars : List Name} {room : ℕ} {a : List Noted} {x : Given} → IsGiven tasks vars room a x
    → (more : List Tok) (n : ℕ) → ask_at (slice_get (tokens_of (a ++ mark m.Semi ∷ []) ++ more) 0) n ≡ ask_in x n
first_given (g.answer p) more n = first_ask p more n
first_given (g.result_of {a = a} e) more n = first_quiet a (expression_quiet e) more n

-- one statement, and then others
one : (k : ℕ) (ask other : Option ℕ) (xs ys : List Start) → ask ≡ other → xs ≡ ys
    → start k ask ∷ xs ≡ start k other ∷ ys
one k ask other xs ys e f = ap (λ o. start k o ∷ xs) e ∙ ap (λ zs. start k other ∷ zs) f

here : (k : ℕ) → Some (k + 0) ≡ Some k
here k = let e : k + 0 ≡ k = omega arith in ap Some e

-- an ask that is a statement
ask_scan : {tasks vars : List Name} {room : ℕ} {a : List Noted} {q : Ask} → IsAsk tasks vars room a q
    → (k n : ℕ) → k + length (a ++ mark m.Semi ∷ []) ≡ n → (more : List Tok)
    → statements_from true k (tokens_of (a ++ mark m.Semi ∷ []) ++ more)
    ≡ start k (Some k) ∷ statements_from true n more
ask_scan g.new k n e more =
    let count : suc k + 1 ≡ n = omega arith in
    one k _ _ _ _ (here k) (ended [] tt (suc k) n count more)
ask_scan {tasks = tasks} (g.fork {a = a} {args = args} f p) k n e more =
    let rest : List Noted = (toks.Name f, forks (length args)) ∷ mark m.ParenOpen ∷ (a ++ mark m.ParenClose ∷ []) in
    let count : suc k + length (rest ++ mark m.Semi ∷ []) ≡ n = omega arith in
    one k _ _ _ _ (here k)
    (ended rest (ask_steady {tasks = tasks} (g.fork f p)).1 (suc k) n count more)
ask_scan {tasks = tasks} (g.get {a = a} {b = b} p q) k n e more =
    let count : suc k + length ((a ++ b) ++ mark m.Semi ∷ []) ≡ n = omega arith in
    one k _ _ _ _ (here k) (ended (a ++ b) (ask_steady {tasks = tasks} (g.get p q)).1 (suc k) n count more)
ask_scan {tasks = tasks} (g.join {a = a} {b = b} p q) k n e more =
    let count : suc k + length ((a ++ b) ++ mark m.Semi ∷ []) ≡ n = omega arith in
    one k _ _ _ _ (here k) (ended (a ++ b) (ask_steady {tasks = tasks} (g.join p q)).1 (suc k) n count more)

mutual
  pub statement_scan : {tasks : List Name} {room : ℕ} {vars last : List Name} {a : List Noted} {s : Statement}
      (p : IsStatement tasks room vars a s last) (k n : ℕ) → k + length a ≡ n → (more : List Tok)
      → statements_from true k (tokens_of a ++ more) ≡ starts_of p k ++ statements_from true n more
  statement_scan (g.let_new {a = a} {given = side} x p) k n e more =
      let count : suc (suc (suc k)) + length (a ++ mark m.Semi ∷ []) ≡ n = omega arith in
      one k _ _ _ _ (first_given p more (k + 3)) (ended a (given_steady p) (suc (suc (suc k))) n count more)
  statement_scan (g.assign {a = a} {given = side} x p) k n e more =
      let count : suc (suc k) + length (a ++ mark m.Semi ∷ []) ≡ n = omega arith in
      one k _ _ _ _ (first_given p more (k + 2)) (ended a (given_steady p) (suc (suc k)) n count more)
  statement_scan (g.ask p) k n e more = ask_scan p k n e more
  statement_scan (g.print {a = a} p) k n e more =
      let count : suc k + length (a ++ mark m.Semi ∷ []) ≡ n = omega arith in
      one k _ _ _ _ refl (ended a (steady a (expression_quiet p)) (suc k) n count more)
  statement_scan (g.set_cell {a = a} x p) k n e more =
      let count : suc (suc (suc k)) + length (a ++ mark m.Semi ∷ []) ≡ n = omega arith in
      one k _ _ _ _ refl (ended a (steady a (expression_quiet p)) (suc (suc (suc k))) n count more)
  statement_scan (g.return {a = a} p) k n e more =
      let count : suc k + length (a ++ mark m.Semi ∷ []) ≡ n = omega arith in
      one k _ _ _ _ refl (ended a (steady a (expression_quiet p)) (suc k) n count more)
  statement_scan (g.choose {a = a} {b = b} {c = c} p q r) k n e more =
      let i = k + 1 + length a in
      let first : suc k + length a ≡ i = omega arith in
      let count : i + length b + length c ≡ n = omega (arith, length-append a (b ++ c), length-append b c) in
      let parts : tokens_of (a ++ (b ++ c)) ++ more ≡ tokens_of a ++ (tokens_of b ++ (tokens_of c ++ more)) =
      ahead-append a (b ++ c) more ∙ ap (λ ts. tokens_of a ++ ts) (ahead-append b c more) in
      ap (λ zs. start k None ∷ zs)
      (ap (λ ts. statements_from false (suc k) ts) parts
      ∙ over_steady a (steady a (expression_quiet p)) (suc k) i first (tokens_of b ++ (tokens_of c ++ more))
      ∙ block_scan q i (i + length b) refl (tokens_of c ++ more)
      ∙ ap (λ zs. in_block q i ++ zs) (else_scan r (i + length b) n count more)
      ∙ sym (append_assoc (in_block q i) (in_else r (i + length b)) (statements_from true n more)))
  statement_scan (g.repeat {a = a} {b = b} p q) k n e more =
      let i = k + 1 + length a in
      let first : suc k + length a ≡ i = omega arith in
      let count : i + length b ≡ n = omega (arith, length-append a b) in
      ap (λ zs. start k None ∷ zs)
      (ap (λ ts. statements_from false (suc k) ts) (ahead-append a b more)
      ∙ over_steady a (steady a (expression_quiet p)) (suc k) i first (tokens_of b ++ more)
      ∙ block_scan q i n count more)

  pub block_scan : {tasks : List Name} {room : ℕ} {vars last : List Name} {a : List Noted} {body : Statements}
      (p : IsBlock tasks room vars a body last) (k n : ℕ) → k + length a ≡ n → (more : List Tok)
      → statements_from false k (tokens_of a ++ more) ≡ in_block p k ++ statements_from true n more
  block_scan (g.braces {a = a} p) k n e more =
      let i = k + 1 in
      let first : suc k ≡ i = omega arith in
      let count : suc (i + length a) ≡ n = omega (arith, length-append a (mark m.BraceClose ∷ [])) in
      ap (λ ts. statements_from true (suc k) ts) (ahead-append a (mark m.BraceClose ∷ []) more)
      ∙ ap (λ j. statements_from true j (tokens_of a ++ toks.Mark m.BraceClose ∷ more)) first
      ∙ statements_scan p i (i + length a) refl (toks.Mark m.BraceClose ∷ more)
      ∙ ap (λ j. starts_in p i ++ statements_from true j more) count

  pub statements_scan : {tasks : List Name} {room : ℕ} {vars last : List Name} {a : List Noted} {body : Statements}
      (p : IsStatements tasks room vars a body last) (k n : ℕ) → k + length a ≡ n → (more : List Tok)
      → statements_from true k (tokens_of a ++ more) ≡ starts_in p k ++ statements_from true n more
  statements_scan g.statements_end k n e more =
      let same : k ≡ n = omega arith in ap (λ i. statements_from true i more) same
  statements_scan (g.statements_more {a = a} {b = b} p q) k n e more =
      let i = k + length a in
      let count : i + length b ≡ n = omega (arith, length-append a b) in
      ap (λ ts. statements_from true k ts) (ahead-append a b more)
      ∙ statement_scan p k i refl (tokens_of b ++ more)
      ∙ ap (λ zs. starts_of p k ++ zs) (statements_scan q i n count more)
      ∙ sym (append_assoc (starts_of p k) (starts_in q i) (statements_from true n more))

  pub else_scan : {tasks : List Name} {room : ℕ} {vars last : List Name} {a : List Noted} {other : Otherwise}
      (p : IsElse tasks room vars a other last) (k n : ℕ) → k + length a ≡ n → (more : List Tok)
      → statements_from true k (tokens_of a ++ more) ≡ in_else p k ++ statements_from true n more
  else_scan g.no_else k n e more =
      let same : k ≡ n = omega arith in ap (λ i. statements_from true i more) same
  else_scan (g.else_block {a = a} p) k n e more =
      let first : suc k ≡ k + 1 = omega arith in
      let count : k + 1 + length a ≡ n = omega arith in
      ap (λ j. statements_from false j (tokens_of a ++ more)) first ∙ block_scan p (k + 1) n count more
