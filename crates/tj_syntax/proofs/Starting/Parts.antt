-- Each part of a script stands where its derivation has it.
use Rattle.std.proofs.Common.{◌≡◌, ℕ, suc, ◌+◌, List, [], ◌∷◌, ◌++◌, length, map, refl, ap, sym, ◌∙◌}
use Rattle.std.proofs.Common.{arith, append_assoc, length-append}
use Rattle.tj_lex.specs.declared.token.Tok.TheVariants as toks
use Rattle.tj_lex.specs.declared.token.Mark.TheVariants as m
use Rattle.tj_syntax.specs.Trees.{Given, Statement, Statements, Otherwise, Task}
use Rattle.tj_syntax.specs.Marks.{Name, Noted, mark, opening}
use Rattle.tj_syntax.specs.Grammar as g
use Rattle.tj_syntax.specs.Grammar.{IsGiven, IsStatement, IsBlock, IsStatements, IsElse, IsTask, IsTasks, IsProgram}
use Rattle.tj_syntax.specs.Within.{inside, within, within_other}
use Rattle.tj_syntax.specs.Starts.{Start, ask_in, starts_of, in_block, starts_in, in_else, in_task, in_tasks}
use Rattle.tj_syntax.specs.Parts.{StandsAt, given_ask, own_ask, AskStandsAt, IsAskAt, StatementStandsAt, StandAt}
use Rattle.tj_syntax.specs.Parts.{TaskStandsAt, TasksStandAt}

-- the first of two parts, and the second
first : {notes a : List Noted} {k : ℕ} (b : List Noted) → StandsAt notes (a ++ b) k → StandsAt notes a k
first {a = a} b p = record {
  front = p.front;
  back = b ++ p.back;
  whole = p.whole ∙ ap (λ ns. p.front ++ ns) (append_assoc a b p.back);
  count = p.count;
}

second : {notes b : List Noted} {k : ℕ} (a : List Noted) (n : ℕ) → k + length a ≡ n → StandsAt notes (a ++ b) k
    → StandsAt notes b n
second {b = b} a n e p = record {
  front = p.front ++ a;
  back = p.back;
  whole = p.whole ∙ ap (λ ns. p.front ++ ns) (append_assoc a b p.back) ∙ sym (append_assoc p.front a (b ++ p.back));
  count = let h = p.count in omega (arith, length-append p.front a);
}

both : (tasks : List Name) (notes : List Noted) (ss rs : List Statement) (ps qs : List Start)
    → StandAt tasks notes ss ps → StandAt tasks notes rs qs → StandAt tasks notes (ss ++ rs) (ps ++ qs)
both tasks notes [] rs [] qs h l = l
both tasks notes [] rs (p ∷ ps) qs h l = absurd h
both tasks notes (s ∷ ss) rs [] qs h l = absurd h
both tasks notes (s ∷ ss) rs (p ∷ ps) qs h l = (h.0, both tasks notes ss rs ps qs h.1 l)

given_stands : {tasks vars : List Name} {room : ℕ} {a : List Noted} {x : Given} (notes : List Noted) (k : ℕ)
    → IsGiven tasks vars room a x → StandsAt notes a k → IsAskAt tasks notes (given_ask x) (ask_in x k)
given_stands {vars = vars} {room = room} notes k (g.answer {a = a} p) h =
    record { room = room; vars = vars; part = a; is = p; stands = h }
given_stands notes k (g.result_of p) h = tt

-- the statement stands where its tokens and its ask do
stands_with : {tasks : List Name} {room : ℕ} {vars last : List Name} {a : List Noted} {s : Statement}
    (notes : List Noted) (p : Start) → IsStatement tasks room vars a s last → StandsAt notes a p.at
    → IsAskAt tasks notes (own_ask s) p.ask → StatementStandsAt tasks notes s p
stands_with {room = room} {vars = vars} {last = last} {a = a} notes p is h ask =
    record { room = room; vars = vars; last = last; part = a; is = is; stands = h; ask = ask }

mutual
  statement_stands : {tasks : List Name} {room : ℕ} {vars last : List Name} {a : List Noted} {s : Statement}
      (notes : List Noted) (p : IsStatement tasks room vars a s last) (k : ℕ) → StandsAt notes a k
      → StandAt tasks notes (inside s) (starts_of p k)
  statement_stands notes (g.let_new {a = a} x p) k h =
      let start : List Noted = _ ∷ _ ∷ _ ∷ [] in
      let side = first (mark m.Semi ∷ []) (second start (k + 3) refl h) in
      (stands_with notes _ (g.let_new x p) h (given_stands notes (k + 3) p side), tt)
  statement_stands notes (g.assign {a = a} x p) k h =
      let side = first (mark m.Semi ∷ []) (second (_ ∷ _ ∷ []) (k + 2) refl h) in
      (stands_with notes _ (g.assign x p) h (given_stands notes (k + 2) p side), tt)
  statement_stands {room = room} {vars = vars} notes (g.ask {a = a} p) k h =
      let ask : AskStandsAt _ notes _ k =
      record { room = room; vars = vars; part = a; is = p; stands = first (mark m.Semi ∷ []) h } in
      (stands_with notes _ (g.ask p) h ask, tt)
  statement_stands notes (g.print p) k h = (stands_with notes _ (g.print p) h tt, tt)
  statement_stands notes (g.set_cell x p) k h = (stands_with notes _ (g.set_cell x p) h tt, tt)
  statement_stands notes (g.return p) k h = (stands_with notes _ (g.return p) h tt, tt)
  statement_stands notes (g.choose {a = a} {b = b} {c = c} {then_ = body} {else_ = other} p q r) k h =
      let i = k + 1 + length a in
      let blocks : StandsAt notes (b ++ c) i =
      second a i refl (second (_ ∷ []) (k + 1) refl h) in (
        stands_with notes _ (g.choose p q r) h tt,
        both _ notes (within body) (within_other other) (in_block q i) (in_else r (i + length b))
            (block_stands notes q i (first c blocks))
            (else_stands notes r (i + length b) (second b (i + length b) refl blocks)),
      )
  statement_stands notes (g.repeat {a = a} {b = b} p q) k h =
      let i = k + 1 + length a in
      let block : StandsAt notes b i = second a i refl (second (_ ∷ []) (k + 1) refl h) in
      (stands_with notes _ (g.repeat p q) h tt, block_stands notes q i block)

  block_stands : {tasks : List Name} {room : ℕ} {vars last : List Name} {a : List Noted} {body : Statements}
      (notes : List Noted) (p : IsBlock tasks room vars a body last) (k : ℕ) → StandsAt notes a k
      → StandAt tasks notes (within body) (in_block p k)
  block_stands notes (g.braces {a = a} p) k h =
      statements_stand notes p (k + 1) (first (mark m.BraceClose ∷ []) (second (_ ∷ []) (k + 1) refl h))

  statements_stand : {tasks : List Name} {room : ℕ} {vars last : List Name} {a : List Noted} {body : Statements}
      (notes : List Noted) (p : IsStatements tasks room vars a body last) (k : ℕ) → StandsAt notes a k
      → StandAt tasks notes (within body) (starts_in p k)
  statements_stand notes g.statements_end k h = tt
  statements_stand notes (g.statements_more {a = a} {b = b} {s = s} {rest = rest} p q) k h =
      let i = k + length a in
      both _ notes (inside s) (within rest) (starts_of p k) (starts_in q i) (statement_stands notes p k (first b h))
      (statements_stand notes q i (second a i refl h))

  else_stands : {tasks : List Name} {room : ℕ} {vars last : List Name} {a : List Noted} {other : Otherwise}
      (notes : List Noted) (p : IsElse tasks room vars a other last) (k : ℕ) → StandsAt notes a k
      → StandAt tasks notes (within_other other) (in_else p k)
  else_stands notes g.no_else k h = tt
  else_stands notes (g.else_block p) k h = block_stands notes p (k + 1) (second (_ ∷ []) (k + 1) refl h)

-- the brace of a block is the last of its tokens
block_brace : {tasks : List Name} {room : ℕ} {vars last : List Name} {a : List Noted} {body : Statements}
    (notes : List Noted) → IsBlock tasks room vars a body last → (k n : ℕ) → k + length a ≡ suc n → StandsAt notes a k
    → StandsAt notes (mark m.BraceClose ∷ []) n
block_brace notes (g.braces {room = room} {a = a} p) k n e h =
    let count : k + length ((toks.Mark m.BraceOpen, opening room) ∷ a) ≡ n =
    omega (arith, length-append a (mark m.BraceClose ∷ [])) in
    second ((toks.Mark m.BraceOpen, opening room) ∷ a) n count h

task_stands : {tasks earlier : List Name} {a : List Noted} {t : Task} (notes : List Noted)
    (p : IsTask tasks earlier a t) (k : ℕ) → StandsAt notes a k → TaskStandsAt tasks notes t (in_task p k)
task_stands {earlier = earlier} {a = all} notes (g.task {a = a} {b = b} f p block) k h =
    let params : StandsAt notes (a ++ mark m.ParenClose ∷ b) (k + 3) = second (_ ∷ _ ∷ _ ∷ []) (k + 3) refl h in
    let paren : StandsAt notes (mark m.ParenClose ∷ b) (k + 3 + length a) = second a (k + 3 + length a) refl params in
    let count : k + 3 + length a + 1 ≡ k + 4 + length a = omega arith in
    let body : StandsAt notes b (k + 4 + length a) = second (mark m.ParenClose ∷ []) (k + 4 + length a) count paren in
    let end : k + 4 + length a + length b ≡ suc (k + 3 + length a + length b) = omega arith in
    let size = length-append a (mark m.ParenClose ∷ b) in
    record {
      earlier = earlier;
      part = all;
      is = g.task f p block;
      stands = h;
      statements = block_stands notes block (k + 4 + length a) body;
      brace = block_brace notes block (k + 4 + length a) (k + 3 + length a + length b) end body;
      brace_last = omega (arith, size);
    }

tasks_stand : {tasks earlier : List Name} {a : List Noted} {ts : List Task} (notes : List Noted)
    (p : IsTasks tasks earlier a ts) (k : ℕ) → StandsAt notes a k → TasksStandAt tasks notes ts (in_tasks p k)
tasks_stand notes g.tasks_end k h = tt
tasks_stand notes (g.tasks_more {a = a} {b = b} p more) k h =
    (task_stands notes p k (first b h), tasks_stand notes more (k + length a) (second a (k + length a) refl h))

append-nil : {A : Type 0} (xs : List A) → xs ++ [] ≡ xs
append-nil [] = refl
append-nil (x ∷ xs) = ap (λ ys. x ∷ ys) (append-nil xs)

-- each part of a script stands at its start
pub script_stands : (notes : List Noted) (script : List Task) (p : IsProgram notes script)
    → TasksStandAt (map (λ (t : Task). t.name) script) notes script (in_tasks p 0)
script_stands notes script p =
    tasks_stand notes p 0 (record { front = []; back = []; whole = sym (append-nil notes); count = refl })
