-- Tasks are read off the tokens where their derivation has them.
use Rattle.std.proofs.Common.{◌≡◌, ℕ, suc, ◌+◌, true, false, List, [], ◌∷◌, ◌++◌, length, refl}
use Rattle.std.proofs.Common.{◌∙◌, arith, subst, cond, append_assoc, length-append, ap, sym}
use Rattle.std.proofs.lemmas.List.{append-nil}
use Rattle.tj_lex.specs.declared.token.Tok.{Tok}
use Rattle.tj_lex.specs.declared.token.Tok.TheVariants as toks
use Rattle.tj_lex.specs.declared.token.Key.TheVariants as k
use Rattle.tj_lex.specs.declared.token.Mark.TheVariants as m
use Rattle.tj_syntax.specs.Trees.{Statements, Task}
use Rattle.tj_syntax.specs.Marks.{Name, Noted, mark, opening}
use Rattle.tj_syntax.specs.Faults.{tokens_of}
use Rattle.tj_syntax.specs.Grammar as g
use Rattle.tj_syntax.specs.Grammar.{IsBlock, IsTask, IsTasks}
use Rattle.tj_syntax.specs.Starts.{Start, TaskStart, in_block, in_task, in_tasks}
use Rattle.tj_syntax.specs.Inner.Scan.{begins_task, is_behind, is_brace, statements_from, brace_from, tasks_from}
use Rattle.tj_syntax.proofs.Taken.{is_task}
use Rattle.tj_syntax.proofs.Same.Notes.{is_end, AreInner, both, block_inner, params_inner}
use Rattle.tj_syntax.proofs.Complete.Steps.{ahead-append}
use Rattle.tj_syntax.proofs.Starting.Quiet.{steady, params_quiet, over_steady}
use Rattle.tj_syntax.proofs.Starting.Statements.{block_scan}

not_behind : (t : Tok) → is_end t ≡ false → is_task t ≡ false → is_behind t ≡ false
not_behind toks.End h l = absurd (cc)
not_behind (toks.Key k.Task) h l = absurd (cc)
not_behind t h l = refl

no_task : (t : Tok) → is_task t ≡ false → begins_task t ≡ false
no_task (toks.Key k.Task) h = absurd (cc)
no_task t h = refl

-- over what is within a task no task begins
over_inner : (a : List Noted) → AreInner a → (i n : ℕ) → i + length a ≡ n → (more : List Tok)
    → tasks_from i (tokens_of a ++ more) ≡ tasks_from n more
over_inner [] h i n e more = let same : i ≡ n = omega arith in ap (λ j. tasks_from j more) same
over_inner (t ∷ a) h i n e more =
    let count : suc i + length a ≡ n = omega arith in
    step t.0 (tokens_of a ++ more) (no_task t.0 h.0.1) ∙ over_inner a h.1 (suc i) n count more
  where
    step : (t : Tok) (rest : List Tok) → begins_task t ≡ false → tasks_from i (t ∷ rest) ≡ tasks_from (suc i) rest
    step t rest e = rw e

-- where the last of what is within a task is a brace, the last brace stands there
brace_last : (a : List Noted) → AreInner (a ++ mark m.BraceClose ∷ []) → (last i n : ℕ) → i + length a ≡ n
    → (more : List Tok)
    → brace_from last i (tokens_of (a ++ mark m.BraceClose ∷ []) ++ more) ≡ brace_from n (suc n) more
brace_last [] h last i n e more = let same : i ≡ n = omega arith in ap (λ j. brace_from j (suc j) more) same
brace_last (t ∷ a) h last i n e more =
    let count : suc i + length a ≡ n = omega arith in
    step t.0 (tokens_of (a ++ mark m.BraceClose ∷ []) ++ more) (not_behind t.0 h.0.0 h.0.1)
    ∙ brace_last a h.1 (cond (is_brace t.0) i last) (suc i) n count more
  where
    step : (t : Tok) (rest : List Tok) → is_behind t ≡ false
        → brace_from last i (t ∷ rest) ≡ brace_from (cond (is_brace t) i last) (suc i) rest
    step t rest e = rw e

-- behind a task, where nothing or the next task or the end is, nothing of it is found
record IsOver (more : List Tok) : Type 0 where
  brace : (last n : ℕ) → brace_from last n more ≡ last
  no_statements : (n : ℕ) → statements_from true n more ≡ []

over : {tasks earlier : List Name} {a : List Noted} {ts : List Task} → IsTasks tasks earlier a ts
    → IsOver (tokens_of a ++ toks.End ∷ [])
over g.tasks_end = record { brace = λ last n. refl; no_statements = λ n. refl }
over (g.tasks_more (g.task f p b) more) = record { brace = λ last n. refl; no_statements = λ n. refl }

-- the brace of a task's block
block_brace : {tasks : List Name} {room : ℕ} {vars last : List Name} {b : List Noted} {body : Statements}
    (a : List Noted) → IsBlock tasks room vars b body last → AreInner (a ++ b) → (brace i n : ℕ)
    → i + length a + length b ≡ suc n → (more : List Tok) → brace_from brace i (tokens_of (a ++ b) ++ more) ≡ brace_from n (suc n) more
block_brace a (g.braces {room = room} {a = c} p) inner brace i n e more =
    let front : List Noted = a ++ (toks.Mark m.BraceOpen, opening room) ∷ c in
    let whole : front ++ mark m.BraceClose ∷ []
    ≡ a ++ (toks.Mark m.BraceOpen, opening room) ∷ (c ++ mark m.BraceClose ∷ []) =
    append_assoc a ((toks.Mark m.BraceOpen, opening room) ∷ c) (mark m.BraceClose ∷ []) in
    let count : i + length front ≡ n =
    omega (
      arith,
      length-append a ((toks.Mark m.BraceOpen, opening room) ∷ c),
      length-append c (mark m.BraceClose
          ∷ []),
    ) in
    ap (λ ns. brace_from brace i (tokens_of ns ++ more)) (sym whole)
    ∙ brace_last front (subst AreInner (sym whole) inner) brace i n count more

task_scan : {tasks earlier : List Name} {a : List Noted} {t : Task} (p : IsTask tasks earlier a t) (i n : ℕ)
    → i + length a ≡ n → (more : List Tok) → IsOver more
    → tasks_from i (tokens_of a ++ more) ≡ in_task p i ∷ tasks_from n more
task_scan (g.task {a = a} {b = b} f p block) i n e more behind =
    let inner : AreInner (a ++ mark m.ParenClose ∷ b) =
    both a (mark m.ParenClose ∷ b) (params_inner p) ((refl, refl, refl), block_inner block) in
    let sum = length-append a (mark m.ParenClose ∷ b) in
    let start = suc (suc (suc i)) in
    let count : start + length (a ++ mark m.ParenClose ∷ b) ≡ n = omega arith in
    let paren : start + length a ≡ i + 3 + length a = omega arith in
    let first : suc (i + 3 + length a) ≡ i + 4 + length a = omega arith in
    let behind_block : i + 4 + length a + length b ≡ n = omega (arith, sum) in
    let last : start + length (a ++ mark m.ParenClose ∷ []) + length b ≡ suc (i + 3 + length a + length b) =
    omega (arith, length-append a (mark m.ParenClose ∷ [])) in
    let split : (a ++ mark m.ParenClose ∷ []) ++ b ≡ a ++ mark m.ParenClose ∷ b =
    append_assoc a (mark m.ParenClose ∷ []) b in
    let statements : statements_from false start (tokens_of (a ++ mark m.ParenClose ∷ b) ++ more)
    ≡ in_block block (i + 4 + length a) =
    ap (λ ts. statements_from false start ts) (ahead-append a (mark m.ParenClose ∷ b) more)
    ∙ over_steady a (steady a (params_quiet p)) start (i + 3 + length a) paren
    (toks.Mark m.ParenClose ∷ (tokens_of b ++ more))
    ∙ ap (λ j. statements_from false j (tokens_of b ++ more)) first
    ∙ block_scan block (i + 4 + length a) n behind_block more
    ∙ ap (λ zs. in_block block (i + 4 + length a) ++ zs) (behind.no_statements n)
    ∙ append-nil (in_block block (i + 4 + length a)) in
    let brace : brace_from i start (tokens_of (a ++ mark m.ParenClose ∷ b) ++ more)
    ≡ i + 3 + length a + length b =
    ap (λ ns. brace_from i start (tokens_of ns ++ more)) (sym split)
    ∙ block_brace (a ++ mark m.ParenClose ∷ []) block (subst AreInner (sym split) inner) i start
    (i + 3 + length a + length b) last more
    ∙ behind.brace (i + 3 + length a + length b) (suc (i + 3 + length a + length b)) in
    found statements brace (over_inner (a ++ mark m.ParenClose ∷ b) inner start n count more)
  where
    found : {ss rs : List Start} {c d : ℕ} {us vs : List TaskStart} → ss ≡ rs → c ≡ d → us ≡ vs
        → ◌≡◌ {A = List TaskStart} (record { at = i; statements = ss; brace = c } ∷ us)
        (record { at = i; statements = rs; brace = d } ∷ vs)
    found e f h = cc

-- the tasks of a script, and behind them its end
pub tasks_scan : {tasks earlier : List Name} {a : List Noted} {ts : List Task} (p : IsTasks tasks earlier a ts) (i : ℕ)
    → tasks_from i (tokens_of a ++ toks.End ∷ []) ≡ in_tasks p i
tasks_scan g.tasks_end i = refl
tasks_scan (g.tasks_more {a = a} {b = b} p more) i =
    ap (λ ts. tasks_from i ts) (ahead-append a b (toks.End ∷ []))
    ∙ task_scan p i (i + length a) refl (tokens_of b ++ toks.End ∷ []) (over more)
    ∙ ap (λ zs. in_task p i ∷ zs) (tasks_scan more (i + length a))
