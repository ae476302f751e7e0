-- Each task is read as the one that it is, and the tasks of a script.
use Rattle.std.proofs.Common.{◌≡◌, ℕ, zero, suc, ◌+◌, ◌≤◌, ◌<◌, nat_eq, eqb-true, Bool, true, false, cond, List, []}
use Rattle.std.proofs.Common.{◌∷◌, ◌++◌, length, map, Option, Ok, refl, ap, sym, ◌∙◌, subst, arith, append_assoc}
use Rattle.std.proofs.Common.{length-append}
use Rattle.std.proofs.lemmas.List.{append-nil}
use Rattle.tj_lex.specs.declared.token.Tok.{Tok}
use Rattle.tj_lex.specs.declared.token.Tok.TheVariants as toks
use Rattle.tj_lex.specs.declared.token.Key.TheVariants as k
use Rattle.tj_lex.specs.declared.token.Mark.TheVariants as m
use Rattle.tj_syntax.specs.declared.fault.Stop.{Stop}
use Rattle.tj_syntax.specs.Trees.{Statements, Task}
use Rattle.tj_syntax.specs.Marks.{Name, Noted, fine, declares, key, mark, declaration, most_vars, most_tasks}
use Rattle.tj_syntax.specs.Marks.{most_levels}
use Rattle.tj_syntax.specs.Faults.{tokens_of}
use Rattle.tj_syntax.specs.Grammar as g
use Rattle.tj_syntax.specs.Grammar.{IsBlock, IsMoreParams, IsParams, IsTask, IsTasks}
use Rattle.tj_syntax.specs.Inner.Input.{Head, Parser, and_then, skip, expect, eat, fresh, fresh_variable, names_of}
use Rattle.tj_syntax.specs.Inner.Reading.{params_from, params, block, task_keyword, task_behind, task, tasks_from}
use Rattle.tj_syntax.proofs.Sound.Script.{names-push}
use Rattle.tj_syntax.proofs.Complete.Steps.{at, fine_read, fresh_does, length-ahead}
use Rattle.tj_syntax.proofs.Complete.Forks.{quiet_mark, quiet_declaration}
use Rattle.tj_syntax.proofs.Complete.Ask.{Reads}
use Rattle.tj_syntax.proofs.Complete.Stmt.{quiet_reads, then_reads, nothing_more, key_reads, expect_reads}
use Rattle.tj_syntax.proofs.Complete.Block.{block_reads}

-- the name of a parameter, behind these
param_reads : (heads : List Head) (x : Name) (rest : List Tok) (vars : List Name) (flaw : Option Stop)
    → Reads heads (fresh_variable (at heads (toks.Name x ∷ rest) vars flaw))
    ((toks.Name x, declaration most_vars vars x fine) ∷ []) rest vars flaw x
param_reads heads x rest vars flaw =
    quiet_reads (quiet_declaration most_vars vars x fine (λ h left. refl))
    (fresh_does heads most_vars vars x fine rest vars flaw (λ left. refl))

comma_reads : (heads : List Head) (rest : List Tok) (vars : List Name) (flaw : Option Stop)
    → Reads heads (eat m.Comma (at heads (toks.Mark m.Comma ∷ rest) vars flaw)) (mark m.Comma ∷ []) rest vars flaw true
unfolding eat
comma_reads heads rest vars flaw = quiet_reads (quiet_mark m.Comma fine)
    (fine_read heads (toks.Mark m.Comma) rest vars flaw true)

more_params_reads : (heads : List Head) {earlier all : List Name} {a : List Noted} → IsMoreParams earlier a all
    → (n : ℕ) → length a ≤ n
    → (rest : List Tok) (flaw : Option Stop)
    → Reads heads (and_then (eat m.Comma (at heads (tokens_of a ++ (toks.Mark m.ParenClose ∷ rest)) earlier flaw))
    (λ more. cond more (params_from n) (λ j. Ok (tt, j))))
    a (toks.Mark m.ParenClose ∷ rest) all flaw tt
unfolding eat params_from
more_params_reads heads (g.params_end {earlier = earlier}) n h rest flaw = nothing_more heads
    (toks.Mark m.ParenClose ∷ rest) earlier flaw tt
more_params_reads heads (g.params_more x p) zero h rest flaw = absurd (omega arith)
more_params_reads heads (g.params_more {earlier = earlier} {all = all} {a = a} x p) (suc n) h rest flaw =
    then_reads heads (eat m.Comma) (λ more. cond more (params_from (suc n)) (λ j. Ok (tt, j))) (mark m.Comma ∷ [])
    ((toks.Name x, declaration most_vars earlier x fine) ∷ a)
    (toks.Mark m.ParenClose ∷ rest) earlier earlier all flaw true tt
    (comma_reads heads (toks.Name x ∷ (tokens_of a ++ (toks.Mark m.ParenClose ∷ rest))) earlier flaw)
    (λ f. then_reads heads fresh_variable
    (λ y i. and_then (eat m.Comma (record i { vars = i.vars ++ y ∷ [] }))
    (λ more. cond more (params_from n) (λ j. Ok (tt, j))))
    ((toks.Name x, declaration most_vars earlier x fine) ∷ []) a
    (toks.Mark m.ParenClose ∷ rest) earlier earlier all f x tt
    (param_reads heads x (tokens_of a ++ (toks.Mark m.ParenClose ∷ rest)) earlier f)
    (λ f2. more_params_reads heads p n (omega arith) rest f2))

params_reads : (heads : List Head) {all : List Name} {a : List Noted} → IsParams a all
    → (rest : List Tok) (flaw : Option Stop)
    → Reads heads (params (at heads (tokens_of a ++ (toks.Mark m.ParenClose ∷ rest)) [] flaw)) a
    (toks.Mark m.ParenClose ∷ rest) all flaw tt
unfolding params params_from
params_reads heads g.no_params rest flaw = nothing_more heads (toks.Mark m.ParenClose ∷ rest) [] flaw tt
params_reads heads (g.params {all = all} {a = a} x p) rest flaw =
    let size = length-ahead a (toks.Mark m.ParenClose ∷ rest) in
    then_reads heads fresh_variable
    (λ y i. and_then (eat m.Comma (record i { vars = i.vars ++ y ∷ [] }))
    (λ more. cond more (params_from (length (tokens_of a ++ (toks.Mark m.ParenClose ∷ rest)))) (λ j. Ok (tt, j))))
    ((toks.Name x, declaration most_vars [] x fine) ∷ []) a (toks.Mark m.ParenClose ∷ rest) [] [] all flaw x tt
    (param_reads heads x (tokens_of a ++ (toks.Mark m.ParenClose ∷ rest)) [] flaw)
    (λ f. more_params_reads heads p (length (tokens_of a ++ (toks.Mark m.ParenClose ∷ rest)))
    (omega (arith, size)) rest f)

abbrev behind_block : Name → ℕ → Statements → Parser Task
behind_block f count body = λ i. Ok (
  record { name = f; params = count; vars = i.vars; body = body },
  record i
      { vars = [] },
)

task_behind_reads : (heads : List Head) (tasks_ : List Name) → tasks_ ≡ names_of heads
    → {a b : List Noted} {all vars : List Name} {body : Statements} (f : Name) → IsParams a all
    → IsBlock tasks_ most_levels all b body vars → (rest : List Tok) (flaw : Option Stop)
    → Reads heads (task_behind f (at heads (tokens_of (mark m.ParenOpen ∷ (a ++ mark m.ParenClose ∷ b)) ++ rest) []
    flaw)) (mark m.ParenOpen ∷ (a ++ mark m.ParenClose ∷ b)) rest [] flaw
    (record { name = f; params = length all; vars = vars; body = body })
unfolding task_behind
task_behind_reads heads tasks_ same {a = a} {b = b} {all = all} {vars = vars} {body = body} f p q rest flaw =
    let made : Task = record { name = f; params = length all; vars = vars; body = body } in
    then_reads heads (expect m.ParenOpen)
    (λ _ i. and_then (params i) (λ _ j. and_then (expect m.ParenClose j)
    (λ _ l. and_then (block most_levels l) (λ d o. behind_block f (length l.vars) d o))))
    (mark m.ParenOpen ∷ []) (a ++ mark m.ParenClose ∷ b) rest [] [] [] flaw tt made
    (expect_reads heads m.ParenOpen (tokens_of (a ++ mark m.ParenClose ∷ b) ++ rest) [] flaw)
    (λ f1. then_reads heads params (λ _ j. and_then (expect m.ParenClose j)
    (λ _ l. and_then (block most_levels l) (λ d o. behind_block f (length l.vars) d o)))
    a (mark m.ParenClose ∷ b) rest [] all [] f1 tt made
    (params_reads heads p (tokens_of b ++ rest) f1)
    (λ f2. then_reads heads (expect m.ParenClose)
    (λ _ l. and_then (block most_levels l) (λ d o. behind_block f (length l.vars) d o))
    (mark m.ParenClose ∷ []) b rest all all [] f2 tt made
    (expect_reads heads m.ParenClose (tokens_of b ++ rest) all f2)
    (λ f3. subst (λ ns. Reads heads (and_then (block most_levels (at heads (tokens_of ns ++ rest) all f3))
    (λ d o. behind_block f (length all) d o)) ns rest [] f3 made) (append-nil b)
    (then_reads heads (block most_levels) (λ d o. behind_block f (length all) d o) b [] rest all vars [] f3 body made
    (block_reads heads tasks_ same q rest f3)
    (λ f4. nothing_more heads rest [] f4 made)))))

task_reads : (heads : List Head) (tasks_ : List Name) → tasks_ ≡ names_of heads
    → {earlier : List Name} {a : List Noted} {t : Task} → IsTask tasks_ earlier a t
    → (rest : List Tok) (flaw : Option Stop) → Reads heads
    (task earlier (at heads (tokens_of a ++ rest) [] flaw)) a rest [] flaw t
unfolding task task_keyword
task_reads heads tasks_ same {earlier = earlier}
    (g.task {a = a} {b = b} {params = all} {vars = vars} {body = body} f p q) rest flaw =
    let inner = mark m.ParenOpen ∷ (a ++ mark m.ParenClose ∷ b) in
    let name : Noted = (toks.Name f, declaration most_tasks earlier f (declares (length all))) in
    let made : Task = record { name = f; params = length all; vars = vars; body = body } in
    then_reads heads skip (λ _ i. and_then (fresh most_tasks earlier i) (λ x j. task_behind x j)) (key k.Task ∷ [])
    (name ∷ inner) rest [] [] [] flaw tt made
    (key_reads heads k.Task (toks.Name f ∷ (tokens_of inner ++ rest)) [] flaw tt)
    (λ f1. then_reads heads (fresh most_tasks earlier) (λ x j. task_behind x j)
    (name ∷ []) inner rest [] [] [] f1 f made
    (quiet_reads (quiet_declaration most_tasks earlier f (declares (length all)) (λ h left. refl))
    (fresh_does heads most_tasks earlier f (declares (length all)) (tokens_of inner ++ rest) [] f1 (λ left. refl)))
    (λ f2. task_behind_reads heads tasks_ same f p q rest f2))

task_longer : {tasks_ earlier : List Name} {a : List Noted} {t : Task} → IsTask tasks_ earlier a t → 0 < length a
task_longer (g.task f p q) = omega arith

pub some_left : (ts : List Tok) → 0 < length ts → nat_eq (length ts) 0 ≡ false
some_left ts h = by (nat_eq (length ts) 0) refl
  where
    by : (b : Bool) → nat_eq (length ts) 0 ≡ b → b ≡ false
    by true e = absurd (omega (arith, eqb-true (length ts) 0 e))
    by false e = refl

pub tasks_reads : (heads : List Head) (tasks_ : List Name) → tasks_ ≡ names_of heads
    → {earlier : List Name} {a : List Noted} {ts : List Task} → IsTasks tasks_ earlier a ts
    → (n : ℕ) → length a ≤ n → (found : List Task) → map (λ (t : Task). t.name) found ≡ earlier → (flaw : Option Stop)
    → Reads heads (tasks_from n found (at heads (tokens_of a ++ []) [] flaw)) a [] [] flaw (found ++ ts)
unfolding tasks_from
tasks_reads heads tasks_ same g.tasks_end zero h found named flaw =
    subst (λ l. Reads heads (Ok (found, at heads [] [] flaw)) [] [] [] flaw l) (sym (append-nil found))
    (nothing_more heads [] [] flaw found)
tasks_reads heads tasks_ same g.tasks_end (suc n) h found named flaw =
    subst (λ l. Reads heads (Ok (found, at heads [] [] flaw)) [] [] [] flaw l) (sym (append-nil found))
    (nothing_more heads [] [] flaw found)
tasks_reads heads tasks_ same (g.tasks_more {a = a} {b = b} p q) zero h found named flaw =
    let longer : 0 < length a = task_longer p in
    absurd (omega (arith, length-append a b))
tasks_reads heads tasks_ same (g.tasks_more {earlier = earlier} {a = a} {b = b} {t = t} {rest = more} p q)
    (suc n) h found named flaw =
    let longer : 0 < length a = task_longer p in
    let size : length (a ++ b) ≡ length a + length b = length-append a b in
    let ts = tokens_of (a ++ b) ++ [] in
    let left : nat_eq (length ts) 0 ≡ false = some_left ts (omega (arith, length-ahead (a ++ b) [])) in
    subst (λ c. Reads heads (cond c (Ok (found, at heads ts [] flaw))
    (and_then (task (map (λ (s : Task). s.name) found) (at heads ts [] flaw))
    (λ s i. tasks_from n (found ++ s ∷ []) i)))
    (a ++ b) [] [] flaw (found ++ t ∷ more)) (sym left)
    (then_reads heads (task (map (λ (s : Task). s.name) found))
    (λ s i. tasks_from n (found ++ s ∷ []) i) a b [] [] [] [] flaw t (found ++ t ∷ more)
    (subst (λ ns. Reads heads (task ns (at heads (tokens_of a ++ (tokens_of b ++ [])) [] flaw)) a
    (tokens_of b ++ []) [] flaw t) (sym named) (task_reads heads tasks_ same p (tokens_of b ++ []) flaw))
    (λ f. subst (λ l. Reads heads (tasks_from n (found ++ t ∷ []) (at heads (tokens_of b ++ []) [] f)) b [] [] f l)
    (append_assoc found (t ∷ []) more)
    (tasks_reads heads tasks_ same q n (omega arith) (found ++ t ∷ [])
    (names-push found t ∙ ap (λ ns. ns ++ t.name ∷ []) named) f)))
