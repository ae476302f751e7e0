-- What a script has: its task `main`, and few parameters.
use Rattle.std.proofs.Common.{◌≡◌, ◌≤◌, ◌<◌, ℕ, zero, suc, ◌+◌, Bool, true, false, cond, nat_le, List, [], ◌∷◌}
use Rattle.std.proofs.Common.{◌++◌, length, map, Option, Some, None, refl, sym, ap, ◌∙◌, subst, arith, get_or}
use Rattle.std.proofs.Common.{le-leb, leb-true}
use Rattle.std.proofs.lemmas.Bool.{and_from, both_ways, leb-false}
use Rattle.std.specs.Prelude.{slice_get, codes}
use Rattle.std.specs.Str.{bytes_eq}
use Rattle.std.specs.Cmp.{first_so, second_so}
use Rattle.std.specs.List.{position_from, list_all}
use Rattle.tj_lex.specs.declared.token.Tok.{Tok}
use Rattle.tj_lex.specs.declared.token.Tok.TheVariants as toks
use Rattle.tj_syntax.specs.declared.script.Decl.{Decl}
use Rattle.tj_syntax.specs.declared.script.Script.{Script}
use Rattle.tj_syntax.specs.Trees.{Task}
use Rattle.tj_syntax.specs.View as view
use Rattle.tj_syntax.specs.Marks.{Name, Note, Noted, fine, broken, forks, declares, is_among, most_vars, declaration}
use Rattle.tj_syntax.specs.Faults.{IsUnbroken, AreUnbroken, IsScript, task_at, main_of}
use Rattle.tj_syntax.specs.Grammar.{IsParams, no_params, params, IsMoreParams, params_end, params_more, IsTask, task}
use Rattle.tj_syntax.specs.Grammar.{IsTasks, tasks_end, tasks_more}
use Rattle.tj_eval.proofs.GetTokens.{all-front, all-back}
use Rattle.tj_eval.specs.Bodies.{has_few_params, all_have_few_params, most_params}

length-one_more : {A : Type 0} (front : List A) (x : A) → length (front ++ x ∷ []) ≡ length front + 1
length-one_more [] x = refl
length-one_more (y ∷ front) x = let e = length-one_more front x in omega (arith, e)

-- the first name that passes is that of the first task whose name does
named_at : (test : Name → Bool) (i : ℕ) (decls : List Decl)
    → position_from test i (map (λ t. t.name) (map view.task decls)) ≡ position_from (λ (d : Decl). test d.name) i decls
named_at test i [] = refl
named_at test i (d ∷ decls) = ap (λ o. cond (test d.name) (Some i) o) (named_at test (i + 1) decls)

-- the index of the first parsed task that is named `main`
abbrev pub main_among : List Decl → Option ℕ
main_among decls = position_from (λ (d : Decl). bytes_eq d.name (codes "main")) 0 decls

-- the task `main` is the one with that index
main_is : (decls : List Decl) → main_of (map view.task decls) ≡ task_at (map view.task decls) (main_among decls)
main_is decls = ap (task_at (map view.task decls)) (named_at (λ name. bytes_eq name (codes "main")) 0 decls)

-- it is the task of the script with that number
pub main_at : (script : Script) (decls : List Decl) (o : Option ℕ) (f : ℕ) → decls ≡ script.tasks.items
    → o ≡ main_among decls → o ≡ Some f → main_of (view.script script) ≡ slice_get (view.script script) f
main_at script decls o f same is here = main_is script.tasks.items
    ∙ ap (task_at (view.script script)) (ap main_among (sym same) ∙ sym is ∙ here)

-- a script that has a task `main` is parsed with one of that name
pub main_there : (script : Script) (decls : List Decl) (o : Option ℕ) (main : Task) → decls ≡ script.tasks.items
    → o ≡ main_among decls → main_of (view.script script) ≡ Some main → o ≡ None → ⊥
main_there script decls o main same is has lacks = no_task (sym has ∙ main_is script.tasks.items
    ∙ ap (task_at (view.script script)) (ap main_among (sym same) ∙ sym is ∙ lacks)) where
      no_task : ◌≡◌ {A = Option Task} (Some main) None → ⊥
      no_task e = cc

-- what is unbroken has unbroken parts
unbroken-front : (a b : List Noted) → AreUnbroken (a ++ b) → AreUnbroken a
unbroken-front = all-front IsUnbroken

unbroken-back : (a b : List Noted) → AreUnbroken (a ++ b) → AreUnbroken b
unbroken-back = all-back IsUnbroken

abbrev is_broken : Note → Bool
is_broken fine = false
is_broken (broken breach) = true
is_broken (forks n) = false
is_broken (declares n) = false

quiet : (x : Noted) → IsUnbroken x → is_broken x.1 ≡ false
quiet x h = by x.1 (λ breach e. h breach e) where
  by : (n : Note) → IsUnbroken (x.0, n) → is_broken n ≡ false
  by fine h = refl
  by (broken breach) h = absurd (h breach refl)
  by (forks n) h = refl
  by (declares n) h = refl

quiet-first : (b : Bool) (m n : Note) → is_broken m ≡ true → is_broken (cond b m n) ≡ false → b ≡ false
quiet-first true m n e f = sym e ∙ f
quiet-first false m n e f = refl

quiet-second : (b : Bool) (m n : Note) → is_broken m ≡ true → is_broken (cond b m n) ≡ false → is_broken n ≡ false
quiet-second true m n e f = absurd (both_ways (is_broken m) f e)
quiet-second false m n e f = f

-- a declaration that breaks nothing isn't one too many
not_many : (x : Tok) (f : Name) (earlier : List Name) → IsUnbroken (x, declaration most_vars earlier f fine)
    → nat_le most_vars (length earlier) ≡ false
not_many x f earlier h = quiet-first (nat_le most_vars (length earlier)) _ _ refl
    (quiet-second (is_among earlier f) _ _ refl (quiet (x, declaration most_vars earlier f fine) h))

few-more : {earlier all : List Name} {a : List Noted} → IsMoreParams earlier a all → length earlier ≤ most_params
    → AreUnbroken a → length all ≤ most_params
few-more params_end few h = few
few-more (params_more {earlier} {all} {a} x more) few h =
    let e = length-one_more earlier x in
    let f = leb-false most_vars (length earlier) (not_many (toks.Name x) x earlier h.1.0) in
    few-more more (omega (arith, e, f)) h.1.1

-- a task of a script has few parameters
few-params : {a : List Noted} {all : List Name} → IsParams a all → AreUnbroken a → length all ≤ most_params
few-params no_params h = omega arith
few-params (params x more) h = few-more more (omega arith) h.1

few-task : {tasks earlier : List Name} {a : List Noted} {t : Task} → IsTask tasks earlier a t → AreUnbroken a
    → has_few_params t ≡ true
few-task (task {a} {b} {params = given} f is body) h = le-leb (length given) most_params
    (few-params is (unbroken-front a _ h.1.1.1))

few-tasks : {tasks earlier : List Name} {a : List Noted} {script : List Task} → IsTasks tasks earlier a script
    → AreUnbroken a
    → list_all has_few_params script ≡ true
few-tasks tasks_end h = refl
few-tasks (tasks_more {earlier} {a} {b} {t} {rest} first more) h =
    and_from (has_few_params t) (list_all has_few_params rest)
    (few-task first (unbroken-front a b h)) (few-tasks more (unbroken-back a b h))

-- a task of such a script has few parameters
pub few_at : (decls : List Decl) (f : ℕ) (d : Decl) → all_have_few_params (map view.task decls) ≡ true
    → f < length decls → d
    ≡ get_or decls f d
    → d.params ≤ most_params
few_at [] f d e l g = absurd (omega arith)
few_at (t ∷ decls) zero d e l g = subst (λ z. z.params ≤ most_params) (sym g)
    (leb-true t.params most_params
    (first_so (has_few_params (view.task t)) (all_have_few_params (map view.task decls)) e))
few_at (t ∷ decls) (suc f) d e l g = few_at decls f d
    (second_so (has_few_params (view.task t)) (all_have_few_params (map view.task decls)) e) (omega arith) g

-- no task of a script has too many parameters
pub few-script : (tokens : List Tok) (script : List Task) → IsScript tokens script → all_have_few_params script ≡ true
few-script tokens script s = few-tasks s.derived s.unbroken
