-- Tasks are read alike.
use Rattle.std.proofs.Common.{◌≡◌, ℕ, zero, suc, List, [], ◌∷◌, ◌++◌, map, Option, Some, refl, ap, sym, ◌∙◌, subst}
use Rattle.std.proofs.Common.{arith, inl, inr}
use Rattle.tj_lex.specs.declared.token.Tok.{Tok}
use Rattle.tj_lex.specs.declared.token.Tok.TheVariants as toks
use Rattle.tj_lex.specs.declared.token.Key.TheVariants as k
use Rattle.tj_lex.specs.declared.token.Mark.TheVariants as m
use Rattle.tj_syntax.specs.Trees.{Task}
use Rattle.tj_syntax.specs.Marks.{Name, most_tasks, most_levels}
use Rattle.tj_syntax.specs.Inner.Input.{pure, fresh, forget_variables, variables, is_mark}
use Rattle.tj_syntax.specs.Inner.Reading.{params_from, params, task_keyword_by, task_keyword, task_behind, task, tasks_from}
use Rattle.tj_syntax.specs.Inner.Reading.{tasks}
use Rattle.tj_syntax.proofs.Sound.Script.{names-push}
use Rattle.tj_syntax.proofs.Same.AlikeSteps.{Local, Loose, Strict, Narrow, Needs, read, any, bind_local, bind_same}
use Rattle.tj_syntax.proofs.Same.AlikeSteps.{then_local, bind_narrow, pure_narrow, pure_local, skip_local, refuse_local}
use Rattle.tj_syntax.proofs.Same.AlikeSteps.{by_first, by_vars, by_count, either_local, chosen_local, chosen_narrow}
use Rattle.tj_syntax.proofs.Same.AlikeSteps.{end_narrow, if_end, at_end, loose, strictly, needs_one, one_needed}
use Rattle.tj_syntax.proofs.Same.AlikeExpr.{expect_local}
use Rattle.tj_syntax.proofs.Same.AlikeAsk.{eat_local}
use Rattle.tj_syntax.proofs.Same.AlikeStmt.{fresh_local, fresh_variable_local, add_local, count_local, block_local}

more_narrow : (n : ℕ) → Narrow (params_from n) → Narrow (params_from (suc n))
unfolding params_from
more_narrow n more =
    bind_narrow (fresh_variable_local 0 0).narrow
    (λ x. bind_narrow (add_local x 0 0).narrow (λ _. bind_narrow (eat_local m.Comma 0 0).narrow
    (λ b. chosen_narrow b more (pure_narrow tt))))

params_narrow : (n : ℕ) → Narrow (params_from n)
unfolding params_from
params_narrow zero = (refuse_local {see = any} 0 0 0 0).narrow
params_narrow (suc n) = more_narrow n (params_narrow n)

params_need : (n : ℕ) → Needs (params_from (suc n))
unfolding params_from fresh
params_need n = record { stops = λ heads vars flaw. refl }

turns_local : (n d : ℕ) → Local n d n d any (params_from n) (params_from d)
unfolding params_from
turns_local zero zero = refuse_local 0 0 0 0
turns_local zero (suc d) = needs_one (suc d) zero (suc d) (params_need d)
turns_local (suc n) zero = one_needed (suc n) (suc n) zero (params_need n) (params_narrow (suc n))
turns_local (suc n) (suc d) =
    strictly n d (bind_same (fresh_variable_local n d) (λ x. then_local (add_local x n d)
    (bind_same (eat_local m.Comma n d) (λ b. chosen_local b (turns_local n d) (pure_local refl n d)))))

params_local : Loose any params params
unfolding params
params_local n d =
    by_first _ _ (λ t. either_local (is_mark m.ParenClose t) (pure_local {a = tt} {b = tt} refl n d)
    (by_count params_from params_from turns_local))

keyword_local : Strict any task_keyword task_keyword
unfolding task_keyword
keyword_local n d = by_first _ _ by
  where
    by : (t : Option Tok) → Local (suc n) (suc d) n d any (task_keyword_by t) (task_keyword_by t)
    by (Some (toks.Key k.Task)) = skip_local n d
    by t = refuse_local (suc n) (suc d) n d

forget_local : Loose any forget_variables forget_variables
forget_local n d = record {
  narrow = record { stays = λ i. omega arith };
  alike = λ x y before vars heads heads' flaw flaw' same small small'. read before [] heads heads' flaw flaw' tt tt
      refl small small';
}

variables_local : Loose any variables variables
variables_local n d = by_vars (λ vars. pure vars) (λ vars. pure vars) (λ vars. pure_local refl n d)

-- the name of a task
abbrev name_of : Task → Name
name_of t = t.name

behind_local : (f : Name) → Strict name_of (task_behind f) (task_behind f)
unfolding task_behind
behind_local f n d =
    then_local (expect_local m.ParenOpen n d)
    (then_local (params_local n d) (then_local (loose (expect_local m.ParenClose) n d)
    (bind_local (count_local n d) (λ c e _. bind_local (loose (block_local most_levels) n d) (λ a b _.
    bind_local (variables_local n d) (λ v w _. then_local (forget_local n d)
    (pure_local {a = record { name = f; params = c; vars = v; body = a }}
    {b = record { name = f; params = e; vars = w; body = b }} refl n d)))))))

task_local : (earlier : List Name) → Strict name_of (task earlier) (task earlier)
unfolding task
task_local earlier n d =
    then_local (keyword_local n d) (bind_same (loose (fresh_local most_tasks earlier) n d)
    (λ f. loose (behind_local f) n d))

-- the names of tasks
abbrev names : List Task → List Name
names found = map name_of found

turn_narrow : (n : ℕ) → ((found : List Task) → Narrow (tasks_from n found)) → (found : List Task)
    → Narrow (tasks_from (suc n) found)
unfolding tasks_from
turn_narrow n more found = end_narrow (pure_narrow found)
    (bind_narrow (task_local (names found) 0 0).narrow (λ t. more (found ++ t ∷ [])))

tasks_narrow : (n : ℕ) (found : List Task) → Narrow (tasks_from n found)
unfolding tasks_from
tasks_narrow zero found = end_narrow (pure_narrow found) (refuse_local {see = any} 0 0 0 0).narrow
tasks_narrow (suc n) found = turn_narrow n (tasks_narrow n) found

tasks_repeats : (n d : ℕ) (found found' : List Task) → names found ≡ names found'
    → Local n d n d any (tasks_from n found) (tasks_from d found')
unfolding tasks_from
tasks_repeats zero zero found found' same = if_end _ _ _ _ (pure_local {a = found} {b = found'} refl 0 0)
    (refuse_local 0 0 0 0)
tasks_repeats zero (suc d) found found' same = at_end zero (suc d) zero (suc d) (inl refl) (tasks_narrow zero found)
    (λ vars heads heads' flaw flaw'. read [] vars heads heads' flaw flaw' found found' refl (omega arith) (omega arith))
tasks_repeats (suc n) zero found found' same = at_end (suc n) zero (suc n) zero (inr refl) (tasks_narrow (suc n) found)
    (λ vars heads heads' flaw flaw'. read [] vars heads heads' flaw flaw' found found' refl (omega arith) (omega arith))
tasks_repeats (suc n) (suc d) found found' same =
    if_end _ _ _ _ (pure_local {a = found} {b = found'} refl (suc n) (suc d))
    (strictly n d (bind_local {see = name_of}
    (subst (λ l. Local (suc n) (suc d) n d name_of (task (names found)) (task l)) same (task_local (names found) n d))
    (λ t u e. tasks_repeats n d (found ++ t ∷ []) (found' ++ u ∷ [])
    (names-push found t ∙ ap (λ l. l ++ t.name ∷ []) same ∙ ap (λ x. names found' ++ x ∷ []) e
    ∙ sym (names-push found' u)))))

pub tasks_local : Loose any tasks tasks
unfolding tasks
tasks_local n d = by_count (λ c. tasks_from c []) (λ c. tasks_from c []) (λ a b. tasks_repeats a b [] [] refl)
