-- Where the reading of a task stops, it is the beginning of one, and so are the tasks of a script.
use Rattle.std.proofs.Common.{◌≡◌, ℕ, zero, suc, cond, nat_eq, List, [], ◌∷◌, ◌++◌, length, map, Ok, Err, refl, ap}
use Rattle.std.proofs.Common.{sym, ◌∙◌, subst, append_assoc, ⊎_elim}
use Rattle.std.proofs.lemmas.List.{append-nil}
use Rattle.tj_lex.specs.declared.token.Tok.{Tok}
use Rattle.tj_lex.specs.declared.token.Tok.TheVariants as toks
use Rattle.tj_lex.specs.declared.token.Key.TheVariants as k
use Rattle.tj_lex.specs.declared.token.Mark.TheVariants as m
use Rattle.tj_syntax.specs.declared.fault.Stop.{Stop}
use Rattle.tj_syntax.specs.declared.fault.Stop.TheVariants as stop
use Rattle.tj_syntax.specs.Trees as tree
use Rattle.tj_syntax.specs.Trees.{Statements, Task}
use Rattle.tj_syntax.specs.Marks.{Name, Noted, fine, declares, key, mark, declaration, most_vars, most_tasks}
use Rattle.tj_syntax.specs.Marks.{most_levels}
use Rattle.tj_syntax.specs.Grammar as g
use Rattle.tj_syntax.specs.Grammar.{IsBlock, IsMoreParams, IsParams, IsTask, IsTasks}
use Rattle.tj_syntax.specs.Inner.Input.{Input, Outcome, and_then, first, refuse, sees, expect, eat, fresh, fresh_variable}
use Rattle.tj_syntax.specs.Inner.Input.{names_of}
use Rattle.tj_syntax.specs.Inner.Reading.{params_from, params, task_keyword_by, task_keyword, task_behind, task, tasks_from}
use Rattle.tj_syntax.specs.Inner.Reading.{block}
use Rattle.tj_syntax.proofs.Sound.Steps.{expected, ate, fine_unbroken}
use Rattle.tj_syntax.proofs.Sound.Stmt.{fresh_sound}
use Rattle.tj_syntax.proofs.Sound.Task.{TookTasks, keyword_by_sound, params_sound, task_sound}
use Rattle.tj_syntax.proofs.Sound.Script.{names-push}
use Rattle.tj_syntax.proofs.Stops.Steps.{Halts, Part, Halting, Past, past, past_nothing, past_both, split, if_err}
use Rattle.tj_syntax.proofs.Stops.Steps.{beyond, moved, later, at_last, refused, refused_behind, err_inj, expect_stops}
use Rattle.tj_syntax.proofs.Stops.Steps.{eat_reads, fresh_halts}
use Rattle.tj_syntax.proofs.Stops.Stmt.{ABlock, empty, is_empty, past_name, block_halts}

-- ---- parameters

-- a parameter and those behind it
record Params (vars : List Name) (notes : List Noted) : Type 0 where
  x : Name
  more : List Noted
  all : List Name
  is : notes ≡ (toks.Name x, declaration most_vars vars x fine) ∷ more
  right : IsMoreParams (vars ++ x ∷ []) more all

abbrev SomeParams : Part
SomeParams tasks vars notes = Params vars notes

abbrev AllParams : Part
AllParams tasks vars notes = (all : List Name) × IsParams notes all

one_param : (vars : List Name) (x : Name) → Params vars ((toks.Name x, declaration most_vars vars x fine) ∷ [])
one_param vars x = record { x = x; more = []; all = vars ++ x ∷ []; is = refl; right = g.params_end }

-- variables may become known behind notes
past_to : {i j : Input} {notes : List Noted} → Past i j notes → (vars : List Name)
    → Past i (record j { vars = vars }) notes
past_to p vars = record { ahead = p.ahead; unbroken = p.unbroken; tasks = p.tasks }

params_from_halts : (n : ℕ) → Halting SomeParams (params_from n)
unfolding params_from
params_from_halts zero i s h = refused (err_inj {A = Unit {0}} (stop.Expected (length i.ahead)) s h) _
    (one_param i.vars [])
params_from_halts (suc n) i s h =
    split (fresh_variable i) _ s h
    (λ e. fresh_halts most_vars i.vars i s fine e (λ x. []) (λ x. one_param i.vars x))
    (λ x j r e.
    let name = fresh_sound most_vars i.vars i j x r in
    let known = record j { vars = j.vars ++ x ∷ [] } in
    let same : known.vars ≡ i.vars ++ x ∷ [] = ap (λ (l : Input). l.vars ++ x ∷ []) name.there in
    let named : Past i known ((toks.Name x, declaration most_vars i.vars x fine) ∷ []) = past_to
    (past_name fine (fine_unbroken (toks.Name x)) name) (j.vars ++ x ∷ []) in
    split (eat m.Comma known) _ s e
    (λ e'. absurd (eat_reads m.Comma known s e'))
    (λ more l r' e'.
    ⊎_elim
    (λ yes.
    let h' : params_from n l ≡ Err s = subst (λ b. cond b (params_from n) (λ l. Ok (tt, l)) l ≡ Err s) yes.0 e' in
    at_last SomeParams (past_both named (past yes.1.took)) (ap (λ p. p.0) yes.1.kept ∙ same)
    (params_from_halts n l s h')
    (λ notes p. record {
      x = x;
      more = mark m.Comma ∷ notes;
      all = p.all;
      is = refl;
      right = subst (λ ns. IsMoreParams (i.vars ++ x ∷ []) (mark m.Comma ∷ ns) p.all) (sym p.is)
          (g.params_more p.x p.right);
    }))
    (λ no.
    let h' : ◌≡◌ {A = Outcome (Unit {0})} (Ok (tt, l)) (Err s) = subst
    (λ b. cond b (params_from n) (λ l. Ok (tt, l)) l ≡ Err s) no.0 e' in
    absurd (cc))
    (ate m.Comma known l more r')))

params_halts : (i : Input) (s : Stop) → i.vars ≡ [] → params i ≡ Err s → Halts i s (AllParams (names_of i.tasks) [])
unfolding params
params_halts i s none h =
    ⊎_elim (λ p. let e = p.1 in absurd (cc))
    (λ p. at_last SomeParams (past_nothing i) none (params_from_halts (length i.ahead) i s p.1)
    (λ notes q. (q.all, subst (λ ns. IsParams ns q.all) (sym q.is) (g.params q.x q.right))))
    (if_err (sees m.ParenClose i) (Ok (tt, i)) (params_from (length i.ahead) i) s h)

-- ---- a task

-- what stands behind the name of a task
record Rest (tasks : List Name) (notes : List Noted) : Type 0 where
  ps : List Noted
  body : List Noted
  count : List Name
  statements : Statements
  last : List Name
  is : notes ≡ mark m.ParenOpen ∷ (ps ++ mark m.ParenClose ∷ body)
  is_params : IsParams ps count
  is_body : IsBlock tasks most_levels count body statements last

abbrev ARest : Part
ARest tasks vars notes = Rest tasks notes

abbrev ATask : List Name → Part
ATask earlier tasks vars notes = (t : Task) × IsTask tasks earlier notes t

abbrev pub SomeTasks : List Name → Part
SomeTasks earlier tasks vars notes = (script : List Task) × IsTasks tasks earlier notes script

-- no parameters, and no statements
abbrev bare : List Noted
bare = mark m.ParenOpen ∷ mark m.ParenClose ∷ empty most_levels

abbrev is_bare : (tasks : List Name) → Rest tasks bare
is_bare tasks = record {
  ps = [];
  body = empty most_levels;
  count = [];
  statements = tree.no_more;
  last = [];
  is = refl;
  is_params = g.no_params;
  is_body = is_empty tasks most_levels [];
}

task_behind_halts : (f : Name) (i : Input) (s : Stop) → i.vars ≡ [] → task_behind f i ≡ Err s
    → Halts i s (ARest (names_of i.tasks) i.vars)
unfolding task_behind
task_behind_halts f i s none h =
    split (expect m.ParenOpen i) _ s h
    (λ e. refused (expect_stops m.ParenOpen i s e) bare (is_bare (names_of i.tasks)))
    (λ u j r e.
    let opening = expected m.ParenOpen i j u r in
    let no_vars : j.vars ≡ [] = ap (λ p. p.0) opening.kept ∙ none in
    split (params j) _ s e
    (λ e'. beyond (params_halts j s no_vars e')
    (λ notes p. (
      mark m.ParenOpen ∷ [],
      mark m.ParenClose ∷ empty most_levels,
      past opening.took,
      record {
        ps = notes;
        body = empty most_levels;
        count = p.0;
        statements = tree.no_more;
        last = p.0;
        is = refl;
        is_params = p.1;
        is_body = is_empty (names_of i.tasks) most_levels p.0;
      },
    )))
    (λ v l r' e'.
    let ps = params_sound j l v no_vars r' in
    split (expect m.ParenClose l) _ s e'
    (λ e''. refused_behind (past_both (past opening.took) (past ps.took)) (expect_stops m.ParenClose l s e'')
    (mark m.ParenClose ∷ empty most_levels) (record {
      ps = ps.notes;
      body = empty most_levels;
      count = l.vars;
      statements = tree.no_more;
      last = l.vars;
      is = refl;
      is_params = ps.right;
      is_body = is_empty (names_of i.tasks) most_levels l.vars;
    }))
    (λ w n r'' e''.
    let closing = expected m.ParenClose l n w r'' in
    split (block most_levels n) _ s e''
    (λ e₃. at_last (ABlock most_levels) (past_both (past_both (past opening.took) (past ps.took)) (past closing.took))
    refl (block_halts most_levels n s e₃)
    (λ notes p. record {
      ps = ps.notes;
      body = notes;
      count = n.vars;
      statements = p.0;
      last = p.1;
      is = ap (λ ns. mark m.ParenOpen ∷ ns) (append_assoc ps.notes (mark m.ParenClose ∷ []) notes);
      is_params = subst (λ v. IsParams ps.notes v) (sym (ap (λ p. p.0) closing.kept)) ps.right;
      is_body = p.2;
    }))
    (λ b o r₃ e₃. absurd (cc)))))

keyword_by_stops : (ts : List Tok) (i : Input) (s : Stop) → i.ahead ≡ ts → task_keyword_by (first ts) i ≡ Err s
    → s ≡ stop.Expected (length i.ahead)
keyword_by_stops (toks.Key k.Task ∷ rest) i s e h = absurd (cc)
keyword_by_stops ts i s e h = err_inj {A = Unit {0}} (stop.Expected (length i.ahead)) s h

past_tasks : {i j : Input} {notes : List Noted} → TookTasks i j notes → Past i j notes
past_tasks t = record { ahead = t.ahead; unbroken = t.unbroken; tasks = t.tasks }

is_task : (tasks earlier : List Name) (f : Name) (notes : List Noted) (p : Rest tasks notes)
    → (t : Task) × IsTask tasks earlier
    (key k.Task ∷ ((toks.Name f, declaration most_tasks earlier f (declares (length p.count))) ∷ notes)) t
is_task tasks earlier f notes p = (
  record { name = f; params = length p.count; vars = p.last; body = p.statements },
  subst (λ ns. IsTask tasks earlier
      (key k.Task ∷ ((toks.Name f, declaration most_tasks earlier f (declares (length p.count))) ∷ ns))
      (record { name = f; params = length p.count; vars = p.last; body = p.statements })) (sym p.is)
      (g.task f p.is_params p.is_body),
)

task_halts : (earlier : List Name) (i : Input) (s : Stop) → i.vars ≡ [] → task earlier i ≡ Err s
    → Halts i s (ATask earlier (names_of i.tasks) i.vars)
unfolding task task_keyword
task_halts earlier i s none h =
    split (task_keyword i) _ s h
    (λ e. refused (keyword_by_stops i.ahead i s refl e) _
    (is_task (names_of i.tasks) earlier [] bare (is_bare (names_of i.tasks))))
    (λ u j r e.
    let word = keyword_by_sound i.ahead i j u refl r in
    let begin : Past i j (key k.Task ∷ []) = subst (λ l. Past i l (key k.Task ∷ [])) (sym word.0) (past_tasks word.1) in
    split (fresh most_tasks earlier j) _ s e
    (λ e'. at_last (λ tasks vars notes. ATask earlier tasks vars (key k.Task ∷ notes)) begin refl
    (fresh_halts most_tasks earlier j s (declares 0) e' (λ f. bare)
    (λ f. is_task (names_of j.tasks) earlier f bare (is_bare (names_of j.tasks))))
    (λ notes p. p))
    (λ f l r' e'.
    let name = fresh_sound most_tasks earlier j l f r' in
    let no_vars : l.vars ≡ [] = ap (λ (n : Input). n.vars) name.there ∙ ap (λ (n : Input). n.vars) word.0 ∙ none in
    let front : (count : ℕ) → Past i l
    (key k.Task ∷ ((toks.Name f, declaration most_tasks earlier f (declares count)) ∷ [])) =
    λ count. past_both begin (past_name (declares count) (λ b q. cc) name) in
    beyond (task_behind_halts f l s no_vars e')
    (λ notes p.
    let rest = moved {vars = l.vars} ARest (front 0) refl p in (
      key k.Task ∷ ((toks.Name f, declaration most_tasks earlier f (declares (length rest.count))) ∷ []),
      [],
      front (length rest.count),
      subst (λ ns. ATask earlier (names_of i.tasks) i.vars
          (key k.Task ∷ ((toks.Name f, declaration most_tasks earlier f (declares (length rest.count))) ∷ ns)))
          (sym (append-nil notes)) (is_task (names_of i.tasks) earlier f notes rest),
    ))))

pub tasks_halt : (n : ℕ) (found : List Task) (i : Input) (s : Stop) → i.vars ≡ [] → tasks_from n found i ≡ Err s
    → Halts i s (SomeTasks (map (λ t. t.name) found) (names_of i.tasks) i.vars)
unfolding tasks_from
tasks_halt zero found i s none h =
    ⊎_elim (λ p. let e = p.1 in absurd (cc))
    (λ p. refused (err_inj {A = List Task} (stop.Expected (length i.ahead)) s p.1) [] ([], g.tasks_end))
    (if_err (nat_eq (length i.ahead) 0) (Ok (found, i)) (refuse i) s h)
tasks_halt (suc n) found i s none h =
    ⊎_elim (λ p. let e = p.1 in absurd (cc))
    (λ p.
    let earlier = map (λ (t : Task). t.name) found in
    split (task earlier i) (λ t. tasks_from n (found ++ t ∷ [])) s p.1
    (λ e. later (ATask earlier) (past_nothing i) refl (task_halts earlier i s none e)
    (λ notes q. ([], (q.0 ∷ [], g.tasks_more q.1 g.tasks_end))))
    (λ t j r e.
    let one = task_sound earlier i j t none r in
    at_last (SomeTasks (map (λ t. t.name) (found ++ t ∷ []))) (past_tasks one.took) refl
    (tasks_halt n (found ++ t ∷ []) j s one.vars e)
    (λ notes q. (
      t ∷ q.0,
      g.tasks_more one.right
          (subst (λ ns. IsTasks (names_of i.tasks) ns notes q.0) (names-push found t) q.1),
    ))))
    (if_err (nat_eq (length i.ahead) 0) (Ok (found, i))
    (and_then (task (map (λ t. t.name) found) i) (λ t. tasks_from n (found ++ t ∷ []))) s h)
