-- What is read as a task is one, and so are the tasks of a script.
use Rattle.std.proofs.Common.{◌≡◌, ℕ, zero, suc, cond, List, [], ◌∷◌, ◌++◌, length, None, Ok, refl, ap, sym, ◌∙◌}
use Rattle.std.proofs.Common.{subst, ⊎_elim, drop}
use Rattle.tj_lex.specs.declared.token.Tok.{Tok}
use Rattle.tj_lex.specs.declared.token.Tok.TheVariants as toks
use Rattle.tj_lex.specs.declared.token.Key.TheVariants as k
use Rattle.tj_lex.specs.declared.token.Mark.TheVariants as m
use Rattle.tj_syntax.specs.Trees.{Statements, Task}
use Rattle.tj_syntax.specs.Marks.{Name, Note, Noted, fine, declares, key, mark, declaration, most_vars, most_tasks}
use Rattle.tj_syntax.specs.Marks.{most_levels}
use Rattle.tj_syntax.specs.Grammar as g
use Rattle.tj_syntax.specs.Grammar.{IsBlock, IsMoreParams, IsParams, IsTask}
use Rattle.tj_syntax.specs.Faults.{tokens_of, AreUnbroken}
use Rattle.tj_syntax.specs.Inner.Input.{Head, Input, Outcome, first, next, sees, expect, eat, names_of, fresh}
use Rattle.tj_syntax.specs.Inner.Input.{fresh_variable, breach_of}
use Rattle.tj_syntax.specs.Inner.Reading.{params_from, params, task_keyword_by, task_keyword, task_behind, task, block}
use Rattle.tj_syntax.proofs.Taken.{Took, took_nothing, took_both, bind_ok, if_ok, landed, ok_inj, flaw_after, note_flaw}
use Rattle.tj_syntax.proofs.Taken.{first_flaw-none, unbroken-append, AreCalm, ahead_both, flaw_both}
use Rattle.tj_syntax.proofs.Sound.Steps.{took_fine, expected, ate}
use Rattle.tj_syntax.proofs.Sound.Stmt.{Made, took_to, declared_right, fresh_sound}
use Rattle.tj_syntax.proofs.Sound.Block.{block_sound}

-- ---- parameters

-- a parameter and those behind it
record GotParams (i j : Input) : Type 0 where
  x : Name
  notes : List Noted
  took : Took i j ((toks.Name x, declaration most_vars i.vars x fine) ∷ notes)
  right : IsMoreParams (i.vars ++ x ∷ []) notes j.vars

params_from_sound : (n : ℕ) (i j : Input) (u : Unit {0}) → params_from n i ≡ Ok (u, j) → GotParams i j
unfolding params_from
params_from_sound zero i j u h = absurd (cc)
params_from_sound (suc n) i j u h =
    let read = bind_ok (fresh_variable i) _ u j h in
    let x = read.0 in
    let name = fresh_sound most_vars i.vars i read.1 x read.2 in
    let known = record read.1 { vars = read.1.vars ++ x ∷ [] } in
    let comma = bind_ok (eat m.Comma known) _ u j read.3 in
    let note = declaration most_vars i.vars x fine in
    let taken : Took i (next i) ((toks.Name x, note) ∷ []) =
    subst (λ n. Took i (next i) ((toks.Name x, n) ∷ [])) (sym (declared_right most_vars i.vars x name.free fine))
    (took_fine i (toks.Name x) name.rest name.ahead refl) in
    let start : Took i known ((toks.Name x, note) ∷ []) =
    took_to (subst (λ l. Took i l ((toks.Name x, note) ∷ [])) (sym name.there) taken) (read.1.vars ++ x ∷ []) in
    let same : known.vars ≡ i.vars ++ x ∷ [] = ap (λ (l : Input). l.vars ++ x ∷ []) name.there in
    ⊎_elim
    (λ yes.
    let h' : params_from n comma.1 ≡ Ok (u, j) = subst (λ b. cond b (params_from n) (λ l. Ok (tt, l)) comma.1 ≡ Ok (
      u,
      j,
    )) yes.0 comma.3 in
    let rest = params_from_sound n comma.1 j u h' in
    let vars : comma.1.vars ≡ i.vars ++ x ∷ [] = ap (λ p. p.0) yes.1.kept ∙ same in
    record {
      x = x;
      notes = mark m.Comma ∷ ((toks.Name rest.x, declaration most_vars (i.vars ++ x ∷ []) rest.x fine) ∷ rest.notes);
      took = subst (λ v. Took i j ((toks.Name x, note) ∷ (mark m.Comma ∷ ((
        toks.Name rest.x,
        declaration most_vars v
            rest.x fine,
      ) ∷ rest.notes)))) vars
          (took_both start (took_both yes.1.took rest.took));
      right = g.params_more rest.x (subst (λ v. IsMoreParams (v ++ rest.x ∷ []) rest.notes j.vars) vars rest.right);
    })
    (λ no.
    let h' : ◌≡◌ {A = Outcome (Unit {0})} (Ok (tt, comma.1)) (Ok (u, j)) = subst (λ b. cond b (params_from n) (λ l. Ok
    (tt, l)) comma.1 ≡ Ok (u, j)) no.0 comma.3 in
    landed (λ v l. GotParams i l) tt u comma.1 j h'
    (subst (λ l. GotParams i l) (sym no.1)
    (record {
      x = x;
      notes = [];
      took = start;
      right = subst (λ v. IsMoreParams (i.vars ++ x ∷ []) [] v) (sym same)
          g.params_end;
    })))
    (ate m.Comma known comma.1 comma.0 comma.2)

-- the parameters of a task
pub params_sound : (i j : Input) (u : Unit {0}) → i.vars ≡ [] → params i ≡ Ok (u, j) → Made i j (λ notes last. IsParams
    notes last)
unfolding params
params_sound i j u none h =
    ⊎_elim
    (λ p. landed (λ v l. Made i l (λ notes last. IsParams notes last)) tt u i j p.1
    (record { notes = []; took = took_nothing i; right = subst (λ v. IsParams [] v) (sym none) g.no_params }))
    (λ p. let got = params_from_sound (length i.ahead) i j u p.1 in
    record {
      notes = (toks.Name got.x, declaration most_vars i.vars got.x fine) ∷ got.notes;
      took = got.took;
      right = subst (λ v. IsParams ((toks.Name got.x, declaration most_vars v got.x fine) ∷ got.notes) j.vars) (sym
          none)
          (g.params got.x (subst (λ v. IsMoreParams (v ++ got.x ∷ []) got.notes j.vars) none got.right));
    })
    (if_ok (sees m.ParenClose i) (Ok (tt, i)) (params_from (length i.ahead) i) (u, j) h)

-- ---- a task

-- a task behind its name
record GotBehind (f : Name) (i j : Input) (t : Task) : Type 0 where
  ps : List Noted
  body : List Noted
  count : List Name
  statements : Statements
  last : List Name
  is : t ≡ record { name = f; params = length count; vars = last; body = statements }
  took : Took i j (mark m.ParenOpen ∷ (ps ++ (mark m.ParenClose ∷ body)))
  vars : j.vars ≡ []
  is_params : IsParams ps count
  is_body : IsBlock (names_of i.tasks) most_levels count body statements last

task_behind_sound : (f : Name) (i j : Input) (t : Task) → i.vars ≡ [] → task_behind f i ≡ Ok (t, j) → GotBehind f i j t
unfolding task_behind
task_behind_sound f i j t none h =
    let entry = bind_ok (expect m.ParenOpen i) _ t j h in
    let opening = expected m.ParenOpen i entry.1 entry.0 entry.2 in
    let list = bind_ok (params entry.1) _ t j entry.3 in
    let ps = params_sound entry.1 list.1 list.0 (ap (λ p. p.0) opening.kept ∙ none) list.2 in
    let close = bind_ok (expect m.ParenClose list.1) _ t j list.3 in
    let closing = expected m.ParenClose list.1 close.1 close.0 close.2 in
    let inner = bind_ok (block most_levels close.1) _ t j close.3 in
    let body = block_sound most_levels close.1 inner.1 inner.0 inner.2 in
    let vars : close.1.vars ≡ list.1.vars = ap (λ p. p.0) closing.kept in
    let tasks : close.1.tasks ≡ i.tasks = closing.took.tasks ∙ ps.took.tasks ∙ opening.took.tasks in
    landed (λ b l. GotBehind f i l b)
    (record { name = f; params = length close.1.vars; vars = inner.1.vars; body = inner.0 }) t (record inner.1 {
      vars
          = [];
    }) j inner.3
    (record {
      ps = ps.notes;
      body = body.notes;
      count = close.1.vars;
      statements = inner.0;
      last = inner.1.vars;
      is = refl;
      took = took_to (took_both opening.took (took_both ps.took (took_both closing.took body.took))) [];
      vars = refl;
      is_params = subst (λ v. IsParams ps.notes v) (sym vars) ps.right;
      is_body = subst (λ ts. IsBlock (names_of ts) most_levels close.1.vars body.notes inner.0 inner.1.vars) tasks
          body.right;
    })

-- between two inputs stand these notes, none of them broken; tasks may begin among them
pub record TookTasks (i j : Input) (notes : List Noted) : Type 0 where
  pub ahead : i.ahead ≡ tokens_of notes ++ j.ahead
  pub unbroken : AreUnbroken notes
  pub tasks : j.tasks ≡ i.tasks
  pub flaw : j.flaw ≡ flaw_after i.tasks notes (length j.ahead) i.flaw

pub tasks_both : {i j k : Input} {a b : List Noted} → TookTasks i j a → TookTasks j k b → TookTasks i k (a ++ b)
tasks_both {i} {j} {k} {a} {b} p q = record {
  ahead = ahead_both a b k p.ahead q.ahead;
  unbroken = unbroken-append a b p.unbroken q.unbroken;
  tasks = q.tasks ∙ p.tasks;
  flaw = flaw_both a b i j k q.ahead p.tasks p.flaw q.flaw;
}

took_tasks : {i j : Input} {notes : List Noted} → Took i j notes → TookTasks i j notes
took_tasks t = record { ahead = t.ahead; unbroken = t.unbroken; tasks = t.tasks; flaw = t.flaw }

pub keyword_by_sound : (ts : List Tok) (i j : Input) (u : Unit {0}) → i.ahead ≡ ts → task_keyword_by (first ts) i ≡ Ok (
  u,
  j,
) → (j ≡ next i) × TookTasks i (next i) (key k.Task ∷ [])
keyword_by_sound (toks.Key k.Task ∷ rest) i j u e h = (
  sym (ap (λ r. r.1) (ok_inj (tt, next i) (u, j) h)),
  record {
    ahead = let after : (next i).ahead ≡ rest = ap (λ ts. drop 1 ts) e in e ∙ ap (λ ts. toks.Key k.Task ∷ ts) (sym
        after);
    unbroken = (λ b l. cc, tt);
    tasks = refl;
    flaw = sym (first_flaw-none i.flaw);
  },
)
keyword_by_sound ts i j u e h = absurd (cc)

-- a whole task, and the parts of it that a reader of heads looks at
pub record GotTask (earlier : List Name) (i j : Input) (t : Task) : Type 0 where
  pub ps : List Noted
  pub body : List Noted
  pub count : List Name
  pub note : Note
  pub free : breach_of most_tasks earlier t.name ≡ None
  pub took : TookTasks i j (key k.Task ∷ ((toks.Name t.name, note) ∷ (mark m.ParenOpen ∷ (ps ++ (mark m.ParenClose ∷
      body)))))
  pub vars : j.vars ≡ []
  pub params : t.params ≡ length count
  pub noted : note ≡ declares t.params
  pub is_params : IsParams ps count
  pub calm : AreCalm (mark m.ParenOpen ∷ (ps ++ (mark m.ParenClose ∷ body)))
  pub right : IsTask (names_of i.tasks) earlier (key k.Task ∷ ((toks.Name t.name, note) ∷ (mark m.ParenOpen ∷ (ps ++
      (mark m.ParenClose ∷ body))))) t

name_flaw : (heads : List Head) (f : Name) (n : ℕ) (left : ℕ) → note_flaw heads (toks.Name f, declares n) left ≡ None
name_flaw heads f n left = refl

pub task_sound : (earlier : List Name) (i j : Input) (t : Task) → i.vars ≡ [] → task earlier i ≡ Ok (t, j) → GotTask
    earlier i j t
unfolding task task_keyword
task_sound earlier i j t none h =
    let word = bind_ok (task_keyword i) _ t j h in
    let begin = keyword_by_sound i.ahead i word.1 word.0 refl word.2 in
    let read = bind_ok (fresh most_tasks earlier word.1) _ t j word.3 in
    let f = read.0 in
    let name = fresh_sound most_tasks earlier word.1 read.1 f read.2 in
    let vars : read.1.vars ≡ [] = ap (λ (l : Input). l.vars) name.there ∙ ap (λ (l : Input). l.vars) begin.0 ∙ none in
    let got = task_behind_sound f read.1 j t vars read.3 in
    let inner = mark m.ParenOpen ∷ (got.ps ++ (mark m.ParenClose ∷ got.body)) in
    let free = declared_right most_tasks earlier f name.free in
    let note = declaration most_tasks earlier f (declares (length got.count)) in
    let is_declares : note ≡ declares (length got.count) = free (declares (length got.count)) in
    let named : TookTasks word.1 (next word.1) ((toks.Name f, note) ∷ []) =
    subst (λ n. TookTasks word.1 (next word.1) ((toks.Name f, n) ∷ [])) (sym is_declares) (record {
      ahead = let after : (next word.1).ahead ≡ name.rest = ap (λ ts. drop 1 ts) name.ahead in name.ahead ∙ ap (λ ts.
          toks.Name f ∷ ts) (sym after);
      unbroken = (λ b l. cc, tt);
      tasks = refl;
      flaw = sym (first_flaw-none word.1.flaw);
    }) in
    let named' : TookTasks word.1 read.1 ((toks.Name f, note) ∷ []) = subst (λ l. TookTasks word.1 l ((
      toks.Name f,
      note,
    ) ∷ [])) (sym name.there) named in
    let begin' : TookTasks i word.1 (key k.Task ∷ []) = subst (λ l. TookTasks i l (key k.Task ∷ [])) (sym begin.0)
    begin.1 in
    let whole : TookTasks i j (key k.Task ∷ ((toks.Name f, note) ∷ inner)) = tasks_both begin' (tasks_both named'
    (took_tasks got.took)) in
    let tasks : read.1.tasks ≡ i.tasks = named'.tasks ∙ begin'.tasks in
    let made : Task = record { name = f; params = length got.count; vars = got.last; body = got.statements } in
    let right : IsTask (names_of i.tasks) earlier (key k.Task ∷ ((toks.Name f, note) ∷ inner)) made =
    g.task f got.is_params (subst (λ ts. IsBlock (names_of ts) most_levels got.count got.body got.statements got.last)
    tasks got.is_body) in
    subst (λ s. GotTask earlier i j s) (sym got.is)
    (record {
      ps = got.ps;
      body = got.body;
      count = got.count;
      note = note;
      free = name.free;
      took = whole;
      vars =
          got.vars;
      params = refl;
      noted = is_declares;
      is_params = got.is_params;
      calm = got.took.calm;
      right = right;
    })
