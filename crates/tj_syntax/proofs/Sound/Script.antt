-- What is read as a whole script is one, whose tasks are those of the heads.
use Rattle.std.proofs.Common.{◌≡◌, ℕ, zero, suc, ◌+◌, Bool, true, false, cond, nat_eq, is_some, List, [], ◌∷◌, ◌++◌}
use Rattle.std.proofs.Common.{length, map, slice_get, Option, Some, None, option_map, Ok, refl, ap, sym, ◌∙◌, subst}
use Rattle.std.proofs.Common.{arith, eqb-true, append_assoc, length-append, ⊎_elim, codes}
use Rattle.std.specs.List.{AllByRecursion}
use Rattle.std.proofs.lemmas.List.{append-nil}
use Rattle.tj_lex.specs.declared.token.Tok.{Tok}
use Rattle.tj_lex.specs.declared.token.Tok.TheVariants as toks
use Rattle.tj_lex.specs.declared.token.Key.TheVariants as k
use Rattle.tj_lex.specs.declared.token.Mark.TheVariants as m
use Rattle.tj_syntax.specs.declared.fault.Breach.{Breach}
use Rattle.tj_syntax.specs.declared.fault.Breach.TheVariants.{Count}
use Rattle.tj_syntax.specs.declared.fault.Stop.{Stop}
use Rattle.tj_syntax.specs.declared.fault.Stop.TheVariants as stop
use Rattle.tj_syntax.specs.Trees.{Task}
use Rattle.tj_syntax.specs.Marks.{Name, Noted, forks, declares, key, mark, index_of, most_tasks}
use Rattle.tj_syntax.specs.Grammar as g
use Rattle.tj_syntax.specs.Grammar.{IsMoreParams, IsParams, IsTasks, IsProgram}
use Rattle.tj_syntax.specs.Faults.{tokens_of, AreUnbroken, IsScript, task_named, task_at, fork_of, fork_breach}
use Rattle.tj_syntax.specs.Faults.{AreForksRight, main_of}
use Rattle.tj_syntax.specs.Inner.Input.{Head, Input, Outcome, and_then, refuse, names_of, count_params, with_head}
use Rattle.tj_syntax.specs.Inner.Input.{with_front, heads_from, breach_of, flaw_at, head_at, head_named, first_flaw}
use Rattle.tj_syntax.specs.Inner.Reading.{task, tasks_from, tasks}
use Rattle.tj_syntax.proofs.Taken.{bind_ok, if_ok, landed, is_task, AreCalm, flaw_after, note_flaw, tokens_of-append}
use Rattle.tj_syntax.proofs.Taken.{length-tokens_of}
use Rattle.tj_syntax.proofs.Sound.Task.{TookTasks, tasks_both, GotTask, task_sound}

-- ---- heads

abbrev pub head_pair : Head → Name × ℕ
head_pair h = (h.name, h.params)

abbrev pub task_pair : Task → Name × ℕ
task_pair t = (t.name, t.params)

-- the heads are those of these tasks
abbrev pub AreHeads : List Head → List Task → Type 0
AreHeads heads script = map head_pair heads ≡ map task_pair script

pub names_from_pairs : (heads : List Head) (script : List Task) → AreHeads heads script → names_of heads ≡ map (λ t.
    t.name) script
names_from_pairs [] [] e = refl
names_from_pairs [] (t ∷ script) e = absurd (cc)
names_from_pairs (h ∷ heads) [] e = absurd (cc)
names_from_pairs (h ∷ heads) (t ∷ script) e =
    let first : head_pair h ≡ task_pair t = cc in
    let rest : map head_pair heads ≡ map task_pair script = cc in
    let same : h.name ≡ t.name = ap (λ p. p.0) first in
    ap (λ n. n ∷ names_of heads) same ∙ ap (λ ns. t.name ∷ ns) (names_from_pairs heads script rest)

params_from_pairs : (heads : List Head) (script : List Task) → AreHeads heads script → (n : ℕ)
    → option_map (λ (h : Head). h.params) (slice_get heads n) ≡ option_map (λ (t : Task). t.params) (slice_get script n)
params_from_pairs [] [] e n = refl
params_from_pairs [] (t ∷ script) e n = absurd (cc)
params_from_pairs (h ∷ heads) [] e n = absurd (cc)
params_from_pairs (h ∷ heads) (t ∷ script) e zero = let first : head_pair h ≡ task_pair t = cc in ap (λ p. Some p.1)
    first
params_from_pairs (h ∷ heads) (t ∷ script) e (suc n) = let rest : map head_pair heads ≡ map task_pair script = cc in
    params_from_pairs heads script rest n

pub with_head-fresh : (old : List Head) (f : Name) (rest : List Tok) → breach_of most_tasks (names_of old) f ≡ None
    → with_head old f rest ≡ old ++ record { name = f; params = count_params rest; left = suc (length rest) } ∷ []
with_head-fresh old f rest h =
    let longer = old ++ record { name = f; params = count_params rest; left = suc (length rest) } ∷ [] in
    ap (λ (o : Option Breach). cond (is_some o) old longer) h

-- no head stands where no task begins
calm_front : (found : List Head) (t : Tok) (rest : List Tok) → is_task t ≡ false → with_front found (t ∷ rest) ≡ found
calm_front found (toks.Key k.Task) rest h = absurd (cc)
calm_front found t rest h = refl

pub calm_heads : (notes : List Noted) (found : List Head) (rest : List Tok) → AreCalm notes
    → heads_from found (tokens_of
    notes ++ rest) ≡ heads_from found rest
unfolding heads_from
calm_heads [] found rest calm = refl
calm_heads (n ∷ notes) found rest calm =
    ap (λ old. heads_from old (tokens_of notes ++ rest)) (calm_front found n.0 (tokens_of notes ++ rest) calm.0) ∙
    calm_heads notes found rest calm.1

count_more : {earlier all : List Name} {notes : List Noted} → IsMoreParams earlier notes all → (rest : List Tok)
    → count_params (tokens_of notes ++ (toks.Mark m.ParenClose ∷ rest)) + length earlier ≡ length all
count_more g.params_end rest = omega arith
count_more (g.params_more {earlier = earlier} x more) rest =
    let e = count_more more rest in
    let longer : length (earlier ++ x ∷ []) ≡ length earlier + 1 = length-append earlier (x ∷ []) in
    omega arith

pub count_all : {all : List Name} {notes : List Noted} → IsParams notes all → (rest : List Tok)
    → count_params (tokens_of notes ++ (toks.Mark m.ParenClose ∷ rest)) ≡ length all
count_all g.no_params rest = refl
count_all (g.params x more) rest = let e = count_more more rest in omega arith

-- a task adds its head
head_step : (found : List Task) (earlier : List Name) (i j : Input) (t : Task) (got : GotTask earlier i j t) → map (λ
    s. s.name) found ≡ earlier
    → (old : List Head) (rest : List Tok) → AreHeads old found
    → (h : Head) × (heads_from old (tokens_of (key k.Task ∷ ((toks.Name t.name, got.note) ∷ (mark m.ParenOpen ∷
    (got.ps ++ (mark m.ParenClose ∷ got.body))))) ++ rest) ≡ heads_from (old ++ h ∷ []) rest)
    × (head_pair h ≡ task_pair t) × (h.left ≡ suc (length (tokens_of (mark m.ParenOpen ∷ (got.ps ++ (mark m.ParenClose ∷
    got.body))) ++ rest)))
unfolding heads_from
head_step found earlier i j t got names old rest heads =
    let inner = mark m.ParenOpen ∷ (got.ps ++ (mark m.ParenClose ∷ got.body)) in
    let more = tokens_of inner ++ rest in
    let same : names_of old ≡ earlier = names_from_pairs old found heads ∙ names in
    let free : breach_of most_tasks (names_of old) t.name ≡ None = subst (λ ns. breach_of most_tasks ns t.name ≡ None)
    (sym same) got.free in
    let pushed = with_head-fresh old t.name more free in
    let count : count_params more ≡ t.params =
    ap count_params (ap (λ ts. toks.Mark m.ParenOpen ∷ (ts ++ rest)) (tokens_of-append got.ps (mark m.ParenClose ∷
    got.body))
    ∙ ap (λ ts. toks.Mark m.ParenOpen ∷ ts) (append_assoc (tokens_of got.ps) (toks.Mark m.ParenClose ∷ tokens_of
    got.body) rest))
    ∙ count_all got.is_params (tokens_of got.body ++ rest) ∙ sym got.params in (
      record { name = t.name; params = count_params more; left = suc (length more) },
      ap (λ hs. heads_from hs more) pushed ∙ calm_heads inner (old ++ record {
        name = t.name;
        params = count_params
            more;
        left = suc (length more);
      } ∷ []) rest got.calm,
      ap (λ n. (t.name, n)) count,
      refl,
    )

heads_push : (old : List Head) (found : List Task) (h : Head) (t : Task) → AreHeads old found → head_pair h ≡
    task_pair t → AreHeads (old ++ h ∷ []) (found ++ t ∷ [])
heads_push [] [] h t e p = ap (λ x. x ∷ []) p
heads_push [] (s ∷ found) h t e p = absurd (cc)
heads_push (o ∷ old) [] h t e p = absurd (cc)
heads_push (o ∷ old) (s ∷ found) h t e p =
    let first : head_pair o ≡ task_pair s = cc in
    let rest : map head_pair old ≡ map task_pair found = cc in
    ap (λ x. x ∷ map head_pair (old ++ h ∷ [])) first ∙ ap (λ xs. task_pair s ∷ xs) (heads_push old found h t rest p)

-- the head is that of a task whose name stands among the notes, with so many of them from there on
pub record IsHeadIn (notes : List Noted) (h : Head) : Type 0 where
  pub before : List Noted
  pub after : List Noted
  pub is : notes ≡ before ++ (toks.Name h.name, declares h.params) ∷ after
  pub left : h.left ≡ suc (length after)

-- each of the heads is
abbrev pub AreHeadsIn : List Noted → List Head → Type 0
AreHeadsIn notes = AllByRecursion (IsHeadIn notes)

heads_in-push : (notes : List Noted) (heads : List Head) (h : Head) → AreHeadsIn notes heads → IsHeadIn notes h
    → AreHeadsIn notes (heads ++ h ∷ [])
heads_in-push notes [] h all one = (one, tt)
heads_in-push notes (g ∷ heads) h all one = (all.0, heads_in-push notes heads h all.1 one)

-- the head of a task that was read behind some notes and in front of others
head_in : {earlier : List Name} {i j : Input} {t : Task} (got : GotTask earlier i j t) (done rest : List Noted)
    (h : Head) → head_pair h ≡ task_pair t
    → h.left ≡ suc (length (tokens_of (mark m.ParenOpen ∷ (got.ps ++ (mark m.ParenClose ∷ got.body))) ++ tokens_of
    rest))
    → IsHeadIn (done ++ ((key k.Task ∷
    ((toks.Name t.name, got.note) ∷ (mark m.ParenOpen ∷ (got.ps ++ (mark m.ParenClose ∷ got.body))))) ++ rest)) h
head_in {t = t} got done rest h same left =
    let inner = mark m.ParenOpen ∷ (got.ps ++ (mark m.ParenClose ∷ got.body)) in
    let note : ◌≡◌ {A = Noted} (toks.Name t.name, got.note) (toks.Name h.name, declares h.params) =
    ap (λ n. (toks.Name t.name, n)) got.noted ∙ ap (λ p. (toks.Name p.0, declares p.1)) (sym same) in
    record {
      before = done ++ key k.Task ∷ [];
      after = inner ++ rest;
      is = ap (λ n. done ++ key k.Task ∷ (n ∷ (inner ++ rest))) note
          ∙ sym (append_assoc done (key k.Task ∷ []) ((toks.Name h.name, declares h.params) ∷ (inner ++ rest)));
      left = left ∙ ap (λ ts. suc (length ts)) (sym (tokens_of-append inner rest))
          ∙ ap suc (length-tokens_of (inner ++ rest));
    }

-- ---- tasks

-- tasks that were read up to the end, behind those found before
pub record MoreTasks (found result : List Task) (i j : Input) : Type 0 where
  pub more : List Task
  pub is : result ≡ found ++ more
  pub notes : List Noted
  pub took : TookTasks i j notes
  pub ended : j.ahead ≡ []
  pub right : IsTasks (names_of i.tasks) (map (λ t. t.name) found) notes more
  pub heads : (old : List Head) → AreHeads old found → AreHeads (heads_from old (tokens_of notes)) result
  pub heads_in : (old : List Head) (done : List Noted) → AreHeads old found → AreHeadsIn (done ++ notes) old
      → AreHeadsIn (done ++ notes) (heads_from old (tokens_of notes))

pub names-push : (found : List Task) (t : Task) → map (λ s. s.name) (found ++ t ∷ []) ≡ map (λ (s : Task). s.name) found
    ++ t.name ∷ []
names-push [] t = refl
names-push (s ∷ found) t = ap (λ ns. s.name ∷ ns) (names-push found t)

nothing_left : (ts : List Tok) → nat_eq (length ts) 0 ≡ true → ts ≡ []
nothing_left [] h = refl
nothing_left (t ∷ ts) h = absurd (omega (arith, eqb-true (length (t ∷ ts)) 0 h))

no_more_tasks : (found result : List Task) (i j : Input) → nat_eq (length i.ahead) 0 ≡ true → ◌≡◌ {A = Outcome (List
    Task)} (Ok (found, i)) (Ok (result, j)) → MoreTasks found result i j
unfolding heads_from
no_more_tasks found result i j none h =
    landed (λ r l. MoreTasks found r i l) found result i j h
    (record {
      more = [];
      is = sym (append-nil found);
      notes = [];
      took = record { ahead = refl; unbroken = tt; tasks = refl; flaw = refl };
      ended = nothing_left i.ahead none;
      right = g.tasks_end;
      heads = λ old e. e;
      heads_in = λ old done e all. all;
    })

pub tasks_from_sound : (n : ℕ) (found result : List Task) (i j : Input) → i.vars ≡ [] → tasks_from n found i ≡ Ok (
  result,
  j,
) → MoreTasks found result i j
unfolding tasks_from
tasks_from_sound zero found result i j none h =
    ⊎_elim
    (λ p. no_more_tasks found result i j p.0 p.1)
    (λ p. absurd (let e = p.1 in cc))
    (if_ok (nat_eq (length i.ahead) 0) (Ok (found, i)) (refuse i) (result, j) h)
tasks_from_sound (suc n) found result i j none h =
    ⊎_elim
    (λ p. no_more_tasks found result i j p.0 p.1)
    (λ p.
    let read = bind_ok (task (map (λ t. t.name) found) i) (λ t. tasks_from n (found ++ t ∷ [])) result j p.1 in
    let t = read.0 in
    let one = task_sound (map (λ s. s.name) found) i read.1 t none read.2 in
    let rest = tasks_from_sound n (found ++ t ∷ []) result read.1 j one.vars read.3 in
    let its = key k.Task ∷ ((toks.Name t.name, one.note) ∷ (mark m.ParenOpen ∷ (one.ps ++ (mark m.ParenClose ∷
    one.body)))) in
    record {
      more = t ∷ rest.more;
      is = rest.is ∙ append_assoc found (t ∷ []) rest.more;
      notes = its ++ rest.notes;
      took = tasks_both one.took rest.took;
      ended = rest.ended;
      right = g.tasks_more one.right
          (subst (λ ns. IsTasks (names_of i.tasks) ns rest.notes rest.more) (names-push found t)
          (subst (λ ts. IsTasks (names_of ts) (map (λ s. s.name) (found ++ t ∷ [])) rest.notes rest.more)
          one.took.tasks rest.right));
      heads = λ old e.
          let step = head_step found (map (λ s. s.name) found) i read.1 t one refl old (tokens_of rest.notes) e in
          let later = rest.heads (old ++ step.0 ∷ []) (heads_push old found step.0 t e step.2) in
          subst (λ hs. AreHeads hs result) (sym (ap (λ ts. heads_from old ts) (tokens_of-append its rest.notes) ∙
          step.1)) later;
      heads_in = λ old done e all.
          let step = head_step found (map (λ s. s.name) found) i read.1 t one refl old (tokens_of rest.notes) e in
          let more = heads_in-push (done ++ (its ++ rest.notes)) old step.0 all
          (head_in one done rest.notes step.0 step.2 step.3) in
          let joined : (done ++ its) ++ rest.notes ≡ done ++ (its ++ rest.notes) = append_assoc done its rest.notes in
          let later = rest.heads_in (old ++ step.0 ∷ []) (done ++ its) (heads_push old found step.0 t e step.2)
          (subst (λ ns. AreHeadsIn ns (old ++ step.0 ∷ [])) (sym joined) more) in
          subst (λ hs. AreHeadsIn (done ++ (its ++ rest.notes)) hs)
          (sym (ap (λ ts. heads_from old ts) (tokens_of-append its rest.notes) ∙
          step.1)) (subst (λ ns. AreHeadsIn ns (heads_from (old ++ step.0 ∷ []) (tokens_of rest.notes))) joined later);
    })
    (if_ok (nat_eq (length i.ahead) 0) (Ok (found, i)) (and_then (task (map (λ t. t.name) found) i) (λ t. tasks_from n
    (found ++ t ∷ []))) (result, j) h)

-- ---- forks

-- a name stands for the head of its task
pub head_params : (heads : List Head) (script : List Task) → AreHeads heads script → (f : Name)
    → option_map (λ (h : Head). h.params) (head_named heads f) ≡ option_map (λ (t : Task). t.params) (task_named
    script f)
head_params heads script e f =
    ap (λ ns. option_map (λ (h : Head). h.params) (head_at heads (index_of ns f))) (names_from_pairs heads script e)
    ∙ at (index_of (map (λ t. t.name) script) f)
  where
    at : (o : Option ℕ) → option_map (λ (h : Head). h.params) (head_at heads o) ≡ option_map (λ (t : Task). t.params)
        (task_at script o)
    at None = refl
    at (Some n) = params_from_pairs heads script e n

-- a fork of a task with as many parameters is as faulty for its head as for the task
pub flaw_breach : (h : Option Head) (t : Option Task) (left count : ℕ)
    → option_map (λ (x : Head). x.params) h ≡ option_map (λ (x : Task). x.params) t
    → flaw_at h left count ≡ option_map (λ b. stop.Broken b left) (fork_of t count)
flaw_breach None None left count e = refl
flaw_breach None (Some t) left count e = absurd (cc)
flaw_breach (Some h) None left count e = absurd (cc)
flaw_breach (Some h) (Some t) left count e =
    let same : h.params ≡ t.params = cc in
    ap (λ p. cond (nat_eq p count) None (Some (stop.Broken Count left))) same ∙ by (nat_eq t.params count) where
      by : (x : Bool) → cond x None (Some (stop.Broken Count left))
          ≡ option_map (λ b. stop.Broken b left) (cond x None (Some Count))
      by true = refl
      by false = refl

flaw_right : (h : Option Head) (t : Option Task) (left count : ℕ)
    → option_map (λ (x : Head). x.params) h ≡ option_map (λ (x : Task). x.params) t
    → flaw_at h left count ≡ None → fork_of t count ≡ None
flaw_right h t left count e flaw = none (fork_of t count) (sym (flaw_breach h t left count e) ∙ flaw) where
  none : (o : Option Breach) → option_map (λ b. stop.Broken b left) o ≡ None → o ≡ None
  none None k = refl
  none (Some b) k = absurd (cc)

pub note_right : (heads : List Head) (script : List Task) → AreHeads heads script → (n : Noted) (left : ℕ) → note_flaw
    heads n left ≡ None → fork_breach script n ≡ None
note_right heads script e (toks.Name f, forks count) left h = flaw_right (head_named heads f) (task_named script f)
    left count (head_params heads script e f) h
note_right heads script e (t, note) left h = refl

no_flaw : (a b : Option Stop) → first_flaw a b ≡ None → (a ≡ None) × (b ≡ None)
no_flaw None b h = (refl, h)
no_flaw (Some e) b h = absurd (cc)

pub forks_right : (heads : List Head) (script : List Task) → AreHeads heads script
    → (notes : List Noted) (left : ℕ) (flaw
    : Option Stop)
    → flaw_after heads notes left flaw ≡ None → (flaw ≡ None) × AreForksRight script notes
forks_right heads script e [] left flaw h = (h, tt)
forks_right heads script e (n ∷ notes) left flaw h =
    let rest = forks_right heads script e notes left (first_flaw flaw (note_flaw heads n (suc (length notes + left))))
    h in
    let parts = no_flaw flaw (note_flaw heads n (suc (length notes + left))) rest.0 in
    (parts.0, (note_right heads script e n (suc (length notes + left)) parts.1, rest.1))

-- ---- scripts

-- where reading begins
abbrev pub start_of : List Tok → Input
start_of ts = record { ahead = ts; vars = []; tasks = heads_from [] ts; flaw = None }

main_found : (o : Option Task) (n : ℕ) → Some n ≡ option_map (λ (t : Task). t.params) o → (t : Task) × (o ≡ Some t) ×
    (t.params ≡ n)
main_found None n e = absurd (cc)
main_found (Some t) n e = (t, refl, let same : n ≡ t.params = cc in sym same)

-- what is read up to the end: notes that break nothing, with what they are, the heads of their tasks and their first
-- fault of a fork
pub record ReadsTasks (ts : List Tok) (result : List Task) (j : Input) : Type 0 where
  pub notes : List Noted
  pub whole : ts ≡ tokens_of notes
  pub unbroken : AreUnbroken notes
  pub derived : IsProgram notes result
  pub heads : AreHeads (heads_from [] ts) result
  pub heads_in : AreHeadsIn notes (heads_from [] ts)
  pub flaw : j.flaw ≡ flaw_after (heads_from [] ts) notes 0 None

pub tasks_sound : (ts : List Tok) (result : List Task) (j : Input) → tasks (start_of ts) ≡ Ok (result, j)
    → ReadsTasks ts result j
unfolding tasks
tasks_sound ts result j h =
    let got = tasks_from_sound (length ts) [] result (start_of ts) j refl h in
    let whole : ts ≡ tokens_of got.notes = got.took.ahead ∙ ap (λ r. tokens_of got.notes ++ r) got.ended ∙ append-nil
    (tokens_of got.notes) in
    let heads : AreHeads (heads_from [] ts) result = subst (λ t. AreHeads (heads_from [] t) result) (sym whole)
    (got.heads [] refl) in
    let names : names_of (heads_from [] ts) ≡ map (λ t. t.name) result = names_from_pairs (heads_from [] ts) result
    heads in
    record {
      notes = got.notes;
      whole = whole;
      unbroken = got.took.unbroken;
      derived = subst (λ ns. IsTasks ns [] got.notes result) names
          (subst (λ r. IsTasks (names_of (heads_from [] ts)) [] got.notes
          r) (sym got.is) got.right);
      heads = heads;
      heads_in = subst (λ t. AreHeadsIn got.notes (heads_from [] t)) (sym whole) (got.heads_in [] [] refl tt);
      flaw = got.took.flaw ∙ ap (λ (r : List Tok). flaw_after (heads_from [] ts) got.notes (length r) None) got.ended;
    }

pub script_sound : (ts : List Tok) (result : List Task) (j : Input) (main : Head) → tasks (start_of ts) ≡ Ok (
  result,
  j,
) → j.flaw ≡ None
    → head_named (heads_from [] ts) (codes "main") ≡ Some main → main.params ≡ 0 → IsScript (ts ++ toks.End ∷ []) result
script_sound ts result j main h flaw has no_params =
    let got = tasks_sound ts result j h in
    let forks = forks_right (heads_from [] ts) result got.heads got.notes 0 None (sym got.flaw ∙ flaw) in
    let its_params : Some main.params ≡ option_map (λ (t : Task). t.params) (main_of result) =
    ap (λ o. option_map (λ (x : Head). x.params) o) (sym has) ∙ head_params (heads_from [] ts) result got.heads (codes
    "main") in
    let found = main_found (main_of result) main.params its_params in
    record {
      notes = got.notes;
      derived = got.derived;
      spells = ap (λ t. t ++ toks.End ∷ []) got.whole;
      unbroken = got.unbroken;
      forks_right = forks.1;
      main = found.0;
      has_main = found.1;
      no_params = found.2 ∙ no_params;
    }
