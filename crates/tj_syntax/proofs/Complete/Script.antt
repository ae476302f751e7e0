-- Each script is read as the one that it is, so that a list of tokens is one script at most.
use Rattle.std.proofs.Common.{◌≡◌, ℕ, suc, ◌+◌, List, [], ◌∷◌, ◌++◌, length, map, Option, Some, None, option_map, Ok}
use Rattle.std.proofs.Common.{refl, ap, sym, ◌∙◌, subst, arith, codes}
use Rattle.std.proofs.lemmas.List.{append-nil}
use Rattle.tj_lex.specs.declared.token.Tok.{Tok}
use Rattle.tj_lex.specs.declared.token.Tok.TheVariants as toks
use Rattle.tj_syntax.specs.declared.fault.Breach.{Breach}
use Rattle.tj_syntax.specs.declared.fault.Stop.TheVariants as stop
use Rattle.tj_syntax.specs.Trees.{Task}
use Rattle.tj_syntax.specs.Marks.{Note, Noted, fine, broken, forks, declares}
use Rattle.tj_syntax.specs.Grammar.{IsProgram}
use Rattle.tj_syntax.specs.Faults.{tokens_of, AreUnbroken, IsScript, fork_of, fork_breach, task_named, AreForksRight}
use Rattle.tj_syntax.specs.Inner.Input.{Head, Input, Outcome, names_of, heads_from, flaw_at, head_named, first_flaw}
use Rattle.tj_syntax.specs.Inner.Reading.{tasks_from, tasks}
use Rattle.tj_syntax.proofs.Taken.{note_flaw, flaw_after, ok_inj, length-tokens_of}
use Rattle.tj_syntax.proofs.Sound.Script.{AreHeads, names_from_pairs, head_params, tasks_from_sound, start_of}
use Rattle.tj_syntax.proofs.Sound.Script.{flaw_breach}
use Rattle.tj_syntax.proofs.Complete.Steps.{at, fault_in, note_fault}
use Rattle.tj_syntax.proofs.Complete.Task.{tasks_reads}

unbroken_fault : (n : Note) (left : ℕ) → ((b : Breach) → n ≡ broken b → ⊥) → note_fault n left ≡ None
unbroken_fault fine left h = refl
unbroken_fault (broken b) left h = absurd (h b refl)
unbroken_fault (forks count) left h = refl
unbroken_fault (declares count) left h = refl

pub no_fault : (notes : List Noted) (left : ℕ) → AreUnbroken notes → fault_in notes left ≡ None
no_fault [] left h = refl
no_fault (n ∷ notes) left h =
    ap (λ o. first_flaw o (fault_in notes left)) (unbroken_fault n.1 (suc (length notes + left)) h.0)
    ∙ no_fault notes left h.1

-- heads that these tasks could have
abbrev pub some_head : Task → Head
some_head t = record { name = t.name; params = t.params; left = 0 }

pub some_names : (script : List Task) → map (λ (t : Task). t.name) script ≡ names_of (map some_head script)
some_names [] = refl
some_names (t ∷ script) = ap (λ ns. t.name ∷ ns) (some_names script)

-- the tasks are read, whatever heads of these names are known
pub tasks_read : (heads : List Head) (notes : List Noted) (script : List Task)
    → map (λ (t : Task). t.name) script ≡ names_of heads → IsProgram notes script
    → AreUnbroken notes
    → ◌≡◌ {A = Outcome (List Task)} (tasks (at heads (tokens_of notes) [] None))
    (Ok (script, at heads [] [] (flaw_after heads notes 0 None)))
unfolding tasks
tasks_read heads notes script names derived whole =
    let size : length (tokens_of notes) ≡ length notes = length-tokens_of notes in
    let d = tasks_reads heads (map (λ (t : Task). t.name) script) names derived (length (tokens_of notes))
    (omega arith) [] refl None in
    subst (λ ts. ◌≡◌ {A = Outcome (List Task)} (tasks_from (length (tokens_of notes)) [] (at heads ts [] None))
    (Ok (script, at heads [] [] (flaw_after heads notes 0 None))))
    (append-nil (tokens_of notes))
    (subst (λ f. ◌≡◌ {A = Outcome (List Task)}
    (tasks_from (length (tokens_of notes)) [] (at heads (tokens_of notes ++ []) [] None))
    (Ok (script, at heads [] [] f)))
    (sym d.done.forks) (d.done.does.reads (no_fault notes 0 whole)))

-- the heads are those of the script
pub script_heads : (notes : List Noted) (script : List Task) → IsProgram notes script → AreUnbroken notes
    → AreHeads (heads_from [] (tokens_of notes)) script
unfolding tasks
script_heads notes script derived whole =
    let heads = map some_head script in
    let read = tasks_read heads notes script (some_names script) derived whole in
    let got = tasks_from_sound (length (tokens_of notes)) [] script (at heads (tokens_of notes) [] None) _ refl read in
    let same : tokens_of notes ≡ tokens_of got.notes = got.took.ahead ∙ append-nil (tokens_of got.notes) in
    subst (λ ts. AreHeads (heads_from [] ts) script) (sym same) (got.heads [] refl)

flaw_none : (h : Option Head) (t : Option Task) (left count : ℕ)
    → option_map (λ (x : Head). x.params) h ≡ option_map (λ (x : Task). x.params) t
    → fork_of t count ≡ None → flaw_at h left count ≡ None
flaw_none h t left count e right =
    flaw_breach h t left count e ∙ ap (option_map (λ b. stop.Broken b left)) right

note_none : (heads : List Head) (script : List Task) → AreHeads heads script → (n : Noted) (left : ℕ)
    → fork_breach script n ≡ None → note_flaw heads n left ≡ None
note_none heads script e (toks.Name f, forks count) left h =
    flaw_none (head_named heads f) (task_named script f) left count (head_params heads script e f) h
note_none heads script e (t, note) left h = refl

pub forks_none : (heads : List Head) (script : List Task) → AreHeads heads script → (notes : List Noted) (left : ℕ)
    → AreForksRight script notes
    → flaw_after heads notes left None ≡ None
forks_none heads script e [] left h = refl
forks_none heads script e (n ∷ notes) left h =
    ap (λ o. flaw_after heads notes left o) (note_none heads script e n (suc (length notes + left)) h.0)
    ∙ forks_none heads script e notes left h.1

main_head : (o : Option Head) (n : ℕ) → option_map (λ (h : Head). h.params) o ≡ Some n
    → (h : Head) × (o ≡ Some h) × (h.params ≡ n)
main_head None n e = absurd (cc)
main_head (Some h) n e = (h, refl, let same : h.params ≡ n = cc in same)

pub last_cancel : (a b : List Tok) (t : Tok) → a ++ t ∷ [] ≡ b ++ t ∷ [] → a ≡ b
last_cancel [] [] t h = refl
last_cancel [] (y ∷ []) t h = absurd (cc)
last_cancel [] (y ∷ z ∷ b) t h = absurd (cc)
last_cancel (x ∷ []) [] t h = absurd (cc)
last_cancel (x ∷ z ∷ a) [] t h = absurd (cc)
last_cancel (x ∷ a) (y ∷ b) t h =
    let first : x ≡ y = cc in
    let rest : a ++ t ∷ [] ≡ b ++ t ∷ [] = cc in
    ap (λ z. z ∷ a) first ∙ ap (λ l. y ∷ l) (last_cancel a b t rest)

-- what is read of the tokens of a script
pub record ReadsScript (ts : List Tok) (script : List Task) : Type 0 where
  pub behind : Input
  pub reads : tasks (start_of ts) ≡ Ok (script, behind)
  pub no_flaw : behind.flaw ≡ None
  pub main : Head
  pub has_main : head_named (heads_from [] ts) (codes "main") ≡ Some main
  pub no_params : main.params ≡ 0

pub script_reads : (ts : List Tok) (script : List Task) → IsScript (ts ++ toks.End ∷ []) script → ReadsScript ts script
script_reads ts script is =
    let same : ts ≡ tokens_of is.notes = last_cancel ts (tokens_of is.notes) toks.End is.spells in
    let of_notes : AreHeads (heads_from [] (tokens_of is.notes)) script =
    script_heads is.notes script is.derived is.unbroken in
    let heads = heads_from [] (tokens_of is.notes) in
    let read = tasks_read heads is.notes script (sym (names_from_pairs heads script of_notes)) is.derived is.unbroken in
    let params : option_map (λ (h : Head). h.params) (head_named heads (codes "main")) ≡ Some 0 =
    head_params heads script of_notes (codes "main") ∙ ap (λ o. option_map (λ (t : Task). t.params) o) is.has_main
    ∙ ap (λ n. Some n) is.no_params in
    let main = main_head (head_named heads (codes "main")) 0 params in
    subst (λ l. ReadsScript l script) (sym same) (record {
      behind = at heads [] [] (flaw_after heads is.notes 0 None);
      reads = read;
      no_flaw = forks_none heads script of_notes is.notes 0 is.forks_right;
      main = main.0;
      has_main = main.1;
      no_params = main.2;
    })

-- a list of tokens is one script at most
pub one_script : (tokens : List Tok) (a b : List Task) → IsScript tokens a → IsScript tokens b → a ≡ b
one_script tokens a b p q =
    let ts = tokens_of p.notes in
    let r = script_reads ts a (subst (λ l. IsScript l a) p.spells p) in
    let s = script_reads ts b (subst (λ l. IsScript l b) p.spells q) in
    ap (λ o. o.0) (ok_inj (a, r.behind) (b, s.behind) (sym r.reads ∙ s.reads))
