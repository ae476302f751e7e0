-- The generated text is a script, and its own listing.
use Rattle.tj_modes.proofs.Prelude.{AllByRecursion, AreFine, AreTokens, CanStand, IsGenerated, IsScript, List, Noted}
use Rattle.tj_modes.proofs.Prelude.{Task, Tok, [], arith, fine-append, generated_script, greatest_number, main_task}
use Rattle.tj_modes.proofs.Prelude.{refl, subst, ℕ, ◌++◌, ◌∷◌, ◌≤◌}
use Rattle.tj_syntax.specs.Grammar.{tasks_more, tasks_end}
use Rattle.tj_syntax.specs.Faults.{tokens_of}
use Rattle.tj_syntax.proofs.Listed.Back.{says_again}
use Rattle.tj_syntax.proofs.Listed.Script.{forks_right, unbroken}
use Rattle.tj_modes.proofs.GeneratedScripts.Text.{listed}
use Rattle.tj_modes.proofs.GeneratedScripts.Short.{short}
use Rattle.tj_modes.proofs.GeneratedScripts.Tasks.{main_sound, node_sound}
use Rattle.tj_lex.specs.declared.token.Tok.TheVariants as toks

stand : (script : List Task) (notes : List Noted) → AreFine script notes
    → AllByRecursion CanStand (tokens_of notes ++ toks.End ∷ [])
stand script [] h = (tt, tt)
stand script (n ∷ notes) h = (h.0.stands, stand script notes h.1)

-- some tokens that a text can have are the script
record Spelled (size : ℕ) : Type 0 where
  tokens : List Tok
  stands : AllByRecursion CanStand tokens
  is : IsScript tokens (generated_script size)

spelled : (size : ℕ) → size ≤ greatest_number → Spelled size
spelled size h =
    let script = generated_script size in
    let first = main_sound size h in
    let second = node_sound size in
    let notes = first.notes ++ (second.notes ++ []) in
    let all_fine = fine-append script first.notes (second.notes ++ []) first.all_fine
    (fine-append script second.notes [] second.all_fine tt) in
    record {
      tokens = tokens_of notes ++ toks.End ∷ [];
      stands = stand script notes all_fine;
      is = record {
        notes = notes;
        derived = tasks_more first.right (tasks_more second.right tasks_end);
        spells = refl;
        unbroken = unbroken script notes all_fine;
        forks_right = forks_right script notes all_fine;
        main = main_task size;
        has_main = refl;
        no_params = refl;
      };
    }

pub is_generated : (size : ℕ) → size ≤ 4000 → IsGenerated size
is_generated size h =
    let from = spelled size (omega arith) in
    let says = says_again from.tokens (generated_script size) from.stands from.is in
    record {
      short = short size h;
      tokens = says.tokens;
      has = subst (λ text. AreTokens text says.tokens) (listed size) says.has;
      is = says.is;
      listed = listed size;
    }
