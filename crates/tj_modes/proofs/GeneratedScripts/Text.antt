-- The listing of the generated script is the generated text.
use Rattle.tj_modes.proofs.Prelude.{List, Name, Statement, [], ap, codes, flat_map, flat_map-append, generated_script}
use Rattle.tj_modes.proofs.Prelude.{head_statements, main_task, main_vars, map, node_task, refl, statements_of}
use Rattle.tj_modes.proofs.Prelude.{step_statements, steps_statements, suc, sym, tail_statements, ℕ, ◌∙◌, ◌∷◌, ◌≡◌}
use Rattle.std.proofs.Common.{zero, ◌++◌, decimal, append_assoc, lit<}
use Rattle.std.proofs.lemmas.List.{map-append}
use Rattle.std.proofs.lemmas.Fmt.{decimal_digit}
use Rattle.tj_syntax.specs.Listing.{Part, blanks, mark, text_of, line_end}
use Rattle.tj_syntax.proofs.Listed.Views.{text_append}
use Rattle.tj_gen.specs.Script.{step_lines, steps_lines, tail_lines, ended, script_text}
use Rattle.tj_lex.specs.declared.token.Mark.TheVariants as m
use Rattle.tj_syntax.specs.Listing as listing

-- the indent of the statements of a task
abbrev indent : List ℕ
indent = codes "  "

-- the line of a statement
abbrev line_of : (tasks vars : List Name) → Statement → List ℕ
line_of tasks vars s = indent ++ text_of (listing.statement tasks vars indent s)

-- the bytes of statements, line by line
statements_text : (tasks vars : List Name) (some : List Statement)
    → text_of (listing.lines tasks vars indent (statements_of some)) ≡ flat_map ended (map (line_of tasks vars) some)
statements_text tasks vars [] = refl
statements_text tasks vars (s ∷ rest) =
    let parts = listing.statement tasks vars indent s in
    let more = listing.lines tasks vars indent (statements_of rest) in
    ap (λ bytes. indent ++ bytes)
    (text_append parts (line_end ∷ more)
    ∙ ap (λ bytes. text_of parts ++ (10 ∷ bytes)) (statements_text tasks vars rest)
    ∙ sym (append_assoc (text_of parts) (10 ∷ []) (flat_map ended (map (line_of tasks vars) rest))))

-- what stands behind the brace of a task
behind_brace : (inner : List Part)
    → text_of ((inner ++ blanks [] ∷ mark m.BraceClose ∷ []) ++ line_end ∷ []) ≡ text_of inner ++ codes "}\n"
behind_brace inner =
    text_append (inner ++ blanks [] ∷ mark m.BraceClose ∷ []) (line_end ∷ [])
    ∙ ap (λ bytes. bytes ++ codes "\n") (text_append inner (blanks [] ∷ mark m.BraceClose ∷ []))
    ∙ append_assoc (text_of inner) (codes "}") (codes "\n")

-- ---- the lines of `main`

abbrev tasks : List Name
tasks = codes "main" ∷ codes "node" ∷ []

abbrev line : Statement → List ℕ
line = line_of tasks main_vars

step_line : (i : ℕ) → map line (step_statements i) ≡ step_lines i
step_line i = refl

steps_line : (size : ℕ) → map line (steps_statements size) ≡ steps_lines size
steps_line zero = refl
steps_line (suc i) =
    map-append line (steps_statements i) (step_statements (suc i))
    ∙ ap (λ ls. ls ++ map line (step_statements (suc i))) (steps_line i)
    ∙ ap (λ ls. steps_lines i ++ ls) (step_line (suc i))

-- the lines behind the steps, up to the brace, and from the brace on
abbrev own_tail : List (List ℕ)
own_tail = codes "  set a = 0;" ∷ codes "  let v = get p;" ∷ codes "  print v;" ∷ codes "  return v;" ∷ []

abbrev end_lines : List (List ℕ)
end_lines =
    codes "}" ∷ codes "task node(i, p, q) {" ∷ codes "  let v = get p;" ∷ codes "  set q = v + i;"
    ∷ codes "  return i;" ∷ codes "}" ∷ []

abbrev with_head : List (List ℕ) → List (List ℕ)
with_head ls = codes "  let a = new;" ∷ codes "  let p = a;" ∷ codes "  let q = 0;" ∷ codes "  let t = 0;" ∷ ls

-- where a line has the number 0
zero_text : decimal 0 ≡ codes "0"
zero_text = decimal_digit 0 (lit< tt)

head_line : map line head_statements ≡ with_head []
head_line =
    ap (λ zero. codes "  let a = new;" ∷ codes "  let p = a;" ∷ (codes "  let q = " ++ (zero ++ codes ";"))
    ∷ (codes "  let t = " ++ (zero ++ codes ";")) ∷ []) zero_text

tail_line : map line tail_statements ≡ own_tail
tail_line =
    ap (λ zero. (codes "  set a = " ++ (zero ++ codes ";")) ∷ codes "  let v = get p;" ∷ codes "  print v;"
    ∷ codes "  return v;" ∷ []) zero_text

main_lines : (size : ℕ)
    → map line (head_statements ++ (steps_statements size ++ tail_statements))
    ≡ with_head (steps_lines size ++ own_tail)
main_lines size =
    ap (λ ls. ls ++ map line (steps_statements size ++ tail_statements)) head_line
    ∙ ap with_head (map-append line (steps_statements size) tail_statements
    ∙ ap (λ ls. map line (steps_statements size) ++ ls) tail_line ∙ ap (λ ls. ls ++ own_tail) (steps_line size))

main_text : (size : ℕ)
    → text_of (listing.task tasks (main_task size))
    ≡ codes "task main() {\n" ++ (flat_map ended (with_head (steps_lines size ++ own_tail)) ++ codes "}\n")
main_text size =
    let some = head_statements ++ (steps_statements size ++ tail_statements) in
    ap (λ bytes. codes "task main() {\n" ++ bytes)
    (behind_brace (listing.lines tasks main_vars indent (statements_of some))
    ∙ ap (λ bytes. bytes ++ codes "}\n")
    (statements_text tasks main_vars some ∙ ap (flat_map ended) (main_lines size)))

-- the lines up to the brace and those from there on are all lines
all_lines : (size : ℕ)
    → flat_map ended (with_head (steps_lines size ++ own_tail)) ++ flat_map ended end_lines
    ≡ flat_map ended (with_head (steps_lines size ++ tail_lines))
all_lines size =
    sym (flat_map-append ended (with_head (steps_lines size ++ own_tail)) end_lines)
    ∙ ap (λ ls. flat_map ended (with_head ls)) (append_assoc (steps_lines size) own_tail end_lines)

-- the text is the listing
pub listed : (size : ℕ) → listing.listing (generated_script size) ≡ script_text size
listed size =
    let body = flat_map ended (with_head (steps_lines size ++ own_tail)) in
    text_append (listing.task tasks (main_task size)) (listing.task tasks node_task ++ [])
    ∙ ap (λ bytes. bytes ++ text_of (listing.task tasks node_task ++ [])) (main_text size)
    ∙ ap (λ bytes. codes "task main() {\n" ++ bytes)
    (append_assoc body (codes "}\n") (text_of (listing.task tasks node_task ++ [])) ∙ all_lines size)
