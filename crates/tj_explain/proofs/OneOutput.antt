-- Words and an input have one output at most, from the laws of the crates below.
use Rattle.std.proofs.Common.{Bool, List, Some, String, ap, cond, false, inl, inr, length, map, refl, subst, sym}
use Rattle.std.proofs.Common.{take, true, ℕ, ◌∙◌, ◌≡◌, []}
use Rattle.std.proofs.lemmas.List.{length-map}
use Rattle.std.specs.declared.alloc.Global.{Global}
use Rattle.tj_body.specs.Rounds.{meaning}
use Rattle.tj_command.specs.OneScript.{IsOneScript}
use Rattle.tj_command.specs.Statuses.{status_of}
use Rattle.tj_command.specs.declared.status.Status.{Status}
use Rattle.tj_command.specs.declared.status.Status.TheVariants.{Clean}
use Rattle.tj_syntax.specs.ScriptTexts.{most_bytes}
use Rattle.tj_eval.specs.Stands.{IsPlacedMain, PlacedState, placed}
use Rattle.tj_eval.specs.Statements.{task_of}
use Rattle.tj_lex.specs.declared.token.Tok.{Tok}
use Rattle.tj_lex.specs.declared.token.Token.{Token}
use Rattle.tj_mean.proofs.Outcomes.OneOutcome.{has_one_outcome}
use Rattle.tj_mean.specs.Outcomes.{IsOutcome, is_marked}
use Rattle.tj_mean.specs.declared.outcome.Outcome.{Outcome}
use Rattle.tj_syntax.specs.Faults.{IsScript, kinds_of}
use Rattle.tj_syntax.specs.PlacesOf.{PlacesOfTask}
use Rattle.tj_syntax.specs.Trees.{Task}
use Rattle.tj_syntax.specs.declared.script_text.NoScript.{NoScript}
use Rattle.tj_syntax.specs.declared.script_text.NoScript.TheVariants as no_script
use Rattle.tj_trace.specs.Logs.{logged_program}
use Rattle.tj_trace.specs.TraceLaws.{script_program}
use Rattle.tj_trace.specs.Traces.{AreTraced}
use Rattle.tj_trace.specs.declared.line.TraceLine.{TraceLine}
use Rattle.tj_trace.specs.declared.most.Most.{Most}
use Rattle.tj_command.proofs.MainDeclaration.{one_main}
use Rattle.tj_base.specs.declared.cell.Sort.TheVariants as sort
use Rattle.tj_body.proofs.Rounds.Rises.{distinct_cells}
use Rattle.tj_trace.proofs.OneMost.{AreOneMost, one_most}
use Rattle.tj_trace.proofs.OneTrace.{one_trace}
use Rattle.tj_trace.proofs.Seen.{is_of_outcome}
use Rattle.tj_explain.proofs.Readings.{one_command}
use Rattle.tj_explain.specs.WhyOutput.{ArePlaces, AreTokensOf, IsCommandOutput, IsOutput, IsToldFault, IsToldRun}
use Rattle.tj_explain.specs.WhyOutput.{IsToldScript, ended, needs_more, of_command, scene_of, tells_lines, usage, was_fine}
use Rattle.tj_findings.specs.Forests.{forest_of}
use Rattle.tj_findings.specs.Scenes.{Told}
use Rattle.tj_json.specs.JsonTexts.{fine_json, forest_json, told_json}
use Rattle.tj_explain.specs.Tellings.{fault_told, fine_told, full_told, why_text}
use Rattle.tj_texts.specs.WhyTexts.{fine_text, forest_text, told_text}
use Rattle.tj_explain.specs.declared.telling.Telling.{Telling}
use Rattle.tj_explain.specs.declared.telling.Telling.TheVariants as telling
use Rattle.tj_explain.specs.declared.line.WhyCommand.{WhyCommand}

-- the same status and the same text
abbrev Same : Status → Status → List ℕ → List ℕ → Type 0
Same a b s t = (a ≡ b) × (s ≡ t)

some_is : {A : Type 0} (a b : A) → Some a ≡ Some b → a ≡ b
some_is a b e = cc

-- the task `main` of a script has one body, which stands at one beginning
one_root : (tokens : List Tok) (script : List Task) (steps : ℕ) → IsScript tokens script → (x y : PlacedState)
    → IsPlacedMain script steps x → IsPlacedMain script steps y → y ≡ x
one_root tokens script steps is x y h k =
    let main : k.0.0 ≡ h.0.0 = some_is k.0.0 h.0.0 (sym k.0.1 ∙ h.0.1) in
    let task : y.task ≡ x.task = k.0.2 ∙ ap (λ m. task_of script steps m []) main ∙ sym h.0.2 in
    let number : k.1.0 ≡ h.1.0 = one_main tokens script is k.1.0 h.1.0 k.1.1 h.1.1 in
    k.1.2 ∙ ap (λ f. placed f y.task) number ∙ ap (placed h.1.0) task ∙ sym h.1.2

-- the parts of a script have one list of places
one_places : (tokens : List Token) (script : List Task) → IsScript (kinds_of tokens) script
    → (a b : List PlacesOfTask) → ArePlaces tokens a → ArePlaces tokens b → a ≡ b
one_places tokens script is a b h k =
    h is.notes script is.derived is.spells ∙ sym (k is.notes script is.derived is.spells)

-- what isn't told by lines isn't marked
pub not_marked : (kind : Telling) (marked : Bool) → tells_lines kind marked ≡ false → marked ≡ false
not_marked telling.Wrong marked h = h
not_marked telling.All marked h = h
not_marked telling.Dot marked h = absurd (cc)
not_marked telling.Json marked h = h

-- what isn't told by lines isn't marked, and is told to be fine by lines too
plain_text : (s : Told) (lines : List TraceLine) (o : Outcome) (telling : Telling)
    → tells_lines telling (is_marked o) ≡ false → map (λ (l : TraceLine). l.line) lines ≡ o.lines
    → (is_marked o ≡ false) × (why_text s lines o telling ≡ fine_told telling (length o.lines))
plain_text s lines o kind plain same = by kind plain where
  long : length lines ≡ length o.lines
  long = sym (length-map lines (λ (l : TraceLine). l.line)) ∙ ap length same

  words : (all : Bool) → is_marked o ≡ false → told_text s lines o all ≡ fine_text (length o.lines)
  words all fine =
      ap (λ b. cond b (forest_text s all (forest_of s.places lines o.cycles)) (fine_text (length lines))) fine
      ∙ ap fine_text long

  objects : is_marked o ≡ false → told_json s lines o ≡ fine_json (length o.lines)
  objects fine =
      ap (λ b. cond b (forest_json s (forest_of s.places lines o.cycles)) (fine_json (length lines))) fine
      ∙ ap fine_json long

  by : (kind : Telling) → tells_lines kind (is_marked o) ≡ false
      → (is_marked o ≡ false) × (why_text s lines o kind ≡ fine_told kind (length o.lines))
  by telling.Wrong h = (h, words false h)
  by telling.All h = (h, words true h)
  by telling.Dot h = absurd (cc)
  by telling.Json h = (h, objects h)

-- what is told of one statement that made most is one text
same_full : (kind : Telling) (s u : Told) (cells : ℕ) → s ≡ u → (m n : Most) → AreOneMost m n
    → full_told kind s cells m ≡ full_told kind u cells n
same_full kind s u cells e m n one =
    ap (λ z. full_told kind z cells m) e ∙ ap (λ c. told c m.maker.decl m.maker.at) one.count
    ∙ ap (λ d. told n.count d m.maker.at) one.decl ∙ ap (λ a. told n.count n.maker.decl a) one.at
  where
    told : ℕ → ℕ → ℕ → List ℕ
    told c d a =
        full_told kind u cells (record { maker = record { sort = sort.Task; decl = d; at = a }; count = c })

module _ (command : WhyCommand) (input : List ℕ) (script : List Task) (tokens : List Token) (root : PlacedState) where
  abbrev cells : ℕ
  cells = command.limits.cells

  abbrev strict : Bool
  strict = command.limits.strict

  abbrev one_of : (o p : Outcome) → IsOutcome (meaning (script_program strict root) cells) o
      → IsOutcome (meaning (script_program strict root) cells) p → o ≡ p
  one_of = has_one_outcome (meaning (script_program strict root) cells)

  -- told by lines and not
  mixed : (o p : Outcome) (lines : List TraceLine) (places : List PlacesOfTask)
      → IsOutcome (meaning (script_program strict root) cells) o
      → IsOutcome (meaning (script_program strict root) cells) p → AreTraced (logged_program strict root) cells lines
      → tells_lines command.telling (is_marked p) ≡ false
      → Same (status_of (is_marked o)) Clean (why_text (scene_of command input script places) lines o command.telling)
      (fine_told command.telling (length p.lines))
  mixed o p lines places h i traced plain =
      let same = one_of o p h i in
      let told = plain_text (scene_of command input script places) lines p command.telling plain
      (is_of_outcome strict root cells lines p traced i) in (
        ap (λ (x : Outcome). status_of (is_marked x)) same ∙ ap status_of told.0,
        ap (λ x. why_text (scene_of command input script places) lines x command.telling) same ∙ told.1,
      )

  -- a run is told in one way
  one_run : IsScript (kinds_of tokens) script → (a b : Status) (s t : List ℕ)
      → IsToldRun command input script tokens root a s → IsToldRun command input script tokens root b t → Same a b s t
  one_run is a b s t (needs_more m ps full h j) (needs_more n qs also i k) = (
    refl,
    same_full command.telling (scene_of command input script ps) (scene_of command input script qs) cells
        (ap (λ x. scene_of command input script x) (one_places tokens script is ps qs j k)) m n
        (one_most (logged_program strict root) cells (distinct_cells (logged_program strict root)) m n h i),
  )
  one_run is a b s t (needs_more m ps full j q) (was_fine o fits h plain) = absurd (fits full)
  one_run is a b s t (needs_more m ps full j q) (ended o ls rs fits h k l) = absurd (fits full)
  one_run is a b s t (was_fine o fits h plain) (needs_more m ps full j q) = absurd (fits full)
  one_run is a b s t (was_fine o fits h plain) (was_fine p also i flat) =
      (refl, ap (λ (x : Outcome). fine_told command.telling (length x.lines)) (one_of o p h i))
  one_run is a b s t (was_fine o fits h plain) (ended p ms qs also i j m) =
      let back = mixed p o ms qs i h j plain in (sym back.0, sym back.1)
  one_run is a b s t (ended o ls ps fits h k l) (needs_more m rs full j q) = absurd (fits full)
  one_run is a b s t (ended o ls ps fits h k l) (was_fine p also i plain) = mixed o p ls ps h i k plain
  one_run is a b s t (ended o ls ps fits h k l) (ended p ms qs also i j m) =
      let outcome : o ≡ p = one_of o p h i in
      let lines : ls ≡ ms = one_trace (logged_program strict root) cells ls ms k j in
      let places : ps ≡ qs = one_places tokens script is ps qs l m in (
        ap (λ (x : Outcome). status_of (is_marked x)) outcome,
        ap (λ x. why_text (scene_of command input script x) ls o command.telling) places
            ∙ ap (λ x. why_text (scene_of command input script qs) x o command.telling) lines
            ∙ ap (λ x. why_text (scene_of command input script qs) ms x command.telling) outcome,
      )

module _ (command : WhyCommand) (input : List ℕ) (one : IsOneScript input) where
  -- a script is told in one way
  one_script : (a b : Status) (s t : List ℕ) → IsToldScript command input a s → IsToldScript command input b t
      → Same a b s t
  one_script a b s t h k =
      let script : k.script ≡ h.script = one.script k.script h.script k.is h.is in
      let tokens : k.is.tokens ≡ h.is.tokens =
      one.tokens k.is.tokens h.is.tokens k.is.has_tokens h.is.has_tokens in
      let main : IsPlacedMain h.script command.limits.steps k.root =
      subst (λ z. IsPlacedMain z command.limits.steps k.root) script k.main in
      let root : k.root ≡ h.root = one_root (kinds_of h.is.tokens) h.script command.limits.steps h.is.is_script h.root
      k.root h.main main in
      let told : IsToldRun command input h.script h.is.tokens h.root b t =
      subst (λ z. IsToldRun command input h.script h.is.tokens z b t) root
      (subst (λ z. IsToldRun command input h.script z k.root b t) tokens
      (subst (λ z. IsToldRun command input z k.is.tokens k.root b t) script k.told)) in
      one_run command input h.script h.is.tokens h.root h.is.is_script a b s t h.told told

  -- a text with this fault has one list of such tokens
  one_list : (fault : NoScript) (a b : List Token) → AreTokensOf input fault a → AreTokensOf input fault b → a ≡ b
  one_list (no_script.Long at) a b h k = h ∙ sym k
  one_list (no_script.Tokens fault) a b h k = h ∙ sym k
  one_list (no_script.Grammar fault) a b h k = one.tokens a b h k

  -- a fault is told in one way
  one_fault_told : (a b : Status) (s t : List ℕ) → IsToldFault command.telling input a s
      → IsToldFault command.telling input b t → Same a b s t
  one_fault_told a b s t h k =
      let same : h.fault ≡ k.fault = one.fault h.fault k.fault h.first k.first in
      let has : AreTokensOf input k.fault h.tokens = subst (λ f. AreTokensOf input f h.tokens) same h.has_tokens in
      let tokens : h.tokens ≡ k.tokens = one_list k.fault h.tokens k.tokens has k.has_tokens in (
        h.is_script ∙ sym k.is_script,
        h.told ∙ ap (fault_told command.telling (take most_bytes input) h.tokens) same
            ∙ ap (λ z. fault_told command.telling (take most_bytes input) z k.fault) tokens ∙ sym k.told,
      )

  -- so is an input
  one_of_command : (a b : Status) (s t : List ℕ) → IsCommandOutput command input a s → IsCommandOutput command input b t
      → Same a b s t
  one_of_command a b s t (inl f) (inl g) = one_fault_told a b s t f g
  one_of_command a b s t (inl f) (inr k) = absurd (one.not_both k.script f.fault k.is f.first)
  one_of_command a b s t (inr h) (inl g) = absurd (one.not_both h.script g.fault h.is g.first)
  one_of_command a b s t (inr h) (inr k) = one_script a b s t h k

module _ (one : (text : List ℕ) → IsOneScript text) where
  pub one_output : (words : List (String Global)) (input : List ℕ) (a b : Status) (s t : List ℕ)
      → IsOutput words input a s → IsOutput words input b t → (a ≡ b) × (s ≡ t)
  one_output words input a b s t (usage f) (usage g) = (refl, refl)
  one_output words input a b s t (usage f) (of_command c is out) = absurd (f c is)
  one_output words input a b s t (of_command c is out) (usage f) = absurd (f c is)
  one_output words input a b s t (of_command c is out) (of_command d are also) =
      one_of_command c input (one input) a b s t out
      (subst (λ k. IsCommandOutput k input b t) (one_command words d c are is) also)
