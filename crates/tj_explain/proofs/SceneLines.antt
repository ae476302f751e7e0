-- What is told of findings of a script is lines: no name of it and no source line has a line feed.
use Rattle.std.proofs.Common.{◌≡◌, ℕ, ◌-◌, Bool, true, false, cond, List, [], ◌∷◌, Option, Some, None, refl, sym, ap}
use Rattle.std.proofs.Common.{subst, ◌∙◌, inl, inr, true≢false, unwrap_or}
use Rattle.std.specs.Prelude.{◌==◌, slice_get}
use Rattle.tj_body.specs.Points.{IsIn}
use Rattle.tj_faults.specs.Carets.{first_longer, line_in, lines_of}
use Rattle.tj_lex.specs.Bytes.{line_feed}
use Rattle.tj_mean.proofs.Lists.Elements.{in_get}
use Rattle.tj_syntax.specs.PlacesOf.{PlacesOfTask}
use Rattle.tj_syntax.specs.ScriptTexts.{IsScriptOf}
use Rattle.tj_syntax.specs.Trees.{Statement, Task}
use Rattle.tj_findings.specs.LetNames.{let_variable, named_in, variable_name}
use Rattle.tj_findings.specs.LinesTold.{HasPlainNames, IsPlain}
use Rattle.tj_findings.specs.Scenes.{statement_at}
use Rattle.tj_findings.proofs.PlainTexts.{plain_byte}
use Rattle.tj_json.specs.LineLaws.{ObjectsTellEach}
use Rattle.tj_texts.specs.LineLaws.{HasPlainLines, TextsTellEach}
use Rattle.tj_explain.specs.SceneLines.{ScenesTellLines}
use Rattle.tj_explain.specs.WhyOutput.{scene_of}
use Rattle.tj_explain.specs.declared.line.WhyCommand.{WhyCommand}
use Rattle.tj_explain.proofs.NamesPlain.{names_plain}

-- none of these lines has a line feed
abbrev AllPlain : List (List ℕ) → Type 0
AllPlain ls = (l : List ℕ) → IsIn l ls → IsPlain l

-- a byte more in the first line
longer_plain : (b : ℕ) (ls : List (List ℕ)) → (b ≡ 10 → ⊥) → AllPlain ls → AllPlain (first_longer b ls)
longer_plain b [] other plain l (inl e) = subst IsPlain (sym e) (plain_byte b [] other refl)
longer_plain b [] other plain l (inr i) = absurd i
longer_plain b (k ∷ ks) other plain l (inl e) =
    subst IsPlain (sym e) (plain_byte b k other (plain k (inl refl)))
longer_plain b (k ∷ ks) other plain l (inr i) = plain l (inr i)

-- the lines of a text
lines_plain : (text : List ℕ) → AllPlain (lines_of text)
lines_plain [] l (inl e) = subst IsPlain (sym e) refl
lines_plain [] l (inr i) = absurd i
lines_plain (b ∷ text) l i = by (b == line_feed) refl (lines_plain text) l i where
  by : (t : Bool) → (b == line_feed) ≡ t → AllPlain (lines_of text)
      → AllPlain (cond t ([] ∷ lines_of text) (first_longer b (lines_of text)))
  by true is rest k (inl e) = subst IsPlain (sym e) refl
  by true is rest k (inr j) = rest k j
  by false is rest k j =
      longer_plain b (lines_of text) (λ e. true≢false (ap (λ z. z == line_feed) (sym e) ∙ is)) rest k j

-- the one with a number
line_plain : (text : List ℕ) (n : ℕ) → IsPlain (line_in (lines_of text) n)
line_plain text n = by (slice_get (lines_of text) (n - 1)) refl where
  by : (o : Option (List ℕ)) → slice_get (lines_of text) (n - 1) ≡ o → IsPlain (unwrap_or o [])
  by None is = refl
  by (Some l) is = lines_plain text l (in_get (lines_of text) (n - 1) l is)

-- what is told in front of `made at` is the name of a variable
of_variable : (o : Option Task) (q : Option Statement) (x : List ℕ) → named_in o q ≡ Some x
    → (d : Task) × (o ≡ Some d) × IsIn x d.vars
of_variable None q x e = absurd (cc)
of_variable (Some d) None x e = absurd (cc)
of_variable (Some d) (Some q) x e = by (let_variable q) e where
  by : (k : Option ℕ) → variable_name d k ≡ Some x → (c : Task) × (Some d ≡ Some c) × IsIn x c.vars
  by None e = absurd (cc)
  by (Some k) e = (d, refl, in_get d.vars k x e)

-- the names of a script
scene_names : (command : WhyCommand) (input : List ℕ) (script : List Task) → IsScriptOf input script
    → (places : List PlacesOfTask) → HasPlainNames (scene_of command input script places)
scene_names command input script is places = record {
  tasks = λ n d e. (names_plain input script is n d e).0;
  variables = λ k x e.
      let s = scene_of command input script places in
      let v = of_variable (slice_get s.script k.decl) (statement_at s k.decl k.at) x e in
      (names_plain input script is k.decl v.0 v.1).1 x v.2;
}

-- its source lines
scene_lines : (command : WhyCommand) (input : List ℕ) (script : List Task) (places : List PlacesOfTask)
    → HasPlainLines (scene_of command input script places)
scene_lines command input script places n = line_plain input n

-- the law
pub scenes_tell_lines : TextsTellEach → ObjectsTellEach → ScenesTellLines
scenes_tell_lines texts objects command input script is places =
    let s = scene_of command input script places in
    let names = scene_names command input script is places in
    let lines = scene_lines command input script places in
    (names, lines, (texts.0 s).1 names lines, (objects s).1 names)
