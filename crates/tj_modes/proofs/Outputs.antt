-- From what each step of a command gives to its output.
use Rattle.tj_modes.proofs.Prelude.{Command, Err, Full, HasRead, IfOk, IsCommandOutput, IsGenerated, IsJudging}
use Rattle.tj_modes.proofs.Prelude.{IsOutcomeOf, IsReadOf, IsRefused, IsRunOf, IsScriptOf, IsStartOf, Limits, List}
use Rattle.tj_modes.proofs.Prelude.{NeedsMore, NoScript, Ok, Oom, Outcome, Output, ReadEnd, Report, Result, Script}
use Rattle.tj_modes.proofs.Prelude.{Start, Status, Task, Told, ap, arith, ended, fault_line, full, full_line}
use Rattle.tj_modes.proofs.Prelude.{generated_script, inl, inr, is_marked, journal_fault, length, refl, script_text}
use Rattle.tj_modes.proofs.Prelude.{status_of, subst, sym, take, takes_input, text_of, true, ℕ, ◌<◌, ◌∙◌, ◌≡◌, ◌⊎◌}
use Rattle.tj_lex.specs.declared.place.Place.{Place}
use Rattle.tj_lex.specs.Positions.{position_after}
use Rattle.tj_modes.specs.Judgings.{IsJournalFault, too_long as journal_too_long}
use Rattle.tj_syntax.specs.ScriptTexts.{most_bytes, IsFirstFault, IsMemory}

-- what is so of an answer that isn't an error
pub if_ok : {A E : Type 0} {P Q : A → Type 0} (r : Result A E) → ((x : A) → P x → Q x) → IfOk r P → IfOk r Q
if_ok (Ok x) f p = f x p
if_ok (Err e) f p = tt

-- and of two things that are so of it
pub if_both : {A E : Type 0} {P Q R : A → Type 0} (r : Result A E) → ((x : A) → P x → Q x → R x) → IfOk r P → IfOk r Q
    → IfOk r R
if_both (Ok x) f p q = f x p q
if_both (Err e) f p q = tt

-- the fault of a journal that is too long, of which these are the first bytes
pub long_fault : (at : Place) (journal bytes : List ℕ) → at ≡ position_after bytes → bytes ≡ take most_bytes journal
    → most_bytes < length journal → IsJournalFault journal at.line
long_fault at journal bytes position first long =
    subst (λ p. IsJournalFault journal p.line) (sym (position ∙ ap position_after first)) (journal_too_long long)

-- the line of a journal's fault is what judging it gives
pub IsJudging-fault : (cells line : ℕ) (journal text : List ℕ) → IsJournalFault journal line
    → text ≡ journal_fault line → IsJudging cells journal Script text
IsJudging-fault cells line journal text fault e = inl (line, fault, refl, e)

-- what a run of a script under these limits gives, as it is told
abbrev pub Ran : Limits → Told → List Task → Status → List ℕ → Type 0
Ran limits told script status text = (start : Start) × IsStartOf limits script start × IsRunOf told start status text

-- a run that has ended gives its outcome
pub Ran-ended : (start : Start) (limits : Limits) (script : List Task) (outcome : Outcome) (r : Result Output Oom)
    → IsStartOf limits script start → ¬ NeedsMore start → IsOutcomeOf start outcome
    → IfOk r (λ output. output.status ≡ status_of (is_marked outcome))
    → IfOk r (λ output. output.text.items ≡ text_of Report outcome)
    → IfOk r (λ output. Ran limits Report script output.status output.text.items)
Ran-ended start limits script outcome (Ok output) is fits ends s t = (
  start,
  is,
  subst (λ z. IsRunOf Report start z output.text.items) (sym s)
      (subst (λ z. IsRunOf Report start (status_of (is_marked outcome)) z) (sym t) (ended outcome fits ends)),
)
Ran-ended start limits script outcome (Err oom) is fits ends s t = tt

-- a run that is full gives the line that it is
pub Ran-full : (start : Start) (limits : Limits) (script : List Task) (r : Result Output Oom)
    → IsStartOf limits script start → NeedsMore start → IfOk r (λ output. output.status ≡ Full)
    → IfOk r (λ output. output.text.items ≡ full_line start.cells)
    → IfOk r (λ output. Ran limits Report script output.status output.text.items)
Ran-full start limits script (Ok output) is more s t = (
  start,
  is,
  subst (λ z. IsRunOf Report start z output.text.items) (sym s)
      (subst (λ z. IsRunOf Report start Full z) (sym t) (full more)),
)
Ran-full start limits script (Err oom) is more s t = tt

-- what is written where an input is no script
pub of_refused : (IsSo : List ℕ → Status → List ℕ → Type 0) (fault : NoScript) (end : ReadEnd) (r : Result Output Oom)
    → IsMemory fault ⊎ ((all : List ℕ) → IsReadOf all end → IsFirstFault all fault)
    → IfOk r (λ output. output.status ≡ Script) → IfOk r (λ output. output.text.items ≡ fault_line fault)
    → IfOk r (λ output. ¬ IsMemory fault) → IfOk r (λ output. (all : List ℕ) → IsReadOf all end
    → IsRefused all output.status output.text.items ⊎ IsSo all output.status output.text.items)
of_refused IsSo fault end (Ok output) (inl memory) status text none = absurd (none memory)
of_refused IsSo fault end (Ok output) (inr first) status text none =
    λ all read. inl (status, (fault, first all read, text))
of_refused IsSo fault end (Err oom) first status text none = tt

-- no line is written of a text that is a script
pub never_refused : {A : Type 0} (text : List ℕ) (script : List Task) (fault : NoScript) → IsScriptOf text script
    → IsMemory fault ⊎ ((other : List Task) → IsScriptOf text other → ⊥) → ¬ IsMemory fault → A
never_refused text script fault is (inl memory) none = absurd (none memory)
never_refused text script fault is (inr other) none = absurd (other script is)

-- the line of a fault is what is written where an input is no script
pub IsRefused-fault : (fault : NoScript) (end : ReadEnd) (status : Status) (text input : List ℕ)
    → IsMemory fault ⊎ ((all : List ℕ) → IsReadOf all end → IsFirstFault all fault) → status ≡ Script
    → text ≡ fault_line fault → ¬ IsMemory fault → IsReadOf input end → IsRefused input status text
IsRefused-fault fault end status text input (inl memory) s t none read = absurd (none memory)
IsRefused-fault fault end status text input (inr first) s t none read = (s, (fault, first input read, t))

-- the text of the generated script is a script, so it has no fault
pub generated_of : (size : ℕ) → IsGenerated size → IsScriptOf (script_text size) (generated_script size)
generated_of size is = record {
  short = let few : length (script_text size) < 300000 = is.short in omega arith;
  tokens = is.tokens;
  has_tokens = is.has;
  is_script = is.is;
}

-- What is so of the output of one command, for any input of which this was read.
abbrev Gives : Command → ReadEnd → Result Output Oom → Type 0
Gives command end r = IfOk r (λ output. (all : List ℕ) → HasRead command all end
    → IsCommandOutput command all output.status output.text.items)

pub as_command : (command given : Command) (end : ReadEnd) (r : Result Output Oom) → command ≡ given
    → takes_input given ≡ true → IfOk r (λ output. (all : List ℕ) → IsReadOf all end
    → IsCommandOutput given all output.status output.text.items) → Gives command end r
as_command command given end r is does out =
    subst (λ k. Gives k end r) (sym is) (if_ok r (λ output of_read all read. of_read all (read does)) out)
