-- How far a journal has been read.
use Rattle.std.proofs.Common.{◌≡◌, ℕ, ◌+◌, ◌-◌, ◌<◌, ◌≤◌, List, [], ◌∷◌, ◌++◌, length, take, drop, Result, Ok, Err, sym, ap, ◌∙◌, subst, arith, append_assoc, length-append}
use Rattle.std.proofs.lemmas.List.{length-drop, take_all}
use Rattle.std.specs.Result.{IfOk, IfErr, IsErrAnd}
use Rattle.tj_events.specs.declared.event.Event.{Event}
use Rattle.tj_core.specs.declared.journal.JournalFault.{JournalFault}
use Rattle.tj_core.specs.declared.journal.JournalFault.TheVariants.{Line, Oom}
use Rattle.tj_core.specs.Journals.Lines.{lines_of, words_of, HasSmallCells, Names, IsEventLine, AreEventLines, IsFirstFault, OrMemory}
use Rattle.tj_core.proofs.Journals.Lines.{event_lines_more, event_lines_length, one_fault, fault_or_events}

-- the events are those of the lines in front of the rest
pub record IsReadTo (bytes rest : List ℕ) (events : List Event) : Type 0 where
  pub before : List (List ℕ)
  pub whole : lines_of bytes ≡ before ++ lines_of rest
  pub good : AreEventLines before events
  pub short : length rest + length events ≤ length bytes

pub read_on : (bytes rest line after : List ℕ) (events more : List Event) (e : Event)
    → IsReadTo bytes rest events → lines_of rest ≡ line ∷ lines_of after → length after < length rest
    → HasSmallCells e × Names (words_of line) e → more ≡ events ++ e ∷ [] → IsReadTo bytes after more
read_on bytes rest line after events more e h cut shorter named same = record {
  before = h.before ++ line ∷ [];
  whole = h.whole ∙ ap (λ ls. h.before ++ ls) cut ∙ sym (append_assoc h.before (line ∷ []) (lines_of after));
  good = subst (AreEventLines (h.before ++ line ∷ [])) (sym same)
      (event_lines_more h.before events line e h.good named.0 named.1);
  short = let s = h.short in let long = ap length same ∙ length-append events (e ∷ []) in omega arith;
}

pub read_fault : (bytes rest line after : List ℕ) (events : List Event) (n : ℕ)
    → IsReadTo bytes rest events → lines_of rest ≡ line ∷ lines_of after → ¬ IsEventLine line
    → n ≡ length events + 1 → IsFirstFault (lines_of bytes) n
read_fault bytes rest line after events n h cut bad number = record {
  before = h.before;
  line = line;
  after = lines_of after;
  events = events;
  whole = h.whole ∙ ap (λ ls. h.before ++ ls) cut;
  number = let l = event_lines_length h.before events h.good in omega arith;
  good = h.good;
  bad = bad;
}

-- a text with a line that isn't one of an event is refused for the first such line
pub only_line : {V : Type 0} (items : V → List Event) (lines : List (List ℕ)) (r : Result V JournalFault)
    → IfOk r (λ v. AreEventLines lines (items v)) → IfErr r (OrMemory (IsFirstFault lines))
    → (n : ℕ) → IsFirstFault lines n → IsErrAnd r (OrMemory (λ m. m ≡ n))
only_line items lines (Ok v) ok err n h = fault_or_events lines n (items v) h ok
only_line items lines (Err (Line m)) ok err n h = one_fault lines m n err h
only_line items lines (Err Oom) ok err n h = tt

-- all that is left behind an index
pub rest_whole : {A : Type 0} (k : ℕ) (xs : List A) → take (length xs - k) (drop k xs) ≡ drop k xs
rest_whole k xs = take_all (length xs - k) (drop k xs) (omega (arith, length-drop k xs))
