-- Which words a call changes: the one on which it is a step, and no other.
use Rattle.std.proofs.Common.{◌≡◌, ◌⊎◌, Bool, true, Option, refl, sym, ap, ◌∙◌, inl, inr, set}
use native.Mathlib.Decide.{ℕ_discrete}
use mathlib.Core.Logic.{dite}
use Rattle.atomic_table.specs.Table.{State}
use Rattle.tj_body.specs.Programs.{Program}
use Rattle.tj_record.specs.declared.record.Rec.{Rec}
use Rattle.tj_words.specs.declared.table.Key.{Key}
use Rattle.tj_words.specs.declared.view.View.{View}
use Rattle.tj_words.specs.CallLaws.RestedRuns.{IsCallStep}
use Rattle.tj_words.specs.CallLaws.StepCalls.{StepCall, place_of}
use Rattle.tj_words.specs.CallLaws.StepCalls as call
use Rattle.tj_words.specs.Words.Offsets.{word}
use Rattle.tj_words.proofs.Stores.TableWords.{TableWord, index, is_word, is_word_here}
use Rattle.tj_words.proofs.Stores.TableWords as table_word
use Rattle.tj_words.proofs.Stores.SeatLists.{word_else, word_here}

-- the word on which a call is a step
abbrev pub word_of : StepCall → TableWord
word_of (call.draws t o) = table_word.Count
word_of call.counts = table_word.Count
word_of (call.counts_by t) = table_word.Count
word_of (call.puts_once c f) = table_word.Written c f
word_of (call.sees_once c f) = table_word.Written c f
word_of (call.puts_owner c) = table_word.Own c
word_of (call.sees_owner c) = table_word.Own c
word_of (call.sees_owner_by t c) = table_word.Own c
word_of (call.puts_phase t) = table_word.Phase t
word_of (call.sees_phase t) = table_word.Phase t
word_of (call.sees_phase_by t u) = table_word.Phase u
word_of (call.swaps_phase t) = table_word.Phase t
word_of (call.raises_others t) = table_word.Others
word_of call.lowers_others = table_word.Others
word_of (call.sees_others_by t) = table_word.Others
word_of call.raises_live = table_word.Live
word_of call.lowers_live = table_word.Live
word_of call.sees_live = table_word.Live
word_of call.stops = table_word.Stop
word_of call.sees_stop = table_word.Stop
word_of (call.sees_head p) = table_word.Head p
word_of (call.pushes p) = table_word.Head p
word_of (call.shuts p) = table_word.Head p
word_of (call.puts_next t) = table_word.Next t
word_of (call.sees_next t) = table_word.Next t

pub placed : (a : StepCall) → place_of a ≡ index (word_of a)
placed (call.draws t o) = refl
placed call.counts = refl
placed (call.counts_by t) = refl
placed (call.puts_once c f) = refl
placed (call.sees_once c f) = refl
placed (call.puts_owner c) = refl
placed (call.sees_owner c) = refl
placed (call.sees_owner_by t c) = refl
placed (call.puts_phase t) = refl
placed (call.sees_phase t) = refl
placed (call.sees_phase_by t u) = refl
placed (call.swaps_phase t) = refl
placed (call.raises_others t) = refl
placed call.lowers_others = refl
placed (call.sees_others_by t) = refl
placed call.raises_live = refl
placed call.lowers_live = refl
placed call.sees_live = refl
placed call.stops = refl
placed call.sees_stop = refl
placed (call.sees_head p) = refl
placed (call.pushes p) = refl
placed (call.shuts p) = refl
placed (call.puts_next t) = refl
placed (call.sees_next t) = refl

module _ {B : Type 0} (program : Bool → B → Program B) (key : Key B) (s t : State (Option (Rec B)) (View B))
    (k : IsCallStep program key s t) where
  -- the call is a step on this word, which is the number that it leaves then
  pub record IsLeftBy (x : TableWord) : Type 0 where
    pub on : is_word (word_of k.call) x ≡ true
    pub here : place_of k.call ≡ index x
    pub left : word t.words (index x) ≡ k.number

  -- a word stays, or the call is a step on it
  pub word_stays : (x : TableWord) → (word t.words (index x) ≡ word s.words (index x)) ⊎ IsLeftBy x
  word_stays x = dite (ℕ_discrete (index x) (place_of k.call))
      (λ e. inr (record {
        on = is_word_here x (word_of k.call) (sym (placed k.call) ∙ sym e);
        here = sym e;
        left = after ∙ (ap (word (set s.words (place_of k.call) k.number)) e
            ∙ word_here s.words (place_of k.call) k.number k.makes.inside);
      }))
      (λ n. inl (after ∙ word_else s.words (place_of k.call) (index x) k.number n))
    where
      after : word t.words (index x) ≡ word (set s.words (place_of k.call) k.number) (index x)
      after = ap (λ (z : State (Option (Rec B)) (View B)). word z.words (index x)) k.makes.after
