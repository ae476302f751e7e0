-- What never changes in a run of a table, or goes one way alone: a value, a head that is shut, COUNT, an owner that
-- is nobody, and what a cell's words say of the tree of forks. Each is a sentence on an earlier moment and a later
-- one, and is so of each two moments of a run.
use Rattle.std.specs.Prelude.{◌≡◌, ◌≢◌, ℕ, ◌≤◌, Bool, List, [], ◌∷◌, Option, None}
use mathlib.Core.Logic.{inl, inr}
use Rattle.atomic_table.specs.Table.{State}
use Rattle.tj_body.specs.Programs.{Program}
use Rattle.tj_words.specs.declared.head.Head.TheVariants.{Shut}
use Rattle.tj_words.specs.declared.offsets.Once.{Once}
use Rattle.tj_record.specs.declared.record.Rec.{Rec}
use Rattle.tj_words.specs.declared.table.Key.{Key}
use Rattle.tj_words.specs.declared.view.View.{View}
use Rattle.tj_words.specs.Words.Heads.{head_in}
use Rattle.tj_words.specs.LawParts.Contents.{Contents, bits_in, contents_of, drawn_in, hand_of, tag_in}
use Rattle.tj_words.specs.LawParts.Hands.{IsThere}
use Rattle.tj_words.specs.LawParts.TreeWords.{IsOfTree}
use Rattle.tj_words.specs.CallLaws.RestedRuns.{AreMoments, IsTableStep, Ruled, last_moment}
use Rattle.tj_words.specs.CallLaws.StepCalls as call

module _ {B : Type 0} (cells : ℕ) (x y : Contents B) where
  -- a value is set once, for good: a TAG other than 0 stays, and so do the BITS under it
  abbrev pub ValuesStay : Type 0
  ValuesStay = (c : ℕ) → tag_in x c ≢ 0 → (tag_in y c ≡ tag_in x c) × (bits_in y c ≡ bits_in x c)

  -- a head that is shut stays shut
  abbrev pub ShutHeadsStay : Type 0
  ShutHeadsStay = (p : ℕ) → x.words.head p ≡ Shut → y.words.head p ≡ Shut

  -- COUNT never falls
  abbrev pub CountStays : Type 0
  CountStays = x.words.count ≤ y.words.count

  -- a cell that is drawn and isn't in hand stays so
  abbrev pub CellsStay : Type 0
  CellsStay = (c : ℕ) → IsThere (drawn_in cells x) (hand_of x) c → IsThere (drawn_in cells y) (hand_of y) c

  -- the owner of such a cell, once it is nobody, stays nobody
  abbrev pub NobodyStays : Type 0
  NobodyStays = (c : ℕ) → IsThere (drawn_in cells x) (hand_of x) c → x.words.own c ≡ None → y.words.own c ≡ None

  -- PARENT, KID, DEPTH and JUMP of such a cell stay
  abbrev pub TreeWordsStay : Type 0
  TreeWordsStay = (c : ℕ) (f : Once) → IsOfTree f → IsThere (drawn_in cells x) (hand_of x) c
      → y.words.once c f ≡ x.words.once c f

module _ {B : Type 0} (program : Bool → B → Program B) (key : Key B) where
  -- where the step is a push, the head that it asks for isn't shut
  abbrev pub IsOpenPush : (s t : State (Option (Rec B)) (View B)) → IsTableStep program key s t → Type 0
  IsOpenPush s t (inl c) = (p : ℕ) → c.call ≡ call.pushes p → head_in c.operands.first ≢ Shut
  IsOpenPush s t (inr b) = Unit {0}

  -- so is each step of these moments
  abbrev pub AreOpenPushes : (u : Ruled program key) (later : List (Ruled program key)) → AreMoments program key u later
      → Type 0
  AreOpenPushes u [] a = Unit {0}
  AreOpenPushes u (w ∷ ws) a = IsOpenPush u.now w.now a.0 × AreOpenPushes w ws a.1

module _ (B : Type 0) where
  -- this is so of the first moment of a run and the last one, whatever run it is
  abbrev pub AlwaysSo : ((cells : ℕ) → Contents B → Contents B → Type 0) → Type 0
  AlwaysSo R = (program : Bool → B → Program B) (key : Key B) (u : Ruled program key)
      (later : List (Ruled program key)) → AreMoments program key u later
      → R key.cells (contents_of u.now) (contents_of (last_moment program key u later).now)

  -- a value is set once, for good
  abbrev pub ValuesAreForGood : Type 0
  ValuesAreForGood = AlwaysSo ValuesStay

  -- a head that is shut stays shut, where no push asks for a head that is shut
  abbrev pub ShutsAreForGood : Type 0
  ShutsAreForGood = (program : Bool → B → Program B) (key : Key B) (u : Ruled program key)
      (later : List (Ruled program key)) (a : AreMoments program key u later) → AreOpenPushes program key u later a
      → ShutHeadsStay key.cells (contents_of u.now) (contents_of (last_moment program key u later).now)

  -- COUNT never falls
  abbrev pub CountNeverFalls : Type 0
  CountNeverFalls = AlwaysSo CountStays

  -- what is drawn and isn't in hand stays so
  abbrev pub CellsAreForGood : Type 0
  CellsAreForGood = AlwaysSo CellsStay

  -- once nobody owns a cell, nobody does
  abbrev pub ClosesAreForGood : Type 0
  ClosesAreForGood = AlwaysSo NobodyStays

  -- PARENT, KID, DEPTH and JUMP never change once the cell isn't in hand
  abbrev pub TreeWordsAreForGood : Type 0
  TreeWordsAreForGood = AlwaysSo TreeWordsStay
