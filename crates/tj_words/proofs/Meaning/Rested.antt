-- What holds of a table that was closed with its last seat.
use Rattle.tj_words.proofs.Prelude.{AlarmsAreOnCycles, AreAlarmsOnCycles, AreAtRest, AreCellsOf, AreCyclesAlarmed}
use Rattle.tj_words.proofs.Prelude.{AreSlots, Bool, CyclesAreWatched, IsLast, IsPromise, IsRooted, Key, List, MayRest}
use Rattle.tj_words.proofs.Prelude.{None, Option, Program, Rec, RestCell, RestsAtMeaning, Rule, View, [], cell_of}
use Rattle.tj_words.proofs.Prelude.{get_or, length, subst, sym, ℕ, ◌<◌, ◌↔◌, ◌≡◌}
use Rattle.tj_words.proofs.Lemmas.{at_index}
use Rattle.atomic_table.specs.Table.{Final, Seen}
use Rattle.tj_words.specs.AtRest.RestMeaning.{HaveMeaning}
use Rattle.tj_words.specs.AtRest.RestValues.{AreClosedWords, AreValuesOfMeaning}
use Rattle.tj_words.specs.AtRest.ShownCells.{AreTableWords}
use Rattle.tj_words.proofs.Meaning.ClosedValues.{values_meant, words_closed}
use Rattle.tj_words.proofs.Meaning.RestingCells as cells
use Rattle.tj_words.proofs.Meaning.RestingMeaning as meaning

-- what the cells and the slots are of a program at rest
pub record IsRested {B : Type 0} (program : Bool → B → Program B) (limit : ℕ) (strict : Bool) (root : B)
    (words : List ℕ) (shown : List RestCell) (slots : List (Option (Rec B))) : Type 0 where
  pub are_slots : AreSlots shown slots
  pub rest : AreAtRest shown
  pub meant : HaveMeaning (program strict root) limit shown slots
  pub cycles : AreCyclesAlarmed shown
  pub alarms : AreAlarmsOnCycles shown
  pub values : AreValuesOfMeaning (program strict root) limit shown words
  pub closed : AreClosedWords limit (length shown) words

module _ {B : Type 0} {program : Bool → B → Program B} {key : Key B} {words : List ℕ} {slots : List (Option (Rec B))}
    {id : ℕ} {v : View B} (final : Final (Seen (Rule program key) id v) words slots) (may : MayRest v)
    {shown : List RestCell} where
  rested_here : AreCellsOf words key.cells shown → CyclesAreWatched → AlarmsAreOnCycles
      → ((strict : Bool) (root : B) → IsRooted (program strict root) → RestsAtMeaning (program strict root))
      → ((strict : Bool) (root : B) → IsRooted (program strict root) → IsLast (program strict root))
      → IsRested program key.cells key.strict key.root.value words shown slots
  rested_here are watched alarms rests last =
      let s = final.0 in let r = final.1.0 in let at = final.1.1 in
      let e = subst (λ w. AreCellsOf w key.cells shown) (sym final.2) are in
      let law = rests key.strict key.root.value r.rooted in
      let end = last key.strict key.root.value r.rooted in record {
        are_slots = meaning.are_slots r id at may e slots final.3 final.4;
        rest = cells.at_rest r id at may e;
        meant = (
          r.law.born,
          meaning.words_meant r id at may e slots final.3 final.4 law end,
          meaning.records_meant r id at may e slots final.3 final.4 law end,
        );
        cycles = cells.cycles_alarmed r id at may e watched;
        alarms = cells.alarms_on_cycles r id at may e alarms;
        values = subst (AreValuesOfMeaning (program key.strict key.root.value) key.cells shown) final.2
            (values_meant r id at may e slots final.3 final.4 law end);
        closed = subst (AreClosedWords key.cells (length shown)) final.2
            (words_closed r id at may e slots final.3 final.4 law end);
      }

  -- the same, where the key names this program and so many cells
  pub rested : {limit : ℕ} {strict : Bool} {root : B} → key.cells ≡ limit → key.strict ≡ strict
      → key.root.value ≡ root → AreCellsOf words limit shown → CyclesAreWatched → AlarmsAreOnCycles
      → ((strict : Bool) (root : B) → IsRooted (program strict root) → RestsAtMeaning (program strict root))
      → ((strict : Bool) (root : B) → IsRooted (program strict root) → IsLast (program strict root))
      → IsRested program limit strict root words shown slots
  rested {limit} {strict} {root} a b c are watched alarms rests last =
      subst (λ n. IsRested program n strict root words shown slots) a
      (subst (λ t. IsRested program key.cells t root words shown slots) b
      (subst (λ z. IsRested program key.cells key.strict z words shown slots) c
      (rested_here (subst (λ n. AreCellsOf words n shown) (sym a) are) watched alarms rests last)))

-- the words of a table that was closed may stand in their places
pub final_words : {B : Type 0} {program : Bool → B → Program B} {key : Key B} {words : List ℕ}
    (slots : List (Option (Rec B))) {id : ℕ} {v : View B} → Final (Seen (Rule program key) id v) words slots
    → {limit : ℕ} → key.cells ≡ limit → AreTableWords limit words
final_words {key = key} {words = words} slots final e = let r = final.1.0 in
    subst (λ n. AreTableWords n words) e
    (subst (AreTableWords key.cells) final.2 (record { all = r.all_words; few = r.few_cells; codes = r.codes }))

-- a slot has nothing exactly where its cell is a promise
pub promise_at : {A B : Type 0} (cells : List RestCell) (records : List (Option (Rec B))) (c : ℕ)
    → AreSlots cells records → c < length cells → (o : Option A) → (o ≡ None) ↔ (get_or records c None ≡ None) →
    (o ≡ None) ↔ IsPromise cells c
promise_at cells records c slots l o same =
    let x = get_or cells c (cell_of [] 0) in let e = at_index cells c (cell_of [] 0) l in (
      (λ h. (x, e, (slots.promises c x e).0 (same.0 h))),
      (λ h. same.1 ((slots.promises c h.0 h.1).1 h.2)),
    )
