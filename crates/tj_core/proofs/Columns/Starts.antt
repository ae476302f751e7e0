-- The state that a new machine shows.
use Rattle.std.proofs.Common.{◌≡◌, ℕ, zero, suc, ◌<◌, ◌-◌, List, [], ◌∷◌, set, replicate, get_or, Option, Some, None, sym, ◌∙◌, arith}
use Rattle.std.proofs.Math.ListN.{get_or-eq_default}
use Rattle.std.proofs.lemmas.List.{get_or-replicate, length-replicate}
use native.Mathlib.Decide.{ℕ_discrete}
use mathlib.Core.Logic.{dite}
use Rattle.tj_core.specs.declared.slot.Slot.{Slot}
use Rattle.tj_events.specs.CoreState.{running, root, blank, root_alone}
use Rattle.tj_core.specs.Inner.Slots.{stage_of}
use Rattle.tj_core.specs.Inner.Columns.{cell_in, state_in}
use Rattle.tj_base.proofs.Puts.{put_here, put_else}
use Rattle.tj_core.proofs.Columns.ColumnLists.{at_set}

-- nobody owns anything
none_owned : (n c : ℕ) → get_or (replicate n None) c None ≡ (let o : Option ℕ = None in o)
none_owned n c = let l : List (Option ℕ) = replicate n None in let o : Option ℕ = None in let e = length-replicate n o
    in
    dite (ℕ_discrete (c - n) 0)
    (λ q. dite (ℕ_discrete c n) (λ d. get_or-eq_default l o (omega arith))
    (λ d. get_or-replicate n c o o (omega arith)))
    (λ q. get_or-eq_default l o (omega arith))

pub start_state : (n : ℕ) (slot : Slot) → 0 < n → stage_of slot ≡ running → state_in [] (0 ∷ [])
    (set (replicate n None) 0 (Some 0)) (slot ∷ []) 0 0 ≡ root_alone
start_state n slot h e = λ j. record { count = 1; cells = λ c. cell c j; others = 0; cleared = 0 }
  where
    cell : (c : ℕ) → cell_in [] (0 ∷ []) (set (replicate n None) 0 (Some 0)) (slot ∷ []) c ≡ root_alone.cells c
    cell zero = let o : Option ℕ = None in let l = length-replicate n o in
        (λ j. record {
          maker = 0;
          name = [];
          made = 0;
          owner = (at_set (replicate n o) 0 (Some 0) o (omega arith) 0 ∙ put_here (λ k. get_or (replicate n o) k o) 0
              (Some 0)) j;
          stage = e j;
        })
        ∙ sym (put_here (λ _. blank) 0 root)
    cell (suc c) = let o : Option ℕ = None in let l = length-replicate n o in
        (λ j. record (blank) {
          owner = (at_set (replicate n o) 0 (Some 0) o (omega arith) (suc c)
              ∙ (put_else (λ k. get_or (replicate n o) k o) 0 (Some 0) (suc c) (λ d. omega arith) ∙ none_owned n
              (suc c))) j;
        })
        ∙ sym (put_else (λ _. blank) 0 root (suc c) (λ d. omega arith))
