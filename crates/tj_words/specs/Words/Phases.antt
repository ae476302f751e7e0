-- The word of a phase, and the phase of a word.
use Rattle.std.specs.Prelude.{ℕ, ◌+◌, ◌*◌, ◌/◌, ◌%◌, cond, nat_eq}
use Rattle.tj_base.specs.declared.cell.CellId.{CellId}
use Rattle.tj_events.specs.declared.walk.Way.{Way}
use Rattle.tj_events.specs.declared.walk.Way.TheVariants.{Along, Other}
use Rattle.tj_words.specs.declared.phase.Walk.{Walk}
use Rattle.tj_words.specs.declared.phase.Walk.TheVariants.{Walking, Parked, Alarmed}
use Rattle.tj_words.specs.declared.phase.Phase.{Phase}
use Rattle.tj_words.specs.declared.phase.Phase.TheVariants.{Unborn, Ready, Running, Ended, Promise, Waiting}

-- the low bits of a wait that is walked
abbrev pub way_code : Way → ℕ
way_code Along = 8
way_code Other = 12

-- the low four bits of the word of a wait
abbrev pub wait_code : Way → Walk → ℕ
wait_code way Walking = way_code way
wait_code way Parked = way_code way + 1
wait_code way Alarmed = way_code way + 2

-- the word of a phase: a wait has its cell in the bits from the fifth on
abbrev pub phase_word : Phase → ℕ
phase_word Unborn = 0
phase_word Ready = 1
phase_word Running = 2
phase_word Ended = 3
phase_word Promise = 4
phase_word (Waiting cell way walk) = wait_code way walk + 16 * cell.0

-- the phase with these low four bits and this cell; no other bits stand in a table
abbrev pub phase_by : ℕ → CellId → Phase
phase_by low cell =
    cond (nat_eq low 0) Unborn
    (cond (nat_eq low 1) Ready
    (cond (nat_eq low 2) Running
    (cond (nat_eq low 3) Ended
    (cond (nat_eq low 8) (Waiting cell Along Walking)
    (cond (nat_eq low 9) (Waiting cell Along Parked)
    (cond (nat_eq low 10) (Waiting cell Along Alarmed)
    (cond (nat_eq low 12) (Waiting cell Other Walking)
    (cond (nat_eq low 13) (Waiting cell Other Parked)
    (cond (nat_eq low 14) (Waiting cell Other Alarmed)
    Promise)))))))))

-- the phase of a word
abbrev pub phase_in : ℕ → Phase
phase_in word = phase_by (word % 16) (record { 0 = word / 16 })
