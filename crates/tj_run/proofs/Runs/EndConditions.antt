-- A task that is to end may be ended; then it has left its worker.
use Rattle.tj_run.proofs.Prelude.{AreCells, Bool, Finish, HasNoRecord, Held, IsClosing, IsIn, IsLeft, Laid, MayFinish}
use Rattle.tj_run.proofs.Prelude.{None, Program, Rec, RunsTask, SeatMe, Some, about_table, ap, arith, finish_cells}
use Rattle.tj_run.proofs.Prelude.{held_in, in_either, in_left, in_right, inl, inr, let_go, map, numbers, record_cells}
use Rattle.tj_run.proofs.Prelude.{refl, rest, subst, sym, table_program, ℕ, ⊎_elim, ◌++◌, ◌∙◌, ◌∷◌, ◌≡◌, ◌⊎◌}
use Rattle.tj_park.specs.Endings.{HasFinished}
use Rattle.tj_run.proofs.Seats.OneTask.{held_one, let_go_one}
use Rattle.tj_run.proofs.Waiting.WaitConditions.{one_alarmed, tells_same}
use Rattle.tj_run.proofs.Seats.WorkersSteps.{workers_on}
use Rattle.tj_run.proofs.Seats.QuietTasks.{acts_quietly}

-- the record of a task that is to end like this
abbrev pub ends_by : {B : Type 0} → Finish → Rec B → Rec B
ends_by f r = record r { finish = Some f }

-- the cells that it names are those that it named, and those of the ending
ending_cells : {B : Type 0} (f : Finish) (r : Rec B) (c : ℕ) → IsIn c (record_cells (ends_by f r))
    → IsIn c (record_cells r) ⊎ IsIn c (finish_cells (Some f))
ending_cells f r c (inl e) = inl (inl e)
ending_cells f r c (inr i) = let held = map (λ (h : Held). h.cell.0) r.held in
    ⊎_elim
    (λ j. inl (inr (in_left c held (numbers r.owned ++ (numbers r.owed ++ finish_cells r.finish)) j)))
    (λ j. ⊎_elim
    (λ y. inl (inr (in_right c held (numbers r.owned ++ (numbers r.owed ++ finish_cells r.finish))
    (in_left c (numbers r.owned) (numbers r.owed ++ finish_cells r.finish) y))))
    (λ y. ⊎_elim
    (λ z. inl (inr (in_right c held (numbers r.owned ++ (numbers r.owed ++ finish_cells r.finish))
    (in_right c (numbers r.owned) (numbers r.owed ++ finish_cells r.finish)
    (in_left c (numbers r.owed) (finish_cells r.finish) z)))))
    (λ z. inr z)
    (in_either c (numbers r.owed) (finish_cells (Some f)) y))
    (in_either c (numbers r.owned) (numbers r.owed ++ finish_cells (Some f)) j))
    (in_either c held (numbers r.owned ++ (numbers r.owed ++ finish_cells (Some f))) i)

module _ {B : Type 0} (program : Bool → B → Program B) (laid : Laid B) (r : Rec B) (f : Finish) (me : SeatMe B)
    (runs : RunsTask laid r me) (h : IsClosing (table_program program laid) me.0 r f) where
  abbrev t : ℕ
  t = r.cell.0

  -- the task may be ended
  pub may_finish : MayFinish program t (ends_by f r) me.0
  may_finish = record {
    about = about_table laid;
    is_about = runs.worker.of_table;
    custody = runs.custody;
    held = ap (λ l. held_in l t) runs.tasks ∙ held_one t runs.custody runs.task;
    runs = runs.runs;
    out = runs.out;
    has = record {
      cell = refl;
      owned = runs.has.owned;
      made = runs.has.made;
      knows = λ c i. ⊎_elim (λ j. runs.has.knows c j) (λ j. h.knows c j) (ending_cells f r c i);
    };
    result = runs.result;
    owned_apart = runs.owned_apart;
    finish = f;
    finished = refl;
    names_apart = runs.worker.cells.apart;
    rooted = h.rooted;
    ending = record {
      point = h.point;
      body = h.body;
      ending = h.ending;
      unended = h.is_open;
      tells = tells_same me.0.born r (record h.point { body = h.body }) r.answer r.spare (Some f) h.tells;
      stands = h.stands;
      says = h.says;
      ends = h.ends;
    };
    idle = runs.worker.nothing;
    token_room = (let z = runs.worker.tokens in let l = runs.worker.lot in omega arith);
    cleared_room = (let z = runs.worker.cleared in let l = runs.worker.lot in omega arith);
    alarms = λ a. absurd (one_alarmed me.0 runs.custody runs.tasks (acts_quietly runs.custody.does runs.runs) a);
  }

  -- its slot is the last that the seat took, and the only one
  pub slot_is : me.1 ≡ (t, None) ∷ rest me.1
  slot_is = runs.slots ∙ ap (λ l. (t, None) ∷ rest l) (sym runs.slots)

  pub none_other : HasNoRecord (rest me.1)
  none_other = subst (λ l. HasNoRecord (rest l)) (sym runs.slots) tt

  -- it has left then
  pub ended_left : (m : SeatMe B) → HasFinished t (ends_by f r) me.0 m.0 → m.1 ≡ rest me.1 → IsLeft laid me.0 m
  ended_left m g e = record {
    knows = g.knows;
    free = record {
      worker = workers_on laid me.0 m.0 g.knows g.hand g.wakes g.counts
          (subst (λ b. AreCells laid.cells b) (sym g.born) runs.worker.cells) runs.worker;
      tasks = g.tasks ∙ (ap (let_go t) runs.tasks ∙ let_go_one t runs.custody runs.task);
      slots = e ∙ ap rest runs.slots;
    };
  }
