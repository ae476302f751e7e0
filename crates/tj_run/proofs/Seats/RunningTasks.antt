-- A running task whose record has changed, but not in what its seat has for it.
use Rattle.tj_run.proofs.Prelude.{All, CellId, Held, IsIn, IsPaid, Laid, List, None, Pay, Rec, RunsTask, SeatMe, Sort}
use Rattle.tj_run.proofs.Prelude.{[], ap, arith, fill_at, fill_cells, fill_of, get_or, held_at, in_left, inl, inr}
use Rattle.tj_run.proofs.Prelude.{length, map, numbers, record_cells, refl, subst, suc, sym, to_map, zero, ℕ, ⊎_elim}
use Rattle.tj_run.proofs.Prelude.{◌<◌, ◌∙◌, ◌∷◌, ◌≡◌}
use Rattle.tj_base.specs.declared.cell.Sort.TheVariants as sort
use Rattle.tj_base.specs.declared.value.Pay.TheVariants as pay

-- what stands at an index stands in the list
pub in_at : {A : Type 0} (l : List A) (d : A) (k : ℕ) → k < length l → IsIn (get_or l k d) l
in_at [] d k h = absurd (omega arith)
in_at (x ∷ xs) d zero h = inl refl
in_at (x ∷ xs) d (suc k) h = inr (in_at xs d k (omega arith))

-- a held cell as a value names that cell
fill_names : (a : Sort) (c : CellId) (d : ℕ) → IsIn d (fill_cells (fill_of a c)) → d ≡ c.0
fill_names sort.Task c d i = ⊎_elim (λ e. e) (λ n. absurd n) i
fill_names sort.Promise c d i = ⊎_elim (λ e. e) (λ n. absurd n) i

module _ {B : Type 0} where
  -- a running task owns its result
  pub owns_some : (laid : Laid B) (r : Rec B) (me : SeatMe B) → RunsTask laid r me → r.owned ≡ [] → ⊥
  owns_some laid r me h e = subst (IsIn r.cell.0) (sym h.has.owned ∙ ap numbers e) h.result

  -- the held cell at a place is one of those held
  pub held_here : (r : Rec B) (k : ℕ) → k < length r.held
      → IsIn (held_at r.held k).cell.0 (map (λ (q : Held). q.cell.0) r.held)
  held_here r k l = let d : Held = record { cell = record { 0 = 0 }; sort = sort.Task } in
      to_map (λ (q : Held). q.cell.0) (held_at r.held k) r.held (in_at r.held d k l)

  -- the cell of what a task gives is known, as the record's cells are
  pub gives_known : (r : Rec B) (known : List ℕ) (y : Pay) → All (λ c. IsIn c known) (record_cells r)
      → IsPaid (length r.held) y
      → All (λ c. IsIn c known) (fill_cells (fill_at r.held y))
  gives_known r known (pay.Num n) h l = λ c i. absurd i
  gives_known r known (pay.Ref k) h l = λ c i. let d : Held = record { cell = record { 0 = 0 }; sort = sort.Task } in
      subst (λ z. IsIn z known) (sym (fill_names (held_at r.held k).sort (held_at r.held k).cell c i))
      (h (held_at r.held k).cell.0 (inr (in_left (held_at r.held k).cell.0 (map (λ (q : Held). q.cell.0) r.held) _
      (to_map (λ (q : Held). q.cell.0) (held_at r.held k) r.held (in_at r.held d k l)))))

  -- another record of the task, with the same cells owned and things made, whose cells are known
  pub runs_too : (laid : Laid B) (r q : Rec B) (me : SeatMe B) → q.cell ≡ r.cell → q.owned ≡ r.owned → q.made ≡ r.made
      → All (λ c. IsIn c me.0.known) (record_cells q)
      → RunsTask laid r me → RunsTask laid q me
  runs_too laid r q me cell owned made known h = record {
    worker = h.worker;
    custody = h.custody;
    tasks = h.tasks;
    slots = h.slots ∙ ap (λ (c : CellId). (c.0, None) ∷ []) (sym cell);
    task = h.task ∙ ap (λ (c : CellId). c.0) (sym cell);
    runs = h.runs;
    out = h.out;
    has = record {
      cell = refl;
      owned = ap numbers owned ∙ h.has.owned;
      made = made ∙ h.has.made;
      knows = known;
    };
    result = subst (λ (c : CellId). IsIn c.0 h.custody.owned) (sym cell) h.result;
    owned_apart = h.owned_apart;
  }
