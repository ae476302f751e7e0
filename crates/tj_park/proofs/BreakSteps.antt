-- A promise that a task owes is broken, and those who wait for it are woken.
use Rattle.tj_park.proofs.Prelude.{AreApart, Bool, CellId, Custody, Entry, HasAlarmed, HasBroken, HasSeen, HasWoken}
use Rattle.tj_park.proofs.Prelude.{IsIn, IsTailOf, IsToBecome, KnowsMore, List, MayBreak, MayGiveUp, MayWake, None}
use Rattle.tj_park.proofs.Prelude.{Program, SlotsOf, Some, View, WillBecome, [], ap, arith, became}
use Rattle.tj_park.proofs.Prelude.{begins_self, cell, cond, drop, eq-eqb, gave_up, get_or, held_in, held_task, inl, inr}
use Rattle.tj_park.proofs.Prelude.{inside, length, let_go, more_in_front, more_itself, more_on, ne_eqb, noted_here}
use Rattle.tj_park.proofs.Prelude.{numbers, one_some, refl, subst, sym, tail_on, without, without_due, ℕ, ⊎_elim}
use Rattle.tj_park.proofs.Prelude.{◌+◌, ◌<◌, ◌∙◌, ◌∷◌, ◌≡◌, ◌≤◌, ◌⊎◌}
use Rattle.std.proofs.lemmas.List.{drop_all, drop_more}
use mathlib.Core.Logic.{dite}
use native.Mathlib.Decide.{ℕ_discrete}
use Rattle.tj_words.proofs.Holders.NotedEntries.{noted_else}
use Rattle.tj_cells.proofs.TaskNotes.{let_go_again, let_go_first, noted_front}
use Rattle.tj_park.specs.Inner.Breaks.{OwnsStill}
use Rattle.tj_park.specs.Records.{AlarmsLeave, HasNoRecord}
use Rattle.tj_park.proofs.WakeLoops.{noted_tail}
use Rattle.tj_body.specs.declared.point.Entry.TheVariants as entry
use Rattle.tj_words.specs.declared.offsets.Once.TheVariants as once
use Rattle.tj_park.proofs.OwnedCells.{owner_still}

-- what isn't there is left out of nothing
without_none : (p : ℕ) (ns : List ℕ) → ¬ IsIn p ns → without p ns ≡ ns
without_none p [] n = refl
without_none p (x ∷ ns) n =
    ap (λ b. cond b (without p ns) (x ∷ without p ns)) (ne_eqb x p (λ e. n (inl (sym e))))
    ∙ ap (λ l. x ∷ l) (without_none p ns (λ i. n (inr i)))

pub without_first : (p : ℕ) (ns : List ℕ) → without p (p ∷ ns) ≡ without p ns
without_first p ns = ap (λ b. cond b (without p ns) (p ∷ without p ns)) (eq-eqb p p refl)

-- of numbers that stand once each the second is left out
without_second : (t p : ℕ) (ns : List ℕ) → AreApart (t ∷ p ∷ ns) → without p (t ∷ p ∷ ns) ≡ t ∷ ns
without_second t p ns a = let b : ¬ IsIn p ns × AreApart ns = a.1 in
    ap (λ b. cond b (without p (p ∷ ns)) (t ∷ without p (p ∷ ns))) (ne_eqb t p (λ e. a.0 (inl e)))
    ∙ ap (λ l. t ∷ l) (without_first p ns ∙ without_none p ns b.0)

apart_second : (t p : ℕ) (ns : List ℕ) → AreApart (t ∷ p ∷ ns) → AreApart (t ∷ ns)
apart_second t p ns a = let b : ¬ IsIn p ns × AreApart ns = a.1 in ((λ i. a.0 (inr i)), b.1)

module _ {B : Type 0} (t p : ℕ) (e : Entry) (v : View B) (k : Custody B) (held : held_in v.tasks t ≡ Some k) where
  -- what the seat has for the task once the cell is closed
  pub held_closed : held_in (became t p e v).tasks t ≡ Some (gave_up p k)
  held_closed = noted_here v.tasks t k (gave_up p) held refl

  pub others_closed : let_go t (became t p e v).tasks ≡ let_go t v.tasks
  others_closed = ap (λ l. let_go t l) (noted_front v.tasks t k held (gave_up p) refl)
      ∙ (let_go_first t (gave_up p k) (let_go t v.tasks) (held_task v.tasks t k held) ∙ let_go_again t v.tasks)

  pub alarms_closed : AlarmsLeave 0 v → AlarmsLeave 0 (became t p e v)
  alarms_closed h a = dite (ℕ_discrete a.0 t)
      (λ q. absurd (subst HasAlarmed (ap (λ (z : Custody B). z.does) (one_some a.1 (gave_up p k)
      (sym a.2 ∙ (ap (held_in (became t p e v).tasks) q ∙ held_closed)))) a.3))
      (λ n. h (a.0, a.1, sym (noted_else v.tasks t k (gave_up p) held refl a.0 n) ∙ a.2, a.3))

  -- those who wait for the cell may be woken then
  pub may_wake_closed : (slots : SlotsOf B) → HasNoRecord slots → v.rest ≡ None → v.tokens < v.lot
      → v.cleared < v.lot → AlarmsLeave 0 v → MayWake p (became t p e v, slots)
  may_wake_closed slots none no_rest tokens cleared alarms = record {
    wakes = record {
      backed = inr (t, gave_up p k, held_closed, tt);
      alarms = alarms_closed alarms;
      token_room = tokens;
      cleared_room = cleared;
      no_record = none;
    };
    entry = (record { cell = p; entry = e }, inl refl, refl);
    no_rest = no_rest;
  }

module _ {B : Type 0} {program : Bool → B → Program B} {t : ℕ} {promises left : List CellId} {c : CellId}
    {v w : View B} (may : MayBreak program t promises v) (h : HasBroken t promises (c ∷ left) v w) where
  -- it may be broken
  pub may_give_up : MayGiveUp t c.0 w
  may_give_up = (
    record {
      task = t;
      owner = owner_still h.owns (inr (inl refl));
      last = λ e. absurd (h.owns.apart.0 (inl (sym e)));
    },
    refl,
  )

  becomes : IsToBecome (program may.about.strict may.about.root) w.born c.0 entry.Broken
  becomes = subst (λ b. IsToBecome (program may.about.strict may.about.root) b c.0 entry.Broken) (sym h.born)
      (may.breaks c (h.within c (inl refl)))

  pub will_break : WillBecome program c.0 entry.Broken w
  will_break = record { about = may.about; is_about = h.knows.about ∙ may.is_about; becomes = becomes }

  pub is_small : (cells : ℕ) → length v.born ≤ cells → c.0 < cells
  is_small cells few = let b = becomes in let i = inside w.born c.0 b.0 b.1 in
      let l : length w.born ≡ length v.born = ap length h.born in omega arith

  module _ {w1 : View B} (broke : w1 ≡ became t c.0 entry.Broken w) where
    pub may_wake_broken : (slots : SlotsOf B) → HasNoRecord slots → MayWake c.0 (w1, slots)
    may_wake_broken slots none = subst (λ (x : View B). MayWake c.0 (x, slots)) (sym broke)
        (may_wake_closed t c.0 entry.Broken w h.owns.custody h.owns.held slots none h.idle.rest
        (let a = h.counts.tokens in let l = h.knows.lot in let r = may.token_room in omega arith)
        (let a = h.counts.cleared in let l = h.knows.lot in let r = may.cleared_room in omega arith) h.alarms)

    module _ {chain : List ℕ} {w2 : View B} (woke : HasWoken c.0 chain [] w1 w2) where
      abbrev woken : View B → View B
      woken x = record x {
        steps = w2.steps;
        plain_loads = x.plain_loads + length chain;
        shuts = without c.0 x.shuts;
        rest = None;
        closed = c.0 ∷ x.closed;
        notes = w2.notes;
      }

      abbrev now : View B
      now = woken (became t c.0 entry.Broken w)

      pub now_is : w2 ≡ now
      now_is = woke.view ∙ ap woken broke

      no_dues : without_due c.0 once.Tag (without_due c.0 once.Bits w.dues) ≡ []
      no_dues = ap (λ d. without_due c.0 once.Tag (without_due c.0 once.Bits d)) h.idle.dues

      knows_now : KnowsMore v now
      knows_now = more_on v w now h.knows
          (more_in_front w now [] (_ ∷ []) (_ ∷ []) [] (c.0 ∷ []) (begins_self w.born)
          (subst (λ l. IsTailOf l w2.notes) (ap (λ (u : View B). u.notes) broke)
          (noted_tail c.0 chain [] w1 w1.notes w2.notes woke.noted)))

      abbrev owns_now : OwnsStill t left now
      owns_now = record {
        custody = gave_up c.0 h.owns.custody;
        held = held_closed t c.0 entry.Broken w h.owns.custody h.owns.held;
        runs = tt;
        out = h.owns.out;
        owned = ap (without c.0) h.owns.owned ∙ without_second t c.0 (numbers left) h.owns.apart;
        apart = apart_second t c.0 (numbers left) h.owns.apart;
      }

      entry_now : (d : CellId) → IsIn d (c ∷ left) ⊎ HasSeen w.filled d.0 entry.Broken
          → IsIn d left ⊎ HasSeen now.filled d.0 entry.Broken
      entry_now d s = ⊎_elim
          (λ (j : (d ≡ c) ⊎ IsIn d left). ⊎_elim
          (λ (e : d ≡ c). inr (subst (λ (x : CellId). HasSeen now.filled x.0 entry.Broken) (sym e) (inl refl)))
          (λ (i : IsIn d left). inl i) j)
          (λ (f : HasSeen w.filled d.0 entry.Broken). inr (inr f)) s

      broken_now : HasBroken t promises left v now
      broken_now = record {
        knows = knows_now;
        born = h.born;
        owns = owns_now;
        made = h.made;
        others = others_closed t c.0 entry.Broken w h.owns.custody h.owns.held ∙ h.others;
        hand = record { hand = h.hand.hand; dues = no_dues ∙ sym may.idle.dues };
        counts = record { tokens = h.counts.tokens; cleared = h.counts.cleared; refused = h.counts.refused };
        idle = record {
          hand = h.idle.hand;
          dues = no_dues;
          pushes = h.idle.pushes;
          shuts = ap (λ l. without c.0 (c.0 ∷ l)) h.idle.shuts ∙ without_first c.0 [];
          rest = refl;
        };
        alarms = alarms_closed t c.0 entry.Broken w h.owns.custody h.owns.held h.alarms;
        within = λ x i. h.within x (inr i);
        put_home = h.put_home;
        entries = λ d i. entry_now d (h.entries d i);
      }

      -- one promise more is broken
      pub one_broken : HasBroken t promises left v w2
      one_broken = subst (HasBroken t promises left v) (sym now_is) broken_now

-- nothing is broken yet
pub none_broken : {B : Type 0} (program : Bool → B → Program B) (t : ℕ) (promises : List CellId) (v : View B)
    → MayBreak program t promises v → HasBroken t promises promises v v
none_broken {B} program t promises v m = record {
  knows = more_itself v;
  born = refl;
  owns = m.owns;
  made = λ k e. ap (λ (z : Custody B). z.made) (one_some m.owns.custody k (sym m.owns.held ∙ e));
  others = refl;
  hand = record { hand = refl; dues = refl };
  counts = record { tokens = refl; cleared = refl; refused = refl };
  idle = m.idle;
  alarms = m.alarms;
  within = λ x i. i;
  put_home = refl;
  entries = λ c i. inl i;
}

module _ {B : Type 0} {t : ℕ} {promises : List CellId} (i : ℕ) {v w : View B}
    (h : HasBroken t promises (drop i promises) v w) where
  -- the first of those left
  pub next_left : i < length promises → HasBroken t promises (get_or promises i (cell 0) ∷ drop (i + 1) promises) v w
  next_left few = subst (λ l. HasBroken t promises l v w) (drop_more promises i (cell 0) few) h

  -- none is left
  pub none_left : length promises ≤ i → HasBroken t promises [] v w
  none_left most = subst (λ l. HasBroken t promises l v w) (drop_all i promises most) h

-- of which table the seat is stays known, where a promise was broken and some were woken
pub about_kept : {B : Type 0} (p : ℕ) (woken left : List ℕ) (t : ℕ) (v v1 v2 v3 : View B) → v1.about ≡ v.about
    → v2 ≡ became t p entry.Broken v1 → HasWoken p woken left v2 v3 → v3.about ≡ v.about
about_kept {B} p woken left t v v1 v2 v3 e broke woke = ap (λ (u : View B). u.about) woke.view
    ∙ (ap (λ (u : View B). u.about) broke ∙ e)

-- what the seat noted then stands in front of its notes
pub notes_kept : {B : Type 0} (p : ℕ) (woken left : List ℕ) (t : ℕ) (v v1 v2 v3 : View B) → IsTailOf v.notes v1.notes
    → v2 ≡ became t p entry.Broken v1 → HasWoken p woken left v2 v3 → IsTailOf v.notes v3.notes
notes_kept {B} p woken left t v v1 v2 v3 e broke woke = tail_on v.notes v2.notes v3.notes
    (subst (λ (u : View B). IsTailOf v.notes u.notes) (sym broke) e)
    (noted_tail p woken left v2 v2.notes v3.notes woke.noted)
