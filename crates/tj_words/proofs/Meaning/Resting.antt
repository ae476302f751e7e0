-- A table at rest has the meaning: what stands in its words and records is what the last round gives.
use Rattle.tj_words.proofs.Prelude.{Answer, ArePairs, Becomes, BitsSay, Bool, Entry, Finish, HeldSays, IsCell, IsFull}
use Rattle.tj_words.proofs.Prelude.{List, Name, None, Option, Point, Program, Rec, Reference, RestsAtMeaning, Some}
use Rattle.tj_words.proofs.Prelude.{StandsIn, Tells, TellsStage, WaitsFor, [], ap, arith, cells, dec_le, get_or, given}
use Rattle.tj_words.proofs.Prelude.{inl, inr, last_round, length, map, refl, some-injective, subst, suc, sym}
use Rattle.tj_words.proofs.Prelude.{tag_of, tasks, to_map, zero, ℕ, ℕ_discrete, ⊎_elim, ◌∙◌, ◌∷◌, ◌≡◌, ◌≢◌, ◌≤◌, ◌⊎◌}
use Rattle.tj_body.specs.History.{Assignment, history, reference, to_task}
use Rattle.tj_body.specs.Points.{IsIn, IsAtRest, HasStopped}
use Rattle.std.specs.Prelude.{slice_get}
use Rattle.tj_body.specs.declared.point.Task.{Task}
use Rattle.tj_words.proofs.Cells.CellNames.{AreApartByName, name_of, cell_of_name, length_names}
use Rattle.tj_words.proofs.Meaning.MeaningGrows.{FilledIn, Ground, Known, Meant}
use Rattle.tj_words.proofs.SeatLoads.KnowLoads.{tag_some}
use Rattle.tj_body.proofs.Counts.{times, in_of_times, times_of_in}
use Rattle.tj_base.specs.declared.cell.Sort.TheVariants as sort
pub use Rattle.tj_words.proofs.Stores.SeatLists.{in_of_index}

module _ {B : Type 0} (born : List Reference) (tag : ℕ → ℕ) (home : ℕ → Option (Rec B)) where
  -- rest: the record of each task lies at home, where the task has ended or waits for a cell of which nothing has
  -- become
  pub record IsResting : Type 0 where
    pub at_home : (c : ℕ) (x : Reference) → IsCell born c x → x.sort ≡ sort.Task → (r : Rec B) × (home c ≡ Some r)
    pub own_slots : (t : ℕ) (r : Rec B) → home t ≡ Some r → r.cell.0 ≡ t
    pub stopped : (t : ℕ) (r : Rec B) → home t ≡ Some r
        → ((f : Finish) × (r.finish ≡ Some f)) ⊎ ((r.finish ≡ None) × ((c : ℕ) × WaitsFor r c × (tag c ≡ 0)))

  module _ (program : Program B) (N : ℕ) (bits : ℕ → ℕ) where
    -- what the meaning with this limit has for the cells
    abbrev meant : Assignment
    meant = given program (last_round N)

    -- what stands in the words and the records is the meaning
    pub record IsMeant : Type 0 where
      pub fits : ¬ IsFull program N
      pub no_entry : (c : ℕ) (x : Reference) → IsCell born c x → tag c ≡ 0 → meant x.name ≡ None
      pub entries : (c : ℕ) (x : Reference) → IsCell born c x → tag c ≢ 0
          → (e : Entry) × (meant x.name ≡ Some e) × (tag c ≡ tag_of e) × BitsSay born e (bits c)
      pub records : (t : ℕ) (r : Rec B) → home t ≡ Some r
          → (u : Task B) × IsIn u (tasks program (last_round N)) × Tells born r (history program.rules meant u)
          × TellsStage born r.finish r.answer r.spare (history program.rules meant u)
      pub tasks_there : (u : Task B) → IsIn u (tasks program (last_round N))
          → (t : ℕ) × (r : Rec B) × (home t ≡ Some r) × Tells born r (history program.rules meant u)
          × TellsStage born r.finish r.answer r.spare (history program.rules meant u)
      pub cells_there : (q : Name) → IsIn q (cells program (last_round N))
          → (c : ℕ) × (x : Reference) × IsCell born c x × (q ≡ x.name)

-- what the lists have at an index agrees
pub pairs_at : {A C : Type 0} (F : A → C → Type 0) (xs : List A) (ys : List C) (k : ℕ) (a : A) (d : C)
    → ArePairs F xs ys
    → slice_get xs k ≡ Some a → F a (get_or ys k d)
pairs_at F [] ys k a d h e = cc
pairs_at F (x ∷ xs) [] k a d h e = absurd h
pairs_at F (x ∷ xs) (y ∷ ys) zero a d h e = let q : x ≡ a = cc in subst (λ z. F z y) q h.0
pairs_at F (x ∷ xs) (y ∷ ys) (suc k) a d h e = pairs_at F xs ys k a d h.1 e

-- the point that a record at home shows
record Found {R P : Type 0} (Shows : R → P → Type 0) (x : Option R) : Type 0 where
  shown_by : Option P
  back : (p : P) → shown_by ≡ Some p → (r : R) × (x ≡ Some r) × Shows r p
  forth : (r : R) → x ≡ Some r → (p : P) × (shown_by ≡ Some p) × Shows r p

found : {R P : Type 0} (Shows : R → P → Type 0) (x : Option R) → ((r : R) → x ≡ Some r → (p : P) × Shows r p)
    → Found Shows x
found Shows None h = record { shown_by = None; back = λ p e. cc; forth = λ r e. cc }
found Shows (Some r) h = let w = h r refl in record {
  shown_by = Some w.0;
  back = λ p e. let q : w.0 ≡ p = cc in (r, refl, subst (Shows r) q w.1);
  forth = λ r' e. let s : r ≡ r' = cc in (w.0, refl, subst (λ z. Shows z w.0) s w.1);
}

module _ {B : Type 0} (program : Program B) (N : ℕ) {count stop : ℕ} {g : Ground} {home : ℕ → Option (Rec B)}
    {k : Known}
    (m : Meant program N count stop g home k) (apart : AreApartByName g.born) (root : IsCell g.born 0 (to_task []))
    (few : length g.born ≤ N) (rests : IsResting g.born g.tag home) (meaning : RestsAtMeaning program) where
  -- what has become of a cell
  record Has (c : ℕ) : Type 0 where
    entry : Option Entry
    no_entry : g.tag c ≡ 0 → entry ≡ None
    filled : g.tag c ≢ 0 → (e : Entry) × (entry ≡ Some e) × FilledIn program g c e
    only : (e : Entry) → entry ≡ Some e → FilledIn program g c e

  has : (c : ℕ) → Has c
  has c = by (ℕ_discrete (g.tag c) 0) where
    by : Dec (g.tag c ≡ 0) → Has c
    by (yes z) = record { entry = None; no_entry = λ e. refl; filled = λ n. absurd (n z); only = λ e h. cc }
    by (no n) = let w = m.entries c n in record {
      entry = Some w.0;
      no_entry = λ z. absurd (n z);
      filled = λ q. (w.0, refl, w.1);
      only = λ e h. let q : w.0 ≡ e = cc in subst (FilledIn program g c) q w.1;
    }

  -- what has become of the cell of this name, if there is one
  abbrev shown : (q : Name) → Dec (1 ≤ times q (map name_of g.born)) → Option Entry
  shown q (yes l) = (has (cell_of_name g.born q (in_of_times q (map name_of g.born) l)).0).entry
  shown q (no n) = None

  abbrev E : Assignment
  E q = shown q (dec_le 1 (times q (map name_of g.born)))

  E_is : (c : ℕ) (x : Reference) → IsCell g.born c x → E x.name ≡ (has c).entry
  E_is c x h = by (dec_le 1 (times x.name (map name_of g.born))) where
    by : (d : Dec (1 ≤ times x.name (map name_of g.born))) → shown x.name d ≡ (has c).entry
    by (yes l) = let w = cell_of_name g.born x.name (in_of_times x.name (map name_of g.born) l) in
        ap (λ n. (has n).entry) (apart w.0 c w.1 x w.2 h (sym w.3))
    by (no n) = absurd
        (n (times_of_in x.name (map name_of g.born) (to_map name_of x g.born (in_of_index g.born c x h))))

  becomes : (q : Name) (e : Entry) (d : Dec (1 ≤ times q (map name_of g.born))) → shown q d ≡ Some e
      → Becomes program q e
  becomes q e (yes l) h = let w = cell_of_name g.born q (in_of_times q (map name_of g.born) l) in
      let f = ((has w.0).only e h).written in
      subst (λ n. Becomes program n e) (ap name_of (some-injective f.reference w.1 (sym f.is ∙ w.2)) ∙ sym w.3)
      f.becomes
  becomes q e (no n) h = cc

  record Shows (t : ℕ) (r : Rec B) (p : Point B) : Type 0 where
    own : r.cell.0 ≡ t
    tells : Tells g.born r p
    tells_stage : TellsStage g.born r.finish r.answer r.spare p
    stands : StandsIn program g.born (FilledIn program g) p

  laid : (t : ℕ) → Found (Shows t) (home t)
  laid t = found (Shows t) (home t) (λ r e. let h = m.records t r e in (
    h.point,
    record { own = rests.own_slots t r e; tells = h.tells; tells_stage = h.tells_stage; stands = h.stands },
  ))

  abbrev points : ℕ → Option (Point B)
  points t = (laid t).shown_by

  cell_of : (t : ℕ) (r : Rec B) (p : Point B) → Shows t r p → IsCell g.born t (to_task p.name)
  cell_of t r p h = subst (λ z. IsCell g.born z (to_task p.name)) h.own h.tells.of

  -- the record of a task that is there
  task_home : (c : ℕ) (x : Reference) → IsCell g.born c x → x.sort ≡ sort.Task
      → (p : Point B) × (points c ≡ Some p) × (p.name ≡ x.name)
  task_home c x h e = let r = rests.at_home c x h e in let w = (laid c).forth r.0 r.1 in
      (w.0, w.1, ap name_of (some-injective (to_task w.0.name) x (sym (cell_of c r.0 w.0 w.2) ∙ h)))

  has_ended : (o : Option Finish) (f : Finish) (a : Answer) (spare : Bool) (p : Point B) → o ≡ Some f
      → TellsStage g.born o a spare p → HasStopped E p
  has_ended o f a spare p e h = let w = subst (λ z. TellsStage g.born z a spare p) e h in inl (w.0, w.2)

  waits_on : (r : Rec B) (t : ℕ) (p : Point B) (c : ℕ) → r.finish ≡ None → WaitsFor r c → g.tag c ≡ 0 → Shows t r p
      → HasStopped E p
  waits_on r t p c f waits z s =
      let w = subst (λ y. TellsStage g.born None y r.spare p) waits.2
      (subst (λ o. TellsStage g.born o r.answer r.spare p) f s.tells_stage) in
      let held = pairs_at (HeldSays g.born) r.held p.references waits.0 waits.1 (to_task p.name) s.tells.held waits.3 in
      let z' : g.tag waits.1.cell.0 ≡ 0 = ap g.tag waits.4 ∙ z in
      inr (
        (reference p waits.0).name,
        r.spare,
        w.1,
        E_is waits.1.cell.0 (reference p waits.0) held.0
            ∙ (has waits.1.cell.0).no_entry z',
      )

  resting : IsAtRest program E points
  resting = record {
    root_there = let w = task_home 0 (to_task []) root refl in (0, w.0, w.1, w.2);
    meant = λ c p e. let w = (laid c).back p e in w.2.stands.of_rounds;
    stopped = λ c p e. let w = (laid c).back p e in
        ⊎_elim (λ q. has_ended w.0.finish q.0 w.0.answer w.0.spare p q.1 w.2.tells_stage)
        (λ q. waits_on w.0 c p q.1.0 q.0 q.1.1 q.1.2 w.2) (rests.stopped c w.0 w.1);
    forked = λ c p t e i. let w = (laid c).back p e in let x = w.2.stands.children t i in
        let y = task_home x.0 x.1 x.2 x.4 in (x.0, y.0, y.1, y.2 ∙ x.3);
    written = λ c p q e h i. let w = (laid c).back p h in let x = w.2.stands.writes q e i in
        let y = (has x.0).filled (λ z. tag_some e (sym x.4.tag_is ∙ z)) in
        (y.0, subst (λ n. E n ≡ Some y.0) x.3 (E_is x.0 x.1 x.2 ∙ y.1));
    entered = λ q e h. becomes q e (dec_le 1 (times q (map name_of g.born))) h;
  }

  pub rest_meant : IsMeant g.born g.tag home program N g.bits
  rest_meant =
      let z = meaning E points resting (map name_of g.born)
      (λ c p e. let w = (laid c).back p e in
      to_map name_of (to_task p.name) g.born (in_of_index g.born c (to_task p.name) (cell_of c w.0 p w.2)))
      (λ c p q e i. let w = (laid c).back p e in let x = w.2.stands.promises q i in
      subst (λ n. IsIn n (map name_of g.born)) x.3 (to_map name_of x.1 g.born (in_of_index g.born x.0 x.1 x.2)))
      N (let l = length_names g.born in omega arith) in record {
        fits = z.0;
        no_entry = λ c x h t. sym (z.1 x.name) ∙ (E_is c x h ∙ (has c).no_entry t);
        entries = λ c x h n. let w = (has c).filled n in
            (w.0, sym (z.1 x.name) ∙ (E_is c x h ∙ w.1), w.2.tag_is, w.2.written.bits_say);
        records = λ t r e. let w = (laid t).forth r e in let u = z.2 t w.0 w.1 in (
          u.0,
          u.1,
          subst (Tells g.born r) u.2 w.2.tells,
          subst (TellsStage g.born r.finish r.answer r.spare) u.2 w.2.tells_stage,
        );
        tasks_there = λ u i. let w = z.3 u i in let y = (laid w.0).back _ w.1 in
            (w.0, y.0, y.1, y.2.tells, y.2.tells_stage);
        cells_there = λ q i. cell_of_name g.born q (z.4 q i);
      }
