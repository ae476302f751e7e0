-- What stands in the words and slots of a table whose last seat has come back is the meaning.
use Rattle.tj_words.proofs.Prelude.{AreCellsOf, ArePairs, AreSlots, Bool, CellId, Contents, Finish, HasName, HeldSays}
use Rattle.tj_words.proofs.Prelude.{IsCell, IsHeld, IsIn, IsKept, IsLast, IsRecordIn, IsStill, Key, List, MayRest, None}
use Rattle.tj_words.proofs.Prelude.{Option, Owns, Phase, Point, Program, Rec, Reference, RestCell, RestsAtMeaning, Rule}
use Rattle.tj_words.proofs.Prelude.{Some, Sort, State, Tells, TellsStage, View, WaitsFor, Walk, Way, [], ap, arith}
use Rattle.tj_words.proofs.Prelude.{bits_in, cell_of, dec_le, dite, get_elem?, get_or, given, held_of, history, home_of}
use Rattle.tj_words.proofs.Prelude.{in_map, inl, inr, last_round, length, names, numbers, own_at, owned, owned_by}
use Rattle.tj_words.proofs.Prelude.{owned_of, phase_sort, record_in, reference, reference_of, refl, some}
use Rattle.tj_words.proofs.Prelude.{some-injective, sort_shown, stage_there, subst, sym, tag_in, tasks, to_map, to_task}
use Rattle.tj_words.proofs.Prelude.{word, ℕ, ℕ_discrete, ⊎_elim, ◌<◌, ◌↔◌, ◌∙◌, ◌∷◌, ◌≡◌, ◌≢◌, ◌≤◌, ◌⊎◌}
use Rattle.tj_words.proofs.Lemmas.{born_apart, cell_born, cell_of_name, ground_of, inside, known_of, law_meant, name_of}
use Rattle.tj_words.proofs.Lemmas.{none_some, owner_out, parts_of, unheld}
use Rattle.tj_words.specs.AtRest.RestMeaning.{AreWordsOf, IsPhaseAt, ShowsHistory, TellsHistory, AreRecordsOf, tag_for}
use Rattle.tj_words.proofs.Cells.CellNames.{distinct_names}
use Rattle.tj_words.proofs.Meaning.ClosedWords.{read_or}
use Rattle.tj_events.specs.CoreState.{Lives}
use Rattle.tj_words.proofs.Meaning.Resting.{IsMeant, pairs_at, in_of_index, IsResting, rest_meant}
use Rattle.tj_body.specs.declared.point.Task.{Task}
use mathlib.Core.Option as maybe
use Rattle.tj_base.specs.declared.cell.Sort.TheVariants as sort
use Rattle.tj_words.specs.declared.phase.Phase.TheVariants as phase
use Rattle.tj_words.specs.declared.phase.Walk.TheVariants as walk
use Rattle.tj_words.proofs.Meaning.RestingCells as cells
use Rattle.tj_words.proofs.Meaning.RestingStates as rests

-- each element of one list has its partner in the other
pub partner : {A C : Type 0} (F : A → C → Type 0) (xs : List A) (ys : List C) (x : A) → ArePairs F xs ys → IsIn x xs
    → (y : C) × IsIn y ys × F x y
partner F [] ys x h i = absurd i
partner F (a ∷ xs) [] x h i = absurd h
partner F (a ∷ xs) (y ∷ ys) x h (inl e) = (y, inl refl, subst (λ z. F z y) (sym e) h.0)
partner F (a ∷ xs) (y ∷ ys) x h (inr i) = let w = partner F xs ys x h.1 i in (w.0, inr w.1, w.2)

pub partner_of : {A C : Type 0} (F : A → C → Type 0) (xs : List A) (ys : List C) (y : C) → ArePairs F xs ys → IsIn y ys
    → (x : A) × IsIn x xs × F x y
partner_of F [] [] y h i = absurd i
partner_of F [] (c ∷ ys) y h i = absurd h
partner_of F (x ∷ xs) [] y h i = absurd i
partner_of F (x ∷ xs) (c ∷ ys) y h (inl e) = (x, inl refl, subst (F x) (sym e) h.0)
partner_of F (x ∷ xs) (c ∷ ys) y h (inr i) = let w = partner_of F xs ys y h.1 i in (w.0, inr w.1, w.2)

-- a record that lies at home lies in its slot
pub slot_of : {B : Type 0} (m : maybe.Option (maybe.Option (Option (Rec B)))) (y : Rec B) → record_in m ≡ Some y
    → m ≡ some (some (Some y))
slot_of m y e = grind arith

-- a task that no seat holds lies at home
lies : {B : Type 0} (p : Phase) (o : Option ℕ) (h : Option (Rec B)) → ¬ IsHeld o → IsKept p o h
    → (y : Rec B) × (h ≡ Some y)
lies phase.Ready o h out k = k.1
lies phase.Ended o h out k = k.1
lies phase.Promise o h out k = absurd k
lies (phase.Waiting c way walk.Parked) o h out k = k.1
lies (phase.Waiting c way walk.Alarmed) o h out k = ⊎_elim (λ q. absurd (out q.0)) (λ q. q.1) k
lies p o h out k = absurd (out k)

-- a cell is a promise by its sort exactly where PHASE says so
promise_is : (p : Phase) → phase_sort p ≡ sort.Promise → p ≡ phase.Promise
promise_is p e = grind arith

module _ {B : Type 0} {program : Bool → B → Program B} {key : Key B} {s : State (Option (Rec B)) (View B)}
    (r : Rule program key s) (id : ℕ) {v : View B} (at : get_elem? s.views id ≡ some v) (may : MayRest v)
    {shown : List RestCell} (are : AreCellsOf s.words key.cells shown) (slots : List (Option (Rec B)))
    (long : length s.homes ≡ length slots)
    (left : (k : ℕ) (y : Option (Rec B)) → get_elem? s.homes k ≡ some (some y) → get_elem? slots k ≡ some y) where
  abbrev P : Program B
  P = program key.strict key.root.value

  abbrev x : Contents B
  x = rests.x r id at may

  abbrev n : ℕ
  n = rests.n r id at may

  abbrev born : List Reference
  born = r.law.born

  inside_born : (c : ℕ) (y : Reference) → IsCell born c y → c < n
  inside_born c y e = subst (λ k. c < k) r.law.births.all (inside born c y e)

  sort_is : (c : ℕ) (y : Reference) → IsCell born c y → y.sort ≡ phase_sort (x.words.phase c)
  sort_is c y e = r.law.births.sorts c y e
      ∙ ap (λ o. sort_shown o (x.words.phase c)) (rests.no_hand r id at may c)

  -- the slots
  slot_laid : (t : ℕ) (y : Rec B) → home_of x t ≡ Some y → get_elem? slots t ≡ some (Some y)
  slot_laid t y e = left t (Some y) (slot_of (get_elem? s.homes t) y e)

  task_laid : (t : ℕ) → t < n → phase_sort (x.words.phase t) ≡ sort.Task → (y : Rec B) × (home_of x t ≡ Some y)
  task_laid t l e = lies (x.words.phase t) (r.law.custody.holder t) (home_of x t) (rests.not_held r id at may t)
      (rests.kept r id at may t l (x.words.phase t) refl e)

  promise_slot : (t : ℕ) → t < n → phase_sort (x.words.phase t) ≡ sort.Promise → get_elem? slots t ≡ some None
  promise_slot t l e = left t None (r.law.custody.promises_empty t l
      (ap (λ o. sort_shown o (x.words.phase t)) (rests.no_hand r id at may t) ∙ e)).0

  slot_back : (t : ℕ) (y : Rec B) → get_elem? slots t ≡ some (Some y) → home_of x t ≡ Some y
  slot_back t y e = dite (dec_le n t)
      (λ (l : n ≤ t). let short = inside slots t (Some y) e in let all = r.all_slots in
      none_some None y refl (some-injective None (Some y)
      (sym (left t None (r.law.custody.undrawn_empty t l (omega arith))) ∙ e)))
      (λ l. by (omega arith) (phase_sort (x.words.phase t)) refl)
    where
      by : t < n → (k : Sort) → phase_sort (x.words.phase t) ≡ k → home_of x t ≡ Some y
      by l sort.Task q = let w = task_laid t l q in
          w.1 ∙ some-injective (Some w.0) (Some y) (sym (slot_laid t w.0 w.1) ∙ e)
      by l sort.Promise q = none_some None y refl (some-injective None (Some y) (sym (promise_slot t l q) ∙ e))

  pub are_slots : AreSlots shown slots
  are_slots = record {
    each = let a = are.all in let b = r.all_slots in let f = rests.few r id at may in omega arith;
    few = let b = r.all_slots in let f = r.few_cells in omega arith;
    promises = λ c y e. let l = cells.inside_shown r id at may are c y e in
        let p = cells.phase_shown r id at may are c y e in (
          (λ h. p ∙ promise_is (x.words.phase c) (by c l h (phase_sort (x.words.phase c)) refl)),
          (λ h. read_or slots c None None (promise_slot c l (ap phase_sort (sym p ∙ h)))),
        );
  }
    where
      by : (c : ℕ) → c < n → get_or slots c None ≡ None → (k : Sort) → phase_sort (x.words.phase c) ≡ k
          → phase_sort (x.words.phase c) ≡ sort.Promise
      by c l h sort.Promise q = q
      by c l h sort.Task q = let w = task_laid c l q in
          none_some None w.0 refl (sym h ∙ read_or slots c (Some w.0) None (slot_laid c w.0 w.1))

  -- each task has its record at home, and has ended or waits for a cell of which nothing has become
  resting : IsResting born (tag_in x) (home_of x)
  resting = record {
    at_home = λ c y e is. task_laid c (inside_born c y e) (sym (sort_is c y e) ∙ is);
    own_slots = r.law.custody.own_slots;
    stopped = λ t y e. let told = r.law.meaning.records t y e in
        let is = subst (λ c. IsCell born c (to_task told.point.name)) (r.law.custody.own_slots t y e) told.tells.of in
        stops t y (x.words.phase t) refl (rests.still r id at may t (inside_born t _ is)) (r.law.records_fit t y e);
  }
    where
      stops : (t : ℕ) (y : Rec B) (p : Phase) → x.words.phase t ≡ p → IsStill p → IsRecordIn (tag_in x) p y
          → ((f : Finish) × (y.finish ≡ Some f))
          ⊎ ((y.finish ≡ None) × ((c : ℕ) × WaitsFor y c × (tag_in x c ≡ 0)))
      stops t y phase.Ended e s i = inl i.0
      stops t y phase.Promise e s i = absurd i
      stops t y (phase.Waiting c way w) e s i = inr (i.0, (c.0, i.1, rests.no_value r id at may t c way w e))
      stops t y p e s i = absurd s

  -- what a record at home tells is shown
  module _ (t : ℕ) (y : Rec B) (e : home_of x t ≡ Some y) (p : Point B) (tells : Tells born y p)
      (tells_stage : TellsStage born y.finish y.answer y.spare p) where
    its_cell : IsCell born t (to_task p.name)
    its_cell = subst (λ c. IsCell born c (to_task p.name)) (r.law.custody.own_slots t y e) tells.of

    its_phase : IsPhaseAt born p.stage (x.words.phase t)
    its_phase = by (x.words.phase t) refl (rests.still r id at may t (inside_born t _ its_cell))
        (r.law.records_fit t y e)
      where
        not_walking : (c : CellId) (way : Way) (w : Walk)
            → IsStill (phase.Waiting c way w) → w ≢ walk.Walking
        not_walking c way w h q = grind arith

        by : (q : Phase) → x.words.phase t ≡ q → IsStill q → IsRecordIn (tag_in x) q y → IsPhaseAt born p.stage q
        by phase.Ended i h f = let w = subst (λ o. TellsStage born o y.answer y.spare p) f.0.1 tells_stage in
            subst (λ z. IsPhaseAt born z phase.Ended) (sym w.2) refl
        by phase.Promise i h f = absurd f
        by (phase.Waiting c way w) i h f = let waits = f.1 in
            let g = subst (λ a. TellsStage born None a y.spare p) waits.2
            (subst (λ o. TellsStage born o y.answer y.spare p) f.0 tells_stage) in
            let held = pairs_at (HeldSays born) y.held p.references waits.0 waits.1 (to_task p.name) tells.held
            waits.3 in
            subst (λ z. IsPhaseAt born z (phase.Waiting c way w)) (sym g.1) (
              c,
              way,
              w,
              reference p waits.0,
              refl,
              not_walking c way w h,
              subst (λ k. IsCell born k (reference p waits.0)) waits.4 held.0,
              refl,
            )
        by q i h f = absurd h

    its_list : owned_of x t ≡ numbers y.owned
    its_list = ap (λ o. owned_by o (home_of x t)) (unheld r.law t (rests.free r id at may t))
        ∙ ap (λ o. owned_by None o) e

    its_owned : (d : CellId) (z : Reference) → IsCell born d.0 z → Owns shown t d ↔ IsIn z.name (owned p)
    its_owned d z f = (forth, back) where
      l : d.0 < n
      l = inside_born d.0 z f

      owners : (x.words.own d.0 ≡ Some t) ↔ IsIn d.0 (owned_of x t)
      owners = r.law.owned.owners d.0 t (rests.there r id at may d.0 l)

      forth : Owns shown t d → IsIn z.name (owned p)
      forth h =
          let o = cells.owner_back (word s.words (own_at d.0)) t (ap (λ (w : RestCell). w.own)
          (sym (cells.shown_is r id at may are d.0 h.0 h.1)) ∙ h.2) in
          let i = in_map (λ (c : CellId). c.0) d.0 y.owned (subst (IsIn d.0) its_list (owners.0 o)) in
          let w = partner (HasName born) y.owned (owned p) i.0 tells.owned_cells i.1 in
          let same : w.2.0 ≡ z = some-injective w.2.0 z
          (sym (subst (λ k. IsCell born k w.2.0) (sym i.2) w.2.1) ∙ f) in
          subst (λ q. IsIn q (owned p)) (sym w.2.2 ∙ ap name_of same) w.1

      back : IsIn z.name (owned p) → Owns shown t d
      back i =
          let w = partner_of (HasName born) y.owned (owned p) z.name tells.owned_cells i in
          let same : w.0.0 ≡ d.0 = born_apart r.law w.0.0 d.0 w.2.0 z w.2.1 f w.2.2 in
          let o = owners.1 (subst (IsIn d.0) (sym its_list)
          (subst (λ k. IsIn k (numbers y.owned)) same (to_map (λ (c : CellId). c.0) w.0 y.owned w.1))) in (
            cell_of s.words d.0,
            cells.is_shown r id at may are d.0 l,
            cells.owner_forth (word s.words (own_at d.0)) t o,
          )

    shows : ShowsHistory born shown t p
    shows = record {
      is = its_cell;
      x = cell_of s.words t;
      is_shown = cells.is_shown r id at may are t (inside_born t _ its_cell);
      phase_is = its_phase;
      owns = its_owned;
    }

    told : TellsHistory born slots t p
    told = record {
      r = y;
      lies = slot_laid t y e;
      own = r.law.custody.own_slots t y e;
      tells = tells;
      tells_stage = tells_stage;
    }

  module _ (law : RestsAtMeaning P) (last : IsLast P) where
    -- the tasks of the last round, and a task's history
    abbrev round : List (Task B)
    round = tasks P (last_round key.cells)

    abbrev lived : Task B → Point B
    lived = history P.rules (given P (last_round key.cells))

    pub m : IsMeant born (tag_in x) (home_of x) P key.cells (bits_in x)
    m = rest_meant P key.cells {g = ground_of key.cells born x} {k = known_of x} (law_meant P key.cells x r.law)
        (born_apart r.law) r.law.births.root (let b = r.law.births.all in omega arith) resting law

    -- the words are those of the meaning
    pub words_meant : AreWordsOf P key.cells born shown
    words_meant = record {
      fits = m.fits;
      named = cells.named r id at may are;
      once = distinct_names born (born_apart r.law);
      all = λ q. (
        (λ i. let w = cell_of_name born q i in let k = r.law.meaning.names w.0 w.1 w.2 in
            ((last key.cells m.fits).0 k.0).2 q
            (subst (λ z. IsIn z (Rattle.tj_body.specs.Rounds.cells P k.0)) (sym w.3) k.1)),
        (λ i. let w = m.cells_there q i in subst (λ z. IsIn z (names born)) (sym w.3)
            (to_map name_of w.1 born (in_of_index born w.0 w.1 w.2))),
      );
      entries = λ c y z e f. ap (λ (w : RestCell). w.tag) (cells.shown_is r id at may are c y e) ∙ entry_is c z f;
      owners = λ u c h. owner_is u c (cells.owner_back (word s.words (own_at c.0)) u (ap (λ (w : RestCell). w.own)
          (sym (cells.shown_is r id at may are c.0 h.0 h.1)) ∙ h.2));
      histories = λ p i. let w = in_map lived p round i in let y = m.tasks_there w.0 w.1 in
          (y.0, subst (ShowsHistory born shown y.0) (sym w.2) (shows y.0 y.1 y.2 _ y.3 y.4));
      tasks = λ c z f g. let y = task_laid c (inside_born c z f) (sym (sort_is c z f) ∙ g) in
          let u = m.records c y.0 y.1 in (lived u.0, to_map lived u.0 round u.1, shows c y.0 y.1 _ u.2 u.3);
    }
      where
        owner_is : (u : ℕ) (c : CellId) → x.words.own c.0 ≡ Some u
            → (z : Reference) × IsCell born u z × (z.sort ≡ sort.Task)
        owner_is u c o = let w = r.law.names.owned c.0 u o in
            (reference_of born u, cell_born r.law u w.1.0, by u c o w.0.0 w.1.0 (reference_of born u).sort refl)
          where
            by : (u : ℕ) (c : CellId) → x.words.own c.0 ≡ Some u → c.0 < n → u < n → (k : Sort)
                → (reference_of born u).sort ≡ k → k ≡ sort.Task
            by u c o l k sort.Task e = refl
            by u c o l k sort.Promise e = let lives = r.law.facts.owners.owners_live c.0 u
                (owner_out born r.law.maker (parts_of key.cells x) c.0 l (rests.no_hand r id at may c.0) ∙ o) in
                absurd (subst Lives (rests.stage_is r id at may u k
                ∙ ap (λ z. stage_there u z (x.words.own u) (x.words.phase u) (held_of x u) (home_of x u))
                (sym (sort_is u (reference_of born u) (cell_born r.law u k)) ∙ e)) lives)

        entry_is : (c : ℕ) (z : Reference) → IsCell born c z
            → tag_in x c ≡ tag_for (given P (last_round key.cells) z.name)
        entry_is c z f = dite (ℕ_discrete (tag_in x c) 0)
            (λ q. q ∙ ap tag_for (sym (m.no_entry c z f q)))
            (λ q. let w = m.entries c z f q in w.2 ∙ ap tag_for (sym w.1))

    -- and so are the records
    pub records_meant : AreRecordsOf P key.cells born slots
    records_meant = record {
      histories = λ p i. let w = in_map lived p round i in let y = m.tasks_there w.0 w.1 in
          (y.0, subst (TellsHistory born slots y.0) (sym w.2) (told y.0 y.1 y.2 _ y.3 y.4));
      tasks = λ c y e. let h = slot_back c y e in let u = m.records c y h in
          (lived u.0, to_map lived u.0 round u.1, told c y h _ u.2 u.3);
    }
