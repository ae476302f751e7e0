-- Loads: a step that changes no word, after which its seat knows more.
use Rattle.tj_words.proofs.Prelude.{About, All, Allows, Bool, Contents, Each, Found, HasGrown, IsCell, IsCount, IsFull}
use Rattle.tj_words.proofs.Prelude.{IsIn, IsSeat, IsSeatOf, IsStored, Key, Law, List, Option, Phase, Program, Rec}
use Rattle.tj_words.proofs.Prelude.{Reference, Rule, SeatMe, SeatsHave, State, View, [], ap, arith, at_map, contents_of}
use Rattle.tj_words.proofs.Prelude.{count_at, dite, get_elem?, keeps, live_at, live_load, live_tasks, map, none}
use Rattle.tj_words.proofs.Prelude.{noted_step, phase_at, phase_in, plain_load, refl, seat_part, seats_have}
use Rattle.tj_words.proofs.Prelude.{set, some, step, stop_at, stop_load, subst, suc, sym, total, true, word, words_say}
use Rattle.tj_words.proofs.Prelude.{zero, ℕ, ℕ_discrete, ⊎_elim, ◌+◌, ◌-◌, ◌<◌, ◌^◌, ◌∙◌, ◌∷◌, ◌≡◌, ◌≢◌, ◌≤◌}
use Rattle.tj_words.specs.declared.view.Noted.{Noted}
use Rattle.tj_words.specs.SeatViews.SeatSteps.{noted_at, IsOn, Tells}
use Rattle.tj_words.proofs.Stores.SeatLists.{back, each_set, words_same}
use Rattle.tj_words.specs.LawParts.PushedRecords.{LieAsPut}
use Rattle.tj_words.proofs.Stores.SeatContents.{seats_set, seats_same, rule_views, set_seats}
use Rattle.tj_words.proofs.SeatLoads.Learning.{Knowing, knowing_of, IsSo, law_learns, seats_learn}
use Rattle.tj_words.specs.SeatViews.Views.{loaded_plain, saw_rest, saw_live, saw_stop}
use Rattle.tj_words.specs.declared.view.Noted.TheVariants as note

-- there are no more live tasks than cells
pub live_few : (phase : ℕ → Phase) (n : ℕ) → live_tasks phase n ≤ n
live_few phase zero = omega arith
live_few phase (suc n) = let h = live_few phase n in grind arith

-- where one number of each seat is at most another, the sum of the others is theirs and what they have beyond
pub total_split : {A : Type 0} (f g : A → ℕ) (l : List A) → Each (λ j a. f a ≤ g a) l
    → total (map g l) ≡ total (map f l) + total (map (λ a. g a - f a) l)
total_split f g [] h = omega arith
total_split f g (x ∷ xs) h = let a : f x ≤ g x = h zero x refl in
    let b = total_split f g xs (λ j y e. h (suc j) y e) in omega arith

pub total_fits : {A : Type 0} (f g : A → ℕ) (l : List A) → Each (λ j a. f a ≤ g a) l
    → total (map f l) ≤ total (map g l)
total_fits f g l h = let s = total_split f g l h in omega arith

module _ {B : Type 0} where
  -- a step that changes no word, which the seat notes with the number found
  abbrev pub noted_load : Noted → (ℕ → Type 0) → Tells B
  noted_load kind May st m n m' = (m'.1 ≡ m.1) × (m'.0 ≡ noted_step kind n m.0) × May n × IsOn kind st

  -- the second view is the first one but for what the seat knows, counts and notes
  abbrev pub Knows : View B → View B → Type 0
  Knows v w = (seat_part w ≡ record (seat_part v) { born = w.born; known = w.known })
      × (w.put_home ≡ v.put_home)
      × ((y : SeatsHave B) (id : ℕ) → set_seats y id w ≡ seats_learn id (knowing_of w) y (set_seats y id v))

  -- what holds of a view alone holds of it
  knows_seat : (key : Key B) (v w : View B) → Knows v w → IsSeat key v
      → All (λ c. (r : Reference) × IsCell w.born c r) w.known
      → IsSeat key w
  knows_seat key v w k h kb = subst (IsSeatOf key) (sym k.0) record {
    about = h.about;
    named = h.named;
    within_lot = h.within_lot;
    backing = h.backing;
    known_born = kb;
  }

  -- what a seat knows is so with other chains found, and other loads of LIVE and STOP, besides
  pub found_so : {P : Program B} {cells : ℕ} {x : Contents B} {law : Law P cells x} (k : Knowing) (found : List Found)
      (rested : Bool) (told : List ℕ) → IsSo P cells x law k
      → All (λ (f : Found). HasGrown (x.words.head f.cell) (law.chains.line f.cell) f.chain) found
      → (rested ≡ true → x.words.live ≡ 0) → ((n : ℕ) → IsIn n told → n ≢ 0 → IsStored x.seats.stored n)
      → IsSo P cells x law (record k { found = found; rested = rested; told = told })
  found_so k found rested told o grown now stored = record {
    known = o.known;
    begins = o.begins;
    known_born = o.known_born;
    wrote = o.wrote;
    filled = o.filled;
    seen = o.seen;
    closed = o.closed;
    found = grown;
    rested = now;
    told = stored;
  }

  module _ (program : Bool → B → Program B) (key : Key B) where
    -- what a seat knows is so
    pub knows_so : (s : State (Option (Rec B)) (View B)) (r : Rule program key s) (id : ℕ) (v : View B)
        → get_elem? s.views id ≡ some v
        → IsSo (program key.strict key.root.value) key.cells (contents_of s) r.law (knowing_of v)
    knows_so s r id v at = let l = r.law in let m = l.meaning in record {
      known = l.names.knows id v.known (at_map (λ (u : View B). u.known) s.views id v at);
      begins = m.begins id v.born (at_map (λ (u : View B). u.born) s.views id v at);
      known_born = (r.seats id v at).known_born;
      wrote = m.wrote_stands id v.wrote (at_map (λ (u : View B). u.wrote) s.views id v at);
      filled = m.filled_stands id v.filled (at_map (λ (u : View B). u.filled) s.views id v at);
      seen = l.once_words.stands id v.seen (at_map (λ (u : View B). u.seen) s.views id v at);
      closed = l.chains.stays_shut id v.closed (at_map (λ (u : View B). u.closed) s.views id v at);
      found = l.chains.grows id v.found (at_map (λ (u : View B). u.found) s.views id v at);
      rested = l.live_count.stays_at_rest id v.rested (at_map (λ (u : View B). u.rested) s.views id v at);
      told = l.stops.found id v.told (at_map (λ (u : View B). u.told) s.views id v at);
    }

    -- what holds of a view alone holds of this one, and the records of the tasks to push lie at home as it put them
    abbrev pub IsPutSeat : State (Option (Rec B)) (View B) → View B → Type 0
    IsPutSeat s w = IsSeat key w × LieAsPut s.homes w.pushes w.put_home

    -- a load after which the law holds
    pub law_allowed : (slots id : ℕ) (m : SeatMe B) (i : ℕ) (then : ℕ → SeatMe B → Type 0)
        → ((s : State (Option (Rec B)) (View B)) (r : Rule program key s) → get_elem? s.views id ≡ some m.0
        → (w : View B) × IsPutSeat s w × Law (program key.strict key.root.value) key.cells
        record { words = words_say s.words; slots = s.homes; seats = set_seats (seats_have s.views) id w }
        × then (word s.words i) (w, m.1))
        → Allows (Rule program key) slots id m i (λ n. n) then
    law_allowed slots id m i then h s r deep at small = let t = h s r at in let w = t.0 in (
      w,
      keeps,
      tt,
      subst (λ z. Rule program key record { words = z; homes = s.homes; views = set s.views id w })
          (sym (words_same s.words i)) (rule_views r (set s.views id w) _ (seats_set s.views id w)
          (each_set _ s.views id w r.seats t.1.0) (each_set _ s.views id w r.pushed t.1.1) t.2),
      t.3,
      tt,
    )

    -- what the seat learns is so, and with it its view is as a load of n promises
    abbrev pub Learns : (s : State (Option (Rec B)) (View B)) → Rule program key s → SeatMe B
        → (ℕ → SeatMe B → Type 0) → ℕ → Type 0
    Learns s r m then n = (w : View B) × Knows m.0 w
        × IsSo (program key.strict key.root.value) key.cells (contents_of s) r.law (knowing_of w)
        × then n (w, m.1)

    -- the law holds after a load at which the seat learns what is so
    pub law_learned : (s : State (Option (Rec B)) (View B)) (r : Rule program key s) (id : ℕ) (m : SeatMe B)
        (then : ℕ → SeatMe B → Type 0) (n : ℕ) → get_elem? s.views id ≡ some m.0 → Learns s r m then n
        → (w : View B) × IsPutSeat s w × Law (program key.strict key.root.value) key.cells
        record { words = words_say s.words; slots = s.homes; seats = set_seats (seats_have s.views) id w }
        × then n (w, m.1)
    law_learned s r id m then n at t = let y = seats_have s.views in let k = knowing_of t.0 in (
      t.0,
      (
        knows_seat key m.0 t.0 t.1 (r.seats id m.0 at) t.2.known_born,
        back (λ j. LieAsPut s.homes (t.1.0 j).pushes (t.1.1 j)) (r.pushed id m.0 at),
      ),
      subst (λ z. Law (program key.strict key.root.value) key.cells
          record { words = words_say s.words; slots = s.homes; seats = z })
          (sym (t.1.2 y id ∙ ap (seats_learn id k y) (seats_same s.views id m.0 at)))
          (law_learns (program key.strict key.root.value) key.cells (contents_of s) r.law id k t.2),
      t.3,
    )

    -- a load at which the seat learns what is so
    pub load_allowed : (slots id : ℕ) (m : SeatMe B) (i : ℕ) (then : ℕ → SeatMe B → Type 0)
        → ((s : State (Option (Rec B)) (View B)) (r : Rule program key s) → get_elem? s.views id ≡ some m.0
        → Learns s r m then (word s.words i))
        → Allows (Rule program key) slots id m i (λ n. n) then
    load_allowed slots id m i then h = law_allowed slots id m i then
        (λ s r at. law_learned s r id m then (word s.words i) at (h s r at))

    -- a load that is no event
    pub plain_allowed : (slots id : ℕ) (m : SeatMe B) (i : ℕ) (kind : Noted) (May : ℕ → Type 0)
        → i ≡ noted_at kind → ((s : State (Option (Rec B)) (View B)) → Rule program key s → May (word s.words i))
        → Allows (Rule program key) slots id m i (λ n. n) (plain_load kind May (step slots i 0 0 none) m)
    plain_allowed slots id m i kind May on may =
        load_allowed slots id m i (plain_load kind May (step slots i 0 0 none) m) (λ s r at. (
          loaded_plain kind (word s.words i) m.0,
          (refl, refl, λ y id. refl),
          knows_so s r id m.0 at,
          (refl, refl, may s r, on),
        ))

    pub noted_allowed : (slots id : ℕ) (m : SeatMe B) (i : ℕ) (kind : Noted) (May : ℕ → Type 0)
        → i ≡ noted_at kind → ((s : State (Option (Rec B)) (View B)) → Rule program key s → May (word s.words i))
        → Allows (Rule program key) slots id m i (λ n. n) (noted_load kind May (step slots i 0 0 none) m)
    noted_allowed slots id m i kind May on may =
        load_allowed slots id m i (noted_load kind May (step slots i 0 0 none) m) (λ s r at. (
          noted_step kind (word s.words i) m.0,
          (refl, refl, λ y id. refl),
          knows_so s r id m.0 at,
          (refl, refl, may s r, on),
        ))

    -- LIVE is small
    pub live_small : (s : State (Option (Rec B)) (View B)) → Rule program key s → word s.words live_at < 2 ^ 32
    live_small s r = let c = r.law.live_count.counted in let l = r.law.lots.all in let f = r.few_cells in
        let p = live_few (λ c. phase_in (word s.words (phase_at c))) key.cells in
        let t =
        total_fits (λ (v : View B). v.tokens) (λ (v : View B). v.lot) s.views
        (λ j v e. (r.seats j v e).within_lot.tokens_fit) in
        omega arith

    -- COUNT is small
    pub count_few : (s : State (Option (Rec B)) (View B)) → Rule program key s → word s.words count_at < 2 ^ 32
    count_few s r = let a = r.law.lots.counted in let l = r.law.lots.all in let f = r.few_cells in
        let b =
        total_fits (λ (u : View B). u.refused) (λ (u : View B). u.lot) s.views
        (λ j u e. (r.seats j u e).within_lot.refused_fit) in
        omega arith

    -- the load of LIVE
    pub live_allowed : (slots id : ℕ) (m : SeatMe B)
        → Allows (Rule program key) slots id m live_at (λ n. n) (live_load (step slots live_at 0 0 none) m)
    live_allowed slots id m =
        load_allowed slots id m live_at (live_load (step slots live_at 0 0 none) m)
        (λ s r at. dite (ℕ_discrete (word s.words live_at) 0)
        (λ z. (
          saw_rest m.0,
          (refl, refl, λ y id. refl),
          (let o = knows_so s r id m.0 at in
              found_so (knowing_of m.0) m.0.found true m.0.told o o.found (λ e. z) o.told),
          (refl, (λ e. refl), (λ n. absurd (n z)), live_small s r, refl),
        ))
        (λ n. (
          saw_live (word s.words live_at) m.0,
          (refl, refl, λ y id. refl),
          knows_so s r id m.0 at,
          (refl, (λ e. absurd (n e)), (λ e. refl), live_small s r, refl),
        )))

    -- what may stand in the words that are loaded
    pub count_allowed : (slots id : ℕ) (m : SeatMe B) (cells : ℕ) → cells ≡ key.cells
        → Allows (Rule program key) slots id m count_at (λ n. n)
        (plain_load note.Count (IsCount cells) (step slots count_at 0 0 none) m)
    count_allowed slots id m cells e = plain_allowed slots id m count_at note.Count (IsCount cells) refl
        (λ s r. subst (λ n. IsCount n (word s.words count_at)) (sym e) r.law.facts.makers.root_there)

    -- the load of STOP tells whether the meaning is full
    pub stop_allowed : (slots id : ℕ) (m : SeatMe B)
        → Allows (Rule program key) slots id m stop_at (λ n. n) (stop_load program (step slots stop_at 0 0 none) m)
    stop_allowed slots id m =
        load_allowed slots id m stop_at (stop_load program (step slots stop_at 0 0 none) m) (λ s r at.
        let n = word s.words stop_at in let o = knows_so s r id m.0 at in (
          saw_stop n m.0,
          (refl, refl, λ y id. refl),
          found_so (knowing_of m.0) m.0.found m.0.rested (n ∷ m.0.told) o o.found o.rested
              (λ k i z. ⊎_elim (λ (e : k ≡ n). subst (IsStored (seats_have s.views).stored) (sym e)
              (r.law.stops.given (λ q. z (e ∙ q)))) (λ i. o.told k i z) i),
          (
            refl,
            refl,
            r.codes.stop,
            (λ e a f. subst (λ (z : About B). IsFull (program z.strict z.root) z.cells)
                (sym ((r.seats id m.0 at).about a f)) (r.law.meaning.full (r.law.meaning.stopped e))),
            r.law.stops.stands id m.0.stored (at_map (λ (u : View B). u.stored) s.views id m.0 at),
            refl,
          ),
        ))
