-- Stores: what may be stored into a word, and a step that stores a word and changes the view of its seat.
use Rattle.tj_words.proofs.Prelude.{Allows, Bool, Codes, Contents, IsPhaseWord, IsSeat, Key, Law, List, Once, Option}
use Rattle.tj_words.proofs.Prelude.{Program, Rec, Rule, SeatMe, Slots, State, View, ap, cond, dite, eq-eqb, get_elem?}
use Rattle.tj_words.proofs.Prelude.{keeps, length, length-set, ne_eqb, put, refl, seats_have, set, shut_word, some}
use Rattle.tj_words.proofs.Prelude.{All, Push, home_in}
use Rattle.tj_words.proofs.Prelude.{subst, sym, word, words_say, ℕ, ℕ_discrete, ◌<◌, ◌^◌, ◌∙◌, ◌≡◌, ◌≢◌, ◌≤◌, ◌⊎◌}
use Rattle.tj_words.specs.LawParts.PushedRecords.{LieAsPut}
use Rattle.tj_words.proofs.Stores.SeatLists.{each_else, each_set, word_else, word_here}
use Rattle.tj_words.proofs.Stores.SeatContents.{set_seats, seats_set}
use Rattle.tj_words.proofs.Stores.StepContents.{stored, stored_with}
use Rattle.tj_words.proofs.Stores.StoredWords.{say}
use Rattle.tj_words.proofs.Stores.TableWords.{TableWord, Stop, Own, Phase, Written, Head, Next, index, same_word_at}
use Rattle.tj_words.specs.declared.offsets.Once.TheVariants as once

module _ {A : Type 0} where
  pub put_here : (f : ℕ → A) (i j : ℕ) (a : A) → j ≡ i → put f i a j ≡ a
  put_here f i j a e = ap (λ (b : Bool). cond b a (f j)) (eq-eqb j i e)

  pub put_else : (f : ℕ → A) (i j : ℕ) (a : A) → j ≢ i → put f i a j ≡ f j
  put_else f i j a n = ap (λ (b : Bool). cond b a (f j)) (ne_eqb j i n)

-- what may stand in a word that is written once, where there are so many cells
abbrev pub MayStand : ℕ → Once → ℕ → Type 0
MayStand cells once.Tag n = n ≤ 4
MayStand cells once.Bits n = Unit {0}
MayStand cells once.Parent n = n ≤ cells
MayStand cells once.Kid n = n < 2 ^ 32
MayStand cells once.Depth n = n ≤ cells
MayStand cells once.Jump n = n ≤ cells

-- and in any word
abbrev pub MayHold : ℕ → TableWord → ℕ → Type 0
MayHold cells Stop n = n ≤ 2
MayHold cells (Own c) n = n ≤ cells
MayHold cells (Phase c) n = IsPhaseWord cells n
MayHold cells (Written c f) n = MayStand cells f n
MayHold cells (Head c) n = (n ≡ shut_word) ⊎ (n ≤ cells)
MayHold cells (Next c) n = n ≤ cells
MayHold cells w n = Unit {0}

-- a number may be stored at an index where it may stand in the word there
abbrev pub MayStore : (cells i n : ℕ) → Type 0
MayStore cells i n = (w : TableWord) → index w ≡ i → MayHold cells w n

pub may_store : (cells : ℕ) (w : TableWord) (n : ℕ) → MayHold cells w n → MayStore cells (index w) n
may_store cells w n m x e = subst (λ z. MayHold cells z n) (sym (same_word_at w x e)) m

-- what holds of a word at an index holds after a store that keeps it there
pub word_keeps : (F : ℕ → Type 0) (ws : List ℕ) (i n index : ℕ) → i < length ws → (index ≡ i → F n) → F (word ws index)
    → F (word (set ws i n) index)
word_keeps F ws i n index l h k = dite (ℕ_discrete index i)
    (λ e. subst F (sym (ap (λ z. word (set ws i n) z) e ∙ word_here ws i n l)) (h e))
    (λ e. subst F (sym (word_else ws i index n e)) k)

-- a store of what may stand keeps the words
pub codes_store : (cells : ℕ) (ws : List ℕ) (i n : ℕ) → i < length ws → MayStore cells i n → Codes cells ws
    → Codes cells (set ws i n)
codes_store cells ws i n l m k = record {
  stop = holds Stop k.stop;
  each = λ c h. let w = k.each c h in record {
    own = holds (Own c) w.own;
    phase = holds (Phase c) w.phase;
    tag = holds (Written c once.Tag) w.tag;
    parent = holds (Written c once.Parent) w.parent;
    kid = holds (Written c once.Kid) w.kid;
    depth = holds (Written c once.Depth) w.depth;
    jump = holds (Written c once.Jump) w.jump;
    head = holds (Head c) w.head;
    next = holds (Next c) w.next;
  };
}
  where
    holds : (w : TableWord) → MayHold cells w (word ws (index w)) → MayHold cells w (word (set ws i n) (index w))
    holds w h = word_keeps (MayHold cells w) ws i n (index w) l (m w) h

-- these slots have the records at home, as before, of all tasks that seats other than this one are to push
abbrev pub LeavesPushed : {B : Type 0} → State (Option (Rec B)) (View B) → Slots B → ℕ → Type 0
LeavesPushed {B} s slots id = (j : ℕ) (u : View B) → j ≢ id → get_elem? s.views j ≡ some u
    → All (λ (e : Push). home_in slots e.task ≡ home_in s.homes e.task) u.pushes

module _ {B : Type 0} (program : Bool → B → Program B) (key : Key B) where
  -- what a step owes that stores n at i, leaves the slots like this, and its seat with the view w
  pub record StoresWith (s : State (Option (Rec B)) (View B)) (slots : Slots B) (id i n : ℕ) (w : View B) : Type 0
    where
      pub inside : i < length s.words
      pub as_many : length slots ≡ length s.homes
      pub may : MayStore key.cells i n
      pub seat : IsSeat key w
      pub as_put : LieAsPut slots w.pushes w.put_home
      pub leaves : LeavesPushed s slots id
      pub law : Law (program key.strict key.root.value) key.cells
          record { words = words_say (set s.words i n); slots = slots; seats = set_seats (seats_have s.views) id w }

  -- such a step keeps the rule
  pub rule_stores_with : (s : State (Option (Rec B)) (View B)) (r : Rule program key s) (slots : Slots B) (id i n : ℕ)
      (w : View B)
      → StoresWith s slots id i n w
      → Rule program key record { words = set s.words i n; homes = slots; views = set s.views id w }
  rule_stores_with s r slots id i n w h = record {
    some_cells = r.some_cells;
    rooted = r.rooted;
    few_cells = r.few_cells;
    all_words = length-set s.words i n ∙ r.all_words;
    all_slots = h.as_many ∙ r.all_slots;
    codes = codes_store key.cells s.words i n h.inside h.may r.codes;
    seats = each_set _ s.views id w r.seats h.seat;
    pushed = each_else _ s.views id w (λ j u n at e i. h.leaves j u n at e i ∙ r.pushed j u at e i) h.as_put;
    law = subst (λ z. Law (program key.strict key.root.value) key.cells
        record { words = words_say (set s.words i n); slots = slots; seats = z }) (sym (seats_set s.views id w)) h.law;
  }

  -- what a step owes that leaves the slots as they are
  abbrev pub Stores : State (Option (Rec B)) (View B) → ℕ → ℕ → ℕ → View B → Type 0
  Stores s id i n w = StoresWith s s.homes id i n w

  pub rule_stores : (s : State (Option (Rec B)) (View B)) (r : Rule program key s) (id i n : ℕ) (w : View B)
      → Stores s id i n w
      → Rule program key record { words = set s.words i n; homes = s.homes; views = set s.views id w }
  rule_stores s r id i n w h = rule_stores_with s r s.homes id i n w h

  -- a step that changes the word i by f
  pub step_allowed : (slots id : ℕ) (m : SeatMe B) (i : ℕ) (f : ℕ → ℕ) (then : ℕ → SeatMe B → Type 0)
      → ((s : State (Option (Rec B)) (View B)) (r : Rule program key s) → get_elem? s.views id ≡ some m.0
      → (w : View B) × Stores s id i (f (word s.words i)) w × then (word s.words i) (w, m.1))
      → Allows (Rule program key) slots id m i f then
  step_allowed slots id m i f then h s r deep at small = let t = h s r at in
      (t.0, keeps, tt, rule_stores s r id i (f (word s.words i)) t.0 t.1, t.2, tt)

  -- a store of n into the word w, by the law over contents to which there is a path from those that it leaves
  pub store_word_with : (s : State (Option (Rec B)) (View B)) (id : ℕ) (w : TableWord) (n : ℕ) (slots : Slots B)
      (v : View B) → index w < length s.words → length slots ≡ length s.homes → MayHold key.cells w n → IsSeat key v
      → LieAsPut slots v.pushes v.put_home → LeavesPushed s slots id
      → (y : Contents B) → stored_with s id w n slots v ≡ y → Law (program key.strict key.root.value) key.cells y
      → StoresWith s slots id (index w) n v
  store_word_with s id w n slots v l many m seat mine leaves y path law = record {
    inside = l;
    as_many = many;
    may = may_store key.cells w n m;
    seat = seat;
    as_put = mine;
    leaves = leaves;
    law = subst (λ z. Law (program key.strict key.root.value) key.cells
        record { words = z; slots = slots; seats = set_seats (seats_have s.views) id v })
        (sym (say s.words n w l)) (subst (Law (program key.strict key.root.value) key.cells) (sym path) law);
  }

  pub store_word : (s : State (Option (Rec B)) (View B)) (id : ℕ) (w : TableWord) (n : ℕ) (v : View B)
      → index w < length s.words → MayHold key.cells w n → IsSeat key v
      → LieAsPut s.homes v.pushes v.put_home
      → (y : Contents B) → stored s id w n v ≡ y → Law (program key.strict key.root.value) key.cells y
      → Stores s id (index w) n v
  store_word s id w n v l m seat mine y path law = store_word_with s id w n s.homes v l refl m seat mine
      (λ j u other at e i. refl) y path law
