-- A seat more: the law stays where it holds nothing, has nothing to do, and what it knows is so.
use Rattle.tj_words.proofs.Prelude.{About, BackingOf, Births, Contents, CoreFacts, Custodies, Custody, Hand, HasWake}
use Rattle.tj_words.proofs.Prelude.{IsForkTree, Law, List, Meaning, NamesCells, None, OnceWords, Option, OwnedLists}
use Rattle.tj_words.proofs.Prelude.{Program, SeatsHave, Some, TreeWords, View, WithinLot, [], all_lots, ap, arith}
use Rattle.tj_words.proofs.Prelude.{at_snoc, bits_in, cond, core_shown, drawn_in, find_in, get_elem?, hand_in, hand_of}
use Rattle.tj_words.proofs.Prelude.{held_in, held_of, home_of, inl, inr, least_lot, made_by, made_of, making, nat_eq}
use Rattle.tj_words.proofs.Prelude.{or_else, owned_by, owned_of, refl, right_half, seats_have, some, state_shown, subst}
use Rattle.tj_words.proofs.Prelude.{sym, tag_in, total, ℕ, ⊎_elim, ◌++◌, ◌+◌, ◌∷◌, ◌≡◌, ◌≤◌, ◌⊎◌}
use mathlib.Core.List.{map-append}
use Rattle.tj_words.proofs.Stores.SeatLists.{back, each_snoc, of_seat_snoc}
use Rattle.tj_words.proofs.SeatLoads.Learning.{IsSo, knowing_of}
use Rattle.tj_words.proofs.Waiters.ChainSeats.{chains_seats}

pub hand_snoc : (hands : List (Option Hand)) (c : ℕ) → hand_in (hands ++ None ∷ []) c ≡ hand_in hands c
hand_snoc [] c = refl
hand_snoc (None ∷ hands) c = hand_snoc hands c
hand_snoc (Some h ∷ hands) c = ap (λ o. cond (nat_eq h.cell c) (Some h) o) (hand_snoc hands c)

pub making_snoc : (hands : List (Option Hand)) (t : ℕ) → making (hands ++ None ∷ []) t ≡ making hands t
making_snoc [] t = refl
making_snoc (None ∷ hands) t = making_snoc hands t
making_snoc (Some h ∷ hands) t = ap (λ n. cond (nat_eq h.maker t) 1 n) (making_snoc hands t)

pub find_snoc : {B : Type 0} (tasks : List (List (Custody B))) (t : ℕ)
    → find_in (tasks ++ [] ∷ []) t ≡ find_in tasks t
find_snoc [] t = refl
find_snoc (ks ∷ tasks) t = ap (λ o. or_else (held_in ks t) o) (find_snoc tasks t)

pub total_snoc : (l : List ℕ) (n : ℕ) → total (l ++ n ∷ []) ≡ total l + n
total_snoc [] n = omega arith
total_snoc (x ∷ xs) n = let h = total_snoc xs n in omega arith

-- a seat that holds nothing has nothing to come, and nothing that exceeds its lot
pub idle_backing : {B : Type 0} → BackingOf {B = B} 0 [] [] [] None []
idle_backing = record {
  wakes = λ h. absurd (none h);
  tags = λ t. absurd t.1;
  alarms = λ a. let q : None ≡ Some a.1 = a.2 in absurd (cc);
}
  where
    none : HasWake [] [] None → ⊥
    none (inl n) = n refl
    none (inr (inl n)) = n refl
    none (inr (inr w)) = cc

pub unused_lot : {B : Type 0} {about : Option (About B)} {tasks : List (Custody B)} {lot : ℕ}
    → ((about ≡ None) × (tasks ≡ [])) ⊎ (least_lot ≤ lot) → WithinLot about tasks lot 0 0 0
unused_lot l =
    record { least = l; refused_fit = omega arith; tokens_fit = omega arith; cleared_fit = omega arith }

module _ {B : Type 0} where
  -- what the seats have, with one more
  abbrev pub snoc_seats : SeatsHave B → View B → SeatsHave B
  snoc_seats x w = record {
    lots = x.lots ++ w.lot ∷ [];
    refused = x.refused ++ w.refused ∷ [];
    tokens = x.tokens ++ w.tokens ∷ [];
    cleared = x.cleared ++ w.cleared ∷ [];
    hands = x.hands ++ w.hand ∷ [];
    tasks = x.tasks ++ w.tasks ∷ [];
    known = x.known ++ w.known ∷ [];
    born_seen = x.born_seen ++ w.born ∷ [];
    wrote = x.wrote ++ w.wrote ∷ [];
    filled = x.filled ++ w.filled ∷ [];
    seen = x.seen ++ w.seen ∷ [];
    dues = x.dues ++ w.dues ∷ [];
    pushes = x.pushes ++ w.pushes ∷ [];
    shuts = x.shuts ++ w.shuts ∷ [];
    rests = x.rests ++ w.rest ∷ [];
    closed = x.closed ++ w.closed ∷ [];
    found = x.found ++ w.found ∷ [];
    rested = x.rested ++ w.rested ∷ [];
    stored = x.stored ++ w.stored ∷ [];
    told = x.told ++ w.told ∷ [];
  }

  pub seats_snoc : (views : List (View B)) (w : View B)
      → seats_have (views ++ w ∷ []) ≡ snoc_seats (seats_have views) w
  seats_snoc views w j = record {
    lots = map-append (λ (v : View B). v.lot) views (w ∷ []) j;
    refused = map-append (λ (v : View B). v.refused) views (w ∷ []) j;
    tokens = map-append (λ (v : View B). v.tokens) views (w ∷ []) j;
    cleared = map-append (λ (v : View B). v.cleared) views (w ∷ []) j;
    hands = map-append (λ (v : View B). v.hand) views (w ∷ []) j;
    tasks = map-append (λ (v : View B). v.tasks) views (w ∷ []) j;
    known = map-append (λ (v : View B). v.known) views (w ∷ []) j;
    born_seen = map-append (λ (v : View B). v.born) views (w ∷ []) j;
    wrote = map-append (λ (v : View B). v.wrote) views (w ∷ []) j;
    filled = map-append (λ (v : View B). v.filled) views (w ∷ []) j;
    seen = map-append (λ (v : View B). v.seen) views (w ∷ []) j;
    dues = map-append (λ (v : View B). v.dues) views (w ∷ []) j;
    pushes = map-append (λ (v : View B). v.pushes) views (w ∷ []) j;
    shuts = map-append (λ (v : View B). v.shuts) views (w ∷ []) j;
    rests = map-append (λ (v : View B). v.rest) views (w ∷ []) j;
    closed = map-append (λ (v : View B). v.closed) views (w ∷ []) j;
    found = map-append (λ (v : View B). v.found) views (w ∷ []) j;
    rested = map-append (λ (v : View B). v.rested) views (w ∷ []) j;
    stored = map-append (λ (v : View B). v.stored) views (w ∷ []) j;
    told = map-append (λ (v : View B). v.told) views (w ∷ []) j;
  }

module _ {B : Type 0} (program : Program B) (cells : ℕ) (x : Contents B) (law : Law program cells x)
    (lots : List ℕ) (all : total lots ≡ all_lots) (v : View B) (so : IsSo program cells x law (knowing_of v)) where
  -- the contents with a seat more, which knows what this one does, where the lots are these
  abbrev pub with_seat : Contents B
  with_seat = record x { seats = record (snoc_seats x.seats (right_half v)) { lots = lots } }

  abbrev D : ℕ
  D = drawn_in cells x

  same_hands : hand_of with_seat ≡ hand_of x
  same_hands j c = hand_snoc x.seats.hands c j

  same_held : held_of with_seat ≡ held_of x
  same_held j t = find_snoc x.seats.tasks t j

  same_made : made_of with_seat ≡ made_of x
  same_made j t = made_by (same_held j t) (home_of x t) + making_snoc x.seats.hands t j

  same_owned : owned_of with_seat ≡ owned_of x
  same_owned j t = owned_by (same_held j t) (home_of x t)

  same_cleared : total (x.seats.cleared ++ 0 ∷ []) ≡ total x.seats.cleared
  same_cleared = let e = total_snoc x.seats.cleared 0 in omega arith

  same_shown : core_shown cells law.born law.maker with_seat ≡ core_shown cells law.born law.maker x
  same_shown j = state_shown D law.born law.maker (same_made j) (same_hands j) x.words.own x.words.phase (same_held j)
      (home_of x) x.words.others (same_cleared j)

  no_hand : (j : ℕ) (h : Hand) → get_elem? (x.seats.hands ++ None ∷ []) j ≡ some (Some h)
      → get_elem? x.seats.hands j ≡ some (Some h)
  no_hand j h e = ⊎_elim (λ q. q) (λ q. cc) (at_snoc x.seats.hands None (Some h) j e)

  -- the law stays
  pub law_appends : Law program cells with_seat
  law_appends = record {
    born = law.born;
    maker = law.maker;
    number = law.number;
    forks = law.forks;
    lots = record {
      all = all;
      counted = (let e = law.lots.counted in let t = total_snoc x.seats.refused 0 in omega arith);
    };
    hands = (let h = law.hands in record {
      each = λ j g e. let i = h.each j g (no_hand j g e) in record {
        drawn_cell = i.drawn_cell;
        marked = i.marked;
        marked_right = i.marked_right;
        maker_held = of_seat_snoc _ x.seats.tasks [] j i.maker_held;
      };
      apart = λ j l g i a b. h.apart j l g i (no_hand j g a) (no_hand l i b);
    });
    names = back (λ j. NamesCells D (same_hands j) x.words.own x.words.phase (home_of x) (x.seats.tasks ++ [] ∷ [])
        (x.seats.known ++ v.known ∷ [])) (let n = law.names in record {
          owned = n.owned;
          waits = n.waits;
          records = n.records;
          walks = each_snoc _ x.seats.tasks [] n.walks (λ j c i. absurd i);
          knows = each_snoc _ x.seats.known v.known n.knows (λ j. so.known);
        });
    births = back (λ j. Births D law.born law.maker law.number (same_made j) (same_hands j) x.words.phase) law.births;
    tree = back (λ j. IsForkTree D law.born law.maker law.number law.forks (same_hands j)) law.tree;
    tree_words = back (λ j. TreeWords D law.born law.maker law.number law.forks (same_hands j) x.words.once
        (x.seats.dues ++ [] ∷ [])) (let t = law.tree_words in record {
          written = t.written;
          in_hand = λ c h y f e i o. ⊎_elim (λ q. inl (q.0, of_seat_snoc _ x.seats.dues [] q.0 q.1)) (λ q. inr q)
              (t.in_hand c h y f e i o);
        });
    custody = back (λ j. Custodies cells D (same_hands j) x.words.phase x.slots (x.seats.tasks ++ [] ∷ []))
        (let c = law.custody in record {
          holder = c.holder;
          tasks_kept = c.tasks_kept;
          promises_empty = c.promises_empty;
          undrawn_empty = c.undrawn_empty;
          undrawn_free = c.undrawn_free;
          held = each_snoc _ x.seats.tasks [] c.held (λ j t y e. cc);
          holders = λ t j e. of_seat_snoc _ x.seats.tasks [] j (c.holders t j e);
          own_slots = c.own_slots;
        });
    owned = back (λ j. OwnedLists D (same_hands j) x.words.own (same_owned j)) law.owned;
    once_words = back (λ j. OnceWords D (same_hands j) (x.seats.hands ++ None ∷ []) x.words.own x.words.once
        (x.seats.seen ++ v.seen ∷ []) (x.seats.dues ++ [] ∷ [])) (let o = law.once_words in record {
          due_to = o.due_to;
          stands = each_snoc _ x.seats.seen v.seen o.stands (λ j. so.seen);
          dues_mine = each_snoc _ x.seats.dues [] o.dues_mine (λ j d i. absurd i);
          due = λ c j f e. of_seat_snoc _ x.seats.dues [] j (o.due c j f e);
          may_be_due = λ c j f e. let m = o.may_be_due c j f e in record {
            tree = λ t. of_seat_snoc _ x.seats.hands None j (m.tree t);
            value = m.value;
            tag_last = m.tag_last;
          };
          unwritten = o.unwritten;
          valued = o.valued;
          closed = o.closed;
          undrawn = o.undrawn;
        });
    chains = (let c = law.chains in chains_seats c
        (λ p n s. of_seat_snoc _ x.seats.shuts [] (c.shutter p) (c.due p n s))
        (λ t j e. of_seat_snoc _ x.seats.pushes [] j (c.pushing t j e))
        (each_snoc _ x.seats.pushes [] c.to_push (λ j e i. absurd i))
        (λ p e n. of_seat_snoc _ x.seats.rests None (c.taker p) (c.taken p e n))
        (each_snoc _ x.seats.rests None c.rest (λ j r e. cc))
        (each_snoc _ x.seats.closed v.closed c.stays_shut (λ j. so.closed))
        (each_snoc _ x.seats.found v.found c.grows (λ j. so.found)));
    live_count = (let c = law.live_count in record {
      counted = (let e = c.counted in let t = total_snoc x.seats.tokens 0 in omega arith);
      stays_at_rest = each_snoc _ x.seats.rested v.rested c.stays_at_rest (λ j. so.rested);
    });
    stops = (let q = law.stops in record {
      given = λ n. let g = q.given n in (g.0, of_seat_snoc _ x.seats.stored [] g.0 g.1);
      stands = each_snoc _ x.seats.stored [] q.stands (λ j n i. absurd i);
      found = each_snoc _ x.seats.told []
          (λ j ns e n i z. let g = q.found j ns e n i z in (g.0, of_seat_snoc _ x.seats.stored [] g.0 g.1))
          (λ j n i. absurd i);
    });
    waiters_own = law.waiters_own;
    records_fit = law.records_fit;
    meaning =
        back (λ j. Meaning program cells x.words.count x.words.stop D (same_hands j) law.born (tag_in x) (bits_in x)
        (home_of x) (x.seats.born_seen ++ v.born ∷ []) (x.seats.wrote ++ v.wrote ∷ [])
        (x.seats.filled ++ v.filled ∷ [])) (let m = law.meaning in record {
          names = m.names;
          entries = m.entries;
          records = m.records;
          full = m.full;
          stopped = m.stopped;
          begins = each_snoc _ x.seats.born_seen v.born m.begins (λ j. so.begins);
          wrote_stands = each_snoc _ x.seats.wrote v.wrote m.wrote_stands (λ j. so.wrote);
          filled_stands = each_snoc _ x.seats.filled v.filled m.filled_stands (λ j. so.filled);
        });
    undrawn = law.undrawn;
    facts = subst CoreFacts (sym same_shown) law.facts;
  }
