-- What a seat knows over several steps.
use Rattle.tj_words.proofs.Prelude.{Begins, IsIdle, List, None, View, [], ap, append_assoc, begins_self, begins_trans}
use Rattle.tj_words.proofs.Prelude.{refl, sym, true, ◌++◌, ◌∙◌, ◌≡◌}
use Rattle.tj_words.specs.SeatViews.KnowsMore.{AreAmong, IsTailOf, KnowsMore, HasSameHand, HasSameCounts}

pub tail_on : {A : Type 0} (xs ys zs : List A) → IsTailOf xs ys → IsTailOf ys zs → IsTailOf xs zs
tail_on xs ys zs p q = (q.0 ++ p.0, q.1 ∙ (ap (λ l. q.0 ++ l) p.1 ∙ sym (append_assoc q.0 p.0 xs)))

module _ {B : Type 0} where
  pub more_itself : (v : View B) → KnowsMore v v
  more_itself v = record {
    about = refl;
    lot = refl;
    born = begins_self v.born;
    known = λ x i. i;
    wrote = λ x i. i;
    filled = λ x i. i;
    seen = λ x i. i;
    closed = λ x i. i;
    rested = λ e. e;
    notes = ([], refl);
  }

  pub more_on : (u v w : View B) → KnowsMore u v → KnowsMore v w → KnowsMore u w
  more_on u v w p q = record {
    about = q.about ∙ p.about;
    lot = q.lot ∙ p.lot;
    born = begins_trans u.born v.born w.born p.born q.born;
    known = λ x i. q.known x (p.known x i);
    wrote = λ x i. q.wrote x (p.wrote x i);
    filled = λ x i. q.filled x (p.filled x i);
    seen = λ x i. q.seen x (p.seen x i);
    closed = λ x i. q.closed x (p.closed x i);
    rested = λ e. q.rested (p.rested e);
    notes = tail_on u.notes v.notes w.notes p.notes q.notes;
  }

  pub hand_on : (u v w : View B) → HasSameHand u v → HasSameHand v w → HasSameHand u w
  hand_on u v w p q = record { hand = q.hand ∙ p.hand; dues = q.dues ∙ p.dues }

  pub counts_on : (u v w : View B) → HasSameCounts u v → HasSameCounts v w → HasSameCounts u w
  counts_on u v w p q = record {
    tokens = q.tokens ∙ p.tokens;
    cleared = q.cleared ∙ p.cleared;
    refused = q.refused ∙ p.refused;
  }

  -- a seat that may be taken in still may, and knows what it knew
  pub record Keeps (v w : View B) : Type 0 where
    pub idle : IsIdle v → IsIdle w
    pub more : KnowsMore v w

  pub keeps_itself : (v : View B) → Keeps v v
  keeps_itself v = record { idle = λ i. i; more = more_itself v }

  pub keeps_on : (u v w : View B) → Keeps u v → Keeps v w → Keeps u w
  keeps_on u v w p q = record { idle = λ i. q.idle (p.idle i); more = more_on u v w p.more q.more }

  -- what a load leaves of the view v: no load changes these
  abbrev pub as_loaded : View B → View B → View B
  as_loaded v w = record w {
    about = v.about;
    lot = v.lot;
    wrote = v.wrote;
    closed = v.closed;
    tasks = v.tasks;
    tokens = v.tokens;
    hand = v.hand;
    dues = v.dues;
    cleared = v.cleared;
    pushes = v.pushes;
    shuts = v.shuts;
  }

  -- after a load a seat knows what it knew
  pub keeps_load : (v w : View B) → Begins v.born w.born → AreAmong v.known w.known → AreAmong v.filled w.filled
      → AreAmong v.seen w.seen → (v.rested ≡ true → w.rested ≡ true) → (v.rest ≡ None → w.rest ≡ None)
      → IsTailOf v.notes w.notes → Keeps v (as_loaded v w)
  keeps_load v w born known filled seen rested rest notes = record {
    idle = λ i. record {
      tasks = i.tasks;
      tokens = i.tokens;
      hand = i.hand;
      dues = i.dues;
      cleared = i.cleared;
      pushes = i.pushes;
      shuts = i.shuts;
      rest = rest i.rest;
    };
    more = record {
      about = refl;
      lot = refl;
      born = born;
      known = known;
      wrote = λ x i. i;
      filled = filled;
      seen = seen;
      closed = λ x i. i;
      rested = rested;
      notes = notes;
    };
  }

  -- so it does after one of which it only notes
  pub keeps_noted : (v w : View B) → (v.rested ≡ true → w.rested ≡ true) → (v.rest ≡ None → w.rest ≡ None)
      → IsTailOf v.notes w.notes
      → Keeps v (record (as_loaded v w) { born = v.born; known = v.known; filled = v.filled; seen = v.seen })
  keeps_noted v w = keeps_load v (record w { born = v.born; known = v.known; filled = v.filled; seen = v.seen })
      (begins_self v.born) (λ x i. i) (λ x i. i) (λ x i. i)
