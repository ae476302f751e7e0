-- The store of a word that is written once is one of the rule, where its seat is so, and the law holds with what the
-- seats have then.
use Rattle.tj_words.proofs.Prelude.{Bool, HasWakeToCome, IsBacked, IsSeat, IsSeatOf, Key, Law, List, Once, Option}
use Rattle.tj_words.proofs.Prelude.{Program, Rec, Rule, SeatsHave, State, View, arith, once_at, seat_part, seats_have}
use Rattle.tj_words.proofs.Prelude.{without_due, words_say, ℕ, ◌<◌, ◌≡◌}
use Rattle.tj_words.proofs.Lemmas.{MayStand, Stores, put_word, set_seats, store_word}
use Rattle.tj_words.proofs.SeatLoads.KnowLoads.{once_within}
use Rattle.tj_words.proofs.Stores.TableWords.{Written}
use Rattle.tj_words.specs.LawParts.PushedRecords.{LieAsPut}
use Rattle.tj_words.proofs.Stores.OnceStores.{due_else}

-- a seat to which the word isn't due from now on is so, where it is backed if a wake is to come
pub seat_written : {B : Type 0} (key : Key B) (v : View B) (c : ℕ) (f : Once) (shuts : List ℕ) → IsSeat key v
    → (HasWakeToCome (record v { shuts = shuts }) → IsBacked v)
    → IsSeatOf key (record (seat_part v) { dues = without_due c f v.dues; shuts = shuts })
seat_written key v c f shuts q wakes = record {
  about = q.about;
  named = q.named;
  within_lot = q.within_lot;
  backing = record {
    wakes = wakes;
    tags = λ a. q.backing.tags (a.0, (due_else c f v.dues a.0 a.1).0, a.2);
    alarms = q.backing.alarms;
  };
  known_born = q.known_born;
}

module _ {B : Type 0} (program : Bool → B → Program B) (key : Key B) (s : State (Option (Rec B)) (View B))
    (r : Rule program key s) (id c n : ℕ) (f : Once) (l : c < key.cells) where
  -- the law with these seats, where the word was stored
  abbrev LawWith : SeatsHave B → Type 0
  LawWith y = Law (program key.strict key.root.value) key.cells record {
    words = record (words_say s.words) { once = put_word (words_say s.words).once c f n };
    slots = s.homes;
    seats = y;
  }

  pub once_stores : (w : View B) (y : SeatsHave B) → MayStand key.cells f n → IsSeat key w
      → LieAsPut s.homes w.pushes w.put_home
      → set_seats (seats_have s.views) id w ≡ y → LawWith y
      → Stores program key s id (once_at c f) n w
  once_stores w y may seat put same = store_word program key s id (Written c f) n w
      (let e = r.all_words in let i = once_within c key.cells f l in omega arith) may seat put _ (λ j. record {
        words = record (words_say s.words) { once = put_word (words_say s.words).once c f n };
        slots = s.homes;
        seats = same j;
      })
