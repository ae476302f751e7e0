-- The contents of a table after a store: those with another word, and the seat's view. The law after a step and what a
-- call shows are both told of these contents, so a kind of step has one path to them and no more.
use Rattle.tj_words.proofs.Prelude.{Act, Contents, MakesWith, Option, Rec, SeatMe, Slots, State, View, ap, contents_of}
use Rattle.tj_words.proofs.Prelude.{homes_after, keeps, refl, seats_have, words_say, ℕ, ◌∙◌, ◌≡◌}
use Rattle.tj_words.proofs.Stores.SeatContents.{seats_set, set_seats}
use Rattle.tj_words.proofs.Stores.StoredWords.{said, say}
use Rattle.tj_words.proofs.Stores.TableWords.{TableWord, index}

module _ {B : Type 0} where
  -- the contents once the word w of them is n, the slots are these, and seat id has the view v
  abbrev pub stored_with : State (Option (Rec B)) (View B) → ℕ → TableWord → ℕ → Slots B → View B → Contents B
  stored_with s id w n slots v = record {
    words = said (words_say s.words) w n;
    slots = slots;
    seats = set_seats (seats_have s.views) id v;
  }

  -- the same where slots stay
  abbrev pub stored : State (Option (Rec B)) (View B) → ℕ → TableWord → ℕ → View B → Contents B
  stored s id w n v = stored_with s id w n s.homes v

  -- a step that stores n into w leaves these
  pub call_stores_with : (s t : State (Option (Rec B)) (View B)) (id : ℕ) (w : TableWord) (n : ℕ) (m m' : SeatMe B)
      (a : Act (Option (Rec B))) → MakesWith a id (index w) n m m' s t → (slots : Slots B)
      → homes_after s.homes m.1 a ≡ slots → (v : View B) → m'.0 ≡ v → contents_of t ≡ stored_with s id w n slots v
  call_stores_with s t id w n m m' a h slots q v e = ap contents_of h.after ∙ (λ j. record {
    words = say s.words n w h.inside j;
    slots = q j;
    seats = (seats_set s.views id m'.0 ∙ ap (set_seats (seats_have s.views) id) e) j;
  })

  pub call_stores : (s t : State (Option (Rec B)) (View B)) (id : ℕ) (w : TableWord) (n : ℕ) (m m' : SeatMe B)
      → MakesWith keeps id (index w) n m m' s t → (v : View B) → m'.0 ≡ v → contents_of t ≡ stored s id w n v
  call_stores s t id w n m m' h = call_stores_with s t id w n m m' keeps h s.homes refl
