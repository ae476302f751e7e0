-- The steps on LIVE keep the rule.
use Rattle.tj_words.proofs.Prelude.{Backing, Bool, IsBacked, IsLively, Key, LiveCount, Option, Program, Rec, Rule}
use Rattle.tj_words.proofs.Prelude.{SeatsHave, State, View, ap, arith, at_map, contents_of, get_elem?, length, live_at}
use Rattle.tj_words.proofs.Prelude.{seats_have, set, some, suc, with_tokens, word, words_say, ℕ, ◌-◌, ◌<◌, ◌∙◌, ◌≡◌}
use Rattle.tj_words.proofs.Prelude.{◌≤◌}
use Rattle.tj_words.proofs.Lemmas.{Live, Stores, law_kept, seats_same, store_word, stored}
use Rattle.tj_words.proofs.Waiters.LiveSteps.{count_up, count_down, held_in_phase, lively_live, backed_lively}
use Rattle.tj_words.proofs.Waiters.LiveSteps.{backing_token}

module _ {B : Type 0} (program : Bool → B → Program B) (key : Key B) (s : State (Option (Rec B)) (View B))
    (r : Rule program key s) (id : ℕ) (v : View B) (at : get_elem? s.views id ≡ some v) where
  abbrev old : SeatsHave B
  old = seats_have s.views

  tokens_at : get_elem? old.tokens id ≡ some v.tokens
  tokens_at = at_map (λ (u : View B). u.tokens) s.views id v at

  -- a seat that has a token, or a task that runs or walks, knows that LIVE isn't 0
  pub live_some : IsLively v → 0 < word s.words live_at
  live_some h = lively_live r.law.live_count id v tokens_at
      (held_in_phase r.law.custody (omega arith) id v.tasks (at_map (λ (u : View B). u.tasks) s.views id v at)) h

  module _ (n k : ℕ) (fits : k ≤ v.lot) (backs : Backing (with_tokens k v))
      (count : LiveCount key.cells n (words_say s.words).phase (set old.tokens id k) old.rested) where
    inside : live_at < length s.words
    inside = let w = r.all_words in omega arith

    path : stored s id Live n (with_tokens k v) ≡ record (contents_of s) {
      words = record (words_say s.words) { live = n };
      seats = record old { tokens = set old.tokens id k };
    }
    path j = record {
      words = record (words_say s.words) { live = n };
      slots = s.homes;
      seats = record (seats_same s.views id v at j) { tokens = set old.tokens id k };
    }

    live_stores : Stores program key s id live_at n (with_tokens k v)
    live_stores = let h = r.seats id v at in let l = h.within_lot in
        store_word program key s id Live n (with_tokens k v) inside tt record {
          about = h.about;
          named = h.named;
          within_lot =
              record { least = l.least; refused_fit = l.refused_fit; tokens_fit = fits; cleared_fit = l.cleared_fit };
          backing = backs;
          known_born = h.known_born;
        } (r.pushed id v at) _ path (let l = r.law in law_kept l (record (words_say s.words) { live = n })
        (record old { tokens = set old.tokens id k }) l.lots l.names l.tree_words l.once_words l.chains count l.stops
        l.records_fit l.meaning l.facts)

  -- LIVE up, by a seat that has a token or a running task
  pub live_up_stores : IsBacked v → suc v.tokens ≤ v.lot
      → Stores program key s id live_at (suc (word s.words live_at)) (with_tokens (suc v.tokens) v)
  live_up_stores b fits = live_stores (suc (word s.words live_at)) (suc v.tokens) fits
      (backing_token (with_tokens (suc v.tokens) v) (omega arith))
      (count_up r.law.live_count id v.tokens tokens_at (live_some (backed_lively v b)))

  -- LIVE down, by a seat that has a token, and that is as it has to be without it
  pub live_down_stores : (k : ℕ) → v.tokens ≡ suc k → Backing (with_tokens k v)
      → (0 < word s.words live_at) × Stores program key s id live_at (word s.words live_at - 1) (with_tokens k v)
  live_down_stores k e b = let l = (r.seats id v at).within_lot in let f = l.tokens_fit in
      let c = count_down r.law.live_count id k (tokens_at ∙ ap some e) in
      (c.0, live_stores (word s.words live_at - 1) k (omega arith) b c.1)
