-- The steps of a look in the log of its seat, one after the other.
use Rattle.std.proofs.Common.{◌≡◌, ◌≢◌, ℕ, List, [], ◌∷◌, Some, refl, ap, ◌∙◌, subst, sym, inr}
use Rattle.tj_log.specs.declared.entry.Entry.{Entry}
use Rattle.tj_cells.specs.CallLogs.{Makes, Seat}
use Rattle.tj_cells.specs.ValueLogs.{LoadsEntry}
use Rattle.tj_cells.specs.declared.seen.Seen.{Seen}
use Rattle.tj_cells.specs.declared.seen.Seen.TheVariants as seen
use Rattle.tj_run.specs.declared.why.Why.{Why}
use Rattle.tj_run.specs.Leaving.{stop_word}
use Rattle.tj_words.specs.CallLaws.StepCalls as call
use Rattle.tj_words.specs.CallLaws.StepLogs.{IsLogged}
use Rattle.tj_words.specs.declared.offsets.Once.TheVariants as once
use Rattle.tj_future.specs.Looks.{told_as}
use Rattle.tj_future.specs.LookLogs.{MakesLook, live_load, loads_to, stop_load, tag_load}
use Rattle.tj_future.specs.declared.watched.Watched.TheVariants as watched

module _ {B : Type 0} where
  -- one step more
  on : (es : List Entry) (e : Entry) (u v w : Seat B) → Makes es u v → (w.log ≡ e ∷ v.log) × (w.took ≡ v.took)
      → Makes (e ∷ es) u w
  on es e u v w h s = (s.0 ∙ ap (λ l. e ∷ l) h.0, s.1 ∙ h.1)

  module _ (p : ℕ) (u v w : Seat B) (tag : IsLogged (call.sees_once p once.Tag) 0 0 0 u v) where
    -- STOP was loaded as the word that says why
    pub stopped_so : (why : Why) (n : ℕ) → IsLogged call.sees_stop 0 0 n v w → stop_word why ≡ n
        → MakesLook p (Some (watched.Stopped why)) u w
    stopped_so why n h e = on (tag_load p ∷ []) (stop_load (stop_word why)) u v w tag
        (subst (λ k. IsLogged call.sees_stop 0 0 k v w) (sym e) h)

    -- STOP was loaded as 0, and LIVE as this
    pub loaded_to : (x : Seat B) (n live : ℕ) → IsLogged call.sees_stop 0 0 n v w → n ≡ 0
        → IsLogged call.sees_live 0 0 live w x → Makes (loads_to p live) u x
    loaded_to x n live h e l = on (stop_load 0 ∷ tag_load p ∷ []) (live_load live) u w x
        (on (tag_load p ∷ []) (stop_load 0) u v w tag (subst (λ k. IsLogged call.sees_stop 0 0 k v w) e h)) l

  -- the words of the cell were read after LIVE was loaded as 0
  pub found_at_rest : (p : ℕ) (s : Seen) (u v w : Seat B) → Makes (loads_to p 0) u v
      → (s ≡ seen.NotYet → IsLogged (call.sees_once p once.Tag) 0 0 0 v w) → (s ≢ seen.NotYet → LoadsEntry p s v w)
      → MakesLook p (Some (told_as s)) u w
  found_at_rest p (seen.Num i) u v w h nothing entry =
      inr (v, h, entry (λ e. let q : seen.Num i ≡ seen.NotYet = e in cc))
  found_at_rest p (seen.Promise c) u v w h nothing entry =
      inr (v, h, entry (λ e. let q : seen.Promise c ≡ seen.NotYet = e in cc))
  found_at_rest p (seen.Task c) u v w h nothing entry =
      inr (v, h, entry (λ e. let q : seen.Task c ≡ seen.NotYet = e in cc))
  found_at_rest p seen.Broken u v w h nothing entry =
      inr (v, h, entry (λ e. let q : seen.Broken ≡ seen.NotYet = e in cc))
  found_at_rest p seen.NotYet u v w h nothing entry = on (loads_to p 0) (tag_load p) u v w h (nothing refl)
