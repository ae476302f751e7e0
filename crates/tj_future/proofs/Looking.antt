-- What a seat knew it knows after a look, and what the last of some looks was answered is what all of them came to.
use Rattle.std.proofs.Common.{◌≡◌, ◌≢◌, ℕ, [], ◌∷◌, Bool, true, refl, sym, ap, ◌∙◌, subst, inr, arith}
use Rattle.tj_body.specs.Programs.{Program}
use Rattle.tj_body.proofs.Lists.{in_right}
use Rattle.tj_cells.specs.declared.seen.Seen.{Seen}
use Rattle.tj_cells.specs.declared.seen.Seen.TheVariants as seen
use Rattle.tj_cells.specs.SeenValues.{SeesValue, cells_seen, saw_value}
use Rattle.tj_words.specs.declared.view.Noted.TheVariants as note
use Rattle.tj_words.specs.declared.view.View.{View}
use Rattle.tj_words.specs.SeatViews.KnowsMore.{KnowsMore}
use Rattle.tj_words.specs.CallLaws.RestedRuns.{NoValueComes}
use Rattle.tj_words.specs.SeatViews.FullMeaning.{NamesFull}
use Rattle.tj_words.specs.SeatViews.SeenWords.{FindsNothing}
use Rattle.tj_words.specs.SeatViews.Views.{IsIdle, loaded_once, note_of, saw_live, saw_rest, saw_stop}
use Rattle.tj_words.proofs.SeatLoads.KnowsMoreOn.{keeps_load, keeps_noted, more_itself, more_on}
use Rattle.tj_run.specs.declared.why.Why.{Why}
use Rattle.tj_run.specs.declared.why.Why.TheVariants as why
use Rattle.tj_run.specs.Leaving.{IsTold, stop_word}
use Rattle.tj_future.specs.declared.watched.Watched.{Watched}
use Rattle.tj_future.specs.declared.watched.Watched.TheVariants as watched
use Rattle.tj_future.specs.Looks.{Answers, ComesToRest, GoesOn, IsNeverFilled, IsWatched, LoadsStop, RestsWithout}
use Rattle.tj_future.specs.Looks.{told_as}

module _ {B : Type 0} where
  -- a load of TAG that found 0, and then one of STOP that did
  abbrev noted_stop : View B → View B
  noted_stop v = saw_stop 0 (loaded_once v)

  -- a look that found nothing left what the seat knew
  pub knows_still : {program : Bool → B → Program B} (p : ℕ) (v w : View B) → GoesOn program p v w → KnowsMore v w
  knows_still p v w h = let s = h.not_stopped in
      subst (KnowsMore v) (sym (h.view ∙ ap (saw_live h.live) (s.view ∙ ap (saw_stop 0) s.nothing.view)))
      (keeps_noted v (saw_live h.live (noted_stop v)) (λ e. e) (λ e. e) (
        note_of note.Live h.live (noted_stop v) ∷ note_of note.Stop 0 (loaded_once v) ∷ [],
        refl,
      )).more

  -- a look found STOP to be 0
  not_stopped : (program : Bool → B → Program B) (p stop : ℕ) (v u s : View B) → FindsNothing p v u
      → s ≡ saw_stop stop u → stop ≡ 0 → LoadsStop program p 0 v s
  not_stopped program p stop v u s f e z =
      record { looked = u; nothing = f; view = e ∙ ap (λ n. saw_stop n u) z }

  -- a look that found STOP and LIVE to be 0 has come to rest
  pub rests_at : (program : Bool → B → Program B) (p stop : ℕ) (v u s w : View B) → FindsNothing p v u
      → s ≡ saw_stop stop u → stop ≡ 0 → w ≡ saw_rest s → ComesToRest program p v w
  rests_at program p stop v u s w f e z k =
      record { open_still = s; not_stopped = not_stopped program p stop v u s f e z; view = k }

  -- one that found LIVE above 0 goes on
  pub goes_on_at : (program : Bool → B → Program B) (p stop live : ℕ) (v u s w : View B) → FindsNothing p v u
      → s ≡ saw_stop stop u → stop ≡ 0 → live ≢ 0 → w ≡ saw_live live s → GoesOn program p v w
  goes_on_at program p stop live v u s w f e z some k = record {
    open_still = s;
    not_stopped = not_stopped program p stop v u s f e z;
    live = live;
    above = omega (arith, some);
    view = k;
  }

  -- which leaves an idle seat idle
  pub idle_at_rest : (program : Bool → B → Program B) (p : ℕ) (v w : View B) → IsIdle v → ComesToRest program p v w
      → IsIdle w
  idle_at_rest program p v w i h = let s = h.not_stopped in
      subst IsIdle (sym (h.view ∙ ap (λ (u : View B). saw_rest u) (s.view ∙ ap (saw_stop 0) s.nothing.view)))
      ((keeps_noted v (saw_rest (noted_stop v)) (λ e. refl) (λ e. e) (
        note_of note.Live 0 (noted_stop v) ∷ note_of note.Stop 0 (loaded_once v) ∷ [],
        refl,
      )).idle i)

  -- a seat that has loaded LIVE as 0 shows that a cell whose TAG is 0 is never filled
  pub never_filled : NoValueComes B → (program : Bool → B → Program B) (p : ℕ) (v : View B) → v.rested ≡ true
      → IsNeverFilled program p v
  never_filled law program p v e key u later id at tag moments = law program key u later moments id p v at e tag

  module _ (program : Bool → B → Program B) (cells p : ℕ) where
    -- one look is a watch
    pub watched_at : (a : Watched) (v w : View B) → Answers program cells p a v w → IsWatched program cells p a v w
    watched_at a v w h = (v, more_itself v, h)

    -- so is one look after others
    pub watched_after : (a : Watched) (u v w : View B) → KnowsMore u v → Answers program cells p a v w
        → IsWatched program cells p a u w
    watched_after a u v w k h = (v, k, h)

    -- a watch after a look is a watch
    pub watched_on : (a : Watched) (u v w : View B) → KnowsMore u v → IsWatched program cells p a v w
        → IsWatched program cells p a u w
    watched_on a u v w k h = (h.0, more_on u v h.0 k h.1, h.2)

    -- what STOP said is told
    pub tells_stopped : (cause : Why) (stop : ℕ) (v u w : View B) → FindsNothing p v u
        → w ≡ saw_stop stop u → stop_word cause ≡ stop → (stop ≡ 1 → NamesFull program u)
        → Answers program cells p (watched.Stopped cause) v w
    tells_stopped cause stop v u w f e is full =
        (record { looked = u; nothing = f; view = e ∙ ap (λ n. saw_stop n u) (sym is) }, by cause is)
      where
        by : (z : Why) → stop_word z ≡ stop → IsTold program z v
        by why.Full i = λ a q. full (sym i) a (ap (λ (z : View B). z.about) f.view ∙ q)
        by why.Memory i = tt

    -- reading the cell leaves an idle seat idle
    pub idle_seen : (s : Seen) (v w : View B) → IsIdle v → (s ≡ seen.NotYet → FindsNothing p v w)
        → (s ≢ seen.NotYet → SeesValue program cells p s v w) → IsIdle w
    idle_seen s v w i none sees = by s refl
      where
        nothing : FindsNothing p v w → IsIdle w
        nothing f = subst IsIdle (sym f.view) ((keeps_noted v (loaded_once v) (λ e. e) (λ e. e) ([], refl)).idle i)

        value : SeesValue program cells p s v w → IsIdle w
        value f = subst IsIdle (sym f.view) ((keeps_load v (saw_value p f.entry (cells_seen s) f.born v) f.begins
            (λ x k. in_right x (cells_seen s) (p ∷ v.known) (inr k)) (λ x k. inr k) (λ x k. k) (λ e. e) (λ e. e)
            ([], refl)).idle i)

        by : (z : Seen) → s ≡ z → IsIdle w
        by seen.NotYet e = nothing (none e)
        by z e = value (sees (λ q. let d : z ≡ seen.NotYet = sym e ∙ q in cc))

  -- a look that found LIVE to be 0 tells what it found of the cell after that
  module _ (law : NoValueComes B) (program : Bool → B → Program B) (cells p : ℕ) (v at w : View B)
      (comes : ComesToRest program p v at) where
    rests_then : FindsNothing p at w → RestsWithout program p v w
    rests_then f = record {
      at_rest = at;
      comes = comes;
      nothing = f;
      for_good = never_filled law program p at (ap (λ (u : View B). u.rested) comes.view);
    }

    pub tells_last : (s : Seen) (told : Watched) → told ≡ told_as s → (s ≡ seen.NotYet → FindsNothing p at w)
        → (s ≢ seen.NotYet → SeesValue program cells p s at w) → Answers program cells p told v w
    tells_last s told is none sees = subst (λ a. Answers program cells p a v w) (sym is) (by s refl)
      where
        by : (z : Seen) → s ≡ z → Answers program cells p (told_as z) v w
        by seen.NotYet e = rests_then (none e)
        by z e = inr (
          at,
          comes,
          subst (λ y. SeesValue program cells p y at w) e (sees (λ q. let d : z ≡ seen.NotYet = sym e ∙ q in cc)),
        )
