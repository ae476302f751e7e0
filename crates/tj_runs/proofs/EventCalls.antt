-- The calls on OTHERS and a walker's loads are events: a task of the seat does something else, and no word but OTHERS
-- is changed; so makers and numbers of cells stay.
use Rattle.tj_words.proofs.Prelude.{Bool, Contents, Event, IsWalking, List, MakesWith, MayRaise, MayReadOwner, Option}
use Rattle.tj_words.proofs.Prelude.{Program, Rule, SeatMe, SeatsHave, Some, State, Walker, Way, ap, arith, at_map}
use Rattle.tj_words.proofs.Prelude.{cell, contents_of, drawn_in, held_in, hold, keeps, lowered, others_at, owner_read}
use Rattle.tj_words.proofs.Prelude.{owner_seen, phase_of, refl, seats_have, set, suc, sym, total, turned, walk_with}
use Rattle.tj_words.proofs.Prelude.{word, words_say, ℕ, ⊎_elim, ◌+◌, ◌-◌, ◌<◌, ◌∙◌, ◌≡◌}
use Rattle.tj_record.specs.declared.record.Rec.{Rec}
use Rattle.tj_words.specs.declared.table.Key.{Key}
use Rattle.tj_words.specs.declared.view.Custody.{Custody}
use Rattle.tj_words.specs.declared.view.Does.{Does}
use Rattle.tj_words.specs.declared.view.View.{View}
use Rattle.tj_words.proofs.Lemmas.{IsEventStep, IsHeldWith, Proceeds, ReadsOn, ShowsEvent, back, parts_of, seats_same}
use Rattle.tj_words.proofs.Lemmas.{seats_set, total_set, words_same}
use Rattle.tj_words.specs.Calls.WalkViews.{read_on}
use Rattle.tj_words.proofs.Waiters.OthersSteps.{acting_phase}
use Rattle.tj_words.proofs.SeatLoads.WalkLoads.{held_by_view, turned_seats}
use Rattle.tj_words.proofs.SeatLoads.WalkReads.{doing, task_turned, turned_to}
use Rattle.tj_words.proofs.Stores.StoredWords.{say_others}
use Rattle.tj_words.proofs.Events.WaitClears.{lower_shown}
use Rattle.tj_words.proofs.Events.WalkEvents.{raise_shown}
use Rattle.tj_words.proofs.Calls.KeptCells.{kept_moved, kept_words}
use Rattle.tj_events.specs.declared.event.Event.TheVariants as event
use Rattle.tj_words.specs.declared.view.Does.TheVariants as does

module _ {B : Type 0} {program : Bool → B → Program B} {key : Key B} {s t : State (Option (Rec B)) (View B)}
    (r : Rule program key s) {id i n : ℕ} {m m' : SeatMe B} (h : MakesWith keeps id i n m m' s t) where
  abbrev x : Contents B
  x = contents_of s

  abbrev y : Contents B
  y = contents_of t

  -- the step is this event, and draws no cell
  abbrev pub Goes : Event → Type 0
  Goes e = IsEventStep r.law y e × (drawn_in key.cells y ≡ drawn_in key.cells x)

  -- the event between the old contents and these
  abbrev pub Between : Contents B → Event → Type 0
  Between z e = ShowsEvent key.cells r.law.born r.law.maker x z e r.law.born r.law.maker

  -- the seat's task c did d and does d' from now on, and no word but OTHERS is changed
  module _ (others : ℕ) (say : words_say (set s.words i n) ≡ record (words_say s.words) { others = others }) (c : ℕ)
      (f : Does → Does) (view : m'.0 ≡ turned c f m.0) (k : Custody B) (held : held_in m.0.tasks c ≡ Some k)
      (d d' : Does) (did : k.does ≡ d) (now : f d ≡ d') (same : phase_of d' ≡ phase_of d) where
    abbrev pub has : IsHeldWith x id c k
    has = held_by_view program key s id c m.0 h.at k held

    abbrev pub after : Contents B
    after = turned_to x id c k has d' others

    changed : y ≡ after
    changed = ap contents_of h.after ∙ (λ j. record { words = say j; slots = s.homes; seats = seats j })
      where
        seats : seats_have (set s.views id m'.0)
            ≡ record (seats_have s.views) { tasks = set (seats_have s.views).tasks id (hold (doing d' k) m.0.tasks) }
        seats = ap (λ v. seats_have (set s.views id v)) view ∙ (seats_set s.views id (turned c f m.0)
            ∙ turned_seats program key s id c f m.0 h.at k held d' (ap f did ∙ now))

    abbrev pub turns : Proceeds key.cells x after id c d d'
    turns = record {
      before_it = k;
      after_it = doing d' k;
      held = has;
      did = did;
      now = refl;
      turned = task_turned r.law id c k has d' (same ∙ ap phase_of (sym did)) others;
    }

    pub call_turns : {e : Event} → Between after e → Goes e
    call_turns {e} shows = back (λ j. IsEventStep r.law (changed j) e
        × (drawn_in key.cells (changed j) ≡ drawn_in key.cells x))
        ((shows, kept_moved key.cells x after turns.turned refl), refl)

module _ {B : Type 0} {program : Bool → B → Program B} {key : Key B} {s t : State (Option (Rec B)) (View B)}
    (r : Rule program key s) {id : ℕ} {m m' : SeatMe B} where
  -- the add to OTHERS
  pub call_raises : (h : MakesWith keeps id others_at (suc (word s.words others_at)) m m' s t) → {c : ℕ}
      → m'.0 ≡ turned c (λ _. does.Raised) m.0 → MayRaise c m.0 → Goes r h (event.Raise (cell c))
  call_raises h {c} view may = let k = may.task in let n = suc (word s.words others_at) in
      let say = say_others s.words n h.inside in let same = acting_phase k.does may.acts in
      call_turns r h n say c (λ _. does.Raised) view k may.held k.does does.Raised refl refl same
      (raise_shown r.law _ id c k.does record {
        turns = record {
          turns = turns r h n say c (λ _. does.Raised) view k may.held k.does does.Raised refl refl same;
          result = may.result;
        };
        may = may.acts;
        others = refl;
        cleared = refl;
      })

  -- the subtraction from OTHERS
  pub call_lowers : (h : MakesWith keeps id others_at (word s.words others_at - 1) m m' s t) → m'.0 ≡ lowered m.0
      → 0 < m.0.cleared → Goes r h event.Lower
  call_lowers h view some_left = back (λ j. IsEventStep r.law (now j) event.Lower
      × (drawn_in key.cells (now j) ≡ drawn_in key.cells (contents_of s))) (
        (
          lower_shown r.law lower record {
            some = omega (arith, less, some_left);
            same = λ j. record (parts_of key.cells (contents_of s)) {
              others = word s.words others_at - 1;
              cleared = fewer j;
            };
          },
          kept_words key.cells (contents_of s) lower (λ c. refl) (λ c. refl) refl,
        ),
        refl,
      )
    where
      old : SeatsHave B
      old = seats_have s.views

      cleared : List ℕ
      cleared = set old.cleared id (m.0.cleared - 1)

      less : total cleared + m.0.cleared ≡ total old.cleared + (m.0.cleared - 1)
      less = total_set old.cleared id m.0.cleared (m.0.cleared - 1)
          (at_map (λ (w : View B). w.cleared) s.views id m.0 h.at)

      fewer : total cleared ≡ total old.cleared - 1
      fewer = omega (arith, less, some_left)

      lower : Contents B
      lower = record (contents_of s) {
        words = record (words_say s.words) { others = word s.words others_at - 1 };
        seats = record old { cleared = cleared };
      }

      now : contents_of t ≡ lower
      now = ap contents_of h.after ∙ (λ j. record {
        words = say_others s.words (word s.words others_at - 1) h.inside j;
        slots = s.homes;
        seats = (ap (λ v. seats_have (set s.views id v)) view ∙ (seats_set s.views id (lowered m.0)
            ∙ ap (λ (z : SeatsHave B). record z { cleared = cleared }) (seats_same s.views id m.0 h.at))) j;
      })

  -- a walker's load of word i, by which it reads g of what is found there
  pub call_reads : {i c : ℕ} {F : ℕ → Way → Walker → Type 0} {e : Event} (g : Walker → Walker)
      (h : MakesWith keeps id i (word s.words i) m m' s t) → m'.0 ≡ read_on c g m.0 → (w : IsWalking c F m.0)
      → ((z : Contents B) → ReadsOn key.cells (contents_of s) z id c w.wait w.way w.walker (g w.walker)
      → Between r h z e) → Goes r h e
  call_reads {i} {c} g h view w shows = let say = ap words_say (words_same s.words i) in
      let d = does.Walking w.wait w.way w.walker in let d' = does.Walking w.wait w.way (g w.walker) in
      call_turns r h (word s.words others_at) say c (walk_with g) view w.task w.held d d' w.does refl refl
      (shows _ record {
        turns = turns r h (word s.words others_at) say c (walk_with g) view w.task w.held d d' w.does refl refl;
        keeps = record { others = refl; cleared = refl };
      })

-- what a walker reads of OWN
pub first_seen : (o : Option ℕ) (w : Walker) → MayReadOwner w → owner_seen o w w.last ≡ owner_read o w
first_seen o w may = ⊎_elim (λ e. ap (owner_seen o w) e) (λ e. ap (owner_seen o w) e.0) may
