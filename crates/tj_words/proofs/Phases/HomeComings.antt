-- The record of an unborn task comes home as LIVE goes up, while a seat holds the task: the step shows nothing, and
-- keeps the rule.
use Rattle.tj_words.proofs.Prelude.{AreThere, Bool, Contents, Custody, HasAlarmed, IsBacked, IsSeat, Key, Law, List}
use Rattle.tj_words.proofs.Prelude.{Option, Program, Rec, Rule, SeatMe, Slots, Some, State, View, ap, arith, came_home}
use Rattle.tj_words.proofs.Prelude.{contents_of, drawn_in, get_elem?, hand_of, held_in, hold, home_in, home_of, live_at}
use Rattle.tj_words.proofs.Prelude.{numbers, owned_by, phase_of, record_cells, record_in, refl, set, set_else, some}
use Rattle.tj_words.proofs.Prelude.{stage_there, subst, suc, sym, with_tokens, word, words_say, ℕ, ◌<◌, ◌∙◌, ◌≡◌, ◌≢◌}
use Rattle.tj_words.proofs.Lemmas.{IsHeldWith, IsQuietStep, Live, StoresWith, custody, facts_quiet, held_here}
use Rattle.tj_words.proofs.Lemmas.{held_listed, hold_here, holder_seat, made_held_by, none_some, noted_is, one_some}
use Rattle.tj_words.proofs.Lemmas.{owned_held_by, parts_of, put_is, put_self, seats_same, store_word_with, stored_with}
use Rattle.tj_words.specs.Calls.LiveViews.{LaysChild, now_home}
use Rattle.tj_words.proofs.Waiters.LiveStores.{live_some}
use Rattle.tj_words.proofs.Waiters.ChainFacts.{IsNotParked, held_free}
use Rattle.tj_words.proofs.Waiters.PushedRecords.{laid_as_put, laid_leaves}
use Rattle.tj_words.proofs.Prelude.{◌∷◌}
use Rattle.tj_words.proofs.Waiters.LiveSteps.{count_up, backed_lively, backing_token}
use Rattle.tj_words.proofs.Holders.HeldChanges.{found_held, held_task, hold_move}
use Rattle.tj_words.proofs.Holders.LaidRecords.{Lays, as_many, cells_there, fits, free, laid_slots, lays_held, lies}
use Rattle.tj_words.proofs.Holders.LaidRecords.{meant, task_there, tasks_at, tokens_at}
use Rattle.tj_words.proofs.Events.QuietMoves.{kept_stage, quiet_move}
use Rattle.tj_words.proofs.Holders.TaskMoves.{TaskMove, law_task}
use Rattle.tj_base.specs.declared.cell.Sort.TheVariants as sort
use Rattle.tj_words.specs.declared.phase.Phase.TheVariants as phase
use Rattle.tj_words.specs.declared.view.Does.TheVariants as does

module _ {B : Type 0} {program : Bool → B → Program B} {key : Key B} {s : State (Option (Rec B)) (View B)}
    (r : Rule program key s) (id : ℕ) {t : ℕ} {c : Rec B} {me : SeatMe B} (at : get_elem? s.views id ≡ some me.0)
    (h : LaysChild program t c me) where
  abbrev x : Contents B
  x = contents_of s

  abbrev v : View B
  v = me.0

  abbrev k : Custody B
  k = h.custody

  abbrev lays : Lays program t me
  lays = record { custody = k; held = h.held; record_of = c; puts = h.puts; no_hand = h.no_hand }

  abbrev slots : Slots B
  slots = laid_slots r id at lays

  abbrev has : IsHeldWith x id t k
  has = lays_held r id at lays

  its : k.task ≡ t
  its = held_task v.tasks t k h.held

  -- what the seat has for the task then
  abbrev k' : Custody B
  k' = now_home c k

  abbrev new : List (Custody B)
  new = hold k' v.tasks

  here : held_in new t ≡ Some k'
  here = ap (held_in new) (sym its) ∙ hold_here k' v.tasks

  was : x.words.phase t ≡ phase.Unborn
  was = (custody r.law id t k has).does ∙ ap phase_of h.unborn

  unparked : IsNotParked (x.words.phase t)
  unparked = subst IsNotParked (sym (custody r.law id t k has).does) (held_free k.does)

  apart : (u : ℕ) → u ≢ t → get_elem? slots u ≡ get_elem? s.homes u
  apart u m = set_else s.homes t u (some (Some c)) m

  -- the seat notes that the record is at home
  come : TaskMove r.law id t x.words.phase v.tasks new slots
  come = hold_move r.law id t k k' has its slots apart
      (λ y e. let same : c ≡ y = one_some c y (sym (lies r id at lays) ∙ e) in (
        subst (λ (a : Rec B). AreThere (drawn_in key.cells x) (hand_of x) (record_cells a)) same
            (cells_there r id at lays),
        ap (λ (a : Rec B). a.cell.0) (sym same) ∙ h.puts.cell,
      ))
      x.words.phase (λ u m. refl) (custody r.law id t k has).does (task_there r id at lays)
      (λ p way w e. (r.law.names.waits t p way w e, r.law.waiters_own t p way w e))
      (r.law.names.walks id v.tasks (tasks_at s.views id at) k (held_listed v.tasks t k h.held)) refl
      (λ g e q z. absurd (free r id at lays g e q)) (λ a. absurd (subst HasAlarmed h.unborn a))
      (λ b q. let same : c ≡ b = one_some c b q in record {
        here = lies r id at lays ∙ ap (λ (z : Rec B). Some z) same;
        owned = ap (λ (z : Rec B). numbers z.owned) (sym same) ∙ h.puts.owned;
        made = ap (λ (z : Rec B). z.made) (sym same) ∙ h.puts.made;
      })
      (λ q. none_some (Some c) c q refl)

  module _ (live : ℕ) where
    -- the contents after it
    abbrev after_home : Contents B
    after_home = record {
      words = record x.words { live = live };
      slots = slots;
      seats = record x.seats { tokens = set x.seats.tokens id (suc v.tokens); tasks = set x.seats.tasks id new };
    }

    -- the step shows nothing
    pub home_quiet : IsQuietStep r.law after_home
    home_quiet = quiet_move r.law after_home t phase.Unborn phase.Unborn (Some k') (home_in slots t) was
        (task_there r id at lays) (record { others = refl; cleared = refl }) refl
        record {
          made = made_held_by r.law id t k has;
          parts = λ j. record (parts_of key.cells x) {
            phase = put_self x.words.phase t phase.Unborn was j;
            held = found_held r.law id t k k' has its j;
            home = put_is (home_of x) (home_in slots) t (home_in slots t) refl
                (λ u m. ap record_in (apart u m)) j;
          };
        }
        (kept_stage t (x.words.own t) k k' (home_of x t) (home_in slots t) does.Unborn h.unborn h.unborn
        ∙ (λ j. stage_there t sort.Task (x.words.own t) phase.Unborn
        (sym (held_here r.law id t k has) j) (home_of x t)))

    -- what the step leaves, whatever it stores
    pub home_path : (put : List (Rec B))
        → stored_with s id Live live slots (record (came_home t c (with_tokens (suc v.tokens) v)) { put_home = put })
        ≡ after_home
    home_path put j = record {
      words = record (words_say s.words) { live = live };
      slots = slots;
      seats = record (seats_same s.views id v at j) {
        tokens = set x.seats.tokens id (suc v.tokens);
        tasks = set x.seats.tasks id (noted_is v.tasks t k (now_home c) h.held j);
      };
    }

  home_law : IsBacked v → Law (program key.strict key.root.value) key.cells (after_home (suc (word s.words live_at)))
  home_law b = law_task r.law come (record x.words { live = suc (word s.words live_at) })
      (record x.seats { tokens = set x.seats.tokens id (suc v.tokens) })
      (ap (λ (o : Option (Custody B)). owned_by o (home_in slots t)) here
      ∙ owned_held_by r.law id t k has)
      r.law.names.knows r.law.chains
      (count_up r.law.live_count id v.tokens (tokens_at s.views id at)
      (live_some program key s r id v at (backed_lively v b)))
      (fits r id at lays x.words.phase phase.Unborn was (λ u m. refl) (h.unfinished, h.starts)) (meant r id at lays)
      (facts_quiet r.law (home_quiet (suc (word s.words live_at))))

  pub home_stores : IsBacked v → v.tokens < v.lot
      → StoresWith program key s (set s.homes t (some (Some c))) id live_at (suc (word s.words live_at))
      (record (came_home t c (with_tokens (suc v.tokens) v)) { put_home = c ∷ v.put_home })
  home_stores b room = let n = suc (word s.words live_at) in
      let w : View B = record v { steps = suc v.steps; tokens = suc v.tokens; tasks = new } in
      store_word_with program key s id Live n slots
      (record (came_home t c (with_tokens (suc v.tokens) v)) { put_home = c ∷ v.put_home })
      (let e = r.all_words in omega arith) (as_many r id at lays) tt
      (subst (IsSeat key) (ap (λ l. record v { steps = suc v.steps; tokens = suc v.tokens; tasks = l })
      (sym (noted_is v.tasks t k (now_home c) h.held)))
      (holder_seat key v t k h.held (r.seats id v at) (suc v.tokens) new v.pushes v.dues room
      (backing_token w (omega arith)))) (laid_as_put r id at t c h.puts.cell unparked (c ∷ v.put_home) refl)
      (laid_leaves r id at t c h.puts.cell unparked) (after_home n) (home_path n (c ∷ v.put_home)) (home_law b)
