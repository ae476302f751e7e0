-- A draw keeps the rule, whether it finds a cell left or not.
use Rattle.tj_words.proofs.Prelude.{About, Allows, AreCells, Backing, Bool, Contents, Custody, EventKeepsFacts}
use Rattle.tj_words.proofs.Prelude.{FindsCell, HasAlarmed, InRounds, IsFull, IsFullWhere, IsRooted, Key, List, MayDraw}
use Rattle.tj_words.proofs.Prelude.{None, Option, Program, Rec, Reference, Rule, SeatMe, Some, Sort, State, View, []}
use Rattle.tj_words.proofs.Prelude.{ap, arith, at_longer, at_map, child, contents_of, count_at, dec_le, dite, draw_step}
use Rattle.tj_words.proofs.Prelude.{drawn_in, drew, get_elem?, held_in, held_of, home_of, inr, length, length-set}
use Rattle.tj_words.proofs.Prelude.{made_by, made_of, map, min, new_dues, new_hand, new_tasks, next_reference, none}
use Rattle.tj_words.proofs.Prelude.{noted, reference_of, refl, runs_on, seats_have, set, set_again, some, step, subst}
use Rattle.tj_words.proofs.Prelude.{suc, sym, total, word, words_say, ℕ, ◌%◌, ◌++◌, ◌+◌, ◌<◌, ◌^◌, ◌∙◌, ◌∷◌, ◌≡◌, ◌≤◌}
use Rattle.tj_words.proofs.Lemmas.{Acts, Count, DrawsCell, StoresWith, acts_keeping, acts_taking, back, born_apart}
use Rattle.tj_words.proofs.Lemmas.{held_drawn, held_here, holder_named, holder_within, index_is, knows_so, made_few}
use Rattle.tj_words.proofs.Lemmas.{makes_none, makes_nothing, none_some, seats_same, store_word_with, stored_with}
use Rattle.tj_words.proofs.Lemmas.{total_set}
use Rattle.tj_words.specs.Calls.DrawViews.{drawn_next, was_refused, FindsNone}
use Rattle.tj_words.proofs.SeatLoads.LoadSteps.{count_few}
use Rattle.tj_words.proofs.Seating.Merging.{begins_at}
use Rattle.tj_words.proofs.Waiters.LiveSteps.{backing_running, alarms_else}
use Rattle.tj_words.proofs.Holders.NotedEntries.{noted_here, noted_else}
use Rattle.tj_words.proofs.Cells.CellNames.{cells_more, next_new, refused_full}
use Rattle.tj_words.proofs.Waiters.StopSteps.{law_refuses}
use Rattle.tj_words.proofs.Cells.DrawnTasks.{slots_after, homes_after}
use Rattle.tj_words.proofs.Cells.DrawnCells.{law_drawn, drawn_contents, draws, new_else, new_here, maker_now}
use Rattle.tj_words.proofs.Waiters.Backings.{backing_runs}
use Rattle.tj_base.specs.declared.cell.Sort.TheVariants as sort

module _ {B : Type 0} (program : Bool → B → Program B) (key : Key B) (s : State (Option (Rec B)) (View B))
    (r : Rule program key s) (id t : ℕ) (o : Sort) (v : View B) (at : get_elem? s.views id ≡ some v)
    (may : MayDraw program t v) (left : word s.words count_at < key.cells) (b : List Reference) where
  abbrev old : Contents B
  old = contents_of s

  abbrev next : ℕ
  next = drawn_in key.cells old

  pub mine : {A : Type 0} (f : View B → A) → get_elem? (map f s.views) id ≡ some (f v)
  mine f = at_map f s.views id v at

  pub empty : get_elem? old.seats.hands id ≡ some None
  empty = mine (λ u. u.hand) ∙ ap some may.no_hand

  -- the contents after a draw that finds a cell left, of a seat that knows these cells then
  abbrev pub after_draw : Contents B
  after_draw = drawn_contents r.law id t o v may (mine (λ u. u.tasks)) (mine (λ u. u.dues)) empty left b

  -- what it leaves
  pub draw_path : stored_with s id Count (suc (word s.words count_at)) (slots_after next o s.homes)
      (record (drew next t o r.law.born v) { born = b }) ≡ after_draw
  draw_path j = record {
    words = record (words_say s.words) { count = suc (word s.words count_at) };
    slots = slots_after next o s.homes;
    seats = record (seats_same s.views id v at j) {
      hands = set old.seats.hands id (Some (new_hand next t o));
      tasks = set old.seats.tasks id (new_tasks next o (noted t runs_on v.tasks));
      known = set old.seats.known id v.known;
      born_seen = set old.seats.born_seen id b;
      wrote = set old.seats.wrote id v.wrote;
      filled = set old.seats.filled id v.filled;
      dues = set old.seats.dues id (new_dues next o ++ v.dues);
    };
  }

  -- and a call that makes it draws the cell
  pub after_draws : DrawsCell key.cells old after_draw id t (new_hand next t o)
  after_draws = draws r.law id t o v may (mine (λ u. u.tasks)) (mine (λ u. u.dues)) empty left b

module _ {B : Type 0} (program : Bool → B → Program B) (key : Key B) (keeps : EventKeepsFacts)
    (full : (strict : Bool) (root : B) → IsRooted (program strict root) → IsFullWhere (program strict root)) where
  abbrev P : Program B
  P = program key.strict key.root.value

  module _ (s : State (Option (Rec B)) (View B)) (r : Rule program key s) (id t : ℕ) (o : Sort) (v : View B)
      (at : get_elem? s.views id ≡ some v) (may : MayDraw program t v) where
    abbrev x : Contents B
    x = contents_of s

    abbrev n : ℕ
    n = drawn_in key.cells x

    abbrev k : Custody B
    k = may.has

    mine_now : {A : Type 0} (f : View B → A) → get_elem? (map f s.views) id ≡ some (f v)
    mine_now f = at_map f s.views id v at

    tasks : get_elem? x.seats.tasks id ≡ some v.tasks
    tasks = mine_now (λ u. u.tasks)

    dues : get_elem? x.seats.dues id ≡ some v.dues
    dues = mine_now (λ u. u.dues)

    free : get_elem? x.seats.hands id ≡ some None
    free = mine_now (λ u. u.hand) ∙ ap some may.no_hand

    t_drawn : t < n
    t_drawn = held_drawn r.law id t k (v.tasks, tasks, may.held)

    -- the maker makes no cell that is in hand
    made_is : made_of x t ≡ k.made
    made_is =
        let a : made_by (held_of x t) (home_of x t) ≡ k.made =
        ap (λ (q : Option (Custody B)). made_by q (home_of x t))
        (held_here r.law id t k (v.tasks, tasks, may.held)) in
        let b = makes_none x.seats.hands t (makes_nothing r.law id t k (v.tasks, tasks, may.held) free) in omega arith

    -- the name of what is made next, as the seat knows it
    its_reference : reference_of r.law.born t ≡ may.task
    its_reference =
        index_is r.law.born t _ may.task (begins_at v.born r.law.born (knows_so program key s r id v at).begins t
        may.task may.is_task)

    seen_reference : reference_of v.born t ≡ may.task
    seen_reference = index_is v.born t _ may.task may.is_task

    next_same : drawn_next t o v ≡ next_reference r.law.born t (made_of x t) o
    next_same = λ j. record {
      name = child ((seen_reference ∙ sym its_reference) j).name
          (suc ((ap (λ (q : Option (Custody B)). made_by q None) may.held ∙ sym made_is) j));
      sort = o;
    }

    about_is : may.about ≡ record { root = key.root.value; cells = key.cells; strict = key.strict }
    about_is = (r.seats id v at).about may.about may.is_about

    named : InRounds P (next_reference r.law.born t (made_of x t) o).name
    named = subst (λ (q : About B). InRounds (program q.strict q.root)
        (next_reference r.law.born t (made_of x t) o).name) about_is
        (subst (InRounds (program may.about.strict may.about.root))
        (λ j. child (sym its_reference j).name (suc (sym made_is j))) may.named)

    count_room : count_at < length s.words
    count_room = let e = r.all_words in omega arith

    abbrev drew_view : View B
    drew_view = drew n t o r.law.born v

    -- the seat that has drawn is backed: its task runs on, and then it holds a task more that isn't born
    drew_backed : word s.words count_at < key.cells → Backing drew_view
    drew_backed left = let v1 = record v { tasks = noted t runs_on v.tasks } in
        let here = noted_here v.tasks t k runs_on may.held refl in
        backing_running drew_view (t, runs_on k, maker_now r.law id t o v may tasks dues free left, tt)
        (alarms_else v1 drew_view n refl (new_else r.law id t o v may tasks dues free left o)
        (λ q e a. subst HasAlarmed (ap (λ (z : Custody B). z.does)
        (new_here r.law id t o v may tasks dues free left o q e)) a)
        (backing_runs v v1 t refl (noted_else v.tasks t k runs_on may.held refl) (runs_on k) here tt (λ a. a)
        (r.seats id v at).backing))

    -- a draw that finds a cell left
    draw_stores : word s.words count_at < key.cells
        → StoresWith program key s (slots_after n o s.homes) id count_at (suc (word s.words count_at)) drew_view
    draw_stores left = let y = seats_have s.views in let q = r.seats id v at in let w = drew_view in
        store_word_with program key s id Count (suc (word s.words count_at)) (slots_after n o s.homes) w
        count_room (many o)
        tt record {
          about = q.about;
          named = inr (holder_named v t k may.held q.named);
          within_lot = holder_within v t k may.held q.within_lot v.tokens w.tasks q.within_lot.tokens_fit;
          backing = drew_backed left;
          known_born = λ d i. let b = q.known_born d i in (
            b.0,
            at_longer r.law.born (drawn_next t o v ∷ []) d b.0
                (begins_at v.born r.law.born (knows_so program key s r id v at).begins d b.0 b.1),
          );
        } (λ e i. homes_after r.law.custody room o e.task ∙ r.pushed id v at e i)
        (λ j u other here e i. homes_after r.law.custody room o e.task) _
        (draw_path program key s r id t o v at may left w.born
        ∙ ap (λ z. after_draw program key s r id t o v at may left (r.law.born ++ z ∷ [])) next_same)
        (law_drawn r.law id t o v may tasks dues free left keeps (mine_now (λ u. u.known)) (mine_now (λ u. u.born))
        (mine_now (λ u. u.wrote)) (mine_now (λ u. u.filled)) named)
      where
        room : drawn_in key.cells x < key.cells
        room = omega (arith, left)

        many : (p : Sort) → length (slots_after n p s.homes) ≡ length s.homes
        many sort.Promise = refl
        many sort.Task = length-set s.homes n none

    cell_found : word s.words count_at < key.cells → FindsCell key.cells t o (word s.words count_at) v
        (drew (word s.words count_at) t o r.law.born v)
    cell_found left = record {
      born = r.law.born;
      begins = (knows_so program key s r id v at).begins;
      next = (let e = r.law.births.all in omega arith);
      small = left;
      all = subst (λ (z : Reference). AreCells key.cells (r.law.born ++ z ∷ [])) (sym next_same)
          (cells_more key.cells r.law.born (next_reference r.law.born t (made_of x t) o) (born_apart r.law)
          (let e = r.law.births.all in omega arith) (next_new r.law t t_drawn o));
      few_made = (let a = made_few r.law t in
          let b : made_by (held_in v.tasks t) None ≡ k.made =
          ap (λ (q : Option (Custody B)). made_by q None) may.held in let d = made_is in omega arith);
      fresh = λ d i q. none_some (r.law.once_words.due_to d.cell d.word) id
          (r.law.once_words.undrawn d.cell d.word (omega (arith, q))).1
          (r.law.once_words.dues_mine id v.dues (mine_now (λ u. u.dues)) d i);
      view = refl;
    }

    -- a draw that finds none
    meaning_full : key.cells ≤ word s.words count_at → IsFull P key.cells
    meaning_full none_left = refused_full r.law t t_drawn o (full key.strict key.root.value r.rooted) named none_left

    refused_stores : key.cells ≤ word s.words count_at
        → StoresWith program key s s.homes id count_at (suc (word s.words count_at)) (was_refused v)
    refused_stores none_left = let y = seats_have s.views in let q = r.seats id v at in let w = was_refused v in
        store_word_with program key s id Count (suc (word s.words count_at)) s.homes w count_room refl tt record {
          about = q.about;
          named = q.named;
          within_lot = record {
            least = q.within_lot.least;
            refused_fit = (let l = may.room in omega arith);
            tokens_fit = q.within_lot.tokens_fit;
            cleared_fit = q.within_lot.cleared_fit;
          };
          backing = record { wakes = q.backing.wakes; tags = q.backing.tags; alarms = q.backing.alarms };
          known_born = q.known_born;
        } (r.pushed id v at) (λ j u other here e i. refl) _ (λ j. record {
          words = record (words_say s.words) { count = suc (word s.words count_at) };
          slots = s.homes;
          seats = record (seats_same s.views id v at j) {
            lots = set y.lots id v.lot;
            refused = set y.refused id w.refused;
          };
        })
        (law_refuses P key.cells x r.law (set y.lots id v.lot) (set y.refused id w.refused) none_left
        (meaning_full none_left) record {
          all = ap total (set_again y.lots id v.lot (mine_now (λ u. u.lot)))
              ∙ r.law.lots.all;
          counted = (let a = r.law.lots.counted in
              let b = total_set y.refused id v.refused (suc v.refused)
              (mine_now (λ u. u.refused)) in
              omega arith);
        })

    none_found : key.cells ≤ word s.words count_at → FindsNone program v (was_refused v)
    none_found none_left = record {
      full = λ a e.
          let q = (r.seats id v at).about a e in
          subst (λ (i : About B). IsFull (program i.strict i.root) i.cells) (sym q) (meaning_full none_left);
      view = refl;
    }

    count_small : suc (word s.words count_at) ≡ (word s.words count_at + 1) % 2 ^ 64
    count_small = let d = count_few program key s r in omega (arith, d)

  draws_one : (s : State (Option (Rec B)) (View B)) (r : Rule program key s) (slots id t : ℕ) (o : Sort) (m : SeatMe B)
      → get_elem? s.views id ≡ some m.0
      → MayDraw program t m.0
      → Acts program key s id m count_at (suc (word s.words count_at))
      (draw_step program key.cells t o (step slots count_at 1 0 none) m (word s.words count_at))
  draws_one s r slots id t o m at may = dite (dec_le key.cells (word s.words count_at))
      (λ (l : key.cells ≤ word s.words count_at). acts_keeping program key s r id m count_at
      (suc (word s.words count_at))
      (draw_step program key.cells t o (step slots count_at 1 0 none) m (word s.words count_at)) (was_refused m.0)
      (refused_stores s r id t o m.0 at may l)
      ((λ i. absurd (omega arith)), (λ i. (none_found s r id t o m.0 at may l, refl))))
      (λ z. taken (omega arith) (omega arith) o)
    where
      n : ℕ
      n = drawn_in key.cells (contents_of s)

      taken : word s.words count_at < key.cells → word s.words count_at ≡ min (word s.words count_at) key.cells
          → (p : Sort)
          → Acts program key s id m count_at (suc (word s.words count_at))
          (draw_step program key.cells t p (step slots count_at 1 0 none) m (word s.words count_at))
      taken left same p = by p (draw_stores s r id t p m.0 at may left)
          (subst (λ j. FindsCell key.cells t p (word s.words count_at) m.0 (drew j t p r.law.born m.0)) same
          (cell_found s r id t p m.0 at may left))
        where
          by : (p : Sort)
              → StoresWith program key s (slots_after n p s.homes) id count_at (suc (word s.words count_at))
              (drew n t p r.law.born m.0)
              → FindsCell key.cells t p (word s.words count_at) m.0 (drew n t p r.law.born m.0)
              → Acts program key s id m count_at (suc (word s.words count_at))
              (draw_step program key.cells t p (step slots count_at 1 0 none) m (word s.words count_at))
          by sort.Promise stores finds = acts_keeping program key s r id m count_at (suc (word s.words count_at))
              (draw_step program key.cells t sort.Promise (step slots count_at 1 0 none) m (word s.words count_at))
              (drew n t sort.Promise r.law.born m.0) stores ((λ i. (finds, refl)), (λ i. absurd (omega arith)))
          by sort.Task stores finds = acts_taking program key s r id m count_at (suc (word s.words count_at))
              (draw_step program key.cells t sort.Task (step slots count_at 1 0 none) m (word s.words count_at))
              (drew n t sort.Task r.law.born m.0) n None
              (r.law.custody.undrawn_empty n (omega arith) (omega arith)) stores
              ((λ i. (finds, λ j. (sym same j, None) ∷ m.1)), (λ i. absurd (omega arith)))

  pub draw_allowed : (slots id t cells task : ℕ) (o p : Sort) (m : SeatMe B) → cells ≡ key.cells → task ≡ t → p ≡ o
      → MayDraw program t m.0
      → Allows (Rule program key) slots id m count_at (λ n. (n + 1) % 2 ^ 64)
      (draw_step program cells task p (step slots count_at 1 0 none) m)
  draw_allowed slots id t cells task o p m a b d may s r deep at small =
      subst (λ z. Acts program key s id m count_at z
      (draw_step program cells task p (step slots count_at 1 0 none) m (word s.words count_at)))
      (count_small s r id t o m.0 at may)
      (back (λ j. Acts program key s id m count_at (suc (word s.words count_at))
      (draw_step program (a j) (b j) (d j) (step slots count_at 1 0 none) m (word s.words count_at)))
      (draws_one s r slots id t o m at may))
