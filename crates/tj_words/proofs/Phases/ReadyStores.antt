-- The store of Ready keeps the rule: the task leaves its seat, with its record at home.
use Rattle.tj_words.proofs.Prelude.{AreThere, Bool, Contents, Custody, IsLaid, IsRecordIn, IsThere, Key, Law}
use Rattle.tj_words.proofs.Prelude.{MayRelease, Option, Program, Rec, Rule, SeatsHave, State, View, ap, arith}
use Rattle.tj_words.proofs.Prelude.{contents_of, drawn_in, get_elem?, hand_of, held_in, held_of, home_of, inl, let_go}
use Rattle.tj_words.proofs.Prelude.{live_part, phase_at, phase_in, phase_of, phase_word, put, record_cells, refl}
use Rattle.tj_words.proofs.Prelude.{released, set, some, some-injective, subst, sym, tag_in, wait_in, word, ℕ, ◌-◌, ◌<◌}
use Rattle.tj_words.proofs.Prelude.{◌∙◌, ◌≡◌}
use Rattle.tj_words.proofs.Lemmas.{IsHeldWith, IsQuietStep, StoresWith, custody, facts_quiet, kept_fit, law_meant}
use Rattle.tj_words.proofs.Lemmas.{left_seat, left_stores, none_some, one_some, put_else, put_here, seats_same, stored}
use Rattle.tj_words.proofs.Waiters.ChainFacts.{IsNotParked, held_free}
use Rattle.tj_words.proofs.Waiters.ChainPhases.{chains_turn}
use Rattle.tj_words.proofs.Waiters.LiveSteps.{count_turned}
use Rattle.tj_words.proofs.Holders.RecordSteps.{ready_fits}
use Rattle.tj_words.proofs.Events.QuietMoves.{release_stage}
use Rattle.tj_words.proofs.Holders.LaidRecords.{tokens_at, tasks_at}
use Rattle.tj_words.proofs.Phases.Departures.{Departs, after_leaving, leave, leave_owned, leaves_quietly}
use Rattle.tj_words.proofs.Holders.TaskMoves.{law_task}
use Rattle.tj_words.specs.declared.phase.Phase.TheVariants as phase
use Rattle.tj_words.specs.declared.view.Does.TheVariants as does
use Rattle.tj_words.proofs.Stores.TableWords as table_word

module _ {B : Type 0} {program : Bool → B → Program B} {key : Key B} {s : State (Option (Rec B)) (View B)}
    (r : Rule program key s) (id : ℕ) {t : ℕ} {v : View B} (at : get_elem? s.views id ≡ some v)
    (h : MayRelease t v) where
  abbrev x : Contents B
  x = contents_of s

  abbrev k : Custody B
  k = h.custody

  abbrev c : Rec B
  c = h.record_of

  abbrev has : IsHeldWith x id t k
  has = (v.tasks, tasks_at s.views id at, h.held)

  pub laid : IsLaid k (home_of x t) c
  laid = (custody r.law id t k has).laid c h.home

  was : x.words.phase t ≡ phase.Unborn
  was = (custody r.law id t k has).does ∙ ap phase_of h.unborn

  pub there : AreThere (drawn_in key.cells x) (hand_of x) (record_cells c)
  there = r.law.names.records t c laid.here

  pub its : c.cell.0 ≡ t
  its = r.law.custody.own_slots t c laid.here

  at_start : IsRecordIn (tag_in x) phase.Unborn c
  at_start = subst (λ p. IsRecordIn (tag_in x) p c) was (r.law.records_fit t c laid.here)

  abbrev departs : Departs r.law id t phase.Ready s.homes
  departs = record {
    custody_of = k;
    held = has;
    out = (subst (IsThere (drawn_in key.cells x) (hand_of x)) its (there c.cell.0 (inl refl))).1;
    free = λ g e z. let m = (r.law.hands.each id g e).maker_held in
        let ks : m.0 ≡ v.tasks = some-injective m.0 v.tasks (sym m.1 ∙ tasks_at s.views id at) in
        let same : m.2.0 ≡ k = one_some m.2.0 k (sym m.2.1 ∙ (ap (λ l. held_in l g.maker) ks
        ∙ (ap (held_in v.tasks) z ∙ h.held))) in
        none_some k.home c (ap (λ (a : Custody B). a.home) (sym same) ∙ m.2.2) h.home;
    is_task = refl;
    waits = λ d way w e. none_some (wait_in phase.Ready) d.0 refl (ap wait_in e);
    kept = λ o y l. l;
    record_of = c;
    lies = laid.here;
    apart = λ u m. refl;
    its = its;
    owned = laid.owned;
    made = laid.made;
    there = there;
  }

  abbrev beside : SeatsHave B
  beside = record x.seats { tokens = set x.seats.tokens id (v.tokens - 1) }

  abbrev after_ready : Contents B
  after_ready = after_leaving r.law id t departs x.words beside

  -- the step shows nothing
  pub ready_quiet : IsQuietStep r.law after_ready
  ready_quiet = leaves_quietly r.law id t departs x.words beside does.Unborn h.unborn
      (record { others = refl; cleared = refl })
      (release_stage t (x.words.own t) (held_of x t) c (home_of x t) at_start.1)

  -- what the store leaves
  pub ready_path : (word : ℕ) → phase_in word ≡ phase.Ready
      → stored s id (table_word.Phase t) word (released t v) ≡ after_ready
  ready_path word is j = record {
    words = record x.words { phase = put x.words.phase t (is j) };
    slots = s.homes;
    seats = record (seats_same s.views id v at j) {
      tokens = set x.seats.tokens id (v.tokens - 1);
      tasks = set x.seats.tasks id (let_go t v.tasks);
    };
  }

  ready_law : t < key.cells → Law (program key.strict key.root.value) key.cells after_ready
  ready_law inside = law_task r.law (leave r.law id t departs) x.words beside (leave_owned r.law id t departs)
      r.law.names.knows
      (chains_turn r.law.chains t phase.Ready
      (subst IsNotParked (sym (custody r.law id t k has).does) (held_free k.does))
      (λ p y. let e = ap wait_in y.1 in cc))
      (count_turned r.law.live_count t phase.Ready id v.tokens (v.tokens - 1) inside (tokens_at s.views id at)
      (let e = ap live_part was in let g = h.token in omega arith))
      (kept_fit (tag_in x) x.words.phase (home_of x) r.law.records_fit t (put x.words.phase t phase.Ready) (home_of x)
      phase.Ready (put_here x.words.phase t t phase.Ready refl) (λ u m. put_else x.words.phase t u phase.Ready m)
      (λ u m. refl) phase.Unborn was refl (λ y i. ready_fits (tag_in x) y i))
      (law_meant (program key.strict key.root.value) key.cells x r.law) (facts_quiet r.law ready_quiet)

  pub ready_stores : t < key.cells → (word : ℕ) → phase_in word ≡ phase.Ready → word ≡ phase_word phase.Ready
      → StoresWith program key s s.homes id (phase_at t) word (released t v)
  ready_stores inside word is from = left_stores r id t at inside phase.Ready word is from refl s.homes refl
      (v.tokens - 1) v.put_home (left_seat r id t at (v.tokens - 1) k h.held
      (let l = (r.seats id v at).within_lot.tokens_fit in omega arith) h.backing) (r.pushed id v at)
      (λ j u other here e i. refl) (ready_path word is)
      (ready_law inside)
