-- A record that a seat put into the slot that it took last comes home: what the seat's view and the law say of it.
use Rattle.tj_words.proofs.Prelude.{AreThere, Bool, CellId, Contents, Custody, Hand, IsIn, IsKept, IsRecordIn, IsThere}
use Rattle.tj_words.proofs.Prelude.{IsToldRecord, Key, LiesAtHome, List, Option, Phase, Program, Rec, RecordsFit, Rule}
use Rattle.tj_words.proofs.Prelude.{SeatMe, Slots, Some, State, View, Walk, Way, arith, at_map, contents_of, drawn_in}
use Rattle.tj_words.proofs.Prelude.{get_elem?, hand_of, held_in, home_in, home_of, inl, length, length-set, phase_sort}
use Rattle.tj_words.proofs.Prelude.{put, put_else, put_here, record_cells, refl, seats_have, set, set_else, some}
use Rattle.tj_words.proofs.Prelude.{some-injective, subst, sym, tag_in, ℕ, ◌∙◌, ◌≡◌, ◌≢◌}
use Rattle.tj_words.proofs.Lemmas.{IsHeldWith, Meant, ground_of, known_of, law_meant}
use Rattle.tj_words.specs.Calls.PutRecords.{PutsHome}
use Rattle.tj_words.proofs.Holders.HomeSlots.{home_laid, home_else_laid}
use Rattle.tj_words.proofs.Holders.RecordSteps.{laid_fit}
use Rattle.tj_words.proofs.Meaning.MeaningSteps.{home_meant}
use Rattle.tj_words.proofs.Phases.WaitStores.{about_program}
use Rattle.tj_words.proofs.Phases.Departures.{Departs}
use Rattle.tj_base.specs.declared.cell.Sort.TheVariants as sort
use Rattle.tj_words.specs.declared.phase.Phase.TheVariants as phase

-- what the seats have is what their views say
module _ {B : Type 0} (views : List (View B)) (id : ℕ) {v : View B} (at : get_elem? views id ≡ some v) where
  pub tokens_at : get_elem? (seats_have views).tokens id ≡ some v.tokens
  tokens_at = at_map (λ (u : View B). u.tokens) views id v at

  pub tasks_at : get_elem? (seats_have views).tasks id ≡ some v.tasks
  tasks_at = at_map (λ (u : View B). u.tasks) views id v at

  pub hand_at : (g : Hand) → get_elem? (seats_have views).hands id ≡ some (Some g) → v.hand ≡ Some g
  hand_at g e = some-injective v.hand (Some g) (sym (at_map (λ (u : View B). u.hand) views id v at) ∙ e)

-- a seat holds task t, makes nothing by it, and has put its record into the slot that it took last
pub record Lays {B : Type 0} (program : Bool → B → Program B) (t : ℕ) (me : SeatMe B) : Type 0 where
  pub custody : Custody B
  pub held : held_in me.0.tasks t ≡ Some custody
  pub record_of : Rec B
  pub puts : PutsHome program t custody record_of me
  pub no_hand : (g : Hand) → me.0.hand ≡ Some g → g.maker ≢ t

-- so the record comes home
module _ {B : Type 0} {program : Bool → B → Program B} {key : Key B} {s : State (Option (Rec B)) (View B)}
    (r : Rule program key s) (id : ℕ) {t : ℕ} {me : SeatMe B} (at : get_elem? s.views id ≡ some me.0)
    (l : Lays program t me) where
  abbrev P : Program B
  P = program key.strict key.root.value

  abbrev x : Contents B
  x = contents_of s

  abbrev v : View B
  v = me.0

  abbrev c : Rec B
  c = l.record_of

  abbrev pub laid_slots : Slots B
  laid_slots = set s.homes t (some (Some c))

  abbrev pub lays_held : IsHeldWith x id t l.custody
  lays_held = (v.tasks, tasks_at s.views id at, l.held)

  pub as_many : length laid_slots ≡ length s.homes
  as_many = length-set s.homes t (some (Some c))

  else_home : (u : ℕ) → u ≢ t → home_in laid_slots u ≡ home_of x u
  else_home u m = home_else_laid s.homes t c u m

  pub free : (g : Hand) → get_elem? x.seats.hands id ≡ some (Some g) → g.maker ≢ t
  free g e = l.no_hand g (hand_at s.views id at g e)

  pub cells_there : AreThere (drawn_in key.cells x) (hand_of x) (record_cells c)
  cells_there d i = r.law.names.knows id v.known (at_map (λ (u : View B). u.known) s.views id v at) d (l.puts.knows d i)

  pub task_there : IsThere (drawn_in key.cells x) (hand_of x) t
  task_there = subst (IsThere (drawn_in key.cells x) (hand_of x)) l.puts.cell (cells_there c.cell.0 (inl refl))

  pub lies : home_in laid_slots t ≡ Some c
  lies = home_laid s.homes t c (let d = task_there.0 in let e = r.all_slots in omega arith)

  -- it is within the meaning
  pub meant : Meant P key.cells x.words.count x.words.stop (ground_of key.cells r.law.born x) (home_in laid_slots)
      (known_of x)
  meant = home_meant P key.cells {g = ground_of key.cells r.law.born x} {home = home_of x} {k = known_of x}
      (law_meant P key.cells x r.law) id v.born v.wrote v.filled (at_map (λ (u : View B). u.born) s.views id v at)
      (at_map (λ (u : View B). u.wrote) s.views id v at) (at_map (λ (u : View B). u.filled) s.views id v at)
      (home_in laid_slots) t c lies else_home
      (subst (λ z. IsToldRecord z v.born (λ d e. IsIn (record { cell = d; entry = e }) v.filled) c)
      (about_program program key v l.puts.told.0 (r.seats id v at) l.puts.told.1) l.puts.told.2)

  -- it fits the phase which its task has then
  pub fits : (phases : ℕ → Phase) (q : Phase) → phases t ≡ q → ((u : ℕ) → u ≢ t → phases u ≡ x.words.phase u)
      → IsRecordIn (tag_in x) q c → RecordsFit (tag_in x) phases (home_in laid_slots)
  fits phases q now else h = laid_fit (tag_in x) x.words.phase (home_of x) r.law.records_fit t phases
      (home_in laid_slots) q now else else_home c lies h

  pub fits_then : (q : Phase) → IsRecordIn (tag_in x) q c
      → RecordsFit (tag_in x) (put x.words.phase t q) (home_in laid_slots)
  fits_then q = fits (put x.words.phase t q) q (put_here x.words.phase t q)
      (λ u m. put_else x.words.phase t q u m)

  -- and its task leaves the seat
  module _ (q : Phase) (is_task : phase_sort q ≡ sort.Task)
      (waits : (d : CellId) (way : Way) (w : Walk) → q ≡ phase.Waiting d way w
      → (u : Walk) × (x.words.phase t ≡ phase.Waiting d way u))
      (kept : (o : Option ℕ) (h : Option (Rec B)) → LiesAtHome o h → IsKept q o h) where
    abbrev pub departs_laid : Departs r.law id t q laid_slots
    departs_laid = record {
      custody_of = l.custody;
      held = lays_held;
      out = task_there.1;
      free = free;
      is_task = is_task;
      waits = waits;
      kept = kept;
      record_of = c;
      lies = lies;
      apart = λ u m. set_else s.homes t u (some (Some c)) m;
      its = l.puts.cell;
      owned = l.puts.owned;
      made = l.puts.made;
      there = cells_there;
    }
