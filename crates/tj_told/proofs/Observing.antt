-- What an observer's seat knows after loads of PHASE and OWN.
use Rattle.std.proofs.Common.{◌≡◌, ◌≢◌, ℕ, Option, Some, None, IfSome, ap, subst}
use Rattle.tj_base.specs.declared.cell.CellId.{CellId}
use Rattle.tj_events.specs.declared.walk.Way.{Way}
use Rattle.tj_log.specs.Shown.{SeatShown}
use Rattle.tj_words.specs.Calls.MetCells.{SeesOwner, SeesPhase}
use Rattle.tj_words.specs.SeatViews.KnowsMore.{KnowsMore}
use Rattle.tj_words.specs.Calls.WalkViews.{ReadsCount}
use Rattle.tj_words.specs.SeatViews.SeatSteps.{IsSameSeat, SeatMe}
use Rattle.tj_words.specs.SeatViews.Views.{saw_live, saw_rest, saw_stop, stored_stop}
use Rattle.tj_words.specs.Words.Owners.{owner_number}
use Rattle.tj_words.specs.declared.phase.Phase.{Phase}
use Rattle.tj_words.specs.declared.phase.Phase.TheVariants as phase
use Rattle.tj_words.specs.declared.phase.Walk.{Walk}
use Rattle.tj_record.specs.declared.record.Rec.{Rec}
use Rattle.tj_words.specs.declared.table.Laid.{Laid}
use Rattle.tj_words.specs.declared.view.View.{View}
use Rattle.tj_told.specs.ToldLoads.{GrowsTo}
use Rattle.tj_told.specs.Observers.{KnowsCell, LooksOn, Observes}
use Rattle.tj_told.proofs.Climbing.{cell_on, looks_itself, looks_then}
use Rattle.tj_told.proofs.Looking.{keeps_count, keeps_live, keeps_owner, keeps_phase, keeps_stop, keeps_stored}
use Rattle.tj_told.proofs.Looking.{owned_known}
use Rattle.tj_told.proofs.Looking.{waiting_known}

module _ {B : Type 0} where
  -- what is known stays known
  pub known_on : (c : ℕ) (v w : View B) → KnowsMore v w → KnowsCell c v → KnowsCell c w
  known_on c v w k h = (k.known c h.0, (h.1.0, cell_on v.born w.born c h.1.0 k.born h.1.1))

  pub after_phase : (laid : Laid B) (cells t : ℕ) (p : Phase) (a b : SeatShown (Option (Rec B)) (View B))
      → Observes laid a → IsSameSeat a b → SeesPhase cells t p a.me.0 b.me.0 → GrowsTo a.log b.log → LooksOn a b
  after_phase laid cells t p a b o same s grows =
      looks_then a a b (looks_itself a) same (keeps_phase cells t p a.me.0 b.me.0 o.idle.rest s) grows

  pub after_owner : (cells c : ℕ) (o : Option CellId) (a b d : SeatShown (Option (Rec B)) (View B)) → LooksOn a b
      → IsSameSeat b d → SeesOwner cells c (owner_number o) b.me.0 d.me.0 → GrowsTo b.log d.log → LooksOn a d
  after_owner cells c o a b d p same s grows =
      looks_then a b d p same (keeps_owner cells c (owner_number o) b.me.0 d.me.0 s) grows

  -- the seat knows a task that waits, also after a load of OWN
  pub task_known : (laid : Laid B) (cells t : ℕ) (p : Phase) (c : CellId) (way : Way) (walk : Walk) (o : Option CellId)
      (a b d : SeatShown (Option (Rec B)) (View B)) → Observes laid a → p ≡ phase.Waiting c way walk
      → SeesPhase cells t p a.me.0 b.me.0 → SeesOwner cells c.0 (owner_number o) b.me.0 d.me.0 → KnowsCell t d.me.0
  task_known laid cells t p c way walk o a b d ob e s m =
      known_on t b.me.0 d.me.0 (keeps_owner cells c.0 (owner_number o) b.me.0 d.me.0 m).more
      (waiting_known cells t p c way walk a.me.0 b.me.0 ob.idle.rest e s)

  -- and the cell for which it waits, where that has an owner
  pub cell_known : (cells c : ℕ) (o : Option CellId) (u : CellId) (b d e : SeatShown (Option (Rec B)) (View B))
      → o ≡ Some u → SeesOwner cells c (owner_number o) b.me.0 d.me.0 → LooksOn d e → KnowsCell c e.me.0
  cell_known cells c o u b d e is m l = known_on c d.me.0 e.me.0 l.more
      (owned_known cells c u.0 b.me.0 d.me.0
      (subst (λ z. SeesOwner cells c (owner_number z) b.me.0 d.me.0) is m)).0

  -- loads of STOP, LIVE and COUNT, and a store of STOP
  pub after_stop : (n : ℕ) (a b d : SeatShown (Option (Rec B)) (View B)) → LooksOn a b → IsSameSeat b d
      → d.me.0 ≡ saw_stop n b.me.0 → GrowsTo b.log d.log → LooksOn a d
  after_stop n a b d p same e grows = looks_then a b d p same (keeps_stop n b.me.0 d.me.0 e) grows

  pub after_live : (n : ℕ) (a b d : SeatShown (Option (Rec B)) (View B)) → LooksOn a b → IsSameSeat b d
      → (n ≡ 0 → d.me.0 ≡ saw_rest b.me.0) → (n ≢ 0 → d.me.0 ≡ saw_live n b.me.0) → GrowsTo b.log d.log → LooksOn a d
  after_live n a b d p same e f grows = looks_then a b d p same (keeps_live n b.me.0 d.me.0 e f) grows

  pub after_count : (cells n : ℕ) (a b d : SeatShown (Option (Rec B)) (View B)) → LooksOn a b → IsSameSeat b d
      → ReadsCount None cells n b.me.0 d.me.0 → GrowsTo b.log d.log → LooksOn a d
  after_count cells n a b d p same e grows = looks_then a b d p same (keeps_count cells n b.me.0 d.me.0 e) grows

  pub after_store : (n : ℕ) (a b : SeatShown (Option (Rec B)) (View B)) → b.table_id ≡ a.table_id → b.id ≡ a.id
      → b.me ≡ (stored_stop n a.me.0, a.me.1) → GrowsTo a.log b.log → LooksOn a b
  after_store n a b t i e grows = looks_then a a b (looks_itself a) (t, i, ap (λ (m : SeatMe B). m.1) e)
      (keeps_stored n a.me.0 b.me.0 (ap (λ (m : SeatMe B). m.0) e)) grows

-- what holds of an option's value holds where it has one
pub of_some : {A : Type 0} (P : A → Type 0) (o : Option A) (a : A) → o ≡ Some a → IfSome o P → P a
of_some P o a e h = let k : IfSome (Some a) P = subst (λ z. IfSome z P) e h in k
