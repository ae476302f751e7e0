-- The step calls: on which word each is one step, what it stores there, and what it tells of its seat.
use Rattle.std.specs.Prelude.{◌≡◌, ◌≢◌, ℕ, suc, ◌-◌, ◌≤◌, ◌<◌, ◌^◌, min, Bool, Option}
use Rattle.atomic_table.specs.Table.{Step}
use Rattle.tj_base.specs.declared.cell.Sort.{Sort}
use Rattle.tj_body.specs.Programs.{Program}
use Rattle.tj_events.specs.Events.{count_read, others_read, wait_found}
use Rattle.tj_words.specs.declared.offsets.Once.{Once}
use Rattle.tj_record.specs.declared.record.Rec.{Rec}
use Rattle.tj_words.specs.declared.view.Noted.TheVariants as note
use Rattle.tj_words.specs.Calls.ChainSteps.{next_store, push_exchange, shut_swap}
use Rattle.tj_words.specs.Words.Codes.{IsPhaseWord}
use Rattle.tj_words.specs.Calls.DrawViews.{draw_step}
use Rattle.tj_words.specs.Calls.EntryViews.{MayPutOnce, PutsOnce}
use Rattle.tj_words.specs.Calls.ExchangeViews.{MaySwap, phase_swap}
use Rattle.tj_words.specs.SeatViews.FullMeaning.{stop_load}
use Rattle.tj_words.specs.Words.Heads.{shut_word}
use Rattle.tj_words.specs.Calls.LiveViews.{live_add, live_sub, stop_store}
use Rattle.tj_words.specs.Words.Offsets.{count_at, live_at, others_at, stop_at, own_at, phase_at, once_at, head_at}
use Rattle.tj_words.specs.Words.Offsets.{next_at}
use Rattle.tj_words.specs.Words.Owners.{owner_in}
use Rattle.tj_words.specs.Calls.OwnerViews.{MayPutOwner, owner_put}
use Rattle.tj_words.specs.Calls.MetCells.{owner_load, phase_load}
use Rattle.tj_words.specs.Words.Phases.{phase_in}
use Rattle.tj_words.specs.Calls.PhaseViews.{PutsPhase}
use Rattle.tj_words.specs.SeatViews.SeatSteps.{Tells, IsCount, live_load, plain_load}
use Rattle.tj_words.specs.SeatViews.SeenWords.{head_load, next_load, once_load}
use Rattle.tj_words.specs.Steps.StepEvents.{wait_in}
use Rattle.tj_words.specs.Calls.WalkViews.{owner_seen, others_add, others_subtraction, walk_load}

-- the step calls, each with the cells and words that it is about; of the loads of COUNT, OWN and PHASE there are two,
-- one that is no event and one by the walker of a task, which is named first
pub data StepCall : Type 0 where
  draws : ℕ → Sort → StepCall
  counts : StepCall
  counts_by : ℕ → StepCall
  puts_once : ℕ → Once → StepCall
  sees_once : ℕ → Once → StepCall
  puts_owner : ℕ → StepCall
  sees_owner : ℕ → StepCall
  sees_owner_by : ℕ → ℕ → StepCall
  puts_phase : ℕ → StepCall
  sees_phase : ℕ → StepCall
  sees_phase_by : ℕ → ℕ → StepCall
  swaps_phase : ℕ → StepCall
  raises_others : ℕ → StepCall
  lowers_others : StepCall
  sees_others_by : ℕ → StepCall
  raises_live : StepCall
  lowers_live : StepCall
  sees_live : StepCall
  stops : StepCall
  sees_stop : StepCall
  sees_head : ℕ → StepCall
  pushes : ℕ → StepCall
  shuts : ℕ → StepCall
  puts_next : ℕ → StepCall
  sees_next : ℕ → StepCall

-- the word on which a call is one step
abbrev pub place_of : StepCall → ℕ
place_of (draws t o) = count_at
place_of counts = count_at
place_of (counts_by t) = count_at
place_of (puts_once c f) = once_at c f
place_of (sees_once c f) = once_at c f
place_of (puts_owner c) = own_at c
place_of (sees_owner c) = own_at c
place_of (sees_owner_by t c) = own_at c
place_of (puts_phase t) = phase_at t
place_of (sees_phase t) = phase_at t
place_of (sees_phase_by t u) = phase_at u
place_of (swaps_phase t) = phase_at t
place_of (raises_others t) = others_at
place_of lowers_others = others_at
place_of (sees_others_by t) = others_at
place_of raises_live = live_at
place_of lowers_live = live_at
place_of sees_live = live_at
place_of stops = stop_at
place_of sees_stop = stop_at
place_of (sees_head p) = head_at p
place_of (pushes p) = head_at p
place_of (shuts p) = head_at p
place_of (puts_next t) = next_at t
place_of (sees_next t) = next_at t

module _ {B : Type 0} where
  -- a call leaves what f makes of its operands and of the number that it found
  abbrev pub leaves : (Step (Option (Rec B)) → ℕ → ℕ) → Tells B → ℕ → Tells B
  leaves f T n st m k m' = (n ≡ f st k) × T st m k m'

  -- a load leaves the number that it found
  abbrev pub loads : Tells B → ℕ → Tells B
  loads = leaves (λ st k. k)

  -- a store leaves its operand
  abbrev pub stores : Tells B → ℕ → Tells B
  stores = leaves (λ st k. st.first)

  -- an exchange leaves its second operand where it found the first, and else what it found
  abbrev pub exchanges : Tells B → ℕ → Tells B
  exchanges T n st m k m' = (k ≡ st.first → n ≡ st.second) × (k ≢ st.first → n ≡ k) × T st m k m'

  module _ (program : Bool → B → Program B) (cells : ℕ) where
    -- that n is stored where k was found, and what the call tells then; with what it asks, where it tells that only of
    -- a seat of which this is so
    abbrev pub told_by : StepCall → ℕ → Tells B
    told_by (draws t o) = leaves (λ st k. suc k) (draw_step program cells t o)
    told_by counts = loads (plain_load note.Count (IsCount cells))
    told_by (counts_by t) = loads (walk_load t (λ n. count_read (min n cells)) (IsCount cells))
    told_by (puts_once c f) = stores (λ st m k m'. MayPutOnce program f c st.first m.0 × (m'.1 ≡ m.1)
        × PutsOnce program f c st.first m.0 m'.0)
    told_by (sees_once c f) = loads (once_load program cells f c)
    told_by (puts_owner c) = stores (λ st m k m'. MayPutOwner c (owner_in st.first) m.0 × owner_put c st m k m')
    told_by (sees_owner c) = loads (owner_load cells c)
    told_by (sees_owner_by t c) = loads (walk_load t (λ n w. owner_seen (owner_in n) w w.last) (λ n. n ≤ cells))
    told_by (puts_phase t) = stores (λ st m k m'. PutsPhase t (phase_in st.first) m m')
    told_by (sees_phase t) = loads (phase_load cells t)
    told_by (sees_phase_by t u) = loads (walk_load t (λ n. wait_found u (wait_in (phase_in n))) (IsPhaseWord cells))
    told_by (swaps_phase t) = exchanges (λ st m k m'. MaySwap t (phase_in st.first) (phase_in st.second) m.0
        × phase_swap program t cells st m k m')
    told_by (raises_others t) = leaves (λ st k. suc k) (others_add t)
    told_by lowers_others = leaves (λ st k. k - 1) others_subtraction
    told_by (sees_others_by t) = loads (walk_load t others_read (λ n. n < 2 ^ 32))
    told_by raises_live = leaves (λ st k. suc k) live_add
    told_by lowers_live = leaves (λ st k. k - 1) live_sub
    told_by sees_live = loads live_load
    told_by stops = stores stop_store
    told_by sees_stop = loads (stop_load program)
    told_by (sees_head p) = loads (head_load program cells p)
    told_by (pushes p) = exchanges (push_exchange program cells p)
    told_by (shuts p) = leaves (λ st k. shut_word) (shut_swap cells p)
    told_by (puts_next t) = stores (next_store t)
    told_by (sees_next t) = loads (next_load cells t)
