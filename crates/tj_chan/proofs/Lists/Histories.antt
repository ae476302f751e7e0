-- A history over lists is a run over what the lists tell.
use Rattle.std.proofs.Common.{◌≡◌, ℕ, zero, suc, ◌*◌, Bool, true, false, Option, Some, None, refl, ap, ◌∙◌}
use Rattle.std.specs.Prelude.{ℤ, slice_get}
use Rattle.tj_body.specs.Steps.{after_steps}
use Rattle.tj_chan.specs.Channels.{ChatRules, Channel, Lists, ChatStage, receives, ChatTask}
use Rattle.tj_chan.specs.Channels.{ChatPoint, after_item, after_chat_stage, after_chat_step, chat_start, chat_history}
use Rattle.tj_chan.proofs.Lists.Runs.{found_by, finds_of, after_found, run_stage, run_after, run_of}

module _ {C : Type 0} where
  -- what a list tells of an item is what is found of it
  item_found : (c : Channel) (i : ℕ) (is_cut : Bool) (o : Option ℤ) (p : ChatPoint C)
      → after_item c i is_cut o p ≡ after_found c i (found_by is_cut o) p
  item_found c i true (Some v) p = refl
  item_found c i false (Some v) p = refl
  item_found c i true None p = refl
  item_found c i false None p = refl

  module _ (rules : ChatRules C) (L : Lists) where
    stage_same : (s : ChatStage) (p : ChatPoint C)
        → after_chat_stage rules L s p ≡ run_stage rules (finds_of L) s p
    stage_same (receives c i) p = item_found c i (L c).is_cut (slice_get (L c).sent i) p
    stage_same s p = refl

    pub point_same : (k : ℕ) (t : ChatTask C)
        → after_steps (after_chat_step rules L) k (chat_start t) ≡ run_after rules (finds_of L) k t
    point_same zero t = refl
    point_same (suc k) t = let p = after_steps (after_chat_step rules L) k (chat_start t) in
        stage_same p.stage p ∙ ap (λ (r : ChatPoint C). run_stage rules (finds_of L) r.stage r) (point_same k t)

    pub histories_are_runs : (t : ChatTask C) → chat_history rules L t ≡ run_of rules (finds_of L) t
    histories_are_runs t = point_same (2 * suc (rules.left t.chatter)) t
