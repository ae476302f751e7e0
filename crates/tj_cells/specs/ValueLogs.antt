-- What a look at the value of a cell leaves in the log of its seat.
use Rattle.std.specs.Prelude.{◌≡◌, ◌≢◌, ℕ, ◌≤◌, ◌∷◌, Option}
use Rattle.tj_log.specs.Shown.{SeatShown}
use Rattle.tj_words.specs.CallLaws.StepCalls as call
use Rattle.tj_words.specs.CallLaws.StepLogs.{entry_of}
use Rattle.tj_words.specs.declared.offsets.Once.TheVariants as once
use Rattle.tj_record.specs.declared.record.Rec.{Rec}
use Rattle.tj_words.specs.declared.view.View.{View}
use Rattle.tj_words.specs.Words.Values.{fill_in}
use Rattle.tj_cells.specs.SeenValues.{seen_in}
use Rattle.tj_cells.specs.declared.seen.Seen.{Seen}

module _ {B : Type 0} where
  -- TAG of the cell was loaded, which was 1 to 4, and then BITS; they stand for what was seen. So 4 is what stands for
  -- broken
  pub record LoadsEntry (p : ℕ) (s : Seen) (old new : SeatShown (Option (Rec B)) (View B)) : Type 0 where
    pub tag : ℕ
    pub bits : ℕ
    pub some : tag ≢ 0
    pub small : tag ≤ 4
    pub says : s ≡ seen_in (fill_in tag bits)
    pub log : new.log ≡ entry_of (call.sees_once p once.Bits) 0 0 bits
        ∷ entry_of (call.sees_once p once.Tag) 0 0 tag ∷ old.log
    pub took : new.took ≡ old.took
