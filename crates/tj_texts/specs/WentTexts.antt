-- Where a promise went for which a task failed, as it is told.
use Rattle.std.specs.Prelude.{ℕ, Bool, true, false, ◌&&◌, nat_eq, List, [], ◌++◌, codes}
use Rattle.tj_base.specs.ForkOrder.{child}
use Rattle.tj_base.specs.Texts.{name_text}
use Rattle.tj_findings.specs.Scenes.{Told, spot_text}
use Rattle.tj_findings.specs.declared.finding.Went.{Went}
use Rattle.tj_findings.specs.declared.finding.Went.TheVariants as went

-- where a promise went for which a task of this declaration failed
abbrev pub went_text : Told → ℕ → Went → List ℕ
went_text s d went.Nowhere = []
went_text s d (went.SetHere n) = codes ", set at " ++ spot_text s d n
went_text s d (went.HandedHere x k n) = codes ", handed to " ++ name_text (child x k) ++ codes " at " ++ spot_text s d n
went_text s d went.TwiceHere = codes ", handed twice here"
went_text s d (went.SetBy x e n) = codes ", which " ++ name_text x ++ codes " set at " ++ spot_text s e n
went_text s d (went.OwnedBy x) = codes ", which " ++ name_text x ++ codes " owned where it stopped"

-- each of the promises was handed on by the task that failed, or each was set by another task, at the same statement; or
-- each was owned by another where that stopped
abbrev pub alike_went : Went → Went → Bool
alike_went (went.HandedHere x k n) (went.HandedHere y j m) = nat_eq n m
alike_went (went.SetBy x d n) (went.SetBy y e m) = nat_eq d e && nat_eq n m
alike_went (went.OwnedBy x) (went.OwnedBy y) = true
alike_went v w = false

-- where promises went, of which this is the first and the others went alike, for which tasks of this declaration failed
abbrev pub each_text : Told → ℕ → Went → List ℕ
each_text s d went.Nowhere = []
each_text s d (went.SetHere n) = []
each_text s d (went.HandedHere x k n) = codes ", each handed on at " ++ spot_text s d n
each_text s d went.TwiceHere = []
each_text s d (went.SetBy x e n) = codes ", each set by another at " ++ spot_text s e n
each_text s d (went.OwnedBy x) = codes ", each owned by another where it stopped"
