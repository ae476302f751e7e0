-- The links of turns by names, from the least name on.
use Rattle.std.specs.Prelude.{◌≡◌, ◌≢◌, ◌-◌, ℕ, true, List, [], ◌∷◌, ◌++◌, All, reverse}
use Rattle.tj_body.specs.Points.{IsIn}
use Rattle.tj_words.specs.SeatViews.SeenWords.{seen_word}
use Rattle.tj_words.specs.declared.offsets.Once.TheVariants as once
use Rattle.tj_words.specs.declared.view.SeenWord.{SeenWord}
use Rattle.tj_base.specs.ForkOrder.{Name}
use Rattle.tj_body.specs.Names.{at_most}
use Rattle.tj_body.specs.declared.point.Reference.{Reference}
use Rattle.tj_log.specs.declared.entry.Entry.{Entry}
use Rattle.tj_mean.specs.Outcomes.{first_task}
use Rattle.tj_mean.specs.declared.outcome.Link.{Link}
use Rattle.tj_words.specs.LawParts.TreeWords.{IsCell}
use Rattle.tj_told.specs.ToldLoads.{ArePartOf, HasRound, Turn, loads_of}
use Rattle.tj_words.specs.CallLaws.LoggedRuns.{in_order}

-- the cell has this name in the list
abbrev pub IsNamed : List Reference → ℕ → Name → Type 0
IsNamed born c q = (x : Reference) × IsCell born c x × (x.name ≡ q)

-- by PARENT and KID that were seen, these numbers lead up from c to this cell, that of c first
abbrev pub ClimbsTo : List SeenWord → ℕ → List ℕ → ℕ → Type 0
ClimbsTo seen c [] at = c ≡ at
ClimbsTo seen c (k ∷ ks) at = (c ≢ 0) × ((p : ℕ) × IsIn (seen_word c once.Parent p) seen
    × IsIn (seen_word c once.Kid k) seen × ClimbsTo seen (p - 1) ks at)

-- they lead from c up to the root, and are the name
abbrev pub SeesName : List SeenWord → ℕ → Name → Type 0
SeesName seen c q = (ks : List ℕ) × ClimbsTo seen c ks 0 × (q ≡ reverse ks)

-- each link has the names of the task and of the cell of its turn
abbrev pub AreLinksOf : (ℕ → Name → Type 0) → List Turn → List Link → Type 0
AreLinksOf Named [] [] = Unit {0}
AreLinksOf Named [] (l ∷ ls) = ⊥
AreLinksOf Named (x ∷ xs) [] = ⊥
AreLinksOf Named (x ∷ xs) (l ∷ ls) = Named x.task l.task × Named x.cell.0 l.cell × AreLinksOf Named xs ls

-- a turn of this task, of which these are the link and the owner, was loaded after the old log
pub record FindsTurn (t : ℕ) (link : Link) (u : ℕ) (old new : List Entry) (seen : List SeenWord) : Type 0 where
  pub turn : Turn
  pub task : turn.task ≡ t
  pub owner : turn.owner ≡ u
  pub loads : (es : List Entry) → ArePartOf es (in_order old) → ArePartOf (es ++ loads_of (turn ∷ [])) (in_order new)
  pub task_named : SeesName seen turn.task link.task
  pub cell_named : SeesName seen turn.cell.0 link.cell

-- the links are the others from the one on whose task has the least name
pub record IsFromLeast (links turned : List Link) : Type 0 where
  pub before : List Link
  pub after : List Link
  pub all : links ≡ before ++ after
  pub is : turned ≡ after ++ before
  pub least : All (λ l. at_most (first_task turned) l.task ≡ true) turned

-- the log has a round of which these are the links, by the names that were seen, from the least one on
pub record IsSeenRound (log : List Entry) (seen : List SeenWord) (turned : List Link) : Type 0 where
  pub task : ℕ
  pub turns : List Turn
  pub round : HasRound task turns log
  pub links : List Link
  pub named : AreLinksOf (SeesName seen) turns links
  pub least : IsFromLeast links turned
