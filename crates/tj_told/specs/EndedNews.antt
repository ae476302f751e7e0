-- What was told before the end of a run stood in its table at the end.
use Rattle.std.specs.Prelude.{◌≡◌, ◌≢◌, ◌⊎◌, ℕ, Bool, List, [], ◌∷◌, Option, Some, reverse}
use Rattle.tj_base.specs.ForkOrder.{Name}
use Rattle.tj_base.specs.declared.value.Shown.{Shown}
use Rattle.tj_body.specs.Points.{IsIn}
use Rattle.tj_body.specs.Programs.{Program}
use Rattle.tj_body.specs.RoundPoints.{Becomes}
use Rattle.tj_body.specs.Rounds.{IsFull, meaning}
use Rattle.tj_body.specs.declared.point.Entry.TheVariants as entry
use Rattle.tj_body.specs.declared.point.Value.{Value}
use Rattle.tj_embed.specs.ScriptRuns.{script_program}
use Rattle.tj_embed.specs.declared.options.Options.{Options}
use Rattle.tj_eval.specs.Bodies.{IsMainBody}
use Rattle.tj_eval.specs.Statements.{TaskState}
use Rattle.tj_log.specs.Shown.{SeatShown}
use Rattle.tj_mean.specs.Outcomes.{IsOutcome, shown_of}
use Rattle.tj_mean.specs.declared.outcome.Link.{Link}
use Rattle.tj_mean.specs.declared.outcome.Outcome.{Outcome}
use Rattle.tj_report.specs.NamedValues.{IsOfName}
use Rattle.tj_report.specs.declared.named_values.Became.TheVariants as became
use Rattle.tj_syntax.specs.Trees.{Task}
use Rattle.tj_words.specs.AtRest.ClosedCells as closed
use Rattle.tj_words.specs.AtRest.EndedRuns.{EndsRun}
use Rattle.tj_words.specs.declared.closed.RestCell.{RestCell}
use Rattle.tj_record.specs.declared.record.Rec.{Rec}
use Rattle.tj_words.specs.declared.view.View.{View}
use Rattle.tj_told.specs.ToldLinks.{AreLinksOf, IsFromLeast}
use Rattle.tj_told.specs.ToldLoads.{ComesBack, Turn}
use Rattle.tj_told.specs.SeenNews.{HasStopped}
use Rattle.tj_told.specs.ToldNews.{AreOf}
use Rattle.tj_told.specs.declared.fault.ToldFault.{ToldFault}
use Rattle.tj_told.specs.declared.fault.ToldFault.TheVariants as fault
use Rattle.tj_told.specs.declared.news.News.{News}
use Rattle.tj_told.specs.declared.news.News.TheVariants as news

-- by PARENT and KID of closed cells, these numbers lead up from c to the root, that of c first
abbrev pub ClimbsIn : List RestCell → ℕ → List ℕ → Type 0
ClimbsIn cells c [] = c ≡ 0
ClimbsIn cells c (k ∷ ks) = (c ≢ 0) × ((x : RestCell) × closed.IsShown cells c x × (x.kid ≡ k)
    × ClimbsIn cells x.parent.0 ks)

-- they are the name
abbrev pub IsNamedIn : List RestCell → ℕ → Name → Type 0
IsNamedIn cells c q = (ks : List ℕ) × ClimbsIn cells c ks × (q ≡ reverse ks)

-- by closed cells the task of each turn waits for its cell, which the turn's owner owns
abbrev pub AreTurnsClosed : List RestCell → List Turn → Type 0
AreTurnsClosed cells [] = Unit {0}
AreTurnsClosed cells (x ∷ xs) =
    (closed.Waits cells x.task x.cell × closed.Owns cells x.owner x.cell) × AreTurnsClosed cells xs

-- by closed cells the tasks of these links wait in a round, each for the cell of its link, which the next one owns
pub record IsStandingRound (cells : List RestCell) (turned : List Link) : Type 0 where
  pub task : ℕ
  pub turns : List Turn
  pub back : ComesBack task task turns
  pub stand : AreTurnsClosed cells turns
  pub links : List Link
  pub named : AreLinksOf (IsNamedIn cells) turns links
  pub least : IsFromLeast links turned

-- by closed cells the cell of this name is broken: its TAG is 4
abbrev pub IsStandingBroken : List RestCell → Name → Type 0
IsStandingBroken cells q = (c : ℕ) × (x : RestCell) × closed.IsShown cells c x × (x.tag ≡ 4) × IsNamedIn cells c q

-- in some round of the meaning the cell of this name has a value that is shown like this
abbrev pub HasValueIn : {B : Type 0} → Program B → Name → Shown → Type 0
HasValueIn program q v = (x : Value) × (shown_of x ≡ v) × Becomes program q (entry.Value x)

module _ {B : Type 0} (program : Bool → B → Program B) (limit : ℕ) (strict : Bool) (root : B) (wanted : Option Name)
  where
    -- what was told stood in the table when the run ended: by the cells at the end of a run of the table of this root
    -- and limit, from its first state on, each cycle stands, and each broken cell is broken, as it is in some round of
    -- the meaning; and a value that was told is, in some round, that of the cell of the wanted name. Where the listener
    -- has stopped the run, the last step of the seat that looked on stored 2 in STOP
    pub record StoodAtEnd (why : ToldFault) (told : List News) : Type 0 where
      pub seat : SeatShown (Option (Rec B)) (View B)
      pub cells : List RestCell
      pub records : List (Option (Rec B))
      pub ends : EndsRun program limit strict root seat cells records
      pub stopped : why ≡ fault.Stopped → HasStopped seat
      pub cycles : (c : List Link) → IsIn (news.Cycle c) told → IsStandingRound cells c
      pub broken : (q : Name) → IsIn (news.Broken q) told
          → IsStandingBroken cells q × Becomes (program strict root) q entry.Broken
      pub values : (q : Name) (v : Shown) → IsIn (news.Value q v) told
          → (wanted ≡ Some q) × HasValueIn (program strict root) q v

    -- what was told is of this outcome, that of the meaning, which isn't full: each cycle is one of its cycles, each
    -- broken cell is broken by it, and a value that was told is that of the cell of the wanted name
    pub record IsOfOutcome (outcome : Outcome) (told : List News) : Type 0 where
      pub is : IsOutcome (meaning (program strict root) limit) outcome
      pub fits : ¬ IsFull (program strict root) limit
      pub agree : AreOf told outcome
      pub values : (q : Name) (v : Shown) → IsIn (news.Value q v) told
          → (wanted ≡ Some q) × IsOfName (program strict root) limit q (Some (became.Value v))

    -- with this fault nothing was told, or what was told stood at the end, or it is of the outcome of the meaning
    abbrev pub IsEarly : ToldFault → List News → Type 0
    IsEarly why told = (told ≡ []) ⊎ (StoodAtEnd why told ⊎ ((o : Outcome) × IsOfOutcome o told))

-- the same of a script with these options: nothing was told, or it is so of the body of `main` as the root
abbrev pub IsEarlyOfScript : List Task → Options → Option Name → ToldFault → List News → Type 0
IsEarlyOfScript script o wanted why told = (told ≡ []) ⊎ ((root : TaskState) × IsMainBody script o.steps root
    × IsEarly script_program o.cells o.strict root wanted why told)
