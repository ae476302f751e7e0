-- The law of parts: what a line says of findings that are alike, beside their names and what makes them alike, is so of
-- each of them, or it is left out; but whether they wait for promises or for tasks goes by the first one's cell, and
-- nothing is said of how several owners stopped.
use Rattle.std.specs.Prelude.{◌≡◌, ◌⊎◌, List, [], ◌++◌, ℕ, codes, map, slice_get, Option, Some}
use Rattle.std.specs.Option.{option_map}
use Rattle.tj_base.specs.ForkOrder.{Name}
use Rattle.tj_base.specs.Texts.{name_text}
use Rattle.tj_base.specs.declared.cause.Cause.{Cause}
use Rattle.tj_body.specs.Points.{IsIn}
use Rattle.tj_mean.specs.ReportTexts.{cause_text}
use Rattle.tj_trace.specs.declared.line.Maker.{Maker}
use Rattle.tj_findings.specs.Groups.{cell_named, cell_told, maker_told, origin_told}
use Rattle.tj_findings.specs.PartTexts.{cause_word, made_text, owner_text, stopped_word}
use Rattle.tj_findings.specs.ReasonTexts.{all_reasons, reason_text}
use Rattle.tj_findings.specs.Scenes.{Told, name_of, stop_text, task_at}
use Rattle.tj_findings.specs.declared.finding.Finding.{Finding}
use Rattle.tj_findings.specs.declared.finding.ToldTask.{ToldTask}
use Rattle.tj_findings.specs.declared.finding.Wait.{Wait}
use Rattle.tj_texts.specs.GroupLaws.{StandAlike}
use Rattle.tj_texts.specs.WentTexts.{each_text, went_text}
use Rattle.tj_texts.specs.WhyTexts.{all_made, all_went, cause_of, crowd, first_names, fork_text, joined_text}
use Rattle.tj_texts.specs.WhyTexts.{origin_text, origins_text, owners_text, promises_text}

module _ {A : Type 0} where
  -- the part is empty, or this text, which is told of each of these by itself
  abbrev pub IsAgreed : (A → List ℕ) → List A → (text part : List ℕ) → Type 0
  IsAgreed told xs text part = (part ≡ []) ⊎ ((part ≡ text) × ((x : A) → IsIn x xs → told x ≡ text))

  -- the part is bare, which has no name, or the text that names this cell, and each of these has the cell
  abbrev pub HasCell : (A → Option Name) → List A → Option Name → (text bare part : List ℕ) → Type 0
  HasCell cell xs q text bare part = (part ≡ bare) ⊎ ((part ≡ text) × ((x : A) → IsIn x xs → cell x ≡ q))

-- the name of the cell of a wait
abbrev pub cell_of : Wait → Option Name
cell_of w = Some w.cell.name

module _ (s : Told) where
  -- behind the names of several tasks and their declaration stands the fork that each of them has, or none
  abbrev pub ForksAgree : Type 0
  ForksAgree = (t : ToldTask) (ts : List ToldTask) → (fork : List ℕ)
      × (crowd s t ts ≡ first_names (map (λ u. u.name) ts) ++ codes " of task " ++ name_of (slice_get s.script t.decl)
      ++ fork)
      × IsAgreed (λ u. fork_text s u.fork) ts (fork_text s t.fork) fork

  -- of promises for which tasks wait the name is told if each of them waits for it, or no name; and where it was made,
  -- and who owns it, only if it is so of each
  abbrev pub HasPromise : Wait → List Wait → List ℕ → Type 0
  HasPromise w ws text = (cell made owner : List ℕ) × (text ≡ cell ++ made ++ owner)
      × HasCell cell_of ws (cell_of w) (codes "the promise " ++ name_text w.cell.name) (codes "promises") cell
      × IsAgreed (λ v. made_text s v.cell.maker) ws (made_text s w.cell.maker) made
      × IsAgreed (λ v. owner_text v.owner) ws (owner_text w.owner) owner

  -- of tasks for which tasks wait, the name is told if each of them waits for it, or no name
  abbrev pub HasJoined : Wait → List Wait → List ℕ → Type 0
  HasJoined w ws text =
      HasCell cell_of ws (cell_of w) (codes "the task " ++ name_text w.cell.name) (codes "tasks") text

  -- so it is with the parts that tell what tasks wait for
  abbrev pub WaitsAgree : Type 0
  WaitsAgree = (w : Wait) (ws : List Wait) → HasPromise w ws (promises_text s w ws) × HasJoined w ws (joined_text w ws)

  -- of failures the cause is told with the cell that each of them names, or its word alone
  abbrev pub CausesAgree : Type 0
  CausesAgree = (c : Cause) (fs : List Finding)
      → HasCell cell_told fs (cell_named c) (cause_text c) (cause_word c) (cause_of c fs)

  -- where the cells were made is told only if it is so of each
  abbrev pub MakersAgree : Type 0
  MakersAgree = (m : Option Maker) (fs : List Finding)
      → IsAgreed (λ g. made_text s (maker_told g)) fs (made_text s m) (all_made s m fs)

  -- so are reasons
  abbrev pub ReasonsAgree : Type 0
  ReasonsAgree = (t : ToldTask) (c : Cause) (ts : List ToldTask)
      → IsAgreed (λ u. reason_text s u c) ts (reason_text s t c) (all_reasons s t c ts)

  -- where promises went is told as of each by itself, or in words that are so of each
  abbrev pub HasWent : ToldTask → List ToldTask → List ℕ → Type 0
  HasWent t ts text = IsAgreed (λ u. went_text s t.decl u.went) ts (went_text s t.decl t.went) text
      ⊎ IsAgreed (λ u. each_text s t.decl u.went) ts (each_text s t.decl t.went) text

  -- so it is with the part that tells where promises went
  abbrev pub WentsAgree : Type 0
  WentsAgree = (t : ToldTask) (ts : List ToldTask) → HasWent t ts (all_went s t ts)

  -- the task where echoes began is told only if each began there
  abbrev pub OriginsAgree : Type 0
  OriginsAgree = (o : Option ToldTask) (fs : List Finding)
      → HasCell origin_told fs (option_map (λ t. t.name) o) (origin_text s o) [] (origins_text s o fs)

  -- that this task owned promises, and how and where it stopped
  abbrev pub owned_them : ToldTask → List ℕ
  owned_them t = codes ": " ++ task_at s t (codes " owned them and " ++ stopped_word t.stop ++ codes " at ")

  -- that tasks of this one's declaration owned a promise each, and how and where they stopped
  abbrev pub owned_each : ToldTask → List ℕ
  owned_each t = codes ": task " ++ name_of (slice_get s.script t.decl) ++ codes " owned each and "
      ++ stopped_word t.stop ++ codes " at " ++ stop_text s t

  -- of promises the owner is told if each task that owed one of them has its name, else the declaration and the
  -- statement at which the owners stopped, if each did so there, and else nothing
  abbrev pub HasOwners : ToldTask → List ToldTask → List ℕ → Type 0
  HasOwners t ts text = (text ≡ []) ⊎ (((text ≡ owned_them t) × ((u : ToldTask) → IsIn u ts → u.name ≡ t.name))
      ⊎ ((text ≡ owned_each t) × ((u : ToldTask) → IsIn u ts → StandAlike t u)))

  -- so it is with the part that tells who owed promises
  abbrev pub OwnersAgree : Type 0
  OwnersAgree = (t : ToldTask) (ts : List ToldTask) → HasOwners t ts (owners_text s t ts)

  -- all of these
  abbrev pub PartsAgree : Type 0
  PartsAgree = ForksAgree × WaitsAgree × CausesAgree × MakersAgree × ReasonsAgree × WentsAgree × OriginsAgree
      × OwnersAgree
