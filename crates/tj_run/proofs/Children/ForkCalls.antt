-- The calls of a fork, by the lists that it has made on the way: the held cells that are handed over and passed on, the
-- promises, and what the task keeps.
use Rattle.tj_run.proofs.Prelude.{All, AllByRecursion, AreKept, Bool, CellId, Err, Goes, Held, Hurt, IsAsked, IsMade}
use Rattle.tj_run.proofs.Prelude.{IsTailOf, KnowsTask, Lacks, Laid, MayGiveEach, MayMake, MayReleaseChild}
use Rattle.tj_run.proofs.Prelude.{NamesTellCells}
use Rattle.tj_run.proofs.Prelude.{Next, Ok, PointsAsk, Program, Rec, RunsTask, SeatMe, TasksStart, ThingsInRounds, View}
use Rattle.tj_run.proofs.Prelude.{Why, ap, child_record, gave_each, hand_cells, held_at, inside, more_itself, numbered}
use Rattle.tj_run.proofs.Prelude.{numbers, released_child, rest, sym, table_program, to_task, with_child, ℕ, ◌∷◌, ◌≡◌}
use Rattle.std.proofs.Common.{◌+◌, ◌<◌, List, drop, map, length, None, Result, IfErr, IfOk, OnOk, ◌∙◌, subst, arith}
use Rattle.std.specs.Result.{IsErrAnd}
use Rattle.tj_words.specs.Calls.LiveViews.{SlotsOf}
use Rattle.tj_run.proofs.Asks.NewThings.{lacks_memory, lacks_noted}
use Rattle.tj_run.proofs.Cells.NamedLists.{behind}
use Rattle.tj_body.specs.NameLaws.{Unhanded}
use Rattle.tj_run.proofs.Children.ForkedChildren.{all_behind, fork_about, fork_notes, fork_fails, fork_goes}
use Rattle.tj_run.proofs.Children.ForkedChildren.{knows_parent}
use Rattle.tj_run.proofs.Children.ForkedChildren.{may_birth, may_hand_each, may_release, promise_cells}
use Rattle.tj_base.specs.declared.cell.Sort.TheVariants as sort
use Rattle.tj_body.specs.declared.ask.Ask.TheVariants as ask
use Rattle.tj_record.specs.declared.record.Finish.TheVariants as finish
use Rattle.tj_run.specs.declared.next.Next.TheVariants as next
use Rattle.tj_run.specs.declared.why.Why.TheVariants as why

-- each place of a list is inside another
pub places_inside : (held now : List Held) (places ks : List ℕ) → now ≡ held → ks ≡ places
    → AllByRecursion (λ k. k < length held) places
    → AllByRecursion (λ k. k < length now) ks
places_inside held now places ks e f h = subst (λ l. AllByRecursion (λ k. k < length l) ks) (sym e)
    (subst (λ l. AllByRecursion (λ k. k < length held) l) (sym f) h)

-- the held cells at the places
pub found_held : (held now : List Held) (places ks : List ℕ) (found : List Held) → found ≡ map (held_at now) ks
    → now ≡ held
    → ks ≡ places
    → found ≡ map (held_at held) places
found_held held now places ks found m e f = m ∙ (λ i. map (held_at (e i)) (f i))

-- their cells
pub found_cells : (found all : List Held) (cells : List CellId) → cells ≡ map (λ (h : Held). h.cell) found → found ≡ all
    → cells ≡ map (λ (h : Held). h.cell) all
found_cells found all cells m e = m ∙ ap (λ l. map (λ (h : Held). h.cell) l) e

-- what is kept of the lists that are these
pub kept_of : (x y : Result (List CellId) Hurt) (owned now : List CellId) (given found : List Held) → x ≡ y
    → now ≡ owned
    → found ≡ given
    → AreKept x (hand_cells (numbers now) (map numbered found))
    → AreKept y (hand_cells (numbers owned) (map numbered given))
kept_of x y owned now given found e o g h = subst (λ z. AreKept z (hand_cells (numbers owned) (map numbered given))) e
    (subst (λ l. AreKept x (hand_cells (numbers owned) (map numbered l))) g
    (subst (λ l. AreKept x (hand_cells (numbers l) (map numbered found))) o h))

-- the error is so where there is one
pub if_err : {A E : Type 0} (P : E → Type 0) (res : Result A E) → IsErrAnd res P → IfErr res P
if_err P (Ok a) is = tt
if_err P (Err e) is = is

-- what is kept of the promises of task t, with its result
abbrev pub whole : CellId → Result (List CellId) Hurt → Result (List CellId) Hurt
whole t (Ok left) = Ok (t ∷ left)
whole t (Err h) = Err h

kept_behind : (t : CellId) (y : Result (List CellId) Hurt) (z : Result (List ℕ) Unhanded) → AreKept y z
    → AreKept (whole t y) (behind t.0 z)
kept_behind t (Ok left) (Ok cells) h = ap (λ l. t.0 ∷ l) h
kept_behind t (Err e) (Err why) h = h
kept_behind t (Ok left) (Err why) h = absurd h
kept_behind t (Err e) (Ok cells) h = absurd h

-- what a fork of this body stands on, which is passed and handed these places: the task runs and has asked it, and the
-- laws of rounds and of names
pub record Forking {B : Type 0} (program : Bool → B → Program B) (laid : Laid B) (r : Rec B) (b : B)
    (pass handed : List ℕ) (me : SeatMe B) : Type 0 where
  pub runs : RunsTask laid r me
  pub asked : IsAsked (table_program program laid) me.0 r (ask.Fork b pass handed)
  pub law : PointsAsk (table_program program laid)
  pub things : ThingsInRounds (table_program program laid)
  pub starts : TasksStart (table_program program laid)
  pub tell : NamesTellCells

module _ {B : Type 0} {program : Bool → B → Program B} {laid : Laid B} {r : Rec B} {b : B} {pass handed : List ℕ}
    {me : SeatMe B} (f : Forking program laid r b pass handed me) where
  -- the held cells that are handed over
  abbrev given : List Held
  given = map (held_at r.held) handed

  -- the task is a cell of the table
  pub parent_cell : r.cell.0 < laid.cells
  parent_cell = let l = inside me.0.born r.cell.0 (to_task f.asked.point.name) f.asked.tells.of in
      let few = f.runs.worker.cells.few in omega arith

  -- what the task keeps of its promises, it keeps with its result
  pub forks_kept : (y : Result (List CellId) Hurt)
      → AreKept y (hand_cells (numbers (drop 1 r.owned)) (map numbered given))
      → AreKept (whole r.cell y) (hand_cells (numbers r.owned) (map numbered given))
  forks_kept y h = subst (AreKept (whole r.cell y))
      (sym (all_behind program laid r b pass handed me f.runs f.asked f.law f.tell))
      (kept_behind r.cell y (hand_cells (numbers (drop 1 r.owned)) (map numbered given)) h)

  -- a fork that isn't allowed
  pub forks_fail : (h : Hurt) → AreKept (Err h) (hand_cells (numbers r.owned) (map numbered given))
      → Goes program laid (next.Ends (finish.Failed h)) r me.0 me
  forks_fail h left = record {
    knows = more_itself me.0;
    runs = f.runs;
    goes_on = fork_fails program laid r b pass handed me f.runs f.asked f.law f.tell h left;
  }

  module _ (left : List CellId) (are_kept : AreKept (Ok left) (hand_cells (numbers r.owned) (map numbered given))) where
    pub forks_birth : MayMake program r.cell.0 (r.made + 1) me.0
    forks_birth = may_birth program laid r b pass handed me f.runs f.asked f.law f.tell left are_kept f.things f.starts

    pub forks_known : KnowsTask r.cell.0 me.0
    forks_known = knows_parent program laid r b pass handed me f.runs f.asked f.law f.tell left are_kept f.things
        f.starts

    module _ (c : CellId) (w : View B) (m : IsMade sort.Task laid.cells r.cell.0 c.0 me.0 w) where
      pub forks_cells : (promises : List CellId) → promises ≡ map (λ (h : Held). h.cell) given
          → All (λ (d : CellId). d.0 < laid.cells) promises
      forks_cells promises are = subst (λ l. All (λ (d : CellId). d.0 < laid.cells) l) (sym are)
          (promise_cells program laid r b pass handed me f.runs f.asked f.law f.tell left are_kept f.things f.starts c w
          m)

      pub forks_hand : (promises : List CellId) → promises ≡ map (λ (h : Held). h.cell) given
          → MayGiveEach r.cell.0 promises c.0 w
      forks_hand promises are = subst (λ l. MayGiveEach r.cell.0 l c.0 w) (sym are)
          (may_hand_each program laid r b pass handed me f.runs f.asked f.law f.tell left are_kept f.things f.starts c w
          m)

-- a fork whose child is born, and has been given the promises: which cell it is, what the task keeps, and what the seat
-- knows then
pub record HasGiven {B : Type 0} (program : Bool → B → Program B) (laid : Laid B) (r : Rec B) (b : B)
    (pass handed : List ℕ) (me : SeatMe B) (c : CellId) (left : List CellId) (u : View B) : Type 0 where
  pub forking : Forking program laid r b pass handed me
  pub keeps : AreKept (Ok left) (hand_cells (numbers r.owned) (map numbered (map (held_at r.held) handed)))
  pub born : View B
  pub made : IsMade sort.Task laid.cells r.cell.0 c.0 me.0 born
  pub promises : List CellId
  pub are : promises ≡ map (λ (h : Held). h.cell) (map (held_at r.held) handed)
  pub gave : u ≡ gave_each r.cell.0 promises c.0 born

module _ {B : Type 0} {program : Bool → B → Program B} {laid : Laid B} {r : Rec B} {b : B} {pass handed : List ℕ}
    {me : SeatMe B} {c : CellId} {left : List CellId} {u : View B}
    (h : HasGiven program laid r b pass handed me c left u) where
  gave_so : u ≡ gave_each r.cell.0 (map (λ (h : Held). h.cell) (map (held_at r.held) handed)) c.0 h.born
  gave_so = h.gave ∙ ap (λ l. gave_each r.cell.0 l c.0 h.born) h.are

  pub forks_about : u.about ≡ me.0.about
  forks_about = let f = h.forking in fork_about program laid r b pass handed me f.runs f.asked f.law f.tell left h.keeps
      f.things f.starts c h.born h.made u gave_so

  pub forks_notes : IsTailOf me.0.notes u.notes
  forks_notes = let f = h.forking in fork_notes program laid r b pass handed me f.runs f.asked f.law f.tell left h.keeps
      f.things f.starts c h.born h.made u gave_so

  -- memory is lacking for the child
  pub given_lacks : {A : Type 0} (res : Result A Why) → IsErrAnd res (λ (z : Why). z ≡ why.Memory)
      → IfErr res (λ (z : Why). Lacks z me.0 u)
  given_lacks {A = A} res is = lacks_memory {A = A} me.0 u forks_about forks_notes res is

  pub forks_release : (passed : List Held) → passed ≡ map (held_at r.held) pass → (kid : Rec B)
      → kid ≡ child_record c b passed h.promises
      → MayReleaseChild program c.0 kid u
  forks_release passed is kid made = let f = h.forking in
      subst (λ (z : View B). MayReleaseChild program c.0 kid z) (sym gave_so)
      (subst (λ (z : Rec B). MayReleaseChild program c.0 z
      (gave_each r.cell.0 (map (λ (h : Held). h.cell) (map (held_at r.held) handed)) c.0 h.born))
      (sym (made ∙ (λ i. child_record c b (is i) (h.are i))))
      (may_release program laid r b pass handed me f.runs f.asked f.law f.tell left h.keeps f.things f.starts c h.born
      h.made))

  module _ {x : Rec B} (s : SeatMe B) (slots : SlotsOf B) (released : s ≡ (released_child c.0 x u, rest slots))
      (its_slot : slots ≡ (c.0, None) ∷ me.1) where
    released_about : s.0.about ≡ me.0.about
    released_about = ap (λ (z : SeatMe B). z.0.about) released ∙ forks_about

    released_notes : IsTailOf me.0.notes s.0.notes
    released_notes = subst (λ (z : SeatMe B). IsTailOf me.0.notes z.0.notes) (sym released) forks_notes

    -- memory is lacking for the pool, or for the note of the child
    pub released_lacks : {A : Type 0} (res : Result A Why) → IfErr res (λ (z : Why). z ≡ why.Memory)
        → IfErr res (λ (z : Why). Lacks z me.0 s.0)
    released_lacks {A = A} res is = lacks_noted {A = A} me.0 s.0 released_about released_notes res is

    pub forks_go : Goes program laid next.Runs (with_child c left r) me.0 s
    forks_go = let f = h.forking in
        subst (λ (z : SeatMe B). Goes program laid next.Runs (with_child c left r) me.0 z)
        (sym (released ∙ (λ i. (released_child c.0 x u, rest (its_slot i)))))
        (fork_goes program laid r b pass handed me f.runs f.asked f.law f.tell left h.keeps f.things f.starts c h.born
        h.made x (released_child c.0 x u) (ap (released_child c.0 x) gave_so))

    -- the record is noted
    pub forks_goes : (res : Result Next Why) (q : Rec B) → IfOk res (λ n. n ≡ next.Runs)
        → OnOk res (q ≡ with_child c left r)
        → IfOk res (λ n. Goes program laid n q me.0 s)
    forks_goes (Ok n) q runs_on noted = subst (λ z. Goes program laid z q me.0 s) (sym runs_on)
        (subst (λ (z : Rec B). Goes program laid next.Runs z me.0 s) (sym noted) forks_go)
    forks_goes (Err e) q runs_on noted = tt
