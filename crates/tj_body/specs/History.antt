-- The history of one task under an assignment and a rule, strict or not, ask by ask.
use Rattle.std.specs.Prelude.{ℕ, suc, ◌*◌, Bool, true, false, cond, not, ◌&&◌, List, [], ◌∷◌, ◌++◌, map}
use Rattle.std.specs.Prelude.{length, get_or, ℤ, Option, Some, None, Result, Ok, Err}
use Rattle.tj_base.specs.ForkOrder.{Name, child, before}
use Rattle.tj_base.specs.declared.cell.Sort.{Sort}
use Rattle.tj_base.specs.declared.cell.Sort.TheVariants as sort
use Rattle.tj_base.specs.declared.value.Pay.{Pay}
use Rattle.tj_base.specs.declared.value.Pay.TheVariants as pay
use Rattle.tj_base.specs.declared.cause.Trouble.{Trouble}
use Rattle.tj_base.specs.declared.cause.Trouble.TheVariants as trouble
use Rattle.tj_base.specs.declared.cause.Cause.{Cause}
use Rattle.tj_base.specs.declared.cause.Cause.TheVariants as cause
use Rattle.tj_body.specs.Names.{has, without, in_order}
use Rattle.tj_body.specs.Programs.{Rules}
use Rattle.tj_body.specs.Steps.{after_steps}
use Rattle.tj_body.specs.declared.ask.Answer.{Answer}
use Rattle.tj_body.specs.declared.ask.Answer.TheVariants as answer
use Rattle.tj_body.specs.declared.ask.Ask.{Ask}
use Rattle.tj_body.specs.declared.ask.Ask.TheVariants as ask
use Rattle.tj_body.specs.declared.point.Reference.{Reference}
use Rattle.tj_body.specs.declared.point.Value.{Value}
use Rattle.tj_body.specs.declared.point.Value.TheVariants as value
use Rattle.tj_body.specs.declared.point.Entry.{Entry}
use Rattle.tj_body.specs.declared.point.Entry.TheVariants as entry
use Rattle.tj_body.specs.declared.point.Close.{Close}
use Rattle.tj_body.specs.declared.point.Close.TheVariants as close
use Rattle.tj_body.specs.declared.point.PointStage.{PointStage}
use Rattle.tj_body.specs.declared.point.PointStage.TheVariants as stage
use Rattle.tj_body.specs.declared.point.Task.{Task}
use Rattle.tj_body.specs.declared.point.Point.{Point}

-- what has become of each cell: it is broken, or has a value, or neither yet
-- a function and no finite map: rounds come from lists, a runtime's from words
abbrev pub Assignment : Type 0
Assignment = Name → Option Entry

-- a reference to a task
abbrev pub to_task : Name → Reference
to_task x = record { sort = sort.Task; name = x }

-- a reference to a promise
abbrev pub to_promise : Name → Reference
to_promise x = record { sort = sort.Promise; name = x }

-- a task begins with the references to itself and to what it was passed, and with the promises that it was handed
abbrev pub start : {B : Type 0} → Task B → Point B
start t = record {
  name = t.name;
  body = t.body;
  stage = stage.Answered answer.Start;
  references = to_task t.name ∷ t.passed;
  holds = t.handed;
  made = 0;
  promises = [];
  children = [];
  writes = [];
  prints = [];
  owed = [];
}

-- the reference with place k
abbrev pub reference_at : Name → List Reference → ℕ → Reference
reference_at x references k = get_or references k (to_task x)

-- the value that a body gives
abbrev pub value_at : Name → List Reference → Pay → Value
value_at x references (pay.Num i) = value.Num i
value_at x references (pay.Ref k) = value.Ref (reference_at x references k)

-- why a task fails whose body finds this fault
abbrev pub cause_of : Trouble → Cause
cause_of trouble.Arith = cause.Arith
cause_of trouble.Kind = cause.Kind
cause_of trouble.Steps = cause.Steps

-- the cell with what becomes of it
abbrev pub with_entry : Entry → Name → Name × Entry
with_entry e q = (q, e)

-- a task isn't handed, nor a promise that isn't owned; else the rest decides
abbrev pub hand_one : Sort → Bool → Name → Result (List Name) Cause → Result (List Name) Cause
hand_one sort.Task is_owned q rest = Err cause.Kind
hand_one sort.Promise true q rest = rest
hand_one sort.Promise false q rest = Err (cause.Owner q)

-- what is left of the promises held when these references are handed, from the left, or why the fork fails
abbrev pub hand_all : List Name → List Reference → Result (List Name) Cause
hand_all holds [] = Ok holds
hand_all holds (r ∷ rs) = hand_one r.sort (has r.name holds) r.name (hand_all (without r.name holds) rs)

-- the cells owned in this stage: until a task ends it owns its result too
-- a point doesn't hold the result, since its task could then set it by a statement under some assignment
abbrev pub owned_in : PointStage → Name → List Name → List Name
owned_in (stage.Answered a) x holds = x ∷ holds
owned_in (stage.Waits q spare) x holds = x ∷ holds
owned_in (stage.Closed e) x holds = []

module _ {B : Type 0} where
  -- the cells that the task owns
  abbrev pub owned : Point B → List Name
  owned p = owned_in p.stage p.name p.holds

  -- the body is to be given this answer
  abbrev pub with_answer : Answer → Point B → Point B
  with_answer a p = record p { stage = stage.Answered a }

  -- the task ends: its result becomes r, and the promises that it holds are owed and broken
  abbrev pub after_close : Close → Entry → Point B → Point B
  after_close e r p = record p {
    stage = stage.Closed e;
    holds = [];
    owed = in_order p.holds;
    writes = p.writes ++ (p.name, r) ∷ map (with_entry entry.Broken) (in_order p.holds);
  }

  -- the task fails, and its result is broken
  abbrev pub after_failure : Cause → Point B → Point B
  after_failure c p = after_close (close.Failed c) entry.Broken p

  -- the task ends well, and its result has the value
  abbrev pub after_end : Value → Point B → Point B
  after_end v p = after_close (close.Done v) (entry.Value v) p

  -- the name of the next thing that the task makes
  abbrev pub next_name : Point B → Name
  next_name p = child p.name (suc p.made)

  -- the task makes a promise, and owns it
  abbrev pub after_new : Point B → Point B
  after_new p = record p {
    stage = stage.Answered (answer.Local (length p.references));
    references = p.references ++ to_promise (next_name p) ∷ [];
    holds = p.holds ++ next_name p ∷ [];
    made = suc p.made;
    promises = p.promises ++ next_name p ∷ [];
  }

  -- the task that a fork makes next
  abbrev pub next_child : B → List Reference → List Name → Point B → Task B
  next_child b passed handed p = record { name = next_name p; body = b; passed = passed; handed = handed }

  -- the task forks a child, and holds what is left
  abbrev pub after_fork : B → List Reference → List Name → List Name → Point B → Point B
  after_fork b passed handed left p = record p {
    stage = stage.Answered (answer.Local (length p.references));
    references = p.references ++ to_task (next_name p) ∷ [];
    holds = left;
    made = suc p.made;
    children = p.children ++ next_child b passed handed p ∷ [];
  }

  -- the fork is made where the handing is allowed
  abbrev pub after_try_fork : B → List Reference → List Name → Result (List Name) Cause → Point B → Point B
  after_try_fork b passed handed (Ok left) p = after_fork b passed handed left p
  after_try_fork b passed handed (Err c) p = after_failure c p

  -- the promise gets the value, and nobody owns it from then on
  abbrev pub after_write : Name → Value → Point B → Point B
  after_write q v p = record p {
    stage = stage.Answered answer.Done;
    holds = without q p.holds;
    writes = p.writes ++ (q, entry.Value v) ∷ [];
  }

  -- a promise is set by its owner
  abbrev pub after_set : Sort → Name → Value → Point B → Point B
  after_set sort.Task q v p = after_failure cause.Kind p
  after_set sort.Promise q v p = cond (has q p.holds) (after_write q v p) (after_failure (cause.Owner q) p)

  -- the task waits for the cell
  abbrev pub with_wait : Bool → Name → Point B → Point B
  with_wait spare q p = record p { stage = stage.Waits q spare }

  -- a get is a wait for a promise
  abbrev pub after_get : Bool → Sort → Name → Point B → Point B
  after_get spare sort.Task q p = after_failure cause.Kind p
  after_get spare sort.Promise q p = with_wait spare q p

  -- a join is a wait for a task's result; under the strict rule a task joins only those that it is before
  abbrev pub after_join : Bool → Bool → Sort → Name → Point B → Point B
  after_join strict spare sort.Task q p =
      cond (strict && not (before p.name q)) (after_failure (cause.Order q) p) (with_wait spare q p)
  after_join strict spare sort.Promise q p = after_failure cause.Kind p

  -- the task prints a number
  abbrev pub after_emit : ℤ → Point B → Point B
  after_emit i p = record p { stage = stage.Answered answer.Done; prints = p.prints ++ i ∷ [] }

  -- the task has a further reference
  abbrev pub with_reference : Reference → Point B → Point B
  with_reference r p = record p { references = p.references ++ r ∷ [] }

  -- what has become of the cell that the task waited for is its answer, or fails it
  abbrev pub after_read : Bool → Name → Entry → Point B → Point B
  after_read spare q entry.Broken p = cond spare (with_answer answer.Lost p) (after_failure (cause.Broken q) p)
  after_read spare q (entry.Value (value.Num i)) p = with_answer (answer.Num i) p
  after_read spare q (entry.Value (value.Ref r)) p =
      with_answer (answer.RefAt (length p.references)) (with_reference r p)

  -- a task waits on where nothing has become of the cell
  abbrev pub after_look : Bool → Name → Option Entry → Point B → Point B
  after_look spare q None p = p
  after_look spare q (Some e) p = after_read spare q e p

  -- the reference with place k of the task
  abbrev pub reference : Point B → ℕ → Reference
  reference p k = reference_at p.name p.references k

  module _ (strict : Bool) where
    -- what an ask makes of a point
    abbrev pub after_ask : Ask B → Point B → Point B
    after_ask ask.New p = after_new p
    after_ask (ask.Fork b pass hand) p =
        after_try_fork b (map (reference p) pass) (map (λ k. (reference p k).name) hand)
        (hand_all p.holds (map (reference p) hand)) p
    after_ask (ask.Set k v) p = after_set (reference p k).sort (reference p k).name (value_at p.name p.references v) p
    after_ask (ask.Get k) p = after_get false (reference p k).sort (reference p k).name p
    after_ask (ask.Join k) p = after_join strict false (reference p k).sort (reference p k).name p
    after_ask (ask.GetOr k) p = after_get true (reference p k).sort (reference p k).name p
    after_ask (ask.JoinOr k) p = after_join strict true (reference p k).sort (reference p k).name p
    after_ask (ask.Emit i) p = after_emit i p
    after_ask (ask.End v) p = after_end (value_at p.name p.references v) p
    after_ask (ask.Fail t) p = after_failure (cause_of t) p

  module _ (rules : Rules B) where
    -- one step from this stage: the next ask, or the answer of a wait; what has ended stays
    abbrev pub after_stage : Assignment → PointStage → Point B → Point B
    after_stage V (stage.Answered a) p =
        after_ask rules.strict (rules.asks p.body a) (record p { body = rules.then p.body a })
    after_stage V (stage.Waits q spare) p = after_look spare q (V q) p
    after_stage V (stage.Closed e) p = p

    -- one ask more, or one answer more; a task that waits for a cell without an entry stays, and so does an ended one
    abbrev pub after_step : Assignment → Point B → Point B
    after_step V p = after_stage V p.stage p

    -- the point after k steps
    abbrev pub point_after : Assignment → ℕ → Task B → Point B
    point_after V k t = after_steps (after_step V) k (start t)

    -- the point at which the task stops: an ask and its answer are two steps, and there are at most left and one asks
    abbrev pub history : Assignment → Task B → Point B
    history V t = point_after V (2 * suc (rules.left t.body)) t
