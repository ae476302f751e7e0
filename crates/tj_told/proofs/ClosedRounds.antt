-- A round of turns that stand at the end of a run is a cycle by the closed words, and so one of the meaning and of its
-- outcome, by names.
use Rattle.std.proofs.Common.{◌≡◌, ◌≢◌, ℕ, zero, suc, List}
use Rattle.std.proofs.Common.{[], ◌∷◌, Option, refl, sym, ap}
use Rattle.std.proofs.Common.{◌∙◌, subst, inl, inr, arith, ◌<◌, nat_eq, map, length, get_or}
use Rattle.atomic_table.specs.Table.{State}
use Rattle.tj_base.specs.Cycles as graph
use Rattle.tj_base.specs.ForkOrder.{Name}
use Rattle.tj_base.proofs.Ways.{reach_one}
use Rattle.tj_base.proofs.CycleLists.{along_cycle, at_index}
use Rattle.tj_body.specs.Names.{same}
use Rattle.tj_body.specs.Points.{IsIn}
use Rattle.tj_body.specs.Programs.{Program}
use Rattle.tj_body.specs.WaitGraph as meant
use Rattle.tj_body.specs.declared.point.Reference.{Reference}
use Rattle.tj_mean.specs.declared.outcome.Link.{Link}
use Rattle.tj_words.specs.AtRest.ClosedCells as closed
use Rattle.tj_words.specs.AtRest.RestMeaning.{AreWordsOf}
use Rattle.tj_words.specs.AtRest.ShownCells.{cell_of}
use Rattle.tj_words.specs.Law.{Law}
use Rattle.tj_words.specs.LawParts.Contents.{contents_of, drawn_in}
use Rattle.tj_words.specs.Steps.StepEvents.{IsBegun}
use Rattle.tj_words.specs.Words.Offsets.{own_at, word}
use Rattle.tj_words.specs.declared.closed.RestCell.{RestCell}
use Rattle.tj_record.specs.declared.record.Rec.{Rec}
use Rattle.tj_words.specs.declared.view.View.{View}
use Rattle.tj_words.proofs.Lemmas.{begun_there}
use Rattle.tj_words.proofs.Meaning.MeantCycles.{named, named_is, one_led, ps, same_cells}
use Rattle.tj_words.proofs.Meaning.MeantCycles.{waiter_there, waits_meant}
use Rattle.tj_words.proofs.Meaning.RestingCells.{owner_forth}
use Rattle.tj_laws.proofs.MeantNames.{cycle_meant}
use Rattle.tj_told.proofs.Loaded.{TurnsStand}
use Rattle.tj_told.specs.EndedNews.{AreTurnsClosed}
use Rattle.tj_told.specs.ToldLoads.{ComesBack, Turn}
use Rattle.tj_told.specs.ToldLinks.{AreLinksOf, IsNamed}

abbrev task_of : Turn → ℕ
task_of x = x.task

-- turns that stand are so by closed words
pub turns_closed : {B : Type 0} {P : Program B} (s : State (Option (Rec B)) (View B)) (limit : ℕ)
    (r : Law P limit (contents_of s)) (shown : List RestCell)
    → ((c : ℕ) → c < drawn_in limit (contents_of s) → closed.IsShown shown c (cell_of s.words c))
    → (xs : List Turn) → TurnsStand (contents_of s) xs → AreTurnsClosed shown xs
turns_closed s limit r shown each [] h = tt
turns_closed s limit r shown each (x ∷ xs) h =
    let w = h.0.0 in (
      (
        (cell_of s.words x.task, w.0, w.1, each x.task (begun_there r x.task (subst IsBegun (sym w.2) tt)).0, w.2),
        (
          cell_of s.words x.cell.0,
          each x.cell.0 (r.names.waits x.task x.cell w.0 w.1 w.2).0,
          owner_forth (word s.words (own_at x.cell.0)) x.owner h.0.1,
        ),
      ),
      turns_closed s limit r shown each xs h.1,
    )

-- the first turn is that of the task from which the turns lead on
first_turn : (first t : ℕ) (x : Turn) (xs : List Turn) → ComesBack first t (x ∷ xs) → x.task ≡ t
first_turn first t x [] b = b.0
first_turn first t x (y ∷ ys) b = b.0

-- only the last of them comes to the first task
no_sooner : (first t : ℕ) (x : Turn) (xs : List Turn) → ComesBack first t (x ∷ xs) → (k d : ℕ) → k < length xs
    → get_or (map task_of xs) k d ≢ first
no_sooner first t x [] b k d l = absurd (omega arith)
no_sooner first t x (y ∷ ys) b zero d l =
    subst (λ z. z ≢ first) (sym (first_turn first x.owner y ys b.2)) b.1
no_sooner first t x (y ∷ ys) b (suc k) d l = no_sooner first x.owner y ys b.2 k d (omega arith)

length_map : {A C : Type 0} (f : A → C) (xs : List A) → length (map f xs) ≡ length xs
length_map f [] = refl
length_map f (x ∷ xs) = ap suc (length_map f xs)

-- they lead from task to task
leads_back : (shown : List RestCell) (first t : ℕ) (x : Turn) (xs : List Turn) → ComesBack first t (x ∷ xs)
    → AreTurnsClosed shown (x ∷ xs) → graph.LeadsAlong (closed.Leads shown) x.task (map task_of xs) first
leads_back shown first t x [] b h =
    (x.cell, h.0.0, subst (λ z. closed.Owns shown z x.cell) b.1 h.0.1)
leads_back shown first t x (y ∷ ys) b h = (
  (x.cell, h.0.0, subst (λ z. closed.Owns shown z x.cell) (sym (first_turn first x.owner y ys b.2)) h.0.1),
  leads_back shown first x.owner y ys b.2 h.1,
)

module _ {B : Type 0} (program : Program B) (N : ℕ) (shown : List RestCell) (born : List Reference)
    (words : AreWordsOf program N born shown) where
  -- the tasks of a round are a cycle by the closed words
  cycle_closed : (t : ℕ) (x : Turn) (xs : List Turn) → ComesBack t t (x ∷ xs) → AreTurnsClosed shown (x ∷ xs)
      → closed.IsCycle shown (x.task ∷ map task_of xs)
  cycle_closed t x xs b h =
      let e : x.task ≡ t = first_turn t t x xs b in
      let along : graph.LeadsAlong (closed.Leads shown) x.task (map task_of xs) x.task =
      subst (graph.LeadsAlong (closed.Leads shown) x.task (map task_of xs)) (sym e) (leads_back shown t t x xs b h) in
      along_cycle (closed.Leads shown) (one_led program N shown born words) nat_eq
      (same_cells program N shown born words) x.task (map task_of xs) along (none e along)
    where
      none : x.task ≡ t → graph.LeadsAlong (closed.Leads shown) x.task (map task_of xs) x.task
          → (k : ℕ) → 0 < k → k < suc (length (map task_of xs))
          → ¬ graph.Reaches (closed.Leads shown) x.task k x.task
      none e along zero p q r = absurd (omega arith)
      none e along (suc k) p q r =
          let m = length_map task_of xs in
          let is : x.task ≡ get_or (map task_of xs) k 0 =
          reach_one (closed.Leads shown) (one_led program N shown born words) x.task (suc k) x.task
          (get_or (map task_of xs) k 0) r
          (at_index (closed.Leads shown) x.task x.task (map task_of xs) along (suc k) 0 q) in
          no_sooner t t x xs b k 0 (omega arith) (sym is ∙ e)

  -- the links wait in the meaning
  links_meant : (xs : List Turn) (ls : List Link) → AreTurnsClosed shown xs → AreLinksOf (IsNamed born) xs ls
      → (map (named program N shown born words) (map task_of xs) ≡ map (λ (l : Link). l.task) ls)
      × ((l : Link) → IsIn l ls → meant.Waits (ps program N shown born words) l.task l.cell)
  links_meant [] [] h n = (refl, λ l i. absurd i)
  links_meant [] (l ∷ ls) h n = absurd n
  links_meant (x ∷ xs) [] h n = absurd n
  links_meant (x ∷ xs) (l ∷ ls) h n =
      let r = links_meant xs ls h.1 n.2 in
      let task : named program N shown born words x.task ≡ l.task =
      named_is program N shown born words x.task n.0.0 n.0.1 ∙ n.0.2 in
      let w = waits_meant program N shown born words x.task x.cell
      (waiter_there program N shown born words x.task x.cell h.0.0) h.0.0 in
      let cell : w.0.name ≡ l.cell =
      sym (named_is program N shown born words x.cell.0 w.0 w.1)
      ∙ (named_is program N shown born words x.cell.0 n.1.0 n.1.1 ∙ n.1.2) in
      let waits : meant.Waits (ps program N shown born words) l.task l.cell =
      subst (λ q. meant.Waits (ps program N shown born words) l.task q) cell
      (subst (λ q. meant.Waits (ps program N shown born words) q w.0.name) task w.2) in
      (cons task r.0, each waits r.1)
    where
      cons : {a b : Name} {ps qs : List Name} → a ≡ b → ps ≡ qs → a ∷ ps ≡ b ∷ qs
      cons e f = cc

      each : meant.Waits (ps program N shown born words) l.task l.cell
          → ((k : Link) → IsIn k ls → meant.Waits (ps program N shown born words) k.task k.cell)
          → (k : Link) → IsIn k (l ∷ ls) → meant.Waits (ps program N shown born words) k.task k.cell
      each w g k (inl e) =
          subst (λ (m : Link). meant.Waits (ps program N shown born words) m.task m.cell) (sym e) w
      each w g k (inr i) = g k i

  -- by names they are a cycle of the meaning's waits
  pub round_meant : (t : ℕ) (xs : List Turn) (ls : List Link) → ComesBack t t xs → AreTurnsClosed shown xs
      → AreLinksOf (IsNamed born) xs ls
      → graph.IsCycle (meant.WaitsFor (ps program N shown born words)) same (map (λ (l : Link). l.task) ls)
      × ((l : Link) → IsIn l ls → meant.Waits (ps program N shown born words) l.task l.cell)
  round_meant t [] ls b h n = absurd b
  round_meant t (x ∷ xs) ls b h n =
      let r = links_meant (x ∷ xs) ls h n in
      let c = cycle_meant program N shown born words (x.task ∷ map task_of xs) (cycle_closed t x xs b h) in
      (subst (graph.IsCycle (meant.WaitsFor (ps program N shown born words)) same) r.0 c, r.1)
