-- The cycles of indexes are the cycles of whichever tasks lead to each other so.
use Rattle.std.proofs.Common.{◌≡◌, ℕ, ◌+◌, ◌≤◌, ◌⊎◌, inl, inr, List, [], ◌∷◌, ◌++◌, Option, map, length, refl, sym, ap}
use Rattle.std.proofs.Common.{subst, arith}
use Rattle.std.proofs.lemmas.List.{map-append}
use Rattle.std.specs.List.{All}
use Rattle.tj_body.specs.Points.{IsIn}
use Rattle.tj_mean.specs.Outcomes.{AreApart, AreCycles, Ascend}
use Rattle.tj_mean.specs.Inner.Indexes.{IsLeastCycle, WaitsAt}
use Rattle.tj_mean.specs.WaitIndexes.{AreNext, LeadsOn, link_at}
use Rattle.tj_mean.specs.declared.outcome.Link.{Link}
use Rattle.tj_mean.specs.declared.stopped.Stopped.{Stopped}
use Rattle.tj_mean.proofs.Lists.Elements.{all_of_in, in_of_all, in_snoc}
use Rattle.tj_mean.proofs.Outcomes.Indexes.{next_leads, next_length}
use Rattle.tj_mean.proofs.Outcomes.LeastCycles.{Found, all_found, found_more, found_none, found_on}
use Rattle.tj_mean.proofs.Outcomes.LeastIndexes.{on_leads}

-- the links of the tasks with these indexes
abbrev pub links_by : List Stopped → List (List ℕ) → List (List Link)
links_by tasks cs = map (map (link_at tasks)) cs

-- each of these lists goes on where another one is added that does so
all_more : {A : Type 0} (P : A → Type 0) (xs : List A) (x : A) → All P xs → P x → All P (xs ++ x ∷ [])
all_more {A = A} P xs x a h = all_of_in P (xs ++ x ∷ []) (λ y i. by y (in_snoc xs y x i)) where
  by : (y : A) → IsIn y xs ⊎ (y ≡ x) → P y
  by y (inl i) = in_of_all P xs a y i
  by y (inr e) = subst P (sym e) h

module _ (next : List (Option ℕ)) where
  -- the list has all cycles from indexes less than n, in the order of these, for whichever tasks lead so
  pub record FoundBy (cs : List (List ℕ)) (n : ℕ) : Type 0 where
    pub on : All (λ c. All (LeadsOn next) c) cs
    pub found : (tasks : List Stopped) → AreApart tasks → Ascend (map (λ (s : Stopped). s.line.name) tasks)
        → AreNext tasks tasks next → Found tasks next (links_by tasks cs) n

  pub by_none : (cs : List (List ℕ)) → cs ≡ [] → FoundBy cs 0
  by_none cs e = record {
    on = subst (λ l. All (λ c. All (LeadsOn next) c) l) (sym e) (all_of_in (λ c. All (LeadsOn next) c) [] (λ c i. absurd i));
    found = λ tasks apart in_order are. found_none tasks apart in_order next are (links_by tasks cs)
        (ap (links_by tasks) e);
  }

  -- there is no cycle from the next index
  pub by_on : (cs : List (List ℕ)) (n : ℕ) → FoundBy cs n → ((ps : List ℕ) → ¬ IsLeastCycle next n ps)
      → FoundBy cs (n + 1)
  by_on cs n a never = record {
    on = a.on;
    found = λ tasks apart in_order are. found_on tasks apart in_order next are (links_by tasks cs) n
        (a.found tasks apart in_order are) never;
  }

  -- there is one from the next index
  pub by_more : (cs : List (List ℕ)) (n : ℕ) (ps : List ℕ) → FoundBy cs n → IsLeastCycle next n ps
      → FoundBy (cs ++ ps ∷ []) (n + 1)
  by_more cs n ps a k = record {
    on = all_more (λ c. All (LeadsOn next) c) cs ps a.on (all_of_in (LeadsOn next) ps (on_leads next n ps k));
    found = λ tasks apart in_order are.
        subst (λ l. Found tasks next l (n + 1)) (sym (map-append (map (link_at tasks)) cs (ps ∷ [])))
        (found_more tasks apart in_order next are (links_by tasks cs) n ps (map (link_at tasks) ps)
        (a.found tasks apart in_order are) k refl);
  }

  -- where each index was the first, these are all
  pub by_all : (cs : List (List ℕ)) (n : ℕ) → FoundBy cs n → length next ≤ n → (tasks : List Stopped)
      → AreApart tasks → Ascend (map (λ (s : Stopped). s.line.name) tasks) → AreNext tasks tasks next
      → AreCycles tasks (links_by tasks cs)
  by_all cs n a l tasks apart in_order are =
      let same = next_length tasks tasks next are in
      all_found tasks apart in_order next are (links_by tasks cs) n (a.found tasks apart in_order are) (omega arith)

  -- the tasks of indexes that lead on wait
  pub by_waits : (tasks : List Stopped) → AreApart tasks → Ascend (map (λ (s : Stopped). s.line.name) tasks)
      → AreNext tasks tasks next → (cs : List (List ℕ)) → All (λ c. All (LeadsOn next) c) cs
      → All (λ c. All (WaitsAt tasks) c) cs
  by_waits tasks apart in_order are cs a = all_of_in (λ c. All (WaitsAt tasks) c) cs (λ c i.
      let b = in_of_all (λ d. All (LeadsOn next) d) cs a c i in
      all_of_in (WaitsAt tasks) c (λ p k.
      let j = in_of_all (LeadsOn next) c b p k in
      let s = next_leads tasks apart in_order next are p j.0 j.1 in (s.0, s.1, (s.2.0, s.2.2))))
