-- The held cells at places that a task passes on or hands over are the references there.
use Rattle.tj_run.proofs.Prelude.{All, AllByRecursion, ArePairs, HasName, Held, HeldSays, IsIn, List, Name, Reference}
use Rattle.tj_run.proofs.Prelude.{[], held_at, inl, inr, length, map, numbered, reference_at, refl, subst, sym, to_task}
use Rattle.tj_run.proofs.Prelude.{ℕ, ◌<◌, ◌∷◌, ◌≡◌}
use Rattle.tj_body.specs.NameLaws.{named_reference}
use Rattle.tj_run.proofs.Cells.NamedLists.{name_in, name_is}
use Rattle.tj_run.proofs.Asks.PointSteps.{pairs_at}
use Rattle.tj_run.proofs.Seats.RunningTasks.{in_at}
use Rattle.tj_base.specs.declared.cell.Sort.TheVariants as sort

module _ (born : List Reference) (held : List Held) (references : List Reference) (name : Name)
    (h : ArePairs (HeldSays born) held references) where
  -- the held cell and the reference at a place
  at_place : (k : ℕ) → k < length held → HeldSays born (held_at held k) (reference_at name references k)
  at_place = pairs_at (HeldSays born) held references (record { cell = record { 0 = 0 }; sort = sort.Task })
      (to_task name) h

  pub places_pairs : (ks : List ℕ) → AllByRecursion (λ k. k < length held) ks
      → ArePairs (HeldSays born) (map (held_at held) ks) (map (reference_at name references) ks)
  places_pairs [] a = tt
  places_pairs (k ∷ ks) a = (at_place k a.0, places_pairs ks a.1)

  -- the cells have the names of the references
  pub places_names : (ks : List ℕ) → AllByRecursion (λ k. k < length held) ks
      → ArePairs (HasName born) (map (λ (d : Held). d.cell) (map (held_at held) ks))
      (map (λ k. (reference_at name references k).name) ks)
  places_names [] a = tt
  places_names (k ∷ ks) a = ((reference_at name references k, (at_place k a.0).0, refl), places_names ks a.1)

  -- and the references are those of the cells
  pub places_named : (ks : List ℕ) → AllByRecursion (λ k. k < length held) ks
      → map (reference_at name references) ks
      ≡ map (named_reference (name_in born)) (map numbered (map (held_at held) ks))
  places_named [] a = refl
  places_named (k ∷ ks) a = let w = at_place k a.0 in let r = places_named ks a.1 in
      let n = name_is born (held_at held k).cell.0 (reference_at name references k) w.0 in
      λ i. record { sort = sym w.1 i; name = sym n i } ∷ r i

  -- each is one of the held cells, and a cell
  pub places_held : (ks : List ℕ) → AllByRecursion (λ k. k < length held) ks
      → All (λ (d : Held). IsIn d held × ((x : Reference) × HeldSays born d x)) (map (held_at held) ks)
  places_held [] a d i = absurd i
  places_held (k ∷ ks) a d (inl e) =
      subst (λ z. IsIn z held × ((x : Reference) × HeldSays born z x)) (sym e) (
        in_at held (record { cell = record { 0 = 0 }; sort = sort.Task }) k a.0,
        (reference_at name references k, at_place k a.0),
      )
  places_held (k ∷ ks) a d (inr i) = places_held ks a.1 d i
