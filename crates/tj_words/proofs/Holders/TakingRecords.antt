-- What a seat has and knows of a record that it takes out of its slot.
use Rattle.tj_words.proofs.Prelude.{Answer, ArePairs, CellId, Contents, Does, DoesRun, Filled, HasAlarmed, HasName}
use Rattle.tj_words.proofs.Prelude.{HasSeen, IsCell, IsIn, IsKnownRecord, IsRecordIn, Law, List, Name, None, Option}
use Rattle.tj_words.proofs.Prelude.{Point, Program, Rec, Reference, Slots, Some, Tells, TellsStage, ToldBy, WaitsFor}
use Rattle.tj_words.proofs.Prelude.{[], ap, begins_self, does_cells, does_first, get_elem?, home_in, home_of, inl, inr}
use Rattle.tj_words.proofs.Prelude.{none, numbers, owned, phase_of, record_in, refl, some, subst, sym, tag_in, to_task}
use Rattle.tj_words.proofs.Prelude.{ℕ, ⊎_elim, ◌++◌, ◌∷◌, ◌≡◌, ◌≢◌}
use Rattle.tj_words.proofs.Lemmas.{AreApartByName, AreFilledIn, FilledIn, ground_of, known_of, no_some}
use Rattle.tj_body.specs.History.{owned_in}
use Rattle.tj_words.proofs.Holders.ClaimedRecords.{starts, waited}
use Rattle.tj_words.proofs.SeatLoads.KnowLoads.{all_cons}
use Rattle.tj_words.proofs.Meaning.MeaningGrows.{told_on}
use Rattle.tj_words.proofs.Meaning.MeaningSteps.{claim_seen}
use mathlib.Core.Option as maybe
use Rattle.tj_body.specs.declared.ask.Answer.TheVariants as answer
use Rattle.tj_words.specs.declared.phase.Phase.TheVariants as phase
use Rattle.tj_words.specs.declared.view.Does.TheVariants as does

-- what holds of a new task and of one that runs along holds of what a task does first
first_is : (F : Does → Type 0) → F does.Fresh → F does.Running → (a : Answer) → F (does_first a)
first_is F f r answer.Start = f
first_is F f r other = r

-- a task that a seat takes runs from then on
pub first_phase : (a : Answer) → phase_of (does_first a) ≡ phase.Running
first_phase = first_is (λ d. phase_of d ≡ phase.Running) refl refl

pub first_runs : (a : Answer) → DoesRun (does_first a)
first_runs = first_is DoesRun tt tt

pub first_calm : (a : Answer) → ¬ HasAlarmed (does_first a)
first_calm = first_is (λ d. ¬ HasAlarmed d) (λ h. h) (λ h. h)

pub first_cells : (a : Answer) → does_cells (does_first a) ≡ []
first_cells = first_is (λ d. does_cells d ≡ []) refl refl

-- the first of the cells of these names is the one that has the first name
own_first : (born : List Reference) → AreApartByName born → (cells : List CellId) (q : Name) (more : List Name) (c : ℕ)
    → ArePairs (HasName born) cells (q ∷ more)
    → IsCell born c (to_task q)
    → IsIn c (numbers cells)
own_first born apart [] q more c h is = absurd h
own_first born apart (d ∷ ds) q more c h is = let w = h.0 in
    inl (apart c d.0 (to_task q) w.0 is w.1 (sym w.2))

module _ {B : Type 0} where
  -- where a record lies at home, its slot is there with it
  pub slot_has : (slots : Slots B) (t : ℕ) (r : Rec B) → home_in slots t ≡ Some r
      → get_elem? slots t ≡ some (some (Some r))
  slot_has slots t r e = by (get_elem? slots t) e where
    by : (o : maybe.Option (maybe.Option (Option (Rec B)))) → record_in o ≡ Some r
        → o ≡ some (some (Some r))
    by none q = no_some refl q
    by (some none) q = no_some refl q
    by (some (some o)) q = ap (λ (z : Option (Rec B)). some (some z)) q

  -- a record of a point that isn't closed owns its cell
  pub owns_itself : (born : List Reference) → AreApartByName born → (r : Rec B) (p : Point B)
      → Tells born r p
      → TellsStage born r.finish r.answer r.spare p
      → r.finish ≡ None
      → IsIn r.cell.0 (numbers r.owned)
  owns_itself born apart r p tells told unended =
      by r.answer (subst (λ f. TellsStage born f r.answer r.spare p) unended told)
    where
      first : (more : List Name) → owned p ≡ p.name ∷ more → IsIn r.cell.0 (numbers r.owned)
      first more e = own_first born apart r.owned p.name more r.cell.0
          (subst (ArePairs (HasName born) r.owned) e tells.owned_cells) tells.of

      by : (a : Answer) → TellsStage born None a r.spare p
          → IsIn r.cell.0 (numbers r.owned)
      by answer.Start h = first p.holds (ap (λ s. owned_in s p.name p.holds) h)
      by (answer.RefAt k) h = first p.holds (ap (λ s. owned_in s p.name p.holds) h.1)
      by a h = absurd h

-- a record at home that may be taken: what a seat with these entries learns with it
module _ {B : Type 0} {program : Program B} {cells : ℕ} {x : Contents B} (law : Law program cells x) (id : ℕ)
    (b : List Reference) (w f : List Filled) (seen : get_elem? x.seats.born_seen id ≡ some b)
    (wrote : get_elem? x.seats.wrote id ≡ some w) (filled : get_elem? x.seats.filled id ≡ some f) (t : ℕ) (r : Rec B)
    (lay : home_of x t ≡ Some r) (ready : IsRecordIn (tag_in x) phase.Ready r) where
  pub learnt : (more : List Filled) × AreFilledIn program (ground_of cells law.born x) more
      × IsKnownRecord program law.born (more ++ f) r
  learnt = ⊎_elim at_start has_waited ready.1
    where
      claimed : (more : List Filled) × AreFilledIn program (ground_of cells law.born x) more
          × ToldBy program law.born (more ++ f) r
      claimed = let s = claim_seen program cells {g = ground_of cells law.born x} {k = known_of x} law.meaning id b w f
          seen wrote filled t r lay in (s.0, s.1, s.2)

      at_start : r.answer ≡ answer.Start → (more : List Filled) × AreFilledIn program (ground_of cells law.born x) more
          × IsKnownRecord program law.born (more ++ f) r
      at_start q = let told = claimed.2 in (
        claimed.0,
        claimed.1,
        record {
          told = told;
          goes_on = inl (starts law.born r told.point told.tells told.tells_stage ready.0 q);
        },
      )

      has_waited : (c : ℕ) × WaitsFor r c × (tag_in x c ≢ 0) → (more : List Filled)
          × AreFilledIn program (ground_of cells law.born x) more
          × IsKnownRecord program law.born (more ++ f) r
      has_waited q = let e = law.meaning.entries q.0 q.2 in
          let one : Filled = record { cell = q.0; entry = e.0 } in
          let told = told_on program law.born law.born (begins_self law.born) (HasSeen (claimed.0 ++ f))
          (HasSeen (one ∷ (claimed.0 ++ f))) (λ c d i. inr i) r claimed.2 in (
            one ∷ claimed.0,
            all_cons (λ (y : Filled). FilledIn program (ground_of cells law.born x) y.cell y.entry) one claimed.0 e.1
                claimed.1,
            record {
              told = told;
              goes_on = inr (record {
                cell = q.0;
                entry = e.0;
                waited = q.1;
                point_waits = waited law.born r told.point told.tells told.tells_stage ready.0 q.0 q.1;
                known = inl refl;
              });
            },
          )
