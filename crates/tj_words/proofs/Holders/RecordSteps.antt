-- Each kind of step keeps what a record at home says of its task's wait, against PHASE.
use Rattle.tj_words.proofs.Prelude.{CellId, IsRecordIn, None, Option, Phase, Rec, RecordsFit, Some, Walk, Way, ap, dite}
use Rattle.tj_words.proofs.Prelude.{inl, inr, subst, sym, ℕ, ℕ_discrete, ⊎_elim, ◌∙◌, ◌≡◌, ◌≢◌}
use Rattle.tj_words.specs.declared.phase.Phase.TheVariants as phase

module _ {B : Type 0} where
  -- a record fits still where TAGs are written
  tag_fits : (tag tag' : ℕ → ℕ) → ((c : ℕ) → tag c ≢ 0 → tag' c ≢ 0) → (p : Phase) (r : Rec B)
      → IsRecordIn tag p r → IsRecordIn tag' p r
  tag_fits tag tag' on phase.Ready r h = (h.0, ⊎_elim (λ q. inl q) (λ q. inr (q.0, q.1, on q.0 q.2)) h.1)
  tag_fits tag tag' on other r h = h

  -- what the kinds of step change of a task's phase with its record at home
  module _ (tag : ℕ → ℕ) (r : Rec B) where
    -- a task is made ready, at its start
    pub ready_fits : IsRecordIn tag phase.Unborn r → IsRecordIn tag phase.Ready r
    ready_fits h = (h.0, inl h.1)

    -- the wait of a parked task is cleared, of whose cell something has become
    pub woken_fits : (c : CellId) (way : Way) (w : Walk) → tag c.0 ≢ 0 → IsRecordIn tag (phase.Waiting c way w) r
        → IsRecordIn tag phase.Ready r
    woken_fits c way w n h = (h.0, inr (c.0, h.1, n))

  module _ (tag : ℕ → ℕ) (phases : ℕ → Phase) (home : ℕ → Option (Rec B)) (fit : RecordsFit tag phases home) where
    -- a TAG is written
    pub tags_fit : (tag' : ℕ → ℕ) → ((c : ℕ) → tag c ≢ 0 → tag' c ≢ 0) → RecordsFit tag' phases home
    tags_fit tag' on t r e = tag_fits tag tag' on (phases t) r (fit t r e)

    -- the phase of t, or what lies in its slot, changes
    module _ (t : ℕ) (phases' : ℕ → Phase) (home' : ℕ → Option (Rec B)) (p : Phase)
        (here : phases' t ≡ p) (else : (u : ℕ) → u ≢ t → phases' u ≡ phases u)
        (stays : (u : ℕ) → u ≢ t → home' u ≡ home u) where
      by_slot : ((r : Rec B) → home' t ≡ Some r → IsRecordIn tag p r) → RecordsFit tag phases' home'
      by_slot now u r e = dite (ℕ_discrete u t)
          (λ q. subst (λ z. IsRecordIn tag z r) (sym (ap phases' q ∙ here)) (now r (ap home' (sym q) ∙ e)))
          (λ n. subst (λ z. IsRecordIn tag z r) (sym (else u n)) (fit u r (sym (stays u n) ∙ e)))

      -- no record lies there from now on
      pub out_fit : home' t ≡ None → RecordsFit tag phases' home'
      out_fit out = by_slot (λ r e. let z : None ≡ Some r = sym out ∙ e in absurd (cc))

      -- this record does
      pub laid_fit : (r : Rec B) → home' t ≡ Some r → IsRecordIn tag p r → RecordsFit tag phases' home'
      laid_fit r lies h = by_slot
          (λ y e. let z : Some r ≡ Some y = sym lies ∙ e in let same : r ≡ y = cc in subst (IsRecordIn tag p) same h)

      -- the record that lay there does still, and its fitting the old phase means its fitting the new one
      pub kept_fit : (q : Phase) → phases t ≡ q → home' t ≡ home t
          → ((r : Rec B) → IsRecordIn tag q r → IsRecordIn tag p r) → RecordsFit tag phases' home'
      kept_fit q was same on =
          by_slot (λ r e. on r (subst (λ z. IsRecordIn tag z r) was (fit t r (sym same ∙ e))))
