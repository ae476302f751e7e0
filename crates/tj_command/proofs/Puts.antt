-- From what was put to the clauses of a top call, for whatever output a program has.
use Rattle.std.proofs.Common.{List, None, Option, Some, ap, arith, inl, inr, length, refl, subst, sym, ℕ, ◌++◌, ◌<◌}
use Rattle.std.proofs.Common.{◌∙◌, ◌≡◌, ◌≢◌, ◌≤◌, ◌⊎◌}
use Rattle.std.specs.Io.KnownBytes.{Appends}
use Rattle.tj_ports.specs.Faults.{HasFault, HasNoFault}
use Rattle.tj_command.specs.Delivery.{HasText, IsAnsweredBy, IsPartOf, IsPutAs, IsPutOf}
use Rattle.tj_command.specs.declared.status.Status.{Status}
use Rattle.tj_command.specs.declared.status.Status.TheVariants.{Clean, Full, Marked, Memory, ReadFault, Script, Usage}
use Rattle.tj_command.specs.declared.status.Status.TheVariants.{WriteFault}

-- The statuses that what a command gives can have.
abbrev pub IsOwn : Status → Type 0
IsOwn Clean = Unit {0}
IsOwn Marked = Unit {0}
IsOwn Script = Unit {0}
IsOwn Full = Unit {0}
IsOwn Usage = ⊥
IsOwn ReadFault = ⊥
IsOwn WriteFault = ⊥
IsOwn Memory = ⊥

-- told bytes grow by a text
told_now : (held text : List ℕ) (now : Option (List ℕ)) → Appends (Some held) now text → now ≡ Some (held ++ text)
told_now held text None h = absurd h
told_now held text (Some ys) h = ap (λ l. Some l) h

no_fault : (before after : ℕ) → HasFault before after → HasNoFault before after → ⊥
no_fault before after (inl rose) none = let le = none.not_risen in absurd (omega arith)
no_fault before after (inr last) none = none.not_last last

-- What is so of the answer where the output of a command was put.
pub record IsOwnAnswer (b a : ℕ) (answer : Status) : Type 0 where
  pub no_usage : answer ≢ Usage
  pub no_read_fault : answer ≢ ReadFault
  pub no_memory : answer ≢ Memory
  pub write_fault : answer ≡ WriteFault → HasFault b a

pub own_put : (Room : ℕ → Type 0) (status : Status) (text : List ℕ) (before now : Option (List ℕ)) (b a : ℕ)
    (answer : Status) → IsOwn status
    → IsPutAs Room status text before now b a answer → IsOwnAnswer b a answer
own_put Room status text before now b a answer is (inl put) = record {
  no_usage = λ e. subst IsOwn (sym put.0 ∙ e) is;
  no_read_fault = λ e. subst IsOwn (sym put.0 ∙ e) is;
  no_memory = λ e. subst IsOwn (sym put.0 ∙ e) is;
  write_fault = λ e. absurd (subst IsOwn (sym put.0 ∙ e) is);
}
own_put Room status text before now b a answer is (inr failed) = record {
  no_usage = λ e. let f : WriteFault ≡ Usage = sym failed.0 ∙ e in cc;
  no_read_fault = λ e. let f : WriteFault ≡ ReadFault = sym failed.0 ∙ e in cc;
  no_memory = λ e. let f : WriteFault ≡ Memory = sym failed.0 ∙ e in cc;
  write_fault = λ e. failed.2;
}

memory_or_not : (status : Status) → (status ≡ Memory) ⊎ (status ≢ Memory)
memory_or_not Memory = inl refl
memory_or_not status = inr (λ e. cc)

-- there is one output at most
abbrev pub IsOneOutput : (IsOutput : Status → List ℕ → Type 0) → Type 0
IsOneOutput IsOutput = (a b : Status) (s t : List ℕ) → IsOutput a s → IsOutput b t → (a ≡ b) × (s ≡ t)

-- An output of which a text was put.
module _ (IsOutput : Status → List ℕ → Type 0) (Room : ℕ → Type 0) where
  -- a text that was put with no fault is the answer
  pub IsAnsweredBy-put : (held : List ℕ) (status : Status) (text : List ℕ) (before now : Option (List ℕ)) (b a : ℕ)
      (answer : Status) → IsOutput status text → IsPutAs Room status text before now b a answer
      → before ≡ Some held → HasNoFault b a → IsAnsweredBy IsOutput held answer now
  IsAnsweredBy-put held status text before now b a answer out (inl put) told none = inl (
    text,
    subst (λ s. IsOutput s text) (sym put.0) out,
    told_now held text now (subst (λ o. Appends o now text) told put.1),
  )
  IsAnsweredBy-put held status text before now b a answer out (inr failed) told none =
      absurd (no_fault b a failed.2 none)

  -- a status that belongs to a text was put whole
  pub put_whole : (status : Status) (text : List ℕ) (before now : Option (List ℕ)) (b a : ℕ) (answer : Status)
      → IsOutput status text → IsPutAs Room status text before now b a answer → HasText answer
      → (shown : List ℕ) × IsOutput answer shown × Appends before now shown
  put_whole status text before now b a answer out (inl put) has =
      (text, subst (λ s. IsOutput s text) (sym put.0) out, put.1)
  put_whole status text before now b a answer out (inr failed) has = absurd (subst HasText failed.0 has)

  -- the text of another status was put in part
  pub IsPartOf-put : (status : Status) (text : List ℕ) (before now : Option (List ℕ)) (b a : ℕ) (answer : Status)
      → IsOutput status text → (status ≡ WriteFault → ⊥) → IsPutAs Room status text before now b a answer
      → answer ≡ WriteFault → IsPartOf IsOutput before now
  IsPartOf-put status text before now b a answer out other (inl put) is = absurd (other (sym put.0 ∙ is))
  IsPartOf-put status text before now b a answer out other (inr failed) is = (status, text, out, failed.1)

  -- no write failed where the sink had room for the output
  pub no_write_fault : IsOneOutput IsOutput → (text shown : List ℕ) (status own : Status)
      (before now : Option (List ℕ)) (b a : ℕ) (answer : Status) → IsOutput own shown → own ≢ WriteFault
      → IsPutAs Room own shown before now b a answer → IsOutput status text → (room : ℕ) → Room room
      → length text ≤ room → answer ≢ WriteFault
  no_write_fault one text shown status own before now b a answer put_out other (inl put) out room has fits =
      λ e. other (sym put.0 ∙ e)
  no_write_fault one text shown status own before now b a answer put_out other (inr failed) out room has fits =
      let same : shown ≡ text = (one own status shown text put_out out).1 in
      let less : room < length text = subst (λ t. room < length t) same (failed.3 room has) in
      λ e. absurd (omega arith)

  -- what was put whole is the output, of which there is one
  pub exact : IsOneOutput IsOutput → (text : List ℕ) (status answer : Status) (before now : Option (List ℕ))
      → IsOutput status text → ((shown : List ℕ) × IsOutput answer shown × Appends before now shown)
      → (answer ≡ status) × Appends before now text
  exact one text status answer before now out put =
      let same = one answer status put.0 text put.1 out in
      (same.0, subst (Appends before now) same.1 put.2)

-- The same where what a command gave was put, if memory lasted.
module _ (IsOutput IsGiven : Status → List ℕ → Type 0) (as_output : (s : Status) (t : List ℕ) → IsGiven s t
    → IsOutput s t) (own : (s : Status) (t : List ℕ) → IsGiven s t → IsOwn s) (Room : ℕ → Type 0)
    (before now : Option (List ℕ)) (b a : ℕ) (answer : Status)
    (put : answer ≢ Memory → IsPutOf IsGiven Room before now b a answer) where
  pub IsAnsweredBy-given : (held : List ℕ) → (answer ≡ Memory → now ≡ before) → before ≡ Some held → HasNoFault b a
      → IsAnsweredBy IsOutput held answer now
  IsAnsweredBy-given held kept told none = elim (memory_or_not answer) [
    | inl memory ↦ inr (memory, kept memory ∙ told)
    | inr other ↦ let p = put other in
        IsAnsweredBy-put IsOutput Room held p.0 p.1 before now b a answer (as_output p.0 p.1 p.2) p.3 told none
  ]

  pub put_whole-given : HasText answer → (shown : List ℕ) × IsOutput answer shown × Appends before now shown
  put_whole-given has = let p = put (λ e. subst HasText e has) in
      put_whole IsOutput Room p.0 p.1 before now b a answer (as_output p.0 p.1 p.2) p.3 has

  pub IsPartOf-given : answer ≡ WriteFault → IsPartOf IsOutput before now
  IsPartOf-given failed =
      let other : answer ≢ Memory = λ e. let f : WriteFault ≡ Memory = sym failed ∙ e in cc in
      let p = put other in
      IsPartOf-put IsOutput Room p.0 p.1 before now b a answer (as_output p.0 p.1 p.2)
      (λ e. subst IsOwn e (own p.0 p.1 p.2)) p.3 failed

  pub no_write_fault-given : IsOneOutput IsOutput → (text : List ℕ) (status : Status) → IsOutput status text
      → (room : ℕ) → Room room → length text ≤ room → answer ≢ WriteFault
  no_write_fault-given one text status out room has fits = λ failed.
      let other : answer ≢ Memory = λ e. let f : WriteFault ≡ Memory = sym failed ∙ e in cc in
      let p = put other in
      no_write_fault IsOutput Room one text p.1 status p.0 before now b a answer (as_output p.0 p.1 p.2)
      (λ e. subst IsOwn e (own p.0 p.1 p.2)) p.3 out room has fits failed
