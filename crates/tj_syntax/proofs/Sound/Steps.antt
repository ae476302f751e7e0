-- The steps that every rule is made of take what they say.
use Rattle.std.proofs.Common.{◌≡◌, ◌≢◌, ℕ, zero, suc, Bool, true, false, nat_eq, List, [], ◌∷◌, Option, Some, None, Ok}
use Rattle.std.proofs.Common.{refl, ap, sym, ◌∙◌, subst, rules, ⊎_elim, ◌⊎◌, inl, inr}
use denote.Enum.Bare.{same_true}
use Rattle.tj_lex.specs.contracts.token.Mark.{the_type}
use Rattle.tj_lex.specs.declared.token.Tok.{Tok}
use Rattle.tj_lex.specs.declared.token.Tok.TheVariants as toks
use Rattle.tj_lex.specs.declared.token.Mark.{Mark}
use Rattle.tj_syntax.specs.declared.fault.Breach.{Breach}
use Rattle.tj_syntax.specs.declared.fault.Stop.{Stop}
use Rattle.tj_syntax.specs.Marks.{Name, fine, broken, Noted, mark, opening, index_of, number_of, use_of}
use Rattle.tj_syntax.specs.Inner.Input.{Head, Input, Outcome, first, next, skip, refuse, breaks, is_mark, sees, expect}
use Rattle.tj_syntax.specs.Inner.Input.{eat, open_level, known, known_at}
use Rattle.tj_syntax.proofs.Taken.{Took, took_one, if_ok, note_flaw, ok_inj, landed, is_task}

-- a token that is fine breaks nothing
pub fine_unbroken : (t : Tok) (b : Breach) → fine ≢ broken b
fine_unbroken t b = λ h. cc

-- a token that is fine is no fork
pub fine_flaw : (heads : List Head) (t : Tok) (left : ℕ) → note_flaw heads (t, fine) left ≡ None
fine_flaw heads (toks.Name f) left = refl
fine_flaw heads t left = refl

-- the next token is taken as it is
pub took_fine : (i : Input) (t : Tok) (rest : List Tok) → i.ahead ≡ t ∷ rest → is_task t ≡ false → Took i (next i)
    ((t, fine) ∷ [])
took_fine i t rest e calm = took_one i t rest fine calm e (fine_unbroken t) (fine_flaw i.tasks t)

-- what a step that answers nothing leaves behind
pub record Stepped (i j : Input) (notes : List Noted) : Type 0 where
  pub took : Took i j notes
  pub kept : ◌≡◌ {A = List Name × Option Stop} (j.vars, j.flaw) (i.vars, i.flaw)

pub skipped : {A : Type 0} (i j : Input) (t : Tok) (rest : List Tok) (a b : A) → is_task t ≡ false → i.ahead ≡ t ∷
    rest → ◌≡◌ {A = Outcome A} (Ok (a, next i)) (Ok (b, j))
    → Stepped i j ((t, fine) ∷ [])
skipped i j t rest a b calm e h =
    landed (λ c k. Stepped i k ((t, fine) ∷ [])) a b (next i) j h (record {
      took = took_fine i t rest e calm;
      kept =
          refl;
    })

pub mark_next : (mark : Mark) (ts : List Tok) → is_mark mark (first ts) ≡ true → (rest : List Tok) × (ts ≡ toks.Mark
    mark ∷ rest)
mark_next mark_ (toks.Mark found ∷ rest) h =
    let same : mark_ ≡ found = same_true the_type (search rules) mark_ found h in
    (rest, ap (λ m. toks.Mark m ∷ rest) (sym same))
mark_next mark_ ts h = absurd (cc)

pub expected : (mark_ : Mark) (i j : Input) (u : Unit {0}) → expect mark_ i ≡ Ok (u, j) → Stepped i j (mark mark_ ∷ [])
unfolding expect
expected mark_ i j u h =
    ⊎_elim
    (λ p. let t = mark_next mark_ i.ahead p.0 in skipped i j (toks.Mark mark_) t.0 tt u refl t.1 p.1)
    (λ p. absurd (let e = p.1 in cc))
    (if_ok (sees mark_ i) (skip i) (refuse i) (u, j) h)

pub ate : (mark_ : Mark) (i j : Input) (found : Bool) → eat mark_ i ≡ Ok (found, j)
    → ((found ≡ true) × Stepped i j (mark mark_ ∷ [])) ⊎ ((found ≡ false) × (j ≡ i))
unfolding eat
ate mark_ i j found h =
    ⊎_elim
    (λ p. let t = mark_next mark_ i.ahead p.0 in
    inl (
      sym (ap (λ r. r.0) (ok_inj (true, next i) (found, j) p.1)),
      skipped i j (toks.Mark mark_) t.0 true found refl
          t.1 p.1,
    ))
    (λ p. inr (
      sym (ap (λ r. r.0) (ok_inj (false, i) (found, j) p.1)),
      sym (ap (λ r. r.1) (ok_inj (false, i) (
        found,
        j,
      ) p.1)),
    ))
    (if_ok (sees mark_ i) (Ok (true, next i)) (Ok (false, i)) (found, j) h)

-- an opening token that is taken is fine
pub opened : (room : ℕ) (i j : Input) (u : Unit {0}) (t : Tok) (rest : List Tok) → is_task t ≡ false → i.ahead ≡ t ∷
    rest → open_level room i ≡ Ok (u, j)
    → (opening room ≡ fine) × Stepped i j ((t, opening room) ∷ [])
unfolding open_level
opened zero i j u t rest calm e h = absurd (cc)
opened (suc room) i j u t rest calm e h =
    ⊎_elim
    (λ p. let e = p.1 in absurd (cc))
    (λ p. (refl, skipped i j t rest tt u calm e p.1))
    (if_ok (nat_eq (suc room) 0) (breaks _ i) (skip i) (u, j) h)

-- a variable that is taken is known
pub knew : (x : Name) (i j : Input) (n : ℕ) (rest : List Tok) → i.ahead ≡ toks.Name x ∷ rest → known x i ≡ Ok (n, j)
    → Stepped i j ((toks.Name x, use_of i.vars x) ∷ []) × (n ≡ number_of i.vars x)
unfolding known
knew x i j n rest e h = at (index_of i.vars x) refl h
  where
    at : (o : Option ℕ) → index_of i.vars x ≡ o → known_at o i ≡ Ok (n, j) → Stepped i j ((toks.Name x, use_of i.vars x)
        ∷ []) × (n ≡ number_of i.vars x)
    at None p h' = absurd (cc)
    at (Some number) p h' =
        let right : use_of i.vars x ≡ fine = rw p refl in
        let same : number ≡ n = ap (λ r. r.0) (ok_inj (number, next i) (n, j) h') in (
          subst (λ note. Stepped i j ((toks.Name x, note) ∷ [])) (sym right) (skipped i j (toks.Name x) rest number n
              refl e h'),
          sym same ∙ (rw p refl),
        )
