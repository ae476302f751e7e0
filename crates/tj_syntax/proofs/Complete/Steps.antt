-- What a rule does with the tokens of a derivation: it reads them as the value that they stand for, or it stops at the
-- first of their notes that is broken.
use Rattle.std.proofs.Common.{◌≡◌, ℕ, zero, suc, ◌+◌, Bool, true, false, cond, List, [], ◌∷◌, ◌++◌, length, Option}
use Rattle.std.proofs.Common.{Some, None, Ok, Err, refl, ap, sym, ◌∙◌, subst, arith, append_assoc, length-append}
use Rattle.std.proofs.Common.{nat_eq, eqb-true}
use denote.Enum.Bare.{same_false}
use Rattle.std.specs.Prelude.{is_some, nat_le}
use Rattle.tj_lex.specs.contracts.token.Mark.{the_type}
use Rattle.tj_lex.specs.declared.token.Tok.{Tok}
use Rattle.tj_lex.specs.declared.token.Tok.TheVariants as toks
use Rattle.tj_lex.specs.declared.token.Mark.{Mark}
use Rattle.tj_syntax.specs.declared.fault.Breach.{Breach}
use Rattle.tj_syntax.specs.declared.fault.Breach.TheVariants.{Unknown, Twice, Deep, Many}
use Rattle.tj_syntax.specs.declared.fault.Stop.{Stop}
use Rattle.tj_syntax.specs.declared.fault.Stop.TheVariants as stop
use Rattle.tj_syntax.specs.Marks.{Name, Note, fine, broken, Noted, mark, opening, index_of, number_of, use_of, declaration}
use Rattle.tj_syntax.specs.Faults.{tokens_of}
use Rattle.tj_syntax.specs.Inner.Input.{Head, Input, Outcome, Parser, and_then, next, skip, expect, open_level, known}
use Rattle.tj_syntax.specs.Inner.Input.{known_at, fresh, unless, first_flaw, is_mark}
use Rattle.tj_syntax.proofs.Taken.{tokens_of-append, length-tokens_of}

-- the fault of a note, where so many tokens are left from it on
abbrev pub note_fault : Note → ℕ → Option Stop
note_fault (broken b) left = Some (stop.Broken b left)
note_fault note left = None

-- the first broken note, where so many tokens are left behind all
abbrev pub fault_in : List Noted → ℕ → Option Stop
fault_in [] left = None
fault_in (n ∷ rest) left = first_flaw (note_fault n.1 (suc (length rest + left))) (fault_in rest left)

first_flaw-assoc : (a b c : Option Stop) → first_flaw a (first_flaw b c) ≡ first_flaw (first_flaw a b) c
first_flaw-assoc None b c = refl
first_flaw-assoc (Some e) b c = refl

pub fault_in-append : (a b : List Noted) (left : ℕ)
    → fault_in (a ++ b) left ≡ first_flaw (fault_in a (length b + left)) (fault_in b left)
fault_in-append [] b left = refl
fault_in-append (n ∷ a) b left =
    let count : length (a ++ b) + left ≡ length a + (length b + left) = omega (arith, length-append a b) in
    ap (λ c. first_flaw (note_fault n.1 (suc c)) (fault_in (a ++ b) left)) count
    ∙ ap (λ f. first_flaw (note_fault n.1 (suc (length a + (length b + left)))) f) (fault_in-append a b left)
    ∙ first_flaw-assoc (note_fault n.1 (suc (length a + (length b + left)))) (fault_in a (length b + left))
    (fault_in b left)

pub length-ahead : (b : List Noted) (rest : List Tok) → length (tokens_of b ++ rest) ≡ length b + length rest
length-ahead b rest = length-append (tokens_of b) rest ∙ ap (λ n. n + length rest) (length-tokens_of b)

pub ahead-append : (a b : List Noted) (rest : List Tok)
    → tokens_of (a ++ b) ++ rest ≡ tokens_of a ++ (tokens_of b ++ rest)
ahead-append a b rest = ap (λ ts. ts ++ rest) (tokens_of-append a b) ∙ append_assoc (tokens_of a) (tokens_of b) rest

module _ (heads : List Head) where
  -- the input with these tokens left
  abbrev pub at : List Tok → List Name → Option Stop → Input
  at ahead vars flaw = record { ahead = ahead; vars = vars; tasks = heads; flaw = flaw }

-- The outcome of reading these notes with the rest behind them: the value, with these variables and this fault of a
-- fork
-- then, where no note is broken, and the first broken note where there is one.
pub record Does {A : Type 0} (heads : List Head) (outcome : Outcome A) (notes : List Noted) (rest : List Tok)
    (vars : List Name)
    (flaw : Option Stop) (x : A) : Type 0 where
  pub reads : fault_in notes (length rest) ≡ None → outcome ≡ Ok (x, at heads rest vars flaw)
  pub stops : (s : Stop) → fault_in notes (length rest) ≡ Some s → outcome ≡ Err s

-- one reading behind another
pub then_does : {A B : Type 0} (heads : List Head) (p : Parser A) (f : A → Parser B) (a b : List Noted)
    (rest : List Tok) (vars mid last : List Name)
    (before between behind : Option Stop) (x : A) (y : B)
    → Does heads (p (at heads (tokens_of a ++ (tokens_of b ++ rest)) vars before)) a (tokens_of b ++ rest) mid between x
    → Does heads (f x (at heads (tokens_of b ++ rest) mid between)) b rest last behind y
    → Does heads (and_then (p (at heads (tokens_of (a ++ b) ++ rest) vars before)) f) (a ++ b) rest last behind y
then_does {A} {B} heads p f a b rest vars mid last before between behind x y one two =
    subst (λ ts. Does heads (and_then (p (at heads ts vars before)) f) (a ++ b) rest last behind y)
    (sym (ahead-append a b rest))
    (by (p (at heads (tokens_of a ++ (tokens_of b ++ rest)) vars before)) one)
  where
    by : (r : Outcome A) → Does heads r a (tokens_of b ++ rest) mid between x
        → Does heads (and_then r f) (a ++ b) rest last behind y
    by r d = record {
      reads = λ h.
          let parts = both_none (fault_in a (length b + length rest)) (fault_in b (length rest))
          (sym (fault_in-append a b (length rest)) ∙ h) in
          ap (λ o. and_then o f) (d.reads (ap (λ n. fault_in a n) (length-ahead b rest) ∙ parts.0)) ∙ two.reads parts.1;
      stops = λ s h.
          in_either (fault_in a (length b + length rest)) refl s (sym (fault_in-append a b (length rest)) ∙ h);
    }
      where
        both_none : (u v : Option Stop) → first_flaw u v ≡ None → (u ≡ None) × (v ≡ None)
        both_none None v h = (refl, h)
        both_none (Some e) v h = absurd (cc)

        in_either : (o : Option Stop) → fault_in a (length b + length rest) ≡ o → (s : Stop)
            → first_flaw o (fault_in b (length rest)) ≡ Some s → and_then r f ≡ Err s
        in_either None e s h = ap (λ o. and_then o f) (d.reads (ap (λ n. fault_in a n) (length-ahead b rest) ∙ e))
            ∙ two.stops s h
        in_either (Some t) e s h =
            ap (λ o. and_then o f) (d.stops s (ap (λ n. fault_in a n) (length-ahead b rest) ∙ e ∙ h))

-- a reading whose value is changed
pub mapped : {A B : Type 0} {heads : List Head} {r : Outcome A} {notes : List Noted} {rest : List Tok}
    {vars : List Name} {flaw : Option Stop} {x : A}
    (f : A → B) → Does heads r notes rest vars flaw x
    → Does heads (and_then r (λ a i. Ok (f a, i))) notes rest vars flaw (f x)
mapped {A} {B} {heads} {r} {notes} {rest} {vars} {flaw} {x} f d = record {
  reads = λ h. ap (λ o. and_then o (λ a i. Ok (f a, i))) (d.reads h);
  stops = λ s h. ap (λ o. and_then o (λ a i. Ok (f a, i))) (d.stops s h);
}

-- nothing is read
pub nothing_read : {A : Type 0} (heads : List Head) (rest : List Tok) (vars : List Name) (flaw : Option Stop) (x : A)
    → Does heads (Ok (x, at heads rest vars flaw)) [] rest vars flaw x
nothing_read heads rest vars flaw x = record { reads = λ h. refl; stops = λ s h. absurd (cc) }

-- a token that is fine is read
pub fine_read : {A : Type 0} (heads : List Head) (t : Tok) (rest : List Tok) (vars : List Name) (flaw : Option Stop)
    (x : A)
    → Does heads (Ok (x, at heads rest vars flaw)) ((t, fine) ∷ []) rest vars flaw x
fine_read heads t rest vars flaw x = record { reads = λ h. refl; stops = λ s h. absurd (cc) }

not_false : (b : Bool) → (b ≡ false → ⊥) → b ≡ true
not_false true h = refl
not_false false h = absurd (h refl)

not_true : (b : Bool) → (b ≡ true → ⊥) → b ≡ false
not_true true h = absurd (h refl)
not_true false h = refl

-- a mark that is expected is read
pub expect_does : (heads : List Head) (mark_ : Mark) (rest : List Tok) (vars : List Name) (flaw : Option Stop)
    → Does heads (expect mark_ (at heads (toks.Mark mark_ ∷ rest) vars flaw)) (mark mark_ ∷ []) rest vars flaw tt
unfolding expect
expect_does heads mark_ rest vars flaw =
    let same : is_mark mark_ (Some (toks.Mark mark_)) ≡ true = not_false (is_mark mark_ (Some (toks.Mark mark_)))
    (λ h. same_false the_type mark_ mark_ h refl) in
    record {
      reads = λ h. ap (λ b. cond b (skip (at heads (toks.Mark mark_ ∷ rest) vars flaw))
          (Err (stop.Expected (suc (length rest))))) same;
      stops = λ s h. absurd (cc);
    }

-- a broken note alone is the first
pub broken_stops : {A : Type 0} (t : Tok) (b : Breach) (left : ℕ) (s : Stop)
    → fault_in ((t, broken b) ∷ []) left ≡ Some s
    → ◌≡◌ {A = Outcome A} (Err (stop.Broken b (suc left))) (Err s)
broken_stops t b left s h = let none : 0 + left ≡ left = omega arith in cc

-- an opening token is read, or opens a level too many
pub open_does : (heads : List Head) (room : ℕ) (t : Tok) (rest : List Tok) (vars : List Name) (flaw : Option Stop)
    → Does heads (open_level room (at heads (t ∷ rest) vars flaw)) ((t, opening room) ∷ []) rest vars flaw tt
unfolding open_level
open_does heads zero t rest vars flaw = record {
  reads = λ h. absurd (cc);
  stops = λ s h. broken_stops t Deep (length rest) s h;
}
open_does heads (suc room) t rest vars flaw =
    let level : nat_eq (suc room) 0 ≡ false =
    not_true (nat_eq (suc room) 0) (λ h. omega (arith, eqb-true (suc room) 0 h)) in
    record {
      reads = λ h. ap (λ b. cond b (Err (stop.Broken Deep (suc (length rest)))) (Ok (tt, at heads rest vars flaw)))
          level;
      stops = λ s h. absurd (cc);
    }

-- a variable is read, or it isn't known
pub known_does : (heads : List Head) (x : Name) (rest : List Tok) (vars : List Name) (flaw : Option Stop)
    → Does heads (known x (at heads (toks.Name x ∷ rest) vars flaw))
    ((toks.Name x, use_of vars x) ∷ []) rest vars flaw (number_of vars x)
unfolding known
known_does heads x rest vars flaw = by (index_of vars x) refl
  where
    by : (o : Option ℕ) → index_of vars x ≡ o
        → Does heads (known_at (index_of vars x) (at heads (toks.Name x ∷ rest) vars flaw))
        ((toks.Name x, use_of vars x) ∷ []) rest vars flaw (number_of vars x)
    by None e = rw e (record {
      reads = λ h. absurd (cc);
      stops = λ s h. broken_stops (toks.Name x) Unknown
          (length rest) s h;
    })
    by (Some n) e = rw e (record { reads = λ h. refl; stops = λ s h. absurd (cc) })

some_none : (s : Stop) → ◌≡◌ {A = Option Stop} (Some s) None → ⊥
some_none s h = cc

-- a name that is declared is read, or it breaks a rule
pub fresh_does : (heads : List Head) (most : ℕ) (earlier : List Name) (x : Name) (note : Note) (rest : List Tok)
    (vars : List Name) (flaw : Option Stop)
    → ((left : ℕ) → note_fault note left ≡ None)
    → Does heads (fresh most earlier (at heads (toks.Name x ∷ rest) vars flaw))
    ((toks.Name x, declaration most earlier x note) ∷ []) rest vars flaw x
unfolding fresh
fresh_does heads most earlier x note rest vars flaw good =
    by (is_some (index_of earlier x)) (nat_le most (length earlier))
  where
    by : (a b : Bool)
        → Does heads (unless (cond a (Some Twice) (cond b (Some Many) None)) (λ i. Ok (x, next i))
        (at heads (toks.Name x ∷ rest) vars flaw))
        ((toks.Name x, cond a (broken Twice) (cond b (broken Many) note)) ∷ []) rest vars flaw x
    by true b = record { reads = λ h. absurd (cc); stops = λ s h. broken_stops (toks.Name x) Twice (length rest) s h }
    by false true = record {
      reads = λ h. absurd (cc);
      stops = λ s h. broken_stops (toks.Name x) Many
          (length rest) s h;
    }
    by false false = record {
      reads = λ h. refl;
      stops = λ s h. let none = good (suc (0 + length rest)) in
          let more : first_flaw (note_fault note (suc (0 + length rest))) None ≡ Some s = h in
          absurd (some_none s (sym more ∙ ap (λ o. first_flaw o None) none));
    }
