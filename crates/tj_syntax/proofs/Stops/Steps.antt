-- Where a reading stops: what it read can be completed, and what it stopped at stands at its index in that.
use Rattle.std.proofs.Common.{◌≡◌, ℕ, zero, suc, Bool, true, false, cond, is_some, nat_eq, List, [], ◌∷◌, ◌++◌, length}
use Rattle.std.proofs.Common.{Option, Some, None, Ok, Err, refl, ap, sym, ◌∙◌, subst, arith, append_assoc, eqb-true}
use Rattle.std.proofs.Common.{⊎_elim, ◌⊎◌, inl, inr}
use Rattle.std.proofs.lemmas.List.{append-nil}
use Rattle.std.specs.Prelude.{nat_le}
use Rattle.tj_lex.specs.declared.token.Tok.{Tok}
use Rattle.tj_lex.specs.declared.token.Tok.TheVariants as toks
use Rattle.tj_lex.specs.declared.token.Mark.{Mark}
use Rattle.tj_syntax.specs.declared.fault.Breach.{Breach}
use Rattle.tj_syntax.specs.declared.fault.Breach.TheVariants.{Unknown, Twice, Deep, Many}
use Rattle.tj_syntax.specs.declared.fault.Stop.{Stop}
use Rattle.tj_syntax.specs.declared.fault.Stop.TheVariants as stop
use Rattle.tj_syntax.specs.Marks.{Name, Note, broken, Noted, opening, index_of, use_of, declaration}
use Rattle.tj_syntax.specs.Faults.{tokens_of, AreUnbroken}
use Rattle.tj_syntax.specs.Inner.Input.{Input, Outcome, Parser, and_then, first, next, skip, refuse, breaks, sees}
use Rattle.tj_syntax.specs.Inner.Input.{expect, eat, open_level, known, known_at, variable, variable_by, fresh}
use Rattle.tj_syntax.specs.Inner.Input.{fresh_by, breach_of, unless, names_of}
use Rattle.tj_syntax.proofs.Taken.{Took, ahead_both, tokens_of-append, unbroken-append}

-- the reading stops at the first of the tokens that are left; where that breaks a rule, it is noted so in front of more
abbrev pub IsStopAt : Stop → List Tok → List Noted → Type 0
IsStopAt (stop.Expected left) rest back = left ≡ length rest
IsStopAt (stop.Broken b left) rest back =
    (t : Tok) × (more : List Noted) × (after : List Tok) × (rest ≡ t ∷ after) × (back ≡ (t, broken b) ∷ more)
    × (left ≡ length rest)
IsStopAt _ rest back = ⊥

-- a reading stopped behind notes that break nothing, which together with others make a whole part
pub record Halts (i : Input) (s : Stop) (P : List Noted → Type 0) : Type 0 where
  pub front : List Noted
  pub back : List Noted
  pub rest : List Tok
  pub ahead : i.ahead ≡ tokens_of front ++ rest
  pub unbroken : AreUnbroken front
  pub whole : P (front ++ back)
  pub stops : IsStopAt s rest back

-- between two inputs stand these notes, none of them broken
pub record Past (i j : Input) (notes : List Noted) : Type 0 where
  pub ahead : i.ahead ≡ tokens_of notes ++ j.ahead
  pub unbroken : AreUnbroken notes
  pub tasks : j.tasks ≡ i.tasks

pub past_nothing : (i : Input) → Past i i []
past_nothing i = record { ahead = refl; unbroken = tt; tasks = refl }

pub past : {i j : Input} {notes : List Noted} → Took i j notes → Past i j notes
past t = record { ahead = t.ahead; unbroken = t.unbroken; tasks = t.tasks }

pub past_both : {i j k : Input} {a b : List Noted} → Past i j a → Past j k b → Past i k (a ++ b)
past_both {i} {j} {k} {a} {b} p q = record {
  ahead = ahead_both a b k p.ahead q.ahead;
  unbroken = unbroken-append a b p.unbroken q.unbroken;
  tasks = q.tasks ∙ p.tasks;
}

-- a part of a script, where these tasks are declared and these variables are known
abbrev pub Part : Type 1
Part = List Name → List Name → List Noted → Type 0

-- wherever a parser stops, what it read begins a whole part
abbrev pub Halting : {A : Type 0} → Part → Parser A → Type 0
Halting P p = (i : Input) (s : Stop) → p i ≡ Err s → Halts i s (P (names_of i.tasks) i.vars)

-- ---- one reading behind another

-- the first of two readings stops, or the second
pub split : {A B X : Type 0} (r : Outcome A) (f : A → Parser B) (s : Stop) → and_then r f ≡ Err s → (r ≡ Err s → X)
    → ((a : A) (j : Input) → r ≡ Ok (a, j) → f a j ≡ Err s → X) → X
split (Ok p) f s h one two = two p.0 p.1 refl h
split (Err e) f s h one two = one (let same : e ≡ s = cc in ap Err same)

pub if_err : {A : Type 0} (test : Bool) (x y : Outcome A) (s : Stop) → cond test x y ≡ Err s
    → ((test ≡ true) × (x ≡ Err s)) ⊎ ((test ≡ false) × (y ≡ Err s))
if_err true x y s h = inl (refl, h)
if_err false x y s h = inr (refl, h)

more_behind : (s : Stop) (rest : List Tok) (back more : List Noted) → IsStopAt s rest back
    → IsStopAt s rest (back ++ more)
more_behind (stop.Broken b left) rest back more (t, m, after, e, is, n) =
    (t, m ++ more, after, e, ap (λ ns. ns ++ more) is, n)
more_behind s rest back more h = h

-- a reading that stops within a larger part, of which these notes are in front
pub beyond : {h i : Input} {s : Stop} {P Q : List Noted → Type 0} → Halts i s P
    → ((notes : List Noted) → P notes → (a : List Noted) × (more : List Noted) × Past h i a × Q (a ++ (notes ++ more)))
    → Halts h s Q
beyond {h} {i} {s} {P} {Q} got complete =
    let larger = complete (got.front ++ got.back) got.whole in
    let a = larger.0 in
    let more = larger.1 in
    let behind = larger.2 in
    record {
      front = a ++ got.front;
      back = got.back ++ more;
      rest = got.rest;
      ahead = behind.ahead ∙ ap (λ ts. tokens_of a ++ ts) got.ahead
          ∙ sym (append_assoc (tokens_of a) (tokens_of got.front) got.rest)
          ∙ ap (λ ts. ts ++ got.rest) (sym (tokens_of-append a got.front));
      unbroken = unbroken-append a got.front behind.unbroken got.unbroken;
      whole = subst Q (ap (λ ns. a ++ ns) (append_assoc got.front got.back more)
          ∙ sym (append_assoc a got.front (got.back ++ more))) larger.3;
      stops = more_behind s got.rest got.back more got.stops;
    }

-- what is a part behind some notes is one in front of them, if nothing became known
pub moved : {h i : Input} {a notes : List Noted} {vars : List Name} (P : Part) → Past h i a → i.vars ≡ vars
    → P (names_of i.tasks) i.vars notes
    → P (names_of h.tasks) vars notes
moved {h} {i} {a} {notes} P behind same p =
    subst (λ v. P (names_of h.tasks) v notes) same (subst (λ ts. P (names_of ts) i.vars notes) behind.tasks p)

-- the same where the notes in front are known before
pub later : {h i : Input} {a : List Noted} {s : Stop} {Q : List Noted → Type 0} {vars : List Name} (P : Part)
    → Past h i a → i.vars ≡ vars
    → Halts i s (P (names_of i.tasks) i.vars)
    → ((notes : List Noted) → P (names_of h.tasks) vars notes → (more : List Noted) × Q (a ++ (notes ++ more)))
    → Halts h s Q
later {h} {i} {a} {s} {Q} {vars} P behind same got complete =
    beyond got (λ notes p.
    let larger = complete notes (moved P behind same p) in
    (a, larger.0, behind, larger.1))

-- the same where nothing stands behind
pub at_last : {h i : Input} {a : List Noted} {s : Stop} {Q : List Noted → Type 0} {vars : List Name} (P : Part)
    → Past h i a → i.vars ≡ vars
    → Halts i s (P (names_of i.tasks) i.vars)
    → ((notes : List Noted) → P (names_of h.tasks) vars notes → Q (a ++ notes)) → Halts h s Q
at_last {a = a} {Q = Q} P behind same got complete =
    later P behind same got (λ notes p. ([], subst (λ ns. Q (a ++ ns)) (sym (append-nil notes)) (complete notes p)))

-- ---- where nothing was read

-- the next token can't follow
pub refused : {i : Input} {s : Stop} {P : List Noted → Type 0} → s ≡ stop.Expected (length i.ahead)
    → (back : List Noted) → P back → Halts i s P
refused {i} {s} {P} e back p = record {
  front = [];
  back = back;
  rest = i.ahead;
  ahead = refl;
  unbroken = tt;
  whole = p;
  stops = subst (λ s. IsStopAt s i.ahead back) (sym e) refl;
}

-- the same behind some notes
pub refused_behind : {h i : Input} {a : List Noted} {s : Stop} {Q : List Noted → Type 0} → Past h i a
    → s ≡ stop.Expected (length i.ahead) → (back : List Noted)
    → Q (a ++ back) → Halts h s Q
refused_behind {h} {i} {a} {s} {Q} behind e back q =
    beyond {P = λ notes. notes ≡ back} (refused e back refl)
    (λ notes is. (
      a,
      [],
      behind,
      subst
          (λ ns. Q (a ++ (ns ++ []))) (sym is) (subst (λ ns. Q (a ++ ns)) (sym (append-nil back)) q),
    ))

-- the next token breaks a rule
pub broke : {i : Input} {s : Stop} {P : List Noted → Type 0} (b : Breach) (t : Tok) (rest : List Tok)
    → i.ahead ≡ t ∷ rest → s ≡ stop.Broken b (length i.ahead)
    → (back : List Noted) → P ((t, broken b) ∷ back) → Halts i s P
broke {i} {s} {P} b t rest is e back p = record {
  front = [];
  back = (t, broken b) ∷ back;
  rest = i.ahead;
  ahead = refl;
  unbroken = tt;
  whole = p;
  stops = subst (λ s. IsStopAt s i.ahead ((t, broken b) ∷ back)) (sym e) (t, back, rest, is, refl, refl);
}

pub err_inj : {A : Type 0} (e s : Stop) → ◌≡◌ {A = Outcome A} (Err e) (Err s) → s ≡ e
err_inj e s h = cc

-- ---- the steps

-- a mark that is expected stops only where another token comes next
pub expect_stops : (mark_ : Mark) (i : Input) (s : Stop) → expect mark_ i ≡ Err s → s ≡ stop.Expected (length i.ahead)
unfolding expect
expect_stops mark_ i s h =
    ⊎_elim (λ p. let e = p.1 in absurd (cc)) (λ p. err_inj {A = Unit {0}} (stop.Expected (length i.ahead)) s p.1)
    (if_err (sees mark_ i) (skip i) (refuse i) s h)

-- a mark that may come next doesn't stop
pub eat_reads : (mark_ : Mark) (i : Input) (s : Stop) → eat mark_ i ≡ Err s → ⊥
unfolding eat
eat_reads mark_ i s h =
    ⊎_elim (λ p. let e = p.1 in absurd (cc))
    (λ p. let e = p.1 in absurd (cc)) (if_err (sees mark_ i) (Ok (true, next i)) (Ok (false, i)) s h)

-- an opening token opens a level too many
pub open_halts : (room : ℕ) (i : Input) (s : Stop) (t : Tok) (rest : List Tok) → i.ahead ≡ t ∷ rest
    → open_level room i ≡ Err s
    → {P : List Noted → Type 0} → (back : List Noted) → P ((t, opening room) ∷ back) → Halts i s P
unfolding open_level
open_halts zero i s t rest is h back p = broke Deep t rest is
    (err_inj {A = Unit {0}} (stop.Broken Deep (length i.ahead)) s h) back p
open_halts (suc room) i s t rest is h back p =
    ⊎_elim (λ q. absurd (omega (arith, eqb-true (suc room) 0 q.0))) (λ q. let e = q.1 in absurd (cc))
    (if_err (nat_eq (suc room) 0) (breaks Deep i) (skip i) s h)

-- a variable isn't known
pub known_halts : (x : Name) (i : Input) (s : Stop) (rest : List Tok) → i.ahead ≡ toks.Name x ∷ rest → known x i ≡ Err s
    → {P : List Noted → Type 0} → (back : List Noted) → P ((toks.Name x, use_of i.vars x) ∷ back) → Halts i s P
unfolding known
known_halts x i s rest is h {P} back p = at (index_of i.vars x) refl h
  where
    at : (o : Option ℕ) → index_of i.vars x ≡ o → known_at o i ≡ Err s → Halts i s P
    at None e h' =
        let note : use_of i.vars x ≡ broken Unknown = rw e refl in
        broke Unknown (toks.Name x) rest is (err_inj {A = ℕ} (stop.Broken Unknown (length i.ahead)) s h') back
        (subst (λ n. P ((toks.Name x, n) ∷ back)) note p)
    at (Some n) e h' = absurd (cc)

-- no variable comes next, or one that isn't known
pub variable_halts : (i : Input) (s : Stop) → variable i ≡ Err s → {P : List Noted → Type 0} → (back : List Noted)
    → ((x : Name) → P ((toks.Name x, use_of i.vars x) ∷ back)) → Halts i s P
unfolding variable
variable_halts i s h {P} back p = by i.ahead refl h
  where
    other : ◌≡◌ {A = Outcome ℕ} (Err (stop.Expected (length i.ahead))) (Err s) → Halts i s P
    other h' = refused (err_inj {A = ℕ} (stop.Expected (length i.ahead)) s h')
        ((toks.Name [], use_of i.vars []) ∷ back) (p [])

    by : (ts : List Tok) → i.ahead ≡ ts → variable_by (first ts) i ≡ Err s → Halts i s P
    by (toks.Name x ∷ rest) e h' = known_halts x i s rest e h' back (p x)
    by ts e h' = other h'

declared_breach : (a c : Bool) (note : Note) (b : Breach)
    → ◌≡◌ {A = Option Breach} (cond a (Some Twice) (cond c (Some Many) None)) (Some b)
    → cond a (broken Twice) (cond c (broken Many) note) ≡ broken b
declared_breach true c note b h = cc
declared_breach false true note b h = cc
declared_breach false false note b h = absurd (cc)

-- a declaration that breaks a rule is noted so
declared_broken : (most : ℕ) (earlier : List Name) (x : Name) (b : Breach) (note : Note)
    → breach_of most earlier x ≡ Some b → declaration most earlier x note ≡ broken b
declared_broken most earlier x b note h = declared_breach (is_some (index_of earlier x)) (nat_le most (length earlier))
    note b h

-- no name comes next, or one that breaks a rule where it is declared
pub fresh_halts : (most : ℕ) (earlier : List Name) (i : Input) (s : Stop) (note : Note) → fresh most earlier i ≡ Err s
    → {P : List Noted → Type 0} → (back : Name → List Noted)
    → ((x : Name) → P ((toks.Name x, declaration most earlier x note) ∷ back x)) → Halts i s P
unfolding fresh
fresh_halts most earlier i s note h {P} back p = by i.ahead refl h
  where
    other : ◌≡◌ {A = Outcome Name} (Err (stop.Expected (length i.ahead))) (Err s) → Halts i s P
    other h' = refused (err_inj {A = Name} (stop.Expected (length i.ahead)) s h')
        ((toks.Name [], declaration most earlier [] note) ∷ back []) (p [])

    by : (ts : List Tok) → i.ahead ≡ ts → fresh_by most earlier (first ts) i ≡ Err s → Halts i s P
    by [] e h' = other h'
    by (toks.Name x ∷ rest) e h' = at (breach_of most earlier x) refl h'
      where
        at : (o : Option Breach) → breach_of most earlier x ≡ o → unless o (λ l. Ok (x, next l)) i ≡ Err s → Halts i s P
        at None is l = absurd (cc)
        at (Some b) is l =
            broke b (toks.Name x) rest e (err_inj {A = Name} (stop.Broken b (length i.ahead)) s l) (back x)
            (subst (λ n. P ((toks.Name x, n) ∷ back x)) (declared_broken most earlier x b note is) (p x))
    by (t ∷ rest) e h' = other h'
