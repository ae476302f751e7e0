-- What the steps of a reading take from the tokens, and what they note.
use Rattle.std.proofs.Common.{◌≡◌, ℕ, suc, ◌+◌, Bool, true, false, cond, List, [], ◌∷◌, ◌++◌, length, Option, Some}
use Rattle.std.proofs.Common.{None, Ok, Err, refl, ap, sym, ◌∙◌, subst, arith, append_assoc, length-append, drop, ◌⊎◌}
use Rattle.std.proofs.Common.{inl, inr}
use Rattle.std.specs.List.{AllByRecursion}
use Rattle.tj_lex.specs.declared.token.Tok.{Tok}
use Rattle.tj_lex.specs.declared.token.Tok.TheVariants as toks
use Rattle.tj_lex.specs.declared.token.Key.TheVariants as k
use Rattle.tj_syntax.specs.declared.fault.Stop.{Stop}
use Rattle.tj_syntax.specs.Marks.{Name, Note, forks, Noted}
use Rattle.tj_syntax.specs.Faults.{tokens_of, IsUnbroken, AreUnbroken}
use Rattle.tj_syntax.specs.Inner.Input.{Input, Outcome, Parser, and_then, next, Head, head_named, flaw_at, first_flaw}

-- ---- results

pub bind_ok : {A B : Type 0} (r : Outcome A) (f : A → Parser B) (b : B) (k : Input) → and_then r f ≡ Ok (b, k)
    → (a : A) × (j : Input) × (r ≡ Ok (a, j)) × (f a j ≡ Ok (b, k))
bind_ok (Ok p) f b k h = (p.0, p.1, refl, h)
bind_ok (Err e) f b k h = absurd (cc)

pub if_ok : {A : Type 0} (test : Bool) (x y : Outcome A) (r : A × Input) → cond test x y ≡ Ok r
    → ((test ≡ true) × (x ≡ Ok r)) ⊎ ((test ≡ false) × (y ≡ Ok r))
if_ok true x y r h = inl (refl, h)
if_ok false x y r h = inr (refl, h)

-- ---- forks

-- the fault that is noted at a token, where so many tokens are left from it on
abbrev pub note_flaw : List Head → Noted → ℕ → Option Stop
note_flaw heads (toks.Name f, forks count) left = flaw_at (head_named heads f) left count
note_flaw heads noted left = None

-- the first fault of a fork behind some tokens, where so many are left
abbrev pub flaw_after : List Head → List Noted → ℕ → Option Stop → Option Stop
flaw_after heads [] left flaw = flaw
flaw_after heads (n ∷ rest) left flaw = flaw_after heads rest left (first_flaw flaw (note_flaw heads n (suc (length
    rest + left))))

pub flaw_after-append : (heads : List Head) (a b : List Noted) (left : ℕ) (flaw : Option Stop)
    → flaw_after heads (a ++ b) left flaw ≡ flaw_after heads b left (flaw_after heads a (length b + left) flaw)
flaw_after-append heads [] b left flaw = refl
flaw_after-append heads (n ∷ a) b left flaw =
    let count : length (a ++ b) + left ≡ length a + (length b + left) = omega (arith, length-append a b) in
    ap (λ c. flaw_after heads (a ++ b) left (first_flaw flaw (note_flaw heads n (suc c)))) count
    ∙ flaw_after-append heads a b left (first_flaw flaw (note_flaw heads n (suc (length a + (length b + left)))))

pub first_flaw-none : (flaw : Option Stop) → first_flaw flaw None ≡ flaw
first_flaw-none None = refl
first_flaw-none (Some e) = refl

-- whether a task begins at a token
abbrev pub is_task : Tok → Bool
is_task (toks.Key k.Task) = true
is_task t = false

-- no task begins among the notes
abbrev pub AreCalm : List Noted → Type 0
AreCalm = AllByRecursion (λ noted. is_task noted.0 ≡ false)

pub calm-append : (a b : List Noted) → AreCalm a → AreCalm b → AreCalm (a ++ b)
calm-append [] b h l = l
calm-append (n ∷ a) b h l = (h.0, calm-append a b h.1 l)

-- ---- what is taken

-- between two inputs stand these notes, none of them broken
pub record Took (i j : Input) (notes : List Noted) : Type 0 where
  pub ahead : i.ahead ≡ tokens_of notes ++ j.ahead
  pub unbroken : AreUnbroken notes
  pub tasks : j.tasks ≡ i.tasks
  pub flaw : j.flaw ≡ flaw_after i.tasks notes (length j.ahead) i.flaw
  pub calm : AreCalm notes

pub tokens_of-append : (a b : List Noted) → tokens_of (a ++ b) ≡ tokens_of a ++ tokens_of b
tokens_of-append [] b = refl
tokens_of-append (n ∷ a) b = ap (λ ts. n.0 ∷ ts) (tokens_of-append a b)

pub length-tokens_of : (a : List Noted) → length (tokens_of a) ≡ length a
length-tokens_of [] = refl
length-tokens_of (n ∷ a) = ap suc (length-tokens_of a)

pub unbroken-append : (a b : List Noted) → AreUnbroken a → AreUnbroken b → AreUnbroken (a ++ b)
unbroken-append [] b h k = k
unbroken-append (n ∷ a) b h k = (h.0, unbroken-append a b h.1 k)

pub took_nothing : (i : Input) → Took i i []
took_nothing i = record { ahead = refl; unbroken = tt; tasks = refl; flaw = refl; calm = tt }

-- the tokens of two stretches are those of both
pub ahead_both : (a b : List Noted) (k : Input) {ts us : List Tok} → ts ≡ tokens_of a ++ us
    → us ≡ tokens_of b ++ k.ahead → ts ≡ tokens_of (a ++ b) ++ k.ahead
ahead_both a b k p q = p ∙ ap (λ ts. tokens_of a ++ ts) q ∙ sym (append_assoc (tokens_of a) (tokens_of b) k.ahead)
    ∙ ap (λ ts. ts ++ k.ahead) (sym (tokens_of-append a b))

-- and so are their faults
pub flaw_both : (a b : List Noted) (i j k : Input) → j.ahead ≡ tokens_of b ++ k.ahead → j.tasks ≡ i.tasks
    → j.flaw ≡ flaw_after i.tasks a (length j.ahead) i.flaw → k.flaw ≡ flaw_after j.tasks b (length k.ahead) j.flaw
    → k.flaw ≡ flaw_after i.tasks (a ++ b) (length k.ahead) i.flaw
flaw_both a b i j k ahead tasks p q =
    let count : length j.ahead ≡ length b + length k.ahead = ap length ahead ∙ length-append (tokens_of b) k.ahead
    ∙ ap (λ n. n + length k.ahead) (length-tokens_of b) in
    q ∙ ap (λ ts. flaw_after ts b (length k.ahead) j.flaw) tasks
    ∙ ap (λ f. flaw_after i.tasks b (length k.ahead) f) (p ∙ ap (λ n. flaw_after i.tasks a n i.flaw) count)
    ∙ sym (flaw_after-append i.tasks a b (length k.ahead) i.flaw)

pub took_both : {i j k : Input} {a b : List Noted} → Took i j a → Took j k b → Took i k (a ++ b)
took_both {i} {j} {k} {a} {b} p q = record {
  ahead = ahead_both a b k p.ahead q.ahead;
  unbroken = unbroken-append a b p.unbroken q.unbroken;
  calm = calm-append a b p.calm q.calm;
  tasks = q.tasks ∙ p.tasks;
  flaw = flaw_both a b i j k q.ahead p.tasks p.flaw q.flaw;
}

-- the next token was taken, and is noted so
pub took_one : (i : Input) (t : Tok) (rest : List Tok) (note : Note) → is_task t ≡ false → i.ahead ≡ t ∷ rest →
    IsUnbroken (t, note)
    → ((left : ℕ) → note_flaw i.tasks (t, note) left ≡ None) → Took i (next i) ((t, note) ∷ [])
took_one i t rest note calm e right none = record {
  ahead = let after : (next i).ahead ≡ rest = ap (λ ts. drop 1 ts) e in e ∙ ap (λ ts. t ∷ ts) (sym after);
  unbroken = (right, tt);
  calm = (calm, tt);
  tasks = refl;
  flaw = sym (first_flaw-none i.flaw) ∙ ap (λ f. first_flaw i.flaw f) (sym (none (suc (0 + length (next i).ahead))));
}

-- the state behind a step, with the notes that it took
pub record Got (i j : Input) (P : List Noted → Type 0) : Type 0 where
  pub notes : List Noted
  pub took : Took i j notes
  pub kept : ◌≡◌ {A = List Name × Option Stop} (j.vars, j.flaw) (i.vars, i.flaw)
  pub right : P notes

-- whatever a parser reads is right of the variables, the notes and the value
abbrev pub Sound : {A : Type 0} → (List Name → List Noted → A → Type 0) → Parser A → Type 0
Sound Q p = (i j : Input) (a : _) → p i ≡ Ok (a, j) → Got i j (λ notes. Q i.vars notes a)

-- one outcome has one answer and one input
pub ok_inj : {A : Type 0} (p q : A × Input) → ◌≡◌ {A = Outcome A} (Ok p) (Ok q) → p ≡ q
ok_inj p q h = cc

-- what holds where a parser answered holds at the answer and the input that were given
pub landed : {A : Type 0} (P : A → Input → Type 0) (x a : A) (i j : Input) → ◌≡◌ {A = Outcome A} (Ok (x, i)) (Ok (
  a,
  j,
)) → P x i → P a j
landed P x a i j h p = subst (λ r. P r.0 r.1) (ok_inj (x, i) (a, j) h) p
