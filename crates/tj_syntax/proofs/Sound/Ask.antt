-- What is read as an ask or as what a variable is given is one.
use Rattle.std.proofs.Common.{◌≡◌, ℕ, suc, false, ◌+◌, List, [], ◌∷◌, ◌++◌, length, Option, Some, None, Ok, refl, ap}
use Rattle.std.proofs.Common.{sym, ◌∙◌, subst, drop, zero-add}
use Rattle.tj_lex.specs.declared.token.Tok.{Tok}
use Rattle.tj_lex.specs.declared.token.Tok.TheVariants as toks
use Rattle.tj_lex.specs.declared.token.Key.{Key}
use Rattle.tj_lex.specs.declared.token.Key.TheVariants as k
use Rattle.tj_lex.specs.declared.token.Mark.TheVariants as m
use Rattle.tj_syntax.specs.declared.fault.Stop.{Stop}
use Rattle.tj_syntax.specs.declared.expr.RefOf.{RefOf}
use Rattle.tj_syntax.specs.Trees as tree
use Rattle.tj_syntax.specs.Trees.{Expression, Ask, Given}
use Rattle.tj_syntax.specs.Marks.{Name, Noted, forks, key, mark, number_of}
use Rattle.tj_syntax.specs.Grammar as g
use Rattle.tj_syntax.specs.Grammar.{IsArguments, IsReference, IsOr, IsAsk, IsGiven}
use Rattle.tj_syntax.specs.Inner.Input.{Head, Input, and_then, first, next, expect, names_of, note_fork, flaw_at}
use Rattle.tj_syntax.specs.Inner.Input.{head_named, first_flaw}
use Rattle.tj_syntax.specs.Inner.Reading.{expression, separated, argument, forked_by, forked, fork, asked, ask_by, ask}
use Rattle.tj_syntax.specs.Inner.Reading.{given_by, given}
use Rattle.tj_syntax.proofs.Taken.{Took, took_both, bind_ok, landed, flaw_after, is_task}
use Rattle.tj_syntax.proofs.Sound.Steps.{took_fine, expected}
use Rattle.tj_syntax.proofs.Sound.AskParts.{expressions_sound, arguments_sound, asked_sound}

-- what is read with forks in it: the variables stay as they are
pub record Kept (i j : Input) (P : List Noted → Type 0) : Type 0 where
  pub notes : List Noted
  pub took : Took i j notes
  pub vars : j.vars ≡ i.vars
  pub right : P notes

-- a first fault stays the first
pub flaw_after-some : (heads : List Head) (notes : List Noted) (left : ℕ) (e : Stop) → flaw_after heads notes left
    (Some e) ≡ Some e
flaw_after-some heads [] left e = refl
flaw_after-some heads (n ∷ notes) left e = flaw_after-some heads notes left e

-- notes that add no fault to a state add it to none
flaw_swap : (heads : List Head) (notes : List Noted) (left : ℕ) (flaw late : Option Stop) → flaw ≡ flaw_after heads
    notes left flaw
    → first_flaw flaw late ≡ flaw_after heads notes left (first_flaw flaw late)
flaw_swap heads notes left (Some e) late h = h
flaw_swap heads notes left None None h = h
flaw_swap heads notes left None (Some e) h = sym (flaw_after-some heads notes left e)

-- the name of a forked task is read
pub record GotFork (i j : Input) (f : Name) (left : ℕ) : Type 0 where
  pub rest : List Tok
  pub ahead : i.ahead ≡ toks.Name f ∷ rest
  pub count : left ≡ length i.ahead
  pub there : j ≡ next i

pub forked_by_sound : (ts : List Tok) (i j : Input) (f : Name × ℕ) → i.ahead ≡ ts → forked_by (first ts) i ≡ Ok (f, j) →
    GotFork i j f.0 f.1
forked_by_sound (toks.Name x ∷ rest) i j f e h =
    landed (λ b l. GotFork i l b.0 b.1) (x, length i.ahead) f (next i) j h (record {
      rest = rest;
      ahead = e;
      count =
          refl;
      there = refl;
    })
forked_by_sound ts i j f e h = absurd (cc)

-- a name that is noted as a fork is taken
took_fork : (i : Input) (f : Name) (rest : List Tok) (count : ℕ) → i.ahead ≡ toks.Name f ∷ rest
    → (flaw : Option Stop) → flaw ≡ first_flaw i.flaw (flaw_at (head_named i.tasks f) (length i.ahead) count)
    → Took i (record (next i) { flaw = flaw }) ((toks.Name f, forks count) ∷ [])
took_fork i f rest count e flaw is = record {
  ahead = let after : (next i).ahead ≡ rest = ap (λ ts. drop 1 ts) e in e ∙ ap (λ ts. toks.Name f ∷ ts) (sym after);
  unbroken = (λ b h. cc, tt);
  tasks = refl;
  calm = (refl, tt);
  flaw =
      let after : (next i).ahead ≡ rest = ap (λ ts. drop 1 ts) e in
      let left : length i.ahead ≡ suc (0 + length (next i).ahead) = ap length e ∙ ap (λ n. suc n) (ap length (sym
      after) ∙ sym (zero-add (length (next i).ahead))) in
      is ∙ ap (λ n. first_flaw i.flaw (flaw_at (head_named i.tasks f) n count)) left;
}

-- what was taken is taken from any state with other faults, if it added none
took_from : {i j : Input} {notes : List Noted} → Took i j notes → j.flaw ≡ i.flaw → (late : Option Stop)
    → Took (record i { flaw = first_flaw i.flaw late }) (record j { flaw = first_flaw i.flaw late }) notes
took_from {i} {j} {notes} p same late = record {
  ahead = p.ahead;
  unbroken = p.unbroken;
  tasks = p.tasks;
  calm = p.calm;
  flaw = flaw_swap i.tasks notes (length j.ahead) i.flaw late (sym same ∙ p.flaw);
}

fork_sound : (room : ℕ) (i j : Input) (a : Ask) → fork room i ≡ Ok (a, j)
    → Kept i j (λ notes. IsAsk (names_of i.tasks) i.vars room (key k.Fork ∷ notes) a)
unfolding fork forked note_fork
fork_sound room i j a h =
    let read = bind_ok (forked i) _ a j h in
    let f = read.0.0 in
    let named = forked_by_sound i.ahead i read.1 read.0 refl read.2 in
    let entry = bind_ok (expect m.ParenOpen read.1) _ a j read.3 in
    let opening = expected m.ParenOpen read.1 entry.1 entry.0 entry.2 in
    let list = bind_ok (separated (argument room) entry.1) _ a j entry.3 in
    let args = arguments_sound room entry.1 list.1 list.0 list.2 in
    let close = bind_ok (expect m.ParenClose list.1) _ a j list.3 in
    let closing = expected m.ParenClose list.1 close.1 close.0 close.2 in
    let at_open : ◌≡◌ {A = List Name × Option Stop} (entry.1.vars, entry.1.flaw) (i.vars, i.flaw) =
    opening.kept ∙ ap (λ (l : Input). (l.vars, l.flaw)) named.there in
    let kept : ◌≡◌ {A = List Name × Option Stop} (close.1.vars, close.1.flaw) (i.vars, i.flaw) = closing.kept ∙
    args.kept ∙ at_open in
    let inner = mark m.ParenOpen ∷ (args.notes ++ mark m.ParenClose ∷ []) in
    let mid : Took (next i) close.1 inner =
    subst (λ l. Took l close.1 (mark m.ParenOpen ∷ (args.notes ++ mark m.ParenClose ∷ []))) named.there (took_both
    opening.took (took_both args.took closing.took)) in
    let count = length list.0 in
    let late = flaw_at (head_named i.tasks f) (length i.ahead) count in
    let flaw : first_flaw close.1.flaw (flaw_at (head_named close.1.tasks f) read.0.1 count) ≡ first_flaw i.flaw late =
    ap (λ fl. first_flaw fl (flaw_at (head_named close.1.tasks f) read.0.1 count)) (ap (λ p. p.1) kept)
    ∙ ap (λ ts. first_flaw i.flaw (flaw_at (head_named ts f) read.0.1 count)) mid.tasks
    ∙ ap (λ n. first_flaw i.flaw (flaw_at (head_named i.tasks f) n count)) named.count in
    let taken : Took i (record close.1 { flaw = first_flaw i.flaw late }) ((toks.Name f, forks count) ∷ inner) =
    took_both (took_fork i f named.rest count named.ahead (first_flaw i.flaw late) refl) (took_from mid (ap (λ p. p.1)
    kept) late) in
    landed (λ b l. Kept i l (λ notes. IsAsk (names_of i.tasks) i.vars room (key k.Fork ∷ notes) b))
    (tree.fork (number_of (names_of close.1.tasks) f) list.0) a
    (record close.1 { flaw = first_flaw close.1.flaw (flaw_at (head_named close.1.tasks f) read.0.1 count) }) j close.3
    (subst (λ fl. Kept i (record close.1 { flaw = fl }) (λ notes. IsAsk (names_of i.tasks) i.vars room (key k.Fork
    ∷ notes) (tree.fork (number_of (names_of close.1.tasks) f) list.0)))
    (sym flaw)
    (record {
      notes = (toks.Name f, forks count) ∷ inner;
      took = taken;
      vars = ap (λ p. p.0) kept;
      right = subst (λ n. IsAsk (names_of i.tasks) i.vars room (key k.Fork ∷ ((toks.Name f, forks count) ∷ inner))
          (tree.fork n list.0))
          (sym (ap (λ ts. number_of (names_of ts) f) mid.tasks))
          (g.fork f (subst (λ v. IsArguments v room args.notes list.0) (ap (λ p. p.0) at_open) args.right));
    }))

-- a get or a join by its keyword
asked_by : (room : ℕ) (word : Key) (wrap : RefOf → Option Expression → Ask) (i j : Input) (a : Ask) (rest : List Tok)
    → i.ahead ≡ toks.Key word ∷ rest → is_task (toks.Key word) ≡ false
    → ((p q : List Noted) (r : RefOf) (o : Option Expression) → IsReference i.vars p r → IsOr i.vars room q o
    → IsAsk (names_of i.tasks) i.vars room (key word ∷ (p ++ q)) (wrap r o))
    → and_then (asked room (next i)) (λ r l. Ok (wrap r.0 r.1, l)) ≡ Ok (a, j)
    → Kept i j (λ notes. IsAsk (names_of i.tasks) i.vars room notes a)
asked_by room word wrap i j a rest e calm make h =
    let read = bind_ok (asked room (next i)) _ a j h in
    let got = asked_sound room (next i) read.1 read.0 read.2 in
    landed (λ b l. Kept i l (λ notes. IsAsk (names_of i.tasks) i.vars room notes b)) (wrap read.0.0 read.0.1)
    a read.1 j read.3
    (record {
      notes = key word ∷ (got.one ++ got.two);
      took = took_both (took_fine i (toks.Key word) rest e calm) got.took;
      vars = ap (λ p. p.0) got.kept;
      right = make got.one got.two read.0.0 read.0.1 got.is_reference got.is_other;
    })

ask_by_sound : (room : ℕ) (ts : List Tok) (i j : Input) (a : Ask) → i.ahead ≡ ts → ask_by room (first ts)
    i ≡ Ok (a, j)
    → Kept i j (λ notes. IsAsk (names_of i.tasks) i.vars room notes a)
ask_by_sound room (toks.Key k.New ∷ rest) i j a e h =
    landed (λ b l. Kept i l (λ notes. IsAsk (names_of i.tasks) i.vars room notes b)) tree.new a (next i) j h
    (record { notes = key k.New ∷ []; took = took_fine i (toks.Key k.New) rest e refl; vars = refl; right = g.new })
ask_by_sound room (toks.Key k.Fork ∷ rest) i j a e h =
    let got = fork_sound room (next i) j a h in
    record {
      notes = key k.Fork ∷ got.notes;
      took = took_both (took_fine i (toks.Key k.Fork) rest e refl) got.took;
      vars = got.vars;
      right = got.right;
    }
ask_by_sound room (toks.Key k.Get ∷ rest) i j a e h =
    asked_by room k.Get tree.get i j a rest e refl (λ p q r o is more. g.get is more) h
ask_by_sound room (toks.Key k.Join ∷ rest) i j a e h =
    asked_by room k.Join tree.join i j a rest e refl (λ p q r o is more. g.join is more) h
ask_by_sound room ts i j a e h = absurd (cc)

pub ask_sound : (room : ℕ) (i j : Input) (a : Ask) → ask room i ≡ Ok (a, j)
    → Kept i j (λ notes. IsAsk (names_of i.tasks) i.vars room notes a)
unfolding ask
ask_sound room i j a h = ask_by_sound room i.ahead i j a refl h

answer_sound : (room : ℕ) (i j : Input) (a : Given) → and_then (ask room i) (λ x l. Ok (tree.answer x, l)) ≡ Ok
    (a, j)
    → Kept i j (λ notes. IsGiven (names_of i.tasks) i.vars room notes a)
answer_sound room i j a h =
    let read = bind_ok (ask room i) _ a j h in
    let got = ask_sound room i read.1 read.0 read.2 in
    landed (λ b l. Kept i l (λ notes. IsGiven (names_of i.tasks) i.vars room notes b)) (tree.answer read.0) a read.1 j
    read.3
    (record { notes = got.notes; took = got.took; vars = got.vars; right = g.answer got.right })

result_sound : (room : ℕ) (i j : Input) (a : Given) → and_then (expression room i) (λ x l. Ok (tree.result_of x, l)) ≡
    Ok (a, j)
    → Kept i j (λ notes. IsGiven (names_of i.tasks) i.vars room notes a)
result_sound room i j a h =
    let read = bind_ok (expression room i) _ a j h in
    let got = expressions_sound room i read.1 read.0 read.2 in
    landed (λ b l. Kept i l (λ notes. IsGiven (names_of i.tasks) i.vars room notes b)) (tree.result_of read.0) a
    read.1 j read.3
    (record { notes = got.notes; took = got.took; vars = ap (λ p. p.0) got.kept; right = g.result_of got.right })

given_by_sound : (room : ℕ) (ts : List Tok) (i j : Input) (a : Given) → i.ahead ≡ ts → given_by room (first ts) i ≡ Ok
    (a, j)
    → Kept i j (λ notes. IsGiven (names_of i.tasks) i.vars room notes a)
given_by_sound room (toks.Key k.New ∷ rest) i j a e h = answer_sound room i j a h
given_by_sound room (toks.Key k.Fork ∷ rest) i j a e h = answer_sound room i j a h
given_by_sound room (toks.Key k.Get ∷ rest) i j a e h = answer_sound room i j a h
given_by_sound room (toks.Key k.Join ∷ rest) i j a e h = answer_sound room i j a h
given_by_sound room ts i j a e h = result_sound room i j a h

pub given_sound : (room : ℕ) (i j : Input) (a : Given) → given room i ≡ Ok (a, j)
    → Kept i j (λ notes. IsGiven (names_of i.tasks) i.vars room notes a)
unfolding given
given_sound room i j a h = given_by_sound room i.ahead i j a refl h
