-- Where the reading of an ask stops, it is the beginning of one.
use Rattle.std.proofs.Common.{◌≡◌, ℕ, zero, suc, false, cond, List, [], ◌∷◌, ◌++◌, length, Option, Some, None, Ok, Err}
use Rattle.std.proofs.Common.{refl, ap, sym, ◌∙◌, subst, drop, append_assoc, ⊎_elim}
use Rattle.std.proofs.lemmas.List.{append-nil}
use Rattle.tj_lex.specs.declared.token.Tok.{Tok}
use Rattle.tj_lex.specs.declared.token.Tok.TheVariants as toks
use Rattle.tj_lex.specs.declared.token.Key.{Key}
use Rattle.tj_lex.specs.declared.token.Key.TheVariants as k
use Rattle.tj_lex.specs.declared.token.Mark.TheVariants as m
use Rattle.tj_syntax.specs.declared.fault.Stop.{Stop}
use Rattle.tj_syntax.specs.declared.fault.Stop.TheVariants as stop
use Rattle.tj_syntax.specs.declared.expr.RefOf.{RefOf}
use Rattle.tj_syntax.specs.declared.expr.RefOf.TheVariants as ref
use Rattle.tj_syntax.specs.Trees as tree
use Rattle.tj_syntax.specs.Trees.{Expression, Argument, Ask, Given}
use Rattle.tj_syntax.specs.Marks.{Name, Noted, forks, key, mark, number_of, use_of}
use Rattle.tj_syntax.specs.Grammar as g
use Rattle.tj_syntax.specs.Grammar.{IsArgument, IsMoreArguments, IsArguments, IsReference, IsOr, IsAsk, IsGiven}
use Rattle.tj_syntax.specs.Inner.Input.{Input, Outcome, and_then, first, next, refuse, sees, expect, eat, known}
use Rattle.tj_syntax.specs.Inner.Input.{variable, names_of, note_fork}
use Rattle.tj_syntax.specs.Inner.Reading.{expression, separated_from, separated, argument_by, argument, reference_by}
use Rattle.tj_syntax.specs.Inner.Reading.{reference, or_else_by, or_else, forked_by, forked, fork, asked, ask_by, ask}
use Rattle.tj_syntax.specs.Inner.Reading.{given_by, given}
use Rattle.tj_syntax.proofs.Taken.{is_task}
use Rattle.tj_syntax.proofs.Sound.Steps.{took_fine, expected, ate}
use Rattle.tj_syntax.proofs.Sound.AskParts.{argument_sound, arguments_sound, reference_by_sound}
use Rattle.tj_syntax.proofs.Sound.Ask.{GotFork, forked_by_sound}
use Rattle.tj_syntax.proofs.Stops.Steps.{Halts, Part, Halting, Past, past, past_nothing, past_both, split, if_err}
use Rattle.tj_syntax.proofs.Stops.Steps.{beyond, at_last, refused, refused_behind, err_inj, expect_stops, eat_reads}
use Rattle.tj_syntax.proofs.Stops.Steps.{known_halts, variable_halts}
use Rattle.tj_syntax.proofs.Stops.Expr.{AnExpression, just_me, is_me, expressions_halt, refuse_halts}

abbrev AnArgument : ℕ → Part
AnArgument room tasks vars notes = (x : Argument) × IsArgument vars room notes x

-- an argument with more behind it
record Several (room : ℕ) (vars : List Name) (notes : List Noted) : Type 0 where
  one : List Noted
  rest : List Noted
  x : Argument
  xs : List Argument
  is : notes ≡ one ++ rest
  is_first : IsArgument vars room one x
  are_more : IsMoreArguments vars room rest xs

abbrev SomeMore : ℕ → Part
SomeMore room tasks vars notes = Several room vars notes

abbrev SomeArguments : ℕ → Part
SomeArguments room tasks vars notes = (xs : List Argument) × IsArguments vars room notes xs

abbrev AReference : Part
AReference tasks vars notes = (r : RefOf) × IsReference vars notes r

abbrev AnOr : ℕ → Part
AnOr room tasks vars notes = (o : Option Expression) × IsOr vars room notes o

abbrev pub AnAsk : ℕ → Part
AnAsk room tasks vars notes = (r : Ask) × IsAsk tasks vars room notes r

abbrev pub AGiven : ℕ → Part
AGiven room tasks vars notes = (r : Given) × IsGiven tasks vars room notes r

-- ---- arguments

plain_argument : (room : ℕ) (i : Input) (s : Stop) → and_then (expression room i)
    (λ x l. Ok (tree.value x, l)) ≡ Err s → Halts i s (AnArgument room (names_of i.tasks) i.vars)
plain_argument room i s h =
    split (expression room i) _ s h
    (λ e. at_last (AnExpression room) (past_nothing i) refl (expressions_halt room i s e)
    (λ notes p. (tree.value p.0, g.value p.1)))
    (λ x j r e. absurd (cc))

argument_by_halts : (room : ℕ) (ts : List Tok) (i : Input) (s : Stop) → i.ahead ≡ ts
    → argument_by room (first ts) i ≡ Err s
    → Halts i s (AnArgument room (names_of i.tasks) i.vars)
argument_by_halts room (toks.Key k.Own ∷ rest) i s e h =
    split (variable (next i)) _ s h
    (λ e'. at_last (λ tasks vars notes. (x : Name) × (notes ≡ (toks.Name x, use_of vars x) ∷ []))
    (past (took_fine i (toks.Key k.Own) rest e refl)) refl
    (variable_halts (next i) s e' [] (λ x. (x, refl)))
    (λ notes p. (
      tree.own (number_of i.vars p.0),
      subst
          (λ ns. IsArgument i.vars room (key k.Own ∷ ns) (tree.own (number_of i.vars p.0))) (sym p.1) (g.own p.0),
    )))
    (λ x j r e'. absurd (cc))
argument_by_halts room ts i s e h = plain_argument room i s h

argument_halts : (room : ℕ) → Halting (AnArgument room) (argument room)
unfolding argument
argument_halts room i s h = argument_by_halts room i.ahead i s refl h

separated_halts : (room n : ℕ) (found : List Argument)
    → Halting (SomeMore room) (separated_from (argument room) n found)
unfolding separated_from
separated_halts room zero found i s h =
    refused (err_inj {A = List Argument} (stop.Expected (length i.ahead)) s h) just_me
    (record {
      one = just_me;
      rest = [];
      x = tree.value tree.me;
      xs = [];
      is = refl;
      is_first = g.value
          (is_me i.vars room);
      are_more = g.arguments_end;
    })
separated_halts room (suc n) found i s h =
    split (argument room i) _ s h
    (λ e. at_last (AnArgument room) (past_nothing i) refl (argument_halts room i s e)
    (λ notes p. record {
      one = notes;
      rest = [];
      x = p.0;
      xs = [];
      is = sym (append-nil notes);
      is_first = p.1;
      are_more = g.arguments_end;
    }))
    (λ x j r e.
    let one = argument_sound room i j x r in
    split (eat m.Comma j) _ s e
    (λ e'. absurd (eat_reads m.Comma j s e'))
    (λ more l r' e'.
    ⊎_elim
    (λ yes.
    let h' : separated_from (argument room) n (found ++ x ∷ []) l ≡ Err s =
    subst (λ b. cond b (separated_from (argument room) n (found ++ x ∷ [])) (λ l. Ok (found ++ x ∷ [], l)) l ≡ Err s)
    yes.0 e' in
    at_last (SomeMore room) (past_both (past one.took) (past yes.1.took)) (ap (λ p. p.0) (yes.1.kept ∙ one.kept))
    (separated_halts room n (found ++ x ∷ []) l s h')
    (λ notes p. record {
      one = one.notes;
      rest = mark m.Comma ∷ (p.one ++ p.rest);
      x = x;
      xs = p.x ∷ p.xs;
      is = append_assoc one.notes (mark m.Comma ∷ []) notes ∙ ap (λ ns. one.notes ++ mark m.Comma ∷ ns) p.is;
      is_first = one.right;
      are_more = g.arguments_more p.is_first p.are_more;
    }))
    (λ no.
    let h' : ◌≡◌ {A = Outcome (List Argument)} (Ok (found ++ x ∷ [], l)) (Err s) =
    subst (λ b. cond b (separated_from (argument room) n (found ++ x ∷ [])) (λ l. Ok (found ++ x ∷ [], l)) l ≡ Err s)
    no.0 e' in
    absurd (cc))
    (ate m.Comma j l more r')))

arguments_halt : (room : ℕ) → Halting (SomeArguments room) (separated (argument room))
unfolding separated
arguments_halt room i s h =
    ⊎_elim (λ p. let e = p.1 in absurd (cc))
    (λ p. at_last (SomeMore room) (past_nothing i) refl (separated_halts room (length i.ahead) [] i s p.1)
    (λ notes q. (
      q.x ∷ q.xs,
      subst
          (λ ns. IsArguments i.vars room ns (q.x ∷ q.xs)) (sym q.is) (g.arguments q.is_first q.are_more),
    )))
    (if_err (sees m.ParenClose i) (Ok ([], i)) (separated_from (argument room) (length i.ahead) [] i) s h)

-- ---- gets and joins

reference_by_halts : (ts : List Tok) (i : Input) (s : Stop) → i.ahead ≡ ts → reference_by (first ts) i ≡ Err s
    → Halts i s (AReference (names_of i.tasks) i.vars)
reference_by_halts (toks.Name x ∷ rest) i s e h =
    split (known x i) _ s h
    (λ e'. known_halts x i s rest e e' {P = AReference (names_of i.tasks) i.vars} [] (_, g.reference_name x))
    (λ n j r e'. absurd (cc))
reference_by_halts (toks.Key k.Me ∷ rest) i s e h = absurd (cc)
reference_by_halts ts i s e h = other i s h
  where
    other : Halting {A = RefOf} AReference refuse
    other = refuse_halts AReference (λ tasks vars. (just_me, (ref.Me, g.reference_me)))

or_else_by_halts : (room : ℕ) (ts : List Tok) (i : Input) (s : Stop) → i.ahead ≡ ts
    → or_else_by room (first ts) i ≡ Err s
    → Halts i s (AnOr room (names_of i.tasks) i.vars)
or_else_by_halts room (toks.Key k.Or ∷ rest) i s e h =
    split (expression room (next i)) _ s h
    (λ e'. at_last (AnExpression room) (past (took_fine i (toks.Key k.Or) rest e refl)) refl
    (expressions_halt room (next i) s e') (λ notes p. (Some p.0, g.or_else p.1)))
    (λ x j r e'. absurd (cc))
or_else_by_halts room ts i s e h = absurd (cc)

-- a reference, and what is computed where the cell is broken
record TwoParts (room : ℕ) (vars : List Name) (notes : List Noted) : Type 0 where
  one : List Noted
  two : List Noted
  r : RefOf
  other : Option Expression
  is : notes ≡ one ++ two
  is_reference : IsReference vars one r
  is_other : IsOr vars room two other

abbrev Asked : ℕ → Part
Asked room tasks vars notes = TwoParts room vars notes

asked_halts : (room : ℕ) → Halting (Asked room) (asked room)
unfolding asked reference or_else
asked_halts room i s h =
    split (reference i) _ s h
    (λ e. at_last AReference (past_nothing i) refl (reference_by_halts i.ahead i s refl e)
    (λ notes p. record {
      one = notes;
      two = [];
      r = p.0;
      other = None;
      is = sym (append-nil notes);
      is_reference =
          p.1;
      is_other = g.no_or;
    }))
    (λ r j found e.
    let one = reference_by_sound i.ahead i j r refl found in
    split (or_else room j) _ s e
    (λ e'. at_last (AnOr room) (past one.took) (ap (λ p. p.0) one.kept) (or_else_by_halts room j.ahead j s refl e')
    (λ notes p. record {
      one = one.notes;
      two = notes;
      r = r;
      other = p.0;
      is = refl;
      is_reference = one.right;
      is_other = p.1;
    }))
    (λ o l r' e'. absurd (cc)))

-- ---- asks

-- what stands behind the keyword of a fork
abbrev BehindFork : ℕ → Part
BehindFork room tasks vars notes = (r : Ask) × IsAsk tasks vars room (key k.Fork ∷ notes) r

some_fork : (room : ℕ) (tasks vars : List Name) (f : Name)
    → BehindFork room tasks vars ((toks.Name f, forks 0) ∷ mark m.ParenOpen ∷ mark m.ParenClose ∷ [])
some_fork room tasks vars f = (_, g.fork f g.no_arguments)

-- the name of a forked task is passed, whatever is noted of its arguments
past_fork : {i j : Input} {f : Name} {left : ℕ} (count : ℕ) → GotFork i j f left
    → Past i j ((toks.Name f, forks count) ∷ [])
past_fork {i} {j} {f} count got = record {
  ahead =
      let after : (next i).ahead ≡ got.rest = ap (λ ts. drop 1 ts) got.ahead in
      got.ahead ∙ ap (λ ts. toks.Name f ∷ ts) (sym after) ∙ ap (λ (l : Input). toks.Name f ∷ l.ahead) (sym got.there);
  unbroken = (λ b h. cc, tt);
  tasks = ap (λ (l : Input). l.tasks) got.there;
}

forked_by_stops : (ts : List Tok) (i : Input) (s : Stop) → i.ahead ≡ ts → forked_by (first ts) i ≡ Err s
    → s ≡ stop.Expected (length i.ahead)
forked_by_stops (toks.Name f ∷ rest) i s e h = absurd (cc)
forked_by_stops ts i s e h = err_inj {A = Name × ℕ} (stop.Expected (length i.ahead)) s h

fork_halts : (room : ℕ) → Halting (BehindFork room) (fork room)
unfolding fork forked note_fork
fork_halts room i s h =
    split (forked i) _ s h
    (λ e. refused (forked_by_stops i.ahead i s refl e) _ (some_fork room (names_of i.tasks) i.vars []))
    (λ f j r e.
    let named = forked_by_sound i.ahead i j f refl r in
    let vars : j.vars ≡ i.vars = ap (λ (l : Input). l.vars) named.there in
    split (expect m.ParenOpen j) _ s e
    (λ e'. refused_behind (past_fork 0 named) (expect_stops m.ParenOpen j s e')
    (mark m.ParenOpen ∷ mark m.ParenClose ∷ []) (some_fork room (names_of i.tasks) i.vars f.0))
    (λ u l r' e'.
    let opening = expected m.ParenOpen j l u r' in
    let same : l.vars ≡ i.vars = ap (λ p. p.0) opening.kept ∙ vars in
    let front : (count : ℕ) → Past i l ((toks.Name f.0, forks count) ∷ mark m.ParenOpen ∷ []) = λ count. past_both
    (past_fork count named) (past opening.took) in
    split (separated (argument room) l) _ s e'
    (λ e''. beyond (arguments_halt room l s e'')
    (λ notes p. (
      (toks.Name f.0, forks (length p.0)) ∷ mark m.ParenOpen ∷ [],
      mark m.ParenClose ∷ [],
      front (length p.0),
      (_, g.fork f.0 (subst (λ v. IsArguments v room notes p.0) same p.1)),
    )))
    (λ args n r'' e''.
    let got = arguments_sound room l n args r'' in
    split (expect m.ParenClose n) _ s e''
    (λ e₃. refused_behind (past_both (front (length args)) (past got.took)) (expect_stops m.ParenClose n s e₃)
    (mark m.ParenClose ∷ [])
    (_, g.fork f.0 (subst (λ v. IsArguments v room got.notes args) same got.right)))
    (λ v o r₃ e₃. absurd (cc)))))

-- a get or a join by its keyword
asked_by : (room : ℕ) (word : Key) (wrap : RefOf → Option Expression → Ask) (i : Input) (s : Stop) (rest : List Tok)
    → i.ahead ≡ toks.Key word ∷ rest → is_task (toks.Key word) ≡ false
    → ((p q : List Noted) (r : RefOf) (o : Option Expression) → IsReference i.vars p r → IsOr i.vars room q o
    → IsAsk (names_of i.tasks) i.vars room (key word ∷ (p ++ q)) (wrap r o))
    → and_then (asked room (next i)) (λ r l. Ok (wrap r.0 r.1, l)) ≡ Err s
    → Halts i s (AnAsk room (names_of i.tasks) i.vars)
asked_by room word wrap i s rest e calm make h =
    split (asked room (next i)) _ s h
    (λ e'. at_last (Asked room) (past (took_fine i (toks.Key word) rest e calm)) refl (asked_halts room (next i) s e')
    (λ notes p. (
      wrap p.r p.other,
      subst (λ ns. IsAsk (names_of i.tasks) i.vars room (key word ∷ ns) (wrap p.r p.other)) (sym p.is)
          (make p.one p.two p.r p.other p.is_reference p.is_other),
    )))
    (λ a j r e'. absurd (cc))

ask_by_halts : (room : ℕ) (ts : List Tok) (i : Input) (s : Stop) → i.ahead ≡ ts
    → ask_by room (first ts) i ≡ Err s
    → Halts i s (AnAsk room (names_of i.tasks) i.vars)
ask_by_halts room (toks.Key k.New ∷ rest) i s e h = absurd (cc)
ask_by_halts room (toks.Key k.Fork ∷ rest) i s e h =
    at_last (BehindFork room) (past (took_fine i (toks.Key k.Fork) rest e refl)) refl (fork_halts room (next i) s h)
    (λ notes p. p)
ask_by_halts room (toks.Key k.Get ∷ rest) i s e h =
    asked_by room k.Get tree.get i s rest e refl (λ p q r o is more. g.get is more) h
ask_by_halts room (toks.Key k.Join ∷ rest) i s e h =
    asked_by room k.Join tree.join i s rest e refl (λ p q r o is more. g.join is more) h
ask_by_halts room ts i s e h = other i s h
  where
    other : Halting {A = Ask} (AnAsk room) refuse
    other = refuse_halts (AnAsk room) (λ tasks vars. (key k.New ∷ [], (tree.new, g.new)))

pub ask_halts : (room : ℕ) → Halting (AnAsk room) (ask room)
unfolding ask
ask_halts room i s h = ask_by_halts room i.ahead i s refl h

answer_halts : (room : ℕ) (i : Input) (s : Stop) → and_then (ask room i) (λ x l. Ok (tree.answer x, l)) ≡ Err s
    → Halts i s (AGiven room (names_of i.tasks) i.vars)
answer_halts room i s h =
    split (ask room i) _ s h
    (λ e. at_last (AnAsk room) (past_nothing i) refl (ask_halts room i s e)
    (λ notes p. (tree.answer p.0, g.answer p.1)))
    (λ x j r e. absurd (cc))

given_by_halts : (room : ℕ) (ts : List Tok) (i : Input) (s : Stop) → i.ahead ≡ ts → given_by room (first ts) i ≡ Err s
    → Halts i s (AGiven room (names_of i.tasks) i.vars)
given_by_halts room (toks.Key k.New ∷ rest) i s e h = answer_halts room i s h
given_by_halts room (toks.Key k.Fork ∷ rest) i s e h = answer_halts room i s h
given_by_halts room (toks.Key k.Get ∷ rest) i s e h = answer_halts room i s h
given_by_halts room (toks.Key k.Join ∷ rest) i s e h = answer_halts room i s h
given_by_halts room ts i s e h =
    split (expression room i) _ s h
    (λ e'. at_last (AnExpression room) (past_nothing i) refl (expressions_halt room i s e')
    (λ notes p. (tree.result_of p.0, g.result_of p.1)))
    (λ x j r e'. absurd (cc))

pub given_halts : (room : ℕ) → Halting (AGiven room) (given room)
unfolding given
given_halts room i s h = given_by_halts room i.ahead i s refl h
