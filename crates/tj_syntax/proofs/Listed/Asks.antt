-- Asks and what variables are given are listed as parts of a script again.
use Rattle.std.proofs.Common.{◌≡◌, ℕ, true, List, [], ◌∷◌, ◌++◌, length, Option, Some, None, refl, ap, sym, subst}
use Rattle.std.proofs.Common.{arith, get_or}
use Rattle.std.specs.Prelude.{is_some}
use Rattle.std.proofs.lemmas.List.{append-nil}
use Rattle.tj_lex.specs.declared.token.Tok.TheVariants as toks
use Rattle.tj_lex.specs.declared.token.Key.TheVariants as k
use Rattle.tj_lex.specs.declared.token.Mark.TheVariants as m
use Rattle.tj_syntax.specs.declared.expr.RefOf.{RefOf}
use Rattle.tj_syntax.specs.Trees.{Expression, Argument, Ask, Given, Task}
use Rattle.tj_syntax.specs.Marks.{Name, Noted, forks, key, mark, index_of, is_among, number_of, use_of}
use Rattle.tj_syntax.specs.Grammar.{IsExpression, IsArgument, own, value, IsMoreArguments, arguments_end}
use Rattle.tj_syntax.specs.Grammar.{arguments_more, IsArguments, no_arguments, arguments, IsReference, reference_name}
use Rattle.tj_syntax.specs.Grammar.{reference_me, IsOr, no_or, or_else, IsAsk, new, fork, get, join, IsGiven}
use Rattle.tj_syntax.specs.Grammar.{answer, result_of}
use Rattle.tj_syntax.specs.Faults.{fork_of, task_at}
use Rattle.tj_syntax.specs.Listing as listing
use Rattle.tj_syntax.specs.Listing.{Part, token, blanks, level, names_of}
use Rattle.tj_syntax.proofs.Listed.Names.{number-name}
use Rattle.tj_syntax.proofs.Listed.Again.{IsFine, AreFine, Again, fine-split, fine_mark, fine_key, both, front, only}
use Rattle.tj_syntax.proofs.Listed.Again.{back, also, spaced, none}
use Rattle.tj_syntax.proofs.Listed.Expr.{lift}
use Rattle.tj_syntax.proofs.Listed.Fits.{IsFront, known_name, expression_fits}

pub expression_again : (script : List Task) (names vars : List Name) (f : IsFront vars names) (room : ℕ)
    (a : List Noted) (x : Expression)
    → IsExpression vars room a x → AreFine script a
    → Again script (λ b. IsExpression vars room b x) (listing.expression names x)
expression_again script names vars f room a x e h =
    let fits = expression_fits script names vars f room a x e h in
    also (λ b is. lift vars room b x 0 (level x) (omega arith) (omega arith) is)
    (fits.lists room (omega (arith, fits.below)))

argument_again : (script : List Task) (names vars : List Name) (f : IsFront vars names) (room : ℕ) (a : List Noted)
    (x : Argument)
    → IsArgument vars room a x → AreFine script a
    → Again script (λ b. IsArgument vars room b x) (listing.argument names x)
argument_again script names vars f room _ _ (own x) h =
    rw (known_name x f h.1.0)
    (front {P = λ c. c ≡ (toks.Name x, use_of vars x) ∷ []} (key k.Own) (fine_key script k.Own) (λ c e. rw e (own x))
    (spaced (only (toks.Name x, use_of vars x) h.1.0 refl)))
argument_again script names vars f room _ _ (value {a = a} {x = x} e) h =
    also (λ b is. value is) (expression_again script names vars f room a x e h)

more_again : (script : List Task) (names vars : List Name) (f : IsFront vars names) (room : ℕ) (a : List Noted)
    (xs : List Argument)
    → IsMoreArguments vars room a xs → AreFine script a
    → Again script (λ b. IsMoreArguments vars room b xs) (listing.more_arguments names xs)
more_again script names vars f room _ _ arguments_end h = none arguments_end
more_again script names vars f room _ _ (arguments_more {a = a} {b = b} {x = x} {xs = xs} p ps) h =
    let hs = fine-split script a b h.1 in
    front {P = λ c. (a : List Noted) × (b : List Noted) × (c ≡ a ++ b) × IsArgument vars room a x
    × IsMoreArguments vars room b xs}
    (mark m.Comma) (fine_mark script m.Comma) (λ c is. rw is.2 (arguments_more is.3 is.4))
    (spaced (both (λ a b is are. (a, b, refl, is, are))
    (argument_again script names vars f room a x p hs.0) (more_again script names vars f room b xs ps hs.1)))

arguments_again : (script : List Task) (names vars : List Name) (f : IsFront vars names) (room : ℕ) (a : List Noted)
    (xs : List Argument)
    → IsArguments vars room a xs → AreFine script a
    → Again script (λ b. IsArguments vars room b xs) (listing.arguments names xs)
arguments_again script names vars f room _ _ no_arguments h = none no_arguments
arguments_again script names vars f room _ _ (arguments {a = a} {b = b} {x = x} {xs = xs} p ps) h =
    let hs = fine-split script a b h in
    both (λ a b is are. arguments is are)
    (argument_again script names vars f room a x p hs.0) (more_again script names vars f room b xs ps hs.1)

reference_again : (script : List Task) (names vars : List Name) (f : IsFront vars names) (a : List Noted) (r : RefOf)
    → IsReference vars a r → AreFine script a
    → Again script (λ b. IsReference vars b r) (listing.reference names r ∷ [])
reference_again script names vars f _ _ (reference_name x) h =
    rw (known_name x f h.0) (only (toks.Name x, use_of vars x) h.0 (reference_name x))
reference_again script names vars f _ _ reference_me h = only (key k.Me) (fine_key script k.Me) reference_me

or_again : (script : List Task) (names vars : List Name) (f : IsFront vars names) (room : ℕ) (a : List Noted)
    (other : Option Expression)
    → IsOr vars room a other → AreFine script a
    → Again script (λ b. IsOr vars room b other) (listing.or_else_parts names other)
or_again script names vars f room _ _ no_or h = none no_or
or_again script names vars f room _ _ (or_else {a = a} {x = x} e) h =
    spaced (front (key k.Or) (fine_key script k.Or) (λ b is. or_else is)
    (spaced (expression_again script names vars f room a x e h.1)))

-- a fork that is right is of a task that there is
no_fork_of_none : (script : List Task) (count : ℕ) (o : Option ℕ) → fork_of (task_at script o) count ≡ None
    → is_some o ≡ true
no_fork_of_none script count None h = absurd (cc)
no_fork_of_none script count (Some n) h = refl

task_name : (script : List Task) (tasks : List Name) → tasks ≡ names_of script → (g : Name) (count : ℕ)
    → IsFine script (toks.Name g, forks count)
    → get_or tasks (number_of tasks g) [] ≡ g
task_name script tasks same g count h =
    let known : is_among (names_of script) g ≡ true =
    no_fork_of_none script count (index_of (names_of script) g) h.fork in
    subst (λ all. get_or all (number_of all g) [] ≡ g) (sym same)
    (subst (λ all. get_or all (number_of (names_of script) g) [] ≡ g) (append-nil (names_of script))
    (number-name (names_of script) [] g known))

pub ask_again : (script : List Task) (tasks : List Name) (same : tasks ≡ names_of script)
    (names vars : List Name) (f : IsFront vars names) (room : ℕ) (a : List Noted) (ask : Ask)
    → IsAsk tasks vars room a ask → AreFine script a
    → Again script (λ b. IsAsk tasks vars room b ask) (listing.ask tasks names ask)
ask_again script tasks same names vars f room _ _ new h = only (key k.New) (fine_key script k.New) new
ask_again script tasks same names vars f room _ _ (fork {a = a} {args = args} g ps) h =
    let hs = fine-split script a (mark m.ParenClose ∷ []) h.1.1.1 in
    let tail = back {R = λ c. (b : List Noted) × (c ≡ b ++ mark m.ParenClose ∷ []) × IsArguments vars room b args}
    (mark m.ParenClose) (fine_mark script m.ParenClose) (λ b is. (b, refl, is))
    (arguments_again script names vars f room a args ps hs.0) in
    let open_ = front {R = λ c. (b : List Noted) × (c ≡ mark m.ParenOpen ∷ (b ++ mark m.ParenClose ∷ []))
    × IsArguments vars room b args}
    (mark m.ParenOpen) (fine_mark script m.ParenOpen)
    (λ c is. (is.0, ap (λ e. mark m.ParenOpen ∷ e) is.1, is.2)) tail in
    let named = front {R = λ c. (b : List Noted)
    × (c ≡ (toks.Name g, forks (length args)) ∷ mark m.ParenOpen ∷ (b ++ mark m.ParenClose ∷ []))
    × IsArguments vars room b args}
    (toks.Name g, forks (length args)) h.1.0 (λ c is.
    (is.0, ap (λ e. (toks.Name g, forks (length args)) ∷ e) is.1, is.2)) open_ in
    rw (task_name script tasks same g (length args) h.1.0)
    (front (key k.Fork) (fine_key script k.Fork) (λ c is. rw is.1 (fork g is.2)) (spaced named))
ask_again script tasks same names vars f room _ _ (get {a = a} {b = b} {r = r} {other = other} p q) h =
    let hs = fine-split script a b h.1 in
    front {P = λ c. (a : List Noted) × (b : List Noted) × (c ≡ a ++ b) × IsReference vars a r × IsOr vars room b other}
    (key k.Get) (fine_key script k.Get) (λ c is. rw is.2 (get is.3 is.4))
    (spaced (both {a = listing.reference names r ∷ []} (λ a b is are. (a, b, refl, is, are))
    (reference_again script names vars f a r p hs.0) (or_again script names vars f room b other q hs.1)))
ask_again script tasks same names vars f room _ _ (join {a = a} {b = b} {r = r} {other = other} p q) h =
    let hs = fine-split script a b h.1 in
    front {P = λ c. (a : List Noted) × (b : List Noted) × (c ≡ a ++ b) × IsReference vars a r × IsOr vars room b other}
    (key k.Join) (fine_key script k.Join) (λ c is. rw is.2 (join is.3 is.4))
    (spaced (both {a = listing.reference names r ∷ []} (λ a b is are. (a, b, refl, is, are))
    (reference_again script names vars f a r p hs.0) (or_again script names vars f room b other q hs.1)))

pub given_again : (script : List Task) (tasks : List Name) (same : tasks ≡ names_of script) (names vars : List Name)
    (f : IsFront vars names) (room : ℕ) (a : List Noted) (side : Given)
    → IsGiven tasks vars room a side → AreFine script a
    → Again script (λ b. IsGiven tasks vars room b side) (listing.given tasks names side)
given_again script tasks same names vars f room _ _ (answer {a = a} {ask = ask} p) h =
    also (λ b is. answer is) (ask_again script tasks same names vars f room a ask p h)
given_again script tasks same names vars f room _ _ (result_of {a = a} {x = x} e) h =
    also (λ b is. result_of is) (expression_again script names vars f room a x e h)
