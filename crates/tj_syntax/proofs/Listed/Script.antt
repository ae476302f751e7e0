-- A whole script is listed as a script again.
use Rattle.std.proofs.Common.{◌≡◌, List, [], ◌∷◌, ◌++◌, length, take, refl, ap, sym, ◌∙◌, subst, append_assoc}
use Rattle.std.specs.Prelude.{flat_map}
use Rattle.std.specs.List.{AllByRecursion}
use Rattle.std.proofs.lemmas.List.{append-nil, take_at}
use Rattle.tj_lex.specs.declared.token.Tok.{Tok}
use Rattle.tj_lex.specs.declared.token.Tok.TheVariants as toks
use Rattle.tj_lex.specs.declared.token.Key.TheVariants as k
use Rattle.tj_lex.specs.declared.token.Mark.TheVariants as m
use Rattle.tj_syntax.specs.Trees.{Statements, Task}
use Rattle.tj_syntax.specs.Marks.{Name, Noted, declares, key, mark, most_tasks, most_levels, declaration}
use Rattle.tj_syntax.specs.Grammar.{IsBlock, IsMoreParams, params_end, params_more, IsParams, no_params, params}
use Rattle.tj_syntax.specs.Grammar.{IsTask, task, IsTasks, tasks_end, tasks_more}
use Rattle.tj_syntax.specs.Faults.{tokens_of, AreUnbroken, AreForksRight, IsScript}
use Rattle.tj_syntax.specs.Listing as listing
use Rattle.tj_syntax.specs.Listing.{Part, token, names_of, CanStand}
use Rattle.tj_syntax.proofs.Listed.Again.{AllStand, IsFine, AreFine, toks_of, Again, fine-split, fine_mark, fine_key}
use Rattle.tj_syntax.proofs.Listed.Again.{both, front, spaced, lined, none}
use Rattle.tj_syntax.proofs.Listed.Fits.{IsFront}
use Rattle.tj_syntax.proofs.Listed.Stmt.{braces_again}

-- the names behind the first ones, and their tokens
record MoreParams (earlier all : List Name) (a : List Noted) : Type 0 where
  more : List Name
  whole : all ≡ earlier ++ more
  spells : tokens_of a ≡ toks_of (listing.more_params more)

more_params : (earlier : List Name) (a : List Noted) (all : List Name) → IsMoreParams earlier a all
    → MoreParams earlier all a
more_params earlier _ _ params_end = record { more = []; whole = sym (append-nil earlier); spells = refl }
more_params earlier _ all (params_more {a = a} x p) =
    let rest = more_params (earlier ++ x ∷ []) a all p in
    record {
      more = x ∷ rest.more;
      whole = rest.whole ∙ append_assoc earlier (x ∷ []) rest.more;
      spells = ap (λ ts. toks.Mark m.Comma ∷ toks.Name x ∷ ts) rest.spells;
    }

params_tokens : (a : List Noted) (all : List Name) → IsParams a all → tokens_of a ≡ toks_of (listing.params all)
params_tokens _ _ no_params = refl
params_tokens _ all (params {a = a} x p) =
    let rest = more_params (x ∷ []) a all p in
    rw rest.whole (ap (λ ts. toks.Name x ∷ ts) rest.spells)

-- a task's parameters are the first of its names
first_params : (some vars : List Name) → IsFront some vars → take (length some) vars ≡ some
first_params some vars f = subst (λ all. take (length some) all ≡ some) f.whole (take_at some f.rest (length some) refl)

task_parts : {script : List Task} {earlier some vars : List Name} {body : Statements} (f : Name)
    → IsFine script (toks.Name f, declaration most_tasks earlier f (declares (length some)))
    → Again script (λ a. IsParams a some) (listing.params some)
    → Again script (λ b. IsBlock (names_of script) most_levels some b body vars)
    (listing.block (names_of script) vars [] body)
    → take (length some) vars ≡ some
    → Again script (λ c. IsTask (names_of script) earlier c
    (record { name = f; params = length some; vars = vars; body = body }))
    (listing.task (names_of script) (record { name = f; params = length some; vars = vars; body = body }))
task_parts {script} {earlier} {some} {vars} {body} f ok p q e =
    let noted : Noted = (toks.Name f, declaration most_tasks earlier f (declares (length some))) in
    let block : Again script (λ b. IsBlock (names_of script) most_levels some b body vars)
    (listing.block (names_of script) vars [] body ++ listing.line_end ∷ []) =
    both {Q = λ n. n ≡ []} (λ b n is nil. rw (nil, append-nil b) is) q
    (lined (none refl)) in
    let closed = front {R = λ d. (b : List Noted) × (d ≡ mark m.ParenClose ∷ b)
    × IsBlock (names_of script) most_levels some b body vars}
    (mark m.ParenClose) (fine_mark script m.ParenClose) (λ b is. (b, refl, is)) (spaced block) in
    let heads = both {R = λ d. (a : List Noted) × (b : List Noted) × (d ≡ a ++ mark m.ParenClose ∷ b) × IsParams a some
    × IsBlock (names_of script) most_levels some b body vars}
    (λ a d is are. (a, are.0, ap (λ n. a ++ n) are.1, is, are.2)) p closed in
    let open_ = front {R = λ d. (a : List Noted) × (b : List Noted)
    × (d ≡ mark m.ParenOpen ∷ (a ++ mark m.ParenClose ∷ b)) × IsParams a some
    × IsBlock (names_of script) most_levels some b body vars}
    (mark m.ParenOpen) (fine_mark script m.ParenOpen)
    (λ d is. (is.0, is.1, ap (λ n. mark m.ParenOpen ∷ n) is.2, is.3, is.4)) heads in
    let named = front {R = λ d. (a : List Noted) × (b : List Noted)
    × (d ≡ noted ∷ mark m.ParenOpen ∷ (a ++ mark m.ParenClose ∷ b)) × IsParams a some
    × IsBlock (names_of script) most_levels some b body vars}
    noted ok (λ d is. (is.0, is.1, ap (λ n. noted ∷ n) is.2, is.3, is.4)) open_ in
    rw e (front (key k.Task) (fine_key script k.Task) (λ d is. rw is.2 (task f is.3 is.4)) (spaced named))

all_stand : (script : List Task) (notes : List Noted) → AreFine script notes → AllByRecursion CanStand (tokens_of notes)
all_stand script [] h = tt
all_stand script (n ∷ notes) h = (h.0.stands, all_stand script notes h.1)

more_params_stand : (xs : List Name) → AllByRecursion CanStand (toks_of (listing.more_params xs))
    → AllStand (listing.more_params xs)
more_params_stand [] h = tt
more_params_stand (x ∷ xs) h = (tt, ((refl, tt), (h.1.0, more_params_stand xs h.1.1)))

params_stand : (xs : List Name) → AllByRecursion CanStand (toks_of (listing.params xs)) → AllStand (listing.params xs)
params_stand [] h = tt
params_stand (x ∷ xs) h = (h.0, more_params_stand xs h.1)

task_again : (script : List Task) (earlier : List Name) (a : List Noted) (t : Task)
    → IsTask (names_of script) earlier a t → AreFine script a
    → Again script (λ b. IsTask (names_of script) earlier b t) (listing.task (names_of script) t)
task_again script earlier _ _ (task {a = a} {b = b} {params = some} {vars = vars} {body = body} f p q) h =
    let hs = fine-split script a (mark m.ParenClose ∷ b) h.1.1.1 in
    let block = braces_again script (names_of script) refl vars most_levels some b body vars q
    (record { rest = []; whole = append-nil vars }) hs.1.1 in
    task_parts f h.1.0 (record {
      notes = a;
      right = p;
      spells = params_tokens a some p;
      all_fine = hs.0;
      stand = params_stand some (subst (AllByRecursion CanStand) (params_tokens a some p) (all_stand script a hs.0));
    })
    (block.again [] tt) (first_params some vars block.before_it)

tasks_again : (script : List Task) (earlier : List Name) (a : List Noted) (ts : List Task)
    → IsTasks (names_of script) earlier a ts → AreFine script a
    → Again script (λ b. IsTasks (names_of script) earlier b ts) (flat_map (listing.task (names_of script)) ts)
tasks_again script earlier _ _ tasks_end h = none tasks_end
tasks_again script earlier _ _ (tasks_more {a = a} {b = b} {t = t} {rest = rest} p ps) h =
    let hs = fine-split script a b h in
    both (λ a b is are. tasks_more is are) (task_again script earlier a t p hs.0)
    (tasks_again script (earlier ++ t.name ∷ []) b rest ps hs.1)

all_fine : (script : List Task) (notes : List Noted) → AreUnbroken notes → AreForksRight script notes
    → AllByRecursion CanStand (tokens_of notes) → AreFine script notes
all_fine script [] u f s = tt
all_fine script (n ∷ notes) u f s =
    (record { unbroken = u.0; fork = f.0; stands = s.0 }, all_fine script notes u.1 f.1 s.1)

pub unbroken : (script : List Task) (notes : List Noted) → AreFine script notes → AreUnbroken notes
unbroken script [] h = tt
unbroken script (n ∷ notes) h = (h.0.unbroken, unbroken script notes h.1)

pub forks_right : (script : List Task) (notes : List Noted) → AreFine script notes → AreForksRight script notes
forks_right script [] h = tt
forks_right script (n ∷ notes) h = (h.0.fork, forks_right script notes h.1)

front_stands : (a b : List Tok) → AllByRecursion CanStand (a ++ b) → AllByRecursion CanStand a
front_stands [] b h = tt
front_stands (t ∷ a) b h = (h.0, front_stands a b h.1)

-- the tokens of the listing are the script, and a text can have each of them
pub record ListedAgain (script : List Task) : Type 0 where
  pub is : IsScript (toks_of (listing.script script) ++ toks.End ∷ []) script
  pub stand : AllStand (listing.script script)

pub script_again : (tokens : List Tok) (script : List Task) → AllByRecursion CanStand tokens → IsScript tokens script
    → ListedAgain script
script_again tokens script stand h =
    let stands = front_stands (tokens_of h.notes) (toks.End ∷ []) (subst (AllByRecursion CanStand) h.spells stand) in
    let again = tasks_again script [] h.notes script h.derived
    (all_fine script h.notes h.unbroken h.forks_right stands) in
    record {
      is = record {
        notes = again.notes;
        derived = again.right;
        spells = ap (λ ts. ts ++ toks.End ∷ []) (sym again.spells);
        unbroken = unbroken script again.notes again.all_fine;
        forks_right = forks_right script again.notes again.all_fine;
        main = h.main;
        has_main = h.has_main;
        no_params = h.no_params;
      };
      stand = again.stand;
    }
