-- Which faults a run has, by those of its parts.
use Rattle.std.proofs.Common.{◌≡◌, ◌≢◌, ℕ, Bool, List, [], Result, Ok, Err, IfErr, IfOk, inr, refl, sym, subst, ◌∙◌}
use Rattle.tj_body.specs.Programs.{Program}
use Rattle.std.proofs.Common.{Option}
use Rattle.tj_base.specs.ForkOrder.{Name}
use Rattle.tj_embed.specs.ScriptRuns.{script_program}
use Rattle.tj_embed.specs.declared.options.Options.{Options}
use Rattle.tj_eval.specs.Bodies.{IsMainBody}
use Rattle.tj_eval.specs.Statements.{TaskState}
use Rattle.tj_log.specs.Shown.{SeatShown}
use Rattle.tj_syntax.specs.Trees.{Task}
use Rattle.tj_words.specs.AtRest.EndedRuns.{EndsRun, RestEndsRun}
use Rattle.tj_words.specs.AtRest.RestShown.{RestShown}
use Rattle.tj_words.specs.declared.closed.RestCell.{RestCell}
use Rattle.tj_record.specs.declared.record.Rec.{Rec}
use Rattle.tj_words.specs.declared.view.View.{View}
use Rattle.tj_told.specs.EndedNews.{IsEarly, IsEarlyOfScript}
use Rattle.tj_told.specs.Hearing.{Hears, IsHeardUntil, IsStoppedBy}
use Rattle.tj_told.specs.declared.fault.ToldFault.{ToldFault}
use Rattle.tj_told.specs.declared.fault.ToldFault.TheVariants as fault
use Rattle.tj_told.specs.declared.listener.Goes.{Goes}
use Rattle.tj_told.specs.declared.news.News.{News}
use Rattle.tj_told.specs.declared.observer.Sight.{Sight}
use Rattle.tj_told.specs.declared.observer.Sight.TheVariants as sight

-- what a listener has heard where a part of the run ended with this fault
pub heard_until : {T A : Type 0} (tells : T → News → Goes → T → Type 0) (told : List News) (s t : T)
    (r : Result A ToldFault) (f : ToldFault) → r ≡ Err f → (r ≢ Err fault.Stopped → Hears tells told s t)
    → (r ≡ Err fault.Stopped → IsStoppedBy tells told s t) → IsHeardUntil tells f told s t
heard_until tells told s t r fault.Full is goes stops = goes (λ stopped. absurd (cc))
heard_until tells told s t r fault.Oom is goes stops = goes (λ stopped. absurd (cc))
heard_until tells told s t r fault.Stopped is goes stops = stops is

-- an Ok is no fault
pub ok_no_stop : {A : Type 0} (r : Result A ToldFault) (a : A) → r ≡ Ok a → r ≢ Err fault.Stopped
ok_no_stop r a is stopped = absurd (cc)

pub of_ok : {A E : Type 0} (P : A → Type 0) (r : Result A E) (a : A) → r ≡ Ok a → IfOk r P → P a
of_ok {A} {E} P r a e h = let k : IfOk {E = E} (Ok a) P = subst (λ (z : Result A E). IfOk z P) e h in k

-- nothing was heard at first
pub first_hears : {T : Type 0} (tells : T → News → Goes → T → Type 0) (told : List News) (s t : T)
    → told ≡ [] → t ≡ s → Hears tells told s t
first_hears tells told s t none same =
    subst (λ z. Hears tells z s t) (sym none) (record { calls = sym same; apart = tt })

-- what follows from two things that hold of an answer holds of it
pub both_ok : {A E : Type 0} {P Q R : A → Type 0} (r : Result A E) → ((x : A) → P x → Q x → R x) → IfOk r P → IfOk r Q
    → IfOk r R
both_ok (Ok x) f h k = f x h k
both_ok (Err e) f h k = tt

-- and of a fault, with that it is the answer's
pub err_is : {A E : Type 0} {P Q : E → Type 0} (r : Result A E) → ((x : E) → r ≡ Err x → P x → Q x) → IfErr r P
    → IfErr r Q
err_is (Ok x) f h = tt
err_is (Err e) f h = f e refl h

pub of_err : {A E : Type 0} (P : E → Type 0) (r : Result A E) (e : E) → r ≡ Err e → IfErr r P → P e
of_err {A} {E} P r e is h = let k : IfErr {T = A} (Err e) P = subst (λ (z : Result A E). IfErr z P) is h in k

-- the end of a run of a table that was made so
pub ends_on : {B : Type 0} (program : Bool → B → Program B) (l m : ℕ) (s t : Bool) (x y : B)
    (seat : SeatShown (Option (Rec B)) (View B)) (cells : List RestCell) (records : List (Option (Rec B))) → l ≡ m
    → s ≡ t → x ≡ y → EndsRun program l s x seat cells records → EndsRun program m t y seat cells records
ends_on program l m s t x y seat cells records e f g h =
    subst (λ n. EndsRun program n t y seat cells records) e
    (subst (λ b. EndsRun program l b y seat cells records) f
    (subst (λ z. EndsRun program l s z seat cells records) g h))

-- and so it is of a table closed at rest
pub rest_ends_on : {B : Type 0} (program : Bool → B → Program B) (l m : ℕ) (s t : Bool) (x y : B)
    (seat : SeatShown (Option (Rec B)) (View B)) (r : RestShown B) → l ≡ m → s ≡ t → x ≡ y
    → RestEndsRun program l s x seat r → EndsRun program m t y seat r.cells r.records
rest_ends_on program l m s t x y seat r e f g h = ends_on program l m s t x y seat r.cells r.records e f g h.ends

-- what a run of a script's body gives is so of the script
pub early_of_script : {T A : Type 0} (tells : T → News → Goes → T → Type 0) (s t : T) (script : List Task) (o : Options)
    (wanted : Option Name) (root : TaskState) → IsMainBody script o.steps root → (r : Result A ToldFault)
    → IfErr r (λ why. (told : List News) × IsHeardUntil tells why told s t
    × IsEarly script_program o.cells o.strict root wanted why told)
    → IfErr r (λ why. (told : List News) × IsHeardUntil tells why told s t
    × IsEarlyOfScript script o wanted why told)
early_of_script tells s t script o wanted root is (Ok x) h = h
early_of_script tells s t script o wanted root is (Err fault) h = (h.0, h.1, inr (root, is, h.2))

-- where nothing was told, nothing was heard
pub nothing_heard : {T : Type 0} (tells : T → News → Goes → T → Type 0) (s : T) → Hears tells [] s s
nothing_heard tells s = record { calls = refl; apart = tt }

-- who stops the run doesn't leave at its end
pub no_end : (s : Sight) → s ≡ sight.Stops → s ≢ sight.Ended
no_end s is left = let z : sight.Stops ≡ sight.Ended = sym is ∙ left in absurd (cc)
