-- Where the reading of a script stops, and that a fault of a fork or of the task `main` is a stop there.
use Rattle.std.proofs.Common.{◌≡◌, ⊎_elim, ℕ, zero, suc, ◌+◌, ◌<◌, cond, nat_eq, List, [], ◌∷◌, ◌++◌, length, Option}
use Rattle.std.proofs.Common.{Some, None, option_map, Ok, Err, refl, ap, sym, ◌∙◌, subst, arith, append_assoc}
use Rattle.std.proofs.Common.{length-append, codes}
use Rattle.std.proofs.lemmas.Bool.{cases_Bool}
use Rattle.tj_lex.specs.declared.token.Token.{Token}
use Rattle.tj_lex.specs.declared.token.Tok.{Tok}
use Rattle.tj_lex.specs.declared.token.Tok.TheVariants as toks
use Rattle.tj_syntax.specs.declared.fault.Breach.{Breach}
use Rattle.tj_syntax.specs.declared.fault.Breach.TheVariants.{Unknown, Count}
use Rattle.tj_syntax.specs.declared.fault.Stop.{Stop}
use Rattle.tj_syntax.specs.declared.fault.Stop.TheVariants as stop
use Rattle.tj_syntax.specs.declared.fault.ParseFault.{ParseFault}
use Rattle.tj_syntax.specs.declared.fault.ParseFault.TheVariants as faults
use Rattle.tj_syntax.specs.Trees.{Task}
use Rattle.tj_syntax.specs.Marks.{Note, Noted, forks, declares}
use Rattle.tj_syntax.specs.Grammar.{IsProgram}
use Rattle.tj_syntax.specs.Faults.{tokens_of, kinds_of, AreUnbroken, AreForksRight, EndsInEnd, fork_of, fork_breach}
use Rattle.tj_syntax.specs.Faults.{task_named, main_of, fault_of}
use Rattle.tj_syntax.specs.Inner.Stops.{fault_at, AreLeft}
use Rattle.tj_syntax.specs.Inner.Input.{Head, Input, Outcome, heads_from, head_named, flaw_at, first, first_flaw}
use Rattle.tj_syntax.specs.Inner.Reading.{tasks}
use Rattle.tj_syntax.proofs.Taken.{note_flaw, flaw_after, flaw_after-append, tokens_of-append}
use Rattle.tj_syntax.proofs.Sound.Ask.{flaw_after-some}
use Rattle.tj_syntax.proofs.Sound.Script.{AreHeads, names_from_pairs, head_params, start_of}
use Rattle.tj_syntax.proofs.Complete.Steps.{at}
use Rattle.tj_syntax.proofs.Complete.Script.{last_cancel, tasks_read, script_heads, forks_none}
use Rattle.tj_syntax.proofs.Stops.FirstFault.{behind_count, kinds_of-append}
use Rattle.tj_syntax.proofs.Same.Heads.{declared_head}

-- ---- where the reading of a script stops

-- for parameters of `main`
abbrev pub stop_of_params : ℕ → ℕ → Option Stop
stop_of_params zero left = None
stop_of_params (suc n) left = Some (stop.MainParams left)

-- for the task `main`
abbrev pub stop_of_main : Option Head → Option Stop
stop_of_main None = Some stop.NoMain
stop_of_main (Some h) = stop_of_params h.params h.left

-- for what was read
abbrev pub stop_in : List Head → Outcome (List Task) → Option Stop
stop_in heads (Ok p) = first_flaw p.1.flaw (stop_of_main (head_named heads (codes "main")))
stop_in heads (Err e) = Some e

-- for these tokens, without their end
abbrev pub stop_of : List Tok → Option Stop
stop_of ts = stop_in (heads_from [] ts) (tasks (start_of ts))

-- the fault is that of the stop of the reading
pub record IsOfStop (tokens : List Token) (ts : List Tok) (f : ParseFault) : Type 0 where
  pub stop_is : Stop
  pub stops : stop_of ts ≡ Some stop_is
  pub front : List Token
  pub back : List Token
  pub token : Token
  pub whole : tokens ≡ front ++ token ∷ back
  pub left : AreLeft stop_is (length back)
  pub is : f ≡ fault_at stop_is token.at

same_token : (front front' back back' : List Token) (t t' : Token) → front ++ t ∷ back ≡ front' ++ t' ∷ back'
    → length back ≡ length back' → t ≡ t'
same_token [] [] back back' t t' e n = cc
same_token [] (x ∷ front') back back' t t' e n =
    let rest : back ≡ front' ++ t' ∷ back' = cc in
    let size : length back ≡ length front' + length (t' ∷ back') = ap length rest ∙ length-append front' (t' ∷ back') in
    absurd (omega arith)
same_token (x ∷ front) [] back back' t t' e n =
    let rest : front ++ t ∷ back ≡ back' = cc in
    let size : length back' ≡ length front + length (t ∷ back) =
    ap length (sym rest) ∙ length-append front (t ∷ back) in
    absurd (omega arith)
same_token (x ∷ front) (y ∷ front') back back' t t' e n =
    same_token front front' back back' t t' (let rest : front ++ t ∷ back ≡ front' ++ t' ∷ back' = cc in rest) n

same_fault : (s : Stop) (front front' back back' : List Token) (t t' : Token)
    → front ++ t ∷ back ≡ front' ++ t' ∷ back' → AreLeft s (length back) → AreLeft s (length back')
    → fault_at s t.at ≡ fault_at s t'.at
same_fault (stop.Expected left) front front' back back' t t' e n n' =
    ap (λ (x : Token). faults.Expected x.at) (same_token front front' back back' t t' e (sym n ∙ n'))
same_fault (stop.Broken b left) front front' back back' t t' e n n' =
    ap (λ (x : Token). fault_of b x.at) (same_token front front' back back' t t' e (sym n ∙ n'))
same_fault (stop.MainParams left) front front' back back' t t' e n n' =
    ap (λ (x : Token). faults.MainParams x.at) (same_token front front' back back' t t' e (sym n ∙ n'))
same_fault s front front' back back' t t' e n n' = refl

pub one_stop : (tokens : List Token) (ts : List Tok) (a b : ParseFault) → IsOfStop tokens ts a → IsOfStop tokens ts b
    → a ≡ b
one_stop tokens ts a b p q =
    let both : Some p.stop_is ≡ Some q.stop_is = sym p.stops ∙ q.stops in
    let same : p.stop_is ≡ q.stop_is = cc in
    p.is ∙ same_fault p.stop_is p.front q.front p.back q.back p.token q.token (sym p.whole ∙ q.whole) p.left
    (subst (λ s. AreLeft s (length q.back)) (sym same) q.left)
    ∙ ap (λ s. fault_at s q.token.at) same ∙ sym q.is

-- ---- whole sentences

-- the body of the tokens is a sentence whose notes break nothing
record IsSentence (ts : List Tok) (notes : List Noted) (script : List Task) : Type 0 where
  heads : AreHeads (heads_from [] ts) script
  reads : tasks (start_of ts) ≡ Ok (script, at (heads_from [] ts) [] [] (flaw_after (heads_from [] ts) notes 0 None))

sentence : (ts : List Tok) (notes : List Noted) (script : List Task) → ts ≡ tokens_of notes → IsProgram notes script
    → AreUnbroken notes → IsSentence ts notes script
sentence ts notes script e derived whole =
    subst (λ l. IsSentence l notes script) (sym e) (by (script_heads notes script derived whole))
  where
    by : AreHeads (heads_from [] (tokens_of notes)) script → IsSentence (tokens_of notes) notes script
    by heads = record {
      heads = heads;
      reads = tasks_read (heads_from [] (tokens_of notes)) notes script
          (sym (names_from_pairs (heads_from [] (tokens_of notes)) script heads)) derived whole;
    }

-- ---- a fork

flaw_some : (h : Option Head) (t : Option Task) (left count : ℕ) (b : Breach)
    → option_map (λ (x : Head). x.params) h ≡ option_map (λ (x : Task). x.params) t
    → fork_of t count ≡ Some b → flaw_at h left count ≡ Some (stop.Broken b left)
flaw_some None None left count b e faulty = let same : Unknown ≡ b = cc in
    ap (λ (c : Breach). Some (stop.Broken c left)) same
flaw_some None (Some t) left count b e faulty = absurd (cc)
flaw_some (Some h) None left count b e faulty = absurd (cc)
flaw_some (Some h) (Some t) left count b e faulty =
    let same : h.params ≡ t.params = cc in
    ⊎_elim
    (λ y. let h' : ◌≡◌ {A = Option Breach} None (Some b) = subst (λ v. cond v None (Some Count) ≡ Some b) y faulty in
    absurd (cc))
    (λ n. let h' : Some Count ≡ Some b = subst (λ v. cond v None (Some Count) ≡ Some b) n faulty in
    let its : Count ≡ b = cc in
    subst (λ p. cond (nat_eq p count) None (Some (stop.Broken Count left)) ≡ Some (stop.Broken b left)) (sym same)
    (subst (λ v. cond v None (Some (stop.Broken Count left)) ≡ Some (stop.Broken b left)) (sym n)
    (ap (λ c. Some (stop.Broken c left)) its)))
    (cases_Bool (nat_eq t.params count))

note_some : (heads : List Head) (script : List Task) → AreHeads heads script → (n : Noted) (left : ℕ) (b : Breach)
    → fork_breach script n ≡ Some b
    → note_flaw heads n left ≡ Some (stop.Broken b left)
note_some heads script e (toks.Name f, forks count) left b h =
    flaw_some (head_named heads f) (task_named script f) left count b (head_params heads script e f) h
note_some heads script e (t, note) left b h = absurd (cc)

-- the first faulty fork is the flaw of the notes
fork_flaw : (heads : List Head) (script : List Task) → AreHeads heads script
    → (before after : List Noted) (n : Noted) (b : Breach) → AreForksRight script before
    → fork_breach script n ≡ Some b → flaw_after heads (before ++ n ∷ after) 0 None ≡ Some
    (stop.Broken b (suc (length after)))
fork_flaw heads script e before after n b right faulty =
    let size : length after + 0 ≡ length after = omega arith in
    flaw_after-append heads before (n ∷ after) 0 None
    ∙ ap (λ f. flaw_after heads (n ∷ after) 0 f) (forks_none heads script e before (length (n ∷ after) + 0) right)
    ∙ ap (λ f. flaw_after heads after 0 (first_flaw None f))
    (note_some heads script e n (suc (length after + 0)) b faulty)
    ∙ flaw_after-some heads after 0 (stop.Broken b (suc (length after + 0)))
    ∙ ap (λ l. Some (stop.Broken b (suc l))) size

-- the kinds of the tokens before the end, where these notes spell them
body_is : (tokens front back : List Token) (token : Token) (ts : List Tok) (before after : List Noted) (note : Note)
    → kinds_of tokens ≡ ts ++ toks.End ∷ []
    → tokens ≡ front ++ token ∷ back → kinds_of front ≡ tokens_of before
    → kinds_of back ≡ tokens_of after ++ toks.End ∷ []
    → ts ≡ tokens_of (before ++ (token.what, note) ∷ after)
body_is tokens front back token ts before after note whole parts first last =
    last_cancel ts (tokens_of (before ++ (token.what, note) ∷ after)) toks.End
    (sym whole ∙ ap kinds_of parts ∙ kinds_of-append front (token ∷ back)
    ∙ ap (λ l. l ++ token.what ∷ kinds_of back) first
    ∙ ap (λ l. tokens_of before ++ token.what ∷ l) last
    ∙ sym (append_assoc (tokens_of before) (token.what ∷ tokens_of after) (toks.End ∷ []))
    ∙ ap (λ l. l ++ toks.End ∷ []) (sym (tokens_of-append before ((token.what, note) ∷ after))))

-- the stop of a reading to the end
pub stop_read : (ts : List Tok) (script : List Task) (j : Input) → tasks (start_of ts) ≡ Ok (script, j)
    → stop_of ts ≡ first_flaw j.flaw (stop_of_main (head_named (heads_from [] ts) (codes "main")))
stop_read ts script j h = ap (λ o. stop_in (heads_from [] ts) o) h

-- the stop of a reading, at a token of the text
stop_at : {tokens : List Token} {ts : List Tok} (s : Stop) (front back : List Token) (token : Token)
    → stop_of ts ≡ Some s → tokens ≡ front ++ token ∷ back → AreLeft s (length back)
    → IsOfStop tokens ts (fault_at s token.at)
stop_at s front back token stops whole left = record {
  stop_is = s;
  stops = stops;
  front = front;
  back = back;
  token = token;
  whole = whole;
  left = left;
  is = refl;
}

pub fork_stops : (tokens : List Token) (ts : List Tok) (front back : List Token) (token : Token)
    (before after : List Noted) (note : Note) (script : List Task)
    (breach : Breach) → kinds_of tokens ≡ ts ++ toks.End ∷ [] → tokens ≡ front ++ token ∷ back
    → kinds_of front ≡ tokens_of before
    → kinds_of back ≡ tokens_of after ++ toks.End ∷ []
    → IsProgram (before ++ (token.what, note) ∷ after) script → AreUnbroken (before ++ (token.what, note) ∷ after)
    → AreForksRight script before → fork_breach script (token.what, note) ≡ Some breach
    → IsOfStop tokens ts (fault_of breach token.at)
fork_stops tokens ts front back token before after note script breach whole parts first last derived unbroken right
    faulty =
    let notes = before ++ (token.what, note) ∷ after in
    let body = body_is tokens front back token ts before after note whole parts first last in
    let read = sentence ts notes script body derived unbroken in
    let flaw = fork_flaw (heads_from [] ts) script read.heads before after (token.what, note) breach right faulty in
    stop_at (stop.Broken breach (suc (length after))) front back token
    (stop_read ts script _ read.reads
    ∙ ap (λ f. first_flaw f (stop_of_main (head_named (heads_from [] ts) (codes "main")))) flaw)
    parts (sym (behind_count back after last))

-- ---- the task `main`

no_head : (o : Option Head) → option_map (λ (h : Head). h.params) o ≡ None → o ≡ None
no_head None e = refl
no_head (Some h) e = absurd (cc)

pub main_stops : (tokens : List Token) (ts : List Tok) (notes : List Noted) (script : List Task) → EndsInEnd tokens
    → kinds_of tokens ≡ ts ++ toks.End ∷ []
    → kinds_of tokens ≡ tokens_of notes ++ toks.End ∷ [] → IsProgram notes script → AreUnbroken notes
    → AreForksRight script notes → main_of script ≡ None
    → IsOfStop tokens ts (faults.NoMain (record { line = 1; column = 1 }))
main_stops tokens ts notes script ended whole spells derived unbroken right none =
    let read = sentence ts notes script (last_cancel ts (tokens_of notes) toks.End (sym whole ∙ spells)) derived
    unbroken in
    let flaw = forks_none (heads_from [] ts) script read.heads notes 0 right in
    let absent = no_head (head_named (heads_from [] ts) (codes "main"))
    (head_params (heads_from [] ts) script read.heads (codes "main")
    ∙ ap (λ o. option_map (λ (t : Task). t.params) o) none) in
    stop_at stop.NoMain ended.front [] ended.last
    (stop_read ts script _ read.reads
    ∙ ap (λ f. first_flaw f (stop_of_main (head_named (heads_from [] ts) (codes "main")))) flaw
    ∙ ap stop_of_main absent)
    ended.whole tt

some_params : (count left : ℕ) → 0 < count → stop_of_params count left ≡ Some (stop.MainParams left)
some_params zero left h = absurd (omega arith)
some_params (suc n) left h = refl

pub params_stop : (tokens : List Token) (ts : List Tok) (front back : List Token) (token : Token)
    (before after : List Noted) (script : List Task) (count : ℕ)
    → kinds_of tokens ≡ ts ++ toks.End ∷ []
    → tokens ≡ front ++ token ∷ back → token.what ≡ toks.Name (codes "main") → kinds_of front ≡ tokens_of before
    → kinds_of back ≡ tokens_of after ++ toks.End ∷ []
    → IsProgram (before ++ (token.what, declares count) ∷ after) script
    → AreUnbroken (before ++ (token.what, declares count) ∷ after)
    → AreForksRight script (before ++ (token.what, declares count) ∷ after) → 0 < count
    → IsOfStop tokens ts (faults.MainParams token.at)
params_stop tokens ts front back token before after script count whole parts named first last derived unbroken right
    some =
    let notes = before ++ (token.what, declares count) ∷ after in
    let body = body_is tokens front back token ts before after (declares count) whole parts first last in
    let read = sentence ts notes script body derived unbroken in
    let flaw = forks_none (heads_from [] ts) script read.heads notes 0 right in
    let main : Head = record { name = codes "main"; params = count; left = suc (length after) } in
    let found : head_named (heads_from [] (tokens_of notes)) (codes "main") ≡ Some main =
    declared_head derived unbroken [] refl before after (codes "main") count
    (ap (λ t. before ++ (t, declares count) ∷ after) named) in
    let has : head_named (heads_from [] ts) (codes "main") ≡ Some main =
    subst (λ l. head_named (heads_from [] l) (codes "main") ≡ Some main) (sym body) found in
    stop_at (stop.MainParams (suc (length after))) front back token
    (stop_read ts script _ read.reads
    ∙ ap (λ f. first_flaw f (stop_of_main (head_named (heads_from [] ts) (codes "main")))) flaw
    ∙ ap stop_of_main has ∙ some_params count (suc (length after)) some)
    parts (sym (behind_count back after last))
