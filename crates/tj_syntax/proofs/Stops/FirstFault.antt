-- Where the reading of a script stops, there is its first fault.
use Rattle.std.proofs.Common.{◌≡◌, ℕ, suc, ◌+◌, ◌<◌, cond, nat_eq, List, [], ◌∷◌, ◌++◌, length, map, slice_get, Option}
use Rattle.std.proofs.Common.{Some, None, option_map, Ok, Err, refl, ap, sym, ◌∙◌, subst, arith, append_assoc}
use Rattle.std.proofs.Common.{length-append, ⊎_elim, codes}
use Rattle.std.proofs.lemmas.Bool.{cases_Bool}
use Rattle.std.proofs.lemmas.Slice.Eq.{bytes_eq-Decides}
use Rattle.std.specs.List.{position_from, AllByRecursion}
use Rattle.std.specs.Str.{bytes_eq}
use Rattle.tj_lex.specs.declared.token.Token.{Token}
use Rattle.tj_lex.specs.declared.token.Tok.{Tok}
use Rattle.tj_lex.specs.declared.token.Tok.TheVariants as toks
use Rattle.tj_syntax.specs.declared.fault.Breach.{Breach}
use Rattle.tj_syntax.specs.declared.fault.Breach.TheVariants.{Unknown, Count}
use Rattle.tj_syntax.specs.declared.fault.Stop.{Stop}
use Rattle.tj_syntax.specs.declared.fault.Stop.TheVariants as stop
use Rattle.tj_syntax.specs.Trees.{Task}
use Rattle.tj_syntax.specs.Marks.{Name, Noted, broken, forks, declares, index_of}
use Rattle.tj_syntax.specs.Grammar.{IsTasks, IsProgram}
use Rattle.tj_syntax.specs.Faults.{tokens_of, kinds_of, AreUnbroken, AreForksRight, fork_of, fork_breach, task_named}
use Rattle.tj_syntax.specs.Faults.{main_of, at_token, at_fork, no_main, main_params, cant_follow, breaks, IsFirstFault}
use Rattle.tj_syntax.specs.Inner.Stops.{IsFirstStop, fault_at, AreLeft}
use Rattle.tj_syntax.specs.Inner.Input.{Head, Input, names_of, heads_from, flaw_at, head_at, head_named, first_flaw}
use Rattle.tj_syntax.specs.Inner.Reading.{tasks}
use Rattle.tj_syntax.proofs.Taken.{note_flaw, flaw_after, tokens_of-append, length-tokens_of}
use Rattle.tj_syntax.proofs.Sound.Ask.{flaw_after-some}
use Rattle.tj_syntax.proofs.Sound.Script.{AreHeads, IsHeadIn, head_params, forks_right, note_right, start_of}
use Rattle.tj_syntax.proofs.Sound.Script.{tasks_sound}
use Rattle.tj_syntax.proofs.Same.Retasked as retasked
use Rattle.tj_syntax.proofs.Stops.Steps.{IsStopAt}
use Rattle.tj_syntax.proofs.Stops.Task.{tasks_halt}
use Rattle.tj_syntax.proofs.Same.Alike.{refused_token}

-- ---- tokens with their positions

-- the tokens, parted where their kinds are
pub record Parted (tokens : List Token) (a : List Tok) (t : Tok) (b : List Tok) : Type 0 where
  pub front : List Token
  pub back : List Token
  pub token : Token
  pub whole : tokens ≡ front ++ token ∷ back
  pub before : kinds_of front ≡ a
  pub is : token.what ≡ t
  pub behind : kinds_of back ≡ b

pub parted : (tokens : List Token) (a : List Tok) (t : Tok) (b : List Tok) → kinds_of tokens ≡ a ++ t ∷ b
    → Parted tokens a t b
parted [] [] t b e = absurd (cc)
parted [] (x ∷ a) t b e = absurd (cc)
parted (k ∷ tokens) [] t b e =
    let first : k.what ≡ t = cc in
    let rest : kinds_of tokens ≡ b = cc in
    record { front = []; back = tokens; token = k; whole = refl; before = refl; is = first; behind = rest }
parted (k ∷ tokens) (x ∷ a) t b e =
    let first : k.what ≡ x = cc in
    let rest : kinds_of tokens ≡ a ++ t ∷ b = cc in
    let p = parted tokens a t b rest in
    record {
      front = k ∷ p.front;
      back = p.back;
      token = p.token;
      whole = ap (λ ts. k ∷ ts) p.whole;
      before = ap (λ y. y ∷ kinds_of p.front) first ∙ ap (λ ts. x ∷ ts) p.before;
      is = p.is;
      behind = p.behind;
    }

pub kinds_of-append : (a b : List Token) → kinds_of (a ++ b) ≡ kinds_of a ++ kinds_of b
kinds_of-append [] b = refl
kinds_of-append (t ∷ a) b = ap (λ ts. t.what ∷ ts) (kinds_of-append a b)

pub length-kinds_of : (a : List Token) → length (kinds_of a) ≡ length a
length-kinds_of [] = refl
length-kinds_of (t ∷ a) = ap suc (length-kinds_of a)

-- the kinds of tokens with the end behind them
pub kinds_with_end : (body : List Token) (last : Token) → last.what ≡ toks.End
    → kinds_of (body ++ last ∷ []) ≡ kinds_of body ++ toks.End ∷ []
kinds_with_end body last e = kinds_of-append body (last ∷ []) ∙ ap (λ t. kinds_of body ++ t ∷ []) e

-- ---- at a token

-- what was read before the reading of a script stopped, completed to a sentence
pub record Begun (ts : List Tok) (s : Stop) : Type 0 where
  pub front : List Noted
  pub back : List Noted
  pub rest : List Tok
  pub ahead : ts ≡ tokens_of front ++ rest
  pub unbroken : AreUnbroken front
  pub script : List Task
  pub derived : IsProgram (front ++ back) script
  pub stops : IsStopAt s rest back

pub begun : (ts : List Tok) (s : Stop) → tasks (start_of ts) ≡ Err s → Begun ts s
unfolding tasks
begun ts s h =
    let got = tasks_halt (length ts) [] (start_of ts) s refl h in
    let some = got.whole.0 in
    let own = retasked.tasks (map (λ (t : Task). t.name) some) got.whole.1 in
    record {
      front = got.front;
      back = got.back;
      rest = got.rest;
      ahead = got.ahead;
      unbroken = got.unbroken;
      script = own.0;
      derived = subst (λ names. IsTasks names [] (got.front ++ got.back) own.0) (sym own.2) own.1;
      stops = got.stops;
    }

-- the first token of what is left, the end at last
next_token : (rest : List Tok) → (t : Tok) × (after : List Tok) × (rest ++ toks.End ∷ [] ≡ t ∷ after)
    × (length after ≡ length rest)
next_token [] = (toks.End, [], refl, refl)
next_token (t ∷ rest) = (t, rest ++ toks.End ∷ [], refl, omega (arith, length-append rest (toks.End ∷ [])))

-- the token where a reading stopped
parted_at : (body : List Token) (last : Token) → last.what ≡ toks.End
    → (s : Stop) (b : Begun (kinds_of body) s) (t : Tok) (after : List Tok) → b.rest ++ toks.End ∷ [] ≡ t ∷ after
    → Parted (body ++ last ∷ []) (tokens_of b.front) t after
parted_at body last end s b t after e =
    parted (body ++ last ∷ []) (tokens_of b.front) t after
    (kinds_with_end body last end ∙ ap (λ ts. ts ++ toks.End ∷ []) b.ahead
    ∙ append_assoc (tokens_of b.front) b.rest (toks.End ∷ [])
    ∙ ap (λ ts. tokens_of b.front ++ ts) e)

-- the first stop, at a token that parts the others
stop_at : {tokens : List Token} {a b : List Tok} {t : Tok} (s : Stop) (p : Parted tokens a t b)
    → AreLeft s (length p.back) → IsFirstFault tokens (fault_at s p.token.at) → IsFirstStop tokens s
stop_at s p left first = record {
  front = p.front;
  back = p.back;
  token = p.token;
  whole = p.whole;
  left = left;
  is_first = first;
}

-- a reading that stops gives the first fault at a token
pub stops_first : (body : List Token) (last : Token) → last.what ≡ toks.End → (s : Stop)
    → tasks (start_of (kinds_of body)) ≡ Err s
    → IsFirstStop (body ++ last ∷ []) s
stops_first body last end s h = by s (begun (kinds_of body) s h) h
  where
    by : (s : Stop) (b : Begun (kinds_of body) s) → tasks (start_of (kinds_of body)) ≡ Err s
        → IsFirstStop (body ++ last ∷ []) s
    by (stop.Expected left) b h =
        let n = next_token b.rest in
        let p = parted_at body last end (stop.Expected left) b n.0 n.1 n.2 in
        let count : left ≡ length p.back = b.stops ∙ sym n.3 ∙ sym (ap length p.behind) ∙ length-kinds_of p.back in
        stop_at (stop.Expected left) p count (at_token (cant_follow p.front p.back p.token b.front p.whole
        (record { back = b.back; script = b.script; derived = b.derived; spells = p.before }) b.unbroken
        (refused_token (heads_from [] (kinds_of body)) body last None left p.front p.back p.token h p.whole end
        (sym count))))
    by (stop.Broken breach left) b h =
        let at = b.stops in
        let t = at.0 in
        let more = at.1 in
        let p = parted_at body last end (stop.Broken breach left) b t (at.2 ++ toks.End ∷ [])
        (ap (λ ts. ts ++ toks.End ∷ []) at.3) in
        let size : length (at.2 ++ toks.End ∷ []) ≡ suc (length at.2) = omega
        (arith, length-append at.2 (toks.End ∷ [])) in
        let count : left ≡ length p.back = at.5 ∙ ap length at.3 ∙ sym size ∙ sym (ap length p.behind)
        ∙ length-kinds_of p.back in
        let note : ◌≡◌ {A = Noted} (t, broken breach) (p.token.what, broken breach) = ap
        (λ k. (k, broken breach)) (sym p.is) in
        stop_at (stop.Broken breach left) p count (at_token (breaks p.front p.back p.token b.front breach p.whole
        (record {
          back = more;
          script = b.script;
          derived = subst (λ ns. IsProgram ns b.script)
              (ap (λ ns. b.front ++ ns) (at.4 ∙ ap (λ n. n ∷ more) note)
              ∙ sym (append_assoc b.front ((p.token.what, broken breach) ∷ []) more)) b.derived;
          spells = kinds_of-append p.front (p.token ∷ []) ∙ ap (λ ts. ts ++ p.token.what ∷ []) p.before
              ∙ sym (tokens_of-append b.front ((p.token.what, broken breach) ∷ []));
        }) b.unbroken))
    by stop.NoMain b h = absurd b.stops
    by s b h = absurd b.stops

-- ---- at a fork

-- the first note that is a faulty fork
record FaultyFork (heads : List Head) (script : List Task) (notes : List Noted) (left : ℕ) (e : Stop) : Type 0 where
  before : List Noted
  after : List Noted
  noted : Noted
  is : notes ≡ before ++ noted ∷ after
  right : AreForksRight script before
  flaw : note_flaw heads noted (suc (length after + left)) ≡ Some e

faulty_fork : (heads : List Head) (script : List Task) → AreHeads heads script
    → (notes : List Noted) (left : ℕ) (e : Stop) → flaw_after heads notes left None ≡ Some e
    → FaultyFork heads script notes left e
faulty_fork heads script same [] left e h = absurd (cc)
faulty_fork heads script same (n ∷ notes) left e h = by
    (λ h'. faulty_fork heads script same notes left e h') (note_flaw heads n (suc (length notes + left))) refl h
  where
    by : (flaw_after heads notes left None ≡ Some e → FaultyFork heads script notes left e) → (o : Option Stop)
        → note_flaw heads n (suc (length notes + left)) ≡ o → flaw_after heads notes left (first_flaw None o) ≡ Some e
        → FaultyFork heads script (n ∷ notes) left e
    by rest None is h' = let f = rest h' in record {
      before = n ∷ f.before;
      after = f.after;
      noted = f.noted;
      is = ap (λ ns. n ∷ ns) f.is;
      right = (note_right heads script same n (suc (length notes + left)) is, f.right);
      flaw = f.flaw;
    }
    by rest (Some s) is h' = record {
      before = [];
      after = notes;
      noted = n;
      is = refl;
      right = tt;
      flaw = is ∙ sym (flaw_after-some heads notes left s) ∙ h';
    }

-- how a fork is faulty by its task's head, it is by its task
record SameFlaw (left : ℕ) (e : Stop) (o : Option Breach) : Type 0 where
  breach : Breach
  stops : e ≡ stop.Broken breach left
  breaks : o ≡ Some breach

same_flaw : (h : Option Head) (t : Option Task) (left count : ℕ) (e : Stop) → option_map
    (λ (x : Head). x.params) h ≡ option_map (λ (x : Task). x.params) t
    → flaw_at h left count ≡ Some e → SameFlaw left e (fork_of t count)
same_flaw None None left count e same flaw = record { breach = Unknown; stops = cc; breaks = refl }
same_flaw None (Some t) left count e same flaw = absurd (cc)
same_flaw (Some h) None left count e same flaw = absurd (cc)
same_flaw (Some h) (Some t) left count e same flaw =
    let params : h.params ≡ t.params = cc in
    ⊎_elim
    (λ y. let f : ◌≡◌ {A = Option Stop} None (Some e) = subst
    (λ b. cond b None (Some (stop.Broken Count left)) ≡ Some e) y flaw in absurd (cc))
    (λ n. let f : ◌≡◌ {A = Option Stop} (Some (stop.Broken Count left)) (Some e) = subst
    (λ b. cond b None (Some (stop.Broken Count left)) ≡ Some e) n flaw in
    record {
      breach = Count;
      stops = cc;
      breaks = subst (λ p. cond (nat_eq p count) None (Some Count) ≡ Some Count) params
          (subst (λ b. cond b None (Some Count) ≡ Some Count) (sym n) refl);
    })
    (cases_Bool (nat_eq h.params count))

same_note : (heads : List Head) (script : List Task) → AreHeads heads script → (n : Noted) (left : ℕ) (e : Stop)
    → note_flaw heads n left ≡ Some e
    → SameFlaw left e (fork_breach script n)
same_note heads script same (toks.Name f, forks count) left e h = same_flaw (head_named heads f) (task_named script f)
    left count e (head_params heads script same f) h
same_note heads script same (t, note) left e h = absurd (cc)

-- the kinds of all tokens, where these notes spell those before the end
spelled : (body : List Token) (last : Token) → last.what ≡ toks.End → (before after : List Noted) (noted : Noted)
    → kinds_of body ≡ tokens_of (before ++ noted ∷ after)
    → Parted (body ++ last ∷ []) (tokens_of before) noted.0 (tokens_of after ++ toks.End ∷ [])
spelled body last end before after noted e =
    parted (body ++ last ∷ []) (tokens_of before) noted.0 (tokens_of after ++ toks.End ∷ [])
    (kinds_with_end body last end ∙ ap (λ ts. ts ++ toks.End ∷ []) (e ∙ tokens_of-append before (noted ∷ after))
    ∙ append_assoc (tokens_of before) (noted.0 ∷ tokens_of after) (toks.End ∷ []))

-- so many tokens stand behind
pub behind_count : (back : List Token) (after : List Noted) → kinds_of back ≡ tokens_of after ++ toks.End ∷ []
    → length back ≡ suc (length after)
behind_count back after e =
    let size : length (tokens_of after ++ toks.End ∷ []) ≡ length after + 1 = length-append (tokens_of after)
    (toks.End ∷ []) ∙ ap (λ n. n + 1) (length-tokens_of after) in
    let count : length back ≡ length after + 1 = sym (length-kinds_of back) ∙ ap length e ∙ size in
    omega arith

-- a first fault of a fork is the first fault
pub flaw_first : (body : List Token) (last : Token) → last.what ≡ toks.End
    → (found : List Task) (j : Input) (e : Stop) → tasks (start_of (kinds_of body)) ≡ Ok (found, j) → j.flaw ≡ Some e
    → IsFirstStop (body ++ last ∷ []) e
flaw_first body last end found j e h flaw =
    let got = tasks_sound (kinds_of body) found j h in
    let heads = heads_from [] (kinds_of body) in
    let fork = faulty_fork heads found got.heads got.notes 0 e (sym got.flaw ∙ flaw) in
    let left = suc (length fork.after + 0) in
    let same = same_note heads found got.heads fork.noted left e fork.flaw in
    let p = spelled body last end fork.before fork.after fork.noted (got.whole ∙ ap tokens_of fork.is) in
    let count : left ≡ length p.back = let size = behind_count p.back fork.after p.behind in omega arith in
    let noted : fork.noted ≡ (p.token.what, fork.noted.1) = ap (λ k. (k, fork.noted.1)) (sym p.is) in
    let notes : got.notes ≡ fork.before ++ (p.token.what, fork.noted.1) ∷ fork.after = fork.is ∙ ap
    (λ n. fork.before ++ n ∷ fork.after) noted in
    subst (λ s. IsFirstStop (body ++ last ∷ []) s) (sym same.stops) (record {
      front = p.front;
      back = p.back;
      token = p.token;
      whole = p.whole;
      left = count;
      is_first = at_fork p.front p.back p.token fork.before fork.after fork.noted.1 found same.breach p.whole p.before
          p.behind
          (subst (λ ns. IsProgram ns found) notes got.derived) (subst AreUnbroken notes got.unbroken) fork.right
          (ap (λ n. fork_breach found n) (sym noted) ∙ same.breaks);
    })

-- ---- the task `main`

-- no task is `main`
pub no_main_first : (body : List Token) (last : Token) → last.what ≡ toks.End → (found : List Task) (j : Input)
    → tasks (start_of (kinds_of body)) ≡ Ok (found, j) → j.flaw ≡ None
    → head_named (heads_from [] (kinds_of body)) (codes "main") ≡ None → IsFirstStop (body ++ last ∷ []) stop.NoMain
no_main_first body last end found j h flaw none =
    let got = tasks_sound (kinds_of body) found j h in
    let heads = heads_from [] (kinds_of body) in
    let right = forks_right heads found got.heads got.notes 0 None (sym got.flaw ∙ flaw) in
    let absent : option_map (λ (t : Task). t.params) (main_of found) ≡ None =
    sym (head_params heads found got.heads (codes "main")) ∙ ap (λ o. option_map (λ (x : Head). x.params) o) none in
    record {
      front = body;
      back = [];
      token = last;
      whole = refl;
      left = tt;
      is_first = no_main got.notes found (kinds_with_end body last end ∙ ap (λ ts. ts ++ toks.End ∷ []) got.whole)
          got.derived got.unbroken right.1
          (no_task (main_of found) absent);
    }
  where
    no_task : (o : Option Task) → option_map (λ (t : Task). t.params) o ≡ None → o ≡ None
    no_task None e = refl
    no_task (Some t) e = absurd (cc)

-- the index of a name is that of a head of this name
record HasHead (P : Head → Type 0) (heads : List Head) (f : Name) (i n : ℕ) : Type 0 where
  at : ℕ
  far : n ≡ at + i
  head : Head
  there : slice_get heads at ≡ Some head
  named : head.name ≡ f
  holds : P head

has_head : (P : Head → Type 0) (heads : List Head) (f : Name) (i n : ℕ) → AllByRecursion P heads → position_from
    (λ name. bytes_eq name f) i (names_of heads) ≡ Some n → HasHead P heads f i n
has_head P [] f i n all e = absurd (cc)
has_head P (h ∷ heads) f i n all e =
    ⊎_elim
    (λ y. let here : Some i ≡ Some n = subst
    (λ b. cond b (Some i) (position_from (λ name. bytes_eq name f) (i + 1) (names_of heads)) ≡ Some n) y e in
    let same : i ≡ n = cc in
    record {
      at = 0;
      far = omega arith;
      head = h;
      there = refl;
      named = (bytes_eq-Decides h.name f).0 y;
      holds = all.0;
    })
    (λ no. let later : position_from (λ name. bytes_eq name f) (i + 1) (names_of heads) ≡ Some n =
    subst (λ b. cond b (Some i) (position_from (λ name. bytes_eq name f) (i + 1) (names_of heads)) ≡ Some n) no e in
    let p = has_head P heads f (i + 1) n all.1 later in
    let far = p.far in
    record { at = suc p.at; far = omega arith; head = p.head; there = p.there; named = p.named; holds = p.holds })
    (cases_Bool (bytes_eq h.name f))

head_found : (P : Head → Type 0) (heads : List Head) (f : Name) (h : Head) → AllByRecursion P heads
    → head_named heads f ≡ Some h → P h × (h.name ≡ f)
head_found P heads f h all e = by (index_of (names_of heads) f) refl e
  where
    by : (o : Option ℕ) → index_of (names_of heads) f ≡ o → head_at heads o ≡ Some h → P h × (h.name ≡ f)
    by None is e' = absurd (cc)
    by (Some n) is e' =
        let p = has_head P heads f 0 n all is in
        let far : n ≡ p.at = let d = p.far in omega arith in
        let found : Some p.head ≡ Some h = sym p.there ∙ sym (ap (λ m. slice_get heads m) far) ∙ e' in
        let same : p.head ≡ h = cc in
        (subst P same p.holds, ap (λ (x : Head). x.name) (sym same) ∙ p.named)

-- the task `main` has parameters
pub params_first : (body : List Token) (last : Token) → last.what ≡ toks.End
    → (found : List Task) (j : Input) (main : Head) → tasks (start_of (kinds_of body)) ≡ Ok (found, j) → j.flaw ≡ None
    → head_named (heads_from [] (kinds_of body)) (codes "main") ≡ Some main → 0 < main.params
    → IsFirstStop (body ++ last ∷ []) (stop.MainParams main.left)
params_first body last end found j main h flaw has some =
    let got = tasks_sound (kinds_of body) found j h in
    let heads = heads_from [] (kinds_of body) in
    let right = forks_right heads found got.heads got.notes 0 None (sym got.flaw ∙ flaw) in
    let its = head_found (IsHeadIn got.notes) heads (codes "main") main got.heads_in has in
    let at = its.0 in
    let named : ◌≡◌ {A = Tok} (toks.Name main.name) (toks.Name (codes "main")) = ap (λ f. toks.Name f) its.1 in
    let p = spelled body last end at.before at.after (toks.Name main.name, declares main.params)
    (got.whole ∙ ap tokens_of at.is) in
    let noted : ◌≡◌ {A = Noted} (toks.Name main.name, declares main.params) (p.token.what, declares main.params) = ap
    (λ k. (k, declares main.params)) (sym p.is) in
    let notes : got.notes ≡ at.before ++ (p.token.what, declares main.params) ∷ at.after = at.is ∙ ap
    (λ n. at.before ++ n ∷ at.after) noted in
    record {
      front = p.front;
      back = p.back;
      token = p.token;
      whole = p.whole;
      left = at.left ∙ sym (behind_count p.back at.after p.behind);
      is_first = main_params p.front p.back p.token at.before at.after found main.params p.whole (p.is ∙ named)
          p.before p.behind
          (subst (λ ns. IsProgram ns found) notes got.derived) (subst AreUnbroken notes got.unbroken)
          (subst (λ ns. AreForksRight found ns) notes right.1) some;
    }
