-- How the loops over the tokens go from one token to the next.
use Rattle.std.proofs.Common.{◌≡◌, ℕ, zero, suc, ◌+◌, ◌<◌, ◌≤◌, Bool, true, false, not, List, [], ◌∷◌, ◌++◌, length}
use Rattle.std.proofs.Common.{map, drop, get_or, slice_get, Option, Result, Ok, Err, IfOk, refl, ap, sym, ◌∙◌}
use Rattle.std.proofs.Common.{arith, subst, append_assoc, drop-cons}
use Rattle.std.proofs.lemmas.Option.{slice_get-get_or}
use Rattle.tj_lex.specs.declared.place.Place.{Place}
use Rattle.tj_lex.specs.declared.token.Token.{Token}
use Rattle.tj_lex.specs.declared.token.Tok.{Tok}
use Rattle.tj_lex.specs.declared.token.Tok.TheVariants as toks
use Rattle.tj_syntax.specs.declared.positions.StatementPlace.{StatementPlace}
use Rattle.tj_syntax.specs.declared.positions.TaskPlaces.{TaskPlaces}
use Rattle.tj_syntax.specs.declared.positions.ScriptPlaces.{ScriptPlaces}
use Rattle.tj_syntax.specs.Faults.{kinds_of, tokens_of}
use Rattle.tj_syntax.specs.Grammar.{IsProgram}
use Rattle.tj_syntax.specs.Marks.{Noted}
use Rattle.tj_syntax.specs.Trees.{Task}
use Rattle.tj_syntax.specs.Starts.{TaskStart, start, in_tasks}
use Rattle.tj_syntax.specs.PlacesOf.{PlacesOfTask, view, view_task, place_in, place_at, statement_place, task_place, places_of}
use Rattle.tj_syntax.specs.Inner.Scan.{is_behind, goes_on, ends_part, begins_part, begins_task, ask_at, ask_offset, ask_of}
use Rattle.tj_syntax.specs.Inner.Scan.{start_in, statements_from, last_brace, brace_from, task_from, task_in, tasks_from}
use Rattle.tj_syntax.proofs.Starting.Tasks.{tasks_scan}

-- the tokens from one on, by that token
kinds_at : (ts : List Token) (i : ℕ) (d : Token) → i < length ts
    → kinds_of (drop i ts) ≡ (get_or ts i d).what ∷ kinds_of (drop (i + 1) ts)
kinds_at ts i d h =
    let e : suc i ≡ i + 1 = omega arith in
    ap kinds_of (drop-cons ts i d h) ∙ ap (λ n. (get_or ts i d).what ∷ kinds_of (drop n ts)) e

kinds_past : (ts : List Token) (i : ℕ) → length ts ≤ i → kinds_of (drop i ts) ≡ []
kinds_past [] zero h = refl
kinds_past [] (suc i) h = refl
kinds_past (t ∷ ts) zero h = absurd (omega arith)
kinds_past (t ∷ ts) (suc i) h = kinds_past ts i (omega arith)

get_behind : (ts : List Token) (i n : ℕ) → slice_get (kinds_of (drop i ts)) n ≡ slice_get (kinds_of ts) (i + n)
get_behind ts zero n = let e : n ≡ 0 + n = omega arith in ap (λ m. slice_get (kinds_of ts) m) e
get_behind [] (suc i) n = refl
get_behind (t ∷ ts) (suc i) n =
    let e : suc (i + n) ≡ suc i + n = omega arith in
    get_behind ts i n ∙ ap (λ m. slice_get (kinds_of (t ∷ ts)) m) e

pub place_read : (ts : List Token) (i : ℕ) (d : Token) → i < length ts → (get_or ts i d).at ≡ place_at ts i
place_read ts i d h = sym (ap place_in (slice_get-get_or ts i d h))

-- where the ask of a statement stands
pub ask_read : (ts : List Token) (i : ℕ) (d : Token) (offset : ℕ) → i < length ts
    → offset ≡ ask_offset (get_or ts i d).what
    → ask_at (slice_get (kinds_of ts) (i + offset)) (i + offset) ≡ ask_of (kinds_of (drop i ts)) i
ask_read ts i d offset h e =
    ap (λ o. ask_at (slice_get (kinds_of ts) (i + o)) (i + o)) e
    ∙ ap (λ o. ask_at o (i + ask_offset (get_or ts i d).what)) (sym (get_behind ts i (ask_offset (get_or ts i d).what)))
    ∙ by (kinds_of (drop i ts)) (get_or ts i d).what (kinds_of (drop (i + 1) ts)) (kinds_at ts i d h)
  where
    by : (ks : List Tok) (t : Tok) (rest : List Tok) → ks ≡ t ∷ rest
        → ask_at (slice_get ks (ask_offset t)) (i + ask_offset t) ≡ ask_of ks i
    by ks t rest e = subst (λ l. ask_at (slice_get l (ask_offset t)) (i + ask_offset t) ≡ ask_of l i) (sym e) refl

pub goes_at : (ts : List Token) (i : ℕ) (d : Token) (b : Bool) → i < length ts → b ≡ is_behind (get_or ts i d).what
    → not b ≡ goes_on (kinds_of (drop i ts))
goes_at ts i d b h e = ap not e ∙ sym (ap goes_on (kinds_at ts i d h))

pub goes_past : (ts : List Token) (i : ℕ) → length ts ≤ i → false ≡ goes_on (kinds_of (drop i ts))
goes_past ts i h = sym (ap goes_on (kinds_past ts i h))

-- a statement that begins at a token, and where none does
pub starts_at : (ts : List Token) (i : ℕ) (d : Token) (fresh b : Bool) → i < length ts → fresh ≡ true
    → b ≡ begins_part (get_or ts i d).what → b ≡ true
    → start i (ask_of (kinds_of (drop i ts)) i) ∷ [] ≡ start_in fresh (kinds_of (drop i ts)) i
starts_at ts i d fresh b h on e f =
    by (kinds_of (drop i ts)) (get_or ts i d).what (kinds_of (drop (i + 1) ts)) (kinds_at ts i d h) (sym e ∙ f)
    ∙ ap (λ c. start_in c (kinds_of (drop i ts)) i) (sym on)
  where
    by : (ks : List Tok) (t : Tok) (rest : List Tok) → ks ≡ t ∷ rest → begins_part t ≡ true
        → start i (ask_of ks i) ∷ [] ≡ start_in true ks i
    by ks t rest e g = subst (λ l. start i (ask_of l i) ∷ [] ≡ start_in true l i) (sym e) (rw g)

pub none_at : (ts : List Token) (i : ℕ) (d : Token) (fresh b : Bool) → i < length ts
    → b ≡ begins_part (get_or ts i d).what → b ≡ false → start_in fresh (kinds_of (drop i ts)) i ≡ []
none_at ts i d fresh b h e f =
    by fresh (kinds_of (drop i ts)) (get_or ts i d).what (kinds_of (drop (i + 1) ts)) (kinds_at ts i d h) (sym e ∙ f)
  where
    by : (fresh : Bool) (ks : List Tok) (t : Tok) (rest : List Tok) → ks ≡ t ∷ rest → begins_part t ≡ false
        → start_in fresh ks i ≡ []
    by true ks t rest e g = subst (λ l. start_in true l i ≡ []) (sym e) (rw g)
    by false ks t rest e g = subst (λ l. start_in false l i ≡ []) (sym e) refl

pub none_yet : (ts : List Token) (i : ℕ) (d : Token) (fresh : Bool) → i < length ts → fresh ≡ false
    → start_in fresh (kinds_of (drop i ts)) i ≡ []
none_yet ts i d fresh h off =
    ap (λ c. start_in c (kinds_of (drop i ts)) i) off
    ∙ ap (λ ks. start_in false ks i) (kinds_at ts i d h)

not_true : (b : Bool) → not b ≡ true → b ≡ false
not_true true h = absurd (cc)
not_true false h = refl

not_false : (b : Bool) → not b ≡ false → b ≡ true
not_false true h = refl
not_false false h = absurd (cc)

map-append : {A B : Type 0} (f : A → B) (a b : List A) → map f (a ++ b) ≡ map f a ++ map f b
map-append f [] b = refl
map-append f (x ∷ a) b = ap (λ ys. f x ∷ ys) (map-append f a b)

-- the statements so far, with those from a token on, are the same at the next token
pub statements_step : (ts : List Token) (i : ℕ) (d : Token) (fresh next : Bool) (old new all : List StatementPlace)
    → i < length ts → true ≡ goes_on (kinds_of (drop i ts)) → next ≡ ends_part (get_or ts i d).what
    → new ≡ old ++ map (statement_place ts) (start_in fresh (kinds_of (drop i ts)) i)
    → old ++ map (statement_place ts) (statements_from fresh i (kinds_of (drop i ts))) ≡ all
    → new ++ map (statement_place ts) (statements_from next (i + 1) (kinds_of (drop (i + 1) ts))) ≡ all
statements_step ts i d fresh next old new all h goes e f g =
    let rest = kinds_of (drop (i + 1) ts) in
    let after = statements_from next (i + 1) rest in
    let first = start_in fresh (kinds_of (drop i ts)) i in
    let whole : statements_from fresh i (kinds_of (drop i ts)) ≡ first ++ after =
    by (kinds_of (drop i ts)) (get_or ts i d).what rest (kinds_at ts i d h) (sym goes)
    ∙ ap (λ b. first ++ statements_from b (suc i) rest) (sym e)
    ∙ ap (λ n. first ++ statements_from next n rest) (let s : suc i ≡ i + 1 = omega arith in s) in
    ap (λ zs. zs ++ map (statement_place ts) after) f
    ∙ append_assoc old (map (statement_place ts) first) (map (statement_place ts) after)
    ∙ ap (λ zs. old ++ zs)
    (sym (map-append (statement_place ts) first after) ∙ ap (map (statement_place ts)) (sym whole))
    ∙ g
  where
    by : (ks : List Tok) (t : Tok) (rest : List Tok) → ks ≡ t ∷ rest → goes_on ks ≡ true
        → statements_from fresh i ks ≡ start_in fresh ks i ++ statements_from (ends_part t) (suc i) rest
    by ks t rest e g =
        let off : is_behind t ≡ false = not_true (is_behind t) (sym (ap goes_on e) ∙ g) in
        subst (λ l. statements_from fresh i l ≡ start_in fresh l i ++ statements_from (ends_part t) (suc i) rest)
        (sym e) (rw off)

-- the last brace from a token on is the same at the next token
pub brace_step : (ts : List Token) (i : ℕ) (d : Token) (last next all : ℕ)
    → i < length ts → true ≡ goes_on (kinds_of (drop i ts)) → next ≡ last_brace (kinds_of (drop i ts)) i last
    → brace_from last i (kinds_of (drop i ts)) ≡ all
    → brace_from next (i + 1) (kinds_of (drop (i + 1) ts)) ≡ all
brace_step ts i d last next all h goes e g =
    let rest = kinds_of (drop (i + 1) ts) in
    ap (λ b. brace_from b (i + 1) rest) e
    ∙ ap (λ n. brace_from (last_brace (kinds_of (drop i ts)) i last) n rest) (let s : i + 1 ≡ suc i = omega arith in s)
    ∙ sym (by (kinds_of (drop i ts)) (get_or ts i d).what rest (kinds_at ts i d h) (sym goes))
    ∙ g
  where
    by : (ks : List Tok) (t : Tok) (rest : List Tok) → ks ≡ t ∷ rest → goes_on ks ≡ true
        → brace_from last i ks ≡ brace_from (last_brace ks i last) (suc i) rest
    by ks t rest e g =
        let off : is_behind t ≡ false = not_true (is_behind t) (sym (ap goes_on e) ∙ g) in
        subst (λ l. brace_from last i l ≡ brace_from (last_brace l i last) (suc i) rest) (sym e) (rw off)

-- where the task doesn't go on, its parts were found
no_statements : (fresh : Bool) (n : ℕ) (ks : List Tok) → goes_on ks ≡ false → statements_from fresh n ks ≡ []
no_statements fresh n [] h = refl
no_statements fresh n (t ∷ rest) h = let on : is_behind t ≡ true = not_false (is_behind t) h in rw on

no_brace : (last n : ℕ) (ks : List Tok) → goes_on ks ≡ false → brace_from last n ks ≡ last
no_brace last n [] h = refl
no_brace last n (t ∷ rest) h = let on : is_behind t ≡ true = not_false (is_behind t) h in rw on

append-nil : {A : Type 0} (xs : List A) → xs ++ [] ≡ xs
append-nil [] = refl
append-nil (x ∷ xs) = ap (λ ys. x ∷ ys) (append-nil xs)

pub task_found : (ts : List Token) (at i : ℕ) (d e : Token) (fresh : Bool) (brace : ℕ) (found : List StatementPlace)
    → at < length ts → brace < length ts → false ≡ goes_on (kinds_of (drop i ts))
    → found ++ map (statement_place ts) (statements_from fresh i (kinds_of (drop i ts)))
    ≡ map (statement_place ts) (statements_from false (suc at) (kinds_of (drop (at + 1) ts)))
    → brace_from brace i (kinds_of (drop i ts)) ≡ brace_from at (suc at) (kinds_of (drop (at + 1) ts))
    → ◌≡◌ {A = PlacesOfTask}
    (record { at = (get_or ts at d).at; statements = found; brace = (get_or ts brace e).at })
    (task_place ts (task_from at (kinds_of (drop (at + 1) ts))))
task_found ts at i d e fresh brace found h l stops statements braces =
    let s : found ≡ map (statement_place ts) (statements_from false (suc at) (kinds_of (drop (at + 1) ts))) =
    sym (append-nil found)
    ∙ ap (λ zs. found ++ map (statement_place ts) zs)
    (sym (no_statements fresh i (kinds_of (drop i ts)) (sym stops)))
    ∙ statements in
    let b : (get_or ts brace e).at ≡ place_at ts (brace_from at (suc at) (kinds_of (drop (at + 1) ts))) =
    place_read ts brace e l
    ∙ ap (place_at ts) (sym (no_brace brace i (kinds_of (drop i ts)) (sym stops)) ∙ braces) in
    together (place_read ts at d h) s b
  where
    together : {x y b c : Place} {ss rs : List StatementPlace} → x ≡ y → ss ≡ rs → b ≡ c
        → ◌≡◌ {A = PlacesOfTask} (record { at = x; statements = ss; brace = b })
        (record { at = y; statements = rs; brace = c })
    together p q r = cc

-- ---- tasks

pub task_at : (ts : List Token) (i : ℕ) (d : Token) (b : Bool) → i < length ts → b ≡ begins_task (get_or ts i d).what
    → b ≡ true → task_from i (kinds_of (drop (i + 1) ts)) ∷ [] ≡ task_in (kinds_of (drop i ts)) i
task_at ts i d b h e f =
    by (kinds_of (drop i ts)) (get_or ts i d).what (kinds_of (drop (i + 1) ts)) (kinds_at ts i d h) (sym e ∙ f)
  where
    by : (ks : List Tok) (t : Tok) (rest : List Tok) → ks ≡ t ∷ rest → begins_task t ≡ true
        → task_from i rest ∷ [] ≡ task_in ks i
    by ks t rest e g = subst (λ l. task_from i rest ∷ [] ≡ task_in l i) (sym e) (rw g)

pub no_task_at : (ts : List Token) (i : ℕ) (d : Token) (b : Bool) → i < length ts
    → b ≡ begins_task (get_or ts i d).what → b ≡ false → task_in (kinds_of (drop i ts)) i ≡ []
no_task_at ts i d b h e f =
    by (kinds_of (drop i ts)) (get_or ts i d).what (kinds_of (drop (i + 1) ts)) (kinds_at ts i d h) (sym e ∙ f)
  where
    by : (ks : List Tok) (t : Tok) (rest : List Tok) → ks ≡ t ∷ rest → begins_task t ≡ false → task_in ks i ≡ []
    by ks t rest e g = subst (λ l. task_in l i ≡ []) (sym e) (rw g)

-- one task more
pub task_pushed : (ts : List Token) (old new : List TaskPlaces) (found : TaskPlaces) (p : TaskStart)
    (starts : List TaskStart) → new ≡ old ++ found ∷ [] → view_task found ≡ task_place ts p → p ∷ [] ≡ starts
    → map view_task new ≡ map view_task old ++ map (task_place ts) starts
task_pushed ts old new found p starts e f g =
    ap (map view_task) e ∙ map-append view_task old (found ∷ [])
    ∙ ap (λ t. map view_task old ++ t ∷ []) f
    ∙ ap (λ ss. map view_task old ++ map (task_place ts) ss) g

step_at : (ts : List Token) (i : ℕ) (d : Token) (old new all : List PlacesOfTask) → i < length ts
    → new ≡ old ++ map (task_place ts) (task_in (kinds_of (drop i ts)) i)
    → old ++ map (task_place ts) (tasks_from i (kinds_of (drop i ts))) ≡ all
    → new ++ map (task_place ts) (tasks_from (i + 1) (kinds_of (drop (i + 1) ts))) ≡ all
step_at ts i d old new all h e g =
    let rest = kinds_of (drop (i + 1) ts) in
    let after = tasks_from (i + 1) rest in
    let first = task_in (kinds_of (drop i ts)) i in
    let whole : tasks_from i (kinds_of (drop i ts)) ≡ first ++ after =
    by (kinds_of (drop i ts)) (get_or ts i d).what rest (kinds_at ts i d h)
    ∙ ap (λ n. first ++ tasks_from n rest) (let s : suc i ≡ i + 1 = omega arith in s) in
    ap (λ zs. zs ++ map (task_place ts) after) e
    ∙ append_assoc old (map (task_place ts) first) (map (task_place ts) after)
    ∙ ap (λ zs. old ++ zs) (sym (map-append (task_place ts) first after) ∙ ap (map (task_place ts)) (sym whole))
    ∙ g
  where
    by : (ks : List Tok) (t : Tok) (rest : List Tok) → ks ≡ t ∷ rest
        → tasks_from i ks ≡ task_in ks i ++ tasks_from (suc i) rest
    by ks t rest e = subst (λ l. tasks_from i l ≡ task_in l i ++ tasks_from (suc i) rest) (sym e) refl

-- the tasks so far, with those from a token on, are the same at the next token
pub tasks_step : (ts : List Token) (i : ℕ) (old new all : List PlacesOfTask) → i < length ts
    → new ≡ old ++ map (task_place ts) (task_in (kinds_of (drop i ts)) i)
    → old ++ map (task_place ts) (tasks_from i (kinds_of (drop i ts))) ≡ all
    → new ++ map (task_place ts) (tasks_from (i + 1) (kinds_of (drop (i + 1) ts))) ≡ all
tasks_step [] i old new all h e g = absurd (omega arith)
tasks_step (t ∷ ts) i old new all h e g = step_at (t ∷ ts) i t old new all h e g

pub tasks_end : (ts : List Token) (i : ℕ) (found all : List PlacesOfTask) → length ts ≤ i
    → found ++ map (task_place ts) (tasks_from i (kinds_of (drop i ts))) ≡ all → found ≡ all
tasks_end ts i found all h e =
    sym (append-nil found)
    ∙ ap (λ ks. found ++ map (task_place ts) (tasks_from i ks)) (sym (kinds_past ts i h)) ∙ e

-- what was read off the tokens is right for each derivation
pub found_right : {E : Type 0} (ts : List Token) (r : Result ScriptPlaces E)
    → IfOk r (λ found. view found ≡ places_of ts (tasks_from 0 (kinds_of ts)))
    → IfOk r (λ found. (notes : List Noted) (script : List Task) (derived : IsProgram notes script)
    → kinds_of ts ≡ tokens_of notes ++ toks.End ∷ [] → view found ≡ places_of ts (in_tasks derived 0))
found_right ts (Ok found) h = λ notes script derived e.
    h ∙ ap (λ ks. places_of ts (tasks_from 0 ks)) e ∙ ap (places_of ts) (tasks_scan derived 0)
found_right ts (Err error) h = tt

pub both_places : {a b : Place} {x y : Option Place} → a ≡ b → x ≡ y
    → ◌≡◌ {A = StatementPlace} (record { at = a; ask = x }) (record { at = b; ask = y })
both_places e f = cc
