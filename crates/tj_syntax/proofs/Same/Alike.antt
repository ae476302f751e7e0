-- Two lists of tokens that begin alike are read alike as far as they are; so a token that was refused can't follow.
use Rattle.std.proofs.Common.{◌≡◌, ◌⊎◌, inl, inr, ⊎_elim, ℕ, ◌+◌, ◌≤◌, true, false, List, [], ◌∷◌, ◌++◌, length, map}
use Rattle.std.proofs.Common.{Option, Some, None, Ok, Err, refl, ap, sym, ◌∙◌, subst, arith, append_assoc}
use Rattle.std.proofs.Common.{length-append}
use Rattle.std.proofs.lemmas.List.{append-nil, map-append, length-map}
use Rattle.tj_lex.specs.declared.token.Token.{Token}
use Rattle.tj_lex.specs.declared.token.Tok.{Tok}
use Rattle.tj_lex.specs.declared.token.Tok.TheVariants as toks
use Rattle.tj_syntax.specs.declared.fault.Stop.{Stop}
use Rattle.tj_syntax.specs.declared.fault.Stop.TheVariants as stop
use Rattle.tj_syntax.specs.Trees.{Task}
use Rattle.tj_syntax.specs.Marks.{Noted, fine, broken, forks, declares}
use Rattle.tj_syntax.specs.Grammar.{IsProgram}
use Rattle.tj_syntax.specs.Faults.{tokens_of, kinds_of, Begins, CanFollow}
use Rattle.tj_syntax.specs.Inner.Input.{Head, Outcome, first}
use Rattle.tj_syntax.specs.Inner.Reading.{tasks, tasks_from}
use Rattle.tj_syntax.proofs.Taken.{length-tokens_of}
use Rattle.tj_syntax.proofs.Complete.Steps.{at, Does, fault_in}
use Rattle.tj_syntax.proofs.Complete.Task.{tasks_reads}
use Rattle.tj_syntax.proofs.Complete.Script.{some_head, some_names}
use Rattle.tj_syntax.proofs.Same.Notes.{is_end, AreEndless, tasks_endless}
use Rattle.tj_syntax.proofs.Same.AlikeSteps.{Cause, refused, broke, stop_for, left_at, left_behind, Alike, read, stopped}
use Rattle.tj_syntax.proofs.Same.AlikeSteps.{gone, any}
use Rattle.tj_syntax.proofs.Same.AlikeTask.{tasks_local}

-- ---- the same stop

-- what a stop is for, and where
abbrev pub SameStop : Cause → ℕ → Cause → ℕ → Type 0
SameStop c n d l = (c ≡ d) × (n ≡ l)

stop_inj : (c d : Cause) (n l : ℕ) → stop_for c n ≡ stop_for d l → SameStop c n d l
stop_inj refused refused n l h = (refl, let e : n ≡ l = cc in e)
stop_inj refused (broke b) n l h = absurd (cc)
stop_inj (broke b) refused n l h = absurd (cc)
stop_inj (broke b) (broke e) n l h = (let same : b ≡ e = cc in ap broke same, let same : n ≡ l = cc in same)

pub left-is : (cause : Cause) (left : ℕ) → left_at (stop_for cause left) ≡ left
left-is refused left = refl
left-is (broke b) left = refl

-- where one list of tokens is stopped at or before the token behind a common front, the other is stopped there too
pub record StopsToo (x y : List Tok) (cause : Cause) (left : ℕ) (outcome : Outcome (List Task)) : Type 0 where
  pub before : List Tok
  pub there : left ≡ length (before ++ x)
  pub stops : outcome ≡ Err (stop_for cause (length (before ++ y)))

pub stops_too : (x y before : List Tok) (heads heads' : List Head) (flaw flaw' : Option Stop) (cause : Cause)
    (left : ℕ) → first x ≡ first y
    → tasks (at heads (before ++ x) [] flaw) ≡ Err (stop_for cause left) → length x ≤ left
    → StopsToo x y cause left (tasks (at heads' (before ++ y) [] flaw'))
stops_too x y before heads heads' flaw flaw' cause left same h enough =
    by (tasks (at heads (before ++ x) [] flaw)) (tasks (at heads' (before ++ y) [] flaw'))
    ((tasks_local (length (before ++ x)) (length (before ++ y))).alike x y before [] heads heads' flaw flaw' same
    (omega arith) (omega arith)) h
  where
    by : (r s : Outcome (List Task)) → Alike x y any (length (before ++ x)) (length (before ++ y)) r s
        → r ≡ Err (stop_for cause left)
        → StopsToo x y cause left s
    by r s (read _ _ _ _ _ _ _ _ _ _ _) e = absurd (cc)
    by r s (stopped b why) e =
        let alike : stop_for why (length (b ++ x)) ≡ stop_for cause left = cc in
        let both = stop_inj why cause (length (b ++ x)) left alike in
        record { before = b; there = sym both.1; stops = ap (λ c. Err (stop_for c (length (b ++ y)))) both.0 }
    by r s (gone _ _ short) e =
        let there : left_behind r ≡ left = ap (λ (o : Outcome (List Task)). left_behind o) e ∙ left-is cause left in
        absurd (omega arith)

-- ---- sentences

-- A sentence is read whole with heads of its own names, or stops at its first broken note.
pub record ReadsSentence (notes : List Noted) (script : List Task) (flaw : Option Stop) : Type 0 where
  pub behind : Option Stop
  pub does : Does (map some_head script) (tasks (at (map some_head script) (tokens_of notes) [] flaw)) notes [] []
      behind script

pub sentence_reads : (notes : List Noted) (script : List Task) → IsProgram notes script → (flaw : Option Stop)
    → ReadsSentence notes script flaw
unfolding tasks
sentence_reads notes script derived flaw =
    let heads = map some_head script in
    let size : length (tokens_of notes) ≡ length notes = length-tokens_of notes in
    let d = tasks_reads heads (map (λ (t : Task). t.name) script) (some_names script) derived
    (length (tokens_of notes)) (omega arith) [] refl flaw in
    record {
      behind = d.behind;
      does = subst (λ ts. Does heads (tasks_from (length (tokens_of notes)) [] (at heads ts [] flaw)) notes [] []
          d.behind script) (append-nil (tokens_of notes)) d.done.does;
    }

only_broken : (notes : List Noted) (left n : ℕ) → fault_in notes left ≡ Some (stop.Expected n) → ⊥
only_broken [] left n h = cc
only_broken ((t, fine) ∷ notes) left n h = only_broken notes left n h
only_broken ((t, broken b) ∷ notes) left n h = cc
only_broken ((t, forks c) ∷ notes) left n h = only_broken notes left n h
only_broken ((t, declares c) ∷ notes) left n h = only_broken notes left n h

-- no token of a sentence is refused
pub never_refused : (notes : List Noted) (script : List Task) → IsProgram notes script → (flaw : Option Stop) (n : ℕ)
    → tasks (at (map some_head script) (tokens_of notes) [] flaw) ≡ Err (stop.Expected n) → ⊥
never_refused notes script derived flaw n h = by (fault_in notes 0) refl
  where
    by : (o : Option Stop) → fault_in notes 0 ≡ o → ⊥
    by None e =
        let ok = (sentence_reads notes script derived flaw).does.reads e in
        let both : ◌≡◌ {A = Outcome (List Task)} (Err (stop.Expected n))
        (Ok (script, at (map some_head script) [] [] (sentence_reads notes script derived flaw).behind)) = sym h ∙ ok in
        cc
    by (Some s) e =
        let err = (sentence_reads notes script derived flaw).does.stops s e in
        let both : ◌≡◌ {A = Outcome (List Task)} (Err s) (Err (stop.Expected n)) = sym err ∙ h in
        let same : s ≡ stop.Expected n = cc in
        only_broken notes 0 n (e ∙ ap (λ t. Some t) same)

pub no_end_within : (notes : List Noted) → AreEndless notes → (front more : List Tok)
    → tokens_of notes ≡ front ++ toks.End ∷ more → ⊥
no_end_within [] h [] more e = cc
no_end_within [] h (t ∷ front) more e = cc
no_end_within (n ∷ notes) h [] more e =
    let first : n.0 ≡ toks.End = cc in
    let both : ◌≡◌ true false = sym (ap is_end first) ∙ h.0 in
    cc
no_end_within (n ∷ notes) h (t ∷ front) more e =
    no_end_within notes h.1 front more (let behind : tokens_of notes ≡ front ++ toks.End ∷ more = cc in behind)

-- ---- lists that end so

-- the last of a list stands at an index, or behind it
abbrev pub LastOf : (a : List Tok) → Tok → List Tok → Tok → List Tok → Type 0
LastOf a t front u back = ((back ≡ []) × (a ≡ front) × (t ≡ u)) ⊎
    ((more : List Tok) × (a ≡ front ++ u ∷ more) × (back ≡ more ++ t ∷ []))

pub last_of : (a : List Tok) (t : Tok) (front : List Tok) (u : Tok) (back : List Tok)
    → a ++ t ∷ [] ≡ front ++ u ∷ back → LastOf a t front u back
last_of [] t [] u [] h = inl (refl, refl, let e : t ≡ u = cc in e)
last_of [] t [] u (v ∷ back) h = absurd (cc)
last_of [] t (v ∷ []) u back h = absurd (cc)
last_of [] t (v ∷ w ∷ front) u back h = absurd (cc)
last_of (x ∷ a) t [] u back h =
    let e : x ≡ u = cc in
    inr (a, ap (λ z. z ∷ a) e, let r : a ++ t ∷ [] ≡ back = cc in sym r)
last_of (x ∷ a) t (v ∷ front) u back h =
    let e : x ≡ v = cc in
    let behind : a ++ t ∷ [] ≡ front ++ u ∷ back = cc in
    ⊎_elim (λ p. inl (p.0, ap (λ z. z ∷ a) e ∙ ap (λ l. v ∷ l) p.1, p.2))
    (λ p. inr (p.0, ap (λ z. z ∷ a) e ∙ ap (λ l. v ∷ l) p.1, p.2)) (last_of a t front u back behind)

-- ---- a token that was refused

-- No sentence begins with the tokens up to and with one that was refused. The end stands nowhere but last: behind a
-- whole sentence an earlier one would be refused too, and yet a sentence begins (and ends) so.
pub refused_cant_follow : (heads : List Head) (body : List Tok) (flaw : Option Stop) (left : ℕ)
    (front back : List Tok) (token : Tok)
    → tasks (at heads body [] flaw) ≡ Err (stop.Expected left)
    → body ++ toks.End ∷ [] ≡ front ++ token ∷ back → length back ≡ left → (token ≡ toks.End → back ≡ [])
    → Begins (front ++ token ∷ []) → ⊥
refused_cant_follow heads body flaw left front back token stops spells count last begins =
    ⊎_elim at_last within (last_of body toks.End front token back spells)
  where
    notes : List Noted
    notes = begins.notes

    whole : tokens_of notes ++ toks.End ∷ [] ≡ front ++ token ∷ begins.more
    whole = sym begins.spells ∙ append_assoc front (token ∷ []) begins.more

    -- the sentence would be refused at the same token
    same : (x y : List Tok) → first x ≡ first y → body ≡ front ++ x → tokens_of notes ≡ front ++ y → length x ≤ left → ⊥
    same x y e is is' enough =
        let begun : tasks (at heads (front ++ x) [] flaw) ≡ Err (stop_for refused left) =
        subst (λ l. ◌≡◌ {A = Outcome (List Task)} (tasks (at heads l [] flaw)) (Err (stop.Expected left))) is stops in
        let too = stops_too x y front heads (map some_head begins.script) flaw flaw refused left e begun enough in
        never_refused notes begins.script begins.derived flaw (length (too.before ++ y))
        (subst (λ l. ◌≡◌ {A = Outcome (List Task)} (tasks (at (map some_head begins.script) l [] flaw))
        (Err (stop.Expected (length (too.before ++ y))))) (sym is') too.stops)

    -- it is the end
    at_last : (back ≡ []) × (body ≡ front) × (toks.End ≡ token) → ⊥
    at_last p = ⊎_elim
        (λ q. same [] [] refl (p.1 ∙ sym (append-nil front)) (q.1 ∙ sym (append-nil front)) (omega arith))
        (λ q. no_end_within notes (tasks_endless begins.derived) front q.0 (q.1 ∙ ap (λ t. front ++ t ∷ q.0) (sym p.2)))
        (last_of (tokens_of notes) toks.End front token begins.more whole)

    -- it stands before the end
    within : (more : List Tok) × (body ≡ front ++ token ∷ more) × (back ≡ more ++ toks.End ∷ []) → ⊥
    within p =
        let size : length back ≡ length p.0 + 1 = ap length p.2 ∙ length-append p.0 (toks.End ∷ []) in
        ⊎_elim
        (λ q. let none : length back ≡ 0 = ap length (last (sym q.2)) in omega arith)
        (λ q. same (token ∷ p.0) (token ∷ q.0) refl p.1 q.1 (omega arith))
        (last_of (tokens_of notes) toks.End front token begins.more whole)

-- a token that was refused can't follow those in front of it
pub refused_token : (heads : List Head) (body : List Token) (end : Token) (flaw : Option Stop) (left : ℕ)
    (front back : List Token) (token : Token)
    → tasks (at heads (kinds_of body) [] flaw) ≡ Err (stop.Expected left)
    → body ++ end ∷ [] ≡ front ++ token ∷ back → end.what ≡ toks.End → length back ≡ left
    → CanFollow front back token → ⊥
refused_token heads body end flaw left front back token stops spells ends count can =
    let kind : Token → Tok = λ t. t.what in
    let whole : kinds_of body ++ toks.End ∷ [] ≡ kinds_of front ++ token.what ∷ kinds_of back =
    ap (λ t. kinds_of body ++ t ∷ []) (sym ends) ∙ sym (map-append kind body (end ∷ [])) ∙ ap kinds_of spells
    ∙ map-append kind front (token ∷ back) in
    refused_cant_follow heads (kinds_of body) flaw left (kinds_of front) (kinds_of back) token.what stops whole
    (length-map back kind ∙ count) (λ e. ap kinds_of (can.is_last e))
    (subst Begins (map-append kind front (token ∷ [])) can.begins)
