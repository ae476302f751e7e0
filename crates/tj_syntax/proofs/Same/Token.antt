-- A fault that stands at a token is the stop of the reading of a script.
use Rattle.std.proofs.Common.{◌≡◌, ⊎_elim, ℕ, suc, ◌+◌, ◌-◌, ◌≤◌, ◌<◌, List, [], ◌∷◌, ◌++◌, length, map, Option, Some}
use Rattle.std.proofs.Common.{None, Ok, Err, refl, ap, sym, ◌∙◌, subst, arith, append_assoc, length-append}
use Rattle.std.proofs.lemmas.Bool.{cases_lt}
use Rattle.std.proofs.lemmas.List.{append-nil}
use Rattle.tj_lex.specs.declared.token.Token.{Token}
use Rattle.tj_lex.specs.declared.token.Tok.{Tok}
use Rattle.tj_lex.specs.declared.token.Tok.TheVariants as toks
use Rattle.tj_syntax.specs.declared.fault.Breach.{Breach}
use Rattle.tj_syntax.specs.declared.fault.Stop.{Stop}
use Rattle.tj_syntax.specs.declared.fault.Stop.TheVariants as stop
use Rattle.tj_syntax.specs.declared.fault.ParseFault.TheVariants as faults
use Rattle.tj_syntax.specs.Trees.{Task}
use Rattle.tj_syntax.specs.Marks.{Noted, fine, broken, forks, declares}
use Rattle.tj_syntax.specs.Grammar.{IsProgram}
use Rattle.tj_syntax.specs.Faults.{tokens_of, kinds_of, AreUnbroken, BeginsWith, CanFollow, fault_of}
use Rattle.tj_syntax.specs.Inner.Input.{Head, Outcome, heads_from, first_flaw}
use Rattle.tj_syntax.specs.Inner.Reading.{tasks}
use Rattle.tj_syntax.proofs.Taken.{tokens_of-append, length-tokens_of}
use Rattle.tj_syntax.proofs.Sound.Script.{start_of, tasks_sound}
use Rattle.tj_syntax.proofs.Complete.Steps.{at, fault_in, fault_in-append}
use Rattle.tj_syntax.proofs.Complete.Script.{some_head, last_cancel, no_fault}
use Rattle.tj_syntax.proofs.Stops.FirstFault.{kinds_of-append, length-kinds_of, Begun, begun}
use Rattle.tj_syntax.proofs.Same.Notes.{tasks_endless}
use Rattle.tj_syntax.proofs.Same.AlikeSteps.{Cause, refused, broke, stop_for, left_at, left_behind}
use Rattle.tj_syntax.proofs.Same.AlikeTask.{tasks_local}
use Rattle.tj_syntax.proofs.Same.Alike.{stops_too, ReadsSentence, sentence_reads, left-is, no_end_within, last_of}
use Rattle.tj_syntax.proofs.Same.Stop.{stop_in, IsOfStop}

-- ---- a token

-- a token of the body, or the end
record IsBodyOrEnd (ts : List Tok) (front : List Tok) (back : List Token) : Type 0 where
  behind : List Tok
  body : ts ≡ front ++ behind
  count : length behind ≡ length back

body_or_end : (ts : List Tok) (front : List Tok) (t : Tok) (back : List Token)
    → ts ++ toks.End ∷ [] ≡ front ++ t ∷ kinds_of back → IsBodyOrEnd ts front back
body_or_end ts front t back e =
    ⊎_elim
    (λ p. record {
      behind = [];
      body = p.1 ∙ sym (append-nil front);
      count = sym (ap length p.0) ∙ length-kinds_of back;
    })
    (λ p. let size : length (p.0 ++ toks.End ∷ []) ≡ length p.0 + 1 = length-append p.0 (toks.End ∷ []) in
    record {
      behind = t ∷ p.0;
      body = p.1;
      count = let all : length back ≡ length (p.0 ++ toks.End ∷ []) = sym (length-kinds_of back) ∙ ap length p.2 in
          omega arith;
    })
    (last_of ts toks.End front t (kinds_of back) e)

-- a list, parted where so many stand behind
record IsParted (l : List Tok) (n : ℕ) : Type 0 where
  front : List Tok
  back : List Tok
  token : Tok
  is : l ≡ front ++ token ∷ back
  count : length back ≡ n

parted_by : (l : List Tok) (n : ℕ) → n < length l → IsParted l n
parted_by [] n h = absurd (omega arith)
parted_by (t ∷ l) n h =
    ⊎_elim
    (λ e. let p = parted_by l n e in record {
      front = t ∷ p.front;
      back = p.back;
      token = p.token;
      is = ap
          (λ r. t ∷ r) p.is;
      count = p.count;
    })
    (λ e. record { front = []; back = l; token = t; is = refl; count = omega arith })
    (cases_lt n (length l))

-- a stop is within what is left
fault_within : (notes : List Noted) (left : ℕ) (s : Stop) → fault_in notes left ≡ Some s
    → left_at s ≤ length notes + left
fault_within [] left s h = absurd (cc)
fault_within ((t, fine) ∷ notes) left s h = let more = fault_within notes left s h in omega arith
fault_within ((t, broken b) ∷ notes) left s h =
    let same : stop.Broken b (suc (length notes + left)) ≡ s = cc in
    let its : suc (length notes + left) ≡ left_at s = ap left_at same in
    omega arith
fault_within ((t, forks c) ∷ notes) left s h = let more = fault_within notes left s h in omega arith
fault_within ((t, declares c) ∷ notes) left s h = let more = fault_within notes left s h in omega arith

-- a sentence isn't stopped within notes that break nothing
not_stopped : (notes back : List Noted) (script : List Task) → IsProgram (notes ++ back) script → AreUnbroken notes
    → (cause : Cause) (left : ℕ)
    → tasks (at (map some_head script) (tokens_of (notes ++ back)) [] None) ≡ Err (stop_for cause left)
    → length back < left → ⊥
not_stopped notes back script derived unbroken cause left h far = by (fault_in (notes ++ back) 0) refl
  where
    its : ReadsSentence (notes ++ back) script None
    its = sentence_reads (notes ++ back) script derived None

    by : (o : Option Stop) → fault_in (notes ++ back) 0 ≡ o → ⊥
    by None e =
        let both : ◌≡◌ {A = Outcome (List Task)} (Err (stop_for cause left))
        (Ok (script, at (map some_head script) [] [] its.behind)) = sym h ∙ its.does.reads e in
        cc
    by (Some s) e =
        let both : ◌≡◌ {A = Outcome (List Task)} (Err s) (Err (stop_for cause left)) = sym (its.does.stops s e) ∙ h in
        let same : s ≡ stop_for cause left = cc in
        let later : fault_in back 0 ≡ Some s =
        sym (ap (λ f. first_flaw f (fault_in back 0)) (no_fault notes (length back + 0) unbroken))
        ∙ sym (fault_in-append notes back 0) ∙ e in
        let near = fault_within back 0 s later in
        let its_left : left_at s ≡ left = ap left_at same ∙ left-is cause left in
        omega arith

-- tokens that begin a sentence whose notes break nothing don't stop the reading
front_read : (ts : List Tok) (front : List Tok) (t : Tok) (back : List Token) (notes : List Noted)
    → ts ++ toks.End ∷ [] ≡ front ++ t ∷ kinds_of back
    → BeginsWith front notes → AreUnbroken notes → (cause : Cause) (left : ℕ)
    → tasks (start_of ts) ≡ Err (stop_for cause left) → left ≤ length back
front_read ts front t back notes e begins unbroken cause left h =
    ⊎_elim (λ far. absurd (by far)) (λ y. y) (cases_lt (length back) left)
  where
    there : IsBodyOrEnd ts front back
    there = body_or_end ts front t back e

    by : length back < left → ⊥
    by far =
        let narrow : left_behind (tasks (start_of ts)) ≤ length ts = (tasks_local 0 0).narrow.stays (start_of ts) in
        let its : left_behind (tasks (start_of ts)) ≡ left = ap (λ (o : Outcome (List Task)). left_behind o) h
        ∙ left-is cause left in
        let size : length ts ≡ length front + length back = ap length there.body ∙ length-append front there.behind
        ∙ ap (λ n. length front + n) there.count in
        let p = parted_by front (left - length back - 1) (omega arith) in
        let x = p.token ∷ (p.back ++ there.behind) in
        let y = p.token ∷ (p.back ++ tokens_of begins.back) in
        let body : ts ≡ p.front ++ x = there.body ∙ ap (λ l. l ++ there.behind) p.is
        ∙ append_assoc p.front (p.token ∷ p.back) there.behind in
        let others : tokens_of (notes ++ begins.back) ≡ p.front ++ y =
        tokens_of-append notes begins.back ∙ ap (λ l. l ++ tokens_of begins.back) (sym begins.spells ∙ p.is)
        ∙ append_assoc p.front (p.token ∷ p.back) (tokens_of begins.back) in
        let far_enough : length x ≡ left =
        let n : length (p.back ++ there.behind) ≡ length p.back + length there.behind =
        length-append p.back there.behind in
        let c = p.count in let d = there.count in omega arith in
        let heads = heads_from [] ts in
        let stopped : tasks (at heads (p.front ++ x) [] None) ≡ Err (stop_for cause left) =
        subst (λ l. ◌≡◌ {A = Outcome (List Task)} (tasks (at heads l [] None)) (Err (stop_for cause left))) body h in
        let too = stops_too x y p.front heads (map some_head begins.script) None None cause left refl stopped
        (omega arith) in
        let longer : length (too.before ++ y) ≡ length too.before + length y = length-append too.before y in
        let rest : length (p.back ++ tokens_of begins.back) ≡ length p.back + length begins.back =
        length-append p.back (tokens_of begins.back) ∙ ap (λ n. length p.back + n) (length-tokens_of begins.back) in
        not_stopped notes begins.back begins.script begins.derived unbroken cause (length (too.before ++ y))
        (subst (λ l. ◌≡◌ {A = Outcome (List Task)} (tasks (at (map some_head begins.script) l [] None))
        (Err (stop_for cause (length (too.before ++ y))))) (sym others) too.stops)
        (omega arith)

-- the kinds of tokens, parted at one
kinds_at : (tokens front back : List Token) (token : Token) (ts : List Tok) → kinds_of tokens ≡ ts ++ toks.End ∷ []
    → tokens ≡ front ++ token ∷ back
    → ts ++ toks.End ∷ [] ≡ kinds_of front ++ token.what ∷ kinds_of back
kinds_at tokens front back token ts whole parts = sym whole ∙ ap kinds_of parts ∙ kinds_of-append front (token ∷ back)

-- a broken note is the first
first_broken : (notes back : List Noted) (t : Tok) (b : Breach) → AreUnbroken notes
    → fault_in (notes ++ (t, broken b) ∷ back) 0 ≡ Some (stop.Broken b (suc (length back)))
first_broken notes back t b unbroken =
    let size : length back + 0 ≡ length back = omega arith in
    fault_in-append notes ((t, broken b) ∷ back) 0
    ∙ ap (λ f. first_flaw f (fault_in ((t, broken b) ∷ back) 0))
    (no_fault notes (length ((t, broken b) ∷ back) + 0) unbroken)
    ∙ ap (λ n. Some (stop.Broken b (suc n))) size

-- where a token breaks a rule, the reading stops there for it
pub breach_stops : (tokens : List Token) (ts : List Tok) (front back : List Token) (token : Token)
    (notes : List Noted) (breach : Breach)
    → kinds_of tokens ≡ ts ++ toks.End ∷ [] → tokens ≡ front ++ token ∷ back
    → BeginsWith (kinds_of (front ++ token ∷ [])) (notes ++ (token.what, broken breach) ∷ []) → AreUnbroken notes
    → IsOfStop tokens ts (fault_of breach token.at)
breach_stops tokens ts front back token notes breach whole parts begins unbroken =
    ⊎_elim (λ p. absurd (no_end p.2)) (λ p. stops p.0 p.1 p.2)
    (last_of ts toks.End (kinds_of front) token.what (kinds_of back) (kinds_at tokens front back token ts whole parts))
  where
    noted : Noted
    noted = (token.what, broken breach)

    own : List Head
    own = map some_head begins.script

    all : List Noted
    all = notes ++ noted ∷ begins.back

    derived : IsProgram all begins.script
    derived = subst (λ ns. IsProgram ns begins.script) (append_assoc notes (noted ∷ []) begins.back) begins.derived

    fronts : kinds_of front ≡ tokens_of notes
    fronts = last_equal (sym (kinds_of-append front (token ∷ [])) ∙ begins.spells ∙ tokens_of-append notes (noted ∷ []))
      where
        last_equal : kinds_of front ++ token.what ∷ [] ≡ tokens_of notes ++ token.what ∷ []
            → kinds_of front ≡ tokens_of notes
        last_equal e = last_cancel (kinds_of front) (tokens_of notes) token.what e

    spelled : tokens_of all ≡ kinds_of front ++ token.what ∷ tokens_of begins.back
    spelled = tokens_of-append notes (noted ∷ begins.back)
        ∙ ap (λ l. l ++ token.what ∷ tokens_of begins.back) (sym fronts)

    no_end : toks.End ≡ token.what → ⊥
    no_end e = no_end_within all (tasks_endless derived) (kinds_of front) (tokens_of begins.back)
        (spelled ∙ ap (λ t. kinds_of front ++ t ∷ tokens_of begins.back) (sym e))

    stops : (more : List Tok) → ts ≡ kinds_of front ++ token.what ∷ more → kinds_of back ≡ more ++ toks.End ∷ []
        → IsOfStop tokens ts (fault_of breach token.at)
    stops more body behind =
        let heads = heads_from [] ts in
        let x = token.what ∷ tokens_of begins.back in
        let y = token.what ∷ more in
        let its : ◌≡◌ {A = Outcome (List Task)} (tasks (at own (tokens_of all) [] None))
        (Err (stop.Broken breach (suc (length begins.back)))) =
        (sentence_reads all begins.script derived None).does.stops (stop.Broken breach (suc (length begins.back)))
        (first_broken notes begins.back token.what breach unbroken) in
        let stopped : tasks (at own (kinds_of front ++ x) [] None) ≡ Err
        (stop_for (broke breach) (suc (length begins.back))) =
        subst (λ l. ◌≡◌ {A = Outcome (List Task)} (tasks (at own l [] None))
        (Err (stop.Broken breach (suc (length begins.back))))) spelled its in
        let long : length (tokens_of begins.back) ≡ length begins.back = length-tokens_of begins.back in
        let too = stops_too x y (kinds_of front) own heads None None (broke breach)
        (suc (length begins.back)) refl stopped (omega arith) in
        let here : length (too.before ++ x) ≡ length too.before + length x = length-append too.before x in
        let there : length (too.before ++ y) ≡ length too.before + length y = length-append too.before y in
        let count : length (kinds_of back) ≡ length more + 1 = ap length behind ∙ length-append more (toks.End ∷ []) in
        let size : length (kinds_of back) ≡ length back = length-kinds_of back in
        let left : length (too.before ++ y) ≡ length back = let e = too.there in omega arith in
        record {
          stop_is = stop.Broken breach (length (too.before ++ y));
          stops = ap (λ o. stop_in heads o)
              (subst (λ l. ◌≡◌ {A = Outcome (List Task)} (tasks (at heads l [] None))
              (Err (stop.Broken breach (length (too.before ++ y))))) (sym body) too.stops);
          front = front;
          back = back;
          token = token;
          whole = parts;
          left = left;
          is = refl;
        }

-- ---- a token that can't follow

-- the part of a list before its last so many
within_front : (a r k : List Tok) (t : Tok) (w : List Tok) → a ++ r ≡ k ++ t ∷ w → length r ≤ length w
    → (more : List Tok) × (a ≡ k ++ t ∷ more)
within_front [] r k t w e h =
    let size : length r ≡ length k + length (t ∷ w) = ap length e ∙ length-append k (t ∷ w) in
    absurd (omega arith)
within_front (x ∷ a) r [] t w e h = let first : x ≡ t = cc in (a, ap (λ y. y ∷ a) first)
within_front (x ∷ a) r (y ∷ k) t w e h =
    let first : x ≡ y = cc in
    let p = within_front a r k t w (let rest : a ++ r ≡ k ++ t ∷ w = cc in rest) h in
    (p.0, ap (λ z. z ∷ a) first ∙ ap (λ l. y ∷ l) p.1)

-- a token of a sentence can follow
sentence_follows : (front back : List Token) (token : Token) (notes : List Noted) (script : List Task)
    (more : List Tok) → IsProgram notes script
    → tokens_of notes ≡ kinds_of front ++ token.what ∷ more → CanFollow front back token
sentence_follows front back token notes script more derived e = record {
  begins = record {
    more = more ++ toks.End ∷ [];
    notes = notes;
    script = script;
    derived = derived;
    spells = ap (λ l. l ++ (more ++ toks.End ∷ [])) (kinds_of-append front (token ∷ []))
        ∙ append_assoc (kinds_of front) (token.what ∷ []) (more ++ toks.End ∷ [])
        ∙ sym (append_assoc (kinds_of front) (token.what ∷ more) (toks.End ∷ []))
        ∙ ap (λ l. l ++ toks.End ∷ []) (sym e);
  };
  is_last = λ end. absurd (no_end_within notes (tasks_endless derived) (kinds_of front) more
      (e ∙ ap (λ t. kinds_of front ++ t ∷ more) end));
}

-- the end of a sentence can follow
end_follows : (front back : List Token) (token : Token) (notes : List Noted) (script : List Task)
    → IsProgram notes script
    → tokens_of notes ≡ kinds_of front → token.what ≡ toks.End → back ≡ [] → CanFollow front back token
end_follows front back token notes script derived e end none = record {
  begins = record {
    more = [];
    notes = notes;
    script = script;
    derived = derived;
    spells = append-nil (kinds_of (front ++ token ∷ [])) ∙ kinds_of-append front (token ∷ [])
        ∙ ap (λ t. kinds_of front ++ t ∷ []) end
        ∙ ap (λ l. l ++ toks.End ∷ []) (sym e);
  };
  is_last = λ _. none;
}

no_tokens : (l : List Token) → kinds_of l ≡ [] → l ≡ []
no_tokens [] e = refl
no_tokens (t ∷ l) e = absurd (cc)

-- where a token can't follow, the reading stops there
pub refusal_stops : (tokens : List Token) (ts : List Tok) (front back : List Token) (token : Token) (notes : List Noted)
    → kinds_of tokens ≡ ts ++ toks.End ∷ [] → tokens ≡ front ++ token ∷ back
    → BeginsWith (kinds_of front) notes → AreUnbroken notes → (CanFollow front back token → ⊥)
    → IsOfStop tokens ts (faults.Expected token.at)
refusal_stops tokens ts front back token notes whole parts begins unbroken refuses = by (tasks (start_of ts)) refl
  where
    at_token_ : ts ++ toks.End ∷ [] ≡ kinds_of front ++ token.what ∷ kinds_of back
    at_token_ = kinds_at tokens front back token ts whole parts

    stopped : (s : Stop) → tasks (start_of ts) ≡ Err s → Begun ts s → IsOfStop tokens ts (faults.Expected token.at)
    stopped (stop.Expected left) h b =
        let near = front_read ts (kinds_of front) token.what back notes at_token_ begins unbroken refused left h in
        let ahead : tokens_of b.front ++ (b.rest ++ toks.End ∷ []) ≡ kinds_of front ++ token.what ∷ kinds_of back =
        sym (append_assoc (tokens_of b.front) b.rest (toks.End ∷ [])) ∙ ap (λ l. l ++ toks.End ∷ []) (sym b.ahead)
        ∙ at_token_ in
        let size : length (b.rest ++ toks.End ∷ []) ≡ length b.rest + 1 = length-append b.rest (toks.End ∷ []) in
        let count : length (kinds_of back) ≡ length back = length-kinds_of back in
        let its : left ≡ length b.rest = b.stops in
        let far : length back ≤ left = ⊎_elim
        (λ less. absurd (let p = within_front (tokens_of b.front) (b.rest ++ toks.End ∷ [])
        (kinds_of front) token.what (kinds_of back) ahead (omega arith) in
        refuses (sentence_follows front back token (b.front ++ b.back) b.script (p.0 ++ tokens_of b.back) b.derived
        (tokens_of-append b.front b.back ∙ ap (λ l. l ++ tokens_of b.back) p.1
        ∙ append_assoc (kinds_of front) (token.what ∷ p.0) (tokens_of b.back)))))
        (λ y. y) (cases_lt left (length back)) in
        record {
          stop_is = stop.Expected left;
          stops = ap (λ o. stop_in (heads_from [] ts) o) h;
          front = front;
          back = back;
          token = token;
          whole = parts;
          left = omega arith;
          is = refl;
        }
    stopped (stop.Broken breach left) h b =
        let near = front_read ts (kinds_of front) token.what back notes at_token_ begins unbroken
        (broke breach) left h in
        let t = b.stops.0 in
        let more = b.stops.1 in
        let after = b.stops.2 in
        let ahead : (tokens_of b.front ++ t ∷ []) ++
        (after ++ toks.End ∷ []) ≡ kinds_of front ++ token.what ∷ kinds_of back =
        append_assoc (tokens_of b.front) (t ∷ []) (after ++ toks.End ∷ [])
        ∙ sym (append_assoc (tokens_of b.front) (t ∷ after) (toks.End ∷ []))
        ∙ ap (λ l. (tokens_of b.front ++ l) ++ toks.End ∷ []) (sym b.stops.3)
        ∙ ap (λ l. l ++ toks.End ∷ []) (sym b.ahead) ∙ at_token_ in
        let size : length (after ++ toks.End ∷ []) ≡ length after + 1 = length-append after (toks.End ∷ []) in
        let count : length (kinds_of back) ≡ length back = length-kinds_of back in
        let its : left ≡ suc (length after) = b.stops.5 ∙ ap length b.stops.3 in
        let p = within_front (tokens_of b.front ++ t ∷ []) (after ++ toks.End ∷ []) (kinds_of front) token.what
        (kinds_of back) ahead (omega arith) in
        absurd (refuses (sentence_follows front back token (b.front ++ b.back) b.script
        (p.0 ++ tokens_of more) b.derived
        (tokens_of-append b.front b.back ∙ ap (λ ns. tokens_of b.front ++ tokens_of ns) b.stops.4
        ∙ sym (append_assoc (tokens_of b.front) (t ∷ []) (tokens_of more)) ∙ ap (λ l. l ++ tokens_of more) p.1
        ∙ append_assoc (kinds_of front) (token.what ∷ p.0) (tokens_of more))))
    stopped stop.NoMain h b = absurd b.stops
    stopped s h b = absurd b.stops

    by : (r : Outcome (List Task)) → tasks (start_of ts) ≡ r → IsOfStop tokens ts (faults.Expected token.at)
    by (Ok (found, j)) h =
        let got = tasks_sound ts found j h in
        absurd (⊎_elim
        (λ p. refuses (end_follows front back token got.notes found got.derived (sym got.whole ∙ p.1) (sym p.2)
        (no_tokens back p.0)))
        (λ p. refuses (sentence_follows front back token got.notes found p.0 got.derived (sym got.whole ∙ p.1)))
        (last_of ts toks.End (kinds_of front) token.what (kinds_of back) at_token_))
    by (Err s) h = stopped s h (begun ts s h)
