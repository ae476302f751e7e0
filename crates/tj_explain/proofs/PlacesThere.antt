-- What has a position in an input's script stands at a token of the input.
use Rattle.std.proofs.Common.{◌≡◌, ◌⊎◌, ◌++◌, ◌∷◌, ◌∙◌, ℕ, zero, suc, List, [], length, map, slice_get, Some, refl}
use Rattle.std.proofs.Common.{None, Option, ap, inl, inr, subst, sym, unwrap_or}
use Rattle.std.specs.Option.{option_map, option_or}
use Rattle.tj_faults.specs.TokenLines.{StandsInLine}
use Rattle.tj_lex.specs.declared.place.Place.{Place}
use Rattle.tj_lex.specs.declared.token.Tok.TheVariants as toks
use Rattle.tj_lex.specs.Tokens.{AreTokens}
use Rattle.tj_lex.specs.declared.token.Token.{Token}
use Rattle.tj_syntax.specs.Faults.{kinds_of, tokens_of}
use Rattle.tj_syntax.specs.Marks.{Name, Noted}
use Rattle.tj_syntax.specs.Parts.{IsAskAt, StandAt, StandsAt, TasksStandAt, own_ask}
use Rattle.tj_syntax.specs.PlacesOf.{place_at, place_in, places_of, statement_place}
use Rattle.tj_syntax.specs.ScriptTexts.{IsScriptOf}
use Rattle.tj_syntax.specs.Starts.{Start, TaskStart, in_tasks}
use Rattle.tj_syntax.specs.Trees.{Ask, Statement, Task}
use Rattle.tj_syntax.specs.Within.{within}
use Rattle.tj_syntax.specs.declared.positions.StatementPlace.{StatementPlace}
use Rattle.tj_syntax.proofs.Starting.Parts.{script_stands}
use Rattle.tj_trace.specs.Lookups.{spot_of}
use Rattle.tj_trace.specs.RightLines.{IsBraceAt, IsStatementAt}
use Rattle.tj_trace.specs.SpotLaws.{HasBraceSpot, HasSpot}
use Rattle.tj_trace.proofs.SpotsThere.{spots_are_there}
use Rattle.tj_explain.specs.PlaceLaws.{IsOfToken, PlacesAreOfTokens}
use Rattle.tj_explain.specs.ToldFindings.{own_places}

-- behind a front of the notes there is a token
token_there : (tokens : List Token) (front rest : List Noted)
    → kinds_of tokens ≡ tokens_of (front ++ rest) ++ toks.End ∷ []
    → (t : Token) × (slice_get tokens (length front) ≡ Some t)
token_there [] [] [] e = absurd (cc)
token_there [] [] (x ∷ rest) e = absurd (cc)
token_there [] (x ∷ front) rest e = absurd (cc)
token_there (t ∷ tokens) [] rest e = (t, refl)
token_there (t ∷ tokens) (x ∷ front) rest e = token_there tokens front rest
    (let more : kinds_of tokens ≡ tokens_of (front ++ rest) ++ toks.End ∷ [] = cc in more)

module _ (names : List Name) (notes : List Noted) (tokens : List Token) where
  -- a number that has a position in a body is that of a statement, or of the brace behind them
  in_body : (ss : List Statement) (ps : List Start) (brace place : Place) (at : ℕ) → StandAt names notes ss ps
      → slice_get (map (λ (s : StatementPlace). s.at) (map (statement_place tokens) ps) ++ brace ∷ []) at ≡ Some place
      → ((s : Statement) × (slice_get ss at ≡ Some s)) ⊎ (at ≡ length ss)
  in_body [] [] brace place zero h e = inr refl
  in_body [] [] brace place (suc n) h e = absurd (cc)
  in_body [] (p ∷ ps) brace place at h e = absurd h
  in_body (s ∷ ss) [] brace place at h e = absurd h
  in_body (s ∷ ss) (p ∷ ps) brace place zero h e = inl (s, refl)
  in_body (s ∷ ss) (p ∷ ps) brace place (suc n) h e = by (in_body ss ps brace place n h.1 e) where
    by : ((z : Statement) × (slice_get ss n ≡ Some z)) ⊎ (n ≡ length ss)
        → ((z : Statement) × (slice_get (s ∷ ss) (suc n) ≡ Some z)) ⊎ (suc n ≡ length (s ∷ ss))
    by (inl there) = inl there
    by (inr last) = inr (ap suc last)

  -- the same of the declarations of a script
  in_script : (ts : List Task) (us : List TaskStart) (decl at : ℕ) (place : Place) → TasksStandAt names notes ts us
      → spot_of (slice_get (places_of tokens us) decl) at ≡ Some place
      → ((s : Statement) × IsStatementAt ts decl at s) ⊎ IsBraceAt ts decl at
  in_script [] [] decl at place h e = absurd (cc)
  in_script [] (u ∷ us) decl at place h e = absurd h
  in_script (t ∷ ts) [] decl at place h e = absurd h
  in_script (t ∷ ts) (u ∷ us) zero at place h e =
      by (in_body (within t.body) u.statements _ place at h.0.statements e) where
        by : ((s : Statement) × (slice_get (within t.body) at ≡ Some s)) ⊎ (at ≡ length (within t.body))
            → ((s : Statement) × IsStatementAt (t ∷ ts) zero at s) ⊎ IsBraceAt (t ∷ ts) zero at
        by (inl there) = inl (there.0, record { task = t; is_declared = refl; is_there = there.1 })
        by (inr last) = inr (record { task = t; is_declared = refl; is_last = last })
  in_script (t ∷ ts) (u ∷ us) (suc decl) at place h e = by (in_script ts us decl at place h.1 e) where
    by : ((s : Statement) × IsStatementAt ts decl at s) ⊎ IsBraceAt ts decl at
        → ((s : Statement) × IsStatementAt (t ∷ ts) (suc decl) at s) ⊎ IsBraceAt (t ∷ ts) (suc decl) at
    by (inl there) = let i = there.1 in
        inl (there.0, record { task = i.task; is_declared = i.is_declared; is_there = i.is_there })
    by (inr i) = inr (record { task = i.task; is_declared = i.is_declared; is_last = i.is_last })

-- where a part of a script stands there is a token
part_there : (input : List ℕ) (script : List Task) (is : IsScriptOf input script) (part : List Noted) (n : ℕ)
    → StandsAt is.is_script.notes part n → (t : Token) × (slice_get is.tokens n ≡ Some t)
part_there input script is part n h =
    let t = token_there is.tokens h.front (part ++ h.back)
    (is.is_script.spells ∙ ap (λ z. tokens_of z ++ toks.End ∷ []) h.whole) in
    (t.0, subst (λ k. slice_get is.tokens k ≡ Some t.0) h.count t.1)

-- where an ask has a start it stands there
ask_stands : (names : List Name) (notes : List Noted) (o : Option Ask) (k : ℕ) → IsAskAt names notes o (Some k)
    → (part : List Noted) × StandsAt notes part k
ask_stands names notes None k h = absurd h
ask_stands names notes (Some q) k h = (h.part, h.stands)

-- the law, where the tokens of a text stand in its lines
pub places_are_of_tokens : ((text : List ℕ) (tokens : List Token) (n : ℕ) (token : Token) → AreTokens text tokens
    → slice_get tokens n ≡ Some token → StandsInLine text token.at token.from token.to) → PlacesAreOfTokens
places_are_of_tokens tokens_stand input script is decl at has =
    by (in_script (map (λ (t : Task). t.name) script) is.is_script.notes is.tokens script us decl at has.0
    (script_stands is.is_script.notes script is.is_script.derived) has.1) where
      us : List TaskStart
      us = in_tasks is.is_script.derived 0

      names : List Name
      names = map (λ (t : Task). t.name) script

      spot : Option Place
      spot = spot_of (slice_get (own_places input script is) decl) at

      with_ask : (s : Statement) → IsStatementAt script decl at s
          → (h : HasSpot is.tokens is.is_script.notes script us decl at s) (a : Option ℕ) → h.start.ask ≡ a
          → IsAskAt names is.is_script.notes (own_ask s) a → IsOfToken input script is decl at
      with_ask s i h None e q =
          let t = part_there input script is h.stands.part h.start.at h.stands.stands in record {
            n = h.start.at;
            token = t.0;
            is_there = t.1;
            begins = inl (record {
              statement = s;
              is_at = i;
              start = h.start;
              stands = h.stands;
              behind = sym (ap (λ o. unwrap_or o h.start.at) e);
            });
            told = ap (λ o. option_or o spot) (h.ask_spot ∙ ap (option_map (place_at is.tokens)) e) ∙ h.spot
                ∙ ap (λ o. Some (place_in o)) t.1;
            line = tokens_stand input is.tokens h.start.at t.0 is.has_tokens t.1;
          }
      with_ask s i h (Some k) e q =
          let a = ask_stands names is.is_script.notes (own_ask s) k q in
          let t = part_there input script is a.0 k a.1 in record {
            n = k;
            token = t.0;
            is_there = t.1;
            begins = inl (record {
              statement = s;
              is_at = i;
              start = h.start;
              stands = h.stands;
              behind = sym (ap (λ o. unwrap_or o h.start.at) e);
            });
            told = ap (λ o. option_or o spot) (h.ask_spot ∙ ap (option_map (place_at is.tokens)) e)
                ∙ ap (λ o. Some (place_in o)) t.1;
            line = tokens_stand input is.tokens k t.0 is.has_tokens t.1;
          }

      of_statement : (s : Statement) → IsStatementAt script decl at s
          → HasSpot is.tokens is.is_script.notes script us decl at s → IsOfToken input script is decl at
      of_statement s i h = with_ask s i h h.start.ask refl h.stands.ask

      of_brace : IsBraceAt script decl at → HasBraceSpot is.tokens is.is_script.notes us decl at
          → IsOfToken input script is decl at
      of_brace i h =
          let t = part_there input script is _ h.task.brace h.stands in record {
            n = h.task.brace;
            token = t.0;
            is_there = t.1;
            begins = inr (i, h.stands);
            told = ap (λ o. option_or o spot) h.ask_spot ∙ h.spot ∙ ap (λ o. Some (place_in o)) t.1;
            line = tokens_stand input is.tokens h.task.brace t.0 is.has_tokens t.1;
          }

      by : ((s : Statement) × IsStatementAt script decl at s) ⊎ IsBraceAt script decl at
          → IsOfToken input script is decl at
      by (inl i) = of_statement i.0 i.1
          ((spots_are_there is.tokens is.is_script.notes script is.is_script.derived decl at).0 i.0 i.1)
      by (inr i) = of_brace i ((spots_are_there is.tokens is.is_script.notes script is.is_script.derived decl at).1 i)
