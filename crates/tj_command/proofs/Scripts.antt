-- A text is one script at most, and what is wrong with it first is one fault.
use Rattle.std.proofs.Common.{Err, List, Ok, Result, ap, arith, length, refl, subst, ℕ, ◌≡◌, ◌≤◌}
use Rattle.tj_lex.specs.declared.token.LexFault.{LexFault}
use Rattle.tj_lex.specs.declared.token.Tok.{Tok}
use Rattle.tj_lex.specs.declared.token.Token.{Token}
use Rattle.tj_lex.specs.Tokens.{Answers, AreTokens}
use Rattle.tj_lex.specs.Tokens as tokens
use Rattle.tj_syntax.specs.declared.fault.ParseFault.{ParseFault}
use Rattle.tj_syntax.specs.Faults.{EndsInEnd, IsScript, kinds_of}
use Rattle.tj_syntax.specs.Faults as grammar
use Rattle.tj_syntax.specs.Trees.{Task}
use Rattle.tj_syntax.specs.ScriptTexts.{IsFirstFault, IsScriptOf, in_grammar, in_tokens, most_bytes, too_long}
use Rattle.tj_syntax.specs.declared.script_text.NoScript.{NoScript}
use Rattle.tj_syntax.specs.declared.script_text.NoScript.TheVariants.{Tokens, Grammar}

-- What tj_lex and tj_syntax leave no choice in.
pub record AreOneScript : Type 0 where
  pub answer : (text : List ℕ) (a b : Result (List Token) LexFault) → Answers text a → Answers text b → a ≡ b
  pub script : (tokens : List Tok) (a b : List Task) → IsScript tokens a → IsScript tokens b → a ≡ b
  pub fault : (tokens : List Token) (a b : ParseFault) → EndsInEnd tokens → grammar.IsFirstFault tokens a
      → grammar.IsFirstFault tokens b → a ≡ b
  pub no_fault : (tokens : List Token) (script : List Task) (fault : ParseFault) → EndsInEnd tokens
      → IsScript (kinds_of tokens) script → grammar.IsFirstFault tokens fault → ⊥

-- what is computed well is one
pub ok_is : {A E : Type 0} (a b : A) → ◌≡◌ {A = Result A E} (Ok a) (Ok b) → a ≡ b
ok_is a b e = cc

err_is : {A E : Type 0} (a b : E) → ◌≡◌ {A = Result A E} (Err a) (Err b) → a ≡ b
err_is a b e = cc

ends : (text : List ℕ) (found : List Token) → AreTokens text found → EndsInEnd found
ends text found are = record { front = are.front; last = are.last; whole = are.whole; is_end = are.ends.what }

module _ (one : AreOneScript) where
  -- a text has its tokens once
  pub one_tokens : (text : List ℕ) (a b : List Token) → AreTokens text a → AreTokens text b → a ≡ b
  one_tokens text a b h k = ok_is a b (one.answer text (Ok a) (Ok b) h k)

  not_both : (text : List ℕ) (found : List Token) (fault : LexFault) → AreTokens text found
      → tokens.IsFirstFault text fault → ⊥
  not_both text found fault h k = let e : Ok found ≡ Err fault = one.answer text (Ok found) (Err fault) h k in cc

  -- a text is one script at most
  pub one_script_of : (text : List ℕ) (a b : List Task) → IsScriptOf text a → IsScriptOf text b → a ≡ b
  one_script_of text a b h k = one.script (kinds_of h.tokens) a b h.is_script
      (subst (λ l. IsScript (kinds_of l) b) (one_tokens text k.tokens h.tokens k.has_tokens h.has_tokens) k.is_script)

  -- its first fault is one
  pub one_fault : (text : List ℕ) (a b : NoScript) → IsFirstFault text a → IsFirstFault text b → a ≡ b
  one_fault text a b (too_long l) (too_long m) = refl
  one_fault text a b (too_long l) (in_tokens g short q) = absurd (omega arith)
  one_fault text a b (too_long l) (in_grammar u g short has q) = absurd (omega arith)
  one_fault text a b (in_tokens f short p) (too_long m) = absurd (omega arith)
  one_fault text a b (in_tokens f short p) (in_tokens g few q) =
      ap (λ x. Tokens x) (err_is f g (one.answer text (Err f) (Err g) p q))
  one_fault text a b (in_tokens f short p) (in_grammar u g few has q) = absurd (not_both text u f has p)
  one_fault text a b (in_grammar t f short has p) (too_long m) = absurd (omega arith)
  one_fault text a b (in_grammar t f short has p) (in_tokens g few q) = absurd (not_both text t g has q)
  one_fault text a b (in_grammar t f short has p) (in_grammar u g few also q) =
      ap (λ x. Grammar x) (one.fault t f g (ends text t has) p
      (subst (λ l. grammar.IsFirstFault l g) (one_tokens text u t also has) q))

  -- a script has no fault
  pub no_fault : (text : List ℕ) (script : List Task) (fault : NoScript) → IsScriptOf text script
      → IsFirstFault text fault → ⊥
  no_fault text script fault is (too_long l) = let short : length text ≤ most_bytes = is.short in omega arith
  no_fault text script fault is (in_tokens f short p) = not_both text is.tokens f is.has_tokens p
  no_fault text script fault is (in_grammar t f short has p) =
      one.no_fault t script f (ends text t has)
      (subst (λ l. IsScript (kinds_of l) script) (one_tokens text is.tokens t is.has_tokens has) is.is_script) p
