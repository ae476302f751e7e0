-- Tokens, one behind the other.
use Rattle.std.proofs.Common.{◌≡◌, ℕ, ◌∙◌, ap, sym, refl, arith, Bool, true, false, not, List, [], ◌∷◌, ◌++◌}
use Rattle.std.specs.List.{list_all, take_while}
use Rattle.std.specs.Char.{is_ascii_digit}
use Rattle.tj_lex.specs.declared.token.Token.{Token}
use Rattle.tj_lex.specs.declared.token.Tok.{Tok}
use Rattle.tj_lex.specs.declared.token.Tok.TheVariants as toks
use Rattle.tj_lex.specs.declared.token.Mark.{Mark}
use Rattle.tj_lex.specs.declared.token.Mark.TheVariants as marks
use Rattle.tj_lex.specs.declared.token.LexFault.{LexFault}
use Rattle.tj_lex.specs.Bytes.{is_name_byte, stays_on_line, line_feed}
use Rattle.tj_lex.specs.Spelling.{mark_text}
use Rattle.tj_lex.specs.Tokens.{Spells, IsToken, IsFaultFrom, HasTokens}
use Rattle.tj_lex.specs.Inner.Spots.{AreApart}
use Rattle.tj_lex.proofs.Stretches.{both, eqb-fails, list_all-prefix}

-- one token more
pub HasTokens-push : (text : List ℕ) (start : ℕ) (tokens : List Token) (stop : ℕ) (token : Token)
    → HasTokens text start tokens stop → IsToken text stop token → HasTokens text start (tokens ++ token ∷ []) token.to
HasTokens-push text start [] stop token has next = (let same : start ≡ stop = has in rw same next, refl)
HasTokens-push text start (t ∷ tokens) stop token has next =
    (has.0, HasTokens-push text t.to tokens stop token has.1 next)

-- a token behind a gap
pub IsToken-behind : (text : List ℕ) (a b : ℕ) (token : Token) → AreApart text a b → token.from ≡ b
    → IsToken text b token → IsToken text a token
IsToken-behind text a b token apart from h =
    let within = h.within in
    let some = h.some in
    record {
      behind = omega (arith, apart.in_order);
      some = h.some;
      within = h.within;
      gap = rw from (apart.before_more (omega arith));
      spelled = h.spelled;
      position = h.position;
    }

-- a fault behind a gap
pub IsFaultFrom-behind : (text : List ℕ) (a b : ℕ) (fault : LexFault) → AreApart text a b
    → IsFaultFrom text b b fault → IsFaultFrom text a b fault
IsFaultFrom-behind text a b fault apart h = record {
  behind = apart.in_order;
  within = h.within;
  gap = apart.before_more h.within;
  no_gap = h.no_gap;
  stands = h.stands;
}

-- a test that fails at the line feed holds on a line alone
stays-if : (p : ℕ → Bool) → p line_feed ≡ false → (b : ℕ) → p b ≡ true → stays_on_line b ≡ true
stays-if p fails b holds = ap not (eqb-fails p line_feed fails b holds)

list_all-stays : (p : ℕ → Bool) → p line_feed ≡ false → (bytes : List ℕ) → list_all p bytes ≡ true
    → list_all stays_on_line bytes ≡ true
list_all-stays p fails [] _ = refl
list_all-stays p fails (b ∷ bytes) all =
    let tests = both (p b) (list_all p bytes) all in
    rw (stays-if p fails b tests.0) (list_all-stays p fails bytes tests.1)

mark_text-stays : (mark : Mark) → list_all stays_on_line (mark_text mark) ≡ true
mark_text-stays marks.ParenOpen = refl
mark_text-stays mark = refl

-- a token stands on one line
pub Spells-line : (text bytes : List ℕ) (what : Tok) → Spells text bytes what → list_all stays_on_line bytes ≡ true
Spells-line text bytes (toks.Name word) h =
    rw h.1 (list_all-stays is_name_byte refl (take_while is_name_byte text) (list_all-prefix is_name_byte text))
Spells-line text bytes (toks.Key key) h =
    rw h.1 (list_all-stays is_name_byte refl (take_while is_name_byte text) (list_all-prefix is_name_byte text))
Spells-line text bytes (toks.Num number) h =
    rw h.1 (list_all-stays is_ascii_digit refl (take_while is_ascii_digit text) (list_all-prefix is_ascii_digit text))
Spells-line text bytes (toks.Mark mark) h = ap (list_all stays_on_line) (sym h.0) ∙ mark_text-stays mark
Spells-line text bytes toks.End h = absurd h
