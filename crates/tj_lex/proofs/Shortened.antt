-- A text has the bytes of the tokens that short ones stand for, one behind the other.
use Rattle.std.proofs.Common.{◌≡◌, ◌≤◌, ℕ, List, [], ◌∷◌, ◌++◌, length, ap, sym, subst, arith, pos}
use Rattle.std.specs.Prelude.{All, Result, Ok, Err, IfOk, drop}
use Rattle.std.specs.Char.{is_ascii_digit}
use Rattle.std.specs.List.{AllPass, slice_range}
use Rattle.std.proofs.lemmas.List.Elements.{All-nil, All-cons}
use Rattle.tj_lex.specs.declared.shorts.Short.{Short}
use Rattle.tj_lex.specs.declared.token.Token.{Token}
use Rattle.tj_lex.specs.declared.token.LexFault.{LexFault}
use Rattle.tj_lex.specs.declared.token.Tok.TheVariants as toks
use Rattle.tj_lex.specs.Shorts.{IsIn, tok_of, token_of, whole_tokens}
use Rattle.tj_lex.specs.Inner.Shorts.{AreInOrder}
use Rattle.tj_lex.specs.Spelling.{decimal}
use Rattle.tj_lex.specs.Tokens.{AreTokens, HasTokens, IsEnd, IsToken, Spells}
use Rattle.tj_lex.proofs.Stretches.{AllPass-prefix}

-- a token's bytes
in_token : (text : List ℕ) (start : ℕ) (short : Short) → IsToken text start (token_of text short) → IsIn text short
in_token text start short is =
    let bytes = slice_range text short.from short.to in
    record {
      ordered = let some = is.some in omega arith;
      within = is.within;
      number = λ e.
          let spelled : Spells (drop short.from text) bytes (toks.Num (pos (decimal bytes))) =
          subst (λ kind. Spells (drop short.from text) bytes (tok_of kind bytes)) e is.spelled in
          record {
            digits =
                subst (AllPass is_ascii_digit) (sym spelled.1) (AllPass-prefix is_ascii_digit (drop short.from text));
            fits = spelled.2;
          };
    }

-- the end's bytes, which are none
in_end : (text : List ℕ) (start : ℕ) (short : Short) → IsEnd text start (token_of text short) → IsIn text short
in_end text start short is =
    let bytes = slice_range text short.from short.to in
    let from = is.from in
    let to = is.to in
    record {
      ordered = omega arith;
      within = omega arith;
      number = λ e.
          let none : toks.Num (pos (decimal bytes)) ≡ toks.End =
          subst (λ kind. tok_of kind bytes ≡ toks.End) e is.what in absurd (cc);
    }

-- what begins behind an index begins behind an earlier one
from_earlier : (earlier start : ℕ) (shorts : List Short) → earlier ≤ start → AreInOrder start shorts
    → AreInOrder earlier shorts
from_earlier earlier start [] before order = tt
from_earlier earlier start (short ∷ shorts) before order = (omega (arith, before, order.0), order.1)

-- the bytes of each of some tokens, and their order
in_each : (text : List ℕ) (start : ℕ) (shorts : List Short) (front : List Token) (last : Token) (stop : ℕ)
    → start ≤ length text
    → whole_tokens text shorts ≡ front ++ last ∷ [] → HasTokens text start front stop → IsEnd text stop last
    → All (IsIn text) shorts × AreInOrder start shorts
in_each text start [] front last stop inside whole has ends = (All-nil (IsIn text), tt)
in_each text start (short ∷ shorts) [] last stop inside whole has ends =
    let same : token_of text short ≡ last = cc in
    let none : whole_tokens text shorts ≡ [] = cc in
    let end : IsEnd text stop (token_of text short) = subst (IsEnd text stop) (sym same) ends in
    let from = end.from in (
      All-cons (IsIn text) short shorts (in_end text stop short end) (in_none shorts none).0,
      (omega (arith, inside, from), (in_none shorts none).1),
    )
  where
    in_none : (shorts : List Short) → whole_tokens text shorts ≡ []
        → All (IsIn text) shorts × AreInOrder short.from shorts
    in_none [] e = (All-nil (IsIn text), tt)
    in_none (short ∷ shorts) e = absurd (cc)
in_each text start (short ∷ shorts) (token ∷ front) last stop inside whole has ends =
    let same : token_of text short ≡ token = cc in
    let left : whole_tokens text shorts ≡ front ++ last ∷ [] = cc in
    let is : IsToken text start (token_of text short) = subst (IsToken text start) (sym same) has.0 in
    let to : token.to ≡ short.to = ap (λ t. t.to) (sym same) in
    let some = is.some in
    let within = is.within in
    let rest = in_each text token.to shorts front last stop (omega (arith, to, within)) left has.1 ends in (
      All-cons (IsIn text) short shorts (in_token text start short is) rest.0,
      (is.behind, from_earlier short.from token.to shorts (omega (arith, to, some)) rest.1),
    )

-- each of a text's short tokens is in it, and they begin in their order
in_text : (text : List ℕ) (shorts : List Short) → AreTokens text (whole_tokens text shorts)
    → All (IsIn text) shorts × AreInOrder 0 shorts
in_text text shorts is =
    in_each text 0 shorts is.front is.last is.stop (omega arith) is.whole is.has_front is.ends

-- each short token is in its text
pub are_in : {V : Type 0} (items : V → List Short) (text : List ℕ) (r : Result V LexFault)
    → IfOk r (λ v. AreTokens text (whole_tokens text (items v))) → IfOk r (λ v. All (IsIn text) (items v))
are_in items text (Ok v) is = (in_text text (items v) is).0
are_in items text (Err fault) is = tt

-- and they begin in their order
pub in_order : (text : List ℕ) (shorts : List Short) → AreTokens text (whole_tokens text shorts) → AreInOrder 0 shorts
in_order text shorts is = (in_text text shorts is).1
