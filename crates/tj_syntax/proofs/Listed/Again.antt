-- Parts of a listing that are parts of a script.
use Rattle.std.proofs.Common.{◌≡◌, ℕ, true, List, [], ◌∷◌, ◌++◌, None, refl, ap, sym, ◌∙◌}
use Rattle.std.specs.List.{AllByRecursion}
use Rattle.tj_lex.specs.Bytes.{is_blank}
use Rattle.tj_lex.specs.declared.token.Tok.{Tok}
use Rattle.tj_lex.specs.declared.token.Tok.TheVariants as toks
use Rattle.tj_lex.specs.declared.token.Key.{Key}
use Rattle.tj_lex.specs.declared.token.Mark.{Mark}
use Rattle.tj_syntax.specs.Trees.{Task}
use Rattle.tj_syntax.specs.Marks.{Noted, fine}
use Rattle.tj_syntax.specs.Faults.{tokens_of, IsUnbroken, fork_breach}
use Rattle.tj_syntax.specs.Listing.{Part, token, blanks, space, line_end, CanStand}

-- the tokens of parts
abbrev pub toks_of : List Part → List Tok
toks_of [] = []
toks_of (token t ∷ rest) = t ∷ toks_of rest
toks_of (blanks bytes ∷ rest) = toks_of rest

-- the bytes are blanks
abbrev pub AreBlank : List ℕ → Type 0
AreBlank = AllByRecursion (λ b. is_blank b ≡ true)

-- a text can have the token, or the bytes are blanks
abbrev pub Stands : Part → Type 0
Stands (token t) = CanStand t
Stands (blanks bytes) = AreBlank bytes

abbrev pub AllStand : List Part → Type 0
AllStand = AllByRecursion Stands

-- the token breaks no rule, and a text can have it
pub record IsFine (script : List Task) (noted : Noted) : Type 0 where
  pub unbroken : IsUnbroken noted
  pub fork : fork_breach script noted ≡ None
  pub stands : CanStand noted.0

abbrev pub AreFine : List Task → List Noted → Type 0
AreFine script = AllByRecursion (IsFine script)

-- the parts' tokens have notes of which this holds, and that break nothing
pub record Again (script : List Task) (P : List Noted → Type 0) (parts : List Part) : Type 0 where
  pub notes : List Noted
  pub right : P notes
  pub spells : tokens_of notes ≡ toks_of parts
  pub all_fine : AreFine script notes
  pub stand : AllStand parts

pub toks_of-append : (a b : List Part) → toks_of (a ++ b) ≡ toks_of a ++ toks_of b
toks_of-append [] b = refl
toks_of-append (token t ∷ a) b = ap (λ ts. t ∷ ts) (toks_of-append a b)
toks_of-append (blanks bytes ∷ a) b = toks_of-append a b

pub tokens_of-append : (a b : List Noted) → tokens_of (a ++ b) ≡ tokens_of a ++ tokens_of b
tokens_of-append [] b = refl
tokens_of-append (n ∷ a) b = ap (λ ts. n.0 ∷ ts) (tokens_of-append a b)

pub fine-append : (script : List Task) (a b : List Noted) → AreFine script a → AreFine script b
    → AreFine script (a ++ b)
fine-append script [] b h l = l
fine-append script (n ∷ a) b h l = (h.0, fine-append script a b h.1 l)

pub fine-split : (script : List Task) (a b : List Noted) → AreFine script (a ++ b) → AreFine script a × AreFine script b
fine-split script [] b h = (tt, h)
fine-split script (n ∷ a) b h = let rest = fine-split script a b h.1 in ((h.0, rest.0), rest.1)

pub stand-append : (a b : List Part) → AllStand a → AllStand b → AllStand (a ++ b)
stand-append [] b h l = l
stand-append (p ∷ a) b h l = (h.0, stand-append a b h.1 l)

pub fine_mark : (script : List Task) (m : Mark) → IsFine script (toks.Mark m, fine)
fine_mark script m = record { unbroken = λ breach e. cc; fork = refl; stands = tt }

pub fine_key : (script : List Task) (k : Key) → IsFine script (toks.Key k, fine)
fine_key script k = record { unbroken = λ breach e. cc; fork = refl; stands = tt }

-- one part behind another
pub both : {script : List Task} {P Q R : List Noted → Type 0} {a b : List Part}
    → ((m n : List Noted) → P m → Q n → R (m ++ n)) → Again script P a → Again script Q b → Again script R (a ++ b)
both {script} {P} {Q} {R} {a} {b} join p q = record {
  notes = p.notes ++ q.notes;
  right = join p.notes q.notes p.right q.right;
  spells = tokens_of-append p.notes q.notes ∙ (rw (p.spells, q.spells) (sym (toks_of-append a b)));
  all_fine = fine-append script p.notes q.notes p.all_fine q.all_fine;
  stand = stand-append a b p.stand q.stand;
}

-- a token before others
pub front : {script : List Task} {P R : List Noted → Type 0} {b : List Part} (noted : Noted) → IsFine script noted
    → ((m : List Noted) → P m → R (noted ∷ m)) → Again script P b → Again script R (token noted.0 ∷ b)
front noted ok join p = record {
  notes = noted ∷ p.notes;
  right = join p.notes p.right;
  spells = ap (λ ts. noted.0 ∷ ts) p.spells;
  all_fine = (ok, p.all_fine);
  stand = (ok.stands, p.stand);
}

-- a token alone
pub only : {script : List Task} {P : List Noted → Type 0} (noted : Noted) → IsFine script noted
    → P (noted ∷ []) → Again script P (token noted.0 ∷ [])
only noted ok right = record {
  notes = noted ∷ [];
  right = right;
  spells = refl;
  all_fine = (ok, tt);
  stand =
      (ok.stands, tt);
}

-- a token behind others
pub back : {script : List Task} {P R : List Noted → Type 0} {a : List Part} (noted : Noted) → IsFine script noted
    → ((m : List Noted) → P m → R (m ++ noted ∷ [])) → Again script P a → Again script R (a ++ token noted.0 ∷ [])
back {script} {P} {R} {a} noted ok join p = record {
  notes = p.notes ++ noted ∷ [];
  right = join p.notes p.right;
  spells = tokens_of-append p.notes (noted ∷ []) ∙ (rw p.spells (sym (toks_of-append a (token noted.0 ∷ []))));
  all_fine = fine-append script p.notes (noted ∷ []) p.all_fine (ok, tt);
  stand = stand-append a (token noted.0 ∷ []) p.stand (ok.stands, tt);
}

-- the same notes, of which more holds
pub also : {script : List Task} {P R : List Noted → Type 0} {a : List Part}
    → ((m : List Noted) → P m → R m) → Again script P a → Again script R a
also join p = record {
  notes = p.notes;
  right = join p.notes p.right;
  spells = p.spells;
  all_fine =
      p.all_fine;
  stand = p.stand;
}

-- blanks before others
pub behind : {script : List Task} {P : List Noted → Type 0} {a : List Part} (bytes : List ℕ) → AreBlank bytes
    → Again script P a → Again script P (blanks bytes ∷ a)
behind bytes blank p = record {
  notes = p.notes;
  right = p.right;
  spells = p.spells;
  all_fine = p.all_fine;
  stand =
      (blank, p.stand);
}

-- a space before others, or the end of a line
pub spaced : {script : List Task} {P : List Noted → Type 0} {a : List Part} → Again script P a
    → Again script P (space ∷ a)
spaced p = behind (32 ∷ []) (refl, tt) p

pub lined : {script : List Task} {P : List Noted → Type 0} {a : List Part} → Again script P a
    → Again script P (line_end ∷ a)
lined p = behind (10 ∷ []) (refl, tt) p

-- nothing
pub none : {script : List Task} {P : List Noted → Type 0} → P [] → Again script P []
none right = record { notes = []; right = right; spells = refl; all_fine = tt; stand = tt }
