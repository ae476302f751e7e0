-- What a text tells of a task, a cell, a position and a cause has no line feed, if no name has.
use Rattle.std.proofs.Common.{◌≡◌, ℕ, Bool, nat_le, List, [], ◌∷◌, ◌++◌, take, length, Option, Some, None}
use Rattle.std.proofs.Common.{refl, arith, pos, negsuc, ℤ, suc}
use Rattle.std.specs.Prelude.{codes, slice_get}
use Rattle.std.specs.List.{list_all}
use Rattle.std.specs.Fmt.{decimal, signed_decimal}
use Rattle.tj_base.specs.ForkOrder.{Name}
use Rattle.tj_base.specs.Texts.{name_text, part_text, parts_text}
use Rattle.tj_base.specs.declared.cause.Cause.{Cause}
use Rattle.tj_base.specs.declared.cause.Cause.TheVariants as cause
use Rattle.tj_base.specs.declared.cell.Sort.{Sort}
use Rattle.tj_base.specs.declared.cell.Sort.TheVariants as sort
use Rattle.tj_body.specs.Names.{same}
use Rattle.tj_body.specs.declared.point.Value.{Value}
use Rattle.tj_body.specs.declared.point.Value.TheVariants as value
use Rattle.tj_lex.specs.declared.place.Place.{Place}
use Rattle.tj_mean.specs.ReportTexts.{cause_text}
use Rattle.tj_syntax.specs.Trees.{Task}
use Rattle.tj_trace.specs.declared.line.Maker.{Maker}
use Rattle.tj_faults.specs.Spots.{found_text}
use Rattle.tj_reasons.specs.Reasons.{held_in}
use Rattle.tj_reasons.specs.declared.reason.Met.{Met}
use Rattle.tj_reasons.specs.declared.reason.Met.TheVariants as met
use Rattle.tj_reasons.specs.declared.reason.Reason.{Reason}
use Rattle.tj_reasons.specs.declared.reason.Reason.TheVariants as reason
use Rattle.tj_reasons.specs.declared.reason.Wanted.{Wanted}
use Rattle.tj_reasons.specs.declared.reason.Wanted.TheVariants as wanted
use Rattle.tj_findings.specs.Arguments.{arguments_text, cut_text, in_brackets, more_text, most_bytes, value_text}
use Rattle.tj_findings.specs.Arguments.{values_text}
use Rattle.tj_findings.specs.LetNames.{let_name, let_text}
use Rattle.tj_findings.specs.LinesTold.{HasPlainNames, IsPlain}
use Rattle.tj_findings.specs.PartTexts.{by_stop, cause_word, made_text, owner_text, promise_text, stopped_word}
use Rattle.tj_findings.specs.PartTexts.{where_agreed}
use Rattle.tj_findings.specs.ReasonTexts.{all_reasons, met_words, reason_for, reason_text, reason_words, sort_words}
use Rattle.tj_findings.specs.ReasonTexts.{value_words, wanted_words, words_behind}
use Rattle.tj_findings.specs.Scenes.{Told, forked_text, label, name_of, spot_text, stop_text, task_at, told_spot}
use Rattle.tj_findings.specs.declared.finding.Stop.{Stop}
use Rattle.tj_findings.specs.declared.finding.Stop.TheVariants as stop
use Rattle.tj_findings.specs.declared.finding.ToldCell.{ToldCell}
use Rattle.tj_findings.specs.declared.finding.ToldTask.{ToldTask}
use Rattle.tj_findings.proofs.PlainTexts.{plain_both, plain_byte, plain_cond, plain_decimal, plain_take}

-- a name's further numbers
plain_numbers : (x : List ℕ) → IsPlain (parts_text x)
plain_numbers [] = refl
plain_numbers (n ∷ x) =
    plain_both (part_text n) (parts_text x) (plain_byte 46 (decimal n) (λ e. omega (arith, e)) (plain_decimal n))
    (plain_numbers x)

-- a name
pub plain_name : (x : Name) → IsPlain (name_text x)
plain_name x = plain_byte 48 (parts_text x) (λ e. omega (arith, e)) (plain_numbers x)

-- a number with its sign
pub plain_signed : (i : ℤ) → IsPlain (signed_decimal i)
plain_signed (pos n) = plain_decimal n
plain_signed (negsuc n) = plain_byte 45 (decimal (suc n)) (λ e. omega (arith, e)) (plain_decimal (suc n))

-- a position
pub plain_found : (p : Option Place) → IsPlain (found_text p)
plain_found None = refl
plain_found (Some p) =
    plain_both (decimal p.line ++ codes ":") (decimal p.column)
    (plain_both (decimal p.line) (codes ":") (plain_decimal p.line) refl) (plain_decimal p.column)

-- the same of a statement
pub plain_spot : (s : Told) (d n : ℕ) → IsPlain (spot_text s d n)
plain_spot s d n = plain_found (told_spot (slice_get s.places d) n)

-- where a task stopped
pub plain_stop : (s : Told) (t : ToldTask) → IsPlain (stop_text s t)
plain_stop s t = plain_spot s t.decl t.at

-- an argument
plain_value : (v : Value) → IsPlain (value_text v)
plain_value (value.Num i) = plain_signed i
plain_value (value.Ref r) = plain_name r.name

-- further arguments
plain_more : (vs : List Value) → IsPlain (more_text vs)
plain_more [] = refl
plain_more (v ∷ vs) =
    plain_both (codes ", ") (value_text v ++ more_text vs) refl
    (plain_both (value_text v) (more_text vs) (plain_value v) (plain_more vs))

-- arguments
plain_values : (vs : List Value) → IsPlain (values_text vs)
plain_values [] = refl
plain_values (v ∷ vs) = plain_both (value_text v) (more_text vs) (plain_value v) (plain_more vs)

-- a text that is cut
plain_cut : (x : List ℕ) → IsPlain x → IsPlain (cut_text x)
plain_cut x p =
    plain_cond (nat_le (length x) most_bytes) x (take 38 x ++ codes "..") p
    (plain_both (take 38 x) (codes "..") (plain_take 38 x p) refl)

-- arguments in brackets
plain_brackets : (vs : List Value) → IsPlain (in_brackets vs)
plain_brackets [] = refl
plain_brackets (v ∷ vs) =
    let cut = cut_text (values_text (v ∷ vs)) in
    plain_both (codes "(") (cut ++ codes ")") refl
    (plain_both cut (codes ")") (plain_cut (values_text (v ∷ vs)) (plain_values (v ∷ vs))) refl)

-- the arguments of a task
plain_arguments : (d : Option Task) (vs : List Value) → IsPlain (arguments_text d vs)
plain_arguments None vs = refl
plain_arguments (Some d) vs = plain_brackets (take d.params vs)

-- where a task was forked
pub plain_fork : (s : Told) (m : Option Maker) → IsPlain (forked_text s m)
plain_fork s None = refl
plain_fork s (Some m) = plain_both (codes ", forked at ") (spot_text s m.decl m.at) refl (plain_spot s m.decl m.at)

-- one of three texts
pub plain_by_stop : (how : Stop) (x y z : List ℕ) → IsPlain x → IsPlain y → IsPlain z → IsPlain (by_stop how x y z)
plain_by_stop stop.Ended x y z p q r = p
plain_by_stop stop.Failed x y z p q r = q
plain_by_stop stop.Waits x y z p q r = r

-- how a task stopped
pub plain_stopped : (how : Stop) → IsPlain (stopped_word how)
plain_stopped how = plain_by_stop how (codes "ended") (codes "failed") (codes "waits") refl refl refl

-- what is told where all agree
pub plain_agreed : (b : Bool) (x : List ℕ) → IsPlain x → IsPlain (where_agreed b x)
plain_agreed b x p = plain_cond b x [] p refl

-- who owns a promise
pub plain_owner : (o : Option Name) → IsPlain (owner_text o)
plain_owner None = refl
plain_owner (Some x) =
    plain_both (codes ", which " ++ name_text x) (codes " owns") (plain_both (codes ", which ") (name_text x) refl
    (plain_name x)) refl

-- the word of a cause
pub plain_word : (c : Cause) → IsPlain (cause_word c)
plain_word cause.Arith = refl
plain_word cause.Kind = refl
plain_word cause.Steps = refl
plain_word (cause.Owner q) = refl
plain_word (cause.Broken q) = refl
plain_word (cause.Order q) = refl

-- a cause
pub plain_cause : (c : Cause) → IsPlain (cause_text c)
plain_cause cause.Arith = refl
plain_cause cause.Kind = refl
plain_cause cause.Steps = refl
plain_cause (cause.Owner q) = plain_both (codes "owner ") (name_text q) refl (plain_name q)
plain_cause (cause.Broken q) = plain_both (codes "broken ") (name_text q) refl (plain_name q)
plain_cause (cause.Order q) = plain_both (codes "order ") (name_text q) refl (plain_name q)

-- the word in front of the name of a cell
plain_sort : (k : Sort) → IsPlain (sort_words k)
plain_sort sort.Task = refl
plain_sort sort.Promise = refl

-- a value
plain_words : (v : Value) → IsPlain (value_words v)
plain_words (value.Num n) = plain_signed n
plain_words (value.Ref r) = plain_both (sort_words r.sort) (name_text r.name) (plain_sort r.sort) (plain_name r.name)

-- what a task met
plain_met : (t : ToldTask) (m : Met) → IsPlain (met_words t m)
plain_met t (met.Number n) = plain_signed n
plain_met t (met.Variable x) = plain_words (held_in t.held x)
plain_met t met.Itself = plain_both (sort_words sort.Task) (name_text t.name) refl (plain_name t.name)

-- what was wanted
plain_wanted : (w : Wanted) → IsPlain (wanted_words w)
plain_wanted wanted.Number = refl
plain_wanted wanted.Promise = refl
plain_wanted wanted.Task = refl

-- why a task failed
pub plain_reason : (t : ToldTask) (r : Reason) → IsPlain (reason_words t r)
plain_reason t reason.Division = refl
plain_reason t reason.Overflow = refl
plain_reason t (reason.Met m w) =
    let met = met_words t m in
    plain_both (met ++ codes " where " ++ wanted_words w) (codes " is wanted")
    (plain_both (met ++ codes " where ") (wanted_words w) (plain_both met (codes " where ") (plain_met t m) refl)
    (plain_wanted w)) refl

-- the same behind the word of a cause
plain_behind : (t : ToldTask) (r : Option Reason) → IsPlain (words_behind t r)
plain_behind t None = refl
plain_behind t (Some r) = plain_both (codes ", ") (reason_words t r) refl (plain_reason t r)

-- why tasks failed
pub plain_reasons : (s : Told) (t : ToldTask) (c : Cause) (ts : List ToldTask) → IsPlain (all_reasons s t c ts)
plain_reasons s t c ts =
    plain_agreed (list_all (λ u. same (reason_text s t c) (reason_text s u c)) ts) (reason_text s t c)
    (plain_behind t (reason_for s t c))

module _ (s : Told) (plain : HasPlainNames s) where
  -- the name of a declaration
  pub plain_named : (n : ℕ) → IsPlain (name_of (slice_get s.script n))
  plain_named n = by (slice_get s.script n) refl where
    by : (d : Option Task) → slice_get s.script n ≡ d → IsPlain (name_of d)
    by None e = refl
    by (Some d) e = plain.tasks n d e

  -- the variable of a `let`
  pub plain_let : (m : Maker) → IsPlain (let_text (let_name s m))
  plain_let m = by (let_name s m) refl where
    by : (x : Option (List ℕ)) → let_name s m ≡ x → IsPlain (let_text x)
    by None e = refl
    by (Some x) e = plain_both x (codes ", ") (plain.variables m x e) refl

  -- for which variable and where a promise was made
  pub plain_made : (m : Option Maker) → IsPlain (made_text s m)
  plain_made None = refl
  plain_made (Some m) =
      let name = let_text (let_name s m) in
      let spot = spot_text s m.decl m.at in
      plain_both (codes " (" ++ name ++ codes "made at " ++ spot) (codes ")")
      (plain_both (codes " (" ++ name ++ codes "made at ") spot
      (plain_both (codes " (" ++ name) (codes "made at ") (plain_both (codes " (") name refl (plain_let m)) refl)
      (plain_spot s m.decl m.at)) refl

  -- a promise
  pub plain_promise : (q : ToldCell) → IsPlain (promise_text s q)
  plain_promise q =
      plain_both (codes "the promise " ++ name_text q.name) (made_text s q.maker)
      (plain_both (codes "the promise ") (name_text q.name) refl (plain_name q.name)) (plain_made q.maker)

  -- a task
  pub plain_label : (t : ToldTask) → IsPlain (label s t)
  plain_label t =
      let name = name_of (slice_get s.script t.decl) in
      let values = arguments_text (slice_get s.script t.decl) t.began in
      let begun = name_text t.name ++ codes " (task " in
      plain_both (begun ++ name ++ values ++ forked_text s t.fork) (codes ")")
      (plain_both (begun ++ name ++ values) (forked_text s t.fork)
      (plain_both (begun ++ name) values
      (plain_both begun name (plain_both (name_text t.name) (codes " (task ") (plain_name t.name) refl)
      (plain_named t.decl)) (plain_arguments (slice_get s.script t.decl) t.began)) (plain_fork s t.fork)) refl

  -- a task, what it did, and where
  pub plain_task_at : (t : ToldTask) (did : List ℕ) → IsPlain did → IsPlain (task_at s t did)
  plain_task_at t did p =
      plain_both (label s t ++ did) (stop_text s t) (plain_both (label s t) did (plain_label t) p) (plain_stop s t)
