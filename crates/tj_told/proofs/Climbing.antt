-- The way from a cell up to the root, by PARENT and KID.
use Rattle.std.proofs.Common.{◌≡◌, ℕ, zero, suc, ◌-◌, ◌<◌, ◌≤◌, List, [], ◌∷◌, ◌++◌, Option, Result, Ok, Err}
use Rattle.std.proofs.Common.{IfOk, length}
use Rattle.std.proofs.Common.{reverse, refl, sym, ap, ◌∙◌, subst, inl, inr, arith}
use Rattle.std.proofs.Common.{◌↔◌, length-append}
use Rattle.std.proofs.Math.Option.{some-injective, some-ne-none}
use Rattle.std.proofs.lemmas.List.{append-nil, append_cancel_right, reverse-append}
use Rattle.tj_base.specs.ForkOrder.{Name, child}
use Rattle.tj_base.specs.declared.memory.Oom.{Oom}
use Rattle.tj_body.specs.History.{to_task}
use Rattle.tj_body.specs.Points.{Begins, IsIn}
use Rattle.tj_body.specs.declared.point.Reference.{Reference}
use Rattle.tj_log.specs.Shown.{SeatShown}
use Rattle.tj_words.proofs.Stores.SeatLists.{inside}
use Rattle.tj_words.specs.LawParts.ShownState.{reference_of}
use Rattle.tj_words.specs.LawParts.TreeWords.{IsCell}
use Rattle.tj_words.specs.SeatViews.SeatSteps.{IsSameSeat}
use Rattle.tj_words.specs.SeatViews.SeenWords.{FindsWord, MayReadTree, seen_word}
use Rattle.tj_words.specs.declared.offsets.Once.TheVariants as once
use Rattle.tj_record.specs.declared.record.Rec.{Rec}
use Rattle.tj_words.specs.declared.view.View.{View}
use Rattle.tj_told.specs.Observers.{KnowsCell, KnowsName, LooksOn, Observes, SeesMaker}
use Rattle.tj_words.specs.declared.table.Laid.{Laid}
use Rattle.std.proofs.lemmas.List.{append_assoc}
use Rattle.std.proofs.Common.{◌≢◌}
use Rattle.tj_log.specs.declared.entry.Entry.{Entry}
use Rattle.tj_words.specs.declared.view.SeenWord.{SeenWord}
use Rattle.tj_told.specs.ToldLoads.{GrowsTo}
use Rattle.tj_told.specs.ToldLinks.{ClimbsTo, SeesName}
use Rattle.tj_words.proofs.SeatLoads.KnowsMoreOn.{Keeps, keeps_itself, keeps_on}
use Rattle.tj_told.proofs.Looking.{keeps_word}

-- what the list of all cells has at an index
cell_reference : (born : List Reference) (c : ℕ) (x : Reference) → IsCell born c x → reference_of born c ≡ x
cell_reference [] zero x h = absurd (some-ne-none x (sym h))
cell_reference [] (suc c) x h = absurd (some-ne-none x (sym h))
cell_reference (y ∷ born) zero x h = some-injective y x h
cell_reference (y ∷ born) (suc c) x h = cell_reference born c x h

-- a cell of a list is one of each longer list
cell_in_front : (xs more : List Reference) (c : ℕ) (x : Reference) → IsCell xs c x → IsCell (xs ++ more) c x
cell_in_front [] more c x h = absurd (some-ne-none x (sym h))
cell_in_front (y ∷ xs) more zero x h = h
cell_in_front (y ∷ xs) more (suc c) x h = cell_in_front xs more c x h

pub cell_on : (xs ys : List Reference) (c : ℕ) (x : Reference) → Begins xs ys → IsCell xs c x → IsCell ys c x
cell_on xs ys c x b h = subst (λ z. IsCell z c x) (sym b.1) (cell_in_front xs b.0 c x h)

moved : {A : Type 0} (xs : List A) (x : A) (ys : List A) → xs ++ x ∷ ys ≡ (xs ++ x ∷ []) ++ ys
moved [] x ys = refl
moved (z ∷ zs) x ys = ap (λ l. z ∷ l) (moved zs x ys)

-- a number at the end of a list stands in front of those that are listed from the end on
last_first : (xs : List ℕ) (k : ℕ) (ks : List ℕ) → (xs ++ k ∷ []) ++ reverse ks ≡ xs ++ reverse (ks ++ k ∷ [])
last_first xs k ks = sym (moved xs k (reverse ks)) ∙ ap (λ l. xs ++ l) (sym (reverse-append ks (k ∷ [])))

-- a list with an element at its end isn't the empty one, and equal lists have equal ends
end_some : (xs : List ℕ) (x : ℕ) → xs ++ x ∷ [] ≢ []
end_some xs x e = let a = length-append xs (x ∷ []) in let b = ap (λ (l : List ℕ). length l) e in omega arith

end_same : (xs ys : List ℕ) (x y : ℕ) → xs ++ x ∷ [] ≡ ys ++ y ∷ [] → x ≡ y
end_same [] [] x y e = cc
end_same [] (b ∷ ys) x y e = let t : [] ≡ ys ++ y ∷ [] = cc in absurd (end_some ys y (sym t))
end_same (a ∷ xs) [] x y e = let t : xs ++ x ∷ [] ≡ [] = cc in absurd (end_some xs x t)
end_same (a ∷ xs) (b ∷ ys) x y e = let t : xs ++ x ∷ [] ≡ ys ++ y ∷ [] = cc in end_same xs ys x y t

-- where nothing is left in front, a list is what stands behind
nothing_left : (left rest whole : List ℕ) → whole ≡ left ++ rest → length left ≡ 0 → whole ≡ rest
nothing_left [] rest whole e z = e
nothing_left (x ∷ left) rest whole e z = absurd (omega arith)

-- a log with one step more goes on
pub grows_by : {a b : List Entry} {e : Entry} → b ≡ e ∷ a → GrowsTo a b
grows_by {a} {b} {e} h = (e ∷ [], h)

-- a log that goes on twice goes on
pub grows_on : (a b c : List Entry) → GrowsTo a b → GrowsTo b c → GrowsTo a c
grows_on a b c p q = (
  q.0 ++ p.0,
  q.1 ∙ (ap (λ l. q.0 ++ l) p.1 ∙ sym (append_assoc q.0 p.0 a)),
)

-- a climb goes on by a step, and stands where more is seen
climbs_more : (seen : List SeenWord) (c : ℕ) (ks : List ℕ) (at p k : ℕ) → ClimbsTo seen c ks at → at ≢ 0
    → IsIn (seen_word at once.Parent p) seen → IsIn (seen_word at once.Kid k) seen
    → ClimbsTo seen c (ks ++ k ∷ []) (p - 1)
climbs_more seen c [] at p k h n i j =
    subst (λ z. ClimbsTo seen z (k ∷ []) (p - 1)) (sym h) (n, (p, i, j, refl))
climbs_more seen c (x ∷ ks) at p k h n i j =
    (h.0, (h.1.0, h.1.1, h.1.2, climbs_more seen (h.1.0 - 1) ks at p k h.1.3 n i j))

climbs_where : (seen more : List SeenWord) → ((w : SeenWord) → IsIn w seen → IsIn w more) → (c : ℕ) (ks : List ℕ)
    (at : ℕ) → ClimbsTo seen c ks at → ClimbsTo more c ks at
climbs_where seen more f c [] at h = h
climbs_where seen more f c (k ∷ ks) at h = (
  h.0,
  (
    h.1.0,
    f (seen_word c once.Parent h.1.0) h.1.1,
    f (seen_word c once.Kid k) h.1.2,
    climbs_where seen more f (h.1.0 - 1) ks at h.1.3,
  ),
)

-- a name that was seen is seen where more is
pub name_where : (seen more : List SeenWord) → ((w : SeenWord) → IsIn w seen → IsIn w more) → (c : ℕ) (q : Name)
    → SeesName seen c q → SeesName more c q
name_where seen more f c q h = (h.0, climbs_where seen more f c h.0 0 h.1, h.2)

module _ {B : Type 0} where
  pub same_on : (a b c : SeatShown (Option (Rec B)) (View B)) → IsSameSeat a b → IsSameSeat b c → IsSameSeat a c
  same_on a b c p q = (q.0 ∙ p.0, q.1 ∙ p.1, q.2 ∙ p.2)

  -- looks on looks
  pub looks_itself : (a : SeatShown (Option (Rec B)) (View B)) → LooksOn a a
  looks_itself a = let k = keeps_itself a.me.0 in record {
    same = (refl, refl, refl);
    idle = k.idle;
    more = k.more;
    log = ([], refl);
  }

  pub looks_then : (a b c : SeatShown (Option (Rec B)) (View B)) → LooksOn a b → IsSameSeat b c → Keeps b.me.0 c.me.0
      → GrowsTo b.log c.log → LooksOn a c
  looks_then a b c p same k grows =
      let all = keeps_on a.me.0 b.me.0 c.me.0 (record { idle = p.idle; more = p.more }) k in
      record {
        same = same_on a b c p.same same;
        idle = all.idle;
        more = all.more;
        log = grows_on a.log b.log c.log p.log grows;
      }

  pub looks_on : (a b c : SeatShown (Option (Rec B)) (View B)) → LooksOn a b → LooksOn b c → LooksOn a c
  looks_on a b c p q = looks_then a b c p q.same (record { idle = q.idle; more = q.more }) q.log

  -- an observer's seat that has looked on is an observer's
  pub observes_on : (laid : Laid B) (a b : SeatShown (Option (Rec B)) (View B)) → Observes laid a → LooksOn a b
      → Observes laid b
  observes_on laid a b o p = record {
    table = p.same.0 ∙ o.table;
    idle = p.idle o.idle;
    slots = p.same.2 ∙ o.slots;
    root = cell_on a.me.0.born b.me.0.born 0 (to_task []) p.more.born o.root;
  }

  -- PARENT and KID of a cell were loaded, one after the other
  module _ (cells at p k : ℕ) (now mid new : SeatShown (Option (Rec B)) (View B)) (first : IsSameSeat now mid)
      (parent : FindsWord cells once.Parent at p now.me.0 mid.me.0) (second : IsSameSeat mid new)
      (kid : FindsWord cells once.Kid at k mid.me.0 new.me.0)
      (logged : GrowsTo now.log mid.log) (then : GrowsTo mid.log new.log) where
    -- the seat knows what it knew
    pub both_looked : LooksOn now new
    both_looked = looks_then now mid new
        (looks_then now now mid (looks_itself now) first (keeps_word cells once.Parent at p now.me.0 mid.me.0 parent)
        logged)
        second (keeps_word cells once.Kid at k mid.me.0 new.me.0 kid) then

    -- and sees the maker
    pub maker_seen : (maker : ℕ) → maker ≡ p - 1 → SeesMaker cells at maker k new.me.0
    maker_seen maker e = record {
      parent = p;
      leads = e;
      parent_seen = subst (λ (z : View B). IsIn (seen_word at once.Parent p) z.seen) (sym kid.view)
          (inr (subst (λ (z : View B). IsIn (seen_word at once.Parent p) z.seen) (sym parent.view) (inl refl)));
      kid_seen = subst (λ (z : View B). IsIn (seen_word at once.Kid k) z.seen) (sym kid.view) (inl refl);
      names = kid.names;
      few = subst (λ (z : View B). length z.born ≤ cells) (sym kid.view) kid.all.few;
    }

  -- the seat has come up from cell c to this one: the name of c is that of this cell and the numbers so far, the last
  -- one first
  pub record Climbs (cells : ℕ) (old now : SeatShown (Option (Rec B)) (View B)) (c at : ℕ) (parts : List ℕ) : Type 0
    where
      pub looks : LooksOn old now
      pub below : at < cells
      pub may : MayReadTree at now.me.0
      pub from : Reference
      pub here : Reference
      pub from_is : IsCell now.me.0.born c from
      pub here_is : IsCell now.me.0.born at here
      pub name : from.name ≡ here.name ++ reverse parts
      pub climbs : ClimbsTo now.me.0.seen c parts at

  -- at its beginning
  pub climbs_first : (cells : ℕ) (seat : SeatShown (Option (Rec B)) (View B)) (c : ℕ) → c < cells
      → KnowsCell c seat.me.0 → Climbs cells seat seat c c []
  climbs_first cells seat c there knows = record {
    looks = looks_itself seat;
    below = there;
    may = inr (inl knows.0);
    from = knows.1.0;
    here = knows.1.0;
    from_is = knows.1.1;
    here_is = knows.1.1;
    name = sym (append-nil knows.1.0.name);
    climbs = refl;
  }

  -- the seat has looked on, and sees the maker of a cell
  module _ (cells at maker k : ℕ) (now new : SeatShown (Option (Rec B)) (View B)) (looks : LooksOn now new)
      (m : SeesMaker cells at maker k new.me.0) (later : 0 < at) where
    -- the name of the cell is that of its maker and its number
    maker_is : (here : Reference) → IsCell now.me.0.born at here
        → (y : Reference) × IsCell new.me.0.born maker y × (here.name ≡ child y.name k)
    maker_is here h =
        subst (λ n. (y : Reference) × IsCell new.me.0.born n y × (here.name ≡ child y.name k)) (sym m.leads)
        (m.names.named at m.parent k here (λ e. let z : at ≡ 0 = e in omega arith) m.parent_seen m.kid_seen
        (cell_on now.me.0.born new.me.0.born at here looks.more.born h))

    -- which is shorter
    pub shorter : (here : Reference) → IsCell now.me.0.born at here
        → length (reference_of new.me.0.born maker).name < length (reference_of now.me.0.born at).name
    shorter here h =
        let y = maker_is here h in
        let long = ap (λ (q : Name). length q) y.2 ∙ length-append y.0.name (k ∷ []) in
        subst (λ (z : Reference). length z.name < length (reference_of now.me.0.born at).name)
        (sym (cell_reference new.me.0.born maker y.0 y.1))
        (subst (λ (z : Reference). length y.0.name < length z.name)
        (sym (cell_reference now.me.0.born at here h)) (omega arith))

    may_read : (p : ℕ) → m.parent ≡ p → MayReadTree maker new.me.0
    may_read zero e = let l = m.leads in inl (omega arith)
    may_read (suc q) e = let l = m.leads in let z : m.parent ≡ suc maker = omega arith in inr (inr (
      seen_word at once.Parent m.parent,
      m.parent_seen,
      (inl refl, z),
    ))

    module _ (old : SeatShown (Option (Rec B)) (View B)) (c : ℕ) (parts : List ℕ)
        (i : Climbs cells old now c at parts) where
      -- the seat knows what it knew
      pub looked : LooksOn old new
      looked = looks_on old now new i.looks looks

      -- and has come up to the maker
      pub climbs_on : (more : List ℕ) → more ≡ parts ++ k ∷ [] → Climbs cells old new c maker more
      climbs_on more pushed = let y = maker_is i.here i.here_is in record {
        looks = looked;
        below = let room = inside new.me.0.born maker y.0 y.1 in let few = m.few in omega arith;
        may = may_read m.parent refl;
        from = i.from;
        here = y.0;
        from_is = cell_on now.me.0.born new.me.0.born c i.from looks.more.born i.from_is;
        here_is = y.1;
        name = i.name
            ∙ ap (λ (n : Name). n ++ reverse parts) y.2
            ∙ last_first y.0.name k parts
            ∙ ap (λ (l : List ℕ). y.0.name ++ reverse l) (sym pushed);
        climbs = subst (λ l. ClimbsTo new.me.0.seen c l maker) (sym pushed)
            (subst (ClimbsTo new.me.0.seen c (parts ++ k ∷ [])) (sym m.leads)
            (climbs_more new.me.0.seen c parts at m.parent k
            (climbs_where now.me.0.seen new.me.0.seen looks.more.seen c parts at i.climbs)
            (λ z. let y : at ≡ 0 = z in omega arith) m.parent_seen m.kid_seen));
      }

      -- a name of the cell, of which these numbers are the last ones, goes on with that of the maker and the number
      name_left : (name left : Name) → name ≡ left ++ reverse parts → KnowsName c name new.me.0
          → (y : Name) × (left ≡ y ++ k ∷ [])
      name_left name left is knows = let y = maker_is i.here i.here_is in
          let from = cell_on now.me.0.born new.me.0.born c i.from looks.more.born i.from_is in
          let same : i.from ≡ knows.0 = some-injective i.from knows.0 (sym from ∙ knows.1) in (
            y.0.name,
            append_cancel_right left (y.0.name ++ k ∷ []) (reverse parts) (sym is
                ∙ sym knows.2
                ∙ ap (λ (x : Reference). x.name) (sym same)
                ∙ i.name
                ∙ ap (λ (n : Name). n ++ reverse parts) y.2),
          )

      -- so the cell hasn't the name where no number is left, or another one
      pub none_left : (name left : Name) → name ≡ left ++ reverse parts → left ≡ [] → ¬ KnowsName c name new.me.0
      none_left name left is none knows = let y = name_left name left is knows in
          end_some y.0 k (sym y.1 ∙ none)

      pub other_left : (name left before : Name) (last : ℕ) → name ≡ left ++ reverse parts → left ≡ before ++ last ∷ []
          → last ≢ k → ¬ KnowsName c name new.me.0
      other_left name left before last is split other knows = let y = name_left name left is knows in
          other (end_same before y.0 last k (sym split ∙ y.1))

      -- where it is this one, the name goes on with what stands before it
      pub left_on : (name left before : Name) (last : ℕ) → name ≡ left ++ reverse parts → left ≡ before ++ last ∷ []
          → last ≡ k → name ≡ before ++ reverse (parts ++ k ∷ [])
      left_on name left before last is split same = is
          ∙ ap (λ (n : Name). n ++ reverse parts) (split ∙ ap (λ n. before ++ n ∷ []) same)
          ∙ last_first before k parts

  -- at the root
  module _ (cells : ℕ) (old now : SeatShown (Option (Rec B)) (View B)) (c at : ℕ) (parts : List ℕ)
      (i : Climbs cells old now c at parts) (root : IsCell old.me.0.born 0 (to_task [])) (least : at ≤ 0) where
    -- the numbers so far are the name
    whole : i.from.name ≡ reverse parts
    whole =
        let z : at ≡ 0 = omega arith in
        let r = cell_on old.me.0.born now.me.0.born 0 (to_task []) i.looks.more.born root in
        let here = subst (λ n. IsCell now.me.0.born n i.here) z i.here_is in
        let is : i.here ≡ to_task [] = some-injective i.here (to_task []) (sym here ∙ r) in
        i.name ∙ ap (λ (x : Reference). x.name ++ reverse parts) is

    sees_whole : SeesName now.me.0.seen c (reverse parts)
    sees_whole = let z : at ≡ 0 = omega arith in (parts, subst (ClimbsTo now.me.0.seen c parts) z i.climbs, refl)

    pub climbed : (r : Result Name Oom) (text : List ℕ) → text ≡ reverse parts → IfOk r (λ q. q ≡ text)
        → IfOk r (λ q. KnowsName c q now.me.0)
    climbed (Ok q) text e h = (i.from, i.from_is, whole ∙ sym e ∙ sym h)
    climbed (Err f) text e h = tt

    pub climbed_seen : (r : Result Name Oom) (text : List ℕ) → text ≡ reverse parts → IfOk r (λ q. q ≡ text)
        → IfOk r (λ q. SeesName now.me.0.seen c q)
    climbed_seen (Ok q) text e h = subst (SeesName now.me.0.seen c) (sym (h ∙ e)) sees_whole
    climbed_seen (Err f) text e h = tt

    -- a name of which these numbers are the last ones is the cell's exactly where no number is left of it
    pub named_here : (name left : Name) → name ≡ left ++ reverse parts → (length left ≡ 0) ↔ KnowsName c name now.me.0
    named_here name left is = (none, some)
      where
        none : length left ≡ 0 → KnowsName c name now.me.0
        none z = (i.from, i.from_is, whole ∙ sym (nothing_left left (reverse parts) name is z))

        some : KnowsName c name now.me.0 → length left ≡ 0
        some knows =
            let same : i.from ≡ knows.0 = some-injective i.from knows.0 (sym i.from_is ∙ knows.1) in
            let e = sym is ∙ sym knows.2 ∙ ap (λ (x : Reference). x.name) (sym same) ∙ whole in
            let a = length-append left (reverse parts) in
            let b = ap (λ (l : List ℕ). length l) e in
            omega arith

    pub seen_here : (name left : Name) → name ≡ left ++ reverse parts → length left ≡ 0
        → SeesName now.me.0.seen c name
    seen_here name left is z = subst (SeesName now.me.0.seen c) (sym (nothing_left left (reverse parts) name is z)) sees_whole
