-- The core state that is shown is one: makers, numbers and names are those that words and hands tell.
use Rattle.tj_words.proofs.Prelude.{CellState, Contents, Law, List, Name, None, Option, Program, Reference, Some, []}
use Rattle.tj_words.proofs.Prelude.{ap, arith, at_longer, child, core_shown, dite, drawn_in, get_elem?, hand_of}
use Rattle.tj_words.proofs.Prelude.{held_of, home_of, inl, made_of, next_reference, owner_shown, put, put_else}
use Rattle.tj_words.proofs.Prelude.{put_here, reference_of, refl, some, stage_shown, subst, suc, sym, to_task, zero}
use Rattle.tj_words.proofs.Prelude.{ℕ, ℕ_discrete, ⊎_elim, ◌++◌, ◌<◌, ◌∙◌, ◌∷◌, ◌≡◌, ◌≢◌, ◌≤◌}
use Rattle.tj_words.specs.declared.view.Hand.{Hand}
use Rattle.tj_words.proofs.Lemmas.{DrawsCell, IsToldBy, KeepsCells, Parts, cell_blank, cell_born, cell_there, index_is}
use Rattle.tj_words.proofs.Lemmas.{last_at, parts_of, shown_is}
use Rattle.tj_words.proofs.Events.StepEvents.{IsInHandOf}
use Rattle.tj_words.proofs.Events.DrawEvents.{t_there, drawn_into}
use Rattle.tj_words.specs.declared.offsets.Once.TheVariants as once

abbrev name_in : List Reference → ℕ → Name
name_in born c = (reference_of born c).name

module _ {B : Type 0} {program : Program B} {cells : ℕ} {x : Contents B} (r : Law program cells x) where
  abbrev n : ℕ
  n = drawn_in cells x

  pub root_name : name_in r.born 0 ≡ []
  root_name = ap (λ (z : Reference). z.name) (index_is r.born 0 (to_task []) (to_task []) r.births.root)

  -- a maker is an earlier cell
  pub maker_before : (c : ℕ) → c ≢ 0 → c < n → r.maker c < c
  maker_before c z l = subst (λ m. m < c)
      (ap (λ (q : CellState). q.maker) (cell_there r.born r.maker (parts_of cells x) c l))
      (r.facts.makers.makers_before c l z)

  -- a name is the maker's, one step on
  pub name_by : (c : ℕ) → c ≢ 0 → c < n → name_in r.born c ≡ child (name_in r.born (r.maker c)) (r.number c)
  name_by c z l = let w = r.births.named c (reference_of r.born c) (cell_born r c l) z in
      w.2 ∙ ap (λ (q : Reference). child q.name (r.number c)) (sym (index_is r.born (r.maker c) (to_task []) w.0 w.1))

  -- the words of a cell that is there tell its maker and its number
  module _ (c parent kid : ℕ) (l : suc c < n) (t : IsToldBy x (suc c) parent kid) where
    pub told_maker : parent ≡ suc (r.maker (suc c))
    told_maker = sym t.parent_is ∙ r.tree_words.written (suc c) (reference_of r.born (suc c)) once.Parent (l, t.out)
        (cell_born r (suc c) l) tt

    pub told_number : kid ≡ r.number (suc c)
    told_number = sym t.kid_is ∙ r.tree_words.written (suc c) (reference_of r.born (suc c)) once.Kid (l, t.out)
        (cell_born r (suc c) l) tt

  -- and so does the hand of one in hand
  module _ (c m made : ℕ) (t : IsInHandOf x c m made) where
    pub hand_maker : r.maker c ≡ m
    hand_maker = (r.births.in_hand c t.hand t.in_hand).0 ∙ t.maker_is

    pub hand_number : r.number c ≡ made
    hand_number = (r.births.in_hand c t.hand t.in_hand).1 ∙ (ap (made_of x) t.maker_is ∙ t.made_is)

module _ {B : Type 0} {program : Program B} {cells : ℕ} {x y : Contents B} (r : Law program cells x)
    (s : Law program cells y) (keeps : KeepsCells cells x y) (grows : drawn_in cells x ≤ drawn_in cells y) where
  -- makers and numbers are as they were
  abbrev AreSame : ℕ → Type 0
  AreSame c = (s.maker c ≡ r.maker c) × (s.number c ≡ r.number c)

  pub same_told : (c : ℕ) → c < drawn_in cells x → AreSame c
  same_told zero l = (
    s.births.root_maker ∙ sym r.births.root_maker,
    s.births.root_number ∙ sym r.births.root_number,
  )
  same_told (suc c) l = by (hand_of x (suc c)) refl
    where
      inside : suc c < drawn_in cells y
      inside = omega (arith, l, grows)

      told : (parent kid : ℕ) → parent ≡ suc (r.maker (suc c)) → kid ≡ r.number (suc c) → IsToldBy y (suc c) parent kid
          → AreSame (suc c)
      told parent kid p k t = let q = told_maker s c parent kid inside t in
          (omega arith, sym (told_number s c parent kid inside t) ∙ k)

      by : (o : Option Hand) → hand_of x (suc c) ≡ o → AreSame (suc c)
      by None e = let a = x.words.once (suc c) once.Parent in let b = x.words.once (suc c) once.Kid in
          let t : IsToldBy x (suc c) a b = record { out = e; parent_is = refl; kid_is = refl } in
          told a b (told_maker r c a b l t) (told_number r c a b l t) (keeps.there (suc c) (l, e))
      by (Some h) e = let w = r.births.in_hand (suc c) h e in
          ⊎_elim
          (λ t. (
            hand_maker s (suc c) h.maker (made_of x h.maker) t ∙ sym w.0,
            hand_number s (suc c) h.maker (made_of x h.maker) t ∙ sym w.1,
          ))
          (told (suc h.maker) (made_of x h.maker) (ap suc (sym w.0)) (sym w.1))
          (keeps.hands (suc c) h e)

  -- and so are the names, from the root on
  pub same_name : (k c : ℕ) → c < k → c < drawn_in cells x → name_in s.born c ≡ name_in r.born c
  same_name zero c f l = absurd (omega arith)
  same_name (suc k) zero f l = root_name s ∙ sym (root_name r)
  same_name (suc k) (suc c) f l = let w = same_told (suc c) l in let b = maker_before r (suc c) (λ e. omega arith) l in
      name_by s (suc c) (λ e. omega arith) (omega (arith, l, grows))
      ∙ ((λ j. child (name_in s.born (w.0 j)) (w.1 j))
      ∙ (ap (λ q. child q (r.number (suc c))) (same_name k (r.maker (suc c)) (omega arith) (omega arith))
      ∙ sym (name_by r (suc c) (λ e. omega arith) l)))

  pub kept_name : (c : ℕ) → c < drawn_in cells x → name_in s.born c ≡ name_in r.born c
  kept_name c l = same_name (suc c) c (omega arith) l

  -- the state that is shown has these makers and names
  pub shown_with : (born : List Reference) (made_by_whom : ℕ → ℕ)
      → ((c : ℕ) → c < drawn_in cells y → s.maker c ≡ made_by_whom c)
      → ((c : ℕ) → c < drawn_in cells y → name_in s.born c ≡ name_in born c)
      → core_shown cells s.born s.maker y ≡ core_shown cells born made_by_whom y
  shown_with born whom m q = shown_is s.born s.maker (parts_of cells y) (core_shown cells born whom y) refl
      (λ c l. (λ j. record {
        maker = m c l j;
        name = q c l j;
        made = made_of y c;
        owner = owner_shown c (hand_of y c) (y.words.own c);
        stage = stage_shown c (hand_of y c) (y.words.own c) (y.words.phase c) (held_of y c) (home_of y c);
      }) ∙ sym (cell_there born whom (parts_of cells y) c l))
      (λ c l. cell_blank born whom (parts_of cells y) c l) refl refl

  pub chained : drawn_in cells y ≡ drawn_in cells x
      → core_shown cells s.born s.maker y ≡ core_shown cells r.born r.maker y
  chained e = shown_with r.born r.maker
      (λ c l. (same_told c (subst (λ k. c < k) e l)).0)
      (λ c l. kept_name c (subst (λ k. c < k) e l))

  -- after a draw the cell that was drawn is its drawer's next
  module _ (id t : ℕ) (h : Hand) (d : DrawsCell cells x y id t h) where
    abbrev next : ℕ
    next = drawn_in cells x

    abbrev new : Reference
    new = next_reference r.born t (made_of x t) h.sort

    abbrev born_then : List Reference
    born_then = r.born ++ next_reference r.born t (made_of x t) h.sort ∷ []

    one_more : drawn_in cells y ≡ suc next
    one_more = ap (λ (z : Parts B). z.drawn) d.parts

    t_inside : t < next
    t_inside = (t_there r y id t h d).0

    next_maker : s.maker next ≡ t
    next_maker = (s.births.in_hand next h (drawn_into r y id t h d).here).0 ∙ d.hand_maker

    next_number : s.number next ≡ suc (made_of x t)
    next_number = let e = drawn_into r y id t h d in
        (s.births.in_hand next h e.here).1 ∙ (e.made_one ∙ ap (λ m. suc (made_of x m)) d.hand_maker)

    next_name : name_in s.born next ≡ new.name
    next_name = name_by s next (λ z. let l = r.facts.makers.root_there in absurd (omega arith))
        (omega (arith, one_more))
        ∙ ((λ j. child (name_in s.born (next_maker j)) (next_number j))
        ∙ ap (λ q. child q (suc (made_of x t))) (kept_name t t_inside))

    last_name : name_in born_then next ≡ new.name
    last_name = ap (λ (z : Reference). z.name)
        (index_is born_then next _ new
        (subst (λ m. get_elem? born_then m ≡ some new) r.births.all (last_at r.born new)))

    makers : (c : ℕ) → c < drawn_in cells y → s.maker c ≡ put r.maker next t c
    makers c l = dite (ℕ_discrete c next)
        (λ e. subst (λ k. s.maker k ≡ put r.maker next t k) (sym e) (next_maker ∙ sym (put_here r.maker next t)))
        (λ f. (same_told c (omega (arith, l, one_more, f))).0 ∙ sym (put_else r.maker next t c f))

    names : (c : ℕ) → c < drawn_in cells y → name_in s.born c ≡ name_in born_then c
    names c l = dite (ℕ_discrete c next)
        (λ e. subst (λ k. name_in s.born k ≡ name_in born_then k) (sym e) (next_name ∙ sym last_name))
        (λ f. let i : c < next = omega (arith, l, one_more, f) in kept_name c i
        ∙ sym (ap (λ (z : Reference). z.name)
        (index_is born_then c _ (reference_of r.born c) (at_longer r.born (new ∷ []) c _ (cell_born r c i)))))

    pub drawn_chained : core_shown cells s.born s.maker y ≡ core_shown cells born_then (put r.maker next t) y
    drawn_chained = shown_with born_then (put r.maker next t) makers names

-- where no hand, nothing that is made, and no PARENT or KID is changed
pub keeps_itself : {B : Type 0} (cells : ℕ) (x : Contents B) → KeepsCells cells x x
keeps_itself cells x = record {
  there = λ c i. record { out = i.1; parent_is = refl; kid_is = refl };
  hands = λ c h e. inl (record { hand = h; in_hand = e; maker_is = refl; made_is = refl });
}

pub one_shown : {B : Type 0} {program : Program B} {cells : ℕ} {x : Contents B} (r s : Law program cells x)
    → core_shown cells s.born s.maker x ≡ core_shown cells r.born r.maker x
one_shown {cells = cells} {x = x} r s = chained r s (keeps_itself cells x) (omega arith) refl
