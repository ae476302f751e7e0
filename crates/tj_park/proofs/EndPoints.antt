-- The point at which a task ends, and the record that tells it: the result stands first among the owned cells, each
-- promise that is owed is to be broken, and the record tells the ended point once these cells are closed.
use Rattle.tj_park.proofs.Prelude.{Becomes, CellId, Entry, Filled, Finish, HasSeen, IsCell, IsIn, IsToBecome, List}
use Rattle.tj_park.proofs.Prelude.{Name, OrderedHasSame, Point, Program, Rec, Some, ToldBy, View, WritesBecome, [], ap}
use Rattle.tj_park.proofs.Prelude.{drop, ended_record, in_order, inl, inr, map, refl, subst, sym, ℕ, ⊎_elim, ◌∷◌, ◌≡◌}
use Rattle.tj_body.specs.History.{after_close, owned_in, to_task, with_entry}
use Rattle.tj_body.specs.declared.point.PointStage.{PointStage}
use Rattle.tj_body.proofs.Lists.{in_right, in_either, in_map, to_map}
use Rattle.tj_words.specs.SeatViews.KnowsMore.{AreAmong}
use Rattle.tj_words.specs.Words.Lists.{All, cell}
use Rattle.tj_words.specs.LawParts.Meaning.{HasCell}
use Rattle.tj_words.specs.LawParts.Telling.{ArePairs, HasName, TellsStage}
use Rattle.tj_park.specs.Endings.{HaveApartNames, IsEnding, IsOpen, result_of}
use Rattle.tj_body.specs.declared.point.Entry.TheVariants as entry
use Rattle.tj_body.specs.declared.point.PointStage.TheVariants as stage

-- a task that hasn't ended owns its result, and then what it holds
open_owned : (s : PointStage) (x : Name) (holds : List Name) → IsOpen s → owned_in s x holds ≡ x ∷ holds
open_owned (stage.Closed e) x holds o = absurd o
open_owned s x holds o = refl

-- of lists that agree element by element, what stands beside an element of either
beside : {A C : Type 0} (F : A → C → Type 0) (xs : List A) (ys : List C) → ArePairs F xs ys → (x : A) → IsIn x xs
    → (y : C) × IsIn y ys × F x y
beside F [] ys h x i = absurd i
beside F (a ∷ xs) [] h x i = absurd h
beside F (a ∷ xs) (c ∷ ys) h x (inl e) = (c, inl refl, subst (λ z. F z c) (sym e) h.0)
beside F (a ∷ xs) (c ∷ ys) h x (inr i) = let w = beside F xs ys h.1 x i in (w.0, inr w.1, w.2)

beside_back : {A C : Type 0} (F : A → C → Type 0) (xs : List A) (ys : List C) → ArePairs F xs ys → (y : C)
    → IsIn y ys → (x : A) × IsIn x xs × F x y
beside_back F xs [] h y i = absurd i
beside_back F [] (c ∷ ys) h y i = absurd h
beside_back F (a ∷ xs) (c ∷ ys) h y (inl e) = (a, inl refl, subst (F a) (sym e) h.0)
beside_back F (a ∷ xs) (c ∷ ys) h y (inr i) = let w = beside_back F xs ys h.1 y i in (w.0, inr w.1, w.2)

module _ {B : Type 0} (program : Program B) (t : ℕ) (f : Finish) (r : Rec B) (v : View B)
    (apart : HaveApartNames v.born) (cell_is : r.cell.0 ≡ t) (m : IsEnding program f r v)
    (written : WritesBecome program) (ordered : OrderedHasSame) where
  abbrev last : Point B
  last = record m.point { body = m.body }

  abbrev pub closed : Point B
  closed = after_close m.ending (result_of m.ending) last

  pub its_name : IsCell v.born t (to_task m.point.name)
  its_name = subst (λ c. IsCell v.born c (to_task m.point.name)) cell_is m.tells.of

  pairs : ArePairs (HasName v.born) r.owned (m.point.name ∷ m.point.holds)
  pairs = subst (ArePairs (HasName v.born) r.owned) (open_owned m.point.stage m.point.name m.point.holds m.unended)
      m.tells.owned_cells

  -- the result stands first, and the others are the promises that the point holds
  first_is : (cs : List CellId) → ArePairs (HasName v.born) cs (m.point.name ∷ m.point.holds)
      → (cs ≡ cell t ∷ drop 1 cs) × ArePairs (HasName v.born) (drop 1 cs) m.point.holds
  first_is [] h = absurd h
  first_is (c ∷ cs) h = (
    ap (λ n. cell n ∷ cs) (apart c.0 t h.0.0 (to_task m.point.name) h.0.1 its_name h.0.2),
    h.1,
  )

  pub result_first : r.owned ≡ cell t ∷ drop 1 r.owned
  result_first = (first_is r.owned pairs).0

  pub promises : ArePairs (HasName v.born) (drop 1 r.owned) m.point.holds
  promises = (first_is r.owned pairs).1

  wrote_broken : (q : Name) → IsIn q m.point.holds → IsIn (q, entry.Broken) closed.writes
  wrote_broken q i = in_right (q, entry.Broken) m.point.writes
      ((m.point.name, result_of m.ending) ∷ map (with_entry entry.Broken) (in_order m.point.holds))
      (inr (to_map (with_entry entry.Broken) q (in_order m.point.holds) ((ordered q m.point.holds).1 i)))

  -- each promise is to be broken
  pub to_break : All (λ (c : CellId). IsToBecome program v.born c.0 entry.Broken) (drop 1 r.owned)
  to_break c i = let w = beside (HasName v.born) (drop 1 r.owned) m.point.holds promises c i in
      let n : HasName v.born c w.0 = w.2 in (
        n.0,
        n.1,
        subst (λ q. Becomes program q entry.Broken) (sym n.2)
            (written closed w.0 entry.Broken m.ends (wrote_broken w.0 w.1)),
      )

  -- the result becomes what the ending says
  pub result_becomes : IsToBecome program v.born t (result_of m.ending)
  result_becomes = (
    to_task m.point.name,
    its_name,
    written closed m.point.name (result_of m.ending) m.ends (in_right (m.point.name, result_of m.ending) m.point.writes
        ((m.point.name, result_of m.ending) ∷ map (with_entry entry.Broken) (in_order m.point.holds)) (inl refl)),
  )

  module _ (filled : List Filled) (more : AreAmong v.filled filled) (set : HasSeen filled t (result_of m.ending))
      (broke : All (λ (c : CellId). HasSeen filled c.0 entry.Broken) (drop 1 r.owned)) (ends : r.finish ≡ Some f) where
    last_writes : (q : Name) (e : Entry) → IsIn (q, e)
        ((m.point.name, result_of m.ending) ∷ map (with_entry entry.Broken) (in_order m.point.holds))
        → HasCell v.born q (λ c x. HasSeen filled c e)
    last_writes q e (inl z) = subst (λ (w : Name × Entry). HasCell v.born w.0 (λ c x. HasSeen filled c w.1)) (sym z)
        (t, to_task m.point.name, its_name, refl, set)
    last_writes q e (inr i) =
        let w = in_map (with_entry entry.Broken) (q, e) (in_order m.point.holds) i in
        let b = beside_back (HasName v.born) (drop 1 r.owned) m.point.holds promises w.0
        ((ordered w.0 m.point.holds).0 w.1) in
        let n : HasName v.born b.0 w.0 = b.2 in
        subst (λ (z : Name × Entry). HasCell v.born z.0 (λ c x. HasSeen filled c z.1)) (sym w.2)
        (b.0.0, n.0, n.1, n.2, broke b.0 b.1)

    seen_more : (q : Name) (e : Entry) → HasCell v.born q (λ c x. HasSeen v.filled c e)
        → HasCell v.born q (λ c x. HasSeen filled c e)
    seen_more q e h = (h.0, h.1, h.2, h.3, more (record { cell = h.0; entry = e }) h.4)

    -- the record tells the ended point, with the broken promises as owed
    pub told_ended : ToldBy program v.born filled (ended_record r)
    told_ended = record {
      point = closed;
      tells = record {
        of = m.tells.of;
        body = m.tells.body;
        held = m.tells.held;
        owned_cells = tt;
        made = m.tells.made;
        prints = m.tells.prints;
        owed = (m.point.holds, promises, refl);
      };
      tells_stage = subst (λ o. TellsStage v.born o r.answer r.spare closed) (sym ends) (m.ending, m.says, refl);
      stands = record {
        of_rounds = m.ends;
        children = m.stands.children;
        promises = m.stands.promises;
        writes = λ q e i. ⊎_elim (λ j. seen_more q e (m.stands.writes q e j)) (λ j. last_writes q e j)
            (in_either (q, e) m.point.writes
            ((m.point.name, result_of m.ending) ∷ map (with_entry entry.Broken) (in_order m.point.holds)) i);
      };
    }
