-- A name may go to another thread, and be looked at from there. It leads back to itself through how what its maker made
-- is named, and through what its longer comparisons leap to, so all are shown together: of what a name stands on, where
-- they are so of the names in it.
use mathlib.Core.Path.{◌≡◌}
use denote.Builtin.{u32}
use denote.Model.Goals.{Law, send, sync, Has, has_of, part_has, tied_goals}
use denote.Model.Local.{Parts, rows}
use denote.Param.Send.{IsSend, IsSync, sendable, view_send, view_sync, recorded_send, recorded_sync}
use denote.Param.SendFields.{declared_send, declared_sync, as_row_send, as_row_sync}
use denote.RattleType.{RattleType}
use denote.Struct.Declared as S
use denote.Struct.Field.{row_field}
use Rattle.std.proofs.Crossing.{crosses, Vec-send, Vec-sync, Arc-send, Arc-sync, Box-send, Box-sync}
use Rattle.std.proofs.option.Option.TheSendSync as option_sends
use Rattle.tj_base.specs.contracts.name.Name.{the_row}
use Rattle.tj_base.specs.contracts.name.Name.TheKnot as knot
use Rattle.tj_base.proofs.name.Name.TheLaws as laws

-- a number may go to another thread, and be looked at from there
number_send : IsSend u32
number_send = search sendable

number_sync : IsSync u32
number_sync = search sendable

-- so may a leap, by its fields, where the name before it may
leap_send : (R : RattleType) → IsSend R → IsSend (S.row (knot.type-Leap R))
leap_send R s = declared_send (knot.type-Leap R) (
  as_row_send (row_field R) s,
  (as_row_send (row_field _) (Vec-send u32 number_send), tt),
)

leap_sync : (R : RattleType) → IsSync R → IsSync (S.row (knot.type-Leap R))
leap_sync R s = declared_sync (knot.type-Leap R) (
  as_row_sync (row_field R) s,
  (as_row_sync (row_field _) (Vec-sync u32 number_sync), tt),
)

-- so may what names a thing that a task made, where its maker's name and the leap may
made_send : (R L : RattleType) → IsSend R → IsSend L → IsSend (S.row (knot.type-Made R L))
made_send R L s l = declared_send (knot.type-Made R L) (
  as_row_send (row_field R) s,
  (
    search (sendable, crosses) depth 20,
    (
      search (sendable, crosses) depth 20,
      (as_row_send (row_field _) (option_sends.the_send _ (Box-send L l)), tt),
    ),
  ),
)

made_sync : (R L : RattleType) → IsSync R → IsSync L → IsSync (S.row (knot.type-Made R L))
made_sync R L s l = declared_sync (knot.type-Made R L) (
  as_row_sync (row_field R) s,
  (
    search (sendable, crosses) depth 20,
    (
      search (sendable, crosses) depth 20,
      (as_row_sync (row_field _) (option_sends.the_sync _ (Box-sync L l)), tt),
    ),
  ),
)

-- so may a name, where what it shares with its copies may
name_send : (R : RattleType) → IsSend R → IsSync R → IsSend (S.row (knot.type-Name R))
name_send R s y = declared_send (knot.type-Name R)
    (as_row_send (row_field _) (option_sends.the_send _ (Arc-send R s y)), tt)

name_sync : (R : RattleType) → IsSend R → IsSync R → IsSync (S.row (knot.type-Name R))
name_sync R s y = declared_sync (knot.type-Name R)
    (as_row_sync (row_field _) (option_sends.the_sync _ (Arc-sync R s y)), tt)

-- the same of the three as the kit ties them, with the names in them told by p
module _ (p : Parts knot.frame) where
  abbrev Before : RattleType
  Before = rows knot.frame p laws.the_number

  abbrev split_leap : (knot.at-Leap p).Denot → (S.row (knot.type-Leap Before)).Denot
  split_leap x = (x.before, (x.numbers, tt))

  one_leap : (x y : (knot.at-Leap p).Denot) → split_leap x ≡ split_leap y → x ≡ y
  one_leap x y e = λ i. record { before = (e i).0; numbers = (e i).1.0 }

  at_leap_send : IsSend Before → IsSend (knot.at-Leap p)
  at_leap_send s = let r = recorded_send (S.row (knot.type-Leap Before)) (knot.at-Leap p).Denot split_leap one_leap
      (leap_send Before s) in record { owned = r.owned; leaving = r.leaving }

  at_leap_sync : IsSync Before → IsSync (knot.at-Leap p)
  at_leap_sync s = let r = recorded_sync (S.row (knot.type-Leap Before)) (knot.at-Leap p).Denot split_leap one_leap
      (leap_sync Before s) in record { shared = r.shared }

  abbrev MadeOf : S.Declared
  MadeOf = knot.type-Made Before (knot.at-Leap p)

  abbrev split_made : (knot.at-Made p).Denot → (S.row MadeOf).Denot
  split_made x = (x.maker, (x.number, (x.depth, (x.leap, tt))))

  one_made : (x y : (knot.at-Made p).Denot) → split_made x ≡ split_made y → x ≡ y
  one_made x y e = λ i. record { maker = (e i).0; number = (e i).1.0; depth = (e i).1.1.0; leap = (e i).1.1.1.0 }

  at_made_send : IsSend Before → IsSend (knot.at-Made p)
  at_made_send s = let r = recorded_send (S.row MadeOf) (knot.at-Made p).Denot split_made one_made
      (made_send Before (knot.at-Leap p) s (at_leap_send s)) in record { owned = r.owned; leaving = r.leaving }

  at_made_sync : IsSync Before → IsSync (knot.at-Made p)
  at_made_sync s = let r = recorded_sync (S.row MadeOf) (knot.at-Made p).Denot split_made one_made
      (made_sync Before (knot.at-Leap p) s (at_leap_sync s)) in record { shared = r.shared }

  abbrev split_name : (knot.at-Name p).Denot → (S.row (knot.type-Name (knot.at-Made p))).Denot
  split_name x = (x.made, tt)

  one_name : (x y : (knot.at-Name p).Denot) → split_name x ≡ split_name y → x ≡ y
  one_name x y e = λ i. record { made = (e i).0 }

  at_name_send : IsSend (knot.at-Made p) → IsSync (knot.at-Made p) → IsSend (knot.at-Name p)
  at_name_send s y = let r = recorded_send (S.row (knot.type-Name (knot.at-Made p))) (knot.at-Name p).Denot split_name
      one_name (name_send (knot.at-Made p) s y) in record { owned = r.owned; leaving = r.leaving }

  at_name_sync : IsSend (knot.at-Made p) → IsSync (knot.at-Made p) → IsSync (knot.at-Name p)
  at_name_sync s y = let r = recorded_sync (S.row (knot.type-Name (knot.at-Made p))) (knot.at-Name p).Denot split_name
      one_name (name_sync (knot.at-Made p) s y) in record { shared = r.shared }

  seen_send : IsSend (knot.at-Name p) → IsSend (knot.view-Name p)
  seen_send s = view_send (knot.at-Name p) _ _ _ _ s

  seen_sync : IsSync (knot.at-Name p) → IsSync (knot.view-Name p)
  seen_sync s = view_sync (knot.at-Name p) _ _ _ _ s

  seen_has : IsSend Before → IsSync Before → (l : Law) → Has l (knot.view-Name p)
  seen_has s y send = seen_send (at_name_send (at_made_send s) (at_made_sync y))
  seen_has s y sync = seen_sync (at_name_sync (at_made_send s) (at_made_sync y))

-- both are so of a name, whatever its length
name_has : (l : Law) → Has l the_row
name_has = tied_goals knot.frame knot.step knot.sizes
    (record { G = Law; member = λ l. laws.the_number; law = λ l. l })
    (λ p all l. has_of knot.frame l (knot.step p) laws.the_number
    (λ d. part_has l (knot.view-Name p) (seen_has p (all send) (all sync) l) d))

-- a name may go to another thread
pub names_send : IsSend the_row
names_send = name_has send
