-- A watch may go to another thread, with the table that it is lent.
use denote.Param.Send.{IsSend, recorded_send, sendable, struct_send}
use denote.RattleType.{RattleType}
use denote.Struct.Declared.{row, shape}
use denote.Struct.Tuple.{type_at}
use mir.Syntax.{Sym}
use Rattle.std.proofs.Common.{[], ◌∷◌}
use Rattle.std.proofs.Crossing.{crosses}
use Rattle.tj_base.specs.contracts.cell.CellId as cell

-- a tuple of three may go to another thread, where its parts may
pub three_send : (name : Sym) (a b c : RattleType) → IsSend a → IsSend b → IsSend c
    → IsSend (row (type_at name (a ∷ b ∷ c ∷ [])))
three_send name a b c sa sb sc =
    let t = type_at name (a ∷ b ∷ c ∷ []) in
    recorded_send _ _ _ t.to_one (struct_send (shape t) (sa, (sb, (sc, tt))))

-- so may one of four
pub four_send : (name : Sym) (a b c d : RattleType) → IsSend a → IsSend b → IsSend c → IsSend d
    → IsSend (row (type_at name (a ∷ b ∷ c ∷ d ∷ [])))
four_send name a b c d sa sb sc sd =
    let t = type_at name (a ∷ b ∷ c ∷ d ∷ []) in
    recorded_send _ _ _ t.to_one (struct_send (shape t) (sa, (sb, (sc, (sd, tt)))))

-- and the number of a cell
pub cell_send : IsSend cell.the_row
cell_send = search (sendable, crosses) depth 20
