-- A table may be lent to another thread, where its tasks' bodies may go there.
use Rattle.tj_run.proofs.Prelude.{Bool, [], false, true, ◌∷◌}
use base.Shift.{Keyless}
use denote.Builtin.{u32}
use denote.Exit.{Last, if_kept, left, unseen}
use denote.Param.Send.{IsSend, IsSync, recorded_send, recorded_sync, sendable, struct_send, struct_sync}
use denote.RattleType.{RattleType}
use denote.Struct.Declared.{row, shape}
use denote.Struct.Tuple.{type_at}
use mir.Syntax.{Dict, Sym, given}
use Rattle.std.proofs.Crossing.{crosses}
use Rattle.tj_body.specs.declared.body.Body.{Ghosts}
use Rattle.tj_log.proofs.table.LogTable.TheSendSync as table_sends
use Rattle.std.proofs.option.Option.TheSendSync as option_sends
use Rattle.std.specs.contracts.option.Option as option
use Rattle.tj_record.proofs.record.Rec.TheSendSync as record_sends
use Rattle.tj_record.specs.contracts.record.Rec as record_row
use Rattle.tj_words.specs.contracts.table.Key as key
use Rattle.tj_words.specs.contracts.table.Laid as laid
use Rattle.tj_words.specs.contracts.table.Law as law
use Rattle.tj_words.specs.contracts.table.LawLogRuleOptionRecViewKey.TheImpl as law_logs
use Rattle.tj_words.specs.contracts.view.View as view

-- a value that is seen no more says the same to every thread
pub unseen_quiet : {D : Type 0} (b : Bool) (x : D) (w : Last (if_kept b (unseen {D = D}) unseen) x)
    → Keyless (left (if_kept b (unseen {D = D}) unseen) x w)
unseen_quiet true x w = tt
unseen_quiet false x w = tt

-- the law's ghost members hang on no dictionary, so any will do
no_calls : Dict
no_calls = given 0

-- what lies in a slot
pub slot_send : (B : RattleType) → IsSend B → IsSend (option.the_row (record_row.the_row B))
slot_send B s = option_sends.the_send (record_row.the_row B) (record_sends.the_send B s)

pub laid_sync : (B : RattleType) (g : Ghosts B.Denot) → IsSend B → IsSync (laid.the_row B g)
laid_sync B g s = recorded_sync _ _ _ (laid.the_type B g).to_one (struct_sync (shape (laid.the_type B g)) (
  table_sends.the_sync (option.the_row (record_row.the_row B)) (view.the_row B) (key.the_row B) law.the_row
      (law_logs.ghosts B g no_calls no_calls) (slot_send B s),
  (
    search sendable depth 10,
    (
      search sendable depth 10,
      (
        search (sendable, crosses) depth 10,
        (search (sendable, crosses) depth 20, tt),
      ),
    ),
  ),
))

-- a tuple of seven may go to another thread, where its parts may
pub seven_send : (name : Sym) (a b c d e f h : RattleType) → IsSend a → IsSend b → IsSend c → IsSend d → IsSend e
    → IsSend f → IsSend h
    → IsSend (row (type_at name (a ∷ b ∷ c ∷ d ∷ e ∷ f ∷ h ∷ [])))
seven_send name a b c d e f h sa sb sc sd se sf sh =
    let t = type_at name (a ∷ b ∷ c ∷ d ∷ e ∷ f ∷ h ∷ []) in
    recorded_send _ _ _ t.to_one (struct_send (shape t) (sa, (sb, (sc, (sd, (se, (sf, (sh, tt))))))))

pub u32_send : IsSend u32
u32_send = search sendable
