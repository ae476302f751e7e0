-- The tasks that are read are a script.
use Rattle.std.proofs.Common.{◌≡◌, ◌⊎◌, inl, inr, ⊎_elim, rules, List, [], ◌∷◌, ◌++◌, None, Ok, Err, refl, option_map}
use Rattle.std.proofs.Common.{map, ap, sym, subst, ◌∙◌, arith, codes}
use Rattle.std.proofs.lemmas.Grind.{common_steps}
use Rattle.tj_lex.specs.declared.token.Tok.{Tok}
use Rattle.tj_lex.specs.declared.token.Tok.TheVariants as toks
use Rattle.tj_syntax.specs.Trees.{Task}
use Rattle.tj_syntax.specs.declared.fault.Stop.{Stop}
use Rattle.tj_syntax.specs.declared.fault.Stop.TheVariants as stop
use Rattle.tj_syntax.specs.Marks.{Name}
use Rattle.tj_syntax.specs.Inner.Stops.{IsFirstStop}
use Rattle.tj_syntax.proofs.Stops.FirstFault.{stops_first, flaw_first, no_main_first, params_first}
use Rattle.tj_lex.specs.declared.token.Token.{Token}
use Rattle.tj_lex.specs.Shorts.{whole_tokens}
use Rattle.tj_syntax.proofs.Bare.{kinds_whole}
use Rattle.tj_syntax.specs.Faults.{kinds_of}
use Rattle.tj_syntax.specs.Inner.State.{input_of}
use Rattle.tj_syntax.specs.Inner.Heads.{head_of, heads_of}
use Rattle.tj_syntax.specs.View as view
use Rattle.tj_syntax.specs.Inner.Input.{Head, Input, Outcome, Reads, heads_from, head_named}
use Rattle.tj_syntax.specs.Inner.Reading.{tasks}
use Rattle.tj_syntax.proofs.Sound.Script.{script_sound, start_of}
use Rattle.tj_syntax.proofs.read_script.tasks_of.Goals as goal

-- reading begins at the first token, without a variable
reads_from : (kinds : List Tok) (vars : List Name) (heads : List Head) → vars ≡ [] → heads ≡ heads_from [] kinds
    → (r : Outcome (List Task)) → tasks (record { ahead = kinds; vars = vars; tasks = heads; flaw = None }) ≡ r
    → tasks (start_of kinds) ≡ r
reads_from kinds vars heads v h r e =
    sym (ap (λ w. tasks (record { ahead = kinds; vars = w; tasks = heads; flaw = None })) v
    ∙ ap (λ hs. tasks (record { ahead = kinds; vars = []; tasks = hs; flaw = None })) h) ∙ e

-- the same, where the first tokens are told in another form
reads_whole : (kinds ahead : List Tok) (vars : List Name) (heads : List Head) → kinds ≡ ahead → vars ≡ []
    → heads ≡ heads_from [] ahead → (r : Outcome (List Task))
    → tasks (record { ahead = ahead; vars = vars; tasks = heads; flaw = None }) ≡ r → tasks (start_of kinds) ≡ r
reads_whole kinds ahead vars heads same v h r e = rw same (reads_from ahead vars heads v h r e)

pub returns-clause-ok : goal.returns-clause-ok
returns-clause-ok c =
    let body = whole_tokens c.args.text.now c.args.body.now in
    let kinds = kinds_of body in
    let ahead = kinds_whole c.args.text.now c.args.body.now in
    let heads : heads_of c.in-Ok.heads ≡ heads_from [] kinds = c.in-Ok.ensures ∙ sym (ap (heads_from []) ahead) in
    let found = map view.task c.in_ok-tasks.tasks.items in
    let read = reads_whole kinds _ c.new.result (heads_of c.in-Ok.heads) ahead c.new.ensures c.in-Ok.ensures
    (Ok (found, input_of c.tasks.new.self)) c.in_ok-tasks.ensures in
    let same : c.in-Some-main.head ≡ c.in-Some-2.field-0 = cc in
    let bare : c.in-Some-2.field-0.params ≡ 0 = subst (λ h. h.params ≡ 0) same (omega arith) in
    script_sound kinds found (input_of c.tasks.new.self) (head_of c.in-Some-2.field-0) read c.in_default-flaw.is
    (sym (ap (λ hs. head_named hs (codes "main")) heads) ∙ sym c.get-main.ensures ∙ ap (option_map
    head_of) c.in-Some-2.is)
    bare

-- a reading that stopped, but not for want of memory
stopped : {A B : Type 0} (see : A → B) (outcome : Outcome B) (e : Stop) (new : Input) → Reads see outcome (Err e) new
    → (e ≡ stop.Oom) ⊎ (outcome ≡ Err e)
stopped see outcome stop.Oom new h = inl refl
stopped see outcome e new h = inr h

pub returns-in_err-tasks-clause-fault : goal.returns-in_err-tasks-clause-fault
returns-in_err-tasks-clause-fault c =
    let body = whole_tokens c.args.text.now c.args.body.now in
    let kinds = kinds_of body in
    let ahead = kinds_whole c.args.text.now c.args.body.now in
    let heads : heads_of c.in-Ok.heads ≡ heads_from [] kinds = c.in-Ok.ensures ∙ sym (ap (heads_from []) ahead) in
    let e = c.in_err-tasks.field-0.0 in
    let fact : (e ≡ stop.Oom) ⊎ ((last : Token) → last.what ≡ toks.End → IsFirstStop (body ++ last ∷ []) e) =
    ⊎_elim (λ h. inl h)
    (λ h. let read = reads_whole kinds _ c.new.result (heads_of c.in-Ok.heads) ahead
    c.new.ensures c.in-Ok.ensures (Err e) h in
    inr (λ last end. stops_first body last end e read))
    (stopped {A = List Task} (λ l. l) _ e _ c.in_err-tasks.ensures) in
    first_of (search (rules, fact), grind (arith, common_steps))

pub returns-in-Some-clause-fault : goal.returns-in-Some-clause-fault
returns-in-Some-clause-fault c =
    let body = whole_tokens c.args.text.now c.args.body.now in
    let kinds = kinds_of body in
    let ahead = kinds_whole c.args.text.now c.args.body.now in
    let heads : heads_of c.in-Ok.heads ≡ heads_from [] kinds = c.in-Ok.ensures ∙ sym (ap (heads_from []) ahead) in
    let found = map view.task c.in_ok-tasks.tasks.items in
    let read = reads_whole kinds _ c.new.result (heads_of c.in-Ok.heads) ahead c.new.ensures c.in-Ok.ensures
    (Ok (found, input_of c.tasks.new.self)) c.in_ok-tasks.ensures in
    inr (λ last end. flaw_first body last end found (input_of c.tasks.new.self) c.in-Some.stop read
    c.in-Some.is)

pub returns-in-None-clause-fault : goal.returns-in-None-clause-fault
returns-in-None-clause-fault c =
    let body = whole_tokens c.args.text.now c.args.body.now in
    let kinds = kinds_of body in
    let ahead = kinds_whole c.args.text.now c.args.body.now in
    let heads : heads_of c.in-Ok.heads ≡ heads_from [] kinds = c.in-Ok.ensures ∙ sym (ap (heads_from []) ahead) in
    let found = map view.task c.in_ok-tasks.tasks.items in
    let read = reads_whole kinds _ c.new.result (heads_of c.in-Ok.heads) ahead c.new.ensures c.in-Ok.ensures
    (Ok (found, input_of c.tasks.new.self)) c.in_ok-tasks.ensures in
    inr (λ last end. no_main_first body last end found (input_of c.tasks.new.self) read c.in_default-flaw.is
    (sym (ap (λ hs. head_named hs (codes "main")) heads) ∙ sym c.get-main.ensures
    ∙ ap (option_map head_of) c.in-None.is))

pub returns-in-Some-main-clause-fault : goal.returns-in-Some-main-clause-fault
returns-in-Some-main-clause-fault c =
    let body = whole_tokens c.args.text.now c.args.body.now in
    let kinds = kinds_of body in
    let ahead = kinds_whole c.args.text.now c.args.body.now in
    let heads : heads_of c.in-Ok.heads ≡ heads_from [] kinds = c.in-Ok.ensures ∙ sym (ap (heads_from []) ahead) in
    let found = map view.task c.in_ok-tasks.tasks.items in
    let read = reads_whole kinds _ c.new.result (heads_of c.in-Ok.heads) ahead c.new.ensures c.in-Ok.ensures
    (Ok (found, input_of c.tasks.new.self)) c.in_ok-tasks.ensures in
    inr (λ last end. params_first body last end found (input_of c.tasks.new.self)
    (head_of c.in-Some-main.head) read c.in_default-flaw.is
    (sym (ap (λ hs. head_named hs (codes "main")) heads) ∙ sym c.get-main.ensures
    ∙ ap (option_map head_of) c.in-Some-main.is)
    (omega arith))
