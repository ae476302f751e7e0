use Rattle.tj_modes.proofs.Prelude.{Kinds, [], ap, app_of, fault_of, inl, inr, line_app, map, matches_of, refl, rules}
use Rattle.tj_modes.proofs.Prelude.{string_bytes, subst, sym, ◌∙◌, ◌≡◌}
use Rattle.clap.specs.Kinds.{HasKind}
use Rattle.clap.specs.Words.{is_simple, is_simple_and_free}
use Rattle.tj_modes.proofs.Lines.Parses.{are_matches, no_fault}
use Rattle.tj_modes.proofs.line_parse.matches_of.Goals as goal

pub returns-in-Ok : goal.returns-in-Ok
returns-in-Ok c =
    let app : app_of c.in_ok-line_command.field-0 ≡ line_app = c.in_ok-line_command.ensures in
    let texts = map string_bytes c.args.words.now in
    let fault = c.in-Ok.ensures.kinds (ap is_simple_and_free app ∙ refl) in
    let found = c.in-Ok.ensures.matches (ap is_simple app ∙ refl) in
    are_matches c.args.words.now c.in-Ok.matches c.requires.words (ap (λ a. fault_of a texts) (sym app) ∙ fault)
    (found.0 ∙ ap (λ a. matches_of a texts) app)

pub returns-in-Err-2 : goal.returns-in-Err-2
returns-in-Err-2 c mode items reading =
    let app : app_of c.in_ok-line_command.field-0 ≡ line_app = c.in_ok-line_command.ensures in
    let texts = map string_bytes c.args.words.now in
    let none : fault_of (app_of c.in_ok-line_command.field-0) texts ≡ [] =
    ap (λ a. fault_of a texts) app ∙ no_fault c.args.words.now mode items reading in
    let kinds = c.in-Err.ensures.kinds (ap is_simple_and_free app ∙ refl) in
    elim (subst (λ (k : Kinds). HasKind k c.in-Err.error) none kinds) [
      | inl memory ↦ search rules
      | inr other ↦ absurd other
    ]
