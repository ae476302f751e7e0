use Rattle.tj_modes.proofs.Prelude.{ap, app_of, ap₂, true, ◌∙◌, ◌≡◌}
use Rattle.clap.specs.Simple.{app_of_fields}
use Rattle.clap.specs.Words.{App, with_rule}
use Rattle.clap.specs.declared.builder.command.Command.{Command}
use Rattle.clap.specs.declared.builder.command.Command.TheOpen.{Command-F}
use Rattle.tj_modes.specs.Inner.LineParse.{bare_app}
use Rattle.tj_modes.proofs.line_parse.line_command.Goals as goal

-- the settings of a command without a program's name and without help
abbrev bare : App → App
bare a = record a { top = record a.top { no_binary_name = true; disable_help_flag = true } }

pub returns : goal.returns
returns c =
    let fields = c.disable_help_flag.ensures
    ∙ ap (λ (f : Command-F Command). record f { disable_help_flag = true }) c.no_binary_name.ensures in
    let first : app_of c.disable_help_flag.result ≡ bare_app = ap app_of_fields fields ∙ ap bare c.new.ensures.app in
    c.in_ok-command.ensures.shape c.flag_of.ensures.local
    ∙ ap₂ with_rule (c.in_ok-arg-5.ensures.shape c.option_of-4.ensures.local
    ∙ ap₂ with_rule (c.in_ok-arg-4.ensures.shape c.option_of-3.ensures.local
    ∙ ap₂ with_rule (c.in_ok-arg-3.ensures.shape c.option_of-2.ensures.local
    ∙ ap₂ with_rule (c.in_ok-arg-2.ensures.shape c.option_of.ensures.local
    ∙ ap₂ with_rule (c.in_ok-arg.ensures.shape c.required_of.ensures.local
    ∙ ap₂ with_rule first c.required_of.ensures.rule) c.option_of.ensures.rule) c.option_of-2.ensures.rule)
    c.option_of-3.ensures.rule) c.option_of-4.ensures.rule) c.flag_of.ensures.rule
