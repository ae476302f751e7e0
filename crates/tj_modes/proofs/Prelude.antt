-- The names that most proofs of this crate cite, passed on from one place. Declares nothing.
pub use Rattle.clap.specs.Faults.{fault_of, settle_fault, turn_fault}
pub use Rattle.clap.specs.Kinds.{Kinds, or_else}
pub use Rattle.clap.specs.Simple.{built, matches_of}
pub use Rattle.clap.specs.Walk.{Row, Text, Walk, has_row, one_of, walk_from}
pub use Rattle.clap.specs.Walk.{walked}
pub use Rattle.clap.specs.Words.{app_of}
pub use Rattle.clap.specs.declared.builder.value_parser.Reading.TheVariants.{AsWritten}
pub use Rattle.clap.specs.declared.parser.matches.ValueSource.TheVariants.{CommandLine}
pub use Rattle.std.proofs.Common.{Bool, Err, IfOk, IfSome, List, MatchOption, None, Ok, Option, Result, Some, String}
pub use Rattle.std.proofs.Common.{[], ap, append-nil, append_assoc, ap₂, arith, codes, false, inl, inr}
pub use Rattle.std.proofs.Common.{length, map, pos, refl, rules, subst, suc, sym, take, true, true≢false, unwrap_or}
pub use Rattle.std.proofs.Common.{zero, ℕ, ◌&&◌, ◌++◌, ◌<◌, ◌==◌, ◌||◌, ◌↔◌, ◌∙◌, ◌∷◌, ◌≡◌, ◌≢◌, ◌≤◌, ◌⊎◌}
pub use Rattle.std.proofs.Crossing.{crosses}
pub use Rattle.std.proofs.lemmas.Bool.{false≢true}
pub use Rattle.std.proofs.lemmas.Grind.{flat_map-append}
pub use Rattle.std.proofs.lemmas.List.Elements.{All-head, All-tail}
pub use Rattle.std.specs.Char.{is_ascii_digit}
pub use Rattle.std.specs.Io.KnownBytes.{Appends}
pub use Rattle.std.specs.List.{All, AllByRecursion, flat_map, fold, list_all, list_any}
pub use Rattle.std.specs.Prelude.{if◌then◌else◌, string_bytes}
pub use Rattle.std.specs.Str.{bytes_eq}
pub use Rattle.std.specs.Str.Parse.{digits_value}
pub use Rattle.std.specs.declared.alloc.Global.{Global}
pub use Rattle.tj_base.specs.declared.memory.Oom.{Oom}
pub use Rattle.tj_body.specs.Programs.{Program}
pub use Rattle.tj_body.specs.Rounds.{meaning}
pub use Rattle.tj_body.specs.declared.ask.Answer.{Answer}
pub use Rattle.tj_body.specs.declared.point.Point.{Point}
pub use Rattle.tj_chan.specs.ChanBodies.{root_body}
pub use Rattle.tj_chan.specs.ChannelOutcomes.{IsChatOutcome}
pub use Rattle.tj_chan.specs.ChannelRounds.{chat_meaning}
pub use Rattle.tj_core.specs.Journals.Lines.{lines_of}
pub use Rattle.tj_syntax.specs.ScriptTexts.{IsScriptOf, most_bytes}
pub use Rattle.tj_syntax.specs.declared.script_text.NoScript.{NoScript}
pub use Rattle.tj_eval.specs.Gets.{asks_no_get}
pub use Rattle.tj_eval.specs.Statements.{TaskState}
pub use Rattle.tj_gen.specs.Script.{script_text}
pub use Rattle.tj_lex.specs.Tokens.{AreTokens, greatest_number}
pub use Rattle.tj_lex.specs.declared.token.Tok.{Tok}
pub use Rattle.tj_lex.specs.declared.token.Token.{Token}
pub use Rattle.tj_mean.proofs.Lists.NameOrder.{in_unpermuted}
pub use Rattle.tj_mean.specs.OutcomeLaws.{HasOneOutcome}
pub use Rattle.tj_mean.specs.Outcomes.{is_marked}
pub use Rattle.tj_mean.specs.declared.outcome.Outcome.{Outcome}
pub use Rattle.tj_ports.specs.declared.source.ReadEnd.{ReadEnd}
pub use Rattle.tj_modes.specs.CommandLine.{HasLimits, IsCommand, IsShortNumeral, IsWithin, Item}
pub use Rattle.tj_modes.specs.CommandLine.{asked, digits_of, first_word, greatest, has_flag, is_flag, is_same}
pub use Rattle.tj_modes.specs.CommandLine.{mode_text, option, option_text, strict, words_of}
pub use Rattle.tj_modes.specs.Delivery.{HasText, IsPutAs}
pub use Rattle.tj_modes.specs.Generated.{IsGenerated, generated_script, head_statements, main_task, main_vars}
pub use Rattle.tj_modes.specs.Generated.{node_task, step_statements, steps_statements, tail_statements}
pub use Rattle.tj_modes.specs.Inputs.{HasRead, IsReadOf}
pub use Rattle.tj_modes.specs.Inner.LineNumbers.{AllFit, AreNumbersOf, IsNumberOf}
pub use Rattle.tj_modes.specs.Inner.LineParse.{AreMatchesOf, id_of, line_app}
pub use Rattle.tj_modes.specs.Inner.LineWords.{AreLineWords, HasNumeral, IsLineWord, IsReading}
pub use Rattle.tj_modes.specs.Judgings.{IsJournalFault, IsJudging, bad_line}
pub use Rattle.tj_modes.specs.KnownRuns.{IsKnownOf, needs_more, tells}
pub use Rattle.tj_modes.specs.Output.{IsCommandOutput, IsKnown, IsListed, IsOutput, IsRefused, IsRun, IsStartOfText}
pub use Rattle.tj_modes.specs.Output.{of_command, takes_input, usage}
pub use Rattle.tj_modes.specs.RelayRuns.{IsRelayRun, relay_chats}
pub use Rattle.tj_modes.specs.Runs.{IsOutcomeOf, IsRunOf, IsStartOf, NeedsMore, Start, ended, full}
pub use Rattle.tj_modes.specs.Runs.{start_of, status_of, text_of}
pub use Rattle.tj_command.specs.ScriptTexts.{fault_line}
pub use Rattle.tj_modes.specs.Texts.{full_line, journal_fault}
pub use Rattle.tj_modes.specs.declared.command.Command.{Command}
pub use Rattle.tj_modes.specs.declared.command.Command.TheVariants.{Gen, Judge, Known, List as list, Plan, Relay}
pub use Rattle.tj_modes.specs.declared.mode.Mode.{Mode}
pub use Rattle.tj_modes.specs.declared.mode.OptionName.{OptionName}
pub use Rattle.tj_modes.specs.declared.mode.OptionName.TheVariants.{Cells, Size, Steps, Workers}
pub use Rattle.tj_command.specs.declared.output.Output.{Output}
pub use Rattle.tj_command.specs.declared.limits.Limits.{Limits}
pub use Rattle.tj_modes.specs.declared.script_run.Told.{Told}
pub use Rattle.tj_modes.specs.declared.script_run.Told.TheVariants.{Report, Root, Summary}
pub use Rattle.tj_command.specs.declared.status.Status.{Status}
pub use Rattle.tj_command.specs.declared.status.Status.TheVariants.{Full, Memory, Script}
pub use Rattle.tj_command.specs.declared.status.Status.TheVariants.{WriteFault}
pub use Rattle.tj_syntax.proofs.Listed.Again.{AreFine, IsFine, fine-append}
pub use Rattle.tj_syntax.proofs.Sends.{expr_sync, script_sync, stmt_sync}
pub use Rattle.tj_syntax.specs.Faults.{IsScript, kinds_of}
pub use Rattle.tj_syntax.specs.Listing.{CanStand}
pub use Rattle.tj_syntax.specs.Marks.{Name, Noted, declares, fine}
pub use Rattle.tj_syntax.specs.Trees.{Statement, Task}
pub use Rattle.tj_syntax.specs.View.{statements_of}
pub use denote.Param.Send.{sendable}
