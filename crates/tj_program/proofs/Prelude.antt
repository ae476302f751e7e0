-- The names that most proofs of this crate cite, passed on from one place. Declares nothing.
pub use Rattle.std.proofs.Common.{Bool, List, MatchOption, None, Option, Some, String}
pub use Rattle.std.proofs.Common.{[], ap, arith, cond, false, inl, inr}
pub use Rattle.std.proofs.Common.{length, map, refl, subst, sym, true}
pub use Rattle.std.proofs.Common.{ℕ, ◌<◌, ◌↔◌, ◌∙◌, ◌∷◌, ◌≡◌, ◌≢◌, ◌≤◌, ◌⊎◌}
pub use Rattle.std.proofs.Crossing.{crosses}
pub use Rattle.std.proofs.lemmas.Bool.{false≢true}
pub use Rattle.std.specs.Io.KnownBytes.{Appends}
pub use Rattle.std.specs.List.{AllByRecursion}
pub use Rattle.std.specs.declared.alloc.Global.{Global}
pub use Rattle.tj_body.specs.Programs.{Program, program_of}
pub use Rattle.tj_body.specs.Rounds.{meaning}
pub use Rattle.tj_body.specs.declared.ask.Answer.{Answer}
pub use Rattle.tj_body.specs.declared.point.Point.{Point}
pub use Rattle.tj_chan.specs.ChanBodies.{root_body}
pub use Rattle.tj_chan.specs.ChannelLaws.{bodies_of}
pub use Rattle.tj_syntax.specs.ScriptTexts.{IsScriptOf}
pub use Rattle.tj_gen.specs.Script.{script_text}
pub use Rattle.tj_mean.proofs.Lists.NameOrder.{in_unpermuted}
pub use Rattle.tj_mean.specs.Outcomes.{IsOutcome, is_marked}
pub use Rattle.tj_mean.specs.declared.outcome.Outcome.{Outcome}
pub use Rattle.tj_ports.specs.Faults.{HasFault}
pub use Rattle.tj_modes.specs.CommandLine.{HasNoForm, IsCommand}
pub use Rattle.tj_modes.specs.Delivery.{HasText, IsPutAs}
pub use Rattle.tj_modes.specs.Generated.{generated_script}
pub use Rattle.tj_program.specs.Inner.ClosedOutputs.{IsGiven}
pub use Rattle.tj_modes.specs.Inputs.{HasRead}
pub use Rattle.tj_modes.specs.Output.{IsCommandOutput, IsOutput, IsStartOfText}
pub use Rattle.tj_modes.specs.Output.{TakesInput, takes_input, usage}
pub use Rattle.tj_modes.specs.RelayRuns.{IsRelayRun, relay_rules, relay_start}
pub use Rattle.tj_modes.specs.Runs.{script_program}
pub use Rattle.tj_modes.specs.Runs.{start_of, status_of}
pub use Rattle.tj_modes.specs.declared.command.Command.{Command}
pub use Rattle.tj_modes.specs.declared.command.Command.TheVariants.{Gen, Known}
pub use Rattle.tj_modes.specs.declared.script_run.Told.{Told}
pub use Rattle.tj_modes.specs.declared.script_run.Told.TheVariants.{Report, Root, Summary}
pub use Rattle.tj_command.specs.declared.status.Status.{Status}
pub use Rattle.tj_command.specs.declared.status.Status.TheVariants.{Clean, Full, Marked, Memory, ReadFault, Script}
pub use Rattle.tj_command.specs.declared.status.Status.TheVariants.{Usage, WriteFault}
pub use Rattle.tj_syntax.proofs.Sends.{expr_sync, script_sync, stmt_sync}
pub use Rattle.tj_words.specs.declared.closed.RestCell.{RestCell}
pub use denote.Param.Send.{sendable}
