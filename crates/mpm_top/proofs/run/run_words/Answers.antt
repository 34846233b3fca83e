use Rattle.std.proofs.Common.{◌≡◌, subst}
use Rattle.mpm_top.specs.Words.{Command, command_of, texts}
use Rattle.mpm_top.specs.Promises.{seen_by, Promises}
use Rattle.mpm_top.proofs.EndingLaws.{asked_command, known_ending}
use Rattle.mpm_top.proofs.run.run_words.Goals as goal

-- a command

pub returns-clause-command : goal.returns-clause-command
returns-clause-command g c command asked =
    let old = seen_by g.F.Files g.D.Drives g.S.Sink c.args.files.now c.args.drives.now c.args.sink.now in
    let new = seen_by g.F.Files g.D.Drives g.S.Sink c.run_command.new.files c.run_command.new.drives c.run_command.new.sink in
    let same = asked_command (command_of (texts c.args.words.now)) c.name_of.result.now _ c.in-Some.asked command c.in-Some.ensures.command c.name_of.ensures asked in
    subst (λ (k : Command). Promises (c.run_command.new.sink ≡ c.args.sink.now) (g.F.Files.missing c.args.files.now) k old new c.run_command.result) same
    (record {
      writes = c.run_command.ensures.writes;
      reason = c.run_command.ensures.reason;
      known = known_ending (g.F.Files.missing c.args.files.now) _ old new c.run_command.result c.run_command.ensures.reason c.run_command.ensures.fails.write
          c.run_command.ensures.missing c.run_command.ensures.missing_script;
    })
