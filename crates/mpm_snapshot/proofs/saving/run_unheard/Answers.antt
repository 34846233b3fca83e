use Rattle.mpm_top.specs.Beginnings.{command_on}
use Rattle.mpm_snapshot.specs.Parts.{Took, silent}
use Rattle.mpm_snapshot.proofs.SaveLaws.{runs_unheard, sees_unheard}
use Rattle.mpm_snapshot.proofs.saving.run_unheard.Goals as goal

pub returns : goal.returns
returns g c =
    let command = command_on c.args.name.now c.args.asked in
    let old = silent g.F.Files g.D.Drives c.args.files.now c.args.drives.now in
    let new = silent g.F.Files g.D.Drives c.run_command.new.files c.run_command.new.drives in
    record {
      usage = c.run_command.ensures.usage;
      text = c.run_command.new.sink;
      promises = runs_unheard (g.F.Files.missing c.args.files.now) command old new c.in-Ok.passage c.run_command.new.sink c.run_command.result c.in-Ok.ensures
          c.run_command.ensures.writes c.run_command.ensures.reason c.run_command.ensures.fails c.run_command.ensures.missing c.run_command.ensures.missing_script;
      saw = λ ran. sees_unheard command (λ system. Took c.args.taker.now system c.run_command.new.look) old new c.in-Ok.passage c.run_command.new.sink c.in-Ok.ensures
          (c.run_command.ensures.looked ran);
      fails = record {
        files = c.run_command.ensures.fails.files;
        drives = c.run_command.ensures.fails.drives;
        output = c.run_command.ensures.fails.output;
        write = c.run_command.ensures.fails.write;
      };
      program = c.run_command.ensures.program;
      files = c.run_command.ensures.files;
    }
