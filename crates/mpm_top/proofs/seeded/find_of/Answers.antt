use Rattle.std.proofs.Common.{◌∙◌, ◌++◌, ap, true}
use Rattle.mpm_devices.specs.Kinds.{counted}
use Rattle.mpm_render.specs.Outputs.{closed}
use Rattle.mpm_machine.specs.After.{after}
use Rattle.mpm_machine.specs.Settling.{carried}
use Rattle.mpm_top.specs.Beginnings.{begun}
use Rattle.mpm_top.proofs.seeded.find_of.Goals as goal

pub returns-in-Ok : goal.returns-in-Ok
returns-in-Ok c on stand =
    let said = closed true (carried (after c.args.steps (begun c.args.machine.now.system on))).outputs in
    let text = c.run_counted.ensures.text on stand ∙ ap (λ before. before ++ said) c.in-Ok.ensures in
    record {
      lines = c.of_consoles.ensures ∙ ap (counted 99) text;
      calls = c.of_calls.ensures ∙ ap (counted 116) text;
      records = c.data_sum.ensures _ (c.run_counted.ensures.files on stand);
    }
