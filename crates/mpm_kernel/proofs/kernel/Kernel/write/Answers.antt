use Rattle.std.proofs.Common.{sym, subst, rules, arith}
use Rattle.std.proofs.lemmas.Grind.{common_steps}
use Rattle.mpm_consoles.specs.Consoles.{Consoles}
use Rattle.mpm_kernel.specs.contracts.kernel.Kernel.{the_view}
use Rattle.mpm_kernel.specs.Kernel.{IsSoundKernel}
use Rattle.mpm_kernel.specs.Columns.{wrote}
use Rattle.mpm_kernel.proofs.SoundLaws.{sound_wrote}
use Rattle.mpm_kernel.proofs.kernel.Kernel.write.Goals as goal

pub returns : goal.returns
unfolding wrote
returns c =
    let before = the_view c.self.inside in
    let P : Consoles → Type 0 = λ units. IsSoundKernel (record before { units = units }) in
    record {
      kernel = first_of (search rules, grind (arith, common_steps));
      spaces = first_of (search rules, grind (arith, common_steps));
      sound = λ sound. subst P (sym c.output.ensures.yields.made) (sound_wrote before c.args.unit c.args.byte c.args.tabs (subst IsSoundKernel (sym c.self.view_is) sound));
    }
