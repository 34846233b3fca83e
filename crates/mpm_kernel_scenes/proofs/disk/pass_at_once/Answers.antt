use Rattle.std.proofs.Common.{ℕ, ◌<◌, ◌≤◌, ◌+◌, Option, IfSome, unwrap_or, sym, subst, arith}
use Rattle.std.proofs.lemmas.Bool.Decides.{nat_tests}
use Rattle.mpm_service.specs.Disk.{DiskService}
use Rattle.mpm_kernel_scenes.proofs.ServingLaws.{serves_passed}
use Rattle.mpm_kernel_scenes.proofs.disk.pass_at_once.Goals as goal

pub pass_disk-requires : goal.pass_disk-requires
pass_disk-requires c =
    let few : c.args.steps ≤ c.in-Some.quiet = grind (arith, nat_tests, c.if-steps-quiet.true) in
    record {
      sound = c.requires.sound;
      few = subst (λ (disk : DiskService). IfSome disk.served (λ call. call.passed + c.args.steps < disk.turn_steps)) c.disk.ensures
          (c.quiet.ensures.few c.args.steps (subst (λ (o : Option ℕ). c.args.steps ≤ unwrap_or o c.args.steps) (sym c.in-Some.is) few));
    }

pub returns-in-Some : goal.returns-in-Some
returns-in-Some c =
    serves_passed c.args.steps c.args.kernel.now _ c.requires c.pass_disk.ensures.sound c.pass_disk.ensures.kernel (c.pass_disk.ensures.begun c.requires.begun)
