use Rattle.std.proofs.Common.{◌≡◌, Some, rules, ◌∙◌, length, sym, ap, subst, arith}
use Rattle.mpm_procs.specs.Table.{process_in}
use Rattle.mpm_procs.proofs.MapLaws.{lives_after, process_after, call_changed}
use Rattle.mpm_kernel.specs.Kernel.{IsSoundKernel}
use Rattle.mpm_kernel.proofs.SoundLaws.{sound_call}
use Rattle.mpm_xdos.proofs.Beginning.{sound_created}
use Rattle.mpm_program_trials.proofs.processes.answer.Goals as goal

pub create-requires : goal.create-requires
create-requires c =
    let same = call_changed c.args.kernel.now.dispatcher.procs 0 c.describe.new.call (omega (arith, c.requires.sound.slots.calls)) in
    record {
      parent = record {
        sound = sound_call c.args.kernel.now 0 c.describe.new.call c.requires.sound;
        lives = lives_after c.args.kernel.now.dispatcher.procs 0 0 c.describe.new.call ∙ (sym c.lives.ensures ∙ c.if-lives.true);
        segment = λ seg e.
            let home : (process_in c.args.kernel.now.dispatcher.procs 0).seg ≡ Some seg =
            sym (ap (λ process. process.seg) (process_after c.args.kernel.now.dispatcher.procs 0 0 c.describe.new.call)) ∙ e in
            search rules;
      };
      few = omega (arith, ap (λ call. length call.bytes) same, c.describe.ensures, c.requires.few);
    }

pub returns-then-eq : goal.returns-then-eq
returns-then-eq c =
    subst IsSoundKernel (sym c.create.ensures.kernel) (sound_created _ 0 _ (sound_call c.args.kernel.now 0 c.describe.new.call c.requires.sound))
