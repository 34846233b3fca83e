use Rattle.std.proofs.Common.{◌≡◌, ◌∙◌, Bool, false, None, sym, subst}
use Rattle.std.specs.Bool.{OnTrue}
use Rattle.mpm_ready.specs.Order.{first_of}
use Rattle.mpm_kernel.proofs.SoundLaws.{runner_lives}
use Rattle.mpm_system.proofs.WholeLaws.{segment_is_home}
use Rattle.mpm_machine.proofs.MovingLaws.{runs_on}
use Rattle.mpm_machine.proofs.ahead.look_ahead.Goals as goal

pub segment-requires : goal.segment-requires
segment-requires c = runner_lives c.args.system.now.kernel c.in-Some.p c.requires.whole.sound c.in-Some.ensures.running

pub gate_of_calls-gate-requires : goal.gate_of_calls-gate-requires
gate_of_calls-gate-requires c =
    segment_is_home c.args.system.now c.in-Some.p c.in-Some-segment.seg c.requires.whole
    (runner_lives c.args.system.now.kernel c.in-Some.p c.requires.whole.sound c.in-Some.ensures.running) (sym c.segment.ensures ∙ c.in-Some-segment.is)

pub returns : goal.returns
returns c =
    let disk = c.args.system.now.kernel.disk in
    record {
      ahead = record {
        on = runs_on c.args.system.now c.in-Some.p c.in-Some-segment.seg c.requires.whole c.in-Some.ensures.running c.in-Some.ensures.first
            (sym c.segment.ensures ∙ c.in-Some-segment.is) c.requires.no_completions c.if-system.false;
        quiet = c.last_quiet-last.ensures.quiet;
        passing = c.last_quiet-last.ensures.passing;
        alone = λ told. (
          subst (λ (b : Bool). OnTrue b (disk.served ≡ None)) told c.is_alone-alone.ensures.served,
          subst (λ (b : Bool). OnTrue b (first_of disk.waiting ≡ None)) told c.is_alone-alone.ensures.nobody,
        );
        gate = c.gate_of_calls-gate.ensures;
      };
      untraced = λ told. subst (λ (b : Bool). OnTrue b (c.args.traced ≡ false)) told c.is_alone-alone.ensures.untraced;
    }
