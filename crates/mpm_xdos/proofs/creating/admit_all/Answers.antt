use Rattle.std.proofs.Common.{◌≡◌, ◌∙◌, ◌<◌, length, sym, ap, refl, subst, arith}
use Rattle.std.specs.List.{list_all}
use Rattle.mpm_kernel.specs.Kernel.{Kernel, IsSoundKernel, dispatched}
use Rattle.mpm_dispatcher.specs.Dispatch.{in_slot}
use Rattle.mpm_kernel.proofs.SoundLaws.{sound_in_slot}
use Rattle.mpm_procs.specs.Table.{lowest_free}
use Rattle.mpm_xdos.specs.Creating.{children_of, child_at, all_admitted, has_console}
use Rattle.mpm_xdos.proofs.Children.{all_none, all_more, all_children, child_has_console}
use Rattle.mpm_xdos.proofs.creating.admit_all.Goals as goal

pub loop-number-init : goal.loop-number-init
loop-number-init c = record { kernel = sym (all_none c.args.kernel.now); sound = c.requires.sound; consoles = refl }

pub loop-number-preserved : goal.loop-number-preserved
loop-number-preserved c =
    let before = c.loop-number.kernel in
    let child = child_at c.args.parent.now c.args.base c.args.descriptors.now c.loop-number.number in
    let is : c.admit-admitted.new.self ≡ dispatched (in_slot child (lowest_free before.dispatcher.procs)) before =
    c.admit-admitted.ensures.kernel ∙ ap (λ new. dispatched (in_slot new (lowest_free before.dispatcher.procs)) before) c.child_at.ensures in
    let fits : child.console < length before.units.consoles =
    child_has_console (length before.units.consoles) c.args.parent.now c.args.base c.args.descriptors.now c.loop-number.number (omega arith)
    (ap (λ n. list_all (has_console n) (children_of c.args.parent.now c.args.base c.args.descriptors.now)) c.loop-number.invariant.consoles ∙ c.requires.consoles) in
    let P : Kernel → Type 0 = λ k. IsSoundKernel k in
    record {
      kernel = is
          ∙ ap (λ k. dispatched (in_slot child (lowest_free k.dispatcher.procs)) k) c.loop-number.invariant.kernel
          ∙ sym (all_more c.args.parent.now c.args.base c.args.descriptors.now c.loop-number.number c.args.kernel.now (omega arith));
      sound = subst P (sym is) (sound_in_slot before child (lowest_free before.dispatcher.procs) c.loop-number.invariant.sound refl fits);
      consoles = ap (λ k. length k.units.consoles) is ∙ c.loop-number.invariant.consoles;
    }

pub returns : goal.returns
returns c = record {
  kernel = c.loop-number.invariant.kernel
      ∙ ap (λ all. all_admitted all c.args.kernel.now)
      (all_children c.args.parent.now c.args.base c.args.descriptors.now c.loop-number.number (omega arith));
  sound = c.loop-number.invariant.sound;
}
