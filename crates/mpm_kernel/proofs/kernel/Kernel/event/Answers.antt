use Rattle.std.proofs.Common.{◌∙◌, sym, ap, subst}
use Rattle.mpm_script.specs.declared.event.Event.{Event}
use Rattle.mpm_kernel.specs.Kernel.{Kernel, IsSoundKernel, CompletedLive}
use Rattle.mpm_kernel.specs.Events.{clock_ticked, device_ready, flag_came, happens, happened}
use Rattle.mpm_kernel.specs.Consoling.{key_came}
use Rattle.mpm_kernel.proofs.SoundLaws.{sound_happened, live_happened}
use Rattle.mpm_kernel.proofs.kernel.Kernel.event.Goals as goal

pub returns-in-Tick : goal.returns-in-Tick
unfolding happens
returns-in-Tick c =
    let is = c.tick.ensures ∙ ap clock_ticked c.begin_event.ensures ∙ ap (λ (event : Event). happened event c.args.self.now) (sym c.in-Tick.is) in
    record {
      kernel = is;
      sound = subst IsSoundKernel (sym is) (sound_happened c.args.event c.args.self.now c.requires.comes c.requires.sound);
      live = subst CompletedLive (sym is) (live_happened c.args.event c.args.self.now c.requires.comes c.requires.sound);
    }

pub returns-in-Key : goal.returns-in-Key
unfolding happens
returns-in-Key c =
    let is = c.key.ensures ∙ ap (key_came c.in-Key.console c.in-Key.byte) c.begin_event.ensures ∙ ap (λ (event : Event). happened event c.args.self.now) (sym c.in-Key.is) in
    record {
      kernel = is;
      sound = subst IsSoundKernel (sym is) (sound_happened c.args.event c.args.self.now c.requires.comes c.requires.sound);
      live = subst CompletedLive (sym is) (live_happened c.args.event c.args.self.now c.requires.comes c.requires.sound);
    }

pub returns-in-Ready : goal.returns-in-Ready
unfolding happens
returns-in-Ready c =
    let is = c.device_ready.ensures ∙ ap (λ (kernel : Kernel). device_ready kernel c.in-Ready.device c.in-Ready.byte) c.begin_event.ensures ∙ ap (λ (event : Event). happened event c.args.self.now) (sym c.in-Ready.is) in
    record {
      kernel = is;
      sound = subst IsSoundKernel (sym is) (sound_happened c.args.event c.args.self.now c.requires.comes c.requires.sound);
      live = subst CompletedLive (sym is) (live_happened c.args.event c.args.self.now c.requires.comes c.requires.sound);
    }

pub returns-in-Int : goal.returns-in-Int
unfolding happens
returns-in-Int c =
    let is = c.flag_came.ensures ∙ ap (flag_came c.in-Int.flag) c.begin_event.ensures ∙ ap (λ (event : Event). happened event c.args.self.now) (sym c.in-Int.is) in
    record {
      kernel = is;
      sound = subst IsSoundKernel (sym is) (sound_happened c.args.event c.args.self.now c.requires.comes c.requires.sound);
      live = subst CompletedLive (sym is) (live_happened c.args.event c.args.self.now c.requires.comes c.requires.sound);
    }
