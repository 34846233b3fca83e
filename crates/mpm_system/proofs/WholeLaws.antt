-- What a whole system has, and that it stays whole while its kernel, its memory or its residents change.
use Rattle.std.proofs.Common.{◌≡◌, ◌∙◌, ℕ, Bool, true, false, List, Some, refl, sym, ap, length, arith}
use Rattle.std.proofs.lemmas.Bool.{false≢true}
use Rattle.z80_regs.specs.declared.regs.Regs.{Regs}
use Rattle.mpm_base.specs.Calls.{Taken, Answer}
use Rattle.mpm_banks.specs.Memory.{Memory, HasSegment}
use Rattle.mpm_procs.specs.Table.{lives, Lives, process_in, call_of, with_call}
use Rattle.mpm_procs.specs.declared.process.Process.{Process}
use Rattle.mpm_procs.proofs.MapLaws.{lives_below, lives_changed, process_changed, process_after, call_after, call_changed, lives_after}
use Rattle.mpm_dispatcher.specs.Dispatch.{IsReady, with_procs}
use Rattle.mpm_kernel.specs.Kernel.{Kernel, IsSoundKernel, CompletedLive, is_aborted, with_changed, dispatched}
use Rattle.mpm_kernel.proofs.SoundLaws.{sound_process, sound_call, sound_called, lives_called, live_called, live_kept}
use Rattle.mpm_kernel.proofs.HomeLaws.{SameHomes, homes_changed, homes_call, homes_called, call_called}
use Rattle.mpm_gate.specs.Gates.{IsHome}
use Rattle.mpm_residents.specs.declared.native.Native.{Native}
use Rattle.mpm_system.specs.declared.system.System.{System}
use Rattle.mpm_system.specs.Whole.{HasRoom, IsWhole, NobodyAborted}
use Rattle.mpm_system.specs.Calling.{asking, calling}
use Rattle.mpm_system.specs.Taking.{with_regs, keeping}
use Rattle.mpm_system.specs.Answering.{replied, recorded, answering_call}
use Rattle.mpm_system.proofs.HomeLaws.{KeepsHomes}

-- the segment of a process is a home
pub segment_is_home : (system : System) (p seg : ℕ) → IsWhole system → Lives system.kernel.dispatcher.procs p → (process_in system.kernel.dispatcher.procs p).seg ≡ Some seg
    → IsHome system.memory seg
segment_is_home system p seg w h home = w.homes p seg h home

pub segment_is_there : (system : System) (p seg : ℕ) → IsWhole system → Lives system.kernel.dispatcher.procs p → (process_in system.kernel.dispatcher.procs p).seg ≡ Some seg
    → HasSegment system.memory seg
segment_is_there system p seg w h home = (w.homes p seg h home).exists

-- nobody is aborted where nobody was, and nobody more is now

not_now : (b was : Bool) → (b ≡ true → was ≡ true) → was ≡ false → b ≡ false
not_now true was so none = absurd (false≢true (sym none ∙ so refl))
not_now false was so none = refl

pub nobody_more : (old new : Kernel) → ((p : ℕ) → is_aborted new.dispatcher.procs p ≡ true → is_aborted old.dispatcher.procs p ≡ true) → NobodyAborted old → NobodyAborted new
nobody_more old new so none = λ p. not_now (is_aborted new.dispatcher.procs p) (is_aborted old.dispatcher.procs p) (so p) (none p)

-- another kernel, whose processes live where some lived before
pub whole_kernel : (system : System) (kernel : Kernel) → IsWhole system → IsSoundKernel kernel → CompletedLive kernel → SameHomes system.kernel kernel
    → IsWhole (record system { kernel = kernel })
whole_kernel system kernel w s live homes = record {
  sound = s;
  live = live;
  script = w.script;
  settled = λ off. nobody_more system.kernel kernel homes.aborts (w.settled off);
  memory = w.memory;
  homes = λ p seg h home. let there = homes.all p seg h home in w.homes there.who seg there.lives there.home;
  lived = λ p seg h home. let there = homes.all p seg h home in w.lived there.who seg there.lives there.home;
}

-- another memory, in which each home is one
pub whole_memory : (system : System) (memory : Memory) → IsWhole system → KeepsHomes system.memory memory
    → IsWhole (record system { memory = memory })
whole_memory system memory w keeps = record {
  sound = w.sound;
  live = w.live;
  script = w.script;
  settled = w.settled;
  memory = keeps.memory w.memory;
  homes = λ p seg h home. keeps.all seg (w.homes p seg h home);
  lived = λ p seg h home. keeps.lived seg (w.homes p seg h home) (w.lived p seg h home);
}

-- a system is whole after a part of the step of a process, which lives and keeps its call
pub record StaysWhole (p : ℕ) (old new : System) : Type 0 where
  pub whole : IsWhole new
  pub lives : Lives new.kernel.dispatcher.procs p
  pub call : call_of new.kernel.dispatcher.procs p ≡ call_of old.kernel.dispatcher.procs p

-- a process changes: its console, its printer, its multiple sector count, its procedure, its segment and whether its end is due stay
pub whole_changed : (p : ℕ) (process : Process) (system : System) → IsWhole system → Lives system.kernel.dispatcher.procs p
    → process.console ≡ (process_in system.kernel.dispatcher.procs p).console → process.printer ≡ (process_in system.kernel.dispatcher.procs p).printer
    → process.multi ≡ (process_in system.kernel.dispatcher.procs p).multi → process.procedure ≡ (process_in system.kernel.dispatcher.procs p).procedure
    → process.seg ≡ (process_in system.kernel.dispatcher.procs p).seg → process.abort_due ≡ (process_in system.kernel.dispatcher.procs p).abort_due
    → StaysWhole p system (record system { kernel = with_changed system.kernel p process })
whole_changed p process system w h console printer multi procedure seg due = record {
  whole = whole_kernel system _ w
      (sound_process system.kernel p process w.sound h console printer multi procedure)
      (live_kept system.kernel (with_changed system.kernel p process) refl (λ q living. lives_changed system.kernel.dispatcher.procs p q process ∙ living) w.live)
      (homes_changed system.kernel p process w.sound.slots h seg due);
  lives = lives_changed system.kernel.dispatcher.procs p p process ∙ h;
  call = call_after system.kernel.dispatcher.procs p p process;
}

-- the registers of a process change
pub whole_regs : (p : ℕ) (regs : Regs) (system : System) → IsWhole system → Lives system.kernel.dispatcher.procs p
    → StaysWhole p system (record system { kernel = with_regs system.kernel p regs })
whole_regs p regs system w h =
    whole_changed p (record (process_in system.kernel.dispatcher.procs p) { regs = regs }) system w h refl refl refl refl refl refl

pub lives_replied : (reply : Answer) (call : Taken) (p seg : ℕ) (old afterwards : System) → Lives old.kernel.dispatcher.procs p → afterwards ≡ replied reply call p seg old
    → Lives afterwards.kernel.dispatcher.procs p
unfolding replied
lives_replied reply call p seg old afterwards h is =
    ap (λ (s : System). lives s.kernel.dispatcher.procs p) is ∙ lives_changed old.kernel.dispatcher.procs p p _ ∙ h

-- the record that follows is that of the call
pub answers_recorded : (reply : Answer) (p seg : ℕ) (old afterwards : System) → afterwards ≡ replied reply (call_of old.kernel.dispatcher.procs p) p seg old
    → recorded (call_of afterwards.kernel.dispatcher.procs p) p afterwards ≡ answering_call reply (call_of old.kernel.dispatcher.procs p) p seg old
unfolding answering_call replied
answers_recorded reply p seg old afterwards is =
    ap (λ (s : System). recorded (call_of s.kernel.dispatcher.procs p) p s) is
    ∙ ap (λ call. recorded call p (replied reply (call_of old.kernel.dispatcher.procs p) p seg old)) (call_after old.kernel.dispatcher.procs p p _)

pub room_replied : (reply : Answer) (call : Taken) (p seg : ℕ) (old afterwards : System) → HasRoom old → afterwards ≡ replied reply call p seg old → HasRoom afterwards
unfolding replied
room_replied reply call p seg old afterwards room is = omega (arith, room, ap (λ (s : System). length s.records) is)

pub whole_calling : (p : ℕ) (system : System) → IsWhole system → Lives system.kernel.dispatcher.procs p → IsReady system.kernel.dispatcher p
    → StaysWhole p system (calling p system).system
whole_calling p system w h ready = record {
  whole = whole_kernel system _ w (sound_called p system.kernel w.sound h ready) (live_called p system.kernel w.sound h ready)
      (homes_called p system.kernel w.sound h);
  lives = lives_called p system.kernel w.sound h ready;
  call = call_called p system.kernel w.sound h ready;
}

-- a call is taken: the process keeps it, is ready as before, and has its segment
pub record Keeps (p : ℕ) (taken : Taken) (old new : System) : Type 0 where
  pub whole : IsWhole new
  pub lives : Lives new.kernel.dispatcher.procs p
  pub ready : IsReady old.kernel.dispatcher p → IsReady new.kernel.dispatcher p
  pub call : call_of new.kernel.dispatcher.procs p ≡ taken
  pub home : (process_in new.kernel.dispatcher.procs p).seg ≡ (process_in old.kernel.dispatcher.procs p).seg

pub keeps_call : (p : ℕ) (call : Taken) (system : System) → IsWhole system → Lives system.kernel.dispatcher.procs p → Keeps p call system (keeping p call system)
unfolding keeping
keeps_call p call system w h =
    let process = process_in system.kernel.dispatcher.procs p in
    let quiet = record process { regs = record process.regs { shadow = false } } in
    let taken = whole_regs p quiet.regs system w h in
    let kernel = with_changed system.kernel p quiet in
    let slots = taken.whole.sound.slots in
    let below = lives_below system.kernel.dispatcher.procs p w.sound.slots h in
    record {
      whole = whole_kernel _ _ taken.whole (sound_call kernel p call taken.whole.sound)
          (live_kept kernel (dispatched (with_procs (with_call kernel.dispatcher.procs p call)) kernel) refl (λ q living. lives_after kernel.dispatcher.procs p q call ∙ living) taken.whole.live)
          (homes_call kernel p call);
      lives = lives_after kernel.dispatcher.procs p p call ∙ taken.lives;
      ready = λ ready. ready;
      call = call_changed kernel.dispatcher.procs p call (omega (arith, slots.calls, below));
      home = ap (λ x. x.seg) (process_after kernel.dispatcher.procs p p call ∙ process_changed system.kernel.dispatcher.procs p quiet (omega (arith, w.sound.slots.processes, below)));
    }

-- a process keeps a call

pub keeps_asked : (p : ℕ) (call : Taken) (system : System) → IsWhole system → Lives system.kernel.dispatcher.procs p → Keeps p call system (asking p call system)
keeps_asked p call system w h =
    let kernel = system.kernel in
    let slots = w.sound.slots in
    let below = lives_below kernel.dispatcher.procs p slots h in
    record {
      whole = whole_kernel system _ w (sound_call kernel p call w.sound)
          (live_kept kernel (dispatched (with_procs (with_call kernel.dispatcher.procs p call)) kernel) refl (λ q living. lives_after kernel.dispatcher.procs p q call ∙ living) w.live)
          (homes_call kernel p call);
      lives = lives_after kernel.dispatcher.procs p p call ∙ h;
      ready = λ ready. ready;
      call = call_changed kernel.dispatcher.procs p call (omega (arith, slots.calls, below));
      home = ap (λ x. x.seg) (process_after kernel.dispatcher.procs p p call);
    }

pub whole_residents : (system : System) (residents : List Native) → IsWhole system → IsWhole (record system { residents = residents })
whole_residents system residents w = record { sound = w.sound; live = w.live; homes = w.homes; lived = w.lived; memory = w.memory; script = w.script; settled = w.settled }
