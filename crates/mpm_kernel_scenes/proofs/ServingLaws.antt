-- What stays so of the kernel of a scene whose disk serves in turns.
use Rattle.std.proofs.Common.{◌≡◌, ◌∙◌, ℕ, ◌<◌, sym, ap, subst}
use Rattle.mpm_service.specs.Disk.{DiskService, no_service, entered, turned, begun, HasBegun}
use Rattle.mpm_service.specs.Ahead.{passed_by, unserved}
use Rattle.mpm_service.specs.Places.{without_call}
use Rattle.mpm_service.proofs.PlaceLaws.{begun_without}
use Rattle.mpm_kernel.specs.Kernel.{Kernel, IsSoundKernel}
use Rattle.mpm_kernel.specs.Disk.{with_disk, in_turns, waiting_for_disk}
use Rattle.mpm_kernel.specs.Ending.{discharged}
use Rattle.mpm_kernel.proofs.DiskStays.{disk_discharged}
use Rattle.mpm_kernel_scenes.specs.Serving.{ServesScene}

-- the disk is as it was
pub serves_same : (old new : Kernel) → ServesScene old → IsSoundKernel new → new.disk ≡ old.disk → ServesScene new
serves_same old new s sound same = record {
  sound = sound;
  begun = subst HasBegun (sym same) s.begun;
  steps = subst (λ (disk : DiskService). 0 < disk.turn_steps) (sym same) s.steps;
}

pub serves_in_turns : (turn_steps : ℕ) (kernel new : Kernel) → 0 < turn_steps → IsSoundKernel new → new ≡ in_turns turn_steps kernel → ServesScene new
unfolding no_service
serves_in_turns turn_steps kernel new some sound is = record {
  sound = sound;
  begun = subst (λ (k : Kernel). HasBegun k.disk) (sym is) tt;
  steps = subst (λ (k : Kernel). 0 < k.disk.turn_steps) (sym is) some;
}

pub serves_waiting : (p : ℕ) (kernel new : Kernel) → ServesScene kernel → IsSoundKernel new → new ≡ waiting_for_disk p kernel → ServesScene new
unfolding waiting_for_disk entered
serves_waiting p kernel new s sound is = record {
  sound = sound;
  begun = subst (λ (k : Kernel). HasBegun k.disk) (sym is) s.begun;
  steps = subst (λ (k : Kernel). 0 < k.disk.turn_steps) (sym is) s.steps;
}

pub serves_discharged : (p : ℕ) (kernel new : Kernel) → ServesScene kernel → IsSoundKernel new → new ≡ discharged kernel p → ServesScene new
unfolding without_call
serves_discharged p kernel new s sound is =
    let disk : new.disk ≡ without_call kernel.disk p = ap (λ (k : Kernel). k.disk) is ∙ disk_discharged kernel p in
    record {
      sound = sound;
      begun = subst HasBegun (sym disk) (begun_without kernel.disk.served p s.begun);
      steps = subst (λ (service : DiskService). 0 < service.turn_steps) (sym disk) s.steps;
    }

-- a step of the disk, and what follows it
pub serves_turned : (kernel new : Kernel) → ServesScene kernel → IsSoundKernel new → new ≡ with_disk turned kernel → HasBegun new.disk → ServesScene new
unfolding turned
serves_turned kernel new s sound is begun = record {
  sound = sound;
  begun = begun;
  steps = subst (λ (k : Kernel). 0 < k.disk.turn_steps) (sym is) s.steps;
}

pub serves_begun : (turns : ℕ) (kernel new : Kernel) → 0 < kernel.disk.turn_steps → IsSoundKernel new → new ≡ with_disk (λ disk. begun disk turns) kernel → HasBegun new.disk → ServesScene new
unfolding begun
serves_begun turns kernel new some sound is has_begun = record {
  sound = sound;
  begun = has_begun;
  steps = subst (λ (k : Kernel). 0 < k.disk.turn_steps) (sym is) some;
}

pub steps_turned : (kernel new : Kernel) → ServesScene kernel → new ≡ with_disk turned kernel → 0 < new.disk.turn_steps
unfolding turned
steps_turned kernel new s is = subst (λ (k : Kernel). 0 < k.disk.turn_steps) (sym is) s.steps

pub serves_passed : (steps : ℕ) (kernel new : Kernel) → ServesScene kernel → IsSoundKernel new → new ≡ with_disk (passed_by steps) kernel → HasBegun new.disk → ServesScene new
unfolding passed_by
serves_passed steps kernel new s sound is begun = record {
  sound = sound;
  begun = begun;
  steps = subst (λ (k : Kernel). 0 < k.disk.turn_steps) (sym is) s.steps;
}

pub serves_unserved : (kernel new : Kernel) → ServesScene kernel → IsSoundKernel new → new ≡ with_disk unserved kernel → HasBegun new.disk → ServesScene new
unfolding unserved
serves_unserved kernel new s sound is begun = record {
  sound = sound;
  begun = begun;
  steps = subst (λ (k : Kernel). 0 < k.disk.turn_steps) (sym is) s.steps;
}
