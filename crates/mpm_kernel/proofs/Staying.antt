-- What stays so after a call: the kernel is sound, the caller lives, and so does each whose held call was completed.
use Rattle.std.proofs.Common.{◌≡◌, ℕ, Bool, true, false, List, [], ◌∷◌, ◌++◌, if◌then◌else◌, sym, subst}
use Rattle.std.specs.List.{AllByRecursion}
use Rattle.mpm_base.proofs.Choices.{either}
use Rattle.mpm_procs.specs.Table.{Table, Lives}
use Rattle.mpm_dispatcher.specs.Dispatch.{IsReady}
use Rattle.mpm_kernel.specs.Kernel.{Kernel, IsSoundKernel, CompletedLive}
use Rattle.mpm_kernel.specs.Called.{Called, valued}

-- what a call leaves is sound, its process lives, and so does each whose held call it completed
pub record StaysSound (p : ℕ) (called : Called) : Type 0 where
  pub sound : IsSoundKernel called.kernel
  pub lives : Lives called.kernel.dispatcher.procs p
  pub completed : CompletedLive called.kernel

pub nobody : (kernel : Kernel) → kernel.dispatcher.completed ≡ [] → CompletedLive kernel
nobody kernel none =
    let P : List ℕ → Type 0 = λ ps. AllByRecursion (λ p. Lives kernel.dispatcher.procs p) ps in
    subst P (sym none) tt

-- one more
pub all_and_one : (P : ℕ → Type 0) (ps : List ℕ) (q : ℕ) → AllByRecursion P ps → P q → AllByRecursion P (ps ++ q ∷ [])
all_and_one P [] q all one = (one, tt)
all_and_one P (p ∷ ps) q all one = (all.0, all_and_one P ps q all.1 one)

-- who is completed lives on where everybody does
all_kept : (old new : Table) (ps : List ℕ) → ((q : ℕ) → Lives old q → Lives new q) → AllByRecursion (λ q. Lives old q) ps
    → AllByRecursion (λ q. Lives new q) ps
all_kept old new [] lives live = tt
all_kept old new (p ∷ ps) lives live = (lives p live.0, all_kept old new ps lives live.1)

pub live_kept : (old new : Kernel) → new.dispatcher.completed ≡ old.dispatcher.completed → ((q : ℕ) → Lives old.dispatcher.procs q → Lives new.dispatcher.procs q)
    → CompletedLive old → CompletedLive new
live_kept old new same lives live =
    let P : List ℕ → Type 0 = λ ps. AllByRecursion (λ q. Lives new.dispatcher.procs q) ps in
    subst P (sym same) (all_kept old.dispatcher.procs new.dispatcher.procs old.dispatcher.completed lives live)

-- no process changes, and nobody's call is completed
pub record SameProcesses (old new : Kernel) : Type 0 where
  pub procs : new.dispatcher.procs ≡ old.dispatcher.procs
  pub completed : new.dispatcher.completed ≡ old.dispatcher.completed

pub called_if : (p : ℕ) (b : Bool) (x y : Called) → (b ≡ true → StaysSound p x) → (b ≡ false → StaysSound p y) → StaysSound p (if b then x else y)
called_if p b x y s t = either (StaysSound p) b x y s t

pub kernel_if : (p : ℕ) (b : Bool) (x y : Kernel) (value : ℕ) → (b ≡ true → StaysSound p (valued value x)) → (b ≡ false → StaysSound p (valued value y))
    → StaysSound p (valued value (if b then x else y))
kernel_if p b x y value s t = either (λ (kernel : Kernel). StaysSound p (valued value kernel)) b x y s t

-- a process that is ready and lives, in a sound kernel that has completed no call yet
pub record Calls (p : ℕ) (kernel : Kernel) : Type 0 where
  pub sound : IsSoundKernel kernel
  pub lives : Lives kernel.dispatcher.procs p
  pub ready : IsReady kernel.dispatcher p
  pub none : kernel.dispatcher.completed ≡ []

pub same : (p value : ℕ) (kernel : Kernel) → Calls p kernel → StaysSound p (valued value kernel)
same p value kernel c = record { sound = c.sound; lives = c.lives; completed = nobody kernel c.none }
