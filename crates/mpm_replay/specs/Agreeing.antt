-- A machine's steps that are instructions of one process, and a replay of them.
use Rattle.std.specs.Prelude.{◌≡◌, ℕ, ◌+◌, ◌<◌, Bool, false}
use Rattle.z80_regs.specs.declared.regs.Regs.{Regs}
use Rattle.z80_decode.specs.Decoding.{instr_of}
use Rattle.z80_ext.specs.Instruction.{four_from}
use Rattle.mpm_banks.specs.Memory.{Memory, HasSegment, byte_at}
use Rattle.mpm_banks.specs.Sides.{reach_of}
use Rattle.mpm_processor.specs.Moving.{View, moved, CanMove}
use Rattle.mpm_replay.specs.Ports.{reads_unless}
use Rattle.mpm_replay.specs.Replays.{no_devices}
use Rattle.mpm_replay.specs.declared.stopping.Why.TheVariants.{Steps}
use Rattle.mpm_replay.specs.declared.replaying.Replayed.{Replayed}

-- the process of a segment is about to read a port, unless it stands in a HALT
abbrev pub reads_in : ℕ → View → Bool
reads_in seg view = reads_unless view.regs.halted (instr_of (four_from (byte_at view.memory seg) view.regs.pc))

-- what a process reaches of a view, and no devices
abbrev pub own_of : ℕ → View → View
own_of seg view = record { regs = view.regs; memory = reach_of view.memory seg; devices = no_devices }

-- one view follows upon another by a listed instruction of the process of a segment that reads no port: it has its registers, and its
-- process reaches of memory what the instruction left; whatever else there is
pub record FollowsByOne (inside : Bool) (seg : ℕ) (old new : View) : Type 0 where
  pub there : HasSegment old.memory seg
  pub can : CanMove inside seg old
  pub portless : reads_in seg old ≡ false
  pub regs : new.regs ≡ (moved seg old).regs
  pub memory : reach_of new.memory seg ≡ reach_of (moved seg old).memory seg

-- so does each of so many of the one before
abbrev pub FollowEach : Bool → ℕ → ℕ → (ℕ → View) → Type 0
FollowEach inside seg count views = (k : ℕ) → k < count → FollowsByOne inside seg (views k) (views (k + 1))

-- all of them were done, and left the registers, and the memory that the process reaches, of a view
pub record Agrees (seg count : ℕ) (view : View) (regs : Regs) (memory : Memory) (replayed : Replayed) : Type 0 where
  pub done : replayed.done ≡ count
  pub why : replayed.why ≡ Steps
  pub registers : regs ≡ view.regs
  pub reached : memory ≡ reach_of view.memory seg

-- so it is with each row of views that begins with what the process reaches
abbrev pub AgreesWithAll : Bool → ℕ → View → Regs → Memory → Replayed → Type 0
AgreesWithAll inside count old regs memory replayed = (seg : ℕ) (views : ℕ → View) → old ≡ own_of seg (views 0) → FollowEach inside seg count views
    → Agrees seg count (views count) regs memory replayed
