-- Resident procedures: how a process enters one, and how it leaves it. (MP/M II Programmer's Guide, "Function 151: Call
-- Resident System Procedure".)
use Rattle.std.specs.Prelude.{ℕ, false, Option, Some, None, IsSome, [], ◌∷◌}
use Rattle.z80_regs.specs.Words.{back}
use Rattle.mpm_base.specs.Calls.{Taken, Answer, answering, byte_in}
use Rattle.mpm_banks.specs.Memory.{Memory}
use Rattle.mpm_banks.specs.Gates.{last_page, return_gate}
use Rattle.mpm_procs.specs.Table.{Lives, process_in, call_of}
use Rattle.mpm_procs.specs.declared.process.Process.{Process}
use Rattle.mpm_kernel.specs.Kernel.{Kernel, IsSoundKernel, with_changed}
use Rattle.mpm_kernel.specs.Procedures.{given_back}

-- a process of a sound kernel is in a resident procedure
pub record IsInside (p : ℕ) (kernel : Kernel) : Type 0 where
  pub sound : IsSoundKernel kernel
  pub lives : Lives kernel.dispatcher.procs p
  pub inside : IsSome (process_in kernel.dispatcher.procs p).procedure

-- a process goes on at the address that is the message that it got, with the parameter of its call, the second word of what the call read,
-- in DE. Its stack pointer makes room for the address to which the procedure returns
unfoldable pub entering : Taken → Process → Process
entering call process = record process {
  back = process.regs.pc;
  regs = record process.regs { d = byte_in call 3; e = byte_in call 2; pc = process.kept; sp = back process.regs.sp 2 };
}

unfoldable pub entered : ℕ → Kernel → Kernel
entered p kernel = with_changed kernel p (entering (call_of kernel.dispatcher.procs p) (process_in kernel.dispatcher.procs p))

-- the last page of the segment that a process has
abbrev pub page_of_home : Memory → Option ℕ → ℕ
page_of_home memory None = 0
page_of_home memory (Some seg) = last_page memory seg

-- a procedure returns to the gate that ends it, in that page: this word is pushed
unfoldable pub entry_reply : Memory → Process → Answer
entry_reply memory process =
    record (answering 0) { at = back process.regs.sp 2; bytes = return_gate ∷ page_of_home memory process.seg ∷ [] }

-- a process goes on where it called the procedure, with HL as it is and the same in A and B; an EI takes effect
unfoldable pub leaving : Process → Process
leaving process = record process {
  regs = record process.regs { pc = process.back; a = process.regs.l; b = process.regs.h; shadow = false };
}

-- it leaves the procedure: the message is written back first
unfoldable pub returned_from_procedure : ℕ → Kernel → Kernel
returned_from_procedure p kernel =
    let afterwards = given_back p kernel in
    with_changed afterwards p (leaving (process_in afterwards.dispatcher.procs p))
