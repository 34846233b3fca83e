-- A call is answered: its process returns from the gate, the reply is placed, and the record of the call is kept. (MP/M II
-- Programmer's Guide, "BDOS Calling Conventions".)
use Rattle.std.specs.Prelude.{ℕ, [], ◌∷◌, ◌++◌}
use Rattle.z80_regs.specs.Words.{word_of}
use Rattle.mpm_base.specs.Calls.{Taken, Answer}
use Rattle.mpm_banks.specs.Memory.{byte_at}
use Rattle.mpm_gate.specs.Replies.{answered, placed, returned}
use Rattle.mpm_procs.specs.Table.{process_in}
use Rattle.mpm_render.specs.Completions.{Completion}
use Rattle.mpm_system.specs.declared.system.System.{System}
use Rattle.mpm_system.specs.Taking.{with_regs}

-- the return address is taken from the stack
unfoldable pub popped : ℕ → ℕ → System → System
popped p seg system =
    let process = process_in system.kernel.dispatcher.procs p in
    record system { kernel = with_regs system.kernel p (returned (byte_at system.memory seg) process.regs) }

-- the reply is placed
unfoldable pub replied : Answer → Taken → ℕ → ℕ → System → System
replied reply call p seg system =
    let process = process_in system.kernel.dispatcher.procs p in
    record system {
      kernel = with_regs system.kernel p (answered reply.hl process.regs);
      memory = placed reply call.word seg system.memory;
    }

-- the record of a completed call: the registers as its reply left them
unfoldable pub completion : Taken → ℕ → System → Completion
completion call p system =
    let regs = (process_in system.kernel.dispatcher.procs p).regs in
    record {
      step = system.steps;
      process = p;
      function = call.function;
      a = regs.a;
      bc = word_of regs.c regs.b;
      de = word_of regs.e regs.d;
      hl = word_of regs.l regs.h;
    }

-- it joins those of its step
unfoldable pub recorded : Taken → ℕ → System → System
recorded call p system = record system { records = system.records ++ completion call p system ∷ [] }

-- a call whose reply is placed, and then its record
unfoldable pub answering_call : Answer → Taken → ℕ → ℕ → System → System
answering_call reply call p seg system = recorded call p (replied reply call p seg system)
