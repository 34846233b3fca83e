-- What a process begins with. (MP/M II Programmer's Guide, "Function 144: Create Process"; System Guide, "Process
-- Descriptor Data Structure".)
use Rattle.std.specs.Prelude.{ℕ, None, true, false}
use Rattle.z80_regs.specs.declared.regs.Regs.{Regs}
use Rattle.mpm_base.specs.Lists.{zeros}
use Rattle.mpm_procs.specs.declared.process.Process.{Process}
use Rattle.mpm_procs.specs.declared.process.NewProcess.{NewProcess}

-- all registers 0 but PC and SP, interrupts on
unfoldable pub opening_registers : ℕ → ℕ → Regs
opening_registers pc sp = record {
  a = 0;
  f = 0;
  b = 0;
  c = 0;
  d = 0;
  e = 0;
  h = 0;
  l = 0;
  a2 = 0;
  f2 = 0;
  b2 = 0;
  c2 = 0;
  d2 = 0;
  e2 = 0;
  h2 = 0;
  l2 = 0;
  ix = 0;
  iy = 0;
  sp = sp;
  pc = pc;
  i = 0;
  r = 0;
  iff1 = true;
  iff2 = true;
  mode = 0;
  halted = false;
  shadow = false;
}

-- multi-sector count 1, error mode 0, printer 0, no default password, no line begun
unfoldable pub opening : NewProcess → Process
opening new = record {
  name = new.name;
  priority = new.priority;
  console = new.console;
  seg = new.seg;
  user = new.user;
  drive = new.drive;
  regs = opening_registers new.pc new.sp;
  printer = 0;
  dma = new.dma;
  multi = 1;
  error_mode = 0;
  password = zeros 8;
  abort_due = false;
  procedure = None;
  kept = 0;
  back = 0;
  line = zeros 255;
  line_length = 0;
}

-- what stands in a slot where no process lives
unfoldable pub blank : Process
blank = opening (record {
  name = record { 0 = zeros 8 };
  priority = 0;
  console = 0;
  seg = None;
  pc = 0;
  sp = 0;
  dma = 0;
  user = 0;
  drive = 0;
})
