-- A core that is run on by itself. (This project's own.)
use Rattle.std.specs.Prelude.{◌≡◌, ℕ, ◌*◌, List, [], take, false}
use Rattle.z80_regs.specs.declared.regs.Regs.{Regs}
use Rattle.mpm_base.specs.Lists.{zeros}
use Rattle.mpm_banks.specs.Sides.{alone}
use Rattle.mpm_core_file.specs.CoreFiles.{CoreContents, IsCore}
use Rattle.mpm_core_file.specs.declared.head.Head.{Head}
use Rattle.mpm_replay.specs.Replays.{IsReplay, portless}
use Rattle.mpm_replay.specs.declared.replaying.Replayed.{Replayed}

-- all registers are 0
abbrev pub no_regs : Regs
no_regs = record {
  a = 0;
  f = 0;
  b = 0;
  c = 0;
  d = 0;
  e = 0;
  h = 0;
  l = 0;
  a2 = 0;
  f2 = 0;
  b2 = 0;
  c2 = 0;
  d2 = 0;
  e2 = 0;
  h2 = 0;
  l2 = 0;
  ix = 0;
  iy = 0;
  sp = 0;
  pc = 0;
  i = 0;
  r = 0;
  iff1 = false;
  iff2 = false;
  mode = 0;
  halted = false;
  shadow = false;
}

-- no process: a segment of no page
abbrev pub no_core : CoreContents
no_core = record {
  head = record { step = 0; process = 0; spec = record { base = 0; pages = 0 }; inside = false; regs = no_regs };
  segment = [];
  common = zeros 16384;
}

-- a core whose segment has the first bytes of a buffer
abbrev pub kept : Head → List ℕ → List ℕ → CoreContents
kept head buffer common = record { head = head; segment = take (256 * head.spec.pages) buffer; common = common }

-- a core after a replay of at most so many instructions: registers, segment and common memory are those that it leaves, all else is as
-- it was
pub record Replays (most : ℕ) (old new : CoreContents) (replayed : Replayed) : Type 0 where
  pub head : new.head ≡ record old.head { regs = new.head.regs }
  pub replay : IsReplay old.head.inside most (portless old.head.spec old.head.regs old.segment old.common)
      new.head.regs (alone old.head.spec new.segment new.common) replayed

-- and it is one still
pub record RunsCoreOn (most : ℕ) (old new : CoreContents) (count : Replayed) : Type 0 where
  pub replayed : Replays most old new count
  pub is : IsCore new
