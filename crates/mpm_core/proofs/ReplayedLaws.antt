-- A core that was run on by itself is one still.
use Rattle.std.proofs.Common.{◌≡◌, ◌∙◌, ℕ, ◌<◌, List, length}
use Rattle.z80_regs.specs.declared.regs.Regs.{Regs}
use Rattle.mpm_core_file.specs.CoreFiles.{CoreContents, IsCore}

pub is_replayed : (old : CoreContents) (regs : Regs) (segment common : List ℕ) → IsCore old → regs.mode < 3 → length segment ≡ length old.segment → length common ≡ length old.common
    → IsCore (record { head = record old.head { regs = regs }; segment = segment; common = common })
is_replayed old regs segment common is mode segment_stays common_stays = record {
  head = record { process = is.head.process; some = is.head.some; end = is.head.end; mode = mode; step = is.head.step };
  segment = segment_stays ∙ is.segment;
  common = common_stays ∙ is.common;
}
