use Rattle.std.proofs.Common.{arith}
use Rattle.mpm_sectors.proofs.SlotLaws.{over_back, over_long}
use Rattle.mpm_sectors.proofs.slots.entry_bytes.Goals as goal

pub returns-clause-read : goal.returns-clause-read
returns-clause-read c = record {
  back = λ old long. over_back c.args.wide old c.write_entry.result c.args.entry.now long (omega (arith, c.copy_from_slice.ensures.len)) c.write_entry.ensures.bytes c.write_entry.ensures.back c.requires;
  long = λ old long. over_long c.args.wide old c.write_entry.result c.args.entry.now long (omega (arith, c.copy_from_slice.ensures.len)) c.write_entry.ensures.bytes;
}
