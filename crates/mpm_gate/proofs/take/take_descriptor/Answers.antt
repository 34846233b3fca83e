use Rattle.std.proofs.Common.{arith}
use Rattle.mpm_banks.specs.Memory.{byte_at}
use Rattle.mpm_gate.specs.Bytes.{bytes_from}
use Rattle.mpm_gate.proofs.BytesLaws.{length_bytes}
use Rattle.mpm_gate.proofs.TakenLaws.{length_taken}
use Rattle.mpm_gate.proofs.take.take_descriptor.Goals as goal

pub take_bytes-requires-2 : goal.take_bytes-requires-2
take_bytes-requires-2 c = omega (arith, length_taken c.args.call.now c.take_bytes.new.call (bytes_from (byte_at c.args.banks.now c.args.seg) c.args.address 16) c.take_bytes.ensures, length_bytes)
