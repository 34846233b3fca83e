use Rattle.std.proofs.Common.{sym}
use Rattle.mpm_machine_file.proofs.KeyLaws.{only_keys_all}
use Rattle.mpm_machine_file.proofs.fields.has_only.Goals as goal

pub loop-key-init : goal.loop-key-init
loop-key-init c =
    rw (c.into_iter-key-iterator.ensures.into_iter_gives, c.keys-key-items.ensures.rest) (sym (only_keys_all c.args.known.now c.args.table.now.entries))
