use Rattle.mpm_consoles.proofs.SoundLaws.{sound_new}
use Rattle.mpm_consoles.proofs.consoles.Consoles.new.Goals as goal

pub invariant_of-result : goal.invariant_of-result
invariant_of-result c =
    sound_new c.in_ok-consoles.consoles.items c.in_ok-printers.printers.items c.new.result c.args.consoles c.args.printers c.in_ok-consoles.ensures c.in_ok-printers.ensures c.new.ensures c.requires.some c.requires.few c.requires.few_printers
