use Rattle.mpm_machine.proofs.call.bring_about.Goals as goal

pub unreachable-requires : goal.unreachable-requires
unreachable-requires c = absurd (c.requires.undone c.in-Done.is)
