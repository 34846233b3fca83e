use Rattle.mpm_top.proofs.boot.boot_program.Goals as goal

pub returns-in-Ok : goal.returns-in-Ok
returns-in-Ok c = record { program = c.in-Ok.ensures.program; memory = tt }
