use Rattle.std.proofs.Common.{◌∙◌, ap}
use Rattle.mpm_port.specs.Disks.{Disks, size_of}
use Rattle.mpm_fault_trials.proofs.ways.is_same.Goals as goal

pub returns-then-is_second-clause-first : goal.returns-then-is_second-clause-first
returns-then-is_second-clause-first c = ap (λ (disks : Disks). size_of disks 0) c.read.ensures.answers.disks ∙ c.requires.first

pub returns-then-is_second-clause-second : goal.returns-then-is_second-clause-second
returns-then-is_second-clause-second c = ap (λ (disks : Disks). size_of disks 0) c.read-2.ensures.answers.disks ∙ c.requires.second

pub returns-else-is_second-clause-first : goal.returns-else-is_second-clause-first
returns-else-is_second-clause-first c = ap (λ (disks : Disks). size_of disks 0) c.read.ensures.answers.disks ∙ c.requires.first

pub returns-else-is_second-clause-second : goal.returns-else-is_second-clause-second
returns-else-is_second-clause-second c = ap (λ (disks : Disks). size_of disks 0) c.read-2.ensures.answers.disks ∙ c.requires.second
