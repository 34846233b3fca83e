use Rattle.std.proofs.Common.{◌≡◌, ◌∙◌, ℕ, Option, List, ap, subst}
use Rattle.std.specs.Prelude.{IfSome}
use Rattle.mpm_port.specs.Disks.{Disks, size_of, sector_of}
use Rattle.mpm_top.proofs.SeedLaws.{never_rose}
use Rattle.mpm_top.proofs.data.sector_at.Goals as goal

pub unreachable-requires : goal.unreachable-requires
unreachable-requires c = never_rose c.in-Err.ensures.cause.failed

pub returns : goal.returns
returns c = record {
  bytes = λ image here. subst (λ (found : Option (List ℕ)). IfSome found (λ i. c.read.new.out ≡ sector_of i c.args.sector)) here c.in-Ok.ensures.bytes;
  read = record { size = ap (λ (disks : Disks). size_of disks 0) c.read.ensures.disks ∙ c.requires.size; same = c.read.ensures.disks };
}
