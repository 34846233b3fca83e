use Rattle.std.proofs.Common.{◌≡◌, ℕ, ◌≤◌, ◌+◌, ◌*◌, false}
use Rattle.mpm_refusals.specs.Filing.{Situation}
use Rattle.mpm_bdos.specs.Jobs.{call_turns}
use Rattle.mpm_bdos.specs.Serving.{Serves}
use Rattle.mpm_bdos.specs.Turns.{images_of, has_work}
use Rattle.mpm_bdos.specs.AtOnce.{TurnsLeave, IsAtRest}
use Rattle.mpm_bdos.proofs.bdos.Bdos.do_turns.Given as goal

abbrev pub invariant-loop-turn : goal.invariant-loop-turn
invariant-loop-turn g l = record {
  serves : (s : Situation) (ended : ℕ) → Serves (images_of (g.D.Drives.disks l.initial.drives)) l.initial.self s ended → ended + l._turn ≤ call_turns s → Serves (images_of (g.D.Drives.disks l.drives)) l.self s (ended + l._turn);
  left : TurnsLeave g.D.Drives.disks g.D.Drives.told g.D.Drives.failed_names g.D.Drives.unsynced l.initial.self l.self l.initial.drives l.drives;
  calls : l.steps ≤ l.initial.steps + 20 * l._turn;
  idle : has_work l.initial.self.service ≡ false → IsAtRest l.initial.self l.self l.initial.drives l.drives l.initial.steps l.steps;
  working : has_work l.self.service ≡ has_work l.initial.self.service;
  count : g.D.Drives.faults l.drives ≡ g.D.Drives.faults l.initial.drives;
}
