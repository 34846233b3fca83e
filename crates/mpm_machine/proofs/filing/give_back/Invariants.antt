use Rattle.std.proofs.Common.{◌≡◌, ◌-◌, List, Option}
use Rattle.std.specs.List.{range_with_len}
use Rattle.mpm_mount.specs.Drives.{Drive}
use Rattle.mpm_bdos.specs.Serving.{filing_of}
use Rattle.mpm_machine.specs.Files.{owes, all_left}
use Rattle.mpm_machine.proofs.LeftLaws.{left_each}
use Rattle.mpm_machine.proofs.filing.give_back.Given as goal

abbrev pub invariant-loop-number : goal.invariant-loop-number
invariant-loop-number l = record {
  filing : (drives : List (Option Drive))
      → left_each (owes l.owed) (range_with_len l.number (32 - l.number)) (filing_of l.bdos drives) ≡ all_left l.owed (filing_of l.initial.bdos drives);
  rest : l.bdos ≡ record l.initial.bdos { opens = l.bdos.opens; marks = l.bdos.marks; searches = l.bdos.searches };
}
