use Rattle.std.proofs.Common.{◌≡◌, drop}
use Rattle.toml.specs.View.{items_view}
use Rattle.mpm_machine_file.specs.Fields.{all_of}
use Rattle.mpm_machine_file.specs.Segments.{segment_of}
use Rattle.mpm_script.proofs.Finds.{onto}
use Rattle.mpm_machine_file.proofs.segments.each_segment.Given as goal

abbrev pub invariant-loop-item : goal.invariant-loop-item
invariant-loop-item l = all_of segment_of (items_view l.items) ≡ onto l.segments.items (all_of segment_of (items_view (drop l.item-index l.items)))
