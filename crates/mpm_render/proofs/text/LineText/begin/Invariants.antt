use Rattle.std.proofs.Common.{◌≡◌, ◌+◌, ◌*◌, ◌≤◌, ◌++◌, length, flat_map, take}
use Rattle.mpm_render.specs.Lines.{escaped, label}
use Rattle.mpm_render.proofs.text.LineText.begin.Given as goal

abbrev pub invariant-loop-byte : goal.invariant-loop-byte
invariant-loop-byte l = record {
  text : l.text ≡ label l.place ++ flat_map escaped (take l.byte-index l.bytes);
  size : length l.text ≤ 3 + 4 * l.byte-index;
}
