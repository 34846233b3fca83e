use Rattle.std.proofs.Common.{◌∙◌, sym}
use Rattle.mpm_system.proofs.WholeLaws.{segment_is_home}
use Rattle.mpm_machine.proofs.file_calls.calls_files.Goals as goal

pub calls_files_at_gate-requires : goal.calls_files_at_gate-requires
calls_files_at_gate-requires c = record {
  lives = c.requires.lives;
  home = segment_is_home c.args.system.now c.args.p c.in-Some.seg c.requires.whole c.requires.lives (sym c.segment.ensures ∙ c.in-Some.is);
}
