use Rattle.mpm_system.proofs.TextLaws.{lives_after_text}
use Rattle.mpm_machine.proofs.WholeLaws.{whole_after_text}
use Rattle.mpm_machine.proofs.acting.illegal.Goals as goal

pub end-requires : goal.end-requires
end-requires g c = record {
  whole = whole_after_text c.args.system.now _ _ _ c.requires.whole c.write_bytes.ensures.kernel;
  lives = lives_after_text _ _ _ c.args.p _ c.requires.lives c.write_bytes.ensures.kernel;
}
