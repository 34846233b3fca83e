use Rattle.mpm_file_scenes.proofs.CallLaws.{at_once}
use Rattle.mpm_file_scenes.proofs.scene.serves_at_once.Goals as goal

pub call_at_once-requires-clause-caller : goal.call_at_once-requires-clause-caller
call_at_once-requires-clause-caller g c = c.requires.caller _

pub returns : goal.returns
returns g c = at_once g.D.Drives _ _ _ _ _ _ _ _ _ _ _ _ _ c.requires.between c.requires.file c.call_at_once.ensures
