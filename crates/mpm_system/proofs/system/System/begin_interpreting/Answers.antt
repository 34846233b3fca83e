use Rattle.std.proofs.Common.{ap, length, arith}
use Rattle.mpm_system.proofs.OpeningLaws.{none_begun}
use Rattle.mpm_system.proofs.system.System.begin_interpreting.Goals as goal

pub add_interpreter-requires-clause-room : goal.add_interpreter-requires-clause-room
add_interpreter-requires-clause-room c =
    omega (arith, ap length (none_begun c.args.self.now c.begin_interpreter.new.self c.requires.nobody c.begin_interpreter.ensures))

pub add_interpreter-requires-clause-some : goal.add_interpreter-requires-clause-some
add_interpreter-requires-clause-some c = omega (arith, c.requires.consoles, c.requires.whole.sound.units.some)
