use Rattle.mpm_kernel.proofs.InputLaws.{uses_made_raw}
use Rattle.mpm_kernel.proofs.kernel.Kernel.unless_stopped.Goals as goal

pub serve_console-requires : goal.serve_console-requires
serve_console-requires c = uses_made_raw c.args.self.now c.set_raw_if.new.self c.args.p c.args.console _ _ c.set_raw_if.ensures c.requires
