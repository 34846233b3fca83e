use Rattle.std.proofs.Common.{◌∙◌, sym, arith}
use Rattle.mpm_xdos.proofs.Homes.{home_here, home_further, home_nowhere}
use Rattle.mpm_xdos.proofs.ending.is_home.Goals as goal

pub returns-then-lives_in : goal.returns-then-lives_in
returns-then-lives_in c = sym (home_here c.args.kernel.now.dispatcher.procs c.args.seg c.loop-number.number (omega arith) (sym c.lives_in.ensures ∙ c.if-lives_in.true))

pub loop-number-preserved : goal.loop-number-preserved
loop-number-preserved c =
    home_further c.args.kernel.now.dispatcher.procs c.args.seg c.loop-number.number (omega arith) c.loop-number.invariant (sym c.lives_in.ensures ∙ c.if-lives_in.false)

pub returns : goal.returns
returns c = sym (home_nowhere c.args.kernel.now.dispatcher.procs c.args.seg c.loop-number.number (omega arith) c.loop-number.invariant)
