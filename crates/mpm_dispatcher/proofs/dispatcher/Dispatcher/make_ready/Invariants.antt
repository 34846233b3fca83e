use Rattle.std.proofs.Common.{◌≡◌, take}
use Rattle.mpm_dispatcher.specs.Dispatch.{all_ready}
use Rattle.mpm_dispatcher.proofs.dispatcher.Dispatcher.make_ready.Given as goal

abbrev pub invariant-loop-p : goal.invariant-loop-p
invariant-loop-p l = l.self ≡ all_ready (take l.p-index l.ps) l.initial.self
