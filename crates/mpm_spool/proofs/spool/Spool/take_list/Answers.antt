use Rattle.std.proofs.Common.{◌∙◌, ap}
use Rattle.mpm_base.specs.Lists.{in_width}
use Rattle.mpm_spool.specs.SpoolLists.{list_of}
use Rattle.mpm_spool.specs.Spoolers.{with_list}
use Rattle.mpm_spool.proofs.Lists.{begins_list}
use Rattle.mpm_spool.proofs.spool.Spool.take_list.Goals as goal

pub returns-in-Ok : goal.returns-in-Ok
returns-in-Ok c =
    c.begin_list.ensures ∙ begins_list c.in_width.result c.args.self.now c.in-Ok.list c.in-Ok.ensures.ok
    ∙ ap (λ message. with_list (list_of message) c.args.self.now) (c.in_width.ensures ∙ ap (in_width 128) c.placed.ensures.value)
