use Rattle.std.proofs.Common.{◌∙◌, sym, ap, arith}
use Rattle.std.specs.List.{list_all}
use Rattle.mpm_xdos.specs.Creating.{has_console}
use Rattle.mpm_xdos.proofs.Children.{consoles_more, console_lacks, all_children}
use Rattle.mpm_xdos.proofs.creating.have_consoles.Goals as goal

pub returns-then-consoles-child_at : goal.returns-then-consoles-child_at
returns-then-consoles-child_at c =
    sym (console_lacks c.args.consoles c.args.parent.now c.args.base c.args.descriptors.now c.loop-number.number (omega arith)
    (omega (arith, ap (λ new. new.console) c.child_at.ensures, c.if-consoles-child_at.true)))

pub loop-number-preserved : goal.loop-number-preserved
loop-number-preserved c =
    consoles_more c.args.consoles c.args.parent.now c.args.base c.args.descriptors.now c.loop-number.number (omega arith) c.loop-number.invariant
    (omega (arith, ap (λ new. new.console) c.child_at.ensures, c.if-consoles-child_at.false))

pub returns : goal.returns
returns c =
    sym (ap (list_all (has_console c.args.consoles))
    (sym (all_children c.args.parent.now c.args.base c.args.descriptors.now c.loop-number.number (omega arith)))
    ∙ c.loop-number.invariant)
