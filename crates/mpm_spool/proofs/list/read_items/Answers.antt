use Rattle.std.proofs.Common.{arith, rules, subst, sym}
use Rattle.mpm_spool.proofs.Items.{IsRead, goes_on, ends_in, fails, too_many}
use Rattle.mpm_spool.proofs.list.read_items.Goals as goal

pub returns-in_err-item : goal.returns-in_err-item
returns-in_err-item c =
    let none = fails c.args.text.now c.loop-list.rest.now c.loop-list.list c.comma_place-comma.result c.loop-list.invariant c.comma_place-comma.ensures.number c.comma_place-comma.ensures.limit c.in_err-item.ensures.err in
    record { ok = search rules; few = search rules; err = search rules }

pub returns-then-comma-rest : goal.returns-then-comma-rest
returns-then-comma-rest c = record {
  ok = ends_in c.args.text.now c.loop-list.rest.now c.loop-list.list c.push.new.list c.comma_place-comma.result c.in_ok-item.item c.loop-list.invariant (omega (arith, c.loop-list-test.true)) c.comma_place-comma.ensures.number
      (omega (arith, c.if-comma-rest.true)) c.in_ok-item.ensures.ok c.push.ensures.list;
  few = search rules;
  err = tt;
}

pub loop-list-preserved : goal.loop-list-preserved
loop-list-preserved c = subst (λ rest. IsRead c.args.text.now rest c.push.new.list) (sym c.after-rest.ensures)
    (goes_on c.args.text.now c.loop-list.rest.now c.loop-list.list c.push.new.list c.comma_place-comma.result c.in_ok-item.item c.loop-list.invariant c.comma_place-comma.ensures.number
    (omega (arith, c.if-comma-rest.false, c.comma_place-comma.ensures.limit)) c.in_ok-item.ensures.ok c.push.ensures.list)

pub returns : goal.returns
returns c = record {
  ok = tt;
  few = tt;
  err = too_many c.args.text.now c.loop-list.rest.now c.loop-list.list c.loop-list.invariant (omega (arith, c.loop-list-test.false));
}
