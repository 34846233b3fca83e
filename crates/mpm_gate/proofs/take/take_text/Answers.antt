use Rattle.std.proofs.Common.{refl, ap, sym, ◌∙◌}
use Rattle.mpm_gate.specs.Calls.{with_more}
use Rattle.mpm_gate.proofs.TakenLaws.{taken_none, taken_one_more, taken_room}
use Rattle.mpm_gate.proofs.TextLaws.{text_none, text_more, text_stops}
use Rattle.mpm_gate.proofs.take.take_text.Goals as goal

pub loop-k-init : goal.loop-k-init
loop-k-init c = record { taken = taken_none _ _ _ _ refl; goes_on = text_none _ _ _ }

pub push-requires : goal.push-requires
push-requires c = taken_room _ _ _ c.args.most _ _ c.loop-k.invariant.taken c.requires c.loop-k-test.true

pub returns-then-ends : goal.returns-then-ends
returns-then-ends c =
    c.loop-k.invariant.taken
    ∙ ap (with_more c.args.call.now)
    (sym (text_stops _ _ _ _ _ _ c.loop-k.invariant.goes_on c.loop-k-test.true c.byte-byte.ensures (sym c.ends.ensures ∙ c.if-ends.true)))

pub loop-k-preserved : goal.loop-k-preserved
loop-k-preserved c = record {
  taken = taken_one_more _ _ _ _ _ _ _ c.loop-k.invariant.taken c.byte-byte.ensures c.push.ensures;
  goes_on = text_more _ _ _ _ _ c.loop-k.invariant.goes_on c.byte-byte.ensures (sym c.ends.ensures ∙ c.if-ends.false);
}
