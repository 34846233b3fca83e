use Rattle.std.proofs.Common.{◌≡◌, ◌+◌, ◌-◌, ◌<◌, refl, ◌∙◌, arith}
use Rattle.mpm_banks.specs.Memory.{byte_at}
use Rattle.mpm_gate.specs.Calls.{descriptor_from}
use Rattle.mpm_gate.proofs.TakenLaws.{length_taken}
use Rattle.mpm_gate.proofs.DescriptorLaws.{length_descriptor, chain_ends, chain_goes_on, chain_stops}
use Rattle.mpm_gate.proofs.take.take_descriptors.Goals as goal

pub loop-init : goal.loop-init
loop-init c = record { whole = refl; size = omega arith }

pub returns-then-address-eq0 : goal.returns-then-address-eq0
returns-then-address-eq0 c =
    let some : 0 < 32 - c.loop.counter = omega arith in
    chain_ends _ _ _ _ _ _ some c.take_descriptor-address.ensures.taken c.take_descriptor-address.ensures.link c.if-address-eq0.true
    ∙ c.loop.invariant.whole

pub loop-preserved : goal.loop-preserved
loop-preserved c =
    let one_left : 32 - c.loop.counter ≡ (32 - (c.loop.counter + 1)) + 1 = omega arith in
    let descriptor = descriptor_from (byte_at c.args.banks.now c.args.seg) c.loop.address in
    let size = length_taken c.loop.call c.take_descriptor-address.new.call descriptor c.take_descriptor-address.ensures.taken in
    let eighteen = length_descriptor (byte_at c.args.banks.now c.args.seg) c.loop.address in
    record {
      whole =
          chain_goes_on _ _ _ _ _ _ _ one_left c.take_descriptor-address.ensures.taken c.take_descriptor-address.ensures.link c.if-address-eq0.false
          ∙ c.loop.invariant.whole;
      size = omega arith;
    }

pub returns : goal.returns
returns c =
    let none : 32 - c.loop.counter ≡ 0 = omega arith in
    chain_stops _ _ _ _ none ∙ c.loop.invariant.whole
