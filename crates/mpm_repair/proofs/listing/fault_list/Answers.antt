use Rattle.std.proofs.Common.{◌++◌, [], ◌∙◌, sym, ap}
use Rattle.std.specs.Prelude.{slice_set}
use Rattle.std.specs.List.{cons_option}
use Rattle.mpm_repair.specs.FaultLists.{fault_at, left_at}
use Rattle.mpm_repair.proofs.Listed.{none_stay, judged, judged_more, faults_more}
use Rattle.mpm_repair.proofs.listing.fault_list.Goals as goal

pub loop-slot-init : goal.loop-slot-init
loop-slot-init c = record {
  entries = ap (λ front. front ++ c.args.entries.now) (sym (none_stay c.args.kind c.args.entries.now));
  faults = c.new-faults.ensures.items;
}

pub loop-slot-preserved : goal.loop-slot-preserved
loop-slot-preserved c =
    let was = c.loop-slot.invariant.entries in
    record {
      entries = c.in_ok-judge_slot.ensures.entries
          ∙ ap (λ now. slice_set now c.loop-slot.slot (left_at c.args.kind now c.loop-slot.slot)) was
          ∙ judged_more c.args.kind c.args.entries.now c.loop-slot.slot c.loop-slot-test.true;
      faults = c.in_ok-judge_slot.ensures.faults
          ∙ ap (λ now. c.loop-slot.faults.items ++ cons_option (fault_at c.args.kind now c.loop-slot.slot) []) was
          ∙ ap (λ before. before ++ cons_option (fault_at c.args.kind (judged c.args.kind c.args.entries.now c.loop-slot.slot) c.loop-slot.slot) []) c.loop-slot.invariant.faults
          ∙ faults_more c.args.kind c.args.entries.now c.loop-slot.slot c.loop-slot-test.true;
    }
