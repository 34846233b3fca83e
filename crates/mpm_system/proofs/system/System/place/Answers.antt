use Rattle.std.proofs.Common.{◌∙◌, None, Some, ap, rules, arith}
use Rattle.std.proofs.lemmas.Grind.{common_steps}
use Rattle.mpm_dispatcher.specs.Dispatch.{admitted}
use Rattle.mpm_kernel.specs.Kernel.{Kernel, dispatched}
use Rattle.mpm_system.specs.Opening.{placed_process, with_placed}
use Rattle.mpm_system.proofs.PlacedLaws.{given_disk, slot_is_free, placed_is_bare, laid_out_is_there}
use Rattle.mpm_system.proofs.system.System.place.Goals as goal

pub begin-requires : goal.begin-requires
begin-requires c = record {
  begins = first_of (search rules, grind (arith, common_steps));
  slot = slot_is_free c.args.self.now _ _ _ c.requires;
}

pub returns : goal.returns
unfolding with_placed
returns c = record {
  slot = search rules;
  system = search (rules, laid_out_is_there);
  bare = placed_is_bare c.args.self.now c.begin.new.kernel c.occupy.new.self c.lay_out.new.banks c.placed_process-new.result c.begin.result c.args.seg c.args.name
      c.args.priority c.args.console c.args.program.now c.requires c.begin.ensures.slot
      (c.placed_process-new.ensures.process ∙ ap (λ spec. placed_process spec c.args.seg c.args.name c.args.priority c.args.console) c.spec-spec.ensures.value)
      c.begin.ensures.kernel c.lay_out.ensures c.occupy.ensures;
  disk = ap (λ (k : Kernel). k.disk) c.begin.ensures.kernel
      ∙ given_disk c.placed_process-new.result.console None (Some c.begin.result) (dispatched (admitted c.begin.result c.placed_process-new.result) c.args.self.now.kernel);
}
