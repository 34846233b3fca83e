use Rattle.std.proofs.Common.{◌∙◌, Bool, ap, sym, subst, rules, arith}
use Rattle.std.proofs.lemmas.Grind.{common_steps}
use Rattle.mpm_procs.specs.Table.{process_in}
use Rattle.mpm_kernel.specs.Kernel.{Kernel}
use Rattle.mpm_processor.specs.Moving.{View, Moves}
use Rattle.mpm_processor.proofs.AloneLaws.{whole_moves}
use Rattle.mpm_system.specs.Idling.{CanPass, later}
use Rattle.mpm_system.proofs.IdlingLaws.{fewer_can}
use Rattle.mpm_machine.specs.Moving.{with_view, view_of}
use Rattle.mpm_machine.proofs.ahead.run_process.Goals as goal

pub returns : goal.returns
unfolding with_view
returns c = record {
  count = first_of (search rules, grind (arith, common_steps));
  moved = let done = c.run_burst-done.result in
      let after = c.run_burst-done.new.self in
      let new : View = record { regs = (process_in after.dispatcher.procs c.args.p).regs; memory = c.run_burst-done.new.banks; devices = after.devices } in
      let P : Bool → Type 0 = λ inside. Moves inside done c.args.seg (view_of c.args.system.now c.args.p) new in
      record {
        view = new;
        moves = subst P c.is_inside-inside.ensures
            (whole_moves c.is_inside-inside.result done c.args.seg (view_of c.args.system.now c.args.p) new c.requires.home.exists c.run_burst-done.ensures.ran.moved c.run_burst-done.ensures.others);
        is = c.pass.ensures ∙ ap (λ (k : Kernel). later (record c.args.system.now { kernel = k; memory = c.run_burst-done.new.banks }) done) c.run_burst-done.ensures.kernel;
      };
}

pub pass-requires : goal.pass-requires
pass-requires c = record {
  sound = c.run_burst-done.ensures.sound;
  room = first_of (search rules, grind (arith, common_steps));
  short = first_of (search rules, grind (arith, common_steps));
  passing = subst (λ (k : Kernel). CanPass c.run_burst-done.result k.disk) (sym c.run_burst-done.ensures.kernel)
      (fewer_can c.run_burst-done.result c.args.most c.args.system.now.kernel.disk c.run_burst-done.ensures.ran.count c.requires.passing);
}
