use Rattle.std.proofs.Common.{◌≡◌, ◌∙◌, ℕ, refl, sym, subst, rules, arith}
use Rattle.std.proofs.lemmas.Grind.{common_steps}
use Rattle.mpm_top.specs.Beginnings.{command_on}
use Rattle.mpm_top.specs.Promises.{seen_by}
use Rattle.mpm_top.proofs.SeedLaws.{never_rose}
use Rattle.mpm_snapshot.specs.declared.status.SnapStatus.{SnapStatus}
use Rattle.mpm_snapshot.specs.Endings.{Saves, FailsSnapshot}
use Rattle.mpm_snapshot.specs.Parts.{status_of}
use Rattle.mpm_snapshot.proofs.SaveLaws.{Stops, of_taken, ended_usage, saves_taken, saves_stopped, fails_stopped}
use Rattle.mpm_snapshot.proofs.saving.save.Goals as goal

-- the run went well

pub write-requires : goal.write-requires
write-requires g c = λ taken. of_taken c.run_unheard.new.taker _ taken (c.in-Ran.ensures.saw refl).saw.takes.is

pub returns-in-Ran : goal.returns-in-Ran
returns-in-Ran g c = record {
  usage = first_of (search rules, grind (arith, common_steps));
  saves = let missing = g.F.Files.missing c.args.files.now in
      let command = command_on c.args.name.now c.args.asked.asked in
      let old = seen_by g.F.Files g.D.Drives g.S.Sink c.args.files.now c.args.drives.now c.args.sink.now in
      let new = seen_by g.F.Files g.D.Drives g.S.Sink c.run_unheard.new.files c.run_unheard.new.drives c.write.new.sink in
      let runs = c.in-Ran.ensures in
      subst (λ (p : ℕ). Saves missing command p old new c.write.result) c.in-Ok.ensures
      (saves_taken missing command old new runs.text c.in-Ok.taker c.run_unheard.new.taker c.write.result runs.promises (runs.saw refl) c.write.ensures.wrote);
  program = first_of (search rules, grind (arith, common_steps));
  fails = first_of (search rules, grind (arith, common_steps));
  nothing = first_of (search rules, grind (arith, common_steps));
}

-- it stopped

pub returns : goal.returns
returns g c =
    let missing = g.F.Files.missing c.args.files.now in
    let command = command_on c.args.name.now c.args.asked.asked in
    let old = seen_by g.F.Files g.D.Drives g.S.Sink c.args.files.now c.args.drives.now c.args.sink.now in
    let new = seen_by g.F.Files g.D.Drives g.S.Sink c.run_unheard.new.files c.run_unheard.new.drives c.args.sink.now in
    let status = c.run_unheard.result in
    let is : c.stopped.result ≡ status_of status = c.stopped.ensures in
    let stops : Stops status = record {
      early = c.in_default.not-Ran;
      said = c.run_unheard.ensures.usage;
      heard = λ step wrote. never_rose (c.run_unheard.ensures.fails.write step wrote);
    } in
    let runs = c.run_unheard.ensures in
    record {
      usage = λ words. c.run_unheard.ensures.usage (ended_usage status (sym is ∙ words));
      saves = subst (λ (s : SnapStatus). Saves missing command c.args.asked.process old new s) (sym is)
          (saves_stopped missing command c.args.asked.process old new runs.text status stops runs.promises);
      program = c.run_unheard.ensures.program;
      fails = subst (λ (s : SnapStatus). FailsSnapshot old new s) (sym is)
          (fails_stopped old new status stops c.run_unheard.ensures.fails.files c.run_unheard.ensures.fails.drives refl c.run_unheard.ensures.files);
      nothing = λ refused. refl;
    }
