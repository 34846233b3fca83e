use Rattle.std.proofs.Common.{◌∙◌, refl, sym, ap, arith}
use Rattle.mpm_service.specs.Disk.{served_process}
use Rattle.mpm_bdos.proofs.Fitting.{unsynced_same}
use Rattle.mpm_machine.specs.Faults.{itself}
use Rattle.mpm_machine.proofs.SettlingLaws.{nothing_carried}
use Rattle.mpm_machine.proofs.PartsLaws.{uses_none}
use Rattle.mpm_machine.proofs.machine.Machine.carry.Goals as goal

pub carry_call-requires : goal.carry_call-requires
carry_call-requires g c = record { between = c.requires.between; served = ap served_process (sym c.disk.ensures) ∙ sym c.serving.ensures.served ∙ c.in-Some.is }

-- one is

pub returns-in-Some : goal.returns-in-Some
returns-in-Some g c = c.carry_call.ensures

-- none is

pub returns-in-None : goal.returns-in-None
returns-in-None g c =
    let serves = ap served_process (sym c.disk.ensures) ∙ sym c.serving.ensures.served ∙ c.in-None.is in
    record {
      ok = λ files stands. nothing_carried files _ c.args.self.now.system c.args.self.now.bdos _ serves stands;
      err = λ files stands. tt;
      whole = c.requires.between.whole;
      serves = tt;
      idle = λ none. refl;
      uses = uses_none _ itself _ _ _ tt;
      called = record { unsynced = unsynced_same _ _; calls = omega arith; idle = λ none. refl };
      fits = c.requires.between.holds.calls.fits;
      ends = record { trace = refl; cause = record { stays = refl; failed = tt } };
    }
