use Rattle.std.proofs.Common.{rules, arith, ◌∙◌, ap, sym, refl}
use Rattle.std.specs.Prelude.{is_some}
use Rattle.mpm_base.specs.Calls.{Taken}
use Rattle.mpm_file_functions.specs.Functions.{function_of}
use Rattle.mpm_machine.specs.Parts.{of_drive}
use Rattle.mpm_machine.proofs.PartsLaws.{uses_none}
use Rattle.mpm_machine.proofs.filing.call_files.Goals as goal

pub call_disk-requires : goal.call_disk-requires
call_disk-requires g c =
    let file = ap (λ (call : Taken). is_some (function_of call.function)) (sym (c.call.view_is ∙ c.kept_call-call.ensures)) ∙ ap is_some (sym c.of.ensures ∙ c.in-Some.is) in
    record { living = c.requires.living; fits = c.requires.fits; stand = c.requires.stand file; function = file }

pub returns-in-None : goal.returns-in-None
returns-in-None g c = record {
  done = λ filing stands. record { ok = c.call_directly.ensures.outcome (g.D.Drives.disks c.args.drives.now) filing stands; err = tt; calls = omega arith };
  uses = uses_none _ of_drive _ _ _ tt;
  fits = c.requires.fits;
  cause = record { later = omega arith; stays = refl; failed = tt };
  within = λ images s j none serves. c.call_directly.ensures.within images s j serves;
  direct = λ none. (refl, refl, refl, refl);
  service = search rules;
}
