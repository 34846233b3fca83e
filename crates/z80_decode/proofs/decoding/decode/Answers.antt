use Rattle.std.proofs.Common.{rules, ◌≡◌, ap, sym, ◌∙◌}
use Rattle.std.specs.Option.{is_some}
use Rattle.z80_decode.specs.Decoding.{prefixed_instr_of, main_instr_of, instr_of}
use Rattle.z80_decode.proofs.Listed.{decoded}
use Rattle.z80_decode.proofs.decoding.decode.Goals as goal

-- after a prefix
pub returns-in-None-clause-listed : goal.returns-in-None-clause-listed
unfolding instr_of main_instr_of prefixed_instr_of
returns-in-None-clause-listed c =
    let same : c.decode_prefixed.result ≡ instr_of c.args.bytes = search rules in
    ap is_some same ∙ decoded c.args.bytes c.element_fits.fits c.element_fits2.fits c.element_fits4.fits

-- without prefix
pub returns-in-Some-clause-listed : goal.returns-in-Some-clause-listed
unfolding instr_of main_instr_of
returns-in-Some-clause-listed c =
    let same : c.decode_main.result ≡ instr_of c.args.bytes = search rules in
    ap is_some (sym c.in-Some.is ∙ same)
    ∙ decoded c.args.bytes c.element_fits.fits c.element_fits2.fits c.element_fits4.fits
