-- Worked examples of words, by computation.
use Rattle.std.proofs.Common.{◌≡◌, [], ◌∷◌, Some, None, true, false, codes, refl}
use Rattle.mpm_script.specs.Numbers.{value_from, is_plain, decimal_of, number_of}
use Rattle.mpm_top.specs.Words.{steps_of, form_of, command_with, command_of}
use Rattle.mpm_top.specs.declared.words.Form.TheVariants.{Program, Run}

pub steps_zero : steps_of (codes "0") ≡ Some 0
unfolding steps_of number_of is_plain decimal_of value_from
steps_zero = refl

pub steps_nine : steps_of (codes "09") ≡ None
unfolding steps_of number_of is_plain decimal_of value_from
steps_nine = refl

pub steps_none : steps_of [] ≡ None
unfolding steps_of number_of is_plain decimal_of value_from
steps_none = refl

pub steps_signed : steps_of (codes "+9") ≡ None
unfolding steps_of number_of is_plain decimal_of value_from
steps_signed = refl

pub steps_greatest : steps_of (codes "4000000000") ≡ Some 4000000000
unfolding steps_of number_of is_plain decimal_of value_from
steps_greatest = refl

pub steps_too_many : steps_of (codes "4000000001") ≡ None
unfolding steps_of number_of is_plain decimal_of value_from
steps_too_many = refl

pub command_program : command_of (codes "program" ∷ codes "hi.bin" ∷ codes "10" ∷ []) ≡ Some (record { form = Program; name = codes "hi.bin"; steps = 10; trace = false })
unfolding command_of command_with form_of steps_of number_of is_plain decimal_of value_from
command_program = refl

pub command_run : command_of (codes "run" ∷ codes "m.toml" ∷ codes "0" ∷ codes "--trace" ∷ []) ≡ Some (record { form = Run; name = codes "m.toml"; steps = 0; trace = true })
unfolding command_of command_with form_of steps_of number_of is_plain decimal_of value_from
command_run = refl

pub command_without_a_name : command_of (codes "program" ∷ [] ∷ codes "10" ∷ []) ≡ None
unfolding command_of command_with form_of steps_of number_of is_plain decimal_of value_from
command_without_a_name = refl

pub command_other : command_of (codes "gen" ∷ codes "1" ∷ codes "10" ∷ []) ≡ None
unfolding command_of command_with form_of steps_of number_of is_plain decimal_of value_from
command_other = refl

pub command_of_two : command_of (codes "program" ∷ codes "hi.bin" ∷ []) ≡ None
unfolding command_of
command_of_two = refl

pub command_of_another_fourth : command_of (codes "program" ∷ codes "hi.bin" ∷ codes "10" ∷ codes "--Trace" ∷ []) ≡ None
unfolding command_of
command_of_another_fourth = refl

pub command_of_five : command_of (codes "run" ∷ codes "m.toml" ∷ codes "10" ∷ codes "--trace" ∷ codes "--trace" ∷ []) ≡ None
unfolding command_of
command_of_five = refl
