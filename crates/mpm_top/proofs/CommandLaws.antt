-- Laws of the command line's words.
use Rattle.std.proofs.Common.{◌≡◌, ◌≢◌, ℕ, ◌≤◌, List, [], ◌∷◌, Bool, Option, Some, None, length, refl, arith}
use Rattle.mpm_script.specs.declared.line.TheConstants.{GREATEST_STEP}
use Rattle.mpm_top.specs.Words.{steps_of, command_with, IsAsked}
use Rattle.mpm_top.specs.declared.words.Form.{Form}

-- a form, a name and a word of steps ask what they say
pub asked_is : (form : Form) (file : List ℕ) (text : List ℕ) (steps : ℕ) (trace : Bool) (said : Option Form) → length file ≢ 0 → said ≡ Some form
    → steps_of text ≡ Some steps → steps ≤ GREATEST_STEP → IsAsked (command_with said file (steps_of text) trace) file (record { form = form; steps = steps; trace = trace })
unfolding command_with
asked_is form [] text steps trace said named is e limit = absurd (named refl)
asked_is form (byte ∷ file) text steps trace said named is e limit = record { is = rw (is, e) refl; limit = limit }

-- without a form, a name or a number of steps they ask nothing

pub no_form : (said : Option Form) (file : List ℕ) (steps : Option ℕ) (trace : Bool) → said ≡ None → command_with said file steps trace ≡ None
unfolding command_with
no_form None file steps trace e = refl
no_form (Some form) file steps trace e = absurd (cc)

pub no_name : (said : Option Form) (file : List ℕ) (steps : Option ℕ) (trace : Bool) → length file ≡ 0 → command_with said file steps trace ≡ None
unfolding command_with
no_name None file steps trace e = refl
no_name (Some form) [] steps trace e = refl
no_name (Some form) (byte ∷ file) steps trace e = absurd (omega arith)

pub no_steps : (said : Option Form) (file : List ℕ) (steps : Option ℕ) (trace : Bool) → steps ≡ None → command_with said file steps trace ≡ None
unfolding command_with
no_steps None file steps trace e = refl
no_steps (Some form) [] steps trace e = refl
no_steps (Some form) (byte ∷ file) None trace e = refl
no_steps (Some form) (byte ∷ file) (Some steps) trace e = absurd (cc)
