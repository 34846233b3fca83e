-- Of a call that nothing refuses, no refusal of its row applies.
use Rattle.std.proofs.Common.{◌≡◌, ◌∙◌, Bool, true, false, cond, List, [], ◌∷◌, ◌++◌, Option, Some, None, sym, refl, ap}
use Rattle.std.specs.Prelude.{⊤, find}
use Rattle.mpm_file_functions.specs.declared.refusals.Refusal.{Refusal}
use Rattle.mpm_refusals.specs.Filing.{Situation}
use Rattle.mpm_refusals.specs.Subjects.{subject, deleted_files}
use Rattle.mpm_file_functions.specs.Refusals.{refusals_of, refusals_of_each}
use Rattle.mpm_mount.proofs.FirstFault.{map_none}
use Rattle.mpm_refusals.specs.Refusals.{applies, RefusalTest, tests_for, tests_each, tests_of, does_apply, refusal_of}

passed : (s : Situation) (test : RefusalTest) (more : Option RefusalTest) (b : Bool) → does_apply s test ≡ b → cond b (Some test) more ≡ None
    → (does_apply s test ≡ false) × (more ≡ None)
passed s test more true is none = absurd (cc)
passed s test more false is none = (is, none)

-- none of these applies to its file
abbrev pub NoneOf : Situation → List Refusal → Type 0
NoneOf s [] = ⊤
NoneOf s (refusal ∷ refusals) = (applies s (subject s) refusal ≡ false) × NoneOf s refusals

none_found : (s : Situation) (refusals : List Refusal) (rest : List RefusalTest) → find (does_apply s) (tests_for refusals (subject s) ++ rest) ≡ None → NoneOf s refusals
none_found s [] rest none = tt
none_found s (refusal ∷ refusals) rest none =
    let test : RefusalTest = record { refusal = refusal; file = subject s } in
    let parts = passed s test (find (does_apply s) (tests_for refusals (subject s) ++ rest)) (does_apply s test) refl none in
    (parts.0, none_found s refusals rest parts.1)

pub none_applies : (s : Situation) (refusals : List Refusal) → refusals_of s.function ≡ refusals → refusal_of s ≡ None → NoneOf s refusals
unfolding refusal_of tests_of
none_applies s refusals is none =
    let each : List RefusalTest = tests_each (refusals_of_each s.function) (deleted_files s) in
    none_found s refusals each
    (ap (λ row. find (does_apply s) (tests_for row (subject s) ++ each)) (sym is)
    ∙ map_none (λ (test : RefusalTest). test.refusal) (find (does_apply s) (tests_of s)) none)
