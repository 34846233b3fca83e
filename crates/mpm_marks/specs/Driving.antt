-- What a call on drives leaves of marks, of the drives that are protected, and of open files. (MP/M II Programmer's Guide, functions
-- 13, 28, 37, 38 and 39.)
use Rattle.std.specs.Prelude.{ℕ, Bool, List, if◌then◌else◌}
use Rattle.mpm_opens.specs.Opens.{OpenFiles, given_back}
use Rattle.mpm_file_functions.specs.declared.functions.FileFunction.{FileFunction}
use Rattle.mpm_file_functions.specs.declared.functions.FileFunction.TheVariants.{FreeDrives, ResetDisks, ProtectDisk, ResetDrives, AccessDrives}
use Rattle.mpm_marks.specs.Marks.{is_bit, with_marks, without_marks}
use Rattle.mpm_marks.specs.Protected.{none_protected, unprotected, with_protected}

abbrev pub freed_by : OpenFiles → ℕ → ℕ → FileFunction → OpenFiles
freed_by opens p mask FreeDrives = given_back opens p (λ key. is_bit mask key.drive)
freed_by opens p mask function = opens

-- the marks of a process by the mask that it names
unfoldable pub marks_by : List ℕ → ℕ → ℕ → FileFunction → List ℕ
marks_by marks p mask AccessDrives = with_marks marks p mask
marks_by marks p mask FreeDrives = without_marks marks p mask
marks_by marks p mask function = marks

abbrev pub protected_by : List Bool → Bool → ℕ → ℕ → FileFunction → List Bool
protected_by protected is_mounted own mask ResetDisks = none_protected
protected_by protected is_mounted own mask ResetDrives = unprotected protected mask
protected_by protected is_mounted own mask ProtectDisk = if is_mounted then with_protected protected own else protected
protected_by protected is_mounted own mask function = protected
