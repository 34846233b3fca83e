-- Whom an XFCB or the label lets in, and whether a call lacks the password that it needs.
use Rattle.std.proofs.Common.{◌≡◌, ◌∙◌, ℕ, Bool, true, false, not, cond, List, Option, Some, None, sym, ap}
use Rattle.mpm_dirent.specs.declared.kinds.LabelEntry.{LabelEntry}
use Rattle.mpm_mount.specs.Drives.{FileName, DirectoryLabel, Drive}
use Rattle.std.specs.FinMap.{get}
use Rattle.mpm_dirent.specs.declared.kinds.XfcbEntry.{XfcbEntry}
use Rattle.mpm_mount.specs.Images.{protection_of}
use Rattle.mpm_guard.specs.Passwords.{is_admitted, is_label_admitted}
use Rattle.mpm_file_functions.specs.declared.functions.FileFunction.{FileFunction}
use Rattle.mpm_refusals.specs.Subjects.{xfcb_admits, file_admits}
use Rattle.mpm_mount.specs.Looking.{label_of, data_byte}
use Rattle.mpm_refusals.specs.Refusals.{label_admits, need_of, is_of_label, lacks_password}

pub label_lets_in : (label : Option DirectoryLabel) (l : LabelEntry) (given default : List ℕ) → label ≡ Some (label_of l) → is_label_admitted l given default ≡ label_admits given default label
label_lets_in label l given default is = sym (ap (label_admits given default) is)

pub no_label_lets_in : (label : Option DirectoryLabel) (given default : List ℕ) → label ≡ None → true ≡ label_admits given default label
no_label_lets_in label given default is = sym (ap (label_admits given default) is)

pub lacks_labels : (drive : Drive) (file : FileName) (function : FileFunction) (given default : List ℕ) (lets : Bool) → is_of_label function ≡ true → lets ≡ label_admits given default drive.label
    → not lets ≡ lacks_password drive file function given default
unfolding lacks_password
lacks_labels drive file function given default lets is so =
    ap not so ∙ sym (ap (λ b. cond b (not (label_admits given default drive.label)) (not (file_admits drive file (need_of function) given default))) is)

pub lacks_files : (drive : Drive) (file : FileName) (function : FileFunction) (given default : List ℕ) (lets : Bool) → is_of_label function ≡ false
    → lets ≡ file_admits drive file (need_of function) given default → not lets ≡ lacks_password drive file function given default
unfolding lacks_password
lacks_files drive file function given default lets is so =
    ap not so ∙ sym (ap (λ b. cond b (not (label_admits given default drive.label)) (not (file_admits drive file (need_of function) given default))) is)

-- whom an XFCB lets in
pub admitted_by : (files : Drive) (file : FileName) (need : ℕ) (given default : List ℕ) (x : XfcbEntry) (label : ℕ) → get files.xfcbs file ≡ Some (protection_of x)
    → label ≡ data_byte files → is_admitted label x need given default ≡ file_admits files file need given default
unfolding file_admits is_admitted
admitted_by files file need given default x label there is =
    ap (λ l. is_admitted l x need given default) is ∙ sym (ap (xfcb_admits (data_byte files) file need given default) there)

pub admitted_freely : (files : Drive) (file : FileName) (need : ℕ) (given default : List ℕ) → get files.xfcbs file ≡ None → true ≡ file_admits files file need given default
unfolding file_admits
admitted_freely files file need given default none = sym (ap (xfcb_admits (data_byte files) file need given default) none)
