-- Which user's file is opened, and in which mode.
use Rattle.std.proofs.Common.{◌≡◌, ◌∙◌, ℕ, Bool, true, false, not, ◌||◌, cond, List, Option, sym, refl, ap}
use Rattle.mpm_mount.specs.Drives.{FileName, Drive}
use Rattle.mpm_opens.specs.declared.kinds.Mode.{Mode}
use Rattle.mpm_opens.specs.declared.kinds.Mode.TheVariants.{ReadOnly}
use Rattle.mpm_fcb.specs.declared.block.ControlBlock.{ControlBlock}
use Rattle.mpm_fcb.specs.Opening.{open_mode}
use Rattle.mpm_mount.specs.Looking.{file_attributes}
use Rattle.mpm_refusals.specs.Subjects.{shared_file, shared_by, is_shared, opened_in, file_admits, mode_asked}

pub shared_so : (drive : Drive) (file : FileName) (own shared : Option (List Bool)) → file_attributes drive file ≡ own → file_attributes drive (shared_file file) ≡ shared
    → shared_by own shared ≡ is_shared drive file
unfolding is_shared
shared_so drive file own shared is_own is_shared_one =
    sym (ap (λ o. shared_by o (file_attributes drive (shared_file file))) is_own ∙ ap (shared_by own) is_shared_one)

-- of a shared file, and of one's own
pub mode_shared : (drive : Drive) (file : FileName) (b : ControlBlock) (given default : List ℕ) → is_shared drive file ≡ true → ReadOnly ≡ mode_asked drive file b given default
unfolding mode_asked
mode_shared drive file b given default is =
    sym (ap (λ shared. cond (shared || not (file_admits drive (opened_in drive file) 0x40 given default)) ReadOnly (open_mode b)) is)

pub mode_own : (drive : Drive) (file : FileName) (b : ControlBlock) (given default : List ℕ) (admitted : Bool) → is_shared drive file ≡ false
    → file_admits drive file 0x40 given default ≡ admitted → cond admitted (open_mode b) ReadOnly ≡ mode_asked drive file b given default
unfolding mode_asked opened_in
mode_own drive file b given default admitted is admits =
    turned admitted (open_mode b) ReadOnly
    ∙ sym (ap (λ shared. cond (shared || not (file_admits drive (cond shared (shared_file file) file) 0x40 given default)) ReadOnly (open_mode b)) is
    ∙ ap (λ lets. cond (not lets) ReadOnly (open_mode b)) admits)
  where
    turned : (a : Bool) (x y : Mode) → cond a x y ≡ cond (not a) y x
    turned true x y = refl
    turned false x y = refl
