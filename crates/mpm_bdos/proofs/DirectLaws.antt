-- The calls that no disk serves, by the directories of the drives.
use Rattle.std.proofs.Common.{◌≡◌, ℕ, Bool, List, Option, Some, None, IfSome, refl, ap, sym, subst, ◌∙◌}
use Rattle.std.specs.Prelude.{option_map, slice_index_or}
use Rattle.std.proofs.Math.Path.{fun_ext}
use Rattle.mpm_base.specs.Calls.{Taken}
use Rattle.mpm_mount.specs.Drives.{Drive}
use Rattle.mpm_mount.specs.Directories.{Directory}
use Rattle.mpm_mount.specs.Images.{drive_of}
use Rattle.mpm_file_functions.specs.declared.functions.DirectFunction.{DirectFunction}
use Rattle.mpm_directories.specs.Direct.{Directly, is_protected, direct_by}
use Rattle.mpm_bdos.specs.Direct.{direct}
use Rattle.mpm_bdos.specs.Serving.{Kept, StandEach, filing_of}
use Rattle.mpm_directories.specs.Places.{kind_at}
use Rattle.mpm_refusals.specs.Asking.{StandsWhere}

-- a directory and the drive that it stands for are of one kind
same_kind : (number : ℕ) (image : List ℕ) (directory : Option Directory) (drive : Option Drive) → StandsWhere number image directory drive
    → option_map (λ (there : Drive). there.kind) drive ≡ option_map (λ (d : Directory). d.kind) directory
unfolding drive_of
same_kind number image None None stands = refl
same_kind number image None (Some drive) stands = absurd stands
same_kind number image (Some d) None stands = absurd stands
same_kind number image (Some d) (Some drive) stands = ap (λ (there : Drive). Some there.kind) stands.stands.drive

-- so they are done by the directories alone
pub direct_told : (images : ℕ → List ℕ) (kept : Kept) (drives : List (Option Drive)) (drive : ℕ) (call : Taken) (function : DirectFunction) → StandEach images kept.mounted drives
    → direct (filing_of kept drives) drive call function ≡ direct_by (kind_at kept.mounted) (is_protected kept.protected) drive call function
unfolding direct
direct_told images kept drives drive call function stand =
    ap (λ kinds. direct_by kinds (is_protected kept.protected) drive call function)
    (fun_ext (λ number. same_kind number (images number) (slice_index_or kept.mounted number None) (slice_index_or drives number None) (stand.each number)))

-- and by the places of these, as they are lent
pub by_places : {X : Type 0} (part : Directly → X) (places mounted : List (Option Directory)) (protected : List Bool) (drive : ℕ) (call : Taken) (function : DirectFunction) (value : X)
    → places ≡ mounted → value ≡ part (direct_by (kind_at places) (is_protected protected) drive call function)
    → value ≡ part (direct_by (kind_at mounted) (is_protected protected) drive call function)
by_places part places mounted protected drive call function value same told =
    told ∙ ap (λ all. part (direct_by (kind_at all) (is_protected protected) drive call function)) same

-- a part of what such a call comes to, by its number
pub part_told : {X : Type 0} (part : Directly → X) (kept now : Kept) (drive : ℕ) (call : Taken) (function : DirectFunction) (found : Option DirectFunction) (value : X)
    → kept ≡ now → found ≡ Some function → value ≡ part (direct_by (kind_at kept.mounted) (is_protected kept.protected) drive call function)
    → (images : ℕ → List ℕ) (drives : List (Option Drive)) → StandEach images now.mounted drives → IfSome found (λ one. value ≡ part (direct (filing_of now drives) drive call one))
part_told part kept now drive call function found value same is told images drives stand =
    subst (λ one. IfSome one (λ f. value ≡ part (direct (filing_of now drives) drive call f))) (sym is)
    (told ∙ ap (λ (one : Kept). part (direct_by (kind_at one.mounted) (is_protected one.protected) drive call function)) same
    ∙ sym (ap part (direct_told images now drives drive call function stand)))
