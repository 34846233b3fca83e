-- An opening changes nothing of its drive by which its file is found and its mode is asked: it may set a stamp.
use Rattle.std.proofs.Common.{◌≡◌, ◌∙◌, ℕ, not, ◌||◌, cond, List, [], ◌∷◌, Option, Some, None, refl, sym, ap, subst}
use Rattle.std.specs.Prelude.{filter, option_map, unwrap_or}
use Rattle.std.specs.FinMap.{FinMap, get, get-insert, entries}
use Rattle.std.specs.Ordering.{is_eq}
use Rattle.std.specs.Cmp.{tied_itself}
use Rattle.mpm_mount.specs.Drives.{FileName, entry_cmp, PhysicalExtent, Protection, Drive, with_xfcb, is_of, extents_of}
use Rattle.mpm_mount.proofs.Orders.{file_total}
use Rattle.mpm_opens.specs.declared.kinds.Mode.TheVariants.{ReadOnly}
use Rattle.mpm_mount.specs.Attributes.{first_attributes}
use Rattle.mpm_mount.specs.Files.{where_there}
use Rattle.mpm_guard.specs.Passwords.{is_admitted}
use Rattle.mpm_jobs.specs.declared.jobs.JobKind.{JobKind}
use Rattle.mpm_jobs.specs.declared.jobs.JobKind.TheVariants.{Nothing}
use Rattle.mpm_jobs.specs.declared.jobs.Job.{Job}
use Rattle.mpm_files.specs.Units.{Idles, first_stamped, stages, last_of, applied, all_applied}
use Rattle.mpm_files.specs.Plans.{file_of_job, plan_by, plan_of, turns_of}
use Rattle.mpm_files.specs.Serving.{units_done}
use Rattle.mpm_files.proofs.TurnLaws.{all_turns}
use Rattle.mpm_fcb.specs.declared.block.ControlBlock.{ControlBlock}
use Rattle.mpm_fcb.specs.Opening as fcb
use Rattle.mpm_mount.specs.Looking.{file_attributes, data_byte}
use Rattle.mpm_refusals.specs.Subjects.{shared_file, shared_by, is_shared, opened_in, xfcb_admits, file_admits, mode_asked}

-- two drives differ in the stamps of a file's XFCB alone
pub record Alike (file : FileName) (one other : Drive) : Type 0 where
  pub extents : one.extents ≡ other.extents
  pub label : one.label ≡ other.label
  pub admits : (label need : ℕ) (given default : List ℕ)
      → xfcb_admits label file need given default (get one.xfcbs file) ≡ xfcb_admits label file need given default (get other.xfcbs file)

alike_by : (drive : Drive) (file : FileName) (moment : List ℕ) (o : Option Protection) → get drive.xfcbs file ≡ o
    → Alike file drive (last_of drive (where_there o (λ xfcb. with_xfcb drive file (first_stamped moment xfcb) ∷ [])))
unfolding last_of is_admitted
alike_by drive file moment None is = record { extents = refl; label = refl; admits = λ label need given default. refl }
alike_by drive file moment (Some xfcb) is = record {
  extents = refl;
  label = refl;
  admits = λ label need given default.
      ap (xfcb_admits label file need given default) is
      ∙ sym (ap (xfcb_admits label file need given default)
      (get-insert file_total drive.xfcbs file (first_stamped moment xfcb) file
      ∙ ap (λ b. cond b (Some (first_stamped moment xfcb)) (get drive.xfcbs file)) (ap is_eq (tied_itself file_total file))));
}

alike_idle : (drive : Drive) (file : FileName) (stamp : Option (List ℕ)) → Alike file drive (all_applied drive (Idles file stamp ∷ []))
unfolding all_applied applied stages last_of
alike_idle drive file None = record { extents = refl; label = refl; admits = λ label need given default. refl }
alike_idle drive file (Some moment) = alike_by drive file moment (get drive.xfcbs file) refl

pub opened_alike : (drive : Drive) (job : Job) → job.kind ≡ Nothing → Alike (file_of_job job) drive (units_done drive job (turns_of drive job))
unfolding plan_of
opened_alike drive job is =
    subst (Alike (file_of_job job) drive)
    (sym (all_turns drive job ∙ ap (λ (kind : JobKind). all_applied drive (plan_by drive job kind).units) is))
    (alike_idle drive (file_of_job job) job.stamp)

still_shared : (file own : FileName) (one other : Drive) → Alike file one other → is_shared one own ≡ is_shared other own
unfolding is_shared file_attributes extents_of
still_shared file own one other alike =
    ap (λ (extents : FinMap entry_cmp PhysicalExtent). shared_by (first_attributes (filter (is_of own) (entries extents))) (first_attributes (filter (is_of (shared_file own)) (entries extents)))) alike.extents

pub still_opened : (file own : FileName) (one other : Drive) → Alike file one other → opened_in one own ≡ opened_in other own
unfolding opened_in
still_opened file own one other alike = ap (λ b. cond b (shared_file own) own) (still_shared file own one other alike)

still_admits : (file : FileName) (one other : Drive) (given default : List ℕ) → Alike file one other → file_admits one file 0x40 given default ≡ file_admits other file 0x40 given default
unfolding file_admits
still_admits file one other given default alike =
    alike.admits (data_byte one) 0x40 given default
    ∙ ap (λ label. xfcb_admits (unwrap_or (option_map (λ l. l.protection.mode) label) 0) file 0x40 given default (get other.xfcbs file)) alike.label

pub still_asked : (own : FileName) (one other : Drive) (b : ControlBlock) (given default : List ℕ) → Alike (opened_in one own) one other
    → mode_asked one own b given default ≡ mode_asked other own b given default
unfolding mode_asked
still_asked own one other b given default alike =
    ap (λ shared. cond (shared || not (file_admits one (opened_in one own) 0x40 given default)) ReadOnly (fcb.open_mode b)) (still_shared (opened_in one own) own one other alike)
    ∙ ap (λ admits. cond (is_shared other own || not admits) ReadOnly (fcb.open_mode b))
    (still_admits (opened_in one own) one other given default alike ∙ ap (λ file. file_admits other file 0x40 given default) (still_opened (opened_in one own) own one other alike))
