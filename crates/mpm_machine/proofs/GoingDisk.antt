-- The command line interpreter goes on with the segment that it has reserved through the disk's part of a step. That is a step of the call
-- in service, which is over after its last turn, what is paid, and the entry of the next call.
use Rattle.std.proofs.Common.{ℕ, zero, suc, ◌≡◌, ◌≢◌, true, false, Option, Some, None, refl, subst}
use Rattle.mpm_directories.specs.Direct.{Directly}
use Rattle.mpm_kernel.proofs.AwaitingLaws.{awaits_heir}
use Rattle.mpm_kernel.proofs.Beside.{beside_same}
use Rattle.mpm_kernel.proofs.DiskLaws.{over_turned}
use Rattle.mpm_kernel.specs.Disk.{with_disk, ready_again as made_ready_again}
use Rattle.mpm_procs.specs.Table.{Lives}
use Rattle.mpm_service.proofs.PlaceLaws.{at_begun, at_turned_still}
use Rattle.mpm_service.specs.Disk.{served_process, turned, turn_answer, begun}
use Rattle.mpm_service.specs.declared.service.Turn.{Turn}
use Rattle.mpm_service.specs.declared.service.Turn.TheVariants.{Idle, Passing, Work, Starts}
use Rattle.mpm_system.specs.Whole.{IsWhole}
use Rattle.mpm_system.specs.declared.system.System.{System}
use Rattle.mpm_machine.proofs.DiskStepLaws.{never_works, same_worker, whole_passed, whole_ready_again}
use Rattle.mpm_machine.proofs.FileLaws.{whole_concluded}
use Rattle.mpm_machine.proofs.GoingAnswers.{goes_all_finished}
use Rattle.mpm_machine.proofs.GoingFiles.{FilesAt, goes_concluded, own_over}
use Rattle.mpm_machine.proofs.GoingParts.{goes_kernel, goes_same}
use Rattle.mpm_machine.specs.DiskStep.{ready_again, call_over, step_passed, over_after, served_by, disk_served, all_paid, entered_by, entered_unless, call_entered}
use Rattle.mpm_machine.specs.FileCalls.{concluded}
use Rattle.mpm_machine.specs.Interpreting.{Interprets}
use Rattle.mpm_machine.specs.Stepping.{Telling, paid_after, entered_after}

-- a step of the disk in which the interpreter's call isn't over
goes_turned : (system : System) → (turn_answer system.kernel.disk ≡ Work 0 true → ⊥) → Interprets system → Interprets (step_passed system)
goes_turned system last i =
    let procs = system.kernel.dispatcher.procs in
    goes_kernel system (with_disk turned system.kernel) (beside_same 0 procs procs refl) refl (at_turned_still system.kernel.disk 0 last) (λ k x. x) i

-- another's is over
others_over : (p : ℕ) (system : System) → IsWhole system → 0 ≢ p → turn_answer system.kernel.disk ≡ Work p true → Interprets system
    → Interprets (ready_again p (step_passed system))
others_over p system w other last i =
    let procs = system.kernel.dispatcher.procs in
    let over = over_turned system.kernel p w.sound last in
    goes_kernel system (made_ready_again p (with_disk turned system.kernel)) (beside_same 0 procs procs refl) refl
    (at_turned_still system.kernel.disk 0 (λ own. other (same_worker (turn_answer system.kernel.disk) p 0 last own)))
    (λ k x. awaits_heir k 0 (Some p) procs system.kernel.dispatcher.lists system.kernel.dispatcher.completed w.sound.slots (λ h is. lives_it p h over.lives is) x) i
  where
    lives_it : (p h : ℕ) → Lives system.kernel.dispatcher.procs p → Some p ≡ Some h → Lives system.kernel.dispatcher.procs h
    lives_it p h living is = (let same : p ≡ h = cc in subst (Lives system.kernel.dispatcher.procs) same living)

pub files_over : (p : ℕ) (system : System) → IsWhole system → turn_answer system.kernel.disk ≡ Work p true → Interprets system → FilesAt p (ready_again p (step_passed system))
files_over zero system w last i = own_over system w last i
files_over (suc q) system w last i =
    let other : 0 ≢ suc q = λ e. absurd (cc) in
    record { interprets = others_over (suc q) system w other last i; files = λ e. absurd (other e); none = λ e. absurd (other e) }

goes_call_over : (told : Directly) (p : ℕ) (system : System) → IsWhole system → turn_answer system.kernel.disk ≡ Work p true → Interprets system
    → Interprets (call_over told p (step_passed system)).system
unfolding call_over
goes_call_over told p system w last i =
    let over = over_turned system.kernel p w.sound last in
    let again = ready_again p (step_passed system) in
    let whole = whole_ready_again p (step_passed system) (whole_passed system w) over in
    goes_all_finished (concluded told p again).system (whole_concluded told p again whole over.lives)
    (goes_concluded told p again whole over.lives (files_over p system w last i))

-- the disk's step

goes_after : (turn : Turn) (told : Directly) (system : System) → turn_answer system.kernel.disk ≡ turn → IsWhole system → Interprets system
    → Interprets (over_after turn told (step_passed system)).system
goes_after Idle told system is w i = goes_turned system (λ last. absurd (cc)) i
goes_after Passing told system is w i = goes_turned system (λ last. absurd (cc)) i
goes_after (Starts p) told system is w i = goes_turned system (λ last. absurd (cc)) i
goes_after (Work p true) told system is w i = goes_call_over told p system w is i
goes_after (Work p false) told system is w i = goes_turned system (λ last. absurd (cc)) i

goes_served_by : (served : Option ℕ) (told : Directly) (system : System) → IsWhole system → Interprets system → Interprets (served_by served told system).system
goes_served_by None told system w i = i
goes_served_by (Some p) told system w i = goes_after (turn_answer system.kernel.disk) told system refl w i

goes_disk_served : (told : Directly) (system : System) → IsWhole system → Interprets system → Interprets (disk_served told system).system
unfolding disk_served
goes_disk_served told system w i = goes_served_by (served_process system.kernel.disk) told system w i

pub goes_all_paid : (system : System) → Interprets system → Interprets (all_paid system)
unfolding all_paid
goes_all_paid system i = goes_same system _ refl refl refl refl refl refl refl i

goes_entered_by : (turn : Turn) (turns : ℕ) (system : System) → Interprets system → Interprets (entered_by turn turns system)
goes_entered_by Idle turns system i = i
goes_entered_by Passing turns system i = i
goes_entered_by (Work p last) turns system i = i
goes_entered_by (Starts p) turns system i =
    let procs = system.kernel.dispatcher.procs in
    goes_kernel system (with_disk (λ disk. begun disk turns) system.kernel) (beside_same 0 procs procs refl) refl (at_begun system.kernel.disk turns 0) (λ k x. x) i

goes_entered_unless : (served : Option ℕ) (turns : ℕ) (system : System) → served_process system.kernel.disk ≡ served → Interprets system
    → Interprets (entered_unless served turns system)
goes_entered_unless (Some p) turns system is i = i
goes_entered_unless None turns system is i =
    goes_entered_by (turn_answer system.kernel.disk) turns (step_passed system) (goes_turned system (never_works system.kernel.disk 0 is) i)

goes_call_entered : (turns : ℕ) (system : System) → Interprets system → Interprets (call_entered turns system)
unfolding call_entered
goes_call_entered turns system i = goes_entered_unless (served_process system.kernel.disk) turns system refl i

pub goes_entered_after : (telling : Telling) (system : System) → IsWhole system → Interprets system → Interprets (entered_after telling system)
unfolding entered_after
goes_entered_after telling system w i =
    goes_call_entered telling.turns (paid_after telling.at_disk system) (goes_all_paid (disk_served telling.at_disk system).system (goes_disk_served telling.at_disk system w i))
