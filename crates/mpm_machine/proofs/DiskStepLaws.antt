-- A whole system stays whole through the disk's part of a step: a call that waits, the step of the call in service, its end, what is
-- paid, and the entry of the next call.
use Rattle.std.proofs.Common.{◌≡◌, ◌∙◌, ◌<◌, ◌||◌, ℕ, true, false, [], Option, Some, None, option_map, refl, ap, arith}
use Rattle.std.proofs.lemmas.Bool.{eq-eqb}
use Rattle.mpm_base.proofs.Choices.{either}
use Rattle.mpm_base.proofs.CountLaws.{one_if_true}
use Rattle.mpm_procs.specs.Table.{Lives}
use Rattle.mpm_dispatcher.specs.Dispatch.{IsReady}
use Rattle.mpm_ready.proofs.OrderLaws.{in_list_put_in}
use Rattle.mpm_ready.specs.Order.{first_of, in_list}
use Rattle.mpm_service.specs.Disk.{DiskService, answer_by, entered, turn_answer, served_process, begun}
use Rattle.mpm_service.specs.Places.{at_disk}
use Rattle.mpm_service.specs.declared.service.Served.{Served}
use Rattle.mpm_service.specs.declared.service.Turn.{Turn}
use Rattle.mpm_service.specs.declared.service.Turn.TheVariants.{Idle, Passing, Work, Starts}
use Rattle.mpm_kernel.specs.Disk.{with_disk, waiting_for_disk, ready_again as made_ready_again, IsOver}
use Rattle.mpm_kernel.proofs.DiskLaws.{sound_waiting_for_disk, sound_turned, sound_begun_call, sound_ready_again, over_turned}
use Rattle.mpm_kernel.proofs.HomeLaws.{homes_stay}
use Rattle.mpm_directories.specs.Direct.{Directly}
use Rattle.mpm_system.specs.declared.system.System.{System}
use Rattle.mpm_system.specs.Whole.{SystemChange, IsWhole}
use Rattle.mpm_system.proofs.WholeLaws.{whole_kernel}
use Rattle.mpm_machine.specs.FileCalls.{concluded}
use Rattle.mpm_machine.specs.DiskStep.{is_done_at_once, file_called, ready_again, call_over, step_passed, over_after, served_by, disk_served, owed_then, all_paid, entered_by, entered_unless, call_entered}
use Rattle.mpm_machine.proofs.WholeLaws.{whole_owed}
use Rattle.mpm_machine.proofs.WholeStepLaws.{whole_answered}
use Rattle.mpm_machine.proofs.FileLaws.{whole_concluded}
use Rattle.mpm_machine.proofs.FinishLaws.{no_completions_finished}

-- a file call is done at once, or waits
whole_waiting : (p : ℕ) (system : System) → IsWhole system → Lives system.kernel.dispatcher.procs p → IsReady system.kernel.dispatcher p
    → IsWhole (record system { kernel = waiting_for_disk p system.kernel })
unfolding waiting_for_disk
whole_waiting p system w h ready =
    whole_kernel system _ w (sound_waiting_for_disk system.kernel p w.sound h ready) w.live (homes_stay system.kernel _ refl)

pub whole_file_called : (told : Directly) (p : ℕ) (system : System) → IsWhole system → Lives system.kernel.dispatcher.procs p → IsReady system.kernel.dispatcher p
    → IsWhole (file_called told p system).system
unfolding file_called
whole_file_called told p system w h ready =
    either (λ (c : SystemChange). IsWhole c.system) (is_done_at_once p system) _ _ (λ _. whole_concluded told p system w h) (λ _. whole_waiting p system w h ready)

-- the disk's step
pub whole_passed : (system : System) → IsWhole system → IsWhole (step_passed system)
whole_passed system w = whole_kernel system _ w (sound_turned system.kernel w.sound) w.live (homes_stay system.kernel _ refl)

-- a call that is over
pub whole_ready_again : (p : ℕ) (system : System) → IsWhole system → IsOver p system.kernel → IsWhole (ready_again p system)
whole_ready_again p system w over =
    whole_kernel system (made_ready_again p system.kernel) w (sound_ready_again system.kernel p w.sound over) w.live (homes_stay system.kernel _ refl)

pub whole_call_over : (told : Directly) (p : ℕ) (system : System) → IsWhole system → IsOver p system.kernel → IsWhole (call_over told p system).system
unfolding call_over
whole_call_over told p system w over =
    let again = ready_again p system in
    whole_answered (concluded told p again).system _ (whole_concluded told p again (whole_ready_again p system w over) over.lives) refl

whole_over : (turn : Turn) (told : Directly) (system : System) → IsWhole system → ((p : ℕ) → turn ≡ Work p true → IsOver p system.kernel)
    → IsWhole (over_after turn told system).system
whole_over Idle told system w over = w
whole_over Passing told system w over = w
whole_over (Starts p) told system w over = w
whole_over (Work p true) told system w over = whole_call_over told p system w (over p refl)
whole_over (Work p false) told system w over = w

whole_served_by : (p : Option ℕ) (told : Directly) (system : System) → IsWhole system → IsWhole (served_by p told system).system
whole_served_by None told system w = w
whole_served_by (Some p) told system w =
    whole_over (turn_answer system.kernel.disk) told (step_passed system) (whole_passed system w) (λ q last. over_turned system.kernel q w.sound last)

pub whole_disk_served : (told : Directly) (system : System) → IsWhole system → IsWhole (disk_served told system).system
unfolding disk_served
whole_disk_served told system w = whole_served_by (served_process system.kernel.disk) told system w

-- what is paid
pub whole_all_paid : (system : System) → IsWhole system → IsWhole (all_paid system)
unfolding all_paid
whole_all_paid system w = whole_owed system (owed_then system.kernel.disk.served system.owed) w

-- the entry of the next call
whole_begun_call : (turns : ℕ) (system : System) → IsWhole system → IsWhole (record system { kernel = with_disk (λ disk. begun disk turns) system.kernel })
whole_begun_call turns system w = whole_kernel system _ w (sound_begun_call system.kernel turns w.sound) w.live (homes_stay system.kernel _ refl)

whole_entered_by : (turn : Turn) (turns : ℕ) (system : System) → IsWhole system → IsWhole (entered_by turn turns system)
whole_entered_by Idle turns system w = w
whole_entered_by Passing turns system w = w
whole_entered_by (Work p last) turns system w = w
whole_entered_by (Starts p) turns system w = whole_begun_call turns system w

whole_entered_unless : (served : Option ℕ) (turns : ℕ) (system : System) → IsWhole system → IsWhole (entered_unless served turns system)
whole_entered_unless (Some p) turns system w = w
whole_entered_unless None turns system w = whole_entered_by (turn_answer system.kernel.disk) turns (step_passed system) (whole_passed system w)

pub whole_call_entered : (turns : ℕ) (system : System) → IsWhole system → IsWhole (call_entered turns system)
unfolding call_entered
whole_call_entered turns system w = whole_entered_unless (served_process system.kernel.disk) turns system w

-- nobody is left to be handed out

none_over : (turn : Turn) (told : Directly) (system : System) → system.kernel.dispatcher.completed ≡ []
    → (over_after turn told system).system.kernel.dispatcher.completed ≡ []
unfolding call_over
none_over Idle told system none = none
none_over Passing told system none = none
none_over (Starts p) told system none = none
none_over (Work p true) told system none = no_completions_finished _ (concluded told p (ready_again p system)).system refl
none_over (Work p false) told system none = none

none_served_by : (p : Option ℕ) (told : Directly) (system : System) → system.kernel.dispatcher.completed ≡ []
    → (served_by p told system).system.kernel.dispatcher.completed ≡ []
none_served_by None told system none = none
none_served_by (Some p) told system none = none_over (turn_answer system.kernel.disk) told (step_passed system) none

pub none_disk_served : (told : Directly) (system : System) → system.kernel.dispatcher.completed ≡ [] → (disk_served told system).system.kernel.dispatcher.completed ≡ []
unfolding disk_served
none_disk_served told system none = none_served_by (served_process system.kernel.disk) told system none

none_entered_by : (turn : Turn) (turns : ℕ) (system : System) → (entered_by turn turns system).kernel.dispatcher ≡ system.kernel.dispatcher
none_entered_by Idle turns system = refl
none_entered_by Passing turns system = refl
none_entered_by (Work p last) turns system = refl
none_entered_by (Starts p) turns system = refl

none_entered_unless : (served : Option ℕ) (turns : ℕ) (system : System) → (entered_unless served turns system).kernel.dispatcher ≡ system.kernel.dispatcher
none_entered_unless (Some p) turns system = refl
none_entered_unless None turns system = none_entered_by (turn_answer system.kernel.disk) turns (step_passed system)

pub same_call_entered : (turns : ℕ) (system : System) → (call_entered turns system).kernel.dispatcher ≡ system.kernel.dispatcher
unfolding call_entered
same_call_entered turns system = none_entered_unless (served_process system.kernel.disk) turns system

-- the turns of others, and who comes to wait

-- no turn ends where no call is in service
never_by : (turn_steps q : ℕ) (served : Option Served) (first : Option ℕ) → option_map (λ call. call.p) served ≡ None → answer_by turn_steps served first ≡ Work q true → ⊥
never_by turn_steps q (Some call) first none is = absurd (cc)
never_by turn_steps q None (Some p) none is = absurd (cc)
never_by turn_steps q None None none is = absurd (cc)

pub never_works : (service : DiskService) (q : ℕ) → served_process service ≡ None → turn_answer service ≡ Work q true → ⊥
unfolding served_process turn_answer
never_works service q none is = never_by service.turn_steps q service.served (first_of service.waiting) none is

pub same_worker : (turn : Turn) (p q : ℕ) → turn ≡ Work p true → turn ≡ Work q true → q ≡ p
same_worker turn p q one other = cc

pub entered_there : (service : DiskService) (p priority : ℕ) → 0 < at_disk (entered service p priority) p
unfolding at_disk entered
entered_there service p priority =
    let there = in_list_put_in p service.waiting (record { slot = p; priority = priority }) ∙ ap (λ b. b || in_list p service.waiting) (eq-eqb p p refl) in
    omega (arith, one_if_true _ there)
