-- Steps in which nothing is done, as no process runs and none is ready.
use Rattle.std.proofs.Common.{◌≡◌, ◌∙◌, ℕ, zero, suc, ◌+◌, ◌<◌, false, None, refl, sym, ap, subst, arith, add-one}
use Rattle.mpm_service.specs.Disk.{DiskService}
use Rattle.mpm_service.specs.Ahead.{passed_by}
use Rattle.mpm_kernel.specs.Kernel.{Kernel}
use Rattle.mpm_kernel.specs.Disk.{with_disk}
use Rattle.mpm_kernel.proofs.DiskLaws.{sound_passed_by}
use Rattle.mpm_kernel.proofs.HomeLaws.{homes_stay}
use Rattle.mpm_system.specs.declared.system.System.{System}
use Rattle.mpm_system.specs.Whole.{IsWhole, NoCompletions, NobodyAborted, silent}
use Rattle.mpm_system.specs.Coming.{counted}
use Rattle.mpm_system.specs.Idling.{IsIdle, later, CanPass}
use Rattle.mpm_system.proofs.WholeLaws.{whole_kernel}
use Rattle.mpm_machine.specs.State.{State}
use Rattle.mpm_machine.specs.Files.{FilesInService, AreWithin}
use Rattle.mpm_machine.specs.Step.{acted_by, acted, running_segment, at_instruction, runner_picked}
use Rattle.mpm_machine.specs.Stepping.{Telling, step_with}
use Rattle.mpm_machine.specs.After.{next, after}
use Rattle.mpm_machine.specs.Moving.{Quiet}
use Rattle.mpm_machine.proofs.WholeLaws.{whole_steps}
use Rattle.mpm_machine.proofs.FileStepLaws.{nobody_calls}
use Rattle.mpm_machine.proofs.PlainLaws.{plain_next, files_still}
use Rattle.mpm_machine.proofs.QuietLaws.{none_comes, step_quiet, picked_same}
use Rattle.mpm_machine.proofs.PassingLaws.{still_ahead, passes_on, fewer_pass, rest_still, none_before, within_on}
use Rattle.mpm_machine.proofs.PassedLaws.{later_none}

-- nothing is done
nothing_acted : (system : System) → system.kernel.dispatcher.running ≡ None → acted system ≡ silent system
unfolding acted
nothing_acted system idle = ap (λ o. acted_by o (running_segment o system) system) idle

-- what is so of a system that is idle for n steps
pub record Idles (system : System) (n : ℕ) : Type 0 where
  pub idle : 0 < n → IsIdle system
  pub no_completions : NoCompletions system
  pub settled : NobodyAborted system.kernel
  pub none_deferred : system.abort_deferred ≡ false
  pub quiet : Quiet n system
  pub passing : CanPass n system.kernel.disk

handed_idle : (system : System) (steps n : ℕ) → NoCompletions system → NoCompletions (record system { steps = steps; kernel = with_disk (passed_by n) system.kernel })
unfolding passed_by
handed_idle system steps n none = record { answered = none.answered; written = none.written; paid = λ idle. none.paid (none_before system.kernel.disk.served n idle) }

idle_step : (telling : Telling) (system : System) (n : ℕ) → Idles system (n + 1) → step_with telling (later system n) ≡ silent (later system (n + 1))
idle_step telling system n on =
    let begun = counted (later system n) in
    let idle = on.idle (omega arith) in
    let instruction = at_instruction begun in
    let passed = with_disk (passed_by (n + 1)) system.kernel in
    step_quiet telling (later system n) begun (nobody_calls (later system n) idle.running) (none_comes begun (on.quiet n (omega arith))) (nothing_acted begun idle.running) on.no_completions.answered
    ∙ rest_still instruction telling begun (handed_idle system (system.steps + n + 1) n on.no_completions) on.settled on.none_deferred (still_ahead n system.kernel.disk on.passing)
    ∙ ap (λ (disk : DiskService). runner_picked instruction (silent (record begun { kernel = record system.kernel { disk = disk } }))) (passes_on n system.kernel.disk on.passing)
    ∙ ap (λ (kernel : Kernel). silent (record begun { kernel = kernel })) (picked_same instruction passed (idle.nobody ∙ sym idle.running))
    ∙ ap (λ (steps : ℕ). silent (record system { steps = steps; kernel = passed })) (omega arith)

idle_within : (system : System) (files : FilesInService) (n : ℕ) → AreWithin system.kernel.disk.served files → AreWithin (passed_by n system.kernel.disk).served files
unfolding passed_by
idle_within system files n within = within_on system.kernel.disk.served files n within

-- so n of them are n steps, which say nothing

idle_next : (s : State) (n : ℕ) → Idles s.system (n + 1) → AreWithin s.system.kernel.disk.served s.files
    → next (record s { system = later s.system n }) ≡ record s { system = later s.system (n + 1) }
idle_next s n on within =
    let here = record s { system = later s.system n } in
    let begun = counted (later s.system n) in
    let idle = on.idle (omega arith) in
    plain_next here (later s.system (n + 1)) (λ telling. idle_step telling s.system n on)
    (files_still here begun (nobody_calls (later s.system n) idle.running) (none_comes begun (on.quiet n (omega arith))) (nothing_acted begun idle.running)
    (handed_idle s.system (s.system.steps + n + 1) n on.no_completions) on.settled on.none_deferred (still_ahead n s.system.kernel.disk on.passing)
    (idle_within s.system s.files n within))

fewer : (system : System) (n : ℕ) → Idles system (n + 1) → Idles system n
fewer system n on = record {
  idle = λ some. on.idle (omega arith);
  no_completions = on.no_completions;
  settled = on.settled;
  none_deferred = on.none_deferred;
  quiet = λ k below. on.quiet k (omega (arith, below));
  passing = fewer_pass n system.kernel.disk on.passing;
}

after_idle : (n : ℕ) (s : State) → Idles s.system n → AreWithin s.system.kernel.disk.served s.files → after n s ≡ record s { system = later s.system n }
unfolding after
after_idle zero s on within = ap (λ (system : System). record s { system = system }) (later_none s.system)
after_idle (suc n) s on within =
    let on_more : Idles s.system (n + 1) = subst (Idles s.system) (sym (add-one n)) on in
    ap next (after_idle n s (fewer s.system n on_more) within) ∙ idle_next s n on_more within ∙ ap (λ k. record s { system = later s.system k }) (add-one n)

-- what becomes of a state in them
pub idle_state : (n : ℕ) (old new : System) (s : State) → Idles old n → AreWithin old.kernel.disk.served s.files → new ≡ later old n → s.system ≡ old
    → after n s ≡ record s { system = new }
idle_state n old new s on within is same =
    let P : System → Type 0 = λ system. Idles system n × AreWithin system.kernel.disk.served s.files in
    let facts : P s.system = subst P (sym same) (on, within) in
    after_idle n s facts.0 facts.1
    ∙ ap (λ system. record s { system = later system n }) same ∙ ap (λ system. record s { system = system }) (sym is)

whole_later : (system : System) (n : ℕ) → IsWhole system → IsWhole (later system n)
whole_later system n w =
    whole_steps (record system { kernel = with_disk (passed_by n) system.kernel }) (system.steps + n)
    (whole_kernel system _ w (sound_passed_by system.kernel n w.sound) w.live (homes_stay system.kernel _ refl))

pub idle_settled : (n : ℕ) (old new : System) → Idles old n → new ≡ later old n → NobodyAborted new.kernel
idle_settled n old new on is = subst (λ (system : System). NobodyAborted system.kernel) (sym is) on.settled

pub idle_whole : (n : ℕ) (old new : System) → IsWhole old → new ≡ later old n → IsWhole new
idle_whole n old new w is = subst IsWhole (sym is) (whole_later old n w)

pub idle_handed : (n : ℕ) (old new : System) → NoCompletions old → new ≡ later old n → NoCompletions new
idle_handed n old new none is = subst NoCompletions (sym is) (handed_idle old (old.steps + n) n none)
