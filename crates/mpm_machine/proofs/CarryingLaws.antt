-- The call in service as it is carried to its end: the turns that are left to it, its answer, the ends that are then due, and the records.
use Rattle.std.proofs.Common.{◌≡◌, ◌∙◌, ℕ, ◌+◌, Bool, List, [], ◌++◌, Option, Some, None, refl, sym, ap, subst, arith}
use Rattle.std.proofs.lemmas.Option.{same_Some}
use Rattle.std.specs.Prelude.{Result, Ok, Err, IsOk, option_map}
use Rattle.mpm_port.specs.Causes.{HasCause}
use Rattle.mpm_port.specs.Disks.{Disks}
use Rattle.mpm_mount.specs.Drives.{Drive}
use Rattle.mpm_mount.specs.Directories.{Directory}
use Rattle.mpm_service.specs.Ahead.{left_to, turns_left, unserved}
use Rattle.mpm_service.specs.Disk.{DiskService, served_process}
use Rattle.mpm_service.specs.Places.{is_call_of}
use Rattle.mpm_service.specs.declared.service.Served.{Served}
use Rattle.mpm_kernel.specs.Kernel.{Kernel, IsSoundKernel, CompletedLive}
use Rattle.mpm_kernel.specs.Disk.{with_disk}
use Rattle.mpm_kernel.proofs.HomeLaws.{SameHomes, homes_stay}
use Rattle.mpm_render.specs.Outputs.{Output}
use Rattle.mpm_output.specs.Outside.{Outside, TheSink}
use Rattle.mpm_output.specs.Writing.{CameOut, Stopped}
use Rattle.mpm_output.proofs.WritingLaws.{wrote_after, fails_within, fails_before, stopped_cause}
use Rattle.mpm_directories.specs.Direct.{Directly}
use Rattle.mpm_refusals.specs.Filing.{Situation}
use Rattle.mpm_bdos.specs.Jobs.{call_turns}
use Rattle.mpm_bdos.specs.Outcomes.{file_call}
use Rattle.mpm_bdos.specs.Serving.{Kept, StandEach, Serves, filing_of}
use Rattle.mpm_bdos.specs.Turns.{images_of}
use Rattle.mpm_bdos.proofs.ServingLaws.{stand_at_last}
use Rattle.mpm_system.specs.declared.system.System.{System}
use Rattle.mpm_system.specs.Whole.{SystemChange, IsWhole}
use Rattle.mpm_system.specs.Written.{recorded_behind, records_out}
use Rattle.mpm_system.proofs.WholeLaws.{whole_kernel}
use Rattle.mpm_system.proofs.WrittenLaws.{recorded_after}
use Rattle.mpm_machine.specs.After.{EndKeeps}
use Rattle.mpm_machine.specs.Files.{FilesInService, Between, Within, StandsBetween, StandsServed, StandsForFiles, filing_in, all_left, given_back}
use Rattle.mpm_machine.specs.FileCalls.{concluded}
use Rattle.mpm_machine.specs.Due.{with_ends}
use Rattle.mpm_machine.specs.DiskStep.{ready_again, call_over, told_of_call, all_paid}
use Rattle.mpm_machine.specs.Failing.{Working, HaveImages}
use Rattle.mpm_machine.specs.Settling.{turns_passed, over_at_end, ended_at_end, ended_with, files_at_end, carried_out, HasCarried, left_of}
use Rattle.mpm_machine.proofs.WholeLaws.{whole_written}
use Rattle.mpm_machine.proofs.WholeStepLaws.{whole_with_ends}
use Rattle.mpm_machine.proofs.DiskStepLaws.{whole_all_paid}
use Rattle.mpm_machine.proofs.KeepingLaws.{finishing_disk, concluded_serves, ends_serve}
use Rattle.mpm_machine.proofs.TurnLaws.{stands_idle, paid_stands, drives_left}

-- the call in service, with the turns that are left to it
pub record InCall (files : FilesInService) (served : Option Served) (p : ℕ) (kept : Kept) (disks : Disks) : Type 0 where
  pub call : Situation
  pub is : files ≡ Within call
  pub turns : ℕ
  pub left : turns + left_to served ≡ call_turns call
  pub whose : call.caller.process ≡ p
  pub serves : Serves (images_of disks) kept call turns
  pub left_is : left_of files served ≡ Some (record { call = call; ended = turns; most = left_to served })

in_call_of : (files : FilesInService) (served : Option Served) (p : ℕ) (kept : Kept) (disks : Disks) → option_map (λ (call : Served). call.p) served ≡ Some p
    → StandsServed served kept disks files → InCall files served p kept disks
in_call_of files None p kept disks some stands = absurd (cc)
in_call_of (Between filing) (Some call) p kept disks some stands = absurd stands
in_call_of (Within s) (Some call) p kept disks some stands =
    let working : ℕ → Option Working = λ ended. Some (record { call = s; ended = ended; most = call.left }) in
    record {
      call = s;
      is = refl;
      turns = stands.turns;
      left = stands.left;
      whose = sym stands.whose ∙ same_Some call.p p some;
      serves = stands.serves;
      left_is = ap working (omega (arith, stands.left));
    }

pub in_call : (files : FilesInService) (disk : DiskService) (p : ℕ) (kept : Kept) (disks : Disks) → served_process disk ≡ Some p → StandsForFiles disk kept disks files
    → InCall files disk.served p kept disks
unfolding served_process
in_call files disk p kept disks some stands = in_call_of files disk.served p kept disks some stands.stands

pub all_left_turns : (disk : DiskService) → turns_left disk ≡ left_to disk.served
unfolding turns_left
all_left_turns disk = refl

pub whole_unserved : (system : System) (kernel : Kernel) → IsWhole system → kernel ≡ with_disk unserved system.kernel → IsSoundKernel kernel → IsWhole (record system { kernel = kernel })
whole_unserved system kernel w is sound =
    whole_kernel system kernel w sound (subst (λ (k : Kernel). CompletedLive k) (sym is) w.live) (subst (λ (k : Kernel). SameHomes system.kernel k) (sym is) (homes_stay system.kernel _ refl))

pub nobody_left : (kernel : Kernel) → (with_disk unserved kernel).disk.served ≡ None
unfolding unserved
nobody_left kernel = refl

-- after its answer nobody is served

pub over_idle : (told : Directly) (p : ℕ) (system : System) → system.kernel.disk.served ≡ None → (call_over told p system).system.kernel.disk.served ≡ None
unfolding call_over
over_idle told p system none =
    ap (λ (d : DiskService). d.served) (finishing_disk (concluded told p (ready_again p system)).system)
    ∙ (concluded_serves told p (ready_again p system) (ap (is_call_of p) none)).served ∙ none

-- its answer, what is paid, the ends that are due, and the records are the end of the run

ended_records : (told : Directly) (p : ℕ) (before : System)
    → (ended_with told p before).emitted ≡ recorded_behind (ended_at_end told p before).records [] ++ (over_at_end told p before).emitted
unfolding ended_with all_paid
ended_records told p before = recorded_after (ended_at_end told p before).records (over_at_end told p before).emitted

pub ended_system : (told : Directly) (p : ℕ) (before one two three four : System) → one ≡ (over_at_end told p before).system → two ≡ all_paid one
    → three ≡ (records_out (with_ends two)).system → four ≡ all_paid three → four ≡ (ended_with told p before).system
unfolding ended_with ended_at_end all_paid
ended_system told p before one two three four a b c d =
    d ∙ ap (λ (s : System). all_paid s) c ∙ ap (λ (s : System). all_paid (records_out (with_ends s)).system) (b ∙ ap (λ (s : System). all_paid s) a)

-- what is whole stays so
pub whole_at_end : (one two three four : System) → IsWhole one → two ≡ all_paid one → three ≡ (records_out (with_ends two)).system → four ≡ all_paid three → IsWhole four
whole_at_end one two three four w b c d =
    let paid : IsWhole two = subst IsWhole (sym b) (whole_all_paid one w) in
    let ended : IsWhole three = whole_written (with_ends two) three (whole_with_ends two paid) c in
    subst IsWhole (sym d) (whole_all_paid three ended)

pub ended_wrote : (told : Directly) (p : ℕ) (before one two : System) (o m n : Outside) → one ≡ (over_at_end told p before).system → two ≡ all_paid one
    → CameOut o m (over_at_end told p before).emitted → CameOut m n (records_out (with_ends two)).emitted → CameOut o n (ended_with told p before).emitted
unfolding ended_at_end
ended_wrote told p before one two o m n a b first last =
    let two_is = b ∙ ap (λ (s : System). all_paid s) a in
    subst (CameOut o n) (sym (ended_records told p before))
    (wrote_after o m n (over_at_end told p before).emitted (recorded_behind (ended_at_end told p before).records []) first
    (subst (λ (s : System). CameOut m n (records_out (with_ends s)).emitted) two_is last))

pub stopped_first : (told : Directly) (p : ℕ) (before : System) (o n : Outside) → Stopped o n (over_at_end told p before).emitted → Stopped o n (ended_with told p before).emitted
stopped_first told p before o n stopped =
    subst (Stopped o n) (sym (ended_records told p before))
    (fails_before TheSink o n (over_at_end told p before).emitted (recorded_behind (ended_at_end told p before).records []) stopped)

pub stopped_last : (told : Directly) (p : ℕ) (before one two : System) (o m n : Outside) → one ≡ (over_at_end told p before).system → two ≡ all_paid one
    → CameOut o m (over_at_end told p before).emitted → Stopped m n (records_out (with_ends two)).emitted → Stopped o n (ended_with told p before).emitted
unfolding ended_at_end
stopped_last told p before one two o m n a b first last =
    let two_is = b ∙ ap (λ (s : System). all_paid s) a in
    subst (Stopped o n) (sym (ended_records told p before))
    (fails_within TheSink o m n (over_at_end told p before).emitted (recorded_behind (ended_at_end told p before).records []) [] first
    (subst (λ (s : System). Stopped m n (records_out (with_ends s)).emitted) two_is last))

-- so the images stand for what the call leaves on the drives, whether the sink fails or not
pub end_images : (disks : Disks) (kept : Kept) (mounted : List (Option Directory)) (s : Situation) (told : Directly) (before : System)
    → Serves (images_of disks) kept s (call_turns s) → mounted ≡ kept.mounted → HaveImages disks mounted (filing_in (files_at_end told s before)).drives
end_images disks kept mounted s told before serves same =
    let one = (over_at_end told s.caller.process before).system.owed in
    let all = (ended_at_end told s.caller.process before).owed in
    let drives : (all_left all (all_left one (file_call s).filing)).drives ≡ (file_call s).filing.drives =
    drives_left all (all_left one (file_call s).filing) ∙ drives_left one (file_call s).filing in
    record {
      directories = mounted;
      labels = λ number. refl;
      stand = subst (λ (m : List (Option Directory)). StandEach (images_of disks) m (all_left all (all_left one (file_call s).filing)).drives) (sym same)
          (subst (λ (d : List (Option Drive)). StandEach (images_of disks) kept.mounted d) (sym drives) (stand_at_last (images_of disks) kept s serves));
    }

-- what was paid
pub record Pays (system : System) (old new : Kept) : Type 0 where
  pub rest : new ≡ record old { opens = new.opens; marks = new.marks; searches = new.searches }
  pub filing : system.kernel.disk.served ≡ None → (drives : List (Option Drive)) → filing_of new drives ≡ all_left system.owed (filing_of old drives)

paid_in : (system : System) (old new : Kept) (disks : Disks) (files : FilesInService) → Pays system old new → system.kernel.disk.served ≡ None
    → StandsForFiles system.kernel.disk old disks files → StandsForFiles (all_paid system).kernel.disk new disks (given_back system.owed files)
paid_in system old new disks files pays none stands =
    paid_stands system old new disks files stands none pays.rest (λ filing is. pays.filing none filing.drives ∙ ap (all_left system.owed) is)

still_stand : (one other : DiskService) (kept : Kept) (disks : Disks) (files : FilesInService) → one.served ≡ None → other.served ≡ None → StandsForFiles one kept disks files
    → StandsForFiles other kept disks files
still_stand one other kept disks files none same stands =
    record { stands = subst (λ (o : Option Served). StandsServed o kept disks files) (none ∙ sym same) stands.stands }

pub end_stands : (told : Directly) (s : Situation) (before one two three four : System) (first second third : Kept) (disks : Disks)
    → one ≡ (over_at_end told s.caller.process before).system → two ≡ all_paid one → three ≡ (records_out (with_ends two)).system → four ≡ all_paid three
    → StandsBetween first disks (file_call s).filing → Pays one first second → Pays three second third
    → StandsForFiles four.kernel.disk third disks (files_at_end told s before)
unfolding over_at_end ended_at_end all_paid unserved
end_stands told s before one two three four first second third disks a b c d stands paid_first paid_last =
    let p = s.caller.process in
    let idle_one : one.kernel.disk.served ≡ None = ap (λ (x : System). x.kernel.disk.served) a ∙ over_idle told p (turns_passed before) refl in
    let idle_two : two.kernel.disk.served ≡ None = ap (λ (x : System). x.kernel.disk.served) b ∙ idle_one in
    let idle_three : three.kernel.disk.served ≡ None = ap (λ (x : System). x.kernel.disk.served) c ∙ (ends_serve two).served ∙ idle_two in
    let here = paid_in one first second disks (Between (file_call s).filing) paid_first idle_one (stands_idle one.kernel.disk first disks (file_call s).filing idle_one stands) in
    let there = still_stand (all_paid one).kernel.disk three.kernel.disk second disks (given_back one.owed (Between (file_call s).filing)) idle_one idle_three here in
    let last = paid_in three second third disks (given_back one.owed (Between (file_call s).filing)) paid_last idle_three there in
    let P : System → Type 0 = λ x. StandsForFiles x.kernel.disk third disks (given_back three.owed (given_back one.owed (Between (file_call s).filing))) in
    let Q : List Bool → Type 0 = λ owed. StandsForFiles four.kernel.disk third disks (given_back owed (given_back one.owed (Between (file_call s).filing))) in
    let R : System → Type 0 = λ x. StandsForFiles four.kernel.disk third disks (given_back (ended_at_end told p before).owed (given_back x.owed (Between (file_call s).filing))) in
    let owed_three : three.owed ≡ (ended_at_end told p before).owed =
    ap (λ (x : System). x.owed) c ∙ ap (λ (x : System). (with_ends x).owed) (b ∙ ap (λ (x : System). all_paid x) a) in
    subst R a (subst Q owed_three (subst P (sym d) last))

-- all of that, by the parts of the code

abbrev told_last : Situation → System → Directly
told_last s before = told_of_call s s.caller.process before

over_is : (s : Situation) (p : ℕ) (system before : System) → s.caller.process ≡ p → system ≡ turns_passed before
    → call_over (told_of_call s p system) p system ≡ over_at_end (told_last s before) s.caller.process before
unfolding over_at_end
over_is s p system before whose is =
    ap (λ (x : System). call_over (told_of_call s p x) p x) is
    ∙ ap (λ (q : ℕ). call_over (told_of_call s q (turns_passed before)) q (turns_passed before)) (sym whose)

pub carried_stopped_first : (o n : Outside) (disks : Disks) (kept new : Kept) (s : Situation) (p : ℕ) (system before : System) → s.caller.process ≡ p → system ≡ turns_passed before
    → Serves (images_of disks) kept s (call_turns s) → EndKeeps kept new → Stopped o n (call_over (told_of_call s p system) p system).emitted
    → Stopped o n (carried_out s before).change.emitted × HaveImages disks new.mounted (filing_in (carried_out s before).files).drives
unfolding carried_out
carried_stopped_first o n disks kept new s p system before whose is serves keeps stopped =
    let told = told_last s before in (
      stopped_first told s.caller.process before o n (subst (λ (c : SystemChange). Stopped o n c.emitted) (over_is s p system before whose is) stopped),
      end_images disks kept new.mounted s told before serves (ap (λ (k : Kept). k.mounted) keeps),
    )

pub carried_stopped_last : (o m n : Outside) (disks : Disks) (kept new : Kept) (s : Situation) (p : ℕ) (system before one two : System) → s.caller.process ≡ p → system ≡ turns_passed before
    → Serves (images_of disks) kept s (call_turns s) → new.mounted ≡ kept.mounted → one ≡ (call_over (told_of_call s p system) p system).system → two ≡ all_paid one
    → CameOut o m (call_over (told_of_call s p system) p system).emitted → Stopped m n (records_out (with_ends two)).emitted
    → Stopped o n (carried_out s before).change.emitted × HaveImages disks new.mounted (filing_in (carried_out s before).files).drives
unfolding carried_out
carried_stopped_last o m n disks kept new s p system before one two whose is serves same a b wrote stopped =
    let told = told_last s before in
    let over = over_is s p system before whose is in (
      stopped_last told s.caller.process before one two o m n (a ∙ ap (λ (c : SystemChange). c.system) over) b (subst (λ (c : SystemChange). CameOut o m c.emitted) over wrote) stopped,
      end_images disks kept new.mounted s told before serves same,
    )

pub carried_all : (o m n : Outside) (disks : Disks) (first second third : Kept) (s : Situation) (p : ℕ) (system before one two three four : System) → s.caller.process ≡ p
    → system ≡ turns_passed before → one ≡ (call_over (told_of_call s p system) p system).system → two ≡ all_paid one → three ≡ (records_out (with_ends two)).system → four ≡ all_paid three
    → CameOut o m (call_over (told_of_call s p system) p system).emitted → CameOut m n (records_out (with_ends two)).emitted
    → StandsBetween first disks (file_call s).filing → Pays one first second → Pays three second third → HasCarried (Within s) o n before four third disks
unfolding carried_out
carried_all o m n disks first second third s p system before one two three four whose is a b c d wrote records stands paid_first paid_last =
    let told = told_last s before in
    let over = over_is s p system before whose is in
    let one_is = a ∙ ap (λ (x : SystemChange). x.system) over in
    record {
      system = ended_system told s.caller.process before one two three four one_is b c d;
      wrote = ended_wrote told s.caller.process before one two o m n one_is b (subst (λ (x : SystemChange). CameOut o m x.emitted) over wrote) records;
      stands = end_stands told s before one two three four first second third disks one_is b c d stands paid_first paid_last;
    }

pub never_both : {A E : Type 0} (r : Result A E) (e : E) (P : Type 0) → r ≡ Err e → IsOk r → P
never_both (Ok x) e P is ok = absurd (cc)
never_both (Err f) e P is ok = absurd (cc)

-- what is kept besides
pub keeps_by : (old new : Kept) → new.mounted ≡ old.mounted → new.cached ≡ old.cached → EndKeeps old new
keeps_by old new mounted cached = λ i. record new { mounted = mounted i; cached = cached i }

pub keeps_paid : (old between new : Kept) → EndKeeps old between → new ≡ record between { opens = new.opens; marks = new.marks; searches = new.searches } → EndKeeps old new
keeps_paid old between new keeps rest =
    keeps_by old new (ap (λ (k : Kept). k.mounted) rest ∙ ap (λ (k : Kept). k.mounted) keeps) (ap (λ (k : Kept). k.cached) rest ∙ ap (λ (k : Kept). k.cached) keeps)

-- and why it stopped
pub stopped_behind : (A E : Type 0) (e : E) (old : ℕ) (m n : Outside) (emitted : List Output) → m.faults.sink ≡ old → Stopped m n emitted → HasCause {A = A} old n.faults.sink (Err e)
stopped_behind A E e old m n emitted same stopped = subst (λ (k : ℕ). HasCause {A = A} k n.faults.sink (Err e)) same (stopped_cause e m n emitted stopped)
