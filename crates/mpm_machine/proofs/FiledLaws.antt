-- What the step of a file call leaves of memory: each byte that isn't of its reply, or of one to a held call that is completed.
use Rattle.std.proofs.Common.{◌≡◌, ◌∙◌, ℕ, ◌<◌, ◌≤◌, Bool, true, false, not, ◌&&◌, ◌==◌, ◌||◌, Option, Some, None, IfSome, inl, inr, refl, sym, ap, subst, arith}
use Rattle.std.proofs.lemmas.Bool.{cases_eq, or_right, and_parts}
use Rattle.std.specs.Prelude.{is_some, option_and_then, ◌⊎◌}
use Rattle.mpm_base.proofs.Choices.{either}
use Rattle.mpm_base.specs.Calls.{Answer}
use Rattle.mpm_banks.specs.Memory.{Memory, byte_at}
use Rattle.mpm_banks.proofs.SegmentLaws.{reads_alike}
use Rattle.mpm_gate.specs.Replies.{placed}
use Rattle.mpm_gate.proofs.ReplyLaws.{others_keep, segments_keep, common_keeps}
use Rattle.mpm_procs.specs.Table.{Table, Lives, process_in, call_of}
use Rattle.mpm_procs.specs.declared.process.Process.{Process}
use Rattle.mpm_procs.proofs.MapLaws.{lives_below, process_changed}
use Rattle.mpm_dispatcher.specs.Dispatch.{IsReady}
use Rattle.mpm_service.specs.Disk.{served_process, turn_answer}
use Rattle.mpm_service.specs.declared.service.Turn.{Turn}
use Rattle.mpm_service.specs.declared.service.Turn.TheVariants.{Idle, Passing, Work, Starts}
use Rattle.mpm_kernel.specs.Disk.{IsOver}
use Rattle.mpm_kernel.proofs.DiskLaws.{over_turned}
use Rattle.mpm_kernel.specs.Kernel.{with_changed}
use Rattle.mpm_kernel.proofs.HomeLaws.{procs_spoke}
use Rattle.mpm_kernel.proofs.SoundLaws.{runner_lives}
use Rattle.mpm_residents.specs.declared.native.Native.{Native}
use Rattle.mpm_residents.specs.Natives.{native_in}
use Rattle.mpm_output.specs.Texts.{error_text}
use Rattle.mpm_file_functions.specs.declared.refusals.Extended.{Extended}
use Rattle.mpm_directories.specs.Direct.{CallerChange, Stays, Selects, Resets, Directly}
use Rattle.mpm_system.specs.declared.system.System.{System}
use Rattle.mpm_system.specs.Whole.{SystemChange, IsWhole, speaking}
use Rattle.mpm_system.specs.Taking.{keeping}
use Rattle.mpm_system.specs.Answering.{popped, answering_call, recorded, replied}
use Rattle.mpm_system.specs.Residents.{asked_by}
use Rattle.mpm_system.specs.Coming.{coming, counted}
use Rattle.mpm_system.specs.FileCalling.{made_by, call_made, first_dma, with_caller, reply_by, file_replied, error_told}
use Rattle.mpm_machine.specs.Ending.{ended}
use Rattle.mpm_machine.specs.Finishing.{all_answered}
use Rattle.mpm_machine.specs.FileCalls.{calls_files, file_caller_by, file_caller, told_then, error_met, answered_by, concluded}
use Rattle.mpm_machine.specs.DiskStep.{is_done_at_once, file_called, ready_again, step_passed, call_over, over_after, served_by, disk_served, over_by, process_over, all_paid, entered_by, entered_unless, call_entered}
use Rattle.mpm_machine.specs.Stepping.{Telling, begun_alone, begun_with, begun_as, paid_after, entered_after, ended_after, rest_of, step_with}
use Rattle.mpm_machine.specs.Contained.{is_answered, AnswersFileCall, AnswersOne, IsWrittenBy, IsOverBy, IsAnsweredIn, IsContainedBy}
use Rattle.mpm_machine.proofs.WholeStepLaws.{whole_counted, whole_after_begun, whole_all_answered}
use Rattle.mpm_machine.proofs.FileLaws.{makes, whole_caller, whole_concluded}
use Rattle.mpm_machine.proofs.DiskStepLaws.{whole_file_called, whole_passed, whole_ready_again}
use Rattle.mpm_machine.proofs.RestLaws.{whole_entered_after}
use Rattle.mpm_machine.proofs.Containment.{ended_alike, begun_segments, begun_common, answered_segments, answered_common, answers_segments, answers_common, ending_segments, ending_common}

-- the call is made, which writes nothing
made_memory : (seg : Option ℕ) (native : Option Native) (p : ℕ) (system : System) → native_in system.residents p ≡ native
    → (made_by seg p system).memory ≡ system.memory
unfolding keeping popped
made_memory (Some seg) native p system here = refl
made_memory None None p system here = ap (λ o. (asked_by o p system).memory) here
made_memory None (Some native) p system here = ap (λ o. (asked_by o p system).memory) here

pub call_memory : (p : ℕ) (system : System) → (call_made p system).memory ≡ system.memory
unfolding call_made
call_memory p system = made_memory (process_in system.kernel.dispatcher.procs p).seg _ p (counted system) refl

-- its caller's drive and DMA address change, and neither its segment nor its error mode nor its call
record Same (p : ℕ) (old new : System) : Type 0 where
  pub memory : new.memory ≡ old.memory
  pub home : (process_in new.kernel.dispatcher.procs p).seg ≡ (process_in old.kernel.dispatcher.procs p).seg
  pub mode : (process_in new.kernel.dispatcher.procs p).error_mode ≡ (process_in old.kernel.dispatcher.procs p).error_mode
  pub word : (call_of new.kernel.dispatcher.procs p).word ≡ (call_of old.kernel.dispatcher.procs p).word

same_placed : (p drive dma : ℕ) (system : System) → IsWhole system → Lives system.kernel.dispatcher.procs p
    → (process_in (with_changed system.kernel p (record (process_in system.kernel.dispatcher.procs p) { drive = drive; dma = dma })).dispatcher.procs p)
    ≡ record (process_in system.kernel.dispatcher.procs p) { drive = drive; dma = dma }
same_placed p drive dma system w h =
    process_changed system.kernel.dispatcher.procs p _ (omega (arith, w.sound.slots.processes, lives_below system.kernel.dispatcher.procs p w.sound.slots h))

caller_same : (change : CallerChange) (p : ℕ) (system : System) → IsWhole system → Lives system.kernel.dispatcher.procs p
    → Same p system (with_caller change p system)
unfolding with_caller
caller_same Stays p system w h = record { memory = refl; home = refl; mode = refl; word = refl }
caller_same (Selects drive) p system w h =
    let is = same_placed p drive (process_in system.kernel.dispatcher.procs p).dma system w h in
    record {
      memory = refl;
      home = ap (λ (x : Process). x.seg) is;
      mode = ap (λ (x : Process). x.error_mode) is;
      word = ap (λ call. call.word) (whole_caller (Selects drive) p system w h).call;
    }
caller_same Resets p system w h =
    let is = same_placed p 0 (first_dma system.memory (process_in system.kernel.dispatcher.procs p).seg) system w h in
    record {
      memory = refl;
      home = ap (λ (x : Process). x.seg) is;
      mode = ap (λ (x : Process). x.error_mode) is;
      word = ap (λ call. call.word) (whole_caller Resets p system w h).call;
    }

-- a byte stays where the reply leaves it
abbrev IsLeft : Answer → Option ℕ → ℕ → Memory → ℕ → ℕ → Type 0
IsLeft reply home word memory seg at =
    (own : ℕ) → home ≡ Some own → byte_at (placed reply word own memory) seg at ≡ byte_at memory seg at

reply_leaves : (home : Option ℕ) (reply : Answer) (p : ℕ) (system : System) (seg at : ℕ)
    → IsLeft reply home (call_of system.kernel.dispatcher.procs p).word system.memory seg at
    → byte_at (reply_by home reply p system).memory seg at ≡ byte_at system.memory seg at
unfolding answering_call recorded replied
reply_leaves (Some own) reply p system seg at left = left own refl
reply_leaves None reply p system seg at left = refl

abbrev IsLeftBy : Answer → ℕ → Table → Memory → ℕ → ℕ → Type 0
IsLeftBy reply p procs memory seg at = IsLeft reply (process_in procs p).seg (call_of procs p).word memory seg at

replied_leaves : (reply : Answer) (p : ℕ) (system : System) (seg at : ℕ) → IsLeftBy reply p system.kernel.dispatcher.procs system.memory seg at
    → byte_at (file_replied reply p system).memory seg at ≡ byte_at system.memory seg at
unfolding file_replied
replied_leaves reply p system seg at left = reply_leaves (process_in system.kernel.dispatcher.procs p).seg reply p system seg at left

told_leaves : (error : Extended) (reply : Answer) (p : ℕ) (system : System) (seg at : ℕ) → IsLeftBy reply p system.kernel.dispatcher.procs system.memory seg at
    → byte_at (file_replied reply p (error_told error p system).system).memory seg at ≡ byte_at system.memory seg at
unfolding error_told speaking
told_leaves error reply p system seg at left =
    let same = procs_spoke system.kernel (process_in system.kernel.dispatcher.procs p).console (error_text error.code error.drive) in
    let P : Table → Type 0 = λ procs. IsLeftBy reply p procs system.memory seg at in
    replied_leaves reply p (speaking (process_in system.kernel.dispatcher.procs p).console (error_text error.code error.drive) system).system seg at (subst P (sym same) left)

ended_leaves : (error : Extended) (p : ℕ) (system : System) (seg at : ℕ)
    → byte_at (ended p (error_told error p system).system).memory seg at ≡ byte_at system.memory seg at
unfolding error_told speaking
ended_leaves error p system seg at = reads_alike system.memory _ (ended_alike p _) seg at

told_then_leaves : (answers : Bool) (error : Extended) (reply : Answer) (p : ℕ) (system : System) (seg at : ℕ)
    → (answers ≡ true → IsLeftBy reply p system.kernel.dispatcher.procs system.memory seg at)
    → byte_at (told_then answers error reply p system).system.memory seg at ≡ byte_at system.memory seg at
unfolding told_then
told_then_leaves true error reply p system seg at left = told_leaves error reply p system seg at (left refl)
told_then_leaves false error reply p system seg at left = ended_leaves error p system seg at

met_leaves : (error : Extended) (reply : Answer) (p : ℕ) (system : System) (seg at : ℕ)
    → (is_answered (Some error) (process_in system.kernel.dispatcher.procs p).error_mode ≡ true → IsLeftBy reply p system.kernel.dispatcher.procs system.memory seg at)
    → byte_at (error_met error reply p system).system.memory seg at ≡ byte_at system.memory seg at
unfolding error_met
met_leaves error reply p system seg at left =
    let mode = (process_in system.kernel.dispatcher.procs p).error_mode in
    either (λ (c : SystemChange). byte_at c.system.memory seg at ≡ byte_at system.memory seg at) (mode == 255) _ _
    (λ answers. replied_leaves reply p system seg at (left (ap (λ b. b || (mode == 254)) answers)))
    (λ _. told_then_leaves (mode == 254) error reply p system seg at (λ tells. left (or_right (mode == 255) (mode == 254) tells)))

answered_leaves : (error : Option Extended) (reply : Answer) (p : ℕ) (system : System) (seg at : ℕ)
    → (is_answered error (process_in system.kernel.dispatcher.procs p).error_mode ≡ true → IsLeftBy reply p system.kernel.dispatcher.procs system.memory seg at)
    → byte_at (answered_by error reply p system).system.memory seg at ≡ byte_at system.memory seg at
answered_leaves None reply p system seg at left = replied_leaves reply p system seg at (left refl)
answered_leaves (Some error) reply p system seg at left = met_leaves error reply p system seg at left

concluded_leaves : (told : Directly) (p : ℕ) (system : System) (seg at : ℕ) → IsWhole system → Lives system.kernel.dispatcher.procs p
    → (is_answered told.extended (process_in system.kernel.dispatcher.procs p).error_mode ≡ true → IsLeftBy told.answer p system.kernel.dispatcher.procs system.memory seg at)
    → byte_at (concluded told p system).system.memory seg at ≡ byte_at system.memory seg at
unfolding concluded
concluded_leaves told p system seg at w h left =
    let afterwards = with_caller told.caller p system in
    let same = caller_same told.caller p system w h in
    let procs = afterwards.kernel.dispatcher.procs in
    answered_leaves told.extended told.answer p afterwards seg at (λ answers own there.
    let was : is_answered told.extended (process_in system.kernel.dispatcher.procs p).error_mode ≡ true = ap (is_answered told.extended) (sym same.mode) ∙ answers in
    let before : byte_at (placed told.answer (call_of system.kernel.dispatcher.procs p).word own system.memory) seg at ≡ byte_at system.memory seg at =
    left was own (sym same.home ∙ there) in
    ap (λ word. byte_at (placed told.answer word own afterwards.memory) seg at) same.word
    ∙ ap (λ memory. byte_at (placed told.answer (call_of system.kernel.dispatcher.procs p).word own memory) seg at) same.memory
    ∙ before
    ∙ ap (λ memory. byte_at memory seg at) (sym same.memory))
    ∙ ap (λ memory. byte_at memory seg at) same.memory

-- the segments of others, and the bytes that it doesn't write

left_of_segment : (told : Directly) (p : ℕ) (system : System) (seg at : ℕ) → at < 49152 → (AnswersFileCall told p system seg at → ⊥)
    → is_answered told.extended (process_in system.kernel.dispatcher.procs p).error_mode ≡ true
    → IsLeftBy told.answer p system.kernel.dispatcher.procs system.memory seg at
left_of_segment told p system seg at below none answers = λ own there. elim (cases_eq seg own) [
  | inl same ↦
      let never : AnswersFileCall told p system own at → ⊥ = subst (λ s. AnswersFileCall told p system s at → ⊥) same none in
      let afterwards = placed told.answer (call_of system.kernel.dispatcher.procs p).word own system.memory in
      subst (λ s. byte_at afterwards s at ≡ byte_at system.memory s at) (sym same)
      (others_keep _ _ own system.memory at (λ places. never (record { home = there; answers = answers; places = places })))
  | inr other ↦ segments_keep _ _ own system.memory seg at other below
]

left_of_common : (told : Directly) (p : ℕ) (system : System) (seg at : ℕ) → 49152 ≤ at → ((home : ℕ) → AnswersFileCall told p system home at → ⊥)
    → is_answered told.extended (process_in system.kernel.dispatcher.procs p).error_mode ≡ true
    → IsLeftBy told.answer p system.kernel.dispatcher.procs system.memory seg at
left_of_common told p system seg at above none answers = λ own there.
    common_keeps _ _ own system.memory seg at above (λ places. none own (record { home = there; answers = answers; places = places }))

-- who makes a file call lives

caller_runs : (comes : Bool) (running : Option ℕ) (system : System) → IfSome (file_caller_by comes running system) (λ p. running ≡ Some p)
caller_runs comes None system = tt
caller_runs comes (Some p) system =
    either (λ (o : Option ℕ). IfSome o (λ q. Some p ≡ Some q)) (calls_files p system && not comes) _ _ (λ _. refl) (λ _. tt)

lives_by : (caller : Option ℕ) (system : System) → IsWhole system → IfSome caller (λ p. system.kernel.dispatcher.running ≡ Some p)
    → IfSome caller (λ p. Lives system.kernel.dispatcher.procs p)
lives_by None system w runs = tt
lives_by (Some p) system w runs = runner_lives system.kernel p w.sound runs

pub caller_lives : (system : System) → IsWhole system → IfSome (file_caller system) (λ p. Lives system.kernel.dispatcher.procs p)
unfolding file_caller
caller_lives system w =
    let comes = is_some (coming (counted system)) in
    lives_by (file_caller_by comes system.kernel.dispatcher.running system) system w (caller_runs comes system.kernel.dispatcher.running system)

ready_by : (caller : Option ℕ) (system : System) → IsWhole system → IfSome caller (λ p. system.kernel.dispatcher.running ≡ Some p)
    → IfSome caller (λ p. IsReady system.kernel.dispatcher p)
ready_by None system w runs = tt
ready_by (Some p) system w runs = w.sound.runs p runs

pub caller_ready : (system : System) → IsWhole system → IfSome (file_caller system) (λ p. IsReady system.kernel.dispatcher p)
unfolding file_caller
caller_ready system w =
    let comes = is_some (coming (counted system)) in
    ready_by (file_caller_by comes system.kernel.dispatcher.running system) system w (caller_runs comes system.kernel.dispatcher.running system)

file_calls : (comes : Bool) (running : Option ℕ) (system : System) → IfSome (file_caller_by comes running system) (λ p. calls_files p system ≡ true)
file_calls comes None system = tt
file_calls comes (Some p) system =
    either (λ (o : Option ℕ). IfSome o (λ q. calls_files q system ≡ true)) (calls_files p system && not comes) (Some p) None (λ is. (and_parts (calls_files p system) _ is).0) (λ _. tt)

pub caller_files : (system : System) → IfSome (file_caller system) (λ p. calls_files p system ≡ true)
unfolding file_caller
caller_files system = file_calls (is_some (coming (counted system))) system.kernel.dispatcher.running system

-- what a step begins with, and the held calls that this completed

pub whole_begun_with : (caller : Option ℕ) (told : Directly) (system : System) → IsWhole system → IfSome caller (λ p. Lives system.kernel.dispatcher.procs p)
    → IfSome caller (λ p. IsReady system.kernel.dispatcher p) → IsWhole (begun_with caller told system).system
whole_begun_with None told system w h ready = whole_after_begun (counted system) (begun_alone system).system (whole_counted system w) refl
whole_begun_with (Some p) told system w h ready =
    let made = makes p system w h in whole_file_called told p (call_made p system) made.whole made.lives (made.ready ready)

pub whole_begun : (told : Directly) (system : System) → IsWhole system → IsWhole (begun_with (file_caller system) told system).system
whole_begun told system w = whole_begun_with (file_caller system) told system w (caller_lives system w) (caller_ready system w)

pub whole_begun_as : (told : Directly) (system : System) → IsWhole system → IsWhole (begun_as told system).system
unfolding begun_as
whole_begun_as told system w = whole_all_answered (begun_with (file_caller system) told system).system _ (whole_begun told system w) refl

called_segments : (told : Directly) (p : ℕ) (made : System) (seg at : ℕ) → IsWhole made → Lives made.kernel.dispatcher.procs p → at < 49152
    → ((is_done_at_once p made ≡ true) × AnswersFileCall told p made seg at → ⊥) → byte_at (file_called told p made).system.memory seg at ≡ byte_at made.memory seg at
unfolding file_called
called_segments told p made seg at w h below none =
    either (λ (c : SystemChange). byte_at c.system.memory seg at ≡ byte_at made.memory seg at) (is_done_at_once p made) _ _
    (λ once. concluded_leaves told p made seg at w h (left_of_segment told p made seg at below (λ filed. none (once, filed))))
    (λ _. refl)

called_common : (told : Directly) (p : ℕ) (made : System) (seg at : ℕ) → IsWhole made → Lives made.kernel.dispatcher.procs p → 49152 ≤ at
    → ((home : ℕ) → (is_done_at_once p made ≡ true) × AnswersFileCall told p made home at → ⊥) → byte_at (file_called told p made).system.memory seg at ≡ byte_at made.memory seg at
unfolding file_called
called_common told p made seg at w h above none =
    either (λ (c : SystemChange). byte_at c.system.memory seg at ≡ byte_at made.memory seg at) (is_done_at_once p made) _ _
    (λ once. concluded_leaves told p made seg at w h (left_of_common told p made seg at above (λ home filed. none home (once, filed))))
    (λ _. refl)

first_segments : (caller : Option ℕ) (told : Directly) (system : System) (seg at : ℕ) → IsWhole system → IfSome caller (λ p. Lives system.kernel.dispatcher.procs p)
    → at < 49152 → (IsWrittenBy caller told system seg at → ⊥) → byte_at (begun_with caller told system).system.memory seg at ≡ byte_at system.memory seg at
first_segments None told system seg at w h below unwritten = begun_segments system seg at w below (λ here. unwritten (inl here)) (λ here. unwritten (inr here))
first_segments (Some p) told system seg at w h below unwritten =
    let made = makes p system w h in
    called_segments told p (call_made p system) seg at made.whole made.lives below unwritten ∙ ap (λ memory. byte_at memory seg at) (call_memory p system)

first_common : (caller : Option ℕ) (told : Directly) (system : System) (seg at : ℕ) → IsWhole system → IfSome caller (λ p. Lives system.kernel.dispatcher.procs p)
    → 49152 ≤ at → ((home : ℕ) → IsWrittenBy caller told system home at → ⊥) → byte_at (begun_with caller told system).system.memory seg at ≡ byte_at system.memory seg at
first_common None told system seg at w h above unwritten =
    begun_common system seg at w above (λ home here. unwritten home (inl here)) (λ home here. unwritten home (inr here))
first_common (Some p) told system seg at w h above unwritten =
    let made = makes p system w h in
    called_common told p (call_made p system) seg at made.whole made.lives above unwritten ∙ ap (λ memory. byte_at memory seg at) (call_memory p system)

-- the disk's step: a call that is over
over_segments : (told : Directly) (p : ℕ) (passed : System) (seg at : ℕ) → IsWhole passed → IsOver p passed.kernel → at < 49152
    → (AnswersFileCall told p (ready_again p passed) seg at ⊎ AnswersOne (concluded told p (ready_again p passed)).system seg at → ⊥)
    → byte_at (call_over told p passed).system.memory seg at ≡ byte_at passed.memory seg at
unfolding call_over
over_segments told p passed seg at w over below none =
    let again = ready_again p passed in
    let ready = whole_ready_again p passed w over in
    answers_segments (concluded told p again).system seg at (whole_concluded told p again ready over.lives) below (λ later. none (inr later))
    ∙ concluded_leaves told p again seg at ready over.lives (left_of_segment told p again seg at below (λ filed. none (inl filed)))

over_common : (told : Directly) (p : ℕ) (passed : System) (seg at : ℕ) → IsWhole passed → IsOver p passed.kernel → 49152 ≤ at
    → ((home : ℕ) → AnswersFileCall told p (ready_again p passed) home at ⊎ AnswersOne (concluded told p (ready_again p passed)).system home at → ⊥)
    → byte_at (call_over told p passed).system.memory seg at ≡ byte_at passed.memory seg at
unfolding call_over
over_common told p passed seg at w over above none =
    let again = ready_again p passed in
    let ready = whole_ready_again p passed w over in
    answers_common (concluded told p again).system seg at (whole_concluded told p again ready over.lives) above (λ home later. none home (inr later))
    ∙ concluded_leaves told p again seg at ready over.lives (left_of_common told p again seg at above (λ home filed. none home (inl filed)))

after_segments : (turn : Turn) (told : Directly) (system : System) (seg at : ℕ) → IsWhole (step_passed system) → ((p : ℕ) → turn ≡ Work p true → IsOver p (step_passed system).kernel)
    → at < 49152 → (IsOverBy (over_by turn) told system seg at → ⊥) → byte_at (over_after turn told (step_passed system)).system.memory seg at ≡ byte_at system.memory seg at
after_segments Idle told system seg at w over below none = refl
after_segments Passing told system seg at w over below none = refl
after_segments (Starts p) told system seg at w over below none = refl
after_segments (Work p true) told system seg at w over below none = over_segments told p (step_passed system) seg at w (over p refl) below none
after_segments (Work p false) told system seg at w over below none = refl

after_common : (turn : Turn) (told : Directly) (system : System) (seg at : ℕ) → IsWhole (step_passed system) → ((p : ℕ) → turn ≡ Work p true → IsOver p (step_passed system).kernel)
    → 49152 ≤ at → ((home : ℕ) → IsOverBy (over_by turn) told system home at → ⊥) → byte_at (over_after turn told (step_passed system)).system.memory seg at ≡ byte_at system.memory seg at
after_common Idle told system seg at w over above none = refl
after_common Passing told system seg at w over above none = refl
after_common (Starts p) told system seg at w over above none = refl
after_common (Work p true) told system seg at w over above none = over_common told p (step_passed system) seg at w (over p refl) above none
after_common (Work p false) told system seg at w over above none = refl

served_segments : (served : Option ℕ) (told : Directly) (system : System) (seg at : ℕ) → IsWhole system → at < 49152
    → (IsOverBy (option_and_then (λ p. over_by (turn_answer system.kernel.disk)) served) told system seg at → ⊥)
    → byte_at (served_by served told system).system.memory seg at ≡ byte_at system.memory seg at
served_segments None told system seg at w below none = refl
served_segments (Some p) told system seg at w below none =
    after_segments (turn_answer system.kernel.disk) told system seg at (whole_passed system w) (λ q last. over_turned system.kernel q w.sound last) below none

served_common : (served : Option ℕ) (told : Directly) (system : System) (seg at : ℕ) → IsWhole system → 49152 ≤ at
    → ((home : ℕ) → IsOverBy (option_and_then (λ p. over_by (turn_answer system.kernel.disk)) served) told system home at → ⊥)
    → byte_at (served_by served told system).system.memory seg at ≡ byte_at system.memory seg at
served_common None told system seg at w above none = refl
served_common (Some p) told system seg at w above none =
    after_common (turn_answer system.kernel.disk) told system seg at (whole_passed system w) (λ q last. over_turned system.kernel q w.sound last) above none

disk_segments : (told : Directly) (system : System) (seg at : ℕ) → IsWhole system → at < 49152 → (IsOverBy (process_over system) told system seg at → ⊥)
    → byte_at (disk_served told system).system.memory seg at ≡ byte_at system.memory seg at
unfolding disk_served process_over
disk_segments told system seg at w below none = served_segments (served_process system.kernel.disk) told system seg at w below none

disk_common : (told : Directly) (system : System) (seg at : ℕ) → IsWhole system → 49152 ≤ at → ((home : ℕ) → IsOverBy (process_over system) told system home at → ⊥)
    → byte_at (disk_served told system).system.memory seg at ≡ byte_at system.memory seg at
unfolding disk_served process_over
disk_common told system seg at w above none = served_common (served_process system.kernel.disk) told system seg at w above none

entered_by_memory : (turn : Turn) (turns : ℕ) (system : System) → (entered_by turn turns system).memory ≡ system.memory
entered_by_memory Idle turns system = refl
entered_by_memory Passing turns system = refl
entered_by_memory (Work p last) turns system = refl
entered_by_memory (Starts p) turns system = refl

entered_unless_memory : (served : Option ℕ) (turns : ℕ) (system : System) → (entered_unless served turns system).memory ≡ system.memory
entered_unless_memory (Some p) turns system = refl
entered_unless_memory None turns system = entered_by_memory (turn_answer system.kernel.disk) turns (step_passed system)

entered_memory : (telling : Telling) (system : System) → (entered_after telling system).memory ≡ (disk_served telling.at_disk system).system.memory
unfolding entered_after call_entered all_paid
entered_memory telling system =
    let paid = paid_after telling.at_disk system in
    entered_unless_memory (served_process paid.kernel.disk) telling.turns paid

-- the step

step_segments : (telling : Telling) (system : System) (seg at : ℕ) → IsWhole system → at < 49152 → (IsWrittenBy (file_caller system) telling.at_gate system seg at → ⊥)
    → (IsAnsweredIn telling system seg at → ⊥) → byte_at (step_with telling system).system.memory seg at ≡ byte_at system.memory seg at
unfolding step_with rest_of ended_after all_paid begun_as IsAnsweredIn
step_segments telling system seg at w below unwritten unanswered =
    let begun = (begun_with (file_caller system) telling.at_gate system).system in
    let answered = all_answered begun in
    let whole = whole_all_answered begun answered (whole_begun telling.at_gate system w) refl in
    ending_segments (entered_after telling answered) seg at (whole_entered_after telling answered whole) below (λ ends. unanswered (inr (inr ends)))
    ∙ ap (λ memory. byte_at memory seg at) (entered_memory telling answered)
    ∙ disk_segments telling.at_disk answered seg at whole below (λ over. unanswered (inr (inl over)))
    ∙ answered_segments begun seg at (whole_begun telling.at_gate system w) below (λ answers. unanswered (inl answers))
    ∙ first_segments (file_caller system) telling.at_gate system seg at w (caller_lives system w) below unwritten

step_common : (telling : Telling) (system : System) (seg at : ℕ) → IsWhole system → 49152 ≤ at
    → ((home : ℕ) → IsWrittenBy (file_caller system) telling.at_gate system home at → ⊥)
    → ((home : ℕ) → IsAnsweredIn telling system home at → ⊥) → byte_at (step_with telling system).system.memory seg at ≡ byte_at system.memory seg at
unfolding step_with rest_of ended_after all_paid begun_as IsAnsweredIn
step_common telling system seg at w above unwritten unanswered =
    let begun = (begun_with (file_caller system) telling.at_gate system).system in
    let answered = all_answered begun in
    let whole = whole_all_answered begun answered (whole_begun telling.at_gate system w) refl in
    ending_common (entered_after telling answered) seg at (whole_entered_after telling answered whole) above (λ home ends. unanswered home (inr (inr ends)))
    ∙ ap (λ memory. byte_at memory seg at) (entered_memory telling answered)
    ∙ disk_common telling.at_disk answered seg at whole above (λ home over. unanswered home (inr (inl over)))
    ∙ answered_common begun seg at (whole_begun telling.at_gate system w) above (λ home answers. unanswered home (inl answers))
    ∙ first_common (file_caller system) telling.at_gate system seg at w (caller_lives system w) above unwritten

pub contained_by : (telling : Telling) (system : System) → IsWhole system → IsContainedBy telling system (step_with telling system).system
contained_by telling system w = record {
  segments = λ seg at below unwritten unanswered. step_segments telling system seg at w below unwritten unanswered;
  common = λ seg at above unwritten unanswered. step_common telling system seg at w above unwritten unanswered;
}
