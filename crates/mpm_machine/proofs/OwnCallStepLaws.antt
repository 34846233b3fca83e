-- The step that is nothing but a call that concerns its caller alone.
use Rattle.std.proofs.Common.{◌≡◌, ◌∙◌, ℕ, ◌+◌, ◌-◌, ◌*◌, ◌<◌, true, false, not, ◌&&◌, if◌then◌else◌, List, [], ◌∷◌, ◌++◌, Option, Some, None, IfSome, is_some, option_map, refl, sym, ap, subst, arith, Bool}
use Rattle.mpm_port.specs.Disks.{Disks}
use Rattle.mpm_base.specs.Calls.{answering, Taken, Answer}
use Rattle.mpm_ready.specs.Order.{first_of}
use Rattle.mpm_ready.specs.Tables.{list_at}
use Rattle.mpm_procs.specs.Table.{process_in, Lives, call_of, with_process}
use Rattle.mpm_interrupts.specs.Interrupts.{due}
use Rattle.mpm_banks.specs.Memory.{Memory, byte_at}
use Rattle.mpm_banks.specs.Gates.{last_page, call_gate}
use Rattle.mpm_gate.proofs.GateLaws.{calls_there}
use Rattle.mpm_gate.specs.Replies.{answered, returned}
use Rattle.mpm_gate.specs.declared.gate.Gate.{Gate}
use Rattle.mpm_dispatcher.specs.Dispatch.{ready, first_completed}
use Rattle.mpm_service.specs.declared.service.Served.{Served}
use Rattle.mpm_service.specs.Disk.{DiskService, turned, turn_answer}
use Rattle.mpm_service.specs.Ahead.{passed_on, passed_by}
use Rattle.mpm_kernel.specs.Kernel.{Kernel, with_changed}
use Rattle.mpm_kernel.specs.Called.{Called, valued}
use Rattle.mpm_kernel.specs.Calls.{call_done}
use Rattle.mpm_kernel.proofs.SoundLaws.{runner_lives}
use Rattle.mpm_kernel.proofs.Beside.{field_kept}
use Rattle.mpm_render.specs.Completions.{Completion}
use Rattle.mpm_render.specs.Outputs.{Output, Completed}
use Rattle.mpm_render.proofs.Laws.{pending_completed, rendered_unasked}
use Rattle.mpm_output.specs.Outside.{Outside}
use Rattle.mpm_output.specs.Writing.{CameOut}
use Rattle.mpm_directories.specs.Direct.{Directly}
use Rattle.mpm_bdos.specs.Serving.{Kept}
use Rattle.mpm_procs.specs.declared.process.Process.{Process}
use Rattle.mpm_procs.proofs.MapLaws.{lives_changed}
use Rattle.mpm_system.specs.Procedures.{is_inside}
use Rattle.mpm_system.specs.declared.system.System.{System}
use Rattle.mpm_system.specs.Whole.{SystemChange, IsWhole, NobodyAborted, silent}
use Rattle.mpm_system.specs.Taking.{asked, keeping}
use Rattle.mpm_system.specs.Answering.{popped, replied, recorded, completion, answering_call}
use Rattle.mpm_system.specs.Coming.{coming, counted}
use Rattle.mpm_system.specs.Written.{with_records, records_out, recorded_behind}
use Rattle.mpm_system.specs.Idling.{CanPass}
use Rattle.mpm_system.specs.OwnCalls.{is_own}
use Rattle.mpm_system.proofs.WholeLaws.{keeps_call}
use Rattle.mpm_system.proofs.IdlingLaws.{fewer_can}
use Rattle.mpm_system.proofs.OwnCallLaws.{placed_in_memory}
use Rattle.mpm_machine.specs.declared.ahead.Ahead.{Ahead}
use Rattle.mpm_machine.specs.Files.{FilesInService, AreWithin, StandsForFiles}
use Rattle.mpm_machine.specs.Holding.{HoldsKept}
use Rattle.mpm_machine.specs.Serving.{gate_step}
use Rattle.mpm_machine.specs.Finishing.{all_answered}
use Rattle.mpm_machine.specs.FileCalls.{is_file_number, at_gate, called_next, calls_files, file_caller_by, file_caller}
use Rattle.mpm_machine.specs.Step.{acted, begun_by, instruction_unless, then_also, runner_picked}
use Rattle.mpm_machine.specs.DiskStep.{step_passed}
use Rattle.mpm_machine.specs.Stepping.{Telling, nothing_told, begun_with, begun_alone, begun_as, is_instruction, rest_of, step_with, told_first, telling_of, before_disk, files_begun_by, files_begun, files_rest, stepped}
use Rattle.mpm_machine.specs.Contained.{CallsAtGate}
use Rattle.mpm_machine.specs.Moving.{RunsAhead, is_still}
use Rattle.mpm_machine.specs.OwnCalls.{MakesOwnCall, IsRecord, with_own_call}
use Rattle.mpm_machine.specs.After.{HasSteppedTo}
use Rattle.mpm_machine.proofs.ActedLaws.{whole_gate_step}
use Rattle.mpm_machine.proofs.WholeStepLaws.{whole_counted}
use Rattle.mpm_machine.proofs.FinishLaws.{answered_nobody}
use Rattle.mpm_machine.proofs.QuietLaws.{none_comes, picked_same}
use Rattle.mpm_machine.proofs.MadeLaws.{IsMade}
use Rattle.mpm_machine.proofs.PassingLaws.{IsPaid, still_ahead, passes_on, passes_nothing, rest_recorded}
use Rattle.mpm_machine.proofs.PlainLaws.{rest_leaves}
use Rattle.mpm_machine.proofs.ServedLaws.{calls_at_gate, no_instruction}
use Rattle.mpm_machine.proofs.StandingLaws.{stands_within}
use Rattle.mpm_machine.proofs.BegunLaws.{keeps_alone, holds_kept}
use Rattle.mpm_machine.proofs.OwnCallLaws.{OwnRow, own_row, no_file_function, asks_own, own_changed, own_at_gate}

-- the disk, where no call is at it
passes_so : (n : ℕ) (disk : DiskService) → disk.served ≡ None → passed_by n disk ≡ disk
unfolding passed_by
passes_so n disk idle =
    ap (λ (o : Option Served). record disk { served = option_map (passed_on n) o }) idle ∙ ap (λ (o : Option Served). record disk { served = o }) (sym idle)

can_pass : (disk : DiskService) → disk.served ≡ None → first_of disk.waiting ≡ None → CanPass (0 + 1) disk
can_pass disk idle nobody =
    record { within = subst (λ (o : Option Served). IfSome o (λ call. call.passed + (0 + 1) < disk.turn_steps)) (sym idle) tt; nobody = λ some is. nobody }

idle_turned : (disk : DiskService) → disk.served ≡ None → first_of disk.waiting ≡ None → turned disk ≡ disk
idle_turned disk idle nobody =
    ap turned (sym (passes_nothing disk)) ∙ passes_on 0 disk (can_pass disk idle nobody) ∙ passes_so (0 + 1) disk idle

idle_still : (disk : DiskService) → disk.served ≡ None → first_of disk.waiting ≡ None → is_still (turn_answer disk) ≡ true
idle_still disk idle nobody =
    subst (λ (d : DiskService). is_still (turn_answer d) ≡ true) (passes_nothing disk) (still_ahead 0 disk (can_pass disk idle nobody))

-- no file call is made

own_alone : (p seg : ℕ) (system : System) → MakesOwnCall p seg system → file_caller system ≡ None
unfolding file_caller calls_files
own_alone p seg system makes =
    let comes = is_some (coming (counted system)) in
    let process = process_in system.kernel.dispatcher.procs p in
    ap (λ running. file_caller_by comes running system) makes.on.running
    ∙ ap (λ (home : Option ℕ). if is_file_number (called_next home p system) && not comes then Some p else None) makes.on.home
    ∙ ap (λ (gate : Option Gate). if is_file_number (at_gate gate process.regs.c) && not comes then Some p else None) makes.gate
    ∙ ap (λ (b : Bool). if b && not comes then Some p else None) (no_file_function process.regs.c makes.function)

own_calls : (p seg : ℕ) (system : System) → MakesOwnCall p seg system → CallsAtGate system p seg
own_calls p seg system makes =
    record { quiet = none_comes (counted system) makes.quiet; runs = makes.on.running; home = makes.on.home; gate = makes.gate }

-- what it begins with is the gate step

abbrev row_of : (p seg : ℕ) (system : System) → MakesOwnCall p seg system → OwnRow (asked p seg (counted system)) p (keeping p (asked p seg (counted system)) (counted system)).kernel
row_of p seg system makes =
    own_row (asked p seg (counted system)) p (keeping p (asked p seg (counted system)) (counted system)).kernel (asks_own p seg (counted system) makes.function)

-- before its record joins the others, by the value and the process
abbrev told_so : ℕ → Process → ℕ → ℕ → System → System
told_so value changed p seg begun =
    let call = asked p seg begun in replied (answering value) call p seg (popped p seg (own_changed p changed (keeping p call begun)))

abbrev behind_so : ℕ → Process → ℕ → ℕ → System → System
behind_so value changed p seg begun =
    let call = asked p seg begun in answering_call (answering value) call p seg (popped p seg (own_changed p changed (keeping p call begun)))

abbrev behind_gate : (p seg : ℕ) (system : System) → MakesOwnCall p seg system → System
behind_gate p seg system makes = behind_so (row_of p seg system makes).value (row_of p seg system makes).changed p seg (counted system)

so_answered : (value : ℕ) (changed : Process) (p seg : ℕ) (begun : System) → begun.kernel.dispatcher.completed ≡ []
    → all_answered (behind_so value changed p seg begun) ≡ behind_so value changed p seg begun
unfolding answering_call recorded replied popped keeping
so_answered value changed p seg begun none = answered_nobody (behind_so value changed p seg begun) (ap first_completed none)

own_answered : (p seg : ℕ) (system : System) (makes : MakesOwnCall p seg system) → all_answered (behind_gate p seg system makes) ≡ behind_gate p seg system makes
own_answered p seg system makes =
    so_answered (row_of p seg system makes).value (row_of p seg system makes).changed p seg (counted system) makes.on.no_completions.answered

own_steps_gate : (p seg : ℕ) (system : System) → IsWhole system → (makes : MakesOwnCall p seg system) → gate_step p seg (counted system) ≡ silent (behind_gate p seg system makes)
own_steps_gate p seg system w makes =
    own_at_gate p seg (counted system) (row_of p seg system makes) (whole_counted system w) (runner_lives system.kernel p w.sound makes.on.running) makes.function
    makes.on.no_completions.answered

own_acts : (p seg : ℕ) (system : System) → IsWhole system → (makes : MakesOwnCall p seg system) → acted (counted system) ≡ silent (behind_gate p seg system makes)
own_acts p seg system w makes = calls_at_gate system p seg (own_calls p seg system makes) ∙ own_steps_gate p seg system w makes

own_begins : (p seg : ℕ) (system : System) → IsWhole system → (makes : MakesOwnCall p seg system) → begun_alone system ≡ silent (behind_gate p seg system makes)
own_begins p seg system w makes =
    ap (λ event. begun_by event (counted system)) (own_calls p seg system makes).quiet ∙ own_acts p seg system w makes

own_begun : (told : Directly) (p seg : ℕ) (system : System) → IsWhole system → (makes : MakesOwnCall p seg system) → begun_as told system ≡ silent (behind_gate p seg system makes)
unfolding begun_as
own_begun told p seg system w makes =
    ap (λ caller. then_also (begun_with caller told system) all_answered) (own_alone p seg system makes)
    ∙ ap (λ (c : SystemChange). then_also c all_answered) (own_begins p seg system w makes)
    ∙ ap silent (own_answered p seg system makes)

own_no_instruction : (p seg : ℕ) (system : System) → MakesOwnCall p seg system → is_instruction (file_caller system) system ≡ false
own_no_instruction p seg system makes =
    let begun = counted system in
    ap (λ caller. is_instruction caller system) (own_alone p seg system makes)
    ∙ ap (λ event. instruction_unless event begun) (own_calls p seg system makes).quiet
    ∙ no_instruction system p seg (own_calls p seg system makes)

-- nothing but its record is left to be done then

whole_behind : (p seg : ℕ) (system : System) → IsWhole system → (makes : MakesOwnCall p seg system) → IsWhole (behind_gate p seg system makes)
whole_behind p seg system w makes =
    subst (λ (c : SystemChange). IsWhole c.system) (own_steps_gate p seg system w makes)
    (whole_gate_step p seg (counted system) (whole_counted system w) (runner_lives system.kernel p w.sound makes.on.running) (w.sound.runs p makes.on.running))

record Passes (system : System) : Type 0 where
  pub paid : IsPaid system
  pub nobody : NobodyAborted system.kernel
  pub off : system.abort_deferred ≡ false
  pub still : is_still (turn_answer system.kernel.disk) ≡ true

own_passes : (p seg : ℕ) (system : System) → IsWhole system → (makes : MakesOwnCall p seg system) → Passes (behind_gate p seg system makes)
unfolding answering_call recorded replied popped keeping
own_passes p seg system w makes = record {
  paid = makes.on.no_completions.paid;
  nobody = (whole_behind p seg system w makes).settled makes.on.none_deferred;
  off = makes.on.none_deferred;
  still = idle_still system.kernel.disk makes.idle makes.nobody;
}

-- and it comes out

out_so : (value : ℕ) (changed : Process) (p seg : ℕ) (system : System) → MakesOwnCall p seg system
    → runner_picked false (records_out (step_passed (behind_so value changed p seg (counted system)))) ≡ records_out (behind_so value changed p seg (counted system))
unfolding answering_call recorded replied popped keeping
out_so value changed p seg system makes =
    let behind = behind_so value changed p seg (counted system) in
    ap (λ (disk : DiskService). runner_picked false (records_out (record behind { kernel = record behind.kernel { disk = disk } })))
    (idle_turned system.kernel.disk makes.idle makes.nobody)
    ∙ ap (λ (kernel : Kernel). let c : SystemChange = record { system = record behind { kernel = kernel; records = [] }; emitted = recorded_behind behind.records [] } in c)
    (picked_same false behind.kernel (makes.on.first ∙ sym makes.on.running))

gate_out : (p seg : ℕ) (system : System) → IsWhole system → (makes : MakesOwnCall p seg system) → with_own_call p seg system ≡ records_out (behind_gate p seg system makes)
unfolding with_own_call
gate_out p seg system w makes = ap with_records (own_steps_gate p seg system w makes)

own_out : (p seg : ℕ) (system : System) → IsWhole system → (makes : MakesOwnCall p seg system)
    → runner_picked false (records_out (step_passed (behind_gate p seg system makes))) ≡ with_own_call p seg system
own_out p seg system w makes =
    out_so (row_of p seg system makes).value (row_of p seg system makes).changed p seg system makes ∙ sym (gate_out p seg system w makes)

pub own_step : (telling : Telling) (p seg : ℕ) (system : System) → IsWhole system → (makes : MakesOwnCall p seg system) → step_with telling system ≡ with_own_call p seg system
unfolding step_with
own_step telling p seg system w makes =
    let here = own_passes p seg system w makes in
    ap (λ b. rest_of b telling (begun_as telling.at_gate system)) (own_no_instruction p seg system makes)
    ∙ ap (rest_of false telling) (own_begun telling.at_gate p seg system w makes)
    ∙ rest_recorded false telling (behind_gate p seg system makes) here.paid here.nobody here.off here.still
    ∙ own_out p seg system w makes

-- so it is one that the machine makes

-- so it is one that the machine makes
pub own_made : (p seg : ℕ) (old new : System) → IsWhole old → MakesOwnCall p seg old → new ≡ (with_own_call p seg old).system → IsMade old new
own_made p seg old new w makes is =
    let telling : Telling = record { at_gate = nothing_told; at_disk = nothing_told; turns = 1 } in
    (telling, is ∙ ap (λ (c : SystemChange). c.system) (sym (own_step telling p seg old w makes)))

-- where no record is asked for, that of a call comes out as nothing is written

pub own_wrote : (o : Outside) (emitted : List Output) → o.kept.trace ≡ false → IsRecord emitted → CameOut o o emitted
own_wrote o emitted off is =
    let call = is.0 in
    subst (CameOut o o) (sym is.1) (record {
      shown = λ outputs first shows. record {
        lines = λ place there. shows.lines place there ∙ sym (pending_completed place call outputs);
        written_is = shows.written_is ∙ ap (λ (text : List ℕ). first ++ text) (sym (rendered_unasked o.kept.trace call outputs off));
      };
      faults = refl;
      trace = refl;
    })

-- by what is on the drives, which it leaves

change_is : (p seg : ℕ) (old : System) (files : FilesInService) → IsWhole old → (makes : MakesOwnCall p seg old) → (stepped old files).change ≡ with_own_call p seg old
unfolding stepped
change_is p seg old files w makes = own_step (telling_of old files) p seg old w makes

before_is : (p seg : ℕ) (old : System) (files : FilesInService) → IsWhole old → (makes : MakesOwnCall p seg old) → before_disk old files ≡ silent (behind_gate p seg old makes)
unfolding before_disk
before_is p seg old files w makes = own_begun (told_first old files) p seg old w makes

begun_files : (p seg : ℕ) (old : System) (files : FilesInService) → MakesOwnCall p seg old → files_begun old files ≡ files
unfolding files_begun
begun_files p seg old files makes = ap (λ caller. files_begun_by caller old files) (own_alone p seg old makes)

within_still : (p seg : ℕ) (old : System) (files : FilesInService) (makes : MakesOwnCall p seg old) → AreWithin old.kernel.disk.served files
    → AreWithin (behind_gate p seg old makes).kernel.disk.served files
unfolding answering_call recorded replied popped keeping
within_still p seg old files makes within = within

files_are : (p seg : ℕ) (old : System) (files : FilesInService) → IsWhole old → (makes : MakesOwnCall p seg old) → AreWithin old.kernel.disk.served files → (stepped old files).files ≡ files
unfolding stepped
files_are p seg old files w makes within =
    let here = own_passes p seg old w makes in
    ap (λ (c : SystemChange). files_rest c.system (files_begun old files)) (before_is p seg old files w makes)
    ∙ ap (files_rest (behind_gate p seg old makes)) (begun_files p seg old files makes)
    ∙ rest_leaves (behind_gate p seg old makes) files here.paid here.nobody here.off here.still (within_still p seg old files makes within)

disk_so : (value : ℕ) (changed : Process) (p seg : ℕ) (old : System) → (behind_so value changed p seg (counted old)).kernel.disk ≡ old.kernel.disk
unfolding answering_call recorded replied popped keeping
disk_so value changed p seg old = refl

disk_still : (p seg : ℕ) (old : System) → IsWhole old → (makes : MakesOwnCall p seg old) → (with_own_call p seg old).system.kernel.disk ≡ old.kernel.disk
disk_still p seg old w makes =
    ap (λ (c : SystemChange). c.system.kernel.disk) (gate_out p seg old w makes) ∙ disk_so (row_of p seg old makes).value (row_of p seg old makes).changed p seg old

pub own_stepped_to : (files : FilesInService) (o n : Outside) (p seg : ℕ) (old new : System) (kept : Kept) (disks : Disks) → IsWhole old → MakesOwnCall p seg old
    → new ≡ (with_own_call p seg old).system → CameOut o n (with_own_call p seg old).emitted → StandsForFiles old.kernel.disk kept disks files
    → HasSteppedTo files o n old new kept disks
own_stepped_to files o n p seg old new kept disks w makes is wrote stands =
    let change = change_is p seg old files w makes in
    let same : new.kernel.disk ≡ old.kernel.disk = ap (λ (s : System). s.kernel.disk) is ∙ disk_still p seg old w makes in
    let behind : StandsForFiles new.kernel.disk kept disks files = subst (λ (disk : DiskService). StandsForFiles disk kept disks files) (sym same) stands in
    record {
      system = is ∙ sym (ap (λ (c : SystemChange). c.system) change);
      wrote = subst (λ (c : SystemChange). CameOut o n c.emitted) (sym change) wrote;
      stands = subst (StandsForFiles new.kernel.disk kept disks) (sym (files_are p seg old files w makes (stands_within old.kernel.disk kept disks files stands))) behind;
    }

-- what holds of drives holds after it

kernel_still : (p seg : ℕ) (old : System) → IsWhole old → (makes : MakesOwnCall p seg old) → (behind_gate p seg old makes).kernel ≡ (with_own_call p seg old).system.kernel
kernel_still p seg old w makes = sym (ap (λ (c : SystemChange). c.system.kernel) (gate_out p seg old w makes))

pub own_holds : {D : Type 0} (disks : D → Disks) (p seg : ℕ) (old new : System) (kept : Kept) (drives : D) → IsWhole old
    → (makes : MakesOwnCall p seg old) → new ≡ (with_own_call p seg old).system → HoldsKept disks old.kernel kept drives → HoldsKept disks new.kernel kept drives
own_holds disks p seg old new kept drives w makes is holds =
    let begins : behind_gate p seg old makes ≡ all_answered (begun_alone old).system =
    sym (own_answered p seg old makes) ∙ sym (ap (λ (c : SystemChange). all_answered c.system) (own_begins p seg old w makes)) in
    subst (λ (s : System). HoldsKept disks s.kernel kept drives) (sym is)
    (subst (λ (kernel : Kernel). HoldsKept disks kernel kept drives) (kernel_still p seg old w makes)
    (holds_kept disks old (behind_gate p seg old makes) kept drives (keeps_alone old (behind_gate p seg old makes) w holds.filed begins) holds))

pub own_turn_steps : (p seg : ℕ) (old new : System) → IsWhole old → MakesOwnCall p seg old → new ≡ (with_own_call p seg old).system
    → new.kernel.disk.turn_steps ≡ old.kernel.disk.turn_steps
own_turn_steps p seg old new w makes is =
    ap (λ (s : System). s.kernel.disk.turn_steps) is ∙ ap (λ (disk : DiskService). disk.turn_steps) (disk_still p seg old w makes)

-- as it is made: the call is kept, its process changes, and the value is placed after the return address; then the step is counted

abbrev call_now : ℕ → System → Called
call_now p kept = call_done (call_of kept.kernel.dispatcher.procs p) p (process_in kept.kernel.dispatcher.procs p) kept.kernel

pub record OwnMade (value p seg : ℕ) (old kept done gone told : System) : Type 0 where
  pub kept_is : kept ≡ keeping p (asked p seg old) old
  pub done_is : done ≡ record kept { kernel = (call_now p kept).kernel }
  pub reply_is : answering value ≡ (call_now p kept).reply
  pub gone_is : gone ≡ popped p seg done
  pub told_is : told ≡ replied (answering value) (asked p seg old) p seg gone

called_is : (value p seg : ℕ) (old kept done gone told : System) → IsWhole old → (makes : MakesOwnCall p seg old) → OwnMade value p seg old kept done gone told
    → call_now p kept ≡ valued (row_of p seg old makes).value (with_changed (keeping p (asked p seg old) old).kernel p (row_of p seg old makes).changed)
unfolding keeping asked
called_is value p seg old kept done gone told w makes so =
    let call = asked p seg old in
    let first = keeping p call old in
    ap (call_now p) so.kept_is
    ∙ ap (λ (c : Taken). call_done c p (process_in first.kernel.dispatcher.procs p) first.kernel)
    (keeps_call p call old w (runner_lives old.kernel p w.sound makes.on.running)).call
    ∙ (row_of p seg old makes).is

changed_is : (value p seg : ℕ) (old kept done gone told : System) → IsWhole old → (makes : MakesOwnCall p seg old) → OwnMade value p seg old kept done gone told
    → done ≡ own_changed p (row_of p seg old makes).changed (keeping p (asked p seg old) old)
changed_is value p seg old kept done gone told w makes so =
    so.done_is ∙ ap (λ (k : System). record k { kernel = (call_now p kept).kernel }) so.kept_is
    ∙ ap (λ (c : Called). record (keeping p (asked p seg old) old) { kernel = c.kernel }) (called_is value p seg old kept done gone told w makes so)

value_is : (value p seg : ℕ) (old kept done gone told : System) → IsWhole old → (makes : MakesOwnCall p seg old) → OwnMade value p seg old kept done gone told
    → value ≡ (row_of p seg old makes).value
value_is value p seg old kept done gone told w makes so =
    ap (λ (a : Answer). a.hl) (so.reply_is ∙ ap (λ (c : Called). c.reply) (called_is value p seg old kept done gone told w makes so))

counted_so : (value : ℕ) (changed : Process) (p seg : ℕ) (old : System) → counted (told_so value changed p seg old) ≡ told_so value changed p seg (counted old)
unfolding replied popped keeping asked
counted_so value changed p seg old = refl

told_here : (value p seg : ℕ) (old kept done gone told : System) → IsWhole old → (makes : MakesOwnCall p seg old) → OwnMade value p seg old kept done gone told
    → counted told ≡ told_so (row_of p seg old makes).value (row_of p seg old makes).changed p seg (counted old)
told_here value p seg old kept done gone told w makes so =
    let row = row_of p seg old makes in
    let call = asked p seg old in
    ap counted (so.told_is ∙ ap (λ (v : ℕ). replied (answering v) call p seg gone) (value_is value p seg old kept done gone told w makes so)
    ∙ ap (replied (answering row.value) call p seg) (so.gone_is ∙ ap (popped p seg) (changed_is value p seg old kept done gone told w makes so)))
    ∙ counted_so row.value row.changed p seg old

unrecorded : (value : ℕ) (changed : Process) (p seg : ℕ) (old : System) → old.records ≡ []
    → told_so value changed p seg (counted old) ≡ (records_out (behind_so value changed p seg (counted old))).system
unfolding answering_call recorded replied popped keeping
unrecorded value changed p seg old none = ap (λ (records : List Completion). record (told_so value changed p seg (counted old)) { records = records }) none

pub own_call_made : (value p seg : ℕ) (old kept done gone told : System) → IsWhole old → MakesOwnCall p seg old → OwnMade value p seg old kept done gone told
    → counted told ≡ (with_own_call p seg old).system
own_call_made value p seg old kept done gone told w makes so =
    told_here value p seg old kept done gone told w makes so
    ∙ unrecorded (row_of p seg old makes).value (row_of p seg old makes).changed p seg old makes.on.no_completions.written
    ∙ sym (ap (λ (c : SystemChange). c.system) (gate_out p seg old w makes))

-- and its record

record_so : (value : ℕ) (changed : Process) (p seg : ℕ) (old : System) → old.records ≡ []
    → (records_out (behind_so value changed p seg (counted old))).emitted
    ≡ Completed (completion (asked p seg (counted old)) p (told_so value changed p seg (counted old))) ∷ []
unfolding answering_call recorded replied popped keeping recorded_behind
record_so value changed p seg old none =
    ap (λ (records : List Completion). recorded_behind (records ++ completion (asked p seg (counted old)) p (told_so value changed p seg (counted old)) ∷ []) []) none

same_call : (value : ℕ) (changed : Process) (call : Taken) (p seg : ℕ) (kept : System)
    → call_of (replied (answering value) call p seg (popped p seg (own_changed p changed kept))).kernel.dispatcher.procs p ≡ call_of kept.kernel.dispatcher.procs p
unfolding replied popped with_process
same_call value changed call p seg kept = refl

call_still : (value : ℕ) (changed : Process) (p seg : ℕ) (begun : System) → IsWhole begun → Lives begun.kernel.dispatcher.procs p
    → call_of (told_so value changed p seg begun).kernel.dispatcher.procs p ≡ asked p seg begun
call_still value changed p seg begun w h =
    same_call value changed (asked p seg begun) p seg (keeping p (asked p seg begun) begun) ∙ (keeps_call p (asked p seg begun) begun w h).call

pub own_call_written : (value p seg : ℕ) (old kept done gone told : System) → IsWhole old → MakesOwnCall p seg old → OwnMade value p seg old kept done gone told
    → Completed (completion (call_of (counted told).kernel.dispatcher.procs p) p (counted told)) ∷ [] ≡ (with_own_call p seg old).emitted
own_call_written value p seg old kept done gone told w makes so =
    let row = row_of p seg old makes in
    let here = told_so row.value row.changed p seg (counted old) in
    ap (λ (s : System). Completed (completion (call_of s.kernel.dispatcher.procs p) p s) ∷ []) (told_here value p seg old kept done gone told w makes so)
    ∙ ap (λ (c : Taken). Completed (completion c p here) ∷ [])
    (call_still row.value row.changed p seg (counted old) (whole_counted old w) (runner_lives old.kernel p w.sound makes.on.running))
    ∙ sym (record_so row.value row.changed p seg old makes.on.no_completions.written)
    ∙ sym (ap (λ (c : SystemChange). c.emitted) (gate_out p seg old w makes))

-- the steps aren't counted yet, and its process lives on

steps_so : (value p seg : ℕ) (call : Taken) (gone : System) → (replied (answering value) call p seg gone).steps ≡ gone.steps
unfolding replied
steps_so value p seg call gone = refl

steps_popped : (p seg : ℕ) (done : System) → (popped p seg done).steps ≡ done.steps
unfolding popped
steps_popped p seg done = refl

steps_kept : (p : ℕ) (call : Taken) (old : System) → (keeping p call old).steps ≡ old.steps
unfolding keeping
steps_kept p call old = refl

pub own_steps : (value p seg : ℕ) (old kept done gone told : System) → OwnMade value p seg old kept done gone told → told.steps ≡ old.steps
own_steps value p seg old kept done gone told so =
    ap (λ (s : System). s.steps) so.told_is ∙ steps_so value p seg (asked p seg old) gone
    ∙ ap (λ (s : System). s.steps) so.gone_is ∙ steps_popped p seg done
    ∙ ap (λ (s : System). s.steps) so.done_is
    ∙ ap (λ (s : System). s.steps) so.kept_is ∙ steps_kept p (asked p seg old) old

pub own_lives : (p seg : ℕ) (old kept done : System) → IsWhole old → MakesOwnCall p seg old → kept ≡ keeping p (asked p seg old) old
    → done ≡ record kept { kernel = (call_now p kept).kernel } → Lives done.kernel.dispatcher.procs p
own_lives p seg old kept done w makes is was =
    let call = asked p seg old in
    let first = keeping p call old in
    let k = keeps_call p call old w (runner_lives old.kernel p w.sound makes.on.running) in
    let row = own_row call p first.kernel (asks_own p seg old makes.function) in
    let now : call_now p kept ≡ valued row.value (with_changed first.kernel p row.changed) =
    ap (call_now p) is ∙ ap (λ (c : Taken). call_done c p (process_in first.kernel.dispatcher.procs p) first.kernel) k.call ∙ row.is in
    let P : System → Type 0 = λ system. Lives system.kernel.dispatcher.procs p in
    subst P (sym (was ∙ ap (λ (c : Called). record kept { kernel = c.kernel }) now)) (lives_changed first.kernel.dispatcher.procs p p row.changed ∙ k.lives)

-- what lies ahead makes such a call

pub makes_ahead : (ahead : Ahead) (system : System) → RunsAhead ahead system → ahead.alone ≡ true → system.steps < ahead.last
    → is_own (process_in system.kernel.dispatcher.procs ahead.p).regs.c ≡ true → (process_in system.kernel.dispatcher.procs ahead.p).regs.pc ≡ ahead.gate → MakesOwnCall ahead.p ahead.seg system
makes_ahead ahead system here alone before own at = record {
  on = here.on;
  gate = calls_there (is_inside system.kernel.dispatcher.procs ahead.p) (last_page system.memory ahead.seg) (process_in system.kernel.dispatcher.procs ahead.p).regs.pc (at ∙ here.gate);
  function = own;
  quiet = here.quiet (system.steps + 1) (omega (arith, before)) (omega arith);
  idle = (here.alone alone).0;
  nobody = (here.alone alone).1;
}

-- and still lies ahead after it: the call leaves the lists, who runs, the disk, what is due and who owes

pub record LeavesOthers (old new : System) : Type 0 where
  pub running : new.kernel.dispatcher.running ≡ old.kernel.dispatcher.running
  pub first : first_of (list_at new.kernel.dispatcher.lists ready) ≡ first_of (list_at old.kernel.dispatcher.lists ready)
  pub completed : new.kernel.dispatcher.completed ≡ old.kernel.dispatcher.completed
  pub disk : new.kernel.disk ≡ old.kernel.disk
  pub owed : new.owed ≡ old.owed
  pub deferred : new.abort_deferred ≡ old.abort_deferred
  pub events : (step : ℕ) → due step new.interrupts ≡ due step old.interrupts
  pub steps : new.steps ≡ old.steps + 1
  pub memory : new.memory ≡ old.memory

leaves_so : (value : ℕ) (changed : Process) (p seg : ℕ) (old : System) → LeavesOthers old (behind_so value changed p seg (counted old))
unfolding answering_call recorded replied popped keeping
leaves_so value changed p seg old =
    record {
      running = refl;
      first = refl;
      completed = refl;
      disk = refl;
      owed = refl;
      deferred = refl;
      events = λ step. refl;
      steps = refl;
      memory = sym (placed_in_memory value (asked p seg (counted old)).word seg old.memory);
    }

home_so : (value : ℕ) (changed : Process) (p seg : ℕ) (begun : System) → IsWhole begun → Lives begun.kernel.dispatcher.procs p
    → changed.seg ≡ (process_in (keeping p (asked p seg begun) begun).kernel.dispatcher.procs p).seg
    → (process_in (behind_so value changed p seg begun).kernel.dispatcher.procs p).seg ≡ (process_in begun.kernel.dispatcher.procs p).seg
unfolding answering_call recorded replied popped
home_so value changed p seg begun w h same =
    let kept = keeping p (asked p seg begun) begun in
    let done = own_changed p changed kept in
    let gone = popped p seg done in
    let home : Process → Option ℕ = λ process. process.seg in
    let before = process_in done.kernel.dispatcher.procs p in
    let behind = process_in gone.kernel.dispatcher.procs p in
    field_kept home gone.kernel.dispatcher.procs p p (record behind { regs = answered value behind.regs }) refl
    ∙ field_kept home done.kernel.dispatcher.procs p p (record before { regs = returned (byte_at done.memory seg) before.regs }) refl
    ∙ field_kept home kept.kernel.dispatcher.procs p p changed same
    ∙ (keeps_call p (asked p seg begun) begun w h).home

pub ahead_called : (ahead : Ahead) (old new : System) → IsWhole old → MakesOwnCall ahead.p ahead.seg old → new ≡ (with_own_call ahead.p ahead.seg old).system
    → RunsAhead ahead old → RunsAhead ahead new
ahead_called ahead old new w makes is here =
    let p = ahead.p in
    let seg = ahead.seg in
    let row = row_of p seg old makes in
    let out : new ≡ (records_out (behind_gate p seg old makes)).system = is ∙ ap (λ (c : SystemChange). c.system) (gate_out p seg old w makes) in
    let leaves = leaves_so row.value row.changed p seg old in
    let disk : new.kernel.disk ≡ old.kernel.disk = ap (λ (s : System). s.kernel.disk) out ∙ leaves.disk in
    let count : new.steps ≡ old.steps + 1 = ap (λ (s : System). s.steps) out ∙ leaves.steps in
    record {
      on = record {
        running = ap (λ (s : System). s.kernel.dispatcher.running) out ∙ leaves.running ∙ here.on.running;
        first = ap (λ (s : System). first_of (list_at s.kernel.dispatcher.lists ready)) out ∙ leaves.first ∙ here.on.first;
        home = ap (λ (s : System). (process_in s.kernel.dispatcher.procs p).seg) out
            ∙ home_so row.value row.changed p seg (counted old) (whole_counted old w) (runner_lives old.kernel p w.sound here.on.running) row.home ∙ here.on.home;
        no_completions = record {
          answered = ap (λ (s : System). s.kernel.dispatcher.completed) out ∙ leaves.completed ∙ here.on.no_completions.answered;
          written = ap (λ (s : System). s.records) out;
          paid = λ idle. ap (λ (s : System). s.owed) out ∙ leaves.owed ∙ here.on.no_completions.paid makes.idle;
        };
        none_deferred = ap (λ (s : System). s.abort_deferred) out ∙ leaves.deferred ∙ here.on.none_deferred;
        settled = subst (λ (s : System). NobodyAborted s.kernel) (sym out) ((whole_behind p seg old w makes).settled (leaves.deferred ∙ here.on.none_deferred));
      };
      quiet = λ step within later. ap (λ (s : System). due step s.interrupts) out ∙ leaves.events step ∙ here.quiet step within (omega (arith, later, count));
      passing = subst (λ (d : DiskService). CanPass (ahead.last - new.steps) d) (sym disk)
          (fewer_can (ahead.last - new.steps) (ahead.last - old.steps) old.kernel.disk (omega (arith, count)) here.passing);
      alone = λ told. (ap (λ (d : DiskService). d.served) disk ∙ makes.idle, ap (λ (d : DiskService). first_of d.waiting) disk ∙ makes.nobody);
      gate = here.gate ∙ ap (λ (memory : Memory). 256 * last_page memory seg + call_gate) (sym (ap (λ (s : System). s.memory) out ∙ leaves.memory));
    }
