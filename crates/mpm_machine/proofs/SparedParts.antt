-- What a part of a step leaves of a resident's slot, where another process makes it: its process, the calls that it awaits, its printers,
-- and what came to these.
use Rattle.std.proofs.Common.{ℕ, ◌≡◌, ◌≢◌, ◌∙◌, ◌==◌, ◌&&◌, not, Bool, true, false, List, [], ◌∷◌, ◌++◌, length, Option, Some, None, refl, sym, ap, subst, arith, get_or-set_other}
use Rattle.std.specs.Prelude.{nat_lt, is_none, if◌then◌else◌}
use Rattle.std.proofs.lemmas.Bool.{false≢true, and_parts}
use Rattle.std.proofs.lemmas.Bool.Decides.{nat_tests}
use Rattle.mpm_base.proofs.Choices.{either}
use Rattle.mpm_base.specs.Lists.{in_width}
use Rattle.mpm_base.specs.Calls.{Taken, Answer}
use Rattle.mpm_base.specs.declared.call.Outcome.{Outcome as Ended_how}
use Rattle.mpm_base.specs.declared.call.Outcome.TheVariants.{Done, Held, Retry, Ended}
use Rattle.mpm_base.specs.declared.functions.TheConstants.{ABSOLUTE_MEMORY_REQUEST, RELOCATABLE_MEMORY_REQUEST, MEMORY_FREE, CREATE_PROCESS, ABORT_SPECIFIED_PROCESS, PARSE_FILENAME, SYSTEM_DATA_ADDRESS, RETURN_PROCESS_DESCRIPTOR_ADDRESS, CHAIN_TO_PROGRAM, SEND_CLI_COMMAND}
use Rattle.mpm_consoles.specs.Consoles.{owner_of}
use Rattle.mpm_base.specs.declared.unit.Unit.{Unit}
use Rattle.mpm_base.specs.declared.unit.Unit.TheVariants.{Console, Printer}
use Rattle.mpm_dispatcher.specs.Dispatch.{IsReady}
use Rattle.mpm_kernel.proofs.AwaitingCalls.{awaits_called}
use Rattle.mpm_kernel.proofs.AwaitingEnds.{awaits_discharged, awaits_gave}
use Rattle.mpm_kernel.proofs.Beside.{StaysBeside, beside_same, beside_both, beside_changed, beside_other, beside_others_call}
use Rattle.mpm_kernel.proofs.DiskStays.{disk_called, disk_discharged}
use Rattle.mpm_kernel.proofs.EndingLaws.{beside_discharged}
use Rattle.mpm_kernel.proofs.GivingLaws.{procs_gave}
use Rattle.mpm_kernel.proofs.HomeLaws.{beside_called}
use Rattle.mpm_kernel.specs.Awaiting.{Awaits, AwaitsIn}
use Rattle.mpm_kernel.specs.Called.{Called}
use Rattle.mpm_kernel.specs.Calls.{called}
use Rattle.mpm_kernel.specs.Columns.{spoke}
use Rattle.mpm_kernel.specs.Consoling.{given}
use Rattle.mpm_kernel.specs.Kernel.{Kernel, is_resident, with_changed}
use Rattle.mpm_output.specs.Writing.{spoken}
use Rattle.mpm_procs.specs.Table.{Lives, process_in, call_of}
use Rattle.mpm_procs.specs.declared.process.Process.{Process}
use Rattle.mpm_ready.specs.Order.{Member}
use Rattle.mpm_render.specs.Completions.{Completion}
use Rattle.mpm_render.specs.Outputs.{Output, Said, Completed, said}
use Rattle.mpm_residents.specs.Natives.{native_in}
use Rattle.mpm_residents.specs.declared.native.Native.{Native}
use Rattle.mpm_service.proofs.PlaceLaws.{at_without_other}
use Rattle.mpm_service.specs.Disk.{DiskService}
use Rattle.mpm_service.specs.Places.{at_disk}
use Rattle.mpm_system.proofs.PlacedLaws.{given_disk}
use Rattle.mpm_system.proofs.WholeLaws.{keeps_asked, whole_calling}
use Rattle.mpm_system.specs.Calling.{Served, asking, calling, served_by}
use Rattle.mpm_system.specs.Parsing.{parsing}
use Rattle.mpm_system.specs.Segments.{releasing, reserving}
use Rattle.mpm_system.specs.Sending.{framed, passed, passed_after, console_sent, may_pass, sent, may_send, sending, chaining, chained, has_interpreter}
use Rattle.mpm_system.specs.Whole.{SystemChange, IsWhole, silent, speaking}
use Rattle.mpm_system.specs.Written.{recorded_behind}
use Rattle.mpm_system.specs.declared.system.System.{System}
use Rattle.mpm_xdos.proofs.CreatedLaws.{Made, made_created}
use Rattle.mpm_xdos.proofs.TargetLaws.{target_lives}
use Rattle.mpm_xdos.specs.Aborting.{waits_to_end, target}
use Rattle.mpm_xdos.specs.Creating.{home_base, created}
use Rattle.z80_regs.specs.declared.regs.Regs.{Regs}
use Rattle.mpm_machine.proofs.KeepingLaws.{created_disk}
use Rattle.mpm_machine.proofs.PrinterCalls.{KeepsPrinter, prints_same, prints_both, prints_changed, prints_keeping, prints_called}
use Rattle.mpm_machine.proofs.PrinterEnds.{prints_discharged, prints_gave, prints_created}
use Rattle.mpm_machine.proofs.WholeLaws.{aborted_by, aborted_is, ends_at_once}
use Rattle.mpm_machine.specs.Ending.{ended}
use Rattle.mpm_machine.specs.Files.{owes}
use Rattle.mpm_machine.specs.Printed.{is_printer, bytes_to}
use Rattle.mpm_machine.specs.Serving.{aborted, aborting, aborting_this, creating, served, served_to_all}
use Rattle.mpm_machine.specs.Slots.{Settings, settings_of}

-- what comes to a printer

pub bytes_both : (n : ℕ) (newer older : List Output) → bytes_to n (newer ++ older) ≡ bytes_to n newer ++ bytes_to n older
unfolding bytes_to
bytes_both n [] older = refl
bytes_both n (Said unit byte ∷ newer) older = by_unit (is_printer n unit) byte (bytes_both n newer older) where
  by_unit : (b : Bool) (byte : ℕ) → bytes_to n (newer ++ older) ≡ bytes_to n newer ++ bytes_to n older
      → (if b then byte ∷ bytes_to n (newer ++ older) else (bytes_to n (newer ++ older))) ≡ (if b then byte ∷ bytes_to n newer else (bytes_to n newer)) ++ bytes_to n older
  by_unit true byte same = ap (λ (xs : List ℕ). byte ∷ xs) same
  by_unit false byte same = same
bytes_both n (Completed call ∷ newer) older = bytes_both n newer older

pub said_elsewhere : (n : ℕ) (unit : Unit) (bytes : List ℕ) (outputs : List Output) → is_printer n unit ≡ false → bytes_to n (said unit bytes outputs) ≡ bytes_to n outputs
unfolding bytes_to said
said_elsewhere n unit [] outputs other = refl
said_elsewhere n unit (byte ∷ bytes) outputs other =
    said_elsewhere n unit bytes (Said unit byte ∷ outputs) other ∙ ap (λ (b : Bool). if b then byte ∷ bytes_to n outputs else (bytes_to n outputs)) other

pub nothing_spoken : (n console : ℕ) (bytes : List ℕ) → bytes_to n (spoken console bytes) ≡ []
unfolding spoken bytes_to
nothing_spoken n console bytes = said_elsewhere n (Console console) bytes [] refl

pub recorded_same : (n : ℕ) (calls : List Completion) (outputs : List Output) → bytes_to n (recorded_behind calls outputs) ≡ bytes_to n outputs
unfolding recorded_behind bytes_to
recorded_same n [] outputs = refl
recorded_same n (call ∷ calls) outputs = recorded_same n calls (Completed call ∷ outputs)

-- a part of a step leaves a slot

pub record Spares (q : ℕ) (old : System) (change : SystemChange) : Type 0 where
  pub beside : StaysBeside q old.kernel.dispatcher.procs change.system.kernel.dispatcher.procs
  pub printer : KeepsPrinter q old.kernel change.system.kernel
  pub resident : native_in change.system.residents q ≡ native_in old.residents q
  pub place : at_disk change.system.kernel.disk q ≡ at_disk old.kernel.disk q
  pub pays : owes old.owed q ≡ false → owes change.system.owed q ≡ false
  pub awaits : (k : ℕ) → AwaitsIn k q old.kernel → AwaitsIn k q change.system.kernel
  pub nothing : (n : ℕ) → owner_of old.kernel.units (Printer n) ≡ Some q → bytes_to n change.emitted ≡ []

pub nothing_said : (n : ℕ) → bytes_to n [] ≡ []
unfolding bytes_to
nothing_said n = refl

pub spares_both : (q : ℕ) (old : System) (first last : SystemChange) → Spares q old first → Spares q first.system last → Spares q old (record { system = last.system; emitted = last.emitted ++ first.emitted })
spares_both q old first last a b = record {
  beside = beside_both q old.kernel.dispatcher.procs first.system.kernel.dispatcher.procs last.system.kernel.dispatcher.procs a.beside b.beside;
  printer = prints_both q old.kernel first.system.kernel last.system.kernel a.printer b.printer;
  resident = b.resident ∙ a.resident;
  place = b.place ∙ a.place;
  pays = λ pays. b.pays (a.pays pays);
  awaits = λ k x. b.awaits k (a.awaits k x);
  nothing = λ n is. bytes_both n last.emitted first.emitted ∙ ap (λ (xs : List ℕ). xs ++ bytes_to n first.emitted) (b.nothing n (a.printer.owner n is)) ∙ a.nothing n is;
}

-- where nothing is said in either part
pub spares_then : (q : ℕ) (old middle new : System) → Spares q old (silent middle) → Spares q middle (silent new) → Spares q old (silent new)
spares_then q old middle new a b = spares_both q old (silent middle) (silent new) a b

-- or in the second
pub spares_on : (q : ℕ) (old : System) (first : SystemChange) (new : System) → Spares q old first → Spares q first.system (silent new) → Spares q old (record first { system = new })
spares_on q old first new a b = record {
  beside = beside_both q old.kernel.dispatcher.procs first.system.kernel.dispatcher.procs new.kernel.dispatcher.procs a.beside b.beside;
  printer = prints_both q old.kernel first.system.kernel new.kernel a.printer b.printer;
  resident = b.resident ∙ a.resident;
  place = b.place ∙ a.place;
  pays = λ pays. b.pays (a.pays pays);
  awaits = λ k x. b.awaits k (a.awaits k x);
  nothing = a.nothing;
}

pub still_awaited : (q : ℕ) (old new : Kernel) → new.dispatcher.lists ≡ old.dispatcher.lists → new.dispatcher.completed ≡ old.dispatcher.completed
    → (k : ℕ) → AwaitsIn k q old → AwaitsIn k q new
still_awaited q old new lists completed k a =
    subst (λ (c : List ℕ). Awaits k q new.dispatcher.lists c) (sym completed) (subst (λ (l : List (List Member)). Awaits k q l old.dispatcher.completed) (sym lists) a)

pub spares_with : (q : ℕ) (old new : System) → new.residents ≡ old.residents → StaysBeside q old.kernel.dispatcher.procs new.kernel.dispatcher.procs → KeepsPrinter q old.kernel new.kernel
    → at_disk new.kernel.disk q ≡ at_disk old.kernel.disk q → (owes old.owed q ≡ false → owes new.owed q ≡ false)
    → ((k : ℕ) → AwaitsIn k q old.kernel → AwaitsIn k q new.kernel) → Spares q old (silent new)
spares_with q old new residents beside printer place pays awaits = record {
  beside = beside;
  printer = printer;
  resident = ap (λ (r : List Native). native_in r q) residents;
  place = place;
  pays = pays;
  awaits = awaits;
  nothing = λ n is. nothing_said n;
}

pub disk_place : (q : ℕ) (old new : Kernel) → new.disk ≡ old.disk → at_disk new.disk q ≡ at_disk old.disk q
disk_place q old new same = ap (λ (disk : DiskService). at_disk disk q) same

-- processes, the lists, the completions and the disk are as they are
pub spares_same : (q : ℕ) (old new : System) → new.residents ≡ old.residents → new.kernel.dispatcher.procs ≡ old.kernel.dispatcher.procs
    → new.kernel.units.printers ≡ old.kernel.units.printers → new.kernel.disk ≡ old.kernel.disk
    → new.kernel.dispatcher.lists ≡ old.kernel.dispatcher.lists → new.kernel.dispatcher.completed ≡ old.kernel.dispatcher.completed
    → (owes old.owed q ≡ false → owes new.owed q ≡ false) → Spares q old (silent new)
spares_same q old new residents procs printers disk lists completed pays =
    spares_with q old new residents (beside_same q old.kernel.dispatcher.procs new.kernel.dispatcher.procs procs) (prints_same q old.kernel new.kernel procs printers)
    (disk_place q old.kernel new.kernel disk) pays (still_awaited q old.kernel new.kernel lists completed)

pub spares_itself : (q : ℕ) (system : System) → Spares q system (silent system)
spares_itself q system = spares_same q system system refl refl refl refl refl refl (λ x. x)

-- another kernel
pub spares_kernel : (q : ℕ) (system : System) (kernel : Kernel) → StaysBeside q system.kernel.dispatcher.procs kernel.dispatcher.procs → KeepsPrinter q system.kernel kernel
    → at_disk kernel.disk q ≡ at_disk system.kernel.disk q → ((k : ℕ) → AwaitsIn k q system.kernel → AwaitsIn k q kernel) → Spares q system (silent (record system { kernel = kernel }))
spares_kernel q system kernel beside printer place awaits = spares_with q system (record system { kernel = kernel }) refl beside printer place (λ x. x) awaits

-- parts of what a process does

pub spares_changed : (q p : ℕ) (process : Process) (system : System) → process.seg ≡ (process_in system.kernel.dispatcher.procs p).seg → process.abort_due ≡ (process_in system.kernel.dispatcher.procs p).abort_due
    → process.error_mode ≡ (process_in system.kernel.dispatcher.procs p).error_mode → settings_of process ≡ settings_of (process_in system.kernel.dispatcher.procs p) → Spares q system (silent (record system { kernel = with_changed system.kernel p process }))
spares_changed q p process system seg due mode set =
    spares_kernel q system (with_changed system.kernel p process) (beside_changed system.kernel.dispatcher.procs p q process seg due (λ _. mode) (λ _. ap (λ (x : Settings). x.multi) set))
    (prints_changed q p system.kernel process set) refl (λ k x. x)

pub spares_regs : (q p : ℕ) (regs : Regs) (system : System)
    → Spares q system (silent (record system { kernel = with_changed system.kernel p (record (process_in system.kernel.dispatcher.procs p) { regs = regs }) }))
spares_regs q p regs system = spares_changed q p (record (process_in system.kernel.dispatcher.procs p) { regs = regs }) system refl refl refl refl

pub spares_spoke : (q console : ℕ) (bytes : List ℕ) (system : System) → Spares q system (speaking console bytes system)
unfolding speaking spoke Rattle.mpm_consoles.specs.Handling.spoke
spares_spoke q console bytes system = record {
  beside = beside_same q system.kernel.dispatcher.procs system.kernel.dispatcher.procs refl;
  printer = prints_same q system.kernel (speaking console bytes system).system.kernel refl refl;
  resident = refl;
  place = refl;
  pays = λ x. x;
  awaits = λ k x. x;
  nothing = λ n is. nothing_spoken n console bytes;
}

pub spares_ended : (q p : ℕ) (system : System) → IsWhole system → Lives system.kernel.dispatcher.procs p → q ≢ p → Spares q system (silent (ended p system))
unfolding ended
spares_ended q p system w h other =
    spares_with q system (ended p system) refl (beside_discharged system.kernel p q w.sound h other) (prints_discharged q system.kernel p other)
    (ap (λ (disk : DiskService). at_disk disk q) (disk_discharged system.kernel p) ∙ at_without_other system.kernel.disk p q other)
    (λ pays. get_or-set_other system.owed p q true false other ∙ pays) (λ k x. awaits_discharged k q system.kernel p w.sound h other x)

pub spares_asking : (q p : ℕ) (call : Taken) (system : System) → q ≢ p → Spares q system (silent (asking p call system))
spares_asking q p call system other =
    spares_kernel q system (asking p call system).kernel (beside_others_call system.kernel.dispatcher.procs p q call other) (prints_keeping q p system.kernel call other) refl (λ k x. x)

-- a process is aborted by another, or by a key

spares_aborted_by : (q : ℕ) (stays waits : Bool) (p : ℕ) (system : System) → IsWhole system → Lives system.kernel.dispatcher.procs p → (stays ≡ false → q ≢ p)
    → Spares q system (silent (aborted_by stays waits p system))
spares_aborted_by q true waits p system w h other = spares_same q system _ refl refl refl refl refl refl (λ x. x)
spares_aborted_by q false true p system w h other =
    spares_with q system _ refl (beside_other system.kernel.dispatcher.procs p q (record (process_in system.kernel.dispatcher.procs p) { abort_due = true }) (other refl))
    (prints_changed q p system.kernel (record (process_in system.kernel.dispatcher.procs p) { abort_due = true }) refl) refl (λ x. x) (λ k x. x)
spares_aborted_by q false false p system w h other = subst (λ (s : System). Spares q system (silent s)) (sym (ends_at_once p system)) (spares_ended q p system w h (other refl))

pub resident_apart : (q p : ℕ) (system : System) → (process_in system.kernel.dispatcher.procs q).seg ≡ None → is_resident system.kernel.dispatcher.procs p ≡ false → q ≢ p
resident_apart q p system home e = λ is. false≢true (sym e ∙ ap (is_resident system.kernel.dispatcher.procs) (sym is) ∙ ap is_none home)

pub spares_aborted : (q p : ℕ) (system : System) → IsWhole system → Lives system.kernel.dispatcher.procs p → (process_in system.kernel.dispatcher.procs q).seg ≡ None
    → Spares q system (silent (aborted p system))
spares_aborted q p system w h home =
    subst (λ (s : System). Spares q system (silent s)) (sym (aborted_is (is_resident system.kernel.dispatcher.procs p) (waits_to_end system.kernel p) p system refl refl))
    (spares_aborted_by q (is_resident system.kernel.dispatcher.procs p) (waits_to_end system.kernel p) p system w h (resident_apart q p system home))

abbrev SparesServed : ℕ → System → Served → Type 0
SparesServed q system done = Spares q system (silent done.system)

spares_aborting_this : (q : ℕ) (named : Option ℕ) (p : ℕ) (system : System) → IsWhole system → ((r : ℕ) → named ≡ Some r → Lives system.kernel.dispatcher.procs r)
    → (process_in system.kernel.dispatcher.procs q).seg ≡ None → SparesServed q system (aborting_this named p system)
spares_aborting_this q None p system w living home = spares_itself q system
spares_aborting_this q (Some other) p system w living home =
    either (SparesServed q system) (other == p && not (waits_to_end system.kernel p)) _ _ (λ _. spares_itself q system) (λ _. spares_aborted q other system w (living other refl) home)

spares_aborting : (q p : ℕ) (system : System) → IsWhole system → (process_in system.kernel.dispatcher.procs q).seg ≡ None → SparesServed q system (aborting p system)
unfolding aborting
spares_aborting q p system w home =
    spares_aborting_this q (target system.kernel.dispatcher.procs p) p system w (λ r named. target_lives system.kernel.dispatcher.procs p r named) home

-- processes are created

made_beside : (q : ℕ) (old new : Kernel) → Made old new → Lives old.dispatcher.procs q → StaysBeside q old.dispatcher.procs new.dispatcher.procs
made_beside q old new made h = record {
  living = made.lives q h ∙ sym h;
  seg = ap (λ (x : Process). x.seg) (made.process q h);
  due = ap (λ (x : Process). x.abort_due) (made.process q h);
  function = ap (λ (x : Taken). x.function) (made.call q h);
  answers = λ _. ap (λ (x : Process). x.error_mode) (made.process q h);
  multi = λ _. ap (λ (x : Process). x.multi) (made.process q h);
}

spares_creating : (q p : ℕ) (system : System) → IsWhole system → Lives system.kernel.dispatcher.procs p → Lives system.kernel.dispatcher.procs q → SparesServed q system (creating p system)
unfolding creating
spares_creating q p system w h living =
    let base = home_base system.memory (process_in system.kernel.dispatcher.procs p).seg in
    let made = made_created system.kernel p base w.sound h in
    spares_kernel q system (created system.kernel p base) (made_beside q system.kernel (created system.kernel p base) made living) (prints_created q system.kernel p base made living)
    (disk_place q system.kernel (created system.kernel p base) (created_disk system.kernel p base)) (λ k x. made.awaits k q x)

-- a call of the kernel

spares_calling : (q p : ℕ) (system : System) → IsWhole system → Lives system.kernel.dispatcher.procs p → IsReady system.kernel.dispatcher p → q ≢ p → SparesServed q system (calling p system)
spares_calling q p system w h ready other =
    spares_kernel q system (called p system.kernel).kernel (beside_called p q system.kernel w.sound h) (prints_called q p system.kernel other)
    (disk_place q system.kernel (called p system.kernel).kernel (disk_called p system.kernel)) (λ k x. awaits_called k p q system.kernel w.sound h ready other x)

-- a command is sent

pub spares_passed : (q p : ℕ) (system : System) → IsWhole system → Spares q system (silent (record system { kernel = passed p system.kernel }))
spares_passed q p system w =
    let console = console_sent p system.kernel in
    let gave = given console (Some p) (Some 0) system.kernel in
    either (λ (k : Kernel). Spares q system (silent (record system { kernel = k }))) (may_pass p system.kernel) gave system.kernel
    (λ may.
    let parts = and_parts (nat_lt console (length system.kernel.units.consoles)) _ may in
    let there : nat_lt console (length system.kernel.units.consoles) ≡ true = parts.0 in
    spares_kernel q system gave (beside_same q system.kernel.dispatcher.procs gave.dispatcher.procs (procs_gave console (Some p) (Some 0) system.kernel))
    (prints_gave q console (Some p) (Some 0) system.kernel) (disk_place q system.kernel gave (given_disk console (Some p) (Some 0) system.kernel))
    (λ k x. awaits_gave k q console (Some p) (Some 0) system.kernel w.sound (grind (arith, nat_tests, there)) parts.1 x))
    (λ _. spares_itself q system)

spares_passed_after : (q : ℕ) (outcome : Ended_how) (reply : Answer) (p : ℕ) (system : System) → IsWhole system
    → Spares q system (silent (record system { kernel = passed_after outcome reply p system.kernel }))
spares_passed_after q Done reply p system w =
    either (λ (k : Kernel). Spares q system (silent (record system { kernel = k }))) (reply.hl == 0) _ system.kernel (λ _. spares_passed q p system w) (λ _. spares_itself q system)
spares_passed_after q Held reply p system w = spares_itself q system
spares_passed_after q Retry reply p system w = spares_itself q system
spares_passed_after q Ended reply p system w = spares_itself q system

spares_sent : (q function : ℕ) (message : List ℕ) (p : ℕ) (system : System) → IsWhole system → Lives system.kernel.dispatcher.procs p → IsReady system.kernel.dispatcher p
    → q ≢ p → SparesServed q system (served_by (sent function message p system.kernel) system)
unfolding sent
spares_sent q function message p system w h ready other =
    let frame = framed message (call_of system.kernel.dispatcher.procs p) in
    let begun = asking p frame system in
    let asked_it = keeps_asked p frame system w h in
    let done = whole_calling p begun asked_it.whole asked_it.lives (asked_it.ready ready) in
    let result = calling p begun in
    let own = record (call_of result.system.kernel.dispatcher.procs p) { function = function } in
    let renamed_it = asking p own result.system in
    let last = record renamed_it { kernel = passed_after result.outcome result.reply p renamed_it.kernel } in
    spares_then q system begun last (spares_asking q p frame system other)
    (spares_then q begun result.system last (spares_calling q p begun asked_it.whole asked_it.lives (asked_it.ready ready) other)
    (spares_then q result.system renamed_it last (spares_asking q p own result.system other)
    (spares_passed_after q result.outcome result.reply p renamed_it (keeps_asked p own result.system done.whole done.lives).whole)))

spares_sending : (q : ℕ) (b : Bool) (p : ℕ) (system : System) → IsWhole system → Lives system.kernel.dispatcher.procs p → IsReady system.kernel.dispatcher p → q ≢ p
    → SparesServed q system (served_by (sending b p system.kernel) system)
unfolding sending
spares_sending q b p system w h ready other =
    let call = call_of system.kernel.dispatcher.procs p in
    either (λ (c : Called). SparesServed q system (served_by c system)) (may_send b call system.kernel) _ _
    (λ _. spares_sent q SEND_CLI_COMMAND (in_width 130 call.bytes) p system w h ready other) (λ _. spares_itself q system)

spares_chaining : (q : ℕ) (b : Bool) (p : ℕ) (system : System) → IsWhole system → Lives system.kernel.dispatcher.procs p → IsReady system.kernel.dispatcher p → q ≢ p
    → SparesServed q system (served_by (chaining b p system.kernel) system)
unfolding chaining
spares_chaining q b p system w h ready other =
    let message = chained (process_in system.kernel.dispatcher.procs p) (call_of system.kernel.dispatcher.procs p).bytes in
    either (λ (c : Called). SparesServed q system (served_by c system)) b _ _
    (λ _. spares_sent q CHAIN_TO_PROGRAM message p system w h ready other) (λ _. spares_itself q system)

-- a call that residents make too, and any other

pub spares_to_all : (q : ℕ) (call : Taken) (p : ℕ) (system : System) → IsWhole system → Lives system.kernel.dispatcher.procs p → IsReady system.kernel.dispatcher p → q ≢ p
    → SparesServed q system (served_to_all call p system)
unfolding served_to_all reserving releasing
spares_to_all q call p system w h ready other =
    let f = call.function in
    let P : Served → Type 0 = SparesServed q system in
    either P (f == ABSOLUTE_MEMORY_REQUEST) _ _ (λ _. spares_same q system _ refl refl refl refl refl refl (λ x. x))
    (λ _. either P (f == RELOCATABLE_MEMORY_REQUEST) _ _ (λ _. spares_same q system _ refl refl refl refl refl refl (λ x. x))
    (λ _. either P (f == MEMORY_FREE) _ _ (λ _. spares_same q system _ refl refl refl refl refl refl (λ x. x))
    (λ _. either P (f == SEND_CLI_COMMAND) _ _ (λ _. spares_sending q (has_interpreter system) p system w h ready other)
    (λ _. spares_calling q p system w h ready other))))

pub spares_served : (q : ℕ) (call : Taken) (p : ℕ) (system : System) → IsWhole system → Lives system.kernel.dispatcher.procs p → IsReady system.kernel.dispatcher p → q ≢ p
    → Lives system.kernel.dispatcher.procs q → (process_in system.kernel.dispatcher.procs q).seg ≡ None → SparesServed q system (served call p system)
unfolding served parsing
spares_served q call p system w h ready other living home =
    let f = call.function in
    let P : Served → Type 0 = SparesServed q system in
    either P (f == CREATE_PROCESS) _ _ (λ _. spares_creating q p system w h living)
    (λ _. either P (f == ABORT_SPECIFIED_PROCESS) _ _ (λ _. spares_aborting q p system w home)
    (λ _. either P (f == PARSE_FILENAME) _ _ (λ _. spares_itself q system)
    (λ _. either P (f == SYSTEM_DATA_ADDRESS) _ _ (λ _. spares_itself q system)
    (λ _. either P (f == RETURN_PROCESS_DESCRIPTOR_ADDRESS) _ _ (λ _. spares_itself q system)
    (λ _. either P (f == CHAIN_TO_PROGRAM) _ _ (λ _. spares_chaining q (has_interpreter system) p system w h ready other)
    (λ _. spares_to_all q call p system w h ready other))))))
