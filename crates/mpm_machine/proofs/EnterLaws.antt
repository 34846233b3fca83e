-- The disk's step as the code makes it, after the turn of the call in service: those who ended give back, and the first that waits
-- enters service, in the situation of that moment.
use Rattle.std.proofs.Common.{◌≡◌, ◌∙◌, ◌<◌, ◌==◌, ℕ, Bool, true, false, if◌then◌else◌, List, Option, Some, None, Result, OnOk, is_some, option_map, IfSome, refl, sym, ap, subst, arith}
use Rattle.std.proofs.lemmas.Bool.{false≢true}
use Rattle.std.proofs.lemmas.Result.{on_ok_weaker}
use Rattle.mpm_base.proofs.CountLaws.{one_if_true}
use Rattle.mpm_port.specs.Disks.{Disks}
use Rattle.mpm_procs.specs.Table.{Lives, process_in, call_of}
use Rattle.mpm_ready.specs.Order.{in_list, first_of}
use Rattle.mpm_ready.proofs.OrderLaws.{first_is_in}
use Rattle.mpm_service.specs.Disk.{DiskService, is_last_step, step_answer, answer_by, served_after, turned, turn_answer, begun, served_process, HasBegun}
use Rattle.mpm_service.specs.Places.{at_disk}
use Rattle.mpm_service.specs.declared.service.Served.{Served}
use Rattle.mpm_service.specs.declared.service.Turn.{Turn}
use Rattle.mpm_service.specs.declared.service.Turn.TheVariants.{Idle, Passing, Work, Starts}
use Rattle.mpm_mount.specs.Drives.{Drive}
use Rattle.mpm_kernel.specs.Kernel.{Kernel, IsSoundKernel}
use Rattle.mpm_kernel.specs.Disk.{with_disk}
use Rattle.mpm_output.specs.Outside.{Outside}
use Rattle.mpm_output.specs.Writing.{CameOut}
use Rattle.mpm_output.proofs.WritingLaws.{wrote_nothing}
use Rattle.mpm_directories.specs.Direct.{Directly}
use Rattle.mpm_file_functions.specs.declared.functions.FileFunction.{FileFunction}
use Rattle.mpm_refusals.specs.Filing.{Filing}
use Rattle.mpm_file_functions.specs.Functions.{function_of}
use Rattle.mpm_bdos.specs.Jobs.{call_turns}
use Rattle.mpm_bdos.specs.Serving.{Kept, InService, Serves, filing_of}
use Rattle.mpm_bdos.specs.Starting.{caller_of}
use Rattle.mpm_bdos.specs.Turns.{images_of}
use Rattle.mpm_system.specs.declared.system.System.{System}
use Rattle.mpm_system.specs.Whole.{SystemChange, IsWhole, silent}
use Rattle.mpm_machine.specs.Files.{FilesInService, Between, Within, StandsBetween, StandsServed, StandsForFiles, StandsWorkedBy, StandsWorked, all_left, given_back}
use Rattle.mpm_machine.specs.Holding.{IsOwnCall, OwnsService, AreFiled}
use Rattle.mpm_machine.specs.FileCalls.{looked_at, situation_of}
use Rattle.mpm_machine.specs.DiskStep.{with_kernel, step_passed, served_by, disk_served, files_served_by, files_served, all_paid, entered_by, entered_unless, call_entered, within_call, entering_call, files_entered_by, files_entered_unless, files_entered, turns_within}
use Rattle.mpm_machine.specs.Stepping.{Telling, nothing_told, told_within, entered_after, files_paid, files_then}
use Rattle.mpm_machine.specs.After.{IsOfSome, HasServedTo}
use Rattle.mpm_machine.proofs.DiskStepLaws.{whole_passed, whole_call_entered, whole_all_paid}
use Rattle.mpm_machine.proofs.CallsLaws.{SystemKeepsCalls, calls_same, calls_then, calls_disk_served, calls_call_entered, at_disk_lives}
use Rattle.mpm_machine.proofs.HoldingLaws.{filed_still}
use Rattle.mpm_machine.proofs.FilingLaws.{named_by}
use Rattle.mpm_machine.proofs.ServeLaws.{IsServedBy, somebody}
use Rattle.mpm_machine.proofs.TurnLaws.{who, stands_idle, entered_first, paid_stands, entry_stands}
use Rattle.mpm_machine.specs.Parts.{StartsCall}

-- where nobody is in service
pub nobody_served : (disk : DiskService) → disk.served ≡ None → served_process disk ≡ None
unfolding served_process
nobody_served disk none = ap (option_map (λ (call : Served). call.p)) none

pub entered_so : (turns : ℕ) (system : System) (turn : Turn) → system.kernel.disk.served ≡ None → turn_answer system.kernel.disk ≡ turn
    → call_entered turns system ≡ entered_by turn turns (step_passed system)
unfolding call_entered
entered_so turns system turn none answer =
    ap (λ (served : Option ℕ). entered_unless served turns system) (nobody_served system.kernel.disk none) ∙ ap (λ (t : Turn). entered_by t turns (step_passed system)) answer

pub files_so : (system : System) (files : FilesInService) (turn : Turn) → system.kernel.disk.served ≡ None → turn_answer system.kernel.disk ≡ turn
    → files_entered system files ≡ files_entered_by turn system files
unfolding files_entered
files_so system files turn none answer =
    ap (λ (served : Option ℕ). files_entered_unless served system files) (nobody_served system.kernel.disk none) ∙ ap (λ (t : Turn). files_entered_by t system files) answer

-- the first that waits enters

enters_within : (system : System) (filing : Filing) (function : FileFunction) (p : ℕ) → function_of (call_of system.kernel.dispatcher.procs p).function ≡ Some function
    → entering_call p system (Between filing) ≡ Within (situation_of filing function p system)
enters_within system filing function p is = ap (λ (named : Option FileFunction). within_call named filing p system) is

pub enters_ok : (old : System) (filing : Filing) (function : FileFunction) (p turns : ℕ) (kept kept' : Kept) (disks : Disks)
    → turn_answer old.kernel.disk ≡ Starts p → old.kernel.disk.served ≡ None → function_of (call_of old.kernel.dispatcher.procs p).function ≡ Some function
    → StandsBetween kept disks filing → turns ≡ call_turns (situation_of filing function p old) → 0 < turns
    → Serves (images_of disks) kept' (situation_of filing function p old) 0
    → (with_kernel (with_disk (λ disk. begun disk turns)) (step_passed old) ≡ call_entered (turns_within (files_entered old (Between filing))) old)
    × StandsForFiles (begun (turned old.kernel.disk) turns) kept' disks (files_entered old (Between filing))
enters_ok old filing function p turns kept kept' disks starts none calls stands many some serves =
    let s = situation_of filing function p old in
    let files : files_entered old (Between filing) ≡ entering_call p old (Between filing) = files_so old (Between filing) (Starts p) none starts in
    let count : turns_within (files_entered old (Between filing)) ≡ turns =
    ap turns_within (files ∙ enters_within old filing function p calls) ∙ sym many in
    let here : StandsForFiles (begun (turned old.kernel.disk) turns) kept' disks (entering_call p old (Between filing)) =
    entry_stands old kept kept' disks filing function p turns starts (stands_idle old.kernel.disk kept disks filing none stands) calls many some serves in (
      sym (entered_so turns old (Starts p) none starts) ∙ ap (λ (n : ℕ). call_entered n old) (sym count),
      subst (λ (f : FilesInService). StandsForFiles (begun (turned old.kernel.disk) turns) kept' disks f) (sym files) here,
    )

-- the next call enters where nobody is in service

abbrev Entered : System → System → Kept → Disks → FilesInService → Type 0
Entered old new kept disks files =
    (new ≡ call_entered (turns_within (files_entered old files)) old) × StandsForFiles new.kernel.disk kept disks (files_entered old files)

pub enters_by : (system new : System) (kept kept' : Kept) (disks : Disks) (files : FilesInService) → system.kernel.disk.served ≡ None → StandsForFiles system.kernel.disk kept disks files
    → ((filing : Filing) → StandsBetween kept disks filing → Entered system new kept' disks (Between filing))
    → Entered system new kept' disks files
enters_by system new kept kept' disks (Between filing) none stands enters =
    enters filing (subst (λ (served : Option Served). StandsServed served kept disks (Between filing)) none stands.stands)
enters_by system new kept kept' disks (Within s) none stands enters =
    absurd (subst (λ (served : Option Served). StandsServed served kept disks (Within s)) none stands.stands)

-- whose call starts waited: he lives, and keeps a call that the disk serves

starts_not : (b : Bool) (call : Served) (p : ℕ) → (if b then Work call.p (call.left == 1) else Passing) ≡ Starts p → ⊥
starts_not true call p starts = absurd (cc)
starts_not false call p starts = absurd (cc)

starts_first : (turn_steps : ℕ) (served : Option Served) (first : Option ℕ) (p : ℕ) → answer_by turn_steps served first ≡ Starts p → first ≡ Some p
unfolding step_answer
starts_first turn_steps None None p starts = absurd (cc)
starts_first turn_steps None (Some q) p starts = ap Some (ap who starts)
starts_first turn_steps (Some call) first p starts = absurd (starts_not (is_last_step turn_steps call) call p starts)

waits_at : (disk : DiskService) (p : ℕ) → in_list p disk.waiting ≡ true → 0 < at_disk disk p
unfolding at_disk
waits_at disk p waits = omega (arith, one_if_true (in_list p disk.waiting) waits)

pub starts_at : (disk : DiskService) (p : ℕ) → turn_answer disk ≡ Starts p → 0 < at_disk disk p
unfolding turn_answer
starts_at disk p starts = waits_at disk p (first_is_in disk.waiting p (starts_first disk.turn_steps disk.served (first_of disk.waiting) p starts))

pub starts_whole : (old : System) (kernel : Kernel) → kernel ≡ with_disk turned old.kernel → IsWhole old → IsWhole (record old { kernel = kernel })
starts_whole old kernel is w = subst (λ (k : Kernel). IsWhole (record old { kernel = k })) (sym is) (whole_passed old w)

pub starts_lives : (old kernel : Kernel) (p : ℕ) → kernel ≡ with_disk turned old → turn_answer old.disk ≡ Starts p → IsSoundKernel old → Lives kernel.dispatcher.procs p
starts_lives old kernel p is starts sound = subst (λ (k : Kernel). Lives k.dispatcher.procs p) (sym is) (at_disk_lives old p sound (starts_at old.disk p starts))

pub starts_filed : (old kernel : Kernel) (p : ℕ) → kernel ≡ with_disk turned old → turn_answer old.disk ≡ Starts p → AreFiled old
    → is_some (function_of (call_of kernel.dispatcher.procs p).function) ≡ true
starts_filed old kernel p is starts filed =
    subst (λ (k : Kernel). is_some (function_of (call_of k.dispatcher.procs p).function) ≡ true) (sym is) (filed p (starts_at old.disk p starts))

-- so it enters

pub begins_so : (p turns : ℕ) (old : System) (kernel : Kernel) (kept kept' : Kept) → kernel ≡ with_disk turned old.kernel → StartsCall p turns (record old { kernel = kernel }) kept kept'
    → StartsCall p turns (step_passed old) kept kept'
begins_so p turns old kernel kept kept' is begins = subst (λ (k : Kernel). StartsCall p turns (record old { kernel = k }) kept kept') is begins

pub begun_is : (turns : ℕ) (old : System) (kernel behind : Kernel) → kernel ≡ with_disk turned old.kernel → behind ≡ with_disk (λ disk. begun disk turns) kernel
    → record old { kernel = behind } ≡ with_kernel (with_disk (λ disk. begun disk turns)) (step_passed old)
begun_is turns old kernel behind is begins =
    ap (λ (k : Kernel). record old { kernel = k }) (begins ∙ ap (with_disk (λ disk. begun disk turns)) is)

pub enters_so : (old new : System) (p turns : ℕ) (kept kept' : Kept) (disks : Disks) (files : FilesInService) → new ≡ with_kernel (with_disk (λ disk. begun disk turns)) (step_passed old)
    → turn_answer old.kernel.disk ≡ Starts p → old.kernel.disk.served ≡ None → AreFiled old.kernel → StartsCall p turns (step_passed old) kept kept'
    → StandsForFiles old.kernel.disk kept disks files → Entered old new kept' disks files
enters_so old new p turns kept kept' disks files is starts none filed begins stands =
    enters_by old new kept kept' disks files none stands
    (λ filing between.
    let its = named_by (function_of (call_of old.kernel.dispatcher.procs p).function) (filed p (starts_at old.kernel.disk p starts)) in
    let so = enters_ok old filing its.0 p turns kept kept' disks starts none its.1 between
    (subst (λ (found : Filing). turns ≡ call_turns (situation_of found its.0 p old)) between.filing_is
    (begins.turns_are (images_of disks) filing.drives its.0 its.1 between.stand)) begins.some
    (subst (λ (found : Filing). Serves (images_of disks) kept' (situation_of found its.0 p old) 0) between.filing_is
    (begins.serves (images_of disks) filing.drives its.0 its.1 between.stand)) in
    (is ∙ so.0, subst (λ (system : System). StandsForFiles system.kernel.disk kept' disks (files_entered old (Between filing))) (sym is) so.1))

-- for whatever turns
abbrev pub IsEnteredFrom : System → System → Type 0
IsEnteredFrom old new = IsOfSome (λ (turns : ℕ). call_entered turns old) new

pub entered_made : (old new : System) (p turns : ℕ) → new ≡ with_kernel (with_disk (λ disk. begun disk turns)) (step_passed old) → turn_answer old.kernel.disk ≡ Starts p
    → old.kernel.disk.served ≡ None → IsEnteredFrom old new
entered_made old new p turns is starts none = (turns, is ∙ sym (entered_so turns old (Starts p) none starts))

pub enters_whole : (old new : System) → IsWhole old → IsEnteredFrom old new → IsWhole new
enters_whole old new w made = subst IsWhole (sym made.1) (whole_call_entered made.0 old w)

-- his is the call in service then
pub owns_entered : (old new : System) (p turns : ℕ) (kept kept' : Kept) → new ≡ with_kernel (with_disk (λ disk. begun disk turns)) (step_passed old)
    → turn_answer old.kernel.disk ≡ Starts p → old.kernel.disk.served ≡ None → AreFiled old.kernel → StartsCall p turns (step_passed old) kept kept' → OwnsService new.kernel kept'.service
unfolding turn_answer turned begun
owns_entered old new p turns kept kept' is starts none filed begins =
    let disk = old.kernel.disk in
    let procs = old.kernel.dispatcher.procs in
    let its = named_by (function_of (call_of procs p).function) (filed p (starts_at disk p starts)) in
    subst (λ (system : System). OwnsService system.kernel kept'.service) (sym is)
    (subst (λ (served : Option Served). IfSome served (λ (call : Served). IsOwnCall procs call.p kept'.service))
    (sym (entered_first disk.turn_steps disk.served (first_of disk.waiting) p turns none starts))
    (record {
      function = its.0;
      its = its.1;
      caller = caller_of p (looked_at (process_in procs p));
      multi = refl;
      entered = begins.entered its.0 its.1;
    }))

-- where nobody waits nobody does

unfoldable pub StartsNobody : Turn → Type 0
StartsNobody turn = (p : ℕ) → turn ≡ Starts p → ⊥

idle_by : (turn_steps : ℕ) (served : Option Served) (first : Option ℕ) → served ≡ None → StartsNobody (answer_by turn_steps served first) → answer_by turn_steps served first ≡ Idle
unfolding StartsNobody
idle_by turn_steps None None none nobody = refl
idle_by turn_steps None (Some p) none nobody = absurd (nobody p refl)
idle_by turn_steps (Some call) first none nobody = absurd (cc)

stays_idle : (disk : DiskService) → disk.served ≡ None → StartsNobody (turn_answer disk) → turn_answer disk ≡ Idle
unfolding turn_answer
stays_idle disk none nobody = idle_by disk.turn_steps disk.served (first_of disk.waiting) none nobody

pub nobody_turned : (disk : DiskService) → disk.served ≡ None → turn_answer disk ≡ Idle → (turned disk).served ≡ None
unfolding turn_answer turned
nobody_turned disk none idle = by_first disk.turn_steps disk.served (first_of disk.waiting) none idle
  where
    by_first : (turn_steps : ℕ) (served : Option Served) (first : Option ℕ) → served ≡ None → answer_by turn_steps served first ≡ Idle → served_after turn_steps served first ≡ None
    by_first turn_steps None None none idle = refl
    by_first turn_steps None (Some p) none idle = absurd (cc)
    by_first turn_steps (Some call) first none idle = absurd (cc)

pub none_enters : (old : System) (filing : Filing) (kept : Kept) (disks : Disks) → old.kernel.disk.served ≡ None → StartsNobody (turn_answer old.kernel.disk)
    → StandsBetween kept disks filing
    → (step_passed old ≡ call_entered (turns_within (files_entered old (Between filing))) old)
    × StandsForFiles (turned old.kernel.disk) kept disks (files_entered old (Between filing))
none_enters old filing kept disks none nobody stands =
    let idle = stays_idle old.kernel.disk none nobody in
    let files : files_entered old (Between filing) ≡ Between filing = files_so old (Between filing) Idle none idle in (
      sym (entered_so (turns_within (files_entered old (Between filing))) old Idle none idle),
      subst (λ (f : FilesInService). StandsForFiles (turned old.kernel.disk) kept disks f) (sym files)
          (stands_idle (turned old.kernel.disk) kept disks filing (nobody_turned old.kernel.disk none idle) stands),
    )

pub nobody_starts : (disk : DiskService) (answer : Turn) → answer ≡ turn_answer disk → ((p : ℕ) → answer ≡ Starts p → ⊥) → StartsNobody (turn_answer disk)
unfolding StartsNobody
nobody_starts disk answer is never = λ p starts. never p (is ∙ starts)

pub none_enters_so : (old : System) (kernel : Kernel) (kept : Kept) (disks : Disks) (files : FilesInService) → kernel ≡ with_disk turned old.kernel → old.kernel.disk.served ≡ None
    → StartsNobody (turn_answer old.kernel.disk) → StandsForFiles old.kernel.disk kept disks files → Entered old (record old { kernel = kernel }) kept disks files
none_enters_so old kernel kept disks files is none nobody stands =
    enters_by old (record old { kernel = kernel }) kept kept disks files none stands
    (λ filing between. subst (λ (k : Kernel). Entered old (record old { kernel = k }) kept disks (Between filing)) (sym is) (none_enters old filing kept disks none nobody between))

pub nobody_entered : (old kernel : Kernel) → kernel ≡ with_disk turned old → old.disk.served ≡ None → StartsNobody (turn_answer old.disk) → kernel.disk.served ≡ None
nobody_entered old kernel is none nobody = ap (λ (k : Kernel). k.disk.served) is ∙ nobody_turned old.disk none (stays_idle old.disk none nobody)

pub unserved_begun : (kernel : Kernel) → kernel.disk.served ≡ None → HasBegun kernel.disk
unserved_begun kernel none = subst (λ (served : Option Served). IfSome served (λ (call : Served). 0 < call.left)) (sym none) tt

pub unserved_own : (kernel : Kernel) (service : Option InService) → kernel.disk.served ≡ None → OwnsService kernel service
unserved_own kernel service none = subst (λ (served : Option Served). IfSome served (λ (call : Served). IsOwnCall kernel.dispatcher.procs call.p service)) (sym none) tt

pub nobody_made : (old : System) (kernel : Kernel) → kernel ≡ with_disk turned old.kernel → old.kernel.disk.served ≡ None → StartsNobody (turn_answer old.kernel.disk)
    → IsEnteredFrom old (record old { kernel = kernel })
nobody_made old kernel is none nobody =
    (1, ap (λ (k : Kernel). record old { kernel = k }) is ∙ sym (entered_so 1 old Idle none (stays_idle old.kernel.disk none nobody)))

-- those who ended give back where nobody is in service

given_within : (served : Option Served) (kept : Kept) (disks : Disks) (owed : List Bool) (files : FilesInService) → is_some served ≡ true → StandsServed served kept disks files
    → StandsServed served kept disks (given_back owed files)
given_within None kept disks owed files some stands = absurd (false≢true some)
given_within (Some call) kept disks owed (Between filing) some stands = absurd stands
given_within (Some call) kept disks owed (Within s) some stands = stands

pub pays : (system : System) (kept kept' : Kept) (disks : Disks) (files : FilesInService) → StandsForFiles system.kernel.disk kept disks files
    → kept' ≡ record kept { opens = kept'.opens; marks = kept'.marks; searches = kept'.searches }
    → (is_some system.kernel.disk.served ≡ true → kept' ≡ kept)
    → (system.kernel.disk.served ≡ None → (drives : List (Option Drive)) → filing_of kept' drives ≡ all_left system.owed (filing_of kept drives))
    → StandsForFiles (all_paid system).kernel.disk kept' disks (given_back system.owed files)
unfolding all_paid
pays system kept kept' disks files stands rest same left = by_served system.kernel.disk.served refl
  where
    by_served : (served : Option Served) → system.kernel.disk.served ≡ served → StandsForFiles (all_paid system).kernel.disk kept' disks (given_back system.owed files)
    by_served None is = paid_stands system kept kept' disks files stands is rest (λ filing there. left is filing.drives ∙ ap (all_left system.owed) there)
    by_served (Some call) is =
        let some : is_some system.kernel.disk.served ≡ true = ap is_some is in
        record {
          stands = subst (λ (k : Kept). StandsServed system.kernel.disk.served k disks (given_back system.owed files)) (sym (same some))
              (given_within system.kernel.disk.served kept disks system.owed files some stands.stands);
        }

-- that is all that they change

pub paid_kernel : (system paid : System) → paid ≡ all_paid system → paid.kernel ≡ system.kernel
unfolding all_paid
paid_kernel system paid is = ap (λ (s : System). s.kernel) is

pub paid_whole : (system paid : System) → paid ≡ all_paid system → IsWhole system → IsWhole paid
paid_whole system paid is w = subst IsWhole (sym is) (whole_all_paid system w)

pub paid_begun : (system paid : System) → paid ≡ all_paid system → HasBegun system.kernel.disk → HasBegun paid.kernel.disk
paid_begun system paid is begun = subst (λ (k : Kernel). HasBegun k.disk) (sym (paid_kernel system paid is)) begun

pub paid_filed : (system paid : System) → paid ≡ all_paid system → AreFiled system.kernel → AreFiled paid.kernel
paid_filed system paid is filed = subst AreFiled (sym (paid_kernel system paid is)) filed

pub paid_own : (system paid : System) (kept kept' : Kept) → paid ≡ all_paid system → kept' ≡ record kept { opens = kept'.opens; marks = kept'.marks; searches = kept'.searches }
    → OwnsService system.kernel kept.service → OwnsService paid.kernel kept'.service
paid_own system paid kept kept' is rest own =
    subst (λ (service : Option InService). OwnsService paid.kernel service) (sym (ap (λ (k : Kept). k.service) rest))
    (subst (λ (k : Kernel). OwnsService k kept.service) (sym (paid_kernel system paid is)) own)

-- it goes on where one is in service

pub nobody_enters : (turns : ℕ) (system : System) → is_some system.kernel.disk.served ≡ true → call_entered turns system ≡ system
unfolding call_entered
nobody_enters turns system some = ap (λ (served : Option ℕ). entered_unless served turns system) (somebody system.kernel.disk some).1

pub files_stay : (system : System) (files : FilesInService) → is_some system.kernel.disk.served ≡ true → files_entered system files ≡ files
unfolding files_entered
files_stay system files some = ap (λ (served : Option ℕ). files_entered_unless served system files) (somebody system.kernel.disk some).1

pub goes_on : (system : System) (kept : Kept) (disks : Disks) (files : FilesInService) → is_some system.kernel.disk.served ≡ true → StandsForFiles system.kernel.disk kept disks files
    → Entered system system kept disks files
goes_on system kept disks files some stands = (
  sym (nobody_enters (turns_within (files_entered system files)) system some),
  subst (λ (f : FilesInService). StandsForFiles system.kernel.disk kept disks f) (sym (files_stay system files some)) stands,
)

pub still_made : (old : System) → is_some old.kernel.disk.served ≡ true → IsEnteredFrom old old
still_made old some = (1, sym (nobody_enters 1 old some))

-- so the disk made its step

pub served_made : (old passed paid new : System) → IsServedBy old passed → paid ≡ all_paid passed → IsEnteredFrom paid new
    → IsOfSome (λ (telling : Telling). entered_after telling old) new
unfolding entered_after
served_made old passed paid new first pays last = (
  record { at_gate = nothing_told; at_disk = first.0; turns = last.0 },
  last.1 ∙ ap (λ (s : System). call_entered last.0 s) (pays ∙ ap all_paid first.1),
)

pub has_served_to : (files : FilesInService) (o n : Outside) (old passed new : System) (kept : Kept) (disks : Disks)
    → passed ≡ (disk_served (told_within files old) old).system → CameOut o n (disk_served (told_within files old) old).emitted
    → Entered (all_paid passed) new kept disks (given_back passed.owed (files_served old files))
    → HasServedTo files o n old new kept disks
unfolding files_then files_paid
has_served_to files o n old passed new kept disks is wrote entered =
    let P : System → Type 0 = λ system. Entered (all_paid system) new kept disks (given_back system.owed (files_served old files)) in
    let so = subst P is entered in
    record { system = so.0; wrote = wrote; stands = so.1 }

pub entered_behind : (passed paid new : System) (kept kept' kept'' : Kept) (disks : Disks) (files : FilesInService) → paid ≡ all_paid passed → StandsForFiles passed.kernel.disk kept disks files
    → kept' ≡ record kept { opens = kept'.opens; marks = kept'.marks; searches = kept'.searches }
    → (is_some passed.kernel.disk.served ≡ true → kept' ≡ kept)
    → (passed.kernel.disk.served ≡ None → (drives : List (Option Drive)) → filing_of kept' drives ≡ all_left passed.owed (filing_of kept drives))
    → ((found : FilesInService) → StandsForFiles paid.kernel.disk kept' disks found → Entered paid new kept'' disks found)
    → Entered (all_paid passed) new kept'' disks (given_back passed.owed files)
entered_behind passed paid new kept kept' kept'' disks files is stands rest same left enters =
    subst (λ (system : System). Entered system new kept'' disks (given_back passed.owed files)) is
    (enters (given_back passed.owed files)
    (subst (λ (system : System). StandsForFiles system.kernel.disk kept' disks (given_back passed.owed files)) (sym is)
    (pays passed kept kept' disks files stands rest same left)))

-- where nobody was in service as it began
pub none_served : (told : Directly) (system : System) → system.kernel.disk.served ≡ None → disk_served told system ≡ silent system
unfolding disk_served
none_served told system none = ap (λ (served : Option ℕ). served_by served told system) (nobody_served system.kernel.disk none)

pub files_kept : (system : System) (files : FilesInService) → system.kernel.disk.served ≡ None → files_served system files ≡ files
unfolding files_served
files_kept system files none = ap (λ (served : Option ℕ). files_served_by served system files) (nobody_served system.kernel.disk none)

pub worked_between : (turn_steps : ℕ) (served : Option Served) (kept : Kept) (disks : Disks) (files : FilesInService) → served ≡ None → StandsWorkedBy turn_steps served kept disks files
    → StandsServed served kept disks files
worked_between turn_steps None kept disks (Between filing) none stands = stands
worked_between turn_steps None kept disks (Within s) none stands = absurd stands
worked_between turn_steps (Some call) kept disks files none stands = absurd (cc)

pub nothing_passes : (files : FilesInService) (o : Outside) (old : System) (kept : Kept) (disks : Disks) → old.kernel.disk.served ≡ None → StandsWorked old.kernel.disk kept disks files
    → (old ≡ (disk_served (told_within files old) old).system) × CameOut o o (disk_served (told_within files old) old).emitted × StandsForFiles old.kernel.disk kept disks (files_served old files)
nothing_passes files o old kept disks none stands =
    let is = none_served (told_within files old) old none in (
      sym (ap (λ (c : SystemChange). c.system) is),
      subst (λ (c : SystemChange). CameOut o o c.emitted) (sym is) (wrote_nothing o),
      subst (λ (f : FilesInService). StandsForFiles old.kernel.disk kept disks f) (sym (files_kept old files none))
          (record { stands = worked_between old.kernel.disk.turn_steps old.kernel.disk.served kept disks files none stands.stands }),
    )

pub none_made : (old : System) → old.kernel.disk.served ≡ None → IsServedBy old old
none_made old none = (nothing_told, sym (ap (λ (c : SystemChange). c.system) (none_served nothing_told old none)))

-- who is at the disk keeps a call that it serves

pub passed_filed : (old new : System) → IsWhole old → AreFiled old.kernel → IsServedBy old new → AreFiled new.kernel
passed_filed old new w filed made = filed_still old.kernel new.kernel (subst (SystemKeepsCalls old) (sym made.1) (calls_disk_served made.0 old w)) filed

pub filed_if_passed : {A E : Type 0} (r : Result A E) (old new : System) → IsWhole old → AreFiled old.kernel → OnOk r (IsServedBy old new) → OnOk r (AreFiled new.kernel)
filed_if_passed r old new w filed = on_ok_weaker r (passed_filed old new w filed)

calls_paid : (system : System) → SystemKeepsCalls system (all_paid system)
unfolding all_paid
calls_paid system = calls_same system.kernel (all_paid system).kernel refl refl

pub calls_entered_after : (telling : Telling) (system : System) → IsWhole system → SystemKeepsCalls system (entered_after telling system)
unfolding entered_after
calls_entered_after telling system w =
    let passed = (disk_served telling.at_disk system).system in
    calls_then system.kernel (all_paid passed).kernel _
    (calls_then system.kernel passed.kernel (all_paid passed).kernel (calls_disk_served telling.at_disk system w) (calls_paid passed))
    (calls_call_entered telling.turns (all_paid passed))

pub served_filed : (old new : System) → IsWhole old → AreFiled old.kernel → IsOfSome (λ (telling : Telling). entered_after telling old) new → AreFiled new.kernel
served_filed old new w filed made = filed_still old.kernel new.kernel (subst (SystemKeepsCalls old) (sym made.1) (calls_entered_after made.0 old w)) filed
