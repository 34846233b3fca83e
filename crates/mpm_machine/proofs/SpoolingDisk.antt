-- The spooler goes on through the disk's part of a step, and so in each step.
use Rattle.std.proofs.Common.{ℕ, ◌<◌, ◌≡◌, ◌≢◌, ◌∙◌, ◌&&◌, not, Bool, true, false, List, ◌++◌, if◌then◌else◌, Option, Some, None, option_map, IfSome, inl, inr, refl, sym, ap, subst, arith}
use Rattle.std.specs.Prelude.{is_some}
use Rattle.std.proofs.lemmas.Option.{none-some}
use Rattle.std.proofs.lemmas.Bool.{cases_eq, cases_lt}
use Rattle.std.proofs.lemmas.List.{append_assoc}
use Rattle.mpm_base.specs.Calls.{Answer}
use Rattle.mpm_directories.specs.Direct.{Directly}
use Rattle.mpm_dispatcher.specs.Dispatch.{IsReady}
use Rattle.mpm_kernel.proofs.AwaitingLaws.{awaits_heir}
use Rattle.mpm_kernel.proofs.Beside.{beside_same}
use Rattle.mpm_kernel.proofs.DiskLaws.{ready_not_at_disk, sound_turned, over_turned, sound_ready_again, ready_ready_again}
use Rattle.mpm_kernel.specs.Awaiting.{completions}
use Rattle.mpm_kernel.specs.Disk.{with_disk, ready_again as made_ready_again}
use Rattle.mpm_procs.specs.Table.{Lives}
use Rattle.mpm_render.specs.Outputs.{Output}
use Rattle.mpm_residents.specs.Natives.{native_call}
use Rattle.mpm_residents.specs.declared.native.Native.{Native}
use Rattle.mpm_script.specs.declared.event.Event.{Event}
use Rattle.mpm_service.proofs.PlaceLaws.{at_last, at_turned_still, at_begun}
use Rattle.mpm_service.specs.Disk.{served_process, turned, turn_answer, begun}
use Rattle.mpm_service.specs.Places.{at_disk}
use Rattle.mpm_service.specs.declared.service.Served.{Served}
use Rattle.mpm_service.specs.declared.service.Turn.{Turn}
use Rattle.mpm_service.specs.declared.service.Turn.TheVariants.{Idle, Passing, Work, Starts}
use Rattle.mpm_spool.specs.Spoolers.{next_call, after}
use Rattle.mpm_system.specs.Coming.{coming, counted}
use Rattle.mpm_system.specs.FileCalling.{call_made}
use Rattle.mpm_system.specs.Owing.{nobody_owes}
use Rattle.mpm_system.specs.Whole.{SystemChange, IsWhole, silent}
use Rattle.mpm_system.specs.declared.system.System.{System}
use Rattle.mpm_machine.proofs.DiskStepLaws.{never_works, same_worker, whole_passed, whole_ready_again}
use Rattle.mpm_machine.proofs.FileLaws.{whole_concluded}
use Rattle.mpm_machine.proofs.FiledLaws.{caller_files, caller_lives, caller_ready, whole_begun, whole_begun_as}
use Rattle.mpm_machine.proofs.RestLaws.{whole_entered_after}
use Rattle.mpm_machine.proofs.SparedParts.{Spares, spares_then, spares_same, spares_itself, spares_kernel, bytes_both, recorded_same}
use Rattle.mpm_machine.proofs.PlainLaws.{nowhere}
use Rattle.mpm_machine.proofs.PrinterCalls.{prints_same}
use Rattle.mpm_machine.proofs.SparedActs.{spares_after}
use Rattle.mpm_machine.proofs.SpoolingFiles.{Called, MakesFiled, Passes, goes_file_called, spares_concluded, own_concluded, files_places}
use Rattle.mpm_machine.proofs.SpoolingLaws.{Stays, Spools, spooling_by, so_then}
use Rattle.mpm_machine.proofs.SpoolingRows.{Goes, outputs_same}
use Rattle.mpm_machine.proofs.SpoolingSteps.{goes_spared, goes_begun, goes_all_finished, goes_all_answered, goes_with_ends}
use Rattle.mpm_machine.proofs.WholeStepLaws.{coming_may, whole_counted}
use Rattle.mpm_machine.specs.DiskStep.{owed_then, ready_again, call_over, step_passed, over_after, served_by, disk_served, all_paid, entered_by, entered_unless, call_entered}
use Rattle.mpm_machine.specs.Due.{with_ends}
use Rattle.mpm_machine.specs.FileCalls.{calls_files, called_next, concluded, file_caller, file_caller_by, is_file_number, is_of_files}
use Rattle.mpm_machine.specs.Files.{owes}
use Rattle.mpm_machine.specs.Printed.{bytes_to}
use Rattle.mpm_machine.specs.Spooling.{IsAtHome, KeepsFileCall}
use Rattle.mpm_machine.specs.Stepping.{Telling, begun_as, begun_with, ended_after, entered_after, is_instruction, paid_after, rest_of, step_with, unwritten_rest}

-- a step of the disk in which its call isn't over
spares_turned : (q : ℕ) (system : System) → (turn_answer system.kernel.disk ≡ Work q true → ⊥) → Spares q system (silent (step_passed system))
spares_turned q system last =
    let procs = system.kernel.dispatcher.procs in
    spares_kernel q system (with_disk turned system.kernel) (beside_same q procs procs refl) (prints_same q system.kernel (with_disk turned system.kernel) refl refl)
    (at_turned_still system.kernel.disk q last) (λ k x. x)

spares_over : (q p : ℕ) (system : System) → IsWhole system → q ≢ p → turn_answer system.kernel.disk ≡ Work p true → Spares q system (silent (ready_again p (step_passed system)))
spares_over q p system w other last =
    let procs = system.kernel.dispatcher.procs in
    let over = over_turned system.kernel p w.sound last in
    let again = made_ready_again p (with_disk turned system.kernel) in
    spares_kernel q system again (beside_same q procs procs refl) (prints_same q system.kernel again refl refl)
    (at_turned_still system.kernel.disk q (λ own. other (same_worker (turn_answer system.kernel.disk) p q last own)))
    (λ k x. awaits_heir k q (Some p) procs system.kernel.dispatcher.lists system.kernel.dispatcher.completed w.sound.slots (λ h is. lives_it p h over.lives is) x)
  where
    lives_it : (p h : ℕ) → Lives system.kernel.dispatcher.procs p → Some p ≡ Some h → Lives system.kernel.dispatcher.procs h
    lives_it p h living is = (let same : p ≡ h = cc in subst (Lives system.kernel.dispatcher.procs) same living)

-- its own call is over: it awaited no other answer

over_awaits : {Such : List Answer → Type 0} (q : ℕ) (system : System) (outputs : List Output) → IsWhole system → (i : Spools Such q system outputs) → at_disk system.kernel.disk q ≡ 1
    → completions q system.kernel.dispatcher.completed ≡ 0
over_awaits {Such} q system outputs w i one = elim (cases_lt (completions q system.kernel.dispatcher.completed) 1) [
  | inl less ↦ omega (arith, less)
  | inr enough ↦
      let k = files_places i.answers (at_disk system.kernel.disk q) (i.filed (omega (arith, one))).files in
      absurd (omega (arith, one, ready_not_at_disk system.kernel q w.sound (i.awaits.at_once (omega (arith, enough, k, one)))))
]

own_over : {Such : List Answer → Type 0} (q : ℕ) (system : System) (outputs : List Output) → IsWhole system → turn_answer system.kernel.disk ≡ Work q true → (i : Spools Such q system outputs)
    → MakesFiled q i.answers (ready_again q (step_passed system)) outputs
own_over {Such} q system outputs w last i =
    let kernel = with_disk turned system.kernel in
    let gone = at_last system.kernel.disk q last in
    let one : at_disk system.kernel.disk q ≡ 1 = omega (arith, gone, w.sound.once q) in
    let none = over_awaits q system outputs w i one in
    let over = over_turned system.kernel q w.sound last in
    let passed = sound_turned system.kernel w.sound in
    let filed = i.filed (omega (arith, one)) in
    record {
      acts = i.acts;
      home = record { lives = i.home.lives; resides = i.home.resides; answers = i.home.answers; goes_on = i.home.goes_on; calls = i.home.calls; set = i.home.set; pays = i.home.pays };
      filed = record { files = filed.files; kept = filed.kept; block = filed.block };
      none = record { table = (sound_ready_again kernel q passed over).table; few = omega (arith, none); at_once = λ _. ready_ready_again kernel q passed over };
      gone = omega (arith, gone, one);
      has = λ has. (i.owns has, i.printed has);
      came = i.came;
    }

-- a call is over

-- what is so then of its answers
pub record Over (Such New : List Answer → Type 0) (q : ℕ) (turn : Turn) (told : Directly) (system : System) : Type 0 where
  pub last : (p : ℕ) → turn ≡ Work p true → Passes Such New q p told (ready_again p (step_passed system))
  pub more : ((p : ℕ) → turn ≢ Work p true) → (answers : List Answer) → Such answers → New answers
  pub stays : Stays New

goes_concluded : {Such New : List Answer → Type 0} (q : ℕ) (told : Directly) (p : ℕ) (system : System) (outputs : List Output) → IsWhole system → turn_answer system.kernel.disk ≡ Work p true
    → Over Such New q (turn_answer system.kernel.disk) told system → Spools Such q system outputs → Goes New q (concluded told p (ready_again p (step_passed system))) outputs
goes_concluded {Such} {New} q told p system outputs w last over i = elim (cases_eq q p) [
  | inl same ↦
      let P : ℕ → Type 0 = λ r. Goes New q (concluded told r (ready_again r (step_passed system))) outputs in
      let now = subst (λ (r : ℕ). turn_answer system.kernel.disk ≡ Work r true) (sym same) last in
      let made = own_over q system outputs w now i in
      let own = (over.last q now).own refl i.answers made.home made.filed i.so in
      subst P same (own_concluded q i.answers told (ready_again q (step_passed system)) outputs made own.0 own.1 over.stays)
  | inr other ↦
      let ended = over_turned system.kernel p w.sound last in
      let again = ready_again p (step_passed system) in
      let whole = whole_ready_again p (step_passed system) (whole_passed system w) ended in
      goes_spared q system _ outputs
      (spares_after q system again _ (spares_over q p system w other last) (spares_concluded q told p again whole ended.lives other))
      (so_then q system outputs i over.stays ((over.last p last).others other i.answers i.so))
]

goes_call_over : {Such New : List Answer → Type 0} (q : ℕ) (told : Directly) (p : ℕ) (system : System) (outputs : List Output) → IsWhole system → turn_answer system.kernel.disk ≡ Work p true
    → Over Such New q (turn_answer system.kernel.disk) told system → Spools Such q system outputs → Goes New q (call_over told p (step_passed system)) outputs
unfolding call_over
goes_call_over {Such} {New} q told p system outputs w last so i =
    let over = over_turned system.kernel p w.sound last in
    let again = ready_again p (step_passed system) in
    let whole = whole_ready_again p (step_passed system) (whole_passed system w) over in
    let done = concluded told p again in
    goes_all_finished q done.system (done.emitted ++ outputs) (whole_concluded told p again whole over.lives) (goes_concluded q told p system outputs w last so i)

not_last : (turn : Turn) (told : Directly) (system : System) → turn_answer system.kernel.disk ≡ turn → ((p : ℕ) → turn ≢ Work p true) → (p : ℕ) → turn_answer system.kernel.disk ≢ Work p true
not_last turn told system is never p last = never p (sym is ∙ last)

goes_on_turned : {Such New : List Answer → Type 0} (q : ℕ) (told : Directly) (system : System) (outputs : List Output) → ((p : ℕ) → turn_answer system.kernel.disk ≢ Work p true)
    → Over Such New q (turn_answer system.kernel.disk) told system → Spools Such q system outputs → Goes New q (silent (step_passed system)) outputs
goes_on_turned {Such} {New} q told system outputs never so i =
    goes_spared q system (silent (step_passed system)) outputs (spares_turned q system (never q)) (so_then q system outputs i so.stays (so.more never i.answers i.so))

goes_after : {Such New : List Answer → Type 0} (q : ℕ) (turn : Turn) (told : Directly) (system : System) (outputs : List Output) → turn_answer system.kernel.disk ≡ turn → IsWhole system
    → Over Such New q (turn_answer system.kernel.disk) told system → Spools Such q system outputs → Goes New q (over_after turn told (step_passed system)) outputs
goes_after {Such} {New} q Idle told system outputs is w so i = goes_on_turned q told system outputs (not_last Idle told system is (λ p last. absurd (cc))) so i
goes_after {Such} {New} q Passing told system outputs is w so i = goes_on_turned q told system outputs (not_last Passing told system is (λ p last. absurd (cc))) so i
goes_after {Such} {New} q (Starts p) told system outputs is w so i = goes_on_turned q told system outputs (not_last (Starts p) told system is (λ r last. absurd (cc))) so i
goes_after {Such} {New} q (Work p true) told system outputs is w so i = goes_call_over q told p system outputs w is so i
goes_after {Such} {New} q (Work p false) told system outputs is w so i = goes_on_turned q told system outputs (not_last (Work p false) told system is (λ r last. absurd (cc))) so i

-- where no call is in service, none is over
goes_served_by : {Such New : List Answer → Type 0} (q : ℕ) (served : Option ℕ) (told : Directly) (system : System) (outputs : List Output) → served_process system.kernel.disk ≡ served → IsWhole system
    → Over Such New q (turn_answer system.kernel.disk) told system → Spools Such q system outputs → Goes New q (served_by served told system) outputs
goes_served_by {Such} {New} q None told system outputs is w so i =
    so_then q system outputs i so.stays (so.more (λ p. never_works system.kernel.disk p is) i.answers i.so)
goes_served_by {Such} {New} q (Some p) told system outputs is w so i = goes_after q (turn_answer system.kernel.disk) told system outputs refl w so i

goes_disk_served : {Such New : List Answer → Type 0} (q : ℕ) (told : Directly) (system : System) (outputs : List Output) → IsWhole system
    → Over Such New q (turn_answer system.kernel.disk) told system → Spools Such q system outputs → Goes New q (disk_served told system) outputs
unfolding disk_served
goes_disk_served {Such} {New} q told system outputs w so i = goes_served_by q (served_process system.kernel.disk) told system outputs refl w so i

-- the next one enters

none_owes : (q : ℕ) → owes nobody_owes q ≡ false
none_owes q = nowhere 32 q

spares_paid : (q : ℕ) (system : System) → Spares q system (silent (all_paid system))
unfolding all_paid
spares_paid q system = spares_same q system (all_paid system) refl refl refl refl refl refl (λ pays. still_pays system.kernel.disk.served pays) where
  still_pays : (served : Option Served) → owes system.owed q ≡ false → owes (owed_then served system.owed) q ≡ false
  still_pays None pays = none_owes q
  still_pays (Some call) pays = pays

spares_entered_by : (q : ℕ) (turn : Turn) (turns : ℕ) (system : System) → Spares q system (silent (entered_by turn turns system))
spares_entered_by q Idle turns system = spares_itself q system
spares_entered_by q Passing turns system = spares_itself q system
spares_entered_by q (Work p last) turns system = spares_itself q system
spares_entered_by q (Starts p) turns system =
    let procs = system.kernel.dispatcher.procs in
    let entered = with_disk (λ disk. begun disk turns) system.kernel in
    spares_kernel q system entered (beside_same q procs procs refl) (prints_same q system.kernel entered refl refl) (at_begun system.kernel.disk turns q) (λ k x. x)

spares_entered_unless : (q : ℕ) (served : Option ℕ) (turns : ℕ) (system : System) → served_process system.kernel.disk ≡ served → Spares q system (silent (entered_unless served turns system))
spares_entered_unless q (Some p) turns system is = spares_itself q system
spares_entered_unless q None turns system is =
    let passed = step_passed system in
    spares_then q system passed _ (spares_turned q system (never_works system.kernel.disk q is)) (spares_entered_by q (turn_answer system.kernel.disk) turns passed)

spares_call_entered : (q turns : ℕ) (system : System) → Spares q system (silent (call_entered turns system))
unfolding call_entered
spares_call_entered q turns system = spares_entered_unless q (served_process system.kernel.disk) turns system refl

-- what a step begins with

-- it isn't one on files where nobody makes such a call, and no event comes
never_files : {Such : List Answer → Type 0} (q : ℕ) (system : System) (outputs : List Output) (i : Spools Such q system outputs) → file_caller system ≡ None
    → coming (counted system) ≡ None → system.kernel.dispatcher.running ≡ Some q → is_of_files (next_call (after i.answers)).function ≡ false
unfolding file_caller calls_files
never_files {Such} q system outputs i none comes runs = by_test (is_of_files (next_call (after i.answers)).function) refl where
  its_call : calls_files q system ≡ is_of_files (next_call (after i.answers)).function
  its_call =
      ap (λ (seg : Option ℕ). is_file_number (called_next seg q system)) i.home.resides
      ∙ ap (λ (o : Option Native). is_file_number (option_map (λ (native : Native). (native_call native).function) o)) i.acts

  by_test : (b : Bool) → is_of_files (next_call (after i.answers)).function ≡ b → b ≡ false
  by_test false is = refl
  by_test true is =
      let called : file_caller system ≡ Some q =
      ap (λ (event : Option Event). file_caller_by (is_some event) system.kernel.dispatcher.running system) comes
      ∙ ap (λ (running : Option ℕ). file_caller_by false running system) runs
      ∙ ap (λ (b : Bool). if b && not false then Some q else None) (its_call ∙ is) in
      absurd (none-some q (sym none ∙ called))

-- what is so of its answers before and after that
pub record Begins (Such New : List Answer → Type 0) (q : ℕ) (caller : Option ℕ) (told : Directly) (system : System) : Type 0 where
  pub made : (p : ℕ) → caller ≡ Some p → Called Such New q p told (call_made p system)
  pub none : caller ≡ None → (answers : List Answer) → Such answers → New answers
  pub stays : Stays New

goes_begun_with : {Such New : List Answer → Type 0} (q : ℕ) (caller : Option ℕ) (told : Directly) (system : System) (outputs : List Output) → file_caller system ≡ caller → IsWhole system
    → IfSome caller (λ p. Lives system.kernel.dispatcher.procs p) → IfSome caller (λ p. IsReady system.kernel.dispatcher p) → IfSome caller (λ p. calls_files p system ≡ true)
    → Begins Such New q caller told system → Spools Such q system outputs → Goes New q (begun_with caller told system) outputs
unfolding spooling_by so_then
goes_begun_with {Such} {New} q None told system outputs is w h ready files so i =
    let now = counted system in
    let whole = whole_counted system w in
    let later = so_then q system outputs i so.stays (so.none refl i.answers i.so) in
    goes_begun q (coming now) now outputs (coming_may now whole) whole (spooling_by q system (silent now) outputs (spares_same q system now refl refl refl refl refl refl (λ x. x)) later)
    (λ comes runs. never_files q system outputs i is comes runs)
goes_begun_with {Such} {New} q (Some p) told system outputs is w h ready files so i = goes_file_called q told p system outputs w h ready files (so.made p refl) i

goes_begun_as : {Such New : List Answer → Type 0} (q : ℕ) (told : Directly) (system : System) (outputs : List Output) → IsWhole system
    → Begins Such New q (file_caller system) told system → Spools Such q system outputs → Goes New q (begun_as told system) outputs
unfolding begun_as
goes_begun_as {Such} {New} q told system outputs w so i =
    let first = begun_with (file_caller system) told system in
    goes_all_answered q first.system (first.emitted ++ outputs) (whole_begun told system w)
    (goes_begun_with q (file_caller system) told system outputs refl w (caller_lives system w) (caller_ready system w) (caller_files system) so i)

-- and the rest of it

-- what is so of its answers as the disk has made its step, as those have given back what they owe, as the next call has entered, and at the
-- end
pub record Rests (Such Over_it Paid Entered Ended : List Answer → Type 0) (q : ℕ) (telling : Telling) (system : System) : Type 0 where
  pub over : Over Such Over_it q (turn_answer system.kernel.disk) telling.at_disk system
  pub paid : (answers : List Answer) → owes (disk_served telling.at_disk system).system.owed q ≡ false → Over_it answers → Paid answers
  pub paid_stays : Stays Paid
  pub enters : (answers : List Answer) → IsAtHome q (paid_after telling.at_disk system)
      → (0 < at_disk (paid_after telling.at_disk system).kernel.disk q → KeepsFileCall q answers (paid_after telling.at_disk system)) → Paid answers → Entered answers
  pub enters_stays : Stays Entered
  pub ends : (answers : List Answer) → owes (ended_after telling system).owed q ≡ false → Entered answers → Ended answers
  pub ends_stays : Stays Ended

goes_rest : {Such Over_it Paid Entered Ended : List Answer → Type 0} (q : ℕ) (instruction : Bool) (telling : Telling) (first : SystemChange) (outputs : List Output) → IsWhole first.system
    → Rests Such Over_it Paid Entered Ended q telling first.system → Goes Such q first outputs → Goes Ended q (rest_of instruction telling first) outputs
unfolding rest_of ended_after entered_after
goes_rest {Such} {Over_it} {Paid} {Entered} {Ended} q instruction telling first outputs w so i =
    let served = disk_served telling.at_disk first.system in
    let said = served.emitted ++ (first.emitted ++ outputs) in
    let second : Spools Over_it q served.system said = goes_disk_served q telling.at_disk first.system (first.emitted ++ outputs) w so.over i in
    let then_paid : Spools Paid q served.system said = so_then q served.system said second so.paid_stays (so.paid second.answers second.home.pays second.so) in
    let paid = paid_after telling.at_disk first.system in
    let third : Spools Paid q paid said = goes_spared q served.system (silent paid) said (spares_paid q served.system) then_paid in
    let then_enters : Spools Entered q paid said = so_then q paid said third so.enters_stays (so.enters third.answers third.home third.filed third.so) in
    let entered = call_entered telling.turns paid in
    let fourth : Spools Entered q entered said = goes_spared q paid (silent entered) said (spares_call_entered q telling.turns paid) then_enters in
    let ended = with_ends entered in
    let fifth : Spools Entered q ended said = goes_with_ends q entered said (whole_entered_after telling first.system w) fourth in
    let then_ends : Spools Ended q ended said = so_then q ended said fifth so.ends_stays (so.ends fifth.answers fifth.home.pays fifth.so) in
    let last = all_paid ended in
    let sixth : Spools Ended q last said = goes_spared q ended (silent last) said (spares_paid q ended) then_ends in
    let whole = unwritten_rest telling first in
    let final = (rest_of instruction telling first).system in
    let seventh : Spools Ended q final said = goes_spared q last (silent final) said (spares_same q last final refl refl refl refl refl refl (λ x. x)) sixth in
    outputs_same q final said ((rest_of instruction telling first).emitted ++ outputs)
    (bytes_both 0 (rest_of instruction telling first).emitted outputs
    ∙ ap (λ (xs : List ℕ). xs ++ bytes_to 0 outputs) (recorded_same 0 whole.system.records whole.emitted)
    ∙ sym (bytes_both 0 (served.emitted ++ first.emitted) outputs) ∙ ap (bytes_to 0) (append_assoc served.emitted first.emitted outputs)) seventh

-- a step

pub goes_in_step : {Such New Over_it Paid Entered Ended : List Answer → Type 0} (q : ℕ) (telling : Telling) (system : System) (outputs : List Output) → IsWhole system
    → Begins Such New q (file_caller system) telling.at_gate system → Rests New Over_it Paid Entered Ended q telling (begun_as telling.at_gate system).system
    → Spools Such q system outputs → Goes Ended q (step_with telling system) outputs
unfolding step_with
goes_in_step {Such} {New} {Over_it} {Paid} {Entered} {Ended} q telling system outputs w begins rests i =
    goes_rest q (is_instruction (file_caller system) system) telling (begun_as telling.at_gate system) outputs (whole_begun_as telling.at_gate system w) rests
    (goes_begun_as q telling.at_gate system outputs w begins i)
