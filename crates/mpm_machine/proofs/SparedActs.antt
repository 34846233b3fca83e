-- What the running process does leaves the slot of a resident that is another one: nothing comes to a printer that is the resident's.
use Rattle.std.proofs.Common.{ℕ, ◌≡◌, ◌≢◌, ◌∙◌, ◌==◌, ◌&&◌, Bool, true, false, List, [], ◌∷◌, ◌++◌, length, Option, Some, None, refl, sym, ap, subst, arith}
use Rattle.std.specs.Prelude.{◌<◌, nat_lt, if◌then◌else◌}
use Rattle.std.proofs.lemmas.Bool.{false≢true, eqb-true}
use Rattle.std.proofs.lemmas.Bool.Decides.{nat_tests}
use Rattle.mpm_base.proofs.Choices.{either}
use Rattle.mpm_base.specs.Calls.{Taken, Answer}
use Rattle.mpm_base.specs.declared.call.Outcome.{Outcome as Ended_how}
use Rattle.mpm_base.specs.declared.call.Outcome.TheVariants.{Done, Held, Retry, Ended}
use Rattle.mpm_base.specs.declared.functions.TheConstants.{LIST_OUTPUT}
use Rattle.mpm_consoles.proofs.PlaceLaws.{owner_is}
use Rattle.mpm_consoles.specs.Consoles.{owner_of}
use Rattle.mpm_consoles.specs.Handling.{may_attach}
use Rattle.mpm_base.specs.declared.unit.Unit.TheVariants.{Printer}
use Rattle.mpm_dispatcher.specs.Dispatch.{IsReady}
use Rattle.mpm_gate.specs.Replies.{answered}
use Rattle.mpm_gate.specs.declared.gate.Gate.{Gate}
use Rattle.mpm_gate.specs.declared.gate.Gate.TheVariants.{End, Call, Return}
use Rattle.mpm_kernel.proofs.AwaitingEnds.{awaits_given_back}
use Rattle.mpm_kernel.proofs.DiskStays.{disk_given_back}
use Rattle.mpm_kernel.proofs.EndingLaws.{beside_given_back}
use Rattle.mpm_kernel.proofs.InputLaws.{owns_attached}
use Rattle.mpm_kernel.specs.Called.{Called, done, valued, failure_code}
use Rattle.mpm_kernel.specs.Calls.{called, call_done, does_echo}
use Rattle.mpm_kernel.specs.Consoling.{attached, attaching, retried, printer_called, unit_called}
use Rattle.mpm_kernel.specs.Kernel.{Kernel, IsSoundKernel, call_begun, with_changed}
use Rattle.mpm_kernel.specs.Procedures.{given_back}
use Rattle.mpm_output.specs.Texts.{illegal_text}
use Rattle.mpm_output.specs.Writing.{spoken}
use Rattle.mpm_procs.specs.Table.{Lives, process_in, call_of}
use Rattle.mpm_render.specs.Outputs.{Output, said}
use Rattle.mpm_system.proofs.WholeLaws.{keeps_call}
use Rattle.mpm_system.specs.Answering.{answering_call, popped, recorded, replied}
use Rattle.mpm_system.specs.Calling.{Served, calling}
use Rattle.mpm_system.specs.Saying.{said_by, string_of, echo_of}
use Rattle.mpm_system.specs.Taking.{asked, keeping}
use Rattle.mpm_system.specs.Whole.{SystemChange, IsWhole, silent, speaking}
use Rattle.mpm_system.specs.declared.system.System.{System}
use Rattle.mpm_xdos.specs.Procedures.{entered, entering, leaving, returned_from_procedure}
use Rattle.z80_ext.specs.Instruction.{registers_after}
use Rattle.z80_regs.specs.Outcome.{StepOutcome}
use Rattle.mpm_machine.proofs.ActedLaws.{whole_served}
use Rattle.mpm_machine.proofs.PrinterEnds.{prints_given_back}
use Rattle.mpm_machine.proofs.SparedParts.{Spares, spares_then, spares_on, spares_itself, spares_kernel, spares_changed, spares_regs, spares_spoke, spares_ended, spares_asking, spares_served, bytes_both, said_elsewhere, nothing_said, nothing_spoken, disk_place}
use Rattle.mpm_machine.proofs.WholeLaws.{whole_speaking}
use Rattle.mpm_machine.specs.Ending.{ended}
use Rattle.mpm_machine.specs.Printed.{bytes_to}
use Rattle.mpm_machine.specs.Serving.{after_echo, completing, fulfilling, gate_step, is_entry, outcome_of, reply_at_entry, returning, served, served_to_all, with_entry}
use Rattle.mpm_machine.specs.Step.{acted_at, executed, illegal, instructed, instruction_at}

-- function 5 is done where the printer is the caller's own then

-- the same call, whose function is known
of_function : (call : Taken) (f : ℕ) → call.function ≡ f → call ≡ record call { function = f }
of_function call f is = ap (λ (g : ℕ). record call { function = g }) is

-- where it is done and there are printers, the one of that number is the caller's
pub record IsOwners (p n : ℕ) (done : Called) : Type 0 where
  pub owner : done.outcome ≡ Done → nat_lt 0 (length done.kernel.units.printers) ≡ true → owner_of done.kernel.units (Printer n) ≡ Some p
  pub number : (process_in done.kernel.dispatcher.procs p).printer ≡ n

attached_by : (may : Bool) (p n : ℕ) (kernel : Kernel) → may_attach kernel.units p (Printer n) ≡ may → n < length kernel.units.printers → (process_in kernel.dispatcher.procs p).printer ≡ n
    → IsOwners p n (if may then done (attaching p (Printer n) true kernel) else (retried p (attaching p (Printer n) true kernel)))
unfolding retried
attached_by true p n kernel may there is =
    record { owner = λ _ _. owner_is (owner_of (attaching p (Printer n) true kernel).units (Printer n)) p (owns_attached kernel p (Printer n) true there may); number = is }
attached_by false p n kernel may there is = record { owner = λ done some. absurd (cc); number = is }

attached_so : (p n : ℕ) (kernel : Kernel) → n < length kernel.units.printers → (process_in kernel.dispatcher.procs p).printer ≡ n → IsOwners p n (attached p (Printer n) kernel)
unfolding attached
attached_so p n kernel there is = attached_by (may_attach kernel.units p (Printer n)) p n kernel refl there is

attached_if : (none : Bool) (p n : ℕ) (kernel : Kernel) → (length kernel.units.printers == 0) ≡ none → (0 < length kernel.units.printers → n < length kernel.units.printers)
    → (process_in kernel.dispatcher.procs p).printer ≡ n → IsOwners p n (if none then valued failure_code kernel else (attached p (Printer n) kernel))
attached_if true p n kernel none there is = record {
  owner = λ _ some. (let empty : length kernel.units.printers ≡ 0 = eqb-true (length kernel.units.printers) 0 none in
      let has : 0 < length kernel.units.printers = grind (arith, nat_tests, some) in absurd (omega (arith, empty, has)));
  number = is;
}
attached_if false p n kernel none there is =
    (let has : 0 < length kernel.units.printers = grind (arith, nat_tests, none) in attached_so p n kernel (there has) is)

list_output : (call : Taken) (p : ℕ) (kernel : Kernel) → call.function ≡ LIST_OUTPUT
    → IsOwners p (process_in kernel.dispatcher.procs p).printer
    (if length kernel.units.printers == 0 then valued failure_code kernel else (attached p (Printer (process_in kernel.dispatcher.procs p).printer) kernel))
    → IsOwners p (process_in kernel.dispatcher.procs p).printer (call_done call p (process_in kernel.dispatcher.procs p) kernel)
unfolding call_done unit_called printer_called
list_output call p kernel is so =
    subst (λ (c : Taken). IsOwners p (process_in kernel.dispatcher.procs p).printer (call_done c p (process_in kernel.dispatcher.procs p) kernel)) (sym (of_function call LIST_OUTPUT is)) so

pub owner_in_call : (p : ℕ) (kernel : Kernel) → IsSoundKernel kernel → Lives kernel.dispatcher.procs p → (call_of kernel.dispatcher.procs p).function ≡ LIST_OUTPUT
    → IsOwners p (process_in kernel.dispatcher.procs p).printer (called p kernel)
owner_in_call p kernel s h is =
    let begun = call_begun (does_echo (call_of kernel.dispatcher.procs p).function) kernel in
    let number = (process_in kernel.dispatcher.procs p).printer in
    list_output (call_of kernel.dispatcher.procs p) p begun is
    (attached_if (length kernel.units.printers == 0) p number begun refl (λ has. (s.fit p h).printer has) refl)

-- so what a call says of a process comes to no printer that is another's

pub record SaysOwn (call : Taken) (p : ℕ) (system : System) : Type 0 where
  pub own : (call.function == LIST_OUTPUT && nat_lt 0 (length system.kernel.units.printers)) ≡ true
      → owner_of system.kernel.units (Printer (process_in system.kernel.dispatcher.procs p).printer) ≡ Some p

other_printer : (q p n m : ℕ) (system : System) → q ≢ p → owner_of system.kernel.units (Printer n) ≡ Some q → owner_of system.kernel.units (Printer m) ≡ Some p → (m == n) ≡ false
other_printer q p n m system other one two = by_test (m == n) refl where
  same_one : Some q ≡ Some p → q ≡ p
  same_one e = cc

  by_test : (b : Bool) → (m == n) ≡ b → b ≡ false
  by_test true is = absurd (other (same_one (sym one ∙ ap (λ (k : ℕ). owner_of system.kernel.units (Printer k)) (sym (eqb-true m n is)) ∙ two)))
  by_test false is = refl

nothing_printed : (b : Bool) (n m byte : ℕ) (outputs : List Output) → (b ≡ true → (m == n) ≡ false)
    → bytes_to n (said (Printer m) (if b then byte ∷ [] else []) outputs) ≡ bytes_to n outputs
unfolding said
nothing_printed true n m byte outputs other = said_elsewhere n (Printer m) (byte ∷ []) outputs (other refl)
nothing_printed false n m byte outputs other = refl

pub spares_said : (q : ℕ) (call : Taken) (string : List ℕ) (p : ℕ) (system : System) → q ≢ p → SaysOwn call p system → Spares q system (said_by call string p system)
unfolding said_by
spares_said q call string p system other says =
    let process = process_in system.kernel.dispatcher.procs p in
    let spoke = spares_spoke q process.console _ system in
    record {
      beside = spoke.beside;
      printer = spoke.printer;
      resident = spoke.resident;
      place = spoke.place;
      pays = spoke.pays;
      awaits = spoke.awaits;
      nothing = λ n is. nothing_printed (call.function == LIST_OUTPUT && nat_lt 0 (length system.kernel.units.printers)) n process.printer _ _
          (λ prints. other_printer q p n process.printer system other is (says.own prints)) ∙ spoke.nothing n is;
    }

-- what a call brings about

pub spares_popped : (q p seg : ℕ) (system : System) → Spares q system (silent (popped p seg system))
unfolding popped
spares_popped q p seg system = spares_regs q p _ system

pub spares_answering : (q : ℕ) (reply : Answer) (call : Taken) (p seg : ℕ) (system : System) → Spares q system (silent (answering_call reply call p seg system))
unfolding answering_call recorded replied
spares_answering q reply call p seg system =
    let regs = spares_regs q p (answered reply.hl (process_in system.kernel.dispatcher.procs p).regs) system in
    record { beside = regs.beside; printer = regs.printer; resident = regs.resident; place = regs.place; pays = regs.pays; awaits = regs.awaits; nothing = regs.nothing }

spares_entry : (q : ℕ) (reply : Answer) (call : Taken) (p : ℕ) (system : System) → Spares q system (silent (with_entry reply call p system))
unfolding with_entry entered entering
spares_entry q reply call p system =
    either (λ (kernel : Kernel). Spares q system (silent (record system { kernel = kernel }))) (is_entry call reply) _ system.kernel
    (λ _. spares_changed q p (entering (call_of system.kernel.dispatcher.procs p) (process_in system.kernel.dispatcher.procs p)) system refl refl refl refl)
    (λ _. spares_itself q system)

pub spares_fulfilling : (q : ℕ) (reply : Answer) (call : Taken) (p seg : ℕ) (system : System) → Spares q system (silent (fulfilling reply call p seg system))
unfolding fulfilling
spares_fulfilling q reply call p seg system =
    let entry = with_entry reply call p system in
    spares_then q system entry _ (spares_entry q reply call p system) (spares_answering q (reply_at_entry reply call p system) call p seg entry)

spares_completing : (q : ℕ) (reply : Answer) (call : Taken) (p seg : ℕ) (system : System) → q ≢ p → SaysOwn call p system → Spares q system (completing reply call p seg system)
unfolding completing
spares_completing q reply call p seg system other says =
    let spoke = said_by call (string_of call seg system.memory) p system in
    let back = popped p seg spoke.system in
    spares_on q system spoke _ (spares_said q call (string_of call seg system.memory) p system other says)
    (spares_then q spoke.system back _ (spares_popped q p seg spoke.system) (spares_fulfilling q reply call p seg back))

spares_outcome : (q : ℕ) (outcome : Ended_how) (reply : Answer) (call : Taken) (p seg : ℕ) (system : System) → IsWhole system → Lives system.kernel.dispatcher.procs p → q ≢ p
    → (outcome ≡ Done → SaysOwn call p system) → Spares q system (outcome_of outcome reply call p seg system)
spares_outcome q Done reply call p seg system w h other says = spares_completing q reply call p seg system other (says refl)
spares_outcome q Ended reply call p seg system w h other says = spares_ended q p system w h other
spares_outcome q Held reply call p seg system w h other says = spares_popped q p seg system
spares_outcome q Retry reply call p seg system w h other says = spares_itself q system

pub spares_keeping : (q p : ℕ) (call : Taken) (system : System) → q ≢ p → Spares q system (silent (keeping p call system))
unfolding keeping
spares_keeping q p call system other =
    spares_then q system _ _ (spares_regs q p (record (process_in system.kernel.dispatcher.procs p).regs { shadow = false }) system) (spares_asking q p call _ other)

-- what a call says that is done is its process's own

calls_own : (call : Taken) (p : ℕ) (system : System) → call_of system.kernel.dispatcher.procs p ≡ call → IsWhole system → Lives system.kernel.dispatcher.procs p
    → call.function ≡ LIST_OUTPUT → (calling p system).outcome ≡ Done → nat_lt 0 (length (calling p system).system.kernel.units.printers) ≡ true
    → owner_of (calling p system).system.kernel.units (Printer (process_in (calling p system).system.kernel.dispatcher.procs p).printer) ≡ Some p
calls_own call p system keeps w h is done some =
    let owners = owner_in_call p system.kernel w.sound h (ap (λ (c : Taken). c.function) keeps ∙ is) in
    ap (λ (n : ℕ). owner_of (calling p system).system.kernel.units (Printer n)) owners.number ∙ owners.owner done some

abbrev SaysOwnIn : Taken → ℕ → Served → Type 0
SaysOwnIn call p done = done.outcome ≡ Done → SaysOwn call p done.system

both_tests : (b c : Bool) → (b && c) ≡ true → (b ≡ true) × (c ≡ true)
both_tests true true both = (refl, refl)
both_tests true false both = absurd (false≢true both)
both_tests false c both = absurd (false≢true both)

to_all_is : (call : Taken) (p : ℕ) (system : System) → call.function ≡ LIST_OUTPUT → served_to_all call p system ≡ calling p system
unfolding served_to_all
to_all_is call p system is = subst (λ (c : Taken). served_to_all c p system ≡ calling p system) (sym (of_function call LIST_OUTPUT is)) refl

served_is : (call : Taken) (p : ℕ) (system : System) → call.function ≡ LIST_OUTPUT → served call p system ≡ calling p system
unfolding served served_to_all
served_is call p system is = subst (λ (c : Taken). served c p system ≡ calling p system) (sym (of_function call LIST_OUTPUT is)) refl

says_by : (call : Taken) (p : ℕ) (system : System) (done : Served) → (call.function ≡ LIST_OUTPUT → done ≡ calling p system) → call_of system.kernel.dispatcher.procs p ≡ call
    → IsWhole system → Lives system.kernel.dispatcher.procs p → SaysOwnIn call p done
says_by call p system done same keeps w h = λ is_done. record {
  own = λ both.
      let tests = both_tests (call.function == LIST_OUTPUT) (nat_lt 0 (length done.system.kernel.units.printers)) both in
      let is = eqb-true call.function LIST_OUTPUT tests.0 in
      let P : Served → Type 0 = λ s. s.outcome ≡ Done → nat_lt 0 (length s.system.kernel.units.printers) ≡ true
      → owner_of s.system.kernel.units (Printer (process_in s.system.kernel.dispatcher.procs p).printer) ≡ Some p in
      subst P (sym (same is)) (calls_own call p system keeps w h is) is_done tests.1;
}

pub says_served : (call : Taken) (p : ℕ) (system : System) → call_of system.kernel.dispatcher.procs p ≡ call → IsWhole system → Lives system.kernel.dispatcher.procs p
    → SaysOwnIn call p (served call p system)
says_served call p system keeps w h = says_by call p system (served call p system) (served_is call p system) keeps w h

pub says_to_all : (call : Taken) (p : ℕ) (system : System) → call_of system.kernel.dispatcher.procs p ≡ call → IsWhole system → Lives system.kernel.dispatcher.procs p
    → SaysOwnIn call p (served_to_all call p system)
says_to_all call p system keeps w h = says_by call p system (served_to_all call p system) (to_all_is call p system) keeps w h

-- the kernel's own text comes before it
pub spares_echoed : (q : ℕ) (call : Taken) (p : ℕ) (old system : System) (change : SystemChange) → Spares q old change → Spares q old (after_echo call p system change)
spares_echoed q call p old system change a = record {
  beside = a.beside;
  printer = a.printer;
  resident = a.resident;
  place = a.place;
  pays = a.pays;
  awaits = a.awaits;
  nothing = λ n is. bytes_both n change.emitted (spoken (process_in system.kernel.dispatcher.procs p).console (echo_of call system.kernel))
      ∙ ap (λ (xs : List ℕ). xs ++ bytes_to n (spoken (process_in system.kernel.dispatcher.procs p).console (echo_of call system.kernel))) (a.nothing n is)
      ∙ nothing_spoken n (process_in system.kernel.dispatcher.procs p).console (echo_of call system.kernel);
}

-- something is said after a part in which nothing is
pub spares_after : (q : ℕ) (old middle : System) (change : SystemChange) → Spares q old (silent middle) → Spares q middle change → Spares q old change
spares_after q old middle change a b = record {
  beside = (spares_on q old (silent middle) change.system a (silenced b)).beside;
  printer = (spares_on q old (silent middle) change.system a (silenced b)).printer;
  resident = b.resident ∙ a.resident;
  place = b.place ∙ a.place;
  pays = λ pays. b.pays (a.pays pays);
  awaits = λ k x. b.awaits k (a.awaits k x);
  nothing = λ n is. b.nothing n (a.printer.owner n is);
} where
  silenced : Spares q middle change → Spares q middle (silent change.system)
  silenced c = record { beside = c.beside; printer = c.printer; resident = c.resident; place = c.place; pays = c.pays; awaits = c.awaits; nothing = λ n is. nothing_said n }

spares_gate_step : (q p seg : ℕ) (system : System) → IsWhole system → Lives system.kernel.dispatcher.procs p → IsReady system.kernel.dispatcher p → q ≢ p
    → Lives system.kernel.dispatcher.procs q → (process_in system.kernel.dispatcher.procs q).seg ≡ None → Spares q system (gate_step p seg system)
unfolding gate_step
spares_gate_step q p seg system w h ready other living home =
    let call = asked p seg system in
    let now = keeping p call system in
    let kept = keeps_call p call system w h in
    let first = spares_keeping q p call system other in
    let done = whole_served call p now kept.call kept.whole kept.lives (kept.ready ready) in
    let result = served call p now in
    let then_served = spares_served q call p now kept.whole kept.lives (kept.ready ready) other (first.beside.living ∙ living) (first.beside.seg ∙ home) in
    spares_echoed q call p system result.system (outcome_of result.outcome result.reply call p seg result.system)
    (spares_after q system result.system _ (spares_then q system now result.system first then_served)
    (spares_outcome q result.outcome result.reply call p seg result.system done.whole done.lives other (says_served call p now kept.call kept.whole kept.lives)))

-- a process leaves a resident procedure, or does an instruction

spares_returning : (q p : ℕ) (system : System) → IsWhole system → Lives system.kernel.dispatcher.procs p → q ≢ p → Spares q system (silent (returning p system))
unfolding returning returned_from_procedure leaving
spares_returning q p system w h other =
    let back = given_back p system.kernel in
    spares_then q system (record system { kernel = back }) _
    (spares_kernel q system back (beside_given_back p q system.kernel w.sound h other) (prints_given_back q p system.kernel other)
    (disk_place q system.kernel back (disk_given_back p system.kernel)) (λ k x. awaits_given_back k q p system.kernel w.sound h x))
    (spares_regs_also q p back system)
  where
    spares_regs_also : (q p : ℕ) (kernel : Kernel) (system : System) → Spares q (record system { kernel = kernel }) (silent (record system { kernel = with_changed kernel p (leaving (process_in kernel.dispatcher.procs p)) }))
    spares_regs_also q p kernel system = spares_changed q p (leaving (process_in kernel.dispatcher.procs p)) (record system { kernel = kernel }) refl refl refl refl

spares_instructed : (q : ℕ) (outcome : Option StepOutcome) (p seg : ℕ) (system : System) → Spares q system (silent (instructed outcome p seg system))
unfolding instructed
spares_instructed q outcome p seg system =
    let regs = spares_regs q p (registers_after outcome (process_in system.kernel.dispatcher.procs p).regs) system in
    record { beside = regs.beside; printer = record { set = regs.printer.set; block = regs.printer.block; owner = λ n is. is }; resident = refl; place = refl; pays = λ x. x; awaits = λ k x. x; nothing = regs.nothing }

spares_illegal : (q p : ℕ) (system : System) → IsWhole system → Lives system.kernel.dispatcher.procs p → q ≢ p → Spares q system (illegal p system)
unfolding illegal
spares_illegal q p system w h other =
    let process = process_in system.kernel.dispatcher.procs p in
    let spoke = speaking process.console (illegal_text process.regs.pc) system in
    let whole = whole_speaking process.console p (illegal_text process.regs.pc) system w h in
    spares_on q system spoke (ended p spoke.system) (spares_spoke q process.console (illegal_text process.regs.pc) system) (spares_ended q p spoke.system whole.whole whole.lives other)

spares_executed : (q : ℕ) (outcome : Option StepOutcome) (p seg : ℕ) (system : System) → IsWhole system → Lives system.kernel.dispatcher.procs p → q ≢ p → Spares q system (executed outcome p seg system)
unfolding executed
spares_executed q None p seg system w h other = spares_illegal q p system w h other
spares_executed q (Some outcome) p seg system w h other = spares_instructed q (Some outcome) p seg system

pub spares_at_gate : (q : ℕ) (gate : Option Gate) (p seg : ℕ) (system : System) → IsWhole system → Lives system.kernel.dispatcher.procs p → IsReady system.kernel.dispatcher p → q ≢ p
    → Lives system.kernel.dispatcher.procs q → (process_in system.kernel.dispatcher.procs q).seg ≡ None → Spares q system (acted_at gate p seg system)
spares_at_gate q (Some End) p seg system w h ready other living home = spares_ended q p system w h other
spares_at_gate q (Some Call) p seg system w h ready other living home = spares_gate_step q p seg system w h ready other living home
spares_at_gate q (Some Return) p seg system w h ready other living home = spares_returning q p system w h other
spares_at_gate q None p seg system w h ready other living home = spares_executed q (instruction_at p seg system) p seg system w h other
