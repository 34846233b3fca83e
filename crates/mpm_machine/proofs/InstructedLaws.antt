-- What a listed instruction changes besides memory: its process's registers, and the readiness of devices that it reads.
use Rattle.std.proofs.Common.{◌≡◌, ◌∙◌, ℕ, zero, suc, ◌-◌, Bool, true, false, ◌&&◌, nat_le, List, [], ◌∷◌, Option, Some, None, IsSome, get_or, set, refl, ap}
use Rattle.mpm_base.proofs.Choices.{either}
use Rattle.z80_regs.specs.Outcome.{StepOutcome, Action, Write, Input}
use Rattle.z80_ext.specs.Instruction.{registers_after, actions_of}
use Rattle.mpm_base.specs.declared.devices.Devices.{Devices}
use Rattle.mpm_banks.specs.Ports.{port_read}
use Rattle.mpm_banks.specs.Actions.{memory_after, devices_after}
use Rattle.mpm_banks.proofs.ActionLaws.{same_segments_after, last_bytes_stay}
use Rattle.mpm_procs.specs.Table.{process_in}
use Rattle.mpm_gate.specs.declared.gate.Gate.{Gate}
use Rattle.mpm_system.specs.declared.system.System.{System}
use Rattle.mpm_system.specs.Whole.{SystemChange, silent}
use Rattle.mpm_system.specs.Taking.{with_regs}
use Rattle.mpm_system.specs.Coming.{counted}
use Rattle.mpm_machine.specs.Step.{instructed, executed, instruction_at, acted_at, acted_by, acted, running_segment, is_no_gate, instruction_by, at_instruction}
use Rattle.mpm_machine.specs.FileCalls.{file_caller}
use Rattle.mpm_machine.specs.Stepping.{Telling, rest_of, step_with}
use Rattle.mpm_machine.specs.Contained.{Instructs, OnlyInstructed}
use Rattle.mpm_machine.proofs.QuietLaws.{step_quiet}

-- a device is ready after an instruction only where it was before
clears_one : (ready : List Bool) (k device : ℕ) → get_or (set ready k false) device false ≡ true → get_or ready device false ≡ true
clears_one [] k device h = h
clears_one (x ∷ ready) zero zero h = absurd (cc)
clears_one (x ∷ ready) zero (suc device) h = h
clears_one (x ∷ ready) (suc k) zero h = h
clears_one (x ∷ ready) (suc k) (suc device) h = clears_one ready k device h

clears_port : (devices : Devices) (port device : ℕ) → get_or (port_read devices port).ready device false ≡ true → get_or devices.ready device false ≡ true
unfolding port_read
clears_port devices port device h =
    either (λ (d : Devices). get_or d.ready device false ≡ true → get_or devices.ready device false ≡ true) (nat_le 128 port && nat_le port 143) _ _
    (λ _. clears_one devices.ready (port - 128) device) (λ _ was. was) h

clears_all : (actions : List Action) (devices : Devices) (device : ℕ) → get_or (devices_after actions devices).ready device false ≡ true
    → get_or devices.ready device false ≡ true
unfolding devices_after
clears_all [] devices device h = h
clears_all (Write address byte ∷ rest) devices device h = clears_all rest devices device h
clears_all (Input port ∷ rest) devices device h = clears_port devices port device (clears_all rest (port_read devices port) device h)

only_ready : (actions : List Action) (devices : Devices) → devices_after actions devices ≡ record devices { ready = (devices_after actions devices).ready }
only_ready actions devices =
    ap (λ last. record { ready = (devices_after actions devices).ready; last = last }) (last_bytes_stay actions devices)

-- a step that is an instruction does that alone

pub runs_listed : (outcome : Option StepOutcome) (p seg : ℕ) (system : System) → IsSome outcome → executed outcome p seg system ≡ silent (instructed outcome p seg system)
unfolding executed
runs_listed None p seg system some = absurd (cc)
runs_listed (Some outcome) p seg system some = refl

acts : (system : System) (p seg : ℕ) → Instructs system p seg → acted (counted system) ≡ silent (instructed (instruction_at p seg system) p seg (counted system))
unfolding acted
acts system p seg i =
    let begun = counted system in
    ap (λ running. acted_by running (running_segment running begun) begun) i.runs
    ∙ ap (λ home. acted_by (Some p) home begun) i.home
    ∙ ap (λ (gate : Option Gate). acted_at gate p seg begun) i.no_gate
    ∙ runs_listed (instruction_at p seg system) p seg begun i.listed

by_instruction : (system : System) (p seg : ℕ) → Instructs system p seg → at_instruction (counted system) ≡ true
unfolding at_instruction
by_instruction system p seg i =
    let begun = counted system in
    ap (λ running. instruction_by running (running_segment running begun) begun) i.runs
    ∙ ap (λ home. instruction_by (Some p) home begun) i.home
    ∙ ap is_no_gate i.no_gate

pub instructs_only : (telling : Telling) (system : System) (p seg : ℕ) → file_caller system ≡ None → Instructs system p seg → system.kernel.dispatcher.completed ≡ []
    → OnlyInstructed telling p system (step_with telling system).system
unfolding instructed
instructs_only telling system p seg none i no_completions =
    let outcome = instruction_at p seg system in
    let begun = counted system in
    let actions = actions_of outcome in
    let devices = devices_after actions system.kernel.devices in
    let regs = registers_after outcome (process_in system.kernel.dispatcher.procs p).regs in
    let afterwards = instructed outcome p seg begun in
    record {
      regs = regs;
      ready = devices.ready;
      memory = memory_after actions seg system.memory;
      clears = λ device h. clears_all actions system.kernel.devices device h;
      bytes = same_segments_after actions seg system.memory;
      is = ap (λ (change : SystemChange). change.system) (step_quiet telling system afterwards none i.quiet (acts system p seg i) no_completions)
          ∙ ap (λ b. (rest_of b telling (silent afterwards)).system) (by_instruction system p seg i)
          ∙ ap (λ (d : Devices). (rest_of true telling (silent (record begun {
            kernel = with_regs (record system.kernel { devices = d }) p regs;
            memory = memory_after actions seg system.memory;
          }))).system) (only_ready actions system.kernel.devices);
    }
