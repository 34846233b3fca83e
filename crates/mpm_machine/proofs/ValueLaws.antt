-- A resident's call, what is handed over and a held call that is completed go by what they took and by who has which segment, never
-- by the bytes of memory.
use Rattle.std.proofs.Common.{◌≡◌, ◌∙◌, ℕ, ◌+◌, ◌&&◌, Bool, true, false, if◌then◌else◌, List, [], ◌∷◌, length, Option, Some, None, refl, sym, ap, subst}
use Rattle.std.specs.Prelude.{nat_lt, nat_le}
use Rattle.mpm_base.proofs.Choices.{either}
use Rattle.mpm_banks.specs.Memory.{Memory, SameSegments, segment_of, with_bytes}
use Rattle.mpm_banks.specs.Ranges.{range_of}
use Rattle.mpm_banks.specs.Allocations.{occupied}
use Rattle.mpm_banks.specs.declared.range.Range.{Range}
use Rattle.mpm_banks.specs.declared.segment.Allocation.TheVariants.{Occupied}
use Rattle.mpm_banks.proofs.WrittenBytes.{same_segments_with_bytes}
use Rattle.mpm_banks.proofs.WindowLaws.{same_segments_put_range}
use Rattle.mpm_procs.specs.Table.{lowest_free}
use Rattle.mpm_procs.specs.declared.process.NewProcess.{NewProcess}
use Rattle.mpm_kernel.specs.Kernel.{Kernel}
use Rattle.mpm_kernel.specs.Called.{failure_code}
use Rattle.mpm_kernel.specs.Consoling.{given}
use Rattle.mpm_kernel.specs.Waiting.{completion_reply}
use Rattle.mpm_residents.specs.declared.cli.act.Act.{Act}
use Rattle.mpm_residents.specs.declared.cli.act.Act.TheVariants.{Ask, PlaceBytes, MoveCode, BeginProcess, GiveConsole}
use Rattle.mpm_residents.specs.Natives.{native_call, native_act}
use Rattle.mpm_residents.specs.declared.native.Native.{Native}
use Rattle.mpm_system.specs.declared.system.System.{System}
use Rattle.mpm_system.specs.Whole.{SystemChange}
use Rattle.mpm_system.specs.Calling.{asking}
use Rattle.mpm_system.specs.Loading.{moved, may_move, is_console, may_live, is_slot, begun_for, begins, beginning, handed_over, handed_value}
use Rattle.mpm_system.specs.Coming.{counted}
use Rattle.mpm_machine.specs.Serving.{served_to_all}
use Rattle.mpm_machine.specs.Residing.{native_step, resided}
use Rattle.mpm_machine.specs.Finishing.{all_answered}
use Rattle.mpm_machine.specs.Step.{acted_by, acted, running_segment, instruction_by, at_instruction, begun_by, instruction_unless, then_also}
use Rattle.mpm_machine.specs.FileCalls.{file_caller}
use Rattle.mpm_machine.specs.Stepping.{Telling, begun_with, begun_as, is_instruction, rest_of, step_with}
use Rattle.mpm_machine.specs.Contained.{DiffersInBytes, ServedAlike, Resides, ResidedByValue}
use Rattle.mpm_machine.proofs.ServedLaws.{to_all_alike, allocated_alike}

pub resided_by_value : (native : Native) (p : ℕ) (one other : System) → DiffersInBytes one other
    → ServedAlike (served_to_all (native_call native) p one) (served_to_all (native_call native) p other)
resided_by_value native p one other d = to_all_alike (native_call native) p one other d

pub completed_by_value : (p : ℕ) (one other : System) → DiffersInBytes one other → completion_reply other.kernel p ≡ completion_reply one.kernel p
completed_by_value p one other d = ap (λ (kernel : Kernel). completion_reply kernel p) d.kernel

-- whether a process begins

may_live_alike : (one other : Memory) (seg : ℕ) → SameSegments one other → may_live other seg ≡ may_live one seg
may_live_alike one other seg same =
    let test : ℕ → ℕ → ℕ → Bool = λ count base pages. nat_lt seg count && (nat_le 4 pages && nat_le (base + pages) 192) in
    ap (λ count. test count (segment_of other seg).base (segment_of other seg).pages) same.count
    ∙ ap (λ base. test (length one.segments) base (segment_of other seg).pages) (same.base seg)
    ∙ ap (λ pages. test (length one.segments) (segment_of one seg).base pages) (same.pages seg)

begins_alike : (seg : ℕ) (new : NewProcess) (one other : System) → DiffersInBytes one other → begins seg new other ≡ begins seg new one
begins_alike seg new one other d =
    ap (λ b. b && (is_console new.console other.kernel && is_slot (lowest_free other.kernel.dispatcher.procs))) (may_live_alike one.memory other.memory seg d.segments)
    ∙ ap (λ (kernel : Kernel). may_live one.memory seg && (is_console new.console kernel && is_slot (lowest_free kernel.dispatcher.procs))) d.kernel

-- what is handed over is answered alike
pub handed_by_value : (act : Act) (one other : System) → DiffersInBytes one other → handed_value act other ≡ handed_value act one
handed_by_value Ask one other d = refl
handed_by_value (PlaceBytes seg address count) one other d = refl
handed_by_value (MoveCode seg address count page) one other d = refl
handed_by_value (BeginProcess seg new) one other d = ap (λ (b : Bool). if b then 0 else failure_code) (begins_alike seg new one other d)
handed_by_value (GiveConsole console) one other d = refl

-- and leaves systems that differ in bytes alone

same_around : (one other new newer : Memory) → SameSegments one new → SameSegments other newer → SameSegments one other → SameSegments new newer
same_around one other new newer first second same = record {
  count = second.count ∙ same.count ∙ sym first.count;
  base = λ seg. second.base seg ∙ same.base seg ∙ sym (first.base seg);
  pages = λ seg. second.pages seg ∙ same.pages seg ∙ sym (first.pages seg);
  allocation = λ seg. second.allocation seg ∙ same.allocation seg ∙ sym (first.allocation seg);
}

same_itself : (memory : Memory) → SameSegments memory memory
same_itself memory = record { count = refl; base = λ seg. refl; pages = λ seg. refl; allocation = λ seg. refl }

same_moved : (range : Option Range) (marks : List ℕ) (page : ℕ) (memory : Memory) → SameSegments memory (moved range marks page memory)
same_moved None marks page memory = same_itself memory
same_moved (Some range) marks page memory = same_segments_put_range memory range _

same_moving : (seg address count : ℕ) (marks : List ℕ) (page : ℕ) (memory : Memory)
    → SameSegments memory (if may_move count marks then moved (range_of memory seg address count) marks page memory else memory)
same_moving seg address count marks page memory =
    either (SameSegments memory) (may_move count marks) _ memory (λ _. same_moved (range_of memory seg address count) marks page memory) (λ _. same_itself memory)

-- a system in which a process begins, and how it is left where none can
abbrev begun : ℕ → NewProcess → ℕ → System → System
begun seg new p system = record system {
  kernel = begun_for p (record new { seg = Some seg }) (lowest_free system.kernel.dispatcher.procs) system.kernel;
  memory = occupied (with_bytes system.memory seg new.sp (0 ∷ (segment_of system.memory seg).base ∷ [])) seg;
}

begun_alike : (seg : ℕ) (new : NewProcess) (p : ℕ) (one other : System) → DiffersInBytes one other → DiffersInBytes (begun seg new p one) (begun seg new p other)
begun_alike seg new p one other d =
    let word : System → List ℕ = λ system. 0 ∷ (segment_of system.memory seg).base ∷ [] in
    record {
      kernel = ap (λ (kernel : Kernel). begun_for p (record new { seg = Some seg }) (lowest_free kernel.dispatcher.procs) kernel) d.kernel;
      residents = d.residents;
      segments = allocated_alike _ _ seg Occupied
          (same_around one.memory other.memory _ _ (same_segments_with_bytes (word one) one.memory seg new.sp) (same_segments_with_bytes (word other) other.memory seg new.sp) d.segments);
    }

differs_by : (b : Bool) (one new other newer : System) → DiffersInBytes one other → DiffersInBytes new newer
    → DiffersInBytes (if b then new else one) (if b then newer else other)
differs_by true one new other newer was is = is
differs_by false one new other newer was is = was

beginning_alike : (seg : ℕ) (new : NewProcess) (p : ℕ) (one other : System) → DiffersInBytes one other → DiffersInBytes (beginning seg new p one) (beginning seg new p other)
beginning_alike seg new p one other d =
    let b = begins seg new one in
    subst (λ c. DiffersInBytes (if b then begun seg new p one else one) (if c then begun seg new p other else other)) (sym (begins_alike seg new one other d))
    (differs_by b one (begun seg new p one) other (begun seg new p other) d (begun_alike seg new p one other d))

pub handed_alike : (act : Act) (bytes : List ℕ) (p : ℕ) (one other : System) → DiffersInBytes one other → DiffersInBytes (handed_over act bytes p one) (handed_over act bytes p other)
handed_alike Ask bytes p one other d = d
handed_alike (PlaceBytes seg address count) bytes p one other d = record {
  kernel = d.kernel;
  residents = d.residents;
  segments = same_around one.memory other.memory _ _ (same_segments_with_bytes bytes one.memory seg address) (same_segments_with_bytes bytes other.memory seg address) d.segments;
}
handed_alike (MoveCode seg address count page) bytes p one other d = record {
  kernel = d.kernel;
  residents = d.residents;
  segments = same_around one.memory other.memory _ _ (same_moving seg address count bytes page one.memory) (same_moving seg address count bytes page other.memory) d.segments;
}
handed_alike (BeginProcess seg new) bytes p one other d = beginning_alike seg new p one other d
handed_alike (GiveConsole console) bytes p one other d = record {
  kernel = ap (λ (kernel : Kernel). if is_console console kernel then given console (Some p) None kernel else kernel) d.kernel;
  residents = d.residents;
  segments = d.segments;
}

-- a step in which a resident acts is that of its row

resident_acts : (system : System) (p : ℕ) (native : Native) → Resides system p native
    → acted (counted system) ≡ native_step (native_act native) (native_call native) p (asking p (native_call native) (counted system))
unfolding acted
resident_acts system p native i =
    let here = counted system in
    ap (λ running. acted_by running (running_segment running here) here) i.runs
    ∙ ap (λ home. acted_by (Some p) home here) i.home
    ∙ ap (λ found. resided found p here) i.acts

no_instruction_of : (system : System) (p : ℕ) (native : Native) → Resides system p native → at_instruction (counted system) ≡ false
unfolding at_instruction
no_instruction_of system p native i =
    let here = counted system in
    ap (λ running. instruction_by running (running_segment running here) here) i.runs ∙ ap (λ home. instruction_by (Some p) home here) i.home

step_resides : (telling : Telling) (system : System) (p : ℕ) (native : Native) → file_caller system ≡ None → Resides system p native
    → step_with telling system
    ≡ rest_of false telling (then_also (native_step (native_act native) (native_call native) p (asking p (native_call native) (counted system))) all_answered)
unfolding step_with begun_as
step_resides telling system p native none i =
    let here = counted system in
    ap (λ caller. rest_of (is_instruction caller system) telling (then_also (begun_with caller telling.at_gate system) all_answered)) none
    ∙ ap (λ event. rest_of (instruction_unless event here) telling (then_also (begun_by event here) all_answered)) i.quiet
    ∙ ap (λ b. rest_of b telling (then_also (acted here) all_answered)) (no_instruction_of system p native i)
    ∙ ap (λ change. rest_of false telling (then_also change all_answered)) (resident_acts system p native i)

pub resided_with : (telling : Telling) (p : ℕ) (native : Native) (system : System) → Resides system p native → file_caller system ≡ None
    → ResidedByValue telling p native system (step_with telling system).system
resided_with telling p native system i none =
    let asks = asking p (native_call native) (counted system) in
    record {
      call = λ other d. resided_by_value native p asks other d;
      hands = λ other d. handed_by_value (native_act native) asks other d;
      leaves = λ other d. handed_alike (native_act native) (native_call native).bytes p asks other d;
      is = ap (λ (change : SystemChange). change.system) (step_resides telling system p native none i);
    }
