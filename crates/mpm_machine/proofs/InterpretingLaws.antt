-- Where an interpreter acts in a machine, no test of what it hands over refuses but for a slot or a segment that isn't free, and
-- what it hands over comes into the segment that it has reserved.
use Rattle.std.proofs.Common.{◌≡◌, ◌≢◌, ◌∙◌, ℕ, ◌+◌, ◌-◌, ◌*◌, ◌%◌, ◌<◌, ◌≤◌, ◌&&◌, Bool, true, if◌then◌else◌, List, length, min, Option, Some, None, is_some, refl, sym, ap, subst, arith, false}
use Rattle.std.proofs.Math.Nat.{mod-eq_of_lt}
use Rattle.std.specs.Prelude.{nat_lt, nat_le}
use Rattle.std.proofs.lemmas.Bool.{and_parts, false≢true, and_from}
use Rattle.std.proofs.lemmas.Bool.Decides.{nat_tests}
use Rattle.z80_regs.specs.Words.{onward}
use Rattle.mpm_base.specs.Calls.{Taken}
use Rattle.mpm_base.specs.declared.functions.TheConstants.{PRINT_STRING}
use Rattle.mpm_base.specs.declared.segment.SegmentSpec.{SegmentSpec}
use Rattle.mpm_banks.specs.Memory.{Memory, HasSegment, IsMemory, no_segment, segment_of, first_of, end_of}
use Rattle.mpm_banks.specs.Ranges.{range_of, range_within}
use Rattle.mpm_banks.specs.Allocations.{is_free, lowest_free as lowest_segment, spec_of}
use Rattle.mpm_banks.specs.declared.range.Range.{Range}
use Rattle.mpm_banks.specs.declared.range.Space.{Space}
use Rattle.mpm_banks.specs.declared.range.Space.TheVariants.{Common, InSegment}
use Rattle.mpm_banks.specs.declared.segment.Allocation.TheVariants.{Reserved, Occupied}
use Rattle.mpm_banks.proofs.SegmentLaws.{lowest_free_fits}
use Rattle.mpm_procs.specs.Table.{lives, Lives, process_in, lowest_free}
use Rattle.mpm_kernel.specs.Columns.{column_of, expanded}
use Rattle.mpm_kernel.specs.Consoling.{given}
use Rattle.mpm_loader.specs.Pieces.{marks_in, marked_length}
use Rattle.mpm_loader.proofs.Parts.{some_marked}
use Rattle.mpm_residents.specs.Interpreters.{Interpreter, asking, act_at, call_at, next_act, next_call, process_of, reserved, row_for_piece, CountsBytes}
use Rattle.mpm_residents.specs.Standing.{is_loading, StandsIn, AreInPages, HandsIn}
use Rattle.mpm_residents.specs.declared.cli.act.Act.{Act}
use Rattle.mpm_residents.specs.declared.cli.act.Act.TheVariants.{Ask, PlaceBytes, MoveCode, BeginProcess, GiveConsole}
use Rattle.mpm_residents.specs.declared.cli.table.Message.TheVariants.{NoMemory}
use Rattle.mpm_residents.specs.declared.cli.table.Row.{Row}
use Rattle.mpm_residents.specs.declared.cli.table.Row.TheVariants.{ReadCommand, OpenQueue, WriteQueue, SetUser, OpenRelocatable, OpenAbsolute, ReadHeader, ComputeSize, SetUserZero, Reserve, Place, Patch, ReadOn, Free, CloseAfter, Close, Tell, Give, PlaceBasePage, Begin}
use Rattle.mpm_residents.proofs.StandingLaws.{hands_at, counts_at}
use Rattle.mpm_residents.specs.Natives.{native_in, native_act, native_call, interprets_if_there, interprets}
use Rattle.mpm_residents.specs.declared.native.Native.{Native}
use Rattle.mpm_residents.specs.declared.native.Native.TheVariants.{Tmp, Cli, Spool, Sched}
use Rattle.mpm_gate.specs.Gates.{IsHome}
use Rattle.mpm_system.specs.declared.system.System.{System}
use Rattle.mpm_system.specs.Whole.{IsWhole, silent, speaking}
use Rattle.mpm_system.specs.Segments.{reserve_reply}
use Rattle.mpm_system.specs.Sending.{has_interpreter, passed, console_sent}
use Rattle.mpm_system.specs.Loading.{may_move, is_console, giving, may_live, is_slot, begins}
use Rattle.mpm_system.specs.Residents.{text_told}
use Rattle.mpm_machine.specs.Contained.{IsIn, HandsAt, IsHanded}
use Rattle.mpm_machine.specs.Interpreting.{HasReserved, IsActing, Interprets, IsOwnAddress}

-- commands can be sent
pub interpreter_acts : (system : System) → IsActing system → has_interpreter system ≡ true
interpreter_acts system a = ap interprets_if_there a.acts

-- its console is there, and is given back; a text comes to it

console_is_there : (system : System) (a : IsActing system) → is_console a.cli.console system.kernel ≡ true
console_is_there system a = grind (arith, nat_tests, a.stands.console, a.consoles)

pub gives_always : (system : System) (a : IsActing system) → giving a.cli.console 0 system ≡ record system { kernel = given a.cli.console (Some 0) None system.kernel }
gives_always system a =
    ap (λ (b : Bool). record system { kernel = if b then given a.cli.console (Some 0) None system.kernel else system.kernel }) (console_is_there system a)

told_to : (console : ℕ) (bytes : List ℕ) (system : System) → is_console console system.kernel ≡ true
    → (if is_console console system.kernel then speaking console (expanded (column_of system.kernel console) bytes) system else silent system)
    ≡ speaking console (expanded (column_of system.kernel console) bytes) system
told_to console bytes system there =
    ap (λ (b : Bool). if b then speaking console (expanded (column_of system.kernel console) bytes) system else silent system) there

pub tells_always : (text : List ℕ) (system : System) (a : IsActing system) → IsWhole system
    → text_told (asking PRINT_STRING a.cli.console text) system ≡ speaking a.cli.console (expanded (column_of system.kernel a.cli.console) text) system
tells_always text system a w =
    let byte : a.cli.console % 256 ≡ a.cli.console = mod-eq_of_lt (omega (arith, a.stands.console, a.consoles, w.sound.units.consoles)) in
    ap (λ (console : ℕ). if is_console console system.kernel then speaking console (expanded (column_of system.kernel console) text) system else silent system) byte
    ∙ told_to a.cli.console text system (console_is_there system a)

-- the console of a command that was sent passes, where it is there
pub passes_always : (p : ℕ) (system : System) → IsActing system → console_sent p system.kernel < length system.kernel.units.consoles
    → passed p system.kernel ≡ given (console_sent p system.kernel) (Some p) (Some 0) system.kernel
passes_always p system a there =
    ap (λ (b : Bool). if b then given (console_sent p system.kernel) (Some p) (Some 0) system.kernel else system.kernel)
    (and_from (nat_lt (console_sent p system.kernel) (length system.kernel.units.consoles)) (lives system.kernel.dispatcher.procs 0) (grind (arith, nat_tests, there)) a.lives)

-- a process begins exactly where a slot is free

its_segment : (system : System) (i : Interprets system) (row : Row) → i.acting.cli.row ≡ row → is_loading row ≡ true → HasReserved i.acting.cli system.memory
its_segment system i row is loading = i.has (ap is_loading is ∙ loading)

home_may_live : (memory : Memory) (seg : ℕ) → IsHome memory seg → may_live memory seg ≡ true
home_may_live memory seg home =
    and_from (nat_lt seg (length memory.segments)) (nat_le 4 (segment_of memory seg).pages && nat_le ((segment_of memory seg).base + (segment_of memory seg).pages) 192)
    (grind (arith, nat_tests, home.exists))
    (and_from (nat_le 4 (segment_of memory seg).pages) (nat_le ((segment_of memory seg).base + (segment_of memory seg).pages) 192) (grind (arith, nat_tests, home.pages)) (grind (arith, nat_tests, home.end)))

pub begins_with_slot : (system : System) (i : Interprets system) → i.acting.cli.row ≡ Begin
    → begins i.acting.cli.seg (process_of i.acting.cli) system ≡ is_slot (lowest_free system.kernel.dispatcher.procs)
unfolding process_of
begins_with_slot system i is =
    let has = its_segment system i Begin is refl in
    let slot = is_slot (lowest_free system.kernel.dispatcher.procs) in
    ap (λ b. b && (is_console i.acting.cli.console system.kernel && slot)) (home_may_live system.memory i.acting.cli.seg (i.homes i.acting.cli.seg has.there))
    ∙ ap (λ b. b && slot) (console_is_there system i.acting)

-- a segment that is reserved is one for the interpreter, and it goes on
pub reserves_always : (memory : Memory) (base : Option ℕ) (pages seg : ℕ) (call : Taken) (cli : Interpreter) → length memory.segments ≤ 16
    → ((n : ℕ) → HasSegment memory n → IsHome memory n) → lowest_segment memory base pages ≡ Some seg
    → reserved pages (reserve_reply memory call (Some seg)) cli ≡ record cli { row = row_for_piece cli.load; seg = seg; spec = spec_of memory seg }
reserves_always memory base pages seg call cli few homes found =
    let fits = lowest_free_fits memory base pages seg found in
    let segment = segment_of memory seg in
    let home = homes seg fits.0 in
    let enough = (and_parts (nat_le pages segment.pages) _ (and_parts (is_free segment.allocation) _ fits.1).1).0 in
    let passes : (nat_lt seg 16 && (nat_le pages segment.pages && nat_le (segment.base + segment.pages) 192)) ≡ true =
    and_from (nat_lt seg 16) _ (grind (arith, nat_tests, few, fits.0)) (and_from (nat_le pages segment.pages) _ enough (grind (arith, nat_tests, home.end))) in
    ap (λ (b : Bool). if b then record cli { row = row_for_piece cli.load; seg = seg; spec = spec_of memory seg } else record cli { row = CloseAfter NoMemory }) passes

-- code is moved wholly

range_by : (memory : Memory) (space : Space) (address count : ℕ) → first_of memory space ≤ address → address + count ≤ end_of memory space
    → is_some (range_within memory space address count) ≡ true
range_by memory space address count first end =
    let some : Option Range = Some (record { space = space; from = address - first_of memory space; to = address + count - first_of memory space }) in
    ap (λ (b : Bool). is_some (if b then some else None))
    (and_from (nat_le (first_of memory space) address) (nat_le (address + count) (end_of memory space)) (grind (arith, nat_tests, first)) (grind (arith, nat_tests, end)))

pub range_is_there : (memory : Memory) (seg address count : ℕ) → IsMemory memory → HasSegment memory seg → AreInPages (spec_of memory seg) address count → 0 < count
    → is_some (range_of memory seg address count) ≡ true
unfolding range_of
range_is_there memory seg address count m there inside some =
    let segment = segment_of memory seg in
    let sizes = m.segments seg no_segment there in
    let below : nat_lt address 49152 ≡ true = grind (arith, nat_tests, inside.end, sizes.below, some) in
    let end : address + count ≤ min (256 * segment.base + length segment.bytes) 49152 = omega (arith, inside.end, sizes.below, sizes.size) in
    ap (λ (b : Bool). is_some (range_within memory (if b then InSegment seg else Common) address count)) below ∙ range_by memory (InSegment seg) address count inside.first end

pub moves_always : (cli : Interpreter) → StandsIn Patch cli → may_move (marked_length cli.load) (marks_in cli.load) ≡ true
moves_always cli s =
    let some : 0 < marked_length cli.load = some_marked cli.load s.file.marks s.of_row in
    let few : marked_length cli.load ≤ 8 * length (marks_in cli.load) = omega arith in
    and_from (nat_lt 0 (marked_length cli.load)) (nat_le (marked_length cli.load) (8 * length (marks_in cli.load))) (grind (arith, nat_tests, some)) (grind (arith, nat_tests, few))

-- what it hands over comes into its segment

own_place : (memory : Memory) (cli : Interpreter) (seg at address count : ℕ) → HasReserved cli memory → cli.spec.base + cli.spec.pages ≤ 192 → AreInPages cli.spec address count
    → cli.seg ≡ seg → IsIn address count at → IsOwnAddress memory seg at
own_place memory cli seg at address count has below inside here written =
    let small : onward address written.0 ≡ address + written.0 = mod-eq_of_lt (omega (arith, below, inside.end, written.1)) in
    let base : (segment_of memory cli.seg).base ≡ cli.spec.base = ap (λ (s : SegmentSpec). s.base) has.spec in
    let pages : (segment_of memory cli.seg).pages ≡ cli.spec.pages = ap (λ (s : SegmentSpec). s.pages) has.spec in
    subst (λ s. IsOwnAddress memory s at) here (record {
      reserved = has.reserved;
      first = omega (arith, base, inside.first, written.2, small);
      below = omega (arith, base, pages, inside.end, written.2, small, written.1);
    })

own_act : (act : Act) (bytes : List ℕ) (memory : Memory) (cli : Interpreter) (seg at : ℕ) → HasReserved cli memory → cli.spec.base + cli.spec.pages ≤ 192
    → HandsIn cli.seg cli.spec act → CountsBytes bytes act → HandsAt act (length bytes) seg at → IsOwnAddress memory seg at
own_act Ask bytes memory cli seg at has below into counts hands = absurd hands
own_act (PlaceBytes to address count) bytes memory cli seg at has below into counts hands =
    own_place memory cli seg at address (length bytes) has below (subst (AreInPages cli.spec address) counts into.1) (sym into.0 ∙ hands.0) hands.1
own_act (MoveCode to address count page) bytes memory cli seg at has below into counts hands =
    own_place memory cli seg at address count has below into.2 (sym into.0 ∙ hands.0) hands.1
own_act (BeginProcess to new) bytes memory cli seg at has below into counts hands =
    own_place memory cli seg at new.sp 2 has below into.1 (sym into.0 ∙ hands.0) hands.1
own_act (GiveConsole console) bytes memory cli seg at has below into counts hands = absurd hands

own_at : (row : Row) (memory : Memory) (cli : Interpreter) (seg at : ℕ) → StandsIn row cli → (is_loading row ≡ true → HasReserved cli memory)
    → HandsAt (act_at row cli) (length (call_at row cli).bytes) seg at → IsOwnAddress memory seg at
own_at Place memory cli seg at s has hands =
    own_act (act_at Place cli) (call_at Place cli).bytes memory cli seg at (has refl) (s.lies refl).below (hands_at Place cli s) (counts_at Place cli s) hands
own_at Patch memory cli seg at s has hands =
    own_act (act_at Patch cli) (call_at Patch cli).bytes memory cli seg at (has refl) (s.lies refl).below (hands_at Patch cli s) (counts_at Patch cli s) hands
own_at PlaceBasePage memory cli seg at s has hands =
    own_act (act_at PlaceBasePage cli) (call_at PlaceBasePage cli).bytes memory cli seg at (has refl) (s.lies refl).below (hands_at PlaceBasePage cli s) (counts_at PlaceBasePage cli s) hands
own_at Begin memory cli seg at s has hands =
    own_act (act_at Begin cli) (call_at Begin cli).bytes memory cli seg at (has refl) (s.lies refl).below (hands_at Begin cli s) (counts_at Begin cli s) hands
own_at ReadCommand memory cli seg at s has hands = absurd hands
own_at OpenQueue memory cli seg at s has hands = absurd hands
own_at WriteQueue memory cli seg at s has hands = absurd hands
own_at SetUser memory cli seg at s has hands = absurd hands
own_at OpenRelocatable memory cli seg at s has hands = absurd hands
own_at OpenAbsolute memory cli seg at s has hands = absurd hands
own_at ReadHeader memory cli seg at s has hands = absurd hands
own_at ComputeSize memory cli seg at s has hands = absurd hands
own_at SetUserZero memory cli seg at s has hands = absurd hands
own_at (Reserve relocatable pages) memory cli seg at s has hands = absurd hands
own_at ReadOn memory cli seg at s has hands = absurd hands
own_at (Free message) memory cli seg at s has hands = absurd hands
own_at (CloseAfter message) memory cli seg at s has hands = absurd hands
own_at Close memory cli seg at s has hands = absurd hands
own_at (Tell message) memory cli seg at s has hands = absurd hands
own_at Give memory cli seg at s has hands = absurd hands

pub same_resident : (one other : Interpreter) → Some (Cli one) ≡ Some (Cli other) → one ≡ other
same_resident one other is = cc

pub no_interpreter : (native : Native) (cli : Interpreter) → interprets native ≡ false → Some native ≡ Some (Cli cli) → ⊥
no_interpreter native cli not is = false≢true (sym not ∙ ap interprets_if_there is)

own_by : (native : Native) (who : ℕ) (system : System) (i : Interprets system) (seg at : ℕ) → native_in system.residents who ≡ Some native
    → HandsAt (native_act native) (length (native_call native).bytes) seg at → IsOwnAddress system.memory seg at
unfolding next_act next_call
own_by (Tmp tmp) who system i seg at acts hands = absurd hands
own_by (Spool spool) who system i seg at acts hands = absurd hands
own_by (Sched sched) who system i seg at acts hands = absurd hands
own_by (Cli cli) who system i seg at acts hands =
    let zero : who ≡ 0 = i.acting.alone who (ap interprets_if_there acts) in
    let same : cli ≡ i.acting.cli = same_resident cli i.acting.cli (sym acts ∙ ap (native_in system.residents) zero ∙ i.acting.acts) in
    let P : Interpreter → Type 0 = λ c. HandsAt (act_at c.row c) (length (call_at c.row c).bytes) seg at in
    own_at i.acting.cli.row system.memory i.acting.cli seg at i.acting.stands i.has (subst P same hands)

pub handed_is_own : (system : System) (seg at : ℕ) → Interprets system → IsHanded system seg at → IsOwnAddress system.memory seg at
handed_is_own system seg at i h = own_by h.native h.who system i seg at h.acts h.hands

-- where no process lives
pub nobody_lives_there : (system : System) (seg at p : ℕ) → IsWhole system → Interprets system → IsHanded system seg at → Lives system.kernel.dispatcher.procs p
    → (process_in system.kernel.dispatcher.procs p).seg ≢ Some seg
nobody_lives_there system seg at p w i h living = λ home. apart (sym (handed_is_own system seg at i h).reserved ∙ w.lived p seg living home) where
  apart : Reserved 0 ≡ Occupied → ⊥
  apart e = absurd (cc)
