-- What a call that concerns its caller alone takes at the gate, and where its value is placed.
use Rattle.std.proofs.Common.{◌≡◌, ◌≢◌, ◌∙◌, ℕ, ◌==◌, Bool, true, false, ◌||◌, List, [], ◌∷◌, eqb-true, refl, sym, ap, subst}
use Rattle.std.proofs.lemmas.Bool.{false≢true}
use Rattle.mpm_base.specs.Lists.{is_among, zeros}
use Rattle.mpm_base.specs.Calls.{Taken, answering}
use Rattle.mpm_base.specs.declared.functions.TheConstants.{RETURN_VERSION_NUMBER, RETURN_CURRENT_DISK, SET_DMA_ADDRESS, SET_GET_USER_CODE, SET_MULTI_SECTOR_COUNT, SET_BDOS_ERROR_MODE, RETURN_MPM_VERSION_NUMBER}
use Rattle.mpm_banks.specs.Memory.{Memory, byte_at}
use Rattle.z80_regs.specs.Words.{word_of}
use Rattle.mpm_gate.specs.Calls.{block_read, bytes_read}
use Rattle.mpm_gate.specs.Reads.{reads_of}
use Rattle.mpm_gate.specs.declared.reads.Reads.{Reads}
use Rattle.mpm_gate.specs.declared.reads.Reads.TheVariants.{Registers}
use Rattle.mpm_gate.specs.Replies.{placed}
use Rattle.mpm_gate.proofs.WritingLaws.{written_none}
use Rattle.mpm_procs.specs.Table.{process_in}
use Rattle.mpm_procs.specs.declared.process.Process.{Process}
use Rattle.mpm_kernel.specs.Kernel.{Kernel}
use Rattle.mpm_kernel.specs.Called.{valued}
use Rattle.mpm_kernel.specs.Calls.{call_done, version}
use Rattle.mpm_system.specs.declared.system.System.{System}
use Rattle.mpm_system.specs.Taking.{asked, keeping}
use Rattle.mpm_system.specs.OwnCalls.{is_own}

or_cases : (P : Type 0) (b c : Bool) → (b ≡ true → P) → (c ≡ true → P) → (b || c) ≡ true → P
or_cases P true c here there is = here refl
or_cases P false c here there is = there is

among_cases : (P : ℕ → Type 0) (f m : ℕ) (ms : List ℕ) → P m → (is_among f ms ≡ true → P f) → is_among f (m ∷ ms) ≡ true → P f
among_cases P f m ms here there is =
    or_cases (P f) (f == m) (is_among f ms) (λ e. subst P (sym (eqb-true f m e)) here) there is

pub own_each : (P : ℕ → Type 0) (f : ℕ) → is_own f ≡ true → P RETURN_VERSION_NUMBER → P RETURN_CURRENT_DISK → P SET_DMA_ADDRESS → P SET_GET_USER_CODE
    → P SET_MULTI_SECTOR_COUNT → P SET_BDOS_ERROR_MODE → P RETURN_MPM_VERSION_NUMBER → P f
own_each P f is version drive dma user multi mode version' =
    among_cases P f RETURN_VERSION_NUMBER (RETURN_CURRENT_DISK ∷ SET_DMA_ADDRESS ∷ SET_GET_USER_CODE ∷ SET_MULTI_SECTOR_COUNT ∷ SET_BDOS_ERROR_MODE ∷ RETURN_MPM_VERSION_NUMBER ∷ []) version
    (among_cases P f RETURN_CURRENT_DISK (SET_DMA_ADDRESS ∷ SET_GET_USER_CODE ∷ SET_MULTI_SECTOR_COUNT ∷ SET_BDOS_ERROR_MODE ∷ RETURN_MPM_VERSION_NUMBER ∷ []) drive
    (among_cases P f SET_DMA_ADDRESS (SET_GET_USER_CODE ∷ SET_MULTI_SECTOR_COUNT ∷ SET_BDOS_ERROR_MODE ∷ RETURN_MPM_VERSION_NUMBER ∷ []) dma
    (among_cases P f SET_GET_USER_CODE (SET_MULTI_SECTOR_COUNT ∷ SET_BDOS_ERROR_MODE ∷ RETURN_MPM_VERSION_NUMBER ∷ []) user
    (among_cases P f SET_MULTI_SECTOR_COUNT (SET_BDOS_ERROR_MODE ∷ RETURN_MPM_VERSION_NUMBER ∷ []) multi
    (among_cases P f SET_BDOS_ERROR_MODE (RETURN_MPM_VERSION_NUMBER ∷ []) mode
    (among_cases P f RETURN_MPM_VERSION_NUMBER [] version'
    (λ none. absurd (false≢true none)))))))) is

-- of those that are left, both answer the version
pub version_row : (call : Taken) (p : ℕ) (process : Process) (kernel : Kernel) → is_own call.function ≡ true → call.function ≢ RETURN_CURRENT_DISK
    → call.function ≢ SET_DMA_ADDRESS → call.function ≢ SET_GET_USER_CODE → call.function ≢ SET_MULTI_SECTOR_COUNT → call.function ≢ SET_BDOS_ERROR_MODE
    → call_done call p process kernel ≡ valued version kernel
unfolding call_done
version_row call p process kernel is drive dma user multi mode =
    own_each (λ f. f ≡ call.function → call_done (record call { function = f }) p process kernel ≡ valued version kernel) call.function is
    (λ e. refl) (λ e. absurd (drive (sym e))) (λ e. absurd (dma (sym e))) (λ e. absurd (user (sym e))) (λ e. absurd (multi (sym e))) (λ e. absurd (mode (sym e))) (λ e. refl) refl

-- and reads no memory: what it takes stands in its process's registers, and its DMA address is noted
abbrev pub asked_alone : ℕ → System → Taken
asked_alone p system =
    let process = process_in system.kernel.dispatcher.procs p in
    record { function = process.regs.c; word = word_of process.regs.e process.regs.d; dma = process.dma; fcb = zeros 36; bytes = [] }

own_reads : (f : ℕ) → is_own f ≡ true → reads_of f ≡ Registers
unfolding reads_of
own_reads f is = own_each (λ n. reads_of n ≡ Registers) f is refl refl refl refl refl refl refl

pub asks_alone : (p seg : ℕ) (system : System) → is_own (process_in system.kernel.dispatcher.procs p).regs.c ≡ true → asked_alone p system ≡ asked p seg system
unfolding asked Rattle.mpm_gate.specs.Calls.taken_call Rattle.mpm_gate.specs.Calls.block_read Rattle.mpm_gate.specs.Calls.bytes_read
asks_alone p seg system is =
    let process = process_in system.kernel.dispatcher.procs p in
    let word = word_of process.regs.e process.regs.d in
    let memory = byte_at system.memory seg in
    ap (λ (reads : Reads). let call : Taken = record {
      function = process.regs.c;
      word = word;
      dma = process.dma;
      fcb = block_read reads word memory;
      bytes = bytes_read reads word process.dma process.multi memory;
    } in call) (sym (own_reads process.regs.c is))

pub keeps_own : (p seg : ℕ) (old kept : System) → is_own (process_in old.kernel.dispatcher.procs p).regs.c ≡ true → kept ≡ keeping p (asked_alone p old) old
    → kept ≡ keeping p (asked p seg old) old
keeps_own p seg old kept is was = was ∙ ap (λ (call : Taken). keeping p call old) (asks_alone p seg old is)

-- a value alone places nothing in memory
pub placed_in_memory : (value word seg : ℕ) (memory : Memory) → memory ≡ placed (answering value) word seg memory
unfolding placed
placed_in_memory value word seg memory = written_none memory seg 0 [] refl
