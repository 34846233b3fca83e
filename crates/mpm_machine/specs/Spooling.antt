-- The spooler of a machine in every step: what it printed of its file came to its printer, and in the rows in which that is its own it stands
-- there last. (MP/M II User's Guide, "SPOOL"; Programmer's Guide, "Function 158: Attach List", "Function 5: List Output".)
use Rattle.std.specs.Prelude.{◌≡◌, ℕ, ◌<◌, ◌==◌, ◌||◌, if◌then◌else◌, Bool, true, false, List, ◌++◌, reverse, Some, None}
use Rattle.mpm_base.specs.Calls.{Answer}
use Rattle.mpm_base.specs.declared.functions.TheConstants.{OPEN_FILE, ATTACH_LIST}
use Rattle.mpm_consoles.specs.Consoles.{owner_of}
use Rattle.mpm_base.specs.declared.unit.Unit.TheVariants.{Printer}
use Rattle.mpm_kernel.specs.Awaiting.{AwaitsIn}
use Rattle.mpm_port.specs.Texts.{Begins}
use Rattle.mpm_procs.specs.Table.{Lives, process_in, call_of}
use Rattle.mpm_render.specs.Outputs.{Output}
use Rattle.mpm_residents.specs.Natives.{native_in}
use Rattle.mpm_residents.specs.declared.native.Native.TheVariants.{Spool}
use Rattle.mpm_service.specs.Places.{at_disk}
use Rattle.mpm_spool.specs.Spoolers.{next_call, after}
use Rattle.mpm_spool.specs.declared.table.Row.{Row}
use Rattle.mpm_spool.specs.declared.table.Row.TheVariants.{ReadList, Attach}
use Rattle.mpm_system.specs.declared.system.System.{System}
use Rattle.mpm_machine.specs.FileCalls.{is_of_files}
use Rattle.mpm_machine.specs.Interpreting.{sets_or_chains}
use Rattle.mpm_machine.specs.Files.{owes}
use Rattle.mpm_machine.specs.Slots.{settings_of, first_settings}
use Rattle.mpm_spool.specs.Printed.{printed_in, has_file, has_printer}
use Rattle.mpm_machine.specs.Printed.{bytes_to}

-- a resident of a slot lives there in no segment, takes extended errors as answers, no end of it is put off, it owes nothing, and its last
-- call neither set the error mode nor chained. It prints on printer 0, and its file calls are of drive A, of user 0 and of one record
pub record IsAtHome (q : ℕ) (system : System) : Type 0 where
  pub lives : Lives system.kernel.dispatcher.procs q
  pub resides : (process_in system.kernel.dispatcher.procs q).seg ≡ None
  pub answers : (process_in system.kernel.dispatcher.procs q).error_mode ≡ 255
  pub goes_on : (process_in system.kernel.dispatcher.procs q).abort_due ≡ false
  pub calls : sets_or_chains (call_of system.kernel.dispatcher.procs q).function ≡ false
  pub set : settings_of (process_in system.kernel.dispatcher.procs q) ≡ first_settings
  pub pays : owes system.owed q ≡ false

-- it awaits a list of files as it reads one, may wait for the printer as it attaches it, and awaits the answer to its file call while
-- that is at the disk; else it awaits nothing, is ready, and each answer comes at once
abbrev pub may_wait : Row → Bool
may_wait ReadList = true
may_wait Attach = true
may_wait _ = false

abbrev pub spooler_awaits : ℕ → Row → ℕ
spooler_awaits places of_row = if may_wait of_row then 1 else places

-- as it attaches the printer, its last call opened the file or attached
abbrev pub opens_or_attaches : ℕ → Bool
opens_or_attaches function = function == OPEN_FILE || function == ATTACH_LIST

-- the call of its row is one on files, and its process keeps that
pub record KeepsFileCall (q : ℕ) (answers : List Answer) (system : System) : Type 0 where
  pub files : is_of_files (next_call (after answers)).function ≡ true
  pub kept : (call_of system.kernel.dispatcher.procs q).function ≡ (next_call (after answers)).function
  pub block : (call_of system.kernel.dispatcher.procs q).fcb ≡ (next_call (after answers)).fcb

-- among the bytes that came, newest first, a part stands in one piece: some came later than it, and some earlier
pub record Includes (part whole : List ℕ) : Type 0 where
  pub later : List ℕ
  pub earlier : List ℕ
  pub whole_is : whole ≡ later ++ (part ++ earlier)

-- the spooler acts in a slot, as it is after some answers. While the printer is its own, the last bytes that came there are those that it
-- printed of its file. While it has the file open, these stand there in one piece. Where it has none open nothing is asked of what came, so
-- that outputs may be counted from there on
pub record IsSpooling (q : ℕ) (system : System) (outputs : List Output) : Type 0 where
  pub answers : List Answer
  pub acts : native_in system.residents q ≡ Some (Spool (after answers))
  pub home : IsAtHome q system
  pub asks : (after answers).row ≡ Attach → opens_or_attaches (call_of system.kernel.dispatcher.procs q).function ≡ true
  pub filed : 0 < at_disk system.kernel.disk q → KeepsFileCall q answers system
  pub awaits : AwaitsIn (spooler_awaits (at_disk system.kernel.disk q) (after answers).row) q system.kernel
  pub owns : has_printer (after answers).row ≡ true → owner_of system.kernel.units (Printer 0) ≡ Some q
  pub printed : has_printer (after answers).row ≡ true → Begins (reverse (printed_in answers)) (bytes_to 0 outputs)
  pub came : has_file (after answers).row ≡ true → Includes (reverse (printed_in answers)) (bytes_to 0 outputs)
