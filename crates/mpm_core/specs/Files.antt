-- The file of a core as it is written and read.
use Rattle.std.specs.Prelude.{◌≡◌, ◌++◌, List, ℕ, None, Some, Result, Ok, Err, OnOk, OnErr}
use Rattle.mpm_port.specs.declared.sink.Sink.{Ghosts}
use Rattle.mpm_port.specs.Causes.{HasCause}
use Rattle.mpm_port.specs.Texts.{AppendsPart}
use Rattle.mpm_core_file.specs.declared.reading.CoreFault.{CoreFault}
use Rattle.mpm_core_file.specs.CoreFiles.{CoreContents, IsCore, core_bytes, fault_of}

-- bytes follow what was written, or a first part of them where the sink failed
pub record PutsCore {S A E : Type 0} (of : Ghosts S) (bytes : List ℕ) (old new : S) (result : Result A E) : Type 0 where
  pub ok : OnOk result (of.written new ≡ of.written old ++ bytes)
  pub err : OnErr result (AppendsPart (of.written old) bytes (of.written new))
  pub cause : HasCause (of.faults old) (of.faults new) result

-- a text is the file of a core
pub record IsFileOfCore (text : List ℕ) (core : CoreContents) : Type 0 where
  pub file : text ≡ core_bytes core
  pub is : IsCore core
  pub none : fault_of text ≡ None

-- it was read; or it is none, and the core is as it was
abbrev pub ReadsCoreFile : {A : Type 0} → List ℕ → CoreContents → CoreContents → Result A CoreFault → Type 0
ReadsCoreFile text old new (Ok answer) = IsFileOfCore text new
ReadsCoreFile text old new (Err fault) = (fault_of text ≡ Some fault.place) × (new ≡ old)
