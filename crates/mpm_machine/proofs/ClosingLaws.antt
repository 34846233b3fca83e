-- The spooler's function 16 closes its file: it has nothing open then.
use Rattle.std.proofs.Common.{◌≡◌, ◌∙◌, ℕ, Bool, List, Some, ap}
use Rattle.mpm_base.specs.Calls.{word_at}
use Rattle.mpm_bdos.proofs.ClosedFile.{closes_its_only}
use Rattle.mpm_bdos.specs.Outcomes.{file_call}
use Rattle.mpm_fcb.specs.Blocks.{block_of}
use Rattle.mpm_fcb.specs.Names.{drive_of, has_f5}
use Rattle.mpm_file_functions.specs.declared.functions.FileFunction.{FileFunction}
use Rattle.mpm_file_functions.specs.declared.functions.FileFunction.TheVariants.{CloseFile}
use Rattle.mpm_opens.specs.Opens.{AreOpen, HasNone}
use Rattle.mpm_refusals.specs.Filing.{Situation, block}
use Rattle.mpm_refusals.specs.Subjects.{drive_by, last_search, number_by}
use Rattle.mpm_spool.specs.Spoolers.{Spooler}
use Rattle.mpm_machine.proofs.ReadingLaws.{NamesItsFile, named_drive, its_open_key}
use Rattle.mpm_machine.specs.Printing.{key_of_spool_item, ReadsFile}

pub record IsCloseOf (q : ℕ) (s : Spooler) (call : Situation) : Type 0 where
  pub function : call.function ≡ CloseFile
  pub process : call.caller.process ≡ q
  pub block_is : call.call.fcb ≡ s.fcb
  pub drive : call.caller.drive ≡ 0

closing_names : (q : ℕ) (s : Spooler) (call : Situation) → IsCloseOf q s call → NamesItsFile q s call
unfolding drive_by number_by
closing_names q s call c = record {
  process = c.process;
  block_is = c.block_is;
  drive_is = ap (λ (f : FileFunction). drive_by (last_search call) call.caller.drive call.call.word (block call) f) c.function
      ∙ ap (λ (own : ℕ). Some (drive_of own (block call))) c.drive;
  number_is = ap (number_by (word_at call.call 0) (block call)) c.function;
}

pub close_answered : (q : ℕ) (s : Spooler) (read : List ℕ) (ended : Bool) (call : Situation) → ReadsFile q s read ended call.filing → IsCloseOf q s call → AreOpen call.filing.opens
    → HasNone q (file_call call).filing.opens
close_answered q s read ended call r c opens =
    let names = closing_names q s call c in
    closes_its_only call q (key_of_spool_item s.item) r.number c.function
    (record { process = c.process; drive = named_drive q s read ended call r names; key_is = its_open_key q s read ended call r names; has = r.has })
    (ap (λ (fcb : List ℕ). has_f5 (block_of fcb)) c.block_is ∙ r.f5) opens r.one
