-- The spooler as a machine begins, and after n steps; that what it prints comes after it opened the file; and what then stands last on its
-- printer.
use Rattle.std.proofs.Common.{◌≡◌, ◌∙◌, ℕ, zero, suc, ◌<◌, ◌^◌, ◌+◌, Bool, true, false, List, [], ◌++◌, Option, None, length, take, reverse, refl, sym, ap, subst, arith}
use Rattle.std.proofs.lemmas.Bool.{false≢true}
use Rattle.std.proofs.lemmas.List.{append_assoc, take_at, length-reverse}
use Rattle.mpm_kernel.specs.Awaiting.{completions}
use Rattle.mpm_port.specs.Texts.{Begins}
use Rattle.mpm_render.specs.Outputs.{Output}
use Rattle.mpm_opens.specs.Opens.{AreOpen, HasNone}
use Rattle.mpm_refusals.specs.Filing.{Filing}
use Rattle.mpm_service.proofs.PlaceLaws.{at_none}
use Rattle.mpm_service.specs.Disk.{DiskService, no_service}
use Rattle.mpm_service.specs.Places.{at_disk}
use Rattle.mpm_service.specs.declared.service.Served.{Served}
use Rattle.mpm_spool.specs.Spoolers.{after as after_answers, opening}
use Rattle.mpm_spool.specs.declared.table.Row.{Row}
use Rattle.mpm_spool.specs.declared.table.Row.TheVariants.{ReadList, Open, Attach, AskStop, Read, Print, Detach, Close, Delete}
use Rattle.mpm_system.specs.Whole.{IsWhole, NoCompletions}
use Rattle.mpm_system.specs.declared.system.System.{System}
use Rattle.mpm_machine.proofs.NextLaws.{whole_after}
use Rattle.mpm_machine.proofs.PrintingSteps.{spooling_next, printing_next}
use Rattle.mpm_spool.proofs.PrintedLaws.{prints_text}
use Rattle.mpm_machine.proofs.DeletingLaws.{deleting_next}
use Rattle.mpm_machine.specs.After.{next, after}
use Rattle.mpm_machine.proofs.PlainLaws.{nowhere}
use Rattle.mpm_machine.proofs.TextLaws.{prints_file}
use Rattle.mpm_machine.specs.Files.{Between, filing_in, owes}
use Rattle.mpm_machine.specs.Interpreting.{sets_or_chains}
use Rattle.mpm_spool.specs.Printed.{text_of, to_printer, read_in, printed_in, has_file, has_printer}
use Rattle.mpm_machine.specs.Printed.{bytes_to}
use Rattle.mpm_machine.specs.Printing.{HasText, key_of_spool_item, seen_in, ServedBy, at_beginning, IsPrinting, DeletesPrinted}
use Rattle.mpm_machine.specs.Slots.{HasResidents}
use Rattle.mpm_machine.specs.Spooling.{IsSpooling}
use Rattle.mpm_machine.specs.State.{State}
use Rattle.mpm_machine.specs.Stepping.{stepped}

-- as a machine begins that has a spooler
unfoldable pub spools_at_first : (consoles : ℕ) (spool sched : Bool) (system : System) (turn_steps : ℕ) → HasResidents consoles spool sched system → IsWhole system → NoCompletions system
    → system.kernel.disk ≡ no_service turn_steps → spool ≡ true → IsSpooling (consoles + 1) system []
unfolding after_answers opening no_service
spools_at_first consoles spool sched system turn_steps has w none disk asked =
    let there = has.spooler asked in
    let gone : at_disk system.kernel.disk (consoles + 1) ≡ 0 = ap (λ (d : DiskService). at_disk d (consoles + 1)) disk ∙ at_none turn_steps (consoles + 1) in
    let nobody_served : system.kernel.disk.served ≡ None = ap (λ (d : DiskService). d.served) disk in
    let nobody : completions (consoles + 1) system.kernel.dispatcher.completed ≡ 0 = ap (completions (consoles + 1)) none.answered in
    record {
      answers = [];
      acts = there.resident;
      home = record { lives = there.lives; resides = there.resides; answers = there.answers; goes_on = there.goes_on; calls = ap sets_or_chains there.calls; set = there.set; pays = ap (λ (owed : List Bool). owes owed (consoles + 1)) (none.paid nobody_served) ∙ nowhere 32 (consoles + 1) };
      asks = λ is. absurd (cc);
      filed = λ some. absurd (omega (arith, some, gone));
      awaits = record { table = w.sound.table; few = omega (arith, nobody); at_once = λ all. absurd (omega (arith, all, nobody)) };
      owns = λ e. absurd (false≢true e);
      printed = λ e. absurd (false≢true e);
      came = λ e. absurd (false≢true e);
    }

-- and its file, whatever others have open
pub prints_at_first : (consoles : ℕ) (spool sched : Bool) (system : System) (turn_steps : ℕ) → HasResidents consoles spool sched system → IsWhole system → NoCompletions system
    → system.kernel.disk ≡ no_service turn_steps → spool ≡ true → (filing : Filing) → AreOpen filing.opens → HasNone (consoles + 1) filing.opens → IsPrinting (consoles + 1) (at_beginning filing system)
unfolding after_answers opening no_service spools_at_first
prints_at_first consoles spool sched system turn_steps has w none disk asked filing opens without =
    let nobody : (p : ℕ) → at_disk system.kernel.disk p ≡ 0 = λ p. ap (λ (d : DiskService). at_disk d p) disk ∙ at_none turn_steps p in
    let spooling = spools_at_first consoles spool sched system turn_steps has w none disk asked in
    record {
      spooling = spooling;
      filed = λ p some. absurd (omega (arith, some, nobody p));
      turns = λ p some. absurd (omega (arith, some, nobody p));
      served = subst (λ (served : Option Served). ServedBy served (Between filing)) (sym (ap (λ (d : DiskService). d.served) disk)) tt;
      reads = record { opens = opens; its_call = tt; file = λ e. absurd (false≢true e); without = λ _. without };
      prints = prints_file (consoles + 1) spooling.answers filing (λ e. absurd (false≢true e));
    }

-- after n steps
pub spooling_after : (q n : ℕ) (s : State) → IsWhole s.system → IsSpooling q s.system s.outputs → IsSpooling q (after n s).system (after n s).outputs
unfolding after
spooling_after q zero s w i = i
spooling_after q (suc n) s w i = spooling_next q (after n s) (whole_after n s w) (spooling_after q n s w i)

pub printing_after : (q n : ℕ) (s : State) → IsWhole s.system → IsPrinting q s → IsPrinting q (after n s)
unfolding after
printing_after q zero s w p = p
printing_after q (suc n) s w p = printing_next q (after n s) (whole_after n s w) (printing_after q n s w p)

-- where it has no file open, nothing is asked of what came before

printer_has_file : (row : Row) → has_printer row ≡ true → has_file row ≡ true
printer_has_file ReadList has = absurd (false≢true has)
printer_has_file Open has = absurd (false≢true has)
printer_has_file Attach has = refl
printer_has_file AskStop has = refl
printer_has_file Read has = refl
printer_has_file Print has = refl
printer_has_file Detach has = refl
printer_has_file Close has = refl
printer_has_file Delete has = absurd (false≢true has)

pub spooling_anew : (q : ℕ) (system : System) (outputs other : List Output) (i : IsSpooling q system outputs) → has_file (after_answers i.answers).row ≡ false → IsSpooling q system other
spooling_anew q system outputs other i none = record {
  answers = i.answers;
  acts = i.acts;
  home = i.home;
  asks = i.asks;
  filed = i.filed;
  awaits = i.awaits;
  owns = i.owns;
  printed = λ has. absurd (false≢true (sym none ∙ printer_has_file (after_answers i.answers).row has));
  came = λ has. absurd (false≢true (sym none ∙ has));
}

-- a state, of whose outputs those are left out that came before
abbrev pub anew : State → State
anew s = record s { outputs = [] }

pub printing_anew : (q : ℕ) (s : State) (p : IsPrinting q s) → has_file (after_answers p.spooling.answers).row ≡ false → IsPrinting q (anew s)
unfolding spooling_anew
printing_anew q s p none =
    record { spooling = spooling_anew q s.system s.outputs [] p.spooling none; filed = p.filed; turns = p.turns; served = p.served; reads = p.reads; prints = p.prints }

-- those of n steps are then what comes in front

next_over : (s : State) (outputs : List Output) → next (record s { outputs = s.outputs ++ outputs }) ≡ record (next s) { outputs = (next s).outputs ++ outputs }
unfolding next
next_over s outputs = ap (λ (all : List Output). record (next s) { outputs = all }) (sym (append_assoc (stepped s.system s.files).change.emitted s.outputs outputs))

pub after_anew : (n : ℕ) (s : State) → after n s ≡ record (after n (anew s)) { outputs = (after n (anew s)).outputs ++ s.outputs }
unfolding after
after_anew zero s = refl
after_anew (suc n) s = ap next (after_anew n s) ∙ next_over (after n (anew s)) s.outputs

-- so the text of a file for whose deletion it asks came to the printer in the steps since it had none open
pub deletes_since : (q n : ℕ) (s : State) → IsWhole s.system → (p : IsPrinting q s) → has_file (after_answers p.spooling.answers).row ≡ false
    → (r : IsPrinting q (after n (anew s))) × DeletesPrinted q (after n (anew s)) r (next (after n (anew s))).system.residents
deletes_since q n s w p none =
    let r = printing_after q n (anew s) w (printing_anew q s p none) in
    (r, deleting_next q (after n (anew s)) (whole_after n (anew s) w) r)

-- the last bytes on the printer are the first of the text of what was read, as many as it counts

first_part : (part whole : List ℕ) (n : ℕ) → Begins part whole → n ≡ length part → take n whole ≡ part
first_part part whole n b is = ap (take n) b.whole_is ∙ take_at part b.rest n (sym is)

last_by : (q : ℕ) (system : System) (outputs : List Output) (i : IsSpooling q system outputs) (whole : List ℕ) → has_printer (after_answers i.answers).row ≡ true → length (printed_in i.answers) < 2 ^ 64
    → Begins (printed_in i.answers) whole → take (after_answers i.answers).printed (bytes_to 0 outputs) ≡ reverse (take (after_answers i.answers).printed whole)
last_by q system outputs i whole has few begins =
    let s = after_answers i.answers in
    let count : s.printed ≡ length (printed_in i.answers) = (prints_text i.answers).count (printer_has_file s.row has) few in
    first_part (reverse (printed_in i.answers)) (bytes_to 0 outputs) s.printed (i.printed has) (count ∙ sym (length-reverse (printed_in i.answers)))
    ∙ ap reverse (sym (first_part (printed_in i.answers) whole s.printed begins count))

pub printed_last : (q : ℕ) (system : System) (outputs : List Output) (i : IsSpooling q system outputs) → has_printer (after_answers i.answers).row ≡ true → length (printed_in i.answers) < 2 ^ 64
    → take (after_answers i.answers).printed (bytes_to 0 outputs) ≡ reverse (take (after_answers i.answers).printed (to_printer (text_of (read_in i.answers))))
printed_last q system outputs i has few =
    last_by q system outputs i (to_printer (text_of (read_in i.answers))) has few ((prints_text i.answers).begins (printer_has_file (after_answers i.answers).row has))

-- and of the file's text
pub file_last : (q : ℕ) (s : State) (p : IsPrinting q s) (text : List ℕ) → HasText (seen_in (filing_in s.files) (key_of_spool_item (after_answers p.spooling.answers).item)) text
    → has_printer (after_answers p.spooling.answers).row ≡ true → length (printed_in p.spooling.answers) < 2 ^ 64
    → take (after_answers p.spooling.answers).printed (bytes_to 0 s.outputs) ≡ reverse (take (after_answers p.spooling.answers).printed (to_printer text))
file_last q s p text has_text has few =
    last_by q s.system s.outputs p.spooling (to_printer text) has few (p.prints.begins (printer_has_file (after_answers p.spooling.answers).row has) text has_text)
