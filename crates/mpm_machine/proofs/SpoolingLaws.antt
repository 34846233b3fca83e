-- The spooler goes on: through what leaves its slot, and as it takes an answer.
use Rattle.std.proofs.Common.{ℕ, ◌<◌, [], ◌≡◌, ◌∙◌, true, false, List, ◌∷◌, ◌++◌, zero, suc, reverse, Option, Some, None, refl, sym, ap, subst, arith}
use Rattle.std.specs.Prelude.{slice_get, slice_set}
use Rattle.std.proofs.lemmas.Bool.{false≢true}
use Rattle.std.proofs.lemmas.List.{append_assoc}
use Rattle.mpm_base.specs.Calls.{Answer}
use Rattle.mpm_consoles.specs.Consoles.{owner_of}
use Rattle.mpm_base.specs.declared.unit.Unit.TheVariants.{Printer}
use Rattle.mpm_kernel.specs.Awaiting.{AwaitsIn}
use Rattle.mpm_kernel.specs.Kernel.{Kernel}
use Rattle.mpm_port.specs.Texts.{Begins}
use Rattle.mpm_procs.specs.Table.{call_of}
use Rattle.mpm_render.specs.Outputs.{Output}
use Rattle.mpm_residents.specs.Natives.{native_in, native_took, answer_taken}
use Rattle.mpm_residents.specs.declared.native.Native.{Native}
use Rattle.mpm_residents.specs.declared.native.Native.TheVariants.{Spool}
use Rattle.mpm_service.specs.Places.{at_disk}
use Rattle.mpm_spool.specs.Spoolers.{Spooler, next_call, took, after}
use Rattle.mpm_spool.specs.declared.table.Row.TheVariants.{Attach}
use Rattle.mpm_system.specs.Residents.{taking}
use Rattle.mpm_system.specs.Whole.{SystemChange}
use Rattle.mpm_system.specs.declared.system.System.{System}
use Rattle.mpm_machine.proofs.SparedParts.{Spares, bytes_both}
use Rattle.mpm_machine.specs.FileCalls.{is_of_files}
use Rattle.mpm_machine.specs.Interpreting.{sets_or_chains}
use Rattle.mpm_spool.specs.Printed.{printed_in, has_file, has_printer}
use Rattle.mpm_machine.specs.Printed.{bytes_to}
use Rattle.mpm_machine.specs.Spooling.{IsAtHome, KeepsFileCall, Includes, IsSpooling, spooler_awaits, opens_or_attaches}

-- what else is so of the answers that it took, which stays so as it takes an answer to a call that isn't on files

abbrev pub Stays : (List Answer → Type 0) → Type 0
Stays Such = (answers : List Answer) (reply : Answer) → is_of_files (next_call (after answers)).function ≡ false → Such answers → Such (reply ∷ answers)

pub record Spools (Such : List Answer → Type 0) (q : ℕ) (system : System) (outputs : List Output) : Type 0 where
  pub answers : List Answer
  pub acts : native_in system.residents q ≡ Some (Spool (after answers))
  pub home : IsAtHome q system
  pub asks : (after answers).row ≡ Attach → opens_or_attaches (call_of system.kernel.dispatcher.procs q).function ≡ true
  pub filed : 0 < at_disk system.kernel.disk q → KeepsFileCall q answers system
  pub awaits : AwaitsIn (spooler_awaits (at_disk system.kernel.disk q) (after answers).row) q system.kernel
  pub owns : has_printer (after answers).row ≡ true → owner_of system.kernel.units (Printer 0) ≡ Some q
  pub printed : has_printer (after answers).row ≡ true → Begins (reverse (printed_in answers)) (bytes_to 0 outputs)
  pub came : has_file (after answers).row ≡ true → Includes (reverse (printed_in answers)) (bytes_to 0 outputs)
  pub so : Such answers
  pub stays : Stays Such

pub spools_as : {Such : List Answer → Type 0} (q : ℕ) (system : System) (outputs : List Output) (i : IsSpooling q system outputs) → Stays Such → Such i.answers → Spools Such q system outputs
spools_as q system outputs i stays so = record {
  answers = i.answers;
  acts = i.acts;
  home = i.home;
  asks = i.asks;
  filed = i.filed;
  awaits = i.awaits;
  owns = i.owns;
  printed = i.printed;
  came = i.came;
  so = so;
  stays = stays;
}

unfoldable pub so_then : {Such New : List Answer → Type 0} (q : ℕ) (system : System) (outputs : List Output) (i : Spools Such q system outputs) → Stays New → New i.answers → Spools New q system outputs
so_then q system outputs i stays so = record {
  answers = i.answers;
  acts = i.acts;
  home = i.home;
  asks = i.asks;
  filed = i.filed;
  awaits = i.awaits;
  owns = i.owns;
  printed = i.printed;
  came = i.came;
  so = so;
  stays = stays;
}

-- what leaves its slot leaves it

pub home_by : (q : ℕ) (old : System) (change : SystemChange) → Spares q old change → IsAtHome q old → IsAtHome q change.system
home_by q old change s h = record {
  lives = s.beside.living ∙ h.lives;
  resides = s.beside.seg ∙ h.resides;
  answers = s.beside.answers (λ is. false≢true (sym h.calls ∙ ap sets_or_chains is)) ∙ h.answers;
  goes_on = s.beside.due ∙ h.goes_on;
  calls = ap sets_or_chains s.beside.function ∙ h.calls;
  set = s.printer.set ∙ h.set;
  pays = s.pays h.pays;
}

pub begins_still : (part : List ℕ) (emitted outputs : List Output) → bytes_to 0 emitted ≡ [] → Begins part (bytes_to 0 outputs) → Begins part (bytes_to 0 (emitted ++ outputs))
begins_still part emitted outputs none b = record {
  rest = b.rest;
  whole_is = bytes_both 0 emitted outputs ∙ ap (λ (xs : List ℕ). xs ++ bytes_to 0 outputs) none ∙ b.whole_is;
}

-- what came stays, whatever comes later
pub includes_first : (part whole : List ℕ) → Begins part whole → Includes part whole
includes_first part whole b = record { later = []; earlier = b.rest; whole_is = b.whole_is }

pub includes_still : (part : List ℕ) (emitted outputs : List Output) → Includes part (bytes_to 0 outputs) → Includes part (bytes_to 0 (emitted ++ outputs))
includes_still part emitted outputs i = record {
  later = bytes_to 0 emitted ++ i.later;
  earlier = i.earlier;
  whole_is = bytes_both 0 emitted outputs ∙ ap (λ (xs : List ℕ). bytes_to 0 emitted ++ xs) i.whole_is ∙ sym (append_assoc (bytes_to 0 emitted) i.later (part ++ i.earlier));
}

unfoldable pub spooling_by : {Such : List Answer → Type 0} (q : ℕ) (old : System) (change : SystemChange) (outputs : List Output) → Spares q old change → Spools Such q old outputs → Spools Such q change.system (change.emitted ++ outputs)
spooling_by {Such} q old change outputs s i = record {
  answers = i.answers;
  acts = s.resident ∙ i.acts;
  home = home_by q old change s i.home;
  asks = λ is. ap opens_or_attaches s.beside.function ∙ i.asks is;
  filed = λ some. filed_still (i.filed (omega (arith, some, s.place)));
  awaits = subst (λ (places : ℕ). AwaitsIn (spooler_awaits places (after i.answers).row) q change.system.kernel) (sym s.place) (s.awaits (spooler_awaits (at_disk old.kernel.disk q) (after i.answers).row) i.awaits);
  owns = λ has. s.printer.owner 0 (i.owns has);
  printed = λ has. begins_still (reverse (printed_in i.answers)) change.emitted outputs (s.nothing 0 (i.owns has)) (i.printed has);
  came = λ has. includes_still (reverse (printed_in i.answers)) change.emitted outputs (i.came has);
  so = i.so;
  stays = i.stays;
} where
  filed_still : KeepsFileCall q i.answers old → KeepsFileCall q i.answers change.system
  filed_still f = record { files = f.files; kept = s.beside.function ∙ f.kept; block = s.printer.block ∙ f.block }

-- it takes an answer

pub set_itself : (natives : List Native) (q : ℕ) (native new : Native) → slice_get natives q ≡ Some native → slice_get (slice_set natives q new) q ≡ Some new
set_itself [] q native new is = absurd (cc)
set_itself (first ∷ others) zero native new is = refl
set_itself (first ∷ others) (suc q) native new is = set_itself others q native new is

took_itself : (o : Option Native) (natives : List Native) (q : ℕ) (s : Spooler) (reply : Answer) → slice_get natives q ≡ o → o ≡ Some (Spool s)
    → slice_get (answer_taken o reply q natives) q ≡ Some (Spool (took s reply))
took_itself None natives q s reply at is = absurd (cc)
took_itself (Some native) natives q s reply at is =
    set_itself natives q native (native_took native reply) at ∙ ap (λ (n : Native). Some (native_took n reply)) (same_native native (Spool s) is)
  where
    same_native : (a b : Native) → Some a ≡ Some b → a ≡ b
    same_native a b e = cc

pub acts_took : (q : ℕ) (system : System) (answers : List Answer) (reply : Answer) → native_in system.residents q ≡ Some (Spool (after answers))
    → native_in (taking reply q system).residents q ≡ Some (Spool (after (reply ∷ answers)))
unfolding after
acts_took q system answers reply is = took_itself (native_in system.residents q) system.residents q (after answers) reply refl is

pub awaits_more : (k q : ℕ) (kernel : Kernel) → AwaitsIn 0 q kernel → AwaitsIn k q kernel
awaits_more k q kernel a = record { table = a.table; few = omega (arith, a.few); at_once = λ _. a.at_once (omega arith) }

-- nothing is at the disk, nothing is awaited, and what was printed of the file that it then has came to the printer, as the last where that is
-- its own then
pub record Takes (Such : List Answer → Type 0) (q : ℕ) (answers : List Answer) (reply : Answer) (system : System) (outputs : List Output) : Type 0 where
  pub acts : native_in system.residents q ≡ Some (Spool (after answers))
  pub home : IsAtHome q system
  pub none : AwaitsIn 0 q system.kernel
  pub gone : at_disk system.kernel.disk q ≡ 0
  pub asks : (after (reply ∷ answers)).row ≡ Attach → opens_or_attaches (call_of system.kernel.dispatcher.procs q).function ≡ true
  pub owns : has_printer (after (reply ∷ answers)).row ≡ true → owner_of system.kernel.units (Printer 0) ≡ Some q
  pub printed : has_printer (after (reply ∷ answers)).row ≡ true → Begins (reverse (printed_in (reply ∷ answers))) (bytes_to 0 outputs)
  pub came : has_file (after (reply ∷ answers)).row ≡ true → Includes (reverse (printed_in (reply ∷ answers))) (bytes_to 0 outputs)
  pub so : Such (reply ∷ answers)
  pub stays : Stays Such

pub spooling_took : {Such : List Answer → Type 0} (q : ℕ) (answers : List Answer) (reply : Answer) (system : System) (outputs : List Output) → Takes Such q answers reply system outputs
    → Spools Such q (taking reply q system) outputs
spooling_took {Such} q answers reply system outputs t = record {
  answers = reply ∷ answers;
  acts = acts_took q system answers reply t.acts;
  home = record { lives = t.home.lives; resides = t.home.resides; answers = t.home.answers; goes_on = t.home.goes_on; calls = t.home.calls; set = t.home.set; pays = t.home.pays };
  asks = t.asks;
  filed = λ some. absurd (omega (arith, some, t.gone));
  awaits = awaits_more (spooler_awaits (at_disk system.kernel.disk q) (after (reply ∷ answers)).row) q system.kernel t.none;
  owns = t.owns;
  printed = t.printed;
  came = t.came;
  so = t.so;
  stays = t.stays;
}
