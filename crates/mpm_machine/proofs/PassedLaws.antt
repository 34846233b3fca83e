-- So many steps of a run in which the disk's only pass: what they leave of those at the disk and of calls.
use Rattle.std.proofs.Common.{◌≡◌, ◌∙◌, ℕ, ◌<◌, Option, Some, None, IfSome, option_map, is_some, refl, sym, ap, subst, arith}
use Rattle.z80_regs.specs.declared.regs.Regs.{Regs}
use Rattle.mpm_base.specs.Calls.{Taken}
use Rattle.mpm_port.specs.Disks.{Disks}
use Rattle.mpm_procs.specs.Table.{Table, process_in, with_process}
use Rattle.mpm_procs.specs.declared.process.Process.{Process}
use Rattle.mpm_procs.proofs.MapLaws.{call_after}
use Rattle.mpm_service.specs.Disk.{DiskService, HasBegun}
use Rattle.mpm_service.specs.Ahead.{passed_on, passed_by}
use Rattle.mpm_service.specs.Places.{at_disk}
use Rattle.mpm_service.specs.declared.service.Served.{Served}
use Rattle.mpm_service.proofs.PlaceLaws.{at_passed}
use Rattle.mpm_kernel.specs.Kernel.{Kernel}
use Rattle.mpm_kernel.specs.Disk.{with_disk}
use Rattle.mpm_kernel.proofs.Beside.{field_kept}
use Rattle.mpm_bdos.specs.Starting.{HasBegunService}
use Rattle.mpm_file_functions.specs.Functions.{function_of}
use Rattle.mpm_bdos.specs.Serving.{Kept, InService}
use Rattle.mpm_system.specs.declared.system.System.{System}
use Rattle.mpm_system.specs.Idling.{later}
use Rattle.mpm_machine.proofs.PassingLaws.{passes_nothing}
use Rattle.mpm_machine.specs.Holding.{IsOwnCall, HoldsKept, CallsAlike}
use Rattle.mpm_machine.specs.Moving.{Moved, with_view}

-- how many steps a turn has stays
pub turn_steps_passed : (n : ℕ) (old new : DiskService) → new ≡ passed_by n old → new.turn_steps ≡ old.turn_steps
unfolding passed_by
turn_steps_passed n old new is = ap (λ (disk : DiskService). disk.turn_steps) is

-- none of them
pub later_none : (system : System) → system ≡ later system 0
later_none system =
    ap (λ (disk : DiskService). record system { kernel = record system.kernel { disk = disk } }) (sym (passes_nothing system.kernel.disk))
    ∙ ap (λ (steps : ℕ). record system { steps = steps; kernel = with_disk (passed_by 0) system.kernel }) (omega arith)

-- each process keeps its call, and its multi-sector count

pub alike_itself : (procs : Table) → CallsAlike procs procs
alike_itself procs = record { calls = λ q. refl; multi = λ q. refl }

alike_with_regs : (procs : Table) (p : ℕ) (regs : Regs) → CallsAlike procs (with_process procs p (record (process_in procs p) { regs = regs }))
alike_with_regs procs p regs =
    let process = record (process_in procs p) { regs = regs } in
    record { calls = λ q. call_after procs p q process; multi = λ q. field_kept (λ (x : Process). x.multi) procs p q process refl }

pub calls_moved : (n p seg : ℕ) (old new : System) → Moved n p seg old new → CallsAlike old.kernel.dispatcher.procs new.kernel.dispatcher.procs
unfolding with_view
calls_moved n p seg old new moved =
    let procs = old.kernel.dispatcher.procs in
    subst (λ (system : System). CallsAlike procs system.kernel.dispatcher.procs) (sym moved.is)
    (alike_with_regs procs p moved.view.regs)

pub calls_idle : (n : ℕ) (old new : System) → new ≡ later old n → CallsAlike old.kernel.dispatcher.procs new.kernel.dispatcher.procs
calls_idle n old new is =
    subst (λ (system : System). CallsAlike old.kernel.dispatcher.procs system.kernel.dispatcher.procs) (sym is) (alike_itself old.kernel.dispatcher.procs)

-- so what holds of drives, of what is kept and of those at the disk holds after them

own_alike : (old new : Table) (p : ℕ) (service : Option InService) → CallsAlike old new → IsOwnCall old p service → IsOwnCall new p service
own_alike old new p service alike own = record {
  function = own.function;
  its = ap (λ (call : Taken). function_of call.function) (alike.calls p) ∙ own.its;
  caller = own.caller;
  multi = own.multi ∙ sym (alike.multi p);
  entered = subst (λ (call : Taken). HasBegunService own.caller own.function call service) (sym (alike.calls p)) own.entered;
}

own_passed : (n : ℕ) (served : Option Served) (old new : Table) (service : Option InService) → CallsAlike old new
    → IfSome served (λ call. IsOwnCall old call.p service) → IfSome (option_map (passed_on n) served) (λ call. IsOwnCall new call.p service)
own_passed n None old new service alike own = tt
own_passed n (Some call) old new service alike own = own_alike old new call.p service alike own

begun_on : (n : ℕ) (served : Option Served) → IfSome served (λ call. 0 < call.left) → IfSome (option_map (passed_on n) served) (λ call. 0 < call.left)
begun_on n None begun = tt
begun_on n (Some call) begun = begun

holds_by : {D : Type 0} (disks : D → Disks) (n : ℕ) (old : Kernel) (kept : Kept) (drives : D)
    → HoldsKept disks old kept drives → HoldsKept disks (record old { disk = passed_by n old.disk }) kept drives
unfolding passed_by
holds_by disks n old kept drives h = record {
  filed = λ p some. h.filed p (omega (arith, at_passed old.disk n p, some));
  own = own_passed n old.disk.served old.dispatcher.procs old.dispatcher.procs kept.service (alike_itself old.dispatcher.procs) h.own;
  begun = begun_on n old.disk.served h.begun;
  fits = h.fits;
  workless = h.workless;
}

own_by : (served : Option Served) (old new : Table) (service : Option InService) → CallsAlike old new
    → IfSome served (λ call. IsOwnCall old call.p service) → IfSome served (λ call. IsOwnCall new call.p service)
own_by None old new service alike own = tt
own_by (Some call) old new service alike own = own_alike old new call.p service alike own

pub holds_passed : {D : Type 0} (disks : D → Disks) (n : ℕ) (old new : Kernel) (before kept : Kept) (drives : D)
    → new.disk ≡ passed_by n old.disk → CallsAlike old.dispatcher.procs new.dispatcher.procs → kept ≡ before
    → HoldsKept disks old before drives → HoldsKept disks new kept drives
holds_passed disks n old new before kept drives is alike same h =
    let passed = holds_by disks n old before drives h in
    let here : HoldsKept disks new before drives = record {
      filed = λ p some.
          ap (λ (call : Taken). is_some (function_of call.function)) (alike.calls p)
          ∙ passed.filed p (subst (λ (disk : DiskService). 0 < at_disk disk p) is some);
      own = own_by new.disk.served old.dispatcher.procs new.dispatcher.procs before.service alike
          (subst (λ (disk : DiskService). IfSome disk.served (λ call. IsOwnCall old.dispatcher.procs call.p before.service)) (sym is) passed.own);
      begun = subst HasBegun (sym is) passed.begun;
      fits = passed.fits;
      workless = passed.workless;
    } in
    subst (λ (k : Kept). HoldsKept disks new k drives) (sym same) here
