-- What a file call comes to goes by what it took and by what the kernel has, whatever bytes stand in memory.
use Rattle.std.proofs.Common.{◌≡◌, ◌∙◌, ℕ, Option, Some, None, refl, ap}
use Rattle.mpm_procs.specs.Table.{call_of}
use Rattle.mpm_kernel.specs.Kernel.{Kernel}
use Rattle.mpm_file_functions.specs.declared.functions.FileFunction.{FileFunction}
use Rattle.mpm_file_functions.specs.declared.functions.DirectFunction.{DirectFunction}
use Rattle.mpm_file_functions.specs.Functions.{function_of, direct_of}
use Rattle.mpm_refusals.specs.Filing.{Filing}
use Rattle.mpm_system.specs.declared.system.System.{System}
use Rattle.mpm_machine.specs.FileCalls.{situation_of, outcome_by, outcome_in}
use Rattle.mpm_machine.specs.DiskStep.{told_of_call}
use Rattle.mpm_machine.specs.After.{IsFiledByValue, IsOverByValue, EntersByValue}

value_by : (function : Option FileFunction) (other : Option DirectFunction) (filing : Filing) (p : ℕ) (old new : System) → new.kernel ≡ old.kernel
    → outcome_by function other filing p new ≡ outcome_by function other filing p old
value_by (Some function) other filing p old new same = ap (λ (kernel : Kernel). outcome_by (Some function) other filing p (record old { kernel = kernel })) same
value_by None (Some function) filing p old new same = ap (λ (kernel : Kernel). outcome_by None (Some function) filing p (record old { kernel = kernel })) same
value_by None None filing p old new same = refl

by_kernel : (filing : Filing) (p : ℕ) (old new : System) → new.kernel ≡ old.kernel → outcome_in filing p new ≡ outcome_in filing p old
unfolding outcome_in
by_kernel filing p old new same =
    ap (λ (kernel : Kernel). outcome_by (function_of (call_of kernel.dispatcher.procs p).function) (direct_of (call_of kernel.dispatcher.procs p).function) filing p new) same
    ∙ value_by (function_of (call_of old.kernel.dispatcher.procs p).function) (direct_of (call_of old.kernel.dispatcher.procs p).function) filing p old new same

-- one that is done at once
pub filed_by_value : (caller : Option ℕ) (system : System) → IsFiledByValue caller system
filed_by_value None system = tt
filed_by_value (Some p) system = λ filing other differs. by_kernel filing p system other differs.kernel

-- one that is over, and one that enters service
pub over_by_value : (over : Option ℕ) (system : System) → IsOverByValue over system
over_by_value None system = tt
over_by_value (Some p) system = λ s other differs. ap (λ (kernel : Kernel). told_of_call s p (record system { kernel = kernel })) differs.kernel

pub enters_by_value : (system : System) → EntersByValue system
enters_by_value system = λ filing function p other differs.
    ap (λ (kernel : Kernel). situation_of filing function p (record system { kernel = kernel })) differs.kernel
