-- What a resident asks, what it tells and what it hands over, and how it takes an answer.
use Rattle.std.specs.Prelude.{ℕ, ◌==◌, ◌&&◌, Bool, if◌then◌else◌, Option, Some, None}
use Rattle.mpm_base.specs.Calls.{Taken, Answer, answering}
use Rattle.mpm_base.specs.declared.functions.TheConstants.{PRINT_STRING}
use Rattle.mpm_residents.specs.declared.cli.act.Act.{Act}
use Rattle.mpm_residents.specs.Natives.{native_call, native_in, interprets_if_there, answer_taken}
use Rattle.mpm_residents.specs.declared.native.Native.{Native}
use Rattle.mpm_kernel.specs.Called.{low_parameter}
use Rattle.mpm_kernel.specs.Columns.{column_of, expanded}
use Rattle.mpm_system.specs.declared.system.System.{System}
use Rattle.mpm_system.specs.Whole.{SystemChange, silent, speaking}
use Rattle.mpm_system.specs.Calling.{asking}
use Rattle.mpm_system.specs.Loading.{is_console, handed_over, handed_answer}

-- the resident of a slot takes the answer to its call
abbrev pub taking : Answer → ℕ → System → System
taking reply p system = record system { residents = answer_taken (native_in system.residents p) reply p system.residents }

-- the resident of a slot makes its next call, which its process keeps
abbrev pub asked_by : Option Native → ℕ → System → System
asked_by None p system = system
asked_by (Some native) p system = asking p (native_call native) system

-- function 9 of the interpreter is a text of the system: it comes to the console that the parameter names, where that is there, at
-- once, whoever owns the console and whether its output is stopped
abbrev pub tells : Option Native → Taken → Bool
tells native call = interprets_if_there native && call.function == PRINT_STRING

abbrev pub text_told : Taken → System → SystemChange
text_told call system =
    let console = low_parameter call in
    if is_console console system.kernel then speaking console (expanded (column_of system.kernel console) call.bytes) system else silent system

unfoldable pub telling_step : Taken → ℕ → System → SystemChange
telling_step call p system =
    let spoke = text_told call system in
    record spoke { system = taking (answering 0) p spoke.system }

-- the step of one that hands something over, by the bytes of the call that it filled in
unfoldable pub handing_step : Act → Taken → ℕ → System → System
handing_step act call p system = taking (handed_answer act system) p (handed_over act call.bytes p system)
