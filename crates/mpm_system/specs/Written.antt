-- The records of the calls that a step completed come out.
use Rattle.std.specs.Prelude.{List, [], ◌∷◌}
use Rattle.mpm_render.specs.Completions.{Completion}
use Rattle.mpm_render.specs.Outputs.{Output, Completed}
use Rattle.mpm_system.specs.declared.system.System.{System}
use Rattle.mpm_system.specs.Whole.{SystemChange, silent}

-- the records of completed calls come out, in order, after all else that the step says
unfoldable pub recorded_behind : List Completion → List Output → List Output
recorded_behind [] outputs = outputs
recorded_behind (call ∷ calls) outputs = recorded_behind calls (Completed call ∷ outputs)

abbrev pub with_records : SystemChange → SystemChange
with_records change = record {
  system = record change.system { records = [] };
  emitted = recorded_behind change.system.records change.emitted;
}

-- so they come out where nothing else is said
abbrev pub records_out : System → SystemChange
records_out system = with_records (silent system)
