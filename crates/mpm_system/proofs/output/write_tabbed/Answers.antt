use Rattle.std.proofs.Common.{◌∙◌, List, ℕ, subst, arith}
use Rattle.mpm_kernel.proofs.SpokeLaws.{wrote_tabbed, spaces_most, tab_is_spaces, tab_is_itself}
use Rattle.mpm_output.specs.Writing.{spoken, WritesAlone}
use Rattle.mpm_system.proofs.output.write_tabbed.Goals as goal

pub shared_ref_as_front-put_bytes : goal.shared_ref_as_front-put_bytes
shared_ref_as_front-put_bytes g c = spaces_most c.args.kernel.now c.args.console c.args.byte _ c.write-spaces.ensures.spaces

pub returns-then-spaces-gt0 : goal.returns-then-spaces-gt0
returns-then-spaces-gt0 g c =
    let P : List ℕ → Type 0 = λ text. WritesAlone g.S.Sink.written g.S.Sink.faults c.args.render.now c.args.sink.now c.put_bytes.new.render c.put_bytes.new.sink
    (spoken c.args.console text) c.put_bytes.result in
    record {
      kernel = c.write-spaces.ensures.kernel ∙ wrote_tabbed c.args.kernel.now c.args.console c.args.byte;
      wrote = subst P (tab_is_spaces c.args.kernel.now c.args.console c.args.byte _ c.write-spaces.ensures.spaces c.if-spaces-gt0.true) c.put_bytes.ensures.wrote;
    }

pub returns-else-spaces-gt0 : goal.returns-else-spaces-gt0
returns-else-spaces-gt0 g c =
    let P : List ℕ → Type 0 = λ text. WritesAlone g.S.Sink.written g.S.Sink.faults c.args.render.now c.args.sink.now c.put_bytes-else-spaces-gt0.new.render
    c.put_bytes-else-spaces-gt0.new.sink (spoken c.args.console text) c.put_bytes-else-spaces-gt0.result in
    record {
      kernel = c.write-spaces.ensures.kernel ∙ wrote_tabbed c.args.kernel.now c.args.console c.args.byte;
      wrote = subst P (tab_is_itself c.args.kernel.now c.args.console c.args.byte _ c.write-spaces.ensures.spaces (omega (arith, c.if-spaces-gt0.false)))
          c.put_bytes-else-spaces-gt0.ensures.wrote;
    }
