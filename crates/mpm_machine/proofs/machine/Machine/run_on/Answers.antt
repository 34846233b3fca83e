use Rattle.std.proofs.Common.{◌≡◌, ◌∙◌, ◌+◌, true, false, sym, arith, rules}
use Rattle.std.proofs.lemmas.Grind.{common_steps}
use Rattle.std.specs.Prelude.{⊤}
use Rattle.std.proofs.lemmas.Option.{MatchOption-at_some}
use Rattle.mpm_output.specs.Outside.{seen}
use Rattle.mpm_machine.specs.declared.ahead.Ahead.{Ahead}
use Rattle.mpm_machine.specs.declared.machine.Machine.{Machine}
use Rattle.mpm_machine.specs.Moving.{RunsAhead}
use Rattle.mpm_machine.proofs.OwnCallStepLaws.{own_wrote, ahead_called}
use Rattle.mpm_machine.proofs.QuietlyLaws.{went_nowhere, went_silent, went_alone, went_both}
use Rattle.mpm_machine.proofs.machine.Machine.run_on.Goals as goal

-- no process runs so ahead
pub returns-in_default : goal.returns-in_default
returns-in_default g c = record {
  count = first_of (search rules, grind (arith, common_steps));
  went = went_silent g.D.Drives.disks c.args.drives.now (seen g.S.Sink.written g.S.Sink.faults c.args.render.now c.args.sink.now) c.idle.result
      c.args.self.now c.idle.new.system c.idle.ensures.went c.requires.between.whole c.requires.between.holds;
}

pub loop-done-init : goal.loop-done-init
loop-done-init g c = record {
  count = omega arith;
  went = went_nowhere g.D.Drives.disks c.args.drives.now (seen g.S.Sink.written g.S.Sink.faults c.args.render.now c.args.sink.now) c.args.self.now
      c.requires.between.whole c.requires.between.no_completions c.requires.between.holds;
  ahead = MatchOption-at_some ⊤ (λ (a : Ahead). RunsAhead a c.args.self.now.system) c.in-Some.here c.in-Some.is c.look_ahead-ahead.ensures.ahead;
}

-- its instructions, after which it makes no call that concerns it alone, or none is to be made any more

pub returns-then-done-most : goal.returns-then-done-most
returns-then-done-most g c = record {
  count = first_of (search rules, grind (arith, common_steps));
  went = let o = seen g.S.Sink.written g.S.Sink.faults c.args.render.now c.args.sink.now in
      let so_far = c.loop-done.invariant.went in
      let before : Machine = c.loop-done.self in
      went_both g.D.Drives.disks c.args.drives.now o c.loop-done.done c.run_burst-done.result c.args.self.now before (record before { system = c.run_burst-done.new.system }) so_far
      (went_silent g.D.Drives.disks c.args.drives.now o c.run_burst-done.result before c.run_burst-done.new.system
      c.run_burst-done.ensures.went so_far.whole so_far.holds);
}

-- and such a call

pub loop-done-preserved : goal.loop-done-preserved
loop-done-preserved g c =
    let o = seen g.S.Sink.written g.S.Sink.faults c.args.render.now c.args.sink.now in
    let disks = g.D.Drives.disks in
    let drives = c.args.drives.now in
    let here : Ahead = c.in-Some.here in
    let so_far = c.loop-done.invariant.went in
    let ran = c.run_burst-done.ensures in
    let before : Machine = c.loop-done.self in
    let there : Machine = record before { system = c.run_burst-done.new.system } in
    let behind : Machine = record before { system = c.do_own_call.new.system } in
    let burst = went_silent disks drives o c.run_burst-done.result before c.run_burst-done.new.system ran.went so_far.whole so_far.holds in
    let makes = c.if-not-makes_own_call.ensures.own in
    let unasked : here.alone ≡ true → c.is_tracing.result ≡ false =
    MatchOption-at_some ⊤ (λ (a : Ahead). a.alone ≡ true → c.is_tracing.result ≡ false) here c.in-Some.is c.look_ahead-ahead.ensures.untraced in
    let off : c.args.render.now.trace ≡ false = sym c.is_tracing.ensures ∙ unasked c.if-not-makes_own_call.ensures.alone in
    let alone = went_alone disks drives o here.p here.seg there c.do_own_call.new.system ran.went.whole makes c.do_own_call.ensures.system
    (own_wrote o _ off c.do_own_call.ensures.emitted) burst.holds in
    record {
      count = omega (arith, ran.count, c.loop-done.invariant.count, c.if-done-most.false);
      went = went_both disks drives o (c.loop-done.done + c.run_burst-done.result) 1 c.args.self.now there behind
          (went_both disks drives o c.loop-done.done c.run_burst-done.result c.args.self.now before there so_far burst) alone;
      ahead = ahead_called here c.run_burst-done.new.system c.do_own_call.new.system ran.went.whole makes c.do_own_call.ensures.system ran.still;
    }
