use Rattle.std.proofs.Common.{rules, ◌∙◌, true, refl, sym, ap, arith}
use Rattle.std.proofs.lemmas.Bool.{false≢true}
use Rattle.mpm_service.specs.Disk.{turn_answer}
use Rattle.mpm_service.specs.declared.service.Turn.TheVariants.{Work}
use Rattle.mpm_machine.specs.Parts.{of_drive}
use Rattle.mpm_machine.proofs.TurnLaws.{turn_works, nothing_to_work}
use Rattle.mpm_machine.proofs.WorkLaws.{turn_to_do, has_served, is_held, works_here, no_work_here, works_in, turn_failed, holds_worked}
use Rattle.mpm_machine.proofs.PartsLaws.{uses_none, uses_turns, done_fails}
use Rattle.mpm_machine.proofs.filing.work.Goals as goal

-- a turn of the call in service is left

pub turn-requires : goal.turn-requires
turn-requires g c = record {
  fits = c.requires.calls.fits;
  served = is_held c.args.system.now.kernel c.args.bdos.now.service
      (has_served c.args.system.now.kernel.disk
      (works_here c.args.system.now.kernel.disk c.ahead.result (Work c.in-Work.p c.in-Work.last) true (c.ahead.ensures ∙ ap turn_answer c.disk.ensures) c.in-Work.is refl))
      c.requires.calls.own;
  left = turn_to_do c.args.system.now.kernel.disk c.args.bdos.now (g.D.Drives.disks c.args.drives.now) c.requires.files c.requires.stands;
}

-- a drive failed in the turn

pub returns-in-Err : goal.returns-in-Err
returns-in-Err g c = record {
  ok = λ files stands. tt;
  err = λ files stands.
      turn_failed (g.D.Drives.disks c.args.drives.now) (g.D.Drives.disks c.turn.new.drives) c.args.system.now c.args.bdos.now c.turn.new.self.mounted files
      (works_here c.args.system.now.kernel.disk c.ahead.result (Work c.in-Work.p c.in-Work.last) true (c.ahead.ensures ∙ ap turn_answer c.disk.ensures) c.in-Work.is refl)
      stands c.in-Err.ensures.err c.turn.ensures.left.images c.turn.ensures.left.kept.labels;
  uses =
      let turned = c.turn.ensures in
      uses_turns g.D.Drives of_drive c.args.bdos.now c.turn.new.self c.args.drives.now c.turn.new.drives _ turned.left
      (λ bare. (turned.idle (c.requires.calls.workless bare)).drives) (λ bare. absurd (done_fails (c.in-Err.ensures.done (c.requires.calls.workless bare))));
  holds =
      holds_worked g.D.Drives.disks c.args.system.now.kernel c.args.bdos.now c.turn.new.self c.args.drives.now c.turn.new.drives
      c.requires.calls c.turn.ensures.left.kept c.turn.ensures.still c.turn.ensures.left.fits;
  workless = search rules;
  idle = λ idle.
      absurd (false≢true (sym idle ∙ works_in c.args.system.now
      (works_here c.args.system.now.kernel.disk c.ahead.result (Work c.in-Work.p c.in-Work.last) true (c.ahead.ensures ∙ ap turn_answer c.disk.ensures) c.in-Work.is refl)));
  few = c.turn.ensures.takes.calls;
  cause = search rules;
}

-- the turn was done

pub returns-in_default-turn : goal.returns-in_default-turn
returns-in_default-turn g c = record {
  ok = λ files stands.
      turn_works c.args.system.now.kernel.disk c.args.bdos.now c.turn.new.self (g.D.Drives.disks c.args.drives.now) (g.D.Drives.disks c.turn.new.drives) files
      (works_here c.args.system.now.kernel.disk c.ahead.result (Work c.in-Work.p c.in-Work.last) true (c.ahead.ensures ∙ ap turn_answer c.disk.ensures) c.in-Work.is refl)
      stands c.in_default-turn.ensures.ok;
  err = λ files stands. tt;
  uses =
      let turned = c.turn.ensures in
      uses_turns g.D.Drives of_drive c.args.bdos.now c.turn.new.self c.args.drives.now c.turn.new.drives _ turned.left
      (λ bare. (turned.idle (c.requires.calls.workless bare)).drives) (λ bare. tt);
  holds =
      holds_worked g.D.Drives.disks c.args.system.now.kernel c.args.bdos.now c.turn.new.self c.args.drives.now c.turn.new.drives
      c.requires.calls c.turn.ensures.left.kept c.turn.ensures.still c.turn.ensures.left.fits;
  workless = search rules;
  idle = λ idle.
      absurd (false≢true (sym idle ∙ works_in c.args.system.now
      (works_here c.args.system.now.kernel.disk c.ahead.result (Work c.in-Work.p c.in-Work.last) true (c.ahead.ensures ∙ ap turn_answer c.disk.ensures) c.in-Work.is refl)));
  few = c.turn.ensures.takes.calls;
  cause = search rules;
}

-- nothing was to be done

pub returns-in_default : goal.returns-in_default
returns-in_default g c = record {
  ok = λ files stands.
      nothing_to_work c.args.system.now.kernel.disk c.args.bdos.now (g.D.Drives.disks c.args.drives.now) files
      (no_work_here c.args.system.now.kernel.disk c.ahead.result (c.ahead.ensures ∙ ap turn_answer c.disk.ensures) c.in_default.not-Work) stands;
  err = λ files stands. tt;
  uses = uses_none _ of_drive _ _ _ tt;
  holds = c.requires.calls;
  workless = λ less. refl;
  idle = λ idle. record { sink = tt; drives = refl; calls = refl };
  few = omega arith;
  cause = record { later = omega arith; stays = refl; failed = tt };
}
