use Rattle.std.proofs.Common.{◌≡◌, ◌+◌, refl, sym, subst, ◌∙◌, arith, add-zero}
use Rattle.mpm_bdos.specs.Serving.{Serves}
use Rattle.mpm_bdos.specs.Turns.{images_of}
use Rattle.mpm_bdos.proofs.AskingLaws.{left_after}
use Rattle.mpm_bdos.proofs.AtOnceLaws.{no_turns, one_more, one_more_turn, rests_again, still_none, still_served, cause_since, is_ok_or_err}
use Rattle.mpm_bdos.proofs.bdos.Bdos.do_turns.Goals as goal

pub loop-turn-init : goal.loop-turn-init
loop-turn-init g c = record {
  serves = λ s ended first few. subst (Serves (images_of (g.D.Drives.disks c.args.drives.now)) c.args.self.now s) (sym (add-zero ended)) first;
  left = no_turns g.D.Drives.disks g.D.Drives.told g.D.Drives.failed_names g.D.Drives.unsynced c.args.self.now c.args.drives.now c.requires.fits;
  calls = omega arith;
  idle = λ none. record { kept = refl; device = refl; calls = refl };
  working = refl;
  count = refl;
}

pub turn-requires : goal.turn-requires
turn-requires g c =
    let so = c.loop-turn.invariant in
    record {
      fits = so.left.fits;
      served = still_served c.args.self.now c.loop-turn.self so.left.kept c.requires.served;
      left = left_after g.D.Drives.disks c.args.self.now c.loop-turn.self c.args.drives.now c.loop-turn.drives c.loop-turn._turn c.args.turns c.requires
          (omega (arith, c.loop-turn-test.true)) so.working so.serves;
    }

pub loop-turn-preserved : goal.loop-turn-preserved
loop-turn-preserved g c =
    let now = c.turn.new in
    let does = c.turn.ensures in
    let so = c.loop-turn.invariant in
    let turn = c.loop-turn._turn in
    record {
      serves = λ s ended first few. subst (Serves (images_of (g.D.Drives.disks now.drives)) now.self s) (one_more ended turn)
          (c.in_default.ensures.ok s (ended + turn) (so.serves s ended first (omega (arith, few))) (omega (arith, few)));
      left = one_more_turn g.D.Drives.disks g.D.Drives.told g.D.Drives.failed_names g.D.Drives.unsynced c.args.self.now c.loop-turn.self now.self c.args.drives.now c.loop-turn.drives now.drives so.left does.left;
      calls = omega (arith, does.takes.calls, so.calls);
      idle = λ none. rests_again c.args.self.now c.loop-turn.self now.self c.args.drives.now c.loop-turn.drives now.drives c.args.steps.now c.loop-turn.steps now.steps (so.idle none) does.left.kept
          (does.idle (still_none c.args.self.now c.loop-turn.self (so.idle none).kept none));
      working = does.still ∙ so.working;
      count = c.in_default.ensures.cause.stays ∙ so.count;
    }

pub returns-in-Err : goal.returns-in-Err
returns-in-Err g c =
    let now = c.turn.new in
    let does = c.turn.ensures in
    let so = c.loop-turn.invariant in
    let turn = c.loop-turn._turn in
    record {
      ok = λ s ended first few. tt;
      err = λ s ended first few. record {
        turn = ended + turn;
        since = omega arith;
        its = omega (arith, few, c.loop-turn-test.true);
        stops = c.in-Err.ensures.err s (ended + turn) (so.serves s ended first (omega (arith, few, c.loop-turn-test.true))) (omega (arith, few, c.loop-turn-test.true));
      };
      left = one_more_turn g.D.Drives.disks g.D.Drives.told g.D.Drives.failed_names g.D.Drives.unsynced c.args.self.now c.loop-turn.self now.self c.args.drives.now c.loop-turn.drives now.drives so.left does.left;
      calls = omega (arith, does.takes.calls, so.calls, c.loop-turn-test.true);
      idle = λ none. absurd (is_ok_or_err _ _ _ c.in-Err.is (does.done (still_none c.args.self.now c.loop-turn.self (so.idle none).kept none)));
      unfailing = λ none. absurd (is_ok_or_err _ _ _ c.in-Err.is (does.done (still_none c.args.self.now c.loop-turn.self (so.idle none).kept none)));
      cause = cause_since (g.D.Drives.faults c.args.drives.now) (g.D.Drives.faults c.loop-turn.drives) (g.D.Drives.faults now.drives) so.count
          c.in-Err.ensures.cause.later c.in-Err.ensures.cause.failed;
    }

pub returns : goal.returns
returns g c =
    let so = c.loop-turn.invariant in
    let all : c.loop-turn._turn ≡ c.args.turns = omega (arith, c.loop-turn-test.false, c.loop-turn.auto._turn-end) in
    record {
      ok = λ s ended first few. subst (λ turns. Serves (images_of (g.D.Drives.disks c.loop-turn.drives)) c.loop-turn.self s (ended + turns)) all (so.serves s ended first (omega (arith, few, all)));
      err = λ s ended first few. tt;
      left = so.left;
      calls = omega (arith, so.calls, all);
      idle = so.idle;
      unfailing = λ none. refl;
      cause = record { later = omega (arith, so.count); stays = so.count; failed = tt };
    }
