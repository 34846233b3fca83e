use Rattle.std.proofs.Common.{◌≡◌, ℕ, ◌+◌, ◌*◌, ◌≤◌, Option, None, refl, ap, sym, ◌∙◌, subst, arith}
use Rattle.std.specs.Prelude.{is_some, option_map}
use Rattle.mpm_base.specs.declared.kind.Kind.{Kind}
use Rattle.mpm_clock.specs.PackedDecimal.{stamp}
use Rattle.mpm_refusals.specs.Subjects.{drive_number}
use Rattle.mpm_bdos.specs.Jobs.{call_turns}
use Rattle.mpm_bdos.specs.Serving.{Kept, Serves}
use Rattle.mpm_directories.specs.Places.{directory_at}
use Rattle.mpm_bdos.specs.Starting.{caller_of, entering}
use Rattle.mpm_bdos.specs.Turns.{FitsDrives, KeepsToldOf, KeepsUnsynced, StaysBeside, drive_and_kind, images_of}
use Rattle.mpm_bdos.proofs.NextTurns.{idle_work}
use Rattle.mpm_bdos.proofs.AskingLaws.{begun_turns}
use Rattle.mpm_bdos.specs.Asking.{HasCallTurns}
use Rattle.mpm_bdos.proofs.AtOnceLaws.{changes_alone, alone_still, still_served}
use Rattle.mpm_bdos.proofs.bdos.Bdos.call_at_once.Goals as goal

-- its turns are left

pub do_turns-requires : goal.do_turns-requires
do_turns-requires g c =
    let disks = g.D.Drives.disks in
    let begun : HasCallTurns (images_of (disks c.args.drives.now)) c.start-turns.new.self c.start-turns.result =
    begun_turns (images_of (disks c.args.drives.now)) c.args.self.now c.start-turns.new.self c.args.p c.args.process.now c.args.call.now c.args.now c.start-turns.result c.requires.file
    c.requires.stand c.start-turns.ensures
    in
    record {
      fits = subst (λ (kept : Kept). FitsDrives disks kept.mounted kept.cached c.args.drives.now) (sym c.start-turns.ensures.kept) c.requires.fits;
      served = ap is_some begun.serves.there;
      left = λ works. begun;
    }

-- it is still in service then

pub reply-requires : goal.reply-requires
reply-requires g c =
    let disks = g.D.Drives.disks in
    let begun : HasCallTurns (images_of (disks c.args.drives.now)) c.start-turns.new.self c.start-turns.result =
    begun_turns (images_of (disks c.args.drives.now)) c.args.self.now c.start-turns.new.self c.args.p c.args.process.now c.args.call.now c.args.now c.start-turns.result c.requires.file
    c.requires.stand c.start-turns.ensures
    in
    still_served c.start-turns.new.self c.do_turns.new.self c.do_turns.ensures.left.kept (ap is_some begun.serves.there)

-- its turns were done

pub returns-in-Ok : goal.returns-in-Ok
returns-in-Ok g c =
    let left = c.do_turns.ensures.left in
    record {
      done = λ before function is stand. record {
        ok =
            let first = images_of (g.D.Drives.disks c.args.drives.now) in
            let images = images_of (g.D.Drives.disks c.do_turns.new.drives) in
            let s = entering c.args.self.now before (caller_of c.args.p c.args.process.now) function c.args.call.now (stamp c.args.now) in
            let turns : c.start-turns.result ≡ call_turns s = c.start-turns.ensures.turns first before function is stand in
            let all : 0 + c.start-turns.result ≡ call_turns s = omega (arith, turns) in
            c.reply.ensures.comes images s
            (subst (Serves images c.do_turns.new.self s) all (c.in-Ok.ensures.ok s 0 (c.start-turns.ensures.serves first before function is stand) (omega (arith, turns))));
        err =
            tt;
        idle =
            λ none.
            let images = images_of (g.D.Drives.disks c.args.drives.now) in
            let s = entering c.args.self.now before (caller_of c.args.p c.args.process.now) function c.args.call.now (stamp c.args.now) in
            let rest = c.do_turns.ensures.idle (idle_work images c.start-turns.new.self s 0 none (c.start-turns.ensures.serves images before function is stand)) in
            (rest.device, rest.calls, refl);
        calls =
            subst (λ n. c.do_turns.new.steps ≤ c.args.steps.now + 20 * n)
            (c.start-turns.ensures.turns (images_of (g.D.Drives.disks c.args.drives.now)) before function is stand) c.do_turns.ensures.calls;
      };
      own = λ before function is. record {
        alone =
            let disks = g.D.Drives.disks in
            let s = entering c.args.self.now before (caller_of c.args.p c.args.process.now) function c.args.call.now (stamp c.args.now) in
            alone_still (drive_number s) c.args.self.now.mounted c.start-turns.new.self.mounted c.do_turns.new.self.mounted c.reply.new.self.mounted (disks c.args.drives.now) (disks c.do_turns.new.drives)
            (ap (λ (kept : Kept). kept.mounted) c.start-turns.ensures.kept) (ap (λ (kept : Kept). kept.mounted) c.reply.ensures.kept)
            (changes_alone disks g.D.Drives.told g.D.Drives.failed_names g.D.Drives.unsynced c.start-turns.new.self c.do_turns.new.self c.args.drives.now c.do_turns.new.drives (drive_number s)
            (c.start-turns.ensures.drive before function is) c.do_turns.ensures.left);
        kept_unsynced =
            let unsynced = g.D.Drives.unsynced in
            subst (λ drive. KeepsUnsynced drive (unsynced c.args.drives.now) (unsynced c.do_turns.new.drives)) (c.start-turns.ensures.drive before function is) c.do_turns.ensures.left.kept_unsynced;
      };
      none = λ none. ((c.do_turns.ensures.idle (c.start-turns.ensures.workless none)).device, refl);
      service = λ function is. ap (λ (kept : Kept). kept.service) c.reply.ensures.kept;
      stopped = tt;
      left = record {
        labels = λ number.
            let labels : Kept → Option (ℕ × Kind) = λ kept. option_map drive_and_kind (directory_at kept.mounted number) in
            ap labels c.reply.ensures.kept ∙ left.kept.labels number ∙ ap labels c.start-turns.ensures.kept;
        fits = subst (λ (kept : Kept). FitsDrives g.D.Drives.disks kept.mounted kept.cached c.do_turns.new.drives) (sym c.reply.ensures.kept) left.fits;
        beside = subst (λ (kept : Kept). StaysBeside kept.mounted (g.D.Drives.disks c.args.drives.now) (g.D.Drives.disks c.do_turns.new.drives)) c.start-turns.ensures.kept left.beside;
        told_are = subst (λ (kept : Kept). KeepsToldOf kept.mounted (g.D.Drives.disks c.args.drives.now) (g.D.Drives.told c.args.drives.now) (g.D.Drives.told c.do_turns.new.drives)) c.start-turns.ensures.kept left.told_are;
        names = left.names;
      };
      cause = record { later = c.in-Ok.ensures.cause.later; stays = c.in-Ok.ensures.cause.stays; failed = tt };
    }

-- a device failed in one

pub returns-in-Err : goal.returns-in-Err
returns-in-Err g c =
    let left = c.do_turns.ensures.left in
    record {
      done = λ before function is stand. record {
        ok =
            tt;
        err =
            let first = images_of (g.D.Drives.disks c.args.drives.now) in
            let s = entering c.args.self.now before (caller_of c.args.p c.args.process.now) function c.args.call.now (stamp c.args.now) in
            let turns : c.start-turns.result ≡ call_turns s = c.start-turns.ensures.turns first before function is stand in
            c.in-Err.ensures.err s 0 (c.start-turns.ensures.serves first before function is stand) (omega (arith, turns));
        idle =
            λ none.
            let images = images_of (g.D.Drives.disks c.args.drives.now) in
            let s = entering c.args.self.now before (caller_of c.args.p c.args.process.now) function c.args.call.now (stamp c.args.now) in
            let workless = idle_work images c.start-turns.new.self s 0 none (c.start-turns.ensures.serves images before function is stand) in
            let rest = c.do_turns.ensures.idle workless in
            (rest.device, rest.calls, c.in-Err.ensures.unfailing workless);
        calls =
            subst (λ n. c.do_turns.new.steps ≤ c.args.steps.now + 20 * n)
            (c.start-turns.ensures.turns (images_of (g.D.Drives.disks c.args.drives.now)) before function is stand) c.do_turns.ensures.calls;
      };
      own = λ before function is. record {
        alone =
            let disks = g.D.Drives.disks in
            let s = entering c.args.self.now before (caller_of c.args.p c.args.process.now) function c.args.call.now (stamp c.args.now) in
            alone_still (drive_number s) c.args.self.now.mounted c.start-turns.new.self.mounted c.do_turns.new.self.mounted c.leave_service.new.self.mounted (disks c.args.drives.now) (disks c.do_turns.new.drives)
            (ap (λ (kept : Kept). kept.mounted) c.start-turns.ensures.kept) (ap (λ (kept : Kept). kept.mounted) c.leave_service.ensures)
            (changes_alone disks g.D.Drives.told g.D.Drives.failed_names g.D.Drives.unsynced c.start-turns.new.self c.do_turns.new.self c.args.drives.now c.do_turns.new.drives (drive_number s)
            (c.start-turns.ensures.drive before function is) c.do_turns.ensures.left);
        kept_unsynced =
            let unsynced = g.D.Drives.unsynced in
            subst (λ drive. KeepsUnsynced drive (unsynced c.args.drives.now) (unsynced c.do_turns.new.drives)) (c.start-turns.ensures.drive before function is) c.do_turns.ensures.left.kept_unsynced;
      };
      none = λ none. ((c.do_turns.ensures.idle (c.start-turns.ensures.workless none)).device, c.in-Err.ensures.unfailing (c.start-turns.ensures.workless none));
      service = λ function is. ap (λ (kept : Kept). kept.service) c.leave_service.ensures;
      stopped = record {
        kept =
            let old = c.args.self.now in
            let behind = c.do_turns.new.self in
            let new = c.leave_service.new.self in
            c.leave_service.ensures ∙ ap (λ (kept : Kept). record kept { service = None }) left.kept.rest
            ∙ ap (λ (kept : Kept). record kept { mounted = behind.mounted; cached = behind.cached; service = None }) c.start-turns.ensures.kept
            ∙ ap (λ m. record old { mounted = m; cached = behind.cached; service = None }) (sym (ap (λ (kept : Kept). kept.mounted) c.leave_service.ensures))
            ∙ ap (λ x. record old { mounted = new.mounted; cached = x; service = None }) (sym (ap (λ (kept : Kept). kept.cached) c.leave_service.ensures));
        answer = refl;
      };
      left = record {
        labels = λ number.
            let labels : Kept → Option (ℕ × Kind) = λ kept. option_map drive_and_kind (directory_at kept.mounted number) in
            ap labels c.leave_service.ensures ∙ left.kept.labels number ∙ ap labels c.start-turns.ensures.kept;
        fits = subst (λ (kept : Kept). FitsDrives g.D.Drives.disks kept.mounted kept.cached c.do_turns.new.drives) (sym c.leave_service.ensures) left.fits;
        beside = subst (λ (kept : Kept). StaysBeside kept.mounted (g.D.Drives.disks c.args.drives.now) (g.D.Drives.disks c.do_turns.new.drives)) c.start-turns.ensures.kept left.beside;
        told_are = subst (λ (kept : Kept). KeepsToldOf kept.mounted (g.D.Drives.disks c.args.drives.now) (g.D.Drives.told c.args.drives.now) (g.D.Drives.told c.do_turns.new.drives)) c.start-turns.ensures.kept left.told_are;
        names = left.names;
      };
      cause = record { later = c.in-Err.ensures.cause.later; stays = tt; failed = c.in-Err.ensures.cause.failed };
    }
