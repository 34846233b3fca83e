use Rattle.std.proofs.Common.{None, refl, sym, subst}
use Rattle.mpm_directories.specs.Places.{directory_at}
use Rattle.mpm_bdos.specs.Held.{IsMountedFor}
use Rattle.mpm_bdos.specs.Jobs.{call_turns}
use Rattle.mpm_bdos.specs.Serving.{InService, Serves}
use Rattle.mpm_bdos.specs.Finishing.{serving, ComesTo}
use Rattle.mpm_bdos.proofs.FinishLaws.{granted_comes, refused_comes, none_refuses}
use Rattle.mpm_bdos.proofs.finishing.reply_service.Goals as goal

pub reply_granted-requires : goal.reply_granted-requires
reply_granted-requires c = record {
  caller = c.service.invariant;
  users = c.requires.users;
  drive = subst (λ (one : InService). IsMountedFor (directory_at c.args.mounted.now one.drive) one) (sym c.service.view_is) c.requires.granted c.in-None.is;
}

pub returns-in-Some-clause-comes : goal.returns-in-Some-clause-comes
returns-in-Some-clause-comes c = λ images s serves.
    let inside = c.service.inside in
    let service : InService = record { caller = inside.caller; function = inside.function; drive = inside.drive; call = inside.call; moment = inside.moment; refusal = inside.refusal; work = inside.work; deleted = inside.deleted } in
    subst (λ (one : InService). ComesTo images s (serving c.args.mounted.now c.args.protected.now c.args.opens.now c.args.marks.now c.args.searches.now one) c.refuse.new.reply c.refuse.result) c.service.view_is
    (refused_comes images (serving c.args.mounted.now c.args.protected.now c.args.opens.now c.args.marks.now c.args.searches.now service) service s c.in-Some.refusal c.refuse.new.reply c.refuse.result refl
    (subst (λ (one : InService). Serves images (serving c.args.mounted.now c.args.protected.now c.args.opens.now c.args.marks.now c.args.searches.now one) s (call_turns s)) (sym c.service.view_is) serves) c.in-Some.is c.refuse.ensures.reply c.refuse.ensures.extended)

pub returns-in-None-clause-comes : goal.returns-in-None-clause-comes
returns-in-None-clause-comes c = λ images s serves.
    let inside = c.service.inside in
    let service : InService = record { caller = inside.caller; function = inside.function; drive = inside.drive; call = inside.call; moment = inside.moment; refusal = inside.refusal; work = inside.work; deleted = inside.deleted } in
    let now = c.reply_granted.new in
    let its = subst (λ (one : InService). Serves images (serving c.args.mounted.now c.args.protected.now c.args.opens.now c.args.marks.now c.args.searches.now one) s (call_turns s)) (sym c.service.view_is) serves in
    let none = none_refuses images (serving c.args.mounted.now c.args.protected.now c.args.opens.now c.args.marks.now c.args.searches.now service) service s (call_turns s) refl its c.in-None.is in
    subst (λ (one : InService). ComesTo images s (serving c.args.mounted.now now.protected now.opens now.marks now.searches one) now.reply None) c.service.view_is
    (granted_comes images (serving c.args.mounted.now c.args.protected.now c.args.opens.now c.args.marks.now c.args.searches.now service) (serving c.args.mounted.now now.protected now.opens now.marks now.searches service) s now.reply its none
    (c.reply_granted.ensures.finished images s inside.moment inside.refusal its none) refl)
