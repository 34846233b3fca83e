use Rattle.std.proofs.Common.{◌≡◌, ◌∙◌, Option, Some, IfSome, rules, sym, ap, subst, arith}
use Rattle.std.proofs.lemmas.Grind.{common_steps}
use Rattle.std.proofs.lemmas.Option.{same_Some}
use Rattle.mpm_clock.specs.PackedDecimal.{stamp}
use Rattle.mpm_refusals.specs.Subjects.{drive_number}
use Rattle.mpm_directories.specs.Places.{directory_at}
use Rattle.mpm_bdos.specs.Held.{IsMountedFor}
use Rattle.mpm_bdos.specs.Serving.{InService, Kept, StandEach, Serves}
use Rattle.mpm_bdos.specs.Standing.{UponAnyDrives}
use Rattle.mpm_bdos.specs.Starting.{IsCallBy, HasBegunService, caller_of, entering, entering_at, turns_where}
use Rattle.mpm_bdos.specs.Turns.{drive_served}
use Rattle.mpm_bdos.specs.Jobs.{call_turns}
use Rattle.mpm_bdos.proofs.AtOnceLaws.{nothing_to_do}
use Rattle.mpm_bdos.proofs.Started.{entered_so, entered_turns, some_turns}
use Rattle.mpm_bdos.proofs.bdos.Bdos.start.Goals as goal

pub invariant_of-self : goal.invariant_of-self
invariant_of-self c = record {
  users = c.self.invariant.users;
  granted = subst (λ (service : Option InService). IfSome service (λ (call : InService). IsMountedFor (directory_at c.self.inside.mounted call.drive) call)) (sym c.enter.ensures) c.entered_among-service.ensures.granted;
}

pub returns : goal.returns
returns c =
    let inside = c.self.inside in
    let kept : Kept = record { mounted = inside.mounted; cached = inside.cache; protected = inside.protected; opens = inside.opens; marks = inside.marks; searches = inside.searches; service = inside.service } in
    let caller = caller_of c.args.p c.args.process.now in
    let service = c.entered_among-service.result in
    let serves : UponAnyDrives c.args.self.now c.args.call.now (λ images drives function. Serves images (record kept { service = c.enter.new.self }) (entering_at c.args.self.now c.args.p c.args.process.now c.args.call.now c.args.now drives function) 0) =
    λ images drives found is stand.
    let stands = subst (λ (k : Kept). StandEach images k.mounted drives) (sym c.self.view_is) stand in
    subst (λ (o : Option InService). Serves images (record kept { service = o }) (entering c.args.self.now drives caller found c.args.call.now (stamp c.args.now)) 0) (sym c.enter.ensures)
    (subst (λ (k : Kept). Serves images (record kept { service = Some service }) (entering k drives caller found c.args.call.now (stamp c.args.now)) 0) c.self.view_is
    (entered_so images kept drives c.caller_of-caller.result caller c.function_of_call.result found c.args.call.now c.stamp.result (stamp c.args.now) service
    c.caller_of-caller.ensures (same_Some c.function_of_call.result found (sym c.function_of_call.ensures ∙ is)) c.stamp.ensures stands
    (c.entered_among-service.ensures.all images drives stands)))
    in
    record {
      turns = λ images drives found is stand.
          c.turns_of-turns.ensures
          ∙ ap (λ (v : InService). turns_where v.work) c.service.view_is
          ∙ subst (λ (k : Kept). turns_where c.entered_among-service.result.work ≡ call_turns (entering k drives caller found c.args.call.now (stamp c.args.now))) c.self.view_is
          (entered_turns images kept drives c.caller_of-caller.result caller c.function_of_call.result found c.args.call.now c.stamp.result (stamp c.args.now) c.entered_among-service.result
          c.caller_of-caller.ensures (same_Some c.function_of_call.result found (sym c.function_of_call.ensures ∙ is)) c.stamp.ensures
          (c.entered_among-service.ensures.all images drives (subst (λ (k : Kept). StandEach images k.mounted drives) (sym c.self.view_is) stand)));
      serves = serves;
      entered = λ found is.
          subst (λ (o : Option InService). HasBegunService (caller_of c.args.p c.args.process.now) found c.args.call.now o) (sym c.enter.ensures)
          (subst (λ function. IsCallBy (caller_of c.args.p c.args.process.now) function c.args.call.now service)
          (same_Some c.function_of_call.result found (sym c.function_of_call.ensures ∙ is))
          (subst (λ caller. IsCallBy caller c.function_of_call.result c.args.call.now service) c.caller_of-caller.ensures c.entered_among-service.ensures.entered));
      drive = λ drives found is.
          let same = same_Some c.function_of_call.result found (sym c.function_of_call.ensures ∙ is) in
          ap drive_served c.enter.ensures
          ∙ subst (λ (k : Kept). Some c.entered_among-service.result.drive ≡ Some (drive_number (entering k drives caller found c.args.call.now (stamp c.args.now)))) c.self.view_is
          (ap Some (c.entered_among-service.ensures.drive drives ∙ (λ i. drive_number (entering kept drives (c.caller_of-caller.ensures i) (same i) c.args.call.now (c.stamp.ensures i)))));
      some = some_turns _ c.turns_of-turns.result c.turns_of-turns.ensures;
      workless = λ none.
          nothing_to_do c.args.self.now (record kept { service = c.enter.new.self }) caller c.args.call.now (stamp c.args.now) c.requires.file
          serves (ap (λ (k : Kept). record k { service = c.enter.new.self }) c.self.view_is) none;
      kept = first_of (search rules, grind (arith, common_steps));
    }
