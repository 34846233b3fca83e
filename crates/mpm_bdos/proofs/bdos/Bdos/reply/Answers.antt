use Rattle.std.proofs.Common.{◌∙◌, Option, IfSome, is_some, sym, ap, subst, rules, arith}
use Rattle.std.proofs.lemmas.Bool.{true≢false}
use Rattle.mpm_directories.specs.Places.{directory_at}
use Rattle.mpm_bdos.specs.Jobs.{call_turns}
use Rattle.mpm_bdos.specs.Serving.{InService, Kept, Serves}
use Rattle.mpm_bdos.specs.Held.{IsMountedFor}
use Rattle.mpm_bdos.proofs.HeldLaws.{held_none}
use Rattle.mpm_bdos.proofs.FinishLaws.{uncached, comes_still}
use Rattle.std.proofs.lemmas.Grind.{common_steps}
use Rattle.mpm_bdos.proofs.bdos.Bdos.reply.Goals as goal

-- a call is in service, whose drive is mounted where it isn't refused

pub unreachable-requires : goal.unreachable-requires
unreachable-requires c =
    absurd (true≢false (sym c.requires ∙ ap (λ (kept : Kept). is_some kept.service) (sym c.self.view_is) ∙ ap is_some (sym c.get.ensures ∙ c.in-None.is)))

pub reply_service-extended-requires-clause-granted : goal.reply_service-extended-requires-clause-granted
reply_service-extended-requires-clause-granted c =
    subst (λ (service : Option InService). IfSome service (λ (call : InService). IsMountedFor (directory_at c.self.inside.mounted call.drive) call)) (sym c.get.ensures ∙ c.in-Some.is) c.self.invariant.granted

pub invariant_of-self : goal.invariant_of-self
invariant_of-self c = held_none c.self.inside.mounted c.reply_service-extended.new.opens c.leave.new.self c.reply_service-extended.ensures.users c.leave.ensures

-- it is answered

pub returns : goal.returns
returns c = record {
  comes = λ images s serves.
      let inside = c.self.inside in
      let now = c.reply_service-extended.new in
      let old : Kept = record { mounted = inside.mounted; cached = inside.cache; protected = inside.protected; opens = inside.opens; marks = inside.marks; searches = inside.searches; service = inside.service } in
      let service = c.in-Some.service in
      comes_still images inside.mounted inside.cache now.protected now.opens now.marks now.searches service _ s now.reply c.reply_service-extended.result
      (c.reply_service-extended.ensures.comes images s
      (uncached images old service s (call_turns s) (sym c.get.ensures ∙ c.in-Some.is)
      (subst (λ (k : Kept). Serves images k s (call_turns s)) (sym c.self.view_is) serves)));
  kept = first_of (search rules, grind (arith, common_steps));
}
