use Rattle.std.proofs.Common.{rules, ap, sym, ◌∙◌, arith}
use Rattle.std.proofs.lemmas.Grind.{common_steps}
use Rattle.mpm_base.specs.Calls.{Taken}
use Rattle.mpm_directories.specs.Direct.{Directly}
use Rattle.mpm_file_functions.specs.Functions.{direct_of}
use Rattle.mpm_bdos.proofs.DirectLaws.{by_places, part_told}
use Rattle.mpm_bdos.proofs.ServedLaws.{part_served}
use Rattle.mpm_bdos.proofs.bdos.Bdos.direct.Goals as goal

pub returns-in-Some : goal.returns-in-Some
returns-in-Some c =
    let function = sym (ap (λ (call : Taken). direct_of call.function) c.call.view_is) ∙ sym c.of.ensures ∙ c.in-Some.is in
    let answer = part_told (λ (all : Directly). all.answer) _ c.args.self.now c.args.process.now.drive c.args.call.now c.in-Some.function (direct_of c.args.call.now.function) c.do_directly.new.reply c.self.view_is
    function (by_places (λ (all : Directly). all.answer) _ _ _ _ _ _ _ c.places.ensures c.do_directly.ensures.answer) in
    let extended = part_told (λ (all : Directly). all.extended) _ c.args.self.now c.args.process.now.drive c.args.call.now c.in-Some.function (direct_of c.args.call.now.function) c.do_directly.result c.self.view_is
    function (by_places (λ (all : Directly). all.extended) _ _ _ _ _ _ _ c.places.ensures c.do_directly.ensures.extended) in
    record {
      answer = answer;
      extended = extended;
      served = part_served (λ (all : Directly). all.answer) c.args.self.now c.args.process.now.drive c.args.call.now (direct_of c.args.call.now.function) c.do_directly.new.reply answer;
      served_extended = part_served (λ (all : Directly). all.extended) c.args.self.now c.args.process.now.drive c.args.call.now (direct_of c.args.call.now.function) c.do_directly.result extended;
      other = first_of (search rules, grind (arith, common_steps));
      unanswered = first_of (search rules, grind (arith, common_steps));
    }
