use Rattle.std.proofs.Common.{refl}
use Rattle.std.specs.Option.{option_copied}
use Rattle.mpm_refusals.specs.Asking.{called}
use Rattle.mpm_bdos.proofs.HeldLaws.{granted_there}
use Rattle.mpm_bdos.proofs.starting.entered.Goals as goal

pub returns : goal.returns
returns c = record {
  entered = record { caller_is = refl; function_is = refl; call_is = c.copied.ensures };
  drive = refl;
  granted =
      granted_there c.args.protected.now c.args.opens.now c.args.marks.now c.args.searches.now c.args.file_call.now.caller c.args.file_call.now.function c.args.file_call.now.call.now (option_copied c.args.mounted)
      c.refusal_of-refusal.result (λ image drives moment stands. c.refusal_of-refusal.ensures image drives moment stands);
  all = λ image drives stands drive_is.
      let refused = c.refusal_of-refusal.ensures image drives c.args.file_call.now.moment stands in
      let s = called drives c.args.protected.now c.args.opens.now c.args.marks.now c.args.searches.now c.args.file_call.now.caller c.args.file_call.now.function c.args.file_call.now.call.now c.args.file_call.now.moment in
      record {
        is = record { caller = refl; function = refl; drive = drive_is; call = c.copied.ensures; moment = refl; refusal = refused; deleted = λ none. c.deleted_of-deleted.ensures image s stands none refl refl drive_is c.block_of_call-block.ensures.block refl };
        begins = c.begin_unless.ensures image drives c.args.marks.now stands refused;
      };
}
