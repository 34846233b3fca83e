use Rattle.std.proofs.Common.{◌≡◌, ◌∙◌, IfSome, sym, ap, subst, rules, arith}
use Rattle.mpm_file_entries.specs.declared.granting.Granted.{Granted}
use Rattle.mpm_file_entries.specs.Granting.{is_moving, FewDone, IsPlaced, value_by}
use Rattle.mpm_bdos.specs.Ending.{is_reading, HasRead}
use Rattle.mpm_refusals.specs.Asking.{key_asked, IsOwnItem}
use Rattle.mpm_bdos.specs.Leaving.{left_by, left_first, granted_by}
use Rattle.mpm_file_functions.specs.Ends.{done_by}
use Rattle.mpm_file_entries.specs.Telling.{found_bytes}
use Rattle.mpm_bdos.specs.Replies.{answer_by}
use Rattle.mpm_bdos.proofs.UserLaws.{users_kept}
use Rattle.std.proofs.lemmas.Grind.{common_steps}
use Rattle.mpm_bdos.proofs.replying.answer_mounted.Goals as goal

pub grant-granted-requires : goal.grant-granted-requires
unfolding left_by
grant-granted-requires c =
    let a = c.args.asked.now in
    record {
      item = λ f.
          subst (λ opens. IfSome a.item (λ item. IsOwnItem opens a.caller.process item))
          (sym (c.leave.ensures ∙ ap (left_by c.args.opens.now a c.subject_key.result c.moved_by.result c.args.served.now.deleted.now) f)) c.requires.own;
      few = c.requires.caller.few;
    }

pub returns : goal.returns
returns c = record {
  sound = first_of (search rules, grind (arith, common_steps));
  users = λ users low.
      c.grant-granted.ensures.users
      (users_kept c.args.opens.now c.leave.new.opens c.args.asked.now c.subject_key.result c.moved_by.result c.args.served.now.deleted.now c.leave.ensures users) low;
  opens = first_of (search rules, grind (arith, common_steps));
  reply = λ image drive records entry stands granted is.
      let a = c.args.asked.now in
      let opens = c.args.opens.now in
      let work = c.args.served.now.work.now in
      let deleted = c.args.served.now.deleted.now in
      let left : c.leave.new.opens ≡ left_first opens a work deleted =
      c.leave.ensures
      ∙ ap (λ key. left_by opens a key c.moved_by.result deleted a.function) c.subject_key.ensures
      ∙ ap (λ moved. left_by opens a (key_asked a) moved deleted a.function) c.moved_by.ensures
      in
      let same : c.grant-granted.result ≡ granted_by drive (left_first opens a work deleted) a work =
      c.grant-granted.ensures.granted image drive stands granted.in_file ∙ ap (λ o. granted_by drive o a work) left
      in
      c.answer.ensures (λ moves. subst IsPlaced (sym same) (granted.placed (sym (ap (λ (g : Granted). is_moving g.function) same) ∙ moves)))
      image drive records entry stands (subst (λ (g : Granted). FewDone a.caller.multi g.ended) (sym same) granted.few)
      (λ reads. subst (λ (g : Granted). HasRead (done_by a.caller.multi (value_by drive g g.function)) work records) (sym same)
      (granted.read (sym (ap (λ (g : Granted). is_reading g.function) same) ∙ reads)))
      (c.told_found-told.ensures image drive stands ∙ ap (found_bytes drive) is)
      ∙ ap (λ g. answer_by drive g records entry c.args.served.now.file_call.call.now.fcb c.args.served.now.file_call.call.now.dma) same;
}
