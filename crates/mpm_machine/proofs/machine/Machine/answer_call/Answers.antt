use Rattle.std.proofs.Common.{rules, ap}
use Rattle.std.proofs.lemmas.Result.{on_ok_weaker}
use Rattle.mpm_procs.specs.Table.{call_of}
use Rattle.mpm_bdos.specs.Serving.{Kept}
use Rattle.mpm_bdos.specs.Turns.{images_of}
use Rattle.mpm_machine.specs.FileCalls.{told_of}
use Rattle.mpm_machine.proofs.ServeLaws.{answered_ok, answered_err, answered_whole, answered_nobody, ends_by_sink}
use Rattle.mpm_machine.proofs.machine.Machine.answer_call.Goals as goal

pub returns : goal.returns
returns g c = record {
  ok = λ disks s serves whose.
      answered_ok c.end_file_call.result c.args.p c.args.self.now.system c.end_file_call.new.system _ _ s c.reply-extended.new.self disks c.reply-extended.new.reply c.reply-extended.result
      (c.reply-extended.ensures.comes (images_of disks) s serves) (ap (λ (k : Kept). k.service) c.reply-extended.ensures.kept) c.end_file_call.ensures.system c.end_file_call.ensures.wrote.ok;
  err = λ disks s serves whose.
      answered_err c.end_file_call.result c.args.p c.args.self.now.system _ _ s c.reply-extended.new.self disks c.reply-extended.new.reply c.reply-extended.result
      (c.reply-extended.ensures.comes (images_of disks) s serves) c.end_file_call.ensures.wrote.err;
  made =
      on_ok_weaker c.end_file_call.result
      (λ is. (told_of (call_of c.args.self.now.system.kernel.dispatcher.procs c.args.p) c.reply-extended.new.reply c.reply-extended.result, is)) c.end_file_call.ensures.system;
  idle = search rules;
  whole =
      answered_whole c.end_file_call.result (told_of (call_of c.args.self.now.system.kernel.dispatcher.procs c.args.p) c.reply-extended.new.reply c.reply-extended.result) c.args.p c.args.self.now.system
      c.end_file_call.new.system c.requires.whole c.requires.over c.end_file_call.ensures.system;
  completed =
      answered_nobody c.end_file_call.result (told_of (call_of c.args.self.now.system.kernel.dispatcher.procs c.args.p) c.reply-extended.new.reply c.reply-extended.result) c.args.p c.args.self.now.system
      c.end_file_call.new.system c.end_file_call.ensures.system;
  kept = search rules;
  ends = ends_by_sink c.end_file_call.result _ _ _ c.end_file_call.ensures.wrote;
}
