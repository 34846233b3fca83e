use Rattle.std.proofs.Common.{sym, subst, arith}
use Rattle.mpm_procs.specs.Table.{Lives, call_of}
use Rattle.mpm_kernel.specs.Kernel.{Kernel}
use Rattle.mpm_machine.specs.FileCalls.{told_of}
use Rattle.mpm_machine.proofs.ServeLaws.{again_whole, concluded_whole, concluded_room}
use Rattle.mpm_machine.proofs.disk.end_file_call.Goals as goal

pub conclude_file_call-requires : goal.conclude_file_call-requires
conclude_file_call-requires g c = record {
  whole = again_whole c.args.p c.args.system.now c.end_disk_call.new.self c.requires.whole c.requires.over c.end_disk_call.ensures.kernel;
  lives = subst (λ (k : Kernel). Lives k.dispatcher.procs c.args.p) (sym c.end_disk_call.ensures.kernel) c.requires.over.lives;
  room = omega (arith, c.requires.room);
}

pub finish_all-requires : goal.finish_all-requires
finish_all-requires g c = record {
  whole = concluded_whole (told_of (call_of c.end_disk_call.new.self.dispatcher.procs c.args.p) c.args.reply.now c.args.error) c.args.p c.args.system.now c.conclude_file_call.new.system
      c.end_disk_call.new.self c.requires.whole c.requires.over c.end_disk_call.ensures.kernel c.in_ok-conclude_file_call.ensures.system;
  room = concluded_room (told_of (call_of c.end_disk_call.new.self.dispatcher.procs c.args.p) c.args.reply.now c.args.error) c.args.p c.args.system.now c.conclude_file_call.new.system
      c.end_disk_call.new.self c.requires.room c.in_ok-conclude_file_call.ensures.system;
}
