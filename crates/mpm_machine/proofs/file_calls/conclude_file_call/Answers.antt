use Rattle.mpm_procs.specs.Table.{call_of}
use Rattle.mpm_system.specs.FileCalling.{change_of}
use Rattle.mpm_machine.proofs.FileLaws.{granted_is, caller_stays, room_changed}
use Rattle.mpm_machine.proofs.file_calls.conclude_file_call.Goals as goal

pub put_file_reply-requires : goal.put_file_reply-requires
put_file_reply-requires g c = record {
  lives = (caller_stays (change_of (call_of c.args.system.now.kernel.dispatcher.procs c.args.p) c.args.error) c.args.p c.args.system.now c.change_caller.new.self
      c.requires.whole c.requires.lives (c.change_caller.ensures c.args.error (granted_is c.is_none.result c.args.error c.is_none.ensures))).lives;
  room = room_changed (change_of (call_of c.args.system.now.kernel.dispatcher.procs c.args.p) c.args.error) c.args.p c.args.system.now c.change_caller.new.self
      c.requires.room (c.change_caller.ensures c.args.error (granted_is c.is_none.result c.args.error c.is_none.ensures));
}

pub meet_error-requires : goal.meet_error-requires
meet_error-requires g c =
    let change = change_of (call_of c.args.system.now.kernel.dispatcher.procs c.args.p) c.args.error in
    let changed = c.change_caller.ensures c.args.error (granted_is c.is_none.result c.args.error c.is_none.ensures) in
    let stays = caller_stays change c.args.p c.args.system.now c.change_caller.new.self c.requires.whole c.requires.lives changed in
    record { whole = stays.whole; lives = stays.lives; room = room_changed change c.args.p c.args.system.now c.change_caller.new.self c.requires.room changed }
