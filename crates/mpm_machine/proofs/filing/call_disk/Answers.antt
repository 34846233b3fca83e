use Rattle.std.proofs.Common.{rules, ◌≡◌, ◌≤◌, true, sym, subst, ◌∙◌, ap}
use Rattle.mpm_base.specs.Calls.{Taken}
use Rattle.mpm_procs.specs.declared.process.Process.{Process}
use Rattle.mpm_file_functions.specs.Functions.{function_of}
use Rattle.mpm_machine.proofs.FilingLaws.{disk_is, at_once_idle, at_once_owed, bare_still}
use Rattle.mpm_machine.proofs.FailingLaws.{disk_fails, disk_calls}
use Rattle.mpm_machine.proofs.PartsLaws.{none_fails}
use Rattle.mpm_machine.proofs.filing.call_disk.Goals as goal
use Rattle.std.specs.Prelude.{is_some}
use Rattle.std.proofs.lemmas.Bool.{false≢true}

pub looked_at-caller-requires : goal.looked_at-caller-requires
looked_at-caller-requires g c = record {
  some = subst (λ (one : Process). 1 ≤ one.multi) (sym c.living.ensures) (c.requires.living.whole.sound.fit c.args.p c.requires.living.lives).some;
  few = subst (λ (one : Process). one.multi ≤ 16) (sym c.living.ensures) (c.requires.living.whole.sound.fit c.args.p c.requires.living.lives).few;
}

pub call_at_once-requires-clause-file : goal.call_at_once-requires-clause-file
call_at_once-requires-clause-file g c = subst (λ (call : Taken). is_some (function_of call.function) ≡ true) (sym c.kept_call.ensures) c.requires.function

pub returns : goal.returns
returns g c = record {
  done = λ filing stands.
      let called = c.call_at_once.ensures in
      record {
        ok = disk_is (g.D.Drives.disks c.args.drives.now) (g.D.Drives.disks c.call_at_once.new.drives) filing c.args.p c.args.system.now c.args.bdos.now c.call_at_once.new.self
            c.looked_at-caller.result c.living.result.now c.kept_call.result.now c.now-now.result c.call_at_once.new.reply c.call_at_once.result
            c.looked_at-caller.ensures.process c.living.ensures c.kept_call.ensures c.now-now.ensures.moment c.requires.function stands called.service
            (λ before function is stand. (called.done before function is stand).ok);
        err = disk_fails (g.D.Drives.disks c.args.drives.now) (g.D.Drives.disks c.call_at_once.new.drives) filing c.args.p c.args.system.now c.args.bdos.now c.call_at_once.new.self
            c.looked_at-caller.result c.living.result.now c.kept_call.result.now c.now-now.result c.call_at_once.result
            c.looked_at-caller.ensures.process c.living.ensures c.kept_call.ensures c.now-now.ensures.moment c.requires.function stands
            (λ before function is stand. (called.done before function is stand).err) (λ before function is. (called.own before function is).alone) called.left.labels;
        calls = disk_calls (g.D.Drives.disks c.args.drives.now) filing c.args.p c.args.system.now c.args.bdos.now c.looked_at-caller.result c.living.result.now c.kept_call.result.now c.now-now.result
            _ _ c.looked_at-caller.ensures.process c.living.ensures c.kept_call.ensures c.now-now.ensures.moment c.requires.function stands
            (λ before function is stand. (called.done before function is stand).calls);
      };
  uses =
      let called = c.call_at_once.ensures in
      record {
        drives = record {
          keeps = record { labels = called.left.labels; beside = called.left.beside; told_are = called.left.told_are };
          names = called.left.names;
          unsynced = at_once_owed c.kept_call.result.now _ _ (g.D.Drives.unsynced c.args.drives.now) (g.D.Drives.unsynced c.call_at_once.new.drives) c.kept_call.ensures c.requires.function
              (λ before function is. (called.own before function is).kept_unsynced);
        };
        none = λ bare. record {
          sink = none_fails c.call_at_once.result (called.none bare).1;
          drives = (called.none bare).0;
          bare = bare_still c.args.bdos.now.mounted c.call_at_once.new.self.mounted called.left.labels bare;
        };
      };
  fits = c.call_at_once.ensures.left.fits;
  cause = search rules;
  within = λ images s j none serves. absurd (false≢true (sym (ap is_some none) ∙ c.requires.function));
  direct = λ none. absurd (false≢true (sym (ap is_some none) ∙ c.requires.function));
  service = λ some. at_once_idle _ _ c.kept_call.ensures c.requires.function c.call_at_once.ensures.service;
}
