use Rattle.std.proofs.Common.{◌≡◌, Some, IfSome, sym, ap, subst, ◌∙◌}
use Rattle.std.specs.Prelude.{OnErr, option_map}
use Rattle.mpm_port.specs.Disks.{size_of}
use Rattle.mpm_blocks.specs.Geometries.{geometry_of}
use Rattle.mpm_cache.specs.Coherent.{HasNoAlias}
use Rattle.mpm_mount.specs.Directories.{Directory}
use Rattle.mpm_files.specs.Turning.{IsNextCached}
use Rattle.mpm_bdos.specs.Turns.{HasLeftDisk, IsWorking, IsContainedAt, drive_and_kind}
use Rattle.mpm_bdos.specs.Asking.{HasTurnAt}
use Rattle.mpm_bdos.proofs.TurnedAt.{told_by_job, labels_as}
use Rattle.mpm_bdos.proofs.turning.turn_at.Goals as goal

pub turn-result-requires : goal.turn-result-requires
turn-result-requires g c =
    let disks = g.D.Drives.disks c.args.drives.now in
    record {
      ready = record {
        size = subst (λ place. IfSome place (λ (d : Directory). size_of disks d.drive ≡ Some (geometry_of d.kind).bytes)) c.in-Some.is c.requires.size;
        coherent = c.requires.coherent;
        apart = subst (λ place. IfSome place (λ (d : Directory). HasNoAlias c.args.cache.now disks d.drive)) c.in-Some.is c.requires.apart;
      };
      left = subst (λ place. HasTurnAt disks place c.args.work.now) c.in-Some.is c.requires.left;
    }

-- it is mounted

pub unreachable-requires : goal.unreachable-requires
unreachable-requires g c = absurd (subst (λ place. HasTurnAt (g.D.Drives.disks c.args.drives.now) place c.args.work.now) c.in-None.is c.requires.left)

pub returns : goal.returns
returns g c =
    let did = c.turn-result.ensures in
    let result = c.turn-result.result in
    let work = c.args.work.now in
    let disks = g.D.Drives.disks c.args.drives.now in
    record {
      ok = λ before job j suits working h. did.ok before job j suits (subst (λ place. IsWorking disks place before job j work) c.in-Some.is working) h;
      err = λ before job j suits working h.
          subst (λ place. OnErr result (IsContainedAt (g.D.Drives.disks c.turn-result.new.drives) place before job j)) (sym c.in-Some.is)
          (did.err before job j suits (subst (λ place. IsWorking disks place before job j work) c.in-Some.is working) h);
      progress = λ before job j working.
          let service : IsWorking disks (Some c.in-Some.mounted) before job j work = subst (λ place. IsWorking disks place before job j work) c.in-Some.is working in
          told_by_job before job j work result service.service.serving did.progress;
      same = ap Some (labels_as c.in-Some.mounted c.turn-result.new.mounted did.works.disk.drive did.works.disk.kind) ∙ ap (option_map drive_and_kind) (sym c.in-Some.is);
      takes = record {
        calls = did.works.calls;
        one_call = λ read. (did.reads read).calls;
        unsynced = λ read. (did.reads read).unsynced;
        no_call = λ next. (did.reads next.0).uncalled (subst (λ place. IfSome place (λ d. IsNextCached c.args.cache.now d work)) c.in-Some.is next.1);
      };
      directory = c.recall_directory.ensures;
      leaves = subst (λ place. HasLeftDisk g.D.Drives.disks g.D.Drives.told g.D.Drives.failed_names g.D.Drives.unsynced place c.args.cache.now c.turn-result.new.cache c.args.drives.now c.turn-result.new.drives)
          (sym c.in-Some.is) did.works.leaves;
      cause = did.works.cause;
    }
