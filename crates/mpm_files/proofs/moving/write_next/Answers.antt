use Rattle.std.proofs.Common.{◌/◌, refl, sym, subst, ap, ◌∙◌, arith}
use Rattle.mpm_files.specs.Stepping as stepping
use Rattle.mpm_files.specs.Units.{AddsEntry, ClearsBlock}
use Rattle.mpm_files.specs.Plans.{file_of_job}
use Rattle.mpm_files.specs.Serving.{units_done}
use Rattle.mpm_files.specs.Standing.{DoesUnit}
use Rattle.mpm_files.specs.DiskParts.{MayAddEntry}
use Rattle.mpm_files.proofs.NextDone.{does_next, fails_next, clears_next}
use Rattle.mpm_files.proofs.UnitsLeft.{next_number, write_small, may_add, may_clear}
use Rattle.mpm_files.proofs.WriteTurns.{entry_missing, entry_written, entry_entered, block_ready, cleared_same}
use Rattle.mpm_files.proofs.WorkingLaws.{works_within, works_done, works_failed}
use Rattle.mpm_files.proofs.moving.write_next.Goals as goal

pub next_step-requires : goal.next_step-requires
next_step-requires g c = omega (arith, write_small (g.D.Drives.disks c.args.drives.now) c.args.mounted.now c.args.work.now c.requires.left c.requires.sort, c.from.ensures)

pub add_entry-requires : goal.add_entry-requires
add_entry-requires g c =
    subst (λ n. MayAddEntry (g.D.Drives.disks c.args.drives.now) c.args.mounted.now c.args.cache.now c.args.work.now.job (n / 128)) (next_number c.args.work.now _ c.from.ensures)
    (may_add (g.D.Drives.disks c.args.drives.now) c.args.mounted.now c.args.cache.now c.args.work.now c.requires.ready c.requires.left c.requires.sort
    (ap (stepping.step_of c.args.mounted.now c.args.work.now) (next_number c.args.work.now _ c.from.ensures) ∙ sym c.next_step.ensures ∙ c.in-Entry.is))

pub clear_block-requires : goal.clear_block-requires
clear_block-requires g c =
    may_clear (g.D.Drives.disks c.args.drives.now) c.args.mounted.now c.args.cache.now c.args.work.now c.requires.ready c.requires.left c.requires.sort
    (ap (stepping.step_of c.args.mounted.now c.args.work.now) (next_number c.args.work.now _ c.from.ensures) ∙ sym c.next_step.ensures ∙ c.in-Block.is)

pub write_record-requires : goal.write_record-requires
write_record-requires g c = record {
  ready = c.requires.ready;
  left = c.requires.left;
  sort = c.requires.sort;
  step = ap (stepping.step_of c.args.mounted.now c.args.work.now) (next_number c.args.work.now _ c.from.ensures) ∙ sym c.next_step.ensures ∙ c.in-Record.is;
}

pub returns-in-Entry : goal.returns-in-Entry
returns-in-Entry g c = record {
  does =
      does_next (g.D.Drives.disks c.args.drives.now) (g.D.Drives.disks c.add_entry.new.drives) c.args.mounted.now c.add_entry.new.mounted c.args.work.now _ c.add_entry.result refl
      (λ image before job j told suits service h.
      let missing = entry_missing image c.args.mounted.now before job j c.args.work.now service.stands
      (ap (stepping.step_of c.args.mounted.now c.args.work.now) (next_number c.args.work.now _ c.from.ensures) ∙ sym c.next_step.ensures ∙ c.in-Entry.is) in (
        AddsEntry (file_of_job c.args.work.now.job) (stepping.record_next c.args.work.now / 128),
        (
          entry_written before job j c.args.work.now service.serving c.requires.sort h service.entered missing,
          subst (λ m. DoesUnit (g.D.Drives.disks c.add_entry.new.drives) c.args.mounted.now.drive c.add_entry.new.mounted (units_done before job j) (AddsEntry (file_of_job c.args.work.now.job) (m / 128)) c.add_entry.result)
              (sym (next_number c.args.work.now _ c.from.ensures)) (c.add_entry.ensures.does image (units_done before job j) told service.stands),
        ),
      ));
  counts = record { units = refl; ended = refl };
  works = works_within g.D.Drives 2 20 _ _ _ _ _ _ _ _ _ (omega arith) c.add_entry.ensures.works;
}

pub returns-in-Record : goal.returns-in-Record
returns-in-Record g c = c.write_record.ensures

pub returns-in-Ok : goal.returns-in-Ok
returns-in-Ok g c = record {
  does =
      clears_next (g.D.Drives.disks c.args.drives.now) (g.D.Drives.disks c.clear_block.new.drives) c.args.mounted.now c.args.work.now _ _ (λ image before job j told suits service h.
      let step = ap (stepping.step_of c.args.mounted.now c.args.work.now) (next_number c.args.work.now _ c.from.ensures) ∙ sym c.next_step.ensures ∙ c.in-Block.is in
      record {
        unit = ClearsBlock (file_of_job c.args.work.now.job) (stepping.record_next c.args.work.now);
        done = block_ready image c.args.mounted.now before job j c.args.work.now c.in-Ok.block service c.requires.sort h step;
        same = cleared_same (units_done before job j) (file_of_job c.args.work.now.job) (stepping.record_next c.args.work.now);
        stands = c.in-Ok.ensures.cleared image (units_done before job j) told service.stands;
        entered = entry_entered image c.args.mounted.now before job j c.args.work.now service.stands step;
      });
  counts = record { units = refl; ended = refl };
  works = works_done g.D.Drives _ _ _ _ _ _ _ _ _ _ _ (works_within g.D.Drives 18 20 _ _ _ _ _ _ _ _ _ (omega arith) c.in-Ok.ensures.works);
}

pub returns-in-Err : goal.returns-in-Err
returns-in-Err g c = record {
  does =
      fails_next (g.D.Drives.disks c.args.drives.now) (g.D.Drives.disks c.clear_block.new.drives) c.args.mounted.now c.args.mounted.now c.args.work.now _ _ (λ image before job j told suits service h.
      let step = ap (stepping.step_of c.args.mounted.now c.args.work.now) (next_number c.args.work.now _ c.from.ensures) ∙ sym c.next_step.ensures ∙ c.in-Block.is in (
        ClearsBlock (file_of_job c.args.work.now.job) (stepping.record_next c.args.work.now),
        (
          (block_ready image c.args.mounted.now before job j c.args.work.now 0 service c.requires.sort h step).unit_is,
          (c.in-Err.ensures.does image (units_done before job j) told service.stands (file_of_job c.args.work.now.job) (stepping.record_next c.args.work.now)).err,
        ),
      ));
  counts = record { units = refl; ended = refl };
  works = works_failed g.D.Drives _ _ _ _ _ _ _ _ _ _ (works_within g.D.Drives 18 20 _ _ _ _ _ _ _ _ _ (omega arith) c.in-Err.ensures.works);
}
