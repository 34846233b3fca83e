use Rattle.std.proofs.Common.{◌≡◌, ◌∙◌, ℕ, sym, ap, subst}
use Rattle.std.specs.Prelude.{unwrap_or}
use Rattle.mpm_refusals.specs.Subjects.{drive_by, drive_number}
use Rattle.mpm_refusals.specs.Asking.{called, StandsForDirectory}
use Rattle.mpm_directories.specs.Places.{directory_at}
use Rattle.mpm_bdos.specs.Starting.{Enters}
use Rattle.mpm_bdos.specs.Held.{IsMountedFor}
use Rattle.mpm_bdos.proofs.starting.entered_among.Goals as goal

pub returns : goal.returns
returns c = record {
  entered = c.entered.ensures.entered;
  drive = λ drives.
      let caller = c.args.file_call.now.caller in
      c.entered.ensures.drive ∙ c.drive_of_call-drive.ensures
      ∙ (λ i. unwrap_or (drive_by (c.get-search.ensures i) caller.drive (c.word_of_call-word.ensures i) (c.block_of_call-block.ensures.block i) c.args.file_call.now.function) caller.drive);
  granted =
      subst (λ directory. IsMountedFor directory c.entered.result) (c.get.ensures ∙ ap (directory_at c.args.mounted.now) (sym c.entered.ensures.drive)) c.entered.ensures.granted;
  all = λ images drives stand.
      let caller = c.args.file_call.now.caller in
      let s = called drives c.args.protected.now c.args.opens.now c.args.marks.now c.args.searches.now caller c.args.file_call.now.function c.args.file_call.now.call.now c.args.file_call.now.moment in
      let number : ℕ = drive_number s in
      let drive_is : c.drive_of_call-drive.result ≡ drive_number s =
      c.drive_of_call-drive.ensures
      ∙ (λ i. unwrap_or (drive_by (c.get-search.ensures i) caller.drive (c.word_of_call-word.ensures i) (c.block_of_call-block.ensures.block i) c.args.file_call.now.function) caller.drive)
      in
      let place = c.get.ensures ∙ ap (directory_at c.args.mounted.now) drive_is in
      record {
        enters = subst (λ m. Enters (images number) m s c.entered.result) place
            (c.entered.ensures.all (images number) drives (subst (λ m. StandsForDirectory (images number) m s) (sym place) (stand.each number)) drive_is);
      };
}
