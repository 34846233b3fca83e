use Rattle.std.proofs.Common.{◌∙◌, sym, subst}
use Rattle.mpm_opens.specs.Opens.{OpenFiles, AreOpen, IsClosed}
use Rattle.mpm_opens.proofs.LeavingLaws.{closes}
use Rattle.mpm_opens.proofs.FindingLaws.{closed_is}
use Rattle.mpm_opens.proofs.SoundLaws.{sound_closed}
use Rattle.mpm_opens.proofs.opens.Opens.close.Goals as goal

pub returns : goal.returns
returns c =
    let item = c.args.item in
    let old = c.args.self.now in
    let sound : AreOpen old = c.recall_sound.ensures in
    let P : OpenFiles → Type 0 = λ opens. IsClosed item old opens in
    record {
      opens = c.close_once.ensures ∙ closed_is old item sound c.requires;
      closed = subst P (sym c.close_once.ensures) (closes old item sound c.requires);
      sound = subst AreOpen (sym c.close_once.ensures) (sound_closed old item sound c.requires);
    }
