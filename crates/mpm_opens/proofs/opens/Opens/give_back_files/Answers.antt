use Rattle.std.proofs.Common.{sym, subst}
use Rattle.mpm_opens.specs.Kinds.{is_among}
use Rattle.mpm_opens.specs.Opens.{OpenFiles, AreOpen, HasLeft}
use Rattle.mpm_opens.proofs.LeavingLaws.{leaves}
use Rattle.mpm_opens.proofs.SoundLaws.{sound_given_back}
use Rattle.mpm_opens.proofs.opens.Opens.give_back_files.Goals as goal

pub returns : goal.returns
returns c =
    let old = c.args.self.now in
    let among = is_among c.args.files.now in
    let sound : AreOpen old = c.recall_sound.ensures in
    let P : OpenFiles → Type 0 = λ opens. HasLeft c.args.p among old opens in
    record {
      opens = c.let_go.ensures;
      left = subst P (sym c.let_go.ensures) (leaves old c.args.p among sound);
      sound = subst AreOpen (sym c.let_go.ensures) (sound_given_back old c.args.p among sound);
    }
