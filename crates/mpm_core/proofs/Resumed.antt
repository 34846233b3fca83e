-- A core that is saved of a machine, and run on from its file, is what the machine itself would have gone on to.
use Rattle.std.proofs.Common.{◌≡◌, ◌∙◌, ℕ, Some, sym, ap, subst}
use Rattle.std.specs.Prelude.{option_map}
use Rattle.std.proofs.lemmas.Option.{same_Some}
use Rattle.mpm_system.specs.declared.system.System.{System}
use Rattle.mpm_core_file.specs.CoreFiles.{CoreContents, IsCore, core_bytes}
use Rattle.mpm_core_file.proofs.HeadLaws.{only_core}
use Rattle.mpm_replay.specs.declared.replaying.Replayed.{Replayed}
use Rattle.mpm_core.specs.Taking.{core_in, segment_at, core_at}
use Rattle.mpm_core.specs.Alone.{RunsAlone}
use Rattle.mpm_core.specs.Agreement.{AgreesWith, Agree}

pub resumed : (most p seg : ℕ) (systems : ℕ → System) (core read left : CoreContents) (replayed : Replayed) → segment_at p (systems 0) ≡ Some seg
    → core_at p (systems 0) ≡ Some core → IsCore core → IsCore read → core_bytes read ≡ core_bytes core → Agree most read left replayed → RunsAlone most p seg systems
    → AgreesWith most p seg systems core left replayed
resumed most p seg systems core read left replayed there taken is is_read same agrees runs =
    let saved : core ≡ core_in p seg (systems 0) =
    same_Some core (core_in p seg (systems 0)) (sym taken ∙ ap (option_map (λ home. core_in p home (systems 0))) there) in
    let back : read ≡ core = only_core read core is_read is same in
    subst (λ (c : CoreContents). AgreesWith most p seg systems c left replayed) back (agrees p seg systems (back ∙ saved) runs)
