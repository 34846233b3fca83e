-- How a save ends, by how its run ended.
use Rattle.std.proofs.Common.{◌≡◌, ◌∙◌, ℕ, ◌≤◌, Bool, true, List, [], Some, length, refl, sym, subst}
use Rattle.std.specs.Bool.{OnTrue}
use Rattle.mpm_base.proofs.Options.{none_there}
use Rattle.mpm_system.specs.declared.system.System.{System}
use Rattle.mpm_top.specs.declared.status.Status.{Status}
use Rattle.mpm_top.specs.declared.status.Status.TheVariants as run
use Rattle.mpm_top.specs.Words.{Command}
use Rattle.mpm_top.specs.Beginnings.{input_of, room_for, script_name}
use Rattle.mpm_top.specs.Endings.{Ends, EndsAs, UnlessReadFault, UnlessDiskFault}
use Rattle.mpm_top.specs.Promises.{Seen, Writes, Fails, Promises, SeesLast}
use Rattle.mpm_top.proofs.EndingLaws.{known_ending}
use Rattle.mpm_snapshot.specs.declared.status.SnapStatus.{SnapStatus}
use Rattle.mpm_snapshot.specs.declared.status.SnapStatus.TheVariants.{Done, Usage, MachineFault, ScriptFault, ImageFault, TooLong, ReadFault, DiskFault, WriteFault, OutOfMemory, NoProcess, CoreFault}
use Rattle.mpm_snapshot.specs.declared.saving.Taker.{Taker}
use Rattle.mpm_snapshot.specs.Endings.{unheard, Saves, FailsSnapshot}
use Rattle.mpm_snapshot.specs.Parts.{Took, WritesTaken, status_of}

-- a run whose output is heard by nobody keeps the promises of one

pub runs_unheard : (missing : List ℕ → Type 0) (command : Command) (old new : Seen) (first text : List ℕ) (status : Status) → first ≡ []
    → Writes (text ≡ first) command (unheard old first) (unheard new text) status → Ends new.disks old.host command.form command.name old.failed new.failed status
    → Fails (unheard old first) (unheard new text) status → (missing command.name → EndsAs run.ReadFault status)
    → ((bytes script : List ℕ) → old.host.contents command.name ≡ Some bytes → length bytes ≤ room_for (input_of command.form)
    → script_name command.form bytes ≡ Some script → missing script → EndsAs run.ReadFault status)
    → Promises (text ≡ []) missing command (unheard old []) (unheard new text) status
runs_unheard missing command old new first text status none writes reason fails file script =
    let promises : Promises (text ≡ first) missing command (unheard old first) (unheard new text) status = record {
      writes = writes;
      reason = reason;
      known = known_ending missing command (unheard old first) (unheard new text) status reason fails.write file script;
    } in
    subst (λ (f : List ℕ). Promises (text ≡ f) missing command (unheard old f) (unheard new text) status) none promises

pub sees_unheard : (command : Command) (Saw : System → Type 0) (old new : Seen) (first text : List ℕ) → first ≡ []
    → SeesLast Saw command (unheard old first) (unheard new text) → SeesLast Saw command (unheard old []) (unheard new text)
sees_unheard command Saw old new first text none sees = subst (λ (f : List ℕ). SeesLast Saw command (unheard old f) (unheard new text)) none sees

-- the run stopped

pub ended_usage : (status : Status) → status_of status ≡ Usage → status ≡ run.Usage
ended_usage run.Ran is = absurd (cc)
ended_usage run.Usage is = refl
ended_usage run.MachineFault is = absurd (cc)
ended_usage (run.ScriptFault line) is = absurd (cc)
ended_usage (run.ImageFault drive cause place) is = absurd (cc)
ended_usage (run.TooLong what) is = absurd (cc)
ended_usage run.ReadFault is = absurd (cc)
ended_usage (run.DiskFault step) is = absurd (cc)
ended_usage (run.WriteFault step) is = absurd (cc)
ended_usage run.OutOfMemory is = absurd (cc)

-- the run neither went well nor had the ending of words, nor did its output fail
pub record Stops (status : Status) : Type 0 where
  pub early : status ≡ run.Ran → ⊥
  pub said : status ≡ run.Usage → ⊥
  pub heard : (step : ℕ) → status ≡ run.WriteFault step → ⊥

pub saves_stopped : (missing : List ℕ → Type 0) (command : Command) (process : ℕ) (old new : Seen) (text : List ℕ) (status : Status) → Stops status
    → Promises (text ≡ []) missing command (unheard old []) (unheard new text) status → Saves missing command process old new (status_of status)
saves_stopped missing command process old new text run.Ran stops promises = absurd (stops.early refl)
saves_stopped missing command process old new text run.Usage stops promises = absurd (stops.said refl)
saves_stopped missing command process old new text run.MachineFault stops promises = record { text = text; run = promises; last = tt }
saves_stopped missing command process old new text (run.ScriptFault line) stops promises = record { text = text; run = promises; last = tt }
saves_stopped missing command process old new text (run.ImageFault drive cause place) stops promises = record { text = text; run = promises; last = tt }
saves_stopped missing command process old new text (run.TooLong what) stops promises = record { text = text; run = promises; last = tt }
saves_stopped missing command process old new text run.ReadFault stops promises = record { text = text; run = promises; last = tt }
saves_stopped missing command process old new text (run.DiskFault step) stops promises = record { text = text; run = promises; last = tt }
saves_stopped missing command process old new text (run.WriteFault step) stops promises = absurd (stops.heard step refl)
saves_stopped missing command process old new text run.OutOfMemory stops promises = record { text = text; run = promises; last = tt }

pub fails_stopped : (old new : Seen) (status : Status) → Stops status → UnlessReadFault status (new.failed.files ≡ old.failed.files)
    → UnlessDiskFault status (new.failed.drives ≡ old.failed.drives) → new.printed.faults ≡ old.printed.faults
    → ((other : List ℕ) → new.host.contents other ≡ old.host.contents other) → FailsSnapshot old new (status_of status)
fails_stopped old new run.Ran stops files drives same stays = record { files = files; drives = drives; output = same; contents = stays }
fails_stopped old new run.Usage stops files drives same stays = record { files = files; drives = drives; output = same; contents = stays }
fails_stopped old new run.MachineFault stops files drives same stays = record { files = files; drives = drives; output = same; contents = stays }
fails_stopped old new (run.ScriptFault line) stops files drives same stays = record { files = files; drives = drives; output = same; contents = stays }
fails_stopped old new (run.ImageFault drive cause place) stops files drives same stays = record { files = files; drives = drives; output = same; contents = stays }
fails_stopped old new (run.TooLong what) stops files drives same stays = record { files = files; drives = drives; output = same; contents = stays }
fails_stopped old new run.ReadFault stops files drives same stays = record { files = files; drives = drives; output = same; contents = stays }
fails_stopped old new (run.DiskFault step) stops files drives same stays = record { files = files; drives = drives; output = same; contents = stays }
fails_stopped old new (run.WriteFault step) stops files drives same stays = absurd (stops.heard step refl)
fails_stopped old new run.OutOfMemory stops files drives same stays = record { files = files; drives = drives; output = same; contents = stays }

-- what is so of a core that was taken

pub of_taken : (taker : Taker) (P : Type 0) → taker.taken ≡ true → OnTrue taker.taken P → P
of_taken taker P taken so = subst (λ (b : Bool). OnTrue b P) taken so

-- the run went well: the core that was taken after its last step was written, if one was

pub saves_taken : (missing : List ℕ → Type 0) (command : Command) (old new : Seen) (text : List ℕ) (before taker : Taker) (status : SnapStatus)
    → Promises (text ≡ []) missing command (unheard old []) (unheard new text) run.Ran
    → SeesLast (λ (system : System). Took before system taker) command (unheard old []) (unheard new text)
    → WritesTaken taker old.printed.text new.printed.text status → Saves missing command before.process old new status
saves_taken missing command old new text before taker Done promises sees wrote = record {
  text = text;
  run = promises;
  last = record {
    writes = sees.writes;
    saw = record { core = taker.core; taken = of_taken taker _ wrote.0 sees.saw.takes.core; is = of_taken taker _ wrote.0 sees.saw.takes.is; wrote = wrote.1 };
  };
}
saves_taken missing command old new text before taker WriteFault promises sees wrote = record {
  text = text;
  run = promises;
  last = record {
    writes = sees.writes;
    saw = record { core = taker.core; taken = of_taken taker _ wrote.0 sees.saw.takes.core; is = of_taken taker _ wrote.0 sees.saw.takes.is; wrote = wrote.1 };
  };
}
saves_taken missing command old new text before taker NoProcess promises sees wrote = record {
  text = text;
  run = promises;
  last = record { writes = sees.writes; saw = none_there _ (sym sees.saw.takes.answer_is ∙ wrote) };
}
saves_taken missing command old new text before taker Usage promises sees wrote = absurd wrote
saves_taken missing command old new text before taker MachineFault promises sees wrote = absurd wrote
saves_taken missing command old new text before taker (ScriptFault line) promises sees wrote = absurd wrote
saves_taken missing command old new text before taker (ImageFault drive cause place) promises sees wrote = absurd wrote
saves_taken missing command old new text before taker (TooLong what) promises sees wrote = absurd wrote
saves_taken missing command old new text before taker ReadFault promises sees wrote = absurd wrote
saves_taken missing command old new text before taker (DiskFault step) promises sees wrote = absurd wrote
saves_taken missing command old new text before taker OutOfMemory promises sees wrote = absurd wrote
saves_taken missing command old new text before taker (CoreFault place) promises sees wrote = absurd wrote
