-- The states of a machine's run of which each next step is an instruction of one process alone.
use Rattle.std.proofs.Common.{◌∙◌, ℕ, ◌<◌, ap, add-one}
use Rattle.mpm_system.specs.Whole.{IsWhole, NoCompletions}
use Rattle.mpm_machine.specs.Due.{NobodyDue}
use Rattle.mpm_machine.specs.State.{State}
use Rattle.mpm_machine.specs.Stepping.{telling_of}
use Rattle.mpm_machine.specs.After.{after}
use Rattle.mpm_machine.proofs.NextLaws.{next_is}
use Rattle.mpm_core.specs.Alone.{IsAlone, RunsAlone}

pub states_run : (count p seg : ℕ) (s : State) → IsWhole s.system → NoCompletions s.system → NobodyDue s.system.kernel
    → ((k : ℕ) → k < count → IsAlone p seg (after k s).system) → RunsAlone count p seg (λ k. (after k s).system)
unfolding after
states_run count p seg s whole none due each = record {
  whole = whole;
  no_completions = none;
  due = due;
  each = λ k below.
      let here = after k s in
      record {
        telling = telling_of here.system here.files;
        is = ap (λ n. (after n s).system) (add-one k) ∙ next_is here;
        alone = each k below;
      };
}
