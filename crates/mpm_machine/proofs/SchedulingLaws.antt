-- The scheduler goes on in every step: its row and its entries change by the answers that it takes, and by nothing else.
use Rattle.std.proofs.Common.{◌≡◌, ◌+◌, ◌≢◌, ◌∙◌, ℕ, Bool, true, List, [], ◌∷◌, ◌++◌, Option, inl, inr, refl, sym, subst}
use Rattle.std.proofs.lemmas.Bool.{cases_eq}
use Rattle.mpm_base.specs.Calls.{Answer}
use Rattle.mpm_residents.specs.Natives.{native_in, answer_taken}
use Rattle.mpm_residents.specs.declared.native.Native.{Native}
use Rattle.mpm_residents.specs.declared.native.Native.TheVariants.{Sched}
use Rattle.mpm_sched.proofs.KeepingLaws.{next_takes, opening_kept}
use Rattle.mpm_sched.proofs.Sending.{sends_in_order}
use Rattle.mpm_sched.specs.Schedulers.{opening, took}
use Rattle.mpm_sched.specs.Schedules.{after}
use Rattle.mpm_system.specs.Residents.{taking}
use Rattle.mpm_system.specs.declared.system.System.{System}
use Rattle.mpm_machine.proofs.ResidentsLaws.{residents_go}
use Rattle.mpm_machine.proofs.SparedResidents.{taken_other}
use Rattle.mpm_machine.proofs.SpoolingLaws.{set_itself}
use Rattle.mpm_machine.specs.Scheduling.{GoesOnScheduling, IsScheduling}
use Rattle.mpm_machine.specs.Slots.{HasResidents}
use Rattle.mpm_machine.specs.Stepping.{Telling, step_with}
use Rattle.mpm_base.specs.Counts.{one_if}

-- it takes an answer

takes_own : (q : ℕ) (answers : List Answer) (reply : Answer) (natives : List Native) → GoesOnScheduling q answers natives
    → GoesOnScheduling q answers (answer_taken (native_in natives q) reply q natives)
unfolding after
takes_own q answers reply natives g =
    let s = g.is.scheduler in
    let P : Option Native → Type 0 = λ o. GoesOnScheduling q answers (answer_taken o reply q natives) in
    subst P (sym g.is.acts) (record {
      more = reply ∷ g.more;
      is = record {
        scheduler = took s reply;
        acts = set_itself natives q (Sched s) (Sched (took s reply)) g.is.acts;
        keeps = next_takes s (took s reply) (after (g.more ++ answers)) reply g.is.keeps refl;
        sends = sends_in_order (reply ∷ g.more ++ answers);
      };
    })

-- another resident takes one
takes_another : (q p : ℕ) (answers : List Answer) (reply : Answer) (natives : List Native) → q ≢ p → GoesOnScheduling q answers natives
    → GoesOnScheduling q answers (answer_taken (native_in natives p) reply p natives)
takes_another q p answers reply natives other g = record {
  more = g.more;
  is = record {
    scheduler = g.is.scheduler;
    acts = taken_other (native_in natives p) reply p q natives other ∙ g.is.acts;
    keeps = g.is.keeps;
    sends = g.is.sends;
  };
}

takes : (q p : ℕ) (answers : List Answer) (reply : Answer) (system : System) → GoesOnScheduling q answers system.residents
    → GoesOnScheduling q answers (taking reply p system).residents
takes q p answers reply system g = elim (cases_eq q p) [
  | inl same ↦ subst (λ (r : ℕ). GoesOnScheduling q answers (taking reply r system).residents) same (takes_own q answers reply system.residents g)
  | inr other ↦ takes_another q p answers reply system.residents other g
]

-- in a step
pub schedules_on : (q : ℕ) (answers : List Answer) (telling : Telling) (system : System) → IsScheduling q answers system.residents
    → GoesOnScheduling q answers (step_with telling system).system.residents
schedules_on q answers telling system is =
    residents_go (GoesOnScheduling q answers) (record { took = λ reply p before. takes q p answers reply before }) telling system (record { more = []; is = is })

-- as a machine begins
pub schedules_at_first : (consoles : ℕ) (spool sched : Bool) (system : System) → HasResidents consoles spool sched system → sched ≡ true
    → IsScheduling (consoles + 1 + one_if spool) [] system.residents
unfolding opening after
schedules_at_first consoles spool sched system has asked = record {
  scheduler = _;
  acts = (has.scheduler asked).resident;
  keeps = opening_kept _ [] refl;
  sends = sends_in_order [];
}
