-- What creating processes leaves: the kernel is sound, who lives has a segment in which somebody lived, and who lived lives
-- on and keeps its call.
use Rattle.std.proofs.Common.{◌≡◌, ◌∙◌, ℕ, suc, ◌<◌, true, List, [], ◌∷◌, length, map, refl, sym, ap, subst, arith}
use Rattle.std.proofs.lemmas.Bool.{and_parts}
use Rattle.std.proofs.lemmas.Bool.Decides.{nat_tests}
use Rattle.std.specs.List.{AllPass, range_with_len}
use Rattle.std.proofs.lemmas.List.Sums.{AllPass-from_list_all}
use Rattle.mpm_base.proofs.Choices.{either}
use Rattle.mpm_procs.specs.Table.{Lives, process_in, call_of, lowest_free}
use Rattle.mpm_procs.specs.declared.process.NewProcess.{NewProcess}
use Rattle.mpm_kernel.specs.Awaiting.{AwaitsIn}
use Rattle.mpm_kernel.specs.Kernel.{Kernel, IsSoundKernel, dispatched}
use Rattle.mpm_dispatcher.specs.Dispatch.{in_slot}
use Rattle.mpm_kernel.proofs.AwaitingEnds.{awaits_in_slot}
use Rattle.mpm_kernel.proofs.SoundLaws.{sound_in_slot, completed_in_slot}
use Rattle.mpm_kernel.proofs.HomeLaws.{SameHomes, homes_stay, homes_both, homes_in_slot, lives_on, keeps_call, keeps_process}
use Rattle.mpm_xdos.specs.Creating.{descriptor_count, child_of, child_at, children_of, has_console, may_create, all_admitted, created}

-- what one process more, or several, leave of the kernel before
pub record Made (old new : Kernel) : Type 0 where
  pub sound : IsSoundKernel new
  pub consoles : length new.units.consoles ≡ length old.units.consoles
  pub completed : new.dispatcher.completed ≡ old.dispatcher.completed
  pub homes : SameHomes old new
  pub lives : (q : ℕ) → Lives old.dispatcher.procs q → Lives new.dispatcher.procs q
  pub call : (q : ℕ) → Lives old.dispatcher.procs q → call_of new.dispatcher.procs q ≡ call_of old.dispatcher.procs q
  pub process : (q : ℕ) → Lives old.dispatcher.procs q → process_in new.dispatcher.procs q ≡ process_in old.dispatcher.procs q
  pub awaits : (k q : ℕ) → AwaitsIn k q old → AwaitsIn k q new

made_none : (kernel : Kernel) → IsSoundKernel kernel → Made kernel kernel
made_none kernel s = record {
  sound = s;
  consoles = refl;
  completed = refl;
  homes = homes_stay kernel kernel refl;
  lives = λ q h. h;
  call = λ q h. refl;
  process = λ q h. refl;
  awaits = λ k q a. a;
}

made_both : (old middle new : Kernel) → Made old middle → Made middle new → Made old new
made_both old middle new a b = record {
  sound = b.sound;
  consoles = b.consoles ∙ a.consoles;
  completed = b.completed ∙ a.completed;
  homes = homes_both old middle new a.homes b.homes;
  lives = λ q h. b.lives q (a.lives q h);
  call = λ q h. b.call q (a.lives q h) ∙ a.call q h;
  process = λ q h. b.process q (a.lives q h) ∙ a.process q h;
  awaits = λ k q x. b.awaits k q (a.awaits k q x);
}

-- one more, in the segment of a process that lives
made_one : (kernel : Kernel) (p : ℕ) (new : NewProcess) → IsSoundKernel kernel → Lives kernel.dispatcher.procs p → new.seg ≡ (process_in kernel.dispatcher.procs p).seg
    → new.console < length kernel.units.consoles → Made kernel (dispatched (in_slot new (lowest_free kernel.dispatcher.procs)) kernel)
made_one kernel p new s h same console =
    let slot = lowest_free kernel.dispatcher.procs in
    record {
      sound = sound_in_slot kernel new slot s refl console;
      consoles = refl;
      completed = completed_in_slot kernel new slot;
      homes = homes_in_slot kernel new slot s.slots refl (λ seg e. record { who = p; lives = h; home = sym same ∙ e });
      lives = λ q living. lives_on kernel new slot q refl living;
      call = λ q living. keeps_call kernel new slot q refl living;
      process = λ q living. keeps_process kernel new slot q refl living;
      awaits = λ k q a. awaits_in_slot k q kernel new slot s refl a;
    }

-- several, each in that segment
made_all : (f : ℕ → NewProcess) (numbers : List ℕ) (kernel : Kernel) (p : ℕ) → IsSoundKernel kernel → Lives kernel.dispatcher.procs p
    → ((n : ℕ) → (f n).seg ≡ (process_in kernel.dispatcher.procs p).seg) → AllPass (has_console (length kernel.units.consoles)) (map f numbers)
    → Made kernel (all_admitted (map f numbers) kernel)
unfolding all_admitted
made_all f [] kernel p s h same consoles = made_none kernel s
made_all f (n ∷ numbers) kernel p s h same consoles =
    let next = dispatched (in_slot (f n) (lowest_free kernel.dispatcher.procs)) kernel in
    let here : has_console (length kernel.units.consoles) (f n) ≡ true = consoles 0 (f n) (omega arith) in
    let first : Made kernel next = made_one kernel p (f n) s h (same n) (grind (arith, nat_tests, here)) in
    let P : ℕ → Type 0 = λ count. AllPass (has_console count) (map f numbers) in
    made_both kernel next _ first
    (made_all f numbers next p first.sound (first.lives p h) (λ k. same k ∙ ap (λ x. x.seg) (sym (first.process p h))) (subst P (sym first.consoles) (λ k d below. consoles (suc k) d (omega arith))))

pub made_created : (kernel : Kernel) (p base : ℕ) → IsSoundKernel kernel → Lives kernel.dispatcher.procs p → Made kernel (created kernel p base)
unfolding created may_create children_of child_of
made_created kernel p base s h =
    let parent = process_in kernel.dispatcher.procs p in
    let bytes = (call_of kernel.dispatcher.procs p).bytes in
    let children = children_of parent base bytes in
    either (Made kernel) (may_create kernel children) _ _
    (λ may.
    made_all (child_at parent base bytes) (range_with_len 0 (descriptor_count bytes)) kernel p s h (λ n. refl)
    (AllPass-from_list_all (has_console (length kernel.units.consoles)) children (and_parts _ _ may).1))
    (λ _. made_none kernel s)
