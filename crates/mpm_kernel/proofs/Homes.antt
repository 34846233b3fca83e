-- In which segments the processes live, and which of them are aborted, after a change of the kernel.
use Rattle.std.proofs.Common.{◌≡◌, ◌≢◌, ◌∙◌, ℕ, true, false, ◌&&◌, List, Option, Some, None, inl, inr, refl, sym, ap, arith}
use Rattle.std.proofs.lemmas.Bool.{cases_eq, false≢true, and_parts}
use Rattle.mpm_base.specs.Calls.{Taken}
use Rattle.mpm_procs.specs.Table.{Table, HasSlots, lives, Lives, process_in, call_of, with_process, with_call, lowest_free, added, without}
use Rattle.mpm_procs.specs.declared.process.Process.{Process}
use Rattle.mpm_procs.specs.declared.process.NewProcess.{NewProcess}
use Rattle.mpm_procs.specs.Opening.{opening}
use Rattle.mpm_procs.proofs.MapLaws.{lives_below, process_changed, process_kept, lives_changed, process_after, lives_after, free_below, free_is_dead, lives_added_other, process_added, process_added_other, call_added_other, lives_without, lives_without_other, process_without_other}
use Rattle.mpm_kernel.specs.Kernel.{Kernel, is_aborted, with_changed, dispatched}
use Rattle.mpm_kernel.specs.Columns.{spoke}
use Rattle.mpm_kernel.specs.Ending.{vacated}
use Rattle.mpm_dispatcher.specs.Dispatch.{admitted, in_slot, with_procs}

-- a process lives in a segment
pub record IsLivedIn (kernel : Kernel) (seg : ℕ) : Type 0 where
  pub who : ℕ
  pub lives : Lives kernel.dispatcher.procs who
  pub home : (process_in kernel.dispatcher.procs who).seg ≡ Some seg

-- who lives now, lives where somebody lived before, and whose end by an abort is put off now, had it put off before
pub record SameHomes (old new : Kernel) : Type 0 where
  pub all : (p seg : ℕ) → Lives new.dispatcher.procs p → (process_in new.dispatcher.procs p).seg ≡ Some seg → IsLivedIn old seg
  pub aborts : (p : ℕ) → is_aborted new.dispatcher.procs p ≡ true → is_aborted old.dispatcher.procs p ≡ true

pub homes_stay : (old new : Kernel) → new.dispatcher.procs ≡ old.dispatcher.procs → SameHomes old new
homes_stay old new e = record {
  all = λ p seg h home. record {
    who = p;
    lives = ap (λ procs. lives procs p) (sym e) ∙ h;
    home = ap (λ procs. (process_in procs p).seg) (sym e) ∙ home;
  };
  aborts = λ p h. ap (λ procs. is_aborted procs p) (sym e) ∙ h;
}

pub homes_both : (old middle new : Kernel) → SameHomes old middle → SameHomes middle new → SameHomes old new
homes_both old middle new first second = record {
  all = λ p seg h home. let there = second.all p seg h home in first.all there.who seg there.lives there.home;
  aborts = λ p h. first.aborts p (second.aborts p h);
}

-- it lives, and its process is the same as far as aborts go
pub aborted_same : (old new : Table) (p : ℕ) → lives new p ≡ lives old p → (process_in new p).abort_due ≡ (process_in old p).abort_due
    → is_aborted new p ≡ is_aborted old p
aborted_same old new p living same = ap (λ b. b && (process_in new p).abort_due) living ∙ ap (λ b. lives old p && b) same

aborts_alike : (old new : Table) (p : ℕ) → lives new p ≡ lives old p → (process_in new p).abort_due ≡ (process_in old p).abort_due
    → is_aborted new p ≡ true → is_aborted old p ≡ true
aborts_alike old new p living same h = sym (aborted_same old new p living same) ∙ h

-- a process is another one, in its segment
pub lived_in_changed : (kernel : Kernel) (p : ℕ) (process : Process) → HasSlots kernel.dispatcher.procs → Lives kernel.dispatcher.procs p
    → process.seg ≡ (process_in kernel.dispatcher.procs p).seg
    → (q seg : ℕ) → Lives (with_process kernel.dispatcher.procs p process) q → (process_in (with_process kernel.dispatcher.procs p process) q).seg ≡ Some seg → IsLivedIn kernel seg
lived_in_changed kernel p process slots h same q seg living home = elim (cases_eq q p) [
  | inl equal ↦
      let at : process_in (with_process kernel.dispatcher.procs p process) q ≡ process =
      ap (process_in (with_process kernel.dispatcher.procs p process)) equal
      ∙ process_changed kernel.dispatcher.procs p process (omega (arith, slots.processes, lives_below kernel.dispatcher.procs p slots h)) in
      record { who = p; lives = h; home = sym same ∙ ap (λ x. x.seg) (sym at) ∙ home }
  | inr other ↦ record {
    who = q;
    lives = sym (lives_changed kernel.dispatcher.procs p q process) ∙ living;
    home = ap (λ x. x.seg) (sym (process_kept kernel.dispatcher.procs p q process other)) ∙ home;
  }
]

-- and its end by an abort is put off only as before
pub homes_changed : (kernel : Kernel) (p : ℕ) (process : Process) → HasSlots kernel.dispatcher.procs → Lives kernel.dispatcher.procs p
    → process.seg ≡ (process_in kernel.dispatcher.procs p).seg → process.abort_due ≡ (process_in kernel.dispatcher.procs p).abort_due
    → SameHomes kernel (with_changed kernel p process)
homes_changed kernel p process slots h same due = record {
  all = lived_in_changed kernel p process slots h same;
  aborts = λ q. aborts_alike kernel.dispatcher.procs (with_process kernel.dispatcher.procs p process) q (lives_changed kernel.dispatcher.procs p q process) (elim (cases_eq q p) [
    | inl equal ↦
        let at : process_in (with_process kernel.dispatcher.procs p process) q ≡ process =
        ap (process_in (with_process kernel.dispatcher.procs p process)) equal
        ∙ process_changed kernel.dispatcher.procs p process (omega (arith, slots.processes, lives_below kernel.dispatcher.procs p slots h)) in
        ap (λ x. x.abort_due) at ∙ due ∙ ap (λ n. (process_in kernel.dispatcher.procs n).abort_due) (sym equal)
    | inr other ↦ ap (λ x. x.abort_due) (process_kept kernel.dispatcher.procs p q process other)
  ]);
}

-- a process keeps another call
pub homes_call : (kernel : Kernel) (p : ℕ) (call : Taken) → SameHomes kernel (dispatched (with_procs (with_call kernel.dispatcher.procs p call)) kernel)
homes_call kernel p call = record {
  all = λ q seg living home. record {
    who = q;
    lives = sym (lives_after kernel.dispatcher.procs p q call) ∙ living;
    home = ap (λ x. x.seg) (sym (process_after kernel.dispatcher.procs p q call)) ∙ home;
  };
  aborts = λ q. aborts_alike kernel.dispatcher.procs (with_call kernel.dispatcher.procs p call) q (lives_after kernel.dispatcher.procs p q call) (ap (λ x. x.abort_due) (process_after kernel.dispatcher.procs p q call));
}

-- the slot of a process is free
pub homes_vacated : (kernel : Kernel) (p : ℕ) → HasSlots kernel.dispatcher.procs → Lives kernel.dispatcher.procs p → SameHomes kernel (vacated p kernel)
homes_vacated kernel p slots h = record {
  all = λ q seg living home. elim (cases_eq q p) [
    | inl equal ↦ absurd (false≢true (sym (ap (lives (without kernel.dispatcher.procs p)) equal ∙ lives_without kernel.dispatcher.procs p (omega (arith, slots.alive, lives_below kernel.dispatcher.procs p slots h))) ∙ living))
    | inr other ↦ record {
      who = q;
      lives = sym (lives_without_other kernel.dispatcher.procs p q other) ∙ living;
      home = ap (λ x. x.seg) (sym (process_without_other kernel.dispatcher.procs p q other)) ∙ home;
    }
  ];
  aborts = λ q due. elim (cases_eq q p) [
    | inl equal ↦
        absurd (false≢true (sym (ap (lives (without kernel.dispatcher.procs p)) equal ∙ lives_without kernel.dispatcher.procs p (omega (arith, slots.alive, lives_below kernel.dispatcher.procs p slots h)))
        ∙ (and_parts (lives (without kernel.dispatcher.procs p) q) _ due).0))
    | inr other ↦
        aborts_alike kernel.dispatcher.procs (without kernel.dispatcher.procs p) q (lives_without_other kernel.dispatcher.procs p q other)
        (ap (λ x. x.abort_due) (process_without_other kernel.dispatcher.procs p q other)) due
  ];
}

pub opening_home : (new : NewProcess) → (opening new).seg ≡ new.seg
unfolding opening
opening_home new = refl

opening_goes_on : (new : NewProcess) → (opening new).abort_due ≡ false
unfolding opening
opening_goes_on new = refl

-- nobody is aborted as a process begins
pub aborts_admitted : (kernel : Kernel) (p : ℕ) (new : NewProcess) → HasSlots kernel.dispatcher.procs → lowest_free kernel.dispatcher.procs ≡ Some p
    → (q : ℕ) → is_aborted (added kernel.dispatcher.procs p new) q ≡ true → is_aborted kernel.dispatcher.procs q ≡ true
aborts_admitted kernel p new slots free q due = elim (cases_eq q p) [
  | inl equal ↦
      let at : process_in (added kernel.dispatcher.procs p new) q ≡ opening new =
      ap (process_in (added kernel.dispatcher.procs p new)) equal
      ∙ process_added kernel.dispatcher.procs p new (omega (arith, slots.processes, slots.alive, free_below kernel.dispatcher.procs p free)) in
      absurd (false≢true (sym (ap (λ x. x.abort_due) at ∙ opening_goes_on new) ∙ (and_parts (lives (added kernel.dispatcher.procs p new) q) _ due).1))
  | inr other ↦
      aborts_alike kernel.dispatcher.procs (added kernel.dispatcher.procs p new) q (lives_added_other kernel.dispatcher.procs p q new other)
      (ap (λ x. x.abort_due) (process_added_other kernel.dispatcher.procs p q new other)) due
]

-- a process begins in a segment in which somebody lives
pub homes_admitted : (kernel : Kernel) (p : ℕ) (new : NewProcess) → HasSlots kernel.dispatcher.procs → lowest_free kernel.dispatcher.procs ≡ Some p
    → ((seg : ℕ) → new.seg ≡ Some seg → IsLivedIn kernel seg) → SameHomes kernel (dispatched (admitted p new) kernel)
homes_admitted kernel p new slots free home_of = record {
  all = λ q seg living home. elim (cases_eq q p) [
    | inl equal ↦
        let at : process_in (added kernel.dispatcher.procs p new) q ≡ opening new =
        ap (process_in (added kernel.dispatcher.procs p new)) equal
        ∙ process_added kernel.dispatcher.procs p new (omega (arith, slots.processes, slots.alive, free_below kernel.dispatcher.procs p free)) in
        home_of seg (sym (opening_home new) ∙ ap (λ x. x.seg) (sym at) ∙ home)
    | inr other ↦ record {
      who = q;
      lives = sym (lives_added_other kernel.dispatcher.procs p q new other) ∙ living;
      home = ap (λ x. x.seg) (sym (process_added_other kernel.dispatcher.procs p q new other)) ∙ home;
    }
  ];
  aborts = λ q due. aborts_admitted kernel p new slots free q due;
}

pub homes_in_slot : (kernel : Kernel) (new : NewProcess) (slot : Option ℕ) → HasSlots kernel.dispatcher.procs → lowest_free kernel.dispatcher.procs ≡ slot
    → ((seg : ℕ) → new.seg ≡ Some seg → IsLivedIn kernel seg) → SameHomes kernel (dispatched (in_slot new slot) kernel)
homes_in_slot kernel new None slots free home_of = homes_stay kernel kernel refl
homes_in_slot kernel new (Some p) slots free home_of = homes_admitted kernel p new slots free home_of

-- who lived lives on as a process begins, and keeps its call
living_is_taken : (kernel : Kernel) (p q : ℕ) → lowest_free kernel.dispatcher.procs ≡ Some p → Lives kernel.dispatcher.procs q → q ≢ p
living_is_taken kernel p q free h = λ equal. false≢true (sym (free_is_dead kernel.dispatcher.procs p free) ∙ ap (lives kernel.dispatcher.procs) (sym equal) ∙ h)

pub lives_on : (kernel : Kernel) (new : NewProcess) (slot : Option ℕ) (q : ℕ) → lowest_free kernel.dispatcher.procs ≡ slot → Lives kernel.dispatcher.procs q
    → Lives (dispatched (in_slot new slot) kernel).dispatcher.procs q
lives_on kernel new None q free h = h
lives_on kernel new (Some p) q free h = lives_added_other kernel.dispatcher.procs p q new (living_is_taken kernel p q free h) ∙ h

pub keeps_call : (kernel : Kernel) (new : NewProcess) (slot : Option ℕ) (q : ℕ) → lowest_free kernel.dispatcher.procs ≡ slot → Lives kernel.dispatcher.procs q
    → call_of (dispatched (in_slot new slot) kernel).dispatcher.procs q ≡ call_of kernel.dispatcher.procs q
keeps_call kernel new None q free h = refl
keeps_call kernel new (Some p) q free h = call_added_other kernel.dispatcher.procs p q new (living_is_taken kernel p q free h)

pub keeps_process : (kernel : Kernel) (new : NewProcess) (slot : Option ℕ) (q : ℕ) → lowest_free kernel.dispatcher.procs ≡ slot → Lives kernel.dispatcher.procs q
    → process_in (dispatched (in_slot new slot) kernel).dispatcher.procs q ≡ process_in kernel.dispatcher.procs q
keeps_process kernel new None q free h = refl
keeps_process kernel new (Some p) q free h = process_added_other kernel.dispatcher.procs p q new (living_is_taken kernel p q free h)

pub procs_spoke : (kernel : Kernel) (console : ℕ) (bytes : List ℕ) → (spoke kernel console bytes).dispatcher.procs ≡ kernel.dispatcher.procs
unfolding spoke
procs_spoke kernel console bytes = refl
