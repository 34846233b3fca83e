-- Views after instructions, one after another.
use Rattle.std.proofs.Common.{◌≡◌, ◌∙◌, ℕ, zero, suc, ◌+◌, ◌<◌, ◌≤◌, Bool, ◌==◌, List, Option, Some, None, IsSome, IsNone, is_some, inl, inr, refl, sym, ap, subst, arith, add-one}
use Rattle.std.proofs.lemmas.Bool.{cases_eq}
use Rattle.z80_regs.specs.Outcome.{StepOutcome}
use Rattle.z80_ext.specs.Instruction.{registers_after, actions_of}
use Rattle.z80_ext.specs.declared.stepped.Stepped.{Stepped}
use Rattle.z80_ext.specs.declared.stepped.Stepped.TheVariants.{Ran, Illegal}
use Rattle.z80_regs.specs.declared.regs.Regs.{Regs}
use Rattle.mpm_base.specs.declared.devices.Devices.{Devices}
use Rattle.mpm_base.specs.declared.segment.SegmentSpec.{SegmentSpec}
use Rattle.mpm_banks.specs.Sides.{alone}
use Rattle.mpm_banks.specs.Actions.{memory_after, devices_after}
use Rattle.mpm_gate.specs.Gates.{gate_of}
use Rattle.mpm_processor.specs.Moving.{View, view_of, instruction_in, moved, moves, CanMove, Moves}

pub view_is : (a b : View) → a.regs ≡ b.regs → a.memory ≡ b.memory → a.devices ≡ b.devices → a ≡ b
view_is a b regs memory devices =
    ap (λ r. record a { regs = r }) regs ∙ ap (λ m. record b { memory = m; devices = a.devices }) memory ∙ ap (λ d. record b { devices = d }) devices

-- what leaves registers, devices and the bytes of both sides as they were leaves the view so
pub same_view : (spec : SegmentSpec) (regs : Regs) (segment common : List ℕ) (devices : Devices) (segment2 common2 : List ℕ) (devices2 : Devices)
    → segment2 ≡ segment → common2 ≡ common → devices2 ≡ devices
    → view_of spec regs segment2 common2 devices2 ≡ view_of spec regs segment common devices
same_view spec regs segment common devices segment2 common2 devices2 same_segment same_common same_devices =
    view_is (view_of spec regs segment2 common2 devices2) (view_of spec regs segment common devices) refl
    (ap (λ bytes. alone spec bytes common2) same_segment ∙ ap (λ bytes. alone spec segment bytes) same_common) same_devices

-- none, and one more

pub moves_none : (inside : Bool) (seg : ℕ) (view : View) → Moves inside 0 seg view view
unfolding moves
moves_none inside seg view = record { is = refl; each = λ k below. absurd (omega arith) }

pub moves_more : (inside : Bool) (n seg : ℕ) (old now new : View) → Moves inside n seg old now → CanMove inside seg now → new ≡ moved seg now
    → Moves inside (n + 1) seg old new
unfolding moves
moves_more inside n seg old now new m can is =
    let more : moves (n + 1) seg old ≡ moved seg (moves n seg old) = ap (λ k. moves k seg old) (add-one n) in
    record {
      is = is ∙ ap (moved seg) m.is ∙ sym more;
      each = λ k below. elim (cases_eq k n) [
        | inl same ↦
            let P : View → Type 0 = λ view. CanMove inside seg view in
            subst P (m.is ∙ ap (λ j. moves j seg old) (sym same)) can
        | inr other ↦ m.each k (omega (arith, other))
      ];
    }

-- some after others

pub moves_join : (inside : Bool) (n m seg : ℕ) (old now new : View) → Moves inside n seg old now → Moves inside m seg now new
    → Moves inside (n + m) seg old new
unfolding moves
moves_join inside n zero seg old now new first more =
    let P : ℕ → Type 0 = λ k. Moves inside k seg old new in
    let all : n ≡ n + 0 = omega arith in
    let same : Moves inside n seg old new = record { is = more.is ∙ first.is; each = first.each } in
    subst P all same
moves_join inside n (suc m) seg old now new first more =
    let P : ℕ → Type 0 = λ k. Moves inside k seg old new in
    let all : n + m + 1 ≡ n + suc m = omega arith in
    let part : Moves inside m seg now (moves m seg now) = record { is = refl; each = λ k below. more.each k (omega (arith, below)) } in
    let most = moves_join inside n m seg old now (moves m seg now) first part in
    subst P all (moves_more inside (n + m) seg old (moves m seg now) new most (more.each m (omega arith)) more.is)

-- where no listed instruction stands, nothing changes
pub unmoved : (seg : ℕ) (view : View) → IsNone (instruction_in seg view) → moved seg view ≡ view
unfolding memory_after devices_after
unmoved seg view none = by_outcome (instruction_in seg view) none where
  by_outcome : (outcome : Option StepOutcome) → IsNone outcome → (record {
    regs = registers_after outcome view.regs;
    memory = memory_after (actions_of outcome) seg view.memory;
    devices = devices_after (actions_of outcome) view.devices;
  }) ≡ view
  by_outcome None none = refl
  by_outcome (Some outcome) none = absurd (cc)

none_and_some : (outcome : Option StepOutcome) → IsNone outcome → IsSome outcome → ⊥
none_and_some None none some = absurd (cc)
none_and_some (Some outcome) none some = absurd (cc)

-- and it can't move on
pub no_move : (inside : Bool) (seg : ℕ) (view new : View) → IsNone (instruction_in seg view) → new ≡ view → CanMove inside seg new → ⊥
no_move inside seg view new none same can =
    let some : IsSome (instruction_in seg view) = subst (λ v. IsSome (instruction_in seg v)) same can.listed in
    none_and_some (instruction_in seg view) none some

-- at most one instruction, where no gate stands

none_unless : (outcome : Option StepOutcome) → (IsSome outcome → ⊥) → IsNone outcome
none_unless None some = refl
none_unless (Some outcome) some = absurd (some refl)

nothing_listed : (inside : Bool) (seg : ℕ) (old new : View) → Moves inside 0 seg old new → (CanMove inside seg new → ⊥)
    → gate_of inside old.memory seg old.regs.pc ≡ None
    → IsNone (instruction_in seg old)
unfolding moves
nothing_listed inside seg old new m stopped gate =
    none_unless (instruction_in seg old) (λ listed. stopped (subst (CanMove inside seg) (sym m.is) (record { no_gate = gate; listed = listed })))

pub moved_once : (inside : Bool) (n seg : ℕ) (old new : View) → Moves inside n seg old new → n ≤ 1 → (n < 1 → CanMove inside seg new → ⊥)
    → gate_of inside old.memory seg old.regs.pc ≡ None
    → new ≡ moved seg old
unfolding moves
moved_once inside zero seg old new m most stopped gate = m.is ∙ sym (unmoved seg old (nothing_listed inside seg old new m (stopped (omega arith)) gate))
moved_once inside (suc zero) seg old new m most stopped gate = m.is
moved_once inside (suc (suc n)) seg old new m most stopped gate = absurd (omega (arith, most))

pub listed_once : (inside : Bool) (n seg : ℕ) (old new : View) → Moves inside n seg old new → n ≤ 1 → (n < 1 → CanMove inside seg new → ⊥)
    → gate_of inside old.memory seg old.regs.pc ≡ None
    → (n == 1) ≡ is_some (instruction_in seg old)
unfolding moves
listed_once inside zero seg old new m most stopped gate = sym (nothing_listed inside seg old new m (stopped (omega arith)) gate)
listed_once inside (suc zero) seg old new m most stopped gate = sym (m.each 0 (omega arith)).listed
listed_once inside (suc (suc n)) seg old new m most stopped gate = absurd (omega (arith, most))

pub moves_to : (inside : Bool) (n seg : ℕ) (old now new : View) → Moves inside n seg old now → new ≡ now → Moves inside n seg old new
moves_to inside n seg old now new m is = record { is = is ∙ m.is; each = m.each }

-- a gate that isn't there is none, and where an instruction ran a listed one stands

pub some_unless : (outcome : Option StepOutcome) → (IsNone outcome → ⊥) → IsSome outcome
some_unless None not_none = absurd (not_none refl)
some_unless (Some outcome) not_none = refl

pub ran_or_not : (stepped : Stepped) → stepped ≡ Ran → stepped ≡ Illegal → ⊥
ran_or_not Ran ran illegal = absurd (cc)
ran_or_not Illegal ran illegal = absurd (cc)
