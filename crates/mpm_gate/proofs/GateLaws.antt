-- The gate that ends a resident procedure is one only for a process that is in one, and gates stay where they are.
use Rattle.std.proofs.Common.{◌≡◌, ◌∙◌, ℕ, Bool, true, false, ◌&&◌, ◌==◌, ◌+◌, ◌-◌, ◌*◌, ◌<◌, Some, None, if◌then◌else◌, refl, ap, arith}
use Rattle.std.proofs.lemmas.Bool.{eqb-true, false_from_ne_true, eq-eqb}
use Rattle.mpm_banks.specs.Memory.{Memory, SameSegments, segment_of}
use Rattle.mpm_gate.specs.declared.gate.Gate.TheVariants.{End, Call, Return}
use Rattle.mpm_banks.specs.Gates.{last_page, end_gate, call_gate, return_gate}
use Rattle.mpm_gate.specs.Gates.{IsHome, gate_in}

by_tests : (a b inside c : Bool) → (if a then Some End else (if b then Some Call else (if inside && c then Some Return else None))) ≡ Some Return → inside ≡ true
by_tests true b inside c e = absurd (cc)
by_tests false true inside c e = absurd (cc)
by_tests false false true c e = refl
by_tests false false false c e = absurd (cc)

pub returns_inside : (inside : Bool) (page address : ℕ) → gate_in inside page address ≡ Some Return → inside ≡ true
unfolding gate_in
returns_inside inside page address e =
    by_tests (address == 256 * page + end_gate) (address == 256 * page + call_gate) inside (address == 256 * page + return_gate) e

-- a home, and its gates, stay where they are while its segment does

pub home_stays : (old new : Memory) (seg : ℕ) → SameSegments old new → IsHome old seg → IsHome new seg
home_stays old new seg same home = record {
  exists = omega (arith, same.count, home.exists);
  pages = omega (arith, same.pages seg, home.pages);
  end = omega (arith, same.base seg, same.pages seg, home.end);
}

pub page_stays : (old new : Memory) (seg : ℕ) → SameSegments old new → last_page new seg ≡ last_page old seg
page_stays old new seg same =
    ap (λ base. base + (segment_of new seg).pages - 1) (same.base seg) ∙ ap (λ pages. (segment_of old seg).base + pages - 1) (same.pages seg)

-- below the last page no gate is

none_where : (a b inside c : Bool) → a ≡ false → b ≡ false → c ≡ false → (if a then Some End else (if b then Some Call else (if inside && c then Some Return else None))) ≡ None
none_where true b inside c e f g = absurd (cc)
none_where false true inside c e f g = absurd (cc)
none_where false false inside true e f g = absurd (cc)
none_where false false true false e f g = refl
none_where false false false false e f g = refl

other_at : (a b : ℕ) → a < b → (a == b) ≡ false
other_at a b less = false_from_ne_true (a == b) (λ same. absurd (omega (arith, less, eqb-true a b same)))

pub none_below : (inside : Bool) (page address : ℕ) → address < 256 * page → gate_in inside page address ≡ None
unfolding gate_in
none_below inside page address below =
    none_where (address == 256 * page + end_gate) (address == 256 * page + call_gate) inside (address == 256 * page + return_gate)
    (other_at _ _ (omega (arith, below))) (other_at _ _ (omega (arith, below))) (other_at _ _ (omega (arith, below)))

-- at 06h of it the kernel is called

second_there : (a b inside c : Bool) → a ≡ false → b ≡ true → (if a then Some End else (if b then Some Call else (if inside && c then Some Return else None))) ≡ Some Call
second_there true b inside c e f = absurd (cc)
second_there false false inside c e f = absurd (cc)
second_there false true inside c e f = refl

apart_at : (a b : ℕ) → b < a → (a == b) ≡ false
apart_at a b less = false_from_ne_true (a == b) (λ same. absurd (omega (arith, less, eqb-true a b same)))

pub calls_there : (inside : Bool) (page address : ℕ) → address ≡ 256 * page + call_gate → gate_in inside page address ≡ Some Call
unfolding gate_in
calls_there inside page address is =
    second_there (address == 256 * page + end_gate) (address == 256 * page + call_gate) inside (address == 256 * page + return_gate)
    (apart_at _ _ (omega (arith, is))) (eq-eqb _ _ is)
