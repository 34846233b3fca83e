-- A slot in which nobody lives is blank, so that the table says no more than who lives, as what, and with which call.
use Rattle.std.proofs.Common.{◌≡◌, ◌∙◌, ℕ, ◌<◌, Bool, true, false, List, length, get_or, replicate, refl, sym, ap, arith}
use Rattle.std.proofs.lemmas.List.{length-replicate, ext_get_or}
use Rattle.mpm_base.specs.Calls.{Taken, no_call}
use Rattle.mpm_base.proofs.Lists.{all_at}
use Rattle.mpm_procs.specs.declared.process.Process.{Process}
use Rattle.mpm_procs.specs.Opening.{blank}
use Rattle.mpm_procs.specs.Table.{Table, IsMap, lives, Lives, process_in, call_of}

-- nobody lives
pub map_blank : (alive : List Bool) (processes : List Process) (calls : List Taken) → alive ≡ replicate 32 false → processes ≡ replicate 32 blank → calls ≡ replicate 32 no_call → IsMap (record { alive = alive; processes = processes; calls = calls })
map_blank alive processes calls a b c = record {
  slots = record { alive = ap length a ∙ length-replicate 32 false; processes = ap length b ∙ length-replicate 32 blank; calls = ap length c ∙ length-replicate 32 no_call };
  blank = λ slot dead. (ap (λ (ps : List Process). get_or ps slot blank) b ∙ all_at 32 slot blank, ap (λ (cs : List Taken). get_or cs slot no_call) c ∙ all_at 32 slot no_call);
}

-- tables in which the same live, as the same, with the same calls, are the same table
same_in : (a b : Table) (slot : ℕ) (c : Bool) → IsMap a → IsMap b → lives a slot ≡ lives b slot → lives a slot ≡ c → (c ≡ true → (process_in a slot ≡ process_in b slot) × (call_of a slot ≡ call_of b slot)) → (process_in a slot ≡ process_in b slot) × (call_of a slot ≡ call_of b slot)
same_in a b slot true m n same here living = living refl
same_in a b slot false m n same dead living =
    let dead_too = sym same ∙ dead in
    ((m.blank slot dead).0 ∙ sym (n.blank slot dead_too).0, (m.blank slot dead).1 ∙ sym (n.blank slot dead_too).1)

pub same_map : (a b : Table) → IsMap a → IsMap b → ((slot : ℕ) → slot < 32 → lives a slot ≡ lives b slot) → ((slot : ℕ) → Lives a slot → (process_in a slot ≡ process_in b slot) × (call_of a slot ≡ call_of b slot)) → a ≡ b
same_map a b m n alive living =
    let each = λ (slot : ℕ) (below : slot < 32). same_in a b slot (lives a slot) m n (alive slot below) refl (living slot) in
    let first : a.alive ≡ b.alive = ext_get_or false a.alive b.alive (m.slots.alive ∙ sym n.slots.alive) (λ slot h. alive slot (omega (arith, m.slots.alive))) in
    let second : a.processes ≡ b.processes = ext_get_or blank a.processes b.processes (m.slots.processes ∙ sym n.slots.processes) (λ slot h. (each slot (omega (arith, m.slots.processes))).0) in
    let third : a.calls ≡ b.calls = ext_get_or no_call a.calls b.calls (m.slots.calls ∙ sym n.slots.calls) (λ slot h. (each slot (omega (arith, m.slots.calls))).1) in
    ap (λ (xs : List Bool). record { alive = xs; processes = a.processes; calls = a.calls }) first
    ∙ ap (λ (xs : List Process). record { alive = b.alive; processes = xs; calls = a.calls }) second
    ∙ ap (λ (xs : List Taken). record { alive = b.alive; processes = b.processes; calls = xs }) third
