-- The system's queues, which are made at boot, one after the other.
use Rattle.std.proofs.Common.{◌≡◌, ◌≢◌, ◌∙◌, ℕ, ◌+◌, ◌*◌, ◌<◌, ◌≤◌, Bool, true, false, not, ◌||◌, ◌==◌, Option, replicate, Some, None, if◌then◌else◌, inl, inr, refl, sym, ap, arith, get_or-set_same, get_or-set_other}
use Rattle.std.specs.Prelude.{is_some, is_none, nat_lt}
use Rattle.std.proofs.lemmas.Bool.{false≢true, cases_eq, cases_lt}
use Rattle.std.proofs.lemmas.Bool.Decides.{nat_tests}
use Rattle.std.proofs.lemmas.List.{get_or-replicate, get_or_past, length-replicate}
use Rattle.mpm_base.specs.declared.number.Name8.{Name8}
use Rattle.mpm_clock.specs.declared.moment.Moment.{Moment}
use Rattle.mpm_queues.specs.Queues.{Queues, no_queues, IsMade, is_made, is_free, found, lowest_free, made, make_error}
use Rattle.mpm_queues.specs.declared.queues.MakeRefused.TheVariants.{BadCount, Exists, NoQueueRoom}
use Rattle.mpm_queues.proofs.Finding.{lowest_none}
use Rattle.mpm_kernel.specs.Kernel.{Kernel, IsSoundKernel, new_kernel}
use Rattle.mpm_kernel.specs.Queueing.{OnlySystems, made_at, with_queue, with_system_queue}
use Rattle.mpm_kernel.proofs.QueueingLaws.{accepts, found_made, number_below, system_is_lowest, sound_with_queue}

-- no queue is there at first
none_made : (q : ℕ) → is_made no_queues q ≡ false
unfolding no_queues
none_made q = elim (cases_lt q 32) [
  | inl below ↦ get_or-replicate 32 q false false below
  | inr past ↦ get_or_past (replicate 32 false) q false (omega (arith, length-replicate 32 false, past))
]

pub only_systems_new : (consoles printers : ℕ) (now : Moment) → OnlySystems (new_kernel consoles printers now)
unfolding new_kernel
only_systems_new consoles printers now = record { all = λ q is. absurd (false≢true (sym (none_made q) ∙ is)) }

-- the first one can be made, where it has room for a message and at most 2,048 bytes for all
none_found : (o : Option ℕ) (name : Name8) → found no_queues name ≡ o → is_some o ≡ false
none_found None name is = refl
none_found (Some q) name is = absurd (false≢true (sym (none_made q) ∙ found_made no_queues name q is))

some_free : (o : Option ℕ) → lowest_free no_queues ≡ o → is_none o ≡ false
some_free None is = absurd (false≢true (sym (lowest_none (is_free no_queues) is 0 (omega arith)) ∙ ap not (none_made 0)))
some_free (Some q) is = refl

chain : (a b c d : Bool) → a ≡ false → b ≡ false → c ≡ false → d ≡ false
    → (if a then Some BadCount else (if b then Some Exists else (if c || d then Some NoQueueRoom else None))) ≡ None
chain true b c d e f g h = absurd (cc)
chain false true c d e f g h = absurd (cc)
chain false false true d e f g h = absurd (cc)
chain false false false true e f g h = absurd (cc)
chain false false false false e f g h = refl

pub may_make_first : (name : Name8) (width count : ℕ) → 0 < count → width * count ≤ 2048 → make_error no_queues name width count ≡ None
unfolding make_error
may_make_first name width count some few =
    chain (count == 0) (is_some (found no_queues name)) (is_none (lowest_free no_queues)) (nat_lt 2048 (width * count))
    (grind (arith, nat_tests, some)) (none_found (found no_queues name) name refl) (some_free (lowest_free no_queues) refl) (grind (arith, nat_tests, few))

pub may_make_new : (consoles printers : ℕ) (now : Moment) (name : Name8) (width count : ℕ) → 0 < count → width * count ≤ 2048
    → make_error (new_kernel consoles printers now).queues name width count ≡ None
unfolding new_kernel
may_make_new consoles printers now name width count some few = may_make_first name width count some few

-- one more: it is the system's, and there are still only those of the system
made_there : (kernel : Kernel) (slot : Option ℕ) (name : Name8) (width count : ℕ) → IsSoundKernel kernel → OnlySystems kernel → lowest_free kernel.queues ≡ slot
    → is_none slot ≡ false → IsMade (made_at slot kernel.queues name width count) kernel.system_queues
unfolding made
made_there kernel None name width count s only free some = absurd (cc)
made_there kernel (Some q) name width count s only free some =
    let same : kernel.system_queues ≡ q = sym (system_is_lowest kernel q s only free) in
    ap (is_made (made kernel.queues q name width count)) same
    ∙ get_or-set_same kernel.queues.alive q true false (omega (arith, number_below kernel.queues q free, s.queues.alive))

made_before : (slot : Option ℕ) (t : Queues) (name : Name8) (width count k : ℕ) → slot ≢ Some k → is_made (made_at slot t name width count) k ≡ is_made t k
unfolding made
made_before None t name width count k other = refl
made_before (Some q) t name width count k other = get_or-set_other t.alive q k true false (λ same. other (ap (λ (n : ℕ). Some n) (sym same)))

-- a queue of the system has the lowest free number, and so they have the lowest
pub system_made : (kernel : Kernel) (name : Name8) (width count q : ℕ) (queues : Queues) → IsSoundKernel kernel → OnlySystems kernel → lowest_free kernel.queues ≡ Some q
    → queues ≡ made kernel.queues q name width count → record kernel { queues = queues; system_queues = q + 1 } ≡ with_system_queue kernel name width count
unfolding with_system_queue with_queue
system_made kernel name width count q queues s only free is =
    ap (λ queues. record kernel { queues = queues; system_queues = q + 1 }) is
    ∙ ap (λ slot. record kernel { queues = made_at slot kernel.queues name width count; system_queues = q + 1 }) (sym free)
    ∙ ap (λ (n : ℕ). record (with_queue kernel name width count) { system_queues = n + 1 }) (system_is_lowest kernel q s only free)

pub sound_system_queue : (kernel : Kernel) (name : Name8) (width count : ℕ) → IsSoundKernel kernel → OnlySystems kernel
    → make_error kernel.queues name width count ≡ None → IsSoundKernel (with_system_queue kernel name width count)
unfolding with_system_queue with_queue
sound_system_queue kernel name width count s only none =
    let accepted : is_none (make_error kernel.queues name width count) ≡ true = ap is_none none in
    let more = sound_with_queue kernel name width count s accepted in
    let slot = lowest_free kernel.queues in
    let there = made_there kernel slot name width count s only refl (accepts kernel.queues name width count accepted).free in
    record {
      units = more.units;
      owners = more.owners;
      slots = more.slots;
      table = more.table;
      flags = more.flags;
      queues = more.queues;
      system = λ k below. elim (cases_eq k kernel.system_queues) [
        | inl same ↦ ap (is_made (made_at slot kernel.queues name width count)) same ∙ there
        | inr other ↦ more.system k (omega (arith, below, other))
      ];
      inside = more.inside;
      fit = more.fit;
      once = more.once;
      live = more.live;
      runs = more.runs;
    }

pub only_systems_again : (kernel : Kernel) (name : Name8) (width count : ℕ) → IsSoundKernel kernel → OnlySystems kernel
    → OnlySystems (with_system_queue kernel name width count)
unfolding with_system_queue with_queue
only_systems_again kernel name width count s only = record {
  all = λ k is. elim (cases_eq k kernel.system_queues) [
    | inl same ↦ omega (arith, same)
    | inr other ↦
        let apart : lowest_free kernel.queues ≢ Some k = λ free. other (system_is_lowest kernel k s only free) in
        let there = sym (made_before (lowest_free kernel.queues) kernel.queues name width count k apart) ∙ is in
        omega (arith, only.all k there)
  ];
}
