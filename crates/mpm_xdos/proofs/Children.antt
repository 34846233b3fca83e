-- Laws of the processes that descriptors ask for, one after the other.
use Rattle.std.proofs.lemmas.Bool.Decides.{nat_tests}
use Rattle.std.specs.Prelude.{nat_le}
use Rattle.std.proofs.Common.{◌≡◌, ◌∙◌, ℕ, ◌+◌, ◌<◌, ◌≤◌, Bool, true, false, ◌&&◌, List, [], ◌∷◌, ◌++◌, length, take, get_or, refl, sym, ap, subst, arith}
use Rattle.std.specs.List.{list_all}
use Rattle.std.proofs.lemmas.List.{take_more, take_all}
use Rattle.std.proofs.lemmas.List.FromFn.{length-map-range_with_len, get_or-map-range_with_len}
use Rattle.std.proofs.lemmas.List.Folds.{list_all_more, list_all_at}
use Rattle.mpm_procs.specs.declared.process.Process.{Process}
use Rattle.mpm_procs.specs.declared.process.NewProcess.{NewProcess}
use Rattle.mpm_procs.specs.Table.{lowest_free, free_slots}
use Rattle.mpm_kernel.specs.Kernel.{Kernel, dispatched}
use Rattle.mpm_xdos.specs.Creating.{descriptor_count, child_at, children_of, has_console, may_create, all_admitted}
use Rattle.mpm_dispatcher.specs.Dispatch.{in_slot}

pub all_none : (kernel : Kernel) → all_admitted [] kernel ≡ kernel
unfolding all_admitted
all_none kernel = refl

pub all_append : (a : List NewProcess) (new : NewProcess) (kernel : Kernel)
    → all_admitted (a ++ new ∷ []) kernel ≡ dispatched (in_slot new (lowest_free (all_admitted a kernel).dispatcher.procs)) (all_admitted a kernel)
unfolding all_admitted
all_append [] new kernel = refl
all_append (first ∷ a) new kernel = all_append a new (dispatched (in_slot first (lowest_free kernel.dispatcher.procs)) kernel)

pub child_count : (parent : Process) (base : ℕ) (bytes : List ℕ) → length (children_of parent base bytes) ≡ descriptor_count bytes
unfolding children_of
child_count parent base bytes = length-map-range_with_len (child_at parent base bytes) 0 (descriptor_count bytes)

pub child_is : (parent : Process) (base : ℕ) (bytes : List ℕ) (number : ℕ) (d : NewProcess) → number < descriptor_count bytes
    → get_or (children_of parent base bytes) number d ≡ child_at parent base bytes number
unfolding children_of
child_is parent base bytes number d h = get_or-map-range_with_len (child_at parent base bytes) 0 (descriptor_count bytes) number number d h (omega arith)

pub all_children : (parent : Process) (base : ℕ) (bytes : List ℕ) (count : ℕ) → count ≡ descriptor_count bytes
    → take count (children_of parent base bytes) ≡ children_of parent base bytes
all_children parent base bytes count e =
    ap (λ n. take n (children_of parent base bytes)) (e ∙ sym (child_count parent base bytes)) ∙ take_all (length (children_of parent base bytes)) (children_of parent base bytes) (omega arith)

-- one more process begins
pub all_more : (parent : Process) (base : ℕ) (bytes : List ℕ) (number : ℕ) (kernel : Kernel) → number < descriptor_count bytes
    → all_admitted (take (number + 1) (children_of parent base bytes)) kernel
    ≡ dispatched (in_slot (child_at parent base bytes number) (lowest_free (all_admitted (take number (children_of parent base bytes)) kernel).dispatcher.procs)) (all_admitted (take number (children_of parent base bytes)) kernel)
all_more parent base bytes number kernel h =
    let children = children_of parent base bytes in
    let child = child_at parent base bytes number in
    let more : take (number + 1) children ≡ take number children ++ (child ∷ []) =
    take_more children number child (omega (arith, child_count parent base bytes))
    ∙ ap (λ c. take number children ++ (c ∷ [])) (child_is parent base bytes number child h) in
    ap (λ all. all_admitted all kernel) more ∙ all_append (take number children) child kernel

-- whether processes may be created, by their number and their consoles
pub may_create_none : (kernel : Kernel) (parent : Process) (base : ℕ) (bytes : List ℕ) → free_slots kernel.dispatcher.procs < descriptor_count bytes
    → may_create kernel (children_of parent base bytes) ≡ false
unfolding may_create
may_create_none kernel parent base bytes h =
    let e : nat_le (length (children_of parent base bytes)) (free_slots kernel.dispatcher.procs) ≡ false = grind (arith, nat_tests, child_count parent base bytes) in
    ap (λ b. b && list_all (has_console (length kernel.units.consoles)) (children_of parent base bytes)) e

pub may_create_some : (kernel : Kernel) (parent : Process) (base : ℕ) (bytes : List ℕ) → descriptor_count bytes ≤ free_slots kernel.dispatcher.procs
    → may_create kernel (children_of parent base bytes) ≡ list_all (has_console (length kernel.units.consoles)) (children_of parent base bytes)
unfolding may_create
may_create_some kernel parent base bytes h =
    let e : nat_le (length (children_of parent base bytes)) (free_slots kernel.dispatcher.procs) ≡ true = grind (arith, nat_tests, child_count parent base bytes) in
    ap (λ b. b && list_all (has_console (length kernel.units.consoles)) (children_of parent base bytes)) e

passes_if : (b all : Bool) → (b ≡ false → all ≡ false) → all ≡ true → b ≡ true
passes_if true all h e = refl
passes_if false all h e = sym (h refl) ∙ e

passes_at : (p : NewProcess → Bool) (xs : List NewProcess) (i : ℕ) (d : NewProcess) → i < length xs → list_all p xs ≡ true → p (get_or xs i d) ≡ true
passes_at p xs i d h all = passes_if (p (get_or xs i d)) (list_all p xs) (list_all_at p xs i d h) all

-- the console of each of them is there
pub child_has_console : (consoles : ℕ) (parent : Process) (base : ℕ) (bytes : List ℕ) (number : ℕ) → number < descriptor_count bytes
    → list_all (has_console consoles) (children_of parent base bytes) ≡ true → (child_at parent base bytes number).console < consoles
child_has_console consoles parent base bytes number h all =
    let child = child_at parent base bytes number in
    let passes : has_console consoles (get_or (children_of parent base bytes) number child) ≡ true =
    passes_at (has_console consoles) (children_of parent base bytes) number child (omega (arith, child_count parent base bytes)) all in
    let P : NewProcess → Type 0 = λ new. has_console consoles new ≡ true in
    let this : has_console consoles child ≡ true = subst P (child_is parent base bytes number child h) passes in
    grind (arith, nat_tests, this)

-- in a walk over them: the consoles so far, one more, one that isn't there
pub consoles_more : (consoles : ℕ) (parent : Process) (base : ℕ) (bytes : List ℕ) (number : ℕ) → number < descriptor_count bytes
    → list_all (has_console consoles) (take number (children_of parent base bytes)) ≡ true
    → (child_at parent base bytes number).console < consoles
    → list_all (has_console consoles) (take (number + 1) (children_of parent base bytes)) ≡ true
consoles_more consoles parent base bytes number h before this =
    let children = children_of parent base bytes in
    let child = child_at parent base bytes number in
    list_all_more (has_console consoles) children number child (omega (arith, child_count parent base bytes))
    ∙ ap (λ b. b && has_console consoles (get_or children number child)) before
    ∙ ap (has_console consoles) (child_is parent base bytes number child h)
    ∙ grind (arith, nat_tests, this)

pub console_lacks : (consoles : ℕ) (parent : Process) (base : ℕ) (bytes : List ℕ) (number : ℕ) → number < descriptor_count bytes
    → consoles ≤ (child_at parent base bytes number).console → list_all (has_console consoles) (children_of parent base bytes) ≡ false
console_lacks consoles parent base bytes number h lacks =
    let children = children_of parent base bytes in
    let child = child_at parent base bytes number in
    list_all_at (has_console consoles) children number child (omega (arith, child_count parent base bytes))
    (ap (has_console consoles) (child_is parent base bytes number child h) ∙ grind (arith, nat_tests, lacks))
