-- The list of an image's own faults: its text is read back, and the slots that it names suffice.
use Rattle.std.proofs.Common.{◌≡◌, ℕ, zero, suc, ◌+◌, ◌≤◌, List, Option, Some, None, Ok, map, length, sym, ap, ◌∙◌, arith}
use Rattle.std.specs.List.{All, range_with_len, filter_map, cons_option}
use Rattle.mpm_base.specs.declared.kind.Kind.{Kind}
use Rattle.mpm_blocks.specs.Geometries.{geometry_of}
use Rattle.mpm_blocks.specs.Sectors.{sectors_of}
use Rattle.mpm_dirent.specs.declared.kinds.Entry.{Entry}
use Rattle.mpm_mount.specs.Faults.{first_fault}
use Rattle.mpm_mount.specs.Images.{entries_of}
use Rattle.mpm_mount.proofs.FreeEntries.{all_slots}
use Rattle.mpm_fault_lines.specs.declared.fault.SlotFault.{SlotFault}
use Rattle.mpm_fault_lines.specs.Lines.{list_text}
use Rattle.mpm_fault_lines.specs.Lists.{slots_of, different}
use Rattle.mpm_fault_lines.proofs.ReadBack.{IsListable, read_back, text_short}
use Rattle.mpm_repair.specs.FaultLists.{fault_in, fault_list, faults_of, slot_of}
use Rattle.mpm_repair.specs.Freeing.{freed}
use Rattle.mpm_repair.proofs.FreedSlots.{few_slots}
use Rattle.mpm_repair.proofs.Listable.{listable}
use Rattle.mpm_repair.proofs.ListedSlots.{own_slots}
use Rattle.mpm_repair.proofs.Staying.{own_list_suffices}

own_listable : (kind : Kind) (image : List ℕ) → All (IsListable (geometry_of kind).drm) (faults_of image kind)
own_listable kind image = listable kind (entries_of (sectors_of image kind) kind) (geometry_of kind).drm (omega (arith, all_slots (sectors_of image kind) kind))

pub own_read : (kind : Kind) (image : List ℕ) → slots_of (geometry_of kind).drm (list_text (faults_of image kind)) ≡ Ok (map slot_of (faults_of image kind))
own_read kind image = read_back (geometry_of kind).drm (faults_of image kind) (few_slots kind) (own_listable kind image)

pub own_left : (kind : Kind) (image : List ℕ) → first_fault kind (freed (different ((geometry_of kind).drm + 1) (map slot_of (faults_of image kind))) (entries_of (sectors_of image kind) kind)) ≡ None
own_left kind image =
    let entries = entries_of (sectors_of image kind) kind in
    let slots = map slot_of (fault_list kind entries) in
    ap (λ (count : ℕ). first_fault kind (freed (different count slots) entries)) (sym (all_slots (sectors_of image kind) kind))
    ∙ ap (λ own. first_fault kind (freed own entries)) (own_slots kind entries)
    ∙ own_list_suffices kind entries

-- it isn't too long to be read
one_more : (o : Option SlotFault) (faults : List SlotFault) → length (cons_option o faults) ≤ length faults + 1
one_more None faults = omega arith
one_more (Some fault) faults = omega arith

few_from : (kind : Kind) (entries : List Entry) (a n : ℕ) → length (filter_map (fault_in kind entries) (range_with_len a n)) ≤ n
few_from kind entries a zero = omega arith
few_from kind entries a (suc n) =
    omega (arith, one_more (fault_in kind entries a) (filter_map (fault_in kind entries) (range_with_len (a + 1) n)), few_from kind entries (a + 1) n)

pub few_listed : (kind : Kind) (entries : List Entry) → length (fault_list kind entries) ≤ length entries
unfolding fault_list
few_listed kind entries = few_from kind entries 0 (length entries)

pub own_short : (kind : Kind) (image : List ℕ) → length (list_text (faults_of image kind)) ≤ 65536
own_short kind image =
    let entries = entries_of (sectors_of image kind) kind in
    let short = text_short (geometry_of kind).drm (faults_of image kind) (few_slots kind) (own_listable kind image) in
    omega (arith, short, few_listed kind entries, all_slots (sectors_of image kind) kind, few_slots kind)
