-- The list that a check of an image writes is never refused.
use Rattle.std.proofs.Common.{◌≡◌, ℕ, ◌<◌, List, Option, Some, Result, Ok, Err, map, length, sym, ap, subst, ◌∙◌, arith}
use Rattle.std.specs.Prelude.{⊤, MatchOption}
use Rattle.mpm_base.specs.declared.kind.Kind.{Kind}
use Rattle.mpm_blocks.specs.Geometries.{geometry_of}
use Rattle.mpm_port.specs.Disks.{ToldImage, Bytes, Brings}
use Rattle.mpm_mount.specs.declared.errors.ImageFault.{ImageFault}
use Rattle.mpm_mount.specs.Images.{files_of}
use Rattle.mpm_fault_lines.specs.Lines.{list_text}
use Rattle.mpm_fault_lines.specs.Lists.{slots_of}
use Rattle.mpm_repair.specs.FaultLists.{faults_of, slot_of}
use Rattle.mpm_repair.specs.Freeing.{freed_image}
use Rattle.mpm_repair.proofs.FreedImages.{files_freed}
use Rattle.mpm_fsck.specs.declared.status.FsckStatus.{FsckStatus}
use Rattle.mpm_fsck.specs.declared.status.FsckStatus.TheVariants.{Done, Usage, Unsound, WrongSize, BadList, NotEnough, ReadFault, DiskFault, WriteFault, OutOfMemory, TooLong}
use Rattle.mpm_fsck.specs.Requests.{Request, Check, Apply}
use Rattle.mpm_fsck.specs.Outside.{SeenOutside}
use Rattle.mpm_fsck.specs.Endings.{HasBadListLine, Lists, Lacks, Applies, IsUnrefused, TakesOwnList, slots_in, drive_without}
use Rattle.mpm_repair.proofs.FreedSlots.{all_different}
use Rattle.mpm_repair.proofs.OwnList.{own_read, own_left, own_short}

-- what a file holds whose contents are known
abbrev IsKnown : Option (List ℕ) → List ℕ → Type 0
IsKnown contents file = contents ≡ Some file

held : (contents : Option (List ℕ)) (text file : List ℕ) → IsKnown contents file → MatchOption contents ⊤ (λ known. text ≡ known) → text ≡ file
held contents text file is known = subst (λ (o : Option (List ℕ)). MatchOption o ⊤ (λ one. text ≡ one)) is known

held_long : (contents : Option (List ℕ)) (file : List ℕ) → IsKnown contents file → MatchOption contents ⊤ (λ known. 65536 < length known) → 65536 < length file
held_long contents file is known = subst (λ (o : Option (List ℕ)). MatchOption o ⊤ (λ one. 65536 < length one)) is known

not_both : {X E : Type 0} (result : Result X E) (x : X) (e : E) → result ≡ Ok x → result ≡ Err e → ⊥
not_both result x e ok err = absurd (cc)

same_ok : {X E : Type 0} (result : Result X E) (x y : X) → result ≡ Ok x → result ≡ Ok y → x ≡ y
same_ok result x y one other = cc

own_not_bad : (kind : Kind) (image : List ℕ) (missing : Type 0) (contents : Option (List ℕ)) (line : ℕ) → IsKnown contents (list_text (faults_of image kind)) → HasBadListLine missing contents kind line → ⊥
own_not_bad kind image missing contents line is bad =
    let text = held contents bad.text (list_text (faults_of image kind)) is bad.holds.known in
    not_both (slots_of (geometry_of kind).drm bad.text) (map slot_of (faults_of image kind)) line (ap (slots_of (geometry_of kind).drm) text ∙ own_read kind image) bad.bad

own_lines : (kind : Kind) (image : List ℕ) (missing : Type 0) (contents : Option (List ℕ)) (lines : List ℕ) → IsKnown contents (list_text (faults_of image kind)) → Lists missing contents kind lines
    → map slot_of (faults_of image kind) ≡ lines
own_lines kind image missing contents lines is lists =
    let text = held contents lists.text (list_text (faults_of image kind)) is lists.holds.known in
    same_ok (slots_of (geometry_of kind).drm lists.text) (map slot_of (faults_of image kind)) lines (ap (slots_of (geometry_of kind).drm) text ∙ own_read kind image) lists.read

own_enough : (kind : Kind) (image : List ℕ) (missing : Type 0) (contents : Option (List ℕ)) (fault : ImageFault) → length image ≡ (geometry_of kind).bytes
    → IsKnown contents (list_text (faults_of image kind)) → Lacks missing contents kind image fault → ⊥
own_enough kind image missing contents fault size is lacks =
    let own = map slot_of (faults_of image kind) in
    let left = files_freed kind (slots_in kind own) image size (all_different kind own) (own_left kind image) in
    let fault_is = subst (λ lines. files_of (freed_image kind (slots_in kind lines) image) kind ≡ Err fault) (sym (own_lines kind image missing contents lacks.lines is lacks.listed)) lacks.fault_is in
    not_both (files_of (freed_image kind (slots_in kind own) image) kind) (drive_without kind (slots_in kind own) image) fault left fault_is

-- an image that is known is the one that was brought
brought : (known : ToldImage) (bytes image : List ℕ) → known ≡ Bytes bytes → Brings known image → image ≡ bytes
brought known bytes image is brings = subst (λ (one : ToldImage). Brings one image) is brings

pub own_unrefused : (missing : List ℕ → Type 0) (kind : Kind) (name list bytes : List ℕ) (old new : SeenOutside) (status : FsckStatus) → Applies missing kind name list old new status
    → old.drives.known name ≡ Bytes bytes → length bytes ≡ (geometry_of kind).bytes → old.contents list ≡ Some (list_text (faults_of bytes kind)) → IsUnrefused status
own_unrefused missing kind name list bytes old new Done applies known size is = tt
own_unrefused missing kind name list bytes old new Usage applies known size is = applies
own_unrefused missing kind name list bytes old new (Unsound count) applies known size is = applies
own_unrefused missing kind name list bytes old new WrongSize applies known size is =
    applies.size (ap length (brought (old.drives.known name) bytes applies.image known applies.attached.brought) ∙ size)
own_unrefused missing kind name list bytes old new (BadList line) applies known size is = own_not_bad kind bytes (missing list) (old.contents list) line is applies.is
own_unrefused missing kind name list bytes old new (NotEnough slot cause) applies known size is =
    let fault : ImageFault = record { cause = cause; place = slot } in
    let same = brought (old.drives.known name) bytes applies.image known applies.attached.brought in
    own_enough kind bytes (missing list) (old.contents list) fault size is (subst (λ image. Lacks (missing list) (old.contents list) kind image fault) same applies.is)
own_unrefused missing kind name list bytes old new ReadFault applies known size is = tt
own_unrefused missing kind name list bytes old new DiskFault applies known size is = tt
own_unrefused missing kind name list bytes old new WriteFault applies known size is = tt
own_unrefused missing kind name list bytes old new OutOfMemory applies known size is = tt
own_unrefused missing kind name list bytes old new TooLong applies known size is =
    let long = held_long (old.contents list) (list_text (faults_of bytes kind)) is applies.is.long in
    absurd (omega (arith, long, own_short kind bytes))

-- a check takes no list
pub check_takes : (contents : List ℕ → Option (List ℕ)) (known : List ℕ → ToldImage) (kind : Kind) (name : List ℕ) (request : Request) (status : FsckStatus) → Check kind name ≡ request
    → TakesOwnList contents known request status
unfolding TakesOwnList
check_takes contents known kind name (Check other image) status is = tt
check_takes contents known kind name (Apply other image list) status is = absurd (cc)
