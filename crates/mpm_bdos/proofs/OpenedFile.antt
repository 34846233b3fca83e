-- An opening in read-only mode that is answered 0: its process has the file, and its block names it.
use Rattle.std.proofs.Common.{◌≡◌, ◌∙◌, ℕ, ◌+◌, ◌*◌, ◌%◌, ◌||◌, not, Bool, true, false, cond, List, ◌∷◌, ◌++◌, Option, Some, None, Ok, IfOk, length, refl, sym, ap, subst, arith}
use Rattle.std.specs.Prelude.{is_some, option_map, option_and_then, bytes_eq}
use Rattle.std.proofs.lemmas.Bool.{true≢false, false≢true, not-false, false_from_ne_true}
use Rattle.std.proofs.lemmas.List.{length-append}
use Rattle.std.proofs.lemmas.Slice.Eq.{bytes_eq-Decides}
use Rattle.mpm_dirent.specs.Names.{plain}
use Rattle.mpm_dirent.proofs.Lengths.{part_size}
use Rattle.mpm_mount.specs.Drives.{FileName, Drive, entry_number, extent_at, extents_of}
use Rattle.mpm_mount.specs.Attributes.{attributes_of}
use Rattle.mpm_mount.specs.Looking.{extent_count}
use Rattle.mpm_opens.specs.declared.kinds.Mode.{Mode}
use Rattle.mpm_opens.specs.declared.kinds.Mode.TheVariants.{ReadOnly}
use Rattle.mpm_opens.specs.declared.kinds.OpenRefused.{OpenRefused}
use Rattle.mpm_opens.specs.declared.kinds.OpenRefused.TheVariants.{Incompatible, ProcessLimit, NoRoom}
use Rattle.mpm_opens.specs.Items as items
use Rattle.mpm_opens.specs.Opens.{OpenFiles, item_of, IsItemOf, HasNone, HasOne, IsOpened, AreOpen, added}
use Rattle.mpm_opens.proofs.OpeningLaws.{live_stands}
use Rattle.mpm_opens.proofs.FindingLaws.{named, opens_file, is_its_item}
use Rattle.mpm_opens.proofs.OneItem.{free_first, one_opened}
use Rattle.mpm_fcb.specs.declared.block.ControlBlock.{ControlBlock}
use Rattle.mpm_fcb.specs.Blocks.{block_of, bytes_of}
use Rattle.mpm_fcb.specs.Names.{has_f5, has_f6, with_attributes}
use Rattle.mpm_fcb.specs.Opening as fcb
use Rattle.mpm_fcb.specs.Positions.{sequential_record}
use Rattle.mpm_fcb.proofs.Attributes.{still_plain, still_long, without_f5, without_f6}
use Rattle.mpm_fcb.proofs.Back.{block_back}
use Rattle.mpm_fcb.proofs.Handles.{handle_found}
use Rattle.mpm_directories.specs.Direct.{where_changed}
use Rattle.mpm_file_functions.specs.declared.functions.FileFunction.TheVariants.{OpenFile}
use Rattle.mpm_file_functions.specs.declared.refusals.Refusal.{Refusal}
use Rattle.mpm_file_functions.specs.declared.refusals.Refusal.TheVariants.{NotMounted, Ambiguous, NotOpen, NotOpenToLock, BeyondFile, NotFound, ProtectedDrive, ReadOnlyFile, FileExists, WrongPassword, InUse, FileLimit, ListFull, DirectoryFull, Busy}
use Rattle.mpm_file_functions.specs.Refusals.{refusals_of, answered, refused_value}
use Rattle.mpm_file_entries.specs.declared.granting.Granted.{Granted}
use Rattle.mpm_file_entries.specs.Granting.{file_in, opened_block, block_by}
use Rattle.mpm_file_entries.specs.Telling.{record_count}
use Rattle.mpm_refusals.specs.Filing.{Situation, block}
use Rattle.mpm_refusals.specs.Subjects.{drive_number, drive_at, is_there, own_file, shared_file, is_shared, opened_in, key_of, subject_by, open_key, subject, subject_key, given_password, file_admits, mode_asked, mode_by}
use Rattle.mpm_refusals.specs.Refusals.{applies, is_refused_for, is_used, is_missing, opening_refusal, refusal_of}
use Rattle.mpm_bdos.specs.Jobs.{call_turns, turned, job_by}
use Rattle.mpm_bdos.specs.Changes.{opens_by, filing_after}
use Rattle.mpm_bdos.specs.Replies.{opened_as, opened_for, granted_of, answer_after}
use Rattle.mpm_bdos.specs.Outcomes.{outcome_by, file_call}
use Rattle.mpm_bdos.specs.OpenToRead.{drive_or_blank, HasFile, OpensToRead}
use Rattle.mpm_bdos.proofs.Granted.{none_applies}
use Rattle.mpm_bdos.proofs.LeavingLaws.{number_small}
use Rattle.mpm_bdos.proofs.SoundLaws.{call_keeps_sound}
use Rattle.mpm_bdos.proofs.ThereLaws.{has_there, there_stays}
use Rattle.mpm_bdos.proofs.KeptFile.{idle_call_keeps}

-- no refusal is answered 0
never_zero : (refusal : Refusal) → refused_value (answered refusal) ≡ 0 → ⊥
never_zero NotMounted e = omega (arith, e)
never_zero Ambiguous e = omega (arith, e)
never_zero NotOpen e = omega (arith, e)
never_zero NotOpenToLock e = omega (arith, e)
never_zero BeyondFile e = omega (arith, e)
never_zero NotFound e = omega (arith, e)
never_zero ProtectedDrive e = omega (arith, e)
never_zero ReadOnlyFile e = omega (arith, e)
never_zero FileExists e = omega (arith, e)
never_zero WrongPassword e = omega (arith, e)
never_zero InUse e = omega (arith, e)
never_zero FileLimit e = omega (arith, e)
never_zero ListFull e = omega (arith, e)
never_zero DirectoryFull e = omega (arith, e)
never_zero Busy e = omega (arith, e)

pub not_refused : (s : Situation) → (file_call s).answer.hl ≡ 0 → refusal_of s ≡ None
unfolding file_call
not_refused s zero = by_refusal (refusal_of s) refl zero
  where
    by_refusal : (refusal : Option Refusal) → refusal_of s ≡ refusal → (outcome_by s (turned s (call_turns s)) refusal).answer.hl ≡ 0 → refusal_of s ≡ None
    by_refusal None is zero = is
    by_refusal (Some refusal) is zero = absurd (never_zero refusal zero)

-- a file of user 0 is its user's own, and F6' asks for read-only mode
chosen : {X : Type 0} (b : Bool) (one other : X) → one ≡ other → cond b one other ≡ other
chosen true one other same = same
chosen false one other same = refl

own_opened : (drive : Drive) (file : FileName) → file.user ≡ 0 → opened_in drive file ≡ file
unfolding opened_in
own_opened drive file zero =
    let shared : shared_file file ≡ file = λ i. record { user = sym zero i; name = file.name } in
    chosen (is_shared drive file) (shared_file file) file shared

own_subject : (s : Situation) → s.function ≡ OpenFile → s.caller.user ≡ 0 → subject s ≡ own_file s
unfolding subject_by
own_subject s is zero = ap (subject_by (drive_at s) (own_file s) (open_key s)) is ∙ own_opened (drive_at s) (own_file s) zero

asks_reading : (s : Situation) → has_f6 (block s) ≡ true → mode_by s OpenFile ≡ ReadOnly
unfolding mode_by mode_asked
asks_reading s six =
    let guarded : Bool = is_shared (drive_at s) (own_file s) || not (file_admits (drive_at s) (opened_in (drive_at s) (own_file s)) 0x40 (given_password s) s.caller.password) in
    ap (λ b. cond guarded ReadOnly (cond b ReadOnly (fcb.made_mode (block s)))) six ∙ chosen guarded ReadOnly ReadOnly refl

-- the list of open files doesn't refuse it
none_of : (refused : Option OpenRefused) → is_refused_for Incompatible refused ≡ false → is_refused_for ProcessLimit refused ≡ false → is_refused_for NoRoom refused ≡ false
    → refused ≡ None
none_of None a b c = refl
none_of (Some Incompatible) a b c = absurd (true≢false a)
none_of (Some ProcessLimit) a b c = absurd (true≢false b)
none_of (Some NoRoom) a b c = absurd (true≢false c)

not_excluded : (s : Situation) → refusal_of s ≡ None → s.function ≡ OpenFile → opening_refusal s (subject s) ≡ None
unfolding applies refusals_of
not_excluded s none is =
    let granted = none_applies s (refusals_of OpenFile) (ap refusals_of is) none in
    let refused : Option OpenRefused = opening_refusal s (subject s) in
    none_of refused (ap (is_used refused (items.have_others s.filing.opens.items s.caller.process (key_of (drive_number s) (subject s)))) (sym is) ∙ granted.1.1.1.1.0)
    granted.1.1.1.1.1.0 granted.1.1.1.1.1.1.0

abbrev its_number : Situation → ℕ
its_number s = items.opened_number s.filing.opens.items s.caller.process (subject_key s)

not_refused_there : (s : Situation) → refusal_of s ≡ None → s.function ≡ OpenFile
    → items.refusal_of s.filing.opens.items s.caller.process (subject_key s) (mode_by s OpenFile) ≡ None
unfolding opening_refusal
not_refused_there s none is =
    ap (λ f. items.refusal_of s.filing.opens.items s.caller.process (subject_key s) (mode_by s f)) (sym is) ∙ not_excluded s none is

answers_number : (s : Situation) → refusal_of s ≡ None → s.function ≡ OpenFile
    → items.add_answer s.filing.opens.items s.caller.process (subject_key s) (mode_by s OpenFile) ≡ Ok (its_number s)
unfolding items.add_answer
answers_number s none is = ap (λ refused. items.granted refused (its_number s)) (not_refused_there s none is)

-- so its process has an item of the file in that mode
abbrev opens_then : Situation → OpenFiles
opens_then s = added s.filing.opens s.caller.process (subject_key s) (mode_by s OpenFile)

its_item : (s : Situation) → refusal_of s ≡ None → s.function ≡ OpenFile → IsItemOf (opens_then s) s.caller.process (subject_key s) (its_number s)
unfolding added
its_item s none is =
    let old : OpenFiles = s.filing.opens in
    let mode : Mode = mode_by s OpenFile in
    let after = items.items_added old.items s.caller.process (subject_key s) mode in
    is_its_item (opens_then s) s.caller.process (subject_key s) (its_number s)
    (subst (λ answer. IfOk answer (λ number. items.number_of after s.caller.process (subject_key s) ≡ Some number)) (answers_number s none is)
    (named old.items s.caller.process (subject_key s) mode after (items.add_answer old.items s.caller.process (subject_key s) mode) refl refl))

is_opened : (s : Situation) → refusal_of s ≡ None → s.function ≡ OpenFile
    → IsOpened s.caller.process (subject_key s) (mode_by s OpenFile) (its_number s) s.filing.opens (opens_then s)
unfolding added
is_opened s none is =
    let old : OpenFiles = s.filing.opens in
    let mode : Mode = mode_by s OpenFile in
    let after = items.items_added old.items s.caller.process (subject_key s) mode in
    subst (λ answer. IfOk answer (λ number. IsOpened s.caller.process (subject_key s) mode number old (opens_then s))) (answers_number s none is)
    (opens_file old.items old.locks s.caller.process (subject_key s) mode after (items.add_answer old.items s.caller.process (subject_key s) mode) old refl refl refl)

its_mode : (s : Situation) → refusal_of s ≡ None → s.function ≡ OpenFile → (item_of (opens_then s) (its_number s)).mode ≡ mode_by s OpenFile
its_mode s none is = (is_opened s none is).its_mode

opens_are : (s : Situation) → refusal_of s ≡ None → s.function ≡ OpenFile → (file_call s).filing.opens ≡ opens_then s
unfolding file_call filing_after opens_by
opens_are s none is =
    ap (λ refusal. (outcome_by s (turned s (call_turns s)) refusal).filing.opens) none ∙ ap (opens_by s (turned s (call_turns s))) is

-- and that alone, if it had none
has_one : (s : Situation) → refusal_of s ≡ None → s.function ≡ OpenFile → HasNone s.caller.process s.filing.opens → HasOne s.caller.process (its_number s) (file_call s).filing.opens
has_one s none is nothing =
    subst (HasOne s.caller.process (its_number s)) (sym (opens_are s none is))
    (one_opened s.caller.process (its_number s) (subject_key s) (mode_by s OpenFile) s.filing.opens (opens_then s) (is_opened s none is)
    (free_first s.filing.opens s.caller.process (subject_key s) (mode_by s OpenFile) (not_refused_there s none is) nothing) nothing)

-- and the file is there, as it was
some_before : {X Y Z : Type 0} (f : Y → Z) (g : X → Option Y) (o : Option X) → is_some (option_map f (option_and_then g o)) ≡ true → is_some o ≡ true
some_before f g None there = absurd (false≢true there)
some_before f g (Some x) there = refl

there_before : (s : Situation) → refusal_of s ≡ None → s.function ≡ OpenFile → is_there (drive_at s) (subject s) ≡ true
unfolding applies refusals_of extent_count extent_at
there_before s none is =
    let granted = none_applies s (refusals_of OpenFile) (ap refusals_of is) none in
    has_there (drive_at s) (subject s) (entry_number (drive_at s).kind (block s).ex)
    (some_before _ _ _ (not-false (is_some (extent_count (drive_at s) (subject s) (block s).ex)) (ap (is_missing s (subject s)) (sym is) ∙ granted.1.1.0)))

there_then : (s : Situation) → refusal_of s ≡ None → s.function ≡ OpenFile → is_there (drive_or_blank (file_call s).filing (drive_number s)) (subject s) ≡ true
unfolding job_by drive_at
there_then s none is =
    there_stays (subject s) (drive_or_blank s.filing (drive_number s)) (drive_or_blank (file_call s).filing (drive_number s))
    (idle_call_keeps s (subject_key s) _ none (ap (job_by s) is) refl) (there_before s none is)

has_it : (s : Situation) → refusal_of s ≡ None → s.function ≡ OpenFile → mode_by s OpenFile ≡ ReadOnly → HasFile s.caller.process (subject_key s) (its_number s) (file_call s).filing
has_it s none is read =
    let opens : OpenFiles = (file_call s).filing.opens in
    let its : IsItemOf opens s.caller.process (subject_key s) (its_number s) =
    subst (λ o. IsItemOf o s.caller.process (subject_key s) (its_number s)) (sym (opens_are s none is)) (its_item s none is) in
    record {
      item = item_of opens (its_number s);
      placed = live_stands (items.place_at opens.items (its_number s)) its.live;
      its_process = its.its_process;
      its_file = its.its_file;
      its_mode = ap (λ o. (item_of o (its_number s)).mode) (opens_are s none is) ∙ its_mode s none is ∙ read;
      there = there_then s none is;
    }

-- the block that is written back
abbrev block_then : ControlBlock → List Bool → ℕ → ℕ → ControlBlock
block_then b attributes count number = record b { name = with_attributes b.name (fcb.without_f5_f6 attributes); s1 = 0; s2 = 0; rc = count; map = fcb.handle_of number }

written_back : (b : ControlBlock) (attributes : List Bool) (count number : ℕ) → length b.random ≡ 3
    → block_of (bytes_of (block_then b attributes count number)) ≡ block_then b attributes count number
written_back b attributes count number size =
    block_back (bytes_of (block_then b attributes count number)) (block_then b attributes count number) refl (still_long b.name (fcb.without_f5_f6 attributes)) refl size

first_so : (ex cr : ℕ) → 128 * (32 * (0 % 64) + ex % 32) + cr ≡ 128 * (ex % 32) + cr
first_so ex cr = omega arith

differs : (old new : List ℕ) → has_f6 (block_of old) ≡ true → has_f6 (block_of new) ≡ false → where_changed old new ≡ Some new
differs old new had has =
    ap (λ b. cond b None (Some new))
    (false_from_ne_true (bytes_eq new old) (λ same. true≢false (sym had ∙ ap (λ bytes. has_f6 (block_of bytes)) (sym ((bytes_eq-Decides new old).0 same)) ∙ has)))

-- what it was opened with
abbrev granted_in : Situation → Granted
granted_in s = granted_of s (turned s (call_turns s))

abbrev drive_then : Situation → Drive
drive_then s = (turned s (call_turns s)).drive

abbrev attributes_then : Situation → List Bool
attributes_then s = attributes_of (extents_of (drive_then s) (file_in (granted_in s)))

abbrev count_then : Situation → ℕ
count_then s = record_count (drive_then s) (file_in (granted_in s)) ((block s).ex % 32)

block_is : (s : Situation) → refusal_of s ≡ None → s.function ≡ OpenFile → mode_by s OpenFile ≡ ReadOnly
    → block_by (drive_then s) (granted_in s) s.function ≡ block_then (block s) (attributes_then s) (count_then s) (its_number s)
unfolding block_by granted_of fcb.opened
block_is s none is read =
    let g : Granted = granted_in s in
    ap (block_by (drive_then s) g) is
    ∙ ap (opened_block (drive_then s) g) (ap (opened_for s) is ∙ ap (opened_as (mode_by s OpenFile)) (answers_number s none is))
    ∙ ap (λ mode. fcb.opened (block s) (attributes_then s) (count_then s) mode (its_number s)) read

fcb_is : (s : Situation) → refusal_of s ≡ None
    → (file_call s).answer.fcb ≡ where_changed s.call.fcb (bytes_of (block_by (drive_then s) (granted_in s) s.function))
unfolding file_call answer_after granted_of
fcb_is s none = ap (λ refusal. (outcome_by s (turned s (call_turns s)) refusal).answer.fcb) none

back_size : (b : ControlBlock) → length b.name ≡ 11 → length b.map ≡ 16 → length b.random ≡ 3 → length (bytes_of b) ≡ 36
unfolding bytes_of
back_size b named mapped placed =
    omega (arith, length-append b.name (b.ex ∷ b.s1 ∷ b.s2 ∷ b.rc ∷ (b.map ++ (b.cr ∷ b.random))), length-append b.map (b.cr ∷ b.random), named, mapped, placed)

random_size : (s : Situation) → length s.call.fcb ≡ 36 → length (block s).random ≡ 3
unfolding block_of
random_size s size = part_size 33 3 s.call.fcb (omega (arith, size))

name_size : (s : Situation) → length s.call.fcb ≡ 36 → length (block s).name ≡ 11
unfolding block_of
name_size s size = part_size 1 11 s.call.fcb (omega (arith, size))

pub opens_to_read : (s : Situation) → s.function ≡ OpenFile → s.caller.user ≡ 0 → has_f6 (block s) ≡ true → length s.call.fcb ≡ 36 → AreOpen s.filing.opens
    → (file_call s).answer.hl ≡ 0 → OpensToRead s
opens_to_read s is zero six size sound done =
    let none = not_refused s done in
    let read = asks_reading s six in
    let b : ControlBlock = block_then (block s) (attributes_then s) (count_then s) (its_number s) in
    let back : block_of (bytes_of b) ≡ b = written_back (block s) (attributes_then s) (count_then s) (its_number s) (random_size s size) in
    let has : HasFile s.caller.process (subject_key s) (its_number s) (file_call s).filing = has_it s none is read in
    let few = number_small (file_call s).filing.opens (its_number s) (call_keeps_sound s sound) (subst (λ place. is_some place ≡ true) (sym has.placed) refl) in
    record {
      number = its_number s;
      fcb = bytes_of b;
      answered = fcb_is s none ∙ ap (λ c. where_changed s.call.fcb (bytes_of c)) (block_is s none is read)
          ∙ differs s.call.fcb (bytes_of b) six (ap has_f6 back ∙ without_f6 (block s).name (attributes_then s));
      size = back_size b (still_long (block s).name (fcb.without_f5_f6 (attributes_then s))) refl (random_size s size);
      has = subst (λ file. HasFile s.caller.process (key_of (drive_number s) file) (its_number s) (file_call s).filing) (own_subject s is zero) has;
      named = handle_found (block_of (bytes_of b)) (its_number s) (ap (λ (c : ControlBlock). c.map) back) (omega (arith, few));
      drive = ap (λ (c : ControlBlock). c.drive) back;
      name = ap (λ (c : ControlBlock). plain c.name) back ∙ still_plain (block s).name (fcb.without_f5_f6 (attributes_then s)) (name_size s size);
      f5 = ap has_f5 back ∙ without_f5 (block s).name (attributes_then s);
      one = has_one s none is;
      first = ap sequential_record back ∙ first_so (block s).ex (block s).cr;
    }
