-- What a process has open of which it closes or deletes a file, and what an opening leaves that isn't answered 0.
use Rattle.std.proofs.Common.{◌≡◌, ◌∙◌, ℕ, true, false, not, cond, ◌∷◌, [], if◌then◌else◌, Option, Some, None, refl, sym, ap, subst}
use Rattle.std.specs.FinMap.{get-empty}
use Rattle.std.specs.Option.{option_or}
use Rattle.std.specs.Prelude.{IsSome, is_some, find, unwrap_or}
use Rattle.std.proofs.lemmas.Bool.{false≢true}
use Rattle.mpm_mount.specs.Drives.{Drive, entry_cmp}
use Rattle.mpm_fcb.specs.Names.{has_f5}
use Rattle.mpm_opens.specs.declared.kinds.FileKey.{FileKey}
use Rattle.mpm_opens.specs.declared.kinds.Item.{Item}
use Rattle.mpm_opens.specs.Items.{blank_item}
use Rattle.mpm_opens.specs.Opens.{IsItemOf, HasNone, HasOne, OpensNone, AreOpen, closed}
use Rattle.mpm_opens.proofs.OneItem.{given_back_opens_none, none_closed}
use Rattle.mpm_file_functions.specs.declared.functions.FileFunction.TheVariants.{OpenFile, CloseFile, DeleteFile}
use Rattle.mpm_file_functions.specs.declared.refusals.Refusal.{Refusal}
use Rattle.mpm_file_functions.specs.declared.refusals.Refusal.TheVariants.{NotMounted, NotFound}
use Rattle.mpm_file_functions.specs.Refusals.{refusals_of}
use Rattle.mpm_file_entries.specs.Granting.{value_by}
use Rattle.mpm_refusals.specs.Asking.{where_deleted}
use Rattle.mpm_refusals.specs.Filing.{Filing, Situation, block}
use Rattle.mpm_refusals.specs.Refusals.{is_missing, is_unmounted, deletion_refusal, applies, refusal_of}
use Rattle.mpm_refusals.specs.Subjects.{mounted, blank_drive, drive_at, drive_named, drive_number, is_there, open_key, open_file, own_file, key_of, file_of, subject_by, subject, subject_key}
use Rattle.mpm_refusals.proofs.AskedLaws.{refusal_parts}
use Rattle.mpm_refusals.proofs.Deleted.{deleter}
use Rattle.mpm_bdos.specs.Jobs.{call_turns, turned}
use Rattle.mpm_bdos.specs.Changes.{is_deleted, opens_by, filing_after}
use Rattle.mpm_bdos.specs.OpenToRead.{HasFile}
use Rattle.mpm_bdos.specs.Outcomes.{outcome_by, file_call}
use Rattle.mpm_bdos.specs.Replies.{answer_after, granted_of}
use Rattle.mpm_bdos.proofs.ThereLaws.{there_has}

-- the drive of a file that is there is mounted
mounted_by : (key : FileKey) (drive : Option Drive) → is_there (unwrap_or drive blank_drive) (file_of key) ≡ true → is_some drive ≡ true
mounted_by key (Some drive) there = refl
mounted_by key None there =
    let has = there_has blank_drive (file_of key) there in
    absurd (false≢true (sym (ap is_some (get-empty entry_cmp (record { user = key.user; name = key.name; number = has.0 }))) ∙ has.1))

-- a close of an open file isn't refused
close_allowed : (s : Situation) → s.function ≡ CloseFile → is_unmounted s (drive_named s) ≡ false → is_some (open_key s) ≡ true → refusal_of s ≡ None
unfolding applies refusals_of
close_allowed s is there found =
    refusal_parts s
    ∙ ap (λ f. option_or (find (applies s (subject s)) (refusals_of f)) (where_deleted (deletion_refusal (drive_at s) s.filing.opens (deleter s) (block s).name) f)) is
    ∙ ap (λ b. option_or (cond b (Some NotMounted) (find (applies s (subject s)) (NotFound ∷ []))) None) there
    ∙ ap (λ f. option_or (cond (is_missing s (subject s) f) (Some NotFound) None) None) is
    ∙ ap (λ b. option_or (cond (not b) (Some NotFound) None) None) found

-- a file that a call names by its number, its drive and its name
pub record NamesOpen (s : Situation) (q : ℕ) (key : FileKey) (number : ℕ) : Type 0 where
  pub process : s.caller.process ≡ q
  pub drive : drive_named s ≡ Some key.drive
  pub key_is : open_key s ≡ Some key
  pub has : HasFile q key number s.filing

its_item : (q : ℕ) (key : FileKey) (number : ℕ) (filing : Filing) → HasFile q key number filing → IsItemOf filing.opens q key number
its_item q key number filing has = record {
  live = subst IsSome (sym has.placed) refl;
  its_process = ap (λ (o : Option Item). (unwrap_or o blank_item).process) has.placed ∙ has.its_process;
  its_file = ap (λ (o : Option Item). (unwrap_or o blank_item).file) has.placed ∙ has.its_file;
}

closes_key : (s : Situation) (q : ℕ) (key : FileKey) (number : ℕ) → s.function ≡ CloseFile → NamesOpen s q key number → subject_key s ≡ key
unfolding subject_by
closes_key s q key number is n =
    ap (λ f. key_of (drive_number s) (subject_by (drive_at s) (own_file s) (open_key s) f)) is
    ∙ ap (λ o. key_of (drive_number s) (open_file (own_file s) o)) n.key_is
    ∙ ap (λ drive. key_of (unwrap_or drive s.caller.drive) (file_of key)) n.drive

-- so its process has none after it, if that was its only one
pub closes_its_only : (s : Situation) (q : ℕ) (key : FileKey) (number : ℕ) → s.function ≡ CloseFile → NamesOpen s q key number → has_f5 (block s) ≡ false → AreOpen s.filing.opens
    → HasOne q number s.filing.opens → HasNone q (file_call s).filing.opens
unfolding file_call filing_after opens_by
closes_its_only s q key number is n f5 sound one =
    let none : refusal_of s ≡ None =
    close_allowed s is (ap (is_unmounted s) n.drive ∙ ap not (mounted_by key (mounted s.filing key.drive) n.has.there)) (ap is_some n.key_is) in
    let opens : (file_call s).filing.opens ≡ closed s.filing.opens q key =
    ap (λ refusal. (outcome_by s (turned s (call_turns s)) refusal).filing.opens) none
    ∙ ap (opens_by s (turned s (call_turns s))) is
    ∙ ap (λ b. if b then s.filing.opens else (closed s.filing.opens s.caller.process (subject_key s))) f5
    ∙ ap (λ p. closed s.filing.opens p (subject_key s)) n.process
    ∙ ap (closed s.filing.opens q) (closes_key s q key number is n) in
    subst (HasNone q) (sym opens) (none_closed s.filing.opens q key number sound (its_item q key number s.filing n.has) one)

-- a deletion opens none
pub deletion_opens_none : (s : Situation) (q : ℕ) → s.function ≡ DeleteFile → OpensNone q s.filing.opens (file_call s).filing.opens
unfolding file_call filing_after opens_by
deletion_opens_none s q is = by_refusal (refusal_of s)
  where
    by_refusal : (refusal : Option Refusal) → OpensNone q s.filing.opens (outcome_by s (turned s (call_turns s)) refusal).filing.opens
    by_refusal None =
        subst (λ f. OpensNone q s.filing.opens (opens_by s (turned s (call_turns s)) f)) (sym is)
        (given_back_opens_none s.caller.process q (is_deleted s) s.filing.opens)
    by_refusal (Some refusal) = λ number none. none

-- nor does an opening that isn't answered 0
opening_answers : (s : Situation) → s.function ≡ OpenFile → refusal_of s ≡ None → (file_call s).answer.hl ≡ 0
unfolding file_call answer_after granted_of value_by
opening_answers s is none =
    ap (λ refusal. (outcome_by s (turned s (call_turns s)) refusal).answer.hl) none
    ∙ ap (value_by (turned s (call_turns s)).drive (granted_of s (turned s (call_turns s)))) is

pub refused_opening : (s : Situation) → s.function ≡ OpenFile → ((file_call s).answer.hl ≡ 0 → ⊥) → (file_call s).filing ≡ s.filing
unfolding file_call
refused_opening s is other = by_refusal (refusal_of s) refl
  where
    by_refusal : (refusal : Option Refusal) → refusal_of s ≡ refusal → (outcome_by s (turned s (call_turns s)) refusal).filing ≡ s.filing
    by_refusal None none = absurd (other (opening_answers s is none))
    by_refusal (Some refusal) refused = refl
