-- The search of a call that is kept, where it found an entry.
use Rattle.std.proofs.Common.{◌≡◌, ◌∙◌, ℕ, ◌==◌, ◌&&◌, List, Option, Some, None, sym, ap, eqb-true}
use Rattle.std.specs.Prelude.{option_map, slice_set}
use Rattle.std.proofs.lemmas.Bool.{and_parts}
use Rattle.mpm_base.specs.declared.kind.Kind.{Kind}
use Rattle.mpm_names.specs.Matching.{does_match}
use Rattle.mpm_mount.specs.Drives.{FileName, Drive}
use Rattle.mpm_opens.proofs.Listing.{found_counts}
use Rattle.mpm_mount.specs.Files.{entries_named, is_fitting}
use Rattle.mpm_fcb.specs.declared.block.ControlBlock.{ControlBlock}
use Rattle.mpm_refusals.specs.declared.finding.FoundEntry.{FoundEntry}
use Rattle.mpm_file_functions.specs.declared.functions.FileFunction.{FileFunction}
use Rattle.mpm_file_functions.specs.declared.functions.FileFunction.TheVariants.{ResetDisks, OpenFile, CloseFile, SearchFirst, SearchNext, DeleteFile, ReadSequential, WriteSequential, MakeFile, RenameFile, ProtectDisk, SetAttributes, ReadRandom, WriteRandom, FileSize, ResetDrives, AccessDrives, FreeDrives, TestAndWrite, LockRecord, UnlockRecord, FreeSpace, FlushBuffers, SetLabel, LabelData, ReadXfcb, WriteXfcb}
use Rattle.mpm_refusals.specs.declared.searches.LastSearch.{LastSearch}
use Rattle.mpm_refusals.specs.declared.searching.EntryPlace.{EntryPlace}
use Rattle.mpm_refusals.specs.Filing as filing
use Rattle.mpm_refusals.specs.Subjects.{is_behind, is_next, is_of_extent, found_in, found_by}
use Rattle.mpm_refusals.specs.Looking.{at_place}
use Rattle.mpm_refusals.specs.Searches.{searched, user_sought, search_by, searches_by}
use Rattle.mpm_refusals.specs.Asking.{found_as}

-- what is found is of the user that is sought
found_of_user : (drive : Drive) (user : ℕ) (pattern : List ℕ) (extent : ℕ) (last : Option (FileName × ℕ)) (entry : FileName × ℕ) → found_in drive user pattern extent last ≡ Some entry → entry.0.user ≡ user
unfolding found_in
found_of_user drive user pattern extent last entry is =
    let passes = (found_counts (is_next user pattern (is_of_extent drive.kind extent) last) (entries_named drive) entry is).0 in
    let fits = and_parts (is_fitting user pattern entry.0) (is_of_extent drive.kind extent entry && is_behind last entry) passes in
    eqb-true entry.0.user user (and_parts (entry.0.user == user) (does_match pattern entry.0.name) fits.0).0

found_user : (drive : Drive) (user : ℕ) (b : ControlBlock) (search : Option LastSearch) (f : FileFunction) (entry : FileName × ℕ) → found_by drive user b (searched search) f ≡ Some entry
    → entry.0.user ≡ user_sought search user f
unfolding found_by
found_user drive user b search SearchFirst entry is = found_of_user drive user _ b.ex None entry is
found_user drive user b (Some search) SearchNext entry is = found_of_user drive search.user search.pattern search.extent _ entry is
found_user drive user b None SearchNext entry is = absurd (cc)
found_user drive user b search ResetDisks entry is = absurd (cc)
found_user drive user b search OpenFile entry is = absurd (cc)
found_user drive user b search CloseFile entry is = absurd (cc)
found_user drive user b search DeleteFile entry is = absurd (cc)
found_user drive user b search ReadSequential entry is = absurd (cc)
found_user drive user b search WriteSequential entry is = absurd (cc)
found_user drive user b search MakeFile entry is = absurd (cc)
found_user drive user b search RenameFile entry is = absurd (cc)
found_user drive user b search ProtectDisk entry is = absurd (cc)
found_user drive user b search SetAttributes entry is = absurd (cc)
found_user drive user b search ReadRandom entry is = absurd (cc)
found_user drive user b search WriteRandom entry is = absurd (cc)
found_user drive user b search FileSize entry is = absurd (cc)
found_user drive user b search ResetDrives entry is = absurd (cc)
found_user drive user b search AccessDrives entry is = absurd (cc)
found_user drive user b search FreeDrives entry is = absurd (cc)
found_user drive user b search TestAndWrite entry is = absurd (cc)
found_user drive user b search LockRecord entry is = absurd (cc)
found_user drive user b search UnlockRecord entry is = absurd (cc)
found_user drive user b search FreeSpace entry is = absurd (cc)
found_user drive user b search FlushBuffers entry is = absurd (cc)
found_user drive user b search SetLabel entry is = absurd (cc)
found_user drive user b search LabelData entry is = absurd (cc)
found_user drive user b search ReadXfcb entry is = absurd (cc)
found_user drive user b search WriteXfcb entry is = absurd (cc)

pub kept_found : (old new : List (Option filing.LastSearch)) (p : ℕ) (kind : Kind) (files : Drive) (user drive : ℕ) (b : ControlBlock) (last : Option filing.LastSearch) (search result : Option LastSearch)
    → (f : FileFunction) (found : Option FoundEntry) (entry : FoundEntry) (place : EntryPlace) → found ≡ Some entry → option_map (found_as kind) found ≡ found_by files user b last f
    → searched search ≡ last → at_place entry.user place ≡ found_as kind entry
    → ((e : FileName × ℕ) → e ≡ at_place (user_sought search user f) place → searched result ≡ search_by (searched search) drive user b e f)
    → new ≡ slice_set old p (searched result) → new ≡ searches_by old p (λ e. search_by last drive user b e f) (found_by files user b last f)
kept_found old new p kind files user drive b last search result f found entry place there is was at behind put =
    let e : FileName × ℕ = found_as kind entry in
    let finds : found_by files user b last f ≡ Some e = sym is ∙ ap (option_map (found_as kind)) there in
    let whose : entry.user ≡ user_sought search user f = found_user files user b search f e (ap (λ l. found_by files user b l f) was ∙ finds) in
    put
    ∙ ap (slice_set old p) (behind e (sym at ∙ ap (λ u. at_place u place) whose) ∙ ap (λ l. search_by l drive user b e f) was)
    ∙ sym (ap (searches_by old p (λ x. search_by last drive user b x f)) finds)
