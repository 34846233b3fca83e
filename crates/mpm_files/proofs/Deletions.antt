-- How many entries a deletion removes.
use Rattle.std.proofs.Common.{◌≡◌, ℕ, ◌+◌, Bool, true, false, ◌&&◌, ◌||◌, not, List, [], ◌∷◌, length, refl, sym, ap, ◌∙◌, arith, add-zero}
use Rattle.std.specs.Prelude.{is_some, sum_by, if◌then◌else◌}
use Rattle.std.specs.List.{list_any}
use Rattle.std.specs.FinMap.{get, entries}
use Rattle.std.proofs.lemmas.List.{length-append}
use Rattle.std.proofs.lemmas.List.Sums.{sum_by-cons}
use Rattle.std.proofs.Math.Bool.{and-true, and_assoc}
use Rattle.mpm_base.specs.Counts.{one_if}
use Rattle.mpm_mount.specs.Drives.{FileName, file_cmp, Drive}
use Rattle.mpm_mount.specs.Files.{is_same_file, is_entry_of, is_fitting}
use Rattle.mpm_mount.proofs.Orders.{file_total, file_same}
use Rattle.mpm_mount.proofs.Names.{one_file, same_back, same_by_cmp}
use Rattle.mpm_files.specs.Units.{FileUnit, RemovesEntry, RemovesXfcb}
use Rattle.mpm_files.specs.Plans.{when, deleting_entry, deleting}
use Rattle.mpm_files.proofs.Pairs.{sums_alike, sum_both, sum_nothing, one_key}

-- the units of one entry: its own, and after the last one of its file that of the XFCB
units_by : (fits more has : Bool) (unit xfcb : FileUnit) → length (if fits then (unit ∷ (if more then [] else when has xfcb)) else []) ≡ one_if fits + one_if (fits && (not more && has))
units_by true true has unit xfcb = refl
units_by true false true unit xfcb = refl
units_by true false false unit xfcb = refl
units_by false more has unit xfcb = refl

-- the XFCBs of files that fit and are among some entries
abbrev pub xfcbs_among : Drive → ℕ → List ℕ → List (FileName × ℕ) → ℕ
xfcbs_among drive user pattern named = sum_by (λ q. one_if (is_fitting user pattern q.0 && list_any (is_entry_of q.0) named)) (entries drive.xfcbs)

-- one entry more
four_ways : (fits among : Bool) → one_if (fits && (true || among)) ≡ one_if (fits && among) + one_if (true && (fits && not among))
four_ways true true = refl
four_ways true false = refl
four_ways false among = refl

one_xfcb : (user : ℕ) (pattern : List ℕ) (entry : FileName × ℕ) (named : List (FileName × ℕ)) (file : FileName) (b : Bool) → is_same_file file entry.0 ≡ b
    → one_if (is_fitting user pattern file && (b || list_any (is_entry_of file) named))
    ≡ one_if (is_fitting user pattern file && list_any (is_entry_of file) named) + one_if (b && (is_fitting user pattern entry.0 && not (list_any (is_entry_of entry.0) named)))
one_xfcb user pattern entry named file true same =
    four_ways (is_fitting user pattern file) (list_any (is_entry_of file) named)
    ∙ ap (λ (f : FileName). one_if (is_fitting user pattern file && list_any (is_entry_of file) named) + one_if (true && (is_fitting user pattern f && not (list_any (is_entry_of f) named))))
    (one_file file entry.0 same)
one_xfcb user pattern entry named file false apart = sym (add-zero (one_if (is_fitting user pattern file && list_any (is_entry_of file) named)))

never : (b : Bool) → one_if (b && false) ≡ 0
never true = refl
never false = refl

-- the XFCB of a file, where it is counted
its_xfcb : (drive : Drive) (file : FileName) → sum_by (λ q. one_if (is_same_file q.0 file)) (entries drive.xfcbs) ≡ one_if (is_some (get drive.xfcbs file))
its_xfcb drive file =
    sums_alike (λ q. one_if (is_same_file q.0 file)) _ (entries drive.xfcbs) (λ q. ap one_if (same_back q.0 file ∙ sym (same_by_cmp file q.0)))
    ∙ one_key file_cmp file_total file_same drive.xfcbs file

where_counted : (drive : Drive) (file : FileName) (c : Bool)
    → sum_by (λ q. one_if (is_same_file q.0 file && c)) (entries drive.xfcbs) ≡ one_if (c && is_some (get drive.xfcbs file))
where_counted drive file true = sums_alike (λ q. one_if (is_same_file q.0 file && true)) (λ q. one_if (is_same_file q.0 file)) (entries drive.xfcbs) (λ q. ap one_if (and-true (is_same_file q.0 file))) ∙ its_xfcb drive file
where_counted drive file false = sums_alike (λ q. one_if (is_same_file q.0 file && false)) (λ q. 0) (entries drive.xfcbs) (λ q. never (is_same_file q.0 file)) ∙ sum_nothing (entries drive.xfcbs)

one_entry_more : (drive : Drive) (user : ℕ) (pattern : List ℕ) (entry : FileName × ℕ) (named : List (FileName × ℕ))
    → xfcbs_among drive user pattern (entry ∷ named)
    ≡ xfcbs_among drive user pattern named + one_if (is_fitting user pattern entry.0 && (not (list_any (is_entry_of entry.0) named) && is_some (get drive.xfcbs entry.0)))
one_entry_more drive user pattern entry named =
    let fits : Bool = is_fitting user pattern entry.0 in
    let last : Bool = not (list_any (is_entry_of entry.0) named) in
    sums_alike _ (λ q. one_if (is_fitting user pattern q.0 && list_any (is_entry_of q.0) named) + one_if (is_same_file q.0 entry.0 && (fits && last))) (entries drive.xfcbs)
    (λ q. one_xfcb user pattern entry named q.0 (is_same_file q.0 entry.0) refl)
    ∙ sum_both (λ q. one_if (is_fitting user pattern q.0 && list_any (is_entry_of q.0) named)) (λ q. one_if (is_same_file q.0 entry.0 && (fits && last))) (entries drive.xfcbs)
    ∙ ap (λ n. xfcbs_among drive user pattern named + n) (where_counted drive entry.0 (fits && last) ∙ ap one_if (and_assoc fits last (is_some (get drive.xfcbs entry.0))))

no_xfcbs : (drive : Drive) (user : ℕ) (pattern : List ℕ) → xfcbs_among drive user pattern [] ≡ 0
no_xfcbs drive user pattern =
    sums_alike (λ q. one_if (is_fitting user pattern q.0 && false)) (λ q. 0) (entries drive.xfcbs) (λ q. never (is_fitting user pattern q.0)) ∙ sum_nothing (entries drive.xfcbs)

regroup : (a b c d : ℕ) → (a + b) + (c + d) ≡ (a + c) + (d + b)
regroup a b c d = omega arith

zero_both : (n : ℕ) → n ≡ 0 → 0 ≡ 0 + n
zero_both n none = omega arith

pub deleting_counted : (drive : Drive) (user : ℕ) (pattern : List ℕ) (named : List (FileName × ℕ))
    → length (deleting drive user pattern named) ≡ sum_by (λ e. one_if (is_fitting user pattern e.0)) named + xfcbs_among drive user pattern named
unfolding deleting
deleting_counted drive user pattern [] = zero_both (xfcbs_among drive user pattern []) (no_xfcbs drive user pattern)
deleting_counted drive user pattern (entry ∷ named) =
    let fits : Bool = is_fitting user pattern entry.0 in
    let more : Bool = list_any (is_entry_of entry.0) named in
    let has : Bool = is_some (get drive.xfcbs entry.0) in
    let sum : ℕ = sum_by (λ e. one_if (is_fitting user pattern e.0)) named in
    length-append (if fits then deleting_entry drive entry named else []) (deleting drive user pattern named)
    ∙ ap (λ n. n + length (deleting drive user pattern named)) (units_by fits more has (RemovesEntry entry.0 entry.1) (RemovesXfcb entry.0))
    ∙ ap (λ n. one_if fits + one_if (fits && (not more && has)) + n) (deleting_counted drive user pattern named)
    ∙ regroup (one_if fits) (one_if (fits && (not more && has))) sum (xfcbs_among drive user pattern named)
    ∙ ap (λ n. n + (xfcbs_among drive user pattern named + one_if (fits && (not more && has)))) (sym (sum_by-cons (λ e. one_if (is_fitting user pattern e.0)) entry named))
    ∙ ap (λ n. sum_by (λ e. one_if (is_fitting user pattern e.0)) (entry ∷ named) + n) (sym (one_entry_more drive user pattern entry named))
