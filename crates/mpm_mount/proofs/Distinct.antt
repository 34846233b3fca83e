-- Two slots of a directory without a fault have different entries of files, XFCBs and labels.
use Rattle.std.proofs.Common.{◌≡◌, ℕ, ◌<◌, ◌==◌, Bool, true, false, ◌&&◌, inl, inr, List, Some, None, length, get_or, take, refl, sym, ap, ◌∙◌, arith, eq-eqb}
use Rattle.std.specs.Prelude.{bytes_eq, is_some, if◌then◌else◌}
use Rattle.std.specs.List.{list_any}
use Rattle.std.specs.Cmp.Lexicographic.{bytes_decides}
use Rattle.std.proofs.lemmas.Bool.{false≢true, true≢false, both_ways, false_from_ne_true, eqb-true, cases_order, and_parts, and_from}
use Rattle.mpm_base.specs.declared.kind.Kind.{Kind}
use Rattle.mpm_dirent.specs.declared.kinds.Entry.{Entry}
use Rattle.mpm_dirent.specs.declared.kinds.Entry.TheVariants.{Free, File, Xfcb, Label, Kept}
use Rattle.mpm_dirent.specs.declared.kinds.FileEntry.{FileEntry}
use Rattle.mpm_dirent.specs.declared.kinds.XfcbEntry.{XfcbEntry}
use Rattle.mpm_dirent.specs.declared.kinds.LabelEntry.{LabelEntry}
use Rattle.mpm_dirent.specs.Names.{plain}
use Rattle.mpm_mount.specs.declared.slots.EntryName.{EntryName}
use Rattle.mpm_mount.specs.Drives.{entry_number}
use Rattle.mpm_mount.specs.Faults.{extent_of, name_of, is_named, is_label, is_xfcb, cause_of, first_fault}
use Rattle.mpm_mount.specs.Directories.{others}
use Rattle.mpm_mount.proofs.FirstFault.{faultless_at}
use Rattle.mpm_mount.proofs.Others.{others_none}
use Rattle.mpm_mount.proofs.Orders.{same_entry}
use Rattle.mpm_mount.proofs.Sound.{sound_at, any_earlier}

-- a name that an entry has is its own
name_parts : (kind : Kind) (f : FileEntry) (name : EntryName) → is_named kind name (File f) ≡ true
    → (f.user ≡ name.user) × (plain f.name ≡ name.name) × (entry_number kind (extent_of f) ≡ name.number)
name_parts kind f name named =
    let one = and_parts (f.user == name.user) (bytes_eq (plain f.name) name.name && (entry_number kind (extent_of f) == name.number)) named in
    let two = and_parts (bytes_eq (plain f.name) name.name) (entry_number kind (extent_of f) == name.number) one.1 in
    (eqb-true f.user name.user one.0, (bytes_decides (plain f.name) name.name).0 two.0, eqb-true (entry_number kind (extent_of f)) name.number two.1)

pub name_is : (kind : Kind) (f : FileEntry) (name : EntryName) → is_named kind name (File f) ≡ true → name_of kind f ≡ name
name_is kind f name named =
    let parts = name_parts kind f name named in
    same_entry (name_of kind f) name parts.0 parts.1 parts.2

pub own_name : (kind : Kind) (f : FileEntry) → is_named kind (name_of kind f) (File f) ≡ true
own_name kind f =
    and_from (f.user == f.user) (bytes_eq (plain f.name) (plain f.name) && (entry_number kind (extent_of f) == entry_number kind (extent_of f))) (eq-eqb f.user f.user refl)
    (and_from (bytes_eq (plain f.name) (plain f.name)) (entry_number kind (extent_of f) == entry_number kind (extent_of f))
    ((bytes_decides (plain f.name) (plain f.name)).1 refl) (eq-eqb (entry_number kind (extent_of f)) (entry_number kind (extent_of f)) refl))

-- an entry with a name is of a file
pub record NamedBy (kind : Kind) (name : EntryName) (entry : Entry) : Type 0 where
  pub file : FileEntry
  pub is : entry ≡ File file
  pub named : name_of kind file ≡ name

pub named_by : (kind : Kind) (name : EntryName) (entry : Entry) → is_named kind name entry ≡ true → NamedBy kind name entry
named_by kind name (File f) named = record { file = f; is = refl; named = name_is kind f name named }
named_by kind name Free named = absurd (false≢true named)
named_by kind name (Xfcb x) named = absurd (false≢true named)
named_by kind name (Label l) named = absurd (false≢true named)
named_by kind name (Kept bytes) named = absurd (false≢true named)

-- the later of two slots
named_once : (kind : Kind) (entries : List Entry) (a c : ℕ) (name : EntryName) → first_fault kind entries ≡ None → a < c → c < length entries
    → is_named kind name (get_or entries a Free) ≡ true → is_named kind name (get_or entries c Free) ≡ true → ⊥
named_once kind entries a c name faultless less h ha hc =
    let by = named_by kind name (get_or entries c Free) hc in
    let sound = sound_at kind entries c by.file faultless h by.is in
    both_ways (list_any (is_named kind (name_of kind by.file)) (take c entries)) sound.unnamed
    (any_earlier (is_named kind (name_of kind by.file)) entries a c less (omega arith) (ap (λ n. is_named kind n (get_or entries a Free)) by.named ∙ ha))

pub names_differ : (kind : Kind) (entries : List Entry) (a c : ℕ) (name : EntryName) → first_fault kind entries ≡ None → a < length entries → c < length entries
    → is_named kind name (get_or entries a Free) ≡ true → is_named kind name (get_or entries c Free) ≡ true → a ≡ c
names_differ kind entries a c name faultless h k ha hc = elim (cases_order a c) [
  | inl same ↦ same
  | inr apart ↦ elim apart [
    | inl less ↦ absurd (named_once kind entries a c name faultless less k ha hc)
    | inr more ↦ absurd (named_once kind entries c a name faultless more h hc ha)
  ]
]

pub named_alone : (kind : Kind) (entries : List Entry) (slot : ℕ) (name : EntryName) → first_fault kind entries ≡ None → slot < length entries
    → is_named kind name (get_or entries slot Free) ≡ true → list_any (is_named kind name) (others entries slot) ≡ false
named_alone kind entries slot name faultless h here =
    others_none (is_named kind name) entries slot Free (λ k less apart.
    false_from_ne_true (is_named kind name (get_or entries k Free)) (λ named. apart (names_differ kind entries k slot name faultless less h named here)))

-- XFCBs
pub none_if : (b : Bool) (cause : ℕ) → (if b then Some cause else None) ≡ None → b ≡ false
none_if true cause none = absurd (true≢false (ap is_some none))
none_if false cause none = refl

pub record XfcbBy (user : ℕ) (name : List ℕ) (entry : Entry) : Type 0 where
  pub xfcb : XfcbEntry
  pub is : entry ≡ Xfcb xfcb
  pub user_is : xfcb.user ≡ user
  pub name_is : plain xfcb.name ≡ name

pub xfcb_by : (user : ℕ) (name : List ℕ) (entry : Entry) → is_xfcb user name entry ≡ true → XfcbBy user name entry
xfcb_by user name (Xfcb x) has =
    let parts = and_parts (x.user == user) (bytes_eq (plain x.name) name) has in
    record { xfcb = x; is = refl; user_is = eqb-true x.user user parts.0; name_is = (bytes_decides (plain x.name) name).0 parts.1 }
xfcb_by user name (File f) has = absurd (false≢true has)
xfcb_by user name Free has = absurd (false≢true has)
xfcb_by user name (Label l) has = absurd (false≢true has)
xfcb_by user name (Kept bytes) has = absurd (false≢true has)

xfcb_once : (kind : Kind) (entries : List Entry) (a c user : ℕ) (name : List ℕ) → first_fault kind entries ≡ None → a < c → c < length entries
    → is_xfcb user name (get_or entries a Free) ≡ true → is_xfcb user name (get_or entries c Free) ≡ true → ⊥
xfcb_once kind entries a c user name faultless less h ha hc =
    let by = xfcb_by user name (get_or entries c Free) hc in
    let none : list_any (is_xfcb by.xfcb.user (plain by.xfcb.name)) (take c entries) ≡ false =
    none_if (list_any (is_xfcb by.xfcb.user (plain by.xfcb.name)) (take c entries)) 8 (ap (cause_of kind (take c entries)) (sym by.is) ∙ faultless_at kind entries c faultless h) in
    let was : is_xfcb by.xfcb.user (plain by.xfcb.name) (get_or entries a Free) ≡ true =
    ap (λ (u : ℕ). is_xfcb u (plain by.xfcb.name) (get_or entries a Free)) by.user_is ∙ ap (λ (n : List ℕ). is_xfcb user n (get_or entries a Free)) by.name_is ∙ ha in
    both_ways (list_any (is_xfcb by.xfcb.user (plain by.xfcb.name)) (take c entries)) none
    (any_earlier (is_xfcb by.xfcb.user (plain by.xfcb.name)) entries a c less (omega arith) was)

pub xfcbs_differ : (kind : Kind) (entries : List Entry) (a c user : ℕ) (name : List ℕ) → first_fault kind entries ≡ None → a < length entries → c < length entries
    → is_xfcb user name (get_or entries a Free) ≡ true → is_xfcb user name (get_or entries c Free) ≡ true → a ≡ c
xfcbs_differ kind entries a c user name faultless h k ha hc = elim (cases_order a c) [
  | inl same ↦ same
  | inr apart ↦ elim apart [
    | inl less ↦ absurd (xfcb_once kind entries a c user name faultless less k ha hc)
    | inr more ↦ absurd (xfcb_once kind entries c a user name faultless more h hc ha)
  ]
]

pub xfcb_alone : (kind : Kind) (entries : List Entry) (slot user : ℕ) (name : List ℕ) → first_fault kind entries ≡ None → slot < length entries
    → is_xfcb user name (get_or entries slot Free) ≡ true → list_any (is_xfcb user name) (others entries slot) ≡ false
xfcb_alone kind entries slot user name faultless h here =
    others_none (is_xfcb user name) entries slot Free (λ k less apart.
    false_from_ne_true (is_xfcb user name (get_or entries k Free)) (λ has. apart (xfcbs_differ kind entries k slot user name faultless less h has here)))

-- labels
pub record LabelBy (entry : Entry) : Type 0 where
  pub label : LabelEntry
  pub is : entry ≡ Label label

pub label_by : (entry : Entry) → is_label entry ≡ true → LabelBy entry
label_by (Label l) has = record { label = l; is = refl }
label_by (File f) has = absurd (false≢true has)
label_by Free has = absurd (false≢true has)
label_by (Xfcb x) has = absurd (false≢true has)
label_by (Kept bytes) has = absurd (false≢true has)

label_once : (kind : Kind) (entries : List Entry) (a c : ℕ) → first_fault kind entries ≡ None → a < c → c < length entries → is_label (get_or entries a Free) ≡ true
    → is_label (get_or entries c Free) ≡ true → ⊥
label_once kind entries a c faultless less h ha hc =
    let by = label_by (get_or entries c Free) hc in
    let none : list_any is_label (take c entries) ≡ false =
    none_if (list_any is_label (take c entries)) 7 (ap (cause_of kind (take c entries)) (sym by.is) ∙ faultless_at kind entries c faultless h) in
    both_ways (list_any is_label (take c entries)) none (any_earlier is_label entries a c less (omega arith) ha)

pub labels_differ : (kind : Kind) (entries : List Entry) (a c : ℕ) → first_fault kind entries ≡ None → a < length entries → c < length entries
    → is_label (get_or entries a Free) ≡ true → is_label (get_or entries c Free) ≡ true → a ≡ c
labels_differ kind entries a c faultless h k ha hc = elim (cases_order a c) [
  | inl same ↦ same
  | inr apart ↦ elim apart [
    | inl less ↦ absurd (label_once kind entries a c faultless less k ha hc)
    | inr more ↦ absurd (label_once kind entries c a faultless more h hc ha)
  ]
]

pub label_alone : (kind : Kind) (entries : List Entry) (slot : ℕ) → first_fault kind entries ≡ None → slot < length entries → is_label (get_or entries slot Free) ≡ true
    → list_any is_label (others entries slot) ≡ false
label_alone kind entries slot faultless h here =
    others_none is_label entries slot Free (λ k less apart.
    false_from_ne_true (is_label (get_or entries k Free)) (λ has. apart (labels_differ kind entries k slot faultless less h has here)))
