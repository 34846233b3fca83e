-- An open file that a call names is its caller's own, of the name by which it is named, and of a user 0 to 15.
use Rattle.std.proofs.Common.{◌≡◌, ◌∙◌, ℕ, ◌==◌, ◌&&◌, Bool, true, false, cond, List, Option, Some, None, refl, sym, ap, ◌<◌, IfSome, subst, arith}
use Rattle.std.specs.Prelude.{bytes_eq, unwrap_or}
use Rattle.std.proofs.lemmas.Option.{same_Some}
use Rattle.std.proofs.lemmas.Slice.Eq.{bytes_eq-Decides}
use Rattle.mpm_dirent.specs.Names.{plain}
use Rattle.mpm_opens.specs.declared.kinds.FileKey.{FileKey}
use Rattle.mpm_opens.specs.declared.kinds.Item.{Item}
use Rattle.mpm_opens.specs.declared.kinds.Mode.{Mode}
use Rattle.mpm_opens.specs.Items.{place_at, is_named, file_where, file_named, blank_item}
use Rattle.mpm_opens.specs.Opens.{OpenFiles, item_of}
use Rattle.mpm_opens.proofs.FindingLaws.{is_named_item}
use Rattle.mpm_refusals.specs.declared.subjects.OpenItem.{OpenItem}
use Rattle.mpm_refusals.specs.Asking.{IsOwnItem}
use Rattle.mpm_refusals.specs.Filing.{HaveUsers}

-- an open file that a call names is the caller's own, and has the name by which it is named
chosen_name : (mine here : Bool) (file key : FileKey) (name : List ℕ) → cond (mine && (here && bytes_eq file.name name)) (Some file) None ≡ Some key → key.name ≡ name
chosen_name true true file key name e = by_test (bytes_eq file.name name) refl e
  where
    by_test : (b : Bool) → bytes_eq file.name name ≡ b → cond b (Some file) None ≡ Some key → key.name ≡ name
    by_test true is e = ap (λ (k : FileKey). k.name) (sym (same_Some file key e)) ∙ (bytes_eq-Decides file.name name).0 is
    by_test false is e = absurd (cc)
chosen_name true false file key name e = absurd (cc)
chosen_name false here file key name e = absurd (cc)

name_where : (p drive : ℕ) (name : List ℕ) (key : FileKey) (place : Option Item) → file_where (is_named p drive name) place ≡ Some key → key.name ≡ name
name_where p drive name key None is = absurd (cc)
name_where p drive name key (Some item) is = chosen_name (item.process == p) (item.file.drive == drive) item.file key name is

pub own_named : (opens : OpenFiles) (p number drive : ℕ) (name : List ℕ) (key : FileKey) (mode : Mode) → plain name ≡ name → file_named opens.items p number drive name ≡ Some key
    → IsOwnItem opens p (record { number = number; file = key; mode = mode })
unfolding file_named
own_named opens p number drive name key mode plainly is =
    let named : key.name ≡ name = name_where p drive name key (place_at opens.items number) is in
    record { its = is_named_item opens p number drive name key is; named = ap plain named ∙ plainly ∙ sym named }

-- what stands at a place
abbrev pub HasUser : Option Item → Type 0
HasUser place = IfSome place (λ item. item.file.user < 16)

-- an item by its number, and the one that stands for nothing
user_of : (place : Option Item) → HasUser place → (unwrap_or place blank_item).file.user < 16
user_of None so = omega arith
user_of (Some item) so = so

pub user_at : (opens : OpenFiles) (number : ℕ) → HaveUsers opens → (item_of opens number).file.user < 16
user_at opens number users = user_of (place_at opens.items number) (users number)

-- an open file that a call names
pub own_user : (opens : OpenFiles) (p : ℕ) (item : Option OpenItem) → HaveUsers opens → IfSome item (λ item. IsOwnItem opens p item) → IfSome item (λ item. item.file.user < 16)
own_user opens p None users own = tt
own_user opens p (Some item) users own = subst (λ (file : FileKey). file.user < 16) own.its.its_file (user_at opens item.number users)
