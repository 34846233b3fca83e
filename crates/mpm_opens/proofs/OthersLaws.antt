-- What a process does with its open files leaves those of all others.
use Rattle.std.proofs.Common.{◌≡◌, ◌≢◌, ◌∙◌, ℕ, ◌<◌, length, Bool, true, false, not, ◌==◌, ◌&&◌, if◌then◌else◌, List, Option, Some, None, sym, refl, ap, subst, ne_eqb}
use Rattle.std.proofs.lemmas.List.Folds.{list_any_at}
use Rattle.std.specs.Prelude.{nat_lt, slice_set}
use Rattle.std.proofs.lemmas.Bool.{true≢false, and_parts, eqb-true}
use Rattle.std.proofs.lemmas.Option.{same_Some}
use Rattle.mpm_base.proofs.Choices.{either}
use Rattle.mpm_opens.specs.declared.kinds.FileKey.{FileKey}
use Rattle.mpm_opens.specs.declared.kinds.Mode.{Mode}
use Rattle.mpm_opens.specs.declared.kinds.Mode.TheVariants.{Locked, Unlocked, ReadOnly}
use Rattle.mpm_opens.specs.declared.kinds.Item.{Item}
use Rattle.mpm_opens.specs.declared.kinds.OpenRefused.{OpenRefused}
use Rattle.mpm_opens.specs.Kinds.{is_same_file, is_same_mode, do_modes_go_together, is_file}
use Rattle.mpm_opens.specs.Items.{has_item, place_at, item_at, number_of, is_anothers_of, have_others, opened_again, closed_once, that_wrote, with_changed, new_item, first_free, refusal_of, opened_at, opened, where_granted, items_added, is_given_back, left_in, items_without}
use Rattle.mpm_opens.specs.Opens.{OpenFiles, process_of, file_of, item_of, added, given_back, closed_at, closed, written_at, written, locked, unlocked, with_its_item, exclude_each_other, AreItems, LeavesOthers}
use Rattle.mpm_opens.proofs.Keys.{file_is_itself}
use Rattle.mpm_opens.proofs.ItemLaws.{stands_within, at_same, at_other, place_left}
use Rattle.mpm_opens.proofs.OpeningLaws.{item_stands, may_open, free_place}

-- nothing is done, and one change after another
pub leaves_same : (p : ℕ) (opens : OpenFiles) → LeavesOthers p opens opens
leaves_same p opens = record { stays = λ number item is other. is; was = λ number item is other. is }

pub leaves_after : (p : ℕ) (a b c : OpenFiles) → LeavesOthers p a b → LeavesOthers p b c → LeavesOthers p a c
leaves_after p a b c first second =
    record {
      stays = λ number item is other. second.stays number item (first.stays number item is other) other;
      was = λ number item is other. first.was number item (second.was number item is other) other;
    }

-- another item is put in the place of one of the process's own
put_own : (p : ℕ) (items : List (Option Item)) (i : ℕ) (own : Item) (new : Option Item) (k : ℕ) (item : Item) → place_at items i ≡ Some own → own.process ≡ p
    → place_at items k ≡ Some item → item.process ≢ p → place_at (slice_set items i new) k ≡ Some item
put_own p items i own new k item at its is other =
    at_other items i k new (λ same. other (ap (λ (o : Item). o.process) (same_Some item own (sym is ∙ ap (place_at items) same ∙ at)) ∙ its)) ∙ is

own_put : (p : ℕ) (items : List (Option Item)) (i : ℕ) (new : Item) (k : ℕ) (item : Item) → i < length items → new.process ≡ p
    → place_at (slice_set items i (Some new)) k ≡ Some item → item.process ≢ p → place_at items k ≡ Some item
own_put p items i new k item within its is other =
    sym (at_other items i k (Some new)
    (λ same. other (ap (λ (o : Item). o.process) (same_Some item new (sym is ∙ ap (place_at (slice_set items i (Some new))) same ∙ at_same items i (Some new) within)) ∙ its)))
    ∙ is

found_own : (items : List (Option Item)) (p : ℕ) (file : FileKey) (i : ℕ) → number_of items p file ≡ Some i
    → (place_at items i ≡ Some (item_at items i)) × ((item_at items i).process ≡ p)
found_own items p file i e =
    let stands = item_stands items p file i e in
    (stands.0, eqb-true (item_at items i).process p (and_parts ((item_at items i).process == p) (is_same_file (item_at items i).file file) stands.1).0)

-- a file is opened
opened_leaves : (items : List (Option Item)) (p : ℕ) (file : FileKey) (mode : Mode) → refusal_of items p file mode ≡ None
    → (k : ℕ) (item : Item) → place_at items k ≡ Some item → item.process ≢ p → place_at (opened items p file mode) k ≡ Some item
unfolding opened
opened_leaves items p file mode may k item is other = by_number (number_of items p file) refl
  where
    taken : place_at items (first_free items) ≡ None → k ≢ first_free items
    taken free same = let none : Some item ≡ None = sym is ∙ ap (place_at items) same ∙ free in absurd (cc)

    by_number : (o : Option ℕ) → number_of items p file ≡ o → place_at (opened_at items p file mode o) k ≡ Some item
    by_number (Some i) e =
        let own = found_own items p file i e in
        put_own p items i (item_at items i) (Some (opened_again (item_at items i))) k item own.0 own.1 is other
    by_number None e =
        let free = free_place items (may_open items p file mode may).room in
        at_other items (first_free items) k (Some (new_item p file mode)) (taken free.1) ∙ is

opened_was : (items : List (Option Item)) (p : ℕ) (file : FileKey) (mode : Mode) → refusal_of items p file mode ≡ None
    → (k : ℕ) (item : Item) → place_at (opened items p file mode) k ≡ Some item → item.process ≢ p → place_at items k ≡ Some item
unfolding opened
opened_was items p file mode may k item is other = by_number (number_of items p file) refl is
  where
    by_number : (o : Option ℕ) → number_of items p file ≡ o → place_at (opened_at items p file mode o) k ≡ Some item → place_at items k ≡ Some item
    by_number (Some i) e is =
        let own = found_own items p file i e in
        own_put p items i (opened_again (item_at items i)) k item (stands_within items i (item_at items i) own.0) own.1 is other
    by_number None e is = own_put p items (first_free items) (new_item p file mode) k item (free_place items (may_open items p file mode may).room).0 refl is other

pub added_leaves : (opens : OpenFiles) (p : ℕ) (file : FileKey) (mode : Mode) → LeavesOthers p opens (added opens p file mode)
unfolding added items_added
added_leaves opens p file mode = record {
  stays = λ k item is other. by_refusal k item is other (refusal_of opens.items p file mode) refl;
  was = λ k item is other. by_refused k item other (refusal_of opens.items p file mode) refl is;
}
  where
    by_refusal : (k : ℕ) (item : Item) → place_at opens.items k ≡ Some item → item.process ≢ p → (o : Option OpenRefused) → refusal_of opens.items p file mode ≡ o
        → place_at (where_granted o (opened opens.items p file mode) opens.items) k ≡ Some item
    by_refusal k item is other (Some refusal) e = is
    by_refusal k item is other None e = opened_leaves opens.items p file mode e k item is other

    by_refused : (k : ℕ) (item : Item) → item.process ≢ p → (o : Option OpenRefused) → refusal_of opens.items p file mode ≡ o
        → place_at (where_granted o (opened opens.items p file mode) opens.items) k ≡ Some item → place_at opens.items k ≡ Some item
    by_refused k item other (Some refusal) e is = is
    by_refused k item other None e is = opened_was opens.items p file mode e k item is other

-- files are given back
others_left : (p : ℕ) (among : FileKey → Bool) (item : Item) → item.process ≢ p → left_in p among (Some item) ≡ Some item
others_left p among item other = ap (λ own. if own && among item.file then None else Some item) (ne_eqb item.process p other)

was_there : (place : Option Item) (item : Item) (gone : Bool) → (if gone then None else place) ≡ Some item → place ≡ Some item
was_there place item true is = absurd (cc)
was_there place item false is = is

pub given_back_leaves : (opens : OpenFiles) (p : ℕ) (among : FileKey → Bool) → LeavesOthers p opens (given_back opens p among)
unfolding given_back items_without
given_back_leaves opens p among =
    record {
      stays = λ k item is other. place_left opens.items p among k ∙ ap (left_in p among) is ∙ others_left p among item other;
      was = λ k item is other. was_there (place_at opens.items k) item (has_item (is_given_back p among) (place_at opens.items k)) (sym (place_left opens.items p among k) ∙ is);
    }

-- what is done with the process's item of a file
changed_leaves : (change : Item → Item) (opens : OpenFiles) (p i : ℕ) → (place_at opens.items i ≡ Some (item_at opens.items i)) × ((item_at opens.items i).process ≡ p)
    → (change (item_at opens.items i)).process ≡ p → LeavesOthers p opens (record opens { items = with_changed change opens.items i })
changed_leaves change opens p i own its =
    record {
      stays = λ k item is other. put_own p opens.items i (item_at opens.items i) (Some (change (item_at opens.items i))) k item own.0 own.1 is other;
      was = λ k item is other. own_put p opens.items i (change (item_at opens.items i)) k item (stands_within opens.items i (item_at opens.items i) own.0) its is other;
    }

by_item : (change : OpenFiles → ℕ → OpenFiles) (opens : OpenFiles) (p : ℕ) (file : FileKey)
    → ((i : ℕ) → (place_at opens.items i ≡ Some (item_at opens.items i)) × ((item_at opens.items i).process ≡ p) → LeavesOthers p opens (change opens i))
    → LeavesOthers p opens (with_its_item change opens (number_of opens.items p file))
by_item change opens p file each = by_number (number_of opens.items p file) refl
  where
    by_number : (o : Option ℕ) → number_of opens.items p file ≡ o → LeavesOthers p opens (with_its_item change opens o)
    by_number None e = leaves_same p opens
    by_number (Some i) e = each i (found_own opens.items p file i e)

pub closed_leaves : (opens : OpenFiles) (p : ℕ) (file : FileKey) → LeavesOthers p opens (closed opens p file)
unfolding closed closed_at
closed_leaves opens p file =
    by_item closed_at opens p file (λ i own.
    either (LeavesOthers p opens) (nat_lt 1 (item_of opens i).count) (record opens { items = with_changed closed_once opens.items i })
    (given_back opens (process_of opens i) (is_file (file_of opens i)))
    (λ more. changed_leaves closed_once opens p i own own.1)
    (λ last. subst (λ q. LeavesOthers p opens (given_back opens q (is_file (file_of opens i)))) (sym own.1) (given_back_leaves opens p (is_file (file_of opens i)))))

pub written_leaves : (opens : OpenFiles) (p : ℕ) (file : FileKey) → LeavesOthers p opens (written opens p file)
unfolding written written_at
written_leaves opens p file = by_item written_at opens p file (λ i own. changed_leaves that_wrote opens p i own own.1)

-- locks are no items
pub items_leave : (p : ℕ) (old new : OpenFiles) → new.items ≡ old.items → LeavesOthers p old new
items_leave p old new same = record {
  stays = λ k item is other. ap (λ items. place_at items k) same ∙ is;
  was = λ k item is other. ap (λ items. place_at items k) (sym same) ∙ is;
}

pub locked_leaves : (opens : OpenFiles) (p : ℕ) (file : FileKey) (number : ℕ) → LeavesOthers p opens (locked opens p file number)
unfolding locked
locked_leaves opens p file number = items_leave p opens _ refl

pub unlocked_leaves : (opens : OpenFiles) (p : ℕ) (file : FileKey) (number : ℕ) → LeavesOthers p opens (unlocked opens p file number)
unfolding unlocked
unlocked_leaves opens p file number = items_leave p opens _ refl

-- who has an item of a file is another to all others
pub others_have : (items : List (Option Item)) (p : ℕ) (file : FileKey) (k : ℕ) (item : Item) → place_at items k ≡ Some item → item.process ≢ p → item.file ≡ file
    → have_others items p file ≡ true
unfolding have_others
others_have items p file k item is other its =
    list_any_at (has_item (is_anothers_of p file)) items k None (stands_within items k item is)
    (ap (has_item (is_anothers_of p file)) is
    ∙ ap (λ own. not own && is_same_file item.file file) (ne_eqb item.process p other)
    ∙ ap (λ f. is_same_file f file) its ∙ file_is_itself file)

-- where a process has a file open in read-only mode, each other one that has it open has it in that mode
read_beside : (mine theirs : Mode) → theirs ≡ ReadOnly → do_modes_go_together mine theirs ≡ true → mine ≡ ReadOnly
read_beside Locked theirs is go = absurd (true≢false (sym go ∙ ap (do_modes_go_together Locked) is))
read_beside Unlocked theirs is go = absurd (true≢false (sym go ∙ ap (do_modes_go_together Unlocked) is))
read_beside ReadOnly theirs is go = refl

goes : (same own one two : Bool) → same ≡ true → own ≡ false → (same && not (if own then one else two)) ≡ false → two ≡ true
goes true false one true s o e = refl
goes true false one false s o e = absurd (true≢false e)
goes true true one two s o e = absurd (true≢false o)
goes false own one two s o e = absurd (true≢false (sym s))

pub both_read : (items : List (Option Item)) (i j : ℕ) (mine theirs : Item) → AreItems items → place_at items i ≡ Some theirs → place_at items j ≡ Some mine
    → mine.process ≢ theirs.process → mine.file ≡ theirs.file → theirs.mode ≡ ReadOnly → mine.mode ≡ ReadOnly
both_read items i j mine theirs sound there here other same read =
    let apart : exclude_each_other (Some theirs) (Some mine) ≡ false =
    ap (λ place. exclude_each_other place (Some mine)) (sym there) ∙ ap (exclude_each_other (place_at items i)) (sym here) ∙ sound.together i j in
    read_beside mine.mode theirs.mode read
    (goes (is_same_file mine.file theirs.file) (mine.process == theirs.process) (is_same_mode mine.mode theirs.mode) (do_modes_go_together mine.mode theirs.mode)
    (ap (λ f. is_same_file f theirs.file) same ∙ file_is_itself theirs.file) (ne_eqb mine.process theirs.process other) apart)
