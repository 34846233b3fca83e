-- What an attach and a write leave of the images that are held.
use Rattle.std.proofs.Common.{◌≡◌, ◌≢◌, ◌⊎◌, ℕ, ◌+◌, ◌*◌, ◌<◌, ◌≤◌, true, false, List, length, Option, Some, None, IfSome, IsSomeAnd, refl, sym, ap, subst, ◌∙◌, inl, inr, arith}
use Rattle.std.specs.Prelude.{slice_set, option_map, is_some, take, drop, ◌++◌}
use Rattle.std.proofs.lemmas.List.{get_or-set_same, get_or-set_other, set-get_or, get_or_past, length-append, length-take, length-drop}
use Rattle.std.proofs.lemmas.Bool.{cases_eq, cases_lt, false≢true}
use Rattle.mpm_port.specs.Disks.{Untold, Attaches, WritesSector, KeepsTold, IsInsideDrive, size_of, with_sector}
use Rattle.mpm_host.specs.Attached.{Held, RealDisks, held_by, disks_in, disks_of, KeepsOtherImages, after_attach, after_write, written_if}

here_after : (held : List (Option Held)) (drive : ℕ) (one : Option Held) → drive < length held → held_by (slice_set held drive one) drive ≡ one
here_after held drive one within = get_or-set_same held drive one None within

other_after : (held : List (Option Held)) (drive other : ℕ) (one : Option Held) → other ≢ drive → held_by (slice_set held drive one) other ≡ held_by held other
other_after held drive other one apart = get_or-set_other held drive other one None apart

-- a drive that holds something is one of them
is_one : (held : List (Option Held)) (drive : ℕ) (one : Held) → held_by held drive ≡ Some one → drive < length held
is_one held drive one is = elim (cases_lt drive (length held)) [
  | inl less ↦ less
  | inr more ↦ absurd (false≢true (ap is_some (sym (get_or_past held drive None more) ∙ is)))
]

there_by : (held : List (Option Held)) (drive sector : ℕ) (o : Option Held) → held_by held drive ≡ o
    → IsInsideDrive (option_map length (option_map (λ h. h.bytes) o)) sector → drive < length held
there_by held drive sector None is inside = absurd inside
there_by held drive sector (Some one) is inside = is_one held drive one is

-- and so is one of which a sector is inside
pub is_there : (held : List (Option Held)) (drive sector : ℕ) → IsInsideDrive (size_of (disks_in held) drive) sector → drive < length held
is_there held drive sector inside = there_by held drive sector (held_by held drive) refl inside

-- a drive that is attached
attaches_held : (disks : RealDisks) (drive : ℕ) (name : List ℕ) (one : Held) → drive < length disks.held → one.name ≡ name
    → Attaches drive name Untold (disks_of disks) (disks_of (after_attach disks drive one))
attaches_held disks drive name one within named =
    let here = here_after disks.held drive (Some one) within in
    record {
      here = ap (option_map (λ h. h.name)) here ∙ ap Some named;
      image = subst (λ (o : Option Held). IsSomeAnd (option_map (λ h. h.bytes) o) (λ b. Unit {0})) (sym here) tt;
      names = λ other apart. ap (option_map (λ h. h.name)) (other_after disks.held drive other (Some one) apart);
      others = λ other apart. ap (option_map (λ h. h.bytes)) (other_after disks.held drive other (Some one) apart);
    }

pub attaches : (disks new : RealDisks) (drive : ℕ) (name : List ℕ) (one : Held) → drive < length disks.held → one.name ≡ name → new ≡ after_attach disks drive one
    → Attaches drive name Untold (disks_of disks) (disks_of new)
attaches disks new drive name one within named is =
    let P : RealDisks → Type 0 = λ d. Attaches drive name Untold (disks_of disks) (disks_of d) in subst P (sym is) (attaches_held disks drive name one within named)

as_long : (image : List ℕ) (sector : ℕ) (bytes : List ℕ) → length bytes ≡ 128 → 128 * sector + 128 ≤ length image → length (with_sector image sector bytes) ≡ length image
as_long image sector bytes h k =
    omega (arith, length-append (take (128 * sector) image) (bytes ++ drop (128 * sector + 128) image), length-append bytes (drop (128 * sector + 128) image), length-take (128 * sector) image, length-drop (128 * sector + 128) image)

writes_held : (held : List (Option Held)) (drive sector : ℕ) (bytes : List ℕ) (one new : Held) → held_by held drive ≡ Some one → new ≡ record one { bytes = with_sector one.bytes sector bytes }
    → length bytes ≡ 128 → 128 * sector + 128 ≤ length one.bytes → WritesSector drive sector bytes (disks_in held) (disks_in (slice_set held drive (Some new)))
writes_held held drive sector bytes one new is new_is wide inside =
    let here = here_after held drive (Some new) (is_one held drive one is) in
    record {
      names = λ other. by_name other (cases_eq other drive);
      here = subst (λ (o : Option Held). IfSome (option_map (λ h. h.bytes) o) (λ image. (disks_in (slice_set held drive (Some new))).image drive ≡ Some (with_sector image sector bytes))) (sym is)
          (ap (option_map (λ h. h.bytes)) here ∙ ap (λ (h : Held). Some h.bytes) new_is);
      others = λ other apart. ap (option_map (λ h. h.bytes)) (other_after held drive other (Some new) (λ same. apart (ap (λ (d : ℕ). option_map (λ h. h.name) (held_by held d)) same)));
      sizes = λ other. by_size other (cases_eq other drive);
    }
  where
    now : held_by (slice_set held drive (Some new)) drive ≡ Some new
    now = here_after held drive (Some new) (is_one held drive one is)

    by_name : (other : ℕ) → (other ≡ drive) ⊎ (other ≢ drive) → option_map (λ h. h.name) (held_by (slice_set held drive (Some new)) other) ≡ option_map (λ h. h.name) (held_by held other)
    by_name other (inl same) =
        subst (λ (d : ℕ). option_map (λ h. h.name) (held_by (slice_set held drive (Some new)) d) ≡ option_map (λ h. h.name) (held_by held d)) (sym same)
        (ap (option_map (λ h. h.name)) now ∙ ap (λ (h : Held). Some h.name) new_is ∙ sym (ap (option_map (λ h. h.name)) is))
    by_name other (inr apart) = ap (option_map (λ h. h.name)) (other_after held drive other (Some new) apart)

    by_size : (other : ℕ) → (other ≡ drive) ⊎ (other ≢ drive) → size_of (disks_in (slice_set held drive (Some new))) other ≡ size_of (disks_in held) other
    by_size other (inl same) =
        subst (λ (d : ℕ). size_of (disks_in (slice_set held drive (Some new))) d ≡ size_of (disks_in held) d) (sym same)
        (ap (λ (o : Option Held). option_map length (option_map (λ h. h.bytes) o)) now ∙ ap (λ (h : Held). Some (length h.bytes)) new_is
        ∙ ap Some (as_long one.bytes sector bytes wide inside) ∙ sym (ap (λ (o : Option Held). option_map length (option_map (λ h. h.bytes) o)) is))
    by_size other (inr apart) = ap (λ (o : Option Held). option_map length (option_map (λ h. h.bytes) o)) (other_after held drive other (Some new) apart)

writes_by : (held : List (Option Held)) (drive sector : ℕ) (bytes : List ℕ) (o : Option Held) → held_by held drive ≡ o → length bytes ≡ 128
    → IsInsideDrive (option_map length (option_map (λ h. h.bytes) o)) sector → WritesSector drive sector bytes (disks_in held) (disks_in (slice_set held drive (written_if o sector bytes true)))
writes_by held drive sector bytes None is wide inside = absurd inside
writes_by held drive sector bytes (Some one) is wide inside = writes_held held drive sector bytes one _ is refl wide inside

-- a write that was done
pub writes : (disks : RealDisks) (drive sector : ℕ) (bytes : List ℕ) → length bytes ≡ 128 → IsInsideDrive (size_of (disks_of disks) drive) sector
    → WritesSector drive sector bytes (disks_of disks) (disks_of (after_write disks drive sector bytes true))
writes disks drive sector bytes wide inside = writes_by disks.held drive sector bytes (held_by disks.held drive) refl wide inside

pub writes_beside : (disks : RealDisks) (drive sector : ℕ) (bytes : List ℕ) → KeepsOtherImages drive (disks_of disks) (disks_of (after_write disks drive sector bytes true))
writes_beside disks drive sector bytes other apart =
    ap (option_map (λ h. h.bytes)) (other_after disks.held drive other (written_if (held_by disks.held drive) sector bytes true) apart)

same_if : (sector : ℕ) (bytes : List ℕ) (o : Option Held) → written_if o sector bytes false ≡ o
same_if sector bytes None = refl
same_if sector bytes (Some one) = refl

-- and one that was not
pub writes_none : (disks : RealDisks) (drive sector : ℕ) (bytes : List ℕ) → disks_of (after_write disks drive sector bytes false) ≡ disks_of disks
writes_none disks drive sector bytes =
    ap disks_in (ap (slice_set disks.held drive) (same_if sector bytes (held_by disks.held drive)) ∙ set-get_or disks.held drive None)

pub untold_still : (name : Option (List ℕ)) → KeepsTold name (λ n. Untold) (λ n. Untold)
untold_still name = record { others = λ other apart. refl; still = λ other h. h }
