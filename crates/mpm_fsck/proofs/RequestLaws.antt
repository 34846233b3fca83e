-- Laws of the words of a request.
use Rattle.std.proofs.Common.{◌≡◌, ◌≢◌, ℕ, List, [], ◌∷◌, Option, Some, None, length, refl, arith}
use Rattle.mpm_base.specs.declared.kind.Kind.{Kind}
use Rattle.mpm_fsck.specs.Requests.{Check, Apply, check_of, apply_of}

-- a kind and names ask what they say

pub check_named : (kind : Kind) (said : Option Kind) (image : List ℕ) → length image ≢ 0 → said ≡ Some kind → check_of said image ≡ Some (Check kind image)
unfolding check_of
check_named kind said [] named is = absurd (named refl)
check_named kind said (byte ∷ image) named is = rw is refl

pub apply_named : (kind : Kind) (said : Option Kind) (image list : List ℕ) → length image ≢ 0 → length list ≢ 0 → said ≡ Some kind → apply_of said image list ≡ Some (Apply kind image list)
unfolding apply_of
apply_named kind said [] list named listed is = absurd (named refl)
apply_named kind said (byte ∷ image) [] named listed is = absurd (listed refl)
apply_named kind said (byte ∷ image) (first ∷ list) named listed is = rw is refl

-- without a kind, or with an empty name, they ask nothing

pub check_unknown : (said : Option Kind) (image : List ℕ) → said ≡ None → check_of said image ≡ None
unfolding check_of
check_unknown said image none = rw none refl

pub check_unnamed : (said : Option Kind) (image : List ℕ) → length image ≡ 0 → check_of said image ≡ None
unfolding check_of
check_unnamed None image none = refl
check_unnamed (Some kind) [] none = refl
check_unnamed (Some kind) (byte ∷ image) none = absurd (omega arith)

pub apply_unknown : (said : Option Kind) (image list : List ℕ) → said ≡ None → apply_of said image list ≡ None
unfolding apply_of
apply_unknown said image list none = rw none refl

pub apply_unnamed : (said : Option Kind) (image list : List ℕ) → length image ≡ 0 → apply_of said image list ≡ None
unfolding apply_of
apply_unnamed None image list none = refl
apply_unnamed (Some kind) [] list none = refl
apply_unnamed (Some kind) (byte ∷ image) list none = absurd (omega arith)

pub apply_unlisted : (said : Option Kind) (image list : List ℕ) → length list ≡ 0 → apply_of said image list ≡ None
unfolding apply_of
apply_unlisted None image list none = refl
apply_unlisted (Some kind) [] list none = refl
apply_unlisted (Some kind) (byte ∷ image) [] none = refl
apply_unlisted (Some kind) (byte ∷ image) (first ∷ list) none = absurd (omega arith)
