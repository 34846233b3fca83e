-- Worked examples, by computation.
use Rattle.std.proofs.Common.{◌≡◌, ℕ, List, [], ◌∷◌, refl}
use Rattle.mpm_guard.specs.declared.admission.TheConstants.{PASSWORDS}
use Rattle.mpm_guard.specs.Passwords.{decode_byte, decoded}

-- the password SECRET and two spaces
abbrev secret : List ℕ
secret = 83 ∷ 69 ∷ 67 ∷ 82 ∷ 69 ∷ 84 ∷ 32 ∷ 32 ∷ []

pub decode_byte_of_secret : decode_byte secret ≡ 6
decode_byte_of_secret = refl

pub stored_of_secret : decoded 6 secret ≡ 0x26 ∷ 0x26 ∷ 0x52 ∷ 0x43 ∷ 0x54 ∷ 0x45 ∷ 0x43 ∷ 0x55 ∷ []
unfolding decoded
stored_of_secret = refl

-- passwords hold by the highest bit of the label's data byte
pub passwords_bit : PASSWORDS ≡ 0x80
passwords_bit = refl
