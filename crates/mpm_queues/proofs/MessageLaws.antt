-- The messages that a ring of bytes stands for.
use Rattle.std.proofs.Common.{◌≡◌, ◌∙◌, ◌⊎◌, inl, inr, ℕ, zero, suc, ◌+◌, ◌-◌, ◌*◌, ◌<◌, ◌≤◌, List, [], ◌∷◌, ◌++◌, length, take, drop, replicate, get_or, min, Option, None, false, ◌==◌, refl, sym, ap, arith}
use Rattle.std.proofs.Math.Nat.{suc-mul, mul_comm}
use Rattle.std.proofs.Math.Seq.{take-append_seam}
use Rattle.std.proofs.lemmas.Nat.{mul-le}
use Rattle.std.proofs.lemmas.Bool.{cases_lt}
use Rattle.std.proofs.lemmas.Bool.Decides.{nat_tests}
use Rattle.std.specs.List.{AllByRecursion}
use Rattle.std.proofs.lemmas.List.{take-append-le, drop-append-le, length-drop, length-take, length-append, take-replicate, take-take, append-nil, append_assoc, take_all, drop_all}
use Rattle.circular_buffer.specs.Buffer.{Buffer, buffer}
use Rattle.mpm_base.specs.Lists.{in_width}
use Rattle.mpm_base.specs.declared.number.Name8.{Name8}
use Rattle.mpm_base.proofs.Widths.{length_in_width}
use Rattle.mpm_queues.specs.Queue.{shortened, first_message, with_message}
use Rattle.mpm_queues.specs.Messages.{parted, queue_of, IsStore}

-- as many as are counted
pub length_parted : (n width : ℕ) (bytes : List ℕ) → length (parted n width bytes) ≡ n
unfolding parted
length_parted zero width bytes = refl
length_parted (suc n) width bytes = ap suc (length_parted n width (drop width bytes))

-- the first one, and the rest
pub first_parted : (n width : ℕ) (bytes : List ℕ) → 0 < n → get_or (parted n width bytes) 0 [] ≡ take width bytes
unfolding parted
first_parted zero width bytes some = absurd (omega (arith, some))
first_parted (suc n) width bytes some = refl

pub rest_parted : (n width : ℕ) (bytes : List ℕ) → 0 < n → drop 1 (parted n width bytes) ≡ parted (n - 1) width (drop width bytes)
unfolding parted
rest_parted zero width bytes some = absurd (omega (arith, some))
rest_parted (suc n) width bytes some =
    let one : suc n - 1 ≡ n = omega arith in
    ap (λ (m : ℕ). parted m width (drop width bytes)) (sym one)

-- one more
more_bytes : (n width left : ℕ) → left ≡ suc n * width → (width ≤ left) × (left - width ≡ n * width)
more_bytes n width left is = (omega (arith, suc-mul n width), omega (arith, suc-mul n width))

pub parted_more : (n width : ℕ) (bytes message : List ℕ) → length bytes ≡ n * width → length message ≡ width → parted (n + 1) width (bytes ++ message) ≡ parted n width bytes ++ message ∷ []
unfolding parted
parted_more zero width [] message is one = ap (λ (m : List ℕ). m ∷ []) (take_all width message (omega (arith, one)))
parted_more zero width (b ∷ bytes) message is one = absurd (omega (arith, is))
parted_more (suc n) width bytes message is one =
    let part = more_bytes n width (length bytes) is in
    let next : suc n + 1 ≡ suc (n + 1) = omega arith in
    let rest = parted_more n width (drop width bytes) message (length-drop width bytes ∙ part.1) one in
    ap (λ (k : ℕ). parted k width (bytes ++ message)) next
    ∙ ap (λ (m : List ℕ). m ∷ parted (n + 1) width (drop width (bytes ++ message))) (take-append-le width bytes message part.0)
    ∙ ap (λ (bs : List ℕ). take width bytes ∷ parted (n + 1) width bs) (drop-append-le width bytes message part.0)
    ∙ ap (λ (ms : List (List ℕ)). take width bytes ∷ ms) rest

-- all of them have the length
pub widths_parted : (n width : ℕ) (bytes : List ℕ) → length bytes ≡ n * width → AllByRecursion (λ message. length message ≡ width) (parted n width bytes)
unfolding parted
widths_parted zero width bytes is = tt
widths_parted (suc n) width bytes is =
    let part = more_bytes n width (length bytes) is in
    let min_is = length-take width bytes in
    (omega (arith, part.0, min_is), widths_parted n width (drop width bytes) (length-drop width bytes ∙ part.1))

-- a store of which a message is taken out: the message is there whole
pub few_bytes : (width count stored : ℕ) (bytes : Buffer ℕ) → IsStore width count stored bytes → 0 < stored → (width ≤ length bytes.items) × (length bytes.items - width ≡ (stored - 1) * width)
few_bytes width count zero bytes store some = absurd (omega (arith, some))
few_bytes width count (suc n) bytes store some =
    let part = more_bytes n width (length bytes.items) store.items in
    let one : suc n - 1 ≡ n = omega arith in
    (part.0, part.1 ∙ ap (λ (k : ℕ). k * width) (sym one))

-- the bytes taken, as many as a message has
abbrev pub IsTaken : (width count stored : ℕ) (bytes new : Buffer ℕ) → ℕ → Type 0
IsTaken width count stored bytes new taken =
    IsStore width count stored bytes × (0 < stored) × (taken ≡ min width (length bytes.items)) × (new ≡ buffer (drop taken bytes.items) bytes.capacity)

taken_width : (width count stored : ℕ) (bytes new : Buffer ℕ) (taken : ℕ) → IsTaken width count stored bytes new taken → taken ≡ width
taken_width width count stored bytes new taken h =
    let fits = (few_bytes width count stored bytes h.0 h.1).0 in
    omega (arith, h.2, fits)

pub store_shortened : (width count stored : ℕ) (bytes new : Buffer ℕ) (taken : ℕ) → IsTaken width count stored bytes new taken → IsStore width count (stored - 1) new
store_shortened width count stored bytes new taken h =
    let whole = taken_width width count stored bytes new taken h in
    let few = few_bytes width count stored bytes h.0 h.1 in
    let items = ap (λ (b : Buffer ℕ). length b.items) h.3 in
    let room = (h.0).room in
    record {
      capacity = ap (λ (b : Buffer ℕ). b.capacity) h.3 ∙ (h.0).capacity;
      items = items ∙ length-drop taken bytes.items ∙ ap (λ (k : ℕ). length bytes.items - k) whole ∙ few.1;
      room = omega arith;
      few = (h.0).few;
    }

pub queue_shortened : (name : Name8) (width count stored : ℕ) (holder : Option ℕ) (bytes new : Buffer ℕ) (taken : ℕ) → IsTaken width count stored bytes new taken → queue_of name width count (stored - 1) holder new ≡ shortened (queue_of name width count stored holder bytes)
unfolding shortened
queue_shortened name width count stored holder bytes new taken h =
    let whole = taken_width width count stored bytes new taken h in
    let items : new.items ≡ drop width bytes.items = ap (λ (b : Buffer ℕ). b.items) h.3 ∙ ap (λ (k : ℕ). drop k bytes.items) whole in
    let rest = ap (parted (stored - 1) width) items ∙ sym (rest_parted stored width bytes.items h.1) in
    ap (λ (ms : List (List ℕ)). record { name = name; width = width; count = count; messages = ms; holder = holder }) rest

-- the message that was taken
pub taken_first : (name : Name8) (width count stored : ℕ) (holder : Option ℕ) (bytes new : Buffer ℕ) (taken : ℕ) (old into : List ℕ) → IsTaken width count stored bytes new taken → length old ≡ width → into ≡ take taken bytes.items ++ drop taken old → into ≡ first_message (queue_of name width count stored holder bytes)
unfolding first_message
taken_first name width count stored holder bytes new taken old into h size is =
    let whole = taken_width width count stored bytes new taken h in
    is ∙ ap (λ (xs : List ℕ). take taken bytes.items ++ xs) (drop_all taken old (omega arith)) ∙ append-nil (take taken bytes.items)
    ∙ ap (λ (k : ℕ). take k bytes.items) whole ∙ sym (first_parted stored width bytes.items h.1)

-- there is a message exactly where some are counted
pub counted : (stored width : ℕ) (bytes : List ℕ) → (length (parted stored width bytes) == 0) ≡ false → 0 < stored
counted stored width bytes some = grind (arith, nat_tests, length_parted stored width bytes)

-- a message that is there has room in the ring
pub width_few : (width count stored : ℕ) (bytes : Buffer ℕ) → IsStore width count stored bytes → (length (parted stored width bytes.items) == 0) ≡ false → width ≤ 2048
width_few width count stored bytes store some =
    let fits = (few_bytes width count stored bytes store (counted stored width bytes.items some)).0 in
    let all = mul-le stored width count width store.room (omega arith) in
    let turned = mul_comm count width in
    let items = store.items in
    let few = store.few in
    omega arith

-- where there is room for one message more, the ring has room for its bytes
pub not_all : (count stored width : ℕ) (bytes : List ℕ) → stored ≤ count → (length (parted stored width bytes) == count) ≡ false → stored < count
not_all count stored width bytes room some = grind (arith, nat_tests, length_parted stored width bytes)

pub room_for : (width count stored : ℕ) (bytes : Buffer ℕ) → IsStore width count stored bytes → stored < count → length bytes.items + width ≤ bytes.capacity
room_for width count stored bytes store some =
    let all = mul-le (suc stored) width count width (omega arith) (omega arith) in
    let turned = mul_comm count width in
    let one = suc-mul stored width in
    let items = store.items in
    let few = store.few in
    let capacity = store.capacity in
    omega arith

pub store_longer : (width count stored : ℕ) (bytes new : Buffer ℕ) (message : List ℕ) → IsStore width count stored bytes → stored < count → new ≡ buffer (bytes.items ++ in_width width message) bytes.capacity → IsStore width count (stored + 1) new
store_longer width count stored bytes new message store some is =
    let items = ap (λ (b : Buffer ℕ). length b.items) is in
    let both = length-append bytes.items (in_width width message) in
    let one = length_in_width width message in
    let had = store.items in
    let next = suc-mul stored width in
    let same : stored + 1 ≡ suc stored = omega arith in
    record {
      capacity = ap (λ (b : Buffer ℕ). b.capacity) is ∙ store.capacity;
      items = (let sum : length new.items ≡ suc stored * width = omega arith in sum) ∙ ap (λ (k : ℕ). k * width) (sym same);
      room = omega arith;
      few = store.few;
    }

pub queue_longer : (name : Name8) (width count stored : ℕ) (holder : Option ℕ) (bytes new : Buffer ℕ) (message : List ℕ) → IsStore width count stored bytes → new ≡ buffer (bytes.items ++ in_width width message) bytes.capacity → queue_of name width count (stored + 1) None new ≡ with_message (in_width width message) (queue_of name width count stored holder bytes)
unfolding with_message
queue_longer name width count stored holder bytes new message store is =
    ap (λ (b : Buffer ℕ). queue_of name width count (stored + 1) None b) is
    ∙ ap (λ (ms : List (List ℕ)). record { name = name; width = width; count = count; messages = ms; holder = None }) (parted_more stored width bytes.items (in_width width message) store.items (length_in_width width message))

front_kept : (bytes : List ℕ) (size kept : ℕ) → size ≤ length bytes → kept ≡ min size 12 → (12 < size) ⊎ (size ≤ 12) → take kept bytes ≡ take 12 (take size bytes)
front_kept bytes size kept fits is (inl more) =
    let twelve : kept ≡ 12 = omega arith in
    ap (λ (k : ℕ). take k bytes) twelve ∙ sym (take-take 12 size bytes (omega arith))
front_kept bytes size kept fits is (inr few) =
    let all : kept ≡ size = omega arith in
    ap (λ (k : ℕ). take k bytes) all ∙ sym (take_all 12 (take size bytes) (omega (arith, length-take size bytes)))

-- the bytes of a call without what follows its user queue control block
pub block_kept : (bytes : List ℕ) (size kept lacking : ℕ) → size ≤ length bytes → kept ≡ min size 12 → lacking ≡ 12 - kept → take kept bytes ++ take lacking (replicate 12 0) ≡ in_width 12 (take size bytes)
unfolding in_width
block_kept bytes size kept lacking fits is lacks =
    let sized = length-take size bytes in
    let zeros : take lacking (replicate 12 0) ≡ replicate (12 - length (take size bytes)) 0 = take-replicate lacking 12 0 (omega arith) ∙ ap (λ (n : ℕ). replicate n 0) (omega arith) in
    let front : take kept bytes ≡ take 12 (take size bytes) = front_kept bytes size kept fits is (cases_lt 12 size) in
    ap (λ (xs : List ℕ). xs ++ take lacking (replicate 12 0)) front ∙ ap (λ (xs : List ℕ). take 12 (take size bytes) ++ xs) zeros

-- a message put after the block of a call
pub given_bytes : (array message afterwards old : List ℕ) (size width : ℕ) → length array ≡ 4096 → size ≤ 4096 → take size array ≡ in_width 12 old → length message ≡ width → take (12 + width) (take 12 array ++ (message ++ afterwards)) ≡ in_width 12 old ++ message
given_bytes array message afterwards old size width whole fits block is =
    let twelve : size ≡ 12 = omega (arith, ap length block, length-take size array, length_in_width 12 old) in
    let front : take 12 array ≡ in_width 12 old = ap (λ (k : ℕ). take k array) (sym twelve) ∙ block in
    let long : length (in_width 12 old ++ message) ≡ 12 + width = length-append (in_width 12 old) message ∙ omega (arith, length_in_width 12 old) in
    ap (λ (xs : List ℕ). take (12 + width) (xs ++ (message ++ afterwards))) front
    ∙ ap (take (12 + width)) (sym (append_assoc (in_width 12 old) message afterwards))
    ∙ ap (λ (k : ℕ). take k ((in_width 12 old ++ message) ++ afterwards)) (sym long)
    ∙ take-append_seam (in_width 12 old ++ message) afterwards

pub first_width : (name : Name8) (width count stored : ℕ) (holder : Option ℕ) (bytes : Buffer ℕ) → IsStore width count stored bytes → 0 < stored → length (first_message (queue_of name width count stored holder bytes)) ≡ width
unfolding first_message
first_width name width count stored holder bytes store some =
    ap length (first_parted stored width bytes.items some) ∙ (let fits = (few_bytes width count stored bytes store some).0 in omega (arith, length-take width bytes.items))
