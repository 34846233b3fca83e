-- What a core's buffers have: its segment first, and room after it.
use Rattle.std.proofs.Common.{◌≡◌, ◌∙◌, ℕ, ◌+◌, ◌*◌, ◌≤◌, List, [], ◌++◌, length, take, drop, sym, ap, arith, take-append-drop, take_all, drop-drop, length-drop, length-take-le}
use Rattle.std.proofs.lemmas.List.{take-append-le}
use Rattle.mpm_base.specs.Lists.{zeros}
use Rattle.mpm_core_file.specs.declared.head.Head.{Head}
use Rattle.mpm_core_file.specs.CoreFiles.{CoreContents, IsHead, IsCore, head_bytes, core_bytes, size_of}
use Rattle.mpm_core.specs.Replaying.{no_core, kept}

pub new_is : (head : Head) (segment common : List ℕ) → head ≡ no_core.head → common ≡ zeros 16384 → kept head segment common ≡ no_core
new_is head segment common is zero =
    ap (λ (h : Head). kept h segment common) is ∙ ap (λ (bytes : List ℕ). record { head = no_core.head; segment = []; common = bytes }) zero

pub filled_is : (head : Head) (buffer segment rest common now : List ℕ) → buffer ≡ segment ++ rest → length segment ≡ 256 * head.spec.pages → now ≡ common
    → kept head buffer now ≡ record { head = head; segment = segment; common = common }
filled_is head buffer segment rest common now is size same =
    let most : 256 * head.spec.pages ≤ length segment = omega (arith, size) in
    let least : length segment ≤ 256 * head.spec.pages = omega (arith, size) in
    let front : take (256 * head.spec.pages) buffer ≡ segment =
    ap (take (256 * head.spec.pages)) is ∙ take-append-le (256 * head.spec.pages) segment rest most ∙ take_all (256 * head.spec.pages) segment least in
    ap (λ bytes. record { head = head; segment = bytes; common = now }) front ∙ ap (λ bytes. record { head = head; segment = segment; common = bytes }) same

-- a file is its head, its segment and common memory
pub read_is : (text : List ℕ) (head : Head) (segment common : List ℕ) (core : CoreContents) → text ≡ head_bytes head ++ drop 51 text
    → segment ≡ take (256 * head.spec.pages) (drop 51 text) → common ≡ drop (51 + 256 * head.spec.pages) text
    → core ≡ record { head = head; segment = segment; common = common } → text ≡ core_bytes core
read_is text head segment common core begins first last is =
    let rest : drop (256 * head.spec.pages) (drop 51 text) ≡ common = drop-drop (256 * head.spec.pages) 51 text ∙ ap (λ n. drop n text) (omega arith) ∙ sym last in
    let parts : drop 51 text ≡ segment ++ common =
    sym (take-append-drop (256 * head.spec.pages) (drop 51 text)) ∙ ap (λ bytes. bytes ++ drop (256 * head.spec.pages) (drop 51 text)) (sym first) ∙ ap (λ bytes. segment ++ bytes) rest in
    begins ∙ ap (λ bytes. head_bytes head ++ bytes) parts ∙ ap core_bytes (sym is)

pub is_read : (text : List ℕ) (head : Head) (segment common : List ℕ) → IsHead head → length text ≡ size_of head.spec.pages
    → segment ≡ take (256 * head.spec.pages) (drop 51 text) → common ≡ drop (51 + 256 * head.spec.pages) text
    → IsCore (record { head = head; segment = segment; common = common })
is_read text head segment common is size first last =
    let after : length (drop 51 text) ≡ 256 * head.spec.pages + 16384 = length-drop 51 text ∙ omega (arith, size) in
    let fits : 256 * head.spec.pages ≤ length (drop 51 text) = omega (arith, after) in
    let left : length (drop (51 + 256 * head.spec.pages) text) ≡ 16384 = length-drop (51 + 256 * head.spec.pages) text ∙ omega (arith, size) in
    record {
      head = is;
      segment = ap length first ∙ length-take-le (256 * head.spec.pages) (drop 51 text) fits;
      common = ap length last ∙ left;
    }
