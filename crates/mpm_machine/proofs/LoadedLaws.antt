-- A program's file comes into the segment that the interpreter reserved: each piece's code is placed, then code is moved by its marks, then
-- the next piece is read. Once the whole file came, its code stands there, moved to the segment's first page.
use Rattle.std.proofs.Common.{◌≡◌, ◌∙◌, ℕ, ◌+◌, ◌-◌, ◌*◌, ◌/◌, ◌%◌, ◌<◌, ◌≤◌, ◌==◌, Bool, true, false, if◌then◌else◌, List, length, min, take, drop, get_or, Option, Some, None, inl, inr, refl, sym, ap, subst, arith, length-take, length-drop}
use Rattle.std.specs.Prelude.{◌⊎◌, nat_lt, is_some}
use Rattle.std.proofs.lemmas.Bool.{cases_lt, false≢true}
use Rattle.std.proofs.lemmas.Bool.Decides.{nat_tests}
use Rattle.std.proofs.lemmas.List.{get_or-take, get_or-drop}
use Rattle.std.proofs.lemmas.List.FromFn.{length-map-range_with_len, get_or-map-range_with_len}
use Rattle.std.proofs.Math.Nat.{mod-eq_of_lt}
use Rattle.z80_regs.specs.Words.{onward}
use Rattle.mpm_base.proofs.Choices.{either}
use Rattle.mpm_base.specs.Calls.{Answer}
use Rattle.mpm_base.specs.declared.segment.SegmentSpec.{SegmentSpec}
use Rattle.mpm_banks.specs.Memory.{Memory, IsMemory, byte_at, with_bytes}
use Rattle.mpm_banks.specs.Ranges.{range_of, range_bytes, put_range}
use Rattle.mpm_banks.specs.declared.range.Range.{Range}
use Rattle.mpm_banks.proofs.RangeBytes.{range_bytes_is, put_range_is}
use Rattle.mpm_banks.proofs.WindowLaws.{byte_at_put_inside, byte_at_put_outside}
use Rattle.mpm_prl.specs.Relocation.{relocated, relocated_byte}
use Rattle.mpm_prl.proofs.Laws.{length_relocated, byte_relocated}
use Rattle.mpm_loader.specs.Pieces.{part, code_in, code_place, marks_in, marked_place, marked_length, has_all, with_piece}
use Rattle.mpm_loader.specs.Plans.{code_end, all_bytes}
use Rattle.mpm_loader.specs.declared.plan.Plan.{Plan}
use Rattle.mpm_loader.proofs.Parts.{within_part, some_marked}
use Rattle.mpm_loader.proofs.Moving.{moved as by_mark}
use Rattle.mpm_residents.specs.Interpreters.{Interpreter, act_at, call_at, next_act, next_call, took, took_at, process_of, last_page, code_address, records_in, with_block, read_on, row_for_piece, row_behind_code, row_behind_marks}
use Rattle.mpm_residents.specs.Standing.{is_loading, StandsIn, AreInPages}
use Rattle.mpm_residents.specs.declared.cli.table.Message.TheVariants.{BadLoad, NoProcess}
use Rattle.mpm_residents.specs.declared.cli.table.Row.{Row}
use Rattle.mpm_residents.specs.declared.cli.table.Row.TheVariants.{ReadCommand, OpenQueue, WriteQueue, SetUser, OpenRelocatable, OpenAbsolute, ReadHeader, ComputeSize, SetUserZero, Reserve, Place, Patch, ReadOn, Free, CloseAfter, Close, Tell, Give, PlaceBasePage, Begin}
use Rattle.mpm_residents.proofs.Filling.{base_page_size}
use Rattle.mpm_residents.proofs.InterpreterLaws.{code_stands_at}
use Rattle.mpm_residents.proofs.StandingLaws.{hands_at}
use Rattle.mpm_system.specs.Loading.{ChangesOnly, moved, moving, placing, beginning, handed_over}
use Rattle.mpm_system.specs.declared.system.System.{System}
use Rattle.mpm_system.proofs.LoadingLaws.{changes_placing, changes_beginning}
use Rattle.mpm_machine.specs.Interpreting.{HasReserved, Interprets}
use Rattle.mpm_machine.specs.Loaded.{IsPieceOf, code_byte, HasCode, HasLoadedAt}
use Rattle.mpm_machine.proofs.InterpretingLaws.{moves_always, range_is_there}

-- what a piece has of a part of the file
part_at : (before low high i : ℕ) (file piece : List ℕ) → IsPieceOf file before piece → i < length (part before low high piece)
    → get_or (part before low high piece) i 0 ≡ get_or file (before + (low - before + i)) 0
unfolding part
part_at before low high i file piece is below =
    let sizes = length-drop (low - before) (take (high - before) piece) in
    let taken = length-take (high - before) piece in
    get_or-drop (low - before) (take (high - before) piece) i 0
    ∙ get_or-take (high - before) piece (low - before + i) 0 (omega (arith, below, sizes, taken))
    ∙ is (low - before + i) (omega (arith, below, sizes, taken))

part_size : (before low high : ℕ) (piece : List ℕ) → length (part before low high piece) ≡ min (high - before) (length piece) - (low - before)
unfolding part
part_size before low high piece = omega (arith, length-drop (low - before) (take (high - before) piece), length-take (high - before) piece)

-- whether a byte was moved

same_test : (n a b : ℕ) → (n < a → n < b) → (n < b → n < a) → nat_lt n a ≡ nat_lt n b
same_test n a b one other = elim (cases_lt n a) [
  | inl less ↦ (let yes : nat_lt n a ≡ true = grind (arith, nat_tests, less) in let also : nat_lt n b ≡ true = grind (arith, nat_tests, one less) in yes ∙ sym also)
  | inr not ↦ elim (cases_lt n b) [
    | inl less ↦ absurd (omega (arith, not, other less))
    | inr neither ↦ (let no : nat_lt n a ≡ false = grind (arith, nat_tests, not) in let nor : nat_lt n b ≡ false = grind (arith, nat_tests, neither) in no ∙ sym nor)
  ]
]

abbrev chosen : Plan → List ℕ → ℕ → ℕ → Bool → ℕ
chosen plan file page place test = if test then relocated_byte (drop plan.start file) (drop (code_end plan) file) page place else get_or (drop plan.start file) place 0

same_byte : (plan : Plan) (file : List ℕ) (page a b place : ℕ) → (code_end plan + place / 8 < a → code_end plan + place / 8 < b)
    → (code_end plan + place / 8 < b → code_end plan + place / 8 < a) → code_byte plan file page a place ≡ code_byte plan file page b place
same_byte plan file page a b place one other = ap (chosen plan file page place) (same_test (code_end plan + place / 8) a b one other)

unmoved : (plan : Plan) (file : List ℕ) (page marked place : ℕ) → marked ≤ code_end plan + place / 8 → code_byte plan file page marked place ≡ get_or (drop plan.start file) place 0
unmoved plan file page marked place not = (let no : nat_lt (code_end plan + place / 8) marked ≡ false = grind (arith, nat_tests, not) in ap (chosen plan file page place) no)

moved_now : (plan : Plan) (file : List ℕ) (page marked place : ℕ) → code_end plan + place / 8 < marked
    → code_byte plan file page marked place ≡ relocated_byte (drop plan.start file) (drop (code_end plan) file) page place
moved_now plan file page marked place less = (let yes : nat_lt (code_end plan + place / 8) marked ≡ true = grind (arith, nat_tests, less) in ap (chosen plan file page place) yes)

-- bytes come to an address, and no other changes
record Writes (old new : Memory) (seg address : ℕ) (bytes : List ℕ) : Type 0 where
  pub inside : (k : ℕ) → k < length bytes → byte_at new seg (address + k) ≡ get_or bytes k 0
  pub outside : (at : ℕ) → (at < address) ⊎ (address + length bytes ≤ at) → byte_at new seg at ≡ byte_at old seg at

writes_range : (memory : Memory) (seg address : ℕ) (range : Range) (bytes : List ℕ) → range_of memory seg address (length bytes) ≡ Some range → 0 < length bytes
    → Writes memory (put_range memory range bytes) seg address bytes
writes_range memory seg address range bytes is some = record {
  inside = λ k below. byte_at_put_inside memory seg address (length bytes) range bytes k is refl below;
  outside = λ at apart. byte_at_put_outside memory seg address (length bytes) range bytes at is refl some apart;
}

-- a piece's code is placed
code_placed : (plan : Plan) (file piece : List ℕ) (before page seg marked : ℕ) (old new : Memory) → IsPieceOf file before piece → marked ≤ before
    → HasCode plan file page seg before marked old → Writes old new seg (256 * page + 256 + (before - plan.start)) (part before plan.start (code_end plan) piece)
    → HasCode plan file page seg (before + length piece) marked new
code_placed plan file piece before page seg marked old new is few h w place within came = elim (cases_lt (plan.start + place) before) [
  | inl earlier ↦ w.outside (256 * page + 256 + place) (inl (omega (arith, earlier))) ∙ h place within earlier
  | inr now ↦
      let i = place - (before - plan.start) in
      let below : i < length (part before plan.start (code_end plan) piece) = omega (arith, part_size before plan.start (code_end plan) piece, within, came, now) in
      let here : 256 * page + 256 + place ≡ 256 * page + 256 + (before - plan.start) + i = omega (arith, now) in
      let at : before + (plan.start - before + i) ≡ plan.start + place = omega (arith, now) in
      ap (byte_at new seg) here
      ∙ w.inside i below
      ∙ part_at before plan.start (code_end plan) i file piece is below
      ∙ ap (λ n. get_or file n 0) at
      ∙ sym (get_or-drop plan.start file place 0)
      ∙ sym (unmoved plan file page marked place (omega (arith, few, now, within)))
]

nothing_placed : (plan : Plan) (file piece : List ℕ) (before page seg marked : ℕ) (memory : Memory) → length (part before plan.start (code_end plan) piece) ≡ 0
    → HasCode plan file page seg before marked memory → HasCode plan file page seg (before + length piece) marked memory
nothing_placed plan file piece before page seg marked memory none h place within came = elim (cases_lt (plan.start + place) before) [
  | inl earlier ↦ h place within earlier
  | inr now ↦ absurd (omega (arith, none, part_size before plan.start (code_end plan) piece, within, came, now))
]

-- code is moved by a piece's marks

code_moved : (plan : Plan) (file piece code : List ℕ) (before page seg : ℕ) (old new : Memory) → IsPieceOf file before piece
    → HasCode plan file page seg (before + length piece) (min before (all_bytes plan)) old
    → length code ≡ min (8 * length (part before (code_end plan) (all_bytes plan) piece)) (plan.length - 8 * (before - code_end plan))
    → ((k : ℕ) → k < length code → get_or code k 0 ≡ byte_at old seg (256 * page + 256 + 8 * (before - code_end plan) + k))
    → Writes old new seg (256 * page + 256 + 8 * (before - code_end plan)) (relocated code (part before (code_end plan) (all_bytes plan) piece) page)
    → HasCode plan file page seg (before + length piece) (min (before + length piece) (all_bytes plan)) new
code_moved plan file piece code before page seg old new is h size reads w place within came =
    let end = code_end plan in
    let all = all_bytes plan in
    let marks = part before end all piece in
    let from = 8 * (before - end) in
    let sizes = part_size before end all piece in
    let long = length_relocated code marks page in
    let before_it = h place within came in
    elim (cases_lt place from) [
      | inl earlier ↦
          w.outside (256 * page + 256 + place) (inl (omega (arith, earlier)))
          ∙ before_it
          ∙ same_byte plan file page (min before all) (min (before + length piece) all) place (λ less. omega (arith, less)) (λ less. omega (arith, less, earlier))
      | inr now ↦ elim (cases_lt place (from + length code)) [
        | inl inside ↦
            let i = place - from in
            let below : i < length code = omega (arith, inside, now) in
            let at : before + (end - before + i / 8) ≡ end + place / 8 = omega (arith, now) in
            let here : 256 * page + 256 + from + i ≡ 256 * page + 256 + place = omega (arith, now) in
            let mark : get_or marks (i / 8) 0 ≡ get_or (drop end file) (place / 8) 0 =
            part_at before end all (i / 8) file piece is (omega (arith, below, size))
            ∙ ap (λ n. get_or file n 0) at
            ∙ sym (get_or-drop end file (place / 8) 0) in
            let byte : get_or code i 0 ≡ get_or (drop plan.start file) place 0 =
            reads i below
            ∙ ap (byte_at old seg) here
            ∙ before_it
            ∙ unmoved plan file page (min before all) place (omega (arith, now)) in
            let bit : i % 8 ≡ place % 8 = omega (arith, now) in
            ap (byte_at new seg) (sym here)
            ∙ w.inside i (omega (arith, below, long))
            ∙ byte_relocated code marks page i below
            ∙ ap (λ n. by_mark n (i % 8) (get_or code i 0) page) mark
            ∙ ap (λ n. by_mark (get_or (drop end file) (place / 8) 0) n (get_or code i 0) page) bit
            ∙ ap (λ n. by_mark (get_or (drop end file) (place / 8) 0) (place % 8) n page) byte
            ∙ sym (moved_now plan file page (min (before + length piece) all) place (omega (arith, below, size, sizes, now)))
        | inr later ↦
            w.outside (256 * page + 256 + place) (inr (omega (arith, later, long)))
            ∙ before_it
            ∙ same_byte plan file page (min before all) (min (before + length piece) all) place (λ less. omega (arith, less)) (λ less. omega (arith, less, later, size, sizes, within))
      ]
    ]

nothing_moved : (plan : Plan) (file piece : List ℕ) (before page seg came : ℕ) (memory : Memory) → length (part before (code_end plan) (all_bytes plan) piece) ≡ 0
    → HasCode plan file page seg came (min before (all_bytes plan)) memory → HasCode plan file page seg came (min (before + length piece) (all_bytes plan)) memory
nothing_moved plan file piece before page seg came memory none h place within there =
    h place within there
    ∙ same_byte plan file page (min before (all_bytes plan)) (min (before + length piece) (all_bytes plan)) place (λ less. omega (arith, less))
    (λ less. omega (arith, less, none, part_size before (code_end plan) (all_bytes plan) piece))

-- the rows

behind_marks : (cli : Interpreter) (file : List ℕ) (memory : Memory) → HasLoadedAt ReadOn cli file memory → HasLoadedAt (row_behind_marks cli.load) cli file memory
unfolding row_behind_marks
behind_marks cli file memory h = either (λ (row : Row). HasLoadedAt row cli file memory) (has_all cli.load) Close ReadOn (λ _. h) (λ _. h)

none_there : (n : ℕ) → nat_lt 0 n ≡ false → n ≡ 0
none_there n none = grind (arith, nat_tests, none)

behind_code : (cli : Interpreter) (file : List ℕ) (memory : Memory) → HasLoadedAt Patch cli file memory → HasLoadedAt (row_behind_code cli.load) cli file memory
unfolding row_behind_code
behind_code cli file memory h =
    let load = cli.load in
    either (λ (row : Row). HasLoadedAt row cli file memory) (nat_lt 0 (length (marks_in load))) Patch (row_behind_marks load) (λ _. h)
    (λ none.
    behind_marks cli file memory
    (nothing_moved load.plan file load.piece load.before cli.spec.base cli.seg (load.before + length load.piece) memory (none_there (length (marks_in load)) none) h))

for_piece : (cli : Interpreter) (file : List ℕ) (memory : Memory) → HasLoadedAt Place cli file memory → HasLoadedAt (row_for_piece cli.load) cli file memory
unfolding row_for_piece
for_piece cli file memory h =
    let load = cli.load in
    either (λ (row : Row). HasLoadedAt row cli file memory) (nat_lt 0 (length (code_in load))) Place (row_behind_code load) (λ _. h)
    (λ none.
    behind_code cli file memory
    (nothing_placed load.plan file load.piece load.before cli.spec.base cli.seg (min load.before (all_bytes load.plan)) memory (none_there (length (code_in load)) none) h))

-- the segment has room for what it places and moves
own_range : (cli : Interpreter) (memory : Memory) (place count : ℕ) → IsMemory memory → HasReserved cli memory → AreInPages cli.spec (code_address cli.spec place) count → 0 < count
    → is_some (range_of memory cli.seg (code_address cli.spec place) count) ≡ true
own_range cli memory place count m has inside some =
    range_is_there memory cli.seg (code_address cli.spec place) count m has.there
    (subst (λ (spec : SegmentSpec). AreInPages spec (code_address cli.spec place) count) (sym has.spec) inside) some

placed_in : (range : Option Range) (memory : Memory) (seg address : ℕ) (bytes : List ℕ) → range_of memory seg address (length bytes) ≡ range → is_some range ≡ true → 0 < length bytes
    → Writes memory (with_bytes memory seg address bytes) seg address bytes
placed_in None memory seg address bytes is some many = absurd (false≢true some)
placed_in (Some range) memory seg address bytes is some many =
    subst (λ (new : Memory). Writes memory new seg address bytes) (put_range_is memory seg address (length bytes) range bytes is refl) (writes_range memory seg address range bytes is many)

first_there : (cli : Interpreter) (row : Row) (place count : ℕ) → StandsIn row cli → is_loading row ≡ true → 0 < count → place + count ≤ cli.load.plan.length
    → code_address cli.spec place ≡ 256 * cli.spec.base + 256 + place
first_there cli row place count s loading some within =
    let lies = s.lies loading in code_stands_at cli.spec cli.load.plan cli.spec.pages place lies.fits (omega arith) lies.below (omega (arith, some, within))

-- as the segment is reserved, and nothing is placed yet
pub loaded_first : (cli : Interpreter) (file : List ℕ) (memory : Memory) → cli.load.before ≡ 0 → HasLoadedAt (row_for_piece cli.load) cli file memory
loaded_first cli file memory first = for_piece cli file memory (λ place within came. absurd (omega (arith, first, came)))

-- a row places a piece's code
loaded_placed : (cli : Interpreter) (file : List ℕ) (memory : Memory) → IsMemory memory → HasReserved cli memory → StandsIn Place cli → IsPieceOf file cli.load.before cli.load.piece
    → HasLoadedAt Place cli file memory
    → HasLoadedAt (row_behind_code cli.load) cli file (with_bytes memory cli.seg (code_address cli.spec (code_place cli.load)) (code_in cli.load))
loaded_placed cli file memory m has s piece h =
    let load = cli.load in
    let code = code_in load in
    let address = code_address cli.spec (code_place load) in
    let new = with_bytes memory cli.seg address code in
    let within = within_part load.before load.plan.start load.plan.length load.piece s.of_row in
    let at = first_there cli Place (code_place load) (length code) s refl s.of_row within in
    let there = own_range cli memory (code_place load) (length code) m has (hands_at Place cli s).1 s.of_row in
    let writes = placed_in (range_of memory cli.seg address (length code)) memory cli.seg address code refl there s.of_row in
    behind_code cli file new
    (code_placed load.plan file load.piece load.before cli.spec.base cli.seg (min load.before (all_bytes load.plan)) memory new piece (omega arith) h
    (subst (λ n. Writes memory new cli.seg n code) at writes))

-- and one moves code
moved_in : (range : Option Range) (cli : Interpreter) (file : List ℕ) (memory : Memory) → StandsIn Patch cli → IsPieceOf file cli.load.before cli.load.piece → HasLoadedAt Patch cli file memory
    → range_of memory cli.seg (code_address cli.spec (marked_place cli.load)) (marked_length cli.load) ≡ range → is_some range ≡ true
    → HasLoadedAt ReadOn cli file (moved range (marks_in cli.load) cli.spec.base memory)
moved_in None cli file memory s piece h is there = absurd (false≢true there)
moved_in (Some range) cli file memory s piece h is there =
    let load = cli.load in
    let page = cli.spec.base in
    let count = marked_length load in
    let marks = marks_in load in
    let address = code_address cli.spec (marked_place load) in
    let some = some_marked load s.file.marks s.of_row in
    let at = first_there cli Patch (marked_place load) count s refl some (omega (arith, some)) in
    let pages = (hands_at Patch cli s).2 in
    let lies = s.lies refl in
    let code = range_bytes memory range in
    let read = range_bytes_is memory cli.seg address count range is in
    let size : length code ≡ count = ap (λ (bytes : List ℕ). length bytes) read ∙ length-map-range_with_len (λ k. byte_at memory cli.seg (onward address k)) 0 count in
    let new = relocated code marks page in
    let long : length new ≡ count = length_relocated code marks page ∙ size in
    let writes = writes_range memory cli.seg address range new (ap (range_of memory cli.seg address) long ∙ is) (omega (arith, long, some)) in
    code_moved load.plan file load.piece code load.before page cli.seg memory (put_range memory range new) piece h size
    (λ k below.
    ap (λ bytes. get_or bytes k 0) read
    ∙ get_or-map-range_with_len (λ n. byte_at memory cli.seg (onward address n)) 0 count k k 0 (omega (arith, below, size)) (omega arith)
    ∙ ap (byte_at memory cli.seg) (mod-eq_of_lt (omega (arith, pages.end, lies.below, below, size)))
    ∙ ap (λ n. byte_at memory cli.seg (n + k)) at)
    (subst (λ n. Writes memory (put_range memory range new) cli.seg n new) at writes)

loaded_moved : (cli : Interpreter) (file : List ℕ) (system : System) → IsMemory system.memory → HasReserved cli system.memory → StandsIn Patch cli
    → IsPieceOf file cli.load.before cli.load.piece → HasLoadedAt Patch cli file system.memory
    → HasLoadedAt (row_behind_marks cli.load) cli file
    (moving cli.seg (code_address cli.spec (marked_place cli.load)) (marked_length cli.load) (marks_in cli.load) cli.spec.base system).memory
loaded_moved cli file system m has s piece h =
    let load = cli.load in
    let memory = system.memory in
    let address = code_address cli.spec (marked_place load) in
    let some = some_marked load s.file.marks s.of_row in
    let there = own_range cli memory (marked_place load) (marked_length load) m has (hands_at Patch cli s).2 some in
    let range = range_of memory cli.seg address (marked_length load) in
    subst (λ (b : Bool). HasLoadedAt (row_behind_marks load) cli file (if b then moved range (marks_in load) cli.spec.base memory else memory)) (sym (moves_always cli s))
    (behind_marks cli file (moved range (marks_in load) cli.spec.base memory) (moved_in range cli file memory s piece h refl there))

-- the next piece comes
pub loaded_read : (cli : Interpreter) (file piece : List ℕ) (memory : Memory) → HasLoadedAt ReadOn cli file memory
    → HasLoadedAt (read_on piece cli).row (read_on piece cli) file memory
unfolding with_piece
loaded_read cli file piece memory h =
    let next = record cli { row = row_for_piece (with_piece piece cli.load); load = with_piece piece cli.load } in
    either (λ (c : Interpreter). HasLoadedAt c.row c file memory) (length piece == 0) (record cli { row = Free BadLoad }) next (λ _. h) (λ _. for_piece next file memory h)

-- what changes beside the code leaves it: the base page that is placed, and the word on the stack of the process that begins
loaded_beside : (row : Row) (cli : Interpreter) (file : List ℕ) (address count : ℕ) (old new : Memory) → ChangesOnly cli.seg address count old new → address + count ≤ 65536
    → ((place : ℕ) → place < cli.load.plan.length → (256 * cli.spec.base + 256 + place < address) ⊎ (address + count ≤ 256 * cli.spec.base + 256 + place))
    → HasLoadedAt row cli file old → HasLoadedAt row cli file new
loaded_beside row cli file address count old new changes fits apart h place within came =
    changes.rest (256 * cli.spec.base + 256 + place)
    (λ k below is. elim (apart place within) [
      | inl earlier ↦ omega (arith, fits, below, is, earlier)
      | inr later ↦ omega (arith, fits, below, is, later)
    ])
    ∙ h place within came

loaded_base_page : (cli : Interpreter) (file : List ℕ) (system : System) → StandsIn PlaceBasePage cli → HasLoadedAt PlaceBasePage cli file system.memory
    → HasLoadedAt Begin cli file (placing cli.seg (256 * cli.spec.base) (call_at PlaceBasePage cli).bytes system).memory
loaded_base_page cli file system s h =
    let bytes = (call_at PlaceBasePage cli).bytes in
    let size = base_page_size (last_page cli.spec) cli.tail s.tail in
    let lies = s.lies refl in
    loaded_beside Begin cli file (256 * cli.spec.base) (length bytes) system.memory (placing cli.seg (256 * cli.spec.base) bytes system).memory
    (changes_placing cli.seg (256 * cli.spec.base) bytes system) (omega (arith, size, lies.below, lies.fits.behind_base)) (λ place within. inr (omega (arith, size))) h

loaded_begun : (cli : Interpreter) (file : List ℕ) (p : ℕ) (system : System) → StandsIn Begin cli → HasLoadedAt Begin cli file system.memory
    → HasLoadedAt Begin cli file (beginning cli.seg (process_of cli) p system).memory
unfolding process_of
loaded_begun cli file p system s h =
    let lies = s.lies refl in
    let new = process_of cli in
    loaded_beside Begin cli file new.sp 2 system.memory (beginning cli.seg new p system).memory (changes_beginning cli.seg new p system)
    (omega (arith, lies.below, lies.fits.behind_base)) (λ place within. inl (omega (arith, within, lies.fits.before_last, lies.fits.behind_base))) h

-- in each row in which it has the segment: by what it hands over, and by the answer
pub loaded_goes_on : (row : Row) (cli : Interpreter) (file : List ℕ) (reply : Answer) (system : System) → is_loading row ≡ true → IsMemory system.memory → HasReserved cli system.memory
    → StandsIn row cli → IsPieceOf file cli.load.before cli.load.piece → HasLoadedAt row cli file system.memory
    → HasLoadedAt (took_at row cli reply).row (took_at row cli reply) file (handed_over (act_at row cli) (call_at row cli).bytes 0 system).memory
loaded_goes_on Place cli file reply system loading m has s piece h = loaded_placed cli file system.memory m has s piece h
loaded_goes_on Patch cli file reply system loading m has s piece h = loaded_moved cli file system m has s piece h
loaded_goes_on ReadOn cli file reply system loading m has s piece h = loaded_read (with_block reply cli) file (records_in reply) system.memory h
loaded_goes_on (Free message) cli file reply system loading m has s piece h = h
loaded_goes_on Close cli file reply system loading m has s piece h = h
loaded_goes_on PlaceBasePage cli file reply system loading m has s piece h = loaded_base_page cli file system s h
loaded_goes_on Begin cli file reply system loading m has s piece h =
    let memory = (beginning cli.seg (process_of cli) 0 system).memory in
    either (λ (row : Row). HasLoadedAt row (record cli { row = row }) file memory) (reply.hl == 0) ReadCommand (Free NoProcess) (λ _. loaded_begun cli file 0 system s h) (λ _. loaded_begun cli file 0 system s h)
loaded_goes_on ReadCommand cli file reply system loading m has s piece h = absurd (false≢true loading)
loaded_goes_on OpenQueue cli file reply system loading m has s piece h = absurd (false≢true loading)
loaded_goes_on WriteQueue cli file reply system loading m has s piece h = absurd (false≢true loading)
loaded_goes_on SetUser cli file reply system loading m has s piece h = absurd (false≢true loading)
loaded_goes_on OpenRelocatable cli file reply system loading m has s piece h = absurd (false≢true loading)
loaded_goes_on OpenAbsolute cli file reply system loading m has s piece h = absurd (false≢true loading)
loaded_goes_on ReadHeader cli file reply system loading m has s piece h = absurd (false≢true loading)
loaded_goes_on ComputeSize cli file reply system loading m has s piece h = absurd (false≢true loading)
loaded_goes_on SetUserZero cli file reply system loading m has s piece h = absurd (false≢true loading)
loaded_goes_on (Reserve relocatable pages) cli file reply system loading m has s piece h = absurd (false≢true loading)
loaded_goes_on (CloseAfter message) cli file reply system loading m has s piece h = absurd (false≢true loading)
loaded_goes_on (Tell message) cli file reply system loading m has s piece h = absurd (false≢true loading)
loaded_goes_on Give cli file reply system loading m has s piece h = absurd (false≢true loading)

pub loaded_in_step : (system : System) (i : Interprets system) (file : List ℕ) (reply : Answer) → is_loading i.acting.cli.row ≡ true → IsMemory system.memory
    → IsPieceOf file i.acting.cli.load.before i.acting.cli.load.piece → HasLoadedAt i.acting.cli.row i.acting.cli file system.memory
    → HasLoadedAt (took i.acting.cli reply).row (took i.acting.cli reply) file (handed_over (next_act i.acting.cli) (next_call i.acting.cli).bytes 0 system).memory
unfolding took next_act next_call
loaded_in_step system i file reply loading m piece h =
    loaded_goes_on i.acting.cli.row i.acting.cli file reply system loading m (i.has loading) i.acting.stands piece h

-- once the whole file came, each byte of its code stands there, moved where there is a mark for each
pub loaded_whole : (cli : Interpreter) (file : List ℕ) (memory : Memory) → has_all cli.load ≡ true → HasLoadedAt Close cli file memory → (place : ℕ) → place < cli.load.plan.length
    → byte_at memory cli.seg (256 * cli.spec.base + 256 + place) ≡ code_byte cli.load.plan file cli.spec.base (all_bytes cli.load.plan) place
loaded_whole cli file memory has h place within =
    let load = cli.load in
    let came : all_bytes load.plan ≤ load.before + length load.piece = grind (arith, nat_tests, has) in
    h place within (omega (arith, came, within))
    ∙ same_byte load.plan file cli.spec.base (min (load.before + length load.piece) (all_bytes load.plan)) (all_bytes load.plan) place (λ less. omega (arith, less)) (λ less. omega (arith, less, came))

pub loaded_and_moved : (cli : Interpreter) (file : List ℕ) (memory : Memory) → has_all cli.load ≡ true → cli.load.plan.length ≤ 8 * cli.load.plan.bits → HasLoadedAt Close cli file memory
    → (place : ℕ) → place < cli.load.plan.length
    → byte_at memory cli.seg (256 * cli.spec.base + 256 + place) ≡ relocated_byte (drop cli.load.plan.start file) (drop (code_end cli.load.plan) file) cli.spec.base place
loaded_and_moved cli file memory has marked h place within =
    loaded_whole cli file memory has h place within ∙ moved_now cli.load.plan file cli.spec.base (all_bytes cli.load.plan) place (omega (arith, marked, within))

-- and at page 0 as it came
pub loaded_as_it_is : (cli : Interpreter) (file : List ℕ) (memory : Memory) → has_all cli.load ≡ true → cli.load.plan.bits ≡ 0 → HasLoadedAt Close cli file memory → (place : ℕ)
    → place < cli.load.plan.length → byte_at memory cli.seg (256 * cli.spec.base + 256 + place) ≡ get_or (drop cli.load.plan.start file) place 0
loaded_as_it_is cli file memory has none h place within =
    loaded_whole cli file memory has h place within ∙ unmoved cli.load.plan file cli.spec.base (all_bytes cli.load.plan) place (omega (arith, none))
