-- An interpreter stands whatever is answered to it, and hands over what comes into its segment alone.
use Rattle.std.proofs.Common.{◌≡◌, ◌∙◌, ℕ, ◌+◌, ◌<◌, ◌≤◌, ◌==◌, ◌&&◌, ◌||◌, if◌then◌else◌, Bool, true, false, List, length, Option, Some, None, refl, sym, subst, IfSome, arith}
use Rattle.std.specs.Prelude.{nat_lt, nat_le}
use Rattle.std.proofs.lemmas.Bool.{and_parts, false≢true}
use Rattle.std.proofs.lemmas.Bool.Decides.{nat_tests}
use Rattle.mpm_base.proofs.Choices.{either}
use Rattle.mpm_base.specs.Calls.{Answer}
use Rattle.mpm_prl.specs.Relocation.{word_at}
use Rattle.mpm_command.specs.Commands.{command_in, console_in}
use Rattle.mpm_command.specs.declared.command.Command.{Command}
use Rattle.mpm_loader.specs.Plans.{pages_of, plan_of, relocatable_plan, absolute_plan, FitsIn}
use Rattle.mpm_loader.specs.Pieces.{Loading, nothing, begun, with_first, with_piece, has_all, code_in, code_place, marks_in, marked_place, marked_length}
use Rattle.mpm_loader.specs.declared.plan.Plan.{Plan}
use Rattle.mpm_loader.proofs.Parts.{within_part, some_marked}
use Rattle.mpm_residents.specs.Interpreters.{Interpreter, opening, code_address, last_page, process_of, call_at, next_call, act_at, next_act, CountsBytes, not_found, followed, message_in, commanded, after_open, row_for_memory, row_behind_marks, row_behind_code, row_for_piece, headed, records_in, absolute, sized, size_in, byte_at, is_segment_of, reserved, read_on, with_block, took_at, took, IsInterpreterRow}
use Rattle.mpm_residents.specs.Standing.{is_loading, IsFile, LiesIn, StandsIn, InterpreterStands, AreInPages, HandsIn}
use Rattle.mpm_residents.specs.declared.cli.act.Act.{Act}
use Rattle.mpm_residents.specs.declared.cli.table.Message.TheVariants.{NotFound, BadLoad, NoMemory, NoProcess, QueueFull}
use Rattle.mpm_residents.specs.declared.cli.table.Row.{Row}
use Rattle.mpm_residents.specs.declared.cli.table.Row.TheVariants.{ReadCommand, OpenQueue, WriteQueue, SetUser, OpenRelocatable, OpenAbsolute, ReadHeader, ComputeSize, SetUserZero, Reserve, Place, Patch, ReadOn, Free, CloseAfter, Close, Tell, Give, PlaceBasePage, Begin}
use Rattle.mpm_residents.proofs.InterpreterLaws.{code_stands_at}
use Rattle.mpm_residents.proofs.Filling.{base_page_size, message_size, tail_few}

-- what a file asks for

file_relocatable : (length extra : ℕ) → IsFile (relocatable_plan length extra)
unfolding relocatable_plan
file_relocatable length extra = record { room = omega arith; marks = omega arith }

file_absolute : (records : ℕ) → IsFile (absolute_plan records)
unfolding absolute_plan
file_absolute records = record { room = omega arith; marks = omega arith }

file_begun : (piece : List ℕ) → IfSome (begun piece) (λ load. IsFile load.plan)
unfolding begun plan_of
file_begun piece =
    either (λ (plan : Option Plan). IfSome (with_first piece plan) (λ load. IsFile load.plan)) (nat_lt (length piece) 256 || word_at piece 1 == 0) None
    (Some (relocatable_plan (word_at piece 1) (word_at piece 4))) (λ _. tt) (λ _. file_relocatable (word_at piece 1) (word_at piece 4))

-- in the pages that are asked for, or more, its code has room
fits_asked : (plan : Plan) (asked pages : ℕ) → IsFile plan → asked ≡ pages_of plan → asked ≤ pages → FitsIn plan pages
unfolding pages_of
fits_asked plan asked pages file is enough = record {
  behind_base = omega (arith, is, enough);
  before_last = omega (arith, is, enough, file.room);
}

some_pages : (plan : Plan) → 2 ≤ pages_of plan
unfolding pages_of
some_pages plan = omega arith

-- the rows that a piece leads to

is_row_behind_marks : (load : Loading) → IsInterpreterRow (row_behind_marks load) load
unfolding row_behind_marks
is_row_behind_marks load = either (λ (row : Row). IsInterpreterRow row load) (has_all load) Close ReadOn (λ _. tt) (λ left. left)

is_row_behind_code : (load : Loading) → IsInterpreterRow (row_behind_code load) load
unfolding row_behind_code
is_row_behind_code load =
    either (λ (row : Row). IsInterpreterRow row load) (nat_lt 0 (length (marks_in load))) Patch (row_behind_marks load) (λ some. grind (arith, nat_tests, some))
    (λ _. is_row_behind_marks load)

is_row_for_piece : (load : Loading) → IsInterpreterRow (row_for_piece load) load
unfolding row_for_piece
is_row_for_piece load =
    either (λ (row : Row). IsInterpreterRow row load) (nat_lt 0 (length (code_in load))) Place (row_behind_code load) (λ some. grind (arith, nat_tests, some))
    (λ _. is_row_behind_code load)

is_row_for_memory : (relocatable : Bool) (load : Loading) → IsInterpreterRow (row_for_memory relocatable load) load
unfolding row_for_memory
is_row_for_memory relocatable load =
    either (λ (row : Row). IsInterpreterRow row load) (nat_lt 255 (pages_of load.plan)) (CloseAfter NoMemory) (Reserve relocatable (pages_of load.plan)) (λ _. tt)
    (λ _. (some_pages load.plan, refl))

pub none_for_memory : (relocatable : Bool) (load : Loading) → is_loading (row_for_memory relocatable load) ≡ false
unfolding row_for_memory
none_for_memory relocatable load =
    either (λ (row : Row). is_loading row ≡ false) (nat_lt 255 (pages_of load.plan)) (CloseAfter NoMemory) (Reserve relocatable (pages_of load.plan)) (λ _. refl)
    (λ _. refl)

-- a row without a segment, and one with its segment

rests : (row : Row) (cli : Interpreter) → cli.console < cli.consoles → length cli.tail ≤ 127 → IsFile cli.load.plan → IsInterpreterRow row cli.load → is_loading row ≡ false → StandsIn row cli
rests row cli console tail file is none = record { console = console; tail = tail; file = file; of_row = is; lies = λ loading. absurd (false≢true (sym none ∙ loading)) }

keeps : (row : Row) (cli : Interpreter) → cli.console < cli.consoles → length cli.tail ≤ 127 → IsFile cli.load.plan → IsInterpreterRow row cli.load → LiesIn cli.load.plan cli.spec → StandsIn row cli
keeps row cli console tail file is lies = record { console = console; tail = tail; file = file; of_row = is; lies = λ _. lies }

-- at its opening
pub stands_opening : (consoles : ℕ) → 0 < consoles → InterpreterStands (opening consoles)
unfolding opening nothing
stands_opening consoles some = rests ReadCommand (opening consoles) some (omega arith) (file_absolute 0) tt refl

-- by the answer to each row

stands_followed : (command : Option Command) (message : List ℕ) (cli : Interpreter) → command_in message ≡ command → length message ≡ 130 → console_in message < cli.consoles
    → length cli.tail ≤ 127 → IsFile cli.load.plan → InterpreterStands (followed command message cli)
stands_followed None message cli is size there tail file = rests (Tell BadLoad) (followed None message cli) there tail file tt refl
stands_followed (Some command) message cli is size there tail file =
    let few = tail_few message command size is in
    either (λ (row : Row). StandsIn row (followed (Some command) message cli)) command.names_drive SetUser OpenQueue
    (λ _. rests SetUser (followed (Some command) message cli) there few file tt refl) (λ _. rests OpenQueue (followed (Some command) message cli) there few file tt refl)

stands_commanded : (message : List ℕ) (cli : Interpreter) → length message ≡ 130 → InterpreterStands cli → InterpreterStands (commanded message cli)
stands_commanded message cli size s =
    either InterpreterStands (nat_lt (console_in message) cli.consoles) (followed (command_in message) message cli) cli
    (λ there. stands_followed (command_in message) message cli refl size (grind (arith, nat_tests, there)) s.tail s.file) (λ _. s)

stands_opened : (hl : ℕ) (opened absent : Row) (cli : Interpreter) → StandsIn opened cli → StandsIn absent cli → StandsIn (Tell BadLoad) cli → StandsIn (after_open hl opened absent) cli
stands_opened hl opened absent cli one other refused =
    either (λ (row : Row). StandsIn row cli) (hl == 0) opened _ (λ _. one)
    (λ _. either (λ (row : Row). StandsIn row cli) (hl == not_found) absent (Tell BadLoad) (λ _. other) (λ _. refused))

stands_headed : (begins : Option Loading) (cli : Interpreter) → cli.console < cli.consoles → length cli.tail ≤ 127 → IsFile cli.load.plan → IfSome begins (λ load. IsFile load.plan) → InterpreterStands (headed begins cli)
stands_headed None cli console tail file comes = rests (CloseAfter BadLoad) (headed None cli) console tail file tt refl
stands_headed (Some load) cli console tail file comes =
    rests (row_for_memory true load) (headed (Some load) cli) console tail comes (is_row_for_memory true load) (none_for_memory true load)

stands_sized : (hl : ℕ) (cli : Interpreter) → cli.console < cli.consoles → length cli.tail ≤ 127 → IsFile cli.load.plan → InterpreterStands (sized hl cli)
stands_sized hl cli console tail file =
    let load = absolute (size_in cli.fcb) in
    let known = record cli { row = row_for_memory false load; load = load } in
    let row = if hl == not_found then SetUserZero else CloseAfter BadLoad in
    either InterpreterStands (hl == 0) known (record cli { row = row })
    (λ _. rests (row_for_memory false load) known console tail (file_absolute (size_in cli.fcb)) (is_row_for_memory false load) (none_for_memory false load))
    (λ _. either (λ (r : Row). StandsIn r (record cli { row = row })) (hl == not_found) SetUserZero (CloseAfter BadLoad)
    (λ _. rests SetUserZero (record cli { row = row }) console tail file tt refl) (λ _. rests (CloseAfter BadLoad) (record cli { row = row }) console tail file tt refl))

lies_in_reserved : (pages : ℕ) (reply : Answer) (plan : Plan) → IsFile plan → pages ≡ pages_of plan → is_segment_of pages reply ≡ true
    → LiesIn plan (record { base = byte_at reply 0; pages = byte_at reply 1 })
lies_in_reserved pages reply plan file asked is =
    let parts = and_parts (nat_lt (byte_at reply 3) 16) _ is in
    let bounds = and_parts (nat_le pages (byte_at reply 1)) _ parts.1 in
    record { fits = fits_asked plan pages (byte_at reply 1) file asked (grind (arith, nat_tests, bounds.0)); below = grind (arith, nat_tests, bounds.1) }

stands_reserved : (pages : ℕ) (reply : Answer) (cli : Interpreter) → cli.console < cli.consoles → length cli.tail ≤ 127 → IsFile cli.load.plan → pages ≡ pages_of cli.load.plan → InterpreterStands (reserved pages reply cli)
stands_reserved pages reply cli console tail file asked =
    let given = record cli { row = row_for_piece cli.load; seg = byte_at reply 3; spec = record { base = byte_at reply 0; pages = byte_at reply 1 } } in
    either InterpreterStands (reply.hl == 0 && is_segment_of pages reply) given (record cli { row = CloseAfter NoMemory })
    (λ is. keeps (row_for_piece cli.load) given console tail file (is_row_for_piece cli.load)
    (lies_in_reserved pages reply cli.load.plan file asked (and_parts (reply.hl == 0) _ is).1))
    (λ _. rests (CloseAfter NoMemory) (record cli { row = CloseAfter NoMemory }) console tail file tt refl)

stands_read_on : (piece : List ℕ) (cli : Interpreter) → cli.console < cli.consoles → length cli.tail ≤ 127 → IsFile cli.load.plan → LiesIn cli.load.plan cli.spec → InterpreterStands (read_on piece cli)
unfolding with_piece
stands_read_on piece cli console tail file lies =
    let more = record cli { row = row_for_piece (with_piece piece cli.load); load = with_piece piece cli.load } in
    either InterpreterStands (length piece == 0) (record cli { row = Free BadLoad }) more
    (λ _. keeps (Free BadLoad) (record cli { row = Free BadLoad }) console tail file tt lies)
    (λ _. keeps (row_for_piece (with_piece piece cli.load)) more console tail file (is_row_for_piece (with_piece piece cli.load)) lies)

stands_at : (row : Row) (cli : Interpreter) (reply : Answer) → StandsIn row cli → InterpreterStands cli → InterpreterStands (took_at row cli reply)
stands_at ReadCommand cli reply s all = stands_commanded (message_in reply.bytes) cli (message_size reply.bytes) all
stands_at OpenQueue cli reply s all =
    either InterpreterStands (reply.hl == 0) _ _ (λ _. rests WriteQueue _ s.console s.tail s.file tt refl) (λ _. rests SetUser _ s.console s.tail s.file tt refl)
stands_at WriteQueue cli reply s all =
    let row = if reply.hl == 0 then Give else Tell QueueFull in
    either (λ (r : Row). StandsIn r (record cli { row = row })) (reply.hl == 0) Give (Tell QueueFull)
    (λ _. rests Give (record cli { row = row }) s.console s.tail s.file tt refl) (λ _. rests (Tell QueueFull) (record cli { row = row }) s.console s.tail s.file tt refl)
stands_at SetUser cli reply s all = rests OpenRelocatable _ s.console s.tail s.file tt refl
stands_at OpenRelocatable cli reply s all =
    let new = took_at OpenRelocatable cli reply in
    stands_opened reply.hl ReadHeader OpenAbsolute new (rests ReadHeader new s.console s.tail s.file tt refl) (rests OpenAbsolute new s.console s.tail s.file tt refl)
    (rests (Tell BadLoad) new s.console s.tail s.file tt refl)
stands_at OpenAbsolute cli reply s all =
    let new = took_at OpenAbsolute cli reply in
    stands_opened reply.hl ComputeSize (Tell NotFound) new (rests ComputeSize new s.console s.tail s.file tt refl) (rests (Tell NotFound) new s.console s.tail s.file tt refl)
    (rests (Tell BadLoad) new s.console s.tail s.file tt refl)
stands_at ReadHeader cli reply s all = stands_headed (begun (records_in reply)) (with_block reply cli) s.console s.tail s.file (file_begun (records_in reply))
stands_at ComputeSize cli reply s all = stands_sized reply.hl (with_block reply cli) s.console s.tail s.file
stands_at SetUserZero cli reply s all = rests ComputeSize _ s.console s.tail s.file tt refl
stands_at (Reserve relocatable pages) cli reply s all = stands_reserved pages reply cli s.console s.tail s.file s.of_row.1
stands_at Place cli reply s all = keeps (row_behind_code cli.load) _ s.console s.tail s.file (is_row_behind_code cli.load) (s.lies refl)
stands_at Patch cli reply s all = keeps (row_behind_marks cli.load) _ s.console s.tail s.file (is_row_behind_marks cli.load) (s.lies refl)
stands_at ReadOn cli reply s all = stands_read_on (records_in reply) (with_block reply cli) s.console s.tail s.file (s.lies refl)
stands_at (Free message) cli reply s all = rests (CloseAfter message) _ s.console s.tail s.file tt refl
stands_at (CloseAfter message) cli reply s all = rests (Tell message) _ s.console s.tail s.file tt refl
stands_at Close cli reply s all = keeps PlaceBasePage _ s.console s.tail s.file tt (s.lies refl)
stands_at (Tell message) cli reply s all = rests Give _ s.console s.tail s.file tt refl
stands_at Give cli reply s all = rests ReadCommand _ s.console s.tail s.file tt refl
stands_at PlaceBasePage cli reply s all = keeps Begin _ s.console s.tail s.file tt (s.lies refl)
stands_at Begin cli reply s all =
    let row = if reply.hl == 0 then ReadCommand else Free NoProcess in
    either (λ (r : Row). StandsIn r (record cli { row = row })) (reply.hl == 0) ReadCommand (Free NoProcess)
    (λ _. rests ReadCommand (record cli { row = row }) s.console s.tail s.file tt refl) (λ _. keeps (Free NoProcess) (record cli { row = row }) s.console s.tail s.file tt (s.lies refl))

pub stands_took : (cli : Interpreter) (reply : Answer) → InterpreterStands cli → InterpreterStands (took cli reply)
unfolding took
stands_took cli reply s = stands_at cli.row cli reply s s

pub stands_after : (old new : Interpreter) (reply : Answer) → new ≡ took old reply → InterpreterStands old → InterpreterStands new
stands_after old new reply is s = subst InterpreterStands (sym is) (stands_took old reply s)

-- it counts as many consoles as before

consoles_followed : (command : Option Command) (message : List ℕ) (cli : Interpreter) → (followed command message cli).consoles ≡ cli.consoles
consoles_followed None message cli = refl
consoles_followed (Some command) message cli = refl

consoles_headed : (begins : Option Loading) (cli : Interpreter) → (headed begins cli).consoles ≡ cli.consoles
consoles_headed None cli = refl
consoles_headed (Some load) cli = refl

consoles_by : (b : Bool) (one other cli : Interpreter) → one.consoles ≡ cli.consoles → other.consoles ≡ cli.consoles → (if b then one else other).consoles ≡ cli.consoles
consoles_by true one other cli first second = first
consoles_by false one other cli first second = second

consoles_at : (row : Row) (cli : Interpreter) (reply : Answer) → (took_at row cli reply).consoles ≡ cli.consoles
consoles_at ReadCommand cli reply =
    let message = message_in reply.bytes in
    consoles_by (nat_lt (console_in message) cli.consoles) (followed (command_in message) message cli) cli cli (consoles_followed (command_in message) message cli) refl
consoles_at OpenQueue cli reply = consoles_by (reply.hl == 0) _ _ cli refl refl
consoles_at WriteQueue cli reply = refl
consoles_at SetUser cli reply = refl
consoles_at OpenRelocatable cli reply = refl
consoles_at OpenAbsolute cli reply = refl
consoles_at ReadHeader cli reply = consoles_headed (begun (records_in reply)) (with_block reply cli)
consoles_at ComputeSize cli reply = consoles_by (reply.hl == 0) _ _ cli refl refl
consoles_at SetUserZero cli reply = refl
consoles_at (Reserve relocatable pages) cli reply = consoles_by (reply.hl == 0 && is_segment_of pages reply) _ _ cli refl refl
consoles_at Place cli reply = refl
consoles_at Patch cli reply = refl
consoles_at ReadOn cli reply = consoles_by (length (records_in reply) == 0) _ _ cli refl refl
consoles_at (Free message) cli reply = refl
consoles_at (CloseAfter message) cli reply = refl
consoles_at Close cli reply = refl
consoles_at (Tell message) cli reply = refl
consoles_at Give cli reply = refl
consoles_at PlaceBasePage cli reply = refl
consoles_at Begin cli reply = refl

pub consoles_took : (cli : Interpreter) (reply : Answer) → (took cli reply).consoles ≡ cli.consoles
unfolding took
consoles_took cli reply = consoles_at cli.row cli reply

-- what it hands over comes into its segment alone

code_in_pages : (cli : Interpreter) (place count : ℕ) → LiesIn cli.load.plan cli.spec → 0 < count → place + count ≤ cli.load.plan.length
    → AreInPages cli.spec (code_address cli.spec place) count
code_in_pages cli place count lies some within =
    let at = code_stands_at cli.spec cli.load.plan cli.spec.pages place lies.fits (omega arith) lies.below (omega (arith, some, within)) in
    record { first = omega (arith, at); end = omega (arith, at, within, lies.fits.before_last) }

pub hands_at : (row : Row) (cli : Interpreter) → StandsIn row cli → HandsIn cli.seg cli.spec (act_at row cli)
unfolding process_of
hands_at Place cli s =
    let within = within_part cli.load.before cli.load.plan.start cli.load.plan.length cli.load.piece s.of_row in
    (refl, code_in_pages cli (code_place cli.load) (length (code_in cli.load)) (s.lies refl) s.of_row within)
hands_at Patch cli s =
    let some = some_marked cli.load s.file.marks s.of_row in
    (refl, refl, code_in_pages cli (marked_place cli.load) (marked_length cli.load) (s.lies refl) some (omega (arith, some)))
hands_at PlaceBasePage cli s =
    let lies = s.lies refl in
    (refl, record { first = omega arith; end = omega (arith, lies.fits.behind_base) })
hands_at Begin cli s =
    let lies = s.lies refl in
    (refl, record { first = omega (arith, lies.fits.behind_base); end = omega (arith, lies.fits.behind_base) })
hands_at ReadCommand cli s = tt
hands_at OpenQueue cli s = tt
hands_at WriteQueue cli s = tt
hands_at SetUser cli s = tt
hands_at OpenRelocatable cli s = tt
hands_at OpenAbsolute cli s = tt
hands_at ReadHeader cli s = tt
hands_at ComputeSize cli s = tt
hands_at SetUserZero cli s = tt
hands_at (Reserve relocatable pages) cli s = tt
hands_at ReadOn cli s = tt
hands_at (Free message) cli s = tt
hands_at (CloseAfter message) cli s = tt
hands_at Close cli s = tt
hands_at (Tell message) cli s = tt
hands_at Give cli s = tt

pub hands_in : (cli : Interpreter) → InterpreterStands cli → HandsIn cli.seg cli.spec (next_act cli)
unfolding next_act
hands_in cli s = hands_at cli.row cli s

pub hands_by : (cli : Interpreter) (act : Act) → act ≡ next_act cli → InterpreterStands cli → HandsIn cli.seg cli.spec act
hands_by cli act is s = subst (HandsIn cli.seg cli.spec) (sym is) (hands_in cli s)

-- and goes by the bytes that it filled in

pub counts_at : (row : Row) (cli : Interpreter) → StandsIn row cli → CountsBytes (call_at row cli).bytes (act_at row cli)
counts_at Place cli s = refl
counts_at Patch cli s = (some_marked cli.load s.file.marks s.of_row, omega arith)
counts_at PlaceBasePage cli s = sym (base_page_size (last_page cli.spec) cli.tail s.tail)
counts_at Begin cli s = tt
counts_at ReadCommand cli s = tt
counts_at OpenQueue cli s = tt
counts_at WriteQueue cli s = tt
counts_at SetUser cli s = tt
counts_at OpenRelocatable cli s = tt
counts_at OpenAbsolute cli s = tt
counts_at ReadHeader cli s = tt
counts_at ComputeSize cli s = tt
counts_at SetUserZero cli s = tt
counts_at (Reserve relocatable pages) cli s = tt
counts_at ReadOn cli s = tt
counts_at (Free message) cli s = tt
counts_at (CloseAfter message) cli s = tt
counts_at Close cli s = tt
counts_at (Tell message) cli s = tt
counts_at Give cli s = tt

pub counts_bytes : (cli : Interpreter) → InterpreterStands cli → CountsBytes (next_call cli).bytes (next_act cli)
unfolding next_call next_act
counts_bytes cli s = counts_at cli.row cli s
