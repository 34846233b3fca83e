-- What a call writes, by its function.
use Rattle.std.proofs.Common.{◌≡◌, ◌≢◌, ◌∙◌, ℕ, ◌<◌, ◌≤◌, Bool, true, false, ◌&&◌, ◌==◌, if◌then◌else◌, List, [], ◌∷◌, refl, sym, ap, subst, arith, length}
use Rattle.std.specs.Prelude.{nat_lt}
use Rattle.std.proofs.lemmas.Bool.Decides.{nat_tests}
use Rattle.std.proofs.lemmas.Bool.{cond-true, cond-false}
use Rattle.mpm_base.specs.Calls.{Taken}
use Rattle.mpm_base.specs.declared.functions.TheConstants.{CONSOLE_OUTPUT, RAW_CONSOLE_OUTPUT, LIST_OUTPUT, DIRECT_CONSOLE_IO, PRINT_STRING}
use Rattle.mpm_procs.specs.Table.{process_in}
use Rattle.mpm_consoles.specs.Modes.{does_echo}
use Rattle.mpm_consoles.specs.declared.modes.TheConstants.{AWAIT_KEY}
use Rattle.mpm_kernel.specs.Kernel.{Kernel}
use Rattle.mpm_kernel.specs.Called.{low_parameter}
use Rattle.mpm_kernel.specs.Columns.{column_of, tab_text, expanded, spoke}
use Rattle.mpm_kernel.specs.ConsoleInput.{writes}
use Rattle.mpm_kernel.proofs.SpokeLaws.{spoke_none}
use Rattle.mpm_base.specs.declared.unit.Unit.TheVariants.{Printer}
use Rattle.mpm_render.specs.Outputs.{Said, said}
use Rattle.mpm_render.proofs.Laws.{said_nil, said_cons}
use Rattle.mpm_output.specs.Outside.{Outside}
use Rattle.mpm_output.specs.Writing.{spoken, CameOut}
use Rattle.mpm_output.proofs.WritingLaws.{spoken_nil, spoke_nothing}
use Rattle.mpm_system.specs.declared.system.System.{System}
use Rattle.mpm_system.specs.Whole.{SystemChange, silent, speaking}
use Rattle.mpm_system.specs.Saying.{call_text, printed, said_by, echo_of}
use Rattle.mpm_system.specs.Loading.{is_console}
use Rattle.mpm_system.specs.Residents.{text_told}

-- the text that is chosen
first : (a b c : Bool) (x y z : List ℕ) → a ≡ true → (if a then x else (if b then y else (if c then z else []))) ≡ x
first a b c x y z e = rw e refl

second : (a b c : Bool) (x y z : List ℕ) → a ≡ false → b ≡ true → (if a then x else (if b then y else (if c then z else []))) ≡ y
second a b c x y z e f = rw (e, f) refl

third : (a b c : Bool) (x y z : List ℕ) → a ≡ false → b ≡ false → c ≡ true → (if a then x else (if b then y else (if c then z else []))) ≡ z
third a b c x y z e f g = rw (e, f, g) refl

none_of : (a b c : Bool) (x y z : List ℕ) → a ≡ false → b ≡ false → c ≡ false → (if a then x else (if b then y else (if c then z else []))) ≡ []
none_of a b c x y z e f g = rw (e, f, g) refl

not_printed : (a b : Bool) (byte : ℕ) → (a && b) ≡ false → (if a && b then byte ∷ [] else []) ≡ []
not_printed a b byte e = rw e refl

is_printed : (a b : Bool) (byte : ℕ) → a ≡ true → b ≡ true → (if a && b then byte ∷ [] else []) ≡ byte ∷ []
is_printed a b byte e f = rw (e, f) refl

speaks_nothing : (console : ℕ) (system : System) → speaking console [] system ≡ silent system
unfolding speaking
speaks_nothing console system =
    ap (λ kernel. record { system = record system { kernel = kernel }; emitted = _ }) (spoke_none system.kernel console)
    ∙ ap (λ emitted. record { system = system; emitted = emitted }) (spoken_nil console)

-- what is said where the text is known, and what is printed

pub said_text : (call : Taken) (string : List ℕ) (p : ℕ) (system : System) (text : List ℕ)
    → call_text call (column_of system.kernel (process_in system.kernel.dispatcher.procs p).console) string ≡ text → printed call system.kernel ≡ []
    → said_by call string p system ≡ speaking (process_in system.kernel.dispatcher.procs p).console text system
unfolding said_by
said_text call string p system text is none =
    let process = process_in system.kernel.dispatcher.procs p in
    let spoke = speaking process.console text system in
    ap (λ t. record (speaking process.console t system) { emitted = said (Printer process.printer) (printed call system.kernel) (speaking process.console t system).emitted }) is
    ∙ ap (λ bytes. record spoke { emitted = said (Printer process.printer) bytes spoke.emitted }) none
    ∙ ap (λ emitted. record spoke { emitted = emitted }) (said_nil (Printer process.printer) spoke.emitted)

pub said_silent : (call : Taken) (string : List ℕ) (p : ℕ) (system : System)
    → call_text call (column_of system.kernel (process_in system.kernel.dispatcher.procs p).console) string ≡ [] → printed call system.kernel ≡ []
    → said_by call string p system ≡ silent system
said_silent call string p system is none =
    said_text call string p system [] is none ∙ speaks_nothing (process_in system.kernel.dispatcher.procs p).console system

pub said_printed : (call : Taken) (string : List ℕ) (p : ℕ) (system : System) (byte : ℕ)
    → call_text call (column_of system.kernel (process_in system.kernel.dispatcher.procs p).console) string ≡ [] → printed call system.kernel ≡ byte ∷ []
    → said_by call string p system ≡ record { system = system; emitted = Said (Printer (process_in system.kernel.dispatcher.procs p).printer) byte ∷ [] }
unfolding said_by
said_printed call string p system byte is prints =
    let process = process_in system.kernel.dispatcher.procs p in
    ap (λ t. record (speaking process.console t system) { emitted = said (Printer process.printer) (printed call system.kernel) (speaking process.console t system).emitted }) is
    ∙ ap (λ (spoke : SystemChange). record spoke { emitted = said (Printer process.printer) (printed call system.kernel) spoke.emitted }) (speaks_nothing process.console system)
    ∙ ap (λ bytes. record { system = system; emitted = said (Printer process.printer) bytes [] }) prints
    ∙ ap (λ emitted. record { system = system; emitted = emitted }) (said_cons (Printer process.printer) byte [] [] ∙ said_nil (Printer process.printer) (Said (Printer process.printer) byte ∷ []))

-- bytes come to a console, as it is reached
abbrev pub writing : ℕ → List ℕ → System → SystemChange
writing console text system = record { system = record system { kernel = spoke system.kernel console text }; emitted = spoken console text }

speaking_is : (console : ℕ) (text : List ℕ) (system : System) → speaking console text system ≡ writing console text system
unfolding speaking
speaking_is console text system = refl

-- a text that goes by the console and a byte
by_parts : (text : ℕ → ℕ → List ℕ) (call : Taken) (string : List ℕ) (p : ℕ) (system : System) (console byte : ℕ)
    → said_by call string p system
    ≡ speaking (process_in system.kernel.dispatcher.procs p).console (text (process_in system.kernel.dispatcher.procs p).console (low_parameter call)) system
    → (process_in system.kernel.dispatcher.procs p).console ≡ console → low_parameter call ≡ byte
    → said_by call string p system ≡ writing console (text console byte) system
by_parts text call string p system console byte is at what =
    is
    ∙ ap (λ n. speaking n (text n (low_parameter call)) system) at
    ∙ ap (λ b. speaking console (text console b) system) what
    ∙ speaking_is console (text console byte) system

-- by the function of the call

prints_nothing : (call : Taken) (kernel : Kernel) → call.function ≢ LIST_OUTPUT → printed call kernel ≡ []
prints_nothing call kernel other = not_printed (call.function == LIST_OUTPUT) (nat_lt 0 (length kernel.units.printers)) (low_parameter call) (grind (arith, nat_tests, other))

pub says_tab : (call : Taken) (string : List ℕ) (p : ℕ) (system : System) → call.function ≡ CONSOLE_OUTPUT
    → said_by call string p system
    ≡ speaking (process_in system.kernel.dispatcher.procs p).console (tab_text (column_of system.kernel (process_in system.kernel.dispatcher.procs p).console) (low_parameter call)) system
unfolding call_text
says_tab call string p system is =
    said_text call string p system _ (first (call.function == CONSOLE_OUTPUT) (call.function == PRINT_STRING) (writes call) _ _ _ (grind (arith, nat_tests, is)))
    (prints_nothing call system.kernel (omega (arith, is)))

pub says_string : (call : Taken) (string : List ℕ) (p : ℕ) (system : System) → call.function ≡ PRINT_STRING
    → said_by call string p system
    ≡ speaking (process_in system.kernel.dispatcher.procs p).console (expanded (column_of system.kernel (process_in system.kernel.dispatcher.procs p).console) string) system
unfolding call_text
says_string call string p system is =
    said_text call string p system _
    (second (call.function == CONSOLE_OUTPUT) (call.function == PRINT_STRING) (writes call) _ _ _ (grind (arith, nat_tests, is)) (grind (arith, nat_tests, is)))
    (prints_nothing call system.kernel (omega (arith, is)))

writes_byte : (call : Taken) → call.function ≡ RAW_CONSOLE_OUTPUT → writes call ≡ true
unfolding writes
writes_byte call is = grind (arith, nat_tests, is)

writes_directly : (call : Taken) → call.function ≡ DIRECT_CONSOLE_IO → low_parameter call < AWAIT_KEY → writes call ≡ true
unfolding writes
writes_directly call is below = grind (arith, nat_tests, is, below)

pub says_byte : (call : Taken) (string : List ℕ) (p : ℕ) (system : System) → call.function ≡ RAW_CONSOLE_OUTPUT
    → said_by call string p system ≡ speaking (process_in system.kernel.dispatcher.procs p).console (low_parameter call ∷ []) system
unfolding call_text
says_byte call string p system is =
    said_text call string p system _
    (third (call.function == CONSOLE_OUTPUT) (call.function == PRINT_STRING) (writes call) _ _ _ (grind (arith, nat_tests, is)) (grind (arith, nat_tests, is)) (writes_byte call is))
    (prints_nothing call system.kernel (omega (arith, is)))

pub says_directly : (call : Taken) (string : List ℕ) (p : ℕ) (system : System) → call.function ≡ DIRECT_CONSOLE_IO → low_parameter call < AWAIT_KEY
    → said_by call string p system ≡ speaking (process_in system.kernel.dispatcher.procs p).console (low_parameter call ∷ []) system
unfolding call_text
says_directly call string p system is below =
    said_text call string p system _
    (third (call.function == CONSOLE_OUTPUT) (call.function == PRINT_STRING) (writes call) _ _ _ (grind (arith, nat_tests, is)) (grind (arith, nat_tests, is)) (writes_directly call is below))
    (prints_nothing call system.kernel (omega (arith, is)))

writes_not : (call : Taken) → call.function ≢ CONSOLE_OUTPUT → call.function ≢ RAW_CONSOLE_OUTPUT → call.function ≢ PRINT_STRING → (call.function ≡ DIRECT_CONSOLE_IO → AWAIT_KEY ≤ low_parameter call) → writes call ≡ false
unfolding writes
writes_not call two four nine direct = grind (arith, nat_tests, two, four, nine, direct)

pub says_printed : (call : Taken) (string : List ℕ) (p : ℕ) (system : System) → call.function ≡ LIST_OUTPUT → 0 < length system.kernel.units.printers
    → said_by call string p system
    ≡ record { system = system; emitted = Said (Printer (process_in system.kernel.dispatcher.procs p).printer) (low_parameter call) ∷ [] }
unfolding call_text
says_printed call string p system is some =
    said_printed call string p system (low_parameter call)
    (none_of (call.function == CONSOLE_OUTPUT) (call.function == PRINT_STRING) (writes call) _ _ _ (grind (arith, nat_tests, is)) (grind (arith, nat_tests, is))
    (writes_not call (omega (arith, is)) (omega (arith, is)) (omega (arith, is)) (λ six. absurd (omega (arith, is, six)))))
    (is_printed (call.function == LIST_OUTPUT) (nat_lt 0 (length system.kernel.units.printers)) (low_parameter call) (grind (arith, nat_tests, is)) (grind (arith, nat_tests, some)))

-- a call writes nothing
pub record WritesNothing (call : Taken) (kernel : Kernel) : Type 0 where
  pub two : call.function ≢ CONSOLE_OUTPUT
  pub four : call.function ≢ RAW_CONSOLE_OUTPUT
  pub nine : call.function ≢ PRINT_STRING
  pub prints : call.function ≡ LIST_OUTPUT → length kernel.units.printers ≤ 0
  pub direct : call.function ≡ DIRECT_CONSOLE_IO → AWAIT_KEY ≤ low_parameter call

pub says_nothing : (call : Taken) (string : List ℕ) (p : ℕ) (system : System) → WritesNothing call system.kernel → said_by call string p system ≡ silent system
unfolding call_text
says_nothing call string p system w =
    said_silent call string p system
    (none_of (call.function == CONSOLE_OUTPUT) (call.function == PRINT_STRING) (writes call) _ _ _ (grind (arith, nat_tests, w.two)) (grind (arith, nat_tests, w.nine))
    (writes_not call w.two w.four w.nine w.direct))
    (not_printed (call.function == LIST_OUTPUT) (nat_lt 0 (length system.kernel.units.printers)) (low_parameter call) (grind (arith, nat_tests, w.prints)))

-- the same, by the parts of the call and of its process

pub tab_said : (call : Taken) (string : List ℕ) (p : ℕ) (system : System) (console byte : ℕ) → call.function ≡ CONSOLE_OUTPUT
    → (process_in system.kernel.dispatcher.procs p).console ≡ console → low_parameter call ≡ byte
    → said_by call string p system ≡ writing console (tab_text (column_of system.kernel console) byte) system
tab_said call string p system console byte is at what =
    by_parts (λ n b. tab_text (column_of system.kernel n) b) call string p system console byte (says_tab call string p system is) at what

pub byte_said : (call : Taken) (string : List ℕ) (p : ℕ) (system : System) (console byte : ℕ) → call.function ≡ RAW_CONSOLE_OUTPUT
    → (process_in system.kernel.dispatcher.procs p).console ≡ console → low_parameter call ≡ byte → said_by call string p system ≡ writing console (byte ∷ []) system
byte_said call string p system console byte is at what =
    by_parts (λ n b. b ∷ []) call string p system console byte (says_byte call string p system is) at what

pub directly_said : (call : Taken) (string : List ℕ) (p : ℕ) (system : System) (console byte : ℕ) → call.function ≡ DIRECT_CONSOLE_IO → byte < AWAIT_KEY
    → (process_in system.kernel.dispatcher.procs p).console ≡ console → low_parameter call ≡ byte → said_by call string p system ≡ writing console (byte ∷ []) system
directly_said call string p system console byte is below at what =
    by_parts (λ n b. b ∷ []) call string p system console byte (says_directly call string p system is (omega (arith, what, below))) at what

pub string_said : (call : Taken) (string text : List ℕ) (p : ℕ) (system : System) (console : ℕ) → call.function ≡ PRINT_STRING → string ≡ text
    → (process_in system.kernel.dispatcher.procs p).console ≡ console
    → said_by call string p system ≡ writing console (expanded (column_of system.kernel console) text) system
string_said call string text p system console is same at =
    by_parts (λ n b. expanded (column_of system.kernel n) string) call string p system console (low_parameter call) (says_string call string p system is) at refl
    ∙ ap (λ t. writing console (expanded (column_of system.kernel console) t) system) same

pub byte_printed : (call : Taken) (string : List ℕ) (p : ℕ) (system : System) (printer byte : ℕ) → call.function ≡ LIST_OUTPUT → 0 < length system.kernel.units.printers
    → (process_in system.kernel.dispatcher.procs p).printer ≡ printer → low_parameter call ≡ byte
    → said_by call string p system ≡ record { system = system; emitted = Said (Printer printer) byte ∷ [] }
byte_printed call string p system printer byte is some at what =
    says_printed call string p system is some
    ∙ ap (λ n. record { system = system; emitted = Said (Printer n) (low_parameter call) ∷ [] }) at
    ∙ ap (λ b. record { system = system; emitted = Said (Printer printer) b ∷ [] }) what

-- nothing comes out where its function echoes no key
pub echoes_nothing : (console : ℕ) (o : Outside) (call : Taken) (kernel : Kernel) → does_echo call.function ≡ false
    → CameOut o o (spoken console (echo_of call kernel))
echoes_nothing console o call kernel none =
    let P : Bool → Type 0 = λ b. CameOut o o (spoken console (if b then kernel.echo else [])) in
    subst P (sym none) (spoke_nothing console o)

-- a text of the system comes to the console that its call names, where that is there

pub told_there : (call : Taken) (console : ℕ) (system : System) → console ≡ low_parameter call → console < length system.kernel.units.consoles
    → text_told call system ≡ writing console (expanded (column_of system.kernel console) call.bytes) system
told_there call console system is below =
    let seen : is_console console system.kernel ≡ true = grind (arith, nat_tests, below) in
    cond-true (is_console (low_parameter call) system.kernel) _ _ (ap (λ (n : ℕ). is_console n system.kernel) (sym is) ∙ seen)
    ∙ ap (λ (n : ℕ). speaking n (expanded (column_of system.kernel n) call.bytes) system) (sym is)
    ∙ speaking_is console (expanded (column_of system.kernel console) call.bytes) system

pub told_nowhere : (call : Taken) (console : ℕ) (system : System) → console ≡ low_parameter call → length system.kernel.units.consoles ≤ console
    → text_told call system ≡ silent system
told_nowhere call console system is beyond =
    let unseen : is_console console system.kernel ≡ false = grind (arith, nat_tests, beyond) in
    cond-false (is_console (low_parameter call) system.kernel) _ _ (ap (λ (n : ℕ). is_console n system.kernel) (sym is) ∙ unseen)
