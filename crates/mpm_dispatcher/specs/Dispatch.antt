-- Which process runs: the first of the ready list. (MP/M II System Guide, "Dispatcher"; Programmer's Guide, "Function
-- 142: Dispatch", "Function 144: Create Process", "Function 145: Set Priority".)
use Rattle.std.specs.Prelude.{◌≡◌, ℕ, Bool, false, not, Option, Some, None, List, [], ◌∷◌, ◌++◌, ◌&&◌, ◌||◌, ◌==◌, map, if◌then◌else◌}
use Rattle.z80_regs.specs.declared.regs.Regs.{Regs}
use Rattle.mpm_ready.specs.Order.{Member, first_of}
use Rattle.mpm_ready.specs.Tables.{no_lists, list_at, list_of, inserted, removed, rotated}
use Rattle.mpm_procs.specs.Table.{Table, no_processes, process_in, with_process, added}
use Rattle.mpm_procs.specs.declared.process.NewProcess.{NewProcess}
use Rattle.mpm_dispatcher.specs.declared.dispatcher.Dispatcher.{Dispatcher}

-- the number of the ready list
abbrev pub ready : ℕ
ready = 0

-- no process lives
unfoldable pub new_dispatcher : Dispatcher
new_dispatcher = record { procs = no_processes; lists = no_lists; running = None; completed = [] }

-- a process is ready
abbrev pub IsReady : Dispatcher → ℕ → Type 0
IsReady d p = list_of d.lists p ≡ Some ready

-- the list that a process is in is the ready list
abbrev pub is_ready : Option ℕ → Bool
is_ready None = false
is_ready (Some list) = list == ready

-- the lists as a process begins, which is ready
abbrev pub begun_in : List (List Member) → ℕ → NewProcess → List (List Member)
begun_in lists p new = inserted lists ready (record { slot = p; priority = new.priority })

-- the dispatcher with other processes
abbrev pub with_procs : Table → Dispatcher → Dispatcher
with_procs procs d = record d { procs = procs }

-- a process begins in a slot, and is ready
abbrev pub admitted : ℕ → NewProcess → Dispatcher → Dispatcher
admitted p new d = record d { procs = added d.procs p new; lists = begun_in d.lists p new }

-- a process begins in that slot, if there is one
abbrev pub in_slot : NewProcess → Option ℕ → Dispatcher → Dispatcher
in_slot new None d = d
in_slot new (Some p) d = admitted p new d

-- interrupts are off, or an EI has not taken effect yet
abbrev pub is_held_off : Regs → Bool
is_held_off regs = not regs.iff1 || regs.shadow

-- the running process keeps the processor after its instruction: it is ready, and no interrupt may come
abbrev pub stays : Table → List (List Member) → Option ℕ → Bool
stays procs lists None = false
stays procs lists (Some p) = is_ready (list_of lists p) && is_held_off (process_in procs p).regs

-- who runs after a step, which was an instruction or not
unfoldable pub runner : Bool → Table → List (List Member) → Option ℕ → Option ℕ
runner instruction procs lists running =
    if instruction && stays procs lists running then running else first_of (list_at lists ready)

abbrev pub picked : Bool → Dispatcher → Dispatcher
picked instruction d = record d { running = runner instruction d.procs d.lists d.running }

-- a process is put after its equals
abbrev pub rotated_in : Table → List (List Member) → ℕ → List (List Member)
rotated_in procs lists p = rotated lists p (process_in procs p).priority

abbrev pub behind_equals : ℕ → Dispatcher → Dispatcher
behind_equals p d = record d { lists = rotated_in d.procs d.lists p }

-- a process gets another priority, and is put after its new equals
abbrev pub with_priority : ℕ → ℕ → Dispatcher → Dispatcher
with_priority p priority d =
    behind_equals p (with_procs (with_process d.procs p (record (process_in d.procs p) { priority = priority })) d)

-- the process that runs, if it is ready, is put after its equals
unfoldable pub lists_behind : Option ℕ → Table → List (List Member) → List (List Member)
lists_behind None procs lists = lists
lists_behind (Some p) procs lists = if is_ready (list_of lists p) then rotated_in procs lists p else lists

abbrev pub runner_behind : Dispatcher → Dispatcher
runner_behind d = record d { lists = lists_behind d.running d.procs d.lists }

-- a process keeps the processor if it is another one
abbrev pub runs_still : ℕ → Option ℕ → Option ℕ
runs_still p None = None
runs_still p (Some other) = if other == p then None else Some other

-- a process that doesn't run any more
abbrev pub at_rest : ℕ → Dispatcher → Dispatcher
at_rest p d = record d { running = runs_still p d.running }

-- a process stands in no list
abbrev pub unlisted : ℕ → Dispatcher → Dispatcher
unlisted p d = record d { lists = removed d.lists p }

-- a process takes the step at its gate again once it is ready: until then it is in no list and doesn't run
abbrev pub descheduled : ℕ → Dispatcher → Dispatcher
descheduled p d = at_rest p (unlisted p d)

-- the lists with a process in another one, or in one now, where its priority puts it
abbrev pub moved_in : Table → List (List Member) → ℕ → ℕ → List (List Member)
moved_in procs lists list p =
    inserted (removed lists p) list (record { slot = p; priority = (process_in procs p).priority })

abbrev pub moved : ℕ → ℕ → Dispatcher → Dispatcher
moved list p d = record d { lists = moved_in d.procs d.lists list p }

-- the lists as processes become ready, one after the other
unfoldable pub ready_in : Table → List ℕ → List (List Member) → List (List Member)
ready_in procs [] lists = lists
ready_in procs (p ∷ ps) lists = ready_in procs ps (moved_in procs lists ready p)

abbrev pub all_ready : List ℕ → Dispatcher → Dispatcher
all_ready ps d = record d { lists = ready_in d.procs ps d.lists }

-- those of a list, in order
abbrev pub slots_in : List (List Member) → ℕ → List ℕ
slots_in lists list = map (λ m. m.slot) (list_at lists list)

-- other processes whose held calls were completed
abbrev pub with_completed : List ℕ → Dispatcher → Dispatcher
with_completed ps d = record d { completed = ps }

-- the held calls of processes are completed: they become ready, in that order
abbrev pub all_woken : List ℕ → Dispatcher → Dispatcher
all_woken ps d = with_completed ps (all_ready ps d)

-- a process becomes ready, if there is one: the lists, and the dispatcher
unfoldable pub lists_ready : Option ℕ → Table → List (List Member) → List (List Member)
lists_ready None procs lists = lists
lists_ready (Some p) procs lists = moved_in procs lists ready p

abbrev pub made_ready : Option ℕ → Dispatcher → Dispatcher
made_ready o d = record d { lists = lists_ready o d.procs d.lists }

-- the held call of another process, if any, is completed, after those that were
unfoldable pub also_completed : Option ℕ → List ℕ → List ℕ
also_completed None ps = ps
also_completed (Some p) ps = ps ++ p ∷ []

abbrev pub with_other : Option ℕ → Dispatcher → Dispatcher
with_other o d = with_completed (also_completed o d.completed) (made_ready o d)

-- whose held call was completed first
abbrev pub first_completed : List ℕ → Option ℕ
first_completed [] = None
first_completed (p ∷ ps) = Some p
