-- The queues of a machine as it is run: each can be made, and has its number.
use Rattle.std.proofs.Common.{◌≡◌, ◌∙◌, ℕ, Bool, true, false, Option, Some, None, refl, ap, arith}
use Rattle.mpm_base.specs.declared.number.Name8.{Name8}
use Rattle.mpm_queues.specs.Queue.{new_queue, no_queue}
use Rattle.mpm_queues.specs.Queues.{Queues, no_queues, found, lowest, lowest_free, make_error, made}
use Rattle.mpm_kernel.specs.Kernel.{Kernel, IsSoundKernel}
use Rattle.mpm_kernel.specs.Queueing.{with_queue, with_system_queue, made_at}
use Rattle.mpm_kernel.proofs.SystemQueues.{may_make_first, sound_system_queue, only_systems_again}
use Rattle.mpm_system.specs.Opening.{command_queue, with_command_queue, spool_queue, stop_queue, with_spool_queues, schedule_queue, schedule_number, command_queues, spooling_queues, OnlyHas}

-- what a queue asks for is asked of the queues that there are
pub room_of : (kernel : Kernel) (queues : Queues) (name : Name8) (width count : ℕ) → OnlyHas queues kernel → make_error queues name width count ≡ None → make_error kernel.queues name width count ≡ None
room_of kernel queues name width count only room = ap (λ (q : Queues). make_error q name width count) only.are ∙ room

-- a queue more, with the lowest number that is free among them
more_are : (kernel : Kernel) (queues : Queues) (q : ℕ) (name : Name8) (width count : ℕ) → kernel.queues ≡ queues → lowest_free queues ≡ Some q
    → (with_system_queue kernel name width count).queues ≡ made queues q name width count
unfolding with_system_queue with_queue
more_are kernel queues q name width count are free =
    ap (λ (t : Queues). made_at (lowest_free t) t name width count) are ∙ ap (λ (o : Option ℕ). made_at o queues name width count) free

has_more : (kernel : Kernel) (queues : Queues) (q : ℕ) (name : Name8) (width count : ℕ) → IsSoundKernel kernel → OnlyHas queues kernel → lowest_free queues ≡ Some q
    → OnlyHas (made queues q name width count) (with_system_queue kernel name width count)
has_more kernel queues q name width count s only free =
    record { systems = only_systems_again kernel name width count s only.systems; are = more_are kernel queues q name width count only.are free }

-- the command queue is the first

pub command_room : make_error no_queues command_queue 130 15 ≡ None
command_room = may_make_first command_queue 130 15 (omega arith) (omega arith)

first_number : lowest_free no_queues ≡ Some 0
unfolding no_queues lowest
first_number = refl

pub has_command : (kernel : Kernel) → IsSoundKernel kernel → OnlyHas no_queues kernel → OnlyHas command_queues (with_command_queue kernel)
has_command kernel s only = has_more kernel no_queues 0 command_queue 130 15 s only first_number

-- the spooler's come after it

pub spool_room : make_error command_queues spool_queue 128 8 ≡ None
unfolding no_queues made make_error new_queue no_queue lowest
spool_room = refl

second_number : lowest_free command_queues ≡ Some 1
unfolding no_queues made lowest
second_number = refl

abbrev pub first_spooling : Queues
first_spooling = made command_queues 1 spool_queue 128 8

pub stop_room : make_error first_spooling stop_queue 1 1 ≡ None
unfolding no_queues made make_error new_queue no_queue lowest
stop_room = refl

third_number : lowest_free first_spooling ≡ Some 2
unfolding no_queues made lowest
third_number = refl

pub has_first_spooling : (kernel : Kernel) → IsSoundKernel kernel → OnlyHas command_queues kernel → OnlyHas first_spooling (with_system_queue kernel spool_queue 128 8)
has_first_spooling kernel s only = has_more kernel command_queues 1 spool_queue 128 8 s only second_number

pub sound_first_spooling : (kernel : Kernel) → IsSoundKernel kernel → OnlyHas command_queues kernel → IsSoundKernel (with_system_queue kernel spool_queue 128 8)
sound_first_spooling kernel s only = sound_system_queue kernel spool_queue 128 8 s only.systems (room_of kernel command_queues spool_queue 128 8 only spool_room)

pub has_spooling : (kernel : Kernel) → IsSoundKernel kernel → OnlyHas command_queues kernel → OnlyHas (spooling_queues true) (with_spool_queues kernel)
has_spooling kernel s only =
    has_more (with_system_queue kernel spool_queue 128 8) first_spooling 2 stop_queue 1 1 (sound_first_spooling kernel s only) (has_first_spooling kernel s only) third_number

-- and the scheduler's is the next one

pub schedule_room : (spool : Bool) → make_error (spooling_queues spool) schedule_queue 128 8 ≡ None
unfolding no_queues made make_error new_queue no_queue lowest
schedule_room false = refl
schedule_room true = refl

schedule_at : (spool : Bool) → lowest_free (spooling_queues spool) ≡ Some (schedule_number spool)
unfolding no_queues made lowest
schedule_at false = refl
schedule_at true = refl

pub has_schedule : (kernel : Kernel) (spool : Bool) → IsSoundKernel kernel → OnlyHas (spooling_queues spool) kernel
    → OnlyHas (made (spooling_queues spool) (schedule_number spool) schedule_queue 128 8) (with_system_queue kernel schedule_queue 128 8)
has_schedule kernel spool s only = has_more kernel (spooling_queues spool) (schedule_number spool) schedule_queue 128 8 s only (schedule_at spool)

-- by their names they are found at these numbers, as the calls of the spooler and of the scheduler name them
pub spool_found : found (spooling_queues true) spool_queue ≡ Some 1
unfolding no_queues made new_queue no_queue lowest
spool_found = refl

pub stop_found : found (spooling_queues true) stop_queue ≡ Some 2
unfolding no_queues made new_queue no_queue lowest
stop_found = refl

pub schedule_found : (spool : Bool) → found (made (spooling_queues spool) (schedule_number spool) schedule_queue 128 8) schedule_queue ≡ Some (schedule_number spool)
unfolding no_queues made new_queue no_queue lowest
schedule_found false = refl
schedule_found true = refl
