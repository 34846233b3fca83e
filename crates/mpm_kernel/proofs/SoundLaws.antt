-- What a sound kernel stays through: its calls and its events. The laws on its parts are stated here too.
use Rattle.std.proofs.Common.{◌≡◌, ◌≢◌, ◌∙◌, ℕ, ◌+◌, ◌<◌, ◌≤◌, Bool, true, false, ◌==◌, List, [], ◌∷◌, if◌then◌else◌, refl, sym, ap, subst, arith}
use Rattle.std.specs.List.{AllByRecursion}
use Rattle.std.proofs.lemmas.Bool.Decides.{nat_tests}
use Rattle.std.proofs.lemmas.List.{length-set}
use Rattle.mpm_base.specs.Calls.{Taken}
use Rattle.mpm_ready.specs.Order.{in_list}
use Rattle.mpm_ready.specs.Tables.{list_at}
use Rattle.mpm_ready.proofs.TableLaws.{list_of_known}
use Rattle.mpm_flags.specs.declared.flags.Flag.{Flag}
use Rattle.mpm_flags.specs.declared.flags.FlagWait.TheVariants.{Waits as Begins, Underrun}
use Rattle.mpm_flags.specs.declared.flags.FlagSet.{FlagSet}
use Rattle.mpm_flags.specs.declared.flags.FlagSet.TheVariants.{Set as IsSet, Woke as Woken, Overrun}
use Rattle.mpm_flags.specs.declared.flags.Flag.TheVariants.{Clear, Set, Waits}
use Rattle.mpm_flags.specs.States.{flag_at, with_flag, waited_for, wait_answer, after_set, set_answer}
use Rattle.mpm_base.proofs.CountLaws.{one_if, one_if_true, one_if_false}
use Rattle.mpm_clock.specs.declared.moment.Moment.{Moment}
use Rattle.std.specs.Prelude.{nat_lt, slice_index_or}
use Rattle.mpm_base.proofs.Choices.{either}
use Rattle.mpm_clock.specs.Delays.{delays_of, woken_by_tick}
use Rattle.mpm_clock.specs.Times.{set_to, delayed, ticked}
use Rattle.mpm_clock.proofs.DelayLaws.{delays_ticked, delays_more_own, delays_more_other}
use Rattle.mpm_procs.specs.Table.{Table, lives, Lives, process_in, call_of}
use Rattle.mpm_procs.specs.declared.process.Process.{Process}
use Rattle.mpm_procs.proofs.MapLaws.{lives_changed}
use Rattle.mpm_dispatcher.specs.Dispatch.{ready, IsReady, at_rest, is_ready, behind_equals, with_priority, unlisted, moved, ready_in, all_ready, all_woken}
use Rattle.mpm_kernel.specs.Kernel.{Kernel, poll_list, is_waiter, flags_of, waits_of, IsSoundKernel, CompletedLive, with_changed, call_begun, afresh, dispatched}
use Rattle.mpm_procs.specs.Settings.{is_count, with_user, with_multi}
use Rattle.mpm_kernel.specs.Calls.{call_done, called}
use Rattle.mpm_kernel.specs.Called.{Called, valued, low_parameter, failure_code}
use Rattle.mpm_kernel.specs.Waiting.{polled, is_flag, waited, flag_waited, with_woken, signalled, set_if_flag, flag_set, process_delayed}
use Rattle.mpm_clock.specs.PackedDecimal.{names_time, named_moment}
use Rattle.mpm_kernel.specs.Dates.{date_set, date_answered, time_answered}
use Rattle.mpm_kernel.specs.Events.{MayCome, with_tick, clock_ticked, pollers, with_ready, device_ready, happens, happened, flag_came}
use Rattle.mpm_script.specs.Events.{IsEvent}
use Rattle.mpm_script.specs.declared.event.Event.{Event}
use Rattle.mpm_script.specs.declared.event.Event.TheVariants.{Tick, Key, Ready, Int}
use Rattle.mpm_kernel.proofs.PlaceLaws.{flags_with, all_by_counts, all_members}
pub use Rattle.mpm_kernel.proofs.Staying.{live_kept}
pub use Rattle.mpm_kernel.proofs.HandingLaws.{sound_completed, live_handed_out, completed_lives}
use Rattle.mpm_kernel.proofs.Staying.{StaysSound, Calls, nobody, called_if, same}
use Rattle.mpm_kernel.proofs.RowLaws.{by_table}
use Rattle.mpm_consoles.specs.Handling.{put_out}
use Rattle.mpm_base.specs.declared.unit.Unit.{Unit}
use Rattle.mpm_base.specs.declared.unit.Unit.TheVariants.{Console as ConsoleUnit, Printer as PrinterUnit}
use Rattle.mpm_kernel.specs.Columns.{wrote}
use Rattle.mpm_kernel.proofs.SpokeLaws.{wrote_itself, wrote_tabbed}
use Rattle.mpm_kernel.specs.Consoling.{key_came}
use Rattle.mpm_kernel.proofs.UnitCalls.{stays_unit_called}
use Rattle.mpm_kernel.proofs.InputCalls.{stays_console_called}
use Rattle.mpm_kernel.proofs.KeyLaws.{sound_key_came, procs_key_came, completed_key_came}
use Rattle.mpm_kernel.proofs.QueueCalls.{stays_queue_made, stays_queue_opened, stays_queue_deleted, stays_queue_read, stays_queue_written, stays_procedure_called}
pub use Rattle.mpm_kernel.proofs.Soundness.{sound_new, sound_changed, sound_process, sound_call, sound_devices, sound_spoke, first_is_ready, listed, listed_once, not_delayed, runner_lives, sound_picked, free_is_unlisted, sound_begun, sound_afresh, sound_admitted, sound_in_slot, completed_in_slot, sound_ready, sound_moved, sound_unlisted, sound_fewer, own_queues, sound_behind_equals, lives_behind_equals, sound_all_ready, procs_all_ready, running_all_ready, is_ready_true, sound_runner_behind, sound_with_completed, MayBeReady}

-- a byte comes to a unit
pub sound_wrote : (kernel : Kernel) (unit : Unit) (byte : ℕ) (tabs : Bool) → IsSoundKernel kernel → IsSoundKernel (wrote kernel unit byte tabs)
unfolding wrote put_out
sound_wrote kernel (ConsoleUnit n) byte true s = subst IsSoundKernel (sym (wrote_tabbed kernel n byte)) (sound_spoke kernel n _ s)
sound_wrote kernel (ConsoleUnit n) byte false s = subst IsSoundKernel (sym (wrote_itself kernel n byte)) (sound_spoke kernel n _ s)
sound_wrote kernel (PrinterUnit n) byte tabs s = s

-- the calls of the kernel

-- the process with a field changed
stays_changed : (p value : ℕ) (kernel : Kernel) (process : Process) → Calls p kernel → IsSoundKernel (with_changed kernel p process)
    → StaysSound p (valued value (with_changed kernel p process))
stays_changed p value kernel process c sound = record {
  sound = sound;
  lives = lives_changed kernel.dispatcher.procs p p process ∙ c.lives;
  completed = nobody (with_changed kernel p process) c.none;
}

-- which is none that soundness looks at
stays_process : (p value : ℕ) (kernel : Kernel) (process : Process) → Calls p kernel → process.console ≡ (process_in kernel.dispatcher.procs p).console
    → process.printer ≡ (process_in kernel.dispatcher.procs p).printer → process.multi ≡ (process_in kernel.dispatcher.procs p).multi
    → process.procedure ≡ (process_in kernel.dispatcher.procs p).procedure → StaysSound p (valued value (with_changed kernel p process))
stays_process p value kernel process c console printer multi procedure =
    stays_changed p value kernel process c (sound_process kernel p process c.sound c.lives console printer multi procedure)

stays_user : (byte p value : ℕ) (kernel : Kernel) → Calls p kernel → StaysSound p (valued value (with_changed kernel p (with_user byte (process_in kernel.dispatcher.procs p))))
stays_user byte p value kernel c = stays_process p value kernel _ c refl refl refl refl

multi_fits : (b : Bool) (count old : ℕ) → is_count count ≡ b → 1 ≤ old → old ≤ 16 → (1 ≤ (if b then count else old)) × ((if b then count else old) ≤ 16)
multi_fits true count old is some few = (grind (arith, nat_tests, is), grind (arith, nat_tests, is))
multi_fits false count old is some few = (some, few)

stays_multi : (count p value : ℕ) (kernel : Kernel) → Calls p kernel → StaysSound p (valued value (with_changed kernel p (with_multi count (process_in kernel.dispatcher.procs p))))
stays_multi count p value kernel c =
    let fit = c.sound.fit p c.lives in
    let multi = multi_fits (is_count count) count (process_in kernel.dispatcher.procs p).multi refl fit.some fit.few in
    stays_changed p value kernel _ c
    (sound_changed kernel p _ c.sound c.lives (record { console = fit.console; printer = fit.printer; some = multi.0; few = multi.1 }) (λ q. c.sound.inside p q c.lives))

completed_behind_equals : (kernel : Kernel) (p : ℕ) → (dispatched (behind_equals p) kernel).dispatcher.completed ≡ kernel.dispatcher.completed
completed_behind_equals kernel p = refl

stays_behind : (p value : ℕ) (kernel : Kernel) → Calls p kernel → StaysSound p (valued value (dispatched (behind_equals p) kernel))
stays_behind p value kernel c = record {
  sound = sound_behind_equals kernel p c.sound c.lives c.ready;
  lives = lives_behind_equals kernel p p c.lives;
  completed = nobody (dispatched (behind_equals p) kernel) (completed_behind_equals kernel p ∙ c.none);
}

stays_priority : (p value priority : ℕ) (kernel : Kernel) → Calls p kernel → StaysSound p (valued value (dispatched (with_priority p priority) kernel))
stays_priority p value priority kernel c =
    let process = record (process_in kernel.dispatcher.procs p) { priority = priority } in
    stays_behind p value (with_changed kernel p process) (record {
      sound = sound_process kernel p process c.sound c.lives refl refl refl refl;
      lives = lives_changed kernel.dispatcher.procs p p process ∙ c.lives;
      ready = c.ready;
      none = c.none;
    })

-- waiting for a device, for a flag, for the clock

stays_polled : (call : Taken) (p : ℕ) (kernel : Kernel) → Calls p kernel → StaysSound p (polled call p kernel)
unfolding polled
stays_polled call p kernel c =
    let device = low_parameter call in
    called_if p (nat_lt 15 device) _ _ (λ _. same p failure_code kernel c)
    (λ fits. called_if p (slice_index_or kernel.devices.ready device false) _ _ (λ _. same p 0 kernel c) (λ _. record {
      sound = sound_moved kernel (poll_list device) p c.sound c.lives (grind (arith, nat_tests, fits)) (listed_once kernel p ready c.sound c.ready);
      lives = c.lives;
      completed = nobody (dispatched (at_rest p) (dispatched (moved (poll_list device) p) kernel)) c.none;
    }))

-- a flag's state and the number of those for whom it waits
pub waiter_own : (p q : ℕ) → q ≡ p → one_if (is_waiter q (Waits p)) ≡ 1
waiter_own p q e = one_if_true (p == q) (grind (arith, nat_tests, e))

waiter_other : (p q : ℕ) → q ≢ p → one_if (is_waiter q (Waits p)) ≡ 0
waiter_other p q other = one_if_false (p == q) (grind (arith, nat_tests, other))

pub flags_from : (kernel : Kernel) (flag : ℕ) (old new : Flag) (q : ℕ) → IsSoundKernel kernel → flag < 32 → flag_at kernel.flags flag ≡ old
    → flags_of (with_flag kernel.flags flag new) q + one_if (is_waiter q old) ≡ flags_of kernel.flags q + one_if (is_waiter q new)
flags_from kernel flag old new q s below is =
    let P : Flag → Type 0 = λ f. flags_of (with_flag kernel.flags flag new) q + one_if (is_waiter q f) ≡ flags_of kernel.flags q + one_if (is_waiter q new) in
    subst P is (flags_with kernel.flags flag new q (omega (arith, s.flags, below)))

-- a flag for which nobody waits afterwards who didn't before
sound_flag : (kernel : Kernel) (flag : ℕ) (old new : Flag) → IsSoundKernel kernel → flag < 32 → flag_at kernel.flags flag ≡ old
    → ((q : ℕ) → one_if (is_waiter q new) ≤ one_if (is_waiter q old)) → IsSoundKernel (record kernel { flags = with_flag kernel.flags flag new })
sound_flag kernel flag old new s below is no_more =
    sound_fewer kernel (with_flag kernel.flags flag new) kernel.clock kernel.queues s (length-set kernel.flags flag new ∙ s.flags) (own_queues kernel s)
    (λ q. omega (arith, flags_from kernel flag old new q s below is, no_more q))

-- a process that is ready waits for no flag
waits_not : (kernel : Kernel) (flag other p : ℕ) → Calls p kernel → flag < 32 → flag_at kernel.flags flag ≡ Waits other → other ≡ p → ⊥
waits_not kernel flag other p c below is same =
    omega (arith, listed_once kernel p ready c.sound c.ready, flags_from kernel flag (Waits other) Clear p c.sound below is, waiter_own other p (sym same))

waited_if : (b : Bool) (p : ℕ) (kernel : Kernel) → (b ≡ true → ⊥) → StaysSound p (valued failure_code kernel)
    → StaysSound p (waited (if b then Begins else Underrun) p kernel)
unfolding waited
waited_if true p kernel never stays = absurd (never refl)
waited_if false p kernel never stays = stays

stays_waited : (state : Flag) (p flag : ℕ) (kernel : Kernel) → Calls p kernel → flag < 32 → flag_at kernel.flags flag ≡ state
    → StaysSound p (waited (wait_answer p state) p (record kernel { flags = with_flag kernel.flags flag (waited_for p state) }))
unfolding waited
stays_waited Clear p flag kernel c below is =
    let afterwards = with_flag kernel.flags flag (Waits p) in
    record {
      sound = sound_unlisted kernel p afterwards kernel.clock kernel.queues c.sound c.lives (length-set kernel.flags flag (Waits p) ∙ c.sound.flags)
          (own_queues kernel c.sound)
          (omega (arith, listed_once kernel p ready c.sound c.ready, flags_from kernel flag Clear (Waits p) p c.sound below is, waiter_own p p refl))
          (λ q other. omega (arith, flags_from kernel flag Clear (Waits p) q c.sound below is, waiter_other p q other));
      lives = c.lives;
      completed = nobody (dispatched (at_rest p) (dispatched (unlisted p) (record kernel { flags = afterwards }))) c.none;
    }
stays_waited Set p flag kernel c below is = record {
  sound = sound_flag kernel flag Set Clear c.sound below is (λ q. omega arith);
  lives = c.lives;
  completed = nobody (record kernel { flags = with_flag kernel.flags flag Clear }) c.none;
}
stays_waited (Waits other) p flag kernel c below is =
    let afterwards = record kernel { flags = with_flag kernel.flags flag (Waits other) } in
    waited_if (other == p) p afterwards (λ same. waits_not kernel flag other p c below is (grind (arith, nat_tests, same))) (record {
      sound = sound_flag kernel flag (Waits other) (Waits other) c.sound below is (λ q. omega arith);
      lives = c.lives;
      completed = nobody afterwards c.none;
    })

pub flag_below : (flag : ℕ) → is_flag flag ≡ true → flag < 32
flag_below flag is = grind (arith, nat_tests, is)

stays_flag_waited : (call : Taken) (p : ℕ) (kernel : Kernel) → Calls p kernel → StaysSound p (flag_waited call p kernel)
unfolding flag_waited
stays_flag_waited call p kernel c =
    let flag = low_parameter call in
    called_if p (is_flag flag) _ _ (λ is. stays_waited (flag_at kernel.flags flag) p flag kernel c (flag_below flag is) refl) (λ _. same p failure_code kernel c)

-- a flag is set
record Woke (kernel : Kernel) : Type 0 where
  pub sound : IsSoundKernel kernel
  pub completed : CompletedLive kernel

-- who waits for a flag lives, and waits for nothing else
pub waiter_waits : (kernel : Kernel) (flag q : ℕ) → IsSoundKernel kernel → flag < 32 → flag_at kernel.flags flag ≡ Waits q → 0 < waits_of kernel q
waiter_waits kernel flag q s below is = omega (arith, flags_from kernel flag (Waits q) Clear q s below is, waiter_own q q refl)

pub waiter_lives : (kernel : Kernel) (flag q : ℕ) → IsSoundKernel kernel → flag < 32 → flag_at kernel.flags flag ≡ Waits q → Lives kernel.dispatcher.procs q
waiter_lives kernel flag q s below is = s.live q (omega (arith, waiter_waits kernel flag q s below is))

woke_by : (state : Flag) (flag : ℕ) (kernel : Kernel) → IsSoundKernel kernel → CompletedLive kernel → flag < 32 → flag_at kernel.flags flag ≡ state
    → Woke (with_woken (set_answer state) (record kernel { flags = with_flag kernel.flags flag (after_set state) }))
unfolding with_woken ready_in
woke_by Clear flag kernel s live below is = record { sound = sound_flag kernel flag Clear Set s below is (λ q. omega arith); completed = live }
woke_by Set flag kernel s live below is = record { sound = sound_flag kernel flag Set Set s below is (λ q. omega arith); completed = live }
woke_by (Waits p) flag kernel s live below is =
    let afterwards = record kernel { flags = with_flag kernel.flags flag Clear } in
    let lives = waiter_lives kernel flag p s below is in
    let nowhere_else : waits_of afterwards p ≡ 0 =
    omega (arith, s.once p, flags_from kernel flag (Waits p) Clear p s below is, waiter_own p p refl) in
    record {
      sound = sound_with_completed _ (p ∷ []) (sound_ready afterwards p (sound_flag kernel flag (Waits p) Clear s below is (λ q. omega arith)) lives nowhere_else);
      completed = (lives, tt);
    }

woke_signalled : (flag : ℕ) (kernel : Kernel) → IsSoundKernel kernel → CompletedLive kernel → flag < 32 → Woke (signalled flag kernel)
unfolding signalled
woke_signalled flag kernel s live below = woke_by (flag_at kernel.flags flag) flag kernel s live below refl

woke_flag_came : (flag : ℕ) (kernel : Kernel) → IsSoundKernel kernel → CompletedLive kernel → Woke (flag_came flag kernel)
unfolding flag_came
woke_flag_came flag kernel s live =
    either Woke (is_flag flag) _ _ (λ is. woke_signalled flag kernel s live (flag_below flag is)) (λ _. record { sound = s; completed = live })

pub procs_with_woken : (answer : FlagSet) (kernel : Kernel) → (with_woken answer kernel).dispatcher.procs ≡ kernel.dispatcher.procs
unfolding with_woken
procs_with_woken IsSet kernel = refl
procs_with_woken Overrun kernel = refl
procs_with_woken (Woken p) kernel = procs_all_ready (p ∷ []) kernel

pub procs_signalled : (flag : ℕ) (kernel : Kernel) → (signalled flag kernel).dispatcher.procs ≡ kernel.dispatcher.procs
unfolding signalled
procs_signalled flag kernel =
    procs_with_woken (set_answer (flag_at kernel.flags flag)) (record kernel { flags = with_flag kernel.flags flag (after_set (flag_at kernel.flags flag)) })

procs_flag_came : (flag : ℕ) (kernel : Kernel) → (flag_came flag kernel).dispatcher.procs ≡ kernel.dispatcher.procs
unfolding flag_came
procs_flag_came flag kernel = either (λ (k : Kernel). k.dispatcher.procs ≡ kernel.dispatcher.procs) (is_flag flag) _ _ (λ _. procs_signalled flag kernel) (λ _. refl)

stays_flag_set : (call : Taken) (p : ℕ) (kernel : Kernel) → Calls p kernel → StaysSound p (flag_set call kernel)
unfolding set_if_flag
stays_flag_set call p kernel c =
    let flag = low_parameter call in
    called_if p (is_flag flag) _ _
    (λ is. let woke = woke_signalled flag kernel c.sound (nobody kernel c.none) (flag_below flag is) in
    record { sound = woke.sound; lives = ap (λ procs. lives procs p) (procs_signalled flag kernel) ∙ c.lives; completed = woke.completed })
    (λ _. same p failure_code kernel c)

delays_delayed : (kernel : Kernel) (p ticks q : ℕ) → q ≢ p → delays_of (delayed kernel.clock p ticks).delays q ≡ delays_of kernel.clock.delays q
unfolding delayed
delays_delayed kernel p ticks q other = delays_more_other kernel.clock.delays (record { slot = p; ticks = ticks }) q (λ e. other (sym e))

delays_delayed_own : (kernel : Kernel) (p ticks : ℕ) → delays_of (delayed kernel.clock p ticks).delays p ≡ delays_of kernel.clock.delays p + 1
unfolding delayed
delays_delayed_own kernel p ticks = delays_more_own kernel.clock.delays (record { slot = p; ticks = ticks }) p refl

stays_delayed : (call : Taken) (p : ℕ) (kernel : Kernel) → Calls p kernel → StaysSound p (process_delayed call p kernel)
unfolding process_delayed
stays_delayed call p kernel c =
    let clock = delayed kernel.clock p call.word in
    called_if p (call.word == 0) _ _ (λ _. stays_behind p 0 kernel c) (λ _. record {
      sound = sound_unlisted kernel p kernel.flags clock kernel.queues c.sound c.lives c.sound.flags (own_queues kernel c.sound)
          (omega (arith, listed_once kernel p ready c.sound c.ready, delays_delayed_own kernel p call.word))
          (λ q other. omega (arith, delays_delayed kernel p call.word q other));
      lives = c.lives;
      completed = nobody (dispatched (at_rest p) (record (dispatched (unlisted p) kernel) { clock = clock })) c.none;
    })

-- the date and the time
sound_set : (kernel : Kernel) (moment : Moment) → IsSoundKernel kernel → IsSoundKernel (record kernel { clock = set_to kernel.clock moment })
unfolding set_to
sound_set kernel moment s =
    sound_fewer kernel kernel.flags (set_to kernel.clock moment) kernel.queues s s.flags (own_queues kernel s) (λ q. omega arith)

stays_date_set : (call : Taken) (p : ℕ) (kernel : Kernel) → Calls p kernel → StaysSound p (date_set call kernel)
unfolding date_set
stays_date_set call p kernel c = called_if p (names_time call) _ _
    (λ _. record {
      sound = sound_set kernel (named_moment call) c.sound;
      lives = c.lives;
      completed = nobody (record kernel { clock = set_to kernel.clock (named_moment call) }) c.none;
    })
    (λ _. same p failure_code kernel c)

stays_answered : (p : ℕ) (kernel : Kernel) (called : Called) → called.kernel ≡ kernel → Calls p kernel → StaysSound p called
stays_answered p kernel called e c =
    let s = same p 0 kernel c in
    let P : Kernel → Type 0 = λ k. IsSoundKernel k × (Lives k.dispatcher.procs p × CompletedLive k) in
    let t : P called.kernel = subst P (sym e) (s.sound, (s.lives, s.completed)) in
    record { sound = t.0; lives = t.1.0; completed = t.1.1 }

kernel_date_answered : (call : Taken) (kernel : Kernel) → (date_answered call kernel).kernel ≡ kernel
unfolding date_answered
kernel_date_answered call kernel = refl

kernel_time_answered : (call : Taken) (kernel : Kernel) → (time_answered call kernel).kernel ≡ kernel
unfolding time_answered
kernel_time_answered call kernel = refl

stays_call_done : (call : Taken) (p : ℕ) (kernel : Kernel) → Calls p kernel → StaysSound p (call_done call p (process_in kernel.dispatcher.procs p) kernel)
stays_call_done call p kernel c =
    let s = same p 0 kernel c in
    by_table (StaysSound p) call p (process_in kernel.dispatcher.procs p) kernel (
      λ _. record { sound = s.sound; lives = s.lives; completed = s.completed },
      (
        λ _. stays_console_called call p kernel c,
        (
          λ _. stays_unit_called call p kernel c,
          (
            λ _. same p _ kernel c,
            (
              λ _. same p _ kernel c,
              (
                λ _. stays_process p 0 kernel _ c refl refl refl refl,
                (
                  λ _. stays_user (low_parameter call) p _ kernel c,
                  (
                    λ _. stays_multi (low_parameter call) p _ kernel c,
                    (
                      λ _. stays_process p 0 kernel _ c refl refl refl refl,
                      (
                        λ _. stays_date_set call p kernel c,
                        (
                          λ _. stays_answered p kernel _ (kernel_date_answered call kernel) c,
                          (
                            λ _. stays_process p 0 kernel _ c refl refl refl refl,
                            (
                              λ _. stays_polled call p kernel c,
                              (
                                λ _. stays_flag_waited call p kernel c,
                                (
                                  λ _. stays_flag_set call p kernel c,
                                  (
                                    λ _. stays_queue_made call p kernel c,
                                    (
                                      λ _. stays_queue_opened call p kernel c,
                                      (
                                        λ _. stays_queue_deleted call p kernel c,
                                        (
                                          λ _. stays_queue_read true call p kernel c,
                                          (
                                            λ _. stays_queue_read false call p kernel c,
                                            (
                                              λ _. stays_queue_written true call p kernel c,
                                              (
                                                λ _. stays_queue_written false call p kernel c,
                                                (
                                                  λ _. stays_delayed call p kernel c,
                                                  (
                                                    λ _. stays_behind p 0 kernel c,
                                                    (
                                                      λ _. stays_priority p 0 (low_parameter call) kernel c,
                                                      (
                                                        λ _. stays_procedure_called call p kernel c,
                                                        (
                                                          λ _. stays_answered p kernel _ (kernel_time_answered call kernel) c,
                                                          tt,
                                                        ),
                                                      ),
                                                    ),
                                                  ),
                                                ),
                                              ),
                                            ),
                                          ),
                                        ),
                                      ),
                                    ),
                                  ),
                                ),
                              ),
                            ),
                          ),
                        ),
                      ),
                    ),
                  ),
                ),
              ),
            ),
          ),
        ),
      ),
    )
    (same p _ kernel c)

-- a process that is ready may call
begun : (p : ℕ) (echoes : Bool) (kernel : Kernel) → IsSoundKernel kernel → Lives kernel.dispatcher.procs p → IsReady kernel.dispatcher p → Calls p (call_begun echoes kernel)
begun p echoes kernel s h is_ready = record { sound = sound_begun echoes kernel s; lives = h; ready = is_ready; none = refl }

-- and so his call, whether or not it echoes, leaves the kernel sound
pub stays_called : (p : ℕ) (echoes : Bool) (kernel : Kernel) → IsSoundKernel kernel → Lives kernel.dispatcher.procs p → IsReady kernel.dispatcher p
    → StaysSound p (call_done (call_of kernel.dispatcher.procs p) p (process_in kernel.dispatcher.procs p) (call_begun echoes kernel))
stays_called p echoes kernel s h is_ready = stays_call_done (call_of kernel.dispatcher.procs p) p _ (begun p echoes kernel s h is_ready)

pub sound_called : (p : ℕ) (kernel : Kernel) → IsSoundKernel kernel → Lives kernel.dispatcher.procs p → IsReady kernel.dispatcher p → IsSoundKernel (called p kernel).kernel
sound_called p kernel s h is_ready = (stays_called p _ kernel s h is_ready).sound

pub lives_called : (p : ℕ) (kernel : Kernel) → IsSoundKernel kernel → Lives kernel.dispatcher.procs p → IsReady kernel.dispatcher p → Lives (called p kernel).kernel.dispatcher.procs p
lives_called p kernel s h is_ready = (stays_called p _ kernel s h is_ready).lives

pub live_called : (p : ℕ) (kernel : Kernel) → IsSoundKernel kernel → Lives kernel.dispatcher.procs p → IsReady kernel.dispatcher p → CompletedLive (called p kernel).kernel
live_called p kernel s h is_ready = (stays_called p _ kernel s h is_ready).completed

-- events

-- who is woken by a tick lived, and waits for nothing after it
sound_ticked : (kernel : Kernel) → IsSoundKernel kernel → IsSoundKernel (with_tick kernel)
unfolding ticked
sound_ticked kernel s =
    sound_fewer kernel kernel.flags (ticked kernel.clock) kernel.queues s s.flags (own_queues kernel s) (λ q. omega (arith, delays_ticked kernel.clock.delays q))

may_by_tick : (kernel : Kernel) → IsSoundKernel kernel
    → AllByRecursion (MayBeReady (with_tick kernel)) (woken_by_tick kernel.clock.delays)
unfolding ticked
may_by_tick kernel s =
    all_by_counts (MayBeReady (with_tick kernel)) (woken_by_tick kernel.clock.delays)
    (λ p some. (s.live p (omega (arith, delays_ticked kernel.clock.delays p, some)), omega (arith, delays_ticked kernel.clock.delays p, some, s.once p)))

all_live : (kernel : Kernel) (ps : List ℕ) → AllByRecursion (MayBeReady kernel) ps → AllByRecursion (λ p. Lives kernel.dispatcher.procs p) ps
all_live kernel [] may = tt
all_live kernel (p ∷ ps) may = (may.0.0, all_live kernel ps may.1)

-- processes that wait for nothing else are woken
woke_all : (ps : List ℕ) (kernel : Kernel) → IsSoundKernel kernel → AllByRecursion (MayBeReady kernel) ps → Woke (dispatched (all_woken ps) kernel)
woke_all ps kernel s may =
    let P : Table → Type 0 = λ procs. AllByRecursion (λ p. Lives procs p) ps in
    record {
      sound = sound_with_completed (dispatched (all_ready ps) kernel) ps (sound_all_ready ps kernel s may);
      completed = subst P (sym (procs_all_ready ps kernel)) (all_live kernel ps may);
    }

-- in a tick, and as a device becomes ready
pub live_by_tick : (kernel : Kernel) → IsSoundKernel kernel → AllByRecursion (λ p. Lives kernel.dispatcher.procs p) (woken_by_tick kernel.clock.delays)
live_by_tick kernel s = all_live (with_tick kernel) (woken_by_tick kernel.clock.delays) (may_by_tick kernel s)

live_same : (old new : Kernel) → new.dispatcher.procs ≡ old.dispatcher.procs → new.dispatcher.completed ≡ old.dispatcher.completed → CompletedLive old → CompletedLive new
live_same old new procs completed live =
    let P : Table → Type 0 = λ t. AllByRecursion (λ p. Lives t p) old.dispatcher.completed in
    let Q : List ℕ → Type 0 = λ ps. AllByRecursion (λ p. Lives new.dispatcher.procs p) ps in
    subst Q (sym completed) (subst P (sym procs) live)

woke_clock_ticked : (kernel : Kernel) → IsSoundKernel kernel → Woke (clock_ticked kernel)
unfolding clock_ticked
woke_clock_ticked kernel s =
    let afterwards = dispatched (all_woken (woken_by_tick kernel.clock.delays)) (with_tick kernel) in
    let woke : Woke afterwards = woke_all (woken_by_tick kernel.clock.delays) (with_tick kernel) (sound_ticked kernel s) (may_by_tick kernel s) in
    record {
      sound = sound_runner_behind afterwards woke.sound;
      completed = woke.completed;
    }

-- who polls a device lives, and waits for nothing else
pub poller_in_list : (kernel : Kernel) (device p : ℕ) → IsSoundKernel kernel → in_list p (list_at kernel.dispatcher.lists (poll_list device)) ≡ true → MayBeReady kernel p
poller_in_list kernel device p s here =
    let list = list_of_known kernel.dispatcher.lists p (poll_list device) s.table here in
    (listed kernel p (poll_list device) s list, listed_once kernel p (poll_list device) s list)

pub may_by_device : (kernel : Kernel) (device : ℕ) → IsSoundKernel kernel → AllByRecursion (MayBeReady kernel) (pollers kernel device)
unfolding pollers
may_by_device kernel device s =
    all_members (MayBeReady kernel) (list_at kernel.dispatcher.lists (poll_list device)) (λ p here. poller_in_list kernel device p s here)

woke_device_ready : (kernel : Kernel) (device byte : ℕ) → IsSoundKernel kernel → Woke (device_ready kernel device byte)
unfolding device_ready
woke_device_ready kernel device byte s =
    woke_all (pollers kernel device) (with_ready kernel device byte) (sound_devices kernel _ s) (may_by_device kernel device s)

woke_happens : (event : Event) (kernel : Kernel) → MayCome event → IsSoundKernel kernel → CompletedLive kernel → Woke (happens event kernel)
unfolding happens
woke_happens Tick kernel may s live = woke_clock_ticked kernel s
woke_happens (Key console byte) kernel may s live =
    record { sound = sound_key_came console byte kernel s; completed = live_same kernel (key_came console byte kernel) (procs_key_came console byte kernel) (completed_key_came console byte kernel) live }
woke_happens (Ready device byte) kernel may s live = woke_device_ready kernel device byte s
woke_happens (Int flag) kernel may s live = woke_flag_came flag kernel s live

pub sound_happened : (event : Event) (kernel : Kernel) → MayCome event → IsSoundKernel kernel → IsSoundKernel (happened event kernel)
sound_happened event kernel may s = (woke_happens event (afresh kernel) may (sound_afresh kernel s) tt).sound

pub live_happened : (event : Event) (kernel : Kernel) → MayCome event → IsSoundKernel kernel → CompletedLive (happened event kernel)
live_happened event kernel may s = (woke_happens event (afresh kernel) may (sound_afresh kernel s) tt).completed

-- no event changes a process or the call that it keeps
procs_happens : (event : Event) (kernel : Kernel) → (happens event kernel).dispatcher.procs ≡ kernel.dispatcher.procs
unfolding happens clock_ticked device_ready
procs_happens Tick kernel =
    procs_all_ready (woken_by_tick kernel.clock.delays) (with_tick kernel)
procs_happens (Key console byte) kernel = procs_key_came console byte kernel
procs_happens (Ready device byte) kernel = procs_all_ready (pollers kernel device) (with_ready kernel device byte)
procs_happens (Int flag) kernel = procs_flag_came flag kernel

pub procs_happened : (event : Event) (kernel : Kernel) → (happened event kernel).dispatcher.procs ≡ kernel.dispatcher.procs
procs_happened event kernel = procs_happens event (afresh kernel)

-- what a script may ask for may come
pub may_come : (event : Event) → IsEvent event → MayCome event
may_come Tick is = tt
may_come (Key console byte) is = tt
may_come (Ready device byte) is = is
may_come (Int flag) is = omega (arith, is.1)
