use Rattle.std.proofs.Common.{◌∙◌, ◌∷◌, ◌++◌, [], not, Bool, length, take, sym, ap, arith}
use Rattle.mpm_opens.specs.declared.kinds.RecordLock.{RecordLock}
use Rattle.mpm_opens.specs.declared.limits.TheConstants.{LOCKS}
use Rattle.mpm_opens.specs.Locks.{locks_without, is_lock_given_back, is_in_set}
use Rattle.mpm_opens.proofs.Walks.{filter_kept, filter_dropped, filter_room}
use Rattle.mpm_opens.proofs.locks.Locks.give_back.Goals as goal
use Rattle.mpm_opens.proofs.locks.Locks.give_back.Goals.{then-not-is_given_back, else-not-is_given_back}

pub loop-lock-init : goal.loop-lock-init
unfolding locks_without
loop-lock-init c = c.new-left.ensures

pub push-requires : goal.push-requires
unfolding locks_without
push-requires c =
    let test : RecordLock → Bool = λ lock. not (is_lock_given_back c.args.p (is_in_set c.args.locks.now) lock) in
    omega (arith, ap length c.loop-lock.invariant, filter_room test c.as_slice-lock-items.result.now c.loop-lock.lock-index LOCKS (omega arith) c.as_slice-lock-items.ensures.few)

pub loop-lock-preserved : goal.loop-lock-preserved
unfolding locks_without
loop-lock-preserved c =
    let test : RecordLock → Bool = λ lock. not (is_lock_given_back c.args.p (is_in_set c.args.locks.now) lock) in
    let xs = c.as_slice-lock-items.result.now in
    let i = c.loop-lock.lock-index in
    let x = c.lock-item.result in
    let passes = ap test (sym c.lock-item.is) ∙ ap not (sym c.is_given_back.ensures) in
    elim c.if-not-is_given_back.branch [
      | then-not-is_given_back w ↦ w.left-is ∙ w.push.ensures
          ∙ ap (λ l. l ++ x ∷ []) c.loop-lock.invariant
          ∙ ap (λ d. locks_without (take i xs) c.args.p (is_in_set c.args.locks.now) ++ d ∷ []) c.lock-item.is
          ∙ sym (filter_kept test xs i x (omega arith) (passes ∙ ap not w.if-not-is_given_back.true))
      | else-not-is_given_back w ↦ w.left-is ∙ c.loop-lock.invariant
          ∙ sym (filter_dropped test xs i x (omega arith) (passes ∙ ap not w.if-not-is_given_back.false))
    ]
