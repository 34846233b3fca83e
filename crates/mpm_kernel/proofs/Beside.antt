-- What a change of the kernel leaves of a process, whoever makes it: whether it lives, where, whether its end is put off, and the function
-- that it called last. Its error mode and multi-sector count stay too, but where that function sets them.
use Rattle.std.proofs.Common.{◌≡◌, ◌≢◌, ◌∙◌, ℕ, ◌≤◌, List, length, inl, inr, sym, ap, get_or-set_other}
use Rattle.std.proofs.lemmas.Bool.{cases_eq, cases_lt}
use Rattle.std.proofs.lemmas.List.{set_past}
use Rattle.mpm_base.specs.Calls.{Taken, no_call}
use Rattle.mpm_base.specs.declared.functions.TheConstants.{SET_MULTI_SECTOR_COUNT, SET_BDOS_ERROR_MODE}
use Rattle.mpm_procs.specs.Table.{Table, lives, process_in, call_of, with_process, with_call, without}
use Rattle.mpm_procs.specs.declared.process.Process.{Process}
use Rattle.mpm_procs.proofs.MapLaws.{process_changed, process_kept, lives_changed, call_after, process_after, lives_after, call_changed, lives_without_other, process_without_other}

pub record StaysBeside (q : ℕ) (old new : Table) : Type 0 where
  pub living : lives new q ≡ lives old q
  pub seg : (process_in new q).seg ≡ (process_in old q).seg
  pub due : (process_in new q).abort_due ≡ (process_in old q).abort_due
  pub function : (call_of new q).function ≡ (call_of old q).function
  pub answers : (call_of old q).function ≢ SET_BDOS_ERROR_MODE → (process_in new q).error_mode ≡ (process_in old q).error_mode
  pub multi : (call_of old q).function ≢ SET_MULTI_SECTOR_COUNT → (process_in new q).multi ≡ (process_in old q).multi

pub beside_same : (q : ℕ) (old new : Table) → new ≡ old → StaysBeside q old new
beside_same q old new e = record {
  living = ap (λ procs. lives procs q) e;
  seg = ap (λ procs. (process_in procs q).seg) e;
  due = ap (λ procs. (process_in procs q).abort_due) e;
  function = ap (λ procs. (call_of procs q).function) e;
  answers = λ _. ap (λ procs. (process_in procs q).error_mode) e;
  multi = λ _. ap (λ procs. (process_in procs q).multi) e;
}

pub beside_both : (q : ℕ) (old middle new : Table) → StaysBeside q old middle → StaysBeside q middle new → StaysBeside q old new
beside_both q old middle new first second = record {
  living = second.living ∙ first.living;
  seg = second.seg ∙ first.seg;
  due = second.due ∙ first.due;
  function = second.function ∙ first.function;
  answers = λ other. second.answers (λ is. other (sym first.function ∙ is)) ∙ first.answers other;
  multi = λ other. second.multi (λ is. other (sym first.function ∙ is)) ∙ first.multi other;
}

-- a process is another one: a field of each that is as before in it, is as before

nothing_changed : (procs : Table) (p : ℕ) (process : Process) → length procs.processes ≤ p → with_process procs p process ≡ procs
unfolding with_process
nothing_changed procs p process past =
    ap (λ (processes : List Process). record procs { processes = processes }) (set_past procs.processes p process past)

pub field_kept : {X : Type 0} (field : Process → X) (procs : Table) (p q : ℕ) (process : Process) → field process ≡ field (process_in procs p)
    → field (process_in (with_process procs p process) q) ≡ field (process_in procs q)
field_kept field procs p q process same = elim (cases_eq q p) [
  | inl equal ↦ elim (cases_lt p (length procs.processes)) [
    | inl below ↦
        let at : process_in (with_process procs p process) q ≡ process =
        ap (process_in (with_process procs p process)) equal ∙ process_changed procs p process below in
        ap field at ∙ same ∙ ap (λ n. field (process_in procs n)) (sym equal)
    | inr past ↦ ap (λ (table : Table). field (process_in table q)) (nothing_changed procs p process past)
  ]
  | inr other ↦ ap field (process_kept procs p q process other)
]

setting_kept : {X : Type 0} (field : Process → X) (setter : ℕ) (procs : Table) (p q : ℕ) (process : Process)
    → ((call_of procs p).function ≢ setter → field process ≡ field (process_in procs p))
    → (call_of procs q).function ≢ setter → field (process_in (with_process procs p process) q) ≡ field (process_in procs q)
setting_kept field setter procs p q process kept sets = elim (cases_eq q p) [
  | inl equal ↦ field_kept field procs p q process (kept (λ is. sets (ap (λ n. (call_of procs n).function) equal ∙ is)))
  | inr other ↦ ap field (process_kept procs p q process other)
]

pub beside_changed : (procs : Table) (p q : ℕ) (process : Process) → process.seg ≡ (process_in procs p).seg → process.abort_due ≡ (process_in procs p).abort_due
    → ((call_of procs p).function ≢ SET_BDOS_ERROR_MODE → process.error_mode ≡ (process_in procs p).error_mode)
    → ((call_of procs p).function ≢ SET_MULTI_SECTOR_COUNT → process.multi ≡ (process_in procs p).multi) → StaysBeside q procs (with_process procs p process)
beside_changed procs p q process seg due mode multi = record {
  living = lives_changed procs p q process;
  seg = field_kept (λ (x : Process). x.seg) procs p q process seg;
  due = field_kept (λ (x : Process). x.abort_due) procs p q process due;
  function = ap (λ (call : Taken). call.function) (call_after procs p q process);
  answers = setting_kept (λ (x : Process). x.error_mode) SET_BDOS_ERROR_MODE procs p q process mode;
  multi = setting_kept (λ (x : Process). x.multi) SET_MULTI_SECTOR_COUNT procs p q process multi;
}

-- whoever it is, where another one changes
pub beside_other : (procs : Table) (p q : ℕ) (process : Process) → q ≢ p → StaysBeside q procs (with_process procs p process)
beside_other procs p q process other =
    let same = process_kept procs p q process other in
    record {
      living = lives_changed procs p q process;
      seg = ap (λ (x : Process). x.seg) same;
      due = ap (λ (x : Process). x.abort_due) same;
      function = ap (λ (call : Taken). call.function) (call_after procs p q process);
      answers = λ _. ap (λ (x : Process). x.error_mode) same;
      multi = λ _. ap (λ (x : Process). x.multi) same;
    }

-- a process keeps a call of the same function

no_call_changed : (procs : Table) (p : ℕ) (call : Taken) → length procs.calls ≤ p → with_call procs p call ≡ procs
unfolding with_call
no_call_changed procs p call past = ap (λ (calls : List Taken). record procs { calls = calls }) (set_past procs.calls p call past)

-- the call of one process stays where another asks
pub call_beside : (procs : Table) (p q : ℕ) (call : Taken) → q ≢ p → call_of (with_call procs p call) q ≡ call_of procs q
unfolding with_call
call_beside procs p q call other = get_or-set_other procs.calls p q call no_call other

function_kept : (procs : Table) (p q : ℕ) (call : Taken) → call.function ≡ (call_of procs p).function → (call_of (with_call procs p call) q).function ≡ (call_of procs q).function
function_kept procs p q call same = elim (cases_eq q p) [
  | inl equal ↦ elim (cases_lt p (length procs.calls)) [
    | inl below ↦
        ap (λ n. (call_of (with_call procs p call) n).function) equal ∙ ap (λ (x : Taken). x.function) (call_changed procs p call below)
        ∙ same ∙ ap (λ n. (call_of procs n).function) (sym equal)
    | inr past ↦ ap (λ (table : Table). (call_of table q).function) (no_call_changed procs p call past)
  ]
  | inr other ↦ ap (λ (x : Taken). x.function) (call_beside procs p q call other)
]

pub beside_call : (procs : Table) (p q : ℕ) (call : Taken) → call.function ≡ (call_of procs p).function → StaysBeside q procs (with_call procs p call)
beside_call procs p q call same = record {
  living = lives_after procs p q call;
  seg = ap (λ (x : Process). x.seg) (process_after procs p q call);
  due = ap (λ (x : Process). x.abort_due) (process_after procs p q call);
  function = function_kept procs p q call same;
  answers = λ _. ap (λ (x : Process). x.error_mode) (process_after procs p q call);
  multi = λ _. ap (λ (x : Process). x.multi) (process_after procs p q call);
}

-- where another one keeps it, whatever it calls
pub beside_others_call : (procs : Table) (p q : ℕ) (call : Taken) → q ≢ p → StaysBeside q procs (with_call procs p call)
beside_others_call procs p q call other = record {
  living = lives_after procs p q call;
  seg = ap (λ (x : Process). x.seg) (process_after procs p q call);
  due = ap (λ (x : Process). x.abort_due) (process_after procs p q call);
  function = ap (λ (x : Taken). x.function) (call_beside procs p q call other);
  answers = λ _. ap (λ (x : Process). x.error_mode) (process_after procs p q call);
  multi = λ _. ap (λ (x : Process). x.multi) (process_after procs p q call);
}

-- another one is gone

pub call_without_other : (procs : Table) (p q : ℕ) → q ≢ p → call_of (without procs p) q ≡ call_of procs q
unfolding without
call_without_other procs p q other = get_or-set_other procs.calls p q no_call no_call other

pub beside_gone : (procs : Table) (p q : ℕ) → q ≢ p → StaysBeside q procs (without procs p)
beside_gone procs p q other =
    let same = process_without_other procs p q other in
    record {
      living = lives_without_other procs p q other;
      seg = ap (λ (x : Process). x.seg) same;
      due = ap (λ (x : Process). x.abort_due) same;
      function = ap (λ (x : Taken). x.function) (call_without_other procs p q other);
      answers = λ _. ap (λ (x : Process). x.error_mode) same;
      multi = λ _. ap (λ (x : Process). x.multi) same;
    }
