use Rattle.std.proofs.Common.{◌∙◌, sym, ap, Some}
use Rattle.mpm_sched.specs.declared.entry.SchedEntry.{SchedEntry}
use Rattle.mpm_sched.proofs.Formed.{reads, no_time, no_date, entry_read}
use Rattle.mpm_sched.proofs.entry.read_moment.Goals as goal

pub two_at-hour-requires-clause-digits : goal.two_at-hour-requires-clause-digits
two_at-hour-requires-clause-digits c = (reads c.args.text.now c.requires.form).hour

pub two_at-minute-requires-clause-digits : goal.two_at-minute-requires-clause-digits
two_at-minute-requires-clause-digits c = (reads c.args.text.now c.requires.form).minute

pub returns-then-not-is_time : goal.returns-then-not-is_time
returns-then-not-is_time c = record {
  ok = tt;
  err = no_time c.args.text.now c.two_at-hour.result c.two_at-minute.result c.two_at-hour.ensures.number c.two_at-minute.ensures.number
      (sym c.is_time.ensures ∙ c.if-not-is_time.true);
}

pub returns-in-Some : goal.returns-in-Some
returns-in-Some c = record {
  ok = entry_read c.args.text.now c.in-Some.date c.two_at-hour.result c.two_at-minute.result c.requires.form c.two_at-hour.ensures.number c.two_at-minute.ensures.number
      (sym c.is_time.ensures ∙ c.if-not-is_time.false) (sym c.date_in.ensures ∙ c.in-Some.is)
      ∙ ap (λ (e : SchedEntry). Some e) (sym c.entry_at.ensures);
  err = tt;
}

pub returns-in-None : goal.returns-in-None
returns-in-None c = record { ok = tt; err = no_date c.args.text.now (sym c.date_in.ensures ∙ c.in-None.is) }
