use Rattle.std.proofs.Common.{◌∙◌, ℕ, ◌%◌, sym, subst}
use Rattle.mpm_kernel.specs.Called.{Yields}
use Rattle.mpm_kernel.specs.Waiting.{set_if_flag}
use Rattle.mpm_kernel.proofs.RowLaws.{yields_at}
use Rattle.mpm_kernel.proofs.kernel.Kernel.serve_begun.Goals as goal

pub returns-in-104 : goal.returns-in-104
returns-in-104 c = yields_at c.args.p c.args.self.now 104 _ _ _ (sym c.requires.function ∙ c.in-104.is) c.set_date.ensures

pub returns-in-131 : goal.returns-in-131
returns-in-131 c = yields_at c.args.p c.args.self.now 131 _ _ _ (sym c.requires.function ∙ c.in-131.is) c.poll.ensures

pub returns-in-132 : goal.returns-in-132
returns-in-132 c = yields_at c.args.p c.args.self.now 132 _ _ _ (sym c.requires.function ∙ c.in-132.is) c.wait_flag.ensures

pub returns-in-133 : goal.returns-in-133
returns-in-133 c =
    let P : ℕ → Type 0 = λ word. Yields (set_if_flag (word % 256) c.args.self.now) c.set_flag.new.self c.set_flag.result c.set_flag.new.reply in
    yields_at c.args.p c.args.self.now 133 _ _ _ (sym c.requires.function ∙ c.in-133.is) (subst P c.requires.word c.set_flag.ensures)

pub returns-in-134 : goal.returns-in-134
returns-in-134 c = yields_at c.args.p c.args.self.now 134 _ _ _ (sym c.requires.function ∙ c.in-134.is) c.make_queue.ensures

pub returns-in-135 : goal.returns-in-135
returns-in-135 c = yields_at c.args.p c.args.self.now 135 _ _ _ (sym c.requires.function ∙ c.in-135.is) c.open_queue.ensures

pub returns-in-136 : goal.returns-in-136
returns-in-136 c = yields_at c.args.p c.args.self.now 136 _ _ _ (sym c.requires.function ∙ c.in-136.is) c.delete_queue.ensures

pub returns-in-137 : goal.returns-in-137
returns-in-137 c = yields_at c.args.p c.args.self.now 137 _ _ _ (sym c.requires.function ∙ c.in-137.is) c.read_queue.ensures

pub returns-in-138 : goal.returns-in-138
returns-in-138 c = yields_at c.args.p c.args.self.now 138 _ _ _ (sym c.requires.function ∙ c.in-138.is) c.read_queue-in-138.ensures

pub returns-in-139 : goal.returns-in-139
returns-in-139 c = yields_at c.args.p c.args.self.now 139 _ _ _ (sym c.requires.function ∙ c.in-139.is) c.write_queue.ensures

pub returns-in-140 : goal.returns-in-140
returns-in-140 c = yields_at c.args.p c.args.self.now 140 _ _ _ (sym c.requires.function ∙ c.in-140.is) c.write_queue-in-140.ensures

pub returns-in-141 : goal.returns-in-141
returns-in-141 c = yields_at c.args.p c.args.self.now 141 _ _ _ (sym c.requires.function ∙ c.in-141.is) c.delay.ensures

pub returns-in-151 : goal.returns-in-151
returns-in-151 c = yields_at c.args.p c.args.self.now 151 _ _ _ (sym c.requires.function ∙ c.in-151.is) c.call_procedure.ensures
