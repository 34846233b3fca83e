use Rattle.std.proofs.Common.{◌∙◌, ap}
use Rattle.mpm_residents.specs.Natives.{native_took}
use Rattle.mpm_residents.specs.declared.native.Native.{Native}
use Rattle.mpm_residents.proofs.TakenLaws.{taken_here}
use Rattle.mpm_residents.proofs.residents.Residents.take.Goals as goal

pub returns : goal.returns
returns c =
    taken_here c.args.self.now c.self.inside.natives.items c.args.p c.from.result _ c.took.new.self c.args.reply.now c.requires c.self.view_is (c.from.ensures ∙ c.p.view_is)
    (c.took.ensures ∙ ap (λ (native : Native). native_took native c.args.reply.now) c.index_mut.ensures.value)
