use Rattle.std.proofs.Common.{◌∙◌, ◌<◌, ◌^◌, sym, subst}
use Rattle.mpm_core_file.specs.declared.head.Head.{Head}
use Rattle.mpm_core_file.specs.CoreFiles.{IsCore}
use Rattle.mpm_core.proofs.TakeLaws.{taken_is, taken_holds, home_lives, has_home}
use Rattle.mpm_core.proofs.saved.Core.take_from.Goals as goal

pub head_at-head-requires : goal.head_at-head-requires
head_at-head-requires c = home_lives c.args.machine.now.system c.args.p c.args.home c.requires.there

pub segment_at-segment-requires : goal.segment_at-segment-requires
segment_at-segment-requires c = has_home c.args.machine.now.system c.args.p c.args.home c.requires

pub fill-requires : goal.fill-requires
fill-requires c =
    let system = c.args.machine.now.system in
    let mode = subst (λ (h : Head). h.regs.mode < 3) c.head_at-head.ensures.head c.head_at-head.ensures.mode in
    let fits = subst (λ (h : Head). h.step < 2 ^ 64) c.head_at-head.ensures.head c.head_at-head.ensures.fits in
    subst IsCore
    (sym (taken_is system c.args.p c.args.home c.head_at-head.result c.segment_at-segment.result.now c.common_at.result.now
    c.requires.there c.head_at-head.ensures.head c.segment_at-segment.ensures c.common_at.ensures))
    (taken_holds system c.args.p c.args.home c.requires.whole c.requires.there c.requires.is_home mode fits)

pub returns : goal.returns
returns c =
    let system = c.args.machine.now.system in
    let mode = subst (λ (h : Head). h.regs.mode < 3) c.head_at-head.ensures.head c.head_at-head.ensures.mode in
    let fits = subst (λ (h : Head). h.step < 2 ^ 64) c.head_at-head.ensures.head c.head_at-head.ensures.fits in
    let core =
    c.fill.ensures
    ∙ taken_is system c.args.p c.args.home c.head_at-head.result c.segment_at-segment.result.now c.common_at.result.now
    c.requires.there c.head_at-head.ensures.head c.segment_at-segment.ensures c.common_at.ensures in
    record {
      core = core;
      is = subst IsCore (sym core) (taken_holds system c.args.p c.args.home c.requires.whole c.requires.there c.requires.is_home mode fits);
    }
