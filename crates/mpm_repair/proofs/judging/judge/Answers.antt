use Rattle.std.proofs.Common.{◌∙◌, sym, ap}
use Rattle.std.specs.Prelude.{option_map, position}
use Rattle.mpm_mount.specs.Faults.{cause_of, is_xfcb}
use Rattle.mpm_repair.specs.FaultLists.{told_of}
use Rattle.mpm_repair.proofs.Judged.{clashing, label_told, xfcb_told}
use Rattle.mpm_repair.proofs.judging.judge.Goals as goal

pub returns-in-Label : goal.returns-in-Label
returns-in-Label c =
    c.clash.ensures ∙ ap (clashing c.args.slot 7) c.label_slot.ensures
    ∙ sym (ap (λ entry. option_map (told_of c.args.kind c.args.earlier.now c.args.slot entry) (cause_of c.args.kind c.args.earlier.now entry)) c.in-Label.is
    ∙ label_told c.args.kind c.args.earlier.now c.args.slot c.in-Label.label)

pub returns-in-Xfcb : goal.returns-in-Xfcb
returns-in-Xfcb c =
    c.clash-in-Xfcb.ensures ∙ ap (clashing c.args.slot 8) c.xfcb_slot.ensures
    ∙ ap (λ name. clashing c.args.slot 8 (position (is_xfcb c.in-Xfcb.xfcb.user name) c.args.earlier.now)) c.plain_name.ensures
    ∙ sym (ap (λ entry. option_map (told_of c.args.kind c.args.earlier.now c.args.slot entry) (cause_of c.args.kind c.args.earlier.now entry)) c.in-Xfcb.is
    ∙ xfcb_told c.args.kind c.args.earlier.now c.args.slot c.in-Xfcb.xfcb)
