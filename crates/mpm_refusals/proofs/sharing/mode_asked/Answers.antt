use Rattle.std.proofs.Common.{◌∙◌, true, false, sym}
use Rattle.mpm_dirent.specs.Names.{plain}
use Rattle.mpm_refusals.proofs.SharedFiles.{mode_shared, mode_own}
use Rattle.mpm_refusals.proofs.sharing.mode_asked.Goals as goal

pub returns-then-is_shared : goal.returns-then-is_shared
returns-then-is_shared c = λ image drive stands.
    mode_shared drive (record { user = c.args.user; name = plain c.args.block.now.name }) c.args.block.now c.args.given.now c.args.default.now
    (sym (c.is_shared.ensures image drive stands) ∙ c.if-is_shared.true)

pub returns-then-file_admits : goal.returns-then-file_admits
returns-then-file_admits c = λ image drive stands.
    c.open_mode.ensures
    ∙ mode_own drive (record { user = c.args.user; name = plain c.args.block.now.name }) c.args.block.now c.args.given.now c.args.default.now true
    (sym (c.is_shared.ensures image drive stands) ∙ c.if-is_shared.false) (sym (c.file_admits.ensures image drive stands) ∙ c.if-file_admits.true)

pub returns-else-file_admits : goal.returns-else-file_admits
returns-else-file_admits c = λ image drive stands.
    mode_own drive (record { user = c.args.user; name = plain c.args.block.now.name }) c.args.block.now c.args.given.now c.args.default.now false
    (sym (c.is_shared.ensures image drive stands) ∙ c.if-is_shared.false) (sym (c.file_admits.ensures image drive stands) ∙ c.if-file_admits.false)
