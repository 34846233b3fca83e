use Rattle.std.proofs.Common.{◌∙◌, sym, ap}
use Rattle.mpm_dirent.specs.Names.{plain}
use Rattle.mpm_refusals.specs.Subjects.{file_admits}
use Rattle.mpm_refusals.proofs.PasswordLaws.{lacks_labels, lacks_files}
use Rattle.mpm_refusals.proofs.passwords.lacks_password.Goals as goal

pub returns-then-is_of_label : goal.returns-then-is_of_label
returns-then-is_of_label c = λ image drive stands.
    lacks_labels drive (record { user = c.args.user; name = plain c.args.name.now }) c.args.function c.args.given.now c.args.default.now c.label_admits.result
    (sym c.is_of_label.ensures ∙ c.if-is_of_label.true) (c.label_admits.ensures image drive stands)

pub returns : goal.returns
returns c = λ image drive stands.
    lacks_files drive (record { user = c.args.user; name = plain c.args.name.now }) c.args.function c.args.given.now c.args.default.now c.file_admits.result
    (sym c.is_of_label.ensures ∙ c.if-is_of_label.false)
    (c.file_admits.ensures image drive stands
    ∙ ap (λ need. file_admits drive (record { user = c.args.user; name = plain c.args.name.now }) need c.args.given.now c.args.default.now) c.need_of.ensures)
