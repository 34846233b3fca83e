use Rattle.std.proofs.Common.{◌∙◌, ◌&&◌, sym, ap, refl}
use Rattle.mpm_mount.specs.Files.{has_file}
use Rattle.mpm_bdos.proofs.DeletedFiles.{deleted_where_named}
use Rattle.mpm_refusals.specs.Subjects.{file_of}
use Rattle.mpm_bdos.proofs.releasing.is_deleted.Goals as goal

pub returns-then-names : goal.returns-then-names
returns-then-names c = λ image drive stands.
    sym (ap (λ b. b && c.is_file.result) c.if-names.true)
    ∙ deleted_where_named drive c.args.deletion.now c.args.file.now c.names.result c.is_file.result c.names.ensures (c.is_file.ensures image drive stands)

pub returns-else-names : goal.returns-else-names
returns-else-names c = λ image drive stands.
    c.if-names.false ∙ sym (ap (λ b. b && has_file drive (file_of c.args.file.now)) c.if-names.false)
    ∙ deleted_where_named drive c.args.deletion.now c.args.file.now c.names.result (has_file drive (file_of c.args.file.now)) c.names.ensures refl
