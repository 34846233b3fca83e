use Rattle.std.proofs.Common.{◌∙◌, Some, cond, sym, ap, subst}
use Rattle.std.specs.Prelude.{is_some}
use Rattle.mpm_mount.specs.Searching.{search_of, IsNext}
use Rattle.mpm_mount.specs.Files.{is_entry_of}
use Rattle.mpm_mount.proofs.SearchSteps.{fewer_left}
use Rattle.mpm_refusals.specs.Looking.{entry_found}
use Rattle.mpm_refusals.specs.Subjects.{next_in}
use Rattle.mpm_refusals.proofs.Searched.{no_step}
use Rattle.mpm_bdos.proofs.DeletedFiles.{file_sought, file_step}
use Rattle.mpm_bdos.proofs.releasing.is_file.Goals as goal

pub loop-found-init : goal.loop-found-init
loop-found-init c = λ image drive stands. file_sought drive (record { user = c.args.user; name = c.args.name.now }) c.told-name

pub returns-then-eq : goal.returns-then-eq
returns-then-eq c = λ image drive stands.
    let d = c.args.mounted.now in
    let found = entry_found d.kind c.args.user c.in-Some.found in
    sym (c.loop-found.invariant image drive stands
    ∙ ap is_some
    (file_step image d drive c.args.user c.args.name.now c.loop-found.last c.in-Some.found stands
    (subst (IsNext d.kind (search_of d.kind c.args.user c.args.name.now c.loop-found.last) d.entries) c.in-Some.is c.next.ensures)
    ∙ ap (λ b. cond b (Some found) (next_in drive c.args.user c.args.name.now (is_entry_of (record { user = c.args.user; name = c.args.name.now })) (Some found)))
    (sym c.eq.ensures ∙ c.if-eq.true)))

pub loop-found-smaller : goal.loop-found-smaller
loop-found-smaller c =
    let d = c.args.mounted.now in
    fewer_left d.kind c.args.user c.args.name.now c.loop-found.last c.in-Some.found d.entries
    (subst (IsNext d.kind (search_of d.kind c.args.user c.args.name.now c.loop-found.last) d.entries) c.in-Some.is c.next.ensures)

pub loop-found-preserved : goal.loop-found-preserved
loop-found-preserved c = λ image drive stands.
    let d = c.args.mounted.now in
    let found = entry_found d.kind c.args.user c.in-Some.found in
    c.loop-found.invariant image drive stands
    ∙ ap is_some
    (file_step image d drive c.args.user c.args.name.now c.loop-found.last c.in-Some.found stands
    (subst (IsNext d.kind (search_of d.kind c.args.user c.args.name.now c.loop-found.last) d.entries) c.in-Some.is c.next.ensures)
    ∙ ap (λ b. cond b (Some found) (next_in drive c.args.user c.args.name.now (is_entry_of (record { user = c.args.user; name = c.args.name.now })) (Some found)))
    (sym c.eq.ensures ∙ c.if-eq.false))

pub returns : goal.returns
returns c = λ image drive stands.
    let d = c.args.mounted.now in
    sym (c.loop-found.invariant image drive stands
    ∙ ap is_some
    (no_step image d drive c.args.user c.args.name.now (is_entry_of (record { user = c.args.user; name = c.args.name.now })) c.loop-found.last stands
    (subst (IsNext d.kind (search_of d.kind c.args.user c.args.name.now c.loop-found.last) d.entries) c.in_default.is c.next.ensures)))
