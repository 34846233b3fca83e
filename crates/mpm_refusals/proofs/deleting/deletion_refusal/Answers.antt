use Rattle.std.proofs.Common.{◌∙◌, Some, None, cond, sym, ap, subst}
use Rattle.std.specs.Prelude.{is_some}
use Rattle.mpm_mount.specs.Searching.{search_of, IsNext}
use Rattle.mpm_mount.proofs.SearchSteps.{fewer_left}
use Rattle.mpm_refusals.specs.Looking.{entry_found}
use Rattle.mpm_refusals.specs.Subjects.{next_in}
use Rattle.mpm_refusals.proofs.Deleted.{is_refused, refused_deletion}
use Rattle.mpm_refusals.proofs.Searched.{next_step, no_step}
use Rattle.mpm_refusals.proofs.deleting.deletion_refusal.Goals as goal

pub returns-then-is_some : goal.returns-then-is_some
returns-then-is_some c = λ image drive stands.
    let d = c.args.mounted.now in
    let by = c.args.by.now in
    let found = entry_found d.kind by.user c.in-Some.found in
    let test = is_refused drive c.args.opens.now by in
    c.file_refusal-refusal.ensures image drive stands
    ∙ sym (refused_deletion drive c.args.opens.now by c.args.pattern.now (Some found)
    (c.loop-found.invariant image drive stands
    ∙ next_step image d drive by.user c.args.pattern.now test c.loop-found.last c.in-Some.found stands
    (subst (IsNext d.kind (search_of d.kind by.user c.args.pattern.now c.loop-found.last) d.entries) c.in-Some.is c.next.ensures)
    ∙ ap (λ b. cond b (Some found) (next_in drive by.user c.args.pattern.now test (Some found)))
    (ap is_some (sym (c.file_refusal-refusal.ensures image drive stands)) ∙ sym c.is_some.ensures ∙ c.if-is_some.true)))

pub loop-found-smaller : goal.loop-found-smaller
loop-found-smaller c =
    let d = c.args.mounted.now in
    fewer_left d.kind c.args.by.now.user c.args.pattern.now c.loop-found.last c.in-Some.found d.entries
    (subst (IsNext d.kind (search_of d.kind c.args.by.now.user c.args.pattern.now c.loop-found.last) d.entries) c.in-Some.is c.next.ensures)

pub loop-found-preserved : goal.loop-found-preserved
loop-found-preserved c = λ image drive stands.
    let d = c.args.mounted.now in
    let by = c.args.by.now in
    let found = entry_found d.kind by.user c.in-Some.found in
    let test = is_refused drive c.args.opens.now by in
    c.loop-found.invariant image drive stands
    ∙ next_step image d drive by.user c.args.pattern.now test c.loop-found.last c.in-Some.found stands
    (subst (IsNext d.kind (search_of d.kind by.user c.args.pattern.now c.loop-found.last) d.entries) c.in-Some.is c.next.ensures)
    ∙ ap (λ b. cond b (Some found) (next_in drive by.user c.args.pattern.now test (Some found)))
    (ap is_some (sym (c.file_refusal-refusal.ensures image drive stands)) ∙ sym c.is_some.ensures ∙ c.if-is_some.false)

pub returns : goal.returns
returns c = λ image drive stands.
    let d = c.args.mounted.now in
    let by = c.args.by.now in
    sym (refused_deletion drive c.args.opens.now by c.args.pattern.now None
    (c.loop-found.invariant image drive stands
    ∙ no_step image d drive by.user c.args.pattern.now (is_refused drive c.args.opens.now by) c.loop-found.last stands
    (subst (IsNext d.kind (search_of d.kind by.user c.args.pattern.now c.loop-found.last) d.entries) c.in_default.is c.next.ensures)))
