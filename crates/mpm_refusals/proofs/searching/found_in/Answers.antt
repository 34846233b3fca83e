use Rattle.std.proofs.Common.{◌∙◌, Some, cond, sym, ap, subst}
use Rattle.std.specs.Prelude.{option_map}
use Rattle.mpm_mount.specs.Searching.{search_of, IsNext}
use Rattle.mpm_mount.proofs.LookedUp.{kind_of}
use Rattle.mpm_mount.proofs.SearchSteps.{fewer_left}
use Rattle.mpm_refusals.specs.Looking.{at_place, entry_found, MissesNothing}
use Rattle.mpm_refusals.specs.Subjects.{next_in}
use Rattle.mpm_refusals.proofs.Behind.{is_sought, search_begins}
use Rattle.mpm_refusals.proofs.Searched.{next_step, no_step}
use Rattle.mpm_refusals.proofs.searching.found_in.Goals as goal

pub loop-found-init : goal.loop-found-init
loop-found-init c = λ image drive stands.
    search_begins drive c.args.user c.args.pattern.now c.args.extent (option_map (at_place c.args.user) c.args.behind)
    (option_map (entry_found c.args.mounted.now.kind c.args.user) c.start_of-last.result)
    (subst (λ kind. MissesNothing c.args.user kind c.args.behind c.start_of-last.result) c.kind-kind.ensures.kind (c.start_of-last.ensures c.args.user))

pub returns-then-is_sought : goal.returns-then-is_sought
returns-then-is_sought c = λ image drive stands.
    let d = c.args.mounted.now in
    let behind = option_map (at_place c.args.user) c.args.behind in
    let found = entry_found d.kind c.args.user c.in-Some.found in
    sym (c.loop-found.invariant image drive stands
    ∙ next_step image d drive c.args.user c.args.pattern.now (is_sought drive.kind c.args.extent behind) c.loop-found.last c.in-Some.found stands
    (subst (IsNext d.kind (search_of d.kind c.args.user c.args.pattern.now c.loop-found.last) d.entries) c.in-Some.is c.next.ensures)
    ∙ ap (λ b. cond b (Some found) (next_in drive c.args.user c.args.pattern.now (is_sought drive.kind c.args.extent behind) (Some found)))
    (ap (λ kind. is_sought kind c.args.extent behind found) (kind_of image d drive stands)
    ∙ ap (λ kind. is_sought kind c.args.extent behind (entry_found kind c.args.user c.in-Some.found)) (sym c.kind-kind.ensures.kind) ∙ sym (c.is_sought.ensures c.args.user) ∙ c.if-is_sought.true))

pub loop-found-smaller : goal.loop-found-smaller
loop-found-smaller c =
    let d = c.args.mounted.now in
    fewer_left d.kind c.args.user c.args.pattern.now c.loop-found.last c.in-Some.found d.entries
    (subst (IsNext d.kind (search_of d.kind c.args.user c.args.pattern.now c.loop-found.last) d.entries) c.in-Some.is c.next.ensures)

pub loop-found-preserved : goal.loop-found-preserved
loop-found-preserved c = λ image drive stands.
    let d = c.args.mounted.now in
    let behind = option_map (at_place c.args.user) c.args.behind in
    let found = entry_found d.kind c.args.user c.in-Some.found in
    c.loop-found.invariant image drive stands
    ∙ next_step image d drive c.args.user c.args.pattern.now (is_sought drive.kind c.args.extent behind) c.loop-found.last c.in-Some.found stands
    (subst (IsNext d.kind (search_of d.kind c.args.user c.args.pattern.now c.loop-found.last) d.entries) c.in-Some.is c.next.ensures)
    ∙ ap (λ b. cond b (Some found) (next_in drive c.args.user c.args.pattern.now (is_sought drive.kind c.args.extent behind) (Some found)))
    (ap (λ kind. is_sought kind c.args.extent behind found) (kind_of image d drive stands)
    ∙ ap (λ kind. is_sought kind c.args.extent behind (entry_found kind c.args.user c.in-Some.found)) (sym c.kind-kind.ensures.kind) ∙ sym (c.is_sought.ensures c.args.user) ∙ c.if-is_sought.false)

pub returns : goal.returns
returns c = λ image drive stands.
    let d = c.args.mounted.now in
    sym (c.loop-found.invariant image drive stands
    ∙ no_step image d drive c.args.user c.args.pattern.now (is_sought drive.kind c.args.extent (option_map (at_place c.args.user) c.args.behind)) c.loop-found.last stands
    (subst (IsNext d.kind (search_of d.kind c.args.user c.args.pattern.now c.loop-found.last) d.entries) c.in_default.is c.next.ensures))
