use Rattle.std.proofs.Common.{◌≡◌, ◌∙◌, ℕ, suc, List, Option, Some, None, sym, ap, subst, rules, arith}
use Rattle.std.specs.Prelude.{option_map, slice_index_or, replicate}
use Rattle.mpm_mount.specs.Drives.{FileName, Drive}
use Rattle.mpm_mount.specs.Directories.{Stands}
use Rattle.mpm_refusals.specs.declared.asking.Asked.{Asked}
use Rattle.mpm_refusals.specs.Subjects.{drive_number, found, found_by}
use Rattle.mpm_bdos.specs.Jobs.{call_turns, turned}
use Rattle.mpm_refusals.specs.Searches.{search_by, searches_by}
use Rattle.mpm_bdos.specs.Changes.{search_of_call}
use Rattle.mpm_bdos.specs.Replies.{answer_by}
use Rattle.mpm_bdos.specs.Serving.{IsCaller}
use Rattle.mpm_refusals.specs.Asking.{called, asked_of, found_as}
use Rattle.mpm_bdos.specs.Leaving.{IsInFile, IsGranted, left_first, granted_by, opens_left}
use Rattle.mpm_bdos.proofs.StillLaws.{moved_drive, asked_still, still_found}
use Rattle.mpm_bdos.proofs.LastLaws.{answered_so, opens_so}
use Rattle.std.proofs.lemmas.Grind.{common_steps}
use Rattle.mpm_bdos.proofs.replying.reply_mounted.Goals as goal

pub answer_mounted-requires : goal.answer_mounted-requires
answer_mounted-requires c = record {
  own = first_of (search rules, grind (arith, common_steps));
  caller = subst IsCaller (sym c.ask-asked.ensures.caller) c.requires;
}

pub returns-clause-users : goal.returns-clause-users
returns-clause-users c = λ users. c.answer_mounted.ensures.users users (c.ask-asked.ensures.owner users c.requires.user)

pub returns-clause-replied : goal.returns-clause-replied
returns-clause-replied c = λ image drives marks moment answering.
    let d = c.args.mounted.now in
    let f = c.args.served.now.file_call.function in
    let caller = c.args.served.now.file_call.caller in
    let p = caller.process in
    let opens = c.args.opens.now in
    let searches = c.args.searches.now in
    let work = c.args.served.now.work.now in
    let deleted = c.args.served.now.deleted.now in
    let s = called drives c.args.protected.now opens marks searches caller f c.args.served.now.file_call.call.now moment in
    let after : Drive = (turned s (call_turns s)).drive in
    let asked_is : c.ask-asked.result ≡ asked_of s =
    c.ask-asked.ensures.asked image (replicate (suc (drive_number s)) (Some after)) marks moment (subst (Stands image d) (sym (moved_drive s after)) answering.stands)
    ∙ asked_still s answering.served.none
    in
    let found_of : Asked → Option (FileName × ℕ) = λ a. found_by after a.caller.user a.block (slice_index_or searches a.caller.process None) a.function in
    let found_here : option_map (found_as d.kind) c.found-found.result ≡ found_of c.ask-asked.result =
    c.found-found.ensures image after answering.stands
    ∙ ap (λ l. found_by after c.ask-asked.result.caller.user c.ask-asked.result.block l c.ask-asked.result.function) c.get-search.ensures
    in
    let finds : option_map (found_as d.kind) c.found-found.result ≡ found s = found_here ∙ ap found_of asked_is ∙ still_found s answering.served.none in
    record {
      answer_is = answered_so s image d work deleted c.found-found.result c.answer_mounted.new.reply answering finds
          (subst (λ (a : Asked). (drive : Drive) (records : List (List ℕ)) (entry : Option (FileName × ℕ)) → Stands image d drive → IsGranted drive opens a work deleted records
          → option_map (found_as d.kind) c.found-found.result ≡ entry
          → c.answer_mounted.new.reply ≡ answer_by drive (granted_by drive (left_first opens a work deleted) a work) records entry c.args.served.now.file_call.call.now.fcb c.args.served.now.file_call.call.now.dma) asked_is
          (λ drive records entry stands granted is. c.answer_mounted.ensures.reply image drive records entry stands granted is));
      opens_are = opens_so s image d work deleted c.answer_mounted.new.opens answering c.answer_mounted.ensures.sound
          (subst (λ (a : Asked). (drive : Drive) → Stands image d drive → IsInFile a → c.answer_mounted.new.opens ≡ opens_left drive opens a work deleted) asked_is
          (λ drive stands inside. c.answer_mounted.ensures.opens image drive stands inside));
      searches_are = c.keep_found.ensures after (ap (λ kind. option_map (found_as kind) c.found-found.result) c.kind.ensures.kind ∙ found_here)
          ∙ ap (λ (a : Asked). searches_by searches a.caller.process (λ entry. search_by (slice_index_or searches a.caller.process None) a.drive a.caller.user a.block entry a.function) (found_of a)) asked_is
          ∙ ap (searches_by searches p (search_of_call s)) (still_found s answering.served.none);
    }
