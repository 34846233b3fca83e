use Rattle.std.proofs.Common.{◌≡◌, ◌∙◌, false, sym, ap}
use Rattle.std.specs.Prelude.{is_some, option_map, option_and_then, unwrap_or, slice_index_or}
use Rattle.mpm_base.proofs.Options.{still_some}
use Rattle.mpm_dirent.specs.Names.{plain}
use Rattle.mpm_fcb.specs.Blocks.{block_of}
use Rattle.mpm_opens.specs.Items.{file_named}
use Rattle.mpm_refusals.specs.Subjects.{drive_by, drive_number, number_by, item_number, drive_at, subject, subject_by, found, found_by, is_protected}
use Rattle.mpm_refusals.specs.Asking.{opened_as, key_of_item, found_as, open_item, called}
use Rattle.mpm_refusals.proofs.AskedLaws.{item_key}
use Rattle.mpm_refusals.proofs.OwnItems.{own_user}
use Rattle.mpm_refusals.proofs.asking.ask.Goals as goal

pub returns : goal.returns
returns c = record {
  caller = λ i. c.args.file_call.now.caller;
  owner = λ users low. c.owner.ensures.low low (own_user c.args.opens.now c.args.file_call.now.caller.process c.open_item-item.result users c.open_item-item.ensures.own);
  own = c.open_item-item.ensures.own;
  asked = λ image drives marks moment stands.
      let caller = c.args.file_call.now.caller in
      let call = c.args.file_call.now.call.now in
      let function = c.args.file_call.now.function in
      let opens = c.args.opens.now in
      let s = called drives c.args.protected.now opens marks c.args.searches.now caller function call moment in
      let block_is : c.block_of_call-block.result ≡ block_of call.fcb = c.block_of_call-block.ensures.block in
      let word_is : c.word_of_call-word.result ≡ call.word = c.word_of_call-word.ensures in
      let search_is = c.get-search.ensures in
      let drive_is : c.drive_of_call-drive.result ≡ drive_number s =
      c.drive_of_call-drive.ensures ∙ (λ i. unwrap_or (drive_by (search_is i) caller.drive (word_is i) (block_is i) function) caller.drive)
      in
      let number_is : c.item_number-number.result ≡ item_number s =
      c.item_number-number.ensures ∙ (λ i. number_by (c.word.ensures i) (block_is i) function)
      in
      let item_is : c.open_item-item.result ≡ open_item s =
      c.open_item-item.ensures.item
      ∙ (λ i. option_and_then (λ n. option_map (opened_as opens n) (file_named opens.items caller.process n (drive_is i) (plain (block_is i).name))) (number_is i))
      in
      let key_is = ap (option_map key_of_item) item_is ∙ item_key s in
      let owner_is : c.owner.result ≡ (subject s).user =
      c.owner.ensures.user image (drive_at s) stands
      ∙ (λ i. (subject_by (drive_at s) (record { user = caller.user; name = plain (block_is i).name }) (key_is i) function).user)
      in
      let found_is : c.is_some.result ≡ is_some (found s) =
      c.is_some.ensures ∙ sym (still_some c.found.result (found_as c.args.mounted.now.kind))
      ∙ ap is_some (c.found.ensures image (drive_at s) stands ∙ (λ i. found_by (drive_at s) caller.user (block_is i) (search_is i) function))
      in
      let protected_is : c.has.result ≡ is_protected s = c.has.ensures ∙ ap (λ drive. slice_index_or c.args.protected.now drive false) drive_is in
      λ i. record {
        caller = caller;
        function = function;
        block = block_is i;
        word = word_is i;
        given = c.eight-given.ensures i;
        drive = drive_is i;
        is_protected = protected_is i;
        item = item_is i;
        owner = owner_is i;
        is_found = found_is i;
      };
}
