-- What is done with a process's open file of a name is done with the item that it has, or with none.
use Rattle.std.proofs.Common.{◌≡◌, ◌∙◌, sym, ap, ℕ, None}
use Rattle.mpm_opens.specs.declared.kinds.FileKey.{FileKey}
use Rattle.mpm_opens.specs.Items.{number_of}
use Rattle.mpm_opens.specs.Opens.{OpenFiles, process_of, file_of, IsItemOf, with_its_item, closed_at, closed, written_at, written}

pub closed_of_item : (old new : OpenFiles) (p : ℕ) (file : FileKey) (item : ℕ) → IsItemOf old p file item
    → new ≡ closed old (process_of old item) (file_of old item) → new ≡ closed old p file
closed_of_item old new p file item its e =
    e ∙ ap (λ q. closed old q (file_of old item)) its.its_process ∙ ap (closed old p) its.its_file

pub closed_nowhere : (opens : OpenFiles) (p : ℕ) (file : FileKey) → number_of opens.items p file ≡ None → opens ≡ closed opens p file
unfolding closed
closed_nowhere opens p file e = ap (with_its_item closed_at opens) (sym e)

pub written_of_item : (old new : OpenFiles) (p : ℕ) (file : FileKey) (item : ℕ) → IsItemOf old p file item
    → new ≡ written old (process_of old item) (file_of old item) → new ≡ written old p file
written_of_item old new p file item its e =
    e ∙ ap (λ q. written old q (file_of old item)) its.its_process ∙ ap (written old p) its.its_file

pub written_nowhere : (opens : OpenFiles) (p : ℕ) (file : FileKey) → number_of opens.items p file ≡ None → opens ≡ written opens p file
unfolding written
written_nowhere opens p file e = ap (with_its_item written_at opens) (sym e)
