-- What a worked example unfolds.
use Rattle.std.specs.Prelude.{⊤}
use Rattle.mpm_base.specs.Lists.{zeros, in_width}
use Rattle.mpm_dirent.specs.Entries as dirent
use Rattle.mpm_names.specs.Matching.{does_match}
use Rattle.mpm_mount.specs.Drives.{entry_cmp, file_cmp, extents_of, extent_at, record_of, visible_of, free_records, free_entries}
use Rattle.mpm_opens.specs.Items as items
use Rattle.mpm_opens.specs.Locks.{owner_of, locks_of, with_lock, lock_answer, locks_locked, locks_without}
use Rattle.mpm_opens.specs.Opens.{added, given_back, closed_at, closed, written_at, written, locked}
use Rattle.mpm_mount.specs.Files.{entries_named}
use Rattle.mpm_guard.specs.Passwords.{decoded, is_admitted, is_label_admitted}
use Rattle.mpm_fcb.specs.Blocks.{block_of, bytes_of}
use Rattle.mpm_fcb.specs.Names.{is_ambiguous, with_attributes}
use Rattle.mpm_fcb.specs.Positions.{at_position}
use Rattle.mpm_fcb.specs.Opening.{item_of, opened, with_xfcb}
use Rattle.mpm_files.specs.Units.{new_entry, last_of, stages, applied, all_applied}
use Rattle.mpm_files.specs.Plans.{reading, writing, passing, testing, deleting, plan_of}
use Rattle.mpm_files.specs.Serving.{all_read}
use Rattle.mpm_marks.specs.Marks.{is_marked}
use Rattle.mpm_mount.specs.Looking.{file_attributes, extent_count}
use Rattle.mpm_refusals.specs.Subjects.{drive_by, drive_at, number_by, open_key, subject_by, first_record, file_admits, is_shared, opened_in, mode_asked, mode_by, found_in, found_by, deleted_files}
use Rattle.mpm_marks.specs.Busy.{names, is_drive_busy, are_busy}
use Rattle.mpm_file_functions.specs.Refusals.{refusals_of, refusals_of_each}
use Rattle.mpm_refusals.specs.Refusals.{opening_refusal, needed_by, is_directory_full, lacks_password, applies, tests_of, refusal_of}
use Rattle.mpm_file_functions.specs.Ends.{ends_of}
use Rattle.mpm_locks.specs.Locks.{is_locked_off, unlocking, count_until}
use Rattle.mpm_bdos.specs.Records.{ends, end_of, locking}
use Rattle.mpm_jobs.specs.Jobs.{filled, testing_bytes}
use Rattle.mpm_bdos.specs.Jobs.{free_count, job_by, job_of, call_turns, turned}
use Rattle.mpm_bdos.specs.Changes.{locking_of, opens_by, protected_then, filing_after}
use Rattle.mpm_marks.specs.Driving.{marks_by}
use Rattle.mpm_marks.specs.Protected.{none_protected, unprotected}
use Rattle.mpm_file_entries.specs.Telling.{told_bytes}
use Rattle.mpm_bdos.specs.Replies.{end_after, granted_of, bytes_by, answer_after}
use Rattle.mpm_file_entries.specs.Granting.{value_by, block_by}
use Rattle.mpm_file_entries.specs.Sizes.{size_of}
use Rattle.mpm_bdos.specs.Outcomes.{file_call, left_by, without_search}
use Rattle.mpm_directories.specs.Direct.{mask_of, direct_by}
use Rattle.mpm_bdos.specs.Direct.{direct}

-- all that a file call is defined by
unfoldable pub file_calls : ⊤
unfolding file_call refusal_of tests_of refusals_of refusals_of_each opening_refusal is_marked applies drive_by drive_at number_by open_key subject_by first_record file_admits file_attributes extent_count is_shared opened_in mode_asked mode_by found_in found_by deleted_files names is_drive_busy are_busy needed_by is_directory_full lacks_password ends_of is_locked_off ends end_of locking unlocking count_until free_count filled testing_bytes job_by job_of call_turns turned locking_of opens_by marks_by none_protected unprotected protected_then filing_after end_after granted_of value_by size_of told_bytes block_by bytes_by answer_after left_by without_search entry_cmp file_cmp extents_of extent_at record_of visible_of free_records free_entries items.file_named items.number_of items.have_others items.have_others_on items.is_excluded items.items_of items.has_counted_out items.are_full items.first_free items.refusal_of items.opened items.opened_number items.add_answer items.items_added items.items_without owner_of locks_of with_lock lock_answer locks_locked locks_without added given_back closed_at closed written_at written locked decoded is_admitted is_label_admitted block_of bytes_of is_ambiguous with_attributes at_position item_of opened with_xfcb new_entry last_of stages applied all_applied reading writing passing testing entries_named deleting plan_of all_read does_match dirent.bytes_of dirent.map_of in_width zeros
file_calls = tt

-- and the calls that no disk serves
unfoldable pub direct_calls : ⊤
unfolding direct direct_by mask_of block_of bytes_of
direct_calls = tt
