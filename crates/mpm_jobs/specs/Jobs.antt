-- The job of a file call: on a user's file of a name, with its records, their bytes, and a stamp.
use Rattle.std.specs.Prelude.{ℕ, ◌*◌, ◌==◌, Bool, List, [], ◌++◌, Option, Some, None, length, take, drop, replicate, if◌then◌else◌}
use Rattle.mpm_base.specs.Lists.{zeros}
use Rattle.mpm_jobs.specs.declared.jobs.JobKind.{JobKind}
use Rattle.mpm_jobs.specs.declared.jobs.Job.{Job}

-- the room of a job's bytes: the 4,096 that count at most, and zeros after them
unfoldable pub filled : List ℕ → List ℕ
filled bytes = take 4096 bytes ++ drop (length bytes) (replicate 4096 0)

-- a job on a user's file of a name
abbrev pub job_for : JobKind → ℕ → List ℕ → Job
job_for kind user name = record {
  kind = kind;
  user = user;
  name = name;
  new_name = zeros 11;
  first = 0;
  count = 0;
  stamp = None;
  bytes = filled [];
}

-- a stamp, where it is asked for
abbrev pub stamp_where : Bool → List ℕ → Option (List ℕ)
stamp_where test moment = if test then Some moment else None

-- a job on so many records from one on, with a stamp, and with bytes
abbrev pub with_records : ℕ → ℕ → Job → Job
with_records first count job = record job { first = first; count = count }

abbrev pub with_stamp : Option (List ℕ) → Job → Job
with_stamp stamp job = record job { stamp = stamp }

abbrev pub with_bytes : List ℕ → Job → Job
with_bytes bytes job = record job { bytes = filled bytes }

-- of the bytes of records that are tested, those that the first of them must have, and then those that these get
unfoldable pub testing_bytes : List ℕ → ℕ → ℕ → List ℕ
testing_bytes bytes records count = take (128 * count) bytes ++ take (128 * count) (drop (128 * records) bytes)

-- none where there is no record to do
abbrev pub where_some : ℕ → Job → Option Job
where_some count job = if count == 0 then None else (Some job)

-- a making that makes an XFCB too, and a job with another name
abbrev pub with_one : Job → Job
with_one job = record job { count = 1 }

abbrev pub with_new_name : List ℕ → Job → Job
with_new_name name job = record job { new_name = name }
