use Rattle.std.proofs.Common.{List, sym, subst}
use Rattle.mpm_top.specs.declared.status.Input.TheVariants.{ScriptText}
use Rattle.mpm_script.specs.Reading.{FaultsScript}
use Rattle.mpm_script.specs.Scripts.{script_of}
use Rattle.mpm_script.specs.declared.error.ScriptError.{ScriptError}
use Rattle.mpm_script.specs.declared.event.Timed.{Timed}
use Rattle.mpm_top.specs.Beginnings.{Holds}
use Rattle.mpm_top.proofs.StatusLaws.{unfetched_unread}
use Rattle.mpm_top.proofs.boot.read_named.Goals as goal

-- the file wasn't fetched

pub returns-in-Err : goal.returns-in-Err
returns-in-Err g c =
    let did = c.in-Err.ensures in
    record {
      events = tt;
      reason = unfetched_unread (g.F.Files.contents c.args.files.now) c.args.name.now (g.F.Files.failed_names c.args.files.now) (g.F.Files.failed_names c.fetch.new.files) c.in-Err.status did.reason;
      missing = did.missing;
      leaves = record { refusal = did.leaves.refusal; names = did.leaves.names; files = c.fetch.ensures.leaves.files };
    }

-- it was, and its text is read or has a bad line, or there was no memory

pub returns-in-Ok-read_script : goal.returns-in-Ok-read_script
returns-in-Ok-read_script g c =
    let did = c.in-Ok.ensures in
    record {
      events = record {
        text = c.as_slice.result.now;
        contents_are = subst (Holds (g.F.Files.contents c.args.files.now) ScriptText c.args.name.now) (sym c.as_slice.ensures.value) did.contents_are;
        read = c.in-Ok-read_script.ensures.ok;
      };
      reason = tt;
      missing = did.missing;
      leaves = record { refusal = tt; names = did.leaves.names; files = c.fetch.ensures.leaves.files };
    }

pub returns-in-Err-Fault : goal.returns-in-Err-Fault
returns-in-Err-Fault g c =
    let did = c.in-Ok.ensures in
    let bad = subst (λ (error : ScriptError). FaultsScript {A = List Timed} error (script_of c.as_slice.result.now)) c.in-Err-Fault.field-0-is c.in-Err-Fault.ensures.fault in
    record {
      events = tt;
      reason = record {
        text = c.as_slice.result.now;
        contents_are = subst (Holds (g.F.Files.contents c.args.files.now) ScriptText c.args.name.now) (sym c.as_slice.ensures.value) did.contents_are;
        bad = bad;
      };
      missing = λ missing. absurd (did.missing missing);
      leaves = record { refusal = tt; names = did.leaves.names; files = c.fetch.ensures.leaves.files };
    }

pub returns : goal.returns
returns g c =
    let did = c.in-Ok.ensures in
    record {
      events = tt;
      reason = tt;
      missing = λ missing. absurd (did.missing missing);
      leaves = record { refusal = tt; names = did.leaves.names; files = c.fetch.ensures.leaves.files };
    }
