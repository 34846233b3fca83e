use Rattle.std.proofs.Common.{◌≡◌, ◌∙◌, sym, arith}
use Rattle.mpm_jobs.specs.declared.jobs.JobKind.TheVariants.{Read, Write, TestWrite, Make, Delete, Rename, Attributes, Label, Xfcb, Nothing}
use Rattle.mpm_files.proofs.WorkingLaws.{works_within}
use Rattle.mpm_files.proofs.turning.do_next.Goals as goal

pub returns-in-Read : goal.returns-in-Read
returns-in-Read g c =
    let next = c.read_next.ensures in
    record {
      does = next.does;
      counts = next.counts;
      reads = λ is. next.reads;
      works = works_within g.D.Drives 1 20 _ _ _ _ _ _ _ _ _ (omega arith) next.works;
    }

-- the others read nothing

pub returns-in-Write : goal.returns-in-Write
returns-in-Write g c =
    let next = c.write_next.ensures in
    let never : c.args.work.now.job.kind ≡ Read → ⊥ = λ is. let no : Read ≡ Write = sym is ∙ c.in-Write.is in absurd (cc) in
    record {
      does = next.does;
      counts = next.counts;
      reads = λ is. absurd (never is);
      works = next.works;
    }

pub returns-in-TestWrite : goal.returns-in-TestWrite
returns-in-TestWrite g c =
    let next = c.test_next.ensures in
    let never : c.args.work.now.job.kind ≡ Read → ⊥ = λ is. let no : Read ≡ TestWrite = sym is ∙ c.in-TestWrite.is in absurd (cc) in
    record {
      does = next.does;
      counts = next.counts;
      reads = λ is. absurd (never is);
      works = works_within g.D.Drives 6 20 _ _ _ _ _ _ _ _ _ (omega arith) next.works;
    }

pub returns-in-Make : goal.returns-in-Make
returns-in-Make g c =
    let next = c.make_next.ensures in
    let never : c.args.work.now.job.kind ≡ Read → ⊥ = λ is. let no : Read ≡ Make = sym is ∙ c.in-Make.is in absurd (cc) in
    record {
      does = next.does;
      counts = next.counts;
      reads = λ is. absurd (never is);
      works = works_within g.D.Drives 2 20 _ _ _ _ _ _ _ _ _ (omega arith) next.works;
    }

pub returns-in-Delete : goal.returns-in-Delete
returns-in-Delete g c =
    let next = c.delete_next.ensures in
    let never : c.args.work.now.job.kind ≡ Read → ⊥ = λ is. let no : Read ≡ Delete = sym is ∙ c.in-Delete.is in absurd (cc) in
    record {
      does = next.does;
      counts = next.counts;
      reads = λ is. absurd (never is);
      works = works_within g.D.Drives 2 20 _ _ _ _ _ _ _ _ _ (omega arith) next.works;
    }

pub returns-in-Rename : goal.returns-in-Rename
returns-in-Rename g c =
    let next = c.rename_next.ensures in
    let never : c.args.work.now.job.kind ≡ Read → ⊥ = λ is. let no : Read ≡ Rename = sym is ∙ c.in-Rename.is in absurd (cc) in
    record {
      does = next.does;
      counts = next.counts;
      reads = λ is. absurd (never is);
      works = works_within g.D.Drives 2 20 _ _ _ _ _ _ _ _ _ (omega arith) next.works;
    }

pub returns-in-Attributes : goal.returns-in-Attributes
returns-in-Attributes g c =
    let next = c.set_next.ensures in
    let never : c.args.work.now.job.kind ≡ Read → ⊥ = λ is. let no : Read ≡ Attributes = sym is ∙ c.in-Attributes.is in absurd (cc) in
    record {
      does = next.does;
      counts = next.counts;
      reads = λ is. absurd (never is);
      works = works_within g.D.Drives 2 20 _ _ _ _ _ _ _ _ _ (omega arith) next.works;
    }

pub returns-in-Label : goal.returns-in-Label
returns-in-Label g c =
    let next = c.label_next.ensures in
    let never : c.args.work.now.job.kind ≡ Read → ⊥ = λ is. let no : Read ≡ Label = sym is ∙ c.in-Label.is in absurd (cc) in
    record {
      does = next.does;
      counts = next.counts;
      reads = λ is. absurd (never is);
      works = works_within g.D.Drives 2 20 _ _ _ _ _ _ _ _ _ (omega arith) next.works;
    }

pub returns-in-Xfcb : goal.returns-in-Xfcb
returns-in-Xfcb g c =
    let next = c.xfcb_next.ensures in
    let never : c.args.work.now.job.kind ≡ Read → ⊥ = λ is. let no : Read ≡ Xfcb = sym is ∙ c.in-Xfcb.is in absurd (cc) in
    record {
      does = next.does;
      counts = next.counts;
      reads = λ is. absurd (never is);
      works = works_within g.D.Drives 2 20 _ _ _ _ _ _ _ _ _ (omega arith) next.works;
    }

pub returns-in-Nothing : goal.returns-in-Nothing
returns-in-Nothing g c =
    let next = c.idle_next.ensures in
    let never : c.args.work.now.job.kind ≡ Read → ⊥ = λ is. let no : Read ≡ Nothing = sym is ∙ c.in-Nothing.is in absurd (cc) in
    record {
      does = next.does;
      counts = next.counts;
      reads = λ is. absurd (never is);
      works = works_within g.D.Drives 2 20 _ _ _ _ _ _ _ _ _ (omega arith) next.works;
    }
