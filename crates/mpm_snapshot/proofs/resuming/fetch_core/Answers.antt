use Rattle.std.proofs.Common.{rules, ℕ, List, Ok, subst}
use Rattle.std.proofs.lemmas.Bool.{false≢true}
use Rattle.mpm_port.specs.Fetches.{Fetches}
use Rattle.mpm_snapshot.proofs.ResumeLaws.{came}
use Rattle.mpm_snapshot.proofs.resuming.fetch_core.Goals as goal

pub returns-in-Ok : goal.returns-in-Ok
returns-in-Ok g c =
    let held = g.F.Files.contents c.args.files.now c.args.name.now in
    let text = c.fetch.new.out.items in
    record {
      ok = came (g.F.Files.missing c.args.files.now c.args.name.now) held text c.in-Ok.field-0 (λ there. false≢true (c.in-Ok.ensures.missing there))
          (subst (λ (before : List ℕ). Fetches held 65588 before text (Ok c.in-Ok.field-0)) c.new-text.ensures.items c.in-Ok.ensures.bytes);
      refuses = tt;
      names = search rules;
      files = search rules;
    }
