use Rattle.std.proofs.Common.{rules, ◌≡◌, ◌*◌, [], ◌∷◌, ◌++◌, sym, ap, subst, ◌∙◌, arith}
use Rattle.std.proofs.lemmas.Grind.{common_steps}
use Rattle.std.proofs.lemmas.List.Elements.{All-push, All-same}
use Rattle.mpm_dirent.specs.Entries.{part, entry_of}
use Rattle.mpm_dirent.specs.Proper.{IsProper}
use Rattle.mpm_mount.specs.Directories.{IsWholeEntry}
use Rattle.mpm_mount.proofs.Wholes.{entry_whole}
use Rattle.mpm_mount.proofs.EntriesRead.{entries_in_none, entries_in_more}
use Rattle.mpm_mount.proofs.reading.push_entries.Goals as goal

pub loop-place-init : goal.loop-place-init
loop-place-init c = record { entries = entries_in_none c.args.bytes.now c.args.wide c.args.entries.now.items; proper = λ all. all; whole = λ all. all }

pub loop-place-preserved : goal.loop-place-preserved
loop-place-preserved c =
    let pushed : c.push.new.self.items ≡ c.loop-place.entries.items ++ (c.read_entry.result ∷ []) = first_of (search rules, grind (arith, common_steps)) in
    let is : c.read_entry.result ≡ entry_of (part (32 * c.loop-place.place) 32 c.args.bytes.now) c.args.wide =
    c.read_entry.ensures.entry ∙ ap (λ b. entry_of b c.args.wide) c.entry_bytes.ensures.part in
    let whole_so : IsWholeEntry c.read_entry.result = subst IsWholeEntry (sym c.read_entry.ensures.entry) (entry_whole c.entry_bytes.result c.args.wide c.entry_bytes.ensures.size) in
    record {
      entries = entries_in_more c.args.bytes.now c.args.wide c.loop-place.place c.args.entries.now.items c.loop-place.entries.items c.push.new.self.items c.read_entry.result
          c.loop-place.invariant.entries pushed is;
      proper = λ all. All-same (IsProper c.args.wide) c.push.new.self.items (c.loop-place.entries.items ++ (c.read_entry.result ∷ [])) pushed
          (All-push (IsProper c.args.wide) c.loop-place.entries.items c.read_entry.result (c.loop-place.invariant.proper all) c.read_entry.ensures.proper);
      whole = λ all. All-same IsWholeEntry c.push.new.self.items (c.loop-place.entries.items ++ (c.read_entry.result ∷ [])) pushed
          (All-push IsWholeEntry c.loop-place.entries.items c.read_entry.result (c.loop-place.invariant.whole all) whole_so);
    }
