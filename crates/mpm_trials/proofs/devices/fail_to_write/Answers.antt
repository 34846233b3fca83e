use Rattle.std.proofs.Common.{rules, ℕ, Option, inl, inr, sym, subst, arith}
use Rattle.std.proofs.lemmas.Grind.{common_steps}
use Rattle.mpm_port.specs.Disks.{Disks, IsInsideDrive, size_of}
use Rattle.mpm_port.specs.MemoryDisks.{disks_of, after_access}
use Rattle.mpm_trials.proofs.devices.fail_to_write.Goals as goal

pub read-requires : goal.read-requires
unfolding after_access
read-requires c =
    let inside : IsInsideDrive (size_of (disks_of c.size.new.self) 0) 0 = first_of (search rules, grind (arith, common_steps)) in
    elim c.in-Err.ensures.answers.err [
      | inl same ↦ subst (λ (d : Disks). IsInsideDrive (size_of d 0) 0) (sym same) inside
      | inr writes ↦ subst (λ (s : Option ℕ). IsInsideDrive s 0) (sym (writes.sizes 0)) inside
    ]
