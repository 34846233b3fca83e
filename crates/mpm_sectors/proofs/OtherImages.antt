-- What a call of a drive leaves of all other images, and of what is known of images by their names.
use Rattle.std.proofs.Common.{◌≡◌, ℕ, List, Option, refl, sym, subst, ◌∙◌}
use Rattle.mpm_port.specs.Disks.{Disks, ToldImage, WritesSector, KeepsTold}
use Rattle.mpm_sectors.specs.Writes.{Elsewhere}

pub elsewhere_itself : (drive : ℕ) (disks : Disks) → Elsewhere drive disks disks
elsewhere_itself drive disks = record { names = λ other. refl; others = λ other apart. refl; sizes = λ other. refl }

pub elsewhere_same : (drive : ℕ) (old new : Disks) → new ≡ old → Elsewhere drive old new
elsewhere_same drive old new same = subst (λ (d : Disks). Elsewhere drive old d) (sym same) (elsewhere_itself drive old)

pub elsewhere_written : (drive sector : ℕ) (bytes : List ℕ) (old new : Disks) → WritesSector drive sector bytes old new → Elsewhere drive old new
elsewhere_written drive sector bytes old new writes = record { names = writes.names; others = writes.others; sizes = writes.sizes }

pub elsewhere_over : (drive : ℕ) (a b c : Disks) → Elsewhere drive a b → Elsewhere drive b c → Elsewhere drive a c
elsewhere_over drive a b c one two = record {
  names = λ other. two.names other ∙ one.names other;
  others = λ other apart. two.others other (λ same. apart (sym (one.names other) ∙ same ∙ one.names drive)) ∙ one.others other apart;
  sizes = λ other. two.sizes other ∙ one.sizes other;
}

pub told_itself : (name : Option (List ℕ)) (told : List ℕ → ToldImage) → KeepsTold name told told
told_itself name told = record { others = λ other apart. refl; still = λ other untold. untold }

pub told_same : (name : Option (List ℕ)) (old new : List ℕ → ToldImage) → new ≡ old → KeepsTold name old new
told_same name old new same = subst (λ (t : List ℕ → ToldImage). KeepsTold name old t) (sym same) (told_itself name old)

pub told_over : (name later : Option (List ℕ)) (a b c : List ℕ → ToldImage) → later ≡ name → KeepsTold name a b → KeepsTold later b c → KeepsTold name a c
told_over name later a b c same one two = record {
  others = λ other apart. two.others other (λ is. apart (sym same ∙ is)) ∙ one.others other apart;
  still = λ other untold. one.still other (two.still other untold);
}
