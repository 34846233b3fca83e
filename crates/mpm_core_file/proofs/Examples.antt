-- Worked examples, by computation.
use Rattle.std.proofs.Common.{◌≡◌, [], ◌∷◌, Some, true, false, refl}
use Rattle.mpm_core_file.specs.CoreFiles.{head_bytes, fields_of, fault_of, first_bad, stands, may_stand}
use Rattle.mpm_core_file.specs.declared.head.Head.{Head}

-- the core of a program after its first two instructions: C is 9, DE is 010Dh, PC is 0105h
abbrev pub example_head : Head
example_head = record {
  step = 2;
  process = 0;
  spec = record { base = 0; pages = 192 };
  inside = false;
  regs = record {
    a = 0;
    f = 0;
    b = 0;
    c = 9;
    d = 1;
    e = 13;
    h = 0;
    l = 0;
    a2 = 0;
    f2 = 0;
    b2 = 0;
    c2 = 0;
    d2 = 0;
    e2 = 0;
    h2 = 0;
    l2 = 0;
    ix = 0;
    iy = 0;
    sp = 48894;
    pc = 261;
    i = 0;
    r = 2;
    iff1 = true;
    iff2 = true;
    mode = 0;
    halted = false;
    shadow = false;
  };
}

pub example_bytes : head_bytes example_head ≡ 0x4d ∷ 0x50 ∷ 0x4d ∷ 0x43 ∷ 0x4f ∷ 0x52 ∷ 0x45 ∷ 0x31
    ∷ 2 ∷ 0 ∷ 0 ∷ 0 ∷ 0 ∷ 0 ∷ 0 ∷ 0 ∷ 0 ∷ 0 ∷ 192 ∷ 0
    ∷ 0 ∷ 0 ∷ 0 ∷ 9 ∷ 1 ∷ 13 ∷ 0 ∷ 0 ∷ 0 ∷ 0 ∷ 0 ∷ 0 ∷ 0 ∷ 0 ∷ 0 ∷ 0
    ∷ 0 ∷ 0 ∷ 0 ∷ 0 ∷ 0xfe ∷ 0xbe ∷ 0x05 ∷ 0x01 ∷ 0 ∷ 2 ∷ 1 ∷ 1 ∷ 0 ∷ 0 ∷ 0 ∷ []
unfolding head_bytes fields_of
example_bytes = refl

-- too short: the head alone
pub example_short : fault_of (head_bytes example_head) ≡ Some 51
unfolding head_bytes fields_of fault_of first_bad stands may_stand
example_short = refl

-- its first byte is another one
pub example_magic : fault_of (0 ∷ []) ≡ Some 0
unfolding fault_of first_bad stands may_stand
example_magic = refl

-- nothing at all, and the first eight bytes alone
pub example_nothing : fault_of [] ≡ Some 0
unfolding fault_of first_bad stands may_stand
example_nothing = refl

-- pages are judged before the base, and a page that isn't there is one that is missing
pub example_pages : fault_of (0x4d ∷ 0x50 ∷ 0x4d ∷ 0x43 ∷ 0x4f ∷ 0x52 ∷ 0x45 ∷ 0x31 ∷ 2 ∷ 0 ∷ 0 ∷ 0 ∷ 0 ∷ 0 ∷ 0 ∷ 0 ∷ 0 ∷ 200 ∷ 3 ∷ []) ≡ Some 18
unfolding fault_of first_bad stands may_stand
example_pages = refl

pub example_base : fault_of (0x4d ∷ 0x50 ∷ 0x4d ∷ 0x43 ∷ 0x4f ∷ 0x52 ∷ 0x45 ∷ 0x31 ∷ 2 ∷ 0 ∷ 0 ∷ 0 ∷ 0 ∷ 0 ∷ 0 ∷ 0 ∷ 0 ∷ 189 ∷ 4 ∷ []) ≡ Some 17
unfolding fault_of first_bad stands may_stand
example_base = refl

pub example_no_pages : fault_of (0x4d ∷ 0x50 ∷ 0x4d ∷ 0x43 ∷ 0x4f ∷ 0x52 ∷ 0x45 ∷ 0x31 ∷ 2 ∷ 0 ∷ 0 ∷ 0 ∷ 0 ∷ 0 ∷ 0 ∷ 0 ∷ 0 ∷ 200 ∷ []) ≡ Some 18
unfolding fault_of first_bad stands may_stand
example_no_pages = refl
