-- What is said of a core that was run on by itself.
use Rattle.std.specs.Prelude.{ℕ, List, [], ◌∷◌, ◌++◌, codes, decimal}
use Rattle.z80_regs.specs.Words.{word_of}
use Rattle.mpm_lines.specs.Lines.{field}
use Rattle.z80_regs.specs.declared.regs.Regs.{Regs}
use Rattle.mpm_render.specs.Lines.{hex_word}
use Rattle.mpm_core_file.specs.declared.head.Head.{Head}
use Rattle.mpm_replay.specs.declared.replaying.Replayed.{Replayed}
use Rattle.mpm_replay.specs.declared.stopping.Why.{Why}
use Rattle.mpm_replay.specs.declared.stopping.Why.TheVariants.{Steps, Gate, Illegal, Input}

-- why it ended
abbrev pub word_for : Why → List ℕ
word_for Steps = codes "steps"
word_for Gate = codes "gate"
word_for Illegal = codes "illegal"
word_for Input = codes "input"

-- AF, BC, DE and HL in hexadecimal digits
unfoldable pub pairs : Regs → List ℕ
pairs r =
    field (hex_word (word_of r.f r.a)) ++ (field (hex_word (word_of r.c r.b)) ++ (field (hex_word (word_of r.e r.d)) ++ field (hex_word (word_of r.l r.h))))

-- PC and SP, these, IX and IY
unfoldable pub registers : Regs → List ℕ
registers r = field (hex_word r.pc) ++ (field (hex_word r.sp) ++ (pairs r ++ (field (hex_word r.ix) ++ field (hex_word r.iy))))

-- the step at which the core was taken, its process, how many instructions were done, why no more were, and the registers then
unfoldable pub line : Head → Replayed → List ℕ
line head replayed =
    codes "core" ++ (field (decimal head.step) ++ (field (decimal head.process) ++ (field (decimal replayed.done) ++ (field (word_for replayed.why)
    ++ (registers head.regs ++ (10 ∷ []))))))
