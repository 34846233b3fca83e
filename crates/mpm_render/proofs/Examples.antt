-- Worked examples, by computation.
use Rattle.std.proofs.Common.{◌≡◌, Bool, true, false, [], ◌∷◌, ◌++◌, replicate, refl, ap}
use Rattle.std.proofs.lemmas.List.{append-nil}
use Rattle.std.specs.Fmt.{digits}
use Rattle.std.specs.Prelude.{codes}
use Rattle.mpm_base.specs.declared.unit.Unit.TheVariants.{Console, Printer}
use Rattle.mpm_render.specs.Lines.{hex_byte, hex_word, escaped, ended_line, cut_line, text_with}
use Rattle.mpm_render.specs.Completions.{Completion, completion, trace_line}
use Rattle.mpm_render.specs.Outputs.{Completed, said, since_end, pending, record_text, text_at, rendered, closing, closed}

pub escaped_bell : escaped 7 ≡ codes "\\x07"
unfolding escaped hex_byte
escaped_bell = refl

pub escaped_backslash : escaped 92 ≡ codes "\\\\"
unfolding escaped
escaped_backslash = refl

pub escaped_tab : escaped 9 ≡ codes "\\t"
unfolding escaped
escaped_tab = refl

pub escaped_delete : escaped 127 ≡ codes "\\x7F"
unfolding escaped hex_byte
escaped_delete = refl

-- a string was written by the fifth step of the first process
pub line_of_string : trace_line (completion 5 0 9 0x00 0x0009 0x010D 0x0000) ≡ codes "t 5 0 9 00 0009 010D 0000" ++ 10 ∷ []
unfolding trace_line digits hex_byte hex_word
line_of_string = refl

-- a version was answered in the fourth
pub line_of_version : trace_line (completion 4 0 12 0x30 0x010C 0x0000 0x0130) ≡ codes "t 4 0 12 30 010C 0000 0130" ++ 10 ∷ []
unfolding trace_line digits hex_byte hex_word
line_of_version = refl

-- the last step, process and function
pub line_of_last : trace_line (completion 4000000000 31 255 0xFF 0xFFFF 0x00AB 0xC0DE) ≡ codes "t 4000000000 31 255 FF FFFF 00AB C0DE" ++ 10 ∷ []
unfolding trace_line digits hex_byte hex_word
line_of_last = refl

-- two letters, a CR and an LF are one line
pub rendered_hi : rendered false (said (Console 0) (72 ∷ 105 ∷ 13 ∷ 10 ∷ []) []) ≡ codes "c0 Hi\\r" ++ 10 ∷ []
unfolding said since_end pending text_at text_with rendered ended_line cut_line escaped
rendered_hi = refl

-- a letter alone writes nothing
pub rendered_letter : rendered false (said (Console 0) (65 ∷ []) []) ≡ []
unfolding said since_end pending text_at text_with rendered ended_line cut_line escaped
rendered_letter = refl

-- and is closed at the end
pub closed_letter : closed true (said (Console 0) (65 ∷ []) []) ≡ codes "c0 A\\" ++ 10 ∷ []
unfolding said since_end pending text_at text_with rendered ended_line cut_line escaped closing closed
closed_letter = refl

-- a printer's line says so
pub rendered_printer : rendered false (said (Printer 3) (35 ∷ 10 ∷ []) []) ≡ codes "l3 #" ++ 10 ∷ []
unfolding said since_end pending text_at text_with rendered ended_line cut_line escaped
rendered_printer = refl

-- 200 bytes are a line, and an LF after them ends an empty one
pub rendered_full : rendered false (said (Console 0) (replicate 200 65 ++ 10 ∷ []) []) ≡ codes "c0 " ++ (replicate 200 65 ++ (92 ∷ 10 ∷ (codes "c0 " ++ 10 ∷ [])))
unfolding said since_end pending text_at text_with rendered ended_line cut_line escaped
rendered_full = refl

-- a record between two bytes of a line stands before that line, and leaves it whole
pub rendered_between : (trace : Bool) (call : Completion) → rendered trace (said (Console 0) (66 ∷ 10 ∷ []) (Completed call ∷ said (Console 0) (65 ∷ []) [])) ≡ record_text trace call ++ (codes "c0 AB" ++ 10 ∷ [])
unfolding said since_end pending text_at text_with rendered ended_line cut_line escaped
rendered_between trace call = ap (λ text. text ++ (codes "c0 AB" ++ 10 ∷ [])) (append-nil (record_text trace call))
