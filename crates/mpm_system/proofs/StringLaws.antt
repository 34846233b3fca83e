-- How far a string is written to a console, tabs expanded.
use Rattle.std.proofs.Common.{◌≡◌, ◌∙◌, ℕ, ◌+◌, ◌-◌, ◌<◌, false, length, arith, List, [], ◌∷◌, ◌++◌, ap, sym, subst, append_assoc}
use Rattle.z80_regs.specs.Words.{onward}
use Rattle.mpm_gate.specs.Bytes.{bytes_from}
use Rattle.mpm_gate.specs.Texts.{text_from, ends}
use Rattle.mpm_gate.specs.declared.take.TextEnd.TheVariants.{Dollar}
use Rattle.mpm_gate.proofs.BytesLaws.{length_bytes, bytes_more}
use Rattle.mpm_gate.proofs.TextLaws.{text_more, text_goes_on}
use Rattle.mpm_kernel.specs.Kernel.{Kernel, IsConsole}
use Rattle.mpm_kernel.specs.Columns.{columns_after, tab_text, column_of, expanded, spoke}
use Rattle.mpm_kernel.proofs.ColumnLaws.{expanded_nil, expanded_cons, expanded_byte, expanded_append}
use Rattle.mpm_kernel.proofs.SpokeLaws.{column_spoke, spoke_none, spoke_both}
use Rattle.mpm_output.specs.Outside.{Outside}
use Rattle.mpm_output.specs.Writing.{spoken, CameOut, Stopped}
use Rattle.mpm_output.proofs.WritingLaws.{spoke_nothing, spoke_more, stopped_more}

-- a part of a string came out to a console, with tabs expanded
pub record WrittenTo (console : ℕ) (kernel kernel' : Kernel) (o m : Outside) (part : List ℕ) : Type 0 where
  pub kernel_is : kernel' ≡ spoke kernel console (expanded (column_of kernel console) part)
  pub wrote : CameOut o m (spoken console (expanded (column_of kernel console) part))

-- the string has one byte more, and goes on after it
pub string_goes_on : (memory : ℕ → ℕ) (address k byte : ℕ) → text_from Dollar memory address k ≡ bytes_from memory address k → byte ≡ memory (onward address k)
    → ends Dollar byte ≡ false → k < 65536
    → text_from Dollar memory address 65536 ≡ bytes_from memory address k ++ (byte ∷ text_from Dollar memory (onward address (k + 1)) (65535 - k))
string_goes_on memory address k byte whole here goes_on h =
    let more = text_more Dollar memory address k byte whole here goes_on in
    let rest = text_from Dollar memory (onward address (k + 1)) (65535 - k) in
    let part = bytes_from memory address k in
    let count : (k + 1) + (65535 - k) ≡ 65536 = omega arith in
    ap (text_from Dollar memory address) (sym count)
    ∙ text_goes_on Dollar memory address (k + 1) (65535 - k) (ap length more ∙ length_bytes memory address (k + 1))
    ∙ ap (λ t. t ++ rest) (more ∙ bytes_more memory address k ∙ ap (λ b. part ++ (b ∷ [])) (sym here))
    ∙ append_assoc part (byte ∷ []) rest

pub written_nothing : (console : ℕ) (kernel : Kernel) (o : Outside) → WrittenTo console kernel kernel o o []
written_nothing console kernel o =
    let column = column_of kernel console in
    let P : List ℕ → Type 0 = λ bytes. CameOut o o (spoken console bytes) in
    record {
      kernel_is = sym (spoke_none kernel console) ∙ ap (spoke kernel console) (sym (expanded_nil column));
      wrote = subst P (sym (expanded_nil column)) (spoke_nothing console o);
    }

-- a part and one byte more, expanded, by the column at which the byte stands
expanded_more : (console byte : ℕ) (kernel now : Kernel) (part : List ℕ) → IsConsole kernel console
    → now ≡ spoke kernel console (expanded (column_of kernel console) part)
    → expanded (column_of kernel console) (part ++ (byte ∷ []))
    ≡ expanded (column_of kernel console) part ++ tab_text (column_of now console) byte
expanded_more console byte kernel now part has e =
    let column = column_of kernel console in
    let at : column_of now console ≡ columns_after column (expanded column part) =
    ap (λ k. column_of k console) e ∙ column_spoke kernel console (expanded column part) has in
    expanded_append column part (byte ∷ [])
    ∙ ap (λ t. expanded column part ++ t) (ap (λ c. expanded c (byte ∷ [])) (sym at) ∙ expanded_byte (column_of now console) byte)

pub written_more : (console byte : ℕ) (kernel now later : Kernel) (o m n : Outside) (part : List ℕ) → IsConsole kernel console
    → WrittenTo console kernel now o m part → later ≡ spoke now console (tab_text (column_of now console) byte)
    → CameOut m n (spoken console (tab_text (column_of now console) byte)) → WrittenTo console kernel later o n (part ++ (byte ∷ []))
written_more console byte kernel now later o m n part has w is wrote =
    let column = column_of kernel console in
    let tab = tab_text (column_of now console) byte in
    let both = expanded_more console byte kernel now part has w.kernel_is in
    record {
      kernel_is = is
          ∙ ap (λ k. spoke k console tab) w.kernel_is
          ∙ spoke_both kernel console (expanded column part) tab has
          ∙ ap (spoke kernel console) (sym both);
      wrote = spoke_more console o m n (expanded column part) tab (expanded column (part ++ (byte ∷ []))) both w.wrote wrote;
    }

-- a byte of a string that stops, stops the string
pub stopped_string : (console byte : ℕ) (kernel now : Kernel) (o m n : Outside) (part rest whole : List ℕ) → whole ≡ part ++ (byte ∷ rest)
    → IsConsole kernel console → WrittenTo console kernel now o m part → Stopped m n (spoken console (tab_text (column_of now console) byte))
    → Stopped o n (spoken console (expanded (column_of kernel console) whole))
stopped_string console byte kernel now o m n part rest whole e has w stopped =
    let column = column_of kernel console in
    let here = column_of now console in
    let tab = tab_text here byte in
    let at : here ≡ columns_after column (expanded column part) =
    ap (λ k. column_of k console) w.kernel_is ∙ column_spoke kernel console (expanded column part) has in
    let tail = expanded (columns_after here tab) rest in
    let all : expanded column whole ≡ expanded column part ++ (tab ++ tail) =
    ap (expanded column) e
    ∙ expanded_append column part (byte ∷ rest)
    ∙ ap (λ t. expanded column part ++ t) (ap (λ c. expanded c (byte ∷ rest)) (sym at) ∙ expanded_cons here byte rest) in
    stopped_more console o m n (expanded column part) tab tail (expanded column whole) all w.wrote stopped
