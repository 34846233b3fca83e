-- Laws on outputs: their text grows, and a byte leaves its line, the other lines and the text as they are said.
use Rattle.std.proofs.Common.{◌≡◌, ◌≢◌, ℕ, ◌%◌, ◌<◌, Bool, false, List, [], ◌∷◌, ◌++◌, Result, OnOk, OnErr, Ok, Err, length, take, set, append_assoc, reverse, get_or, refl, sym, ap, ◌∙◌, inl, inr, suc, subst, arith}
use Rattle.std.proofs.lemmas.Grind.{reverse_onto}
use Rattle.std.proofs.lemmas.List.{append-nil, length-reverse, length-take-le, get_or_default, get_or-set_same, get_or-set_other}
use Rattle.std.proofs.lemmas.Bool.{cases_eq}
use Rattle.std.proofs.lemmas.Bool.Decides.{nat_tests}
use Rattle.mpm_port.specs.Texts.{Begins, AppendsPart}
use Rattle.mpm_base.specs.declared.unit.Unit.{Unit}
use Rattle.mpm_base.specs.declared.unit.Unit.TheVariants.{Console, Printer}
use Rattle.mpm_base.specs.Units.{place_of, IsUnit}
use Rattle.mpm_render.specs.Lines.{text_with, line_with}
use Rattle.mpm_render.specs.Completions.{Completion}
use Rattle.mpm_render.specs.Outputs.{Output, Said, Completed, said, since_end, pending, record_text, text_at, rendered}
use Rattle.mpm_render.specs.Shown.{KeptLines, line_of, Shows, EndsBetween}
use Rattle.mpm_render.proofs.Grows.{begins_refl, begins_more, begins_trans, ends_within}

pub rendered_grows : (trace : Bool) (o : Output) (os : List Output) → Begins (rendered trace os) (rendered trace (o ∷ os))
unfolding rendered
rendered_grows trace o os = begins_more (rendered trace os) (text_at trace o os)

pub said_nil : (unit : Unit) (os : List Output) → said unit [] os ≡ os
unfolding said
said_nil unit os = refl

pub said_cons : (unit : Unit) (byte : ℕ) (bytes : List ℕ) (os : List Output) → said unit (byte ∷ bytes) os ≡ said unit bytes (Said unit byte ∷ os)
unfolding said
said_cons unit byte bytes os = refl

pub said_append : (unit : Unit) (a b : List ℕ) (os : List Output) → said unit (a ++ b) os ≡ said unit b (said unit a os)
unfolding said
said_append unit [] b os = refl
said_append unit (byte ∷ a) b os = said_append unit a b (Said unit byte ∷ os)

pub said_grows : (trace : Bool) (unit : Unit) (bytes : List ℕ) (os : List Output) → Begins (rendered trace os) (rendered trace (said unit bytes os))
unfolding said
said_grows trace unit [] os = begins_refl (rendered trace os)
said_grows trace unit (byte ∷ bytes) os =
    begins_trans _ (rendered trace (Said unit byte ∷ os)) _ (rendered_grows trace (Said unit byte) os) (said_grows trace unit bytes (Said unit byte ∷ os))

-- a unit's place is one of the twelve
pub place_small : (unit : Unit) → IsUnit unit → place_of unit < 12
place_small (Console n) h = omega arith
place_small (Printer n) h = omega arith

-- what a byte writes, by its own line alone
pub rendered_said : (trace : Bool) (unit : Unit) (byte : ℕ) (os : List Output) → rendered trace (Said unit byte ∷ os) ≡ rendered trace os ++ text_with (place_of unit) byte (pending (place_of unit) os)
unfolding rendered text_at text_with
rendered_said trace unit byte os = refl

-- what the record of a completed call writes
pub rendered_completed : (trace : Bool) (call : Completion) (os : List Output) → rendered trace (Completed call ∷ os) ≡ rendered trace os ++ record_text trace call
unfolding rendered text_at
rendered_completed trace call os = refl

-- it writes nothing where records aren't asked for
pub rendered_unasked : (trace : Bool) (call : Completion) (os : List Output) → trace ≡ false → rendered trace (Completed call ∷ os) ≡ rendered trace os
rendered_unasked trace call os unasked =
    rendered_completed trace call os ∙ ap (λ asked. rendered trace os ++ record_text asked call) unasked ∙ append-nil (rendered trace os)

-- it leaves every unfinished line
pub pending_completed : (place : ℕ) (call : Completion) (os : List Output) → pending place (Completed call ∷ os) ≡ pending place os
unfolding pending since_end
pending_completed place call os = refl

-- the bytes of a place since its last LF, after one more byte
since_same : (unit : Unit) (byte : ℕ) (os : List Output) → byte ≢ 10 → since_end (place_of unit) (Said unit byte ∷ os) ≡ byte ∷ since_end (place_of unit) os
unfolding since_end
since_same unit byte os other = grind (arith, nat_tests)

since_lf : (unit : Unit) (byte : ℕ) (os : List Output) → byte ≡ 10 → since_end (place_of unit) (Said unit byte ∷ os) ≡ []
unfolding since_end
since_lf unit byte os lf = grind (arith, nat_tests)

since_other : (place : ℕ) (unit : Unit) (byte : ℕ) (os : List Output) → place_of unit ≢ place → since_end place (Said unit byte ∷ os) ≡ since_end place os
unfolding since_end
since_other place unit byte os other = grind (arith, nat_tests)

-- of bytes, newest first, those that no cut line has written, in order
abbrev uncut : List ℕ → List ℕ
uncut bytes = reverse (take (length bytes % 200) bytes)

length_uncut : (bytes : List ℕ) → length (uncut bytes) ≡ length bytes % 200
length_uncut bytes = length-reverse (take (length bytes % 200) bytes) ∙ length-take-le (length bytes % 200) bytes (omega arith)

uncut_full : (byte : ℕ) (bytes : List ℕ) → length (uncut bytes) ≡ 199 → uncut (byte ∷ bytes) ≡ []
uncut_full byte bytes full =
    let none : length (byte ∷ bytes) % 200 ≡ 0 = omega (arith, length_uncut bytes) in
    ap (λ n. reverse (take n (byte ∷ bytes))) none

uncut_more : (byte : ℕ) (bytes : List ℕ) → length (uncut bytes) ≢ 199 → uncut (byte ∷ bytes) ≡ uncut bytes ++ byte ∷ []
uncut_more byte bytes room =
    let more : length (byte ∷ bytes) % 200 ≡ suc (length bytes % 200) = omega (arith, length_uncut bytes) in
    ap (λ n. reverse (take n (byte ∷ bytes))) more ∙ reverse_onto (take (length bytes % 200) bytes) byte []

-- a byte leaves its own line with itself
pub pending_same : (unit : Unit) (byte : ℕ) (os : List Output) → pending (place_of unit) (Said unit byte ∷ os) ≡ line_with byte (pending (place_of unit) os)
unfolding pending line_with
pending_same unit byte os =
    let before = since_end (place_of unit) os in
    elim (cases_eq byte 10) [
      | inl lf ↦ ap uncut (since_lf unit byte os lf) ∙ grind (arith, nat_tests)
      | inr other ↦ elim (cases_eq (length (uncut before)) 199) [
        | inl full ↦ ap uncut (since_same unit byte os other) ∙ uncut_full byte before full ∙ grind (arith, nat_tests)
        | inr room ↦ ap uncut (since_same unit byte os other) ∙ uncut_more byte before room ∙ grind (arith, nat_tests)
      ]
    ]

-- a byte leaves the other lines
pub pending_other : (place : ℕ) (unit : Unit) (byte : ℕ) (os : List Output) → place_of unit ≢ place → pending place (Said unit byte ∷ os) ≡ pending place os
unfolding pending
pending_other place unit byte os other = ap uncut (since_other place unit byte os other)

-- a line is shorter than 200 bytes
pub pending_short : (place : ℕ) (os : List Output) → length (pending place os) < 200
unfolding pending
pending_short place os = omega (arith, length_uncut (since_end place os))

pub pending_none : (place : ℕ) → pending place [] ≡ []
unfolding pending since_end
pending_none place = refl

pub rendered_none : (trace : Bool) → rendered trace [] ≡ []
unfolding rendered
rendered_none trace = refl

-- empty lines show that nothing was said
pub shows_none : (kept : KeptLines) (written : List ℕ) → ((place : ℕ) → place < 12 → line_of kept place ≡ []) → Shows kept written [] written
shows_none kept written none = record {
  lines = λ place h. none place h ∙ sym (pending_none place);
  written_is = sym (ap (λ t. written ++ t) (rendered_none kept.trace) ∙ append-nil written);
}

-- a byte that is put to its line, and the text that it writes, keep what is shown
pub shows_said : (old new : KeptLines) (written now first : List ℕ) (unit : Unit) (byte : ℕ) (os : List Output) → IsUnit unit → length old.lines ≡ 12 → new.trace ≡ old.trace → new.lines ≡ set old.lines (place_of unit) (line_with byte (line_of old (place_of unit))) → now ≡ written ++ text_with (place_of unit) byte (line_of old (place_of unit)) → Shows old written os first → Shows new now (Said unit byte ∷ os) first
shows_said old new written now first unit byte os is twelve traces changed writes s =
    let here = place_of unit in
    let small : here < 12 = place_small unit is in
    let line : line_of old here ≡ pending here os = s.lines here small in
    let inside : here < length old.lines = omega arith in
    record {
      lines = λ place h. ap (λ lines. get_or lines place []) changed ∙ elim (cases_eq place here) [
        | inl same ↦ ap (λ at. get_or (set old.lines here (line_with byte (line_of old here))) at []) same ∙ get_or-set_same old.lines here _ [] inside ∙ ap (line_with byte) line ∙ sym (pending_same unit byte os) ∙ ap (λ at. pending at (Said unit byte ∷ os)) (sym same)
        | inr other ↦ get_or-set_other old.lines here place _ [] other ∙ s.lines place h ∙ sym (pending_other place unit byte os (λ e. other (sym e)))
      ];
      written_is = writes ∙ ap (λ line. written ++ text_with here byte line) line ∙ ap (λ t. t ++ text_with here byte (pending here os)) s.written_is ∙ append_assoc first (rendered old.trace os) _ ∙ ap (λ t. first ++ t) (sym (rendered_said old.trace unit byte os)) ∙ ap (λ trace. first ++ rendered trace (Said unit byte ∷ os)) (sym traces);
    }

-- a failed write of a byte's text stops between the texts before and after it
pub ends_said : (old : KeptLines) (written now first : List ℕ) (unit : Unit) (byte : ℕ) (os : List Output) → IsUnit unit → AppendsPart written (text_with (place_of unit) byte (line_of old (place_of unit))) now → 0 < length (text_with (place_of unit) byte (line_of old (place_of unit))) → Shows old written os first → EndsBetween now first (rendered old.trace os) (rendered old.trace (Said unit byte ∷ os))
ends_said old written now first unit byte os is part some s =
    let here = place_of unit in
    let line : line_of old here ≡ pending here os = s.lines here (place_small unit is) in
    let before = rendered old.trace os in
    let P : List ℕ → Type 0 = λ text. EndsBetween now first before text in
    subst P (ap (λ line. before ++ text_with here byte line) line ∙ sym (rendered_said old.trace unit byte os)) (ends_within written now first before _ s.written_is part some)

-- the same, as a line answers that has been picked by its place
same_line : (lines : List (List ℕ)) (unit : Unit) (place : ℕ) (other : List ℕ) → IsUnit unit → place ≡ place_of unit → length lines ≡ 12 → get_or lines place other ≡ get_or lines (place_of unit) []
same_line lines unit place other is at twelve =
    let small = place_small unit is in
    get_or_default lines place other [] (omega arith) ∙ ap (λ p. get_or lines p []) at

pub ok_said : {A E : Type 0} (result : Result A E) (old new : KeptLines) (written now first : List ℕ) (unit : Unit) (byte place : ℕ) (other after : List ℕ) (os : List Output) → IsUnit unit → place ≡ place_of unit → length old.lines ≡ 12 → new.trace ≡ old.trace → OnOk result (after ≡ line_with byte (get_or old.lines place other)) → new.lines ≡ set old.lines place after → OnOk result (now ≡ written ++ text_with place byte (get_or old.lines place other)) → Shows old written os first → OnOk result (Shows new now (Said unit byte ∷ os) first)
ok_said (Err e) old new written now first unit byte place other after os is at twelve traces kept changed writes s = tt
ok_said (Ok x) old new written now first unit byte place other after os is at twelve traces kept changed writes s =
    let line = same_line old.lines unit place other is at twelve in
    shows_said old new written now first unit byte os is twelve traces
    (changed ∙ ap (λ p. set old.lines p after) at ∙ ap (set old.lines (place_of unit)) (kept ∙ ap (line_with byte) line))
    (writes ∙ ap (λ p. written ++ text_with p byte (get_or old.lines place other)) at ∙ ap (λ l. written ++ text_with (place_of unit) byte l) line)
    s

pub err_said : {A E : Type 0} (result : Result A E) (old : KeptLines) (written now first : List ℕ) (unit : Unit) (byte place : ℕ) (other : List ℕ) (os : List Output) → IsUnit unit → place ≡ place_of unit → length old.lines ≡ 12 → OnErr result (AppendsPart written (text_with place byte (get_or old.lines place other)) now) → OnErr result (0 < length (text_with place byte (get_or old.lines place other))) → Shows old written os first → OnErr result (EndsBetween now first (rendered old.trace os) (rendered old.trace (Said unit byte ∷ os)))
err_said (Ok x) old written now first unit byte place other os is at twelve part some s = tt
err_said (Err e) old written now first unit byte place other os is at twelve part some s =
    let P : List ℕ → Type 0 = λ text. AppendsPart written text now in
    let Q : List ℕ → Type 0 = λ text. 0 < length text in
    let text = ap (λ p. text_with p byte (get_or old.lines place other)) at ∙ ap (text_with (place_of unit) byte) (same_line old.lines unit place other is at twelve) in
    ends_said old written now first unit byte os is (subst P text part) (subst Q text some) s

-- the record of a completed call, and the text that it writes, keep what is shown
pub ok_completed : {A E : Type 0} (result : Result A E) (kept : KeptLines) (written now first : List ℕ) (call : Completion) (text : List ℕ) (os : List Output) → text ≡ record_text kept.trace call → OnOk result (now ≡ written ++ text) → Shows kept written os first → OnOk result (Shows kept now (Completed call ∷ os) first)
ok_completed (Err e) kept written now first call text os is writes s = tt
ok_completed (Ok x) kept written now first call text os is writes s =
    let before = rendered kept.trace os in
    record {
      lines = λ place h. s.lines place h ∙ sym (pending_completed place call os);
      written_is = writes ∙ ap (λ t. t ++ text) s.written_is ∙ append_assoc first before text ∙ ap (λ t. first ++ (before ++ t)) is ∙ ap (λ t. first ++ t) (sym (rendered_completed kept.trace call os));
    }

-- a failed write of a record's text stops between the texts before and after it
pub err_completed : {A E : Type 0} (result : Result A E) (kept : KeptLines) (written now first : List ℕ) (call : Completion) (text : List ℕ) (os : List Output) → text ≡ record_text kept.trace call → OnErr result (AppendsPart written text now) → OnErr result (0 < length text) → Shows kept written os first → OnErr result (EndsBetween now first (rendered kept.trace os) (rendered kept.trace (Completed call ∷ os)))
err_completed (Ok x) kept written now first call text os is part some s = tt
err_completed (Err e) kept written now first call text os is part some s =
    let before = rendered kept.trace os in
    let P : List ℕ → Type 0 = λ all. EndsBetween now first before all in
    subst P (ap (λ t. before ++ t) is ∙ sym (rendered_completed kept.trace call os)) (ends_within written now first before text s.written_is part some)
