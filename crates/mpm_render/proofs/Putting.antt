-- Laws on the puts that write lines.
use Rattle.std.proofs.Common.{◌≡◌, ℕ, ◌+◌, ◌<◌, ◌≤◌, List, [], ◌∷◌, ◌++◌, Result, Ok, Err, OnErr, length, take, get_or, refl, sym, ap, ◌∙◌, subst, arith}
use Rattle.std.proofs.lemmas.List.{append-nil, take_more}
use Rattle.std.proofs.lemmas.List.FromFn.{get_or-map-range_with_len}
use Rattle.mpm_render.specs.Outputs.{closing}
use Rattle.mpm_render.specs.Shown.{KeptLines, line_of}
use Rattle.mpm_port.specs.declared.sink.Sink.{Ghosts}
use Rattle.mpm_render.specs.Puts.{PutsLine, WritesText, PutsEach, StopsClosing, texts_closed}

pub puts_none : {S : Type 0} (took : S → List ℕ → S → Type 0) (text : List ℕ) (old new : S) → text ≡ [] → new ≡ old → PutsLine took text old new
unfolding PutsLine
puts_none took [] old new none same = same
puts_none took (byte ∷ text) old new none same = absurd (cc)

pub puts_some : {S : Type 0} (took : S → List ℕ → S → Type 0) (text : List ℕ) (old new : S) → 0 < length text → took old text new → PutsLine took text old new
unfolding PutsLine
puts_some took [] old new some put = absurd (omega arith)
puts_some took (byte ∷ text) old new some put = put

-- where there is no text nothing is written
pub writes_none : {S A E : Type 0} (of : Ghosts S) (text : List ℕ) (sink : S) (value : A) → text ≡ [] → WritesText {E = E} of text sink sink (Ok value)
writes_none of text sink value none = record {
  ok = sym (ap (λ t. of.written sink ++ t) none ∙ append-nil (of.written sink));
  err = tt;
  some = tt;
  puts = puts_none of.took text sink sink none refl;
  drops = tt;
  cause = record { later = omega arith; stays = refl; failed = tt };
}

pub each_none : {S : Type 0} (took : S → List ℕ → S → Type 0) (texts : List (List ℕ)) (s : S) → PutsEach took (take 0 texts) s s
unfolding PutsEach
each_none took texts s = refl

-- one more text
each_more : {S : Type 0} (took : S → List ℕ → S → Type 0) (texts : List (List ℕ)) (text : List ℕ) (old middle new : S) → PutsEach took texts old middle → PutsLine took text middle new → PutsEach took (texts ++ text ∷ []) old new
unfolding PutsEach
each_more took [] text old middle new each put =
    let P : _ → Type 0 = λ s. PutsLine took text s new in (new, subst P each put, refl)
each_more took (first ∷ texts) text old middle new each put =
    (each.0, each.1, each_more took texts text each.0 middle new each.2 put)

-- what closing writes of a place is the text at its number
text_of : (kept : KeptLines) (place : ℕ) → place < 12 → get_or (texts_closed kept) place [] ≡ closing place (line_of kept place)
text_of kept place h =
    get_or-map-range_with_len (λ place. closing place (line_of kept place)) 0 12 place place [] h (omega arith)

pub all_texts : (kept : KeptLines) → take 12 (texts_closed kept) ≡ texts_closed kept
all_texts kept = refl

-- one more line is closed
pub each_closed : {S : Type 0} (took : S → List ℕ → S → Type 0) (kept : KeptLines) (place : ℕ) (line : List ℕ) (old middle new : S) → place < 12 → line ≡ line_of kept place → PutsEach took (take place (texts_closed kept)) old middle → PutsLine took (closing place line) middle new → PutsEach took (take (place + 1) (texts_closed kept)) old new
each_closed took kept place line old middle new small same each put =
    let P : List (List ℕ) → Type 0 = λ texts. PutsEach took texts old new in
    let Q : List ℕ → Type 0 = λ text. PutsLine took text middle new in
    let text = ap (closing place) same ∙ sym (text_of kept place small) in
    subst P (sym (take_more (texts_closed kept) place [] small)) (each_more took _ _ old middle new each (subst Q text put))

-- a line isn't closed
pub stops_closed : {A E S : Type 0} (result : Result A E) (took dropped : S → List ℕ → S → Type 0) (kept kept' : KeptLines) (place : ℕ) (line : List ℕ) (old middle new : S) → place < 12 → line ≡ line_of kept place → PutsEach took (take place (texts_closed kept)) old middle → 0 < length (closing place line) → dropped middle (closing place line) new → ((p : ℕ) → p < place → line_of kept' p ≡ []) → ((p : ℕ) → place ≤ p → line_of kept' p ≡ line_of kept p) → OnErr result (StopsClosing took dropped kept kept' old new)
stops_closed (Ok x) took dropped kept kept' place line old middle new small same each some put empty others = tt
stops_closed (Err e) took dropped kept kept' place line old middle new small same each some put empty others =
    let P : List ℕ → Type 0 = λ text. dropped middle text new in
    let text = ap (closing place) same ∙ sym (text_of kept place small) in
    record {
      stops = record {
        number = place;
        inside = small;
        middle = middle;
        before = each;
        some = λ none. omega (arith, ap length text, ap length none, some);
        failed = subst P text put;
      };
      empty = empty;
      others = others;
    }
