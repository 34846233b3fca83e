-- What a reader gave, where it is known, and what a writer took, piece by piece.
use Rattle.std.proofs.Common.{◌≡◌, ℕ, ◌+◌, ◌-◌, ◌<◌, ◌≤◌, List, [], ◌++◌, take, drop, length, Option, Some, None, MatchOption, refl, ap, sym, ◌∙◌, arith, append_assoc, append-nil, length-append, length-take}
use Rattle.std.specs.Bool.{⊤}
use Rattle.std.proofs.Math.Seq.{take-append-add}
use Rattle.std.proofs.lemmas.List.{take-append-le, take-take}
use Rattle.std.proofs.lemmas.Grind.{common_steps}
use Rattle.mpm_port.specs.Texts.{Begins, AppendsPart}
use Rattle.mpm_port.specs.Fetches.{TakesWhole, TakesFirst, TakesPart}
use Rattle.std.specs.Io.KnownBytes.{Appends, Consumes, IsAtEnd, Keeps}
use Rattle.std.proofs.KnownBytes.{Appends-nil, Appends-trans, Consumes-trans}
use Rattle.mpm_host.specs.Sent.{Sent, Sends, SendsPart}

-- what was written of the bytes: some first part, after which the rest is left
pub record Put {W : Type 0} (contents : W → Option (List ℕ)) (old : Sent W) (bytes rest : List ℕ) (new : Sent W) : Type 0 where
  pub done : List ℕ
  pub split : bytes ≡ done ++ rest
  pub sends : Sends contents done old new
  pub faults : new.faults ≡ old.faults

pub nothing_put : {W : Type 0} (contents : W → Option (List ℕ)) (old : Sent W) (bytes : List ℕ) → Put contents old bytes bytes old
nothing_put contents old bytes = record {
  done = [];
  split = refl;
  sends = record { text = sym (append-nil old.text); taken = Appends-nil (contents old.output) };
  faults = refl;
}

pub more_put : {W : Type 0} (contents : W → Option (List ℕ)) (old middle new : Sent W) (bytes rest : List ℕ) (n : ℕ) → Put contents old bytes rest middle → n ≤ length rest
    → Sends contents (take n rest) middle new → new.faults ≡ middle.faults → Put contents old bytes (take (length rest - n) (drop n rest)) new
more_put contents old middle new bytes rest n p within more same = record {
  done = p.done ++ take n rest;
  split = grind (arith, common_steps, p.split);
  sends = record {
    text = more.text ∙ ap (λ t. t ++ take n rest) p.sends.text ∙ append_assoc old.text p.done (take n rest);
    taken = Appends-trans (contents old.output) (contents middle.output) (contents new.output) p.done (take n rest) p.sends.taken more.taken;
  };
  faults = same ∙ p.faults;
}

pub all_put : {W : Type 0} (contents : W → Option (List ℕ)) (old new : Sent W) (bytes rest : List ℕ) → Put contents old bytes rest new → rest ≡ [] → Sends contents bytes old new
all_put contents old new bytes rest p none =
    let same : bytes ≡ p.done = grind (arith, common_steps, p.split) in rw same p.sends

pub part_put : {W : Type 0} (contents : W → Option (List ℕ)) (old new : Sent W) (bytes rest : List ℕ) → Put contents old bytes rest new → SendsPart contents bytes old new
part_put contents old new bytes rest p = record { part = p.done; begins = record { rest = rest; whole_is = p.split }; sends = p.sends }

-- nothing more was written before it failed
pub part_then : {W : Type 0} (contents : W → Option (List ℕ)) (old middle new : Sent W) (bytes rest : List ℕ) → Put contents old bytes rest middle → Sends contents [] middle new → SendsPart contents bytes old new
part_then contents old middle new bytes rest p none = record {
  part = p.done ++ [];
  begins = record { rest = rest; whole_is = p.split ∙ ap (λ d. d ++ rest) (sym (append-nil p.done)) };
  sends = record {
    text = none.text ∙ ap (λ t. t ++ []) p.sends.text ∙ append_assoc old.text p.done [];
    taken = Appends-trans (contents old.output) (contents middle.output) (contents new.output) p.done [] p.sends.taken none.taken;
  };
}

-- some bytes were sent, or none
pub some_sent : {W : Type 0} (contents : W → Option (List ℕ)) (old new : Sent W) (bytes : List ℕ) → new.text ≡ old.text ++ bytes
    → Appends (contents old.output) (contents new.output) bytes → Sends contents bytes old new
some_sent contents old new bytes text taken = record { text = text; taken = taken }

kept_appends : (a b : Option (List ℕ)) → Keeps a b → Appends a b []
kept_appends None b k = tt
kept_appends (Some text) None k = absurd k
kept_appends (Some text) (Some same) k = k ∙ sym (append-nil text)

pub none_sent : {W : Type 0} (contents : W → Option (List ℕ)) (old new : Sent W) → new.text ≡ old.text
    → Keeps (contents old.output) (contents new.output) → Sends contents [] old new
none_sent contents old new text kept = record { text = text ∙ sym (append-nil old.text); taken = kept_appends (contents old.output) (contents new.output) kept }

-- a first part of the bytes follows the text
pub part_appended : {W : Type 0} (contents : W → Option (List ℕ)) (old new : Sent W) (bytes : List ℕ) → SendsPart contents bytes old new → AppendsPart old.text bytes new.text
part_appended contents old new bytes p = record { part = p.part; begins = p.begins; new_is = p.sends.text }

-- what a writer took after what it kept
pub appends_later : (a b c : Option (List ℕ)) (bytes : List ℕ) → Keeps a b → Appends b c bytes → Appends a c bytes
appends_later None b c bytes k h = tt
appends_later (Some text) None c bytes k h = absurd k
appends_later (Some text) (Some same) None bytes k h = absurd h
appends_later (Some text) (Some same) (Some more) bytes k h = h ∙ ap (λ t. t ++ bytes) k

-- what a reader gives that kept what was left before
pub consumes_later : (a b c : Option (List ℕ)) (piece : List ℕ) → Keeps a b → Consumes b c piece → Consumes a c piece
consumes_later None b c piece k h = tt
consumes_later (Some left) None c piece k h = absurd k
consumes_later (Some left) (Some same) None piece k h = absurd h
consumes_later (Some left) (Some same) (Some rest) piece k h = sym k ∙ h

pub record Taken (before now : Option (List ℕ)) (start out : List ℕ) (room limit : ℕ) : Type 0 where
  pub done : List ℕ
  pub appended : out ≡ start ++ done
  pub within : length done + room ≡ limit
  pub taken : Consumes before now done

pub nothing_taken : (known : Option (List ℕ)) (start : List ℕ) (limit : ℕ) → Taken known known start start limit limit
nothing_taken None start limit = record { done = []; appended = sym (append-nil start); within = omega arith; taken = tt }
nothing_taken (Some left) start limit = record { done = []; appended = sym (append-nil start); within = omega arith; taken = refl }

pub more_taken : (a b c : Option (List ℕ)) (start out : List ℕ) (room limit : ℕ) (piece : List ℕ) (n : ℕ) → Taken a b start out room limit → Consumes b c (take n piece) → n ≤ length piece → n ≤ room → Taken a c start (out ++ take n piece) (room - n) limit
more_taken a b c start out room limit piece n t h k r = record {
  done = t.done ++ take n piece;
  appended = grind (arith, common_steps, t.appended);
  within = omega (arith, t.within, length-append t.done (take n piece), length-take n piece);
  taken = Consumes-trans a b c t.done (take n piece) t.taken h;
}

part_of : (a b : Option (List ℕ)) (start done : List ℕ) → Consumes a b done → MatchOption a ⊤ (λ file. Begins (start ++ done) (start ++ file))
part_of None b start done h = tt
part_of (Some left) (Some last) start done h =
    record { rest = last; whole_is = ap (λ xs. start ++ xs) h ∙ sym (append_assoc start done last) }
part_of (Some left) None start done h = absurd h

whole_of : (a b c : Option (List ℕ)) (start done : List ℕ) → Consumes a b done → Consumes b c [] → IsAtEnd c → MatchOption a ⊤ (λ file. start ++ done ≡ start ++ file)
whole_of None b c start done h k e = tt
whole_of (Some left) (Some more) (Some last) start done h k e = grind (arith, common_steps)
whole_of (Some left) (Some more) None start done h k e = absurd k
whole_of (Some left) None c start done h k e = absurd h

first_bytes : (start done piece last : List ℕ) (n room : ℕ) → n ≤ length piece → room < n → (start ++ done) ++ take room piece ≡ start ++ take (length done + room) (done ++ (take n piece ++ last))
first_bytes start done piece last n room h r =
    rw (take-append-add done (take n piece ++ last) room)
    (let within : room ≤ length (take n piece) = omega (arith, length-take n piece) in
    let less : room ≤ n = omega arith in
    rw (take-append-le room (take n piece) last within, take-take room n piece less) (append_assoc start done (take room piece)))

first_of_file : (a b c : Option (List ℕ)) (start done piece : List ℕ) (n room : ℕ) → Consumes a b done → Consumes b c (take n piece) → n ≤ length piece → room < n → MatchOption a ⊤ (λ file. (start ++ done) ++ take room piece ≡ start ++ take (length done + room) file) × MatchOption a ⊤ (λ file. length done + room < length file)
first_of_file None b c start done piece n room h k within r = (tt, tt)
first_of_file (Some left) (Some more) (Some last) start done piece n room h k within r =
    let all : left ≡ done ++ (take n piece ++ last) = cc in
    rw all (first_bytes start done piece last n room within r, omega (arith, length-append done (take n piece ++ last), length-append (take n piece) last, length-take n piece))
first_of_file (Some left) (Some more) None start done piece n room h k within r = absurd k
first_of_file (Some left) None c start done piece n room h k within r = absurd h

pub whole_taken : (a b c : Option (List ℕ)) (start out : List ℕ) (room limit : ℕ) → Taken a b start out room limit → Consumes b c [] → IsAtEnd c → TakesWhole a limit start out
whole_taken a b c start out room limit t h k = rw t.appended (record {
  kept = record { rest = t.done; whole_is = refl };
  within = omega (arith, t.within, length-append start t.done);
  contents = whole_of a b c start t.done t.taken h k;
})

pub first_taken : (a b c : Option (List ℕ)) (start out : List ℕ) (room limit : ℕ) (piece : List ℕ) (n : ℕ) → Taken a b start out room limit → Consumes b c (take n piece) → n ≤ length piece → room < n → TakesFirst a limit start (out ++ take room piece)
first_taken a b c start out room limit piece n t h k r =
    let first = first_of_file a b c start t.done piece n room t.taken h k r in
    rw (t.appended, ← t.within) (record {
      kept = record { rest = t.done ++ take room piece; whole_is = append_assoc start t.done (take room piece) };
      full = omega (arith, length-append (start ++ t.done) (take room piece), length-append start t.done, length-take room piece);
      contents = first.0;
      more = first.1;
    })

pub part_taken : (a b : Option (List ℕ)) (start out : List ℕ) (room limit : ℕ) → Taken a b start out room limit → TakesPart a limit start out
part_taken a b start out room limit t = rw t.appended (record {
  kept = record { rest = t.done; whole_is = refl };
  within = omega (arith, t.within, length-append start t.done);
  contents = part_of a b start t.done t.taken;
})
