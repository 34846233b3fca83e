-- Laws of writing: nothing, one part after another, and a failure in a later part.
use Rattle.std.proofs.Common.{◌≡◌, ◌∙◌, ℕ, Bool, List, [], ◌∷◌, ◌++◌, ◌≤◌, Result, Ok, Err, OnOk, OnErr, IsErr, inl, inr, refl, ap, sym, subst, append_assoc, arith}
use Rattle.std.proofs.lemmas.List.{append-nil}
use Rattle.mpm_port.specs.Causes.{Rose, HasCause}
use Rattle.mpm_port.specs.Texts.{Begins}
use Rattle.mpm_port.specs.declared.Failed.{Failed}
use Rattle.mpm_base.specs.declared.unit.Unit.{Unit}
use Rattle.mpm_base.specs.declared.unit.Unit.TheVariants.{Console}
use Rattle.mpm_render.specs.Outputs.{Output, Said, said, rendered}
use Rattle.mpm_render.specs.Shown.{Shows, EndsBetween}
use Rattle.mpm_render.proofs.Laws.{said_nil, said_cons, said_append, rendered_grows}
use Rattle.mpm_render.proofs.Grows.{begins_refl, begins_trans, widened}
use Rattle.mpm_output.specs.Outside.{DeviceFaults, Outside, Device, TheSink, by_sink}
use Rattle.mpm_output.specs.Writing.{spoken, CameOut, Stopped, DeviceFails, Emits}

said_before : (u : Unit) (bytes : List ℕ) (os : List Output) → said u bytes os ≡ said u bytes [] ++ os
said_before u [] os = said_nil u os ∙ ap (λ t. t ++ os) (sym (said_nil u []))
said_before u (b ∷ bytes) os =
    said_cons u b bytes os
    ∙ (said_before u bytes (Said u b ∷ os)
    ∙ (sym (append_assoc (said u bytes []) (Said u b ∷ []) os)
    ∙ ap (λ t. t ++ os) (sym (said_before u bytes (Said u b ∷ [])) ∙ sym (said_cons u b bytes []))))

pub spoken_nil : (n : ℕ) → spoken n [] ≡ []
unfolding spoken
spoken_nil n = said_nil (Console n) []

pub spoken_one : (n b : ℕ) → spoken n (b ∷ []) ≡ Said (Console n) b ∷ []
unfolding spoken
spoken_one n b = said_cons (Console n) b [] [] ∙ said_nil (Console n) (Said (Console n) b ∷ [])

pub spoken_append : (n : ℕ) (a b : List ℕ) → spoken n (a ++ b) ≡ spoken n b ++ spoken n a
unfolding spoken
spoken_append n a b = said_append (Console n) a b [] ∙ said_before (Console n) b (said (Console n) a [])

pub rendered_onward : (trace : Bool) (emitted os : List Output) → Begins (rendered trace os) (rendered trace (emitted ++ os))
rendered_onward trace [] os = begins_refl (rendered trace os)
rendered_onward trace (o ∷ emitted) os =
    begins_trans (rendered trace os) (rendered trace (emitted ++ os)) (rendered trace (o ∷ (emitted ++ os)))
    (rendered_onward trace emitted os) (rendered_grows trace o (emitted ++ os))

-- nothing, and one part after another

pub wrote_nothing : (o : Outside) → CameOut o o []
wrote_nothing o = record { shown = λ outputs first shows. shows; faults = refl; trace = refl }

pub wrote_after : (o m n : Outside) (a b : List Output) → CameOut o m a → CameOut m n b → CameOut o n (b ++ a)
wrote_after o m n a b p q = record {
  shown = λ outputs first shows.
      let P : List Output → Type 0 = λ os. Shows n.kept n.written os first in
      subst P (sym (append_assoc b a outputs)) (q.shown (a ++ outputs) first (p.shown outputs first shows));
  faults = q.faults ∙ p.faults;
  trace = q.trace ∙ p.trace;
}

-- what fails after some outputs, and before others, fails in all of them
pub fails_within : (device : Device) (o m n : Outside) (a b c : List Output) → CameOut o m a → DeviceFails device m n b → DeviceFails device o n (c ++ (b ++ a))
fails_within TheSink o m n a b c p q =
    let trace = o.kept.trace in
    let R : DeviceFaults → Type 0 = λ faults. Rose faults.sink n.faults.sink in
    record {
      part = λ outputs first shows.
          let afterwards = a ++ outputs in
          let whole = append_assoc c (b ++ a) outputs ∙ ap (λ t. c ++ t) (append_assoc b a outputs) in
          let P : List Output → Type 0 = λ os. EndsBetween n.written first (rendered trace outputs) (rendered trace os) in
          let Q : Bool → Type 0 = λ t. EndsBetween n.written first (rendered t afterwards) (rendered t (b ++ afterwards)) in
          subst P (sym whole)
          (widened n.written first (rendered trace outputs) (rendered trace afterwards) (rendered trace (b ++ afterwards)) (rendered trace (c ++ (b ++ afterwards)))
          (rendered_onward trace a outputs) (rendered_onward trace c (b ++ afterwards))
          (subst Q p.trace (q.part afterwards first (p.shown outputs first shows))));
      rose = subst R p.faults q.rose;
      trace = q.trace ∙ p.trace;
    }

-- a failure in the first part

pub fails_before : (device : Device) (o n : Outside) (a b : List Output) → DeviceFails device o n a → DeviceFails device o n (b ++ a)
fails_before device o n a b failed =
    let P : List Output → Type 0 = λ os. DeviceFails device o n (b ++ os) in
    subst P (append-nil a) (fails_within device o o n [] a b (wrote_nothing o) failed)

-- the same of calls: nothing is said, and the last part is that of the call

pub emits_nothing : {A E : Type 0} (device : E → Device) (o : Outside) (x : A) → Emits device o o [] (Ok x)
emits_nothing device o x = record { ok = wrote_nothing o; err = tt }

pub emits_after : {A E : Type 0} (device : E → Device) (o m n : Outside) (a b : List Output) (r : Result A E)
    → CameOut o m a → Emits device m n b r → Emits device o n (b ++ a) r
emits_after device o m n a b (Ok x) p q = record { ok = wrote_after o m n a b p q.ok; err = tt }
emits_after device o m n a b (Err e) p q = record { ok = tt; err = fails_within (device e) o m n a b [] p q.err }

-- a call that only passes on that the sink failed
pub passes_on : {A : Type 0} (r : Result A Failed) (o n : Outside) (emitted : List Output) → IsErr r → Stopped o n emitted → Emits by_sink o n emitted r
passes_on (Ok x) o n emitted is stopped = absurd (cc)
passes_on (Err e) o n emitted is stopped = record { ok = tt; err = stopped }

-- what is so of outputs is so of the same ones by another name

pub fails_same : (device : Device) (o n : Outside) (a b : List Output) → a ≡ b → DeviceFails device o n a → DeviceFails device o n b
fails_same device o n a b same failed = let P : List Output → Type 0 = λ os. DeviceFails device o n os in subst P same failed

pub emits_same : {A E : Type 0} (device : E → Device) (o n : Outside) (a b : List Output) (r : Result A E) → a ≡ b → Emits device o n a r → Emits device o n b r
emits_same device o n a b r same emits = let P : List Output → Type 0 = λ os. Emits device o n os r in subst P same emits

-- bytes: none, more of them, and a stop among them

pub spoke_nothing : (n : ℕ) (o : Outside) → CameOut o o (spoken n [])
spoke_nothing n o = let P : List Output → Type 0 = λ emitted. CameOut o o emitted in subst P (sym (spoken_nil n)) (wrote_nothing o)

pub spoke_more : (n : ℕ) (o m k : Outside) (a b whole : List ℕ) → whole ≡ a ++ b → CameOut o m (spoken n a) → CameOut m k (spoken n b)
    → CameOut o k (spoken n whole)
spoke_more n o m k a b whole e p q =
    let P : List Output → Type 0 = λ emitted. CameOut o k emitted in
    subst P (sym (spoken_append n a b) ∙ ap (spoken n) (sym e)) (wrote_after o m k (spoken n a) (spoken n b) p q)

pub stopped_more : (n : ℕ) (o m k : Outside) (a b rest whole : List ℕ) → whole ≡ a ++ (b ++ rest) → CameOut o m (spoken n a) → Stopped m k (spoken n b)
    → Stopped o k (spoken n whole)
stopped_more n o m k a b rest whole e p q =
    let P : List Output → Type 0 = λ emitted. Stopped o k emitted in
    let parts : spoken n whole ≡ spoken n rest ++ (spoken n b ++ spoken n a) =
    ap (spoken n) e ∙ (spoken_append n a (b ++ rest) ∙ (ap (λ t. t ++ spoken n a) (spoken_append n b rest) ∙ append_assoc (spoken n rest) (spoken n b) (spoken n a))) in
    subst P (sym parts) (fails_within TheSink o m k (spoken n a) (spoken n b) (spoken n rest) p q)

-- one output, by what the renderer says of it

pub emits_one : {A : Type 0} (r : Result A Failed) (o n : Outside) (output : Output) → HasCause o.faults.sink n.faults.sink r → n.kept.trace ≡ o.kept.trace
    → ((os : List Output) (first : List ℕ) → Shows o.kept o.written os first → OnOk r (Shows n.kept n.written (output ∷ os) first))
    → ((os : List Output) (first : List ℕ) → Shows o.kept o.written os first
    → OnErr r (EndsBetween n.written first (rendered o.kept.trace os) (rendered o.kept.trace (output ∷ os))))
    → Emits by_sink o n (output ∷ []) r
emits_one (Ok x) o n output cause same shown part = record {
  ok = record { shown = shown; faults = ap (λ (k : ℕ). let faults : DeviceFaults = record { sink = k } in faults) cause.stays; trace = same };
  err = tt;
}
emits_one (Err e) o n output cause same shown part = record { ok = tt; err = record { part = part; rose = cause.failed; trace = same } }

pub emits_byte : {A : Type 0} (r : Result A Failed) (n byte : ℕ) (o m : Outside) → Emits by_sink o m (Said (Console n) byte ∷ []) r
    → Emits by_sink o m (spoken n (byte ∷ [])) r
emits_byte r n byte o m emits = let P : List Output → Type 0 = λ emitted. Emits by_sink o m emitted r in subst P (sym (spoken_one n byte)) emits

-- from what such a call leaves, the counts

risen : (before now : ℕ) → Rose before now → before ≤ now
unfolding Rose
risen before now (inl above) = omega arith
risen before now (inr last) = omega arith

pub wrote_cause : {A E : Type 0} (x : A) (o n : Outside) (emitted : List Output) → CameOut o n emitted → HasCause {E = E} o.faults.sink n.faults.sink (Ok x)
wrote_cause x o n emitted wrote =
    let same = ap (λ (faults : DeviceFaults). faults.sink) wrote.faults in
    record { later = omega (arith, same); stays = same; failed = tt }

pub stopped_cause : {A E : Type 0} (e : E) (o n : Outside) (emitted : List Output) → Stopped o n emitted → HasCause {A = A} o.faults.sink n.faults.sink (Err e)
stopped_cause e o n emitted stopped = record {
  later = risen o.faults.sink n.faults.sink stopped.rose;
  stays = tt;
  failed = stopped.rose;
}
