-- Records of completed calls come out one after another.
use Rattle.std.proofs.Common.{◌≡◌, ◌∙◌, ℕ, ◌+◌, ◌<◌, length, drop, get_or, List, [], ◌∷◌, ◌++◌, refl, sym, ap, subst, append_assoc}
use Rattle.std.proofs.lemmas.List.{at_drop_more}
use Rattle.mpm_render.specs.Completions.{Completion}
use Rattle.mpm_render.specs.Outputs.{Output, Completed}
use Rattle.mpm_output.specs.Outside.{Outside, Device}
use Rattle.mpm_output.specs.Writing.{CameOut, DeviceFails}
use Rattle.mpm_output.proofs.WritingLaws.{wrote_nothing, wrote_after, fails_within, fails_same}
use Rattle.mpm_system.specs.Written.{recorded_behind}

pub recorded_after : (calls : List Completion) (outputs : List Output) → recorded_behind calls outputs ≡ recorded_behind calls [] ++ outputs
unfolding recorded_behind
recorded_after [] outputs = refl
recorded_after (call ∷ calls) outputs =
    recorded_after calls (Completed call ∷ outputs)
    ∙ sym (append_assoc (recorded_behind calls []) (Completed call ∷ []) outputs)
    ∙ ap (λ (first : List Output). first ++ outputs) (sym (recorded_after calls (Completed call ∷ [])))

-- they are written one after another: what is left of them after what came out so far
pub record WrittenSo (calls rest : List Completion) (o m : Outside) : Type 0 where
  pub emitted : List Output
  pub wrote : CameOut o m emitted
  pub so : recorded_behind calls [] ≡ recorded_behind rest emitted

pub written_none : (calls : List Completion) (o : Outside) → WrittenSo calls calls o o
written_none calls o = record { emitted = []; wrote = wrote_nothing o; so = refl }

more_out : (call : Completion) (rest : List Completion) (outputs : List Output) → recorded_behind (call ∷ rest) outputs ≡ recorded_behind rest (Completed call ∷ outputs)
unfolding recorded_behind
more_out call rest outputs = refl

left_out : (calls now rest : List Completion) (call : Completion) (o m : Outside) (so : WrittenSo calls now o m) → now ≡ call ∷ rest
    → recorded_behind calls [] ≡ recorded_behind rest (Completed call ∷ so.emitted)
left_out calls now rest call o m so is =
    so.so ∙ ap (λ (left : List Completion). recorded_behind left so.emitted) is ∙ more_out call rest so.emitted

pub next_call : (calls items : List Completion) (index : ℕ) (call : Completion) → items ≡ calls → index < length calls → call ≡ get_or items index call
    → drop index calls ≡ call ∷ drop (index + 1) calls
next_call calls items index call same below is =
    at_drop_more (λ (left : List Completion). left) calls index call below
    ∙ ap (λ (first : Completion). first ∷ drop (index + 1) calls) (sym (is ∙ ap (λ (list : List Completion). get_or list index call) same))

pub written_more : (calls now rest : List Completion) (call : Completion) (o m n : Outside) → WrittenSo calls now o m → now ≡ call ∷ rest
    → CameOut m n (Completed call ∷ []) → WrittenSo calls rest o n
written_more calls now rest call o m n so is wrote = record {
  emitted = Completed call ∷ so.emitted;
  wrote = wrote_after o m n so.emitted (Completed call ∷ []) so.wrote wrote;
  so = left_out calls now rest call o m so is;
}

pub written_fails : (device : Device) (calls now rest : List Completion) (call : Completion) (o m n : Outside) → WrittenSo calls now o m → now ≡ call ∷ rest
    → DeviceFails device m n (Completed call ∷ []) → DeviceFails device o n (recorded_behind calls [])
written_fails device calls now rest call o m n so is failed =
    fails_same device o n _ _ (sym (left_out calls now rest call o m so is ∙ recorded_after rest (Completed call ∷ so.emitted)))
    (fails_within device o m n so.emitted (Completed call ∷ []) (recorded_behind rest []) so.wrote failed)

pub written_all : (calls now : List Completion) (o m : Outside) → WrittenSo calls now o m → now ≡ [] → CameOut o m (recorded_behind calls [])
unfolding recorded_behind
written_all calls now o m so is =
    let P : List Output → Type 0 = λ emitted. CameOut o m emitted in
    subst P (sym (so.so ∙ ap (λ (left : List Completion). recorded_behind left so.emitted) is)) so.wrote
