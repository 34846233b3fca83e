-- Worked examples, by computation.
use Rattle.std.proofs.Common.{◌≡◌, Some, true, refl}
use Rattle.std.specs.Prelude.{replicate}
use Rattle.mpm_consoles.specs.Columns.{spaces_for}
use Rattle.mpm_consoles.specs.Console.{Console, new_console, typed, with_key, awakened, woken}
use Rattle.mpm_consoles.specs.Handling.{typed_answer}
use Rattle.mpm_consoles.specs.declared.console.Awaited.TheVariants.{Key}
use Rattle.mpm_consoles.specs.declared.keys.KeyDone.TheVariants.{Wakes, Dropped}

-- a console that process 3 owns, with 64 keys
abbrev full : Console
full = record new_console { owner = Some 3; keys = replicate 64 97 }

pub key_65_is_lost : (typed 65 full).lost ≡ 1
unfolding typed with_key awakened new_console
key_65_is_lost = refl

pub keys_stay : (typed 65 full).keys ≡ replicate 64 97
unfolding typed with_key awakened new_console
keys_stay = refl

pub key_65_is_dropped : typed_answer full ≡ Dropped
unfolding typed_answer woken new_console
key_65_is_dropped = refl

-- two causes at once: it is lost, and its owner waits for a key
pub key_65_wakes : typed_answer (record full { awaits = Some Key }) ≡ Wakes 3
unfolding typed_answer woken new_console
key_65_wakes = refl

-- tabs at the columns 0, 7, 8 and 65,535
pub tab_at_first : spaces_for 0 9 true ≡ 8
unfolding spaces_for
tab_at_first = refl

pub tab_at_last : spaces_for 65535 9 true ≡ 1
unfolding spaces_for
tab_at_last = refl
