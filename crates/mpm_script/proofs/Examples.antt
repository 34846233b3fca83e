-- Worked examples, by computation.
use Rattle.std.proofs.Common.{◌≡◌, [], ◌∷◌, replicate, Some, None, Ok, Err, refl}
use Rattle.std.specs.Prelude.{codes}
use Rattle.mpm_script.specs.declared.event.Event.TheVariants.{Tick, Key, Ready, Int}
use Rattle.mpm_script.specs.Numbers.{value_from, is_plain, decimal_of, number_of, hex_digit}
use Rattle.mpm_script.specs.Keys.{escaped, key_of, keys_of, typed_of}
use Rattle.mpm_script.specs.Events.{typed_events, ready_event, flag_event, event_of, events_of, line_of}
use Rattle.mpm_script.specs.Scripts.{lines_from, script_of}

-- each form, a comment, an empty line, CR LF, and no LF at the end
pub script_of_forms : script_of (codes "# a\n0 tick\n\n7 key 0 a\\r\r\n7 ready 15 5a\n9 int 31")
    ≡ Ok (record { step = 0; event = Tick } ∷ record { step = 7; event = Key 0 97 } ∷ record { step = 7; event = Key 0 13 } ∷ record { step = 7; event = Ready 15 90 } ∷ record { step = 9; event = Int 31 } ∷ [])
unfolding value_from is_plain decimal_of number_of hex_digit escaped key_of keys_of typed_of typed_events ready_event flag_event event_of events_of line_of lines_from script_of
script_of_forms = refl

-- a step that goes back
pub script_of_back : script_of (codes "5 tick\n4 tick\n") ≡ Err 2
unfolding value_from is_plain decimal_of number_of hex_digit escaped key_of keys_of typed_of typed_events ready_event flag_event event_of events_of line_of lines_from script_of
script_of_back = refl

-- a CR at the end of the text stays
pub script_of_cr : script_of (codes "5 tick\r") ≡ Err 1
unfolding value_from is_plain decimal_of number_of hex_digit escaped key_of keys_of typed_of typed_events ready_event flag_event event_of events_of line_of lines_from script_of
script_of_cr = refl

-- 128 keys, and 129
pub typed_of_128 : typed_of (replicate 128 97) ≡ Some (replicate 128 97)
unfolding escaped key_of keys_of typed_of
typed_of_128 = refl

pub typed_of_129 : typed_of (replicate 129 97) ≡ None
unfolding escaped key_of keys_of typed_of
typed_of_129 = refl
