-- Bytes that come to a console one after another.
use Rattle.std.proofs.Common.{◌≡◌, ◌∙◌, ℕ, true, false, List, [], ◌∷◌, ◌++◌, set, get_or, refl, sym, ap}
use Rattle.std.proofs.lemmas.List.{get_or-set_same, set-get_or, set-set}
use Rattle.mpm_consoles.specs.Columns.{columns_after, tab_text}
use Rattle.mpm_consoles.specs.Console.{Console, new_console, spoken, written}
use Rattle.mpm_consoles.specs.Consoles.{Consoles, console_at, HasConsole}
use Rattle.mpm_consoles.specs.Handling.{spoke, put_out}
use Rattle.mpm_base.specs.declared.unit.Unit.TheVariants.{Console as ConsoleUnit}
use Rattle.mpm_consoles.proofs.ColumnLaws.{columns_nil, columns_append}
use Rattle.mpm_consoles.proofs.FateLaws.{set_there}

-- the column after some bytes
pub column_spoke : (t : Consoles) (n : ℕ) (bytes : List ℕ) → HasConsole t n → (console_at (spoke t n bytes) n).column ≡ columns_after (console_at t n).column bytes
unfolding spoke spoken
column_spoke t n bytes has = ap (λ (c : Console). c.column) (set_there t n (spoken bytes (console_at t n)) has)

spoken_none : (console : Console) → spoken [] console ≡ console
unfolding spoken
spoken_none console = ap (λ (column : ℕ). record console { column = column }) (columns_nil console.column)

pub spoke_none : (t : Consoles) (n : ℕ) → spoke t n [] ≡ t
unfolding spoke
spoke_none t n =
    ap (λ (consoles : List Console). record t { consoles = consoles })
    (ap (set t.consoles n) (spoken_none (console_at t n)) ∙ set-get_or t.consoles n new_console)

spoken_both : (console : Console) (a b : List ℕ) → spoken b (spoken a console) ≡ spoken (a ++ b) console
unfolding spoken
spoken_both console a b = ap (λ (column : ℕ). record console { column = column }) (sym (columns_append console.column a b))

pub spoke_both : (t : Consoles) (n : ℕ) (a b : List ℕ) → HasConsole t n → spoke (spoke t n a) n b ≡ spoke t n (a ++ b)
unfolding spoke
spoke_both t n a b has =
    let there : get_or (set t.consoles n (spoken a (console_at t n))) n new_console ≡ spoken a (console_at t n) = get_or-set_same t.consoles n (spoken a (console_at t n)) new_console has in
    ap (λ (consoles : List Console). record t { consoles = consoles })
    (set-set t.consoles n (spoken a (console_at t n)) _
    ∙ ap (set t.consoles n) (ap (spoken b) there ∙ spoken_both (console_at t n) a b))

-- a byte that is written as itself, or with a tab expanded
pub output_itself : (t : Consoles) (n byte : ℕ) → put_out t (ConsoleUnit n) byte false ≡ spoke t n (byte ∷ [])
unfolding put_out written spoke
output_itself t n byte = refl

pub output_tabbed : (t : Consoles) (n byte : ℕ) → put_out t (ConsoleUnit n) byte true ≡ spoke t n (tab_text (console_at t n).column byte)
unfolding put_out written spoke
output_tabbed t n byte = refl
