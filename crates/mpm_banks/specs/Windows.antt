-- How memory is lent as a window: what its owner holds once the borrow is over.
use Rattle.std.specs.Prelude.{◌≡◌, ℕ, List, Option, Some}
use Rattle.std.specs.Borrow.{Lends, RestsIfNone, follows, MutBor, Fml, GName, Array, u8}
use Rattle.mpm_banks.specs.Memory.{Memory}
use Rattle.mpm_banks.specs.Ranges.{range_of, range_size, IsInsideMemory, put_range}
use Rattle.mpm_banks.specs.declared.range.Range.{Range}
use Rattle.mpm_banks.specs.declared.window.Window.{Window}
use Rattle.mpm_banks.specs.contracts.banks.Banks.{the_row}

-- memory has the bytes that were left in the range
abbrev pub LendsMemory : MutBor Memory → Range → MutBor (List ℕ) → Fml
LendsMemory owner range lent = Lends the_row (Array u8 0) owner lent (put_range owner.now range)

-- the memory that a window lends from
abbrev pub window_name : Window → GName
window_name window = window.banks.ghost_name

-- without a window memory stays
abbrev pub LendsWindow : MutBor Memory → Option Window → Fml
LendsWindow owner window = RestsIfNone the_row owner window_name window (λ memory. memory ≡ owner.now)

-- a window's memory has the bytes that were left in it
abbrev pub LendsBytes : Window → MutBor (List ℕ) → Fml
LendsBytes window lent =
    follows the_row (Array u8 0) window.banks.ghost_name lent.ghost_name (put_range window.banks.now window.range)

-- the window that so many addresses of a process name, from one on
pub record IsWindow (owner : MutBor Memory) (seg address size : ℕ) (window : Window) : Type 0 where
  pub same : window.banks.ghost_name ≡ owner.ghost_name
  pub memory : window.banks.now ≡ owner.now
  pub range_is : range_of owner.now seg address size ≡ Some window.range
  pub size_is : range_size window.range ≡ size
  pub inside : IsInsideMemory owner.now window.range
