-- Calls that concern their caller alone. (MP/M II Programmer's Guide, functions 12 and 163, return version number; 25, return current
-- disk; 26, set DMA address; 32, set or get user code; 44, set multi-sector count; 45, set BDOS error mode.)
use Rattle.std.specs.Prelude.{◌≡◌, ℕ, Bool, true, [], ◌∷◌}
use Rattle.mpm_base.specs.Lists.{is_among}
use Rattle.mpm_base.specs.declared.functions.TheConstants.{RETURN_VERSION_NUMBER, RETURN_CURRENT_DISK, SET_DMA_ADDRESS, SET_GET_USER_CODE, SET_MULTI_SECTOR_COUNT, SET_BDOS_ERROR_MODE, RETURN_MPM_VERSION_NUMBER}
use Rattle.mpm_procs.specs.Table.{Lives, call_of}
use Rattle.mpm_system.specs.declared.system.System.{System}

-- the functions that read and change nothing but their caller, and answer at once
abbrev pub is_own : ℕ → Bool
is_own function =
    is_among function
    (RETURN_VERSION_NUMBER ∷ RETURN_CURRENT_DISK ∷ SET_DMA_ADDRESS ∷ SET_GET_USER_CODE ∷ SET_MULTI_SECTOR_COUNT ∷ SET_BDOS_ERROR_MODE
    ∷ RETURN_MPM_VERSION_NUMBER ∷ [])

-- a process lives, and keeps a call of such a function, with a parameter
pub record KeepsOwnCall (p f parameter : ℕ) (system : System) : Type 0 where
  pub lives : Lives system.kernel.dispatcher.procs p
  pub own : is_own f ≡ true
  pub function : f ≡ (call_of system.kernel.dispatcher.procs p).function
  pub word : parameter ≡ (call_of system.kernel.dispatcher.procs p).word
