-- Each stored entry is T[i]. Assumes nothing.
use Rattle.std.proofs.Common.{◌≡◌, ℕ, true, List, refl}
use Rattle.exponential.specs.declared.table.TheConstants.{SCALED}
use Rattle.exponential.specs.Steps.{Powers}
use Rattle.exponential.proofs.Entries.{every}
use Rattle.exponential.proofs.Powers.{right, entry}

-- the table as the code stores it
abbrev pub stored : List ℕ
stored = SCALED

-- R7.3: all 256 stored entries pass the one test, which is computed here
pub table_passes : every right 0 stored ≡ true
table_passes = refl

pub stored_powers : Powers SCALED
stored_powers i h = entry stored i table_passes h h
