-- By the law of a list of equal numbers: so many are not counted one by one.
use Rattle.std.proofs.Common.{◌≡◌, ℕ, length, sym}
use Rattle.std.proofs.Math.ListN.{replicate, length-replicate}
use Rattle.listing.proofs.room.Goals as goal

counted : (n v : ℕ) → n ≡ length (replicate n v)
counted n v = sym (length-replicate n v)

pub returns : goal.returns
returns c = counted 1500000 0
