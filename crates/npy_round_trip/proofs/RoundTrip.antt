-- A layer's coefficients to a file and back. Assumes nothing.
use Rattle.npy_round_trip.specs.RoundTrip.{RoundTrip}
use Rattle.npy_round_trip.proofs.InPlace.{in_place}
use Rattle.npy_round_trip.proofs.ReadBack.{read_back, restored}

pub round_trip : RoundTrip
round_trip = record { in_place = in_place; read_back = read_back; restored = restored }
