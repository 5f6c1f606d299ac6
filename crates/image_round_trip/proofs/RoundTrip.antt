-- There and back gives the same contents, and the same bytes. Assumes nothing.
use Rattle.image_round_trip.specs.RoundTrip.{RoundTrip}
use Rattle.image_round_trip.proofs.FromWriter.{read_back}
use Rattle.image_round_trip.proofs.FromReader.{written_again_lem}

pub round_trip : RoundTrip
round_trip = record { read_back = read_back; written_again = written_again_lem }
