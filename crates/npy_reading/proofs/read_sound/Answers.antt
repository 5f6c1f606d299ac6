use Rattle.std.proofs.Common.{rules}
use Rattle.layer_coefficients.proofs.Layers.{small_layer}
use Rattle.npy_reading.proofs.read_sound.Goals as goal

pub take_file-requires : goal.take_file-requires
take_file-requires c = small_layer c.requires (search rules) c.find_layer-found.ensures
