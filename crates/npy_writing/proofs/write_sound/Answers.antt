use Rattle.std.proofs.Common.{rules}
use native.Mathlib.Omega.{arith}
use Rattle.layer_coefficients.proofs.Layers.{small_layer}
use Rattle.npy_writing.proofs.write_sound.Goals as goal

pub overflow_mul-edges : goal.overflow_mul-edges
overflow_mul-edges c =
    omega (arith, (small_layer c.requires (search rules) c.find_layer-found.ensures).edges)

pub overflow_mul-bytes-2 : goal.overflow_mul-bytes-2
overflow_mul-bytes-2 c =
    omega (arith, (small_layer c.requires (search rules) c.find_layer-found.ensures).words)

pub overflow_add-bytes-2 : goal.overflow_add-bytes-2
overflow_add-bytes-2 c =
    omega (arith, (small_layer c.requires (search rules) c.find_layer-found.ensures).words)
