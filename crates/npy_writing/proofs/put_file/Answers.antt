use native.Mathlib.Omega.{arith}
use Rattle.npy_writing.proofs.Placed.{sizes, room, coefficients_asked, filled}
use Rattle.npy_writing.proofs.put_file.Goals as goal

pub put_header-requires : goal.put_header-requires
put_header-requires c =
    let z = sizes c.requires in
    (omega (arith, room c.requires, z.some), omega (arith, z.outputs), omega (arith, z.inputs), omega (arith, z.grid))

pub put_coefficients-requires : goal.put_coefficients-requires
put_coefficients-requires c =
    (coefficients_asked c.requires c.put_header.new.file c.put_header.auto.file, c.requires.sound)

pub returns : goal.returns
returns c = filled c.requires _ _ c.put_header.auto.file c.put_header.ensures c.put_coefficients.ensures
