-- R11.1, R11.2: the generator SplitMix64, whose sums and products wrap at 2^64. Definitions only.
use Rattle.std.specs.Prelude.{ℕ, ◌+◌, ◌*◌, ◌/◌, ◌%◌, ◌^◌, bit_xor, Float}
use Rattle.std.specs.Float.{binary32}
use Rattle.std.specs.Float.Ieee.{of_bits}
use Rattle.floats.specs.Binary32.{◌⊖◌, ◌⊗◌, ◌⊘◌, one32, two32, whole32}
use Rattle.generator.specs.declared.SplitMix64.{SplitMix64}
use Rattle.generator.specs.declared.Draw.{Draw}
use Rattle.generator.specs.declared.Uniform.{Uniform}

-- R11.1: a generator is its state, and begins at the seed
unfoldable pub seeded_of : ℕ → SplitMix64
seeded_of seed = record { state = seed }

-- R11.1: the next state
unfoldable pub advance_of : ℕ → ℕ
advance_of state = (state + 0x9e37_79b9_7f4a_7c15) % 2 ^ 64

-- R11.1: z with its own upper bits, moved down by `shift`, laid over it
unfoldable pub fold_of : ℕ → ℕ → ℕ
fold_of shift z = bit_xor z (z / 2 ^ shift)

-- R11.1: the 64 bits that a state gives
unfoldable pub mix_of : ℕ → ℕ
unfolding fold_of
mix_of state =
    let once = fold_of 30 state * 0xbf58_476d_1ce4_e5b9 % 2 ^ 64 in
    let twice = fold_of 27 once * 0x94d0_49bb_1331_11eb % 2 ^ 64 in
    fold_of 31 twice

-- R11.2: the top 24 bits over 16,777,215, doubled, less 1: each operation rounded to an f32
unfoldable pub signed_of : ℕ → Float
unfolding of_bits
signed_of bits =
    let unit = whole32 (bits / 2 ^ 40) ⊘ of_bits binary32 0x4b7f_ffff in
    (two32 ⊗ unit) ⊖ one32

-- R11.1: a draw advances the state first
unfoldable pub draw_of : SplitMix64 → Draw
unfolding advance_of mix_of
draw_of g = record { value = mix_of (advance_of g.state); next = record { state = advance_of g.state } }

-- R11.2: `signed_uniform`, of one draw
unfoldable pub uniform_of : SplitMix64 → Uniform
unfolding draw_of signed_of
uniform_of g = record { value = signed_of (draw_of g).value; next = (draw_of g).next }
