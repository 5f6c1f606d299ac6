-- R3.4: what calls on a model check first, named by the check that they reach, and R3.6: what a work slice holds
-- afterwards. Definitions only.
use Rattle.std.specs.Prelude.{ℕ, ◌*◌, List, ◌++◌, eqb, leb, drop, Float}
use Rattle.floats.specs.Sums.{zeros}
use Rattle.refusals.specs.Refusals.{◌otherwise◌, ◌then◌, past}
use Rattle.spline.specs.declared.Grid.{Grid}
use Rattle.layers.specs.Widths.{widest_in, nodes_in}
use Rattle.config.specs.Config.{parameters_for, config_fault}

-- R3.4, R3.5: the configuration, then 8, the model slice has not exactly P numbers
unfoldable pub up_to8 : List ℕ → Grid → ℕ → ℕ
up_to8 ws g model = config_fault ws g then eqb model (parameters_for ws g) otherwise 8

-- R2.7, R3.5: then 9, one of two work slices has fewer than W numbers
unfoldable pub up_to9 : List ℕ → Grid → ℕ → ℕ → ℕ → ℕ
up_to9 ws g model first second =
    up_to8 ws g model then leb (widest_in ws) first otherwise 9 then leb (widest_in ws) second otherwise 9

-- R2.7, R3.5: 9 of `accumulate`: 2N numbers of work, for the nodes
unfoldable pub up_to9_for_nodes : List ℕ → Grid → ℕ → ℕ → ℕ
up_to9_for_nodes ws g model work = up_to8 ws g model then leb (2 * nodes_in ws) work otherwise 9

-- R2.7, R3.5: the same in training, and P numbers for the gradients
unfoldable pub up_to9_in_training : List ℕ → Grid → ℕ → ℕ → ℕ → ℕ
up_to9_in_training ws g model gradients work =
    up_to9_for_nodes ws g model work then leb (parameters_for ws g) gradients otherwise 9

-- R3.6: past check 9 the needed part of a slice is all +0.0, after success too; refused by a check up to 9, unchanged
abbrev pub swept : ℕ → ℕ → List Float → List Float
swept checks needed s = past checks (zeros needed ++ drop needed s) s
