-- What a configuration, a model's length and work slices that no check refuses give to the call behind them.
-- Assumes nothing.
use mathlib.Core.Path.{◌≡◌}
use mathlib.Core.List.{List, ◌++◌}
use Prim.Native.Nat.{ℕ, ◌+◌, ◌*◌, ◌≤◌}
use lib.Dec.{eqb, leb}
use lib.ListN.{drop}
use lib.Ieee.{Float}
use borrow.Author.Tests.{eqb-true, leb-true}
use Rattle.floats.specs.Sums.{zeros}
use Rattle.refusals.specs.Refusals.{◌otherwise◌}
use Rattle.refusals.proofs.Firsts.{both_pass, test_passes}
use Rattle.spline.specs.declared.Grid.{Grid}
use Rattle.layers.specs.Widths.{parameters_in, widest_in, nodes_in}
use Rattle.config.specs.Config.{config_fault}
use Rattle.config.specs.Sized.{Sized}
use Rattle.config.proofs.Sized.{sized}
use Rattle.admission.specs.Admission.{up_to8, up_to9, up_to9_for_nodes, up_to9_in_training, swept}

-- a model of n parameters
pub record Past8 (ws : List ℕ) (g : Grid) (n : ℕ) : Type 0 where
  pub size : Sized ws g
  pub model : n ≡ parameters_in (g.intervals + 5) ws

pub past8 : (ws : List ℕ) (g : Grid) (n : ℕ) → up_to8 ws g n ≡ 0 → Past8 ws g n
unfolding up_to8
past8 ws g n e =
    let both = both_pass (config_fault ws g) _ e in
    record {
      size = sized ws g both.0;
      model = eqb-true n _ (test_passes (eqb n (parameters_in (g.intervals + 5) ws)) 7 both.1);
    }

-- two work slices of a and b numbers
pub record Past9 (ws : List ℕ) (g : Grid) (n a b : ℕ) : Type 0 where
  pub size : Sized ws g
  pub model : n ≡ parameters_in (g.intervals + 5) ws
  pub first : widest_in ws ≤ a
  pub second : widest_in ws ≤ b

pub past9 : (ws : List ℕ) (g : Grid) (n a b : ℕ) → up_to9 ws g n a b ≡ 0 → Past9 ws g n a b
unfolding up_to9
past9 ws g n a b e =
    let after8 = both_pass (up_to8 ws g n) _ e in
    let both = both_pass (leb (widest_in ws) a otherwise 9) _ after8.1 in
    let p = past8 ws g n after8.0 in
    record {
      size = p.size;
      model = p.model;
      first = leb-true (widest_in ws) a (test_passes _ 8 both.0);
      second = leb-true (widest_in ws) b (test_passes _ 8 both.1);
    }

-- b numbers of work for the nodes
pub record Past9ForNodes (ws : List ℕ) (g : Grid) (n b : ℕ) : Type 0 where
  pub size : Sized ws g
  pub model : n ≡ parameters_in (g.intervals + 5) ws
  pub work : 2 * nodes_in ws ≤ b

pub past9_for_nodes : (ws : List ℕ) (g : Grid) (n b : ℕ) → up_to9_for_nodes ws g n b ≡ 0 → Past9ForNodes ws g n b
unfolding up_to9_for_nodes
past9_for_nodes ws g n b e =
    let both = both_pass (up_to8 ws g n) _ e in
    let p = past8 ws g n both.0 in
    record {
      size = p.size;
      model = p.model;
      work = leb-true (2 * nodes_in ws) b (test_passes _ 8 both.1);
    }

-- and a gradients
pub record Past9InTraining (ws : List ℕ) (g : Grid) (n a b : ℕ) : Type 0 where
  pub nodes : Past9ForNodes ws g n b
  pub gradients : parameters_in (g.intervals + 5) ws ≤ a

pub past9_in_training : (ws : List ℕ) (g : Grid) (n a b : ℕ) → up_to9_in_training ws g n a b ≡ 0
    → Past9InTraining ws g n a b
unfolding up_to9_in_training
past9_in_training ws g n a b e =
    let both = both_pass (up_to9_for_nodes ws g n b) _ e in
    record {
      nodes = past9_for_nodes ws g n b both.0;
      gradients = leb-true (parameters_in (g.intervals + 5) ws) a (test_passes _ 8 both.1);
    }

-- a slice that was swept past checks that refuse nothing
pub swept_past : (checks n : ℕ) (s s' : List Float) → checks ≡ 0 → s' ≡ zeros n ++ drop n s → s' ≡ swept checks n s
swept_past checks n s s' e h = rw e h
