-- `forward::forward` meets its contract: a walk of its MIR, by hand, over what `work`, `lies_in_first` and `pick` say.
-- Both work slices are lent to `work` for a time that is made for the call, come back, and are spent by `pick`, which says what
-- their names end as. Assumes nothing.
use mathlib.Core.Path.{◌≡◌, refl, ◌∙◌, ap}
use mathlib.Core.Bool.{Bool, cond}
use mathlib.Core.List.{List, [], ◌∷◌}
use Prim.Native.Nat.{ℕ, ◌≤◌, ◌<◌, ◌^◌}
use lib.Dec.{T as Holds}
use lib.ListN.{length, take}
use lib.Ieee.{Float, binary32}
use seplogic.Ra.Ura.{Ura}
use base.Share
use base.Fraction.{full_share}
use mir.Syntax.{named, w64}
use mir.Val.{Val, WT, has_ty, vint, vbool, vptr}
use base.Logic.{SProp, ent, emp, sep, via, fst∗, id⊢, assoc∗, comm∗, emp∗}
use base.Fml.{Lft, GName, Share as Shr, ftrue, fsep, flft, fres, fbor}
use prog.Memory.{Memory}
use prog.Routine.{Routine}
use prog.Wp.{Calls, Loops, WpFn}
use types.Logic.{Logic}
use contract.Lifetimes.{Lfts, Shares}
use contract.Monad.{Fun, fact}
use contract.Running.{tables}
use types.Kit.{Item, mean, ⋆, ‵, raw, given, ◌⊛◌, some, later, ◌$◌, ◌∵◌, !, qed, by, move, keep, group, use1, use2, use3}
use types.Kit.{rewrite, split, pick as picks, learn, check, fsplit, feq_l, suffices, frame, await, updating, now as at_once, show, done}
use types.Run.{stop, hop, fld, from, addr, and_then, no_more, returns, enter}
use types.ByLocal.{alloc_all, pass_all, free_all, look_at, look_in_at, get, get_in, through, sets, lands_as}
use types.Part.{agg, whole, sub}
use types.SemTy.{Body}
use types.Tokens.{lft_new, lft_end}
use sound.WpLaws.{FmC}
use denote.RattleType.{owns}
use denote.Memory.{mem as in_memory}
use denote.Laws.{Is, shows}
use denote.Plain.{uint_Makes, uint_row_laws, bool_Makes, Boolean}
use denote.Floats.{float_row_laws}
use denote.Builtin.{f32, u32, usize}
use denote.Ref.{Bor, MutBor, MutRef, mut_vals, mut_Tells}
use denote.Slice.{slice_val, finally, MutSlice, ShrSlice, Room, mut_slice_vals, mut_slice_Tells}
use denote.Slice.{shr_slice_vals, shr_slice_Tells, shr_slice_copy, shr_slice_Lawful}
use denote.Struct.Laws as struct
use denote.Signature.{plain, mut_slice_of}
use denote.Steps.{only, owned, peeks, heard, nothing}
use denote.Triple.Entry.{on_entry}
use denote.Triple.Spec.{triple_of}
use denote.Triple.Statement.{Contract, Triple}
use denote.Triple.Call.{calls_at}
use denote.Triple.Clauses.{ensured, lasts}
use denote.Triple.Table.{framed}
use denote.Triple.Walked.{on_exit, says, Stays, stay_none, stay_none_slice, stay_dropped, gave_ref, walk_of}
use denote.Triple.Walked.{ends_at, Goes-none, Goes-none_slice, Goes-gave_ref, Goes-spent_slice}
use denote.Exit.{yes, no}
use Rattle.std.proofs.raw_atomic.Walks.{proved}
use Rattle.spline.specs.declared.Grid.{Grid}
use Rattle.spline.specs.contracts.Grid as grid
use Rattle.spline.proofs.Grid.TheLaws as grid-laws
use Rattle.layers.specs.Net.{net_of}
use Rattle.forward.specs.Forward.{in_first, forward_first, forward_second, Handed}
use Rattle.forward.specs.Steps.{Forwarded}
use Rattle.forward.proofs.Passing.{part_is}
use Rattle.either_front.proofs.Again.{LentAgain, lends_again, comes_back}
use Rattle.forward.specs.contracts.work as work
use Rattle.forward.proofs.work.Symbol.{name as #work}
use Rattle.forward.proofs.work.Met as work-thm
use Rattle.forward.specs.contracts.lies_in_first as lies
use Rattle.forward.proofs.lies_in_first.Symbol.{name as #lies}
use Rattle.forward.proofs.lies_in_first.Met as lies-thm
use Rattle.either_front.specs.contracts.pick as pick
use Rattle.either_front.proofs.pick.Symbol.{name as #pick}
use Rattle.either_front.proofs.pick.Met as pick-thm
use Rattle.forward.specs.contracts.forward.Key.{name as #forward}
use Rattle.forward.specs.contracts.forward as forward
use Rattle.forward.proofs.forward.Statement as stated
use Rattle.forward.proofs.forward.Code as code

abbrev stayed : Stays (forward.ended).signature.params (forward.ended).kept
stayed = (
  gave_ref (0 ∷ []) tt (plain (λ _. u32)),
  (
    stay_none_slice (1 ∷ []) tt (plain (λ _. usize)) yes,
    (
      stay_none (λ _. grid.the_row) yes,
      (
        stay_none_slice (2 ∷ []) tt (plain (λ _. f32)) yes,
        (
          stay_none_slice (3 ∷ []) tt (plain (λ _. f32)) yes,
          (stay_dropped (mut_slice_of (4 ∷ []) tt (plain (λ _. f32))) no, (stay_dropped (mut_slice_of (4 ∷ []) tt (plain (λ _. f32))) no, tt)),
        ),
      ),
    ),
  ),
)

-- what `work` leaves: its result, the number, and the two lists
record Left : Type 0 where
  pub n : ℕ
  pub number : ℕ
  pub first : List Float
  pub second : List Float

record Worked (Did : Left → Type 0) (xs ys : List Float) (w : Val) (z : Left) : Type 0 where
  pub value : w ∷ [] ≡ vint w64 z.n ∷ []
  pub fits : z.n < 2 ^ 64
  pub did : Did z
  pub length_first : length z.first ≡ length xs
  pub length_second : length z.second ≡ length ys

module _ {M : Type 1} {𝓤 : Ura M} (𝓛 : Logic 𝓤) (mem : Memory → SProp 𝓤) (run : Routine → Fun 𝓤) where
  -- the contracts that the proof cites
  abbrev WorkC : Contract 𝓤
  WorkC = triple_of 𝓛 work.signature (work.spec 𝓛 mem run)

  abbrev LiesC : Contract 𝓤
  LiesC = triple_of 𝓛 lies.signature (lies.spec 𝓛 mem run)

  abbrev PickC : Contract 𝓤
  PickC = triple_of 𝓛 pick.signature (pick.spec 𝓛 mem run)

module _ {M : Type 1} {𝓤 : Ura M} (𝓛 : Logic 𝓤) (mem : Memory → SProp 𝓤) (run : Routine → Fun 𝓤)
    (κ₀ κ₁ κ₂ κ₃ κ : Lft) (q₀ q₁ q₂ q₃ q : Shr) (bc oc : ℕ) (γc : GName) (c₀ : ℕ) (wx : Bor (List ℕ)) (g : Grid)
    (mx rx : Bor (List Float)) (ba oa : ℕ) (γa : GName) (xs : List Float) (bb ob : ℕ) (γb : GName) (ys : List Float) where
  -- ---- the arguments, their machine values, and what is owned of them
  open 𝓛 use {H}

  abbrev cx : MutBor ℕ
  cx = record { ref_ptr = (bc, oc); ghost_name = γc; now = c₀ }

  abbrev x : GName → List Float → MutBor (List Float)
  x δ l = record { ref_ptr = (ba, oa); ghost_name = δ; now = l }

  abbrev y : GName → List Float → MutBor (List Float)
  y δ l = record { ref_ptr = (bb, ob); ghost_name = δ; now = l }

  abbrev Args : Type 0
  Args = MutBor ℕ × (Bor (List ℕ) × (Grid × (Bor (List Float) ×
      (Bor (List Float) × (MutBor (List Float) × (MutBor (List Float) × Unit {0}))))))

  abbrev arg : GName → GName → Args
  arg δa δb = (cx, (wx, (g, (mx, (rx, (x δa xs, (y δb ys, tt)))))))

  abbrev vc : Val
  vc = vptr bc oc

  abbrev vw : Val
  vw = slice_val wx.ref_ptr (length wx.now)

  abbrev vg : Val
  vg = struct.val grid.the_type grid-laws.the_laws g

  abbrev vm : Val
  vm = slice_val mx.ref_ptr (length mx.now)

  abbrev vr : Val
  vr = slice_val rx.ref_ptr (length rx.now)

  abbrev va : Val
  va = slice_val (ba, oa) (length xs)

  abbrev vb : Val
  vb = slice_val (bb, ob) (length ys)

  abbrev Vals : Type 0
  Vals = List Val × (List Val × (List Val × (List Val × (List Val × (List Val × (List Val × Unit {0}))))))

  abbrev at : Vals
  at = (vc ∷ [], (vw ∷ [], (vg ∷ [], (vm ∷ [], (vr ∷ [], (va ∷ [], (vb ∷ [], tt)))))))

  abbrev κs : Lfts 5
  κs = (κ₀, (κ₁, (κ₂, (κ₃, (κ, tt)))))

  abbrev qs : Shares 5
  qs = (q₀, (q₁, (q₂, (q₃, (q, tt)))))

  abbrev ql : Shr
  ql = Share.left q

  abbrev qr : Shr
  qr = Share.right q

  abbrev Number : Item 𝓤
  Number = ‵ ((MutRef (named 0) κ₀ u32).own_val cx (vc ∷ []))

  -- what is had of the number once `work` has written it: its last value, and its borrow
  abbrev LastNumber : ℕ → Item 𝓤
  LastNumber k = ‵ (fsep (fres γc (u32.coded.code k)) (fbor κ₀ (Body (in_memory u32) bc oc γc)))

  abbrev Widths : Item 𝓤
  Widths = ‵ ((ShrSlice (named 1) κ₁ usize).own_val wx (vw ∷ []))

  abbrev TheGrid : Item 𝓤
  TheGrid = ‵ ((grid.the_row).own_val g (vg ∷ []))

  abbrev Model : Item 𝓤
  Model = ‵ ((ShrSlice (named 2) κ₂ f32).own_val mx (vm ∷ []))

  abbrev Row : Item 𝓤
  Row = ‵ ((ShrSlice (named 3) κ₃ f32).own_val rx (vr ∷ []))

  -- a work slice, for a time and under a name, and what is kept while it is lent again
  abbrev First : Lft → GName → List Float → Item 𝓤
  First t δ l = ‵ ((MutSlice (named 4) t f32).own_val (x δ l) (va ∷ []))

  abbrev Second : Lft → GName → List Float → Item 𝓤
  Second t δ l = ‵ ((MutSlice (named 4) t f32).own_val (y δ l) (vb ∷ []))

  abbrev FirstAgain : ℕ → GName → Item 𝓤
  FirstAgain ν δ = ‵ (LentAgain f32 κ (ν ∷ []) ql γa ba oa δ xs)

  abbrev SecondAgain : ℕ → GName → Item 𝓤
  SecondAgain ν δ = ‵ (LentAgain f32 κ (ν ∷ []) qr γb bb ob δ ys)

  -- what can be had twice
  abbrev Shared : Item 𝓤
  Shared = Widths ⊛ (TheGrid ⊛ (Model ⊛ Row))

  shared_twice : ent 𝓤 (mean 𝓛 Shared) (mean 𝓛 (Shared ⊛ Shared))
  shared_twice =
      qed 𝓛 (Shared ∷ []) ∵ split ! $
      use1 𝓛 (Widths ⊛ Widths) ((shr_slice_copy 𝓛 (named 1) κ₁ usize (uint_row_laws w64)).twice wx (vw ∷ [])) $ split ! $ move ! (2 ∷ []) $ split ! $
      use1 𝓛 (TheGrid ⊛ TheGrid) ((struct.copy grid.the_type grid-laws.the_copy 𝓛).twice g (vg ∷ [])) $ split ! $
      move ! (2 ∷ []) $ split ! $
      use1 𝓛 (Model ⊛ Model) ((shr_slice_copy 𝓛 (named 2) κ₂ f32 (float_row_laws binary32)).twice mx (vm ∷ [])) $ split ! $ move ! (2 ∷ []) $
      use1 𝓛 (Row ⊛ Row) ((shr_slice_copy 𝓛 (named 3) κ₃ f32 (float_row_laws binary32)).twice rx (vr ∷ [])) $ split ! $
      -- [row; row; model; model; grid; grid; widths; widths]
      move ! (6 ∷ 4 ∷ 2 ∷ 0 ∷ []) $ group ! 4 $ frame ! $ move ! (3 ∷ 2 ∷ 1 ∷ 0 ∷ []) $ done !

  -- the tokens that only `work` needs
  abbrev Quiet : Item 𝓤
  Quiet = ‵ (flft κ₀ q₀) ⊛ (‵ (flft κ₂ q₂) ⊛ ‵ (flft κ₃ q₃))

  abbrev Did : Left → Type 0
  Did z = Forwarded (net_of g) wx.now g mx.now rx.now xs ys z.number z.n z.first z.second

  abbrev Post : Val → SProp 𝓤
  Post = (walk_of 𝓛 forward.ended stayed (forward.clauses 𝓛 mem run)).post ((κs, qs, tt, arg γa γb, at), tt)

  -- ---- the call of `work`, for the times ν₁ and ν₂
  module _ (ν₁ ν₂ : ℕ) (δa δb : GName) where
    abbrev κs' : Lfts 6
    κs' = (κ₀, (κ₁, (κ₂, (κ₃, (ν₁ ∷ [], (ν₂ ∷ [], tt))))))

    abbrev qs' : Shares 6
    qs' = (q₀, (q₁, (q₂, (q₃, (full_share, (full_share, tt))))))

    abbrev Token₁ : Item 𝓤
    Token₁ = ‵ (flft (ν₁ ∷ []) full_share)

    abbrev Token₂ : Item 𝓤
    Token₂ = ‵ (flft (ν₂ ∷ []) full_share)

    abbrev to_work : (WorkC 𝓛 mem run).Ghost
    to_work = ((κs', qs', tt, arg δa δb, at), tt)

    abbrev Asks : List (Item 𝓤)
    Asks = Quiet ∷ ‵ (flft κ₁ q₁) ∷ Token₁ ∷ Token₂ ∷ Number ∷ Shared ∷
        First (ν₁ ∷ []) δa xs ∷ Second (ν₂ ∷ []) δb ys ∷ []

    goes_work : ent 𝓤 (⋆ 𝓛 Asks) ((WorkC 𝓛 mem run).pre to_work)
    goes_work =
        qed 𝓛 Asks ∵ suffices ! Entry (via 𝓤 (sep 𝓤 (emp 𝓤) Entry) (emp∗ 𝓤 Entry) (comm∗ 𝓤 (emp 𝓤) Entry)) $
        split ! $ move ! (1 ∷ []) $ split ! $ nothing ! $
        -- [true; κ₂; κ₃; κ₀; κ₁; ν₁; ν₂; number; shared; first; second]
        move ! (3 ∷ 4 ∷ 1 ∷ 2 ∷ 5 ∷ 6 ∷ 0 ∷ []) $ group ! 7 $ frame ! $
        move ! (1 ∷ []) $ split ! $ move ! (1 ∷ []) $ split ! $ move ! (1 ∷ []) $ split ! $ nothing ! $
        -- [true; model; row; grid; widths; number; first; second]
        move ! (5 ∷ 4 ∷ 3 ∷ 1 ∷ 2 ∷ 6 ∷ 7 ∷ 0 ∷ []) $ done !
      where
        Entry : SProp 𝓤
        Entry = on_entry 𝓛 work.signature κs' qs' (arg δa δb) at

    abbrev Has : Left → Item 𝓤
    Has z =
        Quiet ⊛ (‵ (flft κ₁ q₁) ⊛ (Token₁ ⊛ (Token₂ ⊛ (LastNumber z.number
        ⊛ (‵ (finally f32 δa z.first) ⊛ ‵ (finally f32 δb z.second))))))

    abbrev Gave : Val → Item 𝓤
    Gave w = later (some (λ (z : Left). given (Worked Did xs ys w z) (Has z)))

    -- the tokens as `work` hands them back, and the last values as its `ensures` binds them
    abbrev Tokens : Item 𝓤
    Tokens = ‵ (flft κ₀ q₀) ⊛ (‵ (flft κ₁ q₁) ⊛ (‵ (flft κ₂ q₂) ⊛ (‵ (flft κ₃ q₃) ⊛
        (Token₁ ⊛ (Token₂ ⊛ ‵ ftrue)))))

    abbrev Ensured : ℕ → SProp 𝓤
    Ensured n = ensured 𝓛 work.ended (work.clauses 𝓛 mem run) κs' (arg δa δb) tt n

    abbrev Lasts : Type 0
    Lasts = ℕ × (Unit {0} × (Unit {0} × (Unit {0} × (Unit {0} × (List Float × (List Float × Unit {0}))))))

    abbrev left : ℕ → Lasts → Left
    left n zs = record { n = n; number = zs.0; first = zs.1.1.1.1.1.0; second = zs.1.1.1.1.1.1.0 }

    gives_work : (w : Val) → ent 𝓤 ((WorkC 𝓛 mem run).post to_work w) (mean 𝓛 (Gave w))
    gives_work w =
        qed 𝓛 (raw ((WorkC 𝓛 mem run).post to_work w) ∷ []) ∵ updating ! $
        use1 𝓛 (later (some (λ (n : ℕ). (Tokens ⊛ ‵ (usize.own_val n (w ∷ []))) ⊛ raw (Ensured n)))) (id⊢ 𝓤 _) $ await ! tt $ picks ! (λ n.
        split ! $ move ! (1 ∷ []) $
        use1 𝓛 (some (λ (zs : Lasts). ‵ (lasts work.ended κs' (arg δa δb) zs) ⊛ raw (fact 𝓤 (Did (left n zs))))) (id⊢ 𝓤 _) $ picks ! (λ zs.
        split ! $ move ! (1 ∷ []) $ heard ! (Did (left n zs)) (λ e.
        -- [the last values; the tokens and the result]
        fsplit ! $ move ! (1 ∷ []) $ fsplit ! $ move ! (1 ∷ []) $ fsplit ! $ move ! (1 ∷ []) $ fsplit ! $ move ! (1 ∷ []) $ fsplit ! $
        move ! (1 ∷ []) $ fsplit ! $ fsplit ! $ fsplit ! $ move ! (1 ∷ []) $ feq_l ! (λ la. move ! (2 ∷ []) $ fsplit ! $
        fsplit ! $ fsplit ! $ move ! (1 ∷ []) $ feq_l ! (λ lb.
        -- [second; its borrow; true; first; its borrow; true for row, model, grid and widths; number; the tokens and the result]
        move ! (10 ∷ []) $ split ! $ move ! (1 ∷ []) $ peeks ! usize (Is usize) (shows 𝓛 usize) n (w ∷ []) (λ is.
        move ! (1 ∷ []) $ split ! $ move ! (1 ∷ []) $ split ! $ move ! (1 ∷ []) $ split ! $ move ! (1 ∷ []) $ split ! $
        move ! (1 ∷ []) $ split ! $ move ! (1 ∷ []) $ split ! $ move ! (6 ∷ 4 ∷ 3 ∷ []) $ group ! 3 $
        -- [quiet; ν₂; true; ν₁; κ₁; the result; second; its borrow; true; first; its borrow; true four times; number]
        at_once ! $ show ! (λ (z : Left). mean 𝓛 (given (Worked Did xs ys w z) (Has z))) (left n zs) $
        check ! (record { value = is.0; fits = is.1; did = e; length_first = la; length_second = lb }) $
        keep ! (0 ∷ 4 ∷ 3 ∷ 1 ∷ 15 ∷ 9 ∷ 6 ∷ []) $ done !))))))

  -- ---- the call of `lies_in_first`
  abbrev here : Bool
  here = in_first wx.now

  abbrev to_lies : (LiesC 𝓛 mem run).Ghost
  to_lies = (((κ₁, tt), (q₁, tt), tt, (wx, tt), (vw ∷ [], tt)), tt)

  goes_lies : ent 𝓤 (⋆ 𝓛 (‵ (flft κ₁ q₁) ∷ Shared ∷ [])) ((LiesC 𝓛 mem run).pre to_lies)
  goes_lies =
      qed 𝓛 (‵ (flft κ₁ q₁) ∷ Shared ∷ []) ∵
      suffices ! Entry (via 𝓤 (sep 𝓤 (emp 𝓤) Entry) (emp∗ 𝓤 Entry) (comm∗ 𝓤 (emp 𝓤) Entry)) $
      nothing ! $ move ! (1 ∷ 0 ∷ []) $ group ! 2 $ frame ! $ split ! $ nothing ! $ keep ! (1 ∷ 0 ∷ []) $ done !
    where
      Entry : SProp 𝓤
      Entry = on_entry 𝓛 lies.signature (κ₁, tt) (q₁, tt) (wx, tt) (vw ∷ [], tt)

  abbrev Told : Val → Item 𝓤
  Told w = later (given (w ∷ [] ≡ vbool here ∷ []) (‵ (flft κ₁ q₁)))

  abbrev LiesEnsured : Bool → SProp 𝓤
  LiesEnsured f = ensured 𝓛 lies.ended (lies.clauses 𝓛 mem run) (κ₁, tt) (wx, tt) tt f

  gives_lies : (w : Val) → ent 𝓤 ((LiesC 𝓛 mem run).post to_lies w) (mean 𝓛 (Told w))
  gives_lies w =
      qed 𝓛 (raw ((LiesC 𝓛 mem run).post to_lies w) ∷ []) ∵ updating ! $
      use1 𝓛 (later (some (λ (f : Bool). ((‵ (flft κ₁ q₁) ⊛ ‵ ftrue) ⊛ ‵ (Boolean.own_val f (w ∷ [])))
      ⊛ raw (LiesEnsured f)))) (id⊢ 𝓤 _) $
      await ! tt $ picks ! (λ f. split ! $ move ! (1 ∷ []) $
      use1 𝓛 (some (λ (zs : Unit {0} × Unit {0}). ‵ (lasts lies.ended (κ₁, tt) (wx, tt) zs) ⊛ raw (fact 𝓤 (f ≡ here)))) (id⊢ 𝓤 _) $
      picks ! (λ zs. split ! $ move ! (1 ∷ []) $ heard ! (f ≡ here) (λ e.
      move ! (1 ∷ []) $ split ! $ move ! (1 ∷ []) $ peeks ! Boolean (Is Boolean) (shows 𝓛 Boolean) f (w ∷ []) (λ is.
      move ! (1 ∷ []) $ split ! $ at_once ! $ check ! (is ∙ ap (λ (t : Bool). vbool t ∷ []) e) $ keep ! (0 ∷ []) $ done !))))

  -- ---- the call of `pick`
  abbrev Part : Val → Bor (List Float) → Item 𝓤
  Part w r = ‵ ((ShrSlice (named 4) κ f32).own_val r (w ∷ []))

  abbrev BothEnd : List Float → List Float → Item 𝓤
  BothEnd a b = ‵ (fsep (finally f32 γa a) (finally f32 γb b))

  module _ (z : Left) (n-fits : z.n < 2 ^ 64) where
    abbrev PickArgs : Type 0
    PickArgs = Bool × (ℕ × (MutBor (List Float) × (MutBor (List Float) × Unit {0})))

    abbrev picked : PickArgs
    picked = (here, (z.n, (x γa z.first, (y γb z.second, tt))))

    abbrev to_pick : (PickC 𝓛 mem run).Ghost
    to_pick = (((κ, tt), (q, tt), tt, picked, (vbool here ∷ [], (vint w64 z.n ∷ [], (va ∷ [], (vb ∷ [], tt))))), tt)

    abbrev Held : List (Item 𝓤)
    Held = ‵ (flft κ q) ∷ First κ γa z.first ∷ Second κ γb z.second ∷ []

    goes_pick : z.n ≤ length z.first → z.n ≤ length z.second → ent 𝓤 (⋆ 𝓛 Held) ((PickC 𝓛 mem run).pre to_pick)
    goes_pick ha hb =
        qed 𝓛 Held ∵ says ! (ha, hb) $ nothing ! $ move ! (1 ∷ 0 ∷ []) $ group ! 2 $ frame ! $ nothing ! $
        owned ! usize (Is usize) (uint_Makes 𝓛 w64) z.n _ (refl, n-fits) $
        owned ! Boolean (Is Boolean) (bool_Makes 𝓛) here _ refl $
        -- [whether it is the first; n; true; first; second]
        move ! (0 ∷ 1 ∷ 3 ∷ 4 ∷ 2 ∷ []) $ done !

    abbrev Fronts : Bor (List Float) → Type 0
    Fronts r = (r.now ≡ take z.n (cond here z.first z.second)) × (r.ref_ptr ≡ cond here (ba, oa) (bb, ob))

    abbrev Front : Val → Bor (List Float) → Item 𝓤
    Front w r = given (Fronts r) (‵ (flft κ q) ⊛ (Part w r ⊛ BothEnd z.first z.second))

    abbrev Got : Val → Item 𝓤
    Got w = later (some (λ (r : Bor (List Float)). Front w r))

    abbrev PickEnsured : Bor (List Float) → SProp 𝓤
    PickEnsured r = ensured 𝓛 pick.ended (pick.clauses 𝓛 mem run) (κ, tt) picked tt r

    abbrev PickLasts : Type 0
    PickLasts = Unit {0} × (Unit {0} × (Unit {0} × (Unit {0} × Unit {0})))

    gives_pick : (w : Val) → ent 𝓤 ((PickC 𝓛 mem run).post to_pick w) (mean 𝓛 (Got w))
    gives_pick w =
        qed 𝓛 (raw ((PickC 𝓛 mem run).post to_pick w) ∷ []) ∵ updating ! $
        use1 𝓛 (later (some (λ (r : Bor (List Float)). ((‵ (flft κ q) ⊛ ‵ ftrue) ⊛ Part w r) ⊛ raw (PickEnsured r)))) (id⊢ 𝓤 _) $
        await ! tt $ picks ! (λ r. split ! $ move ! (1 ∷ []) $
        use1 𝓛 (some (λ (zs : PickLasts). ‵ (lasts pick.ended (κ, tt) picked zs)
        ⊛ (BothEnd z.first z.second ⊛ raw (fact 𝓤 (Fronts r))))) (id⊢ 𝓤 _) $ picks ! (λ zs.
        split ! $ move ! (1 ∷ []) $ split ! $ move ! (1 ∷ []) $ heard ! (Fronts r) (λ e.
        -- [both end; the last values; the token and the part]
        move ! (2 ∷ []) $ split ! $ split ! $
        -- [the token; true; the part; both end; the last values]
        at_once ! $ show ! (λ (r : Bor (List Float)). mean 𝓛 (Front w r)) r $ check ! e $ keep ! (0 ∷ 2 ∷ 3 ∷ []) $ done !)))

  -- ---- the exit
  module _ (w : Val) (r : Bor (List Float)) (z : Left) where
    abbrev Out : List (Item 𝓤)
    Out =
        BothEnd z.first z.second ∷ Quiet ∷ ‵ (flft κ₁ q₁) ∷ ‵ (flft κ q) ∷ LastNumber z.number ∷ Shared
        ∷ Part w r ∷ []

    exits : (n-fits : z.n < 2 ^ 64) → Did z → Fronts z n-fits r → ent 𝓤 (⋆ 𝓛 Out) (Post w)
    exits n-fits k e =
        qed 𝓛 Out ∵ rewrite ! 0 (λ (l : List Float). BothEnd l z.second) k.first refl $
        rewrite ! 0 (λ (l : List Float). BothEnd first_is l) k.second refl $
        suffices ! _ (ends_at 𝓛 forward.ended stayed (forward.clauses 𝓛 mem run) ((κs, qs, tt, arg γa γb, at), tt) w r last
        (tt, (tt, (tt, (tt, (tt, (tt, (tt, tt)))))))) $
        suffices ! _ (assoc∗ 𝓤 Ex F (fact 𝓤 φ)) $ says ! said $ suffices ! _ (comm∗ 𝓤 F Ex) $ frame ! $
        split ! $ move ! (1 ∷ []) $ split ! $ nothing ! $
        -- [true; κ₂; κ₃; κ₀; κ₁; κ; number; shared; the part]
        move ! (3 ∷ 4 ∷ 1 ∷ 2 ∷ 5 ∷ 0 ∷ []) $ group ! 6 $ frame ! $
        move ! (1 ∷ []) $ split ! $ move ! (1 ∷ []) $ split ! $ move ! (1 ∷ []) $ split ! $ nothing ! $ nothing ! $ nothing ! $
        -- [true; true; true; model; row; grid; widths; number; the part]
        move ! (7 ∷ 6 ∷ 5 ∷ 3 ∷ 4 ∷ 0 ∷ 1 ∷ 2 ∷ []) $ group ! 8 $ frame ! $ done !
      where
        first_is : List Float
        first_is = forward_first (net_of g) wx.now g mx.now rx.now xs ys

        second_is : List Float
        second_is = forward_second (net_of g) wx.now g mx.now rx.now xs ys

        last : ℕ × (Unit {0} × (Unit {0} × (Unit {0} × (Unit {0} × (Unit {0} × (Unit {0} × Unit {0}))))))
        last = (z.number, (tt, (tt, (tt, (tt, (tt, (tt, tt)))))))

        Ex : SProp 𝓤
        Ex = on_exit 𝓛 forward.ended stayed κs qs at w r (arg γa γb) last

        F : SProp 𝓤
        F = mean 𝓛 (BothEnd first_is second_is)

        φ : Type 0
        φ = Handed (net_of g) wx.now g mx.now rx.now xs ys (ba, oa) (bb, ob) r.now r.ref_ptr z.number

        said : φ
        said = record {
          holds = e.0
              ∙ part_is (net_of g) wx.now g mx.now rx.now xs ys z.number z.n z.first z.second k;
          lies = e.1;
          number = k.number;
        }

  -- ---- the walk
  module _ (C : Calls 𝓤 H) (Λ : Loops 𝓤 H) (fm : FmC 𝓤 H 𝓛.laws C) (known : Triple 𝓤 (C #work) (WorkC 𝓛 mem run))
      (known₁ : Triple 𝓤 (C #lies) (LiesC 𝓛 mem run)) (known₂ : Triple 𝓤 (C #pick) (PickC 𝓛 mem run)) where
    abbrev Tokens₅ : Item 𝓤
    Tokens₅ = ‵ (flft κ₀ q₀) ⊛ (‵ (flft κ₁ q₁) ⊛ (‵ (flft κ₂ q₂) ⊛ (‵ (flft κ₃ q₃) ⊛ (‵ (flft κ q) ⊛ ‵ ftrue))))

    abbrev Owned : Item 𝓤
    Owned =
        ‵ (owns (MutRef (named 0) κ₀ u32 ∷ ShrSlice (named 1) κ₁ usize ∷ grid.the_row ∷ ShrSlice (named 2) κ₂ f32
        ∷ ShrSlice (named 3) κ₃ f32 ∷ MutSlice (named 4) κ f32 ∷ MutSlice (named 4) κ f32 ∷ []) (arg γa γb) at)

    walk : Room usize (length wx.now) → Room f32 (length mx.now) → Room f32 (length rx.now) → Room f32 (length xs)
        → Room f32 (length ys) → Holds (has_ty grid-laws.mir vg) × WT vg → ent 𝓤 (on_entry 𝓛 forward.signature κs qs (arg γa γb) at)
        (WpFn 𝓤 H C Λ code.function (vc ∷ vw ∷ vg ∷ vm ∷ vr ∷ va ∷ vb ∷ []) Post)
    walk rw' rm rr ra rb typed =
        qed 𝓛 (Tokens₅ ∷ Owned ∷ []) ∵
        move ! (1 ∷ []) $ fsplit ! $ move ! (1 ∷ []) $ fsplit ! $ move ! (1 ∷ []) $ fsplit ! $ move ! (1 ∷ []) $ fsplit ! $
        move ! (1 ∷ []) $ fsplit ! $ move ! (1 ∷ []) $ fsplit ! $ move ! (1 ∷ []) $ fsplit ! $
        move ! (8 ∷ []) $ split ! $ move ! (1 ∷ []) $ split ! $ move ! (1 ∷ []) $ split ! $ move ! (1 ∷ []) $ split ! $ move ! (1 ∷ []) $
        split ! $
        -- [κ; true; κ₃; κ₂; κ₁; κ₀; second; true; first; row; model; grid; widths; number]
        move ! (12 ∷ 11 ∷ 10 ∷ 9 ∷ []) $ group ! 4 $ use1 𝓛 (Shared ⊛ Shared) shared_twice $ split ! $
        use1 𝓛 (Shared ⊛ Shared) shared_twice $ split ! $
        move ! (8 ∷ 6 ∷ 5 ∷ []) $ group ! 3 $ move ! (4 ∷ []) $ use1 𝓛 (‵ (flft κ ql) ⊛ ‵ (flft κ qr)) (𝓛.lfts.lft_split κ q) $ split ! $
        -- [κl; κr; quiet; shared; shared; shared; true; κ₁; second; true; first; number]
        keep ! (0 ∷ 1 ∷ 2 ∷ 3 ∷ 4 ∷ 5 ∷ 7 ∷ 8 ∷ 10 ∷ 11 ∷ []) $
        enter ! C Λ code.function (vc ∷ vw ∷ vg ∷ vm ∷ vr ∷ va ∷ vb ∷ []) _ $
        alloc_all ! (λ l. pass_all ! refl (
          (tt, tt),
          (
            (tt, (tt, (record { fits = rw'.0 }, tt))),
            (
              typed,
              (
                (tt, (tt, (record { fits = rm.0 }, tt))),
                (
                  (tt, (tt, (record { fits = rr.0 }, tt))),
                  ((tt, (tt, (record { fits = ra.0 }, tt))), ((tt, (tt, (record { fits = rb.0 }, tt))), tt)),
                ),
              ),
            ),
          ),
        ) $
        -- the number and both slices are lent again: of a slice the pointer, then the slice
        sets ! (addr ! (through ! refl (stop !))) refl (tt, tt) $
        sets ! (addr ! (from ! (fld ! refl (hop ! (look_in_at ! 6 (sub ! 0 refl (whole !))) (stop !))))) refl (tt, tt) $
        sets ! (agg ! (and_then ! (get ! refl) (and_then ! (get_in ! (fld ! refl (stop !)) (sub ! 1 refl (whole !))) (no_more !))))
        refl (tt, (tt, (record { fits = ra.0 }, tt))) $
        sets ! (addr ! (from ! (fld ! refl (hop ! (look_in_at ! 7 (sub ! 0 refl (whole !))) (stop !))))) refl (tt, tt) $
        sets ! (agg ! (and_then ! (get ! refl) (and_then ! (get_in ! (fld ! refl (stop !)) (sub ! 1 refl (whole !))) (no_more !))))
        refl (tt, (tt, (record { fits = rb.0 }, tt))) $
        -- [κl; κr; quiet; shared; shared; shared; κ₁; second; first; number; the locals]
        lft_new ! tt (λ ν₁. move ! (9 ∷ 1 ∷ []) $
        use2 𝓛 (later (some (λ (δa : GName). First (ν₁ ∷ []) δa xs ⊛ FirstAgain ν₁ δa)))
        (lends_again f32 κ (ν₁ ∷ []) ql γa ba oa 𝓛 (named 4) (named 4) xs) $ await ! tt $ picks ! (λ δa. split ! $
        lft_new ! tt (λ ν₂. move ! (10 ∷ 4 ∷ []) $
        use2 𝓛 (later (some (λ (δb : GName). Second (ν₂ ∷ []) δb ys ⊛ SecondAgain ν₂ δb)))
        (lends_again f32 κ (ν₂ ∷ []) qr γb bb ob 𝓛 (named 4) (named 4) ys) $ await ! tt $ picks ! (λ δb. split ! $
        -- [lent second; second again; ν₂; lent first; first again; ν₁; quiet; shared; shared; shared; κ₁; number; the locals]
        move ! (6 ∷ 10 ∷ 5 ∷ 2 ∷ 11 ∷ 7 ∷ 3 ∷ 0 ∷ []) $ group ! 8 $
        use1 𝓛 (raw ((WorkC 𝓛 mem run).pre (to_work ν₁ ν₂ δa δb))) (goes_work ν₁ ν₂ δa δb) $
        -- [what `work` asks; second again; first again; shared; shared; the locals]
        calls_at ! fm (WorkC 𝓛 mem run) known (to_work ν₁ ν₂ δa δb)
        (and_then ! (get ! refl) (and_then ! (get ! refl) (and_then ! (get ! refl) (and_then ! (get ! refl) (and_then ! (get ! refl)
        (and_then ! (get ! refl) (and_then ! (get ! refl) (no_more !)))))))) (λ w.
        use1 𝓛 (Gave ν₁ ν₂ δa δb w) (gives_work ν₁ ν₂ δa δb w) $ await ! tt $ picks ! (λ z. learn ! (λ e.
        split ! $ move ! (1 ∷ []) $ split ! $ move ! (1 ∷ []) $ split ! $ move ! (1 ∷ []) $ split ! $ move ! (1 ∷ []) $ split ! $
        move ! (1 ∷ []) $ split ! $
        -- [first ends; second ends; number; ν₂; ν₁; κ₁; quiet; second again; first again; shared; shared; the locals]
        lands_as ! (ap only e.value) refl (tt, record { fits = e.fits }) $
        move ! (3 ∷ []) $ lft_end ! tt $ move ! (0 ∷ 7 ∷ 2 ∷ []) $ use3 𝓛 (later (Second κ γb z.second ⊛ ‵ (flft κ qr)))
        (comes_back f32 κ (ν₂ ∷ []) qr γb bb ob 𝓛 (named 4) (named 4) ys δb z.second rb e.length_second) $ await ! tt $ split ! $
        move ! (4 ∷ []) $ lft_end ! tt $ move ! (0 ∷ 7 ∷ 3 ∷ []) $ use3 𝓛 (later (First κ γa z.first ⊛ ‵ (flft κ ql)))
        (comes_back f32 κ (ν₁ ∷ []) ql γa ba oa 𝓛 (named 4) (named 4) xs δa z.first ra e.length_first) $ await ! tt $ split ! $
        move ! (1 ∷ 3 ∷ []) $ use2 𝓛 (‵ (flft κ q)) (𝓛.lfts.lft_join κ q) $
        -- [κ; first; second; number; κ₁; quiet; shared; shared; the locals]
        move ! (4 ∷ 6 ∷ []) $ use2 𝓛 (raw ((LiesC 𝓛 mem run).pre to_lies)) goes_lies $
        calls_at ! fm (LiesC 𝓛 mem run) known₁ to_lies (and_then ! (get ! refl) (no_more !)) (λ w₁.
        use1 𝓛 (Told w₁) (gives_lies w₁) $ await ! tt $ learn ! (λ e₁.
        -- [κ₁; κ; first; second; number; quiet; shared; the locals]
        lands_as ! (ap only e₁) refl (tt, tt) $
        sets ! (addr ! (from ! (fld ! refl (hop ! (look_in_at ! 6 (sub ! 0 refl (whole !))) (stop !))))) refl (tt, tt) $
        sets ! (agg ! (and_then ! (get ! refl) (and_then ! (get_in ! (fld ! refl (stop !)) (sub ! 1 refl (whole !))) (no_more !))))
        refl (tt, (tt, (record { fits = ra.0 }, tt))) $
        sets ! (addr ! (from ! (fld ! refl (hop ! (look_in_at ! 7 (sub ! 0 refl (whole !))) (stop !))))) refl (tt, tt) $
        sets ! (agg ! (and_then ! (get ! refl) (and_then ! (get_in ! (fld ! refl (stop !)) (sub ! 1 refl (whole !))) (no_more !))))
        refl (tt, (tt, (record { fits = rb.0 }, tt))) $
        move ! (1 ∷ 2 ∷ 3 ∷ []) $ use3 𝓛 (raw ((PickC 𝓛 mem run).pre (to_pick z e.fits)))
        (goes_pick z e.fits e.did.within_first e.did.within_second) $
        -- [what `pick` asks; κ₁; number; quiet; shared; the locals]
        calls_at ! fm (PickC 𝓛 mem run) known₂ (to_pick z e.fits)
        (and_then ! (get ! refl) (and_then ! (get ! refl) (and_then ! (get ! refl) (and_then ! (get ! refl) (no_more !))))) (λ w₂.
        use1 𝓛 (Got z e.fits w₂) (gives_pick z e.fits w₂) $ await ! tt $ picks ! (λ r. learn ! (λ e₂. split ! $ move ! (1 ∷ []) $
        split ! $
        -- [part; both end; κ; κ₁; number; quiet; shared; the locals]
        peeks ! (ShrSlice (named 4) κ f32) (Is (ShrSlice (named 4) κ f32)) (shows 𝓛 (ShrSlice (named 4) κ f32)) r (w₂ ∷ []) (λ is.
        lands_as ! refl refl ((shr_slice_Lawful 𝓛 (named 4) κ f32).typed r _ is).0 $
        returns ! (look_at ! 0 refl) $ free_all ! refl $
        keep ! (1 ∷ 5 ∷ 3 ∷ 2 ∷ 4 ∷ 6 ∷ 0 ∷ []) $ by ! (exits w₂ r z e.fits e.did e₂)))))))))))))))

pub forward_spec : {M : Type 1} → stated.statement M
forward_spec 𝓤 𝓛 𝓜 𝓡 wired =
    let 𝓣 = tables 𝓤 𝓛.H 𝓜 𝓡 𝓡.env in
    proved 𝓛 forward.ended stayed (forward.clauses 𝓛 𝓜.mem 𝓡.returns) 𝓜 𝓡 (
      Goes-gave_ref 𝓛 5 0 tt (plain (λ _. u32)),
      (
        Goes-none_slice 𝓛 5 (1 ∷ []) tt (plain (λ _. usize)) yes,
        (
          Goes-none 𝓛 5 (λ _. grid.the_row) yes (λ κs x f. refl),
          (
            Goes-none_slice 𝓛 5 (2 ∷ []) tt (plain (λ _. f32)) yes,
            (
              Goes-none_slice 𝓛 5 (3 ∷ []) tt (plain (λ _. f32)) yes,
              (Goes-spent_slice 𝓛 5 (4 ∷ []) tt (plain (λ _. f32)), (Goes-spent_slice 𝓛 5 (4 ∷ []) tt (plain (λ _. f32)), tt)),
            ),
          ),
        ),
      ),
    )
    #forward code.function (code.unfolded 𝓤 𝓛.H 𝓜 𝓡 wired)
    (λ κs. (
      mut_vals,
      (
        shr_slice_vals,
        (
          struct.vals grid.the_type grid-laws.the_laws,
          (shr_slice_vals, (shr_slice_vals, (mut_slice_vals, (mut_slice_vals, tt)))),
        ),
      ),
    ))
    (λ κs. (
      mut_Tells (named 0) κs.0 u32,
      (
        shr_slice_Tells (named 1) κs.1.0 usize,
        (
          struct.tells grid.the_type grid-laws.the_laws,
          (
            shr_slice_Tells (named 2) κs.1.1.0 f32,
            (
              shr_slice_Tells (named 3) κs.1.1.1.0 f32,
              (mut_slice_Tells (named 4) κs.1.1.1.1.0 f32, (mut_slice_Tells (named 4) κs.1.1.1.1.0 f32, tt)),
            ),
          ),
        ),
      ),
    ))
    (λ κs qs bounds a g are. via 𝓤 _ (fst∗ 𝓤 _ (emp 𝓤)) (walk 𝓛 𝓜.mem 𝓡.returns
    κs.0 κs.1.0 κs.1.1.0 κs.1.1.1.0 κs.1.1.1.1.0 qs.0 qs.1.0 qs.1.1.0 qs.1.1.1.0 qs.1.1.1.1.0
    a.0.ref_ptr.0 a.0.ref_ptr.1 a.0.ghost_name a.0.now a.1.0 a.1.1.0 a.1.1.1.0 a.1.1.1.1.0
    a.1.1.1.1.1.0.ref_ptr.0 a.1.1.1.1.1.0.ref_ptr.1 a.1.1.1.1.1.0.ghost_name a.1.1.1.1.1.0.now
    a.1.1.1.1.1.1.0.ref_ptr.0 a.1.1.1.1.1.1.0.ref_ptr.1 a.1.1.1.1.1.1.0.ghost_name a.1.1.1.1.1.1.0.now
    𝓣.C 𝓣.Λ (framed 𝓤 𝓛.H 𝓜 𝓣)
    (work-thm.met 𝓤 𝓛 𝓜 𝓡 (code.calls-forward::work 𝓡.env wired))
    (lies-thm.met 𝓤 𝓛 𝓜 𝓡 (code.calls-forward::lies_in_first 𝓡.env wired))
    (pick-thm.met 𝓤 𝓛 𝓜 𝓡 (code.calls-either_front::pick 𝓡.env wired))
    are.1.0.0.1 are.1.1.1.0.0.1 are.1.1.1.1.0.0.1 are.1.1.1.1.1.0.0.1 are.1.1.1.1.1.1.0.0.1
    ((struct.lawful grid.the_type grid-laws.the_laws 𝓛).typed a.1.1.0 _ are.1.1.0).0))
