-- `either_front::pick` meets its contract: a walk of its MIR, by hand, over what `choose` says. Both slices are shared
-- for all the time that they have left, so nothing is had of them at exit; what their names end as is said by the
-- `ensures` itself. Assumes nothing.
use mathlib.Core.Path.{◌≡◌, refl}
use mathlib.Core.Bool.{Bool, cond}
use Prim.Native.Nat.{ℕ, ◌≤◌, ◌<◌, ◌^◌}
use mathlib.Core.List.{List, [], ◌∷◌}
use lib.ListN.{length, take}
use lib.Ieee.{Float}
use seplogic.Ra.Ura.{Ura}
use mir.Syntax.{named, w64}
use mir.Val.{Val, vint, vbool}
use base.Logic.{SProp, ent, sep, id⊢, assoc∗, comm∗}
use base.Fml.{Lft, GName, Share, ftrue, flft, fsep}
use prog.Memory.{Memory}
use prog.Routine.{Routine}
use prog.Wp.{Calls, Loops, WpFn}
use types.Logic.{Logic, sem}
use contract.Monad.{Fun, fact}
use contract.Running.{tables}
use types.Kit.{Item, mean, ⋆, ‵, raw, given, ◌⊛◌, some, later, ◌$◌, ◌∵◌, !, qed, by, move, keep, drop, group, join}
use types.Kit.{use1, use2, use3, split, pick as picks, learn, check, fsplit, fjoin, suffices, frame, await, updating}
use types.Kit.{now as at_once, show, done}
use types.Run.{stop, hop, fld, from, addr, and_then, no_more, returns, enter}
use types.ByLocal.{alloc_all, pass_all, free_all, look_at, look_in_at, get, get_in, sets, lands_as}
use types.Part.{agg, whole, sub}
use sound.WpLaws.{FmC}
use denote.RattleType.{owns}
use denote.Laws.{Is, shows}
use denote.Plain.{uint_Makes, uint_vals, uint_Tells, bool_Makes, bool_vals, bool_Tells, Boolean}
use denote.Builtin.{f32, usize}
use denote.Ref.{Bor, MutBor}
use denote.Slice.{slice_val, finally, MutSlice, ShrSlice, mut_slice_vals, mut_slice_Tells, shr_slice_Lawful}
use denote.Signature.{plain, mut_slice_of}
use denote.Steps.{owned, peeks, heard, nothing}
use denote.Triple.Entry.{on_entry}
use denote.Triple.Spec.{triple_of}
use denote.Triple.Statement.{Contract, Triple}
use denote.Triple.Call.{calls_at}
use denote.Triple.Clauses.{ensured, lasts}
use denote.Triple.Table.{framed}
use denote.Triple.Walked.{on_exit, says, needs, Stays, stay_dropped, walk_of, Goes-dropped, Goes-spent_slice, ends_at}
use denote.Exit.{no, yes}
use Rattle.std.proofs.raw_atomic.Walks.{proved}
use Rattle.either_front.proofs.Shared.{shares}
use Rattle.either_front.specs.contracts.choose as choose
use Rattle.either_front.proofs.choose.Symbol.{name as #choose}
use Rattle.either_front.proofs.choose.Met as choose-thm
use Rattle.either_front.specs.contracts.pick.Key.{name as #pick}
use Rattle.either_front.specs.contracts.pick as pick
use Rattle.either_front.proofs.pick.Statement as stated
use Rattle.either_front.proofs.pick.Code as code

-- nothing is had of a parameter at exit: the first two are numbers, and the slices are spent
abbrev stayed : Stays (pick.ended).signature.params (pick.ended).kept
stayed = (
  stay_dropped (plain (λ _. Boolean)) yes,
  (
    stay_dropped (plain (λ _. usize)) yes,
    (
      stay_dropped (mut_slice_of (0 ∷ []) tt (plain (λ _. f32))) no,
      (stay_dropped (mut_slice_of (0 ∷ []) tt (plain (λ _. f32))) no, tt),
    ),
  ),
)

-- the contract that the proof cites
abbrev ChooseC : {M : Type 1} {𝓤 : Ura M} (𝓛 : Logic 𝓤) (mem : Memory → SProp 𝓤) (run : Routine → Fun 𝓤)
    → Contract 𝓤
ChooseC 𝓛 mem run = triple_of 𝓛 choose.signature (choose.spec 𝓛 mem run)

module _ {M : Type 1} {𝓤 : Ura M} (𝓛 : Logic 𝓤) (mem : Memory → SProp 𝓤) (run : Routine → Fun 𝓤) (κ : Lft)
    (q : Share) (f : Bool) (n : ℕ)
    (ba oa : ℕ) (γa : GName) (xs : List Float) (bb ob : ℕ) (γb : GName) (ys : List Float) (n-fits : n < 2 ^ 64) (wa : n ≤ length xs)
    (wb : n ≤ length ys) where
  open 𝓛 use {H, A}

  -- the two slices as they are lent
  abbrev lent_a : MutBor (List Float)
  lent_a = record { ref_ptr = (ba, oa); ghost_name = γa; now = xs }

  abbrev lent_b : MutBor (List Float)
  lent_b = record { ref_ptr = (bb, ob); ghost_name = γb; now = ys }

  -- and as they are shared
  abbrev shown_a : Bor (List Float)
  shown_a = record { ref_ptr = (ba, oa); now = xs }

  abbrev shown_b : Bor (List Float)
  shown_b = record { ref_ptr = (bb, ob); now = ys }

  abbrev va : Val
  va = slice_val (ba, oa) (length xs)

  abbrev vb : Val
  vb = slice_val (bb, ob) (length ys)

  abbrev at : List Val × (List Val × (List Val × (List Val × Unit {0})))
  at = (vbool f ∷ [], (vint w64 n ∷ [], (va ∷ [], (vb ∷ [], tt))))

  abbrev lent : Bool × (ℕ × (MutBor (List Float) × (MutBor (List Float) × Unit {0})))
  lent = (f, (n, (lent_a, (lent_b, tt))))

  abbrev shown : Bool × (ℕ × (Bor (List Float) × (Bor (List Float) × Unit {0})))
  shown = (f, (n, (shown_a, (shown_b, tt))))

  abbrev Post : Val → SProp 𝓤
  Post = (walk_of 𝓛 pick.ended stayed (pick.clauses 𝓛 mem run)).post (((κ, tt), (q, tt), tt, lent, at), tt)

  abbrev Ex : Val → Bor (List Float) → SProp 𝓤
  Ex w r = on_exit 𝓛 pick.ended stayed (κ, tt) (q, tt) at w r lent (tt, (tt, (tt, (tt, tt))))

  abbrev F : SProp 𝓤
  F = sem 𝓛 (fsep (finally f32 γa xs) (finally f32 γb ys))

  -- what a result r holds, and where it lies
  abbrev Said : Bor (List Float) → Type 0
  Said r = (r.now ≡ take n (cond f xs ys)) × (r.ref_ptr ≡ cond f (ba, oa) (bb, ob))

  abbrev Part : Val → Bor (List Float) → Item 𝓤
  Part w r = ‵ ((ShrSlice (named 0) κ f32).own_val r (w ∷ []))

  -- the exit, with a result r at the machine value w
  exits : (w : Val) (r : Bor (List Float)) → Said r
      → ent 𝓤 (sep 𝓤 F (sep 𝓤 (A.lft κ q) (sem 𝓛 ((ShrSlice (named 0) κ f32).own_val r (w ∷ []))))) (Post w)
  exits w r e =
      qed 𝓛 (‵ (fsep (finally f32 γa xs) (finally f32 γb ys)) ∷ ‵ (flft κ q) ∷ Part w r ∷ []) ∵
      suffices ! _ (ends_at 𝓛 pick.ended stayed (pick.clauses 𝓛 mem run)
      (((κ, tt), (q, tt), tt, lent, at), tt) w r (tt, (tt, (tt, (tt, tt)))) (tt, (tt, (tt, (tt, tt))))) $
      suffices ! _ (assoc∗ 𝓤 (Ex w r) F (fact 𝓤 (Said r))) $ says ! e $ suffices ! _ (comm∗ 𝓤 F (Ex w r)) $ frame ! $
      -- [the token; what the result owns]
      nothing ! $ move ! (1 ∷ 0 ∷ []) $ join ! $ frame ! $
      nothing ! $ nothing ! $ fjoin ! $ nothing ! $ fjoin ! $ nothing ! $ fjoin ! $ nothing ! $ fjoin ! $ frame ! $ done !

  -- a slice that is shared
  abbrev SharedA : Item 𝓤
  SharedA = ‵ ((ShrSlice (named 0) κ f32).own_val shown_a (va ∷ []))

  abbrev SharedB : Item 𝓤
  SharedB = ‵ ((ShrSlice (named 0) κ f32).own_val shown_b (vb ∷ []))

  -- ---- the call of `choose`
  abbrev to_choose : (ChooseC 𝓛 mem run).Ghost
  to_choose = (((κ, tt), (q, tt), tt, shown, at), tt)

  abbrev Held : List (Item 𝓤)
  Held = ‵ (flft κ q) ∷ SharedA ∷ SharedB ∷ []

  goes_choose : ent 𝓤 (⋆ 𝓛 Held) ((ChooseC 𝓛 mem run).pre to_choose)
  goes_choose =
      qed 𝓛 Held ∵ says ! (wa, wb) $ nothing ! $ move ! (1 ∷ 0 ∷ []) $ group ! 2 $ frame ! $ nothing ! $
      owned ! usize (Is usize) (uint_Makes 𝓛 w64) n _ (refl, n-fits) $
      owned ! Boolean (Is Boolean) (bool_Makes 𝓛) f _ refl $
      -- [whether it is the first; n; true; a; b]
      move ! (0 ∷ 1 ∷ 3 ∷ 4 ∷ 2 ∷ []) $ done !

  abbrev Got : Val → Item 𝓤
  Got w = later (some (λ (r : Bor (List Float)). given (Said r) (‵ (flft κ q) ⊛ Part w r)))

  abbrev Lasts : Type 0
  Lasts = Unit {0} × (Unit {0} × (Unit {0} × (Unit {0} × Unit {0})))

  gives_choose : (w : Val) → ent 𝓤 ((ChooseC 𝓛 mem run).post to_choose w) (mean 𝓛 (Got w))
  gives_choose w =
      qed 𝓛 (raw ((ChooseC 𝓛 mem run).post to_choose w) ∷ []) ∵ updating ! $
      use1 𝓛 (later (some (λ (r : Bor (List Float)). ((‵ (flft κ q) ⊛ ‵ ftrue) ⊛ Part w r)
      ⊛ raw (ensured 𝓛 choose.ended (choose.clauses 𝓛 mem run) (κ, tt) shown tt r)))) (id⊢ 𝓤 _) $
      await ! tt $ picks ! (λ r. split ! $ move ! (1 ∷ []) $
      use1 𝓛 (some (λ (zs : Lasts). ‵ (lasts choose.ended (κ, tt) shown zs) ⊛ raw (fact 𝓤 (Said r))))
      (id⊢ 𝓤 _) $ picks ! (λ zs. split ! $ move ! (1 ∷ []) $ heard ! (Said r) (λ e.
      -- [the last values; the token and the part]
      move ! (1 ∷ []) $ split ! $ split ! $
      -- [the token; true; the part; the last values]
      at_once ! $ show ! (λ (r : Bor (List Float)). mean 𝓛 (given (Said r) (‵ (flft κ q) ⊛ Part w r))) r $
      check ! e $ keep ! (0 ∷ 2 ∷ []) $ done !)))

  -- ---- the walk
  module _ (C : Calls 𝓤 H) (Λ : Loops 𝓤 H) (fm : FmC 𝓤 H 𝓛.laws C)
      (known : Triple 𝓤 (C #choose) (ChooseC 𝓛 mem run)) where
    walk : Is (MutSlice (named 0) κ f32) lent_a (va ∷ []) → Is (MutSlice (named 0) κ f32) lent_b (vb ∷ [])
        → ent 𝓤 (on_entry 𝓛 pick.signature (κ, tt) (q, tt) lent at)
        (WpFn 𝓤 H C Λ code.function (vbool f ∷ vint w64 n ∷ va ∷ vb ∷ []) Post)
    walk pa pb =
        qed 𝓛 ((‵ (flft κ q) ⊛ ‵ ftrue)
        ∷ ‵ (owns (Boolean ∷ usize ∷ MutSlice (named 0) κ f32 ∷ MutSlice (named 0) κ f32 ∷ []) lent at) ∷ []) ∵
        split ! $ move ! (2 ∷ []) $ fsplit ! $ drop ! $ fsplit ! $ drop ! $ fsplit ! $ move ! (1 ∷ []) $ fsplit ! $
        -- [b; true; a; the token; true]
        keep ! (2 ∷ 3 ∷ 0 ∷ []) $
        enter ! C Λ code.function (vbool f ∷ vint w64 n ∷ va ∷ vb ∷ []) _ $
        alloc_all ! (λ l. pass_all ! refl (
          (tt, tt),
          (
            (tt, record { fits = n-fits }),
            ((tt, (tt, (record { fits = pa.0.1.0 }, tt))), ((tt, (tt, (record { fits = pb.0.1.0 }, tt))), tt)),
          ),
        ) $
        -- &a[..], and &b[..]: the pointer of each, then the slice
        sets ! (addr ! (from ! (fld ! refl (hop ! (look_in_at ! 3 (sub ! 0 refl (whole !))) (stop !))))) refl (tt, tt) $
        sets ! (agg ! (and_then ! (get ! refl) (and_then ! (get_in ! (fld ! refl (stop !)) (sub ! 1 refl (whole !))) (no_more !))))
        refl (tt, (tt, (record { fits = pa.0.1.0 }, tt))) $
        sets ! (addr ! (from ! (fld ! refl (hop ! (look_in_at ! 4 (sub ! 0 refl (whole !))) (stop !))))) refl (tt, tt) $
        sets ! (agg ! (and_then ! (get ! refl) (and_then ! (get_in ! (fld ! refl (stop !)) (sub ! 1 refl (whole !))) (no_more !))))
        refl (tt, (tt, (record { fits = pb.0.1.0 }, tt))) $
        -- [a; the token; b; the locals]
        use2 𝓛 (later (SharedA ⊛ (‵ (finally f32 γa xs) ⊛ ‵ (flft κ q)))) (shares 𝓛 κ q ba oa γa xs) $ await ! tt $
        split ! $ move ! (1 ∷ []) $ split ! $
        -- [a ends; the token; shared a; b; the locals]
        move ! (3 ∷ 1 ∷ []) $
        use2 𝓛 (later (SharedB ⊛ (‵ (finally f32 γb ys) ⊛ ‵ (flft κ q)))) (shares 𝓛 κ q bb ob γb ys) $ await ! tt $
        split ! $ move ! (1 ∷ []) $ split ! $
        -- [b ends; the token; shared b; a ends; shared a; the locals]
        move ! (1 ∷ 4 ∷ 2 ∷ []) $ use3 𝓛 (raw ((ChooseC 𝓛 mem run).pre to_choose)) goes_choose $
        -- [what `choose` asks; b ends; a ends; the locals]
        calls_at ! fm (ChooseC 𝓛 mem run) known to_choose
        (and_then ! (get ! refl) (and_then ! (get ! refl) (and_then ! (get ! refl) (and_then ! (get ! refl) (no_more !))))) (λ w.
        use1 𝓛 (Got w) (gives_choose w) $ await ! tt $ picks ! (λ r. learn ! (λ e. split ! $
        move ! (1 ∷ []) $
        -- [the part; the token; b ends; a ends; the locals]
        peeks ! (ShrSlice (named 0) κ f32) (Is (ShrSlice (named 0) κ f32)) (shows 𝓛 (ShrSlice (named 0) κ f32)) r
        (w ∷ []) (λ is.
        lands_as ! refl refl ((shr_slice_Lawful 𝓛 (named 0) κ f32).typed r _ is).0 $
        returns ! (look_at ! 0 refl) $ free_all ! refl $
        keep ! (3 ∷ 2 ∷ 1 ∷ 0 ∷ []) $ fjoin ! $ by ! (exits w r e))))))

pub pick_spec : {M : Type 1} → stated.statement M
pick_spec 𝓤 𝓛 𝓜 𝓡 wired =
    let 𝓣 = tables 𝓤 𝓛.H 𝓜 𝓡 𝓡.env in
    proved 𝓛 pick.ended stayed (pick.clauses 𝓛 𝓜.mem 𝓡.returns) 𝓜 𝓡 (
      Goes-dropped 𝓛 1 (plain (λ _. Boolean)) yes (λ κs x f. refl),
      (
        Goes-dropped 𝓛 1 (plain (λ _. usize)) yes (λ κs x f. refl),
        (Goes-spent_slice 𝓛 1 (0 ∷ []) tt (plain (λ _. f32)), (Goes-spent_slice 𝓛 1 (0 ∷ []) tt (plain (λ _. f32)), tt)),
      ),
    )
    #pick code.function (code.unfolded 𝓤 𝓛.H 𝓜 𝓡 wired)
    (λ κs. (bool_vals, (uint_vals w64, (mut_slice_vals, (mut_slice_vals, tt)))))
    (λ κs. (bool_Tells, (uint_Tells w64, (mut_slice_Tells (named 0) κs.0 f32, (mut_slice_Tells (named 0) κs.0 f32, tt)))))
    (λ κs qs bounds a g are. needs 𝓤 _ _ (λ within. walk 𝓛 𝓜.mem 𝓡.returns κs.0 qs.0 a.0 a.1.0 a.1.1.0.ref_ptr.0
    a.1.1.0.ref_ptr.1 a.1.1.0.ghost_name a.1.1.0.now a.1.1.1.0.ref_ptr.0 a.1.1.1.0.ref_ptr.1 a.1.1.1.0.ghost_name a.1.1.1.0.now
    are.1.0.1 within.0 within.1 𝓣.C 𝓣.Λ (framed 𝓤 𝓛.H 𝓜 𝓣)
    (choose-thm.met 𝓤 𝓛 𝓜 𝓡 (code.calls-either_front::choose 𝓡.env wired)) are.1.1.0 are.1.1.1.0))
