use Rattle.std.proofs.Common.{List, [], ◌∷◌, refl, IsSome}
use base.Fraction.{full_share}
use base.Fml.{ftrue, fat, froom, flft}
use mir.Raw.{raw as bare}
use mir.Syntax.{named}
use mir.Val.{Val, vptr, vstruct, vcons, vnil}
use contract.Monad.{fact}
use contract.Running.{tables}
use types.Kit.{‵, raw, ◌⊛◌, ◌$◌, ◌∵◌, !, qed, done, move, keep, drop, use1, split, join, fsplit, fsplit3, fjoin}
use types.Kit.{fjoin3, fpack, feq_i, rewrite, suffices, frame}
use denote.RawPtr.{RawPtr}
use denote.RattleType.{Valss}
use denote.Struct.Struct.{within}
use denote.Struct.Owning.{shape}
use types.Run.{and_then, no_more, enter, stop, fld, returns}
use types.ByLocal.{alloc_all, pass_all, free_all, look_at, get_in, take_at, give_at, get, sets}
use types.Part.{whole, sub, agg}
use denote.RattleType.{owns}
use denote.Memory.{lone}
use denote.RawPtr.{Ptr, block_ptr, ptr_val, in_a_block}
use denote.Ref.{MutRef, mut_vals, mut_Tells}
use denote.Signature.{plain}
use denote.Steps.{nothing, opens, closes, heard}
use denote.Triple.Walked.{Stays, walk_of, says, stay_dropped, Goes-dropped, stay_ref, Goes-ref, ends_at}
use Rattle.std.proofs.raw_atomic.Walks.{proved}
use Rattle.smi_watchers.specs.contracts.cells.Cells.empty as f
use Rattle.smi_watchers.proofs.cells.Cells.empty.Statement.{statement}
use Rattle.smi_watchers.proofs.cells.Cells.empty.Code as code
use Rattle.smi_watchers.specs.contracts.cells.Cells.{the_row as R}
use Rattle.smi_watchers.specs.contracts.cell.Spot.{the_row as P}
use Rattle.smi_watchers.specs.contracts.cell.Cell.{the_row as X}
use Rattle.smi_watchers.proofs.cell.Spot.TheLaws as place
use Rattle.smi_watchers.specs.Held.{found, without}
use Rattle.smi_watchers.specs.Memory.{cell_owns, cells_own}
use Rattle.smi_watchers.proofs.Memory.{cell_ty, cell_null, cell_room, some_of, take_out}
use Rattle.std_alloc.specs.contracts.room.vacant.Vacant as V
use Rattle.std_heap.specs.contracts.Global.{the_row as G}
use Rattle.std_heap.proofs.Global.TheLaws as global
use Rattle.std_heap.specs.contracts.GlobalAllocator.TheImpl.{ghosts}

abbrev stayed : Stays f.ended.signature.params f.ended.kept
stayed = (
  stay_ref (0 ∷ []) tt (plain (λ _. R)),
  (stay_dropped (plain (λ _. P)) f.ended.kept.1.0, (stay_dropped (plain (λ _. G)) f.ended.kept.1.1.0, tt)),
)

pub empty_spec : {M : Type 1} → statement M
empty_spec 𝓤 𝓛 𝓜 𝓡 wired =
    let c = f.clauses 𝓛 𝓜.mem 𝓡.returns in let W = walk_of 𝓛 f.ended stayed c in let 𝓣 = tables 𝓤 𝓛.H 𝓜 𝓡 𝓡.env in
    proved 𝓛 f.ended stayed c 𝓜 𝓡 (
      Goes-ref 𝓛 1 0 tt (plain (λ _. R)),
      (
        Goes-dropped 𝓛 1 (plain (λ _. P)) f.ended.kept.1.0 (λ κs x w. refl),
        (Goes-dropped 𝓛 1 (plain (λ _. G)) f.ended.kept.1.1.0 (λ κs x w. refl), tt),
      ),
    )
    f.Key.name code.function (code.unfolded 𝓤 𝓛.H 𝓜 𝓡 wired)
    (λ κs. (mut_vals, ((λ p. place.lowered p ∷ []), ((λ x. global.lowered x ∷ []), tt))))
    (λ κs. (mut_Tells (named 0) κs.0 R, (place.lowers.val_is, (global.lowers.val_is, tt)))) (λ κs qs bounds a g are.
    let b = a.0.ref_ptr.0 in let o = a.0.ref_ptr.1 in let h = a.0.now in let p = a.1.0.at in let x = a.1.1.0 in
    let vs = mut_vals a.0 in let ps = place.lowered a.1.0 ∷ [] in let xs = global.lowered x ∷ [] in
    let y : W.Ghost = ((κs, qs, bounds, a, (vs, (ps, (xs, tt)))), g) in
    let fits = ((global.the_row_laws.lawful 𝓛).typed x xs are.1.1.0).0 in
    qed 𝓛 (((‵ (flft κs.0 qs.0) ⊛ ‵ ftrue) ⊛ ‵ (owns (MutRef (named 0) κs.0 R ∷ P ∷ G ∷ []) a (vs, (ps, (xs, tt)))))
    ∷ raw (fact 𝓤 (IsSome (found p h.held))) ∷ []) ∵
    move ! (1 ∷ []) $ heard ! (IsSome (found p h.held))
    (λ here. split ! $ split ! $ move ! (2 ∷ []) $ fsplit ! $ move ! (1 ∷ []) $ fsplit ! $ drop ! $ fsplit ! $ keep
    ! (0 ∷ 2 ∷ 3 ∷ []) $
    enter ! _ _ _ _ _ $ alloc_all ! (λ l. pass_all ! refl
    ((tt, tt), (((place.the_row_laws.lawful 𝓛).typed a.1.0 ps are.1.0).0, (fits, tt))) $
    move ! (1 ∷ []) $ fsplit3 ! $ move ! (1 ∷ 2 ∷ 4 ∷ []) $ opens ! tt R b o
    (λ us. move ! (1 ∷ []) $ fsplit ! $ move ! (1 ∷ []) $
    let it = some_of (found p h.held) here in
    use1 𝓛 (‵ (cell_owns (p, it.0)) ⊛ ‵ (cells_own (without p h.held))) (take_out 𝓛 p h.held it.0 it.1) $ split ! $
    in_a_block ! p (λ (q : Ptr). cell_owns (q, it.0)) (cell_null 𝓛 it.0)
    (λ b' o' e. let q = block_ptr b' o' in let v = vstruct (vcons (vptr b' o') (vcons (global.lowered x) vnil)) in
    fsplit ! $
    use1 𝓛 (‵ (froom (bare cell_ty) b' o')) (cell_room 𝓛 it.0 b' o') $
    -- [the room; its token; the other cells; the fields; the struct's cell; the open borrow, in three; self's first
    -- part; what the argument owns]
    take_at ! 2 $ rewrite ! 0
    (λ (q : Ptr). ‵ (fat full_share (lone P.mir) (l 2) 0 (vstruct (vcons (ptr_val q) vnil)))) e refl $ give_at ! 2 $
    sets ! (agg ! (and_then ! (get_in ! (fld ! refl (stop !)) (sub ! 0 refl (whole !)))
    (and_then ! (get ! refl) (no_more !)))) refl (tt, (tt, (fits.1, tt))) $
    fjoin ! $ move ! (2 ∷ 1 ∷ []) $ fjoin ! $ move ! (2 ∷ 0 ∷ 3 ∷ 4 ∷ 5 ∷ []) $ closes ! tt R
    (record { held = without p h.held }) us b o $
    returns ! (look_at ! 0 refl) $ free_all ! refl $
    keep ! (5 ∷ 0 ∷ 1 ∷ 2 ∷ 3 ∷ []) $ nothing ! $ move ! (1 ∷ 0 ∷ []) $ fjoin ! $
    feq_i ! (List Val) (vptr b' o' ∷ []) (vptr b' o' ∷ []) refl $ fjoin ! $ feq_i ! (List Val) (v ∷ []) (v ∷ []) refl
    $ fjoin ! $
    fpack ! (Valss (RawPtr ∷ G ∷ [])) (within (shape (V.the_type X G ghosts)) (q, (x, tt)) (v ∷ []))
    (vptr b' o' ∷ [], (xs, tt)) $ move ! (0 ∷ 4 ∷ []) $ fjoin ! $
    suffices ! _ (ends_at 𝓛 f.ended stayed c y v (record { ptr = q; alloc = x })
    (record { held = without p h.held }, (tt, (tt, tt))) (tt, (tt, (tt, tt)))) $ says ! refl $ move !
    (1 ∷ 2 ∷ 3 ∷ []) $
    nothing ! $ move ! (3 ∷ 0 ∷ []) $ join ! $ frame ! $ feq_i ! (List Val) vs (vptr b o ∷ []) refl $ fjoin3 ! $
    nothing ! $ nothing ! $ fjoin ! $ nothing ! $ fjoin ! $ move ! (1 ∷ 0 ∷ []) $ fjoin ! $ done !)))))
