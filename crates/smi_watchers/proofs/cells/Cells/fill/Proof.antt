use Rattle.std.proofs.Common.{◌≡◌, List, [], ◌∷◌, ◌++◌, refl, ap, ◌∙◌, subst, None}
use base.Fraction.{full_share}
use base.Logic.{fst∗, never}
use base.Fml.{ftrue, fsep, froom, flft}
use mir.Raw.{raw as bare}
use mir.Syntax.{named}
use mir.Val.{Val, vptr, vstruct, of_list, vcons, vnil}
use contract.Running.{tables}
use types.Kit.{‵, ◌⊛◌, at_ret, ◌$◌, ◌∵◌, !, qed, done, move, keep, prop, regoal, feq_l, fpick, use1, use2, split}
use types.Kit.{join, fsplit, fsplit3, fjoin, fjoin3, fpack, feq_i, rewrite, suffices, frame}
use denote.RawPtr.{RawPtr}
use denote.RattleType.{Valss}
use denote.Struct.Struct.{within}
use base.Logic.{SProp}
use prog.Wp.{WpFn}
use Rattle.std.proofs.alloc.Calls.{Goes-blank}
use types.Run.{init, assigns_last, and_then, no_more, enter, of_opd, stop, fld, first, blocks, exec, returns}
use types.ByLocal.{alloc_all, pass_all, free_all, look_at, get_in, get, through, sets, env}
use types.Part.{whole, sub, agg}
use denote.RattleType.{owns, RattleType}
use denote.Memory.{part_at}
use denote.RawPtr.{Ptr, block_ptr, null_ptr, ptr_val, room_for, in_a_block}
use denote.Laws.{Is, Typed, shows}
use types.Logic.{sem}
use Rattle.smi_watchers.specs.Memory.{freeing}
use denote.Ref.{MutRef, mut_vals, mut_Tells}
use denote.Signature.{plain}
use denote.Steps.{nothing, peeks, opens, closes}
use denote.Triple.Walked.{Stays, walk_of, says, stay_dropped, Goes-dropped, stay_ref, Goes-ref, ends_at}
use Rattle.std.proofs.raw_atomic.Walks.{proved_at}
use Rattle.smi_watchers.specs.contracts.cells.Cells.fill as f
use Rattle.smi_watchers.proofs.cells.Cells.fill.Statement.{statement}
use Rattle.smi_watchers.proofs.cells.Cells.fill.Code as code
use Rattle.smi_watchers.specs.contracts.cells.Cells.{the_row as R}
use Rattle.smi_watchers.specs.contracts.cell.Spot.{the_type as place_type}
use denote.Struct.Declared as declared
use Rattle.smi_watchers.specs.contracts.cell.Cell.{the_row as X}
use Rattle.smi_watchers.proofs.cell.Cell.TheLaws as cell
use Rattle.smi_watchers.specs.Held.{found}
use Rattle.smi_watchers.proofs.Memory.{cell_ty, room_typed, fresh, knows, cell_in}
use Rattle.std.proofs.VecSteps.Shapes.{after}
use Rattle.std_alloc.specs.contracts.room.vacant.Vacant as V
use Rattle.std_heap.specs.contracts.Global.{the_row as G}
use Rattle.std_heap.proofs.Global.TheLaws as global
use Rattle.std_heap.specs.contracts.GlobalAllocator.TheImpl.{ghosts}

abbrev B : RattleType
B = V.the_row X G ghosts

abbrev stayed : Stays f.ended.signature.params f.ended.kept
stayed = (
  stay_ref (0 ∷ []) tt (plain (λ _. R)),
  (stay_dropped (plain (λ _. B)) f.ended.kept.1.0, (stay_dropped (plain (λ _. X)) f.ended.kept.1.1.0, tt)),
)

pub fill_spec : {M : Type 1} → statement M
fill_spec 𝓤 𝓛 𝓜 𝓡 wired =
    let c = f.clauses 𝓛 𝓜.mem 𝓡.returns in let W = walk_of 𝓛 f.ended stayed c in let 𝓣 = tables 𝓤 𝓛.H 𝓜 𝓡 𝓡.env in
    proved_at 𝓛 f.ended stayed c 𝓜 𝓡 (
      Goes-ref 𝓛 1 0 tt (plain (λ _. R)),
      (
        Goes-blank 𝓛 1 (plain (λ _. B)) f.ended.kept.1.0 (λ κs x w. tt),
        (Goes-dropped 𝓛 1 (plain (λ _. X)) f.ended.kept.1.1.0 (λ κs x w. refl), tt),
      ),
    )
    f.Key.name code.function (code.unfolded 𝓤 𝓛.H 𝓜 𝓡 wired) (λ z are.
    let κs = z.0.0 in let qs = z.0.1 in let a = z.0.3 in let vss = z.0.4 in let Post : Val → SProp 𝓤 = W.post z in
    let b = a.0.ref_ptr.0 in let o = a.0.ref_ptr.1 in let h = a.0.now in let r = a.1.0 in let x = a.1.1.0 in
    qed 𝓛 (((‵ (flft κs.0 qs.0) ⊛ ‵ ftrue) ⊛ ‵ (owns (MutRef (named 0) κs.0 R ∷ B ∷ X ∷ []) a vss)) ∷ ‵ ftrue ∷ []) ∵
    split ! $ split ! $ move ! (2 ∷ []) $ fsplit ! $ move ! (1 ∷ []) $ fsplit ! $ move ! (1 ∷ []) $ fsplit ! $ keep !
    (2 ∷ 0 ∷ 3 ∷ 4 ∷ []) $
    fsplit ! $ fpick ! (λ us'. fsplit ! $ feq_l !
    (λ ev. fsplit ! $ feq_l ! (λ ep. fsplit ! $ peeks ! G (Is G) (shows 𝓛 G) r.alloc us'.1.0
    (λ ig. keep ! (2 ∷ 3 ∷ 4 ∷ 5 ∷ []) $
    in_a_block ! r.ptr (λ (q : Ptr). fsep (room_for (bare cell_ty) q) (freeing (bare cell_ty) q))
    (fst∗ 𝓤 (never 𝓤) (sem 𝓛 (freeing (bare cell_ty) null_ptr))) (λ pb po e. fsplit ! $
    let q = block_ptr pb po in
    let eg : us'.1.0 ≡ global.lowered r.alloc ∷ [] = global.lowers.val_is r.alloc us'.1.0 ig in
    let fits = ((global.the_row_laws.lawful 𝓛).typed r.alloc us'.1.0 ig) in
    let e0 : vss.0 ≡ mut_vals a.0 = mut_Tells (named 0) κs.0 R a.0 vss.0 are.0 in
    let w = vstruct (vcons (vptr pb po) (vcons (global.lowered r.alloc) vnil)) in
    let e1 : vss.1.0 ≡ w ∷ [] = ev
    ∙ (λ i. vstruct (of_list ((ep ∙ ap (λ (k : Ptr). ptr_val k ∷ []) e) i ++ (eg i ++ []))) ∷ []) in
    let e2 : vss.1.1.0 ≡ cell.lowered x ∷ [] = cell.lowers.val_is x vss.1.1.0 are.1.1.0 in
    let xfits = (subst (Typed X.mir) e2 ((cell.the_row_laws.lawful 𝓛).typed x vss.1.1.0 are.1.1.0)).0 in
    let gfits = (subst (Typed G.mir) eg fits).0 in
    rewrite ! 2 (λ (ws : List Val). ‵ (X.own_val x ws)) e2 refl $
    regoal ! (λ (us : List Val). prop (WpFn 𝓤 𝓛.H 𝓣.C 𝓣.Λ code.function us Post))
    (λ i. e0 i ++ (e1 i ++ (e2 i ++ []))) refl $
    enter ! 𝓣.C 𝓣.Λ code.function _ _ $ alloc_all !
    (λ l. pass_all ! refl ((tt, tt), ((tt, (tt, (gfits.1, tt))), (xfits, tt))) $
    -- [the room; its token; the argument; self; the token of its lifetime]
    move ! (3 ∷ []) $ fsplit3 ! $ move ! (1 ∷ 2 ∷ 6 ∷ []) $ opens ! tt R b o
    (λ us. move ! (1 ∷ []) $ fsplit ! $ move ! (7 ∷ 1 ∷ []) $
    -- [the room; the cells; the fields; the struct's cell; the open borrow, in three; self's first part; the
    -- block's token; the argument]
    knows ! (found q h.held ≡ None) (fresh 𝓛 𝓜 q h.held) (λ new. use1 𝓛 (‵ (froom cell_ty pb po)) (room_typed 𝓛 pb po) $
    sets ! (of_opd ! (get_in ! (fld ! refl (stop !)) (sub ! 0 refl (whole !)))) refl (tt, tt) $ first ! $ blocks ! $
    assigns_last ! (of_opd ! (get ! refl)) (through ! refl (stop !)) (init ! 0 refl xfits) $
    exec ! 𝓣.C 𝓣.Λ (env code.Mir.locals l) (after 2 (code.function).body) (at_ret _ Post) $
    sets ! (agg ! (and_then ! (get ! refl) (no_more !))) refl (tt, (tt, tt)) $
    move ! (0 ∷ 9 ∷ []) $ use2 𝓛 (‵ (part_at X full_share x pb po)) (cell_in 𝓛 x pb po (cell.lowered x)) $ move !
    (0 ∷ 8 ∷ []) $ fjoin ! $ fjoin ! $
    move ! (1 ∷ []) $ fjoin ! $ move ! (1 ∷ []) $ closes ! tt R (record { held = (q, x) ∷ h.held }) us b o $
    returns ! (look_at ! 0 refl) $ free_all ! refl $ keep ! (0 ∷ 1 ∷ 2 ∷ []) $ let v = vstruct
    (vcons (vptr pb po) vnil) in
    nothing ! $ feq_i ! (List Val) (vptr pb po ∷ []) (vptr pb po ∷ []) refl $ fjoin ! $ feq_i ! (List Val) (v ∷ [])
    (v ∷ []) refl $ fjoin ! $
    fpack ! (Valss (RawPtr ∷ [])) (within (declared.shape place_type) (q, tt) (v ∷ [])) (vptr pb po ∷ [], tt) $
    suffices ! _ (ends_at 𝓛 f.ended stayed c z v (record { at = q })
    (record { held = (q, x) ∷ h.held }, (tt, (tt, tt))) (tt, (tt, (tt, tt)))) $ says ! (refl, new) $ move !
    (1 ∷ 2 ∷ 3 ∷ []) $
    nothing ! $ move ! (3 ∷ 0 ∷ []) $ join ! $ frame ! $ feq_i ! (List Val) vss.0 (vptr b o ∷ []) e0 $ fjoin3 ! $
    nothing ! $ nothing ! $ fjoin ! $ nothing ! $ fjoin ! $ move ! (1 ∷ 0 ∷ []) $ fjoin ! $ done !)))))))))
