use Rattle.std.proofs.Common.{◌≡◌, List, [], ◌∷◌, refl, subst, IsSome}
use base.Fraction.{full_share}
use base.Logic.{fst∗, never}
use base.Fml.{ftrue, fat, flft}
use mir.Syntax.{named}
use mir.Val.{Val, vstruct, vcons, vnil}
use contract.Monad.{fact}
use contract.Running.{tables}
use types.Kit.{‵, raw, ◌⊛◌, at_ret, ◌$◌, ◌∵◌, !, qed, done, move, keep, drop, use1, split, join, fsplit, fjoin}
use types.Kit.{rewrite, suffices, frame}
use types.Run.{enter, from, load, look, of_opd, stop, fld, hop, first, blocks, exec, returns}
use types.ByLocal.{alloc_all, pass_all, free_all, look_at, look_in_at, take_at, give_at, get, sets, sets_last, env}
use types.Part.{whole, sub}
use denote.RattleType.{owns}
use denote.Memory.{lone, shared_of, cell_at}
use denote.Laws.{Is, Typed, shows}
use denote.Opens.{unhide, hide}
use denote.Struct.Lending.{lent_at}
use types.Logic.{sem}
use denote.RawPtr.{Ptr, ptr_val, in_a_block}
use denote.Ref.{ShrRef, shr_vals, shr_Tells}
use denote.Builtin.{RefOf}
use denote.Signature.{plain}
use denote.Steps.{nothing, looks, shuts, peeks, heard}
use denote.Triple.Walked.{Stays, walk_of, says, stay_dropped, Goes-dropped, ends_at}
use Rattle.std.proofs.raw_atomic.Walks.{proved}
use Rattle.smi_watchers.specs.contracts.cells.Cells.read as f
use Rattle.smi_watchers.proofs.cells.Cells.read.Statement.{statement}
use Rattle.smi_watchers.proofs.cells.Cells.read.Code as code
use Rattle.smi_watchers.specs.contracts.cells.Cells.{the_row as R}
use Rattle.smi_watchers.specs.contracts.cell.Spot.{the_row as P}
use Rattle.smi_watchers.specs.contracts.cell.Cell.{the_row as X}
use Rattle.smi_watchers.proofs.cell.Spot.TheLaws as place
use Rattle.smi_watchers.proofs.cell.Cell.TheLaws as cell
use Rattle.smi_watchers.specs.Held.{found}
use Rattle.smi_watchers.proofs.Memory.{cell_ty, some_of, lent_out}
use Rattle.std.proofs.VecSteps.Shapes.{after}

abbrev stayed : Stays f.ended.signature.params f.ended.kept
stayed = (
  stay_dropped (RefOf (0 ∷ []) tt (plain (λ _. R)) (λ _. tt)) f.ended.kept.0,
  (stay_dropped (plain (λ _. P)) f.ended.kept.1.0, tt),
)

pub read_spec : {M : Type 1} → statement M
read_spec {M = M} 𝓤 𝓛 𝓜 𝓡 wired =
    let c = f.clauses 𝓛 𝓜.mem 𝓡.returns in let W = walk_of 𝓛 f.ended stayed c in let 𝓣 = tables 𝓤 𝓛.H 𝓜 𝓡 𝓡.env in
    proved 𝓛 f.ended stayed c 𝓜 𝓡 (
      Goes-dropped 𝓛 1 (RefOf (0 ∷ []) tt (plain (λ _. R)) (λ _. tt)) f.ended.kept.0
          (λ κs x w. refl),
      (Goes-dropped 𝓛 1 (plain (λ _. P)) f.ended.kept.1.0 (λ κs x w. refl), tt),
    )
    f.Key.name code.function (code.unfolded 𝓤 𝓛.H 𝓜 𝓡 wired)
    (λ κs. (shr_vals, ((λ p. place.lowered p ∷ []), tt)))
    (λ κs. (shr_Tells (named 0) κs.0 R, (place.lowers.val_is, tt))) (λ κs qs bounds a g are.
    let b = a.0.ref_ptr.0 in let o = a.0.ref_ptr.1 in let h = a.0.now in let p = a.1.0.at in
    let vs = shr_vals a.0 in let ps = place.lowered a.1.0 ∷ [] in
    let y : W.Ghost = ((κs, qs, bounds, a, (vs, (ps, tt))), g) in
    qed 𝓛 (((‵ (flft κs.0 qs.0) ⊛ ‵ ftrue) ⊛ ‵ (owns (ShrRef (named 0) κs.0 R ∷ P ∷ []) a (vs, (ps, tt))))
    ∷ raw (fact 𝓤 (IsSome (found p h.held))) ∷ []) ∵
    move ! (1 ∷ []) $ heard ! (IsSome (found p h.held))
    (λ here. split ! $ split ! $ move ! (2 ∷ []) $ fsplit ! $ fsplit ! $ keep ! (1 ∷ 3 ∷ []) $
    enter ! _ _ _ _ _ $ alloc_all ! (λ l. pass_all ! refl
    ((tt, tt), (((place.the_row_laws.lawful 𝓛).typed a.1.0 ps are.1.0).0, tt)) $
    let it = some_of (found p h.held) here in let x = it.0 in
    unhide ! $ fsplit ! $ drop ! $
    use1 𝓛 (‵ (lent_at X p x κs.0)) (lent_out 𝓛 κs.0 p h.held x it.1) $
    in_a_block ! p (λ (q : Ptr). lent_at X q x κs.0) (fst∗ 𝓤 (never 𝓤) (sem 𝓛 (shared_of X x 0 0 κs.0))) (λ b' o' e.
    take_at ! 2 $ rewrite ! 0
    (λ (q : Ptr). ‵ (fat full_share (lone P.mir) (l 2) 0 (vstruct (vcons (ptr_val q) vnil)))) e refl $ give_at ! 2 $
    fsplit ! $ drop ! $ hide ! $
    looks ! tt X ((cell.the_row_copy.copied M 𝓤 𝓛).opens) x b' o'
    (λ part us. move ! (1 ∷ []) $ peeks ! X (Is X) (shows 𝓛 X) x us (λ is.
    let ex : us ≡ cell.lowered x ∷ [] = cell.lowers.val_is x us is in
    let fits = (subst (Typed X.mir) ex ((cell.the_row_laws.lawful 𝓛).typed x us is)).0 in
    rewrite ! 0 (λ (ws : List Val). ‵ (X.own_val x ws)) ex refl $ rewrite ! 1
    (λ (ws : List Val). ‵ (cell_at part X.mir ws b' o')) ex refl $
    use1 𝓛 (‵ (X.own_val x (cell.lowered x ∷ [])) ⊛ ‵ (X.own_val x (cell.lowered x ∷ [])))
    ((cell.the_row_copy.copies M 𝓤 𝓛).twice x (cell.lowered x ∷ [])) $ split ! $ move ! (2 ∷ 0 ∷ 3 ∷ []) $ use1 𝓛
    (‵ (fat part cell_ty b' o' (cell.lowered x))) (𝓛.laws.raw_at part cell_ty b' o' (cell.lowered x)) $
    -- [the cell; what it owns; the way back; a copy of what it owns]
    first ! $ blocks ! $
    sets_last ! (of_opd ! (load ! (from ! (fld ! refl (hop ! (look_in_at ! 2 (sub ! 0 refl (whole !))) (stop !))))
    (look ! 0 refl))) refl fits $
    exec ! 𝓣.C 𝓣.Λ (env code.Mir.locals l) (after 1 (code.function).body) (at_ret _ (W.post y)) $
    sets ! (of_opd ! (get ! refl)) refl fits $
    use1 𝓛 (‵ (cell_at part X.mir (cell.lowered x ∷ []) b' o')) (𝓛.laws.at_raw part cell_ty b' o' (cell.lowered x)) $
    shuts ! tt X part x (cell.lowered x ∷ []) b' o' $
    returns ! (look_at ! 0 refl) $ free_all ! refl $ keep ! (0 ∷ 1 ∷ []) $
    suffices ! _ (ends_at 𝓛 f.ended stayed c y (cell.lowered x) x (tt, (tt, tt)) (tt, (tt, tt))) $ says ! it.1 $
    nothing ! $ move ! (1 ∷ 0 ∷ []) $ join ! $ frame ! $ nothing ! $ nothing ! $ fjoin ! $ nothing ! $ fjoin ! $ done
    !))))))
