use Rattle.std.proofs.Common.{List, [], ◌∷◌, refl, sym, IsSome}
use base.Fraction.{full_share}
use base.Fml.{ftrue, fat, flft}
use mir.Syntax.{named}
use mir.Val.{Val, vptr, vunit, vstruct, vcons, vnil}
use contract.Monad.{fact}
use contract.Running.{tables}
use types.Kit.{‵, raw, ◌⊛◌, some, at_ret, ◌$◌, ◌∵◌, !, qed, done, move, keep, drop, use1, use2, split, join, fsplit}
use types.Kit.{fsplit3, fjoin, fjoin3, feq_i, pick, rewrite, suffices, frame}
use types.Run.{enter, from, of_opd, unit_lit, store, stop, fld, hop, assigns_last, first, blocks, exec, returns}
use types.ByLocal.{alloc_all, pass_all, free_all, look_at, look_in_at, take_at, give_at, get, sets, env}
use types.Part.{whole, sub}
use denote.RattleType.{owns}
use denote.Memory.{lone, part_at}
use denote.RawPtr.{Ptr, ptr_val, in_a_block}
use denote.Ref.{MutRef, mut_vals, mut_Tells}
use denote.Signature.{plain}
use denote.Steps.{nothing, opens, closes, heard}
use denote.Triple.Walked.{Stays, walk_of, says, stay_dropped, Goes-dropped, stay_ref, Goes-ref, ends_at}
use Rattle.std.proofs.raw_atomic.Walks.{proved}
use Rattle.smi_watchers.specs.contracts.cells.Cells.write as f
use Rattle.smi_watchers.proofs.cells.Cells.write.Statement.{statement}
use Rattle.smi_watchers.proofs.cells.Cells.write.Code as code
use Rattle.smi_watchers.specs.contracts.cells.Cells.{the_row as R}
use Rattle.smi_watchers.specs.contracts.cell.Spot.{the_row as P}
use Rattle.smi_watchers.specs.contracts.cell.Cell.{the_row as X}
use Rattle.smi_watchers.proofs.cell.Spot.TheLaws as place
use Rattle.smi_watchers.proofs.cell.Cell.TheLaws as cell
use Rattle.smi_watchers.specs.Held.{found, without}
use Rattle.smi_watchers.specs.Memory.{cell_owns, cells_own}
use Rattle.smi_watchers.proofs.Memory.{cell_ty, cell_null, some_of, take_out, cell_out, cell_in}
use Rattle.std.proofs.VecSteps.Shapes.{after}

abbrev stayed : Stays f.ended.signature.params f.ended.kept
stayed = (
  stay_ref (0 ∷ []) tt (plain (λ _. R)),
  (stay_dropped (plain (λ _. P)) f.ended.kept.1.0, (stay_dropped (plain (λ _. X)) f.ended.kept.1.1.0, tt)),
)

pub write_spec : {M : Type 1} → statement M
write_spec 𝓤 𝓛 𝓜 𝓡 wired =
    let c = f.clauses 𝓛 𝓜.mem 𝓡.returns in let W = walk_of 𝓛 f.ended stayed c in let 𝓣 = tables 𝓤 𝓛.H 𝓜 𝓡 𝓡.env in
    proved 𝓛 f.ended stayed c 𝓜 𝓡 (
      Goes-ref 𝓛 1 0 tt (plain (λ _. R)),
      (
        Goes-dropped 𝓛 1 (plain (λ _. P)) f.ended.kept.1.0 (λ κs x w. refl),
        (Goes-dropped 𝓛 1 (plain (λ _. X)) f.ended.kept.1.1.0 (λ κs x w. refl), tt),
      ),
    )
    f.Key.name code.function (code.unfolded 𝓤 𝓛.H 𝓜 𝓡 wired)
    (λ κs. (mut_vals, ((λ p. place.lowered p ∷ []), ((λ x. cell.lowered x ∷ []), tt))))
    (λ κs. (mut_Tells (named 0) κs.0 R, (place.lowers.val_is, (cell.lowers.val_is, tt)))) (λ κs qs bounds a g are.
    let b = a.0.ref_ptr.0 in let o = a.0.ref_ptr.1 in let h = a.0.now in let p = a.1.0.at in let x = a.1.1.0 in
    let vs = mut_vals a.0 in let ps = place.lowered a.1.0 ∷ [] in let xs = cell.lowered x ∷ [] in
    let y : W.Ghost = ((κs, qs, bounds, a, (vs, (ps, (xs, tt)))), g) in
    qed 𝓛 (((‵ (flft κs.0 qs.0) ⊛ ‵ ftrue) ⊛ ‵ (owns (MutRef (named 0) κs.0 R ∷ P ∷ X ∷ []) a (vs, (ps, (xs, tt)))))
    ∷ raw (fact 𝓤 (IsSome (found p h.held))) ∷ []) ∵
    move ! (1 ∷ []) $ heard ! (IsSome (found p h.held))
    (λ here. split ! $ split ! $ move ! (2 ∷ []) $ fsplit ! $ move ! (1 ∷ []) $ fsplit ! $ drop ! $ fsplit ! $ keep
    ! (0 ∷ 2 ∷ 3 ∷ []) $
    enter ! _ _ _ _ _ $ alloc_all ! (λ l. pass_all ! refl (
      (tt, tt),
      (
        ((place.the_row_laws.lawful 𝓛).typed a.1.0 ps are.1.0).0,
        (((cell.the_row_laws.lawful 𝓛).typed x xs are.1.1.0).0, tt),
      ),
    ) $
    move ! (1 ∷ []) $ fsplit3 ! $ move ! (1 ∷ 2 ∷ 4 ∷ []) $ opens ! tt R b o
    (λ us. move ! (1 ∷ []) $ fsplit ! $ move ! (1 ∷ []) $
    let it = some_of (found p h.held) here in
    use1 𝓛 (‵ (cell_owns (p, it.0)) ⊛ ‵ (cells_own (without p h.held))) (take_out 𝓛 p h.held it.0 it.1) $ split ! $
    in_a_block ! p (λ (q : Ptr). cell_owns (q, it.0)) (cell_null 𝓛 it.0) (λ b' o' e. fsplit ! $
    use1 𝓛 (some (λ (w : Val). ‵ (fat full_share cell_ty b' o' w) ⊛ ‵ (X.own_val it.0 (w ∷ []))))
    (cell_out 𝓛 it.0 b' o') $ pick ! (λ w. split ! $ move ! (1 ∷ []) $ drop ! $
    -- [the cell; its token; the other cells; ..]
    take_at ! 2 $ rewrite ! 0
    (λ (q : Ptr). ‵ (fat full_share (lone P.mir) (l 2) 0 (vstruct (vcons (ptr_val q) vnil)))) e refl $ give_at ! 2 $
    first ! $ blocks ! $
    assigns_last ! (of_opd ! (get ! refl)) (from !
    (fld ! refl (hop ! (look_in_at ! 2 (sub ! 0 refl (whole !))) (stop !))))
    (store ! 0 refl (((cell.the_row_laws.lawful 𝓛).typed x xs are.1.1.0).0)) $
    exec ! 𝓣.C 𝓣.Λ (env code.Mir.locals l) (after 1 (code.function).body) (at_ret _ (W.post y)) $
    sets ! (of_opd ! (unit_lit !)) refl (tt, tt) $
    -- [the new cell; its token; the other cells; the fields; the struct's cell; the open borrow, in three; self's
    -- first part; what the argument owns]
    move ! (0 ∷ 9 ∷ []) $ use2 𝓛 (‵ (part_at X full_share x b' o')) (cell_in 𝓛 x b' o' (cell.lowered x)) $ fjoin ! $
    rewrite ! 0 (λ (q : Ptr). ‵ (cell_owns (q, x))) (sym e) refl $ fjoin ! $
    move ! (1 ∷ []) $ fjoin ! $ move ! (1 ∷ []) $ closes ! tt R (record { held = (p, x) ∷ without p h.held }) us b o $
    returns ! (look_at ! 0 refl) $ free_all ! refl $ keep ! (0 ∷ 1 ∷ 2 ∷ []) $
    suffices ! _ (ends_at 𝓛 f.ended stayed c y vunit tt (record { held = (p, x) ∷ without p h.held }, (tt, (tt, tt)))
    (tt, (tt, (tt, tt)))) $ says ! refl $
    nothing ! $ move ! (3 ∷ 0 ∷ []) $ join ! $ frame ! $ feq_i ! (List Val) vs (vptr b o ∷ []) refl $ fjoin3 ! $
    nothing ! $ nothing ! $ fjoin ! $ nothing ! $ fjoin ! $ move ! (1 ∷ 0 ∷ []) $ fjoin ! $
    feq_i ! (List Val) (vunit ∷ []) (vunit ∷ []) refl $ move ! (1 ∷ 0 ∷ []) $ done !))))))
