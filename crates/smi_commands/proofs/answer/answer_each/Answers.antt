use Rattle.std.proofs.Common.{◌≡◌, ℕ, ◌+◌, ◌-◌, ◌*◌, List, ◌++◌, length, take, drop, Ok, arith, sym, ap, subst, ◌∙◌}
use Rattle.std.proofs.lemmas.List.{length-drop, length-take, drop-drop}
use Rattle.std.proofs.lemmas.Slice.{take-put_mid}
use Rattle.std.proofs.Math.Seq.{take-add}
use Rattle.smi_commands.specs.Keeper.{answer_to}
use Rattle.smi_commands.proofs.Going.{Leads, Tells, leads_on, tells_on}
use Rattle.smi_commands.proofs.answer.answer_each.Goals as goal
use borrow.Rule.Slice.PartMut.{put_mid, same_len_mid}

pub pieces-preserved : goal.pieces-preserved
pieces-preserved c =
    let f = c.pieces.count * 44 in
    let bytes = c.args.bytes.now in
    let told = c.pieces.told in
    let q = c.copy_from_slice.new.self in
    let long = c.pieces.invariant.long in
    let one : f + 44 - f ≡ 44 = omega arith in
    let here : answer_to c.pieces.keeper (take 44 (drop f bytes)) ≡ Ok (c.answer.new.self, c.in-Ok.answer) =
    ap (λ (n : ℕ). answer_to c.pieces.keeper (take n (drop f bytes))) (sym one) ∙ c.in-Ok.ensures in
    let more = leads_on c.args.keeper.now c.pieces.keeper c.answer.new.self bytes (drop f bytes) (take f told)
    c.in-Ok.answer c.pieces.count (omega (arith, length-drop f bytes)) here c.pieces.invariant.leads in
    let next : (c.pieces.count + 1) * 44 ≡ f + 44 = omega arith in
    let rest_is : drop 44 (drop f bytes) ≡ drop ((c.pieces.count + 1) * 44) bytes = drop-drop 44 f bytes
    ∙ ap (λ (n : ℕ). drop n bytes) (sym next) in
    let size : length q ≡ 44 = c.copy_from_slice.ensures.len
    ∙ omega (arith, length-take (f + 44 - f) (drop f told), length-drop f told) in
    let told_is : take ((c.pieces.count + 1) * 44) (put_mid f (f + 44 - f) told q) ≡ take f told ++ c.in-Ok.answer =
    take-put_mid f (f + 44 - f) told q ((c.pieces.count + 1) * 44) (omega arith) (omega arith)
    ∙ ap (λ (t : List ℕ). take f told ++ t) c.copy_from_slice.ensures.after in
    let front_is : take ((c.pieces.count + 1) * 44) bytes ≡ take f bytes ++ take 44 (drop f bytes) =
    ap (λ (n : ℕ). take n bytes) next ∙ take-add f 44 bytes in
    let tells_more = tells_on c.args.keeper.now c.pieces.keeper c.answer.new.self (take f bytes) (take f told)
    (take 44 (drop f bytes)) c.in-Ok.answer (omega (arith, length-take 44 (drop f bytes), length-drop f bytes)) here
    c.pieces.invariant.tells in
    let tells : List ℕ → List ℕ → Type 0 = λ front t. Tells c.args.keeper.now front c.answer.new.self t in
    let leads : List ℕ → List ℕ → Type 0 = λ left t. Leads c.args.keeper.now bytes c.answer.new.self
    (c.pieces.count + 1) left t in
    record {
      long = same_len_mid f (f + 44 - f) told q c.copy_from_slice.ensures.len ∙ long;
      leads = subst (λ (t : List ℕ). leads t (take ((c.pieces.count + 1) * 44) (put_mid f (f + 44 - f) told q))) rest_is
          (subst (λ (t : List ℕ). leads (drop 44 (drop f bytes)) t) (sym told_is) more);
      tells = subst (λ (t : List ℕ). tells t (take ((c.pieces.count + 1) * 44) (put_mid f (f + 44 - f) told q)))
          (sym front_is) (subst (λ (t : List ℕ). tells (take f bytes ++ take 44 (drop f bytes)) t) (sym told_is)
          tells_more);
    }
