use Rattle.std.proofs.Common.{◌≡◌, ◌∙◌, ◌≤◌, List, ℕ, length, take, arith, sym, take_all}
use Rattle.std.proofs.lemmas.Slice.Eq.{bytes_eq-Decides}
use Rattle.smi_tree.proofs.text.is_same_text.Goals as goal

-- two texts whose bytes are the same up to their ends
same : (text other : List ℕ) (n : ℕ) → length text ≤ n → length other ≤ n → take n text ≡ take n other → text ≡ other
same text other n all also h = sym (take_all n text all) ∙ (h ∙ take_all n other also)

pub returns : goal.returns
returns c =
    let text = c.args.text.now in
    let other = c.args.other.now in
    sym ((bytes_eq-Decides text other).1 (same text other _ (omega arith) (omega arith) c.loop-place.invariant))
