use Rattle.std.proofs.Common.{◌≡◌, ◌<◌, ◌≤◌, length, get_or, true, false, sym, ap, ◌∙◌, arith}
use Rattle.smi_rows.specs.Store.{Saved, same_key}
use Rattle.smi_rows.specs.Listed.{place_of}
use Rattle.smi_rows.proofs.Keys.{put-there, put-between}
use Rattle.smi_rows.proofs.memory.put.Goals as goal
use Rattle.smi_rows.proofs.memory.put.Goals.{else-place-len-via-then-place-len+else-is_same}
use Rattle.smi_rows.proofs.memory.put.Goals.{else-place-len-via-else-place-len}

pub returns-then-is_same-clause-ok : goal.returns-then-is_same-clause-ok
returns-then-is_same-clause-ok c =
    let rows = c.args.rows.now.items in
    let p = c.place_of-place.result in
    let found = c.index.result.now in
    let long = ap length c.deref.ensures.value in
    let within : p < length rows = omega (arith, c.deref.ensures.len, c.len.ensures, c.if-place-len.true) in
    let there : same_key (get_or rows p found).key c.args.key
    ≡ true = ap (λ (r : Saved). same_key r.key c.args.key) (sym c.index.ensures)
    ∙ ap (λ (r : Saved). same_key r.key c.args.key) (sym c.behind-rows.view_is) ∙ sym c.is_same.ensures
    ∙ c.if-is_same.true in
    put-there c.args.key c.args.bytes.items rows p found
    (c.place_of-place.ensures.place ∙ ap (place_of c.args.key) c.deref.ensures.value) within there

pub returns-clause-ok : goal.returns-clause-ok
returns-clause-ok c =
    let rows = c.args.rows.now.items in
    let p = c.place_of-place.result in
    let bytes = c.args.bytes.items in
    let place = c.place_of-place.ensures.place ∙ ap (place_of c.args.key) c.deref.ensures.value in
    c.in_ok-insert.ensures.items
    ∙ elim c.else-place-len.branch [
      | else-place-len-via-then-place-len+else-is_same w ↦
          let found = w.index.result.now in
          let other : same_key (get_or rows p found).key c.args.key
          ≡ false = ap (λ (r : Saved). same_key r.key c.args.key) (sym w.index.ensures)
          ∙ ap (λ (r : Saved). same_key r.key c.args.key) (sym w.behind-rows.view_is) ∙ sym w.is_same.ensures
          ∙ w.if-is_same.false in
          put-between c.args.key bytes rows p found place (λ l. other)
      | else-place-len-via-else-place-len w ↦
          let long = ap length c.deref.ensures.value in
          let past : length rows ≤ p = omega (arith, c.deref.ensures.len, c.len.ensures, w.if-place-len.false) in
          put-between c.args.key bytes rows p (record { key = c.args.key; bytes = bytes }) place
          (λ l. absurd (omega arith))
    ]
