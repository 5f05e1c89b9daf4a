use Rattle.std.proofs.Common.{◌≡◌, ◌++◌, ◌-◌, length, ap, ◌∙◌}
use Rattle.std.specs.Int.{w16, to_be_bytes}
use Rattle.smi_rows.proofs.Appended.{on_ok, several-bytes}
use Rattle.smi_rows.proofs.layout.put_held.Goals as goal

pub returns-in_ok-extend_from_slice-in-len2-up : goal.returns-in_ok-extend_from_slice-in-len2-up
returns-in_ok-extend_from_slice-in-len2-up c =
    let pending = c.args.pending.now in
    let oldest = c.put_command-in-len2-up.new.row.items in
    let number : c.to_be_bytes.result ≡ to_be_bytes w16 (length pending - 1) = c.to_be_bytes.ensures
    ∙ ap (λ n. to_be_bytes w16 (n - 1)) c.len.ensures.value in
    on_ok c.put_commands.result c.put_commands.ensures
    (several-bytes c.args.row.now.items _ oldest _ _ c.args.domain c.args.mode c.args.epoch c.args.number pending
    c.as_slice-commands.result.now
    c.as_slice-commands.ensures c.in-len2-up.len_at_least c.in_ok-put_fixed-in-len2-up.ensures
    c.in_ok-put_command-in-len2-up.ensures (c.in_ok-extend_from_slice-in-len2-up.ensures.items
    ∙ ap (λ b. oldest ++ b) number))
