use Rattle.std.proofs.Common.{rules, ap, ◌≡◌, ◌∙◌}
use Rattle.std.specs.Map.{lookup}
use Rattle.std.specs.BTreeMap.{is_at}
use Rattle.std.specs.Ordering.{nat_cmp}
use Rattle.smi_view.proofs.LastRows.{entry_is}
use Rattle.smi_view.proofs.sheet.BoardCopy.shown.Goals as goal

pub returns : goal.returns
returns c =
    let found : c.copied.result ≡ lookup (is_at (nat_cmp c.args.object)) c.args.self.now.last.entries = search rules in
    found ∙ ap (λ es. lookup (is_at (nat_cmp c.args.object)) es) c.requires
    ∙ entry_is c.args.self.now.mark.seen.log c.args.object
