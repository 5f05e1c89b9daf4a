use Rattle.std.proofs.Common.{◌≡◌, ◌++◌, IfOk, subst}
use Rattle.smi_program.proofs.with_orders.page_with_style.Goals as goal

-- the text is the constant
pub returns : goal.returns
returns c =
    subst (λ page. IfOk c.joined.result (λ text. text.items ≡ page ++ c.args.style.now))
    c.as_bytes.ensures.value c.joined.ensures
