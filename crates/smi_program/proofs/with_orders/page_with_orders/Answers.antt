use Rattle.std.proofs.Common.{◌≡◌, IfOk, subst}
use Rattle.smi_program.specs.Page.{with_orders}
use Rattle.smi_program.proofs.with_orders.page_with_orders.Goals as goal

-- what follows is the constant
pub returns : goal.returns
returns c =
    subst (λ orders. IfOk c.with_orders.result
    (λ text. text.items ≡ with_orders c.args.page.now c.args.key.now orders))
    c.as_bytes.ensures.value c.with_orders.ensures
