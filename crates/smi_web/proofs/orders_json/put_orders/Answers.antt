use Rattle.std.proofs.Common.{◌≡◌, ◌++◌, codes, length, ap, subst, ◌∙◌, append_assoc}
use Rattle.smi_web.specs.OrdersJson.{errand_text_at}
use Rattle.smi_web.specs.Json.{listed}
use Rattle.smi_web.proofs.orders_json.put_orders.Goals as goal

-- the list is that of all orders
pub returns : goal.returns
returns c =
    let text = c.args.text.now.items in
    let before = codes ",\"orders\":[" in
    let order = errand_text_at c.args.relay.now c.args.now in
    let count = c.count_of-count.result in
    subst (λ n. c.put_list.new.text.items ≡ text ++ (before ++ listed (codes ",") order n))
    (c.count_of-count.ensures ∙ ap length c.orders.ensures.items)
    (c.in_ok-put_list.ensures ∙ append_assoc text before (listed (codes ",") order count))
