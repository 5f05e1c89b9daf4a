use Rattle.std.proofs.Common.{◌≡◌, ◌++◌, codes, length, ap, subst, ◌∙◌, append_assoc}
use Rattle.smi_web.specs.OrdersJson.{alarm_text_at}
use Rattle.smi_web.specs.Json.{listed}
use Rattle.smi_web.proofs.orders_json.put_alarms.Goals as goal

-- the list is that of all alarms
pub returns : goal.returns
returns c =
    let text = c.args.text.now.items in
    let before = codes "],\"acknowledged\":[" in
    let alarm = alarm_text_at c.args.acknowledged.now in
    let count = c.alarm_count-count.result in
    subst (λ n. c.put_list.new.text.items ≡ text ++ (before ++ listed (codes ",") alarm n))
    (c.alarm_count-count.ensures ∙ ap length c.as_slice.ensures.items)
    (c.in_ok-put_list.ensures ∙ append_assoc text before (listed (codes ",") alarm count))
