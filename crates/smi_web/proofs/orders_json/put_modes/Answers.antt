use Rattle.std.proofs.Common.{◌≡◌, ◌++◌, codes, length, ap, subst, ◌∙◌, append_assoc}
use Rattle.smi_web.specs.OrdersJson.{mode_text_at}
use Rattle.smi_web.specs.Json.{listed}
use Rattle.smi_web.proofs.orders_json.put_modes.Goals as goal

-- the list is that of all modes
pub returns : goal.returns
returns c =
    let text = c.args.text.now.items in
    let before = codes "],\"modes\":[" in
    let mode = mode_text_at c.args.relay.now in
    let count = c.mode_count-count.result in
    subst (λ n. c.put_list.new.text.items ≡ text ++ (before ++ listed (codes ",") mode n))
    (c.mode_count-count.ensures ∙ ap length c.modes.ensures.items)
    (c.in_ok-put_list.ensures ∙ append_assoc text before (listed (codes ",") mode count))
