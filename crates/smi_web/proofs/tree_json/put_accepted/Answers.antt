use Rattle.std.proofs.Common.{◌≡◌, ◌++◌, codes, subst, ◌∙◌, append_assoc}
use Rattle.smi_web.specs.TreeJson.{accept_text}
use Rattle.smi_web.specs.Json.{listed}
use Rattle.smi_web.proofs.tree_json.put_accepted.Goals as goal

-- the list is that of all actions
pub returns : goal.returns
returns c =
    let text = c.args.text.now.items in
    let before = codes ",\"accepts\":[" in
    let accept = accept_text c.args.tree.now c.args.domain in
    subst (λ n. c.put_list.new.text.items ≡ text ++ (before ++ listed (codes ",") accept n))
    c.action_count.ensures.value
    (c.in_ok-put_list.ensures ∙ append_assoc text before (listed (codes ",") accept c.action_count.result))
