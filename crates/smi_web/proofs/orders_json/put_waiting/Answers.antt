use Rattle.std.proofs.Common.{◌≡◌, ◌++◌, OnOk, List, ℕ, codes, ap, subst, ◌∙◌, append_assoc}
use Rattle.std.specs.Fmt.{decimal}
use Rattle.smi_web.specs.OrdersJson.{waiting_text}
use Rattle.smi_web.specs.Json.{flag}
use Rattle.smi_web.proofs.orders_json.put_waiting.Goals as goal

-- the four pieces, one after the other
pub returns : goal.returns
unfolding waiting_text
returns c =
    let text = c.args.text.now.items in
    let seconds = codes ",\"seconds\":" in
    let number = decimal c.args.seconds in
    let waits = codes ",\"waits\":" in
    let is = flag c.args.waits in
    subst (λ t. OnOk c.put_flag.result (c.put_flag.new.text.items ≡ t))
    (ap (λ (t : List ℕ). (t ++ waits) ++ is) (c.in_ok-put_number.ensures ∙ append_assoc text seconds number)
    ∙ ap (λ (t : List ℕ). t ++ is) (append_assoc text (seconds ++ number) waits)
    ∙ append_assoc text ((seconds ++ number) ++ waits) is)
    c.put_flag.ensures
