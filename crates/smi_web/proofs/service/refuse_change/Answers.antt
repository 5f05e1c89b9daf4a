use Rattle.std.proofs.Common.{◌∙◌, refl}
use Rattle.std.proofs.lemmas.Result.{on_ok_weaker}
use Rattle.smi_web.proofs.service.refuse_change.Goals as goal

pub returns-clause-headers : goal.returns-clause-headers
returns-clause-headers c = on_ok_weaker c.fill_plain.result (λ e. e ∙ (rw (c.in_ok-add.ensures.headers) refl))
    c.fill_plain.ensures.headers

pub returns-clause-body : goal.returns-clause-body
returns-clause-body c = on_ok_weaker c.fill_plain.result (λ e. e ∙ (rw (c.add.ensures.body) refl))
    c.fill_plain.ensures.body
