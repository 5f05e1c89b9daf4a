use Rattle.std.proofs.Common.{◌≡◌, ◌++◌, ◌∷◌, [], OnOk, subst}
use Rattle.http_server.specs.Response.{fields_of}
use Rattle.smi_web.proofs.service.add_named.Goals as goal

pub returns-clause-headers : goal.returns-clause-headers
returns-clause-headers c =
    subst (λ name. OnOk c.add.result (fields_of c.add.new.response
    ≡ fields_of c.args.response.now ++ (name, c.args.value.now) ∷ [])) c.from_static.ensures c.add.ensures.headers
