-- An account that is written twice.
use Rattle.std.proofs.Common.{ℕ, ◌≡◌, [], ap, ◌∙◌}
use Rattle.smi_protocol.specs.Grants.{put}
use Rattle.smi_protocol.proofs.Tables.{put_here}
use Rattle.smi_station_grants.proofs.Writes.{put_twice}
use Rattle.smi_audit.specs.Tables.{Account}
use Rattle.smi_audit.specs.Kept.{account_of}
use Rattle.smi_audit.specs.declared.grant_state.GrantState.{GrantState}

-- another state of a domain, of which nothing was ordered
pub cleared_state : (t u v : ℕ → Account) (d : ℕ) (r : GrantState) → u ≡ put t d (record (t d) { orders = [] })
    → v ≡ put u d (account_of r (u d).orders) → v ≡ put t d (account_of r [])
cleared_state t u v d r is then_ =
    let none : (u d).orders ≡ [] =
    ap (λ (w : ℕ → Account). (w d).orders) is
    ∙ ap (λ (a : Account). a.orders) (put_here t d (record (t d) { orders = [] })) in
    then_ ∙ ap (λ l. put u d (account_of r l)) none ∙ ap (λ w. put w d (account_of r [])) is
    ∙ put_twice t d (record (t d) { orders = [] }) (account_of r [])
