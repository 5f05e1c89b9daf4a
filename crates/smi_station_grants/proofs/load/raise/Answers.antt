use Rattle.std.proofs.Common.{◌≡◌, ◌<◌, ◌+◌, ℕ, Bool, Ok, Err, false, ap, sym, ◌∙◌, arith}
use Rattle.std.specs.Prelude.{nat_le, if◌then◌else◌}
use Rattle.std.proofs.lemmas.Bool.Decides.{nat_tests}
use Rattle.smi_message.specs.Message.{last_boot}
use Rattle.smi_protocol.specs.Grants.{Grants}
use Rattle.smi_protocol.specs.declared.fault.OpenFault.TheVariants.{BootsSpent}
use Rattle.smi_station_grants.specs.GrantTable.{grants_of}
use Rattle.smi_station_grants.proofs.load.raise.Goals as goal

left : (n m : ℕ) → n ≡ m → n < last_boot → nat_le last_boot m ≡ false
left n m is less = grind (arith, nat_tests)

pub returns-clause-comes : goal.returns-clause-comes
returns-clause-comes c =
    let g = grants_of c.args.kept.now in
    ap (λ (b : Bool). if b then Err BootsSpent else Ok (record g { boot = g.boot + 1 }))
    (left c.boot-boot.result g.boot c.boot-boot.ensures c.if-boot-ge-LAST_BOOT.false)
    ∙ ap (λ (n : ℕ). Ok (record g { boot = n + 1 })) (sym c.boot-boot.ensures)
    ∙ ap (λ (k : Grants). Ok k) (sym c.put_boot.ensures.grants)
