use Rattle.std.proofs.Common.{◌∙◌, ◌<◌, ap, refl, arith}
use Rattle.smi_tree.specs.Name.{is_name_byte}
use Rattle.smi_tree.proofs.NameBytes.{name_bytes, tells-each}
use Rattle.smi_tree.proofs.name.is_name_byte.Goals as goal

pub returns : goal.returns
returns c =
    let within : c.from.result < 256 = omega (arith, c.from.ensures, c.ranges.byte.fits) in
    tells-each name_bytes c.from.result refl refl within ∙ ap is_name_byte c.from.ensures
