use Rattle.std.proofs.Common.{◌≡◌, true, arith}
use Rattle.smi_base.specs.declared.trees.TheConstants.{MOST_DOMAINS}
use Rattle.smi_message.specs.Message.{is_domain}
use Rattle.smi_station_output.proofs.Sending.{between}
use Rattle.smi_station_output.proofs.datagrams.ask.Goals as goal

pub invariant_of-result : goal.invariant_of-result
invariant_of-result c =
    let tree = c.number.ensures.tree in
    let row = tree.lawful.domains.each _ _ c.domain-to.ensures in
    let inside : is_domain c.args.domain ≡ true = between 1 MOST_DOMAINS c.args.domain c.requires.domain.0
    (omega (arith, c.requires.domain.1, tree.lawful.domains.most)) in
    record {
      from = (c.requires.from.0, omega (arith, c.requires.from.1, tree.lawful.stations));
      to = (row.station.least, omega (arith, row.station.most, tree.lawful.stations));
      tree = (
        omega (arith, c.number.ensures.value, tree.number),
        omega (arith, c.number.ensures.value, tree.lawful.number),
      );
      body = inside;
    }
