use Rattle.smi_station_output.proofs.datagrams.object_home.Goals as goal

pub returns-then-object-domains-clause-least : goal.returns-then-object-domains-clause-least
returns-then-object-domains-clause-least c =
    (c.number-tree.ensures.tree.lawful.domains.each _ _ c.domain.ensures).station.least

pub returns-then-object-domains-clause-most : goal.returns-then-object-domains-clause-most
returns-then-object-domains-clause-most c =
    (c.number-tree.ensures.tree.lawful.domains.each _ _ c.domain.ensures).station.most

pub domain-requires-2-clause-least : goal.domain-requires-2-clause-least
domain-requires-2-clause-least c =
    (c.number-tree.ensures.tree.lawful.devices.each _ _ c.device-device.ensures).domain.least

pub domain-requires-2-clause-most : goal.domain-requires-2-clause-most
domain-requires-2-clause-most c =
    (c.number-tree.ensures.tree.lawful.devices.each _ _ c.device-device.ensures).domain.most

pub returns-clause-least : goal.returns-clause-least
returns-clause-least c = (c.number-tree.ensures.tree.lawful.domains.each _ _ c.domain-2.ensures).station.least

pub returns-clause-most : goal.returns-clause-most
returns-clause-most c = (c.number-tree.ensures.tree.lawful.domains.each _ _ c.domain-2.ensures).station.most
