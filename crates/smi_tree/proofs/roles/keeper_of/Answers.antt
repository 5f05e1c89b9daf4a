use Rattle.smi_tree.proofs.roles.keeper_of.Goals as goal

pub domain-requires-2-clause-least : goal.domain-requires-2-clause-least
domain-requires-2-clause-least c =
    (c.domain_count-domains.ensures.tree.lawful.devices.each _ c.device-device.result
    c.device-device.ensures).domain.least

pub domain-requires-2-clause-most : goal.domain-requires-2-clause-most
domain-requires-2-clause-most c =
    (c.domain_count-domains.ensures.tree.lawful.devices.each _ c.device-device.result
    c.device-device.ensures).domain.most
